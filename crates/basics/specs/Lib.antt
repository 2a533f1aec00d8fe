-- Words that the chapters of document 01 and the format of problems share. Nothing here is about tables or code.
pub mod Lists
pub mod Texts
pub mod Answers
pub mod Readings
