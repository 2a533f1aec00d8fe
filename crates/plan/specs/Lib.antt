pub mod NoteBytes
