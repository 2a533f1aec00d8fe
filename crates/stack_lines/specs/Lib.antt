pub mod StackLines
