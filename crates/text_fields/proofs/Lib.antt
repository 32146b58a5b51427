mod DigitsRead
pub mod Joins
mod Padding
pub mod Readers
mod Words
