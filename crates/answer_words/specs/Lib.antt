-- Words: what the code answers about c lines, spaces and numbers
pub mod Words
