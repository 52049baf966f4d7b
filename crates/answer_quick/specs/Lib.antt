-- Quick: literals in their common form, and the buffer after them
pub mod Quick
