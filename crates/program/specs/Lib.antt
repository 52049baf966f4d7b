-- Arrays: the arrays of a program, and the program that arrays hold
pub mod Arrays
