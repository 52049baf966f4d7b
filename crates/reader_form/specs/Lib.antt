-- Automaton: one byte of a program text, from a place in the form
-- Numbers: the numbers of modes and actions
pub mod Automaton
pub mod Numbers
