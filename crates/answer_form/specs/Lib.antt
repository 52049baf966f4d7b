-- Answer: solver answers as bytes, and the texts that have the form
-- Machine: an automaton over bytes, with numbers for states
-- Automaton: the automaton of answers, one byte at a time
-- Pieces: the answer read piece by piece: status, literals, end
pub mod Answer
pub mod Machine
pub mod Automaton
pub mod Pieces
