-- The laws of the meaning
--   Atoms: which numbers are atoms, and what a well-formed program's rules hold
--   Stages: how an atom enters a stage; the stages grow and end within n
--   LeastModel: the union of the stages is the least model, and the level of an atom is its first stage
--   Decided: stability is decided in n stages, with the smallest atom where set and least model differ
--   LevelNumberings: document 001's level numberings are the level numbers of stable models
-- Counters
--   Bits: the number of a row of bits, and the bits of a number
--   Counters: comparison chains and successors, over any width
--   Widths: the width by search, by the table and by leading zeros
-- From clauses to models, over any code
--   Reducts: how an atom enters a stage of a code's reduct
--   Numbered: level numberings and stable models
--   Gaps: the highest level; levels without gaps, and no more levels than true atoms
--   AllTrue: when all clauses of a list are true, part by part
--   Groups: the clauses of one rule or atom, as one truth value each
--   Meaning: what the clause list says, group by group
--   Pairs: which rule and body atom a pair is of
--   Correct: the clauses are true exactly if each variable has the value of a stable model
-- Over lists of values
--   Families: each variable from 1 to V is of one family
--   Filled: the values of the filled-out list
--   Theorem: the theorem, for every code that fits
--   Counts, Occurs: the number of clauses, and the variables in them
-- For document 01
--   Whole: its definitions are those of a code that fits
--   GroupMeanings: what each group of its clauses says
--   Base: the theorem for its definitions
pub mod Atoms
pub mod Stages
pub mod LeastModel
pub mod Decided
pub mod LevelNumberings
pub mod Bits
pub mod Counters
pub mod Widths
pub mod Reducts
pub mod Numbered
pub mod Gaps
pub mod AllTrue
pub mod Groups
pub mod Meaning
pub mod Pairs
pub mod Correct
pub mod Families
pub mod Filled
pub mod Theorem
pub mod Counts
pub mod Occurs
pub mod Whole
pub mod GroupMeanings
pub mod Base
