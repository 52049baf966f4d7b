-- Program: programs as plain values
-- Stage: reduct, stages, stable models and level numbers
-- Numbering: models of definite rules, and document 001's level numberings
-- Gaps: levels without gaps
-- Samples: the starred programs, and sets as lists
pub mod Program
pub mod Stage
pub mod Numbering
pub mod Gaps
pub mod Samples
