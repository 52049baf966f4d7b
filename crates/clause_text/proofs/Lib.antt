-- Clause: the text of a clause, literal by literal
pub mod Clause
-- BlockLaws: the groups whose blocks are taken as a whole
pub mod BlockLaws
