-- Literals: the size of a literal's number
-- Examples: document 01's starred examples, one table and one fact
-- Computed: facts that a wrong definition breaks, by an assignment that is lost or one too many
-- WrongTurns: document 01's wrong turns, each by the program that it gets wrong
pub mod Literals
pub mod Examples
pub mod Computed
pub mod WrongTurns
