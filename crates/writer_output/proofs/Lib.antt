-- Parts: the parts of the clause file, one after the other
-- Outputs: what is handed over, by the reader's answer
pub mod Parts
pub mod Outputs
