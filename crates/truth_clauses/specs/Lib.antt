-- Truth: truth of clauses under an assignment of bytes
-- Standing: places on the way to the first false clause
pub mod Truth
pub mod Standing
