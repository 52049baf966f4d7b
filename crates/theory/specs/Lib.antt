-- GroupMeaning: what the clauses of a group say of an atom, a pair or a rule
pub mod GroupMeaning
