-- NextHeads: the next rule of an atom, and the slots between
pub mod NextHeads
