-- NextHead: the next rule of an atom, and the slots without a literal
pub mod NextHead
