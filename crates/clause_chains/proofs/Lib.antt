-- Chains: the slots of group 5
pub mod Chains
