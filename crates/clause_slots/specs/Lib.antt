-- SlotNumber: the number in a slot, and the variables of rules
pub mod SlotNumber
