-- Judge: what reading a program's text comes to, number by number
-- Scan: the automaton alone
-- Breach: the breaches of rows 3 to 7, in the words of the table
-- Row: rows 1 to 7, and the first one met
-- FirstBytes: what the text has at the spots of its events and breaches
pub mod Judge
pub mod Scan
pub mod Breach
pub mod FirstBytes
pub mod Row
