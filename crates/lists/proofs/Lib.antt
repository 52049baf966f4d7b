-- Bools: `So`, conjunction and disjunction
-- Tests: all, any, all_to, any_to, by places and over appended, mapped and joined lists
-- Tables: lengths and elements of tab, each and keep; sums
-- Cons: first elements and rests of equal lists
-- First: the first number that passes
-- Growing: a growing row of sets of the numbers 1 to n rests within n steps
-- Counting: how many of the numbers 1 to n pass a test
-- Highest: the highest of n values, and how many numbers it takes to reach each value up to it
pub mod Bools
pub mod Tests
pub mod Tables
pub mod Cons
pub mod First
pub mod Growing
pub mod Counting
pub mod Highest
