-- Numbers: number and spot of each refusal
pub mod Numbers
