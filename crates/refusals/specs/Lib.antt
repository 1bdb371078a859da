pub mod Range
pub mod Lowest
pub mod Lengths
pub mod Refusal
pub mod Passed
pub mod Plain
pub mod Number
pub mod Rows
