pub mod Pairs
pub mod Skip
