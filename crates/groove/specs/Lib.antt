pub mod Vars
pub mod Loss
