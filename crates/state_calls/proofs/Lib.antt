pub mod InUse
pub mod Loaded
pub mod Tools
