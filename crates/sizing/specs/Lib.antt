pub mod Sizing
pub mod Planned
