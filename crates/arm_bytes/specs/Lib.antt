pub mod ArmCalls
pub mod ArmLaws
pub mod Blocks
pub mod Numbers
pub mod Ragged
pub mod Planned
pub mod Tools
