pub mod OneBlockCalls
pub mod OneBlockLaws
pub mod Numbers
pub mod Ragged
pub mod Planned
pub mod LeftOut
