pub mod Code
pub mod Chain
pub mod ChainTurn
pub mod Read
pub mod Tool
