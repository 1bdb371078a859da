pub mod Stored
pub mod Same
pub mod Agree
pub mod Records
pub mod Damage
