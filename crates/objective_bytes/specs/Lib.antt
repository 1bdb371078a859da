pub mod ObjectiveCalls
pub mod ObjectiveLaws
pub mod Numbers
pub mod Weights
pub mod Ragged
pub mod LeftOut
pub mod Strict
