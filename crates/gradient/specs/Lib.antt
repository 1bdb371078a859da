pub mod Slopes
pub mod Gradient
pub mod Ready
pub mod Made
