pub mod View
pub mod Jacobian
pub mod Alike
