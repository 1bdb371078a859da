pub mod Acos
pub mod Transformations
pub mod Values
