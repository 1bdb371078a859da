pub mod Matrices
pub mod Parts
