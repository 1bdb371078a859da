pub mod Whole
pub mod Fits
pub mod Halves
pub mod Sizes
