pub mod Record
pub mod Laws
pub mod Numbers
pub mod Slope
pub mod Touched
