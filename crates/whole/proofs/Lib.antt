pub mod Nearest
pub mod Raised
pub mod Result
