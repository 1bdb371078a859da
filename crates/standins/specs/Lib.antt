pub mod Num
pub mod Exact
pub mod Reduction
pub mod Series
pub mod Power
pub mod Cut
