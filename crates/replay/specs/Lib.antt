pub mod Leaves
pub mod StrictLeaves
pub mod Cases
pub mod Tally
