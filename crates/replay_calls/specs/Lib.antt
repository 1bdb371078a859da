pub mod Table
pub mod Arms
pub mod Objectives
pub mod Outputs
