pub mod Task
pub mod Laid
