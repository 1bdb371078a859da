pub mod Table
pub mod Lists
pub mod Changes
pub mod Asked
pub mod Steps
