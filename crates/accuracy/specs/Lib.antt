pub mod Error
pub mod Slack
pub mod Reduced
pub mod Answered
pub mod Joint
