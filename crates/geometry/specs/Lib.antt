pub mod Vector
pub mod Quaternion
pub mod Pose
pub mod Segment
pub mod Size
pub mod Matrix
