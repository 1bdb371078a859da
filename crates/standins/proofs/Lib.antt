pub mod Size
pub mod Pth
