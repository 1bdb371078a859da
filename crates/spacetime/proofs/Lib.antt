pub mod Urdf
pub mod SamePoint
