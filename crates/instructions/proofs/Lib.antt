pub mod Masks
pub mod Signs
mod Formed
pub mod Inverse
