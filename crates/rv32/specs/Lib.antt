pub mod Compute
pub mod Execute
pub mod Act
pub mod Steps
pub mod Programs
