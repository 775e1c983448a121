pub mod Rings
pub mod Screens
