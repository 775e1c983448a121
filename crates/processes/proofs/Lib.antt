pub mod Rows
pub mod Seeing
pub mod Changed
pub mod Begun
pub mod Called
pub mod Standing
pub mod Piped
