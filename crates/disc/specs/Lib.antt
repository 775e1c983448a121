pub mod Blocks
pub mod Same
pub mod Writes
pub mod Layout
pub mod Plans
pub mod Lent
pub mod Check
pub mod Format
