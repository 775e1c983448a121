pub mod Rounds
pub mod Packs
