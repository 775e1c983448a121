pub mod Cuts
pub mod Rows
pub mod Places
pub mod Verdicts
pub mod Held
pub mod Images
pub mod Every
