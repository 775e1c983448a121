pub mod Tables
pub mod Pages
pub mod Changes
pub mod Frames
pub mod Accesses
pub mod Rows
pub mod Laws
