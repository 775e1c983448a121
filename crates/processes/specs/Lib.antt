pub mod Tabled
pub mod Looking
pub mod Changes
pub mod Pipes
pub mod Laws
