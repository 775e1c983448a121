pub mod Events
pub mod Texts
pub mod Lines
pub mod Walks
pub mod Lists
pub mod Scripts
pub mod Refusals
pub mod Messages
