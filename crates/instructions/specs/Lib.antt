pub mod Fields
pub mod Decode
pub mod Encode
pub mod Listing
