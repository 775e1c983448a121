pub mod Tests
pub mod Over
pub mod Lowest
pub mod Chains
pub mod Numbers
pub mod Parts
