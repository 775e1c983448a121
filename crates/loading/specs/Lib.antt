pub mod Events
