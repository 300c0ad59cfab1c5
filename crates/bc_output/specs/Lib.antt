pub mod Put
pub mod Status
pub mod Lines
pub mod Message
