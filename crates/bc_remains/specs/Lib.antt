pub mod Means
pub mod Opens
pub mod Apart
pub mod Laws
pub mod Example
