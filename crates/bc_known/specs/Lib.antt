pub mod Acts
pub mod Asked
pub mod Run
pub mod Known
pub mod Laws
pub mod Collect
pub mod Workers
