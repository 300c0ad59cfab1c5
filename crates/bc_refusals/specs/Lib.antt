pub mod Over
pub mod Made
pub mod Laws
pub mod Room
pub mod Lines
pub mod Runs
