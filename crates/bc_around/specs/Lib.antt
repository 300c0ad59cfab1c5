pub mod Bare
pub mod Look
pub mod Owed
pub mod Past
pub mod Line
