pub mod Walk
pub mod Loading
pub mod Seen
pub mod Tree
pub mod Rule
