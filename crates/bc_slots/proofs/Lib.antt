pub mod Passed
pub mod Filled
pub mod Steps
pub mod Loads
pub mod Made
pub mod Leaves
pub mod Calls
