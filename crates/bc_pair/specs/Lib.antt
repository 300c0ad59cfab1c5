pub mod Runs
pub mod Records
pub mod Made
pub mod Causes
pub mod Found
pub mod Steps
