pub mod Collect
pub mod Spare
pub mod Reserve
pub mod Next
pub mod Runs
