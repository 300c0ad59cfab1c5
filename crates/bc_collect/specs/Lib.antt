pub mod Collect
pub mod Spare
pub mod Next
pub mod Example
