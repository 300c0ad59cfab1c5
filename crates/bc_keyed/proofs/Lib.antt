pub mod Came
pub mod Journal
pub mod Leaf
pub mod Leaves
pub mod Nowhere
pub mod Course
