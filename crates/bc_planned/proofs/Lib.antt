pub mod Shapes
pub mod Placing
pub mod Naming
