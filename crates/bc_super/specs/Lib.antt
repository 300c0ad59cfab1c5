pub mod Super
pub mod Cache
pub mod Reading
pub mod Writing
pub mod Layout
pub mod Show
pub mod Division
