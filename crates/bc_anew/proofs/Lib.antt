pub mod Classes
pub mod Anew
pub mod Run
pub mod Law
