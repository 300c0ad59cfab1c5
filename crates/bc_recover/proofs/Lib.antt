pub mod Those
pub mod Told
pub mod Marked
pub mod Referred
pub mod Known
