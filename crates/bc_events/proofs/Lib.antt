pub mod Machine
pub mod Plain
pub mod Names
pub mod Example
pub mod Collect
pub mod Keys
pub mod Firsts
