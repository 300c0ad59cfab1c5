pub mod SetLaws
pub mod Deciders
pub mod Records
pub mod NodeSets
pub mod Example
