pub mod WordLaws
pub mod KeyLaws
