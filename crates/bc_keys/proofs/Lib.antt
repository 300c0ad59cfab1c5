pub mod WordsAt
pub mod KeyLists
pub mod Readings
pub mod OnePointer
pub mod Deciders
