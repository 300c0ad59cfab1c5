pub mod EntryLaws
pub mod Deciders
pub mod Records
pub mod Entries
pub mod Journal
pub mod Ring
pub mod Example
pub mod ExampleEntries
