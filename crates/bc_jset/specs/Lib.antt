pub mod EntryBytes
pub mod Fields
pub mod Example
pub mod Records
pub mod Entries
pub mod ExampleEntries
pub mod Ring
