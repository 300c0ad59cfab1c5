pub mod Slots
pub mod Search
pub mod Fetch
pub mod Lending
pub mod Stands
pub mod Copies
