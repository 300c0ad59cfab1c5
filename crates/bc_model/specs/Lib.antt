pub mod Sector
pub mod Pattern
pub mod Values
pub mod History
pub mod InOrder
pub mod Pieces
