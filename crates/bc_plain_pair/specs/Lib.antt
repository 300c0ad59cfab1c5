pub mod PairBytes
pub mod LivePlace
pub mod Sectors
pub mod Ring
pub mod Names
pub mod Uses
pub mod Rooms
pub mod Parts
