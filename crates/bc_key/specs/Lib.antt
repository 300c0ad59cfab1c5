pub mod Ptr
pub mod Key
pub mod Words
pub mod Cut
pub mod Generation
