pub mod Sectors
pub mod Kind
pub mod Codec
pub mod Places
