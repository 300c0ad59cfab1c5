pub mod PlainDevice
pub mod PlainLine
