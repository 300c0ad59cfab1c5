pub mod Write
pub mod Parent
