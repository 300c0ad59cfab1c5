pub mod Fill
pub mod Fresh
