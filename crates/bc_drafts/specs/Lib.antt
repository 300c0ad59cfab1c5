pub mod Draft
pub mod Laws
