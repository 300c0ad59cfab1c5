pub mod Leads
pub mod Known
pub mod Stored
pub mod Events
pub mod Later
pub mod Each
