pub mod Holding
pub mod Interference
mod Lists
mod Cargoes
mod Laying
mod Opening
mod Closing
mod Keeping
mod Resting
