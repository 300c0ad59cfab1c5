mod Held
mod Holding
