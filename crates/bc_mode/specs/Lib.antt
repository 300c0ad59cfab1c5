pub mod Mode
pub mod Choice
pub mod Streak
