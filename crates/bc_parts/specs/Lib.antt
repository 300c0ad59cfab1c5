pub use Rattle.atomic_table.specs.Seated
pub mod Course
pub mod Machine
pub mod Seat
pub mod Later
pub mod Rule
pub mod Steps
pub mod Counters
