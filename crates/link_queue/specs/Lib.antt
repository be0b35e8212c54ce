pub mod Ends
pub mod Moves
pub mod Steps
pub mod TheRule
pub mod Ups
