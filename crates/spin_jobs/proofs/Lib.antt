mod Common
mod AtRest
pub mod Exclusive
pub mod Generating
mod Opening
mod Running
mod Tracing
pub mod WordLaws
