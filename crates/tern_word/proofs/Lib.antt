mod Bits
pub mod BlockLaws
mod Lying
mod Placing
