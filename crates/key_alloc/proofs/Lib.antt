mod Common
pub mod Ranges
mod Sizes
mod Taking
mod Frontier
mod BlockRanges
mod FixedBlocks
mod Growing
pub mod Determined
