pub mod Members
pub mod Places
pub mod Pairs
pub mod Ascending
pub mod Determined
pub mod Counts
pub mod Ranges
pub mod Tests
pub mod Gathering
pub mod Exchange
mod Bytes
pub mod Equality
pub mod Lookups
pub mod Once
pub mod Outputs
pub mod RouteBits
pub mod Spots
