pub mod Exact
pub mod Made
pub mod Pairs
pub mod Rows
pub mod Shortened
