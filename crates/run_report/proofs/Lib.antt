mod Common
pub mod Gathering
pub mod GotLines
pub mod HexDigits
mod Joining
mod LastDigits
pub mod Listing
mod Sorting
