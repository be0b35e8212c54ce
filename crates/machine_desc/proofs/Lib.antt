mod Common
mod Axis
pub mod Branches
pub mod EdgePlaces
pub mod Far
pub mod Listing
pub mod Live
pub mod Same
pub mod Sites
pub mod TreeLemmas
pub mod Wanted
