mod Common
mod Beginnings
mod GiveLemmas
pub mod HolePlaces
mod RunLemmas
