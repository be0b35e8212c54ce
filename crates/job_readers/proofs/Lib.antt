mod Common
pub mod Firsts
pub mod NoFaults
pub mod ItemSteps
mod FollowingSteps
mod ListedItems
mod PlaceSteps
mod SlotSteps
mod BlockSteps
mod RangeSteps
mod GraphSteps
mod RunSteps
mod Parts
mod Named
mod KnownNames
