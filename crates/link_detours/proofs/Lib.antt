mod Common
mod Keeping
mod Pruning
mod Naming
mod Putting
mod Reaching
mod RoadBits
mod Searching
mod Spreading
mod Stepping
mod Tabling
mod Trimming
mod TurnedWords
mod Turning
pub mod Unchanged
mod Walks
mod Waving
mod Wholes
