mod Common
pub mod Determined
mod Marking
mod Ordering
mod Parting
mod Rising
mod Taking
pub mod Telling
pub mod Trees
pub mod Whole
