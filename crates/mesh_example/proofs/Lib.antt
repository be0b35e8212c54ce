mod Stands
mod Right
pub mod Tracked
