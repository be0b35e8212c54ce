pub mod Json
pub mod Paths
pub mod Members
pub mod Reading
pub mod Fields
