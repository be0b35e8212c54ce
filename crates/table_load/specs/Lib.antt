pub use Rattle.tcam_find.specs.Memory
pub mod Images
pub mod Memories
pub mod Reading
