pub use Rattle.spin_base.specs.Lookup
pub use Rattle.tern_word.specs.SoundTable
pub use Rattle.cover_merge.specs.Merge
pub use Rattle.cover_merge.specs.Covering
pub use Rattle.cover_merge.specs.Merges
pub mod FinalTable
pub mod KeptRows
