pub use Rattle.spin_base.specs.Outputs
pub use Rattle.machine_desc.specs.Live
pub use Rattle.tern_word.specs.SoundTable
pub use Rattle.machine_desc.specs.RightTables
pub mod Marks
pub mod PlainTable
