pub mod Entries
pub mod MergeFits
pub mod Placed
pub mod SoundTable
pub mod Ternary
