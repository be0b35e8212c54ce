pub mod Cuts
pub mod NarrowFits
pub mod Pieces
