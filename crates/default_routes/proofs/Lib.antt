mod Common
pub mod Determined
pub mod FinalLemmas
pub mod ShortTables
mod StripLemmas
