mod Common
mod Imaged
mod Left
pub mod Refusing
mod Righted
mod ShortTables
mod Standing
pub mod Unique
mod Working
