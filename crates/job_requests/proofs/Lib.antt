mod Common
mod FirstMachine
mod Versions
