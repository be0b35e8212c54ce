mod Common
mod DrawLemmas
pub mod DrawnLaws
mod ValueLemmas
mod NameLemmas
pub mod ListReading
mod GraphReading
pub mod JobReading
mod Written
mod Joined
mod Keyed
mod Roomy
pub mod Fitting
mod FewRows
