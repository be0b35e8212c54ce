mod Common
pub mod Answering
pub mod Legal
pub mod Lists
pub mod Positions
mod ApplyLemmas
mod BitCounts
mod ChooseLemmas
mod CoverLemmas
pub mod Determined
mod KeepLemmas
mod KeptLemmas
mod KeptLemmasMoved
mod KeptLemmasSteps
mod LinkLemmas
mod RefineLemmas
mod RivalAfter
mod RivalLemmas
mod ReplaceLemmas
mod SiftLemmas
mod SpanLemmas
mod TriedLemmas
mod PairLemmas
mod PutInLemmas
