mod CommonLemmas
mod KnownLemmas
mod LaneLemmas
pub mod MemoryLemmas
