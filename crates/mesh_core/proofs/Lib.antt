mod Common
pub mod AskedPackets
pub mod Changes
pub mod Counting
pub mod DeliveredLaw
mod Enabled
pub mod Events
pub mod EventsLaw
mod ExpectedCount
pub mod ExpectedList
mod FewMarks
pub mod FewMoves
pub mod Fixed
mod HandOutputs
pub mod Heavy
pub mod Keeping
pub mod Law
pub mod LedgerLaw
pub mod MarkTests
pub mod Moves
mod Named
mod NoDump
mod OneWay
pub mod OpenedLaw
pub mod OnlyUnderWay
mod Ordered
mod QueueLists
pub mod Queued
pub mod RoomyRuns
mod Searching
pub mod ServingLaws
pub mod Standing
mod StepParts
mod Tracked
pub mod VertexTableLaws
mod WalkingUp
pub mod Ways
