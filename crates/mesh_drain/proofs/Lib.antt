mod Common
mod Again
pub mod Frame
pub mod Moving
mod Opened
pub mod Packets
mod Ports
pub mod Progress
mod Steps
pub mod Turns
mod Unsent
pub mod Senders
pub mod Vertices
