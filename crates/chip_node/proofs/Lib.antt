mod Common
mod Offering
pub mod Stays
pub mod Flows
pub mod EndSteps
pub mod Placing
mod Outputs
mod GoingRound
mod Turning
mod Banking
mod Sending
mod Looking
mod Serving
