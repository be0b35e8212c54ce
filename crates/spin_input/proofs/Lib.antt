pub mod JobBytes
