pub use Rattle.job_text.specs.Reading
pub use Rattle.job_readers.specs.WholeJob
pub mod Requests
pub mod Steps
pub mod Valid
