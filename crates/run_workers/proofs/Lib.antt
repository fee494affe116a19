mod Sending
mod Ordering
mod Passing
pub mod WorkerRun
