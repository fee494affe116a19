mod HistorySteps
mod Imaged
mod Valid
mod Serial
pub mod JournalPasts
