-- What a session of the tool's waits for, as its actor's answers tell it.
pub mod Reported
