-- What is logged of the hint rows, and what the applier knows of the last one.
pub mod Writes
pub mod Logging
pub mod Telling
pub mod Phases
pub mod Asked
pub mod States
pub mod Courses
pub mod Known
