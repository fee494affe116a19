-- What comes before the copy, and the operator: the setup's steps, and what the operator's commands have done.
pub mod Altered
pub mod Commands
