pub mod Coming
pub mod Serving
pub mod Turning
pub mod Keeping
pub mod DueCalls
pub mod MigrationRun
