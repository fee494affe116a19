pub mod Due
pub mod NextTurns
pub mod Laws
pub mod DueCalls
pub mod MigrationRun
