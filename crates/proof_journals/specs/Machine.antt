-- What holds of the tool's machines and their sessions.
pub mod Standings
pub mod Machines
pub mod Scripts
pub mod MigrationTables
pub mod FormedPlans
pub mod TableKeys
pub mod Runnable
pub mod Laws
