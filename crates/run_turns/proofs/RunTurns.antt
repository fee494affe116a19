-- One turn of a run that is due: first what may want memory, then the server's answer, then the run state.
pub mod Costs
pub mod Planned
pub mod Ranging
pub mod Served
pub mod Reserving
