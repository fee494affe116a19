-- A run whose turns worker threads take in one turn queue: each turn is that of the actor that the rule gives its worker.
pub mod Workers
pub mod WorkedRuns
