pub mod KeyPlaces
pub mod SameColumns
pub mod StepsSoFar
pub mod Tables
