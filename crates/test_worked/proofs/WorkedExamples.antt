pub mod WorkedCopies
pub mod WorkedMarks
pub mod WorkedStall
pub mod WorkedMachines
