-- The replay of a plan: its turns are taken in their order, until its run is over.
pub mod Choices
pub mod GoingOn
pub mod Marking
pub mod PassChoices
pub mod Passing
pub mod WordChoices
