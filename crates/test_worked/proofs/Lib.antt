pub mod Computing
pub mod SmallPlans1
mod SmallPlans2
pub mod Plans1
pub mod Reports
mod Plans2
mod Plans3
mod Plans4
mod Plans5
mod Workers
mod Sequences1
mod Sequences2
mod Sequences3
mod Sequences4
pub mod SerialRun
mod Scenes
mod Traces
pub mod WorkedExamples
