pub mod Parts
pub mod DrawnAnswers
pub mod FilledRequests
pub mod KnownBlockers
