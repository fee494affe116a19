pub mod PagedAnswers
