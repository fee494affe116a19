pub mod GivenTraces
