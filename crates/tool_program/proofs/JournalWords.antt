-- What a journal says: the server after its turns, whether its answers are the server's, whether its clients kept the plan, what ended in it and in which order.
pub mod Answers
pub mod DrawnLines
pub mod Lines
