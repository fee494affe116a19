-- What a journal says: the server after its turns, whether its answers are the server's, whether its clients kept the plan, what ended in it and in which order.
pub mod AlteredTables
pub mod Journals
pub mod Sessions
pub mod Clients
pub mod KeptPlans
pub mod Histories
pub mod Serials
pub mod Bounds
pub mod Draws
