pub mod CounterMoves
pub mod KeptSessions
pub mod Rooms
pub mod SessionLists
