-- What the locker and the renamer have is in their live sessions, so that the cut-over goes on in them.
pub mod ActorStates
pub mod Live
