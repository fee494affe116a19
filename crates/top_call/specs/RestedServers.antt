-- *Rested server*: on it one more session can be made, which then reads the log, as on a server after a run. (This project's rule.)
use Rattle.std.specs.Prelude.{◌≡◌, ◌+◌, ◌<◌, ◌^◌, false, None}
use Rattle.server_model.specs.States.{State, is_waiting, session_of}

-- *Rested*: a number is left for one more session, nobody has it, and nobody waits with it
pub record IsRested (state : State) : Type 0 where
  pub left : state.made + 1 < 2 ^ 32
  pub none : session_of (state.made + 1) state.sessions ≡ None
  pub idle : is_waiting state (state.made + 1) ≡ false
