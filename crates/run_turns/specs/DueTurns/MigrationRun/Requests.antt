-- What a turn may ask of the server. (This project's rule.)
use Rattle.std.specs.Prelude.{ℕ, Option, None}
use Rattle.base_script.specs.declared.actor.Side.{Side}
use Rattle.server_model.specs.declared.entry.Asked.{Asked}
use Rattle.server_model.specs.declared.entry.Asked.TheVariants.{Call, Poll, Command}
use Rattle.server_model.specs.States.{State}
use Rattle.server_model.specs.Conditions.{MayCall, MayPoll, MayLose}

-- a call or a poll that may be made; a loss that may be taken; a command asks nothing of the server
abbrev pub MayAsk : State → ℕ → Option Side → Asked → Type 0
MayAsk state session None (Call request) = MayCall state session request
MayAsk state session None Poll = MayPoll state session
MayAsk state session None (Command word) = Unit {0}
MayAsk state session side asked = MayLose state session side asked
