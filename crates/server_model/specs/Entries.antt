-- *Journal*: what was asked in each turn, and the answer. Turns count from 1. (This project's rule.)
use Rattle.std.specs.Prelude.{ℕ, ◌-◌, ◌==◌, Bool, true, false, List, Option, Some, None}
use Rattle.std.specs.List.{slice_get}
use Rattle.base_script.specs.declared.actor.Actor.{Actor}
use Rattle.base_script.specs.declared.actor.Actor.TheVariants.{Op, Insp, Copy, Apply, Lock, Ren, Client}
use Rattle.server_model.specs.declared.request.Request.{Request}
use Rattle.server_model.specs.declared.answer.Answer.{Answer}
use Rattle.server_model.specs.declared.entry.Asked.{Asked}
use Rattle.server_model.specs.declared.entry.Asked.TheVariants.{Call, Command, Cut}
use Rattle.server_model.specs.declared.entry.Entry.{Entry}

-- the two are one actor
abbrev pub same_actor : Actor → Actor → Bool
same_actor Op Op = true
same_actor Insp Insp = true
same_actor Copy Copy = true
same_actor Apply Apply = true
same_actor Lock Lock = true
same_actor Ren Ren = true
same_actor (Client a) (Client b) = a == b
same_actor a b = false

abbrev pub is_client : Actor → Bool
is_client (Client c) = true
is_client actor = false

-- the turn is a loss between calls
abbrev pub is_cut : Asked → Bool
is_cut Cut = true
is_cut asked = false

abbrev pub is_command : Asked → Bool
is_command (Command word) = true
is_command asked = false

-- what is called
abbrev pub request_in : Asked → Option Request
request_in (Call request) = Some request
request_in asked = None

abbrev pub answer_of : Option Entry → Option Answer
answer_of None = None
answer_of (Some entry) = Some entry.answer

-- the answer in this turn
unfoldable pub answer_at : List Entry → ℕ → Option Answer
answer_at journal turn = answer_of (slice_get journal (turn - 1))
