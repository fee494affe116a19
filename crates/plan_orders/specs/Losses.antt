-- *Loss*: the loss of a session that a text names. This project's rule.
use Rattle.std.specs.Prelude.{codes, ℕ, if◌then◌else◌, List, [], ◌∷◌, Option, Some, None, Result, Ok, Err}
use Rattle.std.specs.Str.{bytes_eq}
use Rattle.base_values.specs.SchemaRules.Results.{◌>>=◌}
use Rattle.base_script.specs.declared.actor.Actor.{Actor}
use Rattle.base_script.specs.declared.actor.Side.{Side}
use Rattle.base_script.specs.declared.actor.Side.TheVariants.{Before, After}
use Rattle.base_script.specs.declared.loss.Loss.{Loss}
use Rattle.base_script.specs.declared.loss.Loss.TheVariants.{Nth, Turn}
use Rattle.plan_orders.specs.declared.fault.OrderRefusal.{OrderRefusal}
use Rattle.plan_orders.specs.declared.fault.OrderRefusal.TheVariants as refusals
use Rattle.plan_orders.specs.declared.losses.TheConstants.{LOSS_LIMIT}
use Rattle.plan_orders.specs.Actors.{actor_among}
use Rattle.plan_orders.specs.Numbers.{number_up_to}
use Rattle.plan_orders.specs.Refusals.{or_refused}
use Rattle.plan_orders.specs.Words.{spaced_words}

abbrev pub side_of : List ℕ → Option Side
side_of word = if bytes_eq word (codes "before") then Some Before else if bytes_eq word (codes "after") then Some After else None

-- a turn or a call, counted from 1, up to 1,000,000
abbrev pub count_of : List ℕ → Result ℕ OrderRefusal
count_of word = or_refused refusals.Loss (number_up_to LOSS_LIMIT word)

abbrev pub lost_actor : ℕ → List ℕ → Result Actor OrderRefusal
lost_actor clients word = or_refused refusals.LossActor (actor_among clients word)

-- `turn N A`: A is any word, and then it has to be an actor's
unfoldable pub loss_at_turn : ℕ → List ℕ → List ℕ → Result Loss OrderRefusal
loss_at_turn clients turn actor = do
  turn ← count_of turn
  actor ← lost_actor clients actor
  Ok (Turn turn actor)

-- `A N before` and `A N after`: likewise
unfoldable pub loss_at_call : ℕ → List ℕ → List ℕ → List ℕ → Result Loss OrderRefusal
loss_at_call clients actor n side = do
  n ← count_of n
  side ← or_refused refusals.Loss (side_of side)
  actor ← lost_actor clients actor
  Ok (Nth actor n side)

-- the loss of a plan with this many clients that three words are
abbrev pub loss_of_words : ℕ → List (List ℕ) → Result Loss OrderRefusal
loss_of_words clients [] = Err refusals.Loss
loss_of_words clients (first ∷ []) = Err refusals.Loss
loss_of_words clients (first ∷ second ∷ []) = Err refusals.Loss
loss_of_words clients (first ∷ second ∷ third ∷ []) =
    if bytes_eq first (codes "turn") then loss_at_turn clients second third else loss_at_call clients first second third
loss_of_words clients (first ∷ second ∷ third ∷ fourth ∷ others) = Err refusals.Loss

abbrev pub loss_of : ℕ → List ℕ → Result Loss OrderRefusal
loss_of clients text = loss_of_words clients (spaced_words text)
