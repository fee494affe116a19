-- *Turns*: the order of turns that a text asks for. This project's rule.
use Rattle.std.specs.Prelude.{ℕ, ◌+◌, ◌-◌, ◌^◌, min, if◌then◌else◌, List, [], ◌∷◌, Option, Some, None, Result, Ok}
use Rattle.std.specs.List.{sum_by}
use Rattle.base_values.specs.SchemaRules.Results.{◌>>=◌}
use Rattle.base_script.specs.declared.actor.Actor.{Actor}
use Rattle.plan_data.specs.declared.runs.ActorRun.{ActorRun}
use Rattle.plan_orders.specs.declared.turn_order.fault.TurnRefusal.{TurnRefusal}
use Rattle.plan_orders.specs.TurnOrder.Refusals.{or_refused}
use Rattle.plan_orders.specs.Actors.{actor_of, is_among}
use Rattle.plan_orders.specs.Numbers.{number_of}
use Rattle.plan_orders.specs.Words.{spaced_words, parts_at}

abbrev pub run_with : Option Actor → Option ℕ → Option ActorRun
run_with None times = None
run_with (Some actor) None = None
run_with (Some actor) (Some times) = Some (record { actor = actor; times = times })

-- an actor's word alone is one turn; `*` and a number from 1 on after it ask for this many
abbrev pub run_in : List ℕ → Option (List ℕ × List ℕ) → Option ActorRun
run_in word None = run_with (actor_of word) (Some 1)
run_in word (Some parts) = run_with (actor_of parts.0) (number_of parts.1)

-- the turns that a word asks for, whether or not the plan has this many clients: `copy*3`
unfoldable pub run_of : List ℕ → Option ActorRun
run_of word = run_in word (parts_at 42 word)

-- how many turns a word asks for; one that asks for none counts as one
abbrev pub times_in : Option ActorRun → ℕ
times_in None = 1
times_in (Some run) = run.times

-- how many turns a text asks for
abbrev pub turn_count : List ℕ → ℕ
turn_count text = sum_by (λ word. times_in (run_of word)) (spaced_words text)

abbrev pub if_among : ℕ → Option ActorRun → Option ActorRun
if_among clients None = None
if_among clients (Some run) = if is_among clients run.actor then Some run else None

-- the turns of an actor of a plan with this many clients that a word asks for
abbrev pub run_among : ℕ → List ℕ → Option ActorRun
run_among clients word = if_among clients (run_of word)

-- words count from 1 (and stay at the greatest number of 32 bits)
abbrev pub next_word : ℕ → ℕ
next_word word = min (word + 1) (2 ^ 32 - 1)

-- the turns that the words from here on ask for
unfoldable pub runs_from : ℕ → ℕ → List (List ℕ) → Result (List ActorRun) TurnRefusal
runs_from clients number [] = Ok []
runs_from clients number (word ∷ words) = do
  run ← or_refused number (run_among clients word)
  others ← runs_from clients (next_word number) words
  Ok (run ∷ others)

abbrev pub turns_of : ℕ → List ℕ → Result (List ActorRun) TurnRefusal
turns_of clients text = runs_from clients 1 (spaced_words text)
