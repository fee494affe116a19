-- *Place*: what is left of a replay's order, as the code keeps it, and the queue that it stands for. (This project's rule.)
use Rattle.std.specs.Prelude.{ℕ, ◌-◌, List, [], ◌∷◌, ◌++◌, drop, Option, Some, None}
use Rattle.std.specs.List.{repeat}
use Rattle.base_script.specs.declared.actor.Actor.{Actor}
use Rattle.plan_data.specs.PlanData.{PlanData, turns_in}
use Rattle.plan_data.specs.declared.runs.ActorRun.{ActorRun}
use Rattle.tool_program.specs.Orders.{actors, Queue, Choice, Found}
use Rattle.run_replay.specs.declared.whole_replay.place.OrderPlace.{OrderPlace}
use Rattle.run_replay.specs.declared.whole_replay.place.NextTurn.{NextTurn}

-- the turns of runs, where this many of the first run are done
unfoldable pub words_from : ℕ → List ActorRun → List Actor
words_from used [] = []
words_from used (run ∷ runs) = repeat (run.times - used) (run.actor ∷ []) ++ turns_in runs

abbrev pub queue_of : PlanData → OrderPlace → Queue
queue_of plan place = record { words = words_from place.used (drop place.run plan.turns); round = drop place.actor (actors plan) }

abbrev pub choice_of : PlanData → NextTurn → Choice
choice_of plan next = record { actor = next.actor; queue = queue_of plan next.following }

-- the choice by a word, with the pass as it was
abbrev pub by_word : List Actor → Option Found → Option Choice
by_word round None = None
by_word round (Some found) = Some (record { actor = found.actor; queue = record { words = found.following; round = round } })
