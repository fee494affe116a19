-- How the code finds the runs of turns: it goes through the journal once, and keeps the run that one more turn may go on.
use Rattle.std.specs.Prelude.{codes, ℕ, ◌+◌, if◌then◌else◌, List, [], ◌∷◌, ◌++◌, Option, Some, None}
use Rattle.base_script.specs.declared.actor.Actor.{Actor}
use Rattle.server_model.specs.declared.entry.Entry.{Entry}
use Rattle.server_model.specs.Entries.{is_cut, same_actor}
use Rattle.plan_data.specs.declared.runs.ActorRun.{ActorRun}
use Rattle.top_report.specs.declared.turns.OpenRun.{OpenRun}
use Rattle.top_report.specs.Turns.{run_text, runs_of}

-- the runs of these turns, where this many of an actor come before them
unfoldable pub runs_after : Actor → ℕ → List Actor → List ActorRun
runs_after actor times [] = record { actor = actor; times = times } ∷ []
runs_after actor times (other ∷ actors) =
    if same_actor actor other then runs_after actor (times + 1) actors else record { actor = actor; times = times } ∷ runs_after other 1 actors

-- the same, where none may come before them
abbrev pub runs_open : Option OpenRun → List Actor → List ActorRun
runs_open None actors = runs_of actors
runs_open (Some run) actors = runs_after run.actor run.times actors

abbrev pub spaced_run : OpenRun → List ℕ
spaced_run run = codes " " ++ run_text (record { actor = run.actor; times = run.times })

-- what is printed of the run before a turn, once the turn is known not to be of it
abbrev pub printed_before : Option OpenRun → Actor → List ℕ
printed_before None actor = []
printed_before (Some run) actor = if same_actor run.actor actor then [] else spaced_run run

-- the run that the turn is of
abbrev pub run_with : Option OpenRun → Actor → OpenRun
run_with None actor = record { actor = actor; times = 1 }
run_with (Some run) actor = if same_actor run.actor actor then record { actor = run.actor; times = run.times + 1 } else record { actor = actor; times = 1 }

-- the same of an entry, which may be a loss between calls
abbrev pub printed_at : Option OpenRun → Entry → List ℕ
printed_at last entry = if is_cut entry.asked then [] else printed_before last entry.actor

abbrev pub open_after : Option OpenRun → Entry → Option OpenRun
open_after last entry = if is_cut entry.asked then last else Some (run_with last entry.actor)
