-- What is kept of the actors of a trace. (This project's rule.)
use Rattle.std.specs.Prelude.{ℕ, ◌+◌, ◌-◌, ◌^◌, min, false, if◌then◌else◌, List, find, Option, Some, None}
use Rattle.base_script.specs.declared.actor.Actor.{Actor}
use Rattle.server_model.specs.Entries.{same_actor}
use Rattle.run_audit.specs.declared.line.LineAsked.{LineAsked}
use Rattle.run_audit.specs.declared.line.LineAsked.TheVariants.{Cut}
use Rattle.run_audit.specs.declared.line.TraceLine.{TraceLine}
use Rattle.run_audit.specs.Rules.{has_renamed, has_session, keeps_session, renames_by, turns_in}
use Rattle.run_judge.specs.declared.actor_marks.ActorMarks.{ActorMarks}

-- what is kept of an actor after these turns
abbrev pub marks_at : List TraceLine → Actor → ActorMarks
marks_at before actor = record { actor = actor; has_session = has_session before actor; turns = turns_in actor before; renames = has_renamed before actor }

-- ... before the first turn
abbrev pub new_marks : Actor → ActorMarks
new_marks actor = record { actor = actor; has_session = false; turns = 0; renames = false }

-- a count of 64 bits stays at its last value
abbrev pub one_more : ℕ → ℕ
one_more count = min (count + 1) (2 ^ 64 - 1)

abbrev pub counted : LineAsked → ℕ → ℕ
counted Cut turns = turns
counted asked turns = one_more turns

-- the marks of the turn's actor after it
abbrev pub marked_by : TraceLine → ActorMarks → ActorMarks
marked_by line marks = record marks { has_session = keeps_session line.asked line.answer; turns = counted line.asked marks.turns; renames = renames_by marks.renames line.asked }

-- any marks after a turn
abbrev pub marks_after : TraceLine → ActorMarks → ActorMarks
marks_after line marks = if same_actor line.actor marks.actor then marked_by line marks else marks

abbrev pub or_new : Actor → Option ActorMarks → ActorMarks
or_new actor None = new_marks actor
or_new actor (Some marks) = marks

-- the marks of an actor among all, where something is kept of it
abbrev pub found_marks : List ActorMarks → Actor → Option ActorMarks
found_marks all actor = find (λ marks. same_actor marks.actor actor) all

-- the marks of an actor: new ones, where nothing is kept of it
abbrev pub marks_of : List ActorMarks → Actor → ActorMarks
marks_of all actor = or_new actor (found_marks all actor)
