-- Which of the tool's actors wait with a RENAME of the migrated table, as the code keeps it. (This project's rule.)
use Rattle.std.specs.Prelude.{◌≡◌, ℕ, Bool, true, false, List}
use Rattle.base_script.specs.declared.actor.Actor.{Actor}
use Rattle.base_script.specs.declared.actor.Actor.TheVariants.{Op, Insp, Copy, Apply, Lock, Ren, Client}
use Rattle.server_model.specs.declared.entry.Entry.{Entry}
use Rattle.server_model.specs.Entries.{is_client}
use Rattle.plan_data.specs.PlanData.{PlanData}
use Rattle.tool_program.specs.JournalWords.Histories.{renames_away, request_waiting}
use Rattle.run_actors.specs.declared.renaming.Renaming.{Renaming}
use Rattle.run_actors.specs.ActorStates.{renames_after}

-- nobody waits with one
abbrev pub nobody_renames : Renaming
nobody_renames = record { op = false; insp = false; copy = false; apply = false; lock = false; ren = false }

abbrev pub renames_at : Renaming → Actor → Bool
renames_at renaming Op = renaming.op
renames_at renaming Insp = renaming.insp
renames_at renaming Copy = renaming.copy
renames_at renaming Apply = renaming.apply
renames_at renaming Lock = renaming.lock
renames_at renaming Ren = renaming.ren
renames_at renaming (Client number) = false

-- *Are renaming*: they are those whose request, which waits after the turns of a journal, takes the plan's table away.
abbrev pub AreRenaming : PlanData → List Entry → Renaming → Type 0
AreRenaming plan before renaming = (actor : Actor) → is_client actor ≡ false → renames_at renaming actor ≡ renames_away plan.table (request_waiting before actor)

abbrev pub with_renaming : Actor → Bool → Renaming → Renaming
with_renaming Op now renaming = record renaming { op = now }
with_renaming Insp now renaming = record renaming { insp = now }
with_renaming Copy now renaming = record renaming { copy = now }
with_renaming Apply now renaming = record renaming { apply = now }
with_renaming Lock now renaming = record renaming { lock = now }
with_renaming Ren now renaming = record renaming { ren = now }
with_renaming (Client number) now renaming = renaming

-- who waits with one after a turn
abbrev pub renaming_after : List ℕ → Entry → Renaming → Renaming
renaming_after name entry renaming = with_renaming entry.actor (renames_after name entry.asked entry.answer (renames_at renaming entry.actor)) renaming
