-- The range of keys that now exist is what the copy starts from, and with a checkpoint behind the tool that was lost the migration stands.
use Rattle.std.proofs.Common.{◌≡◌, ℕ, ◌==◌, Bool, true, false, cond, List, [], ◌∷◌, ◌++◌, length, Option, Some, None, refl, sym, ap, ◌∙◌, subst}
use Rattle.std.specs.List.{AllByRecursion}
use Rattle.base_script.specs.declared.actor.Actor.TheVariants.{Insp}
use Rattle.base_values.specs.declared.span.Bound.TheVariants.{Closed}
use Rattle.base_values.specs.Spans.{has}
use Rattle.base_values.specs.GhoSchema.Rows.{key_of, key_places}
use Rattle.base_values.specs.GhoSchema.Tables.{Ascends}
use Rattle.table_store.specs.Databases.{TableRows, find_table}
use Rattle.base_values.specs.declared.event.RowEvent.{RowEvent}
use Rattle.server_model.specs.Chunks.{ends_of, keys_of, last_of}
use Rattle.server_model.specs.declared.entry.Asked.TheVariants.{Call}
use Rattle.server_model.specs.declared.entry.Entry.{Entry}
use Rattle.server_model.specs.declared.request.Request.TheVariants as requests
use Rattle.server_model.specs.declared.session.Session.{Session}
use Rattle.server_model.specs.LockedRows.Coverage.{IsWellFormedTable}
use Rattle.server_model.specs.LockedRows.Databases.{WhereFound}
use Rattle.server_model.specs.States.{new_session}
use Rattle.plan_data.specs.PlanData.{PlanData}
use Rattle.tool_notes.specs.declared.checkpoint.Checkpoint.{Checkpoint}
use Rattle.tool_program.specs.JournalWords.Journals.{state_at}
use Rattle.tool_program.specs.JournalWords.Sessions.{live_session}
use Rattle.tool_program.specs.Tools.{Migrating, Work, moment}
use Rattle.tool_finish.specs.declared.stage.Stage.{Stage}
use Rattle.tool_finish.specs.declared.stage.Stage.TheVariants.{Ranging}
use Rattle.tool_finish.specs.Finishes.{next, stage_behind}
use Rattle.proof_journals.specs.Holdings.{face_in, face_of, stored}
use Rattle.proof_journals.specs.Scenes.{no_hold}
use Rattle.proof_journals.specs.Run.Kept.{IsKept}
use Rattle.proof_journals.specs.Ghost.HeldKeys.{Clustered}
use Rattle.proof_journals.specs.Ghost.Rows.Moments.{Row, rows_at}
use Rattle.proof_journals.specs.Ghost.Rows.Timelines.{Migration}
use Rattle.proof_journals.proofs.Ghost.Ranges.{in_range}
use Rattle.proof_migration.specs.Migration.Machines.{hold_at}
use Rattle.proof_migration.specs.ToolPhase.Unaltered.{IsUnaltered}
use Rattle.proof_migration.specs.Program.Turns.Laws.{IsMigrationOf}
use Rattle.proof_migration.proofs.HeldNames.Holders.{all_held_well}
use Rattle.proof_resume.specs.Settled.Laws.{SettledIn}
use Rattle.proof_resume.specs.Settled.Ranges.{rows_now}
use Rattle.proof_resume.proofs.Settled.Resuming.{resumes_start}
use Rattle.proof_resume.proofs.Settled.Reverting.{kept_runs_settle}
use Rattle.proof_resume.specs.Starts.Beginnings.{IsCleared, StageFinds, StartsFrom, sessions_with}
use Rattle.proof_resume.specs.Starts.Laws.{FinishesStart, RangesStart}
use Rattle.proof_resume.proofs.Starts.Calls.{IsLeft}
use Rattle.proof_resume.proofs.Starts.Stages.{IsLast, cleared_more, last_turn, range_answer, ranged_left, who_asks}

-- a session that holds nothing
none_held : (live : Option ℕ) (n : ℕ) → (face_of (sessions_with live) n).hold ≡ no_hold
none_held None n = refl
none_held (Some number) n = by (number == n) where
  by : (b : Bool) → (face_in (cond b (Some (new_session number true)) None)).hold ≡ no_hold
  by true = refl
  by false = refl

module _ (plan : PlanData) (m : Migration) (at : Clustered m.schema) (rows : List Row) (of : IsMigrationOf plan m rows) (opens : find_table m.name plan.tables ≡ Some (record { schema = m.schema; rows = rows })) (run : List Entry) (work : Work) (kept : IsKept plan run) (off : IsUnaltered plan run)
    (phase : (moment plan run).tool.tool_phase ≡ Migrating work) (turns : List Entry) (entry : Entry) (found : Checkpoint) (stage : stage_behind plan run turns ≡ Ranging found) (last : IsLast plan m rows of run work kept off phase turns entry) where
  abbrev journal : List Entry
  journal = run ++ turns

  abbrev more : List Entry
  more = journal ++ entry ∷ []

  abbrev then_rows : List Row
  then_rows = rows_now m rows (stored (state_at plan run))

  settled : SettledIn plan m rows run work
  settled = kept_runs_settle plan m at rows of opens run work kept off phase

  cleared : IsCleared plan m run journal found
  cleared = subst (StageFinds plan m run journal) stage last.finds

  who : (entry.actor ≡ Insp) × (entry.asked ≡ Call (requests.Ends plan.table))
  unfolding next
  who = who_asks Insp entry.actor (Call (requests.Ends plan.table)) entry.asked (subst (λ (s : Stage). next plan journal s ≡ Some (entry.actor, entry.asked)) stage last.given)

  left : IsLeft plan journal entry (range_answer plan m rows of run work kept off phase journal entry last.answered last.session last.side who.0 (find_table plan.table (state_at plan journal).tables)) (state_at plan journal).tables
  left = ranged_left plan m rows of run work kept off phase journal entry last.answered last.session last.side who.0 found cleared who.1

  now_cleared : IsCleared plan m run more found
  now_cleared = cleared_more plan m rows of run work kept off phase journal entry last.answered last.session last.side _ found cleared left

  there : find_table plan.table (state_at plan journal).tables ≡ Some (record { schema = m.schema; rows = then_rows })
  there = ap (λ (n : List ℕ). find_table n (state_at plan journal).tables) (sym of.of.name) ∙ cleared.keeps.old ∙ settled.is.old

  answer_is : entry.answer ≡ ends_of (keys_of (key_places m.schema) then_rows)
  answer_is = left.answered ∙ ap (range_answer plan m rows of run work kept off phase journal entry last.answered last.session last.side who.0) there

  ascends : Ascends (key_places m.schema) then_rows
  ascends = (well (find_table m.name (state_at plan run).tables) settled.is.old ((all_held_well plan run of.runs of.serial kept).serving.well_formed.each m.name)).is_table.ascends where
    well : (one : Option TableRows) → one ≡ Some (record { schema = m.schema; rows = then_rows }) → WhereFound IsWellFormedTable one → IsWellFormedTable (record { schema = m.schema; rows = then_rows })
    well one is formed = subst (WhereFound IsWellFormedTable) is formed

  rows_same : rows_now m rows (stored (state_at plan more)) ≡ then_rows
  rows_same = ap (λ (log : List RowEvent). rows_at m.name (key_places m.schema) rows log (length log)) now_cleared.keeps.log

  free : (n : ℕ) → hold_at (state_at plan more) n ≡ no_hold
  free n = ap (λ (s : List Session). (face_of s n).hold) now_cleared.rest.sessions ∙ none_held (live_session more Insp) n

  starts : StartsFrom plan m rows run more entry.answer
  starts = by then_rows refl ascends where
    by : (some : List Row) → then_rows ≡ some → Ascends (key_places m.schema) some → StartsFrom plan m rows run more entry.answer
    by [] is up = record { range = None; answered = answer_is ∙ ap (λ (l : List Row). ends_of (keys_of (key_places m.schema) l)) is; ranged = rows_same ∙ is; keeps = now_cleared.keeps; free = free }
    by (first ∷ others) is up = record {
      range = Some (record { least = key_of (key_places m.schema) first; greatest = last_of (key_of (key_places m.schema) first) (keys_of (key_places m.schema) others) });
      answered = answer_is ∙ ap (λ (l : List Row). ends_of (keys_of (key_places m.schema) l)) is;
      ranged =
          subst (AllByRecursion (λ row. has (record { low = Closed (key_of (key_places m.schema) first); high = Closed (last_of (key_of (key_places m.schema) first) (keys_of (key_places m.schema) others)) }) (key_of (key_places m.schema) row) ≡ true)) (sym (rows_same ∙ is)) (in_range (key_places m.schema) first others up);
      keeps = now_cleared.keeps;
      free = free;
    }

-- *Ranges start the copy.*
pub ranges_start : RangesStart
ranges_start plan m at rows of opens run work kept off phase turns entry found stage faithful finish = starts plan m at rows of opens run work kept off phase turns entry found stage (last_turn plan m rows of run work kept off phase turns entry faithful finish)

-- *Finishes start.*
pub finishes_start : FinishesStart
finishes_start plan m at rows of opens run work kept off phase journal answer start found behind sized batched copier applier two other =
    resumes_start plan m at rows of opens run work kept off phase found behind journal start.keeps start.range start.ranged copier applier start.free two other sized batched
