-- Right after the RENAME the table under the migrated one's name is the rebuilt one.
use Rattle.std.proofs.Common.{◌≡◌, ℕ, not, length, List, [], ◌∷◌, ◌++◌, Option, Some, None, refl, sym, ap, ◌∙◌, subst}
use Rattle.std.specs.Option.{option_map}
use Rattle.base_script.specs.declared.actor.Side.{Side}
use Rattle.base_script.specs.declared.actor.Side.TheVariants.{Before, After}
use Rattle.base_values.specs.declared.event.RowEvent.{RowEvent}
use Rattle.base_values.specs.declared.gho_schema.schema.Schema.{Schema}
use Rattle.base_values.specs.GhoSchema.Rows.{key_places}
use Rattle.base_values.specs.ToolNames.{ghost_name}
use Rattle.base_values.proofs.SchemaRules.Steps.{some_is}
use Rattle.table_store.specs.Databases.{TableRows, find_table, name_table}
use Rattle.server_model.specs.declared.entry.Asked.TheVariants.{Call, Poll, Cut}
use Rattle.server_model.specs.declared.entry.Entry.{Entry}
use Rattle.server_model.specs.declared.session.Waiting.{Waiting}
use Rattle.server_model.specs.Entries.{is_client, is_command}
use Rattle.server_model.specs.PlainServer.{leaves, serves}
use Rattle.server_model.specs.States.{State, waiting_of}
use Rattle.plan_data.specs.PlanData.{PlanData, plan_altered}
use Rattle.plan_data.specs.declared.plan.AlteredSchema.{AlteredSchema}
use Rattle.tool_program.specs.CutoverCore.Attempts.{exchange}
use Rattle.tool_program.specs.JournalWords.Journals.{opening, opens, state_at}
use Rattle.proof_journals.specs.Ghost.Copies.{IsAltered}
use Rattle.proof_journals.specs.Ghost.Rows.Moments.{rows_at}
use Rattle.proof_journals.specs.Machine.Runnable.{IsRunnable}
use Rattle.proof_journals.specs.Machine.Standings.{IsAbout, is_called, is_polled, standing_of}
use Rattle.proof_journals.specs.Plans.{IsSerialPlan}
use Rattle.proof_journals.specs.Run.Kept.{IsKept}
use Rattle.proof_journals.specs.Turns.{about, request_of}
use Rattle.proof_journals.proofs.Journals.{opened_waits, state_more}
use Rattle.proof_journals.proofs.Machine.Journals.{IsRun, IsTogether}
use Rattle.proof_journals.proofs.Machine.Seated.{IsServed, own_waiting}
use Rattle.proof_migration.specs.CutOver.{IsRename}
use Rattle.proof_migration.specs.Migration.Planning.{migration_of}
use Rattle.proof_migration.specs.ToolPhase.Runnable.{IsAlterable}
use Rattle.proof_migration.proofs.Once.Past.{exchange_gives}
use Rattle.proof_migration.proofs.Program.LockerTurns.Quiet.{Quiet, quiet_served}
use Rattle.proof_migration.proofs.Program.Turns.Follows.{kept_front, kept_run}
use Rattle.proof_migration.proofs.ToolPhase.Unaltered.Away.{IsKnownAsked, all_asked}
use Rattle.proof_plans.specs.Laws.{AcceptedRenamesFindTheAltered}
use Rattle.proof_plans.specs.ReadPlans.Laws.{ReadPlansAreAlterable, ReadPlansAreRunnable, ReadPlansAreSerial, WasRead}
use Rattle.proof_plans.proofs.Tables.Old.{RenameLaws, is_about, tables_renamed}
use Rattle.law_rebuild.specs.Laws.{AcceptedMarksAreRebuilt, IsRebuiltOf}
use Rattle.law_rebuild.specs.Marks.{changes_logged}
use Rattle.law_rebuild.proofs.Growing.{lost_log, opened_log}
use Rattle.law_rebuild.proofs.Rebuilding.{by_schema, new_name, own_name, rebuilt_from}
use Rattle.law_rebuild.proofs.Standing.{StandsSoFar, stands_so_far}

-- the laws that this stands on
pub record MarkLaws : Type 0 where
  pub rename : RenameLaws
  pub altered : AcceptedRenamesFindTheAltered
  pub runnable : ReadPlansAreRunnable
  pub serial : ReadPlansAreSerial
  pub alterable : ReadPlansAreAlterable

-- THE RENAME

module _ (laws : RenameLaws) (plan : PlanData) (runs : IsRunnable plan) (serial : IsSerialPlan plan) (journal : List Entry) (entry : Entry) (rename : IsRename plan journal entry) where
  abbrev now : State
  now = state_at plan journal

  abbrev then : State
  then = state_at plan (journal ++ entry ∷ [])

  before : IsKept plan journal
  before = kept_front plan journal (entry ∷ []) rename.kept

  known : IsKnownAsked plan journal
  known = all_asked plan journal runs before.faithful before.follows

  run : IsRun plan journal entry
  run = kept_run plan journal entry rename.kept

  together : IsTogether plan journal
  together = known.marking.tabled.all.tool

  served : IsServed plan journal entry
  served = record { answered = run.answered; seated = record { session = run.followed.session } }

  -- THE LOG

  about_open : about (opens entry now) entry.session entry.asked ≡ Some (exchange plan.table)
  about_open = by (is_about laws plan runs serial journal entry rename) where
    by : IsAbout (exchange plan.table) (standing_of plan journal entry.actor) entry.asked → about (opens entry now) entry.session entry.asked ≡ Some (exchange plan.table)
    by (is_called asks none) = ap (about (opens entry now) entry.session) asks
    by (is_polled asks some) =
        ap (about (opens entry now) entry.session) asks ∙ ap (λ (w : List Waiting). request_of (waiting_of entry.session w)) (opened_waits (is_command entry.asked) (not (is_client entry.actor)) entry.session now)
        ∙ own_waiting plan journal entry together.known served (ap is_command asks) ∙ some

  uncut : entry.asked ≡ Cut → ⊥
  uncut cut = by (is_about laws plan runs serial journal entry rename) where
    no_call : Call (exchange plan.table) ≡ Cut → ⊥
    no_call same = cc

    no_poll : Poll ≡ Cut → ⊥
    no_poll same = cc

    by : IsAbout (exchange plan.table) (standing_of plan journal entry.actor) entry.asked → ⊥
    by (is_called asks none) = no_call (sym asks ∙ cut)
    by (is_polled asks some) = no_poll (sym asks ∙ cut)

  quiet : Quiet (exchange plan.table) (opens entry now) entry.session (serves (opens entry now) entry.session entry.asked)
  quiet = quiet_served (opens entry now) entry.session entry.asked (exchange plan.table) about_open uncut refl

  -- the RENAME logs nothing
  pub log_stays : then.log ≡ now.log
  log_stays = ap (λ (s : State). s.log) (state_more (opening plan) journal entry) ∙ by entry.side ∙ opened_log now entry where
    by : (side : Option Side) → (leaves side (opens entry now) entry.session entry.asked).log ≡ (opens entry now).log
    by None = quiet.log
    by (Some Before) = lost_log entry.session (opens entry now)
    by (Some After) = lost_log entry.session (serves (opens entry now) entry.session entry.asked).after ∙ quiet.log

  pub brings : (new : TableRows) → find_table (ghost_name plan.table) now.tables ≡ Some new → find_table plan.table then.tables ≡ Some (name_table plan.table new)
  brings new found = exchange_gives plan.table now.tables then.tables (tables_renamed laws plan runs serial journal entry rename) ∙ ap (option_map (name_table plan.table)) found

-- AN ACCEPTED PLAN

module _ (laws : MarkLaws) (plan : PlanData) (table : TableRows) (new : AlteredSchema) (journal : List Entry) (entry : Entry) (was : WasRead plan) (found : find_table plan.table plan.tables ≡ Some table) (alters : plan_altered plan ≡ Some (new.schema, new.map)) (rename : IsRename plan journal entry) where
  abbrev before_it : State
  before_it = state_at plan journal

  abbrev after_it : State
  after_it = state_at plan (journal ++ entry ∷ [])

  -- what is made under the new table's name
  abbrev made_schema : Schema
  made_schema = record (new.schema) { name = ghost_name table.schema.name }

  runs_it : IsRunnable plan
  runs_it = laws.runnable plan was

  serial_it : IsSerialPlan plan
  serial_it = laws.serial was.bytes plan was.is

  is : IsAlterable plan
  is = laws.alterable was.bytes plan was.is

  named_own : table.schema.name ≡ plan.table
  named_own = own_name plan table new serial_it is found alters

  so_far : StandsSoFar plan table journal
  so_far = stands_so_far plan table runs_it serial_it found journal (kept_front plan journal (entry ∷ []) rename.kept) rename.unaltered

  altered_here : IsAltered (migration_of table.schema (new.schema, new.map)) before_it.tables
  altered_here = laws.altered plan table (new.schema, new.map) journal entry was found (by_schema plan table new serial_it is found alters) rename

  log_is : after_it.log ≡ before_it.log
  log_is = log_stays laws.rename plan runs_it serial_it journal entry rename

  -- the rows that the log leads to are those that the RENAME finds
  rows_are : rows_at plan.table (key_places table.schema) table.rows before_it.log (length before_it.log) ≡ altered_here.rows
  rows_are =
      ap (λ (t : TableRows). t.rows)
      (some_is (record { schema = table.schema; rows = rows_at plan.table (key_places table.schema) table.rows before_it.log (length before_it.log) }) (record { schema = table.schema; rows = altered_here.rows })
      (sym so_far.stood.found ∙ ap (λ (n : List ℕ). find_table n before_it.tables) (sym named_own) ∙ altered_here.old))

  new_found : find_table (ghost_name plan.table) before_it.tables ≡ Some (record { schema = made_schema; rows = altered_here.made })
  new_found = ap (λ (n : List ℕ). find_table (ghost_name n) before_it.tables) (sym named_own) ∙ altered_here.new

  renamed : find_table plan.table after_it.tables ≡ Some (record { schema = new.schema; rows = altered_here.made })
  renamed =
      brings laws.rename plan runs_it serial_it journal entry rename (record { schema = made_schema; rows = altered_here.made }) new_found
      ∙ ap (λ (n : List ℕ). Some (record { schema = record (new.schema) { name = n }; rows = altered_here.made })) (sym (new_name plan table new serial_it is found alters))

  rebuilt : IsRebuiltOf table new (changes_logged plan.table after_it.log) (find_table plan.table after_it.tables)
  rebuilt =
      subst (λ (log : List RowEvent). IsRebuiltOf table new (changes_logged plan.table log) (find_table plan.table after_it.tables)) (sym log_is)
      (rebuilt_from plan table new serial_it is found alters before_it.log so_far.stood.log_fits altered_here.rows altered_here.made (find_table plan.table after_it.tables) rows_are altered_here.altered renamed)

-- *Marks are rebuilt*
pub marks_rebuilt : MarkLaws → AcceptedMarksAreRebuilt
marks_rebuilt laws plan table new journal entry was found alters rename = rebuilt laws plan table new journal entry was found alters rename
