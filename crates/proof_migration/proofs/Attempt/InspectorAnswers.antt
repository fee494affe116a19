-- What the inspector's answers make of what stands in each phase.
use Rattle.std.proofs.Common.{◌≡◌, ℕ, Bool, true, false, cond, not, ◌&&◌, ◌||◌, List, [], ◌∷◌, ◌++◌, map, take, drop, Option, Some, None, refl, sym, ap, ◌∙◌, inl, inr}
use Rattle.std.specs.Prelude.{fold, is_some}
use Rattle.std.specs.List.{list_any}
use Rattle.std.specs.Option.{option_map}
use Rattle.std.specs.Str.{bytes_eq}
use Rattle.std.proofs.Math.Bool.{or-false, or_assoc}
use Rattle.std.proofs.lemmas.Bool.{true≢false, false≢true}
use Rattle.std.proofs.lemmas.List.{take-append-drop}
use Rattle.std.proofs.lemmas.List.Folds.{list_any-append}
use Rattle.base_values.specs.declared.gho_schema.schema.Schema.{Schema}
use Rattle.table_store.specs.Databases.{TableRows, Database, find_table, has_table, is_named}
use Rattle.server_model.specs.declared.answer.Answer.{Answer}
use Rattle.server_model.specs.declared.answer.Answer.TheVariants as answers
use Rattle.server_model.specs.declared.listing.TableName.{TableName}
use Rattle.server_model.specs.declared.request.Request.{Request}
use Rattle.server_model.specs.declared.request.Request.TheVariants as requests
use Rattle.server_model.specs.Listings.{placed_name, tables_shown}
use Rattle.plan_data.specs.PlanData.{PlanData}
use Rattle.base_values.specs.ToolNames.{ghost_name, old_name}
use Rattle.tool_changelog.specs.ToolTables.{sentry_comment, sentry_schema}
use Rattle.tool_program.specs.declared.cutover_core.cutover.Clearing.{Clearing as Cleared}
use Rattle.tool_program.specs.declared.cutover_core.cutover.Clearing.TheVariants.{Looking, Drops}
use Rattle.tool_program.specs.declared.cutover_core.cutover.CutOver.{CutOver}
use Rattle.tool_program.specs.declared.cutover_core.cutover.Hold.{Hold}
use Rattle.tool_program.specs.declared.cutover_core.cutover.Leftovers.{Leftovers}
use Rattle.tool_program.specs.declared.cutover_core.cutover.Phase.{Phase}
use Rattle.tool_program.specs.declared.cutover_core.cutover.Phase.TheVariants.{Resting, Attempting, Ending, Finishing, Finished}
use Rattle.tool_program.specs.declared.cutover_core.cutover.Stage.{Stage}
use Rattle.tool_program.specs.declared.cutover_core.cutover.Stage.TheVariants.{Guarding, Locking, Hinting, Draining, Drained, Showing, Dropping, Unlocking, Exchanging, ReadingCounter, SettingCounter}
use Rattle.tool_program.specs.CutoverCore.Attempts.{is_clear, without_first, has_name, has_sentry}
use Rattle.tool_program.specs.CutoverCore.CutOvers as cutovers
use Rattle.tool_program.specs.CutoverCore.CutOvers.{is_bad, is_wait, inspector_phase, inspector_stage, shows_wait, ending_after, finishing_after, finishing, left_at_end, sentry_alone, seen}
use Rattle.tool_program.specs.declared.cutover_core.cutover.Drain.TheVariants.{Turns, Passed}
use Rattle.tool_program.specs.declared.cutover_core.cutover.Drain.{Drain}
use Rattle.proof_journals.specs.Machine.MigrationTables.{schema_of, TablesExist}
use Rattle.proof_journals.proofs.Machine.Schemas.{is_quiet}
use Rattle.server_model.proofs.LockedRows.Tests.{same_bytes}
use Rattle.proof_migration.proofs.Attempt.LockerAnswers.{OthersStay, DropsOld, both_stay, drop_most, heard_leaves}
use Rattle.proof_migration.proofs.Attempt.Leaving.{AllStay, DropLeaves, has_is}
use Rattle.proof_migration.proofs.Attempt.Stages.{IsFree, SentryAtMost, FreeTables, GuardedTables, TablesAt, InspectorAt, StandsAt, tables_stay, guarded_stay, fails}

-- WHAT SHOW TABLES SHOWS

abbrev shown_of : TableRows → TableName
shown_of table = record { name = table.schema.name; comment = table.schema.comment }

inserted : (test : TableName → Bool) (names : List TableName) (place : ℕ) (new : TableName) → list_any test (take place names ++ new ∷ drop place names) ≡ (list_any test names || test new)
inserted test names place new =
    list_any-append test (take place names) (new ∷ drop place names) ∙ by (list_any test (take place names)) (test new) (list_any test (drop place names)) ∙ ap (λ (b : Bool). b || test new) (sym parts) where
      parts : list_any test names ≡ (list_any test (take place names) || list_any test (drop place names))
      parts = ap (list_any test) (sym (take-append-drop place names)) ∙ list_any-append test (take place names) (drop place names)

      by : (a b c : Bool) → (a || (b || c)) ≡ ((a || c) || b)
      by true b c = refl
      by false true true = refl
      by false true false = refl
      by false false true = refl
      by false false false = refl

placed_any : (test : TableName → Bool) (rest names : List TableName) → list_any test (fold placed_name names rest) ≡ (list_any test names || list_any test rest)
placed_any test [] names = sym (or-false (list_any test names))
placed_any test (first ∷ rest) names =
    placed_any test rest (placed_name names first) ∙ ap (λ (b : Bool). b || list_any test rest) (inserted test names _ first) ∙ or_assoc (list_any test names) (test first) (list_any test rest)

shown_any : (test : TableName → Bool) (tables : Database) → list_any test (tables_shown tables) ≡ list_any test (map shown_of tables)
unfolding tables_shown
shown_any test tables = placed_any test (map shown_of tables) []

mapped_any : (name : List ℕ) (tables : Database) → list_any (λ table. bytes_eq table.name name) (map shown_of tables) ≡ has_table name tables
mapped_any name [] = refl
mapped_any name (table ∷ tables) = ap (λ (b : Bool). is_named name table || b) (mapped_any name tables)

-- *A name is listed* exactly where a table of it stands
pub listed_is : (name : List ℕ) (tables : Database) → has_name name (tables_shown tables) ≡ is_some (schema_of name tables)
listed_is name tables = shown_any (λ table. bytes_eq table.name name) tables ∙ mapped_any name tables ∙ has_is name tables

-- *The sentry is listed* where it stands
sentry_among : (table : List ℕ) (tables : Database) → schema_of (old_name table) tables ≡ Some (sentry_schema table) → list_any (λ listed. bytes_eq listed.name (old_name table) && bytes_eq listed.comment sentry_comment) (map shown_of tables) ≡ true
unfolding sentry_schema
sentry_among table [] none = absurd cc
sentry_among table (first ∷ tables) some = at (is_named (old_name table) first) some (sentry_among table tables) where
  at : (b : Bool) → option_map (λ t. t.schema) (cond b (Some first) (find_table (old_name table) tables)) ≡ Some (sentry_schema table)
      → (schema_of (old_name table) tables ≡ Some (sentry_schema table) → list_any (λ listed. bytes_eq listed.name (old_name table) && bytes_eq listed.comment sentry_comment) (map shown_of tables) ≡ true)
      → ((b && bytes_eq first.schema.comment sentry_comment) || list_any (λ listed. bytes_eq listed.name (old_name table) && bytes_eq listed.comment sentry_comment) (map shown_of tables)) ≡ true
  at true some rest =
      let same : first.schema ≡ sentry_schema table = cc in
      ap (λ (s : Schema). bytes_eq s.comment sentry_comment || list_any (λ listed. bytes_eq listed.name (old_name table) && bytes_eq listed.comment sentry_comment) (map shown_of tables)) same
      ∙ ap (λ (b : Bool). b || list_any (λ listed. bytes_eq listed.name (old_name table) && bytes_eq listed.comment sentry_comment) (map shown_of tables)) (same_bytes sentry_comment)
  at false some rest = rest some

pub sentry_listed : (table : List ℕ) (tables : Database) → schema_of (old_name table) tables ≡ Some (sentry_schema table) → has_sentry table (tables_shown tables) ≡ true
sentry_listed table tables is = shown_any (λ listed. bytes_eq listed.name (old_name table) && bytes_eq listed.comment sentry_comment) tables ∙ sentry_among table tables is

-- AN ANSWER

module _ (plan : PlanData) (before after : Database) (was inspects : Option Request) (hold : Hold) (renames asked : Bool) where
  abbrev Was : Phase → Type 0
  Was phase = StandsAt plan before was phase hold renames asked

  abbrev Becomes : Phase → Type 0
  Becomes phase = StandsAt plan after inspects phase hold renames asked

  -- *What the inspector's turn leaves*, by the phase
  abbrev pub Inspects : Phase → Answer → Type 0
  Inspects (Ending (Drops left)) answer = OthersStay plan before after × DropsOld plan before after answer
  Inspects (Finishing clearing) answer = Unit {0}
  Inspects Finished answer = Unit {0}
  Inspects phase answer = AllStay before after

  -- the tables are listed as they stand, where the RENAME doesn't wait
  abbrev pub ListsWell : Phase → Answer → Type 0
  ListsWell (Ending Looking) (answers.Tables tables) = (tables ≡ tables_shown before) × (renames ≡ false)
  ListsWell phase answer = Unit {0}

  stage_at : (counter : Bool) (stage : Stage) (answer : Answer) → AllStay before after → ((request : Request) → inspects ≡ Some request → InspectorAt plan (Attempting stage) request) → Was (Attempting stage) → Becomes (cond (is_bad answer) (Ending Looking) (Attempting (inspector_stage counter stage answer)))
  stage_at counter stage answer stay waits at = by (is_bad answer) where
    stayed : Becomes (Attempting stage)
    stayed = record { tables = tables_stay plan before after stay (Attempting stage) at.tables; renamer = at.renamer; asked = at.asked; hold = at.hold; left = tt; inspector = waits }

    hints : (answer : Answer) → Becomes (Attempting Hinting) → Becomes (Attempting (inspector_stage counter Hinting answer))
    hints (answers.Ok count) at = begins counter where
      begins : (b : Bool) → Becomes (Attempting (cutovers.hinted b))
      begins true = record { tables = at.tables; renamer = at.renamer; asked = at.asked; hold = tt; left = tt; inspector = at.inspector }
      begins false = record { tables = at.tables; renamer = at.renamer; asked = at.asked; hold = tt; left = tt; inspector = at.inspector }
    hints answer at = at

    drops : (b : Bool) → Becomes (Attempting Showing) → Becomes (Attempting (cond b Dropping Showing))
    drops true at = record { tables = at.tables; renamer = at.renamer; asked = tt; hold = tt; left = tt; inspector = at.inspector }
    drops false at = at

    shows : (answer : Answer) → Becomes (Attempting Showing) → Becomes (Attempting (inspector_stage counter Showing answer))
    shows (answers.Waiting waiters) at = drops (shows_wait waiters) at
    shows answer at = at

    going : (stage : Stage) → Becomes (Attempting stage) → Becomes (Attempting (inspector_stage counter stage answer))
    going Hinting at = hints answer at
    going Showing at = shows answer at
    going (ReadingCounter drain) at = reads answer at where
      reads : (answer : Answer) → Becomes (Attempting (ReadingCounter drain)) → Becomes (Attempting (inspector_stage counter (ReadingCounter drain) answer))
      reads (answers.At number) at = record { tables = at.tables; renamer = at.renamer; asked = at.asked; hold = tt; left = tt; inspector = at.inspector }
      reads answer at = at
    going (SettingCounter number drain) at = sets answer at where
      goes_on : (drain : Drain) → Becomes (Attempting (SettingCounter number drain)) → Becomes (Attempting (cutovers.drain_stage drain))
      goes_on (Turns turns) at = record { tables = at.tables; renamer = at.renamer; asked = at.asked; hold = tt; left = tt; inspector = at.inspector }
      goes_on Passed at = record { tables = at.tables; renamer = at.renamer; asked = tt; hold = tt; left = tt; inspector = at.inspector }

      sets : (answer : Answer) → Becomes (Attempting (SettingCounter number drain)) → Becomes (Attempting (inspector_stage counter (SettingCounter number drain) answer))
      sets (answers.Ok count) at = goes_on drain at
      sets answer at = at
    going Guarding at = at
    going Locking at = at
    going (Draining turns) at = at
    going Drained at = at
    going Dropping at = at
    going Unlocking at = at
    going Exchanging at = at

    by : (b : Bool) → Becomes (cond b (Ending Looking) (Attempting (inspector_stage counter stage answer)))
    by true = fails plan after inspects hold renames asked stage stayed
    by false = going stage stayed

  finishing_at : (left : Leftovers) → Becomes (finishing left)
  finishing_at left = by (is_clear left) where
    by : (b : Bool) → Becomes (cond b Finished (Finishing (Drops left)))
    by true = record { tables = tt; renamer = tt; asked = tt; hold = tt; left = tt; inspector = λ request some. tt }
    by false = record { tables = tt; renamer = tt; asked = tt; hold = tt; left = tt; inspector = λ request some. tt }

  finished_at : (cutover : CutOver) (clearing : Cleared) (answer : Answer) → Becomes (finishing_after cutover clearing answer)
  finished_at cutover clearing answers.Lost = record { tables = tt; renamer = tt; asked = tt; hold = tt; left = tt; inspector = λ request some. tt }
  finished_at cutover clearing (answers.TimedOut waited) = record { tables = tt; renamer = tt; asked = tt; hold = tt; left = tt; inspector = λ request some. tt }
  finished_at cutover Looking (answers.Tables tables) = finishing_at (left_at_end cutover tables)
  finished_at cutover (Drops left) (answers.Ok count) = finishing_at (without_first left)
  finished_at cutover Looking answer = record { tables = tt; renamer = tt; asked = tt; hold = tt; left = tt; inspector = λ request some. tt }
  finished_at cutover (Drops left) answer = record { tables = tt; renamer = tt; asked = tt; hold = tt; left = tt; inspector = λ request some. tt }

  -- behind a failed attempt the tables are listed
  seen_at : (cutover : CutOver) (tables : List TableName) → cutover.table ≡ plan.table → tables ≡ tables_shown before → renames ≡ false → inspects ≡ None → AllStay before after → Was (Ending Looking) → Becomes (seen cutover tables)
  seen_at cutover tables own listed unasked none stay at = by (has_name (ghost_name cutover.table) tables) ghost (has_sentry cutover.table tables) sentry where
    ghost : has_name (ghost_name cutover.table) tables ≡ is_some (schema_of (ghost_name plan.table) before)
    ghost = ap (λ (t : List ℕ). has_name (ghost_name t) tables) own ∙ ap (has_name (ghost_name plan.table)) listed ∙ listed_is (ghost_name plan.table) before

    sentry : schema_of (old_name plan.table) before ≡ Some (sentry_schema plan.table) → has_sentry cutover.table tables ≡ true
    sentry stands = ap (λ (t : List ℕ). has_sentry t tables) own ∙ ap (has_sentry plan.table) listed ∙ sentry_listed plan.table before stands

    no_wait : (P : Request → Type 0) (request : Request) → inspects ≡ Some request → P request
    no_wait P request some = absurd (no (sym none ∙ some)) where
      no : None ≡ Some request → ⊥
      no same = cc

    guarded : TablesAt plan before (Ending Looking) → true ≡ is_some (schema_of (ghost_name plan.table) before) → GuardedTables plan after
    guarded (inl stood) stands = guarded_stay plan before after stay stood
    guarded (inr renamed) stands = absurd (true≢false (stands ∙ ap is_some renamed))

    free_of : SentryAtMost plan before → (schema_of (old_name plan.table) before ≡ Some (sentry_schema plan.table) → ⊥) → IsFree plan before
    free_of (inl none_stands) never = none_stands
    free_of (inr stands) never = absurd (never stands)

    free : TablesAt plan before (Ending Looking) → true ≡ is_some (schema_of (ghost_name plan.table) before) → (schema_of (old_name plan.table) before ≡ Some (sentry_schema plan.table) → ⊥) → FreeTables plan after
    free (inl stood) stands never = record { stand = (guarded_stay plan before after stay stood).stand; free = stay (old_name plan.table) ∙ free_of stood.sentry never }
    free (inr renamed) stands never = absurd (true≢false (stands ∙ ap is_some renamed))

    by : (a : Bool) → a ≡ is_some (schema_of (ghost_name plan.table) before) → (b : Bool) → (schema_of (old_name plan.table) before ≡ Some (sentry_schema plan.table) → b ≡ true) → Becomes (cond (not a) (finishing (left_at_end cutover tables)) (cond b (Ending (Drops sentry_alone)) Resting))
    by false stands b sentry = finishing_at (left_at_end cutover tables)
    by true stands true sentry = record { tables = guarded at.tables stands; renamer = unasked; asked = tt; hold = tt; left = refl; inspector = no_wait (λ r. r ≡ requests.Drop (old_name plan.table)) }
    by true stands false sentry = record { tables = free at.tables stands (λ stands. false≢true (sentry stands)); renamer = unasked; asked = tt; hold = tt; left = tt; inspector = no_wait (λ r. is_quiet r ≡ true) }

  -- the sentry is dropped
  drops_at : (cutover : CutOver) (left : Leftovers) (answer : Answer) → OthersStay plan before after × DropsOld plan before after answer → ((request : Request) → inspects ≡ Some request → (request ≡ requests.Drop (old_name plan.table)) × (is_wait answer ≡ true)) → Was (Ending (Drops left)) → Becomes (ending_after cutover (Drops left) answer)
  drops_at cutover left answer leaves waits at = by answer leaves.1 waits where
    stand : TablesExist plan after
    stand = both_stay plan before after leaves.0 at.tables.stand

    most : (answer : Answer) → DropsOld plan before after answer → SentryAtMost plan after
    most answer drops = drop_most plan before after answer drops at.tables.sentry

    unwaited : (P : Request → Type 0) (answer : Answer) → is_wait answer ≡ false → ((request : Request) → inspects ≡ Some request → (request ≡ requests.Drop (old_name plan.table)) × (is_wait answer ≡ true)) → (request : Request) → inspects ≡ Some request → P request
    unwaited P answer off waits request some = absurd (true≢false (sym (waits request some).1 ∙ off))

    looks : (answer : Answer) → is_wait answer ≡ false → DropsOld plan before after answer → ((request : Request) → inspects ≡ Some request → (request ≡ requests.Drop (old_name plan.table)) × (is_wait answer ≡ true)) → Becomes (Ending Looking)
    looks answer off drops waits = record { tables = inl (record { stand = stand; sentry = most answer drops }); renamer = tt; asked = tt; hold = tt; left = tt; inspector = unwaited (λ r. is_quiet r ≡ true) answer off waits }

    stays : (answer : Answer) → DropsOld plan before after answer → ((request : Request) → inspects ≡ Some request → (request ≡ requests.Drop (old_name plan.table)) × (is_wait answer ≡ true)) → Becomes (Ending (Drops left))
    stays answer drops waits = record { tables = record { stand = stand; sentry = most answer drops }; renamer = at.renamer; asked = tt; hold = tt; left = at.left; inspector = λ request some. (waits request some).0 }

    by : (answer : Answer) → DropsOld plan before after answer → ((request : Request) → inspects ≡ Some request → (request ≡ requests.Drop (old_name plan.table)) × (is_wait answer ≡ true)) → Becomes (ending_after cutover (Drops left) answer)
    by answers.Lost drops waits = looks answers.Lost refl drops waits
    by (answers.TimedOut waited) drops waits = looks (answers.TimedOut waited) refl drops waits
    by (answers.Ok count) drops waits = record {
      tables = record { stand = stand; free = heard_leaves (DropLeaves (old_name plan.table) before) before after (answers.Ok count) (λ same. cc) drops };
      renamer = at.renamer;
      asked = tt;
      hold = tt;
      left = tt;
      inspector = unwaited (λ r. is_quiet r ≡ true) (answers.Ok count) refl waits;
    }
    by answer drops waits = stays answer drops waits

  looking_at : (cutover : CutOver) (answer : Answer) → cutover.table ≡ plan.table → AllStay before after → ListsWell (Ending Looking) answer → ((request : Request) → inspects ≡ Some request → InspectorAt plan (Ending Looking) request × (is_wait answer ≡ true)) → Was (Ending Looking) → Becomes (ending_after cutover Looking answer)
  looking_at cutover answer own stay lists waits at = by answer lists waits where
    stayed : ((request : Request) → inspects ≡ Some request → InspectorAt plan (Ending Looking) request) → Becomes (Ending Looking)
    stayed waits = record { tables = tables_stay plan before after stay (Ending Looking) at.tables; renamer = tt; asked = tt; hold = tt; left = tt; inspector = waits }

    none_waits : (tables : List TableName) (one : Option Request) → inspects ≡ one → ((request : Request) → inspects ≡ Some request → InspectorAt plan (Ending Looking) request × (is_wait (answers.Tables tables) ≡ true)) → one ≡ None
    none_waits tables None is waits = refl
    none_waits tables (Some request) is waits = absurd (false≢true (waits request is).1)

    by : (answer : Answer) → ListsWell (Ending Looking) answer → ((request : Request) → inspects ≡ Some request → InspectorAt plan (Ending Looking) request × (is_wait answer ≡ true)) → Becomes (ending_after cutover Looking answer)
    by answers.Lost lists waits = stayed (λ request some. (waits request some).0)
    by (answers.TimedOut waited) lists waits = stayed (λ request some. (waits request some).0)
    by (answers.Tables tables) lists waits = seen_at cutover tables own lists.0 lists.1 (none_waits tables inspects refl waits) stay at
    by answer lists waits = stayed (λ request some. (waits request some).0)

  -- *The inspector's answer*
  pub inspector_at : (cutover : CutOver) (phase : Phase) (answer : Answer) → cutover.table ≡ plan.table → Inspects phase answer → ListsWell phase answer → ((request : Request) → inspects ≡ Some request → InspectorAt plan phase request × (is_wait answer ≡ true)) → Was phase → Becomes (inspector_phase cutover phase answer)
  inspector_at cutover Resting answer own leaves lists waits at = record { tables = tables_stay plan before after leaves Resting at.tables; renamer = at.renamer; asked = tt; hold = tt; left = tt; inspector = λ request some. (waits request some).0 }
  inspector_at cutover (Attempting stage) answer own leaves lists waits at = stage_at cutover.has_counter stage answer leaves (λ request some. (waits request some).0) at
  inspector_at cutover (Ending Looking) answer own leaves lists waits at = looking_at cutover answer own leaves lists waits at
  inspector_at cutover (Ending (Drops left)) answer own leaves lists waits at = drops_at cutover left answer leaves waits at
  inspector_at cutover (Finishing clearing) answer own leaves lists waits at = finished_at cutover clearing answer
  inspector_at cutover Finished answer own leaves lists waits at = record { tables = tt; renamer = tt; asked = tt; hold = tt; left = tt; inspector = λ request some. tt }
