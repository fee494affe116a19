-- Each call of the tool's machines is online.
use Rattle.std.proofs.Common.{◌≡◌, ℕ, Bool, true, false, List, [], ◌∷◌, refl, sym, subst}
use Rattle.std.proofs.Math.Bool.{or-true}
use Rattle.std.specs.Prelude.{if◌then◌else◌, not}
use Rattle.std.specs.List.{list_any}
use Rattle.std.specs.Str.{bytes_eq}
use Rattle.base_values.specs.declared.value.Value.{Value}
use Rattle.base_values.specs.declared.span.Bound.{Bound}
use Rattle.base_values.specs.declared.span.Span.{Span}
use Rattle.base_values.specs.declared.gho_schema.schema.Schema.{Schema}
use Rattle.base_values.specs.declared.row_conversion.map.MapColumn.{MapColumn}
use Rattle.base_script.specs.declared.actor.Actor.TheVariants.{Insp, Copy, Apply, Lock, Ren}
use Rattle.base_script.specs.declared.statement.Statement.{Statement}
use Rattle.server_model.specs.declared.request.Request.TheVariants as requests
use Rattle.server_model.specs.Operations.{table_of}
use Rattle.plan_data.specs.PlanData.{PlanData, new_schema}
use Rattle.base_values.specs.ToolNames.{ghost_name, log_name, old_name}
use Rattle.tool_changelog.specs.ToolTables.{log_schema, sentry_schema}
use Rattle.tool_program.specs.declared.cutover_core.cutover.Leftovers.{Leftovers}
use Rattle.tool_program.specs.CutoverCore.Attempts.{first_name, exchange, writes_hint}
use Rattle.tool_program.specs.NoteWriter.Notes.{writes}
use Rattle.tool_program.specs.Operators.{is_throttled}
use Rattle.tool_program.specs.Tools.{Moment}
use Rattle.tool_program.specs.Online.{attempt_goes_on, is_near, attempt_stands, is_written, only_reads}
use Rattle.tool_program.specs.OnlineCalls.{AsksWell}
use Rattle.tool_program.proofs.OnlineCalls.Naming.{written_ghost, written_log, not_ghost, not_log, not_old, known_own, known_ghost, known_log, known_old, known_first, not_first, is_known, all_one, all_two, all_four, any_none}

free : (test well : Bool) → test ≡ false → (if test then well else true) ≡ true
free test well is = rw is refl

goes : (test well : Bool) → well ≡ true → (if test then well else true) ≡ true
goes true well is = is
goes false well is = refl

-- THE INSPECTOR

pub looks : (plan : PlanData) (now : Moment) → AsksWell plan now Insp requests.ShowTables
looks plan now = record { writes = refl; names = refl; excludes = refl; guards = refl; held = refl; copies = refl }

pub watches : (plan : PlanData) (now : Moment) → AsksWell plan now Insp requests.ShowWaiting
watches plan now = record { writes = refl; names = refl; excludes = refl; guards = refl; held = refl; copies = refl }

pub shows_counter : (plan : PlanData) (now : Moment) → AsksWell plan now Insp (requests.ShowCounter plan.table)
shows_counter plan now = record { writes = refl; names = all_one (is_known plan.table) plan.table (known_own plan.table); excludes = refl; guards = refl; held = refl; copies = refl }

pub sets_counter : (plan : PlanData) (now : Moment) (number : ℕ) → AsksWell plan now Insp (requests.SetCounter (ghost_name plan.table) number)
sets_counter plan now number =
    record {
      writes = written_ghost plan.table;
      names = all_one (is_known plan.table) (ghost_name plan.table) (known_ghost plan.table);
      excludes = free (list_any (bytes_eq plan.table) (ghost_name plan.table ∷ [])) _ (any_none (bytes_eq plan.table) (ghost_name plan.table) (not_ghost plan.table));
      guards = refl;
      held = refl;
      copies = refl;
    }

pub marks : (plan : PlanData) (now : Moment) → AsksWell plan now Insp requests.LogEnd
marks plan now = record { writes = refl; names = refl; excludes = refl; guards = refl; held = refl; copies = refl }

pub reaches : (plan : PlanData) (now : Moment) → AsksWell plan now Insp (requests.Ends plan.table)
reaches plan now = record { writes = refl; names = all_one (is_known plan.table) plan.table (known_own plan.table); excludes = refl; guards = refl; held = refl; copies = refl }

pub drops : (plan : PlanData) (now : Moment) (left : Leftovers) → AsksWell plan now Insp (requests.Drop (first_name plan.table left))
drops plan now left =
    record {
      writes = refl;
      names = all_one (is_known plan.table) (first_name plan.table left) (known_first plan.table left);
      excludes = free (list_any (bytes_eq plan.table) (first_name plan.table left ∷ [])) _ (any_none (bytes_eq plan.table) (first_name plan.table left) (not_first plan.table left));
      guards = refl;
      held = refl;
      copies = refl;
    }

pub makes : (plan : PlanData) (now : Moment) (schema : Schema) → is_known plan.table schema.name ≡ true → bytes_eq plan.table schema.name ≡ false → AsksWell plan now Insp (requests.Create schema)
makes plan now schema known other =
    record {
      writes = refl;
      names = all_one (is_known plan.table) schema.name known;
      excludes = free (list_any (bytes_eq plan.table) (schema.name ∷ [])) _ (any_none (bytes_eq plan.table) schema.name other);
      guards = refl;
      held = refl;
      copies = refl;
    }

pub makes_log : (plan : PlanData) (now : Moment) → AsksWell plan now Insp (requests.Create (log_schema plan.table))
unfolding log_schema
makes_log plan now = makes plan now (log_schema plan.table) (known_log plan.table) (not_log plan.table)

pub makes_ghost : (plan : PlanData) (now : Moment) → AsksWell plan now Insp (requests.Create (record (new_schema plan) { name = ghost_name plan.table }))
makes_ghost plan now = makes plan now (record (new_schema plan) { name = ghost_name plan.table }) (known_ghost plan.table) (not_ghost plan.table)

pub hints : (plan : PlanData) (now : Moment) (attempt : ℕ) → AsksWell plan now Insp (writes_hint plan.table attempt)
hints plan now attempt =
    record {
      writes = written_log plan.table;
      names = all_one (is_known plan.table) (log_name plan.table) (known_log plan.table);
      excludes = refl;
      guards = refl;
      held = refl;
      copies = refl;
    }

-- the row of a note
pub notes : (plan : PlanData) (now : Moment) (row : List Value) → AsksWell plan now Insp (writes plan.table row)
notes plan now row =
    record {
      writes = written_log plan.table;
      names = all_one (is_known plan.table) (log_name plan.table) (known_log plan.table);
      excludes = refl;
      guards = refl;
      held = refl;
      copies = refl;
    }

-- THE COPIER

pub copier_rolls_back : (plan : PlanData) (now : Moment) → AsksWell plan now Copy requests.Rollback
copier_rolls_back plan now = record { writes = refl; names = refl; excludes = refl; guards = refl; held = refl; copies = refl }

pub copier_commits : (plan : PlanData) (now : Moment) → AsksWell plan now Copy requests.Commit
copier_commits plan now = record { writes = refl; names = refl; excludes = refl; guards = refl; held = refl; copies = refl }

pub chooses : (plan : PlanData) (now : Moment) (table : List ℕ) (low : Bound) (top : List Value) (size : ℕ) → table ≡ plan.table → is_throttled plan now.server now.tool.operator ≡ false → AsksWell plan now Copy (requests.ChunkEnd table low top size)
chooses plan now table low top size same off =
    subst (λ (t : List ℕ). AsksWell plan now Copy (requests.ChunkEnd t low top size)) (sym same)
    (record { writes = refl; names = all_one (is_known plan.table) plan.table (known_own plan.table); excludes = refl; guards = refl; held = rw off refl; copies = refl })

pub spans : (plan : PlanData) (now : Moment) (table : List ℕ) (span : Span) (size : ℕ) → table ≡ plan.table → AsksWell plan now Copy (requests.BeginSpan table span size)
spans plan now table span size same =
    subst (λ (t : List ℕ). AsksWell plan now Copy (requests.BeginSpan t span size)) (sym same)
    (record { writes = refl; names = all_one (is_known plan.table) plan.table (known_own plan.table); excludes = refl; guards = refl; held = refl; copies = refl })

pub copies_row : (plan : PlanData) (now : Moment) (table : List ℕ) (map : List MapColumn) (key : List Value) → table ≡ plan.table → AsksWell plan now Copy (requests.CopyRow table (ghost_name table) map key)
copies_row plan now table map key same =
    subst (λ (t : List ℕ). AsksWell plan now Copy (requests.CopyRow t (ghost_name t) map key)) (sym same)
    (record { writes = written_ghost plan.table; names = all_two (is_known plan.table) plan.table (ghost_name plan.table) (known_own plan.table) (known_ghost plan.table); excludes = refl; guards = refl; held = refl; copies = refl })

-- THE APPLIER

pub applier_rolls_back : (plan : PlanData) (now : Moment) → AsksWell plan now Apply requests.Rollback
applier_rolls_back plan now = record { writes = refl; names = refl; excludes = refl; guards = refl; held = refl; copies = refl }

pub applier_commits : (plan : PlanData) (now : Moment) → AsksWell plan now Apply requests.Commit
applier_commits plan now = record { writes = refl; names = refl; excludes = refl; guards = refl; held = refl; copies = refl }

pub applier_begins : (plan : PlanData) (now : Moment) → AsksWell plan now Apply requests.Begin
applier_begins plan now = record { writes = refl; names = refl; excludes = refl; guards = refl; held = refl; copies = refl }

-- outside an attempt only where the tool isn't throttled
reads_free : (plan : PlanData) (now : Moment) (stands off : Bool) → (stands ≡ false → off ≡ false) → (if not stands then not off else true) ≡ true
reads_free plan now true off holds = refl
reads_free plan now false off holds = rw (holds refl) refl

pub reads : (plan : PlanData) (now : Moment) (table : List ℕ) (position limit : ℕ) → table ≡ plan.table → (attempt_stands now.tool.tool_phase ≡ false → is_throttled plan now.server now.tool.operator ≡ false)
    → AsksWell plan now Apply (requests.ReadLog position limit (table ∷ log_name table ∷ []))
reads plan now table position limit same holds =
    subst (λ (t : List ℕ). AsksWell plan now Apply (requests.ReadLog position limit (t ∷ log_name t ∷ []))) (sym same)
    (record {
      writes = refl;
      names = all_two (is_known plan.table) plan.table (log_name plan.table) (known_own plan.table) (known_log plan.table);
      excludes = refl;
      guards = refl;
      held = reads_free plan now (attempt_stands now.tool.tool_phase) (is_throttled plan now.server now.tool.operator) holds;
      copies = refl;
    })

pub applies : (plan : PlanData) (now : Moment) (statement : Statement) → table_of statement ≡ ghost_name plan.table → AsksWell plan now Apply (requests.Do statement)
applies plan now statement into =
    record {
      writes = (let written : is_written plan (table_of statement) ≡ true = subst (λ (t : List ℕ). is_written plan t ≡ true) (sym into) (written_ghost plan.table) in rw written (or-true (only_reads statement)));
      names = all_one (is_known plan.table) (table_of statement) (subst (λ (t : List ℕ). is_known plan.table t ≡ true) (sym into) (known_ghost plan.table));
      excludes = refl;
      guards = refl;
      held = refl;
      copies = refl;
    }

-- THE LOCKER AND THE RENAMER

pub guards : (plan : PlanData) (now : Moment) (table : List ℕ) → table ≡ plan.table → is_near plan now now.tool.tool_phase ≡ true → is_throttled plan now.server now.tool.operator ≡ false → AsksWell plan now Lock (requests.Create (sentry_schema table))
unfolding sentry_schema
guards plan now table same near off =
    subst (λ (t : List ℕ). AsksWell plan now Lock (requests.Create (sentry_schema t))) (sym same)
    (record {
      writes = refl;
      names = all_one (is_known plan.table) (old_name plan.table) (known_old plan.table);
      excludes = free (list_any (bytes_eq plan.table) (old_name plan.table ∷ [])) _ (any_none (bytes_eq plan.table) (old_name plan.table) (not_old plan.table));
      guards = near;
      held = rw off refl;
      copies = refl;
    })

pub locks : (plan : PlanData) (now : Moment) (table : List ℕ) → table ≡ plan.table → attempt_goes_on now.tool.tool_phase ≡ true → AsksWell plan now Lock (requests.LockTables (table ∷ old_name table ∷ []))
locks plan now table same going =
    subst (λ (t : List ℕ). AsksWell plan now Lock (requests.LockTables (t ∷ old_name t ∷ []))) (sym same)
    (record {
      writes = refl;
      names = all_two (is_known plan.table) plan.table (old_name plan.table) (known_own plan.table) (known_old plan.table);
      excludes = goes (list_any (bytes_eq plan.table) (plan.table ∷ old_name plan.table ∷ [])) (attempt_goes_on now.tool.tool_phase) going;
      guards = refl;
      held = refl;
      copies = refl;
    })

pub unguards : (plan : PlanData) (now : Moment) (table : List ℕ) → table ≡ plan.table → AsksWell plan now Lock (requests.Drop (old_name table))
unguards plan now table same =
    subst (λ (t : List ℕ). AsksWell plan now Lock (requests.Drop (old_name t))) (sym same)
    (record {
      writes = refl;
      names = all_one (is_known plan.table) (old_name plan.table) (known_old plan.table);
      excludes = free (list_any (bytes_eq plan.table) (old_name plan.table ∷ [])) _ (any_none (bytes_eq plan.table) (old_name plan.table) (not_old plan.table));
      guards = refl;
      held = refl;
      copies = refl;
    })

pub unlocks : (plan : PlanData) (now : Moment) → AsksWell plan now Lock requests.Unlock
unlocks plan now = record { writes = refl; names = refl; excludes = refl; guards = refl; held = refl; copies = refl }

pub exchanges : (plan : PlanData) (now : Moment) (table : List ℕ) → table ≡ plan.table → attempt_goes_on now.tool.tool_phase ≡ true → AsksWell plan now Ren (exchange table)
exchanges plan now table same going =
    subst (λ (t : List ℕ). AsksWell plan now Ren (exchange t)) (sym same)
    (record {
      writes = refl;
      names = all_four (is_known plan.table) plan.table (old_name plan.table) (ghost_name plan.table) (known_own plan.table) (known_old plan.table) (known_ghost plan.table);
      excludes = goes (list_any (bytes_eq plan.table) (plan.table ∷ old_name plan.table ∷ ghost_name plan.table ∷ plan.table ∷ [])) (attempt_goes_on now.tool.tool_phase) going;
      guards = refl;
      held = refl;
      copies = refl;
    })
