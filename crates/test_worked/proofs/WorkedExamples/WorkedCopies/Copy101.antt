-- One worked run of a plan, with all that the law over journals asks of it, turn by turn; so by the law its new table is the
-- altered one at the mark.
use Rattle.std.proofs.Common.{pos, true, false, None, ◌≡◌, ℕ, Bool, List, [], ◌∷◌, ◌++◌, drop, Option, Some, Ok, refl, sym, ap, ◌∙◌, subst, cond, arith}
use Rattle.std.specs.Prelude.{codes, ◌==◌}
use Rattle.std.specs.List.{AllByRecursion}
use Rattle.base_values.specs.declared.kind.Kind.TheVariants.{Int, VarChar}
use Rattle.base_values.specs.declared.span.Bound.TheVariants.{Open, Closed}
use Rattle.base_values.specs.declared.value.Value.TheVariants.{Null, Num, Text}
use Rattle.base_values.specs.Laws.{StoresAgain}
use Rattle.base_values.proofs.StoredValues.{keeps}
use Rattle.base_values.specs.declared.gho_schema.schema.Schema.{Schema}
use Rattle.base_values.specs.GhoSchema.ClusteredKey.{clustered_place}
use Rattle.base_values.specs.GhoSchema.Tables.{IsTable}
use Rattle.base_values.specs.declared.row_conversion.clause.Clause.{Clause}
use Rattle.base_values.specs.declared.row_conversion.clause.Clause.TheVariants as clauses
use Rattle.base_values.specs.declared.row_conversion.clause.ColumnPosition.TheVariants.{First, Unsaid}
use Rattle.base_values.specs.declared.row_conversion.map.Origin.TheVariants as from
use Rattle.sql_change.specs.AlteredSchema.{altered}
use Rattle.base_values.specs.SchemaRules.Valid.{IsValid}
use Rattle.base_values.specs.declared.event.Change.TheVariants as changes
use Rattle.base_script.specs.declared.actor.Actor.TheVariants.{Op, Insp, Copy, Apply, Lock, Ren, Client}
use Rattle.base_script.specs.declared.operator.OperatorWord.TheVariants as commanded
use Rattle.base_script.specs.declared.statement.Condition.TheVariants as conditions
use Rattle.base_script.specs.declared.statement.Shown.TheVariants as shown
use Rattle.base_script.specs.declared.statement.Statement.TheVariants as statements
use Rattle.server_model.specs.declared.answer.Answer.{Answer}
use Rattle.server_model.specs.declared.answer.Answer.TheVariants as answers
use Rattle.server_model.specs.declared.entry.Asked.TheVariants.{Call, Poll, Command}
use Rattle.server_model.specs.declared.entry.Entry.{Entry}
use Rattle.server_model.specs.declared.outcome.Progress.TheVariants.{Going, TaskDone, Unfit}
use Rattle.server_model.specs.declared.request.Request.{Request}
use Rattle.server_model.specs.declared.request.Request.TheVariants as requests
use Rattle.server_model.specs.declared.session.Limits.{Limits}
use Rattle.server_model.specs.declared.session.Session.{Session}
use Rattle.server_model.specs.Answers.{ok}
use Rattle.tool_program.specs.declared.chunk_copier.copier.Copier.{Copier}
use Rattle.tool_program.specs.declared.chunk_copier.copier.CopyStep.{CopyStep}
use Rattle.tool_program.specs.declared.chunk_copier.copier.CopyStep.TheVariants.{Choosing, Spanning, Copying}
use Rattle.tool_program.specs.declared.chunk_copier.copier.CopyStep.TheVariants as copies
use Rattle.tool_program.specs.declared.event_applier.applier.Applier.{Applier}
use Rattle.tool_program.specs.declared.event_applier.applier.ApplyStep.{ApplyStep}
use Rattle.tool_program.specs.declared.event_applier.applier.ApplyStep.TheVariants.{Reading, Beginning, Applying}
use Rattle.tool_program.specs.declared.event_applier.applier.ApplyStep.TheVariants as applies
use Rattle.tool_program.specs.declared.event_applier.applier.Part.TheVariants.{Whole}
use Rattle.proof_journals.specs.Scenes.{Scene}
use Rattle.proof_journals.specs.Holdings.{face_of}
use Rattle.proof_journals.specs.Plans as plans
use Rattle.proof_journals.specs.Plans.{limits_of, scene_of}
use Rattle.proof_journals.specs.Turns.{IsSceneRun, scene_state}
use Rattle.proof_journals.proofs.PlanJournals.{plan_runs_are_scene_runs}
use Rattle.plan_data.specs.PlanData.{Altered}
use Rattle.proof_migration.specs.Migration.Planning.{migration_of}
use Rattle.proof_migration.proofs.Migration.Planning.Planned.{alters_planned}
use Rattle.proof_journals.specs.Ghost.Rows.Moments.{Row}
use Rattle.proof_journals.specs.Ghost.Rows.Timelines.{IsPlanned, Migration}
use Rattle.proof_journals.specs.Ghost.Copies.{IsAltered, rows_now}
use Rattle.proof_journals.specs.Ghost.ToolTurns.{ToolMoment}
use Rattle.table_store.specs.Databases.{find_table}
use Rattle.proof_journals.specs.Ghost.HeldKeys.{Clustered}
use Rattle.proof_journals.specs.Ghost.Invariant.{NotOf}
use Rattle.proof_journals.proofs.Ghost.Turns.{run_front}
use Rattle.proof_migration.specs.Migration.Applier.FoundColumns.{FindsRows}
use Rattle.proof_migration.proofs.Migration.Applier.Stated.{alters_find_rows}
use Rattle.proof_migration.specs.Migration.Away.{KeepsAway, OthersAway}
use Rattle.proof_migration.specs.Migration.Machines.{IsMigrationEnd, IsMigrationStart, Machines, MigrationRun, MigrationTurn, Step, hold_at, journal_after, machines_after, moment_at}
use Rattle.proof_migration.specs.Migration.Machines.MigrationTurn.{copier_turns, applier_turns, others_turn}
use Rattle.proof_migration.specs.Migration.Machines.Step.{Turned}
use Rattle.proof_migration.proofs.Migration.Migrating.{journals_alter}
use Rattle.test_worked.proofs.Computing.{computing}
use Rattle.test_worked.proofs.Plans1.{plan_101, journal_101}
use Rattle.test_worked.proofs.SerialRun.{run_101}

infixr 5 ◌▸◌
-- one turn, and those behind it
abbrev ◌▸◌ : {A B : Type 0} → A → B → A × B
first ▸ others = (first, others)

-- ---- the migration

abbrev old_101 : Schema
old_101 =
    record {
      name = codes "t";
      columns = (record { name = codes "id"; kind = Int 1 false; nullable = false; default = None; auto = false } ∷ record { name = codes "m0"; kind = Int 4 false; nullable = true; default = (Some Null); auto = false } ∷ record { name = codes "v"; kind = Int 4 false; nullable = true; default = (Some Null); auto = false } ∷ []);
      uniques = (record { name = None; places = (0 ∷ []) } ∷ record { name = (Some (codes "u0")); places = (1 ∷ []) } ∷ []);
      indexes = [];
      comment = [];
      start = None;
    }

abbrev made_101 : Schema
made_101 =
    record {
      name = codes "t";
      columns =
          (record { name = codes "b"; kind = VarChar 4; nullable = true; default = (Some (Text (codes "n"))); auto = false } ∷ record { name = codes "id"; kind = Int 1 false; nullable = false; default = None; auto = false }
          ∷ record { name = codes "m0"; kind = Int 4 false; nullable = true; default = (Some Null); auto = false } ∷ record { name = codes "v"; kind = Int 4 false; nullable = true; default = (Some Null); auto = false } ∷ []);
      uniques = (record { name = None; places = (1 ∷ []) } ∷ record { name = (Some (codes "u0")); places = (2 ∷ []) } ∷ []);
      indexes = [];
      comment = [];
      start = None;
    }

abbrev map_101 : List Rattle.base_values.specs.declared.row_conversion.map.MapColumn.MapColumn
map_101 = (record { kind = VarChar 4; nullable = true; origin = from.Added (Text (codes "n")) } ∷ record { kind = Int 1 false; nullable = false; origin = from.Old 0 } ∷ record { kind = Int 4 false; nullable = true; origin = from.Old 1 } ∷ record { kind = Int 4 false; nullable = true; origin = from.Old 2 } ∷ [])

abbrev alter_101 : List Clause
alter_101 = (clauses.Add (record { name = codes "b"; kind = VarChar 4; nullable = None; default = (Some (Text (codes "n"))); auto = false }) First ∷ clauses.Change (codes "m0") (record { name = codes "m0"; kind = Int 4 false; nullable = None; default = None; auto = false }) Unsaid ∷ [])

abbrev new_101 : Altered
new_101 = (made_101, map_101)

abbrev rows_101 : List Row
rows_101 = (((Num (pos 5)) ∷ (Num (pos 2)) ∷ (Num (pos 6)) ∷ []) ∷ [])

abbrev m_101 : Migration
m_101 = migration_of old_101 new_101

abbrev limits_101 : Limits
limits_101 = limits_of plan_101

abbrev scene_101 : Scene
scene_101 = scene_of plan_101 journal_101

again : StoresAgain
again value kind nullable stored is = (keeps value kind nullable stored is).again

valid_old : IsValid old_101
unfolding computing
valid_old =
    record {
      some = grind (arith);
      few = grind (arith);
      names = refl;
      columns = (record { kind = refl; default = tt }, (record { kind = refl; default = refl }, (record { kind = refl; default = refl }, tt)));
      uniques = (record { some = grind (arith); within = (grind (arith), tt) }, (record { some = grind (arith); within = (grind (arith), tt) }, tt));
      indexes = tt;
      clustered = refl;
    }

valid_new : IsValid made_101
unfolding computing
valid_new =
    record {
      some = grind (arith);
      few = grind (arith);
      names = refl;
      columns = (record { kind = refl; default = refl }, (record { kind = refl; default = tt }, (record { kind = refl; default = refl }, (record { kind = refl; default = refl }, tt))));
      uniques = (record { some = grind (arith); within = (grind (arith), tt) }, (record { some = grind (arith); within = (grind (arith), tt) }, tt));
      indexes = tt;
      clustered = refl;
    }

altered_so : altered true old_101 alter_101 ≡ Ok new_101
unfolding computing
altered_so = refl

table_101 : IsTable old_101 rows_101
unfolding computing
table_101 = record { rows_fit = ((refl, (refl, (refl, tt))), tt); ascends = (tt, tt); apart = (tt, tt) }

planned_101 : IsPlanned m_101 rows_101
planned_101 = alters_planned again true old_101 alter_101 new_101 rows_101 valid_old altered_so table_101

finds_101 : FindsRows m_101
finds_101 = alters_find_rows true old_101 alter_101 new_101 valid_old valid_new altered_so

at_101 : Clustered old_101
unfolding computing
at_101 = record { place = 0; index = record { name = None; places = (0 ∷ []) }; at = refl; there = refl; its = refl }

place_101 : clustered_place (m_101).new ≡ Some 0
unfolding computing
place_101 = refl

-- ---- the machines

abbrev copying : CopyStep → ℕ → Option ℕ → Bool → Copier
copying step number following copied =
    record { table = codes "t"; map = map_101; range = Some (record { low = Closed ((Num (pos 5)) ∷ []); top = ((Num (pos 7)) ∷ []) }); size = 1; number = number; following = following; is_copied = copied; step = step }

abbrev applying : ℕ → ℕ → ApplyStep → Applier
applying position hint step = record { table = codes "t"; new_schema = record made_101 { name = codes "_t_gho" }; map = map_101; batch = 3; position = position; hint = hint; step = step }

-- no row was found that doesn't fit
going : (place number : ℕ) → Going ≡ Unfit place number → ⊥
going place number e = cc

over : (place number : ℕ) → TaskDone ≡ Unfit place number → ⊥
over place number e = cc

-- other sessions keep away
none_asked : (request : Request) → (let none : Option Request = None in none) ≡ Some request → ⊥
none_asked request e = cc

away_of : (reported : Option Answer) (asks : Request) → KeepsAway m_101 reported asks → (request : Request) → Some asks ≡ Some request → KeepsAway m_101 reported request
away_of reported asks away request is = let same : asks ≡ request = cc in subst (KeepsAway m_101 reported) same away

waits_on : {A : Type 0} (by : ℕ) → Some (answers.Waits by) ≡ Some ok → A
waits_on by is = absurd (let no : ⊥ = cc in no)

-- ---- the journal

abbrev entry_1 : Entry
entry_1 = record { actor = Insp; session = 1; asked = Call requests.ShowTables; side = None; answer = answers.Tables (record { name = codes "_t_ghc"; comment = [] } ∷ record { name = codes "t"; comment = [] } ∷ []); missed = None; draw = None }

abbrev entry_2 : Entry
entry_2 = record { actor = Insp; session = 1; asked = Call (requests.Drop (codes "_t_ghc")); side = None; answer = answers.Ok 0; missed = None; draw = None }

abbrev entry_3 : Entry
entry_3 = record { actor = Insp; session = 1; asked = Call (requests.Create (record { name = codes "_t_ghc"; columns = (record { name = codes "id"; kind = Int 8 false; nullable = false; default = None; auto = false } ∷ record { name = codes "hint"; kind = VarChar 64; nullable = false; default = None; auto = false } ∷ record { name = codes "value"; kind = VarChar 255; nullable = false; default = None; auto = false } ∷ []); uniques = (record { name = None; places = (0 ∷ []) } ∷ []); indexes = []; comment = []; start = None })); side = None; answer = answers.Ok 0; missed = None; draw = None }

abbrev entry_4 : Entry
entry_4 = record { actor = Insp; session = 1; asked = Call (requests.Create (record { name = codes "_t_gho"; columns = (record { name = codes "b"; kind = VarChar 4; nullable = true; default = (Some (Text (codes "n"))); auto = false } ∷ record { name = codes "id"; kind = Int 1 false; nullable = false; default = None; auto = false } ∷ record { name = codes "m0"; kind = Int 4 false; nullable = true; default = (Some Null); auto = false } ∷ record { name = codes "v"; kind = Int 4 false; nullable = true; default = (Some Null); auto = false } ∷ []); uniques = (record { name = None; places = (1 ∷ []) } ∷ record { name = (Some (codes "u0")); places = (2 ∷ []) } ∷ []); indexes = []; comment = []; start = None })); side = None; answer = answers.Ok 0; missed = None; draw = None }

abbrev entry_5 : Entry
entry_5 = record { actor = Insp; session = 1; asked = Call requests.LogEnd; side = None; answer = answers.At 0; missed = None; draw = None }

abbrev entry_6 : Entry
entry_6 = record { actor = Op; session = 0; asked = Command commanded.NoThrottle; side = None; answer = answers.Ok 0; missed = None; draw = None }

abbrev entry_7 : Entry
entry_7 = record { actor = Op; session = 0; asked = Command commanded.Unpostpone; side = None; answer = answers.Ok 0; missed = None; draw = None }

abbrev entry_8 : Entry
entry_8 = record { actor = Op; session = 0; asked = Command (commanded.ChunkSize 1); side = None; answer = answers.Ok 0; missed = None; draw = None }

abbrev entry_9 : Entry
entry_9 = record { actor = Op; session = 0; asked = Command commanded.Wait; side = None; answer = answers.Ok 0; missed = None; draw = None }

abbrev entry_10 : Entry
entry_10 = record { actor = Op; session = 0; asked = Command commanded.Wait; side = None; answer = answers.Ok 0; missed = None; draw = None }

abbrev entry_11 : Entry
entry_11 = record { actor = Op; session = 0; asked = Command commanded.Wait; side = None; answer = answers.Ok 0; missed = None; draw = None }

abbrev entry_12 : Entry
entry_12 = record { actor = Op; session = 0; asked = Command commanded.Wait; side = None; answer = answers.Ok 0; missed = None; draw = None }

abbrev entry_13 : Entry
entry_13 = record { actor = (Client 1); session = 2; asked = Call (requests.Do (statements.Select (codes "t") shown.Count conditions.All)); side = None; answer = answers.Rows (((Num (pos 1)) ∷ []) ∷ []); missed = None; draw = None }

abbrev entry_14 : Entry
entry_14 = record { actor = (Client 1); session = 2; asked = Call (requests.Do (statements.Delete (codes "t") (conditions.Equal (record { column = codes "id"; value = (Num (pos 3)) } ∷ [])))); side = None; answer = answers.Ok 0; missed = None; draw = None }

abbrev entry_15 : Entry
entry_15 = record { actor = (Client 1); session = 2; asked = Call requests.Begin; side = None; answer = answers.Ok 0; missed = None; draw = None }

abbrev entry_16 : Entry
entry_16 = record { actor = (Client 1); session = 2; asked = Call (requests.Do (statements.Insert (codes "t") (Some (codes "id" ∷ codes "m0" ∷ [])) ((Num (pos 7)) ∷ (Num (pos 6)) ∷ []) None)); side = None; answer = answers.Ok 1; missed = None; draw = None }

abbrev entry_17 : Entry
entry_17 = record { actor = (Client 1); session = 2; asked = Call requests.Commit; side = None; answer = answers.Ok 0; missed = None; draw = None }

abbrev entry_18 : Entry
entry_18 = record { actor = Insp; session = 1; asked = Call (requests.Ends (codes "t")); side = None; answer = answers.Ends (Some (record { least = ((Num (pos 5)) ∷ []); greatest = ((Num (pos 7)) ∷ []) })); missed = None; draw = None }

abbrev entry_19 : Entry
entry_19 = record { actor = Copy; session = 3; asked = Call (requests.ChunkEnd (codes "t") (Closed ((Num (pos 5)) ∷ [])) ((Num (pos 7)) ∷ []) 1); side = None; answer = answers.End ((Num (pos 5)) ∷ []); missed = None; draw = None }

abbrev entry_20 : Entry
entry_20 = record { actor = Apply; session = 4; asked = Call (requests.ReadLog 0 3 (codes "t" ∷ codes "_t_ghc" ∷ [])); side = None; answer = answers.Events (record { table = codes "t"; change = changes.Write ((Num (pos 7)) ∷ (Num (pos 6)) ∷ Null ∷ []) } ∷ []) 1; missed = None; draw = None }

abbrev entry_21 : Entry
entry_21 = record { actor = Apply; session = 4; asked = Call requests.Begin; side = None; answer = answers.Ok 0; missed = None; draw = None }

abbrev entry_22 : Entry
entry_22 = record { actor = Apply; session = 4; asked = Call (requests.Do (statements.Replace (codes "_t_gho") None ((Text (codes "n")) ∷ (Num (pos 7)) ∷ (Num (pos 6)) ∷ Null ∷ []) None)); side = None; answer = answers.Ok 1; missed = None; draw = None }

abbrev entry_23 : Entry
entry_23 = record { actor = Apply; session = 4; asked = Call requests.Commit; side = None; answer = answers.Ok 0; missed = None; draw = None }

abbrev entry_24 : Entry
entry_24 = record { actor = Copy; session = 3; asked = Call (requests.BeginSpan (codes "t") (record { low = (Closed ((Num (pos 5)) ∷ [])); high = (Closed ((Num (pos 5)) ∷ [])) }) 1); side = None; answer = answers.Keys (((Num (pos 5)) ∷ []) ∷ []) ((Num (pos 5)) ∷ []); missed = None; draw = None }

abbrev entry_25 : Entry
entry_25 = record { actor = Op; session = 0; asked = Command commanded.Wait; side = None; answer = answers.Ok 0; missed = None; draw = None }

abbrev entry_26 : Entry
entry_26 = record { actor = Op; session = 0; asked = Command commanded.Wait; side = None; answer = answers.Ok 0; missed = None; draw = None }

abbrev entry_27 : Entry
entry_27 = record { actor = Op; session = 0; asked = Command commanded.Wait; side = None; answer = answers.Ok 0; missed = None; draw = None }

abbrev entry_28 : Entry
entry_28 = record { actor = Op; session = 0; asked = Command commanded.Wait; side = None; answer = answers.Ok 0; missed = None; draw = None }

abbrev entry_29 : Entry
entry_29 = record { actor = Copy; session = 3; asked = Call (requests.CopyRow (codes "t") (codes "_t_gho") map_101 ((Num (pos 5)) ∷ [])); side = None; answer = answers.Ok 1; missed = None; draw = None }

abbrev entry_30 : Entry
entry_30 = record { actor = Copy; session = 3; asked = Call requests.Commit; side = None; answer = answers.Ok 0; missed = None; draw = None }

abbrev entry_31 : Entry
entry_31 = record { actor = Copy; session = 3; asked = Call (requests.ChunkEnd (codes "t") (Open ((Num (pos 5)) ∷ [])) ((Num (pos 7)) ∷ []) 1); side = None; answer = answers.End ((Num (pos 7)) ∷ []); missed = None; draw = None }

abbrev entry_32 : Entry
entry_32 = record { actor = Copy; session = 3; asked = Call (requests.BeginSpan (codes "t") (record { low = (Open ((Num (pos 5)) ∷ [])); high = (Closed ((Num (pos 7)) ∷ [])) }) 1); side = None; answer = answers.Keys (((Num (pos 7)) ∷ []) ∷ []) ((Num (pos 7)) ∷ []); missed = None; draw = None }

abbrev entry_33 : Entry
entry_33 = record { actor = Copy; session = 3; asked = Call (requests.CopyRow (codes "t") (codes "_t_gho") map_101 ((Num (pos 7)) ∷ [])); side = None; answer = answers.Ok 0; missed = None; draw = None }

abbrev entry_34 : Entry
entry_34 = record { actor = Copy; session = 3; asked = Call requests.Commit; side = None; answer = answers.Ok 0; missed = None; draw = None }

abbrev entry_35 : Entry
entry_35 = record { actor = Lock; session = 5; asked = Call (requests.Create (record { name = codes "_t_del"; columns = (record { name = codes "id"; kind = Int 4 false; nullable = false; default = None; auto = false } ∷ []); uniques = (record { name = None; places = (0 ∷ []) } ∷ []); indexes = []; comment = codes "ghost-cut-over-sentry"; start = None })); side = None; answer = answers.Ok 0; missed = None; draw = None }

abbrev entry_36 : Entry
entry_36 = record { actor = Lock; session = 5; asked = Call (requests.LockTables (codes "t" ∷ codes "_t_del" ∷ [])); side = None; answer = answers.Ok 0; missed = None; draw = None }

abbrev entry_37 : Entry
entry_37 = record { actor = Insp; session = 1; asked = Call (requests.Do (statements.Insert (codes "_t_ghc") None ((Num (pos 1)) ∷ (Text (codes "cut-over")) ∷ (Text (codes "1")) ∷ []) None)); side = None; answer = answers.Ok 1; missed = None; draw = None }

abbrev entry_38 : Entry
entry_38 = record { actor = Apply; session = 4; asked = Call (requests.ReadLog 1 3 (codes "t" ∷ codes "_t_ghc" ∷ [])); side = None; answer = answers.Events (record { table = codes "_t_ghc"; change = changes.Write ((Num (pos 1)) ∷ (Text (codes "cut-over")) ∷ (Text (codes "1")) ∷ []) } ∷ []) 4; missed = None; draw = None }

abbrev entry_39 : Entry
entry_39 = record { actor = Ren; session = 6; asked = Call (requests.Rename (record { old = codes "t"; new = codes "_t_del" } ∷ record { old = codes "_t_gho"; new = codes "t" } ∷ [])); side = None; answer = answers.Waits 5; missed = None; draw = None }

abbrev entry_40 : Entry
entry_40 = record { actor = Ren; session = 6; asked = Poll; side = None; answer = answers.Waits 5; missed = None; draw = None }

abbrev entry_41 : Entry
entry_41 = record { actor = Ren; session = 6; asked = Poll; side = None; answer = answers.Waits 5; missed = None; draw = None }

abbrev entry_42 : Entry
entry_42 = record { actor = Ren; session = 6; asked = Poll; side = None; answer = answers.Waits 5; missed = None; draw = None }

abbrev entry_43 : Entry
entry_43 = record { actor = Ren; session = 6; asked = Poll; side = None; answer = answers.Waits 5; missed = None; draw = None }

abbrev entry_44 : Entry
entry_44 = record { actor = Insp; session = 1; asked = Call requests.ShowWaiting; side = None; answer = answers.Waiting (record { session = 6; names = (codes "t" ∷ codes "_t_del" ∷ codes "_t_gho" ∷ []); by = 5 } ∷ []); missed = None; draw = None }

abbrev entry_45 : Entry
entry_45 = record { actor = Lock; session = 5; asked = Call (requests.Drop (codes "_t_del")); side = None; answer = answers.Ok 0; missed = None; draw = None }

abbrev entry_46 : Entry
entry_46 = record { actor = Ren; session = 6; asked = Poll; side = None; answer = answers.Waits 5; missed = None; draw = None }

abbrev entry_47 : Entry
entry_47 = record { actor = Lock; session = 5; asked = Call requests.Unlock; side = None; answer = answers.Ok 0; missed = None; draw = None }

abbrev journal_18 : List Entry
journal_18 =
    entry_1
    ∷ entry_2
    ∷ entry_3
    ∷ entry_4
    ∷ entry_5
    ∷ entry_6
    ∷ entry_7
    ∷ entry_8
    ∷ entry_9
    ∷ entry_10
    ∷ entry_11
    ∷ entry_12
    ∷ entry_13
    ∷ entry_14
    ∷ entry_15
    ∷ entry_16
    ∷ entry_17
    ∷ entry_18
    ∷ []

abbrev journal_19 : List Entry
journal_19 = journal_18 ++ entry_19 ∷ []

abbrev journal_20 : List Entry
journal_20 = journal_19 ++ entry_20 ∷ []

abbrev journal_21 : List Entry
journal_21 = journal_20 ++ entry_21 ∷ []

abbrev journal_22 : List Entry
journal_22 = journal_21 ++ entry_22 ∷ []

abbrev journal_23 : List Entry
journal_23 = journal_22 ++ entry_23 ∷ []

abbrev journal_24 : List Entry
journal_24 = journal_23 ++ entry_24 ∷ []

abbrev journal_25 : List Entry
journal_25 = journal_24 ++ entry_25 ∷ []

abbrev journal_26 : List Entry
journal_26 = journal_25 ++ entry_26 ∷ []

abbrev journal_27 : List Entry
journal_27 = journal_26 ++ entry_27 ∷ []

abbrev journal_28 : List Entry
journal_28 = journal_27 ++ entry_28 ∷ []

abbrev journal_29 : List Entry
journal_29 = journal_28 ++ entry_29 ∷ []

abbrev journal_30 : List Entry
journal_30 = journal_29 ++ entry_30 ∷ []

abbrev journal_31 : List Entry
journal_31 = journal_30 ++ entry_31 ∷ []

abbrev journal_32 : List Entry
journal_32 = journal_31 ++ entry_32 ∷ []

abbrev journal_33 : List Entry
journal_33 = journal_32 ++ entry_33 ∷ []

abbrev journal_34 : List Entry
journal_34 = journal_33 ++ entry_34 ∷ []

abbrev journal_35 : List Entry
journal_35 = journal_34 ++ entry_35 ∷ []

abbrev journal_36 : List Entry
journal_36 = journal_35 ++ entry_36 ∷ []

abbrev journal_37 : List Entry
journal_37 = journal_36 ++ entry_37 ∷ []

abbrev journal_38 : List Entry
journal_38 = journal_37 ++ entry_38 ∷ []

abbrev journal_39 : List Entry
journal_39 = journal_38 ++ entry_39 ∷ []

abbrev journal_40 : List Entry
journal_40 = journal_39 ++ entry_40 ∷ []

abbrev journal_41 : List Entry
journal_41 = journal_40 ++ entry_41 ∷ []

abbrev journal_42 : List Entry
journal_42 = journal_41 ++ entry_42 ∷ []

abbrev journal_43 : List Entry
journal_43 = journal_42 ++ entry_43 ∷ []

abbrev journal_44 : List Entry
journal_44 = journal_43 ++ entry_44 ∷ []

abbrev journal_45 : List Entry
journal_45 = journal_44 ++ entry_45 ∷ []

abbrev journal_46 : List Entry
journal_46 = journal_45 ++ entry_46 ∷ []

abbrev journal_47 : List Entry
journal_47 = journal_46 ++ entry_47 ∷ []

abbrev copier_18 : Copier
copier_18 = copying Choosing 1 None false

abbrev copier_19 : Copier
copier_19 = copying (Spanning 19 1) 1 None false

abbrev copier_24 : Copier
copier_24 = copying (Copying (record { reported = 24; keys = 1; is_last = false }) 0) 1 None false

abbrev copier_29 : Copier
copier_29 = copying (copies.Committing (record { reported = 24; keys = 1; is_last = false })) 1 None false

abbrev copier_30 : Copier
copier_30 = copying Choosing 2 (Some 24) false

abbrev copier_31 : Copier
copier_31 = copying (Spanning 31 1) 2 (Some 24) false

abbrev copier_32 : Copier
copier_32 = copying (Copying (record { reported = 32; keys = 1; is_last = true }) 0) 2 (Some 24) false

abbrev copier_33 : Copier
copier_33 = copying (copies.Committing (record { reported = 32; keys = 1; is_last = true })) 2 (Some 24) false

abbrev copier_34 : Copier
copier_34 = copying Choosing 3 (Some 32) true

abbrev applier_18 : Applier
applier_18 = applying 0 0 Reading

abbrev applier_20 : Applier
applier_20 = applying 0 0 (Beginning (record { read = 20; next = 1; hint = 0; statements = 1 }))

abbrev applier_21 : Applier
applier_21 = applying 0 0 (Applying (record { read = 20; next = 1; hint = 0; statements = 1 }) 0 Whole)

abbrev applier_22 : Applier
applier_22 = applying 0 0 (applies.Committing (record { read = 20; next = 1; hint = 0; statements = 1 }))

abbrev applier_23 : Applier
applier_23 = applying 1 0 Reading

abbrev applier_38 : Applier
applier_38 = applying 4 1 Reading

abbrev now_18 : Machines
now_18 = record { copier = copier_18; copier_session = 3; applier = applier_18; applier_session = 4 }

abbrev now_19 : Machines
now_19 = record { copier = copier_19; copier_session = 3; applier = applier_18; applier_session = 4 }

abbrev now_20 : Machines
now_20 = record { copier = copier_19; copier_session = 3; applier = applier_20; applier_session = 4 }

abbrev now_21 : Machines
now_21 = record { copier = copier_19; copier_session = 3; applier = applier_21; applier_session = 4 }

abbrev now_22 : Machines
now_22 = record { copier = copier_19; copier_session = 3; applier = applier_22; applier_session = 4 }

abbrev now_23 : Machines
now_23 = record { copier = copier_19; copier_session = 3; applier = applier_23; applier_session = 4 }

abbrev now_24 : Machines
now_24 = record { copier = copier_24; copier_session = 3; applier = applier_23; applier_session = 4 }

abbrev now_29 : Machines
now_29 = record { copier = copier_29; copier_session = 3; applier = applier_23; applier_session = 4 }

abbrev now_30 : Machines
now_30 = record { copier = copier_30; copier_session = 3; applier = applier_23; applier_session = 4 }

abbrev now_31 : Machines
now_31 = record { copier = copier_31; copier_session = 3; applier = applier_23; applier_session = 4 }

abbrev now_32 : Machines
now_32 = record { copier = copier_32; copier_session = 3; applier = applier_23; applier_session = 4 }

abbrev now_33 : Machines
now_33 = record { copier = copier_33; copier_session = 3; applier = applier_23; applier_session = 4 }

abbrev now_34 : Machines
now_34 = record { copier = copier_34; copier_session = 3; applier = applier_23; applier_session = 4 }

abbrev now_38 : Machines
now_38 = record { copier = copier_34; copier_session = 3; applier = applier_38; applier_session = 4 }

-- ---- the turns

turn_19 : MigrationTurn m_101 limits_101 scene_101 journal_18 entry_19 now_18 now_19
unfolding computing plans.client_names plans.client_tables plans.script_names
turn_19 = copier_turns (record { its = refl; table = refl; map = refl; request = (requests.ChunkEnd (codes "t") (Closed ((Num (pos 5)) ∷ [])) ((Num (pos 7)) ∷ []) 1); asked = refl; tool = refl; given = refl; uncut = refl; fits = going }) refl

turn_20 : MigrationTurn m_101 limits_101 scene_101 journal_19 entry_20 now_19 now_20
unfolding computing plans.client_names plans.client_tables plans.script_names
turn_20 = applier_turns (record { its = refl; table = refl; schema = refl; map = refl; request = (requests.ReadLog 0 3 (codes "t" ∷ codes "_t_ghc" ∷ [])); asked = refl; tool = refl; given = refl; uncut = refl; fits = going }) refl

turn_21 : MigrationTurn m_101 limits_101 scene_101 journal_20 entry_21 now_20 now_21
unfolding computing plans.client_names plans.client_tables plans.script_names
turn_21 = applier_turns (record { its = refl; table = refl; schema = refl; map = refl; request = requests.Begin; asked = refl; tool = refl; given = refl; uncut = refl; fits = going }) refl

turn_22 : MigrationTurn m_101 limits_101 scene_101 journal_21 entry_22 now_21 now_22
unfolding computing plans.client_names plans.client_tables plans.script_names
turn_22 = applier_turns (record { its = refl; table = refl; schema = refl; map = refl; request = (requests.Do (statements.Replace (codes "_t_gho") None ((Text (codes "n")) ∷ (Num (pos 7)) ∷ (Num (pos 6)) ∷ Null ∷ []) None)); asked = refl; tool = refl; given = refl; uncut = refl; fits = going }) refl

turn_23 : MigrationTurn m_101 limits_101 scene_101 journal_22 entry_23 now_22 now_23
unfolding computing plans.client_names plans.client_tables plans.script_names
turn_23 = applier_turns (record { its = refl; table = refl; schema = refl; map = refl; request = requests.Commit; asked = refl; tool = refl; given = refl; uncut = refl; fits = over }) refl

turn_24 : MigrationTurn m_101 limits_101 scene_101 journal_23 entry_24 now_23 now_24
unfolding computing plans.client_names plans.client_tables plans.script_names
turn_24 = copier_turns (record { its = refl; table = refl; map = refl; request = (requests.BeginSpan (codes "t") (record { low = (Closed ((Num (pos 5)) ∷ [])); high = (Closed ((Num (pos 5)) ∷ [])) }) 1); asked = refl; tool = refl; given = refl; uncut = refl; fits = going }) refl

turn_25 : MigrationTurn m_101 limits_101 scene_101 journal_24 entry_25 now_24 now_24
unfolding computing plans.client_names plans.client_tables plans.script_names
turn_25 = others_turn (record { sides = λ may. refl; no_copier = refl; no_applier = refl; away = λ request is. absurd (none_asked request is) }) refl

turn_26 : MigrationTurn m_101 limits_101 scene_101 journal_25 entry_26 now_24 now_24
unfolding computing plans.client_names plans.client_tables plans.script_names
turn_26 = others_turn (record { sides = λ may. refl; no_copier = refl; no_applier = refl; away = λ request is. absurd (none_asked request is) }) refl

turn_27 : MigrationTurn m_101 limits_101 scene_101 journal_26 entry_27 now_24 now_24
unfolding computing plans.client_names plans.client_tables plans.script_names
turn_27 = others_turn (record { sides = λ may. refl; no_copier = refl; no_applier = refl; away = λ request is. absurd (none_asked request is) }) refl

turn_28 : MigrationTurn m_101 limits_101 scene_101 journal_27 entry_28 now_24 now_24
unfolding computing plans.client_names plans.client_tables plans.script_names
turn_28 = others_turn (record { sides = λ may. refl; no_copier = refl; no_applier = refl; away = λ request is. absurd (none_asked request is) }) refl

turn_29 : MigrationTurn m_101 limits_101 scene_101 journal_28 entry_29 now_24 now_29
unfolding computing plans.client_names plans.client_tables plans.script_names
turn_29 = copier_turns (record { its = refl; table = refl; map = refl; request = (requests.CopyRow (codes "t") (codes "_t_gho") map_101 ((Num (pos 5)) ∷ [])); asked = refl; tool = refl; given = refl; uncut = refl; fits = going }) refl

turn_30 : MigrationTurn m_101 limits_101 scene_101 journal_29 entry_30 now_29 now_30
unfolding computing plans.client_names plans.client_tables plans.script_names
turn_30 = copier_turns (record { its = refl; table = refl; map = refl; request = requests.Commit; asked = refl; tool = refl; given = refl; uncut = refl; fits = over }) refl

turn_31 : MigrationTurn m_101 limits_101 scene_101 journal_30 entry_31 now_30 now_31
unfolding computing plans.client_names plans.client_tables plans.script_names
turn_31 = copier_turns (record { its = refl; table = refl; map = refl; request = (requests.ChunkEnd (codes "t") (Open ((Num (pos 5)) ∷ [])) ((Num (pos 7)) ∷ []) 1); asked = refl; tool = refl; given = refl; uncut = refl; fits = going }) refl

turn_32 : MigrationTurn m_101 limits_101 scene_101 journal_31 entry_32 now_31 now_32
unfolding computing plans.client_names plans.client_tables plans.script_names
turn_32 = copier_turns (record { its = refl; table = refl; map = refl; request = (requests.BeginSpan (codes "t") (record { low = (Open ((Num (pos 5)) ∷ [])); high = (Closed ((Num (pos 7)) ∷ [])) }) 1); asked = refl; tool = refl; given = refl; uncut = refl; fits = going }) refl

turn_33 : MigrationTurn m_101 limits_101 scene_101 journal_32 entry_33 now_32 now_33
unfolding computing plans.client_names plans.client_tables plans.script_names
turn_33 = copier_turns (record { its = refl; table = refl; map = refl; request = (requests.CopyRow (codes "t") (codes "_t_gho") map_101 ((Num (pos 7)) ∷ [])); asked = refl; tool = refl; given = refl; uncut = refl; fits = going }) refl

turn_34 : MigrationTurn m_101 limits_101 scene_101 journal_33 entry_34 now_33 now_34
unfolding computing plans.client_names plans.client_tables plans.script_names
turn_34 = copier_turns (record { its = refl; table = refl; map = refl; request = requests.Commit; asked = refl; tool = refl; given = refl; uncut = refl; fits = over }) refl

turn_35 : MigrationTurn m_101 limits_101 scene_101 journal_34 entry_35 now_34 now_34
unfolding computing plans.client_names plans.client_tables plans.script_names
turn_35 = others_turn (record { sides = λ may. refl; no_copier = refl; no_applier = refl; away = away_of (Some (answers.Ok 0)) ((requests.Create (record { name = codes "_t_del"; columns = (record { name = codes "id"; kind = Int 4 false; nullable = false; default = None; auto = false } ∷ []); uniques = (record { name = None; places = (0 ∷ []) } ∷ []); indexes = []; comment = codes "ghost-cut-over-sentry"; start = None }))) ((refl, refl)) }) refl

turn_36 : MigrationTurn m_101 limits_101 scene_101 journal_35 entry_36 now_34 now_34
unfolding computing plans.client_names plans.client_tables plans.script_names
turn_36 = others_turn (record { sides = λ may. refl; no_copier = refl; no_applier = refl; away = away_of (Some (answers.Ok 0)) ((requests.LockTables (codes "t" ∷ codes "_t_del" ∷ []))) (tt) }) refl

turn_37 : MigrationTurn m_101 limits_101 scene_101 journal_36 entry_37 now_34 now_34
unfolding computing plans.client_names plans.client_tables plans.script_names
turn_37 = others_turn (record { sides = λ may. refl; no_copier = refl; no_applier = refl; away = away_of (Some (answers.Ok 1)) ((requests.Do (statements.Insert (codes "_t_ghc") None ((Num (pos 1)) ∷ (Text (codes "cut-over")) ∷ (Text (codes "1")) ∷ []) None))) (refl) }) refl

turn_38 : MigrationTurn m_101 limits_101 scene_101 journal_37 entry_38 now_34 now_38
unfolding computing plans.client_names plans.client_tables plans.script_names
turn_38 = applier_turns (record { its = refl; table = refl; schema = refl; map = refl; request = (requests.ReadLog 1 3 (codes "t" ∷ codes "_t_ghc" ∷ [])); asked = refl; tool = refl; given = refl; uncut = refl; fits = over }) refl

turn_39 : MigrationTurn m_101 limits_101 scene_101 journal_38 entry_39 now_38 now_38
unfolding computing plans.client_names plans.client_tables plans.script_names
turn_39 = others_turn (record { sides = λ may. refl; no_copier = refl; no_applier = refl; away = away_of (Some (answers.Waits 5)) ((requests.Rename (record { old = codes "t"; new = codes "_t_del" } ∷ record { old = codes "_t_gho"; new = codes "t" } ∷ []))) (waits_on 5) }) refl

turn_40 : MigrationTurn m_101 limits_101 scene_101 journal_39 entry_40 now_38 now_38
unfolding computing plans.client_names plans.client_tables plans.script_names
turn_40 = others_turn (record { sides = λ may. refl; no_copier = refl; no_applier = refl; away = away_of (Some (answers.Waits 5)) ((requests.Rename (record { old = codes "t"; new = codes "_t_del" } ∷ record { old = codes "_t_gho"; new = codes "t" } ∷ []))) (waits_on 5) }) refl

turn_41 : MigrationTurn m_101 limits_101 scene_101 journal_40 entry_41 now_38 now_38
unfolding computing plans.client_names plans.client_tables plans.script_names
turn_41 = others_turn (record { sides = λ may. refl; no_copier = refl; no_applier = refl; away = away_of (Some (answers.Waits 5)) ((requests.Rename (record { old = codes "t"; new = codes "_t_del" } ∷ record { old = codes "_t_gho"; new = codes "t" } ∷ []))) (waits_on 5) }) refl

turn_42 : MigrationTurn m_101 limits_101 scene_101 journal_41 entry_42 now_38 now_38
unfolding computing plans.client_names plans.client_tables plans.script_names
turn_42 = others_turn (record { sides = λ may. refl; no_copier = refl; no_applier = refl; away = away_of (Some (answers.Waits 5)) ((requests.Rename (record { old = codes "t"; new = codes "_t_del" } ∷ record { old = codes "_t_gho"; new = codes "t" } ∷ []))) (waits_on 5) }) refl

turn_43 : MigrationTurn m_101 limits_101 scene_101 journal_42 entry_43 now_38 now_38
unfolding computing plans.client_names plans.client_tables plans.script_names
turn_43 = others_turn (record { sides = λ may. refl; no_copier = refl; no_applier = refl; away = away_of (Some (answers.Waits 5)) ((requests.Rename (record { old = codes "t"; new = codes "_t_del" } ∷ record { old = codes "_t_gho"; new = codes "t" } ∷ []))) (waits_on 5) }) refl

turn_44 : MigrationTurn m_101 limits_101 scene_101 journal_43 entry_44 now_38 now_38
unfolding computing plans.client_names plans.client_tables plans.script_names
turn_44 = others_turn (record { sides = λ may. refl; no_copier = refl; no_applier = refl; away = away_of (Some (answers.Waiting (record { session = 6; names = (codes "t" ∷ codes "_t_del" ∷ codes "_t_gho" ∷ []); by = 5 } ∷ []))) (requests.ShowWaiting) (tt) }) refl

turn_45 : MigrationTurn m_101 limits_101 scene_101 journal_44 entry_45 now_38 now_38
unfolding computing plans.client_names plans.client_tables plans.script_names
turn_45 = others_turn (record { sides = λ may. refl; no_copier = refl; no_applier = refl; away = away_of (Some (answers.Ok 0)) ((requests.Drop (codes "_t_del"))) ((refl, refl)) }) refl

turn_46 : MigrationTurn m_101 limits_101 scene_101 journal_45 entry_46 now_38 now_38
unfolding computing plans.client_names plans.client_tables plans.script_names
turn_46 = others_turn (record { sides = λ may. refl; no_copier = refl; no_applier = refl; away = away_of (Some (answers.Waits 5)) ((requests.Rename (record { old = codes "t"; new = codes "_t_del" } ∷ record { old = codes "_t_gho"; new = codes "t" } ∷ []))) (waits_on 5) }) refl

turn_47 : MigrationTurn m_101 limits_101 scene_101 journal_46 entry_47 now_38 now_38
unfolding computing plans.client_names plans.client_tables plans.script_names
turn_47 = others_turn (record { sides = λ may. refl; no_copier = refl; no_applier = refl; away = away_of (Some (answers.Ok 0)) (requests.Unlock) (tt) }) refl

abbrev steps_101 : List Step
steps_101 =
    Turned entry_19 now_19
    ∷ Turned entry_20 now_20
    ∷ Turned entry_21 now_21
    ∷ Turned entry_22 now_22
    ∷ Turned entry_23 now_23
    ∷ Turned entry_24 now_24
    ∷ Turned entry_25 now_24
    ∷ Turned entry_26 now_24
    ∷ Turned entry_27 now_24
    ∷ Turned entry_28 now_24
    ∷ Turned entry_29 now_29
    ∷ Turned entry_30 now_30
    ∷ Turned entry_31 now_31
    ∷ Turned entry_32 now_32
    ∷ Turned entry_33 now_33
    ∷ Turned entry_34 now_34
    ∷ Turned entry_35 now_34
    ∷ Turned entry_36 now_34
    ∷ Turned entry_37 now_34
    ∷ Turned entry_38 now_38
    ∷ Turned entry_39 now_38
    ∷ Turned entry_40 now_38
    ∷ Turned entry_41 now_38
    ∷ Turned entry_42 now_38
    ∷ Turned entry_43 now_38
    ∷ Turned entry_44 now_38
    ∷ Turned entry_45 now_38
    ∷ Turned entry_46 now_38
    ∷ Turned entry_47 now_38
    ∷ []

turns_101 : MigrationRun m_101 limits_101 scene_101 journal_18 now_18 steps_101
turns_101 =
    turn_19
    ▸ turn_20
    ▸ turn_21
    ▸ turn_22
    ▸ turn_23
    ▸ turn_24
    ▸ turn_25
    ▸ turn_26
    ▸ turn_27
    ▸ turn_28
    ▸ turn_29
    ▸ turn_30
    ▸ turn_31
    ▸ turn_32
    ▸ turn_33
    ▸ turn_34
    ▸ turn_35
    ▸ turn_36
    ▸ turn_37
    ▸ turn_38
    ▸ turn_39
    ▸ turn_40
    ▸ turn_41
    ▸ turn_42
    ▸ turn_43
    ▸ turn_44
    ▸ turn_45
    ▸ turn_46
    ▸ turn_47
    ▸ tt

-- ---- the start and the mark

-- no session has written anything
quiet_found : (number : ℕ) (sessions : List Session) → AllByRecursion (λ (s : Session). s.writes ≡ []) sessions → (face_of sessions number).hold.writes ≡ []
quiet_found number [] all = refl
quiet_found number (first ∷ sessions) all = by (first.number == number) refl (quiet_found number sessions all.1)
  where
    by : (b : Bool) → (first.number == number) ≡ b → (face_of sessions number).hold.writes ≡ [] → (Rattle.proof_journals.specs.Holdings.face_in (cond b (Some first) (Rattle.server_model.specs.States.session_of number sessions))).hold.writes ≡ []
    by true is rest = all.0
    by false is rest = rest

away_101 : OthersAway m_101 (hold_at (scene_state limits_101 scene_101 journal_18)) 3 4
unfolding computing plans.client_names plans.client_tables plans.script_names
away_101 n no_copier no_applier =
    let quiet : AllByRecursion (λ (s : Session). s.writes ≡ []) (scene_state limits_101 scene_101 journal_18).sessions = (refl, (refl, tt)) in
    subst (NotOf (codes "_t_gho")) (sym (quiet_found n (scene_state limits_101 scene_101 journal_18).sessions quiet)) tt

abbrev moment_18 : ToolMoment
moment_18 = moment_at m_101 (scene_state limits_101 scene_101 journal_18) journal_18 now_18

-- the migrated table's rows at the start
abbrev rows_18 : List Row
rows_18 = ((Num (pos 5)) ∷ (Num (pos 2)) ∷ (Num (pos 6)) ∷ []) ∷ ((Num (pos 7)) ∷ (Num (pos 6)) ∷ Null ∷ []) ∷ []

tables_found_18 : find_table m_101.name moment_18.stored.tables ≡ Some (record { schema = m_101.schema; rows = rows_18 })
unfolding computing plans.client_names plans.client_tables plans.script_names
tables_found_18 = refl

rows_logged_18 : rows_now m_101 rows_101 moment_18 ≡ rows_18
unfolding computing plans.client_names plans.client_tables plans.script_names Rattle.proof_journals.specs.Ghost.Rows.Moments.rows_at
rows_logged_18 = refl

-- Both sides are computed by themselves: compared with each other they grow.
found_18 : find_table m_101.name moment_18.stored.tables ≡ Some (record { schema = m_101.schema; rows = rows_now m_101 rows_101 moment_18 })
found_18 = tables_found_18 ∙ ap (λ (rows : List Row). Some (record { schema = m_101.schema; rows = rows })) (sym rows_logged_18)

start_101 : IsMigrationStart m_101 rows_101 limits_101 scene_101 journal_18 now_18
unfolding computing plans.client_names plans.client_tables plans.script_names Rattle.proof_journals.specs.Ghost.Rows.Moments.LogFits Rattle.proof_journals.specs.Ghost.Rows.Moments.rows_at
start_101 =
    record {
      start = record {
        fits = ((λ named. ((refl, (refl, (refl, tt))), (refl, tt))), tt);
        noted = grind (arith);
        old = found_18;
        empty = refl;
        range = refl;
        resting = refl;
        copier_rests = refl;
        applier_rests = refl;
        differ = refl;
        two = refl;
      };
      named = refl;
      following = refl;
      choosing = refl;
      sized = grind (arith);
      reading = refl;
      batched = grind (arith);
      away = away_101;
    }

end_101 : IsMigrationEnd m_101 (scene_state limits_101 scene_101 (journal_after journal_18 steps_101)) (machines_after now_18 steps_101)
unfolding computing plans.client_names plans.client_tables plans.script_names
end_101 = record { copied = refl; idle = refl; applied = refl }

run_so : IsSceneRun limits_101 scene_101 (journal_after journal_18 steps_101)
run_so = run_front limits_101 scene_101 (journal_after journal_18 steps_101) (drop 47 journal_101) (plan_runs_are_scene_runs plan_101 journal_101 run_101)

-- *At the mark of this run the new table is the altered one.*
altered_101 : IsAltered m_101 (scene_state limits_101 scene_101 (journal_after journal_18 steps_101)).tables
altered_101 = journals_alter m_101 at_101 rows_101 0 planned_101 place_101 finds_101 limits_101 scene_101 journal_18 now_18 steps_101 run_so start_101 turns_101 end_101
