-- Random plans, replayed; their journals are those of an independent model.
use Rattle.std.proofs.Common.{pos, true, false, List, [], ◌∷◌, ◌++◌, Some, None, refl}
use Rattle.std.specs.Prelude.{codes, replicate}
use Rattle.base_values.specs.declared.value.Value.TheVariants.{Null, Num, Text, Blob}
use Rattle.base_values.specs.declared.kind.Kind.TheVariants.{Int, VarChar, VarBinary}
use Rattle.base_values.specs.declared.span.Bound.TheVariants.{Open, Closed}
use Rattle.base_values.specs.declared.row_conversion.clause.Clause.TheVariants as clauses
use Rattle.base_values.specs.declared.row_conversion.clause.ColumnPosition.TheVariants.{Unsaid, First}
use Rattle.base_values.specs.declared.row_conversion.map.MapColumn.{MapColumn}
use Rattle.base_values.specs.declared.row_conversion.map.Origin.TheVariants as from
use Rattle.base_values.specs.declared.event.Change.TheVariants as changes
use Rattle.base_script.specs.declared.actor.Actor.TheVariants.{Op, Insp, Copy, Apply, Lock, Ren, Client}
use Rattle.base_script.specs.declared.actor.Side.TheVariants as sides_at
use Rattle.base_script.specs.declared.loss.Loss.TheVariants as losses
use Rattle.base_script.specs.declared.operator.OperatorWord.TheVariants as commanded
use Rattle.base_script.specs.declared.script.ScriptWord.TheVariants as words
use Rattle.base_script.specs.declared.statement.Statement.TheVariants as statements
use Rattle.base_script.specs.declared.statement.Condition.TheVariants as conditions
use Rattle.base_script.specs.declared.statement.Shown.TheVariants as shown
use Rattle.base_script.specs.declared.statement.Sign.TheVariants as signs
use Rattle.server_model.specs.declared.transaction.Reply.TheVariants as replies
use Rattle.server_model.specs.declared.request.Request.TheVariants as requests
use Rattle.server_model.specs.declared.answer.Answer.TheVariants as answers
use Rattle.server_model.specs.declared.entry.Entry.{Entry}
use Rattle.server_model.specs.declared.entry.Asked.TheVariants.{Call, Poll, Command, Cut}
use Rattle.server_model.specs.declared.outcome.Task.TheVariants as tasks
use Rattle.server_model.specs.declared.outcome.Cause.TheVariants as causes
use Rattle.server_model.specs.declared.outcome.Verdict.TheVariants as verdicts
use Rattle.plan_data.specs.PlanData.{PlanData}
use Rattle.test_worked.proofs.Computing.{computing, WorkedFacts, IsWorked}

-- Plan 112
abbrev map_112 : List MapColumn
map_112 = (record { kind = VarBinary 3; nullable = false; origin = from.Old 0 } ∷ record { kind = Int 1 false; nullable = false; origin = from.Old 1 } ∷ record { kind = Int 4 false; nullable = false; origin = from.Old 2 } ∷ [])

abbrev plan_112 : PlanData
plan_112 = record { table = codes "t"; alter = (clauses.DropIndex (codes "u0") ∷ []); tables = (record { schema = record { name = codes "t"; columns = (record { name = codes "id"; kind = VarBinary 3; nullable = false; default = None; auto = false } ∷ record { name = codes "m0"; kind = Int 1 false; nullable = false; default = None; auto = false } ∷ record { name = codes "v"; kind = Int 4 false; nullable = false; default = None; auto = false } ∷ []); uniques = (record { name = None; places = (0 ∷ []) } ∷ record { name = (Some (codes "u0")); places = (1 ∷ []) } ∷ []); indexes = []; comment = []; start = None }; rows = (((Blob (49 ∷ [])) ∷ (Num (pos 7)) ∷ (Num (pos 7)) ∷ []) ∷ ((Blob (97 ∷ [])) ∷ (Num (pos 1)) ∷ (Num (pos 3)) ∷ []) ∷ ((Blob (99 ∷ [])) ∷ (Num (pos 5)) ∷ (Num (pos 5)) ∷ []) ∷ ((Blob (100 ∷ [])) ∷ (Num (pos 3)) ∷ (Num (pos 5)) ∷ []) ∷ ((Blob (103 ∷ [])) ∷ (Num (pos 2)) ∷ (Num (pos 4)) ∷ []) ∷ []) } ∷ []); clients = ([] ∷ []); operator = []; faults = (losses.Nth Lock 1 sides_at.After ∷ []); turns = (record { actor = Insp; times = 5 } ∷ record { actor = Op; times = 1 } ∷ record { actor = Insp; times = 1 } ∷ record { actor = Copy; times = 1 } ∷ record { actor = (Client 1); times = 3 } ∷ record { actor = Copy; times = 5 } ∷ record { actor = Apply; times = 3 } ∷ record { actor = Copy; times = 5 } ∷ record { actor = Copy; times = 2 } ∷ record { actor = Op; times = 5 } ∷ record { actor = Lock; times = 3 } ∷ record { actor = Lock; times = 5 } ∷ record { actor = (Client 1); times = 2 } ∷ record { actor = Insp; times = 2 } ∷ record { actor = Copy; times = 3 } ∷ record { actor = Lock; times = 5 } ∷ record { actor = Copy; times = 3 } ∷ record { actor = Ren; times = 5 } ∷ record { actor = Insp; times = 1 } ∷ record { actor = Insp; times = 1 } ∷ record { actor = Lock; times = 5 } ∷ record { actor = Insp; times = 3 } ∷ record { actor = Insp; times = 1 } ∷ record { actor = Insp; times = 5 } ∷ record { actor = Apply; times = 1 } ∷ record { actor = Lock; times = 1 } ∷ record { actor = Op; times = 3 } ∷ record { actor = Apply; times = 1 } ∷ record { actor = Op; times = 1 } ∷ record { actor = Lock; times = 1 } ∷ record { actor = (Client 1); times = 1 } ∷ record { actor = Insp; times = 1 } ∷ record { actor = Copy; times = 1 } ∷ record { actor = Apply; times = 3 } ∷ record { actor = Insp; times = 2 } ∷ record { actor = Copy; times = 1 } ∷ record { actor = Insp; times = 5 } ∷ record { actor = Copy; times = 5 } ∷ record { actor = Copy; times = 2 } ∷ record { actor = Copy; times = 1 } ∷ record { actor = Insp; times = 1 } ∷ record { actor = Ren; times = 5 } ∷ []); options = record { chunk_size = 2; dml_batch_size = 3; default_retries = 3; max_backlog = 0; drain_limit = 2000; client_wait = 3; tool_wait = 5; max_load = 64; turn_limit = 200000; notes = 0; note_every = 100; replica_step = 0; replica_pause = 1; max_lag = 10; resume = false; approve_renamed_columns = true; initially_drop_ghost_table = false; initially_drop_old_table = false; ok_to_drop_table = false; postpone = false; show_history = true; show_turns = true; show_tables = true; show_replies = true } }

abbrev journal_112 : List Entry
journal_112 =
    record { actor = Insp; session = 1; asked = Call requests.ShowTables; side = None; answer = answers.Tables (record { name = codes "t"; comment = [] } ∷ []); missed = None; draw = None }
    ∷ record { actor = Insp; session = 1; asked = Call (requests.Create (record { name = codes "_t_ghc"; columns = (record { name = codes "id"; kind = Int 8 false; nullable = false; default = None; auto = false } ∷ record { name = codes "hint"; kind = VarChar 64; nullable = false; default = None; auto = false } ∷ record { name = codes "value"; kind = VarChar 255; nullable = false; default = None; auto = false } ∷ []); uniques = (record { name = None; places = (0 ∷ []) } ∷ []); indexes = []; comment = []; start = None })); side = None; answer = answers.Ok 0; missed = None; draw = None }
    ∷ record { actor = Insp; session = 1; asked = Call (requests.Create (record { name = codes "_t_gho"; columns = (record { name = codes "id"; kind = VarBinary 3; nullable = false; default = None; auto = false } ∷ record { name = codes "m0"; kind = Int 1 false; nullable = false; default = None; auto = false } ∷ record { name = codes "v"; kind = Int 4 false; nullable = false; default = None; auto = false } ∷ []); uniques = (record { name = None; places = (0 ∷ []) } ∷ []); indexes = []; comment = []; start = None })); side = None; answer = answers.Ok 0; missed = None; draw = None }
    ∷ record { actor = Insp; session = 1; asked = Call requests.LogEnd; side = None; answer = answers.At 0; missed = None; draw = None }
    ∷ record { actor = Insp; session = 1; asked = Call (requests.Ends (codes "t")); side = None; answer = answers.Ends (Some (record { least = ((Blob (49 ∷ [])) ∷ []); greatest = ((Blob (103 ∷ [])) ∷ []) })); missed = None; draw = None }
    ∷ record { actor = Copy; session = 2; asked = Call (requests.ChunkEnd (codes "t") (Closed ((Blob (49 ∷ [])) ∷ [])) ((Blob (103 ∷ [])) ∷ []) 2); side = None; answer = answers.End ((Blob (97 ∷ [])) ∷ []); missed = None; draw = None }
    ∷ record { actor = Copy; session = 2; asked = Call (requests.BeginSpan (codes "t") (record { low = (Closed ((Blob (49 ∷ [])) ∷ [])); high = (Closed ((Blob (97 ∷ [])) ∷ [])) }) 2); side = None; answer = answers.Keys (((Blob (49 ∷ [])) ∷ []) ∷ ((Blob (97 ∷ [])) ∷ []) ∷ []) ((Blob (97 ∷ [])) ∷ []); missed = None; draw = None }
    ∷ record { actor = Copy; session = 2; asked = Call (requests.CopyRow (codes "t") (codes "_t_gho") map_112 ((Blob (49 ∷ [])) ∷ [])); side = None; answer = answers.Ok 1; missed = None; draw = None }
    ∷ record { actor = Copy; session = 2; asked = Call (requests.CopyRow (codes "t") (codes "_t_gho") map_112 ((Blob (97 ∷ [])) ∷ [])); side = None; answer = answers.Ok 1; missed = None; draw = None }
    ∷ record { actor = Copy; session = 2; asked = Call requests.Commit; side = None; answer = answers.Ok 0; missed = None; draw = None }
    ∷ record { actor = Copy; session = 2; asked = Call (requests.ChunkEnd (codes "t") (Open ((Blob (97 ∷ [])) ∷ [])) ((Blob (103 ∷ [])) ∷ []) 2); side = None; answer = answers.End ((Blob (100 ∷ [])) ∷ []); missed = None; draw = None }
    ∷ record { actor = Copy; session = 2; asked = Call (requests.BeginSpan (codes "t") (record { low = (Open ((Blob (97 ∷ [])) ∷ [])); high = (Closed ((Blob (100 ∷ [])) ∷ [])) }) 2); side = None; answer = answers.Keys (((Blob (99 ∷ [])) ∷ []) ∷ ((Blob (100 ∷ [])) ∷ []) ∷ []) ((Blob (100 ∷ [])) ∷ []); missed = None; draw = None }
    ∷ record { actor = Copy; session = 2; asked = Call (requests.CopyRow (codes "t") (codes "_t_gho") map_112 ((Blob (99 ∷ [])) ∷ [])); side = None; answer = answers.Ok 1; missed = None; draw = None }
    ∷ record { actor = Copy; session = 2; asked = Call (requests.CopyRow (codes "t") (codes "_t_gho") map_112 ((Blob (100 ∷ [])) ∷ [])); side = None; answer = answers.Ok 1; missed = None; draw = None }
    ∷ record { actor = Copy; session = 2; asked = Call requests.Commit; side = None; answer = answers.Ok 0; missed = None; draw = None }
    ∷ record { actor = Copy; session = 2; asked = Call (requests.ChunkEnd (codes "t") (Open ((Blob (100 ∷ [])) ∷ [])) ((Blob (103 ∷ [])) ∷ []) 2); side = None; answer = answers.End ((Blob (103 ∷ [])) ∷ []); missed = None; draw = None }
    ∷ record { actor = Copy; session = 2; asked = Call (requests.BeginSpan (codes "t") (record { low = (Open ((Blob (100 ∷ [])) ∷ [])); high = (Closed ((Blob (103 ∷ [])) ∷ [])) }) 2); side = None; answer = answers.Keys (((Blob (103 ∷ [])) ∷ []) ∷ []) ((Blob (103 ∷ [])) ∷ []); missed = None; draw = None }
    ∷ record { actor = Copy; session = 2; asked = Call (requests.CopyRow (codes "t") (codes "_t_gho") map_112 ((Blob (103 ∷ [])) ∷ [])); side = None; answer = answers.Ok 1; missed = None; draw = None }
    ∷ record { actor = Copy; session = 2; asked = Call requests.Commit; side = None; answer = answers.Ok 0; missed = None; draw = None }
    ∷ record { actor = Lock; session = 3; asked = Call (requests.Create (record { name = codes "_t_del"; columns = (record { name = codes "id"; kind = Int 4 false; nullable = false; default = None; auto = false } ∷ []); uniques = (record { name = None; places = (0 ∷ []) } ∷ []); indexes = []; comment = codes "ghost-cut-over-sentry"; start = None })); side = (Some sides_at.After); answer = answers.Lost; missed = (Some (answers.Ok 0)); draw = None }
    ∷ record { actor = Insp; session = 1; asked = Call requests.ShowTables; side = None; answer = answers.Tables (record { name = codes "_t_del"; comment = codes "ghost-cut-over-sentry" } ∷ record { name = codes "_t_ghc"; comment = [] } ∷ record { name = codes "_t_gho"; comment = [] } ∷ record { name = codes "t"; comment = [] } ∷ []); missed = None; draw = None }
    ∷ record { actor = Insp; session = 1; asked = Call (requests.Drop (codes "_t_del")); side = None; answer = answers.Ok 0; missed = None; draw = None }
    ∷ record { actor = Lock; session = 4; asked = Call (requests.Create (record { name = codes "_t_del"; columns = (record { name = codes "id"; kind = Int 4 false; nullable = false; default = None; auto = false } ∷ []); uniques = (record { name = None; places = (0 ∷ []) } ∷ []); indexes = []; comment = codes "ghost-cut-over-sentry"; start = None })); side = None; answer = answers.Ok 0; missed = None; draw = None }
    ∷ record { actor = Lock; session = 4; asked = Call (requests.LockTables (codes "t" ∷ codes "_t_del" ∷ [])); side = None; answer = answers.Ok 0; missed = None; draw = None }
    ∷ record { actor = Insp; session = 1; asked = Call (requests.Do (statements.Insert (codes "_t_ghc") None ((Num (pos 2)) ∷ (Text (codes "cut-over")) ∷ (Text (codes "2")) ∷ []) None)); side = None; answer = answers.Ok 1; missed = None; draw = None }
    ∷ record { actor = Apply; session = 5; asked = Call (requests.ReadLog 0 3 (codes "t" ∷ codes "_t_ghc" ∷ [])); side = None; answer = answers.Events (record { table = codes "_t_ghc"; change = changes.Write ((Num (pos 2)) ∷ (Text (codes "cut-over")) ∷ (Text (codes "2")) ∷ []) } ∷ []) 6; missed = None; draw = None }
    ∷ record { actor = Ren; session = 6; asked = Call (requests.Rename (record { old = codes "t"; new = codes "_t_del" } ∷ record { old = codes "_t_gho"; new = codes "t" } ∷ [])); side = None; answer = answers.Waits 4; missed = None; draw = None }
    ∷ record { actor = Ren; session = 6; asked = Poll; side = None; answer = answers.Waits 4; missed = None; draw = None }
    ∷ record { actor = Ren; session = 6; asked = Poll; side = None; answer = answers.Waits 4; missed = None; draw = None }
    ∷ record { actor = Ren; session = 6; asked = Poll; side = None; answer = answers.Waits 4; missed = None; draw = None }
    ∷ record { actor = Ren; session = 6; asked = Poll; side = None; answer = answers.Waits 4; missed = None; draw = None }
    ∷ record { actor = Insp; session = 1; asked = Call requests.ShowWaiting; side = None; answer = answers.Waiting (record { session = 6; names = (codes "t" ∷ codes "_t_del" ∷ codes "_t_gho" ∷ []); by = 4 } ∷ []); missed = None; draw = None }
    ∷ record { actor = Lock; session = 4; asked = Call (requests.Drop (codes "_t_del")); side = None; answer = answers.Ok 0; missed = None; draw = None }
    ∷ record { actor = Ren; session = 6; asked = Poll; side = None; answer = answers.TimedOut 5; missed = None; draw = None }
    ∷ record { actor = Lock; session = 4; asked = Call requests.Unlock; side = None; answer = answers.Ok 0; missed = None; draw = None }
    ∷ record { actor = Insp; session = 1; asked = Call requests.ShowTables; side = None; answer = answers.Tables (record { name = codes "_t_ghc"; comment = [] } ∷ record { name = codes "_t_gho"; comment = [] } ∷ record { name = codes "t"; comment = [] } ∷ []); missed = None; draw = None }
    ∷ record { actor = Lock; session = 4; asked = Call (requests.Create (record { name = codes "_t_del"; columns = (record { name = codes "id"; kind = Int 4 false; nullable = false; default = None; auto = false } ∷ []); uniques = (record { name = None; places = (0 ∷ []) } ∷ []); indexes = []; comment = codes "ghost-cut-over-sentry"; start = None })); side = None; answer = answers.Ok 0; missed = None; draw = None }
    ∷ record { actor = Lock; session = 4; asked = Call (requests.LockTables (codes "t" ∷ codes "_t_del" ∷ [])); side = None; answer = answers.Ok 0; missed = None; draw = None }
    ∷ record { actor = Insp; session = 1; asked = Call (requests.Do (statements.Insert (codes "_t_ghc") None ((Num (pos 3)) ∷ (Text (codes "cut-over")) ∷ (Text (codes "3")) ∷ []) None)); side = None; answer = answers.Ok 1; missed = None; draw = None }
    ∷ record { actor = Apply; session = 5; asked = Call (requests.ReadLog 6 3 (codes "t" ∷ codes "_t_ghc" ∷ [])); side = None; answer = answers.Events (record { table = codes "_t_ghc"; change = changes.Write ((Num (pos 3)) ∷ (Text (codes "cut-over")) ∷ (Text (codes "3")) ∷ []) } ∷ []) 7; missed = None; draw = None }
    ∷ record { actor = Ren; session = 6; asked = Call (requests.Rename (record { old = codes "t"; new = codes "_t_del" } ∷ record { old = codes "_t_gho"; new = codes "t" } ∷ [])); side = None; answer = answers.Waits 4; missed = None; draw = None }
    ∷ record { actor = Insp; session = 1; asked = Call requests.ShowWaiting; side = None; answer = answers.Waiting (record { session = 6; names = (codes "t" ∷ codes "_t_del" ∷ codes "_t_gho" ∷ []); by = 4 } ∷ []); missed = None; draw = None }
    ∷ record { actor = Lock; session = 4; asked = Call (requests.Drop (codes "_t_del")); side = None; answer = answers.Ok 0; missed = None; draw = None }
    ∷ record { actor = Ren; session = 6; asked = Poll; side = None; answer = answers.Waits 4; missed = None; draw = None }
    ∷ record { actor = Lock; session = 4; asked = Call requests.Unlock; side = None; answer = answers.Ok 0; missed = None; draw = None }
    ∷ record { actor = Ren; session = 6; asked = Poll; side = None; answer = answers.Ok 0; missed = None; draw = None }
    ∷ record { actor = Insp; session = 1; asked = Call requests.ShowTables; side = None; answer = answers.Tables (record { name = codes "_t_del"; comment = [] } ∷ record { name = codes "_t_ghc"; comment = [] } ∷ record { name = codes "t"; comment = [] } ∷ []); missed = None; draw = None }
    ∷ record { actor = Insp; session = 1; asked = Call (requests.Drop (codes "_t_ghc")); side = None; answer = answers.Ok 0; missed = None; draw = None }
    ∷ []

abbrev reported_112 : WorkedFacts
reported_112 =
    record {
      verdict = verdicts.Done;
      ended = (None ∷ []);
      left = (record { schema = record { name = codes "t"; columns = (record { name = codes "id"; kind = VarBinary 3; nullable = false; default = None; auto = false } ∷ record { name = codes "m0"; kind = Int 1 false; nullable = false; default = None; auto = false } ∷ record { name = codes "v"; kind = Int 4 false; nullable = false; default = None; auto = false } ∷ []); uniques = (record { name = None; places = (0 ∷ []) } ∷ []); indexes = []; comment = []; start = None }; rows = (((Blob (49 ∷ [])) ∷ (Num (pos 7)) ∷ (Num (pos 7)) ∷ []) ∷ ((Blob (97 ∷ [])) ∷ (Num (pos 1)) ∷ (Num (pos 3)) ∷ []) ∷ ((Blob (99 ∷ [])) ∷ (Num (pos 5)) ∷ (Num (pos 5)) ∷ []) ∷ ((Blob (100 ∷ [])) ∷ (Num (pos 3)) ∷ (Num (pos 5)) ∷ []) ∷ ((Blob (103 ∷ [])) ∷ (Num (pos 2)) ∷ (Num (pos 4)) ∷ []) ∷ []) } ∷ []);
      alone = ([] ∷ []);
      over = replicate 47 false ++ replicate 1 true;
      bound = 1284;
      replies = ([]) ∷ [];
    }

worked_112 : IsWorked plan_112 journal_112 reported_112
unfolding computing
worked_112 = record { asks = refl; sessions = refl; answers = refl; sides = refl; struck = refl; verdict = refl; ended = refl; order = refl; left = refl; serial = refl; alone = refl; over = refl; online = refl; bounded = refl; replies = refl }

-- Plan 115
abbrev map_115 : List MapColumn
map_115 = (record { kind = VarChar 4; nullable = true; origin = from.Added (Text (codes "n")) } ∷ record { kind = Int 4 false; nullable = false; origin = from.Old 0 } ∷ record { kind = Int 4 false; nullable = true; origin = from.Old 1 } ∷ record { kind = VarChar 3; nullable = true; origin = from.Old 2 } ∷ record { kind = Int 4 false; nullable = false; origin = from.Old 3 } ∷ [])

abbrev plan_115 : PlanData
plan_115 = record { table = codes "t"; alter = (clauses.Add (record { name = codes "b"; kind = VarChar 4; nullable = None; default = (Some (Text (codes "n"))); auto = false }) First ∷ []); tables = (record { schema = record { name = codes "t"; columns = (record { name = codes "id"; kind = Int 4 false; nullable = false; default = None; auto = false } ∷ record { name = codes "m0"; kind = Int 4 false; nullable = true; default = (Some Null); auto = false } ∷ record { name = codes "m1"; kind = VarChar 3; nullable = true; default = (Some Null); auto = false } ∷ record { name = codes "v"; kind = Int 4 false; nullable = false; default = None; auto = false } ∷ []); uniques = (record { name = None; places = (0 ∷ []) } ∷ record { name = (Some (codes "u0")); places = (1 ∷ []) } ∷ record { name = (Some (codes "u1")); places = (2 ∷ []) } ∷ []); indexes = []; comment = []; start = None }; rows = (((Num (pos 1)) ∷ (Num (pos 5)) ∷ Null ∷ (Num (pos 5)) ∷ []) ∷ ((Num (pos 4)) ∷ Null ∷ Null ∷ (Num (pos 5)) ∷ []) ∷ ((Num (pos 5)) ∷ (Num (pos 2)) ∷ (Text (codes "2")) ∷ (Num (pos 300)) ∷ []) ∷ ((Num (pos 6)) ∷ (Num (pos 3)) ∷ (Text (codes "e")) ∷ (Num (pos 5)) ∷ []) ∷ ((Num (pos 7)) ∷ (Num (pos 4)) ∷ Null ∷ (Num (pos 2)) ∷ []) ∷ []) } ∷ []); clients = []; operator = []; faults = (losses.Turn 24 Apply ∷ losses.Nth Lock 2 sides_at.After ∷ losses.Turn 57 Copy ∷ []); turns = (record { actor = Insp; times = 5 } ∷ record { actor = Lock; times = 1 } ∷ record { actor = Copy; times = 2 } ∷ record { actor = Apply; times = 5 } ∷ record { actor = Ren; times = 3 } ∷ record { actor = Insp; times = 1 } ∷ record { actor = Lock; times = 1 } ∷ record { actor = Insp; times = 1 } ∷ record { actor = Copy; times = 2 } ∷ record { actor = Copy; times = 2 } ∷ record { actor = Ren; times = 2 } ∷ record { actor = Lock; times = 2 } ∷ record { actor = Copy; times = 1 } ∷ record { actor = Copy; times = 3 } ∷ record { actor = Op; times = 1 } ∷ record { actor = Apply; times = 1 } ∷ record { actor = Lock; times = 1 } ∷ record { actor = Lock; times = 2 } ∷ record { actor = Ren; times = 2 } ∷ record { actor = Op; times = 1 } ∷ record { actor = Copy; times = 5 } ∷ record { actor = Insp; times = 2 } ∷ record { actor = Apply; times = 5 } ∷ record { actor = Insp; times = 1 } ∷ record { actor = Insp; times = 5 } ∷ record { actor = Copy; times = 3 } ∷ record { actor = Op; times = 3 } ∷ []); options = record { chunk_size = 1000; dml_batch_size = 3; default_retries = 2; max_backlog = 100; drain_limit = 2000; client_wait = 30; tool_wait = 30; max_load = 64; turn_limit = 200000; notes = 0; note_every = 100; replica_step = 0; replica_pause = 1; max_lag = 10; resume = false; approve_renamed_columns = true; initially_drop_ghost_table = false; initially_drop_old_table = false; ok_to_drop_table = false; postpone = false; show_history = true; show_turns = true; show_tables = true; show_replies = true } }

abbrev journal_115 : List Entry
journal_115 =
    record { actor = Insp; session = 1; asked = Call requests.ShowTables; side = None; answer = answers.Tables (record { name = codes "t"; comment = [] } ∷ []); missed = None; draw = None }
    ∷ record { actor = Insp; session = 1; asked = Call (requests.Create (record { name = codes "_t_ghc"; columns = (record { name = codes "id"; kind = Int 8 false; nullable = false; default = None; auto = false } ∷ record { name = codes "hint"; kind = VarChar 64; nullable = false; default = None; auto = false } ∷ record { name = codes "value"; kind = VarChar 255; nullable = false; default = None; auto = false } ∷ []); uniques = (record { name = None; places = (0 ∷ []) } ∷ []); indexes = []; comment = []; start = None })); side = None; answer = answers.Ok 0; missed = None; draw = None }
    ∷ record { actor = Insp; session = 1; asked = Call (requests.Create (record { name = codes "_t_gho"; columns = (record { name = codes "b"; kind = VarChar 4; nullable = true; default = (Some (Text (codes "n"))); auto = false } ∷ record { name = codes "id"; kind = Int 4 false; nullable = false; default = None; auto = false } ∷ record { name = codes "m0"; kind = Int 4 false; nullable = true; default = (Some Null); auto = false } ∷ record { name = codes "m1"; kind = VarChar 3; nullable = true; default = (Some Null); auto = false } ∷ record { name = codes "v"; kind = Int 4 false; nullable = false; default = None; auto = false } ∷ []); uniques = (record { name = None; places = (1 ∷ []) } ∷ record { name = (Some (codes "u0")); places = (2 ∷ []) } ∷ record { name = (Some (codes "u1")); places = (3 ∷ []) } ∷ []); indexes = []; comment = []; start = None })); side = None; answer = answers.Ok 0; missed = None; draw = None }
    ∷ record { actor = Insp; session = 1; asked = Call requests.LogEnd; side = None; answer = answers.At 0; missed = None; draw = None }
    ∷ record { actor = Insp; session = 1; asked = Call (requests.Ends (codes "t")); side = None; answer = answers.Ends (Some (record { least = ((Num (pos 1)) ∷ []); greatest = ((Num (pos 7)) ∷ []) })); missed = None; draw = None }
    ∷ record { actor = Copy; session = 2; asked = Call (requests.ChunkEnd (codes "t") (Closed ((Num (pos 1)) ∷ [])) ((Num (pos 7)) ∷ []) 1000); side = None; answer = answers.End ((Num (pos 7)) ∷ []); missed = None; draw = None }
    ∷ record { actor = Copy; session = 2; asked = Call (requests.BeginSpan (codes "t") (record { low = (Closed ((Num (pos 1)) ∷ [])); high = (Closed ((Num (pos 7)) ∷ [])) }) 1000); side = None; answer = answers.Keys (((Num (pos 1)) ∷ []) ∷ ((Num (pos 4)) ∷ []) ∷ ((Num (pos 5)) ∷ []) ∷ ((Num (pos 6)) ∷ []) ∷ ((Num (pos 7)) ∷ []) ∷ []) ((Num (pos 7)) ∷ []); missed = None; draw = None }
    ∷ record { actor = Copy; session = 2; asked = Call (requests.CopyRow (codes "t") (codes "_t_gho") map_115 ((Num (pos 1)) ∷ [])); side = None; answer = answers.Ok 1; missed = None; draw = None }
    ∷ record { actor = Copy; session = 2; asked = Call (requests.CopyRow (codes "t") (codes "_t_gho") map_115 ((Num (pos 4)) ∷ [])); side = None; answer = answers.Ok 1; missed = None; draw = None }
    ∷ record { actor = Copy; session = 2; asked = Call (requests.CopyRow (codes "t") (codes "_t_gho") map_115 ((Num (pos 5)) ∷ [])); side = None; answer = answers.Ok 1; missed = None; draw = None }
    ∷ record { actor = Copy; session = 2; asked = Call (requests.CopyRow (codes "t") (codes "_t_gho") map_115 ((Num (pos 6)) ∷ [])); side = None; answer = answers.Ok 1; missed = None; draw = None }
    ∷ record { actor = Copy; session = 2; asked = Call (requests.CopyRow (codes "t") (codes "_t_gho") map_115 ((Num (pos 7)) ∷ [])); side = None; answer = answers.Ok 1; missed = None; draw = None }
    ∷ record { actor = Copy; session = 2; asked = Call requests.Commit; side = None; answer = answers.Ok 0; missed = None; draw = None }
    ∷ record { actor = Lock; session = 3; asked = Call (requests.Create (record { name = codes "_t_del"; columns = (record { name = codes "id"; kind = Int 4 false; nullable = false; default = None; auto = false } ∷ []); uniques = (record { name = None; places = (0 ∷ []) } ∷ []); indexes = []; comment = codes "ghost-cut-over-sentry"; start = None })); side = None; answer = answers.Ok 0; missed = None; draw = None }
    ∷ record { actor = Lock; session = 3; asked = Call (requests.LockTables (codes "t" ∷ codes "_t_del" ∷ [])); side = (Some sides_at.After); answer = answers.Lost; missed = (Some (answers.Ok 0)); draw = None }
    ∷ record { actor = Insp; session = 1; asked = Call requests.ShowTables; side = None; answer = answers.Tables (record { name = codes "_t_del"; comment = codes "ghost-cut-over-sentry" } ∷ record { name = codes "_t_ghc"; comment = [] } ∷ record { name = codes "_t_gho"; comment = [] } ∷ record { name = codes "t"; comment = [] } ∷ []); missed = None; draw = None }
    ∷ record { actor = Insp; session = 1; asked = Call (requests.Drop (codes "_t_del")); side = None; answer = answers.Ok 0; missed = None; draw = None }
    ∷ record { actor = Lock; session = 4; asked = Call (requests.Create (record { name = codes "_t_del"; columns = (record { name = codes "id"; kind = Int 4 false; nullable = false; default = None; auto = false } ∷ []); uniques = (record { name = None; places = (0 ∷ []) } ∷ []); indexes = []; comment = codes "ghost-cut-over-sentry"; start = None })); side = None; answer = answers.Ok 0; missed = None; draw = None }
    ∷ record { actor = Lock; session = 4; asked = Call (requests.LockTables (codes "t" ∷ codes "_t_del" ∷ [])); side = None; answer = answers.Ok 0; missed = None; draw = None }
    ∷ record { actor = Insp; session = 1; asked = Call (requests.Do (statements.Insert (codes "_t_ghc") None ((Num (pos 2)) ∷ (Text (codes "cut-over")) ∷ (Text (codes "2")) ∷ []) None)); side = None; answer = answers.Ok 1; missed = None; draw = None }
    ∷ record { actor = Apply; session = 5; asked = Call (requests.ReadLog 0 3 (codes "t" ∷ codes "_t_ghc" ∷ [])); side = None; answer = answers.Events (record { table = codes "_t_ghc"; change = changes.Write ((Num (pos 2)) ∷ (Text (codes "cut-over")) ∷ (Text (codes "2")) ∷ []) } ∷ []) 6; missed = None; draw = None }
    ∷ record { actor = Ren; session = 6; asked = Call (requests.Rename (record { old = codes "t"; new = codes "_t_del" } ∷ record { old = codes "_t_gho"; new = codes "t" } ∷ [])); side = None; answer = answers.Waits 4; missed = None; draw = None }
    ∷ record { actor = Insp; session = 1; asked = Call requests.ShowWaiting; side = None; answer = answers.Waiting (record { session = 6; names = (codes "t" ∷ codes "_t_del" ∷ codes "_t_gho" ∷ []); by = 4 } ∷ []); missed = None; draw = None }
    ∷ record { actor = Apply; session = 5; asked = Cut; side = None; answer = answers.Lost; missed = None; draw = None }
    ∷ record { actor = Lock; session = 4; asked = Call (requests.Drop (codes "_t_del")); side = None; answer = answers.Ok 0; missed = None; draw = None }
    ∷ record { actor = Ren; session = 6; asked = Poll; side = None; answer = answers.Waits 4; missed = None; draw = None }
    ∷ record { actor = Lock; session = 4; asked = Call requests.Unlock; side = None; answer = answers.Ok 0; missed = None; draw = None }
    ∷ record { actor = Ren; session = 6; asked = Poll; side = None; answer = answers.Ok 0; missed = None; draw = None }
    ∷ record { actor = Insp; session = 1; asked = Call requests.ShowTables; side = None; answer = answers.Tables (record { name = codes "_t_del"; comment = [] } ∷ record { name = codes "_t_ghc"; comment = [] } ∷ record { name = codes "t"; comment = [] } ∷ []); missed = None; draw = None }
    ∷ record { actor = Insp; session = 1; asked = Call (requests.Drop (codes "_t_ghc")); side = None; answer = answers.Ok 0; missed = None; draw = None }
    ∷ []

abbrev reported_115 : WorkedFacts
reported_115 =
    record {
      verdict = verdicts.Done;
      ended = (None ∷ []);
      left = (record { schema = record { name = codes "t"; columns = (record { name = codes "b"; kind = VarChar 4; nullable = true; default = (Some (Text (codes "n"))); auto = false } ∷ record { name = codes "id"; kind = Int 4 false; nullable = false; default = None; auto = false } ∷ record { name = codes "m0"; kind = Int 4 false; nullable = true; default = (Some Null); auto = false } ∷ record { name = codes "m1"; kind = VarChar 3; nullable = true; default = (Some Null); auto = false } ∷ record { name = codes "v"; kind = Int 4 false; nullable = false; default = None; auto = false } ∷ []); uniques = (record { name = None; places = (1 ∷ []) } ∷ record { name = (Some (codes "u0")); places = (2 ∷ []) } ∷ record { name = (Some (codes "u1")); places = (3 ∷ []) } ∷ []); indexes = []; comment = []; start = None }; rows = (((Text (codes "n")) ∷ (Num (pos 1)) ∷ (Num (pos 5)) ∷ Null ∷ (Num (pos 5)) ∷ []) ∷ ((Text (codes "n")) ∷ (Num (pos 4)) ∷ Null ∷ Null ∷ (Num (pos 5)) ∷ []) ∷ ((Text (codes "n")) ∷ (Num (pos 5)) ∷ (Num (pos 2)) ∷ (Text (codes "2")) ∷ (Num (pos 300)) ∷ []) ∷ ((Text (codes "n")) ∷ (Num (pos 6)) ∷ (Num (pos 3)) ∷ (Text (codes "e")) ∷ (Num (pos 5)) ∷ []) ∷ ((Text (codes "n")) ∷ (Num (pos 7)) ∷ (Num (pos 4)) ∷ Null ∷ (Num (pos 2)) ∷ []) ∷ []) } ∷ []);
      alone = ([] ∷ []);
      over = replicate 29 false ++ replicate 1 true;
      bound = 3579;
      replies = [];
    }

worked_115 : IsWorked plan_115 journal_115 reported_115
unfolding computing
worked_115 = record { asks = refl; sessions = refl; answers = refl; sides = refl; struck = refl; verdict = refl; ended = refl; order = refl; left = refl; serial = refl; alone = refl; over = refl; online = refl; bounded = refl; replies = refl }

-- Plan 116
abbrev map_116 : List MapColumn
map_116 = (record { kind = Int 1 false; nullable = false; origin = from.Old 0 } ∷ record { kind = VarChar 1; nullable = false; origin = from.Old 1 } ∷ record { kind = Int 4 false; nullable = false; origin = from.Old 2 } ∷ [])

abbrev plan_116 : PlanData
plan_116 = record { table = codes "t"; alter = (clauses.Change (codes "m0") (record { name = codes "m0"; kind = VarChar 1; nullable = (Some false); default = None; auto = false }) Unsaid ∷ []); tables = (record { schema = record { name = codes "t"; columns = (record { name = codes "m1"; kind = Int 1 false; nullable = false; default = None; auto = false } ∷ record { name = codes "m0"; kind = VarChar 3; nullable = true; default = (Some Null); auto = false } ∷ record { name = codes "id"; kind = Int 4 false; nullable = false; default = None; auto = false } ∷ []); uniques = (record { name = (Some (codes "k")); places = (2 ∷ []) } ∷ record { name = (Some (codes "u0")); places = (1 ∷ []) } ∷ record { name = (Some (codes "u1")); places = (0 ∷ []) } ∷ []); indexes = []; comment = []; start = None }; rows = (((Num (pos 6)) ∷ (Text (codes "d")) ∷ (Num (pos 2)) ∷ []) ∷ ((Num (pos 3)) ∷ (Text (codes "a")) ∷ (Num (pos 5)) ∷ []) ∷ ((Num (pos 2)) ∷ (Text (codes "c")) ∷ (Num (pos 6)) ∷ []) ∷ []) } ∷ []); clients = ((record { line = 1; word = (words.Do (statements.Delete (codes "t") (conditions.Equal (record { column = codes "id"; value = (Num (pos 6)) } ∷ [])))) } ∷ record { line = 2; word = (words.Do (statements.Insert (codes "t") None ((Num (pos 2)) ∷ (Num (pos 6)) ∷ (Num (pos 4)) ∷ (Num (pos 1)) ∷ []) None)) } ∷ record { line = 3; word = words.Begin } ∷ record { line = 4; word = (words.Do (statements.Replace (codes "t") (Some (codes "m0" ∷ codes "id" ∷ [])) ((Text (codes "b")) ∷ (Num (pos 4)) ∷ []) None)) } ∷ record { line = 5; word = words.Rollback } ∷ record { line = 6; word = (words.Do (statements.Delete (codes "t") (conditions.Equal (record { column = codes "id"; value = (Num (pos 1)) } ∷ [])))) } ∷ []) ∷ [] ∷ (record { line = 1; word = (words.Do (statements.Replace (codes "t") (Some (codes "m1" ∷ codes "m0" ∷ codes "id" ∷ [])) ((Num (pos 1)) ∷ Null ∷ (Num (pos 6)) ∷ []) None)) } ∷ record { line = 2; word = (words.Do (statements.Select (codes "t") shown.Count (conditions.Equal (record { column = codes "id"; value = (Num (pos 1)) } ∷ [])))) } ∷ record { line = 3; word = words.Begin } ∷ record { line = 4; word = (words.Do (statements.Update (codes "t") (record { column = codes "m1"; value = (Num (pos 7)) } ∷ record { column = codes "m0"; value = Null } ∷ []) (conditions.Equal (record { column = codes "id"; value = (Num (pos 4)) } ∷ [])))) } ∷ record { line = 5; word = (words.Do (statements.Replace (codes "t") (Some (codes "m1" ∷ codes "m0" ∷ codes "id" ∷ [])) ((Num (pos 5)) ∷ (Num (pos 3)) ∷ (Num (pos 4)) ∷ []) None)) } ∷ record { line = 6; word = (words.Do (statements.Select (codes "t") (shown.Columns (codes "m1" ∷ [])) (conditions.Equal (record { column = codes "id"; value = (Num (pos 1)) } ∷ [])))) } ∷ record { line = 7; word = words.Commit } ∷ []) ∷ []); operator = []; faults = (losses.Turn 7 Insp ∷ []); turns = []; options = record { chunk_size = 3; dml_batch_size = 10; default_retries = 5; max_backlog = 100; drain_limit = 2000; client_wait = 3; tool_wait = 2; max_load = 64; turn_limit = 200000; notes = 0; note_every = 100; replica_step = 0; replica_pause = 1; max_lag = 10; resume = false; approve_renamed_columns = true; initially_drop_ghost_table = false; initially_drop_old_table = false; ok_to_drop_table = true; postpone = false; show_history = true; show_turns = true; show_tables = true; show_replies = true } }

abbrev journal_116 : List Entry
journal_116 =
    record { actor = Insp; session = 1; asked = Call requests.ShowTables; side = None; answer = answers.Tables (record { name = codes "t"; comment = [] } ∷ []); missed = None; draw = None }
    ∷ record { actor = (Client 1); session = 2; asked = Call (requests.Do (statements.Delete (codes "t") (conditions.Equal (record { column = codes "id"; value = (Num (pos 6)) } ∷ [])))); side = None; answer = answers.Ok 1; missed = None; draw = None }
    ∷ record { actor = (Client 3); session = 3; asked = Call (requests.Do (statements.Replace (codes "t") (Some (codes "m1" ∷ codes "m0" ∷ codes "id" ∷ [])) ((Num (pos 1)) ∷ Null ∷ (Num (pos 6)) ∷ []) None)); side = None; answer = answers.Ok 1; missed = None; draw = None }
    ∷ record { actor = Insp; session = 1; asked = Call (requests.Create (record { name = codes "_t_ghc"; columns = (record { name = codes "id"; kind = Int 8 false; nullable = false; default = None; auto = false } ∷ record { name = codes "hint"; kind = VarChar 64; nullable = false; default = None; auto = false } ∷ record { name = codes "value"; kind = VarChar 255; nullable = false; default = None; auto = false } ∷ []); uniques = (record { name = None; places = (0 ∷ []) } ∷ []); indexes = []; comment = []; start = None })); side = None; answer = answers.Ok 0; missed = None; draw = None }
    ∷ record { actor = (Client 1); session = 2; asked = Call (requests.Do (statements.Insert (codes "t") None ((Num (pos 2)) ∷ (Num (pos 6)) ∷ (Num (pos 4)) ∷ (Num (pos 1)) ∷ []) None)); side = None; answer = answers.Refused 1136 None; missed = None; draw = None }
    ∷ record { actor = (Client 3); session = 3; asked = Call (requests.Do (statements.Select (codes "t") shown.Count (conditions.Equal (record { column = codes "id"; value = (Num (pos 1)) } ∷ [])))); side = None; answer = answers.Rows (((Num (pos 0)) ∷ []) ∷ []); missed = None; draw = None }
    ∷ record { actor = Insp; session = 1; asked = Cut; side = None; answer = answers.Lost; missed = None; draw = None }
    ∷ record { actor = Insp; session = 4; asked = Call (requests.Create (record { name = codes "_t_gho"; columns = (record { name = codes "m1"; kind = Int 1 false; nullable = false; default = None; auto = false } ∷ record { name = codes "m0"; kind = VarChar 1; nullable = false; default = None; auto = false } ∷ record { name = codes "id"; kind = Int 4 false; nullable = false; default = None; auto = false } ∷ []); uniques = (record { name = (Some (codes "k")); places = (2 ∷ []) } ∷ record { name = (Some (codes "u0")); places = (1 ∷ []) } ∷ record { name = (Some (codes "u1")); places = (0 ∷ []) } ∷ []); indexes = []; comment = []; start = None })); side = None; answer = answers.Ok 0; missed = None; draw = None }
    ∷ record { actor = (Client 1); session = 2; asked = Call requests.Begin; side = None; answer = answers.Ok 0; missed = None; draw = None }
    ∷ record { actor = (Client 3); session = 3; asked = Call requests.Begin; side = None; answer = answers.Ok 0; missed = None; draw = None }
    ∷ record { actor = Insp; session = 4; asked = Call requests.LogEnd; side = None; answer = answers.At 2; missed = None; draw = None }
    ∷ record { actor = (Client 1); session = 2; asked = Call (requests.Do (statements.Replace (codes "t") (Some (codes "m0" ∷ codes "id" ∷ [])) ((Text (codes "b")) ∷ (Num (pos 4)) ∷ []) None)); side = None; answer = answers.Refused 1364 None; missed = None; draw = None }
    ∷ record { actor = (Client 3); session = 3; asked = Call (requests.Do (statements.Update (codes "t") (record { column = codes "m1"; value = (Num (pos 7)) } ∷ record { column = codes "m0"; value = Null } ∷ []) (conditions.Equal (record { column = codes "id"; value = (Num (pos 4)) } ∷ [])))); side = None; answer = answers.Ok 0; missed = None; draw = None }
    ∷ record { actor = Insp; session = 4; asked = Call (requests.Ends (codes "t")); side = None; answer = answers.Ends (Some (record { least = ((Num (pos 2)) ∷ []); greatest = ((Num (pos 6)) ∷ []) })); missed = None; draw = None }
    ∷ record { actor = Copy; session = 5; asked = Call (requests.ChunkEnd (codes "t") (Closed ((Num (pos 2)) ∷ [])) ((Num (pos 6)) ∷ []) 3); side = None; answer = answers.End ((Num (pos 6)) ∷ []); missed = None; draw = None }
    ∷ record { actor = (Client 1); session = 2; asked = Call requests.Rollback; side = None; answer = answers.Ok 0; missed = None; draw = None }
    ∷ record { actor = (Client 3); session = 3; asked = Call (requests.Do (statements.Replace (codes "t") (Some (codes "m1" ∷ codes "m0" ∷ codes "id" ∷ [])) ((Num (pos 5)) ∷ (Num (pos 3)) ∷ (Num (pos 4)) ∷ []) None)); side = None; answer = answers.Ok 1; missed = None; draw = None }
    ∷ record { actor = Copy; session = 5; asked = Call (requests.BeginSpan (codes "t") (record { low = (Closed ((Num (pos 2)) ∷ [])); high = (Closed ((Num (pos 6)) ∷ [])) }) 3); side = None; answer = answers.Waits 3; missed = None; draw = None }
    ∷ record { actor = (Client 1); session = 2; asked = Call (requests.Do (statements.Delete (codes "t") (conditions.Equal (record { column = codes "id"; value = (Num (pos 1)) } ∷ [])))); side = None; answer = answers.Ok 0; missed = None; draw = None }
    ∷ record { actor = (Client 3); session = 3; asked = Call (requests.Do (statements.Select (codes "t") (shown.Columns (codes "m1" ∷ [])) (conditions.Equal (record { column = codes "id"; value = (Num (pos 1)) } ∷ [])))); side = None; answer = answers.Rows []; missed = None; draw = None }
    ∷ record { actor = Copy; session = 5; asked = Poll; side = None; answer = answers.Waits 3; missed = None; draw = None }
    ∷ record { actor = (Client 3); session = 3; asked = Call requests.Commit; side = None; answer = answers.Ok 0; missed = None; draw = None }
    ∷ record { actor = Copy; session = 5; asked = Poll; side = None; answer = answers.Keys (((Num (pos 2)) ∷ []) ∷ ((Num (pos 4)) ∷ []) ∷ ((Num (pos 5)) ∷ []) ∷ []) ((Num (pos 5)) ∷ []); missed = None; draw = None }
    ∷ record { actor = Apply; session = 6; asked = Call (requests.ReadLog 2 10 (codes "t" ∷ codes "_t_ghc" ∷ [])); side = None; answer = answers.Events (record { table = codes "t"; change = changes.Write ((Num (pos 5)) ∷ (Text (codes "3")) ∷ (Num (pos 4)) ∷ []) } ∷ []) 3; missed = None; draw = None }
    ∷ record { actor = Copy; session = 5; asked = Call (requests.CopyRow (codes "t") (codes "_t_gho") map_116 ((Num (pos 2)) ∷ [])); side = None; answer = answers.Ok 1; missed = None; draw = None }
    ∷ record { actor = Apply; session = 6; asked = Call requests.Begin; side = None; answer = answers.Ok 0; missed = None; draw = None }
    ∷ record { actor = Copy; session = 5; asked = Call (requests.CopyRow (codes "t") (codes "_t_gho") map_116 ((Num (pos 4)) ∷ [])); side = None; answer = answers.Ok 1; missed = None; draw = None }
    ∷ record { actor = Apply; session = 6; asked = Call (requests.Do (statements.Replace (codes "_t_gho") None ((Num (pos 5)) ∷ (Text (codes "3")) ∷ (Num (pos 4)) ∷ []) None)); side = None; answer = answers.Waits 5; missed = None; draw = None }
    ∷ record { actor = Copy; session = 5; asked = Call (requests.CopyRow (codes "t") (codes "_t_gho") map_116 ((Num (pos 5)) ∷ [])); side = None; answer = answers.Ok 1; missed = None; draw = None }
    ∷ record { actor = Apply; session = 6; asked = Poll; side = None; answer = answers.Waits 5; missed = None; draw = None }
    ∷ record { actor = Copy; session = 5; asked = Call requests.Commit; side = None; answer = answers.Ok 0; missed = None; draw = None }
    ∷ record { actor = Apply; session = 6; asked = Poll; side = None; answer = answers.Ok 2; missed = None; draw = None }
    ∷ record { actor = Copy; session = 5; asked = Call (requests.ChunkEnd (codes "t") (Open ((Num (pos 5)) ∷ [])) ((Num (pos 6)) ∷ []) 3); side = None; answer = answers.End ((Num (pos 6)) ∷ []); missed = None; draw = None }
    ∷ record { actor = Apply; session = 6; asked = Call requests.Commit; side = None; answer = answers.Ok 0; missed = None; draw = None }
    ∷ record { actor = Copy; session = 5; asked = Call (requests.BeginSpan (codes "t") (record { low = (Open ((Num (pos 5)) ∷ [])); high = (Closed ((Num (pos 6)) ∷ [])) }) 3); side = None; answer = answers.Keys (((Num (pos 6)) ∷ []) ∷ []) ((Num (pos 6)) ∷ []); missed = None; draw = None }
    ∷ record { actor = Copy; session = 5; asked = Call (requests.CopyRow (codes "t") (codes "_t_gho") map_116 ((Num (pos 6)) ∷ [])); side = None; answer = answers.Refused 1048 (Some 1); missed = None; draw = None }
    ∷ record { actor = Copy; session = 5; asked = Call requests.Rollback; side = None; answer = answers.Ok 0; missed = None; draw = None }
    ∷ []

abbrev reported_116 : WorkedFacts
reported_116 =
    record {
      verdict = verdicts.Reverted (causes.Unfit 36 ((Num (pos 6)) ∷ []) (codes "m0") 1048);
      ended = (Some (1, 1) ∷ Some (3, 1) ∷ Some (1, 2) ∷ Some (3, 2) ∷ Some (1, 3) ∷ Some (1, 4) ∷ Some (3, 3) ∷ []);
      left = (record { schema = record { name = codes "t"; columns = (record { name = codes "m1"; kind = Int 1 false; nullable = false; default = None; auto = false } ∷ record { name = codes "m0"; kind = VarChar 3; nullable = true; default = (Some Null); auto = false } ∷ record { name = codes "id"; kind = Int 4 false; nullable = false; default = None; auto = false } ∷ []); uniques = (record { name = (Some (codes "k")); places = (2 ∷ []) } ∷ record { name = (Some (codes "u0")); places = (1 ∷ []) } ∷ record { name = (Some (codes "u1")); places = (0 ∷ []) } ∷ []); indexes = []; comment = []; start = None }; rows = (((Num (pos 6)) ∷ (Text (codes "d")) ∷ (Num (pos 2)) ∷ []) ∷ ((Num (pos 5)) ∷ (Text (codes "3")) ∷ (Num (pos 4)) ∷ []) ∷ ((Num (pos 3)) ∷ (Text (codes "a")) ∷ (Num (pos 5)) ∷ []) ∷ ((Num (pos 1)) ∷ Null ∷ (Num (pos 6)) ∷ []) ∷ []) } ∷ []);
      alone = (((replies.Ok 1) ∷ []) ∷ ((replies.Ok 1) ∷ []) ∷ ((replies.Error 1136) ∷ []) ∷ ((replies.Rows (((Num (pos 0)) ∷ []) ∷ [])) ∷ []) ∷ ((replies.Ok 0) ∷ (replies.Error 1364) ∷ (replies.Ok 0) ∷ []) ∷ ((replies.Ok 0) ∷ []) ∷ ((replies.Ok 0) ∷ (replies.Ok 0) ∷ (replies.Ok 1) ∷ (replies.Rows []) ∷ (replies.Ok 0) ∷ []) ∷ []);
      over = replicate 36 false ++ replicate 1 true;
      bound = 240784;
      replies = (((1, 1, (Some (replies.Ok 1))) ∷ (2, 1, (Some (replies.Error 1136))) ∷ (3, 1, (Some (replies.Ok 0))) ∷ (3, 2, (Some (replies.Error 1364))) ∷ (3, 3, (Some (replies.Ok 0))) ∷ (4, 1, (Some (replies.Ok 0))) ∷ [])) ∷ ([]) ∷ (((1, 1, (Some (replies.Ok 1))) ∷ (2, 1, (Some (replies.Rows (((Num (pos 0)) ∷ []) ∷ [])))) ∷ (3, 1, (Some (replies.Ok 0))) ∷ (3, 2, (Some (replies.Ok 0))) ∷ (3, 3, (Some (replies.Ok 1))) ∷ (3, 4, (Some (replies.Rows []))) ∷ (3, 5, (Some (replies.Ok 0))) ∷ [])) ∷ [];
    }

worked_116 : IsWorked plan_116 journal_116 reported_116
unfolding computing
worked_116 = record { asks = refl; sessions = refl; answers = refl; sides = refl; struck = refl; verdict = refl; ended = refl; order = refl; left = refl; serial = refl; alone = refl; over = refl; online = refl; bounded = refl; replies = refl }

-- Plan 119
abbrev map_119 : List MapColumn
map_119 = (record { kind = Int 8 false; nullable = false; origin = from.Old 0 } ∷ record { kind = Int 1 false; nullable = true; origin = from.Old 1 } ∷ [])

abbrev plan_119 : PlanData
plan_119 = record { table = codes "t"; alter = (clauses.Change (codes "v") (record { name = codes "v"; kind = Int 1 false; nullable = None; default = None; auto = false }) Unsaid ∷ []); tables = (record { schema = record { name = codes "t"; columns = (record { name = codes "id"; kind = Int 8 false; nullable = false; default = None; auto = false } ∷ record { name = codes "v"; kind = Int 2 false; nullable = true; default = (Some (Num (pos 5))); auto = false } ∷ []); uniques = (record { name = None; places = (0 ∷ []) } ∷ []); indexes = (record { name = (Some (codes "v")); places = (1 ∷ []) } ∷ []); comment = []; start = None }; rows = [] } ∷ []); clients = ((record { line = 1; word = (words.Do (statements.Update (codes "t") (record { column = codes "v"; value = Null } ∷ []) (conditions.Range (record { column = codes "id"; sign = signs.AtLeast; value = (Num (pos 3)) } ∷ record { column = codes "id"; sign = signs.AtMost; value = (Num (pos 5)) } ∷ [])))) } ∷ record { line = 2; word = (words.Do (statements.Replace (codes "t") (Some (codes "id" ∷ codes "v" ∷ [])) ((Num (pos 4)) ∷ Null ∷ []) None)) } ∷ record { line = 3; word = words.Begin } ∷ record { line = 4; word = words.Commit } ∷ []) ∷ []); operator = []; faults = (losses.Nth Op 5 sides_at.Before ∷ losses.Nth Ren 22 sides_at.Before ∷ losses.Turn 54 Lock ∷ losses.Nth Copy 5 sides_at.Before ∷ losses.Nth Insp 2 sides_at.After ∷ losses.Turn 30 Ren ∷ losses.Nth Insp 12 sides_at.Before ∷ losses.Nth Op 2 sides_at.Before ∷ losses.Nth Insp 1 sides_at.Before ∷ losses.Turn 3 Lock ∷ losses.Nth (Client 1) 20 sides_at.After ∷ losses.Nth Copy 1 sides_at.After ∷ []); turns = (record { actor = Apply; times = 3 } ∷ record { actor = (Client 1); times = 1 } ∷ record { actor = Lock; times = 2 } ∷ record { actor = Insp; times = 1 } ∷ record { actor = Lock; times = 1 } ∷ record { actor = Lock; times = 3 } ∷ record { actor = Op; times = 1 } ∷ record { actor = Ren; times = 1 } ∷ record { actor = Insp; times = 1 } ∷ record { actor = Op; times = 2 } ∷ record { actor = (Client 1); times = 1 } ∷ record { actor = Lock; times = 1 } ∷ record { actor = (Client 1); times = 1 } ∷ record { actor = (Client 1); times = 2 } ∷ record { actor = Ren; times = 1 } ∷ record { actor = Apply; times = 1 } ∷ record { actor = Lock; times = 5 } ∷ record { actor = Insp; times = 1 } ∷ record { actor = Ren; times = 1 } ∷ record { actor = Lock; times = 1 } ∷ record { actor = Op; times = 3 } ∷ record { actor = Ren; times = 1 } ∷ record { actor = Ren; times = 2 } ∷ record { actor = Copy; times = 1 } ∷ record { actor = Ren; times = 2 } ∷ record { actor = Apply; times = 1 } ∷ record { actor = Insp; times = 2 } ∷ record { actor = Insp; times = 3 } ∷ record { actor = Ren; times = 2 } ∷ record { actor = Ren; times = 5 } ∷ record { actor = (Client 1); times = 1 } ∷ record { actor = (Client 1); times = 5 } ∷ record { actor = (Client 1); times = 1 } ∷ record { actor = Lock; times = 1 } ∷ record { actor = Lock; times = 2 } ∷ record { actor = Copy; times = 5 } ∷ record { actor = Ren; times = 1 } ∷ record { actor = Copy; times = 5 } ∷ record { actor = Ren; times = 3 } ∷ []); options = record { chunk_size = 5; dml_batch_size = 3; default_retries = 60; max_backlog = 1; drain_limit = 5; client_wait = 1; tool_wait = 9; max_load = 64; turn_limit = 200000; notes = 0; note_every = 100; replica_step = 0; replica_pause = 1; max_lag = 10; resume = false; approve_renamed_columns = true; initially_drop_ghost_table = false; initially_drop_old_table = false; ok_to_drop_table = false; postpone = false; show_history = true; show_turns = true; show_tables = true; show_replies = true } }

abbrev journal_119 : List Entry
journal_119 =
    record { actor = (Client 1); session = 1; asked = Call (requests.Do (statements.Update (codes "t") (record { column = codes "v"; value = Null } ∷ []) (conditions.Range (record { column = codes "id"; sign = signs.AtLeast; value = (Num (pos 3)) } ∷ record { column = codes "id"; sign = signs.AtMost; value = (Num (pos 5)) } ∷ [])))); side = None; answer = answers.Ok 0; missed = None; draw = None }
    ∷ record { actor = Insp; session = 2; asked = Call requests.ShowTables; side = (Some sides_at.Before); answer = answers.Lost; missed = None; draw = None }
    ∷ record { actor = Insp; session = 3; asked = Call requests.ShowTables; side = (Some sides_at.After); answer = answers.Lost; missed = (Some (answers.Tables (record { name = codes "t"; comment = [] } ∷ []))); draw = None }
    ∷ record { actor = (Client 1); session = 1; asked = Call (requests.Do (statements.Replace (codes "t") (Some (codes "id" ∷ codes "v" ∷ [])) ((Num (pos 4)) ∷ Null ∷ []) None)); side = None; answer = answers.Ok 1; missed = None; draw = None }
    ∷ record { actor = (Client 1); session = 1; asked = Call requests.Begin; side = None; answer = answers.Ok 0; missed = None; draw = None }
    ∷ record { actor = (Client 1); session = 1; asked = Call requests.Commit; side = None; answer = answers.Ok 0; missed = None; draw = None }
    ∷ record { actor = Insp; session = 4; asked = Call requests.ShowTables; side = None; answer = answers.Tables (record { name = codes "t"; comment = [] } ∷ []); missed = None; draw = None }
    ∷ record { actor = Insp; session = 4; asked = Call (requests.Create (record { name = codes "_t_ghc"; columns = (record { name = codes "id"; kind = Int 8 false; nullable = false; default = None; auto = false } ∷ record { name = codes "hint"; kind = VarChar 64; nullable = false; default = None; auto = false } ∷ record { name = codes "value"; kind = VarChar 255; nullable = false; default = None; auto = false } ∷ []); uniques = (record { name = None; places = (0 ∷ []) } ∷ []); indexes = []; comment = []; start = None })); side = None; answer = answers.Ok 0; missed = None; draw = None }
    ∷ record { actor = Insp; session = 4; asked = Call (requests.Create (record { name = codes "_t_gho"; columns = (record { name = codes "id"; kind = Int 8 false; nullable = false; default = None; auto = false } ∷ record { name = codes "v"; kind = Int 1 false; nullable = true; default = (Some Null); auto = false } ∷ []); uniques = (record { name = None; places = (0 ∷ []) } ∷ []); indexes = (record { name = (Some (codes "v")); places = (1 ∷ []) } ∷ []); comment = []; start = None })); side = None; answer = answers.Ok 0; missed = None; draw = None }
    ∷ record { actor = Insp; session = 4; asked = Call requests.LogEnd; side = None; answer = answers.At 1; missed = None; draw = None }
    ∷ record { actor = Insp; session = 4; asked = Call (requests.Ends (codes "t")); side = None; answer = answers.Ends (Some (record { least = ((Num (pos 4)) ∷ []); greatest = ((Num (pos 4)) ∷ []) })); missed = None; draw = None }
    ∷ record { actor = Copy; session = 5; asked = Call (requests.ChunkEnd (codes "t") (Closed ((Num (pos 4)) ∷ [])) ((Num (pos 4)) ∷ []) 5); side = (Some sides_at.After); answer = answers.Lost; missed = (Some (answers.End ((Num (pos 4)) ∷ []))); draw = None }
    ∷ record { actor = Copy; session = 6; asked = Call (requests.ChunkEnd (codes "t") (Closed ((Num (pos 4)) ∷ [])) ((Num (pos 4)) ∷ []) 5); side = None; answer = answers.End ((Num (pos 4)) ∷ []); missed = None; draw = None }
    ∷ record { actor = Copy; session = 6; asked = Call (requests.BeginSpan (codes "t") (record { low = (Closed ((Num (pos 4)) ∷ [])); high = (Closed ((Num (pos 4)) ∷ [])) }) 5); side = None; answer = answers.Keys (((Num (pos 4)) ∷ []) ∷ []) ((Num (pos 4)) ∷ []); missed = None; draw = None }
    ∷ record { actor = Copy; session = 6; asked = Call (requests.CopyRow (codes "t") (codes "_t_gho") map_119 ((Num (pos 4)) ∷ [])); side = None; answer = answers.Ok 1; missed = None; draw = None }
    ∷ record { actor = Copy; session = 6; asked = Call requests.Commit; side = (Some sides_at.Before); answer = answers.Lost; missed = None; draw = None }
    ∷ record { actor = Copy; session = 7; asked = Call (requests.ChunkEnd (codes "t") (Closed ((Num (pos 4)) ∷ [])) ((Num (pos 4)) ∷ []) 5); side = None; answer = answers.End ((Num (pos 4)) ∷ []); missed = None; draw = None }
    ∷ record { actor = Copy; session = 7; asked = Call (requests.BeginSpan (codes "t") (record { low = (Closed ((Num (pos 4)) ∷ [])); high = (Closed ((Num (pos 4)) ∷ [])) }) 5); side = None; answer = answers.Keys (((Num (pos 4)) ∷ []) ∷ []) ((Num (pos 4)) ∷ []); missed = None; draw = None }
    ∷ record { actor = Copy; session = 7; asked = Call (requests.CopyRow (codes "t") (codes "_t_gho") map_119 ((Num (pos 4)) ∷ [])); side = None; answer = answers.Ok 1; missed = None; draw = None }
    ∷ record { actor = Copy; session = 7; asked = Call requests.Commit; side = None; answer = answers.Ok 0; missed = None; draw = None }
    ∷ record { actor = Lock; session = 8; asked = Call (requests.Create (record { name = codes "_t_del"; columns = (record { name = codes "id"; kind = Int 4 false; nullable = false; default = None; auto = false } ∷ []); uniques = (record { name = None; places = (0 ∷ []) } ∷ []); indexes = []; comment = codes "ghost-cut-over-sentry"; start = None })); side = None; answer = answers.Ok 0; missed = None; draw = None }
    ∷ record { actor = Lock; session = 8; asked = Call (requests.LockTables (codes "t" ∷ codes "_t_del" ∷ [])); side = None; answer = answers.Ok 0; missed = None; draw = None }
    ∷ record { actor = Insp; session = 4; asked = Call (requests.Do (statements.Insert (codes "_t_ghc") None ((Num (pos 1)) ∷ (Text (codes "cut-over")) ∷ (Text (codes "1")) ∷ []) None)); side = None; answer = answers.Ok 1; missed = None; draw = None }
    ∷ record { actor = Apply; session = 9; asked = Call (requests.ReadLog 1 3 (codes "t" ∷ codes "_t_ghc" ∷ [])); side = None; answer = answers.Events (record { table = codes "_t_ghc"; change = changes.Write ((Num (pos 1)) ∷ (Text (codes "cut-over")) ∷ (Text (codes "1")) ∷ []) } ∷ []) 3; missed = None; draw = None }
    ∷ record { actor = Ren; session = 10; asked = Call (requests.Rename (record { old = codes "t"; new = codes "_t_del" } ∷ record { old = codes "_t_gho"; new = codes "t" } ∷ [])); side = None; answer = answers.Waits 8; missed = None; draw = None }
    ∷ record { actor = Insp; session = 4; asked = Call requests.ShowWaiting; side = None; answer = answers.Waiting (record { session = 10; names = (codes "t" ∷ codes "_t_del" ∷ codes "_t_gho" ∷ []); by = 8 } ∷ []); missed = None; draw = None }
    ∷ record { actor = Lock; session = 8; asked = Call (requests.Drop (codes "_t_del")); side = None; answer = answers.Ok 0; missed = None; draw = None }
    ∷ record { actor = Ren; session = 10; asked = Poll; side = None; answer = answers.Waits 8; missed = None; draw = None }
    ∷ record { actor = Lock; session = 8; asked = Call requests.Unlock; side = None; answer = answers.Ok 0; missed = None; draw = None }
    ∷ record { actor = Ren; session = 10; asked = Cut; side = None; answer = answers.Lost; missed = None; draw = None }
    ∷ record { actor = Insp; session = 4; asked = Call requests.ShowTables; side = None; answer = answers.Tables (record { name = codes "_t_ghc"; comment = [] } ∷ record { name = codes "_t_gho"; comment = [] } ∷ record { name = codes "t"; comment = [] } ∷ []); missed = None; draw = None }
    ∷ record { actor = Lock; session = 8; asked = Call (requests.Create (record { name = codes "_t_del"; columns = (record { name = codes "id"; kind = Int 4 false; nullable = false; default = None; auto = false } ∷ []); uniques = (record { name = None; places = (0 ∷ []) } ∷ []); indexes = []; comment = codes "ghost-cut-over-sentry"; start = None })); side = None; answer = answers.Ok 0; missed = None; draw = None }
    ∷ record { actor = Lock; session = 8; asked = Call (requests.LockTables (codes "t" ∷ codes "_t_del" ∷ [])); side = None; answer = answers.Ok 0; missed = None; draw = None }
    ∷ record { actor = Insp; session = 4; asked = Call (requests.Do (statements.Insert (codes "_t_ghc") None ((Num (pos 2)) ∷ (Text (codes "cut-over")) ∷ (Text (codes "2")) ∷ []) None)); side = None; answer = answers.Ok 1; missed = None; draw = None }
    ∷ record { actor = Apply; session = 9; asked = Call (requests.ReadLog 3 3 (codes "t" ∷ codes "_t_ghc" ∷ [])); side = None; answer = answers.Events (record { table = codes "_t_ghc"; change = changes.Write ((Num (pos 2)) ∷ (Text (codes "cut-over")) ∷ (Text (codes "2")) ∷ []) } ∷ []) 4; missed = None; draw = None }
    ∷ record { actor = Ren; session = 11; asked = Call (requests.Rename (record { old = codes "t"; new = codes "_t_del" } ∷ record { old = codes "_t_gho"; new = codes "t" } ∷ [])); side = None; answer = answers.Waits 8; missed = None; draw = None }
    ∷ record { actor = Insp; session = 4; asked = Call requests.ShowWaiting; side = (Some sides_at.Before); answer = answers.Lost; missed = None; draw = None }
    ∷ record { actor = Lock; session = 8; asked = Call requests.Unlock; side = None; answer = answers.Ok 0; missed = None; draw = None }
    ∷ record { actor = Ren; session = 11; asked = Poll; side = None; answer = answers.Refused 1050 None; missed = None; draw = None }
    ∷ record { actor = Insp; session = 12; asked = Call requests.ShowTables; side = None; answer = answers.Tables (record { name = codes "_t_del"; comment = codes "ghost-cut-over-sentry" } ∷ record { name = codes "_t_ghc"; comment = [] } ∷ record { name = codes "_t_gho"; comment = [] } ∷ record { name = codes "t"; comment = [] } ∷ []); missed = None; draw = None }
    ∷ record { actor = Insp; session = 12; asked = Call (requests.Drop (codes "_t_del")); side = None; answer = answers.Ok 0; missed = None; draw = None }
    ∷ record { actor = Lock; session = 8; asked = Call (requests.Create (record { name = codes "_t_del"; columns = (record { name = codes "id"; kind = Int 4 false; nullable = false; default = None; auto = false } ∷ []); uniques = (record { name = None; places = (0 ∷ []) } ∷ []); indexes = []; comment = codes "ghost-cut-over-sentry"; start = None })); side = None; answer = answers.Ok 0; missed = None; draw = None }
    ∷ record { actor = Lock; session = 8; asked = Call (requests.LockTables (codes "t" ∷ codes "_t_del" ∷ [])); side = None; answer = answers.Ok 0; missed = None; draw = None }
    ∷ record { actor = Insp; session = 12; asked = Call (requests.Do (statements.Insert (codes "_t_ghc") None ((Num (pos 3)) ∷ (Text (codes "cut-over")) ∷ (Text (codes "3")) ∷ []) None)); side = None; answer = answers.Ok 1; missed = None; draw = None }
    ∷ record { actor = Apply; session = 9; asked = Call (requests.ReadLog 4 3 (codes "t" ∷ codes "_t_ghc" ∷ [])); side = None; answer = answers.Events (record { table = codes "_t_ghc"; change = changes.Write ((Num (pos 3)) ∷ (Text (codes "cut-over")) ∷ (Text (codes "3")) ∷ []) } ∷ []) 5; missed = None; draw = None }
    ∷ record { actor = Ren; session = 11; asked = Call (requests.Rename (record { old = codes "t"; new = codes "_t_del" } ∷ record { old = codes "_t_gho"; new = codes "t" } ∷ [])); side = None; answer = answers.Waits 8; missed = None; draw = None }
    ∷ record { actor = Insp; session = 12; asked = Call requests.ShowWaiting; side = None; answer = answers.Waiting (record { session = 11; names = (codes "t" ∷ codes "_t_del" ∷ codes "_t_gho" ∷ []); by = 8 } ∷ []); missed = None; draw = None }
    ∷ record { actor = Lock; session = 8; asked = Call (requests.Drop (codes "_t_del")); side = None; answer = answers.Ok 0; missed = None; draw = None }
    ∷ record { actor = Ren; session = 11; asked = Poll; side = None; answer = answers.Waits 8; missed = None; draw = None }
    ∷ record { actor = Lock; session = 8; asked = Call requests.Unlock; side = None; answer = answers.Ok 0; missed = None; draw = None }
    ∷ record { actor = Ren; session = 11; asked = Poll; side = None; answer = answers.Ok 0; missed = None; draw = None }
    ∷ record { actor = Insp; session = 12; asked = Call requests.ShowTables; side = None; answer = answers.Tables (record { name = codes "_t_del"; comment = [] } ∷ record { name = codes "_t_ghc"; comment = [] } ∷ record { name = codes "t"; comment = [] } ∷ []); missed = None; draw = None }
    ∷ record { actor = Insp; session = 12; asked = Call (requests.Drop (codes "_t_ghc")); side = None; answer = answers.Ok 0; missed = None; draw = None }
    ∷ []

abbrev reported_119 : WorkedFacts
reported_119 =
    record {
      verdict = verdicts.Done;
      ended = (Some (1, 1) ∷ Some (1, 2) ∷ Some (1, 3) ∷ None ∷ []);
      left = (record { schema = record { name = codes "t"; columns = (record { name = codes "id"; kind = Int 8 false; nullable = false; default = None; auto = false } ∷ record { name = codes "v"; kind = Int 1 false; nullable = true; default = (Some Null); auto = false } ∷ []); uniques = (record { name = None; places = (0 ∷ []) } ∷ []); indexes = (record { name = (Some (codes "v")); places = (1 ∷ []) } ∷ []); comment = []; start = None }; rows = (((Num (pos 4)) ∷ Null ∷ []) ∷ []) } ∷ []);
      alone = (((replies.Ok 0) ∷ []) ∷ ((replies.Ok 1) ∷ []) ∷ ((replies.Ok 0) ∷ (replies.Ok 0) ∷ []) ∷ [] ∷ []);
      over = replicate 52 false ++ replicate 1 true;
      bound = 792189;
      replies = (((1, 1, (Some (replies.Ok 0))) ∷ (2, 1, (Some (replies.Ok 1))) ∷ (3, 1, (Some (replies.Ok 0))) ∷ (3, 2, (Some (replies.Ok 0))) ∷ [])) ∷ [];
    }

worked_119 : IsWorked plan_119 journal_119 reported_119
unfolding computing
worked_119 = record { asks = refl; sessions = refl; answers = refl; sides = refl; struck = refl; verdict = refl; ended = refl; order = refl; left = refl; serial = refl; alone = refl; over = refl; online = refl; bounded = refl; replies = refl }

-- Plan 122
abbrev map_122 : List MapColumn
map_122 = (record { kind = Int 4 false; nullable = false; origin = from.Old 0 } ∷ record { kind = Int 4 false; nullable = false; origin = from.Old 1 } ∷ record { kind = Int 4 false; nullable = false; origin = from.Added (Num (pos 7)) } ∷ [])

abbrev plan_122 : PlanData
plan_122 = record { table = codes "t"; alter = (clauses.Add (record { name = codes "b"; kind = Int 4 false; nullable = (Some false); default = (Some (Num (pos 7))); auto = false }) Unsaid ∷ []); tables = (record { schema = record { name = codes "t"; columns = (record { name = codes "id"; kind = Int 4 false; nullable = false; default = None; auto = false } ∷ record { name = codes "m0"; kind = Int 4 false; nullable = false; default = None; auto = false } ∷ []); uniques = (record { name = (Some (codes "k")); places = (0 ∷ []) } ∷ record { name = (Some (codes "u0")); places = (1 ∷ []) } ∷ []); indexes = []; comment = []; start = None }; rows = [] } ∷ record { schema = record { name = codes "_t_gho"; columns = (record { name = codes "id"; kind = Int 4 false; nullable = false; default = None; auto = false } ∷ []); uniques = (record { name = None; places = (0 ∷ []) } ∷ []); indexes = []; comment = []; start = None }; rows = [] } ∷ []); clients = ((record { line = 1; word = (words.Do (statements.Update (codes "t") (record { column = codes "m0"; value = (Num (pos 3)) } ∷ []) (conditions.Equal (record { column = codes "id"; value = (Blob (255 ∷ [])) } ∷ [])))) } ∷ record { line = 2; word = words.Begin } ∷ record { line = 3; word = (words.Do (statements.Insert (codes "t") None ((Num (pos 4)) ∷ (Num (pos 5)) ∷ []) None)) } ∷ record { line = 4; word = (words.Do (statements.Select (codes "t") shown.All (conditions.Equal (record { column = codes "id"; value = (Num (pos 3)) } ∷ [])))) } ∷ record { line = 5; word = (words.Do (statements.Delete (codes "t") (conditions.Equal (record { column = codes "id"; value = (Num (pos 6)) } ∷ [])))) } ∷ record { line = 6; word = words.Commit } ∷ []) ∷ (record { line = 1; word = (words.Do (statements.Delete (codes "t") (conditions.Equal (record { column = codes "id"; value = (Num (pos 7)) } ∷ [])))) } ∷ record { line = 2; word = words.Begin } ∷ record { line = 3; word = words.Rollback } ∷ []) ∷ (record { line = 1; word = words.Begin } ∷ record { line = 2; word = (words.Do (statements.Update (codes "t") (record { column = codes "id"; value = (Num (pos 7)) } ∷ record { column = codes "m0"; value = (Num (pos 3)) } ∷ []) (conditions.Range (record { column = codes "id"; sign = signs.AtLeast; value = (Num (pos 2)) } ∷ [])))) } ∷ record { line = 3; word = words.Commit } ∷ record { line = 4; word = words.Begin } ∷ record { line = 5; word = (words.Do (statements.Insert (codes "t") None ((Num (pos 3)) ∷ (Num (pos 5)) ∷ []) None)) } ∷ record { line = 6; word = (words.Do (statements.Select (codes "t") (shown.Columns (codes "id" ∷ [])) (conditions.Equal (record { column = codes "id"; value = (Num (pos 7)) } ∷ [])))) } ∷ record { line = 7; word = words.Commit } ∷ []) ∷ []); operator = []; faults = (losses.Turn 38 (Client 3) ∷ losses.Nth Lock 2 sides_at.After ∷ []); turns = (record { actor = Insp; times = 5 } ∷ record { actor = Apply; times = 1 } ∷ record { actor = Copy; times = 1 } ∷ record { actor = Lock; times = 1 } ∷ record { actor = Op; times = 1 } ∷ record { actor = Insp; times = 1 } ∷ record { actor = Apply; times = 1 } ∷ record { actor = (Client 2); times = 5 } ∷ record { actor = Op; times = 2 } ∷ record { actor = Lock; times = 1 } ∷ record { actor = Copy; times = 1 } ∷ record { actor = (Client 1); times = 5 } ∷ record { actor = Insp; times = 3 } ∷ record { actor = Insp; times = 1 } ∷ record { actor = (Client 1); times = 2 } ∷ record { actor = Apply; times = 5 } ∷ record { actor = (Client 1); times = 1 } ∷ record { actor = Insp; times = 1 } ∷ record { actor = (Client 1); times = 3 } ∷ record { actor = Lock; times = 1 } ∷ record { actor = Ren; times = 1 } ∷ record { actor = (Client 3); times = 1 } ∷ record { actor = Apply; times = 3 } ∷ record { actor = (Client 2); times = 1 } ∷ record { actor = (Client 3); times = 1 } ∷ record { actor = Op; times = 1 } ∷ record { actor = Apply; times = 1 } ∷ record { actor = (Client 3); times = 2 } ∷ record { actor = Insp; times = 3 } ∷ record { actor = Lock; times = 1 } ∷ record { actor = (Client 1); times = 2 } ∷ record { actor = Apply; times = 1 } ∷ record { actor = Insp; times = 1 } ∷ record { actor = Ren; times = 5 } ∷ record { actor = Apply; times = 1 } ∷ record { actor = Ren; times = 1 } ∷ record { actor = (Client 2); times = 1 } ∷ []); options = record { chunk_size = 1000; dml_batch_size = 3; default_retries = 60; max_backlog = 100; drain_limit = 2000; client_wait = 3; tool_wait = 5; max_load = 0; turn_limit = 200000; notes = 0; note_every = 100; replica_step = 0; replica_pause = 1; max_lag = 10; resume = false; approve_renamed_columns = true; initially_drop_ghost_table = true; initially_drop_old_table = false; ok_to_drop_table = false; postpone = false; show_history = true; show_turns = true; show_tables = true; show_replies = true } }

abbrev journal_122 : List Entry
journal_122 =
    record { actor = Insp; session = 1; asked = Call requests.ShowTables; side = None; answer = answers.Tables (record { name = codes "_t_gho"; comment = [] } ∷ record { name = codes "t"; comment = [] } ∷ []); missed = None; draw = None }
    ∷ record { actor = Insp; session = 1; asked = Call (requests.Drop (codes "_t_gho")); side = None; answer = answers.Ok 0; missed = None; draw = None }
    ∷ record { actor = Insp; session = 1; asked = Call (requests.Create (record { name = codes "_t_ghc"; columns = (record { name = codes "id"; kind = Int 8 false; nullable = false; default = None; auto = false } ∷ record { name = codes "hint"; kind = VarChar 64; nullable = false; default = None; auto = false } ∷ record { name = codes "value"; kind = VarChar 255; nullable = false; default = None; auto = false } ∷ []); uniques = (record { name = None; places = (0 ∷ []) } ∷ []); indexes = []; comment = []; start = None })); side = None; answer = answers.Ok 0; missed = None; draw = None }
    ∷ record { actor = Insp; session = 1; asked = Call (requests.Create (record { name = codes "_t_gho"; columns = (record { name = codes "id"; kind = Int 4 false; nullable = false; default = None; auto = false } ∷ record { name = codes "m0"; kind = Int 4 false; nullable = false; default = None; auto = false } ∷ record { name = codes "b"; kind = Int 4 false; nullable = false; default = (Some (Num (pos 7))); auto = false } ∷ []); uniques = (record { name = (Some (codes "k")); places = (0 ∷ []) } ∷ record { name = (Some (codes "u0")); places = (1 ∷ []) } ∷ []); indexes = []; comment = []; start = None })); side = None; answer = answers.Ok 0; missed = None; draw = None }
    ∷ record { actor = Insp; session = 1; asked = Call requests.LogEnd; side = None; answer = answers.At 0; missed = None; draw = None }
    ∷ record { actor = Insp; session = 1; asked = Call (requests.Ends (codes "t")); side = None; answer = answers.Ends None; missed = None; draw = None }
    ∷ record { actor = (Client 2); session = 2; asked = Call (requests.Do (statements.Delete (codes "t") (conditions.Equal (record { column = codes "id"; value = (Num (pos 7)) } ∷ [])))); side = None; answer = answers.Ok 0; missed = None; draw = None }
    ∷ record { actor = (Client 2); session = 2; asked = Call requests.Begin; side = None; answer = answers.Ok 0; missed = None; draw = None }
    ∷ record { actor = (Client 2); session = 2; asked = Call requests.Rollback; side = None; answer = answers.Ok 0; missed = None; draw = None }
    ∷ record { actor = Lock; session = 3; asked = Call (requests.Create (record { name = codes "_t_del"; columns = (record { name = codes "id"; kind = Int 4 false; nullable = false; default = None; auto = false } ∷ []); uniques = (record { name = None; places = (0 ∷ []) } ∷ []); indexes = []; comment = codes "ghost-cut-over-sentry"; start = None })); side = None; answer = answers.Ok 0; missed = None; draw = None }
    ∷ record { actor = (Client 1); session = 4; asked = Call (requests.Do (statements.Update (codes "t") (record { column = codes "m0"; value = (Num (pos 3)) } ∷ []) (conditions.Equal (record { column = codes "id"; value = (Blob (255 ∷ [])) } ∷ [])))); side = None; answer = answers.Refused 1366 (Some 0); missed = None; draw = None }
    ∷ record { actor = (Client 1); session = 4; asked = Call requests.Begin; side = None; answer = answers.Ok 0; missed = None; draw = None }
    ∷ record { actor = (Client 1); session = 4; asked = Call (requests.Do (statements.Insert (codes "t") None ((Num (pos 4)) ∷ (Num (pos 5)) ∷ []) None)); side = None; answer = answers.Ok 1; missed = None; draw = None }
    ∷ record { actor = (Client 1); session = 4; asked = Call (requests.Do (statements.Select (codes "t") shown.All (conditions.Equal (record { column = codes "id"; value = (Num (pos 3)) } ∷ [])))); side = None; answer = answers.Rows []; missed = None; draw = None }
    ∷ record { actor = (Client 1); session = 4; asked = Call (requests.Do (statements.Delete (codes "t") (conditions.Equal (record { column = codes "id"; value = (Num (pos 6)) } ∷ [])))); side = None; answer = answers.Ok 0; missed = None; draw = None }
    ∷ record { actor = (Client 1); session = 4; asked = Call requests.Commit; side = None; answer = answers.Ok 0; missed = None; draw = None }
    ∷ record { actor = Apply; session = 5; asked = Call (requests.ReadLog 0 3 (codes "t" ∷ codes "_t_ghc" ∷ [])); side = None; answer = answers.Events (record { table = codes "t"; change = changes.Write ((Num (pos 4)) ∷ (Num (pos 5)) ∷ []) } ∷ []) 1; missed = None; draw = None }
    ∷ record { actor = Apply; session = 5; asked = Call requests.Begin; side = None; answer = answers.Ok 0; missed = None; draw = None }
    ∷ record { actor = Apply; session = 5; asked = Call (requests.Do (statements.Replace (codes "_t_gho") None ((Num (pos 4)) ∷ (Num (pos 5)) ∷ (Num (pos 7)) ∷ []) None)); side = None; answer = answers.Ok 1; missed = None; draw = None }
    ∷ record { actor = Apply; session = 5; asked = Call requests.Commit; side = None; answer = answers.Ok 0; missed = None; draw = None }
    ∷ record { actor = Lock; session = 3; asked = Call (requests.LockTables (codes "t" ∷ codes "_t_del" ∷ [])); side = (Some sides_at.After); answer = answers.Lost; missed = (Some (answers.Ok 0)); draw = None }
    ∷ record { actor = (Client 3); session = 6; asked = Call requests.Begin; side = None; answer = answers.Ok 0; missed = None; draw = None }
    ∷ record { actor = (Client 3); session = 6; asked = Call (requests.Do (statements.Update (codes "t") (record { column = codes "id"; value = (Num (pos 7)) } ∷ record { column = codes "m0"; value = (Num (pos 3)) } ∷ []) (conditions.Range (record { column = codes "id"; sign = signs.AtLeast; value = (Num (pos 2)) } ∷ [])))); side = None; answer = answers.Ok 1; missed = None; draw = None }
    ∷ record { actor = (Client 3); session = 6; asked = Call requests.Commit; side = None; answer = answers.Ok 0; missed = None; draw = None }
    ∷ record { actor = (Client 3); session = 6; asked = Call requests.Begin; side = None; answer = answers.Ok 0; missed = None; draw = None }
    ∷ record { actor = Insp; session = 1; asked = Call requests.ShowTables; side = None; answer = answers.Tables (record { name = codes "_t_del"; comment = codes "ghost-cut-over-sentry" } ∷ record { name = codes "_t_ghc"; comment = [] } ∷ record { name = codes "_t_gho"; comment = [] } ∷ record { name = codes "t"; comment = [] } ∷ []); missed = None; draw = None }
    ∷ record { actor = Insp; session = 1; asked = Call (requests.Drop (codes "_t_del")); side = None; answer = answers.Ok 0; missed = None; draw = None }
    ∷ record { actor = (Client 3); session = 6; asked = Call (requests.Do (statements.Insert (codes "t") None ((Num (pos 3)) ∷ (Num (pos 5)) ∷ []) None)); side = None; answer = answers.Ok 1; missed = None; draw = None }
    ∷ record { actor = (Client 3); session = 6; asked = Call (requests.Do (statements.Select (codes "t") (shown.Columns (codes "id" ∷ [])) (conditions.Equal (record { column = codes "id"; value = (Num (pos 7)) } ∷ [])))); side = None; answer = answers.Rows (((Num (pos 7)) ∷ []) ∷ []); missed = None; draw = None }
    ∷ record { actor = (Client 3); session = 6; asked = Call requests.Commit; side = None; answer = answers.Ok 0; missed = None; draw = None }
    ∷ record { actor = Apply; session = 5; asked = Call (requests.ReadLog 1 3 (codes "t" ∷ codes "_t_ghc" ∷ [])); side = None; answer = answers.Events (record { table = codes "t"; change = changes.Update ((Num (pos 4)) ∷ (Num (pos 5)) ∷ []) ((Num (pos 7)) ∷ (Num (pos 3)) ∷ []) } ∷ record { table = codes "t"; change = changes.Write ((Num (pos 3)) ∷ (Num (pos 5)) ∷ []) } ∷ []) 4; missed = None; draw = None }
    ∷ record { actor = Lock; session = 7; asked = Call (requests.Create (record { name = codes "_t_del"; columns = (record { name = codes "id"; kind = Int 4 false; nullable = false; default = None; auto = false } ∷ []); uniques = (record { name = None; places = (0 ∷ []) } ∷ []); indexes = []; comment = codes "ghost-cut-over-sentry"; start = None })); side = None; answer = answers.Ok 0; missed = None; draw = None }
    ∷ record { actor = Apply; session = 5; asked = Call requests.Begin; side = None; answer = answers.Ok 0; missed = None; draw = None }
    ∷ record { actor = Lock; session = 7; asked = Call (requests.LockTables (codes "t" ∷ codes "_t_del" ∷ [])); side = None; answer = answers.Ok 0; missed = None; draw = None }
    ∷ record { actor = Insp; session = 1; asked = Call (requests.Do (statements.Insert (codes "_t_ghc") None ((Num (pos 2)) ∷ (Text (codes "cut-over")) ∷ (Text (codes "2")) ∷ []) None)); side = None; answer = answers.Ok 1; missed = None; draw = None }
    ∷ record { actor = Apply; session = 5; asked = Call (requests.Do (statements.Delete (codes "_t_gho") (conditions.Equal (record { column = codes "id"; value = (Num (pos 4)) } ∷ [])))); side = None; answer = answers.Ok 1; missed = None; draw = None }
    ∷ record { actor = Apply; session = 5; asked = Call (requests.Do (statements.Replace (codes "_t_gho") None ((Num (pos 7)) ∷ (Num (pos 3)) ∷ (Num (pos 7)) ∷ []) None)); side = None; answer = answers.Ok 1; missed = None; draw = None }
    ∷ record { actor = (Client 3); session = 6; asked = Cut; side = None; answer = answers.Lost; missed = None; draw = None }
    ∷ record { actor = Apply; session = 5; asked = Call (requests.Do (statements.Replace (codes "_t_gho") None ((Num (pos 3)) ∷ (Num (pos 5)) ∷ (Num (pos 7)) ∷ []) None)); side = None; answer = answers.Ok 1; missed = None; draw = None }
    ∷ record { actor = Apply; session = 5; asked = Call requests.Commit; side = None; answer = answers.Ok 0; missed = None; draw = None }
    ∷ record { actor = Apply; session = 5; asked = Call (requests.ReadLog 4 3 (codes "t" ∷ codes "_t_ghc" ∷ [])); side = None; answer = answers.Events (record { table = codes "_t_ghc"; change = changes.Write ((Num (pos 2)) ∷ (Text (codes "cut-over")) ∷ (Text (codes "2")) ∷ []) } ∷ []) 8; missed = None; draw = None }
    ∷ record { actor = Ren; session = 8; asked = Call (requests.Rename (record { old = codes "t"; new = codes "_t_del" } ∷ record { old = codes "_t_gho"; new = codes "t" } ∷ [])); side = None; answer = answers.Waits 7; missed = None; draw = None }
    ∷ record { actor = Insp; session = 1; asked = Call requests.ShowWaiting; side = None; answer = answers.Waiting (record { session = 8; names = (codes "t" ∷ codes "_t_del" ∷ codes "_t_gho" ∷ []); by = 7 } ∷ []); missed = None; draw = None }
    ∷ record { actor = Lock; session = 7; asked = Call (requests.Drop (codes "_t_del")); side = None; answer = answers.Ok 0; missed = None; draw = None }
    ∷ record { actor = Ren; session = 8; asked = Poll; side = None; answer = answers.Waits 7; missed = None; draw = None }
    ∷ record { actor = Lock; session = 7; asked = Call requests.Unlock; side = None; answer = answers.Ok 0; missed = None; draw = None }
    ∷ record { actor = Ren; session = 8; asked = Poll; side = None; answer = answers.Ok 0; missed = None; draw = None }
    ∷ record { actor = Insp; session = 1; asked = Call requests.ShowTables; side = None; answer = answers.Tables (record { name = codes "_t_del"; comment = [] } ∷ record { name = codes "_t_ghc"; comment = [] } ∷ record { name = codes "t"; comment = [] } ∷ []); missed = None; draw = None }
    ∷ record { actor = Insp; session = 1; asked = Call (requests.Drop (codes "_t_ghc")); side = None; answer = answers.Ok 0; missed = None; draw = None }
    ∷ []

abbrev reported_122 : WorkedFacts
reported_122 =
    record {
      verdict = verdicts.Done;
      ended = (Some (2, 1) ∷ Some (2, 2) ∷ Some (1, 1) ∷ Some (1, 2) ∷ Some (3, 1) ∷ Some (3, 2) ∷ None ∷ []);
      left = (record { schema = record { name = codes "t"; columns = (record { name = codes "id"; kind = Int 4 false; nullable = false; default = None; auto = false } ∷ record { name = codes "m0"; kind = Int 4 false; nullable = false; default = None; auto = false } ∷ record { name = codes "b"; kind = Int 4 false; nullable = false; default = (Some (Num (pos 7))); auto = false } ∷ []); uniques = (record { name = (Some (codes "k")); places = (0 ∷ []) } ∷ record { name = (Some (codes "u0")); places = (1 ∷ []) } ∷ []); indexes = []; comment = []; start = None }; rows = (((Num (pos 3)) ∷ (Num (pos 5)) ∷ (Num (pos 7)) ∷ []) ∷ ((Num (pos 7)) ∷ (Num (pos 3)) ∷ (Num (pos 7)) ∷ []) ∷ []) } ∷ []);
      alone = (((replies.Ok 0) ∷ []) ∷ ((replies.Ok 0) ∷ (replies.Ok 0) ∷ []) ∷ ((replies.Error 1366) ∷ []) ∷ ((replies.Ok 0) ∷ (replies.Ok 1) ∷ (replies.Rows []) ∷ (replies.Ok 0) ∷ (replies.Ok 0) ∷ []) ∷ ((replies.Ok 0) ∷ (replies.Ok 1) ∷ (replies.Ok 0) ∷ []) ∷ ((replies.Ok 0) ∷ (replies.Ok 1) ∷ (replies.Rows (((Num (pos 7)) ∷ []) ∷ [])) ∷ (replies.Ok 0) ∷ []) ∷ [] ∷ []);
      over = replicate 48 false ++ replicate 1 true;
      bound = 4076745;
      replies = (((1, 1, (Some (replies.Error 1366))) ∷ (2, 1, (Some (replies.Ok 0))) ∷ (2, 2, (Some (replies.Ok 1))) ∷ (2, 3, (Some (replies.Rows []))) ∷ (2, 4, (Some (replies.Ok 0))) ∷ (2, 5, (Some (replies.Ok 0))) ∷ [])) ∷ (((1, 1, (Some (replies.Ok 0))) ∷ (2, 1, (Some (replies.Ok 0))) ∷ (2, 2, (Some (replies.Ok 0))) ∷ [])) ∷ (((1, 1, (Some (replies.Ok 0))) ∷ (1, 2, (Some (replies.Ok 1))) ∷ (1, 3, (Some (replies.Ok 0))) ∷ (2, 1, (Some (replies.Ok 0))) ∷ (2, 2, (Some (replies.Ok 1))) ∷ (2, 3, (Some (replies.Rows (((Num (pos 7)) ∷ []) ∷ [])))) ∷ (2, 4, (Some (replies.Ok 0))) ∷ [])) ∷ [];
    }

worked_122 : IsWorked plan_122 journal_122 reported_122
unfolding computing
worked_122 = record { asks = refl; sessions = refl; answers = refl; sides = refl; struck = refl; verdict = refl; ended = refl; order = refl; left = refl; serial = refl; alone = refl; over = refl; online = refl; bounded = refl; replies = refl }

-- Plan 129
abbrev map_129 : List MapColumn
map_129 = (record { kind = Int 8 false; nullable = false; origin = from.Old 0 } ∷ [])

abbrev plan_129 : PlanData
plan_129 = record { table = codes "t"; alter = (clauses.Change (codes "id") (record { name = codes "id"; kind = Int 8 false; nullable = None; default = None; auto = false }) Unsaid ∷ []); tables = (record { schema = record { name = codes "t"; columns = (record { name = codes "id"; kind = Int 1 false; nullable = false; default = None; auto = false } ∷ []); uniques = (record { name = None; places = (0 ∷ []) } ∷ []); indexes = []; comment = []; start = None }; rows = [] } ∷ []); clients = ((record { line = 1; word = (words.Do (statements.Delete (codes "t") conditions.All)) } ∷ record { line = 2; word = (words.Do (statements.Update (codes "t") (record { column = codes "id"; value = (Num (pos 2)) } ∷ []) (conditions.Equal (record { column = codes "id"; value = (Num (pos 6)) } ∷ [])))) } ∷ record { line = 3; word = words.Begin } ∷ record { line = 4; word = (words.Do (statements.Select (codes "t") (shown.Columns (codes "id" ∷ [])) (conditions.Equal (record { column = codes "id"; value = (Num (pos 4)) } ∷ [])))) } ∷ record { line = 5; word = (words.Do (statements.Update (codes "t") (record { column = codes "id"; value = (Num (pos 2)) } ∷ []) (conditions.Range (record { column = codes "id"; sign = signs.AtLeast; value = (Num (pos 5)) } ∷ record { column = codes "id"; sign = signs.AtMost; value = (Num (pos 4)) } ∷ [])))) } ∷ record { line = 6; word = (words.Do (statements.Insert (codes "t") (Some (codes "id" ∷ [])) ((Num (pos 5)) ∷ []) None)) } ∷ record { line = 7; word = words.Commit } ∷ []) ∷ []); operator = []; faults = []; turns = (record { actor = Lock; times = 1 } ∷ record { actor = Apply; times = 1 } ∷ record { actor = Op; times = 2 } ∷ record { actor = Op; times = 1 } ∷ record { actor = Insp; times = 5 } ∷ record { actor = Lock; times = 1 } ∷ record { actor = Ren; times = 2 } ∷ record { actor = (Client 1); times = 3 } ∷ record { actor = (Client 1); times = 2 } ∷ record { actor = Apply; times = 3 } ∷ record { actor = Op; times = 1 } ∷ record { actor = (Client 1); times = 1 } ∷ record { actor = Op; times = 1 } ∷ record { actor = Op; times = 3 } ∷ record { actor = Lock; times = 2 } ∷ record { actor = Op; times = 5 } ∷ record { actor = Apply; times = 5 } ∷ record { actor = (Client 1); times = 5 } ∷ record { actor = Ren; times = 1 } ∷ record { actor = Apply; times = 3 } ∷ record { actor = Apply; times = 1 } ∷ record { actor = Op; times = 2 } ∷ record { actor = Copy; times = 1 } ∷ record { actor = Apply; times = 3 } ∷ record { actor = Op; times = 3 } ∷ record { actor = Ren; times = 3 } ∷ record { actor = Copy; times = 5 } ∷ record { actor = Lock; times = 3 } ∷ record { actor = Insp; times = 1 } ∷ record { actor = (Client 1); times = 3 } ∷ record { actor = Lock; times = 3 } ∷ record { actor = Copy; times = 1 } ∷ record { actor = Apply; times = 1 } ∷ record { actor = Ren; times = 1 } ∷ record { actor = Lock; times = 1 } ∷ record { actor = Lock; times = 1 } ∷ record { actor = Lock; times = 2 } ∷ record { actor = (Client 1); times = 2 } ∷ record { actor = Ren; times = 2 } ∷ record { actor = Insp; times = 1 } ∷ record { actor = (Client 1); times = 1 } ∷ record { actor = Apply; times = 5 } ∷ record { actor = Ren; times = 1 } ∷ record { actor = (Client 1); times = 1 } ∷ record { actor = Ren; times = 1 } ∷ record { actor = Op; times = 1 } ∷ record { actor = Insp; times = 1 } ∷ record { actor = Ren; times = 1 } ∷ record { actor = Insp; times = 3 } ∷ record { actor = Lock; times = 1 } ∷ record { actor = (Client 1); times = 1 } ∷ record { actor = Insp; times = 1 } ∷ []); options = record { chunk_size = 2; dml_batch_size = 10; default_retries = 9; max_backlog = 1; drain_limit = 2000; client_wait = 2; tool_wait = 5; max_load = 64; turn_limit = 200000; notes = 0; note_every = 100; replica_step = 0; replica_pause = 1; max_lag = 10; resume = false; approve_renamed_columns = true; initially_drop_ghost_table = false; initially_drop_old_table = false; ok_to_drop_table = false; postpone = false; show_history = true; show_turns = true; show_tables = true; show_replies = true } }

abbrev journal_129 : List Entry
journal_129 =
    record { actor = Insp; session = 1; asked = Call requests.ShowTables; side = None; answer = answers.Tables (record { name = codes "t"; comment = [] } ∷ []); missed = None; draw = None }
    ∷ record { actor = Insp; session = 1; asked = Call (requests.Create (record { name = codes "_t_ghc"; columns = (record { name = codes "id"; kind = Int 8 false; nullable = false; default = None; auto = false } ∷ record { name = codes "hint"; kind = VarChar 64; nullable = false; default = None; auto = false } ∷ record { name = codes "value"; kind = VarChar 255; nullable = false; default = None; auto = false } ∷ []); uniques = (record { name = None; places = (0 ∷ []) } ∷ []); indexes = []; comment = []; start = None })); side = None; answer = answers.Ok 0; missed = None; draw = None }
    ∷ record { actor = Insp; session = 1; asked = Call (requests.Create (record { name = codes "_t_gho"; columns = (record { name = codes "id"; kind = Int 8 false; nullable = false; default = None; auto = false } ∷ []); uniques = (record { name = None; places = (0 ∷ []) } ∷ []); indexes = []; comment = []; start = None })); side = None; answer = answers.Ok 0; missed = None; draw = None }
    ∷ record { actor = Insp; session = 1; asked = Call requests.LogEnd; side = None; answer = answers.At 0; missed = None; draw = None }
    ∷ record { actor = Insp; session = 1; asked = Call (requests.Ends (codes "t")); side = None; answer = answers.Ends None; missed = None; draw = None }
    ∷ record { actor = Lock; session = 2; asked = Call (requests.Create (record { name = codes "_t_del"; columns = (record { name = codes "id"; kind = Int 4 false; nullable = false; default = None; auto = false } ∷ []); uniques = (record { name = None; places = (0 ∷ []) } ∷ []); indexes = []; comment = codes "ghost-cut-over-sentry"; start = None })); side = None; answer = answers.Ok 0; missed = None; draw = None }
    ∷ record { actor = (Client 1); session = 3; asked = Call (requests.Do (statements.Delete (codes "t") conditions.All)); side = None; answer = answers.Ok 0; missed = None; draw = None }
    ∷ record { actor = (Client 1); session = 3; asked = Call (requests.Do (statements.Update (codes "t") (record { column = codes "id"; value = (Num (pos 2)) } ∷ []) (conditions.Equal (record { column = codes "id"; value = (Num (pos 6)) } ∷ [])))); side = None; answer = answers.Ok 0; missed = None; draw = None }
    ∷ record { actor = (Client 1); session = 3; asked = Call requests.Begin; side = None; answer = answers.Ok 0; missed = None; draw = None }
    ∷ record { actor = (Client 1); session = 3; asked = Call (requests.Do (statements.Select (codes "t") (shown.Columns (codes "id" ∷ [])) (conditions.Equal (record { column = codes "id"; value = (Num (pos 4)) } ∷ [])))); side = None; answer = answers.Rows []; missed = None; draw = None }
    ∷ record { actor = (Client 1); session = 3; asked = Call (requests.Do (statements.Update (codes "t") (record { column = codes "id"; value = (Num (pos 2)) } ∷ []) (conditions.Range (record { column = codes "id"; sign = signs.AtLeast; value = (Num (pos 5)) } ∷ record { column = codes "id"; sign = signs.AtMost; value = (Num (pos 4)) } ∷ [])))); side = None; answer = answers.Ok 0; missed = None; draw = None }
    ∷ record { actor = (Client 1); session = 3; asked = Call (requests.Do (statements.Insert (codes "t") (Some (codes "id" ∷ [])) ((Num (pos 5)) ∷ []) None)); side = None; answer = answers.Ok 1; missed = None; draw = None }
    ∷ record { actor = Lock; session = 2; asked = Call (requests.LockTables (codes "t" ∷ codes "_t_del" ∷ [])); side = None; answer = answers.Waits 3; missed = None; draw = None }
    ∷ record { actor = Lock; session = 2; asked = Poll; side = None; answer = answers.Waits 3; missed = None; draw = None }
    ∷ record { actor = (Client 1); session = 3; asked = Call requests.Commit; side = None; answer = answers.Ok 0; missed = None; draw = None }
    ∷ record { actor = Apply; session = 4; asked = Call (requests.ReadLog 0 10 (codes "t" ∷ codes "_t_ghc" ∷ [])); side = None; answer = answers.Events (record { table = codes "t"; change = changes.Write ((Num (pos 5)) ∷ []) } ∷ []) 1; missed = None; draw = None }
    ∷ record { actor = Apply; session = 4; asked = Call requests.Begin; side = None; answer = answers.Ok 0; missed = None; draw = None }
    ∷ record { actor = Apply; session = 4; asked = Call (requests.Do (statements.Replace (codes "_t_gho") None ((Num (pos 5)) ∷ []) None)); side = None; answer = answers.Ok 1; missed = None; draw = None }
    ∷ record { actor = Apply; session = 4; asked = Call requests.Commit; side = None; answer = answers.Ok 0; missed = None; draw = None }
    ∷ record { actor = Lock; session = 2; asked = Poll; side = None; answer = answers.Ok 0; missed = None; draw = None }
    ∷ record { actor = Insp; session = 1; asked = Call (requests.Do (statements.Insert (codes "_t_ghc") None ((Num (pos 1)) ∷ (Text (codes "cut-over")) ∷ (Text (codes "1")) ∷ []) None)); side = None; answer = answers.Ok 1; missed = None; draw = None }
    ∷ record { actor = Apply; session = 4; asked = Call (requests.ReadLog 1 10 (codes "t" ∷ codes "_t_ghc" ∷ [])); side = None; answer = answers.Events (record { table = codes "_t_ghc"; change = changes.Write ((Num (pos 1)) ∷ (Text (codes "cut-over")) ∷ (Text (codes "1")) ∷ []) } ∷ []) 3; missed = None; draw = None }
    ∷ record { actor = Ren; session = 5; asked = Call (requests.Rename (record { old = codes "t"; new = codes "_t_del" } ∷ record { old = codes "_t_gho"; new = codes "t" } ∷ [])); side = None; answer = answers.Waits 2; missed = None; draw = None }
    ∷ record { actor = Ren; session = 5; asked = Poll; side = None; answer = answers.Waits 2; missed = None; draw = None }
    ∷ record { actor = Ren; session = 5; asked = Poll; side = None; answer = answers.Waits 2; missed = None; draw = None }
    ∷ record { actor = Insp; session = 1; asked = Call requests.ShowWaiting; side = None; answer = answers.Waiting (record { session = 5; names = (codes "t" ∷ codes "_t_del" ∷ codes "_t_gho" ∷ []); by = 2 } ∷ []); missed = None; draw = None }
    ∷ record { actor = Ren; session = 5; asked = Poll; side = None; answer = answers.Waits 2; missed = None; draw = None }
    ∷ record { actor = Ren; session = 5; asked = Poll; side = None; answer = answers.Waits 2; missed = None; draw = None }
    ∷ record { actor = Ren; session = 5; asked = Poll; side = None; answer = answers.TimedOut 5; missed = None; draw = None }
    ∷ record { actor = Lock; session = 2; asked = Call requests.Unlock; side = None; answer = answers.Ok 0; missed = None; draw = None }
    ∷ record { actor = Insp; session = 1; asked = Call requests.ShowTables; side = None; answer = answers.Tables (record { name = codes "_t_del"; comment = codes "ghost-cut-over-sentry" } ∷ record { name = codes "_t_ghc"; comment = [] } ∷ record { name = codes "_t_gho"; comment = [] } ∷ record { name = codes "t"; comment = [] } ∷ []); missed = None; draw = None }
    ∷ record { actor = Insp; session = 1; asked = Call (requests.Drop (codes "_t_del")); side = None; answer = answers.Ok 0; missed = None; draw = None }
    ∷ record { actor = Lock; session = 2; asked = Call (requests.Create (record { name = codes "_t_del"; columns = (record { name = codes "id"; kind = Int 4 false; nullable = false; default = None; auto = false } ∷ []); uniques = (record { name = None; places = (0 ∷ []) } ∷ []); indexes = []; comment = codes "ghost-cut-over-sentry"; start = None })); side = None; answer = answers.Ok 0; missed = None; draw = None }
    ∷ record { actor = Lock; session = 2; asked = Call (requests.LockTables (codes "t" ∷ codes "_t_del" ∷ [])); side = None; answer = answers.Ok 0; missed = None; draw = None }
    ∷ record { actor = Insp; session = 1; asked = Call (requests.Do (statements.Insert (codes "_t_ghc") None ((Num (pos 2)) ∷ (Text (codes "cut-over")) ∷ (Text (codes "2")) ∷ []) None)); side = None; answer = answers.Ok 1; missed = None; draw = None }
    ∷ record { actor = Apply; session = 4; asked = Call (requests.ReadLog 3 10 (codes "t" ∷ codes "_t_ghc" ∷ [])); side = None; answer = answers.Events (record { table = codes "_t_ghc"; change = changes.Write ((Num (pos 2)) ∷ (Text (codes "cut-over")) ∷ (Text (codes "2")) ∷ []) } ∷ []) 4; missed = None; draw = None }
    ∷ record { actor = Ren; session = 5; asked = Call (requests.Rename (record { old = codes "t"; new = codes "_t_del" } ∷ record { old = codes "_t_gho"; new = codes "t" } ∷ [])); side = None; answer = answers.Waits 2; missed = None; draw = None }
    ∷ record { actor = Insp; session = 1; asked = Call requests.ShowWaiting; side = None; answer = answers.Waiting (record { session = 5; names = (codes "t" ∷ codes "_t_del" ∷ codes "_t_gho" ∷ []); by = 2 } ∷ []); missed = None; draw = None }
    ∷ record { actor = Lock; session = 2; asked = Call (requests.Drop (codes "_t_del")); side = None; answer = answers.Ok 0; missed = None; draw = None }
    ∷ record { actor = Ren; session = 5; asked = Poll; side = None; answer = answers.Waits 2; missed = None; draw = None }
    ∷ record { actor = Lock; session = 2; asked = Call requests.Unlock; side = None; answer = answers.Ok 0; missed = None; draw = None }
    ∷ record { actor = Ren; session = 5; asked = Poll; side = None; answer = answers.Ok 0; missed = None; draw = None }
    ∷ record { actor = Insp; session = 1; asked = Call requests.ShowTables; side = None; answer = answers.Tables (record { name = codes "_t_del"; comment = [] } ∷ record { name = codes "_t_ghc"; comment = [] } ∷ record { name = codes "t"; comment = [] } ∷ []); missed = None; draw = None }
    ∷ record { actor = Insp; session = 1; asked = Call (requests.Drop (codes "_t_ghc")); side = None; answer = answers.Ok 0; missed = None; draw = None }
    ∷ []

abbrev reported_129 : WorkedFacts
reported_129 =
    record {
      verdict = verdicts.Done;
      ended = (Some (1, 1) ∷ Some (1, 2) ∷ Some (1, 3) ∷ None ∷ []);
      left = (record { schema = record { name = codes "t"; columns = (record { name = codes "id"; kind = Int 8 false; nullable = false; default = None; auto = false } ∷ []); uniques = (record { name = None; places = (0 ∷ []) } ∷ []); indexes = []; comment = []; start = None }; rows = (((Num (pos 5)) ∷ []) ∷ []) } ∷ []);
      alone = (((replies.Ok 0) ∷ []) ∷ ((replies.Ok 0) ∷ []) ∷ ((replies.Ok 0) ∷ (replies.Rows []) ∷ (replies.Ok 0) ∷ (replies.Ok 1) ∷ (replies.Ok 0) ∷ []) ∷ [] ∷ []);
      over = replicate 43 false ++ replicate 1 true;
      bound = 250351;
      replies = (((1, 1, (Some (replies.Ok 0))) ∷ (2, 1, (Some (replies.Ok 0))) ∷ (3, 1, (Some (replies.Ok 0))) ∷ (3, 2, (Some (replies.Rows []))) ∷ (3, 3, (Some (replies.Ok 0))) ∷ (3, 4, (Some (replies.Ok 1))) ∷ (3, 5, (Some (replies.Ok 0))) ∷ [])) ∷ [];
    }

worked_129 : IsWorked plan_129 journal_129 reported_129
unfolding computing
worked_129 = record { asks = refl; sessions = refl; answers = refl; sides = refl; struck = refl; verdict = refl; ended = refl; order = refl; left = refl; serial = refl; alone = refl; over = refl; online = refl; bounded = refl; replies = refl }

-- Plan 142
abbrev map_142 : List MapColumn
map_142 = (record { kind = Int 8 false; nullable = true; origin = from.Old 0 } ∷ record { kind = VarChar 6; nullable = true; origin = from.Old 1 } ∷ record { kind = VarBinary 3; nullable = false; origin = from.Old 2 } ∷ [])

abbrev plan_142 : PlanData
plan_142 = record { table = codes "t"; alter = (clauses.Change (codes "m0") (record { name = codes "m0"; kind = Int 8 false; nullable = None; default = None; auto = false }) Unsaid ∷ []); tables = (record { schema = record { name = codes "t"; columns = (record { name = codes "m0"; kind = Int 1 false; nullable = true; default = (Some Null); auto = false } ∷ record { name = codes "v"; kind = VarChar 6; nullable = true; default = (Some Null); auto = false } ∷ record { name = codes "id"; kind = VarBinary 3; nullable = false; default = None; auto = false } ∷ []); uniques = (record { name = None; places = (2 ∷ []) } ∷ record { name = (Some (codes "u0")); places = (2 ∷ 0 ∷ []) } ∷ []); indexes = []; comment = []; start = None }; rows = (((Num (pos 4)) ∷ Null ∷ (Blob (3 ∷ [])) ∷ []) ∷ ((Num (pos 5)) ∷ (Text (codes "b")) ∷ (Blob (6 ∷ [])) ∷ []) ∷ ((Num (pos 3)) ∷ (Text (codes "99999")) ∷ (Blob (52 ∷ [])) ∷ []) ∷ ((Num (pos 2)) ∷ (Text (codes "300")) ∷ (Blob (53 ∷ [])) ∷ []) ∷ ((Num (pos 6)) ∷ (Text (codes "3")) ∷ (Blob (97 ∷ [])) ∷ []) ∷ ((Num (pos 6)) ∷ (Text (codes "c")) ∷ (Blob (98 ∷ [])) ∷ []) ∷ ((Num (pos 6)) ∷ (Text (codes "6")) ∷ (Blob (103 ∷ [])) ∷ []) ∷ []) } ∷ []); clients = ([] ∷ (record { line = 1; word = words.Begin } ∷ record { line = 2; word = (words.Do (statements.Insert (codes "t") (Some (codes "m0" ∷ codes "v" ∷ codes "id" ∷ [])) ((Text (codes "3")) ∷ (Num (pos 1000)) ∷ (Text (codes "c")) ∷ []) None)) } ∷ record { line = 3; word = words.Rollback } ∷ []) ∷ []); operator = (record { word = commanded.Throttle; units = 1 } ∷ record { word = commanded.NoThrottle; units = 1 } ∷ []); faults = (losses.Turn 17 Copy ∷ []); turns = (record { actor = (Client 2); times = 3 } ∷ record { actor = Lock; times = 5 } ∷ record { actor = (Client 1); times = 2 } ∷ record { actor = Copy; times = 5 } ∷ record { actor = Apply; times = 1 } ∷ record { actor = Copy; times = 5 } ∷ record { actor = Insp; times = 2 } ∷ record { actor = (Client 1); times = 1 } ∷ record { actor = (Client 1); times = 5 } ∷ record { actor = Op; times = 1 } ∷ record { actor = Apply; times = 2 } ∷ record { actor = Copy; times = 1 } ∷ record { actor = Insp; times = 1 } ∷ record { actor = Op; times = 1 } ∷ record { actor = Lock; times = 5 } ∷ record { actor = Copy; times = 2 } ∷ record { actor = Copy; times = 1 } ∷ record { actor = Insp; times = 1 } ∷ record { actor = Op; times = 1 } ∷ record { actor = Ren; times = 1 } ∷ record { actor = Op; times = 5 } ∷ record { actor = (Client 2); times = 5 } ∷ record { actor = Copy; times = 1 } ∷ []); options = record { chunk_size = 1; dml_batch_size = 1; default_retries = 1; max_backlog = 100; drain_limit = 2000; client_wait = 2; tool_wait = 30; max_load = 64; turn_limit = 200000; notes = 0; note_every = 100; replica_step = 0; replica_pause = 1; max_lag = 10; resume = false; approve_renamed_columns = true; initially_drop_ghost_table = false; initially_drop_old_table = false; ok_to_drop_table = false; postpone = true; show_history = true; show_turns = true; show_tables = true; show_replies = true } }

abbrev journal_142 : List Entry
journal_142 =
    record { actor = (Client 2); session = 1; asked = Call requests.Begin; side = None; answer = answers.Ok 0; missed = None; draw = None }
    ∷ record { actor = (Client 2); session = 1; asked = Call (requests.Do (statements.Insert (codes "t") (Some (codes "m0" ∷ codes "v" ∷ codes "id" ∷ [])) ((Text (codes "3")) ∷ (Num (pos 1000)) ∷ (Text (codes "c")) ∷ []) None)); side = None; answer = answers.Ok 1; missed = None; draw = None }
    ∷ record { actor = (Client 2); session = 1; asked = Call requests.Rollback; side = None; answer = answers.Ok 0; missed = None; draw = None }
    ∷ record { actor = Insp; session = 2; asked = Call requests.ShowTables; side = None; answer = answers.Tables (record { name = codes "t"; comment = [] } ∷ []); missed = None; draw = None }
    ∷ record { actor = Insp; session = 2; asked = Call (requests.Create (record { name = codes "_t_ghc"; columns = (record { name = codes "id"; kind = Int 8 false; nullable = false; default = None; auto = false } ∷ record { name = codes "hint"; kind = VarChar 64; nullable = false; default = None; auto = false } ∷ record { name = codes "value"; kind = VarChar 255; nullable = false; default = None; auto = false } ∷ []); uniques = (record { name = None; places = (0 ∷ []) } ∷ []); indexes = []; comment = []; start = None })); side = None; answer = answers.Ok 0; missed = None; draw = None }
    ∷ record { actor = Op; session = 0; asked = Command commanded.Throttle; side = None; answer = answers.Ok 0; missed = None; draw = None }
    ∷ record { actor = Insp; session = 2; asked = Call (requests.Create (record { name = codes "_t_gho"; columns = (record { name = codes "m0"; kind = Int 8 false; nullable = true; default = (Some Null); auto = false } ∷ record { name = codes "v"; kind = VarChar 6; nullable = true; default = (Some Null); auto = false } ∷ record { name = codes "id"; kind = VarBinary 3; nullable = false; default = None; auto = false } ∷ []); uniques = (record { name = None; places = (2 ∷ []) } ∷ record { name = (Some (codes "u0")); places = (2 ∷ 0 ∷ []) } ∷ []); indexes = []; comment = []; start = None })); side = None; answer = answers.Ok 0; missed = None; draw = None }
    ∷ record { actor = Op; session = 0; asked = Command commanded.NoThrottle; side = None; answer = answers.Ok 0; missed = None; draw = None }
    ∷ record { actor = Insp; session = 2; asked = Call requests.LogEnd; side = None; answer = answers.At 0; missed = None; draw = None }
    ∷ record { actor = Insp; session = 2; asked = Call (requests.Ends (codes "t")); side = None; answer = answers.Ends (Some (record { least = ((Blob (3 ∷ [])) ∷ []); greatest = ((Blob (103 ∷ [])) ∷ []) })); missed = None; draw = None }
    ∷ record { actor = Copy; session = 3; asked = Call (requests.ChunkEnd (codes "t") (Closed ((Blob (3 ∷ [])) ∷ [])) ((Blob (103 ∷ [])) ∷ []) 1); side = None; answer = answers.End ((Blob (3 ∷ [])) ∷ []); missed = None; draw = None }
    ∷ record { actor = Copy; session = 3; asked = Call (requests.BeginSpan (codes "t") (record { low = (Closed ((Blob (3 ∷ [])) ∷ [])); high = (Closed ((Blob (3 ∷ [])) ∷ [])) }) 1); side = None; answer = answers.Keys (((Blob (3 ∷ [])) ∷ []) ∷ []) ((Blob (3 ∷ [])) ∷ []); missed = None; draw = None }
    ∷ record { actor = Copy; session = 3; asked = Call (requests.CopyRow (codes "t") (codes "_t_gho") map_142 ((Blob (3 ∷ [])) ∷ [])); side = None; answer = answers.Ok 1; missed = None; draw = None }
    ∷ record { actor = Copy; session = 3; asked = Call requests.Commit; side = None; answer = answers.Ok 0; missed = None; draw = None }
    ∷ record { actor = Copy; session = 3; asked = Call (requests.ChunkEnd (codes "t") (Open ((Blob (3 ∷ [])) ∷ [])) ((Blob (103 ∷ [])) ∷ []) 1); side = None; answer = answers.End ((Blob (6 ∷ [])) ∷ []); missed = None; draw = None }
    ∷ record { actor = Copy; session = 3; asked = Call (requests.BeginSpan (codes "t") (record { low = (Open ((Blob (3 ∷ [])) ∷ [])); high = (Closed ((Blob (6 ∷ [])) ∷ [])) }) 1); side = None; answer = answers.Keys (((Blob (6 ∷ [])) ∷ []) ∷ []) ((Blob (6 ∷ [])) ∷ []); missed = None; draw = None }
    ∷ record { actor = Copy; session = 3; asked = Cut; side = None; answer = answers.Lost; missed = None; draw = None }
    ∷ []

abbrev reported_142 : WorkedFacts
reported_142 =
    record {
      verdict = verdicts.Reverted (causes.Spent (tasks.Chunk 2) (17 ∷ []));
      ended = (Some (2, 1) ∷ []);
      left = (record { schema = record { name = codes "t"; columns = (record { name = codes "m0"; kind = Int 1 false; nullable = true; default = (Some Null); auto = false } ∷ record { name = codes "v"; kind = VarChar 6; nullable = true; default = (Some Null); auto = false } ∷ record { name = codes "id"; kind = VarBinary 3; nullable = false; default = None; auto = false } ∷ []); uniques = (record { name = None; places = (2 ∷ []) } ∷ record { name = (Some (codes "u0")); places = (2 ∷ 0 ∷ []) } ∷ []); indexes = []; comment = []; start = None }; rows = (((Num (pos 4)) ∷ Null ∷ (Blob (3 ∷ [])) ∷ []) ∷ ((Num (pos 5)) ∷ (Text (codes "b")) ∷ (Blob (6 ∷ [])) ∷ []) ∷ ((Num (pos 3)) ∷ (Text (codes "99999")) ∷ (Blob (52 ∷ [])) ∷ []) ∷ ((Num (pos 2)) ∷ (Text (codes "300")) ∷ (Blob (53 ∷ [])) ∷ []) ∷ ((Num (pos 6)) ∷ (Text (codes "3")) ∷ (Blob (97 ∷ [])) ∷ []) ∷ ((Num (pos 6)) ∷ (Text (codes "c")) ∷ (Blob (98 ∷ [])) ∷ []) ∷ ((Num (pos 6)) ∷ (Text (codes "6")) ∷ (Blob (103 ∷ [])) ∷ []) ∷ []) } ∷ []);
      alone = (((replies.Ok 0) ∷ (replies.Ok 1) ∷ (replies.Ok 0) ∷ []) ∷ []);
      over = replicate 16 false ++ replicate 1 true;
      bound = 27971;
      replies = ([]) ∷ (((1, 1, (Some (replies.Ok 0))) ∷ (1, 2, (Some (replies.Ok 1))) ∷ (1, 3, (Some (replies.Ok 0))) ∷ [])) ∷ [];
    }

worked_142 : IsWorked plan_142 journal_142 reported_142
unfolding computing
worked_142 = record { asks = refl; sessions = refl; answers = refl; sides = refl; struck = refl; verdict = refl; ended = refl; order = refl; left = refl; serial = refl; alone = refl; over = refl; online = refl; bounded = refl; replies = refl }

-- Plan 145
abbrev map_145 : List MapColumn
map_145 = (record { kind = Int 4 false; nullable = true; origin = from.Old 0 } ∷ record { kind = Int 1 false; nullable = true; origin = from.Old 1 } ∷ record { kind = VarChar 6; nullable = true; origin = from.Old 2 } ∷ record { kind = Int 8 false; nullable = false; origin = from.Old 3 } ∷ [])

abbrev plan_145 : PlanData
plan_145 = record { table = codes "t"; alter = (clauses.AddIndex None (codes "v" ∷ []) ∷ []); tables = (record { schema = record { name = codes "t"; columns = (record { name = codes "m0"; kind = Int 4 false; nullable = true; default = (Some Null); auto = false } ∷ record { name = codes "m1"; kind = Int 1 false; nullable = true; default = (Some Null); auto = false } ∷ record { name = codes "v"; kind = VarChar 6; nullable = true; default = (Some Null); auto = false } ∷ record { name = codes "id"; kind = Int 8 false; nullable = false; default = None; auto = false } ∷ []); uniques = (record { name = None; places = (3 ∷ []) } ∷ record { name = (Some (codes "u0")); places = (0 ∷ []) } ∷ record { name = (Some (codes "u1")); places = (1 ∷ []) } ∷ []); indexes = []; comment = []; start = None }; rows = (((Num (pos 5)) ∷ (Num (pos 1)) ∷ Null ∷ (Num (pos 3)) ∷ []) ∷ ((Num (pos 2)) ∷ Null ∷ Null ∷ (Num (pos 4)) ∷ []) ∷ (Null ∷ (Num (pos 6)) ∷ (Text (codes "d")) ∷ (Num (pos 5)) ∷ []) ∷ ((Num (pos 3)) ∷ (Num (pos 2)) ∷ Null ∷ (Num (pos 7)) ∷ []) ∷ []) } ∷ record { schema = record { name = codes "u"; columns = (record { name = codes "v"; kind = VarChar 6; nullable = false; default = None; auto = false } ∷ record { name = codes "id"; kind = Int 4 false; nullable = false; default = None; auto = false } ∷ record { name = codes "m0"; kind = Int 1 false; nullable = true; default = (Some Null); auto = false } ∷ record { name = codes "m1"; kind = Int 4 false; nullable = true; default = (Some Null); auto = false } ∷ []); uniques = (record { name = None; places = (1 ∷ []) } ∷ record { name = (Some (codes "u0")); places = (2 ∷ []) } ∷ record { name = (Some (codes "u1")); places = (3 ∷ []) } ∷ []); indexes = []; comment = []; start = None }; rows = [] } ∷ []); clients = ((record { line = 1; word = (words.Do (statements.Update (codes "t") (record { column = codes "m0"; value = Null } ∷ record { column = codes "m1"; value = Null } ∷ record { column = codes "v"; value = (Text (codes "a")) } ∷ record { column = codes "id"; value = (Num (pos 1)) } ∷ []) (conditions.Equal (record { column = codes "m0"; value = (Num (pos 7)) } ∷ [])))) } ∷ record { line = 2; word = (words.Do (statements.Select (codes "t") shown.Count conditions.All)) } ∷ []) ∷ (record { line = 1; word = (words.Do (statements.Insert (codes "t") None ((Num (pos 7)) ∷ (Num (pos 1)) ∷ (Text (codes "b")) ∷ (Num (pos 7)) ∷ []) None)) } ∷ record { line = 2; word = (words.Do (statements.Replace (codes "t") (Some (codes "m0" ∷ codes "m1" ∷ codes "v" ∷ codes "id" ∷ [])) ((Num (pos 3)) ∷ (Num (pos 7)) ∷ Null ∷ (Num (pos 6)) ∷ []) None)) } ∷ record { line = 3; word = (words.Do (statements.Replace (codes "t") None ((Num (pos 5)) ∷ Null ∷ (Num (pos 99999)) ∷ (Num (pos 1)) ∷ []) None)) } ∷ record { line = 4; word = words.Begin } ∷ record { line = 5; word = (words.Do (statements.Insert (codes "t") (Some (codes "m0" ∷ codes "v" ∷ codes "id" ∷ [])) (Null ∷ (Num (pos 6)) ∷ (Num (pos 6)) ∷ []) None)) } ∷ record { line = 6; word = words.Rollback } ∷ []) ∷ []); operator = (record { word = (commanded.ChunkSize 1); units = 1 } ∷ record { word = commanded.Throttle; units = 1 } ∷ record { word = commanded.Wait; units = 1 } ∷ record { word = commanded.Panic; units = 1 } ∷ record { word = commanded.NoThrottle; units = 1 } ∷ []); faults = (losses.Nth Ren 3 sides_at.After ∷ losses.Nth Lock 11 sides_at.Before ∷ []); turns = (record { actor = Insp; times = 5 } ∷ record { actor = Apply; times = 3 } ∷ record { actor = Lock; times = 2 } ∷ record { actor = (Client 1); times = 2 } ∷ record { actor = Op; times = 3 } ∷ record { actor = Copy; times = 5 } ∷ record { actor = Op; times = 1 } ∷ record { actor = Insp; times = 1 } ∷ record { actor = (Client 2); times = 1 } ∷ record { actor = Copy; times = 1 } ∷ record { actor = Ren; times = 2 } ∷ record { actor = Insp; times = 1 } ∷ record { actor = Ren; times = 1 } ∷ record { actor = Ren; times = 1 } ∷ record { actor = Insp; times = 5 } ∷ record { actor = Op; times = 1 } ∷ record { actor = (Client 1); times = 3 } ∷ record { actor = Lock; times = 3 } ∷ record { actor = Copy; times = 1 } ∷ record { actor = (Client 1); times = 1 } ∷ record { actor = Copy; times = 1 } ∷ record { actor = Op; times = 3 } ∷ record { actor = Lock; times = 5 } ∷ record { actor = Insp; times = 5 } ∷ record { actor = Insp; times = 1 } ∷ record { actor = Apply; times = 2 } ∷ record { actor = Ren; times = 2 } ∷ record { actor = Ren; times = 5 } ∷ record { actor = Insp; times = 2 } ∷ record { actor = Lock; times = 1 } ∷ record { actor = Ren; times = 1 } ∷ record { actor = Copy; times = 5 } ∷ record { actor = (Client 2); times = 1 } ∷ record { actor = (Client 2); times = 2 } ∷ record { actor = Lock; times = 3 } ∷ record { actor = Copy; times = 1 } ∷ record { actor = Insp; times = 1 } ∷ record { actor = Copy; times = 1 } ∷ record { actor = Apply; times = 5 } ∷ record { actor = Copy; times = 5 } ∷ []); options = record { chunk_size = 5; dml_batch_size = 10; default_retries = 9; max_backlog = 2; drain_limit = 2000; client_wait = 2; tool_wait = 1; max_load = 2; turn_limit = 200000; notes = 0; note_every = 100; replica_step = 0; replica_pause = 1; max_lag = 10; resume = false; approve_renamed_columns = true; initially_drop_ghost_table = false; initially_drop_old_table = false; ok_to_drop_table = false; postpone = false; show_history = true; show_turns = true; show_tables = true; show_replies = true } }

abbrev journal_145 : List Entry
journal_145 =
    record { actor = Insp; session = 1; asked = Call requests.ShowTables; side = None; answer = answers.Tables (record { name = codes "t"; comment = [] } ∷ record { name = codes "u"; comment = [] } ∷ []); missed = None; draw = None }
    ∷ record { actor = Insp; session = 1; asked = Call (requests.Create (record { name = codes "_t_ghc"; columns = (record { name = codes "id"; kind = Int 8 false; nullable = false; default = None; auto = false } ∷ record { name = codes "hint"; kind = VarChar 64; nullable = false; default = None; auto = false } ∷ record { name = codes "value"; kind = VarChar 255; nullable = false; default = None; auto = false } ∷ []); uniques = (record { name = None; places = (0 ∷ []) } ∷ []); indexes = []; comment = []; start = None })); side = None; answer = answers.Ok 0; missed = None; draw = None }
    ∷ record { actor = Insp; session = 1; asked = Call (requests.Create (record { name = codes "_t_gho"; columns = (record { name = codes "m0"; kind = Int 4 false; nullable = true; default = (Some Null); auto = false } ∷ record { name = codes "m1"; kind = Int 1 false; nullable = true; default = (Some Null); auto = false } ∷ record { name = codes "v"; kind = VarChar 6; nullable = true; default = (Some Null); auto = false } ∷ record { name = codes "id"; kind = Int 8 false; nullable = false; default = None; auto = false } ∷ []); uniques = (record { name = None; places = (3 ∷ []) } ∷ record { name = (Some (codes "u0")); places = (0 ∷ []) } ∷ record { name = (Some (codes "u1")); places = (1 ∷ []) } ∷ []); indexes = (record { name = (Some (codes "v")); places = (2 ∷ []) } ∷ []); comment = []; start = None })); side = None; answer = answers.Ok 0; missed = None; draw = None }
    ∷ record { actor = Insp; session = 1; asked = Call requests.LogEnd; side = None; answer = answers.At 0; missed = None; draw = None }
    ∷ record { actor = Insp; session = 1; asked = Call (requests.Ends (codes "t")); side = None; answer = answers.Ends (Some (record { least = ((Num (pos 3)) ∷ []); greatest = ((Num (pos 7)) ∷ []) })); missed = None; draw = None }
    ∷ record { actor = (Client 1); session = 2; asked = Call (requests.Do (statements.Update (codes "t") (record { column = codes "m0"; value = Null } ∷ record { column = codes "m1"; value = Null } ∷ record { column = codes "v"; value = (Text (codes "a")) } ∷ record { column = codes "id"; value = (Num (pos 1)) } ∷ []) (conditions.Equal (record { column = codes "m0"; value = (Num (pos 7)) } ∷ [])))); side = None; answer = answers.Ok 0; missed = None; draw = None }
    ∷ record { actor = (Client 1); session = 2; asked = Call (requests.Do (statements.Select (codes "t") shown.Count conditions.All)); side = None; answer = answers.Rows (((Num (pos 4)) ∷ []) ∷ []); missed = None; draw = None }
    ∷ record { actor = Op; session = 0; asked = Command (commanded.ChunkSize 1); side = None; answer = answers.Ok 0; missed = None; draw = None }
    ∷ record { actor = Op; session = 0; asked = Command commanded.Throttle; side = None; answer = answers.Ok 0; missed = None; draw = None }
    ∷ record { actor = Op; session = 0; asked = Command commanded.Wait; side = None; answer = answers.Ok 0; missed = None; draw = None }
    ∷ record { actor = Op; session = 0; asked = Command commanded.Panic; side = None; answer = answers.Ok 0; missed = None; draw = None }
    ∷ record { actor = (Client 2); session = 3; asked = Call (requests.Do (statements.Insert (codes "t") None ((Num (pos 7)) ∷ (Num (pos 1)) ∷ (Text (codes "b")) ∷ (Num (pos 7)) ∷ []) None)); side = None; answer = answers.Refused 1062 None; missed = None; draw = None }
    ∷ record { actor = Op; session = 0; asked = Command commanded.NoThrottle; side = None; answer = answers.Ok 0; missed = None; draw = None }
    ∷ record { actor = (Client 2); session = 3; asked = Call (requests.Do (statements.Replace (codes "t") (Some (codes "m0" ∷ codes "m1" ∷ codes "v" ∷ codes "id" ∷ [])) ((Num (pos 3)) ∷ (Num (pos 7)) ∷ Null ∷ (Num (pos 6)) ∷ []) None)); side = None; answer = answers.Ok 2; missed = None; draw = None }
    ∷ record { actor = (Client 2); session = 3; asked = Call (requests.Do (statements.Replace (codes "t") None ((Num (pos 5)) ∷ Null ∷ (Num (pos 99999)) ∷ (Num (pos 1)) ∷ []) None)); side = None; answer = answers.Ok 2; missed = None; draw = None }
    ∷ record { actor = (Client 2); session = 3; asked = Call requests.Begin; side = None; answer = answers.Ok 0; missed = None; draw = None }
    ∷ record { actor = (Client 2); session = 3; asked = Call (requests.Do (statements.Insert (codes "t") (Some (codes "m0" ∷ codes "v" ∷ codes "id" ∷ [])) (Null ∷ (Num (pos 6)) ∷ (Num (pos 6)) ∷ []) None)); side = None; answer = answers.Refused 1062 None; missed = None; draw = None }
    ∷ record { actor = (Client 2); session = 3; asked = Call requests.Rollback; side = None; answer = answers.Ok 0; missed = None; draw = None }
    ∷ []

abbrev reported_145 : WorkedFacts
reported_145 =
    record {
      verdict = verdicts.Reverted (causes.Panic 11);
      ended = (Some (1, 1) ∷ Some (1, 2) ∷ Some (2, 1) ∷ Some (2, 2) ∷ Some (2, 3) ∷ Some (2, 4) ∷ []);
      left = (record { schema = record { name = codes "t"; columns = (record { name = codes "m0"; kind = Int 4 false; nullable = true; default = (Some Null); auto = false } ∷ record { name = codes "m1"; kind = Int 1 false; nullable = true; default = (Some Null); auto = false } ∷ record { name = codes "v"; kind = VarChar 6; nullable = true; default = (Some Null); auto = false } ∷ record { name = codes "id"; kind = Int 8 false; nullable = false; default = None; auto = false } ∷ []); uniques = (record { name = None; places = (3 ∷ []) } ∷ record { name = (Some (codes "u0")); places = (0 ∷ []) } ∷ record { name = (Some (codes "u1")); places = (1 ∷ []) } ∷ []); indexes = []; comment = []; start = None }; rows = (((Num (pos 5)) ∷ Null ∷ (Text (codes "99999")) ∷ (Num (pos 1)) ∷ []) ∷ ((Num (pos 2)) ∷ Null ∷ Null ∷ (Num (pos 4)) ∷ []) ∷ (Null ∷ (Num (pos 6)) ∷ (Text (codes "d")) ∷ (Num (pos 5)) ∷ []) ∷ ((Num (pos 3)) ∷ (Num (pos 7)) ∷ Null ∷ (Num (pos 6)) ∷ []) ∷ []) } ∷ record { schema = record { name = codes "u"; columns = (record { name = codes "v"; kind = VarChar 6; nullable = false; default = None; auto = false } ∷ record { name = codes "id"; kind = Int 4 false; nullable = false; default = None; auto = false } ∷ record { name = codes "m0"; kind = Int 1 false; nullable = true; default = (Some Null); auto = false } ∷ record { name = codes "m1"; kind = Int 4 false; nullable = true; default = (Some Null); auto = false } ∷ []); uniques = (record { name = None; places = (1 ∷ []) } ∷ record { name = (Some (codes "u0")); places = (2 ∷ []) } ∷ record { name = (Some (codes "u1")); places = (3 ∷ []) } ∷ []); indexes = []; comment = []; start = None }; rows = [] } ∷ []);
      alone = (((replies.Ok 0) ∷ []) ∷ ((replies.Rows (((Num (pos 4)) ∷ []) ∷ [])) ∷ []) ∷ ((replies.Error 1062) ∷ []) ∷ ((replies.Ok 2) ∷ []) ∷ ((replies.Ok 2) ∷ []) ∷ ((replies.Ok 0) ∷ (replies.Error 1062) ∷ (replies.Ok 0) ∷ []) ∷ []);
      over = replicate 10 false ++ replicate 8 true;
      bound = 144133;
      replies = (((1, 1, (Some (replies.Ok 0))) ∷ (2, 1, (Some (replies.Rows (((Num (pos 4)) ∷ []) ∷ [])))) ∷ [])) ∷ (((1, 1, (Some (replies.Error 1062))) ∷ (2, 1, (Some (replies.Ok 2))) ∷ (3, 1, (Some (replies.Ok 2))) ∷ (4, 1, (Some (replies.Ok 0))) ∷ (4, 2, (Some (replies.Error 1062))) ∷ (4, 3, (Some (replies.Ok 0))) ∷ [])) ∷ [];
    }

worked_145 : IsWorked plan_145 journal_145 reported_145
unfolding computing
worked_145 = record { asks = refl; sessions = refl; answers = refl; sides = refl; struck = refl; verdict = refl; ended = refl; order = refl; left = refl; serial = refl; alone = refl; over = refl; online = refl; bounded = refl; replies = refl }
