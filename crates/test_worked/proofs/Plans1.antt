-- Random plans, replayed; their journals are those of an independent model.
use Rattle.std.proofs.Common.{pos, true, false, List, [], ◌∷◌, ◌++◌, Some, None, refl}
use Rattle.std.specs.Prelude.{codes, replicate}
use Rattle.base_values.specs.declared.value.Value.TheVariants.{Null, Num, Text, Blob}
use Rattle.base_values.specs.declared.kind.Kind.TheVariants.{Int, VarChar, VarBinary}
use Rattle.base_values.specs.declared.span.Bound.TheVariants.{Open, Closed}
use Rattle.base_values.specs.declared.row_conversion.clause.Clause.TheVariants as clauses
use Rattle.base_values.specs.declared.row_conversion.clause.ColumnPosition.TheVariants.{Unsaid, First}
use Rattle.base_values.specs.declared.row_conversion.map.MapColumn.{MapColumn}
use Rattle.base_values.specs.declared.row_conversion.map.Origin.TheVariants as from
use Rattle.base_values.specs.declared.event.Change.TheVariants as changes
use Rattle.base_script.specs.declared.actor.Actor.TheVariants.{Op, Insp, Copy, Apply, Lock, Ren, Client}
use Rattle.base_script.specs.declared.actor.Side.TheVariants as sides_at
use Rattle.base_script.specs.declared.loss.Loss.TheVariants as losses
use Rattle.base_script.specs.declared.operator.OperatorWord.TheVariants as commanded
use Rattle.base_script.specs.declared.script.ScriptWord.TheVariants as words
use Rattle.base_script.specs.declared.statement.Statement.TheVariants as statements
use Rattle.base_script.specs.declared.statement.Condition.TheVariants as conditions
use Rattle.base_script.specs.declared.statement.Shown.TheVariants as shown
use Rattle.base_script.specs.declared.statement.Sign.TheVariants as signs
use Rattle.server_model.specs.declared.transaction.Reply.TheVariants as replies
use Rattle.server_model.specs.declared.request.Request.TheVariants as requests
use Rattle.server_model.specs.declared.answer.Answer.TheVariants as answers
use Rattle.server_model.specs.declared.entry.Entry.{Entry}
use Rattle.server_model.specs.declared.entry.Asked.TheVariants.{Call, Poll, Command}
use Rattle.server_model.specs.declared.outcome.Cause.TheVariants as causes
use Rattle.server_model.specs.declared.outcome.Verdict.TheVariants as verdicts
use Rattle.plan_data.specs.PlanData.{PlanData}
use Rattle.test_worked.proofs.Computing.{computing, WorkedFacts, IsWorked}

-- Plan 101
abbrev map_101 : List MapColumn
map_101 = (record { kind = VarChar 4; nullable = true; origin = from.Added (Text (codes "n")) } ∷ record { kind = Int 1 false; nullable = false; origin = from.Old 0 } ∷ record { kind = Int 4 false; nullable = true; origin = from.Old 1 } ∷ record { kind = Int 4 false; nullable = true; origin = from.Old 2 } ∷ [])

abbrev pub plan_101 : PlanData
plan_101 = record { table = codes "t"; alter = (clauses.Add (record { name = codes "b"; kind = VarChar 4; nullable = None; default = (Some (Text (codes "n"))); auto = false }) First ∷ clauses.Change (codes "m0") (record { name = codes "m0"; kind = Int 4 false; nullable = None; default = None; auto = false }) Unsaid ∷ []); tables = (record { schema = record { name = codes "t"; columns = (record { name = codes "id"; kind = Int 1 false; nullable = false; default = None; auto = false } ∷ record { name = codes "m0"; kind = Int 4 false; nullable = true; default = (Some Null); auto = false } ∷ record { name = codes "v"; kind = Int 4 false; nullable = true; default = (Some Null); auto = false } ∷ []); uniques = (record { name = None; places = (0 ∷ []) } ∷ record { name = (Some (codes "u0")); places = (1 ∷ []) } ∷ []); indexes = []; comment = []; start = None }; rows = (((Num (pos 5)) ∷ (Num (pos 2)) ∷ (Num (pos 6)) ∷ []) ∷ []) } ∷ record { schema = record { name = codes "_t_ghc"; columns = (record { name = codes "id"; kind = Int 4 false; nullable = false; default = None; auto = false } ∷ []); uniques = (record { name = None; places = (0 ∷ []) } ∷ []); indexes = []; comment = []; start = None }; rows = (((Num (pos 3)) ∷ []) ∷ []) } ∷ []); clients = ((record { line = 1; word = (words.Do (statements.Select (codes "t") shown.Count conditions.All)) } ∷ record { line = 2; word = (words.Do (statements.Delete (codes "t") (conditions.Equal (record { column = codes "id"; value = (Num (pos 3)) } ∷ [])))) } ∷ record { line = 3; word = words.Begin } ∷ record { line = 4; word = (words.Do (statements.Insert (codes "t") (Some (codes "id" ∷ codes "m0" ∷ [])) ((Num (pos 7)) ∷ (Num (pos 6)) ∷ []) None)) } ∷ record { line = 5; word = words.Commit } ∷ []) ∷ [] ∷ []); operator = (record { word = commanded.NoThrottle; units = 1 } ∷ record { word = commanded.Unpostpone; units = 1 } ∷ record { word = (commanded.ChunkSize 1); units = 1 } ∷ record { word = commanded.Wait; units = 3 } ∷ record { word = commanded.Wait; units = 1 } ∷ record { word = commanded.Wait; units = 4 } ∷ []); faults = (losses.Turn 36 (Client 2) ∷ []); turns = (record { actor = Insp; times = 5 } ∷ record { actor = Apply; times = 1 } ∷ record { actor = Op; times = 5 } ∷ record { actor = Op; times = 2 } ∷ record { actor = (Client 1); times = 5 } ∷ record { actor = Insp; times = 5 } ∷ record { actor = Lock; times = 3 } ∷ record { actor = Copy; times = 1 } ∷ record { actor = Apply; times = 5 } ∷ record { actor = Copy; times = 1 } ∷ record { actor = Op; times = 1 } ∷ record { actor = Op; times = 1 } ∷ record { actor = (Client 2); times = 5 } ∷ record { actor = Lock; times = 5 } ∷ record { actor = Op; times = 3 } ∷ record { actor = Lock; times = 1 } ∷ record { actor = (Client 2); times = 3 } ∷ record { actor = Op; times = 1 } ∷ record { actor = Ren; times = 5 } ∷ record { actor = Ren; times = 1 } ∷ record { actor = (Client 1); times = 1 } ∷ record { actor = (Client 2); times = 1 } ∷ record { actor = Insp; times = 1 } ∷ record { actor = Insp; times = 3 } ∷ record { actor = Op; times = 5 } ∷ record { actor = (Client 2); times = 2 } ∷ record { actor = Insp; times = 1 } ∷ record { actor = Lock; times = 1 } ∷ record { actor = (Client 2); times = 3 } ∷ record { actor = Insp; times = 1 } ∷ record { actor = (Client 1); times = 2 } ∷ record { actor = Ren; times = 3 } ∷ record { actor = Apply; times = 2 } ∷ record { actor = Insp; times = 1 } ∷ record { actor = Ren; times = 3 } ∷ record { actor = Copy; times = 5 } ∷ record { actor = Copy; times = 3 } ∷ record { actor = (Client 2); times = 1 } ∷ record { actor = Copy; times = 1 } ∷ record { actor = (Client 2); times = 5 } ∷ record { actor = (Client 1); times = 1 } ∷ record { actor = Ren; times = 1 } ∷ record { actor = Lock; times = 1 } ∷ record { actor = Lock; times = 5 } ∷ record { actor = Copy; times = 1 } ∷ record { actor = Lock; times = 5 } ∷ record { actor = Apply; times = 1 } ∷ record { actor = Lock; times = 2 } ∷ record { actor = Apply; times = 1 } ∷ record { actor = Lock; times = 3 } ∷ record { actor = Lock; times = 1 } ∷ record { actor = Insp; times = 1 } ∷ record { actor = Apply; times = 3 } ∷ record { actor = (Client 2); times = 1 } ∷ record { actor = Copy; times = 1 } ∷ record { actor = Insp; times = 2 } ∷ record { actor = Copy; times = 1 } ∷ record { actor = (Client 1); times = 1 } ∷ record { actor = Insp; times = 1 } ∷ record { actor = Ren; times = 5 } ∷ []); options = record { chunk_size = 2; dml_batch_size = 3; default_retries = 1; max_backlog = 100; drain_limit = 2000; client_wait = 1; tool_wait = 30; max_load = 64; turn_limit = 200000; notes = 0; note_every = 100; replica_step = 0; replica_pause = 1; max_lag = 10; resume = false; approve_renamed_columns = true; initially_drop_ghost_table = false; initially_drop_old_table = false; ok_to_drop_table = false; postpone = false; show_history = true; show_turns = true; show_tables = true; show_replies = true } }

abbrev pub journal_101 : List Entry
journal_101 =
    record { actor = Insp; session = 1; asked = Call requests.ShowTables; side = None; answer = answers.Tables (record { name = codes "_t_ghc"; comment = [] } ∷ record { name = codes "t"; comment = [] } ∷ []); missed = None; draw = None }
    ∷ record { actor = Insp; session = 1; asked = Call (requests.Drop (codes "_t_ghc")); side = None; answer = answers.Ok 0; missed = None; draw = None }
    ∷ record { actor = Insp; session = 1; asked = Call (requests.Create (record { name = codes "_t_ghc"; columns = (record { name = codes "id"; kind = Int 8 false; nullable = false; default = None; auto = false } ∷ record { name = codes "hint"; kind = VarChar 64; nullable = false; default = None; auto = false } ∷ record { name = codes "value"; kind = VarChar 255; nullable = false; default = None; auto = false } ∷ []); uniques = (record { name = None; places = (0 ∷ []) } ∷ []); indexes = []; comment = []; start = None })); side = None; answer = answers.Ok 0; missed = None; draw = None }
    ∷ record { actor = Insp; session = 1; asked = Call (requests.Create (record { name = codes "_t_gho"; columns = (record { name = codes "b"; kind = VarChar 4; nullable = true; default = (Some (Text (codes "n"))); auto = false } ∷ record { name = codes "id"; kind = Int 1 false; nullable = false; default = None; auto = false } ∷ record { name = codes "m0"; kind = Int 4 false; nullable = true; default = (Some Null); auto = false } ∷ record { name = codes "v"; kind = Int 4 false; nullable = true; default = (Some Null); auto = false } ∷ []); uniques = (record { name = None; places = (1 ∷ []) } ∷ record { name = (Some (codes "u0")); places = (2 ∷ []) } ∷ []); indexes = []; comment = []; start = None })); side = None; answer = answers.Ok 0; missed = None; draw = None }
    ∷ record { actor = Insp; session = 1; asked = Call requests.LogEnd; side = None; answer = answers.At 0; missed = None; draw = None }
    ∷ record { actor = Op; session = 0; asked = Command commanded.NoThrottle; side = None; answer = answers.Ok 0; missed = None; draw = None }
    ∷ record { actor = Op; session = 0; asked = Command commanded.Unpostpone; side = None; answer = answers.Ok 0; missed = None; draw = None }
    ∷ record { actor = Op; session = 0; asked = Command (commanded.ChunkSize 1); side = None; answer = answers.Ok 0; missed = None; draw = None }
    ∷ record { actor = Op; session = 0; asked = Command commanded.Wait; side = None; answer = answers.Ok 0; missed = None; draw = None }
    ∷ record { actor = Op; session = 0; asked = Command commanded.Wait; side = None; answer = answers.Ok 0; missed = None; draw = None }
    ∷ record { actor = Op; session = 0; asked = Command commanded.Wait; side = None; answer = answers.Ok 0; missed = None; draw = None }
    ∷ record { actor = Op; session = 0; asked = Command commanded.Wait; side = None; answer = answers.Ok 0; missed = None; draw = None }
    ∷ record { actor = (Client 1); session = 2; asked = Call (requests.Do (statements.Select (codes "t") shown.Count conditions.All)); side = None; answer = answers.Rows (((Num (pos 1)) ∷ []) ∷ []); missed = None; draw = None }
    ∷ record { actor = (Client 1); session = 2; asked = Call (requests.Do (statements.Delete (codes "t") (conditions.Equal (record { column = codes "id"; value = (Num (pos 3)) } ∷ [])))); side = None; answer = answers.Ok 0; missed = None; draw = None }
    ∷ record { actor = (Client 1); session = 2; asked = Call requests.Begin; side = None; answer = answers.Ok 0; missed = None; draw = None }
    ∷ record { actor = (Client 1); session = 2; asked = Call (requests.Do (statements.Insert (codes "t") (Some (codes "id" ∷ codes "m0" ∷ [])) ((Num (pos 7)) ∷ (Num (pos 6)) ∷ []) None)); side = None; answer = answers.Ok 1; missed = None; draw = None }
    ∷ record { actor = (Client 1); session = 2; asked = Call requests.Commit; side = None; answer = answers.Ok 0; missed = None; draw = None }
    ∷ record { actor = Insp; session = 1; asked = Call (requests.Ends (codes "t")); side = None; answer = answers.Ends (Some (record { least = ((Num (pos 5)) ∷ []); greatest = ((Num (pos 7)) ∷ []) })); missed = None; draw = None }
    ∷ record { actor = Copy; session = 3; asked = Call (requests.ChunkEnd (codes "t") (Closed ((Num (pos 5)) ∷ [])) ((Num (pos 7)) ∷ []) 1); side = None; answer = answers.End ((Num (pos 5)) ∷ []); missed = None; draw = None }
    ∷ record { actor = Apply; session = 4; asked = Call (requests.ReadLog 0 3 (codes "t" ∷ codes "_t_ghc" ∷ [])); side = None; answer = answers.Events (record { table = codes "t"; change = changes.Write ((Num (pos 7)) ∷ (Num (pos 6)) ∷ Null ∷ []) } ∷ []) 1; missed = None; draw = None }
    ∷ record { actor = Apply; session = 4; asked = Call requests.Begin; side = None; answer = answers.Ok 0; missed = None; draw = None }
    ∷ record { actor = Apply; session = 4; asked = Call (requests.Do (statements.Replace (codes "_t_gho") None ((Text (codes "n")) ∷ (Num (pos 7)) ∷ (Num (pos 6)) ∷ Null ∷ []) None)); side = None; answer = answers.Ok 1; missed = None; draw = None }
    ∷ record { actor = Apply; session = 4; asked = Call requests.Commit; side = None; answer = answers.Ok 0; missed = None; draw = None }
    ∷ record { actor = Copy; session = 3; asked = Call (requests.BeginSpan (codes "t") (record { low = (Closed ((Num (pos 5)) ∷ [])); high = (Closed ((Num (pos 5)) ∷ [])) }) 1); side = None; answer = answers.Keys (((Num (pos 5)) ∷ []) ∷ []) ((Num (pos 5)) ∷ []); missed = None; draw = None }
    ∷ record { actor = Op; session = 0; asked = Command commanded.Wait; side = None; answer = answers.Ok 0; missed = None; draw = None }
    ∷ record { actor = Op; session = 0; asked = Command commanded.Wait; side = None; answer = answers.Ok 0; missed = None; draw = None }
    ∷ record { actor = Op; session = 0; asked = Command commanded.Wait; side = None; answer = answers.Ok 0; missed = None; draw = None }
    ∷ record { actor = Op; session = 0; asked = Command commanded.Wait; side = None; answer = answers.Ok 0; missed = None; draw = None }
    ∷ record { actor = Copy; session = 3; asked = Call (requests.CopyRow (codes "t") (codes "_t_gho") map_101 ((Num (pos 5)) ∷ [])); side = None; answer = answers.Ok 1; missed = None; draw = None }
    ∷ record { actor = Copy; session = 3; asked = Call requests.Commit; side = None; answer = answers.Ok 0; missed = None; draw = None }
    ∷ record { actor = Copy; session = 3; asked = Call (requests.ChunkEnd (codes "t") (Open ((Num (pos 5)) ∷ [])) ((Num (pos 7)) ∷ []) 1); side = None; answer = answers.End ((Num (pos 7)) ∷ []); missed = None; draw = None }
    ∷ record { actor = Copy; session = 3; asked = Call (requests.BeginSpan (codes "t") (record { low = (Open ((Num (pos 5)) ∷ [])); high = (Closed ((Num (pos 7)) ∷ [])) }) 1); side = None; answer = answers.Keys (((Num (pos 7)) ∷ []) ∷ []) ((Num (pos 7)) ∷ []); missed = None; draw = None }
    ∷ record { actor = Copy; session = 3; asked = Call (requests.CopyRow (codes "t") (codes "_t_gho") map_101 ((Num (pos 7)) ∷ [])); side = None; answer = answers.Ok 0; missed = None; draw = None }
    ∷ record { actor = Copy; session = 3; asked = Call requests.Commit; side = None; answer = answers.Ok 0; missed = None; draw = None }
    ∷ record { actor = Lock; session = 5; asked = Call (requests.Create (record { name = codes "_t_del"; columns = (record { name = codes "id"; kind = Int 4 false; nullable = false; default = None; auto = false } ∷ []); uniques = (record { name = None; places = (0 ∷ []) } ∷ []); indexes = []; comment = codes "ghost-cut-over-sentry"; start = None })); side = None; answer = answers.Ok 0; missed = None; draw = None }
    ∷ record { actor = Lock; session = 5; asked = Call (requests.LockTables (codes "t" ∷ codes "_t_del" ∷ [])); side = None; answer = answers.Ok 0; missed = None; draw = None }
    ∷ record { actor = Insp; session = 1; asked = Call (requests.Do (statements.Insert (codes "_t_ghc") None ((Num (pos 1)) ∷ (Text (codes "cut-over")) ∷ (Text (codes "1")) ∷ []) None)); side = None; answer = answers.Ok 1; missed = None; draw = None }
    ∷ record { actor = Apply; session = 4; asked = Call (requests.ReadLog 1 3 (codes "t" ∷ codes "_t_ghc" ∷ [])); side = None; answer = answers.Events (record { table = codes "_t_ghc"; change = changes.Write ((Num (pos 1)) ∷ (Text (codes "cut-over")) ∷ (Text (codes "1")) ∷ []) } ∷ []) 4; missed = None; draw = None }
    ∷ record { actor = Ren; session = 6; asked = Call (requests.Rename (record { old = codes "t"; new = codes "_t_del" } ∷ record { old = codes "_t_gho"; new = codes "t" } ∷ [])); side = None; answer = answers.Waits 5; missed = None; draw = None }
    ∷ record { actor = Ren; session = 6; asked = Poll; side = None; answer = answers.Waits 5; missed = None; draw = None }
    ∷ record { actor = Ren; session = 6; asked = Poll; side = None; answer = answers.Waits 5; missed = None; draw = None }
    ∷ record { actor = Ren; session = 6; asked = Poll; side = None; answer = answers.Waits 5; missed = None; draw = None }
    ∷ record { actor = Ren; session = 6; asked = Poll; side = None; answer = answers.Waits 5; missed = None; draw = None }
    ∷ record { actor = Insp; session = 1; asked = Call requests.ShowWaiting; side = None; answer = answers.Waiting (record { session = 6; names = (codes "t" ∷ codes "_t_del" ∷ codes "_t_gho" ∷ []); by = 5 } ∷ []); missed = None; draw = None }
    ∷ record { actor = Lock; session = 5; asked = Call (requests.Drop (codes "_t_del")); side = None; answer = answers.Ok 0; missed = None; draw = None }
    ∷ record { actor = Ren; session = 6; asked = Poll; side = None; answer = answers.Waits 5; missed = None; draw = None }
    ∷ record { actor = Lock; session = 5; asked = Call requests.Unlock; side = None; answer = answers.Ok 0; missed = None; draw = None }
    ∷ record { actor = Ren; session = 6; asked = Poll; side = None; answer = answers.Ok 0; missed = None; draw = None }
    ∷ record { actor = Insp; session = 1; asked = Call requests.ShowTables; side = None; answer = answers.Tables (record { name = codes "_t_del"; comment = [] } ∷ record { name = codes "_t_ghc"; comment = [] } ∷ record { name = codes "t"; comment = [] } ∷ []); missed = None; draw = None }
    ∷ record { actor = Insp; session = 1; asked = Call (requests.Drop (codes "_t_ghc")); side = None; answer = answers.Ok 0; missed = None; draw = None }
    ∷ []

abbrev reported_101 : WorkedFacts
reported_101 =
    record {
      verdict = verdicts.Done;
      ended = (Some (1, 1) ∷ Some (1, 2) ∷ Some (1, 3) ∷ None ∷ []);
      left = (record { schema = record { name = codes "t"; columns = (record { name = codes "b"; kind = VarChar 4; nullable = true; default = (Some (Text (codes "n"))); auto = false } ∷ record { name = codes "id"; kind = Int 1 false; nullable = false; default = None; auto = false } ∷ record { name = codes "m0"; kind = Int 4 false; nullable = true; default = (Some Null); auto = false } ∷ record { name = codes "v"; kind = Int 4 false; nullable = true; default = (Some Null); auto = false } ∷ []); uniques = (record { name = None; places = (1 ∷ []) } ∷ record { name = (Some (codes "u0")); places = (2 ∷ []) } ∷ []); indexes = []; comment = []; start = None }; rows = (((Text (codes "n")) ∷ (Num (pos 5)) ∷ (Num (pos 2)) ∷ (Num (pos 6)) ∷ []) ∷ ((Text (codes "n")) ∷ (Num (pos 7)) ∷ (Num (pos 6)) ∷ Null ∷ []) ∷ []) } ∷ []);
      alone = (((replies.Rows (((Num (pos 1)) ∷ []) ∷ [])) ∷ []) ∷ ((replies.Ok 0) ∷ []) ∷ ((replies.Ok 0) ∷ (replies.Ok 1) ∷ (replies.Ok 0) ∷ []) ∷ [] ∷ []);
      over = replicate 49 false ++ replicate 1 true;
      bound = 38413;
      replies = (((1, 1, (Some (replies.Rows (((Num (pos 1)) ∷ []) ∷ [])))) ∷ (2, 1, (Some (replies.Ok 0))) ∷ (3, 1, (Some (replies.Ok 0))) ∷ (3, 2, (Some (replies.Ok 1))) ∷ (3, 3, (Some (replies.Ok 0))) ∷ [])) ∷ ([]) ∷ [];
    }

worked_101 : IsWorked plan_101 journal_101 reported_101
unfolding computing
worked_101 = record { asks = refl; sessions = refl; answers = refl; sides = refl; struck = refl; verdict = refl; ended = refl; order = refl; left = refl; serial = refl; alone = refl; over = refl; online = refl; bounded = refl; replies = refl }

-- Plan 102
abbrev map_102 : List MapColumn
map_102 = (record { kind = Int 4 false; nullable = false; origin = from.Old 0 } ∷ record { kind = Int 4 false; nullable = true; origin = from.Old 1 } ∷ record { kind = Int 4 false; nullable = true; origin = from.Old 2 } ∷ record { kind = Int 4 false; nullable = true; origin = from.Added Null } ∷ [])

abbrev plan_102 : PlanData
plan_102 = record { table = codes "t"; alter = (clauses.Add (record { name = codes "b"; kind = Int 4 false; nullable = None; default = None; auto = false }) Unsaid ∷ []); tables = (record { schema = record { name = codes "t"; columns = (record { name = codes "id"; kind = Int 4 false; nullable = false; default = None; auto = false } ∷ record { name = codes "m"; kind = Int 4 false; nullable = true; default = (Some Null); auto = false } ∷ record { name = codes "v"; kind = Int 4 false; nullable = true; default = (Some Null); auto = false } ∷ []); uniques = (record { name = None; places = (0 ∷ []) } ∷ record { name = (Some (codes "u0")); places = (1 ∷ []) } ∷ []); indexes = []; comment = []; start = None }; rows = (((Num (pos 2)) ∷ Null ∷ (Num (pos 5)) ∷ []) ∷ ((Num (pos 3)) ∷ Null ∷ (Num (pos 5)) ∷ []) ∷ ((Num (pos 4)) ∷ (Num (pos 1)) ∷ (Num (pos 5)) ∷ []) ∷ ((Num (pos 6)) ∷ (Num (pos 2)) ∷ (Num (pos 5)) ∷ []) ∷ []) } ∷ []); clients = ((record { line = 1; word = (words.Do (statements.Delete (codes "t") (conditions.Equal (record { column = codes "id"; value = (Num (pos 1)) } ∷ [])))) } ∷ record { line = 2; word = (words.Do (statements.Delete (codes "t") (conditions.Equal (record { column = codes "id"; value = (Num (pos 5)) } ∷ [])))) } ∷ record { line = 3; word = (words.Do (statements.Update (codes "t") (record { column = codes "m"; value = Null } ∷ []) (conditions.Equal (record { column = codes "id"; value = (Num (pos 6)) } ∷ [])))) } ∷ record { line = 4; word = (words.Do (statements.Insert (codes "t") None ((Num (pos 5)) ∷ (Num (pos 1)) ∷ (Num (pos 3)) ∷ []) None)) } ∷ record { line = 5; word = (words.Do (statements.Update (codes "t") (record { column = codes "v"; value = (Num (pos 2)) } ∷ []) (conditions.Equal (record { column = codes "id"; value = (Num (pos 2)) } ∷ [])))) } ∷ record { line = 6; word = (words.Do (statements.Replace (codes "t") None ((Num (pos 2)) ∷ (Num (pos 3)) ∷ Null ∷ []) None)) } ∷ record { line = 7; word = (words.Do (statements.Update (codes "t") (record { column = codes "m"; value = Null } ∷ []) (conditions.Equal (record { column = codes "id"; value = (Num (pos 6)) } ∷ [])))) } ∷ record { line = 8; word = (words.Do (statements.Update (codes "t") (record { column = codes "id"; value = (Num (pos 6)) } ∷ []) (conditions.Equal (record { column = codes "id"; value = (Num (pos 2)) } ∷ [])))) } ∷ record { line = 9; word = (words.Do (statements.Delete (codes "t") (conditions.Equal (record { column = codes "id"; value = (Num (pos 5)) } ∷ [])))) } ∷ []) ∷ (record { line = 1; word = (words.Do (statements.Update (codes "t") (record { column = codes "v"; value = (Num (pos 2)) } ∷ []) (conditions.Equal (record { column = codes "id"; value = (Num (pos 3)) } ∷ [])))) } ∷ record { line = 2; word = words.Begin } ∷ record { line = 3; word = (words.Do (statements.Update (codes "t") (record { column = codes "v"; value = (Num (pos 2)) } ∷ []) (conditions.Equal (record { column = codes "id"; value = (Num (pos 2)) } ∷ [])))) } ∷ record { line = 4; word = (words.Do (statements.Update (codes "t") (record { column = codes "m"; value = Null } ∷ []) (conditions.Equal (record { column = codes "id"; value = (Num (pos 2)) } ∷ [])))) } ∷ record { line = 5; word = words.Commit } ∷ record { line = 6; word = (words.Do (statements.Update (codes "t") (record { column = codes "m"; value = (Num (pos 2)) } ∷ []) (conditions.Equal (record { column = codes "id"; value = (Num (pos 1)) } ∷ [])))) } ∷ record { line = 7; word = words.Begin } ∷ record { line = 8; word = (words.Do (statements.Delete (codes "t") (conditions.Equal (record { column = codes "id"; value = (Num (pos 1)) } ∷ [])))) } ∷ record { line = 9; word = (words.Do (statements.Update (codes "t") (record { column = codes "v"; value = Null } ∷ []) (conditions.Equal (record { column = codes "id"; value = (Num (pos 6)) } ∷ [])))) } ∷ record { line = 10; word = words.Commit } ∷ record { line = 11; word = (words.Do (statements.Update (codes "t") (record { column = codes "id"; value = (Num (pos 2)) } ∷ []) (conditions.Equal (record { column = codes "m"; value = (Num (pos 2)) } ∷ [])))) } ∷ record { line = 12; word = (words.Do (statements.Update (codes "t") (record { column = codes "m"; value = (Num (pos 2)) } ∷ []) (conditions.Equal (record { column = codes "id"; value = (Num (pos 6)) } ∷ [])))) } ∷ record { line = 13; word = (words.Do (statements.Update (codes "t") (record { column = codes "v"; value = (Num (pos 2)) } ∷ []) (conditions.Equal (record { column = codes "id"; value = (Num (pos 2)) } ∷ [])))) } ∷ []) ∷ []); operator = []; faults = (losses.Nth Insp 9 sides_at.Before ∷ losses.Nth Insp 4 sides_at.Before ∷ losses.Turn 28 Apply ∷ losses.Nth Ren 29 sides_at.After ∷ []); turns = (record { actor = Insp; times = 4 } ∷ record { actor = (Client 1); times = 2 } ∷ record { actor = Insp; times = 1 } ∷ record { actor = Apply; times = 1 } ∷ record { actor = Apply; times = 1 } ∷ record { actor = (Client 1); times = 6 } ∷ record { actor = (Client 1); times = 3 } ∷ record { actor = (Client 1); times = 9 } ∷ record { actor = (Client 2); times = 2 } ∷ record { actor = Apply; times = 9 } ∷ record { actor = (Client 2); times = 6 } ∷ record { actor = (Client 2); times = 9 } ∷ record { actor = (Client 1); times = 6 } ∷ record { actor = (Client 2); times = 6 } ∷ record { actor = (Client 2); times = 1 } ∷ record { actor = (Client 2); times = 6 } ∷ record { actor = Copy; times = 3 } ∷ record { actor = (Client 2); times = 6 } ∷ record { actor = (Client 1); times = 9 } ∷ record { actor = (Client 1); times = 4 } ∷ record { actor = (Client 2); times = 3 } ∷ record { actor = (Client 2); times = 6 } ∷ record { actor = (Client 2); times = 9 } ∷ record { actor = (Client 2); times = 6 } ∷ record { actor = (Client 1); times = 2 } ∷ record { actor = Copy; times = 2 } ∷ record { actor = Copy; times = 1 } ∷ record { actor = (Client 2); times = 1 } ∷ record { actor = (Client 1); times = 1 } ∷ record { actor = Copy; times = 9 } ∷ record { actor = (Client 2); times = 3 } ∷ record { actor = (Client 1); times = 2 } ∷ record { actor = Copy; times = 3 } ∷ []); options = record { chunk_size = 2; dml_batch_size = 3; default_retries = 60; max_backlog = 100; drain_limit = 2000; client_wait = 5; tool_wait = 9; max_load = 64; turn_limit = 200000; notes = 0; note_every = 100; replica_step = 0; replica_pause = 1; max_lag = 10; resume = false; approve_renamed_columns = false; initially_drop_ghost_table = false; initially_drop_old_table = false; ok_to_drop_table = false; postpone = false; show_history = true; show_turns = true; show_tables = true; show_replies = true } }

abbrev journal_102 : List Entry
journal_102 =
    record { actor = Insp; session = 1; asked = Call requests.ShowTables; side = None; answer = answers.Tables (record { name = codes "t"; comment = [] } ∷ []); missed = None; draw = None }
    ∷ record { actor = Insp; session = 1; asked = Call (requests.Create (record { name = codes "_t_ghc"; columns = (record { name = codes "id"; kind = Int 8 false; nullable = false; default = None; auto = false } ∷ record { name = codes "hint"; kind = VarChar 64; nullable = false; default = None; auto = false } ∷ record { name = codes "value"; kind = VarChar 255; nullable = false; default = None; auto = false } ∷ []); uniques = (record { name = None; places = (0 ∷ []) } ∷ []); indexes = []; comment = []; start = None })); side = None; answer = answers.Ok 0; missed = None; draw = None }
    ∷ record { actor = Insp; session = 1; asked = Call (requests.Create (record { name = codes "_t_gho"; columns = (record { name = codes "id"; kind = Int 4 false; nullable = false; default = None; auto = false } ∷ record { name = codes "m"; kind = Int 4 false; nullable = true; default = (Some Null); auto = false } ∷ record { name = codes "v"; kind = Int 4 false; nullable = true; default = (Some Null); auto = false } ∷ record { name = codes "b"; kind = Int 4 false; nullable = true; default = (Some Null); auto = false } ∷ []); uniques = (record { name = None; places = (0 ∷ []) } ∷ record { name = (Some (codes "u0")); places = (1 ∷ []) } ∷ []); indexes = []; comment = []; start = None })); side = None; answer = answers.Ok 0; missed = None; draw = None }
    ∷ record { actor = Insp; session = 1; asked = Call requests.LogEnd; side = (Some sides_at.Before); answer = answers.Lost; missed = None; draw = None }
    ∷ record { actor = (Client 1); session = 2; asked = Call (requests.Do (statements.Delete (codes "t") (conditions.Equal (record { column = codes "id"; value = (Num (pos 1)) } ∷ [])))); side = None; answer = answers.Ok 0; missed = None; draw = None }
    ∷ record { actor = (Client 1); session = 2; asked = Call (requests.Do (statements.Delete (codes "t") (conditions.Equal (record { column = codes "id"; value = (Num (pos 5)) } ∷ [])))); side = None; answer = answers.Ok 0; missed = None; draw = None }
    ∷ record { actor = Insp; session = 3; asked = Call requests.ShowTables; side = None; answer = answers.Tables (record { name = codes "_t_ghc"; comment = [] } ∷ record { name = codes "_t_gho"; comment = [] } ∷ record { name = codes "t"; comment = [] } ∷ []); missed = None; draw = None }
    ∷ record { actor = (Client 1); session = 2; asked = Call (requests.Do (statements.Update (codes "t") (record { column = codes "m"; value = Null } ∷ []) (conditions.Equal (record { column = codes "id"; value = (Num (pos 6)) } ∷ [])))); side = None; answer = answers.Ok 1; missed = None; draw = None }
    ∷ record { actor = (Client 1); session = 2; asked = Call (requests.Do (statements.Insert (codes "t") None ((Num (pos 5)) ∷ (Num (pos 1)) ∷ (Num (pos 3)) ∷ []) None)); side = None; answer = answers.Refused 1062 None; missed = None; draw = None }
    ∷ record { actor = (Client 1); session = 2; asked = Call (requests.Do (statements.Update (codes "t") (record { column = codes "v"; value = (Num (pos 2)) } ∷ []) (conditions.Equal (record { column = codes "id"; value = (Num (pos 2)) } ∷ [])))); side = None; answer = answers.Ok 1; missed = None; draw = None }
    ∷ record { actor = (Client 1); session = 2; asked = Call (requests.Do (statements.Replace (codes "t") None ((Num (pos 2)) ∷ (Num (pos 3)) ∷ Null ∷ []) None)); side = None; answer = answers.Ok 2; missed = None; draw = None }
    ∷ record { actor = (Client 1); session = 2; asked = Call (requests.Do (statements.Update (codes "t") (record { column = codes "m"; value = Null } ∷ []) (conditions.Equal (record { column = codes "id"; value = (Num (pos 6)) } ∷ [])))); side = None; answer = answers.Ok 0; missed = None; draw = None }
    ∷ record { actor = (Client 1); session = 2; asked = Call (requests.Do (statements.Update (codes "t") (record { column = codes "id"; value = (Num (pos 6)) } ∷ []) (conditions.Equal (record { column = codes "id"; value = (Num (pos 2)) } ∷ [])))); side = None; answer = answers.Refused 1062 None; missed = None; draw = None }
    ∷ record { actor = (Client 1); session = 2; asked = Call (requests.Do (statements.Delete (codes "t") (conditions.Equal (record { column = codes "id"; value = (Num (pos 5)) } ∷ [])))); side = None; answer = answers.Ok 0; missed = None; draw = None }
    ∷ record { actor = (Client 2); session = 4; asked = Call (requests.Do (statements.Update (codes "t") (record { column = codes "v"; value = (Num (pos 2)) } ∷ []) (conditions.Equal (record { column = codes "id"; value = (Num (pos 3)) } ∷ [])))); side = None; answer = answers.Ok 1; missed = None; draw = None }
    ∷ record { actor = (Client 2); session = 4; asked = Call requests.Begin; side = None; answer = answers.Ok 0; missed = None; draw = None }
    ∷ record { actor = (Client 2); session = 4; asked = Call (requests.Do (statements.Update (codes "t") (record { column = codes "v"; value = (Num (pos 2)) } ∷ []) (conditions.Equal (record { column = codes "id"; value = (Num (pos 2)) } ∷ [])))); side = None; answer = answers.Ok 1; missed = None; draw = None }
    ∷ record { actor = (Client 2); session = 4; asked = Call (requests.Do (statements.Update (codes "t") (record { column = codes "m"; value = Null } ∷ []) (conditions.Equal (record { column = codes "id"; value = (Num (pos 2)) } ∷ [])))); side = None; answer = answers.Ok 1; missed = None; draw = None }
    ∷ record { actor = (Client 2); session = 4; asked = Call requests.Commit; side = None; answer = answers.Ok 0; missed = None; draw = None }
    ∷ record { actor = (Client 2); session = 4; asked = Call (requests.Do (statements.Update (codes "t") (record { column = codes "m"; value = (Num (pos 2)) } ∷ []) (conditions.Equal (record { column = codes "id"; value = (Num (pos 1)) } ∷ [])))); side = None; answer = answers.Ok 0; missed = None; draw = None }
    ∷ record { actor = (Client 2); session = 4; asked = Call requests.Begin; side = None; answer = answers.Ok 0; missed = None; draw = None }
    ∷ record { actor = (Client 2); session = 4; asked = Call (requests.Do (statements.Delete (codes "t") (conditions.Equal (record { column = codes "id"; value = (Num (pos 1)) } ∷ [])))); side = None; answer = answers.Ok 0; missed = None; draw = None }
    ∷ record { actor = (Client 2); session = 4; asked = Call (requests.Do (statements.Update (codes "t") (record { column = codes "v"; value = Null } ∷ []) (conditions.Equal (record { column = codes "id"; value = (Num (pos 6)) } ∷ [])))); side = None; answer = answers.Ok 1; missed = None; draw = None }
    ∷ record { actor = (Client 2); session = 4; asked = Call requests.Commit; side = None; answer = answers.Ok 0; missed = None; draw = None }
    ∷ record { actor = (Client 2); session = 4; asked = Call (requests.Do (statements.Update (codes "t") (record { column = codes "id"; value = (Num (pos 2)) } ∷ []) (conditions.Equal (record { column = codes "m"; value = (Num (pos 2)) } ∷ [])))); side = None; answer = answers.Ok 0; missed = None; draw = None }
    ∷ record { actor = (Client 2); session = 4; asked = Call (requests.Do (statements.Update (codes "t") (record { column = codes "m"; value = (Num (pos 2)) } ∷ []) (conditions.Equal (record { column = codes "id"; value = (Num (pos 6)) } ∷ [])))); side = None; answer = answers.Ok 1; missed = None; draw = None }
    ∷ record { actor = (Client 2); session = 4; asked = Call (requests.Do (statements.Update (codes "t") (record { column = codes "v"; value = (Num (pos 2)) } ∷ []) (conditions.Equal (record { column = codes "id"; value = (Num (pos 2)) } ∷ [])))); side = None; answer = answers.Ok 0; missed = None; draw = None }
    ∷ record { actor = Insp; session = 3; asked = Call (requests.Drop (codes "_t_ghc")); side = None; answer = answers.Ok 0; missed = None; draw = None }
    ∷ record { actor = Insp; session = 3; asked = Call (requests.Drop (codes "_t_gho")); side = None; answer = answers.Ok 0; missed = None; draw = None }
    ∷ record { actor = Insp; session = 3; asked = Call (requests.Create (record { name = codes "_t_ghc"; columns = (record { name = codes "id"; kind = Int 8 false; nullable = false; default = None; auto = false } ∷ record { name = codes "hint"; kind = VarChar 64; nullable = false; default = None; auto = false } ∷ record { name = codes "value"; kind = VarChar 255; nullable = false; default = None; auto = false } ∷ []); uniques = (record { name = None; places = (0 ∷ []) } ∷ []); indexes = []; comment = []; start = None })); side = None; answer = answers.Ok 0; missed = None; draw = None }
    ∷ record { actor = Insp; session = 3; asked = Call (requests.Create (record { name = codes "_t_gho"; columns = (record { name = codes "id"; kind = Int 4 false; nullable = false; default = None; auto = false } ∷ record { name = codes "m"; kind = Int 4 false; nullable = true; default = (Some Null); auto = false } ∷ record { name = codes "v"; kind = Int 4 false; nullable = true; default = (Some Null); auto = false } ∷ record { name = codes "b"; kind = Int 4 false; nullable = true; default = (Some Null); auto = false } ∷ []); uniques = (record { name = None; places = (0 ∷ []) } ∷ record { name = (Some (codes "u0")); places = (1 ∷ []) } ∷ []); indexes = []; comment = []; start = None })); side = (Some sides_at.Before); answer = answers.Lost; missed = None; draw = None }
    ∷ record { actor = Insp; session = 5; asked = Call requests.ShowTables; side = None; answer = answers.Tables (record { name = codes "_t_ghc"; comment = [] } ∷ record { name = codes "t"; comment = [] } ∷ []); missed = None; draw = None }
    ∷ record { actor = Insp; session = 5; asked = Call (requests.Drop (codes "_t_ghc")); side = None; answer = answers.Ok 0; missed = None; draw = None }
    ∷ record { actor = Insp; session = 5; asked = Call (requests.Create (record { name = codes "_t_ghc"; columns = (record { name = codes "id"; kind = Int 8 false; nullable = false; default = None; auto = false } ∷ record { name = codes "hint"; kind = VarChar 64; nullable = false; default = None; auto = false } ∷ record { name = codes "value"; kind = VarChar 255; nullable = false; default = None; auto = false } ∷ []); uniques = (record { name = None; places = (0 ∷ []) } ∷ []); indexes = []; comment = []; start = None })); side = None; answer = answers.Ok 0; missed = None; draw = None }
    ∷ record { actor = Insp; session = 5; asked = Call (requests.Create (record { name = codes "_t_gho"; columns = (record { name = codes "id"; kind = Int 4 false; nullable = false; default = None; auto = false } ∷ record { name = codes "m"; kind = Int 4 false; nullable = true; default = (Some Null); auto = false } ∷ record { name = codes "v"; kind = Int 4 false; nullable = true; default = (Some Null); auto = false } ∷ record { name = codes "b"; kind = Int 4 false; nullable = true; default = (Some Null); auto = false } ∷ []); uniques = (record { name = None; places = (0 ∷ []) } ∷ record { name = (Some (codes "u0")); places = (1 ∷ []) } ∷ []); indexes = []; comment = []; start = None })); side = None; answer = answers.Ok 0; missed = None; draw = None }
    ∷ record { actor = Insp; session = 5; asked = Call requests.LogEnd; side = None; answer = answers.At 9; missed = None; draw = None }
    ∷ record { actor = Insp; session = 5; asked = Call (requests.Ends (codes "t")); side = None; answer = answers.Ends (Some (record { least = ((Num (pos 2)) ∷ []); greatest = ((Num (pos 6)) ∷ []) })); missed = None; draw = None }
    ∷ record { actor = Copy; session = 6; asked = Call (requests.ChunkEnd (codes "t") (Closed ((Num (pos 2)) ∷ [])) ((Num (pos 6)) ∷ []) 2); side = None; answer = answers.End ((Num (pos 3)) ∷ []); missed = None; draw = None }
    ∷ record { actor = Copy; session = 6; asked = Call (requests.BeginSpan (codes "t") (record { low = (Closed ((Num (pos 2)) ∷ [])); high = (Closed ((Num (pos 3)) ∷ [])) }) 2); side = None; answer = answers.Keys (((Num (pos 2)) ∷ []) ∷ ((Num (pos 3)) ∷ []) ∷ []) ((Num (pos 3)) ∷ []); missed = None; draw = None }
    ∷ record { actor = Copy; session = 6; asked = Call (requests.CopyRow (codes "t") (codes "_t_gho") map_102 ((Num (pos 2)) ∷ [])); side = None; answer = answers.Ok 1; missed = None; draw = None }
    ∷ record { actor = Copy; session = 6; asked = Call (requests.CopyRow (codes "t") (codes "_t_gho") map_102 ((Num (pos 3)) ∷ [])); side = None; answer = answers.Ok 1; missed = None; draw = None }
    ∷ record { actor = Copy; session = 6; asked = Call requests.Commit; side = None; answer = answers.Ok 0; missed = None; draw = None }
    ∷ record { actor = Copy; session = 6; asked = Call (requests.ChunkEnd (codes "t") (Open ((Num (pos 3)) ∷ [])) ((Num (pos 6)) ∷ []) 2); side = None; answer = answers.End ((Num (pos 6)) ∷ []); missed = None; draw = None }
    ∷ record { actor = Copy; session = 6; asked = Call (requests.BeginSpan (codes "t") (record { low = (Open ((Num (pos 3)) ∷ [])); high = (Closed ((Num (pos 6)) ∷ [])) }) 2); side = None; answer = answers.Keys (((Num (pos 4)) ∷ []) ∷ ((Num (pos 6)) ∷ []) ∷ []) ((Num (pos 6)) ∷ []); missed = None; draw = None }
    ∷ record { actor = Copy; session = 6; asked = Call (requests.CopyRow (codes "t") (codes "_t_gho") map_102 ((Num (pos 4)) ∷ [])); side = None; answer = answers.Ok 1; missed = None; draw = None }
    ∷ record { actor = Copy; session = 6; asked = Call (requests.CopyRow (codes "t") (codes "_t_gho") map_102 ((Num (pos 6)) ∷ [])); side = None; answer = answers.Ok 1; missed = None; draw = None }
    ∷ record { actor = Copy; session = 6; asked = Call requests.Commit; side = None; answer = answers.Ok 0; missed = None; draw = None }
    ∷ record { actor = Lock; session = 7; asked = Call (requests.Create (record { name = codes "_t_del"; columns = (record { name = codes "id"; kind = Int 4 false; nullable = false; default = None; auto = false } ∷ []); uniques = (record { name = None; places = (0 ∷ []) } ∷ []); indexes = []; comment = codes "ghost-cut-over-sentry"; start = None })); side = None; answer = answers.Ok 0; missed = None; draw = None }
    ∷ record { actor = Lock; session = 7; asked = Call (requests.LockTables (codes "t" ∷ codes "_t_del" ∷ [])); side = None; answer = answers.Ok 0; missed = None; draw = None }
    ∷ record { actor = Insp; session = 5; asked = Call (requests.Do (statements.Insert (codes "_t_ghc") None ((Num (pos 1)) ∷ (Text (codes "cut-over")) ∷ (Text (codes "1")) ∷ []) None)); side = None; answer = answers.Ok 1; missed = None; draw = None }
    ∷ record { actor = Apply; session = 8; asked = Call (requests.ReadLog 9 3 (codes "t" ∷ codes "_t_ghc" ∷ [])); side = None; answer = answers.Events (record { table = codes "_t_ghc"; change = changes.Write ((Num (pos 1)) ∷ (Text (codes "cut-over")) ∷ (Text (codes "1")) ∷ []) } ∷ []) 14; missed = None; draw = None }
    ∷ record { actor = Ren; session = 9; asked = Call (requests.Rename (record { old = codes "t"; new = codes "_t_del" } ∷ record { old = codes "_t_gho"; new = codes "t" } ∷ [])); side = None; answer = answers.Waits 7; missed = None; draw = None }
    ∷ record { actor = Insp; session = 5; asked = Call requests.ShowWaiting; side = None; answer = answers.Waiting (record { session = 9; names = (codes "t" ∷ codes "_t_del" ∷ codes "_t_gho" ∷ []); by = 7 } ∷ []); missed = None; draw = None }
    ∷ record { actor = Lock; session = 7; asked = Call (requests.Drop (codes "_t_del")); side = None; answer = answers.Ok 0; missed = None; draw = None }
    ∷ record { actor = Ren; session = 9; asked = Poll; side = None; answer = answers.Waits 7; missed = None; draw = None }
    ∷ record { actor = Lock; session = 7; asked = Call requests.Unlock; side = None; answer = answers.Ok 0; missed = None; draw = None }
    ∷ record { actor = Ren; session = 9; asked = Poll; side = None; answer = answers.Ok 0; missed = None; draw = None }
    ∷ record { actor = Insp; session = 5; asked = Call requests.ShowTables; side = None; answer = answers.Tables (record { name = codes "_t_del"; comment = [] } ∷ record { name = codes "_t_ghc"; comment = [] } ∷ record { name = codes "t"; comment = [] } ∷ []); missed = None; draw = None }
    ∷ record { actor = Insp; session = 5; asked = Call (requests.Drop (codes "_t_ghc")); side = None; answer = answers.Ok 0; missed = None; draw = None }
    ∷ []

abbrev reported_102 : WorkedFacts
reported_102 =
    record {
      verdict = verdicts.Done;
      ended = (Some (1, 1) ∷ Some (1, 2) ∷ Some (1, 3) ∷ Some (1, 4) ∷ Some (1, 5) ∷ Some (1, 6) ∷ Some (1, 7) ∷ Some (1, 8) ∷ Some (1, 9) ∷ Some (2, 1) ∷ Some (2, 2) ∷ Some (2, 3) ∷ Some (2, 4) ∷ Some (2, 5) ∷ Some (2, 6) ∷ Some (2, 7) ∷ None ∷ []);
      left = (record { schema = record { name = codes "t"; columns = (record { name = codes "id"; kind = Int 4 false; nullable = false; default = None; auto = false } ∷ record { name = codes "m"; kind = Int 4 false; nullable = true; default = (Some Null); auto = false } ∷ record { name = codes "v"; kind = Int 4 false; nullable = true; default = (Some Null); auto = false } ∷ record { name = codes "b"; kind = Int 4 false; nullable = true; default = (Some Null); auto = false } ∷ []); uniques = (record { name = None; places = (0 ∷ []) } ∷ record { name = (Some (codes "u0")); places = (1 ∷ []) } ∷ []); indexes = []; comment = []; start = None }; rows = (((Num (pos 2)) ∷ Null ∷ (Num (pos 2)) ∷ Null ∷ []) ∷ ((Num (pos 3)) ∷ Null ∷ (Num (pos 2)) ∷ Null ∷ []) ∷ ((Num (pos 4)) ∷ (Num (pos 1)) ∷ (Num (pos 5)) ∷ Null ∷ []) ∷ ((Num (pos 6)) ∷ (Num (pos 2)) ∷ Null ∷ Null ∷ []) ∷ []) } ∷ []);
      alone = (((replies.Ok 0) ∷ []) ∷ ((replies.Ok 0) ∷ []) ∷ ((replies.Ok 1) ∷ []) ∷ ((replies.Error 1062) ∷ []) ∷ ((replies.Ok 1) ∷ []) ∷ ((replies.Ok 2) ∷ []) ∷ ((replies.Ok 0) ∷ []) ∷ ((replies.Error 1062) ∷ []) ∷ ((replies.Ok 0) ∷ []) ∷ ((replies.Ok 1) ∷ []) ∷ ((replies.Ok 0) ∷ (replies.Ok 1) ∷ (replies.Ok 1) ∷ (replies.Ok 0) ∷ []) ∷ ((replies.Ok 0) ∷ []) ∷ ((replies.Ok 0) ∷ (replies.Ok 0) ∷ (replies.Ok 1) ∷ (replies.Ok 0) ∷ []) ∷ ((replies.Ok 0) ∷ []) ∷ ((replies.Ok 1) ∷ []) ∷ ((replies.Ok 0) ∷ []) ∷ [] ∷ []);
      over = replicate 58 false ++ replicate 1 true;
      bound = 17281281;
      replies = (((1, 1, (Some (replies.Ok 0))) ∷ (2, 1, (Some (replies.Ok 0))) ∷ (3, 1, (Some (replies.Ok 1))) ∷ (4, 1, (Some (replies.Error 1062))) ∷ (5, 1, (Some (replies.Ok 1))) ∷ (6, 1, (Some (replies.Ok 2))) ∷ (7, 1, (Some (replies.Ok 0))) ∷ (8, 1, (Some (replies.Error 1062))) ∷ (9, 1, (Some (replies.Ok 0))) ∷ [])) ∷ (((1, 1, (Some (replies.Ok 1))) ∷ (2, 1, (Some (replies.Ok 0))) ∷ (2, 2, (Some (replies.Ok 1))) ∷ (2, 3, (Some (replies.Ok 1))) ∷ (2, 4, (Some (replies.Ok 0))) ∷ (3, 1, (Some (replies.Ok 0))) ∷ (4, 1, (Some (replies.Ok 0))) ∷ (4, 2, (Some (replies.Ok 0))) ∷ (4, 3, (Some (replies.Ok 1))) ∷ (4, 4, (Some (replies.Ok 0))) ∷ (5, 1, (Some (replies.Ok 0))) ∷ (6, 1, (Some (replies.Ok 1))) ∷ (7, 1, (Some (replies.Ok 0))) ∷ [])) ∷ [];
    }

worked_102 : IsWorked plan_102 journal_102 reported_102
unfolding computing
worked_102 = record { asks = refl; sessions = refl; answers = refl; sides = refl; struck = refl; verdict = refl; ended = refl; order = refl; left = refl; serial = refl; alone = refl; over = refl; online = refl; bounded = refl; replies = refl }

-- Plan 103
abbrev map_103 : List MapColumn
map_103 = (record { kind = Int 4 false; nullable = false; origin = from.Old 0 } ∷ record { kind = Int 4 false; nullable = false; origin = from.Old 1 } ∷ record { kind = Int 4 false; nullable = true; origin = from.Old 2 } ∷ record { kind = Int 1 false; nullable = true; origin = from.Old 3 } ∷ record { kind = VarBinary 9; nullable = true; origin = from.Old 4 } ∷ [])

abbrev plan_103 : PlanData
plan_103 = record { table = codes "t"; alter = (clauses.Change (codes "v") (record { name = codes "v"; kind = VarBinary 9; nullable = None; default = None; auto = false }) Unsaid ∷ []); tables = (record { schema = record { name = codes "t"; columns = (record { name = codes "a"; kind = Int 4 false; nullable = false; default = None; auto = false } ∷ record { name = codes "c"; kind = Int 4 false; nullable = false; default = None; auto = false } ∷ record { name = codes "m0"; kind = Int 4 false; nullable = true; default = (Some Null); auto = false } ∷ record { name = codes "m1"; kind = Int 1 false; nullable = true; default = (Some Null); auto = false } ∷ record { name = codes "v"; kind = Int 4 false; nullable = true; default = (Some Null); auto = false } ∷ []); uniques = (record { name = None; places = (0 ∷ 1 ∷ []) } ∷ record { name = (Some (codes "u0")); places = (2 ∷ []) } ∷ record { name = (Some (codes "u1")); places = (0 ∷ 3 ∷ []) } ∷ []); indexes = []; comment = []; start = None }; rows = (((Num (pos 1)) ∷ (Num (pos 1)) ∷ (Num (pos 3)) ∷ (Num (pos 6)) ∷ Null ∷ []) ∷ ((Num (pos 2)) ∷ (Num (pos 2)) ∷ (Num (pos 7)) ∷ (Num (pos 7)) ∷ (Num (pos 2)) ∷ []) ∷ ((Num (pos 3)) ∷ (Num (pos 6)) ∷ (Num (pos 1)) ∷ (Num (pos 3)) ∷ (Num (pos 7)) ∷ []) ∷ ((Num (pos 6)) ∷ (Num (pos 6)) ∷ (Num (pos 4)) ∷ (Num (pos 6)) ∷ (Num (pos 3)) ∷ []) ∷ []) } ∷ []); clients = ((record { line = 1; word = (words.Do (statements.Select (codes "t") (shown.Columns (codes "a" ∷ [])) (conditions.Equal (record { column = codes "c"; value = (Num (pos 4)) } ∷ record { column = codes "a"; value = (Num (pos 4)) } ∷ [])))) } ∷ record { line = 2; word = (words.Do (statements.Replace (codes "t") (Some (codes "a" ∷ codes "c" ∷ codes "m0" ∷ codes "m1" ∷ codes "v" ∷ [])) ((Num (pos 5)) ∷ (Num (pos 6)) ∷ (Num (pos 4)) ∷ (Num (pos 1)) ∷ (Num (pos 4)) ∷ []) None)) } ∷ record { line = 3; word = words.Begin } ∷ record { line = 4; word = (words.Do (statements.Update (codes "t") (record { column = codes "a"; value = (Num (pos 4)) } ∷ record { column = codes "m1"; value = (Num (pos 3)) } ∷ []) (conditions.Equal (record { column = codes "m1"; value = (Num (pos 6)) } ∷ record { column = codes "a"; value = (Num (pos 6)) } ∷ [])))) } ∷ record { line = 5; word = (words.Do (statements.Select (codes "t") shown.All (conditions.Equal (record { column = codes "m0"; value = (Num (pos 5)) } ∷ [])))) } ∷ record { line = 6; word = (words.Do (statements.Delete (codes "t") (conditions.Equal (record { column = codes "c"; value = (Num (pos 7)) } ∷ record { column = codes "a"; value = (Num (pos 7)) } ∷ [])))) } ∷ record { line = 7; word = words.Commit } ∷ []) ∷ (record { line = 1; word = words.Begin } ∷ record { line = 2; word = (words.Do (statements.Delete (codes "t") (conditions.Equal (record { column = codes "a"; value = (Num (pos 1)) } ∷ record { column = codes "c"; value = (Num (pos 2)) } ∷ [])))) } ∷ record { line = 3; word = (words.Do (statements.Update (codes "t") (record { column = codes "a"; value = (Num (pos 4)) } ∷ record { column = codes "c"; value = (Num (pos 6)) } ∷ record { column = codes "m0"; value = (Num (pos 2)) } ∷ []) (conditions.Equal (record { column = codes "c"; value = (Num (pos 4)) } ∷ record { column = codes "a"; value = (Num (pos 6)) } ∷ [])))) } ∷ record { line = 4; word = (words.Do (statements.Insert (codes "t") None ((Num (pos 1)) ∷ (Num (pos 3)) ∷ (Num (pos 1)) ∷ (Num (pos 6)) ∷ Null ∷ []) None)) } ∷ record { line = 5; word = words.Commit } ∷ []) ∷ []); operator = []; faults = []; turns = (record { actor = Copy; times = 5 } ∷ record { actor = (Client 1); times = 1 } ∷ record { actor = (Client 2); times = 3 } ∷ record { actor = Apply; times = 3 } ∷ record { actor = Insp; times = 2 } ∷ record { actor = Insp; times = 2 } ∷ []); options = record { chunk_size = 1; dml_batch_size = 4; default_retries = 60; max_backlog = 100; drain_limit = 2; client_wait = 9; tool_wait = 2; max_load = 64; turn_limit = 200000; notes = 0; note_every = 100; replica_step = 0; replica_pause = 1; max_lag = 10; resume = false; approve_renamed_columns = true; initially_drop_ghost_table = false; initially_drop_old_table = false; ok_to_drop_table = false; postpone = false; show_history = true; show_turns = true; show_tables = true; show_replies = true } }

abbrev journal_103 : List Entry
journal_103 =
    record { actor = (Client 1); session = 1; asked = Call (requests.Do (statements.Select (codes "t") (shown.Columns (codes "a" ∷ [])) (conditions.Equal (record { column = codes "c"; value = (Num (pos 4)) } ∷ record { column = codes "a"; value = (Num (pos 4)) } ∷ [])))); side = None; answer = answers.Rows []; missed = None; draw = None }
    ∷ record { actor = (Client 2); session = 2; asked = Call requests.Begin; side = None; answer = answers.Ok 0; missed = None; draw = None }
    ∷ record { actor = (Client 2); session = 2; asked = Call (requests.Do (statements.Delete (codes "t") (conditions.Equal (record { column = codes "a"; value = (Num (pos 1)) } ∷ record { column = codes "c"; value = (Num (pos 2)) } ∷ [])))); side = None; answer = answers.Ok 0; missed = None; draw = None }
    ∷ record { actor = (Client 2); session = 2; asked = Call (requests.Do (statements.Update (codes "t") (record { column = codes "a"; value = (Num (pos 4)) } ∷ record { column = codes "c"; value = (Num (pos 6)) } ∷ record { column = codes "m0"; value = (Num (pos 2)) } ∷ []) (conditions.Equal (record { column = codes "c"; value = (Num (pos 4)) } ∷ record { column = codes "a"; value = (Num (pos 6)) } ∷ [])))); side = None; answer = answers.Ok 0; missed = None; draw = None }
    ∷ record { actor = Insp; session = 3; asked = Call requests.ShowTables; side = None; answer = answers.Tables (record { name = codes "t"; comment = [] } ∷ []); missed = None; draw = None }
    ∷ record { actor = Insp; session = 3; asked = Call (requests.Create (record { name = codes "_t_ghc"; columns = (record { name = codes "id"; kind = Int 8 false; nullable = false; default = None; auto = false } ∷ record { name = codes "hint"; kind = VarChar 64; nullable = false; default = None; auto = false } ∷ record { name = codes "value"; kind = VarChar 255; nullable = false; default = None; auto = false } ∷ []); uniques = (record { name = None; places = (0 ∷ []) } ∷ []); indexes = []; comment = []; start = None })); side = None; answer = answers.Ok 0; missed = None; draw = None }
    ∷ record { actor = Insp; session = 3; asked = Call (requests.Create (record { name = codes "_t_gho"; columns = (record { name = codes "a"; kind = Int 4 false; nullable = false; default = None; auto = false } ∷ record { name = codes "c"; kind = Int 4 false; nullable = false; default = None; auto = false } ∷ record { name = codes "m0"; kind = Int 4 false; nullable = true; default = (Some Null); auto = false } ∷ record { name = codes "m1"; kind = Int 1 false; nullable = true; default = (Some Null); auto = false } ∷ record { name = codes "v"; kind = VarBinary 9; nullable = true; default = (Some Null); auto = false } ∷ []); uniques = (record { name = None; places = (0 ∷ 1 ∷ []) } ∷ record { name = (Some (codes "u0")); places = (2 ∷ []) } ∷ record { name = (Some (codes "u1")); places = (0 ∷ 3 ∷ []) } ∷ []); indexes = []; comment = []; start = None })); side = None; answer = answers.Ok 0; missed = None; draw = None }
    ∷ record { actor = Insp; session = 3; asked = Call requests.LogEnd; side = None; answer = answers.At 0; missed = None; draw = None }
    ∷ record { actor = Insp; session = 3; asked = Call (requests.Ends (codes "t")); side = None; answer = answers.Ends (Some (record { least = ((Num (pos 1)) ∷ (Num (pos 1)) ∷ []); greatest = ((Num (pos 6)) ∷ (Num (pos 6)) ∷ []) })); missed = None; draw = None }
    ∷ record { actor = Copy; session = 4; asked = Call (requests.ChunkEnd (codes "t") (Closed ((Num (pos 1)) ∷ (Num (pos 1)) ∷ [])) ((Num (pos 6)) ∷ (Num (pos 6)) ∷ []) 1); side = None; answer = answers.End ((Num (pos 1)) ∷ (Num (pos 1)) ∷ []); missed = None; draw = None }
    ∷ record { actor = (Client 1); session = 1; asked = Call (requests.Do (statements.Replace (codes "t") (Some (codes "a" ∷ codes "c" ∷ codes "m0" ∷ codes "m1" ∷ codes "v" ∷ [])) ((Num (pos 5)) ∷ (Num (pos 6)) ∷ (Num (pos 4)) ∷ (Num (pos 1)) ∷ (Num (pos 4)) ∷ []) None)); side = None; answer = answers.Ok 2; missed = None; draw = None }
    ∷ record { actor = (Client 2); session = 2; asked = Call (requests.Do (statements.Insert (codes "t") None ((Num (pos 1)) ∷ (Num (pos 3)) ∷ (Num (pos 1)) ∷ (Num (pos 6)) ∷ Null ∷ []) None)); side = None; answer = answers.Refused 1062 None; missed = None; draw = None }
    ∷ record { actor = Copy; session = 4; asked = Call (requests.BeginSpan (codes "t") (record { low = (Closed ((Num (pos 1)) ∷ (Num (pos 1)) ∷ [])); high = (Closed ((Num (pos 1)) ∷ (Num (pos 1)) ∷ [])) }) 1); side = None; answer = answers.Keys (((Num (pos 1)) ∷ (Num (pos 1)) ∷ []) ∷ []) ((Num (pos 1)) ∷ (Num (pos 1)) ∷ []); missed = None; draw = None }
    ∷ record { actor = Apply; session = 5; asked = Call (requests.ReadLog 0 4 (codes "t" ∷ codes "_t_ghc" ∷ [])); side = None; answer = answers.Events (record { table = codes "t"; change = changes.Delete ((Num (pos 6)) ∷ (Num (pos 6)) ∷ (Num (pos 4)) ∷ (Num (pos 6)) ∷ (Num (pos 3)) ∷ []) } ∷ record { table = codes "t"; change = changes.Write ((Num (pos 5)) ∷ (Num (pos 6)) ∷ (Num (pos 4)) ∷ (Num (pos 1)) ∷ (Num (pos 4)) ∷ []) } ∷ []) 2; missed = None; draw = None }
    ∷ record { actor = (Client 1); session = 1; asked = Call requests.Begin; side = None; answer = answers.Ok 0; missed = None; draw = None }
    ∷ record { actor = (Client 2); session = 2; asked = Call requests.Commit; side = None; answer = answers.Ok 0; missed = None; draw = None }
    ∷ record { actor = Copy; session = 4; asked = Call (requests.CopyRow (codes "t") (codes "_t_gho") map_103 ((Num (pos 1)) ∷ (Num (pos 1)) ∷ [])); side = None; answer = answers.Ok 1; missed = None; draw = None }
    ∷ record { actor = Apply; session = 5; asked = Call requests.Begin; side = None; answer = answers.Ok 0; missed = None; draw = None }
    ∷ record { actor = (Client 1); session = 1; asked = Call (requests.Do (statements.Update (codes "t") (record { column = codes "a"; value = (Num (pos 4)) } ∷ record { column = codes "m1"; value = (Num (pos 3)) } ∷ []) (conditions.Equal (record { column = codes "m1"; value = (Num (pos 6)) } ∷ record { column = codes "a"; value = (Num (pos 6)) } ∷ [])))); side = None; answer = answers.Ok 0; missed = None; draw = None }
    ∷ record { actor = Copy; session = 4; asked = Call requests.Commit; side = None; answer = answers.Ok 0; missed = None; draw = None }
    ∷ record { actor = Apply; session = 5; asked = Call (requests.Do (statements.Delete (codes "_t_gho") (conditions.Equal (record { column = codes "a"; value = (Num (pos 6)) } ∷ record { column = codes "c"; value = (Num (pos 6)) } ∷ [])))); side = None; answer = answers.Ok 0; missed = None; draw = None }
    ∷ record { actor = (Client 1); session = 1; asked = Call (requests.Do (statements.Select (codes "t") shown.All (conditions.Equal (record { column = codes "m0"; value = (Num (pos 5)) } ∷ [])))); side = None; answer = answers.Rows []; missed = None; draw = None }
    ∷ record { actor = Copy; session = 4; asked = Call (requests.ChunkEnd (codes "t") (Open ((Num (pos 1)) ∷ (Num (pos 1)) ∷ [])) ((Num (pos 6)) ∷ (Num (pos 6)) ∷ []) 1); side = None; answer = answers.End ((Num (pos 2)) ∷ (Num (pos 2)) ∷ []); missed = None; draw = None }
    ∷ record { actor = Apply; session = 5; asked = Call (requests.Do (statements.Replace (codes "_t_gho") None ((Num (pos 5)) ∷ (Num (pos 6)) ∷ (Num (pos 4)) ∷ (Num (pos 1)) ∷ (Num (pos 4)) ∷ []) None)); side = None; answer = answers.Ok 1; missed = None; draw = None }
    ∷ record { actor = (Client 1); session = 1; asked = Call (requests.Do (statements.Delete (codes "t") (conditions.Equal (record { column = codes "c"; value = (Num (pos 7)) } ∷ record { column = codes "a"; value = (Num (pos 7)) } ∷ [])))); side = None; answer = answers.Ok 0; missed = None; draw = None }
    ∷ record { actor = Copy; session = 4; asked = Call (requests.BeginSpan (codes "t") (record { low = (Open ((Num (pos 1)) ∷ (Num (pos 1)) ∷ [])); high = (Closed ((Num (pos 2)) ∷ (Num (pos 2)) ∷ [])) }) 1); side = None; answer = answers.Keys (((Num (pos 2)) ∷ (Num (pos 2)) ∷ []) ∷ []) ((Num (pos 2)) ∷ (Num (pos 2)) ∷ []); missed = None; draw = None }
    ∷ record { actor = Apply; session = 5; asked = Call requests.Commit; side = None; answer = answers.Ok 0; missed = None; draw = None }
    ∷ record { actor = (Client 1); session = 1; asked = Call requests.Commit; side = None; answer = answers.Ok 0; missed = None; draw = None }
    ∷ record { actor = Copy; session = 4; asked = Call (requests.CopyRow (codes "t") (codes "_t_gho") map_103 ((Num (pos 2)) ∷ (Num (pos 2)) ∷ [])); side = None; answer = answers.Ok 1; missed = None; draw = None }
    ∷ record { actor = Copy; session = 4; asked = Call requests.Commit; side = None; answer = answers.Ok 0; missed = None; draw = None }
    ∷ record { actor = Copy; session = 4; asked = Call (requests.ChunkEnd (codes "t") (Open ((Num (pos 2)) ∷ (Num (pos 2)) ∷ [])) ((Num (pos 6)) ∷ (Num (pos 6)) ∷ []) 1); side = None; answer = answers.End ((Num (pos 3)) ∷ (Num (pos 6)) ∷ []); missed = None; draw = None }
    ∷ record { actor = Copy; session = 4; asked = Call (requests.BeginSpan (codes "t") (record { low = (Open ((Num (pos 2)) ∷ (Num (pos 2)) ∷ [])); high = (Closed ((Num (pos 3)) ∷ (Num (pos 6)) ∷ [])) }) 1); side = None; answer = answers.Keys (((Num (pos 3)) ∷ (Num (pos 6)) ∷ []) ∷ []) ((Num (pos 3)) ∷ (Num (pos 6)) ∷ []); missed = None; draw = None }
    ∷ record { actor = Copy; session = 4; asked = Call (requests.CopyRow (codes "t") (codes "_t_gho") map_103 ((Num (pos 3)) ∷ (Num (pos 6)) ∷ [])); side = None; answer = answers.Ok 1; missed = None; draw = None }
    ∷ record { actor = Copy; session = 4; asked = Call requests.Commit; side = None; answer = answers.Ok 0; missed = None; draw = None }
    ∷ record { actor = Copy; session = 4; asked = Call (requests.ChunkEnd (codes "t") (Open ((Num (pos 3)) ∷ (Num (pos 6)) ∷ [])) ((Num (pos 6)) ∷ (Num (pos 6)) ∷ []) 1); side = None; answer = answers.End ((Num (pos 5)) ∷ (Num (pos 6)) ∷ []); missed = None; draw = None }
    ∷ record { actor = Copy; session = 4; asked = Call (requests.BeginSpan (codes "t") (record { low = (Open ((Num (pos 3)) ∷ (Num (pos 6)) ∷ [])); high = (Closed ((Num (pos 5)) ∷ (Num (pos 6)) ∷ [])) }) 1); side = None; answer = answers.Keys (((Num (pos 5)) ∷ (Num (pos 6)) ∷ []) ∷ []) ((Num (pos 5)) ∷ (Num (pos 6)) ∷ []); missed = None; draw = None }
    ∷ record { actor = Copy; session = 4; asked = Call (requests.CopyRow (codes "t") (codes "_t_gho") map_103 ((Num (pos 5)) ∷ (Num (pos 6)) ∷ [])); side = None; answer = answers.Ok 0; missed = None; draw = None }
    ∷ record { actor = Copy; session = 4; asked = Call requests.Commit; side = None; answer = answers.Ok 0; missed = None; draw = None }
    ∷ record { actor = Copy; session = 4; asked = Call (requests.ChunkEnd (codes "t") (Open ((Num (pos 5)) ∷ (Num (pos 6)) ∷ [])) ((Num (pos 6)) ∷ (Num (pos 6)) ∷ []) 1); side = None; answer = answers.End ((Num (pos 6)) ∷ (Num (pos 6)) ∷ []); missed = None; draw = None }
    ∷ record { actor = Copy; session = 4; asked = Call (requests.BeginSpan (codes "t") (record { low = (Open ((Num (pos 5)) ∷ (Num (pos 6)) ∷ [])); high = (Closed ((Num (pos 6)) ∷ (Num (pos 6)) ∷ [])) }) 1); side = None; answer = answers.Keys [] ((Num (pos 6)) ∷ (Num (pos 6)) ∷ []); missed = None; draw = None }
    ∷ record { actor = Copy; session = 4; asked = Call requests.Commit; side = None; answer = answers.Ok 0; missed = None; draw = None }
    ∷ record { actor = Lock; session = 6; asked = Call (requests.Create (record { name = codes "_t_del"; columns = (record { name = codes "id"; kind = Int 4 false; nullable = false; default = None; auto = false } ∷ []); uniques = (record { name = None; places = (0 ∷ []) } ∷ []); indexes = []; comment = codes "ghost-cut-over-sentry"; start = None })); side = None; answer = answers.Ok 0; missed = None; draw = None }
    ∷ record { actor = Lock; session = 6; asked = Call (requests.LockTables (codes "t" ∷ codes "_t_del" ∷ [])); side = None; answer = answers.Ok 0; missed = None; draw = None }
    ∷ record { actor = Insp; session = 3; asked = Call (requests.Do (statements.Insert (codes "_t_ghc") None ((Num (pos 1)) ∷ (Text (codes "cut-over")) ∷ (Text (codes "1")) ∷ []) None)); side = None; answer = answers.Ok 1; missed = None; draw = None }
    ∷ record { actor = Apply; session = 5; asked = Call (requests.ReadLog 2 4 (codes "t" ∷ codes "_t_ghc" ∷ [])); side = None; answer = answers.Events (record { table = codes "_t_ghc"; change = changes.Write ((Num (pos 1)) ∷ (Text (codes "cut-over")) ∷ (Text (codes "1")) ∷ []) } ∷ []) 7; missed = None; draw = None }
    ∷ record { actor = Ren; session = 7; asked = Call (requests.Rename (record { old = codes "t"; new = codes "_t_del" } ∷ record { old = codes "_t_gho"; new = codes "t" } ∷ [])); side = None; answer = answers.Waits 6; missed = None; draw = None }
    ∷ record { actor = Insp; session = 3; asked = Call requests.ShowWaiting; side = None; answer = answers.Waiting (record { session = 7; names = (codes "t" ∷ codes "_t_del" ∷ codes "_t_gho" ∷ []); by = 6 } ∷ []); missed = None; draw = None }
    ∷ record { actor = Lock; session = 6; asked = Call (requests.Drop (codes "_t_del")); side = None; answer = answers.Ok 0; missed = None; draw = None }
    ∷ record { actor = Ren; session = 7; asked = Poll; side = None; answer = answers.Waits 6; missed = None; draw = None }
    ∷ record { actor = Lock; session = 6; asked = Call requests.Unlock; side = None; answer = answers.Ok 0; missed = None; draw = None }
    ∷ record { actor = Ren; session = 7; asked = Poll; side = None; answer = answers.Ok 0; missed = None; draw = None }
    ∷ record { actor = Insp; session = 3; asked = Call requests.ShowTables; side = None; answer = answers.Tables (record { name = codes "_t_del"; comment = [] } ∷ record { name = codes "_t_ghc"; comment = [] } ∷ record { name = codes "t"; comment = [] } ∷ []); missed = None; draw = None }
    ∷ record { actor = Insp; session = 3; asked = Call (requests.Drop (codes "_t_ghc")); side = None; answer = answers.Ok 0; missed = None; draw = None }
    ∷ []

abbrev reported_103 : WorkedFacts
reported_103 =
    record {
      verdict = verdicts.Done;
      ended = (Some (1, 1) ∷ Some (1, 2) ∷ Some (2, 1) ∷ Some (1, 3) ∷ None ∷ []);
      left = (record { schema = record { name = codes "t"; columns = (record { name = codes "a"; kind = Int 4 false; nullable = false; default = None; auto = false } ∷ record { name = codes "c"; kind = Int 4 false; nullable = false; default = None; auto = false } ∷ record { name = codes "m0"; kind = Int 4 false; nullable = true; default = (Some Null); auto = false } ∷ record { name = codes "m1"; kind = Int 1 false; nullable = true; default = (Some Null); auto = false } ∷ record { name = codes "v"; kind = VarBinary 9; nullable = true; default = (Some Null); auto = false } ∷ []); uniques = (record { name = None; places = (0 ∷ 1 ∷ []) } ∷ record { name = (Some (codes "u0")); places = (2 ∷ []) } ∷ record { name = (Some (codes "u1")); places = (0 ∷ 3 ∷ []) } ∷ []); indexes = []; comment = []; start = None }; rows = (((Num (pos 1)) ∷ (Num (pos 1)) ∷ (Num (pos 3)) ∷ (Num (pos 6)) ∷ Null ∷ []) ∷ ((Num (pos 2)) ∷ (Num (pos 2)) ∷ (Num (pos 7)) ∷ (Num (pos 7)) ∷ (Blob (50 ∷ [])) ∷ []) ∷ ((Num (pos 3)) ∷ (Num (pos 6)) ∷ (Num (pos 1)) ∷ (Num (pos 3)) ∷ (Blob (55 ∷ [])) ∷ []) ∷ ((Num (pos 5)) ∷ (Num (pos 6)) ∷ (Num (pos 4)) ∷ (Num (pos 1)) ∷ (Blob (52 ∷ [])) ∷ []) ∷ []) } ∷ []);
      alone = (((replies.Rows []) ∷ []) ∷ ((replies.Ok 2) ∷ []) ∷ ((replies.Ok 0) ∷ (replies.Ok 0) ∷ (replies.Ok 0) ∷ (replies.Error 1062) ∷ (replies.Ok 0) ∷ []) ∷ ((replies.Ok 0) ∷ (replies.Ok 0) ∷ (replies.Rows []) ∷ (replies.Ok 0) ∷ (replies.Ok 0) ∷ []) ∷ [] ∷ []);
      over = replicate 52 false ++ replicate 1 true;
      bound = 1813273;
      replies = (((1, 1, (Some (replies.Rows []))) ∷ (2, 1, (Some (replies.Ok 2))) ∷ (3, 1, (Some (replies.Ok 0))) ∷ (3, 2, (Some (replies.Ok 0))) ∷ (3, 3, (Some (replies.Rows []))) ∷ (3, 4, (Some (replies.Ok 0))) ∷ (3, 5, (Some (replies.Ok 0))) ∷ [])) ∷ (((1, 1, (Some (replies.Ok 0))) ∷ (1, 2, (Some (replies.Ok 0))) ∷ (1, 3, (Some (replies.Ok 0))) ∷ (1, 4, (Some (replies.Error 1062))) ∷ (1, 5, (Some (replies.Ok 0))) ∷ [])) ∷ [];
    }

worked_103 : IsWorked plan_103 journal_103 reported_103
unfolding computing
worked_103 = record { asks = refl; sessions = refl; answers = refl; sides = refl; struck = refl; verdict = refl; ended = refl; order = refl; left = refl; serial = refl; alone = refl; over = refl; online = refl; bounded = refl; replies = refl }

-- Plan 104
abbrev map_104 : List MapColumn
map_104 = (record { kind = Int 1 false; nullable = true; origin = from.Old 0 } ∷ record { kind = Int 4 false; nullable = false; origin = from.Old 2 } ∷ [])

abbrev plan_104 : PlanData
plan_104 = record { table = codes "t"; alter = (clauses.Drop (codes "v") ∷ []); tables = (record { schema = record { name = codes "t"; columns = (record { name = codes "m0"; kind = Int 1 false; nullable = true; default = (Some Null); auto = false } ∷ record { name = codes "v"; kind = Int 4 false; nullable = true; default = (Some Null); auto = false } ∷ record { name = codes "id"; kind = Int 4 false; nullable = false; default = None; auto = false } ∷ []); uniques = (record { name = None; places = (2 ∷ []) } ∷ record { name = (Some (codes "u0")); places = (2 ∷ 0 ∷ []) } ∷ []); indexes = []; comment = []; start = None }; rows = (((Num (pos 4)) ∷ (Num (pos 3)) ∷ (Num (pos 1)) ∷ []) ∷ (Null ∷ (Num (pos 2)) ∷ (Num (pos 2)) ∷ []) ∷ (Null ∷ (Num (pos 99999)) ∷ (Num (pos 5)) ∷ []) ∷ []) } ∷ []); clients = ([] ∷ []); operator = []; faults = []; turns = (record { actor = Ren; times = 1 } ∷ record { actor = Lock; times = 1 } ∷ record { actor = Ren; times = 1 } ∷ record { actor = Insp; times = 2 } ∷ record { actor = Insp; times = 2 } ∷ record { actor = (Client 1); times = 1 } ∷ record { actor = Lock; times = 3 } ∷ record { actor = (Client 1); times = 3 } ∷ record { actor = Lock; times = 1 } ∷ record { actor = Insp; times = 3 } ∷ record { actor = Copy; times = 3 } ∷ record { actor = Apply; times = 1 } ∷ record { actor = (Client 1); times = 3 } ∷ record { actor = Copy; times = 2 } ∷ record { actor = Insp; times = 1 } ∷ record { actor = Ren; times = 1 } ∷ record { actor = Lock; times = 1 } ∷ record { actor = Apply; times = 1 } ∷ []); options = record { chunk_size = 2; dml_batch_size = 10; default_retries = 60; max_backlog = 1; drain_limit = 2000; client_wait = 5; tool_wait = 5; max_load = 64; turn_limit = 200000; notes = 0; note_every = 100; replica_step = 0; replica_pause = 1; max_lag = 10; resume = false; approve_renamed_columns = true; initially_drop_ghost_table = false; initially_drop_old_table = false; ok_to_drop_table = true; postpone = false; show_history = true; show_turns = true; show_tables = true; show_replies = true } }

abbrev journal_104 : List Entry
journal_104 =
    record { actor = Insp; session = 1; asked = Call requests.ShowTables; side = None; answer = answers.Tables (record { name = codes "t"; comment = [] } ∷ []); missed = None; draw = None }
    ∷ record { actor = Insp; session = 1; asked = Call (requests.Create (record { name = codes "_t_ghc"; columns = (record { name = codes "id"; kind = Int 8 false; nullable = false; default = None; auto = false } ∷ record { name = codes "hint"; kind = VarChar 64; nullable = false; default = None; auto = false } ∷ record { name = codes "value"; kind = VarChar 255; nullable = false; default = None; auto = false } ∷ []); uniques = (record { name = None; places = (0 ∷ []) } ∷ []); indexes = []; comment = []; start = None })); side = None; answer = answers.Ok 0; missed = None; draw = None }
    ∷ record { actor = Insp; session = 1; asked = Call (requests.Create (record { name = codes "_t_gho"; columns = (record { name = codes "m0"; kind = Int 1 false; nullable = true; default = (Some Null); auto = false } ∷ record { name = codes "id"; kind = Int 4 false; nullable = false; default = None; auto = false } ∷ []); uniques = (record { name = None; places = (1 ∷ []) } ∷ record { name = (Some (codes "u0")); places = (1 ∷ 0 ∷ []) } ∷ []); indexes = []; comment = []; start = None })); side = None; answer = answers.Ok 0; missed = None; draw = None }
    ∷ record { actor = Insp; session = 1; asked = Call requests.LogEnd; side = None; answer = answers.At 0; missed = None; draw = None }
    ∷ record { actor = Insp; session = 1; asked = Call (requests.Ends (codes "t")); side = None; answer = answers.Ends (Some (record { least = ((Num (pos 1)) ∷ []); greatest = ((Num (pos 5)) ∷ []) })); missed = None; draw = None }
    ∷ record { actor = Copy; session = 2; asked = Call (requests.ChunkEnd (codes "t") (Closed ((Num (pos 1)) ∷ [])) ((Num (pos 5)) ∷ []) 2); side = None; answer = answers.End ((Num (pos 2)) ∷ []); missed = None; draw = None }
    ∷ record { actor = Copy; session = 2; asked = Call (requests.BeginSpan (codes "t") (record { low = (Closed ((Num (pos 1)) ∷ [])); high = (Closed ((Num (pos 2)) ∷ [])) }) 2); side = None; answer = answers.Keys (((Num (pos 1)) ∷ []) ∷ ((Num (pos 2)) ∷ []) ∷ []) ((Num (pos 2)) ∷ []); missed = None; draw = None }
    ∷ record { actor = Copy; session = 2; asked = Call (requests.CopyRow (codes "t") (codes "_t_gho") map_104 ((Num (pos 1)) ∷ [])); side = None; answer = answers.Ok 1; missed = None; draw = None }
    ∷ record { actor = Copy; session = 2; asked = Call (requests.CopyRow (codes "t") (codes "_t_gho") map_104 ((Num (pos 2)) ∷ [])); side = None; answer = answers.Ok 1; missed = None; draw = None }
    ∷ record { actor = Copy; session = 2; asked = Call requests.Commit; side = None; answer = answers.Ok 0; missed = None; draw = None }
    ∷ record { actor = Copy; session = 2; asked = Call (requests.ChunkEnd (codes "t") (Open ((Num (pos 2)) ∷ [])) ((Num (pos 5)) ∷ []) 2); side = None; answer = answers.End ((Num (pos 5)) ∷ []); missed = None; draw = None }
    ∷ record { actor = Copy; session = 2; asked = Call (requests.BeginSpan (codes "t") (record { low = (Open ((Num (pos 2)) ∷ [])); high = (Closed ((Num (pos 5)) ∷ [])) }) 2); side = None; answer = answers.Keys (((Num (pos 5)) ∷ []) ∷ []) ((Num (pos 5)) ∷ []); missed = None; draw = None }
    ∷ record { actor = Copy; session = 2; asked = Call (requests.CopyRow (codes "t") (codes "_t_gho") map_104 ((Num (pos 5)) ∷ [])); side = None; answer = answers.Ok 1; missed = None; draw = None }
    ∷ record { actor = Copy; session = 2; asked = Call requests.Commit; side = None; answer = answers.Ok 0; missed = None; draw = None }
    ∷ record { actor = Lock; session = 3; asked = Call (requests.Create (record { name = codes "_t_del"; columns = (record { name = codes "id"; kind = Int 4 false; nullable = false; default = None; auto = false } ∷ []); uniques = (record { name = None; places = (0 ∷ []) } ∷ []); indexes = []; comment = codes "ghost-cut-over-sentry"; start = None })); side = None; answer = answers.Ok 0; missed = None; draw = None }
    ∷ record { actor = Lock; session = 3; asked = Call (requests.LockTables (codes "t" ∷ codes "_t_del" ∷ [])); side = None; answer = answers.Ok 0; missed = None; draw = None }
    ∷ record { actor = Insp; session = 1; asked = Call (requests.Do (statements.Insert (codes "_t_ghc") None ((Num (pos 1)) ∷ (Text (codes "cut-over")) ∷ (Text (codes "1")) ∷ []) None)); side = None; answer = answers.Ok 1; missed = None; draw = None }
    ∷ record { actor = Apply; session = 4; asked = Call (requests.ReadLog 0 10 (codes "t" ∷ codes "_t_ghc" ∷ [])); side = None; answer = answers.Events (record { table = codes "_t_ghc"; change = changes.Write ((Num (pos 1)) ∷ (Text (codes "cut-over")) ∷ (Text (codes "1")) ∷ []) } ∷ []) 4; missed = None; draw = None }
    ∷ record { actor = Ren; session = 5; asked = Call (requests.Rename (record { old = codes "t"; new = codes "_t_del" } ∷ record { old = codes "_t_gho"; new = codes "t" } ∷ [])); side = None; answer = answers.Waits 3; missed = None; draw = None }
    ∷ record { actor = Insp; session = 1; asked = Call requests.ShowWaiting; side = None; answer = answers.Waiting (record { session = 5; names = (codes "t" ∷ codes "_t_del" ∷ codes "_t_gho" ∷ []); by = 3 } ∷ []); missed = None; draw = None }
    ∷ record { actor = Lock; session = 3; asked = Call (requests.Drop (codes "_t_del")); side = None; answer = answers.Ok 0; missed = None; draw = None }
    ∷ record { actor = Ren; session = 5; asked = Poll; side = None; answer = answers.Waits 3; missed = None; draw = None }
    ∷ record { actor = Lock; session = 3; asked = Call requests.Unlock; side = None; answer = answers.Ok 0; missed = None; draw = None }
    ∷ record { actor = Ren; session = 5; asked = Poll; side = None; answer = answers.Ok 0; missed = None; draw = None }
    ∷ record { actor = Insp; session = 1; asked = Call requests.ShowTables; side = None; answer = answers.Tables (record { name = codes "_t_del"; comment = [] } ∷ record { name = codes "_t_ghc"; comment = [] } ∷ record { name = codes "t"; comment = [] } ∷ []); missed = None; draw = None }
    ∷ record { actor = Insp; session = 1; asked = Call (requests.Drop (codes "_t_ghc")); side = None; answer = answers.Ok 0; missed = None; draw = None }
    ∷ record { actor = Insp; session = 1; asked = Call (requests.Drop (codes "_t_del")); side = None; answer = answers.Ok 0; missed = None; draw = None }
    ∷ []

abbrev reported_104 : WorkedFacts
reported_104 =
    record {
      verdict = verdicts.Done;
      ended = (None ∷ []);
      left = (record { schema = record { name = codes "t"; columns = (record { name = codes "m0"; kind = Int 1 false; nullable = true; default = (Some Null); auto = false } ∷ record { name = codes "id"; kind = Int 4 false; nullable = false; default = None; auto = false } ∷ []); uniques = (record { name = None; places = (1 ∷ []) } ∷ record { name = (Some (codes "u0")); places = (1 ∷ 0 ∷ []) } ∷ []); indexes = []; comment = []; start = None }; rows = (((Num (pos 4)) ∷ (Num (pos 1)) ∷ []) ∷ (Null ∷ (Num (pos 2)) ∷ []) ∷ (Null ∷ (Num (pos 5)) ∷ []) ∷ []) } ∷ []);
      alone = ([] ∷ []);
      over = replicate 26 false ++ replicate 1 true;
      bound = 666253;
      replies = ([]) ∷ [];
    }

worked_104 : IsWorked plan_104 journal_104 reported_104
unfolding computing
worked_104 = record { asks = refl; sessions = refl; answers = refl; sides = refl; struck = refl; verdict = refl; ended = refl; order = refl; left = refl; serial = refl; alone = refl; over = refl; online = refl; bounded = refl; replies = refl }

-- Plan 105
abbrev map_105 : List MapColumn
map_105 = (record { kind = Int 4 false; nullable = false; origin = from.Old 0 } ∷ record { kind = VarChar 6; nullable = true; origin = from.Old 1 } ∷ record { kind = Int 4 false; nullable = false; origin = from.Added (Num (pos 7)) } ∷ [])

abbrev plan_105 : PlanData
plan_105 = record { table = codes "t"; alter = (clauses.Add (record { name = codes "b"; kind = Int 4 false; nullable = (Some false); default = (Some (Num (pos 7))); auto = false }) Unsaid ∷ []); tables = (record { schema = record { name = codes "t"; columns = (record { name = codes "id"; kind = Int 4 false; nullable = false; default = None; auto = false } ∷ record { name = codes "v"; kind = VarChar 6; nullable = true; default = (Some (Text (codes "5"))); auto = false } ∷ []); uniques = (record { name = None; places = (0 ∷ []) } ∷ []); indexes = []; comment = []; start = None }; rows = [] } ∷ []); clients = ([] ∷ (record { line = 1; word = (words.Do (statements.Select (codes "t") (shown.Columns (codes "id" ∷ [])) (conditions.Equal (record { column = codes "id"; value = (Num (pos 5)) } ∷ [])))) } ∷ record { line = 2; word = (words.Do (statements.Delete (codes "t") (conditions.Equal (record { column = codes "id"; value = (Num (pos 3)) } ∷ [])))) } ∷ record { line = 3; word = words.Begin } ∷ record { line = 4; word = words.Rollback } ∷ record { line = 5; word = (words.Do (statements.Delete (codes "t") (conditions.Equal (record { column = codes "id"; value = (Num (pos 99999999999)) } ∷ [])))) } ∷ record { line = 6; word = (words.Do (statements.Select (codes "t") shown.Count (conditions.Equal (record { column = codes "id"; value = (Num (pos 6)) } ∷ [])))) } ∷ record { line = 7; word = words.Begin } ∷ record { line = 8; word = (words.Do (statements.Replace (codes "t") None ((Num (pos 3)) ∷ (Text (codes "b")) ∷ []) None)) } ∷ record { line = 9; word = (words.Do (statements.Insert (codes "t") (Some (codes "id" ∷ codes "v" ∷ [])) ((Num (pos 5)) ∷ (Num (pos 4)) ∷ []) None)) } ∷ record { line = 10; word = words.Rollback } ∷ []) ∷ (record { line = 1; word = words.Begin } ∷ record { line = 2; word = (words.Do (statements.Update (codes "t") (record { column = codes "v"; value = (Text (codes "c")) } ∷ []) conditions.All)) } ∷ record { line = 3; word = words.Commit } ∷ []) ∷ []); operator = (record { word = commanded.Throttle; units = 1 } ∷ record { word = commanded.Wait; units = 3 } ∷ record { word = (commanded.ChunkSize 1); units = 1 } ∷ record { word = commanded.Panic; units = 1 } ∷ record { word = commanded.Unpostpone; units = 1 } ∷ record { word = commanded.Unpostpone; units = 1 } ∷ record { word = commanded.NoThrottle; units = 1 } ∷ []); faults = (losses.Turn 24 Copy ∷ []); turns = (record { actor = Insp; times = 5 } ∷ record { actor = (Client 1); times = 1 } ∷ record { actor = (Client 3); times = 2 } ∷ record { actor = (Client 2); times = 3 } ∷ record { actor = Copy; times = 2 } ∷ record { actor = Insp; times = 5 } ∷ record { actor = Op; times = 3 } ∷ record { actor = (Client 2); times = 3 } ∷ record { actor = Copy; times = 5 } ∷ record { actor = Apply; times = 5 } ∷ record { actor = Insp; times = 1 } ∷ record { actor = (Client 3); times = 3 } ∷ record { actor = Copy; times = 5 } ∷ record { actor = Insp; times = 2 } ∷ record { actor = (Client 2); times = 2 } ∷ record { actor = (Client 3); times = 1 } ∷ record { actor = Ren; times = 3 } ∷ record { actor = (Client 2); times = 1 } ∷ record { actor = Copy; times = 2 } ∷ record { actor = (Client 3); times = 1 } ∷ record { actor = (Client 3); times = 1 } ∷ record { actor = Lock; times = 2 } ∷ record { actor = Op; times = 1 } ∷ record { actor = Op; times = 1 } ∷ record { actor = Op; times = 1 } ∷ record { actor = (Client 2); times = 1 } ∷ record { actor = (Client 1); times = 2 } ∷ record { actor = (Client 2); times = 2 } ∷ record { actor = (Client 3); times = 1 } ∷ record { actor = Op; times = 1 } ∷ record { actor = Insp; times = 1 } ∷ record { actor = Copy; times = 1 } ∷ record { actor = (Client 1); times = 2 } ∷ record { actor = (Client 2); times = 2 } ∷ record { actor = Ren; times = 5 } ∷ record { actor = (Client 1); times = 5 } ∷ record { actor = Op; times = 5 } ∷ record { actor = Op; times = 3 } ∷ record { actor = Insp; times = 1 } ∷ record { actor = (Client 2); times = 1 } ∷ record { actor = (Client 2); times = 2 } ∷ record { actor = (Client 2); times = 1 } ∷ record { actor = (Client 2); times = 1 } ∷ []); options = record { chunk_size = 1; dml_batch_size = 10; default_retries = 5; max_backlog = 100; drain_limit = 2000; client_wait = 30; tool_wait = 2; max_load = 64; turn_limit = 200000; notes = 0; note_every = 100; replica_step = 0; replica_pause = 1; max_lag = 10; resume = false; approve_renamed_columns = true; initially_drop_ghost_table = false; initially_drop_old_table = false; ok_to_drop_table = true; postpone = false; show_history = true; show_turns = true; show_tables = true; show_replies = true } }

abbrev journal_105 : List Entry
journal_105 =
    record { actor = Insp; session = 1; asked = Call requests.ShowTables; side = None; answer = answers.Tables (record { name = codes "t"; comment = [] } ∷ []); missed = None; draw = None }
    ∷ record { actor = Insp; session = 1; asked = Call (requests.Create (record { name = codes "_t_ghc"; columns = (record { name = codes "id"; kind = Int 8 false; nullable = false; default = None; auto = false } ∷ record { name = codes "hint"; kind = VarChar 64; nullable = false; default = None; auto = false } ∷ record { name = codes "value"; kind = VarChar 255; nullable = false; default = None; auto = false } ∷ []); uniques = (record { name = None; places = (0 ∷ []) } ∷ []); indexes = []; comment = []; start = None })); side = None; answer = answers.Ok 0; missed = None; draw = None }
    ∷ record { actor = Insp; session = 1; asked = Call (requests.Create (record { name = codes "_t_gho"; columns = (record { name = codes "id"; kind = Int 4 false; nullable = false; default = None; auto = false } ∷ record { name = codes "v"; kind = VarChar 6; nullable = true; default = (Some (Text (codes "5"))); auto = false } ∷ record { name = codes "b"; kind = Int 4 false; nullable = false; default = (Some (Num (pos 7))); auto = false } ∷ []); uniques = (record { name = None; places = (0 ∷ []) } ∷ []); indexes = []; comment = []; start = None })); side = None; answer = answers.Ok 0; missed = None; draw = None }
    ∷ record { actor = Insp; session = 1; asked = Call requests.LogEnd; side = None; answer = answers.At 0; missed = None; draw = None }
    ∷ record { actor = Insp; session = 1; asked = Call (requests.Ends (codes "t")); side = None; answer = answers.Ends None; missed = None; draw = None }
    ∷ record { actor = (Client 3); session = 2; asked = Call requests.Begin; side = None; answer = answers.Ok 0; missed = None; draw = None }
    ∷ record { actor = (Client 3); session = 2; asked = Call (requests.Do (statements.Update (codes "t") (record { column = codes "v"; value = (Text (codes "c")) } ∷ []) conditions.All)); side = None; answer = answers.Ok 0; missed = None; draw = None }
    ∷ record { actor = (Client 2); session = 3; asked = Call (requests.Do (statements.Select (codes "t") (shown.Columns (codes "id" ∷ [])) (conditions.Equal (record { column = codes "id"; value = (Num (pos 5)) } ∷ [])))); side = None; answer = answers.Waits 2; missed = None; draw = None }
    ∷ record { actor = (Client 2); session = 3; asked = Poll; side = None; answer = answers.Waits 2; missed = None; draw = None }
    ∷ record { actor = (Client 2); session = 3; asked = Poll; side = None; answer = answers.Waits 2; missed = None; draw = None }
    ∷ record { actor = Op; session = 0; asked = Command commanded.Throttle; side = None; answer = answers.Ok 0; missed = None; draw = None }
    ∷ record { actor = Op; session = 0; asked = Command commanded.Wait; side = None; answer = answers.Ok 0; missed = None; draw = None }
    ∷ record { actor = Op; session = 0; asked = Command commanded.Wait; side = None; answer = answers.Ok 0; missed = None; draw = None }
    ∷ record { actor = (Client 2); session = 3; asked = Poll; side = None; answer = answers.Waits 2; missed = None; draw = None }
    ∷ record { actor = (Client 2); session = 3; asked = Poll; side = None; answer = answers.Waits 2; missed = None; draw = None }
    ∷ record { actor = (Client 2); session = 3; asked = Poll; side = None; answer = answers.Waits 2; missed = None; draw = None }
    ∷ record { actor = (Client 3); session = 2; asked = Call requests.Commit; side = None; answer = answers.Ok 0; missed = None; draw = None }
    ∷ record { actor = (Client 2); session = 3; asked = Poll; side = None; answer = answers.Rows []; missed = None; draw = None }
    ∷ record { actor = (Client 2); session = 3; asked = Call (requests.Do (statements.Delete (codes "t") (conditions.Equal (record { column = codes "id"; value = (Num (pos 3)) } ∷ [])))); side = None; answer = answers.Ok 0; missed = None; draw = None }
    ∷ record { actor = (Client 2); session = 3; asked = Call requests.Begin; side = None; answer = answers.Ok 0; missed = None; draw = None }
    ∷ record { actor = Op; session = 0; asked = Command commanded.Wait; side = None; answer = answers.Ok 0; missed = None; draw = None }
    ∷ record { actor = Op; session = 0; asked = Command (commanded.ChunkSize 1); side = None; answer = answers.Ok 0; missed = None; draw = None }
    ∷ record { actor = Op; session = 0; asked = Command commanded.Panic; side = None; answer = answers.Ok 0; missed = None; draw = None }
    ∷ record { actor = (Client 2); session = 3; asked = Call requests.Rollback; side = None; answer = answers.Ok 0; missed = None; draw = None }
    ∷ record { actor = (Client 2); session = 3; asked = Call (requests.Do (statements.Delete (codes "t") (conditions.Equal (record { column = codes "id"; value = (Num (pos 99999999999)) } ∷ [])))); side = None; answer = answers.Ok 0; missed = None; draw = None }
    ∷ record { actor = (Client 2); session = 3; asked = Call (requests.Do (statements.Select (codes "t") shown.Count (conditions.Equal (record { column = codes "id"; value = (Num (pos 6)) } ∷ [])))); side = None; answer = answers.Rows (((Num (pos 0)) ∷ []) ∷ []); missed = None; draw = None }
    ∷ record { actor = Op; session = 0; asked = Command commanded.Unpostpone; side = None; answer = answers.Ok 0; missed = None; draw = None }
    ∷ record { actor = (Client 2); session = 3; asked = Call requests.Begin; side = None; answer = answers.Ok 0; missed = None; draw = None }
    ∷ record { actor = (Client 2); session = 3; asked = Call (requests.Do (statements.Replace (codes "t") None ((Num (pos 3)) ∷ (Text (codes "b")) ∷ []) None)); side = None; answer = answers.Ok 1; missed = None; draw = None }
    ∷ record { actor = Op; session = 0; asked = Command commanded.Unpostpone; side = None; answer = answers.Ok 0; missed = None; draw = None }
    ∷ record { actor = Op; session = 0; asked = Command commanded.NoThrottle; side = None; answer = answers.Ok 0; missed = None; draw = None }
    ∷ record { actor = (Client 2); session = 3; asked = Call (requests.Do (statements.Insert (codes "t") (Some (codes "id" ∷ codes "v" ∷ [])) ((Num (pos 5)) ∷ (Num (pos 4)) ∷ []) None)); side = None; answer = answers.Ok 1; missed = None; draw = None }
    ∷ record { actor = (Client 2); session = 3; asked = Call requests.Rollback; side = None; answer = answers.Ok 0; missed = None; draw = None }
    ∷ []

abbrev reported_105 : WorkedFacts
reported_105 =
    record {
      verdict = verdicts.Reverted (causes.Panic 23);
      ended = (Some (3, 1) ∷ Some (2, 1) ∷ Some (2, 2) ∷ Some (2, 3) ∷ Some (2, 4) ∷ Some (2, 5) ∷ Some (2, 6) ∷ []);
      left = (record { schema = record { name = codes "t"; columns = (record { name = codes "id"; kind = Int 4 false; nullable = false; default = None; auto = false } ∷ record { name = codes "v"; kind = VarChar 6; nullable = true; default = (Some (Text (codes "5"))); auto = false } ∷ []); uniques = (record { name = None; places = (0 ∷ []) } ∷ []); indexes = []; comment = []; start = None }; rows = [] } ∷ []);
      alone = (((replies.Ok 0) ∷ (replies.Ok 0) ∷ (replies.Ok 0) ∷ []) ∷ ((replies.Rows []) ∷ []) ∷ ((replies.Ok 0) ∷ []) ∷ ((replies.Ok 0) ∷ (replies.Ok 0) ∷ []) ∷ ((replies.Ok 0) ∷ []) ∷ ((replies.Rows (((Num (pos 0)) ∷ []) ∷ [])) ∷ []) ∷ ((replies.Ok 0) ∷ (replies.Ok 1) ∷ (replies.Ok 1) ∷ (replies.Ok 0) ∷ []) ∷ []);
      over = replicate 22 false ++ replicate 11 true;
      bound = 198964;
      replies = ([]) ∷ (((1, 1, (Some (replies.Rows []))) ∷ (2, 1, (Some (replies.Ok 0))) ∷ (3, 1, (Some (replies.Ok 0))) ∷ (3, 2, (Some (replies.Ok 0))) ∷ (4, 1, (Some (replies.Ok 0))) ∷ (5, 1, (Some (replies.Rows (((Num (pos 0)) ∷ []) ∷ [])))) ∷ (6, 1, (Some (replies.Ok 0))) ∷ (6, 2, (Some (replies.Ok 1))) ∷ (6, 3, (Some (replies.Ok 1))) ∷ (6, 4, (Some (replies.Ok 0))) ∷ [])) ∷ (((1, 1, (Some (replies.Ok 0))) ∷ (1, 2, (Some (replies.Ok 0))) ∷ (1, 3, (Some (replies.Ok 0))) ∷ [])) ∷ [];
    }

worked_105 : IsWorked plan_105 journal_105 reported_105
unfolding computing
worked_105 = record { asks = refl; sessions = refl; answers = refl; sides = refl; struck = refl; verdict = refl; ended = refl; order = refl; left = refl; serial = refl; alone = refl; over = refl; online = refl; bounded = refl; replies = refl }

-- Plan 106
abbrev map_106 : List MapColumn
map_106 = (record { kind = Int 4 false; nullable = false; origin = from.Old 0 } ∷ record { kind = Int 4 false; nullable = false; origin = from.Old 1 } ∷ record { kind = Int 4 false; nullable = true; origin = from.Added Null } ∷ [])

abbrev plan_106 : PlanData
plan_106 = record { table = codes "t"; alter = (clauses.Add (record { name = codes "b"; kind = Int 4 false; nullable = None; default = None; auto = false }) Unsaid ∷ []); tables = (record { schema = record { name = codes "t"; columns = (record { name = codes "a"; kind = Int 4 false; nullable = false; default = None; auto = false } ∷ record { name = codes "c"; kind = Int 4 false; nullable = false; default = None; auto = false } ∷ []); uniques = (record { name = None; places = (1 ∷ 0 ∷ []) } ∷ []); indexes = []; comment = []; start = None }; rows = (((Num (pos 7)) ∷ (Num (pos 5)) ∷ []) ∷ []) } ∷ []); clients = ((record { line = 1; word = words.Begin } ∷ record { line = 2; word = words.Commit } ∷ record { line = 3; word = words.Begin } ∷ record { line = 4; word = (words.Do (statements.Delete (codes "t") (conditions.Equal (record { column = codes "a"; value = (Num (pos 2)) } ∷ record { column = codes "c"; value = (Num (pos 4)) } ∷ [])))) } ∷ record { line = 5; word = words.Commit } ∷ []) ∷ []); operator = (record { word = (commanded.ChunkSize 1); units = 1 } ∷ record { word = commanded.Wait; units = 4 } ∷ record { word = commanded.Wait; units = 5 } ∷ record { word = commanded.Wait; units = 24 } ∷ []); faults = []; turns = (record { actor = Insp; times = 7 } ∷ record { actor = Copy; times = 3 } ∷ record { actor = (Client 1); times = 1 } ∷ record { actor = Copy; times = 1 } ∷ record { actor = Op; times = 2 } ∷ record { actor = Insp; times = 1 } ∷ record { actor = Copy; times = 1 } ∷ record { actor = Copy; times = 1 } ∷ record { actor = Op; times = 1 } ∷ record { actor = Insp; times = 3 } ∷ record { actor = Op; times = 1 } ∷ record { actor = Op; times = 1 } ∷ record { actor = Insp; times = 1 } ∷ record { actor = (Client 1); times = 2 } ∷ record { actor = Insp; times = 2 } ∷ record { actor = Ren; times = 3 } ∷ record { actor = Copy; times = 1 } ∷ record { actor = Apply; times = 1 } ∷ record { actor = (Client 1); times = 1 } ∷ record { actor = Apply; times = 1 } ∷ record { actor = Lock; times = 1 } ∷ record { actor = Apply; times = 5 } ∷ record { actor = Copy; times = 1 } ∷ record { actor = Ren; times = 1 } ∷ record { actor = Insp; times = 3 } ∷ record { actor = Copy; times = 5 } ∷ record { actor = Op; times = 3 } ∷ record { actor = Apply; times = 5 } ∷ record { actor = (Client 1); times = 1 } ∷ record { actor = Insp; times = 1 } ∷ record { actor = (Client 1); times = 1 } ∷ record { actor = Ren; times = 1 } ∷ record { actor = Insp; times = 1 } ∷ record { actor = (Client 1); times = 3 } ∷ record { actor = Ren; times = 1 } ∷ record { actor = Ren; times = 3 } ∷ record { actor = Lock; times = 1 } ∷ record { actor = Apply; times = 1 } ∷ record { actor = Copy; times = 5 } ∷ record { actor = Lock; times = 1 } ∷ record { actor = Ren; times = 1 } ∷ record { actor = Ren; times = 1 } ∷ record { actor = Lock; times = 3 } ∷ record { actor = Insp; times = 2 } ∷ record { actor = Apply; times = 2 } ∷ record { actor = Insp; times = 3 } ∷ record { actor = Apply; times = 1 } ∷ []); options = record { chunk_size = 2; dml_batch_size = 2; default_retries = 5; max_backlog = 2; drain_limit = 2000; client_wait = 2; tool_wait = 3; max_load = 64; turn_limit = 200000; notes = 0; note_every = 100; replica_step = 0; replica_pause = 1; max_lag = 10; resume = false; approve_renamed_columns = true; initially_drop_ghost_table = false; initially_drop_old_table = false; ok_to_drop_table = false; postpone = false; show_history = true; show_turns = true; show_tables = true; show_replies = true } }

abbrev journal_106 : List Entry
journal_106 =
    record { actor = Insp; session = 1; asked = Call requests.ShowTables; side = None; answer = answers.Tables (record { name = codes "t"; comment = [] } ∷ []); missed = None; draw = None }
    ∷ record { actor = Insp; session = 1; asked = Call (requests.Create (record { name = codes "_t_ghc"; columns = (record { name = codes "id"; kind = Int 8 false; nullable = false; default = None; auto = false } ∷ record { name = codes "hint"; kind = VarChar 64; nullable = false; default = None; auto = false } ∷ record { name = codes "value"; kind = VarChar 255; nullable = false; default = None; auto = false } ∷ []); uniques = (record { name = None; places = (0 ∷ []) } ∷ []); indexes = []; comment = []; start = None })); side = None; answer = answers.Ok 0; missed = None; draw = None }
    ∷ record { actor = Insp; session = 1; asked = Call (requests.Create (record { name = codes "_t_gho"; columns = (record { name = codes "a"; kind = Int 4 false; nullable = false; default = None; auto = false } ∷ record { name = codes "c"; kind = Int 4 false; nullable = false; default = None; auto = false } ∷ record { name = codes "b"; kind = Int 4 false; nullable = true; default = (Some Null); auto = false } ∷ []); uniques = (record { name = None; places = (1 ∷ 0 ∷ []) } ∷ []); indexes = []; comment = []; start = None })); side = None; answer = answers.Ok 0; missed = None; draw = None }
    ∷ record { actor = Insp; session = 1; asked = Call requests.LogEnd; side = None; answer = answers.At 0; missed = None; draw = None }
    ∷ record { actor = Insp; session = 1; asked = Call (requests.Ends (codes "t")); side = None; answer = answers.Ends (Some (record { least = ((Num (pos 5)) ∷ (Num (pos 7)) ∷ []); greatest = ((Num (pos 5)) ∷ (Num (pos 7)) ∷ []) })); missed = None; draw = None }
    ∷ record { actor = Copy; session = 2; asked = Call (requests.ChunkEnd (codes "t") (Closed ((Num (pos 5)) ∷ (Num (pos 7)) ∷ [])) ((Num (pos 5)) ∷ (Num (pos 7)) ∷ []) 2); side = None; answer = answers.End ((Num (pos 5)) ∷ (Num (pos 7)) ∷ []); missed = None; draw = None }
    ∷ record { actor = Copy; session = 2; asked = Call (requests.BeginSpan (codes "t") (record { low = (Closed ((Num (pos 5)) ∷ (Num (pos 7)) ∷ [])); high = (Closed ((Num (pos 5)) ∷ (Num (pos 7)) ∷ [])) }) 2); side = None; answer = answers.Keys (((Num (pos 5)) ∷ (Num (pos 7)) ∷ []) ∷ []) ((Num (pos 5)) ∷ (Num (pos 7)) ∷ []); missed = None; draw = None }
    ∷ record { actor = Copy; session = 2; asked = Call (requests.CopyRow (codes "t") (codes "_t_gho") map_106 ((Num (pos 5)) ∷ (Num (pos 7)) ∷ [])); side = None; answer = answers.Ok 1; missed = None; draw = None }
    ∷ record { actor = (Client 1); session = 3; asked = Call requests.Begin; side = None; answer = answers.Ok 0; missed = None; draw = None }
    ∷ record { actor = Copy; session = 2; asked = Call requests.Commit; side = None; answer = answers.Ok 0; missed = None; draw = None }
    ∷ record { actor = Op; session = 0; asked = Command (commanded.ChunkSize 1); side = None; answer = answers.Ok 0; missed = None; draw = None }
    ∷ record { actor = Op; session = 0; asked = Command commanded.Wait; side = None; answer = answers.Ok 0; missed = None; draw = None }
    ∷ record { actor = Op; session = 0; asked = Command commanded.Wait; side = None; answer = answers.Ok 0; missed = None; draw = None }
    ∷ record { actor = Op; session = 0; asked = Command commanded.Wait; side = None; answer = answers.Ok 0; missed = None; draw = None }
    ∷ record { actor = Op; session = 0; asked = Command commanded.Wait; side = None; answer = answers.Ok 0; missed = None; draw = None }
    ∷ record { actor = (Client 1); session = 3; asked = Call requests.Commit; side = None; answer = answers.Ok 0; missed = None; draw = None }
    ∷ record { actor = (Client 1); session = 3; asked = Call requests.Begin; side = None; answer = answers.Ok 0; missed = None; draw = None }
    ∷ record { actor = (Client 1); session = 3; asked = Call (requests.Do (statements.Delete (codes "t") (conditions.Equal (record { column = codes "a"; value = (Num (pos 2)) } ∷ record { column = codes "c"; value = (Num (pos 4)) } ∷ [])))); side = None; answer = answers.Ok 0; missed = None; draw = None }
    ∷ record { actor = Lock; session = 4; asked = Call (requests.Create (record { name = codes "_t_del"; columns = (record { name = codes "id"; kind = Int 4 false; nullable = false; default = None; auto = false } ∷ []); uniques = (record { name = None; places = (0 ∷ []) } ∷ []); indexes = []; comment = codes "ghost-cut-over-sentry"; start = None })); side = None; answer = answers.Ok 0; missed = None; draw = None }
    ∷ record { actor = Op; session = 0; asked = Command commanded.Wait; side = None; answer = answers.Ok 0; missed = None; draw = None }
    ∷ record { actor = Op; session = 0; asked = Command commanded.Wait; side = None; answer = answers.Ok 0; missed = None; draw = None }
    ∷ record { actor = Op; session = 0; asked = Command commanded.Wait; side = None; answer = answers.Ok 0; missed = None; draw = None }
    ∷ record { actor = (Client 1); session = 3; asked = Call requests.Commit; side = None; answer = answers.Ok 0; missed = None; draw = None }
    ∷ record { actor = Lock; session = 4; asked = Call (requests.LockTables (codes "t" ∷ codes "_t_del" ∷ [])); side = None; answer = answers.Ok 0; missed = None; draw = None }
    ∷ record { actor = Insp; session = 1; asked = Call (requests.Do (statements.Insert (codes "_t_ghc") None ((Num (pos 1)) ∷ (Text (codes "cut-over")) ∷ (Text (codes "1")) ∷ []) None)); side = None; answer = answers.Ok 1; missed = None; draw = None }
    ∷ record { actor = Apply; session = 5; asked = Call (requests.ReadLog 0 2 (codes "t" ∷ codes "_t_ghc" ∷ [])); side = None; answer = answers.Events (record { table = codes "_t_ghc"; change = changes.Write ((Num (pos 1)) ∷ (Text (codes "cut-over")) ∷ (Text (codes "1")) ∷ []) } ∷ []) 2; missed = None; draw = None }
    ∷ record { actor = Op; session = 0; asked = Command commanded.Wait; side = None; answer = answers.Ok 0; missed = None; draw = None }
    ∷ record { actor = Ren; session = 6; asked = Call (requests.Rename (record { old = codes "t"; new = codes "_t_del" } ∷ record { old = codes "_t_gho"; new = codes "t" } ∷ [])); side = None; answer = answers.Waits 4; missed = None; draw = None }
    ∷ record { actor = Op; session = 0; asked = Command commanded.Wait; side = None; answer = answers.Ok 0; missed = None; draw = None }
    ∷ record { actor = Insp; session = 1; asked = Call requests.ShowWaiting; side = None; answer = answers.Waiting (record { session = 6; names = (codes "t" ∷ codes "_t_del" ∷ codes "_t_gho" ∷ []); by = 4 } ∷ []); missed = None; draw = None }
    ∷ record { actor = Lock; session = 4; asked = Call (requests.Drop (codes "_t_del")); side = None; answer = answers.Ok 0; missed = None; draw = None }
    ∷ record { actor = Ren; session = 6; asked = Poll; side = None; answer = answers.Waits 4; missed = None; draw = None }
    ∷ record { actor = Op; session = 0; asked = Command commanded.Wait; side = None; answer = answers.Ok 0; missed = None; draw = None }
    ∷ record { actor = Lock; session = 4; asked = Call requests.Unlock; side = None; answer = answers.Ok 0; missed = None; draw = None }
    ∷ record { actor = Ren; session = 6; asked = Poll; side = None; answer = answers.Ok 0; missed = None; draw = None }
    ∷ record { actor = Op; session = 0; asked = Command commanded.Wait; side = None; answer = answers.Ok 0; missed = None; draw = None }
    ∷ record { actor = Insp; session = 1; asked = Call requests.ShowTables; side = None; answer = answers.Tables (record { name = codes "_t_del"; comment = [] } ∷ record { name = codes "_t_ghc"; comment = [] } ∷ record { name = codes "t"; comment = [] } ∷ []); missed = None; draw = None }
    ∷ record { actor = Op; session = 0; asked = Command commanded.Wait; side = None; answer = answers.Ok 0; missed = None; draw = None }
    ∷ record { actor = Insp; session = 1; asked = Call (requests.Drop (codes "_t_ghc")); side = None; answer = answers.Ok 0; missed = None; draw = None }
    ∷ []

abbrev reported_106 : WorkedFacts
reported_106 =
    record {
      verdict = verdicts.Done;
      ended = (Some (1, 1) ∷ Some (1, 2) ∷ None ∷ []);
      left = (record { schema = record { name = codes "t"; columns = (record { name = codes "a"; kind = Int 4 false; nullable = false; default = None; auto = false } ∷ record { name = codes "c"; kind = Int 4 false; nullable = false; default = None; auto = false } ∷ record { name = codes "b"; kind = Int 4 false; nullable = true; default = (Some Null); auto = false } ∷ []); uniques = (record { name = None; places = (1 ∷ 0 ∷ []) } ∷ []); indexes = []; comment = []; start = None }; rows = (((Num (pos 7)) ∷ (Num (pos 5)) ∷ Null ∷ []) ∷ []) } ∷ []);
      alone = (((replies.Ok 0) ∷ (replies.Ok 0) ∷ []) ∷ ((replies.Ok 0) ∷ (replies.Ok 0) ∷ (replies.Ok 0) ∷ []) ∷ [] ∷ []);
      over = replicate 38 false ++ replicate 1 true;
      bound = 22492;
      replies = (((1, 1, (Some (replies.Ok 0))) ∷ (1, 2, (Some (replies.Ok 0))) ∷ (2, 1, (Some (replies.Ok 0))) ∷ (2, 2, (Some (replies.Ok 0))) ∷ (2, 3, (Some (replies.Ok 0))) ∷ [])) ∷ [];
    }

worked_106 : IsWorked plan_106 journal_106 reported_106
unfolding computing
worked_106 = record { asks = refl; sessions = refl; answers = refl; sides = refl; struck = refl; verdict = refl; ended = refl; order = refl; left = refl; serial = refl; alone = refl; over = refl; online = refl; bounded = refl; replies = refl }

-- Plan 108
abbrev map_108 : List MapColumn
map_108 = (record { kind = Int 4 false; nullable = false; origin = from.Old 0 } ∷ record { kind = VarChar 3; nullable = true; origin = from.Old 1 } ∷ record { kind = Int 4 false; nullable = true; origin = from.Old 2 } ∷ record { kind = Int 4 false; nullable = true; origin = from.Added Null } ∷ [])

abbrev plan_108 : PlanData
plan_108 = record { table = codes "t"; alter = (clauses.Add (record { name = codes "b"; kind = Int 4 false; nullable = None; default = None; auto = false }) Unsaid ∷ []); tables = (record { schema = record { name = codes "t"; columns = (record { name = codes "id"; kind = Int 4 false; nullable = false; default = None; auto = false } ∷ record { name = codes "m"; kind = VarChar 3; nullable = true; default = (Some Null); auto = false } ∷ record { name = codes "v"; kind = Int 4 false; nullable = true; default = (Some Null); auto = false } ∷ []); uniques = (record { name = None; places = (0 ∷ []) } ∷ record { name = (Some (codes "u0")); places = (1 ∷ []) } ∷ []); indexes = []; comment = []; start = None }; rows = (((Num (pos 1)) ∷ (Text (codes "2")) ∷ (Num (pos 5)) ∷ []) ∷ ((Num (pos 3)) ∷ Null ∷ (Num (pos 5)) ∷ []) ∷ ((Num (pos 4)) ∷ (Text (codes "3")) ∷ (Num (pos 5)) ∷ []) ∷ ((Num (pos 5)) ∷ Null ∷ (Num (pos 5)) ∷ []) ∷ ((Num (pos 6)) ∷ Null ∷ (Num (pos 5)) ∷ []) ∷ []) } ∷ []); clients = ((record { line = 1; word = (words.Do (statements.Update (codes "t") (record { column = codes "m"; value = Null } ∷ []) (conditions.Equal (record { column = codes "id"; value = (Num (pos 1)) } ∷ [])))) } ∷ record { line = 2; word = (words.Do (statements.Update (codes "t") (record { column = codes "id"; value = (Num (pos 4)) } ∷ []) (conditions.Equal (record { column = codes "id"; value = (Num (pos 2)) } ∷ [])))) } ∷ record { line = 3; word = (words.Do (statements.Insert (codes "t") None ((Num (pos 5)) ∷ (Num (pos 1)) ∷ Null ∷ []) None)) } ∷ record { line = 4; word = (words.Do (statements.Update (codes "t") (record { column = codes "v"; value = (Num (pos 1)) } ∷ []) (conditions.Equal (record { column = codes "id"; value = (Num (pos 3)) } ∷ [])))) } ∷ record { line = 5; word = (words.Do (statements.Delete (codes "t") (conditions.Equal (record { column = codes "id"; value = (Num (pos 2)) } ∷ [])))) } ∷ record { line = 6; word = (words.Do (statements.Delete (codes "t") (conditions.Equal (record { column = codes "id"; value = (Num (pos 1)) } ∷ [])))) } ∷ record { line = 7; word = (words.Do (statements.Update (codes "t") (record { column = codes "id"; value = (Num (pos 6)) } ∷ []) (conditions.Equal (record { column = codes "m"; value = (Num (pos 1)) } ∷ [])))) } ∷ record { line = 8; word = words.Begin } ∷ record { line = 9; word = (words.Do (statements.Delete (codes "t") (conditions.Equal (record { column = codes "id"; value = (Num (pos 5)) } ∷ [])))) } ∷ record { line = 10; word = (words.Do (statements.Delete (codes "t") (conditions.Equal (record { column = codes "id"; value = (Num (pos 3)) } ∷ [])))) } ∷ record { line = 11; word = words.Commit } ∷ record { line = 12; word = words.Begin } ∷ record { line = 13; word = (words.Do (statements.Update (codes "t") (record { column = codes "m"; value = Null } ∷ []) (conditions.Equal (record { column = codes "id"; value = (Num (pos 3)) } ∷ [])))) } ∷ record { line = 14; word = (words.Do (statements.Update (codes "t") (record { column = codes "v"; value = Null } ∷ []) (conditions.Equal (record { column = codes "m"; value = (Num (pos 1)) } ∷ [])))) } ∷ record { line = 15; word = words.Commit } ∷ record { line = 16; word = (words.Do (statements.Delete (codes "t") (conditions.Equal (record { column = codes "id"; value = (Num (pos 2)) } ∷ [])))) } ∷ []) ∷ []); operator = []; faults = (losses.Nth Lock 24 sides_at.After ∷ []); turns = (record { actor = Insp; times = 4 } ∷ record { actor = Insp; times = 1 } ∷ record { actor = (Client 1); times = 3 } ∷ record { actor = (Client 1); times = 1 } ∷ record { actor = Copy; times = 1 } ∷ record { actor = Copy; times = 9 } ∷ record { actor = Apply; times = 1 } ∷ record { actor = Apply; times = 1 } ∷ record { actor = (Client 1); times = 1 } ∷ record { actor = (Client 1); times = 1 } ∷ record { actor = (Client 1); times = 9 } ∷ record { actor = (Client 1); times = 9 } ∷ record { actor = Copy; times = 9 } ∷ record { actor = Apply; times = 3 } ∷ record { actor = Apply; times = 3 } ∷ record { actor = Copy; times = 1 } ∷ record { actor = (Client 1); times = 9 } ∷ record { actor = Apply; times = 1 } ∷ record { actor = Apply; times = 1 } ∷ record { actor = Apply; times = 4 } ∷ record { actor = (Client 1); times = 4 } ∷ record { actor = Apply; times = 6 } ∷ record { actor = (Client 1); times = 1 } ∷ record { actor = Apply; times = 6 } ∷ record { actor = (Client 1); times = 4 } ∷ record { actor = (Client 1); times = 3 } ∷ record { actor = Apply; times = 4 } ∷ record { actor = (Client 1); times = 3 } ∷ record { actor = Apply; times = 4 } ∷ record { actor = (Client 1); times = 9 } ∷ record { actor = Apply; times = 6 } ∷ record { actor = (Client 1); times = 1 } ∷ record { actor = (Client 1); times = 3 } ∷ record { actor = (Client 1); times = 1 } ∷ record { actor = (Client 1); times = 6 } ∷ record { actor = Apply; times = 9 } ∷ record { actor = (Client 1); times = 1 } ∷ record { actor = (Client 1); times = 2 } ∷ record { actor = (Client 1); times = 9 } ∷ record { actor = (Client 1); times = 4 } ∷ []); options = record { chunk_size = 3; dml_batch_size = 3; default_retries = 60; max_backlog = 100; drain_limit = 2000; client_wait = 2; tool_wait = 30; max_load = 64; turn_limit = 200000; notes = 0; note_every = 100; replica_step = 0; replica_pause = 1; max_lag = 10; resume = false; approve_renamed_columns = false; initially_drop_ghost_table = false; initially_drop_old_table = false; ok_to_drop_table = false; postpone = false; show_history = true; show_turns = true; show_tables = true; show_replies = true } }

abbrev journal_108 : List Entry
journal_108 =
    record { actor = Insp; session = 1; asked = Call requests.ShowTables; side = None; answer = answers.Tables (record { name = codes "t"; comment = [] } ∷ []); missed = None; draw = None }
    ∷ record { actor = Insp; session = 1; asked = Call (requests.Create (record { name = codes "_t_ghc"; columns = (record { name = codes "id"; kind = Int 8 false; nullable = false; default = None; auto = false } ∷ record { name = codes "hint"; kind = VarChar 64; nullable = false; default = None; auto = false } ∷ record { name = codes "value"; kind = VarChar 255; nullable = false; default = None; auto = false } ∷ []); uniques = (record { name = None; places = (0 ∷ []) } ∷ []); indexes = []; comment = []; start = None })); side = None; answer = answers.Ok 0; missed = None; draw = None }
    ∷ record { actor = Insp; session = 1; asked = Call (requests.Create (record { name = codes "_t_gho"; columns = (record { name = codes "id"; kind = Int 4 false; nullable = false; default = None; auto = false } ∷ record { name = codes "m"; kind = VarChar 3; nullable = true; default = (Some Null); auto = false } ∷ record { name = codes "v"; kind = Int 4 false; nullable = true; default = (Some Null); auto = false } ∷ record { name = codes "b"; kind = Int 4 false; nullable = true; default = (Some Null); auto = false } ∷ []); uniques = (record { name = None; places = (0 ∷ []) } ∷ record { name = (Some (codes "u0")); places = (1 ∷ []) } ∷ []); indexes = []; comment = []; start = None })); side = None; answer = answers.Ok 0; missed = None; draw = None }
    ∷ record { actor = Insp; session = 1; asked = Call requests.LogEnd; side = None; answer = answers.At 0; missed = None; draw = None }
    ∷ record { actor = Insp; session = 1; asked = Call (requests.Ends (codes "t")); side = None; answer = answers.Ends (Some (record { least = ((Num (pos 1)) ∷ []); greatest = ((Num (pos 6)) ∷ []) })); missed = None; draw = None }
    ∷ record { actor = (Client 1); session = 2; asked = Call (requests.Do (statements.Update (codes "t") (record { column = codes "m"; value = Null } ∷ []) (conditions.Equal (record { column = codes "id"; value = (Num (pos 1)) } ∷ [])))); side = None; answer = answers.Ok 1; missed = None; draw = None }
    ∷ record { actor = (Client 1); session = 2; asked = Call (requests.Do (statements.Update (codes "t") (record { column = codes "id"; value = (Num (pos 4)) } ∷ []) (conditions.Equal (record { column = codes "id"; value = (Num (pos 2)) } ∷ [])))); side = None; answer = answers.Ok 0; missed = None; draw = None }
    ∷ record { actor = (Client 1); session = 2; asked = Call (requests.Do (statements.Insert (codes "t") None ((Num (pos 5)) ∷ (Num (pos 1)) ∷ Null ∷ []) None)); side = None; answer = answers.Refused 1062 None; missed = None; draw = None }
    ∷ record { actor = (Client 1); session = 2; asked = Call (requests.Do (statements.Update (codes "t") (record { column = codes "v"; value = (Num (pos 1)) } ∷ []) (conditions.Equal (record { column = codes "id"; value = (Num (pos 3)) } ∷ [])))); side = None; answer = answers.Ok 1; missed = None; draw = None }
    ∷ record { actor = Copy; session = 3; asked = Call (requests.ChunkEnd (codes "t") (Closed ((Num (pos 1)) ∷ [])) ((Num (pos 6)) ∷ []) 3); side = None; answer = answers.End ((Num (pos 4)) ∷ []); missed = None; draw = None }
    ∷ record { actor = Copy; session = 3; asked = Call (requests.BeginSpan (codes "t") (record { low = (Closed ((Num (pos 1)) ∷ [])); high = (Closed ((Num (pos 4)) ∷ [])) }) 3); side = None; answer = answers.Keys (((Num (pos 1)) ∷ []) ∷ ((Num (pos 3)) ∷ []) ∷ ((Num (pos 4)) ∷ []) ∷ []) ((Num (pos 4)) ∷ []); missed = None; draw = None }
    ∷ record { actor = Copy; session = 3; asked = Call (requests.CopyRow (codes "t") (codes "_t_gho") map_108 ((Num (pos 1)) ∷ [])); side = None; answer = answers.Ok 1; missed = None; draw = None }
    ∷ record { actor = Copy; session = 3; asked = Call (requests.CopyRow (codes "t") (codes "_t_gho") map_108 ((Num (pos 3)) ∷ [])); side = None; answer = answers.Ok 1; missed = None; draw = None }
    ∷ record { actor = Copy; session = 3; asked = Call (requests.CopyRow (codes "t") (codes "_t_gho") map_108 ((Num (pos 4)) ∷ [])); side = None; answer = answers.Ok 1; missed = None; draw = None }
    ∷ record { actor = Copy; session = 3; asked = Call requests.Commit; side = None; answer = answers.Ok 0; missed = None; draw = None }
    ∷ record { actor = Copy; session = 3; asked = Call (requests.ChunkEnd (codes "t") (Open ((Num (pos 4)) ∷ [])) ((Num (pos 6)) ∷ []) 3); side = None; answer = answers.End ((Num (pos 6)) ∷ []); missed = None; draw = None }
    ∷ record { actor = Copy; session = 3; asked = Call (requests.BeginSpan (codes "t") (record { low = (Open ((Num (pos 4)) ∷ [])); high = (Closed ((Num (pos 6)) ∷ [])) }) 3); side = None; answer = answers.Keys (((Num (pos 5)) ∷ []) ∷ ((Num (pos 6)) ∷ []) ∷ []) ((Num (pos 6)) ∷ []); missed = None; draw = None }
    ∷ record { actor = Copy; session = 3; asked = Call (requests.CopyRow (codes "t") (codes "_t_gho") map_108 ((Num (pos 5)) ∷ [])); side = None; answer = answers.Ok 1; missed = None; draw = None }
    ∷ record { actor = Copy; session = 3; asked = Call (requests.CopyRow (codes "t") (codes "_t_gho") map_108 ((Num (pos 6)) ∷ [])); side = None; answer = answers.Ok 1; missed = None; draw = None }
    ∷ record { actor = Apply; session = 4; asked = Call (requests.ReadLog 0 3 (codes "t" ∷ codes "_t_ghc" ∷ [])); side = None; answer = answers.Events (record { table = codes "t"; change = changes.Update ((Num (pos 1)) ∷ (Text (codes "2")) ∷ (Num (pos 5)) ∷ []) ((Num (pos 1)) ∷ Null ∷ (Num (pos 5)) ∷ []) } ∷ record { table = codes "t"; change = changes.Update ((Num (pos 3)) ∷ Null ∷ (Num (pos 5)) ∷ []) ((Num (pos 3)) ∷ Null ∷ (Num (pos 1)) ∷ []) } ∷ []) 5; missed = None; draw = None }
    ∷ record { actor = Apply; session = 4; asked = Call requests.Begin; side = None; answer = answers.Ok 0; missed = None; draw = None }
    ∷ record { actor = (Client 1); session = 2; asked = Call (requests.Do (statements.Delete (codes "t") (conditions.Equal (record { column = codes "id"; value = (Num (pos 2)) } ∷ [])))); side = None; answer = answers.Ok 0; missed = None; draw = None }
    ∷ record { actor = (Client 1); session = 2; asked = Call (requests.Do (statements.Delete (codes "t") (conditions.Equal (record { column = codes "id"; value = (Num (pos 1)) } ∷ [])))); side = None; answer = answers.Ok 1; missed = None; draw = None }
    ∷ record { actor = (Client 1); session = 2; asked = Call (requests.Do (statements.Update (codes "t") (record { column = codes "id"; value = (Num (pos 6)) } ∷ []) (conditions.Equal (record { column = codes "m"; value = (Num (pos 1)) } ∷ [])))); side = None; answer = answers.Ok 0; missed = None; draw = None }
    ∷ record { actor = (Client 1); session = 2; asked = Call requests.Begin; side = None; answer = answers.Ok 0; missed = None; draw = None }
    ∷ record { actor = (Client 1); session = 2; asked = Call (requests.Do (statements.Delete (codes "t") (conditions.Equal (record { column = codes "id"; value = (Num (pos 5)) } ∷ [])))); side = None; answer = answers.Waits 3; missed = None; draw = None }
    ∷ record { actor = (Client 1); session = 2; asked = Poll; side = None; answer = answers.Waits 3; missed = None; draw = None }
    ∷ record { actor = (Client 1); session = 2; asked = Poll; side = None; answer = answers.TimedOut 2; missed = None; draw = None }
    ∷ record { actor = (Client 1); session = 2; asked = Call requests.Begin; side = None; answer = answers.Ok 0; missed = None; draw = None }
    ∷ record { actor = (Client 1); session = 2; asked = Call (requests.Do (statements.Update (codes "t") (record { column = codes "m"; value = Null } ∷ []) (conditions.Equal (record { column = codes "id"; value = (Num (pos 3)) } ∷ [])))); side = None; answer = answers.Ok 0; missed = None; draw = None }
    ∷ record { actor = (Client 1); session = 2; asked = Call (requests.Do (statements.Update (codes "t") (record { column = codes "v"; value = Null } ∷ []) (conditions.Equal (record { column = codes "m"; value = (Num (pos 1)) } ∷ [])))); side = None; answer = answers.Ok 0; missed = None; draw = None }
    ∷ record { actor = (Client 1); session = 2; asked = Call requests.Commit; side = None; answer = answers.Ok 0; missed = None; draw = None }
    ∷ record { actor = (Client 1); session = 2; asked = Call (requests.Do (statements.Delete (codes "t") (conditions.Equal (record { column = codes "id"; value = (Num (pos 2)) } ∷ [])))); side = None; answer = answers.Ok 0; missed = None; draw = None }
    ∷ record { actor = Copy; session = 3; asked = Call requests.Commit; side = None; answer = answers.Ok 0; missed = None; draw = None }
    ∷ record { actor = Apply; session = 4; asked = Call (requests.Do (statements.Delete (codes "_t_gho") (conditions.Equal (record { column = codes "id"; value = (Num (pos 1)) } ∷ [])))); side = None; answer = answers.Ok 1; missed = None; draw = None }
    ∷ record { actor = Apply; session = 4; asked = Call (requests.Do (statements.Replace (codes "_t_gho") None ((Num (pos 1)) ∷ Null ∷ (Num (pos 5)) ∷ Null ∷ []) None)); side = None; answer = answers.Ok 1; missed = None; draw = None }
    ∷ record { actor = Apply; session = 4; asked = Call (requests.Do (statements.Update (codes "_t_gho") (record { column = codes "id"; value = (Num (pos 3)) } ∷ record { column = codes "m"; value = Null } ∷ record { column = codes "v"; value = (Num (pos 1)) } ∷ record { column = codes "b"; value = Null } ∷ []) (conditions.Equal (record { column = codes "id"; value = (Num (pos 3)) } ∷ [])))); side = None; answer = answers.Ok 0; missed = None; draw = None }
    ∷ record { actor = Apply; session = 4; asked = Call requests.Commit; side = None; answer = answers.Ok 0; missed = None; draw = None }
    ∷ record { actor = Apply; session = 4; asked = Call (requests.ReadLog 5 3 (codes "t" ∷ codes "_t_ghc" ∷ [])); side = None; answer = answers.Events (record { table = codes "t"; change = changes.Delete ((Num (pos 1)) ∷ Null ∷ (Num (pos 5)) ∷ []) } ∷ []) 10; missed = None; draw = None }
    ∷ record { actor = Apply; session = 4; asked = Call requests.Begin; side = None; answer = answers.Ok 0; missed = None; draw = None }
    ∷ record { actor = Apply; session = 4; asked = Call (requests.Do (statements.Delete (codes "_t_gho") (conditions.Equal (record { column = codes "id"; value = (Num (pos 1)) } ∷ [])))); side = None; answer = answers.Ok 1; missed = None; draw = None }
    ∷ record { actor = Apply; session = 4; asked = Call requests.Commit; side = None; answer = answers.Ok 0; missed = None; draw = None }
    ∷ record { actor = Lock; session = 5; asked = Call (requests.Create (record { name = codes "_t_del"; columns = (record { name = codes "id"; kind = Int 4 false; nullable = false; default = None; auto = false } ∷ []); uniques = (record { name = None; places = (0 ∷ []) } ∷ []); indexes = []; comment = codes "ghost-cut-over-sentry"; start = None })); side = None; answer = answers.Ok 0; missed = None; draw = None }
    ∷ record { actor = Lock; session = 5; asked = Call (requests.LockTables (codes "t" ∷ codes "_t_del" ∷ [])); side = None; answer = answers.Ok 0; missed = None; draw = None }
    ∷ record { actor = Insp; session = 1; asked = Call (requests.Do (statements.Insert (codes "_t_ghc") None ((Num (pos 1)) ∷ (Text (codes "cut-over")) ∷ (Text (codes "1")) ∷ []) None)); side = None; answer = answers.Ok 1; missed = None; draw = None }
    ∷ record { actor = Apply; session = 4; asked = Call (requests.ReadLog 10 3 (codes "t" ∷ codes "_t_ghc" ∷ [])); side = None; answer = answers.Events (record { table = codes "_t_ghc"; change = changes.Write ((Num (pos 1)) ∷ (Text (codes "cut-over")) ∷ (Text (codes "1")) ∷ []) } ∷ []) 12; missed = None; draw = None }
    ∷ record { actor = Ren; session = 6; asked = Call (requests.Rename (record { old = codes "t"; new = codes "_t_del" } ∷ record { old = codes "_t_gho"; new = codes "t" } ∷ [])); side = None; answer = answers.Waits 5; missed = None; draw = None }
    ∷ record { actor = Insp; session = 1; asked = Call requests.ShowWaiting; side = None; answer = answers.Waiting (record { session = 6; names = (codes "t" ∷ codes "_t_del" ∷ codes "_t_gho" ∷ []); by = 5 } ∷ []); missed = None; draw = None }
    ∷ record { actor = Lock; session = 5; asked = Call (requests.Drop (codes "_t_del")); side = None; answer = answers.Ok 0; missed = None; draw = None }
    ∷ record { actor = Ren; session = 6; asked = Poll; side = None; answer = answers.Waits 5; missed = None; draw = None }
    ∷ record { actor = Lock; session = 5; asked = Call requests.Unlock; side = None; answer = answers.Ok 0; missed = None; draw = None }
    ∷ record { actor = Ren; session = 6; asked = Poll; side = None; answer = answers.Ok 0; missed = None; draw = None }
    ∷ record { actor = Insp; session = 1; asked = Call requests.ShowTables; side = None; answer = answers.Tables (record { name = codes "_t_del"; comment = [] } ∷ record { name = codes "_t_ghc"; comment = [] } ∷ record { name = codes "t"; comment = [] } ∷ []); missed = None; draw = None }
    ∷ record { actor = Insp; session = 1; asked = Call (requests.Drop (codes "_t_ghc")); side = None; answer = answers.Ok 0; missed = None; draw = None }
    ∷ []

abbrev reported_108 : WorkedFacts
reported_108 =
    record {
      verdict = verdicts.Done;
      ended = (Some (1, 1) ∷ Some (1, 2) ∷ Some (1, 3) ∷ Some (1, 4) ∷ Some (1, 5) ∷ Some (1, 6) ∷ Some (1, 7) ∷ Some (1, 8) ∷ Some (1, 9) ∷ Some (1, 10) ∷ None ∷ []);
      left = (record { schema = record { name = codes "t"; columns = (record { name = codes "id"; kind = Int 4 false; nullable = false; default = None; auto = false } ∷ record { name = codes "m"; kind = VarChar 3; nullable = true; default = (Some Null); auto = false } ∷ record { name = codes "v"; kind = Int 4 false; nullable = true; default = (Some Null); auto = false } ∷ record { name = codes "b"; kind = Int 4 false; nullable = true; default = (Some Null); auto = false } ∷ []); uniques = (record { name = None; places = (0 ∷ []) } ∷ record { name = (Some (codes "u0")); places = (1 ∷ []) } ∷ []); indexes = []; comment = []; start = None }; rows = (((Num (pos 3)) ∷ Null ∷ (Num (pos 1)) ∷ Null ∷ []) ∷ ((Num (pos 4)) ∷ (Text (codes "3")) ∷ (Num (pos 5)) ∷ Null ∷ []) ∷ ((Num (pos 5)) ∷ Null ∷ (Num (pos 5)) ∷ Null ∷ []) ∷ ((Num (pos 6)) ∷ Null ∷ (Num (pos 5)) ∷ Null ∷ []) ∷ []) } ∷ []);
      alone = (((replies.Ok 1) ∷ []) ∷ ((replies.Ok 0) ∷ []) ∷ ((replies.Error 1062) ∷ []) ∷ ((replies.Ok 1) ∷ []) ∷ ((replies.Ok 0) ∷ []) ∷ ((replies.Ok 1) ∷ []) ∷ ((replies.Ok 0) ∷ []) ∷ ((replies.Ok 0) ∷ (replies.Error 1205) ∷ []) ∷ ((replies.Ok 0) ∷ (replies.Ok 0) ∷ (replies.Ok 0) ∷ (replies.Ok 0) ∷ []) ∷ ((replies.Ok 0) ∷ []) ∷ [] ∷ []);
      over = replicate 53 false ++ replicate 1 true;
      bound = 29086515;
      replies = (((1, 1, (Some (replies.Ok 1))) ∷ (2, 1, (Some (replies.Ok 0))) ∷ (3, 1, (Some (replies.Error 1062))) ∷ (4, 1, (Some (replies.Ok 1))) ∷ (5, 1, (Some (replies.Ok 0))) ∷ (6, 1, (Some (replies.Ok 1))) ∷ (7, 1, (Some (replies.Ok 0))) ∷ (8, 1, (Some (replies.Ok 0))) ∷ (8, 2, (Some (replies.Error 1205))) ∷ (9, 1, (Some (replies.Ok 0))) ∷ (9, 2, (Some (replies.Ok 0))) ∷ (9, 3, (Some (replies.Ok 0))) ∷ (9, 4, (Some (replies.Ok 0))) ∷ (10, 1, (Some (replies.Ok 0))) ∷ [])) ∷ [];
    }

worked_108 : IsWorked plan_108 journal_108 reported_108
unfolding computing
worked_108 = record { asks = refl; sessions = refl; answers = refl; sides = refl; struck = refl; verdict = refl; ended = refl; order = refl; left = refl; serial = refl; alone = refl; over = refl; online = refl; bounded = refl; replies = refl }

-- Plan 111
abbrev map_111 : List MapColumn
map_111 = (record { kind = Int 1 false; nullable = false; origin = from.Old 0 } ∷ record { kind = Int 4 false; nullable = true; origin = from.Old 1 } ∷ record { kind = Int 4 false; nullable = true; origin = from.Old 2 } ∷ record { kind = Int 4 false; nullable = true; origin = from.Added Null } ∷ [])

abbrev plan_111 : PlanData
plan_111 = record { table = codes "t"; alter = (clauses.Add (record { name = codes "b"; kind = Int 4 false; nullable = None; default = None; auto = false }) Unsaid ∷ []); tables = (record { schema = record { name = codes "t"; columns = (record { name = codes "id"; kind = Int 1 false; nullable = false; default = None; auto = false } ∷ record { name = codes "m0"; kind = Int 4 false; nullable = true; default = (Some Null); auto = false } ∷ record { name = codes "v"; kind = Int 4 false; nullable = true; default = (Some Null); auto = false } ∷ []); uniques = (record { name = None; places = (0 ∷ []) } ∷ record { name = (Some (codes "u0")); places = (1 ∷ []) } ∷ []); indexes = []; comment = []; start = None }; rows = (((Num (pos 3)) ∷ Null ∷ (Num (pos 5)) ∷ []) ∷ ((Num (pos 6)) ∷ (Num (pos 4)) ∷ Null ∷ []) ∷ ((Num (pos 7)) ∷ (Num (pos 5)) ∷ (Num (pos 3)) ∷ []) ∷ []) } ∷ []); clients = ((record { line = 1; word = (words.Do (statements.Insert (codes "t") (Some (codes "id" ∷ codes "m0" ∷ [])) ((Num (pos 7)) ∷ (Num (pos 6)) ∷ []) None)) } ∷ record { line = 2; word = (words.Do (statements.Insert (codes "t") (Some (codes "id" ∷ codes "v" ∷ [])) ((Num (pos 6)) ∷ (Num (pos 7)) ∷ []) None)) } ∷ record { line = 3; word = (words.Do (statements.Insert (codes "t") None ((Text (codes "6")) ∷ Null ∷ (Num (pos 5)) ∷ []) None)) } ∷ record { line = 4; word = (words.Do (statements.Update (codes "t") (record { column = codes "id"; value = (Num (pos 7)) } ∷ record { column = codes "m0"; value = (Num (pos 2)) } ∷ record { column = codes "v"; value = (Num (pos 2)) } ∷ []) (conditions.Range (record { column = codes "id"; sign = signs.Less; value = (Num (pos 99999999999)) } ∷ record { column = codes "id"; sign = signs.AtLeast; value = (Num (pos 5)) } ∷ [])))) } ∷ []) ∷ (record { line = 1; word = (words.Do (statements.Replace (codes "t") None ((Num (pos 7)) ∷ (Num (pos 3)) ∷ Null ∷ []) None)) } ∷ record { line = 2; word = (words.Do (statements.Update (codes "t") (record { column = codes "id"; value = (Num (pos 3)) } ∷ record { column = codes "m0"; value = (Num (pos 99999999999)) } ∷ []) (conditions.Equal (record { column = codes "id"; value = (Num (pos 5)) } ∷ [])))) } ∷ []) ∷ []); operator = (record { word = commanded.Wait; units = 6 } ∷ record { word = commanded.Wait; units = 1 } ∷ record { word = commanded.Unpostpone; units = 1 } ∷ record { word = commanded.Panic; units = 1 } ∷ record { word = commanded.Wait; units = 5 } ∷ record { word = commanded.Unpostpone; units = 1 } ∷ record { word = commanded.NoThrottle; units = 1 } ∷ record { word = commanded.Unpostpone; units = 1 } ∷ []); faults = (losses.Turn 25 Ren ∷ losses.Turn 49 (Client 2) ∷ losses.Turn 17 Lock ∷ []); turns = (record { actor = Insp; times = 5 } ∷ record { actor = Op; times = 5 } ∷ record { actor = Ren; times = 3 } ∷ record { actor = Insp; times = 2 } ∷ record { actor = Ren; times = 1 } ∷ record { actor = Insp; times = 1 } ∷ record { actor = Copy; times = 5 } ∷ record { actor = Copy; times = 1 } ∷ record { actor = Insp; times = 1 } ∷ record { actor = (Client 2); times = 1 } ∷ record { actor = (Client 2); times = 1 } ∷ record { actor = Apply; times = 2 } ∷ record { actor = (Client 2); times = 3 } ∷ record { actor = (Client 2); times = 2 } ∷ record { actor = (Client 1); times = 1 } ∷ record { actor = Apply; times = 5 } ∷ record { actor = Ren; times = 1 } ∷ record { actor = (Client 1); times = 1 } ∷ record { actor = Insp; times = 1 } ∷ record { actor = Copy; times = 5 } ∷ record { actor = (Client 1); times = 1 } ∷ record { actor = Ren; times = 1 } ∷ record { actor = Lock; times = 3 } ∷ record { actor = Lock; times = 5 } ∷ record { actor = Copy; times = 1 } ∷ record { actor = (Client 2); times = 5 } ∷ record { actor = Ren; times = 1 } ∷ record { actor = Insp; times = 1 } ∷ record { actor = Insp; times = 2 } ∷ record { actor = Apply; times = 3 } ∷ record { actor = (Client 1); times = 3 } ∷ record { actor = (Client 1); times = 2 } ∷ record { actor = (Client 1); times = 1 } ∷ record { actor = Ren; times = 1 } ∷ record { actor = Insp; times = 3 } ∷ record { actor = Ren; times = 5 } ∷ record { actor = Ren; times = 1 } ∷ record { actor = Ren; times = 1 } ∷ record { actor = Copy; times = 2 } ∷ record { actor = Lock; times = 1 } ∷ record { actor = Insp; times = 1 } ∷ []); options = record { chunk_size = 2; dml_batch_size = 1; default_retries = 2; max_backlog = 100; drain_limit = 2000; client_wait = 1; tool_wait = 5; max_load = 64; turn_limit = 200000; notes = 0; note_every = 100; replica_step = 0; replica_pause = 1; max_lag = 10; resume = false; approve_renamed_columns = true; initially_drop_ghost_table = false; initially_drop_old_table = false; ok_to_drop_table = true; postpone = true; show_history = true; show_turns = true; show_tables = true; show_replies = true } }

abbrev journal_111 : List Entry
journal_111 =
    record { actor = Insp; session = 1; asked = Call requests.ShowTables; side = None; answer = answers.Tables (record { name = codes "t"; comment = [] } ∷ []); missed = None; draw = None }
    ∷ record { actor = Insp; session = 1; asked = Call (requests.Create (record { name = codes "_t_ghc"; columns = (record { name = codes "id"; kind = Int 8 false; nullable = false; default = None; auto = false } ∷ record { name = codes "hint"; kind = VarChar 64; nullable = false; default = None; auto = false } ∷ record { name = codes "value"; kind = VarChar 255; nullable = false; default = None; auto = false } ∷ []); uniques = (record { name = None; places = (0 ∷ []) } ∷ []); indexes = []; comment = []; start = None })); side = None; answer = answers.Ok 0; missed = None; draw = None }
    ∷ record { actor = Insp; session = 1; asked = Call (requests.Create (record { name = codes "_t_gho"; columns = (record { name = codes "id"; kind = Int 1 false; nullable = false; default = None; auto = false } ∷ record { name = codes "m0"; kind = Int 4 false; nullable = true; default = (Some Null); auto = false } ∷ record { name = codes "v"; kind = Int 4 false; nullable = true; default = (Some Null); auto = false } ∷ record { name = codes "b"; kind = Int 4 false; nullable = true; default = (Some Null); auto = false } ∷ []); uniques = (record { name = None; places = (0 ∷ []) } ∷ record { name = (Some (codes "u0")); places = (1 ∷ []) } ∷ []); indexes = []; comment = []; start = None })); side = None; answer = answers.Ok 0; missed = None; draw = None }
    ∷ record { actor = Insp; session = 1; asked = Call requests.LogEnd; side = None; answer = answers.At 0; missed = None; draw = None }
    ∷ record { actor = Insp; session = 1; asked = Call (requests.Ends (codes "t")); side = None; answer = answers.Ends (Some (record { least = ((Num (pos 3)) ∷ []); greatest = ((Num (pos 7)) ∷ []) })); missed = None; draw = None }
    ∷ record { actor = Op; session = 0; asked = Command commanded.Wait; side = None; answer = answers.Ok 0; missed = None; draw = None }
    ∷ record { actor = Op; session = 0; asked = Command commanded.Wait; side = None; answer = answers.Ok 0; missed = None; draw = None }
    ∷ record { actor = Op; session = 0; asked = Command commanded.Wait; side = None; answer = answers.Ok 0; missed = None; draw = None }
    ∷ record { actor = Op; session = 0; asked = Command commanded.Wait; side = None; answer = answers.Ok 0; missed = None; draw = None }
    ∷ record { actor = Op; session = 0; asked = Command commanded.Wait; side = None; answer = answers.Ok 0; missed = None; draw = None }
    ∷ record { actor = Copy; session = 2; asked = Call (requests.ChunkEnd (codes "t") (Closed ((Num (pos 3)) ∷ [])) ((Num (pos 7)) ∷ []) 2); side = None; answer = answers.End ((Num (pos 6)) ∷ []); missed = None; draw = None }
    ∷ record { actor = Copy; session = 2; asked = Call (requests.BeginSpan (codes "t") (record { low = (Closed ((Num (pos 3)) ∷ [])); high = (Closed ((Num (pos 6)) ∷ [])) }) 2); side = None; answer = answers.Keys (((Num (pos 3)) ∷ []) ∷ ((Num (pos 6)) ∷ []) ∷ []) ((Num (pos 6)) ∷ []); missed = None; draw = None }
    ∷ record { actor = Copy; session = 2; asked = Call (requests.CopyRow (codes "t") (codes "_t_gho") map_111 ((Num (pos 3)) ∷ [])); side = None; answer = answers.Ok 1; missed = None; draw = None }
    ∷ record { actor = Copy; session = 2; asked = Call (requests.CopyRow (codes "t") (codes "_t_gho") map_111 ((Num (pos 6)) ∷ [])); side = None; answer = answers.Ok 1; missed = None; draw = None }
    ∷ record { actor = Copy; session = 2; asked = Call requests.Commit; side = None; answer = answers.Ok 0; missed = None; draw = None }
    ∷ record { actor = Copy; session = 2; asked = Call (requests.ChunkEnd (codes "t") (Open ((Num (pos 6)) ∷ [])) ((Num (pos 7)) ∷ []) 2); side = None; answer = answers.End ((Num (pos 7)) ∷ []); missed = None; draw = None }
    ∷ record { actor = (Client 2); session = 3; asked = Call (requests.Do (statements.Replace (codes "t") None ((Num (pos 7)) ∷ (Num (pos 3)) ∷ Null ∷ []) None)); side = None; answer = answers.Ok 2; missed = None; draw = None }
    ∷ record { actor = (Client 2); session = 3; asked = Call (requests.Do (statements.Update (codes "t") (record { column = codes "id"; value = (Num (pos 3)) } ∷ record { column = codes "m0"; value = (Num (pos 99999999999)) } ∷ []) (conditions.Equal (record { column = codes "id"; value = (Num (pos 5)) } ∷ [])))); side = None; answer = answers.Ok 0; missed = None; draw = None }
    ∷ record { actor = Apply; session = 4; asked = Call (requests.ReadLog 0 1 (codes "t" ∷ codes "_t_ghc" ∷ [])); side = None; answer = answers.Events (record { table = codes "t"; change = changes.Delete ((Num (pos 7)) ∷ (Num (pos 5)) ∷ (Num (pos 3)) ∷ []) } ∷ []) 3; missed = None; draw = None }
    ∷ record { actor = Apply; session = 4; asked = Call requests.Begin; side = None; answer = answers.Ok 0; missed = None; draw = None }
    ∷ record { actor = (Client 1); session = 5; asked = Call (requests.Do (statements.Insert (codes "t") (Some (codes "id" ∷ codes "m0" ∷ [])) ((Num (pos 7)) ∷ (Num (pos 6)) ∷ []) None)); side = None; answer = answers.Refused 1062 None; missed = None; draw = None }
    ∷ record { actor = Apply; session = 4; asked = Call (requests.Do (statements.Delete (codes "_t_gho") (conditions.Equal (record { column = codes "id"; value = (Num (pos 7)) } ∷ [])))); side = None; answer = answers.Ok 0; missed = None; draw = None }
    ∷ record { actor = Apply; session = 4; asked = Call requests.Commit; side = None; answer = answers.Ok 0; missed = None; draw = None }
    ∷ record { actor = Apply; session = 4; asked = Call (requests.ReadLog 3 1 (codes "t" ∷ codes "_t_ghc" ∷ [])); side = None; answer = answers.Events (record { table = codes "t"; change = changes.Write ((Num (pos 7)) ∷ (Num (pos 3)) ∷ Null ∷ []) } ∷ []) 4; missed = None; draw = None }
    ∷ record { actor = Apply; session = 4; asked = Call requests.Begin; side = None; answer = answers.Ok 0; missed = None; draw = None }
    ∷ record { actor = Apply; session = 4; asked = Call (requests.Do (statements.Replace (codes "_t_gho") None ((Num (pos 7)) ∷ (Num (pos 3)) ∷ Null ∷ Null ∷ []) None)); side = None; answer = answers.Ok 1; missed = None; draw = None }
    ∷ record { actor = (Client 1); session = 5; asked = Call (requests.Do (statements.Insert (codes "t") (Some (codes "id" ∷ codes "v" ∷ [])) ((Num (pos 6)) ∷ (Num (pos 7)) ∷ []) None)); side = None; answer = answers.Refused 1062 None; missed = None; draw = None }
    ∷ record { actor = Copy; session = 2; asked = Call (requests.BeginSpan (codes "t") (record { low = (Open ((Num (pos 6)) ∷ [])); high = (Closed ((Num (pos 7)) ∷ [])) }) 2); side = None; answer = answers.Keys (((Num (pos 7)) ∷ []) ∷ []) ((Num (pos 7)) ∷ []); missed = None; draw = None }
    ∷ record { actor = Copy; session = 2; asked = Call (requests.CopyRow (codes "t") (codes "_t_gho") map_111 ((Num (pos 7)) ∷ [])); side = None; answer = answers.Waits 4; missed = None; draw = None }
    ∷ record { actor = Copy; session = 2; asked = Poll; side = None; answer = answers.Waits 4; missed = None; draw = None }
    ∷ record { actor = Copy; session = 2; asked = Poll; side = None; answer = answers.Waits 4; missed = None; draw = None }
    ∷ record { actor = Copy; session = 2; asked = Poll; side = None; answer = answers.Waits 4; missed = None; draw = None }
    ∷ record { actor = (Client 1); session = 5; asked = Call (requests.Do (statements.Insert (codes "t") None ((Text (codes "6")) ∷ Null ∷ (Num (pos 5)) ∷ []) None)); side = None; answer = answers.Refused 1062 None; missed = None; draw = None }
    ∷ record { actor = Copy; session = 2; asked = Poll; side = None; answer = answers.Waits 4; missed = None; draw = None }
    ∷ record { actor = Apply; session = 4; asked = Call requests.Commit; side = None; answer = answers.Ok 0; missed = None; draw = None }
    ∷ record { actor = (Client 1); session = 5; asked = Call (requests.Do (statements.Update (codes "t") (record { column = codes "id"; value = (Num (pos 7)) } ∷ record { column = codes "m0"; value = (Num (pos 2)) } ∷ record { column = codes "v"; value = (Num (pos 2)) } ∷ []) (conditions.Range (record { column = codes "id"; sign = signs.Less; value = (Num (pos 99999999999)) } ∷ record { column = codes "id"; sign = signs.AtLeast; value = (Num (pos 5)) } ∷ [])))); side = None; answer = answers.Waits 2; missed = None; draw = None }
    ∷ record { actor = (Client 1); session = 5; asked = Poll; side = None; answer = answers.TimedOut 1; missed = None; draw = None }
    ∷ record { actor = Copy; session = 2; asked = Poll; side = None; answer = answers.Ok 0; missed = None; draw = None }
    ∷ record { actor = Copy; session = 2; asked = Call requests.Commit; side = None; answer = answers.Ok 0; missed = None; draw = None }
    ∷ record { actor = Op; session = 0; asked = Command commanded.Wait; side = None; answer = answers.Ok 0; missed = None; draw = None }
    ∷ record { actor = Op; session = 0; asked = Command commanded.Wait; side = None; answer = answers.Ok 0; missed = None; draw = None }
    ∷ record { actor = Op; session = 0; asked = Command commanded.Unpostpone; side = None; answer = answers.Ok 0; missed = None; draw = None }
    ∷ record { actor = Lock; session = 6; asked = Call (requests.Create (record { name = codes "_t_del"; columns = (record { name = codes "id"; kind = Int 4 false; nullable = false; default = None; auto = false } ∷ []); uniques = (record { name = None; places = (0 ∷ []) } ∷ []); indexes = []; comment = codes "ghost-cut-over-sentry"; start = None })); side = None; answer = answers.Ok 0; missed = None; draw = None }
    ∷ record { actor = Op; session = 0; asked = Command commanded.Panic; side = None; answer = answers.Ok 0; missed = None; draw = None }
    ∷ record { actor = Insp; session = 1; asked = Call requests.ShowTables; side = None; answer = answers.Tables (record { name = codes "_t_del"; comment = codes "ghost-cut-over-sentry" } ∷ record { name = codes "_t_ghc"; comment = [] } ∷ record { name = codes "_t_gho"; comment = [] } ∷ record { name = codes "t"; comment = [] } ∷ []); missed = None; draw = None }
    ∷ record { actor = Op; session = 0; asked = Command commanded.Wait; side = None; answer = answers.Ok 0; missed = None; draw = None }
    ∷ record { actor = Insp; session = 1; asked = Call (requests.Drop (codes "_t_del")); side = None; answer = answers.Ok 0; missed = None; draw = None }
    ∷ []

abbrev reported_111 : WorkedFacts
reported_111 =
    record {
      verdict = verdicts.Reverted (causes.Panic 44);
      ended = (Some (2, 1) ∷ Some (2, 2) ∷ Some (1, 1) ∷ Some (1, 2) ∷ Some (1, 3) ∷ Some (1, 4) ∷ []);
      left = (record { schema = record { name = codes "t"; columns = (record { name = codes "id"; kind = Int 1 false; nullable = false; default = None; auto = false } ∷ record { name = codes "m0"; kind = Int 4 false; nullable = true; default = (Some Null); auto = false } ∷ record { name = codes "v"; kind = Int 4 false; nullable = true; default = (Some Null); auto = false } ∷ []); uniques = (record { name = None; places = (0 ∷ []) } ∷ record { name = (Some (codes "u0")); places = (1 ∷ []) } ∷ []); indexes = []; comment = []; start = None }; rows = (((Num (pos 3)) ∷ Null ∷ (Num (pos 5)) ∷ []) ∷ ((Num (pos 6)) ∷ (Num (pos 4)) ∷ Null ∷ []) ∷ ((Num (pos 7)) ∷ (Num (pos 3)) ∷ Null ∷ []) ∷ []) } ∷ []);
      alone = (((replies.Ok 2) ∷ []) ∷ ((replies.Ok 0) ∷ []) ∷ ((replies.Error 1062) ∷ []) ∷ ((replies.Error 1062) ∷ []) ∷ ((replies.Error 1062) ∷ []) ∷ ((replies.Error 1205) ∷ []) ∷ []);
      over = replicate 46 false ++ replicate 1 true;
      bound = 18632;
      replies = (((1, 1, (Some (replies.Error 1062))) ∷ (2, 1, (Some (replies.Error 1062))) ∷ (3, 1, (Some (replies.Error 1062))) ∷ (4, 1, (Some (replies.Error 1205))) ∷ [])) ∷ (((1, 1, (Some (replies.Ok 2))) ∷ (2, 1, (Some (replies.Ok 0))) ∷ [])) ∷ [];
    }

worked_111 : IsWorked plan_111 journal_111 reported_111
unfolding computing
worked_111 = record { asks = refl; sessions = refl; answers = refl; sides = refl; struck = refl; verdict = refl; ended = refl; order = refl; left = refl; serial = refl; alone = refl; over = refl; online = refl; bounded = refl; replies = refl }
