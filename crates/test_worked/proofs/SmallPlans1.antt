-- Small worked plans, turn by turn, each with the one thing that it shows: clients beside the copy and the cut-over.
use Rattle.std.proofs.Common.{pos, true, false, List, [], ◌∷◌, ◌++◌, Some, None, refl}
use Rattle.std.specs.Prelude.{codes, replicate}
use Rattle.base_values.specs.declared.value.Value.TheVariants.{Null, Num, Text}
use Rattle.base_values.specs.declared.kind.Kind.TheVariants.{Int, VarChar}
use Rattle.base_values.specs.declared.span.Bound.TheVariants.{Closed}
use Rattle.base_values.specs.declared.row_conversion.clause.Clause.TheVariants as clauses
use Rattle.base_values.specs.declared.row_conversion.clause.ColumnPosition.TheVariants.{Unsaid}
use Rattle.base_values.specs.declared.row_conversion.map.MapColumn.{MapColumn}
use Rattle.base_values.specs.declared.row_conversion.map.Origin.TheVariants as from
use Rattle.base_values.specs.declared.event.Change.TheVariants as changes
use Rattle.base_script.specs.declared.actor.Actor.TheVariants.{Insp, Copy, Apply, Lock, Ren, Client}
use Rattle.base_script.specs.declared.actor.Side.TheVariants as sides_at
use Rattle.base_script.specs.declared.loss.Loss.TheVariants as losses
use Rattle.base_script.specs.declared.script.ScriptWord.TheVariants as words
use Rattle.base_script.specs.declared.statement.Statement.TheVariants as statements
use Rattle.base_script.specs.declared.statement.Condition.TheVariants as conditions
use Rattle.base_script.specs.declared.statement.Shown.TheVariants as shown
use Rattle.server_model.specs.declared.transaction.Reply.TheVariants as replies
use Rattle.server_model.specs.declared.request.Request.TheVariants as requests
use Rattle.server_model.specs.declared.answer.Answer.TheVariants as answers
use Rattle.server_model.specs.declared.entry.Entry.{Entry}
use Rattle.server_model.specs.declared.entry.Asked.TheVariants.{Call, Poll}
use Rattle.server_model.specs.declared.outcome.Task.TheVariants as tasks
use Rattle.server_model.specs.declared.outcome.Cause.TheVariants as causes
use Rattle.server_model.specs.declared.outcome.Verdict.TheVariants as verdicts
use Rattle.plan_data.specs.PlanData.{PlanData}
use Rattle.test_worked.proofs.Computing.{computing, WorkedFacts, IsWorked}

-- A client's DELETE waits behind a chunk's share lock, and the event that it logs is applied.
abbrev map_after_chunk : List MapColumn
map_after_chunk = (record { kind = Int 4 false; nullable = false; origin = from.Old 0 } ∷ record { kind = Int 4 false; nullable = true; origin = from.Added Null } ∷ [])

abbrev pub plan_after_chunk : PlanData
plan_after_chunk = record { table = codes "t"; alter = (clauses.Add (record { name = codes "b"; kind = Int 4 false; nullable = None; default = None; auto = false }) Unsaid ∷ []); tables = (record { schema = record { name = codes "t"; columns = (record { name = codes "id"; kind = Int 4 false; nullable = false; default = None; auto = false } ∷ []); uniques = (record { name = None; places = (0 ∷ []) } ∷ []); indexes = []; comment = []; start = None }; rows = (((Num (pos 1)) ∷ []) ∷ ((Num (pos 2)) ∷ []) ∷ []) } ∷ []); clients = ((record { line = 1; word = (words.Do (statements.Delete (codes "t") (conditions.Equal (record { column = codes "id"; value = (Num (pos 1)) } ∷ [])))) } ∷ []) ∷ []); operator = []; faults = []; turns = (record { actor = Insp; times = 5 } ∷ record { actor = Copy; times = 3 } ∷ record { actor = (Client 1); times = 1 } ∷ record { actor = Copy; times = 2 } ∷ record { actor = (Client 1); times = 1 } ∷ record { actor = Apply; times = 4 } ∷ []); options = record { chunk_size = 1000; dml_batch_size = 10; default_retries = 60; max_backlog = 100; drain_limit = 2000; client_wait = 20000; tool_wait = 2000; max_load = 64; turn_limit = 200000; notes = 0; note_every = 100; replica_step = 0; replica_pause = 1; max_lag = 10; resume = false; approve_renamed_columns = false; initially_drop_ghost_table = false; initially_drop_old_table = false; ok_to_drop_table = false; postpone = false; show_history = true; show_turns = true; show_tables = true; show_replies = true } }

abbrev pub journal_after_chunk : List Entry
journal_after_chunk =
    record { actor = Insp; session = 1; asked = Call requests.ShowTables; side = None; answer = answers.Tables (record { name = codes "t"; comment = [] } ∷ []); missed = None; draw = None }
    ∷ record { actor = Insp; session = 1; asked = Call (requests.Create (record { name = codes "_t_ghc"; columns = (record { name = codes "id"; kind = Int 8 false; nullable = false; default = None; auto = false } ∷ record { name = codes "hint"; kind = VarChar 64; nullable = false; default = None; auto = false } ∷ record { name = codes "value"; kind = VarChar 255; nullable = false; default = None; auto = false } ∷ []); uniques = (record { name = None; places = (0 ∷ []) } ∷ []); indexes = []; comment = []; start = None })); side = None; answer = answers.Ok 0; missed = None; draw = None }
    ∷ record { actor = Insp; session = 1; asked = Call (requests.Create (record { name = codes "_t_gho"; columns = (record { name = codes "id"; kind = Int 4 false; nullable = false; default = None; auto = false } ∷ record { name = codes "b"; kind = Int 4 false; nullable = true; default = (Some Null); auto = false } ∷ []); uniques = (record { name = None; places = (0 ∷ []) } ∷ []); indexes = []; comment = []; start = None })); side = None; answer = answers.Ok 0; missed = None; draw = None }
    ∷ record { actor = Insp; session = 1; asked = Call requests.LogEnd; side = None; answer = answers.At 0; missed = None; draw = None }
    ∷ record { actor = Insp; session = 1; asked = Call (requests.Ends (codes "t")); side = None; answer = answers.Ends (Some (record { least = ((Num (pos 1)) ∷ []); greatest = ((Num (pos 2)) ∷ []) })); missed = None; draw = None }
    ∷ record { actor = Copy; session = 2; asked = Call (requests.ChunkEnd (codes "t") (Closed ((Num (pos 1)) ∷ [])) ((Num (pos 2)) ∷ []) 1000); side = None; answer = answers.End ((Num (pos 2)) ∷ []); missed = None; draw = None }
    ∷ record { actor = Copy; session = 2; asked = Call (requests.BeginSpan (codes "t") (record { low = (Closed ((Num (pos 1)) ∷ [])); high = (Closed ((Num (pos 2)) ∷ [])) }) 1000); side = None; answer = answers.Keys (((Num (pos 1)) ∷ []) ∷ ((Num (pos 2)) ∷ []) ∷ []) ((Num (pos 2)) ∷ []); missed = None; draw = None }
    ∷ record { actor = Copy; session = 2; asked = Call (requests.CopyRow (codes "t") (codes "_t_gho") map_after_chunk ((Num (pos 1)) ∷ [])); side = None; answer = answers.Ok 1; missed = None; draw = None }
    ∷ record { actor = (Client 1); session = 3; asked = Call (requests.Do (statements.Delete (codes "t") (conditions.Equal (record { column = codes "id"; value = (Num (pos 1)) } ∷ [])))); side = None; answer = answers.Waits 2; missed = None; draw = None }
    ∷ record { actor = Copy; session = 2; asked = Call (requests.CopyRow (codes "t") (codes "_t_gho") map_after_chunk ((Num (pos 2)) ∷ [])); side = None; answer = answers.Ok 1; missed = None; draw = None }
    ∷ record { actor = Copy; session = 2; asked = Call requests.Commit; side = None; answer = answers.Ok 0; missed = None; draw = None }
    ∷ record { actor = (Client 1); session = 3; asked = Poll; side = None; answer = answers.Ok 1; missed = None; draw = None }
    ∷ record { actor = Apply; session = 4; asked = Call (requests.ReadLog 0 10 (codes "t" ∷ codes "_t_ghc" ∷ [])); side = None; answer = answers.Events (record { table = codes "t"; change = changes.Delete ((Num (pos 1)) ∷ []) } ∷ []) 3; missed = None; draw = None }
    ∷ record { actor = Apply; session = 4; asked = Call requests.Begin; side = None; answer = answers.Ok 0; missed = None; draw = None }
    ∷ record { actor = Apply; session = 4; asked = Call (requests.Do (statements.Delete (codes "_t_gho") (conditions.Equal (record { column = codes "id"; value = (Num (pos 1)) } ∷ [])))); side = None; answer = answers.Ok 1; missed = None; draw = None }
    ∷ record { actor = Apply; session = 4; asked = Call requests.Commit; side = None; answer = answers.Ok 0; missed = None; draw = None }
    ∷ record { actor = Lock; session = 5; asked = Call (requests.Create (record { name = codes "_t_del"; columns = (record { name = codes "id"; kind = Int 4 false; nullable = false; default = None; auto = false } ∷ []); uniques = (record { name = None; places = (0 ∷ []) } ∷ []); indexes = []; comment = codes "ghost-cut-over-sentry"; start = None })); side = None; answer = answers.Ok 0; missed = None; draw = None }
    ∷ record { actor = Lock; session = 5; asked = Call (requests.LockTables (codes "t" ∷ codes "_t_del" ∷ [])); side = None; answer = answers.Ok 0; missed = None; draw = None }
    ∷ record { actor = Insp; session = 1; asked = Call (requests.Do (statements.Insert (codes "_t_ghc") None ((Num (pos 1)) ∷ (Text (codes "cut-over")) ∷ (Text (codes "1")) ∷ []) None)); side = None; answer = answers.Ok 1; missed = None; draw = None }
    ∷ record { actor = Apply; session = 4; asked = Call (requests.ReadLog 3 10 (codes "t" ∷ codes "_t_ghc" ∷ [])); side = None; answer = answers.Events (record { table = codes "_t_ghc"; change = changes.Write ((Num (pos 1)) ∷ (Text (codes "cut-over")) ∷ (Text (codes "1")) ∷ []) } ∷ []) 5; missed = None; draw = None }
    ∷ record { actor = Ren; session = 6; asked = Call (requests.Rename (record { old = codes "t"; new = codes "_t_del" } ∷ record { old = codes "_t_gho"; new = codes "t" } ∷ [])); side = None; answer = answers.Waits 5; missed = None; draw = None }
    ∷ record { actor = Insp; session = 1; asked = Call requests.ShowWaiting; side = None; answer = answers.Waiting (record { session = 6; names = (codes "t" ∷ codes "_t_del" ∷ codes "_t_gho" ∷ []); by = 5 } ∷ []); missed = None; draw = None }
    ∷ record { actor = Lock; session = 5; asked = Call (requests.Drop (codes "_t_del")); side = None; answer = answers.Ok 0; missed = None; draw = None }
    ∷ record { actor = Ren; session = 6; asked = Poll; side = None; answer = answers.Waits 5; missed = None; draw = None }
    ∷ record { actor = Lock; session = 5; asked = Call requests.Unlock; side = None; answer = answers.Ok 0; missed = None; draw = None }
    ∷ record { actor = Ren; session = 6; asked = Poll; side = None; answer = answers.Ok 0; missed = None; draw = None }
    ∷ record { actor = Insp; session = 1; asked = Call requests.ShowTables; side = None; answer = answers.Tables (record { name = codes "_t_del"; comment = [] } ∷ record { name = codes "_t_ghc"; comment = [] } ∷ record { name = codes "t"; comment = [] } ∷ []); missed = None; draw = None }
    ∷ record { actor = Insp; session = 1; asked = Call (requests.Drop (codes "_t_ghc")); side = None; answer = answers.Ok 0; missed = None; draw = None }
    ∷ []

abbrev reported_after_chunk : WorkedFacts
reported_after_chunk =
    record {
      verdict = verdicts.Done;
      ended = (Some (1, 1) ∷ None ∷ []);
      left = (record { schema = record { name = codes "t"; columns = (record { name = codes "id"; kind = Int 4 false; nullable = false; default = None; auto = false } ∷ record { name = codes "b"; kind = Int 4 false; nullable = true; default = (Some Null); auto = false } ∷ []); uniques = (record { name = None; places = (0 ∷ []) } ∷ []); indexes = []; comment = []; start = None }; rows = (((Num (pos 2)) ∷ Null ∷ []) ∷ []) } ∷ []);
      alone = (((replies.Ok 1) ∷ []) ∷ [] ∷ []);
      over = replicate 27 false ++ replicate 1 true;
      bound = 266808574;
      replies = (((1, 1, (Some (replies.Ok 1))) ∷ [])) ∷ [];
    }

worked_after_chunk : IsWorked plan_after_chunk journal_after_chunk reported_after_chunk
unfolding computing
worked_after_chunk = record { asks = refl; sessions = refl; answers = refl; sides = refl; struck = refl; verdict = refl; ended = refl; order = refl; left = refl; serial = refl; alone = refl; over = refl; online = refl; bounded = refl; replies = refl }

-- A REPLACE of a logged row displaces another in the new table, and the update of a key puts it back.
abbrev map_displaced : List MapColumn
map_displaced = (record { kind = Int 4 false; nullable = false; origin = from.Old 0 } ∷ record { kind = VarChar 5; nullable = true; origin = from.Old 1 } ∷ record { kind = Int 4 false; nullable = true; origin = from.Added Null } ∷ [])

abbrev plan_displaced : PlanData
plan_displaced = record { table = codes "t"; alter = (clauses.Add (record { name = codes "b"; kind = Int 4 false; nullable = None; default = None; auto = false }) Unsaid ∷ []); tables = (record { schema = record { name = codes "t"; columns = (record { name = codes "id"; kind = Int 4 false; nullable = false; default = None; auto = false } ∷ record { name = codes "m"; kind = VarChar 5; nullable = true; default = (Some Null); auto = false } ∷ []); uniques = (record { name = None; places = (0 ∷ []) } ∷ record { name = (Some (codes "m")); places = (1 ∷ []) } ∷ []); indexes = []; comment = []; start = None }; rows = (((Num (pos 2)) ∷ (Text (codes "y")) ∷ []) ∷ ((Num (pos 3)) ∷ Null ∷ []) ∷ ((Num (pos 4)) ∷ Null ∷ []) ∷ []) } ∷ []); clients = ((record { line = 1; word = (words.Do (statements.Insert (codes "t") None ((Num (pos 1)) ∷ (Text (codes "x")) ∷ []) None)) } ∷ record { line = 2; word = (words.Do (statements.Delete (codes "t") (conditions.Equal (record { column = codes "id"; value = (Num (pos 1)) } ∷ [])))) } ∷ record { line = 3; word = (words.Do (statements.Update (codes "t") (record { column = codes "m"; value = (Text (codes "x")) } ∷ []) (conditions.Equal (record { column = codes "id"; value = (Num (pos 2)) } ∷ [])))) } ∷ []) ∷ []); operator = []; faults = []; turns = (record { actor = Insp; times = 5 } ∷ record { actor = (Client 1); times = 3 } ∷ record { actor = Copy; times = 6 } ∷ record { actor = Apply; times = 7 } ∷ []); options = record { chunk_size = 1000; dml_batch_size = 10; default_retries = 60; max_backlog = 100; drain_limit = 2000; client_wait = 20000; tool_wait = 2000; max_load = 64; turn_limit = 200000; notes = 0; note_every = 100; replica_step = 0; replica_pause = 1; max_lag = 10; resume = false; approve_renamed_columns = false; initially_drop_ghost_table = false; initially_drop_old_table = false; ok_to_drop_table = false; postpone = false; show_history = true; show_turns = true; show_tables = true; show_replies = true } }

abbrev journal_displaced : List Entry
journal_displaced =
    record { actor = Insp; session = 1; asked = Call requests.ShowTables; side = None; answer = answers.Tables (record { name = codes "t"; comment = [] } ∷ []); missed = None; draw = None }
    ∷ record { actor = Insp; session = 1; asked = Call (requests.Create (record { name = codes "_t_ghc"; columns = (record { name = codes "id"; kind = Int 8 false; nullable = false; default = None; auto = false } ∷ record { name = codes "hint"; kind = VarChar 64; nullable = false; default = None; auto = false } ∷ record { name = codes "value"; kind = VarChar 255; nullable = false; default = None; auto = false } ∷ []); uniques = (record { name = None; places = (0 ∷ []) } ∷ []); indexes = []; comment = []; start = None })); side = None; answer = answers.Ok 0; missed = None; draw = None }
    ∷ record { actor = Insp; session = 1; asked = Call (requests.Create (record { name = codes "_t_gho"; columns = (record { name = codes "id"; kind = Int 4 false; nullable = false; default = None; auto = false } ∷ record { name = codes "m"; kind = VarChar 5; nullable = true; default = (Some Null); auto = false } ∷ record { name = codes "b"; kind = Int 4 false; nullable = true; default = (Some Null); auto = false } ∷ []); uniques = (record { name = None; places = (0 ∷ []) } ∷ record { name = (Some (codes "m")); places = (1 ∷ []) } ∷ []); indexes = []; comment = []; start = None })); side = None; answer = answers.Ok 0; missed = None; draw = None }
    ∷ record { actor = Insp; session = 1; asked = Call requests.LogEnd; side = None; answer = answers.At 0; missed = None; draw = None }
    ∷ record { actor = Insp; session = 1; asked = Call (requests.Ends (codes "t")); side = None; answer = answers.Ends (Some (record { least = ((Num (pos 2)) ∷ []); greatest = ((Num (pos 4)) ∷ []) })); missed = None; draw = None }
    ∷ record { actor = (Client 1); session = 2; asked = Call (requests.Do (statements.Insert (codes "t") None ((Num (pos 1)) ∷ (Text (codes "x")) ∷ []) None)); side = None; answer = answers.Ok 1; missed = None; draw = None }
    ∷ record { actor = (Client 1); session = 2; asked = Call (requests.Do (statements.Delete (codes "t") (conditions.Equal (record { column = codes "id"; value = (Num (pos 1)) } ∷ [])))); side = None; answer = answers.Ok 1; missed = None; draw = None }
    ∷ record { actor = (Client 1); session = 2; asked = Call (requests.Do (statements.Update (codes "t") (record { column = codes "m"; value = (Text (codes "x")) } ∷ []) (conditions.Equal (record { column = codes "id"; value = (Num (pos 2)) } ∷ [])))); side = None; answer = answers.Ok 1; missed = None; draw = None }
    ∷ record { actor = Copy; session = 3; asked = Call (requests.ChunkEnd (codes "t") (Closed ((Num (pos 2)) ∷ [])) ((Num (pos 4)) ∷ []) 1000); side = None; answer = answers.End ((Num (pos 4)) ∷ []); missed = None; draw = None }
    ∷ record { actor = Copy; session = 3; asked = Call (requests.BeginSpan (codes "t") (record { low = (Closed ((Num (pos 2)) ∷ [])); high = (Closed ((Num (pos 4)) ∷ [])) }) 1000); side = None; answer = answers.Keys (((Num (pos 2)) ∷ []) ∷ ((Num (pos 3)) ∷ []) ∷ ((Num (pos 4)) ∷ []) ∷ []) ((Num (pos 4)) ∷ []); missed = None; draw = None }
    ∷ record { actor = Copy; session = 3; asked = Call (requests.CopyRow (codes "t") (codes "_t_gho") map_displaced ((Num (pos 2)) ∷ [])); side = None; answer = answers.Ok 1; missed = None; draw = None }
    ∷ record { actor = Copy; session = 3; asked = Call (requests.CopyRow (codes "t") (codes "_t_gho") map_displaced ((Num (pos 3)) ∷ [])); side = None; answer = answers.Ok 1; missed = None; draw = None }
    ∷ record { actor = Copy; session = 3; asked = Call (requests.CopyRow (codes "t") (codes "_t_gho") map_displaced ((Num (pos 4)) ∷ [])); side = None; answer = answers.Ok 1; missed = None; draw = None }
    ∷ record { actor = Copy; session = 3; asked = Call requests.Commit; side = None; answer = answers.Ok 0; missed = None; draw = None }
    ∷ record { actor = Apply; session = 4; asked = Call (requests.ReadLog 0 10 (codes "t" ∷ codes "_t_ghc" ∷ [])); side = None; answer = answers.Events (record { table = codes "t"; change = changes.Write ((Num (pos 1)) ∷ (Text (codes "x")) ∷ []) } ∷ record { table = codes "t"; change = changes.Delete ((Num (pos 1)) ∷ (Text (codes "x")) ∷ []) } ∷ record { table = codes "t"; change = changes.Update ((Num (pos 2)) ∷ (Text (codes "y")) ∷ []) ((Num (pos 2)) ∷ (Text (codes "x")) ∷ []) } ∷ []) 6; missed = None; draw = None }
    ∷ record { actor = Apply; session = 4; asked = Call requests.Begin; side = None; answer = answers.Ok 0; missed = None; draw = None }
    ∷ record { actor = Apply; session = 4; asked = Call (requests.Do (statements.Replace (codes "_t_gho") None ((Num (pos 1)) ∷ (Text (codes "x")) ∷ Null ∷ []) None)); side = None; answer = answers.Ok 2; missed = None; draw = None }
    ∷ record { actor = Apply; session = 4; asked = Call (requests.Do (statements.Delete (codes "_t_gho") (conditions.Equal (record { column = codes "id"; value = (Num (pos 1)) } ∷ [])))); side = None; answer = answers.Ok 1; missed = None; draw = None }
    ∷ record { actor = Apply; session = 4; asked = Call (requests.Do (statements.Delete (codes "_t_gho") (conditions.Equal (record { column = codes "id"; value = (Num (pos 2)) } ∷ [])))); side = None; answer = answers.Ok 0; missed = None; draw = None }
    ∷ record { actor = Apply; session = 4; asked = Call (requests.Do (statements.Replace (codes "_t_gho") None ((Num (pos 2)) ∷ (Text (codes "x")) ∷ Null ∷ []) None)); side = None; answer = answers.Ok 1; missed = None; draw = None }
    ∷ record { actor = Apply; session = 4; asked = Call requests.Commit; side = None; answer = answers.Ok 0; missed = None; draw = None }
    ∷ record { actor = Lock; session = 5; asked = Call (requests.Create (record { name = codes "_t_del"; columns = (record { name = codes "id"; kind = Int 4 false; nullable = false; default = None; auto = false } ∷ []); uniques = (record { name = None; places = (0 ∷ []) } ∷ []); indexes = []; comment = codes "ghost-cut-over-sentry"; start = None })); side = None; answer = answers.Ok 0; missed = None; draw = None }
    ∷ record { actor = Lock; session = 5; asked = Call (requests.LockTables (codes "t" ∷ codes "_t_del" ∷ [])); side = None; answer = answers.Ok 0; missed = None; draw = None }
    ∷ record { actor = Insp; session = 1; asked = Call (requests.Do (statements.Insert (codes "_t_ghc") None ((Num (pos 1)) ∷ (Text (codes "cut-over")) ∷ (Text (codes "1")) ∷ []) None)); side = None; answer = answers.Ok 1; missed = None; draw = None }
    ∷ record { actor = Apply; session = 4; asked = Call (requests.ReadLog 6 10 (codes "t" ∷ codes "_t_ghc" ∷ [])); side = None; answer = answers.Events (record { table = codes "_t_ghc"; change = changes.Write ((Num (pos 1)) ∷ (Text (codes "cut-over")) ∷ (Text (codes "1")) ∷ []) } ∷ []) 11; missed = None; draw = None }
    ∷ record { actor = Ren; session = 6; asked = Call (requests.Rename (record { old = codes "t"; new = codes "_t_del" } ∷ record { old = codes "_t_gho"; new = codes "t" } ∷ [])); side = None; answer = answers.Waits 5; missed = None; draw = None }
    ∷ record { actor = Insp; session = 1; asked = Call requests.ShowWaiting; side = None; answer = answers.Waiting (record { session = 6; names = (codes "t" ∷ codes "_t_del" ∷ codes "_t_gho" ∷ []); by = 5 } ∷ []); missed = None; draw = None }
    ∷ record { actor = Lock; session = 5; asked = Call (requests.Drop (codes "_t_del")); side = None; answer = answers.Ok 0; missed = None; draw = None }
    ∷ record { actor = Ren; session = 6; asked = Poll; side = None; answer = answers.Waits 5; missed = None; draw = None }
    ∷ record { actor = Lock; session = 5; asked = Call requests.Unlock; side = None; answer = answers.Ok 0; missed = None; draw = None }
    ∷ record { actor = Ren; session = 6; asked = Poll; side = None; answer = answers.Ok 0; missed = None; draw = None }
    ∷ record { actor = Insp; session = 1; asked = Call requests.ShowTables; side = None; answer = answers.Tables (record { name = codes "_t_del"; comment = [] } ∷ record { name = codes "_t_ghc"; comment = [] } ∷ record { name = codes "t"; comment = [] } ∷ []); missed = None; draw = None }
    ∷ record { actor = Insp; session = 1; asked = Call (requests.Drop (codes "_t_ghc")); side = None; answer = answers.Ok 0; missed = None; draw = None }
    ∷ []

abbrev reported_displaced : WorkedFacts
reported_displaced =
    record {
      verdict = verdicts.Done;
      ended = (Some (1, 1) ∷ Some (1, 2) ∷ Some (1, 3) ∷ None ∷ []);
      left = (record { schema = record { name = codes "t"; columns = (record { name = codes "id"; kind = Int 4 false; nullable = false; default = None; auto = false } ∷ record { name = codes "m"; kind = VarChar 5; nullable = true; default = (Some Null); auto = false } ∷ record { name = codes "b"; kind = Int 4 false; nullable = true; default = (Some Null); auto = false } ∷ []); uniques = (record { name = None; places = (0 ∷ []) } ∷ record { name = (Some (codes "m")); places = (1 ∷ []) } ∷ []); indexes = []; comment = []; start = None }; rows = (((Num (pos 2)) ∷ (Text (codes "x")) ∷ Null ∷ []) ∷ ((Num (pos 3)) ∷ Null ∷ Null ∷ []) ∷ ((Num (pos 4)) ∷ Null ∷ Null ∷ []) ∷ []) } ∷ []);
      alone = (((replies.Ok 1) ∷ []) ∷ ((replies.Ok 1) ∷ []) ∷ ((replies.Ok 1) ∷ []) ∷ [] ∷ []);
      over = replicate 32 false ++ replicate 1 true;
      bound = 419694976;
      replies = (((1, 1, (Some (replies.Ok 1))) ∷ (2, 1, (Some (replies.Ok 1))) ∷ (3, 1, (Some (replies.Ok 1))) ∷ [])) ∷ [];
    }

worked_displaced : IsWorked plan_displaced journal_displaced reported_displaced
unfolding computing
worked_displaced = record { asks = refl; sessions = refl; answers = refl; sides = refl; struck = refl; verdict = refl; ended = refl; order = refl; left = refl; serial = refl; alone = refl; over = refl; online = refl; bounded = refl; replies = refl }

-- LOCK TABLES waits behind an open transaction, a client waits behind it, and runs behind the RENAME on the new table.
abbrev map_after_lock : List MapColumn
map_after_lock = (record { kind = Int 4 false; nullable = false; origin = from.Old 0 } ∷ record { kind = Int 4 false; nullable = false; origin = from.Added (Num (pos 7)) } ∷ [])

abbrev pub plan_after_lock : PlanData
plan_after_lock = record { table = codes "t"; alter = (clauses.Add (record { name = codes "b"; kind = Int 4 false; nullable = (Some false); default = (Some (Num (pos 7))); auto = false }) Unsaid ∷ []); tables = (record { schema = record { name = codes "t"; columns = (record { name = codes "id"; kind = Int 4 false; nullable = false; default = None; auto = false } ∷ []); uniques = (record { name = None; places = (0 ∷ []) } ∷ []); indexes = []; comment = []; start = None }; rows = (((Num (pos 1)) ∷ []) ∷ []) } ∷ []); clients = ((record { line = 1; word = words.Begin } ∷ record { line = 2; word = (words.Do (statements.Insert (codes "t") None ((Num (pos 2)) ∷ []) None)) } ∷ record { line = 3; word = words.Commit } ∷ []) ∷ (record { line = 1; word = (words.Do (statements.Insert (codes "t") None ((Num (pos 3)) ∷ []) None)) } ∷ []) ∷ []); operator = []; faults = []; turns = (record { actor = Insp; times = 5 } ∷ record { actor = Copy; times = 4 } ∷ record { actor = (Client 1); times = 2 } ∷ record { actor = Lock; times = 2 } ∷ record { actor = (Client 2); times = 1 } ∷ record { actor = (Client 1); times = 1 } ∷ record { actor = Lock; times = 1 } ∷ []); options = record { chunk_size = 1000; dml_batch_size = 10; default_retries = 60; max_backlog = 100; drain_limit = 2000; client_wait = 20000; tool_wait = 2000; max_load = 64; turn_limit = 200000; notes = 0; note_every = 100; replica_step = 0; replica_pause = 1; max_lag = 10; resume = false; approve_renamed_columns = false; initially_drop_ghost_table = false; initially_drop_old_table = false; ok_to_drop_table = false; postpone = false; show_history = true; show_turns = true; show_tables = true; show_replies = true } }

abbrev pub journal_after_lock : List Entry
journal_after_lock =
    record { actor = Insp; session = 1; asked = Call requests.ShowTables; side = None; answer = answers.Tables (record { name = codes "t"; comment = [] } ∷ []); missed = None; draw = None }
    ∷ record { actor = Insp; session = 1; asked = Call (requests.Create (record { name = codes "_t_ghc"; columns = (record { name = codes "id"; kind = Int 8 false; nullable = false; default = None; auto = false } ∷ record { name = codes "hint"; kind = VarChar 64; nullable = false; default = None; auto = false } ∷ record { name = codes "value"; kind = VarChar 255; nullable = false; default = None; auto = false } ∷ []); uniques = (record { name = None; places = (0 ∷ []) } ∷ []); indexes = []; comment = []; start = None })); side = None; answer = answers.Ok 0; missed = None; draw = None }
    ∷ record { actor = Insp; session = 1; asked = Call (requests.Create (record { name = codes "_t_gho"; columns = (record { name = codes "id"; kind = Int 4 false; nullable = false; default = None; auto = false } ∷ record { name = codes "b"; kind = Int 4 false; nullable = false; default = (Some (Num (pos 7))); auto = false } ∷ []); uniques = (record { name = None; places = (0 ∷ []) } ∷ []); indexes = []; comment = []; start = None })); side = None; answer = answers.Ok 0; missed = None; draw = None }
    ∷ record { actor = Insp; session = 1; asked = Call requests.LogEnd; side = None; answer = answers.At 0; missed = None; draw = None }
    ∷ record { actor = Insp; session = 1; asked = Call (requests.Ends (codes "t")); side = None; answer = answers.Ends (Some (record { least = ((Num (pos 1)) ∷ []); greatest = ((Num (pos 1)) ∷ []) })); missed = None; draw = None }
    ∷ record { actor = Copy; session = 2; asked = Call (requests.ChunkEnd (codes "t") (Closed ((Num (pos 1)) ∷ [])) ((Num (pos 1)) ∷ []) 1000); side = None; answer = answers.End ((Num (pos 1)) ∷ []); missed = None; draw = None }
    ∷ record { actor = Copy; session = 2; asked = Call (requests.BeginSpan (codes "t") (record { low = (Closed ((Num (pos 1)) ∷ [])); high = (Closed ((Num (pos 1)) ∷ [])) }) 1000); side = None; answer = answers.Keys (((Num (pos 1)) ∷ []) ∷ []) ((Num (pos 1)) ∷ []); missed = None; draw = None }
    ∷ record { actor = Copy; session = 2; asked = Call (requests.CopyRow (codes "t") (codes "_t_gho") map_after_lock ((Num (pos 1)) ∷ [])); side = None; answer = answers.Ok 1; missed = None; draw = None }
    ∷ record { actor = Copy; session = 2; asked = Call requests.Commit; side = None; answer = answers.Ok 0; missed = None; draw = None }
    ∷ record { actor = (Client 1); session = 3; asked = Call requests.Begin; side = None; answer = answers.Ok 0; missed = None; draw = None }
    ∷ record { actor = (Client 1); session = 3; asked = Call (requests.Do (statements.Insert (codes "t") None ((Num (pos 2)) ∷ []) None)); side = None; answer = answers.Ok 1; missed = None; draw = None }
    ∷ record { actor = Lock; session = 4; asked = Call (requests.Create (record { name = codes "_t_del"; columns = (record { name = codes "id"; kind = Int 4 false; nullable = false; default = None; auto = false } ∷ []); uniques = (record { name = None; places = (0 ∷ []) } ∷ []); indexes = []; comment = codes "ghost-cut-over-sentry"; start = None })); side = None; answer = answers.Ok 0; missed = None; draw = None }
    ∷ record { actor = Lock; session = 4; asked = Call (requests.LockTables (codes "t" ∷ codes "_t_del" ∷ [])); side = None; answer = answers.Waits 3; missed = None; draw = None }
    ∷ record { actor = (Client 2); session = 5; asked = Call (requests.Do (statements.Insert (codes "t") None ((Num (pos 3)) ∷ []) None)); side = None; answer = answers.Waits 4; missed = None; draw = None }
    ∷ record { actor = (Client 1); session = 3; asked = Call requests.Commit; side = None; answer = answers.Ok 0; missed = None; draw = None }
    ∷ record { actor = Lock; session = 4; asked = Poll; side = None; answer = answers.Ok 0; missed = None; draw = None }
    ∷ record { actor = Insp; session = 1; asked = Call (requests.Do (statements.Insert (codes "_t_ghc") None ((Num (pos 1)) ∷ (Text (codes "cut-over")) ∷ (Text (codes "1")) ∷ []) None)); side = None; answer = answers.Ok 1; missed = None; draw = None }
    ∷ record { actor = Apply; session = 6; asked = Call (requests.ReadLog 0 10 (codes "t" ∷ codes "_t_ghc" ∷ [])); side = None; answer = answers.Events (record { table = codes "t"; change = changes.Write ((Num (pos 2)) ∷ []) } ∷ record { table = codes "_t_ghc"; change = changes.Write ((Num (pos 1)) ∷ (Text (codes "cut-over")) ∷ (Text (codes "1")) ∷ []) } ∷ []) 3; missed = None; draw = None }
    ∷ record { actor = (Client 2); session = 5; asked = Poll; side = None; answer = answers.Waits 4; missed = None; draw = None }
    ∷ record { actor = Apply; session = 6; asked = Call requests.Begin; side = None; answer = answers.Ok 0; missed = None; draw = None }
    ∷ record { actor = (Client 2); session = 5; asked = Poll; side = None; answer = answers.Waits 4; missed = None; draw = None }
    ∷ record { actor = Apply; session = 6; asked = Call (requests.Do (statements.Replace (codes "_t_gho") None ((Num (pos 2)) ∷ (Num (pos 7)) ∷ []) None)); side = None; answer = answers.Ok 1; missed = None; draw = None }
    ∷ record { actor = (Client 2); session = 5; asked = Poll; side = None; answer = answers.Waits 4; missed = None; draw = None }
    ∷ record { actor = Apply; session = 6; asked = Call requests.Commit; side = None; answer = answers.Ok 0; missed = None; draw = None }
    ∷ record { actor = Ren; session = 7; asked = Call (requests.Rename (record { old = codes "t"; new = codes "_t_del" } ∷ record { old = codes "_t_gho"; new = codes "t" } ∷ [])); side = None; answer = answers.Waits 4; missed = None; draw = None }
    ∷ record { actor = (Client 2); session = 5; asked = Poll; side = None; answer = answers.Waits 4; missed = None; draw = None }
    ∷ record { actor = Insp; session = 1; asked = Call requests.ShowWaiting; side = None; answer = answers.Waiting (record { session = 7; names = (codes "t" ∷ codes "_t_del" ∷ codes "_t_gho" ∷ []); by = 4 } ∷ []); missed = None; draw = None }
    ∷ record { actor = Lock; session = 4; asked = Call (requests.Drop (codes "_t_del")); side = None; answer = answers.Ok 0; missed = None; draw = None }
    ∷ record { actor = Ren; session = 7; asked = Poll; side = None; answer = answers.Waits 4; missed = None; draw = None }
    ∷ record { actor = (Client 2); session = 5; asked = Poll; side = None; answer = answers.Waits 4; missed = None; draw = None }
    ∷ record { actor = Lock; session = 4; asked = Call requests.Unlock; side = None; answer = answers.Ok 0; missed = None; draw = None }
    ∷ record { actor = Ren; session = 7; asked = Poll; side = None; answer = answers.Ok 0; missed = None; draw = None }
    ∷ record { actor = (Client 2); session = 5; asked = Poll; side = None; answer = answers.Refused 1136 None; missed = None; draw = None }
    ∷ record { actor = Insp; session = 1; asked = Call requests.ShowTables; side = None; answer = answers.Tables (record { name = codes "_t_del"; comment = [] } ∷ record { name = codes "_t_ghc"; comment = [] } ∷ record { name = codes "t"; comment = [] } ∷ []); missed = None; draw = None }
    ∷ record { actor = Insp; session = 1; asked = Call (requests.Drop (codes "_t_ghc")); side = None; answer = answers.Ok 0; missed = None; draw = None }
    ∷ []

abbrev reported_after_lock : WorkedFacts
reported_after_lock =
    record {
      verdict = verdicts.Done;
      ended = (Some (1, 1) ∷ None ∷ Some (2, 1) ∷ []);
      left = (record { schema = record { name = codes "t"; columns = (record { name = codes "id"; kind = Int 4 false; nullable = false; default = None; auto = false } ∷ record { name = codes "b"; kind = Int 4 false; nullable = false; default = (Some (Num (pos 7))); auto = false } ∷ []); uniques = (record { name = None; places = (0 ∷ []) } ∷ []); indexes = []; comment = []; start = None }; rows = (((Num (pos 1)) ∷ (Num (pos 7)) ∷ []) ∷ ((Num (pos 2)) ∷ (Num (pos 7)) ∷ []) ∷ []) } ∷ []);
      alone = (((replies.Ok 0) ∷ (replies.Ok 1) ∷ (replies.Ok 0) ∷ []) ∷ [] ∷ ((replies.Error 1136) ∷ []) ∷ []);
      over = replicate 34 false ++ replicate 1 true;
      bound = 459938137;
      replies = (((1, 1, (Some (replies.Ok 0))) ∷ (1, 2, (Some (replies.Ok 1))) ∷ (1, 3, (Some (replies.Ok 0))) ∷ [])) ∷ (((1, 1, (Some (replies.Error 1136))) ∷ [])) ∷ [];
    }

worked_after_lock : IsWorked plan_after_lock journal_after_lock reported_after_lock
unfolding computing
worked_after_lock = record { asks = refl; sessions = refl; answers = refl; sides = refl; struck = refl; verdict = refl; ended = refl; order = refl; left = refl; serial = refl; alone = refl; over = refl; online = refl; bounded = refl; replies = refl }

-- The lock session is lost with the sentry standing: the RENAME is refused, the sentry is dropped, and a second attempt succeeds.
abbrev map_lost_lock : List MapColumn
map_lost_lock = (record { kind = Int 4 false; nullable = false; origin = from.Old 0 } ∷ record { kind = Int 4 false; nullable = false; origin = from.Added (Num (pos 7)) } ∷ [])

abbrev pub plan_lost_lock : PlanData
plan_lost_lock = record { table = codes "t"; alter = (clauses.Add (record { name = codes "b"; kind = Int 4 false; nullable = (Some false); default = (Some (Num (pos 7))); auto = false }) Unsaid ∷ []); tables = (record { schema = record { name = codes "t"; columns = (record { name = codes "id"; kind = Int 4 false; nullable = false; default = None; auto = false } ∷ []); uniques = (record { name = None; places = (0 ∷ []) } ∷ []); indexes = []; comment = []; start = None }; rows = [] } ∷ []); clients = []; operator = []; faults = (losses.Nth Lock 3 sides_at.Before ∷ []); turns = []; options = record { chunk_size = 1000; dml_batch_size = 10; default_retries = 60; max_backlog = 100; drain_limit = 2000; client_wait = 20000; tool_wait = 2000; max_load = 64; turn_limit = 200000; notes = 0; note_every = 100; replica_step = 0; replica_pause = 1; max_lag = 10; resume = false; approve_renamed_columns = false; initially_drop_ghost_table = false; initially_drop_old_table = false; ok_to_drop_table = false; postpone = false; show_history = true; show_turns = true; show_tables = true; show_replies = true } }

abbrev pub journal_lost_lock : List Entry
journal_lost_lock =
    record { actor = Insp; session = 1; asked = Call requests.ShowTables; side = None; answer = answers.Tables (record { name = codes "t"; comment = [] } ∷ []); missed = None; draw = None }
    ∷ record { actor = Insp; session = 1; asked = Call (requests.Create (record { name = codes "_t_ghc"; columns = (record { name = codes "id"; kind = Int 8 false; nullable = false; default = None; auto = false } ∷ record { name = codes "hint"; kind = VarChar 64; nullable = false; default = None; auto = false } ∷ record { name = codes "value"; kind = VarChar 255; nullable = false; default = None; auto = false } ∷ []); uniques = (record { name = None; places = (0 ∷ []) } ∷ []); indexes = []; comment = []; start = None })); side = None; answer = answers.Ok 0; missed = None; draw = None }
    ∷ record { actor = Insp; session = 1; asked = Call (requests.Create (record { name = codes "_t_gho"; columns = (record { name = codes "id"; kind = Int 4 false; nullable = false; default = None; auto = false } ∷ record { name = codes "b"; kind = Int 4 false; nullable = false; default = (Some (Num (pos 7))); auto = false } ∷ []); uniques = (record { name = None; places = (0 ∷ []) } ∷ []); indexes = []; comment = []; start = None })); side = None; answer = answers.Ok 0; missed = None; draw = None }
    ∷ record { actor = Insp; session = 1; asked = Call requests.LogEnd; side = None; answer = answers.At 0; missed = None; draw = None }
    ∷ record { actor = Insp; session = 1; asked = Call (requests.Ends (codes "t")); side = None; answer = answers.Ends None; missed = None; draw = None }
    ∷ record { actor = Lock; session = 2; asked = Call (requests.Create (record { name = codes "_t_del"; columns = (record { name = codes "id"; kind = Int 4 false; nullable = false; default = None; auto = false } ∷ []); uniques = (record { name = None; places = (0 ∷ []) } ∷ []); indexes = []; comment = codes "ghost-cut-over-sentry"; start = None })); side = None; answer = answers.Ok 0; missed = None; draw = None }
    ∷ record { actor = Lock; session = 2; asked = Call (requests.LockTables (codes "t" ∷ codes "_t_del" ∷ [])); side = None; answer = answers.Ok 0; missed = None; draw = None }
    ∷ record { actor = Insp; session = 1; asked = Call (requests.Do (statements.Insert (codes "_t_ghc") None ((Num (pos 1)) ∷ (Text (codes "cut-over")) ∷ (Text (codes "1")) ∷ []) None)); side = None; answer = answers.Ok 1; missed = None; draw = None }
    ∷ record { actor = Apply; session = 3; asked = Call (requests.ReadLog 0 10 (codes "t" ∷ codes "_t_ghc" ∷ [])); side = None; answer = answers.Events (record { table = codes "_t_ghc"; change = changes.Write ((Num (pos 1)) ∷ (Text (codes "cut-over")) ∷ (Text (codes "1")) ∷ []) } ∷ []) 1; missed = None; draw = None }
    ∷ record { actor = Ren; session = 4; asked = Call (requests.Rename (record { old = codes "t"; new = codes "_t_del" } ∷ record { old = codes "_t_gho"; new = codes "t" } ∷ [])); side = None; answer = answers.Waits 2; missed = None; draw = None }
    ∷ record { actor = Insp; session = 1; asked = Call requests.ShowWaiting; side = None; answer = answers.Waiting (record { session = 4; names = (codes "t" ∷ codes "_t_del" ∷ codes "_t_gho" ∷ []); by = 2 } ∷ []); missed = None; draw = None }
    ∷ record { actor = Lock; session = 2; asked = Call (requests.Drop (codes "_t_del")); side = (Some sides_at.Before); answer = answers.Lost; missed = None; draw = None }
    ∷ record { actor = Ren; session = 4; asked = Poll; side = None; answer = answers.Refused 1050 None; missed = None; draw = None }
    ∷ record { actor = Insp; session = 1; asked = Call requests.ShowTables; side = None; answer = answers.Tables (record { name = codes "_t_del"; comment = codes "ghost-cut-over-sentry" } ∷ record { name = codes "_t_ghc"; comment = [] } ∷ record { name = codes "_t_gho"; comment = [] } ∷ record { name = codes "t"; comment = [] } ∷ []); missed = None; draw = None }
    ∷ record { actor = Insp; session = 1; asked = Call (requests.Drop (codes "_t_del")); side = None; answer = answers.Ok 0; missed = None; draw = None }
    ∷ record { actor = Lock; session = 5; asked = Call (requests.Create (record { name = codes "_t_del"; columns = (record { name = codes "id"; kind = Int 4 false; nullable = false; default = None; auto = false } ∷ []); uniques = (record { name = None; places = (0 ∷ []) } ∷ []); indexes = []; comment = codes "ghost-cut-over-sentry"; start = None })); side = None; answer = answers.Ok 0; missed = None; draw = None }
    ∷ record { actor = Lock; session = 5; asked = Call (requests.LockTables (codes "t" ∷ codes "_t_del" ∷ [])); side = None; answer = answers.Ok 0; missed = None; draw = None }
    ∷ record { actor = Insp; session = 1; asked = Call (requests.Do (statements.Insert (codes "_t_ghc") None ((Num (pos 2)) ∷ (Text (codes "cut-over")) ∷ (Text (codes "2")) ∷ []) None)); side = None; answer = answers.Ok 1; missed = None; draw = None }
    ∷ record { actor = Apply; session = 3; asked = Call (requests.ReadLog 1 10 (codes "t" ∷ codes "_t_ghc" ∷ [])); side = None; answer = answers.Events (record { table = codes "_t_ghc"; change = changes.Write ((Num (pos 2)) ∷ (Text (codes "cut-over")) ∷ (Text (codes "2")) ∷ []) } ∷ []) 2; missed = None; draw = None }
    ∷ record { actor = Ren; session = 4; asked = Call (requests.Rename (record { old = codes "t"; new = codes "_t_del" } ∷ record { old = codes "_t_gho"; new = codes "t" } ∷ [])); side = None; answer = answers.Waits 5; missed = None; draw = None }
    ∷ record { actor = Insp; session = 1; asked = Call requests.ShowWaiting; side = None; answer = answers.Waiting (record { session = 4; names = (codes "t" ∷ codes "_t_del" ∷ codes "_t_gho" ∷ []); by = 5 } ∷ []); missed = None; draw = None }
    ∷ record { actor = Lock; session = 5; asked = Call (requests.Drop (codes "_t_del")); side = None; answer = answers.Ok 0; missed = None; draw = None }
    ∷ record { actor = Ren; session = 4; asked = Poll; side = None; answer = answers.Waits 5; missed = None; draw = None }
    ∷ record { actor = Lock; session = 5; asked = Call requests.Unlock; side = None; answer = answers.Ok 0; missed = None; draw = None }
    ∷ record { actor = Ren; session = 4; asked = Poll; side = None; answer = answers.Ok 0; missed = None; draw = None }
    ∷ record { actor = Insp; session = 1; asked = Call requests.ShowTables; side = None; answer = answers.Tables (record { name = codes "_t_del"; comment = [] } ∷ record { name = codes "_t_ghc"; comment = [] } ∷ record { name = codes "t"; comment = [] } ∷ []); missed = None; draw = None }
    ∷ record { actor = Insp; session = 1; asked = Call (requests.Drop (codes "_t_ghc")); side = None; answer = answers.Ok 0; missed = None; draw = None }
    ∷ []

abbrev reported_lost_lock : WorkedFacts
reported_lost_lock =
    record {
      verdict = verdicts.Done;
      ended = (None ∷ []);
      left = (record { schema = record { name = codes "t"; columns = (record { name = codes "id"; kind = Int 4 false; nullable = false; default = None; auto = false } ∷ record { name = codes "b"; kind = Int 4 false; nullable = false; default = (Some (Num (pos 7))); auto = false } ∷ []); uniques = (record { name = None; places = (0 ∷ []) } ∷ []); indexes = []; comment = []; start = None }; rows = [] } ∷ []);
      alone = ([] ∷ []);
      over = replicate 26 false ++ replicate 1 true;
      bound = 216479607;
      replies = [];
    }

worked_lost_lock : IsWorked plan_lost_lock journal_lost_lock reported_lost_lock
unfolding computing
worked_lost_lock = record { asks = refl; sessions = refl; answers = refl; sides = refl; struck = refl; verdict = refl; ended = refl; order = refl; left = refl; serial = refl; alone = refl; over = refl; online = refl; bounded = refl; replies = refl }

-- The sentry is dropped and the lock session lost with the answer: the RENAME runs before the client that waits.
abbrev map_lost_drop : List MapColumn
map_lost_drop = (record { kind = Int 4 false; nullable = false; origin = from.Old 0 } ∷ record { kind = Int 4 false; nullable = false; origin = from.Added (Num (pos 7)) } ∷ [])

abbrev pub plan_lost_drop : PlanData
plan_lost_drop = record { table = codes "t"; alter = (clauses.Add (record { name = codes "b"; kind = Int 4 false; nullable = (Some false); default = (Some (Num (pos 7))); auto = false }) Unsaid ∷ []); tables = (record { schema = record { name = codes "t"; columns = (record { name = codes "id"; kind = Int 4 false; nullable = false; default = None; auto = false } ∷ []); uniques = (record { name = None; places = (0 ∷ []) } ∷ []); indexes = []; comment = []; start = None }; rows = [] } ∷ []); clients = ((record { line = 1; word = (words.Do (statements.Insert (codes "t") (Some (codes "id" ∷ [])) ((Num (pos 4)) ∷ []) None)) } ∷ []) ∷ []); operator = []; faults = (losses.Nth Lock 3 sides_at.After ∷ []); turns = (record { actor = Insp; times = 5 } ∷ record { actor = Lock; times = 2 } ∷ record { actor = (Client 1); times = 1 } ∷ record { actor = Insp; times = 1 } ∷ record { actor = Apply; times = 1 } ∷ record { actor = Ren; times = 1 } ∷ record { actor = Insp; times = 1 } ∷ record { actor = Lock; times = 1 } ∷ record { actor = (Client 1); times = 1 } ∷ record { actor = Ren; times = 1 } ∷ []); options = record { chunk_size = 1000; dml_batch_size = 10; default_retries = 60; max_backlog = 100; drain_limit = 2000; client_wait = 20000; tool_wait = 2000; max_load = 64; turn_limit = 200000; notes = 0; note_every = 100; replica_step = 0; replica_pause = 1; max_lag = 10; resume = false; approve_renamed_columns = false; initially_drop_ghost_table = false; initially_drop_old_table = false; ok_to_drop_table = false; postpone = false; show_history = true; show_turns = true; show_tables = true; show_replies = true } }

abbrev pub journal_lost_drop : List Entry
journal_lost_drop =
    record { actor = Insp; session = 1; asked = Call requests.ShowTables; side = None; answer = answers.Tables (record { name = codes "t"; comment = [] } ∷ []); missed = None; draw = None }
    ∷ record { actor = Insp; session = 1; asked = Call (requests.Create (record { name = codes "_t_ghc"; columns = (record { name = codes "id"; kind = Int 8 false; nullable = false; default = None; auto = false } ∷ record { name = codes "hint"; kind = VarChar 64; nullable = false; default = None; auto = false } ∷ record { name = codes "value"; kind = VarChar 255; nullable = false; default = None; auto = false } ∷ []); uniques = (record { name = None; places = (0 ∷ []) } ∷ []); indexes = []; comment = []; start = None })); side = None; answer = answers.Ok 0; missed = None; draw = None }
    ∷ record { actor = Insp; session = 1; asked = Call (requests.Create (record { name = codes "_t_gho"; columns = (record { name = codes "id"; kind = Int 4 false; nullable = false; default = None; auto = false } ∷ record { name = codes "b"; kind = Int 4 false; nullable = false; default = (Some (Num (pos 7))); auto = false } ∷ []); uniques = (record { name = None; places = (0 ∷ []) } ∷ []); indexes = []; comment = []; start = None })); side = None; answer = answers.Ok 0; missed = None; draw = None }
    ∷ record { actor = Insp; session = 1; asked = Call requests.LogEnd; side = None; answer = answers.At 0; missed = None; draw = None }
    ∷ record { actor = Insp; session = 1; asked = Call (requests.Ends (codes "t")); side = None; answer = answers.Ends None; missed = None; draw = None }
    ∷ record { actor = Lock; session = 2; asked = Call (requests.Create (record { name = codes "_t_del"; columns = (record { name = codes "id"; kind = Int 4 false; nullable = false; default = None; auto = false } ∷ []); uniques = (record { name = None; places = (0 ∷ []) } ∷ []); indexes = []; comment = codes "ghost-cut-over-sentry"; start = None })); side = None; answer = answers.Ok 0; missed = None; draw = None }
    ∷ record { actor = Lock; session = 2; asked = Call (requests.LockTables (codes "t" ∷ codes "_t_del" ∷ [])); side = None; answer = answers.Ok 0; missed = None; draw = None }
    ∷ record { actor = (Client 1); session = 3; asked = Call (requests.Do (statements.Insert (codes "t") (Some (codes "id" ∷ [])) ((Num (pos 4)) ∷ []) None)); side = None; answer = answers.Waits 2; missed = None; draw = None }
    ∷ record { actor = Insp; session = 1; asked = Call (requests.Do (statements.Insert (codes "_t_ghc") None ((Num (pos 1)) ∷ (Text (codes "cut-over")) ∷ (Text (codes "1")) ∷ []) None)); side = None; answer = answers.Ok 1; missed = None; draw = None }
    ∷ record { actor = Apply; session = 4; asked = Call (requests.ReadLog 0 10 (codes "t" ∷ codes "_t_ghc" ∷ [])); side = None; answer = answers.Events (record { table = codes "_t_ghc"; change = changes.Write ((Num (pos 1)) ∷ (Text (codes "cut-over")) ∷ (Text (codes "1")) ∷ []) } ∷ []) 1; missed = None; draw = None }
    ∷ record { actor = Ren; session = 5; asked = Call (requests.Rename (record { old = codes "t"; new = codes "_t_del" } ∷ record { old = codes "_t_gho"; new = codes "t" } ∷ [])); side = None; answer = answers.Waits 2; missed = None; draw = None }
    ∷ record { actor = Insp; session = 1; asked = Call requests.ShowWaiting; side = None; answer = answers.Waiting (record { session = 5; names = (codes "t" ∷ codes "_t_del" ∷ codes "_t_gho" ∷ []); by = 2 } ∷ []); missed = None; draw = None }
    ∷ record { actor = Lock; session = 2; asked = Call (requests.Drop (codes "_t_del")); side = (Some sides_at.After); answer = answers.Lost; missed = (Some (answers.Ok 0)); draw = None }
    ∷ record { actor = (Client 1); session = 3; asked = Poll; side = None; answer = answers.Waits 5; missed = None; draw = None }
    ∷ record { actor = Ren; session = 5; asked = Poll; side = None; answer = answers.Ok 0; missed = None; draw = None }
    ∷ record { actor = Insp; session = 1; asked = Call requests.ShowTables; side = None; answer = answers.Tables (record { name = codes "_t_del"; comment = [] } ∷ record { name = codes "_t_ghc"; comment = [] } ∷ record { name = codes "t"; comment = [] } ∷ []); missed = None; draw = None }
    ∷ record { actor = (Client 1); session = 3; asked = Poll; side = None; answer = answers.Ok 1; missed = None; draw = None }
    ∷ record { actor = Insp; session = 1; asked = Call (requests.Drop (codes "_t_ghc")); side = None; answer = answers.Ok 0; missed = None; draw = None }
    ∷ []

abbrev reported_lost_drop : WorkedFacts
reported_lost_drop =
    record {
      verdict = verdicts.Done;
      ended = (None ∷ Some (1, 1) ∷ []);
      left = (record { schema = record { name = codes "t"; columns = (record { name = codes "id"; kind = Int 4 false; nullable = false; default = None; auto = false } ∷ record { name = codes "b"; kind = Int 4 false; nullable = false; default = (Some (Num (pos 7))); auto = false } ∷ []); uniques = (record { name = None; places = (0 ∷ []) } ∷ []); indexes = []; comment = []; start = None }; rows = (((Num (pos 4)) ∷ (Num (pos 7)) ∷ []) ∷ []) } ∷ []);
      alone = ([] ∷ ((replies.Ok 1) ∷ []) ∷ []);
      over = replicate 17 false ++ replicate 1 true;
      bound = 255041868;
      replies = (((1, 1, (Some (replies.Ok 1))) ∷ [])) ∷ [];
    }

worked_lost_drop : IsWorked plan_lost_drop journal_lost_drop reported_lost_drop
unfolding computing
worked_lost_drop = record { asks = refl; sessions = refl; answers = refl; sides = refl; struck = refl; verdict = refl; ended = refl; order = refl; left = refl; serial = refl; alone = refl; over = refl; online = refl; bounded = refl; replies = refl }

-- An open transaction keeps the one attempt from the table lock, which times out, and all is reverted.
abbrev map_one_try : List MapColumn
map_one_try = (record { kind = Int 4 false; nullable = false; origin = from.Old 0 } ∷ record { kind = Int 4 false; nullable = false; origin = from.Added (Num (pos 7)) } ∷ [])

abbrev pub plan_one_try : PlanData
plan_one_try = record { table = codes "t"; alter = (clauses.Add (record { name = codes "b"; kind = Int 4 false; nullable = (Some false); default = (Some (Num (pos 7))); auto = false }) Unsaid ∷ []); tables = (record { schema = record { name = codes "t"; columns = (record { name = codes "id"; kind = Int 4 false; nullable = false; default = None; auto = false } ∷ []); uniques = (record { name = None; places = (0 ∷ []) } ∷ []); indexes = []; comment = []; start = None }; rows = [] } ∷ []); clients = ((record { line = 1; word = words.Begin } ∷ record { line = 2; word = (words.Do (statements.Select (codes "t") shown.All conditions.All)) } ∷ record { line = 3; word = words.Commit } ∷ []) ∷ []); operator = []; faults = []; turns = (record { actor = Insp; times = 5 } ∷ record { actor = (Client 1); times = 2 } ∷ record { actor = Lock; times = 4 } ∷ []); options = record { chunk_size = 1000; dml_batch_size = 10; default_retries = 1; max_backlog = 100; drain_limit = 2000; client_wait = 20000; tool_wait = 2; max_load = 64; turn_limit = 200000; notes = 0; note_every = 100; replica_step = 0; replica_pause = 1; max_lag = 10; resume = false; approve_renamed_columns = false; initially_drop_ghost_table = false; initially_drop_old_table = false; ok_to_drop_table = false; postpone = false; show_history = true; show_turns = true; show_tables = true; show_replies = true } }

abbrev pub journal_one_try : List Entry
journal_one_try =
    record { actor = Insp; session = 1; asked = Call requests.ShowTables; side = None; answer = answers.Tables (record { name = codes "t"; comment = [] } ∷ []); missed = None; draw = None }
    ∷ record { actor = Insp; session = 1; asked = Call (requests.Create (record { name = codes "_t_ghc"; columns = (record { name = codes "id"; kind = Int 8 false; nullable = false; default = None; auto = false } ∷ record { name = codes "hint"; kind = VarChar 64; nullable = false; default = None; auto = false } ∷ record { name = codes "value"; kind = VarChar 255; nullable = false; default = None; auto = false } ∷ []); uniques = (record { name = None; places = (0 ∷ []) } ∷ []); indexes = []; comment = []; start = None })); side = None; answer = answers.Ok 0; missed = None; draw = None }
    ∷ record { actor = Insp; session = 1; asked = Call (requests.Create (record { name = codes "_t_gho"; columns = (record { name = codes "id"; kind = Int 4 false; nullable = false; default = None; auto = false } ∷ record { name = codes "b"; kind = Int 4 false; nullable = false; default = (Some (Num (pos 7))); auto = false } ∷ []); uniques = (record { name = None; places = (0 ∷ []) } ∷ []); indexes = []; comment = []; start = None })); side = None; answer = answers.Ok 0; missed = None; draw = None }
    ∷ record { actor = Insp; session = 1; asked = Call requests.LogEnd; side = None; answer = answers.At 0; missed = None; draw = None }
    ∷ record { actor = Insp; session = 1; asked = Call (requests.Ends (codes "t")); side = None; answer = answers.Ends None; missed = None; draw = None }
    ∷ record { actor = (Client 1); session = 2; asked = Call requests.Begin; side = None; answer = answers.Ok 0; missed = None; draw = None }
    ∷ record { actor = (Client 1); session = 2; asked = Call (requests.Do (statements.Select (codes "t") shown.All conditions.All)); side = None; answer = answers.Rows []; missed = None; draw = None }
    ∷ record { actor = Lock; session = 3; asked = Call (requests.Create (record { name = codes "_t_del"; columns = (record { name = codes "id"; kind = Int 4 false; nullable = false; default = None; auto = false } ∷ []); uniques = (record { name = None; places = (0 ∷ []) } ∷ []); indexes = []; comment = codes "ghost-cut-over-sentry"; start = None })); side = None; answer = answers.Ok 0; missed = None; draw = None }
    ∷ record { actor = Lock; session = 3; asked = Call (requests.LockTables (codes "t" ∷ codes "_t_del" ∷ [])); side = None; answer = answers.Waits 2; missed = None; draw = None }
    ∷ record { actor = Lock; session = 3; asked = Poll; side = None; answer = answers.Waits 2; missed = None; draw = None }
    ∷ record { actor = Lock; session = 3; asked = Poll; side = None; answer = answers.TimedOut 2; missed = None; draw = None }
    ∷ record { actor = Insp; session = 1; asked = Call requests.ShowTables; side = None; answer = answers.Tables (record { name = codes "_t_del"; comment = codes "ghost-cut-over-sentry" } ∷ record { name = codes "_t_ghc"; comment = [] } ∷ record { name = codes "_t_gho"; comment = [] } ∷ record { name = codes "t"; comment = [] } ∷ []); missed = None; draw = None }
    ∷ record { actor = (Client 1); session = 2; asked = Call requests.Commit; side = None; answer = answers.Ok 0; missed = None; draw = None }
    ∷ record { actor = Insp; session = 1; asked = Call (requests.Drop (codes "_t_del")); side = None; answer = answers.Ok 0; missed = None; draw = None }
    ∷ []

abbrev reported_one_try : WorkedFacts
reported_one_try =
    record {
      verdict = verdicts.Reverted (causes.Spent tasks.CutOver (11 ∷ []));
      ended = (Some (1, 1) ∷ []);
      left = (record { schema = record { name = codes "t"; columns = (record { name = codes "id"; kind = Int 4 false; nullable = false; default = None; auto = false } ∷ []); uniques = (record { name = None; places = (0 ∷ []) } ∷ []); indexes = []; comment = []; start = None }; rows = [] } ∷ []);
      alone = (((replies.Ok 0) ∷ (replies.Rows []) ∷ (replies.Ok 0) ∷ []) ∷ []);
      over = replicate 13 false ++ replicate 1 true;
      bound = 63989;
      replies = (((1, 1, (Some (replies.Ok 0))) ∷ (1, 2, (Some (replies.Rows []))) ∷ (1, 3, (Some (replies.Ok 0))) ∷ [])) ∷ [];
    }

worked_one_try : IsWorked plan_one_try journal_one_try reported_one_try
unfolding computing
worked_one_try = record { asks = refl; sessions = refl; answers = refl; sides = refl; struck = refl; verdict = refl; ended = refl; order = refl; left = refl; serial = refl; alone = refl; over = refl; online = refl; bounded = refl; replies = refl }
