-- Random plans, replayed; their journals are those of an independent model.
use Rattle.std.proofs.Common.{pos, true, false, List, [], ◌∷◌, ◌++◌, Some, None, refl}
use Rattle.std.specs.Prelude.{codes, replicate}
use Rattle.base_values.specs.declared.value.Value.TheVariants.{Null, Num, Text, Blob}
use Rattle.base_values.specs.declared.kind.Kind.TheVariants.{Int, VarChar, VarBinary}
use Rattle.base_values.specs.declared.span.Bound.TheVariants.{Open, Closed}
use Rattle.base_values.specs.declared.row_conversion.clause.Clause.TheVariants as clauses
use Rattle.base_values.specs.declared.row_conversion.clause.ColumnPosition.TheVariants.{Unsaid, First}
use Rattle.base_values.specs.declared.row_conversion.map.MapColumn.{MapColumn}
use Rattle.base_values.specs.declared.row_conversion.map.Origin.TheVariants as from
use Rattle.base_values.specs.declared.event.Change.TheVariants as changes
use Rattle.base_script.specs.declared.actor.Actor.TheVariants.{Op, Insp, Copy, Apply, Lock, Ren, Client}
use Rattle.base_script.specs.declared.actor.Side.TheVariants as sides_at
use Rattle.base_script.specs.declared.loss.Loss.TheVariants as losses
use Rattle.base_script.specs.declared.operator.OperatorWord.TheVariants as commanded
use Rattle.base_script.specs.declared.script.ScriptWord.TheVariants as words
use Rattle.base_script.specs.declared.statement.Statement.TheVariants as statements
use Rattle.base_script.specs.declared.statement.Condition.TheVariants as conditions
use Rattle.base_script.specs.declared.statement.Shown.TheVariants as shown
use Rattle.base_script.specs.declared.statement.Sign.TheVariants as signs
use Rattle.server_model.specs.declared.transaction.Reply.TheVariants as replies
use Rattle.server_model.specs.declared.request.Request.TheVariants as requests
use Rattle.server_model.specs.declared.answer.Answer.TheVariants as answers
use Rattle.server_model.specs.declared.entry.Entry.{Entry}
use Rattle.server_model.specs.declared.entry.Asked.TheVariants.{Call, Poll, Command, Cut}
use Rattle.server_model.specs.declared.outcome.Task.TheVariants as tasks
use Rattle.server_model.specs.declared.outcome.Cause.TheVariants as causes
use Rattle.server_model.specs.declared.outcome.Verdict.TheVariants as verdicts
use Rattle.plan_data.specs.PlanData.{PlanData}
use Rattle.test_worked.proofs.Computing.{computing, WorkedFacts, IsWorked}

-- Plan 157
abbrev map_157 : List MapColumn
map_157 = (record { kind = Int 4 false; nullable = false; origin = from.Old 0 } ∷ record { kind = VarChar 8; nullable = false; origin = from.Old 1 } ∷ [])

abbrev plan_157 : PlanData
plan_157 = record { table = codes "t"; alter = (clauses.Change (codes "v") (record { name = codes "v"; kind = VarChar 8; nullable = (Some false); default = None; auto = false }) Unsaid ∷ []); tables = (record { schema = record { name = codes "t"; columns = (record { name = codes "id"; kind = Int 4 false; nullable = false; default = None; auto = false } ∷ record { name = codes "v"; kind = Int 2 false; nullable = true; default = (Some Null); auto = false } ∷ []); uniques = (record { name = None; places = (0 ∷ []) } ∷ []); indexes = (record { name = (Some (codes "v")); places = (1 ∷ []) } ∷ []); comment = []; start = None }; rows = (((Num (pos 4)) ∷ (Num (pos 5)) ∷ []) ∷ ((Num (pos 7)) ∷ (Num (pos 3)) ∷ []) ∷ []) } ∷ record { schema = record { name = codes "u"; columns = (record { name = codes "id"; kind = VarBinary 3; nullable = false; default = None; auto = false } ∷ record { name = codes "m0"; kind = Int 1 false; nullable = false; default = None; auto = false } ∷ []); uniques = (record { name = None; places = (0 ∷ []) } ∷ record { name = (Some (codes "u0")); places = (1 ∷ []) } ∷ []); indexes = []; comment = codes "x"; start = None }; rows = [] } ∷ []); clients = ((record { line = 1; word = (words.Do (statements.Update (codes "t") (record { column = codes "v"; value = (Num (pos 5)) } ∷ []) (conditions.Equal (record { column = codes "id"; value = (Num (pos 4)) } ∷ [])))) } ∷ []) ∷ []); operator = []; faults = (losses.Nth Copy 4 sides_at.After ∷ losses.Turn 46 Ren ∷ []); turns = (record { actor = Ren; times = 1 } ∷ record { actor = Op; times = 1 } ∷ record { actor = Insp; times = 1 } ∷ record { actor = Ren; times = 3 } ∷ record { actor = Ren; times = 1 } ∷ record { actor = (Client 1); times = 1 } ∷ record { actor = Copy; times = 3 } ∷ record { actor = Insp; times = 3 } ∷ []); options = record { chunk_size = 2; dml_batch_size = 4; default_retries = 2; max_backlog = 0; drain_limit = 2000; client_wait = 3; tool_wait = 1; max_load = 64; turn_limit = 200000; notes = 0; note_every = 100; replica_step = 0; replica_pause = 1; max_lag = 10; resume = false; approve_renamed_columns = true; initially_drop_ghost_table = false; initially_drop_old_table = false; ok_to_drop_table = false; postpone = false; show_history = true; show_turns = true; show_tables = true; show_replies = true } }

abbrev journal_157 : List Entry
journal_157 =
    record { actor = Insp; session = 1; asked = Call requests.ShowTables; side = None; answer = answers.Tables (record { name = codes "t"; comment = [] } ∷ record { name = codes "u"; comment = codes "x" } ∷ []); missed = None; draw = None }
    ∷ record { actor = (Client 1); session = 2; asked = Call (requests.Do (statements.Update (codes "t") (record { column = codes "v"; value = (Num (pos 5)) } ∷ []) (conditions.Equal (record { column = codes "id"; value = (Num (pos 4)) } ∷ [])))); side = None; answer = answers.Ok 0; missed = None; draw = None }
    ∷ record { actor = Insp; session = 1; asked = Call (requests.Create (record { name = codes "_t_ghc"; columns = (record { name = codes "id"; kind = Int 8 false; nullable = false; default = None; auto = false } ∷ record { name = codes "hint"; kind = VarChar 64; nullable = false; default = None; auto = false } ∷ record { name = codes "value"; kind = VarChar 255; nullable = false; default = None; auto = false } ∷ []); uniques = (record { name = None; places = (0 ∷ []) } ∷ []); indexes = []; comment = []; start = None })); side = None; answer = answers.Ok 0; missed = None; draw = None }
    ∷ record { actor = Insp; session = 1; asked = Call (requests.Create (record { name = codes "_t_gho"; columns = (record { name = codes "id"; kind = Int 4 false; nullable = false; default = None; auto = false } ∷ record { name = codes "v"; kind = VarChar 8; nullable = false; default = None; auto = false } ∷ []); uniques = (record { name = None; places = (0 ∷ []) } ∷ []); indexes = (record { name = (Some (codes "v")); places = (1 ∷ []) } ∷ []); comment = []; start = None })); side = None; answer = answers.Ok 0; missed = None; draw = None }
    ∷ record { actor = Insp; session = 1; asked = Call requests.LogEnd; side = None; answer = answers.At 0; missed = None; draw = None }
    ∷ record { actor = Insp; session = 1; asked = Call (requests.Ends (codes "t")); side = None; answer = answers.Ends (Some (record { least = ((Num (pos 4)) ∷ []); greatest = ((Num (pos 7)) ∷ []) })); missed = None; draw = None }
    ∷ record { actor = Copy; session = 3; asked = Call (requests.ChunkEnd (codes "t") (Closed ((Num (pos 4)) ∷ [])) ((Num (pos 7)) ∷ []) 2); side = None; answer = answers.End ((Num (pos 7)) ∷ []); missed = None; draw = None }
    ∷ record { actor = Copy; session = 3; asked = Call (requests.BeginSpan (codes "t") (record { low = (Closed ((Num (pos 4)) ∷ [])); high = (Closed ((Num (pos 7)) ∷ [])) }) 2); side = None; answer = answers.Keys (((Num (pos 4)) ∷ []) ∷ ((Num (pos 7)) ∷ []) ∷ []) ((Num (pos 7)) ∷ []); missed = None; draw = None }
    ∷ record { actor = Copy; session = 3; asked = Call (requests.CopyRow (codes "t") (codes "_t_gho") map_157 ((Num (pos 4)) ∷ [])); side = None; answer = answers.Ok 1; missed = None; draw = None }
    ∷ record { actor = Copy; session = 3; asked = Call (requests.CopyRow (codes "t") (codes "_t_gho") map_157 ((Num (pos 7)) ∷ [])); side = (Some sides_at.After); answer = answers.Lost; missed = (Some (answers.Ok 1)); draw = None }
    ∷ record { actor = Copy; session = 4; asked = Call (requests.ChunkEnd (codes "t") (Closed ((Num (pos 4)) ∷ [])) ((Num (pos 7)) ∷ []) 2); side = None; answer = answers.End ((Num (pos 7)) ∷ []); missed = None; draw = None }
    ∷ record { actor = Copy; session = 4; asked = Call (requests.BeginSpan (codes "t") (record { low = (Closed ((Num (pos 4)) ∷ [])); high = (Closed ((Num (pos 7)) ∷ [])) }) 2); side = None; answer = answers.Keys (((Num (pos 4)) ∷ []) ∷ ((Num (pos 7)) ∷ []) ∷ []) ((Num (pos 7)) ∷ []); missed = None; draw = None }
    ∷ record { actor = Copy; session = 4; asked = Call (requests.CopyRow (codes "t") (codes "_t_gho") map_157 ((Num (pos 4)) ∷ [])); side = None; answer = answers.Ok 1; missed = None; draw = None }
    ∷ record { actor = Copy; session = 4; asked = Call (requests.CopyRow (codes "t") (codes "_t_gho") map_157 ((Num (pos 7)) ∷ [])); side = None; answer = answers.Ok 1; missed = None; draw = None }
    ∷ record { actor = Copy; session = 4; asked = Call requests.Commit; side = None; answer = answers.Ok 0; missed = None; draw = None }
    ∷ record { actor = Lock; session = 5; asked = Call (requests.Create (record { name = codes "_t_del"; columns = (record { name = codes "id"; kind = Int 4 false; nullable = false; default = None; auto = false } ∷ []); uniques = (record { name = None; places = (0 ∷ []) } ∷ []); indexes = []; comment = codes "ghost-cut-over-sentry"; start = None })); side = None; answer = answers.Ok 0; missed = None; draw = None }
    ∷ record { actor = Lock; session = 5; asked = Call (requests.LockTables (codes "t" ∷ codes "_t_del" ∷ [])); side = None; answer = answers.Ok 0; missed = None; draw = None }
    ∷ record { actor = Insp; session = 1; asked = Call (requests.Do (statements.Insert (codes "_t_ghc") None ((Num (pos 1)) ∷ (Text (codes "cut-over")) ∷ (Text (codes "1")) ∷ []) None)); side = None; answer = answers.Ok 1; missed = None; draw = None }
    ∷ record { actor = Apply; session = 6; asked = Call (requests.ReadLog 0 4 (codes "t" ∷ codes "_t_ghc" ∷ [])); side = None; answer = answers.Events (record { table = codes "_t_ghc"; change = changes.Write ((Num (pos 1)) ∷ (Text (codes "cut-over")) ∷ (Text (codes "1")) ∷ []) } ∷ []) 3; missed = None; draw = None }
    ∷ record { actor = Ren; session = 7; asked = Call (requests.Rename (record { old = codes "t"; new = codes "_t_del" } ∷ record { old = codes "_t_gho"; new = codes "t" } ∷ [])); side = None; answer = answers.Waits 5; missed = None; draw = None }
    ∷ record { actor = Insp; session = 1; asked = Call requests.ShowWaiting; side = None; answer = answers.Waiting (record { session = 7; names = (codes "t" ∷ codes "_t_del" ∷ codes "_t_gho" ∷ []); by = 5 } ∷ []); missed = None; draw = None }
    ∷ record { actor = Lock; session = 5; asked = Call (requests.Drop (codes "_t_del")); side = None; answer = answers.Ok 0; missed = None; draw = None }
    ∷ record { actor = Ren; session = 7; asked = Poll; side = None; answer = answers.TimedOut 1; missed = None; draw = None }
    ∷ record { actor = Lock; session = 5; asked = Call requests.Unlock; side = None; answer = answers.Ok 0; missed = None; draw = None }
    ∷ record { actor = Insp; session = 1; asked = Call requests.ShowTables; side = None; answer = answers.Tables (record { name = codes "_t_ghc"; comment = [] } ∷ record { name = codes "_t_gho"; comment = [] } ∷ record { name = codes "t"; comment = [] } ∷ record { name = codes "u"; comment = codes "x" } ∷ []); missed = None; draw = None }
    ∷ record { actor = Lock; session = 5; asked = Call (requests.Create (record { name = codes "_t_del"; columns = (record { name = codes "id"; kind = Int 4 false; nullable = false; default = None; auto = false } ∷ []); uniques = (record { name = None; places = (0 ∷ []) } ∷ []); indexes = []; comment = codes "ghost-cut-over-sentry"; start = None })); side = None; answer = answers.Ok 0; missed = None; draw = None }
    ∷ record { actor = Lock; session = 5; asked = Call (requests.LockTables (codes "t" ∷ codes "_t_del" ∷ [])); side = None; answer = answers.Ok 0; missed = None; draw = None }
    ∷ record { actor = Insp; session = 1; asked = Call (requests.Do (statements.Insert (codes "_t_ghc") None ((Num (pos 2)) ∷ (Text (codes "cut-over")) ∷ (Text (codes "2")) ∷ []) None)); side = None; answer = answers.Ok 1; missed = None; draw = None }
    ∷ record { actor = Apply; session = 6; asked = Call (requests.ReadLog 3 4 (codes "t" ∷ codes "_t_ghc" ∷ [])); side = None; answer = answers.Events (record { table = codes "_t_ghc"; change = changes.Write ((Num (pos 2)) ∷ (Text (codes "cut-over")) ∷ (Text (codes "2")) ∷ []) } ∷ []) 4; missed = None; draw = None }
    ∷ record { actor = Ren; session = 7; asked = Call (requests.Rename (record { old = codes "t"; new = codes "_t_del" } ∷ record { old = codes "_t_gho"; new = codes "t" } ∷ [])); side = None; answer = answers.Waits 5; missed = None; draw = None }
    ∷ record { actor = Insp; session = 1; asked = Call requests.ShowWaiting; side = None; answer = answers.Waiting (record { session = 7; names = (codes "t" ∷ codes "_t_del" ∷ codes "_t_gho" ∷ []); by = 5 } ∷ []); missed = None; draw = None }
    ∷ record { actor = Lock; session = 5; asked = Call (requests.Drop (codes "_t_del")); side = None; answer = answers.Ok 0; missed = None; draw = None }
    ∷ record { actor = Ren; session = 7; asked = Poll; side = None; answer = answers.TimedOut 1; missed = None; draw = None }
    ∷ record { actor = Lock; session = 5; asked = Call requests.Unlock; side = None; answer = answers.Ok 0; missed = None; draw = None }
    ∷ record { actor = Insp; session = 1; asked = Call requests.ShowTables; side = None; answer = answers.Tables (record { name = codes "_t_ghc"; comment = [] } ∷ record { name = codes "_t_gho"; comment = [] } ∷ record { name = codes "t"; comment = [] } ∷ record { name = codes "u"; comment = codes "x" } ∷ []); missed = None; draw = None }
    ∷ []

abbrev reported_157 : WorkedFacts
reported_157 =
    record {
      verdict = verdicts.Reverted (causes.Spent tasks.CutOver (23 ∷ 33 ∷ []));
      ended = (Some (1, 1) ∷ []);
      left = (record { schema = record { name = codes "t"; columns = (record { name = codes "id"; kind = Int 4 false; nullable = false; default = None; auto = false } ∷ record { name = codes "v"; kind = Int 2 false; nullable = true; default = (Some Null); auto = false } ∷ []); uniques = (record { name = None; places = (0 ∷ []) } ∷ []); indexes = (record { name = (Some (codes "v")); places = (1 ∷ []) } ∷ []); comment = []; start = None }; rows = (((Num (pos 4)) ∷ (Num (pos 5)) ∷ []) ∷ ((Num (pos 7)) ∷ (Num (pos 3)) ∷ []) ∷ []) } ∷ record { schema = record { name = codes "u"; columns = (record { name = codes "id"; kind = VarBinary 3; nullable = false; default = None; auto = false } ∷ record { name = codes "m0"; kind = Int 1 false; nullable = false; default = None; auto = false } ∷ []); uniques = (record { name = None; places = (0 ∷ []) } ∷ record { name = (Some (codes "u0")); places = (1 ∷ []) } ∷ []); indexes = []; comment = codes "x"; start = None }; rows = [] } ∷ []);
      alone = (((replies.Ok 0) ∷ []) ∷ []);
      over = replicate 34 false ++ replicate 1 true;
      bound = 1125;
      replies = (((1, 1, (Some (replies.Ok 0))) ∷ [])) ∷ [];
    }

worked_157 : IsWorked plan_157 journal_157 reported_157
unfolding computing
worked_157 = record { asks = refl; sessions = refl; answers = refl; sides = refl; struck = refl; verdict = refl; ended = refl; order = refl; left = refl; serial = refl; alone = refl; over = refl; online = refl; bounded = refl; replies = refl }

-- Plan 159
abbrev map_159 : List MapColumn
map_159 = (record { kind = VarBinary 3; nullable = false; origin = from.Old 0 } ∷ record { kind = Int 4 false; nullable = true; origin = from.Old 1 } ∷ record { kind = VarChar 2; nullable = false; origin = from.Old 2 } ∷ [])

abbrev plan_159 : PlanData
plan_159 = record { table = codes "t"; alter = (clauses.Change (codes "v") (record { name = codes "v"; kind = VarChar 2; nullable = (Some false); default = None; auto = false }) Unsaid ∷ []); tables = (record { schema = record { name = codes "t"; columns = (record { name = codes "id"; kind = VarBinary 3; nullable = false; default = None; auto = false } ∷ record { name = codes "m0"; kind = Int 4 false; nullable = true; default = (Some (Num (pos 1))); auto = false } ∷ record { name = codes "v"; kind = VarChar 6; nullable = true; default = (Some Null); auto = false } ∷ []); uniques = (record { name = None; places = (0 ∷ []) } ∷ record { name = (Some (codes "u0")); places = (1 ∷ []) } ∷ []); indexes = []; comment = []; start = None }; rows = (((Blob (4 ∷ [])) ∷ Null ∷ (Text (codes "3")) ∷ []) ∷ ((Blob (6 ∷ [])) ∷ (Num (pos 6)) ∷ (Text (codes "3")) ∷ []) ∷ ((Blob (99 ∷ [])) ∷ (Num (pos 5)) ∷ (Text (codes "g")) ∷ []) ∷ ((Blob (100 ∷ [])) ∷ Null ∷ (Text (codes "e")) ∷ []) ∷ ((Blob (101 ∷ [])) ∷ Null ∷ Null ∷ []) ∷ ((Blob (102 ∷ [])) ∷ (Num (pos 2)) ∷ (Text (codes "d")) ∷ []) ∷ []) } ∷ record { schema = record { name = codes "u"; columns = (record { name = codes "id"; kind = VarChar 3; nullable = false; default = None; auto = false } ∷ record { name = codes "m0"; kind = Int 1 false; nullable = true; default = (Some (Num (pos 1))); auto = false } ∷ []); uniques = (record { name = None; places = (0 ∷ []) } ∷ record { name = (Some (codes "u0")); places = (1 ∷ []) } ∷ []); indexes = []; comment = []; start = None }; rows = (((Text (codes "a")) ∷ (Num (pos 5)) ∷ []) ∷ ((Text (codes "b")) ∷ (Num (pos 4)) ∷ []) ∷ ((Text (codes "f")) ∷ (Num (pos 3)) ∷ []) ∷ ((Text (codes "g")) ∷ (Num (pos 6)) ∷ []) ∷ []) } ∷ []); clients = ((record { line = 1; word = (words.Do (statements.Replace (codes "t") (Some (codes "id" ∷ codes "m0" ∷ [])) ((Num (pos 5)) ∷ (Num (pos 7)) ∷ []) None)) } ∷ record { line = 2; word = (words.Do (statements.Insert (codes "t") (Some (codes "id" ∷ codes "m0" ∷ codes "v" ∷ [])) ((Blob (6 ∷ [])) ∷ (Num (pos 2)) ∷ Null ∷ []) None)) } ∷ record { line = 3; word = (words.Do (statements.Select (codes "t") shown.Count (conditions.Equal (record { column = codes "id"; value = (Text (codes "b")) } ∷ [])))) } ∷ record { line = 4; word = (words.Do (statements.Insert (codes "t") None ((Text (codes "g")) ∷ (Num (pos 2)) ∷ Null ∷ []) None)) } ∷ []) ∷ (record { line = 1; word = (words.Do (statements.Update (codes "t") (record { column = codes "id"; value = (Blob (3 ∷ [])) } ∷ []) (conditions.Range (record { column = codes "id"; sign = signs.Less; value = (Blob (3 ∷ [])) } ∷ record { column = codes "id"; sign = signs.AtMost; value = (Text (codes "b")) } ∷ [])))) } ∷ []) ∷ (record { line = 1; word = (words.Do (statements.Insert (codes "t") None ((Text (codes "d")) ∷ (Num (pos 7)) ∷ Null ∷ []) None)) } ∷ []) ∷ (record { line = 1; word = (words.Do (statements.Insert (codes "t") None ((Blob (1 ∷ [])) ∷ (Num (pos 2)) ∷ (Text (codes "c")) ∷ []) None)) } ∷ []) ∷ []); operator = []; faults = (losses.Turn 37 Apply ∷ losses.Nth Op 3 sides_at.Before ∷ losses.Nth (Client 4) 2 sides_at.After ∷ []); turns = (record { actor = Insp; times = 3 } ∷ record { actor = (Client 1); times = 3 } ∷ record { actor = Copy; times = 1 } ∷ record { actor = Apply; times = 1 } ∷ record { actor = (Client 3); times = 3 } ∷ record { actor = Lock; times = 1 } ∷ record { actor = Copy; times = 2 } ∷ record { actor = Ren; times = 3 } ∷ record { actor = Lock; times = 1 } ∷ record { actor = (Client 4); times = 5 } ∷ record { actor = Insp; times = 3 } ∷ record { actor = (Client 3); times = 1 } ∷ record { actor = (Client 2); times = 3 } ∷ record { actor = Insp; times = 2 } ∷ record { actor = Op; times = 5 } ∷ record { actor = Ren; times = 1 } ∷ record { actor = (Client 4); times = 5 } ∷ record { actor = Lock; times = 3 } ∷ record { actor = Lock; times = 2 } ∷ record { actor = Ren; times = 5 } ∷ record { actor = Insp; times = 5 } ∷ record { actor = Insp; times = 1 } ∷ record { actor = Lock; times = 1 } ∷ record { actor = (Client 4); times = 5 } ∷ record { actor = Apply; times = 3 } ∷ []); options = record { chunk_size = 1; dml_batch_size = 2; default_retries = 1; max_backlog = 2; drain_limit = 2000; client_wait = 9; tool_wait = 9; max_load = 1; turn_limit = 200000; notes = 0; note_every = 100; replica_step = 0; replica_pause = 1; max_lag = 10; resume = false; approve_renamed_columns = true; initially_drop_ghost_table = false; initially_drop_old_table = false; ok_to_drop_table = false; postpone = false; show_history = true; show_turns = true; show_tables = true; show_replies = true } }

abbrev journal_159 : List Entry
journal_159 =
    record { actor = Insp; session = 1; asked = Call requests.ShowTables; side = None; answer = answers.Tables (record { name = codes "t"; comment = [] } ∷ record { name = codes "u"; comment = [] } ∷ []); missed = None; draw = None }
    ∷ record { actor = Insp; session = 1; asked = Call (requests.Create (record { name = codes "_t_ghc"; columns = (record { name = codes "id"; kind = Int 8 false; nullable = false; default = None; auto = false } ∷ record { name = codes "hint"; kind = VarChar 64; nullable = false; default = None; auto = false } ∷ record { name = codes "value"; kind = VarChar 255; nullable = false; default = None; auto = false } ∷ []); uniques = (record { name = None; places = (0 ∷ []) } ∷ []); indexes = []; comment = []; start = None })); side = None; answer = answers.Ok 0; missed = None; draw = None }
    ∷ record { actor = Insp; session = 1; asked = Call (requests.Create (record { name = codes "_t_gho"; columns = (record { name = codes "id"; kind = VarBinary 3; nullable = false; default = None; auto = false } ∷ record { name = codes "m0"; kind = Int 4 false; nullable = true; default = (Some (Num (pos 1))); auto = false } ∷ record { name = codes "v"; kind = VarChar 2; nullable = false; default = None; auto = false } ∷ []); uniques = (record { name = None; places = (0 ∷ []) } ∷ record { name = (Some (codes "u0")); places = (1 ∷ []) } ∷ []); indexes = []; comment = []; start = None })); side = None; answer = answers.Ok 0; missed = None; draw = None }
    ∷ record { actor = (Client 1); session = 2; asked = Call (requests.Do (statements.Replace (codes "t") (Some (codes "id" ∷ codes "m0" ∷ [])) ((Num (pos 5)) ∷ (Num (pos 7)) ∷ []) None)); side = None; answer = answers.Ok 1; missed = None; draw = None }
    ∷ record { actor = (Client 1); session = 2; asked = Call (requests.Do (statements.Insert (codes "t") (Some (codes "id" ∷ codes "m0" ∷ codes "v" ∷ [])) ((Blob (6 ∷ [])) ∷ (Num (pos 2)) ∷ Null ∷ []) None)); side = None; answer = answers.Refused 1062 None; missed = None; draw = None }
    ∷ record { actor = (Client 1); session = 2; asked = Call (requests.Do (statements.Select (codes "t") shown.Count (conditions.Equal (record { column = codes "id"; value = (Text (codes "b")) } ∷ [])))); side = None; answer = answers.Rows (((Num (pos 0)) ∷ []) ∷ []); missed = None; draw = None }
    ∷ record { actor = (Client 3); session = 3; asked = Call (requests.Do (statements.Insert (codes "t") None ((Text (codes "d")) ∷ (Num (pos 7)) ∷ Null ∷ []) None)); side = None; answer = answers.Refused 1062 None; missed = None; draw = None }
    ∷ record { actor = (Client 4); session = 4; asked = Call (requests.Do (statements.Insert (codes "t") None ((Blob (1 ∷ [])) ∷ (Num (pos 2)) ∷ (Text (codes "c")) ∷ []) None)); side = None; answer = answers.Refused 1062 None; missed = None; draw = None }
    ∷ record { actor = Insp; session = 1; asked = Call requests.LogEnd; side = None; answer = answers.At 1; missed = None; draw = None }
    ∷ record { actor = Insp; session = 1; asked = Call (requests.Ends (codes "t")); side = None; answer = answers.Ends (Some (record { least = ((Blob (4 ∷ [])) ∷ []); greatest = ((Blob (102 ∷ [])) ∷ []) })); missed = None; draw = None }
    ∷ record { actor = (Client 2); session = 5; asked = Call (requests.Do (statements.Update (codes "t") (record { column = codes "id"; value = (Blob (3 ∷ [])) } ∷ []) (conditions.Range (record { column = codes "id"; sign = signs.Less; value = (Blob (3 ∷ [])) } ∷ record { column = codes "id"; sign = signs.AtMost; value = (Text (codes "b")) } ∷ [])))); side = None; answer = answers.Ok 0; missed = None; draw = None }
    ∷ record { actor = Copy; session = 6; asked = Call (requests.ChunkEnd (codes "t") (Closed ((Blob (4 ∷ [])) ∷ [])) ((Blob (102 ∷ [])) ∷ []) 1); side = None; answer = answers.End ((Blob (4 ∷ [])) ∷ []); missed = None; draw = None }
    ∷ record { actor = (Client 1); session = 2; asked = Call (requests.Do (statements.Insert (codes "t") None ((Text (codes "g")) ∷ (Num (pos 2)) ∷ Null ∷ []) None)); side = None; answer = answers.Refused 1062 None; missed = None; draw = None }
    ∷ record { actor = Copy; session = 6; asked = Call (requests.BeginSpan (codes "t") (record { low = (Closed ((Blob (4 ∷ [])) ∷ [])); high = (Closed ((Blob (4 ∷ [])) ∷ [])) }) 1); side = None; answer = answers.Keys (((Blob (4 ∷ [])) ∷ []) ∷ []) ((Blob (4 ∷ [])) ∷ []); missed = None; draw = None }
    ∷ record { actor = Copy; session = 6; asked = Call (requests.CopyRow (codes "t") (codes "_t_gho") map_159 ((Blob (4 ∷ [])) ∷ [])); side = None; answer = answers.Ok 1; missed = None; draw = None }
    ∷ record { actor = Copy; session = 6; asked = Call requests.Commit; side = None; answer = answers.Ok 0; missed = None; draw = None }
    ∷ record { actor = Copy; session = 6; asked = Call (requests.ChunkEnd (codes "t") (Open ((Blob (4 ∷ [])) ∷ [])) ((Blob (102 ∷ [])) ∷ []) 1); side = None; answer = answers.End ((Blob (6 ∷ [])) ∷ []); missed = None; draw = None }
    ∷ record { actor = Copy; session = 6; asked = Call (requests.BeginSpan (codes "t") (record { low = (Open ((Blob (4 ∷ [])) ∷ [])); high = (Closed ((Blob (6 ∷ [])) ∷ [])) }) 1); side = None; answer = answers.Keys (((Blob (6 ∷ [])) ∷ []) ∷ []) ((Blob (6 ∷ [])) ∷ []); missed = None; draw = None }
    ∷ record { actor = Copy; session = 6; asked = Call (requests.CopyRow (codes "t") (codes "_t_gho") map_159 ((Blob (6 ∷ [])) ∷ [])); side = None; answer = answers.Ok 1; missed = None; draw = None }
    ∷ record { actor = Copy; session = 6; asked = Call requests.Commit; side = None; answer = answers.Ok 0; missed = None; draw = None }
    ∷ record { actor = Copy; session = 6; asked = Call (requests.ChunkEnd (codes "t") (Open ((Blob (6 ∷ [])) ∷ [])) ((Blob (102 ∷ [])) ∷ []) 1); side = None; answer = answers.End ((Blob (53 ∷ [])) ∷ []); missed = None; draw = None }
    ∷ record { actor = Copy; session = 6; asked = Call (requests.BeginSpan (codes "t") (record { low = (Open ((Blob (6 ∷ [])) ∷ [])); high = (Closed ((Blob (53 ∷ [])) ∷ [])) }) 1); side = None; answer = answers.Keys (((Blob (53 ∷ [])) ∷ []) ∷ []) ((Blob (53 ∷ [])) ∷ []); missed = None; draw = None }
    ∷ record { actor = Copy; session = 6; asked = Call (requests.CopyRow (codes "t") (codes "_t_gho") map_159 ((Blob (53 ∷ [])) ∷ [])); side = None; answer = answers.Refused 1048 (Some 2); missed = None; draw = None }
    ∷ record { actor = Copy; session = 6; asked = Call requests.Rollback; side = None; answer = answers.Ok 0; missed = None; draw = None }
    ∷ []

abbrev reported_159 : WorkedFacts
reported_159 =
    record {
      verdict = verdicts.Reverted (causes.Unfit 23 ((Blob (53 ∷ [])) ∷ []) (codes "v") 1048);
      ended = (Some (1, 1) ∷ Some (1, 2) ∷ Some (1, 3) ∷ Some (3, 1) ∷ Some (4, 1) ∷ Some (2, 1) ∷ Some (1, 4) ∷ []);
      left = (record { schema = record { name = codes "t"; columns = (record { name = codes "id"; kind = VarBinary 3; nullable = false; default = None; auto = false } ∷ record { name = codes "m0"; kind = Int 4 false; nullable = true; default = (Some (Num (pos 1))); auto = false } ∷ record { name = codes "v"; kind = VarChar 6; nullable = true; default = (Some Null); auto = false } ∷ []); uniques = (record { name = None; places = (0 ∷ []) } ∷ record { name = (Some (codes "u0")); places = (1 ∷ []) } ∷ []); indexes = []; comment = []; start = None }; rows = (((Blob (4 ∷ [])) ∷ Null ∷ (Text (codes "3")) ∷ []) ∷ ((Blob (6 ∷ [])) ∷ (Num (pos 6)) ∷ (Text (codes "3")) ∷ []) ∷ ((Blob (53 ∷ [])) ∷ (Num (pos 7)) ∷ Null ∷ []) ∷ ((Blob (99 ∷ [])) ∷ (Num (pos 5)) ∷ (Text (codes "g")) ∷ []) ∷ ((Blob (100 ∷ [])) ∷ Null ∷ (Text (codes "e")) ∷ []) ∷ ((Blob (101 ∷ [])) ∷ Null ∷ Null ∷ []) ∷ ((Blob (102 ∷ [])) ∷ (Num (pos 2)) ∷ (Text (codes "d")) ∷ []) ∷ []) } ∷ record { schema = record { name = codes "u"; columns = (record { name = codes "id"; kind = VarChar 3; nullable = false; default = None; auto = false } ∷ record { name = codes "m0"; kind = Int 1 false; nullable = true; default = (Some (Num (pos 1))); auto = false } ∷ []); uniques = (record { name = None; places = (0 ∷ []) } ∷ record { name = (Some (codes "u0")); places = (1 ∷ []) } ∷ []); indexes = []; comment = []; start = None }; rows = (((Text (codes "a")) ∷ (Num (pos 5)) ∷ []) ∷ ((Text (codes "b")) ∷ (Num (pos 4)) ∷ []) ∷ ((Text (codes "f")) ∷ (Num (pos 3)) ∷ []) ∷ ((Text (codes "g")) ∷ (Num (pos 6)) ∷ []) ∷ []) } ∷ []);
      alone = (((replies.Ok 1) ∷ []) ∷ ((replies.Error 1062) ∷ []) ∷ ((replies.Rows (((Num (pos 0)) ∷ []) ∷ [])) ∷ []) ∷ ((replies.Error 1062) ∷ []) ∷ ((replies.Error 1062) ∷ []) ∷ ((replies.Ok 0) ∷ []) ∷ ((replies.Error 1062) ∷ []) ∷ []);
      over = replicate 23 false ++ replicate 1 true;
      bound = 32780;
      replies = (((1, 1, (Some (replies.Ok 1))) ∷ (2, 1, (Some (replies.Error 1062))) ∷ (3, 1, (Some (replies.Rows (((Num (pos 0)) ∷ []) ∷ [])))) ∷ (4, 1, (Some (replies.Error 1062))) ∷ [])) ∷ (((1, 1, (Some (replies.Ok 0))) ∷ [])) ∷ (((1, 1, (Some (replies.Error 1062))) ∷ [])) ∷ (((1, 1, (Some (replies.Error 1062))) ∷ [])) ∷ [];
    }

worked_159 : IsWorked plan_159 journal_159 reported_159
unfolding computing
worked_159 = record { asks = refl; sessions = refl; answers = refl; sides = refl; struck = refl; verdict = refl; ended = refl; order = refl; left = refl; serial = refl; alone = refl; over = refl; online = refl; bounded = refl; replies = refl }

-- Plan 161
abbrev map_161 : List MapColumn
map_161 = (record { kind = Int 4 false; nullable = false; origin = from.Old 0 } ∷ record { kind = Int 1 false; nullable = false; origin = from.Old 1 } ∷ [])

abbrev plan_161 : PlanData
plan_161 = record { table = codes "t"; alter = (clauses.Change (codes "m0") (record { name = codes "m0"; kind = Int 1 false; nullable = (Some false); default = None; auto = false }) Unsaid ∷ []); tables = (record { schema = record { name = codes "t"; columns = (record { name = codes "id"; kind = Int 4 false; nullable = false; default = None; auto = false } ∷ record { name = codes "m0"; kind = Int 4 false; nullable = false; default = None; auto = false } ∷ []); uniques = (record { name = (Some (codes "k")); places = (0 ∷ []) } ∷ record { name = (Some (codes "u0")); places = (0 ∷ 1 ∷ []) } ∷ []); indexes = []; comment = []; start = None }; rows = (((Num (pos 2)) ∷ (Num (pos 2)) ∷ []) ∷ ((Num (pos 3)) ∷ (Num (pos 5)) ∷ []) ∷ ((Num (pos 5)) ∷ (Num (pos 3)) ∷ []) ∷ ((Num (pos 6)) ∷ (Num (pos 7)) ∷ []) ∷ []) } ∷ []); clients = []; operator = (record { word = commanded.Unpostpone; units = 1 } ∷ record { word = commanded.Unpostpone; units = 1 } ∷ record { word = commanded.Wait; units = 12 } ∷ record { word = commanded.NoThrottle; units = 1 } ∷ record { word = (commanded.ChunkSize 3); units = 1 } ∷ record { word = commanded.Panic; units = 1 } ∷ record { word = commanded.Unpostpone; units = 1 } ∷ []); faults = []; turns = (record { actor = Insp; times = 3 } ∷ record { actor = Ren; times = 1 } ∷ record { actor = Lock; times = 1 } ∷ record { actor = Lock; times = 1 } ∷ record { actor = Ren; times = 5 } ∷ record { actor = Copy; times = 1 } ∷ record { actor = Apply; times = 3 } ∷ record { actor = Op; times = 5 } ∷ record { actor = Apply; times = 2 } ∷ record { actor = Lock; times = 5 } ∷ record { actor = Lock; times = 1 } ∷ record { actor = Copy; times = 1 } ∷ record { actor = Copy; times = 1 } ∷ record { actor = Lock; times = 1 } ∷ record { actor = Lock; times = 2 } ∷ record { actor = Lock; times = 3 } ∷ record { actor = Op; times = 5 } ∷ record { actor = Insp; times = 5 } ∷ record { actor = Apply; times = 1 } ∷ record { actor = Lock; times = 1 } ∷ record { actor = Insp; times = 2 } ∷ record { actor = Lock; times = 3 } ∷ record { actor = Op; times = 2 } ∷ record { actor = Copy; times = 2 } ∷ record { actor = Insp; times = 1 } ∷ record { actor = Ren; times = 1 } ∷ record { actor = Lock; times = 2 } ∷ record { actor = Op; times = 1 } ∷ record { actor = Apply; times = 1 } ∷ record { actor = Op; times = 2 } ∷ record { actor = Lock; times = 5 } ∷ record { actor = Copy; times = 5 } ∷ record { actor = Insp; times = 3 } ∷ record { actor = Insp; times = 3 } ∷ record { actor = Copy; times = 5 } ∷ record { actor = Insp; times = 3 } ∷ record { actor = Apply; times = 2 } ∷ record { actor = Copy; times = 2 } ∷ record { actor = Op; times = 3 } ∷ record { actor = Lock; times = 3 } ∷ record { actor = Op; times = 1 } ∷ record { actor = Apply; times = 3 } ∷ record { actor = Insp; times = 2 } ∷ record { actor = Insp; times = 1 } ∷ record { actor = Op; times = 1 } ∷ record { actor = Insp; times = 1 } ∷ record { actor = Ren; times = 1 } ∷ record { actor = Copy; times = 2 } ∷ record { actor = Lock; times = 3 } ∷ record { actor = Lock; times = 1 } ∷ record { actor = Op; times = 2 } ∷ []); options = record { chunk_size = 1; dml_batch_size = 4; default_retries = 60; max_backlog = 100; drain_limit = 2000; client_wait = 1; tool_wait = 1; max_load = 64; turn_limit = 200000; notes = 0; note_every = 100; replica_step = 0; replica_pause = 1; max_lag = 10; resume = false; approve_renamed_columns = true; initially_drop_ghost_table = false; initially_drop_old_table = false; ok_to_drop_table = false; postpone = false; show_history = true; show_turns = true; show_tables = true; show_replies = true } }

abbrev journal_161 : List Entry
journal_161 =
    record { actor = Insp; session = 1; asked = Call requests.ShowTables; side = None; answer = answers.Tables (record { name = codes "t"; comment = [] } ∷ []); missed = None; draw = None }
    ∷ record { actor = Insp; session = 1; asked = Call (requests.Create (record { name = codes "_t_ghc"; columns = (record { name = codes "id"; kind = Int 8 false; nullable = false; default = None; auto = false } ∷ record { name = codes "hint"; kind = VarChar 64; nullable = false; default = None; auto = false } ∷ record { name = codes "value"; kind = VarChar 255; nullable = false; default = None; auto = false } ∷ []); uniques = (record { name = None; places = (0 ∷ []) } ∷ []); indexes = []; comment = []; start = None })); side = None; answer = answers.Ok 0; missed = None; draw = None }
    ∷ record { actor = Insp; session = 1; asked = Call (requests.Create (record { name = codes "_t_gho"; columns = (record { name = codes "id"; kind = Int 4 false; nullable = false; default = None; auto = false } ∷ record { name = codes "m0"; kind = Int 1 false; nullable = false; default = None; auto = false } ∷ []); uniques = (record { name = (Some (codes "k")); places = (0 ∷ []) } ∷ record { name = (Some (codes "u0")); places = (0 ∷ 1 ∷ []) } ∷ []); indexes = []; comment = []; start = None })); side = None; answer = answers.Ok 0; missed = None; draw = None }
    ∷ record { actor = Op; session = 0; asked = Command commanded.Unpostpone; side = None; answer = answers.Ok 0; missed = None; draw = None }
    ∷ record { actor = Op; session = 0; asked = Command commanded.Unpostpone; side = None; answer = answers.Ok 0; missed = None; draw = None }
    ∷ record { actor = Op; session = 0; asked = Command commanded.Wait; side = None; answer = answers.Ok 0; missed = None; draw = None }
    ∷ record { actor = Op; session = 0; asked = Command commanded.Wait; side = None; answer = answers.Ok 0; missed = None; draw = None }
    ∷ record { actor = Op; session = 0; asked = Command commanded.Wait; side = None; answer = answers.Ok 0; missed = None; draw = None }
    ∷ record { actor = Op; session = 0; asked = Command commanded.Wait; side = None; answer = answers.Ok 0; missed = None; draw = None }
    ∷ record { actor = Op; session = 0; asked = Command commanded.Wait; side = None; answer = answers.Ok 0; missed = None; draw = None }
    ∷ record { actor = Op; session = 0; asked = Command commanded.Wait; side = None; answer = answers.Ok 0; missed = None; draw = None }
    ∷ record { actor = Op; session = 0; asked = Command commanded.Wait; side = None; answer = answers.Ok 0; missed = None; draw = None }
    ∷ record { actor = Op; session = 0; asked = Command commanded.Wait; side = None; answer = answers.Ok 0; missed = None; draw = None }
    ∷ record { actor = Insp; session = 1; asked = Call requests.LogEnd; side = None; answer = answers.At 0; missed = None; draw = None }
    ∷ record { actor = Insp; session = 1; asked = Call (requests.Ends (codes "t")); side = None; answer = answers.Ends (Some (record { least = ((Num (pos 2)) ∷ []); greatest = ((Num (pos 6)) ∷ []) })); missed = None; draw = None }
    ∷ record { actor = Op; session = 0; asked = Command commanded.Wait; side = None; answer = answers.Ok 0; missed = None; draw = None }
    ∷ record { actor = Op; session = 0; asked = Command commanded.Wait; side = None; answer = answers.Ok 0; missed = None; draw = None }
    ∷ record { actor = Copy; session = 2; asked = Call (requests.ChunkEnd (codes "t") (Closed ((Num (pos 2)) ∷ [])) ((Num (pos 6)) ∷ []) 1); side = None; answer = answers.End ((Num (pos 2)) ∷ []); missed = None; draw = None }
    ∷ record { actor = Copy; session = 2; asked = Call (requests.BeginSpan (codes "t") (record { low = (Closed ((Num (pos 2)) ∷ [])); high = (Closed ((Num (pos 2)) ∷ [])) }) 1); side = None; answer = answers.Keys (((Num (pos 2)) ∷ []) ∷ []) ((Num (pos 2)) ∷ []); missed = None; draw = None }
    ∷ record { actor = Op; session = 0; asked = Command commanded.Wait; side = None; answer = answers.Ok 0; missed = None; draw = None }
    ∷ record { actor = Op; session = 0; asked = Command commanded.Wait; side = None; answer = answers.Ok 0; missed = None; draw = None }
    ∷ record { actor = Op; session = 0; asked = Command commanded.NoThrottle; side = None; answer = answers.Ok 0; missed = None; draw = None }
    ∷ record { actor = Copy; session = 2; asked = Call (requests.CopyRow (codes "t") (codes "_t_gho") map_161 ((Num (pos 2)) ∷ [])); side = None; answer = answers.Ok 1; missed = None; draw = None }
    ∷ record { actor = Copy; session = 2; asked = Call requests.Commit; side = None; answer = answers.Ok 0; missed = None; draw = None }
    ∷ record { actor = Copy; session = 2; asked = Call (requests.ChunkEnd (codes "t") (Open ((Num (pos 2)) ∷ [])) ((Num (pos 6)) ∷ []) 1); side = None; answer = answers.End ((Num (pos 3)) ∷ []); missed = None; draw = None }
    ∷ record { actor = Copy; session = 2; asked = Call (requests.BeginSpan (codes "t") (record { low = (Open ((Num (pos 2)) ∷ [])); high = (Closed ((Num (pos 3)) ∷ [])) }) 1); side = None; answer = answers.Keys (((Num (pos 3)) ∷ []) ∷ []) ((Num (pos 3)) ∷ []); missed = None; draw = None }
    ∷ record { actor = Copy; session = 2; asked = Call (requests.CopyRow (codes "t") (codes "_t_gho") map_161 ((Num (pos 3)) ∷ [])); side = None; answer = answers.Ok 1; missed = None; draw = None }
    ∷ record { actor = Copy; session = 2; asked = Call requests.Commit; side = None; answer = answers.Ok 0; missed = None; draw = None }
    ∷ record { actor = Copy; session = 2; asked = Call (requests.ChunkEnd (codes "t") (Open ((Num (pos 3)) ∷ [])) ((Num (pos 6)) ∷ []) 1); side = None; answer = answers.End ((Num (pos 5)) ∷ []); missed = None; draw = None }
    ∷ record { actor = Copy; session = 2; asked = Call (requests.BeginSpan (codes "t") (record { low = (Open ((Num (pos 3)) ∷ [])); high = (Closed ((Num (pos 5)) ∷ [])) }) 1); side = None; answer = answers.Keys (((Num (pos 5)) ∷ []) ∷ []) ((Num (pos 5)) ∷ []); missed = None; draw = None }
    ∷ record { actor = Copy; session = 2; asked = Call (requests.CopyRow (codes "t") (codes "_t_gho") map_161 ((Num (pos 5)) ∷ [])); side = None; answer = answers.Ok 1; missed = None; draw = None }
    ∷ record { actor = Copy; session = 2; asked = Call requests.Commit; side = None; answer = answers.Ok 0; missed = None; draw = None }
    ∷ record { actor = Copy; session = 2; asked = Call (requests.ChunkEnd (codes "t") (Open ((Num (pos 5)) ∷ [])) ((Num (pos 6)) ∷ []) 1); side = None; answer = answers.End ((Num (pos 6)) ∷ []); missed = None; draw = None }
    ∷ record { actor = Copy; session = 2; asked = Call (requests.BeginSpan (codes "t") (record { low = (Open ((Num (pos 5)) ∷ [])); high = (Closed ((Num (pos 6)) ∷ [])) }) 1); side = None; answer = answers.Keys (((Num (pos 6)) ∷ []) ∷ []) ((Num (pos 6)) ∷ []); missed = None; draw = None }
    ∷ record { actor = Op; session = 0; asked = Command (commanded.ChunkSize 3); side = None; answer = answers.Ok 0; missed = None; draw = None }
    ∷ record { actor = Op; session = 0; asked = Command commanded.Panic; side = None; answer = answers.Ok 0; missed = None; draw = None }
    ∷ record { actor = Op; session = 0; asked = Command commanded.Unpostpone; side = None; answer = answers.Ok 0; missed = None; draw = None }
    ∷ record { actor = Copy; session = 2; asked = Call requests.Rollback; side = None; answer = answers.Ok 0; missed = None; draw = None }
    ∷ []

abbrev reported_161 : WorkedFacts
reported_161 =
    record {
      verdict = verdicts.Reverted (causes.Panic 36);
      ended = [];
      left = (record { schema = record { name = codes "t"; columns = (record { name = codes "id"; kind = Int 4 false; nullable = false; default = None; auto = false } ∷ record { name = codes "m0"; kind = Int 4 false; nullable = false; default = None; auto = false } ∷ []); uniques = (record { name = (Some (codes "k")); places = (0 ∷ []) } ∷ record { name = (Some (codes "u0")); places = (0 ∷ 1 ∷ []) } ∷ []); indexes = []; comment = []; start = None }; rows = (((Num (pos 2)) ∷ (Num (pos 2)) ∷ []) ∷ ((Num (pos 3)) ∷ (Num (pos 5)) ∷ []) ∷ ((Num (pos 5)) ∷ (Num (pos 3)) ∷ []) ∷ ((Num (pos 6)) ∷ (Num (pos 7)) ∷ []) ∷ []) } ∷ []);
      alone = [];
      over = replicate 37 false ++ replicate 1 true;
      bound = 101551;
      replies = [];
    }

worked_161 : IsWorked plan_161 journal_161 reported_161
unfolding computing
worked_161 = record { asks = refl; sessions = refl; answers = refl; sides = refl; struck = refl; verdict = refl; ended = refl; order = refl; left = refl; serial = refl; alone = refl; over = refl; online = refl; bounded = refl; replies = refl }

-- Plan 170
abbrev map_170 : List MapColumn
map_170 = (record { kind = Int 4 false; nullable = true; origin = from.Old 0 } ∷ record { kind = VarChar 6; nullable = true; origin = from.Old 1 } ∷ record { kind = Int 8 false; nullable = false; origin = from.Old 2 } ∷ [])

abbrev plan_170 : PlanData
plan_170 = record { table = codes "t"; alter = (clauses.Change (codes "id") (record { name = codes "id"; kind = Int 8 false; nullable = None; default = None; auto = false }) Unsaid ∷ []); tables = (record { schema = record { name = codes "t"; columns = (record { name = codes "m0"; kind = Int 4 false; nullable = true; default = (Some Null); auto = false } ∷ record { name = codes "v"; kind = VarChar 6; nullable = true; default = (Some Null); auto = false } ∷ record { name = codes "id"; kind = Int 1 false; nullable = false; default = None; auto = false } ∷ []); uniques = (record { name = None; places = (2 ∷ []) } ∷ record { name = (Some (codes "u0")); places = (0 ∷ []) } ∷ []); indexes = []; comment = []; start = None }; rows = ((Null ∷ Null ∷ (Num (pos 1)) ∷ []) ∷ ((Num (pos 2)) ∷ (Text (codes "b")) ∷ (Num (pos 3)) ∷ []) ∷ ((Num (pos 6)) ∷ (Text (codes "3")) ∷ (Num (pos 6)) ∷ []) ∷ (Null ∷ (Text (codes "a")) ∷ (Num (pos 7)) ∷ []) ∷ []) } ∷ record { schema = record { name = codes "u"; columns = (record { name = codes "m0"; kind = Int 4 false; nullable = false; default = None; auto = false } ∷ record { name = codes "id"; kind = Int 8 false; nullable = false; default = None; auto = false } ∷ []); uniques = (record { name = None; places = (1 ∷ []) } ∷ record { name = (Some (codes "u0")); places = (0 ∷ []) } ∷ []); indexes = []; comment = []; start = None }; rows = (((Num (pos 4)) ∷ (Num (pos 3)) ∷ []) ∷ ((Num (pos 1)) ∷ (Num (pos 5)) ∷ []) ∷ []) } ∷ []); clients = ((record { line = 1; word = (words.Do (statements.Delete (codes "t") (conditions.Equal (record { column = codes "id"; value = (Num (pos 2)) } ∷ [])))) } ∷ record { line = 2; word = (words.Do (statements.Update (codes "t") (record { column = codes "v"; value = (Num (pos 5)) } ∷ record { column = codes "id"; value = (Num (pos 5)) } ∷ []) (conditions.Range (record { column = codes "id"; sign = signs.AtLeast; value = (Num (pos 1)) } ∷ record { column = codes "id"; sign = signs.AtMost; value = (Num (pos 2)) } ∷ [])))) } ∷ record { line = 3; word = (words.Do (statements.Update (codes "t") (record { column = codes "id"; value = (Num (pos 3)) } ∷ []) (conditions.Range (record { column = codes "id"; sign = signs.AtMost; value = (Num (pos 7)) } ∷ [])))) } ∷ record { line = 4; word = words.Begin } ∷ record { line = 5; word = (words.Do (statements.Insert (codes "t") None ((Num (pos 1)) ∷ (Text (codes "d")) ∷ (Num (pos 3)) ∷ []) None)) } ∷ record { line = 6; word = (words.Do (statements.Replace (codes "t") (Some (codes "m0" ∷ codes "v" ∷ codes "id" ∷ [])) ((Num (pos 1)) ∷ (Text (codes "a")) ∷ (Num (pos 4)) ∷ []) None)) } ∷ record { line = 7; word = words.Commit } ∷ []) ∷ []); operator = (record { word = commanded.NoThrottle; units = 1 } ∷ record { word = (commanded.ChunkSize 2); units = 1 } ∷ record { word = commanded.Unpostpone; units = 1 } ∷ record { word = (commanded.ChunkSize 2); units = 1 } ∷ record { word = commanded.Panic; units = 1 } ∷ record { word = commanded.Wait; units = 21 } ∷ record { word = commanded.Throttle; units = 1 } ∷ []); faults = (losses.Turn 28 Copy ∷ []); turns = (record { actor = Insp; times = 5 } ∷ record { actor = Copy; times = 1 } ∷ record { actor = (Client 1); times = 1 } ∷ record { actor = (Client 1); times = 3 } ∷ record { actor = Apply; times = 3 } ∷ record { actor = Insp; times = 1 } ∷ record { actor = Apply; times = 1 } ∷ record { actor = Lock; times = 1 } ∷ record { actor = Lock; times = 1 } ∷ record { actor = Apply; times = 5 } ∷ record { actor = Lock; times = 2 } ∷ record { actor = Ren; times = 1 } ∷ record { actor = Ren; times = 3 } ∷ record { actor = (Client 1); times = 2 } ∷ record { actor = Apply; times = 1 } ∷ record { actor = Apply; times = 2 } ∷ record { actor = Copy; times = 5 } ∷ record { actor = Copy; times = 2 } ∷ record { actor = Insp; times = 5 } ∷ record { actor = Copy; times = 3 } ∷ record { actor = Lock; times = 1 } ∷ record { actor = Ren; times = 1 } ∷ record { actor = (Client 1); times = 5 } ∷ record { actor = Lock; times = 3 } ∷ record { actor = Apply; times = 2 } ∷ []); options = record { chunk_size = 5; dml_batch_size = 4; default_retries = 9; max_backlog = 0; drain_limit = 2000; client_wait = 3; tool_wait = 1; max_load = 64; turn_limit = 44; notes = 0; note_every = 100; replica_step = 0; replica_pause = 1; max_lag = 10; resume = false; approve_renamed_columns = true; initially_drop_ghost_table = false; initially_drop_old_table = false; ok_to_drop_table = false; postpone = false; show_history = true; show_turns = true; show_tables = true; show_replies = true } }

abbrev journal_170 : List Entry
journal_170 =
    record { actor = Insp; session = 1; asked = Call requests.ShowTables; side = None; answer = answers.Tables (record { name = codes "t"; comment = [] } ∷ record { name = codes "u"; comment = [] } ∷ []); missed = None; draw = None }
    ∷ record { actor = Insp; session = 1; asked = Call (requests.Create (record { name = codes "_t_ghc"; columns = (record { name = codes "id"; kind = Int 8 false; nullable = false; default = None; auto = false } ∷ record { name = codes "hint"; kind = VarChar 64; nullable = false; default = None; auto = false } ∷ record { name = codes "value"; kind = VarChar 255; nullable = false; default = None; auto = false } ∷ []); uniques = (record { name = None; places = (0 ∷ []) } ∷ []); indexes = []; comment = []; start = None })); side = None; answer = answers.Ok 0; missed = None; draw = None }
    ∷ record { actor = Insp; session = 1; asked = Call (requests.Create (record { name = codes "_t_gho"; columns = (record { name = codes "m0"; kind = Int 4 false; nullable = true; default = (Some Null); auto = false } ∷ record { name = codes "v"; kind = VarChar 6; nullable = true; default = (Some Null); auto = false } ∷ record { name = codes "id"; kind = Int 8 false; nullable = false; default = None; auto = false } ∷ []); uniques = (record { name = None; places = (2 ∷ []) } ∷ record { name = (Some (codes "u0")); places = (0 ∷ []) } ∷ []); indexes = []; comment = []; start = None })); side = None; answer = answers.Ok 0; missed = None; draw = None }
    ∷ record { actor = Insp; session = 1; asked = Call requests.LogEnd; side = None; answer = answers.At 0; missed = None; draw = None }
    ∷ record { actor = Insp; session = 1; asked = Call (requests.Ends (codes "t")); side = None; answer = answers.Ends (Some (record { least = ((Num (pos 1)) ∷ []); greatest = ((Num (pos 7)) ∷ []) })); missed = None; draw = None }
    ∷ record { actor = Copy; session = 2; asked = Call (requests.ChunkEnd (codes "t") (Closed ((Num (pos 1)) ∷ [])) ((Num (pos 7)) ∷ []) 5); side = None; answer = answers.End ((Num (pos 7)) ∷ []); missed = None; draw = None }
    ∷ record { actor = (Client 1); session = 3; asked = Call (requests.Do (statements.Delete (codes "t") (conditions.Equal (record { column = codes "id"; value = (Num (pos 2)) } ∷ [])))); side = None; answer = answers.Ok 0; missed = None; draw = None }
    ∷ record { actor = (Client 1); session = 3; asked = Call (requests.Do (statements.Update (codes "t") (record { column = codes "v"; value = (Num (pos 5)) } ∷ record { column = codes "id"; value = (Num (pos 5)) } ∷ []) (conditions.Range (record { column = codes "id"; sign = signs.AtLeast; value = (Num (pos 1)) } ∷ record { column = codes "id"; sign = signs.AtMost; value = (Num (pos 2)) } ∷ [])))); side = None; answer = answers.Ok 1; missed = None; draw = None }
    ∷ record { actor = (Client 1); session = 3; asked = Call (requests.Do (statements.Update (codes "t") (record { column = codes "id"; value = (Num (pos 3)) } ∷ []) (conditions.Range (record { column = codes "id"; sign = signs.AtMost; value = (Num (pos 7)) } ∷ [])))); side = None; answer = answers.Refused 1062 None; missed = None; draw = None }
    ∷ record { actor = (Client 1); session = 3; asked = Call requests.Begin; side = None; answer = answers.Ok 0; missed = None; draw = None }
    ∷ record { actor = Apply; session = 4; asked = Call (requests.ReadLog 0 4 (codes "t" ∷ codes "_t_ghc" ∷ [])); side = None; answer = answers.Events (record { table = codes "t"; change = changes.Update (Null ∷ Null ∷ (Num (pos 1)) ∷ []) (Null ∷ (Text (codes "5")) ∷ (Num (pos 5)) ∷ []) } ∷ []) 1; missed = None; draw = None }
    ∷ record { actor = Apply; session = 4; asked = Call requests.Begin; side = None; answer = answers.Ok 0; missed = None; draw = None }
    ∷ record { actor = Apply; session = 4; asked = Call (requests.Do (statements.Delete (codes "_t_gho") (conditions.Equal (record { column = codes "id"; value = (Num (pos 1)) } ∷ [])))); side = None; answer = answers.Ok 0; missed = None; draw = None }
    ∷ record { actor = Apply; session = 4; asked = Call (requests.Do (statements.Replace (codes "_t_gho") None (Null ∷ (Text (codes "5")) ∷ (Num (pos 5)) ∷ []) None)); side = None; answer = answers.Ok 1; missed = None; draw = None }
    ∷ record { actor = Apply; session = 4; asked = Call requests.Commit; side = None; answer = answers.Ok 0; missed = None; draw = None }
    ∷ record { actor = (Client 1); session = 3; asked = Call (requests.Do (statements.Insert (codes "t") None ((Num (pos 1)) ∷ (Text (codes "d")) ∷ (Num (pos 3)) ∷ []) None)); side = None; answer = answers.Refused 1062 None; missed = None; draw = None }
    ∷ record { actor = (Client 1); session = 3; asked = Call (requests.Do (statements.Replace (codes "t") (Some (codes "m0" ∷ codes "v" ∷ codes "id" ∷ [])) ((Num (pos 1)) ∷ (Text (codes "a")) ∷ (Num (pos 4)) ∷ []) None)); side = None; answer = answers.Ok 1; missed = None; draw = None }
    ∷ record { actor = Copy; session = 2; asked = Call (requests.BeginSpan (codes "t") (record { low = (Closed ((Num (pos 1)) ∷ [])); high = (Closed ((Num (pos 7)) ∷ [])) }) 5); side = None; answer = answers.Waits 3; missed = None; draw = None }
    ∷ record { actor = Copy; session = 2; asked = Poll; side = None; answer = answers.TimedOut 1; missed = None; draw = None }
    ∷ record { actor = Copy; session = 2; asked = Call (requests.ChunkEnd (codes "t") (Closed ((Num (pos 1)) ∷ [])) ((Num (pos 7)) ∷ []) 5); side = None; answer = answers.End ((Num (pos 7)) ∷ []); missed = None; draw = None }
    ∷ record { actor = Copy; session = 2; asked = Call (requests.BeginSpan (codes "t") (record { low = (Closed ((Num (pos 1)) ∷ [])); high = (Closed ((Num (pos 7)) ∷ [])) }) 5); side = None; answer = answers.Waits 3; missed = None; draw = None }
    ∷ record { actor = Copy; session = 2; asked = Poll; side = None; answer = answers.TimedOut 1; missed = None; draw = None }
    ∷ record { actor = Copy; session = 2; asked = Call (requests.ChunkEnd (codes "t") (Closed ((Num (pos 1)) ∷ [])) ((Num (pos 7)) ∷ []) 5); side = None; answer = answers.End ((Num (pos 7)) ∷ []); missed = None; draw = None }
    ∷ record { actor = Copy; session = 2; asked = Call (requests.BeginSpan (codes "t") (record { low = (Closed ((Num (pos 1)) ∷ [])); high = (Closed ((Num (pos 7)) ∷ [])) }) 5); side = None; answer = answers.Waits 3; missed = None; draw = None }
    ∷ record { actor = Copy; session = 2; asked = Poll; side = None; answer = answers.TimedOut 1; missed = None; draw = None }
    ∷ record { actor = Copy; session = 2; asked = Call (requests.ChunkEnd (codes "t") (Closed ((Num (pos 1)) ∷ [])) ((Num (pos 7)) ∷ []) 5); side = None; answer = answers.End ((Num (pos 7)) ∷ []); missed = None; draw = None }
    ∷ record { actor = Copy; session = 2; asked = Call (requests.BeginSpan (codes "t") (record { low = (Closed ((Num (pos 1)) ∷ [])); high = (Closed ((Num (pos 7)) ∷ [])) }) 5); side = None; answer = answers.Waits 3; missed = None; draw = None }
    ∷ record { actor = Copy; session = 2; asked = Cut; side = None; answer = answers.Lost; missed = None; draw = None }
    ∷ record { actor = (Client 1); session = 3; asked = Call requests.Commit; side = None; answer = answers.Ok 0; missed = None; draw = None }
    ∷ record { actor = Apply; session = 4; asked = Call (requests.ReadLog 1 4 (codes "t" ∷ codes "_t_ghc" ∷ [])); side = None; answer = answers.Events (record { table = codes "t"; change = changes.Write ((Num (pos 1)) ∷ (Text (codes "a")) ∷ (Num (pos 4)) ∷ []) } ∷ []) 3; missed = None; draw = None }
    ∷ record { actor = Apply; session = 4; asked = Call requests.Begin; side = None; answer = answers.Ok 0; missed = None; draw = None }
    ∷ record { actor = Op; session = 0; asked = Command commanded.NoThrottle; side = None; answer = answers.Ok 0; missed = None; draw = None }
    ∷ record { actor = Copy; session = 5; asked = Call (requests.ChunkEnd (codes "t") (Closed ((Num (pos 1)) ∷ [])) ((Num (pos 7)) ∷ []) 5); side = None; answer = answers.End ((Num (pos 7)) ∷ []); missed = None; draw = None }
    ∷ record { actor = Apply; session = 4; asked = Call (requests.Do (statements.Replace (codes "_t_gho") None ((Num (pos 1)) ∷ (Text (codes "a")) ∷ (Num (pos 4)) ∷ []) None)); side = None; answer = answers.Ok 1; missed = None; draw = None }
    ∷ record { actor = Op; session = 0; asked = Command (commanded.ChunkSize 2); side = None; answer = answers.Ok 0; missed = None; draw = None }
    ∷ record { actor = Copy; session = 5; asked = Call (requests.BeginSpan (codes "t") (record { low = (Closed ((Num (pos 1)) ∷ [])); high = (Closed ((Num (pos 7)) ∷ [])) }) 5); side = None; answer = answers.Keys (((Num (pos 3)) ∷ []) ∷ ((Num (pos 4)) ∷ []) ∷ ((Num (pos 5)) ∷ []) ∷ ((Num (pos 6)) ∷ []) ∷ ((Num (pos 7)) ∷ []) ∷ []) ((Num (pos 7)) ∷ []); missed = None; draw = None }
    ∷ record { actor = Apply; session = 4; asked = Call requests.Commit; side = None; answer = answers.Ok 0; missed = None; draw = None }
    ∷ record { actor = Op; session = 0; asked = Command commanded.Unpostpone; side = None; answer = answers.Ok 0; missed = None; draw = None }
    ∷ record { actor = Copy; session = 5; asked = Call (requests.CopyRow (codes "t") (codes "_t_gho") map_170 ((Num (pos 3)) ∷ [])); side = None; answer = answers.Ok 1; missed = None; draw = None }
    ∷ record { actor = Op; session = 0; asked = Command (commanded.ChunkSize 2); side = None; answer = answers.Ok 0; missed = None; draw = None }
    ∷ record { actor = Copy; session = 5; asked = Call (requests.CopyRow (codes "t") (codes "_t_gho") map_170 ((Num (pos 4)) ∷ [])); side = None; answer = answers.Ok 0; missed = None; draw = None }
    ∷ record { actor = Op; session = 0; asked = Command commanded.Panic; side = None; answer = answers.Ok 0; missed = None; draw = None }
    ∷ record { actor = Copy; session = 5; asked = Call requests.Rollback; side = None; answer = answers.Ok 0; missed = None; draw = None }
    ∷ []

abbrev reported_170 : WorkedFacts
reported_170 =
    record {
      verdict = verdicts.Reverted (causes.Panic 42);
      ended = (Some (1, 1) ∷ Some (1, 2) ∷ Some (1, 3) ∷ Some (1, 4) ∷ []);
      left = (record { schema = record { name = codes "t"; columns = (record { name = codes "m0"; kind = Int 4 false; nullable = true; default = (Some Null); auto = false } ∷ record { name = codes "v"; kind = VarChar 6; nullable = true; default = (Some Null); auto = false } ∷ record { name = codes "id"; kind = Int 1 false; nullable = false; default = None; auto = false } ∷ []); uniques = (record { name = None; places = (2 ∷ []) } ∷ record { name = (Some (codes "u0")); places = (0 ∷ []) } ∷ []); indexes = []; comment = []; start = None }; rows = (((Num (pos 2)) ∷ (Text (codes "b")) ∷ (Num (pos 3)) ∷ []) ∷ ((Num (pos 1)) ∷ (Text (codes "a")) ∷ (Num (pos 4)) ∷ []) ∷ (Null ∷ (Text (codes "5")) ∷ (Num (pos 5)) ∷ []) ∷ ((Num (pos 6)) ∷ (Text (codes "3")) ∷ (Num (pos 6)) ∷ []) ∷ (Null ∷ (Text (codes "a")) ∷ (Num (pos 7)) ∷ []) ∷ []) } ∷ record { schema = record { name = codes "u"; columns = (record { name = codes "m0"; kind = Int 4 false; nullable = false; default = None; auto = false } ∷ record { name = codes "id"; kind = Int 8 false; nullable = false; default = None; auto = false } ∷ []); uniques = (record { name = None; places = (1 ∷ []) } ∷ record { name = (Some (codes "u0")); places = (0 ∷ []) } ∷ []); indexes = []; comment = []; start = None }; rows = (((Num (pos 4)) ∷ (Num (pos 3)) ∷ []) ∷ ((Num (pos 1)) ∷ (Num (pos 5)) ∷ []) ∷ []) } ∷ []);
      alone = (((replies.Ok 0) ∷ []) ∷ ((replies.Ok 1) ∷ []) ∷ ((replies.Error 1062) ∷ []) ∷ ((replies.Ok 0) ∷ (replies.Error 1062) ∷ (replies.Ok 1) ∷ (replies.Ok 0) ∷ []) ∷ []);
      over = replicate 42 false ++ replicate 1 true;
      bound = 70327;
      replies = (((1, 1, (Some (replies.Ok 0))) ∷ (2, 1, (Some (replies.Ok 1))) ∷ (3, 1, (Some (replies.Error 1062))) ∷ (4, 1, (Some (replies.Ok 0))) ∷ (4, 2, (Some (replies.Error 1062))) ∷ (4, 3, (Some (replies.Ok 1))) ∷ (4, 4, (Some (replies.Ok 0))) ∷ [])) ∷ [];
    }

worked_170 : IsWorked plan_170 journal_170 reported_170
unfolding computing
worked_170 = record { asks = refl; sessions = refl; answers = refl; sides = refl; struck = refl; verdict = refl; ended = refl; order = refl; left = refl; serial = refl; alone = refl; over = refl; online = refl; bounded = refl; replies = refl }

-- Plan 171
abbrev map_171 : List MapColumn
map_171 = (record { kind = Int 4 false; nullable = false; origin = from.Old 0 } ∷ record { kind = Int 1 false; nullable = true; origin = from.Old 1 } ∷ [])

abbrev plan_171 : PlanData
plan_171 = record { table = codes "t"; alter = (clauses.Drop (codes "v") ∷ []); tables = (record { schema = record { name = codes "t"; columns = (record { name = codes "id"; kind = Int 4 false; nullable = false; default = None; auto = false } ∷ record { name = codes "m0"; kind = Int 1 false; nullable = true; default = (Some Null); auto = false } ∷ record { name = codes "v"; kind = Int 2 false; nullable = true; default = (Some (Num (pos 5))); auto = false } ∷ []); uniques = (record { name = (Some (codes "k")); places = (0 ∷ []) } ∷ record { name = (Some (codes "u0")); places = (1 ∷ []) } ∷ []); indexes = (record { name = (Some (codes "v")); places = (2 ∷ []) } ∷ []); comment = []; start = None }; rows = (((Num (pos 7)) ∷ (Num (pos 3)) ∷ (Num (pos 2)) ∷ []) ∷ []) } ∷ []); clients = ((record { line = 1; word = words.Begin } ∷ record { line = 2; word = (words.Do (statements.Delete (codes "t") (conditions.Equal (record { column = codes "id"; value = (Num (pos 5)) } ∷ [])))) } ∷ record { line = 3; word = words.Commit } ∷ record { line = 4; word = (words.Do (statements.Delete (codes "t") (conditions.Equal (record { column = codes "m0"; value = (Num (pos 2)) } ∷ [])))) } ∷ record { line = 5; word = words.Begin } ∷ record { line = 6; word = (words.Do (statements.Replace (codes "t") None ((Num (pos 7)) ∷ (Blob (255 ∷ [])) ∷ (Text (codes "7")) ∷ []) None)) } ∷ record { line = 7; word = (words.Do (statements.Insert (codes "t") None ((Num (pos 4)) ∷ (Num (pos 4)) ∷ (Num (pos 6)) ∷ []) None)) } ∷ record { line = 8; word = words.Commit } ∷ record { line = 9; word = (words.Do (statements.Delete (codes "t") (conditions.Equal (record { column = codes "m0"; value = (Num (pos 7)) } ∷ [])))) } ∷ record { line = 10; word = (words.Do (statements.Select (codes "t") (shown.Columns (codes "id" ∷ [])) (conditions.Equal (record { column = codes "id"; value = (Num (pos 7)) } ∷ [])))) } ∷ record { line = 11; word = (words.Do (statements.Insert (codes "t") (Some (codes "id" ∷ codes "m0" ∷ codes "v" ∷ [])) ((Num (pos 6)) ∷ (Text (codes "6")) ∷ Null ∷ []) None)) } ∷ []) ∷ (record { line = 1; word = (words.Do (statements.Insert (codes "t") (Some (codes "id" ∷ codes "v" ∷ [])) ((Num (pos 1)) ∷ Null ∷ []) None)) } ∷ record { line = 2; word = (words.Do (statements.Insert (codes "t") (Some (codes "id" ∷ codes "m0" ∷ codes "v" ∷ [])) ((Num (pos 3)) ∷ (Num (pos 1)) ∷ (Num (pos 6)) ∷ []) None)) } ∷ []) ∷ [] ∷ []); operator = []; faults = []; turns = (record { actor = (Client 2); times = 1 } ∷ record { actor = Copy; times = 1 } ∷ record { actor = Copy; times = 1 } ∷ record { actor = Ren; times = 1 } ∷ record { actor = (Client 3); times = 1 } ∷ record { actor = Copy; times = 1 } ∷ record { actor = Copy; times = 2 } ∷ record { actor = (Client 1); times = 1 } ∷ record { actor = Lock; times = 1 } ∷ record { actor = (Client 1); times = 1 } ∷ record { actor = Apply; times = 5 } ∷ record { actor = (Client 2); times = 1 } ∷ record { actor = (Client 2); times = 3 } ∷ record { actor = (Client 1); times = 1 } ∷ record { actor = Insp; times = 1 } ∷ record { actor = Insp; times = 5 } ∷ record { actor = Lock; times = 1 } ∷ record { actor = Lock; times = 1 } ∷ record { actor = Insp; times = 1 } ∷ record { actor = (Client 1); times = 3 } ∷ record { actor = Op; times = 3 } ∷ record { actor = Insp; times = 1 } ∷ record { actor = (Client 2); times = 1 } ∷ record { actor = Op; times = 1 } ∷ record { actor = Op; times = 1 } ∷ record { actor = Lock; times = 5 } ∷ record { actor = (Client 2); times = 1 } ∷ record { actor = (Client 1); times = 1 } ∷ record { actor = (Client 2); times = 1 } ∷ record { actor = (Client 3); times = 3 } ∷ record { actor = Ren; times = 1 } ∷ record { actor = Lock; times = 1 } ∷ record { actor = (Client 3); times = 1 } ∷ record { actor = Lock; times = 3 } ∷ record { actor = Apply; times = 5 } ∷ record { actor = (Client 3); times = 3 } ∷ record { actor = (Client 1); times = 1 } ∷ record { actor = Op; times = 5 } ∷ record { actor = Apply; times = 1 } ∷ record { actor = Lock; times = 5 } ∷ record { actor = Copy; times = 1 } ∷ []); options = record { chunk_size = 1000; dml_batch_size = 4; default_retries = 1; max_backlog = 1; drain_limit = 3; client_wait = 5; tool_wait = 1; max_load = 64; turn_limit = 200000; notes = 0; note_every = 100; replica_step = 0; replica_pause = 1; max_lag = 10; resume = false; approve_renamed_columns = true; initially_drop_ghost_table = false; initially_drop_old_table = false; ok_to_drop_table = false; postpone = false; show_history = true; show_turns = true; show_tables = true; show_replies = true } }

abbrev journal_171 : List Entry
journal_171 =
    record { actor = (Client 2); session = 1; asked = Call (requests.Do (statements.Insert (codes "t") (Some (codes "id" ∷ codes "v" ∷ [])) ((Num (pos 1)) ∷ Null ∷ []) None)); side = None; answer = answers.Ok 1; missed = None; draw = None }
    ∷ record { actor = (Client 1); session = 2; asked = Call requests.Begin; side = None; answer = answers.Ok 0; missed = None; draw = None }
    ∷ record { actor = (Client 1); session = 2; asked = Call (requests.Do (statements.Delete (codes "t") (conditions.Equal (record { column = codes "id"; value = (Num (pos 5)) } ∷ [])))); side = None; answer = answers.Ok 0; missed = None; draw = None }
    ∷ record { actor = (Client 2); session = 1; asked = Call (requests.Do (statements.Insert (codes "t") (Some (codes "id" ∷ codes "m0" ∷ codes "v" ∷ [])) ((Num (pos 3)) ∷ (Num (pos 1)) ∷ (Num (pos 6)) ∷ []) None)); side = None; answer = answers.Ok 1; missed = None; draw = None }
    ∷ record { actor = (Client 1); session = 2; asked = Call requests.Commit; side = None; answer = answers.Ok 0; missed = None; draw = None }
    ∷ record { actor = Insp; session = 3; asked = Call requests.ShowTables; side = None; answer = answers.Tables (record { name = codes "t"; comment = [] } ∷ []); missed = None; draw = None }
    ∷ record { actor = Insp; session = 3; asked = Call (requests.Create (record { name = codes "_t_ghc"; columns = (record { name = codes "id"; kind = Int 8 false; nullable = false; default = None; auto = false } ∷ record { name = codes "hint"; kind = VarChar 64; nullable = false; default = None; auto = false } ∷ record { name = codes "value"; kind = VarChar 255; nullable = false; default = None; auto = false } ∷ []); uniques = (record { name = None; places = (0 ∷ []) } ∷ []); indexes = []; comment = []; start = None })); side = None; answer = answers.Ok 0; missed = None; draw = None }
    ∷ record { actor = Insp; session = 3; asked = Call (requests.Create (record { name = codes "_t_gho"; columns = (record { name = codes "id"; kind = Int 4 false; nullable = false; default = None; auto = false } ∷ record { name = codes "m0"; kind = Int 1 false; nullable = true; default = (Some Null); auto = false } ∷ []); uniques = (record { name = (Some (codes "k")); places = (0 ∷ []) } ∷ record { name = (Some (codes "u0")); places = (1 ∷ []) } ∷ []); indexes = []; comment = []; start = None })); side = None; answer = answers.Ok 0; missed = None; draw = None }
    ∷ record { actor = Insp; session = 3; asked = Call requests.LogEnd; side = None; answer = answers.At 2; missed = None; draw = None }
    ∷ record { actor = Insp; session = 3; asked = Call (requests.Ends (codes "t")); side = None; answer = answers.Ends (Some (record { least = ((Num (pos 1)) ∷ []); greatest = ((Num (pos 7)) ∷ []) })); missed = None; draw = None }
    ∷ record { actor = (Client 1); session = 2; asked = Call (requests.Do (statements.Delete (codes "t") (conditions.Equal (record { column = codes "m0"; value = (Num (pos 2)) } ∷ [])))); side = None; answer = answers.Ok 0; missed = None; draw = None }
    ∷ record { actor = (Client 1); session = 2; asked = Call requests.Begin; side = None; answer = answers.Ok 0; missed = None; draw = None }
    ∷ record { actor = (Client 1); session = 2; asked = Call (requests.Do (statements.Replace (codes "t") None ((Num (pos 7)) ∷ (Blob (255 ∷ [])) ∷ (Text (codes "7")) ∷ []) None)); side = None; answer = answers.Refused 1366 (Some 1); missed = None; draw = None }
    ∷ record { actor = (Client 1); session = 2; asked = Call (requests.Do (statements.Insert (codes "t") None ((Num (pos 4)) ∷ (Num (pos 4)) ∷ (Num (pos 6)) ∷ []) None)); side = None; answer = answers.Ok 1; missed = None; draw = None }
    ∷ record { actor = (Client 1); session = 2; asked = Call requests.Commit; side = None; answer = answers.Ok 0; missed = None; draw = None }
    ∷ record { actor = Apply; session = 4; asked = Call (requests.ReadLog 2 4 (codes "t" ∷ codes "_t_ghc" ∷ [])); side = None; answer = answers.Events (record { table = codes "t"; change = changes.Write ((Num (pos 4)) ∷ (Num (pos 4)) ∷ (Num (pos 6)) ∷ []) } ∷ []) 3; missed = None; draw = None }
    ∷ record { actor = Copy; session = 5; asked = Call (requests.ChunkEnd (codes "t") (Closed ((Num (pos 1)) ∷ [])) ((Num (pos 7)) ∷ []) 1000); side = None; answer = answers.End ((Num (pos 7)) ∷ []); missed = None; draw = None }
    ∷ record { actor = Copy; session = 5; asked = Call (requests.BeginSpan (codes "t") (record { low = (Closed ((Num (pos 1)) ∷ [])); high = (Closed ((Num (pos 7)) ∷ [])) }) 1000); side = None; answer = answers.Keys (((Num (pos 1)) ∷ []) ∷ ((Num (pos 3)) ∷ []) ∷ ((Num (pos 4)) ∷ []) ∷ ((Num (pos 7)) ∷ []) ∷ []) ((Num (pos 7)) ∷ []); missed = None; draw = None }
    ∷ record { actor = Apply; session = 4; asked = Call requests.Begin; side = None; answer = answers.Ok 0; missed = None; draw = None }
    ∷ record { actor = (Client 1); session = 2; asked = Call (requests.Do (statements.Delete (codes "t") (conditions.Equal (record { column = codes "m0"; value = (Num (pos 7)) } ∷ [])))); side = None; answer = answers.Ok 0; missed = None; draw = None }
    ∷ record { actor = Copy; session = 5; asked = Call (requests.CopyRow (codes "t") (codes "_t_gho") map_171 ((Num (pos 1)) ∷ [])); side = None; answer = answers.Ok 1; missed = None; draw = None }
    ∷ record { actor = Apply; session = 4; asked = Call (requests.Do (statements.Replace (codes "_t_gho") None ((Num (pos 4)) ∷ (Num (pos 4)) ∷ []) None)); side = None; answer = answers.Ok 1; missed = None; draw = None }
    ∷ record { actor = (Client 1); session = 2; asked = Call (requests.Do (statements.Select (codes "t") (shown.Columns (codes "id" ∷ [])) (conditions.Equal (record { column = codes "id"; value = (Num (pos 7)) } ∷ [])))); side = None; answer = answers.Rows (((Num (pos 7)) ∷ []) ∷ []); missed = None; draw = None }
    ∷ record { actor = Copy; session = 5; asked = Call (requests.CopyRow (codes "t") (codes "_t_gho") map_171 ((Num (pos 3)) ∷ [])); side = None; answer = answers.Ok 1; missed = None; draw = None }
    ∷ record { actor = Apply; session = 4; asked = Call requests.Commit; side = None; answer = answers.Ok 0; missed = None; draw = None }
    ∷ record { actor = (Client 1); session = 2; asked = Call (requests.Do (statements.Insert (codes "t") (Some (codes "id" ∷ codes "m0" ∷ codes "v" ∷ [])) ((Num (pos 6)) ∷ (Text (codes "6")) ∷ Null ∷ []) None)); side = None; answer = answers.Waits 5; missed = None; draw = None }
    ∷ record { actor = Copy; session = 5; asked = Call (requests.CopyRow (codes "t") (codes "_t_gho") map_171 ((Num (pos 4)) ∷ [])); side = None; answer = answers.Ok 0; missed = None; draw = None }
    ∷ record { actor = (Client 1); session = 2; asked = Poll; side = None; answer = answers.Waits 5; missed = None; draw = None }
    ∷ record { actor = Copy; session = 5; asked = Call (requests.CopyRow (codes "t") (codes "_t_gho") map_171 ((Num (pos 7)) ∷ [])); side = None; answer = answers.Ok 1; missed = None; draw = None }
    ∷ record { actor = (Client 1); session = 2; asked = Poll; side = None; answer = answers.Waits 5; missed = None; draw = None }
    ∷ record { actor = Copy; session = 5; asked = Call requests.Commit; side = None; answer = answers.Ok 0; missed = None; draw = None }
    ∷ record { actor = Lock; session = 6; asked = Call (requests.Create (record { name = codes "_t_del"; columns = (record { name = codes "id"; kind = Int 4 false; nullable = false; default = None; auto = false } ∷ []); uniques = (record { name = None; places = (0 ∷ []) } ∷ []); indexes = []; comment = codes "ghost-cut-over-sentry"; start = None })); side = None; answer = answers.Ok 0; missed = None; draw = None }
    ∷ record { actor = (Client 1); session = 2; asked = Poll; side = None; answer = answers.Ok 1; missed = None; draw = None }
    ∷ record { actor = Apply; session = 4; asked = Call (requests.ReadLog 3 4 (codes "t" ∷ codes "_t_ghc" ∷ [])); side = None; answer = answers.Events (record { table = codes "t"; change = changes.Write ((Num (pos 6)) ∷ (Num (pos 6)) ∷ Null ∷ []) } ∷ []) 8; missed = None; draw = None }
    ∷ record { actor = Lock; session = 6; asked = Call (requests.LockTables (codes "t" ∷ codes "_t_del" ∷ [])); side = None; answer = answers.Ok 0; missed = None; draw = None }
    ∷ record { actor = Insp; session = 3; asked = Call (requests.Do (statements.Insert (codes "_t_ghc") None ((Num (pos 1)) ∷ (Text (codes "cut-over")) ∷ (Text (codes "1")) ∷ []) None)); side = None; answer = answers.Ok 1; missed = None; draw = None }
    ∷ record { actor = Apply; session = 4; asked = Call requests.Begin; side = None; answer = answers.Ok 0; missed = None; draw = None }
    ∷ record { actor = Apply; session = 4; asked = Call (requests.Do (statements.Replace (codes "_t_gho") None ((Num (pos 6)) ∷ (Num (pos 6)) ∷ []) None)); side = None; answer = answers.Ok 1; missed = None; draw = None }
    ∷ record { actor = Apply; session = 4; asked = Call requests.Commit; side = None; answer = answers.Ok 0; missed = None; draw = None }
    ∷ record { actor = Lock; session = 6; asked = Call requests.Unlock; side = None; answer = answers.Ok 0; missed = None; draw = None }
    ∷ record { actor = Insp; session = 3; asked = Call requests.ShowTables; side = None; answer = answers.Tables (record { name = codes "_t_del"; comment = codes "ghost-cut-over-sentry" } ∷ record { name = codes "_t_ghc"; comment = [] } ∷ record { name = codes "_t_gho"; comment = [] } ∷ record { name = codes "t"; comment = [] } ∷ []); missed = None; draw = None }
    ∷ record { actor = Insp; session = 3; asked = Call (requests.Drop (codes "_t_del")); side = None; answer = answers.Ok 0; missed = None; draw = None }
    ∷ []

abbrev reported_171 : WorkedFacts
reported_171 =
    record {
      verdict = verdicts.Reverted (causes.Spent tasks.CutOver (39 ∷ []));
      ended = (Some (2, 1) ∷ Some (2, 2) ∷ Some (1, 1) ∷ Some (1, 2) ∷ Some (1, 3) ∷ Some (1, 4) ∷ Some (1, 5) ∷ Some (1, 6) ∷ []);
      left = (record { schema = record { name = codes "t"; columns = (record { name = codes "id"; kind = Int 4 false; nullable = false; default = None; auto = false } ∷ record { name = codes "m0"; kind = Int 1 false; nullable = true; default = (Some Null); auto = false } ∷ record { name = codes "v"; kind = Int 2 false; nullable = true; default = (Some (Num (pos 5))); auto = false } ∷ []); uniques = (record { name = (Some (codes "k")); places = (0 ∷ []) } ∷ record { name = (Some (codes "u0")); places = (1 ∷ []) } ∷ []); indexes = (record { name = (Some (codes "v")); places = (2 ∷ []) } ∷ []); comment = []; start = None }; rows = (((Num (pos 1)) ∷ Null ∷ Null ∷ []) ∷ ((Num (pos 3)) ∷ (Num (pos 1)) ∷ (Num (pos 6)) ∷ []) ∷ ((Num (pos 4)) ∷ (Num (pos 4)) ∷ (Num (pos 6)) ∷ []) ∷ ((Num (pos 6)) ∷ (Num (pos 6)) ∷ Null ∷ []) ∷ ((Num (pos 7)) ∷ (Num (pos 3)) ∷ (Num (pos 2)) ∷ []) ∷ []) } ∷ []);
      alone = (((replies.Ok 1) ∷ []) ∷ ((replies.Ok 1) ∷ []) ∷ ((replies.Ok 0) ∷ (replies.Ok 0) ∷ (replies.Ok 0) ∷ []) ∷ ((replies.Ok 0) ∷ []) ∷ ((replies.Ok 0) ∷ (replies.Error 1366) ∷ (replies.Ok 1) ∷ (replies.Ok 0) ∷ []) ∷ ((replies.Ok 0) ∷ []) ∷ ((replies.Rows (((Num (pos 7)) ∷ []) ∷ [])) ∷ []) ∷ ((replies.Ok 1) ∷ []) ∷ []);
      over = replicate 41 false ++ replicate 1 true;
      bound = 17835;
      replies = (((1, 1, (Some (replies.Ok 0))) ∷ (1, 2, (Some (replies.Ok 0))) ∷ (1, 3, (Some (replies.Ok 0))) ∷ (2, 1, (Some (replies.Ok 0))) ∷ (3, 1, (Some (replies.Ok 0))) ∷ (3, 2, (Some (replies.Error 1366))) ∷ (3, 3, (Some (replies.Ok 1))) ∷ (3, 4, (Some (replies.Ok 0))) ∷ (4, 1, (Some (replies.Ok 0))) ∷ (5, 1, (Some (replies.Rows (((Num (pos 7)) ∷ []) ∷ [])))) ∷ (6, 1, (Some (replies.Ok 1))) ∷ [])) ∷ (((1, 1, (Some (replies.Ok 1))) ∷ (2, 1, (Some (replies.Ok 1))) ∷ [])) ∷ ([]) ∷ [];
    }

worked_171 : IsWorked plan_171 journal_171 reported_171
unfolding computing
worked_171 = record { asks = refl; sessions = refl; answers = refl; sides = refl; struck = refl; verdict = refl; ended = refl; order = refl; left = refl; serial = refl; alone = refl; over = refl; online = refl; bounded = refl; replies = refl }

-- Plan 178
abbrev map_178 : List MapColumn
map_178 = (record { kind = Int 4 false; nullable = false; origin = from.Old 0 } ∷ record { kind = Int 4 false; nullable = false; origin = from.Old 1 } ∷ [])

abbrev plan_178 : PlanData
plan_178 = record { table = codes "t"; alter = (clauses.Drop (codes "v") ∷ []); tables = (record { schema = record { name = codes "t"; columns = (record { name = codes "id"; kind = Int 4 false; nullable = false; default = None; auto = false } ∷ record { name = codes "m0"; kind = Int 4 false; nullable = false; default = None; auto = false } ∷ record { name = codes "v"; kind = Int 2 false; nullable = false; default = (Some (Num (pos 5))); auto = false } ∷ []); uniques = (record { name = (Some (codes "k")); places = (0 ∷ []) } ∷ record { name = (Some (codes "u0")); places = (1 ∷ []) } ∷ []); indexes = []; comment = []; start = None }; rows = [] } ∷ []); clients = ((record { line = 1; word = (words.Do (statements.Insert (codes "t") (Some (codes "id" ∷ codes "m0" ∷ codes "v" ∷ [])) ((Num (pos 5)) ∷ (Num (pos 5)) ∷ (Num (pos 7)) ∷ []) None)) } ∷ record { line = 2; word = (words.Do (statements.Insert (codes "t") (Some (codes "id" ∷ codes "m0" ∷ codes "v" ∷ [])) ((Num (pos 4)) ∷ (Num (pos 3)) ∷ (Num (pos 5)) ∷ []) None)) } ∷ record { line = 3; word = (words.Do (statements.Replace (codes "t") None ((Num (pos 1)) ∷ (Num (pos 4)) ∷ (Num (pos 5)) ∷ []) None)) } ∷ record { line = 4; word = (words.Do (statements.Insert (codes "t") None ((Num (pos 1)) ∷ (Num (pos 1)) ∷ (Num (pos 6)) ∷ (Num (pos 1)) ∷ []) None)) } ∷ record { line = 5; word = (words.Do (statements.Insert (codes "t") (Some (codes "id" ∷ codes "m0" ∷ codes "v" ∷ [])) ((Blob (255 ∷ [])) ∷ (Num (pos 4)) ∷ (Num (pos 7)) ∷ []) None)) } ∷ record { line = 6; word = (words.Do (statements.Replace (codes "t") None ((Num (pos 3)) ∷ (Num (pos 5)) ∷ (Num (pos 3)) ∷ []) None)) } ∷ []) ∷ (record { line = 1; word = words.Begin } ∷ record { line = 2; word = (words.Do (statements.Update (codes "t") (record { column = codes "v"; value = (Num (pos 6)) } ∷ []) (conditions.Equal (record { column = codes "id"; value = (Num (pos 3)) } ∷ [])))) } ∷ record { line = 3; word = (words.Do (statements.Insert (codes "t") None ((Num (pos 6)) ∷ (Num (pos 3)) ∷ (Num (pos 7)) ∷ []) None)) } ∷ record { line = 4; word = (words.Do (statements.Update (codes "t") (record { column = codes "m0"; value = (Num (pos 1)) } ∷ record { column = codes "v"; value = (Num (pos 1)) } ∷ []) (conditions.Range (record { column = codes "id"; sign = signs.Less; value = (Num (pos 4)) } ∷ [])))) } ∷ record { line = 5; word = words.Commit } ∷ record { line = 6; word = (words.Do (statements.Select (codes "t") (shown.Columns (codes "id" ∷ [])) (conditions.Equal (record { column = codes "id"; value = (Num (pos 1)) } ∷ [])))) } ∷ []) ∷ []); operator = []; faults = (losses.Turn 39 Ren ∷ []); turns = (record { actor = Insp; times = 5 } ∷ record { actor = Op; times = 5 } ∷ record { actor = Apply; times = 5 } ∷ record { actor = Ren; times = 2 } ∷ record { actor = Copy; times = 3 } ∷ record { actor = Lock; times = 2 } ∷ record { actor = Op; times = 1 } ∷ record { actor = Op; times = 3 } ∷ record { actor = (Client 2); times = 1 } ∷ record { actor = Insp; times = 3 } ∷ record { actor = Ren; times = 1 } ∷ record { actor = (Client 1); times = 2 } ∷ record { actor = Apply; times = 1 } ∷ record { actor = Op; times = 1 } ∷ []); options = record { chunk_size = 3; dml_batch_size = 10; default_retries = 1; max_backlog = 100; drain_limit = 2000; client_wait = 1; tool_wait = 3; max_load = 64; turn_limit = 88; notes = 0; note_every = 100; replica_step = 0; replica_pause = 1; max_lag = 10; resume = false; approve_renamed_columns = true; initially_drop_ghost_table = false; initially_drop_old_table = false; ok_to_drop_table = false; postpone = false; show_history = true; show_turns = true; show_tables = true; show_replies = true } }

abbrev journal_178 : List Entry
journal_178 =
    record { actor = Insp; session = 1; asked = Call requests.ShowTables; side = None; answer = answers.Tables (record { name = codes "t"; comment = [] } ∷ []); missed = None; draw = None }
    ∷ record { actor = Insp; session = 1; asked = Call (requests.Create (record { name = codes "_t_ghc"; columns = (record { name = codes "id"; kind = Int 8 false; nullable = false; default = None; auto = false } ∷ record { name = codes "hint"; kind = VarChar 64; nullable = false; default = None; auto = false } ∷ record { name = codes "value"; kind = VarChar 255; nullable = false; default = None; auto = false } ∷ []); uniques = (record { name = None; places = (0 ∷ []) } ∷ []); indexes = []; comment = []; start = None })); side = None; answer = answers.Ok 0; missed = None; draw = None }
    ∷ record { actor = Insp; session = 1; asked = Call (requests.Create (record { name = codes "_t_gho"; columns = (record { name = codes "id"; kind = Int 4 false; nullable = false; default = None; auto = false } ∷ record { name = codes "m0"; kind = Int 4 false; nullable = false; default = None; auto = false } ∷ []); uniques = (record { name = (Some (codes "k")); places = (0 ∷ []) } ∷ record { name = (Some (codes "u0")); places = (1 ∷ []) } ∷ []); indexes = []; comment = []; start = None })); side = None; answer = answers.Ok 0; missed = None; draw = None }
    ∷ record { actor = Insp; session = 1; asked = Call requests.LogEnd; side = None; answer = answers.At 0; missed = None; draw = None }
    ∷ record { actor = Insp; session = 1; asked = Call (requests.Ends (codes "t")); side = None; answer = answers.Ends None; missed = None; draw = None }
    ∷ record { actor = Lock; session = 2; asked = Call (requests.Create (record { name = codes "_t_del"; columns = (record { name = codes "id"; kind = Int 4 false; nullable = false; default = None; auto = false } ∷ []); uniques = (record { name = None; places = (0 ∷ []) } ∷ []); indexes = []; comment = codes "ghost-cut-over-sentry"; start = None })); side = None; answer = answers.Ok 0; missed = None; draw = None }
    ∷ record { actor = Lock; session = 2; asked = Call (requests.LockTables (codes "t" ∷ codes "_t_del" ∷ [])); side = None; answer = answers.Ok 0; missed = None; draw = None }
    ∷ record { actor = (Client 2); session = 3; asked = Call requests.Begin; side = None; answer = answers.Ok 0; missed = None; draw = None }
    ∷ record { actor = Insp; session = 1; asked = Call (requests.Do (statements.Insert (codes "_t_ghc") None ((Num (pos 1)) ∷ (Text (codes "cut-over")) ∷ (Text (codes "1")) ∷ []) None)); side = None; answer = answers.Ok 1; missed = None; draw = None }
    ∷ record { actor = (Client 1); session = 4; asked = Call (requests.Do (statements.Insert (codes "t") (Some (codes "id" ∷ codes "m0" ∷ codes "v" ∷ [])) ((Num (pos 5)) ∷ (Num (pos 5)) ∷ (Num (pos 7)) ∷ []) None)); side = None; answer = answers.Waits 2; missed = None; draw = None }
    ∷ record { actor = (Client 1); session = 4; asked = Poll; side = None; answer = answers.TimedOut 1; missed = None; draw = None }
    ∷ record { actor = Apply; session = 5; asked = Call (requests.ReadLog 0 10 (codes "t" ∷ codes "_t_ghc" ∷ [])); side = None; answer = answers.Events (record { table = codes "_t_ghc"; change = changes.Write ((Num (pos 1)) ∷ (Text (codes "cut-over")) ∷ (Text (codes "1")) ∷ []) } ∷ []) 1; missed = None; draw = None }
    ∷ record { actor = Ren; session = 6; asked = Call (requests.Rename (record { old = codes "t"; new = codes "_t_del" } ∷ record { old = codes "_t_gho"; new = codes "t" } ∷ [])); side = None; answer = answers.Waits 2; missed = None; draw = None }
    ∷ record { actor = (Client 1); session = 4; asked = Call (requests.Do (statements.Insert (codes "t") (Some (codes "id" ∷ codes "m0" ∷ codes "v" ∷ [])) ((Num (pos 4)) ∷ (Num (pos 3)) ∷ (Num (pos 5)) ∷ []) None)); side = None; answer = answers.Waits 2; missed = None; draw = None }
    ∷ record { actor = (Client 2); session = 3; asked = Call (requests.Do (statements.Update (codes "t") (record { column = codes "v"; value = (Num (pos 6)) } ∷ []) (conditions.Equal (record { column = codes "id"; value = (Num (pos 3)) } ∷ [])))); side = None; answer = answers.Waits 2; missed = None; draw = None }
    ∷ record { actor = Insp; session = 1; asked = Call requests.ShowWaiting; side = None; answer = answers.Waiting (record { session = 6; names = (codes "t" ∷ codes "_t_del" ∷ codes "_t_gho" ∷ []); by = 2 } ∷ []); missed = None; draw = None }
    ∷ record { actor = Lock; session = 2; asked = Call (requests.Drop (codes "_t_del")); side = None; answer = answers.Ok 0; missed = None; draw = None }
    ∷ record { actor = Ren; session = 6; asked = Poll; side = None; answer = answers.Waits 2; missed = None; draw = None }
    ∷ record { actor = (Client 1); session = 4; asked = Poll; side = None; answer = answers.TimedOut 1; missed = None; draw = None }
    ∷ record { actor = (Client 2); session = 3; asked = Poll; side = None; answer = answers.TimedOut 1; missed = None; draw = None }
    ∷ record { actor = Lock; session = 2; asked = Call requests.Unlock; side = None; answer = answers.Ok 0; missed = None; draw = None }
    ∷ record { actor = Ren; session = 6; asked = Poll; side = None; answer = answers.Ok 0; missed = None; draw = None }
    ∷ record { actor = (Client 1); session = 4; asked = Call (requests.Do (statements.Replace (codes "t") None ((Num (pos 1)) ∷ (Num (pos 4)) ∷ (Num (pos 5)) ∷ []) None)); side = None; answer = answers.Refused 1136 None; missed = None; draw = None }
    ∷ record { actor = (Client 2); session = 3; asked = Call (requests.Do (statements.Select (codes "t") (shown.Columns (codes "id" ∷ [])) (conditions.Equal (record { column = codes "id"; value = (Num (pos 1)) } ∷ [])))); side = None; answer = answers.Rows []; missed = None; draw = None }
    ∷ record { actor = Insp; session = 1; asked = Call requests.ShowTables; side = None; answer = answers.Tables (record { name = codes "_t_del"; comment = [] } ∷ record { name = codes "_t_ghc"; comment = [] } ∷ record { name = codes "t"; comment = [] } ∷ []); missed = None; draw = None }
    ∷ record { actor = (Client 1); session = 4; asked = Call (requests.Do (statements.Insert (codes "t") None ((Num (pos 1)) ∷ (Num (pos 1)) ∷ (Num (pos 6)) ∷ (Num (pos 1)) ∷ []) None)); side = None; answer = answers.Refused 1136 None; missed = None; draw = None }
    ∷ record { actor = Insp; session = 1; asked = Call (requests.Drop (codes "_t_ghc")); side = None; answer = answers.Ok 0; missed = None; draw = None }
    ∷ record { actor = (Client 1); session = 4; asked = Call (requests.Do (statements.Insert (codes "t") (Some (codes "id" ∷ codes "m0" ∷ codes "v" ∷ [])) ((Blob (255 ∷ [])) ∷ (Num (pos 4)) ∷ (Num (pos 7)) ∷ []) None)); side = None; answer = answers.Refused 1054 None; missed = None; draw = None }
    ∷ record { actor = (Client 1); session = 4; asked = Call (requests.Do (statements.Replace (codes "t") None ((Num (pos 3)) ∷ (Num (pos 5)) ∷ (Num (pos 3)) ∷ []) None)); side = None; answer = answers.Refused 1136 None; missed = None; draw = None }
    ∷ []

abbrev reported_178 : WorkedFacts
reported_178 =
    record {
      verdict = verdicts.Done;
      ended = (Some (1, 1) ∷ Some (1, 2) ∷ Some (2, 1) ∷ None ∷ Some (1, 3) ∷ Some (2, 2) ∷ Some (1, 4) ∷ Some (1, 5) ∷ Some (1, 6) ∷ []);
      left = (record { schema = record { name = codes "t"; columns = (record { name = codes "id"; kind = Int 4 false; nullable = false; default = None; auto = false } ∷ record { name = codes "m0"; kind = Int 4 false; nullable = false; default = None; auto = false } ∷ []); uniques = (record { name = (Some (codes "k")); places = (0 ∷ []) } ∷ record { name = (Some (codes "u0")); places = (1 ∷ []) } ∷ []); indexes = []; comment = []; start = None }; rows = [] } ∷ []);
      alone = (((replies.Error 1205) ∷ []) ∷ ((replies.Error 1205) ∷ []) ∷ ((replies.Ok 0) ∷ (replies.Error 1205) ∷ []) ∷ [] ∷ ((replies.Error 1136) ∷ []) ∷ ((replies.Rows []) ∷ []) ∷ ((replies.Error 1136) ∷ []) ∷ ((replies.Error 1054) ∷ []) ∷ ((replies.Error 1136) ∷ []) ∷ []);
      over = replicate 26 false ++ replicate 3 true;
      bound = 44848;
      replies = (((1, 1, (Some (replies.Error 1205))) ∷ (2, 1, (Some (replies.Error 1205))) ∷ (3, 1, (Some (replies.Error 1136))) ∷ (4, 1, (Some (replies.Error 1136))) ∷ (5, 1, (Some (replies.Error 1054))) ∷ (6, 1, (Some (replies.Error 1136))) ∷ [])) ∷ (((1, 1, (Some (replies.Ok 0))) ∷ (1, 2, (Some (replies.Error 1205))) ∷ (2, 1, (Some (replies.Rows []))) ∷ [])) ∷ [];
    }

worked_178 : IsWorked plan_178 journal_178 reported_178
unfolding computing
worked_178 = record { asks = refl; sessions = refl; answers = refl; sides = refl; struck = refl; verdict = refl; ended = refl; order = refl; left = refl; serial = refl; alone = refl; over = refl; online = refl; bounded = refl; replies = refl }

-- Plan 182
abbrev map_182 : List MapColumn
map_182 = (record { kind = VarChar 4; nullable = true; origin = from.Added (Text (codes "n")) } ∷ record { kind = Int 4 false; nullable = false; origin = from.Old 0 } ∷ record { kind = VarChar 3; nullable = false; origin = from.Old 1 } ∷ record { kind = VarChar 6; nullable = false; origin = from.Old 2 } ∷ [])

abbrev plan_182 : PlanData
plan_182 = record { table = codes "t"; alter = (clauses.Add (record { name = codes "b"; kind = VarChar 4; nullable = None; default = (Some (Text (codes "n"))); auto = false }) First ∷ []); tables = (record { schema = record { name = codes "t"; columns = (record { name = codes "id"; kind = Int 4 false; nullable = false; default = None; auto = false } ∷ record { name = codes "m0"; kind = VarChar 3; nullable = false; default = (Some (Text (codes "1"))); auto = false } ∷ record { name = codes "v"; kind = VarChar 6; nullable = false; default = (Some (Text (codes "5"))); auto = false } ∷ []); uniques = (record { name = None; places = (0 ∷ []) } ∷ record { name = (Some (codes "u0")); places = (0 ∷ 1 ∷ []) } ∷ []); indexes = []; comment = codes "x"; start = None }; rows = (((Num (pos 1)) ∷ (Text (codes "g")) ∷ (Text (codes "a")) ∷ []) ∷ ((Num (pos 3)) ∷ (Text (codes "f")) ∷ (Text (codes "c")) ∷ []) ∷ ((Num (pos 5)) ∷ (Text (codes "a")) ∷ (Text (codes "d")) ∷ []) ∷ ((Num (pos 6)) ∷ (Text (codes "a")) ∷ (Text (codes "e")) ∷ []) ∷ ((Num (pos 7)) ∷ (Text (codes "c")) ∷ (Text (codes "b")) ∷ []) ∷ []) } ∷ record { schema = record { name = codes "u"; columns = (record { name = codes "id"; kind = VarChar 3; nullable = false; default = None; auto = false } ∷ record { name = codes "m0"; kind = Int 4 false; nullable = true; default = (Some Null); auto = false } ∷ record { name = codes "m1"; kind = Int 1 false; nullable = true; default = (Some Null); auto = false } ∷ record { name = codes "v"; kind = Int 2 false; nullable = true; default = (Some Null); auto = false } ∷ []); uniques = (record { name = None; places = (0 ∷ []) } ∷ record { name = (Some (codes "u0")); places = (1 ∷ []) } ∷ record { name = (Some (codes "u1")); places = (2 ∷ []) } ∷ []); indexes = []; comment = []; start = None }; rows = (((Text (codes "a")) ∷ (Num (pos 3)) ∷ (Num (pos 2)) ∷ Null ∷ []) ∷ []) } ∷ record { schema = record { name = codes "_t_ghc"; columns = (record { name = codes "id"; kind = Int 4 false; nullable = false; default = None; auto = false } ∷ []); uniques = (record { name = None; places = (0 ∷ []) } ∷ []); indexes = []; comment = []; start = None }; rows = (((Num (pos 3)) ∷ []) ∷ []) } ∷ []); clients = ((record { line = 1; word = words.Begin } ∷ record { line = 2; word = (words.Do (statements.Insert (codes "t") (Some (codes "id" ∷ codes "m0" ∷ codes "v" ∷ [])) ((Num (pos 99999999999)) ∷ (Text (codes "2")) ∷ (Text (codes "g")) ∷ []) None)) } ∷ record { line = 3; word = words.Commit } ∷ record { line = 4; word = (words.Do (statements.Insert (codes "t") (Some (codes "id" ∷ codes "m0" ∷ codes "v" ∷ [])) ((Num (pos 6)) ∷ (Num (pos 1)) ∷ (Text (codes "a")) ∷ []) None)) } ∷ []) ∷ []); operator = []; faults = []; turns = (record { actor = Insp; times = 7 } ∷ record { actor = Insp; times = 1 } ∷ record { actor = (Client 1); times = 1 } ∷ record { actor = Lock; times = 5 } ∷ record { actor = Copy; times = 1 } ∷ record { actor = Insp; times = 3 } ∷ record { actor = Ren; times = 2 } ∷ []); options = record { chunk_size = 2; dml_batch_size = 3; default_retries = 3; max_backlog = 0; drain_limit = 2000; client_wait = 30; tool_wait = 1; max_load = 64; turn_limit = 200000; notes = 0; note_every = 100; replica_step = 0; replica_pause = 1; max_lag = 10; resume = false; approve_renamed_columns = true; initially_drop_ghost_table = false; initially_drop_old_table = false; ok_to_drop_table = false; postpone = false; show_history = true; show_turns = true; show_tables = true; show_replies = true } }

abbrev journal_182 : List Entry
journal_182 =
    record { actor = Insp; session = 1; asked = Call requests.ShowTables; side = None; answer = answers.Tables (record { name = codes "_t_ghc"; comment = [] } ∷ record { name = codes "t"; comment = codes "x" } ∷ record { name = codes "u"; comment = [] } ∷ []); missed = None; draw = None }
    ∷ record { actor = Insp; session = 1; asked = Call (requests.Drop (codes "_t_ghc")); side = None; answer = answers.Ok 0; missed = None; draw = None }
    ∷ record { actor = Insp; session = 1; asked = Call (requests.Create (record { name = codes "_t_ghc"; columns = (record { name = codes "id"; kind = Int 8 false; nullable = false; default = None; auto = false } ∷ record { name = codes "hint"; kind = VarChar 64; nullable = false; default = None; auto = false } ∷ record { name = codes "value"; kind = VarChar 255; nullable = false; default = None; auto = false } ∷ []); uniques = (record { name = None; places = (0 ∷ []) } ∷ []); indexes = []; comment = []; start = None })); side = None; answer = answers.Ok 0; missed = None; draw = None }
    ∷ record { actor = Insp; session = 1; asked = Call (requests.Create (record { name = codes "_t_gho"; columns = (record { name = codes "b"; kind = VarChar 4; nullable = true; default = (Some (Text (codes "n"))); auto = false } ∷ record { name = codes "id"; kind = Int 4 false; nullable = false; default = None; auto = false } ∷ record { name = codes "m0"; kind = VarChar 3; nullable = false; default = (Some (Text (codes "1"))); auto = false } ∷ record { name = codes "v"; kind = VarChar 6; nullable = false; default = (Some (Text (codes "5"))); auto = false } ∷ []); uniques = (record { name = None; places = (1 ∷ []) } ∷ record { name = (Some (codes "u0")); places = (1 ∷ 2 ∷ []) } ∷ []); indexes = []; comment = codes "x"; start = None })); side = None; answer = answers.Ok 0; missed = None; draw = None }
    ∷ record { actor = Insp; session = 1; asked = Call requests.LogEnd; side = None; answer = answers.At 0; missed = None; draw = None }
    ∷ record { actor = Insp; session = 1; asked = Call (requests.Ends (codes "t")); side = None; answer = answers.Ends (Some (record { least = ((Num (pos 1)) ∷ []); greatest = ((Num (pos 7)) ∷ []) })); missed = None; draw = None }
    ∷ record { actor = (Client 1); session = 2; asked = Call requests.Begin; side = None; answer = answers.Ok 0; missed = None; draw = None }
    ∷ record { actor = Copy; session = 3; asked = Call (requests.ChunkEnd (codes "t") (Closed ((Num (pos 1)) ∷ [])) ((Num (pos 7)) ∷ []) 2); side = None; answer = answers.End ((Num (pos 3)) ∷ []); missed = None; draw = None }
    ∷ record { actor = Copy; session = 3; asked = Call (requests.BeginSpan (codes "t") (record { low = (Closed ((Num (pos 1)) ∷ [])); high = (Closed ((Num (pos 3)) ∷ [])) }) 2); side = None; answer = answers.Keys (((Num (pos 1)) ∷ []) ∷ ((Num (pos 3)) ∷ []) ∷ []) ((Num (pos 3)) ∷ []); missed = None; draw = None }
    ∷ record { actor = (Client 1); session = 2; asked = Call (requests.Do (statements.Insert (codes "t") (Some (codes "id" ∷ codes "m0" ∷ codes "v" ∷ [])) ((Num (pos 99999999999)) ∷ (Text (codes "2")) ∷ (Text (codes "g")) ∷ []) None)); side = None; answer = answers.Refused 1264 (Some 0); missed = None; draw = None }
    ∷ record { actor = Copy; session = 3; asked = Call (requests.CopyRow (codes "t") (codes "_t_gho") map_182 ((Num (pos 1)) ∷ [])); side = None; answer = answers.Ok 1; missed = None; draw = None }
    ∷ record { actor = (Client 1); session = 2; asked = Call requests.Commit; side = None; answer = answers.Ok 0; missed = None; draw = None }
    ∷ record { actor = Copy; session = 3; asked = Call (requests.CopyRow (codes "t") (codes "_t_gho") map_182 ((Num (pos 3)) ∷ [])); side = None; answer = answers.Ok 1; missed = None; draw = None }
    ∷ record { actor = (Client 1); session = 2; asked = Call (requests.Do (statements.Insert (codes "t") (Some (codes "id" ∷ codes "m0" ∷ codes "v" ∷ [])) ((Num (pos 6)) ∷ (Num (pos 1)) ∷ (Text (codes "a")) ∷ []) None)); side = None; answer = answers.Refused 1062 None; missed = None; draw = None }
    ∷ record { actor = Copy; session = 3; asked = Call requests.Commit; side = None; answer = answers.Ok 0; missed = None; draw = None }
    ∷ record { actor = Copy; session = 3; asked = Call (requests.ChunkEnd (codes "t") (Open ((Num (pos 3)) ∷ [])) ((Num (pos 7)) ∷ []) 2); side = None; answer = answers.End ((Num (pos 6)) ∷ []); missed = None; draw = None }
    ∷ record { actor = Copy; session = 3; asked = Call (requests.BeginSpan (codes "t") (record { low = (Open ((Num (pos 3)) ∷ [])); high = (Closed ((Num (pos 6)) ∷ [])) }) 2); side = None; answer = answers.Keys (((Num (pos 5)) ∷ []) ∷ ((Num (pos 6)) ∷ []) ∷ []) ((Num (pos 6)) ∷ []); missed = None; draw = None }
    ∷ record { actor = Copy; session = 3; asked = Call (requests.CopyRow (codes "t") (codes "_t_gho") map_182 ((Num (pos 5)) ∷ [])); side = None; answer = answers.Ok 1; missed = None; draw = None }
    ∷ record { actor = Copy; session = 3; asked = Call (requests.CopyRow (codes "t") (codes "_t_gho") map_182 ((Num (pos 6)) ∷ [])); side = None; answer = answers.Ok 1; missed = None; draw = None }
    ∷ record { actor = Copy; session = 3; asked = Call requests.Commit; side = None; answer = answers.Ok 0; missed = None; draw = None }
    ∷ record { actor = Copy; session = 3; asked = Call (requests.ChunkEnd (codes "t") (Open ((Num (pos 6)) ∷ [])) ((Num (pos 7)) ∷ []) 2); side = None; answer = answers.End ((Num (pos 7)) ∷ []); missed = None; draw = None }
    ∷ record { actor = Copy; session = 3; asked = Call (requests.BeginSpan (codes "t") (record { low = (Open ((Num (pos 6)) ∷ [])); high = (Closed ((Num (pos 7)) ∷ [])) }) 2); side = None; answer = answers.Keys (((Num (pos 7)) ∷ []) ∷ []) ((Num (pos 7)) ∷ []); missed = None; draw = None }
    ∷ record { actor = Copy; session = 3; asked = Call (requests.CopyRow (codes "t") (codes "_t_gho") map_182 ((Num (pos 7)) ∷ [])); side = None; answer = answers.Ok 1; missed = None; draw = None }
    ∷ record { actor = Copy; session = 3; asked = Call requests.Commit; side = None; answer = answers.Ok 0; missed = None; draw = None }
    ∷ record { actor = Lock; session = 4; asked = Call (requests.Create (record { name = codes "_t_del"; columns = (record { name = codes "id"; kind = Int 4 false; nullable = false; default = None; auto = false } ∷ []); uniques = (record { name = None; places = (0 ∷ []) } ∷ []); indexes = []; comment = codes "ghost-cut-over-sentry"; start = None })); side = None; answer = answers.Ok 0; missed = None; draw = None }
    ∷ record { actor = Lock; session = 4; asked = Call (requests.LockTables (codes "t" ∷ codes "_t_del" ∷ [])); side = None; answer = answers.Ok 0; missed = None; draw = None }
    ∷ record { actor = Insp; session = 1; asked = Call (requests.Do (statements.Insert (codes "_t_ghc") None ((Num (pos 1)) ∷ (Text (codes "cut-over")) ∷ (Text (codes "1")) ∷ []) None)); side = None; answer = answers.Ok 1; missed = None; draw = None }
    ∷ record { actor = Apply; session = 5; asked = Call (requests.ReadLog 0 3 (codes "t" ∷ codes "_t_ghc" ∷ [])); side = None; answer = answers.Events (record { table = codes "_t_ghc"; change = changes.Write ((Num (pos 1)) ∷ (Text (codes "cut-over")) ∷ (Text (codes "1")) ∷ []) } ∷ []) 6; missed = None; draw = None }
    ∷ record { actor = Ren; session = 6; asked = Call (requests.Rename (record { old = codes "t"; new = codes "_t_del" } ∷ record { old = codes "_t_gho"; new = codes "t" } ∷ [])); side = None; answer = answers.Waits 4; missed = None; draw = None }
    ∷ record { actor = Insp; session = 1; asked = Call requests.ShowWaiting; side = None; answer = answers.Waiting (record { session = 6; names = (codes "t" ∷ codes "_t_del" ∷ codes "_t_gho" ∷ []); by = 4 } ∷ []); missed = None; draw = None }
    ∷ record { actor = Lock; session = 4; asked = Call (requests.Drop (codes "_t_del")); side = None; answer = answers.Ok 0; missed = None; draw = None }
    ∷ record { actor = Ren; session = 6; asked = Poll; side = None; answer = answers.TimedOut 1; missed = None; draw = None }
    ∷ record { actor = Lock; session = 4; asked = Call requests.Unlock; side = None; answer = answers.Ok 0; missed = None; draw = None }
    ∷ record { actor = Insp; session = 1; asked = Call requests.ShowTables; side = None; answer = answers.Tables (record { name = codes "_t_ghc"; comment = [] } ∷ record { name = codes "_t_gho"; comment = codes "x" } ∷ record { name = codes "t"; comment = codes "x" } ∷ record { name = codes "u"; comment = [] } ∷ []); missed = None; draw = None }
    ∷ record { actor = Lock; session = 4; asked = Call (requests.Create (record { name = codes "_t_del"; columns = (record { name = codes "id"; kind = Int 4 false; nullable = false; default = None; auto = false } ∷ []); uniques = (record { name = None; places = (0 ∷ []) } ∷ []); indexes = []; comment = codes "ghost-cut-over-sentry"; start = None })); side = None; answer = answers.Ok 0; missed = None; draw = None }
    ∷ record { actor = Lock; session = 4; asked = Call (requests.LockTables (codes "t" ∷ codes "_t_del" ∷ [])); side = None; answer = answers.Ok 0; missed = None; draw = None }
    ∷ record { actor = Insp; session = 1; asked = Call (requests.Do (statements.Insert (codes "_t_ghc") None ((Num (pos 2)) ∷ (Text (codes "cut-over")) ∷ (Text (codes "2")) ∷ []) None)); side = None; answer = answers.Ok 1; missed = None; draw = None }
    ∷ record { actor = Apply; session = 5; asked = Call (requests.ReadLog 6 3 (codes "t" ∷ codes "_t_ghc" ∷ [])); side = None; answer = answers.Events (record { table = codes "_t_ghc"; change = changes.Write ((Num (pos 2)) ∷ (Text (codes "cut-over")) ∷ (Text (codes "2")) ∷ []) } ∷ []) 7; missed = None; draw = None }
    ∷ record { actor = Ren; session = 6; asked = Call (requests.Rename (record { old = codes "t"; new = codes "_t_del" } ∷ record { old = codes "_t_gho"; new = codes "t" } ∷ [])); side = None; answer = answers.Waits 4; missed = None; draw = None }
    ∷ record { actor = Insp; session = 1; asked = Call requests.ShowWaiting; side = None; answer = answers.Waiting (record { session = 6; names = (codes "t" ∷ codes "_t_del" ∷ codes "_t_gho" ∷ []); by = 4 } ∷ []); missed = None; draw = None }
    ∷ record { actor = Lock; session = 4; asked = Call (requests.Drop (codes "_t_del")); side = None; answer = answers.Ok 0; missed = None; draw = None }
    ∷ record { actor = Ren; session = 6; asked = Poll; side = None; answer = answers.TimedOut 1; missed = None; draw = None }
    ∷ record { actor = Lock; session = 4; asked = Call requests.Unlock; side = None; answer = answers.Ok 0; missed = None; draw = None }
    ∷ record { actor = Insp; session = 1; asked = Call requests.ShowTables; side = None; answer = answers.Tables (record { name = codes "_t_ghc"; comment = [] } ∷ record { name = codes "_t_gho"; comment = codes "x" } ∷ record { name = codes "t"; comment = codes "x" } ∷ record { name = codes "u"; comment = [] } ∷ []); missed = None; draw = None }
    ∷ record { actor = Lock; session = 4; asked = Call (requests.Create (record { name = codes "_t_del"; columns = (record { name = codes "id"; kind = Int 4 false; nullable = false; default = None; auto = false } ∷ []); uniques = (record { name = None; places = (0 ∷ []) } ∷ []); indexes = []; comment = codes "ghost-cut-over-sentry"; start = None })); side = None; answer = answers.Ok 0; missed = None; draw = None }
    ∷ record { actor = Lock; session = 4; asked = Call (requests.LockTables (codes "t" ∷ codes "_t_del" ∷ [])); side = None; answer = answers.Ok 0; missed = None; draw = None }
    ∷ record { actor = Insp; session = 1; asked = Call (requests.Do (statements.Insert (codes "_t_ghc") None ((Num (pos 3)) ∷ (Text (codes "cut-over")) ∷ (Text (codes "3")) ∷ []) None)); side = None; answer = answers.Ok 1; missed = None; draw = None }
    ∷ record { actor = Apply; session = 5; asked = Call (requests.ReadLog 7 3 (codes "t" ∷ codes "_t_ghc" ∷ [])); side = None; answer = answers.Events (record { table = codes "_t_ghc"; change = changes.Write ((Num (pos 3)) ∷ (Text (codes "cut-over")) ∷ (Text (codes "3")) ∷ []) } ∷ []) 8; missed = None; draw = None }
    ∷ record { actor = Ren; session = 6; asked = Call (requests.Rename (record { old = codes "t"; new = codes "_t_del" } ∷ record { old = codes "_t_gho"; new = codes "t" } ∷ [])); side = None; answer = answers.Waits 4; missed = None; draw = None }
    ∷ record { actor = Insp; session = 1; asked = Call requests.ShowWaiting; side = None; answer = answers.Waiting (record { session = 6; names = (codes "t" ∷ codes "_t_del" ∷ codes "_t_gho" ∷ []); by = 4 } ∷ []); missed = None; draw = None }
    ∷ record { actor = Lock; session = 4; asked = Call (requests.Drop (codes "_t_del")); side = None; answer = answers.Ok 0; missed = None; draw = None }
    ∷ record { actor = Ren; session = 6; asked = Poll; side = None; answer = answers.TimedOut 1; missed = None; draw = None }
    ∷ record { actor = Lock; session = 4; asked = Call requests.Unlock; side = None; answer = answers.Ok 0; missed = None; draw = None }
    ∷ record { actor = Insp; session = 1; asked = Call requests.ShowTables; side = None; answer = answers.Tables (record { name = codes "_t_ghc"; comment = [] } ∷ record { name = codes "_t_gho"; comment = codes "x" } ∷ record { name = codes "t"; comment = codes "x" } ∷ record { name = codes "u"; comment = [] } ∷ []); missed = None; draw = None }
    ∷ []

abbrev reported_182 : WorkedFacts
reported_182 =
    record {
      verdict = verdicts.Reverted (causes.Spent tasks.CutOver (32 ∷ 42 ∷ 52 ∷ []));
      ended = (Some (1, 1) ∷ Some (1, 2) ∷ []);
      left = (record { schema = record { name = codes "t"; columns = (record { name = codes "id"; kind = Int 4 false; nullable = false; default = None; auto = false } ∷ record { name = codes "m0"; kind = VarChar 3; nullable = false; default = (Some (Text (codes "1"))); auto = false } ∷ record { name = codes "v"; kind = VarChar 6; nullable = false; default = (Some (Text (codes "5"))); auto = false } ∷ []); uniques = (record { name = None; places = (0 ∷ []) } ∷ record { name = (Some (codes "u0")); places = (0 ∷ 1 ∷ []) } ∷ []); indexes = []; comment = codes "x"; start = None }; rows = (((Num (pos 1)) ∷ (Text (codes "g")) ∷ (Text (codes "a")) ∷ []) ∷ ((Num (pos 3)) ∷ (Text (codes "f")) ∷ (Text (codes "c")) ∷ []) ∷ ((Num (pos 5)) ∷ (Text (codes "a")) ∷ (Text (codes "d")) ∷ []) ∷ ((Num (pos 6)) ∷ (Text (codes "a")) ∷ (Text (codes "e")) ∷ []) ∷ ((Num (pos 7)) ∷ (Text (codes "c")) ∷ (Text (codes "b")) ∷ []) ∷ []) } ∷ record { schema = record { name = codes "u"; columns = (record { name = codes "id"; kind = VarChar 3; nullable = false; default = None; auto = false } ∷ record { name = codes "m0"; kind = Int 4 false; nullable = true; default = (Some Null); auto = false } ∷ record { name = codes "m1"; kind = Int 1 false; nullable = true; default = (Some Null); auto = false } ∷ record { name = codes "v"; kind = Int 2 false; nullable = true; default = (Some Null); auto = false } ∷ []); uniques = (record { name = None; places = (0 ∷ []) } ∷ record { name = (Some (codes "u0")); places = (1 ∷ []) } ∷ record { name = (Some (codes "u1")); places = (2 ∷ []) } ∷ []); indexes = []; comment = []; start = None }; rows = (((Text (codes "a")) ∷ (Num (pos 3)) ∷ (Num (pos 2)) ∷ Null ∷ []) ∷ []) } ∷ []);
      alone = (((replies.Ok 0) ∷ (replies.Error 1264) ∷ (replies.Ok 0) ∷ []) ∷ ((replies.Error 1062) ∷ []) ∷ []);
      over = replicate 53 false ++ replicate 1 true;
      bound = 10046;
      replies = (((1, 1, (Some (replies.Ok 0))) ∷ (1, 2, (Some (replies.Error 1264))) ∷ (1, 3, (Some (replies.Ok 0))) ∷ (2, 1, (Some (replies.Error 1062))) ∷ [])) ∷ [];
    }

worked_182 : IsWorked plan_182 journal_182 reported_182
unfolding computing
worked_182 = record { asks = refl; sessions = refl; answers = refl; sides = refl; struck = refl; verdict = refl; ended = refl; order = refl; left = refl; serial = refl; alone = refl; over = refl; online = refl; bounded = refl; replies = refl }

-- Plan 185
abbrev map_185 : List MapColumn
map_185 = (record { kind = Int 4 false; nullable = true; origin = from.Old 0 } ∷ record { kind = VarChar 6; nullable = false; origin = from.Old 1 } ∷ record { kind = Int 4 false; nullable = false; origin = from.Old 2 } ∷ [])

abbrev plan_185 : PlanData
plan_185 = record { table = codes "t"; alter = (clauses.DropIndex (codes "u0") ∷ []); tables = (record { schema = record { name = codes "t"; columns = (record { name = codes "m0"; kind = Int 4 false; nullable = true; default = (Some Null); auto = false } ∷ record { name = codes "v"; kind = VarChar 6; nullable = false; default = (Some (Text (codes "5"))); auto = false } ∷ record { name = codes "id"; kind = Int 4 false; nullable = false; default = None; auto = false } ∷ []); uniques = (record { name = None; places = (2 ∷ []) } ∷ record { name = (Some (codes "u0")); places = (0 ∷ []) } ∷ []); indexes = []; comment = []; start = None }; rows = (((Num (pos 7)) ∷ (Text (codes "d")) ∷ (Num (pos 1)) ∷ []) ∷ ((Num (pos 6)) ∷ (Text (codes "4")) ∷ (Num (pos 2)) ∷ []) ∷ ((Num (pos 2)) ∷ (Text (codes "f")) ∷ (Num (pos 3)) ∷ []) ∷ (Null ∷ (Text (codes "e")) ∷ (Num (pos 6)) ∷ []) ∷ []) } ∷ record { schema = record { name = codes "_t_gho"; columns = (record { name = codes "id"; kind = Int 4 false; nullable = false; default = None; auto = false } ∷ []); uniques = (record { name = None; places = (0 ∷ []) } ∷ []); indexes = []; comment = []; start = None }; rows = [] } ∷ []); clients = ((record { line = 1; word = words.Begin } ∷ record { line = 2; word = (words.Do (statements.Insert (codes "t") None ((Num (pos 3)) ∷ (Text (codes "d")) ∷ (Num (pos 1)) ∷ []) None)) } ∷ record { line = 3; word = words.Commit } ∷ record { line = 4; word = (words.Do (statements.Insert (codes "t") (Some (codes "m0" ∷ codes "id" ∷ [])) (Null ∷ (Num (pos 2)) ∷ []) None)) } ∷ record { line = 5; word = (words.Do (statements.Insert (codes "t") (Some (codes "m0" ∷ codes "v" ∷ codes "id" ∷ [])) (Null ∷ (Num (pos 2)) ∷ (Num (pos 7)) ∷ []) None)) } ∷ record { line = 6; word = (words.Do (statements.Select (codes "t") shown.Count (conditions.Equal (record { column = codes "id"; value = (Text (codes "2")) } ∷ [])))) } ∷ []) ∷ (record { line = 1; word = (words.Do (statements.Replace (codes "t") (Some (codes "m0" ∷ codes "v" ∷ codes "id" ∷ [])) ((Num (pos 5)) ∷ (Num (pos 6)) ∷ (Num (pos 7)) ∷ []) None)) } ∷ record { line = 2; word = (words.Do (statements.Delete (codes "t") (conditions.Equal (record { column = codes "m0"; value = (Num (pos 6)) } ∷ [])))) } ∷ record { line = 3; word = (words.Do (statements.Select (codes "t") shown.Count (conditions.Equal (record { column = codes "m0"; value = (Num (pos 2)) } ∷ [])))) } ∷ record { line = 4; word = words.Begin } ∷ record { line = 5; word = (words.Do (statements.Update (codes "t") (record { column = codes "m0"; value = (Num (pos 7)) } ∷ record { column = codes "id"; value = (Text (codes "5")) } ∷ []) (conditions.Equal (record { column = codes "id"; value = (Num (pos 7)) } ∷ [])))) } ∷ record { line = 6; word = words.Commit } ∷ record { line = 7; word = words.Begin } ∷ record { line = 8; word = (words.Do (statements.Select (codes "t") shown.All (conditions.Equal (record { column = codes "id"; value = (Num (pos 5)) } ∷ [])))) } ∷ record { line = 9; word = words.Commit } ∷ []) ∷ []); operator = []; faults = (losses.Turn 10 (Client 2) ∷ []); turns = (record { actor = (Client 2); times = 1 } ∷ record { actor = Lock; times = 1 } ∷ record { actor = Ren; times = 2 } ∷ record { actor = Apply; times = 1 } ∷ record { actor = Insp; times = 1 } ∷ record { actor = (Client 2); times = 2 } ∷ record { actor = Ren; times = 1 } ∷ record { actor = Insp; times = 2 } ∷ record { actor = Ren; times = 5 } ∷ record { actor = Op; times = 1 } ∷ record { actor = Lock; times = 5 } ∷ record { actor = Apply; times = 2 } ∷ record { actor = (Client 1); times = 5 } ∷ record { actor = Op; times = 5 } ∷ record { actor = (Client 1); times = 5 } ∷ record { actor = Apply; times = 1 } ∷ record { actor = Apply; times = 1 } ∷ record { actor = (Client 1); times = 1 } ∷ record { actor = Lock; times = 5 } ∷ record { actor = (Client 1); times = 1 } ∷ record { actor = Lock; times = 1 } ∷ record { actor = Apply; times = 1 } ∷ record { actor = (Client 2); times = 2 } ∷ record { actor = Lock; times = 3 } ∷ record { actor = Copy; times = 1 } ∷ record { actor = Lock; times = 3 } ∷ record { actor = Insp; times = 1 } ∷ record { actor = Ren; times = 3 } ∷ record { actor = (Client 2); times = 1 } ∷ record { actor = Insp; times = 1 } ∷ record { actor = (Client 1); times = 1 } ∷ record { actor = Lock; times = 5 } ∷ record { actor = Ren; times = 5 } ∷ record { actor = Apply; times = 1 } ∷ record { actor = (Client 1); times = 3 } ∷ record { actor = Apply; times = 1 } ∷ []); options = record { chunk_size = 1; dml_batch_size = 3; default_retries = 9; max_backlog = 0; drain_limit = 2000; client_wait = 5; tool_wait = 3; max_load = 64; turn_limit = 200000; notes = 0; note_every = 100; replica_step = 0; replica_pause = 1; max_lag = 10; resume = false; approve_renamed_columns = true; initially_drop_ghost_table = true; initially_drop_old_table = false; ok_to_drop_table = true; postpone = false; show_history = true; show_turns = true; show_tables = true; show_replies = true } }

abbrev journal_185 : List Entry
journal_185 =
    record { actor = (Client 2); session = 1; asked = Call (requests.Do (statements.Replace (codes "t") (Some (codes "m0" ∷ codes "v" ∷ codes "id" ∷ [])) ((Num (pos 5)) ∷ (Num (pos 6)) ∷ (Num (pos 7)) ∷ []) None)); side = None; answer = answers.Ok 1; missed = None; draw = None }
    ∷ record { actor = Insp; session = 2; asked = Call requests.ShowTables; side = None; answer = answers.Tables (record { name = codes "_t_gho"; comment = [] } ∷ record { name = codes "t"; comment = [] } ∷ []); missed = None; draw = None }
    ∷ record { actor = (Client 2); session = 1; asked = Call (requests.Do (statements.Delete (codes "t") (conditions.Equal (record { column = codes "m0"; value = (Num (pos 6)) } ∷ [])))); side = None; answer = answers.Ok 1; missed = None; draw = None }
    ∷ record { actor = (Client 2); session = 1; asked = Call (requests.Do (statements.Select (codes "t") shown.Count (conditions.Equal (record { column = codes "m0"; value = (Num (pos 2)) } ∷ [])))); side = None; answer = answers.Rows (((Num (pos 1)) ∷ []) ∷ []); missed = None; draw = None }
    ∷ record { actor = Insp; session = 2; asked = Call (requests.Drop (codes "_t_gho")); side = None; answer = answers.Ok 0; missed = None; draw = None }
    ∷ record { actor = Insp; session = 2; asked = Call (requests.Create (record { name = codes "_t_ghc"; columns = (record { name = codes "id"; kind = Int 8 false; nullable = false; default = None; auto = false } ∷ record { name = codes "hint"; kind = VarChar 64; nullable = false; default = None; auto = false } ∷ record { name = codes "value"; kind = VarChar 255; nullable = false; default = None; auto = false } ∷ []); uniques = (record { name = None; places = (0 ∷ []) } ∷ []); indexes = []; comment = []; start = None })); side = None; answer = answers.Ok 0; missed = None; draw = None }
    ∷ record { actor = (Client 1); session = 3; asked = Call requests.Begin; side = None; answer = answers.Ok 0; missed = None; draw = None }
    ∷ record { actor = (Client 1); session = 3; asked = Call (requests.Do (statements.Insert (codes "t") None ((Num (pos 3)) ∷ (Text (codes "d")) ∷ (Num (pos 1)) ∷ []) None)); side = None; answer = answers.Refused 1062 None; missed = None; draw = None }
    ∷ record { actor = (Client 1); session = 3; asked = Call requests.Commit; side = None; answer = answers.Ok 0; missed = None; draw = None }
    ∷ record { actor = (Client 2); session = 1; asked = Cut; side = None; answer = answers.Lost; missed = None; draw = None }
    ∷ record { actor = (Client 1); session = 3; asked = Call (requests.Do (statements.Insert (codes "t") (Some (codes "m0" ∷ codes "id" ∷ [])) (Null ∷ (Num (pos 2)) ∷ []) None)); side = None; answer = answers.Ok 1; missed = None; draw = None }
    ∷ record { actor = (Client 1); session = 3; asked = Call (requests.Do (statements.Insert (codes "t") (Some (codes "m0" ∷ codes "v" ∷ codes "id" ∷ [])) (Null ∷ (Num (pos 2)) ∷ (Num (pos 7)) ∷ []) None)); side = None; answer = answers.Refused 1062 None; missed = None; draw = None }
    ∷ record { actor = (Client 1); session = 3; asked = Call (requests.Do (statements.Select (codes "t") shown.Count (conditions.Equal (record { column = codes "id"; value = (Text (codes "2")) } ∷ [])))); side = None; answer = answers.Rows (((Num (pos 1)) ∷ []) ∷ []); missed = None; draw = None }
    ∷ record { actor = Insp; session = 2; asked = Call (requests.Create (record { name = codes "_t_gho"; columns = (record { name = codes "m0"; kind = Int 4 false; nullable = true; default = (Some Null); auto = false } ∷ record { name = codes "v"; kind = VarChar 6; nullable = false; default = (Some (Text (codes "5"))); auto = false } ∷ record { name = codes "id"; kind = Int 4 false; nullable = false; default = None; auto = false } ∷ []); uniques = (record { name = None; places = (2 ∷ []) } ∷ []); indexes = []; comment = []; start = None })); side = None; answer = answers.Ok 0; missed = None; draw = None }
    ∷ record { actor = Insp; session = 2; asked = Call requests.LogEnd; side = None; answer = answers.At 3; missed = None; draw = None }
    ∷ record { actor = Insp; session = 2; asked = Call (requests.Ends (codes "t")); side = None; answer = answers.Ends (Some (record { least = ((Num (pos 1)) ∷ []); greatest = ((Num (pos 7)) ∷ []) })); missed = None; draw = None }
    ∷ record { actor = Copy; session = 4; asked = Call (requests.ChunkEnd (codes "t") (Closed ((Num (pos 1)) ∷ [])) ((Num (pos 7)) ∷ []) 1); side = None; answer = answers.End ((Num (pos 1)) ∷ []); missed = None; draw = None }
    ∷ record { actor = Copy; session = 4; asked = Call (requests.BeginSpan (codes "t") (record { low = (Closed ((Num (pos 1)) ∷ [])); high = (Closed ((Num (pos 1)) ∷ [])) }) 1); side = None; answer = answers.Keys (((Num (pos 1)) ∷ []) ∷ []) ((Num (pos 1)) ∷ []); missed = None; draw = None }
    ∷ record { actor = Copy; session = 4; asked = Call (requests.CopyRow (codes "t") (codes "_t_gho") map_185 ((Num (pos 1)) ∷ [])); side = None; answer = answers.Ok 1; missed = None; draw = None }
    ∷ record { actor = Copy; session = 4; asked = Call requests.Commit; side = None; answer = answers.Ok 0; missed = None; draw = None }
    ∷ record { actor = Copy; session = 4; asked = Call (requests.ChunkEnd (codes "t") (Open ((Num (pos 1)) ∷ [])) ((Num (pos 7)) ∷ []) 1); side = None; answer = answers.End ((Num (pos 2)) ∷ []); missed = None; draw = None }
    ∷ record { actor = Copy; session = 4; asked = Call (requests.BeginSpan (codes "t") (record { low = (Open ((Num (pos 1)) ∷ [])); high = (Closed ((Num (pos 2)) ∷ [])) }) 1); side = None; answer = answers.Keys (((Num (pos 2)) ∷ []) ∷ []) ((Num (pos 2)) ∷ []); missed = None; draw = None }
    ∷ record { actor = Copy; session = 4; asked = Call (requests.CopyRow (codes "t") (codes "_t_gho") map_185 ((Num (pos 2)) ∷ [])); side = None; answer = answers.Ok 1; missed = None; draw = None }
    ∷ record { actor = Copy; session = 4; asked = Call requests.Commit; side = None; answer = answers.Ok 0; missed = None; draw = None }
    ∷ record { actor = Copy; session = 4; asked = Call (requests.ChunkEnd (codes "t") (Open ((Num (pos 2)) ∷ [])) ((Num (pos 7)) ∷ []) 1); side = None; answer = answers.End ((Num (pos 3)) ∷ []); missed = None; draw = None }
    ∷ record { actor = Copy; session = 4; asked = Call (requests.BeginSpan (codes "t") (record { low = (Open ((Num (pos 2)) ∷ [])); high = (Closed ((Num (pos 3)) ∷ [])) }) 1); side = None; answer = answers.Keys (((Num (pos 3)) ∷ []) ∷ []) ((Num (pos 3)) ∷ []); missed = None; draw = None }
    ∷ record { actor = Copy; session = 4; asked = Call (requests.CopyRow (codes "t") (codes "_t_gho") map_185 ((Num (pos 3)) ∷ [])); side = None; answer = answers.Ok 1; missed = None; draw = None }
    ∷ record { actor = Copy; session = 4; asked = Call requests.Commit; side = None; answer = answers.Ok 0; missed = None; draw = None }
    ∷ record { actor = Copy; session = 4; asked = Call (requests.ChunkEnd (codes "t") (Open ((Num (pos 3)) ∷ [])) ((Num (pos 7)) ∷ []) 1); side = None; answer = answers.End ((Num (pos 6)) ∷ []); missed = None; draw = None }
    ∷ record { actor = Copy; session = 4; asked = Call (requests.BeginSpan (codes "t") (record { low = (Open ((Num (pos 3)) ∷ [])); high = (Closed ((Num (pos 6)) ∷ [])) }) 1); side = None; answer = answers.Keys (((Num (pos 6)) ∷ []) ∷ []) ((Num (pos 6)) ∷ []); missed = None; draw = None }
    ∷ record { actor = Copy; session = 4; asked = Call (requests.CopyRow (codes "t") (codes "_t_gho") map_185 ((Num (pos 6)) ∷ [])); side = None; answer = answers.Ok 1; missed = None; draw = None }
    ∷ record { actor = Copy; session = 4; asked = Call requests.Commit; side = None; answer = answers.Ok 0; missed = None; draw = None }
    ∷ record { actor = Copy; session = 4; asked = Call (requests.ChunkEnd (codes "t") (Open ((Num (pos 6)) ∷ [])) ((Num (pos 7)) ∷ []) 1); side = None; answer = answers.End ((Num (pos 7)) ∷ []); missed = None; draw = None }
    ∷ record { actor = Copy; session = 4; asked = Call (requests.BeginSpan (codes "t") (record { low = (Open ((Num (pos 6)) ∷ [])); high = (Closed ((Num (pos 7)) ∷ [])) }) 1); side = None; answer = answers.Keys (((Num (pos 7)) ∷ []) ∷ []) ((Num (pos 7)) ∷ []); missed = None; draw = None }
    ∷ record { actor = Copy; session = 4; asked = Call (requests.CopyRow (codes "t") (codes "_t_gho") map_185 ((Num (pos 7)) ∷ [])); side = None; answer = answers.Ok 1; missed = None; draw = None }
    ∷ record { actor = Copy; session = 4; asked = Call requests.Commit; side = None; answer = answers.Ok 0; missed = None; draw = None }
    ∷ record { actor = Lock; session = 5; asked = Call (requests.Create (record { name = codes "_t_del"; columns = (record { name = codes "id"; kind = Int 4 false; nullable = false; default = None; auto = false } ∷ []); uniques = (record { name = None; places = (0 ∷ []) } ∷ []); indexes = []; comment = codes "ghost-cut-over-sentry"; start = None })); side = None; answer = answers.Ok 0; missed = None; draw = None }
    ∷ record { actor = Lock; session = 5; asked = Call (requests.LockTables (codes "t" ∷ codes "_t_del" ∷ [])); side = None; answer = answers.Ok 0; missed = None; draw = None }
    ∷ record { actor = Insp; session = 2; asked = Call (requests.Do (statements.Insert (codes "_t_ghc") None ((Num (pos 1)) ∷ (Text (codes "cut-over")) ∷ (Text (codes "1")) ∷ []) None)); side = None; answer = answers.Ok 1; missed = None; draw = None }
    ∷ record { actor = Apply; session = 6; asked = Call (requests.ReadLog 3 3 (codes "t" ∷ codes "_t_ghc" ∷ [])); side = None; answer = answers.Events (record { table = codes "_t_ghc"; change = changes.Write ((Num (pos 1)) ∷ (Text (codes "cut-over")) ∷ (Text (codes "1")) ∷ []) } ∷ []) 9; missed = None; draw = None }
    ∷ record { actor = Ren; session = 7; asked = Call (requests.Rename (record { old = codes "t"; new = codes "_t_del" } ∷ record { old = codes "_t_gho"; new = codes "t" } ∷ [])); side = None; answer = answers.Waits 5; missed = None; draw = None }
    ∷ record { actor = Insp; session = 2; asked = Call requests.ShowWaiting; side = None; answer = answers.Waiting (record { session = 7; names = (codes "t" ∷ codes "_t_del" ∷ codes "_t_gho" ∷ []); by = 5 } ∷ []); missed = None; draw = None }
    ∷ record { actor = Lock; session = 5; asked = Call (requests.Drop (codes "_t_del")); side = None; answer = answers.Ok 0; missed = None; draw = None }
    ∷ record { actor = Ren; session = 7; asked = Poll; side = None; answer = answers.Waits 5; missed = None; draw = None }
    ∷ record { actor = Lock; session = 5; asked = Call requests.Unlock; side = None; answer = answers.Ok 0; missed = None; draw = None }
    ∷ record { actor = Ren; session = 7; asked = Poll; side = None; answer = answers.Ok 0; missed = None; draw = None }
    ∷ record { actor = Insp; session = 2; asked = Call requests.ShowTables; side = None; answer = answers.Tables (record { name = codes "_t_del"; comment = [] } ∷ record { name = codes "_t_ghc"; comment = [] } ∷ record { name = codes "t"; comment = [] } ∷ []); missed = None; draw = None }
    ∷ record { actor = Insp; session = 2; asked = Call (requests.Drop (codes "_t_ghc")); side = None; answer = answers.Ok 0; missed = None; draw = None }
    ∷ record { actor = Insp; session = 2; asked = Call (requests.Drop (codes "_t_del")); side = None; answer = answers.Ok 0; missed = None; draw = None }
    ∷ []

abbrev reported_185 : WorkedFacts
reported_185 =
    record {
      verdict = verdicts.Done;
      ended = (Some (2, 1) ∷ Some (2, 2) ∷ Some (2, 3) ∷ Some (1, 1) ∷ Some (1, 2) ∷ Some (1, 3) ∷ Some (1, 4) ∷ None ∷ []);
      left = (record { schema = record { name = codes "t"; columns = (record { name = codes "m0"; kind = Int 4 false; nullable = true; default = (Some Null); auto = false } ∷ record { name = codes "v"; kind = VarChar 6; nullable = false; default = (Some (Text (codes "5"))); auto = false } ∷ record { name = codes "id"; kind = Int 4 false; nullable = false; default = None; auto = false } ∷ []); uniques = (record { name = None; places = (2 ∷ []) } ∷ []); indexes = []; comment = []; start = None }; rows = (((Num (pos 7)) ∷ (Text (codes "d")) ∷ (Num (pos 1)) ∷ []) ∷ (Null ∷ (Text (codes "5")) ∷ (Num (pos 2)) ∷ []) ∷ ((Num (pos 2)) ∷ (Text (codes "f")) ∷ (Num (pos 3)) ∷ []) ∷ (Null ∷ (Text (codes "e")) ∷ (Num (pos 6)) ∷ []) ∷ ((Num (pos 5)) ∷ (Text (codes "6")) ∷ (Num (pos 7)) ∷ []) ∷ []) } ∷ []);
      alone = (((replies.Ok 1) ∷ []) ∷ ((replies.Ok 1) ∷ []) ∷ ((replies.Rows (((Num (pos 1)) ∷ []) ∷ [])) ∷ []) ∷ ((replies.Ok 0) ∷ (replies.Error 1062) ∷ (replies.Ok 0) ∷ []) ∷ ((replies.Ok 1) ∷ []) ∷ ((replies.Error 1062) ∷ []) ∷ ((replies.Rows (((Num (pos 1)) ∷ []) ∷ [])) ∷ []) ∷ [] ∷ []);
      over = replicate 48 false ++ replicate 1 true;
      bound = 464490;
      replies = (((1, 1, (Some (replies.Ok 0))) ∷ (1, 2, (Some (replies.Error 1062))) ∷ (1, 3, (Some (replies.Ok 0))) ∷ (2, 1, (Some (replies.Ok 1))) ∷ (3, 1, (Some (replies.Error 1062))) ∷ (4, 1, (Some (replies.Rows (((Num (pos 1)) ∷ []) ∷ [])))) ∷ [])) ∷ (((1, 1, (Some (replies.Ok 1))) ∷ (2, 1, (Some (replies.Ok 1))) ∷ (3, 1, (Some (replies.Rows (((Num (pos 1)) ∷ []) ∷ [])))) ∷ [])) ∷ [];
    }

worked_185 : IsWorked plan_185 journal_185 reported_185
unfolding computing
worked_185 = record { asks = refl; sessions = refl; answers = refl; sides = refl; struck = refl; verdict = refl; ended = refl; order = refl; left = refl; serial = refl; alone = refl; over = refl; online = refl; bounded = refl; replies = refl }
