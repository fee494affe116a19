-- Random plans, run by workers; their journals are those of an independent model.
use Rattle.std.proofs.Common.{pos, true, false, List, [], ◌∷◌, Some, None, refl}
use Rattle.std.specs.Prelude.{codes}
use Rattle.base_values.specs.declared.value.Value.TheVariants.{Null, Num, Text}
use Rattle.base_values.specs.declared.kind.Kind.TheVariants.{Int, VarChar}
use Rattle.base_values.specs.declared.span.Bound.TheVariants.{Open, Closed}
use Rattle.base_values.specs.declared.row_conversion.clause.Clause.TheVariants as clauses
use Rattle.base_values.specs.declared.row_conversion.clause.ColumnPosition.TheVariants.{Unsaid, First}
use Rattle.base_values.specs.declared.row_conversion.map.MapColumn.{MapColumn}
use Rattle.base_values.specs.declared.row_conversion.map.Origin.TheVariants as from
use Rattle.base_values.specs.declared.event.Change.TheVariants as changes
use Rattle.base_script.specs.declared.actor.Actor.TheVariants.{Op, Insp, Copy, Apply, Lock, Ren, Client}
use Rattle.base_script.specs.declared.actor.Side.TheVariants as sides_at
use Rattle.base_script.specs.declared.loss.Loss.TheVariants as losses
use Rattle.base_script.specs.declared.operator.OperatorWord.TheVariants as commanded
use Rattle.base_script.specs.declared.script.ScriptWord.TheVariants as words
use Rattle.base_script.specs.declared.statement.Statement.TheVariants as statements
use Rattle.base_script.specs.declared.statement.Condition.TheVariants as conditions
use Rattle.base_script.specs.declared.statement.Shown.TheVariants as shown
use Rattle.base_script.specs.declared.statement.Sign.TheVariants as signs
use Rattle.server_model.specs.declared.transaction.Reply.TheVariants as replies
use Rattle.server_model.specs.declared.request.Request.TheVariants as requests
use Rattle.server_model.specs.declared.answer.Answer.TheVariants as answers
use Rattle.server_model.specs.declared.entry.Entry.{Entry}
use Rattle.server_model.specs.declared.entry.Asked.TheVariants.{Call, Poll, Command, Cut}
use Rattle.server_model.specs.declared.outcome.Task.TheVariants as tasks
use Rattle.server_model.specs.declared.outcome.Cause.TheVariants as causes
use Rattle.server_model.specs.declared.outcome.Verdict.TheVariants as verdicts
use Rattle.plan_data.specs.PlanData.{PlanData}
use Rattle.tool_program.specs.Orders.{WorkerTurn}
use Rattle.test_worked.proofs.Computing.{computing, WorkersReported, IsWorkedBy}

-- Plan 3004
abbrev map_3004 : List MapColumn
map_3004 = (record { kind = Int 4 false; nullable = false; origin = from.Old 0 } ∷ record { kind = Int 4 false; nullable = true; origin = from.Added Null } ∷ [])

abbrev plan_3004 : PlanData
plan_3004 = record { table = codes "t"; alter = (clauses.Add (record { name = codes "b"; kind = Int 4 false; nullable = None; default = None; auto = false }) Unsaid ∷ []); tables = (record { schema = record { name = codes "t"; columns = (record { name = codes "id"; kind = Int 4 false; nullable = false; default = None; auto = false } ∷ []); uniques = (record { name = None; places = (0 ∷ []) } ∷ []); indexes = []; comment = []; start = None }; rows = (((Num (pos 2)) ∷ []) ∷ ((Num (pos 4)) ∷ []) ∷ ((Num (pos 6)) ∷ []) ∷ []) } ∷ record { schema = record { name = codes "u"; columns = (record { name = codes "id"; kind = Int 8 false; nullable = false; default = None; auto = false } ∷ record { name = codes "m0"; kind = Int 4 false; nullable = true; default = (Some Null); auto = false } ∷ []); uniques = (record { name = None; places = (0 ∷ []) } ∷ record { name = (Some (codes "u0")); places = (0 ∷ 1 ∷ []) } ∷ []); indexes = []; comment = []; start = None }; rows = (((Num (pos 3)) ∷ (Num (pos 2)) ∷ []) ∷ []) } ∷ []); clients = ((record { line = 1; word = (words.Do (statements.Insert (codes "t") None ((Num (pos 3)) ∷ []) None)) } ∷ record { line = 2; word = (words.Do (statements.Select (codes "u") shown.Count (conditions.Equal (record { column = codes "id"; value = (Num (pos 6)) } ∷ [])))) } ∷ record { line = 3; word = (words.Do (statements.Update (codes "t") (record { column = codes "id"; value = (Num (pos 1)) } ∷ []) (conditions.Equal (record { column = codes "id"; value = (Num (pos 4)) } ∷ [])))) } ∷ record { line = 4; word = (words.Do (statements.Update (codes "t") (record { column = codes "id"; value = (Num (pos 4)) } ∷ []) (conditions.Equal (record { column = codes "id"; value = (Num (pos 3)) } ∷ [])))) } ∷ []) ∷ []); operator = []; faults = (losses.Nth Insp 5 sides_at.Before ∷ []); turns = []; options = record { chunk_size = 2; dml_batch_size = 2; default_retries = 60; max_backlog = 100; drain_limit = 2; client_wait = 3; tool_wait = 3; max_load = 0; turn_limit = 200000; notes = 0; note_every = 100; replica_step = 0; replica_pause = 1; max_lag = 10; resume = false; approve_renamed_columns = true; initially_drop_ghost_table = false; initially_drop_old_table = false; ok_to_drop_table = false; postpone = false; show_history = true; show_turns = true; show_tables = true; show_replies = true } }

abbrev journal_3004 : List Entry
journal_3004 =
    record { actor = Insp; session = 1; asked = Call requests.ShowTables; side = None; answer = answers.Tables (record { name = codes "t"; comment = [] } ∷ record { name = codes "u"; comment = [] } ∷ []); missed = None; draw = None }
    ∷ record { actor = (Client 1); session = 2; asked = Call (requests.Do (statements.Insert (codes "t") None ((Num (pos 3)) ∷ []) None)); side = None; answer = answers.Ok 1; missed = None; draw = None }
    ∷ record { actor = Insp; session = 1; asked = Call (requests.Create (record { name = codes "_t_ghc"; columns = (record { name = codes "id"; kind = Int 8 false; nullable = false; default = None; auto = false } ∷ record { name = codes "hint"; kind = VarChar 64; nullable = false; default = None; auto = false } ∷ record { name = codes "value"; kind = VarChar 255; nullable = false; default = None; auto = false } ∷ []); uniques = (record { name = None; places = (0 ∷ []) } ∷ []); indexes = []; comment = []; start = None })); side = None; answer = answers.Ok 0; missed = None; draw = None }
    ∷ record { actor = Insp; session = 1; asked = Call (requests.Create (record { name = codes "_t_gho"; columns = (record { name = codes "id"; kind = Int 4 false; nullable = false; default = None; auto = false } ∷ record { name = codes "b"; kind = Int 4 false; nullable = true; default = (Some Null); auto = false } ∷ []); uniques = (record { name = None; places = (0 ∷ []) } ∷ []); indexes = []; comment = []; start = None })); side = None; answer = answers.Ok 0; missed = None; draw = None }
    ∷ record { actor = (Client 1); session = 2; asked = Call (requests.Do (statements.Select (codes "u") shown.Count (conditions.Equal (record { column = codes "id"; value = (Num (pos 6)) } ∷ [])))); side = None; answer = answers.Rows (((Num (pos 0)) ∷ []) ∷ []); missed = None; draw = None }
    ∷ record { actor = (Client 1); session = 2; asked = Call (requests.Do (statements.Update (codes "t") (record { column = codes "id"; value = (Num (pos 1)) } ∷ []) (conditions.Equal (record { column = codes "id"; value = (Num (pos 4)) } ∷ [])))); side = None; answer = answers.Ok 1; missed = None; draw = None }
    ∷ record { actor = Insp; session = 1; asked = Call requests.LogEnd; side = None; answer = answers.At 2; missed = None; draw = None }
    ∷ record { actor = (Client 1); session = 2; asked = Call (requests.Do (statements.Update (codes "t") (record { column = codes "id"; value = (Num (pos 4)) } ∷ []) (conditions.Equal (record { column = codes "id"; value = (Num (pos 3)) } ∷ [])))); side = None; answer = answers.Ok 1; missed = None; draw = None }
    ∷ record { actor = Insp; session = 1; asked = Call (requests.Ends (codes "t")); side = (Some sides_at.Before); answer = answers.Lost; missed = None; draw = None }
    ∷ record { actor = Insp; session = 3; asked = Call requests.ShowTables; side = None; answer = answers.Tables (record { name = codes "_t_ghc"; comment = [] } ∷ record { name = codes "_t_gho"; comment = [] } ∷ record { name = codes "t"; comment = [] } ∷ record { name = codes "u"; comment = [] } ∷ []); missed = None; draw = None }
    ∷ record { actor = Insp; session = 3; asked = Call (requests.Drop (codes "_t_ghc")); side = None; answer = answers.Ok 0; missed = None; draw = None }
    ∷ record { actor = Insp; session = 3; asked = Call (requests.Drop (codes "_t_gho")); side = None; answer = answers.Ok 0; missed = None; draw = None }
    ∷ record { actor = Insp; session = 3; asked = Call (requests.Create (record { name = codes "_t_ghc"; columns = (record { name = codes "id"; kind = Int 8 false; nullable = false; default = None; auto = false } ∷ record { name = codes "hint"; kind = VarChar 64; nullable = false; default = None; auto = false } ∷ record { name = codes "value"; kind = VarChar 255; nullable = false; default = None; auto = false } ∷ []); uniques = (record { name = None; places = (0 ∷ []) } ∷ []); indexes = []; comment = []; start = None })); side = None; answer = answers.Ok 0; missed = None; draw = None }
    ∷ record { actor = Insp; session = 3; asked = Call (requests.Create (record { name = codes "_t_gho"; columns = (record { name = codes "id"; kind = Int 4 false; nullable = false; default = None; auto = false } ∷ record { name = codes "b"; kind = Int 4 false; nullable = true; default = (Some Null); auto = false } ∷ []); uniques = (record { name = None; places = (0 ∷ []) } ∷ []); indexes = []; comment = []; start = None })); side = None; answer = answers.Ok 0; missed = None; draw = None }
    ∷ record { actor = Insp; session = 3; asked = Call requests.LogEnd; side = None; answer = answers.At 3; missed = None; draw = None }
    ∷ record { actor = Insp; session = 3; asked = Call (requests.Ends (codes "t")); side = None; answer = answers.Ends (Some (record { least = ((Num (pos 1)) ∷ []); greatest = ((Num (pos 6)) ∷ []) })); missed = None; draw = None }
    ∷ record { actor = Copy; session = 4; asked = Call (requests.ChunkEnd (codes "t") (Closed ((Num (pos 1)) ∷ [])) ((Num (pos 6)) ∷ []) 2); side = None; answer = answers.End ((Num (pos 2)) ∷ []); missed = None; draw = None }
    ∷ record { actor = Copy; session = 4; asked = Call (requests.BeginSpan (codes "t") (record { low = (Closed ((Num (pos 1)) ∷ [])); high = (Closed ((Num (pos 2)) ∷ [])) }) 2); side = None; answer = answers.Keys (((Num (pos 1)) ∷ []) ∷ ((Num (pos 2)) ∷ []) ∷ []) ((Num (pos 2)) ∷ []); missed = None; draw = None }
    ∷ record { actor = Copy; session = 4; asked = Call (requests.CopyRow (codes "t") (codes "_t_gho") map_3004 ((Num (pos 1)) ∷ [])); side = None; answer = answers.Ok 1; missed = None; draw = None }
    ∷ record { actor = Copy; session = 4; asked = Call (requests.CopyRow (codes "t") (codes "_t_gho") map_3004 ((Num (pos 2)) ∷ [])); side = None; answer = answers.Ok 1; missed = None; draw = None }
    ∷ record { actor = Copy; session = 4; asked = Call requests.Commit; side = None; answer = answers.Ok 0; missed = None; draw = None }
    ∷ record { actor = Copy; session = 4; asked = Call (requests.ChunkEnd (codes "t") (Open ((Num (pos 2)) ∷ [])) ((Num (pos 6)) ∷ []) 2); side = None; answer = answers.End ((Num (pos 6)) ∷ []); missed = None; draw = None }
    ∷ record { actor = Copy; session = 4; asked = Call (requests.BeginSpan (codes "t") (record { low = (Open ((Num (pos 2)) ∷ [])); high = (Closed ((Num (pos 6)) ∷ [])) }) 2); side = None; answer = answers.Keys (((Num (pos 4)) ∷ []) ∷ ((Num (pos 6)) ∷ []) ∷ []) ((Num (pos 6)) ∷ []); missed = None; draw = None }
    ∷ record { actor = Copy; session = 4; asked = Call (requests.CopyRow (codes "t") (codes "_t_gho") map_3004 ((Num (pos 4)) ∷ [])); side = None; answer = answers.Ok 1; missed = None; draw = None }
    ∷ record { actor = Copy; session = 4; asked = Call (requests.CopyRow (codes "t") (codes "_t_gho") map_3004 ((Num (pos 6)) ∷ [])); side = None; answer = answers.Ok 1; missed = None; draw = None }
    ∷ record { actor = Copy; session = 4; asked = Call requests.Commit; side = None; answer = answers.Ok 0; missed = None; draw = None }
    ∷ record { actor = Lock; session = 5; asked = Call (requests.Create (record { name = codes "_t_del"; columns = (record { name = codes "id"; kind = Int 4 false; nullable = false; default = None; auto = false } ∷ []); uniques = (record { name = None; places = (0 ∷ []) } ∷ []); indexes = []; comment = codes "ghost-cut-over-sentry"; start = None })); side = None; answer = answers.Ok 0; missed = None; draw = None }
    ∷ record { actor = Lock; session = 5; asked = Call (requests.LockTables (codes "t" ∷ codes "_t_del" ∷ [])); side = None; answer = answers.Ok 0; missed = None; draw = None }
    ∷ record { actor = Insp; session = 3; asked = Call (requests.Do (statements.Insert (codes "_t_ghc") None ((Num (pos 1)) ∷ (Text (codes "cut-over")) ∷ (Text (codes "1")) ∷ []) None)); side = None; answer = answers.Ok 1; missed = None; draw = None }
    ∷ record { actor = Apply; session = 6; asked = Call (requests.ReadLog 3 2 (codes "t" ∷ codes "_t_ghc" ∷ [])); side = None; answer = answers.Events (record { table = codes "_t_ghc"; change = changes.Write ((Num (pos 1)) ∷ (Text (codes "cut-over")) ∷ (Text (codes "1")) ∷ []) } ∷ []) 8; missed = None; draw = None }
    ∷ record { actor = Ren; session = 7; asked = Call (requests.Rename (record { old = codes "t"; new = codes "_t_del" } ∷ record { old = codes "_t_gho"; new = codes "t" } ∷ [])); side = None; answer = answers.Waits 5; missed = None; draw = None }
    ∷ record { actor = Ren; session = 7; asked = Poll; side = None; answer = answers.Waits 5; missed = None; draw = None }
    ∷ record { actor = Insp; session = 3; asked = Call requests.ShowWaiting; side = None; answer = answers.Waiting (record { session = 7; names = (codes "t" ∷ codes "_t_del" ∷ codes "_t_gho" ∷ []); by = 5 } ∷ []); missed = None; draw = None }
    ∷ record { actor = Lock; session = 5; asked = Call (requests.Drop (codes "_t_del")); side = None; answer = answers.Ok 0; missed = None; draw = None }
    ∷ record { actor = Lock; session = 5; asked = Call requests.Unlock; side = None; answer = answers.Ok 0; missed = None; draw = None }
    ∷ record { actor = Ren; session = 7; asked = Poll; side = None; answer = answers.Ok 0; missed = None; draw = None }
    ∷ record { actor = Insp; session = 3; asked = Call requests.ShowTables; side = None; answer = answers.Tables (record { name = codes "_t_del"; comment = [] } ∷ record { name = codes "_t_ghc"; comment = [] } ∷ record { name = codes "t"; comment = [] } ∷ record { name = codes "u"; comment = [] } ∷ []); missed = None; draw = None }
    ∷ record { actor = Insp; session = 3; asked = Call (requests.Drop (codes "_t_ghc")); side = None; answer = answers.Ok 0; missed = None; draw = None }
    ∷ []

abbrev turns_3004 : List WorkerTurn
turns_3004 = (record { worker = 1; actor = Insp } ∷ record { worker = 0; actor = (Client 1) } ∷ record { worker = 1; actor = Insp } ∷ record { worker = 2; actor = Insp } ∷ record { worker = 0; actor = (Client 1) } ∷ record { worker = 0; actor = (Client 1) } ∷ record { worker = 2; actor = Insp } ∷ record { worker = 0; actor = (Client 1) } ∷ record { worker = 1; actor = Insp } ∷ record { worker = 2; actor = Insp } ∷ record { worker = 0; actor = Insp } ∷ record { worker = 2; actor = Insp } ∷ record { worker = 0; actor = Insp } ∷ record { worker = 0; actor = Insp } ∷ record { worker = 0; actor = Insp } ∷ record { worker = 1; actor = Insp } ∷ record { worker = 1; actor = Copy } ∷ record { worker = 0; actor = Copy } ∷ record { worker = 0; actor = Copy } ∷ record { worker = 0; actor = Copy } ∷ record { worker = 2; actor = Copy } ∷ record { worker = 1; actor = Copy } ∷ record { worker = 0; actor = Copy } ∷ record { worker = 2; actor = Copy } ∷ record { worker = 0; actor = Copy } ∷ record { worker = 0; actor = Copy } ∷ record { worker = 2; actor = Lock } ∷ record { worker = 2; actor = Lock } ∷ record { worker = 2; actor = Insp } ∷ record { worker = 0; actor = Apply } ∷ record { worker = 2; actor = Ren } ∷ record { worker = 2; actor = Ren } ∷ record { worker = 1; actor = Insp } ∷ record { worker = 0; actor = Lock } ∷ record { worker = 0; actor = Lock } ∷ record { worker = 0; actor = Ren } ∷ record { worker = 2; actor = Insp } ∷ record { worker = 0; actor = Insp } ∷ [])

abbrev reported_3004 : WorkersReported
reported_3004 =
    record {
      verdict = verdicts.Done;
      ended = (Some (1, 1) ∷ Some (1, 2) ∷ Some (1, 3) ∷ Some (1, 4) ∷ None ∷ []);
      left = (record { schema = record { name = codes "t"; columns = (record { name = codes "id"; kind = Int 4 false; nullable = false; default = None; auto = false } ∷ record { name = codes "b"; kind = Int 4 false; nullable = true; default = (Some Null); auto = false } ∷ []); uniques = (record { name = None; places = (0 ∷ []) } ∷ []); indexes = []; comment = []; start = None }; rows = (((Num (pos 1)) ∷ Null ∷ []) ∷ ((Num (pos 2)) ∷ Null ∷ []) ∷ ((Num (pos 4)) ∷ Null ∷ []) ∷ ((Num (pos 6)) ∷ Null ∷ []) ∷ []) } ∷ record { schema = record { name = codes "u"; columns = (record { name = codes "id"; kind = Int 8 false; nullable = false; default = None; auto = false } ∷ record { name = codes "m0"; kind = Int 4 false; nullable = true; default = (Some Null); auto = false } ∷ []); uniques = (record { name = None; places = (0 ∷ []) } ∷ record { name = (Some (codes "u0")); places = (0 ∷ 1 ∷ []) } ∷ []); indexes = []; comment = []; start = None }; rows = (((Num (pos 3)) ∷ (Num (pos 2)) ∷ []) ∷ []) } ∷ []);
      replies = (((1, 1, (Some (replies.Ok 1))) ∷ (2, 1, (Some (replies.Rows (((Num (pos 0)) ∷ []) ∷ [])))) ∷ (3, 1, (Some (replies.Ok 1))) ∷ (4, 1, (Some (replies.Ok 1))) ∷ [])) ∷ [];
    }

worked_3004 : IsWorkedBy 3 turns_3004 plan_3004 journal_3004 reported_3004
unfolding computing
worked_3004 = record { asks = refl; sessions = refl; answers = refl; sides = refl; struck = refl; verdict = refl; ended = refl; order = refl; left = refl; replies = refl }

-- Plan 3005
abbrev map_3005 : List MapColumn
map_3005 = (record { kind = Int 1 false; nullable = true; origin = from.Old 0 } ∷ record { kind = Int 1 false; nullable = false; origin = from.Old 1 } ∷ record { kind = Int 8 false; nullable = false; origin = from.Old 2 } ∷ [])

abbrev plan_3005 : PlanData
plan_3005 = record { table = codes "t"; alter = (clauses.Change (codes "v") (record { name = codes "v"; kind = Int 1 false; nullable = (Some false); default = None; auto = false }) Unsaid ∷ []); tables = (record { schema = record { name = codes "_t_gho"; columns = (record { name = codes "id"; kind = Int 4 false; nullable = false; default = None; auto = false } ∷ []); uniques = (record { name = None; places = (0 ∷ []) } ∷ []); indexes = []; comment = []; start = None }; rows = [] } ∷ record { schema = record { name = codes "t"; columns = (record { name = codes "m0"; kind = Int 1 false; nullable = true; default = (Some Null); auto = false } ∷ record { name = codes "v"; kind = Int 4 false; nullable = false; default = None; auto = false } ∷ record { name = codes "id"; kind = Int 8 false; nullable = false; default = None; auto = false } ∷ []); uniques = (record { name = None; places = (2 ∷ []) } ∷ record { name = (Some (codes "u0")); places = (0 ∷ []) } ∷ []); indexes = []; comment = []; start = None }; rows = (((Num (pos 5)) ∷ (Num (pos 7)) ∷ (Num (pos 1)) ∷ []) ∷ ((Num (pos 6)) ∷ (Num (pos 300)) ∷ (Num (pos 5)) ∷ []) ∷ ((Num (pos 3)) ∷ (Num (pos 4)) ∷ (Num (pos 7)) ∷ []) ∷ []) } ∷ []); clients = ((record { line = 1; word = (words.Do (statements.Select (codes "t") shown.Count (conditions.Range (record { column = codes "id"; sign = signs.AtMost; value = (Num (pos 6)) } ∷ [])))) } ∷ record { line = 2; word = words.Begin } ∷ record { line = 3; word = (words.Do (statements.Replace (codes "t") (Some (codes "m0" ∷ codes "v" ∷ codes "id" ∷ [])) (Null ∷ (Num (pos 2)) ∷ (Num (pos 6)) ∷ []) None)) } ∷ record { line = 4; word = (words.Do (statements.Delete (codes "t") (conditions.Equal (record { column = codes "id"; value = (Num (pos 4)) } ∷ [])))) } ∷ record { line = 5; word = words.Commit } ∷ []) ∷ (record { line = 1; word = (words.Do (statements.Insert (codes "t") (Some (codes "m0" ∷ codes "v" ∷ codes "id" ∷ [])) ((Num (pos 3)) ∷ (Num (pos 1)) ∷ (Num (pos 6)) ∷ []) None)) } ∷ record { line = 2; word = words.Begin } ∷ record { line = 3; word = words.Commit } ∷ record { line = 4; word = (words.Do (statements.Replace (codes "t") (Some (codes "v" ∷ codes "id" ∷ [])) ((Text (codes "3")) ∷ (Num (pos 2)) ∷ []) None)) } ∷ record { line = 5; word = (words.Do (statements.Replace (codes "t") None ((Num (pos 7)) ∷ (Num (pos 1)) ∷ (Num (pos 2)) ∷ []) None)) } ∷ record { line = 6; word = words.Begin } ∷ record { line = 7; word = (words.Do (statements.Insert (codes "t") (Some (codes "m0" ∷ codes "v" ∷ codes "id" ∷ [])) ((Num (pos 3)) ∷ (Num (pos 2)) ∷ (Num (pos 3)) ∷ []) None)) } ∷ record { line = 8; word = words.Commit } ∷ []) ∷ (record { line = 1; word = (words.Do (statements.Select (codes "t") (shown.Columns (codes "m0" ∷ [])) (conditions.Equal (record { column = codes "id"; value = (Num (pos 6)) } ∷ [])))) } ∷ record { line = 2; word = words.Begin } ∷ record { line = 3; word = (words.Do (statements.Select (codes "t") (shown.Columns (codes "m0" ∷ [])) (conditions.Equal (record { column = codes "m0"; value = (Num (pos 1)) } ∷ [])))) } ∷ record { line = 4; word = (words.Do (statements.Update (codes "t") (record { column = codes "m0"; value = Null } ∷ record { column = codes "v"; value = (Num (pos 300)) } ∷ []) (conditions.Equal (record { column = codes "m0"; value = (Num (pos 5)) } ∷ [])))) } ∷ record { line = 5; word = (words.Do (statements.Replace (codes "t") None ((Num (pos 3)) ∷ (Num (pos 7)) ∷ (Num (pos 1)) ∷ []) None)) } ∷ record { line = 6; word = words.Commit } ∷ []) ∷ []); operator = []; faults = (losses.Turn 23 Apply ∷ []); turns = []; options = record { chunk_size = 5; dml_batch_size = 3; default_retries = 5; max_backlog = 1; drain_limit = 2; client_wait = 1; tool_wait = 3; max_load = 64; turn_limit = 200000; notes = 0; note_every = 100; replica_step = 0; replica_pause = 1; max_lag = 10; resume = false; approve_renamed_columns = true; initially_drop_ghost_table = true; initially_drop_old_table = false; ok_to_drop_table = false; postpone = false; show_history = true; show_turns = true; show_tables = true; show_replies = true } }

abbrev journal_3005 : List Entry
journal_3005 =
    record { actor = Insp; session = 1; asked = Call requests.ShowTables; side = None; answer = answers.Tables (record { name = codes "_t_gho"; comment = [] } ∷ record { name = codes "t"; comment = [] } ∷ []); missed = None; draw = None }
    ∷ record { actor = (Client 1); session = 2; asked = Call (requests.Do (statements.Select (codes "t") shown.Count (conditions.Range (record { column = codes "id"; sign = signs.AtMost; value = (Num (pos 6)) } ∷ [])))); side = None; answer = answers.Rows (((Num (pos 2)) ∷ []) ∷ []); missed = None; draw = None }
    ∷ record { actor = (Client 2); session = 3; asked = Call (requests.Do (statements.Insert (codes "t") (Some (codes "m0" ∷ codes "v" ∷ codes "id" ∷ [])) ((Num (pos 3)) ∷ (Num (pos 1)) ∷ (Num (pos 6)) ∷ []) None)); side = None; answer = answers.Refused 1062 None; missed = None; draw = None }
    ∷ record { actor = (Client 3); session = 4; asked = Call (requests.Do (statements.Select (codes "t") (shown.Columns (codes "m0" ∷ [])) (conditions.Equal (record { column = codes "id"; value = (Num (pos 6)) } ∷ [])))); side = None; answer = answers.Rows []; missed = None; draw = None }
    ∷ record { actor = (Client 1); session = 2; asked = Call requests.Begin; side = None; answer = answers.Ok 0; missed = None; draw = None }
    ∷ record { actor = (Client 1); session = 2; asked = Call (requests.Do (statements.Replace (codes "t") (Some (codes "m0" ∷ codes "v" ∷ codes "id" ∷ [])) (Null ∷ (Num (pos 2)) ∷ (Num (pos 6)) ∷ []) None)); side = None; answer = answers.Ok 1; missed = None; draw = None }
    ∷ record { actor = (Client 3); session = 4; asked = Call requests.Begin; side = None; answer = answers.Ok 0; missed = None; draw = None }
    ∷ record { actor = (Client 1); session = 2; asked = Call (requests.Do (statements.Delete (codes "t") (conditions.Equal (record { column = codes "id"; value = (Num (pos 4)) } ∷ [])))); side = None; answer = answers.Ok 0; missed = None; draw = None }
    ∷ record { actor = Insp; session = 1; asked = Call (requests.Drop (codes "_t_gho")); side = None; answer = answers.Ok 0; missed = None; draw = None }
    ∷ record { actor = (Client 3); session = 4; asked = Call (requests.Do (statements.Select (codes "t") (shown.Columns (codes "m0" ∷ [])) (conditions.Equal (record { column = codes "m0"; value = (Num (pos 1)) } ∷ [])))); side = None; answer = answers.Rows []; missed = None; draw = None }
    ∷ record { actor = (Client 1); session = 2; asked = Call requests.Commit; side = None; answer = answers.Ok 0; missed = None; draw = None }
    ∷ record { actor = (Client 3); session = 4; asked = Call (requests.Do (statements.Update (codes "t") (record { column = codes "m0"; value = Null } ∷ record { column = codes "v"; value = (Num (pos 300)) } ∷ []) (conditions.Equal (record { column = codes "m0"; value = (Num (pos 5)) } ∷ [])))); side = None; answer = answers.Ok 1; missed = None; draw = None }
    ∷ record { actor = Insp; session = 1; asked = Call (requests.Create (record { name = codes "_t_ghc"; columns = (record { name = codes "id"; kind = Int 8 false; nullable = false; default = None; auto = false } ∷ record { name = codes "hint"; kind = VarChar 64; nullable = false; default = None; auto = false } ∷ record { name = codes "value"; kind = VarChar 255; nullable = false; default = None; auto = false } ∷ []); uniques = (record { name = None; places = (0 ∷ []) } ∷ []); indexes = []; comment = []; start = None })); side = None; answer = answers.Ok 0; missed = None; draw = None }
    ∷ record { actor = Insp; session = 1; asked = Call (requests.Create (record { name = codes "_t_gho"; columns = (record { name = codes "m0"; kind = Int 1 false; nullable = true; default = (Some Null); auto = false } ∷ record { name = codes "v"; kind = Int 1 false; nullable = false; default = None; auto = false } ∷ record { name = codes "id"; kind = Int 8 false; nullable = false; default = None; auto = false } ∷ []); uniques = (record { name = None; places = (2 ∷ []) } ∷ record { name = (Some (codes "u0")); places = (0 ∷ []) } ∷ []); indexes = []; comment = []; start = None })); side = None; answer = answers.Ok 0; missed = None; draw = None }
    ∷ record { actor = Insp; session = 1; asked = Call requests.LogEnd; side = None; answer = answers.At 1; missed = None; draw = None }
    ∷ record { actor = (Client 2); session = 3; asked = Call requests.Begin; side = None; answer = answers.Ok 0; missed = None; draw = None }
    ∷ record { actor = Insp; session = 1; asked = Call (requests.Ends (codes "t")); side = None; answer = answers.Ends (Some (record { least = ((Num (pos 1)) ∷ []); greatest = ((Num (pos 7)) ∷ []) })); missed = None; draw = None }
    ∷ record { actor = Copy; session = 5; asked = Call (requests.ChunkEnd (codes "t") (Closed ((Num (pos 1)) ∷ [])) ((Num (pos 7)) ∷ []) 5); side = None; answer = answers.End ((Num (pos 7)) ∷ []); missed = None; draw = None }
    ∷ record { actor = Copy; session = 5; asked = Call (requests.BeginSpan (codes "t") (record { low = (Closed ((Num (pos 1)) ∷ [])); high = (Closed ((Num (pos 7)) ∷ [])) }) 5); side = None; answer = answers.Waits 4; missed = None; draw = None }
    ∷ record { actor = (Client 2); session = 3; asked = Call requests.Commit; side = None; answer = answers.Ok 0; missed = None; draw = None }
    ∷ record { actor = Copy; session = 5; asked = Poll; side = None; answer = answers.Waits 4; missed = None; draw = None }
    ∷ record { actor = (Client 2); session = 3; asked = Call (requests.Do (statements.Replace (codes "t") (Some (codes "v" ∷ codes "id" ∷ [])) ((Text (codes "3")) ∷ (Num (pos 2)) ∷ []) None)); side = None; answer = answers.Ok 1; missed = None; draw = None }
    ∷ record { actor = Apply; session = 6; asked = Call (requests.ReadLog 1 3 (codes "t" ∷ codes "_t_ghc" ∷ [])); side = None; answer = answers.Events (record { table = codes "t"; change = changes.Write (Null ∷ (Num (pos 3)) ∷ (Num (pos 2)) ∷ []) } ∷ []) 2; missed = None; draw = None }
    ∷ record { actor = (Client 3); session = 4; asked = Call (requests.Do (statements.Replace (codes "t") None ((Num (pos 3)) ∷ (Num (pos 7)) ∷ (Num (pos 1)) ∷ []) None)); side = None; answer = answers.Ok 3; missed = None; draw = None }
    ∷ record { actor = Apply; session = 6; asked = Call requests.Begin; side = None; answer = answers.Ok 0; missed = None; draw = None }
    ∷ record { actor = Apply; session = 6; asked = Call (requests.Do (statements.Replace (codes "_t_gho") None (Null ∷ (Num (pos 3)) ∷ (Num (pos 2)) ∷ []) None)); side = None; answer = answers.Ok 1; missed = None; draw = None }
    ∷ record { actor = Copy; session = 5; asked = Poll; side = None; answer = answers.Waits 4; missed = None; draw = None }
    ∷ record { actor = (Client 3); session = 4; asked = Call requests.Commit; side = None; answer = answers.Ok 0; missed = None; draw = None }
    ∷ record { actor = Copy; session = 5; asked = Poll; side = None; answer = answers.Keys (((Num (pos 1)) ∷ []) ∷ ((Num (pos 2)) ∷ []) ∷ ((Num (pos 5)) ∷ []) ∷ ((Num (pos 6)) ∷ []) ∷ []) ((Num (pos 7)) ∷ []); missed = None; draw = None }
    ∷ record { actor = Apply; session = 6; asked = Call requests.Commit; side = None; answer = answers.Ok 0; missed = None; draw = None }
    ∷ record { actor = Copy; session = 5; asked = Call (requests.CopyRow (codes "t") (codes "_t_gho") map_3005 ((Num (pos 1)) ∷ [])); side = None; answer = answers.Ok 1; missed = None; draw = None }
    ∷ record { actor = Copy; session = 5; asked = Call (requests.CopyRow (codes "t") (codes "_t_gho") map_3005 ((Num (pos 2)) ∷ [])); side = None; answer = answers.Ok 0; missed = None; draw = None }
    ∷ record { actor = (Client 2); session = 3; asked = Call (requests.Do (statements.Replace (codes "t") None ((Num (pos 7)) ∷ (Num (pos 1)) ∷ (Num (pos 2)) ∷ []) None)); side = None; answer = answers.Waits 5; missed = None; draw = None }
    ∷ record { actor = Apply; session = 6; asked = Call (requests.ReadLog 2 3 (codes "t" ∷ codes "_t_ghc" ∷ [])); side = None; answer = answers.Events (record { table = codes "t"; change = changes.Update ((Num (pos 5)) ∷ (Num (pos 7)) ∷ (Num (pos 1)) ∷ []) (Null ∷ (Num (pos 300)) ∷ (Num (pos 1)) ∷ []) } ∷ record { table = codes "t"; change = changes.Delete (Null ∷ (Num (pos 300)) ∷ (Num (pos 1)) ∷ []) } ∷ record { table = codes "t"; change = changes.Delete ((Num (pos 3)) ∷ (Num (pos 4)) ∷ (Num (pos 7)) ∷ []) } ∷ []) 5; missed = None; draw = None }
    ∷ record { actor = Apply; session = 6; asked = Call requests.Begin; side = None; answer = answers.Ok 0; missed = None; draw = None }
    ∷ record { actor = Apply; session = 6; asked = Call (requests.Do (statements.Delete (codes "_t_gho") (conditions.Equal (record { column = codes "id"; value = (Num (pos 1)) } ∷ [])))); side = None; answer = answers.Waits 5; missed = None; draw = None }
    ∷ record { actor = Copy; session = 5; asked = Call (requests.CopyRow (codes "t") (codes "_t_gho") map_3005 ((Num (pos 5)) ∷ [])); side = None; answer = answers.Refused 1264 (Some 1); missed = None; draw = None }
    ∷ record { actor = Apply; session = 6; asked = Poll; side = None; answer = answers.Waits 5; missed = None; draw = None }
    ∷ record { actor = (Client 2); session = 3; asked = Poll; side = None; answer = answers.TimedOut 1; missed = None; draw = None }
    ∷ record { actor = (Client 2); session = 3; asked = Call requests.Begin; side = None; answer = answers.Ok 0; missed = None; draw = None }
    ∷ record { actor = Apply; session = 6; asked = Poll; side = None; answer = answers.Waits 5; missed = None; draw = None }
    ∷ record { actor = Copy; session = 5; asked = Call requests.Rollback; side = None; answer = answers.Ok 0; missed = None; draw = None }
    ∷ record { actor = Apply; session = 6; asked = Poll; side = None; answer = answers.Ok 0; missed = None; draw = None }
    ∷ record { actor = Apply; session = 6; asked = Call requests.Rollback; side = None; answer = answers.Ok 0; missed = None; draw = None }
    ∷ record { actor = (Client 2); session = 3; asked = Call (requests.Do (statements.Insert (codes "t") (Some (codes "m0" ∷ codes "v" ∷ codes "id" ∷ [])) ((Num (pos 3)) ∷ (Num (pos 2)) ∷ (Num (pos 3)) ∷ []) None)); side = None; answer = answers.Refused 1062 None; missed = None; draw = None }
    ∷ record { actor = (Client 2); session = 3; asked = Call requests.Commit; side = None; answer = answers.Ok 0; missed = None; draw = None }
    ∷ []

abbrev turns_3005 : List WorkerTurn
turns_3005 = (record { worker = 1; actor = Insp } ∷ record { worker = 0; actor = (Client 1) } ∷ record { worker = 1; actor = (Client 2) } ∷ record { worker = 2; actor = (Client 3) } ∷ record { worker = 0; actor = (Client 1) } ∷ record { worker = 0; actor = (Client 1) } ∷ record { worker = 2; actor = (Client 3) } ∷ record { worker = 0; actor = (Client 1) } ∷ record { worker = 1; actor = Insp } ∷ record { worker = 2; actor = (Client 3) } ∷ record { worker = 0; actor = (Client 1) } ∷ record { worker = 2; actor = (Client 3) } ∷ record { worker = 0; actor = Insp } ∷ record { worker = 0; actor = Insp } ∷ record { worker = 0; actor = Insp } ∷ record { worker = 1; actor = (Client 2) } ∷ record { worker = 1; actor = Insp } ∷ record { worker = 0; actor = Copy } ∷ record { worker = 0; actor = Copy } ∷ record { worker = 0; actor = (Client 2) } ∷ record { worker = 2; actor = Copy } ∷ record { worker = 1; actor = (Client 2) } ∷ record { worker = 0; actor = Apply } ∷ record { worker = 2; actor = (Client 3) } ∷ record { worker = 0; actor = Apply } ∷ record { worker = 0; actor = Apply } ∷ record { worker = 2; actor = Copy } ∷ record { worker = 2; actor = (Client 3) } ∷ record { worker = 2; actor = Copy } ∷ record { worker = 0; actor = Apply } ∷ record { worker = 2; actor = Copy } ∷ record { worker = 2; actor = Copy } ∷ record { worker = 1; actor = (Client 2) } ∷ record { worker = 0; actor = Apply } ∷ record { worker = 0; actor = Apply } ∷ record { worker = 0; actor = Apply } ∷ record { worker = 2; actor = Copy } ∷ record { worker = 0; actor = Apply } ∷ record { worker = 1; actor = (Client 2) } ∷ record { worker = 1; actor = (Client 2) } ∷ record { worker = 0; actor = Apply } ∷ record { worker = 2; actor = Copy } ∷ record { worker = 0; actor = Apply } ∷ record { worker = 2; actor = Apply } ∷ record { worker = 1; actor = (Client 2) } ∷ record { worker = 2; actor = (Client 2) } ∷ [])

abbrev reported_3005 : WorkersReported
reported_3005 =
    record {
      verdict = verdicts.Reverted (causes.Unfit 37 ((Num (pos 5)) ∷ []) (codes "v") 1264);
      ended = (Some (1, 1) ∷ Some (2, 1) ∷ Some (3, 1) ∷ Some (1, 2) ∷ Some (2, 2) ∷ Some (2, 3) ∷ Some (3, 2) ∷ Some (2, 4) ∷ Some (2, 5) ∷ []);
      left = (record { schema = record { name = codes "t"; columns = (record { name = codes "m0"; kind = Int 1 false; nullable = true; default = (Some Null); auto = false } ∷ record { name = codes "v"; kind = Int 4 false; nullable = false; default = None; auto = false } ∷ record { name = codes "id"; kind = Int 8 false; nullable = false; default = None; auto = false } ∷ []); uniques = (record { name = None; places = (2 ∷ []) } ∷ record { name = (Some (codes "u0")); places = (0 ∷ []) } ∷ []); indexes = []; comment = []; start = None }; rows = (((Num (pos 3)) ∷ (Num (pos 7)) ∷ (Num (pos 1)) ∷ []) ∷ (Null ∷ (Num (pos 3)) ∷ (Num (pos 2)) ∷ []) ∷ ((Num (pos 6)) ∷ (Num (pos 300)) ∷ (Num (pos 5)) ∷ []) ∷ (Null ∷ (Num (pos 2)) ∷ (Num (pos 6)) ∷ []) ∷ []) } ∷ []);
      replies = (((1, 1, (Some (replies.Rows (((Num (pos 2)) ∷ []) ∷ [])))) ∷ (2, 1, (Some (replies.Ok 0))) ∷ (2, 2, (Some (replies.Ok 1))) ∷ (2, 3, (Some (replies.Ok 0))) ∷ (2, 4, (Some (replies.Ok 0))) ∷ [])) ∷ (((1, 1, (Some (replies.Error 1062))) ∷ (2, 1, (Some (replies.Ok 0))) ∷ (2, 2, (Some (replies.Ok 0))) ∷ (3, 1, (Some (replies.Ok 1))) ∷ (4, 1, (Some (replies.Error 1205))) ∷ (5, 1, (Some (replies.Ok 0))) ∷ (5, 2, (Some (replies.Error 1062))) ∷ (5, 3, (Some (replies.Ok 0))) ∷ [])) ∷ (((1, 1, (Some (replies.Rows []))) ∷ (2, 1, (Some (replies.Ok 0))) ∷ (2, 2, (Some (replies.Rows []))) ∷ (2, 3, (Some (replies.Ok 1))) ∷ (2, 4, (Some (replies.Ok 3))) ∷ (2, 5, (Some (replies.Ok 0))) ∷ [])) ∷ [];
    }

worked_3005 : IsWorkedBy 3 turns_3005 plan_3005 journal_3005 reported_3005
unfolding computing
worked_3005 = record { asks = refl; sessions = refl; answers = refl; sides = refl; struck = refl; verdict = refl; ended = refl; order = refl; left = refl; replies = refl }

-- Plan 3006
abbrev map_3006 : List MapColumn
map_3006 = (record { kind = VarChar 4; nullable = true; origin = from.Added (Text (codes "n")) } ∷ record { kind = VarChar 9; nullable = false; origin = from.Old 0 } ∷ record { kind = VarChar 3; nullable = true; origin = from.Old 1 } ∷ record { kind = VarChar 3; nullable = true; origin = from.Old 2 } ∷ record { kind = Int 4 false; nullable = true; origin = from.Old 3 } ∷ [])

abbrev plan_3006 : PlanData
plan_3006 = record { table = codes "t"; alter = (clauses.Change (codes "id") (record { name = codes "id"; kind = VarChar 9; nullable = (Some false); default = None; auto = false }) Unsaid ∷ clauses.Add (record { name = codes "b"; kind = VarChar 4; nullable = None; default = (Some (Text (codes "n"))); auto = false }) First ∷ []); tables = (record { schema = record { name = codes "t"; columns = (record { name = codes "id"; kind = VarChar 3; nullable = false; default = None; auto = false } ∷ record { name = codes "m0"; kind = VarChar 3; nullable = true; default = (Some Null); auto = false } ∷ record { name = codes "m1"; kind = VarChar 3; nullable = true; default = (Some (Text (codes "1"))); auto = false } ∷ record { name = codes "v"; kind = Int 4 false; nullable = true; default = (Some (Num (pos 5))); auto = false } ∷ []); uniques = (record { name = None; places = (0 ∷ []) } ∷ record { name = (Some (codes "u0")); places = (1 ∷ []) } ∷ record { name = (Some (codes "u1")); places = (2 ∷ []) } ∷ []); indexes = []; comment = []; start = None }; rows = (((Text (codes "6")) ∷ (Text (codes "a")) ∷ (Text (codes "2")) ∷ (Num (pos 5)) ∷ []) ∷ ((Text (codes "b")) ∷ (Text (codes "g")) ∷ Null ∷ (Num (pos 6)) ∷ []) ∷ ((Text (codes "c")) ∷ Null ∷ Null ∷ (Num (pos 2)) ∷ []) ∷ ((Text (codes "d")) ∷ (Text (codes "b")) ∷ (Text (codes "a")) ∷ (Num (pos 1)) ∷ []) ∷ ((Text (codes "e")) ∷ (Text (codes "e")) ∷ (Text (codes "e")) ∷ (Num (pos 7)) ∷ []) ∷ []) } ∷ []); clients = ((record { line = 1; word = words.Begin } ∷ record { line = 2; word = (words.Do (statements.Replace (codes "t") (Some (codes "id" ∷ codes "m0" ∷ codes "m1" ∷ codes "v" ∷ [])) ((Text (codes "d")) ∷ (Num (pos 4)) ∷ (Text (codes "a")) ∷ (Num (pos 7)) ∷ []) None)) } ∷ record { line = 3; word = (words.Do (statements.Delete (codes "t") (conditions.Equal (record { column = codes "id"; value = (Text (codes "e")) } ∷ [])))) } ∷ record { line = 4; word = words.Commit } ∷ record { line = 5; word = (words.Do (statements.Insert (codes "t") (Some (codes "id" ∷ codes "m1" ∷ codes "v" ∷ [])) ((Text (codes "d")) ∷ (Num (pos 6)) ∷ (Num (pos 1)) ∷ []) None)) } ∷ []) ∷ []); operator = (record { word = commanded.NoThrottle; units = 1 } ∷ []); faults = (losses.Nth Op 17 sides_at.Before ∷ losses.Turn 44 (Client 1) ∷ losses.Nth Apply 1 sides_at.Before ∷ losses.Nth (Client 1) 2 sides_at.Before ∷ losses.Nth Lock 5 sides_at.Before ∷ losses.Nth Lock 4 sides_at.Before ∷ []); turns = (record { actor = Op; times = 5 } ∷ record { actor = Insp; times = 5 } ∷ record { actor = Apply; times = 5 } ∷ record { actor = Op; times = 1 } ∷ record { actor = Insp; times = 3 } ∷ record { actor = Copy; times = 5 } ∷ record { actor = Apply; times = 1 } ∷ record { actor = Insp; times = 1 } ∷ record { actor = Lock; times = 2 } ∷ record { actor = (Client 1); times = 5 } ∷ record { actor = Insp; times = 1 } ∷ record { actor = Op; times = 1 } ∷ record { actor = Ren; times = 1 } ∷ record { actor = Copy; times = 5 } ∷ record { actor = Apply; times = 1 } ∷ record { actor = (Client 1); times = 1 } ∷ record { actor = Copy; times = 1 } ∷ record { actor = Apply; times = 1 } ∷ record { actor = Insp; times = 1 } ∷ record { actor = Insp; times = 1 } ∷ record { actor = (Client 1); times = 1 } ∷ record { actor = Copy; times = 3 } ∷ record { actor = Ren; times = 1 } ∷ record { actor = Apply; times = 1 } ∷ record { actor = Copy; times = 1 } ∷ record { actor = Apply; times = 2 } ∷ record { actor = (Client 1); times = 2 } ∷ record { actor = Op; times = 5 } ∷ record { actor = Apply; times = 5 } ∷ record { actor = Ren; times = 3 } ∷ record { actor = Apply; times = 5 } ∷ record { actor = Ren; times = 5 } ∷ record { actor = Op; times = 1 } ∷ record { actor = Copy; times = 1 } ∷ record { actor = Op; times = 1 } ∷ record { actor = Op; times = 3 } ∷ record { actor = Lock; times = 1 } ∷ record { actor = Copy; times = 1 } ∷ record { actor = Lock; times = 1 } ∷ record { actor = Op; times = 3 } ∷ record { actor = Copy; times = 1 } ∷ record { actor = Apply; times = 1 } ∷ record { actor = Lock; times = 3 } ∷ record { actor = Op; times = 2 } ∷ []); options = record { chunk_size = 1000; dml_batch_size = 2; default_retries = 1; max_backlog = 100; drain_limit = 2000; client_wait = 30; tool_wait = 3; max_load = 64; turn_limit = 200000; notes = 0; note_every = 100; replica_step = 0; replica_pause = 1; max_lag = 10; resume = false; approve_renamed_columns = true; initially_drop_ghost_table = false; initially_drop_old_table = false; ok_to_drop_table = false; postpone = false; show_history = true; show_turns = true; show_tables = true; show_replies = true } }

abbrev journal_3006 : List Entry
journal_3006 =
    record { actor = Insp; session = 1; asked = Call requests.ShowTables; side = None; answer = answers.Tables (record { name = codes "t"; comment = [] } ∷ []); missed = None; draw = None }
    ∷ record { actor = Op; session = 0; asked = Command commanded.NoThrottle; side = None; answer = answers.Ok 0; missed = None; draw = None }
    ∷ record { actor = Insp; session = 1; asked = Call (requests.Create (record { name = codes "_t_ghc"; columns = (record { name = codes "id"; kind = Int 8 false; nullable = false; default = None; auto = false } ∷ record { name = codes "hint"; kind = VarChar 64; nullable = false; default = None; auto = false } ∷ record { name = codes "value"; kind = VarChar 255; nullable = false; default = None; auto = false } ∷ []); uniques = (record { name = None; places = (0 ∷ []) } ∷ []); indexes = []; comment = []; start = None })); side = None; answer = answers.Ok 0; missed = None; draw = None }
    ∷ record { actor = Insp; session = 1; asked = Call (requests.Create (record { name = codes "_t_gho"; columns = (record { name = codes "b"; kind = VarChar 4; nullable = true; default = (Some (Text (codes "n"))); auto = false } ∷ record { name = codes "id"; kind = VarChar 9; nullable = false; default = None; auto = false } ∷ record { name = codes "m0"; kind = VarChar 3; nullable = true; default = (Some Null); auto = false } ∷ record { name = codes "m1"; kind = VarChar 3; nullable = true; default = (Some (Text (codes "1"))); auto = false } ∷ record { name = codes "v"; kind = Int 4 false; nullable = true; default = (Some (Num (pos 5))); auto = false } ∷ []); uniques = (record { name = None; places = (1 ∷ []) } ∷ record { name = (Some (codes "u0")); places = (2 ∷ []) } ∷ record { name = (Some (codes "u1")); places = (3 ∷ []) } ∷ []); indexes = []; comment = []; start = None })); side = None; answer = answers.Ok 0; missed = None; draw = None }
    ∷ record { actor = (Client 1); session = 2; asked = Call requests.Begin; side = None; answer = answers.Ok 0; missed = None; draw = None }
    ∷ record { actor = (Client 1); session = 2; asked = Call (requests.Do (statements.Replace (codes "t") (Some (codes "id" ∷ codes "m0" ∷ codes "m1" ∷ codes "v" ∷ [])) ((Text (codes "d")) ∷ (Num (pos 4)) ∷ (Text (codes "a")) ∷ (Num (pos 7)) ∷ []) None)); side = (Some sides_at.Before); answer = answers.Lost; missed = None; draw = None }
    ∷ record { actor = Insp; session = 1; asked = Call requests.LogEnd; side = None; answer = answers.At 0; missed = None; draw = None }
    ∷ record { actor = Insp; session = 1; asked = Call (requests.Ends (codes "t")); side = None; answer = answers.Ends (Some (record { least = ((Text (codes "6")) ∷ []); greatest = ((Text (codes "e")) ∷ []) })); missed = None; draw = None }
    ∷ record { actor = Copy; session = 3; asked = Call (requests.ChunkEnd (codes "t") (Closed ((Text (codes "6")) ∷ [])) ((Text (codes "e")) ∷ []) 1000); side = None; answer = answers.End ((Text (codes "e")) ∷ []); missed = None; draw = None }
    ∷ record { actor = Copy; session = 3; asked = Call (requests.BeginSpan (codes "t") (record { low = (Closed ((Text (codes "6")) ∷ [])); high = (Closed ((Text (codes "e")) ∷ [])) }) 1000); side = None; answer = answers.Keys (((Text (codes "6")) ∷ []) ∷ ((Text (codes "b")) ∷ []) ∷ ((Text (codes "c")) ∷ []) ∷ ((Text (codes "d")) ∷ []) ∷ ((Text (codes "e")) ∷ []) ∷ []) ((Text (codes "e")) ∷ []); missed = None; draw = None }
    ∷ record { actor = Copy; session = 3; asked = Call (requests.CopyRow (codes "t") (codes "_t_gho") map_3006 ((Text (codes "6")) ∷ [])); side = None; answer = answers.Ok 1; missed = None; draw = None }
    ∷ record { actor = Copy; session = 3; asked = Call (requests.CopyRow (codes "t") (codes "_t_gho") map_3006 ((Text (codes "b")) ∷ [])); side = None; answer = answers.Ok 1; missed = None; draw = None }
    ∷ record { actor = Copy; session = 3; asked = Call (requests.CopyRow (codes "t") (codes "_t_gho") map_3006 ((Text (codes "c")) ∷ [])); side = None; answer = answers.Ok 1; missed = None; draw = None }
    ∷ record { actor = Copy; session = 3; asked = Call (requests.CopyRow (codes "t") (codes "_t_gho") map_3006 ((Text (codes "d")) ∷ [])); side = None; answer = answers.Ok 1; missed = None; draw = None }
    ∷ record { actor = Copy; session = 3; asked = Call (requests.CopyRow (codes "t") (codes "_t_gho") map_3006 ((Text (codes "e")) ∷ [])); side = None; answer = answers.Ok 1; missed = None; draw = None }
    ∷ record { actor = Copy; session = 3; asked = Call requests.Commit; side = None; answer = answers.Ok 0; missed = None; draw = None }
    ∷ record { actor = Lock; session = 4; asked = Call (requests.Create (record { name = codes "_t_del"; columns = (record { name = codes "id"; kind = Int 4 false; nullable = false; default = None; auto = false } ∷ []); uniques = (record { name = None; places = (0 ∷ []) } ∷ []); indexes = []; comment = codes "ghost-cut-over-sentry"; start = None })); side = None; answer = answers.Ok 0; missed = None; draw = None }
    ∷ record { actor = Lock; session = 4; asked = Call (requests.LockTables (codes "t" ∷ codes "_t_del" ∷ [])); side = None; answer = answers.Ok 0; missed = None; draw = None }
    ∷ record { actor = Insp; session = 1; asked = Call (requests.Do (statements.Insert (codes "_t_ghc") None ((Num (pos 1)) ∷ (Text (codes "cut-over")) ∷ (Text (codes "1")) ∷ []) None)); side = None; answer = answers.Ok 1; missed = None; draw = None }
    ∷ record { actor = Apply; session = 5; asked = Call (requests.ReadLog 0 2 (codes "t" ∷ codes "_t_ghc" ∷ [])); side = (Some sides_at.Before); answer = answers.Lost; missed = None; draw = None }
    ∷ record { actor = Lock; session = 4; asked = Call requests.Unlock; side = None; answer = answers.Ok 0; missed = None; draw = None }
    ∷ record { actor = Insp; session = 1; asked = Call requests.ShowTables; side = None; answer = answers.Tables (record { name = codes "_t_del"; comment = codes "ghost-cut-over-sentry" } ∷ record { name = codes "_t_ghc"; comment = [] } ∷ record { name = codes "_t_gho"; comment = [] } ∷ record { name = codes "t"; comment = [] } ∷ []); missed = None; draw = None }
    ∷ record { actor = Insp; session = 1; asked = Call (requests.Drop (codes "_t_del")); side = None; answer = answers.Ok 0; missed = None; draw = None }
    ∷ []

abbrev turns_3006 : List WorkerTurn
turns_3006 = (record { worker = 1; actor = Insp } ∷ record { worker = 0; actor = Op } ∷ record { worker = 1; actor = Insp } ∷ record { worker = 2; actor = Insp } ∷ record { worker = 0; actor = (Client 1) } ∷ record { worker = 0; actor = (Client 1) } ∷ record { worker = 2; actor = Insp } ∷ record { worker = 0; actor = Insp } ∷ record { worker = 1; actor = Copy } ∷ record { worker = 2; actor = Copy } ∷ record { worker = 0; actor = Copy } ∷ record { worker = 2; actor = Copy } ∷ record { worker = 0; actor = Copy } ∷ record { worker = 0; actor = Copy } ∷ record { worker = 0; actor = Copy } ∷ record { worker = 1; actor = Copy } ∷ record { worker = 1; actor = Lock } ∷ record { worker = 0; actor = Lock } ∷ record { worker = 0; actor = Insp } ∷ record { worker = 0; actor = Apply } ∷ record { worker = 2; actor = Lock } ∷ record { worker = 1; actor = Insp } ∷ record { worker = 0; actor = Insp } ∷ [])

abbrev reported_3006 : WorkersReported
reported_3006 =
    record {
      verdict = verdicts.Reverted (causes.Spent (tasks.Batch 0) (20 ∷ []));
      ended = (Some (1, 1) ∷ []);
      left = (record { schema = record { name = codes "t"; columns = (record { name = codes "id"; kind = VarChar 3; nullable = false; default = None; auto = false } ∷ record { name = codes "m0"; kind = VarChar 3; nullable = true; default = (Some Null); auto = false } ∷ record { name = codes "m1"; kind = VarChar 3; nullable = true; default = (Some (Text (codes "1"))); auto = false } ∷ record { name = codes "v"; kind = Int 4 false; nullable = true; default = (Some (Num (pos 5))); auto = false } ∷ []); uniques = (record { name = None; places = (0 ∷ []) } ∷ record { name = (Some (codes "u0")); places = (1 ∷ []) } ∷ record { name = (Some (codes "u1")); places = (2 ∷ []) } ∷ []); indexes = []; comment = []; start = None }; rows = (((Text (codes "6")) ∷ (Text (codes "a")) ∷ (Text (codes "2")) ∷ (Num (pos 5)) ∷ []) ∷ ((Text (codes "b")) ∷ (Text (codes "g")) ∷ Null ∷ (Num (pos 6)) ∷ []) ∷ ((Text (codes "c")) ∷ Null ∷ Null ∷ (Num (pos 2)) ∷ []) ∷ ((Text (codes "d")) ∷ (Text (codes "b")) ∷ (Text (codes "a")) ∷ (Num (pos 1)) ∷ []) ∷ ((Text (codes "e")) ∷ (Text (codes "e")) ∷ (Text (codes "e")) ∷ (Num (pos 7)) ∷ []) ∷ []) } ∷ []);
      replies = (((1, 1, (Some (replies.Ok 0))) ∷ (1, 2, None) ∷ [])) ∷ [];
    }

worked_3006 : IsWorkedBy 3 turns_3006 plan_3006 journal_3006 reported_3006
unfolding computing
worked_3006 = record { asks = refl; sessions = refl; answers = refl; sides = refl; struck = refl; verdict = refl; ended = refl; order = refl; left = refl; replies = refl }

-- Plan 3012
abbrev map_3012 : List MapColumn
map_3012 = (record { kind = Int 4 false; nullable = false; origin = from.Old 0 } ∷ record { kind = Int 4 false; nullable = true; origin = from.Old 1 } ∷ record { kind = Int 4 false; nullable = true; origin = from.Old 2 } ∷ record { kind = Int 4 false; nullable = true; origin = from.Added Null } ∷ [])

abbrev plan_3012 : PlanData
plan_3012 = record { table = codes "t"; alter = (clauses.Add (record { name = codes "b"; kind = Int 4 false; nullable = None; default = None; auto = false }) Unsaid ∷ []); tables = (record { schema = record { name = codes "t"; columns = (record { name = codes "id"; kind = Int 4 false; nullable = false; default = None; auto = false } ∷ record { name = codes "m"; kind = Int 4 false; nullable = true; default = (Some Null); auto = false } ∷ record { name = codes "v"; kind = Int 4 false; nullable = true; default = (Some Null); auto = false } ∷ []); uniques = (record { name = None; places = (0 ∷ []) } ∷ record { name = (Some (codes "u0")); places = (1 ∷ []) } ∷ []); indexes = []; comment = []; start = None }; rows = (((Num (pos 1)) ∷ (Num (pos 1)) ∷ (Num (pos 5)) ∷ []) ∷ ((Num (pos 2)) ∷ (Num (pos 3)) ∷ (Num (pos 5)) ∷ []) ∷ []) } ∷ []); clients = ((record { line = 1; word = (words.Do (statements.Update (codes "t") (record { column = codes "m"; value = Null } ∷ []) (conditions.Equal (record { column = codes "id"; value = (Num (pos 3)) } ∷ [])))) } ∷ record { line = 2; word = (words.Do (statements.Update (codes "t") (record { column = codes "m"; value = (Num (pos 2)) } ∷ []) (conditions.Equal (record { column = codes "id"; value = (Num (pos 1)) } ∷ [])))) } ∷ record { line = 3; word = (words.Do (statements.Update (codes "t") (record { column = codes "id"; value = (Num (pos 4)) } ∷ []) (conditions.Equal (record { column = codes "id"; value = (Num (pos 3)) } ∷ [])))) } ∷ record { line = 4; word = (words.Do (statements.Update (codes "t") (record { column = codes "id"; value = (Num (pos 4)) } ∷ []) (conditions.Equal (record { column = codes "id"; value = (Num (pos 3)) } ∷ [])))) } ∷ record { line = 5; word = (words.Do (statements.Update (codes "t") (record { column = codes "id"; value = (Num (pos 6)) } ∷ []) (conditions.Equal (record { column = codes "m"; value = (Num (pos 2)) } ∷ [])))) } ∷ record { line = 6; word = (words.Do (statements.Update (codes "t") (record { column = codes "m"; value = (Num (pos 3)) } ∷ []) (conditions.Equal (record { column = codes "id"; value = (Num (pos 6)) } ∷ [])))) } ∷ []) ∷ []); operator = []; faults = []; turns = (record { actor = Insp; times = 4 } ∷ record { actor = Insp; times = 2 } ∷ record { actor = Copy; times = 9 } ∷ record { actor = (Client 1); times = 1 } ∷ record { actor = (Client 1); times = 1 } ∷ record { actor = Copy; times = 3 } ∷ record { actor = Apply; times = 4 } ∷ record { actor = Apply; times = 4 } ∷ record { actor = Copy; times = 9 } ∷ record { actor = (Client 1); times = 6 } ∷ record { actor = (Client 1); times = 1 } ∷ record { actor = (Client 1); times = 6 } ∷ record { actor = (Client 1); times = 3 } ∷ record { actor = Copy; times = 1 } ∷ record { actor = Apply; times = 3 } ∷ record { actor = (Client 1); times = 1 } ∷ record { actor = Apply; times = 3 } ∷ record { actor = (Client 1); times = 9 } ∷ record { actor = (Client 1); times = 3 } ∷ record { actor = (Client 1); times = 9 } ∷ record { actor = (Client 1); times = 9 } ∷ record { actor = (Client 1); times = 1 } ∷ record { actor = Apply; times = 3 } ∷ record { actor = (Client 1); times = 4 } ∷ record { actor = (Client 1); times = 2 } ∷ record { actor = (Client 1); times = 4 } ∷ record { actor = (Client 1); times = 2 } ∷ record { actor = (Client 1); times = 9 } ∷ record { actor = (Client 1); times = 1 } ∷ record { actor = (Client 1); times = 6 } ∷ record { actor = (Client 1); times = 2 } ∷ record { actor = Apply; times = 3 } ∷ record { actor = (Client 1); times = 1 } ∷ record { actor = (Client 1); times = 1 } ∷ record { actor = Copy; times = 1 } ∷ record { actor = (Client 1); times = 2 } ∷ record { actor = (Client 1); times = 9 } ∷ record { actor = Copy; times = 3 } ∷ record { actor = (Client 1); times = 1 } ∷ record { actor = (Client 1); times = 4 } ∷ record { actor = Apply; times = 6 } ∷ []); options = record { chunk_size = 3; dml_batch_size = 3; default_retries = 60; max_backlog = 100; drain_limit = 2000; client_wait = 20; tool_wait = 30; max_load = 64; turn_limit = 200000; notes = 0; note_every = 100; replica_step = 0; replica_pause = 1; max_lag = 10; resume = false; approve_renamed_columns = false; initially_drop_ghost_table = false; initially_drop_old_table = false; ok_to_drop_table = false; postpone = false; show_history = true; show_turns = true; show_tables = true; show_replies = true } }

abbrev journal_3012 : List Entry
journal_3012 =
    record { actor = Insp; session = 1; asked = Call requests.ShowTables; side = None; answer = answers.Tables (record { name = codes "t"; comment = [] } ∷ []); missed = None; draw = None }
    ∷ record { actor = (Client 1); session = 2; asked = Call (requests.Do (statements.Update (codes "t") (record { column = codes "m"; value = Null } ∷ []) (conditions.Equal (record { column = codes "id"; value = (Num (pos 3)) } ∷ [])))); side = None; answer = answers.Ok 0; missed = None; draw = None }
    ∷ record { actor = Insp; session = 1; asked = Call (requests.Create (record { name = codes "_t_ghc"; columns = (record { name = codes "id"; kind = Int 8 false; nullable = false; default = None; auto = false } ∷ record { name = codes "hint"; kind = VarChar 64; nullable = false; default = None; auto = false } ∷ record { name = codes "value"; kind = VarChar 255; nullable = false; default = None; auto = false } ∷ []); uniques = (record { name = None; places = (0 ∷ []) } ∷ []); indexes = []; comment = []; start = None })); side = None; answer = answers.Ok 0; missed = None; draw = None }
    ∷ record { actor = Insp; session = 1; asked = Call (requests.Create (record { name = codes "_t_gho"; columns = (record { name = codes "id"; kind = Int 4 false; nullable = false; default = None; auto = false } ∷ record { name = codes "m"; kind = Int 4 false; nullable = true; default = (Some Null); auto = false } ∷ record { name = codes "v"; kind = Int 4 false; nullable = true; default = (Some Null); auto = false } ∷ record { name = codes "b"; kind = Int 4 false; nullable = true; default = (Some Null); auto = false } ∷ []); uniques = (record { name = None; places = (0 ∷ []) } ∷ record { name = (Some (codes "u0")); places = (1 ∷ []) } ∷ []); indexes = []; comment = []; start = None })); side = None; answer = answers.Ok 0; missed = None; draw = None }
    ∷ record { actor = (Client 1); session = 2; asked = Call (requests.Do (statements.Update (codes "t") (record { column = codes "m"; value = (Num (pos 2)) } ∷ []) (conditions.Equal (record { column = codes "id"; value = (Num (pos 1)) } ∷ [])))); side = None; answer = answers.Ok 1; missed = None; draw = None }
    ∷ record { actor = (Client 1); session = 2; asked = Call (requests.Do (statements.Update (codes "t") (record { column = codes "id"; value = (Num (pos 4)) } ∷ []) (conditions.Equal (record { column = codes "id"; value = (Num (pos 3)) } ∷ [])))); side = None; answer = answers.Ok 0; missed = None; draw = None }
    ∷ record { actor = Insp; session = 1; asked = Call requests.LogEnd; side = None; answer = answers.At 1; missed = None; draw = None }
    ∷ record { actor = (Client 1); session = 2; asked = Call (requests.Do (statements.Update (codes "t") (record { column = codes "id"; value = (Num (pos 4)) } ∷ []) (conditions.Equal (record { column = codes "id"; value = (Num (pos 3)) } ∷ [])))); side = None; answer = answers.Ok 0; missed = None; draw = None }
    ∷ record { actor = Insp; session = 1; asked = Call (requests.Ends (codes "t")); side = None; answer = answers.Ends (Some (record { least = ((Num (pos 1)) ∷ []); greatest = ((Num (pos 2)) ∷ []) })); missed = None; draw = None }
    ∷ record { actor = Copy; session = 3; asked = Call (requests.ChunkEnd (codes "t") (Closed ((Num (pos 1)) ∷ [])) ((Num (pos 2)) ∷ []) 3); side = None; answer = answers.End ((Num (pos 2)) ∷ []); missed = None; draw = None }
    ∷ record { actor = (Client 1); session = 2; asked = Call (requests.Do (statements.Update (codes "t") (record { column = codes "id"; value = (Num (pos 6)) } ∷ []) (conditions.Equal (record { column = codes "m"; value = (Num (pos 2)) } ∷ [])))); side = None; answer = answers.Ok 1; missed = None; draw = None }
    ∷ record { actor = Copy; session = 3; asked = Call (requests.BeginSpan (codes "t") (record { low = (Closed ((Num (pos 1)) ∷ [])); high = (Closed ((Num (pos 2)) ∷ [])) }) 3); side = None; answer = answers.Keys (((Num (pos 2)) ∷ []) ∷ []) ((Num (pos 2)) ∷ []); missed = None; draw = None }
    ∷ record { actor = Apply; session = 4; asked = Call (requests.ReadLog 1 3 (codes "t" ∷ codes "_t_ghc" ∷ [])); side = None; answer = answers.Events (record { table = codes "t"; change = changes.Update ((Num (pos 1)) ∷ (Num (pos 2)) ∷ (Num (pos 5)) ∷ []) ((Num (pos 6)) ∷ (Num (pos 2)) ∷ (Num (pos 5)) ∷ []) } ∷ []) 2; missed = None; draw = None }
    ∷ record { actor = (Client 1); session = 2; asked = Call (requests.Do (statements.Update (codes "t") (record { column = codes "m"; value = (Num (pos 3)) } ∷ []) (conditions.Equal (record { column = codes "id"; value = (Num (pos 6)) } ∷ [])))); side = None; answer = answers.Refused 1062 None; missed = None; draw = None }
    ∷ record { actor = Apply; session = 4; asked = Call requests.Begin; side = None; answer = answers.Ok 0; missed = None; draw = None }
    ∷ record { actor = Copy; session = 3; asked = Call (requests.CopyRow (codes "t") (codes "_t_gho") map_3012 ((Num (pos 2)) ∷ [])); side = None; answer = answers.Ok 1; missed = None; draw = None }
    ∷ record { actor = Copy; session = 3; asked = Call requests.Commit; side = None; answer = answers.Ok 0; missed = None; draw = None }
    ∷ record { actor = Apply; session = 4; asked = Call (requests.Do (statements.Delete (codes "_t_gho") (conditions.Equal (record { column = codes "id"; value = (Num (pos 1)) } ∷ [])))); side = None; answer = answers.Ok 0; missed = None; draw = None }
    ∷ record { actor = Apply; session = 4; asked = Call (requests.Do (statements.Replace (codes "_t_gho") None ((Num (pos 6)) ∷ (Num (pos 2)) ∷ (Num (pos 5)) ∷ Null ∷ []) None)); side = None; answer = answers.Ok 1; missed = None; draw = None }
    ∷ record { actor = Apply; session = 4; asked = Call requests.Commit; side = None; answer = answers.Ok 0; missed = None; draw = None }
    ∷ record { actor = Lock; session = 5; asked = Call (requests.Create (record { name = codes "_t_del"; columns = (record { name = codes "id"; kind = Int 4 false; nullable = false; default = None; auto = false } ∷ []); uniques = (record { name = None; places = (0 ∷ []) } ∷ []); indexes = []; comment = codes "ghost-cut-over-sentry"; start = None })); side = None; answer = answers.Ok 0; missed = None; draw = None }
    ∷ record { actor = Lock; session = 5; asked = Call (requests.LockTables (codes "t" ∷ codes "_t_del" ∷ [])); side = None; answer = answers.Ok 0; missed = None; draw = None }
    ∷ record { actor = Insp; session = 1; asked = Call (requests.Do (statements.Insert (codes "_t_ghc") None ((Num (pos 1)) ∷ (Text (codes "cut-over")) ∷ (Text (codes "1")) ∷ []) None)); side = None; answer = answers.Ok 1; missed = None; draw = None }
    ∷ record { actor = Apply; session = 4; asked = Call (requests.ReadLog 2 3 (codes "t" ∷ codes "_t_ghc" ∷ [])); side = None; answer = answers.Events (record { table = codes "_t_ghc"; change = changes.Write ((Num (pos 1)) ∷ (Text (codes "cut-over")) ∷ (Text (codes "1")) ∷ []) } ∷ []) 5; missed = None; draw = None }
    ∷ record { actor = Ren; session = 6; asked = Call (requests.Rename (record { old = codes "t"; new = codes "_t_del" } ∷ record { old = codes "_t_gho"; new = codes "t" } ∷ [])); side = None; answer = answers.Waits 5; missed = None; draw = None }
    ∷ record { actor = Insp; session = 1; asked = Call requests.ShowWaiting; side = None; answer = answers.Waiting (record { session = 6; names = (codes "t" ∷ codes "_t_del" ∷ codes "_t_gho" ∷ []); by = 5 } ∷ []); missed = None; draw = None }
    ∷ record { actor = Ren; session = 6; asked = Poll; side = None; answer = answers.Waits 5; missed = None; draw = None }
    ∷ record { actor = Ren; session = 6; asked = Poll; side = None; answer = answers.Waits 5; missed = None; draw = None }
    ∷ record { actor = Ren; session = 6; asked = Poll; side = None; answer = answers.Waits 5; missed = None; draw = None }
    ∷ record { actor = Lock; session = 5; asked = Call (requests.Drop (codes "_t_del")); side = None; answer = answers.Ok 0; missed = None; draw = None }
    ∷ record { actor = Ren; session = 6; asked = Poll; side = None; answer = answers.Waits 5; missed = None; draw = None }
    ∷ record { actor = Ren; session = 6; asked = Poll; side = None; answer = answers.Waits 5; missed = None; draw = None }
    ∷ record { actor = Lock; session = 5; asked = Call requests.Unlock; side = None; answer = answers.Ok 0; missed = None; draw = None }
    ∷ record { actor = Ren; session = 6; asked = Poll; side = None; answer = answers.Ok 0; missed = None; draw = None }
    ∷ record { actor = Insp; session = 1; asked = Call requests.ShowTables; side = None; answer = answers.Tables (record { name = codes "_t_del"; comment = [] } ∷ record { name = codes "_t_ghc"; comment = [] } ∷ record { name = codes "t"; comment = [] } ∷ []); missed = None; draw = None }
    ∷ record { actor = Insp; session = 1; asked = Call (requests.Drop (codes "_t_ghc")); side = None; answer = answers.Ok 0; missed = None; draw = None }
    ∷ []

abbrev turns_3012 : List WorkerTurn
turns_3012 = (record { worker = 1; actor = Insp } ∷ record { worker = 0; actor = (Client 1) } ∷ record { worker = 1; actor = Insp } ∷ record { worker = 2; actor = Insp } ∷ record { worker = 0; actor = (Client 1) } ∷ record { worker = 0; actor = (Client 1) } ∷ record { worker = 2; actor = Insp } ∷ record { worker = 0; actor = (Client 1) } ∷ record { worker = 1; actor = Insp } ∷ record { worker = 2; actor = Copy } ∷ record { worker = 0; actor = (Client 1) } ∷ record { worker = 2; actor = Copy } ∷ record { worker = 0; actor = Apply } ∷ record { worker = 0; actor = (Client 1) } ∷ record { worker = 0; actor = Apply } ∷ record { worker = 1; actor = Copy } ∷ record { worker = 1; actor = Copy } ∷ record { worker = 0; actor = Apply } ∷ record { worker = 0; actor = Apply } ∷ record { worker = 0; actor = Apply } ∷ record { worker = 2; actor = Lock } ∷ record { worker = 1; actor = Lock } ∷ record { worker = 0; actor = Insp } ∷ record { worker = 2; actor = Apply } ∷ record { worker = 0; actor = Ren } ∷ record { worker = 0; actor = Insp } ∷ record { worker = 2; actor = Ren } ∷ record { worker = 2; actor = Ren } ∷ record { worker = 2; actor = Ren } ∷ record { worker = 0; actor = Lock } ∷ record { worker = 2; actor = Ren } ∷ record { worker = 2; actor = Ren } ∷ record { worker = 1; actor = Lock } ∷ record { worker = 0; actor = Ren } ∷ record { worker = 0; actor = Insp } ∷ record { worker = 0; actor = Insp } ∷ [])

abbrev reported_3012 : WorkersReported
reported_3012 =
    record {
      verdict = verdicts.Done;
      ended = (Some (1, 1) ∷ Some (1, 2) ∷ Some (1, 3) ∷ Some (1, 4) ∷ Some (1, 5) ∷ Some (1, 6) ∷ None ∷ []);
      left = (record { schema = record { name = codes "t"; columns = (record { name = codes "id"; kind = Int 4 false; nullable = false; default = None; auto = false } ∷ record { name = codes "m"; kind = Int 4 false; nullable = true; default = (Some Null); auto = false } ∷ record { name = codes "v"; kind = Int 4 false; nullable = true; default = (Some Null); auto = false } ∷ record { name = codes "b"; kind = Int 4 false; nullable = true; default = (Some Null); auto = false } ∷ []); uniques = (record { name = None; places = (0 ∷ []) } ∷ record { name = (Some (codes "u0")); places = (1 ∷ []) } ∷ []); indexes = []; comment = []; start = None }; rows = (((Num (pos 2)) ∷ (Num (pos 3)) ∷ (Num (pos 5)) ∷ Null ∷ []) ∷ ((Num (pos 6)) ∷ (Num (pos 2)) ∷ (Num (pos 5)) ∷ Null ∷ []) ∷ []) } ∷ []);
      replies = (((1, 1, (Some (replies.Ok 0))) ∷ (2, 1, (Some (replies.Ok 1))) ∷ (3, 1, (Some (replies.Ok 0))) ∷ (4, 1, (Some (replies.Ok 0))) ∷ (5, 1, (Some (replies.Ok 1))) ∷ (6, 1, (Some (replies.Error 1062))) ∷ [])) ∷ [];
    }

worked_3012 : IsWorkedBy 3 turns_3012 plan_3012 journal_3012 reported_3012
unfolding computing
worked_3012 = record { asks = refl; sessions = refl; answers = refl; sides = refl; struck = refl; verdict = refl; ended = refl; order = refl; left = refl; replies = refl }

-- Plan 3013
abbrev map_3013 : List MapColumn
map_3013 = (record { kind = Int 8 false; nullable = false; origin = from.Old 0 } ∷ record { kind = Int 4 false; nullable = false; origin = from.Added (Num (pos 7)) } ∷ [])

abbrev plan_3013 : PlanData
plan_3013 = record { table = codes "t"; alter = (clauses.Add (record { name = codes "b"; kind = Int 4 false; nullable = (Some false); default = (Some (Num (pos 7))); auto = false }) Unsaid ∷ []); tables = (record { schema = record { name = codes "t"; columns = (record { name = codes "id"; kind = Int 8 false; nullable = false; default = None; auto = false } ∷ []); uniques = (record { name = None; places = (0 ∷ []) } ∷ []); indexes = []; comment = []; start = None }; rows = (((Num (pos 1)) ∷ []) ∷ ((Num (pos 2)) ∷ []) ∷ ((Num (pos 3)) ∷ []) ∷ ((Num (pos 5)) ∷ []) ∷ []) } ∷ record { schema = record { name = codes "u"; columns = (record { name = codes "id"; kind = Int 4 false; nullable = false; default = None; auto = false } ∷ record { name = codes "m0"; kind = Int 4 false; nullable = true; default = (Some Null); auto = false } ∷ record { name = codes "m1"; kind = Int 4 false; nullable = false; default = None; auto = false } ∷ []); uniques = (record { name = None; places = (0 ∷ []) } ∷ record { name = (Some (codes "u0")); places = (1 ∷ []) } ∷ record { name = (Some (codes "u1")); places = (2 ∷ []) } ∷ []); indexes = []; comment = []; start = None }; rows = [] } ∷ []); clients = ((record { line = 1; word = (words.Do (statements.Insert (codes "t") (Some (codes "id" ∷ [])) ((Num (pos 1)) ∷ []) None)) } ∷ record { line = 2; word = (words.Do (statements.Update (codes "t") (record { column = codes "id"; value = (Num (pos 3)) } ∷ []) (conditions.Equal (record { column = codes "id"; value = (Num (pos 2)) } ∷ [])))) } ∷ record { line = 3; word = (words.Do (statements.Replace (codes "t") None ((Num (pos 5)) ∷ []) None)) } ∷ record { line = 4; word = (words.Do (statements.Replace (codes "t") (Some (codes "id" ∷ [])) ((Num (pos 2)) ∷ []) None)) } ∷ []) ∷ (record { line = 1; word = (words.Do (statements.Insert (codes "t") (Some (codes "id" ∷ [])) ((Text (codes "2")) ∷ []) None)) } ∷ []) ∷ []); operator = []; faults = (losses.Turn 26 Apply ∷ []); turns = (record { actor = (Client 1); times = 1 } ∷ record { actor = Ren; times = 1 } ∷ record { actor = Op; times = 1 } ∷ []); options = record { chunk_size = 2; dml_batch_size = 2; default_retries = 5; max_backlog = 1; drain_limit = 2000; client_wait = 5; tool_wait = 9; max_load = 0; turn_limit = 200000; notes = 0; note_every = 100; replica_step = 0; replica_pause = 1; max_lag = 10; resume = false; approve_renamed_columns = true; initially_drop_ghost_table = false; initially_drop_old_table = false; ok_to_drop_table = false; postpone = false; show_history = true; show_turns = true; show_tables = true; show_replies = true } }

abbrev journal_3013 : List Entry
journal_3013 =
    record { actor = Insp; session = 1; asked = Call requests.ShowTables; side = None; answer = answers.Tables (record { name = codes "t"; comment = [] } ∷ record { name = codes "u"; comment = [] } ∷ []); missed = None; draw = None }
    ∷ record { actor = (Client 1); session = 2; asked = Call (requests.Do (statements.Insert (codes "t") (Some (codes "id" ∷ [])) ((Num (pos 1)) ∷ []) None)); side = None; answer = answers.Refused 1062 None; missed = None; draw = None }
    ∷ record { actor = (Client 2); session = 3; asked = Call (requests.Do (statements.Insert (codes "t") (Some (codes "id" ∷ [])) ((Text (codes "2")) ∷ []) None)); side = None; answer = answers.Refused 1062 None; missed = None; draw = None }
    ∷ record { actor = Insp; session = 1; asked = Call (requests.Create (record { name = codes "_t_ghc"; columns = (record { name = codes "id"; kind = Int 8 false; nullable = false; default = None; auto = false } ∷ record { name = codes "hint"; kind = VarChar 64; nullable = false; default = None; auto = false } ∷ record { name = codes "value"; kind = VarChar 255; nullable = false; default = None; auto = false } ∷ []); uniques = (record { name = None; places = (0 ∷ []) } ∷ []); indexes = []; comment = []; start = None })); side = None; answer = answers.Ok 0; missed = None; draw = None }
    ∷ record { actor = (Client 1); session = 2; asked = Call (requests.Do (statements.Update (codes "t") (record { column = codes "id"; value = (Num (pos 3)) } ∷ []) (conditions.Equal (record { column = codes "id"; value = (Num (pos 2)) } ∷ [])))); side = None; answer = answers.Refused 1062 None; missed = None; draw = None }
    ∷ record { actor = (Client 1); session = 2; asked = Call (requests.Do (statements.Replace (codes "t") None ((Num (pos 5)) ∷ []) None)); side = None; answer = answers.Ok 2; missed = None; draw = None }
    ∷ record { actor = Insp; session = 1; asked = Call (requests.Create (record { name = codes "_t_gho"; columns = (record { name = codes "id"; kind = Int 8 false; nullable = false; default = None; auto = false } ∷ record { name = codes "b"; kind = Int 4 false; nullable = false; default = (Some (Num (pos 7))); auto = false } ∷ []); uniques = (record { name = None; places = (0 ∷ []) } ∷ []); indexes = []; comment = []; start = None })); side = None; answer = answers.Ok 0; missed = None; draw = None }
    ∷ record { actor = (Client 1); session = 2; asked = Call (requests.Do (statements.Replace (codes "t") (Some (codes "id" ∷ [])) ((Num (pos 2)) ∷ []) None)); side = None; answer = answers.Ok 2; missed = None; draw = None }
    ∷ record { actor = Insp; session = 1; asked = Call requests.LogEnd; side = None; answer = answers.At 4; missed = None; draw = None }
    ∷ record { actor = Insp; session = 1; asked = Call (requests.Ends (codes "t")); side = None; answer = answers.Ends (Some (record { least = ((Num (pos 1)) ∷ []); greatest = ((Num (pos 5)) ∷ []) })); missed = None; draw = None }
    ∷ record { actor = Copy; session = 4; asked = Call (requests.ChunkEnd (codes "t") (Closed ((Num (pos 1)) ∷ [])) ((Num (pos 5)) ∷ []) 2); side = None; answer = answers.End ((Num (pos 2)) ∷ []); missed = None; draw = None }
    ∷ record { actor = Copy; session = 4; asked = Call (requests.BeginSpan (codes "t") (record { low = (Closed ((Num (pos 1)) ∷ [])); high = (Closed ((Num (pos 2)) ∷ [])) }) 2); side = None; answer = answers.Keys (((Num (pos 1)) ∷ []) ∷ ((Num (pos 2)) ∷ []) ∷ []) ((Num (pos 2)) ∷ []); missed = None; draw = None }
    ∷ record { actor = Copy; session = 4; asked = Call (requests.CopyRow (codes "t") (codes "_t_gho") map_3013 ((Num (pos 1)) ∷ [])); side = None; answer = answers.Ok 1; missed = None; draw = None }
    ∷ record { actor = Copy; session = 4; asked = Call (requests.CopyRow (codes "t") (codes "_t_gho") map_3013 ((Num (pos 2)) ∷ [])); side = None; answer = answers.Ok 1; missed = None; draw = None }
    ∷ record { actor = Copy; session = 4; asked = Call requests.Commit; side = None; answer = answers.Ok 0; missed = None; draw = None }
    ∷ record { actor = Copy; session = 4; asked = Call (requests.ChunkEnd (codes "t") (Open ((Num (pos 2)) ∷ [])) ((Num (pos 5)) ∷ []) 2); side = None; answer = answers.End ((Num (pos 5)) ∷ []); missed = None; draw = None }
    ∷ record { actor = Copy; session = 4; asked = Call (requests.BeginSpan (codes "t") (record { low = (Open ((Num (pos 2)) ∷ [])); high = (Closed ((Num (pos 5)) ∷ [])) }) 2); side = None; answer = answers.Keys (((Num (pos 3)) ∷ []) ∷ ((Num (pos 5)) ∷ []) ∷ []) ((Num (pos 5)) ∷ []); missed = None; draw = None }
    ∷ record { actor = Copy; session = 4; asked = Call (requests.CopyRow (codes "t") (codes "_t_gho") map_3013 ((Num (pos 3)) ∷ [])); side = None; answer = answers.Ok 1; missed = None; draw = None }
    ∷ record { actor = Copy; session = 4; asked = Call (requests.CopyRow (codes "t") (codes "_t_gho") map_3013 ((Num (pos 5)) ∷ [])); side = None; answer = answers.Ok 1; missed = None; draw = None }
    ∷ record { actor = Copy; session = 4; asked = Call requests.Commit; side = None; answer = answers.Ok 0; missed = None; draw = None }
    ∷ record { actor = Lock; session = 5; asked = Call (requests.Create (record { name = codes "_t_del"; columns = (record { name = codes "id"; kind = Int 4 false; nullable = false; default = None; auto = false } ∷ []); uniques = (record { name = None; places = (0 ∷ []) } ∷ []); indexes = []; comment = codes "ghost-cut-over-sentry"; start = None })); side = None; answer = answers.Ok 0; missed = None; draw = None }
    ∷ record { actor = Lock; session = 5; asked = Call (requests.LockTables (codes "t" ∷ codes "_t_del" ∷ [])); side = None; answer = answers.Ok 0; missed = None; draw = None }
    ∷ record { actor = Insp; session = 1; asked = Call (requests.Do (statements.Insert (codes "_t_ghc") None ((Num (pos 1)) ∷ (Text (codes "cut-over")) ∷ (Text (codes "1")) ∷ []) None)); side = None; answer = answers.Ok 1; missed = None; draw = None }
    ∷ record { actor = Apply; session = 6; asked = Call (requests.ReadLog 4 2 (codes "t" ∷ codes "_t_ghc" ∷ [])); side = None; answer = answers.Events (record { table = codes "_t_ghc"; change = changes.Write ((Num (pos 1)) ∷ (Text (codes "cut-over")) ∷ (Text (codes "1")) ∷ []) } ∷ []) 9; missed = None; draw = None }
    ∷ record { actor = Ren; session = 7; asked = Call (requests.Rename (record { old = codes "t"; new = codes "_t_del" } ∷ record { old = codes "_t_gho"; new = codes "t" } ∷ [])); side = None; answer = answers.Waits 5; missed = None; draw = None }
    ∷ record { actor = Apply; session = 6; asked = Cut; side = None; answer = answers.Lost; missed = None; draw = None }
    ∷ record { actor = Ren; session = 7; asked = Poll; side = None; answer = answers.Waits 5; missed = None; draw = None }
    ∷ record { actor = Ren; session = 7; asked = Poll; side = None; answer = answers.Waits 5; missed = None; draw = None }
    ∷ record { actor = Ren; session = 7; asked = Poll; side = None; answer = answers.Waits 5; missed = None; draw = None }
    ∷ record { actor = Insp; session = 1; asked = Call requests.ShowWaiting; side = None; answer = answers.Waiting (record { session = 7; names = (codes "t" ∷ codes "_t_del" ∷ codes "_t_gho" ∷ []); by = 5 } ∷ []); missed = None; draw = None }
    ∷ record { actor = Ren; session = 7; asked = Poll; side = None; answer = answers.Waits 5; missed = None; draw = None }
    ∷ record { actor = Ren; session = 7; asked = Poll; side = None; answer = answers.Waits 5; missed = None; draw = None }
    ∷ record { actor = Lock; session = 5; asked = Call (requests.Drop (codes "_t_del")); side = None; answer = answers.Ok 0; missed = None; draw = None }
    ∷ record { actor = Lock; session = 5; asked = Call requests.Unlock; side = None; answer = answers.Ok 0; missed = None; draw = None }
    ∷ record { actor = Ren; session = 7; asked = Poll; side = None; answer = answers.Ok 0; missed = None; draw = None }
    ∷ record { actor = Insp; session = 1; asked = Call requests.ShowTables; side = None; answer = answers.Tables (record { name = codes "_t_del"; comment = [] } ∷ record { name = codes "_t_ghc"; comment = [] } ∷ record { name = codes "t"; comment = [] } ∷ record { name = codes "u"; comment = [] } ∷ []); missed = None; draw = None }
    ∷ record { actor = Insp; session = 1; asked = Call (requests.Drop (codes "_t_ghc")); side = None; answer = answers.Ok 0; missed = None; draw = None }
    ∷ []

abbrev turns_3013 : List WorkerTurn
turns_3013 = (record { worker = 1; actor = Insp } ∷ record { worker = 0; actor = (Client 1) } ∷ record { worker = 1; actor = (Client 2) } ∷ record { worker = 2; actor = Insp } ∷ record { worker = 0; actor = (Client 1) } ∷ record { worker = 0; actor = (Client 1) } ∷ record { worker = 2; actor = Insp } ∷ record { worker = 0; actor = (Client 1) } ∷ record { worker = 1; actor = Insp } ∷ record { worker = 2; actor = Insp } ∷ record { worker = 0; actor = Copy } ∷ record { worker = 2; actor = Copy } ∷ record { worker = 0; actor = Copy } ∷ record { worker = 0; actor = Copy } ∷ record { worker = 0; actor = Copy } ∷ record { worker = 1; actor = Copy } ∷ record { worker = 1; actor = Copy } ∷ record { worker = 0; actor = Copy } ∷ record { worker = 0; actor = Copy } ∷ record { worker = 0; actor = Copy } ∷ record { worker = 2; actor = Lock } ∷ record { worker = 1; actor = Lock } ∷ record { worker = 0; actor = Insp } ∷ record { worker = 2; actor = Apply } ∷ record { worker = 0; actor = Ren } ∷ record { worker = 0; actor = Apply } ∷ record { worker = 2; actor = Ren } ∷ record { worker = 2; actor = Ren } ∷ record { worker = 2; actor = Ren } ∷ record { worker = 0; actor = Insp } ∷ record { worker = 2; actor = Ren } ∷ record { worker = 2; actor = Ren } ∷ record { worker = 1; actor = Lock } ∷ record { worker = 0; actor = Lock } ∷ record { worker = 0; actor = Ren } ∷ record { worker = 0; actor = Insp } ∷ record { worker = 2; actor = Insp } ∷ [])

abbrev reported_3013 : WorkersReported
reported_3013 =
    record {
      verdict = verdicts.Done;
      ended = (Some (1, 1) ∷ Some (2, 1) ∷ Some (1, 2) ∷ Some (1, 3) ∷ Some (1, 4) ∷ None ∷ []);
      left = (record { schema = record { name = codes "t"; columns = (record { name = codes "id"; kind = Int 8 false; nullable = false; default = None; auto = false } ∷ record { name = codes "b"; kind = Int 4 false; nullable = false; default = (Some (Num (pos 7))); auto = false } ∷ []); uniques = (record { name = None; places = (0 ∷ []) } ∷ []); indexes = []; comment = []; start = None }; rows = (((Num (pos 1)) ∷ (Num (pos 7)) ∷ []) ∷ ((Num (pos 2)) ∷ (Num (pos 7)) ∷ []) ∷ ((Num (pos 3)) ∷ (Num (pos 7)) ∷ []) ∷ ((Num (pos 5)) ∷ (Num (pos 7)) ∷ []) ∷ []) } ∷ record { schema = record { name = codes "u"; columns = (record { name = codes "id"; kind = Int 4 false; nullable = false; default = None; auto = false } ∷ record { name = codes "m0"; kind = Int 4 false; nullable = true; default = (Some Null); auto = false } ∷ record { name = codes "m1"; kind = Int 4 false; nullable = false; default = None; auto = false } ∷ []); uniques = (record { name = None; places = (0 ∷ []) } ∷ record { name = (Some (codes "u0")); places = (1 ∷ []) } ∷ record { name = (Some (codes "u1")); places = (2 ∷ []) } ∷ []); indexes = []; comment = []; start = None }; rows = [] } ∷ []);
      replies = (((1, 1, (Some (replies.Error 1062))) ∷ (2, 1, (Some (replies.Error 1062))) ∷ (3, 1, (Some (replies.Ok 2))) ∷ (4, 1, (Some (replies.Ok 2))) ∷ [])) ∷ (((1, 1, (Some (replies.Error 1062))) ∷ [])) ∷ [];
    }

worked_3013 : IsWorkedBy 3 turns_3013 plan_3013 journal_3013 reported_3013
unfolding computing
worked_3013 = record { asks = refl; sessions = refl; answers = refl; sides = refl; struck = refl; verdict = refl; ended = refl; order = refl; left = refl; replies = refl }

-- Plan 3014
abbrev map_3014 : List MapColumn
map_3014 = (record { kind = Int 4 false; nullable = false; origin = from.Old 0 } ∷ record { kind = Int 4 false; nullable = true; origin = from.Old 1 } ∷ record { kind = Int 4 false; nullable = true; origin = from.Old 2 } ∷ record { kind = Int 4 false; nullable = true; origin = from.Added Null } ∷ [])

abbrev plan_3014 : PlanData
plan_3014 = record { table = codes "t"; alter = (clauses.Add (record { name = codes "b"; kind = Int 4 false; nullable = None; default = None; auto = false }) Unsaid ∷ []); tables = (record { schema = record { name = codes "t"; columns = (record { name = codes "id"; kind = Int 4 false; nullable = false; default = None; auto = false } ∷ record { name = codes "m"; kind = Int 4 false; nullable = true; default = (Some Null); auto = false } ∷ record { name = codes "v"; kind = Int 4 false; nullable = true; default = (Some Null); auto = false } ∷ []); uniques = (record { name = None; places = (0 ∷ []) } ∷ record { name = (Some (codes "u0")); places = (1 ∷ []) } ∷ []); indexes = []; comment = []; start = None }; rows = (((Num (pos 2)) ∷ (Num (pos 1)) ∷ (Num (pos 5)) ∷ []) ∷ ((Num (pos 3)) ∷ (Num (pos 2)) ∷ (Num (pos 5)) ∷ []) ∷ []) } ∷ []); clients = ((record { line = 1; word = (words.Do (statements.Update (codes "t") (record { column = codes "v"; value = Null } ∷ []) (conditions.Equal (record { column = codes "id"; value = (Num (pos 2)) } ∷ [])))) } ∷ record { line = 2; word = (words.Do (statements.Replace (codes "t") None ((Num (pos 2)) ∷ (Num (pos 1)) ∷ Null ∷ []) None)) } ∷ record { line = 3; word = (words.Do (statements.Update (codes "t") (record { column = codes "id"; value = (Num (pos 3)) } ∷ []) (conditions.Equal (record { column = codes "m"; value = (Num (pos 1)) } ∷ [])))) } ∷ record { line = 4; word = (words.Do (statements.Update (codes "t") (record { column = codes "m"; value = (Num (pos 1)) } ∷ []) (conditions.Equal (record { column = codes "id"; value = (Num (pos 2)) } ∷ [])))) } ∷ record { line = 5; word = (words.Do (statements.Insert (codes "t") None ((Num (pos 2)) ∷ (Num (pos 1)) ∷ Null ∷ []) None)) } ∷ record { line = 6; word = (words.Do (statements.Update (codes "t") (record { column = codes "v"; value = Null } ∷ []) (conditions.Equal (record { column = codes "id"; value = (Num (pos 4)) } ∷ [])))) } ∷ []) ∷ []); operator = []; faults = []; turns = (record { actor = Insp; times = 4 } ∷ record { actor = Insp; times = 1 } ∷ record { actor = Copy; times = 4 } ∷ record { actor = (Client 1); times = 6 } ∷ record { actor = Copy; times = 6 } ∷ record { actor = (Client 1); times = 4 } ∷ record { actor = Apply; times = 3 } ∷ record { actor = (Client 1); times = 2 } ∷ record { actor = (Client 1); times = 6 } ∷ record { actor = Copy; times = 4 } ∷ record { actor = (Client 1); times = 4 } ∷ record { actor = Apply; times = 1 } ∷ record { actor = Copy; times = 2 } ∷ record { actor = (Client 1); times = 1 } ∷ record { actor = (Client 1); times = 6 } ∷ record { actor = (Client 1); times = 1 } ∷ record { actor = Copy; times = 3 } ∷ record { actor = (Client 1); times = 1 } ∷ record { actor = Copy; times = 1 } ∷ record { actor = (Client 1); times = 9 } ∷ record { actor = Copy; times = 6 } ∷ record { actor = Apply; times = 9 } ∷ record { actor = (Client 1); times = 6 } ∷ []); options = record { chunk_size = 2; dml_batch_size = 9; default_retries = 60; max_backlog = 100; drain_limit = 2000; client_wait = 5; tool_wait = 9; max_load = 64; turn_limit = 200000; notes = 0; note_every = 100; replica_step = 0; replica_pause = 1; max_lag = 10; resume = false; approve_renamed_columns = false; initially_drop_ghost_table = false; initially_drop_old_table = false; ok_to_drop_table = false; postpone = false; show_history = true; show_turns = true; show_tables = true; show_replies = true } }

abbrev journal_3014 : List Entry
journal_3014 =
    record { actor = Insp; session = 1; asked = Call requests.ShowTables; side = None; answer = answers.Tables (record { name = codes "t"; comment = [] } ∷ []); missed = None; draw = None }
    ∷ record { actor = (Client 1); session = 2; asked = Call (requests.Do (statements.Update (codes "t") (record { column = codes "v"; value = Null } ∷ []) (conditions.Equal (record { column = codes "id"; value = (Num (pos 2)) } ∷ [])))); side = None; answer = answers.Ok 1; missed = None; draw = None }
    ∷ record { actor = Insp; session = 1; asked = Call (requests.Create (record { name = codes "_t_ghc"; columns = (record { name = codes "id"; kind = Int 8 false; nullable = false; default = None; auto = false } ∷ record { name = codes "hint"; kind = VarChar 64; nullable = false; default = None; auto = false } ∷ record { name = codes "value"; kind = VarChar 255; nullable = false; default = None; auto = false } ∷ []); uniques = (record { name = None; places = (0 ∷ []) } ∷ []); indexes = []; comment = []; start = None })); side = None; answer = answers.Ok 0; missed = None; draw = None }
    ∷ record { actor = Insp; session = 1; asked = Call (requests.Create (record { name = codes "_t_gho"; columns = (record { name = codes "id"; kind = Int 4 false; nullable = false; default = None; auto = false } ∷ record { name = codes "m"; kind = Int 4 false; nullable = true; default = (Some Null); auto = false } ∷ record { name = codes "v"; kind = Int 4 false; nullable = true; default = (Some Null); auto = false } ∷ record { name = codes "b"; kind = Int 4 false; nullable = true; default = (Some Null); auto = false } ∷ []); uniques = (record { name = None; places = (0 ∷ []) } ∷ record { name = (Some (codes "u0")); places = (1 ∷ []) } ∷ []); indexes = []; comment = []; start = None })); side = None; answer = answers.Ok 0; missed = None; draw = None }
    ∷ record { actor = (Client 1); session = 2; asked = Call (requests.Do (statements.Replace (codes "t") None ((Num (pos 2)) ∷ (Num (pos 1)) ∷ Null ∷ []) None)); side = None; answer = answers.Ok 2; missed = None; draw = None }
    ∷ record { actor = (Client 1); session = 2; asked = Call (requests.Do (statements.Update (codes "t") (record { column = codes "id"; value = (Num (pos 3)) } ∷ []) (conditions.Equal (record { column = codes "m"; value = (Num (pos 1)) } ∷ [])))); side = None; answer = answers.Refused 1062 None; missed = None; draw = None }
    ∷ record { actor = Insp; session = 1; asked = Call requests.LogEnd; side = None; answer = answers.At 3; missed = None; draw = None }
    ∷ record { actor = (Client 1); session = 2; asked = Call (requests.Do (statements.Update (codes "t") (record { column = codes "m"; value = (Num (pos 1)) } ∷ []) (conditions.Equal (record { column = codes "id"; value = (Num (pos 2)) } ∷ [])))); side = None; answer = answers.Ok 0; missed = None; draw = None }
    ∷ record { actor = Insp; session = 1; asked = Call (requests.Ends (codes "t")); side = None; answer = answers.Ends (Some (record { least = ((Num (pos 2)) ∷ []); greatest = ((Num (pos 3)) ∷ []) })); missed = None; draw = None }
    ∷ record { actor = Copy; session = 3; asked = Call (requests.ChunkEnd (codes "t") (Closed ((Num (pos 2)) ∷ [])) ((Num (pos 3)) ∷ []) 2); side = None; answer = answers.End ((Num (pos 3)) ∷ []); missed = None; draw = None }
    ∷ record { actor = (Client 1); session = 2; asked = Call (requests.Do (statements.Insert (codes "t") None ((Num (pos 2)) ∷ (Num (pos 1)) ∷ Null ∷ []) None)); side = None; answer = answers.Refused 1062 None; missed = None; draw = None }
    ∷ record { actor = Copy; session = 3; asked = Call (requests.BeginSpan (codes "t") (record { low = (Closed ((Num (pos 2)) ∷ [])); high = (Closed ((Num (pos 3)) ∷ [])) }) 2); side = None; answer = answers.Keys (((Num (pos 2)) ∷ []) ∷ ((Num (pos 3)) ∷ []) ∷ []) ((Num (pos 3)) ∷ []); missed = None; draw = None }
    ∷ record { actor = (Client 1); session = 2; asked = Call (requests.Do (statements.Update (codes "t") (record { column = codes "v"; value = Null } ∷ []) (conditions.Equal (record { column = codes "id"; value = (Num (pos 4)) } ∷ [])))); side = None; answer = answers.Ok 0; missed = None; draw = None }
    ∷ record { actor = Copy; session = 3; asked = Call (requests.CopyRow (codes "t") (codes "_t_gho") map_3014 ((Num (pos 2)) ∷ [])); side = None; answer = answers.Ok 1; missed = None; draw = None }
    ∷ record { actor = Copy; session = 3; asked = Call (requests.CopyRow (codes "t") (codes "_t_gho") map_3014 ((Num (pos 3)) ∷ [])); side = None; answer = answers.Ok 1; missed = None; draw = None }
    ∷ record { actor = Copy; session = 3; asked = Call requests.Commit; side = None; answer = answers.Ok 0; missed = None; draw = None }
    ∷ record { actor = Lock; session = 4; asked = Call (requests.Create (record { name = codes "_t_del"; columns = (record { name = codes "id"; kind = Int 4 false; nullable = false; default = None; auto = false } ∷ []); uniques = (record { name = None; places = (0 ∷ []) } ∷ []); indexes = []; comment = codes "ghost-cut-over-sentry"; start = None })); side = None; answer = answers.Ok 0; missed = None; draw = None }
    ∷ record { actor = Lock; session = 4; asked = Call (requests.LockTables (codes "t" ∷ codes "_t_del" ∷ [])); side = None; answer = answers.Ok 0; missed = None; draw = None }
    ∷ record { actor = Insp; session = 1; asked = Call (requests.Do (statements.Insert (codes "_t_ghc") None ((Num (pos 1)) ∷ (Text (codes "cut-over")) ∷ (Text (codes "1")) ∷ []) None)); side = None; answer = answers.Ok 1; missed = None; draw = None }
    ∷ record { actor = Apply; session = 5; asked = Call (requests.ReadLog 3 9 (codes "t" ∷ codes "_t_ghc" ∷ [])); side = None; answer = answers.Events (record { table = codes "_t_ghc"; change = changes.Write ((Num (pos 1)) ∷ (Text (codes "cut-over")) ∷ (Text (codes "1")) ∷ []) } ∷ []) 6; missed = None; draw = None }
    ∷ record { actor = Ren; session = 6; asked = Call (requests.Rename (record { old = codes "t"; new = codes "_t_del" } ∷ record { old = codes "_t_gho"; new = codes "t" } ∷ [])); side = None; answer = answers.Waits 4; missed = None; draw = None }
    ∷ record { actor = Insp; session = 1; asked = Call requests.ShowWaiting; side = None; answer = answers.Waiting (record { session = 6; names = (codes "t" ∷ codes "_t_del" ∷ codes "_t_gho" ∷ []); by = 4 } ∷ []); missed = None; draw = None }
    ∷ record { actor = Lock; session = 4; asked = Call (requests.Drop (codes "_t_del")); side = None; answer = answers.Ok 0; missed = None; draw = None }
    ∷ record { actor = Ren; session = 6; asked = Poll; side = None; answer = answers.Waits 4; missed = None; draw = None }
    ∷ record { actor = Lock; session = 4; asked = Call requests.Unlock; side = None; answer = answers.Ok 0; missed = None; draw = None }
    ∷ record { actor = Ren; session = 6; asked = Poll; side = None; answer = answers.Ok 0; missed = None; draw = None }
    ∷ record { actor = Insp; session = 1; asked = Call requests.ShowTables; side = None; answer = answers.Tables (record { name = codes "_t_del"; comment = [] } ∷ record { name = codes "_t_ghc"; comment = [] } ∷ record { name = codes "t"; comment = [] } ∷ []); missed = None; draw = None }
    ∷ record { actor = Insp; session = 1; asked = Call (requests.Drop (codes "_t_ghc")); side = None; answer = answers.Ok 0; missed = None; draw = None }
    ∷ []

abbrev turns_3014 : List WorkerTurn
turns_3014 = (record { worker = 1; actor = Insp } ∷ record { worker = 0; actor = (Client 1) } ∷ record { worker = 1; actor = Insp } ∷ record { worker = 2; actor = Insp } ∷ record { worker = 0; actor = (Client 1) } ∷ record { worker = 0; actor = (Client 1) } ∷ record { worker = 2; actor = Insp } ∷ record { worker = 0; actor = (Client 1) } ∷ record { worker = 1; actor = Insp } ∷ record { worker = 2; actor = Copy } ∷ record { worker = 0; actor = (Client 1) } ∷ record { worker = 2; actor = Copy } ∷ record { worker = 0; actor = (Client 1) } ∷ record { worker = 0; actor = Copy } ∷ record { worker = 0; actor = Copy } ∷ record { worker = 1; actor = Copy } ∷ record { worker = 1; actor = Lock } ∷ record { worker = 0; actor = Lock } ∷ record { worker = 0; actor = Insp } ∷ record { worker = 0; actor = Apply } ∷ record { worker = 2; actor = Ren } ∷ record { worker = 1; actor = Insp } ∷ record { worker = 0; actor = Lock } ∷ record { worker = 2; actor = Ren } ∷ record { worker = 0; actor = Lock } ∷ record { worker = 0; actor = Ren } ∷ record { worker = 2; actor = Insp } ∷ record { worker = 2; actor = Insp } ∷ [])

abbrev reported_3014 : WorkersReported
reported_3014 =
    record {
      verdict = verdicts.Done;
      ended = (Some (1, 1) ∷ Some (1, 2) ∷ Some (1, 3) ∷ Some (1, 4) ∷ Some (1, 5) ∷ Some (1, 6) ∷ None ∷ []);
      left = (record { schema = record { name = codes "t"; columns = (record { name = codes "id"; kind = Int 4 false; nullable = false; default = None; auto = false } ∷ record { name = codes "m"; kind = Int 4 false; nullable = true; default = (Some Null); auto = false } ∷ record { name = codes "v"; kind = Int 4 false; nullable = true; default = (Some Null); auto = false } ∷ record { name = codes "b"; kind = Int 4 false; nullable = true; default = (Some Null); auto = false } ∷ []); uniques = (record { name = None; places = (0 ∷ []) } ∷ record { name = (Some (codes "u0")); places = (1 ∷ []) } ∷ []); indexes = []; comment = []; start = None }; rows = (((Num (pos 2)) ∷ (Num (pos 1)) ∷ Null ∷ Null ∷ []) ∷ ((Num (pos 3)) ∷ (Num (pos 2)) ∷ (Num (pos 5)) ∷ Null ∷ []) ∷ []) } ∷ []);
      replies = (((1, 1, (Some (replies.Ok 1))) ∷ (2, 1, (Some (replies.Ok 2))) ∷ (3, 1, (Some (replies.Error 1062))) ∷ (4, 1, (Some (replies.Ok 0))) ∷ (5, 1, (Some (replies.Error 1062))) ∷ (6, 1, (Some (replies.Ok 0))) ∷ [])) ∷ [];
    }

worked_3014 : IsWorkedBy 3 turns_3014 plan_3014 journal_3014 reported_3014
unfolding computing
worked_3014 = record { asks = refl; sessions = refl; answers = refl; sides = refl; struck = refl; verdict = refl; ended = refl; order = refl; left = refl; replies = refl }
