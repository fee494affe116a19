-- Random plans, replayed; their journals are those of an independent model.
use Rattle.std.proofs.Common.{pos, true, false, List, [], ◌∷◌, ◌++◌, Some, None, refl}
use Rattle.std.specs.Prelude.{codes, replicate}
use Rattle.base_values.specs.declared.value.Value.TheVariants.{Null, Num, Text, Blob}
use Rattle.base_values.specs.declared.kind.Kind.TheVariants.{Int, VarChar}
use Rattle.base_values.specs.declared.span.Bound.TheVariants.{Open, Closed}
use Rattle.base_values.specs.declared.row_conversion.clause.Clause.TheVariants as clauses
use Rattle.base_values.specs.declared.row_conversion.clause.ColumnPosition.TheVariants.{Unsaid}
use Rattle.base_values.specs.declared.row_conversion.map.MapColumn.{MapColumn}
use Rattle.base_values.specs.declared.row_conversion.map.Origin.TheVariants as from
use Rattle.base_values.specs.declared.event.Change.TheVariants as changes
use Rattle.base_script.specs.declared.actor.Actor.TheVariants.{Op, Insp, Copy, Apply, Lock, Ren, Client}
use Rattle.base_script.specs.declared.actor.Side.TheVariants as sides_at
use Rattle.base_script.specs.declared.loss.Loss.TheVariants as losses
use Rattle.base_script.specs.declared.operator.OperatorWord.TheVariants as commanded
use Rattle.base_script.specs.declared.script.ScriptWord.TheVariants as words
use Rattle.base_script.specs.declared.statement.Statement.TheVariants as statements
use Rattle.base_script.specs.declared.statement.Condition.TheVariants as conditions
use Rattle.base_script.specs.declared.statement.Shown.TheVariants as shown
use Rattle.base_script.specs.declared.statement.Sign.TheVariants as signs
use Rattle.server_model.specs.declared.transaction.Reply.TheVariants as replies
use Rattle.server_model.specs.declared.request.Request.TheVariants as requests
use Rattle.server_model.specs.declared.answer.Answer.TheVariants as answers
use Rattle.server_model.specs.declared.entry.Entry.{Entry}
use Rattle.server_model.specs.declared.entry.Asked.TheVariants.{Call, Poll, Command, Cut}
use Rattle.server_model.specs.declared.outcome.Task.TheVariants as tasks
use Rattle.server_model.specs.declared.outcome.Cause.TheVariants as causes
use Rattle.server_model.specs.declared.outcome.Verdict.TheVariants as verdicts
use Rattle.plan_data.specs.PlanData.{PlanData}
use Rattle.test_worked.proofs.Computing.{computing, WorkedFacts, IsWorked}

-- Plan 236
abbrev map_236 : List MapColumn
map_236 = (record { kind = Int 2 true; nullable = false; origin = from.Old 0 } ∷ record { kind = VarChar 4; nullable = false; origin = from.Old 1 } ∷ record { kind = Int 4 false; nullable = false; origin = from.Old 2 } ∷ [])

abbrev plan_236 : PlanData
plan_236 = record { table = codes "t"; alter = (clauses.Change (codes "a") (record { name = codes "a"; kind = Int 2 true; nullable = (Some false); default = None; auto = false }) Unsaid ∷ []); tables = (record { schema = record { name = codes "t"; columns = (record { name = codes "a"; kind = Int 4 false; nullable = false; default = None; auto = false } ∷ record { name = codes "c"; kind = VarChar 4; nullable = false; default = None; auto = false } ∷ record { name = codes "m0"; kind = Int 4 false; nullable = false; default = None; auto = false } ∷ []); uniques = (record { name = None; places = (0 ∷ 1 ∷ []) } ∷ record { name = (Some (codes "u0")); places = (2 ∷ []) } ∷ []); indexes = []; comment = []; start = None }; rows = [] } ∷ []); clients = ((record { line = 1; word = (words.Do (statements.Insert (codes "t") None ((Num (pos 5)) ∷ (Text (codes "g")) ∷ (Num (pos 6)) ∷ []) None)) } ∷ record { line = 2; word = words.Begin } ∷ record { line = 3; word = (words.Do (statements.Select (codes "t") shown.Count (conditions.Equal (record { column = codes "a"; value = (Num (pos 6)) } ∷ record { column = codes "c"; value = (Num (pos 6)) } ∷ [])))) } ∷ record { line = 4; word = words.Commit } ∷ []) ∷ (record { line = 1; word = (words.Do (statements.Update (codes "t") (record { column = codes "a"; value = (Num (pos 4)) } ∷ record { column = codes "m0"; value = (Num (pos 5)) } ∷ []) (conditions.Equal (record { column = codes "a"; value = (Num (pos 6)) } ∷ record { column = codes "c"; value = (Text (codes "c")) } ∷ [])))) } ∷ []) ∷ []); operator = []; faults = (losses.Nth Insp 3 sides_at.After ∷ losses.Turn 55 Apply ∷ []); turns = (record { actor = Lock; times = 1 } ∷ record { actor = Copy; times = 1 } ∷ record { actor = (Client 2); times = 5 } ∷ record { actor = Apply; times = 3 } ∷ record { actor = Apply; times = 5 } ∷ record { actor = Ren; times = 1 } ∷ record { actor = Op; times = 1 } ∷ record { actor = Lock; times = 1 } ∷ record { actor = Lock; times = 1 } ∷ record { actor = Lock; times = 3 } ∷ record { actor = Apply; times = 1 } ∷ record { actor = Lock; times = 1 } ∷ record { actor = Insp; times = 1 } ∷ record { actor = Insp; times = 5 } ∷ record { actor = Op; times = 1 } ∷ record { actor = Apply; times = 1 } ∷ record { actor = Ren; times = 2 } ∷ record { actor = Ren; times = 5 } ∷ record { actor = Op; times = 3 } ∷ record { actor = Ren; times = 1 } ∷ record { actor = (Client 2); times = 1 } ∷ record { actor = Copy; times = 1 } ∷ record { actor = Ren; times = 1 } ∷ record { actor = Copy; times = 1 } ∷ record { actor = Apply; times = 3 } ∷ record { actor = Ren; times = 1 } ∷ record { actor = Copy; times = 1 } ∷ record { actor = Ren; times = 1 } ∷ record { actor = Ren; times = 1 } ∷ record { actor = Apply; times = 1 } ∷ record { actor = Insp; times = 1 } ∷ record { actor = Op; times = 5 } ∷ record { actor = (Client 2); times = 1 } ∷ record { actor = Insp; times = 2 } ∷ record { actor = (Client 2); times = 1 } ∷ record { actor = Op; times = 1 } ∷ []); options = record { chunk_size = 1; dml_batch_size = 10; default_retries = 1; max_backlog = 0; drain_limit = 3; client_wait = 1; tool_wait = 2; max_load = 64; turn_limit = 200000; notes = 0; note_every = 100; replica_step = 0; replica_pause = 1; max_lag = 10; resume = false; approve_renamed_columns = true; initially_drop_ghost_table = false; initially_drop_old_table = false; ok_to_drop_table = false; postpone = false; show_history = true; show_turns = true; show_tables = true; show_replies = true } }

abbrev journal_236 : List Entry
journal_236 =
    record { actor = (Client 2); session = 1; asked = Call (requests.Do (statements.Update (codes "t") (record { column = codes "a"; value = (Num (pos 4)) } ∷ record { column = codes "m0"; value = (Num (pos 5)) } ∷ []) (conditions.Equal (record { column = codes "a"; value = (Num (pos 6)) } ∷ record { column = codes "c"; value = (Text (codes "c")) } ∷ [])))); side = None; answer = answers.Ok 0; missed = None; draw = None }
    ∷ record { actor = Insp; session = 2; asked = Call requests.ShowTables; side = None; answer = answers.Tables (record { name = codes "t"; comment = [] } ∷ []); missed = None; draw = None }
    ∷ record { actor = Insp; session = 2; asked = Call (requests.Create (record { name = codes "_t_ghc"; columns = (record { name = codes "id"; kind = Int 8 false; nullable = false; default = None; auto = false } ∷ record { name = codes "hint"; kind = VarChar 64; nullable = false; default = None; auto = false } ∷ record { name = codes "value"; kind = VarChar 255; nullable = false; default = None; auto = false } ∷ []); uniques = (record { name = None; places = (0 ∷ []) } ∷ []); indexes = []; comment = []; start = None })); side = None; answer = answers.Ok 0; missed = None; draw = None }
    ∷ record { actor = Insp; session = 2; asked = Call (requests.Create (record { name = codes "_t_gho"; columns = (record { name = codes "a"; kind = Int 2 true; nullable = false; default = None; auto = false } ∷ record { name = codes "c"; kind = VarChar 4; nullable = false; default = None; auto = false } ∷ record { name = codes "m0"; kind = Int 4 false; nullable = false; default = None; auto = false } ∷ []); uniques = (record { name = None; places = (0 ∷ 1 ∷ []) } ∷ record { name = (Some (codes "u0")); places = (2 ∷ []) } ∷ []); indexes = []; comment = []; start = None })); side = (Some sides_at.After); answer = answers.Lost; missed = (Some (answers.Ok 0)); draw = None }
    ∷ record { actor = (Client 1); session = 3; asked = Call (requests.Do (statements.Insert (codes "t") None ((Num (pos 5)) ∷ (Text (codes "g")) ∷ (Num (pos 6)) ∷ []) None)); side = None; answer = answers.Ok 1; missed = None; draw = None }
    ∷ record { actor = (Client 1); session = 3; asked = Call requests.Begin; side = None; answer = answers.Ok 0; missed = None; draw = None }
    ∷ record { actor = (Client 1); session = 3; asked = Call (requests.Do (statements.Select (codes "t") shown.Count (conditions.Equal (record { column = codes "a"; value = (Num (pos 6)) } ∷ record { column = codes "c"; value = (Num (pos 6)) } ∷ [])))); side = None; answer = answers.Rows (((Num (pos 0)) ∷ []) ∷ []); missed = None; draw = None }
    ∷ record { actor = (Client 1); session = 3; asked = Call requests.Commit; side = None; answer = answers.Ok 0; missed = None; draw = None }
    ∷ []

abbrev reported_236 : WorkedFacts
reported_236 =
    record {
      verdict = verdicts.Reverted (causes.Spent tasks.Setup (4 ∷ []));
      ended = (Some (2, 1) ∷ Some (1, 1) ∷ Some (1, 2) ∷ []);
      left = (record { schema = record { name = codes "t"; columns = (record { name = codes "a"; kind = Int 4 false; nullable = false; default = None; auto = false } ∷ record { name = codes "c"; kind = VarChar 4; nullable = false; default = None; auto = false } ∷ record { name = codes "m0"; kind = Int 4 false; nullable = false; default = None; auto = false } ∷ []); uniques = (record { name = None; places = (0 ∷ 1 ∷ []) } ∷ record { name = (Some (codes "u0")); places = (2 ∷ []) } ∷ []); indexes = []; comment = []; start = None }; rows = (((Num (pos 5)) ∷ (Text (codes "g")) ∷ (Num (pos 6)) ∷ []) ∷ []) } ∷ []);
      alone = (((replies.Ok 0) ∷ []) ∷ ((replies.Ok 1) ∷ []) ∷ ((replies.Ok 0) ∷ (replies.Rows (((Num (pos 0)) ∷ []) ∷ [])) ∷ (replies.Ok 0) ∷ []) ∷ []);
      over = replicate 3 false ++ replicate 5 true;
      bound = 8088;
      replies = (((1, 1, (Some (replies.Ok 1))) ∷ (2, 1, (Some (replies.Ok 0))) ∷ (2, 2, (Some (replies.Rows (((Num (pos 0)) ∷ []) ∷ [])))) ∷ (2, 3, (Some (replies.Ok 0))) ∷ [])) ∷ (((1, 1, (Some (replies.Ok 0))) ∷ [])) ∷ [];
    }

worked_236 : IsWorked plan_236 journal_236 reported_236
unfolding computing
worked_236 = record { asks = refl; sessions = refl; answers = refl; sides = refl; struck = refl; verdict = refl; ended = refl; order = refl; left = refl; serial = refl; alone = refl; over = refl; online = refl; bounded = refl; replies = refl }

-- Plan 256
abbrev map_256 : List MapColumn
map_256 = (record { kind = Int 4 false; nullable = false; origin = from.Old 0 } ∷ record { kind = VarChar 4; nullable = false; origin = from.Old 1 } ∷ record { kind = Int 8 false; nullable = false; origin = from.Old 2 } ∷ [])

abbrev plan_256 : PlanData
plan_256 = record { table = codes "t"; alter = (clauses.Change (codes "v") (record { name = codes "v"; kind = Int 8 false; nullable = (Some false); default = None; auto = false }) Unsaid ∷ []); tables = (record { schema = record { name = codes "t"; columns = (record { name = codes "a"; kind = Int 4 false; nullable = false; default = None; auto = false } ∷ record { name = codes "c"; kind = VarChar 4; nullable = false; default = None; auto = false } ∷ record { name = codes "v"; kind = Int 2 false; nullable = true; default = (Some Null); auto = false } ∷ []); uniques = (record { name = None; places = (1 ∷ 0 ∷ []) } ∷ []); indexes = []; comment = []; start = None }; rows = (((Num (pos 1)) ∷ (Text (codes "b")) ∷ (Num (pos 6)) ∷ []) ∷ ((Num (pos 7)) ∷ (Text (codes "d")) ∷ (Num (pos 2)) ∷ []) ∷ ((Num (pos 5)) ∷ (Text (codes "e")) ∷ Null ∷ []) ∷ []) } ∷ record { schema = record { name = codes "_t_del"; columns = (record { name = codes "id"; kind = Int 4 false; nullable = false; default = None; auto = false } ∷ []); uniques = (record { name = None; places = (0 ∷ []) } ∷ []); indexes = []; comment = codes "ghost-cut-over-sentry"; start = None }; rows = [] } ∷ []); clients = ([] ∷ (record { line = 1; word = (words.Do (statements.Update (codes "t") (record { column = codes "a"; value = (Num (pos 3)) } ∷ []) (conditions.Equal (record { column = codes "a"; value = (Num (pos 1)) } ∷ record { column = codes "c"; value = (Text (codes "g")) } ∷ [])))) } ∷ []) ∷ (record { line = 1; word = (words.Do (statements.Replace (codes "t") None ((Num (pos 2)) ∷ (Text (codes "g")) ∷ (Num (pos 1)) ∷ []) None)) } ∷ record { line = 2; word = (words.Do (statements.Update (codes "t") (record { column = codes "v"; value = (Num (pos 1)) } ∷ []) (conditions.Equal (record { column = codes "a"; value = (Num (pos 5)) } ∷ record { column = codes "c"; value = (Num (pos 99999999999)) } ∷ [])))) } ∷ []) ∷ (record { line = 1; word = (words.Do (statements.Insert (codes "t") (Some (codes "a" ∷ codes "c" ∷ codes "v" ∷ [])) ((Num (pos 2)) ∷ (Num (pos 6)) ∷ (Num (pos 5)) ∷ []) None)) } ∷ []) ∷ []); operator = (record { word = (commanded.ChunkSize 1); units = 1 } ∷ []); faults = []; turns = (record { actor = Insp; times = 3 } ∷ record { actor = (Client 2); times = 3 } ∷ record { actor = (Client 2); times = 1 } ∷ record { actor = Copy; times = 1 } ∷ record { actor = Lock; times = 1 } ∷ record { actor = Lock; times = 1 } ∷ record { actor = Insp; times = 5 } ∷ record { actor = (Client 1); times = 1 } ∷ record { actor = Ren; times = 1 } ∷ record { actor = (Client 2); times = 1 } ∷ record { actor = (Client 2); times = 5 } ∷ record { actor = Ren; times = 1 } ∷ record { actor = Insp; times = 5 } ∷ record { actor = (Client 2); times = 1 } ∷ record { actor = Insp; times = 5 } ∷ record { actor = Op; times = 5 } ∷ record { actor = (Client 4); times = 2 } ∷ record { actor = Apply; times = 1 } ∷ record { actor = (Client 1); times = 5 } ∷ record { actor = Op; times = 2 } ∷ record { actor = (Client 2); times = 3 } ∷ record { actor = Insp; times = 1 } ∷ record { actor = Lock; times = 2 } ∷ record { actor = (Client 1); times = 2 } ∷ record { actor = (Client 4); times = 3 } ∷ record { actor = Insp; times = 1 } ∷ record { actor = (Client 1); times = 2 } ∷ record { actor = Apply; times = 3 } ∷ record { actor = (Client 4); times = 1 } ∷ record { actor = Copy; times = 1 } ∷ record { actor = (Client 3); times = 1 } ∷ record { actor = Insp; times = 1 } ∷ record { actor = (Client 1); times = 5 } ∷ record { actor = Ren; times = 1 } ∷ record { actor = Apply; times = 2 } ∷ record { actor = (Client 4); times = 3 } ∷ []); options = record { chunk_size = 3; dml_batch_size = 1; default_retries = 60; max_backlog = 2; drain_limit = 2000; client_wait = 30; tool_wait = 5; max_load = 64; turn_limit = 200000; notes = 0; note_every = 100; replica_step = 0; replica_pause = 1; max_lag = 10; resume = false; approve_renamed_columns = true; initially_drop_ghost_table = false; initially_drop_old_table = false; ok_to_drop_table = true; postpone = true; show_history = true; show_turns = true; show_tables = true; show_replies = true } }

abbrev journal_256 : List Entry
journal_256 =
    record { actor = Insp; session = 1; asked = Call requests.ShowTables; side = None; answer = answers.Tables (record { name = codes "_t_del"; comment = codes "ghost-cut-over-sentry" } ∷ record { name = codes "t"; comment = [] } ∷ []); missed = None; draw = None }
    ∷ record { actor = Insp; session = 1; asked = Call (requests.Drop (codes "_t_del")); side = None; answer = answers.Ok 0; missed = None; draw = None }
    ∷ record { actor = Insp; session = 1; asked = Call (requests.Create (record { name = codes "_t_ghc"; columns = (record { name = codes "id"; kind = Int 8 false; nullable = false; default = None; auto = false } ∷ record { name = codes "hint"; kind = VarChar 64; nullable = false; default = None; auto = false } ∷ record { name = codes "value"; kind = VarChar 255; nullable = false; default = None; auto = false } ∷ []); uniques = (record { name = None; places = (0 ∷ []) } ∷ []); indexes = []; comment = []; start = None })); side = None; answer = answers.Ok 0; missed = None; draw = None }
    ∷ record { actor = (Client 2); session = 2; asked = Call (requests.Do (statements.Update (codes "t") (record { column = codes "a"; value = (Num (pos 3)) } ∷ []) (conditions.Equal (record { column = codes "a"; value = (Num (pos 1)) } ∷ record { column = codes "c"; value = (Text (codes "g")) } ∷ [])))); side = None; answer = answers.Ok 0; missed = None; draw = None }
    ∷ record { actor = Insp; session = 1; asked = Call (requests.Create (record { name = codes "_t_gho"; columns = (record { name = codes "a"; kind = Int 4 false; nullable = false; default = None; auto = false } ∷ record { name = codes "c"; kind = VarChar 4; nullable = false; default = None; auto = false } ∷ record { name = codes "v"; kind = Int 8 false; nullable = false; default = None; auto = false } ∷ []); uniques = (record { name = None; places = (1 ∷ 0 ∷ []) } ∷ []); indexes = []; comment = []; start = None })); side = None; answer = answers.Ok 0; missed = None; draw = None }
    ∷ record { actor = Insp; session = 1; asked = Call requests.LogEnd; side = None; answer = answers.At 0; missed = None; draw = None }
    ∷ record { actor = Insp; session = 1; asked = Call (requests.Ends (codes "t")); side = None; answer = answers.Ends (Some (record { least = ((Text (codes "b")) ∷ (Num (pos 1)) ∷ []); greatest = ((Text (codes "e")) ∷ (Num (pos 5)) ∷ []) })); missed = None; draw = None }
    ∷ record { actor = Op; session = 0; asked = Command (commanded.ChunkSize 1); side = None; answer = answers.Ok 0; missed = None; draw = None }
    ∷ record { actor = (Client 4); session = 3; asked = Call (requests.Do (statements.Insert (codes "t") (Some (codes "a" ∷ codes "c" ∷ codes "v" ∷ [])) ((Num (pos 2)) ∷ (Num (pos 6)) ∷ (Num (pos 5)) ∷ []) None)); side = None; answer = answers.Ok 1; missed = None; draw = None }
    ∷ record { actor = Apply; session = 4; asked = Call (requests.ReadLog 0 1 (codes "t" ∷ codes "_t_ghc" ∷ [])); side = None; answer = answers.Events (record { table = codes "t"; change = changes.Write ((Num (pos 2)) ∷ (Text (codes "6")) ∷ (Num (pos 5)) ∷ []) } ∷ []) 1; missed = None; draw = None }
    ∷ record { actor = Apply; session = 4; asked = Call requests.Begin; side = None; answer = answers.Ok 0; missed = None; draw = None }
    ∷ record { actor = Apply; session = 4; asked = Call (requests.Do (statements.Replace (codes "_t_gho") None ((Num (pos 2)) ∷ (Text (codes "6")) ∷ (Num (pos 5)) ∷ []) None)); side = None; answer = answers.Ok 1; missed = None; draw = None }
    ∷ record { actor = Apply; session = 4; asked = Call requests.Commit; side = None; answer = answers.Ok 0; missed = None; draw = None }
    ∷ record { actor = Copy; session = 5; asked = Call (requests.ChunkEnd (codes "t") (Closed ((Text (codes "b")) ∷ (Num (pos 1)) ∷ [])) ((Text (codes "e")) ∷ (Num (pos 5)) ∷ []) 1); side = None; answer = answers.End ((Text (codes "b")) ∷ (Num (pos 1)) ∷ []); missed = None; draw = None }
    ∷ record { actor = (Client 3); session = 6; asked = Call (requests.Do (statements.Replace (codes "t") None ((Num (pos 2)) ∷ (Text (codes "g")) ∷ (Num (pos 1)) ∷ []) None)); side = None; answer = answers.Ok 1; missed = None; draw = None }
    ∷ record { actor = Apply; session = 4; asked = Call (requests.ReadLog 1 1 (codes "t" ∷ codes "_t_ghc" ∷ [])); side = None; answer = answers.Events (record { table = codes "t"; change = changes.Write ((Num (pos 2)) ∷ (Text (codes "g")) ∷ (Num (pos 1)) ∷ []) } ∷ []) 3; missed = None; draw = None }
    ∷ record { actor = Apply; session = 4; asked = Call requests.Begin; side = None; answer = answers.Ok 0; missed = None; draw = None }
    ∷ record { actor = Copy; session = 5; asked = Call (requests.BeginSpan (codes "t") (record { low = (Closed ((Text (codes "b")) ∷ (Num (pos 1)) ∷ [])); high = (Closed ((Text (codes "b")) ∷ (Num (pos 1)) ∷ [])) }) 1); side = None; answer = answers.Keys (((Text (codes "b")) ∷ (Num (pos 1)) ∷ []) ∷ []) ((Text (codes "b")) ∷ (Num (pos 1)) ∷ []); missed = None; draw = None }
    ∷ record { actor = Apply; session = 4; asked = Call (requests.Do (statements.Replace (codes "_t_gho") None ((Num (pos 2)) ∷ (Text (codes "g")) ∷ (Num (pos 1)) ∷ []) None)); side = None; answer = answers.Ok 1; missed = None; draw = None }
    ∷ record { actor = (Client 3); session = 6; asked = Call (requests.Do (statements.Update (codes "t") (record { column = codes "v"; value = (Num (pos 1)) } ∷ []) (conditions.Equal (record { column = codes "a"; value = (Num (pos 5)) } ∷ record { column = codes "c"; value = (Num (pos 99999999999)) } ∷ [])))); side = None; answer = answers.Ok 0; missed = None; draw = None }
    ∷ record { actor = Copy; session = 5; asked = Call (requests.CopyRow (codes "t") (codes "_t_gho") map_256 ((Text (codes "b")) ∷ (Num (pos 1)) ∷ [])); side = None; answer = answers.Ok 1; missed = None; draw = None }
    ∷ record { actor = Apply; session = 4; asked = Call requests.Commit; side = None; answer = answers.Ok 0; missed = None; draw = None }
    ∷ record { actor = Copy; session = 5; asked = Call requests.Commit; side = None; answer = answers.Ok 0; missed = None; draw = None }
    ∷ record { actor = Copy; session = 5; asked = Call (requests.ChunkEnd (codes "t") (Open ((Text (codes "b")) ∷ (Num (pos 1)) ∷ [])) ((Text (codes "e")) ∷ (Num (pos 5)) ∷ []) 1); side = None; answer = answers.End ((Text (codes "d")) ∷ (Num (pos 7)) ∷ []); missed = None; draw = None }
    ∷ record { actor = Copy; session = 5; asked = Call (requests.BeginSpan (codes "t") (record { low = (Open ((Text (codes "b")) ∷ (Num (pos 1)) ∷ [])); high = (Closed ((Text (codes "d")) ∷ (Num (pos 7)) ∷ [])) }) 1); side = None; answer = answers.Keys (((Text (codes "d")) ∷ (Num (pos 7)) ∷ []) ∷ []) ((Text (codes "d")) ∷ (Num (pos 7)) ∷ []); missed = None; draw = None }
    ∷ record { actor = Copy; session = 5; asked = Call (requests.CopyRow (codes "t") (codes "_t_gho") map_256 ((Text (codes "d")) ∷ (Num (pos 7)) ∷ [])); side = None; answer = answers.Ok 1; missed = None; draw = None }
    ∷ record { actor = Copy; session = 5; asked = Call requests.Commit; side = None; answer = answers.Ok 0; missed = None; draw = None }
    ∷ record { actor = Copy; session = 5; asked = Call (requests.ChunkEnd (codes "t") (Open ((Text (codes "d")) ∷ (Num (pos 7)) ∷ [])) ((Text (codes "e")) ∷ (Num (pos 5)) ∷ []) 1); side = None; answer = answers.End ((Text (codes "e")) ∷ (Num (pos 5)) ∷ []); missed = None; draw = None }
    ∷ record { actor = Copy; session = 5; asked = Call (requests.BeginSpan (codes "t") (record { low = (Open ((Text (codes "d")) ∷ (Num (pos 7)) ∷ [])); high = (Closed ((Text (codes "e")) ∷ (Num (pos 5)) ∷ [])) }) 1); side = None; answer = answers.Keys (((Text (codes "e")) ∷ (Num (pos 5)) ∷ []) ∷ []) ((Text (codes "e")) ∷ (Num (pos 5)) ∷ []); missed = None; draw = None }
    ∷ record { actor = Copy; session = 5; asked = Call (requests.CopyRow (codes "t") (codes "_t_gho") map_256 ((Text (codes "e")) ∷ (Num (pos 5)) ∷ [])); side = None; answer = answers.Refused 1048 (Some 2); missed = None; draw = None }
    ∷ record { actor = Copy; session = 5; asked = Call requests.Rollback; side = None; answer = answers.Ok 0; missed = None; draw = None }
    ∷ []

abbrev reported_256 : WorkedFacts
reported_256 =
    record {
      verdict = verdicts.Reverted (causes.Unfit 30 ((Text (codes "e")) ∷ (Num (pos 5)) ∷ []) (codes "v") 1048);
      ended = (Some (2, 1) ∷ Some (4, 1) ∷ Some (3, 1) ∷ Some (3, 2) ∷ []);
      left = (record { schema = record { name = codes "t"; columns = (record { name = codes "a"; kind = Int 4 false; nullable = false; default = None; auto = false } ∷ record { name = codes "c"; kind = VarChar 4; nullable = false; default = None; auto = false } ∷ record { name = codes "v"; kind = Int 2 false; nullable = true; default = (Some Null); auto = false } ∷ []); uniques = (record { name = None; places = (1 ∷ 0 ∷ []) } ∷ []); indexes = []; comment = []; start = None }; rows = (((Num (pos 2)) ∷ (Text (codes "6")) ∷ (Num (pos 5)) ∷ []) ∷ ((Num (pos 1)) ∷ (Text (codes "b")) ∷ (Num (pos 6)) ∷ []) ∷ ((Num (pos 7)) ∷ (Text (codes "d")) ∷ (Num (pos 2)) ∷ []) ∷ ((Num (pos 5)) ∷ (Text (codes "e")) ∷ Null ∷ []) ∷ ((Num (pos 2)) ∷ (Text (codes "g")) ∷ (Num (pos 1)) ∷ []) ∷ []) } ∷ []);
      alone = (((replies.Ok 0) ∷ []) ∷ ((replies.Ok 1) ∷ []) ∷ ((replies.Ok 1) ∷ []) ∷ ((replies.Ok 0) ∷ []) ∷ []);
      over = replicate 30 false ++ replicate 1 true;
      bound = 361578;
      replies = ([]) ∷ (((1, 1, (Some (replies.Ok 0))) ∷ [])) ∷ (((1, 1, (Some (replies.Ok 1))) ∷ (2, 1, (Some (replies.Ok 0))) ∷ [])) ∷ (((1, 1, (Some (replies.Ok 1))) ∷ [])) ∷ [];
    }

worked_256 : IsWorked plan_256 journal_256 reported_256
unfolding computing
worked_256 = record { asks = refl; sessions = refl; answers = refl; sides = refl; struck = refl; verdict = refl; ended = refl; order = refl; left = refl; serial = refl; alone = refl; over = refl; online = refl; bounded = refl; replies = refl }

-- Plan 263
abbrev map_263 : List MapColumn
map_263 = (record { kind = Int 1 false; nullable = false; origin = from.Old 0 } ∷ record { kind = VarChar 2; nullable = false; origin = from.Old 1 } ∷ record { kind = Int 8 false; nullable = false; origin = from.Old 2 } ∷ [])

abbrev plan_263 : PlanData
plan_263 = record { table = codes "t"; alter = (clauses.Change (codes "v") (record { name = codes "v"; kind = VarChar 2; nullable = (Some false); default = None; auto = false }) Unsaid ∷ []); tables = (record { schema = record { name = codes "t"; columns = (record { name = codes "m0"; kind = Int 1 false; nullable = false; default = (Some (Num (pos 1))); auto = false } ∷ record { name = codes "v"; kind = VarChar 6; nullable = true; default = (Some Null); auto = false } ∷ record { name = codes "id"; kind = Int 8 false; nullable = false; default = None; auto = false } ∷ []); uniques = (record { name = None; places = (2 ∷ []) } ∷ record { name = (Some (codes "u0")); places = (0 ∷ []) } ∷ []); indexes = []; comment = []; start = None }; rows = (((Num (pos 6)) ∷ (Text (codes "4")) ∷ (Num (pos 5)) ∷ []) ∷ []) } ∷ []); clients = ((record { line = 1; word = (words.Do (statements.Replace (codes "t") None ((Num (pos 2)) ∷ Null ∷ (Num (pos 4)) ∷ (Num (pos 1)) ∷ []) None)) } ∷ record { line = 2; word = (words.Do (statements.Replace (codes "t") None ((Num (pos 7)) ∷ (Text (codes "a")) ∷ (Num (pos 7)) ∷ []) None)) } ∷ []) ∷ []); operator = (record { word = commanded.Wait; units = 19 } ∷ record { word = commanded.Panic; units = 1 } ∷ record { word = commanded.Wait; units = 14 } ∷ record { word = commanded.Wait; units = 2 } ∷ record { word = commanded.NoThrottle; units = 1 } ∷ []); faults = (losses.Nth Ren 5 sides_at.Before ∷ losses.Nth Copy 2 sides_at.Before ∷ losses.Nth (Client 1) 5 sides_at.Before ∷ losses.Turn 8 Apply ∷ losses.Nth Copy 2 sides_at.Before ∷ losses.Turn 32 Insp ∷ losses.Turn 46 Copy ∷ losses.Turn 58 Ren ∷ losses.Turn 51 Insp ∷ losses.Turn 55 Apply ∷ losses.Turn 51 Apply ∷ losses.Turn 49 Insp ∷ []); turns = (record { actor = Insp; times = 5 } ∷ record { actor = Apply; times = 1 } ∷ record { actor = Op; times = 1 } ∷ record { actor = (Client 1); times = 5 } ∷ record { actor = Insp; times = 3 } ∷ record { actor = Lock; times = 2 } ∷ record { actor = Op; times = 2 } ∷ record { actor = Lock; times = 3 } ∷ record { actor = (Client 1); times = 3 } ∷ record { actor = Op; times = 5 } ∷ record { actor = Copy; times = 1 } ∷ record { actor = Ren; times = 1 } ∷ record { actor = Insp; times = 1 } ∷ record { actor = Lock; times = 1 } ∷ record { actor = Insp; times = 2 } ∷ record { actor = Insp; times = 3 } ∷ record { actor = (Client 1); times = 1 } ∷ record { actor = Lock; times = 1 } ∷ record { actor = Op; times = 1 } ∷ record { actor = Insp; times = 1 } ∷ record { actor = Insp; times = 1 } ∷ record { actor = Ren; times = 5 } ∷ record { actor = Ren; times = 2 } ∷ record { actor = Apply; times = 5 } ∷ record { actor = Copy; times = 2 } ∷ record { actor = Copy; times = 1 } ∷ record { actor = Insp; times = 1 } ∷ record { actor = Op; times = 3 } ∷ record { actor = Op; times = 1 } ∷ record { actor = Insp; times = 1 } ∷ record { actor = Apply; times = 1 } ∷ record { actor = Insp; times = 5 } ∷ record { actor = Op; times = 1 } ∷ record { actor = Copy; times = 1 } ∷ record { actor = (Client 1); times = 1 } ∷ record { actor = Op; times = 5 } ∷ record { actor = Insp; times = 1 } ∷ record { actor = Insp; times = 1 } ∷ []); options = record { chunk_size = 5; dml_batch_size = 10; default_retries = 60; max_backlog = 100; drain_limit = 3; client_wait = 30; tool_wait = 2; max_load = 1; turn_limit = 200000; notes = 0; note_every = 100; replica_step = 0; replica_pause = 1; max_lag = 10; resume = false; approve_renamed_columns = true; initially_drop_ghost_table = false; initially_drop_old_table = false; ok_to_drop_table = false; postpone = false; show_history = true; show_turns = true; show_tables = true; show_replies = true } }

abbrev journal_263 : List Entry
journal_263 =
    record { actor = Insp; session = 1; asked = Call requests.ShowTables; side = None; answer = answers.Tables (record { name = codes "t"; comment = [] } ∷ []); missed = None; draw = None }
    ∷ record { actor = Insp; session = 1; asked = Call (requests.Create (record { name = codes "_t_ghc"; columns = (record { name = codes "id"; kind = Int 8 false; nullable = false; default = None; auto = false } ∷ record { name = codes "hint"; kind = VarChar 64; nullable = false; default = None; auto = false } ∷ record { name = codes "value"; kind = VarChar 255; nullable = false; default = None; auto = false } ∷ []); uniques = (record { name = None; places = (0 ∷ []) } ∷ []); indexes = []; comment = []; start = None })); side = None; answer = answers.Ok 0; missed = None; draw = None }
    ∷ record { actor = Insp; session = 1; asked = Call (requests.Create (record { name = codes "_t_gho"; columns = (record { name = codes "m0"; kind = Int 1 false; nullable = false; default = (Some (Num (pos 1))); auto = false } ∷ record { name = codes "v"; kind = VarChar 2; nullable = false; default = None; auto = false } ∷ record { name = codes "id"; kind = Int 8 false; nullable = false; default = None; auto = false } ∷ []); uniques = (record { name = None; places = (2 ∷ []) } ∷ record { name = (Some (codes "u0")); places = (0 ∷ []) } ∷ []); indexes = []; comment = []; start = None })); side = None; answer = answers.Ok 0; missed = None; draw = None }
    ∷ record { actor = Insp; session = 1; asked = Call requests.LogEnd; side = None; answer = answers.At 0; missed = None; draw = None }
    ∷ record { actor = Insp; session = 1; asked = Call (requests.Ends (codes "t")); side = None; answer = answers.Ends (Some (record { least = ((Num (pos 5)) ∷ []); greatest = ((Num (pos 5)) ∷ []) })); missed = None; draw = None }
    ∷ record { actor = Op; session = 0; asked = Command commanded.Wait; side = None; answer = answers.Ok 0; missed = None; draw = None }
    ∷ record { actor = (Client 1); session = 2; asked = Call (requests.Do (statements.Replace (codes "t") None ((Num (pos 2)) ∷ Null ∷ (Num (pos 4)) ∷ (Num (pos 1)) ∷ []) None)); side = None; answer = answers.Refused 1136 None; missed = None; draw = None }
    ∷ record { actor = (Client 1); session = 2; asked = Call (requests.Do (statements.Replace (codes "t") None ((Num (pos 7)) ∷ (Text (codes "a")) ∷ (Num (pos 7)) ∷ []) None)); side = None; answer = answers.Ok 1; missed = None; draw = None }
    ∷ record { actor = Op; session = 0; asked = Command commanded.Wait; side = None; answer = answers.Ok 0; missed = None; draw = None }
    ∷ record { actor = Op; session = 0; asked = Command commanded.Wait; side = None; answer = answers.Ok 0; missed = None; draw = None }
    ∷ record { actor = Op; session = 0; asked = Command commanded.Wait; side = None; answer = answers.Ok 0; missed = None; draw = None }
    ∷ record { actor = Op; session = 0; asked = Command commanded.Wait; side = None; answer = answers.Ok 0; missed = None; draw = None }
    ∷ record { actor = Op; session = 0; asked = Command commanded.Wait; side = None; answer = answers.Ok 0; missed = None; draw = None }
    ∷ record { actor = Op; session = 0; asked = Command commanded.Wait; side = None; answer = answers.Ok 0; missed = None; draw = None }
    ∷ record { actor = Op; session = 0; asked = Command commanded.Wait; side = None; answer = answers.Ok 0; missed = None; draw = None }
    ∷ record { actor = Copy; session = 3; asked = Call (requests.ChunkEnd (codes "t") (Closed ((Num (pos 5)) ∷ [])) ((Num (pos 5)) ∷ []) 5); side = None; answer = answers.End ((Num (pos 5)) ∷ []); missed = None; draw = None }
    ∷ record { actor = Op; session = 0; asked = Command commanded.Wait; side = None; answer = answers.Ok 0; missed = None; draw = None }
    ∷ record { actor = Apply; session = 4; asked = Call (requests.ReadLog 0 10 (codes "t" ∷ codes "_t_ghc" ∷ [])); side = None; answer = answers.Events (record { table = codes "t"; change = changes.Write ((Num (pos 7)) ∷ (Text (codes "a")) ∷ (Num (pos 7)) ∷ []) } ∷ []) 1; missed = None; draw = None }
    ∷ record { actor = Apply; session = 4; asked = Call requests.Begin; side = None; answer = answers.Ok 0; missed = None; draw = None }
    ∷ record { actor = Apply; session = 4; asked = Call (requests.Do (statements.Replace (codes "_t_gho") None ((Num (pos 7)) ∷ (Text (codes "a")) ∷ (Num (pos 7)) ∷ []) None)); side = None; answer = answers.Ok 1; missed = None; draw = None }
    ∷ record { actor = Apply; session = 4; asked = Call requests.Commit; side = None; answer = answers.Ok 0; missed = None; draw = None }
    ∷ record { actor = Copy; session = 3; asked = Call (requests.BeginSpan (codes "t") (record { low = (Closed ((Num (pos 5)) ∷ [])); high = (Closed ((Num (pos 5)) ∷ [])) }) 5); side = (Some sides_at.Before); answer = answers.Lost; missed = None; draw = None }
    ∷ record { actor = Copy; session = 5; asked = Call (requests.ChunkEnd (codes "t") (Closed ((Num (pos 5)) ∷ [])) ((Num (pos 5)) ∷ []) 5); side = None; answer = answers.End ((Num (pos 5)) ∷ []); missed = None; draw = None }
    ∷ record { actor = Copy; session = 5; asked = Call (requests.BeginSpan (codes "t") (record { low = (Closed ((Num (pos 5)) ∷ [])); high = (Closed ((Num (pos 5)) ∷ [])) }) 5); side = None; answer = answers.Keys (((Num (pos 5)) ∷ []) ∷ []) ((Num (pos 5)) ∷ []); missed = None; draw = None }
    ∷ record { actor = Op; session = 0; asked = Command commanded.Wait; side = None; answer = answers.Ok 0; missed = None; draw = None }
    ∷ record { actor = Op; session = 0; asked = Command commanded.Wait; side = None; answer = answers.Ok 0; missed = None; draw = None }
    ∷ record { actor = Op; session = 0; asked = Command commanded.Wait; side = None; answer = answers.Ok 0; missed = None; draw = None }
    ∷ record { actor = Op; session = 0; asked = Command commanded.Wait; side = None; answer = answers.Ok 0; missed = None; draw = None }
    ∷ record { actor = Op; session = 0; asked = Command commanded.Wait; side = None; answer = answers.Ok 0; missed = None; draw = None }
    ∷ record { actor = Copy; session = 5; asked = Call (requests.CopyRow (codes "t") (codes "_t_gho") map_263 ((Num (pos 5)) ∷ [])); side = None; answer = answers.Ok 1; missed = None; draw = None }
    ∷ record { actor = Op; session = 0; asked = Command commanded.Wait; side = None; answer = answers.Ok 0; missed = None; draw = None }
    ∷ record { actor = Insp; session = 1; asked = Cut; side = None; answer = answers.Lost; missed = None; draw = None }
    ∷ record { actor = Op; session = 0; asked = Command commanded.Wait; side = None; answer = answers.Ok 0; missed = None; draw = None }
    ∷ record { actor = Op; session = 0; asked = Command commanded.Wait; side = None; answer = answers.Ok 0; missed = None; draw = None }
    ∷ record { actor = Op; session = 0; asked = Command commanded.Wait; side = None; answer = answers.Ok 0; missed = None; draw = None }
    ∷ record { actor = Op; session = 0; asked = Command commanded.Wait; side = None; answer = answers.Ok 0; missed = None; draw = None }
    ∷ record { actor = Op; session = 0; asked = Command commanded.Panic; side = None; answer = answers.Ok 0; missed = None; draw = None }
    ∷ record { actor = Copy; session = 5; asked = Call requests.Rollback; side = None; answer = answers.Ok 0; missed = None; draw = None }
    ∷ []

abbrev reported_263 : WorkedFacts
reported_263 =
    record {
      verdict = verdicts.Reverted (causes.Panic 37);
      ended = (Some (1, 1) ∷ Some (1, 2) ∷ []);
      left = (record { schema = record { name = codes "t"; columns = (record { name = codes "m0"; kind = Int 1 false; nullable = false; default = (Some (Num (pos 1))); auto = false } ∷ record { name = codes "v"; kind = VarChar 6; nullable = true; default = (Some Null); auto = false } ∷ record { name = codes "id"; kind = Int 8 false; nullable = false; default = None; auto = false } ∷ []); uniques = (record { name = None; places = (2 ∷ []) } ∷ record { name = (Some (codes "u0")); places = (0 ∷ []) } ∷ []); indexes = []; comment = []; start = None }; rows = (((Num (pos 6)) ∷ (Text (codes "4")) ∷ (Num (pos 5)) ∷ []) ∷ ((Num (pos 7)) ∷ (Text (codes "a")) ∷ (Num (pos 7)) ∷ []) ∷ []) } ∷ []);
      alone = (((replies.Error 1136) ∷ []) ∷ ((replies.Ok 1) ∷ []) ∷ []);
      over = replicate 37 false ++ replicate 1 true;
      bound = 491680;
      replies = (((1, 1, (Some (replies.Error 1136))) ∷ (2, 1, (Some (replies.Ok 1))) ∷ [])) ∷ [];
    }

worked_263 : IsWorked plan_263 journal_263 reported_263
unfolding computing
worked_263 = record { asks = refl; sessions = refl; answers = refl; sides = refl; struck = refl; verdict = refl; ended = refl; order = refl; left = refl; serial = refl; alone = refl; over = refl; online = refl; bounded = refl; replies = refl }

-- Plan 289
abbrev map_289 : List MapColumn
map_289 = (record { kind = Int 4 false; nullable = false; origin = from.Old 0 } ∷ record { kind = Int 4 false; nullable = true; origin = from.Old 1 } ∷ record { kind = Int 4 false; nullable = true; origin = from.Added Null } ∷ [])

abbrev plan_289 : PlanData
plan_289 = record { table = codes "t"; alter = (clauses.Change (codes "id") (record { name = codes "id"; kind = Int 4 false; nullable = (Some false); default = None; auto = false }) Unsaid ∷ clauses.Add (record { name = codes "b"; kind = Int 4 false; nullable = None; default = None; auto = false }) Unsaid ∷ []); tables = (record { schema = record { name = codes "t"; columns = (record { name = codes "id"; kind = Int 4 false; nullable = false; default = None; auto = false } ∷ record { name = codes "v"; kind = Int 4 false; nullable = true; default = (Some Null); auto = false } ∷ []); uniques = (record { name = None; places = (0 ∷ []) } ∷ []); indexes = (record { name = (Some (codes "v")); places = (1 ∷ []) } ∷ []); comment = []; start = None }; rows = [] } ∷ record { schema = record { name = codes "u"; columns = (record { name = codes "m0"; kind = Int 4 false; nullable = false; default = (Some (Num (pos 1))); auto = false } ∷ record { name = codes "id"; kind = Int 8 false; nullable = false; default = None; auto = false } ∷ []); uniques = (record { name = None; places = (1 ∷ []) } ∷ record { name = (Some (codes "u0")); places = (0 ∷ []) } ∷ []); indexes = []; comment = []; start = None }; rows = (((Num (pos 4)) ∷ (Num (pos 3)) ∷ []) ∷ []) } ∷ []); clients = ((record { line = 1; word = words.Begin } ∷ record { line = 2; word = (words.Do (statements.Delete (codes "t") (conditions.Equal (record { column = codes "id"; value = (Num (pos 7)) } ∷ [])))) } ∷ record { line = 3; word = words.Commit } ∷ []) ∷ []); operator = (record { word = commanded.NoThrottle; units = 1 } ∷ []); faults = []; turns = (record { actor = Insp; times = 3 } ∷ record { actor = Lock; times = 1 } ∷ record { actor = Ren; times = 2 } ∷ record { actor = Ren; times = 1 } ∷ record { actor = Lock; times = 2 } ∷ record { actor = (Client 1); times = 1 } ∷ record { actor = Lock; times = 5 } ∷ record { actor = Lock; times = 1 } ∷ record { actor = Lock; times = 5 } ∷ record { actor = Op; times = 1 } ∷ record { actor = (Client 1); times = 1 } ∷ record { actor = Op; times = 1 } ∷ record { actor = Ren; times = 2 } ∷ record { actor = Insp; times = 2 } ∷ record { actor = (Client 1); times = 5 } ∷ record { actor = Apply; times = 1 } ∷ record { actor = Ren; times = 3 } ∷ record { actor = Lock; times = 1 } ∷ record { actor = Op; times = 1 } ∷ record { actor = Op; times = 1 } ∷ record { actor = (Client 1); times = 5 } ∷ record { actor = Lock; times = 2 } ∷ record { actor = Ren; times = 1 } ∷ record { actor = Apply; times = 3 } ∷ record { actor = Ren; times = 3 } ∷ record { actor = Ren; times = 2 } ∷ record { actor = (Client 1); times = 5 } ∷ record { actor = Apply; times = 5 } ∷ record { actor = Insp; times = 1 } ∷ record { actor = Copy; times = 1 } ∷ record { actor = Apply; times = 1 } ∷ record { actor = Ren; times = 2 } ∷ record { actor = Ren; times = 5 } ∷ record { actor = Ren; times = 3 } ∷ record { actor = Ren; times = 3 } ∷ record { actor = Apply; times = 5 } ∷ record { actor = Lock; times = 1 } ∷ record { actor = (Client 1); times = 1 } ∷ record { actor = Lock; times = 2 } ∷ record { actor = Copy; times = 5 } ∷ record { actor = Ren; times = 5 } ∷ record { actor = Insp; times = 1 } ∷ record { actor = Apply; times = 1 } ∷ record { actor = Op; times = 5 } ∷ record { actor = Op; times = 2 } ∷ []); options = record { chunk_size = 2; dml_batch_size = 1; default_retries = 1; max_backlog = 0; drain_limit = 2000; client_wait = 3; tool_wait = 5; max_load = 0; turn_limit = 200000; notes = 0; note_every = 100; replica_step = 0; replica_pause = 1; max_lag = 10; resume = false; approve_renamed_columns = true; initially_drop_ghost_table = false; initially_drop_old_table = false; ok_to_drop_table = false; postpone = true; show_history = true; show_turns = true; show_tables = true; show_replies = true } }

abbrev journal_289 : List Entry
journal_289 =
    record { actor = Insp; session = 1; asked = Call requests.ShowTables; side = None; answer = answers.Tables (record { name = codes "t"; comment = [] } ∷ record { name = codes "u"; comment = [] } ∷ []); missed = None; draw = None }
    ∷ record { actor = Insp; session = 1; asked = Call (requests.Create (record { name = codes "_t_ghc"; columns = (record { name = codes "id"; kind = Int 8 false; nullable = false; default = None; auto = false } ∷ record { name = codes "hint"; kind = VarChar 64; nullable = false; default = None; auto = false } ∷ record { name = codes "value"; kind = VarChar 255; nullable = false; default = None; auto = false } ∷ []); uniques = (record { name = None; places = (0 ∷ []) } ∷ []); indexes = []; comment = []; start = None })); side = None; answer = answers.Ok 0; missed = None; draw = None }
    ∷ record { actor = Insp; session = 1; asked = Call (requests.Create (record { name = codes "_t_gho"; columns = (record { name = codes "id"; kind = Int 4 false; nullable = false; default = None; auto = false } ∷ record { name = codes "v"; kind = Int 4 false; nullable = true; default = (Some Null); auto = false } ∷ record { name = codes "b"; kind = Int 4 false; nullable = true; default = (Some Null); auto = false } ∷ []); uniques = (record { name = None; places = (0 ∷ []) } ∷ []); indexes = (record { name = (Some (codes "v")); places = (1 ∷ []) } ∷ []); comment = []; start = None })); side = None; answer = answers.Ok 0; missed = None; draw = None }
    ∷ record { actor = (Client 1); session = 2; asked = Call requests.Begin; side = None; answer = answers.Ok 0; missed = None; draw = None }
    ∷ record { actor = Op; session = 0; asked = Command commanded.NoThrottle; side = None; answer = answers.Ok 0; missed = None; draw = None }
    ∷ record { actor = (Client 1); session = 2; asked = Call (requests.Do (statements.Delete (codes "t") (conditions.Equal (record { column = codes "id"; value = (Num (pos 7)) } ∷ [])))); side = None; answer = answers.Ok 0; missed = None; draw = None }
    ∷ record { actor = Insp; session = 1; asked = Call requests.LogEnd; side = None; answer = answers.At 0; missed = None; draw = None }
    ∷ record { actor = Insp; session = 1; asked = Call (requests.Ends (codes "t")); side = None; answer = answers.Ends None; missed = None; draw = None }
    ∷ record { actor = (Client 1); session = 2; asked = Call requests.Commit; side = None; answer = answers.Ok 0; missed = None; draw = None }
    ∷ record { actor = Lock; session = 3; asked = Call (requests.Create (record { name = codes "_t_del"; columns = (record { name = codes "id"; kind = Int 4 false; nullable = false; default = None; auto = false } ∷ []); uniques = (record { name = None; places = (0 ∷ []) } ∷ []); indexes = []; comment = codes "ghost-cut-over-sentry"; start = None })); side = None; answer = answers.Ok 0; missed = None; draw = None }
    ∷ record { actor = Lock; session = 3; asked = Call (requests.LockTables (codes "t" ∷ codes "_t_del" ∷ [])); side = None; answer = answers.Ok 0; missed = None; draw = None }
    ∷ record { actor = Insp; session = 1; asked = Call (requests.Do (statements.Insert (codes "_t_ghc") None ((Num (pos 1)) ∷ (Text (codes "cut-over")) ∷ (Text (codes "1")) ∷ []) None)); side = None; answer = answers.Ok 1; missed = None; draw = None }
    ∷ record { actor = Apply; session = 4; asked = Call (requests.ReadLog 0 1 (codes "t" ∷ codes "_t_ghc" ∷ [])); side = None; answer = answers.Events (record { table = codes "_t_ghc"; change = changes.Write ((Num (pos 1)) ∷ (Text (codes "cut-over")) ∷ (Text (codes "1")) ∷ []) } ∷ []) 1; missed = None; draw = None }
    ∷ record { actor = Ren; session = 5; asked = Call (requests.Rename (record { old = codes "t"; new = codes "_t_del" } ∷ record { old = codes "_t_gho"; new = codes "t" } ∷ [])); side = None; answer = answers.Waits 3; missed = None; draw = None }
    ∷ record { actor = Ren; session = 5; asked = Poll; side = None; answer = answers.Waits 3; missed = None; draw = None }
    ∷ record { actor = Ren; session = 5; asked = Poll; side = None; answer = answers.Waits 3; missed = None; draw = None }
    ∷ record { actor = Ren; session = 5; asked = Poll; side = None; answer = answers.Waits 3; missed = None; draw = None }
    ∷ record { actor = Ren; session = 5; asked = Poll; side = None; answer = answers.Waits 3; missed = None; draw = None }
    ∷ record { actor = Ren; session = 5; asked = Poll; side = None; answer = answers.TimedOut 5; missed = None; draw = None }
    ∷ record { actor = Lock; session = 3; asked = Call requests.Unlock; side = None; answer = answers.Ok 0; missed = None; draw = None }
    ∷ record { actor = Insp; session = 1; asked = Call requests.ShowTables; side = None; answer = answers.Tables (record { name = codes "_t_del"; comment = codes "ghost-cut-over-sentry" } ∷ record { name = codes "_t_ghc"; comment = [] } ∷ record { name = codes "_t_gho"; comment = [] } ∷ record { name = codes "t"; comment = [] } ∷ record { name = codes "u"; comment = [] } ∷ []); missed = None; draw = None }
    ∷ record { actor = Insp; session = 1; asked = Call (requests.Drop (codes "_t_del")); side = None; answer = answers.Ok 0; missed = None; draw = None }
    ∷ []

abbrev reported_289 : WorkedFacts
reported_289 =
    record {
      verdict = verdicts.Reverted (causes.Spent tasks.CutOver (19 ∷ []));
      ended = (Some (1, 1) ∷ []);
      left = (record { schema = record { name = codes "t"; columns = (record { name = codes "id"; kind = Int 4 false; nullable = false; default = None; auto = false } ∷ record { name = codes "v"; kind = Int 4 false; nullable = true; default = (Some Null); auto = false } ∷ []); uniques = (record { name = None; places = (0 ∷ []) } ∷ []); indexes = (record { name = (Some (codes "v")); places = (1 ∷ []) } ∷ []); comment = []; start = None }; rows = [] } ∷ record { schema = record { name = codes "u"; columns = (record { name = codes "m0"; kind = Int 4 false; nullable = false; default = (Some (Num (pos 1))); auto = false } ∷ record { name = codes "id"; kind = Int 8 false; nullable = false; default = None; auto = false } ∷ []); uniques = (record { name = None; places = (1 ∷ []) } ∷ record { name = (Some (codes "u0")); places = (0 ∷ []) } ∷ []); indexes = []; comment = []; start = None }; rows = (((Num (pos 4)) ∷ (Num (pos 3)) ∷ []) ∷ []) } ∷ []);
      alone = (((replies.Ok 0) ∷ (replies.Ok 0) ∷ (replies.Ok 0) ∷ []) ∷ []);
      over = replicate 21 false ++ replicate 1 true;
      bound = 1785;
      replies = (((1, 1, (Some (replies.Ok 0))) ∷ (1, 2, (Some (replies.Ok 0))) ∷ (1, 3, (Some (replies.Ok 0))) ∷ [])) ∷ [];
    }

worked_289 : IsWorked plan_289 journal_289 reported_289
unfolding computing
worked_289 = record { asks = refl; sessions = refl; answers = refl; sides = refl; struck = refl; verdict = refl; ended = refl; order = refl; left = refl; serial = refl; alone = refl; over = refl; online = refl; bounded = refl; replies = refl }

-- Plan 290
abbrev map_290 : List MapColumn
map_290 = (record { kind = Int 8 false; nullable = false; origin = from.Old 0 } ∷ record { kind = Int 4 false; nullable = true; origin = from.Old 1 } ∷ record { kind = Int 1 false; nullable = true; origin = from.Old 2 } ∷ record { kind = Int 4 false; nullable = true; origin = from.Added Null } ∷ [])

abbrev plan_290 : PlanData
plan_290 = record { table = codes "t"; alter = (clauses.Add (record { name = codes "b"; kind = Int 4 false; nullable = None; default = None; auto = false }) Unsaid ∷ []); tables = (record { schema = record { name = codes "t"; columns = (record { name = codes "id"; kind = Int 8 false; nullable = false; default = None; auto = false } ∷ record { name = codes "m0"; kind = Int 4 false; nullable = true; default = (Some (Num (pos 1))); auto = false } ∷ record { name = codes "m1"; kind = Int 1 false; nullable = true; default = (Some Null); auto = false } ∷ []); uniques = (record { name = None; places = (0 ∷ []) } ∷ record { name = (Some (codes "u0")); places = (0 ∷ 1 ∷ []) } ∷ record { name = (Some (codes "u1")); places = (2 ∷ []) } ∷ []); indexes = []; comment = []; start = None }; rows = (((Num (pos 5)) ∷ (Num (pos 2)) ∷ (Num (pos 4)) ∷ []) ∷ ((Num (pos 7)) ∷ Null ∷ (Num (pos 7)) ∷ []) ∷ []) } ∷ []); clients = ([] ∷ (record { line = 1; word = (words.Do (statements.Insert (codes "t") (Some (codes "id" ∷ codes "m1" ∷ [])) ((Num (pos 3)) ∷ (Num (pos 2)) ∷ []) None)) } ∷ []) ∷ (record { line = 1; word = (words.Do (statements.Replace (codes "t") (Some (codes "id" ∷ codes "m0" ∷ codes "m1" ∷ [])) ((Blob (255 ∷ [])) ∷ (Num (pos 3)) ∷ (Num (pos 2)) ∷ []) None)) } ∷ []) ∷ (record { line = 1; word = (words.Do (statements.Update (codes "t") (record { column = codes "id"; value = (Num (pos 6)) } ∷ record { column = codes "m0"; value = (Num (pos 3)) } ∷ record { column = codes "m1"; value = (Num (pos 3)) } ∷ []) (conditions.Range (record { column = codes "id"; sign = signs.AtLeast; value = (Num (pos 5)) } ∷ record { column = codes "id"; sign = signs.AtMost; value = (Num (pos 5)) } ∷ [])))) } ∷ record { line = 2; word = words.Begin } ∷ record { line = 3; word = (words.Do (statements.Insert (codes "t") None ((Num (pos 7)) ∷ (Num (pos 2)) ∷ Null ∷ []) None)) } ∷ record { line = 4; word = (words.Do (statements.Delete (codes "t") (conditions.Equal (record { column = codes "id"; value = (Num (pos 5)) } ∷ [])))) } ∷ record { line = 5; word = words.Commit } ∷ record { line = 6; word = (words.Do (statements.Replace (codes "t") None ((Num (pos 3)) ∷ (Num (pos 4)) ∷ (Num (pos 7)) ∷ (Num (pos 1)) ∷ []) None)) } ∷ record { line = 7; word = (words.Do (statements.Select (codes "t") (shown.Columns (codes "id" ∷ [])) (conditions.Equal (record { column = codes "id"; value = (Num (pos 4)) } ∷ [])))) } ∷ record { line = 8; word = words.Begin } ∷ record { line = 9; word = (words.Do (statements.Delete (codes "t") (conditions.Equal (record { column = codes "id"; value = (Num (pos 6)) } ∷ [])))) } ∷ record { line = 10; word = (words.Do (statements.Replace (codes "t") None ((Num (pos 2)) ∷ (Num (pos 4)) ∷ (Num (pos 3)) ∷ (Num (pos 1)) ∷ []) None)) } ∷ record { line = 11; word = words.Commit } ∷ []) ∷ []); operator = []; faults = (losses.Turn 57 (Client 2) ∷ []); turns = (record { actor = Op; times = 2 } ∷ record { actor = (Client 4); times = 5 } ∷ record { actor = Lock; times = 1 } ∷ record { actor = (Client 2); times = 2 } ∷ record { actor = Insp; times = 2 } ∷ record { actor = (Client 2); times = 2 } ∷ record { actor = (Client 4); times = 1 } ∷ record { actor = (Client 2); times = 5 } ∷ record { actor = (Client 3); times = 2 } ∷ record { actor = (Client 2); times = 1 } ∷ record { actor = Copy; times = 1 } ∷ record { actor = Lock; times = 1 } ∷ record { actor = Op; times = 5 } ∷ record { actor = Lock; times = 1 } ∷ record { actor = (Client 2); times = 1 } ∷ record { actor = (Client 1); times = 5 } ∷ record { actor = Ren; times = 2 } ∷ record { actor = Ren; times = 1 } ∷ record { actor = (Client 3); times = 1 } ∷ record { actor = Ren; times = 2 } ∷ record { actor = Apply; times = 5 } ∷ record { actor = (Client 3); times = 1 } ∷ record { actor = Apply; times = 2 } ∷ record { actor = Apply; times = 1 } ∷ record { actor = Apply; times = 1 } ∷ record { actor = Op; times = 2 } ∷ record { actor = Lock; times = 5 } ∷ record { actor = Lock; times = 1 } ∷ record { actor = Copy; times = 1 } ∷ record { actor = Apply; times = 1 } ∷ record { actor = (Client 3); times = 1 } ∷ record { actor = Copy; times = 1 } ∷ record { actor = Copy; times = 2 } ∷ record { actor = Copy; times = 1 } ∷ record { actor = (Client 2); times = 1 } ∷ []); options = record { chunk_size = 3; dml_batch_size = 4; default_retries = 2; max_backlog = 2; drain_limit = 9; client_wait = 3; tool_wait = 1; max_load = 64; turn_limit = 200000; notes = 0; note_every = 100; replica_step = 0; replica_pause = 1; max_lag = 10; resume = false; approve_renamed_columns = true; initially_drop_ghost_table = false; initially_drop_old_table = false; ok_to_drop_table = true; postpone = false; show_history = true; show_turns = true; show_tables = true; show_replies = true } }

abbrev journal_290 : List Entry
journal_290 =
    record { actor = (Client 4); session = 1; asked = Call (requests.Do (statements.Update (codes "t") (record { column = codes "id"; value = (Num (pos 6)) } ∷ record { column = codes "m0"; value = (Num (pos 3)) } ∷ record { column = codes "m1"; value = (Num (pos 3)) } ∷ []) (conditions.Range (record { column = codes "id"; sign = signs.AtLeast; value = (Num (pos 5)) } ∷ record { column = codes "id"; sign = signs.AtMost; value = (Num (pos 5)) } ∷ [])))); side = None; answer = answers.Ok 1; missed = None; draw = None }
    ∷ record { actor = (Client 4); session = 1; asked = Call requests.Begin; side = None; answer = answers.Ok 0; missed = None; draw = None }
    ∷ record { actor = (Client 4); session = 1; asked = Call (requests.Do (statements.Insert (codes "t") None ((Num (pos 7)) ∷ (Num (pos 2)) ∷ Null ∷ []) None)); side = None; answer = answers.Refused 1062 None; missed = None; draw = None }
    ∷ record { actor = (Client 4); session = 1; asked = Call (requests.Do (statements.Delete (codes "t") (conditions.Equal (record { column = codes "id"; value = (Num (pos 5)) } ∷ [])))); side = None; answer = answers.Ok 0; missed = None; draw = None }
    ∷ record { actor = (Client 4); session = 1; asked = Call requests.Commit; side = None; answer = answers.Ok 0; missed = None; draw = None }
    ∷ record { actor = (Client 2); session = 2; asked = Call (requests.Do (statements.Insert (codes "t") (Some (codes "id" ∷ codes "m1" ∷ [])) ((Num (pos 3)) ∷ (Num (pos 2)) ∷ []) None)); side = None; answer = answers.Ok 1; missed = None; draw = None }
    ∷ record { actor = Insp; session = 3; asked = Call requests.ShowTables; side = None; answer = answers.Tables (record { name = codes "t"; comment = [] } ∷ []); missed = None; draw = None }
    ∷ record { actor = Insp; session = 3; asked = Call (requests.Create (record { name = codes "_t_ghc"; columns = (record { name = codes "id"; kind = Int 8 false; nullable = false; default = None; auto = false } ∷ record { name = codes "hint"; kind = VarChar 64; nullable = false; default = None; auto = false } ∷ record { name = codes "value"; kind = VarChar 255; nullable = false; default = None; auto = false } ∷ []); uniques = (record { name = None; places = (0 ∷ []) } ∷ []); indexes = []; comment = []; start = None })); side = None; answer = answers.Ok 0; missed = None; draw = None }
    ∷ record { actor = (Client 4); session = 1; asked = Call (requests.Do (statements.Replace (codes "t") None ((Num (pos 3)) ∷ (Num (pos 4)) ∷ (Num (pos 7)) ∷ (Num (pos 1)) ∷ []) None)); side = None; answer = answers.Refused 1136 None; missed = None; draw = None }
    ∷ record { actor = (Client 3); session = 4; asked = Call (requests.Do (statements.Replace (codes "t") (Some (codes "id" ∷ codes "m0" ∷ codes "m1" ∷ [])) ((Blob (255 ∷ [])) ∷ (Num (pos 3)) ∷ (Num (pos 2)) ∷ []) None)); side = None; answer = answers.Refused 1366 (Some 0); missed = None; draw = None }
    ∷ record { actor = Insp; session = 3; asked = Call (requests.Create (record { name = codes "_t_gho"; columns = (record { name = codes "id"; kind = Int 8 false; nullable = false; default = None; auto = false } ∷ record { name = codes "m0"; kind = Int 4 false; nullable = true; default = (Some (Num (pos 1))); auto = false } ∷ record { name = codes "m1"; kind = Int 1 false; nullable = true; default = (Some Null); auto = false } ∷ record { name = codes "b"; kind = Int 4 false; nullable = true; default = (Some Null); auto = false } ∷ []); uniques = (record { name = None; places = (0 ∷ []) } ∷ record { name = (Some (codes "u0")); places = (0 ∷ 1 ∷ []) } ∷ record { name = (Some (codes "u1")); places = (2 ∷ []) } ∷ []); indexes = []; comment = []; start = None })); side = None; answer = answers.Ok 0; missed = None; draw = None }
    ∷ record { actor = (Client 4); session = 1; asked = Call (requests.Do (statements.Select (codes "t") (shown.Columns (codes "id" ∷ [])) (conditions.Equal (record { column = codes "id"; value = (Num (pos 4)) } ∷ [])))); side = None; answer = answers.Rows []; missed = None; draw = None }
    ∷ record { actor = Insp; session = 3; asked = Call requests.LogEnd; side = None; answer = answers.At 2; missed = None; draw = None }
    ∷ record { actor = (Client 4); session = 1; asked = Call requests.Begin; side = None; answer = answers.Ok 0; missed = None; draw = None }
    ∷ record { actor = Insp; session = 3; asked = Call (requests.Ends (codes "t")); side = None; answer = answers.Ends (Some (record { least = ((Num (pos 3)) ∷ []); greatest = ((Num (pos 7)) ∷ []) })); missed = None; draw = None }
    ∷ record { actor = Copy; session = 5; asked = Call (requests.ChunkEnd (codes "t") (Closed ((Num (pos 3)) ∷ [])) ((Num (pos 7)) ∷ []) 3); side = None; answer = answers.End ((Num (pos 7)) ∷ []); missed = None; draw = None }
    ∷ record { actor = (Client 4); session = 1; asked = Call (requests.Do (statements.Delete (codes "t") (conditions.Equal (record { column = codes "id"; value = (Num (pos 6)) } ∷ [])))); side = None; answer = answers.Ok 1; missed = None; draw = None }
    ∷ record { actor = Copy; session = 5; asked = Call (requests.BeginSpan (codes "t") (record { low = (Closed ((Num (pos 3)) ∷ [])); high = (Closed ((Num (pos 7)) ∷ [])) }) 3); side = None; answer = answers.Waits 1; missed = None; draw = None }
    ∷ record { actor = (Client 4); session = 1; asked = Call (requests.Do (statements.Replace (codes "t") None ((Num (pos 2)) ∷ (Num (pos 4)) ∷ (Num (pos 3)) ∷ (Num (pos 1)) ∷ []) None)); side = None; answer = answers.Refused 1136 None; missed = None; draw = None }
    ∷ record { actor = Copy; session = 5; asked = Poll; side = None; answer = answers.TimedOut 1; missed = None; draw = None }
    ∷ record { actor = (Client 4); session = 1; asked = Call requests.Commit; side = None; answer = answers.Ok 0; missed = None; draw = None }
    ∷ record { actor = Copy; session = 5; asked = Call (requests.ChunkEnd (codes "t") (Closed ((Num (pos 3)) ∷ [])) ((Num (pos 7)) ∷ []) 3); side = None; answer = answers.End ((Num (pos 7)) ∷ []); missed = None; draw = None }
    ∷ record { actor = Apply; session = 6; asked = Call (requests.ReadLog 2 4 (codes "t" ∷ codes "_t_ghc" ∷ [])); side = None; answer = answers.Events (record { table = codes "t"; change = changes.Delete ((Num (pos 6)) ∷ (Num (pos 3)) ∷ (Num (pos 3)) ∷ []) } ∷ []) 3; missed = None; draw = None }
    ∷ record { actor = Copy; session = 5; asked = Call (requests.BeginSpan (codes "t") (record { low = (Closed ((Num (pos 3)) ∷ [])); high = (Closed ((Num (pos 7)) ∷ [])) }) 3); side = None; answer = answers.Keys (((Num (pos 3)) ∷ []) ∷ ((Num (pos 7)) ∷ []) ∷ []) ((Num (pos 7)) ∷ []); missed = None; draw = None }
    ∷ record { actor = Apply; session = 6; asked = Call requests.Begin; side = None; answer = answers.Ok 0; missed = None; draw = None }
    ∷ record { actor = Copy; session = 5; asked = Call (requests.CopyRow (codes "t") (codes "_t_gho") map_290 ((Num (pos 3)) ∷ [])); side = None; answer = answers.Ok 1; missed = None; draw = None }
    ∷ record { actor = Apply; session = 6; asked = Call (requests.Do (statements.Delete (codes "_t_gho") (conditions.Equal (record { column = codes "id"; value = (Num (pos 6)) } ∷ [])))); side = None; answer = answers.Ok 0; missed = None; draw = None }
    ∷ record { actor = Copy; session = 5; asked = Call (requests.CopyRow (codes "t") (codes "_t_gho") map_290 ((Num (pos 7)) ∷ [])); side = None; answer = answers.Ok 1; missed = None; draw = None }
    ∷ record { actor = Apply; session = 6; asked = Call requests.Commit; side = None; answer = answers.Ok 0; missed = None; draw = None }
    ∷ record { actor = Copy; session = 5; asked = Call requests.Commit; side = None; answer = answers.Ok 0; missed = None; draw = None }
    ∷ record { actor = Lock; session = 7; asked = Call (requests.Create (record { name = codes "_t_del"; columns = (record { name = codes "id"; kind = Int 4 false; nullable = false; default = None; auto = false } ∷ []); uniques = (record { name = None; places = (0 ∷ []) } ∷ []); indexes = []; comment = codes "ghost-cut-over-sentry"; start = None })); side = None; answer = answers.Ok 0; missed = None; draw = None }
    ∷ record { actor = Lock; session = 7; asked = Call (requests.LockTables (codes "t" ∷ codes "_t_del" ∷ [])); side = None; answer = answers.Ok 0; missed = None; draw = None }
    ∷ record { actor = Insp; session = 3; asked = Call (requests.Do (statements.Insert (codes "_t_ghc") None ((Num (pos 1)) ∷ (Text (codes "cut-over")) ∷ (Text (codes "1")) ∷ []) None)); side = None; answer = answers.Ok 1; missed = None; draw = None }
    ∷ record { actor = Apply; session = 6; asked = Call (requests.ReadLog 3 4 (codes "t" ∷ codes "_t_ghc" ∷ [])); side = None; answer = answers.Events (record { table = codes "_t_ghc"; change = changes.Write ((Num (pos 1)) ∷ (Text (codes "cut-over")) ∷ (Text (codes "1")) ∷ []) } ∷ []) 6; missed = None; draw = None }
    ∷ record { actor = Ren; session = 8; asked = Call (requests.Rename (record { old = codes "t"; new = codes "_t_del" } ∷ record { old = codes "_t_gho"; new = codes "t" } ∷ [])); side = None; answer = answers.Waits 7; missed = None; draw = None }
    ∷ record { actor = Insp; session = 3; asked = Call requests.ShowWaiting; side = None; answer = answers.Waiting (record { session = 8; names = (codes "t" ∷ codes "_t_del" ∷ codes "_t_gho" ∷ []); by = 7 } ∷ []); missed = None; draw = None }
    ∷ record { actor = Lock; session = 7; asked = Call (requests.Drop (codes "_t_del")); side = None; answer = answers.Ok 0; missed = None; draw = None }
    ∷ record { actor = Ren; session = 8; asked = Poll; side = None; answer = answers.TimedOut 1; missed = None; draw = None }
    ∷ record { actor = Lock; session = 7; asked = Call requests.Unlock; side = None; answer = answers.Ok 0; missed = None; draw = None }
    ∷ record { actor = Insp; session = 3; asked = Call requests.ShowTables; side = None; answer = answers.Tables (record { name = codes "_t_ghc"; comment = [] } ∷ record { name = codes "_t_gho"; comment = [] } ∷ record { name = codes "t"; comment = [] } ∷ []); missed = None; draw = None }
    ∷ record { actor = Lock; session = 7; asked = Call (requests.Create (record { name = codes "_t_del"; columns = (record { name = codes "id"; kind = Int 4 false; nullable = false; default = None; auto = false } ∷ []); uniques = (record { name = None; places = (0 ∷ []) } ∷ []); indexes = []; comment = codes "ghost-cut-over-sentry"; start = None })); side = None; answer = answers.Ok 0; missed = None; draw = None }
    ∷ record { actor = Lock; session = 7; asked = Call (requests.LockTables (codes "t" ∷ codes "_t_del" ∷ [])); side = None; answer = answers.Ok 0; missed = None; draw = None }
    ∷ record { actor = Insp; session = 3; asked = Call (requests.Do (statements.Insert (codes "_t_ghc") None ((Num (pos 2)) ∷ (Text (codes "cut-over")) ∷ (Text (codes "2")) ∷ []) None)); side = None; answer = answers.Ok 1; missed = None; draw = None }
    ∷ record { actor = Apply; session = 6; asked = Call (requests.ReadLog 6 4 (codes "t" ∷ codes "_t_ghc" ∷ [])); side = None; answer = answers.Events (record { table = codes "_t_ghc"; change = changes.Write ((Num (pos 2)) ∷ (Text (codes "cut-over")) ∷ (Text (codes "2")) ∷ []) } ∷ []) 7; missed = None; draw = None }
    ∷ record { actor = Ren; session = 8; asked = Call (requests.Rename (record { old = codes "t"; new = codes "_t_del" } ∷ record { old = codes "_t_gho"; new = codes "t" } ∷ [])); side = None; answer = answers.Waits 7; missed = None; draw = None }
    ∷ record { actor = Insp; session = 3; asked = Call requests.ShowWaiting; side = None; answer = answers.Waiting (record { session = 8; names = (codes "t" ∷ codes "_t_del" ∷ codes "_t_gho" ∷ []); by = 7 } ∷ []); missed = None; draw = None }
    ∷ record { actor = Lock; session = 7; asked = Call (requests.Drop (codes "_t_del")); side = None; answer = answers.Ok 0; missed = None; draw = None }
    ∷ record { actor = Ren; session = 8; asked = Poll; side = None; answer = answers.TimedOut 1; missed = None; draw = None }
    ∷ record { actor = Lock; session = 7; asked = Call requests.Unlock; side = None; answer = answers.Ok 0; missed = None; draw = None }
    ∷ record { actor = Insp; session = 3; asked = Call requests.ShowTables; side = None; answer = answers.Tables (record { name = codes "_t_ghc"; comment = [] } ∷ record { name = codes "_t_gho"; comment = [] } ∷ record { name = codes "t"; comment = [] } ∷ []); missed = None; draw = None }
    ∷ []

abbrev reported_290 : WorkedFacts
reported_290 =
    record {
      verdict = verdicts.Reverted (causes.Spent tasks.CutOver (38 ∷ 48 ∷ []));
      ended = (Some (4, 1) ∷ Some (4, 2) ∷ Some (2, 1) ∷ Some (4, 3) ∷ Some (3, 1) ∷ Some (4, 4) ∷ Some (4, 5) ∷ []);
      left = (record { schema = record { name = codes "t"; columns = (record { name = codes "id"; kind = Int 8 false; nullable = false; default = None; auto = false } ∷ record { name = codes "m0"; kind = Int 4 false; nullable = true; default = (Some (Num (pos 1))); auto = false } ∷ record { name = codes "m1"; kind = Int 1 false; nullable = true; default = (Some Null); auto = false } ∷ []); uniques = (record { name = None; places = (0 ∷ []) } ∷ record { name = (Some (codes "u0")); places = (0 ∷ 1 ∷ []) } ∷ record { name = (Some (codes "u1")); places = (2 ∷ []) } ∷ []); indexes = []; comment = []; start = None }; rows = (((Num (pos 3)) ∷ (Num (pos 1)) ∷ (Num (pos 2)) ∷ []) ∷ ((Num (pos 7)) ∷ Null ∷ (Num (pos 7)) ∷ []) ∷ []) } ∷ []);
      alone = (((replies.Ok 1) ∷ []) ∷ ((replies.Ok 0) ∷ (replies.Error 1062) ∷ (replies.Ok 0) ∷ (replies.Ok 0) ∷ []) ∷ ((replies.Ok 1) ∷ []) ∷ ((replies.Error 1136) ∷ []) ∷ ((replies.Error 1366) ∷ []) ∷ ((replies.Rows []) ∷ []) ∷ ((replies.Ok 0) ∷ (replies.Ok 1) ∷ (replies.Error 1136) ∷ (replies.Ok 0) ∷ []) ∷ []);
      over = replicate 49 false ++ replicate 1 true;
      bound = 38479;
      replies = ([]) ∷ (((1, 1, (Some (replies.Ok 1))) ∷ [])) ∷ (((1, 1, (Some (replies.Error 1366))) ∷ [])) ∷ (((1, 1, (Some (replies.Ok 1))) ∷ (2, 1, (Some (replies.Ok 0))) ∷ (2, 2, (Some (replies.Error 1062))) ∷ (2, 3, (Some (replies.Ok 0))) ∷ (2, 4, (Some (replies.Ok 0))) ∷ (3, 1, (Some (replies.Error 1136))) ∷ (4, 1, (Some (replies.Rows []))) ∷ (5, 1, (Some (replies.Ok 0))) ∷ (5, 2, (Some (replies.Ok 1))) ∷ (5, 3, (Some (replies.Error 1136))) ∷ (5, 4, (Some (replies.Ok 0))) ∷ [])) ∷ [];
    }

worked_290 : IsWorked plan_290 journal_290 reported_290
unfolding computing
worked_290 = record { asks = refl; sessions = refl; answers = refl; sides = refl; struck = refl; verdict = refl; ended = refl; order = refl; left = refl; serial = refl; alone = refl; over = refl; online = refl; bounded = refl; replies = refl }

-- Plan 308
abbrev map_308 : List MapColumn
map_308 = (record { kind = Int 4 false; nullable = false; origin = from.Old 0 } ∷ record { kind = VarChar 3; nullable = true; origin = from.Old 1 } ∷ record { kind = Int 4 false; nullable = true; origin = from.Old 2 } ∷ record { kind = Int 4 false; nullable = true; origin = from.Added Null } ∷ [])

abbrev plan_308 : PlanData
plan_308 = record { table = codes "t"; alter = (clauses.Add (record { name = codes "b"; kind = Int 4 false; nullable = None; default = None; auto = false }) Unsaid ∷ []); tables = (record { schema = record { name = codes "t"; columns = (record { name = codes "id"; kind = Int 4 false; nullable = false; default = None; auto = false } ∷ record { name = codes "m"; kind = VarChar 3; nullable = true; default = (Some Null); auto = false } ∷ record { name = codes "v"; kind = Int 4 false; nullable = true; default = (Some Null); auto = false } ∷ []); uniques = (record { name = None; places = (0 ∷ []) } ∷ record { name = (Some (codes "u0")); places = (1 ∷ []) } ∷ []); indexes = []; comment = []; start = None }; rows = (((Num (pos 2)) ∷ Null ∷ (Num (pos 5)) ∷ []) ∷ ((Num (pos 3)) ∷ Null ∷ (Num (pos 5)) ∷ []) ∷ []) } ∷ []); clients = ((record { line = 1; word = (words.Do (statements.Insert (codes "t") None ((Num (pos 1)) ∷ (Num (pos 1)) ∷ Null ∷ []) None)) } ∷ record { line = 2; word = (words.Do (statements.Update (codes "t") (record { column = codes "v"; value = (Num (pos 3)) } ∷ []) (conditions.Equal (record { column = codes "id"; value = (Num (pos 4)) } ∷ [])))) } ∷ record { line = 3; word = (words.Do (statements.Insert (codes "t") None ((Num (pos 4)) ∷ (Num (pos 3)) ∷ Null ∷ []) None)) } ∷ record { line = 4; word = (words.Do (statements.Update (codes "t") (record { column = codes "m"; value = (Num (pos 3)) } ∷ []) (conditions.Equal (record { column = codes "id"; value = (Num (pos 2)) } ∷ [])))) } ∷ record { line = 5; word = (words.Do (statements.Update (codes "t") (record { column = codes "v"; value = (Num (pos 1)) } ∷ []) (conditions.Equal (record { column = codes "id"; value = (Num (pos 4)) } ∷ [])))) } ∷ record { line = 6; word = (words.Do (statements.Update (codes "t") (record { column = codes "m"; value = (Num (pos 3)) } ∷ []) (conditions.Equal (record { column = codes "id"; value = (Num (pos 1)) } ∷ [])))) } ∷ record { line = 7; word = (words.Do (statements.Update (codes "t") (record { column = codes "m"; value = (Num (pos 3)) } ∷ []) (conditions.Equal (record { column = codes "id"; value = (Num (pos 4)) } ∷ [])))) } ∷ []) ∷ (record { line = 1; word = (words.Do (statements.Replace (codes "t") None ((Num (pos 3)) ∷ (Num (pos 3)) ∷ (Num (pos 1)) ∷ []) None)) } ∷ record { line = 2; word = (words.Do (statements.Update (codes "t") (record { column = codes "m"; value = (Num (pos 2)) } ∷ []) (conditions.Equal (record { column = codes "id"; value = (Num (pos 2)) } ∷ [])))) } ∷ record { line = 3; word = (words.Do (statements.Update (codes "t") (record { column = codes "m"; value = (Num (pos 3)) } ∷ []) (conditions.Equal (record { column = codes "id"; value = (Num (pos 1)) } ∷ [])))) } ∷ record { line = 4; word = (words.Do (statements.Delete (codes "t") (conditions.Equal (record { column = codes "id"; value = (Num (pos 3)) } ∷ [])))) } ∷ record { line = 5; word = (words.Do (statements.Insert (codes "t") None ((Num (pos 3)) ∷ Null ∷ (Num (pos 1)) ∷ []) None)) } ∷ record { line = 6; word = (words.Do (statements.Update (codes "t") (record { column = codes "m"; value = Null } ∷ []) (conditions.Equal (record { column = codes "m"; value = (Num (pos 1)) } ∷ [])))) } ∷ []) ∷ []); operator = []; faults = (losses.Turn 28 Copy ∷ []); turns = (record { actor = Insp; times = 4 } ∷ record { actor = Insp; times = 2 } ∷ record { actor = (Client 2); times = 3 } ∷ record { actor = (Client 1); times = 2 } ∷ record { actor = (Client 2); times = 1 } ∷ record { actor = (Client 2); times = 4 } ∷ record { actor = Apply; times = 1 } ∷ record { actor = Copy; times = 4 } ∷ record { actor = (Client 2); times = 6 } ∷ record { actor = (Client 1); times = 1 } ∷ record { actor = (Client 2); times = 2 } ∷ record { actor = (Client 1); times = 6 } ∷ record { actor = Copy; times = 1 } ∷ record { actor = (Client 1); times = 1 } ∷ record { actor = Apply; times = 2 } ∷ record { actor = (Client 1); times = 2 } ∷ record { actor = Apply; times = 1 } ∷ record { actor = Copy; times = 1 } ∷ record { actor = (Client 1); times = 1 } ∷ record { actor = (Client 2); times = 4 } ∷ record { actor = Copy; times = 2 } ∷ record { actor = Copy; times = 1 } ∷ record { actor = (Client 1); times = 2 } ∷ record { actor = Copy; times = 6 } ∷ record { actor = (Client 1); times = 4 } ∷ record { actor = (Client 1); times = 4 } ∷ record { actor = Copy; times = 9 } ∷ record { actor = (Client 2); times = 1 } ∷ record { actor = (Client 1); times = 2 } ∷ record { actor = (Client 2); times = 4 } ∷ record { actor = (Client 1); times = 3 } ∷ record { actor = (Client 1); times = 2 } ∷ record { actor = (Client 1); times = 3 } ∷ record { actor = (Client 2); times = 3 } ∷ record { actor = Apply; times = 1 } ∷ record { actor = (Client 1); times = 1 } ∷ record { actor = (Client 2); times = 1 } ∷ []); options = record { chunk_size = 9; dml_batch_size = 9; default_retries = 60; max_backlog = 100; drain_limit = 2000; client_wait = 5; tool_wait = 3; max_load = 64; turn_limit = 200000; notes = 0; note_every = 100; replica_step = 0; replica_pause = 1; max_lag = 10; resume = false; approve_renamed_columns = false; initially_drop_ghost_table = false; initially_drop_old_table = false; ok_to_drop_table = false; postpone = false; show_history = true; show_turns = true; show_tables = true; show_replies = true } }

abbrev journal_308 : List Entry
journal_308 =
    record { actor = Insp; session = 1; asked = Call requests.ShowTables; side = None; answer = answers.Tables (record { name = codes "t"; comment = [] } ∷ []); missed = None; draw = None }
    ∷ record { actor = Insp; session = 1; asked = Call (requests.Create (record { name = codes "_t_ghc"; columns = (record { name = codes "id"; kind = Int 8 false; nullable = false; default = None; auto = false } ∷ record { name = codes "hint"; kind = VarChar 64; nullable = false; default = None; auto = false } ∷ record { name = codes "value"; kind = VarChar 255; nullable = false; default = None; auto = false } ∷ []); uniques = (record { name = None; places = (0 ∷ []) } ∷ []); indexes = []; comment = []; start = None })); side = None; answer = answers.Ok 0; missed = None; draw = None }
    ∷ record { actor = Insp; session = 1; asked = Call (requests.Create (record { name = codes "_t_gho"; columns = (record { name = codes "id"; kind = Int 4 false; nullable = false; default = None; auto = false } ∷ record { name = codes "m"; kind = VarChar 3; nullable = true; default = (Some Null); auto = false } ∷ record { name = codes "v"; kind = Int 4 false; nullable = true; default = (Some Null); auto = false } ∷ record { name = codes "b"; kind = Int 4 false; nullable = true; default = (Some Null); auto = false } ∷ []); uniques = (record { name = None; places = (0 ∷ []) } ∷ record { name = (Some (codes "u0")); places = (1 ∷ []) } ∷ []); indexes = []; comment = []; start = None })); side = None; answer = answers.Ok 0; missed = None; draw = None }
    ∷ record { actor = Insp; session = 1; asked = Call requests.LogEnd; side = None; answer = answers.At 0; missed = None; draw = None }
    ∷ record { actor = Insp; session = 1; asked = Call (requests.Ends (codes "t")); side = None; answer = answers.Ends (Some (record { least = ((Num (pos 2)) ∷ []); greatest = ((Num (pos 3)) ∷ []) })); missed = None; draw = None }
    ∷ record { actor = (Client 2); session = 2; asked = Call (requests.Do (statements.Replace (codes "t") None ((Num (pos 3)) ∷ (Num (pos 3)) ∷ (Num (pos 1)) ∷ []) None)); side = None; answer = answers.Ok 2; missed = None; draw = None }
    ∷ record { actor = (Client 2); session = 2; asked = Call (requests.Do (statements.Update (codes "t") (record { column = codes "m"; value = (Num (pos 2)) } ∷ []) (conditions.Equal (record { column = codes "id"; value = (Num (pos 2)) } ∷ [])))); side = None; answer = answers.Ok 1; missed = None; draw = None }
    ∷ record { actor = (Client 2); session = 2; asked = Call (requests.Do (statements.Update (codes "t") (record { column = codes "m"; value = (Num (pos 3)) } ∷ []) (conditions.Equal (record { column = codes "id"; value = (Num (pos 1)) } ∷ [])))); side = None; answer = answers.Ok 0; missed = None; draw = None }
    ∷ record { actor = (Client 1); session = 3; asked = Call (requests.Do (statements.Insert (codes "t") None ((Num (pos 1)) ∷ (Num (pos 1)) ∷ Null ∷ []) None)); side = None; answer = answers.Ok 1; missed = None; draw = None }
    ∷ record { actor = (Client 1); session = 3; asked = Call (requests.Do (statements.Update (codes "t") (record { column = codes "v"; value = (Num (pos 3)) } ∷ []) (conditions.Equal (record { column = codes "id"; value = (Num (pos 4)) } ∷ [])))); side = None; answer = answers.Ok 0; missed = None; draw = None }
    ∷ record { actor = (Client 2); session = 2; asked = Call (requests.Do (statements.Delete (codes "t") (conditions.Equal (record { column = codes "id"; value = (Num (pos 3)) } ∷ [])))); side = None; answer = answers.Ok 1; missed = None; draw = None }
    ∷ record { actor = (Client 2); session = 2; asked = Call (requests.Do (statements.Insert (codes "t") None ((Num (pos 3)) ∷ Null ∷ (Num (pos 1)) ∷ []) None)); side = None; answer = answers.Ok 1; missed = None; draw = None }
    ∷ record { actor = (Client 2); session = 2; asked = Call (requests.Do (statements.Update (codes "t") (record { column = codes "m"; value = Null } ∷ []) (conditions.Equal (record { column = codes "m"; value = (Num (pos 1)) } ∷ [])))); side = None; answer = answers.Ok 1; missed = None; draw = None }
    ∷ record { actor = Apply; session = 4; asked = Call (requests.ReadLog 0 9 (codes "t" ∷ codes "_t_ghc" ∷ [])); side = None; answer = answers.Events (record { table = codes "t"; change = changes.Delete ((Num (pos 3)) ∷ Null ∷ (Num (pos 5)) ∷ []) } ∷ record { table = codes "t"; change = changes.Write ((Num (pos 3)) ∷ (Text (codes "3")) ∷ (Num (pos 1)) ∷ []) } ∷ record { table = codes "t"; change = changes.Update ((Num (pos 2)) ∷ Null ∷ (Num (pos 5)) ∷ []) ((Num (pos 2)) ∷ (Text (codes "2")) ∷ (Num (pos 5)) ∷ []) } ∷ record { table = codes "t"; change = changes.Write ((Num (pos 1)) ∷ (Text (codes "1")) ∷ Null ∷ []) } ∷ record { table = codes "t"; change = changes.Delete ((Num (pos 3)) ∷ (Text (codes "3")) ∷ (Num (pos 1)) ∷ []) } ∷ record { table = codes "t"; change = changes.Write ((Num (pos 3)) ∷ Null ∷ (Num (pos 1)) ∷ []) } ∷ record { table = codes "t"; change = changes.Update ((Num (pos 1)) ∷ (Text (codes "1")) ∷ Null ∷ []) ((Num (pos 1)) ∷ Null ∷ Null ∷ []) } ∷ []) 7; missed = None; draw = None }
    ∷ record { actor = Copy; session = 5; asked = Call (requests.ChunkEnd (codes "t") (Closed ((Num (pos 2)) ∷ [])) ((Num (pos 3)) ∷ []) 9); side = None; answer = answers.End ((Num (pos 3)) ∷ []); missed = None; draw = None }
    ∷ record { actor = Copy; session = 5; asked = Call (requests.BeginSpan (codes "t") (record { low = (Closed ((Num (pos 2)) ∷ [])); high = (Closed ((Num (pos 3)) ∷ [])) }) 9); side = None; answer = answers.Keys (((Num (pos 2)) ∷ []) ∷ ((Num (pos 3)) ∷ []) ∷ []) ((Num (pos 3)) ∷ []); missed = None; draw = None }
    ∷ record { actor = Copy; session = 5; asked = Call (requests.CopyRow (codes "t") (codes "_t_gho") map_308 ((Num (pos 2)) ∷ [])); side = None; answer = answers.Ok 1; missed = None; draw = None }
    ∷ record { actor = Copy; session = 5; asked = Call (requests.CopyRow (codes "t") (codes "_t_gho") map_308 ((Num (pos 3)) ∷ [])); side = None; answer = answers.Ok 1; missed = None; draw = None }
    ∷ record { actor = (Client 1); session = 3; asked = Call (requests.Do (statements.Insert (codes "t") None ((Num (pos 4)) ∷ (Num (pos 3)) ∷ Null ∷ []) None)); side = None; answer = answers.Ok 1; missed = None; draw = None }
    ∷ record { actor = (Client 1); session = 3; asked = Call (requests.Do (statements.Update (codes "t") (record { column = codes "m"; value = (Num (pos 3)) } ∷ []) (conditions.Equal (record { column = codes "id"; value = (Num (pos 2)) } ∷ [])))); side = None; answer = answers.Waits 5; missed = None; draw = None }
    ∷ record { actor = (Client 1); session = 3; asked = Poll; side = None; answer = answers.Waits 5; missed = None; draw = None }
    ∷ record { actor = (Client 1); session = 3; asked = Poll; side = None; answer = answers.Waits 5; missed = None; draw = None }
    ∷ record { actor = (Client 1); session = 3; asked = Poll; side = None; answer = answers.Waits 5; missed = None; draw = None }
    ∷ record { actor = (Client 1); session = 3; asked = Poll; side = None; answer = answers.Waits 5; missed = None; draw = None }
    ∷ record { actor = (Client 1); session = 3; asked = Poll; side = None; answer = answers.TimedOut 5; missed = None; draw = None }
    ∷ record { actor = Copy; session = 5; asked = Call requests.Commit; side = None; answer = answers.Ok 0; missed = None; draw = None }
    ∷ record { actor = (Client 1); session = 3; asked = Call (requests.Do (statements.Update (codes "t") (record { column = codes "v"; value = (Num (pos 1)) } ∷ []) (conditions.Equal (record { column = codes "id"; value = (Num (pos 4)) } ∷ [])))); side = None; answer = answers.Ok 1; missed = None; draw = None }
    ∷ record { actor = Copy; session = 5; asked = Cut; side = None; answer = answers.Lost; missed = None; draw = None }
    ∷ record { actor = Apply; session = 4; asked = Call requests.Begin; side = None; answer = answers.Ok 0; missed = None; draw = None }
    ∷ record { actor = Apply; session = 4; asked = Call (requests.Do (statements.Delete (codes "_t_gho") (conditions.Equal (record { column = codes "id"; value = (Num (pos 3)) } ∷ [])))); side = None; answer = answers.Ok 1; missed = None; draw = None }
    ∷ record { actor = (Client 1); session = 3; asked = Call (requests.Do (statements.Update (codes "t") (record { column = codes "m"; value = (Num (pos 3)) } ∷ []) (conditions.Equal (record { column = codes "id"; value = (Num (pos 1)) } ∷ [])))); side = None; answer = answers.Refused 1062 None; missed = None; draw = None }
    ∷ record { actor = (Client 1); session = 3; asked = Call (requests.Do (statements.Update (codes "t") (record { column = codes "m"; value = (Num (pos 3)) } ∷ []) (conditions.Equal (record { column = codes "id"; value = (Num (pos 4)) } ∷ [])))); side = None; answer = answers.Ok 0; missed = None; draw = None }
    ∷ record { actor = Apply; session = 4; asked = Call (requests.Do (statements.Replace (codes "_t_gho") None ((Num (pos 3)) ∷ (Text (codes "3")) ∷ (Num (pos 1)) ∷ Null ∷ []) None)); side = None; answer = answers.Ok 1; missed = None; draw = None }
    ∷ record { actor = Apply; session = 4; asked = Call (requests.Do (statements.Delete (codes "_t_gho") (conditions.Equal (record { column = codes "id"; value = (Num (pos 2)) } ∷ [])))); side = None; answer = answers.Ok 1; missed = None; draw = None }
    ∷ record { actor = Apply; session = 4; asked = Call (requests.Do (statements.Replace (codes "_t_gho") None ((Num (pos 2)) ∷ (Text (codes "2")) ∷ (Num (pos 5)) ∷ Null ∷ []) None)); side = None; answer = answers.Ok 1; missed = None; draw = None }
    ∷ record { actor = Lock; session = 6; asked = Call (requests.Create (record { name = codes "_t_del"; columns = (record { name = codes "id"; kind = Int 4 false; nullable = false; default = None; auto = false } ∷ []); uniques = (record { name = None; places = (0 ∷ []) } ∷ []); indexes = []; comment = codes "ghost-cut-over-sentry"; start = None })); side = None; answer = answers.Ok 0; missed = None; draw = None }
    ∷ record { actor = Apply; session = 4; asked = Call (requests.Do (statements.Replace (codes "_t_gho") None ((Num (pos 1)) ∷ (Text (codes "1")) ∷ Null ∷ Null ∷ []) None)); side = None; answer = answers.Ok 1; missed = None; draw = None }
    ∷ record { actor = Lock; session = 6; asked = Call (requests.LockTables (codes "t" ∷ codes "_t_del" ∷ [])); side = None; answer = answers.Ok 0; missed = None; draw = None }
    ∷ record { actor = Insp; session = 1; asked = Call (requests.Do (statements.Insert (codes "_t_ghc") None ((Num (pos 1)) ∷ (Text (codes "cut-over")) ∷ (Text (codes "1")) ∷ []) None)); side = None; answer = answers.Ok 1; missed = None; draw = None }
    ∷ record { actor = Apply; session = 4; asked = Call (requests.Do (statements.Delete (codes "_t_gho") (conditions.Equal (record { column = codes "id"; value = (Num (pos 3)) } ∷ [])))); side = None; answer = answers.Ok 1; missed = None; draw = None }
    ∷ record { actor = Apply; session = 4; asked = Call (requests.Do (statements.Replace (codes "_t_gho") None ((Num (pos 3)) ∷ Null ∷ (Num (pos 1)) ∷ Null ∷ []) None)); side = None; answer = answers.Ok 1; missed = None; draw = None }
    ∷ record { actor = Apply; session = 4; asked = Call (requests.Do (statements.Delete (codes "_t_gho") (conditions.Equal (record { column = codes "id"; value = (Num (pos 1)) } ∷ [])))); side = None; answer = answers.Ok 1; missed = None; draw = None }
    ∷ record { actor = Apply; session = 4; asked = Call (requests.Do (statements.Replace (codes "_t_gho") None ((Num (pos 1)) ∷ Null ∷ Null ∷ Null ∷ []) None)); side = None; answer = answers.Ok 1; missed = None; draw = None }
    ∷ record { actor = Apply; session = 4; asked = Call requests.Commit; side = None; answer = answers.Ok 0; missed = None; draw = None }
    ∷ record { actor = Apply; session = 4; asked = Call (requests.ReadLog 7 9 (codes "t" ∷ codes "_t_ghc" ∷ [])); side = None; answer = answers.Events (record { table = codes "t"; change = changes.Write ((Num (pos 4)) ∷ (Text (codes "3")) ∷ Null ∷ []) } ∷ record { table = codes "t"; change = changes.Update ((Num (pos 4)) ∷ (Text (codes "3")) ∷ Null ∷ []) ((Num (pos 4)) ∷ (Text (codes "3")) ∷ (Num (pos 1)) ∷ []) } ∷ record { table = codes "_t_ghc"; change = changes.Write ((Num (pos 1)) ∷ (Text (codes "cut-over")) ∷ (Text (codes "1")) ∷ []) } ∷ []) 21; missed = None; draw = None }
    ∷ record { actor = Apply; session = 4; asked = Call requests.Begin; side = None; answer = answers.Ok 0; missed = None; draw = None }
    ∷ record { actor = Apply; session = 4; asked = Call (requests.Do (statements.Replace (codes "_t_gho") None ((Num (pos 4)) ∷ (Text (codes "3")) ∷ Null ∷ Null ∷ []) None)); side = None; answer = answers.Ok 1; missed = None; draw = None }
    ∷ record { actor = Apply; session = 4; asked = Call (requests.Do (statements.Update (codes "_t_gho") (record { column = codes "id"; value = (Num (pos 4)) } ∷ record { column = codes "m"; value = (Text (codes "3")) } ∷ record { column = codes "v"; value = (Num (pos 1)) } ∷ record { column = codes "b"; value = Null } ∷ []) (conditions.Equal (record { column = codes "id"; value = (Num (pos 4)) } ∷ [])))); side = None; answer = answers.Ok 1; missed = None; draw = None }
    ∷ record { actor = Apply; session = 4; asked = Call requests.Commit; side = None; answer = answers.Ok 0; missed = None; draw = None }
    ∷ record { actor = Ren; session = 7; asked = Call (requests.Rename (record { old = codes "t"; new = codes "_t_del" } ∷ record { old = codes "_t_gho"; new = codes "t" } ∷ [])); side = None; answer = answers.Waits 6; missed = None; draw = None }
    ∷ record { actor = Insp; session = 1; asked = Call requests.ShowWaiting; side = None; answer = answers.Waiting (record { session = 7; names = (codes "t" ∷ codes "_t_del" ∷ codes "_t_gho" ∷ []); by = 6 } ∷ []); missed = None; draw = None }
    ∷ record { actor = Lock; session = 6; asked = Call (requests.Drop (codes "_t_del")); side = None; answer = answers.Ok 0; missed = None; draw = None }
    ∷ record { actor = Ren; session = 7; asked = Poll; side = None; answer = answers.Waits 6; missed = None; draw = None }
    ∷ record { actor = Lock; session = 6; asked = Call requests.Unlock; side = None; answer = answers.Ok 0; missed = None; draw = None }
    ∷ record { actor = Ren; session = 7; asked = Poll; side = None; answer = answers.Ok 0; missed = None; draw = None }
    ∷ record { actor = Insp; session = 1; asked = Call requests.ShowTables; side = None; answer = answers.Tables (record { name = codes "_t_del"; comment = [] } ∷ record { name = codes "_t_ghc"; comment = [] } ∷ record { name = codes "t"; comment = [] } ∷ []); missed = None; draw = None }
    ∷ record { actor = Insp; session = 1; asked = Call (requests.Drop (codes "_t_ghc")); side = None; answer = answers.Ok 0; missed = None; draw = None }
    ∷ []

abbrev reported_308 : WorkedFacts
reported_308 =
    record {
      verdict = verdicts.Done;
      ended = (Some (2, 1) ∷ Some (2, 2) ∷ Some (2, 3) ∷ Some (1, 1) ∷ Some (1, 2) ∷ Some (2, 4) ∷ Some (2, 5) ∷ Some (2, 6) ∷ Some (1, 3) ∷ Some (1, 4) ∷ Some (1, 5) ∷ Some (1, 6) ∷ Some (1, 7) ∷ None ∷ []);
      left = (record { schema = record { name = codes "t"; columns = (record { name = codes "id"; kind = Int 4 false; nullable = false; default = None; auto = false } ∷ record { name = codes "m"; kind = VarChar 3; nullable = true; default = (Some Null); auto = false } ∷ record { name = codes "v"; kind = Int 4 false; nullable = true; default = (Some Null); auto = false } ∷ record { name = codes "b"; kind = Int 4 false; nullable = true; default = (Some Null); auto = false } ∷ []); uniques = (record { name = None; places = (0 ∷ []) } ∷ record { name = (Some (codes "u0")); places = (1 ∷ []) } ∷ []); indexes = []; comment = []; start = None }; rows = (((Num (pos 1)) ∷ Null ∷ Null ∷ Null ∷ []) ∷ ((Num (pos 2)) ∷ (Text (codes "2")) ∷ (Num (pos 5)) ∷ Null ∷ []) ∷ ((Num (pos 3)) ∷ Null ∷ (Num (pos 1)) ∷ Null ∷ []) ∷ ((Num (pos 4)) ∷ (Text (codes "3")) ∷ (Num (pos 1)) ∷ Null ∷ []) ∷ []) } ∷ []);
      alone = (((replies.Ok 2) ∷ []) ∷ ((replies.Ok 1) ∷ []) ∷ ((replies.Ok 0) ∷ []) ∷ ((replies.Ok 1) ∷ []) ∷ ((replies.Ok 0) ∷ []) ∷ ((replies.Ok 1) ∷ []) ∷ ((replies.Ok 1) ∷ []) ∷ ((replies.Ok 1) ∷ []) ∷ ((replies.Ok 1) ∷ []) ∷ ((replies.Error 1205) ∷ []) ∷ ((replies.Ok 1) ∷ []) ∷ ((replies.Error 1062) ∷ []) ∷ ((replies.Ok 0) ∷ []) ∷ [] ∷ []);
      over = replicate 56 false ++ replicate 1 true;
      bound = 3725985;
      replies = (((1, 1, (Some (replies.Ok 1))) ∷ (2, 1, (Some (replies.Ok 0))) ∷ (3, 1, (Some (replies.Ok 1))) ∷ (4, 1, (Some (replies.Error 1205))) ∷ (5, 1, (Some (replies.Ok 1))) ∷ (6, 1, (Some (replies.Error 1062))) ∷ (7, 1, (Some (replies.Ok 0))) ∷ [])) ∷ (((1, 1, (Some (replies.Ok 2))) ∷ (2, 1, (Some (replies.Ok 1))) ∷ (3, 1, (Some (replies.Ok 0))) ∷ (4, 1, (Some (replies.Ok 1))) ∷ (5, 1, (Some (replies.Ok 1))) ∷ (6, 1, (Some (replies.Ok 1))) ∷ [])) ∷ [];
    }

worked_308 : IsWorked plan_308 journal_308 reported_308
unfolding computing
worked_308 = record { asks = refl; sessions = refl; answers = refl; sides = refl; struck = refl; verdict = refl; ended = refl; order = refl; left = refl; serial = refl; alone = refl; over = refl; online = refl; bounded = refl; replies = refl }

-- Plan 315
abbrev map_315 : List MapColumn
map_315 = (record { kind = Int 4 false; nullable = false; origin = from.Old 0 } ∷ record { kind = VarChar 1; nullable = false; origin = from.Old 1 } ∷ record { kind = Int 4 false; nullable = true; origin = from.Old 2 } ∷ record { kind = Int 8 false; nullable = true; origin = from.Old 3 } ∷ [])

abbrev plan_315 : PlanData
plan_315 = record { table = codes "t"; alter = (clauses.Change (codes "v") (record { name = codes "v"; kind = Int 8 false; nullable = None; default = None; auto = false }) Unsaid ∷ clauses.Change (codes "c") (record { name = codes "c"; kind = VarChar 1; nullable = (Some false); default = None; auto = false }) Unsaid ∷ []); tables = (record { schema = record { name = codes "t"; columns = (record { name = codes "a"; kind = Int 4 false; nullable = false; default = None; auto = false } ∷ record { name = codes "c"; kind = VarChar 4; nullable = false; default = None; auto = false } ∷ record { name = codes "m0"; kind = Int 4 false; nullable = true; default = (Some Null); auto = false } ∷ record { name = codes "v"; kind = Int 4 false; nullable = true; default = (Some (Num (pos 5))); auto = false } ∷ []); uniques = (record { name = None; places = (0 ∷ 1 ∷ []) } ∷ record { name = (Some (codes "u0")); places = (2 ∷ []) } ∷ []); indexes = []; comment = []; start = None }; rows = (((Num (pos 1)) ∷ (Text (codes "1")) ∷ (Num (pos 3)) ∷ Null ∷ []) ∷ ((Num (pos 2)) ∷ (Text (codes "b")) ∷ Null ∷ Null ∷ []) ∷ ((Num (pos 3)) ∷ (Text (codes "g")) ∷ (Num (pos 1)) ∷ Null ∷ []) ∷ ((Num (pos 5)) ∷ (Text (codes "g")) ∷ Null ∷ (Num (pos 1)) ∷ []) ∷ []) } ∷ record { schema = record { name = codes "_t_gho"; columns = (record { name = codes "id"; kind = Int 4 false; nullable = false; default = None; auto = false } ∷ []); uniques = (record { name = None; places = (0 ∷ []) } ∷ []); indexes = []; comment = []; start = None }; rows = [] } ∷ []); clients = ((record { line = 1; word = words.Begin } ∷ record { line = 2; word = words.Commit } ∷ []) ∷ []); operator = (record { word = commanded.Wait; units = 4 } ∷ record { word = commanded.NoThrottle; units = 1 } ∷ record { word = commanded.NoThrottle; units = 1 } ∷ record { word = commanded.Throttle; units = 1 } ∷ record { word = commanded.NoThrottle; units = 1 } ∷ []); faults = (losses.Nth Ren 3 sides_at.Before ∷ losses.Nth Ren 5 sides_at.After ∷ losses.Nth Copy 4 sides_at.After ∷ []); turns = []; options = record { chunk_size = 1; dml_batch_size = 1; default_retries = 1; max_backlog = 100; drain_limit = 2000; client_wait = 1; tool_wait = 1; max_load = 64; turn_limit = 200000; notes = 0; note_every = 100; replica_step = 0; replica_pause = 1; max_lag = 10; resume = false; approve_renamed_columns = true; initially_drop_ghost_table = true; initially_drop_old_table = false; ok_to_drop_table = false; postpone = false; show_history = true; show_turns = true; show_tables = true; show_replies = true } }

abbrev journal_315 : List Entry
journal_315 =
    record { actor = Op; session = 0; asked = Command commanded.Wait; side = None; answer = answers.Ok 0; missed = None; draw = None }
    ∷ record { actor = Insp; session = 1; asked = Call requests.ShowTables; side = None; answer = answers.Tables (record { name = codes "_t_gho"; comment = [] } ∷ record { name = codes "t"; comment = [] } ∷ []); missed = None; draw = None }
    ∷ record { actor = (Client 1); session = 2; asked = Call requests.Begin; side = None; answer = answers.Ok 0; missed = None; draw = None }
    ∷ record { actor = Op; session = 0; asked = Command commanded.Wait; side = None; answer = answers.Ok 0; missed = None; draw = None }
    ∷ record { actor = Insp; session = 1; asked = Call (requests.Drop (codes "_t_gho")); side = None; answer = answers.Ok 0; missed = None; draw = None }
    ∷ record { actor = (Client 1); session = 2; asked = Call requests.Commit; side = None; answer = answers.Ok 0; missed = None; draw = None }
    ∷ record { actor = Op; session = 0; asked = Command commanded.Wait; side = None; answer = answers.Ok 0; missed = None; draw = None }
    ∷ record { actor = Insp; session = 1; asked = Call (requests.Create (record { name = codes "_t_ghc"; columns = (record { name = codes "id"; kind = Int 8 false; nullable = false; default = None; auto = false } ∷ record { name = codes "hint"; kind = VarChar 64; nullable = false; default = None; auto = false } ∷ record { name = codes "value"; kind = VarChar 255; nullable = false; default = None; auto = false } ∷ []); uniques = (record { name = None; places = (0 ∷ []) } ∷ []); indexes = []; comment = []; start = None })); side = None; answer = answers.Ok 0; missed = None; draw = None }
    ∷ record { actor = Op; session = 0; asked = Command commanded.Wait; side = None; answer = answers.Ok 0; missed = None; draw = None }
    ∷ record { actor = Insp; session = 1; asked = Call (requests.Create (record { name = codes "_t_gho"; columns = (record { name = codes "a"; kind = Int 4 false; nullable = false; default = None; auto = false } ∷ record { name = codes "c"; kind = VarChar 1; nullable = false; default = None; auto = false } ∷ record { name = codes "m0"; kind = Int 4 false; nullable = true; default = (Some Null); auto = false } ∷ record { name = codes "v"; kind = Int 8 false; nullable = true; default = (Some Null); auto = false } ∷ []); uniques = (record { name = None; places = (0 ∷ 1 ∷ []) } ∷ record { name = (Some (codes "u0")); places = (2 ∷ []) } ∷ []); indexes = []; comment = []; start = None })); side = None; answer = answers.Ok 0; missed = None; draw = None }
    ∷ record { actor = Op; session = 0; asked = Command commanded.NoThrottle; side = None; answer = answers.Ok 0; missed = None; draw = None }
    ∷ record { actor = Insp; session = 1; asked = Call requests.LogEnd; side = None; answer = answers.At 0; missed = None; draw = None }
    ∷ record { actor = Op; session = 0; asked = Command commanded.NoThrottle; side = None; answer = answers.Ok 0; missed = None; draw = None }
    ∷ record { actor = Insp; session = 1; asked = Call (requests.Ends (codes "t")); side = None; answer = answers.Ends (Some (record { least = ((Num (pos 1)) ∷ (Text (codes "1")) ∷ []); greatest = ((Num (pos 5)) ∷ (Text (codes "g")) ∷ []) })); missed = None; draw = None }
    ∷ record { actor = Copy; session = 3; asked = Call (requests.ChunkEnd (codes "t") (Closed ((Num (pos 1)) ∷ (Text (codes "1")) ∷ [])) ((Num (pos 5)) ∷ (Text (codes "g")) ∷ []) 1); side = None; answer = answers.End ((Num (pos 1)) ∷ (Text (codes "1")) ∷ []); missed = None; draw = None }
    ∷ record { actor = Op; session = 0; asked = Command commanded.Throttle; side = None; answer = answers.Ok 0; missed = None; draw = None }
    ∷ record { actor = Copy; session = 3; asked = Call (requests.BeginSpan (codes "t") (record { low = (Closed ((Num (pos 1)) ∷ (Text (codes "1")) ∷ [])); high = (Closed ((Num (pos 1)) ∷ (Text (codes "1")) ∷ [])) }) 1); side = None; answer = answers.Keys (((Num (pos 1)) ∷ (Text (codes "1")) ∷ []) ∷ []) ((Num (pos 1)) ∷ (Text (codes "1")) ∷ []); missed = None; draw = None }
    ∷ record { actor = Op; session = 0; asked = Command commanded.NoThrottle; side = None; answer = answers.Ok 0; missed = None; draw = None }
    ∷ record { actor = Copy; session = 3; asked = Call (requests.CopyRow (codes "t") (codes "_t_gho") map_315 ((Num (pos 1)) ∷ (Text (codes "1")) ∷ [])); side = None; answer = answers.Ok 1; missed = None; draw = None }
    ∷ record { actor = Copy; session = 3; asked = Call requests.Commit; side = (Some sides_at.After); answer = answers.Lost; missed = (Some (answers.Ok 0)); draw = None }
    ∷ []

abbrev reported_315 : WorkedFacts
reported_315 =
    record {
      verdict = verdicts.Reverted (causes.Spent (tasks.Chunk 1) (20 ∷ []));
      ended = (Some (1, 1) ∷ []);
      left = (record { schema = record { name = codes "t"; columns = (record { name = codes "a"; kind = Int 4 false; nullable = false; default = None; auto = false } ∷ record { name = codes "c"; kind = VarChar 4; nullable = false; default = None; auto = false } ∷ record { name = codes "m0"; kind = Int 4 false; nullable = true; default = (Some Null); auto = false } ∷ record { name = codes "v"; kind = Int 4 false; nullable = true; default = (Some (Num (pos 5))); auto = false } ∷ []); uniques = (record { name = None; places = (0 ∷ 1 ∷ []) } ∷ record { name = (Some (codes "u0")); places = (2 ∷ []) } ∷ []); indexes = []; comment = []; start = None }; rows = (((Num (pos 1)) ∷ (Text (codes "1")) ∷ (Num (pos 3)) ∷ Null ∷ []) ∷ ((Num (pos 2)) ∷ (Text (codes "b")) ∷ Null ∷ Null ∷ []) ∷ ((Num (pos 3)) ∷ (Text (codes "g")) ∷ (Num (pos 1)) ∷ Null ∷ []) ∷ ((Num (pos 5)) ∷ (Text (codes "g")) ∷ Null ∷ (Num (pos 1)) ∷ []) ∷ []) } ∷ []);
      alone = (((replies.Ok 0) ∷ (replies.Ok 0) ∷ []) ∷ []);
      over = replicate 19 false ++ replicate 1 true;
      bound = 918;
      replies = (((1, 1, (Some (replies.Ok 0))) ∷ (1, 2, (Some (replies.Ok 0))) ∷ [])) ∷ [];
    }

worked_315 : IsWorked plan_315 journal_315 reported_315
unfolding computing
worked_315 = record { asks = refl; sessions = refl; answers = refl; sides = refl; struck = refl; verdict = refl; ended = refl; order = refl; left = refl; serial = refl; alone = refl; over = refl; online = refl; bounded = refl; replies = refl }

-- Plan 320
abbrev map_320 : List MapColumn
map_320 = (record { kind = VarChar 3; nullable = false; origin = from.Old 0 } ∷ record { kind = VarChar 3; nullable = true; origin = from.Old 1 } ∷ record { kind = Int 4 false; nullable = true; origin = from.Added Null } ∷ [])

abbrev plan_320 : PlanData
plan_320 = record { table = codes "t"; alter = (clauses.Add (record { name = codes "b"; kind = Int 4 false; nullable = None; default = None; auto = false }) Unsaid ∷ []); tables = (record { schema = record { name = codes "t"; columns = (record { name = codes "id"; kind = VarChar 3; nullable = false; default = None; auto = false } ∷ record { name = codes "m0"; kind = VarChar 3; nullable = true; default = (Some Null); auto = false } ∷ []); uniques = (record { name = None; places = (0 ∷ []) } ∷ record { name = (Some (codes "u0")); places = (1 ∷ []) } ∷ []); indexes = []; comment = []; start = None }; rows = (((Text (codes "5")) ∷ (Text (codes "f")) ∷ []) ∷ []) } ∷ []); clients = ((record { line = 1; word = (words.Do (statements.Select (codes "t") (shown.Columns (codes "id" ∷ [])) (conditions.Equal (record { column = codes "id"; value = (Num (pos 2)) } ∷ [])))) } ∷ record { line = 2; word = words.Begin } ∷ record { line = 3; word = words.Rollback } ∷ record { line = 4; word = (words.Do (statements.Update (codes "t") (record { column = codes "id"; value = (Text (codes "d")) } ∷ record { column = codes "m0"; value = Null } ∷ []) (conditions.Equal (record { column = codes "m0"; value = (Text (codes "f")) } ∷ [])))) } ∷ []) ∷ []); operator = []; faults = (losses.Nth Lock 1 sides_at.After ∷ losses.Turn 54 Op ∷ losses.Turn 30 Copy ∷ []); turns = (record { actor = Insp; times = 5 } ∷ record { actor = Lock; times = 3 } ∷ record { actor = Op; times = 1 } ∷ record { actor = Insp; times = 5 } ∷ record { actor = (Client 1); times = 3 } ∷ record { actor = Copy; times = 1 } ∷ record { actor = Lock; times = 3 } ∷ record { actor = Copy; times = 1 } ∷ record { actor = Lock; times = 5 } ∷ record { actor = Lock; times = 1 } ∷ record { actor = Op; times = 2 } ∷ record { actor = Lock; times = 1 } ∷ record { actor = Insp; times = 1 } ∷ record { actor = Ren; times = 1 } ∷ record { actor = Op; times = 2 } ∷ record { actor = Ren; times = 3 } ∷ record { actor = Insp; times = 5 } ∷ record { actor = Copy; times = 3 } ∷ record { actor = Insp; times = 1 } ∷ record { actor = Apply; times = 3 } ∷ record { actor = Apply; times = 2 } ∷ []); options = record { chunk_size = 1000; dml_batch_size = 1; default_retries = 1; max_backlog = 100; drain_limit = 2000; client_wait = 2; tool_wait = 30; max_load = 1; turn_limit = 200000; notes = 0; note_every = 100; replica_step = 0; replica_pause = 1; max_lag = 10; resume = false; approve_renamed_columns = true; initially_drop_ghost_table = false; initially_drop_old_table = false; ok_to_drop_table = false; postpone = false; show_history = true; show_turns = true; show_tables = true; show_replies = true } }

abbrev journal_320 : List Entry
journal_320 =
    record { actor = Insp; session = 1; asked = Call requests.ShowTables; side = None; answer = answers.Tables (record { name = codes "t"; comment = [] } ∷ []); missed = None; draw = None }
    ∷ record { actor = Insp; session = 1; asked = Call (requests.Create (record { name = codes "_t_ghc"; columns = (record { name = codes "id"; kind = Int 8 false; nullable = false; default = None; auto = false } ∷ record { name = codes "hint"; kind = VarChar 64; nullable = false; default = None; auto = false } ∷ record { name = codes "value"; kind = VarChar 255; nullable = false; default = None; auto = false } ∷ []); uniques = (record { name = None; places = (0 ∷ []) } ∷ []); indexes = []; comment = []; start = None })); side = None; answer = answers.Ok 0; missed = None; draw = None }
    ∷ record { actor = Insp; session = 1; asked = Call (requests.Create (record { name = codes "_t_gho"; columns = (record { name = codes "id"; kind = VarChar 3; nullable = false; default = None; auto = false } ∷ record { name = codes "m0"; kind = VarChar 3; nullable = true; default = (Some Null); auto = false } ∷ record { name = codes "b"; kind = Int 4 false; nullable = true; default = (Some Null); auto = false } ∷ []); uniques = (record { name = None; places = (0 ∷ []) } ∷ record { name = (Some (codes "u0")); places = (1 ∷ []) } ∷ []); indexes = []; comment = []; start = None })); side = None; answer = answers.Ok 0; missed = None; draw = None }
    ∷ record { actor = Insp; session = 1; asked = Call requests.LogEnd; side = None; answer = answers.At 0; missed = None; draw = None }
    ∷ record { actor = Insp; session = 1; asked = Call (requests.Ends (codes "t")); side = None; answer = answers.Ends (Some (record { least = ((Text (codes "5")) ∷ []); greatest = ((Text (codes "5")) ∷ []) })); missed = None; draw = None }
    ∷ record { actor = (Client 1); session = 2; asked = Call (requests.Do (statements.Select (codes "t") (shown.Columns (codes "id" ∷ [])) (conditions.Equal (record { column = codes "id"; value = (Num (pos 2)) } ∷ [])))); side = None; answer = answers.Rows []; missed = None; draw = None }
    ∷ record { actor = (Client 1); session = 2; asked = Call requests.Begin; side = None; answer = answers.Ok 0; missed = None; draw = None }
    ∷ record { actor = (Client 1); session = 2; asked = Call requests.Rollback; side = None; answer = answers.Ok 0; missed = None; draw = None }
    ∷ record { actor = Copy; session = 3; asked = Call (requests.ChunkEnd (codes "t") (Closed ((Text (codes "5")) ∷ [])) ((Text (codes "5")) ∷ []) 1000); side = None; answer = answers.End ((Text (codes "5")) ∷ []); missed = None; draw = None }
    ∷ record { actor = Copy; session = 3; asked = Call (requests.BeginSpan (codes "t") (record { low = (Closed ((Text (codes "5")) ∷ [])); high = (Closed ((Text (codes "5")) ∷ [])) }) 1000); side = None; answer = answers.Keys (((Text (codes "5")) ∷ []) ∷ []) ((Text (codes "5")) ∷ []); missed = None; draw = None }
    ∷ record { actor = Copy; session = 3; asked = Call (requests.CopyRow (codes "t") (codes "_t_gho") map_320 ((Text (codes "5")) ∷ [])); side = None; answer = answers.Ok 1; missed = None; draw = None }
    ∷ record { actor = Copy; session = 3; asked = Call requests.Commit; side = None; answer = answers.Ok 0; missed = None; draw = None }
    ∷ record { actor = Lock; session = 4; asked = Call (requests.Create (record { name = codes "_t_del"; columns = (record { name = codes "id"; kind = Int 4 false; nullable = false; default = None; auto = false } ∷ []); uniques = (record { name = None; places = (0 ∷ []) } ∷ []); indexes = []; comment = codes "ghost-cut-over-sentry"; start = None })); side = (Some sides_at.After); answer = answers.Lost; missed = (Some (answers.Ok 0)); draw = None }
    ∷ record { actor = (Client 1); session = 2; asked = Call (requests.Do (statements.Update (codes "t") (record { column = codes "id"; value = (Text (codes "d")) } ∷ record { column = codes "m0"; value = Null } ∷ []) (conditions.Equal (record { column = codes "m0"; value = (Text (codes "f")) } ∷ [])))); side = None; answer = answers.Ok 1; missed = None; draw = None }
    ∷ record { actor = Insp; session = 1; asked = Call requests.ShowTables; side = None; answer = answers.Tables (record { name = codes "_t_del"; comment = codes "ghost-cut-over-sentry" } ∷ record { name = codes "_t_ghc"; comment = [] } ∷ record { name = codes "_t_gho"; comment = [] } ∷ record { name = codes "t"; comment = [] } ∷ []); missed = None; draw = None }
    ∷ record { actor = Insp; session = 1; asked = Call (requests.Drop (codes "_t_del")); side = None; answer = answers.Ok 0; missed = None; draw = None }
    ∷ []

abbrev reported_320 : WorkedFacts
reported_320 =
    record {
      verdict = verdicts.Reverted (causes.Spent tasks.CutOver (13 ∷ []));
      ended = (Some (1, 1) ∷ Some (1, 2) ∷ Some (1, 3) ∷ []);
      left = (record { schema = record { name = codes "t"; columns = (record { name = codes "id"; kind = VarChar 3; nullable = false; default = None; auto = false } ∷ record { name = codes "m0"; kind = VarChar 3; nullable = true; default = (Some Null); auto = false } ∷ []); uniques = (record { name = None; places = (0 ∷ []) } ∷ record { name = (Some (codes "u0")); places = (1 ∷ []) } ∷ []); indexes = []; comment = []; start = None }; rows = (((Text (codes "d")) ∷ Null ∷ []) ∷ []) } ∷ []);
      alone = (((replies.Rows []) ∷ []) ∷ ((replies.Ok 0) ∷ (replies.Ok 0) ∷ []) ∷ ((replies.Ok 1) ∷ []) ∷ []);
      over = replicate 15 false ++ replicate 1 true;
      bound = 16513;
      replies = (((1, 1, (Some (replies.Rows []))) ∷ (2, 1, (Some (replies.Ok 0))) ∷ (2, 2, (Some (replies.Ok 0))) ∷ (3, 1, (Some (replies.Ok 1))) ∷ [])) ∷ [];
    }

worked_320 : IsWorked plan_320 journal_320 reported_320
unfolding computing
worked_320 = record { asks = refl; sessions = refl; answers = refl; sides = refl; struck = refl; verdict = refl; ended = refl; order = refl; left = refl; serial = refl; alone = refl; over = refl; online = refl; bounded = refl; replies = refl }
