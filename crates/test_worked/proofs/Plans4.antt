-- Random plans, replayed; their journals are those of an independent model.
use Rattle.std.proofs.Common.{pos, true, false, List, [], ◌∷◌, ◌++◌, Some, None, refl}
use Rattle.std.specs.Prelude.{codes, replicate}
use Rattle.base_values.specs.declared.value.Value.TheVariants.{Null, Num, Text, Blob}
use Rattle.base_values.specs.declared.kind.Kind.TheVariants.{Int, VarChar, VarBinary}
use Rattle.base_values.specs.declared.span.Bound.TheVariants.{Open, Closed}
use Rattle.base_values.specs.declared.row_conversion.clause.Clause.TheVariants as clauses
use Rattle.base_values.specs.declared.row_conversion.clause.ColumnPosition.TheVariants.{Unsaid, First}
use Rattle.base_values.specs.declared.row_conversion.map.MapColumn.{MapColumn}
use Rattle.base_values.specs.declared.row_conversion.map.Origin.TheVariants as from
use Rattle.base_values.specs.declared.event.Change.TheVariants as changes
use Rattle.base_script.specs.declared.actor.Actor.TheVariants.{Op, Insp, Copy, Apply, Lock, Ren, Client}
use Rattle.base_script.specs.declared.actor.Side.TheVariants as sides_at
use Rattle.base_script.specs.declared.loss.Loss.TheVariants as losses
use Rattle.base_script.specs.declared.operator.OperatorWord.TheVariants as commanded
use Rattle.base_script.specs.declared.script.ScriptWord.TheVariants as words
use Rattle.base_script.specs.declared.statement.Statement.TheVariants as statements
use Rattle.base_script.specs.declared.statement.Condition.TheVariants as conditions
use Rattle.base_script.specs.declared.statement.Shown.TheVariants as shown
use Rattle.base_script.specs.declared.statement.Sign.TheVariants as signs
use Rattle.server_model.specs.declared.transaction.Reply.TheVariants as replies
use Rattle.server_model.specs.declared.request.Request.TheVariants as requests
use Rattle.server_model.specs.declared.answer.Answer.TheVariants as answers
use Rattle.server_model.specs.declared.entry.Entry.{Entry}
use Rattle.server_model.specs.declared.entry.Asked.TheVariants.{Call, Poll, Command, Cut}
use Rattle.server_model.specs.declared.outcome.Task.TheVariants as tasks
use Rattle.server_model.specs.declared.outcome.Cause.TheVariants as causes
use Rattle.server_model.specs.declared.outcome.Verdict.TheVariants as verdicts
use Rattle.plan_data.specs.PlanData.{PlanData}
use Rattle.test_worked.proofs.Computing.{computing, WorkedFacts, IsWorked}

-- Plan 187
abbrev map_187 : List MapColumn
map_187 = (record { kind = Int 4 false; nullable = false; origin = from.Old 0 } ∷ record { kind = Int 4 false; nullable = false; origin = from.Old 1 } ∷ record { kind = Int 4 false; nullable = true; origin = from.Old 2 } ∷ record { kind = Int 1 false; nullable = true; origin = from.Old 3 } ∷ record { kind = VarChar 9; nullable = false; origin = from.Old 4 } ∷ [])

abbrev plan_187 : PlanData
plan_187 = record { table = codes "t"; alter = (clauses.Change (codes "v") (record { name = codes "v"; kind = VarChar 9; nullable = (Some false); default = None; auto = false }) Unsaid ∷ []); tables = (record { schema = record { name = codes "t"; columns = (record { name = codes "a"; kind = Int 4 false; nullable = false; default = None; auto = false } ∷ record { name = codes "c"; kind = Int 4 false; nullable = false; default = None; auto = false } ∷ record { name = codes "m0"; kind = Int 4 false; nullable = true; default = (Some Null); auto = false } ∷ record { name = codes "m1"; kind = Int 1 false; nullable = true; default = (Some Null); auto = false } ∷ record { name = codes "v"; kind = VarChar 6; nullable = true; default = (Some Null); auto = false } ∷ []); uniques = (record { name = None; places = (0 ∷ 1 ∷ []) } ∷ record { name = (Some (codes "u0")); places = (2 ∷ []) } ∷ record { name = (Some (codes "u1")); places = (3 ∷ []) } ∷ []); indexes = []; comment = []; start = None }; rows = (((Num (pos 3)) ∷ (Num (pos 3)) ∷ (Num (pos 7)) ∷ (Num (pos 1)) ∷ (Text (codes "6")) ∷ []) ∷ []) } ∷ []); clients = ((record { line = 1; word = (words.Do (statements.Delete (codes "t") (conditions.Equal (record { column = codes "a"; value = (Num (pos 3)) } ∷ record { column = codes "c"; value = (Num (pos 3)) } ∷ [])))) } ∷ []) ∷ (record { line = 1; word = (words.Do (statements.Update (codes "t") (record { column = codes "c"; value = (Num (pos 1)) } ∷ record { column = codes "m0"; value = (Num (pos 7)) } ∷ record { column = codes "v"; value = (Text (codes "e")) } ∷ []) (conditions.Equal (record { column = codes "c"; value = (Num (pos 3)) } ∷ record { column = codes "a"; value = (Text (codes "2")) } ∷ [])))) } ∷ record { line = 2; word = (words.Do (statements.Replace (codes "t") (Some (codes "a" ∷ codes "c" ∷ codes "m1" ∷ codes "v" ∷ [])) ((Num (pos 7)) ∷ (Num (pos 2)) ∷ (Num (pos 6)) ∷ (Text (codes "c")) ∷ []) None)) } ∷ record { line = 3; word = words.Begin } ∷ record { line = 4; word = (words.Do (statements.Delete (codes "t") (conditions.Equal (record { column = codes "m1"; value = (Num (pos 4)) } ∷ [])))) } ∷ record { line = 5; word = words.Rollback } ∷ record { line = 6; word = words.Begin } ∷ record { line = 7; word = (words.Do (statements.Update (codes "t") (record { column = codes "a"; value = (Num (pos 4)) } ∷ record { column = codes "c"; value = (Text (codes "7")) } ∷ record { column = codes "m0"; value = (Num (pos 7)) } ∷ record { column = codes "m1"; value = (Num (pos 6)) } ∷ record { column = codes "v"; value = (Text (codes "e")) } ∷ []) (conditions.Equal (record { column = codes "m0"; value = (Num (pos 4)) } ∷ [])))) } ∷ record { line = 8; word = (words.Do (statements.Update (codes "t") (record { column = codes "a"; value = (Num (pos 4)) } ∷ record { column = codes "c"; value = (Num (pos 7)) } ∷ record { column = codes "m1"; value = (Num (pos 2)) } ∷ []) (conditions.Equal (record { column = codes "a"; value = (Num (pos 1)) } ∷ record { column = codes "c"; value = (Num (pos 7)) } ∷ [])))) } ∷ record { line = 9; word = words.Commit } ∷ []) ∷ (record { line = 1; word = (words.Do (statements.Replace (codes "t") (Some (codes "a" ∷ codes "c" ∷ codes "m0" ∷ codes "m1" ∷ codes "v" ∷ [])) ((Num (pos 6)) ∷ (Num (pos 2)) ∷ (Num (pos 2)) ∷ Null ∷ Null ∷ []) None)) } ∷ []) ∷ []); operator = (record { word = commanded.Unpostpone; units = 1 } ∷ record { word = commanded.Throttle; units = 1 } ∷ record { word = commanded.Panic; units = 1 } ∷ []); faults = []; turns = (record { actor = Lock; times = 2 } ∷ record { actor = Op; times = 1 } ∷ record { actor = Op; times = 1 } ∷ record { actor = Ren; times = 2 } ∷ record { actor = Op; times = 1 } ∷ record { actor = Lock; times = 1 } ∷ record { actor = Insp; times = 1 } ∷ record { actor = (Client 2); times = 1 } ∷ record { actor = Copy; times = 5 } ∷ record { actor = Ren; times = 1 } ∷ record { actor = Apply; times = 1 } ∷ record { actor = (Client 2); times = 1 } ∷ record { actor = (Client 1); times = 1 } ∷ record { actor = (Client 2); times = 1 } ∷ record { actor = Apply; times = 1 } ∷ record { actor = Ren; times = 3 } ∷ record { actor = (Client 2); times = 5 } ∷ record { actor = (Client 3); times = 1 } ∷ record { actor = Apply; times = 1 } ∷ record { actor = Ren; times = 1 } ∷ record { actor = (Client 3); times = 1 } ∷ record { actor = Insp; times = 1 } ∷ record { actor = Op; times = 1 } ∷ record { actor = Copy; times = 2 } ∷ record { actor = Apply; times = 3 } ∷ record { actor = (Client 2); times = 3 } ∷ record { actor = Copy; times = 5 } ∷ record { actor = Op; times = 5 } ∷ record { actor = (Client 2); times = 1 } ∷ record { actor = (Client 1); times = 3 } ∷ record { actor = Op; times = 1 } ∷ record { actor = (Client 2); times = 1 } ∷ record { actor = (Client 3); times = 1 } ∷ record { actor = Lock; times = 3 } ∷ record { actor = Lock; times = 1 } ∷ record { actor = Ren; times = 1 } ∷ record { actor = (Client 3); times = 1 } ∷ record { actor = Ren; times = 1 } ∷ record { actor = Ren; times = 2 } ∷ record { actor = (Client 2); times = 5 } ∷ record { actor = Ren; times = 2 } ∷ record { actor = (Client 1); times = 1 } ∷ record { actor = Copy; times = 3 } ∷ record { actor = Apply; times = 1 } ∷ record { actor = Ren; times = 2 } ∷ record { actor = Op; times = 1 } ∷ record { actor = Lock; times = 1 } ∷ record { actor = Lock; times = 5 } ∷ record { actor = Lock; times = 5 } ∷ record { actor = (Client 1); times = 2 } ∷ record { actor = (Client 3); times = 1 } ∷ record { actor = Apply; times = 1 } ∷ record { actor = (Client 2); times = 3 } ∷ record { actor = Insp; times = 1 } ∷ record { actor = (Client 2); times = 1 } ∷ record { actor = Copy; times = 1 } ∷ record { actor = (Client 1); times = 1 } ∷ record { actor = Lock; times = 1 } ∷ record { actor = Lock; times = 1 } ∷ []); options = record { chunk_size = 3; dml_batch_size = 3; default_retries = 9; max_backlog = 100; drain_limit = 2000; client_wait = 9; tool_wait = 30; max_load = 64; turn_limit = 200000; notes = 0; note_every = 100; replica_step = 0; replica_pause = 1; max_lag = 10; resume = false; approve_renamed_columns = true; initially_drop_ghost_table = false; initially_drop_old_table = false; ok_to_drop_table = true; postpone = true; show_history = true; show_turns = true; show_tables = true; show_replies = true } }

abbrev journal_187 : List Entry
journal_187 =
    record { actor = Op; session = 0; asked = Command commanded.Unpostpone; side = None; answer = answers.Ok 0; missed = None; draw = None }
    ∷ record { actor = Op; session = 0; asked = Command commanded.Throttle; side = None; answer = answers.Ok 0; missed = None; draw = None }
    ∷ record { actor = Op; session = 0; asked = Command commanded.Panic; side = None; answer = answers.Ok 0; missed = None; draw = None }
    ∷ record { actor = (Client 2); session = 1; asked = Call (requests.Do (statements.Update (codes "t") (record { column = codes "c"; value = (Num (pos 1)) } ∷ record { column = codes "m0"; value = (Num (pos 7)) } ∷ record { column = codes "v"; value = (Text (codes "e")) } ∷ []) (conditions.Equal (record { column = codes "c"; value = (Num (pos 3)) } ∷ record { column = codes "a"; value = (Text (codes "2")) } ∷ [])))); side = None; answer = answers.Ok 0; missed = None; draw = None }
    ∷ record { actor = (Client 2); session = 1; asked = Call (requests.Do (statements.Replace (codes "t") (Some (codes "a" ∷ codes "c" ∷ codes "m1" ∷ codes "v" ∷ [])) ((Num (pos 7)) ∷ (Num (pos 2)) ∷ (Num (pos 6)) ∷ (Text (codes "c")) ∷ []) None)); side = None; answer = answers.Ok 1; missed = None; draw = None }
    ∷ record { actor = (Client 1); session = 2; asked = Call (requests.Do (statements.Delete (codes "t") (conditions.Equal (record { column = codes "a"; value = (Num (pos 3)) } ∷ record { column = codes "c"; value = (Num (pos 3)) } ∷ [])))); side = None; answer = answers.Ok 1; missed = None; draw = None }
    ∷ record { actor = (Client 2); session = 1; asked = Call requests.Begin; side = None; answer = answers.Ok 0; missed = None; draw = None }
    ∷ record { actor = (Client 2); session = 1; asked = Call (requests.Do (statements.Delete (codes "t") (conditions.Equal (record { column = codes "m1"; value = (Num (pos 4)) } ∷ [])))); side = None; answer = answers.Ok 0; missed = None; draw = None }
    ∷ record { actor = (Client 2); session = 1; asked = Call requests.Rollback; side = None; answer = answers.Ok 0; missed = None; draw = None }
    ∷ record { actor = (Client 2); session = 1; asked = Call requests.Begin; side = None; answer = answers.Ok 0; missed = None; draw = None }
    ∷ record { actor = (Client 2); session = 1; asked = Call (requests.Do (statements.Update (codes "t") (record { column = codes "a"; value = (Num (pos 4)) } ∷ record { column = codes "c"; value = (Text (codes "7")) } ∷ record { column = codes "m0"; value = (Num (pos 7)) } ∷ record { column = codes "m1"; value = (Num (pos 6)) } ∷ record { column = codes "v"; value = (Text (codes "e")) } ∷ []) (conditions.Equal (record { column = codes "m0"; value = (Num (pos 4)) } ∷ [])))); side = None; answer = answers.Ok 0; missed = None; draw = None }
    ∷ record { actor = (Client 2); session = 1; asked = Call (requests.Do (statements.Update (codes "t") (record { column = codes "a"; value = (Num (pos 4)) } ∷ record { column = codes "c"; value = (Num (pos 7)) } ∷ record { column = codes "m1"; value = (Num (pos 2)) } ∷ []) (conditions.Equal (record { column = codes "a"; value = (Num (pos 1)) } ∷ record { column = codes "c"; value = (Num (pos 7)) } ∷ [])))); side = None; answer = answers.Ok 0; missed = None; draw = None }
    ∷ record { actor = (Client 3); session = 3; asked = Call (requests.Do (statements.Replace (codes "t") (Some (codes "a" ∷ codes "c" ∷ codes "m0" ∷ codes "m1" ∷ codes "v" ∷ [])) ((Num (pos 6)) ∷ (Num (pos 2)) ∷ (Num (pos 2)) ∷ Null ∷ Null ∷ []) None)); side = None; answer = answers.Ok 1; missed = None; draw = None }
    ∷ record { actor = (Client 2); session = 1; asked = Call requests.Commit; side = None; answer = answers.Ok 0; missed = None; draw = None }
    ∷ []

abbrev reported_187 : WorkedFacts
reported_187 =
    record {
      verdict = verdicts.Reverted (causes.Panic 3);
      ended = (Some (2, 1) ∷ Some (2, 2) ∷ Some (1, 1) ∷ Some (2, 3) ∷ Some (3, 1) ∷ Some (2, 4) ∷ []);
      left = (record { schema = record { name = codes "t"; columns = (record { name = codes "a"; kind = Int 4 false; nullable = false; default = None; auto = false } ∷ record { name = codes "c"; kind = Int 4 false; nullable = false; default = None; auto = false } ∷ record { name = codes "m0"; kind = Int 4 false; nullable = true; default = (Some Null); auto = false } ∷ record { name = codes "m1"; kind = Int 1 false; nullable = true; default = (Some Null); auto = false } ∷ record { name = codes "v"; kind = VarChar 6; nullable = true; default = (Some Null); auto = false } ∷ []); uniques = (record { name = None; places = (0 ∷ 1 ∷ []) } ∷ record { name = (Some (codes "u0")); places = (2 ∷ []) } ∷ record { name = (Some (codes "u1")); places = (3 ∷ []) } ∷ []); indexes = []; comment = []; start = None }; rows = (((Num (pos 6)) ∷ (Num (pos 2)) ∷ (Num (pos 2)) ∷ Null ∷ Null ∷ []) ∷ ((Num (pos 7)) ∷ (Num (pos 2)) ∷ Null ∷ (Num (pos 6)) ∷ (Text (codes "c")) ∷ []) ∷ []) } ∷ []);
      alone = (((replies.Ok 0) ∷ []) ∷ ((replies.Ok 1) ∷ []) ∷ ((replies.Ok 1) ∷ []) ∷ ((replies.Ok 0) ∷ (replies.Ok 0) ∷ (replies.Ok 0) ∷ []) ∷ ((replies.Ok 1) ∷ []) ∷ ((replies.Ok 0) ∷ (replies.Ok 0) ∷ (replies.Ok 0) ∷ (replies.Ok 0) ∷ []) ∷ []);
      over = replicate 2 false ++ replicate 12 true;
      bound = 1459161;
      replies = (((1, 1, (Some (replies.Ok 1))) ∷ [])) ∷ (((1, 1, (Some (replies.Ok 0))) ∷ (2, 1, (Some (replies.Ok 1))) ∷ (3, 1, (Some (replies.Ok 0))) ∷ (3, 2, (Some (replies.Ok 0))) ∷ (3, 3, (Some (replies.Ok 0))) ∷ (4, 1, (Some (replies.Ok 0))) ∷ (4, 2, (Some (replies.Ok 0))) ∷ (4, 3, (Some (replies.Ok 0))) ∷ (4, 4, (Some (replies.Ok 0))) ∷ [])) ∷ (((1, 1, (Some (replies.Ok 1))) ∷ [])) ∷ [];
    }

worked_187 : IsWorked plan_187 journal_187 reported_187
unfolding computing
worked_187 = record { asks = refl; sessions = refl; answers = refl; sides = refl; struck = refl; verdict = refl; ended = refl; order = refl; left = refl; serial = refl; alone = refl; over = refl; online = refl; bounded = refl; replies = refl }

-- Plan 189
abbrev map_189 : List MapColumn
map_189 = (record { kind = VarBinary 3; nullable = false; origin = from.Old 0 } ∷ record { kind = Int 4 false; nullable = false; origin = from.Old 1 } ∷ record { kind = VarBinary 9; nullable = false; origin = from.Old 2 } ∷ [])

abbrev plan_189 : PlanData
plan_189 = record { table = codes "t"; alter = (clauses.Change (codes "v") (record { name = codes "v"; kind = VarBinary 9; nullable = (Some false); default = None; auto = false }) Unsaid ∷ []); tables = (record { schema = record { name = codes "t"; columns = (record { name = codes "id"; kind = VarBinary 3; nullable = false; default = None; auto = false } ∷ record { name = codes "m0"; kind = Int 4 false; nullable = false; default = None; auto = false } ∷ record { name = codes "v"; kind = Int 4 false; nullable = true; default = (Some (Num (pos 5))); auto = false } ∷ []); uniques = (record { name = None; places = (0 ∷ []) } ∷ record { name = (Some (codes "u0")); places = (1 ∷ []) } ∷ []); indexes = []; comment = []; start = None }; rows = (((Blob (49 ∷ [])) ∷ (Num (pos 1)) ∷ (Num (pos 7)) ∷ []) ∷ ((Blob (54 ∷ [])) ∷ (Num (pos 2)) ∷ (Num (pos 1)) ∷ []) ∷ ((Blob (97 ∷ [])) ∷ (Num (pos 7)) ∷ (Num (pos 6)) ∷ []) ∷ ((Blob (101 ∷ [])) ∷ (Num (pos 5)) ∷ (Num (pos 2)) ∷ []) ∷ ((Blob (102 ∷ [])) ∷ (Num (pos 4)) ∷ (Num (pos 3)) ∷ []) ∷ []) } ∷ []); clients = ((record { line = 1; word = (words.Do (statements.Select (codes "t") shown.Count (conditions.Equal (record { column = codes "id"; value = (Num (pos 3)) } ∷ [])))) } ∷ record { line = 2; word = (words.Do (statements.Insert (codes "t") (Some (codes "id" ∷ codes "m0" ∷ codes "v" ∷ [])) ((Blob (4 ∷ [])) ∷ (Num (pos 4)) ∷ (Num (pos 3)) ∷ []) None)) } ∷ record { line = 3; word = (words.Do (statements.Update (codes "t") (record { column = codes "id"; value = (Blob (3 ∷ [])) } ∷ []) (conditions.Equal (record { column = codes "id"; value = (Blob (2 ∷ [])) } ∷ [])))) } ∷ record { line = 4; word = (words.Do (statements.Replace (codes "t") None ((Text (codes "b")) ∷ (Num (pos 5)) ∷ Null ∷ []) None)) } ∷ record { line = 5; word = (words.Do (statements.Insert (codes "t") None ((Text (codes "c")) ∷ (Num (pos 4)) ∷ (Num (pos 5)) ∷ []) None)) } ∷ record { line = 6; word = (words.Do (statements.Insert (codes "t") (Some (codes "id" ∷ codes "m0" ∷ codes "v" ∷ [])) ((Blob (255 ∷ [])) ∷ (Num (pos 2)) ∷ (Num (pos 7)) ∷ []) None)) } ∷ record { line = 7; word = words.Begin } ∷ record { line = 8; word = (words.Do (statements.Insert (codes "t") None ((Text (codes "d")) ∷ (Text (codes "6")) ∷ (Num (pos 1000)) ∷ []) None)) } ∷ record { line = 9; word = (words.Do (statements.Delete (codes "t") (conditions.Equal (record { column = codes "id"; value = (Num (pos 2)) } ∷ [])))) } ∷ record { line = 10; word = words.Commit } ∷ []) ∷ []); operator = []; faults = (losses.Nth Copy 4 sides_at.Before ∷ []); turns = (record { actor = Insp; times = 5 } ∷ record { actor = Ren; times = 3 } ∷ []); options = record { chunk_size = 1; dml_batch_size = 1; default_retries = 2; max_backlog = 100; drain_limit = 2000; client_wait = 5; tool_wait = 1; max_load = 64; turn_limit = 200000; notes = 0; note_every = 100; replica_step = 0; replica_pause = 1; max_lag = 10; resume = false; approve_renamed_columns = true; initially_drop_ghost_table = false; initially_drop_old_table = false; ok_to_drop_table = false; postpone = false; show_history = true; show_turns = true; show_tables = true; show_replies = true } }

abbrev journal_189 : List Entry
journal_189 =
    record { actor = Insp; session = 1; asked = Call requests.ShowTables; side = None; answer = answers.Tables (record { name = codes "t"; comment = [] } ∷ []); missed = None; draw = None }
    ∷ record { actor = Insp; session = 1; asked = Call (requests.Create (record { name = codes "_t_ghc"; columns = (record { name = codes "id"; kind = Int 8 false; nullable = false; default = None; auto = false } ∷ record { name = codes "hint"; kind = VarChar 64; nullable = false; default = None; auto = false } ∷ record { name = codes "value"; kind = VarChar 255; nullable = false; default = None; auto = false } ∷ []); uniques = (record { name = None; places = (0 ∷ []) } ∷ []); indexes = []; comment = []; start = None })); side = None; answer = answers.Ok 0; missed = None; draw = None }
    ∷ record { actor = Insp; session = 1; asked = Call (requests.Create (record { name = codes "_t_gho"; columns = (record { name = codes "id"; kind = VarBinary 3; nullable = false; default = None; auto = false } ∷ record { name = codes "m0"; kind = Int 4 false; nullable = false; default = None; auto = false } ∷ record { name = codes "v"; kind = VarBinary 9; nullable = false; default = None; auto = false } ∷ []); uniques = (record { name = None; places = (0 ∷ []) } ∷ record { name = (Some (codes "u0")); places = (1 ∷ []) } ∷ []); indexes = []; comment = []; start = None })); side = None; answer = answers.Ok 0; missed = None; draw = None }
    ∷ record { actor = Insp; session = 1; asked = Call requests.LogEnd; side = None; answer = answers.At 0; missed = None; draw = None }
    ∷ record { actor = Insp; session = 1; asked = Call (requests.Ends (codes "t")); side = None; answer = answers.Ends (Some (record { least = ((Blob (49 ∷ [])) ∷ []); greatest = ((Blob (102 ∷ [])) ∷ []) })); missed = None; draw = None }
    ∷ record { actor = Copy; session = 2; asked = Call (requests.ChunkEnd (codes "t") (Closed ((Blob (49 ∷ [])) ∷ [])) ((Blob (102 ∷ [])) ∷ []) 1); side = None; answer = answers.End ((Blob (49 ∷ [])) ∷ []); missed = None; draw = None }
    ∷ record { actor = (Client 1); session = 3; asked = Call (requests.Do (statements.Select (codes "t") shown.Count (conditions.Equal (record { column = codes "id"; value = (Num (pos 3)) } ∷ [])))); side = None; answer = answers.Rows (((Num (pos 0)) ∷ []) ∷ []); missed = None; draw = None }
    ∷ record { actor = Copy; session = 2; asked = Call (requests.BeginSpan (codes "t") (record { low = (Closed ((Blob (49 ∷ [])) ∷ [])); high = (Closed ((Blob (49 ∷ [])) ∷ [])) }) 1); side = None; answer = answers.Keys (((Blob (49 ∷ [])) ∷ []) ∷ []) ((Blob (49 ∷ [])) ∷ []); missed = None; draw = None }
    ∷ record { actor = (Client 1); session = 3; asked = Call (requests.Do (statements.Insert (codes "t") (Some (codes "id" ∷ codes "m0" ∷ codes "v" ∷ [])) ((Blob (4 ∷ [])) ∷ (Num (pos 4)) ∷ (Num (pos 3)) ∷ []) None)); side = None; answer = answers.Refused 1062 None; missed = None; draw = None }
    ∷ record { actor = Copy; session = 2; asked = Call (requests.CopyRow (codes "t") (codes "_t_gho") map_189 ((Blob (49 ∷ [])) ∷ [])); side = None; answer = answers.Ok 1; missed = None; draw = None }
    ∷ record { actor = (Client 1); session = 3; asked = Call (requests.Do (statements.Update (codes "t") (record { column = codes "id"; value = (Blob (3 ∷ [])) } ∷ []) (conditions.Equal (record { column = codes "id"; value = (Blob (2 ∷ [])) } ∷ [])))); side = None; answer = answers.Ok 0; missed = None; draw = None }
    ∷ record { actor = Copy; session = 2; asked = Call requests.Commit; side = (Some sides_at.Before); answer = answers.Lost; missed = None; draw = None }
    ∷ record { actor = (Client 1); session = 3; asked = Call (requests.Do (statements.Replace (codes "t") None ((Text (codes "b")) ∷ (Num (pos 5)) ∷ Null ∷ []) None)); side = None; answer = answers.Ok 2; missed = None; draw = None }
    ∷ record { actor = Copy; session = 4; asked = Call (requests.ChunkEnd (codes "t") (Closed ((Blob (49 ∷ [])) ∷ [])) ((Blob (102 ∷ [])) ∷ []) 1); side = None; answer = answers.End ((Blob (49 ∷ [])) ∷ []); missed = None; draw = None }
    ∷ record { actor = Apply; session = 5; asked = Call (requests.ReadLog 0 1 (codes "t" ∷ codes "_t_ghc" ∷ [])); side = None; answer = answers.Events (record { table = codes "t"; change = changes.Delete ((Blob (101 ∷ [])) ∷ (Num (pos 5)) ∷ (Num (pos 2)) ∷ []) } ∷ []) 1; missed = None; draw = None }
    ∷ record { actor = (Client 1); session = 3; asked = Call (requests.Do (statements.Insert (codes "t") None ((Text (codes "c")) ∷ (Num (pos 4)) ∷ (Num (pos 5)) ∷ []) None)); side = None; answer = answers.Refused 1062 None; missed = None; draw = None }
    ∷ record { actor = Copy; session = 4; asked = Call (requests.BeginSpan (codes "t") (record { low = (Closed ((Blob (49 ∷ [])) ∷ [])); high = (Closed ((Blob (49 ∷ [])) ∷ [])) }) 1); side = None; answer = answers.Keys (((Blob (49 ∷ [])) ∷ []) ∷ []) ((Blob (49 ∷ [])) ∷ []); missed = None; draw = None }
    ∷ record { actor = Apply; session = 5; asked = Call requests.Begin; side = None; answer = answers.Ok 0; missed = None; draw = None }
    ∷ record { actor = (Client 1); session = 3; asked = Call (requests.Do (statements.Insert (codes "t") (Some (codes "id" ∷ codes "m0" ∷ codes "v" ∷ [])) ((Blob (255 ∷ [])) ∷ (Num (pos 2)) ∷ (Num (pos 7)) ∷ []) None)); side = None; answer = answers.Refused 1062 None; missed = None; draw = None }
    ∷ record { actor = Copy; session = 4; asked = Call (requests.CopyRow (codes "t") (codes "_t_gho") map_189 ((Blob (49 ∷ [])) ∷ [])); side = None; answer = answers.Ok 1; missed = None; draw = None }
    ∷ record { actor = Apply; session = 5; asked = Call (requests.Do (statements.Delete (codes "_t_gho") (conditions.Equal (record { column = codes "id"; value = (Blob (101 ∷ [])) } ∷ [])))); side = None; answer = answers.Ok 0; missed = None; draw = None }
    ∷ record { actor = (Client 1); session = 3; asked = Call requests.Begin; side = None; answer = answers.Ok 0; missed = None; draw = None }
    ∷ record { actor = Copy; session = 4; asked = Call requests.Commit; side = None; answer = answers.Ok 0; missed = None; draw = None }
    ∷ record { actor = Apply; session = 5; asked = Call requests.Commit; side = None; answer = answers.Ok 0; missed = None; draw = None }
    ∷ record { actor = (Client 1); session = 3; asked = Call (requests.Do (statements.Insert (codes "t") None ((Text (codes "d")) ∷ (Text (codes "6")) ∷ (Num (pos 1000)) ∷ []) None)); side = None; answer = answers.Ok 1; missed = None; draw = None }
    ∷ record { actor = Copy; session = 4; asked = Call (requests.ChunkEnd (codes "t") (Open ((Blob (49 ∷ [])) ∷ [])) ((Blob (102 ∷ [])) ∷ []) 1); side = None; answer = answers.End ((Blob (54 ∷ [])) ∷ []); missed = None; draw = None }
    ∷ record { actor = Apply; session = 5; asked = Call (requests.ReadLog 1 1 (codes "t" ∷ codes "_t_ghc" ∷ [])); side = None; answer = answers.Events (record { table = codes "t"; change = changes.Write ((Blob (98 ∷ [])) ∷ (Num (pos 5)) ∷ Null ∷ []) } ∷ []) 2; missed = None; draw = None }
    ∷ record { actor = (Client 1); session = 3; asked = Call (requests.Do (statements.Delete (codes "t") (conditions.Equal (record { column = codes "id"; value = (Num (pos 2)) } ∷ [])))); side = None; answer = answers.Ok 0; missed = None; draw = None }
    ∷ record { actor = Copy; session = 4; asked = Call (requests.BeginSpan (codes "t") (record { low = (Open ((Blob (49 ∷ [])) ∷ [])); high = (Closed ((Blob (54 ∷ [])) ∷ [])) }) 1); side = None; answer = answers.Waits 3; missed = None; draw = None }
    ∷ record { actor = Apply; session = 5; asked = Call requests.Begin; side = None; answer = answers.Ok 0; missed = None; draw = None }
    ∷ record { actor = (Client 1); session = 3; asked = Call requests.Commit; side = None; answer = answers.Ok 0; missed = None; draw = None }
    ∷ record { actor = Copy; session = 4; asked = Poll; side = None; answer = answers.Keys (((Blob (54 ∷ [])) ∷ []) ∷ []) ((Blob (54 ∷ [])) ∷ []); missed = None; draw = None }
    ∷ record { actor = Apply; session = 5; asked = Call (requests.Do (statements.Replace (codes "_t_gho") None ((Blob (98 ∷ [])) ∷ (Num (pos 5)) ∷ Null ∷ []) None)); side = None; answer = answers.Refused 1048 (Some 2); missed = None; draw = None }
    ∷ record { actor = Copy; session = 4; asked = Call requests.Rollback; side = None; answer = answers.Ok 0; missed = None; draw = None }
    ∷ record { actor = Apply; session = 5; asked = Call requests.Rollback; side = None; answer = answers.Ok 0; missed = None; draw = None }
    ∷ []

abbrev reported_189 : WorkedFacts
reported_189 =
    record {
      verdict = verdicts.Reverted (causes.Unfit 33 ((Blob (98 ∷ [])) ∷ []) (codes "v") 1048);
      ended = (Some (1, 1) ∷ Some (1, 2) ∷ Some (1, 3) ∷ Some (1, 4) ∷ Some (1, 5) ∷ Some (1, 6) ∷ Some (1, 7) ∷ []);
      left = (record { schema = record { name = codes "t"; columns = (record { name = codes "id"; kind = VarBinary 3; nullable = false; default = None; auto = false } ∷ record { name = codes "m0"; kind = Int 4 false; nullable = false; default = None; auto = false } ∷ record { name = codes "v"; kind = Int 4 false; nullable = true; default = (Some (Num (pos 5))); auto = false } ∷ []); uniques = (record { name = None; places = (0 ∷ []) } ∷ record { name = (Some (codes "u0")); places = (1 ∷ []) } ∷ []); indexes = []; comment = []; start = None }; rows = (((Blob (49 ∷ [])) ∷ (Num (pos 1)) ∷ (Num (pos 7)) ∷ []) ∷ ((Blob (54 ∷ [])) ∷ (Num (pos 2)) ∷ (Num (pos 1)) ∷ []) ∷ ((Blob (97 ∷ [])) ∷ (Num (pos 7)) ∷ (Num (pos 6)) ∷ []) ∷ ((Blob (98 ∷ [])) ∷ (Num (pos 5)) ∷ Null ∷ []) ∷ ((Blob (100 ∷ [])) ∷ (Num (pos 6)) ∷ (Num (pos 1000)) ∷ []) ∷ ((Blob (102 ∷ [])) ∷ (Num (pos 4)) ∷ (Num (pos 3)) ∷ []) ∷ []) } ∷ []);
      alone = (((replies.Rows (((Num (pos 0)) ∷ []) ∷ [])) ∷ []) ∷ ((replies.Error 1062) ∷ []) ∷ ((replies.Ok 0) ∷ []) ∷ ((replies.Ok 2) ∷ []) ∷ ((replies.Error 1062) ∷ []) ∷ ((replies.Error 1062) ∷ []) ∷ ((replies.Ok 0) ∷ (replies.Ok 1) ∷ (replies.Ok 0) ∷ (replies.Ok 0) ∷ []) ∷ []);
      over = replicate 34 false ++ replicate 1 true;
      bound = 21195;
      replies = (((1, 1, (Some (replies.Rows (((Num (pos 0)) ∷ []) ∷ [])))) ∷ (2, 1, (Some (replies.Error 1062))) ∷ (3, 1, (Some (replies.Ok 0))) ∷ (4, 1, (Some (replies.Ok 2))) ∷ (5, 1, (Some (replies.Error 1062))) ∷ (6, 1, (Some (replies.Error 1062))) ∷ (7, 1, (Some (replies.Ok 0))) ∷ (7, 2, (Some (replies.Ok 1))) ∷ (7, 3, (Some (replies.Ok 0))) ∷ (7, 4, (Some (replies.Ok 0))) ∷ [])) ∷ [];
    }

worked_189 : IsWorked plan_189 journal_189 reported_189
unfolding computing
worked_189 = record { asks = refl; sessions = refl; answers = refl; sides = refl; struck = refl; verdict = refl; ended = refl; order = refl; left = refl; serial = refl; alone = refl; over = refl; online = refl; bounded = refl; replies = refl }

-- Plan 191
abbrev map_191 : List MapColumn
map_191 = (record { kind = Int 1 false; nullable = true; origin = from.Old 0 } ∷ record { kind = Int 4 false; nullable = false; origin = from.Old 1 } ∷ record { kind = Int 8 false; nullable = false; origin = from.Old 2 } ∷ [])

abbrev plan_191 : PlanData
plan_191 = record { table = codes "t"; alter = (clauses.Change (codes "id") (record { name = codes "id"; kind = Int 8 false; nullable = None; default = None; auto = false }) Unsaid ∷ []); tables = (record { schema = record { name = codes "t"; columns = (record { name = codes "m0"; kind = Int 1 false; nullable = true; default = (Some (Num (pos 1))); auto = false } ∷ record { name = codes "v"; kind = Int 4 false; nullable = false; default = None; auto = false } ∷ record { name = codes "id"; kind = Int 4 false; nullable = false; default = None; auto = false } ∷ []); uniques = (record { name = None; places = (2 ∷ []) } ∷ record { name = (Some (codes "u0")); places = (0 ∷ []) } ∷ []); indexes = []; comment = codes "ghost-cut-over-sentry"; start = None }; rows = (((Num (pos 7)) ∷ (Num (pos 1)) ∷ (Num (pos 2)) ∷ []) ∷ ((Num (pos 2)) ∷ (Num (pos 7)) ∷ (Num (pos 3)) ∷ []) ∷ ((Num (pos 4)) ∷ (Num (pos 3)) ∷ (Num (pos 7)) ∷ []) ∷ []) } ∷ []); clients = ((record { line = 1; word = (words.Do (statements.Insert (codes "t") (Some (codes "m0" ∷ codes "v" ∷ codes "id" ∷ [])) (Null ∷ (Num (pos 1)) ∷ (Num (pos 7)) ∷ []) None)) } ∷ record { line = 2; word = (words.Do (statements.Update (codes "t") (record { column = codes "v"; value = (Num (pos 4)) } ∷ []) (conditions.Equal (record { column = codes "id"; value = (Num (pos 2)) } ∷ [])))) } ∷ record { line = 3; word = words.Begin } ∷ record { line = 4; word = words.Rollback } ∷ record { line = 5; word = (words.Do (statements.Replace (codes "t") None ((Num (pos 5)) ∷ (Num (pos 3)) ∷ (Text (codes "3")) ∷ []) None)) } ∷ record { line = 6; word = (words.Do (statements.Select (codes "t") (shown.Columns (codes "m0" ∷ [])) (conditions.Equal (record { column = codes "id"; value = (Num (pos 5)) } ∷ [])))) } ∷ record { line = 7; word = (words.Do (statements.Select (codes "t") (shown.Columns (codes "m0" ∷ [])) (conditions.Range (record { column = codes "id"; sign = signs.Less; value = (Num (pos 2)) } ∷ [])))) } ∷ []) ∷ (record { line = 1; word = (words.Do (statements.Insert (codes "t") (Some (codes "m0" ∷ codes "v" ∷ codes "id" ∷ [])) ((Num (pos 1)) ∷ (Num (pos 7)) ∷ (Num (pos 3)) ∷ []) None)) } ∷ record { line = 2; word = (words.Do (statements.Delete (codes "t") (conditions.Equal (record { column = codes "id"; value = (Num (pos 2)) } ∷ [])))) } ∷ []) ∷ []); operator = []; faults = (losses.Nth Lock 4 sides_at.After ∷ losses.Nth Lock 2 sides_at.Before ∷ losses.Nth Op 3 sides_at.After ∷ losses.Turn 34 (Client 2) ∷ losses.Nth Insp 8 sides_at.After ∷ losses.Turn 4 (Client 2) ∷ losses.Turn 46 (Client 2) ∷ losses.Nth Insp 5 sides_at.Before ∷ losses.Nth Lock 2 sides_at.Before ∷ losses.Nth (Client 2) 3 sides_at.After ∷ losses.Turn 14 Insp ∷ losses.Nth Ren 5 sides_at.Before ∷ []); turns = (record { actor = Insp; times = 3 } ∷ record { actor = (Client 1); times = 3 } ∷ record { actor = Op; times = 1 } ∷ record { actor = Apply; times = 5 } ∷ record { actor = Op; times = 1 } ∷ record { actor = Copy; times = 1 } ∷ record { actor = Lock; times = 2 } ∷ record { actor = (Client 1); times = 1 } ∷ record { actor = (Client 2); times = 1 } ∷ record { actor = Ren; times = 1 } ∷ record { actor = (Client 2); times = 1 } ∷ record { actor = Insp; times = 1 } ∷ record { actor = Lock; times = 5 } ∷ record { actor = Apply; times = 2 } ∷ record { actor = Copy; times = 3 } ∷ record { actor = Apply; times = 2 } ∷ record { actor = Lock; times = 1 } ∷ record { actor = (Client 1); times = 1 } ∷ record { actor = Insp; times = 1 } ∷ []); options = record { chunk_size = 2; dml_batch_size = 10; default_retries = 3; max_backlog = 100; drain_limit = 2000; client_wait = 30; tool_wait = 30; max_load = 64; turn_limit = 200000; notes = 0; note_every = 100; replica_step = 0; replica_pause = 1; max_lag = 10; resume = false; approve_renamed_columns = true; initially_drop_ghost_table = false; initially_drop_old_table = false; ok_to_drop_table = true; postpone = false; show_history = true; show_turns = true; show_tables = true; show_replies = true } }

abbrev journal_191 : List Entry
journal_191 =
    record { actor = Insp; session = 1; asked = Call requests.ShowTables; side = None; answer = answers.Tables (record { name = codes "t"; comment = codes "ghost-cut-over-sentry" } ∷ []); missed = None; draw = None }
    ∷ record { actor = Insp; session = 1; asked = Call (requests.Create (record { name = codes "_t_ghc"; columns = (record { name = codes "id"; kind = Int 8 false; nullable = false; default = None; auto = false } ∷ record { name = codes "hint"; kind = VarChar 64; nullable = false; default = None; auto = false } ∷ record { name = codes "value"; kind = VarChar 255; nullable = false; default = None; auto = false } ∷ []); uniques = (record { name = None; places = (0 ∷ []) } ∷ []); indexes = []; comment = []; start = None })); side = None; answer = answers.Ok 0; missed = None; draw = None }
    ∷ record { actor = Insp; session = 1; asked = Call (requests.Create (record { name = codes "_t_gho"; columns = (record { name = codes "m0"; kind = Int 1 false; nullable = true; default = (Some (Num (pos 1))); auto = false } ∷ record { name = codes "v"; kind = Int 4 false; nullable = false; default = None; auto = false } ∷ record { name = codes "id"; kind = Int 8 false; nullable = false; default = None; auto = false } ∷ []); uniques = (record { name = None; places = (2 ∷ []) } ∷ record { name = (Some (codes "u0")); places = (0 ∷ []) } ∷ []); indexes = []; comment = codes "ghost-cut-over-sentry"; start = None })); side = None; answer = answers.Ok 0; missed = None; draw = None }
    ∷ record { actor = (Client 1); session = 2; asked = Call (requests.Do (statements.Insert (codes "t") (Some (codes "m0" ∷ codes "v" ∷ codes "id" ∷ [])) (Null ∷ (Num (pos 1)) ∷ (Num (pos 7)) ∷ []) None)); side = None; answer = answers.Refused 1062 None; missed = None; draw = None }
    ∷ record { actor = (Client 1); session = 2; asked = Call (requests.Do (statements.Update (codes "t") (record { column = codes "v"; value = (Num (pos 4)) } ∷ []) (conditions.Equal (record { column = codes "id"; value = (Num (pos 2)) } ∷ [])))); side = None; answer = answers.Ok 1; missed = None; draw = None }
    ∷ record { actor = (Client 1); session = 2; asked = Call requests.Begin; side = None; answer = answers.Ok 0; missed = None; draw = None }
    ∷ record { actor = (Client 1); session = 2; asked = Call requests.Rollback; side = None; answer = answers.Ok 0; missed = None; draw = None }
    ∷ record { actor = (Client 2); session = 3; asked = Call (requests.Do (statements.Insert (codes "t") (Some (codes "m0" ∷ codes "v" ∷ codes "id" ∷ [])) ((Num (pos 1)) ∷ (Num (pos 7)) ∷ (Num (pos 3)) ∷ []) None)); side = None; answer = answers.Refused 1062 None; missed = None; draw = None }
    ∷ record { actor = (Client 2); session = 3; asked = Call (requests.Do (statements.Delete (codes "t") (conditions.Equal (record { column = codes "id"; value = (Num (pos 2)) } ∷ [])))); side = None; answer = answers.Ok 1; missed = None; draw = None }
    ∷ record { actor = Insp; session = 1; asked = Call requests.LogEnd; side = None; answer = answers.At 2; missed = None; draw = None }
    ∷ record { actor = (Client 1); session = 2; asked = Call (requests.Do (statements.Replace (codes "t") None ((Num (pos 5)) ∷ (Num (pos 3)) ∷ (Text (codes "3")) ∷ []) None)); side = None; answer = answers.Ok 2; missed = None; draw = None }
    ∷ record { actor = Insp; session = 1; asked = Call (requests.Ends (codes "t")); side = (Some sides_at.Before); answer = answers.Lost; missed = None; draw = None }
    ∷ record { actor = Insp; session = 4; asked = Call requests.ShowTables; side = None; answer = answers.Tables (record { name = codes "_t_ghc"; comment = [] } ∷ record { name = codes "_t_gho"; comment = codes "ghost-cut-over-sentry" } ∷ record { name = codes "t"; comment = codes "ghost-cut-over-sentry" } ∷ []); missed = None; draw = None }
    ∷ record { actor = Insp; session = 4; asked = Cut; side = None; answer = answers.Lost; missed = None; draw = None }
    ∷ record { actor = (Client 1); session = 2; asked = Call (requests.Do (statements.Select (codes "t") (shown.Columns (codes "m0" ∷ [])) (conditions.Equal (record { column = codes "id"; value = (Num (pos 5)) } ∷ [])))); side = None; answer = answers.Rows []; missed = None; draw = None }
    ∷ record { actor = Insp; session = 5; asked = Call (requests.Drop (codes "_t_ghc")); side = None; answer = answers.Ok 0; missed = None; draw = None }
    ∷ record { actor = (Client 1); session = 2; asked = Call (requests.Do (statements.Select (codes "t") (shown.Columns (codes "m0" ∷ [])) (conditions.Range (record { column = codes "id"; sign = signs.Less; value = (Num (pos 2)) } ∷ [])))); side = None; answer = answers.Rows []; missed = None; draw = None }
    ∷ record { actor = Insp; session = 5; asked = Call (requests.Drop (codes "_t_gho")); side = (Some sides_at.After); answer = answers.Lost; missed = (Some (answers.Ok 0)); draw = None }
    ∷ record { actor = Insp; session = 6; asked = Call requests.ShowTables; side = None; answer = answers.Tables (record { name = codes "t"; comment = codes "ghost-cut-over-sentry" } ∷ []); missed = None; draw = None }
    ∷ record { actor = Insp; session = 6; asked = Call (requests.Create (record { name = codes "_t_ghc"; columns = (record { name = codes "id"; kind = Int 8 false; nullable = false; default = None; auto = false } ∷ record { name = codes "hint"; kind = VarChar 64; nullable = false; default = None; auto = false } ∷ record { name = codes "value"; kind = VarChar 255; nullable = false; default = None; auto = false } ∷ []); uniques = (record { name = None; places = (0 ∷ []) } ∷ []); indexes = []; comment = []; start = None })); side = None; answer = answers.Ok 0; missed = None; draw = None }
    ∷ record { actor = Insp; session = 6; asked = Call (requests.Create (record { name = codes "_t_gho"; columns = (record { name = codes "m0"; kind = Int 1 false; nullable = true; default = (Some (Num (pos 1))); auto = false } ∷ record { name = codes "v"; kind = Int 4 false; nullable = false; default = None; auto = false } ∷ record { name = codes "id"; kind = Int 8 false; nullable = false; default = None; auto = false } ∷ []); uniques = (record { name = None; places = (2 ∷ []) } ∷ record { name = (Some (codes "u0")); places = (0 ∷ []) } ∷ []); indexes = []; comment = codes "ghost-cut-over-sentry"; start = None })); side = None; answer = answers.Ok 0; missed = None; draw = None }
    ∷ record { actor = Insp; session = 6; asked = Call requests.LogEnd; side = None; answer = answers.At 4; missed = None; draw = None }
    ∷ record { actor = Insp; session = 6; asked = Call (requests.Ends (codes "t")); side = None; answer = answers.Ends (Some (record { least = ((Num (pos 3)) ∷ []); greatest = ((Num (pos 7)) ∷ []) })); missed = None; draw = None }
    ∷ record { actor = Copy; session = 7; asked = Call (requests.ChunkEnd (codes "t") (Closed ((Num (pos 3)) ∷ [])) ((Num (pos 7)) ∷ []) 2); side = None; answer = answers.End ((Num (pos 7)) ∷ []); missed = None; draw = None }
    ∷ record { actor = Copy; session = 7; asked = Call (requests.BeginSpan (codes "t") (record { low = (Closed ((Num (pos 3)) ∷ [])); high = (Closed ((Num (pos 7)) ∷ [])) }) 2); side = None; answer = answers.Keys (((Num (pos 3)) ∷ []) ∷ ((Num (pos 7)) ∷ []) ∷ []) ((Num (pos 7)) ∷ []); missed = None; draw = None }
    ∷ record { actor = Copy; session = 7; asked = Call (requests.CopyRow (codes "t") (codes "_t_gho") map_191 ((Num (pos 3)) ∷ [])); side = None; answer = answers.Ok 1; missed = None; draw = None }
    ∷ record { actor = Copy; session = 7; asked = Call (requests.CopyRow (codes "t") (codes "_t_gho") map_191 ((Num (pos 7)) ∷ [])); side = None; answer = answers.Ok 1; missed = None; draw = None }
    ∷ record { actor = Copy; session = 7; asked = Call requests.Commit; side = None; answer = answers.Ok 0; missed = None; draw = None }
    ∷ record { actor = Lock; session = 8; asked = Call (requests.Create (record { name = codes "_t_del"; columns = (record { name = codes "id"; kind = Int 4 false; nullable = false; default = None; auto = false } ∷ []); uniques = (record { name = None; places = (0 ∷ []) } ∷ []); indexes = []; comment = codes "ghost-cut-over-sentry"; start = None })); side = None; answer = answers.Ok 0; missed = None; draw = None }
    ∷ record { actor = Lock; session = 8; asked = Call (requests.LockTables (codes "t" ∷ codes "_t_del" ∷ [])); side = (Some sides_at.Before); answer = answers.Lost; missed = None; draw = None }
    ∷ record { actor = Insp; session = 6; asked = Call requests.ShowTables; side = None; answer = answers.Tables (record { name = codes "_t_del"; comment = codes "ghost-cut-over-sentry" } ∷ record { name = codes "_t_ghc"; comment = [] } ∷ record { name = codes "_t_gho"; comment = codes "ghost-cut-over-sentry" } ∷ record { name = codes "t"; comment = codes "ghost-cut-over-sentry" } ∷ []); missed = None; draw = None }
    ∷ record { actor = Insp; session = 6; asked = Call (requests.Drop (codes "_t_del")); side = None; answer = answers.Ok 0; missed = None; draw = None }
    ∷ record { actor = Lock; session = 9; asked = Call (requests.Create (record { name = codes "_t_del"; columns = (record { name = codes "id"; kind = Int 4 false; nullable = false; default = None; auto = false } ∷ []); uniques = (record { name = None; places = (0 ∷ []) } ∷ []); indexes = []; comment = codes "ghost-cut-over-sentry"; start = None })); side = None; answer = answers.Ok 0; missed = None; draw = None }
    ∷ record { actor = (Client 2); session = 3; asked = Cut; side = None; answer = answers.Lost; missed = None; draw = None }
    ∷ record { actor = Lock; session = 9; asked = Call (requests.LockTables (codes "t" ∷ codes "_t_del" ∷ [])); side = (Some sides_at.After); answer = answers.Lost; missed = (Some (answers.Ok 0)); draw = None }
    ∷ record { actor = Insp; session = 6; asked = Call requests.ShowTables; side = None; answer = answers.Tables (record { name = codes "_t_del"; comment = codes "ghost-cut-over-sentry" } ∷ record { name = codes "_t_ghc"; comment = [] } ∷ record { name = codes "_t_gho"; comment = codes "ghost-cut-over-sentry" } ∷ record { name = codes "t"; comment = codes "ghost-cut-over-sentry" } ∷ []); missed = None; draw = None }
    ∷ record { actor = Insp; session = 6; asked = Call (requests.Drop (codes "_t_del")); side = None; answer = answers.Ok 0; missed = None; draw = None }
    ∷ record { actor = Lock; session = 10; asked = Call (requests.Create (record { name = codes "_t_del"; columns = (record { name = codes "id"; kind = Int 4 false; nullable = false; default = None; auto = false } ∷ []); uniques = (record { name = None; places = (0 ∷ []) } ∷ []); indexes = []; comment = codes "ghost-cut-over-sentry"; start = None })); side = None; answer = answers.Ok 0; missed = None; draw = None }
    ∷ record { actor = Lock; session = 10; asked = Call (requests.LockTables (codes "t" ∷ codes "_t_del" ∷ [])); side = None; answer = answers.Ok 0; missed = None; draw = None }
    ∷ record { actor = Insp; session = 6; asked = Call (requests.Do (statements.Insert (codes "_t_ghc") None ((Num (pos 3)) ∷ (Text (codes "cut-over")) ∷ (Text (codes "3")) ∷ []) None)); side = None; answer = answers.Ok 1; missed = None; draw = None }
    ∷ record { actor = Apply; session = 11; asked = Call (requests.ReadLog 4 10 (codes "t" ∷ codes "_t_ghc" ∷ [])); side = None; answer = answers.Events (record { table = codes "_t_ghc"; change = changes.Write ((Num (pos 3)) ∷ (Text (codes "cut-over")) ∷ (Text (codes "3")) ∷ []) } ∷ []) 7; missed = None; draw = None }
    ∷ record { actor = Ren; session = 12; asked = Call (requests.Rename (record { old = codes "t"; new = codes "_t_del" } ∷ record { old = codes "_t_gho"; new = codes "t" } ∷ [])); side = None; answer = answers.Waits 10; missed = None; draw = None }
    ∷ record { actor = Insp; session = 6; asked = Call requests.ShowWaiting; side = None; answer = answers.Waiting (record { session = 12; names = (codes "t" ∷ codes "_t_del" ∷ codes "_t_gho" ∷ []); by = 10 } ∷ []); missed = None; draw = None }
    ∷ record { actor = Lock; session = 10; asked = Call (requests.Drop (codes "_t_del")); side = None; answer = answers.Ok 0; missed = None; draw = None }
    ∷ record { actor = Ren; session = 12; asked = Poll; side = None; answer = answers.Waits 10; missed = None; draw = None }
    ∷ record { actor = Lock; session = 10; asked = Call requests.Unlock; side = None; answer = answers.Ok 0; missed = None; draw = None }
    ∷ record { actor = Ren; session = 12; asked = Poll; side = None; answer = answers.Ok 0; missed = None; draw = None }
    ∷ record { actor = Insp; session = 6; asked = Call requests.ShowTables; side = None; answer = answers.Tables (record { name = codes "_t_del"; comment = codes "ghost-cut-over-sentry" } ∷ record { name = codes "_t_ghc"; comment = [] } ∷ record { name = codes "t"; comment = codes "ghost-cut-over-sentry" } ∷ []); missed = None; draw = None }
    ∷ record { actor = Insp; session = 6; asked = Call (requests.Drop (codes "_t_ghc")); side = None; answer = answers.Ok 0; missed = None; draw = None }
    ∷ record { actor = Insp; session = 6; asked = Call (requests.Drop (codes "_t_del")); side = None; answer = answers.Ok 0; missed = None; draw = None }
    ∷ []

abbrev reported_191 : WorkedFacts
reported_191 =
    record {
      verdict = verdicts.Done;
      ended = (Some (1, 1) ∷ Some (1, 2) ∷ Some (1, 3) ∷ Some (2, 1) ∷ Some (2, 2) ∷ Some (1, 4) ∷ Some (1, 5) ∷ Some (1, 6) ∷ None ∷ []);
      left = (record { schema = record { name = codes "t"; columns = (record { name = codes "m0"; kind = Int 1 false; nullable = true; default = (Some (Num (pos 1))); auto = false } ∷ record { name = codes "v"; kind = Int 4 false; nullable = false; default = None; auto = false } ∷ record { name = codes "id"; kind = Int 8 false; nullable = false; default = None; auto = false } ∷ []); uniques = (record { name = None; places = (2 ∷ []) } ∷ record { name = (Some (codes "u0")); places = (0 ∷ []) } ∷ []); indexes = []; comment = codes "ghost-cut-over-sentry"; start = None }; rows = (((Num (pos 5)) ∷ (Num (pos 3)) ∷ (Num (pos 3)) ∷ []) ∷ ((Num (pos 4)) ∷ (Num (pos 3)) ∷ (Num (pos 7)) ∷ []) ∷ []) } ∷ []);
      alone = (((replies.Error 1062) ∷ []) ∷ ((replies.Ok 1) ∷ []) ∷ ((replies.Ok 0) ∷ (replies.Ok 0) ∷ []) ∷ ((replies.Error 1062) ∷ []) ∷ ((replies.Ok 1) ∷ []) ∷ ((replies.Ok 2) ∷ []) ∷ ((replies.Rows []) ∷ []) ∷ ((replies.Rows []) ∷ []) ∷ [] ∷ []);
      over = replicate 49 false ++ replicate 1 true;
      bound = 772573;
      replies = (((1, 1, (Some (replies.Error 1062))) ∷ (2, 1, (Some (replies.Ok 1))) ∷ (3, 1, (Some (replies.Ok 0))) ∷ (3, 2, (Some (replies.Ok 0))) ∷ (4, 1, (Some (replies.Ok 2))) ∷ (5, 1, (Some (replies.Rows []))) ∷ (6, 1, (Some (replies.Rows []))) ∷ [])) ∷ (((1, 1, (Some (replies.Error 1062))) ∷ (2, 1, (Some (replies.Ok 1))) ∷ [])) ∷ [];
    }

worked_191 : IsWorked plan_191 journal_191 reported_191
unfolding computing
worked_191 = record { asks = refl; sessions = refl; answers = refl; sides = refl; struck = refl; verdict = refl; ended = refl; order = refl; left = refl; serial = refl; alone = refl; over = refl; online = refl; bounded = refl; replies = refl }

-- Plan 193
abbrev map_193 : List MapColumn
map_193 = (record { kind = VarChar 9; nullable = true; origin = from.Old 0 } ∷ record { kind = VarChar 6; nullable = false; origin = from.Old 1 } ∷ record { kind = Int 4 false; nullable = false; origin = from.Old 2 } ∷ [])

abbrev plan_193 : PlanData
plan_193 = record { table = codes "t"; alter = (clauses.Change (codes "m0") (record { name = codes "m0"; kind = VarChar 9; nullable = None; default = None; auto = false }) Unsaid ∷ []); tables = (record { schema = record { name = codes "t"; columns = (record { name = codes "m0"; kind = VarChar 3; nullable = true; default = (Some Null); auto = false } ∷ record { name = codes "v"; kind = VarChar 6; nullable = false; default = (Some (Text (codes "5"))); auto = false } ∷ record { name = codes "id"; kind = Int 4 false; nullable = false; default = None; auto = false } ∷ []); uniques = (record { name = None; places = (2 ∷ []) } ∷ record { name = (Some (codes "u0")); places = (0 ∷ []) } ∷ []); indexes = []; comment = []; start = None }; rows = [] } ∷ []); clients = ((record { line = 1; word = (words.Do (statements.Select (codes "t") shown.All (conditions.Range (record { column = codes "id"; sign = signs.Less; value = (Num (pos 3)) } ∷ record { column = codes "id"; sign = signs.More; value = (Num (pos 4)) } ∷ [])))) } ∷ record { line = 2; word = (words.Do (statements.Select (codes "t") (shown.Columns (codes "m0" ∷ [])) conditions.All)) } ∷ record { line = 3; word = (words.Do (statements.Delete (codes "t") (conditions.Range (record { column = codes "id"; sign = signs.AtMost; value = (Num (pos 3)) } ∷ record { column = codes "id"; sign = signs.Less; value = (Num (pos 4)) } ∷ [])))) } ∷ []) ∷ (record { line = 1; word = (words.Do (statements.Insert (codes "t") (Some (codes "v" ∷ codes "id" ∷ [])) ((Text (codes "g")) ∷ (Num (pos 5)) ∷ []) None)) } ∷ record { line = 2; word = words.Begin } ∷ record { line = 3; word = (words.Do (statements.Update (codes "t") (record { column = codes "v"; value = (Text (codes "g")) } ∷ record { column = codes "id"; value = (Num (pos 1)) } ∷ []) (conditions.Equal (record { column = codes "id"; value = (Num (pos 1)) } ∷ [])))) } ∷ record { line = 4; word = (words.Do (statements.Update (codes "t") (record { column = codes "v"; value = (Num (pos 5)) } ∷ []) (conditions.Equal (record { column = codes "id"; value = (Num (pos 7)) } ∷ [])))) } ∷ record { line = 5; word = words.Commit } ∷ []) ∷ (record { line = 1; word = words.Begin } ∷ record { line = 2; word = (words.Do (statements.Delete (codes "t") (conditions.Equal (record { column = codes "id"; value = (Num (pos 4)) } ∷ [])))) } ∷ record { line = 3; word = words.Rollback } ∷ []) ∷ []); operator = (record { word = commanded.Unpostpone; units = 1 } ∷ record { word = commanded.Wait; units = 3 } ∷ record { word = commanded.Panic; units = 1 } ∷ record { word = commanded.Wait; units = 22 } ∷ record { word = (commanded.ChunkSize 3); units = 1 } ∷ []); faults = (losses.Nth Copy 2 sides_at.Before ∷ losses.Nth (Client 1) 5 sides_at.Before ∷ losses.Nth Copy 5 sides_at.After ∷ []); turns = (record { actor = Insp; times = 5 } ∷ record { actor = Apply; times = 1 } ∷ record { actor = (Client 3); times = 1 } ∷ record { actor = Apply; times = 1 } ∷ record { actor = (Client 2); times = 2 } ∷ record { actor = Lock; times = 3 } ∷ record { actor = Lock; times = 1 } ∷ record { actor = Insp; times = 1 } ∷ record { actor = Insp; times = 3 } ∷ record { actor = (Client 3); times = 2 } ∷ record { actor = Apply; times = 1 } ∷ record { actor = (Client 3); times = 5 } ∷ record { actor = (Client 1); times = 2 } ∷ record { actor = (Client 3); times = 1 } ∷ record { actor = Op; times = 1 } ∷ record { actor = Op; times = 1 } ∷ record { actor = (Client 2); times = 1 } ∷ record { actor = Apply; times = 3 } ∷ record { actor = Copy; times = 5 } ∷ record { actor = (Client 3); times = 1 } ∷ record { actor = (Client 3); times = 3 } ∷ record { actor = Insp; times = 1 } ∷ record { actor = Ren; times = 1 } ∷ record { actor = (Client 1); times = 2 } ∷ record { actor = Ren; times = 5 } ∷ record { actor = (Client 2); times = 1 } ∷ record { actor = Apply; times = 2 } ∷ record { actor = Op; times = 1 } ∷ record { actor = Lock; times = 1 } ∷ record { actor = (Client 1); times = 3 } ∷ record { actor = Lock; times = 1 } ∷ record { actor = (Client 1); times = 1 } ∷ record { actor = Insp; times = 3 } ∷ record { actor = (Client 3); times = 5 } ∷ record { actor = (Client 1); times = 1 } ∷ record { actor = (Client 2); times = 1 } ∷ record { actor = Apply; times = 2 } ∷ record { actor = (Client 1); times = 1 } ∷ record { actor = (Client 2); times = 3 } ∷ record { actor = (Client 3); times = 3 } ∷ record { actor = (Client 3); times = 2 } ∷ record { actor = Apply; times = 5 } ∷ record { actor = Apply; times = 1 } ∷ []); options = record { chunk_size = 2; dml_batch_size = 4; default_retries = 2; max_backlog = 0; drain_limit = 5; client_wait = 30; tool_wait = 3; max_load = 64; turn_limit = 200000; notes = 0; note_every = 100; replica_step = 0; replica_pause = 1; max_lag = 10; resume = false; approve_renamed_columns = true; initially_drop_ghost_table = false; initially_drop_old_table = false; ok_to_drop_table = false; postpone = false; show_history = true; show_turns = true; show_tables = true; show_replies = true } }

abbrev journal_193 : List Entry
journal_193 =
    record { actor = Insp; session = 1; asked = Call requests.ShowTables; side = None; answer = answers.Tables (record { name = codes "t"; comment = [] } ∷ []); missed = None; draw = None }
    ∷ record { actor = Insp; session = 1; asked = Call (requests.Create (record { name = codes "_t_ghc"; columns = (record { name = codes "id"; kind = Int 8 false; nullable = false; default = None; auto = false } ∷ record { name = codes "hint"; kind = VarChar 64; nullable = false; default = None; auto = false } ∷ record { name = codes "value"; kind = VarChar 255; nullable = false; default = None; auto = false } ∷ []); uniques = (record { name = None; places = (0 ∷ []) } ∷ []); indexes = []; comment = []; start = None })); side = None; answer = answers.Ok 0; missed = None; draw = None }
    ∷ record { actor = Insp; session = 1; asked = Call (requests.Create (record { name = codes "_t_gho"; columns = (record { name = codes "m0"; kind = VarChar 9; nullable = true; default = (Some Null); auto = false } ∷ record { name = codes "v"; kind = VarChar 6; nullable = false; default = (Some (Text (codes "5"))); auto = false } ∷ record { name = codes "id"; kind = Int 4 false; nullable = false; default = None; auto = false } ∷ []); uniques = (record { name = None; places = (2 ∷ []) } ∷ record { name = (Some (codes "u0")); places = (0 ∷ []) } ∷ []); indexes = []; comment = []; start = None })); side = None; answer = answers.Ok 0; missed = None; draw = None }
    ∷ record { actor = Insp; session = 1; asked = Call requests.LogEnd; side = None; answer = answers.At 0; missed = None; draw = None }
    ∷ record { actor = Insp; session = 1; asked = Call (requests.Ends (codes "t")); side = None; answer = answers.Ends None; missed = None; draw = None }
    ∷ record { actor = (Client 3); session = 2; asked = Call requests.Begin; side = None; answer = answers.Ok 0; missed = None; draw = None }
    ∷ record { actor = (Client 2); session = 3; asked = Call (requests.Do (statements.Insert (codes "t") (Some (codes "v" ∷ codes "id" ∷ [])) ((Text (codes "g")) ∷ (Num (pos 5)) ∷ []) None)); side = None; answer = answers.Ok 1; missed = None; draw = None }
    ∷ record { actor = (Client 2); session = 3; asked = Call requests.Begin; side = None; answer = answers.Ok 0; missed = None; draw = None }
    ∷ record { actor = (Client 3); session = 2; asked = Call (requests.Do (statements.Delete (codes "t") (conditions.Equal (record { column = codes "id"; value = (Num (pos 4)) } ∷ [])))); side = None; answer = answers.Ok 0; missed = None; draw = None }
    ∷ record { actor = (Client 3); session = 2; asked = Call requests.Rollback; side = None; answer = answers.Ok 0; missed = None; draw = None }
    ∷ record { actor = Apply; session = 4; asked = Call (requests.ReadLog 0 4 (codes "t" ∷ codes "_t_ghc" ∷ [])); side = None; answer = answers.Events (record { table = codes "t"; change = changes.Write (Null ∷ (Text (codes "g")) ∷ (Num (pos 5)) ∷ []) } ∷ []) 1; missed = None; draw = None }
    ∷ record { actor = (Client 1); session = 5; asked = Call (requests.Do (statements.Select (codes "t") shown.All (conditions.Range (record { column = codes "id"; sign = signs.Less; value = (Num (pos 3)) } ∷ record { column = codes "id"; sign = signs.More; value = (Num (pos 4)) } ∷ [])))); side = None; answer = answers.Rows []; missed = None; draw = None }
    ∷ record { actor = (Client 1); session = 5; asked = Call (requests.Do (statements.Select (codes "t") (shown.Columns (codes "m0" ∷ [])) conditions.All)); side = None; answer = answers.Rows ((Null ∷ []) ∷ []); missed = None; draw = None }
    ∷ record { actor = Op; session = 0; asked = Command commanded.Unpostpone; side = None; answer = answers.Ok 0; missed = None; draw = None }
    ∷ record { actor = Op; session = 0; asked = Command commanded.Wait; side = None; answer = answers.Ok 0; missed = None; draw = None }
    ∷ record { actor = (Client 2); session = 3; asked = Call (requests.Do (statements.Update (codes "t") (record { column = codes "v"; value = (Text (codes "g")) } ∷ record { column = codes "id"; value = (Num (pos 1)) } ∷ []) (conditions.Equal (record { column = codes "id"; value = (Num (pos 1)) } ∷ [])))); side = None; answer = answers.Ok 0; missed = None; draw = None }
    ∷ record { actor = Apply; session = 4; asked = Call requests.Begin; side = None; answer = answers.Ok 0; missed = None; draw = None }
    ∷ record { actor = Apply; session = 4; asked = Call (requests.Do (statements.Replace (codes "_t_gho") None (Null ∷ (Text (codes "g")) ∷ (Num (pos 5)) ∷ []) None)); side = None; answer = answers.Ok 1; missed = None; draw = None }
    ∷ record { actor = Apply; session = 4; asked = Call requests.Commit; side = None; answer = answers.Ok 0; missed = None; draw = None }
    ∷ record { actor = (Client 1); session = 5; asked = Call (requests.Do (statements.Delete (codes "t") (conditions.Range (record { column = codes "id"; sign = signs.AtMost; value = (Num (pos 3)) } ∷ record { column = codes "id"; sign = signs.Less; value = (Num (pos 4)) } ∷ [])))); side = None; answer = answers.Waits 3; missed = None; draw = None }
    ∷ record { actor = (Client 1); session = 5; asked = Poll; side = None; answer = answers.Waits 3; missed = None; draw = None }
    ∷ record { actor = (Client 2); session = 3; asked = Call (requests.Do (statements.Update (codes "t") (record { column = codes "v"; value = (Num (pos 5)) } ∷ []) (conditions.Equal (record { column = codes "id"; value = (Num (pos 7)) } ∷ [])))); side = None; answer = answers.Ok 0; missed = None; draw = None }
    ∷ record { actor = Op; session = 0; asked = Command commanded.Wait; side = None; answer = answers.Ok 0; missed = None; draw = None }
    ∷ record { actor = Lock; session = 6; asked = Call (requests.Create (record { name = codes "_t_del"; columns = (record { name = codes "id"; kind = Int 4 false; nullable = false; default = None; auto = false } ∷ []); uniques = (record { name = None; places = (0 ∷ []) } ∷ []); indexes = []; comment = codes "ghost-cut-over-sentry"; start = None })); side = None; answer = answers.Ok 0; missed = None; draw = None }
    ∷ record { actor = (Client 1); session = 5; asked = Poll; side = (Some sides_at.Before); answer = answers.Lost; missed = None; draw = None }
    ∷ record { actor = Lock; session = 6; asked = Call (requests.LockTables (codes "t" ∷ codes "_t_del" ∷ [])); side = None; answer = answers.Waits 3; missed = None; draw = None }
    ∷ record { actor = (Client 2); session = 3; asked = Call requests.Commit; side = None; answer = answers.Ok 0; missed = None; draw = None }
    ∷ record { actor = Op; session = 0; asked = Command commanded.Wait; side = None; answer = answers.Ok 0; missed = None; draw = None }
    ∷ record { actor = Lock; session = 6; asked = Poll; side = None; answer = answers.Ok 0; missed = None; draw = None }
    ∷ record { actor = Op; session = 0; asked = Command commanded.Panic; side = None; answer = answers.Ok 0; missed = None; draw = None }
    ∷ record { actor = Lock; session = 6; asked = Call requests.Unlock; side = None; answer = answers.Ok 0; missed = None; draw = None }
    ∷ record { actor = Op; session = 0; asked = Command commanded.Wait; side = None; answer = answers.Ok 0; missed = None; draw = None }
    ∷ record { actor = Insp; session = 1; asked = Call requests.ShowTables; side = None; answer = answers.Tables (record { name = codes "_t_del"; comment = codes "ghost-cut-over-sentry" } ∷ record { name = codes "_t_ghc"; comment = [] } ∷ record { name = codes "_t_gho"; comment = [] } ∷ record { name = codes "t"; comment = [] } ∷ []); missed = None; draw = None }
    ∷ record { actor = Op; session = 0; asked = Command commanded.Wait; side = None; answer = answers.Ok 0; missed = None; draw = None }
    ∷ record { actor = Insp; session = 1; asked = Call (requests.Drop (codes "_t_del")); side = None; answer = answers.Ok 0; missed = None; draw = None }
    ∷ []

abbrev reported_193 : WorkedFacts
reported_193 =
    record {
      verdict = verdicts.Reverted (causes.Panic 30);
      ended = (Some (2, 1) ∷ Some (3, 1) ∷ Some (1, 1) ∷ Some (1, 2) ∷ Some (1, 3) ∷ Some (2, 2) ∷ []);
      left = (record { schema = record { name = codes "t"; columns = (record { name = codes "m0"; kind = VarChar 3; nullable = true; default = (Some Null); auto = false } ∷ record { name = codes "v"; kind = VarChar 6; nullable = false; default = (Some (Text (codes "5"))); auto = false } ∷ record { name = codes "id"; kind = Int 4 false; nullable = false; default = None; auto = false } ∷ []); uniques = (record { name = None; places = (2 ∷ []) } ∷ record { name = (Some (codes "u0")); places = (0 ∷ []) } ∷ []); indexes = []; comment = []; start = None }; rows = ((Null ∷ (Text (codes "g")) ∷ (Num (pos 5)) ∷ []) ∷ []) } ∷ []);
      alone = (((replies.Ok 1) ∷ []) ∷ ((replies.Ok 0) ∷ (replies.Ok 0) ∷ (replies.Ok 0) ∷ []) ∷ ((replies.Rows []) ∷ []) ∷ ((replies.Rows ((Null ∷ []) ∷ [])) ∷ []) ∷ [] ∷ ((replies.Ok 0) ∷ (replies.Ok 0) ∷ (replies.Ok 0) ∷ (replies.Ok 0) ∷ []) ∷ []);
      over = replicate 34 false ++ replicate 1 true;
      bound = 45200;
      replies = (((1, 1, (Some (replies.Rows []))) ∷ (2, 1, (Some (replies.Rows ((Null ∷ []) ∷ [])))) ∷ (3, 1, None) ∷ [])) ∷ (((1, 1, (Some (replies.Ok 1))) ∷ (2, 1, (Some (replies.Ok 0))) ∷ (2, 2, (Some (replies.Ok 0))) ∷ (2, 3, (Some (replies.Ok 0))) ∷ (2, 4, (Some (replies.Ok 0))) ∷ [])) ∷ (((1, 1, (Some (replies.Ok 0))) ∷ (1, 2, (Some (replies.Ok 0))) ∷ (1, 3, (Some (replies.Ok 0))) ∷ [])) ∷ [];
    }

worked_193 : IsWorked plan_193 journal_193 reported_193
unfolding computing
worked_193 = record { asks = refl; sessions = refl; answers = refl; sides = refl; struck = refl; verdict = refl; ended = refl; order = refl; left = refl; serial = refl; alone = refl; over = refl; online = refl; bounded = refl; replies = refl }

-- Plan 204
abbrev map_204 : List MapColumn
map_204 = (record { kind = Int 1 false; nullable = true; origin = from.Old 0 } ∷ record { kind = Int 4 false; nullable = false; origin = from.Old 1 } ∷ [])

abbrev plan_204 : PlanData
plan_204 = record { table = codes "t"; alter = (clauses.DropIndex (codes "u0") ∷ []); tables = (record { schema = record { name = codes "t"; columns = (record { name = codes "m0"; kind = Int 1 false; nullable = true; default = (Some Null); auto = false } ∷ record { name = codes "id"; kind = Int 4 false; nullable = false; default = None; auto = false } ∷ []); uniques = (record { name = None; places = (1 ∷ []) } ∷ record { name = (Some (codes "u0")); places = (0 ∷ []) } ∷ []); indexes = []; comment = []; start = None }; rows = ((Null ∷ (Num (pos 5)) ∷ []) ∷ []) } ∷ []); clients = ((record { line = 1; word = (words.Do (statements.Update (codes "t") (record { column = codes "m0"; value = (Blob (255 ∷ [])) } ∷ record { column = codes "id"; value = (Num (pos 7)) } ∷ []) (conditions.Equal (record { column = codes "id"; value = (Text (codes "7")) } ∷ [])))) } ∷ record { line = 2; word = (words.Do (statements.Delete (codes "t") (conditions.Equal (record { column = codes "id"; value = (Num (pos 3)) } ∷ [])))) } ∷ record { line = 3; word = (words.Do (statements.Update (codes "t") (record { column = codes "id"; value = (Num (pos 4)) } ∷ []) (conditions.Equal (record { column = codes "m0"; value = (Num (pos 6)) } ∷ [])))) } ∷ record { line = 4; word = words.Begin } ∷ record { line = 5; word = (words.Do (statements.Replace (codes "t") (Some (codes "m0" ∷ codes "id" ∷ [])) ((Num (pos 2)) ∷ (Num (pos 2)) ∷ []) None)) } ∷ record { line = 6; word = (words.Do (statements.Replace (codes "t") (Some (codes "m0" ∷ codes "id" ∷ [])) ((Num (pos 3)) ∷ (Text (codes "7")) ∷ []) None)) } ∷ record { line = 7; word = (words.Do (statements.Delete (codes "t") conditions.All)) } ∷ record { line = 8; word = words.Rollback } ∷ []) ∷ (record { line = 1; word = words.Begin } ∷ record { line = 2; word = (words.Do (statements.Insert (codes "t") None ((Text (codes "zzzzzzzzz")) ∷ (Num (pos 3)) ∷ []) None)) } ∷ record { line = 3; word = (words.Do (statements.Select (codes "t") (shown.Columns (codes "m0" ∷ [])) (conditions.Equal (record { column = codes "id"; value = (Num (pos 5)) } ∷ [])))) } ∷ record { line = 4; word = (words.Do (statements.Insert (codes "t") None (Null ∷ (Num (pos 4)) ∷ []) None)) } ∷ record { line = 5; word = words.Rollback } ∷ []) ∷ (record { line = 1; word = (words.Do (statements.Replace (codes "t") (Some (codes "m0" ∷ codes "id" ∷ [])) (Null ∷ (Num (pos 5)) ∷ []) None)) } ∷ record { line = 2; word = (words.Do (statements.Update (codes "t") (record { column = codes "m0"; value = (Num (pos 2)) } ∷ []) (conditions.Equal (record { column = codes "id"; value = (Num (pos 4)) } ∷ [])))) } ∷ []) ∷ []); operator = []; faults = (losses.Turn 25 Op ∷ losses.Nth (Client 2) 3 sides_at.After ∷ losses.Nth Lock 5 sides_at.After ∷ []); turns = (record { actor = Insp; times = 7 } ∷ record { actor = Insp; times = 1 } ∷ record { actor = Ren; times = 3 } ∷ record { actor = Apply; times = 3 } ∷ record { actor = Lock; times = 5 } ∷ record { actor = (Client 1); times = 1 } ∷ record { actor = Apply; times = 3 } ∷ record { actor = Lock; times = 1 } ∷ record { actor = Lock; times = 1 } ∷ record { actor = Insp; times = 5 } ∷ record { actor = (Client 1); times = 2 } ∷ record { actor = Copy; times = 1 } ∷ record { actor = Copy; times = 1 } ∷ record { actor = Copy; times = 5 } ∷ record { actor = Copy; times = 2 } ∷ record { actor = (Client 1); times = 3 } ∷ record { actor = (Client 3); times = 1 } ∷ record { actor = Ren; times = 2 } ∷ record { actor = Lock; times = 3 } ∷ record { actor = Op; times = 3 } ∷ record { actor = Lock; times = 3 } ∷ record { actor = Ren; times = 3 } ∷ record { actor = Lock; times = 5 } ∷ record { actor = (Client 1); times = 3 } ∷ record { actor = (Client 2); times = 2 } ∷ record { actor = Lock; times = 2 } ∷ record { actor = Op; times = 1 } ∷ record { actor = Ren; times = 1 } ∷ record { actor = (Client 1); times = 1 } ∷ record { actor = (Client 1); times = 1 } ∷ record { actor = Apply; times = 5 } ∷ record { actor = Ren; times = 3 } ∷ record { actor = Lock; times = 2 } ∷ record { actor = Copy; times = 2 } ∷ record { actor = (Client 2); times = 1 } ∷ record { actor = (Client 3); times = 5 } ∷ record { actor = (Client 3); times = 5 } ∷ record { actor = Copy; times = 1 } ∷ record { actor = Lock; times = 5 } ∷ record { actor = Insp; times = 2 } ∷ record { actor = Op; times = 2 } ∷ record { actor = (Client 2); times = 1 } ∷ record { actor = (Client 1); times = 1 } ∷ record { actor = Lock; times = 1 } ∷ record { actor = (Client 3); times = 1 } ∷ record { actor = Apply; times = 5 } ∷ record { actor = (Client 3); times = 1 } ∷ record { actor = Lock; times = 3 } ∷ record { actor = (Client 3); times = 3 } ∷ []); options = record { chunk_size = 2; dml_batch_size = 10; default_retries = 2; max_backlog = 0; drain_limit = 3; client_wait = 5; tool_wait = 5; max_load = 1; turn_limit = 200000; notes = 0; note_every = 100; replica_step = 0; replica_pause = 1; max_lag = 10; resume = false; approve_renamed_columns = true; initially_drop_ghost_table = false; initially_drop_old_table = false; ok_to_drop_table = true; postpone = false; show_history = true; show_turns = true; show_tables = true; show_replies = true } }

abbrev journal_204 : List Entry
journal_204 =
    record { actor = Insp; session = 1; asked = Call requests.ShowTables; side = None; answer = answers.Tables (record { name = codes "t"; comment = [] } ∷ []); missed = None; draw = None }
    ∷ record { actor = Insp; session = 1; asked = Call (requests.Create (record { name = codes "_t_ghc"; columns = (record { name = codes "id"; kind = Int 8 false; nullable = false; default = None; auto = false } ∷ record { name = codes "hint"; kind = VarChar 64; nullable = false; default = None; auto = false } ∷ record { name = codes "value"; kind = VarChar 255; nullable = false; default = None; auto = false } ∷ []); uniques = (record { name = None; places = (0 ∷ []) } ∷ []); indexes = []; comment = []; start = None })); side = None; answer = answers.Ok 0; missed = None; draw = None }
    ∷ record { actor = Insp; session = 1; asked = Call (requests.Create (record { name = codes "_t_gho"; columns = (record { name = codes "m0"; kind = Int 1 false; nullable = true; default = (Some Null); auto = false } ∷ record { name = codes "id"; kind = Int 4 false; nullable = false; default = None; auto = false } ∷ []); uniques = (record { name = None; places = (1 ∷ []) } ∷ []); indexes = []; comment = []; start = None })); side = None; answer = answers.Ok 0; missed = None; draw = None }
    ∷ record { actor = Insp; session = 1; asked = Call requests.LogEnd; side = None; answer = answers.At 0; missed = None; draw = None }
    ∷ record { actor = Insp; session = 1; asked = Call (requests.Ends (codes "t")); side = None; answer = answers.Ends (Some (record { least = ((Num (pos 5)) ∷ []); greatest = ((Num (pos 5)) ∷ []) })); missed = None; draw = None }
    ∷ record { actor = (Client 1); session = 2; asked = Call (requests.Do (statements.Update (codes "t") (record { column = codes "m0"; value = (Blob (255 ∷ [])) } ∷ record { column = codes "id"; value = (Num (pos 7)) } ∷ []) (conditions.Equal (record { column = codes "id"; value = (Text (codes "7")) } ∷ [])))); side = None; answer = answers.Ok 0; missed = None; draw = None }
    ∷ record { actor = (Client 1); session = 2; asked = Call (requests.Do (statements.Delete (codes "t") (conditions.Equal (record { column = codes "id"; value = (Num (pos 3)) } ∷ [])))); side = None; answer = answers.Ok 0; missed = None; draw = None }
    ∷ record { actor = (Client 1); session = 2; asked = Call (requests.Do (statements.Update (codes "t") (record { column = codes "id"; value = (Num (pos 4)) } ∷ []) (conditions.Equal (record { column = codes "m0"; value = (Num (pos 6)) } ∷ [])))); side = None; answer = answers.Ok 0; missed = None; draw = None }
    ∷ record { actor = Copy; session = 3; asked = Call (requests.ChunkEnd (codes "t") (Closed ((Num (pos 5)) ∷ [])) ((Num (pos 5)) ∷ []) 2); side = None; answer = answers.End ((Num (pos 5)) ∷ []); missed = None; draw = None }
    ∷ record { actor = Copy; session = 3; asked = Call (requests.BeginSpan (codes "t") (record { low = (Closed ((Num (pos 5)) ∷ [])); high = (Closed ((Num (pos 5)) ∷ [])) }) 2); side = None; answer = answers.Keys (((Num (pos 5)) ∷ []) ∷ []) ((Num (pos 5)) ∷ []); missed = None; draw = None }
    ∷ record { actor = Copy; session = 3; asked = Call (requests.CopyRow (codes "t") (codes "_t_gho") map_204 ((Num (pos 5)) ∷ [])); side = None; answer = answers.Ok 1; missed = None; draw = None }
    ∷ record { actor = Copy; session = 3; asked = Call requests.Commit; side = None; answer = answers.Ok 0; missed = None; draw = None }
    ∷ record { actor = (Client 1); session = 2; asked = Call requests.Begin; side = None; answer = answers.Ok 0; missed = None; draw = None }
    ∷ record { actor = (Client 1); session = 2; asked = Call (requests.Do (statements.Replace (codes "t") (Some (codes "m0" ∷ codes "id" ∷ [])) ((Num (pos 2)) ∷ (Num (pos 2)) ∷ []) None)); side = None; answer = answers.Ok 1; missed = None; draw = None }
    ∷ record { actor = (Client 1); session = 2; asked = Call (requests.Do (statements.Replace (codes "t") (Some (codes "m0" ∷ codes "id" ∷ [])) ((Num (pos 3)) ∷ (Text (codes "7")) ∷ []) None)); side = None; answer = answers.Ok 1; missed = None; draw = None }
    ∷ record { actor = (Client 3); session = 4; asked = Call (requests.Do (statements.Replace (codes "t") (Some (codes "m0" ∷ codes "id" ∷ [])) (Null ∷ (Num (pos 5)) ∷ []) None)); side = None; answer = answers.Ok 2; missed = None; draw = None }
    ∷ record { actor = (Client 1); session = 2; asked = Call (requests.Do (statements.Delete (codes "t") conditions.All)); side = None; answer = answers.Ok 3; missed = None; draw = None }
    ∷ record { actor = (Client 1); session = 2; asked = Call requests.Rollback; side = None; answer = answers.Ok 0; missed = None; draw = None }
    ∷ record { actor = (Client 2); session = 5; asked = Call requests.Begin; side = None; answer = answers.Ok 0; missed = None; draw = None }
    ∷ record { actor = (Client 2); session = 5; asked = Call (requests.Do (statements.Insert (codes "t") None ((Text (codes "zzzzzzzzz")) ∷ (Num (pos 3)) ∷ []) None)); side = None; answer = answers.Refused 1366 (Some 0); missed = None; draw = None }
    ∷ record { actor = Apply; session = 6; asked = Call (requests.ReadLog 0 10 (codes "t" ∷ codes "_t_ghc" ∷ [])); side = None; answer = answers.Events (record { table = codes "t"; change = changes.Delete (Null ∷ (Num (pos 5)) ∷ []) } ∷ record { table = codes "t"; change = changes.Write (Null ∷ (Num (pos 5)) ∷ []) } ∷ []) 3; missed = None; draw = None }
    ∷ record { actor = Apply; session = 6; asked = Call requests.Begin; side = None; answer = answers.Ok 0; missed = None; draw = None }
    ∷ record { actor = Apply; session = 6; asked = Call (requests.Do (statements.Delete (codes "_t_gho") (conditions.Equal (record { column = codes "id"; value = (Num (pos 5)) } ∷ [])))); side = None; answer = answers.Ok 1; missed = None; draw = None }
    ∷ record { actor = Apply; session = 6; asked = Call (requests.Do (statements.Replace (codes "_t_gho") None (Null ∷ (Num (pos 5)) ∷ []) None)); side = None; answer = answers.Ok 1; missed = None; draw = None }
    ∷ record { actor = Apply; session = 6; asked = Call requests.Commit; side = None; answer = answers.Ok 0; missed = None; draw = None }
    ∷ record { actor = Lock; session = 7; asked = Call (requests.Create (record { name = codes "_t_del"; columns = (record { name = codes "id"; kind = Int 4 false; nullable = false; default = None; auto = false } ∷ []); uniques = (record { name = None; places = (0 ∷ []) } ∷ []); indexes = []; comment = codes "ghost-cut-over-sentry"; start = None })); side = None; answer = answers.Ok 0; missed = None; draw = None }
    ∷ record { actor = Lock; session = 7; asked = Call (requests.LockTables (codes "t" ∷ codes "_t_del" ∷ [])); side = None; answer = answers.Waits 5; missed = None; draw = None }
    ∷ record { actor = (Client 2); session = 5; asked = Call (requests.Do (statements.Select (codes "t") (shown.Columns (codes "m0" ∷ [])) (conditions.Equal (record { column = codes "id"; value = (Num (pos 5)) } ∷ [])))); side = (Some sides_at.After); answer = answers.Lost; missed = (Some (answers.Rows ((Null ∷ []) ∷ []))); draw = None }
    ∷ record { actor = (Client 3); session = 4; asked = Call (requests.Do (statements.Update (codes "t") (record { column = codes "m0"; value = (Num (pos 2)) } ∷ []) (conditions.Equal (record { column = codes "id"; value = (Num (pos 4)) } ∷ [])))); side = None; answer = answers.Waits 7; missed = None; draw = None }
    ∷ record { actor = (Client 3); session = 4; asked = Poll; side = None; answer = answers.Waits 7; missed = None; draw = None }
    ∷ record { actor = (Client 3); session = 4; asked = Poll; side = None; answer = answers.Waits 7; missed = None; draw = None }
    ∷ record { actor = (Client 3); session = 4; asked = Poll; side = None; answer = answers.Waits 7; missed = None; draw = None }
    ∷ record { actor = (Client 3); session = 4; asked = Poll; side = None; answer = answers.Waits 7; missed = None; draw = None }
    ∷ record { actor = (Client 3); session = 4; asked = Poll; side = None; answer = answers.TimedOut 5; missed = None; draw = None }
    ∷ record { actor = Lock; session = 7; asked = Poll; side = None; answer = answers.Ok 0; missed = None; draw = None }
    ∷ record { actor = Insp; session = 1; asked = Call (requests.Do (statements.Insert (codes "_t_ghc") None ((Num (pos 1)) ∷ (Text (codes "cut-over")) ∷ (Text (codes "1")) ∷ []) None)); side = None; answer = answers.Ok 1; missed = None; draw = None }
    ∷ record { actor = Apply; session = 6; asked = Call (requests.ReadLog 3 10 (codes "t" ∷ codes "_t_ghc" ∷ [])); side = None; answer = answers.Events (record { table = codes "_t_ghc"; change = changes.Write ((Num (pos 1)) ∷ (Text (codes "cut-over")) ∷ (Text (codes "1")) ∷ []) } ∷ []) 6; missed = None; draw = None }
    ∷ record { actor = Ren; session = 8; asked = Call (requests.Rename (record { old = codes "t"; new = codes "_t_del" } ∷ record { old = codes "_t_gho"; new = codes "t" } ∷ [])); side = None; answer = answers.Waits 7; missed = None; draw = None }
    ∷ record { actor = Insp; session = 1; asked = Call requests.ShowWaiting; side = None; answer = answers.Waiting (record { session = 8; names = (codes "t" ∷ codes "_t_del" ∷ codes "_t_gho" ∷ []); by = 7 } ∷ []); missed = None; draw = None }
    ∷ record { actor = Lock; session = 7; asked = Call (requests.Drop (codes "_t_del")); side = None; answer = answers.Ok 0; missed = None; draw = None }
    ∷ record { actor = Ren; session = 8; asked = Poll; side = None; answer = answers.Waits 7; missed = None; draw = None }
    ∷ record { actor = Lock; session = 7; asked = Call requests.Unlock; side = (Some sides_at.After); answer = answers.Lost; missed = (Some (answers.Ok 0)); draw = None }
    ∷ record { actor = Ren; session = 8; asked = Poll; side = None; answer = answers.Ok 0; missed = None; draw = None }
    ∷ record { actor = Insp; session = 1; asked = Call requests.ShowTables; side = None; answer = answers.Tables (record { name = codes "_t_del"; comment = [] } ∷ record { name = codes "_t_ghc"; comment = [] } ∷ record { name = codes "t"; comment = [] } ∷ []); missed = None; draw = None }
    ∷ record { actor = Insp; session = 1; asked = Call (requests.Drop (codes "_t_ghc")); side = None; answer = answers.Ok 0; missed = None; draw = None }
    ∷ record { actor = Insp; session = 1; asked = Call (requests.Drop (codes "_t_del")); side = None; answer = answers.Ok 0; missed = None; draw = None }
    ∷ []

abbrev reported_204 : WorkedFacts
reported_204 =
    record {
      verdict = verdicts.Done;
      ended = (Some (1, 1) ∷ Some (1, 2) ∷ Some (1, 3) ∷ Some (3, 1) ∷ Some (1, 4) ∷ Some (2, 1) ∷ Some (3, 2) ∷ None ∷ []);
      left = (record { schema = record { name = codes "t"; columns = (record { name = codes "m0"; kind = Int 1 false; nullable = true; default = (Some Null); auto = false } ∷ record { name = codes "id"; kind = Int 4 false; nullable = false; default = None; auto = false } ∷ []); uniques = (record { name = None; places = (1 ∷ []) } ∷ []); indexes = []; comment = []; start = None }; rows = ((Null ∷ (Num (pos 5)) ∷ []) ∷ []) } ∷ []);
      alone = (((replies.Ok 0) ∷ []) ∷ ((replies.Ok 0) ∷ []) ∷ ((replies.Ok 0) ∷ []) ∷ ((replies.Ok 2) ∷ []) ∷ ((replies.Ok 0) ∷ (replies.Ok 1) ∷ (replies.Ok 1) ∷ (replies.Ok 3) ∷ (replies.Ok 0) ∷ []) ∷ ((replies.Ok 0) ∷ (replies.Error 1366) ∷ []) ∷ ((replies.Error 1205) ∷ []) ∷ [] ∷ []);
      over = replicate 45 false ++ replicate 1 true;
      bound = 216583;
      replies = (((1, 1, (Some (replies.Ok 0))) ∷ (2, 1, (Some (replies.Ok 0))) ∷ (3, 1, (Some (replies.Ok 0))) ∷ (4, 1, (Some (replies.Ok 0))) ∷ (4, 2, (Some (replies.Ok 1))) ∷ (4, 3, (Some (replies.Ok 1))) ∷ (4, 4, (Some (replies.Ok 3))) ∷ (4, 5, (Some (replies.Ok 0))) ∷ [])) ∷ (((1, 1, (Some (replies.Ok 0))) ∷ (1, 2, (Some (replies.Error 1366))) ∷ (1, 3, None) ∷ [])) ∷ (((1, 1, (Some (replies.Ok 2))) ∷ (2, 1, (Some (replies.Error 1205))) ∷ [])) ∷ [];
    }

worked_204 : IsWorked plan_204 journal_204 reported_204
unfolding computing
worked_204 = record { asks = refl; sessions = refl; answers = refl; sides = refl; struck = refl; verdict = refl; ended = refl; order = refl; left = refl; serial = refl; alone = refl; over = refl; online = refl; bounded = refl; replies = refl }

-- Plan 207
abbrev map_207 : List MapColumn
map_207 = (record { kind = VarChar 3; nullable = false; origin = from.Old 0 } ∷ record { kind = Int 4 false; nullable = false; origin = from.Old 1 } ∷ record { kind = Int 2 false; nullable = true; origin = from.Old 2 } ∷ record { kind = Int 4 false; nullable = false; origin = from.Added (Num (pos 7)) } ∷ [])

abbrev plan_207 : PlanData
plan_207 = record { table = codes "t"; alter = (clauses.Add (record { name = codes "b"; kind = Int 4 false; nullable = (Some false); default = (Some (Num (pos 7))); auto = false }) Unsaid ∷ clauses.Change (codes "m0") (record { name = codes "m0"; kind = Int 4 false; nullable = (Some false); default = None; auto = false }) Unsaid ∷ []); tables = (record { schema = record { name = codes "t"; columns = (record { name = codes "id"; kind = VarChar 3; nullable = false; default = None; auto = false } ∷ record { name = codes "m0"; kind = Int 4 false; nullable = true; default = (Some Null); auto = false } ∷ record { name = codes "v"; kind = Int 2 false; nullable = true; default = (Some (Num (pos 5))); auto = false } ∷ []); uniques = (record { name = None; places = (0 ∷ []) } ∷ record { name = (Some (codes "u0")); places = (1 ∷ []) } ∷ []); indexes = []; comment = []; start = None }; rows = [] } ∷ []); clients = ((record { line = 1; word = (words.Do (statements.Delete (codes "t") (conditions.Equal (record { column = codes "id"; value = (Num (pos 2)) } ∷ [])))) } ∷ record { line = 2; word = (words.Do (statements.Delete (codes "t") (conditions.Equal (record { column = codes "id"; value = (Text (codes "b")) } ∷ [])))) } ∷ record { line = 3; word = (words.Do (statements.Delete (codes "t") (conditions.Equal (record { column = codes "id"; value = (Text (codes "d")) } ∷ [])))) } ∷ record { line = 4; word = (words.Do (statements.Insert (codes "t") (Some (codes "id" ∷ codes "m0" ∷ codes "v" ∷ [])) ((Num (pos 5)) ∷ Null ∷ (Num (pos 3)) ∷ []) None)) } ∷ record { line = 5; word = (words.Do (statements.Insert (codes "t") (Some (codes "id" ∷ codes "v" ∷ [])) ((Num (pos 7)) ∷ Null ∷ []) None)) } ∷ []) ∷ (record { line = 1; word = (words.Do (statements.Replace (codes "t") (Some (codes "id" ∷ codes "m0" ∷ codes "v" ∷ [])) ((Text (codes "a")) ∷ (Text (codes "3")) ∷ (Num (pos 7)) ∷ []) None)) } ∷ []) ∷ (record { line = 1; word = (words.Do (statements.Select (codes "t") shown.Count (conditions.Equal (record { column = codes "id"; value = (Text (codes "c")) } ∷ [])))) } ∷ []) ∷ []); operator = []; faults = (losses.Nth Copy 1 sides_at.Before ∷ []); turns = (record { actor = Apply; times = 3 } ∷ record { actor = Insp; times = 5 } ∷ record { actor = (Client 3); times = 1 } ∷ record { actor = Ren; times = 3 } ∷ record { actor = (Client 3); times = 5 } ∷ record { actor = Copy; times = 3 } ∷ record { actor = Apply; times = 5 } ∷ record { actor = Ren; times = 1 } ∷ record { actor = Ren; times = 3 } ∷ record { actor = (Client 3); times = 1 } ∷ record { actor = Insp; times = 1 } ∷ record { actor = (Client 1); times = 1 } ∷ record { actor = Apply; times = 2 } ∷ record { actor = (Client 1); times = 1 } ∷ record { actor = (Client 1); times = 2 } ∷ record { actor = Ren; times = 5 } ∷ record { actor = Insp; times = 5 } ∷ record { actor = (Client 2); times = 1 } ∷ record { actor = (Client 3); times = 2 } ∷ record { actor = Apply; times = 2 } ∷ record { actor = Apply; times = 1 } ∷ record { actor = Ren; times = 1 } ∷ record { actor = Op; times = 5 } ∷ record { actor = Insp; times = 1 } ∷ record { actor = (Client 1); times = 2 } ∷ record { actor = Apply; times = 2 } ∷ record { actor = (Client 2); times = 1 } ∷ record { actor = Ren; times = 1 } ∷ record { actor = (Client 2); times = 5 } ∷ record { actor = (Client 2); times = 1 } ∷ record { actor = (Client 3); times = 1 } ∷ record { actor = Lock; times = 1 } ∷ record { actor = Op; times = 1 } ∷ record { actor = Insp; times = 1 } ∷ record { actor = Insp; times = 2 } ∷ record { actor = Op; times = 1 } ∷ record { actor = (Client 3); times = 2 } ∷ record { actor = Insp; times = 1 } ∷ record { actor = Op; times = 2 } ∷ []); options = record { chunk_size = 1; dml_batch_size = 4; default_retries = 60; max_backlog = 100; drain_limit = 2000; client_wait = 30; tool_wait = 3; max_load = 64; turn_limit = 200000; notes = 0; note_every = 100; replica_step = 0; replica_pause = 1; max_lag = 10; resume = false; approve_renamed_columns = true; initially_drop_ghost_table = false; initially_drop_old_table = false; ok_to_drop_table = false; postpone = false; show_history = true; show_turns = true; show_tables = true; show_replies = true } }

abbrev journal_207 : List Entry
journal_207 =
    record { actor = Insp; session = 1; asked = Call requests.ShowTables; side = None; answer = answers.Tables (record { name = codes "t"; comment = [] } ∷ []); missed = None; draw = None }
    ∷ record { actor = Insp; session = 1; asked = Call (requests.Create (record { name = codes "_t_ghc"; columns = (record { name = codes "id"; kind = Int 8 false; nullable = false; default = None; auto = false } ∷ record { name = codes "hint"; kind = VarChar 64; nullable = false; default = None; auto = false } ∷ record { name = codes "value"; kind = VarChar 255; nullable = false; default = None; auto = false } ∷ []); uniques = (record { name = None; places = (0 ∷ []) } ∷ []); indexes = []; comment = []; start = None })); side = None; answer = answers.Ok 0; missed = None; draw = None }
    ∷ record { actor = Insp; session = 1; asked = Call (requests.Create (record { name = codes "_t_gho"; columns = (record { name = codes "id"; kind = VarChar 3; nullable = false; default = None; auto = false } ∷ record { name = codes "m0"; kind = Int 4 false; nullable = false; default = None; auto = false } ∷ record { name = codes "v"; kind = Int 2 false; nullable = true; default = (Some (Num (pos 5))); auto = false } ∷ record { name = codes "b"; kind = Int 4 false; nullable = false; default = (Some (Num (pos 7))); auto = false } ∷ []); uniques = (record { name = None; places = (0 ∷ []) } ∷ record { name = (Some (codes "u0")); places = (1 ∷ []) } ∷ []); indexes = []; comment = []; start = None })); side = None; answer = answers.Ok 0; missed = None; draw = None }
    ∷ record { actor = Insp; session = 1; asked = Call requests.LogEnd; side = None; answer = answers.At 0; missed = None; draw = None }
    ∷ record { actor = Insp; session = 1; asked = Call (requests.Ends (codes "t")); side = None; answer = answers.Ends None; missed = None; draw = None }
    ∷ record { actor = (Client 3); session = 2; asked = Call (requests.Do (statements.Select (codes "t") shown.Count (conditions.Equal (record { column = codes "id"; value = (Text (codes "c")) } ∷ [])))); side = None; answer = answers.Rows (((Num (pos 0)) ∷ []) ∷ []); missed = None; draw = None }
    ∷ record { actor = (Client 1); session = 3; asked = Call (requests.Do (statements.Delete (codes "t") (conditions.Equal (record { column = codes "id"; value = (Num (pos 2)) } ∷ [])))); side = None; answer = answers.Ok 0; missed = None; draw = None }
    ∷ record { actor = (Client 1); session = 3; asked = Call (requests.Do (statements.Delete (codes "t") (conditions.Equal (record { column = codes "id"; value = (Text (codes "b")) } ∷ [])))); side = None; answer = answers.Ok 0; missed = None; draw = None }
    ∷ record { actor = (Client 1); session = 3; asked = Call (requests.Do (statements.Delete (codes "t") (conditions.Equal (record { column = codes "id"; value = (Text (codes "d")) } ∷ [])))); side = None; answer = answers.Ok 0; missed = None; draw = None }
    ∷ record { actor = (Client 1); session = 3; asked = Call (requests.Do (statements.Insert (codes "t") (Some (codes "id" ∷ codes "m0" ∷ codes "v" ∷ [])) ((Num (pos 5)) ∷ Null ∷ (Num (pos 3)) ∷ []) None)); side = None; answer = answers.Ok 1; missed = None; draw = None }
    ∷ record { actor = (Client 2); session = 4; asked = Call (requests.Do (statements.Replace (codes "t") (Some (codes "id" ∷ codes "m0" ∷ codes "v" ∷ [])) ((Text (codes "a")) ∷ (Text (codes "3")) ∷ (Num (pos 7)) ∷ []) None)); side = None; answer = answers.Ok 1; missed = None; draw = None }
    ∷ record { actor = Apply; session = 5; asked = Call (requests.ReadLog 0 4 (codes "t" ∷ codes "_t_ghc" ∷ [])); side = None; answer = answers.Events (record { table = codes "t"; change = changes.Write ((Text (codes "5")) ∷ Null ∷ (Num (pos 3)) ∷ []) } ∷ record { table = codes "t"; change = changes.Write ((Text (codes "a")) ∷ (Num (pos 3)) ∷ (Num (pos 7)) ∷ []) } ∷ []) 2; missed = None; draw = None }
    ∷ record { actor = Apply; session = 5; asked = Call requests.Begin; side = None; answer = answers.Ok 0; missed = None; draw = None }
    ∷ record { actor = Apply; session = 5; asked = Call (requests.Do (statements.Replace (codes "_t_gho") None ((Text (codes "5")) ∷ Null ∷ (Num (pos 3)) ∷ (Num (pos 7)) ∷ []) None)); side = None; answer = answers.Refused 1048 (Some 1); missed = None; draw = None }
    ∷ record { actor = (Client 1); session = 3; asked = Call (requests.Do (statements.Insert (codes "t") (Some (codes "id" ∷ codes "v" ∷ [])) ((Num (pos 7)) ∷ Null ∷ []) None)); side = None; answer = answers.Ok 1; missed = None; draw = None }
    ∷ record { actor = Apply; session = 5; asked = Call requests.Rollback; side = None; answer = answers.Ok 0; missed = None; draw = None }
    ∷ []

abbrev reported_207 : WorkedFacts
reported_207 =
    record {
      verdict = verdicts.Reverted (causes.Unfit 14 ((Text (codes "5")) ∷ []) (codes "m0") 1048);
      ended = (Some (3, 1) ∷ Some (1, 1) ∷ Some (1, 2) ∷ Some (1, 3) ∷ Some (1, 4) ∷ Some (2, 1) ∷ Some (1, 5) ∷ []);
      left = (record { schema = record { name = codes "t"; columns = (record { name = codes "id"; kind = VarChar 3; nullable = false; default = None; auto = false } ∷ record { name = codes "m0"; kind = Int 4 false; nullable = true; default = (Some Null); auto = false } ∷ record { name = codes "v"; kind = Int 2 false; nullable = true; default = (Some (Num (pos 5))); auto = false } ∷ []); uniques = (record { name = None; places = (0 ∷ []) } ∷ record { name = (Some (codes "u0")); places = (1 ∷ []) } ∷ []); indexes = []; comment = []; start = None }; rows = (((Text (codes "5")) ∷ Null ∷ (Num (pos 3)) ∷ []) ∷ ((Text (codes "7")) ∷ Null ∷ Null ∷ []) ∷ ((Text (codes "a")) ∷ (Num (pos 3)) ∷ (Num (pos 7)) ∷ []) ∷ []) } ∷ []);
      alone = (((replies.Rows (((Num (pos 0)) ∷ []) ∷ [])) ∷ []) ∷ ((replies.Ok 0) ∷ []) ∷ ((replies.Ok 0) ∷ []) ∷ ((replies.Ok 0) ∷ []) ∷ ((replies.Ok 1) ∷ []) ∷ ((replies.Ok 1) ∷ []) ∷ ((replies.Ok 1) ∷ []) ∷ []);
      over = replicate 15 false ++ replicate 1 true;
      bound = 758044;
      replies = (((1, 1, (Some (replies.Ok 0))) ∷ (2, 1, (Some (replies.Ok 0))) ∷ (3, 1, (Some (replies.Ok 0))) ∷ (4, 1, (Some (replies.Ok 1))) ∷ (5, 1, (Some (replies.Ok 1))) ∷ [])) ∷ (((1, 1, (Some (replies.Ok 1))) ∷ [])) ∷ (((1, 1, (Some (replies.Rows (((Num (pos 0)) ∷ []) ∷ [])))) ∷ [])) ∷ [];
    }

worked_207 : IsWorked plan_207 journal_207 reported_207
unfolding computing
worked_207 = record { asks = refl; sessions = refl; answers = refl; sides = refl; struck = refl; verdict = refl; ended = refl; order = refl; left = refl; serial = refl; alone = refl; over = refl; online = refl; bounded = refl; replies = refl }

-- Plan 209
abbrev map_209 : List MapColumn
map_209 = (record { kind = VarChar 4; nullable = true; origin = from.Added (Text (codes "n")) } ∷ record { kind = Int 4 false; nullable = false; origin = from.Old 0 } ∷ record { kind = VarChar 3; nullable = true; origin = from.Old 1 } ∷ record { kind = Int 4 false; nullable = false; origin = from.Old 2 } ∷ record { kind = Int 1 false; nullable = true; origin = from.Old 3 } ∷ [])

abbrev plan_209 : PlanData
plan_209 = record { table = codes "t"; alter = (clauses.Add (record { name = codes "b"; kind = VarChar 4; nullable = None; default = (Some (Text (codes "n"))); auto = false }) First ∷ clauses.Change (codes "v") (record { name = codes "v"; kind = Int 1 false; nullable = None; default = None; auto = false }) Unsaid ∷ []); tables = (record { schema = record { name = codes "t"; columns = (record { name = codes "id"; kind = Int 4 false; nullable = false; default = None; auto = false } ∷ record { name = codes "m0"; kind = VarChar 3; nullable = true; default = (Some Null); auto = false } ∷ record { name = codes "m1"; kind = Int 4 false; nullable = false; default = None; auto = false } ∷ record { name = codes "v"; kind = Int 2 false; nullable = true; default = (Some Null); auto = false } ∷ []); uniques = (record { name = None; places = (0 ∷ []) } ∷ record { name = (Some (codes "u0")); places = (1 ∷ []) } ∷ record { name = (Some (codes "u1")); places = (0 ∷ 2 ∷ []) } ∷ []); indexes = []; comment = []; start = None }; rows = (((Num (pos 1)) ∷ (Text (codes "b")) ∷ (Num (pos 2)) ∷ Null ∷ []) ∷ ((Num (pos 3)) ∷ (Text (codes "c")) ∷ (Num (pos 6)) ∷ (Num (pos 1000)) ∷ []) ∷ ((Num (pos 4)) ∷ (Text (codes "f")) ∷ (Num (pos 2)) ∷ (Num (pos 7)) ∷ []) ∷ ((Num (pos 5)) ∷ Null ∷ (Num (pos 2)) ∷ (Num (pos 3)) ∷ []) ∷ []) } ∷ record { schema = record { name = codes "u"; columns = (record { name = codes "id"; kind = VarBinary 3; nullable = false; default = None; auto = false } ∷ record { name = codes "m0"; kind = Int 4 false; nullable = true; default = (Some Null); auto = false } ∷ record { name = codes "v"; kind = Int 2 false; nullable = true; default = (Some Null); auto = false } ∷ []); uniques = (record { name = None; places = (0 ∷ []) } ∷ record { name = (Some (codes "u0")); places = (1 ∷ []) } ∷ []); indexes = (record { name = (Some (codes "v")); places = (2 ∷ []) } ∷ []); comment = []; start = None }; rows = (((Blob (1 ∷ [])) ∷ (Num (pos 3)) ∷ (Num (pos 3)) ∷ []) ∷ ((Blob (2 ∷ [])) ∷ (Num (pos 7)) ∷ Null ∷ []) ∷ ((Blob (102 ∷ [])) ∷ (Num (pos 4)) ∷ (Num (pos 7)) ∷ []) ∷ []) } ∷ []); clients = ([] ∷ (record { line = 1; word = words.Begin } ∷ record { line = 2; word = words.Rollback } ∷ record { line = 3; word = (words.Do (statements.Replace (codes "t") None ((Num (pos 2)) ∷ Null ∷ (Num (pos 1)) ∷ (Num (pos 1)) ∷ []) None)) } ∷ record { line = 4; word = words.Begin } ∷ record { line = 5; word = (words.Do (statements.Update (codes "t") (record { column = codes "m0"; value = (Text (codes "g")) } ∷ record { column = codes "v"; value = (Text (codes "3")) } ∷ []) (conditions.Range (record { column = codes "id"; sign = signs.AtLeast; value = (Num (pos 4)) } ∷ record { column = codes "id"; sign = signs.AtMost; value = (Num (pos 1)) } ∷ [])))) } ∷ record { line = 6; word = (words.Do (statements.Update (codes "t") (record { column = codes "id"; value = (Text (codes "7")) } ∷ record { column = codes "m0"; value = Null } ∷ record { column = codes "m1"; value = (Num (pos 1)) } ∷ []) (conditions.Equal (record { column = codes "id"; value = (Num (pos 1)) } ∷ [])))) } ∷ record { line = 7; word = words.Commit } ∷ record { line = 8; word = (words.Do (statements.Insert (codes "t") None ((Num (pos 3)) ∷ (Text (codes "e")) ∷ (Num (pos 6)) ∷ (Num (pos 1)) ∷ []) None)) } ∷ []) ∷ (record { line = 1; word = (words.Do (statements.Select (codes "t") shown.All (conditions.Equal (record { column = codes "m1"; value = (Num (pos 6)) } ∷ record { column = codes "id"; value = (Num (pos 2)) } ∷ [])))) } ∷ []) ∷ []); operator = []; faults = (losses.Turn 51 Op ∷ losses.Turn 52 Ren ∷ losses.Nth Copy 5 sides_at.After ∷ losses.Nth (Client 3) 1 sides_at.After ∷ losses.Turn 6 Copy ∷ losses.Nth (Client 2) 4 sides_at.Before ∷ losses.Nth Apply 3 sides_at.Before ∷ losses.Turn 27 (Client 3) ∷ losses.Nth (Client 3) 6 sides_at.Before ∷ losses.Nth (Client 3) 3 sides_at.Before ∷ losses.Nth Apply 3 sides_at.After ∷ losses.Nth (Client 3) 2 sides_at.Before ∷ []); turns = (record { actor = Insp; times = 3 } ∷ record { actor = Insp; times = 1 } ∷ record { actor = Lock; times = 1 } ∷ record { actor = (Client 2); times = 2 } ∷ record { actor = Insp; times = 5 } ∷ record { actor = Insp; times = 2 } ∷ record { actor = Apply; times = 1 } ∷ record { actor = Lock; times = 1 } ∷ record { actor = Insp; times = 3 } ∷ record { actor = Apply; times = 5 } ∷ record { actor = Apply; times = 1 } ∷ record { actor = Op; times = 1 } ∷ record { actor = Lock; times = 5 } ∷ record { actor = Op; times = 3 } ∷ record { actor = Copy; times = 5 } ∷ record { actor = Lock; times = 3 } ∷ record { actor = (Client 1); times = 5 } ∷ record { actor = (Client 1); times = 5 } ∷ record { actor = Lock; times = 1 } ∷ record { actor = Insp; times = 3 } ∷ record { actor = (Client 3); times = 3 } ∷ record { actor = Ren; times = 2 } ∷ record { actor = (Client 2); times = 1 } ∷ record { actor = Copy; times = 1 } ∷ record { actor = (Client 1); times = 1 } ∷ record { actor = Ren; times = 5 } ∷ record { actor = Copy; times = 2 } ∷ record { actor = Lock; times = 1 } ∷ record { actor = Ren; times = 3 } ∷ record { actor = Lock; times = 1 } ∷ record { actor = Apply; times = 5 } ∷ record { actor = Insp; times = 3 } ∷ record { actor = Lock; times = 1 } ∷ record { actor = (Client 3); times = 5 } ∷ record { actor = Ren; times = 1 } ∷ record { actor = Insp; times = 3 } ∷ record { actor = Insp; times = 1 } ∷ record { actor = (Client 3); times = 5 } ∷ record { actor = Ren; times = 1 } ∷ record { actor = (Client 2); times = 1 } ∷ record { actor = Op; times = 1 } ∷ []); options = record { chunk_size = 2; dml_batch_size = 2; default_retries = 3; max_backlog = 100; drain_limit = 1; client_wait = 9; tool_wait = 5; max_load = 64; turn_limit = 200000; notes = 0; note_every = 100; replica_step = 0; replica_pause = 1; max_lag = 10; resume = false; approve_renamed_columns = true; initially_drop_ghost_table = false; initially_drop_old_table = false; ok_to_drop_table = false; postpone = false; show_history = true; show_turns = true; show_tables = true; show_replies = true } }

abbrev journal_209 : List Entry
journal_209 =
    record { actor = Insp; session = 1; asked = Call requests.ShowTables; side = None; answer = answers.Tables (record { name = codes "t"; comment = [] } ∷ record { name = codes "u"; comment = [] } ∷ []); missed = None; draw = None }
    ∷ record { actor = Insp; session = 1; asked = Call (requests.Create (record { name = codes "_t_ghc"; columns = (record { name = codes "id"; kind = Int 8 false; nullable = false; default = None; auto = false } ∷ record { name = codes "hint"; kind = VarChar 64; nullable = false; default = None; auto = false } ∷ record { name = codes "value"; kind = VarChar 255; nullable = false; default = None; auto = false } ∷ []); uniques = (record { name = None; places = (0 ∷ []) } ∷ []); indexes = []; comment = []; start = None })); side = None; answer = answers.Ok 0; missed = None; draw = None }
    ∷ record { actor = Insp; session = 1; asked = Call (requests.Create (record { name = codes "_t_gho"; columns = (record { name = codes "b"; kind = VarChar 4; nullable = true; default = (Some (Text (codes "n"))); auto = false } ∷ record { name = codes "id"; kind = Int 4 false; nullable = false; default = None; auto = false } ∷ record { name = codes "m0"; kind = VarChar 3; nullable = true; default = (Some Null); auto = false } ∷ record { name = codes "m1"; kind = Int 4 false; nullable = false; default = None; auto = false } ∷ record { name = codes "v"; kind = Int 1 false; nullable = true; default = (Some Null); auto = false } ∷ []); uniques = (record { name = None; places = (1 ∷ []) } ∷ record { name = (Some (codes "u0")); places = (2 ∷ []) } ∷ record { name = (Some (codes "u1")); places = (1 ∷ 3 ∷ []) } ∷ []); indexes = []; comment = []; start = None })); side = None; answer = answers.Ok 0; missed = None; draw = None }
    ∷ record { actor = Insp; session = 1; asked = Call requests.LogEnd; side = None; answer = answers.At 0; missed = None; draw = None }
    ∷ record { actor = (Client 2); session = 2; asked = Call requests.Begin; side = None; answer = answers.Ok 0; missed = None; draw = None }
    ∷ record { actor = (Client 2); session = 2; asked = Call requests.Rollback; side = None; answer = answers.Ok 0; missed = None; draw = None }
    ∷ record { actor = Insp; session = 1; asked = Call (requests.Ends (codes "t")); side = None; answer = answers.Ends (Some (record { least = ((Num (pos 1)) ∷ []); greatest = ((Num (pos 5)) ∷ []) })); missed = None; draw = None }
    ∷ record { actor = Copy; session = 3; asked = Call (requests.ChunkEnd (codes "t") (Closed ((Num (pos 1)) ∷ [])) ((Num (pos 5)) ∷ []) 2); side = None; answer = answers.End ((Num (pos 3)) ∷ []); missed = None; draw = None }
    ∷ record { actor = Copy; session = 3; asked = Call (requests.BeginSpan (codes "t") (record { low = (Closed ((Num (pos 1)) ∷ [])); high = (Closed ((Num (pos 3)) ∷ [])) }) 2); side = None; answer = answers.Keys (((Num (pos 1)) ∷ []) ∷ ((Num (pos 3)) ∷ []) ∷ []) ((Num (pos 3)) ∷ []); missed = None; draw = None }
    ∷ record { actor = Copy; session = 3; asked = Call (requests.CopyRow (codes "t") (codes "_t_gho") map_209 ((Num (pos 1)) ∷ [])); side = None; answer = answers.Ok 1; missed = None; draw = None }
    ∷ record { actor = Copy; session = 3; asked = Call (requests.CopyRow (codes "t") (codes "_t_gho") map_209 ((Num (pos 3)) ∷ [])); side = None; answer = answers.Refused 1264 (Some 4); missed = None; draw = None }
    ∷ record { actor = Copy; session = 3; asked = Call requests.Rollback; side = (Some sides_at.After); answer = answers.Lost; missed = (Some (answers.Ok 0)); draw = None }
    ∷ record { actor = (Client 3); session = 4; asked = Call (requests.Do (statements.Select (codes "t") shown.All (conditions.Equal (record { column = codes "m1"; value = (Num (pos 6)) } ∷ record { column = codes "id"; value = (Num (pos 2)) } ∷ [])))); side = (Some sides_at.After); answer = answers.Lost; missed = (Some (answers.Rows [])); draw = None }
    ∷ record { actor = (Client 2); session = 2; asked = Call (requests.Do (statements.Replace (codes "t") None ((Num (pos 2)) ∷ Null ∷ (Num (pos 1)) ∷ (Num (pos 1)) ∷ []) None)); side = None; answer = answers.Ok 1; missed = None; draw = None }
    ∷ record { actor = (Client 2); session = 2; asked = Call requests.Begin; side = (Some sides_at.Before); answer = answers.Lost; missed = None; draw = None }
    ∷ []

abbrev reported_209 : WorkedFacts
reported_209 =
    record {
      verdict = verdicts.Reverted (causes.Unfit 11 ((Num (pos 3)) ∷ []) (codes "v") 1264);
      ended = (Some (2, 1) ∷ Some (3, 1) ∷ Some (2, 2) ∷ Some (2, 3) ∷ []);
      left = (record { schema = record { name = codes "t"; columns = (record { name = codes "id"; kind = Int 4 false; nullable = false; default = None; auto = false } ∷ record { name = codes "m0"; kind = VarChar 3; nullable = true; default = (Some Null); auto = false } ∷ record { name = codes "m1"; kind = Int 4 false; nullable = false; default = None; auto = false } ∷ record { name = codes "v"; kind = Int 2 false; nullable = true; default = (Some Null); auto = false } ∷ []); uniques = (record { name = None; places = (0 ∷ []) } ∷ record { name = (Some (codes "u0")); places = (1 ∷ []) } ∷ record { name = (Some (codes "u1")); places = (0 ∷ 2 ∷ []) } ∷ []); indexes = []; comment = []; start = None }; rows = (((Num (pos 1)) ∷ (Text (codes "b")) ∷ (Num (pos 2)) ∷ Null ∷ []) ∷ ((Num (pos 2)) ∷ Null ∷ (Num (pos 1)) ∷ (Num (pos 1)) ∷ []) ∷ ((Num (pos 3)) ∷ (Text (codes "c")) ∷ (Num (pos 6)) ∷ (Num (pos 1000)) ∷ []) ∷ ((Num (pos 4)) ∷ (Text (codes "f")) ∷ (Num (pos 2)) ∷ (Num (pos 7)) ∷ []) ∷ ((Num (pos 5)) ∷ Null ∷ (Num (pos 2)) ∷ (Num (pos 3)) ∷ []) ∷ []) } ∷ record { schema = record { name = codes "u"; columns = (record { name = codes "id"; kind = VarBinary 3; nullable = false; default = None; auto = false } ∷ record { name = codes "m0"; kind = Int 4 false; nullable = true; default = (Some Null); auto = false } ∷ record { name = codes "v"; kind = Int 2 false; nullable = true; default = (Some Null); auto = false } ∷ []); uniques = (record { name = None; places = (0 ∷ []) } ∷ record { name = (Some (codes "u0")); places = (1 ∷ []) } ∷ []); indexes = (record { name = (Some (codes "v")); places = (2 ∷ []) } ∷ []); comment = []; start = None }; rows = (((Blob (1 ∷ [])) ∷ (Num (pos 3)) ∷ (Num (pos 3)) ∷ []) ∷ ((Blob (2 ∷ [])) ∷ (Num (pos 7)) ∷ Null ∷ []) ∷ ((Blob (102 ∷ [])) ∷ (Num (pos 4)) ∷ (Num (pos 7)) ∷ []) ∷ []) } ∷ []);
      alone = (((replies.Ok 0) ∷ (replies.Ok 0) ∷ []) ∷ [] ∷ ((replies.Ok 1) ∷ []) ∷ [] ∷ []);
      over = replicate 11 false ++ replicate 4 true;
      bound = 76222;
      replies = ([]) ∷ (((1, 1, (Some (replies.Ok 0))) ∷ (1, 2, (Some (replies.Ok 0))) ∷ (2, 1, (Some (replies.Ok 1))) ∷ (3, 1, None) ∷ [])) ∷ (((1, 1, None) ∷ [])) ∷ [];
    }

worked_209 : IsWorked plan_209 journal_209 reported_209
unfolding computing
worked_209 = record { asks = refl; sessions = refl; answers = refl; sides = refl; struck = refl; verdict = refl; ended = refl; order = refl; left = refl; serial = refl; alone = refl; over = refl; online = refl; bounded = refl; replies = refl }

-- Plan 222
abbrev map_222 : List MapColumn
map_222 = (record { kind = Int 8 false; nullable = false; origin = from.Old 0 } ∷ record { kind = Int 4 false; nullable = true; origin = from.Old 1 } ∷ record { kind = Int 4 false; nullable = true; origin = from.Old 2 } ∷ [])

abbrev plan_222 : PlanData
plan_222 = record { table = codes "t"; alter = (clauses.Change (codes "id") (record { name = codes "id"; kind = Int 8 false; nullable = None; default = None; auto = false }) Unsaid ∷ []); tables = (record { schema = record { name = codes "t"; columns = (record { name = codes "id"; kind = Int 1 false; nullable = false; default = None; auto = false } ∷ record { name = codes "m0"; kind = Int 4 false; nullable = true; default = (Some Null); auto = false } ∷ record { name = codes "v"; kind = Int 4 false; nullable = true; default = (Some Null); auto = false } ∷ []); uniques = (record { name = None; places = (0 ∷ []) } ∷ record { name = (Some (codes "u0")); places = (1 ∷ []) } ∷ []); indexes = []; comment = []; start = None }; rows = (((Num (pos 4)) ∷ (Num (pos 7)) ∷ (Num (pos 4)) ∷ []) ∷ ((Num (pos 7)) ∷ (Num (pos 1)) ∷ (Num (pos 6)) ∷ []) ∷ []) } ∷ record { schema = record { name = codes "_t_del"; columns = (record { name = codes "id"; kind = Int 4 false; nullable = false; default = None; auto = false } ∷ []); uniques = (record { name = None; places = (0 ∷ []) } ∷ []); indexes = []; comment = codes "ghost-cut-over-sentry"; start = None }; rows = [] } ∷ []); clients = ((record { line = 1; word = (words.Do (statements.Insert (codes "t") None ((Num (pos 3)) ∷ (Num (pos 5)) ∷ Null ∷ []) None)) } ∷ []) ∷ [] ∷ []); operator = []; faults = []; turns = (record { actor = (Client 1); times = 1 } ∷ record { actor = Apply; times = 3 } ∷ record { actor = Apply; times = 2 } ∷ record { actor = Lock; times = 5 } ∷ record { actor = (Client 1); times = 1 } ∷ record { actor = Op; times = 5 } ∷ record { actor = (Client 1); times = 2 } ∷ record { actor = Op; times = 3 } ∷ record { actor = (Client 2); times = 1 } ∷ record { actor = Insp; times = 3 } ∷ record { actor = (Client 1); times = 2 } ∷ record { actor = Insp; times = 3 } ∷ record { actor = Lock; times = 3 } ∷ record { actor = Insp; times = 3 } ∷ record { actor = Copy; times = 5 } ∷ record { actor = (Client 2); times = 3 } ∷ record { actor = Insp; times = 5 } ∷ record { actor = Apply; times = 5 } ∷ record { actor = Insp; times = 3 } ∷ record { actor = Lock; times = 3 } ∷ record { actor = Insp; times = 3 } ∷ record { actor = Ren; times = 1 } ∷ record { actor = (Client 1); times = 5 } ∷ record { actor = Lock; times = 5 } ∷ record { actor = Copy; times = 5 } ∷ record { actor = Copy; times = 3 } ∷ record { actor = Insp; times = 1 } ∷ record { actor = Insp; times = 2 } ∷ record { actor = Apply; times = 1 } ∷ record { actor = Op; times = 2 } ∷ record { actor = (Client 2); times = 1 } ∷ []); options = record { chunk_size = 2; dml_batch_size = 10; default_retries = 2; max_backlog = 100; drain_limit = 3; client_wait = 5; tool_wait = 1; max_load = 2; turn_limit = 200000; notes = 0; note_every = 100; replica_step = 0; replica_pause = 1; max_lag = 10; resume = false; approve_renamed_columns = true; initially_drop_ghost_table = false; initially_drop_old_table = false; ok_to_drop_table = false; postpone = false; show_history = true; show_turns = true; show_tables = true; show_replies = true } }

abbrev journal_222 : List Entry
journal_222 =
    record { actor = (Client 1); session = 1; asked = Call (requests.Do (statements.Insert (codes "t") None ((Num (pos 3)) ∷ (Num (pos 5)) ∷ Null ∷ []) None)); side = None; answer = answers.Ok 1; missed = None; draw = None }
    ∷ record { actor = Insp; session = 2; asked = Call requests.ShowTables; side = None; answer = answers.Tables (record { name = codes "_t_del"; comment = codes "ghost-cut-over-sentry" } ∷ record { name = codes "t"; comment = [] } ∷ []); missed = None; draw = None }
    ∷ record { actor = Insp; session = 2; asked = Call (requests.Drop (codes "_t_del")); side = None; answer = answers.Ok 0; missed = None; draw = None }
    ∷ record { actor = Insp; session = 2; asked = Call (requests.Create (record { name = codes "_t_ghc"; columns = (record { name = codes "id"; kind = Int 8 false; nullable = false; default = None; auto = false } ∷ record { name = codes "hint"; kind = VarChar 64; nullable = false; default = None; auto = false } ∷ record { name = codes "value"; kind = VarChar 255; nullable = false; default = None; auto = false } ∷ []); uniques = (record { name = None; places = (0 ∷ []) } ∷ []); indexes = []; comment = []; start = None })); side = None; answer = answers.Ok 0; missed = None; draw = None }
    ∷ record { actor = Insp; session = 2; asked = Call (requests.Create (record { name = codes "_t_gho"; columns = (record { name = codes "id"; kind = Int 8 false; nullable = false; default = None; auto = false } ∷ record { name = codes "m0"; kind = Int 4 false; nullable = true; default = (Some Null); auto = false } ∷ record { name = codes "v"; kind = Int 4 false; nullable = true; default = (Some Null); auto = false } ∷ []); uniques = (record { name = None; places = (0 ∷ []) } ∷ record { name = (Some (codes "u0")); places = (1 ∷ []) } ∷ []); indexes = []; comment = []; start = None })); side = None; answer = answers.Ok 0; missed = None; draw = None }
    ∷ record { actor = Insp; session = 2; asked = Call requests.LogEnd; side = None; answer = answers.At 1; missed = None; draw = None }
    ∷ record { actor = Insp; session = 2; asked = Call (requests.Ends (codes "t")); side = None; answer = answers.Ends (Some (record { least = ((Num (pos 3)) ∷ []); greatest = ((Num (pos 7)) ∷ []) })); missed = None; draw = None }
    ∷ record { actor = Copy; session = 3; asked = Call (requests.ChunkEnd (codes "t") (Closed ((Num (pos 3)) ∷ [])) ((Num (pos 7)) ∷ []) 2); side = None; answer = answers.End ((Num (pos 4)) ∷ []); missed = None; draw = None }
    ∷ record { actor = Copy; session = 3; asked = Call (requests.BeginSpan (codes "t") (record { low = (Closed ((Num (pos 3)) ∷ [])); high = (Closed ((Num (pos 4)) ∷ [])) }) 2); side = None; answer = answers.Keys (((Num (pos 3)) ∷ []) ∷ ((Num (pos 4)) ∷ []) ∷ []) ((Num (pos 4)) ∷ []); missed = None; draw = None }
    ∷ record { actor = Copy; session = 3; asked = Call (requests.CopyRow (codes "t") (codes "_t_gho") map_222 ((Num (pos 3)) ∷ [])); side = None; answer = answers.Ok 1; missed = None; draw = None }
    ∷ record { actor = Copy; session = 3; asked = Call (requests.CopyRow (codes "t") (codes "_t_gho") map_222 ((Num (pos 4)) ∷ [])); side = None; answer = answers.Ok 1; missed = None; draw = None }
    ∷ record { actor = Copy; session = 3; asked = Call requests.Commit; side = None; answer = answers.Ok 0; missed = None; draw = None }
    ∷ record { actor = Copy; session = 3; asked = Call (requests.ChunkEnd (codes "t") (Open ((Num (pos 4)) ∷ [])) ((Num (pos 7)) ∷ []) 2); side = None; answer = answers.End ((Num (pos 7)) ∷ []); missed = None; draw = None }
    ∷ record { actor = Copy; session = 3; asked = Call (requests.BeginSpan (codes "t") (record { low = (Open ((Num (pos 4)) ∷ [])); high = (Closed ((Num (pos 7)) ∷ [])) }) 2); side = None; answer = answers.Keys (((Num (pos 7)) ∷ []) ∷ []) ((Num (pos 7)) ∷ []); missed = None; draw = None }
    ∷ record { actor = Copy; session = 3; asked = Call (requests.CopyRow (codes "t") (codes "_t_gho") map_222 ((Num (pos 7)) ∷ [])); side = None; answer = answers.Ok 1; missed = None; draw = None }
    ∷ record { actor = Copy; session = 3; asked = Call requests.Commit; side = None; answer = answers.Ok 0; missed = None; draw = None }
    ∷ record { actor = Lock; session = 4; asked = Call (requests.Create (record { name = codes "_t_del"; columns = (record { name = codes "id"; kind = Int 4 false; nullable = false; default = None; auto = false } ∷ []); uniques = (record { name = None; places = (0 ∷ []) } ∷ []); indexes = []; comment = codes "ghost-cut-over-sentry"; start = None })); side = None; answer = answers.Ok 0; missed = None; draw = None }
    ∷ record { actor = Lock; session = 4; asked = Call (requests.LockTables (codes "t" ∷ codes "_t_del" ∷ [])); side = None; answer = answers.Ok 0; missed = None; draw = None }
    ∷ record { actor = Insp; session = 2; asked = Call (requests.Do (statements.Insert (codes "_t_ghc") None ((Num (pos 1)) ∷ (Text (codes "cut-over")) ∷ (Text (codes "1")) ∷ []) None)); side = None; answer = answers.Ok 1; missed = None; draw = None }
    ∷ record { actor = Apply; session = 5; asked = Call (requests.ReadLog 1 10 (codes "t" ∷ codes "_t_ghc" ∷ [])); side = None; answer = answers.Events (record { table = codes "_t_ghc"; change = changes.Write ((Num (pos 1)) ∷ (Text (codes "cut-over")) ∷ (Text (codes "1")) ∷ []) } ∷ []) 5; missed = None; draw = None }
    ∷ record { actor = Ren; session = 6; asked = Call (requests.Rename (record { old = codes "t"; new = codes "_t_del" } ∷ record { old = codes "_t_gho"; new = codes "t" } ∷ [])); side = None; answer = answers.Waits 4; missed = None; draw = None }
    ∷ record { actor = Insp; session = 2; asked = Call requests.ShowWaiting; side = None; answer = answers.Waiting (record { session = 6; names = (codes "t" ∷ codes "_t_del" ∷ codes "_t_gho" ∷ []); by = 4 } ∷ []); missed = None; draw = None }
    ∷ record { actor = Lock; session = 4; asked = Call (requests.Drop (codes "_t_del")); side = None; answer = answers.Ok 0; missed = None; draw = None }
    ∷ record { actor = Ren; session = 6; asked = Poll; side = None; answer = answers.TimedOut 1; missed = None; draw = None }
    ∷ record { actor = Lock; session = 4; asked = Call requests.Unlock; side = None; answer = answers.Ok 0; missed = None; draw = None }
    ∷ record { actor = Insp; session = 2; asked = Call requests.ShowTables; side = None; answer = answers.Tables (record { name = codes "_t_ghc"; comment = [] } ∷ record { name = codes "_t_gho"; comment = [] } ∷ record { name = codes "t"; comment = [] } ∷ []); missed = None; draw = None }
    ∷ record { actor = Lock; session = 4; asked = Call (requests.Create (record { name = codes "_t_del"; columns = (record { name = codes "id"; kind = Int 4 false; nullable = false; default = None; auto = false } ∷ []); uniques = (record { name = None; places = (0 ∷ []) } ∷ []); indexes = []; comment = codes "ghost-cut-over-sentry"; start = None })); side = None; answer = answers.Ok 0; missed = None; draw = None }
    ∷ record { actor = Lock; session = 4; asked = Call (requests.LockTables (codes "t" ∷ codes "_t_del" ∷ [])); side = None; answer = answers.Ok 0; missed = None; draw = None }
    ∷ record { actor = Insp; session = 2; asked = Call (requests.Do (statements.Insert (codes "_t_ghc") None ((Num (pos 2)) ∷ (Text (codes "cut-over")) ∷ (Text (codes "2")) ∷ []) None)); side = None; answer = answers.Ok 1; missed = None; draw = None }
    ∷ record { actor = Apply; session = 5; asked = Call (requests.ReadLog 5 10 (codes "t" ∷ codes "_t_ghc" ∷ [])); side = None; answer = answers.Events (record { table = codes "_t_ghc"; change = changes.Write ((Num (pos 2)) ∷ (Text (codes "cut-over")) ∷ (Text (codes "2")) ∷ []) } ∷ []) 6; missed = None; draw = None }
    ∷ record { actor = Ren; session = 6; asked = Call (requests.Rename (record { old = codes "t"; new = codes "_t_del" } ∷ record { old = codes "_t_gho"; new = codes "t" } ∷ [])); side = None; answer = answers.Waits 4; missed = None; draw = None }
    ∷ record { actor = Insp; session = 2; asked = Call requests.ShowWaiting; side = None; answer = answers.Waiting (record { session = 6; names = (codes "t" ∷ codes "_t_del" ∷ codes "_t_gho" ∷ []); by = 4 } ∷ []); missed = None; draw = None }
    ∷ record { actor = Lock; session = 4; asked = Call (requests.Drop (codes "_t_del")); side = None; answer = answers.Ok 0; missed = None; draw = None }
    ∷ record { actor = Ren; session = 6; asked = Poll; side = None; answer = answers.TimedOut 1; missed = None; draw = None }
    ∷ record { actor = Lock; session = 4; asked = Call requests.Unlock; side = None; answer = answers.Ok 0; missed = None; draw = None }
    ∷ record { actor = Insp; session = 2; asked = Call requests.ShowTables; side = None; answer = answers.Tables (record { name = codes "_t_ghc"; comment = [] } ∷ record { name = codes "_t_gho"; comment = [] } ∷ record { name = codes "t"; comment = [] } ∷ []); missed = None; draw = None }
    ∷ []

abbrev reported_222 : WorkedFacts
reported_222 =
    record {
      verdict = verdicts.Reverted (causes.Spent tasks.CutOver (24 ∷ 34 ∷ []));
      ended = (Some (1, 1) ∷ []);
      left = (record { schema = record { name = codes "t"; columns = (record { name = codes "id"; kind = Int 1 false; nullable = false; default = None; auto = false } ∷ record { name = codes "m0"; kind = Int 4 false; nullable = true; default = (Some Null); auto = false } ∷ record { name = codes "v"; kind = Int 4 false; nullable = true; default = (Some Null); auto = false } ∷ []); uniques = (record { name = None; places = (0 ∷ []) } ∷ record { name = (Some (codes "u0")); places = (1 ∷ []) } ∷ []); indexes = []; comment = []; start = None }; rows = (((Num (pos 3)) ∷ (Num (pos 5)) ∷ Null ∷ []) ∷ ((Num (pos 4)) ∷ (Num (pos 7)) ∷ (Num (pos 4)) ∷ []) ∷ ((Num (pos 7)) ∷ (Num (pos 1)) ∷ (Num (pos 6)) ∷ []) ∷ []) } ∷ []);
      alone = (((replies.Ok 1) ∷ []) ∷ []);
      over = replicate 35 false ++ replicate 1 true;
      bound = 2107;
      replies = (((1, 1, (Some (replies.Ok 1))) ∷ [])) ∷ ([]) ∷ [];
    }

worked_222 : IsWorked plan_222 journal_222 reported_222
unfolding computing
worked_222 = record { asks = refl; sessions = refl; answers = refl; sides = refl; struck = refl; verdict = refl; ended = refl; order = refl; left = refl; serial = refl; alone = refl; over = refl; online = refl; bounded = refl; replies = refl }
