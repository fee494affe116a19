-- Small worked plans, turn by turn, each with the one thing that it shows: the copy, the cut-over and the ways to end.
use Rattle.std.proofs.Common.{pos, true, false, List, [], ◌∷◌, ◌++◌, Some, None, refl}
use Rattle.std.specs.Prelude.{codes, replicate}
use Rattle.base_values.specs.declared.value.Value.TheVariants.{Null, Num, Text}
use Rattle.base_values.specs.declared.kind.Kind.TheVariants.{Int, VarChar}
use Rattle.base_values.specs.declared.span.Bound.TheVariants.{Closed, Open}
use Rattle.base_values.specs.declared.row_conversion.clause.Clause.TheVariants as clauses
use Rattle.base_values.specs.declared.row_conversion.clause.ColumnPosition.TheVariants.{Unsaid}
use Rattle.base_values.specs.declared.row_conversion.map.MapColumn.{MapColumn}
use Rattle.base_values.specs.declared.row_conversion.map.Origin.TheVariants as from
use Rattle.base_values.specs.declared.event.Change.TheVariants as changes
use Rattle.base_script.specs.declared.actor.Actor.TheVariants.{Op, Insp, Copy, Apply, Lock, Ren, Client}
use Rattle.base_script.specs.declared.actor.Side.TheVariants as sides_at
use Rattle.base_script.specs.declared.loss.Loss.TheVariants as losses
use Rattle.base_script.specs.declared.operator.OperatorWord.TheVariants as commanded
use Rattle.base_script.specs.declared.script.ScriptWord.TheVariants as words
use Rattle.base_script.specs.declared.statement.Statement.TheVariants as statements
use Rattle.base_script.specs.declared.statement.Condition.TheVariants as conditions
use Rattle.base_script.specs.declared.statement.Shown.TheVariants as shown
use Rattle.server_model.specs.declared.transaction.Reply.TheVariants as replies
use Rattle.server_model.specs.declared.request.Request.TheVariants as requests
use Rattle.server_model.specs.declared.answer.Answer.TheVariants as answers
use Rattle.server_model.specs.declared.entry.Entry.{Entry}
use Rattle.server_model.specs.declared.entry.Asked.TheVariants.{Call, Poll, Command}
use Rattle.server_model.specs.declared.outcome.Cause.TheVariants as causes
use Rattle.server_model.specs.declared.outcome.Verdict.TheVariants as verdicts
use Rattle.plan_data.specs.PlanData.{PlanData}
use Rattle.test_worked.proofs.Computing.{computing, WorkedFacts, IsWorked}

-- A table without rows: no chunk is copied, and the cut-over follows the setup.
abbrev map_empty : List MapColumn
map_empty = (record { kind = Int 4 false; nullable = false; origin = from.Old 0 } ∷ record { kind = Int 4 false; nullable = false; origin = from.Added (Num (pos 7)) } ∷ [])

abbrev pub plan_empty : PlanData
plan_empty = record { table = codes "t"; alter = (clauses.Add (record { name = codes "b"; kind = Int 4 false; nullable = (Some false); default = (Some (Num (pos 7))); auto = false }) Unsaid ∷ []); tables = (record { schema = record { name = codes "t"; columns = (record { name = codes "id"; kind = Int 4 false; nullable = false; default = None; auto = false } ∷ []); uniques = (record { name = None; places = (0 ∷ []) } ∷ []); indexes = []; comment = []; start = None }; rows = [] } ∷ []); clients = []; operator = []; faults = []; turns = []; options = record { chunk_size = 1000; dml_batch_size = 10; default_retries = 60; max_backlog = 100; drain_limit = 2000; client_wait = 20000; tool_wait = 2000; max_load = 64; turn_limit = 200000; notes = 0; note_every = 100; replica_step = 0; replica_pause = 1; max_lag = 10; resume = false; approve_renamed_columns = false; initially_drop_ghost_table = false; initially_drop_old_table = false; ok_to_drop_table = false; postpone = false; show_history = true; show_turns = true; show_tables = true; show_replies = true } }

abbrev pub journal_empty : List Entry
journal_empty =
    record { actor = Insp; session = 1; asked = Call requests.ShowTables; side = None; answer = answers.Tables (record { name = codes "t"; comment = [] } ∷ []); missed = None; draw = None }
    ∷ record { actor = Insp; session = 1; asked = Call (requests.Create (record { name = codes "_t_ghc"; columns = (record { name = codes "id"; kind = Int 8 false; nullable = false; default = None; auto = false } ∷ record { name = codes "hint"; kind = VarChar 64; nullable = false; default = None; auto = false } ∷ record { name = codes "value"; kind = VarChar 255; nullable = false; default = None; auto = false } ∷ []); uniques = (record { name = None; places = (0 ∷ []) } ∷ []); indexes = []; comment = []; start = None })); side = None; answer = answers.Ok 0; missed = None; draw = None }
    ∷ record { actor = Insp; session = 1; asked = Call (requests.Create (record { name = codes "_t_gho"; columns = (record { name = codes "id"; kind = Int 4 false; nullable = false; default = None; auto = false } ∷ record { name = codes "b"; kind = Int 4 false; nullable = false; default = (Some (Num (pos 7))); auto = false } ∷ []); uniques = (record { name = None; places = (0 ∷ []) } ∷ []); indexes = []; comment = []; start = None })); side = None; answer = answers.Ok 0; missed = None; draw = None }
    ∷ record { actor = Insp; session = 1; asked = Call requests.LogEnd; side = None; answer = answers.At 0; missed = None; draw = None }
    ∷ record { actor = Insp; session = 1; asked = Call (requests.Ends (codes "t")); side = None; answer = answers.Ends None; missed = None; draw = None }
    ∷ record { actor = Lock; session = 2; asked = Call (requests.Create (record { name = codes "_t_del"; columns = (record { name = codes "id"; kind = Int 4 false; nullable = false; default = None; auto = false } ∷ []); uniques = (record { name = None; places = (0 ∷ []) } ∷ []); indexes = []; comment = codes "ghost-cut-over-sentry"; start = None })); side = None; answer = answers.Ok 0; missed = None; draw = None }
    ∷ record { actor = Lock; session = 2; asked = Call (requests.LockTables (codes "t" ∷ codes "_t_del" ∷ [])); side = None; answer = answers.Ok 0; missed = None; draw = None }
    ∷ record { actor = Insp; session = 1; asked = Call (requests.Do (statements.Insert (codes "_t_ghc") None ((Num (pos 1)) ∷ (Text (codes "cut-over")) ∷ (Text (codes "1")) ∷ []) None)); side = None; answer = answers.Ok 1; missed = None; draw = None }
    ∷ record { actor = Apply; session = 3; asked = Call (requests.ReadLog 0 10 (codes "t" ∷ codes "_t_ghc" ∷ [])); side = None; answer = answers.Events (record { table = codes "_t_ghc"; change = changes.Write ((Num (pos 1)) ∷ (Text (codes "cut-over")) ∷ (Text (codes "1")) ∷ []) } ∷ []) 1; missed = None; draw = None }
    ∷ record { actor = Ren; session = 4; asked = Call (requests.Rename (record { old = codes "t"; new = codes "_t_del" } ∷ record { old = codes "_t_gho"; new = codes "t" } ∷ [])); side = None; answer = answers.Waits 2; missed = None; draw = None }
    ∷ record { actor = Insp; session = 1; asked = Call requests.ShowWaiting; side = None; answer = answers.Waiting (record { session = 4; names = (codes "t" ∷ codes "_t_del" ∷ codes "_t_gho" ∷ []); by = 2 } ∷ []); missed = None; draw = None }
    ∷ record { actor = Lock; session = 2; asked = Call (requests.Drop (codes "_t_del")); side = None; answer = answers.Ok 0; missed = None; draw = None }
    ∷ record { actor = Ren; session = 4; asked = Poll; side = None; answer = answers.Waits 2; missed = None; draw = None }
    ∷ record { actor = Lock; session = 2; asked = Call requests.Unlock; side = None; answer = answers.Ok 0; missed = None; draw = None }
    ∷ record { actor = Ren; session = 4; asked = Poll; side = None; answer = answers.Ok 0; missed = None; draw = None }
    ∷ record { actor = Insp; session = 1; asked = Call requests.ShowTables; side = None; answer = answers.Tables (record { name = codes "_t_del"; comment = [] } ∷ record { name = codes "_t_ghc"; comment = [] } ∷ record { name = codes "t"; comment = [] } ∷ []); missed = None; draw = None }
    ∷ record { actor = Insp; session = 1; asked = Call (requests.Drop (codes "_t_ghc")); side = None; answer = answers.Ok 0; missed = None; draw = None }
    ∷ []

abbrev reported_empty : WorkedFacts
reported_empty =
    record {
      verdict = verdicts.Done;
      ended = (None ∷ []);
      left = (record { schema = record { name = codes "t"; columns = (record { name = codes "id"; kind = Int 4 false; nullable = false; default = None; auto = false } ∷ record { name = codes "b"; kind = Int 4 false; nullable = false; default = (Some (Num (pos 7))); auto = false } ∷ []); uniques = (record { name = None; places = (0 ∷ []) } ∷ []); indexes = []; comment = []; start = None }; rows = [] } ∷ []);
      alone = ([] ∷ []);
      over = replicate 16 false ++ replicate 1 true;
      bound = 216479593;
      replies = [];
    }

worked_empty : IsWorked plan_empty journal_empty reported_empty
unfolding computing
worked_empty = record { asks = refl; sessions = refl; answers = refl; sides = refl; struck = refl; verdict = refl; ended = refl; order = refl; left = refl; serial = refl; alone = refl; over = refl; online = refl; bounded = refl; replies = refl }

-- A text that is longer than its new column: the row isn't copied, the chunk is rolled back, and all is reverted.
abbrev map_cut_text : List MapColumn
map_cut_text = (record { kind = Int 4 false; nullable = false; origin = from.Old 0 } ∷ record { kind = VarChar 3; nullable = true; origin = from.Old 1 } ∷ [])

abbrev pub plan_cut_text : PlanData
plan_cut_text = record { table = codes "t"; alter = (clauses.Change (codes "c") (record { name = codes "c"; kind = VarChar 3; nullable = None; default = None; auto = false }) Unsaid ∷ []); tables = (record { schema = record { name = codes "t"; columns = (record { name = codes "id"; kind = Int 4 false; nullable = false; default = None; auto = false } ∷ record { name = codes "c"; kind = VarChar 20; nullable = true; default = (Some Null); auto = false } ∷ []); uniques = (record { name = None; places = (0 ∷ []) } ∷ []); indexes = []; comment = []; start = None }; rows = (((Num (pos 1)) ∷ (Text (codes "abcd")) ∷ []) ∷ []) } ∷ []); clients = []; operator = []; faults = []; turns = []; options = record { chunk_size = 1000; dml_batch_size = 10; default_retries = 60; max_backlog = 100; drain_limit = 2000; client_wait = 20000; tool_wait = 2000; max_load = 64; turn_limit = 200000; notes = 0; note_every = 100; replica_step = 0; replica_pause = 1; max_lag = 10; resume = false; approve_renamed_columns = false; initially_drop_ghost_table = false; initially_drop_old_table = false; ok_to_drop_table = false; postpone = false; show_history = false; show_turns = false; show_tables = true; show_replies = true } }

abbrev pub journal_cut_text : List Entry
journal_cut_text =
    record { actor = Insp; session = 1; asked = Call requests.ShowTables; side = None; answer = answers.Tables (record { name = codes "t"; comment = [] } ∷ []); missed = None; draw = None }
    ∷ record { actor = Insp; session = 1; asked = Call (requests.Create (record { name = codes "_t_ghc"; columns = (record { name = codes "id"; kind = Int 8 false; nullable = false; default = None; auto = false } ∷ record { name = codes "hint"; kind = VarChar 64; nullable = false; default = None; auto = false } ∷ record { name = codes "value"; kind = VarChar 255; nullable = false; default = None; auto = false } ∷ []); uniques = (record { name = None; places = (0 ∷ []) } ∷ []); indexes = []; comment = []; start = None })); side = None; answer = answers.Ok 0; missed = None; draw = None }
    ∷ record { actor = Insp; session = 1; asked = Call (requests.Create (record { name = codes "_t_gho"; columns = (record { name = codes "id"; kind = Int 4 false; nullable = false; default = None; auto = false } ∷ record { name = codes "c"; kind = VarChar 3; nullable = true; default = (Some Null); auto = false } ∷ []); uniques = (record { name = None; places = (0 ∷ []) } ∷ []); indexes = []; comment = []; start = None })); side = None; answer = answers.Ok 0; missed = None; draw = None }
    ∷ record { actor = Insp; session = 1; asked = Call requests.LogEnd; side = None; answer = answers.At 0; missed = None; draw = None }
    ∷ record { actor = Insp; session = 1; asked = Call (requests.Ends (codes "t")); side = None; answer = answers.Ends (Some (record { least = ((Num (pos 1)) ∷ []); greatest = ((Num (pos 1)) ∷ []) })); missed = None; draw = None }
    ∷ record { actor = Copy; session = 2; asked = Call (requests.ChunkEnd (codes "t") (Closed ((Num (pos 1)) ∷ [])) ((Num (pos 1)) ∷ []) 1000); side = None; answer = answers.End ((Num (pos 1)) ∷ []); missed = None; draw = None }
    ∷ record { actor = Copy; session = 2; asked = Call (requests.BeginSpan (codes "t") (record { low = (Closed ((Num (pos 1)) ∷ [])); high = (Closed ((Num (pos 1)) ∷ [])) }) 1000); side = None; answer = answers.Keys (((Num (pos 1)) ∷ []) ∷ []) ((Num (pos 1)) ∷ []); missed = None; draw = None }
    ∷ record { actor = Copy; session = 2; asked = Call (requests.CopyRow (codes "t") (codes "_t_gho") map_cut_text ((Num (pos 1)) ∷ [])); side = None; answer = answers.Refused 1406 (Some 1); missed = None; draw = None }
    ∷ record { actor = Copy; session = 2; asked = Call requests.Rollback; side = None; answer = answers.Ok 0; missed = None; draw = None }
    ∷ []

abbrev reported_cut_text : WorkedFacts
reported_cut_text =
    record {
      verdict = verdicts.Reverted (causes.Unfit 8 ((Num (pos 1)) ∷ []) (codes "c") 1406);
      ended = [];
      left = (record { schema = record { name = codes "t"; columns = (record { name = codes "id"; kind = Int 4 false; nullable = false; default = None; auto = false } ∷ record { name = codes "c"; kind = VarChar 20; nullable = true; default = (Some Null); auto = false } ∷ []); uniques = (record { name = None; places = (0 ∷ []) } ∷ []); indexes = []; comment = []; start = None }; rows = (((Num (pos 1)) ∷ (Text (codes "abcd")) ∷ []) ∷ []) } ∷ []);
      alone = [];
      over = replicate 8 false ++ replicate 1 true;
      bound = 216839893;
      replies = [];
    }

worked_cut_text : IsWorked plan_cut_text journal_cut_text reported_cut_text
unfolding computing
worked_cut_text = record { asks = refl; sessions = refl; answers = refl; sides = refl; struck = refl; verdict = refl; ended = refl; order = refl; left = refl; serial = refl; alone = refl; over = refl; online = refl; bounded = refl; replies = refl }

-- Five rows in chunks of two: the last chunk has the one that is left.
abbrev map_odd_chunks : List MapColumn
map_odd_chunks = (record { kind = Int 4 false; nullable = false; origin = from.Old 0 } ∷ record { kind = Int 4 false; nullable = false; origin = from.Added (Num (pos 7)) } ∷ [])

abbrev pub plan_odd_chunks : PlanData
plan_odd_chunks = record { table = codes "t"; alter = (clauses.Add (record { name = codes "b"; kind = Int 4 false; nullable = (Some false); default = (Some (Num (pos 7))); auto = false }) Unsaid ∷ []); tables = (record { schema = record { name = codes "t"; columns = (record { name = codes "id"; kind = Int 4 false; nullable = false; default = None; auto = false } ∷ []); uniques = (record { name = None; places = (0 ∷ []) } ∷ []); indexes = []; comment = []; start = None }; rows = (((Num (pos 1)) ∷ []) ∷ ((Num (pos 2)) ∷ []) ∷ ((Num (pos 3)) ∷ []) ∷ ((Num (pos 4)) ∷ []) ∷ ((Num (pos 5)) ∷ []) ∷ []) } ∷ []); clients = []; operator = []; faults = []; turns = []; options = record { chunk_size = 2; dml_batch_size = 10; default_retries = 60; max_backlog = 100; drain_limit = 2000; client_wait = 20000; tool_wait = 2000; max_load = 64; turn_limit = 200000; notes = 0; note_every = 100; replica_step = 0; replica_pause = 1; max_lag = 10; resume = false; approve_renamed_columns = false; initially_drop_ghost_table = false; initially_drop_old_table = false; ok_to_drop_table = false; postpone = false; show_history = true; show_turns = true; show_tables = true; show_replies = true } }

abbrev pub journal_odd_chunks : List Entry
journal_odd_chunks =
    record { actor = Insp; session = 1; asked = Call requests.ShowTables; side = None; answer = answers.Tables (record { name = codes "t"; comment = [] } ∷ []); missed = None; draw = None }
    ∷ record { actor = Insp; session = 1; asked = Call (requests.Create (record { name = codes "_t_ghc"; columns = (record { name = codes "id"; kind = Int 8 false; nullable = false; default = None; auto = false } ∷ record { name = codes "hint"; kind = VarChar 64; nullable = false; default = None; auto = false } ∷ record { name = codes "value"; kind = VarChar 255; nullable = false; default = None; auto = false } ∷ []); uniques = (record { name = None; places = (0 ∷ []) } ∷ []); indexes = []; comment = []; start = None })); side = None; answer = answers.Ok 0; missed = None; draw = None }
    ∷ record { actor = Insp; session = 1; asked = Call (requests.Create (record { name = codes "_t_gho"; columns = (record { name = codes "id"; kind = Int 4 false; nullable = false; default = None; auto = false } ∷ record { name = codes "b"; kind = Int 4 false; nullable = false; default = (Some (Num (pos 7))); auto = false } ∷ []); uniques = (record { name = None; places = (0 ∷ []) } ∷ []); indexes = []; comment = []; start = None })); side = None; answer = answers.Ok 0; missed = None; draw = None }
    ∷ record { actor = Insp; session = 1; asked = Call requests.LogEnd; side = None; answer = answers.At 0; missed = None; draw = None }
    ∷ record { actor = Insp; session = 1; asked = Call (requests.Ends (codes "t")); side = None; answer = answers.Ends (Some (record { least = ((Num (pos 1)) ∷ []); greatest = ((Num (pos 5)) ∷ []) })); missed = None; draw = None }
    ∷ record { actor = Copy; session = 2; asked = Call (requests.ChunkEnd (codes "t") (Closed ((Num (pos 1)) ∷ [])) ((Num (pos 5)) ∷ []) 2); side = None; answer = answers.End ((Num (pos 2)) ∷ []); missed = None; draw = None }
    ∷ record { actor = Copy; session = 2; asked = Call (requests.BeginSpan (codes "t") (record { low = (Closed ((Num (pos 1)) ∷ [])); high = (Closed ((Num (pos 2)) ∷ [])) }) 2); side = None; answer = answers.Keys (((Num (pos 1)) ∷ []) ∷ ((Num (pos 2)) ∷ []) ∷ []) ((Num (pos 2)) ∷ []); missed = None; draw = None }
    ∷ record { actor = Copy; session = 2; asked = Call (requests.CopyRow (codes "t") (codes "_t_gho") map_odd_chunks ((Num (pos 1)) ∷ [])); side = None; answer = answers.Ok 1; missed = None; draw = None }
    ∷ record { actor = Copy; session = 2; asked = Call (requests.CopyRow (codes "t") (codes "_t_gho") map_odd_chunks ((Num (pos 2)) ∷ [])); side = None; answer = answers.Ok 1; missed = None; draw = None }
    ∷ record { actor = Copy; session = 2; asked = Call requests.Commit; side = None; answer = answers.Ok 0; missed = None; draw = None }
    ∷ record { actor = Copy; session = 2; asked = Call (requests.ChunkEnd (codes "t") (Open ((Num (pos 2)) ∷ [])) ((Num (pos 5)) ∷ []) 2); side = None; answer = answers.End ((Num (pos 4)) ∷ []); missed = None; draw = None }
    ∷ record { actor = Copy; session = 2; asked = Call (requests.BeginSpan (codes "t") (record { low = (Open ((Num (pos 2)) ∷ [])); high = (Closed ((Num (pos 4)) ∷ [])) }) 2); side = None; answer = answers.Keys (((Num (pos 3)) ∷ []) ∷ ((Num (pos 4)) ∷ []) ∷ []) ((Num (pos 4)) ∷ []); missed = None; draw = None }
    ∷ record { actor = Copy; session = 2; asked = Call (requests.CopyRow (codes "t") (codes "_t_gho") map_odd_chunks ((Num (pos 3)) ∷ [])); side = None; answer = answers.Ok 1; missed = None; draw = None }
    ∷ record { actor = Copy; session = 2; asked = Call (requests.CopyRow (codes "t") (codes "_t_gho") map_odd_chunks ((Num (pos 4)) ∷ [])); side = None; answer = answers.Ok 1; missed = None; draw = None }
    ∷ record { actor = Copy; session = 2; asked = Call requests.Commit; side = None; answer = answers.Ok 0; missed = None; draw = None }
    ∷ record { actor = Copy; session = 2; asked = Call (requests.ChunkEnd (codes "t") (Open ((Num (pos 4)) ∷ [])) ((Num (pos 5)) ∷ []) 2); side = None; answer = answers.End ((Num (pos 5)) ∷ []); missed = None; draw = None }
    ∷ record { actor = Copy; session = 2; asked = Call (requests.BeginSpan (codes "t") (record { low = (Open ((Num (pos 4)) ∷ [])); high = (Closed ((Num (pos 5)) ∷ [])) }) 2); side = None; answer = answers.Keys (((Num (pos 5)) ∷ []) ∷ []) ((Num (pos 5)) ∷ []); missed = None; draw = None }
    ∷ record { actor = Copy; session = 2; asked = Call (requests.CopyRow (codes "t") (codes "_t_gho") map_odd_chunks ((Num (pos 5)) ∷ [])); side = None; answer = answers.Ok 1; missed = None; draw = None }
    ∷ record { actor = Copy; session = 2; asked = Call requests.Commit; side = None; answer = answers.Ok 0; missed = None; draw = None }
    ∷ record { actor = Lock; session = 3; asked = Call (requests.Create (record { name = codes "_t_del"; columns = (record { name = codes "id"; kind = Int 4 false; nullable = false; default = None; auto = false } ∷ []); uniques = (record { name = None; places = (0 ∷ []) } ∷ []); indexes = []; comment = codes "ghost-cut-over-sentry"; start = None })); side = None; answer = answers.Ok 0; missed = None; draw = None }
    ∷ record { actor = Lock; session = 3; asked = Call (requests.LockTables (codes "t" ∷ codes "_t_del" ∷ [])); side = None; answer = answers.Ok 0; missed = None; draw = None }
    ∷ record { actor = Insp; session = 1; asked = Call (requests.Do (statements.Insert (codes "_t_ghc") None ((Num (pos 1)) ∷ (Text (codes "cut-over")) ∷ (Text (codes "1")) ∷ []) None)); side = None; answer = answers.Ok 1; missed = None; draw = None }
    ∷ record { actor = Apply; session = 4; asked = Call (requests.ReadLog 0 10 (codes "t" ∷ codes "_t_ghc" ∷ [])); side = None; answer = answers.Events (record { table = codes "_t_ghc"; change = changes.Write ((Num (pos 1)) ∷ (Text (codes "cut-over")) ∷ (Text (codes "1")) ∷ []) } ∷ []) 6; missed = None; draw = None }
    ∷ record { actor = Ren; session = 5; asked = Call (requests.Rename (record { old = codes "t"; new = codes "_t_del" } ∷ record { old = codes "_t_gho"; new = codes "t" } ∷ [])); side = None; answer = answers.Waits 3; missed = None; draw = None }
    ∷ record { actor = Insp; session = 1; asked = Call requests.ShowWaiting; side = None; answer = answers.Waiting (record { session = 5; names = (codes "t" ∷ codes "_t_del" ∷ codes "_t_gho" ∷ []); by = 3 } ∷ []); missed = None; draw = None }
    ∷ record { actor = Lock; session = 3; asked = Call (requests.Drop (codes "_t_del")); side = None; answer = answers.Ok 0; missed = None; draw = None }
    ∷ record { actor = Ren; session = 5; asked = Poll; side = None; answer = answers.Waits 3; missed = None; draw = None }
    ∷ record { actor = Lock; session = 3; asked = Call requests.Unlock; side = None; answer = answers.Ok 0; missed = None; draw = None }
    ∷ record { actor = Ren; session = 5; asked = Poll; side = None; answer = answers.Ok 0; missed = None; draw = None }
    ∷ record { actor = Insp; session = 1; asked = Call requests.ShowTables; side = None; answer = answers.Tables (record { name = codes "_t_del"; comment = [] } ∷ record { name = codes "_t_ghc"; comment = [] } ∷ record { name = codes "t"; comment = [] } ∷ []); missed = None; draw = None }
    ∷ record { actor = Insp; session = 1; asked = Call (requests.Drop (codes "_t_ghc")); side = None; answer = answers.Ok 0; missed = None; draw = None }
    ∷ []

abbrev reported_odd_chunks : WorkedFacts
reported_odd_chunks =
    record {
      verdict = verdicts.Done;
      ended = (None ∷ []);
      left = (record { schema = record { name = codes "t"; columns = (record { name = codes "id"; kind = Int 4 false; nullable = false; default = None; auto = false } ∷ record { name = codes "b"; kind = Int 4 false; nullable = false; default = (Some (Num (pos 7))); auto = false } ∷ []); uniques = (record { name = None; places = (0 ∷ []) } ∷ []); indexes = []; comment = []; start = None }; rows = (((Num (pos 1)) ∷ (Num (pos 7)) ∷ []) ∷ ((Num (pos 2)) ∷ (Num (pos 7)) ∷ []) ∷ ((Num (pos 3)) ∷ (Num (pos 7)) ∷ []) ∷ ((Num (pos 4)) ∷ (Num (pos 7)) ∷ []) ∷ ((Num (pos 5)) ∷ (Num (pos 7)) ∷ []) ∷ []) } ∷ []);
      alone = ([] ∷ []);
      over = replicate 30 false ++ replicate 1 true;
      bound = 220682293;
      replies = [];
    }

worked_odd_chunks : IsWorked plan_odd_chunks journal_odd_chunks reported_odd_chunks
unfolding computing
worked_odd_chunks = record { asks = refl; sessions = refl; answers = refl; sides = refl; struck = refl; verdict = refl; ended = refl; order = refl; left = refl; serial = refl; alone = refl; over = refl; online = refl; bounded = refl; replies = refl }

-- Four rows in chunks of two: there is no third chunk.
abbrev map_even_chunks : List MapColumn
map_even_chunks = (record { kind = Int 4 false; nullable = false; origin = from.Old 0 } ∷ record { kind = Int 4 false; nullable = false; origin = from.Added (Num (pos 7)) } ∷ [])

abbrev pub plan_even_chunks : PlanData
plan_even_chunks = record { table = codes "t"; alter = (clauses.Add (record { name = codes "b"; kind = Int 4 false; nullable = (Some false); default = (Some (Num (pos 7))); auto = false }) Unsaid ∷ []); tables = (record { schema = record { name = codes "t"; columns = (record { name = codes "id"; kind = Int 4 false; nullable = false; default = None; auto = false } ∷ []); uniques = (record { name = None; places = (0 ∷ []) } ∷ []); indexes = []; comment = []; start = None }; rows = (((Num (pos 1)) ∷ []) ∷ ((Num (pos 2)) ∷ []) ∷ ((Num (pos 3)) ∷ []) ∷ ((Num (pos 4)) ∷ []) ∷ []) } ∷ []); clients = []; operator = []; faults = []; turns = []; options = record { chunk_size = 2; dml_batch_size = 10; default_retries = 60; max_backlog = 100; drain_limit = 2000; client_wait = 20000; tool_wait = 2000; max_load = 64; turn_limit = 200000; notes = 0; note_every = 100; replica_step = 0; replica_pause = 1; max_lag = 10; resume = false; approve_renamed_columns = false; initially_drop_ghost_table = false; initially_drop_old_table = false; ok_to_drop_table = false; postpone = false; show_history = true; show_turns = true; show_tables = true; show_replies = true } }

abbrev pub journal_even_chunks : List Entry
journal_even_chunks =
    record { actor = Insp; session = 1; asked = Call requests.ShowTables; side = None; answer = answers.Tables (record { name = codes "t"; comment = [] } ∷ []); missed = None; draw = None }
    ∷ record { actor = Insp; session = 1; asked = Call (requests.Create (record { name = codes "_t_ghc"; columns = (record { name = codes "id"; kind = Int 8 false; nullable = false; default = None; auto = false } ∷ record { name = codes "hint"; kind = VarChar 64; nullable = false; default = None; auto = false } ∷ record { name = codes "value"; kind = VarChar 255; nullable = false; default = None; auto = false } ∷ []); uniques = (record { name = None; places = (0 ∷ []) } ∷ []); indexes = []; comment = []; start = None })); side = None; answer = answers.Ok 0; missed = None; draw = None }
    ∷ record { actor = Insp; session = 1; asked = Call (requests.Create (record { name = codes "_t_gho"; columns = (record { name = codes "id"; kind = Int 4 false; nullable = false; default = None; auto = false } ∷ record { name = codes "b"; kind = Int 4 false; nullable = false; default = (Some (Num (pos 7))); auto = false } ∷ []); uniques = (record { name = None; places = (0 ∷ []) } ∷ []); indexes = []; comment = []; start = None })); side = None; answer = answers.Ok 0; missed = None; draw = None }
    ∷ record { actor = Insp; session = 1; asked = Call requests.LogEnd; side = None; answer = answers.At 0; missed = None; draw = None }
    ∷ record { actor = Insp; session = 1; asked = Call (requests.Ends (codes "t")); side = None; answer = answers.Ends (Some (record { least = ((Num (pos 1)) ∷ []); greatest = ((Num (pos 4)) ∷ []) })); missed = None; draw = None }
    ∷ record { actor = Copy; session = 2; asked = Call (requests.ChunkEnd (codes "t") (Closed ((Num (pos 1)) ∷ [])) ((Num (pos 4)) ∷ []) 2); side = None; answer = answers.End ((Num (pos 2)) ∷ []); missed = None; draw = None }
    ∷ record { actor = Copy; session = 2; asked = Call (requests.BeginSpan (codes "t") (record { low = (Closed ((Num (pos 1)) ∷ [])); high = (Closed ((Num (pos 2)) ∷ [])) }) 2); side = None; answer = answers.Keys (((Num (pos 1)) ∷ []) ∷ ((Num (pos 2)) ∷ []) ∷ []) ((Num (pos 2)) ∷ []); missed = None; draw = None }
    ∷ record { actor = Copy; session = 2; asked = Call (requests.CopyRow (codes "t") (codes "_t_gho") map_even_chunks ((Num (pos 1)) ∷ [])); side = None; answer = answers.Ok 1; missed = None; draw = None }
    ∷ record { actor = Copy; session = 2; asked = Call (requests.CopyRow (codes "t") (codes "_t_gho") map_even_chunks ((Num (pos 2)) ∷ [])); side = None; answer = answers.Ok 1; missed = None; draw = None }
    ∷ record { actor = Copy; session = 2; asked = Call requests.Commit; side = None; answer = answers.Ok 0; missed = None; draw = None }
    ∷ record { actor = Copy; session = 2; asked = Call (requests.ChunkEnd (codes "t") (Open ((Num (pos 2)) ∷ [])) ((Num (pos 4)) ∷ []) 2); side = None; answer = answers.End ((Num (pos 4)) ∷ []); missed = None; draw = None }
    ∷ record { actor = Copy; session = 2; asked = Call (requests.BeginSpan (codes "t") (record { low = (Open ((Num (pos 2)) ∷ [])); high = (Closed ((Num (pos 4)) ∷ [])) }) 2); side = None; answer = answers.Keys (((Num (pos 3)) ∷ []) ∷ ((Num (pos 4)) ∷ []) ∷ []) ((Num (pos 4)) ∷ []); missed = None; draw = None }
    ∷ record { actor = Copy; session = 2; asked = Call (requests.CopyRow (codes "t") (codes "_t_gho") map_even_chunks ((Num (pos 3)) ∷ [])); side = None; answer = answers.Ok 1; missed = None; draw = None }
    ∷ record { actor = Copy; session = 2; asked = Call (requests.CopyRow (codes "t") (codes "_t_gho") map_even_chunks ((Num (pos 4)) ∷ [])); side = None; answer = answers.Ok 1; missed = None; draw = None }
    ∷ record { actor = Copy; session = 2; asked = Call requests.Commit; side = None; answer = answers.Ok 0; missed = None; draw = None }
    ∷ record { actor = Lock; session = 3; asked = Call (requests.Create (record { name = codes "_t_del"; columns = (record { name = codes "id"; kind = Int 4 false; nullable = false; default = None; auto = false } ∷ []); uniques = (record { name = None; places = (0 ∷ []) } ∷ []); indexes = []; comment = codes "ghost-cut-over-sentry"; start = None })); side = None; answer = answers.Ok 0; missed = None; draw = None }
    ∷ record { actor = Lock; session = 3; asked = Call (requests.LockTables (codes "t" ∷ codes "_t_del" ∷ [])); side = None; answer = answers.Ok 0; missed = None; draw = None }
    ∷ record { actor = Insp; session = 1; asked = Call (requests.Do (statements.Insert (codes "_t_ghc") None ((Num (pos 1)) ∷ (Text (codes "cut-over")) ∷ (Text (codes "1")) ∷ []) None)); side = None; answer = answers.Ok 1; missed = None; draw = None }
    ∷ record { actor = Apply; session = 4; asked = Call (requests.ReadLog 0 10 (codes "t" ∷ codes "_t_ghc" ∷ [])); side = None; answer = answers.Events (record { table = codes "_t_ghc"; change = changes.Write ((Num (pos 1)) ∷ (Text (codes "cut-over")) ∷ (Text (codes "1")) ∷ []) } ∷ []) 5; missed = None; draw = None }
    ∷ record { actor = Ren; session = 5; asked = Call (requests.Rename (record { old = codes "t"; new = codes "_t_del" } ∷ record { old = codes "_t_gho"; new = codes "t" } ∷ [])); side = None; answer = answers.Waits 3; missed = None; draw = None }
    ∷ record { actor = Insp; session = 1; asked = Call requests.ShowWaiting; side = None; answer = answers.Waiting (record { session = 5; names = (codes "t" ∷ codes "_t_del" ∷ codes "_t_gho" ∷ []); by = 3 } ∷ []); missed = None; draw = None }
    ∷ record { actor = Lock; session = 3; asked = Call (requests.Drop (codes "_t_del")); side = None; answer = answers.Ok 0; missed = None; draw = None }
    ∷ record { actor = Ren; session = 5; asked = Poll; side = None; answer = answers.Waits 3; missed = None; draw = None }
    ∷ record { actor = Lock; session = 3; asked = Call requests.Unlock; side = None; answer = answers.Ok 0; missed = None; draw = None }
    ∷ record { actor = Ren; session = 5; asked = Poll; side = None; answer = answers.Ok 0; missed = None; draw = None }
    ∷ record { actor = Insp; session = 1; asked = Call requests.ShowTables; side = None; answer = answers.Tables (record { name = codes "_t_del"; comment = [] } ∷ record { name = codes "_t_ghc"; comment = [] } ∷ record { name = codes "t"; comment = [] } ∷ []); missed = None; draw = None }
    ∷ record { actor = Insp; session = 1; asked = Call (requests.Drop (codes "_t_ghc")); side = None; answer = answers.Ok 0; missed = None; draw = None }
    ∷ []

abbrev reported_even_chunks : WorkedFacts
reported_even_chunks =
    record {
      verdict = verdicts.Done;
      ended = (None ∷ []);
      left = (record { schema = record { name = codes "t"; columns = (record { name = codes "id"; kind = Int 4 false; nullable = false; default = None; auto = false } ∷ record { name = codes "b"; kind = Int 4 false; nullable = false; default = (Some (Num (pos 7))); auto = false } ∷ []); uniques = (record { name = None; places = (0 ∷ []) } ∷ []); indexes = []; comment = []; start = None }; rows = (((Num (pos 1)) ∷ (Num (pos 7)) ∷ []) ∷ ((Num (pos 2)) ∷ (Num (pos 7)) ∷ []) ∷ ((Num (pos 3)) ∷ (Num (pos 7)) ∷ []) ∷ ((Num (pos 4)) ∷ (Num (pos 7)) ∷ []) ∷ []) } ∷ []);
      alone = ([] ∷ []);
      over = replicate 26 false ++ replicate 1 true;
      bound = 219361513;
      replies = [];
    }

worked_even_chunks : IsWorked plan_even_chunks journal_even_chunks reported_even_chunks
unfolding computing
worked_even_chunks = record { asks = refl; sessions = refl; answers = refl; sides = refl; struck = refl; verdict = refl; ended = refl; order = refl; left = refl; serial = refl; alone = refl; over = refl; online = refl; bounded = refl; replies = refl }

-- A row whose key moves below the range that is copied, and back: neither the copy nor the events lose it.
abbrev map_moved_keys : List MapColumn
map_moved_keys = (record { kind = Int 4 false; nullable = false; origin = from.Old 0 } ∷ record { kind = Int 4 false; nullable = true; origin = from.Old 1 } ∷ record { kind = Int 4 false; nullable = true; origin = from.Added Null } ∷ [])

abbrev pub plan_moved_keys : PlanData
plan_moved_keys = record { table = codes "t"; alter = (clauses.Add (record { name = codes "b"; kind = Int 4 false; nullable = None; default = None; auto = false }) Unsaid ∷ []); tables = (record { schema = record { name = codes "t"; columns = (record { name = codes "id"; kind = Int 4 false; nullable = false; default = None; auto = false } ∷ record { name = codes "v"; kind = Int 4 false; nullable = true; default = (Some Null); auto = false } ∷ []); uniques = (record { name = None; places = (0 ∷ []) } ∷ []); indexes = []; comment = []; start = None }; rows = (((Num (pos 1)) ∷ (Num (pos 10)) ∷ []) ∷ ((Num (pos 3)) ∷ (Num (pos 30)) ∷ []) ∷ ((Num (pos 5)) ∷ (Num (pos 50)) ∷ []) ∷ []) } ∷ []); clients = ((record { line = 1; word = (words.Do (statements.Update (codes "t") (record { column = codes "id"; value = (Num (pos 2)) } ∷ []) (conditions.Equal (record { column = codes "id"; value = (Num (pos 5)) } ∷ [])))) } ∷ record { line = 2; word = (words.Do (statements.Update (codes "t") (record { column = codes "id"; value = (Num (pos 5)) } ∷ []) (conditions.Equal (record { column = codes "id"; value = (Num (pos 2)) } ∷ [])))) } ∷ []) ∷ []); operator = []; faults = []; turns = (record { actor = Insp; times = 5 } ∷ record { actor = Copy; times = 5 } ∷ record { actor = (Client 1); times = 2 } ∷ record { actor = Copy; times = 4 } ∷ record { actor = Apply; times = 7 } ∷ []); options = record { chunk_size = 2; dml_batch_size = 10; default_retries = 60; max_backlog = 100; drain_limit = 2000; client_wait = 20000; tool_wait = 2000; max_load = 64; turn_limit = 200000; notes = 0; note_every = 100; replica_step = 0; replica_pause = 1; max_lag = 10; resume = false; approve_renamed_columns = false; initially_drop_ghost_table = false; initially_drop_old_table = false; ok_to_drop_table = false; postpone = false; show_history = true; show_turns = true; show_tables = true; show_replies = true } }

abbrev pub journal_moved_keys : List Entry
journal_moved_keys =
    record { actor = Insp; session = 1; asked = Call requests.ShowTables; side = None; answer = answers.Tables (record { name = codes "t"; comment = [] } ∷ []); missed = None; draw = None }
    ∷ record { actor = Insp; session = 1; asked = Call (requests.Create (record { name = codes "_t_ghc"; columns = (record { name = codes "id"; kind = Int 8 false; nullable = false; default = None; auto = false } ∷ record { name = codes "hint"; kind = VarChar 64; nullable = false; default = None; auto = false } ∷ record { name = codes "value"; kind = VarChar 255; nullable = false; default = None; auto = false } ∷ []); uniques = (record { name = None; places = (0 ∷ []) } ∷ []); indexes = []; comment = []; start = None })); side = None; answer = answers.Ok 0; missed = None; draw = None }
    ∷ record { actor = Insp; session = 1; asked = Call (requests.Create (record { name = codes "_t_gho"; columns = (record { name = codes "id"; kind = Int 4 false; nullable = false; default = None; auto = false } ∷ record { name = codes "v"; kind = Int 4 false; nullable = true; default = (Some Null); auto = false } ∷ record { name = codes "b"; kind = Int 4 false; nullable = true; default = (Some Null); auto = false } ∷ []); uniques = (record { name = None; places = (0 ∷ []) } ∷ []); indexes = []; comment = []; start = None })); side = None; answer = answers.Ok 0; missed = None; draw = None }
    ∷ record { actor = Insp; session = 1; asked = Call requests.LogEnd; side = None; answer = answers.At 0; missed = None; draw = None }
    ∷ record { actor = Insp; session = 1; asked = Call (requests.Ends (codes "t")); side = None; answer = answers.Ends (Some (record { least = ((Num (pos 1)) ∷ []); greatest = ((Num (pos 5)) ∷ []) })); missed = None; draw = None }
    ∷ record { actor = Copy; session = 2; asked = Call (requests.ChunkEnd (codes "t") (Closed ((Num (pos 1)) ∷ [])) ((Num (pos 5)) ∷ []) 2); side = None; answer = answers.End ((Num (pos 3)) ∷ []); missed = None; draw = None }
    ∷ record { actor = Copy; session = 2; asked = Call (requests.BeginSpan (codes "t") (record { low = (Closed ((Num (pos 1)) ∷ [])); high = (Closed ((Num (pos 3)) ∷ [])) }) 2); side = None; answer = answers.Keys (((Num (pos 1)) ∷ []) ∷ ((Num (pos 3)) ∷ []) ∷ []) ((Num (pos 3)) ∷ []); missed = None; draw = None }
    ∷ record { actor = Copy; session = 2; asked = Call (requests.CopyRow (codes "t") (codes "_t_gho") map_moved_keys ((Num (pos 1)) ∷ [])); side = None; answer = answers.Ok 1; missed = None; draw = None }
    ∷ record { actor = Copy; session = 2; asked = Call (requests.CopyRow (codes "t") (codes "_t_gho") map_moved_keys ((Num (pos 3)) ∷ [])); side = None; answer = answers.Ok 1; missed = None; draw = None }
    ∷ record { actor = Copy; session = 2; asked = Call requests.Commit; side = None; answer = answers.Ok 0; missed = None; draw = None }
    ∷ record { actor = (Client 1); session = 3; asked = Call (requests.Do (statements.Update (codes "t") (record { column = codes "id"; value = (Num (pos 2)) } ∷ []) (conditions.Equal (record { column = codes "id"; value = (Num (pos 5)) } ∷ [])))); side = None; answer = answers.Ok 1; missed = None; draw = None }
    ∷ record { actor = (Client 1); session = 3; asked = Call (requests.Do (statements.Update (codes "t") (record { column = codes "id"; value = (Num (pos 5)) } ∷ []) (conditions.Equal (record { column = codes "id"; value = (Num (pos 2)) } ∷ [])))); side = None; answer = answers.Ok 1; missed = None; draw = None }
    ∷ record { actor = Copy; session = 2; asked = Call (requests.ChunkEnd (codes "t") (Open ((Num (pos 3)) ∷ [])) ((Num (pos 5)) ∷ []) 2); side = None; answer = answers.End ((Num (pos 5)) ∷ []); missed = None; draw = None }
    ∷ record { actor = Copy; session = 2; asked = Call (requests.BeginSpan (codes "t") (record { low = (Open ((Num (pos 3)) ∷ [])); high = (Closed ((Num (pos 5)) ∷ [])) }) 2); side = None; answer = answers.Keys (((Num (pos 5)) ∷ []) ∷ []) ((Num (pos 5)) ∷ []); missed = None; draw = None }
    ∷ record { actor = Copy; session = 2; asked = Call (requests.CopyRow (codes "t") (codes "_t_gho") map_moved_keys ((Num (pos 5)) ∷ [])); side = None; answer = answers.Ok 1; missed = None; draw = None }
    ∷ record { actor = Copy; session = 2; asked = Call requests.Commit; side = None; answer = answers.Ok 0; missed = None; draw = None }
    ∷ record { actor = Apply; session = 4; asked = Call (requests.ReadLog 0 10 (codes "t" ∷ codes "_t_ghc" ∷ [])); side = None; answer = answers.Events (record { table = codes "t"; change = changes.Update ((Num (pos 5)) ∷ (Num (pos 50)) ∷ []) ((Num (pos 2)) ∷ (Num (pos 50)) ∷ []) } ∷ record { table = codes "t"; change = changes.Update ((Num (pos 2)) ∷ (Num (pos 50)) ∷ []) ((Num (pos 5)) ∷ (Num (pos 50)) ∷ []) } ∷ []) 5; missed = None; draw = None }
    ∷ record { actor = Apply; session = 4; asked = Call requests.Begin; side = None; answer = answers.Ok 0; missed = None; draw = None }
    ∷ record { actor = Apply; session = 4; asked = Call (requests.Do (statements.Delete (codes "_t_gho") (conditions.Equal (record { column = codes "id"; value = (Num (pos 5)) } ∷ [])))); side = None; answer = answers.Ok 1; missed = None; draw = None }
    ∷ record { actor = Apply; session = 4; asked = Call (requests.Do (statements.Replace (codes "_t_gho") None ((Num (pos 2)) ∷ (Num (pos 50)) ∷ Null ∷ []) None)); side = None; answer = answers.Ok 1; missed = None; draw = None }
    ∷ record { actor = Apply; session = 4; asked = Call (requests.Do (statements.Delete (codes "_t_gho") (conditions.Equal (record { column = codes "id"; value = (Num (pos 2)) } ∷ [])))); side = None; answer = answers.Ok 1; missed = None; draw = None }
    ∷ record { actor = Apply; session = 4; asked = Call (requests.Do (statements.Replace (codes "_t_gho") None ((Num (pos 5)) ∷ (Num (pos 50)) ∷ Null ∷ []) None)); side = None; answer = answers.Ok 1; missed = None; draw = None }
    ∷ record { actor = Apply; session = 4; asked = Call requests.Commit; side = None; answer = answers.Ok 0; missed = None; draw = None }
    ∷ record { actor = Lock; session = 5; asked = Call (requests.Create (record { name = codes "_t_del"; columns = (record { name = codes "id"; kind = Int 4 false; nullable = false; default = None; auto = false } ∷ []); uniques = (record { name = None; places = (0 ∷ []) } ∷ []); indexes = []; comment = codes "ghost-cut-over-sentry"; start = None })); side = None; answer = answers.Ok 0; missed = None; draw = None }
    ∷ record { actor = Lock; session = 5; asked = Call (requests.LockTables (codes "t" ∷ codes "_t_del" ∷ [])); side = None; answer = answers.Ok 0; missed = None; draw = None }
    ∷ record { actor = Insp; session = 1; asked = Call (requests.Do (statements.Insert (codes "_t_ghc") None ((Num (pos 1)) ∷ (Text (codes "cut-over")) ∷ (Text (codes "1")) ∷ []) None)); side = None; answer = answers.Ok 1; missed = None; draw = None }
    ∷ record { actor = Apply; session = 4; asked = Call (requests.ReadLog 5 10 (codes "t" ∷ codes "_t_ghc" ∷ [])); side = None; answer = answers.Events (record { table = codes "_t_ghc"; change = changes.Write ((Num (pos 1)) ∷ (Text (codes "cut-over")) ∷ (Text (codes "1")) ∷ []) } ∷ []) 10; missed = None; draw = None }
    ∷ record { actor = Ren; session = 6; asked = Call (requests.Rename (record { old = codes "t"; new = codes "_t_del" } ∷ record { old = codes "_t_gho"; new = codes "t" } ∷ [])); side = None; answer = answers.Waits 5; missed = None; draw = None }
    ∷ record { actor = Insp; session = 1; asked = Call requests.ShowWaiting; side = None; answer = answers.Waiting (record { session = 6; names = (codes "t" ∷ codes "_t_del" ∷ codes "_t_gho" ∷ []); by = 5 } ∷ []); missed = None; draw = None }
    ∷ record { actor = Lock; session = 5; asked = Call (requests.Drop (codes "_t_del")); side = None; answer = answers.Ok 0; missed = None; draw = None }
    ∷ record { actor = Ren; session = 6; asked = Poll; side = None; answer = answers.Waits 5; missed = None; draw = None }
    ∷ record { actor = Lock; session = 5; asked = Call requests.Unlock; side = None; answer = answers.Ok 0; missed = None; draw = None }
    ∷ record { actor = Ren; session = 6; asked = Poll; side = None; answer = answers.Ok 0; missed = None; draw = None }
    ∷ record { actor = Insp; session = 1; asked = Call requests.ShowTables; side = None; answer = answers.Tables (record { name = codes "_t_del"; comment = [] } ∷ record { name = codes "_t_ghc"; comment = [] } ∷ record { name = codes "t"; comment = [] } ∷ []); missed = None; draw = None }
    ∷ record { actor = Insp; session = 1; asked = Call (requests.Drop (codes "_t_ghc")); side = None; answer = answers.Ok 0; missed = None; draw = None }
    ∷ []

abbrev reported_moved_keys : WorkedFacts
reported_moved_keys =
    record {
      verdict = verdicts.Done;
      ended = (Some (1, 1) ∷ Some (1, 2) ∷ None ∷ []);
      left = (record { schema = record { name = codes "t"; columns = (record { name = codes "id"; kind = Int 4 false; nullable = false; default = None; auto = false } ∷ record { name = codes "v"; kind = Int 4 false; nullable = true; default = (Some Null); auto = false } ∷ record { name = codes "b"; kind = Int 4 false; nullable = true; default = (Some Null); auto = false } ∷ []); uniques = (record { name = None; places = (0 ∷ []) } ∷ []); indexes = []; comment = []; start = None }; rows = (((Num (pos 1)) ∷ (Num (pos 10)) ∷ Null ∷ []) ∷ ((Num (pos 3)) ∷ (Num (pos 30)) ∷ Null ∷ []) ∷ ((Num (pos 5)) ∷ (Num (pos 50)) ∷ Null ∷ []) ∷ []) } ∷ []);
      alone = (((replies.Ok 1) ∷ []) ∷ ((replies.Ok 1) ∷ []) ∷ [] ∷ []);
      over = replicate 34 false ++ replicate 1 true;
      bound = 340310215;
      replies = ((1, 1, (Some (replies.Ok 1))) ∷ (2, 1, (Some (replies.Ok 1))) ∷ []) ∷ [];
    }

worked_moved_keys : IsWorked plan_moved_keys journal_moved_keys reported_moved_keys
unfolding computing
worked_moved_keys = record { asks = refl; sessions = refl; answers = refl; sides = refl; struck = refl; verdict = refl; ended = refl; order = refl; left = refl; serial = refl; alone = refl; over = refl; online = refl; bounded = refl; replies = refl }

-- A row above the range that is copied comes and goes: both events come by the log alone.
abbrev map_above_range : List MapColumn
map_above_range = (record { kind = Int 4 false; nullable = false; origin = from.Old 0 } ∷ record { kind = Int 4 false; nullable = false; origin = from.Added (Num (pos 7)) } ∷ [])

abbrev pub plan_above_range : PlanData
plan_above_range = record { table = codes "t"; alter = (clauses.Add (record { name = codes "b"; kind = Int 4 false; nullable = (Some false); default = (Some (Num (pos 7))); auto = false }) Unsaid ∷ []); tables = (record { schema = record { name = codes "t"; columns = (record { name = codes "id"; kind = Int 4 false; nullable = false; default = None; auto = false } ∷ []); uniques = (record { name = None; places = (0 ∷ []) } ∷ []); indexes = []; comment = []; start = None }; rows = (((Num (pos 1)) ∷ []) ∷ []) } ∷ []); clients = ((record { line = 1; word = (words.Do (statements.Insert (codes "t") None ((Num (pos 9)) ∷ []) None)) } ∷ record { line = 2; word = (words.Do (statements.Delete (codes "t") (conditions.Equal (record { column = codes "id"; value = (Num (pos 9)) } ∷ [])))) } ∷ []) ∷ []); operator = []; faults = []; turns = (record { actor = Insp; times = 5 } ∷ record { actor = (Client 1); times = 2 } ∷ []); options = record { chunk_size = 1000; dml_batch_size = 10; default_retries = 60; max_backlog = 100; drain_limit = 2000; client_wait = 20000; tool_wait = 2000; max_load = 64; turn_limit = 200000; notes = 0; note_every = 100; replica_step = 0; replica_pause = 1; max_lag = 10; resume = false; approve_renamed_columns = false; initially_drop_ghost_table = false; initially_drop_old_table = false; ok_to_drop_table = false; postpone = false; show_history = true; show_turns = true; show_tables = true; show_replies = true } }

abbrev pub journal_above_range : List Entry
journal_above_range =
    record { actor = Insp; session = 1; asked = Call requests.ShowTables; side = None; answer = answers.Tables (record { name = codes "t"; comment = [] } ∷ []); missed = None; draw = None }
    ∷ record { actor = Insp; session = 1; asked = Call (requests.Create (record { name = codes "_t_ghc"; columns = (record { name = codes "id"; kind = Int 8 false; nullable = false; default = None; auto = false } ∷ record { name = codes "hint"; kind = VarChar 64; nullable = false; default = None; auto = false } ∷ record { name = codes "value"; kind = VarChar 255; nullable = false; default = None; auto = false } ∷ []); uniques = (record { name = None; places = (0 ∷ []) } ∷ []); indexes = []; comment = []; start = None })); side = None; answer = answers.Ok 0; missed = None; draw = None }
    ∷ record { actor = Insp; session = 1; asked = Call (requests.Create (record { name = codes "_t_gho"; columns = (record { name = codes "id"; kind = Int 4 false; nullable = false; default = None; auto = false } ∷ record { name = codes "b"; kind = Int 4 false; nullable = false; default = (Some (Num (pos 7))); auto = false } ∷ []); uniques = (record { name = None; places = (0 ∷ []) } ∷ []); indexes = []; comment = []; start = None })); side = None; answer = answers.Ok 0; missed = None; draw = None }
    ∷ record { actor = Insp; session = 1; asked = Call requests.LogEnd; side = None; answer = answers.At 0; missed = None; draw = None }
    ∷ record { actor = Insp; session = 1; asked = Call (requests.Ends (codes "t")); side = None; answer = answers.Ends (Some (record { least = ((Num (pos 1)) ∷ []); greatest = ((Num (pos 1)) ∷ []) })); missed = None; draw = None }
    ∷ record { actor = (Client 1); session = 2; asked = Call (requests.Do (statements.Insert (codes "t") None ((Num (pos 9)) ∷ []) None)); side = None; answer = answers.Ok 1; missed = None; draw = None }
    ∷ record { actor = (Client 1); session = 2; asked = Call (requests.Do (statements.Delete (codes "t") (conditions.Equal (record { column = codes "id"; value = (Num (pos 9)) } ∷ [])))); side = None; answer = answers.Ok 1; missed = None; draw = None }
    ∷ record { actor = Copy; session = 3; asked = Call (requests.ChunkEnd (codes "t") (Closed ((Num (pos 1)) ∷ [])) ((Num (pos 1)) ∷ []) 1000); side = None; answer = answers.End ((Num (pos 1)) ∷ []); missed = None; draw = None }
    ∷ record { actor = Apply; session = 4; asked = Call (requests.ReadLog 0 10 (codes "t" ∷ codes "_t_ghc" ∷ [])); side = None; answer = answers.Events (record { table = codes "t"; change = changes.Write ((Num (pos 9)) ∷ []) } ∷ record { table = codes "t"; change = changes.Delete ((Num (pos 9)) ∷ []) } ∷ []) 2; missed = None; draw = None }
    ∷ record { actor = Copy; session = 3; asked = Call (requests.BeginSpan (codes "t") (record { low = (Closed ((Num (pos 1)) ∷ [])); high = (Closed ((Num (pos 1)) ∷ [])) }) 1000); side = None; answer = answers.Keys (((Num (pos 1)) ∷ []) ∷ []) ((Num (pos 1)) ∷ []); missed = None; draw = None }
    ∷ record { actor = Apply; session = 4; asked = Call requests.Begin; side = None; answer = answers.Ok 0; missed = None; draw = None }
    ∷ record { actor = Copy; session = 3; asked = Call (requests.CopyRow (codes "t") (codes "_t_gho") map_above_range ((Num (pos 1)) ∷ [])); side = None; answer = answers.Ok 1; missed = None; draw = None }
    ∷ record { actor = Apply; session = 4; asked = Call (requests.Do (statements.Replace (codes "_t_gho") None ((Num (pos 9)) ∷ (Num (pos 7)) ∷ []) None)); side = None; answer = answers.Ok 1; missed = None; draw = None }
    ∷ record { actor = Copy; session = 3; asked = Call requests.Commit; side = None; answer = answers.Ok 0; missed = None; draw = None }
    ∷ record { actor = Apply; session = 4; asked = Call (requests.Do (statements.Delete (codes "_t_gho") (conditions.Equal (record { column = codes "id"; value = (Num (pos 9)) } ∷ [])))); side = None; answer = answers.Ok 1; missed = None; draw = None }
    ∷ record { actor = Lock; session = 5; asked = Call (requests.Create (record { name = codes "_t_del"; columns = (record { name = codes "id"; kind = Int 4 false; nullable = false; default = None; auto = false } ∷ []); uniques = (record { name = None; places = (0 ∷ []) } ∷ []); indexes = []; comment = codes "ghost-cut-over-sentry"; start = None })); side = None; answer = answers.Ok 0; missed = None; draw = None }
    ∷ record { actor = Apply; session = 4; asked = Call requests.Commit; side = None; answer = answers.Ok 0; missed = None; draw = None }
    ∷ record { actor = Lock; session = 5; asked = Call (requests.LockTables (codes "t" ∷ codes "_t_del" ∷ [])); side = None; answer = answers.Ok 0; missed = None; draw = None }
    ∷ record { actor = Insp; session = 1; asked = Call (requests.Do (statements.Insert (codes "_t_ghc") None ((Num (pos 1)) ∷ (Text (codes "cut-over")) ∷ (Text (codes "1")) ∷ []) None)); side = None; answer = answers.Ok 1; missed = None; draw = None }
    ∷ record { actor = Apply; session = 4; asked = Call (requests.ReadLog 2 10 (codes "t" ∷ codes "_t_ghc" ∷ [])); side = None; answer = answers.Events (record { table = codes "_t_ghc"; change = changes.Write ((Num (pos 1)) ∷ (Text (codes "cut-over")) ∷ (Text (codes "1")) ∷ []) } ∷ []) 6; missed = None; draw = None }
    ∷ record { actor = Ren; session = 6; asked = Call (requests.Rename (record { old = codes "t"; new = codes "_t_del" } ∷ record { old = codes "_t_gho"; new = codes "t" } ∷ [])); side = None; answer = answers.Waits 5; missed = None; draw = None }
    ∷ record { actor = Insp; session = 1; asked = Call requests.ShowWaiting; side = None; answer = answers.Waiting (record { session = 6; names = (codes "t" ∷ codes "_t_del" ∷ codes "_t_gho" ∷ []); by = 5 } ∷ []); missed = None; draw = None }
    ∷ record { actor = Lock; session = 5; asked = Call (requests.Drop (codes "_t_del")); side = None; answer = answers.Ok 0; missed = None; draw = None }
    ∷ record { actor = Ren; session = 6; asked = Poll; side = None; answer = answers.Waits 5; missed = None; draw = None }
    ∷ record { actor = Lock; session = 5; asked = Call requests.Unlock; side = None; answer = answers.Ok 0; missed = None; draw = None }
    ∷ record { actor = Ren; session = 6; asked = Poll; side = None; answer = answers.Ok 0; missed = None; draw = None }
    ∷ record { actor = Insp; session = 1; asked = Call requests.ShowTables; side = None; answer = answers.Tables (record { name = codes "_t_del"; comment = [] } ∷ record { name = codes "_t_ghc"; comment = [] } ∷ record { name = codes "t"; comment = [] } ∷ []); missed = None; draw = None }
    ∷ record { actor = Insp; session = 1; asked = Call (requests.Drop (codes "_t_ghc")); side = None; answer = answers.Ok 0; missed = None; draw = None }
    ∷ []

abbrev reported_above_range : WorkedFacts
reported_above_range =
    record {
      verdict = verdicts.Done;
      ended = (Some (1, 1) ∷ Some (1, 2) ∷ None ∷ []);
      left = (record { schema = record { name = codes "t"; columns = (record { name = codes "id"; kind = Int 4 false; nullable = false; default = None; auto = false } ∷ record { name = codes "b"; kind = Int 4 false; nullable = false; default = (Some (Num (pos 7))); auto = false } ∷ []); uniques = (record { name = None; places = (0 ∷ []) } ∷ []); indexes = []; comment = []; start = None }; rows = (((Num (pos 1)) ∷ (Num (pos 7)) ∷ []) ∷ []) } ∷ []);
      alone = (((replies.Ok 1) ∷ []) ∷ ((replies.Ok 1) ∷ []) ∷ [] ∷ []);
      over = replicate 27 false ++ replicate 1 true;
      bound = 315336295;
      replies = ((1, 1, (Some (replies.Ok 1))) ∷ (2, 1, (Some (replies.Ok 1))) ∷ []) ∷ [];
    }

worked_above_range : IsWorked plan_above_range journal_above_range reported_above_range
unfolding computing
worked_above_range = record { asks = refl; sessions = refl; answers = refl; sides = refl; struck = refl; verdict = refl; ended = refl; order = refl; left = refl; serial = refl; alone = refl; over = refl; online = refl; bounded = refl; replies = refl }

-- The answer to the RENAME is lost: the tables show that it was done.
abbrev map_lost_answer : List MapColumn
map_lost_answer = (record { kind = Int 4 false; nullable = false; origin = from.Old 0 } ∷ record { kind = Int 4 false; nullable = false; origin = from.Added (Num (pos 7)) } ∷ [])

abbrev pub plan_lost_answer : PlanData
plan_lost_answer = record { table = codes "t"; alter = (clauses.Add (record { name = codes "b"; kind = Int 4 false; nullable = (Some false); default = (Some (Num (pos 7))); auto = false }) Unsaid ∷ []); tables = (record { schema = record { name = codes "t"; columns = (record { name = codes "id"; kind = Int 4 false; nullable = false; default = None; auto = false } ∷ []); uniques = (record { name = None; places = (0 ∷ []) } ∷ []); indexes = []; comment = []; start = None }; rows = [] } ∷ []); clients = []; operator = []; faults = (losses.Nth Ren 3 sides_at.After ∷ []); turns = []; options = record { chunk_size = 1000; dml_batch_size = 10; default_retries = 60; max_backlog = 100; drain_limit = 2000; client_wait = 20000; tool_wait = 2000; max_load = 64; turn_limit = 200000; notes = 0; note_every = 100; replica_step = 0; replica_pause = 1; max_lag = 10; resume = false; approve_renamed_columns = false; initially_drop_ghost_table = false; initially_drop_old_table = false; ok_to_drop_table = false; postpone = false; show_history = true; show_turns = true; show_tables = true; show_replies = true } }

abbrev pub journal_lost_answer : List Entry
journal_lost_answer =
    record { actor = Insp; session = 1; asked = Call requests.ShowTables; side = None; answer = answers.Tables (record { name = codes "t"; comment = [] } ∷ []); missed = None; draw = None }
    ∷ record { actor = Insp; session = 1; asked = Call (requests.Create (record { name = codes "_t_ghc"; columns = (record { name = codes "id"; kind = Int 8 false; nullable = false; default = None; auto = false } ∷ record { name = codes "hint"; kind = VarChar 64; nullable = false; default = None; auto = false } ∷ record { name = codes "value"; kind = VarChar 255; nullable = false; default = None; auto = false } ∷ []); uniques = (record { name = None; places = (0 ∷ []) } ∷ []); indexes = []; comment = []; start = None })); side = None; answer = answers.Ok 0; missed = None; draw = None }
    ∷ record { actor = Insp; session = 1; asked = Call (requests.Create (record { name = codes "_t_gho"; columns = (record { name = codes "id"; kind = Int 4 false; nullable = false; default = None; auto = false } ∷ record { name = codes "b"; kind = Int 4 false; nullable = false; default = (Some (Num (pos 7))); auto = false } ∷ []); uniques = (record { name = None; places = (0 ∷ []) } ∷ []); indexes = []; comment = []; start = None })); side = None; answer = answers.Ok 0; missed = None; draw = None }
    ∷ record { actor = Insp; session = 1; asked = Call requests.LogEnd; side = None; answer = answers.At 0; missed = None; draw = None }
    ∷ record { actor = Insp; session = 1; asked = Call (requests.Ends (codes "t")); side = None; answer = answers.Ends None; missed = None; draw = None }
    ∷ record { actor = Lock; session = 2; asked = Call (requests.Create (record { name = codes "_t_del"; columns = (record { name = codes "id"; kind = Int 4 false; nullable = false; default = None; auto = false } ∷ []); uniques = (record { name = None; places = (0 ∷ []) } ∷ []); indexes = []; comment = codes "ghost-cut-over-sentry"; start = None })); side = None; answer = answers.Ok 0; missed = None; draw = None }
    ∷ record { actor = Lock; session = 2; asked = Call (requests.LockTables (codes "t" ∷ codes "_t_del" ∷ [])); side = None; answer = answers.Ok 0; missed = None; draw = None }
    ∷ record { actor = Insp; session = 1; asked = Call (requests.Do (statements.Insert (codes "_t_ghc") None ((Num (pos 1)) ∷ (Text (codes "cut-over")) ∷ (Text (codes "1")) ∷ []) None)); side = None; answer = answers.Ok 1; missed = None; draw = None }
    ∷ record { actor = Apply; session = 3; asked = Call (requests.ReadLog 0 10 (codes "t" ∷ codes "_t_ghc" ∷ [])); side = None; answer = answers.Events (record { table = codes "_t_ghc"; change = changes.Write ((Num (pos 1)) ∷ (Text (codes "cut-over")) ∷ (Text (codes "1")) ∷ []) } ∷ []) 1; missed = None; draw = None }
    ∷ record { actor = Ren; session = 4; asked = Call (requests.Rename (record { old = codes "t"; new = codes "_t_del" } ∷ record { old = codes "_t_gho"; new = codes "t" } ∷ [])); side = None; answer = answers.Waits 2; missed = None; draw = None }
    ∷ record { actor = Insp; session = 1; asked = Call requests.ShowWaiting; side = None; answer = answers.Waiting (record { session = 4; names = (codes "t" ∷ codes "_t_del" ∷ codes "_t_gho" ∷ []); by = 2 } ∷ []); missed = None; draw = None }
    ∷ record { actor = Lock; session = 2; asked = Call (requests.Drop (codes "_t_del")); side = None; answer = answers.Ok 0; missed = None; draw = None }
    ∷ record { actor = Ren; session = 4; asked = Poll; side = None; answer = answers.Waits 2; missed = None; draw = None }
    ∷ record { actor = Lock; session = 2; asked = Call requests.Unlock; side = None; answer = answers.Ok 0; missed = None; draw = None }
    ∷ record { actor = Ren; session = 4; asked = Poll; side = (Some sides_at.After); answer = answers.Lost; missed = (Some (answers.Ok 0)); draw = None }
    ∷ record { actor = Insp; session = 1; asked = Call requests.ShowTables; side = None; answer = answers.Tables (record { name = codes "_t_del"; comment = [] } ∷ record { name = codes "_t_ghc"; comment = [] } ∷ record { name = codes "t"; comment = [] } ∷ []); missed = None; draw = None }
    ∷ record { actor = Insp; session = 1; asked = Call (requests.Drop (codes "_t_ghc")); side = None; answer = answers.Ok 0; missed = None; draw = None }
    ∷ []

abbrev reported_lost_answer : WorkedFacts
reported_lost_answer =
    record {
      verdict = verdicts.Done;
      ended = (None ∷ []);
      left = (record { schema = record { name = codes "t"; columns = (record { name = codes "id"; kind = Int 4 false; nullable = false; default = None; auto = false } ∷ record { name = codes "b"; kind = Int 4 false; nullable = false; default = (Some (Num (pos 7))); auto = false } ∷ []); uniques = (record { name = None; places = (0 ∷ []) } ∷ []); indexes = []; comment = []; start = None }; rows = [] } ∷ []);
      alone = ([] ∷ []);
      over = replicate 16 false ++ replicate 1 true;
      bound = 216479607;
      replies = [];
    }

worked_lost_answer : IsWorked plan_lost_answer journal_lost_answer reported_lost_answer
unfolding computing
worked_lost_answer = record { asks = refl; sessions = refl; answers = refl; sides = refl; struck = refl; verdict = refl; ended = refl; order = refl; left = refl; serial = refl; alone = refl; over = refl; online = refl; bounded = refl; replies = refl }

-- An open transaction keeps the first attempt from the table lock, which times out; the second attempt succeeds.
abbrev map_two_tries : List MapColumn
map_two_tries = (record { kind = Int 4 false; nullable = false; origin = from.Old 0 } ∷ record { kind = Int 4 false; nullable = false; origin = from.Added (Num (pos 7)) } ∷ [])

abbrev pub plan_two_tries : PlanData
plan_two_tries = record { table = codes "t"; alter = (clauses.Add (record { name = codes "b"; kind = Int 4 false; nullable = (Some false); default = (Some (Num (pos 7))); auto = false }) Unsaid ∷ []); tables = (record { schema = record { name = codes "t"; columns = (record { name = codes "id"; kind = Int 4 false; nullable = false; default = None; auto = false } ∷ []); uniques = (record { name = None; places = (0 ∷ []) } ∷ []); indexes = []; comment = []; start = None }; rows = [] } ∷ []); clients = ((record { line = 1; word = words.Begin } ∷ record { line = 2; word = (words.Do (statements.Select (codes "t") shown.All conditions.All)) } ∷ record { line = 3; word = words.Commit } ∷ []) ∷ []); operator = []; faults = []; turns = (record { actor = Insp; times = 5 } ∷ record { actor = (Client 1); times = 2 } ∷ record { actor = Lock; times = 4 } ∷ []); options = record { chunk_size = 1000; dml_batch_size = 10; default_retries = 2; max_backlog = 100; drain_limit = 2000; client_wait = 20000; tool_wait = 2; max_load = 64; turn_limit = 200000; notes = 0; note_every = 100; replica_step = 0; replica_pause = 1; max_lag = 10; resume = false; approve_renamed_columns = false; initially_drop_ghost_table = false; initially_drop_old_table = false; ok_to_drop_table = false; postpone = false; show_history = true; show_turns = true; show_tables = true; show_replies = true } }

abbrev pub journal_two_tries : List Entry
journal_two_tries =
    record { actor = Insp; session = 1; asked = Call requests.ShowTables; side = None; answer = answers.Tables (record { name = codes "t"; comment = [] } ∷ []); missed = None; draw = None }
    ∷ record { actor = Insp; session = 1; asked = Call (requests.Create (record { name = codes "_t_ghc"; columns = (record { name = codes "id"; kind = Int 8 false; nullable = false; default = None; auto = false } ∷ record { name = codes "hint"; kind = VarChar 64; nullable = false; default = None; auto = false } ∷ record { name = codes "value"; kind = VarChar 255; nullable = false; default = None; auto = false } ∷ []); uniques = (record { name = None; places = (0 ∷ []) } ∷ []); indexes = []; comment = []; start = None })); side = None; answer = answers.Ok 0; missed = None; draw = None }
    ∷ record { actor = Insp; session = 1; asked = Call (requests.Create (record { name = codes "_t_gho"; columns = (record { name = codes "id"; kind = Int 4 false; nullable = false; default = None; auto = false } ∷ record { name = codes "b"; kind = Int 4 false; nullable = false; default = (Some (Num (pos 7))); auto = false } ∷ []); uniques = (record { name = None; places = (0 ∷ []) } ∷ []); indexes = []; comment = []; start = None })); side = None; answer = answers.Ok 0; missed = None; draw = None }
    ∷ record { actor = Insp; session = 1; asked = Call requests.LogEnd; side = None; answer = answers.At 0; missed = None; draw = None }
    ∷ record { actor = Insp; session = 1; asked = Call (requests.Ends (codes "t")); side = None; answer = answers.Ends None; missed = None; draw = None }
    ∷ record { actor = (Client 1); session = 2; asked = Call requests.Begin; side = None; answer = answers.Ok 0; missed = None; draw = None }
    ∷ record { actor = (Client 1); session = 2; asked = Call (requests.Do (statements.Select (codes "t") shown.All conditions.All)); side = None; answer = answers.Rows []; missed = None; draw = None }
    ∷ record { actor = Lock; session = 3; asked = Call (requests.Create (record { name = codes "_t_del"; columns = (record { name = codes "id"; kind = Int 4 false; nullable = false; default = None; auto = false } ∷ []); uniques = (record { name = None; places = (0 ∷ []) } ∷ []); indexes = []; comment = codes "ghost-cut-over-sentry"; start = None })); side = None; answer = answers.Ok 0; missed = None; draw = None }
    ∷ record { actor = Lock; session = 3; asked = Call (requests.LockTables (codes "t" ∷ codes "_t_del" ∷ [])); side = None; answer = answers.Waits 2; missed = None; draw = None }
    ∷ record { actor = Lock; session = 3; asked = Poll; side = None; answer = answers.Waits 2; missed = None; draw = None }
    ∷ record { actor = Lock; session = 3; asked = Poll; side = None; answer = answers.TimedOut 2; missed = None; draw = None }
    ∷ record { actor = Insp; session = 1; asked = Call requests.ShowTables; side = None; answer = answers.Tables (record { name = codes "_t_del"; comment = codes "ghost-cut-over-sentry" } ∷ record { name = codes "_t_ghc"; comment = [] } ∷ record { name = codes "_t_gho"; comment = [] } ∷ record { name = codes "t"; comment = [] } ∷ []); missed = None; draw = None }
    ∷ record { actor = (Client 1); session = 2; asked = Call requests.Commit; side = None; answer = answers.Ok 0; missed = None; draw = None }
    ∷ record { actor = Insp; session = 1; asked = Call (requests.Drop (codes "_t_del")); side = None; answer = answers.Ok 0; missed = None; draw = None }
    ∷ record { actor = Lock; session = 3; asked = Call (requests.Create (record { name = codes "_t_del"; columns = (record { name = codes "id"; kind = Int 4 false; nullable = false; default = None; auto = false } ∷ []); uniques = (record { name = None; places = (0 ∷ []) } ∷ []); indexes = []; comment = codes "ghost-cut-over-sentry"; start = None })); side = None; answer = answers.Ok 0; missed = None; draw = None }
    ∷ record { actor = Lock; session = 3; asked = Call (requests.LockTables (codes "t" ∷ codes "_t_del" ∷ [])); side = None; answer = answers.Ok 0; missed = None; draw = None }
    ∷ record { actor = Insp; session = 1; asked = Call (requests.Do (statements.Insert (codes "_t_ghc") None ((Num (pos 2)) ∷ (Text (codes "cut-over")) ∷ (Text (codes "2")) ∷ []) None)); side = None; answer = answers.Ok 1; missed = None; draw = None }
    ∷ record { actor = Apply; session = 4; asked = Call (requests.ReadLog 0 10 (codes "t" ∷ codes "_t_ghc" ∷ [])); side = None; answer = answers.Events (record { table = codes "_t_ghc"; change = changes.Write ((Num (pos 2)) ∷ (Text (codes "cut-over")) ∷ (Text (codes "2")) ∷ []) } ∷ []) 1; missed = None; draw = None }
    ∷ record { actor = Ren; session = 5; asked = Call (requests.Rename (record { old = codes "t"; new = codes "_t_del" } ∷ record { old = codes "_t_gho"; new = codes "t" } ∷ [])); side = None; answer = answers.Waits 3; missed = None; draw = None }
    ∷ record { actor = Insp; session = 1; asked = Call requests.ShowWaiting; side = None; answer = answers.Waiting (record { session = 5; names = (codes "t" ∷ codes "_t_del" ∷ codes "_t_gho" ∷ []); by = 3 } ∷ []); missed = None; draw = None }
    ∷ record { actor = Lock; session = 3; asked = Call (requests.Drop (codes "_t_del")); side = None; answer = answers.Ok 0; missed = None; draw = None }
    ∷ record { actor = Ren; session = 5; asked = Poll; side = None; answer = answers.Waits 3; missed = None; draw = None }
    ∷ record { actor = Lock; session = 3; asked = Call requests.Unlock; side = None; answer = answers.Ok 0; missed = None; draw = None }
    ∷ record { actor = Ren; session = 5; asked = Poll; side = None; answer = answers.Ok 0; missed = None; draw = None }
    ∷ record { actor = Insp; session = 1; asked = Call requests.ShowTables; side = None; answer = answers.Tables (record { name = codes "_t_del"; comment = [] } ∷ record { name = codes "_t_ghc"; comment = [] } ∷ record { name = codes "t"; comment = [] } ∷ []); missed = None; draw = None }
    ∷ record { actor = Insp; session = 1; asked = Call (requests.Drop (codes "_t_ghc")); side = None; answer = answers.Ok 0; missed = None; draw = None }
    ∷ []

abbrev reported_two_tries : WorkedFacts
reported_two_tries =
    record {
      verdict = verdicts.Done;
      ended = (Some (1, 1) ∷ None ∷ []);
      left = (record { schema = record { name = codes "t"; columns = (record { name = codes "id"; kind = Int 4 false; nullable = false; default = None; auto = false } ∷ record { name = codes "b"; kind = Int 4 false; nullable = false; default = (Some (Num (pos 7))); auto = false } ∷ []); uniques = (record { name = None; places = (0 ∷ []) } ∷ []); indexes = []; comment = []; start = None }; rows = [] } ∷ []);
      alone = (((replies.Ok 0) ∷ (replies.Rows []) ∷ (replies.Ok 0) ∷ []) ∷ [] ∷ []);
      over = replicate 25 false ++ replicate 1 true;
      bound = 68148;
      replies = ((1, 1, (Some (replies.Ok 0))) ∷ (1, 2, (Some (replies.Rows []))) ∷ (1, 3, (Some (replies.Ok 0))) ∷ []) ∷ [];
    }

worked_two_tries : IsWorked plan_two_tries journal_two_tries reported_two_tries
unfolding computing
worked_two_tries = record { asks = refl; sessions = refl; answers = refl; sides = refl; struck = refl; verdict = refl; ended = refl; order = refl; left = refl; serial = refl; alone = refl; over = refl; online = refl; bounded = refl; replies = refl }

-- The operator's panic before all else: nothing was begun, so nothing is left.
abbrev map_panic : List MapColumn
map_panic = (record { kind = Int 4 false; nullable = false; origin = from.Old 0 } ∷ record { kind = Int 4 false; nullable = false; origin = from.Added (Num (pos 7)) } ∷ [])

abbrev pub plan_panic : PlanData
plan_panic = record { table = codes "t"; alter = (clauses.Add (record { name = codes "b"; kind = Int 4 false; nullable = (Some false); default = (Some (Num (pos 7))); auto = false }) Unsaid ∷ []); tables = (record { schema = record { name = codes "t"; columns = (record { name = codes "id"; kind = Int 4 false; nullable = false; default = None; auto = false } ∷ []); uniques = (record { name = None; places = (0 ∷ []) } ∷ []); indexes = []; comment = []; start = None }; rows = [] } ∷ []); clients = []; operator = (record { word = commanded.Panic; units = 1 } ∷ []); faults = []; turns = []; options = record { chunk_size = 1000; dml_batch_size = 10; default_retries = 60; max_backlog = 100; drain_limit = 2000; client_wait = 20000; tool_wait = 2000; max_load = 64; turn_limit = 200000; notes = 0; note_every = 100; replica_step = 0; replica_pause = 1; max_lag = 10; resume = false; approve_renamed_columns = false; initially_drop_ghost_table = false; initially_drop_old_table = false; ok_to_drop_table = false; postpone = false; show_history = true; show_turns = true; show_tables = true; show_replies = true } }

abbrev pub journal_panic : List Entry
journal_panic =
    record { actor = Op; session = 0; asked = Command commanded.Panic; side = None; answer = answers.Ok 0; missed = None; draw = None }
    ∷ []

abbrev reported_panic : WorkedFacts
reported_panic =
    record {
      verdict = verdicts.Reverted (causes.Panic 1);
      ended = [];
      left = (record { schema = record { name = codes "t"; columns = (record { name = codes "id"; kind = Int 4 false; nullable = false; default = None; auto = false } ∷ []); uniques = (record { name = None; places = (0 ∷ []) } ∷ []); indexes = []; comment = []; start = None }; rows = [] } ∷ []);
      alone = [];
      over = replicate 0 false ++ replicate 1 true;
      bound = 216479594;
      replies = [];
    }

worked_panic : IsWorked plan_panic journal_panic reported_panic
unfolding computing
worked_panic = record { asks = refl; sessions = refl; answers = refl; sides = refl; struck = refl; verdict = refl; ended = refl; order = refl; left = refl; serial = refl; alone = refl; over = refl; online = refl; bounded = refl; replies = refl }

-- A run that may take three turns alone isn't ended by them.
abbrev map_three_turns : List MapColumn
map_three_turns = (record { kind = Int 4 false; nullable = false; origin = from.Old 0 } ∷ record { kind = Int 4 false; nullable = false; origin = from.Added (Num (pos 7)) } ∷ [])

abbrev pub plan_three_turns : PlanData
plan_three_turns = record { table = codes "t"; alter = (clauses.Add (record { name = codes "b"; kind = Int 4 false; nullable = (Some false); default = (Some (Num (pos 7))); auto = false }) Unsaid ∷ []); tables = (record { schema = record { name = codes "t"; columns = (record { name = codes "id"; kind = Int 4 false; nullable = false; default = None; auto = false } ∷ []); uniques = (record { name = None; places = (0 ∷ []) } ∷ []); indexes = []; comment = []; start = None }; rows = [] } ∷ []); clients = []; operator = []; faults = []; turns = []; options = record { chunk_size = 1000; dml_batch_size = 10; default_retries = 60; max_backlog = 100; drain_limit = 2000; client_wait = 20000; tool_wait = 2000; max_load = 64; turn_limit = 3; notes = 0; note_every = 100; replica_step = 0; replica_pause = 1; max_lag = 10; resume = false; approve_renamed_columns = false; initially_drop_ghost_table = false; initially_drop_old_table = false; ok_to_drop_table = false; postpone = false; show_history = true; show_turns = true; show_tables = true; show_replies = true } }

abbrev pub journal_three_turns : List Entry
journal_three_turns =
    record { actor = Insp; session = 1; asked = Call requests.ShowTables; side = None; answer = answers.Tables (record { name = codes "t"; comment = [] } ∷ []); missed = None; draw = None }
    ∷ record { actor = Insp; session = 1; asked = Call (requests.Create (record { name = codes "_t_ghc"; columns = (record { name = codes "id"; kind = Int 8 false; nullable = false; default = None; auto = false } ∷ record { name = codes "hint"; kind = VarChar 64; nullable = false; default = None; auto = false } ∷ record { name = codes "value"; kind = VarChar 255; nullable = false; default = None; auto = false } ∷ []); uniques = (record { name = None; places = (0 ∷ []) } ∷ []); indexes = []; comment = []; start = None })); side = None; answer = answers.Ok 0; missed = None; draw = None }
    ∷ record { actor = Insp; session = 1; asked = Call (requests.Create (record { name = codes "_t_gho"; columns = (record { name = codes "id"; kind = Int 4 false; nullable = false; default = None; auto = false } ∷ record { name = codes "b"; kind = Int 4 false; nullable = false; default = (Some (Num (pos 7))); auto = false } ∷ []); uniques = (record { name = None; places = (0 ∷ []) } ∷ []); indexes = []; comment = []; start = None })); side = None; answer = answers.Ok 0; missed = None; draw = None }
    ∷ []

abbrev reported_three_turns : WorkedFacts
reported_three_turns =
    record {
      verdict = verdicts.Unfinished;
      ended = [];
      left = (record { schema = record { name = codes "t"; columns = (record { name = codes "id"; kind = Int 4 false; nullable = false; default = None; auto = false } ∷ []); uniques = (record { name = None; places = (0 ∷ []) } ∷ []); indexes = []; comment = []; start = None }; rows = [] } ∷ []);
      alone = [];
      over = replicate 3 false;
      bound = 216479593;
      replies = [];
    }

worked_three_turns : IsWorked plan_three_turns journal_three_turns reported_three_turns
unfolding computing
worked_three_turns = record { asks = refl; sessions = refl; answers = refl; sides = refl; struck = refl; verdict = refl; ended = refl; order = refl; left = refl; serial = refl; alone = refl; over = refl; online = refl; bounded = refl; replies = refl }

-- Two notes while rows are copied: a heartbeat and a checkpoint each, and the second checkpoint takes the place of the first.
abbrev map_notes : List MapColumn
map_notes = (record { kind = Int 4 false; nullable = false; origin = from.Old 0 } ∷ record { kind = Int 4 false; nullable = true; origin = from.Added Null } ∷ [])

abbrev pub plan_notes : PlanData
plan_notes = record { table = codes "t"; alter = (clauses.Add (record { name = codes "b"; kind = Int 4 false; nullable = None; default = None; auto = false }) Unsaid ∷ []); tables = (record { schema = record { name = codes "t"; columns = (record { name = codes "id"; kind = Int 4 false; nullable = false; default = None; auto = false } ∷ []); uniques = (record { name = None; places = (0 ∷ []) } ∷ []); indexes = []; comment = []; start = None }; rows = (((Num (pos 1)) ∷ []) ∷ ((Num (pos 2)) ∷ []) ∷ []) } ∷ []); clients = []; operator = []; faults = []; turns = []; options = record { chunk_size = 1; dml_batch_size = 10; default_retries = 60; max_backlog = 100; drain_limit = 2000; client_wait = 20000; tool_wait = 2000; max_load = 64; turn_limit = 200000; notes = 2; note_every = 2; replica_step = 0; replica_pause = 1; max_lag = 10; resume = false; approve_renamed_columns = false; initially_drop_ghost_table = false; initially_drop_old_table = false; ok_to_drop_table = false; postpone = false; show_history = false; show_turns = true; show_tables = true; show_replies = true } }

abbrev pub journal_notes : List Entry
journal_notes =
    record { actor = Insp; session = 1; asked = Call requests.ShowTables; side = None; answer = answers.Tables (record { name = codes "t"; comment = [] } ∷ []); missed = None; draw = None }
    ∷ record { actor = Insp; session = 1; asked = Call (requests.Create (record { name = codes "_t_ghc"; columns = (record { name = codes "id"; kind = Int 8 false; nullable = false; default = None; auto = false } ∷ record { name = codes "hint"; kind = VarChar 64; nullable = false; default = None; auto = false } ∷ record { name = codes "value"; kind = VarChar 255; nullable = false; default = None; auto = false } ∷ []); uniques = (record { name = None; places = (0 ∷ []) } ∷ []); indexes = []; comment = []; start = None })); side = None; answer = answers.Ok 0; missed = None; draw = None }
    ∷ record { actor = Insp; session = 1; asked = Call (requests.Create (record { name = codes "_t_gho"; columns = (record { name = codes "id"; kind = Int 4 false; nullable = false; default = None; auto = false } ∷ record { name = codes "b"; kind = Int 4 false; nullable = true; default = (Some Null); auto = false } ∷ []); uniques = (record { name = None; places = (0 ∷ []) } ∷ []); indexes = []; comment = []; start = None })); side = None; answer = answers.Ok 0; missed = None; draw = None }
    ∷ record { actor = Insp; session = 1; asked = Call requests.LogEnd; side = None; answer = answers.At 0; missed = None; draw = None }
    ∷ record { actor = Insp; session = 1; asked = Call (requests.Ends (codes "t")); side = None; answer = answers.Ends (Some (record { least = ((Num (pos 1)) ∷ []); greatest = ((Num (pos 2)) ∷ []) })); missed = None; draw = None }
    ∷ record { actor = Copy; session = 2; asked = Call (requests.ChunkEnd (codes "t") (Closed ((Num (pos 1)) ∷ [])) ((Num (pos 2)) ∷ []) 1); side = None; answer = answers.End ((Num (pos 1)) ∷ []); missed = None; draw = None }
    ∷ record { actor = Insp; session = 1; asked = Call (requests.Do (statements.Replace (codes "_t_ghc") None ((Num (pos 1000001)) ∷ (Text (codes "heartbeat")) ∷ (Text (codes "1")) ∷ []) None)); side = None; answer = answers.Ok 1; missed = None; draw = None }
    ∷ record { actor = Copy; session = 2; asked = Call (requests.BeginSpan (codes "t") (record { low = (Closed ((Num (pos 1)) ∷ [])); high = (Closed ((Num (pos 1)) ∷ [])) }) 1); side = None; answer = answers.Keys (((Num (pos 1)) ∷ []) ∷ []) ((Num (pos 1)) ∷ []); missed = None; draw = None }
    ∷ record { actor = Apply; session = 3; asked = Call (requests.ReadLog 0 10 (codes "t" ∷ codes "_t_ghc" ∷ [])); side = None; answer = answers.Events (record { table = codes "_t_ghc"; change = changes.Write ((Num (pos 1000001)) ∷ (Text (codes "heartbeat")) ∷ (Text (codes "1")) ∷ []) } ∷ []) 1; missed = None; draw = None }
    ∷ record { actor = Insp; session = 1; asked = Call (requests.Do (statements.Replace (codes "_t_ghc") None ((Num (pos 0)) ∷ (Text (codes "checkpoint")) ∷ (Text (codes "1 -")) ∷ []) None)); side = None; answer = answers.Ok 1; missed = None; draw = None }
    ∷ record { actor = Copy; session = 2; asked = Call (requests.CopyRow (codes "t") (codes "_t_gho") map_notes ((Num (pos 1)) ∷ [])); side = None; answer = answers.Ok 1; missed = None; draw = None }
    ∷ record { actor = Apply; session = 3; asked = Call (requests.ReadLog 1 10 (codes "t" ∷ codes "_t_ghc" ∷ [])); side = None; answer = answers.Events (record { table = codes "_t_ghc"; change = changes.Write ((Num (pos 0)) ∷ (Text (codes "checkpoint")) ∷ (Text (codes "1 -")) ∷ []) } ∷ []) 2; missed = None; draw = None }
    ∷ record { actor = Insp; session = 1; asked = Call (requests.Do (statements.Replace (codes "_t_ghc") None ((Num (pos 1000002)) ∷ (Text (codes "heartbeat")) ∷ (Text (codes "2")) ∷ []) None)); side = None; answer = answers.Ok 1; missed = None; draw = None }
    ∷ record { actor = Copy; session = 2; asked = Call requests.Commit; side = None; answer = answers.Ok 0; missed = None; draw = None }
    ∷ record { actor = Apply; session = 3; asked = Call (requests.ReadLog 2 10 (codes "t" ∷ codes "_t_ghc" ∷ [])); side = None; answer = answers.Events (record { table = codes "_t_ghc"; change = changes.Write ((Num (pos 1000002)) ∷ (Text (codes "heartbeat")) ∷ (Text (codes "2")) ∷ []) } ∷ []) 4; missed = None; draw = None }
    ∷ record { actor = Insp; session = 1; asked = Call (requests.Do (statements.Replace (codes "_t_ghc") None ((Num (pos 0)) ∷ (Text (codes "checkpoint")) ∷ (Text (codes "4 (1)")) ∷ []) None)); side = None; answer = answers.Ok 2; missed = None; draw = None }
    ∷ record { actor = Copy; session = 2; asked = Call (requests.ChunkEnd (codes "t") (Open ((Num (pos 1)) ∷ [])) ((Num (pos 2)) ∷ []) 1); side = None; answer = answers.End ((Num (pos 2)) ∷ []); missed = None; draw = None }
    ∷ record { actor = Apply; session = 3; asked = Call (requests.ReadLog 4 10 (codes "t" ∷ codes "_t_ghc" ∷ [])); side = None; answer = answers.Events (record { table = codes "_t_ghc"; change = changes.Delete ((Num (pos 0)) ∷ (Text (codes "checkpoint")) ∷ (Text (codes "1 -")) ∷ []) } ∷ record { table = codes "_t_ghc"; change = changes.Write ((Num (pos 0)) ∷ (Text (codes "checkpoint")) ∷ (Text (codes "4 (1)")) ∷ []) } ∷ []) 6; missed = None; draw = None }
    ∷ record { actor = Copy; session = 2; asked = Call (requests.BeginSpan (codes "t") (record { low = (Open ((Num (pos 1)) ∷ [])); high = (Closed ((Num (pos 2)) ∷ [])) }) 1); side = None; answer = answers.Keys (((Num (pos 2)) ∷ []) ∷ []) ((Num (pos 2)) ∷ []); missed = None; draw = None }
    ∷ record { actor = Copy; session = 2; asked = Call (requests.CopyRow (codes "t") (codes "_t_gho") map_notes ((Num (pos 2)) ∷ [])); side = None; answer = answers.Ok 1; missed = None; draw = None }
    ∷ record { actor = Copy; session = 2; asked = Call requests.Commit; side = None; answer = answers.Ok 0; missed = None; draw = None }
    ∷ record { actor = Lock; session = 4; asked = Call (requests.Create (record { name = codes "_t_del"; columns = (record { name = codes "id"; kind = Int 4 false; nullable = false; default = None; auto = false } ∷ []); uniques = (record { name = None; places = (0 ∷ []) } ∷ []); indexes = []; comment = codes "ghost-cut-over-sentry"; start = None })); side = None; answer = answers.Ok 0; missed = None; draw = None }
    ∷ record { actor = Lock; session = 4; asked = Call (requests.LockTables (codes "t" ∷ codes "_t_del" ∷ [])); side = None; answer = answers.Ok 0; missed = None; draw = None }
    ∷ record { actor = Insp; session = 1; asked = Call (requests.Do (statements.Insert (codes "_t_ghc") None ((Num (pos 1)) ∷ (Text (codes "cut-over")) ∷ (Text (codes "1")) ∷ []) None)); side = None; answer = answers.Ok 1; missed = None; draw = None }
    ∷ record { actor = Apply; session = 3; asked = Call (requests.ReadLog 6 10 (codes "t" ∷ codes "_t_ghc" ∷ [])); side = None; answer = answers.Events (record { table = codes "_t_ghc"; change = changes.Write ((Num (pos 1)) ∷ (Text (codes "cut-over")) ∷ (Text (codes "1")) ∷ []) } ∷ []) 8; missed = None; draw = None }
    ∷ record { actor = Ren; session = 5; asked = Call (requests.Rename (record { old = codes "t"; new = codes "_t_del" } ∷ record { old = codes "_t_gho"; new = codes "t" } ∷ [])); side = None; answer = answers.Waits 4; missed = None; draw = None }
    ∷ record { actor = Insp; session = 1; asked = Call requests.ShowWaiting; side = None; answer = answers.Waiting (record { session = 5; names = (codes "t" ∷ codes "_t_del" ∷ codes "_t_gho" ∷ []); by = 4 } ∷ []); missed = None; draw = None }
    ∷ record { actor = Lock; session = 4; asked = Call (requests.Drop (codes "_t_del")); side = None; answer = answers.Ok 0; missed = None; draw = None }
    ∷ record { actor = Ren; session = 5; asked = Poll; side = None; answer = answers.Waits 4; missed = None; draw = None }
    ∷ record { actor = Lock; session = 4; asked = Call requests.Unlock; side = None; answer = answers.Ok 0; missed = None; draw = None }
    ∷ record { actor = Ren; session = 5; asked = Poll; side = None; answer = answers.Ok 0; missed = None; draw = None }
    ∷ record { actor = Insp; session = 1; asked = Call requests.ShowTables; side = None; answer = answers.Tables (record { name = codes "_t_del"; comment = [] } ∷ record { name = codes "_t_ghc"; comment = [] } ∷ record { name = codes "t"; comment = [] } ∷ []); missed = None; draw = None }
    ∷ record { actor = Insp; session = 1; asked = Call (requests.Drop (codes "_t_ghc")); side = None; answer = answers.Ok 0; missed = None; draw = None }
    ∷ []

abbrev reported_notes : WorkedFacts
reported_notes =
    record {
      verdict = verdicts.Done;
      ended = (None ∷ []);
      left = (record { schema = record { name = codes "t"; columns = (record { name = codes "id"; kind = Int 4 false; nullable = false; default = None; auto = false } ∷ record { name = codes "b"; kind = Int 4 false; nullable = true; default = (Some Null); auto = false } ∷ []); uniques = (record { name = None; places = (0 ∷ []) } ∷ []); indexes = []; comment = []; start = None }; rows = (((Num (pos 1)) ∷ Null ∷ []) ∷ ((Num (pos 2)) ∷ Null ∷ []) ∷ []) } ∷ []);
      alone = ([] ∷ []);
      over = replicate 32 false ++ replicate 1 true;
      bound = 246256157;
      replies = [];
    }

worked_notes : IsWorked plan_notes journal_notes reported_notes
unfolding computing
worked_notes = record { asks = refl; sessions = refl; answers = refl; sides = refl; struck = refl; verdict = refl; ended = refl; order = refl; left = refl; serial = refl; alone = refl; over = refl; online = refl; bounded = refl; replies = refl }
