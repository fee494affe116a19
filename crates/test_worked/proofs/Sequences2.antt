-- Random sequences of requests to the server; the answers are those of an independent model.
use Rattle.std.proofs.Common.{pos, true, false, List, [], ◌∷◌, Some, None, refl}
use Rattle.std.specs.Prelude.{codes}
use Rattle.base_values.specs.declared.value.Value.TheVariants.{Null, Num, Text, Blob}
use Rattle.base_values.specs.declared.kind.Kind.TheVariants.{Int, VarChar, VarBinary}
use Rattle.base_values.specs.declared.span.Bound.TheVariants.{Free, Open, Closed}
use Rattle.base_values.specs.declared.row_conversion.map.Origin.TheVariants as from
use Rattle.base_values.specs.declared.event.Change.TheVariants as changes
use Rattle.base_script.specs.declared.actor.Actor.TheVariants.{Insp, Client}
use Rattle.base_script.specs.declared.actor.Side.TheVariants as sides_at
use Rattle.base_script.specs.declared.statement.Statement.TheVariants as statements
use Rattle.base_script.specs.declared.statement.Condition.TheVariants as conditions
use Rattle.base_script.specs.declared.statement.Shown.TheVariants as shown
use Rattle.base_script.specs.declared.statement.Sign.TheVariants as signs
use Rattle.table_store.specs.Databases.{Database}
use Rattle.server_model.specs.declared.request.Request.TheVariants as requests
use Rattle.server_model.specs.declared.answer.Answer.TheVariants as answers
use Rattle.server_model.specs.declared.entry.Entry.{Entry}
use Rattle.server_model.specs.declared.entry.Asked.TheVariants.{Call, Poll, Cut}
use Rattle.test_worked.proofs.Computing.{computing, IsServed}

-- Sequence 15
abbrev tables_15 : Database
tables_15 = (record { schema = record { name = codes "t"; columns = (record { name = codes "id"; kind = Int 4 false; nullable = false; default = None; auto = false } ∷ record { name = codes "m0"; kind = Int 4 false; nullable = true; default = (Some Null); auto = false } ∷ record { name = codes "m1"; kind = Int 4 false; nullable = false; default = None; auto = false } ∷ []); uniques = (record { name = None; places = (0 ∷ []) } ∷ record { name = (Some (codes "u0")); places = (1 ∷ []) } ∷ record { name = (Some (codes "u1")); places = (2 ∷ []) } ∷ []); indexes = []; comment = []; start = None }; rows = [] } ∷ record { schema = record { name = codes "u"; columns = (record { name = codes "id"; kind = Int 4 false; nullable = false; default = None; auto = false } ∷ record { name = codes "m0"; kind = VarChar 3; nullable = true; default = (Some Null); auto = false } ∷ record { name = codes "v"; kind = Int 2 false; nullable = true; default = (Some Null); auto = false } ∷ []); uniques = (record { name = None; places = (0 ∷ []) } ∷ record { name = (Some (codes "u0")); places = (1 ∷ []) } ∷ []); indexes = []; comment = []; start = None }; rows = (((Num (pos 3)) ∷ (Text (codes "g")) ∷ (Num (pos 1)) ∷ []) ∷ ((Num (pos 4)) ∷ (Text (codes "e")) ∷ (Num (pos 3)) ∷ []) ∷ ((Num (pos 6)) ∷ Null ∷ Null ∷ []) ∷ []) } ∷ record { schema = record { name = codes "w"; columns = (record { name = codes "id"; kind = VarBinary 3; nullable = false; default = None; auto = false } ∷ record { name = codes "m0"; kind = Int 4 false; nullable = true; default = (Some Null); auto = false } ∷ record { name = codes "v"; kind = VarChar 6; nullable = false; default = (Some (Text (codes "5"))); auto = false } ∷ []); uniques = (record { name = None; places = (0 ∷ []) } ∷ record { name = (Some (codes "u0")); places = (1 ∷ []) } ∷ []); indexes = []; comment = []; start = None }; rows = (((Blob (7 ∷ [])) ∷ Null ∷ (Text (codes "d")) ∷ []) ∷ ((Blob (52 ∷ [])) ∷ (Num (pos 3)) ∷ (Text (codes "abcdef")) ∷ []) ∷ []) } ∷ [])

abbrev asked_15 : List Entry
asked_15 =
    record { actor = (Client 1); session = 1; asked = Call (requests.Do (statements.Select (codes "t") shown.All (conditions.Equal (record { column = codes "id"; value = (Num (pos 7)) } ∷ [])))); side = None; answer = answers.Rows []; missed = None; draw = None }
    ∷ record { actor = (Client 2); session = 2; asked = Call (requests.Ends (codes "t")); side = None; answer = answers.Ends None; missed = None; draw = None }
    ∷ record { actor = (Client 2); session = 2; asked = Call (requests.Rename (record { old = codes "x"; new = codes "x" } ∷ record { old = codes "t"; new = codes "x" } ∷ record { old = codes "y"; new = codes "w" } ∷ [])); side = None; answer = answers.Refused 1146 None; missed = None; draw = None }
    ∷ record { actor = (Client 2); session = 2; asked = Call (requests.LockTables (codes "t" ∷ codes "u" ∷ codes "y" ∷ [])); side = None; answer = answers.Refused 1146 None; missed = None; draw = None }
    ∷ record { actor = (Client 1); session = 1; asked = Call (requests.Drop (codes "t")); side = None; answer = answers.Ok 0; missed = None; draw = None }
    ∷ record { actor = (Client 2); session = 2; asked = Call (requests.Create (record { name = codes "w"; columns = (record { name = codes "id"; kind = Int 4 false; nullable = false; default = None; auto = false } ∷ record { name = codes "m0"; kind = VarChar 3; nullable = true; default = (Some Null); auto = false } ∷ record { name = codes "v"; kind = Int 2 false; nullable = true; default = (Some Null); auto = false } ∷ []); uniques = (record { name = None; places = (0 ∷ []) } ∷ record { name = (Some (codes "u0")); places = (1 ∷ []) } ∷ []); indexes = []; comment = codes "z"; start = None })); side = (Some sides_at.Before); answer = answers.Lost; missed = None; draw = None }
    ∷ record { actor = (Client 1); session = 1; asked = Call (requests.ChunkEnd (codes "w") Free ((Blob (55 ∷ [])) ∷ []) 2); side = None; answer = answers.End ((Blob (52 ∷ [])) ∷ []); missed = None; draw = None }
    ∷ record { actor = (Client 1); session = 1; asked = Call requests.ShowTables; side = None; answer = answers.Tables (record { name = codes "u"; comment = [] } ∷ record { name = codes "w"; comment = [] } ∷ []); missed = None; draw = None }
    ∷ record { actor = (Client 1); session = 1; asked = Call (requests.Do (statements.Select (codes "u") (shown.Columns (codes "id" ∷ [])) (conditions.Equal (record { column = codes "id"; value = (Num (pos 3)) } ∷ [])))); side = None; answer = answers.Rows (((Num (pos 3)) ∷ []) ∷ []); missed = None; draw = None }
    ∷ record { actor = (Client 1); session = 1; asked = Call (requests.Drop (codes "t")); side = None; answer = answers.Refused 1051 None; missed = None; draw = None }
    ∷ record { actor = (Client 1); session = 1; asked = Call (requests.Create (record { name = codes "w"; columns = (record { name = codes "id"; kind = Int 4 false; nullable = false; default = None; auto = false } ∷ record { name = codes "m0"; kind = VarChar 3; nullable = true; default = (Some Null); auto = false } ∷ record { name = codes "v"; kind = Int 2 false; nullable = true; default = (Some Null); auto = false } ∷ []); uniques = (record { name = None; places = (0 ∷ []) } ∷ record { name = (Some (codes "u0")); places = (1 ∷ []) } ∷ []); indexes = []; comment = codes "z"; start = None })); side = None; answer = answers.Refused 1050 None; missed = None; draw = None }
    ∷ record { actor = (Client 1); session = 1; asked = Call (requests.LockTables (codes "t" ∷ codes "w" ∷ [])); side = (Some sides_at.After); answer = answers.Lost; missed = (Some (answers.Refused 1146 None)); draw = None }
    ∷ record { actor = Insp; session = 3; asked = Call requests.ShowTables; side = None; answer = answers.Tables (record { name = codes "u"; comment = [] } ∷ record { name = codes "w"; comment = [] } ∷ []); missed = None; draw = None }
    ∷ record { actor = Insp; session = 3; asked = Call (requests.Do (statements.Update (codes "u") (record { column = codes "v"; value = (Num (pos 6)) } ∷ []) (conditions.Equal (record { column = codes "m0"; value = (Text (codes "e")) } ∷ [])))); side = None; answer = answers.Ok 1; missed = None; draw = None }
    ∷ record { actor = Insp; session = 3; asked = Call (requests.ReadLog 4 2 (codes "w" ∷ [])); side = None; answer = answers.Events [] 1; missed = None; draw = None }
    ∷ record { actor = Insp; session = 3; asked = Call (requests.Rename (record { old = codes "w"; new = codes "u" } ∷ record { old = codes "w"; new = codes "t" } ∷ record { old = codes "w"; new = codes "w" } ∷ [])); side = None; answer = answers.Refused 1050 None; missed = None; draw = None }
    ∷ record { actor = Insp; session = 3; asked = Call (requests.Do (statements.Update (codes "t") (record { column = codes "m1"; value = (Num (pos 7)) } ∷ []) (conditions.Equal (record { column = codes "id"; value = (Num (pos 2)) } ∷ [])))); side = None; answer = answers.Refused 1146 None; missed = None; draw = None }
    ∷ record { actor = Insp; session = 3; asked = Call (requests.LockTables (codes "w" ∷ codes "x" ∷ [])); side = None; answer = answers.Refused 1146 None; missed = None; draw = None }
    ∷ record { actor = Insp; session = 3; asked = Call (requests.Create (record { name = codes "w"; columns = (record { name = codes "id"; kind = VarBinary 3; nullable = false; default = None; auto = false } ∷ record { name = codes "m0"; kind = Int 4 false; nullable = true; default = (Some Null); auto = false } ∷ record { name = codes "v"; kind = VarChar 6; nullable = false; default = (Some (Text (codes "5"))); auto = false } ∷ []); uniques = (record { name = None; places = (0 ∷ []) } ∷ record { name = (Some (codes "u0")); places = (1 ∷ []) } ∷ []); indexes = []; comment = codes "z"; start = None })); side = None; answer = answers.Refused 1050 None; missed = None; draw = None }
    ∷ record { actor = Insp; session = 3; asked = Call (requests.ReadLog 2 1 (codes "x" ∷ [])); side = (Some sides_at.Before); answer = answers.Lost; missed = None; draw = None }
    ∷ record { actor = Insp; session = 4; asked = Call (requests.Do (statements.Insert (codes "u") (Some (codes "id" ∷ codes "m0" ∷ codes "v" ∷ [])) ((Num (pos 2)) ∷ Null ∷ (Num (pos 2)) ∷ []) None)); side = None; answer = answers.Ok 1; missed = None; draw = None }
    ∷ record { actor = Insp; session = 4; asked = Call (requests.BeginSpan (codes "t") (record { low = (Open ((Num (pos 1)) ∷ [])); high = (Closed ((Num (pos 1)) ∷ [])) }) 2); side = None; answer = answers.Refused 1146 None; missed = None; draw = None }
    ∷ record { actor = Insp; session = 4; asked = Call requests.Begin; side = None; answer = answers.Ok 0; missed = None; draw = None }
    ∷ record { actor = Insp; session = 4; asked = Call (requests.Create (record { name = codes "u"; columns = (record { name = codes "id"; kind = Int 4 false; nullable = false; default = None; auto = false } ∷ record { name = codes "m0"; kind = Int 4 false; nullable = true; default = (Some Null); auto = false } ∷ record { name = codes "m1"; kind = Int 4 false; nullable = false; default = None; auto = false } ∷ []); uniques = (record { name = None; places = (0 ∷ []) } ∷ record { name = (Some (codes "u0")); places = (1 ∷ []) } ∷ record { name = (Some (codes "u1")); places = (2 ∷ []) } ∷ []); indexes = []; comment = codes "z"; start = None })); side = None; answer = answers.Refused 1050 None; missed = None; draw = None }
    ∷ record { actor = Insp; session = 4; asked = Call (requests.Do (statements.Update (codes "u") (record { column = codes "m0"; value = (Text (codes "e")) } ∷ record { column = codes "v"; value = Null } ∷ []) (conditions.Equal (record { column = codes "m0"; value = (Text (codes "d")) } ∷ [])))); side = None; answer = answers.Ok 0; missed = None; draw = None }
    ∷ record { actor = Insp; session = 4; asked = Call (requests.CopyRow (codes "w") (codes "w") (record { kind = VarBinary 3; nullable = false; origin = from.Old 1 } ∷ record { kind = Int 4 false; nullable = true; origin = from.Old 1 } ∷ record { kind = VarChar 6; nullable = false; origin = from.Old 1 } ∷ []) ((Blob (52 ∷ [])) ∷ [])); side = (Some sides_at.After); answer = answers.Lost; missed = (Some (answers.Ok 0)); draw = None }
    ∷ record { actor = (Client 5); session = 5; asked = Call (requests.ReadLog 2 5 (codes "y" ∷ codes "t" ∷ [])); side = None; answer = answers.Events [] 2; missed = None; draw = None }
    ∷ record { actor = (Client 5); session = 5; asked = Call requests.Begin; side = None; answer = answers.Ok 0; missed = None; draw = None }
    ∷ record { actor = Insp; session = 6; asked = Call (requests.Ends (codes "t")); side = None; answer = answers.Refused 1146 None; missed = None; draw = None }
    ∷ record { actor = (Client 5); session = 5; asked = Call (requests.CopyRow (codes "u") (codes "w") (record { kind = VarBinary 3; nullable = false; origin = from.Old 2 } ∷ record { kind = Int 4 false; nullable = true; origin = from.Old 0 } ∷ record { kind = VarChar 6; nullable = false; origin = from.Old 2 } ∷ []) ((Num (pos 3)) ∷ [])); side = None; answer = answers.Ok 0; missed = None; draw = None }
    ∷ record { actor = (Client 5); session = 5; asked = Call requests.ShowWaiting; side = None; answer = answers.Waiting []; missed = None; draw = None }
    ∷ record { actor = Insp; session = 6; asked = Call requests.ShowTables; side = None; answer = answers.Tables (record { name = codes "u"; comment = [] } ∷ record { name = codes "w"; comment = [] } ∷ []); missed = None; draw = None }
    ∷ record { actor = Insp; session = 6; asked = Call requests.LogEnd; side = None; answer = answers.At 2; missed = None; draw = None }
    ∷ record { actor = Insp; session = 6; asked = Call (requests.Do (statements.Select (codes "w") shown.All (conditions.Equal (record { column = codes "m0"; value = (Num (pos 2)) } ∷ [])))); side = None; answer = answers.Rows []; missed = None; draw = None }
    ∷ record { actor = (Client 5); session = 5; asked = Call requests.Rollback; side = None; answer = answers.Ok 0; missed = None; draw = None }
    ∷ record { actor = Insp; session = 6; asked = Call (requests.Drop (codes "u")); side = None; answer = answers.Ok 0; missed = None; draw = None }
    ∷ record { actor = Insp; session = 6; asked = Call (requests.Do (statements.Insert (codes "w") None ((Blob (1 ∷ [])) ∷ (Num (pos 4)) ∷ (Text (codes "g")) ∷ []) None)); side = None; answer = answers.Ok 1; missed = None; draw = None }
    ∷ record { actor = Insp; session = 6; asked = Call (requests.BeginSpan (codes "t") (record { low = Free; high = (Closed ((Num (pos 1)) ∷ [])) }) 1); side = None; answer = answers.Refused 1146 None; missed = None; draw = None }
    ∷ record { actor = Insp; session = 6; asked = Call (requests.ChunkEnd (codes "w") (Closed ((Blob (52 ∷ [])) ∷ [])) ((Blob (52 ∷ [])) ∷ []) 1); side = None; answer = answers.End ((Blob (52 ∷ [])) ∷ []); missed = None; draw = None }
    ∷ record { actor = Insp; session = 6; asked = Call requests.Begin; side = None; answer = answers.Ok 0; missed = None; draw = None }
    ∷ record { actor = (Client 5); session = 5; asked = Call (requests.Do (statements.Delete (codes "t") (conditions.Equal (record { column = codes "id"; value = (Num (pos 5)) } ∷ [])))); side = None; answer = answers.Refused 1146 None; missed = None; draw = None }
    ∷ record { actor = Insp; session = 6; asked = Call (requests.Do (statements.Replace (codes "t") (Some (codes "id" ∷ codes "m0" ∷ codes "m1" ∷ [])) ((Num (pos 7)) ∷ (Num (pos 3)) ∷ (Num (pos 6)) ∷ []) None)); side = None; answer = answers.Refused 1146 None; missed = None; draw = None }
    ∷ record { actor = Insp; session = 6; asked = Call requests.Rollback; side = None; answer = answers.Ok 0; missed = None; draw = None }
    ∷ []

served_15 : IsServed (record { client_wait = 1; tool_wait = 1 }) tables_15 asked_15
unfolding computing
served_15 = record { answers = refl; sides = refl }

-- Sequence 16
abbrev tables_16 : Database
tables_16 = (record { schema = record { name = codes "t"; columns = (record { name = codes "id"; kind = Int 8 false; nullable = false; default = None; auto = false } ∷ record { name = codes "m0"; kind = VarChar 3; nullable = true; default = (Some Null); auto = false } ∷ record { name = codes "v"; kind = VarChar 6; nullable = true; default = (Some (Text (codes "5"))); auto = false } ∷ []); uniques = (record { name = None; places = (0 ∷ []) } ∷ record { name = (Some (codes "u0")); places = (1 ∷ []) } ∷ []); indexes = []; comment = []; start = None }; rows = (((Num (pos 3)) ∷ (Text (codes "f")) ∷ (Text (codes "1")) ∷ []) ∷ []) } ∷ record { schema = record { name = codes "u"; columns = (record { name = codes "id"; kind = Int 4 false; nullable = false; default = None; auto = false } ∷ record { name = codes "m0"; kind = Int 4 false; nullable = false; default = None; auto = false } ∷ []); uniques = (record { name = (Some (codes "k")); places = (0 ∷ []) } ∷ record { name = (Some (codes "u0")); places = (1 ∷ []) } ∷ []); indexes = []; comment = codes "ghost-cut-over-sentry"; start = None }; rows = [] } ∷ record { schema = record { name = codes "w"; columns = (record { name = codes "m0"; kind = Int 4 false; nullable = false; default = None; auto = false } ∷ record { name = codes "v"; kind = VarChar 6; nullable = true; default = (Some Null); auto = false } ∷ record { name = codes "id"; kind = Int 4 false; nullable = false; default = None; auto = false } ∷ []); uniques = (record { name = (Some (codes "k")); places = (2 ∷ []) } ∷ record { name = (Some (codes "u0")); places = (2 ∷ 0 ∷ []) } ∷ []); indexes = []; comment = []; start = None }; rows = (((Num (pos 2)) ∷ (Text (codes "d")) ∷ (Num (pos 1)) ∷ []) ∷ ((Num (pos 1)) ∷ Null ∷ (Num (pos 2)) ∷ []) ∷ ((Num (pos 7)) ∷ Null ∷ (Num (pos 3)) ∷ []) ∷ ((Num (pos 1)) ∷ (Text (codes "e")) ∷ (Num (pos 6)) ∷ []) ∷ []) } ∷ [])

abbrev asked_16 : List Entry
asked_16 =
    record { actor = (Client 1); session = 1; asked = Cut; side = None; answer = answers.Lost; missed = None; draw = None }
    ∷ record { actor = (Client 2); session = 2; asked = Call (requests.Do (statements.Replace (codes "w") (Some (codes "m0" ∷ codes "v" ∷ codes "id" ∷ [])) ((Num (pos 1)) ∷ Null ∷ (Num (pos 3)) ∷ []) None)); side = None; answer = answers.Ok 2; missed = None; draw = None }
    ∷ record { actor = (Client 2); session = 2; asked = Call (requests.Do (statements.Delete (codes "t") (conditions.Range (record { column = codes "id"; sign = signs.AtMost; value = (Num (pos 4)) } ∷ [])))); side = (Some sides_at.Before); answer = answers.Lost; missed = None; draw = None }
    ∷ record { actor = (Client 3); session = 3; asked = Call (requests.ChunkEnd (codes "u") (Open ((Num (pos 7)) ∷ [])) ((Num (pos 4)) ∷ []) 2); side = None; answer = answers.End ((Num (pos 4)) ∷ []); missed = None; draw = None }
    ∷ record { actor = (Client 3); session = 3; asked = Call (requests.ChunkEnd (codes "u") Free ((Num (pos 5)) ∷ []) 2); side = None; answer = answers.End ((Num (pos 5)) ∷ []); missed = None; draw = None }
    ∷ record { actor = (Client 3); session = 3; asked = Call (requests.ReadLog 1 5 (codes "t" ∷ codes "x" ∷ [])); side = None; answer = answers.Events [] 2; missed = None; draw = None }
    ∷ record { actor = (Client 3); session = 3; asked = Cut; side = None; answer = answers.Lost; missed = None; draw = None }
    ∷ record { actor = (Client 4); session = 4; asked = Call (requests.BeginSpan (codes "w") (record { low = (Open ((Num (pos 2)) ∷ [])); high = (Closed ((Num (pos 1)) ∷ [])) }) 3); side = None; answer = answers.Keys [] ((Num (pos 1)) ∷ []); missed = None; draw = None }
    ∷ record { actor = (Client 4); session = 4; asked = Call (requests.Do (statements.Delete (codes "t") (conditions.Range (record { column = codes "id"; sign = signs.AtLeast; value = (Num (pos 4)) } ∷ [])))); side = None; answer = answers.Ok 0; missed = None; draw = None }
    ∷ record { actor = (Client 4); session = 4; asked = Call (requests.Do (statements.Update (codes "t") (record { column = codes "id"; value = (Num (pos 3)) } ∷ record { column = codes "m0"; value = (Text (codes "b")) } ∷ record { column = codes "v"; value = (Num (pos 6)) } ∷ []) (conditions.Equal (record { column = codes "id"; value = (Num (pos 4)) } ∷ [])))); side = None; answer = answers.Ok 0; missed = None; draw = None }
    ∷ record { actor = (Client 4); session = 4; asked = Call (requests.Do (statements.Delete (codes "t") (conditions.Equal (record { column = codes "id"; value = (Num (pos 3)) } ∷ [])))); side = None; answer = answers.Ok 1; missed = None; draw = None }
    ∷ record { actor = (Client 7); session = 7; asked = Call (requests.Do (statements.Update (codes "t") (record { column = codes "id"; value = (Num (pos 2)) } ∷ record { column = codes "m0"; value = (Text (codes "f")) } ∷ record { column = codes "v"; value = (Text (codes "b")) } ∷ []) (conditions.Equal (record { column = codes "m0"; value = (Text (codes "7")) } ∷ [])))); side = None; answer = answers.Ok 0; missed = None; draw = None }
    ∷ record { actor = Insp; session = 6; asked = Call (requests.Rename (record { old = codes "x"; new = codes "t" } ∷ [])); side = None; answer = answers.Waits 4; missed = None; draw = None }
    ∷ record { actor = Insp; session = 6; asked = Poll; side = None; answer = answers.Waits 4; missed = None; draw = None }
    ∷ record { actor = (Client 7); session = 7; asked = Call requests.ShowTables; side = None; answer = answers.Tables (record { name = codes "t"; comment = [] } ∷ record { name = codes "u"; comment = codes "ghost-cut-over-sentry" } ∷ record { name = codes "w"; comment = [] } ∷ []); missed = None; draw = None }
    ∷ record { actor = (Client 7); session = 7; asked = Call (requests.Do (statements.Update (codes "w") (record { column = codes "m0"; value = (Num (pos 1)) } ∷ []) (conditions.Equal (record { column = codes "id"; value = (Text (codes "6")) } ∷ [])))); side = None; answer = answers.Ok 0; missed = None; draw = None }
    ∷ record { actor = Insp; session = 5; asked = Call (requests.Do (statements.Insert (codes "u") None ((Num (pos 6)) ∷ (Num (pos 2)) ∷ []) None)); side = None; answer = answers.Ok 1; missed = None; draw = None }
    ∷ record { actor = Insp; session = 6; asked = Poll; side = None; answer = answers.TimedOut 2; missed = None; draw = None }
    ∷ record { actor = (Client 4); session = 4; asked = Call (requests.ChunkEnd (codes "t") (Closed ((Num (pos 3)) ∷ [])) ((Num (pos 3)) ∷ []) 3); side = None; answer = answers.End ((Num (pos 3)) ∷ []); missed = None; draw = None }
    ∷ record { actor = (Client 4); session = 4; asked = Call (requests.ReadLog 3 5 (codes "y" ∷ [])); side = None; answer = answers.Events [] 3; missed = None; draw = None }
    ∷ record { actor = Insp; session = 6; asked = Call (requests.Do (statements.Insert (codes "u") (Some (codes "id" ∷ codes "m0" ∷ [])) ((Num (pos 6)) ∷ (Num (pos 2)) ∷ []) None)); side = None; answer = answers.Refused 1062 None; missed = None; draw = None }
    ∷ record { actor = Insp; session = 5; asked = Call (requests.Do (statements.Delete (codes "t") (conditions.Range (record { column = codes "id"; sign = signs.More; value = (Num (pos 4)) } ∷ record { column = codes "id"; sign = signs.More; value = (Num (pos 3)) } ∷ [])))); side = None; answer = answers.Waits 4; missed = None; draw = None }
    ∷ record { actor = (Client 7); session = 7; asked = Call (requests.Do (statements.Delete (codes "t") (conditions.Range (record { column = codes "id"; sign = signs.AtLeast; value = (Num (pos 4)) } ∷ record { column = codes "id"; sign = signs.AtMost; value = (Num (pos 2)) } ∷ [])))); side = None; answer = answers.Ok 0; missed = None; draw = None }
    ∷ record { actor = (Client 4); session = 4; asked = Call (requests.CopyRow (codes "u") (codes "t") (record { kind = Int 8 false; nullable = false; origin = from.Old 1 } ∷ record { kind = VarChar 3; nullable = true; origin = from.Old 0 } ∷ record { kind = VarChar 6; nullable = true; origin = from.Old 1 } ∷ []) ((Num (pos 6)) ∷ [])); side = None; answer = answers.Ok 1; missed = None; draw = None }
    ∷ record { actor = Insp; session = 5; asked = Poll; side = None; answer = answers.Waits 4; missed = None; draw = None }
    ∷ record { actor = (Client 4); session = 4; asked = Call requests.LogEnd; side = None; answer = answers.At 3; missed = None; draw = None }
    ∷ record { actor = (Client 4); session = 4; asked = Call (requests.Do (statements.Select (codes "w") (shown.Columns (codes "m0" ∷ [])) (conditions.Equal (record { column = codes "id"; value = (Num (pos 3)) } ∷ [])))); side = None; answer = answers.Rows (((Num (pos 1)) ∷ []) ∷ []); missed = None; draw = None }
    ∷ record { actor = Insp; session = 5; asked = Poll; side = None; answer = answers.TimedOut 2; missed = None; draw = None }
    ∷ record { actor = (Client 7); session = 7; asked = Call (requests.Do (statements.Replace (codes "w") None ((Num (pos 1)) ∷ (Num (pos 6)) ∷ (Num (pos 2)) ∷ []) None)); side = None; answer = answers.Ok 2; missed = None; draw = None }
    ∷ record { actor = Insp; session = 5; asked = Call requests.ShowWaiting; side = None; answer = answers.Waiting []; missed = None; draw = None }
    ∷ record { actor = (Client 4); session = 4; asked = Call requests.ShowTables; side = None; answer = answers.Tables (record { name = codes "t"; comment = [] } ∷ record { name = codes "u"; comment = codes "ghost-cut-over-sentry" } ∷ record { name = codes "w"; comment = [] } ∷ []); missed = None; draw = None }
    ∷ record { actor = (Client 7); session = 7; asked = Call requests.LogEnd; side = None; answer = answers.At 5; missed = None; draw = None }
    ∷ record { actor = (Client 7); session = 7; asked = Cut; side = None; answer = answers.Lost; missed = None; draw = None }
    ∷ record { actor = (Client 4); session = 4; asked = Call requests.ShowTables; side = None; answer = answers.Tables (record { name = codes "t"; comment = [] } ∷ record { name = codes "u"; comment = codes "ghost-cut-over-sentry" } ∷ record { name = codes "w"; comment = [] } ∷ []); missed = None; draw = None }
    ∷ record { actor = Insp; session = 5; asked = Call requests.Begin; side = None; answer = answers.Ok 0; missed = None; draw = None }
    ∷ record { actor = Insp; session = 5; asked = Call (requests.Do (statements.Select (codes "t") (shown.Columns (codes "id" ∷ [])) (conditions.Equal (record { column = codes "m0"; value = (Num (pos 1)) } ∷ [])))); side = (Some sides_at.After); answer = answers.Lost; missed = (Some (answers.Rows [])); draw = None }
    ∷ record { actor = Insp; session = 6; asked = Call (requests.Do (statements.Insert (codes "t") (Some (codes "id" ∷ codes "m0" ∷ codes "v" ∷ [])) ((Num (pos 3)) ∷ (Num (pos 6)) ∷ Null ∷ []) None)); side = None; answer = answers.Waits 4; missed = None; draw = None }
    ∷ record { actor = (Client 8); session = 8; asked = Call (requests.BeginSpan (codes "w") (record { low = Free; high = (Closed ((Num (pos 1)) ∷ [])) }) 3); side = None; answer = answers.Keys (((Num (pos 1)) ∷ []) ∷ []) ((Num (pos 1)) ∷ []); missed = None; draw = None }
    ∷ record { actor = Insp; session = 6; asked = Poll; side = None; answer = answers.Waits 4; missed = None; draw = None }
    ∷ record { actor = Insp; session = 6; asked = Poll; side = None; answer = answers.TimedOut 2; missed = None; draw = None }
    ∷ record { actor = (Client 8); session = 8; asked = Call (requests.Do (statements.Replace (codes "u") (Some (codes "id" ∷ codes "m0" ∷ [])) ((Num (pos 7)) ∷ (Num (pos 4)) ∷ []) None)); side = None; answer = answers.Ok 1; missed = None; draw = None }
    ∷ record { actor = Insp; session = 6; asked = Call (requests.ReadLog 2 2 (codes "y" ∷ codes "x" ∷ [])); side = None; answer = answers.Events [] 5; missed = None; draw = None }
    ∷ []

served_16 : IsServed (record { client_wait = 2; tool_wait = 2 }) tables_16 asked_16
unfolding computing
served_16 = record { answers = refl; sides = refl }

-- Sequence 17
abbrev tables_17 : Database
tables_17 = (record { schema = record { name = codes "t"; columns = (record { name = codes "id"; kind = Int 4 false; nullable = false; default = None; auto = false } ∷ record { name = codes "m0"; kind = VarChar 3; nullable = false; default = None; auto = false } ∷ record { name = codes "v"; kind = Int 4 false; nullable = false; default = (Some (Num (pos 5))); auto = false } ∷ []); uniques = (record { name = (Some (codes "k")); places = (0 ∷ []) } ∷ record { name = (Some (codes "u0")); places = (1 ∷ []) } ∷ []); indexes = []; comment = []; start = None }; rows = (((Num (pos 3)) ∷ (Text (codes "f")) ∷ (Num (pos 2)) ∷ []) ∷ ((Num (pos 4)) ∷ (Text (codes "g")) ∷ (Num (pos 2)) ∷ []) ∷ []) } ∷ record { schema = record { name = codes "u"; columns = (record { name = codes "m0"; kind = Int 4 false; nullable = false; default = (Some (Num (pos 1))); auto = false } ∷ record { name = codes "v"; kind = VarChar 6; nullable = true; default = (Some Null); auto = false } ∷ record { name = codes "id"; kind = Int 1 false; nullable = false; default = None; auto = false } ∷ []); uniques = (record { name = None; places = (2 ∷ []) } ∷ record { name = (Some (codes "u0")); places = (0 ∷ []) } ∷ []); indexes = []; comment = []; start = None }; rows = [] } ∷ record { schema = record { name = codes "w"; columns = (record { name = codes "id"; kind = Int 4 false; nullable = false; default = None; auto = false } ∷ record { name = codes "m0"; kind = Int 1 false; nullable = true; default = (Some Null); auto = false } ∷ record { name = codes "v"; kind = Int 2 false; nullable = false; default = None; auto = false } ∷ []); uniques = (record { name = None; places = (0 ∷ []) } ∷ record { name = (Some (codes "u0")); places = (1 ∷ []) } ∷ []); indexes = (record { name = (Some (codes "v")); places = (2 ∷ []) } ∷ []); comment = []; start = None }; rows = (((Num (pos 4)) ∷ (Num (pos 1)) ∷ (Num (pos 5)) ∷ []) ∷ ((Num (pos 7)) ∷ (Num (pos 4)) ∷ (Num (pos 2)) ∷ []) ∷ []) } ∷ [])

abbrev asked_17 : List Entry
asked_17 =
    record { actor = (Client 1); session = 1; asked = Call requests.Begin; side = None; answer = answers.Ok 0; missed = None; draw = None }
    ∷ record { actor = (Client 1); session = 1; asked = Call requests.ShowWaiting; side = None; answer = answers.Waiting []; missed = None; draw = None }
    ∷ record { actor = (Client 1); session = 1; asked = Call (requests.CopyRow (codes "t") (codes "w") (record { kind = Int 4 false; nullable = false; origin = from.Old 2 } ∷ record { kind = Int 1 false; nullable = true; origin = from.Old 2 } ∷ record { kind = Int 2 false; nullable = false; origin = from.Old 2 } ∷ []) ((Num (pos 3)) ∷ [])); side = None; answer = answers.Ok 1; missed = None; draw = None }
    ∷ record { actor = (Client 1); session = 1; asked = Call requests.Commit; side = None; answer = answers.Ok 0; missed = None; draw = None }
    ∷ record { actor = (Client 2); session = 2; asked = Cut; side = None; answer = answers.Lost; missed = None; draw = None }
    ∷ record { actor = (Client 1); session = 1; asked = Call requests.LogEnd; side = None; answer = answers.At 1; missed = None; draw = None }
    ∷ record { actor = (Client 1); session = 1; asked = Call (requests.Do (statements.Update (codes "t") (record { column = codes "id"; value = (Num (pos 3)) } ∷ record { column = codes "m0"; value = (Text (codes "e")) } ∷ record { column = codes "v"; value = (Text (codes "3")) } ∷ []) (conditions.Range (record { column = codes "id"; sign = signs.More; value = (Num (pos 7)) } ∷ [])))); side = None; answer = answers.Ok 0; missed = None; draw = None }
    ∷ record { actor = (Client 1); session = 1; asked = Call (requests.Ends (codes "w")); side = None; answer = answers.Ends (Some (record { least = ((Num (pos 2)) ∷ []); greatest = ((Num (pos 7)) ∷ []) })); missed = None; draw = None }
    ∷ record { actor = (Client 1); session = 1; asked = Call (requests.ChunkEnd (codes "w") (Open ((Num (pos 2)) ∷ [])) ((Num (pos 2)) ∷ []) 2); side = None; answer = answers.End ((Num (pos 2)) ∷ []); missed = None; draw = None }
    ∷ record { actor = (Client 1); session = 1; asked = Call (requests.ChunkEnd (codes "w") (Closed ((Num (pos 7)) ∷ [])) ((Num (pos 4)) ∷ []) 2); side = None; answer = answers.End ((Num (pos 4)) ∷ []); missed = None; draw = None }
    ∷ record { actor = (Client 3); session = 3; asked = Call (requests.Ends (codes "t")); side = None; answer = answers.Ends (Some (record { least = ((Num (pos 3)) ∷ []); greatest = ((Num (pos 4)) ∷ []) })); missed = None; draw = None }
    ∷ record { actor = (Client 1); session = 1; asked = Call requests.Begin; side = None; answer = answers.Ok 0; missed = None; draw = None }
    ∷ record { actor = (Client 1); session = 1; asked = Call requests.ShowWaiting; side = None; answer = answers.Waiting []; missed = None; draw = None }
    ∷ record { actor = (Client 3); session = 3; asked = Call requests.Begin; side = None; answer = answers.Ok 0; missed = None; draw = None }
    ∷ record { actor = (Client 1); session = 1; asked = Call (requests.Ends (codes "u")); side = None; answer = answers.Ends None; missed = None; draw = None }
    ∷ record { actor = (Client 3); session = 3; asked = Call requests.ShowWaiting; side = None; answer = answers.Waiting []; missed = None; draw = None }
    ∷ record { actor = (Client 3); session = 3; asked = Call (requests.ReadLog 4 1 (codes "t" ∷ codes "w" ∷ [])); side = None; answer = answers.Events [] 1; missed = None; draw = None }
    ∷ record { actor = (Client 3); session = 3; asked = Call (requests.CopyRow (codes "u") (codes "w") (record { kind = Int 4 false; nullable = false; origin = from.Old 0 } ∷ record { kind = Int 1 false; nullable = true; origin = from.Old 1 } ∷ record { kind = Int 2 false; nullable = false; origin = from.Old 0 } ∷ []) ((Num (pos 3)) ∷ [])); side = None; answer = answers.Ok 0; missed = None; draw = None }
    ∷ record { actor = (Client 1); session = 1; asked = Call (requests.Do (statements.Delete (codes "t") (conditions.Equal (record { column = codes "id"; value = (Num (pos 5)) } ∷ [])))); side = None; answer = answers.Ok 0; missed = None; draw = None }
    ∷ record { actor = (Client 5); session = 5; asked = Call (requests.Do (statements.Select (codes "u") (shown.Columns (codes "m0" ∷ [])) (conditions.Equal (record { column = codes "id"; value = (Num (pos 5)) } ∷ [])))); side = None; answer = answers.Rows []; missed = None; draw = None }
    ∷ record { actor = (Client 4); session = 4; asked = Call (requests.Do (statements.Update (codes "u") (record { column = codes "m0"; value = (Num (pos 7)) } ∷ record { column = codes "v"; value = Null } ∷ []) (conditions.Range (record { column = codes "id"; sign = signs.Less; value = (Num (pos 6)) } ∷ [])))); side = None; answer = answers.Ok 0; missed = None; draw = None }
    ∷ record { actor = (Client 3); session = 3; asked = Call (requests.Do (statements.Update (codes "w") (record { column = codes "id"; value = (Num (pos 4)) } ∷ []) (conditions.Equal (record { column = codes "id"; value = (Num (pos 7)) } ∷ [])))); side = (Some sides_at.After); answer = answers.Lost; missed = (Some (answers.Refused 1062 None)); draw = None }
    ∷ record { actor = (Client 4); session = 4; asked = Call (requests.Do (statements.Insert (codes "u") None ((Num (pos 5)) ∷ (Text (codes "d")) ∷ (Text (codes "zzzzzzzzz")) ∷ (Num (pos 1)) ∷ []) None)); side = None; answer = answers.Refused 1136 None; missed = None; draw = None }
    ∷ record { actor = (Client 1); session = 1; asked = Call (requests.Do (statements.Select (codes "u") shown.All (conditions.Equal (record { column = codes "m0"; value = (Num (pos 3)) } ∷ [])))); side = None; answer = answers.Rows []; missed = None; draw = None }
    ∷ record { actor = (Client 1); session = 1; asked = Call (requests.CopyRow (codes "u") (codes "w") (record { kind = Int 4 false; nullable = false; origin = from.Added (Num (pos 5)) } ∷ record { kind = Int 1 false; nullable = true; origin = from.Old 1 } ∷ record { kind = Int 2 false; nullable = false; origin = from.Old 0 } ∷ []) ((Num (pos 3)) ∷ [])); side = None; answer = answers.Ok 0; missed = None; draw = None }
    ∷ record { actor = (Client 4); session = 4; asked = Call (requests.Do (statements.Update (codes "u") (record { column = codes "v"; value = (Text (codes "b")) } ∷ record { column = codes "id"; value = (Num (pos 7)) } ∷ []) (conditions.Equal (record { column = codes "id"; value = (Num (pos 4)) } ∷ [])))); side = None; answer = answers.Ok 0; missed = None; draw = None }
    ∷ record { actor = (Client 5); session = 5; asked = Call (requests.Drop (codes "x")); side = None; answer = answers.Refused 1051 None; missed = None; draw = None }
    ∷ record { actor = Insp; session = 6; asked = Call (requests.Do (statements.Insert (codes "t") None ((Num (pos 5)) ∷ (Num (pos 7)) ∷ (Num (pos 2)) ∷ []) None)); side = None; answer = answers.Waits 1; missed = None; draw = None }
    ∷ record { actor = (Client 4); session = 4; asked = Call (requests.Do (statements.Replace (codes "u") (Some (codes "m0" ∷ codes "v" ∷ codes "id" ∷ [])) ((Num (pos 2)) ∷ (Text (codes "c")) ∷ (Num (pos 5)) ∷ []) None)); side = None; answer = answers.Ok 1; missed = None; draw = None }
    ∷ record { actor = (Client 4); session = 4; asked = Call (requests.Do (statements.Insert (codes "u") (Some (codes "m0" ∷ codes "v" ∷ codes "id" ∷ [])) ((Num (pos 2)) ∷ (Text (codes "e")) ∷ (Num (pos 7)) ∷ []) None)); side = None; answer = answers.Refused 1062 None; missed = None; draw = None }
    ∷ record { actor = (Client 5); session = 5; asked = Call requests.ShowWaiting; side = None; answer = answers.Waiting []; missed = None; draw = None }
    ∷ record { actor = (Client 4); session = 4; asked = Call (requests.Do (statements.Select (codes "w") (shown.Columns (codes "id" ∷ [])) (conditions.Equal (record { column = codes "id"; value = (Num (pos 5)) } ∷ [])))); side = None; answer = answers.Rows []; missed = None; draw = None }
    ∷ record { actor = Insp; session = 6; asked = Poll; side = None; answer = answers.Waits 1; missed = None; draw = None }
    ∷ record { actor = (Client 4); session = 4; asked = Call (requests.Do (statements.Delete (codes "t") (conditions.Equal (record { column = codes "m0"; value = (Text (codes "f")) } ∷ [])))); side = None; answer = answers.Ok 1; missed = None; draw = None }
    ∷ record { actor = (Client 1); session = 1; asked = Call (requests.Do (statements.Insert (codes "u") None ((Num (pos 3)) ∷ (Text (codes "c")) ∷ (Num (pos 2)) ∷ []) None)); side = None; answer = answers.Ok 1; missed = None; draw = None }
    ∷ record { actor = (Client 1); session = 1; asked = Call (requests.Do (statements.Replace (codes "u") None ((Num (pos 6)) ∷ (Text (codes "d")) ∷ (Num (pos 5)) ∷ []) None)); side = None; answer = answers.Ok 2; missed = None; draw = None }
    ∷ record { actor = (Client 4); session = 4; asked = Call (requests.ChunkEnd (codes "u") Free ((Num (pos 7)) ∷ []) 3); side = None; answer = answers.End ((Num (pos 7)) ∷ []); missed = None; draw = None }
    ∷ record { actor = (Client 5); session = 5; asked = Call (requests.Do (statements.Update (codes "w") (record { column = codes "v"; value = (Num (pos 6)) } ∷ []) (conditions.Equal (record { column = codes "id"; value = (Num (pos 4)) } ∷ [])))); side = None; answer = answers.Ok 1; missed = None; draw = None }
    ∷ record { actor = (Client 5); session = 5; asked = Call (requests.ChunkEnd (codes "w") (Closed ((Num (pos 7)) ∷ [])) ((Num (pos 7)) ∷ []) 3); side = None; answer = answers.End ((Num (pos 7)) ∷ []); missed = None; draw = None }
    ∷ record { actor = Insp; session = 6; asked = Poll; side = None; answer = answers.TimedOut 2; missed = None; draw = None }
    ∷ record { actor = (Client 5); session = 5; asked = Call (requests.Create (record { name = codes "u"; columns = (record { name = codes "m0"; kind = Int 4 false; nullable = false; default = (Some (Num (pos 1))); auto = false } ∷ record { name = codes "v"; kind = VarChar 6; nullable = true; default = (Some Null); auto = false } ∷ record { name = codes "id"; kind = Int 1 false; nullable = false; default = None; auto = false } ∷ []); uniques = (record { name = None; places = (2 ∷ []) } ∷ record { name = (Some (codes "u0")); places = (0 ∷ []) } ∷ []); indexes = []; comment = []; start = None })); side = None; answer = answers.Waits 1; missed = None; draw = None }
    ∷ record { actor = (Client 4); session = 4; asked = Call requests.LogEnd; side = None; answer = answers.At 4; missed = None; draw = None }
    ∷ record { actor = (Client 4); session = 4; asked = Call (requests.LockTables (codes "u" ∷ codes "w" ∷ codes "x" ∷ [])); side = None; answer = answers.Waits 1; missed = None; draw = None }
    ∷ record { actor = (Client 4); session = 4; asked = Poll; side = None; answer = answers.Waits 1; missed = None; draw = None }
    ∷ []

served_17 : IsServed (record { client_wait = 4; tool_wait = 2 }) tables_17 asked_17
unfolding computing
served_17 = record { answers = refl; sides = refl }

-- Sequence 18
abbrev tables_18 : Database
tables_18 = (record { schema = record { name = codes "t"; columns = (record { name = codes "id"; kind = Int 4 false; nullable = false; default = None; auto = false } ∷ record { name = codes "m0"; kind = VarChar 3; nullable = true; default = (Some Null); auto = false } ∷ record { name = codes "v"; kind = Int 2 false; nullable = true; default = (Some Null); auto = false } ∷ []); uniques = (record { name = None; places = (0 ∷ []) } ∷ record { name = (Some (codes "u0")); places = (1 ∷ []) } ∷ []); indexes = (record { name = (Some (codes "v")); places = (2 ∷ []) } ∷ []); comment = []; start = None }; rows = (((Num (pos 1)) ∷ (Text (codes "f")) ∷ (Num (pos 1)) ∷ []) ∷ ((Num (pos 5)) ∷ (Text (codes "b")) ∷ (Num (pos 5)) ∷ []) ∷ ((Num (pos 6)) ∷ (Text (codes "7")) ∷ (Num (pos 2)) ∷ []) ∷ []) } ∷ record { schema = record { name = codes "u"; columns = (record { name = codes "id"; kind = Int 4 false; nullable = false; default = None; auto = false } ∷ record { name = codes "m0"; kind = Int 4 false; nullable = true; default = (Some Null); auto = false } ∷ []); uniques = (record { name = None; places = (0 ∷ []) } ∷ record { name = (Some (codes "u0")); places = (1 ∷ []) } ∷ []); indexes = []; comment = []; start = None }; rows = (((Num (pos 3)) ∷ (Num (pos 6)) ∷ []) ∷ ((Num (pos 5)) ∷ (Num (pos 7)) ∷ []) ∷ ((Num (pos 7)) ∷ Null ∷ []) ∷ []) } ∷ record { schema = record { name = codes "w"; columns = (record { name = codes "id"; kind = VarBinary 3; nullable = false; default = None; auto = false } ∷ record { name = codes "m0"; kind = Int 4 false; nullable = true; default = (Some Null); auto = false } ∷ record { name = codes "v"; kind = VarChar 6; nullable = true; default = (Some Null); auto = false } ∷ []); uniques = (record { name = None; places = (0 ∷ []) } ∷ record { name = (Some (codes "u0")); places = (1 ∷ []) } ∷ []); indexes = []; comment = []; start = None }; rows = (((Blob (52 ∷ [])) ∷ Null ∷ (Text (codes "c")) ∷ []) ∷ ((Blob (99 ∷ [])) ∷ (Num (pos 1)) ∷ (Text (codes "g")) ∷ []) ∷ ((Blob (101 ∷ [])) ∷ (Num (pos 3)) ∷ (Text (codes "5")) ∷ []) ∷ ((Blob (103 ∷ [])) ∷ (Num (pos 2)) ∷ (Text (codes "2")) ∷ []) ∷ []) } ∷ [])

abbrev asked_18 : List Entry
asked_18 =
    record { actor = (Client 1); session = 1; asked = Call (requests.LockTables (codes "x" ∷ codes "w" ∷ [])); side = None; answer = answers.Refused 1146 None; missed = None; draw = None }
    ∷ record { actor = (Client 1); session = 1; asked = Call (requests.Do (statements.Insert (codes "t") None ((Num (pos 6)) ∷ (Text (codes "d")) ∷ (Num (pos 6)) ∷ []) None)); side = None; answer = answers.Refused 1062 None; missed = None; draw = None }
    ∷ record { actor = (Client 1); session = 1; asked = Call (requests.Drop (codes "u")); side = None; answer = answers.Ok 0; missed = None; draw = None }
    ∷ record { actor = (Client 1); session = 1; asked = Call (requests.Do (statements.Update (codes "w") (record { column = codes "id"; value = (Text (codes "b")) } ∷ []) conditions.All)); side = None; answer = answers.Refused 1062 None; missed = None; draw = None }
    ∷ record { actor = (Client 1); session = 1; asked = Call (requests.BeginSpan (codes "w") (record { low = (Open ((Blob (103 ∷ [])) ∷ [])); high = (Closed ((Blob (54 ∷ [])) ∷ [])) }) 1); side = None; answer = answers.Keys [] ((Blob (54 ∷ [])) ∷ []); missed = None; draw = None }
    ∷ record { actor = (Client 1); session = 1; asked = Call requests.Rollback; side = None; answer = answers.Ok 0; missed = None; draw = None }
    ∷ record { actor = (Client 1); session = 1; asked = Call requests.Begin; side = None; answer = answers.Ok 0; missed = None; draw = None }
    ∷ record { actor = (Client 1); session = 1; asked = Call (requests.Do (statements.Replace (codes "t") None ((Text (codes "d")) ∷ Null ∷ (Num (pos 6)) ∷ []) None)); side = None; answer = answers.Refused 1366 (Some 0); missed = None; draw = None }
    ∷ record { actor = (Client 1); session = 1; asked = Call (requests.CopyRow (codes "t") (codes "t") (record { kind = Int 4 false; nullable = false; origin = from.Added (Num (pos 5)) } ∷ record { kind = VarChar 3; nullable = true; origin = from.Old 2 } ∷ record { kind = Int 2 false; nullable = true; origin = from.Old 0 } ∷ []) ((Num (pos 5)) ∷ [])); side = None; answer = answers.Ok 0; missed = None; draw = None }
    ∷ record { actor = (Client 1); session = 1; asked = Call requests.ShowTables; side = None; answer = answers.Tables (record { name = codes "t"; comment = [] } ∷ record { name = codes "w"; comment = [] } ∷ []); missed = None; draw = None }
    ∷ record { actor = Insp; session = 2; asked = Call requests.ShowWaiting; side = None; answer = answers.Waiting []; missed = None; draw = None }
    ∷ record { actor = Insp; session = 2; asked = Call (requests.Do (statements.Update (codes "w") (record { column = codes "id"; value = (Num (pos 7)) } ∷ record { column = codes "m0"; value = (Num (pos 5)) } ∷ []) (conditions.Equal (record { column = codes "id"; value = (Num (pos 6)) } ∷ [])))); side = None; answer = answers.Ok 0; missed = None; draw = None }
    ∷ record { actor = Insp; session = 2; asked = Call (requests.Do (statements.Insert (codes "u") (Some (codes "id" ∷ [])) ((Num (pos 4)) ∷ []) None)); side = None; answer = answers.Refused 1146 None; missed = None; draw = None }
    ∷ record { actor = Insp; session = 2; asked = Call (requests.Do (statements.Insert (codes "u") None ((Num (pos 3)) ∷ (Num (pos 3)) ∷ []) None)); side = None; answer = answers.Refused 1146 None; missed = None; draw = None }
    ∷ record { actor = (Client 1); session = 1; asked = Call (requests.Do (statements.Insert (codes "w") None ((Text (codes "f")) ∷ Null ∷ (Text (codes "a")) ∷ []) None)); side = None; answer = answers.Ok 1; missed = None; draw = None }
    ∷ record { actor = (Client 1); session = 1; asked = Call (requests.Ends (codes "u")); side = None; answer = answers.Refused 1146 None; missed = None; draw = None }
    ∷ record { actor = (Client 1); session = 1; asked = Call (requests.ChunkEnd (codes "u") Free ((Num (pos 1)) ∷ []) 2); side = None; answer = answers.Refused 1146 None; missed = None; draw = None }
    ∷ record { actor = Insp; session = 2; asked = Call (requests.Do (statements.Insert (codes "w") (Some (codes "id" ∷ codes "m0" ∷ codes "v" ∷ [])) ((Num (pos 3)) ∷ (Num (pos 3)) ∷ (Text (codes "d")) ∷ []) None)); side = None; answer = answers.Refused 1062 None; missed = None; draw = None }
    ∷ record { actor = (Client 1); session = 1; asked = Call requests.ShowWaiting; side = None; answer = answers.Waiting []; missed = None; draw = None }
    ∷ record { actor = Insp; session = 2; asked = Call (requests.Do (statements.Replace (codes "t") (Some (codes "id" ∷ codes "m0" ∷ codes "v" ∷ [])) ((Num (pos 4)) ∷ (Text (codes "g")) ∷ Null ∷ []) None)); side = None; answer = answers.Ok 1; missed = None; draw = None }
    ∷ record { actor = (Client 1); session = 1; asked = Call (requests.ReadLog 4 2 (codes "u" ∷ [])); side = None; answer = answers.Events [] 1; missed = None; draw = None }
    ∷ record { actor = Insp; session = 2; asked = Call (requests.ReadLog 0 1 (codes "y" ∷ codes "x" ∷ [])); side = None; answer = answers.Events [] 1; missed = None; draw = None }
    ∷ record { actor = Insp; session = 2; asked = Call (requests.ChunkEnd (codes "t") Free ((Num (pos 5)) ∷ []) 3); side = None; answer = answers.End ((Num (pos 5)) ∷ []); missed = None; draw = None }
    ∷ record { actor = Insp; session = 3; asked = Call (requests.LockTables (codes "x" ∷ [])); side = None; answer = answers.Refused 1146 None; missed = None; draw = None }
    ∷ record { actor = Insp; session = 3; asked = Call (requests.Rename (record { old = codes "x"; new = codes "y" } ∷ [])); side = None; answer = answers.Refused 1146 None; missed = None; draw = None }
    ∷ record { actor = Insp; session = 2; asked = Call (requests.Rename (record { old = codes "y"; new = codes "x" } ∷ [])); side = None; answer = answers.Refused 1146 None; missed = None; draw = None }
    ∷ record { actor = Insp; session = 3; asked = Call (requests.BeginSpan (codes "w") (record { low = Free; high = (Closed ((Blob (101 ∷ [])) ∷ [])) }) 1); side = None; answer = answers.Keys (((Blob (52 ∷ [])) ∷ []) ∷ []) ((Blob (52 ∷ [])) ∷ []); missed = None; draw = None }
    ∷ record { actor = (Client 1); session = 1; asked = Call (requests.Do (statements.Update (codes "w") (record { column = codes "id"; value = (Text (codes "f")) } ∷ record { column = codes "m0"; value = (Num (pos 7)) } ∷ []) (conditions.Equal (record { column = codes "id"; value = (Num (pos 5)) } ∷ [])))); side = None; answer = answers.Waits 3; missed = None; draw = None }
    ∷ record { actor = (Client 4); session = 4; asked = Call (requests.Do (statements.Update (codes "w") (record { column = codes "id"; value = (Text (codes "c")) } ∷ []) (conditions.Equal (record { column = codes "id"; value = (Num (pos 7)) } ∷ [])))); side = None; answer = answers.Waits 3; missed = None; draw = None }
    ∷ record { actor = Insp; session = 3; asked = Call requests.ShowTables; side = None; answer = answers.Tables (record { name = codes "t"; comment = [] } ∷ record { name = codes "w"; comment = [] } ∷ []); missed = None; draw = None }
    ∷ record { actor = Insp; session = 3; asked = Call requests.LogEnd; side = None; answer = answers.At 1; missed = None; draw = None }
    ∷ record { actor = (Client 1); session = 1; asked = Poll; side = None; answer = answers.TimedOut 1; missed = None; draw = None }
    ∷ record { actor = Insp; session = 2; asked = Call (requests.Do (statements.Replace (codes "u") (Some (codes "id" ∷ codes "m0" ∷ [])) ((Num (pos 5)) ∷ (Num (pos 1)) ∷ []) None)); side = None; answer = answers.Refused 1146 None; missed = None; draw = None }
    ∷ record { actor = (Client 4); session = 4; asked = Poll; side = None; answer = answers.TimedOut 1; missed = None; draw = None }
    ∷ record { actor = (Client 1); session = 1; asked = Call (requests.Do (statements.Replace (codes "u") (Some (codes "id" ∷ codes "m0" ∷ [])) ((Num (pos 3)) ∷ (Num (pos 3)) ∷ []) None)); side = None; answer = answers.Refused 1146 None; missed = None; draw = None }
    ∷ record { actor = (Client 1); session = 1; asked = Call (requests.Do (statements.Replace (codes "w") (Some (codes "id" ∷ codes "m0" ∷ codes "v" ∷ [])) ((Text (codes "g")) ∷ (Num (pos 6)) ∷ (Text (codes "f")) ∷ []) None)); side = None; answer = answers.Ok 2; missed = None; draw = None }
    ∷ record { actor = Insp; session = 2; asked = Call (requests.Do (statements.Update (codes "u") (record { column = codes "id"; value = (Num (pos 5)) } ∷ record { column = codes "m0"; value = (Text (codes "b")) } ∷ []) (conditions.Equal (record { column = codes "id"; value = (Num (pos 4)) } ∷ [])))); side = (Some sides_at.Before); answer = answers.Lost; missed = None; draw = None }
    ∷ record { actor = (Client 4); session = 4; asked = Call requests.Begin; side = None; answer = answers.Ok 0; missed = None; draw = None }
    ∷ record { actor = Insp; session = 3; asked = Call (requests.ChunkEnd (codes "u") (Open ((Num (pos 1)) ∷ [])) ((Num (pos 1)) ∷ []) 2); side = None; answer = answers.Refused 1146 None; missed = None; draw = None }
    ∷ record { actor = Insp; session = 3; asked = Call (requests.Do (statements.Select (codes "w") shown.Count (conditions.Equal (record { column = codes "m0"; value = (Num (pos 5)) } ∷ [])))); side = None; answer = answers.Rows (((Num (pos 0)) ∷ []) ∷ []); missed = None; draw = None }
    ∷ record { actor = Insp; session = 3; asked = Call (requests.ChunkEnd (codes "x") Free ((Num (pos 1)) ∷ []) 2); side = None; answer = answers.Refused 1146 None; missed = None; draw = None }
    ∷ record { actor = Insp; session = 3; asked = Call requests.LogEnd; side = None; answer = answers.At 3; missed = None; draw = None }
    ∷ record { actor = Insp; session = 3; asked = Call requests.ShowTables; side = None; answer = answers.Tables (record { name = codes "t"; comment = [] } ∷ record { name = codes "w"; comment = [] } ∷ []); missed = None; draw = None }
    ∷ record { actor = (Client 4); session = 4; asked = Call requests.ShowTables; side = None; answer = answers.Tables (record { name = codes "t"; comment = [] } ∷ record { name = codes "w"; comment = [] } ∷ []); missed = None; draw = None }
    ∷ record { actor = (Client 1); session = 1; asked = Call requests.ShowTables; side = None; answer = answers.Tables (record { name = codes "t"; comment = [] } ∷ record { name = codes "w"; comment = [] } ∷ []); missed = None; draw = None }
    ∷ []

served_18 : IsServed (record { client_wait = 1; tool_wait = 1 }) tables_18 asked_18
unfolding computing
served_18 = record { answers = refl; sides = refl }

-- Sequence 19
abbrev tables_19 : Database
tables_19 = (record { schema = record { name = codes "t"; columns = (record { name = codes "id"; kind = VarChar 3; nullable = false; default = None; auto = false } ∷ record { name = codes "m0"; kind = Int 4 false; nullable = true; default = (Some Null); auto = false } ∷ record { name = codes "m1"; kind = Int 4 false; nullable = true; default = (Some (Num (pos 1))); auto = false } ∷ []); uniques = (record { name = None; places = (0 ∷ []) } ∷ record { name = (Some (codes "u0")); places = (1 ∷ []) } ∷ record { name = (Some (codes "u1")); places = (2 ∷ []) } ∷ []); indexes = []; comment = []; start = None }; rows = (((Text (codes "5")) ∷ (Num (pos 5)) ∷ Null ∷ []) ∷ ((Text (codes "b")) ∷ (Num (pos 6)) ∷ (Num (pos 5)) ∷ []) ∷ ((Text (codes "e")) ∷ (Num (pos 2)) ∷ (Num (pos 4)) ∷ []) ∷ []) } ∷ record { schema = record { name = codes "u"; columns = (record { name = codes "id"; kind = Int 4 false; nullable = false; default = None; auto = false } ∷ []); uniques = (record { name = None; places = (0 ∷ []) } ∷ []); indexes = []; comment = []; start = None }; rows = (((Num (pos 3)) ∷ []) ∷ ((Num (pos 4)) ∷ []) ∷ ((Num (pos 6)) ∷ []) ∷ []) } ∷ record { schema = record { name = codes "w"; columns = (record { name = codes "v"; kind = Int 4 false; nullable = true; default = (Some Null); auto = false } ∷ record { name = codes "id"; kind = Int 4 false; nullable = false; default = None; auto = false } ∷ []); uniques = (record { name = None; places = (1 ∷ []) } ∷ []); indexes = []; comment = []; start = None }; rows = [] } ∷ [])

abbrev asked_19 : List Entry
asked_19 =
    record { actor = (Client 1); session = 1; asked = Call (requests.Rename (record { old = codes "t"; new = codes "w" } ∷ record { old = codes "x"; new = codes "w" } ∷ [])); side = None; answer = answers.Refused 1050 None; missed = None; draw = None }
    ∷ record { actor = (Client 1); session = 1; asked = Call (requests.ChunkEnd (codes "w") Free ((Num (pos 1)) ∷ []) 3); side = None; answer = answers.End ((Num (pos 1)) ∷ []); missed = None; draw = None }
    ∷ record { actor = (Client 1); session = 1; asked = Call requests.ShowWaiting; side = None; answer = answers.Waiting []; missed = None; draw = None }
    ∷ record { actor = (Client 1); session = 1; asked = Call (requests.ChunkEnd (codes "w") (Closed ((Num (pos 2)) ∷ [])) ((Num (pos 4)) ∷ []) 1); side = None; answer = answers.End ((Num (pos 4)) ∷ []); missed = None; draw = None }
    ∷ record { actor = (Client 1); session = 1; asked = Call requests.ShowTables; side = None; answer = answers.Tables (record { name = codes "t"; comment = [] } ∷ record { name = codes "u"; comment = [] } ∷ record { name = codes "w"; comment = [] } ∷ []); missed = None; draw = None }
    ∷ record { actor = (Client 1); session = 1; asked = Call (requests.Create (record { name = codes "u"; columns = (record { name = codes "id"; kind = Int 4 false; nullable = false; default = None; auto = false } ∷ []); uniques = (record { name = None; places = (0 ∷ []) } ∷ []); indexes = []; comment = []; start = None })); side = None; answer = answers.Refused 1050 None; missed = None; draw = None }
    ∷ record { actor = (Client 1); session = 1; asked = Call requests.Begin; side = None; answer = answers.Ok 0; missed = None; draw = None }
    ∷ record { actor = (Client 1); session = 1; asked = Call (requests.Create (record { name = codes "w"; columns = (record { name = codes "v"; kind = Int 4 false; nullable = true; default = (Some Null); auto = false } ∷ record { name = codes "id"; kind = Int 4 false; nullable = false; default = None; auto = false } ∷ []); uniques = (record { name = None; places = (1 ∷ []) } ∷ []); indexes = []; comment = codes "z"; start = None })); side = None; answer = answers.Refused 1050 None; missed = None; draw = None }
    ∷ record { actor = (Client 1); session = 1; asked = Call requests.ShowTables; side = None; answer = answers.Tables (record { name = codes "t"; comment = [] } ∷ record { name = codes "u"; comment = [] } ∷ record { name = codes "w"; comment = [] } ∷ []); missed = None; draw = None }
    ∷ record { actor = (Client 1); session = 1; asked = Call (requests.Do (statements.Insert (codes "w") (Some (codes "v" ∷ codes "id" ∷ [])) (Null ∷ (Text (codes "6")) ∷ []) None)); side = None; answer = answers.Ok 1; missed = None; draw = None }
    ∷ record { actor = (Client 1); session = 1; asked = Call requests.Rollback; side = None; answer = answers.Ok 0; missed = None; draw = None }
    ∷ record { actor = (Client 1); session = 1; asked = Call (requests.Do (statements.Insert (codes "u") (Some (codes "id" ∷ [])) ((Num (pos 3)) ∷ []) None)); side = None; answer = answers.Refused 1062 None; missed = None; draw = None }
    ∷ record { actor = (Client 1); session = 1; asked = Call (requests.Do (statements.Insert (codes "w") (Some (codes "id" ∷ codes "m1" ∷ [])) ((Text (codes "b")) ∷ (Num (pos 6)) ∷ []) None)); side = None; answer = answers.Refused 1054 None; missed = None; draw = None }
    ∷ record { actor = (Client 1); session = 1; asked = Call (requests.Do (statements.Update (codes "u") (record { column = codes "id"; value = (Num (pos 5)) } ∷ []) conditions.All)); side = None; answer = answers.Refused 1062 None; missed = None; draw = None }
    ∷ record { actor = (Client 1); session = 1; asked = Call (requests.Ends (codes "t")); side = None; answer = answers.Ends (Some (record { least = ((Text (codes "5")) ∷ []); greatest = ((Text (codes "e")) ∷ []) })); missed = None; draw = None }
    ∷ record { actor = (Client 1); session = 1; asked = Call (requests.Rename (record { old = codes "y"; new = codes "w" } ∷ record { old = codes "y"; new = codes "y" } ∷ [])); side = None; answer = answers.Refused 1050 None; missed = None; draw = None }
    ∷ record { actor = Insp; session = 2; asked = Call (requests.Do (statements.Replace (codes "t") None ((Text (codes "b")) ∷ (Num (pos 3)) ∷ (Num (pos 6)) ∷ []) None)); side = None; answer = answers.Ok 2; missed = None; draw = None }
    ∷ record { actor = Insp; session = 2; asked = Call requests.ShowTables; side = None; answer = answers.Tables (record { name = codes "t"; comment = [] } ∷ record { name = codes "u"; comment = [] } ∷ record { name = codes "w"; comment = [] } ∷ []); missed = None; draw = None }
    ∷ record { actor = Insp; session = 2; asked = Call (requests.ReadLog 5 5 (codes "x" ∷ codes "t" ∷ [])); side = None; answer = answers.Events [] 2; missed = None; draw = None }
    ∷ record { actor = (Client 1); session = 1; asked = Call requests.LogEnd; side = None; answer = answers.At 2; missed = None; draw = None }
    ∷ record { actor = Insp; session = 2; asked = Call (requests.Do (statements.Select (codes "t") (shown.Columns (codes "id" ∷ [])) (conditions.Equal (record { column = codes "id"; value = (Num (pos 4)) } ∷ [])))); side = None; answer = answers.Rows []; missed = None; draw = None }
    ∷ record { actor = (Client 1); session = 1; asked = Call (requests.Rename (record { old = codes "t"; new = codes "u" } ∷ record { old = codes "y"; new = codes "w" } ∷ record { old = codes "u"; new = codes "y" } ∷ [])); side = None; answer = answers.Refused 1050 None; missed = None; draw = None }
    ∷ record { actor = (Client 1); session = 1; asked = Call (requests.Do (statements.Replace (codes "w") (Some (codes "v" ∷ codes "id" ∷ [])) ((Num (pos 4)) ∷ (Num (pos 2)) ∷ []) None)); side = None; answer = answers.Ok 1; missed = None; draw = None }
    ∷ record { actor = Insp; session = 2; asked = Call requests.LogEnd; side = None; answer = answers.At 3; missed = None; draw = None }
    ∷ record { actor = Insp; session = 2; asked = Call (requests.Create (record { name = codes "u"; columns = (record { name = codes "v"; kind = Int 4 false; nullable = true; default = (Some Null); auto = false } ∷ record { name = codes "id"; kind = Int 4 false; nullable = false; default = None; auto = false } ∷ []); uniques = (record { name = None; places = (1 ∷ []) } ∷ []); indexes = []; comment = codes "z"; start = None })); side = None; answer = answers.Refused 1050 None; missed = None; draw = None }
    ∷ record { actor = (Client 1); session = 1; asked = Call (requests.Create (record { name = codes "t"; columns = (record { name = codes "v"; kind = Int 4 false; nullable = true; default = (Some Null); auto = false } ∷ record { name = codes "id"; kind = Int 4 false; nullable = false; default = None; auto = false } ∷ []); uniques = (record { name = None; places = (1 ∷ []) } ∷ []); indexes = []; comment = []; start = None })); side = None; answer = answers.Refused 1050 None; missed = None; draw = None }
    ∷ record { actor = Insp; session = 2; asked = Call (requests.Drop (codes "u")); side = None; answer = answers.Ok 0; missed = None; draw = None }
    ∷ record { actor = Insp; session = 2; asked = Call requests.Begin; side = None; answer = answers.Ok 0; missed = None; draw = None }
    ∷ record { actor = (Client 4); session = 4; asked = Call requests.Begin; side = None; answer = answers.Ok 0; missed = None; draw = None }
    ∷ record { actor = Insp; session = 2; asked = Call requests.Commit; side = None; answer = answers.Ok 0; missed = None; draw = None }
    ∷ record { actor = (Client 4); session = 4; asked = Call (requests.CopyRow (codes "t") (codes "w") (record { kind = Int 4 false; nullable = true; origin = from.Old 0 } ∷ record { kind = Int 4 false; nullable = false; origin = from.Old 1 } ∷ []) ((Text (codes "e")) ∷ [])); side = None; answer = answers.Refused 1366 (Some 0); missed = None; draw = None }
    ∷ record { actor = (Client 4); session = 4; asked = Call (requests.Create (record { name = codes "t"; columns = (record { name = codes "id"; kind = VarChar 3; nullable = false; default = None; auto = false } ∷ record { name = codes "m0"; kind = Int 4 false; nullable = true; default = (Some Null); auto = false } ∷ record { name = codes "m1"; kind = Int 4 false; nullable = true; default = (Some (Num (pos 1))); auto = false } ∷ []); uniques = (record { name = None; places = (0 ∷ []) } ∷ record { name = (Some (codes "u0")); places = (1 ∷ []) } ∷ record { name = (Some (codes "u1")); places = (2 ∷ []) } ∷ []); indexes = []; comment = []; start = None })); side = None; answer = answers.Refused 1050 None; missed = None; draw = None }
    ∷ record { actor = Insp; session = 2; asked = Call (requests.Do (statements.Delete (codes "w") (conditions.Equal (record { column = codes "id"; value = (Num (pos 5)) } ∷ [])))); side = None; answer = answers.Ok 0; missed = None; draw = None }
    ∷ record { actor = Insp; session = 2; asked = Call (requests.Do (statements.Delete (codes "t") (conditions.Range (record { column = codes "id"; sign = signs.More; value = (Text (codes "c")) } ∷ record { column = codes "id"; sign = signs.AtMost; value = (Text (codes "b")) } ∷ [])))); side = None; answer = answers.Ok 0; missed = None; draw = None }
    ∷ record { actor = (Client 1); session = 1; asked = Call (requests.Do (statements.Select (codes "t") (shown.Columns (codes "id" ∷ [])) (conditions.Equal (record { column = codes "m1"; value = (Num (pos 4)) } ∷ [])))); side = None; answer = answers.Rows (((Text (codes "e")) ∷ []) ∷ []); missed = None; draw = None }
    ∷ record { actor = (Client 4); session = 4; asked = Call (requests.ChunkEnd (codes "u") (Open ((Num (pos 1)) ∷ [])) ((Num (pos 1)) ∷ []) 1); side = None; answer = answers.Refused 1146 None; missed = None; draw = None }
    ∷ record { actor = (Client 1); session = 1; asked = Call (requests.Do (statements.Update (codes "t") (record { column = codes "id"; value = (Text (codes "b")) } ∷ []) (conditions.Equal (record { column = codes "id"; value = (Text (codes "d")) } ∷ [])))); side = None; answer = answers.Ok 0; missed = None; draw = None }
    ∷ record { actor = (Client 4); session = 4; asked = Call (requests.Create (record { name = codes "w"; columns = (record { name = codes "v"; kind = Int 4 false; nullable = true; default = (Some Null); auto = false } ∷ record { name = codes "id"; kind = Int 4 false; nullable = false; default = None; auto = false } ∷ []); uniques = (record { name = None; places = (1 ∷ []) } ∷ []); indexes = []; comment = []; start = None })); side = None; answer = answers.Refused 1050 None; missed = None; draw = None }
    ∷ record { actor = (Client 1); session = 1; asked = Call (requests.Ends (codes "u")); side = None; answer = answers.Refused 1146 None; missed = None; draw = None }
    ∷ record { actor = (Client 3); session = 3; asked = Cut; side = None; answer = answers.Lost; missed = None; draw = None }
    ∷ record { actor = (Client 1); session = 1; asked = Call (requests.Drop (codes "w")); side = (Some sides_at.Before); answer = answers.Lost; missed = None; draw = None }
    ∷ record { actor = (Client 4); session = 4; asked = Call (requests.CopyRow (codes "w") (codes "t") (record { kind = VarChar 3; nullable = false; origin = from.Old 1 } ∷ record { kind = Int 4 false; nullable = true; origin = from.Old 1 } ∷ record { kind = Int 4 false; nullable = true; origin = from.Old 0 } ∷ []) ((Num (pos 3)) ∷ [])); side = None; answer = answers.Ok 0; missed = None; draw = None }
    ∷ record { actor = (Client 4); session = 4; asked = Call (requests.ReadLog 5 5 (codes "t" ∷ [])); side = None; answer = answers.Events [] 3; missed = None; draw = None }
    ∷ record { actor = Insp; session = 2; asked = Call (requests.ChunkEnd (codes "x") (Open ((Num (pos 1)) ∷ [])) ((Num (pos 1)) ∷ []) 1); side = None; answer = answers.Refused 1146 None; missed = None; draw = None }
    ∷ record { actor = Insp; session = 2; asked = Call requests.ShowTables; side = None; answer = answers.Tables (record { name = codes "t"; comment = [] } ∷ record { name = codes "w"; comment = [] } ∷ []); missed = None; draw = None }
    ∷ record { actor = (Client 4); session = 4; asked = Call requests.Rollback; side = None; answer = answers.Ok 0; missed = None; draw = None }
    ∷ []

served_19 : IsServed (record { client_wait = 4; tool_wait = 1 }) tables_19 asked_19
unfolding computing
served_19 = record { answers = refl; sides = refl }

-- Sequence 20
abbrev tables_20 : Database
tables_20 = (record { schema = record { name = codes "t"; columns = (record { name = codes "id"; kind = VarChar 3; nullable = false; default = None; auto = false } ∷ record { name = codes "m0"; kind = Int 4 false; nullable = false; default = None; auto = false } ∷ []); uniques = (record { name = None; places = (0 ∷ []) } ∷ record { name = (Some (codes "u0")); places = (1 ∷ []) } ∷ []); indexes = []; comment = []; start = None }; rows = (((Text (codes "7")) ∷ (Num (pos 7)) ∷ []) ∷ ((Text (codes "b")) ∷ (Num (pos 6)) ∷ []) ∷ ((Text (codes "f")) ∷ (Num (pos 2)) ∷ []) ∷ []) } ∷ record { schema = record { name = codes "u"; columns = (record { name = codes "id"; kind = Int 4 false; nullable = false; default = None; auto = false } ∷ record { name = codes "m0"; kind = Int 1 false; nullable = true; default = (Some Null); auto = false } ∷ record { name = codes "v"; kind = VarChar 6; nullable = true; default = (Some Null); auto = false } ∷ []); uniques = (record { name = (Some (codes "k")); places = (0 ∷ []) } ∷ record { name = (Some (codes "u0")); places = (1 ∷ []) } ∷ []); indexes = []; comment = []; start = None }; rows = [] } ∷ record { schema = record { name = codes "w"; columns = (record { name = codes "id"; kind = Int 4 false; nullable = false; default = None; auto = false } ∷ record { name = codes "v"; kind = VarChar 6; nullable = false; default = None; auto = false } ∷ []); uniques = (record { name = None; places = (0 ∷ []) } ∷ []); indexes = []; comment = []; start = None }; rows = (((Num (pos 5)) ∷ (Text (codes "a")) ∷ []) ∷ []) } ∷ [])

abbrev asked_20 : List Entry
asked_20 =
    record { actor = (Client 1); session = 1; asked = Call (requests.LockTables (codes "y" ∷ codes "u" ∷ [])); side = None; answer = answers.Refused 1146 None; missed = None; draw = None }
    ∷ record { actor = Insp; session = 3; asked = Call (requests.Do (statements.Delete (codes "w") (conditions.Range (record { column = codes "id"; sign = signs.AtLeast; value = (Num (pos 7)) } ∷ record { column = codes "id"; sign = signs.AtMost; value = (Text (codes "zzzzzzzzz")) } ∷ [])))); side = None; answer = answers.Refused 1366 (Some 0); missed = None; draw = None }
    ∷ record { actor = Insp; session = 3; asked = Call (requests.Drop (codes "t")); side = None; answer = answers.Ok 0; missed = None; draw = None }
    ∷ record { actor = (Client 1); session = 1; asked = Call (requests.Do (statements.Select (codes "u") (shown.Columns (codes "id" ∷ [])) (conditions.Equal (record { column = codes "id"; value = (Num (pos 6)) } ∷ [])))); side = None; answer = answers.Rows []; missed = None; draw = None }
    ∷ record { actor = Insp; session = 3; asked = Call (requests.Do (statements.Insert (codes "t") None ((Text (codes "a")) ∷ (Num (pos 1)) ∷ []) None)); side = None; answer = answers.Refused 1146 None; missed = None; draw = None }
    ∷ record { actor = Insp; session = 3; asked = Call (requests.LockTables (codes "u" ∷ codes "w" ∷ codes "x" ∷ [])); side = None; answer = answers.Refused 1146 None; missed = None; draw = None }
    ∷ record { actor = (Client 4); session = 4; asked = Call requests.ShowTables; side = None; answer = answers.Tables (record { name = codes "u"; comment = [] } ∷ record { name = codes "w"; comment = [] } ∷ []); missed = None; draw = None }
    ∷ record { actor = (Client 2); session = 2; asked = Call requests.Begin; side = None; answer = answers.Ok 0; missed = None; draw = None }
    ∷ record { actor = (Client 1); session = 1; asked = Call (requests.Do (statements.Select (codes "t") shown.Count (conditions.Equal (record { column = codes "id"; value = (Num (pos 5)) } ∷ [])))); side = None; answer = answers.Refused 1146 None; missed = None; draw = None }
    ∷ record { actor = (Client 1); session = 1; asked = Call (requests.ChunkEnd (codes "w") (Closed ((Num (pos 4)) ∷ [])) ((Num (pos 6)) ∷ []) 1); side = None; answer = answers.End ((Num (pos 5)) ∷ []); missed = None; draw = None }
    ∷ record { actor = (Client 2); session = 2; asked = Call (requests.Create (record { name = codes "t"; columns = (record { name = codes "id"; kind = VarChar 3; nullable = false; default = None; auto = false } ∷ record { name = codes "m0"; kind = Int 4 false; nullable = false; default = None; auto = false } ∷ []); uniques = (record { name = None; places = (0 ∷ []) } ∷ record { name = (Some (codes "u0")); places = (1 ∷ []) } ∷ []); indexes = []; comment = []; start = None })); side = None; answer = answers.Ok 0; missed = None; draw = None }
    ∷ record { actor = (Client 1); session = 1; asked = Call (requests.LockTables (codes "t" ∷ codes "y" ∷ [])); side = None; answer = answers.Refused 1146 None; missed = None; draw = None }
    ∷ record { actor = (Client 2); session = 2; asked = Call requests.Rollback; side = None; answer = answers.Ok 0; missed = None; draw = None }
    ∷ record { actor = (Client 1); session = 1; asked = Call (requests.Rename (record { old = codes "x"; new = codes "w" } ∷ [])); side = None; answer = answers.Refused 1050 None; missed = None; draw = None }
    ∷ record { actor = (Client 1); session = 1; asked = Call (requests.Do (statements.Select (codes "t") (shown.Columns (codes "id" ∷ [])) (conditions.Equal (record { column = codes "id"; value = (Text (codes "a")) } ∷ [])))); side = None; answer = answers.Rows []; missed = None; draw = None }
    ∷ record { actor = (Client 4); session = 4; asked = Call (requests.LockTables (codes "u" ∷ [])); side = None; answer = answers.Ok 0; missed = None; draw = None }
    ∷ record { actor = (Client 2); session = 2; asked = Call (requests.ChunkEnd (codes "t") Free ((Text (codes "3")) ∷ []) 3); side = None; answer = answers.End ((Text (codes "3")) ∷ []); missed = None; draw = None }
    ∷ record { actor = Insp; session = 3; asked = Call (requests.Do (statements.Replace (codes "u") None ((Num (pos 2)) ∷ (Num (pos 4)) ∷ Null ∷ []) None)); side = None; answer = answers.Waits 4; missed = None; draw = None }
    ∷ record { actor = Insp; session = 3; asked = Poll; side = None; answer = answers.Waits 4; missed = None; draw = None }
    ∷ record { actor = (Client 4); session = 4; asked = Call (requests.Do (statements.Replace (codes "t") (Some (codes "id" ∷ [])) ((Text (codes "c")) ∷ []) None)); side = None; answer = answers.Refused 1100 None; missed = None; draw = None }
    ∷ record { actor = (Client 1); session = 1; asked = Call requests.Begin; side = None; answer = answers.Ok 0; missed = None; draw = None }
    ∷ record { actor = (Client 1); session = 1; asked = Call (requests.ChunkEnd (codes "t") Free ((Text (codes "6")) ∷ []) 1); side = None; answer = answers.End ((Text (codes "6")) ∷ []); missed = None; draw = None }
    ∷ record { actor = (Client 4); session = 4; asked = Call (requests.Do (statements.Select (codes "u") shown.All conditions.All)); side = None; answer = answers.Rows []; missed = None; draw = None }
    ∷ record { actor = (Client 2); session = 2; asked = Call requests.ShowTables; side = None; answer = answers.Tables (record { name = codes "t"; comment = [] } ∷ record { name = codes "u"; comment = [] } ∷ record { name = codes "w"; comment = [] } ∷ []); missed = None; draw = None }
    ∷ record { actor = (Client 4); session = 4; asked = Call (requests.Do (statements.Insert (codes "t") None ((Text (codes "c")) ∷ (Num (pos 4)) ∷ (Num (pos 1)) ∷ []) None)); side = None; answer = answers.Refused 1100 None; missed = None; draw = None }
    ∷ record { actor = (Client 4); session = 4; asked = Call (requests.Do (statements.Update (codes "u") (record { column = codes "id"; value = (Num (pos 5)) } ∷ []) (conditions.Equal (record { column = codes "id"; value = (Num (pos 5)) } ∷ [])))); side = None; answer = answers.Ok 0; missed = None; draw = None }
    ∷ record { actor = (Client 1); session = 1; asked = Call (requests.Do (statements.Insert (codes "t") (Some (codes "id" ∷ [])) ((Text (codes "g")) ∷ []) None)); side = None; answer = answers.Refused 1364 None; missed = None; draw = None }
    ∷ record { actor = (Client 4); session = 4; asked = Call (requests.Do (statements.Replace (codes "t") (Some (codes "id" ∷ codes "m0" ∷ [])) ((Text (codes "e")) ∷ (Num (pos 7)) ∷ []) None)); side = None; answer = answers.Refused 1100 None; missed = None; draw = None }
    ∷ record { actor = Insp; session = 3; asked = Poll; side = None; answer = answers.Waits 4; missed = None; draw = None }
    ∷ record { actor = (Client 2); session = 2; asked = Cut; side = None; answer = answers.Lost; missed = None; draw = None }
    ∷ record { actor = Insp; session = 3; asked = Poll; side = None; answer = answers.Waits 4; missed = None; draw = None }
    ∷ record { actor = Insp; session = 3; asked = Poll; side = None; answer = answers.TimedOut 4; missed = None; draw = None }
    ∷ record { actor = Insp; session = 3; asked = Call (requests.LockTables (codes "x" ∷ [])); side = None; answer = answers.Refused 1146 None; missed = None; draw = None }
    ∷ record { actor = (Client 4); session = 4; asked = Call (requests.Do (statements.Update (codes "u") (record { column = codes "id"; value = (Num (pos 3)) } ∷ record { column = codes "v"; value = (Num (pos 6)) } ∷ []) (conditions.Range (record { column = codes "id"; sign = signs.AtLeast; value = (Num (pos 7)) } ∷ record { column = codes "id"; sign = signs.AtMost; value = (Num (pos 3)) } ∷ [])))); side = None; answer = answers.Ok 0; missed = None; draw = None }
    ∷ record { actor = (Client 4); session = 4; asked = Call requests.Unlock; side = None; answer = answers.Ok 0; missed = None; draw = None }
    ∷ record { actor = (Client 4); session = 4; asked = Call (requests.Do (statements.Insert (codes "w") (Some (codes "id" ∷ codes "v" ∷ [])) ((Num (pos 6)) ∷ (Text (codes "e")) ∷ []) None)); side = (Some sides_at.After); answer = answers.Lost; missed = (Some (answers.Ok 1)); draw = None }
    ∷ record { actor = (Client 1); session = 1; asked = Call (requests.Do (statements.Replace (codes "w") None ((Num (pos 6)) ∷ (Num (pos 6)) ∷ []) None)); side = None; answer = answers.Ok 2; missed = None; draw = None }
    ∷ record { actor = (Client 1); session = 1; asked = Call (requests.ReadLog 2 1 (codes "w" ∷ [])); side = None; answer = answers.Events [] 1; missed = None; draw = None }
    ∷ record { actor = Insp; session = 3; asked = Call (requests.Do (statements.Delete (codes "w") (conditions.Equal (record { column = codes "id"; value = (Num (pos 6)) } ∷ [])))); side = (Some sides_at.Before); answer = answers.Lost; missed = None; draw = None }
    ∷ record { actor = (Client 1); session = 1; asked = Call (requests.ChunkEnd (codes "u") (Open ((Num (pos 2)) ∷ [])) ((Num (pos 6)) ∷ []) 3); side = None; answer = answers.End ((Num (pos 6)) ∷ []); missed = None; draw = None }
    ∷ record { actor = (Client 1); session = 1; asked = Call (requests.Do (statements.Select (codes "u") (shown.Columns (codes "id" ∷ [])) (conditions.Equal (record { column = codes "id"; value = (Num (pos 1)) } ∷ [])))); side = None; answer = answers.Rows []; missed = None; draw = None }
    ∷ record { actor = (Client 6); session = 6; asked = Call (requests.Do (statements.Replace (codes "w") None ((Num (pos 7)) ∷ (Text (codes "b")) ∷ (Num (pos 1)) ∷ []) None)); side = None; answer = answers.Refused 1136 None; missed = None; draw = None }
    ∷ record { actor = (Client 6); session = 6; asked = Call requests.ShowWaiting; side = None; answer = answers.Waiting []; missed = None; draw = None }
    ∷ record { actor = (Client 1); session = 1; asked = Call (requests.Do (statements.Select (codes "u") shown.All (conditions.Equal (record { column = codes "id"; value = (Num (pos 7)) } ∷ [])))); side = None; answer = answers.Rows []; missed = None; draw = None }
    ∷ []

served_20 : IsServed (record { client_wait = 4; tool_wait = 4 }) tables_20 asked_20
unfolding computing
served_20 = record { answers = refl; sides = refl }

-- Sequence 21
abbrev tables_21 : Database
tables_21 = (record { schema = record { name = codes "t"; columns = (record { name = codes "id"; kind = Int 8 false; nullable = false; default = None; auto = false } ∷ record { name = codes "m0"; kind = VarChar 3; nullable = true; default = (Some Null); auto = false } ∷ record { name = codes "v"; kind = VarChar 6; nullable = true; default = (Some Null); auto = false } ∷ []); uniques = (record { name = None; places = (0 ∷ []) } ∷ record { name = (Some (codes "u0")); places = (1 ∷ []) } ∷ []); indexes = (record { name = (Some (codes "v")); places = (2 ∷ []) } ∷ []); comment = []; start = None }; rows = (((Num (pos 1)) ∷ (Text (codes "b")) ∷ Null ∷ []) ∷ ((Num (pos 3)) ∷ (Text (codes "d")) ∷ Null ∷ []) ∷ ((Num (pos 6)) ∷ Null ∷ (Text (codes "e")) ∷ []) ∷ ((Num (pos 7)) ∷ (Text (codes "a")) ∷ (Text (codes "2")) ∷ []) ∷ []) } ∷ record { schema = record { name = codes "u"; columns = (record { name = codes "id"; kind = Int 4 false; nullable = false; default = None; auto = false } ∷ record { name = codes "m0"; kind = Int 4 false; nullable = true; default = (Some Null); auto = false } ∷ record { name = codes "v"; kind = Int 2 false; nullable = true; default = (Some Null); auto = false } ∷ []); uniques = (record { name = None; places = (0 ∷ []) } ∷ record { name = (Some (codes "u0")); places = (1 ∷ []) } ∷ []); indexes = []; comment = codes "x"; start = None }; rows = (((Num (pos 3)) ∷ (Num (pos 4)) ∷ (Num (pos 5)) ∷ []) ∷ []) } ∷ record { schema = record { name = codes "w"; columns = (record { name = codes "id"; kind = Int 4 false; nullable = false; default = None; auto = false } ∷ record { name = codes "m0"; kind = Int 4 false; nullable = true; default = (Some Null); auto = false } ∷ record { name = codes "v"; kind = Int 4 false; nullable = true; default = (Some (Num (pos 5))); auto = false } ∷ []); uniques = (record { name = None; places = (0 ∷ []) } ∷ record { name = (Some (codes "u0")); places = (1 ∷ []) } ∷ []); indexes = []; comment = []; start = None }; rows = [] } ∷ [])

abbrev asked_21 : List Entry
asked_21 =
    record { actor = (Client 1); session = 1; asked = Call (requests.Drop (codes "y")); side = None; answer = answers.Refused 1051 None; missed = None; draw = None }
    ∷ record { actor = (Client 1); session = 1; asked = Call (requests.Do (statements.Delete (codes "w") (conditions.Equal (record { column = codes "id"; value = (Num (pos 3)) } ∷ [])))); side = None; answer = answers.Ok 0; missed = None; draw = None }
    ∷ record { actor = (Client 1); session = 1; asked = Call (requests.Do (statements.Update (codes "u") (record { column = codes "id"; value = (Num (pos 2)) } ∷ []) (conditions.Range (record { column = codes "id"; sign = signs.AtLeast; value = (Num (pos 2)) } ∷ record { column = codes "id"; sign = signs.AtMost; value = (Num (pos 3)) } ∷ [])))); side = None; answer = answers.Ok 1; missed = None; draw = None }
    ∷ record { actor = (Client 1); session = 1; asked = Call requests.LogEnd; side = None; answer = answers.At 1; missed = None; draw = None }
    ∷ record { actor = (Client 1); session = 1; asked = Call (requests.Do (statements.Update (codes "w") (record { column = codes "m0"; value = Null } ∷ []) (conditions.Equal (record { column = codes "id"; value = (Num (pos 7)) } ∷ [])))); side = None; answer = answers.Ok 0; missed = None; draw = None }
    ∷ record { actor = (Client 1); session = 1; asked = Call (requests.Drop (codes "u")); side = None; answer = answers.Ok 0; missed = None; draw = None }
    ∷ record { actor = Insp; session = 3; asked = Call requests.Begin; side = None; answer = answers.Ok 0; missed = None; draw = None }
    ∷ record { actor = (Client 4); session = 4; asked = Call (requests.Do (statements.Select (codes "u") shown.All (conditions.Equal (record { column = codes "id"; value = (Num (pos 1)) } ∷ [])))); side = None; answer = answers.Refused 1146 None; missed = None; draw = None }
    ∷ record { actor = (Client 4); session = 4; asked = Call (requests.ReadLog 2 1 (codes "u" ∷ [])); side = None; answer = answers.Events [] 1; missed = None; draw = None }
    ∷ record { actor = (Client 4); session = 4; asked = Cut; side = None; answer = answers.Lost; missed = None; draw = None }
    ∷ record { actor = Insp; session = 2; asked = Call (requests.ReadLog 0 1 (codes "w" ∷ [])); side = None; answer = answers.Events [] 1; missed = None; draw = None }
    ∷ record { actor = Insp; session = 3; asked = Call (requests.ChunkEnd (codes "t") Free ((Num (pos 6)) ∷ []) 3); side = None; answer = answers.End ((Num (pos 6)) ∷ []); missed = None; draw = None }
    ∷ record { actor = Insp; session = 2; asked = Call (requests.Do (statements.Select (codes "t") shown.All (conditions.Equal (record { column = codes "m0"; value = (Text (codes "b")) } ∷ [])))); side = None; answer = answers.Rows (((Num (pos 1)) ∷ (Text (codes "b")) ∷ Null ∷ []) ∷ []); missed = None; draw = None }
    ∷ record { actor = (Client 5); session = 5; asked = Call (requests.Do (statements.Replace (codes "t") None ((Num (pos 4)) ∷ Null ∷ (Text (codes "e")) ∷ []) None)); side = None; answer = answers.Ok 1; missed = None; draw = None }
    ∷ record { actor = (Client 5); session = 5; asked = Call (requests.Drop (codes "u")); side = None; answer = answers.Refused 1051 None; missed = None; draw = None }
    ∷ record { actor = (Client 1); session = 1; asked = Call (requests.ChunkEnd (codes "t") Free ((Num (pos 6)) ∷ []) 3); side = None; answer = answers.End ((Num (pos 4)) ∷ []); missed = None; draw = None }
    ∷ record { actor = (Client 5); session = 5; asked = Call (requests.Do (statements.Update (codes "w") (record { column = codes "m0"; value = (Text (codes "6")) } ∷ []) (conditions.Range (record { column = codes "id"; sign = signs.AtLeast; value = (Num (pos 7)) } ∷ record { column = codes "id"; sign = signs.AtMost; value = (Num (pos 5)) } ∷ [])))); side = (Some sides_at.Before); answer = answers.Lost; missed = None; draw = None }
    ∷ record { actor = Insp; session = 2; asked = Call requests.LogEnd; side = None; answer = answers.At 2; missed = None; draw = None }
    ∷ record { actor = Insp; session = 2; asked = Call requests.Begin; side = None; answer = answers.Ok 0; missed = None; draw = None }
    ∷ record { actor = (Client 1); session = 1; asked = Call (requests.Do (statements.Insert (codes "u") None ((Num (pos 4)) ∷ (Num (pos 2)) ∷ (Text (codes "abcdef")) ∷ []) None)); side = None; answer = answers.Refused 1146 None; missed = None; draw = None }
    ∷ record { actor = Insp; session = 3; asked = Call requests.ShowTables; side = None; answer = answers.Tables (record { name = codes "t"; comment = [] } ∷ record { name = codes "w"; comment = [] } ∷ []); missed = None; draw = None }
    ∷ record { actor = (Client 1); session = 1; asked = Call (requests.LockTables (codes "t" ∷ [])); side = None; answer = answers.Ok 0; missed = None; draw = None }
    ∷ record { actor = Insp; session = 3; asked = Call (requests.CopyRow (codes "w") (codes "w") (record { kind = Int 4 false; nullable = false; origin = from.Old 2 } ∷ record { kind = Int 4 false; nullable = true; origin = from.Old 0 } ∷ record { kind = Int 4 false; nullable = true; origin = from.Old 0 } ∷ []) ((Num (pos 3)) ∷ [])); side = None; answer = answers.Ok 0; missed = None; draw = None }
    ∷ record { actor = (Client 1); session = 1; asked = Call (requests.Rename (record { old = codes "x"; new = codes "x" } ∷ [])); side = None; answer = answers.Refused 1100 None; missed = None; draw = None }
    ∷ record { actor = (Client 1); session = 1; asked = Call requests.Unlock; side = None; answer = answers.Ok 0; missed = None; draw = None }
    ∷ record { actor = Insp; session = 2; asked = Call (requests.ReadLog 3 1 (codes "w" ∷ codes "x" ∷ [])); side = None; answer = answers.Events [] 2; missed = None; draw = None }
    ∷ record { actor = (Client 1); session = 1; asked = Call (requests.Do (statements.Delete (codes "u") (conditions.Equal (record { column = codes "id"; value = (Num (pos 4)) } ∷ [])))); side = None; answer = answers.Refused 1146 None; missed = None; draw = None }
    ∷ record { actor = Insp; session = 3; asked = Call requests.Rollback; side = None; answer = answers.Ok 0; missed = None; draw = None }
    ∷ record { actor = (Client 1); session = 1; asked = Call (requests.ReadLog 0 2 (codes "t" ∷ codes "y" ∷ [])); side = None; answer = answers.Events (record { table = codes "t"; change = changes.Write ((Num (pos 4)) ∷ Null ∷ (Text (codes "e")) ∷ []) } ∷ []) 2; missed = None; draw = None }
    ∷ record { actor = (Client 1); session = 1; asked = Call (requests.Create (record { name = codes "t"; columns = (record { name = codes "id"; kind = Int 4 false; nullable = false; default = None; auto = false } ∷ record { name = codes "m0"; kind = Int 4 false; nullable = true; default = (Some Null); auto = false } ∷ record { name = codes "v"; kind = Int 4 false; nullable = true; default = (Some (Num (pos 5))); auto = false } ∷ []); uniques = (record { name = None; places = (0 ∷ []) } ∷ record { name = (Some (codes "u0")); places = (1 ∷ []) } ∷ []); indexes = []; comment = codes "z"; start = None })); side = None; answer = answers.Refused 1050 None; missed = None; draw = None }
    ∷ record { actor = Insp; session = 6; asked = Call requests.ShowTables; side = None; answer = answers.Tables (record { name = codes "t"; comment = [] } ∷ record { name = codes "w"; comment = [] } ∷ []); missed = None; draw = None }
    ∷ record { actor = Insp; session = 2; asked = Call requests.ShowWaiting; side = (Some sides_at.After); answer = answers.Lost; missed = (Some (answers.Waiting [])); draw = None }
    ∷ record { actor = Insp; session = 3; asked = Call requests.ShowTables; side = None; answer = answers.Tables (record { name = codes "t"; comment = [] } ∷ record { name = codes "w"; comment = [] } ∷ []); missed = None; draw = None }
    ∷ record { actor = Insp; session = 6; asked = Call (requests.Drop (codes "u")); side = None; answer = answers.Refused 1051 None; missed = None; draw = None }
    ∷ record { actor = (Client 1); session = 1; asked = Call (requests.LockTables (codes "u" ∷ codes "x" ∷ [])); side = None; answer = answers.Refused 1146 None; missed = None; draw = None }
    ∷ record { actor = Insp; session = 3; asked = Call requests.ShowTables; side = None; answer = answers.Tables (record { name = codes "t"; comment = [] } ∷ record { name = codes "w"; comment = [] } ∷ []); missed = None; draw = None }
    ∷ record { actor = (Client 1); session = 1; asked = Call requests.ShowTables; side = None; answer = answers.Tables (record { name = codes "t"; comment = [] } ∷ record { name = codes "w"; comment = [] } ∷ []); missed = None; draw = None }
    ∷ record { actor = (Client 1); session = 1; asked = Call (requests.BeginSpan (codes "x") (record { low = Free; high = (Closed ((Num (pos 1)) ∷ [])) }) 1); side = None; answer = answers.Refused 1146 None; missed = None; draw = None }
    ∷ record { actor = (Client 1); session = 1; asked = Call requests.LogEnd; side = None; answer = answers.At 2; missed = None; draw = None }
    ∷ record { actor = (Client 1); session = 1; asked = Call (requests.ReadLog 5 5 (codes "u" ∷ [])); side = None; answer = answers.Events [] 2; missed = None; draw = None }
    ∷ record { actor = Insp; session = 3; asked = Call (requests.Do (statements.Select (codes "u") shown.All conditions.All)); side = None; answer = answers.Refused 1146 None; missed = None; draw = None }
    ∷ record { actor = Insp; session = 3; asked = Call requests.ShowTables; side = None; answer = answers.Tables (record { name = codes "t"; comment = [] } ∷ record { name = codes "w"; comment = [] } ∷ []); missed = None; draw = None }
    ∷ record { actor = (Client 1); session = 1; asked = Call (requests.LockTables (codes "t" ∷ [])); side = (Some sides_at.Before); answer = answers.Lost; missed = None; draw = None }
    ∷ record { actor = Insp; session = 6; asked = Call (requests.Do (statements.Insert (codes "y") (Some (codes "id" ∷ codes "v" ∷ [])) ((Num (pos 6)) ∷ (Num (pos 4)) ∷ []) None)); side = None; answer = answers.Refused 1146 None; missed = None; draw = None }
    ∷ []

served_21 : IsServed (record { client_wait = 1; tool_wait = 2 }) tables_21 asked_21
unfolding computing
served_21 = record { answers = refl; sides = refl }

-- Sequence 22
abbrev tables_22 : Database
tables_22 = (record { schema = record { name = codes "t"; columns = (record { name = codes "id"; kind = Int 4 false; nullable = false; default = None; auto = false } ∷ record { name = codes "v"; kind = Int 2 false; nullable = true; default = (Some (Num (pos 5))); auto = false } ∷ []); uniques = (record { name = None; places = (0 ∷ []) } ∷ []); indexes = []; comment = []; start = None }; rows = (((Num (pos 1)) ∷ (Num (pos 5)) ∷ []) ∷ ((Num (pos 3)) ∷ (Num (pos 7)) ∷ []) ∷ ((Num (pos 4)) ∷ (Num (pos 6)) ∷ []) ∷ ((Num (pos 5)) ∷ (Num (pos 1)) ∷ []) ∷ ((Num (pos 6)) ∷ Null ∷ []) ∷ []) } ∷ record { schema = record { name = codes "u"; columns = (record { name = codes "id"; kind = Int 1 false; nullable = false; default = None; auto = false } ∷ record { name = codes "v"; kind = VarChar 6; nullable = true; default = (Some Null); auto = false } ∷ []); uniques = (record { name = None; places = (0 ∷ []) } ∷ []); indexes = []; comment = []; start = None }; rows = (((Num (pos 1)) ∷ (Text (codes "a")) ∷ []) ∷ ((Num (pos 3)) ∷ Null ∷ []) ∷ ((Num (pos 4)) ∷ (Text (codes "5")) ∷ []) ∷ ((Num (pos 5)) ∷ (Text (codes "e")) ∷ []) ∷ ((Num (pos 6)) ∷ Null ∷ []) ∷ ((Num (pos 7)) ∷ (Text (codes "d")) ∷ []) ∷ []) } ∷ record { schema = record { name = codes "w"; columns = (record { name = codes "id"; kind = Int 4 false; nullable = false; default = None; auto = false } ∷ record { name = codes "v"; kind = Int 2 false; nullable = true; default = (Some (Num (pos 5))); auto = false } ∷ []); uniques = (record { name = (Some (codes "k")); places = (0 ∷ []) } ∷ []); indexes = (record { name = (Some (codes "v")); places = (1 ∷ []) } ∷ []); comment = []; start = None }; rows = (((Num (pos 3)) ∷ (Num (pos 6)) ∷ []) ∷ ((Num (pos 5)) ∷ (Num (pos 7)) ∷ []) ∷ ((Num (pos 6)) ∷ Null ∷ []) ∷ ((Num (pos 7)) ∷ (Num (pos 2)) ∷ []) ∷ []) } ∷ [])

abbrev asked_22 : List Entry
asked_22 =
    record { actor = Insp; session = 1; asked = Call (requests.LockTables (codes "w" ∷ [])); side = None; answer = answers.Ok 0; missed = None; draw = None }
    ∷ record { actor = Insp; session = 1; asked = Call (requests.Do (statements.Replace (codes "w") None ((Num (pos 1)) ∷ (Num (pos 5)) ∷ []) None)); side = None; answer = answers.Ok 1; missed = None; draw = None }
    ∷ record { actor = Insp; session = 1; asked = Call (requests.ChunkEnd (codes "t") Free ((Num (pos 5)) ∷ []) 2); side = None; answer = answers.Refused 1100 None; missed = None; draw = None }
    ∷ record { actor = Insp; session = 1; asked = Call (requests.Rename (record { old = codes "x"; new = codes "t" } ∷ [])); side = None; answer = answers.Refused 1100 None; missed = None; draw = None }
    ∷ record { actor = Insp; session = 1; asked = Call (requests.Ends (codes "w")); side = None; answer = answers.Ends (Some (record { least = ((Num (pos 1)) ∷ []); greatest = ((Num (pos 7)) ∷ []) })); missed = None; draw = None }
    ∷ record { actor = Insp; session = 1; asked = Call (requests.Do (statements.Update (codes "u") (record { column = codes "id"; value = (Num (pos 7)) } ∷ record { column = codes "v"; value = (Text (codes "b")) } ∷ []) (conditions.Equal (record { column = codes "id"; value = (Num (pos 6)) } ∷ [])))); side = None; answer = answers.Refused 1100 None; missed = None; draw = None }
    ∷ record { actor = Insp; session = 1; asked = Call (requests.Rename (record { old = codes "w"; new = codes "t" } ∷ record { old = codes "x"; new = codes "x" } ∷ record { old = codes "t"; new = codes "u" } ∷ [])); side = None; answer = answers.Refused 1100 None; missed = None; draw = None }
    ∷ record { actor = Insp; session = 1; asked = Cut; side = None; answer = answers.Lost; missed = None; draw = None }
    ∷ record { actor = (Client 2); session = 2; asked = Call requests.LogEnd; side = None; answer = answers.At 1; missed = None; draw = None }
    ∷ record { actor = (Client 2); session = 2; asked = Call requests.Begin; side = (Some sides_at.Before); answer = answers.Lost; missed = None; draw = None }
    ∷ record { actor = (Client 3); session = 3; asked = Call (requests.Drop (codes "t")); side = None; answer = answers.Ok 0; missed = None; draw = None }
    ∷ record { actor = Insp; session = 5; asked = Call (requests.Drop (codes "t")); side = None; answer = answers.Refused 1051 None; missed = None; draw = None }
    ∷ record { actor = Insp; session = 4; asked = Call (requests.Do (statements.Insert (codes "u") (Some (codes "id" ∷ codes "v" ∷ [])) ((Num (pos 2)) ∷ (Text (codes "zzzzzzzzz")) ∷ []) None)); side = None; answer = answers.Refused 1406 (Some 1); missed = None; draw = None }
    ∷ record { actor = (Client 3); session = 3; asked = Call (requests.Do (statements.Insert (codes "u") (Some (codes "id" ∷ codes "v" ∷ [])) ((Num (pos 5)) ∷ Null ∷ []) None)); side = None; answer = answers.Refused 1062 None; missed = None; draw = None }
    ∷ record { actor = Insp; session = 4; asked = Call (requests.Do (statements.Update (codes "t") (record { column = codes "id"; value = (Num (pos 5)) } ∷ record { column = codes "v"; value = (Num (pos 6)) } ∷ []) (conditions.Range (record { column = codes "id"; sign = signs.More; value = (Num (pos 99999999999)) } ∷ record { column = codes "id"; sign = signs.Less; value = (Num (pos 3)) } ∷ [])))); side = (Some sides_at.After); answer = answers.Lost; missed = (Some (answers.Refused 1146 None)); draw = None }
    ∷ record { actor = (Client 3); session = 3; asked = Call (requests.Do (statements.Insert (codes "t") None ((Num (pos 4)) ∷ (Num (pos 4)) ∷ []) None)); side = (Some sides_at.Before); answer = answers.Lost; missed = None; draw = None }
    ∷ record { actor = Insp; session = 5; asked = Call requests.ShowTables; side = (Some sides_at.Before); answer = answers.Lost; missed = None; draw = None }
    ∷ record { actor = (Client 6); session = 6; asked = Call (requests.Do (statements.Replace (codes "u") (Some (codes "id" ∷ codes "v" ∷ [])) ((Text (codes "4")) ∷ (Num (pos 2)) ∷ []) None)); side = None; answer = answers.Ok 2; missed = None; draw = None }
    ∷ record { actor = (Client 6); session = 6; asked = Call (requests.Do (statements.Update (codes "t") (record { column = codes "id"; value = (Num (pos 4)) } ∷ []) (conditions.Range (record { column = codes "id"; sign = signs.AtMost; value = (Num (pos 6)) } ∷ record { column = codes "id"; sign = signs.AtLeast; value = (Num (pos 5)) } ∷ [])))); side = None; answer = answers.Refused 1146 None; missed = None; draw = None }
    ∷ record { actor = (Client 6); session = 6; asked = Call (requests.Drop (codes "u")); side = (Some sides_at.Before); answer = answers.Lost; missed = None; draw = None }
    ∷ record { actor = (Client 7); session = 7; asked = Call (requests.Do (statements.Select (codes "w") shown.Count (conditions.Equal (record { column = codes "id"; value = (Num (pos 6)) } ∷ [])))); side = None; answer = answers.Rows (((Num (pos 1)) ∷ []) ∷ []); missed = None; draw = None }
    ∷ record { actor = (Client 7); session = 7; asked = Call (requests.Ends (codes "t")); side = None; answer = answers.Refused 1146 None; missed = None; draw = None }
    ∷ record { actor = (Client 7); session = 7; asked = Call (requests.BeginSpan (codes "u") (record { low = (Open ((Num (pos 6)) ∷ [])); high = (Closed ((Num (pos 4)) ∷ [])) }) 3); side = None; answer = answers.Keys [] ((Num (pos 4)) ∷ []); missed = None; draw = None }
    ∷ record { actor = (Client 7); session = 7; asked = Call (requests.CopyRow (codes "w") (codes "u") (record { kind = Int 1 false; nullable = false; origin = from.Old 0 } ∷ record { kind = VarChar 6; nullable = true; origin = from.Old 0 } ∷ []) ((Num (pos 1)) ∷ [])); side = None; answer = answers.Ok 0; missed = None; draw = None }
    ∷ record { actor = (Client 7); session = 7; asked = Call requests.LogEnd; side = None; answer = answers.At 3; missed = None; draw = None }
    ∷ record { actor = (Client 7); session = 7; asked = Call (requests.Do (statements.Insert (codes "t") None ((Num (pos 1)) ∷ (Num (pos 1)) ∷ []) None)); side = None; answer = answers.Refused 1146 None; missed = None; draw = None }
    ∷ record { actor = Insp; session = 8; asked = Call (requests.ReadLog 4 5 (codes "w" ∷ codes "t" ∷ [])); side = None; answer = answers.Events [] 3; missed = None; draw = None }
    ∷ record { actor = Insp; session = 9; asked = Call (requests.ReadLog 1 1 (codes "t" ∷ [])); side = None; answer = answers.Events [] 3; missed = None; draw = None }
    ∷ record { actor = Insp; session = 8; asked = Call (requests.ReadLog 2 1 (codes "x" ∷ [])); side = None; answer = answers.Events [] 3; missed = None; draw = None }
    ∷ record { actor = Insp; session = 8; asked = Call requests.ShowTables; side = None; answer = answers.Tables (record { name = codes "u"; comment = [] } ∷ record { name = codes "w"; comment = [] } ∷ []); missed = None; draw = None }
    ∷ record { actor = Insp; session = 9; asked = Call requests.LogEnd; side = None; answer = answers.At 3; missed = None; draw = None }
    ∷ record { actor = Insp; session = 9; asked = Call (requests.Do (statements.Replace (codes "u") None ((Num (pos 2)) ∷ (Num (pos 2)) ∷ []) None)); side = None; answer = answers.Ok 1; missed = None; draw = None }
    ∷ record { actor = Insp; session = 8; asked = Call (requests.Do (statements.Delete (codes "u") (conditions.Equal (record { column = codes "id"; value = (Num (pos 5)) } ∷ [])))); side = None; answer = answers.Ok 1; missed = None; draw = None }
    ∷ record { actor = (Client 7); session = 7; asked = Call (requests.Do (statements.Insert (codes "w") None ((Num (pos 5)) ∷ (Num (pos 1)) ∷ []) None)); side = None; answer = answers.Refused 1062 None; missed = None; draw = None }
    ∷ record { actor = Insp; session = 9; asked = Call (requests.Create (record { name = codes "x"; columns = (record { name = codes "id"; kind = Int 1 false; nullable = false; default = None; auto = false } ∷ record { name = codes "v"; kind = VarChar 6; nullable = true; default = (Some Null); auto = false } ∷ []); uniques = (record { name = None; places = (0 ∷ []) } ∷ []); indexes = []; comment = []; start = None })); side = (Some sides_at.After); answer = answers.Lost; missed = (Some (answers.Ok 0)); draw = None }
    ∷ record { actor = (Client 7); session = 7; asked = Call (requests.Create (record { name = codes "t"; columns = (record { name = codes "id"; kind = Int 4 false; nullable = false; default = None; auto = false } ∷ record { name = codes "v"; kind = Int 2 false; nullable = true; default = (Some (Num (pos 5))); auto = false } ∷ []); uniques = (record { name = None; places = (0 ∷ []) } ∷ []); indexes = []; comment = codes "z"; start = None })); side = None; answer = answers.Ok 0; missed = None; draw = None }
    ∷ record { actor = Insp; session = 8; asked = Call (requests.Do (statements.Delete (codes "w") (conditions.Equal (record { column = codes "id"; value = (Num (pos 5)) } ∷ [])))); side = None; answer = answers.Waits 7; missed = None; draw = None }
    ∷ record { actor = (Client 7); session = 7; asked = Call (requests.ReadLog 4 5 (codes "x" ∷ [])); side = None; answer = answers.Events [] 5; missed = None; draw = None }
    ∷ record { actor = Insp; session = 8; asked = Poll; side = None; answer = answers.TimedOut 1; missed = None; draw = None }
    ∷ record { actor = Insp; session = 8; asked = Call (requests.Do (statements.Insert (codes "w") (Some (codes "id" ∷ codes "v" ∷ [])) ((Num (pos 3)) ∷ (Num (pos 1000)) ∷ []) None)); side = None; answer = answers.Refused 1062 None; missed = None; draw = None }
    ∷ record { actor = (Client 7); session = 7; asked = Call (requests.Do (statements.Update (codes "u") (record { column = codes "v"; value = Null } ∷ []) (conditions.Equal (record { column = codes "id"; value = (Num (pos 4)) } ∷ [])))); side = None; answer = answers.Ok 1; missed = None; draw = None }
    ∷ []

served_22 : IsServed (record { client_wait = 1; tool_wait = 1 }) tables_22 asked_22
unfolding computing
served_22 = record { answers = refl; sides = refl }

-- Sequence 23
abbrev tables_23 : Database
tables_23 = (record { schema = record { name = codes "t"; columns = (record { name = codes "v"; kind = Int 2 false; nullable = true; default = (Some Null); auto = false } ∷ record { name = codes "id"; kind = Int 1 false; nullable = false; default = None; auto = false } ∷ []); uniques = (record { name = None; places = (1 ∷ []) } ∷ []); indexes = (record { name = (Some (codes "v")); places = (0 ∷ []) } ∷ []); comment = []; start = None }; rows = (((Num (pos 6)) ∷ (Num (pos 5)) ∷ []) ∷ []) } ∷ record { schema = record { name = codes "u"; columns = (record { name = codes "a"; kind = Int 4 false; nullable = false; default = None; auto = false } ∷ record { name = codes "c"; kind = Int 4 false; nullable = false; default = None; auto = false } ∷ record { name = codes "m0"; kind = Int 1 false; nullable = false; default = (Some (Num (pos 1))); auto = false } ∷ record { name = codes "m1"; kind = Int 4 false; nullable = true; default = (Some Null); auto = false } ∷ []); uniques = (record { name = None; places = (0 ∷ 1 ∷ []) } ∷ record { name = (Some (codes "u0")); places = (2 ∷ []) } ∷ record { name = (Some (codes "u1")); places = (0 ∷ 3 ∷ []) } ∷ []); indexes = []; comment = []; start = None }; rows = (((Num (pos 1)) ∷ (Num (pos 5)) ∷ (Num (pos 7)) ∷ Null ∷ []) ∷ ((Num (pos 3)) ∷ (Num (pos 4)) ∷ (Num (pos 1)) ∷ (Num (pos 5)) ∷ []) ∷ ((Num (pos 5)) ∷ (Num (pos 5)) ∷ (Num (pos 5)) ∷ (Num (pos 2)) ∷ []) ∷ ((Num (pos 6)) ∷ (Num (pos 2)) ∷ (Num (pos 6)) ∷ Null ∷ []) ∷ ((Num (pos 6)) ∷ (Num (pos 6)) ∷ (Num (pos 4)) ∷ (Num (pos 4)) ∷ []) ∷ []) } ∷ record { schema = record { name = codes "w"; columns = (record { name = codes "id"; kind = Int 4 false; nullable = false; default = None; auto = false } ∷ record { name = codes "m0"; kind = VarChar 3; nullable = true; default = (Some Null); auto = false } ∷ []); uniques = (record { name = (Some (codes "k")); places = (0 ∷ []) } ∷ record { name = (Some (codes "u0")); places = (1 ∷ []) } ∷ []); indexes = []; comment = []; start = None }; rows = (((Num (pos 1)) ∷ (Text (codes "4")) ∷ []) ∷ ((Num (pos 2)) ∷ Null ∷ []) ∷ ((Num (pos 4)) ∷ (Text (codes "b")) ∷ []) ∷ ((Num (pos 6)) ∷ Null ∷ []) ∷ ((Num (pos 7)) ∷ (Text (codes "d")) ∷ []) ∷ []) } ∷ [])

abbrev asked_23 : List Entry
asked_23 =
    record { actor = Insp; session = 1; asked = Call (requests.Do (statements.Select (codes "u") shown.Count (conditions.Equal (record { column = codes "m1"; value = (Num (pos 2)) } ∷ record { column = codes "a"; value = (Num (pos 1)) } ∷ [])))); side = None; answer = answers.Rows (((Num (pos 0)) ∷ []) ∷ []); missed = None; draw = None }
    ∷ record { actor = Insp; session = 1; asked = Call (requests.Drop (codes "w")); side = None; answer = answers.Ok 0; missed = None; draw = None }
    ∷ record { actor = Insp; session = 1; asked = Call (requests.Do (statements.Insert (codes "w") (Some (codes "id" ∷ codes "m0" ∷ [])) ((Num (pos 1)) ∷ (Text (codes "a")) ∷ []) None)); side = None; answer = answers.Refused 1146 None; missed = None; draw = None }
    ∷ record { actor = Insp; session = 1; asked = Call requests.LogEnd; side = None; answer = answers.At 0; missed = None; draw = None }
    ∷ record { actor = Insp; session = 1; asked = Call (requests.ReadLog 1 5 (codes "y" ∷ codes "x" ∷ [])); side = None; answer = answers.Events [] 0; missed = None; draw = None }
    ∷ record { actor = Insp; session = 1; asked = Call (requests.Do (statements.Insert (codes "w") (Some (codes "id" ∷ codes "m0" ∷ [])) ((Num (pos 6)) ∷ (Text (codes "a")) ∷ []) None)); side = None; answer = answers.Refused 1146 None; missed = None; draw = None }
    ∷ record { actor = Insp; session = 3; asked = Call requests.LogEnd; side = None; answer = answers.At 0; missed = None; draw = None }
    ∷ record { actor = Insp; session = 2; asked = Call (requests.Ends (codes "w")); side = None; answer = answers.Refused 1146 None; missed = None; draw = None }
    ∷ record { actor = Insp; session = 3; asked = Call (requests.Drop (codes "w")); side = None; answer = answers.Refused 1051 None; missed = None; draw = None }
    ∷ record { actor = Insp; session = 1; asked = Call (requests.Do (statements.Select (codes "t") (shown.Columns (codes "v" ∷ [])) (conditions.Equal (record { column = codes "v"; value = (Num (pos 1)) } ∷ [])))); side = None; answer = answers.Refused 1235 None; missed = None; draw = None }
    ∷ record { actor = (Client 4); session = 4; asked = Call (requests.Do (statements.Select (codes "w") shown.Count (conditions.Equal (record { column = codes "id"; value = (Num (pos 5)) } ∷ [])))); side = (Some sides_at.After); answer = answers.Lost; missed = (Some (answers.Refused 1146 None)); draw = None }
    ∷ record { actor = Insp; session = 2; asked = Cut; side = None; answer = answers.Lost; missed = None; draw = None }
    ∷ record { actor = Insp; session = 3; asked = Call (requests.Do (statements.Insert (codes "t") (Some (codes "v" ∷ codes "id" ∷ [])) ((Num (pos 5)) ∷ (Num (pos 6)) ∷ []) None)); side = None; answer = answers.Ok 1; missed = None; draw = None }
    ∷ record { actor = Insp; session = 3; asked = Call (requests.Do (statements.Select (codes "t") shown.All (conditions.Equal (record { column = codes "id"; value = (Text (codes "6")) } ∷ [])))); side = None; answer = answers.Rows (((Num (pos 5)) ∷ (Num (pos 6)) ∷ []) ∷ []); missed = None; draw = None }
    ∷ record { actor = Insp; session = 1; asked = Call requests.ShowWaiting; side = None; answer = answers.Waiting []; missed = None; draw = None }
    ∷ record { actor = Insp; session = 3; asked = Call requests.ShowWaiting; side = None; answer = answers.Waiting []; missed = None; draw = None }
    ∷ record { actor = Insp; session = 3; asked = Call (requests.LockTables (codes "x" ∷ codes "y" ∷ [])); side = None; answer = answers.Refused 1146 None; missed = None; draw = None }
    ∷ record { actor = Insp; session = 1; asked = Call (requests.Do (statements.Insert (codes "u") (Some (codes "a" ∷ codes "c" ∷ codes "m1" ∷ [])) ((Num (pos 6)) ∷ (Num (pos 4)) ∷ Null ∷ []) None)); side = None; answer = answers.Refused 1062 None; missed = None; draw = None }
    ∷ record { actor = Insp; session = 3; asked = Call (requests.Do (statements.Select (codes "w") shown.Count (conditions.Equal (record { column = codes "id"; value = (Num (pos 3)) } ∷ [])))); side = None; answer = answers.Refused 1146 None; missed = None; draw = None }
    ∷ record { actor = Insp; session = 3; asked = Call (requests.Ends (codes "u")); side = None; answer = answers.Ends (Some (record { least = ((Num (pos 1)) ∷ (Num (pos 5)) ∷ []); greatest = ((Num (pos 6)) ∷ (Num (pos 6)) ∷ []) })); missed = None; draw = None }
    ∷ record { actor = Insp; session = 3; asked = Call (requests.Do (statements.Select (codes "w") shown.Count (conditions.Equal (record { column = codes "m0"; value = (Num (pos 1)) } ∷ [])))); side = None; answer = answers.Refused 1146 None; missed = None; draw = None }
    ∷ record { actor = (Client 6); session = 6; asked = Call requests.Begin; side = None; answer = answers.Ok 0; missed = None; draw = None }
    ∷ record { actor = (Client 5); session = 5; asked = Call (requests.Do (statements.Update (codes "u") (record { column = codes "a"; value = (Num (pos 1)) } ∷ record { column = codes "c"; value = (Num (pos 1)) } ∷ record { column = codes "m0"; value = (Text (codes "3")) } ∷ []) (conditions.Equal (record { column = codes "a"; value = (Num (pos 6)) } ∷ record { column = codes "m1"; value = (Num (pos 5)) } ∷ [])))); side = None; answer = answers.Ok 0; missed = None; draw = None }
    ∷ record { actor = Insp; session = 1; asked = Call (requests.BeginSpan (codes "w") (record { low = (Open ((Num (pos 1)) ∷ [])); high = (Closed ((Num (pos 1)) ∷ [])) }) 2); side = None; answer = answers.Refused 1146 None; missed = None; draw = None }
    ∷ record { actor = (Client 5); session = 5; asked = Call (requests.Ends (codes "w")); side = None; answer = answers.Refused 1146 None; missed = None; draw = None }
    ∷ record { actor = Insp; session = 3; asked = Call requests.ShowWaiting; side = None; answer = answers.Waiting []; missed = None; draw = None }
    ∷ record { actor = (Client 5); session = 5; asked = Call (requests.Do (statements.Insert (codes "t") None ((Num (pos 7)) ∷ (Num (pos 7)) ∷ []) None)); side = None; answer = answers.Ok 1; missed = None; draw = None }
    ∷ record { actor = Insp; session = 1; asked = Call (requests.Do (statements.Select (codes "t") shown.All (conditions.Equal (record { column = codes "id"; value = (Num (pos 3)) } ∷ [])))); side = None; answer = answers.Rows []; missed = None; draw = None }
    ∷ record { actor = (Client 5); session = 5; asked = Call (requests.Do (statements.Update (codes "w") (record { column = codes "id"; value = (Num (pos 5)) } ∷ []) (conditions.Equal (record { column = codes "id"; value = (Num (pos 2)) } ∷ [])))); side = None; answer = answers.Refused 1146 None; missed = None; draw = None }
    ∷ record { actor = (Client 6); session = 6; asked = Call (requests.Ends (codes "w")); side = None; answer = answers.Refused 1146 None; missed = None; draw = None }
    ∷ record { actor = Insp; session = 3; asked = Call (requests.Do (statements.Replace (codes "u") None ((Num (pos 7)) ∷ (Num (pos 7)) ∷ (Num (pos 6)) ∷ (Text (codes "4")) ∷ []) None)); side = None; answer = answers.Ok 2; missed = None; draw = None }
    ∷ record { actor = (Client 5); session = 5; asked = Call (requests.Do (statements.Replace (codes "w") None ((Num (pos 6)) ∷ (Text (codes "b")) ∷ []) None)); side = None; answer = answers.Refused 1146 None; missed = None; draw = None }
    ∷ record { actor = Insp; session = 1; asked = Call (requests.Do (statements.Insert (codes "w") (Some (codes "id" ∷ codes "m0" ∷ [])) ((Num (pos 7)) ∷ (Text (codes "b")) ∷ []) None)); side = None; answer = answers.Refused 1146 None; missed = None; draw = None }
    ∷ record { actor = (Client 5); session = 5; asked = Call (requests.ChunkEnd (codes "t") (Open ((Num (pos 5)) ∷ [])) ((Num (pos 6)) ∷ []) 1); side = None; answer = answers.End ((Num (pos 6)) ∷ []); missed = None; draw = None }
    ∷ record { actor = Insp; session = 3; asked = Call (requests.Do (statements.Insert (codes "w") (Some (codes "id" ∷ codes "m0" ∷ [])) ((Num (pos 7)) ∷ (Text (codes "f")) ∷ []) None)); side = None; answer = answers.Refused 1146 None; missed = None; draw = None }
    ∷ record { actor = (Client 6); session = 6; asked = Call (requests.CopyRow (codes "u") (codes "t") (record { kind = Int 2 false; nullable = true; origin = from.Old 1 } ∷ record { kind = Int 1 false; nullable = false; origin = from.Old 2 } ∷ []) ((Num (pos 3)) ∷ (Num (pos 3)) ∷ [])); side = None; answer = answers.Ok 0; missed = None; draw = None }
    ∷ record { actor = Insp; session = 1; asked = Call requests.LogEnd; side = None; answer = answers.At 4; missed = None; draw = None }
    ∷ record { actor = Insp; session = 3; asked = Call requests.ShowWaiting; side = None; answer = answers.Waiting []; missed = None; draw = None }
    ∷ record { actor = (Client 5); session = 5; asked = Call (requests.Drop (codes "y")); side = None; answer = answers.Refused 1051 None; missed = None; draw = None }
    ∷ record { actor = (Client 6); session = 6; asked = Call (requests.ReadLog 3 1 (codes "w" ∷ codes "x" ∷ [])); side = None; answer = answers.Events [] 4; missed = None; draw = None }
    ∷ record { actor = Insp; session = 1; asked = Call (requests.BeginSpan (codes "w") (record { low = Free; high = (Closed ((Num (pos 1)) ∷ [])) }) 2); side = None; answer = answers.Refused 1146 None; missed = None; draw = None }
    ∷ record { actor = Insp; session = 3; asked = Call requests.ShowWaiting; side = None; answer = answers.Waiting []; missed = None; draw = None }
    ∷ record { actor = Insp; session = 1; asked = Call requests.ShowTables; side = None; answer = answers.Tables (record { name = codes "t"; comment = [] } ∷ record { name = codes "u"; comment = [] } ∷ []); missed = None; draw = None }
    ∷ record { actor = Insp; session = 1; asked = Call requests.LogEnd; side = None; answer = answers.At 4; missed = None; draw = None }
    ∷ []

served_23 : IsServed (record { client_wait = 2; tool_wait = 1 }) tables_23 asked_23
unfolding computing
served_23 = record { answers = refl; sides = refl }

-- Sequence 24
abbrev tables_24 : Database
tables_24 = (record { schema = record { name = codes "t"; columns = (record { name = codes "id"; kind = VarBinary 3; nullable = false; default = None; auto = false } ∷ record { name = codes "m0"; kind = Int 4 false; nullable = true; default = (Some Null); auto = false } ∷ record { name = codes "m1"; kind = Int 4 false; nullable = false; default = None; auto = false } ∷ record { name = codes "v"; kind = VarChar 6; nullable = false; default = (Some (Text (codes "5"))); auto = false } ∷ []); uniques = (record { name = None; places = (0 ∷ []) } ∷ record { name = (Some (codes "u0")); places = (1 ∷ []) } ∷ record { name = (Some (codes "u1")); places = (0 ∷ 2 ∷ []) } ∷ []); indexes = []; comment = []; start = None }; rows = (((Blob (52 ∷ [])) ∷ (Num (pos 5)) ∷ (Num (pos 5)) ∷ (Text (codes "g")) ∷ []) ∷ []) } ∷ record { schema = record { name = codes "u"; columns = (record { name = codes "a"; kind = Int 4 false; nullable = false; default = None; auto = false } ∷ record { name = codes "c"; kind = VarChar 4; nullable = false; default = None; auto = false } ∷ record { name = codes "v"; kind = Int 2 false; nullable = false; default = (Some (Num (pos 5))); auto = false } ∷ []); uniques = (record { name = None; places = (1 ∷ 0 ∷ []) } ∷ []); indexes = []; comment = []; start = None }; rows = (((Num (pos 6)) ∷ (Text (codes "2")) ∷ (Num (pos 3)) ∷ []) ∷ []) } ∷ record { schema = record { name = codes "w"; columns = (record { name = codes "id"; kind = Int 4 false; nullable = false; default = None; auto = false } ∷ record { name = codes "m0"; kind = VarChar 3; nullable = true; default = (Some Null); auto = false } ∷ record { name = codes "v"; kind = Int 4 false; nullable = false; default = None; auto = false } ∷ []); uniques = (record { name = None; places = (0 ∷ []) } ∷ record { name = (Some (codes "u0")); places = (1 ∷ []) } ∷ []); indexes = []; comment = []; start = None }; rows = (((Num (pos 3)) ∷ (Text (codes "1")) ∷ (Num (pos 1)) ∷ []) ∷ ((Num (pos 4)) ∷ (Text (codes "g")) ∷ (Num (pos 2)) ∷ []) ∷ ((Num (pos 6)) ∷ (Text (codes "e")) ∷ (Num (pos 3)) ∷ []) ∷ ((Num (pos 7)) ∷ (Text (codes "f")) ∷ (Num (pos 3)) ∷ []) ∷ []) } ∷ [])

abbrev asked_24 : List Entry
asked_24 =
    record { actor = (Client 1); session = 1; asked = Call (requests.Do (statements.Delete (codes "w") (conditions.Equal (record { column = codes "id"; value = (Num (pos 2)) } ∷ [])))); side = None; answer = answers.Ok 0; missed = None; draw = None }
    ∷ record { actor = (Client 1); session = 1; asked = Call (requests.LockTables (codes "x" ∷ [])); side = None; answer = answers.Refused 1146 None; missed = None; draw = None }
    ∷ record { actor = (Client 1); session = 1; asked = Call (requests.Drop (codes "t")); side = None; answer = answers.Ok 0; missed = None; draw = None }
    ∷ record { actor = (Client 1); session = 1; asked = Call (requests.Do (statements.Select (codes "t") (shown.Columns (codes "id" ∷ [])) (conditions.Equal (record { column = codes "id"; value = (Text (codes "d")) } ∷ [])))); side = None; answer = answers.Refused 1146 None; missed = None; draw = None }
    ∷ record { actor = (Client 1); session = 1; asked = Call (requests.ReadLog 0 2 (codes "u" ∷ [])); side = None; answer = answers.Events [] 0; missed = None; draw = None }
    ∷ record { actor = (Client 1); session = 1; asked = Call (requests.Drop (codes "w")); side = None; answer = answers.Ok 0; missed = None; draw = None }
    ∷ record { actor = (Client 1); session = 1; asked = Call (requests.Do (statements.Update (codes "w") (record { column = codes "m0"; value = (Num (pos 1)) } ∷ record { column = codes "v"; value = (Num (pos 1)) } ∷ []) (conditions.Equal (record { column = codes "id"; value = (Num (pos 3)) } ∷ [])))); side = None; answer = answers.Refused 1146 None; missed = None; draw = None }
    ∷ record { actor = (Client 1); session = 1; asked = Call (requests.Ends (codes "u")); side = None; answer = answers.Ends (Some (record { least = ((Text (codes "2")) ∷ (Num (pos 6)) ∷ []); greatest = ((Text (codes "2")) ∷ (Num (pos 6)) ∷ []) })); missed = None; draw = None }
    ∷ record { actor = (Client 1); session = 1; asked = Call (requests.Do (statements.Update (codes "w") (record { column = codes "id"; value = (Num (pos 2)) } ∷ record { column = codes "m0"; value = (Text (codes "g")) } ∷ record { column = codes "v"; value = (Num (pos 4)) } ∷ []) (conditions.Equal (record { column = codes "m0"; value = (Text (codes "a")) } ∷ [])))); side = None; answer = answers.Refused 1146 None; missed = None; draw = None }
    ∷ record { actor = (Client 1); session = 1; asked = Call (requests.Drop (codes "u")); side = None; answer = answers.Ok 0; missed = None; draw = None }
    ∷ record { actor = (Client 1); session = 1; asked = Call requests.ShowWaiting; side = None; answer = answers.Waiting []; missed = None; draw = None }
    ∷ record { actor = (Client 1); session = 1; asked = Call (requests.Create (record { name = codes "u"; columns = (record { name = codes "a"; kind = Int 4 false; nullable = false; default = None; auto = false } ∷ record { name = codes "c"; kind = VarChar 4; nullable = false; default = None; auto = false } ∷ record { name = codes "v"; kind = Int 2 false; nullable = false; default = (Some (Num (pos 5))); auto = false } ∷ []); uniques = (record { name = None; places = (1 ∷ 0 ∷ []) } ∷ []); indexes = []; comment = []; start = None })); side = (Some sides_at.Before); answer = answers.Lost; missed = None; draw = None }
    ∷ record { actor = Insp; session = 2; asked = Call requests.Begin; side = None; answer = answers.Ok 0; missed = None; draw = None }
    ∷ record { actor = Insp; session = 2; asked = Call (requests.ChunkEnd (codes "u") Free ((Num (pos 1)) ∷ []) 2); side = None; answer = answers.Refused 1146 None; missed = None; draw = None }
    ∷ record { actor = Insp; session = 2; asked = Call (requests.Do (statements.Replace (codes "t") None ((Blob (1 ∷ [])) ∷ (Num (pos 7)) ∷ (Num (pos 2)) ∷ (Text (codes "b")) ∷ []) None)); side = None; answer = answers.Refused 1146 None; missed = None; draw = None }
    ∷ record { actor = Insp; session = 2; asked = Call (requests.Ends (codes "w")); side = None; answer = answers.Refused 1146 None; missed = None; draw = None }
    ∷ record { actor = Insp; session = 2; asked = Call (requests.Do (statements.Select (codes "u") shown.Count (conditions.Equal (record { column = codes "a"; value = (Num (pos 4)) } ∷ record { column = codes "c"; value = (Num (pos 7)) } ∷ [])))); side = None; answer = answers.Refused 1146 None; missed = None; draw = None }
    ∷ record { actor = Insp; session = 2; asked = Call (requests.Do (statements.Insert (codes "t") (Some (codes "id" ∷ codes "m1" ∷ codes "v" ∷ [])) ((Text (codes "e")) ∷ (Num (pos 6)) ∷ (Num (pos 5)) ∷ []) None)); side = None; answer = answers.Refused 1146 None; missed = None; draw = None }
    ∷ record { actor = (Client 4); session = 4; asked = Call (requests.Do (statements.Update (codes "t") (record { column = codes "id"; value = (Blob (4 ∷ [])) } ∷ record { column = codes "m0"; value = (Num (pos 4)) } ∷ record { column = codes "m1"; value = (Num (pos 6)) } ∷ []) (conditions.Equal (record { column = codes "id"; value = (Num (pos 1)) } ∷ [])))); side = None; answer = answers.Refused 1146 None; missed = None; draw = None }
    ∷ record { actor = Insp; session = 2; asked = Call requests.Rollback; side = None; answer = answers.Ok 0; missed = None; draw = None }
    ∷ record { actor = (Client 4); session = 4; asked = Call (requests.LockTables (codes "x" ∷ codes "u" ∷ codes "y" ∷ [])); side = None; answer = answers.Refused 1146 None; missed = None; draw = None }
    ∷ record { actor = Insp; session = 2; asked = Call (requests.Do (statements.Insert (codes "u") None ((Num (pos 5)) ∷ (Num (pos 4)) ∷ (Num (pos 3)) ∷ []) None)); side = None; answer = answers.Refused 1146 None; missed = None; draw = None }
    ∷ record { actor = (Client 3); session = 3; asked = Call (requests.Do (statements.Update (codes "w") (record { column = codes "m0"; value = (Text (codes "a")) } ∷ record { column = codes "v"; value = (Num (pos 7)) } ∷ []) (conditions.Equal (record { column = codes "id"; value = (Num (pos 2)) } ∷ [])))); side = None; answer = answers.Refused 1146 None; missed = None; draw = None }
    ∷ record { actor = (Client 3); session = 3; asked = Call (requests.Create (record { name = codes "t"; columns = (record { name = codes "a"; kind = Int 4 false; nullable = false; default = None; auto = false } ∷ record { name = codes "c"; kind = VarChar 4; nullable = false; default = None; auto = false } ∷ record { name = codes "v"; kind = Int 2 false; nullable = false; default = (Some (Num (pos 5))); auto = false } ∷ []); uniques = (record { name = None; places = (1 ∷ 0 ∷ []) } ∷ []); indexes = []; comment = codes "z"; start = None })); side = None; answer = answers.Ok 0; missed = None; draw = None }
    ∷ record { actor = (Client 4); session = 4; asked = Call (requests.Create (record { name = codes "t"; columns = (record { name = codes "id"; kind = VarBinary 3; nullable = false; default = None; auto = false } ∷ record { name = codes "m0"; kind = Int 4 false; nullable = true; default = (Some Null); auto = false } ∷ record { name = codes "m1"; kind = Int 4 false; nullable = false; default = None; auto = false } ∷ record { name = codes "v"; kind = VarChar 6; nullable = false; default = (Some (Text (codes "5"))); auto = false } ∷ []); uniques = (record { name = None; places = (0 ∷ []) } ∷ record { name = (Some (codes "u0")); places = (1 ∷ []) } ∷ record { name = (Some (codes "u1")); places = (0 ∷ 2 ∷ []) } ∷ []); indexes = []; comment = []; start = None })); side = None; answer = answers.Refused 1050 None; missed = None; draw = None }
    ∷ record { actor = (Client 3); session = 3; asked = Call (requests.Do (statements.Update (codes "u") (record { column = codes "a"; value = (Text (codes "zzzzzzzzz")) } ∷ record { column = codes "v"; value = (Num (pos 2)) } ∷ []) (conditions.Equal (record { column = codes "a"; value = (Num (pos 1)) } ∷ record { column = codes "c"; value = (Text (codes "c")) } ∷ [])))); side = None; answer = answers.Refused 1146 None; missed = None; draw = None }
    ∷ record { actor = (Client 3); session = 3; asked = Call (requests.Ends (codes "u")); side = None; answer = answers.Refused 1146 None; missed = None; draw = None }
    ∷ record { actor = (Client 4); session = 4; asked = Call (requests.Do (statements.Replace (codes "w") (Some (codes "id" ∷ codes "m0" ∷ codes "v" ∷ [])) ((Num (pos 7)) ∷ (Text (codes "f")) ∷ (Num (pos 4)) ∷ []) None)); side = None; answer = answers.Refused 1146 None; missed = None; draw = None }
    ∷ record { actor = (Client 3); session = 3; asked = Call (requests.Do (statements.Update (codes "u") (record { column = codes "c"; value = (Num (pos 4)) } ∷ []) (conditions.Equal (record { column = codes "c"; value = (Num (pos 1)) } ∷ record { column = codes "a"; value = (Num (pos 7)) } ∷ [])))); side = None; answer = answers.Refused 1146 None; missed = None; draw = None }
    ∷ record { actor = Insp; session = 2; asked = Call (requests.Create (record { name = codes "u"; columns = (record { name = codes "a"; kind = Int 4 false; nullable = false; default = None; auto = false } ∷ record { name = codes "c"; kind = VarChar 4; nullable = false; default = None; auto = false } ∷ record { name = codes "v"; kind = Int 2 false; nullable = false; default = (Some (Num (pos 5))); auto = false } ∷ []); uniques = (record { name = None; places = (1 ∷ 0 ∷ []) } ∷ []); indexes = []; comment = codes "z"; start = None })); side = None; answer = answers.Ok 0; missed = None; draw = None }
    ∷ record { actor = (Client 3); session = 3; asked = Call (requests.Do (statements.Insert (codes "w") None ((Num (pos 2)) ∷ (Text (codes "a")) ∷ (Num (pos 3)) ∷ []) None)); side = (Some sides_at.Before); answer = answers.Lost; missed = None; draw = None }
    ∷ record { actor = (Client 4); session = 4; asked = Call (requests.BeginSpan (codes "t") (record { low = Free; high = (Closed ((Text (codes "5")) ∷ (Num (pos 3)) ∷ [])) }) 3); side = None; answer = answers.Keys [] ((Text (codes "5")) ∷ (Num (pos 3)) ∷ []); missed = None; draw = None }
    ∷ record { actor = (Client 4); session = 4; asked = Call requests.Rollback; side = None; answer = answers.Ok 0; missed = None; draw = None }
    ∷ record { actor = Insp; session = 2; asked = Call requests.Begin; side = None; answer = answers.Ok 0; missed = None; draw = None }
    ∷ record { actor = (Client 4); session = 4; asked = Call (requests.Do (statements.Replace (codes "u") None ((Num (pos 6)) ∷ (Text (codes "b")) ∷ (Num (pos 7)) ∷ []) None)); side = None; answer = answers.Ok 1; missed = None; draw = None }
    ∷ record { actor = (Client 4); session = 4; asked = Call requests.LogEnd; side = None; answer = answers.At 1; missed = None; draw = None }
    ∷ record { actor = Insp; session = 2; asked = Call (requests.Do (statements.Delete (codes "w") (conditions.Equal (record { column = codes "id"; value = (Text (codes "4")) } ∷ [])))); side = None; answer = answers.Refused 1146 None; missed = None; draw = None }
    ∷ record { actor = (Client 4); session = 4; asked = Call (requests.Do (statements.Delete (codes "u") (conditions.Equal (record { column = codes "a"; value = (Num (pos 7)) } ∷ record { column = codes "c"; value = (Text (codes "b")) } ∷ [])))); side = None; answer = answers.Ok 0; missed = None; draw = None }
    ∷ record { actor = Insp; session = 2; asked = Call requests.LogEnd; side = None; answer = answers.At 1; missed = None; draw = None }
    ∷ record { actor = (Client 4); session = 4; asked = Call (requests.Do (statements.Update (codes "u") (record { column = codes "a"; value = (Num (pos 1)) } ∷ []) (conditions.Equal (record { column = codes "a"; value = (Num (pos 2)) } ∷ record { column = codes "c"; value = (Num (pos 2)) } ∷ [])))); side = None; answer = answers.Ok 0; missed = None; draw = None }
    ∷ record { actor = (Client 4); session = 4; asked = Call (requests.Rename (record { old = codes "x"; new = codes "w" } ∷ [])); side = None; answer = answers.Waits 2; missed = None; draw = None }
    ∷ record { actor = (Client 4); session = 4; asked = Poll; side = None; answer = answers.Waits 2; missed = None; draw = None }
    ∷ record { actor = (Client 5); session = 5; asked = Call (requests.Drop (codes "t")); side = None; answer = answers.Ok 0; missed = None; draw = None }
    ∷ record { actor = (Client 4); session = 4; asked = Poll; side = None; answer = answers.Waits 2; missed = None; draw = None }
    ∷ []

served_24 : IsServed (record { client_wait = 4; tool_wait = 2 }) tables_24 asked_24
unfolding computing
served_24 = record { answers = refl; sides = refl }

-- Sequence 25
abbrev tables_25 : Database
tables_25 = (record { schema = record { name = codes "t"; columns = (record { name = codes "a"; kind = Int 4 false; nullable = false; default = None; auto = false } ∷ record { name = codes "c"; kind = Int 4 false; nullable = false; default = None; auto = false } ∷ record { name = codes "m0"; kind = Int 1 false; nullable = true; default = (Some Null); auto = false } ∷ record { name = codes "v"; kind = VarChar 6; nullable = false; default = None; auto = false } ∷ []); uniques = (record { name = None; places = (0 ∷ 1 ∷ []) } ∷ record { name = (Some (codes "u0")); places = (2 ∷ []) } ∷ []); indexes = []; comment = []; start = None }; rows = (((Num (pos 7)) ∷ (Num (pos 4)) ∷ (Num (pos 7)) ∷ (Text (codes "4")) ∷ []) ∷ []) } ∷ record { schema = record { name = codes "u"; columns = (record { name = codes "id"; kind = Int 4 false; nullable = false; default = None; auto = false } ∷ record { name = codes "m0"; kind = Int 4 false; nullable = true; default = (Some Null); auto = false } ∷ []); uniques = (record { name = (Some (codes "k")); places = (0 ∷ []) } ∷ record { name = (Some (codes "u0")); places = (1 ∷ []) } ∷ []); indexes = []; comment = []; start = None }; rows = (((Num (pos 1)) ∷ (Num (pos 1)) ∷ []) ∷ ((Num (pos 2)) ∷ (Num (pos 7)) ∷ []) ∷ ((Num (pos 3)) ∷ (Num (pos 4)) ∷ []) ∷ ((Num (pos 6)) ∷ (Num (pos 2)) ∷ []) ∷ []) } ∷ record { schema = record { name = codes "w"; columns = (record { name = codes "id"; kind = Int 8 false; nullable = false; default = None; auto = false } ∷ record { name = codes "m0"; kind = Int 4 false; nullable = true; default = (Some Null); auto = false } ∷ record { name = codes "v"; kind = VarChar 6; nullable = true; default = (Some Null); auto = false } ∷ []); uniques = (record { name = None; places = (0 ∷ []) } ∷ record { name = (Some (codes "u0")); places = (1 ∷ []) } ∷ []); indexes = (record { name = (Some (codes "v")); places = (2 ∷ []) } ∷ []); comment = []; start = None }; rows = (((Num (pos 1)) ∷ (Num (pos 3)) ∷ (Text (codes "b")) ∷ []) ∷ ((Num (pos 2)) ∷ Null ∷ (Text (codes "c")) ∷ []) ∷ ((Num (pos 5)) ∷ (Num (pos 2)) ∷ Null ∷ []) ∷ ((Num (pos 99999999999)) ∷ (Num (pos 6)) ∷ (Text (codes "a")) ∷ []) ∷ []) } ∷ [])

abbrev asked_25 : List Entry
asked_25 =
    record { actor = Insp; session = 1; asked = Call (requests.Ends (codes "w")); side = (Some sides_at.After); answer = answers.Lost; missed = (Some (answers.Ends (Some (record { least = ((Num (pos 1)) ∷ []); greatest = ((Num (pos 99999999999)) ∷ []) })))); draw = None }
    ∷ record { actor = Insp; session = 2; asked = Call (requests.BeginSpan (codes "t") (record { low = (Closed ((Num (pos 7)) ∷ (Num (pos 4)) ∷ [])); high = (Closed ((Num (pos 7)) ∷ (Num (pos 4)) ∷ [])) }) 2); side = None; answer = answers.Keys (((Num (pos 7)) ∷ (Num (pos 4)) ∷ []) ∷ []) ((Num (pos 7)) ∷ (Num (pos 4)) ∷ []); missed = None; draw = None }
    ∷ record { actor = Insp; session = 2; asked = Call (requests.Do (statements.Delete (codes "t") (conditions.Equal (record { column = codes "a"; value = (Num (pos 7)) } ∷ record { column = codes "c"; value = (Num (pos 6)) } ∷ [])))); side = None; answer = answers.Ok 0; missed = None; draw = None }
    ∷ record { actor = Insp; session = 2; asked = Call (requests.CopyRow (codes "w") (codes "w") (record { kind = Int 8 false; nullable = false; origin = from.Old 1 } ∷ record { kind = Int 4 false; nullable = true; origin = from.Old 1 } ∷ record { kind = VarChar 6; nullable = true; origin = from.Old 0 } ∷ []) ((Num (pos 3)) ∷ [])); side = None; answer = answers.Ok 0; missed = None; draw = None }
    ∷ record { actor = (Client 3); session = 3; asked = Call (requests.Create (record { name = codes "t"; columns = (record { name = codes "id"; kind = Int 4 false; nullable = false; default = None; auto = false } ∷ record { name = codes "m0"; kind = Int 4 false; nullable = true; default = (Some Null); auto = false } ∷ []); uniques = (record { name = (Some (codes "k")); places = (0 ∷ []) } ∷ record { name = (Some (codes "u0")); places = (1 ∷ []) } ∷ []); indexes = []; comment = codes "z"; start = None })); side = None; answer = answers.Waits 2; missed = None; draw = None }
    ∷ record { actor = Insp; session = 2; asked = Call (requests.Do (statements.Insert (codes "t") None ((Num (pos 1)) ∷ (Num (pos 4)) ∷ (Num (pos 6)) ∷ (Text (codes "a")) ∷ (Num (pos 1)) ∷ []) None)); side = None; answer = answers.Refused 1136 None; missed = None; draw = None }
    ∷ record { actor = Insp; session = 4; asked = Call (requests.LockTables (codes "w" ∷ codes "y" ∷ codes "u" ∷ [])); side = None; answer = answers.Waits 2; missed = None; draw = None }
    ∷ record { actor = (Client 5); session = 5; asked = Call (requests.Create (record { name = codes "u"; columns = (record { name = codes "id"; kind = Int 4 false; nullable = false; default = None; auto = false } ∷ record { name = codes "m0"; kind = Int 4 false; nullable = true; default = (Some Null); auto = false } ∷ []); uniques = (record { name = (Some (codes "k")); places = (0 ∷ []) } ∷ record { name = (Some (codes "u0")); places = (1 ∷ []) } ∷ []); indexes = []; comment = codes "z"; start = None })); side = None; answer = answers.Waits 4; missed = None; draw = None }
    ∷ record { actor = Insp; session = 2; asked = Call (requests.Ends (codes "t")); side = None; answer = answers.Ends (Some (record { least = ((Num (pos 7)) ∷ (Num (pos 4)) ∷ []); greatest = ((Num (pos 7)) ∷ (Num (pos 4)) ∷ []) })); missed = None; draw = None }
    ∷ record { actor = (Client 3); session = 3; asked = Poll; side = None; answer = answers.Waits 2; missed = None; draw = None }
    ∷ record { actor = (Client 3); session = 3; asked = Poll; side = None; answer = answers.TimedOut 2; missed = None; draw = None }
    ∷ record { actor = Insp; session = 4; asked = Poll; side = None; answer = answers.TimedOut 1; missed = None; draw = None }
    ∷ record { actor = Insp; session = 4; asked = Call (requests.Do (statements.Select (codes "w") (shown.Columns (codes "id" ∷ [])) (conditions.Equal (record { column = codes "id"; value = (Num (pos 5)) } ∷ [])))); side = None; answer = answers.Rows (((Num (pos 5)) ∷ []) ∷ []); missed = None; draw = None }
    ∷ record { actor = Insp; session = 4; asked = Call (requests.Do (statements.Insert (codes "t") None ((Num (pos 2)) ∷ (Num (pos 2)) ∷ (Text (codes "6")) ∷ (Text (codes "d")) ∷ []) None)); side = None; answer = answers.Ok 1; missed = None; draw = None }
    ∷ record { actor = (Client 3); session = 3; asked = Call (requests.Do (statements.Delete (codes "t") (conditions.Equal (record { column = codes "id"; value = (Num (pos 1)) } ∷ [])))); side = None; answer = answers.Refused 1054 None; missed = None; draw = None }
    ∷ record { actor = (Client 3); session = 3; asked = Call (requests.LockTables (codes "t" ∷ [])); side = None; answer = answers.Waits 2; missed = None; draw = None }
    ∷ record { actor = Insp; session = 2; asked = Call (requests.Do (statements.Replace (codes "t") None ((Num (pos 4)) ∷ (Num (pos 3)) ∷ []) None)); side = None; answer = answers.Refused 1136 None; missed = None; draw = None }
    ∷ record { actor = Insp; session = 2; asked = Call (requests.ChunkEnd (codes "w") Free ((Num (pos 3)) ∷ []) 2); side = None; answer = answers.End ((Num (pos 2)) ∷ []); missed = None; draw = None }
    ∷ record { actor = Insp; session = 2; asked = Call (requests.Do (statements.Delete (codes "w") (conditions.Equal (record { column = codes "id"; value = (Num (pos 1)) } ∷ [])))); side = None; answer = answers.Ok 1; missed = None; draw = None }
    ∷ record { actor = (Client 3); session = 3; asked = Poll; side = None; answer = answers.Waits 2; missed = None; draw = None }
    ∷ record { actor = (Client 5); session = 5; asked = Poll; side = None; answer = answers.Refused 1050 None; missed = None; draw = None }
    ∷ record { actor = (Client 3); session = 3; asked = Poll; side = None; answer = answers.TimedOut 2; missed = None; draw = None }
    ∷ record { actor = Insp; session = 4; asked = Call (requests.Do (statements.Update (codes "u") (record { column = codes "id"; value = (Num (pos 4)) } ∷ []) (conditions.Equal (record { column = codes "id"; value = (Num (pos 4)) } ∷ [])))); side = None; answer = answers.Ok 0; missed = None; draw = None }
    ∷ record { actor = (Client 3); session = 3; asked = Call (requests.Do (statements.Replace (codes "t") (Some (codes "a" ∷ codes "c" ∷ codes "m0" ∷ codes "v" ∷ [])) (Null ∷ (Num (pos 5)) ∷ (Num (pos 5)) ∷ (Text (codes "e")) ∷ []) None)); side = None; answer = answers.Refused 1048 (Some 0); missed = None; draw = None }
    ∷ record { actor = (Client 5); session = 5; asked = Call (requests.Do (statements.Update (codes "u") (record { column = codes "id"; value = (Num (pos 7)) } ∷ record { column = codes "m0"; value = Null } ∷ []) (conditions.Equal (record { column = codes "id"; value = (Num (pos 6)) } ∷ [])))); side = None; answer = answers.Ok 1; missed = None; draw = None }
    ∷ record { actor = Insp; session = 4; asked = Call requests.Begin; side = None; answer = answers.Ok 0; missed = None; draw = None }
    ∷ record { actor = Insp; session = 2; asked = Call (requests.Do (statements.Insert (codes "w") (Some (codes "id" ∷ codes "m0" ∷ codes "v" ∷ [])) ((Num (pos 3)) ∷ (Num (pos 5)) ∷ Null ∷ []) None)); side = None; answer = answers.Ok 1; missed = None; draw = None }
    ∷ record { actor = (Client 5); session = 5; asked = Call (requests.Do (statements.Insert (codes "t") None ((Num (pos 1)) ∷ (Num (pos 7)) ∷ (Num (pos 6)) ∷ (Text (codes "e")) ∷ []) None)); side = (Some sides_at.Before); answer = answers.Lost; missed = None; draw = None }
    ∷ record { actor = Insp; session = 4; asked = Call (requests.Do (statements.Select (codes "w") shown.Count (conditions.Range (record { column = codes "id"; sign = signs.More; value = (Num (pos 6)) } ∷ [])))); side = None; answer = answers.Rows (((Num (pos 1)) ∷ []) ∷ []); missed = None; draw = None }
    ∷ record { actor = (Client 3); session = 3; asked = Call (requests.Rename (record { old = codes "u"; new = codes "t" } ∷ [])); side = None; answer = answers.Waits 2; missed = None; draw = None }
    ∷ record { actor = Insp; session = 2; asked = Call (requests.Do (statements.Insert (codes "u") (Some (codes "id" ∷ codes "m0" ∷ [])) ((Num (pos 3)) ∷ (Num (pos 5)) ∷ []) None)); side = None; answer = answers.Waits 3; missed = None; draw = None }
    ∷ record { actor = Insp; session = 2; asked = Poll; side = None; answer = answers.TimedOut 1; missed = None; draw = None }
    ∷ record { actor = (Client 3); session = 3; asked = Poll; side = None; answer = answers.Refused 1050 None; missed = None; draw = None }
    ∷ record { actor = (Client 3); session = 3; asked = Call (requests.ChunkEnd (codes "t") (Closed ((Num (pos 2)) ∷ (Num (pos 2)) ∷ [])) ((Num (pos 7)) ∷ (Num (pos 4)) ∷ []) 2); side = None; answer = answers.End ((Num (pos 7)) ∷ (Num (pos 4)) ∷ []); missed = None; draw = None }
    ∷ record { actor = (Client 3); session = 3; asked = Call (requests.Do (statements.Insert (codes "u") None ((Num (pos 6)) ∷ (Num (pos 1)) ∷ (Text (codes "e")) ∷ []) None)); side = None; answer = answers.Refused 1136 None; missed = None; draw = None }
    ∷ record { actor = Insp; session = 6; asked = Call (requests.BeginSpan (codes "w") (record { low = (Open ((Num (pos 3)) ∷ [])); high = (Closed ((Num (pos 7)) ∷ [])) }) 1); side = None; answer = answers.Keys (((Num (pos 5)) ∷ []) ∷ []) ((Num (pos 7)) ∷ []); missed = None; draw = None }
    ∷ record { actor = Insp; session = 2; asked = Call (requests.Drop (codes "t")); side = None; answer = answers.Ok 0; missed = None; draw = None }
    ∷ record { actor = Insp; session = 4; asked = Call (requests.Do (statements.Insert (codes "u") None ((Num (pos 5)) ∷ (Num (pos 7)) ∷ []) None)); side = None; answer = answers.Refused 1062 None; missed = None; draw = None }
    ∷ record { actor = Insp; session = 2; asked = Call (requests.Do (statements.Update (codes "t") (record { column = codes "c"; value = (Num (pos 5)) } ∷ record { column = codes "v"; value = (Text (codes "e")) } ∷ []) (conditions.Equal (record { column = codes "a"; value = (Num (pos 6)) } ∷ record { column = codes "c"; value = (Num (pos 4)) } ∷ [])))); side = None; answer = answers.Refused 1146 None; missed = None; draw = None }
    ∷ record { actor = Insp; session = 2; asked = Call (requests.LockTables (codes "y" ∷ [])); side = None; answer = answers.Refused 1146 None; missed = None; draw = None }
    ∷ record { actor = Insp; session = 6; asked = Call requests.ShowWaiting; side = None; answer = answers.Waiting []; missed = None; draw = None }
    ∷ record { actor = (Client 3); session = 3; asked = Call (requests.Do (statements.Replace (codes "u") (Some (codes "id" ∷ codes "m0" ∷ [])) ((Num (pos 5)) ∷ Null ∷ []) None)); side = None; answer = answers.Waits 4; missed = None; draw = None }
    ∷ record { actor = Insp; session = 4; asked = Call (requests.Do (statements.Insert (codes "u") (Some (codes "id" ∷ codes "m0" ∷ [])) ((Num (pos 3)) ∷ (Num (pos 2)) ∷ []) None)); side = None; answer = answers.Refused 1062 None; missed = None; draw = None }
    ∷ record { actor = Insp; session = 4; asked = Cut; side = None; answer = answers.Lost; missed = None; draw = None }
    ∷ []

served_25 : IsServed (record { client_wait = 2; tool_wait = 1 }) tables_25 asked_25
unfolding computing
served_25 = record { answers = refl; sides = refl }

-- Sequence 26
abbrev tables_26 : Database
tables_26 = (record { schema = record { name = codes "t"; columns = (record { name = codes "id"; kind = VarChar 3; nullable = false; default = None; auto = false } ∷ record { name = codes "m0"; kind = Int 1 false; nullable = true; default = (Some (Num (pos 1))); auto = false } ∷ record { name = codes "v"; kind = VarChar 6; nullable = true; default = (Some (Text (codes "5"))); auto = false } ∷ []); uniques = (record { name = None; places = (0 ∷ []) } ∷ record { name = (Some (codes "u0")); places = (1 ∷ []) } ∷ []); indexes = []; comment = []; start = None }; rows = [] } ∷ record { schema = record { name = codes "u"; columns = (record { name = codes "id"; kind = VarChar 3; nullable = false; default = None; auto = false } ∷ record { name = codes "v"; kind = Int 4 false; nullable = true; default = (Some (Num (pos 5))); auto = false } ∷ []); uniques = (record { name = None; places = (0 ∷ []) } ∷ []); indexes = []; comment = []; start = None }; rows = (((Text (codes "4")) ∷ (Num (pos 1)) ∷ []) ∷ ((Text (codes "a")) ∷ (Num (pos 6)) ∷ []) ∷ ((Text (codes "b")) ∷ (Num (pos 7)) ∷ []) ∷ ((Text (codes "f")) ∷ (Num (pos 1)) ∷ []) ∷ ((Text (codes "g")) ∷ (Num (pos 1)) ∷ []) ∷ []) } ∷ record { schema = record { name = codes "w"; columns = (record { name = codes "id"; kind = Int 4 false; nullable = false; default = None; auto = false } ∷ []); uniques = (record { name = None; places = (0 ∷ []) } ∷ []); indexes = []; comment = []; start = None }; rows = (((Num (pos 1)) ∷ []) ∷ []) } ∷ [])

abbrev asked_26 : List Entry
asked_26 =
    record { actor = (Client 1); session = 1; asked = Call (requests.Drop (codes "w")); side = None; answer = answers.Ok 0; missed = None; draw = None }
    ∷ record { actor = (Client 1); session = 1; asked = Call (requests.Do (statements.Delete (codes "w") conditions.All)); side = None; answer = answers.Refused 1146 None; missed = None; draw = None }
    ∷ record { actor = (Client 1); session = 1; asked = Call (requests.Do (statements.Delete (codes "w") (conditions.Range (record { column = codes "id"; sign = signs.AtLeast; value = (Num (pos 1)) } ∷ record { column = codes "id"; sign = signs.AtMost; value = (Num (pos 1)) } ∷ [])))); side = None; answer = answers.Refused 1146 None; missed = None; draw = None }
    ∷ record { actor = (Client 1); session = 1; asked = Call requests.Begin; side = None; answer = answers.Ok 0; missed = None; draw = None }
    ∷ record { actor = (Client 1); session = 1; asked = Call (requests.Do (statements.Delete (codes "w") (conditions.Equal (record { column = codes "id"; value = (Num (pos 3)) } ∷ [])))); side = None; answer = answers.Refused 1146 None; missed = None; draw = None }
    ∷ record { actor = (Client 1); session = 1; asked = Call (requests.Do (statements.Delete (codes "t") conditions.All)); side = None; answer = answers.Ok 0; missed = None; draw = None }
    ∷ record { actor = (Client 1); session = 1; asked = Call (requests.Do (statements.Insert (codes "t") None ((Text (codes "c")) ∷ (Num (pos 4)) ∷ (Text (codes "f")) ∷ []) None)); side = None; answer = answers.Ok 1; missed = None; draw = None }
    ∷ record { actor = (Client 1); session = 1; asked = Call (requests.Do (statements.Select (codes "w") shown.All conditions.All)); side = (Some sides_at.After); answer = answers.Lost; missed = (Some (answers.Refused 1146 None)); draw = None }
    ∷ record { actor = (Client 2); session = 2; asked = Call (requests.Do (statements.Delete (codes "t") (conditions.Range (record { column = codes "id"; sign = signs.AtLeast; value = (Text (codes "d")) } ∷ record { column = codes "id"; sign = signs.AtMost; value = (Text (codes "b")) } ∷ [])))); side = None; answer = answers.Ok 0; missed = None; draw = None }
    ∷ record { actor = (Client 2); session = 2; asked = Call (requests.BeginSpan (codes "w") (record { low = (Closed ((Num (pos 1)) ∷ [])); high = (Closed ((Num (pos 1)) ∷ [])) }) 2); side = None; answer = answers.Refused 1146 None; missed = None; draw = None }
    ∷ record { actor = (Client 2); session = 2; asked = Call (requests.Do (statements.Select (codes "u") shown.All (conditions.Range (record { column = codes "id"; sign = signs.AtLeast; value = (Num (pos 2)) } ∷ record { column = codes "id"; sign = signs.AtMost; value = (Text (codes "5")) } ∷ [])))); side = None; answer = answers.Rows (((Text (codes "4")) ∷ (Num (pos 1)) ∷ []) ∷ []); missed = None; draw = None }
    ∷ record { actor = (Client 3); session = 3; asked = Call (requests.Do (statements.Select (codes "t") (shown.Columns (codes "id" ∷ [])) (conditions.Range (record { column = codes "id"; sign = signs.AtLeast; value = (Num (pos 1)) } ∷ record { column = codes "id"; sign = signs.AtMost; value = (Num (pos 1)) } ∷ [])))); side = (Some sides_at.After); answer = answers.Lost; missed = (Some (answers.Rows [])); draw = None }
    ∷ record { actor = (Client 4); session = 4; asked = Call (requests.Do (statements.Select (codes "t") shown.All (conditions.Equal (record { column = codes "id"; value = (Text (codes "c")) } ∷ [])))); side = None; answer = answers.Rows []; missed = None; draw = None }
    ∷ record { actor = (Client 2); session = 2; asked = Call (requests.Ends (codes "u")); side = None; answer = answers.Ends (Some (record { least = ((Text (codes "4")) ∷ []); greatest = ((Text (codes "g")) ∷ []) })); missed = None; draw = None }
    ∷ record { actor = (Client 4); session = 4; asked = Call (requests.Do (statements.Update (codes "t") (record { column = codes "id"; value = (Text (codes "g")) } ∷ record { column = codes "v"; value = (Num (pos 4)) } ∷ []) (conditions.Equal (record { column = codes "id"; value = (Text (codes "g")) } ∷ [])))); side = (Some sides_at.Before); answer = answers.Lost; missed = None; draw = None }
    ∷ record { actor = (Client 2); session = 2; asked = Call (requests.ReadLog 5 1 (codes "t" ∷ [])); side = None; answer = answers.Events [] 0; missed = None; draw = None }
    ∷ record { actor = (Client 2); session = 2; asked = Call requests.ShowWaiting; side = None; answer = answers.Waiting []; missed = None; draw = None }
    ∷ record { actor = (Client 2); session = 2; asked = Call (requests.Do (statements.Replace (codes "t") None ((Num (pos 5)) ∷ Null ∷ (Num (pos 1)) ∷ []) None)); side = None; answer = answers.Ok 1; missed = None; draw = None }
    ∷ record { actor = Insp; session = 5; asked = Call (requests.Rename (record { old = codes "x"; new = codes "y" } ∷ record { old = codes "t"; new = codes "x" } ∷ record { old = codes "u"; new = codes "w" } ∷ [])); side = None; answer = answers.Refused 1146 None; missed = None; draw = None }
    ∷ record { actor = Insp; session = 5; asked = Call requests.Begin; side = None; answer = answers.Ok 0; missed = None; draw = None }
    ∷ record { actor = (Client 7); session = 7; asked = Call (requests.Rename (record { old = codes "w"; new = codes "w" } ∷ record { old = codes "w"; new = codes "w" } ∷ record { old = codes "y"; new = codes "x" } ∷ [])); side = None; answer = answers.Refused 1146 None; missed = None; draw = None }
    ∷ record { actor = (Client 2); session = 2; asked = Call requests.ShowTables; side = None; answer = answers.Tables (record { name = codes "t"; comment = [] } ∷ record { name = codes "u"; comment = [] } ∷ []); missed = None; draw = None }
    ∷ record { actor = (Client 2); session = 2; asked = Call (requests.ChunkEnd (codes "u") (Closed ((Text (codes "g")) ∷ [])) ((Text (codes "g")) ∷ []) 1); side = None; answer = answers.End ((Text (codes "g")) ∷ []); missed = None; draw = None }
    ∷ record { actor = (Client 6); session = 6; asked = Call (requests.Create (record { name = codes "t"; columns = (record { name = codes "id"; kind = Int 4 false; nullable = false; default = None; auto = false } ∷ []); uniques = (record { name = None; places = (0 ∷ []) } ∷ []); indexes = []; comment = []; start = None })); side = None; answer = answers.Refused 1050 None; missed = None; draw = None }
    ∷ record { actor = (Client 2); session = 2; asked = Call (requests.BeginSpan (codes "t") (record { low = (Open ((Text (codes "5")) ∷ [])); high = (Closed ((Text (codes "5")) ∷ [])) }) 2); side = None; answer = answers.Keys [] ((Text (codes "5")) ∷ []); missed = None; draw = None }
    ∷ record { actor = Insp; session = 5; asked = Call (requests.Ends (codes "w")); side = None; answer = answers.Refused 1146 None; missed = None; draw = None }
    ∷ record { actor = (Client 2); session = 2; asked = Call requests.Commit; side = None; answer = answers.Ok 0; missed = None; draw = None }
    ∷ record { actor = (Client 7); session = 7; asked = Call (requests.Do (statements.Insert (codes "w") None ((Text (codes "6")) ∷ []) None)); side = None; answer = answers.Refused 1146 None; missed = None; draw = None }
    ∷ record { actor = (Client 6); session = 6; asked = Call (requests.Drop (codes "y")); side = None; answer = answers.Refused 1051 None; missed = None; draw = None }
    ∷ record { actor = (Client 7); session = 7; asked = Call (requests.Drop (codes "w")); side = None; answer = answers.Refused 1051 None; missed = None; draw = None }
    ∷ record { actor = (Client 7); session = 7; asked = Call (requests.Drop (codes "t")); side = None; answer = answers.Ok 0; missed = None; draw = None }
    ∷ record { actor = (Client 6); session = 6; asked = Call (requests.Do (statements.Insert (codes "t") (Some (codes "id" ∷ codes "v" ∷ [])) ((Text (codes "d")) ∷ (Text (codes "d")) ∷ []) None)); side = None; answer = answers.Refused 1146 None; missed = None; draw = None }
    ∷ record { actor = (Client 2); session = 2; asked = Call (requests.LockTables (codes "u" ∷ [])); side = None; answer = answers.Ok 0; missed = None; draw = None }
    ∷ record { actor = (Client 6); session = 6; asked = Call (requests.Create (record { name = codes "x"; columns = (record { name = codes "id"; kind = Int 4 false; nullable = false; default = None; auto = false } ∷ []); uniques = (record { name = None; places = (0 ∷ []) } ∷ []); indexes = []; comment = []; start = None })); side = None; answer = answers.Ok 0; missed = None; draw = None }
    ∷ record { actor = (Client 6); session = 6; asked = Call (requests.Do (statements.Update (codes "t") (record { column = codes "id"; value = (Text (codes "d")) } ∷ record { column = codes "m0"; value = Null } ∷ []) (conditions.Range (record { column = codes "id"; sign = signs.More; value = (Text (codes "g")) } ∷ [])))); side = None; answer = answers.Refused 1146 None; missed = None; draw = None }
    ∷ record { actor = (Client 6); session = 6; asked = Call (requests.Do (statements.Insert (codes "w") None ((Num (pos 1)) ∷ []) None)); side = None; answer = answers.Refused 1146 None; missed = None; draw = None }
    ∷ record { actor = (Client 6); session = 6; asked = Call (requests.LockTables (codes "y" ∷ codes "w" ∷ codes "x" ∷ [])); side = None; answer = answers.Refused 1146 None; missed = None; draw = None }
    ∷ record { actor = (Client 6); session = 6; asked = Call requests.Begin; side = None; answer = answers.Ok 0; missed = None; draw = None }
    ∷ record { actor = (Client 6); session = 6; asked = Call requests.ShowWaiting; side = None; answer = answers.Waiting []; missed = None; draw = None }
    ∷ record { actor = (Client 2); session = 2; asked = Call requests.LogEnd; side = None; answer = answers.At 1; missed = None; draw = None }
    ∷ record { actor = Insp; session = 5; asked = Call (requests.CopyRow (codes "u") (codes "u") (record { kind = VarChar 3; nullable = false; origin = from.Old 0 } ∷ record { kind = Int 4 false; nullable = true; origin = from.Old 1 } ∷ []) ((Text (codes "a")) ∷ [])); side = None; answer = answers.Waits 2; missed = None; draw = None }
    ∷ record { actor = (Client 2); session = 2; asked = Call requests.ShowTables; side = None; answer = answers.Tables (record { name = codes "u"; comment = [] } ∷ record { name = codes "x"; comment = [] } ∷ []); missed = None; draw = None }
    ∷ record { actor = (Client 6); session = 6; asked = Call (requests.ChunkEnd (codes "u") (Closed ((Text (codes "a")) ∷ [])) ((Text (codes "a")) ∷ []) 2); side = None; answer = answers.Waits 2; missed = None; draw = None }
    ∷ []

served_26 : IsServed (record { client_wait = 4; tool_wait = 1 }) tables_26 asked_26
unfolding computing
served_26 = record { answers = refl; sides = refl }

-- Sequence 27
abbrev tables_27 : Database
tables_27 = (record { schema = record { name = codes "t"; columns = (record { name = codes "m0"; kind = VarChar 3; nullable = true; default = (Some (Text (codes "1"))); auto = false } ∷ record { name = codes "id"; kind = VarBinary 3; nullable = false; default = None; auto = false } ∷ record { name = codes "v"; kind = Int 2 false; nullable = true; default = (Some Null); auto = false } ∷ []); uniques = (record { name = None; places = (1 ∷ []) } ∷ record { name = (Some (codes "u0")); places = (0 ∷ []) } ∷ []); indexes = []; comment = []; start = None }; rows = (((Text (codes "a")) ∷ (Blob (50 ∷ [])) ∷ (Num (pos 5)) ∷ []) ∷ ((Text (codes "d")) ∷ (Blob (51 ∷ [])) ∷ Null ∷ []) ∷ ((Text (codes "e")) ∷ (Blob (52 ∷ [])) ∷ Null ∷ []) ∷ (Null ∷ (Blob (100 ∷ [])) ∷ (Num (pos 4)) ∷ []) ∷ ((Text (codes "5")) ∷ (Blob (102 ∷ [])) ∷ Null ∷ []) ∷ []) } ∷ record { schema = record { name = codes "u"; columns = (record { name = codes "m0"; kind = VarChar 3; nullable = true; default = (Some Null); auto = false } ∷ record { name = codes "a"; kind = Int 4 false; nullable = false; default = None; auto = false } ∷ record { name = codes "c"; kind = VarChar 4; nullable = false; default = None; auto = false } ∷ record { name = codes "v"; kind = Int 2 false; nullable = true; default = (Some (Num (pos 5))); auto = false } ∷ []); uniques = (record { name = None; places = (1 ∷ 2 ∷ []) } ∷ record { name = (Some (codes "u0")); places = (0 ∷ []) } ∷ []); indexes = []; comment = []; start = None }; rows = (((Text (codes "6")) ∷ (Num (pos 2)) ∷ (Text (codes "e")) ∷ (Num (pos 1)) ∷ []) ∷ ((Text (codes "b")) ∷ (Num (pos 6)) ∷ (Text (codes "a")) ∷ (Num (pos 3)) ∷ []) ∷ ((Text (codes "d")) ∷ (Num (pos 7)) ∷ (Text (codes "b")) ∷ (Num (pos 3)) ∷ []) ∷ []) } ∷ record { schema = record { name = codes "w"; columns = (record { name = codes "id"; kind = Int 4 false; nullable = false; default = None; auto = false } ∷ record { name = codes "v"; kind = VarChar 6; nullable = true; default = (Some Null); auto = false } ∷ []); uniques = (record { name = (Some (codes "k")); places = (0 ∷ []) } ∷ []); indexes = (record { name = (Some (codes "v")); places = (1 ∷ []) } ∷ []); comment = []; start = None }; rows = [] } ∷ [])

abbrev asked_27 : List Entry
asked_27 =
    record { actor = (Client 1); session = 1; asked = Call (requests.Ends (codes "w")); side = None; answer = answers.Ends None; missed = None; draw = None }
    ∷ record { actor = (Client 1); session = 1; asked = Call (requests.Do (statements.Delete (codes "w") (conditions.Equal (record { column = codes "id"; value = (Text (codes "6")) } ∷ [])))); side = None; answer = answers.Ok 0; missed = None; draw = None }
    ∷ record { actor = (Client 1); session = 1; asked = Call requests.ShowWaiting; side = None; answer = answers.Waiting []; missed = None; draw = None }
    ∷ record { actor = (Client 2); session = 2; asked = Call (requests.BeginSpan (codes "y") (record { low = (Closed ((Num (pos 1)) ∷ [])); high = (Closed ((Num (pos 1)) ∷ [])) }) 1); side = None; answer = answers.Refused 1146 None; missed = None; draw = None }
    ∷ record { actor = (Client 1); session = 1; asked = Call requests.ShowTables; side = None; answer = answers.Tables (record { name = codes "t"; comment = [] } ∷ record { name = codes "u"; comment = [] } ∷ record { name = codes "w"; comment = [] } ∷ []); missed = None; draw = None }
    ∷ record { actor = (Client 1); session = 1; asked = Call (requests.Rename (record { old = codes "w"; new = codes "y" } ∷ [])); side = None; answer = answers.Ok 0; missed = None; draw = None }
    ∷ record { actor = (Client 1); session = 1; asked = Call (requests.LockTables (codes "y" ∷ codes "x" ∷ [])); side = None; answer = answers.Refused 1146 None; missed = None; draw = None }
    ∷ record { actor = (Client 2); session = 2; asked = Call requests.LogEnd; side = None; answer = answers.At 0; missed = None; draw = None }
    ∷ record { actor = (Client 2); session = 2; asked = Call (requests.Do (statements.Update (codes "t") (record { column = codes "id"; value = (Blob (5 ∷ [])) } ∷ []) (conditions.Equal (record { column = codes "id"; value = (Text (codes "f")) } ∷ [])))); side = None; answer = answers.Ok 1; missed = None; draw = None }
    ∷ record { actor = (Client 1); session = 1; asked = Call (requests.Do (statements.Update (codes "t") (record { column = codes "m0"; value = (Text (codes "a")) } ∷ record { column = codes "id"; value = (Text (codes "a")) } ∷ []) conditions.All)); side = None; answer = answers.Refused 1062 None; missed = None; draw = None }
    ∷ record { actor = (Client 3); session = 3; asked = Call (requests.ChunkEnd (codes "u") Free ((Num (pos 4)) ∷ (Text (codes "5")) ∷ []) 3); side = None; answer = answers.End ((Num (pos 4)) ∷ (Text (codes "5")) ∷ []); missed = None; draw = None }
    ∷ record { actor = (Client 3); session = 3; asked = Call requests.Begin; side = None; answer = answers.Ok 0; missed = None; draw = None }
    ∷ record { actor = (Client 3); session = 3; asked = Call (requests.Do (statements.Update (codes "w") (record { column = codes "v"; value = (Num (pos 4)) } ∷ []) (conditions.Equal (record { column = codes "id"; value = (Text (codes "5")) } ∷ [])))); side = None; answer = answers.Refused 1146 None; missed = None; draw = None }
    ∷ record { actor = (Client 3); session = 3; asked = Call (requests.Do (statements.Delete (codes "w") (conditions.Equal (record { column = codes "id"; value = (Num (pos 4)) } ∷ [])))); side = None; answer = answers.Refused 1146 None; missed = None; draw = None }
    ∷ record { actor = (Client 4); session = 4; asked = Call (requests.Do (statements.Replace (codes "t") None ((Text (codes "b")) ∷ (Text (codes "c")) ∷ (Num (pos 1)) ∷ []) None)); side = None; answer = answers.Ok 1; missed = None; draw = None }
    ∷ record { actor = (Client 1); session = 1; asked = Call (requests.Do (statements.Update (codes "u") (record { column = codes "c"; value = (Num (pos 2)) } ∷ record { column = codes "v"; value = (Num (pos 5)) } ∷ []) (conditions.Equal (record { column = codes "c"; value = (Text (codes "a")) } ∷ record { column = codes "a"; value = (Num (pos 1)) } ∷ [])))); side = None; answer = answers.Ok 0; missed = None; draw = None }
    ∷ record { actor = (Client 3); session = 3; asked = Call (requests.Do (statements.Update (codes "u") (record { column = codes "c"; value = (Text (codes "g")) } ∷ []) (conditions.Equal (record { column = codes "m0"; value = (Text (codes "c")) } ∷ [])))); side = None; answer = answers.Ok 0; missed = None; draw = None }
    ∷ record { actor = (Client 2); session = 2; asked = Call requests.ShowWaiting; side = None; answer = answers.Waiting []; missed = None; draw = None }
    ∷ record { actor = (Client 2); session = 2; asked = Call (requests.ReadLog 1 1 (codes "y" ∷ codes "t" ∷ [])); side = None; answer = answers.Events (record { table = codes "t"; change = changes.Write ((Text (codes "b")) ∷ (Blob (99 ∷ [])) ∷ (Num (pos 1)) ∷ []) } ∷ []) 2; missed = None; draw = None }
    ∷ record { actor = (Client 2); session = 2; asked = Call (requests.ChunkEnd (codes "t") Free ((Blob (54 ∷ [])) ∷ []) 3); side = None; answer = answers.End ((Blob (51 ∷ [])) ∷ []); missed = None; draw = None }
    ∷ record { actor = (Client 1); session = 1; asked = Call (requests.Create (record { name = codes "y"; columns = (record { name = codes "id"; kind = Int 4 false; nullable = false; default = None; auto = false } ∷ record { name = codes "v"; kind = VarChar 6; nullable = true; default = (Some Null); auto = false } ∷ []); uniques = (record { name = (Some (codes "k")); places = (0 ∷ []) } ∷ []); indexes = (record { name = (Some (codes "v")); places = (1 ∷ []) } ∷ []); comment = codes "z"; start = None })); side = None; answer = answers.Refused 1050 None; missed = None; draw = None }
    ∷ record { actor = (Client 1); session = 1; asked = Call requests.Begin; side = None; answer = answers.Ok 0; missed = None; draw = None }
    ∷ record { actor = (Client 4); session = 4; asked = Call (requests.LockTables (codes "u" ∷ [])); side = None; answer = answers.Waits 3; missed = None; draw = None }
    ∷ record { actor = (Client 1); session = 1; asked = Call requests.Rollback; side = None; answer = answers.Ok 0; missed = None; draw = None }
    ∷ record { actor = (Client 4); session = 4; asked = Poll; side = None; answer = answers.Waits 3; missed = None; draw = None }
    ∷ record { actor = (Client 1); session = 1; asked = Call (requests.Do (statements.Insert (codes "t") None ((Text (codes "a")) ∷ (Num (pos 6)) ∷ (Num (pos 3)) ∷ []) None)); side = None; answer = answers.Refused 1062 None; missed = None; draw = None }
    ∷ record { actor = (Client 2); session = 2; asked = Call (requests.BeginSpan (codes "y") (record { low = Free; high = (Closed ((Num (pos 6)) ∷ [])) }) 3); side = (Some sides_at.Before); answer = answers.Lost; missed = None; draw = None }
    ∷ record { actor = (Client 4); session = 4; asked = Poll; side = None; answer = answers.Waits 3; missed = None; draw = None }
    ∷ record { actor = (Client 4); session = 4; asked = Poll; side = None; answer = answers.Waits 3; missed = None; draw = None }
    ∷ record { actor = (Client 4); session = 4; asked = Poll; side = None; answer = answers.TimedOut 4; missed = None; draw = None }
    ∷ record { actor = (Client 1); session = 1; asked = Call requests.LogEnd; side = None; answer = answers.At 2; missed = None; draw = None }
    ∷ record { actor = (Client 1); session = 1; asked = Call (requests.LockTables (codes "u" ∷ [])); side = None; answer = answers.Waits 3; missed = None; draw = None }
    ∷ record { actor = (Client 1); session = 1; asked = Poll; side = None; answer = answers.Waits 3; missed = None; draw = None }
    ∷ record { actor = (Client 1); session = 1; asked = Poll; side = None; answer = answers.Waits 3; missed = None; draw = None }
    ∷ record { actor = (Client 3); session = 3; asked = Call (requests.Do (statements.Select (codes "u") (shown.Columns (codes "id" ∷ [])) (conditions.Range (record { column = codes "id"; sign = signs.AtLeast; value = (Num (pos 5)) } ∷ [])))); side = None; answer = answers.Refused 1054 None; missed = None; draw = None }
    ∷ record { actor = (Client 4); session = 4; asked = Call (requests.Do (statements.Delete (codes "u") (conditions.Equal (record { column = codes "c"; value = (Text (codes "c")) } ∷ record { column = codes "a"; value = (Text (codes "6")) } ∷ [])))); side = None; answer = answers.Waits 1; missed = None; draw = None }
    ∷ record { actor = (Client 5); session = 5; asked = Call (requests.Ends (codes "t")); side = None; answer = answers.Ends (Some (record { least = ((Blob (5 ∷ [])) ∷ []); greatest = ((Blob (100 ∷ [])) ∷ []) })); missed = None; draw = None }
    ∷ record { actor = (Client 3); session = 3; asked = Call (requests.Create (record { name = codes "t"; columns = (record { name = codes "m0"; kind = VarChar 3; nullable = true; default = (Some (Text (codes "1"))); auto = false } ∷ record { name = codes "id"; kind = VarBinary 3; nullable = false; default = None; auto = false } ∷ record { name = codes "v"; kind = Int 2 false; nullable = true; default = (Some Null); auto = false } ∷ []); uniques = (record { name = None; places = (1 ∷ []) } ∷ record { name = (Some (codes "u0")); places = (0 ∷ []) } ∷ []); indexes = []; comment = []; start = None })); side = None; answer = answers.Refused 1050 None; missed = None; draw = None }
    ∷ record { actor = (Client 4); session = 4; asked = Poll; side = None; answer = answers.Waits 1; missed = None; draw = None }
    ∷ record { actor = (Client 3); session = 3; asked = Call (requests.Do (statements.Insert (codes "w") (Some (codes "id" ∷ codes "v" ∷ [])) ((Num (pos 3)) ∷ (Text (codes "b")) ∷ []) None)); side = None; answer = answers.Refused 1146 None; missed = None; draw = None }
    ∷ record { actor = (Client 4); session = 4; asked = Poll; side = None; answer = answers.Waits 1; missed = None; draw = None }
    ∷ record { actor = (Client 5); session = 5; asked = Call requests.Begin; side = None; answer = answers.Ok 0; missed = None; draw = None }
    ∷ record { actor = (Client 1); session = 1; asked = Poll; side = None; answer = answers.Waits 3; missed = None; draw = None }
    ∷ record { actor = (Client 3); session = 3; asked = Call (requests.CopyRow (codes "t") (codes "t") (record { kind = VarChar 3; nullable = true; origin = from.Old 2 } ∷ record { kind = VarBinary 3; nullable = false; origin = from.Old 2 } ∷ record { kind = Int 2 false; nullable = true; origin = from.Old 1 } ∷ []) ((Blob (51 ∷ [])) ∷ [])); side = None; answer = answers.Refused 1048 (Some 1); missed = None; draw = None }
    ∷ record { actor = (Client 3); session = 3; asked = Call (requests.Ends (codes "u")); side = None; answer = answers.Ends (Some (record { least = ((Num (pos 2)) ∷ (Text (codes "e")) ∷ []); greatest = ((Num (pos 7)) ∷ (Text (codes "b")) ∷ []) })); missed = None; draw = None }
    ∷ []

served_27 : IsServed (record { client_wait = 4; tool_wait = 2 }) tables_27 asked_27
unfolding computing
served_27 = record { answers = refl; sides = refl }
