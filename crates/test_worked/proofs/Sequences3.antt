-- Random sequences of requests to the server; the answers are those of an independent model.
use Rattle.std.proofs.Common.{pos, true, false, List, [], ◌∷◌, Some, None, refl}
use Rattle.std.specs.Prelude.{codes}
use Rattle.base_values.specs.declared.value.Value.TheVariants.{Null, Num, Text, Blob}
use Rattle.base_values.specs.declared.kind.Kind.TheVariants.{Int, VarChar, VarBinary}
use Rattle.base_values.specs.declared.span.Bound.TheVariants.{Free, Open, Closed}
use Rattle.base_values.specs.declared.row_conversion.map.Origin.TheVariants as from
use Rattle.base_values.specs.declared.event.Change.TheVariants as changes
use Rattle.base_script.specs.declared.actor.Actor.TheVariants.{Insp, Client}
use Rattle.base_script.specs.declared.actor.Side.TheVariants as sides_at
use Rattle.base_script.specs.declared.statement.Statement.TheVariants as statements
use Rattle.base_script.specs.declared.statement.Condition.TheVariants as conditions
use Rattle.base_script.specs.declared.statement.Shown.TheVariants as shown
use Rattle.base_script.specs.declared.statement.Sign.TheVariants as signs
use Rattle.table_store.specs.Databases.{Database}
use Rattle.server_model.specs.declared.request.Request.TheVariants as requests
use Rattle.server_model.specs.declared.answer.Answer.TheVariants as answers
use Rattle.server_model.specs.declared.entry.Entry.{Entry}
use Rattle.server_model.specs.declared.entry.Asked.TheVariants.{Call, Poll, Cut}
use Rattle.test_worked.proofs.Computing.{computing, IsServed}

-- Sequence 29
abbrev tables_29 : Database
tables_29 = (record { schema = record { name = codes "t"; columns = (record { name = codes "id"; kind = Int 4 false; nullable = false; default = None; auto = false } ∷ record { name = codes "v"; kind = VarChar 6; nullable = true; default = (Some Null); auto = false } ∷ []); uniques = (record { name = (Some (codes "k")); places = (0 ∷ []) } ∷ []); indexes = []; comment = []; start = None }; rows = (((Num (pos 7)) ∷ (Text (codes "7")) ∷ []) ∷ []) } ∷ record { schema = record { name = codes "u"; columns = (record { name = codes "id"; kind = Int 8 false; nullable = false; default = None; auto = false } ∷ record { name = codes "m0"; kind = VarChar 3; nullable = true; default = (Some Null); auto = false } ∷ []); uniques = (record { name = None; places = (0 ∷ []) } ∷ record { name = (Some (codes "u0")); places = (1 ∷ []) } ∷ []); indexes = []; comment = []; start = None }; rows = (((Num (pos 3)) ∷ (Text (codes "d")) ∷ []) ∷ ((Num (pos 4)) ∷ (Text (codes "3")) ∷ []) ∷ ((Num (pos 6)) ∷ (Text (codes "c")) ∷ []) ∷ []) } ∷ record { schema = record { name = codes "w"; columns = (record { name = codes "id"; kind = Int 8 false; nullable = false; default = None; auto = false } ∷ record { name = codes "m0"; kind = Int 4 false; nullable = true; default = (Some Null); auto = false } ∷ []); uniques = (record { name = None; places = (0 ∷ []) } ∷ record { name = (Some (codes "u0")); places = (1 ∷ []) } ∷ []); indexes = []; comment = []; start = None }; rows = [] } ∷ [])

abbrev asked_29 : List Entry
asked_29 =
    record { actor = Insp; session = 1; asked = Call requests.LogEnd; side = None; answer = answers.At 0; missed = None; draw = None }
    ∷ record { actor = Insp; session = 1; asked = Call (requests.LockTables (codes "x" ∷ [])); side = None; answer = answers.Refused 1146 None; missed = None; draw = None }
    ∷ record { actor = Insp; session = 1; asked = Call (requests.Do (statements.Delete (codes "t") (conditions.Equal (record { column = codes "id"; value = (Num (pos 3)) } ∷ [])))); side = None; answer = answers.Ok 0; missed = None; draw = None }
    ∷ record { actor = Insp; session = 1; asked = Call requests.ShowWaiting; side = None; answer = answers.Waiting []; missed = None; draw = None }
    ∷ record { actor = Insp; session = 1; asked = Call (requests.Drop (codes "u")); side = None; answer = answers.Ok 0; missed = None; draw = None }
    ∷ record { actor = Insp; session = 1; asked = Call (requests.BeginSpan (codes "t") (record { low = Free; high = (Closed ((Num (pos 7)) ∷ [])) }) 1); side = None; answer = answers.Keys (((Num (pos 7)) ∷ []) ∷ []) ((Num (pos 7)) ∷ []); missed = None; draw = None }
    ∷ record { actor = Insp; session = 1; asked = Call requests.ShowWaiting; side = None; answer = answers.Waiting []; missed = None; draw = None }
    ∷ record { actor = Insp; session = 1; asked = Call (requests.Do (statements.Insert (codes "t") None ((Num (pos 3)) ∷ (Text (codes "a")) ∷ (Num (pos 1)) ∷ []) None)); side = None; answer = answers.Refused 1136 None; missed = None; draw = None }
    ∷ record { actor = Insp; session = 1; asked = Call (requests.ChunkEnd (codes "t") Free ((Num (pos 5)) ∷ []) 1); side = None; answer = answers.End ((Num (pos 5)) ∷ []); missed = None; draw = None }
    ∷ record { actor = Insp; session = 1; asked = Call (requests.Create (record { name = codes "t"; columns = (record { name = codes "id"; kind = Int 4 false; nullable = false; default = None; auto = false } ∷ record { name = codes "v"; kind = VarChar 6; nullable = true; default = (Some Null); auto = false } ∷ []); uniques = (record { name = (Some (codes "k")); places = (0 ∷ []) } ∷ []); indexes = []; comment = []; start = None })); side = None; answer = answers.Refused 1050 None; missed = None; draw = None }
    ∷ record { actor = Insp; session = 1; asked = Call (requests.Do (statements.Insert (codes "w") None ((Num (pos 1)) ∷ Null ∷ []) None)); side = None; answer = answers.Ok 1; missed = None; draw = None }
    ∷ record { actor = Insp; session = 1; asked = Call (requests.CopyRow (codes "t") (codes "w") (record { kind = Int 8 false; nullable = false; origin = from.Old 0 } ∷ record { kind = Int 4 false; nullable = true; origin = from.Old 1 } ∷ []) ((Num (pos 7)) ∷ [])); side = None; answer = answers.Ok 1; missed = None; draw = None }
    ∷ record { actor = Insp; session = 1; asked = Call requests.ShowWaiting; side = None; answer = answers.Waiting []; missed = None; draw = None }
    ∷ record { actor = Insp; session = 1; asked = Call requests.ShowTables; side = None; answer = answers.Tables (record { name = codes "t"; comment = [] } ∷ record { name = codes "w"; comment = [] } ∷ []); missed = None; draw = None }
    ∷ record { actor = Insp; session = 1; asked = Call (requests.Do (statements.Insert (codes "u") (Some (codes "id" ∷ codes "m0" ∷ [])) ((Num (pos 2)) ∷ (Num (pos 2)) ∷ []) None)); side = None; answer = answers.Refused 1146 None; missed = None; draw = None }
    ∷ record { actor = Insp; session = 1; asked = Call requests.Commit; side = None; answer = answers.Ok 0; missed = None; draw = None }
    ∷ record { actor = Insp; session = 1; asked = Call (requests.Create (record { name = codes "w"; columns = (record { name = codes "id"; kind = Int 8 false; nullable = false; default = None; auto = false } ∷ record { name = codes "m0"; kind = Int 4 false; nullable = true; default = (Some Null); auto = false } ∷ []); uniques = (record { name = None; places = (0 ∷ []) } ∷ record { name = (Some (codes "u0")); places = (1 ∷ []) } ∷ []); indexes = []; comment = codes "z"; start = None })); side = None; answer = answers.Refused 1050 None; missed = None; draw = None }
    ∷ record { actor = Insp; session = 1; asked = Call (requests.Create (record { name = codes "w"; columns = (record { name = codes "id"; kind = Int 8 false; nullable = false; default = None; auto = false } ∷ record { name = codes "m0"; kind = Int 4 false; nullable = true; default = (Some Null); auto = false } ∷ []); uniques = (record { name = None; places = (0 ∷ []) } ∷ record { name = (Some (codes "u0")); places = (1 ∷ []) } ∷ []); indexes = []; comment = codes "z"; start = None })); side = None; answer = answers.Refused 1050 None; missed = None; draw = None }
    ∷ record { actor = Insp; session = 1; asked = Call (requests.ChunkEnd (codes "t") (Open ((Num (pos 7)) ∷ [])) ((Num (pos 7)) ∷ []) 1); side = None; answer = answers.End ((Num (pos 7)) ∷ []); missed = None; draw = None }
    ∷ record { actor = Insp; session = 2; asked = Call (requests.LockTables (codes "w" ∷ codes "x" ∷ [])); side = None; answer = answers.Refused 1146 None; missed = None; draw = None }
    ∷ record { actor = Insp; session = 1; asked = Call (requests.Do (statements.Insert (codes "t") None ((Num (pos 5)) ∷ (Text (codes "c")) ∷ []) None)); side = None; answer = answers.Ok 1; missed = None; draw = None }
    ∷ record { actor = Insp; session = 2; asked = Call (requests.Ends (codes "w")); side = None; answer = answers.Ends (Some (record { least = ((Num (pos 1)) ∷ []); greatest = ((Num (pos 7)) ∷ []) })); missed = None; draw = None }
    ∷ record { actor = (Client 3); session = 3; asked = Call (requests.ChunkEnd (codes "w") (Open ((Num (pos 6)) ∷ [])) ((Num (pos 7)) ∷ []) 2); side = None; answer = answers.End ((Num (pos 7)) ∷ []); missed = None; draw = None }
    ∷ record { actor = Insp; session = 1; asked = Call requests.Begin; side = None; answer = answers.Ok 0; missed = None; draw = None }
    ∷ record { actor = Insp; session = 2; asked = Call (requests.Create (record { name = codes "t"; columns = (record { name = codes "id"; kind = Int 8 false; nullable = false; default = None; auto = false } ∷ record { name = codes "m0"; kind = VarChar 3; nullable = true; default = (Some Null); auto = false } ∷ []); uniques = (record { name = None; places = (0 ∷ []) } ∷ record { name = (Some (codes "u0")); places = (1 ∷ []) } ∷ []); indexes = []; comment = []; start = None })); side = None; answer = answers.Refused 1050 None; missed = None; draw = None }
    ∷ record { actor = Insp; session = 2; asked = Call requests.ShowTables; side = None; answer = answers.Tables (record { name = codes "t"; comment = [] } ∷ record { name = codes "w"; comment = [] } ∷ []); missed = None; draw = None }
    ∷ record { actor = Insp; session = 1; asked = Call (requests.Do (statements.Insert (codes "u") (Some (codes "id" ∷ codes "m0" ∷ [])) ((Num (pos 1)) ∷ (Text (codes "c")) ∷ []) None)); side = None; answer = answers.Refused 1146 None; missed = None; draw = None }
    ∷ record { actor = Insp; session = 2; asked = Call (requests.Do (statements.Delete (codes "t") (conditions.Equal (record { column = codes "id"; value = (Num (pos 4)) } ∷ [])))); side = None; answer = answers.Ok 0; missed = None; draw = None }
    ∷ record { actor = Insp; session = 2; asked = Call (requests.ChunkEnd (codes "t") Free ((Num (pos 7)) ∷ []) 2); side = None; answer = answers.End ((Num (pos 7)) ∷ []); missed = None; draw = None }
    ∷ record { actor = (Client 3); session = 3; asked = Call (requests.Do (statements.Replace (codes "t") None ((Num (pos 4)) ∷ (Num (pos 1)) ∷ []) None)); side = None; answer = answers.Ok 1; missed = None; draw = None }
    ∷ record { actor = (Client 3); session = 3; asked = Call requests.ShowTables; side = None; answer = answers.Tables (record { name = codes "t"; comment = [] } ∷ record { name = codes "w"; comment = [] } ∷ []); missed = None; draw = None }
    ∷ record { actor = Insp; session = 2; asked = Call (requests.Do (statements.Select (codes "t") shown.Count (conditions.Equal (record { column = codes "id"; value = (Num (pos 2)) } ∷ [])))); side = None; answer = answers.Rows (((Num (pos 0)) ∷ []) ∷ []); missed = None; draw = None }
    ∷ record { actor = (Client 4); session = 4; asked = Call (requests.Do (statements.Select (codes "w") (shown.Columns (codes "id" ∷ [])) (conditions.Range (record { column = codes "id"; sign = signs.AtLeast; value = (Num (pos 3)) } ∷ record { column = codes "id"; sign = signs.AtMost; value = (Text (codes "zzzzzzzzz")) } ∷ [])))); side = None; answer = answers.Refused 1366 (Some 0); missed = None; draw = None }
    ∷ record { actor = (Client 4); session = 4; asked = Call (requests.LockTables (codes "u" ∷ codes "t" ∷ [])); side = None; answer = answers.Waits 1; missed = None; draw = None }
    ∷ record { actor = (Client 3); session = 3; asked = Call (requests.Do (statements.Replace (codes "u") None ((Num (pos 2)) ∷ (Text (codes "c")) ∷ []) None)); side = None; answer = answers.Waits 4; missed = None; draw = None }
    ∷ record { actor = Insp; session = 1; asked = Call (requests.Do (statements.Select (codes "w") shown.All (conditions.Equal (record { column = codes "id"; value = (Text (codes "1")) } ∷ [])))); side = None; answer = answers.Rows (((Num (pos 1)) ∷ Null ∷ []) ∷ []); missed = None; draw = None }
    ∷ record { actor = Insp; session = 2; asked = Call (requests.Do (statements.Replace (codes "w") (Some (codes "id" ∷ [])) ((Num (pos 7)) ∷ []) None)); side = None; answer = answers.Ok 2; missed = None; draw = None }
    ∷ record { actor = Insp; session = 2; asked = Call (requests.Do (statements.Select (codes "t") shown.All (conditions.Equal (record { column = codes "id"; value = (Num (pos 6)) } ∷ [])))); side = None; answer = answers.Waits 4; missed = None; draw = None }
    ∷ record { actor = Insp; session = 2; asked = Poll; side = None; answer = answers.TimedOut 1; missed = None; draw = None }
    ∷ record { actor = Insp; session = 1; asked = Call (requests.Do (statements.Delete (codes "u") (conditions.Equal (record { column = codes "m0"; value = (Text (codes "e")) } ∷ [])))); side = None; answer = answers.Refused 1146 None; missed = None; draw = None }
    ∷ record { actor = Insp; session = 2; asked = Call (requests.Do (statements.Update (codes "t") (record { column = codes "v"; value = (Num (pos 6)) } ∷ record { column = codes "v"; value = (Text (codes "g")) } ∷ []) (conditions.Equal (record { column = codes "id"; value = (Num (pos 3)) } ∷ [])))); side = None; answer = answers.Waits 4; missed = None; draw = None }
    ∷ record { actor = (Client 3); session = 3; asked = Poll; side = (Some sides_at.After); answer = answers.Lost; missed = (Some (answers.Waits 4)); draw = None }
    ∷ record { actor = (Client 4); session = 4; asked = Poll; side = None; answer = answers.Waits 1; missed = None; draw = None }
    ∷ record { actor = Insp; session = 2; asked = Poll; side = None; answer = answers.TimedOut 1; missed = None; draw = None }
    ∷ record { actor = (Client 4); session = 4; asked = Poll; side = None; answer = answers.Waits 1; missed = None; draw = None }
    ∷ []

served_29 : IsServed (record { client_wait = 4; tool_wait = 1 }) tables_29 asked_29
unfolding computing
served_29 = record { answers = refl; sides = refl }

-- Sequence 30
abbrev tables_30 : Database
tables_30 = (record { schema = record { name = codes "t"; columns = (record { name = codes "id"; kind = Int 4 false; nullable = false; default = None; auto = false } ∷ record { name = codes "m0"; kind = Int 4 false; nullable = true; default = (Some Null); auto = false } ∷ record { name = codes "v"; kind = Int 4 false; nullable = false; default = None; auto = false } ∷ []); uniques = (record { name = (Some (codes "k")); places = (0 ∷ []) } ∷ record { name = (Some (codes "u0")); places = (0 ∷ 1 ∷ []) } ∷ []); indexes = []; comment = []; start = None }; rows = (((Num (pos 3)) ∷ (Num (pos 3)) ∷ (Num (pos 4)) ∷ []) ∷ ((Num (pos 5)) ∷ (Num (pos 6)) ∷ (Num (pos 6)) ∷ []) ∷ ((Num (pos 7)) ∷ (Num (pos 1)) ∷ (Num (pos 4)) ∷ []) ∷ []) } ∷ record { schema = record { name = codes "u"; columns = (record { name = codes "id"; kind = Int 4 false; nullable = false; default = None; auto = false } ∷ record { name = codes "m0"; kind = Int 1 false; nullable = false; default = None; auto = false } ∷ record { name = codes "m1"; kind = Int 4 false; nullable = true; default = (Some Null); auto = false } ∷ record { name = codes "v"; kind = Int 2 false; nullable = true; default = (Some Null); auto = false } ∷ []); uniques = (record { name = None; places = (0 ∷ []) } ∷ record { name = (Some (codes "u0")); places = (0 ∷ 1 ∷ []) } ∷ record { name = (Some (codes "u1")); places = (2 ∷ []) } ∷ []); indexes = (record { name = (Some (codes "v")); places = (3 ∷ []) } ∷ []); comment = []; start = None }; rows = (((Num (pos 3)) ∷ (Num (pos 5)) ∷ Null ∷ (Num (pos 2)) ∷ []) ∷ ((Num (pos 4)) ∷ (Num (pos 4)) ∷ Null ∷ Null ∷ []) ∷ ((Num (pos 5)) ∷ (Num (pos 3)) ∷ (Num (pos 1)) ∷ (Num (pos 7)) ∷ []) ∷ ((Num (pos 6)) ∷ (Num (pos 6)) ∷ (Num (pos 7)) ∷ (Num (pos 4)) ∷ []) ∷ []) } ∷ record { schema = record { name = codes "w"; columns = (record { name = codes "m0"; kind = VarChar 3; nullable = true; default = (Some (Text (codes "1"))); auto = false } ∷ record { name = codes "v"; kind = VarChar 6; nullable = true; default = (Some (Text (codes "5"))); auto = false } ∷ record { name = codes "id"; kind = Int 1 false; nullable = false; default = None; auto = false } ∷ []); uniques = (record { name = None; places = (2 ∷ []) } ∷ record { name = (Some (codes "u0")); places = (0 ∷ []) } ∷ []); indexes = []; comment = []; start = None }; rows = (((Text (codes "f")) ∷ Null ∷ (Num (pos 7)) ∷ []) ∷ []) } ∷ [])

abbrev asked_30 : List Entry
asked_30 =
    record { actor = (Client 1); session = 1; asked = Call (requests.Do (statements.Update (codes "t") (record { column = codes "m0"; value = Null } ∷ record { column = codes "v"; value = (Num (pos 2)) } ∷ []) (conditions.Equal (record { column = codes "id"; value = (Num (pos 2)) } ∷ [])))); side = None; answer = answers.Ok 0; missed = None; draw = None }
    ∷ record { actor = (Client 1); session = 1; asked = Call (requests.Do (statements.Replace (codes "w") (Some (codes "m0" ∷ codes "v" ∷ codes "id" ∷ [])) ((Text (codes "a")) ∷ (Text (codes "e")) ∷ (Num (pos 1)) ∷ []) None)); side = (Some sides_at.After); answer = answers.Lost; missed = (Some (answers.Ok 1)); draw = None }
    ∷ record { actor = Insp; session = 3; asked = Call requests.Begin; side = None; answer = answers.Ok 0; missed = None; draw = None }
    ∷ record { actor = (Client 2); session = 2; asked = Call (requests.ChunkEnd (codes "u") Free ((Num (pos 1)) ∷ []) 1); side = None; answer = answers.End ((Num (pos 1)) ∷ []); missed = None; draw = None }
    ∷ record { actor = Insp; session = 3; asked = Call (requests.Do (statements.Update (codes "w") (record { column = codes "v"; value = Null } ∷ []) (conditions.Equal (record { column = codes "id"; value = (Num (pos 1)) } ∷ [])))); side = None; answer = answers.Ok 1; missed = None; draw = None }
    ∷ record { actor = Insp; session = 3; asked = Call (requests.Do (statements.Delete (codes "t") (conditions.Equal (record { column = codes "id"; value = (Num (pos 2)) } ∷ record { column = codes "m0"; value = (Num (pos 1)) } ∷ [])))); side = None; answer = answers.Ok 0; missed = None; draw = None }
    ∷ record { actor = Insp; session = 3; asked = Call (requests.Ends (codes "u")); side = None; answer = answers.Ends (Some (record { least = ((Num (pos 3)) ∷ []); greatest = ((Num (pos 6)) ∷ []) })); missed = None; draw = None }
    ∷ record { actor = (Client 2); session = 2; asked = Call requests.ShowWaiting; side = None; answer = answers.Waiting []; missed = None; draw = None }
    ∷ record { actor = Insp; session = 3; asked = Call (requests.ChunkEnd (codes "u") (Open ((Num (pos 4)) ∷ [])) ((Num (pos 4)) ∷ []) 3); side = None; answer = answers.End ((Num (pos 4)) ∷ []); missed = None; draw = None }
    ∷ record { actor = Insp; session = 3; asked = Call (requests.ReadLog 0 2 (codes "y" ∷ [])); side = None; answer = answers.Events [] 1; missed = None; draw = None }
    ∷ record { actor = Insp; session = 3; asked = Call (requests.CopyRow (codes "t") (codes "t") (record { kind = Int 4 false; nullable = false; origin = from.Old 2 } ∷ record { kind = Int 4 false; nullable = true; origin = from.Old 1 } ∷ record { kind = Int 4 false; nullable = false; origin = from.Old 2 } ∷ []) ((Num (pos 5)) ∷ [])); side = None; answer = answers.Ok 1; missed = None; draw = None }
    ∷ record { actor = Insp; session = 3; asked = Call (requests.Do (statements.Replace (codes "t") (Some (codes "id" ∷ codes "v" ∷ [])) ((Num (pos 5)) ∷ (Num (pos 6)) ∷ []) None)); side = None; answer = answers.Ok 2; missed = None; draw = None }
    ∷ record { actor = (Client 2); session = 2; asked = Call (requests.ChunkEnd (codes "w") (Open ((Num (pos 7)) ∷ [])) ((Num (pos 3)) ∷ []) 2); side = None; answer = answers.End ((Num (pos 3)) ∷ []); missed = None; draw = None }
    ∷ record { actor = Insp; session = 3; asked = Call (requests.Do (statements.Insert (codes "u") None ((Num (pos 3)) ∷ (Num (pos 2)) ∷ Null ∷ (Num (pos 3)) ∷ []) None)); side = None; answer = answers.Refused 1062 None; missed = None; draw = None }
    ∷ record { actor = Insp; session = 3; asked = Call (requests.Do (statements.Insert (codes "t") (Some (codes "id" ∷ codes "m0" ∷ codes "v" ∷ [])) ((Num (pos 7)) ∷ Null ∷ (Num (pos 5)) ∷ []) None)); side = None; answer = answers.Refused 1062 None; missed = None; draw = None }
    ∷ record { actor = (Client 2); session = 2; asked = Call requests.LogEnd; side = None; answer = answers.At 1; missed = None; draw = None }
    ∷ record { actor = Insp; session = 3; asked = Call (requests.Do (statements.Replace (codes "w") (Some (codes "m0" ∷ codes "v" ∷ codes "id" ∷ [])) ((Text (codes "d")) ∷ (Text (codes "e")) ∷ (Num (pos 6)) ∷ []) None)); side = None; answer = answers.Ok 1; missed = None; draw = None }
    ∷ record { actor = Insp; session = 3; asked = Call (requests.Do (statements.Insert (codes "u") (Some (codes "id" ∷ codes "m0" ∷ codes "v" ∷ [])) ((Num (pos 4)) ∷ (Num (pos 3)) ∷ (Num (pos 7)) ∷ []) None)); side = None; answer = answers.Refused 1062 None; missed = None; draw = None }
    ∷ record { actor = Insp; session = 4; asked = Cut; side = None; answer = answers.Lost; missed = None; draw = None }
    ∷ record { actor = Insp; session = 3; asked = Call (requests.Do (statements.Insert (codes "u") (Some (codes "id" ∷ codes "m0" ∷ codes "m1" ∷ codes "v" ∷ [])) ((Num (pos 2)) ∷ (Num (pos 6)) ∷ (Num (pos 6)) ∷ (Text (codes "4")) ∷ []) None)); side = None; answer = answers.Ok 1; missed = None; draw = None }
    ∷ record { actor = (Client 2); session = 2; asked = Call (requests.Do (statements.Update (codes "w") (record { column = codes "m0"; value = (Text (codes "a")) } ∷ record { column = codes "v"; value = (Text (codes "b")) } ∷ record { column = codes "id"; value = (Num (pos 1)) } ∷ []) (conditions.Equal (record { column = codes "id"; value = (Num (pos 1)) } ∷ [])))); side = None; answer = answers.Waits 3; missed = None; draw = None }
    ∷ record { actor = (Client 5); session = 5; asked = Cut; side = None; answer = answers.Lost; missed = None; draw = None }
    ∷ record { actor = (Client 6); session = 6; asked = Call requests.LogEnd; side = None; answer = answers.At 1; missed = None; draw = None }
    ∷ record { actor = Insp; session = 3; asked = Call requests.ShowWaiting; side = None; answer = answers.Waiting []; missed = None; draw = None }
    ∷ record { actor = (Client 2); session = 2; asked = Poll; side = None; answer = answers.Waits 3; missed = None; draw = None }
    ∷ record { actor = (Client 6); session = 6; asked = Call (requests.ChunkEnd (codes "u") Free ((Num (pos 3)) ∷ []) 3); side = None; answer = answers.End ((Num (pos 3)) ∷ []); missed = None; draw = None }
    ∷ record { actor = (Client 2); session = 2; asked = Poll; side = None; answer = answers.Waits 3; missed = None; draw = None }
    ∷ record { actor = Insp; session = 7; asked = Call (requests.Do (statements.Delete (codes "t") (conditions.Range (record { column = codes "id"; sign = signs.Less; value = (Num (pos 5)) } ∷ [])))); side = None; answer = answers.Ok 1; missed = None; draw = None }
    ∷ record { actor = Insp; session = 7; asked = Call (requests.Do (statements.Update (codes "u") (record { column = codes "id"; value = (Num (pos 1)) } ∷ record { column = codes "m0"; value = (Num (pos 4)) } ∷ []) (conditions.Equal (record { column = codes "id"; value = (Num (pos 3)) } ∷ [])))); side = None; answer = answers.Waits 3; missed = None; draw = None }
    ∷ record { actor = (Client 2); session = 2; asked = Poll; side = (Some sides_at.Before); answer = answers.Lost; missed = None; draw = None }
    ∷ record { actor = (Client 6); session = 6; asked = Call (requests.LockTables (codes "y" ∷ [])); side = None; answer = answers.Refused 1146 None; missed = None; draw = None }
    ∷ record { actor = Insp; session = 3; asked = Call requests.LogEnd; side = None; answer = answers.At 2; missed = None; draw = None }
    ∷ record { actor = Insp; session = 3; asked = Call (requests.Do (statements.Select (codes "u") shown.All (conditions.Equal (record { column = codes "id"; value = (Num (pos 6)) } ∷ [])))); side = None; answer = answers.Rows (((Num (pos 6)) ∷ (Num (pos 6)) ∷ (Num (pos 7)) ∷ (Num (pos 4)) ∷ []) ∷ []); missed = None; draw = None }
    ∷ record { actor = Insp; session = 7; asked = Poll; side = None; answer = answers.Waits 3; missed = None; draw = None }
    ∷ record { actor = Insp; session = 3; asked = Call (requests.Do (statements.Delete (codes "w") (conditions.Equal (record { column = codes "m0"; value = (Text (codes "f")) } ∷ [])))); side = None; answer = answers.Ok 1; missed = None; draw = None }
    ∷ record { actor = (Client 6); session = 6; asked = Call (requests.Do (statements.Update (codes "t") (record { column = codes "id"; value = (Num (pos 7)) } ∷ record { column = codes "m0"; value = (Text (codes "3")) } ∷ []) (conditions.Equal (record { column = codes "id"; value = (Num (pos 1)) } ∷ [])))); side = (Some sides_at.After); answer = answers.Lost; missed = (Some (answers.Ok 0)); draw = None }
    ∷ record { actor = Insp; session = 7; asked = Poll; side = None; answer = answers.TimedOut 2; missed = None; draw = None }
    ∷ record { actor = Insp; session = 7; asked = Call (requests.Do (statements.Update (codes "t") (record { column = codes "id"; value = (Num (pos 2)) } ∷ []) (conditions.Range (record { column = codes "id"; sign = signs.AtLeast; value = (Num (pos 5)) } ∷ [])))); side = None; answer = answers.Waits 3; missed = None; draw = None }
    ∷ record { actor = (Client 8); session = 8; asked = Call (requests.Do (statements.Delete (codes "w") conditions.All)); side = None; answer = answers.Waits 3; missed = None; draw = None }
    ∷ record { actor = (Client 8); session = 8; asked = Poll; side = None; answer = answers.Waits 3; missed = None; draw = None }
    ∷ record { actor = (Client 8); session = 8; asked = Poll; side = None; answer = answers.Waits 3; missed = None; draw = None }
    ∷ []

served_30 : IsServed (record { client_wait = 4; tool_wait = 2 }) tables_30 asked_30
unfolding computing
served_30 = record { answers = refl; sides = refl }

-- Sequence 31
abbrev tables_31 : Database
tables_31 = (record { schema = record { name = codes "t"; columns = (record { name = codes "id"; kind = Int 8 false; nullable = false; default = None; auto = false } ∷ []); uniques = (record { name = None; places = (0 ∷ []) } ∷ []); indexes = []; comment = codes "x"; start = None }; rows = (((Num (pos 7)) ∷ []) ∷ []) } ∷ record { schema = record { name = codes "u"; columns = (record { name = codes "id"; kind = Int 4 false; nullable = false; default = None; auto = false } ∷ record { name = codes "v"; kind = Int 2 false; nullable = true; default = (Some (Num (pos 5))); auto = false } ∷ record { name = codes "m0"; kind = Int 4 false; nullable = true; default = (Some Null); auto = false } ∷ []); uniques = (record { name = (Some (codes "k")); places = (0 ∷ []) } ∷ record { name = (Some (codes "u0")); places = (2 ∷ []) } ∷ []); indexes = []; comment = []; start = None }; rows = [] } ∷ record { schema = record { name = codes "w"; columns = (record { name = codes "id"; kind = Int 8 false; nullable = false; default = None; auto = false } ∷ record { name = codes "m0"; kind = Int 4 false; nullable = true; default = (Some Null); auto = false } ∷ []); uniques = (record { name = None; places = (0 ∷ []) } ∷ record { name = (Some (codes "u0")); places = (1 ∷ []) } ∷ []); indexes = []; comment = []; start = None }; rows = [] } ∷ [])

abbrev asked_31 : List Entry
asked_31 =
    record { actor = Insp; session = 1; asked = Call (requests.Do (statements.Select (codes "t") (shown.Columns (codes "id" ∷ [])) (conditions.Equal (record { column = codes "id"; value = (Num (pos 4)) } ∷ [])))); side = None; answer = answers.Rows []; missed = None; draw = None }
    ∷ record { actor = Insp; session = 1; asked = Call requests.Begin; side = None; answer = answers.Ok 0; missed = None; draw = None }
    ∷ record { actor = Insp; session = 1; asked = Call requests.ShowTables; side = None; answer = answers.Tables (record { name = codes "t"; comment = codes "x" } ∷ record { name = codes "u"; comment = [] } ∷ record { name = codes "w"; comment = [] } ∷ []); missed = None; draw = None }
    ∷ record { actor = Insp; session = 1; asked = Call (requests.Do (statements.Select (codes "u") shown.All (conditions.Equal (record { column = codes "id"; value = (Num (pos 5)) } ∷ [])))); side = None; answer = answers.Rows []; missed = None; draw = None }
    ∷ record { actor = Insp; session = 1; asked = Call requests.LogEnd; side = None; answer = answers.At 0; missed = None; draw = None }
    ∷ record { actor = Insp; session = 1; asked = Call requests.Rollback; side = (Some sides_at.Before); answer = answers.Lost; missed = None; draw = None }
    ∷ record { actor = (Client 2); session = 2; asked = Call (requests.Do (statements.Delete (codes "u") (conditions.Equal (record { column = codes "id"; value = (Num (pos 3)) } ∷ [])))); side = None; answer = answers.Ok 0; missed = None; draw = None }
    ∷ record { actor = (Client 2); session = 2; asked = Call (requests.ReadLog 2 1 (codes "t" ∷ codes "u" ∷ [])); side = None; answer = answers.Events [] 0; missed = None; draw = None }
    ∷ record { actor = (Client 2); session = 2; asked = Call (requests.Do (statements.Update (codes "u") (record { column = codes "v"; value = (Num (pos 6)) } ∷ record { column = codes "m0"; value = (Num (pos 2)) } ∷ []) (conditions.Range (record { column = codes "id"; sign = signs.Less; value = (Num (pos 1)) } ∷ record { column = codes "id"; sign = signs.Less; value = (Num (pos 2)) } ∷ [])))); side = None; answer = answers.Ok 0; missed = None; draw = None }
    ∷ record { actor = (Client 2); session = 2; asked = Call (requests.Do (statements.Select (codes "u") shown.All (conditions.Equal (record { column = codes "id"; value = (Num (pos 3)) } ∷ [])))); side = None; answer = answers.Rows []; missed = None; draw = None }
    ∷ record { actor = (Client 2); session = 2; asked = Call (requests.LockTables (codes "w" ∷ [])); side = None; answer = answers.Ok 0; missed = None; draw = None }
    ∷ record { actor = (Client 2); session = 2; asked = Call (requests.Drop (codes "w")); side = None; answer = answers.Ok 0; missed = None; draw = None }
    ∷ record { actor = (Client 2); session = 2; asked = Call (requests.Drop (codes "t")); side = None; answer = answers.Refused 1100 None; missed = None; draw = None }
    ∷ record { actor = (Client 2); session = 2; asked = Call (requests.Drop (codes "t")); side = None; answer = answers.Refused 1100 None; missed = None; draw = None }
    ∷ record { actor = (Client 2); session = 2; asked = Call (requests.Do (statements.Update (codes "u") (record { column = codes "v"; value = (Num (pos 7)) } ∷ record { column = codes "m0"; value = (Num (pos 4)) } ∷ []) conditions.All)); side = None; answer = answers.Refused 1100 None; missed = None; draw = None }
    ∷ record { actor = (Client 2); session = 2; asked = Call (requests.Drop (codes "w")); side = None; answer = answers.Refused 1051 None; missed = None; draw = None }
    ∷ record { actor = (Client 2); session = 2; asked = Call (requests.ChunkEnd (codes "w") (Open ((Num (pos 1)) ∷ [])) ((Num (pos 1)) ∷ []) 3); side = None; answer = answers.Refused 1146 None; missed = None; draw = None }
    ∷ record { actor = (Client 2); session = 2; asked = Call (requests.Do (statements.Delete (codes "u") (conditions.Equal (record { column = codes "id"; value = (Num (pos 2)) } ∷ [])))); side = None; answer = answers.Refused 1100 None; missed = None; draw = None }
    ∷ record { actor = (Client 2); session = 2; asked = Call (requests.Rename (record { old = codes "w"; new = codes "x" } ∷ [])); side = None; answer = answers.Refused 1100 None; missed = None; draw = None }
    ∷ record { actor = (Client 2); session = 2; asked = Call (requests.Do (statements.Insert (codes "t") None ((Num (pos 7)) ∷ []) None)); side = (Some sides_at.After); answer = answers.Lost; missed = (Some (answers.Refused 1100 None)); draw = None }
    ∷ record { actor = Insp; session = 3; asked = Call (requests.Do (statements.Replace (codes "w") None ((Num (pos 5)) ∷ (Num (pos 4)) ∷ []) None)); side = None; answer = answers.Refused 1146 None; missed = None; draw = None }
    ∷ record { actor = (Client 4); session = 4; asked = Call (requests.Do (statements.Update (codes "u") (record { column = codes "id"; value = (Num (pos 7)) } ∷ record { column = codes "m0"; value = Null } ∷ []) (conditions.Equal (record { column = codes "id"; value = (Num (pos 1)) } ∷ [])))); side = None; answer = answers.Ok 0; missed = None; draw = None }
    ∷ record { actor = Insp; session = 3; asked = Call requests.LogEnd; side = None; answer = answers.At 0; missed = None; draw = None }
    ∷ record { actor = (Client 4); session = 4; asked = Call (requests.Drop (codes "x")); side = None; answer = answers.Refused 1051 None; missed = None; draw = None }
    ∷ record { actor = (Client 5); session = 5; asked = Call requests.ShowWaiting; side = None; answer = answers.Waiting []; missed = None; draw = None }
    ∷ record { actor = (Client 4); session = 4; asked = Call (requests.Drop (codes "t")); side = None; answer = answers.Ok 0; missed = None; draw = None }
    ∷ record { actor = (Client 5); session = 5; asked = Call (requests.ChunkEnd (codes "t") (Closed ((Num (pos 1)) ∷ [])) ((Num (pos 1)) ∷ []) 2); side = None; answer = answers.Refused 1146 None; missed = None; draw = None }
    ∷ record { actor = Insp; session = 6; asked = Call (requests.Do (statements.Delete (codes "w") (conditions.Range (record { column = codes "id"; sign = signs.AtLeast; value = (Num (pos 2)) } ∷ record { column = codes "id"; sign = signs.AtMost; value = (Num (pos 5)) } ∷ [])))); side = None; answer = answers.Refused 1146 None; missed = None; draw = None }
    ∷ record { actor = (Client 5); session = 5; asked = Call requests.Begin; side = None; answer = answers.Ok 0; missed = None; draw = None }
    ∷ record { actor = (Client 5); session = 5; asked = Call requests.Commit; side = None; answer = answers.Ok 0; missed = None; draw = None }
    ∷ record { actor = (Client 5); session = 5; asked = Call requests.ShowTables; side = None; answer = answers.Tables (record { name = codes "u"; comment = [] } ∷ []); missed = None; draw = None }
    ∷ record { actor = (Client 4); session = 4; asked = Call (requests.Do (statements.Replace (codes "w") None ((Num (pos 1)) ∷ (Num (pos 5)) ∷ []) None)); side = None; answer = answers.Refused 1146 None; missed = None; draw = None }
    ∷ record { actor = Insp; session = 6; asked = Call (requests.ReadLog 4 1 (codes "u" ∷ codes "x" ∷ [])); side = None; answer = answers.Events [] 0; missed = None; draw = None }
    ∷ record { actor = Insp; session = 6; asked = Call (requests.Do (statements.Delete (codes "u") (conditions.Range (record { column = codes "id"; sign = signs.AtLeast; value = (Num (pos 6)) } ∷ record { column = codes "id"; sign = signs.AtMost; value = (Num (pos 3)) } ∷ [])))); side = None; answer = answers.Ok 0; missed = None; draw = None }
    ∷ record { actor = Insp; session = 6; asked = Call (requests.Do (statements.Delete (codes "u") (conditions.Range (record { column = codes "id"; sign = signs.AtLeast; value = (Num (pos 5)) } ∷ record { column = codes "id"; sign = signs.AtMost; value = (Num (pos 4)) } ∷ [])))); side = None; answer = answers.Ok 0; missed = None; draw = None }
    ∷ record { actor = Insp; session = 6; asked = Call (requests.Do (statements.Replace (codes "t") None ((Num (pos 1)) ∷ []) None)); side = None; answer = answers.Refused 1146 None; missed = None; draw = None }
    ∷ record { actor = Insp; session = 3; asked = Call requests.LogEnd; side = None; answer = answers.At 0; missed = None; draw = None }
    ∷ record { actor = Insp; session = 6; asked = Call (requests.ReadLog 3 1 (codes "x" ∷ [])); side = None; answer = answers.Events [] 0; missed = None; draw = None }
    ∷ record { actor = Insp; session = 3; asked = Call requests.ShowWaiting; side = None; answer = answers.Waiting []; missed = None; draw = None }
    ∷ record { actor = (Client 4); session = 4; asked = Call (requests.Rename (record { old = codes "y"; new = codes "w" } ∷ [])); side = None; answer = answers.Refused 1146 None; missed = None; draw = None }
    ∷ record { actor = Insp; session = 3; asked = Call (requests.Do (statements.Update (codes "w") (record { column = codes "m0"; value = (Num (pos 2)) } ∷ []) (conditions.Equal (record { column = codes "id"; value = (Num (pos 2)) } ∷ [])))); side = None; answer = answers.Refused 1146 None; missed = None; draw = None }
    ∷ record { actor = (Client 4); session = 4; asked = Call (requests.Create (record { name = codes "u"; columns = (record { name = codes "id"; kind = Int 4 false; nullable = false; default = None; auto = false } ∷ record { name = codes "v"; kind = Int 2 false; nullable = true; default = (Some (Num (pos 5))); auto = false } ∷ record { name = codes "m0"; kind = Int 4 false; nullable = true; default = (Some Null); auto = false } ∷ []); uniques = (record { name = (Some (codes "k")); places = (0 ∷ []) } ∷ record { name = (Some (codes "u0")); places = (2 ∷ []) } ∷ []); indexes = []; comment = codes "z"; start = None })); side = None; answer = answers.Refused 1050 None; missed = None; draw = None }
    ∷ record { actor = (Client 5); session = 5; asked = Call (requests.BeginSpan (codes "w") (record { low = (Open ((Num (pos 1)) ∷ [])); high = (Closed ((Num (pos 1)) ∷ [])) }) 2); side = None; answer = answers.Refused 1146 None; missed = None; draw = None }
    ∷ record { actor = Insp; session = 3; asked = Call (requests.Do (statements.Delete (codes "t") (conditions.Equal (record { column = codes "id"; value = (Num (pos 5)) } ∷ [])))); side = None; answer = answers.Refused 1146 None; missed = None; draw = None }
    ∷ []

served_31 : IsServed (record { client_wait = 1; tool_wait = 2 }) tables_31 asked_31
unfolding computing
served_31 = record { answers = refl; sides = refl }

-- Sequence 32
abbrev tables_32 : Database
tables_32 = (record { schema = record { name = codes "t"; columns = (record { name = codes "id"; kind = Int 4 false; nullable = false; default = None; auto = false } ∷ record { name = codes "m0"; kind = VarChar 3; nullable = true; default = (Some Null); auto = false } ∷ record { name = codes "v"; kind = Int 2 false; nullable = false; default = None; auto = false } ∷ []); uniques = (record { name = None; places = (0 ∷ []) } ∷ record { name = (Some (codes "u0")); places = (0 ∷ 1 ∷ []) } ∷ []); indexes = []; comment = []; start = None }; rows = (((Num (pos 1)) ∷ (Text (codes "3")) ∷ (Num (pos 5)) ∷ []) ∷ ((Num (pos 2)) ∷ (Text (codes "2")) ∷ (Num (pos 3)) ∷ []) ∷ []) } ∷ record { schema = record { name = codes "u"; columns = (record { name = codes "m0"; kind = Int 4 false; nullable = true; default = (Some Null); auto = false } ∷ record { name = codes "v"; kind = VarChar 6; nullable = true; default = (Some (Text (codes "5"))); auto = false } ∷ record { name = codes "id"; kind = Int 4 false; nullable = false; default = None; auto = false } ∷ record { name = codes "m1"; kind = Int 4 false; nullable = true; default = (Some Null); auto = false } ∷ []); uniques = (record { name = None; places = (2 ∷ []) } ∷ record { name = (Some (codes "u0")); places = (0 ∷ []) } ∷ record { name = (Some (codes "u1")); places = (0 ∷ 3 ∷ []) } ∷ []); indexes = (record { name = (Some (codes "v")); places = (1 ∷ []) } ∷ []); comment = []; start = None }; rows = (((Num (pos 1)) ∷ Null ∷ (Num (pos 1)) ∷ (Num (pos 7)) ∷ []) ∷ ((Num (pos 7)) ∷ (Text (codes "1")) ∷ (Num (pos 2)) ∷ Null ∷ []) ∷ ((Num (pos 5)) ∷ (Text (codes "6")) ∷ (Num (pos 4)) ∷ Null ∷ []) ∷ ((Num (pos 3)) ∷ (Text (codes "a")) ∷ (Num (pos 7)) ∷ (Num (pos 3)) ∷ []) ∷ []) } ∷ record { schema = record { name = codes "w"; columns = (record { name = codes "id"; kind = VarBinary 3; nullable = false; default = None; auto = false } ∷ record { name = codes "m0"; kind = VarChar 3; nullable = true; default = (Some Null); auto = false } ∷ record { name = codes "v"; kind = Int 2 false; nullable = true; default = (Some Null); auto = false } ∷ []); uniques = (record { name = None; places = (0 ∷ []) } ∷ record { name = (Some (codes "u0")); places = (1 ∷ []) } ∷ []); indexes = []; comment = []; start = None }; rows = (((Blob (3 ∷ [])) ∷ (Text (codes "5")) ∷ (Num (pos 6)) ∷ []) ∷ ((Blob (5 ∷ [])) ∷ (Text (codes "6")) ∷ (Num (pos 1)) ∷ []) ∷ []) } ∷ [])

abbrev asked_32 : List Entry
asked_32 =
    record { actor = Insp; session = 1; asked = Call (requests.Do (statements.Delete (codes "u") (conditions.Equal (record { column = codes "id"; value = (Num (pos 1)) } ∷ [])))); side = None; answer = answers.Ok 1; missed = None; draw = None }
    ∷ record { actor = Insp; session = 1; asked = Call (requests.Do (statements.Insert (codes "t") None ((Text (codes "b")) ∷ (Text (codes "e")) ∷ Null ∷ []) None)); side = None; answer = answers.Refused 1366 (Some 0); missed = None; draw = None }
    ∷ record { actor = Insp; session = 1; asked = Call (requests.Do (statements.Update (codes "u") (record { column = codes "m0"; value = Null } ∷ record { column = codes "v"; value = (Num (pos 1)) } ∷ []) (conditions.Equal (record { column = codes "m0"; value = (Num (pos 2)) } ∷ record { column = codes "id"; value = (Num (pos 5)) } ∷ [])))); side = None; answer = answers.Refused 1235 None; missed = None; draw = None }
    ∷ record { actor = Insp; session = 1; asked = Call requests.ShowWaiting; side = None; answer = answers.Waiting []; missed = None; draw = None }
    ∷ record { actor = Insp; session = 1; asked = Call (requests.ChunkEnd (codes "u") (Closed ((Num (pos 7)) ∷ [])) ((Num (pos 2)) ∷ []) 3); side = None; answer = answers.End ((Num (pos 2)) ∷ []); missed = None; draw = None }
    ∷ record { actor = Insp; session = 1; asked = Call (requests.Do (statements.Delete (codes "u") (conditions.Equal (record { column = codes "id"; value = (Num (pos 6)) } ∷ [])))); side = None; answer = answers.Ok 0; missed = None; draw = None }
    ∷ record { actor = Insp; session = 1; asked = Call (requests.Create (record { name = codes "t"; columns = (record { name = codes "id"; kind = Int 4 false; nullable = false; default = None; auto = false } ∷ record { name = codes "m0"; kind = VarChar 3; nullable = true; default = (Some Null); auto = false } ∷ record { name = codes "v"; kind = Int 2 false; nullable = false; default = None; auto = false } ∷ []); uniques = (record { name = None; places = (0 ∷ []) } ∷ record { name = (Some (codes "u0")); places = (0 ∷ 1 ∷ []) } ∷ []); indexes = []; comment = []; start = None })); side = None; answer = answers.Refused 1050 None; missed = None; draw = None }
    ∷ record { actor = Insp; session = 1; asked = Call (requests.Do (statements.Replace (codes "t") (Some (codes "id" ∷ codes "m0" ∷ codes "v" ∷ [])) ((Blob (3 ∷ [])) ∷ (Text (codes "b")) ∷ (Num (pos 7)) ∷ []) None)); side = None; answer = answers.Refused 1366 (Some 0); missed = None; draw = None }
    ∷ record { actor = (Client 2); session = 2; asked = Call (requests.Do (statements.Update (codes "w") (record { column = codes "id"; value = (Num (pos 4)) } ∷ record { column = codes "m0"; value = (Text (codes "g")) } ∷ []) (conditions.Range (record { column = codes "id"; sign = signs.AtMost; value = (Num (pos 4)) } ∷ record { column = codes "id"; sign = signs.More; value = (Blob (3 ∷ [])) } ∷ [])))); side = None; answer = answers.Ok 1; missed = None; draw = None }
    ∷ record { actor = (Client 2); session = 2; asked = Call requests.LogEnd; side = None; answer = answers.At 2; missed = None; draw = None }
    ∷ record { actor = (Client 2); session = 2; asked = Call (requests.Do (statements.Select (codes "t") shown.All (conditions.Equal (record { column = codes "id"; value = (Num (pos 2)) } ∷ [])))); side = None; answer = answers.Rows (((Num (pos 2)) ∷ (Text (codes "2")) ∷ (Num (pos 3)) ∷ []) ∷ []); missed = None; draw = None }
    ∷ record { actor = (Client 2); session = 2; asked = Call (requests.ReadLog 1 2 (codes "t" ∷ codes "w" ∷ [])); side = None; answer = answers.Events (record { table = codes "w"; change = changes.Update ((Blob (5 ∷ [])) ∷ (Text (codes "6")) ∷ (Num (pos 1)) ∷ []) ((Blob (52 ∷ [])) ∷ (Text (codes "g")) ∷ (Num (pos 1)) ∷ []) } ∷ []) 2; missed = None; draw = None }
    ∷ record { actor = (Client 4); session = 4; asked = Call requests.LogEnd; side = None; answer = answers.At 2; missed = None; draw = None }
    ∷ record { actor = (Client 2); session = 2; asked = Call requests.Begin; side = None; answer = answers.Ok 0; missed = None; draw = None }
    ∷ record { actor = (Client 3); session = 3; asked = Call (requests.Do (statements.Update (codes "t") (record { column = codes "id"; value = (Num (pos 1)) } ∷ record { column = codes "m0"; value = (Text (codes "d")) } ∷ []) (conditions.Range (record { column = codes "id"; sign = signs.AtMost; value = (Num (pos 7)) } ∷ record { column = codes "id"; sign = signs.AtLeast; value = (Num (pos 6)) } ∷ [])))); side = None; answer = answers.Ok 0; missed = None; draw = None }
    ∷ record { actor = (Client 2); session = 2; asked = Call (requests.ReadLog 3 2 (codes "u" ∷ [])); side = None; answer = answers.Events [] 2; missed = None; draw = None }
    ∷ record { actor = (Client 2); session = 2; asked = Call (requests.Do (statements.Replace (codes "t") (Some (codes "id" ∷ codes "m0" ∷ codes "v" ∷ [])) ((Num (pos 6)) ∷ (Text (codes "f")) ∷ (Num (pos 5)) ∷ []) None)); side = None; answer = answers.Ok 1; missed = None; draw = None }
    ∷ record { actor = (Client 3); session = 3; asked = Cut; side = None; answer = answers.Lost; missed = None; draw = None }
    ∷ record { actor = Insp; session = 1; asked = Call (requests.ReadLog 2 5 (codes "u" ∷ [])); side = None; answer = answers.Events [] 2; missed = None; draw = None }
    ∷ record { actor = Insp; session = 1; asked = Call (requests.Do (statements.Insert (codes "u") (Some (codes "m0" ∷ codes "v" ∷ codes "id" ∷ [])) ((Num (pos 1)) ∷ (Text (codes "c")) ∷ (Num (pos 7)) ∷ []) None)); side = None; answer = answers.Refused 1062 None; missed = None; draw = None }
    ∷ record { actor = (Client 4); session = 4; asked = Call (requests.Do (statements.Replace (codes "u") (Some (codes "id" ∷ codes "m0" ∷ codes "v" ∷ [])) ((Num (pos 4)) ∷ (Num (pos 1)) ∷ (Num (pos 4)) ∷ []) None)); side = None; answer = answers.Ok 2; missed = None; draw = None }
    ∷ record { actor = Insp; session = 1; asked = Call (requests.Do (statements.Insert (codes "w") (Some (codes "id" ∷ codes "m0" ∷ codes "v" ∷ [])) ((Text (codes "d")) ∷ Null ∷ (Num (pos 6)) ∷ []) None)); side = None; answer = answers.Ok 1; missed = None; draw = None }
    ∷ record { actor = (Client 2); session = 2; asked = Call requests.Commit; side = None; answer = answers.Ok 0; missed = None; draw = None }
    ∷ record { actor = (Client 2); session = 2; asked = Call (requests.Do (statements.Delete (codes "t") (conditions.Equal (record { column = codes "id"; value = (Num (pos 6)) } ∷ [])))); side = None; answer = answers.Ok 1; missed = None; draw = None }
    ∷ record { actor = (Client 2); session = 2; asked = Call (requests.Do (statements.Update (codes "u") (record { column = codes "v"; value = (Num (pos 3)) } ∷ record { column = codes "id"; value = (Num (pos 2)) } ∷ record { column = codes "m1"; value = (Num (pos 6)) } ∷ []) (conditions.Equal (record { column = codes "m0"; value = (Num (pos 2)) } ∷ record { column = codes "m1"; value = (Text (codes "5")) } ∷ [])))); side = None; answer = answers.Ok 0; missed = None; draw = None }
    ∷ record { actor = (Client 2); session = 2; asked = Call requests.Begin; side = None; answer = answers.Ok 0; missed = None; draw = None }
    ∷ record { actor = (Client 4); session = 4; asked = Call (requests.Create (record { name = codes "u"; columns = (record { name = codes "m0"; kind = Int 4 false; nullable = true; default = (Some Null); auto = false } ∷ record { name = codes "v"; kind = VarChar 6; nullable = true; default = (Some (Text (codes "5"))); auto = false } ∷ record { name = codes "id"; kind = Int 4 false; nullable = false; default = None; auto = false } ∷ record { name = codes "m1"; kind = Int 4 false; nullable = true; default = (Some Null); auto = false } ∷ []); uniques = (record { name = None; places = (2 ∷ []) } ∷ record { name = (Some (codes "u0")); places = (0 ∷ []) } ∷ record { name = (Some (codes "u1")); places = (0 ∷ 3 ∷ []) } ∷ []); indexes = (record { name = (Some (codes "v")); places = (1 ∷ []) } ∷ []); comment = []; start = None })); side = None; answer = answers.Refused 1050 None; missed = None; draw = None }
    ∷ record { actor = Insp; session = 1; asked = Call (requests.Do (statements.Update (codes "u") (record { column = codes "m0"; value = Null } ∷ record { column = codes "v"; value = (Num (pos 7)) } ∷ record { column = codes "m1"; value = (Num (pos 5)) } ∷ []) (conditions.Equal (record { column = codes "id"; value = (Num (pos 3)) } ∷ [])))); side = None; answer = answers.Ok 0; missed = None; draw = None }
    ∷ record { actor = Insp; session = 1; asked = Call (requests.BeginSpan (codes "t") (record { low = (Open ((Num (pos 1)) ∷ [])); high = (Closed ((Num (pos 1)) ∷ [])) }) 3); side = None; answer = answers.Keys [] ((Num (pos 1)) ∷ []); missed = None; draw = None }
    ∷ record { actor = Insp; session = 5; asked = Call (requests.Ends (codes "u")); side = None; answer = answers.Ends (Some (record { least = ((Num (pos 2)) ∷ []); greatest = ((Num (pos 7)) ∷ []) })); missed = None; draw = None }
    ∷ record { actor = (Client 4); session = 4; asked = Call (requests.Do (statements.Replace (codes "w") None ((Num (pos 2)) ∷ Null ∷ (Num (pos 7)) ∷ []) None)); side = None; answer = answers.Ok 1; missed = None; draw = None }
    ∷ record { actor = Insp; session = 1; asked = Call (requests.Do (statements.Select (codes "w") (shown.Columns (codes "id" ∷ [])) (conditions.Equal (record { column = codes "m0"; value = (Text (codes "f")) } ∷ [])))); side = None; answer = answers.Rows []; missed = None; draw = None }
    ∷ record { actor = (Client 4); session = 4; asked = Call (requests.Do (statements.Replace (codes "u") (Some (codes "m0" ∷ codes "v" ∷ codes "id" ∷ codes "m1" ∷ [])) ((Num (pos 2)) ∷ (Text (codes "a")) ∷ (Num (pos 4)) ∷ Null ∷ []) None)); side = None; answer = answers.Ok 2; missed = None; draw = None }
    ∷ record { actor = Insp; session = 1; asked = Call requests.ShowTables; side = None; answer = answers.Tables (record { name = codes "t"; comment = [] } ∷ record { name = codes "u"; comment = [] } ∷ record { name = codes "w"; comment = [] } ∷ []); missed = None; draw = None }
    ∷ record { actor = Insp; session = 1; asked = Call (requests.Do (statements.Delete (codes "t") (conditions.Equal (record { column = codes "m0"; value = (Text (codes "1")) } ∷ record { column = codes "id"; value = (Num (pos 6)) } ∷ [])))); side = None; answer = answers.Ok 0; missed = None; draw = None }
    ∷ record { actor = (Client 2); session = 2; asked = Call (requests.Do (statements.Select (codes "w") shown.All (conditions.Equal (record { column = codes "m0"; value = (Text (codes "b")) } ∷ [])))); side = None; answer = answers.Rows []; missed = None; draw = None }
    ∷ record { actor = Insp; session = 1; asked = Call (requests.CopyRow (codes "t") (codes "w") (record { kind = VarBinary 3; nullable = false; origin = from.Old 1 } ∷ record { kind = VarChar 3; nullable = true; origin = from.Old 1 } ∷ record { kind = Int 2 false; nullable = true; origin = from.Added Null } ∷ []) ((Num (pos 1)) ∷ [])); side = None; answer = answers.Ok 1; missed = None; draw = None }
    ∷ record { actor = Insp; session = 5; asked = Call (requests.Do (statements.Replace (codes "w") (Some (codes "id" ∷ codes "m0" ∷ codes "v" ∷ [])) ((Blob (1 ∷ [])) ∷ Null ∷ (Num (pos 7)) ∷ []) None)); side = None; answer = answers.Ok 1; missed = None; draw = None }
    ∷ record { actor = (Client 4); session = 4; asked = Call (requests.Do (statements.Select (codes "w") shown.All (conditions.Range (record { column = codes "id"; sign = signs.AtLeast; value = (Text (codes "a")) } ∷ record { column = codes "id"; sign = signs.AtMost; value = (Text (codes "c")) } ∷ [])))); side = None; answer = answers.Rows []; missed = None; draw = None }
    ∷ record { actor = Insp; session = 1; asked = Call requests.ShowWaiting; side = None; answer = answers.Waiting []; missed = None; draw = None }
    ∷ record { actor = (Client 2); session = 2; asked = Call (requests.Create (record { name = codes "t"; columns = (record { name = codes "m0"; kind = Int 4 false; nullable = true; default = (Some Null); auto = false } ∷ record { name = codes "v"; kind = VarChar 6; nullable = true; default = (Some (Text (codes "5"))); auto = false } ∷ record { name = codes "id"; kind = Int 4 false; nullable = false; default = None; auto = false } ∷ record { name = codes "m1"; kind = Int 4 false; nullable = true; default = (Some Null); auto = false } ∷ []); uniques = (record { name = None; places = (2 ∷ []) } ∷ record { name = (Some (codes "u0")); places = (0 ∷ []) } ∷ record { name = (Some (codes "u1")); places = (0 ∷ 3 ∷ []) } ∷ []); indexes = (record { name = (Some (codes "v")); places = (1 ∷ []) } ∷ []); comment = codes "z"; start = None })); side = None; answer = answers.Waits 1; missed = None; draw = None }
    ∷ record { actor = (Client 2); session = 2; asked = Poll; side = None; answer = answers.TimedOut 1; missed = None; draw = None }
    ∷ record { actor = (Client 4); session = 4; asked = Call (requests.Do (statements.Delete (codes "t") conditions.All)); side = None; answer = answers.Ok 2; missed = None; draw = None }
    ∷ record { actor = Insp; session = 5; asked = Call (requests.Create (record { name = codes "t"; columns = (record { name = codes "id"; kind = Int 4 false; nullable = false; default = None; auto = false } ∷ record { name = codes "m0"; kind = VarChar 3; nullable = true; default = (Some Null); auto = false } ∷ record { name = codes "v"; kind = Int 2 false; nullable = false; default = None; auto = false } ∷ []); uniques = (record { name = None; places = (0 ∷ []) } ∷ record { name = (Some (codes "u0")); places = (0 ∷ 1 ∷ []) } ∷ []); indexes = []; comment = codes "z"; start = None })); side = None; answer = answers.Waits 1; missed = None; draw = None }
    ∷ record { actor = (Client 4); session = 4; asked = Call (requests.Do (statements.Replace (codes "w") None ((Num (pos 5)) ∷ (Text (codes "e")) ∷ (Num (pos 5)) ∷ []) None)); side = None; answer = answers.Ok 1; missed = None; draw = None }
    ∷ []

served_32 : IsServed (record { client_wait = 1; tool_wait = 1 }) tables_32 asked_32
unfolding computing
served_32 = record { answers = refl; sides = refl }

-- Sequence 33
abbrev tables_33 : Database
tables_33 = (record { schema = record { name = codes "t"; columns = (record { name = codes "id"; kind = Int 4 false; nullable = false; default = None; auto = false } ∷ record { name = codes "m0"; kind = Int 4 false; nullable = false; default = None; auto = false } ∷ []); uniques = (record { name = (Some (codes "k")); places = (0 ∷ []) } ∷ record { name = (Some (codes "u0")); places = (1 ∷ []) } ∷ []); indexes = []; comment = []; start = None }; rows = (((Num (pos 3)) ∷ (Num (pos 3)) ∷ []) ∷ []) } ∷ record { schema = record { name = codes "u"; columns = (record { name = codes "id"; kind = Int 4 false; nullable = false; default = None; auto = false } ∷ record { name = codes "m0"; kind = VarChar 3; nullable = false; default = None; auto = false } ∷ record { name = codes "m1"; kind = Int 4 false; nullable = true; default = (Some Null); auto = false } ∷ record { name = codes "v"; kind = VarChar 6; nullable = true; default = (Some Null); auto = false } ∷ []); uniques = (record { name = (Some (codes "k")); places = (0 ∷ []) } ∷ record { name = (Some (codes "u0")); places = (1 ∷ []) } ∷ record { name = (Some (codes "u1")); places = (0 ∷ 2 ∷ []) } ∷ []); indexes = []; comment = []; start = None }; rows = (((Num (pos 1)) ∷ (Text (codes "6")) ∷ Null ∷ Null ∷ []) ∷ ((Num (pos 3)) ∷ (Text (codes "c")) ∷ Null ∷ (Text (codes "c")) ∷ []) ∷ ((Num (pos 4)) ∷ (Text (codes "7")) ∷ (Num (pos 1)) ∷ (Text (codes "c")) ∷ []) ∷ ((Num (pos 7)) ∷ (Text (codes "d")) ∷ (Num (pos 6)) ∷ Null ∷ []) ∷ []) } ∷ record { schema = record { name = codes "w"; columns = (record { name = codes "id"; kind = Int 4 false; nullable = false; default = None; auto = false } ∷ record { name = codes "v"; kind = Int 2 false; nullable = false; default = None; auto = false } ∷ []); uniques = (record { name = None; places = (0 ∷ []) } ∷ []); indexes = (record { name = (Some (codes "v")); places = (1 ∷ []) } ∷ []); comment = []; start = None }; rows = (((Num (pos 3)) ∷ (Num (pos 3)) ∷ []) ∷ ((Num (pos 7)) ∷ (Num (pos 7)) ∷ []) ∷ []) } ∷ [])

abbrev asked_33 : List Entry
asked_33 =
    record { actor = (Client 1); session = 1; asked = Call requests.Begin; side = None; answer = answers.Ok 0; missed = None; draw = None }
    ∷ record { actor = (Client 1); session = 1; asked = Call requests.Rollback; side = None; answer = answers.Ok 0; missed = None; draw = None }
    ∷ record { actor = (Client 1); session = 1; asked = Call (requests.ChunkEnd (codes "t") (Open ((Num (pos 7)) ∷ [])) ((Num (pos 5)) ∷ []) 3); side = None; answer = answers.End ((Num (pos 5)) ∷ []); missed = None; draw = None }
    ∷ record { actor = (Client 1); session = 1; asked = Call (requests.ChunkEnd (codes "t") Free ((Num (pos 3)) ∷ []) 1); side = None; answer = answers.End ((Num (pos 3)) ∷ []); missed = None; draw = None }
    ∷ record { actor = (Client 1); session = 1; asked = Call requests.ShowTables; side = None; answer = answers.Tables (record { name = codes "t"; comment = [] } ∷ record { name = codes "u"; comment = [] } ∷ record { name = codes "w"; comment = [] } ∷ []); missed = None; draw = None }
    ∷ record { actor = (Client 1); session = 1; asked = Call requests.Begin; side = None; answer = answers.Ok 0; missed = None; draw = None }
    ∷ record { actor = (Client 1); session = 1; asked = Call requests.LogEnd; side = None; answer = answers.At 0; missed = None; draw = None }
    ∷ record { actor = Insp; session = 2; asked = Call (requests.Drop (codes "w")); side = None; answer = answers.Ok 0; missed = None; draw = None }
    ∷ record { actor = Insp; session = 2; asked = Call (requests.Do (statements.Insert (codes "u") None ((Num (pos 1)) ∷ (Text (codes "b")) ∷ (Num (pos 6)) ∷ (Num (pos 1)) ∷ (Num (pos 1)) ∷ []) None)); side = None; answer = answers.Refused 1136 None; missed = None; draw = None }
    ∷ record { actor = (Client 1); session = 1; asked = Call (requests.Create (record { name = codes "w"; columns = (record { name = codes "id"; kind = Int 4 false; nullable = false; default = None; auto = false } ∷ record { name = codes "m0"; kind = Int 4 false; nullable = false; default = None; auto = false } ∷ []); uniques = (record { name = (Some (codes "k")); places = (0 ∷ []) } ∷ record { name = (Some (codes "u0")); places = (1 ∷ []) } ∷ []); indexes = []; comment = codes "z"; start = None })); side = None; answer = answers.Ok 0; missed = None; draw = None }
    ∷ record { actor = Insp; session = 2; asked = Call (requests.Do (statements.Insert (codes "u") None ((Num (pos 1)) ∷ (Num (pos 2)) ∷ Null ∷ (Text (codes "g")) ∷ (Num (pos 1)) ∷ []) None)); side = (Some sides_at.After); answer = answers.Lost; missed = (Some (answers.Refused 1136 None)); draw = None }
    ∷ record { actor = (Client 1); session = 1; asked = Call requests.ShowTables; side = None; answer = answers.Tables (record { name = codes "t"; comment = [] } ∷ record { name = codes "u"; comment = [] } ∷ record { name = codes "w"; comment = codes "z" } ∷ []); missed = None; draw = None }
    ∷ record { actor = (Client 1); session = 1; asked = Call (requests.ReadLog 4 1 (codes "x" ∷ codes "y" ∷ [])); side = None; answer = answers.Events [] 0; missed = None; draw = None }
    ∷ record { actor = (Client 1); session = 1; asked = Call requests.LogEnd; side = None; answer = answers.At 0; missed = None; draw = None }
    ∷ record { actor = (Client 1); session = 1; asked = Call (requests.Do (statements.Select (codes "u") shown.All (conditions.Equal (record { column = codes "id"; value = (Num (pos 3)) } ∷ [])))); side = None; answer = answers.Rows (((Num (pos 3)) ∷ (Text (codes "c")) ∷ Null ∷ (Text (codes "c")) ∷ []) ∷ []); missed = None; draw = None }
    ∷ record { actor = (Client 1); session = 1; asked = Call (requests.Do (statements.Delete (codes "t") (conditions.Range (record { column = codes "id"; sign = signs.More; value = (Num (pos 1)) } ∷ record { column = codes "id"; sign = signs.AtMost; value = (Num (pos 2)) } ∷ [])))); side = None; answer = answers.Ok 0; missed = None; draw = None }
    ∷ record { actor = Insp; session = 3; asked = Cut; side = None; answer = answers.Lost; missed = None; draw = None }
    ∷ record { actor = (Client 1); session = 1; asked = Call (requests.Do (statements.Insert (codes "u") (Some (codes "id" ∷ codes "m0" ∷ codes "m1" ∷ codes "v" ∷ codes "id" ∷ [])) ((Num (pos 2)) ∷ (Text (codes "c")) ∷ (Num (pos 4)) ∷ (Num (pos 2)) ∷ (Num (pos 1)) ∷ []) None)); side = (Some sides_at.Before); answer = answers.Lost; missed = None; draw = None }
    ∷ record { actor = (Client 4); session = 4; asked = Call (requests.ReadLog 3 2 (codes "t" ∷ [])); side = None; answer = answers.Events [] 0; missed = None; draw = None }
    ∷ record { actor = (Client 4); session = 4; asked = Call (requests.BeginSpan (codes "w") (record { low = (Open ((Num (pos 2)) ∷ [])); high = (Closed ((Num (pos 1)) ∷ [])) }) 2); side = None; answer = answers.Keys [] ((Num (pos 1)) ∷ []); missed = None; draw = None }
    ∷ record { actor = (Client 4); session = 4; asked = Call (requests.Do (statements.Insert (codes "u") None ((Num (pos 4)) ∷ (Num (pos 1)) ∷ Null ∷ Null ∷ []) None)); side = None; answer = answers.Refused 1062 None; missed = None; draw = None }
    ∷ record { actor = (Client 4); session = 4; asked = Call requests.Commit; side = None; answer = answers.Ok 0; missed = None; draw = None }
    ∷ record { actor = (Client 4); session = 4; asked = Cut; side = None; answer = answers.Lost; missed = None; draw = None }
    ∷ record { actor = Insp; session = 5; asked = Call (requests.Do (statements.Update (codes "u") (record { column = codes "m0"; value = (Num (pos 4)) } ∷ record { column = codes "v"; value = (Text (codes "d")) } ∷ []) (conditions.Equal (record { column = codes "m0"; value = (Num (pos 4)) } ∷ [])))); side = None; answer = answers.Ok 0; missed = None; draw = None }
    ∷ record { actor = Insp; session = 6; asked = Call (requests.Do (statements.Replace (codes "t") (Some (codes "id" ∷ codes "m0" ∷ [])) ((Num (pos 2)) ∷ (Num (pos 2)) ∷ []) None)); side = None; answer = answers.Ok 1; missed = None; draw = None }
    ∷ record { actor = Insp; session = 6; asked = Call requests.ShowTables; side = None; answer = answers.Tables (record { name = codes "t"; comment = [] } ∷ record { name = codes "u"; comment = [] } ∷ record { name = codes "w"; comment = codes "z" } ∷ []); missed = None; draw = None }
    ∷ record { actor = Insp; session = 5; asked = Call requests.ShowTables; side = None; answer = answers.Tables (record { name = codes "t"; comment = [] } ∷ record { name = codes "u"; comment = [] } ∷ record { name = codes "w"; comment = codes "z" } ∷ []); missed = None; draw = None }
    ∷ record { actor = Insp; session = 6; asked = Call (requests.Do (statements.Insert (codes "w") None ((Num (pos 2)) ∷ (Num (pos 7)) ∷ (Num (pos 1)) ∷ []) None)); side = None; answer = answers.Refused 1136 None; missed = None; draw = None }
    ∷ record { actor = Insp; session = 6; asked = Call (requests.Do (statements.Update (codes "u") (record { column = codes "m0"; value = (Num (pos 5)) } ∷ []) (conditions.Equal (record { column = codes "id"; value = (Num (pos 6)) } ∷ [])))); side = None; answer = answers.Ok 0; missed = None; draw = None }
    ∷ record { actor = Insp; session = 6; asked = Call requests.LogEnd; side = None; answer = answers.At 1; missed = None; draw = None }
    ∷ record { actor = Insp; session = 5; asked = Call (requests.Do (statements.Replace (codes "t") (Some (codes "id" ∷ codes "id" ∷ [])) ((Num (pos 3)) ∷ (Num (pos 4)) ∷ []) None)); side = None; answer = answers.Refused 1110 None; missed = None; draw = None }
    ∷ record { actor = Insp; session = 6; asked = Call requests.ShowWaiting; side = None; answer = answers.Waiting []; missed = None; draw = None }
    ∷ record { actor = Insp; session = 5; asked = Call requests.ShowTables; side = None; answer = answers.Tables (record { name = codes "t"; comment = [] } ∷ record { name = codes "u"; comment = [] } ∷ record { name = codes "w"; comment = codes "z" } ∷ []); missed = None; draw = None }
    ∷ record { actor = Insp; session = 8; asked = Call requests.Begin; side = None; answer = answers.Ok 0; missed = None; draw = None }
    ∷ record { actor = Insp; session = 8; asked = Call (requests.ChunkEnd (codes "w") (Closed ((Num (pos 3)) ∷ [])) ((Num (pos 4)) ∷ []) 3); side = None; answer = answers.End ((Num (pos 4)) ∷ []); missed = None; draw = None }
    ∷ record { actor = Insp; session = 6; asked = Call (requests.Do (statements.Replace (codes "u") (Some (codes "id" ∷ codes "m0" ∷ codes "m1" ∷ codes "v" ∷ [])) ((Num (pos 2)) ∷ (Num (pos 7)) ∷ (Num (pos 7)) ∷ (Text (codes "g")) ∷ []) None)); side = None; answer = answers.Ok 2; missed = None; draw = None }
    ∷ record { actor = Insp; session = 5; asked = Call (requests.ChunkEnd (codes "u") (Open ((Num (pos 1)) ∷ [])) ((Num (pos 7)) ∷ []) 3); side = None; answer = answers.End ((Num (pos 7)) ∷ []); missed = None; draw = None }
    ∷ record { actor = (Client 7); session = 7; asked = Call (requests.Do (statements.Replace (codes "u") (Some (codes "id" ∷ codes "m0" ∷ codes "m1" ∷ codes "v" ∷ [])) ((Num (pos 5)) ∷ (Text (codes "c")) ∷ Null ∷ Null ∷ []) None)); side = None; answer = answers.Ok 2; missed = None; draw = None }
    ∷ record { actor = (Client 7); session = 7; asked = Call (requests.LockTables (codes "w" ∷ codes "y" ∷ [])); side = None; answer = answers.Refused 1146 None; missed = None; draw = None }
    ∷ record { actor = Insp; session = 5; asked = Call (requests.Do (statements.Update (codes "w") (record { column = codes "id"; value = (Num (pos 3)) } ∷ []) (conditions.Equal (record { column = codes "id"; value = (Num (pos 2)) } ∷ [])))); side = None; answer = answers.Ok 0; missed = None; draw = None }
    ∷ record { actor = (Client 7); session = 7; asked = Call requests.ShowWaiting; side = None; answer = answers.Waiting []; missed = None; draw = None }
    ∷ record { actor = Insp; session = 5; asked = Call (requests.Rename (record { old = codes "u"; new = codes "t" } ∷ record { old = codes "y"; new = codes "t" } ∷ [])); side = None; answer = answers.Refused 1050 None; missed = None; draw = None }
    ∷ []

served_33 : IsServed (record { client_wait = 4; tool_wait = 1 }) tables_33 asked_33
unfolding computing
served_33 = record { answers = refl; sides = refl }

-- Sequence 34
abbrev tables_34 : Database
tables_34 = (record { schema = record { name = codes "t"; columns = (record { name = codes "id"; kind = Int 4 false; nullable = false; default = None; auto = false } ∷ record { name = codes "m0"; kind = Int 4 false; nullable = false; default = None; auto = false } ∷ []); uniques = (record { name = (Some (codes "k")); places = (0 ∷ []) } ∷ record { name = (Some (codes "u0")); places = (1 ∷ []) } ∷ []); indexes = []; comment = []; start = None }; rows = [] } ∷ record { schema = record { name = codes "u"; columns = (record { name = codes "id"; kind = Int 4 false; nullable = false; default = None; auto = false } ∷ record { name = codes "v"; kind = VarChar 6; nullable = true; default = (Some (Text (codes "5"))); auto = false } ∷ []); uniques = (record { name = None; places = (0 ∷ []) } ∷ []); indexes = []; comment = []; start = None }; rows = (((Num (pos 1)) ∷ (Text (codes "2")) ∷ []) ∷ ((Num (pos 2)) ∷ Null ∷ []) ∷ ((Num (pos 3)) ∷ (Text (codes "d")) ∷ []) ∷ ((Num (pos 7)) ∷ (Text (codes "5")) ∷ []) ∷ []) } ∷ record { schema = record { name = codes "w"; columns = (record { name = codes "id"; kind = VarChar 3; nullable = false; default = None; auto = false } ∷ record { name = codes "m0"; kind = Int 4 false; nullable = true; default = (Some Null); auto = false } ∷ record { name = codes "v"; kind = VarChar 6; nullable = true; default = (Some (Text (codes "5"))); auto = false } ∷ []); uniques = (record { name = None; places = (0 ∷ []) } ∷ record { name = (Some (codes "u0")); places = (1 ∷ []) } ∷ []); indexes = []; comment = []; start = None }; rows = (((Text (codes "2")) ∷ (Num (pos 2)) ∷ (Text (codes "6")) ∷ []) ∷ []) } ∷ [])

abbrev asked_34 : List Entry
asked_34 =
    record { actor = (Client 1); session = 1; asked = Call requests.LogEnd; side = None; answer = answers.At 0; missed = None; draw = None }
    ∷ record { actor = (Client 1); session = 1; asked = Call requests.Begin; side = None; answer = answers.Ok 0; missed = None; draw = None }
    ∷ record { actor = (Client 1); session = 1; asked = Call (requests.CopyRow (codes "w") (codes "t") (record { kind = Int 4 false; nullable = false; origin = from.Added (Num (pos 5)) } ∷ record { kind = Int 4 false; nullable = false; origin = from.Old 2 } ∷ []) ((Text (codes "2")) ∷ [])); side = None; answer = answers.Ok 1; missed = None; draw = None }
    ∷ record { actor = (Client 1); session = 1; asked = Call (requests.Do (statements.Update (codes "w") (record { column = codes "v"; value = Null } ∷ []) (conditions.Equal (record { column = codes "id"; value = (Text (codes "b")) } ∷ [])))); side = None; answer = answers.Ok 0; missed = None; draw = None }
    ∷ record { actor = (Client 1); session = 1; asked = Call (requests.Do (statements.Update (codes "t") (record { column = codes "id"; value = (Num (pos 2)) } ∷ []) (conditions.Equal (record { column = codes "m0"; value = (Num (pos 7)) } ∷ [])))); side = None; answer = answers.Ok 0; missed = None; draw = None }
    ∷ record { actor = (Client 1); session = 1; asked = Call (requests.Do (statements.Select (codes "u") shown.All (conditions.Range (record { column = codes "id"; sign = signs.Less; value = (Num (pos 1)) } ∷ record { column = codes "id"; sign = signs.AtLeast; value = (Num (pos 5)) } ∷ [])))); side = None; answer = answers.Rows []; missed = None; draw = None }
    ∷ record { actor = Insp; session = 3; asked = Call (requests.Drop (codes "u")); side = None; answer = answers.Waits 1; missed = None; draw = None }
    ∷ record { actor = Insp; session = 2; asked = Call (requests.Do (statements.Update (codes "t") (record { column = codes "m0"; value = (Num (pos 7)) } ∷ []) (conditions.Equal (record { column = codes "m0"; value = (Num (pos 1)) } ∷ [])))); side = None; answer = answers.Ok 0; missed = None; draw = None }
    ∷ record { actor = Insp; session = 3; asked = Poll; side = None; answer = answers.Waits 1; missed = None; draw = None }
    ∷ record { actor = (Client 1); session = 1; asked = Call (requests.ChunkEnd (codes "w") (Open ((Text (codes "6")) ∷ [])) ((Text (codes "2")) ∷ []) 2); side = None; answer = answers.End ((Text (codes "2")) ∷ []); missed = None; draw = None }
    ∷ record { actor = (Client 1); session = 1; asked = Call requests.ShowWaiting; side = None; answer = answers.Waiting (record { session = 3; names = (codes "u" ∷ []); by = 1 } ∷ []); missed = None; draw = None }
    ∷ record { actor = (Client 1); session = 1; asked = Call (requests.Ends (codes "t")); side = None; answer = answers.Ends None; missed = None; draw = None }
    ∷ record { actor = (Client 1); session = 1; asked = Call (requests.Do (statements.Delete (codes "u") (conditions.Equal (record { column = codes "id"; value = (Num (pos 1)) } ∷ [])))); side = None; answer = answers.Ok 1; missed = None; draw = None }
    ∷ record { actor = Insp; session = 3; asked = Poll; side = None; answer = answers.TimedOut 2; missed = None; draw = None }
    ∷ record { actor = Insp; session = 2; asked = Call (requests.LockTables (codes "t" ∷ [])); side = None; answer = answers.Waits 1; missed = None; draw = None }
    ∷ record { actor = Insp; session = 3; asked = Call (requests.Do (statements.Delete (codes "w") (conditions.Equal (record { column = codes "m0"; value = (Num (pos 5)) } ∷ [])))); side = None; answer = answers.Ok 0; missed = None; draw = None }
    ∷ record { actor = Insp; session = 3; asked = Call (requests.Create (record { name = codes "u"; columns = (record { name = codes "id"; kind = VarChar 3; nullable = false; default = None; auto = false } ∷ record { name = codes "m0"; kind = Int 4 false; nullable = true; default = (Some Null); auto = false } ∷ record { name = codes "v"; kind = VarChar 6; nullable = true; default = (Some (Text (codes "5"))); auto = false } ∷ []); uniques = (record { name = None; places = (0 ∷ []) } ∷ record { name = (Some (codes "u0")); places = (1 ∷ []) } ∷ []); indexes = []; comment = codes "z"; start = None })); side = None; answer = answers.Waits 1; missed = None; draw = None }
    ∷ record { actor = (Client 1); session = 1; asked = Call requests.ShowTables; side = None; answer = answers.Tables (record { name = codes "t"; comment = [] } ∷ record { name = codes "u"; comment = [] } ∷ record { name = codes "w"; comment = [] } ∷ []); missed = None; draw = None }
    ∷ record { actor = (Client 1); session = 1; asked = Call (requests.Create (record { name = codes "u"; columns = (record { name = codes "id"; kind = VarChar 3; nullable = false; default = None; auto = false } ∷ record { name = codes "m0"; kind = Int 4 false; nullable = true; default = (Some Null); auto = false } ∷ record { name = codes "v"; kind = VarChar 6; nullable = true; default = (Some (Text (codes "5"))); auto = false } ∷ []); uniques = (record { name = None; places = (0 ∷ []) } ∷ record { name = (Some (codes "u0")); places = (1 ∷ []) } ∷ []); indexes = []; comment = codes "z"; start = None })); side = None; answer = answers.Waits 3; missed = None; draw = None }
    ∷ record { actor = Insp; session = 2; asked = Poll; side = None; answer = answers.Waits 1; missed = None; draw = None }
    ∷ record { actor = (Client 1); session = 1; asked = Poll; side = None; answer = answers.Waits 3; missed = None; draw = None }
    ∷ record { actor = Insp; session = 3; asked = Poll; side = None; answer = answers.Waits 1; missed = None; draw = None }
    ∷ record { actor = Insp; session = 2; asked = Cut; side = None; answer = answers.Lost; missed = None; draw = None }
    ∷ record { actor = (Client 4); session = 4; asked = Call requests.Begin; side = None; answer = answers.Ok 0; missed = None; draw = None }
    ∷ record { actor = Insp; session = 3; asked = Poll; side = None; answer = answers.TimedOut 2; missed = None; draw = None }
    ∷ record { actor = Insp; session = 3; asked = Call requests.LogEnd; side = None; answer = answers.At 0; missed = None; draw = None }
    ∷ record { actor = (Client 1); session = 1; asked = Poll; side = None; answer = answers.Refused 1050 None; missed = None; draw = None }
    ∷ record { actor = (Client 1); session = 1; asked = Call (requests.Do (statements.Delete (codes "w") (conditions.Range (record { column = codes "id"; sign = signs.AtMost; value = (Num (pos 5)) } ∷ record { column = codes "id"; sign = signs.More; value = (Num (pos 3)) } ∷ [])))); side = None; answer = answers.Ok 0; missed = None; draw = None }
    ∷ record { actor = (Client 4); session = 4; asked = Call requests.ShowWaiting; side = None; answer = answers.Waiting []; missed = None; draw = None }
    ∷ record { actor = Insp; session = 3; asked = Call requests.ShowTables; side = None; answer = answers.Tables (record { name = codes "t"; comment = [] } ∷ record { name = codes "u"; comment = [] } ∷ record { name = codes "w"; comment = [] } ∷ []); missed = None; draw = None }
    ∷ record { actor = (Client 4); session = 4; asked = Call (requests.Do (statements.Delete (codes "w") (conditions.Range (record { column = codes "id"; sign = signs.AtLeast; value = (Text (codes "f")) } ∷ record { column = codes "id"; sign = signs.AtMost; value = (Text (codes "a")) } ∷ [])))); side = None; answer = answers.Ok 0; missed = None; draw = None }
    ∷ record { actor = (Client 4); session = 4; asked = Call (requests.ReadLog 3 1 (codes "u" ∷ [])); side = None; answer = answers.Events [] 0; missed = None; draw = None }
    ∷ record { actor = (Client 1); session = 1; asked = Call (requests.Do (statements.Insert (codes "u") (Some (codes "id" ∷ codes "v" ∷ [])) ((Num (pos 7)) ∷ Null ∷ []) None)); side = None; answer = answers.Refused 1062 None; missed = None; draw = None }
    ∷ record { actor = Insp; session = 3; asked = Call (requests.ChunkEnd (codes "u") (Open ((Num (pos 5)) ∷ [])) ((Num (pos 3)) ∷ []) 2); side = None; answer = answers.End ((Num (pos 3)) ∷ []); missed = None; draw = None }
    ∷ record { actor = (Client 5); session = 5; asked = Call (requests.Do (statements.Replace (codes "t") None ((Num (pos 6)) ∷ (Num (pos 5)) ∷ []) None)); side = None; answer = answers.Ok 1; missed = None; draw = None }
    ∷ record { actor = (Client 5); session = 5; asked = Call (requests.Do (statements.Replace (codes "w") (Some (codes "id" ∷ codes "m0" ∷ codes "v" ∷ [])) ((Num (pos 6)) ∷ Null ∷ (Text (codes "d")) ∷ []) None)); side = None; answer = answers.Ok 1; missed = None; draw = None }
    ∷ record { actor = (Client 4); session = 4; asked = Call (requests.Do (statements.Replace (codes "w") None ((Text (codes "e")) ∷ (Num (pos 4)) ∷ (Num (pos 4)) ∷ []) None)); side = None; answer = answers.Ok 1; missed = None; draw = None }
    ∷ record { actor = (Client 4); session = 4; asked = Call (requests.Do (statements.Insert (codes "t") None ((Text (codes "5")) ∷ (Num (pos 3)) ∷ []) None)); side = None; answer = answers.Waits 1; missed = None; draw = None }
    ∷ record { actor = (Client 5); session = 5; asked = Call (requests.Rename (record { old = codes "u"; new = codes "y" } ∷ record { old = codes "t"; new = codes "u" } ∷ record { old = codes "y"; new = codes "t" } ∷ [])); side = None; answer = answers.Waits 1; missed = None; draw = None }
    ∷ record { actor = (Client 4); session = 4; asked = Poll; side = None; answer = answers.Waits 1; missed = None; draw = None }
    ∷ record { actor = (Client 4); session = 4; asked = Cut; side = None; answer = answers.Lost; missed = None; draw = None }
    ∷ record { actor = (Client 5); session = 5; asked = Poll; side = (Some sides_at.After); answer = answers.Lost; missed = (Some (answers.Waits 1)); draw = None }
    ∷ record { actor = Insp; session = 3; asked = Call (requests.Drop (codes "t")); side = (Some sides_at.Before); answer = answers.Lost; missed = None; draw = None }
    ∷ record { actor = (Client 1); session = 1; asked = Call (requests.Ends (codes "t")); side = None; answer = answers.Ends (Some (record { least = ((Num (pos 6)) ∷ []); greatest = ((Num (pos 6)) ∷ []) })); missed = None; draw = None }
    ∷ record { actor = (Client 1); session = 1; asked = Call requests.ShowTables; side = None; answer = answers.Tables (record { name = codes "t"; comment = [] } ∷ record { name = codes "u"; comment = [] } ∷ record { name = codes "w"; comment = [] } ∷ []); missed = None; draw = None }
    ∷ []

served_34 : IsServed (record { client_wait = 4; tool_wait = 2 }) tables_34 asked_34
unfolding computing
served_34 = record { answers = refl; sides = refl }

-- Sequence 35
abbrev tables_35 : Database
tables_35 = (record { schema = record { name = codes "t"; columns = (record { name = codes "id"; kind = Int 4 false; nullable = false; default = None; auto = false } ∷ record { name = codes "m0"; kind = Int 4 false; nullable = false; default = None; auto = false } ∷ record { name = codes "v"; kind = VarChar 6; nullable = true; default = (Some Null); auto = false } ∷ []); uniques = (record { name = (Some (codes "k")); places = (0 ∷ []) } ∷ record { name = (Some (codes "u0")); places = (1 ∷ []) } ∷ []); indexes = []; comment = []; start = None }; rows = (((Num (pos 7)) ∷ (Num (pos 3)) ∷ (Text (codes "d")) ∷ []) ∷ []) } ∷ record { schema = record { name = codes "u"; columns = (record { name = codes "id"; kind = Int 4 false; nullable = false; default = None; auto = false } ∷ record { name = codes "v"; kind = VarChar 6; nullable = true; default = (Some Null); auto = false } ∷ []); uniques = (record { name = (Some (codes "k")); places = (0 ∷ []) } ∷ []); indexes = []; comment = []; start = None }; rows = [] } ∷ record { schema = record { name = codes "w"; columns = (record { name = codes "id"; kind = Int 1 false; nullable = false; default = None; auto = false } ∷ record { name = codes "v"; kind = Int 4 false; nullable = true; default = (Some Null); auto = false } ∷ []); uniques = (record { name = None; places = (0 ∷ []) } ∷ []); indexes = []; comment = []; start = None }; rows = [] } ∷ [])

abbrev asked_35 : List Entry
asked_35 =
    record { actor = (Client 1); session = 1; asked = Call (requests.Ends (codes "w")); side = None; answer = answers.Ends None; missed = None; draw = None }
    ∷ record { actor = (Client 1); session = 1; asked = Call requests.Begin; side = None; answer = answers.Ok 0; missed = None; draw = None }
    ∷ record { actor = (Client 1); session = 1; asked = Call requests.Commit; side = None; answer = answers.Ok 0; missed = None; draw = None }
    ∷ record { actor = (Client 1); session = 1; asked = Call (requests.Do (statements.Select (codes "t") shown.Count (conditions.Equal (record { column = codes "id"; value = (Num (pos 7)) } ∷ [])))); side = (Some sides_at.Before); answer = answers.Lost; missed = None; draw = None }
    ∷ record { actor = (Client 2); session = 2; asked = Call (requests.Do (statements.Insert (codes "w") (Some (codes "id" ∷ codes "v" ∷ [])) ((Text (codes "1")) ∷ Null ∷ []) None)); side = None; answer = answers.Ok 1; missed = None; draw = None }
    ∷ record { actor = (Client 2); session = 2; asked = Call (requests.BeginSpan (codes "u") (record { low = (Open ((Num (pos 7)) ∷ [])); high = (Closed ((Num (pos 5)) ∷ [])) }) 3); side = None; answer = answers.Keys [] ((Num (pos 5)) ∷ []); missed = None; draw = None }
    ∷ record { actor = (Client 2); session = 2; asked = Call (requests.CopyRow (codes "w") (codes "t") (record { kind = Int 4 false; nullable = false; origin = from.Old 0 } ∷ record { kind = Int 4 false; nullable = false; origin = from.Old 0 } ∷ record { kind = VarChar 6; nullable = true; origin = from.Old 0 } ∷ []) ((Num (pos 1)) ∷ [])); side = None; answer = answers.Ok 1; missed = None; draw = None }
    ∷ record { actor = (Client 2); session = 2; asked = Call requests.Commit; side = None; answer = answers.Ok 0; missed = None; draw = None }
    ∷ record { actor = (Client 4); session = 4; asked = Call (requests.Do (statements.Insert (codes "u") None ((Num (pos 2)) ∷ (Num (pos 5)) ∷ []) None)); side = None; answer = answers.Ok 1; missed = None; draw = None }
    ∷ record { actor = (Client 2); session = 2; asked = Call (requests.Rename (record { old = codes "w"; new = codes "y" } ∷ [])); side = None; answer = answers.Ok 0; missed = None; draw = None }
    ∷ record { actor = (Client 3); session = 3; asked = Call (requests.Do (statements.Replace (codes "t") None ((Num (pos 7)) ∷ (Num (pos 5)) ∷ (Text (codes "d")) ∷ []) None)); side = None; answer = answers.Ok 2; missed = None; draw = None }
    ∷ record { actor = (Client 4); session = 4; asked = Call requests.ShowTables; side = None; answer = answers.Tables (record { name = codes "t"; comment = [] } ∷ record { name = codes "u"; comment = [] } ∷ record { name = codes "y"; comment = [] } ∷ []); missed = None; draw = None }
    ∷ record { actor = (Client 2); session = 2; asked = Call requests.LogEnd; side = None; answer = answers.At 5; missed = None; draw = None }
    ∷ record { actor = (Client 3); session = 3; asked = Call (requests.ChunkEnd (codes "u") Free ((Num (pos 6)) ∷ []) 1); side = None; answer = answers.End ((Num (pos 2)) ∷ []); missed = None; draw = None }
    ∷ record { actor = (Client 4); session = 4; asked = Call (requests.Rename (record { old = codes "u"; new = codes "u" } ∷ record { old = codes "u"; new = codes "x" } ∷ record { old = codes "u"; new = codes "w" } ∷ [])); side = None; answer = answers.Refused 1050 None; missed = None; draw = None }
    ∷ record { actor = (Client 4); session = 4; asked = Call (requests.Rename (record { old = codes "u"; new = codes "x" } ∷ [])); side = None; answer = answers.Ok 0; missed = None; draw = None }
    ∷ record { actor = (Client 3); session = 3; asked = Call (requests.Do (statements.Insert (codes "w") (Some (codes "id" ∷ codes "v" ∷ [])) ((Text (codes "6")) ∷ (Num (pos 4)) ∷ []) None)); side = None; answer = answers.Refused 1146 None; missed = None; draw = None }
    ∷ record { actor = (Client 4); session = 4; asked = Call (requests.Do (statements.Select (codes "t") shown.Count (conditions.Equal (record { column = codes "id"; value = (Num (pos 1)) } ∷ [])))); side = None; answer = answers.Rows (((Num (pos 1)) ∷ []) ∷ []); missed = None; draw = None }
    ∷ record { actor = (Client 2); session = 2; asked = Call (requests.ChunkEnd (codes "u") (Closed ((Num (pos 1)) ∷ [])) ((Num (pos 1)) ∷ []) 3); side = None; answer = answers.Refused 1146 None; missed = None; draw = None }
    ∷ record { actor = (Client 5); session = 5; asked = Call (requests.Do (statements.Replace (codes "x") (Some (codes "id" ∷ codes "v" ∷ [])) ((Num (pos 1)) ∷ (Num (pos 7)) ∷ []) None)); side = None; answer = answers.Ok 1; missed = None; draw = None }
    ∷ record { actor = (Client 4); session = 4; asked = Cut; side = None; answer = answers.Lost; missed = None; draw = None }
    ∷ record { actor = (Client 2); session = 2; asked = Call (requests.Drop (codes "w")); side = None; answer = answers.Refused 1051 None; missed = None; draw = None }
    ∷ record { actor = (Client 3); session = 3; asked = Call requests.Begin; side = None; answer = answers.Ok 0; missed = None; draw = None }
    ∷ record { actor = (Client 3); session = 3; asked = Call (requests.Do (statements.Select (codes "u") (shown.Columns (codes "id" ∷ [])) (conditions.Range (record { column = codes "id"; sign = signs.AtMost; value = (Num (pos 2)) } ∷ record { column = codes "id"; sign = signs.More; value = (Num (pos 6)) } ∷ [])))); side = None; answer = answers.Refused 1146 None; missed = None; draw = None }
    ∷ record { actor = (Client 3); session = 3; asked = Call (requests.Do (statements.Update (codes "w") (record { column = codes "v"; value = (Num (pos 5)) } ∷ []) (conditions.Equal (record { column = codes "id"; value = (Num (pos 3)) } ∷ [])))); side = None; answer = answers.Refused 1146 None; missed = None; draw = None }
    ∷ record { actor = Insp; session = 6; asked = Call requests.ShowTables; side = None; answer = answers.Tables (record { name = codes "t"; comment = [] } ∷ record { name = codes "x"; comment = [] } ∷ record { name = codes "y"; comment = [] } ∷ []); missed = None; draw = None }
    ∷ record { actor = (Client 2); session = 2; asked = Call requests.Begin; side = None; answer = answers.Ok 0; missed = None; draw = None }
    ∷ record { actor = (Client 5); session = 5; asked = Call (requests.Ends (codes "u")); side = None; answer = answers.Refused 1146 None; missed = None; draw = None }
    ∷ record { actor = Insp; session = 6; asked = Call (requests.Drop (codes "w")); side = None; answer = answers.Waits 3; missed = None; draw = None }
    ∷ record { actor = Insp; session = 6; asked = Poll; side = None; answer = answers.Waits 3; missed = None; draw = None }
    ∷ record { actor = (Client 5); session = 5; asked = Call (requests.Rename (record { old = codes "t"; new = codes "u" } ∷ [])); side = None; answer = answers.Waits 3; missed = None; draw = None }
    ∷ record { actor = (Client 3); session = 3; asked = Call (requests.Do (statements.Replace (codes "t") (Some (codes "id" ∷ codes "m0" ∷ codes "v" ∷ [])) ((Text (codes "3")) ∷ (Num (pos 1)) ∷ (Text (codes "g")) ∷ []) None)); side = None; answer = answers.Waits 5; missed = None; draw = None }
    ∷ record { actor = (Client 5); session = 5; asked = Poll; side = None; answer = answers.Waits 3; missed = None; draw = None }
    ∷ record { actor = (Client 5); session = 5; asked = Poll; side = None; answer = answers.Waits 3; missed = None; draw = None }
    ∷ record { actor = (Client 5); session = 5; asked = Poll; side = None; answer = answers.Waits 3; missed = None; draw = None }
    ∷ record { actor = Insp; session = 6; asked = Poll; side = None; answer = answers.TimedOut 2; missed = None; draw = None }
    ∷ record { actor = Insp; session = 6; asked = Call (requests.ReadLog 4 2 (codes "y" ∷ codes "u" ∷ [])); side = None; answer = answers.Events [] 6; missed = None; draw = None }
    ∷ record { actor = (Client 3); session = 3; asked = Poll; side = None; answer = answers.Waits 5; missed = None; draw = None }
    ∷ record { actor = (Client 3); session = 3; asked = Poll; side = None; answer = answers.Waits 5; missed = None; draw = None }
    ∷ record { actor = (Client 3); session = 3; asked = Poll; side = None; answer = answers.Waits 5; missed = None; draw = None }
    ∷ record { actor = (Client 2); session = 2; asked = Call (requests.Do (statements.Delete (codes "u") (conditions.Equal (record { column = codes "id"; value = (Num (pos 99999999999)) } ∷ [])))); side = None; answer = answers.Waits 5; missed = None; draw = None }
    ∷ record { actor = (Client 3); session = 3; asked = Poll; side = None; answer = answers.TimedOut 4; missed = None; draw = None }
    ∷ record { actor = (Client 2); session = 2; asked = Poll; side = None; answer = answers.Waits 5; missed = None; draw = None }
    ∷ record { actor = Insp; session = 6; asked = Call requests.ShowWaiting; side = None; answer = answers.Waiting (record { session = 5; names = (codes "t" ∷ codes "u" ∷ []); by = 0 } ∷ []); missed = None; draw = None }
    ∷ []

served_35 : IsServed (record { client_wait = 4; tool_wait = 2 }) tables_35 asked_35
unfolding computing
served_35 = record { answers = refl; sides = refl }

-- Sequence 36
abbrev tables_36 : Database
tables_36 = (record { schema = record { name = codes "t"; columns = (record { name = codes "id"; kind = Int 4 false; nullable = false; default = None; auto = false } ∷ []); uniques = (record { name = None; places = (0 ∷ []) } ∷ []); indexes = []; comment = []; start = None }; rows = (((Num (pos 2)) ∷ []) ∷ ((Num (pos 7)) ∷ []) ∷ []) } ∷ record { schema = record { name = codes "u"; columns = (record { name = codes "id"; kind = Int 4 false; nullable = false; default = None; auto = false } ∷ record { name = codes "m0"; kind = Int 4 false; nullable = true; default = (Some Null); auto = false } ∷ record { name = codes "m1"; kind = Int 4 false; nullable = true; default = (Some Null); auto = false } ∷ []); uniques = (record { name = None; places = (0 ∷ []) } ∷ record { name = (Some (codes "u0")); places = (1 ∷ []) } ∷ record { name = (Some (codes "u1")); places = (2 ∷ []) } ∷ []); indexes = []; comment = []; start = None }; rows = (((Num (pos 1)) ∷ Null ∷ (Num (pos 3)) ∷ []) ∷ ((Num (pos 2)) ∷ (Num (pos 1)) ∷ (Num (pos 5)) ∷ []) ∷ ((Num (pos 3)) ∷ (Num (pos 3)) ∷ Null ∷ []) ∷ []) } ∷ record { schema = record { name = codes "w"; columns = (record { name = codes "id"; kind = Int 8 false; nullable = false; default = None; auto = false } ∷ record { name = codes "m0"; kind = VarChar 3; nullable = true; default = (Some Null); auto = false } ∷ record { name = codes "v"; kind = VarChar 6; nullable = false; default = None; auto = false } ∷ []); uniques = (record { name = None; places = (0 ∷ []) } ∷ record { name = (Some (codes "u0")); places = (1 ∷ []) } ∷ []); indexes = []; comment = []; start = None }; rows = (((Num (pos 4)) ∷ (Text (codes "a")) ∷ (Text (codes "d")) ∷ []) ∷ []) } ∷ [])

abbrev asked_36 : List Entry
asked_36 =
    record { actor = (Client 1); session = 1; asked = Call (requests.Do (statements.Insert (codes "t") (Some (codes "id" ∷ [])) ((Num (pos 3)) ∷ []) None)); side = None; answer = answers.Ok 1; missed = None; draw = None }
    ∷ record { actor = (Client 1); session = 1; asked = Call requests.Begin; side = None; answer = answers.Ok 0; missed = None; draw = None }
    ∷ record { actor = (Client 1); session = 1; asked = Call requests.ShowTables; side = None; answer = answers.Tables (record { name = codes "t"; comment = [] } ∷ record { name = codes "u"; comment = [] } ∷ record { name = codes "w"; comment = [] } ∷ []); missed = None; draw = None }
    ∷ record { actor = (Client 1); session = 1; asked = Call (requests.Do (statements.Delete (codes "u") (conditions.Range (record { column = codes "id"; sign = signs.AtLeast; value = (Num (pos 4)) } ∷ [])))); side = None; answer = answers.Ok 0; missed = None; draw = None }
    ∷ record { actor = (Client 1); session = 1; asked = Cut; side = None; answer = answers.Lost; missed = None; draw = None }
    ∷ record { actor = (Client 2); session = 2; asked = Call (requests.Do (statements.Delete (codes "t") (conditions.Equal (record { column = codes "id"; value = (Text (codes "5")) } ∷ [])))); side = None; answer = answers.Ok 0; missed = None; draw = None }
    ∷ record { actor = (Client 2); session = 2; asked = Call (requests.Do (statements.Select (codes "w") shown.Count (conditions.Equal (record { column = codes "id"; value = (Num (pos 6)) } ∷ [])))); side = None; answer = answers.Rows (((Num (pos 0)) ∷ []) ∷ []); missed = None; draw = None }
    ∷ record { actor = (Client 2); session = 2; asked = Call (requests.ChunkEnd (codes "t") (Open ((Num (pos 7)) ∷ [])) ((Num (pos 5)) ∷ []) 1); side = None; answer = answers.End ((Num (pos 5)) ∷ []); missed = None; draw = None }
    ∷ record { actor = (Client 2); session = 2; asked = Call requests.Begin; side = None; answer = answers.Ok 0; missed = None; draw = None }
    ∷ record { actor = (Client 2); session = 2; asked = Call (requests.Do (statements.Insert (codes "u") None ((Num (pos 6)) ∷ Null ∷ Null ∷ []) None)); side = None; answer = answers.Ok 1; missed = None; draw = None }
    ∷ record { actor = (Client 2); session = 2; asked = Call (requests.Do (statements.Update (codes "u") (record { column = codes "id"; value = (Num (pos 6)) } ∷ record { column = codes "m1"; value = Null } ∷ []) (conditions.Equal (record { column = codes "m1"; value = (Num (pos 99999999999)) } ∷ [])))); side = None; answer = answers.Ok 0; missed = None; draw = None }
    ∷ record { actor = (Client 2); session = 2; asked = Call requests.Commit; side = None; answer = answers.Ok 0; missed = None; draw = None }
    ∷ record { actor = (Client 2); session = 2; asked = Call (requests.Do (statements.Insert (codes "t") (Some (codes "id" ∷ [])) ((Num (pos 2)) ∷ []) None)); side = None; answer = answers.Refused 1062 None; missed = None; draw = None }
    ∷ record { actor = (Client 2); session = 2; asked = Call (requests.Do (statements.Select (codes "u") (shown.Columns (codes "id" ∷ [])) (conditions.Equal (record { column = codes "id"; value = (Num (pos 1)) } ∷ [])))); side = None; answer = answers.Rows (((Num (pos 1)) ∷ []) ∷ []); missed = None; draw = None }
    ∷ record { actor = (Client 2); session = 2; asked = Call requests.ShowWaiting; side = None; answer = answers.Waiting []; missed = None; draw = None }
    ∷ record { actor = (Client 2); session = 2; asked = Call requests.ShowWaiting; side = None; answer = answers.Waiting []; missed = None; draw = None }
    ∷ record { actor = (Client 2); session = 2; asked = Call (requests.Rename (record { old = codes "u"; new = codes "t" } ∷ record { old = codes "t"; new = codes "y" } ∷ [])); side = None; answer = answers.Refused 1050 None; missed = None; draw = None }
    ∷ record { actor = Insp; session = 3; asked = Call (requests.LockTables (codes "x" ∷ [])); side = None; answer = answers.Refused 1146 None; missed = None; draw = None }
    ∷ record { actor = (Client 2); session = 2; asked = Call (requests.LockTables (codes "y" ∷ codes "u" ∷ codes "x" ∷ [])); side = (Some sides_at.Before); answer = answers.Lost; missed = None; draw = None }
    ∷ record { actor = Insp; session = 3; asked = Call requests.ShowWaiting; side = None; answer = answers.Waiting []; missed = None; draw = None }
    ∷ record { actor = (Client 5); session = 5; asked = Call requests.ShowTables; side = None; answer = answers.Tables (record { name = codes "t"; comment = [] } ∷ record { name = codes "u"; comment = [] } ∷ record { name = codes "w"; comment = [] } ∷ []); missed = None; draw = None }
    ∷ record { actor = Insp; session = 3; asked = Call (requests.Rename (record { old = codes "x"; new = codes "y" } ∷ [])); side = None; answer = answers.Refused 1146 None; missed = None; draw = None }
    ∷ record { actor = (Client 5); session = 5; asked = Call (requests.Do (statements.Update (codes "t") (record { column = codes "id"; value = (Num (pos 7)) } ∷ []) (conditions.Equal (record { column = codes "id"; value = (Num (pos 4)) } ∷ [])))); side = None; answer = answers.Ok 0; missed = None; draw = None }
    ∷ record { actor = (Client 5); session = 5; asked = Call (requests.Do (statements.Insert (codes "t") None ((Num (pos 1)) ∷ []) None)); side = None; answer = answers.Ok 1; missed = None; draw = None }
    ∷ record { actor = Insp; session = 3; asked = Call (requests.ReadLog 3 2 (codes "w" ∷ [])); side = None; answer = answers.Events [] 3; missed = None; draw = None }
    ∷ record { actor = Insp; session = 6; asked = Call (requests.Do (statements.Delete (codes "w") (conditions.Equal (record { column = codes "m0"; value = (Text (codes "a")) } ∷ [])))); side = None; answer = answers.Ok 1; missed = None; draw = None }
    ∷ record { actor = Insp; session = 3; asked = Call (requests.ReadLog 3 2 (codes "y" ∷ [])); side = None; answer = answers.Events [] 4; missed = None; draw = None }
    ∷ record { actor = (Client 5); session = 5; asked = Call requests.Begin; side = None; answer = answers.Ok 0; missed = None; draw = None }
    ∷ record { actor = Insp; session = 4; asked = Call (requests.ReadLog 5 1 (codes "w" ∷ codes "u" ∷ [])); side = None; answer = answers.Events [] 4; missed = None; draw = None }
    ∷ record { actor = Insp; session = 6; asked = Call (requests.Do (statements.Insert (codes "u") (Some (codes "id" ∷ codes "m0" ∷ codes "m1" ∷ [])) ((Num (pos 2)) ∷ (Text (codes "7")) ∷ (Num (pos 5)) ∷ []) None)); side = None; answer = answers.Refused 1062 None; missed = None; draw = None }
    ∷ record { actor = (Client 5); session = 5; asked = Call requests.LogEnd; side = None; answer = answers.At 4; missed = None; draw = None }
    ∷ record { actor = Insp; session = 3; asked = Call requests.Begin; side = None; answer = answers.Ok 0; missed = None; draw = None }
    ∷ record { actor = (Client 5); session = 5; asked = Call (requests.Do (statements.Update (codes "w") (record { column = codes "v"; value = (Text (codes "a")) } ∷ []) (conditions.Equal (record { column = codes "id"; value = (Num (pos 5)) } ∷ [])))); side = None; answer = answers.Ok 0; missed = None; draw = None }
    ∷ record { actor = Insp; session = 4; asked = Call (requests.Do (statements.Replace (codes "w") None ((Num (pos 6)) ∷ (Num (pos 6)) ∷ (Num (pos 5)) ∷ []) None)); side = (Some sides_at.After); answer = answers.Lost; missed = (Some (answers.Ok 1)); draw = None }
    ∷ record { actor = Insp; session = 3; asked = Call requests.Commit; side = None; answer = answers.Ok 0; missed = None; draw = None }
    ∷ record { actor = Insp; session = 6; asked = Call (requests.Do (statements.Insert (codes "u") None ((Num (pos 7)) ∷ (Num (pos 1)) ∷ Null ∷ []) None)); side = None; answer = answers.Refused 1062 None; missed = None; draw = None }
    ∷ record { actor = Insp; session = 3; asked = Call requests.ShowTables; side = None; answer = answers.Tables (record { name = codes "t"; comment = [] } ∷ record { name = codes "u"; comment = [] } ∷ record { name = codes "w"; comment = [] } ∷ []); missed = None; draw = None }
    ∷ record { actor = Insp; session = 3; asked = Call (requests.Do (statements.Select (codes "u") shown.All (conditions.Range (record { column = codes "id"; sign = signs.AtLeast; value = (Text (codes "6")) } ∷ record { column = codes "id"; sign = signs.AtMost; value = (Num (pos 6)) } ∷ [])))); side = None; answer = answers.Rows (((Num (pos 6)) ∷ Null ∷ Null ∷ []) ∷ []); missed = None; draw = None }
    ∷ record { actor = Insp; session = 6; asked = Call (requests.Do (statements.Update (codes "t") (record { column = codes "id"; value = (Num (pos 3)) } ∷ []) (conditions.Equal (record { column = codes "id"; value = (Text (codes "3")) } ∷ [])))); side = None; answer = answers.Ok 0; missed = None; draw = None }
    ∷ record { actor = Insp; session = 3; asked = Call requests.ShowTables; side = None; answer = answers.Tables (record { name = codes "t"; comment = [] } ∷ record { name = codes "u"; comment = [] } ∷ record { name = codes "w"; comment = [] } ∷ []); missed = None; draw = None }
    ∷ record { actor = Insp; session = 6; asked = Call requests.LogEnd; side = None; answer = answers.At 5; missed = None; draw = None }
    ∷ record { actor = Insp; session = 3; asked = Call (requests.Rename (record { old = codes "u"; new = codes "w" } ∷ [])); side = None; answer = answers.Waits 5; missed = None; draw = None }
    ∷ record { actor = Insp; session = 3; asked = Cut; side = None; answer = answers.Lost; missed = None; draw = None }
    ∷ []

served_36 : IsServed (record { client_wait = 2; tool_wait = 1 }) tables_36 asked_36
unfolding computing
served_36 = record { answers = refl; sides = refl }

-- Sequence 37
abbrev tables_37 : Database
tables_37 = (record { schema = record { name = codes "t"; columns = (record { name = codes "id"; kind = VarChar 3; nullable = false; default = None; auto = false } ∷ record { name = codes "m0"; kind = Int 4 false; nullable = true; default = (Some Null); auto = false } ∷ record { name = codes "m1"; kind = Int 1 false; nullable = true; default = (Some Null); auto = false } ∷ record { name = codes "v"; kind = Int 4 false; nullable = true; default = (Some (Num (pos 5))); auto = false } ∷ []); uniques = (record { name = None; places = (0 ∷ []) } ∷ record { name = (Some (codes "u0")); places = (1 ∷ []) } ∷ record { name = (Some (codes "u1")); places = (2 ∷ []) } ∷ []); indexes = []; comment = []; start = None }; rows = (((Text (codes "f")) ∷ (Num (pos 2)) ∷ Null ∷ (Num (pos 4)) ∷ []) ∷ []) } ∷ record { schema = record { name = codes "u"; columns = (record { name = codes "m0"; kind = Int 4 false; nullable = false; default = None; auto = false } ∷ record { name = codes "m1"; kind = Int 4 false; nullable = true; default = (Some Null); auto = false } ∷ record { name = codes "v"; kind = Int 4 false; nullable = true; default = (Some Null); auto = false } ∷ record { name = codes "id"; kind = Int 1 false; nullable = false; default = None; auto = false } ∷ []); uniques = (record { name = None; places = (3 ∷ []) } ∷ record { name = (Some (codes "u0")); places = (3 ∷ 0 ∷ []) } ∷ record { name = (Some (codes "u1")); places = (0 ∷ 1 ∷ []) } ∷ []); indexes = []; comment = codes "x"; start = None }; rows = (((Num (pos 3)) ∷ Null ∷ Null ∷ (Num (pos 5)) ∷ []) ∷ []) } ∷ record { schema = record { name = codes "w"; columns = (record { name = codes "id"; kind = Int 1 false; nullable = false; default = None; auto = false } ∷ record { name = codes "m0"; kind = VarChar 3; nullable = true; default = (Some Null); auto = false } ∷ record { name = codes "v"; kind = VarChar 6; nullable = true; default = (Some Null); auto = false } ∷ []); uniques = (record { name = None; places = (0 ∷ []) } ∷ record { name = (Some (codes "u0")); places = (1 ∷ []) } ∷ []); indexes = (record { name = (Some (codes "v")); places = (2 ∷ []) } ∷ []); comment = []; start = None }; rows = [] } ∷ [])

abbrev asked_37 : List Entry
asked_37 =
    record { actor = Insp; session = 1; asked = Call requests.LogEnd; side = None; answer = answers.At 0; missed = None; draw = None }
    ∷ record { actor = Insp; session = 1; asked = Call (requests.ChunkEnd (codes "x") (Open ((Num (pos 1)) ∷ [])) ((Num (pos 1)) ∷ []) 1); side = None; answer = answers.Refused 1146 None; missed = None; draw = None }
    ∷ record { actor = Insp; session = 1; asked = Call (requests.Do (statements.Delete (codes "w") (conditions.Equal (record { column = codes "id"; value = (Num (pos 7)) } ∷ [])))); side = None; answer = answers.Ok 0; missed = None; draw = None }
    ∷ record { actor = Insp; session = 1; asked = Call requests.Begin; side = None; answer = answers.Ok 0; missed = None; draw = None }
    ∷ record { actor = Insp; session = 1; asked = Call (requests.Do (statements.Insert (codes "t") (Some (codes "id" ∷ codes "m0" ∷ codes "m1" ∷ codes "v" ∷ [])) ((Num (pos 3)) ∷ (Num (pos 5)) ∷ Null ∷ (Text (codes "zzzzzzzzz")) ∷ []) None)); side = None; answer = answers.Refused 1366 (Some 3); missed = None; draw = None }
    ∷ record { actor = Insp; session = 1; asked = Call (requests.Do (statements.Update (codes "t") (record { column = codes "m0"; value = (Text (codes "e")) } ∷ []) (conditions.Range (record { column = codes "id"; sign = signs.Less; value = (Text (codes "4")) } ∷ record { column = codes "id"; sign = signs.AtLeast; value = (Text (codes "5")) } ∷ [])))); side = None; answer = answers.Ok 0; missed = None; draw = None }
    ∷ record { actor = Insp; session = 1; asked = Call requests.Rollback; side = None; answer = answers.Ok 0; missed = None; draw = None }
    ∷ record { actor = Insp; session = 1; asked = Call (requests.Do (statements.Select (codes "u") (shown.Columns (codes "m0" ∷ [])) (conditions.Equal (record { column = codes "id"; value = (Num (pos 4)) } ∷ [])))); side = None; answer = answers.Rows []; missed = None; draw = None }
    ∷ record { actor = Insp; session = 1; asked = Call (requests.Do (statements.Select (codes "t") shown.Count (conditions.Equal (record { column = codes "id"; value = (Num (pos 6)) } ∷ [])))); side = None; answer = answers.Rows (((Num (pos 0)) ∷ []) ∷ []); missed = None; draw = None }
    ∷ record { actor = (Client 2); session = 2; asked = Call (requests.ChunkEnd (codes "w") (Open ((Num (pos 2)) ∷ [])) ((Num (pos 2)) ∷ []) 1); side = None; answer = answers.End ((Num (pos 2)) ∷ []); missed = None; draw = None }
    ∷ record { actor = Insp; session = 1; asked = Call requests.ShowWaiting; side = None; answer = answers.Waiting []; missed = None; draw = None }
    ∷ record { actor = Insp; session = 1; asked = Call (requests.Do (statements.Replace (codes "t") (Some (codes "id" ∷ codes "m0" ∷ codes "m1" ∷ [])) ((Text (codes "d")) ∷ Null ∷ Null ∷ []) None)); side = None; answer = answers.Ok 1; missed = None; draw = None }
    ∷ record { actor = Insp; session = 4; asked = Call (requests.Do (statements.Update (codes "t") (record { column = codes "id"; value = (Text (codes "e")) } ∷ record { column = codes "m1"; value = (Num (pos 5)) } ∷ []) (conditions.Range (record { column = codes "id"; sign = signs.AtMost; value = (Text (codes "e")) } ∷ record { column = codes "id"; sign = signs.AtMost; value = (Text (codes "b")) } ∷ [])))); side = None; answer = answers.Ok 0; missed = None; draw = None }
    ∷ record { actor = (Client 2); session = 2; asked = Call requests.Begin; side = None; answer = answers.Ok 0; missed = None; draw = None }
    ∷ record { actor = (Client 3); session = 3; asked = Call (requests.Do (statements.Update (codes "w") (record { column = codes "id"; value = (Num (pos 6)) } ∷ record { column = codes "m0"; value = (Text (codes "f")) } ∷ record { column = codes "v"; value = Null } ∷ []) (conditions.Equal (record { column = codes "m0"; value = (Num (pos 5)) } ∷ [])))); side = None; answer = answers.Ok 0; missed = None; draw = None }
    ∷ record { actor = (Client 3); session = 3; asked = Call (requests.Ends (codes "t")); side = None; answer = answers.Ends (Some (record { least = ((Text (codes "d")) ∷ []); greatest = ((Text (codes "f")) ∷ []) })); missed = None; draw = None }
    ∷ record { actor = (Client 3); session = 3; asked = Call (requests.Create (record { name = codes "w"; columns = (record { name = codes "m0"; kind = Int 4 false; nullable = false; default = None; auto = false } ∷ record { name = codes "m1"; kind = Int 4 false; nullable = true; default = (Some Null); auto = false } ∷ record { name = codes "v"; kind = Int 4 false; nullable = true; default = (Some Null); auto = false } ∷ record { name = codes "id"; kind = Int 1 false; nullable = false; default = None; auto = false } ∷ []); uniques = (record { name = None; places = (3 ∷ []) } ∷ record { name = (Some (codes "u0")); places = (3 ∷ 0 ∷ []) } ∷ record { name = (Some (codes "u1")); places = (0 ∷ 1 ∷ []) } ∷ []); indexes = []; comment = []; start = None })); side = None; answer = answers.Refused 1050 None; missed = None; draw = None }
    ∷ record { actor = (Client 3); session = 3; asked = Call requests.LogEnd; side = None; answer = answers.At 1; missed = None; draw = None }
    ∷ record { actor = Insp; session = 4; asked = Call requests.Begin; side = None; answer = answers.Ok 0; missed = None; draw = None }
    ∷ record { actor = Insp; session = 1; asked = Call (requests.ReadLog 0 5 (codes "x" ∷ codes "t" ∷ [])); side = None; answer = answers.Events (record { table = codes "t"; change = changes.Write ((Text (codes "d")) ∷ Null ∷ Null ∷ (Num (pos 5)) ∷ []) } ∷ []) 1; missed = None; draw = None }
    ∷ record { actor = Insp; session = 4; asked = Call (requests.Do (statements.Update (codes "w") (record { column = codes "id"; value = (Num (pos 3)) } ∷ []) (conditions.Equal (record { column = codes "id"; value = (Num (pos 4)) } ∷ [])))); side = None; answer = answers.Ok 0; missed = None; draw = None }
    ∷ record { actor = (Client 2); session = 2; asked = Call (requests.Do (statements.Update (codes "t") (record { column = codes "m1"; value = (Num (pos 5)) } ∷ []) (conditions.Equal (record { column = codes "id"; value = (Text (codes "g")) } ∷ [])))); side = None; answer = answers.Ok 0; missed = None; draw = None }
    ∷ record { actor = Insp; session = 1; asked = Call (requests.Do (statements.Insert (codes "u") (Some (codes "m1" ∷ codes "v" ∷ codes "id" ∷ [])) ((Num (pos 4)) ∷ Null ∷ (Num (pos 1)) ∷ []) None)); side = None; answer = answers.Refused 1364 None; missed = None; draw = None }
    ∷ record { actor = (Client 2); session = 2; asked = Call requests.Commit; side = None; answer = answers.Ok 0; missed = None; draw = None }
    ∷ record { actor = Insp; session = 1; asked = Call (requests.Do (statements.Replace (codes "w") None ((Num (pos 6)) ∷ (Text (codes "a")) ∷ (Text (codes "a")) ∷ []) None)); side = None; answer = answers.Ok 1; missed = None; draw = None }
    ∷ record { actor = Insp; session = 4; asked = Call (requests.Ends (codes "y")); side = None; answer = answers.Refused 1146 None; missed = None; draw = None }
    ∷ record { actor = Insp; session = 1; asked = Call requests.Begin; side = None; answer = answers.Ok 0; missed = None; draw = None }
    ∷ record { actor = Insp; session = 1; asked = Call requests.Commit; side = None; answer = answers.Ok 0; missed = None; draw = None }
    ∷ record { actor = (Client 2); session = 2; asked = Call (requests.Do (statements.Insert (codes "w") None ((Num (pos 4)) ∷ (Num (pos 4)) ∷ (Num (pos 3)) ∷ []) None)); side = None; answer = answers.Waits 4; missed = None; draw = None }
    ∷ record { actor = Insp; session = 4; asked = Call (requests.Do (statements.Update (codes "u") (record { column = codes "m0"; value = (Num (pos 2)) } ∷ record { column = codes "v"; value = (Text (codes "7")) } ∷ []) (conditions.Equal (record { column = codes "id"; value = (Num (pos 6)) } ∷ [])))); side = None; answer = answers.Ok 0; missed = None; draw = None }
    ∷ record { actor = Insp; session = 1; asked = Call (requests.Do (statements.Insert (codes "t") None ((Num (pos 99999999999)) ∷ (Num (pos 3)) ∷ (Num (pos 1)) ∷ (Num (pos 2)) ∷ []) None)); side = (Some sides_at.After); answer = answers.Lost; missed = (Some (answers.Refused 1406 (Some 0))); draw = None }
    ∷ record { actor = (Client 2); session = 2; asked = Poll; side = None; answer = answers.Waits 4; missed = None; draw = None }
    ∷ record { actor = (Client 3); session = 3; asked = Call requests.ShowTables; side = None; answer = answers.Tables (record { name = codes "t"; comment = [] } ∷ record { name = codes "u"; comment = codes "x" } ∷ record { name = codes "w"; comment = [] } ∷ []); missed = None; draw = None }
    ∷ record { actor = (Client 3); session = 3; asked = Call requests.Begin; side = None; answer = answers.Ok 0; missed = None; draw = None }
    ∷ record { actor = Insp; session = 4; asked = Call (requests.ReadLog 5 5 (codes "y" ∷ [])); side = None; answer = answers.Events [] 2; missed = None; draw = None }
    ∷ record { actor = (Client 2); session = 2; asked = Poll; side = None; answer = answers.Waits 4; missed = None; draw = None }
    ∷ record { actor = Insp; session = 4; asked = Call (requests.ChunkEnd (codes "t") (Closed ((Text (codes "f")) ∷ [])) ((Text (codes "3")) ∷ []) 1); side = None; answer = answers.End ((Text (codes "3")) ∷ []); missed = None; draw = None }
    ∷ record { actor = Insp; session = 4; asked = Call (requests.Do (statements.Update (codes "u") (record { column = codes "m0"; value = (Text (codes "1")) } ∷ record { column = codes "m1"; value = (Num (pos 7)) } ∷ []) (conditions.Equal (record { column = codes "id"; value = (Num (pos 7)) } ∷ [])))); side = None; answer = answers.Ok 0; missed = None; draw = None }
    ∷ record { actor = Insp; session = 4; asked = Call (requests.CopyRow (codes "w") (codes "u") (record { kind = Int 4 false; nullable = false; origin = from.Old 1 } ∷ record { kind = Int 4 false; nullable = true; origin = from.Old 0 } ∷ record { kind = Int 4 false; nullable = true; origin = from.Old 2 } ∷ record { kind = Int 1 false; nullable = false; origin = from.Old 2 } ∷ []) ((Num (pos 6)) ∷ [])); side = (Some sides_at.After); answer = answers.Lost; missed = (Some (answers.Refused 1366 (Some 0))); draw = None }
    ∷ record { actor = (Client 3); session = 3; asked = Call requests.LogEnd; side = None; answer = answers.At 2; missed = None; draw = None }
    ∷ record { actor = (Client 3); session = 3; asked = Call (requests.Do (statements.Replace (codes "u") (Some (codes "m0" ∷ codes "v" ∷ codes "id" ∷ [])) ((Num (pos 1)) ∷ Null ∷ (Num (pos 3)) ∷ []) None)); side = None; answer = answers.Ok 1; missed = None; draw = None }
    ∷ record { actor = (Client 3); session = 3; asked = Call (requests.Do (statements.Insert (codes "w") None ((Num (pos 3)) ∷ (Num (pos 5)) ∷ (Text (codes "c")) ∷ []) None)); side = None; answer = answers.Ok 1; missed = None; draw = None }
    ∷ record { actor = (Client 2); session = 2; asked = Poll; side = None; answer = answers.Ok 1; missed = None; draw = None }
    ∷ record { actor = (Client 2); session = 2; asked = Call (requests.Do (statements.Update (codes "t") (record { column = codes "id"; value = (Text (codes "1")) } ∷ record { column = codes "m1"; value = (Num (pos 1)) } ∷ record { column = codes "v"; value = (Num (pos 5)) } ∷ []) (conditions.Equal (record { column = codes "id"; value = (Text (codes "g")) } ∷ [])))); side = None; answer = answers.Ok 0; missed = None; draw = None }
    ∷ record { actor = (Client 3); session = 3; asked = Call (requests.Create (record { name = codes "t"; columns = (record { name = codes "id"; kind = VarChar 3; nullable = false; default = None; auto = false } ∷ record { name = codes "m0"; kind = Int 4 false; nullable = true; default = (Some Null); auto = false } ∷ record { name = codes "m1"; kind = Int 1 false; nullable = true; default = (Some Null); auto = false } ∷ record { name = codes "v"; kind = Int 4 false; nullable = true; default = (Some (Num (pos 5))); auto = false } ∷ []); uniques = (record { name = None; places = (0 ∷ []) } ∷ record { name = (Some (codes "u0")); places = (1 ∷ []) } ∷ record { name = (Some (codes "u1")); places = (2 ∷ []) } ∷ []); indexes = []; comment = []; start = None })); side = None; answer = answers.Refused 1050 None; missed = None; draw = None }
    ∷ record { actor = (Client 3); session = 3; asked = Call (requests.Do (statements.Replace (codes "w") None ((Num (pos 4)) ∷ (Num (pos 4)) ∷ (Num (pos 3)) ∷ []) None)); side = None; answer = answers.Ok 2; missed = None; draw = None }
    ∷ []

served_37 : IsServed (record { client_wait = 4; tool_wait = 4 }) tables_37 asked_37
unfolding computing
served_37 = record { answers = refl; sides = refl }

-- Sequence 38
abbrev tables_38 : Database
tables_38 = (record { schema = record { name = codes "t"; columns = (record { name = codes "id"; kind = VarBinary 3; nullable = false; default = None; auto = false } ∷ record { name = codes "m0"; kind = Int 4 false; nullable = true; default = (Some Null); auto = false } ∷ record { name = codes "v"; kind = Int 2 false; nullable = true; default = (Some Null); auto = false } ∷ []); uniques = (record { name = None; places = (0 ∷ []) } ∷ record { name = (Some (codes "u0")); places = (1 ∷ []) } ∷ []); indexes = []; comment = []; start = None }; rows = (((Blob (4 ∷ [])) ∷ Null ∷ (Num (pos 1)) ∷ []) ∷ ((Blob (54 ∷ [])) ∷ (Num (pos 7)) ∷ (Num (pos 4)) ∷ []) ∷ ((Blob (98 ∷ [])) ∷ Null ∷ (Num (pos 3)) ∷ []) ∷ []) } ∷ record { schema = record { name = codes "u"; columns = (record { name = codes "m0"; kind = Int 4 false; nullable = true; default = (Some (Num (pos 1))); auto = false } ∷ record { name = codes "v"; kind = VarChar 6; nullable = false; default = None; auto = false } ∷ record { name = codes "id"; kind = Int 8 false; nullable = false; default = None; auto = false } ∷ []); uniques = (record { name = None; places = (2 ∷ []) } ∷ record { name = (Some (codes "u0")); places = (2 ∷ 0 ∷ []) } ∷ []); indexes = []; comment = []; start = None }; rows = [] } ∷ record { schema = record { name = codes "w"; columns = (record { name = codes "id"; kind = Int 8 false; nullable = false; default = None; auto = false } ∷ record { name = codes "v"; kind = VarChar 6; nullable = true; default = (Some Null); auto = false } ∷ []); uniques = (record { name = None; places = (0 ∷ []) } ∷ []); indexes = (record { name = (Some (codes "v")); places = (1 ∷ []) } ∷ []); comment = []; start = None }; rows = (((Num (pos 1)) ∷ (Text (codes "5")) ∷ []) ∷ []) } ∷ [])

abbrev asked_38 : List Entry
asked_38 =
    record { actor = (Client 1); session = 1; asked = Call (requests.Create (record { name = codes "w"; columns = (record { name = codes "id"; kind = Int 8 false; nullable = false; default = None; auto = false } ∷ record { name = codes "v"; kind = VarChar 6; nullable = true; default = (Some Null); auto = false } ∷ []); uniques = (record { name = None; places = (0 ∷ []) } ∷ []); indexes = (record { name = (Some (codes "v")); places = (1 ∷ []) } ∷ []); comment = []; start = None })); side = None; answer = answers.Refused 1050 None; missed = None; draw = None }
    ∷ record { actor = (Client 1); session = 1; asked = Call (requests.ReadLog 3 5 (codes "u" ∷ codes "t" ∷ [])); side = None; answer = answers.Events [] 0; missed = None; draw = None }
    ∷ record { actor = (Client 1); session = 1; asked = Call (requests.Do (statements.Select (codes "w") (shown.Columns (codes "id" ∷ [])) (conditions.Equal (record { column = codes "id"; value = (Num (pos 3)) } ∷ [])))); side = None; answer = answers.Rows []; missed = None; draw = None }
    ∷ record { actor = (Client 1); session = 1; asked = Call (requests.Do (statements.Insert (codes "t") (Some (codes "id" ∷ codes "v" ∷ [])) ((Text (codes "e")) ∷ (Num (pos 1)) ∷ []) None)); side = None; answer = answers.Ok 1; missed = None; draw = None }
    ∷ record { actor = (Client 1); session = 1; asked = Call requests.ShowWaiting; side = None; answer = answers.Waiting []; missed = None; draw = None }
    ∷ record { actor = (Client 2); session = 2; asked = Call (requests.Do (statements.Update (codes "t") (record { column = codes "m0"; value = (Num (pos 6)) } ∷ []) (conditions.Equal (record { column = codes "id"; value = (Blob (1 ∷ [])) } ∷ [])))); side = None; answer = answers.Ok 0; missed = None; draw = None }
    ∷ record { actor = (Client 2); session = 2; asked = Call (requests.Do (statements.Insert (codes "t") (Some (codes "id" ∷ codes "v" ∷ [])) ((Text (codes "e")) ∷ (Num (pos 99999)) ∷ []) None)); side = None; answer = answers.Refused 1264 (Some 2); missed = None; draw = None }
    ∷ record { actor = (Client 1); session = 1; asked = Call (requests.Rename (record { old = codes "y"; new = codes "t" } ∷ record { old = codes "u"; new = codes "x" } ∷ [])); side = None; answer = answers.Refused 1050 None; missed = None; draw = None }
    ∷ record { actor = (Client 1); session = 1; asked = Call (requests.Do (statements.Update (codes "t") (record { column = codes "v"; value = (Num (pos 5)) } ∷ []) (conditions.Equal (record { column = codes "id"; value = (Blob (6 ∷ [])) } ∷ [])))); side = None; answer = answers.Ok 0; missed = None; draw = None }
    ∷ record { actor = (Client 3); session = 3; asked = Call (requests.Ends (codes "u")); side = None; answer = answers.Ends None; missed = None; draw = None }
    ∷ record { actor = (Client 3); session = 3; asked = Call (requests.Do (statements.Replace (codes "w") None ((Num (pos 1)) ∷ (Text (codes "b")) ∷ []) None)); side = None; answer = answers.Ok 2; missed = None; draw = None }
    ∷ record { actor = (Client 1); session = 1; asked = Call (requests.Do (statements.Select (codes "t") shown.Count (conditions.Equal (record { column = codes "id"; value = (Num (pos 6)) } ∷ [])))); side = None; answer = answers.Rows (((Num (pos 1)) ∷ []) ∷ []); missed = None; draw = None }
    ∷ record { actor = (Client 1); session = 1; asked = Call (requests.Create (record { name = codes "u"; columns = (record { name = codes "id"; kind = Int 8 false; nullable = false; default = None; auto = false } ∷ record { name = codes "v"; kind = VarChar 6; nullable = true; default = (Some Null); auto = false } ∷ []); uniques = (record { name = None; places = (0 ∷ []) } ∷ []); indexes = (record { name = (Some (codes "v")); places = (1 ∷ []) } ∷ []); comment = []; start = None })); side = None; answer = answers.Refused 1050 None; missed = None; draw = None }
    ∷ record { actor = (Client 4); session = 4; asked = Call requests.ShowWaiting; side = None; answer = answers.Waiting []; missed = None; draw = None }
    ∷ record { actor = (Client 4); session = 4; asked = Call (requests.Do (statements.Delete (codes "t") (conditions.Equal (record { column = codes "m0"; value = (Num (pos 3)) } ∷ [])))); side = None; answer = answers.Ok 0; missed = None; draw = None }
    ∷ record { actor = (Client 3); session = 3; asked = Call (requests.Do (statements.Update (codes "t") (record { column = codes "id"; value = (Num (pos 6)) } ∷ record { column = codes "m0"; value = Null } ∷ record { column = codes "v"; value = (Num (pos 1)) } ∷ []) (conditions.Equal (record { column = codes "id"; value = (Text (codes "f")) } ∷ [])))); side = None; answer = answers.Ok 0; missed = None; draw = None }
    ∷ record { actor = (Client 3); session = 3; asked = Call (requests.Do (statements.Insert (codes "t") None (Null ∷ (Text (codes "d")) ∷ (Num (pos 2)) ∷ []) None)); side = None; answer = answers.Refused 1048 (Some 0); missed = None; draw = None }
    ∷ record { actor = (Client 4); session = 4; asked = Call (requests.Rename (record { old = codes "u"; new = codes "u" } ∷ [])); side = (Some sides_at.After); answer = answers.Lost; missed = (Some (answers.Refused 1050 None)); draw = None }
    ∷ record { actor = (Client 1); session = 1; asked = Call requests.Begin; side = None; answer = answers.Ok 0; missed = None; draw = None }
    ∷ record { actor = (Client 1); session = 1; asked = Call (requests.Do (statements.Insert (codes "w") None ((Num (pos 6)) ∷ (Num (pos 99999)) ∷ []) None)); side = None; answer = answers.Ok 1; missed = None; draw = None }
    ∷ record { actor = (Client 2); session = 2; asked = Call requests.ShowWaiting; side = None; answer = answers.Waiting []; missed = None; draw = None }
    ∷ record { actor = (Client 3); session = 3; asked = Call (requests.Create (record { name = codes "w"; columns = (record { name = codes "id"; kind = Int 8 false; nullable = false; default = None; auto = false } ∷ record { name = codes "v"; kind = VarChar 6; nullable = true; default = (Some Null); auto = false } ∷ []); uniques = (record { name = None; places = (0 ∷ []) } ∷ []); indexes = (record { name = (Some (codes "v")); places = (1 ∷ []) } ∷ []); comment = codes "z"; start = None })); side = None; answer = answers.Waits 1; missed = None; draw = None }
    ∷ record { actor = (Client 1); session = 1; asked = Call (requests.Create (record { name = codes "u"; columns = (record { name = codes "m0"; kind = Int 4 false; nullable = true; default = (Some (Num (pos 1))); auto = false } ∷ record { name = codes "v"; kind = VarChar 6; nullable = false; default = None; auto = false } ∷ record { name = codes "id"; kind = Int 8 false; nullable = false; default = None; auto = false } ∷ []); uniques = (record { name = None; places = (2 ∷ []) } ∷ record { name = (Some (codes "u0")); places = (2 ∷ 0 ∷ []) } ∷ []); indexes = []; comment = codes "z"; start = None })); side = None; answer = answers.Refused 1050 None; missed = None; draw = None }
    ∷ record { actor = (Client 2); session = 2; asked = Call (requests.Do (statements.Replace (codes "w") (Some (codes "id" ∷ codes "v" ∷ [])) ((Num (pos 5)) ∷ Null ∷ []) None)); side = None; answer = answers.Waits 3; missed = None; draw = None }
    ∷ record { actor = (Client 1); session = 1; asked = Call (requests.Do (statements.Replace (codes "w") None ((Num (pos 1)) ∷ (Num (pos 6)) ∷ []) None)); side = None; answer = answers.Ok 2; missed = None; draw = None }
    ∷ record { actor = (Client 3); session = 3; asked = Poll; side = None; answer = answers.Waits 1; missed = None; draw = None }
    ∷ record { actor = (Client 3); session = 3; asked = Poll; side = None; answer = answers.Waits 1; missed = None; draw = None }
    ∷ record { actor = (Client 1); session = 1; asked = Call (requests.CopyRow (codes "u") (codes "t") (record { kind = VarBinary 3; nullable = false; origin = from.Old 0 } ∷ record { kind = Int 4 false; nullable = true; origin = from.Added Null } ∷ record { kind = Int 2 false; nullable = true; origin = from.Old 2 } ∷ []) ((Num (pos 3)) ∷ [])); side = None; answer = answers.Ok 0; missed = None; draw = None }
    ∷ record { actor = Insp; session = 5; asked = Call (requests.Do (statements.Insert (codes "t") None ((Blob (5 ∷ [])) ∷ (Num (pos 6)) ∷ (Text (codes "7")) ∷ []) None)); side = None; answer = answers.Ok 1; missed = None; draw = None }
    ∷ record { actor = Insp; session = 5; asked = Call (requests.Do (statements.Insert (codes "w") (Some (codes "id" ∷ codes "v" ∷ [])) ((Num (pos 1)) ∷ (Num (pos 7)) ∷ []) None)); side = None; answer = answers.Waits 1; missed = None; draw = None }
    ∷ record { actor = (Client 1); session = 1; asked = Call requests.Commit; side = None; answer = answers.Ok 0; missed = None; draw = None }
    ∷ record { actor = (Client 2); session = 2; asked = Poll; side = None; answer = answers.Waits 3; missed = None; draw = None }
    ∷ record { actor = (Client 1); session = 1; asked = Call (requests.Rename (record { old = codes "t"; new = codes "x" } ∷ [])); side = None; answer = answers.Ok 0; missed = None; draw = None }
    ∷ record { actor = Insp; session = 5; asked = Poll; side = None; answer = answers.Waits 3; missed = None; draw = None }
    ∷ record { actor = Insp; session = 5; asked = Poll; side = None; answer = answers.TimedOut 2; missed = None; draw = None }
    ∷ record { actor = (Client 3); session = 3; asked = Poll; side = None; answer = answers.Refused 1050 None; missed = None; draw = None }
    ∷ record { actor = (Client 2); session = 2; asked = Poll; side = None; answer = answers.Ok 1; missed = None; draw = None }
    ∷ record { actor = (Client 2); session = 2; asked = Call (requests.LockTables (codes "t" ∷ [])); side = None; answer = answers.Refused 1146 None; missed = None; draw = None }
    ∷ record { actor = (Client 3); session = 3; asked = Call (requests.Do (statements.Insert (codes "u") (Some (codes "m0" ∷ codes "v" ∷ codes "id" ∷ [])) ((Num (pos 5)) ∷ (Num (pos 5)) ∷ (Num (pos 4)) ∷ []) None)); side = None; answer = answers.Ok 1; missed = None; draw = None }
    ∷ record { actor = (Client 3); session = 3; asked = Call (requests.Rename (record { old = codes "w"; new = codes "u" } ∷ record { old = codes "t"; new = codes "t" } ∷ [])); side = None; answer = answers.Refused 1050 None; missed = None; draw = None }
    ∷ record { actor = (Client 1); session = 1; asked = Call (requests.Do (statements.Insert (codes "w") (Some (codes "id" ∷ [])) ((Num (pos 4)) ∷ []) None)); side = None; answer = answers.Ok 1; missed = None; draw = None }
    ∷ record { actor = (Client 2); session = 2; asked = Call (requests.Do (statements.Update (codes "t") (record { column = codes "m0"; value = Null } ∷ record { column = codes "v"; value = (Num (pos 6)) } ∷ []) (conditions.Equal (record { column = codes "id"; value = (Text (codes "e")) } ∷ [])))); side = None; answer = answers.Refused 1146 None; missed = None; draw = None }
    ∷ record { actor = (Client 1); session = 1; asked = Call (requests.Ends (codes "w")); side = None; answer = answers.Ends (Some (record { least = ((Num (pos 1)) ∷ []); greatest = ((Num (pos 6)) ∷ []) })); missed = None; draw = None }
    ∷ record { actor = (Client 1); session = 1; asked = Call (requests.Ends (codes "u")); side = None; answer = answers.Ends (Some (record { least = ((Num (pos 4)) ∷ []); greatest = ((Num (pos 4)) ∷ []) })); missed = None; draw = None }
    ∷ record { actor = Insp; session = 5; asked = Call (requests.Do (statements.Select (codes "u") (shown.Columns (codes "m0" ∷ [])) conditions.All)); side = None; answer = answers.Rows (((Num (pos 5)) ∷ []) ∷ []); missed = None; draw = None }
    ∷ []

served_38 : IsServed (record { client_wait = 4; tool_wait = 2 }) tables_38 asked_38
unfolding computing
served_38 = record { answers = refl; sides = refl }

-- Sequence 39
abbrev tables_39 : Database
tables_39 = (record { schema = record { name = codes "t"; columns = (record { name = codes "id"; kind = Int 1 false; nullable = false; default = None; auto = false } ∷ record { name = codes "m0"; kind = Int 4 false; nullable = true; default = (Some Null); auto = false } ∷ record { name = codes "v"; kind = Int 2 false; nullable = false; default = None; auto = false } ∷ []); uniques = (record { name = None; places = (0 ∷ []) } ∷ record { name = (Some (codes "u0")); places = (1 ∷ []) } ∷ []); indexes = (record { name = (Some (codes "v")); places = (2 ∷ []) } ∷ []); comment = []; start = None }; rows = (((Num (pos 3)) ∷ (Num (pos 3)) ∷ (Num (pos 6)) ∷ []) ∷ []) } ∷ record { schema = record { name = codes "u"; columns = (record { name = codes "id"; kind = Int 4 false; nullable = false; default = None; auto = false } ∷ record { name = codes "v"; kind = Int 2 false; nullable = false; default = (Some (Num (pos 5))); auto = false } ∷ []); uniques = (record { name = None; places = (0 ∷ []) } ∷ []); indexes = []; comment = []; start = None }; rows = (((Num (pos 7)) ∷ (Num (pos 2)) ∷ []) ∷ []) } ∷ record { schema = record { name = codes "w"; columns = (record { name = codes "id"; kind = Int 8 false; nullable = false; default = None; auto = false } ∷ record { name = codes "m0"; kind = VarChar 3; nullable = true; default = (Some Null); auto = false } ∷ record { name = codes "v"; kind = VarChar 6; nullable = false; default = None; auto = false } ∷ []); uniques = (record { name = None; places = (0 ∷ []) } ∷ record { name = (Some (codes "u0")); places = (1 ∷ []) } ∷ []); indexes = []; comment = []; start = None }; rows = [] } ∷ [])

abbrev asked_39 : List Entry
asked_39 =
    record { actor = Insp; session = 1; asked = Call (requests.Do (statements.Update (codes "w") (record { column = codes "m0"; value = (Text (codes "2")) } ∷ []) (conditions.Equal (record { column = codes "id"; value = (Num (pos 2)) } ∷ [])))); side = None; answer = answers.Ok 0; missed = None; draw = None }
    ∷ record { actor = Insp; session = 1; asked = Call (requests.Do (statements.Insert (codes "u") (Some (codes "id" ∷ [])) ((Num (pos 1)) ∷ []) None)); side = None; answer = answers.Ok 1; missed = None; draw = None }
    ∷ record { actor = Insp; session = 1; asked = Call (requests.Rename (record { old = codes "x"; new = codes "x" } ∷ [])); side = None; answer = answers.Refused 1146 None; missed = None; draw = None }
    ∷ record { actor = Insp; session = 1; asked = Call (requests.Do (statements.Update (codes "w") (record { column = codes "m0"; value = Null } ∷ []) (conditions.Range (record { column = codes "id"; sign = signs.AtLeast; value = (Num (pos 1)) } ∷ [])))); side = None; answer = answers.Ok 0; missed = None; draw = None }
    ∷ record { actor = Insp; session = 1; asked = Call (requests.ChunkEnd (codes "u") (Closed ((Num (pos 7)) ∷ [])) ((Num (pos 2)) ∷ []) 3); side = None; answer = answers.End ((Num (pos 2)) ∷ []); missed = None; draw = None }
    ∷ record { actor = Insp; session = 1; asked = Call (requests.Drop (codes "y")); side = None; answer = answers.Refused 1051 None; missed = None; draw = None }
    ∷ record { actor = Insp; session = 2; asked = Cut; side = None; answer = answers.Lost; missed = None; draw = None }
    ∷ record { actor = Insp; session = 1; asked = Call requests.Begin; side = None; answer = answers.Ok 0; missed = None; draw = None }
    ∷ record { actor = Insp; session = 1; asked = Call (requests.Do (statements.Insert (codes "t") (Some (codes "id" ∷ codes "m0" ∷ codes "v" ∷ [])) ((Num (pos 7)) ∷ (Num (pos 4)) ∷ (Num (pos 4)) ∷ []) None)); side = None; answer = answers.Ok 1; missed = None; draw = None }
    ∷ record { actor = Insp; session = 1; asked = Call requests.Rollback; side = None; answer = answers.Ok 0; missed = None; draw = None }
    ∷ record { actor = Insp; session = 1; asked = Call requests.Begin; side = None; answer = answers.Ok 0; missed = None; draw = None }
    ∷ record { actor = Insp; session = 1; asked = Call (requests.Do (statements.Delete (codes "t") conditions.All)); side = None; answer = answers.Ok 1; missed = None; draw = None }
    ∷ record { actor = (Client 3); session = 3; asked = Call requests.Begin; side = None; answer = answers.Ok 0; missed = None; draw = None }
    ∷ record { actor = Insp; session = 1; asked = Call (requests.Do (statements.Delete (codes "t") (conditions.Equal (record { column = codes "id"; value = (Text (codes "2")) } ∷ [])))); side = None; answer = answers.Ok 0; missed = None; draw = None }
    ∷ record { actor = Insp; session = 1; asked = Call (requests.Do (statements.Update (codes "u") (record { column = codes "id"; value = (Num (pos 1)) } ∷ []) (conditions.Equal (record { column = codes "id"; value = (Num (pos 7)) } ∷ [])))); side = None; answer = answers.Refused 1062 None; missed = None; draw = None }
    ∷ record { actor = Insp; session = 1; asked = Call (requests.Do (statements.Insert (codes "u") (Some (codes "id" ∷ [])) ((Num (pos 3)) ∷ []) None)); side = None; answer = answers.Ok 1; missed = None; draw = None }
    ∷ record { actor = (Client 3); session = 3; asked = Call (requests.ReadLog 4 5 (codes "w" ∷ [])); side = None; answer = answers.Events [] 1; missed = None; draw = None }
    ∷ record { actor = Insp; session = 1; asked = Call requests.Rollback; side = None; answer = answers.Ok 0; missed = None; draw = None }
    ∷ record { actor = Insp; session = 1; asked = Call (requests.Do (statements.Replace (codes "t") (Some (codes "id" ∷ codes "m0" ∷ codes "v" ∷ [])) ((Num (pos 7)) ∷ (Num (pos 5)) ∷ (Num (pos 1)) ∷ []) None)); side = None; answer = answers.Ok 1; missed = None; draw = None }
    ∷ record { actor = Insp; session = 1; asked = Call (requests.Ends (codes "y")); side = None; answer = answers.Refused 1146 None; missed = None; draw = None }
    ∷ record { actor = (Client 3); session = 3; asked = Call (requests.Do (statements.Insert (codes "t") None ((Num (pos 6)) ∷ (Num (pos 7)) ∷ (Num (pos 2)) ∷ []) None)); side = None; answer = answers.Ok 1; missed = None; draw = None }
    ∷ record { actor = Insp; session = 1; asked = Call (requests.Do (statements.Insert (codes "w") None ((Num (pos 3)) ∷ Null ∷ (Num (pos 3)) ∷ []) None)); side = None; answer = answers.Ok 1; missed = None; draw = None }
    ∷ record { actor = Insp; session = 1; asked = Call (requests.BeginSpan (codes "w") (record { low = Free; high = (Closed ((Num (pos 3)) ∷ [])) }) 1); side = None; answer = answers.Keys (((Num (pos 3)) ∷ []) ∷ []) ((Num (pos 3)) ∷ []); missed = None; draw = None }
    ∷ record { actor = Insp; session = 1; asked = Call (requests.Do (statements.Update (codes "u") (record { column = codes "v"; value = (Num (pos 5)) } ∷ []) (conditions.Equal (record { column = codes "id"; value = (Num (pos 5)) } ∷ [])))); side = None; answer = answers.Ok 0; missed = None; draw = None }
    ∷ record { actor = (Client 4); session = 4; asked = Call (requests.Ends (codes "t")); side = None; answer = answers.Ends (Some (record { least = ((Num (pos 3)) ∷ []); greatest = ((Num (pos 7)) ∷ []) })); missed = None; draw = None }
    ∷ record { actor = (Client 3); session = 3; asked = Call requests.ShowWaiting; side = None; answer = answers.Waiting []; missed = None; draw = None }
    ∷ record { actor = (Client 3); session = 3; asked = Call (requests.Do (statements.Delete (codes "w") (conditions.Equal (record { column = codes "id"; value = (Num (pos 1)) } ∷ [])))); side = None; answer = answers.Waits 1; missed = None; draw = None }
    ∷ record { actor = (Client 4); session = 4; asked = Call requests.Begin; side = None; answer = answers.Ok 0; missed = None; draw = None }
    ∷ record { actor = (Client 4); session = 4; asked = Call (requests.CopyRow (codes "t") (codes "w") (record { kind = Int 8 false; nullable = false; origin = from.Old 0 } ∷ record { kind = VarChar 3; nullable = true; origin = from.Old 1 } ∷ record { kind = VarChar 6; nullable = false; origin = from.Old 0 } ∷ []) ((Num (pos 7)) ∷ [])); side = None; answer = answers.Ok 1; missed = None; draw = None }
    ∷ record { actor = (Client 3); session = 3; asked = Poll; side = None; answer = answers.TimedOut 1; missed = None; draw = None }
    ∷ record { actor = (Client 4); session = 4; asked = Call requests.Commit; side = None; answer = answers.Ok 0; missed = None; draw = None }
    ∷ record { actor = Insp; session = 1; asked = Call requests.ShowWaiting; side = None; answer = answers.Waiting []; missed = None; draw = None }
    ∷ record { actor = (Client 3); session = 3; asked = Call requests.ShowTables; side = None; answer = answers.Tables (record { name = codes "t"; comment = [] } ∷ record { name = codes "u"; comment = [] } ∷ record { name = codes "w"; comment = [] } ∷ []); missed = None; draw = None }
    ∷ record { actor = (Client 4); session = 4; asked = Call (requests.Drop (codes "u")); side = None; answer = answers.Waits 1; missed = None; draw = None }
    ∷ record { actor = Insp; session = 1; asked = Call (requests.Do (statements.Replace (codes "t") (Some (codes "id" ∷ codes "m0" ∷ codes "v" ∷ [])) ((Num (pos 1)) ∷ Null ∷ (Num (pos 4)) ∷ []) None)); side = None; answer = answers.Ok 1; missed = None; draw = None }
    ∷ record { actor = (Client 4); session = 4; asked = Poll; side = None; answer = answers.TimedOut 1; missed = None; draw = None }
    ∷ record { actor = (Client 4); session = 4; asked = Call (requests.Do (statements.Select (codes "w") shown.All (conditions.Equal (record { column = codes "m0"; value = (Num (pos 5)) } ∷ [])))); side = None; answer = answers.Rows (((Num (pos 7)) ∷ (Text (codes "5")) ∷ (Text (codes "7")) ∷ []) ∷ []); missed = None; draw = None }
    ∷ record { actor = (Client 3); session = 3; asked = Call (requests.Do (statements.Delete (codes "t") (conditions.Equal (record { column = codes "id"; value = (Num (pos 5)) } ∷ [])))); side = None; answer = answers.Ok 0; missed = None; draw = None }
    ∷ record { actor = Insp; session = 5; asked = Call (requests.Do (statements.Replace (codes "x") (Some (codes "id" ∷ codes "v" ∷ [])) ((Num (pos 6)) ∷ (Num (pos 5)) ∷ []) None)); side = None; answer = answers.Refused 1146 None; missed = None; draw = None }
    ∷ record { actor = Insp; session = 1; asked = Call (requests.CopyRow (codes "w") (codes "u") (record { kind = Int 4 false; nullable = false; origin = from.Old 0 } ∷ record { kind = Int 2 false; nullable = false; origin = from.Old 2 } ∷ []) ((Num (pos 3)) ∷ [])); side = None; answer = answers.Ok 1; missed = None; draw = None }
    ∷ record { actor = Insp; session = 5; asked = Call (requests.ChunkEnd (codes "t") (Closed ((Num (pos 3)) ∷ [])) ((Num (pos 6)) ∷ []) 3); side = None; answer = answers.End ((Num (pos 6)) ∷ []); missed = None; draw = None }
    ∷ record { actor = (Client 4); session = 4; asked = Call requests.Begin; side = None; answer = answers.Ok 0; missed = None; draw = None }
    ∷ record { actor = Insp; session = 5; asked = Call (requests.ChunkEnd (codes "w") Free ((Num (pos 3)) ∷ []) 3); side = None; answer = answers.End ((Num (pos 3)) ∷ []); missed = None; draw = None }
    ∷ record { actor = (Client 4); session = 4; asked = Call (requests.Do (statements.Replace (codes "t") None ((Num (pos 2)) ∷ (Num (pos 6)) ∷ (Num (pos 1)) ∷ []) None)); side = None; answer = answers.Ok 1; missed = None; draw = None }
    ∷ record { actor = (Client 3); session = 3; asked = Call (requests.ReadLog 4 5 (codes "y" ∷ codes "u" ∷ [])); side = None; answer = answers.Events [] 4; missed = None; draw = None }
    ∷ []

served_39 : IsServed (record { client_wait = 1; tool_wait = 2 }) tables_39 asked_39
unfolding computing
served_39 = record { answers = refl; sides = refl }
