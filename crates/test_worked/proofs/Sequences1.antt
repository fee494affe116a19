-- Random sequences of requests to the server; the answers are those of an independent model.
use Rattle.std.proofs.Common.{pos, true, false, List, [], ◌∷◌, Some, None, refl}
use Rattle.std.specs.Prelude.{codes}
use Rattle.base_values.specs.declared.value.Value.TheVariants.{Null, Num, Text, Blob}
use Rattle.base_values.specs.declared.kind.Kind.TheVariants.{Int, VarChar, VarBinary}
use Rattle.base_values.specs.declared.span.Bound.TheVariants.{Free, Open, Closed}
use Rattle.base_values.specs.declared.row_conversion.map.Origin.TheVariants as from
use Rattle.base_values.specs.declared.event.Change.TheVariants as changes
use Rattle.base_script.specs.declared.actor.Actor.TheVariants.{Insp, Client}
use Rattle.base_script.specs.declared.actor.Side.TheVariants as sides_at
use Rattle.base_script.specs.declared.statement.Statement.TheVariants as statements
use Rattle.base_script.specs.declared.statement.Condition.TheVariants as conditions
use Rattle.base_script.specs.declared.statement.Shown.TheVariants as shown
use Rattle.base_script.specs.declared.statement.Sign.TheVariants as signs
use Rattle.table_store.specs.Databases.{Database}
use Rattle.server_model.specs.declared.request.Request.TheVariants as requests
use Rattle.server_model.specs.declared.answer.Answer.TheVariants as answers
use Rattle.server_model.specs.declared.entry.Entry.{Entry}
use Rattle.server_model.specs.declared.entry.Asked.TheVariants.{Call, Poll, Cut}
use Rattle.test_worked.proofs.Computing.{computing, IsServed}

-- Sequence 1
abbrev tables_1 : Database
tables_1 = (record { schema = record { name = codes "t"; columns = (record { name = codes "id"; kind = Int 4 false; nullable = false; default = None; auto = false } ∷ record { name = codes "m0"; kind = Int 4 false; nullable = true; default = (Some Null); auto = false } ∷ record { name = codes "v"; kind = Int 4 false; nullable = false; default = None; auto = false } ∷ []); uniques = (record { name = None; places = (0 ∷ []) } ∷ record { name = (Some (codes "u0")); places = (1 ∷ []) } ∷ []); indexes = []; comment = []; start = None }; rows = (((Num (pos 1)) ∷ (Num (pos 5)) ∷ (Num (pos 4)) ∷ []) ∷ ((Num (pos 5)) ∷ (Num (pos 4)) ∷ (Num (pos 6)) ∷ []) ∷ ((Num (pos 6)) ∷ (Num (pos 6)) ∷ (Num (pos 4)) ∷ []) ∷ []) } ∷ record { schema = record { name = codes "u"; columns = (record { name = codes "id"; kind = Int 4 false; nullable = false; default = None; auto = false } ∷ record { name = codes "m0"; kind = Int 4 false; nullable = false; default = (Some (Num (pos 1))); auto = false } ∷ record { name = codes "m1"; kind = Int 1 false; nullable = true; default = (Some Null); auto = false } ∷ []); uniques = (record { name = None; places = (0 ∷ []) } ∷ record { name = (Some (codes "u0")); places = (1 ∷ []) } ∷ record { name = (Some (codes "u1")); places = (2 ∷ []) } ∷ []); indexes = []; comment = []; start = None }; rows = (((Num (pos 3)) ∷ (Num (pos 4)) ∷ (Num (pos 6)) ∷ []) ∷ ((Num (pos 4)) ∷ (Num (pos 2)) ∷ (Num (pos 7)) ∷ []) ∷ ((Num (pos 5)) ∷ (Num (pos 7)) ∷ Null ∷ []) ∷ ((Num (pos 7)) ∷ (Num (pos 5)) ∷ (Num (pos 4)) ∷ []) ∷ []) } ∷ record { schema = record { name = codes "w"; columns = (record { name = codes "id"; kind = Int 4 false; nullable = false; default = None; auto = false } ∷ record { name = codes "m0"; kind = Int 1 false; nullable = false; default = None; auto = false } ∷ []); uniques = (record { name = None; places = (0 ∷ []) } ∷ record { name = (Some (codes "u0")); places = (1 ∷ []) } ∷ []); indexes = []; comment = []; start = None }; rows = (((Num (pos 1)) ∷ (Num (pos 6)) ∷ []) ∷ ((Num (pos 2)) ∷ (Num (pos 1)) ∷ []) ∷ ((Num (pos 4)) ∷ (Num (pos 3)) ∷ []) ∷ []) } ∷ [])

abbrev asked_1 : List Entry
asked_1 =
    record { actor = (Client 1); session = 1; asked = Call (requests.Create (record { name = codes "u"; columns = (record { name = codes "id"; kind = Int 4 false; nullable = false; default = None; auto = false } ∷ record { name = codes "m0"; kind = Int 4 false; nullable = true; default = (Some Null); auto = false } ∷ record { name = codes "v"; kind = Int 4 false; nullable = false; default = None; auto = false } ∷ []); uniques = (record { name = None; places = (0 ∷ []) } ∷ record { name = (Some (codes "u0")); places = (1 ∷ []) } ∷ []); indexes = []; comment = []; start = None })); side = None; answer = answers.Refused 1050 None; missed = None; draw = None }
    ∷ record { actor = (Client 1); session = 1; asked = Call (requests.Do (statements.Delete (codes "w") (conditions.Equal (record { column = codes "id"; value = (Num (pos 7)) } ∷ [])))); side = None; answer = answers.Ok 0; missed = None; draw = None }
    ∷ record { actor = (Client 1); session = 1; asked = Call (requests.Do (statements.Update (codes "w") (record { column = codes "m0"; value = (Num (pos 6)) } ∷ []) (conditions.Equal (record { column = codes "id"; value = (Num (pos 1)) } ∷ [])))); side = None; answer = answers.Ok 0; missed = None; draw = None }
    ∷ record { actor = (Client 1); session = 1; asked = Call (requests.Do (statements.Replace (codes "u") None ((Num (pos 2)) ∷ (Num (pos 1)) ∷ (Text (codes "2")) ∷ []) None)); side = None; answer = answers.Ok 1; missed = None; draw = None }
    ∷ record { actor = (Client 1); session = 1; asked = Call (requests.ChunkEnd (codes "x") (Closed ((Num (pos 1)) ∷ [])) ((Num (pos 1)) ∷ []) 3); side = None; answer = answers.Refused 1146 None; missed = None; draw = None }
    ∷ record { actor = (Client 2); session = 2; asked = Call (requests.ReadLog 3 5 (codes "w" ∷ [])); side = None; answer = answers.Events [] 1; missed = None; draw = None }
    ∷ record { actor = (Client 2); session = 2; asked = Call (requests.Rename (record { old = codes "u"; new = codes "x" } ∷ record { old = codes "x"; new = codes "u" } ∷ record { old = codes "w"; new = codes "y" } ∷ [])); side = None; answer = answers.Ok 0; missed = None; draw = None }
    ∷ record { actor = (Client 2); session = 2; asked = Call (requests.Rename (record { old = codes "w"; new = codes "x" } ∷ record { old = codes "t"; new = codes "x" } ∷ record { old = codes "t"; new = codes "w" } ∷ [])); side = None; answer = answers.Refused 1146 None; missed = None; draw = None }
    ∷ record { actor = (Client 2); session = 2; asked = Call (requests.Do (statements.Insert (codes "t") None ((Num (pos 7)) ∷ (Num (pos 3)) ∷ (Num (pos 5)) ∷ []) None)); side = None; answer = answers.Ok 1; missed = None; draw = None }
    ∷ record { actor = (Client 1); session = 1; asked = Call requests.LogEnd; side = None; answer = answers.At 2; missed = None; draw = None }
    ∷ record { actor = (Client 2); session = 2; asked = Call (requests.BeginSpan (codes "t") (record { low = (Open ((Num (pos 5)) ∷ [])); high = (Closed ((Num (pos 4)) ∷ [])) }) 2); side = None; answer = answers.Keys [] ((Num (pos 4)) ∷ []); missed = None; draw = None }
    ∷ record { actor = (Client 1); session = 1; asked = Call requests.ShowWaiting; side = None; answer = answers.Waiting []; missed = None; draw = None }
    ∷ record { actor = (Client 1); session = 1; asked = Call (requests.BeginSpan (codes "u") (record { low = Free; high = (Closed ((Num (pos 3)) ∷ [])) }) 1); side = None; answer = answers.Keys (((Num (pos 2)) ∷ []) ∷ []) ((Num (pos 2)) ∷ []); missed = None; draw = None }
    ∷ record { actor = (Client 2); session = 2; asked = Call (requests.Do (statements.Select (codes "t") shown.Count (conditions.Equal (record { column = codes "id"; value = (Num (pos 7)) } ∷ [])))); side = (Some sides_at.After); answer = answers.Lost; missed = (Some (answers.Rows (((Num (pos 1)) ∷ []) ∷ []))); draw = None }
    ∷ record { actor = (Client 1); session = 1; asked = Call (requests.Do (statements.Insert (codes "t") (Some (codes "id" ∷ codes "v" ∷ [])) ((Num (pos 6)) ∷ (Num (pos 7)) ∷ []) None)); side = None; answer = answers.Refused 1062 None; missed = None; draw = None }
    ∷ record { actor = (Client 1); session = 1; asked = Call (requests.ChunkEnd (codes "u") (Open ((Num (pos 2)) ∷ [])) ((Num (pos 3)) ∷ []) 2); side = None; answer = answers.End ((Num (pos 3)) ∷ []); missed = None; draw = None }
    ∷ record { actor = (Client 1); session = 1; asked = Call requests.ShowWaiting; side = None; answer = answers.Waiting []; missed = None; draw = None }
    ∷ record { actor = (Client 3); session = 3; asked = Call (requests.Do (statements.Update (codes "w") (record { column = codes "id"; value = (Num (pos 2)) } ∷ []) (conditions.Equal (record { column = codes "id"; value = (Num (pos 5)) } ∷ [])))); side = None; answer = answers.Refused 1146 None; missed = None; draw = None }
    ∷ record { actor = (Client 3); session = 3; asked = Call (requests.LockTables (codes "x" ∷ codes "t" ∷ [])); side = None; answer = answers.Waits 1; missed = None; draw = None }
    ∷ record { actor = (Client 1); session = 1; asked = Call (requests.Do (statements.Delete (codes "u") (conditions.Range (record { column = codes "id"; sign = signs.AtLeast; value = (Text (codes "7")) } ∷ record { column = codes "id"; sign = signs.AtMost; value = (Num (pos 2)) } ∷ [])))); side = None; answer = answers.Ok 0; missed = None; draw = None }
    ∷ record { actor = (Client 1); session = 1; asked = Call (requests.Ends (codes "w")); side = None; answer = answers.Refused 1146 None; missed = None; draw = None }
    ∷ record { actor = (Client 1); session = 1; asked = Call (requests.Do (statements.Insert (codes "u") (Some (codes "id" ∷ codes "m0" ∷ [])) ((Num (pos 1)) ∷ (Num (pos 4)) ∷ []) None)); side = None; answer = answers.Refused 1062 None; missed = None; draw = None }
    ∷ record { actor = (Client 1); session = 1; asked = Call requests.LogEnd; side = None; answer = answers.At 2; missed = None; draw = None }
    ∷ record { actor = (Client 3); session = 3; asked = Poll; side = None; answer = answers.TimedOut 1; missed = None; draw = None }
    ∷ record { actor = (Client 3); session = 3; asked = Call (requests.Drop (codes "w")); side = None; answer = answers.Refused 1051 None; missed = None; draw = None }
    ∷ record { actor = (Client 3); session = 3; asked = Cut; side = None; answer = answers.Lost; missed = None; draw = None }
    ∷ record { actor = (Client 1); session = 1; asked = Call (requests.CopyRow (codes "y") (codes "t") (record { kind = Int 4 false; nullable = false; origin = from.Old 0 } ∷ record { kind = Int 4 false; nullable = true; origin = from.Old 1 } ∷ record { kind = Int 4 false; nullable = false; origin = from.Added (Num (pos 5)) } ∷ []) ((Num (pos 3)) ∷ [])); side = None; answer = answers.Ok 0; missed = None; draw = None }
    ∷ record { actor = (Client 1); session = 1; asked = Call (requests.Do (statements.Update (codes "t") (record { column = codes "id"; value = (Num (pos 1)) } ∷ record { column = codes "m0"; value = (Num (pos 7)) } ∷ record { column = codes "v"; value = (Blob (255 ∷ [])) } ∷ []) (conditions.Range (record { column = codes "id"; sign = signs.AtMost; value = (Num (pos 5)) } ∷ [])))); side = None; answer = answers.Refused 1366 (Some 2); missed = None; draw = None }
    ∷ record { actor = (Client 1); session = 1; asked = Call (requests.Ends (codes "u")); side = None; answer = answers.Ends (Some (record { least = ((Num (pos 2)) ∷ []); greatest = ((Num (pos 7)) ∷ []) })); missed = None; draw = None }
    ∷ record { actor = Insp; session = 4; asked = Call requests.Begin; side = None; answer = answers.Ok 0; missed = None; draw = None }
    ∷ record { actor = (Client 1); session = 1; asked = Call (requests.ReadLog 3 1 (codes "y" ∷ [])); side = None; answer = answers.Events [] 2; missed = None; draw = None }
    ∷ record { actor = Insp; session = 5; asked = Call (requests.Do (statements.Insert (codes "t") (Some (codes "id" ∷ codes "m0" ∷ codes "v" ∷ [])) ((Text (codes "7")) ∷ (Num (pos 3)) ∷ (Num (pos 3)) ∷ []) None)); side = None; answer = answers.Refused 1062 None; missed = None; draw = None }
    ∷ record { actor = Insp; session = 5; asked = Cut; side = None; answer = answers.Lost; missed = None; draw = None }
    ∷ record { actor = (Client 1); session = 1; asked = Call (requests.Do (statements.Insert (codes "u") None ((Num (pos 6)) ∷ (Num (pos 3)) ∷ Null ∷ []) None)); side = None; answer = answers.Ok 1; missed = None; draw = None }
    ∷ record { actor = Insp; session = 6; asked = Call (requests.Do (statements.Update (codes "w") (record { column = codes "m0"; value = (Num (pos 5)) } ∷ []) (conditions.Equal (record { column = codes "id"; value = (Num (pos 2)) } ∷ [])))); side = None; answer = answers.Refused 1146 None; missed = None; draw = None }
    ∷ record { actor = Insp; session = 4; asked = Call (requests.ReadLog 2 1 (codes "t" ∷ [])); side = None; answer = answers.Events [] 2; missed = None; draw = None }
    ∷ record { actor = Insp; session = 4; asked = Call (requests.ReadLog 3 1 (codes "w" ∷ [])); side = None; answer = answers.Events [] 2; missed = None; draw = None }
    ∷ record { actor = Insp; session = 4; asked = Call (requests.Do (statements.Insert (codes "w") None ((Num (pos 7)) ∷ (Num (pos 6)) ∷ []) None)); side = None; answer = answers.Refused 1146 None; missed = None; draw = None }
    ∷ record { actor = (Client 1); session = 1; asked = Call (requests.ChunkEnd (codes "u") Free ((Num (pos 6)) ∷ []) 2); side = None; answer = answers.End ((Num (pos 3)) ∷ []); missed = None; draw = None }
    ∷ record { actor = Insp; session = 4; asked = Call (requests.Do (statements.Replace (codes "w") (Some (codes "id" ∷ codes "m0" ∷ [])) ((Num (pos 2)) ∷ (Num (pos 5)) ∷ []) None)); side = None; answer = answers.Refused 1146 None; missed = None; draw = None }
    ∷ record { actor = Insp; session = 4; asked = Call (requests.CopyRow (codes "u") (codes "t") (record { kind = Int 4 false; nullable = false; origin = from.Old 0 } ∷ record { kind = Int 4 false; nullable = true; origin = from.Old 1 } ∷ record { kind = Int 4 false; nullable = false; origin = from.Old 0 } ∷ []) ((Num (pos 2)) ∷ [])); side = None; answer = answers.Waits 1; missed = None; draw = None }
    ∷ record { actor = Insp; session = 4; asked = Poll; side = None; answer = answers.Waits 1; missed = None; draw = None }
    ∷ record { actor = Insp; session = 4; asked = Poll; side = None; answer = answers.Waits 1; missed = None; draw = None }
    ∷ record { actor = Insp; session = 6; asked = Call (requests.ReadLog 1 1 (codes "u" ∷ [])); side = None; answer = answers.Events [] 2; missed = None; draw = None }
    ∷ []

served_1 : IsServed (record { client_wait = 1; tool_wait = 4 }) tables_1 asked_1
unfolding computing
served_1 = record { answers = refl; sides = refl }

-- Sequence 2
abbrev tables_2 : Database
tables_2 = (record { schema = record { name = codes "t"; columns = (record { name = codes "v"; kind = Int 4 false; nullable = false; default = None; auto = false } ∷ record { name = codes "id"; kind = Int 4 false; nullable = false; default = None; auto = false } ∷ []); uniques = (record { name = None; places = (1 ∷ []) } ∷ []); indexes = []; comment = []; start = None }; rows = (((Num (pos 5)) ∷ (Num (pos 3)) ∷ []) ∷ ((Num (pos 2)) ∷ (Num (pos 5)) ∷ []) ∷ ((Num (pos 6)) ∷ (Num (pos 6)) ∷ []) ∷ ((Num (pos 7)) ∷ (Num (pos 7)) ∷ []) ∷ []) } ∷ record { schema = record { name = codes "u"; columns = (record { name = codes "id"; kind = Int 4 false; nullable = false; default = None; auto = false } ∷ record { name = codes "v"; kind = Int 4 false; nullable = false; default = None; auto = false } ∷ []); uniques = (record { name = (Some (codes "k")); places = (0 ∷ []) } ∷ []); indexes = []; comment = []; start = None }; rows = (((Num (pos 1)) ∷ (Num (pos 2)) ∷ []) ∷ []) } ∷ record { schema = record { name = codes "w"; columns = (record { name = codes "id"; kind = Int 8 false; nullable = false; default = None; auto = false } ∷ record { name = codes "m0"; kind = VarChar 3; nullable = false; default = None; auto = false } ∷ record { name = codes "m1"; kind = Int 1 false; nullable = true; default = (Some Null); auto = false } ∷ record { name = codes "v"; kind = Int 4 false; nullable = true; default = (Some Null); auto = false } ∷ []); uniques = (record { name = None; places = (0 ∷ []) } ∷ record { name = (Some (codes "u0")); places = (1 ∷ []) } ∷ record { name = (Some (codes "u1")); places = (1 ∷ 2 ∷ []) } ∷ []); indexes = (record { name = (Some (codes "v")); places = (3 ∷ []) } ∷ []); comment = []; start = None }; rows = [] } ∷ [])

abbrev asked_2 : List Entry
asked_2 =
    record { actor = Insp; session = 1; asked = Call (requests.Do (statements.Update (codes "w") (record { column = codes "id"; value = (Num (pos 7)) } ∷ record { column = codes "m0"; value = (Text (codes "b")) } ∷ []) conditions.All)); side = None; answer = answers.Ok 0; missed = None; draw = None }
    ∷ record { actor = Insp; session = 1; asked = Call (requests.Rename (record { old = codes "y"; new = codes "w" } ∷ record { old = codes "t"; new = codes "t" } ∷ record { old = codes "w"; new = codes "x" } ∷ [])); side = None; answer = answers.Refused 1050 None; missed = None; draw = None }
    ∷ record { actor = Insp; session = 1; asked = Call (requests.Rename (record { old = codes "u"; new = codes "t" } ∷ [])); side = None; answer = answers.Refused 1050 None; missed = None; draw = None }
    ∷ record { actor = Insp; session = 1; asked = Call (requests.Rename (record { old = codes "x"; new = codes "x" } ∷ [])); side = None; answer = answers.Refused 1146 None; missed = None; draw = None }
    ∷ record { actor = Insp; session = 1; asked = Call requests.LogEnd; side = None; answer = answers.At 0; missed = None; draw = None }
    ∷ record { actor = Insp; session = 1; asked = Call (requests.Create (record { name = codes "t"; columns = (record { name = codes "id"; kind = Int 4 false; nullable = false; default = None; auto = false } ∷ record { name = codes "v"; kind = Int 4 false; nullable = false; default = None; auto = false } ∷ []); uniques = (record { name = (Some (codes "k")); places = (0 ∷ []) } ∷ []); indexes = []; comment = codes "z"; start = None })); side = None; answer = answers.Refused 1050 None; missed = None; draw = None }
    ∷ record { actor = Insp; session = 1; asked = Call (requests.Create (record { name = codes "x"; columns = (record { name = codes "id"; kind = Int 4 false; nullable = false; default = None; auto = false } ∷ record { name = codes "v"; kind = Int 4 false; nullable = false; default = None; auto = false } ∷ []); uniques = (record { name = (Some (codes "k")); places = (0 ∷ []) } ∷ []); indexes = []; comment = codes "z"; start = None })); side = None; answer = answers.Ok 0; missed = None; draw = None }
    ∷ record { actor = Insp; session = 1; asked = Call (requests.Do (statements.Insert (codes "u") None ((Num (pos 6)) ∷ (Num (pos 2)) ∷ []) None)); side = None; answer = answers.Ok 1; missed = None; draw = None }
    ∷ record { actor = Insp; session = 1; asked = Call (requests.Rename (record { old = codes "w"; new = codes "u" } ∷ record { old = codes "x"; new = codes "y" } ∷ record { old = codes "w"; new = codes "y" } ∷ [])); side = None; answer = answers.Refused 1050 None; missed = None; draw = None }
    ∷ record { actor = Insp; session = 1; asked = Call (requests.Do (statements.Insert (codes "t") (Some (codes "v" ∷ codes "id" ∷ [])) ((Text (codes "abcdef")) ∷ (Num (pos 6)) ∷ []) None)); side = None; answer = answers.Refused 1366 (Some 0); missed = None; draw = None }
    ∷ record { actor = Insp; session = 1; asked = Call (requests.Do (statements.Insert (codes "t") (Some (codes "v" ∷ codes "id" ∷ [])) ((Num (pos 3)) ∷ (Num (pos 6)) ∷ []) None)); side = None; answer = answers.Refused 1062 None; missed = None; draw = None }
    ∷ record { actor = Insp; session = 1; asked = Call (requests.Do (statements.Replace (codes "t") (Some (codes "v" ∷ codes "id" ∷ [])) ((Num (pos 5)) ∷ (Num (pos 5)) ∷ []) None)); side = None; answer = answers.Ok 2; missed = None; draw = None }
    ∷ record { actor = Insp; session = 1; asked = Call (requests.Do (statements.Delete (codes "w") (conditions.Equal (record { column = codes "id"; value = (Num (pos 1)) } ∷ [])))); side = None; answer = answers.Ok 0; missed = None; draw = None }
    ∷ record { actor = Insp; session = 1; asked = Call (requests.Do (statements.Select (codes "t") shown.All (conditions.Equal (record { column = codes "id"; value = (Num (pos 4)) } ∷ [])))); side = None; answer = answers.Rows []; missed = None; draw = None }
    ∷ record { actor = Insp; session = 1; asked = Call (requests.BeginSpan (codes "w") (record { low = (Open ((Num (pos 1)) ∷ [])); high = (Closed ((Num (pos 4)) ∷ [])) }) 1); side = None; answer = answers.Keys [] ((Num (pos 4)) ∷ []); missed = None; draw = None }
    ∷ record { actor = (Client 3); session = 3; asked = Call (requests.BeginSpan (codes "u") (record { low = (Open ((Num (pos 7)) ∷ [])); high = (Closed ((Num (pos 1)) ∷ [])) }) 3); side = None; answer = answers.Keys [] ((Num (pos 1)) ∷ []); missed = None; draw = None }
    ∷ record { actor = (Client 3); session = 3; asked = Call (requests.Do (statements.Select (codes "w") shown.All (conditions.Equal (record { column = codes "id"; value = (Num (pos 3)) } ∷ [])))); side = None; answer = answers.Rows []; missed = None; draw = None }
    ∷ record { actor = Insp; session = 4; asked = Call (requests.ReadLog 2 2 (codes "t" ∷ codes "u" ∷ [])); side = None; answer = answers.Events (record { table = codes "t"; change = changes.Write ((Num (pos 5)) ∷ (Num (pos 5)) ∷ []) } ∷ []) 3; missed = None; draw = None }
    ∷ record { actor = Insp; session = 1; asked = Call (requests.Do (statements.Update (codes "u") (record { column = codes "v"; value = Null } ∷ []) (conditions.Equal (record { column = codes "id"; value = (Num (pos 1)) } ∷ [])))); side = None; answer = answers.Refused 1048 (Some 1); missed = None; draw = None }
    ∷ record { actor = Insp; session = 1; asked = Call (requests.Do (statements.Insert (codes "t") None ((Num (pos 1)) ∷ (Num (pos 6)) ∷ []) None)); side = None; answer = answers.Refused 1062 None; missed = None; draw = None }
    ∷ record { actor = (Client 2); session = 2; asked = Call (requests.BeginSpan (codes "u") (record { low = Free; high = (Closed ((Num (pos 6)) ∷ [])) }) 1); side = None; answer = answers.Waits 1; missed = None; draw = None }
    ∷ record { actor = Insp; session = 1; asked = Call (requests.Do (statements.Replace (codes "t") None ((Num (pos 5)) ∷ (Num (pos 5)) ∷ []) None)); side = None; answer = answers.Ok 2; missed = None; draw = None }
    ∷ record { actor = (Client 2); session = 2; asked = Poll; side = None; answer = answers.TimedOut 1; missed = None; draw = None }
    ∷ record { actor = Insp; session = 1; asked = Call (requests.Create (record { name = codes "w"; columns = (record { name = codes "id"; kind = Int 8 false; nullable = false; default = None; auto = false } ∷ record { name = codes "m0"; kind = VarChar 3; nullable = false; default = None; auto = false } ∷ record { name = codes "m1"; kind = Int 1 false; nullable = true; default = (Some Null); auto = false } ∷ record { name = codes "v"; kind = Int 4 false; nullable = true; default = (Some Null); auto = false } ∷ []); uniques = (record { name = None; places = (0 ∷ []) } ∷ record { name = (Some (codes "u0")); places = (1 ∷ []) } ∷ record { name = (Some (codes "u1")); places = (1 ∷ 2 ∷ []) } ∷ []); indexes = (record { name = (Some (codes "v")); places = (3 ∷ []) } ∷ []); comment = codes "z"; start = None })); side = None; answer = answers.Waits 3; missed = None; draw = None }
    ∷ record { actor = (Client 2); session = 2; asked = Call (requests.Do (statements.Select (codes "u") shown.Count (conditions.Equal (record { column = codes "id"; value = (Num (pos 5)) } ∷ [])))); side = None; answer = answers.Rows (((Num (pos 0)) ∷ []) ∷ []); missed = None; draw = None }
    ∷ record { actor = Insp; session = 1; asked = Poll; side = None; answer = answers.TimedOut 1; missed = None; draw = None }
    ∷ record { actor = (Client 2); session = 2; asked = Call (requests.Drop (codes "w")); side = None; answer = answers.Waits 3; missed = None; draw = None }
    ∷ record { actor = Insp; session = 1; asked = Call (requests.ChunkEnd (codes "u") Free ((Num (pos 6)) ∷ []) 1); side = None; answer = answers.End ((Num (pos 1)) ∷ []); missed = None; draw = None }
    ∷ record { actor = Insp; session = 4; asked = Call (requests.LockTables (codes "t" ∷ [])); side = (Some sides_at.After); answer = answers.Lost; missed = (Some (answers.Ok 0)); draw = None }
    ∷ record { actor = Insp; session = 1; asked = Call (requests.Drop (codes "w")); side = None; answer = answers.Waits 2; missed = None; draw = None }
    ∷ record { actor = (Client 3); session = 3; asked = Call (requests.Create (record { name = codes "u"; columns = (record { name = codes "id"; kind = Int 4 false; nullable = false; default = None; auto = false } ∷ record { name = codes "v"; kind = Int 4 false; nullable = false; default = None; auto = false } ∷ []); uniques = (record { name = (Some (codes "k")); places = (0 ∷ []) } ∷ []); indexes = []; comment = []; start = None })); side = None; answer = answers.Refused 1050 None; missed = None; draw = None }
    ∷ record { actor = (Client 3); session = 3; asked = Call (requests.Do (statements.Delete (codes "w") (conditions.Equal (record { column = codes "m0"; value = (Text (codes "c")) } ∷ [])))); side = None; answer = answers.Ok 0; missed = None; draw = None }
    ∷ record { actor = (Client 2); session = 2; asked = Poll; side = None; answer = answers.TimedOut 1; missed = None; draw = None }
    ∷ record { actor = Insp; session = 1; asked = Poll; side = None; answer = answers.TimedOut 1; missed = None; draw = None }
    ∷ record { actor = Insp; session = 5; asked = Call (requests.Drop (codes "u")); side = None; answer = answers.Waits 3; missed = None; draw = None }
    ∷ record { actor = (Client 2); session = 2; asked = Call (requests.Ends (codes "u")); side = None; answer = answers.Waits 5; missed = None; draw = None }
    ∷ record { actor = Insp; session = 5; asked = Poll; side = None; answer = answers.TimedOut 1; missed = None; draw = None }
    ∷ record { actor = (Client 3); session = 3; asked = Call (requests.Do (statements.Insert (codes "w") None ((Num (pos 6)) ∷ (Text (codes "e")) ∷ Null ∷ Null ∷ []) None)); side = None; answer = answers.Ok 1; missed = None; draw = None }
    ∷ record { actor = Insp; session = 1; asked = Call requests.Begin; side = None; answer = answers.Ok 0; missed = None; draw = None }
    ∷ record { actor = (Client 2); session = 2; asked = Poll; side = None; answer = answers.Ends (Some (record { least = ((Num (pos 1)) ∷ []); greatest = ((Num (pos 6)) ∷ []) })); missed = None; draw = None }
    ∷ record { actor = (Client 2); session = 2; asked = Call (requests.Do (statements.Select (codes "w") shown.All (conditions.Range (record { column = codes "id"; sign = signs.More; value = (Num (pos 4)) } ∷ [])))); side = None; answer = answers.Waits 3; missed = None; draw = None }
    ∷ record { actor = (Client 3); session = 3; asked = Call (requests.ReadLog 2 1 (codes "y" ∷ [])); side = None; answer = answers.Events [] 3; missed = None; draw = None }
    ∷ record { actor = Insp; session = 5; asked = Call (requests.Rename (record { old = codes "u"; new = codes "u" } ∷ record { old = codes "x"; new = codes "u" } ∷ [])); side = None; answer = answers.Waits 3; missed = None; draw = None }
    ∷ record { actor = Insp; session = 5; asked = Poll; side = None; answer = answers.TimedOut 1; missed = None; draw = None }
    ∷ record { actor = (Client 3); session = 3; asked = Call (requests.CopyRow (codes "x") (codes "w") (record { kind = Int 8 false; nullable = false; origin = from.Old 1 } ∷ record { kind = VarChar 3; nullable = false; origin = from.Old 0 } ∷ record { kind = Int 1 false; nullable = true; origin = from.Old 0 } ∷ record { kind = Int 4 false; nullable = true; origin = from.Old 1 } ∷ []) ((Num (pos 3)) ∷ [])); side = None; answer = answers.Ok 0; missed = None; draw = None }
    ∷ []

served_2 : IsServed (record { client_wait = 1; tool_wait = 1 }) tables_2 asked_2
unfolding computing
served_2 = record { answers = refl; sides = refl }

-- Sequence 3
abbrev tables_3 : Database
tables_3 = (record { schema = record { name = codes "t"; columns = (record { name = codes "id"; kind = Int 4 false; nullable = false; default = None; auto = false } ∷ record { name = codes "m0"; kind = Int 1 false; nullable = true; default = (Some (Num (pos 1))); auto = false } ∷ record { name = codes "v"; kind = Int 4 false; nullable = true; default = (Some Null); auto = false } ∷ []); uniques = (record { name = None; places = (0 ∷ []) } ∷ record { name = (Some (codes "u0")); places = (1 ∷ []) } ∷ []); indexes = []; comment = []; start = None }; rows = (((Num (pos 4)) ∷ (Num (pos 7)) ∷ (Num (pos 3)) ∷ []) ∷ ((Num (pos 5)) ∷ Null ∷ (Num (pos 3)) ∷ []) ∷ ((Num (pos 7)) ∷ (Num (pos 6)) ∷ (Num (pos 6)) ∷ []) ∷ []) } ∷ record { schema = record { name = codes "u"; columns = (record { name = codes "m0"; kind = Int 4 false; nullable = false; default = None; auto = false } ∷ record { name = codes "v"; kind = VarChar 6; nullable = true; default = (Some Null); auto = false } ∷ record { name = codes "id"; kind = Int 4 false; nullable = false; default = None; auto = false } ∷ []); uniques = (record { name = None; places = (2 ∷ []) } ∷ record { name = (Some (codes "u0")); places = (0 ∷ []) } ∷ []); indexes = []; comment = []; start = None }; rows = (((Num (pos 1)) ∷ (Text (codes "5")) ∷ (Num (pos 5)) ∷ []) ∷ ((Num (pos 7)) ∷ (Text (codes "e")) ∷ (Num (pos 7)) ∷ []) ∷ []) } ∷ record { schema = record { name = codes "w"; columns = (record { name = codes "m0"; kind = Int 1 false; nullable = true; default = (Some Null); auto = false } ∷ record { name = codes "id"; kind = Int 4 false; nullable = false; default = None; auto = false } ∷ []); uniques = (record { name = (Some (codes "k")); places = (1 ∷ []) } ∷ record { name = (Some (codes "u0")); places = (0 ∷ []) } ∷ []); indexes = []; comment = []; start = None }; rows = (((Num (pos 4)) ∷ (Num (pos 1)) ∷ []) ∷ ((Num (pos 3)) ∷ (Num (pos 5)) ∷ []) ∷ ((Num (pos 5)) ∷ (Num (pos 6)) ∷ []) ∷ (Null ∷ (Num (pos 7)) ∷ []) ∷ []) } ∷ [])

abbrev asked_3 : List Entry
asked_3 =
    record { actor = (Client 1); session = 1; asked = Call (requests.Do (statements.Select (codes "u") shown.All (conditions.Equal (record { column = codes "id"; value = (Num (pos 1)) } ∷ [])))); side = None; answer = answers.Rows []; missed = None; draw = None }
    ∷ record { actor = (Client 1); session = 1; asked = Call requests.Begin; side = None; answer = answers.Ok 0; missed = None; draw = None }
    ∷ record { actor = (Client 1); session = 1; asked = Call requests.Rollback; side = None; answer = answers.Ok 0; missed = None; draw = None }
    ∷ record { actor = (Client 1); session = 1; asked = Call requests.Begin; side = None; answer = answers.Ok 0; missed = None; draw = None }
    ∷ record { actor = (Client 1); session = 1; asked = Call requests.ShowTables; side = None; answer = answers.Tables (record { name = codes "t"; comment = [] } ∷ record { name = codes "u"; comment = [] } ∷ record { name = codes "w"; comment = [] } ∷ []); missed = None; draw = None }
    ∷ record { actor = (Client 1); session = 1; asked = Call (requests.Do (statements.Delete (codes "t") (conditions.Equal (record { column = codes "id"; value = (Num (pos 3)) } ∷ [])))); side = None; answer = answers.Ok 0; missed = None; draw = None }
    ∷ record { actor = (Client 1); session = 1; asked = Call (requests.ChunkEnd (codes "u") (Closed ((Num (pos 7)) ∷ [])) ((Num (pos 1)) ∷ []) 2); side = None; answer = answers.End ((Num (pos 1)) ∷ []); missed = None; draw = None }
    ∷ record { actor = (Client 1); session = 1; asked = Call (requests.ReadLog 4 1 (codes "y" ∷ [])); side = None; answer = answers.Events [] 0; missed = None; draw = None }
    ∷ record { actor = (Client 1); session = 1; asked = Call requests.Commit; side = None; answer = answers.Ok 0; missed = None; draw = None }
    ∷ record { actor = (Client 1); session = 1; asked = Call requests.ShowWaiting; side = (Some sides_at.Before); answer = answers.Lost; missed = None; draw = None }
    ∷ record { actor = (Client 2); session = 2; asked = Call (requests.ReadLog 4 1 (codes "w" ∷ [])); side = None; answer = answers.Events [] 0; missed = None; draw = None }
    ∷ record { actor = (Client 2); session = 2; asked = Call (requests.ChunkEnd (codes "t") Free ((Num (pos 4)) ∷ []) 2); side = None; answer = answers.End ((Num (pos 4)) ∷ []); missed = None; draw = None }
    ∷ record { actor = Insp; session = 3; asked = Call (requests.BeginSpan (codes "t") (record { low = (Closed ((Num (pos 5)) ∷ [])); high = (Closed ((Num (pos 2)) ∷ [])) }) 2); side = None; answer = answers.Keys [] ((Num (pos 2)) ∷ []); missed = None; draw = None }
    ∷ record { actor = Insp; session = 3; asked = Call (requests.CopyRow (codes "u") (codes "w") (record { kind = Int 1 false; nullable = true; origin = from.Old 2 } ∷ record { kind = Int 4 false; nullable = false; origin = from.Old 0 } ∷ []) ((Num (pos 7)) ∷ [])); side = None; answer = answers.Ok 0; missed = None; draw = None }
    ∷ record { actor = Insp; session = 3; asked = Call (requests.Ends (codes "t")); side = None; answer = answers.Ends (Some (record { least = ((Num (pos 4)) ∷ []); greatest = ((Num (pos 7)) ∷ []) })); missed = None; draw = None }
    ∷ record { actor = (Client 2); session = 2; asked = Call (requests.Ends (codes "u")); side = None; answer = answers.Ends (Some (record { least = ((Num (pos 5)) ∷ []); greatest = ((Num (pos 7)) ∷ []) })); missed = None; draw = None }
    ∷ record { actor = Insp; session = 3; asked = Call (requests.Do (statements.Update (codes "w") (record { column = codes "m0"; value = (Num (pos 3)) } ∷ record { column = codes "id"; value = (Num (pos 5)) } ∷ []) (conditions.Equal (record { column = codes "id"; value = (Blob (255 ∷ [])) } ∷ [])))); side = None; answer = answers.Refused 1366 (Some 1); missed = None; draw = None }
    ∷ record { actor = (Client 2); session = 2; asked = Call (requests.Do (statements.Select (codes "u") shown.All conditions.All)); side = None; answer = answers.Rows (((Num (pos 1)) ∷ (Text (codes "5")) ∷ (Num (pos 5)) ∷ []) ∷ ((Num (pos 7)) ∷ (Text (codes "e")) ∷ (Num (pos 7)) ∷ []) ∷ []); missed = None; draw = None }
    ∷ record { actor = Insp; session = 3; asked = Call (requests.Do (statements.Update (codes "w") (record { column = codes "id"; value = (Num (pos 7)) } ∷ []) (conditions.Equal (record { column = codes "id"; value = (Num (pos 1)) } ∷ [])))); side = None; answer = answers.Refused 1062 None; missed = None; draw = None }
    ∷ record { actor = Insp; session = 3; asked = Call (requests.Do (statements.Update (codes "t") (record { column = codes "v"; value = (Num (pos 2)) } ∷ []) (conditions.Equal (record { column = codes "id"; value = (Num (pos 5)) } ∷ [])))); side = None; answer = answers.Ok 1; missed = None; draw = None }
    ∷ record { actor = Insp; session = 3; asked = Call (requests.Do (statements.Update (codes "u") (record { column = codes "m0"; value = (Num (pos 7)) } ∷ record { column = codes "id"; value = (Num (pos 3)) } ∷ []) (conditions.Equal (record { column = codes "id"; value = (Num (pos 5)) } ∷ [])))); side = None; answer = answers.Refused 1062 None; missed = None; draw = None }
    ∷ record { actor = (Client 2); session = 2; asked = Call (requests.ReadLog 4 2 (codes "x" ∷ [])); side = None; answer = answers.Events [] 0; missed = None; draw = None }
    ∷ record { actor = Insp; session = 3; asked = Call requests.ShowWaiting; side = None; answer = answers.Waiting []; missed = None; draw = None }
    ∷ record { actor = Insp; session = 3; asked = Call (requests.Do (statements.Replace (codes "w") (Some (codes "m0" ∷ codes "id" ∷ [])) ((Num (pos 7)) ∷ (Num (pos 1)) ∷ []) None)); side = None; answer = answers.Ok 2; missed = None; draw = None }
    ∷ record { actor = (Client 2); session = 2; asked = Call (requests.Create (record { name = codes "y"; columns = (record { name = codes "m0"; kind = Int 4 false; nullable = false; default = None; auto = false } ∷ record { name = codes "v"; kind = VarChar 6; nullable = true; default = (Some Null); auto = false } ∷ record { name = codes "id"; kind = Int 4 false; nullable = false; default = None; auto = false } ∷ []); uniques = (record { name = None; places = (2 ∷ []) } ∷ record { name = (Some (codes "u0")); places = (0 ∷ []) } ∷ []); indexes = []; comment = codes "z"; start = None })); side = (Some sides_at.Before); answer = answers.Lost; missed = None; draw = None }
    ∷ record { actor = Insp; session = 3; asked = Call (requests.Do (statements.Update (codes "w") (record { column = codes "m0"; value = (Num (pos 1)) } ∷ []) (conditions.Equal (record { column = codes "id"; value = (Text (codes "2")) } ∷ [])))); side = None; answer = answers.Ok 0; missed = None; draw = None }
    ∷ record { actor = Insp; session = 3; asked = Call (requests.Do (statements.Insert (codes "t") None ((Num (pos 4)) ∷ (Num (pos 4)) ∷ (Num (pos 5)) ∷ (Num (pos 1)) ∷ []) None)); side = None; answer = answers.Refused 1136 None; missed = None; draw = None }
    ∷ record { actor = Insp; session = 3; asked = Call requests.ShowWaiting; side = None; answer = answers.Waiting []; missed = None; draw = None }
    ∷ record { actor = Insp; session = 4; asked = Call (requests.Do (statements.Select (codes "t") shown.Count (conditions.Equal (record { column = codes "id"; value = (Num (pos 4)) } ∷ [])))); side = None; answer = answers.Rows (((Num (pos 1)) ∷ []) ∷ []); missed = None; draw = None }
    ∷ record { actor = Insp; session = 3; asked = Call (requests.Ends (codes "u")); side = None; answer = answers.Ends (Some (record { least = ((Num (pos 5)) ∷ []); greatest = ((Num (pos 7)) ∷ []) })); missed = None; draw = None }
    ∷ record { actor = Insp; session = 3; asked = Call (requests.CopyRow (codes "u") (codes "u") (record { kind = Int 4 false; nullable = false; origin = from.Old 2 } ∷ record { kind = VarChar 6; nullable = true; origin = from.Old 1 } ∷ record { kind = Int 4 false; nullable = false; origin = from.Old 1 } ∷ []) ((Num (pos 5)) ∷ [])); side = None; answer = answers.Ok 0; missed = None; draw = None }
    ∷ record { actor = Insp; session = 3; asked = Call (requests.Do (statements.Update (codes "t") (record { column = codes "m0"; value = (Num (pos 1)) } ∷ []) (conditions.Equal (record { column = codes "m0"; value = (Num (pos 7)) } ∷ [])))); side = (Some sides_at.After); answer = answers.Lost; missed = (Some (answers.Ok 1)); draw = None }
    ∷ record { actor = Insp; session = 4; asked = Call requests.ShowTables; side = None; answer = answers.Tables (record { name = codes "t"; comment = [] } ∷ record { name = codes "u"; comment = [] } ∷ record { name = codes "w"; comment = [] } ∷ []); missed = None; draw = None }
    ∷ record { actor = Insp; session = 4; asked = Call (requests.ReadLog 4 1 (codes "t" ∷ codes "u" ∷ [])); side = None; answer = answers.Events [] 0; missed = None; draw = None }
    ∷ record { actor = (Client 5); session = 5; asked = Call (requests.Do (statements.Update (codes "t") (record { column = codes "v"; value = (Num (pos 2)) } ∷ []) conditions.All)); side = None; answer = answers.Ok 3; missed = None; draw = None }
    ∷ record { actor = (Client 5); session = 5; asked = Call requests.ShowWaiting; side = None; answer = answers.Waiting []; missed = None; draw = None }
    ∷ record { actor = (Client 5); session = 5; asked = Call (requests.Do (statements.Insert (codes "u") None ((Num (pos 4)) ∷ Null ∷ (Num (pos 1)) ∷ []) None)); side = None; answer = answers.Ok 1; missed = None; draw = None }
    ∷ record { actor = Insp; session = 6; asked = Call (requests.Ends (codes "w")); side = None; answer = answers.Ends (Some (record { least = ((Num (pos 1)) ∷ []); greatest = ((Num (pos 7)) ∷ []) })); missed = None; draw = None }
    ∷ record { actor = (Client 7); session = 7; asked = Call (requests.ReadLog 4 5 (codes "x" ∷ [])); side = None; answer = answers.Events [] 4; missed = None; draw = None }
    ∷ record { actor = (Client 5); session = 5; asked = Call requests.ShowTables; side = None; answer = answers.Tables (record { name = codes "t"; comment = [] } ∷ record { name = codes "u"; comment = [] } ∷ record { name = codes "w"; comment = [] } ∷ []); missed = None; draw = None }
    ∷ record { actor = Insp; session = 4; asked = Call requests.ShowTables; side = None; answer = answers.Tables (record { name = codes "t"; comment = [] } ∷ record { name = codes "u"; comment = [] } ∷ record { name = codes "w"; comment = [] } ∷ []); missed = None; draw = None }
    ∷ record { actor = Insp; session = 6; asked = Call (requests.Do (statements.Update (codes "w") (record { column = codes "id"; value = (Num (pos 7)) } ∷ []) (conditions.Equal (record { column = codes "id"; value = (Num (pos 1)) } ∷ [])))); side = None; answer = answers.Refused 1062 None; missed = None; draw = None }
    ∷ record { actor = Insp; session = 6; asked = Call (requests.Do (statements.Delete (codes "w") (conditions.Equal (record { column = codes "id"; value = (Num (pos 2)) } ∷ [])))); side = None; answer = answers.Ok 0; missed = None; draw = None }
    ∷ []

served_3 : IsServed (record { client_wait = 1; tool_wait = 4 }) tables_3 asked_3
unfolding computing
served_3 = record { answers = refl; sides = refl }

-- Sequence 4
abbrev tables_4 : Database
tables_4 = (record { schema = record { name = codes "t"; columns = (record { name = codes "id"; kind = Int 1 false; nullable = false; default = None; auto = false } ∷ []); uniques = (record { name = None; places = (0 ∷ []) } ∷ []); indexes = []; comment = []; start = None }; rows = (((Num (pos 4)) ∷ []) ∷ []) } ∷ record { schema = record { name = codes "u"; columns = (record { name = codes "id"; kind = Int 8 false; nullable = false; default = None; auto = false } ∷ record { name = codes "m0"; kind = VarChar 3; nullable = false; default = None; auto = false } ∷ record { name = codes "m1"; kind = VarChar 3; nullable = false; default = None; auto = false } ∷ record { name = codes "v"; kind = VarChar 6; nullable = false; default = None; auto = false } ∷ []); uniques = (record { name = None; places = (0 ∷ []) } ∷ record { name = (Some (codes "u0")); places = (1 ∷ []) } ∷ record { name = (Some (codes "u1")); places = (2 ∷ []) } ∷ []); indexes = (record { name = (Some (codes "v")); places = (3 ∷ []) } ∷ []); comment = []; start = None }; rows = (((Num (pos 1)) ∷ (Text (codes "3")) ∷ (Text (codes "e")) ∷ (Text (codes "3")) ∷ []) ∷ ((Num (pos 2)) ∷ (Text (codes "g")) ∷ (Text (codes "c")) ∷ (Text (codes "c")) ∷ []) ∷ ((Num (pos 3)) ∷ (Text (codes "d")) ∷ (Text (codes "3")) ∷ (Text (codes "b")) ∷ []) ∷ ((Num (pos 4)) ∷ (Text (codes "e")) ∷ (Text (codes "g")) ∷ (Text (codes "5")) ∷ []) ∷ ((Num (pos 6)) ∷ (Text (codes "f")) ∷ (Text (codes "f")) ∷ (Text (codes "f")) ∷ []) ∷ []) } ∷ record { schema = record { name = codes "w"; columns = (record { name = codes "id"; kind = VarBinary 3; nullable = false; default = None; auto = false } ∷ []); uniques = (record { name = None; places = (0 ∷ []) } ∷ []); indexes = []; comment = []; start = None }; rows = (((Blob (99 ∷ [])) ∷ []) ∷ []) } ∷ [])

abbrev asked_4 : List Entry
asked_4 =
    record { actor = Insp; session = 1; asked = Call (requests.Do (statements.Replace (codes "t") (Some (codes "id" ∷ [])) ((Num (pos 3)) ∷ []) None)); side = None; answer = answers.Ok 1; missed = None; draw = None }
    ∷ record { actor = Insp; session = 1; asked = Call (requests.Do (statements.Update (codes "w") (record { column = codes "id"; value = (Num (pos 7)) } ∷ []) (conditions.Equal (record { column = codes "id"; value = (Num (pos 5)) } ∷ [])))); side = None; answer = answers.Ok 0; missed = None; draw = None }
    ∷ record { actor = Insp; session = 1; asked = Call (requests.ChunkEnd (codes "w") (Closed ((Blob (49 ∷ [])) ∷ [])) ((Blob (99 ∷ [])) ∷ []) 3); side = None; answer = answers.End ((Blob (99 ∷ [])) ∷ []); missed = None; draw = None }
    ∷ record { actor = Insp; session = 1; asked = Call (requests.Do (statements.Select (codes "y") shown.Count (conditions.Equal (record { column = codes "id"; value = (Num (pos 5)) } ∷ [])))); side = None; answer = answers.Refused 1146 None; missed = None; draw = None }
    ∷ record { actor = Insp; session = 1; asked = Call (requests.Rename (record { old = codes "x"; new = codes "x" } ∷ record { old = codes "u"; new = codes "u" } ∷ [])); side = None; answer = answers.Refused 1146 None; missed = None; draw = None }
    ∷ record { actor = Insp; session = 1; asked = Call (requests.Create (record { name = codes "u"; columns = (record { name = codes "id"; kind = VarBinary 3; nullable = false; default = None; auto = false } ∷ []); uniques = (record { name = None; places = (0 ∷ []) } ∷ []); indexes = []; comment = codes "z"; start = None })); side = None; answer = answers.Refused 1050 None; missed = None; draw = None }
    ∷ record { actor = Insp; session = 1; asked = Call (requests.Do (statements.Replace (codes "w") (Some (codes "id" ∷ [])) ((Num (pos 3)) ∷ []) None)); side = None; answer = answers.Ok 1; missed = None; draw = None }
    ∷ record { actor = Insp; session = 1; asked = Call requests.Begin; side = None; answer = answers.Ok 0; missed = None; draw = None }
    ∷ record { actor = Insp; session = 1; asked = Call (requests.Do (statements.Insert (codes "w") (Some (codes "id" ∷ [])) ((Text (codes "g")) ∷ []) None)); side = None; answer = answers.Ok 1; missed = None; draw = None }
    ∷ record { actor = Insp; session = 1; asked = Call (requests.ChunkEnd (codes "t") (Closed ((Num (pos 3)) ∷ [])) ((Num (pos 3)) ∷ []) 1); side = None; answer = answers.End ((Num (pos 3)) ∷ []); missed = None; draw = None }
    ∷ record { actor = Insp; session = 1; asked = Call requests.ShowWaiting; side = None; answer = answers.Waiting []; missed = None; draw = None }
    ∷ record { actor = Insp; session = 1; asked = Call (requests.Do (statements.Select (codes "t") (shown.Columns (codes "id" ∷ [])) (conditions.Equal (record { column = codes "id"; value = (Num (pos 1)) } ∷ [])))); side = None; answer = answers.Rows []; missed = None; draw = None }
    ∷ record { actor = Insp; session = 1; asked = Call (requests.Do (statements.Insert (codes "t") None ((Num (pos 4)) ∷ []) None)); side = None; answer = answers.Refused 1062 None; missed = None; draw = None }
    ∷ record { actor = Insp; session = 1; asked = Call (requests.Create (record { name = codes "x"; columns = (record { name = codes "id"; kind = Int 1 false; nullable = false; default = None; auto = false } ∷ []); uniques = (record { name = None; places = (0 ∷ []) } ∷ []); indexes = []; comment = []; start = None })); side = None; answer = answers.Ok 0; missed = None; draw = None }
    ∷ record { actor = Insp; session = 1; asked = Call (requests.CopyRow (codes "w") (codes "w") (record { kind = VarBinary 3; nullable = false; origin = from.Added (Blob (53 ∷ [])) } ∷ []) ((Blob (99 ∷ [])) ∷ [])); side = None; answer = answers.Ok 1; missed = None; draw = None }
    ∷ record { actor = Insp; session = 2; asked = Call (requests.Do (statements.Replace (codes "u") None ((Num (pos 2)) ∷ (Num (pos 7)) ∷ (Text (codes "e")) ∷ (Text (codes "a")) ∷ []) None)); side = None; answer = answers.Ok 3; missed = None; draw = None }
    ∷ record { actor = Insp; session = 2; asked = Call (requests.Drop (codes "t")); side = None; answer = answers.Waits 1; missed = None; draw = None }
    ∷ record { actor = Insp; session = 1; asked = Call (requests.Do (statements.Update (codes "t") (record { column = codes "id"; value = (Num (pos 5)) } ∷ []) (conditions.Equal (record { column = codes "id"; value = (Num (pos 5)) } ∷ [])))); side = None; answer = answers.Ok 0; missed = None; draw = None }
    ∷ record { actor = Insp; session = 2; asked = Poll; side = None; answer = answers.Waits 1; missed = None; draw = None }
    ∷ record { actor = Insp; session = 2; asked = Poll; side = None; answer = answers.TimedOut 2; missed = None; draw = None }
    ∷ record { actor = (Client 3); session = 3; asked = Call (requests.Drop (codes "u")); side = None; answer = answers.Ok 0; missed = None; draw = None }
    ∷ record { actor = (Client 3); session = 3; asked = Call (requests.Do (statements.Replace (codes "u") (Some (codes "id" ∷ codes "m1" ∷ codes "v" ∷ [])) ((Num (pos 3)) ∷ (Num (pos 7)) ∷ (Text (codes "f")) ∷ []) None)); side = None; answer = answers.Refused 1146 None; missed = None; draw = None }
    ∷ record { actor = Insp; session = 2; asked = Call (requests.LockTables (codes "x" ∷ codes "y" ∷ [])); side = None; answer = answers.Refused 1146 None; missed = None; draw = None }
    ∷ record { actor = Insp; session = 2; asked = Call (requests.BeginSpan (codes "u") (record { low = (Closed ((Num (pos 1)) ∷ [])); high = (Closed ((Num (pos 1)) ∷ [])) }) 1); side = (Some sides_at.Before); answer = answers.Lost; missed = None; draw = None }
    ∷ record { actor = (Client 3); session = 3; asked = Call requests.ShowTables; side = None; answer = answers.Tables (record { name = codes "t"; comment = [] } ∷ record { name = codes "w"; comment = [] } ∷ record { name = codes "x"; comment = [] } ∷ []); missed = None; draw = None }
    ∷ record { actor = Insp; session = 1; asked = Call (requests.Do (statements.Update (codes "t") (record { column = codes "id"; value = (Num (pos 7)) } ∷ []) (conditions.Equal (record { column = codes "id"; value = (Num (pos 3)) } ∷ [])))); side = None; answer = answers.Ok 1; missed = None; draw = None }
    ∷ record { actor = (Client 3); session = 3; asked = Call requests.Begin; side = None; answer = answers.Ok 0; missed = None; draw = None }
    ∷ record { actor = (Client 4); session = 4; asked = Call requests.Begin; side = None; answer = answers.Ok 0; missed = None; draw = None }
    ∷ record { actor = (Client 3); session = 3; asked = Call (requests.Do (statements.Select (codes "u") shown.All conditions.All)); side = (Some sides_at.After); answer = answers.Lost; missed = (Some (answers.Refused 1146 None)); draw = None }
    ∷ record { actor = Insp; session = 1; asked = Call (requests.Do (statements.Replace (codes "t") (Some (codes "id" ∷ [])) ((Num (pos 5)) ∷ []) None)); side = (Some sides_at.After); answer = answers.Lost; missed = (Some (answers.Ok 1)); draw = None }
    ∷ record { actor = (Client 4); session = 4; asked = Call (requests.Create (record { name = codes "u"; columns = (record { name = codes "id"; kind = Int 8 false; nullable = false; default = None; auto = false } ∷ record { name = codes "m0"; kind = VarChar 3; nullable = false; default = None; auto = false } ∷ record { name = codes "m1"; kind = VarChar 3; nullable = false; default = None; auto = false } ∷ record { name = codes "v"; kind = VarChar 6; nullable = false; default = None; auto = false } ∷ []); uniques = (record { name = None; places = (0 ∷ []) } ∷ record { name = (Some (codes "u0")); places = (1 ∷ []) } ∷ record { name = (Some (codes "u1")); places = (2 ∷ []) } ∷ []); indexes = (record { name = (Some (codes "v")); places = (3 ∷ []) } ∷ []); comment = []; start = None })); side = None; answer = answers.Ok 0; missed = None; draw = None }
    ∷ record { actor = (Client 4); session = 4; asked = Call (requests.Do (statements.Replace (codes "w") (Some (codes "id" ∷ [])) ((Text (codes "g")) ∷ []) None)); side = None; answer = answers.Ok 1; missed = None; draw = None }
    ∷ record { actor = (Client 4); session = 4; asked = Call (requests.Do (statements.Update (codes "u") (record { column = codes "m1"; value = (Text (codes "d")) } ∷ []) (conditions.Equal (record { column = codes "id"; value = (Text (codes "3")) } ∷ [])))); side = None; answer = answers.Ok 0; missed = None; draw = None }
    ∷ record { actor = (Client 4); session = 4; asked = Call (requests.Do (statements.Delete (codes "u") (conditions.Range (record { column = codes "id"; sign = signs.AtLeast; value = (Num (pos 2)) } ∷ record { column = codes "id"; sign = signs.AtMost; value = (Num (pos 2)) } ∷ [])))); side = None; answer = answers.Ok 0; missed = None; draw = None }
    ∷ record { actor = (Client 4); session = 4; asked = Call (requests.Do (statements.Delete (codes "w") (conditions.Equal (record { column = codes "id"; value = (Blob (2 ∷ [])) } ∷ [])))); side = None; answer = answers.Ok 0; missed = None; draw = None }
    ∷ record { actor = (Client 4); session = 4; asked = Call requests.Rollback; side = None; answer = answers.Ok 0; missed = None; draw = None }
    ∷ record { actor = (Client 4); session = 4; asked = Call (requests.LockTables (codes "y" ∷ codes "x" ∷ [])); side = None; answer = answers.Refused 1146 None; missed = None; draw = None }
    ∷ record { actor = (Client 4); session = 4; asked = Call (requests.Rename (record { old = codes "x"; new = codes "u" } ∷ record { old = codes "w"; new = codes "y" } ∷ record { old = codes "w"; new = codes "w" } ∷ [])); side = None; answer = answers.Refused 1050 None; missed = None; draw = None }
    ∷ record { actor = Insp; session = 5; asked = Call requests.LogEnd; side = None; answer = answers.At 5; missed = None; draw = None }
    ∷ record { actor = Insp; session = 5; asked = Call requests.LogEnd; side = None; answer = answers.At 5; missed = None; draw = None }
    ∷ record { actor = (Client 4); session = 4; asked = Call (requests.Rename (record { old = codes "t"; new = codes "u" } ∷ record { old = codes "u"; new = codes "y" } ∷ [])); side = None; answer = answers.Refused 1050 None; missed = None; draw = None }
    ∷ record { actor = (Client 7); session = 7; asked = Call (requests.Do (statements.Replace (codes "t") None ((Num (pos 5)) ∷ []) None)); side = None; answer = answers.Ok 1; missed = None; draw = None }
    ∷ record { actor = Insp; session = 5; asked = Call (requests.ChunkEnd (codes "x") (Open ((Num (pos 5)) ∷ [])) ((Num (pos 6)) ∷ []) 1); side = None; answer = answers.End ((Num (pos 6)) ∷ []); missed = None; draw = None }
    ∷ []

served_4 : IsServed (record { client_wait = 1; tool_wait = 2 }) tables_4 asked_4
unfolding computing
served_4 = record { answers = refl; sides = refl }

-- Sequence 5
abbrev tables_5 : Database
tables_5 = (record { schema = record { name = codes "t"; columns = (record { name = codes "id"; kind = Int 4 false; nullable = false; default = None; auto = false } ∷ record { name = codes "m0"; kind = VarChar 3; nullable = false; default = None; auto = false } ∷ record { name = codes "v"; kind = Int 2 false; nullable = false; default = (Some (Num (pos 5))); auto = false } ∷ []); uniques = (record { name = (Some (codes "k")); places = (0 ∷ []) } ∷ record { name = (Some (codes "u0")); places = (1 ∷ []) } ∷ []); indexes = (record { name = (Some (codes "v")); places = (2 ∷ []) } ∷ []); comment = []; start = None }; rows = (((Num (pos 6)) ∷ (Text (codes "d")) ∷ (Num (pos 2)) ∷ []) ∷ []) } ∷ record { schema = record { name = codes "u"; columns = (record { name = codes "m0"; kind = Int 4 false; nullable = true; default = (Some (Num (pos 1))); auto = false } ∷ record { name = codes "id"; kind = Int 4 false; nullable = false; default = None; auto = false } ∷ []); uniques = (record { name = None; places = (1 ∷ []) } ∷ record { name = (Some (codes "u0")); places = (0 ∷ []) } ∷ []); indexes = []; comment = []; start = None }; rows = (((Num (pos 1)) ∷ (Num (pos 1)) ∷ []) ∷ ((Num (pos 3)) ∷ (Num (pos 2)) ∷ []) ∷ ((Num (pos 6)) ∷ (Num (pos 5)) ∷ []) ∷ []) } ∷ record { schema = record { name = codes "w"; columns = (record { name = codes "id"; kind = Int 4 false; nullable = false; default = None; auto = false } ∷ record { name = codes "m0"; kind = Int 1 false; nullable = true; default = (Some (Num (pos 1))); auto = false } ∷ record { name = codes "v"; kind = Int 4 false; nullable = false; default = (Some (Num (pos 5))); auto = false } ∷ []); uniques = (record { name = None; places = (0 ∷ []) } ∷ record { name = (Some (codes "u0")); places = (1 ∷ []) } ∷ []); indexes = []; comment = []; start = None }; rows = (((Num (pos 1)) ∷ (Num (pos 5)) ∷ (Num (pos 6)) ∷ []) ∷ ((Num (pos 7)) ∷ Null ∷ (Num (pos 2)) ∷ []) ∷ []) } ∷ [])

abbrev asked_5 : List Entry
asked_5 =
    record { actor = (Client 1); session = 1; asked = Call (requests.Do (statements.Replace (codes "t") None ((Num (pos 7)) ∷ (Text (codes "f")) ∷ (Text (codes "1")) ∷ []) None)); side = None; answer = answers.Ok 1; missed = None; draw = None }
    ∷ record { actor = (Client 1); session = 1; asked = Call requests.Begin; side = None; answer = answers.Ok 0; missed = None; draw = None }
    ∷ record { actor = (Client 1); session = 1; asked = Call requests.ShowTables; side = None; answer = answers.Tables (record { name = codes "t"; comment = [] } ∷ record { name = codes "u"; comment = [] } ∷ record { name = codes "w"; comment = [] } ∷ []); missed = None; draw = None }
    ∷ record { actor = (Client 1); session = 1; asked = Call (requests.Do (statements.Delete (codes "u") conditions.All)); side = None; answer = answers.Ok 3; missed = None; draw = None }
    ∷ record { actor = Insp; session = 3; asked = Call (requests.Do (statements.Select (codes "u") (shown.Columns (codes "m0" ∷ [])) (conditions.Equal (record { column = codes "id"; value = (Num (pos 2)) } ∷ [])))); side = None; answer = answers.Waits 1; missed = None; draw = None }
    ∷ record { actor = (Client 1); session = 1; asked = Call (requests.Ends (codes "u")); side = None; answer = answers.Ends (Some (record { least = ((Num (pos 1)) ∷ []); greatest = ((Num (pos 5)) ∷ []) })); missed = None; draw = None }
    ∷ record { actor = Insp; session = 3; asked = Cut; side = None; answer = answers.Lost; missed = None; draw = None }
    ∷ record { actor = (Client 2); session = 2; asked = Call requests.LogEnd; side = None; answer = answers.At 1; missed = None; draw = None }
    ∷ record { actor = (Client 1); session = 1; asked = Call (requests.Do (statements.Insert (codes "w") None ((Num (pos 2)) ∷ (Num (pos 6)) ∷ (Num (pos 3)) ∷ []) None)); side = None; answer = answers.Ok 1; missed = None; draw = None }
    ∷ record { actor = (Client 2); session = 2; asked = Call requests.Begin; side = None; answer = answers.Ok 0; missed = None; draw = None }
    ∷ record { actor = (Client 1); session = 1; asked = Call (requests.Do (statements.Replace (codes "u") (Some (codes "id" ∷ [])) ((Num (pos 4)) ∷ []) None)); side = None; answer = answers.Ok 1; missed = None; draw = None }
    ∷ record { actor = (Client 2); session = 2; asked = Call (requests.Do (statements.Delete (codes "u") (conditions.Equal (record { column = codes "id"; value = (Num (pos 2)) } ∷ [])))); side = None; answer = answers.Waits 1; missed = None; draw = None }
    ∷ record { actor = (Client 1); session = 1; asked = Call requests.Rollback; side = None; answer = answers.Ok 0; missed = None; draw = None }
    ∷ record { actor = Insp; session = 4; asked = Call (requests.ChunkEnd (codes "u") (Closed ((Num (pos 6)) ∷ [])) ((Num (pos 2)) ∷ []) 1); side = None; answer = answers.End ((Num (pos 2)) ∷ []); missed = None; draw = None }
    ∷ record { actor = (Client 1); session = 1; asked = Call requests.Begin; side = None; answer = answers.Ok 0; missed = None; draw = None }
    ∷ record { actor = Insp; session = 4; asked = Call (requests.Ends (codes "u")); side = None; answer = answers.Ends (Some (record { least = ((Num (pos 1)) ∷ []); greatest = ((Num (pos 5)) ∷ []) })); missed = None; draw = None }
    ∷ record { actor = (Client 1); session = 1; asked = Call (requests.ReadLog 5 5 (codes "x" ∷ [])); side = None; answer = answers.Events [] 1; missed = None; draw = None }
    ∷ record { actor = (Client 1); session = 1; asked = Call requests.LogEnd; side = None; answer = answers.At 1; missed = None; draw = None }
    ∷ record { actor = Insp; session = 4; asked = Call (requests.BeginSpan (codes "y") (record { low = (Open ((Num (pos 1)) ∷ [])); high = (Closed ((Num (pos 1)) ∷ [])) }) 2); side = None; answer = answers.Refused 1146 None; missed = None; draw = None }
    ∷ record { actor = Insp; session = 4; asked = Call (requests.ChunkEnd (codes "t") (Open ((Num (pos 6)) ∷ [])) ((Num (pos 7)) ∷ []) 2); side = None; answer = answers.End ((Num (pos 7)) ∷ []); missed = None; draw = None }
    ∷ record { actor = Insp; session = 4; asked = Call requests.LogEnd; side = None; answer = answers.At 1; missed = None; draw = None }
    ∷ record { actor = (Client 1); session = 1; asked = Call requests.LogEnd; side = None; answer = answers.At 1; missed = None; draw = None }
    ∷ record { actor = Insp; session = 4; asked = Call (requests.Ends (codes "w")); side = None; answer = answers.Ends (Some (record { least = ((Num (pos 1)) ∷ []); greatest = ((Num (pos 7)) ∷ []) })); missed = None; draw = None }
    ∷ record { actor = Insp; session = 4; asked = Call (requests.ReadLog 0 2 (codes "w" ∷ codes "y" ∷ [])); side = None; answer = answers.Events [] 1; missed = None; draw = None }
    ∷ record { actor = (Client 5); session = 5; asked = Call (requests.Rename (record { old = codes "w"; new = codes "w" } ∷ record { old = codes "x"; new = codes "w" } ∷ [])); side = None; answer = answers.Refused 1050 None; missed = None; draw = None }
    ∷ record { actor = (Client 2); session = 2; asked = Poll; side = None; answer = answers.Ok 1; missed = None; draw = None }
    ∷ record { actor = (Client 5); session = 5; asked = Call (requests.ReadLog 1 1 (codes "x" ∷ codes "w" ∷ [])); side = None; answer = answers.Events [] 1; missed = None; draw = None }
    ∷ record { actor = (Client 1); session = 1; asked = Call requests.ShowWaiting; side = None; answer = answers.Waiting []; missed = None; draw = None }
    ∷ record { actor = (Client 5); session = 5; asked = Call requests.Begin; side = None; answer = answers.Ok 0; missed = None; draw = None }
    ∷ record { actor = Insp; session = 4; asked = Call (requests.Do (statements.Update (codes "u") (record { column = codes "id"; value = (Num (pos 4)) } ∷ []) (conditions.Equal (record { column = codes "m0"; value = (Num (pos 3)) } ∷ [])))); side = None; answer = answers.Waits 2; missed = None; draw = None }
    ∷ record { actor = (Client 2); session = 2; asked = Call (requests.Do (statements.Replace (codes "u") (Some (codes "m0" ∷ codes "id" ∷ [])) ((Text (codes "3")) ∷ (Num (pos 2)) ∷ []) None)); side = None; answer = answers.Ok 1; missed = None; draw = None }
    ∷ record { actor = (Client 2); session = 2; asked = Call (requests.Do (statements.Insert (codes "u") (Some (codes "m0" ∷ codes "id" ∷ [])) ((Num (pos 6)) ∷ (Num (pos 6)) ∷ []) None)); side = (Some sides_at.Before); answer = answers.Lost; missed = None; draw = None }
    ∷ record { actor = Insp; session = 4; asked = Poll; side = None; answer = answers.Ok 1; missed = None; draw = None }
    ∷ record { actor = (Client 5); session = 5; asked = Call requests.LogEnd; side = None; answer = answers.At 2; missed = None; draw = None }
    ∷ record { actor = Insp; session = 4; asked = Call requests.Begin; side = None; answer = answers.Ok 0; missed = None; draw = None }
    ∷ record { actor = Insp; session = 4; asked = Call (requests.CopyRow (codes "u") (codes "u") (record { kind = Int 4 false; nullable = true; origin = from.Added Null } ∷ record { kind = Int 4 false; nullable = false; origin = from.Old 1 } ∷ []) ((Num (pos 5)) ∷ [])); side = None; answer = answers.Ok 0; missed = None; draw = None }
    ∷ record { actor = Insp; session = 4; asked = Call (requests.Do (statements.Delete (codes "u") (conditions.Equal (record { column = codes "m0"; value = (Num (pos 5)) } ∷ [])))); side = None; answer = answers.Ok 0; missed = None; draw = None }
    ∷ record { actor = (Client 5); session = 5; asked = Call (requests.Do (statements.Replace (codes "w") None ((Num (pos 4)) ∷ Null ∷ (Num (pos 5)) ∷ []) None)); side = None; answer = answers.Ok 1; missed = None; draw = None }
    ∷ record { actor = Insp; session = 4; asked = Call (requests.CopyRow (codes "u") (codes "t") (record { kind = Int 4 false; nullable = false; origin = from.Old 1 } ∷ record { kind = VarChar 3; nullable = false; origin = from.Added (Text (codes "5")) } ∷ record { kind = Int 2 false; nullable = false; origin = from.Old 0 } ∷ []) ((Num (pos 4)) ∷ [])); side = None; answer = answers.Ok 1; missed = None; draw = None }
    ∷ record { actor = Insp; session = 4; asked = Call requests.ShowWaiting; side = None; answer = answers.Waiting []; missed = None; draw = None }
    ∷ record { actor = Insp; session = 4; asked = Call (requests.Do (statements.Select (codes "u") shown.Count (conditions.Equal (record { column = codes "id"; value = (Num (pos 3)) } ∷ [])))); side = None; answer = answers.Rows (((Num (pos 0)) ∷ []) ∷ []); missed = None; draw = None }
    ∷ record { actor = Insp; session = 6; asked = Cut; side = None; answer = answers.Lost; missed = None; draw = None }
    ∷ record { actor = Insp; session = 4; asked = Call requests.Commit; side = None; answer = answers.Ok 0; missed = None; draw = None }
    ∷ record { actor = (Client 1); session = 1; asked = Call (requests.ChunkEnd (codes "w") (Closed ((Num (pos 5)) ∷ [])) ((Num (pos 1)) ∷ []) 1); side = None; answer = answers.End ((Num (pos 1)) ∷ []); missed = None; draw = None }
    ∷ []

served_5 : IsServed (record { client_wait = 4; tool_wait = 2 }) tables_5 asked_5
unfolding computing
served_5 = record { answers = refl; sides = refl }

-- Sequence 6
abbrev tables_6 : Database
tables_6 = (record { schema = record { name = codes "t"; columns = (record { name = codes "m0"; kind = VarChar 3; nullable = true; default = (Some (Text (codes "1"))); auto = false } ∷ record { name = codes "id"; kind = Int 4 false; nullable = false; default = None; auto = false } ∷ []); uniques = (record { name = None; places = (1 ∷ []) } ∷ record { name = (Some (codes "u0")); places = (0 ∷ []) } ∷ []); indexes = []; comment = []; start = None }; rows = (((Text (codes "b")) ∷ (Num (pos 5)) ∷ []) ∷ (Null ∷ (Num (pos 6)) ∷ []) ∷ ((Text (codes "e")) ∷ (Num (pos 7)) ∷ []) ∷ []) } ∷ record { schema = record { name = codes "u"; columns = (record { name = codes "id"; kind = Int 1 false; nullable = false; default = None; auto = false } ∷ record { name = codes "m0"; kind = Int 4 false; nullable = false; default = None; auto = false } ∷ record { name = codes "v"; kind = VarChar 6; nullable = true; default = (Some Null); auto = false } ∷ []); uniques = (record { name = None; places = (0 ∷ []) } ∷ record { name = (Some (codes "u0")); places = (1 ∷ []) } ∷ []); indexes = []; comment = []; start = None }; rows = (((Num (pos 2)) ∷ (Num (pos 1)) ∷ (Text (codes "d")) ∷ []) ∷ ((Num (pos 3)) ∷ (Num (pos 2)) ∷ (Text (codes "d")) ∷ []) ∷ ((Num (pos 5)) ∷ (Num (pos 3)) ∷ (Text (codes "g")) ∷ []) ∷ ((Num (pos 7)) ∷ (Num (pos 6)) ∷ (Text (codes "a")) ∷ []) ∷ []) } ∷ record { schema = record { name = codes "w"; columns = (record { name = codes "a"; kind = Int 4 false; nullable = false; default = None; auto = false } ∷ record { name = codes "c"; kind = VarChar 4; nullable = false; default = None; auto = false } ∷ record { name = codes "m0"; kind = Int 1 false; nullable = false; default = None; auto = false } ∷ record { name = codes "v"; kind = Int 2 false; nullable = true; default = (Some (Num (pos 5))); auto = false } ∷ []); uniques = (record { name = None; places = (0 ∷ 1 ∷ []) } ∷ record { name = (Some (codes "u0")); places = (2 ∷ []) } ∷ []); indexes = []; comment = []; start = None }; rows = (((Num (pos 2)) ∷ (Text (codes "c")) ∷ (Num (pos 1)) ∷ Null ∷ []) ∷ ((Num (pos 7)) ∷ (Text (codes "2")) ∷ (Num (pos 4)) ∷ (Num (pos 3)) ∷ []) ∷ []) } ∷ [])

abbrev asked_6 : List Entry
asked_6 =
    record { actor = (Client 1); session = 1; asked = Call requests.Begin; side = None; answer = answers.Ok 0; missed = None; draw = None }
    ∷ record { actor = (Client 1); session = 1; asked = Call (requests.Do (statements.Replace (codes "w") (Some (codes "a" ∷ codes "c" ∷ codes "m0" ∷ codes "v" ∷ [])) ((Num (pos 3)) ∷ (Text (codes "g")) ∷ (Num (pos 6)) ∷ Null ∷ []) None)); side = None; answer = answers.Ok 1; missed = None; draw = None }
    ∷ record { actor = (Client 2); session = 2; asked = Call (requests.BeginSpan (codes "u") (record { low = (Open ((Num (pos 2)) ∷ [])); high = (Closed ((Num (pos 2)) ∷ [])) }) 1); side = None; answer = answers.Keys [] ((Num (pos 2)) ∷ []); missed = None; draw = None }
    ∷ record { actor = (Client 2); session = 2; asked = Call (requests.Do (statements.Delete (codes "w") conditions.All)); side = None; answer = answers.Waits 1; missed = None; draw = None }
    ∷ record { actor = (Client 1); session = 1; asked = Call requests.Rollback; side = None; answer = answers.Ok 0; missed = None; draw = None }
    ∷ record { actor = (Client 1); session = 1; asked = Call (requests.ChunkEnd (codes "t") (Closed ((Num (pos 5)) ∷ [])) ((Num (pos 3)) ∷ []) 3); side = None; answer = answers.End ((Num (pos 3)) ∷ []); missed = None; draw = None }
    ∷ record { actor = (Client 2); session = 2; asked = Poll; side = None; answer = answers.Ok 2; missed = None; draw = None }
    ∷ record { actor = (Client 1); session = 1; asked = Call (requests.Do (statements.Select (codes "w") shown.All (conditions.Equal (record { column = codes "a"; value = (Num (pos 6)) } ∷ record { column = codes "c"; value = (Text (codes "b")) } ∷ [])))); side = None; answer = answers.Waits 2; missed = None; draw = None }
    ∷ record { actor = (Client 2); session = 2; asked = Call requests.Rollback; side = None; answer = answers.Ok 0; missed = None; draw = None }
    ∷ record { actor = (Client 2); session = 2; asked = Call requests.ShowWaiting; side = (Some sides_at.Before); answer = answers.Lost; missed = None; draw = None }
    ∷ record { actor = (Client 1); session = 1; asked = Poll; side = None; answer = answers.Rows []; missed = None; draw = None }
    ∷ record { actor = (Client 3); session = 3; asked = Call requests.ShowTables; side = None; answer = answers.Tables (record { name = codes "t"; comment = [] } ∷ record { name = codes "u"; comment = [] } ∷ record { name = codes "w"; comment = [] } ∷ []); missed = None; draw = None }
    ∷ record { actor = (Client 3); session = 3; asked = Call requests.ShowWaiting; side = None; answer = answers.Waiting []; missed = None; draw = None }
    ∷ record { actor = (Client 3); session = 3; asked = Call (requests.Do (statements.Insert (codes "t") (Some (codes "m0" ∷ codes "id" ∷ [])) (Null ∷ (Num (pos 2)) ∷ []) None)); side = None; answer = answers.Ok 1; missed = None; draw = None }
    ∷ record { actor = (Client 1); session = 1; asked = Call (requests.Create (record { name = codes "w"; columns = (record { name = codes "id"; kind = Int 1 false; nullable = false; default = None; auto = false } ∷ record { name = codes "m0"; kind = Int 4 false; nullable = false; default = None; auto = false } ∷ record { name = codes "v"; kind = VarChar 6; nullable = true; default = (Some Null); auto = false } ∷ []); uniques = (record { name = None; places = (0 ∷ []) } ∷ record { name = (Some (codes "u0")); places = (1 ∷ []) } ∷ []); indexes = []; comment = codes "z"; start = None })); side = None; answer = answers.Refused 1050 None; missed = None; draw = None }
    ∷ record { actor = (Client 3); session = 3; asked = Call (requests.Ends (codes "w")); side = None; answer = answers.Ends (Some (record { least = ((Num (pos 2)) ∷ (Text (codes "c")) ∷ []); greatest = ((Num (pos 7)) ∷ (Text (codes "2")) ∷ []) })); missed = None; draw = None }
    ∷ record { actor = (Client 1); session = 1; asked = Call (requests.Drop (codes "u")); side = None; answer = answers.Ok 0; missed = None; draw = None }
    ∷ record { actor = (Client 1); session = 1; asked = Call (requests.BeginSpan (codes "w") (record { low = Free; high = (Closed ((Num (pos 3)) ∷ (Text (codes "5")) ∷ [])) }) 1); side = None; answer = answers.Keys (((Num (pos 2)) ∷ (Text (codes "c")) ∷ []) ∷ []) ((Num (pos 3)) ∷ (Text (codes "5")) ∷ []); missed = None; draw = None }
    ∷ record { actor = (Client 1); session = 1; asked = Call (requests.CopyRow (codes "w") (codes "t") (record { kind = VarChar 3; nullable = true; origin = from.Old 3 } ∷ record { kind = Int 4 false; nullable = false; origin = from.Old 0 } ∷ []) ((Num (pos 3)) ∷ (Text (codes "c")) ∷ [])); side = None; answer = answers.Ok 0; missed = None; draw = None }
    ∷ record { actor = (Client 3); session = 3; asked = Call requests.ShowWaiting; side = None; answer = answers.Waiting []; missed = None; draw = None }
    ∷ record { actor = (Client 3); session = 3; asked = Call requests.LogEnd; side = None; answer = answers.At 1; missed = None; draw = None }
    ∷ record { actor = (Client 1); session = 1; asked = Call (requests.Do (statements.Delete (codes "t") (conditions.Equal (record { column = codes "id"; value = (Num (pos 2)) } ∷ [])))); side = None; answer = answers.Ok 1; missed = None; draw = None }
    ∷ record { actor = (Client 1); session = 1; asked = Call (requests.CopyRow (codes "t") (codes "w") (record { kind = Int 4 false; nullable = false; origin = from.Old 1 } ∷ record { kind = VarChar 4; nullable = false; origin = from.Added (Text (codes "5")) } ∷ record { kind = Int 1 false; nullable = false; origin = from.Old 1 } ∷ record { kind = Int 2 false; nullable = true; origin = from.Old 0 } ∷ []) ((Num (pos 5)) ∷ [])); side = None; answer = answers.Refused 1366 (Some 3); missed = None; draw = None }
    ∷ record { actor = (Client 1); session = 1; asked = Call (requests.Create (record { name = codes "u"; columns = (record { name = codes "id"; kind = Int 1 false; nullable = false; default = None; auto = false } ∷ record { name = codes "m0"; kind = Int 4 false; nullable = false; default = None; auto = false } ∷ record { name = codes "v"; kind = VarChar 6; nullable = true; default = (Some Null); auto = false } ∷ []); uniques = (record { name = None; places = (0 ∷ []) } ∷ record { name = (Some (codes "u0")); places = (1 ∷ []) } ∷ []); indexes = []; comment = codes "z"; start = None })); side = None; answer = answers.Ok 0; missed = None; draw = None }
    ∷ record { actor = (Client 4); session = 4; asked = Call (requests.ChunkEnd (codes "w") (Open ((Num (pos 2)) ∷ (Text (codes "c")) ∷ [])) ((Num (pos 7)) ∷ (Text (codes "2")) ∷ []) 2); side = None; answer = answers.End ((Num (pos 7)) ∷ (Text (codes "2")) ∷ []); missed = None; draw = None }
    ∷ record { actor = (Client 3); session = 3; asked = Call (requests.Do (statements.Update (codes "w") (record { column = codes "v"; value = (Num (pos 5)) } ∷ []) (conditions.Equal (record { column = codes "m0"; value = (Text (codes "2")) } ∷ [])))); side = (Some sides_at.Before); answer = answers.Lost; missed = None; draw = None }
    ∷ record { actor = (Client 4); session = 4; asked = Call (requests.Do (statements.Select (codes "w") shown.All (conditions.Equal (record { column = codes "a"; value = (Num (pos 7)) } ∷ record { column = codes "c"; value = (Text (codes "e")) } ∷ [])))); side = None; answer = answers.Rows []; missed = None; draw = None }
    ∷ record { actor = (Client 1); session = 1; asked = Call (requests.Do (statements.Insert (codes "u") None ((Num (pos 2)) ∷ (Num (pos 3)) ∷ Null ∷ []) None)); side = None; answer = answers.Ok 1; missed = None; draw = None }
    ∷ record { actor = (Client 1); session = 1; asked = Call requests.Rollback; side = None; answer = answers.Ok 0; missed = None; draw = None }
    ∷ record { actor = (Client 1); session = 1; asked = Call (requests.Do (statements.Insert (codes "t") (Some (codes "m0" ∷ codes "id" ∷ [])) ((Num (pos 1)) ∷ (Num (pos 6)) ∷ []) None)); side = None; answer = answers.Refused 1062 None; missed = None; draw = None }
    ∷ record { actor = (Client 1); session = 1; asked = Call (requests.Do (statements.Replace (codes "w") (Some (codes "a" ∷ codes "c" ∷ codes "m0" ∷ codes "v" ∷ [])) ((Num (pos 3)) ∷ (Num (pos 6)) ∷ (Num (pos 5)) ∷ Null ∷ []) None)); side = None; answer = answers.Ok 1; missed = None; draw = None }
    ∷ record { actor = (Client 4); session = 4; asked = Call (requests.ReadLog 3 1 (codes "y" ∷ codes "u" ∷ [])); side = None; answer = answers.Events [] 2; missed = None; draw = None }
    ∷ record { actor = (Client 4); session = 4; asked = Call (requests.Do (statements.Delete (codes "w") (conditions.Equal (record { column = codes "c"; value = (Text (codes "d")) } ∷ record { column = codes "a"; value = (Num (pos 3)) } ∷ [])))); side = None; answer = answers.Ok 0; missed = None; draw = None }
    ∷ record { actor = (Client 1); session = 1; asked = Cut; side = None; answer = answers.Lost; missed = None; draw = None }
    ∷ record { actor = (Client 4); session = 4; asked = Call requests.Begin; side = None; answer = answers.Ok 0; missed = None; draw = None }
    ∷ record { actor = (Client 4); session = 4; asked = Call requests.ShowWaiting; side = None; answer = answers.Waiting []; missed = None; draw = None }
    ∷ record { actor = (Client 4); session = 4; asked = Call (requests.Do (statements.Insert (codes "t") (Some (codes "m0" ∷ codes "id" ∷ [])) (Null ∷ (Num (pos 3)) ∷ []) None)); side = None; answer = answers.Ok 1; missed = None; draw = None }
    ∷ record { actor = (Client 4); session = 4; asked = Call (requests.Do (statements.Insert (codes "w") (Some (codes "a" ∷ codes "c" ∷ codes "m0" ∷ codes "v" ∷ [])) ((Num (pos 4)) ∷ (Num (pos 3)) ∷ (Num (pos 7)) ∷ Null ∷ []) None)); side = None; answer = answers.Ok 1; missed = None; draw = None }
    ∷ record { actor = (Client 4); session = 4; asked = Call (requests.Do (statements.Insert (codes "w") None ((Num (pos 5)) ∷ (Text (codes "g")) ∷ (Num (pos 7)) ∷ (Num (pos 7)) ∷ []) None)); side = None; answer = answers.Refused 1062 None; missed = None; draw = None }
    ∷ record { actor = (Client 4); session = 4; asked = Call (requests.ReadLog 4 5 (codes "w" ∷ [])); side = None; answer = answers.Events [] 2; missed = None; draw = None }
    ∷ record { actor = (Client 4); session = 4; asked = Call (requests.Do (statements.Insert (codes "u") (Some (codes "id" ∷ codes "m0" ∷ codes "v" ∷ [])) ((Num (pos 1)) ∷ (Num (pos 4)) ∷ (Text (codes "d")) ∷ []) None)); side = None; answer = answers.Ok 1; missed = None; draw = None }
    ∷ record { actor = (Client 4); session = 4; asked = Call (requests.Do (statements.Insert (codes "t") None ((Num (pos 5)) ∷ (Num (pos 3)) ∷ (Text (codes "c")) ∷ []) None)); side = None; answer = answers.Refused 1136 None; missed = None; draw = None }
    ∷ record { actor = (Client 4); session = 4; asked = Call (requests.Ends (codes "t")); side = None; answer = answers.Ends (Some (record { least = ((Num (pos 2)) ∷ []); greatest = ((Num (pos 7)) ∷ []) })); missed = None; draw = None }
    ∷ record { actor = (Client 4); session = 4; asked = Call requests.ShowTables; side = None; answer = answers.Tables (record { name = codes "t"; comment = [] } ∷ record { name = codes "u"; comment = codes "z" } ∷ record { name = codes "w"; comment = [] } ∷ []); missed = None; draw = None }
    ∷ record { actor = (Client 4); session = 4; asked = Call (requests.Ends (codes "t")); side = None; answer = answers.Ends (Some (record { least = ((Num (pos 2)) ∷ []); greatest = ((Num (pos 7)) ∷ []) })); missed = None; draw = None }
    ∷ record { actor = (Client 4); session = 4; asked = Call (requests.Do (statements.Insert (codes "w") (Some (codes "a" ∷ codes "c" ∷ codes "m0" ∷ [])) ((Num (pos 7)) ∷ (Text (codes "a")) ∷ (Num (pos 7)) ∷ []) None)); side = None; answer = answers.Refused 1062 None; missed = None; draw = None }
    ∷ []

served_6 : IsServed (record { client_wait = 4; tool_wait = 1 }) tables_6 asked_6
unfolding computing
served_6 = record { answers = refl; sides = refl }

-- Sequence 7
abbrev tables_7 : Database
tables_7 = (record { schema = record { name = codes "t"; columns = (record { name = codes "id"; kind = Int 4 false; nullable = false; default = None; auto = false } ∷ record { name = codes "m0"; kind = Int 4 false; nullable = true; default = (Some Null); auto = false } ∷ record { name = codes "v"; kind = Int 4 false; nullable = true; default = (Some Null); auto = false } ∷ []); uniques = (record { name = None; places = (0 ∷ []) } ∷ record { name = (Some (codes "u0")); places = (0 ∷ 1 ∷ []) } ∷ []); indexes = []; comment = []; start = None }; rows = (((Num (pos 2)) ∷ (Num (pos 4)) ∷ (Num (pos 6)) ∷ []) ∷ ((Num (pos 3)) ∷ (Num (pos 3)) ∷ Null ∷ []) ∷ ((Num (pos 5)) ∷ (Num (pos 2)) ∷ (Num (pos 6)) ∷ []) ∷ []) } ∷ record { schema = record { name = codes "u"; columns = (record { name = codes "id"; kind = Int 4 false; nullable = false; default = None; auto = false } ∷ []); uniques = (record { name = (Some (codes "k")); places = (0 ∷ []) } ∷ []); indexes = []; comment = []; start = None }; rows = (((Num (pos 1)) ∷ []) ∷ ((Num (pos 4)) ∷ []) ∷ ((Num (pos 5)) ∷ []) ∷ ((Num (pos 6)) ∷ []) ∷ ((Num (pos 7)) ∷ []) ∷ []) } ∷ record { schema = record { name = codes "w"; columns = (record { name = codes "id"; kind = Int 8 false; nullable = false; default = None; auto = false } ∷ []); uniques = (record { name = None; places = (0 ∷ []) } ∷ []); indexes = []; comment = []; start = None }; rows = (((Num (pos 1)) ∷ []) ∷ ((Num (pos 3)) ∷ []) ∷ ((Num (pos 4)) ∷ []) ∷ ((Num (pos 6)) ∷ []) ∷ ((Num (pos 7)) ∷ []) ∷ []) } ∷ [])

abbrev asked_7 : List Entry
asked_7 =
    record { actor = Insp; session = 1; asked = Call requests.ShowWaiting; side = (Some sides_at.Before); answer = answers.Lost; missed = None; draw = None }
    ∷ record { actor = (Client 2); session = 2; asked = Call (requests.Do (statements.Update (codes "t") (record { column = codes "id"; value = (Num (pos 2)) } ∷ record { column = codes "m0"; value = Null } ∷ record { column = codes "v"; value = (Num (pos 1000)) } ∷ []) (conditions.Equal (record { column = codes "id"; value = (Num (pos 3)) } ∷ [])))); side = None; answer = answers.Refused 1062 None; missed = None; draw = None }
    ∷ record { actor = (Client 2); session = 2; asked = Call (requests.Do (statements.Insert (codes "w") None ((Num (pos 5)) ∷ []) None)); side = (Some sides_at.After); answer = answers.Lost; missed = (Some (answers.Ok 1)); draw = None }
    ∷ record { actor = (Client 3); session = 3; asked = Call requests.Begin; side = None; answer = answers.Ok 0; missed = None; draw = None }
    ∷ record { actor = (Client 3); session = 3; asked = Call (requests.CopyRow (codes "w") (codes "u") (record { kind = Int 4 false; nullable = false; origin = from.Old 0 } ∷ []) ((Num (pos 3)) ∷ [])); side = None; answer = answers.Ok 1; missed = None; draw = None }
    ∷ record { actor = (Client 3); session = 3; asked = Call (requests.ChunkEnd (codes "u") Free ((Num (pos 4)) ∷ []) 2); side = None; answer = answers.End ((Num (pos 4)) ∷ []); missed = None; draw = None }
    ∷ record { actor = (Client 4); session = 4; asked = Call (requests.Do (statements.Update (codes "u") (record { column = codes "id"; value = (Num (pos 4)) } ∷ []) (conditions.Range (record { column = codes "id"; sign = signs.AtLeast; value = (Num (pos 2)) } ∷ record { column = codes "id"; sign = signs.AtMost; value = (Num (pos 1)) } ∷ [])))); side = None; answer = answers.Ok 0; missed = None; draw = None }
    ∷ record { actor = (Client 4); session = 4; asked = Call (requests.Create (record { name = codes "t"; columns = (record { name = codes "id"; kind = Int 4 false; nullable = false; default = None; auto = false } ∷ []); uniques = (record { name = (Some (codes "k")); places = (0 ∷ []) } ∷ []); indexes = []; comment = codes "z"; start = None })); side = None; answer = answers.Refused 1050 None; missed = None; draw = None }
    ∷ record { actor = (Client 3); session = 3; asked = Call (requests.ChunkEnd (codes "w") (Open ((Num (pos 3)) ∷ [])) ((Num (pos 5)) ∷ []) 2); side = None; answer = answers.End ((Num (pos 5)) ∷ []); missed = None; draw = None }
    ∷ record { actor = (Client 3); session = 3; asked = Call (requests.Do (statements.Insert (codes "w") None ((Num (pos 5)) ∷ []) None)); side = None; answer = answers.Refused 1062 None; missed = None; draw = None }
    ∷ record { actor = (Client 4); session = 4; asked = Call (requests.Create (record { name = codes "u"; columns = (record { name = codes "id"; kind = Int 4 false; nullable = false; default = None; auto = false } ∷ record { name = codes "m0"; kind = Int 4 false; nullable = true; default = (Some Null); auto = false } ∷ record { name = codes "v"; kind = Int 4 false; nullable = true; default = (Some Null); auto = false } ∷ []); uniques = (record { name = None; places = (0 ∷ []) } ∷ record { name = (Some (codes "u0")); places = (0 ∷ 1 ∷ []) } ∷ []); indexes = []; comment = codes "z"; start = None })); side = None; answer = answers.Waits 3; missed = None; draw = None }
    ∷ record { actor = (Client 4); session = 4; asked = Poll; side = None; answer = answers.Waits 3; missed = None; draw = None }
    ∷ record { actor = (Client 4); session = 4; asked = Poll; side = None; answer = answers.TimedOut 2; missed = None; draw = None }
    ∷ record { actor = (Client 3); session = 3; asked = Call (requests.Do (statements.Update (codes "t") (record { column = codes "id"; value = (Num (pos 1)) } ∷ []) (conditions.Equal (record { column = codes "id"; value = (Num (pos 1)) } ∷ [])))); side = None; answer = answers.Ok 0; missed = None; draw = None }
    ∷ record { actor = (Client 5); session = 5; asked = Call (requests.Do (statements.Select (codes "w") shown.Count (conditions.Equal (record { column = codes "id"; value = (Num (pos 5)) } ∷ [])))); side = None; answer = answers.Waits 3; missed = None; draw = None }
    ∷ record { actor = (Client 4); session = 4; asked = Call requests.Begin; side = None; answer = answers.Ok 0; missed = None; draw = None }
    ∷ record { actor = (Client 4); session = 4; asked = Call (requests.Do (statements.Insert (codes "u") None ((Num (pos 6)) ∷ []) None)); side = None; answer = answers.Refused 1062 None; missed = None; draw = None }
    ∷ record { actor = (Client 3); session = 3; asked = Call (requests.CopyRow (codes "u") (codes "w") (record { kind = Int 8 false; nullable = false; origin = from.Old 0 } ∷ []) ((Num (pos 3)) ∷ [])); side = None; answer = answers.Ok 0; missed = None; draw = None }
    ∷ record { actor = (Client 3); session = 3; asked = Call requests.LogEnd; side = None; answer = answers.At 1; missed = None; draw = None }
    ∷ record { actor = (Client 6); session = 6; asked = Call (requests.ChunkEnd (codes "t") Free ((Num (pos 2)) ∷ []) 3); side = None; answer = answers.End ((Num (pos 2)) ∷ []); missed = None; draw = None }
    ∷ record { actor = (Client 5); session = 5; asked = Poll; side = None; answer = answers.Waits 3; missed = None; draw = None }
    ∷ record { actor = (Client 3); session = 3; asked = Call (requests.ChunkEnd (codes "t") (Open ((Num (pos 3)) ∷ [])) ((Num (pos 5)) ∷ []) 3); side = None; answer = answers.End ((Num (pos 5)) ∷ []); missed = None; draw = None }
    ∷ record { actor = (Client 5); session = 5; asked = Poll; side = None; answer = answers.TimedOut 2; missed = None; draw = None }
    ∷ record { actor = (Client 4); session = 4; asked = Call requests.ShowTables; side = None; answer = answers.Tables (record { name = codes "t"; comment = [] } ∷ record { name = codes "u"; comment = [] } ∷ record { name = codes "w"; comment = [] } ∷ []); missed = None; draw = None }
    ∷ record { actor = (Client 4); session = 4; asked = Call requests.LogEnd; side = None; answer = answers.At 1; missed = None; draw = None }
    ∷ record { actor = (Client 5); session = 5; asked = Call (requests.Do (statements.Replace (codes "u") None ((Num (pos 3)) ∷ []) None)); side = None; answer = answers.Waits 3; missed = None; draw = None }
    ∷ record { actor = (Client 5); session = 5; asked = Poll; side = None; answer = answers.Waits 3; missed = None; draw = None }
    ∷ record { actor = (Client 5); session = 5; asked = Poll; side = None; answer = answers.TimedOut 2; missed = None; draw = None }
    ∷ record { actor = (Client 3); session = 3; asked = Call (requests.Do (statements.Update (codes "w") (record { column = codes "id"; value = (Num (pos 7)) } ∷ []) (conditions.Equal (record { column = codes "id"; value = (Num (pos 4)) } ∷ [])))); side = None; answer = answers.Refused 1062 None; missed = None; draw = None }
    ∷ record { actor = (Client 3); session = 3; asked = Call requests.LogEnd; side = None; answer = answers.At 1; missed = None; draw = None }
    ∷ record { actor = (Client 3); session = 3; asked = Call (requests.Do (statements.Insert (codes "u") None ((Num (pos 2)) ∷ []) None)); side = None; answer = answers.Ok 1; missed = None; draw = None }
    ∷ record { actor = (Client 5); session = 5; asked = Call requests.ShowTables; side = None; answer = answers.Tables (record { name = codes "t"; comment = [] } ∷ record { name = codes "u"; comment = [] } ∷ record { name = codes "w"; comment = [] } ∷ []); missed = None; draw = None }
    ∷ record { actor = (Client 3); session = 3; asked = Call (requests.Do (statements.Update (codes "t") (record { column = codes "v"; value = Null } ∷ []) (conditions.Range (record { column = codes "id"; sign = signs.AtMost; value = (Num (pos 5)) } ∷ record { column = codes "id"; sign = signs.AtLeast; value = (Num (pos 3)) } ∷ [])))); side = None; answer = answers.Ok 1; missed = None; draw = None }
    ∷ record { actor = (Client 6); session = 6; asked = Call (requests.Do (statements.Insert (codes "u") None ((Num (pos 4)) ∷ []) None)); side = None; answer = answers.Refused 1062 None; missed = None; draw = None }
    ∷ record { actor = (Client 5); session = 5; asked = Call requests.Begin; side = None; answer = answers.Ok 0; missed = None; draw = None }
    ∷ record { actor = (Client 3); session = 3; asked = Call (requests.Do (statements.Update (codes "t") (record { column = codes "m0"; value = (Num (pos 4)) } ∷ []) (conditions.Equal (record { column = codes "id"; value = (Num (pos 1)) } ∷ [])))); side = None; answer = answers.Ok 0; missed = None; draw = None }
    ∷ record { actor = (Client 4); session = 4; asked = Call (requests.Do (statements.Select (codes "u") shown.All (conditions.Equal (record { column = codes "id"; value = (Num (pos 3)) } ∷ [])))); side = None; answer = answers.Waits 3; missed = None; draw = None }
    ∷ record { actor = (Client 4); session = 4; asked = Poll; side = None; answer = answers.Waits 3; missed = None; draw = None }
    ∷ record { actor = (Client 5); session = 5; asked = Call (requests.CopyRow (codes "w") (codes "t") (record { kind = Int 4 false; nullable = false; origin = from.Old 0 } ∷ record { kind = Int 4 false; nullable = true; origin = from.Old 0 } ∷ record { kind = Int 4 false; nullable = true; origin = from.Old 0 } ∷ []) ((Num (pos 3)) ∷ [])); side = None; answer = answers.Waits 3; missed = None; draw = None }
    ∷ record { actor = (Client 4); session = 4; asked = Poll; side = None; answer = answers.TimedOut 2; missed = None; draw = None }
    ∷ record { actor = (Client 3); session = 3; asked = Call (requests.ReadLog 4 2 (codes "y" ∷ [])); side = None; answer = answers.Events [] 1; missed = None; draw = None }
    ∷ record { actor = (Client 3); session = 3; asked = Call (requests.Ends (codes "t")); side = None; answer = answers.Ends (Some (record { least = ((Num (pos 2)) ∷ []); greatest = ((Num (pos 5)) ∷ []) })); missed = None; draw = None }
    ∷ record { actor = (Client 6); session = 6; asked = Call (requests.Do (statements.Insert (codes "w") (Some (codes "id" ∷ [])) ((Num (pos 2)) ∷ []) None)); side = None; answer = answers.Ok 1; missed = None; draw = None }
    ∷ record { actor = (Client 4); session = 4; asked = Call (requests.Create (record { name = codes "u"; columns = (record { name = codes "id"; kind = Int 8 false; nullable = false; default = None; auto = false } ∷ []); uniques = (record { name = None; places = (0 ∷ []) } ∷ []); indexes = []; comment = []; start = None })); side = None; answer = answers.Waits 3; missed = None; draw = None }
    ∷ []

served_7 : IsServed (record { client_wait = 2; tool_wait = 1 }) tables_7 asked_7
unfolding computing
served_7 = record { answers = refl; sides = refl }

-- Sequence 8
abbrev tables_8 : Database
tables_8 = (record { schema = record { name = codes "t"; columns = (record { name = codes "id"; kind = Int 1 false; nullable = false; default = None; auto = false } ∷ record { name = codes "m0"; kind = Int 4 false; nullable = true; default = (Some (Num (pos 1))); auto = false } ∷ record { name = codes "v"; kind = Int 2 false; nullable = true; default = (Some Null); auto = false } ∷ []); uniques = (record { name = None; places = (0 ∷ []) } ∷ record { name = (Some (codes "u0")); places = (1 ∷ []) } ∷ []); indexes = []; comment = []; start = None }; rows = (((Num (pos 5)) ∷ (Num (pos 7)) ∷ (Num (pos 3)) ∷ []) ∷ []) } ∷ record { schema = record { name = codes "u"; columns = (record { name = codes "v"; kind = Int 4 false; nullable = false; default = None; auto = false } ∷ record { name = codes "id"; kind = Int 8 false; nullable = false; default = None; auto = false } ∷ []); uniques = (record { name = None; places = (1 ∷ []) } ∷ []); indexes = []; comment = []; start = None }; rows = (((Num (pos 4)) ∷ (Num (pos 2)) ∷ []) ∷ ((Num (pos 1)) ∷ (Num (pos 3)) ∷ []) ∷ []) } ∷ record { schema = record { name = codes "w"; columns = (record { name = codes "id"; kind = VarChar 3; nullable = false; default = None; auto = false } ∷ record { name = codes "m0"; kind = Int 4 false; nullable = false; default = (Some (Num (pos 1))); auto = false } ∷ record { name = codes "v"; kind = Int 2 false; nullable = true; default = (Some (Num (pos 5))); auto = false } ∷ []); uniques = (record { name = None; places = (0 ∷ []) } ∷ record { name = (Some (codes "u0")); places = (1 ∷ []) } ∷ []); indexes = []; comment = []; start = None }; rows = [] } ∷ [])

abbrev asked_8 : List Entry
asked_8 =
    record { actor = (Client 1); session = 1; asked = Call (requests.Do (statements.Replace (codes "u") None ((Num (pos 7)) ∷ (Num (pos 2)) ∷ []) None)); side = None; answer = answers.Ok 2; missed = None; draw = None }
    ∷ record { actor = (Client 2); session = 2; asked = Call (requests.Do (statements.Insert (codes "u") (Some (codes "v" ∷ codes "id" ∷ [])) ((Num (pos 1)) ∷ (Num (pos 5)) ∷ []) None)); side = None; answer = answers.Ok 1; missed = None; draw = None }
    ∷ record { actor = (Client 2); session = 2; asked = Call (requests.Ends (codes "t")); side = None; answer = answers.Ends (Some (record { least = ((Num (pos 5)) ∷ []); greatest = ((Num (pos 5)) ∷ []) })); missed = None; draw = None }
    ∷ record { actor = (Client 2); session = 2; asked = Call (requests.Do (statements.Update (codes "t") (record { column = codes "id"; value = (Num (pos 3)) } ∷ record { column = codes "m0"; value = (Num (pos 3)) } ∷ []) (conditions.Equal (record { column = codes "id"; value = (Num (pos 1)) } ∷ [])))); side = None; answer = answers.Ok 0; missed = None; draw = None }
    ∷ record { actor = (Client 1); session = 1; asked = Call (requests.Do (statements.Update (codes "t") (record { column = codes "id"; value = (Num (pos 2)) } ∷ record { column = codes "m0"; value = (Num (pos 1)) } ∷ record { column = codes "v"; value = (Num (pos 5)) } ∷ []) (conditions.Equal (record { column = codes "id"; value = (Num (pos 3)) } ∷ [])))); side = None; answer = answers.Ok 0; missed = None; draw = None }
    ∷ record { actor = Insp; session = 3; asked = Call requests.Begin; side = None; answer = answers.Ok 0; missed = None; draw = None }
    ∷ record { actor = (Client 2); session = 2; asked = Call (requests.BeginSpan (codes "w") (record { low = (Open ((Text (codes "3")) ∷ [])); high = (Closed ((Text (codes "6")) ∷ [])) }) 2); side = None; answer = answers.Keys [] ((Text (codes "6")) ∷ []); missed = None; draw = None }
    ∷ record { actor = (Client 1); session = 1; asked = Call requests.LogEnd; side = None; answer = answers.At 3; missed = None; draw = None }
    ∷ record { actor = Insp; session = 3; asked = Call (requests.CopyRow (codes "t") (codes "t") (record { kind = Int 1 false; nullable = false; origin = from.Old 0 } ∷ record { kind = Int 4 false; nullable = true; origin = from.Old 1 } ∷ record { kind = Int 2 false; nullable = true; origin = from.Old 1 } ∷ []) ((Num (pos 3)) ∷ [])); side = None; answer = answers.Ok 0; missed = None; draw = None }
    ∷ record { actor = (Client 1); session = 1; asked = Call (requests.Do (statements.Insert (codes "t") (Some (codes "id" ∷ codes "m0" ∷ codes "v" ∷ [])) ((Num (pos 3)) ∷ (Num (pos 6)) ∷ (Num (pos 2)) ∷ []) None)); side = None; answer = answers.Ok 1; missed = None; draw = None }
    ∷ record { actor = (Client 2); session = 2; asked = Call requests.ShowTables; side = None; answer = answers.Tables (record { name = codes "t"; comment = [] } ∷ record { name = codes "u"; comment = [] } ∷ record { name = codes "w"; comment = [] } ∷ []); missed = None; draw = None }
    ∷ record { actor = (Client 1); session = 1; asked = Call requests.Begin; side = None; answer = answers.Ok 0; missed = None; draw = None }
    ∷ record { actor = (Client 1); session = 1; asked = Call (requests.Do (statements.Delete (codes "u") (conditions.Equal (record { column = codes "id"; value = (Text (codes "zzzzzzzzz")) } ∷ [])))); side = (Some sides_at.After); answer = answers.Lost; missed = (Some (answers.Refused 1366 (Some 1))); draw = None }
    ∷ record { actor = Insp; session = 4; asked = Call (requests.Do (statements.Select (codes "u") shown.Count (conditions.Equal (record { column = codes "id"; value = (Num (pos 1)) } ∷ [])))); side = None; answer = answers.Rows (((Num (pos 0)) ∷ []) ∷ []); missed = None; draw = None }
    ∷ record { actor = Insp; session = 4; asked = Call (requests.Do (statements.Delete (codes "u") (conditions.Equal (record { column = codes "m0"; value = (Num (pos 3)) } ∷ [])))); side = None; answer = answers.Refused 1054 None; missed = None; draw = None }
    ∷ record { actor = (Client 2); session = 2; asked = Call (requests.CopyRow (codes "w") (codes "t") (record { kind = Int 1 false; nullable = false; origin = from.Old 0 } ∷ record { kind = Int 4 false; nullable = true; origin = from.Old 0 } ∷ record { kind = Int 2 false; nullable = true; origin = from.Old 1 } ∷ []) ((Text (codes "c")) ∷ [])); side = None; answer = answers.Ok 0; missed = None; draw = None }
    ∷ record { actor = Insp; session = 3; asked = Call (requests.Do (statements.Insert (codes "w") (Some (codes "id" ∷ codes "v" ∷ [])) ((Text (codes "e")) ∷ (Num (pos 3)) ∷ []) None)); side = None; answer = answers.Ok 1; missed = None; draw = None }
    ∷ record { actor = Insp; session = 5; asked = Call (requests.Do (statements.Update (codes "w") (record { column = codes "v"; value = (Num (pos 4)) } ∷ []) (conditions.Equal (record { column = codes "id"; value = (Text (codes "7")) } ∷ [])))); side = None; answer = answers.Ok 0; missed = None; draw = None }
    ∷ record { actor = Insp; session = 4; asked = Call (requests.Do (statements.Update (codes "t") (record { column = codes "id"; value = (Num (pos 2)) } ∷ []) (conditions.Equal (record { column = codes "id"; value = (Num (pos 5)) } ∷ [])))); side = None; answer = answers.Ok 1; missed = None; draw = None }
    ∷ record { actor = (Client 2); session = 2; asked = Call (requests.Do (statements.Update (codes "u") (record { column = codes "v"; value = (Num (pos 7)) } ∷ []) conditions.All)); side = None; answer = answers.Ok 2; missed = None; draw = None }
    ∷ record { actor = Insp; session = 3; asked = Call (requests.ReadLog 4 5 (codes "t" ∷ [])); side = None; answer = answers.Events (record { table = codes "t"; change = changes.Update ((Num (pos 5)) ∷ (Num (pos 7)) ∷ (Num (pos 3)) ∷ []) ((Num (pos 2)) ∷ (Num (pos 7)) ∷ (Num (pos 3)) ∷ []) } ∷ []) 5; missed = None; draw = None }
    ∷ record { actor = Insp; session = 4; asked = Call (requests.Do (statements.Replace (codes "t") None ((Num (pos 4)) ∷ (Num (pos 5)) ∷ (Num (pos 3)) ∷ []) None)); side = None; answer = answers.Ok 1; missed = None; draw = None }
    ∷ record { actor = (Client 2); session = 2; asked = Call requests.LogEnd; side = None; answer = answers.At 6; missed = None; draw = None }
    ∷ record { actor = Insp; session = 4; asked = Call requests.LogEnd; side = None; answer = answers.At 6; missed = None; draw = None }
    ∷ record { actor = (Client 2); session = 2; asked = Call requests.LogEnd; side = None; answer = answers.At 6; missed = None; draw = None }
    ∷ record { actor = Insp; session = 4; asked = Call requests.ShowTables; side = None; answer = answers.Tables (record { name = codes "t"; comment = [] } ∷ record { name = codes "u"; comment = [] } ∷ record { name = codes "w"; comment = [] } ∷ []); missed = None; draw = None }
    ∷ record { actor = Insp; session = 4; asked = Call (requests.BeginSpan (codes "w") (record { low = (Open ((Text (codes "4")) ∷ [])); high = (Closed ((Text (codes "7")) ∷ [])) }) 3); side = None; answer = answers.Keys [] ((Text (codes "7")) ∷ []); missed = None; draw = None }
    ∷ record { actor = (Client 2); session = 2; asked = Call (requests.Do (statements.Insert (codes "u") None ((Num (pos 7)) ∷ (Num (pos 1)) ∷ []) None)); side = None; answer = answers.Ok 1; missed = None; draw = None }
    ∷ record { actor = Insp; session = 4; asked = Call (requests.Ends (codes "y")); side = None; answer = answers.Refused 1146 None; missed = None; draw = None }
    ∷ record { actor = Insp; session = 4; asked = Call requests.ShowWaiting; side = None; answer = answers.Waiting []; missed = None; draw = None }
    ∷ record { actor = Insp; session = 3; asked = Call (requests.Create (record { name = codes "w"; columns = (record { name = codes "id"; kind = VarChar 3; nullable = false; default = None; auto = false } ∷ record { name = codes "m0"; kind = Int 4 false; nullable = false; default = (Some (Num (pos 1))); auto = false } ∷ record { name = codes "v"; kind = Int 2 false; nullable = true; default = (Some (Num (pos 5))); auto = false } ∷ []); uniques = (record { name = None; places = (0 ∷ []) } ∷ record { name = (Some (codes "u0")); places = (1 ∷ []) } ∷ []); indexes = []; comment = []; start = None })); side = None; answer = answers.Waits 2; missed = None; draw = None }
    ∷ record { actor = Insp; session = 4; asked = Call (requests.Do (statements.Replace (codes "t") None ((Num (pos 1)) ∷ Null ∷ (Num (pos 3)) ∷ []) None)); side = None; answer = answers.Ok 1; missed = None; draw = None }
    ∷ record { actor = Insp; session = 5; asked = Call (requests.Do (statements.Select (codes "w") shown.All (conditions.Range (record { column = codes "id"; sign = signs.AtLeast; value = (Text (codes "b")) } ∷ record { column = codes "id"; sign = signs.AtMost; value = (Text (codes "a")) } ∷ [])))); side = None; answer = answers.Waits 3; missed = None; draw = None }
    ∷ record { actor = (Client 2); session = 2; asked = Call (requests.ChunkEnd (codes "t") Free ((Num (pos 2)) ∷ []) 1); side = None; answer = answers.End ((Num (pos 2)) ∷ []); missed = None; draw = None }
    ∷ record { actor = Insp; session = 3; asked = Poll; side = None; answer = answers.Waits 2; missed = None; draw = None }
    ∷ record { actor = Insp; session = 4; asked = Call (requests.Do (statements.Select (codes "w") shown.All (conditions.Equal (record { column = codes "id"; value = (Num (pos 2)) } ∷ [])))); side = None; answer = answers.Rows []; missed = None; draw = None }
    ∷ record { actor = Insp; session = 3; asked = Poll; side = None; answer = answers.TimedOut 2; missed = None; draw = None }
    ∷ record { actor = Insp; session = 4; asked = Call (requests.Do (statements.Insert (codes "w") None ((Text (codes "b")) ∷ (Num (pos 2)) ∷ (Num (pos 5)) ∷ []) None)); side = None; answer = answers.Ok 1; missed = None; draw = None }
    ∷ record { actor = Insp; session = 5; asked = Poll; side = None; answer = answers.Rows []; missed = None; draw = None }
    ∷ record { actor = Insp; session = 4; asked = Call (requests.Do (statements.Delete (codes "t") (conditions.Equal (record { column = codes "m0"; value = (Num (pos 4)) } ∷ [])))); side = None; answer = answers.Ok 0; missed = None; draw = None }
    ∷ record { actor = (Client 2); session = 2; asked = Call (requests.Do (statements.Update (codes "t") (record { column = codes "id"; value = (Num (pos 3)) } ∷ record { column = codes "m0"; value = (Num (pos 5)) } ∷ []) (conditions.Range (record { column = codes "id"; sign = signs.AtLeast; value = (Num (pos 1)) } ∷ [])))); side = None; answer = answers.Waits 4; missed = None; draw = None }
    ∷ record { actor = (Client 2); session = 2; asked = Poll; side = None; answer = answers.TimedOut 1; missed = None; draw = None }
    ∷ record { actor = Insp; session = 3; asked = Call requests.Begin; side = None; answer = answers.Ok 0; missed = None; draw = None }
    ∷ record { actor = Insp; session = 3; asked = Call requests.Commit; side = None; answer = answers.Ok 0; missed = None; draw = None }
    ∷ record { actor = (Client 2); session = 2; asked = Call (requests.Do (statements.Insert (codes "u") (Some (codes "v" ∷ codes "id" ∷ [])) ((Num (pos 2)) ∷ (Num (pos 99999999999)) ∷ []) None)); side = None; answer = answers.Ok 1; missed = None; draw = None }
    ∷ []

served_8 : IsServed (record { client_wait = 1; tool_wait = 2 }) tables_8 asked_8
unfolding computing
served_8 = record { answers = refl; sides = refl }

-- Sequence 9
abbrev tables_9 : Database
tables_9 = (record { schema = record { name = codes "t"; columns = (record { name = codes "a"; kind = Int 4 false; nullable = false; default = None; auto = false } ∷ record { name = codes "c"; kind = VarChar 4; nullable = false; default = None; auto = false } ∷ record { name = codes "m0"; kind = Int 4 false; nullable = false; default = (Some (Num (pos 1))); auto = false } ∷ record { name = codes "v"; kind = VarChar 6; nullable = false; default = None; auto = false } ∷ []); uniques = (record { name = None; places = (1 ∷ 0 ∷ []) } ∷ record { name = (Some (codes "u0")); places = (2 ∷ []) } ∷ []); indexes = []; comment = []; start = None }; rows = (((Num (pos 2)) ∷ (Text (codes "6")) ∷ (Num (pos 5)) ∷ (Text (codes "abcdef")) ∷ []) ∷ []) } ∷ record { schema = record { name = codes "u"; columns = (record { name = codes "id"; kind = VarBinary 3; nullable = false; default = None; auto = false } ∷ record { name = codes "m0"; kind = Int 4 false; nullable = true; default = (Some (Num (pos 1))); auto = false } ∷ record { name = codes "v"; kind = VarChar 6; nullable = true; default = (Some Null); auto = false } ∷ []); uniques = (record { name = None; places = (0 ∷ []) } ∷ record { name = (Some (codes "u0")); places = (1 ∷ []) } ∷ []); indexes = (record { name = (Some (codes "v")); places = (2 ∷ []) } ∷ []); comment = []; start = None }; rows = (((Blob (3 ∷ [])) ∷ Null ∷ (Text (codes "g")) ∷ []) ∷ ((Blob (7 ∷ [])) ∷ (Num (pos 1)) ∷ (Text (codes "e")) ∷ []) ∷ ((Blob (97 ∷ [])) ∷ Null ∷ (Text (codes "1")) ∷ []) ∷ ((Blob (99 ∷ [])) ∷ (Num (pos 3)) ∷ (Text (codes "a")) ∷ []) ∷ ((Blob (103 ∷ [])) ∷ (Num (pos 5)) ∷ (Text (codes "f")) ∷ []) ∷ []) } ∷ record { schema = record { name = codes "w"; columns = (record { name = codes "id"; kind = VarBinary 3; nullable = false; default = None; auto = false } ∷ []); uniques = (record { name = None; places = (0 ∷ []) } ∷ []); indexes = []; comment = []; start = None }; rows = (((Blob (2 ∷ [])) ∷ []) ∷ []) } ∷ [])

abbrev asked_9 : List Entry
asked_9 =
    record { actor = Insp; session = 1; asked = Call (requests.BeginSpan (codes "w") (record { low = Free; high = (Closed ((Blob (2 ∷ [])) ∷ [])) }) 1); side = None; answer = answers.Keys (((Blob (2 ∷ [])) ∷ []) ∷ []) ((Blob (2 ∷ [])) ∷ []); missed = None; draw = None }
    ∷ record { actor = Insp; session = 1; asked = Call requests.ShowTables; side = None; answer = answers.Tables (record { name = codes "t"; comment = [] } ∷ record { name = codes "u"; comment = [] } ∷ record { name = codes "w"; comment = [] } ∷ []); missed = None; draw = None }
    ∷ record { actor = (Client 3); session = 3; asked = Call (requests.Do (statements.Update (codes "t") (record { column = codes "c"; value = (Text (codes "f")) } ∷ record { column = codes "m0"; value = (Num (pos 4)) } ∷ record { column = codes "v"; value = (Text (codes "g")) } ∷ []) (conditions.Equal (record { column = codes "c"; value = (Text (codes "f")) } ∷ record { column = codes "a"; value = (Num (pos 1)) } ∷ [])))); side = None; answer = answers.Ok 0; missed = None; draw = None }
    ∷ record { actor = (Client 2); session = 2; asked = Call (requests.ReadLog 5 1 (codes "t" ∷ codes "x" ∷ [])); side = None; answer = answers.Events [] 0; missed = None; draw = None }
    ∷ record { actor = (Client 4); session = 4; asked = Call (requests.Do (statements.Select (codes "t") (shown.Columns (codes "id" ∷ [])) (conditions.Range (record { column = codes "id"; sign = signs.AtMost; value = (Blob (2 ∷ [])) } ∷ record { column = codes "id"; sign = signs.AtMost; value = (Text (codes "e")) } ∷ [])))); side = None; answer = answers.Refused 1054 None; missed = None; draw = None }
    ∷ record { actor = (Client 2); session = 2; asked = Call (requests.Do (statements.Select (codes "t") shown.Count (conditions.Equal (record { column = codes "c"; value = (Num (pos 5)) } ∷ record { column = codes "a"; value = (Num (pos 5)) } ∷ [])))); side = None; answer = answers.Rows (((Num (pos 0)) ∷ []) ∷ []); missed = None; draw = None }
    ∷ record { actor = Insp; session = 1; asked = Call (requests.CopyRow (codes "w") (codes "t") (record { kind = Int 4 false; nullable = false; origin = from.Old 0 } ∷ record { kind = VarChar 4; nullable = false; origin = from.Old 0 } ∷ record { kind = Int 4 false; nullable = false; origin = from.Old 0 } ∷ record { kind = VarChar 6; nullable = false; origin = from.Old 0 } ∷ []) ((Blob (2 ∷ [])) ∷ [])); side = None; answer = answers.Refused 1366 (Some 0); missed = None; draw = None }
    ∷ record { actor = (Client 3); session = 3; asked = Call requests.Begin; side = None; answer = answers.Ok 0; missed = None; draw = None }
    ∷ record { actor = (Client 4); session = 4; asked = Call (requests.Do (statements.Insert (codes "t") (Some (codes "a" ∷ codes "c" ∷ codes "v" ∷ [])) ((Num (pos 7)) ∷ (Text (codes "f")) ∷ (Text (codes "b")) ∷ []) None)); side = None; answer = answers.Ok 1; missed = None; draw = None }
    ∷ record { actor = Insp; session = 1; asked = Call (requests.Do (statements.Insert (codes "u") (Some (codes "id" ∷ codes "v" ∷ [])) ((Text (codes "e")) ∷ (Text (codes "b")) ∷ []) None)); side = None; answer = answers.Refused 1062 None; missed = None; draw = None }
    ∷ record { actor = (Client 4); session = 4; asked = Call requests.Begin; side = None; answer = answers.Ok 0; missed = None; draw = None }
    ∷ record { actor = (Client 3); session = 3; asked = Cut; side = None; answer = answers.Lost; missed = None; draw = None }
    ∷ record { actor = (Client 4); session = 4; asked = Call (requests.Do (statements.Replace (codes "t") None ((Num (pos 1)) ∷ (Text (codes "c")) ∷ (Num (pos 7)) ∷ (Text (codes "abcdef")) ∷ []) None)); side = None; answer = answers.Ok 1; missed = None; draw = None }
    ∷ record { actor = Insp; session = 1; asked = Call (requests.CopyRow (codes "u") (codes "w") (record { kind = VarBinary 3; nullable = false; origin = from.Old 0 } ∷ []) ((Blob (3 ∷ [])) ∷ [])); side = (Some sides_at.After); answer = answers.Lost; missed = (Some (answers.Ok 1)); draw = None }
    ∷ record { actor = (Client 2); session = 2; asked = Call requests.ShowTables; side = None; answer = answers.Tables (record { name = codes "t"; comment = [] } ∷ record { name = codes "u"; comment = [] } ∷ record { name = codes "w"; comment = [] } ∷ []); missed = None; draw = None }
    ∷ record { actor = Insp; session = 5; asked = Call (requests.Ends (codes "t")); side = None; answer = answers.Ends (Some (record { least = ((Text (codes "6")) ∷ (Num (pos 2)) ∷ []); greatest = ((Text (codes "f")) ∷ (Num (pos 7)) ∷ []) })); missed = None; draw = None }
    ∷ record { actor = (Client 2); session = 2; asked = Call (requests.BeginSpan (codes "t") (record { low = Free; high = (Closed ((Text (codes "3")) ∷ (Num (pos 3)) ∷ [])) }) 1); side = None; answer = answers.Keys [] ((Text (codes "3")) ∷ (Num (pos 3)) ∷ []); missed = None; draw = None }
    ∷ record { actor = (Client 4); session = 4; asked = Call (requests.Do (statements.Insert (codes "w") None ((Num (pos 7)) ∷ (Num (pos 1)) ∷ []) None)); side = None; answer = answers.Refused 1136 None; missed = None; draw = None }
    ∷ record { actor = (Client 2); session = 2; asked = Call requests.ShowTables; side = None; answer = answers.Tables (record { name = codes "t"; comment = [] } ∷ record { name = codes "u"; comment = [] } ∷ record { name = codes "w"; comment = [] } ∷ []); missed = None; draw = None }
    ∷ record { actor = (Client 4); session = 4; asked = Call requests.Commit; side = None; answer = answers.Ok 0; missed = None; draw = None }
    ∷ record { actor = (Client 2); session = 2; asked = Call (requests.Do (statements.Replace (codes "t") None ((Num (pos 3)) ∷ (Text (codes "c")) ∷ (Num (pos 7)) ∷ (Text (codes "c")) ∷ []) None)); side = None; answer = answers.Ok 2; missed = None; draw = None }
    ∷ record { actor = Insp; session = 5; asked = Call requests.ShowTables; side = None; answer = answers.Tables (record { name = codes "t"; comment = [] } ∷ record { name = codes "u"; comment = [] } ∷ record { name = codes "w"; comment = [] } ∷ []); missed = None; draw = None }
    ∷ record { actor = (Client 4); session = 4; asked = Call (requests.LockTables (codes "y" ∷ codes "w" ∷ codes "x" ∷ [])); side = None; answer = answers.Refused 1146 None; missed = None; draw = None }
    ∷ record { actor = Insp; session = 5; asked = Call (requests.Do (statements.Update (codes "w") (record { column = codes "id"; value = (Text (codes "a")) } ∷ []) (conditions.Equal (record { column = codes "id"; value = (Text (codes "c")) } ∷ [])))); side = None; answer = answers.Ok 0; missed = None; draw = None }
    ∷ record { actor = (Client 4); session = 4; asked = Call (requests.Drop (codes "u")); side = None; answer = answers.Ok 0; missed = None; draw = None }
    ∷ record { actor = (Client 2); session = 2; asked = Call (requests.Do (statements.Insert (codes "t") (Some (codes "a" ∷ codes "c" ∷ codes "m0" ∷ [])) ((Num (pos 5)) ∷ (Text (codes "f")) ∷ (Num (pos 7)) ∷ []) None)); side = None; answer = answers.Refused 1364 None; missed = None; draw = None }
    ∷ record { actor = Insp; session = 6; asked = Call (requests.Do (statements.Update (codes "t") (record { column = codes "id"; value = (Text (codes "e")) } ∷ []) conditions.All)); side = None; answer = answers.Refused 1054 None; missed = None; draw = None }
    ∷ record { actor = Insp; session = 6; asked = Call (requests.Do (statements.Delete (codes "w") conditions.All)); side = None; answer = answers.Ok 1; missed = None; draw = None }
    ∷ record { actor = (Client 2); session = 2; asked = Call requests.LogEnd; side = None; answer = answers.At 3; missed = None; draw = None }
    ∷ record { actor = Insp; session = 6; asked = Call (requests.Do (statements.Insert (codes "t") (Some (codes "a" ∷ codes "c" ∷ codes "m0" ∷ codes "v" ∷ [])) ((Num (pos 5)) ∷ (Text (codes "f")) ∷ (Num (pos 2)) ∷ (Num (pos 5)) ∷ []) None)); side = (Some sides_at.After); answer = answers.Lost; missed = (Some (answers.Ok 1)); draw = None }
    ∷ record { actor = (Client 4); session = 4; asked = Call (requests.Do (statements.Insert (codes "w") (Some (codes "id" ∷ [])) ((Num (pos 7)) ∷ []) None)); side = None; answer = answers.Ok 1; missed = None; draw = None }
    ∷ record { actor = (Client 2); session = 2; asked = Call (requests.Do (statements.Insert (codes "t") (Some (codes "a" ∷ codes "c" ∷ codes "m0" ∷ codes "v" ∷ [])) ((Num (pos 3)) ∷ (Num (pos 3)) ∷ (Text (codes "7")) ∷ (Text (codes "c")) ∷ []) None)); side = None; answer = answers.Refused 1062 None; missed = None; draw = None }
    ∷ record { actor = (Client 4); session = 4; asked = Call (requests.Do (statements.Update (codes "t") (record { column = codes "a"; value = Null } ∷ record { column = codes "c"; value = (Text (codes "f")) } ∷ []) (conditions.Equal (record { column = codes "a"; value = (Num (pos 2)) } ∷ record { column = codes "c"; value = (Text (codes "d")) } ∷ [])))); side = None; answer = answers.Ok 0; missed = None; draw = None }
    ∷ record { actor = (Client 2); session = 2; asked = Cut; side = None; answer = answers.Lost; missed = None; draw = None }
    ∷ record { actor = (Client 4); session = 4; asked = Cut; side = None; answer = answers.Lost; missed = None; draw = None }
    ∷ record { actor = Insp; session = 5; asked = Call (requests.Rename (record { old = codes "x"; new = codes "w" } ∷ record { old = codes "y"; new = codes "u" } ∷ [])); side = None; answer = answers.Refused 1050 None; missed = None; draw = None }
    ∷ record { actor = Insp; session = 5; asked = Call (requests.Do (statements.Insert (codes "u") None ((Text (codes "2")) ∷ Null ∷ (Text (codes "f")) ∷ []) None)); side = None; answer = answers.Refused 1146 None; missed = None; draw = None }
    ∷ record { actor = Insp; session = 5; asked = Call (requests.Do (statements.Insert (codes "t") (Some (codes "a" ∷ codes "c" ∷ codes "m0" ∷ codes "v" ∷ [])) ((Num (pos 3)) ∷ (Num (pos 7)) ∷ (Num (pos 1)) ∷ (Text (codes "f")) ∷ []) None)); side = None; answer = answers.Refused 1062 None; missed = None; draw = None }
    ∷ record { actor = Insp; session = 5; asked = Call requests.ShowTables; side = None; answer = answers.Tables (record { name = codes "t"; comment = [] } ∷ record { name = codes "w"; comment = [] } ∷ []); missed = None; draw = None }
    ∷ record { actor = Insp; session = 5; asked = Call requests.Begin; side = None; answer = answers.Ok 0; missed = None; draw = None }
    ∷ record { actor = Insp; session = 5; asked = Call (requests.Do (statements.Select (codes "t") (shown.Columns (codes "a" ∷ [])) (conditions.Equal (record { column = codes "c"; value = (Text (codes "e")) } ∷ record { column = codes "a"; value = (Num (pos 4)) } ∷ [])))); side = (Some sides_at.After); answer = answers.Lost; missed = (Some (answers.Rows [])); draw = None }
    ∷ record { actor = (Client 8); session = 8; asked = Call (requests.BeginSpan (codes "w") (record { low = (Open ((Blob (50 ∷ [])) ∷ [])); high = (Closed ((Blob (55 ∷ [])) ∷ [])) }) 2); side = None; answer = answers.Keys (((Blob (55 ∷ [])) ∷ []) ∷ []) ((Blob (55 ∷ [])) ∷ []); missed = None; draw = None }
    ∷ []

served_9 : IsServed (record { client_wait = 2; tool_wait = 4 }) tables_9 asked_9
unfolding computing
served_9 = record { answers = refl; sides = refl }

-- Sequence 10
abbrev tables_10 : Database
tables_10 = (record { schema = record { name = codes "t"; columns = (record { name = codes "id"; kind = Int 4 false; nullable = false; default = None; auto = false } ∷ record { name = codes "v"; kind = VarChar 6; nullable = true; default = (Some Null); auto = false } ∷ []); uniques = (record { name = (Some (codes "k")); places = (0 ∷ []) } ∷ []); indexes = []; comment = []; start = None }; rows = [] } ∷ record { schema = record { name = codes "u"; columns = (record { name = codes "id"; kind = Int 8 false; nullable = false; default = None; auto = false } ∷ record { name = codes "m0"; kind = Int 4 false; nullable = true; default = (Some Null); auto = false } ∷ []); uniques = (record { name = None; places = (0 ∷ []) } ∷ record { name = (Some (codes "u0")); places = (0 ∷ 1 ∷ []) } ∷ []); indexes = []; comment = []; start = None }; rows = (((Num (pos 1)) ∷ (Num (pos 5)) ∷ []) ∷ ((Num (pos 4)) ∷ (Num (pos 1)) ∷ []) ∷ ((Num (pos 5)) ∷ (Num (pos 5)) ∷ []) ∷ ((Num (pos 6)) ∷ (Num (pos 2)) ∷ []) ∷ ((Num (pos 99999999999)) ∷ Null ∷ []) ∷ []) } ∷ record { schema = record { name = codes "w"; columns = (record { name = codes "id"; kind = Int 1 false; nullable = false; default = None; auto = false } ∷ record { name = codes "m0"; kind = Int 4 false; nullable = true; default = (Some Null); auto = false } ∷ []); uniques = (record { name = None; places = (0 ∷ []) } ∷ record { name = (Some (codes "u0")); places = (1 ∷ []) } ∷ []); indexes = []; comment = []; start = None }; rows = (((Num (pos 1)) ∷ Null ∷ []) ∷ ((Num (pos 2)) ∷ (Num (pos 4)) ∷ []) ∷ []) } ∷ [])

abbrev asked_10 : List Entry
asked_10 =
    record { actor = (Client 1); session = 1; asked = Call (requests.Drop (codes "u")); side = None; answer = answers.Ok 0; missed = None; draw = None }
    ∷ record { actor = (Client 2); session = 2; asked = Call (requests.Do (statements.Insert (codes "u") (Some (codes "id" ∷ [])) ((Num (pos 3)) ∷ []) None)); side = (Some sides_at.After); answer = answers.Lost; missed = (Some (answers.Refused 1146 None)); draw = None }
    ∷ record { actor = (Client 3); session = 3; asked = Call (requests.Do (statements.Update (codes "u") (record { column = codes "id"; value = (Num (pos 1)) } ∷ []) (conditions.Equal (record { column = codes "id"; value = (Num (pos 2)) } ∷ [])))); side = None; answer = answers.Refused 1146 None; missed = None; draw = None }
    ∷ record { actor = Insp; session = 4; asked = Call (requests.Do (statements.Update (codes "u") (record { column = codes "id"; value = (Num (pos 3)) } ∷ []) (conditions.Equal (record { column = codes "m0"; value = (Num (pos 5)) } ∷ record { column = codes "id"; value = (Num (pos 5)) } ∷ [])))); side = None; answer = answers.Refused 1146 None; missed = None; draw = None }
    ∷ record { actor = (Client 1); session = 1; asked = Call (requests.ReadLog 1 2 (codes "t" ∷ [])); side = None; answer = answers.Events [] 0; missed = None; draw = None }
    ∷ record { actor = (Client 1); session = 1; asked = Call (requests.BeginSpan (codes "w") (record { low = (Closed ((Num (pos 2)) ∷ [])); high = (Closed ((Num (pos 1)) ∷ [])) }) 2); side = None; answer = answers.Keys [] ((Num (pos 1)) ∷ []); missed = None; draw = None }
    ∷ record { actor = (Client 3); session = 3; asked = Call (requests.Do (statements.Update (codes "u") (record { column = codes "id"; value = (Num (pos 4)) } ∷ []) (conditions.Range (record { column = codes "id"; sign = signs.AtLeast; value = (Num (pos 5)) } ∷ record { column = codes "id"; sign = signs.AtMost; value = (Text (codes "1")) } ∷ [])))); side = None; answer = answers.Refused 1146 None; missed = None; draw = None }
    ∷ record { actor = Insp; session = 4; asked = Call (requests.Rename (record { old = codes "x"; new = codes "w" } ∷ record { old = codes "u"; new = codes "u" } ∷ [])); side = None; answer = answers.Waits 1; missed = None; draw = None }
    ∷ record { actor = (Client 3); session = 3; asked = Call requests.LogEnd; side = None; answer = answers.At 0; missed = None; draw = None }
    ∷ record { actor = (Client 1); session = 1; asked = Call (requests.Do (statements.Replace (codes "u") (Some (codes "id" ∷ codes "v" ∷ [])) ((Num (pos 3)) ∷ (Num (pos 6)) ∷ []) None)); side = None; answer = answers.Waits 4; missed = None; draw = None }
    ∷ record { actor = (Client 5); session = 5; asked = Call (requests.Do (statements.Update (codes "w") (record { column = codes "m0"; value = (Num (pos 5)) } ∷ []) (conditions.Equal (record { column = codes "id"; value = (Num (pos 5)) } ∷ [])))); side = None; answer = answers.Waits 4; missed = None; draw = None }
    ∷ record { actor = Insp; session = 4; asked = Poll; side = None; answer = answers.TimedOut 1; missed = None; draw = None }
    ∷ record { actor = (Client 5); session = 5; asked = Poll; side = None; answer = answers.Ok 0; missed = None; draw = None }
    ∷ record { actor = (Client 5); session = 5; asked = Call requests.ShowTables; side = None; answer = answers.Tables (record { name = codes "t"; comment = [] } ∷ record { name = codes "w"; comment = [] } ∷ []); missed = None; draw = None }
    ∷ record { actor = Insp; session = 4; asked = Call (requests.Drop (codes "w")); side = None; answer = answers.Waits 1; missed = None; draw = None }
    ∷ record { actor = (Client 5); session = 5; asked = Call requests.ShowWaiting; side = None; answer = answers.Waiting (record { session = 4; names = (codes "w" ∷ []); by = 1 } ∷ []); missed = None; draw = None }
    ∷ record { actor = (Client 5); session = 5; asked = Call (requests.Do (statements.Select (codes "t") shown.All (conditions.Range (record { column = codes "id"; sign = signs.Less; value = (Num (pos 3)) } ∷ [])))); side = None; answer = answers.Rows []; missed = None; draw = None }
    ∷ record { actor = (Client 5); session = 5; asked = Call requests.ShowWaiting; side = None; answer = answers.Waiting (record { session = 4; names = (codes "w" ∷ []); by = 1 } ∷ []); missed = None; draw = None }
    ∷ record { actor = Insp; session = 4; asked = Poll; side = None; answer = answers.TimedOut 1; missed = None; draw = None }
    ∷ record { actor = (Client 5); session = 5; asked = Call (requests.LockTables (codes "u" ∷ [])); side = None; answer = answers.Refused 1146 None; missed = None; draw = None }
    ∷ record { actor = Insp; session = 4; asked = Call (requests.Do (statements.Replace (codes "w") None ((Num (pos 6)) ∷ (Num (pos 4)) ∷ []) None)); side = None; answer = answers.Ok 2; missed = None; draw = None }
    ∷ record { actor = (Client 5); session = 5; asked = Call (requests.Do (statements.Select (codes "t") shown.Count (conditions.Equal (record { column = codes "id"; value = (Num (pos 4)) } ∷ [])))); side = (Some sides_at.Before); answer = answers.Lost; missed = None; draw = None }
    ∷ record { actor = (Client 1); session = 1; asked = Poll; side = None; answer = answers.Refused 1146 None; missed = None; draw = None }
    ∷ record { actor = Insp; session = 4; asked = Call (requests.Drop (codes "w")); side = None; answer = answers.Waits 1; missed = None; draw = None }
    ∷ record { actor = (Client 6); session = 6; asked = Call (requests.Do (statements.Delete (codes "t") (conditions.Equal (record { column = codes "id"; value = (Text (codes "5")) } ∷ [])))); side = None; answer = answers.Ok 0; missed = None; draw = None }
    ∷ record { actor = (Client 6); session = 6; asked = Call (requests.Do (statements.Insert (codes "u") None ((Num (pos 3)) ∷ (Num (pos 6)) ∷ []) None)); side = None; answer = answers.Refused 1146 None; missed = None; draw = None }
    ∷ record { actor = (Client 6); session = 6; asked = Call requests.Begin; side = None; answer = answers.Ok 0; missed = None; draw = None }
    ∷ record { actor = Insp; session = 4; asked = Poll; side = None; answer = answers.TimedOut 1; missed = None; draw = None }
    ∷ record { actor = (Client 1); session = 1; asked = Call requests.ShowWaiting; side = None; answer = answers.Waiting []; missed = None; draw = None }
    ∷ record { actor = (Client 1); session = 1; asked = Call (requests.Do (statements.Update (codes "u") (record { column = codes "id"; value = (Num (pos 1)) } ∷ record { column = codes "m0"; value = (Num (pos 2)) } ∷ []) (conditions.Equal (record { column = codes "id"; value = (Num (pos 3)) } ∷ [])))); side = None; answer = answers.Refused 1146 None; missed = None; draw = None }
    ∷ record { actor = (Client 6); session = 6; asked = Call (requests.ChunkEnd (codes "u") (Closed ((Num (pos 1)) ∷ [])) ((Num (pos 1)) ∷ []) 2); side = None; answer = answers.Refused 1146 None; missed = None; draw = None }
    ∷ record { actor = Insp; session = 4; asked = Call (requests.LockTables (codes "x" ∷ codes "y" ∷ [])); side = None; answer = answers.Refused 1146 None; missed = None; draw = None }
    ∷ record { actor = (Client 6); session = 6; asked = Call (requests.Do (statements.Update (codes "u") (record { column = codes "m0"; value = (Num (pos 1)) } ∷ []) (conditions.Equal (record { column = codes "id"; value = (Num (pos 2)) } ∷ [])))); side = None; answer = answers.Refused 1146 None; missed = None; draw = None }
    ∷ record { actor = (Client 6); session = 6; asked = Call (requests.Do (statements.Delete (codes "w") (conditions.Equal (record { column = codes "id"; value = (Num (pos 5)) } ∷ [])))); side = None; answer = answers.Ok 0; missed = None; draw = None }
    ∷ record { actor = Insp; session = 4; asked = Cut; side = None; answer = answers.Lost; missed = None; draw = None }
    ∷ record { actor = (Client 3); session = 3; asked = Call requests.ShowTables; side = None; answer = answers.Tables (record { name = codes "t"; comment = [] } ∷ record { name = codes "w"; comment = [] } ∷ []); missed = None; draw = None }
    ∷ record { actor = (Client 1); session = 1; asked = Call (requests.Do (statements.Update (codes "t") (record { column = codes "v"; value = (Text (codes "f")) } ∷ []) (conditions.Equal (record { column = codes "id"; value = (Num (pos 7)) } ∷ [])))); side = None; answer = answers.Ok 0; missed = None; draw = None }
    ∷ record { actor = (Client 7); session = 7; asked = Call requests.Begin; side = None; answer = answers.Ok 0; missed = None; draw = None }
    ∷ record { actor = (Client 6); session = 6; asked = Call (requests.CopyRow (codes "w") (codes "t") (record { kind = Int 4 false; nullable = false; origin = from.Old 0 } ∷ record { kind = VarChar 6; nullable = true; origin = from.Old 1 } ∷ []) ((Num (pos 3)) ∷ [])); side = None; answer = answers.Ok 0; missed = None; draw = None }
    ∷ record { actor = (Client 7); session = 7; asked = Call (requests.Do (statements.Update (codes "w") (record { column = codes "id"; value = (Num (pos 7)) } ∷ record { column = codes "m0"; value = (Num (pos 7)) } ∷ []) (conditions.Equal (record { column = codes "id"; value = (Num (pos 2)) } ∷ [])))); side = None; answer = answers.Ok 0; missed = None; draw = None }
    ∷ record { actor = (Client 6); session = 6; asked = Call (requests.Do (statements.Select (codes "w") (shown.Columns (codes "id" ∷ [])) (conditions.Equal (record { column = codes "id"; value = (Num (pos 1)) } ∷ [])))); side = None; answer = answers.Rows (((Num (pos 1)) ∷ []) ∷ []); missed = None; draw = None }
    ∷ record { actor = (Client 1); session = 1; asked = Call (requests.CopyRow (codes "t") (codes "w") (record { kind = Int 1 false; nullable = false; origin = from.Added (Num (pos 5)) } ∷ record { kind = Int 4 false; nullable = true; origin = from.Old 1 } ∷ []) ((Num (pos 3)) ∷ [])); side = None; answer = answers.Ok 0; missed = None; draw = None }
    ∷ record { actor = (Client 7); session = 7; asked = Call (requests.Do (statements.Insert (codes "u") (Some (codes "id" ∷ codes "m0" ∷ [])) ((Num (pos 4)) ∷ (Num (pos 7)) ∷ []) None)); side = None; answer = answers.Refused 1146 None; missed = None; draw = None }
    ∷ []

served_10 : IsServed (record { client_wait = 4; tool_wait = 1 }) tables_10 asked_10
unfolding computing
served_10 = record { answers = refl; sides = refl }

-- Sequence 11
abbrev tables_11 : Database
tables_11 = (record { schema = record { name = codes "t"; columns = (record { name = codes "a"; kind = Int 4 false; nullable = false; default = None; auto = false } ∷ record { name = codes "c"; kind = VarChar 4; nullable = false; default = None; auto = false } ∷ record { name = codes "m0"; kind = Int 4 false; nullable = true; default = (Some Null); auto = false } ∷ record { name = codes "m1"; kind = Int 4 false; nullable = true; default = (Some (Num (pos 1))); auto = false } ∷ record { name = codes "v"; kind = VarChar 6; nullable = false; default = None; auto = false } ∷ []); uniques = (record { name = None; places = (1 ∷ 0 ∷ []) } ∷ record { name = (Some (codes "u0")); places = (2 ∷ []) } ∷ record { name = (Some (codes "u1")); places = (3 ∷ []) } ∷ []); indexes = []; comment = []; start = None }; rows = (((Num (pos 1)) ∷ (Text (codes "b")) ∷ Null ∷ (Num (pos 7)) ∷ (Text (codes "4")) ∷ []) ∷ ((Num (pos 1)) ∷ (Text (codes "d")) ∷ (Num (pos 6)) ∷ Null ∷ (Text (codes "7")) ∷ []) ∷ ((Num (pos 5)) ∷ (Text (codes "g")) ∷ Null ∷ (Num (pos 1)) ∷ (Text (codes "1000")) ∷ []) ∷ []) } ∷ record { schema = record { name = codes "u"; columns = (record { name = codes "id"; kind = Int 4 false; nullable = false; default = None; auto = false } ∷ record { name = codes "v"; kind = Int 4 false; nullable = true; default = (Some Null); auto = false } ∷ []); uniques = (record { name = None; places = (0 ∷ []) } ∷ []); indexes = []; comment = []; start = None }; rows = (((Num (pos 1)) ∷ (Num (pos 1)) ∷ []) ∷ ((Num (pos 4)) ∷ (Num (pos 1)) ∷ []) ∷ ((Num (pos 5)) ∷ (Num (pos 2)) ∷ []) ∷ ((Num (pos 6)) ∷ (Num (pos 5)) ∷ []) ∷ ((Num (pos 7)) ∷ (Num (pos 5)) ∷ []) ∷ []) } ∷ record { schema = record { name = codes "w"; columns = (record { name = codes "id"; kind = Int 1 false; nullable = false; default = None; auto = false } ∷ record { name = codes "m0"; kind = Int 4 false; nullable = true; default = (Some Null); auto = false } ∷ []); uniques = (record { name = None; places = (0 ∷ []) } ∷ record { name = (Some (codes "u0")); places = (1 ∷ []) } ∷ []); indexes = []; comment = []; start = None }; rows = (((Num (pos 2)) ∷ Null ∷ []) ∷ []) } ∷ [])

abbrev asked_11 : List Entry
asked_11 =
    record { actor = (Client 1); session = 1; asked = Call requests.Begin; side = None; answer = answers.Ok 0; missed = None; draw = None }
    ∷ record { actor = (Client 1); session = 1; asked = Call (requests.ChunkEnd (codes "w") (Open ((Num (pos 6)) ∷ [])) ((Num (pos 6)) ∷ []) 3); side = None; answer = answers.End ((Num (pos 6)) ∷ []); missed = None; draw = None }
    ∷ record { actor = (Client 1); session = 1; asked = Call requests.Rollback; side = None; answer = answers.Ok 0; missed = None; draw = None }
    ∷ record { actor = (Client 1); session = 1; asked = Call (requests.Create (record { name = codes "w"; columns = (record { name = codes "a"; kind = Int 4 false; nullable = false; default = None; auto = false } ∷ record { name = codes "c"; kind = VarChar 4; nullable = false; default = None; auto = false } ∷ record { name = codes "m0"; kind = Int 4 false; nullable = true; default = (Some Null); auto = false } ∷ record { name = codes "m1"; kind = Int 4 false; nullable = true; default = (Some (Num (pos 1))); auto = false } ∷ record { name = codes "v"; kind = VarChar 6; nullable = false; default = None; auto = false } ∷ []); uniques = (record { name = None; places = (1 ∷ 0 ∷ []) } ∷ record { name = (Some (codes "u0")); places = (2 ∷ []) } ∷ record { name = (Some (codes "u1")); places = (3 ∷ []) } ∷ []); indexes = []; comment = []; start = None })); side = None; answer = answers.Refused 1050 None; missed = None; draw = None }
    ∷ record { actor = (Client 1); session = 1; asked = Cut; side = None; answer = answers.Lost; missed = None; draw = None }
    ∷ record { actor = Insp; session = 2; asked = Call (requests.Do (statements.Delete (codes "t") (conditions.Equal (record { column = codes "c"; value = (Text (codes "c")) } ∷ record { column = codes "a"; value = (Num (pos 1)) } ∷ [])))); side = None; answer = answers.Ok 0; missed = None; draw = None }
    ∷ record { actor = Insp; session = 2; asked = Call (requests.Do (statements.Select (codes "u") (shown.Columns (codes "id" ∷ [])) (conditions.Equal (record { column = codes "id"; value = (Num (pos 1)) } ∷ [])))); side = None; answer = answers.Rows (((Num (pos 1)) ∷ []) ∷ []); missed = None; draw = None }
    ∷ record { actor = (Client 3); session = 3; asked = Call (requests.LockTables (codes "w" ∷ codes "t" ∷ [])); side = None; answer = answers.Ok 0; missed = None; draw = None }
    ∷ record { actor = Insp; session = 2; asked = Call (requests.Do (statements.Delete (codes "w") (conditions.Equal (record { column = codes "a"; value = (Num (pos 3)) } ∷ record { column = codes "c"; value = (Text (codes "a")) } ∷ [])))); side = None; answer = answers.Waits 3; missed = None; draw = None }
    ∷ record { actor = (Client 3); session = 3; asked = Call requests.Unlock; side = None; answer = answers.Ok 0; missed = None; draw = None }
    ∷ record { actor = Insp; session = 4; asked = Call requests.ShowWaiting; side = None; answer = answers.Waiting []; missed = None; draw = None }
    ∷ record { actor = Insp; session = 2; asked = Cut; side = None; answer = answers.Lost; missed = None; draw = None }
    ∷ record { actor = Insp; session = 4; asked = Call (requests.Do (statements.Update (codes "w") (record { column = codes "id"; value = (Num (pos 2)) } ∷ record { column = codes "m0"; value = (Num (pos 6)) } ∷ []) (conditions.Range (record { column = codes "id"; sign = signs.AtLeast; value = (Num (pos 5)) } ∷ [])))); side = None; answer = answers.Ok 0; missed = None; draw = None }
    ∷ record { actor = Insp; session = 4; asked = Cut; side = None; answer = answers.Lost; missed = None; draw = None }
    ∷ record { actor = (Client 5); session = 5; asked = Call (requests.Do (statements.Delete (codes "w") (conditions.Equal (record { column = codes "id"; value = (Num (pos 6)) } ∷ [])))); side = None; answer = answers.Ok 0; missed = None; draw = None }
    ∷ record { actor = (Client 5); session = 5; asked = Call (requests.Do (statements.Delete (codes "w") (conditions.Equal (record { column = codes "id"; value = (Num (pos 5)) } ∷ [])))); side = None; answer = answers.Ok 0; missed = None; draw = None }
    ∷ record { actor = (Client 3); session = 3; asked = Call (requests.Do (statements.Update (codes "w") (record { column = codes "id"; value = (Num (pos 4)) } ∷ []) (conditions.Equal (record { column = codes "id"; value = (Num (pos 6)) } ∷ [])))); side = None; answer = answers.Ok 0; missed = None; draw = None }
    ∷ record { actor = (Client 3); session = 3; asked = Call requests.ShowTables; side = None; answer = answers.Tables (record { name = codes "t"; comment = [] } ∷ record { name = codes "u"; comment = [] } ∷ record { name = codes "w"; comment = [] } ∷ []); missed = None; draw = None }
    ∷ record { actor = Insp; session = 6; asked = Call requests.ShowTables; side = None; answer = answers.Tables (record { name = codes "t"; comment = [] } ∷ record { name = codes "u"; comment = [] } ∷ record { name = codes "w"; comment = [] } ∷ []); missed = None; draw = None }
    ∷ record { actor = (Client 7); session = 7; asked = Call (requests.Do (statements.Insert (codes "t") (Some (codes "a" ∷ codes "c" ∷ codes "m0" ∷ codes "m1" ∷ codes "v" ∷ [])) ((Num (pos 2)) ∷ (Text (codes "b")) ∷ (Num (pos 2)) ∷ (Num (pos 3)) ∷ (Text (codes "g")) ∷ []) None)); side = None; answer = answers.Ok 1; missed = None; draw = None }
    ∷ record { actor = (Client 3); session = 3; asked = Call (requests.Do (statements.Insert (codes "u") None ((Num (pos 2)) ∷ (Num (pos 4)) ∷ []) None)); side = None; answer = answers.Ok 1; missed = None; draw = None }
    ∷ record { actor = (Client 5); session = 5; asked = Call (requests.Do (statements.Delete (codes "w") (conditions.Equal (record { column = codes "m0"; value = (Num (pos 3)) } ∷ [])))); side = None; answer = answers.Ok 0; missed = None; draw = None }
    ∷ record { actor = (Client 3); session = 3; asked = Call (requests.Create (record { name = codes "y"; columns = (record { name = codes "id"; kind = Int 1 false; nullable = false; default = None; auto = false } ∷ record { name = codes "m0"; kind = Int 4 false; nullable = true; default = (Some Null); auto = false } ∷ []); uniques = (record { name = None; places = (0 ∷ []) } ∷ record { name = (Some (codes "u0")); places = (1 ∷ []) } ∷ []); indexes = []; comment = []; start = None })); side = None; answer = answers.Ok 0; missed = None; draw = None }
    ∷ record { actor = (Client 3); session = 3; asked = Call (requests.Drop (codes "w")); side = None; answer = answers.Ok 0; missed = None; draw = None }
    ∷ record { actor = (Client 3); session = 3; asked = Call (requests.LockTables (codes "w" ∷ codes "u" ∷ [])); side = (Some sides_at.Before); answer = answers.Lost; missed = None; draw = None }
    ∷ record { actor = (Client 5); session = 5; asked = Call (requests.Do (statements.Select (codes "u") shown.Count (conditions.Equal (record { column = codes "id"; value = (Num (pos 1)) } ∷ [])))); side = None; answer = answers.Rows (((Num (pos 1)) ∷ []) ∷ []); missed = None; draw = None }
    ∷ record { actor = (Client 8); session = 8; asked = Call requests.ShowWaiting; side = None; answer = answers.Waiting []; missed = None; draw = None }
    ∷ record { actor = (Client 8); session = 8; asked = Call (requests.BeginSpan (codes "u") (record { low = (Closed ((Num (pos 1)) ∷ [])); high = (Closed ((Num (pos 4)) ∷ [])) }) 2); side = None; answer = answers.Keys (((Num (pos 1)) ∷ []) ∷ ((Num (pos 2)) ∷ []) ∷ []) ((Num (pos 2)) ∷ []); missed = None; draw = None }
    ∷ record { actor = (Client 7); session = 7; asked = Call requests.Begin; side = None; answer = answers.Ok 0; missed = None; draw = None }
    ∷ record { actor = (Client 5); session = 5; asked = Call (requests.Rename (record { old = codes "x"; new = codes "t" } ∷ [])); side = None; answer = answers.Refused 1050 None; missed = None; draw = None }
    ∷ record { actor = Insp; session = 6; asked = Call (requests.Do (statements.Replace (codes "w") (Some (codes "id" ∷ codes "m0" ∷ [])) ((Num (pos 6)) ∷ Null ∷ []) None)); side = None; answer = answers.Refused 1146 None; missed = None; draw = None }
    ∷ record { actor = (Client 7); session = 7; asked = Call requests.LogEnd; side = None; answer = answers.At 2; missed = None; draw = None }
    ∷ record { actor = Insp; session = 6; asked = Call (requests.ReadLog 3 1 (codes "x" ∷ codes "w" ∷ [])); side = None; answer = answers.Events [] 2; missed = None; draw = None }
    ∷ record { actor = Insp; session = 6; asked = Call (requests.Do (statements.Update (codes "t") (record { column = codes "v"; value = (Blob (255 ∷ [])) } ∷ []) (conditions.Equal (record { column = codes "a"; value = (Num (pos 5)) } ∷ record { column = codes "c"; value = (Text (codes "g")) } ∷ [])))); side = None; answer = answers.Refused 1366 (Some 4); missed = None; draw = None }
    ∷ record { actor = (Client 7); session = 7; asked = Call (requests.Do (statements.Select (codes "t") shown.All (conditions.Range (record { column = codes "id"; sign = signs.AtMost; value = (Num (pos 2)) } ∷ record { column = codes "id"; sign = signs.Less; value = (Num (pos 5)) } ∷ [])))); side = None; answer = answers.Refused 1054 None; missed = None; draw = None }
    ∷ record { actor = (Client 7); session = 7; asked = Call (requests.Do (statements.Update (codes "t") (record { column = codes "m0"; value = (Num (pos 6)) } ∷ record { column = codes "v"; value = (Num (pos 1)) } ∷ []) (conditions.Equal (record { column = codes "c"; value = (Text (codes "g")) } ∷ record { column = codes "a"; value = (Num (pos 1)) } ∷ [])))); side = None; answer = answers.Ok 0; missed = None; draw = None }
    ∷ record { actor = (Client 8); session = 8; asked = Call requests.Commit; side = None; answer = answers.Ok 0; missed = None; draw = None }
    ∷ record { actor = (Client 8); session = 8; asked = Call (requests.Do (statements.Update (codes "t") (record { column = codes "c"; value = (Text (codes "b")) } ∷ record { column = codes "m1"; value = (Num (pos 5)) } ∷ record { column = codes "v"; value = (Text (codes "d")) } ∷ []) (conditions.Equal (record { column = codes "m0"; value = (Num (pos 6)) } ∷ [])))); side = None; answer = answers.Refused 1062 None; missed = None; draw = None }
    ∷ record { actor = (Client 7); session = 7; asked = Call (requests.ChunkEnd (codes "w") Free ((Num (pos 1)) ∷ []) 3); side = None; answer = answers.Refused 1146 None; missed = None; draw = None }
    ∷ record { actor = Insp; session = 6; asked = Call (requests.Do (statements.Update (codes "t") (record { column = codes "m0"; value = (Num (pos 5)) } ∷ record { column = codes "m1"; value = (Num (pos 5)) } ∷ []) conditions.All)); side = None; answer = answers.Waits 7; missed = None; draw = None }
    ∷ record { actor = (Client 5); session = 5; asked = Call (requests.Do (statements.Delete (codes "w") conditions.All)); side = None; answer = answers.Refused 1146 None; missed = None; draw = None }
    ∷ record { actor = (Client 7); session = 7; asked = Call (requests.Do (statements.Insert (codes "u") None ((Text (codes "7")) ∷ Null ∷ (Num (pos 1)) ∷ []) None)); side = None; answer = answers.Refused 1136 None; missed = None; draw = None }
    ∷ []

served_11 : IsServed (record { client_wait = 2; tool_wait = 4 }) tables_11 asked_11
unfolding computing
served_11 = record { answers = refl; sides = refl }

-- Sequence 12
abbrev tables_12 : Database
tables_12 = (record { schema = record { name = codes "t"; columns = (record { name = codes "a"; kind = Int 4 false; nullable = false; default = None; auto = false } ∷ record { name = codes "c"; kind = VarChar 4; nullable = false; default = None; auto = false } ∷ record { name = codes "m0"; kind = Int 1 false; nullable = true; default = (Some Null); auto = false } ∷ record { name = codes "v"; kind = VarChar 6; nullable = true; default = (Some (Text (codes "5"))); auto = false } ∷ []); uniques = (record { name = None; places = (1 ∷ 0 ∷ []) } ∷ record { name = (Some (codes "u0")); places = (2 ∷ []) } ∷ []); indexes = []; comment = []; start = None }; rows = (((Num (pos 7)) ∷ (Text (codes "6")) ∷ (Num (pos 1)) ∷ Null ∷ []) ∷ ((Num (pos 1)) ∷ (Text (codes "d")) ∷ (Num (pos 7)) ∷ Null ∷ []) ∷ ((Num (pos 4)) ∷ (Text (codes "d")) ∷ (Num (pos 6)) ∷ Null ∷ []) ∷ ((Num (pos 1)) ∷ (Text (codes "e")) ∷ Null ∷ (Text (codes "d")) ∷ []) ∷ ((Num (pos 3)) ∷ (Text (codes "f")) ∷ (Num (pos 3)) ∷ (Text (codes "a")) ∷ []) ∷ []) } ∷ record { schema = record { name = codes "u"; columns = (record { name = codes "id"; kind = Int 4 false; nullable = false; default = None; auto = false } ∷ record { name = codes "v"; kind = Int 4 false; nullable = true; default = (Some Null); auto = false } ∷ []); uniques = (record { name = None; places = (0 ∷ []) } ∷ []); indexes = []; comment = []; start = None }; rows = (((Num (pos 2)) ∷ (Num (pos 5)) ∷ []) ∷ ((Num (pos 4)) ∷ Null ∷ []) ∷ []) } ∷ record { schema = record { name = codes "w"; columns = (record { name = codes "id"; kind = Int 4 false; nullable = false; default = None; auto = false } ∷ record { name = codes "m0"; kind = Int 4 false; nullable = true; default = (Some Null); auto = false } ∷ record { name = codes "m1"; kind = Int 1 false; nullable = false; default = None; auto = false } ∷ []); uniques = (record { name = None; places = (0 ∷ []) } ∷ record { name = (Some (codes "u0")); places = (1 ∷ []) } ∷ record { name = (Some (codes "u1")); places = (2 ∷ []) } ∷ []); indexes = []; comment = []; start = None }; rows = (((Num (pos 7)) ∷ Null ∷ (Num (pos 2)) ∷ []) ∷ []) } ∷ [])

abbrev asked_12 : List Entry
asked_12 =
    record { actor = (Client 1); session = 1; asked = Call requests.LogEnd; side = None; answer = answers.At 0; missed = None; draw = None }
    ∷ record { actor = (Client 1); session = 1; asked = Call (requests.BeginSpan (codes "u") (record { low = (Closed ((Num (pos 1)) ∷ [])); high = (Closed ((Num (pos 1)) ∷ [])) }) 3); side = None; answer = answers.Keys [] ((Num (pos 1)) ∷ []); missed = None; draw = None }
    ∷ record { actor = (Client 1); session = 1; asked = Call (requests.Do (statements.Delete (codes "w") (conditions.Equal (record { column = codes "id"; value = (Num (pos 7)) } ∷ [])))); side = None; answer = answers.Ok 1; missed = None; draw = None }
    ∷ record { actor = (Client 1); session = 1; asked = Call (requests.Do (statements.Update (codes "w") (record { column = codes "m0"; value = (Num (pos 3)) } ∷ []) (conditions.Equal (record { column = codes "id"; value = (Num (pos 3)) } ∷ [])))); side = None; answer = answers.Ok 0; missed = None; draw = None }
    ∷ record { actor = (Client 1); session = 1; asked = Call requests.Rollback; side = None; answer = answers.Ok 0; missed = None; draw = None }
    ∷ record { actor = (Client 2); session = 2; asked = Call requests.ShowTables; side = None; answer = answers.Tables (record { name = codes "t"; comment = [] } ∷ record { name = codes "u"; comment = [] } ∷ record { name = codes "w"; comment = [] } ∷ []); missed = None; draw = None }
    ∷ record { actor = (Client 1); session = 1; asked = Call (requests.Ends (codes "u")); side = None; answer = answers.Ends (Some (record { least = ((Num (pos 2)) ∷ []); greatest = ((Num (pos 4)) ∷ []) })); missed = None; draw = None }
    ∷ record { actor = (Client 2); session = 2; asked = Call (requests.Do (statements.Select (codes "u") (shown.Columns (codes "id" ∷ [])) (conditions.Equal (record { column = codes "id"; value = (Num (pos 2)) } ∷ [])))); side = None; answer = answers.Rows (((Num (pos 2)) ∷ []) ∷ []); missed = None; draw = None }
    ∷ record { actor = (Client 1); session = 1; asked = Call requests.ShowWaiting; side = (Some sides_at.Before); answer = answers.Lost; missed = None; draw = None }
    ∷ record { actor = (Client 2); session = 2; asked = Call (requests.BeginSpan (codes "w") (record { low = (Open ((Num (pos 7)) ∷ [])); high = (Closed ((Num (pos 7)) ∷ [])) }) 3); side = None; answer = answers.Keys [] ((Num (pos 7)) ∷ []); missed = None; draw = None }
    ∷ record { actor = (Client 2); session = 2; asked = Call requests.LogEnd; side = None; answer = answers.At 0; missed = None; draw = None }
    ∷ record { actor = (Client 2); session = 2; asked = Call (requests.Do (statements.Insert (codes "u") (Some (codes "id" ∷ codes "v" ∷ [])) ((Num (pos 2)) ∷ (Num (pos 4)) ∷ []) None)); side = None; answer = answers.Refused 1062 None; missed = None; draw = None }
    ∷ record { actor = (Client 2); session = 2; asked = Call (requests.Do (statements.Update (codes "t") (record { column = codes "v"; value = (Num (pos 4)) } ∷ []) (conditions.Equal (record { column = codes "a"; value = (Num (pos 6)) } ∷ record { column = codes "c"; value = (Text (codes "g")) } ∷ [])))); side = None; answer = answers.Ok 0; missed = None; draw = None }
    ∷ record { actor = Insp; session = 3; asked = Call (requests.Rename (record { old = codes "t"; new = codes "u" } ∷ record { old = codes "y"; new = codes "y" } ∷ [])); side = None; answer = answers.Waits 2; missed = None; draw = None }
    ∷ record { actor = Insp; session = 3; asked = Poll; side = None; answer = answers.Waits 2; missed = None; draw = None }
    ∷ record { actor = (Client 2); session = 2; asked = Call (requests.Do (statements.Select (codes "w") shown.Count (conditions.Equal (record { column = codes "m0"; value = (Num (pos 6)) } ∷ [])))); side = None; answer = answers.Rows (((Num (pos 0)) ∷ []) ∷ []); missed = None; draw = None }
    ∷ record { actor = (Client 2); session = 2; asked = Call requests.Rollback; side = None; answer = answers.Ok 0; missed = None; draw = None }
    ∷ record { actor = Insp; session = 3; asked = Poll; side = None; answer = answers.Refused 1050 None; missed = None; draw = None }
    ∷ record { actor = Insp; session = 3; asked = Call (requests.Do (statements.Replace (codes "w") None ((Num (pos 4)) ∷ (Num (pos 6)) ∷ (Num (pos 7)) ∷ []) None)); side = None; answer = answers.Ok 1; missed = None; draw = None }
    ∷ record { actor = (Client 2); session = 2; asked = Call requests.Begin; side = None; answer = answers.Ok 0; missed = None; draw = None }
    ∷ record { actor = Insp; session = 4; asked = Call requests.LogEnd; side = None; answer = answers.At 1; missed = None; draw = None }
    ∷ record { actor = (Client 2); session = 2; asked = Call (requests.Do (statements.Insert (codes "t") (Some (codes "a" ∷ codes "c" ∷ codes "m0" ∷ codes "v" ∷ [])) ((Num (pos 3)) ∷ (Text (codes "d")) ∷ (Num (pos 2)) ∷ (Num (pos 1)) ∷ []) None)); side = None; answer = answers.Ok 1; missed = None; draw = None }
    ∷ record { actor = Insp; session = 3; asked = Call requests.LogEnd; side = None; answer = answers.At 1; missed = None; draw = None }
    ∷ record { actor = Insp; session = 4; asked = Call (requests.Drop (codes "t")); side = None; answer = answers.Waits 2; missed = None; draw = None }
    ∷ record { actor = Insp; session = 4; asked = Poll; side = None; answer = answers.Waits 2; missed = None; draw = None }
    ∷ record { actor = (Client 2); session = 2; asked = Call requests.LogEnd; side = None; answer = answers.At 1; missed = None; draw = None }
    ∷ record { actor = Insp; session = 4; asked = Poll; side = None; answer = answers.TimedOut 2; missed = None; draw = None }
    ∷ record { actor = Insp; session = 4; asked = Call (requests.LockTables (codes "t" ∷ [])); side = None; answer = answers.Waits 2; missed = None; draw = None }
    ∷ record { actor = Insp; session = 4; asked = Poll; side = None; answer = answers.Waits 2; missed = None; draw = None }
    ∷ record { actor = Insp; session = 4; asked = Poll; side = None; answer = answers.TimedOut 2; missed = None; draw = None }
    ∷ record { actor = Insp; session = 3; asked = Call (requests.Do (statements.Select (codes "u") (shown.Columns (codes "id" ∷ [])) (conditions.Equal (record { column = codes "id"; value = (Num (pos 7)) } ∷ [])))); side = None; answer = answers.Rows []; missed = None; draw = None }
    ∷ record { actor = Insp; session = 3; asked = Call (requests.Rename (record { old = codes "u"; new = codes "y" } ∷ record { old = codes "x"; new = codes "x" } ∷ [])); side = None; answer = answers.Refused 1146 None; missed = None; draw = None }
    ∷ record { actor = Insp; session = 4; asked = Call (requests.Create (record { name = codes "t"; columns = (record { name = codes "a"; kind = Int 4 false; nullable = false; default = None; auto = false } ∷ record { name = codes "c"; kind = VarChar 4; nullable = false; default = None; auto = false } ∷ record { name = codes "m0"; kind = Int 1 false; nullable = true; default = (Some Null); auto = false } ∷ record { name = codes "v"; kind = VarChar 6; nullable = true; default = (Some (Text (codes "5"))); auto = false } ∷ []); uniques = (record { name = None; places = (1 ∷ 0 ∷ []) } ∷ record { name = (Some (codes "u0")); places = (2 ∷ []) } ∷ []); indexes = []; comment = codes "z"; start = None })); side = None; answer = answers.Waits 2; missed = None; draw = None }
    ∷ record { actor = Insp; session = 3; asked = Call (requests.Create (record { name = codes "t"; columns = (record { name = codes "id"; kind = Int 4 false; nullable = false; default = None; auto = false } ∷ record { name = codes "m0"; kind = Int 4 false; nullable = true; default = (Some Null); auto = false } ∷ record { name = codes "m1"; kind = Int 1 false; nullable = false; default = None; auto = false } ∷ []); uniques = (record { name = None; places = (0 ∷ []) } ∷ record { name = (Some (codes "u0")); places = (1 ∷ []) } ∷ record { name = (Some (codes "u1")); places = (2 ∷ []) } ∷ []); indexes = []; comment = codes "z"; start = None })); side = None; answer = answers.Waits 2; missed = None; draw = None }
    ∷ record { actor = Insp; session = 4; asked = Cut; side = None; answer = answers.Lost; missed = None; draw = None }
    ∷ record { actor = Insp; session = 3; asked = Poll; side = None; answer = answers.Waits 2; missed = None; draw = None }
    ∷ record { actor = Insp; session = 3; asked = Poll; side = None; answer = answers.TimedOut 2; missed = None; draw = None }
    ∷ record { actor = Insp; session = 3; asked = Call requests.ShowWaiting; side = None; answer = answers.Waiting []; missed = None; draw = None }
    ∷ record { actor = Insp; session = 3; asked = Call (requests.BeginSpan (codes "t") (record { low = (Open ((Text (codes "6")) ∷ (Num (pos 7)) ∷ [])); high = (Closed ((Text (codes "f")) ∷ (Num (pos 3)) ∷ [])) }) 3); side = None; answer = answers.Waits 2; missed = None; draw = None }
    ∷ record { actor = Insp; session = 3; asked = Poll; side = None; answer = answers.Waits 2; missed = None; draw = None }
    ∷ record { actor = Insp; session = 3; asked = Poll; side = None; answer = answers.TimedOut 2; missed = None; draw = None }
    ∷ record { actor = (Client 2); session = 2; asked = Call (requests.Do (statements.Replace (codes "t") None ((Num (pos 5)) ∷ (Num (pos 99999999999)) ∷ Null ∷ Null ∷ []) None)); side = None; answer = answers.Refused 1406 (Some 1); missed = None; draw = None }
    ∷ record { actor = Insp; session = 3; asked = Call (requests.ChunkEnd (codes "u") Free ((Num (pos 2)) ∷ []) 1); side = None; answer = answers.End ((Num (pos 2)) ∷ []); missed = None; draw = None }
    ∷ record { actor = (Client 2); session = 2; asked = Call (requests.ChunkEnd (codes "u") Free ((Num (pos 4)) ∷ []) 3); side = None; answer = answers.End ((Num (pos 4)) ∷ []); missed = None; draw = None }
    ∷ record { actor = (Client 2); session = 2; asked = Call (requests.Do (statements.Replace (codes "u") None ((Num (pos 5)) ∷ (Num (pos 5)) ∷ (Num (pos 1)) ∷ []) None)); side = None; answer = answers.Refused 1136 None; missed = None; draw = None }
    ∷ record { actor = Insp; session = 3; asked = Call (requests.Rename (record { old = codes "u"; new = codes "x" } ∷ [])); side = None; answer = answers.Waits 2; missed = None; draw = None }
    ∷ []

served_12 : IsServed (record { client_wait = 2; tool_wait = 2 }) tables_12 asked_12
unfolding computing
served_12 = record { answers = refl; sides = refl }

-- Sequence 13
abbrev tables_13 : Database
tables_13 = (record { schema = record { name = codes "t"; columns = (record { name = codes "id"; kind = Int 1 false; nullable = false; default = None; auto = false } ∷ record { name = codes "m0"; kind = Int 4 false; nullable = true; default = (Some Null); auto = false } ∷ record { name = codes "v"; kind = Int 4 false; nullable = false; default = (Some (Num (pos 5))); auto = false } ∷ []); uniques = (record { name = None; places = (0 ∷ []) } ∷ record { name = (Some (codes "u0")); places = (1 ∷ []) } ∷ []); indexes = (record { name = (Some (codes "v")); places = (2 ∷ []) } ∷ []); comment = []; start = None }; rows = (((Num (pos 2)) ∷ (Num (pos 2)) ∷ (Num (pos 6)) ∷ []) ∷ ((Num (pos 3)) ∷ (Num (pos 7)) ∷ (Num (pos 6)) ∷ []) ∷ ((Num (pos 4)) ∷ (Num (pos 5)) ∷ (Num (pos 5)) ∷ []) ∷ ((Num (pos 6)) ∷ (Num (pos 4)) ∷ (Num (pos 2)) ∷ []) ∷ []) } ∷ record { schema = record { name = codes "u"; columns = (record { name = codes "id"; kind = Int 4 false; nullable = false; default = None; auto = false } ∷ []); uniques = (record { name = None; places = (0 ∷ []) } ∷ []); indexes = []; comment = []; start = None }; rows = (((Num (pos 1)) ∷ []) ∷ ((Num (pos 2)) ∷ []) ∷ ((Num (pos 3)) ∷ []) ∷ ((Num (pos 5)) ∷ []) ∷ ((Num (pos 7)) ∷ []) ∷ []) } ∷ record { schema = record { name = codes "w"; columns = (record { name = codes "m0"; kind = Int 4 false; nullable = false; default = None; auto = false } ∷ record { name = codes "id"; kind = Int 8 false; nullable = false; default = None; auto = false } ∷ []); uniques = (record { name = None; places = (1 ∷ []) } ∷ record { name = (Some (codes "u0")); places = (0 ∷ []) } ∷ []); indexes = []; comment = []; start = None }; rows = (((Num (pos 7)) ∷ (Num (pos 3)) ∷ []) ∷ ((Num (pos 5)) ∷ (Num (pos 4)) ∷ []) ∷ []) } ∷ [])

abbrev asked_13 : List Entry
asked_13 =
    record { actor = (Client 1); session = 1; asked = Call (requests.Do (statements.Delete (codes "u") (conditions.Equal (record { column = codes "id"; value = (Num (pos 6)) } ∷ [])))); side = None; answer = answers.Ok 0; missed = None; draw = None }
    ∷ record { actor = (Client 1); session = 1; asked = Call (requests.Do (statements.Delete (codes "t") (conditions.Equal (record { column = codes "id"; value = (Num (pos 3)) } ∷ [])))); side = (Some sides_at.Before); answer = answers.Lost; missed = None; draw = None }
    ∷ record { actor = Insp; session = 2; asked = Call requests.ShowWaiting; side = None; answer = answers.Waiting []; missed = None; draw = None }
    ∷ record { actor = Insp; session = 2; asked = Call requests.Begin; side = None; answer = answers.Ok 0; missed = None; draw = None }
    ∷ record { actor = Insp; session = 2; asked = Call (requests.Do (statements.Delete (codes "w") conditions.All)); side = None; answer = answers.Ok 2; missed = None; draw = None }
    ∷ record { actor = Insp; session = 2; asked = Call (requests.Create (record { name = codes "u"; columns = (record { name = codes "id"; kind = Int 1 false; nullable = false; default = None; auto = false } ∷ record { name = codes "m0"; kind = Int 4 false; nullable = true; default = (Some Null); auto = false } ∷ record { name = codes "v"; kind = Int 4 false; nullable = false; default = (Some (Num (pos 5))); auto = false } ∷ []); uniques = (record { name = None; places = (0 ∷ []) } ∷ record { name = (Some (codes "u0")); places = (1 ∷ []) } ∷ []); indexes = (record { name = (Some (codes "v")); places = (2 ∷ []) } ∷ []); comment = []; start = None })); side = None; answer = answers.Refused 1050 None; missed = None; draw = None }
    ∷ record { actor = Insp; session = 2; asked = Call (requests.Ends (codes "u")); side = None; answer = answers.Ends (Some (record { least = ((Num (pos 1)) ∷ []); greatest = ((Num (pos 7)) ∷ []) })); missed = None; draw = None }
    ∷ record { actor = Insp; session = 2; asked = Call (requests.CopyRow (codes "u") (codes "w") (record { kind = Int 4 false; nullable = false; origin = from.Old 0 } ∷ record { kind = Int 8 false; nullable = false; origin = from.Old 0 } ∷ []) ((Num (pos 5)) ∷ [])); side = None; answer = answers.Ok 1; missed = None; draw = None }
    ∷ record { actor = Insp; session = 2; asked = Call requests.Commit; side = None; answer = answers.Ok 0; missed = None; draw = None }
    ∷ record { actor = Insp; session = 2; asked = Call (requests.Ends (codes "w")); side = None; answer = answers.Ends (Some (record { least = ((Num (pos 5)) ∷ []); greatest = ((Num (pos 5)) ∷ []) })); missed = None; draw = None }
    ∷ record { actor = Insp; session = 2; asked = Call (requests.Do (statements.Delete (codes "t") (conditions.Equal (record { column = codes "id"; value = (Num (pos 1)) } ∷ [])))); side = None; answer = answers.Ok 0; missed = None; draw = None }
    ∷ record { actor = Insp; session = 2; asked = Call requests.Begin; side = None; answer = answers.Ok 0; missed = None; draw = None }
    ∷ record { actor = Insp; session = 2; asked = Call (requests.Do (statements.Update (codes "w") (record { column = codes "m0"; value = (Text (codes "4")) } ∷ []) (conditions.Range (record { column = codes "id"; sign = signs.AtLeast; value = (Num (pos 2)) } ∷ record { column = codes "id"; sign = signs.AtMost; value = (Num (pos 4)) } ∷ [])))); side = None; answer = answers.Ok 0; missed = None; draw = None }
    ∷ record { actor = Insp; session = 2; asked = Call (requests.CopyRow (codes "w") (codes "u") (record { kind = Int 4 false; nullable = false; origin = from.Old 0 } ∷ []) ((Num (pos 5)) ∷ [])); side = None; answer = answers.Ok 0; missed = None; draw = None }
    ∷ record { actor = Insp; session = 2; asked = Call (requests.Ends (codes "w")); side = None; answer = answers.Ends (Some (record { least = ((Num (pos 5)) ∷ []); greatest = ((Num (pos 5)) ∷ []) })); missed = None; draw = None }
    ∷ record { actor = Insp; session = 2; asked = Cut; side = None; answer = answers.Lost; missed = None; draw = None }
    ∷ record { actor = (Client 3); session = 3; asked = Call requests.Begin; side = None; answer = answers.Ok 0; missed = None; draw = None }
    ∷ record { actor = (Client 3); session = 3; asked = Call (requests.Do (statements.Delete (codes "t") (conditions.Range (record { column = codes "id"; sign = signs.AtLeast; value = (Num (pos 5)) } ∷ record { column = codes "id"; sign = signs.Less; value = (Num (pos 5)) } ∷ [])))); side = None; answer = answers.Ok 0; missed = None; draw = None }
    ∷ record { actor = (Client 3); session = 3; asked = Call (requests.CopyRow (codes "u") (codes "u") (record { kind = Int 4 false; nullable = false; origin = from.Old 0 } ∷ []) ((Num (pos 3)) ∷ [])); side = None; answer = answers.Ok 0; missed = None; draw = None }
    ∷ record { actor = (Client 3); session = 3; asked = Call (requests.Do (statements.Insert (codes "w") None ((Num (pos 6)) ∷ (Num (pos 3)) ∷ []) None)); side = None; answer = answers.Ok 1; missed = None; draw = None }
    ∷ record { actor = (Client 3); session = 3; asked = Call requests.ShowTables; side = None; answer = answers.Tables (record { name = codes "t"; comment = [] } ∷ record { name = codes "u"; comment = [] } ∷ record { name = codes "w"; comment = [] } ∷ []); missed = None; draw = None }
    ∷ record { actor = (Client 3); session = 3; asked = Call (requests.Do (statements.Replace (codes "t") (Some (codes "id" ∷ codes "m0" ∷ codes "v" ∷ [])) ((Num (pos 2)) ∷ (Num (pos 1)) ∷ (Num (pos 7)) ∷ []) None)); side = None; answer = answers.Ok 2; missed = None; draw = None }
    ∷ record { actor = (Client 3); session = 3; asked = Call (requests.Do (statements.Delete (codes "u") (conditions.Equal (record { column = codes "id"; value = (Num (pos 3)) } ∷ [])))); side = (Some sides_at.After); answer = answers.Lost; missed = (Some (answers.Ok 1)); draw = None }
    ∷ record { actor = Insp; session = 4; asked = Call (requests.Do (statements.Select (codes "w") shown.All (conditions.Range (record { column = codes "id"; sign = signs.More; value = (Num (pos 4)) } ∷ [])))); side = None; answer = answers.Rows (((Num (pos 5)) ∷ (Num (pos 5)) ∷ []) ∷ []); missed = None; draw = None }
    ∷ record { actor = Insp; session = 4; asked = Call requests.LogEnd; side = None; answer = answers.At 3; missed = None; draw = None }
    ∷ record { actor = Insp; session = 4; asked = Call (requests.Do (statements.Select (codes "w") (shown.Columns (codes "m0" ∷ [])) (conditions.Equal (record { column = codes "id"; value = (Num (pos 3)) } ∷ [])))); side = (Some sides_at.After); answer = answers.Lost; missed = (Some (answers.Rows [])); draw = None }
    ∷ record { actor = Insp; session = 5; asked = Call requests.Begin; side = None; answer = answers.Ok 0; missed = None; draw = None }
    ∷ record { actor = Insp; session = 5; asked = Call (requests.ChunkEnd (codes "w") Free ((Num (pos 1)) ∷ []) 3); side = None; answer = answers.End ((Num (pos 1)) ∷ []); missed = None; draw = None }
    ∷ record { actor = Insp; session = 5; asked = Call requests.ShowWaiting; side = None; answer = answers.Waiting []; missed = None; draw = None }
    ∷ record { actor = Insp; session = 5; asked = Call (requests.Do (statements.Delete (codes "u") (conditions.Equal (record { column = codes "id"; value = (Num (pos 5)) } ∷ [])))); side = None; answer = answers.Ok 1; missed = None; draw = None }
    ∷ record { actor = Insp; session = 5; asked = Call (requests.Do (statements.Delete (codes "t") (conditions.Range (record { column = codes "id"; sign = signs.AtLeast; value = (Num (pos 7)) } ∷ record { column = codes "id"; sign = signs.AtLeast; value = (Num (pos 2)) } ∷ [])))); side = None; answer = answers.Ok 0; missed = None; draw = None }
    ∷ record { actor = Insp; session = 5; asked = Call (requests.Do (statements.Update (codes "u") (record { column = codes "id"; value = (Num (pos 7)) } ∷ []) (conditions.Equal (record { column = codes "id"; value = (Num (pos 1)) } ∷ [])))); side = None; answer = answers.Refused 1062 None; missed = None; draw = None }
    ∷ record { actor = Insp; session = 5; asked = Call (requests.Do (statements.Replace (codes "u") (Some (codes "id" ∷ [])) ((Num (pos 1)) ∷ []) None)); side = None; answer = answers.Ok 2; missed = None; draw = None }
    ∷ record { actor = Insp; session = 5; asked = Call (requests.Do (statements.Select (codes "u") (shown.Columns (codes "id" ∷ [])) (conditions.Equal (record { column = codes "id"; value = (Num (pos 7)) } ∷ [])))); side = None; answer = answers.Rows (((Num (pos 7)) ∷ []) ∷ []); missed = None; draw = None }
    ∷ record { actor = Insp; session = 5; asked = Cut; side = None; answer = answers.Lost; missed = None; draw = None }
    ∷ record { actor = Insp; session = 6; asked = Call (requests.LockTables (codes "u" ∷ [])); side = None; answer = answers.Ok 0; missed = None; draw = None }
    ∷ record { actor = Insp; session = 6; asked = Call (requests.Rename (record { old = codes "x"; new = codes "t" } ∷ [])); side = None; answer = answers.Refused 1100 None; missed = None; draw = None }
    ∷ record { actor = Insp; session = 6; asked = Call (requests.Rename (record { old = codes "u"; new = codes "y" } ∷ record { old = codes "t"; new = codes "y" } ∷ [])); side = None; answer = answers.Refused 1100 None; missed = None; draw = None }
    ∷ record { actor = (Client 7); session = 7; asked = Call (requests.Rename (record { old = codes "u"; new = codes "x" } ∷ record { old = codes "w"; new = codes "u" } ∷ [])); side = None; answer = answers.Waits 6; missed = None; draw = None }
    ∷ record { actor = Insp; session = 6; asked = Call requests.Unlock; side = None; answer = answers.Ok 0; missed = None; draw = None }
    ∷ record { actor = Insp; session = 6; asked = Call (requests.Do (statements.Update (codes "t") (record { column = codes "id"; value = (Num (pos 4)) } ∷ record { column = codes "m0"; value = Null } ∷ []) (conditions.Equal (record { column = codes "id"; value = (Num (pos 7)) } ∷ [])))); side = None; answer = answers.Ok 0; missed = None; draw = None }
    ∷ record { actor = (Client 7); session = 7; asked = Poll; side = None; answer = answers.Ok 0; missed = None; draw = None }
    ∷ []

served_13 : IsServed (record { client_wait = 2; tool_wait = 2 }) tables_13 asked_13
unfolding computing
served_13 = record { answers = refl; sides = refl }
