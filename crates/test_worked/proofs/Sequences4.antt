-- Random sequences of requests to the server; the answers are those of an independent model.
use Rattle.std.proofs.Common.{pos, true, false, List, [], ◌∷◌, Some, None, refl}
use Rattle.std.specs.Prelude.{codes}
use Rattle.base_values.specs.declared.value.Value.TheVariants.{Null, Num, Text, Blob}
use Rattle.base_values.specs.declared.kind.Kind.TheVariants.{Int, VarChar, VarBinary}
use Rattle.base_values.specs.declared.span.Bound.TheVariants.{Free, Open, Closed}
use Rattle.base_values.specs.declared.row_conversion.map.Origin.TheVariants as from
use Rattle.base_script.specs.declared.actor.Actor.TheVariants.{Insp, Client}
use Rattle.base_script.specs.declared.actor.Side.TheVariants as sides_at
use Rattle.base_script.specs.declared.statement.Statement.TheVariants as statements
use Rattle.base_script.specs.declared.statement.Condition.TheVariants as conditions
use Rattle.base_script.specs.declared.statement.Shown.TheVariants as shown
use Rattle.base_script.specs.declared.statement.Sign.TheVariants as signs
use Rattle.table_store.specs.Databases.{Database}
use Rattle.server_model.specs.declared.request.Request.TheVariants as requests
use Rattle.server_model.specs.declared.answer.Answer.TheVariants as answers
use Rattle.server_model.specs.declared.entry.Entry.{Entry}
use Rattle.server_model.specs.declared.entry.Asked.TheVariants.{Call, Poll, Cut}
use Rattle.test_worked.proofs.Computing.{computing, IsServed}

-- Sequence 14
abbrev tables_14 : Database
tables_14 = (record { schema = record { name = codes "t"; columns = (record { name = codes "id"; kind = Int 4 false; nullable = false; default = None; auto = false } ∷ record { name = codes "m0"; kind = VarChar 3; nullable = true; default = (Some (Text (codes "1"))); auto = false } ∷ []); uniques = (record { name = None; places = (0 ∷ []) } ∷ record { name = (Some (codes "u0")); places = (1 ∷ []) } ∷ []); indexes = []; comment = []; start = None }; rows = (((Num (pos 5)) ∷ (Text (codes "a")) ∷ []) ∷ []) } ∷ record { schema = record { name = codes "u"; columns = (record { name = codes "v"; kind = VarChar 6; nullable = true; default = (Some (Text (codes "5"))); auto = false } ∷ record { name = codes "id"; kind = Int 4 false; nullable = false; default = None; auto = false } ∷ record { name = codes "m0"; kind = VarChar 3; nullable = false; default = None; auto = false } ∷ []); uniques = (record { name = None; places = (1 ∷ []) } ∷ record { name = (Some (codes "u0")); places = (2 ∷ []) } ∷ []); indexes = []; comment = []; start = None }; rows = [] } ∷ record { schema = record { name = codes "w"; columns = (record { name = codes "id"; kind = Int 8 false; nullable = false; default = None; auto = false } ∷ record { name = codes "m0"; kind = Int 1 false; nullable = false; default = (Some (Num (pos 1))); auto = false } ∷ record { name = codes "v"; kind = VarChar 6; nullable = true; default = (Some (Text (codes "5"))); auto = false } ∷ []); uniques = (record { name = None; places = (0 ∷ []) } ∷ record { name = (Some (codes "u0")); places = (1 ∷ []) } ∷ []); indexes = (record { name = (Some (codes "v")); places = (2 ∷ []) } ∷ []); comment = []; start = None }; rows = (((Num (pos 1)) ∷ (Num (pos 6)) ∷ Null ∷ []) ∷ ((Num (pos 5)) ∷ (Num (pos 2)) ∷ (Text (codes "4")) ∷ []) ∷ ((Num (pos 6)) ∷ (Num (pos 3)) ∷ (Text (codes "d")) ∷ []) ∷ []) } ∷ [])

abbrev asked_14 : List Entry
asked_14 =
    record { actor = (Client 1); session = 1; asked = Call (requests.Ends (codes "t")); side = None; answer = answers.Ends (Some (record { least = ((Num (pos 5)) ∷ []); greatest = ((Num (pos 5)) ∷ []) })); missed = None; draw = None }
    ∷ record { actor = (Client 1); session = 1; asked = Call requests.ShowTables; side = None; answer = answers.Tables (record { name = codes "t"; comment = [] } ∷ record { name = codes "u"; comment = [] } ∷ record { name = codes "w"; comment = [] } ∷ []); missed = None; draw = None }
    ∷ record { actor = (Client 1); session = 1; asked = Call (requests.Ends (codes "w")); side = None; answer = answers.Ends (Some (record { least = ((Num (pos 1)) ∷ []); greatest = ((Num (pos 6)) ∷ []) })); missed = None; draw = None }
    ∷ record { actor = (Client 1); session = 1; asked = Call (requests.Ends (codes "w")); side = None; answer = answers.Ends (Some (record { least = ((Num (pos 1)) ∷ []); greatest = ((Num (pos 6)) ∷ []) })); missed = None; draw = None }
    ∷ record { actor = (Client 2); session = 2; asked = Call (requests.Create (record { name = codes "t"; columns = (record { name = codes "id"; kind = Int 8 false; nullable = false; default = None; auto = false } ∷ record { name = codes "m0"; kind = Int 1 false; nullable = false; default = (Some (Num (pos 1))); auto = false } ∷ record { name = codes "v"; kind = VarChar 6; nullable = true; default = (Some (Text (codes "5"))); auto = false } ∷ []); uniques = (record { name = None; places = (0 ∷ []) } ∷ record { name = (Some (codes "u0")); places = (1 ∷ []) } ∷ []); indexes = (record { name = (Some (codes "v")); places = (2 ∷ []) } ∷ []); comment = []; start = None })); side = None; answer = answers.Refused 1050 None; missed = None; draw = None }
    ∷ record { actor = Insp; session = 3; asked = Call (requests.Do (statements.Delete (codes "w") (conditions.Equal (record { column = codes "id"; value = (Num (pos 3)) } ∷ [])))); side = None; answer = answers.Ok 0; missed = None; draw = None }
    ∷ record { actor = Insp; session = 3; asked = Call (requests.ChunkEnd (codes "t") Free ((Num (pos 5)) ∷ []) 1); side = None; answer = answers.End ((Num (pos 5)) ∷ []); missed = None; draw = None }
    ∷ record { actor = Insp; session = 3; asked = Call (requests.Drop (codes "u")); side = None; answer = answers.Ok 0; missed = None; draw = None }
    ∷ record { actor = (Client 2); session = 2; asked = Call (requests.Create (record { name = codes "w"; columns = (record { name = codes "id"; kind = Int 4 false; nullable = false; default = None; auto = false } ∷ record { name = codes "m0"; kind = VarChar 3; nullable = true; default = (Some (Text (codes "1"))); auto = false } ∷ []); uniques = (record { name = None; places = (0 ∷ []) } ∷ record { name = (Some (codes "u0")); places = (1 ∷ []) } ∷ []); indexes = []; comment = codes "z"; start = None })); side = None; answer = answers.Refused 1050 None; missed = None; draw = None }
    ∷ record { actor = (Client 1); session = 1; asked = Call (requests.BeginSpan (codes "t") (record { low = (Open ((Num (pos 5)) ∷ [])); high = (Closed ((Num (pos 5)) ∷ [])) }) 2); side = None; answer = answers.Keys [] ((Num (pos 5)) ∷ []); missed = None; draw = None }
    ∷ record { actor = Insp; session = 3; asked = Call (requests.Ends (codes "w")); side = None; answer = answers.Ends (Some (record { least = ((Num (pos 1)) ∷ []); greatest = ((Num (pos 6)) ∷ []) })); missed = None; draw = None }
    ∷ record { actor = (Client 2); session = 2; asked = Call requests.Begin; side = (Some sides_at.Before); answer = answers.Lost; missed = None; draw = None }
    ∷ record { actor = (Client 1); session = 1; asked = Call (requests.Do (statements.Select (codes "w") (shown.Columns (codes "id" ∷ [])) (conditions.Equal (record { column = codes "id"; value = (Num (pos 1)) } ∷ [])))); side = None; answer = answers.Rows (((Num (pos 1)) ∷ []) ∷ []); missed = None; draw = None }
    ∷ record { actor = Insp; session = 3; asked = Call (requests.Do (statements.Insert (codes "t") None ((Num (pos 7)) ∷ (Num (pos 2)) ∷ []) None)); side = None; answer = answers.Ok 1; missed = None; draw = None }
    ∷ record { actor = (Client 4); session = 4; asked = Call (requests.Do (statements.Update (codes "u") (record { column = codes "v"; value = (Num (pos 5)) } ∷ record { column = codes "id"; value = (Num (pos 2)) } ∷ []) (conditions.Equal (record { column = codes "id"; value = (Num (pos 4)) } ∷ [])))); side = None; answer = answers.Refused 1146 None; missed = None; draw = None }
    ∷ record { actor = Insp; session = 3; asked = Call (requests.BeginSpan (codes "t") (record { low = Free; high = (Closed ((Num (pos 5)) ∷ [])) }) 3); side = (Some sides_at.After); answer = answers.Lost; missed = (Some (answers.Keys (((Num (pos 5)) ∷ []) ∷ []) ((Num (pos 5)) ∷ []))); draw = None }
    ∷ record { actor = (Client 1); session = 1; asked = Call requests.ShowWaiting; side = None; answer = answers.Waiting []; missed = None; draw = None }
    ∷ record { actor = (Client 4); session = 4; asked = Call (requests.Drop (codes "w")); side = None; answer = answers.Waits 1; missed = None; draw = None }
    ∷ record { actor = Insp; session = 6; asked = Call (requests.Do (statements.Delete (codes "w") (conditions.Equal (record { column = codes "id"; value = (Num (pos 4)) } ∷ [])))); side = (Some sides_at.Before); answer = answers.Lost; missed = None; draw = None }
    ∷ record { actor = (Client 1); session = 1; asked = Call (requests.Do (statements.Replace (codes "t") None ((Num (pos 1)) ∷ Null ∷ []) None)); side = None; answer = answers.Ok 1; missed = None; draw = None }
    ∷ record { actor = (Client 4); session = 4; asked = Poll; side = None; answer = answers.TimedOut 1; missed = None; draw = None }
    ∷ record { actor = (Client 5); session = 5; asked = Call requests.Begin; side = None; answer = answers.Ok 0; missed = None; draw = None }
    ∷ record { actor = (Client 4); session = 4; asked = Call requests.LogEnd; side = None; answer = answers.At 1; missed = None; draw = None }
    ∷ record { actor = (Client 5); session = 5; asked = Call (requests.Do (statements.Update (codes "u") (record { column = codes "v"; value = (Text (codes "d")) } ∷ record { column = codes "m0"; value = (Text (codes "f")) } ∷ []) conditions.All)); side = None; answer = answers.Refused 1146 None; missed = None; draw = None }
    ∷ record { actor = (Client 4); session = 4; asked = Call (requests.ChunkEnd (codes "u") (Closed ((Num (pos 1)) ∷ [])) ((Num (pos 1)) ∷ []) 1); side = None; answer = answers.Refused 1146 None; missed = None; draw = None }
    ∷ record { actor = (Client 1); session = 1; asked = Call (requests.Create (record { name = codes "u"; columns = (record { name = codes "id"; kind = Int 8 false; nullable = false; default = None; auto = false } ∷ record { name = codes "m0"; kind = Int 1 false; nullable = false; default = (Some (Num (pos 1))); auto = false } ∷ record { name = codes "v"; kind = VarChar 6; nullable = true; default = (Some (Text (codes "5"))); auto = false } ∷ []); uniques = (record { name = None; places = (0 ∷ []) } ∷ record { name = (Some (codes "u0")); places = (1 ∷ []) } ∷ []); indexes = (record { name = (Some (codes "v")); places = (2 ∷ []) } ∷ []); comment = []; start = None })); side = None; answer = answers.Waits 5; missed = None; draw = None }
    ∷ record { actor = (Client 5); session = 5; asked = Call (requests.Ends (codes "w")); side = None; answer = answers.Ends (Some (record { least = ((Num (pos 1)) ∷ []); greatest = ((Num (pos 6)) ∷ []) })); missed = None; draw = None }
    ∷ record { actor = (Client 1); session = 1; asked = Poll; side = None; answer = answers.TimedOut 1; missed = None; draw = None }
    ∷ record { actor = (Client 4); session = 4; asked = Call (requests.Do (statements.Replace (codes "t") None ((Num (pos 7)) ∷ (Num (pos 5)) ∷ []) None)); side = None; answer = answers.Ok 2; missed = None; draw = None }
    ∷ record { actor = Insp; session = 7; asked = Call (requests.ReadLog 2 5 (codes "u" ∷ codes "x" ∷ [])); side = None; answer = answers.Events [] 3; missed = None; draw = None }
    ∷ record { actor = (Client 1); session = 1; asked = Call (requests.Do (statements.Update (codes "w") (record { column = codes "id"; value = (Num (pos 6)) } ∷ record { column = codes "m0"; value = (Num (pos 7)) } ∷ record { column = codes "v"; value = (Num (pos 6)) } ∷ []) (conditions.Equal (record { column = codes "id"; value = (Num (pos 4)) } ∷ [])))); side = None; answer = answers.Ok 0; missed = None; draw = None }
    ∷ record { actor = Insp; session = 7; asked = Call requests.ShowWaiting; side = None; answer = answers.Waiting []; missed = None; draw = None }
    ∷ record { actor = Insp; session = 7; asked = Call (requests.Drop (codes "w")); side = None; answer = answers.Ok 0; missed = None; draw = None }
    ∷ record { actor = (Client 1); session = 1; asked = Call (requests.Do (statements.Update (codes "t") (record { column = codes "id"; value = (Text (codes "1")) } ∷ []) (conditions.Range (record { column = codes "id"; sign = signs.AtMost; value = (Num (pos 1)) } ∷ [])))); side = None; answer = answers.Ok 0; missed = None; draw = None }
    ∷ record { actor = Insp; session = 7; asked = Call requests.Begin; side = None; answer = answers.Ok 0; missed = None; draw = None }
    ∷ record { actor = (Client 5); session = 5; asked = Call requests.ShowWaiting; side = None; answer = answers.Waiting []; missed = None; draw = None }
    ∷ record { actor = (Client 1); session = 1; asked = Call (requests.Do (statements.Insert (codes "w") None ((Num (pos 4)) ∷ (Num (pos 3)) ∷ Null ∷ []) None)); side = None; answer = answers.Refused 1146 None; missed = None; draw = None }
    ∷ record { actor = (Client 1); session = 1; asked = Call (requests.Drop (codes "w")); side = None; answer = answers.Refused 1051 None; missed = None; draw = None }
    ∷ record { actor = (Client 5); session = 5; asked = Call (requests.CopyRow (codes "t") (codes "t") (record { kind = Int 4 false; nullable = false; origin = from.Old 1 } ∷ record { kind = VarChar 3; nullable = true; origin = from.Old 1 } ∷ []) ((Num (pos 7)) ∷ [])); side = None; answer = answers.Ok 0; missed = None; draw = None }
    ∷ record { actor = (Client 1); session = 1; asked = Call (requests.Rename (record { old = codes "w"; new = codes "w" } ∷ record { old = codes "w"; new = codes "u" } ∷ record { old = codes "u"; new = codes "t" } ∷ [])); side = None; answer = answers.Waits 5; missed = None; draw = None }
    ∷ record { actor = (Client 4); session = 4; asked = Call (requests.Do (statements.Select (codes "t") shown.Count (conditions.Equal (record { column = codes "id"; value = (Num (pos 4)) } ∷ [])))); side = None; answer = answers.Waits 1; missed = None; draw = None }
    ∷ record { actor = (Client 5); session = 5; asked = Call (requests.CopyRow (codes "t") (codes "t") (record { kind = Int 4 false; nullable = false; origin = from.Old 0 } ∷ record { kind = VarChar 3; nullable = true; origin = from.Old 1 } ∷ []) ((Num (pos 7)) ∷ [])); side = None; answer = answers.Ok 0; missed = None; draw = None }
    ∷ record { actor = (Client 1); session = 1; asked = Cut; side = None; answer = answers.Lost; missed = None; draw = None }
    ∷ []

served_14 : IsServed (record { client_wait = 1; tool_wait = 4 }) tables_14 asked_14
unfolding computing
served_14 = record { answers = refl; sides = refl }

-- Sequence 28
abbrev tables_28 : Database
tables_28 = (record { schema = record { name = codes "t"; columns = (record { name = codes "id"; kind = Int 4 false; nullable = false; default = None; auto = false } ∷ record { name = codes "m0"; kind = Int 4 false; nullable = true; default = (Some Null); auto = false } ∷ record { name = codes "m1"; kind = Int 4 false; nullable = true; default = (Some Null); auto = false } ∷ record { name = codes "v"; kind = Int 4 false; nullable = true; default = (Some (Num (pos 5))); auto = false } ∷ []); uniques = (record { name = None; places = (0 ∷ []) } ∷ record { name = (Some (codes "u0")); places = (1 ∷ []) } ∷ record { name = (Some (codes "u1")); places = (1 ∷ 2 ∷ []) } ∷ []); indexes = []; comment = []; start = None }; rows = (((Num (pos 2)) ∷ (Num (pos 5)) ∷ Null ∷ (Num (pos 1)) ∷ []) ∷ ((Num (pos 5)) ∷ Null ∷ Null ∷ (Num (pos 7)) ∷ []) ∷ ((Num (pos 7)) ∷ Null ∷ (Num (pos 4)) ∷ (Num (pos 7)) ∷ []) ∷ []) } ∷ record { schema = record { name = codes "u"; columns = (record { name = codes "m0"; kind = VarChar 3; nullable = true; default = (Some Null); auto = false } ∷ record { name = codes "id"; kind = Int 4 false; nullable = false; default = None; auto = false } ∷ []); uniques = (record { name = None; places = (1 ∷ []) } ∷ record { name = (Some (codes "u0")); places = (0 ∷ []) } ∷ []); indexes = []; comment = []; start = None }; rows = (((Text (codes "6")) ∷ (Num (pos 4)) ∷ []) ∷ (Null ∷ (Num (pos 5)) ∷ []) ∷ ((Text (codes "e")) ∷ (Num (pos 7)) ∷ []) ∷ []) } ∷ record { schema = record { name = codes "w"; columns = (record { name = codes "id"; kind = VarBinary 3; nullable = false; default = None; auto = false } ∷ record { name = codes "v"; kind = Int 2 false; nullable = false; default = None; auto = false } ∷ []); uniques = (record { name = None; places = (0 ∷ []) } ∷ []); indexes = []; comment = []; start = None }; rows = (((Blob (3 ∷ [])) ∷ (Num (pos 7)) ∷ []) ∷ ((Blob (52 ∷ [])) ∷ (Num (pos 1000)) ∷ []) ∷ ((Blob (103 ∷ [])) ∷ (Num (pos 2)) ∷ []) ∷ []) } ∷ [])

abbrev asked_28 : List Entry
asked_28 =
    record { actor = Insp; session = 1; asked = Call (requests.LockTables (codes "u" ∷ [])); side = None; answer = answers.Ok 0; missed = None; draw = None }
    ∷ record { actor = Insp; session = 1; asked = Call requests.ShowWaiting; side = None; answer = answers.Waiting []; missed = None; draw = None }
    ∷ record { actor = Insp; session = 2; asked = Call (requests.Do (statements.Insert (codes "w") (Some (codes "id" ∷ codes "v" ∷ [])) ((Blob (4 ∷ [])) ∷ (Num (pos 2)) ∷ []) None)); side = None; answer = answers.Ok 1; missed = None; draw = None }
    ∷ record { actor = Insp; session = 2; asked = Call (requests.Create (record { name = codes "t"; columns = (record { name = codes "m0"; kind = VarChar 3; nullable = true; default = (Some Null); auto = false } ∷ record { name = codes "id"; kind = Int 4 false; nullable = false; default = None; auto = false } ∷ []); uniques = (record { name = None; places = (1 ∷ []) } ∷ record { name = (Some (codes "u0")); places = (0 ∷ []) } ∷ []); indexes = []; comment = codes "z"; start = None })); side = None; answer = answers.Refused 1050 None; missed = None; draw = None }
    ∷ record { actor = (Client 3); session = 3; asked = Call requests.ShowWaiting; side = None; answer = answers.Waiting []; missed = None; draw = None }
    ∷ record { actor = Insp; session = 1; asked = Call (requests.Drop (codes "u")); side = None; answer = answers.Ok 0; missed = None; draw = None }
    ∷ record { actor = Insp; session = 2; asked = Call (requests.Do (statements.Delete (codes "w") (conditions.Equal (record { column = codes "id"; value = (Num (pos 3)) } ∷ [])))); side = None; answer = answers.Ok 0; missed = None; draw = None }
    ∷ record { actor = Insp; session = 2; asked = Call (requests.Do (statements.Select (codes "u") shown.Count (conditions.Equal (record { column = codes "id"; value = (Text (codes "4")) } ∷ [])))); side = None; answer = answers.Waits 1; missed = None; draw = None }
    ∷ record { actor = Insp; session = 2; asked = Poll; side = None; answer = answers.Waits 1; missed = None; draw = None }
    ∷ record { actor = Insp; session = 1; asked = Call (requests.Rename (record { old = codes "u"; new = codes "x" } ∷ record { old = codes "u"; new = codes "x" } ∷ record { old = codes "w"; new = codes "x" } ∷ [])); side = None; answer = answers.Refused 1100 None; missed = None; draw = None }
    ∷ record { actor = Insp; session = 1; asked = Cut; side = None; answer = answers.Lost; missed = None; draw = None }
    ∷ record { actor = (Client 3); session = 3; asked = Call (requests.Rename (record { old = codes "w"; new = codes "w" } ∷ record { old = codes "t"; new = codes "u" } ∷ record { old = codes "x"; new = codes "u" } ∷ [])); side = None; answer = answers.Refused 1050 None; missed = None; draw = None }
    ∷ record { actor = Insp; session = 2; asked = Poll; side = None; answer = answers.Refused 1146 None; missed = None; draw = None }
    ∷ record { actor = (Client 3); session = 3; asked = Call (requests.Do (statements.Delete (codes "t") (conditions.Equal (record { column = codes "m0"; value = (Num (pos 2)) } ∷ record { column = codes "m1"; value = (Num (pos 5)) } ∷ [])))); side = None; answer = answers.Ok 0; missed = None; draw = None }
    ∷ record { actor = (Client 3); session = 3; asked = Call requests.ShowTables; side = None; answer = answers.Tables (record { name = codes "t"; comment = [] } ∷ record { name = codes "w"; comment = [] } ∷ []); missed = None; draw = None }
    ∷ record { actor = Insp; session = 2; asked = Call (requests.Rename (record { old = codes "y"; new = codes "t" } ∷ record { old = codes "w"; new = codes "t" } ∷ [])); side = None; answer = answers.Refused 1050 None; missed = None; draw = None }
    ∷ record { actor = (Client 3); session = 3; asked = Call (requests.Create (record { name = codes "u"; columns = (record { name = codes "id"; kind = VarBinary 3; nullable = false; default = None; auto = false } ∷ record { name = codes "v"; kind = Int 2 false; nullable = false; default = None; auto = false } ∷ []); uniques = (record { name = None; places = (0 ∷ []) } ∷ []); indexes = []; comment = []; start = None })); side = None; answer = answers.Ok 0; missed = None; draw = None }
    ∷ record { actor = Insp; session = 2; asked = Call (requests.Drop (codes "u")); side = None; answer = answers.Ok 0; missed = None; draw = None }
    ∷ record { actor = (Client 3); session = 3; asked = Call (requests.Create (record { name = codes "t"; columns = (record { name = codes "id"; kind = Int 4 false; nullable = false; default = None; auto = false } ∷ record { name = codes "m0"; kind = Int 4 false; nullable = true; default = (Some Null); auto = false } ∷ record { name = codes "m1"; kind = Int 4 false; nullable = true; default = (Some Null); auto = false } ∷ record { name = codes "v"; kind = Int 4 false; nullable = true; default = (Some (Num (pos 5))); auto = false } ∷ []); uniques = (record { name = None; places = (0 ∷ []) } ∷ record { name = (Some (codes "u0")); places = (1 ∷ []) } ∷ record { name = (Some (codes "u1")); places = (1 ∷ 2 ∷ []) } ∷ []); indexes = []; comment = codes "z"; start = None })); side = None; answer = answers.Refused 1050 None; missed = None; draw = None }
    ∷ record { actor = (Client 4); session = 4; asked = Call (requests.ReadLog 1 1 (codes "y" ∷ codes "u" ∷ [])); side = None; answer = answers.Events [] 1; missed = None; draw = None }
    ∷ record { actor = Insp; session = 2; asked = Call (requests.Rename (record { old = codes "t"; new = codes "y" } ∷ [])); side = None; answer = answers.Ok 0; missed = None; draw = None }
    ∷ record { actor = (Client 3); session = 3; asked = Call requests.Begin; side = None; answer = answers.Ok 0; missed = None; draw = None }
    ∷ record { actor = (Client 5); session = 5; asked = Call (requests.Drop (codes "y")); side = None; answer = answers.Ok 0; missed = None; draw = None }
    ∷ record { actor = (Client 3); session = 3; asked = Call requests.LogEnd; side = None; answer = answers.At 1; missed = None; draw = None }
    ∷ record { actor = (Client 3); session = 3; asked = Call (requests.Ends (codes "y")); side = None; answer = answers.Refused 1146 None; missed = None; draw = None }
    ∷ record { actor = (Client 3); session = 3; asked = Call (requests.ChunkEnd (codes "u") (Closed ((Num (pos 1)) ∷ [])) ((Num (pos 1)) ∷ []) 1); side = None; answer = answers.Refused 1146 None; missed = None; draw = None }
    ∷ record { actor = (Client 5); session = 5; asked = Call (requests.Do (statements.Insert (codes "t") None ((Num (pos 4)) ∷ (Num (pos 7)) ∷ (Num (pos 4)) ∷ Null ∷ (Num (pos 1)) ∷ []) None)); side = None; answer = answers.Refused 1146 None; missed = None; draw = None }
    ∷ record { actor = (Client 5); session = 5; asked = Call (requests.Do (statements.Select (codes "t") shown.Count (conditions.Equal (record { column = codes "m0"; value = (Num (pos 6)) } ∷ record { column = codes "m1"; value = (Num (pos 5)) } ∷ [])))); side = None; answer = answers.Refused 1146 None; missed = None; draw = None }
    ∷ record { actor = (Client 5); session = 5; asked = Cut; side = None; answer = answers.Lost; missed = None; draw = None }
    ∷ record { actor = Insp; session = 2; asked = Call (requests.ReadLog 2 2 (codes "x" ∷ codes "w" ∷ [])); side = (Some sides_at.Before); answer = answers.Lost; missed = None; draw = None }
    ∷ record { actor = (Client 4); session = 4; asked = Call (requests.Do (statements.Update (codes "u") (record { column = codes "id"; value = (Num (pos 2)) } ∷ []) (conditions.Equal (record { column = codes "id"; value = (Num (pos 2)) } ∷ [])))); side = None; answer = answers.Refused 1146 None; missed = None; draw = None }
    ∷ record { actor = (Client 3); session = 3; asked = Call (requests.Do (statements.Select (codes "w") shown.Count (conditions.Equal (record { column = codes "id"; value = (Num (pos 7)) } ∷ [])))); side = None; answer = answers.Rows (((Num (pos 0)) ∷ []) ∷ []); missed = None; draw = None }
    ∷ record { actor = (Client 4); session = 4; asked = Call requests.Begin; side = None; answer = answers.Ok 0; missed = None; draw = None }
    ∷ record { actor = (Client 3); session = 3; asked = Call (requests.Do (statements.Delete (codes "t") (conditions.Equal (record { column = codes "id"; value = (Text (codes "1")) } ∷ [])))); side = None; answer = answers.Refused 1146 None; missed = None; draw = None }
    ∷ record { actor = (Client 6); session = 6; asked = Call (requests.Do (statements.Delete (codes "u") (conditions.Equal (record { column = codes "id"; value = (Num (pos 1)) } ∷ [])))); side = None; answer = answers.Refused 1146 None; missed = None; draw = None }
    ∷ record { actor = (Client 4); session = 4; asked = Call (requests.CopyRow (codes "w") (codes "w") (record { kind = VarBinary 3; nullable = false; origin = from.Old 0 } ∷ record { kind = Int 2 false; nullable = false; origin = from.Old 0 } ∷ []) ((Blob (4 ∷ [])) ∷ [])); side = None; answer = answers.Refused 1366 (Some 1); missed = None; draw = None }
    ∷ record { actor = Insp; session = 7; asked = Call (requests.Do (statements.Select (codes "t") shown.All (conditions.Range (record { column = codes "id"; sign = signs.AtLeast; value = (Num (pos 2)) } ∷ record { column = codes "id"; sign = signs.AtMost; value = (Num (pos 2)) } ∷ [])))); side = None; answer = answers.Refused 1146 None; missed = None; draw = None }
    ∷ record { actor = (Client 6); session = 6; asked = Call requests.ShowTables; side = None; answer = answers.Tables (record { name = codes "w"; comment = [] } ∷ []); missed = None; draw = None }
    ∷ record { actor = (Client 4); session = 4; asked = Call (requests.Do (statements.Replace (codes "t") (Some (codes "id" ∷ codes "m0" ∷ [])) ((Num (pos 2)) ∷ (Num (pos 4)) ∷ []) None)); side = None; answer = answers.Refused 1146 None; missed = None; draw = None }
    ∷ record { actor = Insp; session = 7; asked = Cut; side = None; answer = answers.Lost; missed = None; draw = None }
    ∷ record { actor = (Client 4); session = 4; asked = Call requests.Rollback; side = None; answer = answers.Ok 0; missed = None; draw = None }
    ∷ record { actor = (Client 6); session = 6; asked = Call (requests.Ends (codes "w")); side = None; answer = answers.Ends (Some (record { least = ((Blob (3 ∷ [])) ∷ []); greatest = ((Blob (103 ∷ [])) ∷ []) })); missed = None; draw = None }
    ∷ record { actor = (Client 4); session = 4; asked = Call (requests.Do (statements.Insert (codes "t") (Some (codes "id" ∷ codes "m0" ∷ codes "m1" ∷ codes "v" ∷ [])) ((Num (pos 3)) ∷ (Num (pos 4)) ∷ (Num (pos 3)) ∷ (Num (pos 2)) ∷ []) None)); side = None; answer = answers.Refused 1146 None; missed = None; draw = None }
    ∷ []

served_28 : IsServed (record { client_wait = 1; tool_wait = 4 }) tables_28 asked_28
unfolding computing
served_28 = record { answers = refl; sides = refl }

-- Sequence 40
abbrev tables_40 : Database
tables_40 = (record { schema = record { name = codes "t"; columns = (record { name = codes "a"; kind = Int 4 false; nullable = false; default = None; auto = false } ∷ record { name = codes "c"; kind = Int 4 false; nullable = false; default = None; auto = false } ∷ record { name = codes "m0"; kind = Int 4 false; nullable = true; default = (Some Null); auto = false } ∷ record { name = codes "v"; kind = VarChar 6; nullable = true; default = (Some Null); auto = false } ∷ []); uniques = (record { name = None; places = (0 ∷ 1 ∷ []) } ∷ record { name = (Some (codes "u0")); places = (2 ∷ []) } ∷ []); indexes = []; comment = []; start = None }; rows = (((Num (pos 2)) ∷ (Num (pos 2)) ∷ Null ∷ (Text (codes "d")) ∷ []) ∷ ((Num (pos 3)) ∷ (Num (pos 3)) ∷ (Num (pos 5)) ∷ (Text (codes "e")) ∷ []) ∷ ((Num (pos 4)) ∷ (Num (pos 2)) ∷ (Num (pos 2)) ∷ (Text (codes "2")) ∷ []) ∷ ((Num (pos 5)) ∷ (Num (pos 5)) ∷ (Num (pos 7)) ∷ (Text (codes "a")) ∷ []) ∷ []) } ∷ record { schema = record { name = codes "u"; columns = (record { name = codes "id"; kind = Int 1 false; nullable = false; default = None; auto = false } ∷ record { name = codes "v"; kind = Int 2 false; nullable = true; default = (Some Null); auto = false } ∷ []); uniques = (record { name = None; places = (0 ∷ []) } ∷ []); indexes = []; comment = []; start = None }; rows = (((Num (pos 3)) ∷ Null ∷ []) ∷ []) } ∷ record { schema = record { name = codes "w"; columns = (record { name = codes "m0"; kind = Int 4 false; nullable = false; default = None; auto = false } ∷ record { name = codes "id"; kind = Int 1 false; nullable = false; default = None; auto = false } ∷ record { name = codes "v"; kind = Int 4 false; nullable = false; default = (Some (Num (pos 5))); auto = false } ∷ []); uniques = (record { name = None; places = (1 ∷ []) } ∷ record { name = (Some (codes "u0")); places = (0 ∷ []) } ∷ []); indexes = []; comment = []; start = None }; rows = (((Num (pos 5)) ∷ (Num (pos 1)) ∷ (Num (pos 5)) ∷ []) ∷ ((Num (pos 1)) ∷ (Num (pos 2)) ∷ (Num (pos 2)) ∷ []) ∷ []) } ∷ [])

abbrev asked_40 : List Entry
asked_40 =
    record { actor = (Client 1); session = 1; asked = Call requests.LogEnd; side = None; answer = answers.At 0; missed = None; draw = None }
    ∷ record { actor = (Client 1); session = 1; asked = Call (requests.Do (statements.Update (codes "w") (record { column = codes "m0"; value = (Num (pos 7)) } ∷ record { column = codes "id"; value = (Num (pos 1)) } ∷ record { column = codes "v"; value = (Num (pos 6)) } ∷ []) (conditions.Equal (record { column = codes "id"; value = (Num (pos 2)) } ∷ [])))); side = None; answer = answers.Refused 1062 None; missed = None; draw = None }
    ∷ record { actor = (Client 1); session = 1; asked = Call (requests.BeginSpan (codes "u") (record { low = (Closed ((Num (pos 6)) ∷ [])); high = (Closed ((Num (pos 1)) ∷ [])) }) 2); side = None; answer = answers.Keys [] ((Num (pos 1)) ∷ []); missed = None; draw = None }
    ∷ record { actor = Insp; session = 2; asked = Call (requests.ReadLog 2 1 (codes "w" ∷ codes "x" ∷ [])); side = None; answer = answers.Events [] 0; missed = None; draw = None }
    ∷ record { actor = (Client 1); session = 1; asked = Call (requests.Do (statements.Delete (codes "t") (conditions.Equal (record { column = codes "a"; value = (Num (pos 1)) } ∷ record { column = codes "c"; value = (Num (pos 6)) } ∷ [])))); side = None; answer = answers.Ok 0; missed = None; draw = None }
    ∷ record { actor = (Client 1); session = 1; asked = Call (requests.ChunkEnd (codes "t") (Closed ((Num (pos 4)) ∷ (Num (pos 2)) ∷ [])) ((Num (pos 3)) ∷ (Num (pos 7)) ∷ []) 3); side = None; answer = answers.End ((Num (pos 3)) ∷ (Num (pos 7)) ∷ []); missed = None; draw = None }
    ∷ record { actor = (Client 1); session = 1; asked = Call (requests.Do (statements.Delete (codes "u") (conditions.Equal (record { column = codes "id"; value = (Num (pos 7)) } ∷ [])))); side = None; answer = answers.Ok 0; missed = None; draw = None }
    ∷ record { actor = Insp; session = 2; asked = Call requests.ShowWaiting; side = None; answer = answers.Waiting []; missed = None; draw = None }
    ∷ record { actor = (Client 1); session = 1; asked = Call (requests.Create (record { name = codes "w"; columns = (record { name = codes "a"; kind = Int 4 false; nullable = false; default = None; auto = false } ∷ record { name = codes "c"; kind = Int 4 false; nullable = false; default = None; auto = false } ∷ record { name = codes "m0"; kind = Int 4 false; nullable = true; default = (Some Null); auto = false } ∷ record { name = codes "v"; kind = VarChar 6; nullable = true; default = (Some Null); auto = false } ∷ []); uniques = (record { name = None; places = (0 ∷ 1 ∷ []) } ∷ record { name = (Some (codes "u0")); places = (2 ∷ []) } ∷ []); indexes = []; comment = []; start = None })); side = None; answer = answers.Refused 1050 None; missed = None; draw = None }
    ∷ record { actor = Insp; session = 2; asked = Call (requests.Do (statements.Insert (codes "u") (Some (codes "a" ∷ codes "c" ∷ codes "m0" ∷ codes "v" ∷ [])) ((Num (pos 2)) ∷ (Num (pos 4)) ∷ (Num (pos 5)) ∷ (Text (codes "4")) ∷ []) None)); side = None; answer = answers.Refused 1054 None; missed = None; draw = None }
    ∷ record { actor = (Client 1); session = 1; asked = Call requests.ShowWaiting; side = None; answer = answers.Waiting []; missed = None; draw = None }
    ∷ record { actor = (Client 1); session = 1; asked = Call requests.ShowTables; side = (Some sides_at.Before); answer = answers.Lost; missed = None; draw = None }
    ∷ record { actor = Insp; session = 2; asked = Call (requests.Do (statements.Select (codes "w") shown.All (conditions.Equal (record { column = codes "id"; value = (Num (pos 7)) } ∷ [])))); side = None; answer = answers.Rows []; missed = None; draw = None }
    ∷ record { actor = Insp; session = 2; asked = Call (requests.BeginSpan (codes "w") (record { low = (Closed ((Num (pos 1)) ∷ [])); high = (Closed ((Num (pos 5)) ∷ [])) }) 2); side = None; answer = answers.Keys (((Num (pos 1)) ∷ []) ∷ ((Num (pos 2)) ∷ []) ∷ []) ((Num (pos 5)) ∷ []); missed = None; draw = None }
    ∷ record { actor = Insp; session = 2; asked = Call requests.Rollback; side = (Some sides_at.Before); answer = answers.Lost; missed = None; draw = None }
    ∷ record { actor = Insp; session = 3; asked = Call (requests.Do (statements.Select (codes "t") (shown.Columns (codes "a" ∷ [])) (conditions.Equal (record { column = codes "m0"; value = (Num (pos 2)) } ∷ [])))); side = None; answer = answers.Rows (((Num (pos 4)) ∷ []) ∷ []); missed = None; draw = None }
    ∷ record { actor = Insp; session = 3; asked = Call (requests.BeginSpan (codes "t") (record { low = Free; high = (Closed ((Num (pos 4)) ∷ (Num (pos 3)) ∷ [])) }) 3); side = None; answer = answers.Keys (((Num (pos 2)) ∷ (Num (pos 2)) ∷ []) ∷ ((Num (pos 3)) ∷ (Num (pos 3)) ∷ []) ∷ ((Num (pos 4)) ∷ (Num (pos 2)) ∷ []) ∷ []) ((Num (pos 4)) ∷ (Num (pos 3)) ∷ []); missed = None; draw = None }
    ∷ record { actor = Insp; session = 3; asked = Call requests.ShowTables; side = None; answer = answers.Tables (record { name = codes "t"; comment = [] } ∷ record { name = codes "u"; comment = [] } ∷ record { name = codes "w"; comment = [] } ∷ []); missed = None; draw = None }
    ∷ record { actor = Insp; session = 3; asked = Call requests.ShowWaiting; side = (Some sides_at.After); answer = answers.Lost; missed = (Some (answers.Waiting [])); draw = None }
    ∷ record { actor = (Client 4); session = 4; asked = Call (requests.Do (statements.Insert (codes "w") (Some (codes "id" ∷ codes "v" ∷ [])) ((Num (pos 3)) ∷ (Num (pos 7)) ∷ []) None)); side = None; answer = answers.Refused 1364 None; missed = None; draw = None }
    ∷ record { actor = (Client 4); session = 4; asked = Call (requests.ReadLog 0 1 (codes "u" ∷ [])); side = None; answer = answers.Events [] 0; missed = None; draw = None }
    ∷ record { actor = (Client 4); session = 4; asked = Call (requests.Do (statements.Select (codes "u") shown.Count (conditions.Equal (record { column = codes "id"; value = (Num (pos 5)) } ∷ [])))); side = None; answer = answers.Rows (((Num (pos 0)) ∷ []) ∷ []); missed = None; draw = None }
    ∷ record { actor = (Client 4); session = 4; asked = Call requests.Begin; side = None; answer = answers.Ok 0; missed = None; draw = None }
    ∷ record { actor = (Client 4); session = 4; asked = Call (requests.Do (statements.Replace (codes "w") (Some (codes "id" ∷ codes "v" ∷ [])) ((Num (pos 2)) ∷ (Num (pos 7)) ∷ []) None)); side = None; answer = answers.Refused 1364 None; missed = None; draw = None }
    ∷ record { actor = Insp; session = 5; asked = Call (requests.BeginSpan (codes "w") (record { low = (Closed ((Num (pos 1)) ∷ [])); high = (Closed ((Num (pos 2)) ∷ [])) }) 2); side = None; answer = answers.Keys (((Num (pos 1)) ∷ []) ∷ ((Num (pos 2)) ∷ []) ∷ []) ((Num (pos 2)) ∷ []); missed = None; draw = None }
    ∷ record { actor = (Client 4); session = 4; asked = Call (requests.Do (statements.Replace (codes "t") (Some (codes "a" ∷ codes "c" ∷ codes "m0" ∷ codes "v" ∷ [])) ((Num (pos 2)) ∷ (Num (pos 2)) ∷ (Num (pos 3)) ∷ (Text (codes "b")) ∷ []) None)); side = None; answer = answers.Ok 2; missed = None; draw = None }
    ∷ record { actor = Insp; session = 5; asked = Call (requests.Do (statements.Insert (codes "w") (Some (codes "id" ∷ codes "v" ∷ [])) ((Num (pos 2)) ∷ Null ∷ []) None)); side = None; answer = answers.Refused 1364 None; missed = None; draw = None }
    ∷ record { actor = Insp; session = 5; asked = Call (requests.Do (statements.Delete (codes "w") (conditions.Equal (record { column = codes "id"; value = (Num (pos 4)) } ∷ [])))); side = None; answer = answers.Ok 0; missed = None; draw = None }
    ∷ record { actor = Insp; session = 5; asked = Call (requests.CopyRow (codes "u") (codes "w") (record { kind = Int 4 false; nullable = false; origin = from.Old 1 } ∷ record { kind = Int 1 false; nullable = false; origin = from.Old 1 } ∷ record { kind = Int 4 false; nullable = false; origin = from.Old 1 } ∷ []) ((Num (pos 3)) ∷ [])); side = None; answer = answers.Refused 1048 (Some 0); missed = None; draw = None }
    ∷ record { actor = (Client 4); session = 4; asked = Call (requests.ReadLog 4 5 (codes "y" ∷ codes "w" ∷ [])); side = None; answer = answers.Events [] 0; missed = None; draw = None }
    ∷ record { actor = Insp; session = 5; asked = Call (requests.Do (statements.Update (codes "u") (record { column = codes "id"; value = (Num (pos 5)) } ∷ record { column = codes "v"; value = (Text (codes "6")) } ∷ []) (conditions.Equal (record { column = codes "id"; value = (Num (pos 3)) } ∷ [])))); side = None; answer = answers.Ok 1; missed = None; draw = None }
    ∷ record { actor = Insp; session = 5; asked = Call (requests.Ends (codes "t")); side = None; answer = answers.Ends (Some (record { least = ((Num (pos 2)) ∷ (Num (pos 2)) ∷ []); greatest = ((Num (pos 5)) ∷ (Num (pos 5)) ∷ []) })); missed = None; draw = None }
    ∷ record { actor = (Client 4); session = 4; asked = Call (requests.CopyRow (codes "w") (codes "t") (record { kind = Int 4 false; nullable = false; origin = from.Old 2 } ∷ record { kind = Int 4 false; nullable = false; origin = from.Old 0 } ∷ record { kind = Int 4 false; nullable = true; origin = from.Old 2 } ∷ record { kind = VarChar 6; nullable = true; origin = from.Old 0 } ∷ []) ((Num (pos 3)) ∷ [])); side = None; answer = answers.Ok 0; missed = None; draw = None }
    ∷ record { actor = Insp; session = 5; asked = Call (requests.Ends (codes "u")); side = None; answer = answers.Ends (Some (record { least = ((Num (pos 3)) ∷ []); greatest = ((Num (pos 3)) ∷ []) })); missed = None; draw = None }
    ∷ record { actor = Insp; session = 6; asked = Call (requests.Create (record { name = codes "u"; columns = (record { name = codes "m0"; kind = Int 4 false; nullable = false; default = None; auto = false } ∷ record { name = codes "id"; kind = Int 1 false; nullable = false; default = None; auto = false } ∷ record { name = codes "v"; kind = Int 4 false; nullable = false; default = (Some (Num (pos 5))); auto = false } ∷ []); uniques = (record { name = None; places = (1 ∷ []) } ∷ record { name = (Some (codes "u0")); places = (0 ∷ []) } ∷ []); indexes = []; comment = []; start = None })); side = None; answer = answers.Waits 5; missed = None; draw = None }
    ∷ record { actor = (Client 4); session = 4; asked = Call (requests.Do (statements.Update (codes "w") (record { column = codes "m0"; value = (Num (pos 1)) } ∷ []) (conditions.Equal (record { column = codes "id"; value = (Num (pos 4)) } ∷ [])))); side = None; answer = answers.Waits 5; missed = None; draw = None }
    ∷ record { actor = (Client 4); session = 4; asked = Poll; side = None; answer = answers.Waits 5; missed = None; draw = None }
    ∷ record { actor = Insp; session = 5; asked = Call (requests.Do (statements.Insert (codes "y") (Some (codes "a" ∷ codes "c" ∷ codes "m0" ∷ codes "v" ∷ [])) ((Blob (255 ∷ [])) ∷ (Num (pos 2)) ∷ (Num (pos 3)) ∷ (Num (pos 4)) ∷ []) None)); side = None; answer = answers.Refused 1146 None; missed = None; draw = None }
    ∷ record { actor = Insp; session = 7; asked = Call requests.LogEnd; side = None; answer = answers.At 0; missed = None; draw = None }
    ∷ record { actor = Insp; session = 7; asked = Call (requests.Do (statements.Replace (codes "u") (Some (codes "id" ∷ codes "v" ∷ [])) ((Num (pos 7)) ∷ (Num (pos 5)) ∷ []) None)); side = None; answer = answers.Waits 6; missed = None; draw = None }
    ∷ record { actor = Insp; session = 6; asked = Poll; side = None; answer = answers.Waits 5; missed = None; draw = None }
    ∷ record { actor = Insp; session = 7; asked = Poll; side = None; answer = answers.Waits 6; missed = None; draw = None }
    ∷ record { actor = Insp; session = 5; asked = Call (requests.Do (statements.Delete (codes "u") (conditions.Equal (record { column = codes "id"; value = (Num (pos 2)) } ∷ [])))); side = None; answer = answers.Ok 0; missed = None; draw = None }
    ∷ []

served_40 : IsServed (record { client_wait = 2; tool_wait = 4 }) tables_40 asked_40
unfolding computing
served_40 = record { answers = refl; sides = refl }
