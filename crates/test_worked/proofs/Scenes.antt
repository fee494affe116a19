-- Several sessions beside each other: the scenes of compare/scenes.txt, which a real server plays too, each step with the answer
-- that the definitions compute. (Written by compare/computed.py.)
use Rattle.std.proofs.Common.{pos, true, false, List, [], ◌∷◌, Some, None, refl}
use Rattle.std.specs.Prelude.{codes}
use Rattle.base_values.specs.declared.value.Value.TheVariants.{Null, Num}
use Rattle.base_values.specs.declared.kind.Kind.TheVariants.{Int}
use Rattle.base_values.specs.declared.span.Bound.TheVariants.{Closed}
use Rattle.base_values.specs.declared.row_conversion.map.Origin.TheVariants as from
use Rattle.base_script.specs.declared.actor.Actor.TheVariants.{Insp, Copy, Apply, Lock, Ren, Client}
use Rattle.base_script.specs.declared.statement.Statement.TheVariants as statements
use Rattle.base_script.specs.declared.statement.Condition.TheVariants as conditions
use Rattle.base_script.specs.declared.statement.Shown.TheVariants as shown
use Rattle.table_store.specs.Databases.{Database}
use Rattle.server_model.specs.declared.request.Request.TheVariants as requests
use Rattle.server_model.specs.declared.answer.Answer.TheVariants as answers
use Rattle.server_model.specs.declared.entry.Entry.{Entry}
use Rattle.server_model.specs.declared.entry.Asked.TheVariants.{Call, Poll, Cut}
use Rattle.test_worked.proofs.Computing.{computing, IsServed}

-- A waiting exclusive lock goes ahead of a later shared one
abbrev scene_tables_1 : Database
scene_tables_1 = record { schema = record { name = codes "t"; columns = record { name = codes "id"; kind = Int 4 false; nullable = false; default = None; auto = false } ∷ []; uniques = record { name = None; places = 0 ∷ [] } ∷ []; indexes = []; comment = []; start = None }; rows = [] } ∷ []

abbrev scene_1 : List Entry
scene_1 =
    record { actor = Client 1; session = 1; asked = Call (requests.Begin); side = None; answer = answers.Ok 0; missed = None; draw = None }
    ∷ record { actor = Client 1; session = 1; asked = Call (requests.Do (statements.Select (codes "t") shown.All conditions.All)); side = None; answer = answers.Rows ([]); missed = None; draw = None }
    ∷ record { actor = Lock; session = 2; asked = Call (requests.LockTables (codes "t" ∷ [])); side = None; answer = answers.Waits 1; missed = None; draw = None }
    ∷ record { actor = Client 2; session = 3; asked = Call (requests.Do (statements.Select (codes "t") shown.All conditions.All)); side = None; answer = answers.Waits 2; missed = None; draw = None }
    ∷ record { actor = Client 1; session = 1; asked = Call (requests.Do (statements.Select (codes "t") shown.All conditions.All)); side = None; answer = answers.Rows ([]); missed = None; draw = None }
    ∷ record { actor = Client 1; session = 1; asked = Call (requests.Commit); side = None; answer = answers.Ok 0; missed = None; draw = None }
    ∷ record { actor = Lock; session = 2; asked = Poll; side = None; answer = answers.Ok 0; missed = None; draw = None }
    ∷ record { actor = Client 2; session = 3; asked = Poll; side = None; answer = answers.Waits 2; missed = None; draw = None }
    ∷ record { actor = Lock; session = 2; asked = Call (requests.Unlock); side = None; answer = answers.Ok 0; missed = None; draw = None }
    ∷ record { actor = Client 2; session = 3; asked = Poll; side = None; answer = answers.Rows ([]); missed = None; draw = None }
    ∷ []

scene_served_1 : IsServed (record { client_wait = 50; tool_wait = 50 }) scene_tables_1 scene_1
unfolding computing
scene_served_1 = record { answers = refl; sides = refl }

-- The cut-over: the RENAME goes ahead of statements that came before it
abbrev scene_tables_2 : Database
scene_tables_2 = record { schema = record { name = codes "t"; columns = record { name = codes "id"; kind = Int 4 false; nullable = false; default = None; auto = false } ∷ []; uniques = record { name = None; places = 0 ∷ [] } ∷ []; indexes = []; comment = []; start = None }; rows = [] } ∷ record { schema = record { name = codes "_t_gho"; columns = record { name = codes "id"; kind = Int 4 false; nullable = false; default = None; auto = false } ∷ record { name = codes "b"; kind = Int 4 false; nullable = false; default = Some (Num (pos 7)); auto = false } ∷ []; uniques = record { name = None; places = 0 ∷ [] } ∷ []; indexes = []; comment = []; start = None }; rows = [] } ∷ []

abbrev scene_2 : List Entry
scene_2 =
    record { actor = Lock; session = 1; asked = Call (requests.Create (record { name = codes "_t_del"; columns = record { name = codes "id"; kind = Int 4 false; nullable = false; default = None; auto = false } ∷ []; uniques = record { name = None; places = 0 ∷ [] } ∷ []; indexes = []; comment = codes "ghost-cut-over-sentry"; start = None })); side = None; answer = answers.Ok 0; missed = None; draw = None }
    ∷ record { actor = Lock; session = 1; asked = Call (requests.LockTables (codes "t" ∷ codes "_t_del" ∷ [])); side = None; answer = answers.Ok 0; missed = None; draw = None }
    ∷ record { actor = Client 1; session = 2; asked = Call (requests.Do (statements.Insert (codes "t") None (Num (pos 4) ∷ []) None)); side = None; answer = answers.Waits 1; missed = None; draw = None }
    ∷ record { actor = Ren; session = 3; asked = Call (requests.Rename (record { old = codes "t"; new = codes "_t_del" } ∷ record { old = codes "_t_gho"; new = codes "t" } ∷ [])); side = None; answer = answers.Waits 1; missed = None; draw = None }
    ∷ record { actor = Client 2; session = 4; asked = Call (requests.Do (statements.Insert (codes "t") (Some (codes "id" ∷ [])) (Num (pos 5) ∷ []) None)); side = None; answer = answers.Waits 1; missed = None; draw = None }
    ∷ record { actor = Lock; session = 1; asked = Call (requests.Drop (codes "_t_del")); side = None; answer = answers.Ok 0; missed = None; draw = None }
    ∷ record { actor = Ren; session = 3; asked = Poll; side = None; answer = answers.Waits 1; missed = None; draw = None }
    ∷ record { actor = Client 1; session = 2; asked = Poll; side = None; answer = answers.Waits 1; missed = None; draw = None }
    ∷ record { actor = Lock; session = 1; asked = Call (requests.Unlock); side = None; answer = answers.Ok 0; missed = None; draw = None }
    ∷ record { actor = Ren; session = 3; asked = Poll; side = None; answer = answers.Ok 0; missed = None; draw = None }
    ∷ record { actor = Client 1; session = 2; asked = Poll; side = None; answer = answers.Refused 1136 None; missed = None; draw = None }
    ∷ record { actor = Client 2; session = 4; asked = Poll; side = None; answer = answers.Ok 1; missed = None; draw = None }
    ∷ record { actor = Insp; session = 5; asked = Call (requests.Do (statements.Select (codes "t") shown.All conditions.All)); side = None; answer = answers.Rows ((Num (pos 5) ∷ Num (pos 7) ∷ []) ∷ []); missed = None; draw = None }
    ∷ record { actor = Insp; session = 5; asked = Call (requests.Do (statements.Select (codes "_t_del") shown.All conditions.All)); side = None; answer = answers.Rows ([]); missed = None; draw = None }
    ∷ []

scene_served_2 : IsServed (record { client_wait = 50; tool_wait = 50 }) scene_tables_2 scene_2
unfolding computing
scene_served_2 = record { answers = refl; sides = refl }

-- The cut-over behind a transaction: the lock waits, and later statements behind it
abbrev scene_tables_3 : Database
scene_tables_3 = record { schema = record { name = codes "t"; columns = record { name = codes "id"; kind = Int 4 false; nullable = false; default = None; auto = false } ∷ []; uniques = record { name = None; places = 0 ∷ [] } ∷ []; indexes = []; comment = []; start = None }; rows = [] } ∷ record { schema = record { name = codes "_t_gho"; columns = record { name = codes "id"; kind = Int 4 false; nullable = false; default = None; auto = false } ∷ record { name = codes "b"; kind = Int 4 false; nullable = false; default = Some (Num (pos 7)); auto = false } ∷ []; uniques = record { name = None; places = 0 ∷ [] } ∷ []; indexes = []; comment = []; start = None }; rows = [] } ∷ []

abbrev scene_3 : List Entry
scene_3 =
    record { actor = Client 1; session = 1; asked = Call (requests.Begin); side = None; answer = answers.Ok 0; missed = None; draw = None }
    ∷ record { actor = Client 1; session = 1; asked = Call (requests.Do (statements.Insert (codes "t") None (Num (pos 2) ∷ []) None)); side = None; answer = answers.Ok 1; missed = None; draw = None }
    ∷ record { actor = Lock; session = 2; asked = Call (requests.Create (record { name = codes "_t_del"; columns = record { name = codes "id"; kind = Int 4 false; nullable = false; default = None; auto = false } ∷ []; uniques = record { name = None; places = 0 ∷ [] } ∷ []; indexes = []; comment = []; start = None })); side = None; answer = answers.Ok 0; missed = None; draw = None }
    ∷ record { actor = Lock; session = 2; asked = Call (requests.LockTables (codes "t" ∷ codes "_t_del" ∷ [])); side = None; answer = answers.Waits 1; missed = None; draw = None }
    ∷ record { actor = Client 2; session = 3; asked = Call (requests.Do (statements.Insert (codes "t") None (Num (pos 3) ∷ []) None)); side = None; answer = answers.Waits 2; missed = None; draw = None }
    ∷ record { actor = Client 1; session = 1; asked = Call (requests.Do (statements.Insert (codes "t") None (Num (pos 4) ∷ []) None)); side = None; answer = answers.Ok 1; missed = None; draw = None }
    ∷ record { actor = Client 1; session = 1; asked = Call (requests.Commit); side = None; answer = answers.Ok 0; missed = None; draw = None }
    ∷ record { actor = Lock; session = 2; asked = Poll; side = None; answer = answers.Ok 0; missed = None; draw = None }
    ∷ record { actor = Client 2; session = 3; asked = Poll; side = None; answer = answers.Waits 2; missed = None; draw = None }
    ∷ record { actor = Lock; session = 2; asked = Call (requests.Unlock); side = None; answer = answers.Ok 0; missed = None; draw = None }
    ∷ record { actor = Client 2; session = 3; asked = Poll; side = None; answer = answers.Ok 1; missed = None; draw = None }
    ∷ record { actor = Insp; session = 4; asked = Call (requests.Do (statements.Select (codes "t") shown.All conditions.All)); side = None; answer = answers.Rows ((Num (pos 2) ∷ []) ∷ (Num (pos 3) ∷ []) ∷ (Num (pos 4) ∷ []) ∷ []); missed = None; draw = None }
    ∷ []

scene_served_3 : IsServed (record { client_wait = 50; tool_wait = 50 }) scene_tables_3 scene_3
unfolding computing
scene_served_3 = record { answers = refl; sides = refl }

-- The lock is lost while the sentry stands: the RENAME is refused, and nothing is renamed
abbrev scene_tables_4 : Database
scene_tables_4 = record { schema = record { name = codes "t"; columns = record { name = codes "id"; kind = Int 4 false; nullable = false; default = None; auto = false } ∷ []; uniques = record { name = None; places = 0 ∷ [] } ∷ []; indexes = []; comment = []; start = None }; rows = [] } ∷ record { schema = record { name = codes "_t_gho"; columns = record { name = codes "id"; kind = Int 4 false; nullable = false; default = None; auto = false } ∷ record { name = codes "b"; kind = Int 4 false; nullable = false; default = Some (Num (pos 7)); auto = false } ∷ []; uniques = record { name = None; places = 0 ∷ [] } ∷ []; indexes = []; comment = []; start = None }; rows = [] } ∷ []

abbrev scene_4 : List Entry
scene_4 =
    record { actor = Lock; session = 1; asked = Call (requests.Create (record { name = codes "_t_del"; columns = record { name = codes "id"; kind = Int 4 false; nullable = false; default = None; auto = false } ∷ []; uniques = record { name = None; places = 0 ∷ [] } ∷ []; indexes = []; comment = []; start = None })); side = None; answer = answers.Ok 0; missed = None; draw = None }
    ∷ record { actor = Lock; session = 1; asked = Call (requests.LockTables (codes "t" ∷ codes "_t_del" ∷ [])); side = None; answer = answers.Ok 0; missed = None; draw = None }
    ∷ record { actor = Client 1; session = 2; asked = Call (requests.Do (statements.Insert (codes "t") None (Num (pos 4) ∷ []) None)); side = None; answer = answers.Waits 1; missed = None; draw = None }
    ∷ record { actor = Ren; session = 3; asked = Call (requests.Rename (record { old = codes "t"; new = codes "_t_del" } ∷ record { old = codes "_t_gho"; new = codes "t" } ∷ [])); side = None; answer = answers.Waits 1; missed = None; draw = None }
    ∷ record { actor = Lock; session = 1; asked = Cut; side = None; answer = answers.Lost; missed = None; draw = None }
    ∷ record { actor = Ren; session = 3; asked = Poll; side = None; answer = answers.Refused 1050 None; missed = None; draw = None }
    ∷ record { actor = Client 1; session = 2; asked = Poll; side = None; answer = answers.Ok 1; missed = None; draw = None }
    ∷ record { actor = Insp; session = 4; asked = Call (requests.Do (statements.Select (codes "t") shown.All conditions.All)); side = None; answer = answers.Rows ((Num (pos 4) ∷ []) ∷ []); missed = None; draw = None }
    ∷ []

scene_served_4 : IsServed (record { client_wait = 50; tool_wait = 50 }) scene_tables_4 scene_4
unfolding computing
scene_served_4 = record { answers = refl; sides = refl }

-- The renamer is lost while it waits: statements go on behind the lock
abbrev scene_tables_5 : Database
scene_tables_5 = record { schema = record { name = codes "t"; columns = record { name = codes "id"; kind = Int 4 false; nullable = false; default = None; auto = false } ∷ []; uniques = record { name = None; places = 0 ∷ [] } ∷ []; indexes = []; comment = []; start = None }; rows = [] } ∷ record { schema = record { name = codes "u"; columns = record { name = codes "id"; kind = Int 4 false; nullable = false; default = None; auto = false } ∷ []; uniques = record { name = None; places = 0 ∷ [] } ∷ []; indexes = []; comment = []; start = None }; rows = [] } ∷ []

abbrev scene_5 : List Entry
scene_5 =
    record { actor = Lock; session = 1; asked = Call (requests.LockTables (codes "t" ∷ [])); side = None; answer = answers.Ok 0; missed = None; draw = None }
    ∷ record { actor = Ren; session = 2; asked = Call (requests.Rename (record { old = codes "t"; new = codes "v" } ∷ record { old = codes "u"; new = codes "t" } ∷ [])); side = None; answer = answers.Waits 1; missed = None; draw = None }
    ∷ record { actor = Client 1; session = 3; asked = Call (requests.Do (statements.Insert (codes "t") None (Num (pos 4) ∷ []) None)); side = None; answer = answers.Waits 1; missed = None; draw = None }
    ∷ record { actor = Ren; session = 2; asked = Cut; side = None; answer = answers.Lost; missed = None; draw = None }
    ∷ record { actor = Lock; session = 1; asked = Call (requests.Unlock); side = None; answer = answers.Ok 0; missed = None; draw = None }
    ∷ record { actor = Client 1; session = 3; asked = Poll; side = None; answer = answers.Ok 1; missed = None; draw = None }
    ∷ record { actor = Insp; session = 4; asked = Call (requests.Do (statements.Select (codes "u") shown.All conditions.All)); side = None; answer = answers.Rows ([]); missed = None; draw = None }
    ∷ []

scene_served_5 : IsServed (record { client_wait = 50; tool_wait = 50 }) scene_tables_5 scene_5
unfolding computing
scene_served_5 = record { answers = refl; sides = refl }

-- Under LOCK TABLES only the locked tables may be used
abbrev scene_tables_6 : Database
scene_tables_6 = record { schema = record { name = codes "t"; columns = record { name = codes "id"; kind = Int 4 false; nullable = false; default = None; auto = false } ∷ []; uniques = record { name = None; places = 0 ∷ [] } ∷ []; indexes = []; comment = []; start = None }; rows = [] } ∷ record { schema = record { name = codes "u"; columns = record { name = codes "id"; kind = Int 4 false; nullable = false; default = None; auto = false } ∷ []; uniques = record { name = None; places = 0 ∷ [] } ∷ []; indexes = []; comment = []; start = None }; rows = [] } ∷ []

abbrev scene_6 : List Entry
scene_6 =
    record { actor = Lock; session = 1; asked = Call (requests.LockTables (codes "t" ∷ [])); side = None; answer = answers.Ok 0; missed = None; draw = None }
    ∷ record { actor = Lock; session = 1; asked = Call (requests.Do (statements.Insert (codes "t") None (Num (pos 1) ∷ []) None)); side = None; answer = answers.Ok 1; missed = None; draw = None }
    ∷ record { actor = Lock; session = 1; asked = Call (requests.Do (statements.Select (codes "u") shown.All conditions.All)); side = None; answer = answers.Refused 1100 None; missed = None; draw = None }
    ∷ record { actor = Lock; session = 1; asked = Call (requests.Do (statements.Insert (codes "u") None (Num (pos 1) ∷ []) None)); side = None; answer = answers.Refused 1100 None; missed = None; draw = None }
    ∷ record { actor = Lock; session = 1; asked = Call (requests.Do (statements.Delete (codes "nothing") (conditions.Equal (record { column = codes "id"; value = Num (pos 1) } ∷ [])))); side = None; answer = answers.Refused 1100 None; missed = None; draw = None }
    ∷ record { actor = Client 1; session = 2; asked = Call (requests.Do (statements.Insert (codes "u") None (Num (pos 1) ∷ []) None)); side = None; answer = answers.Ok 1; missed = None; draw = None }
    ∷ record { actor = Client 1; session = 2; asked = Call (requests.Do (statements.Select (codes "t") shown.All conditions.All)); side = None; answer = answers.Waits 1; missed = None; draw = None }
    ∷ record { actor = Lock; session = 1; asked = Call (requests.Drop (codes "u")); side = None; answer = answers.Refused 1100 None; missed = None; draw = None }
    ∷ record { actor = Lock; session = 1; asked = Call (requests.Drop (codes "t")); side = None; answer = answers.Ok 0; missed = None; draw = None }
    ∷ record { actor = Client 1; session = 2; asked = Poll; side = None; answer = answers.Waits 1; missed = None; draw = None }
    ∷ record { actor = Lock; session = 1; asked = Call (requests.Unlock); side = None; answer = answers.Ok 0; missed = None; draw = None }
    ∷ []

scene_served_6 : IsServed (record { client_wait = 50; tool_wait = 50 }) scene_tables_6 scene_6
unfolding computing
scene_served_6 = record { answers = refl; sides = refl }

-- RENAME: pairs from left to right, and all or none
abbrev scene_tables_7 : Database
scene_tables_7 = record { schema = record { name = codes "t"; columns = record { name = codes "id"; kind = Int 4 false; nullable = false; default = None; auto = false } ∷ []; uniques = record { name = None; places = 0 ∷ [] } ∷ []; indexes = []; comment = []; start = None }; rows = [] } ∷ record { schema = record { name = codes "u"; columns = record { name = codes "id"; kind = Int 4 false; nullable = false; default = None; auto = false } ∷ []; uniques = record { name = None; places = 0 ∷ [] } ∷ []; indexes = []; comment = []; start = None }; rows = (Num (pos 9) ∷ []) ∷ [] } ∷ []

abbrev scene_7 : List Entry
scene_7 =
    record { actor = Ren; session = 1; asked = Call (requests.Rename (record { old = codes "t"; new = codes "v" } ∷ record { old = codes "w"; new = codes "t" } ∷ [])); side = None; answer = answers.Refused 1146 None; missed = None; draw = None }
    ∷ record { actor = Ren; session = 1; asked = Call (requests.Rename (record { old = codes "t"; new = codes "u" } ∷ [])); side = None; answer = answers.Refused 1050 None; missed = None; draw = None }
    ∷ record { actor = Ren; session = 1; asked = Call (requests.Rename (record { old = codes "t"; new = codes "v" } ∷ record { old = codes "u"; new = codes "v" } ∷ [])); side = None; answer = answers.Refused 1050 None; missed = None; draw = None }
    ∷ record { actor = Insp; session = 2; asked = Call (requests.Do (statements.Select (codes "u") shown.All conditions.All)); side = None; answer = answers.Rows ((Num (pos 9) ∷ []) ∷ []); missed = None; draw = None }
    ∷ record { actor = Ren; session = 1; asked = Call (requests.Rename (record { old = codes "t"; new = codes "v" } ∷ record { old = codes "u"; new = codes "t" } ∷ record { old = codes "v"; new = codes "u" } ∷ [])); side = None; answer = answers.Ok 0; missed = None; draw = None }
    ∷ record { actor = Insp; session = 2; asked = Call (requests.Do (statements.Select (codes "t") shown.All conditions.All)); side = None; answer = answers.Rows ((Num (pos 9) ∷ []) ∷ []); missed = None; draw = None }
    ∷ record { actor = Insp; session = 2; asked = Call (requests.Create (record { name = codes "u"; columns = record { name = codes "id"; kind = Int 4 false; nullable = false; default = None; auto = false } ∷ []; uniques = record { name = None; places = 0 ∷ [] } ∷ []; indexes = []; comment = []; start = None })); side = None; answer = answers.Refused 1050 None; missed = None; draw = None }
    ∷ record { actor = Insp; session = 2; asked = Call (requests.Drop (codes "w")); side = None; answer = answers.Refused 1051 None; missed = None; draw = None }
    ∷ record { actor = Insp; session = 2; asked = Call (requests.Do (statements.Select (codes "w") shown.All conditions.All)); side = None; answer = answers.Refused 1146 None; missed = None; draw = None }
    ∷ []

scene_served_7 : IsServed (record { client_wait = 50; tool_wait = 50 }) scene_tables_7 scene_7
unfolding computing
scene_served_7 = record { answers = refl; sides = refl }

-- A write waits for a write of the same row, and sees what was committed
abbrev scene_tables_8 : Database
scene_tables_8 = record { schema = record { name = codes "t"; columns = record { name = codes "id"; kind = Int 4 false; nullable = false; default = None; auto = false } ∷ record { name = codes "a"; kind = Int 4 false; nullable = true; default = Some Null; auto = false } ∷ []; uniques = record { name = None; places = 0 ∷ [] } ∷ []; indexes = []; comment = []; start = None }; rows = (Num (pos 1) ∷ Num (pos 10) ∷ []) ∷ [] } ∷ []

abbrev scene_8 : List Entry
scene_8 =
    record { actor = Client 1; session = 1; asked = Call (requests.Begin); side = None; answer = answers.Ok 0; missed = None; draw = None }
    ∷ record { actor = Client 1; session = 1; asked = Call (requests.Do (statements.Update (codes "t") (record { column = codes "a"; value = Num (pos 11) } ∷ []) (conditions.Equal (record { column = codes "id"; value = Num (pos 1) } ∷ [])))); side = None; answer = answers.Ok 1; missed = None; draw = None }
    ∷ record { actor = Client 2; session = 2; asked = Call (requests.Do (statements.Update (codes "t") (record { column = codes "a"; value = Num (pos 11) } ∷ []) (conditions.Equal (record { column = codes "id"; value = Num (pos 1) } ∷ [])))); side = None; answer = answers.Waits 1; missed = None; draw = None }
    ∷ record { actor = Client 1; session = 1; asked = Call (requests.Commit); side = None; answer = answers.Ok 0; missed = None; draw = None }
    ∷ record { actor = Client 2; session = 2; asked = Poll; side = None; answer = answers.Ok 0; missed = None; draw = None }
    ∷ record { actor = Client 3; session = 3; asked = Call (requests.Do (statements.Select (codes "t") shown.All (conditions.Equal (record { column = codes "id"; value = Num (pos 1) } ∷ [])))); side = None; answer = answers.Rows ((Num (pos 1) ∷ Num (pos 11) ∷ []) ∷ []); missed = None; draw = None }
    ∷ []

scene_served_8 : IsServed (record { client_wait = 50; tool_wait = 50 }) scene_tables_8 scene_8
unfolding computing
scene_served_8 = record { answers = refl; sides = refl }

-- A read waits for a write, and a write for a read
abbrev scene_tables_9 : Database
scene_tables_9 = record { schema = record { name = codes "t"; columns = record { name = codes "id"; kind = Int 4 false; nullable = false; default = None; auto = false } ∷ record { name = codes "a"; kind = Int 4 false; nullable = true; default = Some Null; auto = false } ∷ []; uniques = record { name = None; places = 0 ∷ [] } ∷ []; indexes = []; comment = []; start = None }; rows = (Num (pos 1) ∷ Num (pos 10) ∷ []) ∷ [] } ∷ []

abbrev scene_9 : List Entry
scene_9 =
    record { actor = Client 1; session = 1; asked = Call (requests.Begin); side = None; answer = answers.Ok 0; missed = None; draw = None }
    ∷ record { actor = Client 1; session = 1; asked = Call (requests.Do (statements.Update (codes "t") (record { column = codes "a"; value = Num (pos 11) } ∷ []) (conditions.Equal (record { column = codes "id"; value = Num (pos 1) } ∷ [])))); side = None; answer = answers.Ok 1; missed = None; draw = None }
    ∷ record { actor = Client 2; session = 2; asked = Call (requests.Do (statements.Select (codes "t") shown.All (conditions.Equal (record { column = codes "id"; value = Num (pos 1) } ∷ [])))); side = None; answer = answers.Waits 1; missed = None; draw = None }
    ∷ record { actor = Client 3; session = 3; asked = Call (requests.Begin); side = None; answer = answers.Ok 0; missed = None; draw = None }
    ∷ record { actor = Client 3; session = 3; asked = Call (requests.Do (statements.Select (codes "t") shown.All (conditions.Equal (record { column = codes "id"; value = Num (pos 1) } ∷ [])))); side = None; answer = answers.Waits 1; missed = None; draw = None }
    ∷ record { actor = Client 1; session = 1; asked = Call (requests.Rollback); side = None; answer = answers.Ok 0; missed = None; draw = None }
    ∷ record { actor = Client 3; session = 3; asked = Poll; side = None; answer = answers.Rows ((Num (pos 1) ∷ Num (pos 10) ∷ []) ∷ []); missed = None; draw = None }
    ∷ record { actor = Client 4; session = 4; asked = Call (requests.Do (statements.Update (codes "t") (record { column = codes "a"; value = Num (pos 12) } ∷ []) (conditions.Equal (record { column = codes "id"; value = Num (pos 1) } ∷ [])))); side = None; answer = answers.Waits 3; missed = None; draw = None }
    ∷ record { actor = Client 3; session = 3; asked = Call (requests.Commit); side = None; answer = answers.Ok 0; missed = None; draw = None }
    ∷ record { actor = Client 4; session = 4; asked = Poll; side = None; answer = answers.Ok 1; missed = None; draw = None }
    ∷ []

scene_served_9 : IsServed (record { client_wait = 50; tool_wait = 50 }) scene_tables_9 scene_9
unfolding computing
scene_served_9 = record { answers = refl; sides = refl }

-- Two reads of one row go together, and each keeps a write away
abbrev scene_tables_10 : Database
scene_tables_10 = record { schema = record { name = codes "t"; columns = record { name = codes "id"; kind = Int 4 false; nullable = false; default = None; auto = false } ∷ record { name = codes "a"; kind = Int 4 false; nullable = true; default = Some Null; auto = false } ∷ []; uniques = record { name = None; places = 0 ∷ [] } ∷ []; indexes = []; comment = []; start = None }; rows = (Num (pos 1) ∷ Num (pos 10) ∷ []) ∷ [] } ∷ []

abbrev scene_10 : List Entry
scene_10 =
    record { actor = Client 1; session = 1; asked = Call (requests.Begin); side = None; answer = answers.Ok 0; missed = None; draw = None }
    ∷ record { actor = Client 1; session = 1; asked = Call (requests.Do (statements.Select (codes "t") (shown.Columns (codes "a" ∷ [])) (conditions.Equal (record { column = codes "id"; value = Num (pos 1) } ∷ [])))); side = None; answer = answers.Rows ((Num (pos 10) ∷ []) ∷ []); missed = None; draw = None }
    ∷ record { actor = Client 2; session = 2; asked = Call (requests.Begin); side = None; answer = answers.Ok 0; missed = None; draw = None }
    ∷ record { actor = Client 2; session = 2; asked = Call (requests.Do (statements.Select (codes "t") (shown.Columns (codes "a" ∷ [])) (conditions.Equal (record { column = codes "id"; value = Num (pos 1) } ∷ [])))); side = None; answer = answers.Rows ((Num (pos 10) ∷ []) ∷ []); missed = None; draw = None }
    ∷ record { actor = Client 3; session = 3; asked = Call (requests.Do (statements.Delete (codes "t") (conditions.Equal (record { column = codes "id"; value = Num (pos 1) } ∷ [])))); side = None; answer = answers.Waits 1; missed = None; draw = None }
    ∷ record { actor = Client 1; session = 1; asked = Call (requests.Commit); side = None; answer = answers.Ok 0; missed = None; draw = None }
    ∷ record { actor = Client 3; session = 3; asked = Poll; side = None; answer = answers.Waits 2; missed = None; draw = None }
    ∷ record { actor = Client 2; session = 2; asked = Call (requests.Rollback); side = None; answer = answers.Ok 0; missed = None; draw = None }
    ∷ record { actor = Client 3; session = 3; asked = Poll; side = None; answer = answers.Ok 1; missed = None; draw = None }
    ∷ []

scene_served_10 : IsServed (record { client_wait = 50; tool_wait = 50 }) scene_tables_10 scene_10
unfolding computing
scene_served_10 = record { answers = refl; sides = refl }

-- An INSERT waits for an INSERT of the same key: 1062 where that is committed
abbrev scene_tables_11 : Database
scene_tables_11 = record { schema = record { name = codes "t"; columns = record { name = codes "id"; kind = Int 4 false; nullable = false; default = None; auto = false } ∷ record { name = codes "a"; kind = Int 4 false; nullable = true; default = Some Null; auto = false } ∷ []; uniques = record { name = None; places = 0 ∷ [] } ∷ record { name = Some (codes "a"); places = 1 ∷ [] } ∷ []; indexes = []; comment = []; start = None }; rows = [] } ∷ []

abbrev scene_11 : List Entry
scene_11 =
    record { actor = Client 1; session = 1; asked = Call (requests.Begin); side = None; answer = answers.Ok 0; missed = None; draw = None }
    ∷ record { actor = Client 1; session = 1; asked = Call (requests.Do (statements.Insert (codes "t") None (Num (pos 5) ∷ Num (pos 50) ∷ []) None)); side = None; answer = answers.Ok 1; missed = None; draw = None }
    ∷ record { actor = Client 2; session = 2; asked = Call (requests.Do (statements.Insert (codes "t") None (Num (pos 5) ∷ Num (pos 51) ∷ []) None)); side = None; answer = answers.Waits 1; missed = None; draw = None }
    ∷ record { actor = Client 3; session = 3; asked = Call (requests.Do (statements.Insert (codes "t") None (Num (pos 6) ∷ Num (pos 50) ∷ []) None)); side = None; answer = answers.Waits 1; missed = None; draw = None }
    ∷ record { actor = Client 4; session = 4; asked = Call (requests.Do (statements.Insert (codes "t") None (Num (pos 7) ∷ Num (pos 70) ∷ []) None)); side = None; answer = answers.Ok 1; missed = None; draw = None }
    ∷ record { actor = Client 1; session = 1; asked = Call (requests.Commit); side = None; answer = answers.Ok 0; missed = None; draw = None }
    ∷ record { actor = Client 2; session = 2; asked = Poll; side = None; answer = answers.Refused 1062 None; missed = None; draw = None }
    ∷ record { actor = Client 3; session = 3; asked = Poll; side = None; answer = answers.Refused 1062 None; missed = None; draw = None }
    ∷ []

scene_served_11 : IsServed (record { client_wait = 50; tool_wait = 50 }) scene_tables_11 scene_11
unfolding computing
scene_served_11 = record { answers = refl; sides = refl }

-- An INSERT waits for an INSERT of the same key: done where that is rolled back
abbrev scene_tables_12 : Database
scene_tables_12 = record { schema = record { name = codes "t"; columns = record { name = codes "id"; kind = Int 4 false; nullable = false; default = None; auto = false } ∷ []; uniques = record { name = None; places = 0 ∷ [] } ∷ []; indexes = []; comment = []; start = None }; rows = [] } ∷ []

abbrev scene_12 : List Entry
scene_12 =
    record { actor = Client 1; session = 1; asked = Call (requests.Begin); side = None; answer = answers.Ok 0; missed = None; draw = None }
    ∷ record { actor = Client 1; session = 1; asked = Call (requests.Do (statements.Insert (codes "t") None (Num (pos 5) ∷ []) None)); side = None; answer = answers.Ok 1; missed = None; draw = None }
    ∷ record { actor = Client 2; session = 2; asked = Call (requests.Do (statements.Insert (codes "t") None (Num (pos 5) ∷ []) None)); side = None; answer = answers.Waits 1; missed = None; draw = None }
    ∷ record { actor = Client 1; session = 1; asked = Call (requests.Rollback); side = None; answer = answers.Ok 0; missed = None; draw = None }
    ∷ record { actor = Client 2; session = 2; asked = Poll; side = None; answer = answers.Ok 1; missed = None; draw = None }
    ∷ []

scene_served_12 : IsServed (record { client_wait = 50; tool_wait = 50 }) scene_tables_12 scene_12
unfolding computing
scene_served_12 = record { answers = refl; sides = refl }

-- A session that is lost in a transaction has done nothing
abbrev scene_tables_13 : Database
scene_tables_13 = record { schema = record { name = codes "t"; columns = record { name = codes "id"; kind = Int 4 false; nullable = false; default = None; auto = false } ∷ []; uniques = record { name = None; places = 0 ∷ [] } ∷ []; indexes = []; comment = []; start = None }; rows = [] } ∷ []

abbrev scene_13 : List Entry
scene_13 =
    record { actor = Client 1; session = 1; asked = Call (requests.Begin); side = None; answer = answers.Ok 0; missed = None; draw = None }
    ∷ record { actor = Client 1; session = 1; asked = Call (requests.Do (statements.Insert (codes "t") None (Num (pos 5) ∷ []) None)); side = None; answer = answers.Ok 1; missed = None; draw = None }
    ∷ record { actor = Client 2; session = 2; asked = Call (requests.Do (statements.Insert (codes "t") None (Num (pos 5) ∷ []) None)); side = None; answer = answers.Waits 1; missed = None; draw = None }
    ∷ record { actor = Client 1; session = 1; asked = Cut; side = None; answer = answers.Lost; missed = None; draw = None }
    ∷ record { actor = Client 2; session = 2; asked = Poll; side = None; answer = answers.Ok 1; missed = None; draw = None }
    ∷ record { actor = Client 3; session = 3; asked = Call (requests.Do (statements.Select (codes "t") shown.All conditions.All)); side = None; answer = answers.Rows ((Num (pos 5) ∷ []) ∷ []); missed = None; draw = None }
    ∷ []

scene_served_13 : IsServed (record { client_wait = 50; tool_wait = 50 }) scene_tables_13 scene_13
unfolding computing
scene_served_13 = record { answers = refl; sides = refl }

-- A refused statement keeps its locks, and its transaction goes on
abbrev scene_tables_14 : Database
scene_tables_14 = record { schema = record { name = codes "t"; columns = record { name = codes "id"; kind = Int 4 false; nullable = false; default = None; auto = false } ∷ []; uniques = record { name = None; places = 0 ∷ [] } ∷ []; indexes = []; comment = []; start = None }; rows = (Num (pos 1) ∷ []) ∷ [] } ∷ []

abbrev scene_14 : List Entry
scene_14 =
    record { actor = Client 1; session = 1; asked = Call (requests.Begin); side = None; answer = answers.Ok 0; missed = None; draw = None }
    ∷ record { actor = Client 1; session = 1; asked = Call (requests.Do (statements.Insert (codes "t") None (Num (pos 1) ∷ []) None)); side = None; answer = answers.Refused 1062 None; missed = None; draw = None }
    ∷ record { actor = Client 2; session = 2; asked = Call (requests.Do (statements.Delete (codes "t") (conditions.Equal (record { column = codes "id"; value = Num (pos 1) } ∷ [])))); side = None; answer = answers.Waits 1; missed = None; draw = None }
    ∷ record { actor = Client 1; session = 1; asked = Call (requests.Do (statements.Insert (codes "t") None (Num (pos 2) ∷ []) None)); side = None; answer = answers.Ok 1; missed = None; draw = None }
    ∷ record { actor = Client 1; session = 1; asked = Call (requests.Commit); side = None; answer = answers.Ok 0; missed = None; draw = None }
    ∷ record { actor = Client 2; session = 2; asked = Poll; side = None; answer = answers.Ok 1; missed = None; draw = None }
    ∷ record { actor = Client 3; session = 3; asked = Call (requests.Do (statements.Select (codes "t") shown.All conditions.All)); side = None; answer = answers.Rows ((Num (pos 2) ∷ []) ∷ []); missed = None; draw = None }
    ∷ []

scene_served_14 : IsServed (record { client_wait = 50; tool_wait = 50 }) scene_tables_14 scene_14
unfolding computing
scene_served_14 = record { answers = refl; sides = refl }

-- A wait for a row ends with 1205, and its whole transaction is rolled back
abbrev scene_tables_15 : Database
scene_tables_15 = record { schema = record { name = codes "t"; columns = record { name = codes "id"; kind = Int 4 false; nullable = false; default = None; auto = false } ∷ []; uniques = record { name = None; places = 0 ∷ [] } ∷ []; indexes = []; comment = []; start = None }; rows = (Num (pos 1) ∷ []) ∷ [] } ∷ []

abbrev scene_15 : List Entry
scene_15 =
    record { actor = Client 1; session = 1; asked = Call (requests.Begin); side = None; answer = answers.Ok 0; missed = None; draw = None }
    ∷ record { actor = Client 1; session = 1; asked = Call (requests.Do (statements.Delete (codes "t") (conditions.Equal (record { column = codes "id"; value = Num (pos 1) } ∷ [])))); side = None; answer = answers.Ok 1; missed = None; draw = None }
    ∷ record { actor = Client 2; session = 2; asked = Call (requests.Begin); side = None; answer = answers.Ok 0; missed = None; draw = None }
    ∷ record { actor = Client 2; session = 2; asked = Call (requests.Do (statements.Insert (codes "t") None (Num (pos 2) ∷ []) None)); side = None; answer = answers.Ok 1; missed = None; draw = None }
    ∷ record { actor = Client 2; session = 2; asked = Call (requests.Do (statements.Delete (codes "t") (conditions.Equal (record { column = codes "id"; value = Num (pos 1) } ∷ [])))); side = None; answer = answers.Waits 1; missed = None; draw = None }
    ∷ record { actor = Client 2; session = 2; asked = Poll; side = None; answer = answers.TimedOut 1; missed = None; draw = None }
    ∷ record { actor = Client 1; session = 1; asked = Call (requests.Rollback); side = None; answer = answers.Ok 0; missed = None; draw = None }
    ∷ record { actor = Client 3; session = 3; asked = Call (requests.Do (statements.Select (codes "t") shown.All conditions.All)); side = None; answer = answers.Rows ((Num (pos 1) ∷ []) ∷ []); missed = None; draw = None }
    ∷ []

scene_served_15 : IsServed (record { client_wait = 1; tool_wait = 50 }) scene_tables_15 scene_15
unfolding computing
scene_served_15 = record { answers = refl; sides = refl }

-- A wait for a name ends with 1205
abbrev scene_tables_16 : Database
scene_tables_16 = record { schema = record { name = codes "t"; columns = record { name = codes "id"; kind = Int 4 false; nullable = false; default = None; auto = false } ∷ []; uniques = record { name = None; places = 0 ∷ [] } ∷ []; indexes = []; comment = []; start = None }; rows = [] } ∷ []

abbrev scene_16 : List Entry
scene_16 =
    record { actor = Lock; session = 1; asked = Call (requests.LockTables (codes "t" ∷ [])); side = None; answer = answers.Ok 0; missed = None; draw = None }
    ∷ record { actor = Client 1; session = 2; asked = Call (requests.Do (statements.Insert (codes "t") None (Num (pos 1) ∷ []) None)); side = None; answer = answers.Waits 1; missed = None; draw = None }
    ∷ record { actor = Client 1; session = 2; asked = Poll; side = None; answer = answers.TimedOut 1; missed = None; draw = None }
    ∷ record { actor = Lock; session = 1; asked = Call (requests.Unlock); side = None; answer = answers.Ok 0; missed = None; draw = None }
    ∷ record { actor = Client 1; session = 2; asked = Call (requests.Do (statements.Insert (codes "t") None (Num (pos 1) ∷ []) None)); side = None; answer = answers.Ok 1; missed = None; draw = None }
    ∷ []

scene_served_16 : IsServed (record { client_wait = 1; tool_wait = 50 }) scene_tables_16 scene_16
unfolding computing
scene_served_16 = record { answers = refl; sides = refl }

-- A key that isn't there is locked too
abbrev scene_tables_17 : Database
scene_tables_17 = record { schema = record { name = codes "t"; columns = record { name = codes "id"; kind = Int 4 false; nullable = false; default = None; auto = false } ∷ []; uniques = record { name = None; places = 0 ∷ [] } ∷ []; indexes = []; comment = []; start = None }; rows = (Num (pos 1) ∷ []) ∷ (Num (pos 9) ∷ []) ∷ [] } ∷ []

abbrev scene_17 : List Entry
scene_17 =
    record { actor = Client 1; session = 1; asked = Call (requests.Begin); side = None; answer = answers.Ok 0; missed = None; draw = None }
    ∷ record { actor = Client 1; session = 1; asked = Call (requests.Do (statements.Select (codes "t") shown.All (conditions.Equal (record { column = codes "id"; value = Num (pos 5) } ∷ [])))); side = None; answer = answers.Rows ([]); missed = None; draw = None }
    ∷ record { actor = Client 2; session = 2; asked = Call (requests.Do (statements.Insert (codes "t") None (Num (pos 5) ∷ []) None)); side = None; answer = answers.Waits 1; missed = None; draw = None }
    ∷ record { actor = Client 1; session = 1; asked = Call (requests.Commit); side = None; answer = answers.Ok 0; missed = None; draw = None }
    ∷ record { actor = Client 2; session = 2; asked = Poll; side = None; answer = answers.Ok 1; missed = None; draw = None }
    ∷ []

scene_served_17 : IsServed (record { client_wait = 50; tool_wait = 50 }) scene_tables_17 scene_17
unfolding computing
scene_served_17 = record { answers = refl; sides = refl }

-- A lock on a key that isn't there takes no others
abbrev scene_tables_18 : Database
scene_tables_18 = record { schema = record { name = codes "t"; columns = record { name = codes "id"; kind = Int 4 false; nullable = false; default = None; auto = false } ∷ []; uniques = record { name = None; places = 0 ∷ [] } ∷ []; indexes = []; comment = []; start = None }; rows = (Num (pos 1) ∷ []) ∷ (Num (pos 9) ∷ []) ∷ [] } ∷ []

abbrev scene_18 : List Entry
scene_18 =
    record { actor = Client 1; session = 1; asked = Call (requests.Begin); side = None; answer = answers.Ok 0; missed = None; draw = None }
    ∷ record { actor = Client 1; session = 1; asked = Call (requests.Do (statements.Select (codes "t") shown.All (conditions.Equal (record { column = codes "id"; value = Num (pos 5) } ∷ [])))); side = None; answer = answers.Rows ([]); missed = None; draw = None }
    ∷ record { actor = Client 2; session = 2; asked = Call (requests.Do (statements.Insert (codes "t") None (Num (pos 6) ∷ []) None)); side = None; answer = answers.Ok 1; missed = None; draw = None }
    ∷ record { actor = Client 1; session = 1; asked = Call (requests.Commit); side = None; answer = answers.Ok 0; missed = None; draw = None }
    ∷ []

scene_served_18 : IsServed (record { client_wait = 50; tool_wait = 50 }) scene_tables_18 scene_18
unfolding computing
scene_served_18 = record { answers = refl; sides = refl }

-- Two writes of a key that isn't there
abbrev scene_tables_19 : Database
scene_tables_19 = record { schema = record { name = codes "t"; columns = record { name = codes "id"; kind = Int 4 false; nullable = false; default = None; auto = false } ∷ []; uniques = record { name = None; places = 0 ∷ [] } ∷ []; indexes = []; comment = []; start = None }; rows = (Num (pos 1) ∷ []) ∷ (Num (pos 9) ∷ []) ∷ [] } ∷ []

abbrev scene_19 : List Entry
scene_19 =
    record { actor = Client 1; session = 1; asked = Call (requests.Begin); side = None; answer = answers.Ok 0; missed = None; draw = None }
    ∷ record { actor = Client 1; session = 1; asked = Call (requests.Do (statements.Delete (codes "t") (conditions.Equal (record { column = codes "id"; value = Num (pos 5) } ∷ [])))); side = None; answer = answers.Ok 0; missed = None; draw = None }
    ∷ record { actor = Client 2; session = 2; asked = Call (requests.Do (statements.Delete (codes "t") (conditions.Equal (record { column = codes "id"; value = Num (pos 5) } ∷ [])))); side = None; answer = answers.Waits 1; missed = None; draw = None }
    ∷ record { actor = Client 1; session = 1; asked = Call (requests.Commit); side = None; answer = answers.Ok 0; missed = None; draw = None }
    ∷ []

scene_served_19 : IsServed (record { client_wait = 50; tool_wait = 50 }) scene_tables_19 scene_19
unfolding computing
scene_served_19 = record { answers = refl; sides = refl }

-- A chunk that is copied keeps writes of its rows away, and those alone
abbrev scene_tables_20 : Database
scene_tables_20 = record { schema = record { name = codes "t"; columns = record { name = codes "id"; kind = Int 4 false; nullable = false; default = None; auto = false } ∷ []; uniques = record { name = None; places = 0 ∷ [] } ∷ []; indexes = []; comment = []; start = None }; rows = (Num (pos 1) ∷ []) ∷ (Num (pos 2) ∷ []) ∷ (Num (pos 3) ∷ []) ∷ (Num (pos 7) ∷ []) ∷ (Num (pos 9) ∷ []) ∷ [] } ∷ record { schema = record { name = codes "_t_gho"; columns = record { name = codes "id"; kind = Int 4 false; nullable = false; default = None; auto = false } ∷ record { name = codes "b"; kind = Int 4 false; nullable = false; default = Some (Num (pos 7)); auto = false } ∷ []; uniques = record { name = None; places = 0 ∷ [] } ∷ []; indexes = []; comment = []; start = None }; rows = [] } ∷ []

abbrev scene_20 : List Entry
scene_20 =
    record { actor = Copy; session = 1; asked = Call (requests.Begin); side = None; answer = answers.Ok 0; missed = None; draw = None }
    ∷ record { actor = Copy; session = 1; asked = Call (requests.BeginSpan (codes "t") (record { low = Closed (Num (pos 1) ∷ []); high = Closed (Num (pos 3) ∷ []) }) 3); side = None; answer = answers.Keys ((Num (pos 1) ∷ []) ∷ (Num (pos 2) ∷ []) ∷ (Num (pos 3) ∷ []) ∷ []) (Num (pos 3) ∷ []); missed = None; draw = None }
    ∷ record { actor = Copy; session = 1; asked = Call (requests.CopyRow (codes "t") (codes "_t_gho") (record { kind = Int 4 false; nullable = false; origin = from.Old 0 } ∷ record { kind = Int 4 false; nullable = false; origin = from.Added (Num (pos 7)) } ∷ []) (Num (pos 1) ∷ [])); side = None; answer = answers.Ok 1; missed = None; draw = None }
    ∷ record { actor = Copy; session = 1; asked = Call (requests.CopyRow (codes "t") (codes "_t_gho") (record { kind = Int 4 false; nullable = false; origin = from.Old 0 } ∷ record { kind = Int 4 false; nullable = false; origin = from.Added (Num (pos 7)) } ∷ []) (Num (pos 2) ∷ [])); side = None; answer = answers.Ok 1; missed = None; draw = None }
    ∷ record { actor = Copy; session = 1; asked = Call (requests.CopyRow (codes "t") (codes "_t_gho") (record { kind = Int 4 false; nullable = false; origin = from.Old 0 } ∷ record { kind = Int 4 false; nullable = false; origin = from.Added (Num (pos 7)) } ∷ []) (Num (pos 3) ∷ [])); side = None; answer = answers.Ok 1; missed = None; draw = None }
    ∷ record { actor = Client 1; session = 2; asked = Call (requests.Do (statements.Delete (codes "t") (conditions.Equal (record { column = codes "id"; value = Num (pos 2) } ∷ [])))); side = None; answer = answers.Waits 1; missed = None; draw = None }
    ∷ record { actor = Client 2; session = 3; asked = Call (requests.Do (statements.Insert (codes "t") None (Num (pos 8) ∷ []) None)); side = None; answer = answers.Ok 1; missed = None; draw = None }
    ∷ record { actor = Client 3; session = 4; asked = Call (requests.Do (statements.Select (codes "t") shown.All (conditions.Equal (record { column = codes "id"; value = Num (pos 3) } ∷ [])))); side = None; answer = answers.Rows ((Num (pos 3) ∷ []) ∷ []); missed = None; draw = None }
    ∷ record { actor = Copy; session = 1; asked = Call (requests.Commit); side = None; answer = answers.Ok 0; missed = None; draw = None }
    ∷ record { actor = Client 1; session = 2; asked = Poll; side = None; answer = answers.Ok 1; missed = None; draw = None }
    ∷ record { actor = Insp; session = 5; asked = Call (requests.Do (statements.Select (codes "_t_gho") shown.All conditions.All)); side = None; answer = answers.Rows ((Num (pos 1) ∷ Num (pos 7) ∷ []) ∷ (Num (pos 2) ∷ Num (pos 7) ∷ []) ∷ (Num (pos 3) ∷ Num (pos 7) ∷ []) ∷ []); missed = None; draw = None }
    ∷ []

scene_served_20 : IsServed (record { client_wait = 50; tool_wait = 50 }) scene_tables_20 scene_20
unfolding computing
scene_served_20 = record { answers = refl; sides = refl }

-- What the log brought stays where the copy comes later
abbrev scene_tables_21 : Database
scene_tables_21 = record { schema = record { name = codes "t"; columns = record { name = codes "id"; kind = Int 4 false; nullable = false; default = None; auto = false } ∷ record { name = codes "a"; kind = Int 4 false; nullable = true; default = Some Null; auto = false } ∷ []; uniques = record { name = None; places = 0 ∷ [] } ∷ []; indexes = []; comment = []; start = None }; rows = (Num (pos 2) ∷ Num (pos 4) ∷ []) ∷ [] } ∷ record { schema = record { name = codes "_t_gho"; columns = record { name = codes "id"; kind = Int 4 false; nullable = false; default = None; auto = false } ∷ record { name = codes "a"; kind = Int 4 false; nullable = true; default = Some Null; auto = false } ∷ []; uniques = record { name = None; places = 0 ∷ [] } ∷ []; indexes = []; comment = []; start = None }; rows = [] } ∷ []

abbrev scene_21 : List Entry
scene_21 =
    record { actor = Apply; session = 1; asked = Call (requests.Do (statements.Replace (codes "_t_gho") None (Num (pos 2) ∷ Num (pos 5) ∷ []) None)); side = None; answer = answers.Ok 1; missed = None; draw = None }
    ∷ record { actor = Copy; session = 2; asked = Call (requests.CopyRow (codes "t") (codes "_t_gho") (record { kind = Int 4 false; nullable = false; origin = from.Old 0 } ∷ record { kind = Int 4 false; nullable = true; origin = from.Old 1 } ∷ []) (Num (pos 2) ∷ [])); side = None; answer = answers.Ok 0; missed = None; draw = None }
    ∷ record { actor = Insp; session = 3; asked = Call (requests.Do (statements.Select (codes "_t_gho") shown.All conditions.All)); side = None; answer = answers.Rows ((Num (pos 2) ∷ Num (pos 5) ∷ []) ∷ []); missed = None; draw = None }
    ∷ []

scene_served_21 : IsServed (record { client_wait = 50; tool_wait = 50 }) scene_tables_21 scene_21
unfolding computing
scene_served_21 = record { answers = refl; sides = refl }

-- The applier waits for the copier's rows
abbrev scene_tables_22 : Database
scene_tables_22 = record { schema = record { name = codes "t"; columns = record { name = codes "id"; kind = Int 4 false; nullable = false; default = None; auto = false } ∷ record { name = codes "a"; kind = Int 4 false; nullable = true; default = Some Null; auto = false } ∷ []; uniques = record { name = None; places = 0 ∷ [] } ∷ []; indexes = []; comment = []; start = None }; rows = (Num (pos 1) ∷ Num (pos 10) ∷ []) ∷ [] } ∷ record { schema = record { name = codes "_t_gho"; columns = record { name = codes "id"; kind = Int 4 false; nullable = false; default = None; auto = false } ∷ record { name = codes "a"; kind = Int 4 false; nullable = true; default = Some Null; auto = false } ∷ []; uniques = record { name = None; places = 0 ∷ [] } ∷ []; indexes = []; comment = []; start = None }; rows = [] } ∷ []

abbrev scene_22 : List Entry
scene_22 =
    record { actor = Copy; session = 1; asked = Call (requests.Begin); side = None; answer = answers.Ok 0; missed = None; draw = None }
    ∷ record { actor = Copy; session = 1; asked = Call (requests.CopyRow (codes "t") (codes "_t_gho") (record { kind = Int 4 false; nullable = false; origin = from.Old 0 } ∷ record { kind = Int 4 false; nullable = true; origin = from.Old 1 } ∷ []) (Num (pos 1) ∷ [])); side = None; answer = answers.Ok 1; missed = None; draw = None }
    ∷ record { actor = Apply; session = 2; asked = Call (requests.Do (statements.Replace (codes "_t_gho") None (Num (pos 1) ∷ Num (pos 11) ∷ []) None)); side = None; answer = answers.Waits 1; missed = None; draw = None }
    ∷ record { actor = Copy; session = 1; asked = Call (requests.Commit); side = None; answer = answers.Ok 0; missed = None; draw = None }
    ∷ record { actor = Apply; session = 2; asked = Poll; side = None; answer = answers.Ok 2; missed = None; draw = None }
    ∷ record { actor = Insp; session = 3; asked = Call (requests.Do (statements.Select (codes "_t_gho") shown.All conditions.All)); side = None; answer = answers.Rows ((Num (pos 1) ∷ Num (pos 11) ∷ []) ∷ []); missed = None; draw = None }
    ∷ []

scene_served_22 : IsServed (record { client_wait = 50; tool_wait = 50 }) scene_tables_22 scene_22
unfolding computing
scene_served_22 = record { answers = refl; sides = refl }

-- A RENAME waits for a transaction of any of its tables
abbrev scene_tables_23 : Database
scene_tables_23 = record { schema = record { name = codes "t"; columns = record { name = codes "id"; kind = Int 4 false; nullable = false; default = None; auto = false } ∷ []; uniques = record { name = None; places = 0 ∷ [] } ∷ []; indexes = []; comment = []; start = None }; rows = [] } ∷ record { schema = record { name = codes "u"; columns = record { name = codes "id"; kind = Int 4 false; nullable = false; default = None; auto = false } ∷ []; uniques = record { name = None; places = 0 ∷ [] } ∷ []; indexes = []; comment = []; start = None }; rows = [] } ∷ []

abbrev scene_23 : List Entry
scene_23 =
    record { actor = Client 1; session = 1; asked = Call (requests.Begin); side = None; answer = answers.Ok 0; missed = None; draw = None }
    ∷ record { actor = Client 1; session = 1; asked = Call (requests.Do (statements.Insert (codes "u") None (Num (pos 1) ∷ []) None)); side = None; answer = answers.Ok 1; missed = None; draw = None }
    ∷ record { actor = Ren; session = 2; asked = Call (requests.Rename (record { old = codes "t"; new = codes "v" } ∷ record { old = codes "u"; new = codes "t" } ∷ [])); side = None; answer = answers.Waits 1; missed = None; draw = None }
    ∷ record { actor = Client 2; session = 3; asked = Call (requests.Do (statements.Select (codes "t") shown.All conditions.All)); side = None; answer = answers.Waits 2; missed = None; draw = None }
    ∷ record { actor = Client 1; session = 1; asked = Call (requests.Commit); side = None; answer = answers.Ok 0; missed = None; draw = None }
    ∷ record { actor = Ren; session = 2; asked = Poll; side = None; answer = answers.Ok 0; missed = None; draw = None }
    ∷ record { actor = Client 2; session = 3; asked = Poll; side = None; answer = answers.Rows ((Num (pos 1) ∷ []) ∷ []); missed = None; draw = None }
    ∷ []

scene_served_23 : IsServed (record { client_wait = 50; tool_wait = 50 }) scene_tables_23 scene_23
unfolding computing
scene_served_23 = record { answers = refl; sides = refl }

-- A DROP waits for a transaction that has read the table, which reads on
abbrev scene_tables_24 : Database
scene_tables_24 = record { schema = record { name = codes "t"; columns = record { name = codes "id"; kind = Int 4 false; nullable = false; default = None; auto = false } ∷ []; uniques = record { name = None; places = 0 ∷ [] } ∷ []; indexes = []; comment = []; start = None }; rows = (Num (pos 1) ∷ []) ∷ [] } ∷ []

abbrev scene_24 : List Entry
scene_24 =
    record { actor = Client 1; session = 1; asked = Call (requests.Begin); side = None; answer = answers.Ok 0; missed = None; draw = None }
    ∷ record { actor = Client 1; session = 1; asked = Call (requests.Do (statements.Select (codes "t") shown.All conditions.All)); side = None; answer = answers.Rows ((Num (pos 1) ∷ []) ∷ []); missed = None; draw = None }
    ∷ record { actor = Insp; session = 2; asked = Call (requests.Drop (codes "t")); side = None; answer = answers.Waits 1; missed = None; draw = None }
    ∷ record { actor = Client 1; session = 1; asked = Call (requests.Do (statements.Select (codes "t") shown.All conditions.All)); side = None; answer = answers.Rows ((Num (pos 1) ∷ []) ∷ []); missed = None; draw = None }
    ∷ record { actor = Client 2; session = 3; asked = Call (requests.Do (statements.Insert (codes "t") None (Num (pos 2) ∷ []) None)); side = None; answer = answers.Waits 1; missed = None; draw = None }
    ∷ record { actor = Client 1; session = 1; asked = Call (requests.Commit); side = None; answer = answers.Ok 0; missed = None; draw = None }
    ∷ record { actor = Insp; session = 2; asked = Poll; side = None; answer = answers.Ok 0; missed = None; draw = None }
    ∷ record { actor = Client 2; session = 3; asked = Poll; side = None; answer = answers.Refused 1146 None; missed = None; draw = None }
    ∷ record { actor = Client 1; session = 1; asked = Call (requests.Do (statements.Select (codes "t") shown.All conditions.All)); side = None; answer = answers.Refused 1146 None; missed = None; draw = None }
    ∷ []

scene_served_24 : IsServed (record { client_wait = 50; tool_wait = 50 }) scene_tables_24 scene_24
unfolding computing
scene_served_24 = record { answers = refl; sides = refl }

-- A waiting exclusive request gives up, and those behind it go on
abbrev scene_tables_25 : Database
scene_tables_25 = record { schema = record { name = codes "t"; columns = record { name = codes "id"; kind = Int 4 false; nullable = false; default = None; auto = false } ∷ []; uniques = record { name = None; places = 0 ∷ [] } ∷ []; indexes = []; comment = []; start = None }; rows = (Num (pos 1) ∷ []) ∷ [] } ∷ []

abbrev scene_25 : List Entry
scene_25 =
    record { actor = Client 1; session = 1; asked = Call (requests.Begin); side = None; answer = answers.Ok 0; missed = None; draw = None }
    ∷ record { actor = Client 1; session = 1; asked = Call (requests.Do (statements.Select (codes "t") shown.All conditions.All)); side = None; answer = answers.Rows ((Num (pos 1) ∷ []) ∷ []); missed = None; draw = None }
    ∷ record { actor = Lock; session = 2; asked = Call (requests.LockTables (codes "t" ∷ [])); side = None; answer = answers.Waits 1; missed = None; draw = None }
    ∷ record { actor = Client 2; session = 3; asked = Call (requests.Do (statements.Insert (codes "t") None (Num (pos 2) ∷ []) None)); side = None; answer = answers.Waits 1; missed = None; draw = None }
    ∷ record { actor = Lock; session = 2; asked = Poll; side = None; answer = answers.TimedOut 1; missed = None; draw = None }
    ∷ record { actor = Client 2; session = 3; asked = Poll; side = None; answer = answers.Waits 1; missed = None; draw = None }
    ∷ record { actor = Client 1; session = 1; asked = Call (requests.Commit); side = None; answer = answers.Ok 0; missed = None; draw = None }
    ∷ record { actor = Client 2; session = 3; asked = Poll; side = None; answer = answers.Ok 1; missed = None; draw = None }
    ∷ []

scene_served_25 : IsServed (record { client_wait = 50; tool_wait = 1 }) scene_tables_25 scene_25
unfolding computing
scene_served_25 = record { answers = refl; sides = refl }

-- A read that waited for a lock, and then for a RENAME, finds the table gone
abbrev scene_tables_26 : Database
scene_tables_26 = record { schema = record { name = codes "t"; columns = record { name = codes "id"; kind = Int 4 false; nullable = false; default = None; auto = false } ∷ []; uniques = record { name = None; places = 0 ∷ [] } ∷ []; indexes = []; comment = []; start = None }; rows = [] } ∷ []

abbrev scene_26 : List Entry
scene_26 =
    record { actor = Client 1; session = 1; asked = Call (requests.Begin); side = None; answer = answers.Ok 0; missed = None; draw = None }
    ∷ record { actor = Client 1; session = 1; asked = Call (requests.Do (statements.Select (codes "t") shown.All conditions.All)); side = None; answer = answers.Rows ([]); missed = None; draw = None }
    ∷ record { actor = Lock; session = 2; asked = Call (requests.LockTables (codes "t" ∷ [])); side = None; answer = answers.Waits 1; missed = None; draw = None }
    ∷ record { actor = Client 2; session = 3; asked = Call (requests.Do (statements.Select (codes "t") shown.All conditions.All)); side = None; answer = answers.Waits 2; missed = None; draw = None }
    ∷ record { actor = Client 1; session = 1; asked = Call (requests.Commit); side = None; answer = answers.Ok 0; missed = None; draw = None }
    ∷ record { actor = Lock; session = 2; asked = Poll; side = None; answer = answers.Ok 0; missed = None; draw = None }
    ∷ record { actor = Ren; session = 4; asked = Call (requests.Rename (record { old = codes "t"; new = codes "u" } ∷ [])); side = None; answer = answers.Waits 2; missed = None; draw = None }
    ∷ record { actor = Client 2; session = 3; asked = Poll; side = None; answer = answers.Waits 2; missed = None; draw = None }
    ∷ record { actor = Lock; session = 2; asked = Call (requests.Unlock); side = None; answer = answers.Ok 0; missed = None; draw = None }
    ∷ record { actor = Client 2; session = 3; asked = Poll; side = None; answer = answers.Waits 4; missed = None; draw = None }
    ∷ record { actor = Ren; session = 4; asked = Poll; side = None; answer = answers.Ok 0; missed = None; draw = None }
    ∷ record { actor = Client 2; session = 3; asked = Poll; side = None; answer = answers.Refused 1146 None; missed = None; draw = None }
    ∷ []

scene_served_26 : IsServed (record { client_wait = 50; tool_wait = 50 }) scene_tables_26 scene_26
unfolding computing
scene_served_26 = record { answers = refl; sides = refl }
