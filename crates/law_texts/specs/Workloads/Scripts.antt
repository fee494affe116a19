-- What a workload's clients ask for. This project's rule.
use Rattle.std.specs.Prelude.{codes, ℕ, pos, ◌+◌, ◌*◌, ◌%◌, ◌==◌, if◌then◌else◌, List, [], ◌∷◌, ◌++◌, map, Some, None}
use Rattle.std.specs.Fmt.{decimal}
use Rattle.std.specs.List.{range_with_len}
use Rattle.base_values.specs.declared.value.Value.TheVariants.{Num, Text}
use Rattle.base_script.specs.declared.script.ScriptLine.{ScriptLine}
use Rattle.base_script.specs.declared.script.ScriptWord.TheVariants.{Do}
use Rattle.base_script.specs.declared.statement.Condition.{Condition}
use Rattle.base_script.specs.declared.statement.Condition.TheVariants.{Equal}
use Rattle.base_script.specs.declared.statement.Statement.{Statement}
use Rattle.base_script.specs.declared.statement.Statement.TheVariants.{Insert, Delete, Update}
use Rattle.top_workload.specs.Draws.{drawn, state_after}
use Rattle.top_workload.specs.Workloads.{row_count, client_count}
use Rattle.law_texts.specs.Workloads.Document.Texts.{table_name, client_state}

-- ---- statements

-- the row of a key
abbrev pub at_key : ℕ → Condition
at_key key = Equal (record { column = codes "id"; value = Num (pos key) } ∷ [])

abbrev pub insert_of : ℕ → ℕ → Statement
insert_of key value = Insert table_name (Some (codes "id" ∷ codes "u" ∷ codes "v" ∷ [])) (Num (pos key) ∷ Text (codes "n" ++ decimal key) ∷ Num (pos value) ∷ []) None

abbrev pub delete_of : ℕ → Statement
delete_of key = Delete table_name (at_key key)

-- a new value, and a new key
abbrev pub change_of : ℕ → ℕ → Statement
change_of key value = Update table_name (record { column = codes "v"; value = Num (pos value) } ∷ []) (at_key key)

abbrev pub move_of : ℕ → Statement
move_of key = Update table_name (record { column = codes "id"; value = Num (pos (key + 1)) } ∷ []) (at_key key)

-- the statement on a key that a drawn number says
unfoldable pub asked_of : ℕ → ℕ → Statement
asked_of what key =
    if what % 4 == 0 then insert_of key (what % 1000) else (if what % 4 == 1 then delete_of key else (if what % 4 == 2 then change_of key (what % 1000) else move_of key))

-- ---- clients

-- the statement after this many others of a client, whose draws begin at the state; each takes two draws
abbrev pub asked_at : ℕ → ℕ → ℕ → Statement
asked_at rows state line = asked_of (drawn (state_after state (2 * line))) (1 + drawn (state_after (state_after state (2 * line)) 1) % (2 * rows))

-- a client's script: 30 statements, each a transaction, line by line
unfoldable pub script : ℕ → ℕ → List ScriptLine
script rows state = map (λ line. record { line = line + 1; word = Do (asked_at rows state line) }) (range_with_len 0 30)

-- the scripts of a workload's clients
unfoldable pub scripts : ℕ → List (List ScriptLine)
scripts number = map (λ client. script (row_count number) (client_state number client)) (range_with_len 0 (client_count number))
