-- The scripts of a workload's clients are read, and are few enough.
use Rattle.std.proofs.Common.{◌≡◌, ℕ, zero, suc, ◌+◌, ◌*◌, ◌%◌, ◌≤◌, ◌==◌, Bool, true, false, cond, nat_lt, List, map, Ok, refl, arith}
use Rattle.std.proofs.lemmas.Bool.Decides.{nat_tests}
use Rattle.std.proofs.lemmas.List.FromFn.{length-map-range_with_len}
use Rattle.std.proofs.lemmas.List.Sums.{count_by-le-length, sum_by-cons}
use Rattle.std.specs.List.{count_by, range_with_len}
use Rattle.base_script.specs.declared.script.ScriptLine.{ScriptLine}
use Rattle.base_script.specs.declared.script.ScriptWord.TheVariants.{Do}
use Rattle.base_values.specs.ToolNames.{ghost_name, log_name, old_name}
use Rattle.plan_reader.specs.PlanTables.Rows.{next_number}
use Rattle.plan_reader.specs.Clients.{is_statement, is_open_select, line_count, client_script, tool_names, clients_of}
use Rattle.plan_reader.specs.Walks.{each_from}
use Rattle.top_workload.specs.Draws.{drawn, state_after}
use Rattle.top_workload.specs.Workloads.{row_count, client_count}
use Rattle.law_texts.specs.Workloads.Scripts.{insert_of, delete_of, change_of, move_of, asked_of, asked_at, script, scripts}
use Rattle.law_texts.proofs.Workloads.ScriptsRead.{AreOther, script_read}
use Rattle.law_texts.proofs.Workloads.Document.Texts.{rows_counted}
use Rattle.law_texts.specs.Workloads.Document.Texts.{table_name, client_state, script_text, script_texts}

-- ---- reading

tools_are_other : AreOther (tool_names table_name)
unfolding ghost_name log_name old_name
tools_are_other = refl

abbrev script_at : ℕ → ℕ → List ScriptLine
script_at number client = script (row_count number) (client_state number client)

abbrev text_at : ℕ → ℕ → List ℕ
text_at number client = script_text (row_count number) (client_state number client)

each_read : (number next client count : ℕ) → each_from (client_script (tool_names table_name)) next (map (text_at number) (range_with_len client count)) ≡ Ok (map (script_at number) (range_with_len client count))
unfolding each_from
each_read number next client zero = refl
each_read number next client (suc count) =
    rw (script_read (tool_names table_name) (row_count number) (client_state number client) tools_are_other (rows_counted number), each_read number (next_number next) (client + 1) count) refl

-- ---- counting

chosen_closed : (inserts deletes changes : Bool) (key value : ℕ) → is_open_select (Do (cond inserts (insert_of key value) (cond deletes (delete_of key) (cond changes (change_of key value) (move_of key))))) ≡ false
unfolding is_open_select
chosen_closed true deletes changes key value = refl
chosen_closed false true changes key value = refl
chosen_closed false false true key value = refl
chosen_closed false false false key value = refl

asked_closed : (what key : ℕ) → is_open_select (Do (asked_of what key)) ≡ false
unfolding asked_of
asked_closed what key = chosen_closed (what % 4 == 0) (what % 4 == 1) (what % 4 == 2) key (what % 1000)

abbrev line_at : ℕ → ℕ → ℕ → ScriptLine
line_at rows state line = record { line = line + 1; word = Do (asked_at rows state line) }

none_open : (rows state line count : ℕ) → count_by (λ line. is_open_select line.word) (map (line_at rows state) (range_with_len line count)) ≡ 0
none_open rows state line zero = refl
none_open rows state line (suc count) =
    let start = state_after state (2 * line) in
    let closed = asked_closed (drawn start) (1 + drawn (state_after start 1) % (2 * rows)) in
    let one : ScriptLine → ℕ = λ line. cond (is_open_select line.word) 1 0 in
    let here : one (line_at rows state line) ≡ 0 = rw closed refl in
    let both = sum_by-cons one (line_at rows state line) (map (line_at rows state) (range_with_len (line + 1) count)) in
    let more = none_open rows state (line + 1) count in
    omega (arith, here, both, more)

script_closed : (rows state : ℕ) → count_by (λ line. is_open_select line.word) (script rows state) ≡ 0
unfolding script
script_closed rows state = none_open rows state 0 30

scripts_closed : (number client count : ℕ) → line_count is_open_select (map (script_at number) (range_with_len client count)) ≡ 0
scripts_closed number client zero = refl
scripts_closed number client (suc count) =
    let more = scripts_closed number (client + 1) count in
    let here = script_closed (row_count number) (client_state number client) in
    let both = sum_by-cons (λ script. count_by (λ line. is_open_select line.word) script) (script_at number client) (map (script_at number) (range_with_len (client + 1) count)) in
    omega (arith, more, here, both)

script_small : (rows state : ℕ) → count_by (λ line. is_statement line.word) (script rows state) ≤ 30
unfolding script
script_small rows state =
    let lines = map (line_at rows state) (range_with_len 0 30) in
    let most = count_by-le-length (λ line. is_statement line.word) lines in
    omega (arith, most, length-map-range_with_len (line_at rows state) 0 30)

scripts_small : (number client count : ℕ) → line_count is_statement (map (script_at number) (range_with_len client count)) ≤ 30 * count
scripts_small number client zero = omega arith
scripts_small number client (suc count) =
    let more = scripts_small number (client + 1) count in
    let here = script_small (row_count number) (client_state number client) in
    let both = sum_by-cons (λ script. count_by (λ line. is_statement line.word) script) (script_at number client) (map (script_at number) (range_with_len (client + 1) count)) in
    omega (arith, more, here, both)

few : (number : ℕ) → nat_lt 50000 (line_count is_statement (map (script_at number) (range_with_len 0 (client_count number)))) ≡ false
few number = let most = scripts_small number 0 (client_count number) in let within : line_count is_statement (map (script_at number) (range_with_len 0 (client_count number))) ≤ 50000 = omega (arith, most) in grind (arith, nat_tests)

pub clients_read : (number : ℕ) → clients_of table_name (script_texts number) ≡ Ok (scripts number)
unfolding clients_of scripts script_texts
clients_read number = rw (each_read number 1 0 (client_count number)) (rw (few number, scripts_closed number 0 (client_count number)) refl)
