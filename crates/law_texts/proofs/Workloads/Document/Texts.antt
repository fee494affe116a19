-- The texts of a workload's rows and statements, by their pieces.
use Rattle.std.proofs.Common.{◌≡◌, ℕ, ◌+◌, ◌*◌, ◌%◌, ◌<◌, ◌≤◌, ◌^◌, ◌==◌, Bool, true, false, cond, List, [], ◌∷◌, ◌++◌, refl, codes, arith, append_assoc}
use Rattle.std.proofs.Math.Nat.{mod-lt}
use Rattle.std.specs.Fmt.{decimal}
use Rattle.top_workload.specs.Draws.{drawn, state_after}
use Rattle.top_workload.specs.Workloads as gen
use Rattle.top_workload.specs.Workloads.{row_count, insert_line, delete_line, change_line, move_line, client_line}
use Rattle.law_texts.specs.Workloads.Document.Texts.{row_sql}

-- ---- rows

-- the values of a row in parentheses, the second of which is a text of a letter and the key
abbrev pub values_text : ℕ → ℕ → ℕ → List ℕ
values_text letter key value = 40 ∷ (decimal key ++ (44 ∷ 32 ∷ 39 ∷ letter ∷ (decimal key ++ (39 ∷ 44 ∷ 32 ∷ (decimal value ++ 41 ∷ [])))))

pub text_is : (key value : ℕ) → row_sql key value ≡ values_text 117 key value
unfolding row_sql
text_is key value = simp append_assoc refl

-- ---- statements

abbrev pub where_sql : ℕ → List ℕ
where_sql key = codes " WHERE id = " ++ decimal key

abbrev pub delete_sql : ℕ → List ℕ
delete_sql key = codes "DELETE FROM g" ++ where_sql key

-- behind a column's name
abbrev pub set_sql : ℕ → ℕ → List ℕ
set_sql value key = codes "= " ++ (decimal value ++ where_sql key)

abbrev pub change_sql : ℕ → ℕ → List ℕ
change_sql key value = codes "UPDATE g SET v " ++ set_sql value key

abbrev pub move_sql : ℕ → List ℕ
move_sql key = codes "UPDATE g SET id " ++ set_sql (key + 1) key

abbrev pub insert_sql : ℕ → ℕ → List ℕ
insert_sql key value = codes "INSERT INTO g (id, u, v) VALUES " ++ values_text 110 key value

-- the text of the statement that the tests and the numbers say
abbrev pub chosen_sql : Bool → Bool → Bool → ℕ → ℕ → List ℕ
chosen_sql inserts deletes changes key value = cond inserts (insert_sql key value) (cond deletes (delete_sql key) (cond changes (change_sql key value) (move_sql key)))

abbrev pub asked_sql : ℕ → ℕ → List ℕ
asked_sql what key = chosen_sql (what % 4 == 0) (what % 4 == 1) (what % 4 == 2) key (what % 1000)

-- ---- lines

chosen_text : (inserts deletes changes : Bool) (key value : ℕ) → cond inserts (insert_line key value) (cond deletes (delete_line key) (cond changes (change_line key value) (move_line key))) ≡ chosen_sql inserts deletes changes key value ++ 10 ∷ []
unfolding gen.where_text gen.values_text
chosen_text true deletes changes key value = simp append_assoc refl
chosen_text false true changes key value = simp append_assoc refl
chosen_text false false true key value = simp append_assoc refl
chosen_text false false false key value = simp append_assoc refl

-- the key of the statement that the draws from a state on say
abbrev pub asked_key : ℕ → ℕ → ℕ
asked_key rows state = 1 + drawn (state_after state 1) % (2 * rows)

abbrev pub line_sql : ℕ → ℕ → ℕ → List ℕ
line_sql rows state line = asked_sql (drawn (state_after state (2 * line))) (asked_key rows (state_after state (2 * line)))

pub line_is : (rows state line : ℕ) → client_line rows state line ≡ line_sql rows state line ++ 10 ∷ []
unfolding gen.statement_line
line_is rows state line =
    let what = drawn (state_after state (2 * line)) in
    chosen_text (what % 4 == 0) (what % 4 == 1) (what % 4 == 2) (asked_key rows (state_after state (2 * line))) (what % 1000)

-- a number of rows that a workload may have
pub record IsRowCount (rows : ℕ) : Type 0 where
  pub some : 0 < rows
  pub few : rows ≤ 20000

pub small_key : (rows state : ℕ) → IsRowCount rows → asked_key rows state + 1 < 2 ^ 64
small_key rows state is =
    let positive : 0 < 2 * rows = omega (arith, is.some) in
    let below = mod-lt (drawn (state_after state 1)) positive in
    omega (arith, below, is.few)

pub rows_counted : (number : ℕ) → IsRowCount (row_count number)
rows_counted number = record { some = omega arith; few = omega arith }
