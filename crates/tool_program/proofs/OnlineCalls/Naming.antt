-- The names that the tool's calls have are the migrated table's and the tool's own.
use Rattle.std.proofs.Common.{◌≡◌, ℕ, ◌+◌, ◌<◌, Bool, true, false, List, [], ◌∷◌, ◌++◌, length, refl, ap, ◌∙◌, arith}
use Rattle.std.specs.Prelude.{codes, ◌||◌}
use Rattle.std.specs.List.{list_any, list_all}
use Rattle.std.specs.Str.{bytes_eq}
use Rattle.std.proofs.Math.Bool.{or-true}
use Rattle.std.proofs.lemmas.List.{length-append}
use Rattle.std.proofs.lemmas.Slice.Eq.{bytes_eq-Decides}
use Rattle.base_values.specs.ToolNames.{ghost_name, log_name, old_name, is_tool_name}
use Rattle.tool_program.specs.declared.cutover_core.cutover.Leftovers.{Leftovers}
use Rattle.tool_program.specs.CutoverCore.Attempts.{first_name}

-- a longer name differs
longer : (a b : List ℕ) (more : ℕ) → length b ≡ length a + more → 0 < more → bytes_eq a b ≡ false
longer a b more is some = by (bytes_eq a b) refl
  where
    by : (test : Bool) → bytes_eq a b ≡ test → test ≡ false
    by true same = absurd (omega (arith, is, some, ap length ((bytes_eq-Decides a b).0 same)))
    by false same = refl

pub not_ghost : (table : List ℕ) → bytes_eq table (ghost_name table) ≡ false
unfolding ghost_name
not_ghost table = longer table (ghost_name table) 5 (omega (arith, length-append (codes "_" ++ table) (codes "_gho"), length-append (codes "_") table)) (omega arith)

pub not_log : (table : List ℕ) → bytes_eq table (log_name table) ≡ false
unfolding log_name
not_log table = longer table (log_name table) 5 (omega (arith, length-append (codes "_" ++ table) (codes "_ghc"), length-append (codes "_") table)) (omega arith)

pub not_old : (table : List ℕ) → bytes_eq table (old_name table) ≡ false
unfolding old_name
not_old table = longer table (old_name table) 5 (omega (arith, length-append (codes "_" ++ table) (codes "_del"), length-append (codes "_") table)) (omega arith)

-- the name is the migrated table's or one of the tool's
abbrev pub is_known : List ℕ → List ℕ → Bool
is_known table name = bytes_eq name table || is_tool_name table name

middle : (a c : Bool) → (a || true || c) ≡ true
middle true c = refl
middle false c = refl

third : (a b : Bool) → (a || b || true) ≡ true
third true b = refl
third false true = refl
third false false = refl

pub known_own : (table : List ℕ) → is_known table table ≡ true
known_own table = let own : bytes_eq table table ≡ true = (bytes_eq-Decides table table).1 refl in rw own refl

pub known_ghost : (table : List ℕ) → is_known table (ghost_name table) ≡ true
known_ghost table =
    let own : bytes_eq (ghost_name table) (ghost_name table) ≡ true = (bytes_eq-Decides (ghost_name table) (ghost_name table)).1 refl in
    rw own (or-true (bytes_eq (ghost_name table) table))

pub known_log : (table : List ℕ) → is_known table (log_name table) ≡ true
known_log table =
    let own : bytes_eq (log_name table) (log_name table) ≡ true = (bytes_eq-Decides (log_name table) (log_name table)).1 refl in
    rw own (ap (λ (known : Bool). bytes_eq (log_name table) table || known) (middle (bytes_eq (log_name table) (ghost_name table)) (bytes_eq (log_name table) (old_name table))) ∙ or-true (bytes_eq (log_name table) table))

pub known_old : (table : List ℕ) → is_known table (old_name table) ≡ true
known_old table =
    let own : bytes_eq (old_name table) (old_name table) ≡ true = (bytes_eq-Decides (old_name table) (old_name table)).1 refl in
    rw own (ap (λ (known : Bool). bytes_eq (old_name table) table || known) (third (bytes_eq (old_name table) (ghost_name table)) (bytes_eq (old_name table) (log_name table))) ∙ or-true (bytes_eq (old_name table) table))

-- rows are written of the new table and of the changelog
pub written_ghost : (table : List ℕ) → (bytes_eq (ghost_name table) (ghost_name table) || bytes_eq (ghost_name table) (log_name table)) ≡ true
written_ghost table = let own : bytes_eq (ghost_name table) (ghost_name table) ≡ true = (bytes_eq-Decides (ghost_name table) (ghost_name table)).1 refl in rw own refl

pub written_log : (table : List ℕ) → (bytes_eq (log_name table) (ghost_name table) || bytes_eq (log_name table) (log_name table)) ≡ true
written_log table =
    let own : bytes_eq (log_name table) (log_name table) ≡ true = (bytes_eq-Decides (log_name table) (log_name table)).1 refl in rw own (or-true (bytes_eq (log_name table) (ghost_name table)))

-- the table that is dropped first is one of the tool's
pub known_first : (table : List ℕ) (left : Leftovers) → is_known table (first_name table left) ≡ true
known_first table left = by left.log left.new_table
  where
    by : (log new : Bool) → is_known table (first_name table (record left { log = log; new_table = new })) ≡ true
    by true new = known_log table
    by false true = known_ghost table
    by false false = known_old table

pub not_first : (table : List ℕ) (left : Leftovers) → bytes_eq table (first_name table left) ≡ false
not_first table left = by left.log left.new_table
  where
    by : (log new : Bool) → bytes_eq table (first_name table (record left { log = log; new_table = new })) ≡ false
    by true new = not_log table
    by false true = not_ghost table
    by false false = not_old table

pub all_one : (test : List ℕ → Bool) (a : List ℕ) → test a ≡ true → list_all test (a ∷ []) ≡ true
all_one test a is = rw is refl

pub all_two : (test : List ℕ → Bool) (a b : List ℕ) → test a ≡ true → test b ≡ true → list_all test (a ∷ b ∷ []) ≡ true
all_two test a b first next = rw first (all_one test b next)

-- the four of an exchange
pub all_four : (test : List ℕ → Bool) (a b c : List ℕ) → test a ≡ true → test b ≡ true → test c ≡ true → list_all test (a ∷ b ∷ c ∷ a ∷ []) ≡ true
all_four test a b c first next last = simp (first, next, last) refl

pub any_none : (test : List ℕ → Bool) (a : List ℕ) → test a ≡ false → list_any test (a ∷ []) ≡ false
any_none test a is = rw is refl
