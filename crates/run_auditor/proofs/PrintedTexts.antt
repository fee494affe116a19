-- Tables that are compared with their texts, one by one.
use Rattle.std.proofs.Common.{◌≡◌, ◌≤◌, ℕ, zero, suc, ◌+◌, Bool, true, false, List, [], ◌∷◌, length, drop, cond, Option, Some, None, refl, sym, ap, ◌∙◌, arith}
use Rattle.std.specs.List.{slice_get}
use Rattle.table_store.specs.Databases.{TableRows, Database}
use Rattle.run_audit.specs.Audits.{first_other}
use Rattle.run_auditor.specs.PrintedTables.{is_printed}
use Rattle.run_auditor.proofs.AlteredDatabases.{after_here, none_left}

abbrev other_as : List (List ℕ) → Database → TableRows → Bool → Option (List ℕ)
other_as printed tables table b = cond b (first_other printed tables) (Some table.schema.name)

other_first : (printed : List (List ℕ)) (tables : Database) (table : TableRows) → first_other printed (table ∷ tables) ≡ other_as (drop 1 printed) tables table (is_printed (slice_get printed 0) table)
unfolding first_other
other_first [] tables table = refl
other_first (text ∷ printed) tables table = refl

drop_one : (printed : List (List ℕ)) (i : ℕ) → drop 1 (drop i printed) ≡ drop (i + 1) printed
drop_one [] zero = refl
drop_one [] (suc i) = let next : suc i + 1 ≡ suc (i + 1) = omega arith in rw next refl
drop_one (text ∷ printed) zero = refl
drop_one (text ∷ printed) (suc i) = let next : suc i + 1 ≡ suc (i + 1) = omega arith in rw next (drop_one printed i)

get_first : (printed : List (List ℕ)) (i : ℕ) → slice_get (drop i printed) 0 ≡ slice_get printed i
get_first [] zero = refl
get_first [] (suc i) = refl
get_first (text ∷ printed) zero = refl
get_first (text ∷ printed) (suc i) = get_first printed i

other_step : (printed : List (List ℕ)) (tables : Database) (i : ℕ) (table : TableRows) → slice_get tables i ≡ Some table → first_other (drop i printed) (drop i tables) ≡ other_as (drop (i + 1) printed) (drop (i + 1) tables) table (is_printed (slice_get printed i) table)
other_step printed tables i table at =
    ap (first_other (drop i printed)) (after_here tables i table at) ∙ other_first (drop i printed) (drop (i + 1) tables) table ∙ ap (λ (texts : List (List ℕ)). other_as texts (drop (i + 1) tables) table (is_printed (slice_get (drop i printed) 0) table)) (drop_one printed i)
    ∙ ap (λ (text : Option (List ℕ)). other_as (drop (i + 1) printed) (drop (i + 1) tables) table (is_printed text table)) (get_first printed i)

-- one that isn't printed so
pub other_found : (printed : List (List ℕ)) (tables : Database) (i : ℕ) (table : TableRows) → slice_get tables i ≡ Some table → is_printed (slice_get printed i) table ≡ false → first_other (drop i printed) (drop i tables) ≡ first_other printed tables → Some table.schema.name ≡ first_other printed tables
other_found printed tables i table at apart so_far = sym (other_step printed tables i table at ∙ ap (other_as (drop (i + 1) printed) (drop (i + 1) tables) table) apart) ∙ so_far

-- one that is
pub other_goes : (printed : List (List ℕ)) (tables : Database) (i : ℕ) (table : TableRows) → slice_get tables i ≡ Some table → is_printed (slice_get printed i) table ≡ true → first_other (drop i printed) (drop i tables) ≡ first_other printed tables
    → first_other (drop (i + 1) printed) (drop (i + 1) tables) ≡ first_other printed tables
other_goes printed tables i table at same so_far = sym (other_step printed tables i table at ∙ ap (other_as (drop (i + 1) printed) (drop (i + 1) tables) table) same) ∙ so_far

other_none : (printed : List (List ℕ)) → first_other printed [] ≡ None
unfolding first_other
other_none [] = refl
other_none (text ∷ printed) = refl

pub other_end : (printed : List (List ℕ)) (tables : Database) (i : ℕ) → length tables ≤ i → first_other (drop i printed) (drop i tables) ≡ None
other_end printed tables i past = ap (first_other (drop i printed)) (none_left tables i past) ∙ other_none (drop i printed)
