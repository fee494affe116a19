-- A table's name that is read leaves room for those of the tool's tables.
use Rattle.std.proofs.Common.{◌≡◌, ◌≤◌, ℕ, ◌+◌, ◌*◌, Bool, true, List, [], ◌∷◌, ◌++◌, length, refl, subst, arith, length-append}
use Rattle.std.specs.Prelude.{codes, count_by, nat_le}
use Rattle.std.specs.List.{AllByRecursion}
use Rattle.std.specs.Str.{IsUtf8}
use Rattle.std.proofs.lemmas.Bool.{and_parts}
use Rattle.std.proofs.lemmas.Bool.Decides.{nat_tests}
use Rattle.std.proofs.lemmas.List.Sums.{count_by-le-length}
use Rattle.base_values.specs.StoredValues.{character_count}
use Rattle.base_values.proofs.Characters.{begins, bytes_few, count-append}
use Rattle.base_values.specs.SchemaRules.Limits.{is_name_length, is_table_name}
use Rattle.server_model.specs.Conditions.{IsTableName}
use Rattle.base_values.specs.ToolNames.{ghost_name, is_tool_name, log_name, old_name}
use Rattle.proof_journals.proofs.Naming.{migrated_no_tool}

-- a name with one character in front and four behind
record IsEnding (front ending : List ℕ) : Type 0 where
  pub front_size : length front ≡ 1
  pub front_count : count_by begins front ≡ 1
  pub ending_size : length ending ≡ 4
  pub ending_count : count_by begins ending ≡ 4

abbrev HasRoom : List ℕ → Type 0
HasRoom name = (1 ≤ character_count name) × (character_count name ≤ 59) × IsUtf8 name

itself : (name : List ℕ) → HasRoom name → IsTableName name
unfolding character_count
itself name room =
    let some = room.0 in
    let few = room.1 in
    let bytes = bytes_few name room.2 in
    let fewer = count_by-le-length begins name in
    record { some = omega (arith, some, fewer); characters = omega (arith, few); bytes = omega (arith, few, bytes) }

longer : (front ending name : List ℕ) → IsEnding front ending → HasRoom name → IsTableName (front ++ (name ++ ending))
unfolding character_count
longer front ending name ends room =
    let few = room.1 in
    let bytes = bytes_few name room.2 in
    let one = ends.front_size in
    let four = ends.ending_size in
    let one_counts = ends.front_count in
    let four_count = ends.ending_count in
    let inner = length-append name ending in
    let outer = length-append front (name ++ ending) in
    let inner_counts = count-append name ending in
    let outer_counts = count-append front (name ++ ending) in
    record { some = omega (arith, one, outer); characters = omega (arith, few, one_counts, four_count, inner_counts, outer_counts); bytes = omega (arith, few, bytes, one, four, inner, outer) }

-- *The tool's names have room*
pub names_fit : (table : List ℕ) → is_name_length 59 table ≡ true → IsUtf8 table → AllByRecursion IsTableName (table ∷ ghost_name table ∷ log_name table ∷ old_name table ∷ [])
unfolding is_name_length ghost_name log_name old_name
names_fit table is text =
    let parts = and_parts (nat_le 1 (character_count table)) (nat_le (character_count table) 59) is in
    let room : HasRoom table = (grind (arith, nat_tests, parts.0), grind (arith, nat_tests, parts.1), text) in
    let ends : (ending : List ℕ) → length ending ≡ 4 → count_by begins ending ≡ 4 → IsEnding (codes "_") ending = λ ending size count. record { front_size = refl; front_count = refl; ending_size = size; ending_count = count } in
    (itself table room, (longer (codes "_") (codes "_gho") table (ends (codes "_gho") refl refl) room, (longer (codes "_") (codes "_ghc") table (ends (codes "_ghc") refl refl) room, (longer (codes "_") (codes "_del") table (ends (codes "_del") refl refl) room, tt))))

-- *The migrated table's name has at most 59 characters*
pub migrated_fits : (table : List ℕ) → is_table_name (is_tool_name table table) table ≡ true → is_name_length 59 table ≡ true
migrated_fits table is = subst (λ (b : Bool). is_table_name b table ≡ true) (migrated_no_tool table) is
