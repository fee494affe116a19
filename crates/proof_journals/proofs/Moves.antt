-- CREATE, DROP and RENAME: the other names' tables stay, and orderly tables stay orderly.
use Rattle.std.proofs.Common.{◌≡◌, ℕ, Bool, true, false, not, ◌||◌, List, [], ◌∷◌, ◌++◌, cond, Option, Some, None, Ok, Err, refl, sym, ap, ◌∙◌, subst, Result}
use Rattle.std.specs.List.{list_any}
use Rattle.std.specs.Str.{bytes_eq}
use Rattle.std.specs.Option.{option_map}
use Rattle.base_values.specs.declared.gho_schema.schema.Schema.{Schema}
use Rattle.table_store.specs.Databases.{TableRows, Database, find_table, has_table, is_named, without_table, with_name, name_table, rename_tables}
use Rattle.table_store.specs.declared.renames.Pair.{Pair}
use Rattle.table_store.specs.declared.renames.NotRenamed.TheVariants as reasons
use Rattle.table_store.specs.declared.renames.NotRenamed.{NotRenamed}
use Rattle.server_model.specs.LockedRows.Coverage.{IsWellFormedTable}
use Rattle.server_model.specs.LockedRows.Databases.{WhereFound, IsWellFormedDatabase}
use Rattle.server_model.specs.States.{pair_names}
use Rattle.server_model.specs.Effects.{renamed_or}
use Rattle.server_model.proofs.LockedRows.Tests.{same_bytes, are_same, turned_bytes, nor_left, nor_right}

-- whole tables of these names changed
pub record Moved (names : List (List ℕ)) (before after : Database) : Type 0 where
  pub others : (name : List ℕ) → list_any (bytes_eq name) names ≡ false → find_table name after ≡ find_table name before
  pub well_formed : IsWellFormedDatabase before → IsWellFormedDatabase after

-- a table behind the others
pub after_other : (name : List ℕ) (tables : Database) (new : TableRows) → is_named name new ≡ false → find_table name (tables ++ new ∷ []) ≡ find_table name tables
after_other name [] new off = rw off refl
after_other name (table ∷ tables) new off = ap (λ (o : Option TableRows). cond (is_named name table) (Some table) o) (after_other name tables new off)

after_found : (P : TableRows → Type 0) (name : List ℕ) (tables : Database) (new : TableRows) → P new → WhereFound P (find_table name tables) → WhereFound P (find_table name (tables ++ new ∷ []))
after_found P name [] new is all = at (is_named name new) where
  at : (b : Bool) → WhereFound P (cond b (Some new) None)
  at true = is
  at false = tt
after_found P name (table ∷ tables) new is all = at (is_named name table) all (after_found P name tables new is) where
  at : (b : Bool) → WhereFound P (cond b (Some table) (find_table name tables)) → (WhereFound P (find_table name tables) → WhereFound P (find_table name (tables ++ new ∷ []))) → WhereFound P (cond b (Some table) (find_table name (tables ++ new ∷ [])))
  at true here rest = here
  at false there rest = rest there

pub create_moves : (schema : Schema) (tables : Database) → IsWellFormedTable (record { schema = schema; rows = [] }) → Moved (schema.name ∷ []) tables (tables ++ record { schema = schema; rows = [] } ∷ [])
create_moves schema tables is = record {
  others = λ name off. after_other name tables (record { schema = schema; rows = [] }) (turned_bytes name schema.name (nor_left (bytes_eq name schema.name) false off));
  well_formed = λ all. record { each = λ name. after_found IsWellFormedTable name tables (record { schema = schema; rows = [] }) is (all.each name) };
}

-- a table that is gone
named_other : (table name other : List ℕ) → bytes_eq table name ≡ true → bytes_eq other name ≡ false → bytes_eq table other ≡ false
named_other table name other same off = rw (are_same table name same) (turned_bytes other name off)

gone_other : (name other : List ℕ) (tables : Database) → bytes_eq other name ≡ false → find_table other (without_table name tables) ≡ find_table other tables
gone_other name other [] off = refl
gone_other name other (table ∷ tables) off = at (is_named name table) refl (gone_other name other tables off) where
  at : (b : Bool) → is_named name table ≡ b → find_table other (without_table name tables) ≡ find_table other tables → find_table other (cond (not b) (table ∷ without_table name tables) (without_table name tables)) ≡ cond (is_named other table) (Some table) (find_table other tables)
  at true same rest = rw (named_other table.schema.name name other same off) rest
  at false same rest = ap (λ (o : Option TableRows). cond (is_named other table) (Some table) o) rest

pub gone_none : (name : List ℕ) (tables : Database) → find_table name (without_table name tables) ≡ None
gone_none name [] = refl
gone_none name (table ∷ tables) = at (is_named name table) refl (gone_none name tables) where
  at : (b : Bool) → is_named name table ≡ b → find_table name (without_table name tables) ≡ None → find_table name (cond (not b) (table ∷ without_table name tables) (without_table name tables)) ≡ None
  at true same rest = rest
  at false same rest = rw same rest

pub drop_moves : (name : List ℕ) (tables : Database) → Moved (name ∷ []) tables (without_table name tables)
drop_moves name tables = record {
  others = λ other off. gone_other name other tables (nor_left (bytes_eq other name) false off);
  well_formed = λ all. record { each = λ other. at other (bytes_eq other name) refl all };
} where
  at : (other : List ℕ) (b : Bool) → bytes_eq other name ≡ b → IsWellFormedDatabase tables → WhereFound IsWellFormedTable (find_table other (without_table name tables))
  at other true same all = rw (are_same other name same, gone_none name tables) tt
  at other false same all = rw (gone_other name other tables same) (all.each other)

-- a table with another name
pub renamed_other : (old new other : List ℕ) (tables : Database) → bytes_eq other old ≡ false → bytes_eq other new ≡ false → find_table other (with_name old new tables) ≡ find_table other tables
renamed_other old new other [] one two = refl
renamed_other old new other (table ∷ tables) one two = at (is_named old table) refl (renamed_other old new other tables one two) where
  at : (b : Bool) → is_named old table ≡ b → find_table other (with_name old new tables) ≡ find_table other tables → find_table other (cond b (name_table new table) table ∷ with_name old new tables) ≡ cond (is_named other table) (Some table) (find_table other tables)
  at true same rest = rw (named_other table.schema.name old other same one, turned_bytes other new two) rest
  at false same rest = ap (λ (o : Option TableRows). cond (is_named other table) (Some table) o) rest

pub renamed_new : (old new : List ℕ) (tables : Database) → has_table new tables ≡ false → find_table new (with_name old new tables) ≡ option_map (name_table new) (find_table old tables)
renamed_new old new [] none = refl
renamed_new old new (table ∷ tables) none = at (is_named old table) (renamed_new old new tables (nor_right (is_named new table) (has_table new tables) none)) where
  at : (b : Bool) → find_table new (with_name old new tables) ≡ option_map (name_table new) (find_table old tables) → find_table new (cond b (name_table new table) table ∷ with_name old new tables) ≡ option_map (name_table new) (cond b (Some table) (find_table old tables))
  at true rest = rw (same_bytes new) refl
  at false rest = rw (nor_left (is_named new table) (has_table new tables) none) rest

pub renamed_old : (old new : List ℕ) (tables : Database) → bytes_eq new old ≡ false → find_table old (with_name old new tables) ≡ None
renamed_old old new [] off = refl
renamed_old old new (table ∷ tables) off = at (is_named old table) refl (renamed_old old new tables off) where
  at : (b : Bool) → is_named old table ≡ b → find_table old (with_name old new tables) ≡ None → find_table old (cond b (name_table new table) table ∷ with_name old new tables) ≡ None
  at true same rest = rw off rest
  at false same rest = rw same rest

-- the table with another name is orderly too
named_well_formed : (new : List ℕ) (table : TableRows) → IsWellFormedTable table → IsWellFormedTable (name_table new table)
named_well_formed new table is = record {
  keyed = record { some = is.keyed.some; not_null = is.keyed.not_null };
  defaults = is.defaults;
  is_table = record { rows_fit = is.is_table.rows_fit; ascends = is.is_table.ascends; apart = is.is_table.apart };
}

named_found : (new : List ℕ) (found : Option TableRows) → WhereFound IsWellFormedTable found → WhereFound IsWellFormedTable (option_map (name_table new) found)
named_found new None is = tt
named_found new (Some table) is = named_well_formed new table is

renamed_well_formed : (old new : List ℕ) (tables : Database) → has_table new tables ≡ false → IsWellFormedDatabase tables → IsWellFormedDatabase (with_name old new tables)
renamed_well_formed old new tables none all = record { each = λ name. at name (bytes_eq name new) (bytes_eq name old) refl refl } where
  at : (name : List ℕ) (b c : Bool) → bytes_eq name new ≡ b → bytes_eq name old ≡ c → WhereFound IsWellFormedTable (find_table name (with_name old new tables))
  at name true c same other = rw (are_same name new same, renamed_new old new tables none) (named_found new (find_table old tables) (all.each old))
  at name false true same other = rw (are_same name old other, renamed_old old new tables (turned_bytes old new (ap (λ (n : List ℕ). bytes_eq n new) (sym (are_same name old other)) ∙ same))) tt
  at name false false same other = rw (renamed_other old new name tables other same) (all.each name)

-- all pairs
pub rename_moves : (pairs : List Pair) (tables after : Database) → rename_tables pairs tables ≡ Ok after → Moved (pair_names pairs) tables after
unfolding rename_tables
rename_moves [] tables after is = let same : tables ≡ after = cc in record { others = λ name off. ap (find_table name) (sym same); well_formed = λ all. subst IsWellFormedDatabase same all }
rename_moves (pair ∷ pairs) tables after is = at (has_table pair.new tables) (has_table pair.old tables) refl is (rename_moves pairs (with_name pair.old pair.new tables) after) where
  at : (b c : Bool) → has_table pair.new tables ≡ b → cond b (Err reasons.Exists) (cond c (rename_tables pairs (with_name pair.old pair.new tables)) (Err reasons.Missing)) ≡ Ok after → (rename_tables pairs (with_name pair.old pair.new tables) ≡ Ok after → Moved (pair_names pairs) (with_name pair.old pair.new tables) after) → Moved (pair_names (pair ∷ pairs)) tables after
  at true c none is rest = absurd (cc)
  at false false none is rest = absurd (cc)
  at false true none is rest =
      let moved = rest is in
      record {
        others = λ name off.
            let one : bytes_eq name pair.old ≡ false = nor_left (bytes_eq name pair.old) (bytes_eq name pair.new || list_any (bytes_eq name) (pair_names pairs)) off in
            let more = nor_right (bytes_eq name pair.old) (bytes_eq name pair.new || list_any (bytes_eq name) (pair_names pairs)) off in
            let two : bytes_eq name pair.new ≡ false = nor_left (bytes_eq name pair.new) (list_any (bytes_eq name) (pair_names pairs)) more in
            moved.others name (nor_right (bytes_eq name pair.new) (list_any (bytes_eq name) (pair_names pairs)) more) ∙ renamed_other pair.old pair.new name tables one two;
        well_formed = λ all. moved.well_formed (renamed_well_formed pair.old pair.new tables none all);
      }

pub found_has : (name : List ℕ) (tables : Database) → find_table name tables ≡ None → has_table name tables ≡ false
found_has name [] none = refl
found_has name (table ∷ tables) none = by (is_named name table) none (found_has name tables) where
  by : (b : Bool) → cond b (Some table) (find_table name tables) ≡ None → (find_table name tables ≡ None → has_table name tables ≡ false) → (b || has_table name tables) ≡ false
  by true none rest = absurd cc
  by false none rest = rest none

pub none_found : (name : List ℕ) (tables : Database) → has_table name tables ≡ false → find_table name tables ≡ None
none_found name [] none = refl
none_found name (table ∷ tables) none = rw (nor_left (is_named name table) (has_table name tables) none) (none_found name tables (nor_right (is_named name table) (has_table name tables) none))

pub renamed_ok : (result : Result Database NotRenamed) (tables : Database) → renamed_or result ≡ Ok tables → result ≡ Ok tables
renamed_ok (Ok renamed) tables is = let same : renamed ≡ tables = cc in ap Ok same
renamed_ok (Err reason) tables is = absurd cc
