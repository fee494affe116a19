-- What renaming one table does to tables of different names, and how it is undone.
use Rattle.std.proofs.Common.{◌≡◌, ℕ, ◌<◌, Bool, true, false, not, List, [], ◌∷◌, length, get_or, set, cond, is_some, IfSome, Option, Some, None, refl, sym, ap, ◌∙◌, subst, arith}
use Rattle.std.specs.List.{slice_get}
use Rattle.std.proofs.Math.Seq.{map-set_same}
use Rattle.std.specs.Str.{bytes_eq}
use Rattle.std.specs.Cmp.Lexicographic.{bytes_decides}
use Rattle.std.proofs.lemmas.List.Sums.{prefix_len_stops}
use Rattle.std.proofs.lemmas.Bool.{not-false, or_parts}
use Rattle.std.proofs.lemmas.List.{set-get_or, set-set, length-set, get_or-set_same}
use Rattle.std.proofs.lemmas.Option.{slice_get_within, slice_get-get_or, get_or_from_slice_get}
use Rattle.table_store.specs.Databases.{TableRows, StoredTable, Database, is_named, has_table, find_stored, database, with_name, name_table, name_stored, spares, NamesDiffer, rename_tables}
use Rattle.table_store.specs.declared.renames.Pair.{Pair}
use Rattle.table_store.proofs.NamedTables.{before, find_stored-before, has_found, written, no_change, none_after, other_way}

-- of the tables behind, none has the name of the table that is renamed
renamed_here : (b : Bool) (name old new : List ℕ) (table : TableRows) → is_named old table ≡ b → is_named name table ≡ false → bytes_eq new name ≡ false → is_named name (cond b (name_table new table) table) ≡ false
renamed_here true name old new table is none apart = apart
renamed_here false name old new table is none apart = none

renamed_have : (name old new : List ℕ) (tables : Database) → has_table name tables ≡ false → bytes_eq new name ≡ false → has_table name (with_name old new tables) ≡ false
renamed_have name old new [] none apart = refl
renamed_have name old new (table ∷ tables) none apart =
    let parts = or_parts (is_named name table) (has_table name tables) none in
    rw (renamed_here (is_named old table) name old new table refl parts.0 apart) (renamed_have name old new tables parts.1 apart)

differ_first : (b : Bool) (old new : List ℕ) (table : TableRows) (tables : Database) → is_named old table ≡ b → is_named new table ≡ false → has_table new tables ≡ false → has_table table.schema.name tables ≡ false
    → has_table (cond b (name_table new table) table).schema.name (with_name old new tables) ≡ false
differ_first true old new table tables is apart none following = rw (no_change old (name_table new) tables (none_after old table tables is following)) none
differ_first false old new table tables is apart none following = renamed_have table.schema.name old new tables following (other_way table.schema.name new _ apart refl)

renamed_differ : (old new : List ℕ) (tables : Database) → NamesDiffer tables → has_table new tables ≡ false → NamesDiffer (with_name old new tables)
renamed_differ old new [] differ none = tt
renamed_differ old new (table ∷ tables) differ none =
    let parts = or_parts (is_named new table) (has_table new tables) none in
    (differ_first (is_named old table) old new table tables refl parts.0 parts.1 differ.0, renamed_differ old new tables differ.1 parts.1)

some_is : (found : Option StoredTable) → is_some found ≡ true → (s : StoredTable) × (found ≡ Some s)
some_is None some = absurd cc
some_is (Some s) some = (s, refl)

-- the table of a name that stands
there : (name : List ℕ) (tables : List StoredTable) (n : ℕ) → n ≡ before name tables → has_table name (database tables) ≡ true → (s : StoredTable) × (slice_get tables n ≡ Some s)
there name tables n is has =
    let found = some_is (find_stored name tables) (has_found name tables ∙ has) in
    (found.0, ap (λ (k : ℕ). slice_get tables k) is ∙ sym (find_stored-before name tables) ∙ found.1)

pub has_within : (name : List ℕ) (tables : List StoredTable) (n : ℕ) → n ≡ before name tables → has_table name (database tables) ≡ true → n < length tables
has_within name tables n is has = let at = there name tables n is has in slice_get_within tables n at.0 at.1

-- the table at the place has been renamed
pub record Renamed (old new : List ℕ) (tables : List StoredTable) (n : ℕ) (had : List ℕ) (after : List StoredTable) : Type 0 where
  pub within : n < length tables
  pub still_within : n < length after
  pub changed : database after ≡ with_name old new (database tables)
  pub differ : NamesDiffer (database after)
  pub same_spares : spares after ≡ spares tables
  pub undone : (again : List StoredTable) (dropped : List ℕ) → IfSome (slice_get after n) (λ s. (dropped ≡ s.table.schema.name) × (again ≡ set after n (name_stored had s))) → again ≡ tables

-- the table at the place, once it is renamed
at_set : (tables : List StoredTable) (n : ℕ) (new : StoredTable) → n < length tables → slice_get (set tables n new) n ≡ Some new
at_set tables n new lt =
    let still : n < length (set tables n new) = rw (length-set tables n new) lt in
    slice_get-get_or (set tables n new) n new still ∙ ap (λ (s : StoredTable). Some s) (get_or-set_same tables n new new lt)

undo : (tables : List StoredTable) (n : ℕ) (s : StoredTable) (name had : List ℕ) (again : List StoredTable) (dropped : List ℕ) → n < length tables → slice_get tables n ≡ Some s → had ≡ s.table.schema.name
    → IfSome (slice_get (set tables n (name_stored name s)) n) (λ x. (dropped ≡ x.table.schema.name) × (again ≡ set (set tables n (name_stored name s)) n (name_stored had x))) → again ≡ tables
undo tables n s name had again dropped lt at is reported =
    let now : slice_get (set tables n (name_stored name s)) n ≡ Some (name_stored name s) = at_set tables n (name_stored name s) lt in
    let parts = rw now at reported in
    parts.1 ∙ set-set tables n (name_stored name s) (name_stored had (name_stored name s))
    ∙ ap (λ (h : List ℕ). set tables n (name_stored h s)) is
    ∙ ap (λ (x : StoredTable). set tables n x) (sym (get_or_from_slice_get tables n s s at))
    ∙ set-get_or tables n s

pub renamed : (old new name : List ℕ) (tables : List StoredTable) (n : ℕ) (had : List ℕ) (after : List StoredTable) → NamesDiffer (database tables) → n ≡ before old tables → has_table old (database tables) ≡ true
    → has_table new (database tables) ≡ false → name ≡ new → IfSome (slice_get tables n) (λ s. (had ≡ s.table.schema.name) × (after ≡ set tables n (name_stored name s))) → Renamed old new tables n had after
renamed old new name tables n had after differ is has none same reported =
    let at = there old tables n is has in
    let s = at.0 in
    let parts = rw at.1 at reported in
    let lt : n < length tables = slice_get_within tables n s at.1 in
    let first : slice_get tables (before old tables) ≡ Some s = ap (λ (k : ℕ). slice_get tables k) (sym is) ∙ at.1 in
    let to : after ≡ set tables (before old tables) (name_stored new s) = parts.1 ∙ ap (λ (k : ℕ). set tables k (name_stored name s)) is ∙ ap (λ (x : List ℕ). set tables (before old tables) (name_stored x s)) same in
    let changed : database after ≡ with_name old new (database tables) = ap database to ∙ written old (name_table new) tables s (name_stored new s) differ first refl in
    record {
      within = lt;
      still_within = rw (parts.1, length-set tables n (name_stored name s)) lt;
      changed = changed;
      differ = subst NamesDiffer (sym changed) (renamed_differ old new (database tables) differ none);
      same_spares = ap spares parts.1 ∙ map-set_same (λ (x : StoredTable). x.spare) tables n (name_stored name s) s (ap (λ (x : StoredTable). x.spare) (sym (get_or_from_slice_get tables n s s at.1)));
      undone = λ again dropped back. undo tables n s name had again dropped lt at.1 parts.0 (rw parts.1 at back);
    }

-- a pair that isn't refused
pub goes_on : (pair : Pair) (pairs : List Pair) (tables : Database) → has_table pair.new tables ≡ false → has_table pair.old tables ≡ true → rename_tables (pair ∷ pairs) tables ≡ rename_tables pairs (with_name pair.old pair.new tables)
unfolding rename_tables
goes_on pair pairs tables none has = rw (none, has) refl

-- a table's name, once it has another

gone_first : (b : Bool) (old new : List ℕ) (table : TableRows) → is_named old table ≡ b → bytes_eq new old ≡ false → is_named old (cond b (name_table new table) table) ≡ false
gone_first true old new table is apart = apart
gone_first false old new table is apart = is

gone : (old new : List ℕ) (tables : Database) → bytes_eq new old ≡ false → has_table old (with_name old new tables) ≡ false
gone old new [] apart = refl
gone old new (table ∷ tables) apart = rw (gone_first (is_named old table) old new table refl apart) (gone old new tables apart)

differs : (b : Bool) (old new : List ℕ) (tables : Database) → bytes_eq new old ≡ b → has_table old tables ≡ true → has_table new tables ≡ false → b ≡ false
differs true old new tables is has none = let same : new ≡ old = (bytes_decides new old).0 is in let no : has_table old tables ≡ false = subst (λ n. has_table n tables ≡ false) same none in absurd (cc)
differs false old new tables is has none = refl

first_named : (name : List ℕ) (tables : List StoredTable) (n : ℕ) (s : StoredTable) → n ≡ before name tables → slice_get tables n ≡ Some s → s.table.schema.name ≡ name
first_named name tables n s is at =
    let lt : before name tables < length tables = subst (λ k. k < length tables) is (slice_get_within tables n s at) in
    let stops = prefix_len_stops (λ (t : StoredTable). not (is_named name t.table)) tables s lt in
    let here : get_or tables (before name tables) s ≡ s = ap (λ k. get_or tables k s) (sym is) ∙ get_or_from_slice_get tables n s s at in
    let named : not (is_named name s.table) ≡ false = ap (λ (t : StoredTable). not (is_named name t.table)) (sym here) ∙ stops in
    (bytes_decides s.table.schema.name name).0 (not-false (is_named name s.table) named)

at_place : (tables : List StoredTable) (n : ℕ) → n < length tables → (s : StoredTable) × (slice_get tables n ≡ Some s)
at_place [] n lt = absurd (let no : ⊥ = omega (arith, lt) in no)
at_place (t ∷ tables) n lt = (get_or (t ∷ tables) n t, slice_get-get_or (t ∷ tables) n t lt)

-- no table has the name that was taken from one
pub free_again : (old new had : List ℕ) (tables after : List StoredTable) (n : ℕ) (P : StoredTable → Type 0) → n ≡ before old tables → n < length tables → has_table old (database tables) ≡ true → has_table new (database tables) ≡ false
    → IfSome (slice_get tables n) (λ s. (had ≡ s.table.schema.name) × P s) → database after ≡ with_name old new (database tables) → has_table had (database after) ≡ false
free_again old new had tables after n P is lt has none reported changed =
    let at = at_place tables n lt in
    let parts = rw at.1 at reported in
    let same : had ≡ old = parts.0 ∙ first_named old tables n at.0 is at.1 in
    let apart : bytes_eq new old ≡ false = differs (bytes_eq new old) old new (database tables) refl has none in
    rw (same, changed) (gone old new (database tables) apart)
