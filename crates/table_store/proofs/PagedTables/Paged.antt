-- Tables in pages under their names: what is so of a plain list of tables, carried over.
use Rattle.std.proofs.Common.{◌≡◌, ℕ, ◌+◌, ◌<◌, ◌≤◌, Bool, true, false, not, ◌||◌, List, [], ◌∷◌, ◌++◌, length, get_or, set, take, remove, cond, option_map, IsSome, IsSomeAnd, IfSome, is_some, find, Option, Some, None, Result, Ok, Err, OnOk, OnErr, Bor, refl, sym, ap, ◌∙◌, subst, one-add}
use Rattle.std.proofs.Math.ListN.{get_or-map}
use Rattle.std.proofs.Math.Seq.{map-set_same}
use Rattle.std.specs.List.{prefix_len, slice_get, slice_set}
use Rattle.std.specs.Option.{option_copied}
use Rattle.std.proofs.lemmas.List.{map-set, map_push, take_more, take-map, length-map}
use Rattle.std.proofs.lemmas.Option.{slice_get_within, get_or_from_slice_get}
use Rattle.base_values.specs.declared.value.Value.{Value}
use Rattle.base_values.specs.declared.gho_schema.schema.Schema.{Schema}
use Rattle.base_values.specs.GhoSchema.Rows.{key_places, with_row}
use Rattle.table_store.specs.PagedTables.RowPages.StoredRows.{PagedTable}
use Rattle.table_store.specs.Databases.{TableRows, StoredTable, Database, IsNewIn, put_in_table, is_named, find_table, has_table, find_stored, others, spare_in, database, with_change, name_table, name_stored, NamesDiffer}
use Rattle.table_store.proofs.NamedTables.{before, within, Stands, stands, Wrote, wrote, Put, put, is_new, has_found, IsTaken, take_out, IsAbsent, absent, added_differ, not_ahead}
use Rattle.table_store.specs.NameMap.NameMaps.{NamedValues, names_before, has_name, with_value}
use Rattle.table_store.proofs.NameMap.Entries.{map-remove, got_map}
use Rattle.table_store.specs.PagedTables.PagedDatabases.{stored_of, stored, table_names, AreNamed}

same_stored : (t t' : TableRows) (n n' : ℕ) → t ≡ t' → n ≡ n' → let a : StoredTable = record { table = t; spare = n } in a ≡ record { table = t'; spare = n' }
same_stored t t' n n' table spare = cc

-- ---- what is found

-- how many tables stand before the one of the name
abbrev pub place : List ℕ → List PagedTable → ℕ
place name tables = prefix_len (λ (t : PagedTable). not (is_named name t.table)) tables

pub before_stored : (name : List ℕ) (tables : List PagedTable) → place name tables ≡ before name (stored tables)
before_stored name [] = refl
before_stored name (t ∷ tables) = ap (λ (n : ℕ). cond (not (is_named name t.table)) (1 + n) 0) (before_stored name tables)

found_first : (b : Bool) (t : PagedTable) (rest : Option PagedTable) (others : Option StoredTable) → option_map stored_of rest ≡ others → option_map stored_of (cond b (Some t) rest) ≡ cond b (Some (stored_of t)) others
found_first true t rest others is = refl
found_first false t rest others is = is

pub found_stored : (name : List ℕ) (tables : List PagedTable) → option_map stored_of (find (λ (t : PagedTable). is_named name t.table) tables) ≡ find_stored name (stored tables)
found_stored name [] = refl
found_stored name (t ∷ tables) = found_first (is_named name t.table) t (find (λ (p : PagedTable). is_named name p.table) tables) (find_stored name (stored tables)) (found_stored name tables)

pub of_copied : {X : Type 0} (f : PagedTable → X) (found : Option (Bor PagedTable)) → option_map (λ (t : Bor PagedTable). f t.now) found ≡ option_map f (option_copied found)
of_copied f None = refl
of_copied f (Some t) = refl

pub table_of_stored : (found : Option PagedTable) → option_map (λ (t : PagedTable). t.table) found ≡ option_map (λ (s : StoredTable). s.table) (option_map stored_of found)
table_of_stored None = refl
table_of_stored (Some t) = refl

some_stored : (found : Option PagedTable) → is_some found ≡ is_some (option_map stored_of found)
some_stored None = refl
some_stored (Some t) = refl

some_copied : (found : Option (Bor PagedTable)) → is_some found ≡ is_some (option_copied found)
some_copied None = refl
some_copied (Some t) = refl

pub stands_is : (name : List ℕ) (found : Option (Bor PagedTable)) (tables : List PagedTable) → option_copied found ≡ find (λ (t : PagedTable). is_named name t.table) tables → is_some found ≡ has_table name (database (stored tables))
stands_is name found tables is =
    some_copied found ∙ ap (λ (o : Option PagedTable). is_some o) is ∙ some_stored (find (λ (t : PagedTable). is_named name t.table) tables)
    ∙ ap (λ (o : Option StoredTable). is_some o) (found_stored name tables) ∙ has_found name (stored tables)

-- ---- the names under which the tables are kept

pub before_named : (name : List ℕ) (tables : List PagedTable) → names_before name (table_names tables) ≡ place name tables
before_named name [] = refl
before_named name (t ∷ tables) = ap (λ (n : ℕ). cond (not (is_named name t.table)) (1 + n) 0) (before_named name tables)

pub has_named : (name : List ℕ) (tables : List PagedTable) → has_name name (table_names tables) ≡ has_table name (database (stored tables))
has_named name [] = refl
has_named name (t ∷ tables) = ap (λ (b : Bool). is_named name t.table || b) (has_named name tables)

found_here : (b : Bool) (t : PagedTable) (tables : List PagedTable) (n : ℕ) (rest : Option PagedTable) → rest ≡ slice_get tables n → cond b (Some t) rest ≡ slice_get (t ∷ tables) (cond (not b) (1 + n) 0)
found_here true t tables n rest is = refl
found_here false t tables n rest is = rw (one-add n) is

pub found_place : (name : List ℕ) (tables : List PagedTable) → find (λ (t : PagedTable). is_named name t.table) tables ≡ slice_get tables (place name tables)
found_place name [] = refl
found_place name (t ∷ tables) = found_here (is_named name t.table) t tables (place name tables) (find (λ (p : PagedTable). is_named name p.table) tables) (found_place name tables)

-- ---- the table at a place

pub at_stored : (tables : List PagedTable) (n : ℕ) (t : PagedTable) → t ≡ get_or tables n t → stored_of t ≡ get_or (stored tables) n (stored_of t)
at_stored tables n t at = ap stored_of at ∙ sym (get_or-map stored_of tables n t)

pub within_tables : (name : List ℕ) (tables : List PagedTable) (n : ℕ) → n ≡ place name tables → IsSome (find_table name (database (stored tables))) → n < length tables
within_tables name tables n is some = subst (λ (k : ℕ). n < k) (length-map tables stored_of) (within name (stored tables) n (is ∙ before_stored name tables) some)

-- the room of the table at the place of the name
pub room_before : (name : List ℕ) (tables : List PagedTable) (n : ℕ) (old : PagedTable) → n ≡ place name tables → IsSome (find_table name (database (stored tables))) → slice_get tables n ≡ Some old → spare_in name (stored tables) ≡ old.spare
room_before name tables n old is some got =
    (stands name (stored tables) n (stored_of old) (is ∙ before_stored name tables) some (at_stored tables n old (sym (get_or_from_slice_get tables n old old got)))).spare

-- a row that is new in it
pub new_before : (name : List ℕ) (row : List Value) (tables : List PagedTable) (n : ℕ) (old : PagedTable) → n ≡ place name tables → slice_get tables n ≡ Some old → IsSomeAnd (find_table name (database (stored tables))) (IsNewIn row) → IsNewIn row old.table
new_before name row tables n old is got fresh = is_new name row (stored tables) n (stored_of old) (is ∙ before_stored name tables) (at_stored tables n old (sym (get_or_from_slice_get tables n old old got))) fresh

-- what is known once the table at the place of the name is another
pub record Edited (name : List ℕ) (change : TableRows → TableRows) (tables : NamedValues PagedTable) (n : ℕ) (old new : PagedTable) : Type 0 where
  pub was : Stands name (stored tables.values) n (stored_of old)
  pub changed : database (stored (set tables.values n new)) ≡ with_change name change (database (stored tables.values))
  pub named : AreNamed (with_value tables n new)
  pub spare : spare_in name (stored (set tables.values n new)) ≡ new.spare
  pub rest : others name (stored (set tables.values n new)) ≡ others name (stored tables.values)

edit : (name : List ℕ) (change : TableRows → TableRows) (tables : NamedValues PagedTable) (n : ℕ) (old new : PagedTable) → AreNamed tables → old ≡ get_or tables.values n old → new.table.schema.name ≡ old.table.schema.name
    → Stands name (stored tables.values) n (stored_of old) → Wrote name change (stored tables.values) n (stored_of new) → Edited name change tables n old new
edit name change tables n old new named at same was done =
    let moved : stored (set tables.values n new) ≡ set (stored tables.values) n (stored_of new) = map-set stored_of tables.values n new in
    let kept : table_names (set tables.values n new) ≡ table_names tables.values = map-set_same (λ (t : PagedTable). t.table.schema.name) tables.values n new old (same ∙ ap (λ (t : PagedTable). t.table.schema.name) at) in
    record {
      was = was;
      changed = ap database moved ∙ done.changed;
      named = (named.0 ∙ sym kept, subst (λ (ts : List StoredTable). NamesDiffer (database ts)) (sym moved) done.differ);
      spare = ap (spare_in name) moved ∙ done.spare;
      rest = ap (others name) moved ∙ done.rest;
    }

pub edited : (name : List ℕ) (change : TableRows → TableRows) (tables : NamedValues PagedTable) (n : ℕ) (old new : PagedTable) → ((t : TableRows) → (change t).schema.name ≡ t.schema.name) → AreNamed tables → n ≡ place name tables.values
    → IsSome (find_table name (database (stored tables.values))) → slice_get tables.values n ≡ Some old → new.table ≡ change old.table → Edited name change tables n old new
edited name change tables n old new keeps named is some got changed =
    let at : old ≡ get_or tables.values n old = sym (get_or_from_slice_get tables.values n old old got) in
    let there : n ≡ before name (stored tables.values) = is ∙ before_stored name tables.values in
    let was = stands name (stored tables.values) n (stored_of old) there some (at_stored tables.values n old at) in
    edit name change tables n old new named at (ap (λ (t : TableRows). t.schema.name) changed ∙ keeps old.table) was
    (wrote name change (stored tables.values) n (stored_of old) (stored_of new) keeps named.1 there was changed)

pub put_edited : (name : List ℕ) (row : List Value) (tables : NamedValues PagedTable) (n : ℕ) (old new : PagedTable) → AreNamed tables → n ≡ place name tables.values → slice_get tables.values n ≡ Some old
    → IsSomeAnd (find_table name (database (stored tables.values))) (IsNewIn row) → new.table.schema ≡ old.table.schema → new.table.rows ≡ with_row (key_places old.table.schema) row old.table.rows → Edited name (put_in_table row) tables n old new
put_edited name row tables n old new named is got fresh schema rows =
    let at : old ≡ get_or tables.values n old = sym (get_or_from_slice_get tables.values n old old got) in
    let there : n ≡ before name (stored tables.values) = is ∙ before_stored name tables.values in
    let done : Put name row (stored tables.values) n (stored_of old) (stored_of new) = put name row (stored tables.values) n (stored_of old) (stored_of new) named.1 there (at_stored tables.values n old at) fresh schema rows in
    edit name (put_in_table row) tables n old new named at (ap (λ (s : Schema). s.name) schema) done.was done.wrote

-- ---- another name

pub renamed_at : (tables : List PagedTable) (n : ℕ) (old new : PagedTable) (name had : List ℕ) → slice_get tables n ≡ Some old → new.table ≡ name_table name old.table → new.spare ≡ old.spare → had ≡ old.table.schema.name
    → IfSome (slice_get (stored tables) n) (λ s. (had ≡ s.table.schema.name) × (stored (set tables n new) ≡ slice_set (stored tables) n (name_stored name s)))
renamed_at tables n old new name had at table spare was =
    let same : stored_of new ≡ name_stored name (stored_of old) = same_stored new.table (name_table name old.table) new.spare old.spare table spare in
    rw (got_map stored_of tables n old at) (was, map-set stored_of tables n new ∙ ap (λ (s : StoredTable). set (stored tables) n s) same)

-- ---- one table more

pub one_more : (made : List PagedTable) (new : PagedTable) (tables : Database) (table : TableRows) → database (stored made) ≡ tables → new.table ≡ table → database (stored (made ++ new ∷ [])) ≡ tables ++ table ∷ []
one_more made new tables table are is =
    ap database (map_push stored_of made new) ∙ map_push (λ (s : StoredTable). s.table) (stored made) (stored_of new)
    ∙ ap (λ (ts : Database). ts ++ new.table ∷ []) are ∙ ap (λ (t : TableRows). tables ++ t ∷ []) is

pub copied_more : (copy tables : List PagedTable) (i : ℕ) (new old : PagedTable) → slice_get tables i ≡ Some old → new.table ≡ old.table → database (stored copy) ≡ database (stored (take i tables)) → database (stored (copy ++ new ∷ [])) ≡ database (stored (take (i + 1) tables))
copied_more copy tables i new old at same so_far =
    let next : take (i + 1) tables ≡ take i tables ++ old ∷ [] = take_more tables i old (slice_get_within tables i old at) ∙ ap (λ (t : PagedTable). take i tables ++ t ∷ []) (get_or_from_slice_get tables i old old at) in
    one_more copy new (database (stored (take i tables))) old.table so_far same
    ∙ sym (one_more (take i tables) old (database (stored (take i tables))) old.table refl refl)
    ∙ ap (λ (ts : List PagedTable). database (stored ts)) (sym next)

added : (tables after : NamedValues PagedTable) (new : PagedTable) (name : List ℕ) → AreNamed tables → has_table new.table.schema.name (database (stored tables.values)) ≡ false → name ≡ new.table.schema.name
    → after.names ≡ tables.names ++ name ∷ [] → after.values ≡ tables.values ++ new ∷ [] → AreNamed after
added tables after new name named none is names values =
    let differ : NamesDiffer (database (stored (tables.values ++ new ∷ []))) = subst (λ (ts : List StoredTable). NamesDiffer (database ts)) (sym (map_push stored_of tables.values new)) (added_differ (stored tables.values) (stored_of new) named.1 none) in (
      names ∙ ap (λ ns. ns ++ name ∷ []) named.0 ∙ ap (λ n. table_names tables.values ++ n ∷ []) is ∙ sym (map_push (λ (t : PagedTable). t.table.schema.name) tables.values new) ∙ ap table_names (sym values),
      subst (λ (ts : List PagedTable). NamesDiffer (database (stored ts))) (sym values) differ,
    )

unchanged : (tables after : NamedValues PagedTable) → AreNamed tables → after.names ≡ tables.names → after.values ≡ tables.values → AreNamed after
unchanged tables after named names values = (names ∙ named.0 ∙ ap table_names (sym values), subst (λ (ts : List PagedTable). NamesDiffer (database (stored ts))) (sym values) named.1)

-- whether it was added or not
pub still_named : {X Y : Type 0} (result : Result X Y) (tables after : NamedValues PagedTable) (new : PagedTable) (name : List ℕ) → AreNamed tables → has_table new.table.schema.name (database (stored tables.values)) ≡ false → name ≡ new.table.schema.name
    → OnOk result (after.names ≡ tables.names ++ name ∷ []) → OnOk result (after.values ≡ tables.values ++ new ∷ []) → OnErr result (after.names ≡ tables.names) → OnErr result (after.values ≡ tables.values) → AreNamed after
still_named (Ok x) tables after new name named none is names values same_names same_values = added tables after new name named none is names values
still_named (Err y) tables after new name named none is names values same_names same_values = unchanged tables after named same_names same_values

pub fresh_copy : (copy tables : List PagedTable) (i : ℕ) (new old : PagedTable) → NamesDiffer (database (stored tables)) → slice_get tables i ≡ Some old → new.table ≡ old.table → database (stored copy) ≡ database (stored (take i tables))
    → has_table new.table.schema.name (database (stored copy)) ≡ false
fresh_copy copy tables i new old differ at same so_far =
    let there : slice_get (database (stored tables)) i ≡ Some old.table = got_map (λ (s : StoredTable). s.table) (stored tables) i (stored_of old) (got_map stored_of tables i old at) in
    let ahead : database (stored (take i tables)) ≡ take i (database (stored tables)) = ap database (sym (take-map stored_of i tables)) ∙ sym (take-map (λ (s : StoredTable). s.table) i (stored tables)) in
    ap (λ (t : TableRows). has_table t.schema.name (database (stored copy))) same ∙ ap (has_table old.table.schema.name) (so_far ∙ ahead) ∙ not_ahead (database (stored tables)) i old.table differ there

-- ---- one table less

pub removed_stored : (tables : List PagedTable) (n : ℕ) → stored (remove tables n) ≡ remove (stored tables) n
removed_stored tables n = map-remove stored_of tables n

pub taken_out : (name : List ℕ) (tables : List PagedTable) (n : ℕ) (old : PagedTable) → NamesDiffer (database (stored tables)) → n ≡ place name tables → slice_get tables n ≡ Some old → IsTaken name (stored tables) n (stored_of old)
taken_out name tables n old differ is at =
    let there : slice_get (stored tables) n ≡ Some (stored_of old) = got_map stored_of tables n old at in
    take_out name (stored tables) n (stored_of old) differ (is ∙ before_stored name tables) (slice_get_within (stored tables) n (stored_of old) there) (sym (get_or_from_slice_get (stored tables) n (stored_of old) (stored_of old) there))

pub taken_named : (name : List ℕ) (tables after : NamedValues PagedTable) (n : ℕ) (old : PagedTable) → AreNamed tables → IsTaken name (stored tables.values) n (stored_of old) → after.names ≡ remove tables.names n → after.values ≡ remove tables.values n → AreNamed after
taken_named name tables after n old named out names values =
    let moved : stored after.values ≡ remove (stored tables.values) n = ap stored values ∙ removed_stored tables.values n in (
      names ∙ ap (λ ns. remove ns n) named.0 ∙ sym (map-remove (λ (t : PagedTable). t.table.schema.name) tables.values n) ∙ ap table_names (sym values),
      subst (λ (ts : List StoredTable). NamesDiffer (database ts)) (sym moved) out.differ,
    )

pub not_there : (name : List ℕ) (tables : List PagedTable) (n : ℕ) → n ≡ place name tables → length tables ≤ n → IsAbsent name (stored tables)
not_there name tables n is past = absent name (stored tables) n (is ∙ before_stored name tables) (subst (λ (k : ℕ). k ≤ n) (sym (length-map tables stored_of)) past)
