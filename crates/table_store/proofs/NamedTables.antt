-- The table of a name among tables of different names.
use Rattle.std.proofs.Common.{◌≡◌, ℕ, ◌+◌, ◌<◌, ◌≤◌, Bool, true, false, not, ◌||◌, List, [], ◌∷◌, ◌++◌, length, get_or, set, map, take, remove, cond, option_map, IsSome, IsSomeAnd, is_some, Option, Some, None, Bor, refl, sym, ap, ◌∙◌, subst, one-add, zero, suc}
use Rattle.std.specs.List.{prefix_len, slice_get}
use Rattle.std.specs.Option.{option_copied, option_map_or}
use Rattle.std.specs.Str.{bytes_eq}
use Rattle.std.specs.Cmp.Lexicographic.{bytes_decides}
use Rattle.std.proofs.lemmas.Bool.{cond-false, or_parts}
use Rattle.std.proofs.lemmas.Option.{slice_get_read, slice_get_within, slice_get_past}
use Rattle.base_values.specs.declared.value.Value.{Value}
use Rattle.base_values.specs.declared.gho_schema.schema.Schema.{Schema}
use Rattle.base_values.specs.GhoSchema.Rows.{key_places, with_row}
use Rattle.table_store.specs.Databases.{TableRows, StoredTable, Database, IsNewIn, put_in_table, is_named, find_table, has_table, find_stored, others, spare_in, database, with_change, NamesDiffer}
use Rattle.table_store.proofs.FoundRows.{put_new}

-- the table alone of what is found
found_table : (b : Bool) (stored : StoredTable) (rest : Option StoredTable) (others : Option TableRows) → option_map (λ (s : StoredTable). s.table) rest ≡ others → option_map (λ (s : StoredTable). s.table) (cond b (Some stored) rest) ≡ cond b (Some stored.table) others
found_table true stored rest others is = refl
found_table false stored rest others is = is

pub find-database : (name : List ℕ) (tables : List StoredTable) → option_map (λ (s : StoredTable). s.table) (find_stored name tables) ≡ find_table name (database tables)
find-database name [] = refl
find-database name (stored ∷ tables) = found_table (is_named name stored.table) stored (find_stored name tables) (find_table name (database tables)) (find-database name tables)

pub table_of_copied : (found : Option (Bor StoredTable)) → option_map (λ (t : Bor StoredTable). t.now.table) found ≡ option_map (λ (s : StoredTable). s.table) (option_copied found)
table_of_copied None = refl
table_of_copied (Some t) = refl

-- how many tables stand before the one of the name
abbrev pub before : List ℕ → List StoredTable → ℕ
before name tables = prefix_len (λ (s : StoredTable). not (is_named name s.table)) tables

found_first : (b : Bool) (stored : StoredTable) (tables : List StoredTable) (n : ℕ) (rest : Option StoredTable) → rest ≡ slice_get tables n → cond b (Some stored) rest ≡ slice_get (stored ∷ tables) (cond (not b) (1 + n) 0)
found_first true stored tables n rest is = refl
found_first false stored tables n rest is = rw (one-add n) is

-- the table of the name stands at its place
pub find_stored-before : (name : List ℕ) (tables : List StoredTable) → find_stored name tables ≡ slice_get tables (before name tables)
find_stored-before name [] = refl
find_stored-before name (stored ∷ tables) = found_first (is_named name stored.table) stored tables (before name tables) (find_stored name tables) (find_stored-before name tables)

-- what is known of a table that stands at this place under this name
pub record Stands (name : List ℕ) (tables : List StoredTable) (n : ℕ) (old : StoredTable) : Type 0 where
  pub within : n < length tables
  pub at : slice_get tables (before name tables) ≡ Some old
  pub found : find_table name (database tables) ≡ Some old.table
  pub spare : spare_in name tables ≡ old.spare

some_stored : (found : Option StoredTable) (table : Option TableRows) → option_map (λ (s : StoredTable). s.table) found ≡ table → IsSome table → (s : StoredTable) × (found ≡ Some s)
some_stored None table is some = let not_so : false ≡ true = subst IsSome (sym is) some in absurd (cc)
some_stored (Some s) table is some = (s, refl)

pub within : (name : List ℕ) (tables : List StoredTable) (n : ℕ) → n ≡ before name tables → IsSome (find_table name (database tables)) → n < length tables
within name tables n is some =
    let there = some_stored (find_stored name tables) (find_table name (database tables)) (find-database name tables) some in
    let at : slice_get tables n ≡ Some there.0 = ap (λ (k : ℕ). slice_get tables k) is ∙ sym (find_stored-before name tables) ∙ there.1 in
    slice_get_within tables n there.0 at

pub stands : (name : List ℕ) (tables : List StoredTable) (n : ℕ) (old : StoredTable) → n ≡ before name tables → IsSome (find_table name (database tables)) → old ≡ get_or tables n old → Stands name tables n old
stands name tables n old is some at =
    let lt = within name tables n is some in
    let here : slice_get tables n ≡ Some old = slice_get_read tables (length tables) n old refl lt at in
    let there : find_stored name tables ≡ Some old = find_stored-before name tables ∙ ap (λ (k : ℕ). slice_get tables k) (sym is) ∙ here in
    record {
      within = lt;
      at = ap (λ (k : ℕ). slice_get tables k) (sym is) ∙ here;
      found = sym (find-database name tables) ∙ ap (option_map (λ (s : StoredTable). s.table)) there;
      spare = ap (λ (found : Option StoredTable). option_map_or (λ (s : StoredTable). s.spare) found 0) there;
    }

-- a table of another name is left alone
pub no_change : (name : List ℕ) (change : TableRows → TableRows) (tables : Database) → has_table name tables ≡ false → with_change name change tables ≡ tables
no_change name change [] none = refl
no_change name change (table ∷ tables) none =
    let parts = or_parts (is_named name table) (has_table name tables) none in
    rw (cond-false (is_named name table) (change table) table parts.0, no_change name change tables parts.1) refl

-- of tables with different names, only the first may have the name of the first
pub none_after : (name : List ℕ) (table : TableRows) (tables : Database) → is_named name table ≡ true → has_table table.schema.name tables ≡ false → has_table name tables ≡ false
none_after name table tables named none = let same : table.schema.name ≡ name = (bytes_decides table.schema.name name).0 named in subst (λ (n : List ℕ). has_table n tables ≡ false) same none

-- the write of another table at the place of the name, where it is a change of the old one
write_first : (name : List ℕ) (change : TableRows → TableRows) (stored old new : StoredTable) (tables : List StoredTable) (b : Bool) → is_named name stored.table ≡ b → has_table stored.table.schema.name (database tables) ≡ false
    → slice_get (stored ∷ tables) (cond (not b) (1 + before name tables) 0) ≡ Some old → new.table ≡ change old.table
    → (slice_get tables (before name tables) ≡ Some old → database (set tables (before name tables) new) ≡ with_change name change (database tables))
    → database (set (stored ∷ tables) (cond (not b) (1 + before name tables) 0) new) ≡ cond b (change stored.table) stored.table ∷ with_change name change (database tables)
write_first name change stored old new tables true named none at is others =
    let same : stored ≡ old = cc in
    rw (no_change name change (database tables) (none_after name stored.table (database tables) named none)) (ap (λ (t : TableRows). t ∷ database tables) (is ∙ ap (λ (s : StoredTable). change s.table) (sym same)))
write_first name change stored old new tables false named none at is others =
    let following : slice_get tables (before name tables) ≡ Some old = rw (one-add (before name tables)) at at in
    rw (one-add (before name tables)) (ap (λ (ts : Database). stored.table ∷ ts) (others following))

pub written : (name : List ℕ) (change : TableRows → TableRows) (tables : List StoredTable) (old new : StoredTable) → NamesDiffer (database tables) → slice_get tables (before name tables) ≡ Some old → new.table ≡ change old.table
    → database (set tables (before name tables) new) ≡ with_change name change (database tables)
written name change [] old new differ at is = absurd cc
written name change (stored ∷ tables) old new differ at is =
    write_first name change stored old new tables (is_named name stored.table) refl differ.0 at is (λ (following : slice_get tables (before name tables) ≡ Some old). written name change tables old new differ.1 following is)

-- the room of the table that is written
room_first : (name : List ℕ) (stored old new : StoredTable) (tables : List StoredTable) (b : Bool) → is_named name stored.table ≡ b → is_named name new.table ≡ true
    → slice_get (stored ∷ tables) (cond (not b) (1 + before name tables) 0) ≡ Some old
    → (slice_get tables (before name tables) ≡ Some old → find_stored name (set tables (before name tables) new) ≡ Some new)
    → find_stored name (set (stored ∷ tables) (cond (not b) (1 + before name tables) 0) new) ≡ Some new
room_first name stored old new tables true named is at others = rw is refl
room_first name stored old new tables false named is at others =
    let following : slice_get tables (before name tables) ≡ Some old = rw (one-add (before name tables)) at at in
    rw (one-add (before name tables), named) (others following)

pub found_written : (name : List ℕ) (tables : List StoredTable) (old new : StoredTable) → is_named name new.table ≡ true → slice_get tables (before name tables) ≡ Some old → find_stored name (set tables (before name tables) new) ≡ Some new
found_written name [] old new is at = absurd cc
found_written name (stored ∷ tables) old new is at =
    room_first name stored old new tables (is_named name stored.table) refl is at (λ (following : slice_get tables (before name tables) ≡ Some old). found_written name tables old new is following)

-- the other tables
rest_first : (name : List ℕ) (stored old new : StoredTable) (tables : List StoredTable) (b : Bool) → is_named name stored.table ≡ b → is_named name new.table ≡ true
    → slice_get (stored ∷ tables) (cond (not b) (1 + before name tables) 0) ≡ Some old
    → (slice_get tables (before name tables) ≡ Some old → others name (set tables (before name tables) new) ≡ others name tables)
    → others name (set (stored ∷ tables) (cond (not b) (1 + before name tables) 0) new) ≡ cond (not b) (stored ∷ others name tables) (others name tables)
rest_first name stored old new tables true named is at rest = rw is refl
rest_first name stored old new tables false named is at rest =
    let following : slice_get tables (before name tables) ≡ Some old = rw (one-add (before name tables)) at at in
    rw (one-add (before name tables), named) (ap (λ (ts : List StoredTable). stored ∷ ts) (rest following))

pub others_written : (name : List ℕ) (tables : List StoredTable) (old new : StoredTable) → is_named name new.table ≡ true → slice_get tables (before name tables) ≡ Some old → others name (set tables (before name tables) new) ≡ others name tables
others_written name [] old new is at = absurd cc
others_written name (stored ∷ tables) old new is at =
    rest_first name stored old new tables (is_named name stored.table) refl is at (λ (following : slice_get tables (before name tables) ≡ Some old). others_written name tables old new is following)

-- a change that keeps names
same_has : (name : List ℕ) (change : TableRows → TableRows) (tables : Database) → ((t : TableRows) → (change t).schema.name ≡ t.schema.name) → has_table name (map change tables) ≡ has_table name tables
same_has name change [] keeps = refl
same_has name change (table ∷ tables) keeps = rw (keeps table, same_has name change tables keeps) refl

same_differ : (change : TableRows → TableRows) (tables : Database) → ((t : TableRows) → (change t).schema.name ≡ t.schema.name) → NamesDiffer tables → NamesDiffer (map change tables)
same_differ change [] keeps differ = tt
same_differ change (table ∷ tables) keeps differ = (rw (keeps table) (same_has table.schema.name change tables keeps ∙ differ.0), same_differ change tables keeps differ.1)

here_keeps : (b : Bool) (change : TableRows → TableRows) (t : TableRows) → (change t).schema.name ≡ t.schema.name → (cond b (change t) t).schema.name ≡ t.schema.name
here_keeps true change t keeps = keeps
here_keeps false change t keeps = refl

pub with_change_differs : (name : List ℕ) (change : TableRows → TableRows) (tables : Database) → ((t : TableRows) → (change t).schema.name ≡ t.schema.name) → NamesDiffer tables → NamesDiffer (with_change name change tables)
with_change_differs name change tables keeps differ = same_differ (λ (t : TableRows). cond (is_named name t) (change t) t) tables (λ t. here_keeps (is_named name t) change t (keeps t)) differ

-- the table at the place has the name
named_first : (name : List ℕ) (stored old : StoredTable) (tables : List StoredTable) (b : Bool) → is_named name stored.table ≡ b → slice_get (stored ∷ tables) (cond (not b) (1 + before name tables) 0) ≡ Some old
    → (slice_get tables (before name tables) ≡ Some old → is_named name old.table ≡ true) → is_named name old.table ≡ true
named_first name stored old tables true named at rest = let same : stored ≡ old = cc in subst (λ (s : StoredTable). is_named name s.table ≡ true) same named
named_first name stored old tables false named at rest = rest (rw (one-add (before name tables)) at at)

named_at : (name : List ℕ) (tables : List StoredTable) (old : StoredTable) → slice_get tables (before name tables) ≡ Some old → is_named name old.table ≡ true
named_at name [] old at = absurd cc
named_at name (stored ∷ tables) old at = named_first name stored old tables (is_named name stored.table) refl at (λ (following : slice_get tables (before name tables) ≡ Some old). named_at name tables old following)

-- what is known once a changed table is written at the place of the name
pub record Wrote (name : List ℕ) (change : TableRows → TableRows) (tables : List StoredTable) (n : ℕ) (new : StoredTable) : Type 0 where
  pub changed : database (set tables n new) ≡ with_change name change (database tables)
  pub differ : NamesDiffer (database (set tables n new))
  pub spare : spare_in name (set tables n new) ≡ new.spare
  pub rest : others name (set tables n new) ≡ others name tables

wrote_at : (name : List ℕ) (change : TableRows → TableRows) (tables : List StoredTable) (old new : StoredTable) → ((t : TableRows) → (change t).schema.name ≡ t.schema.name) → NamesDiffer (database tables)
    → slice_get tables (before name tables) ≡ Some old → new.table ≡ change old.table → Wrote name change tables (before name tables) new
wrote_at name change tables old new keeps differ at is =
    let same : new.table.schema.name ≡ old.table.schema.name = ap (λ (t : TableRows). t.schema.name) is ∙ keeps old.table in
    let named : is_named name new.table ≡ true = rw same (named_at name tables old at) in
    let changed = written name change tables old new differ at is in
    record {
      changed = changed;
      differ = subst NamesDiffer (sym changed) (with_change_differs name change (database tables) keeps differ);
      spare = ap (λ (found : Option StoredTable). option_map_or (λ (s : StoredTable). s.spare) found 0) (found_written name tables old new named at);
      rest = others_written name tables old new named at;
    }

pub wrote : (name : List ℕ) (change : TableRows → TableRows) (tables : List StoredTable) (n : ℕ) (old new : StoredTable) → ((t : TableRows) → (change t).schema.name ≡ t.schema.name) → NamesDiffer (database tables) → n ≡ before name tables
    → Stands name tables n old → new.table ≡ change old.table → Wrote name change tables n new
wrote name change tables n old new keeps differ is stands changed = subst (λ (k : ℕ). Wrote name change tables k new) (sym is) (wrote_at name change tables old new keeps differ stands.at changed)

-- a change that changes nothing
same_here : (b : Bool) (t : TableRows) → cond b t t ≡ t
same_here true t = refl
same_here false t = refl

pub no_op : (name : List ℕ) (tables : Database) → with_change name (λ t. t) tables ≡ tables
no_op name [] = refl
no_op name (table ∷ tables) = rw (same_here (is_named name table) table, no_op name tables) refl

pub some_of : {X : Type 0} (o : Option X) (P : X → Type 0) → IsSomeAnd o P → IsSome o
some_of None P and = absurd and
some_of (Some x) P and = refl

-- a row put into the table at the place of the name
new_in : (name : List ℕ) (row : List Value) (tables : List StoredTable) (found : Option TableRows) (old : TableRows) → found ≡ Some old → IsSomeAnd found (IsNewIn row) → IsNewIn row old
new_in name row tables found old is and = subst (λ (o : Option TableRows). IsSomeAnd o (IsNewIn row)) is and

pub same_table : (s s' : Schema) (r r' : List (List Value)) → s ≡ s' → r ≡ r' → let a : TableRows = record { schema = s; rows = r } in a ≡ record { schema = s'; rows = r' }
same_table s s' r r' is are = cc

-- what is known of the table before and after a row is put into it
pub record Put (name : List ℕ) (row : List Value) (tables : List StoredTable) (n : ℕ) (old new : StoredTable) : Type 0 where
  pub was : Stands name tables n old
  pub wrote : Wrote name (put_in_table row) tables n new

pub is_new : (name : List ℕ) (row : List Value) (tables : List StoredTable) (n : ℕ) (old : StoredTable) → n ≡ before name tables → old ≡ get_or tables n old → IsSomeAnd (find_table name (database tables)) (IsNewIn row) → IsNewIn row old.table
is_new name row tables n old is at new =
    let was = stands name tables n old is (some_of (find_table name (database tables)) (IsNewIn row) new) at in
    new_in name row tables (find_table name (database tables)) old.table was.found new

pub put : (name : List ℕ) (row : List Value) (tables : List StoredTable) (n : ℕ) (old new : StoredTable) → NamesDiffer (database tables) → n ≡ before name tables → old ≡ get_or tables n old → IsSomeAnd (find_table name (database tables)) (IsNewIn row)
    → new.table.schema ≡ old.table.schema → new.table.rows ≡ with_row (key_places old.table.schema) row old.table.rows → Put name row tables n old new
put name row tables n old new differ is at fresh schema rows =
    let was = stands name tables n old is (some_of (find_table name (database tables)) (IsNewIn row) fresh) at in
    let none : IsNewIn row old.table = is_new name row tables n old is at fresh in
    let changed : new.table ≡ put_in_table row old.table = same_table new.table.schema old.table.schema new.table.rows _ schema (rows ∙ sym (put_new (key_places old.table.schema) row old.table.rows none)) in
    record { was = was; wrote = wrote name (put_in_table row) tables n old new (λ t. refl) differ is was changed }

-- where no table has the name, taking it out leaves all
none_first : (name : List ℕ) (stored : StoredTable) (tables : List StoredTable) (b : Bool) → is_named name stored.table ≡ b → cond b (Some stored) (find_stored name tables) ≡ None → (find_stored name tables ≡ None → others name tables ≡ tables)
    → cond (not b) (stored ∷ others name tables) (others name tables) ≡ stored ∷ tables
none_first name stored tables true named none rest = absurd cc
none_first name stored tables false named none rest = ap (λ (ts : List StoredTable). stored ∷ ts) (rest none)

all_others : (name : List ℕ) (tables : List StoredTable) → find_stored name tables ≡ None → others name tables ≡ tables
all_others name [] none = refl
all_others name (stored ∷ tables) none = none_first name stored tables (is_named name stored.table) refl none (all_others name tables)

pub record IsAbsent (name : List ℕ) (tables : List StoredTable) : Type 0 where
  pub found : find_stored name tables ≡ None
  pub rest : others name tables ≡ tables

pub absent : (name : List ℕ) (tables : List StoredTable) (n : ℕ) → n ≡ before name tables → length tables ≤ n → IsAbsent name tables
absent name tables n is past =
    let none : find_stored name tables ≡ None = find_stored-before name tables ∙ ap (λ (k : ℕ). slice_get tables k) (sym is) ∙ slice_get_past tables n past in
    record { found = none; rest = all_others name tables none }

-- taking the table at the place out leaves those of other names
none_named : (name : List ℕ) (tables : List StoredTable) → has_table name (database tables) ≡ false → others name tables ≡ tables
none_named name [] none = refl
none_named name (stored ∷ tables) none =
    let parts = or_parts (is_named name stored.table) (has_table name (database tables)) none in
    rw parts.0 (ap (λ (ts : List StoredTable). stored ∷ ts) (none_named name tables parts.1))

taken_first : (name : List ℕ) (stored old : StoredTable) (tables : List StoredTable) (b : Bool) → is_named name stored.table ≡ b → has_table stored.table.schema.name (database tables) ≡ false
    → slice_get (stored ∷ tables) (cond (not b) (1 + before name tables) 0) ≡ Some old
    → (slice_get tables (before name tables) ≡ Some old → others name tables ≡ remove tables (before name tables))
    → cond (not b) (stored ∷ others name tables) (others name tables) ≡ remove (stored ∷ tables) (cond (not b) (1 + before name tables) 0)
taken_first name stored old tables true named none at rest = none_named name tables (none_after name stored.table (database tables) named none)
taken_first name stored old tables false named none at rest =
    let following : slice_get tables (before name tables) ≡ Some old = rw (one-add (before name tables)) at at in
    rw (one-add (before name tables)) (ap (λ (ts : List StoredTable). stored ∷ ts) (rest following))

taken : (name : List ℕ) (tables : List StoredTable) (old : StoredTable) → NamesDiffer (database tables) → slice_get tables (before name tables) ≡ Some old → others name tables ≡ remove tables (before name tables)
taken name [] old differ at = absurd cc
taken name (stored ∷ tables) old differ at =
    taken_first name stored old tables (is_named name stored.table) refl differ.0 at (λ (following : slice_get tables (before name tables) ≡ Some old). taken name tables old differ.1 following)

kept_has : (name : List ℕ) (b : Bool) (stored : StoredTable) (tables : List StoredTable) → is_named name stored.table ≡ false → has_table name (database tables) ≡ false → has_table name (database (cond b (stored ∷ tables) tables)) ≡ false
kept_has name true stored tables named none = rw named none
kept_has name false stored tables named none = none

others_have : (name other : List ℕ) (tables : List StoredTable) → has_table name (database tables) ≡ false → has_table name (database (others other tables)) ≡ false
others_have name other [] none = refl
others_have name other (stored ∷ tables) none =
    let parts = or_parts (is_named name stored.table) (has_table name (database tables)) none in
    kept_has name (not (is_named other stored.table)) stored (others other tables) parts.0 (others_have name other tables parts.1)

kept_differ : (b : Bool) (stored : StoredTable) (tables : List StoredTable) → has_table stored.table.schema.name (database tables) ≡ false → NamesDiffer (database tables) → NamesDiffer (database (cond b (stored ∷ tables) tables))
kept_differ true stored tables none differ = (none, differ)
kept_differ false stored tables none differ = differ

pub others_differ : (name : List ℕ) (tables : List StoredTable) → NamesDiffer (database tables) → NamesDiffer (database (others name tables))
others_differ name [] differ = tt
others_differ name (stored ∷ tables) differ =
    kept_differ (not (is_named name stored.table)) stored (others name tables) (others_have stored.table.schema.name name tables differ.0) (others_differ name tables differ.1)

pub record IsTaken (name : List ℕ) (tables : List StoredTable) (n : ℕ) (old : StoredTable) : Type 0 where
  pub found : find_stored name tables ≡ Some old
  pub rest : others name tables ≡ remove tables n
  pub differ : NamesDiffer (database (remove tables n))

pub take_out : (name : List ℕ) (tables : List StoredTable) (n : ℕ) (old : StoredTable) → NamesDiffer (database tables) → n ≡ before name tables → n < length tables → old ≡ get_or tables n old → IsTaken name tables n old
take_out name tables n old differ is lt at =
    let here : slice_get tables n ≡ Some old = slice_get_read tables (length tables) n old refl lt at in
    let there : slice_get tables (before name tables) ≡ Some old = ap (λ (k : ℕ). slice_get tables k) (sym is) ∙ here in
    let rest : others name tables ≡ remove tables n = taken name tables old differ there ∙ ap (λ (k : ℕ). remove tables k) (sym is) in
    record { found = find_stored-before name tables ∙ there; rest = rest; differ = subst (λ (ts : List StoredTable). NamesDiffer (database ts)) rest (others_differ name tables differ) }

-- a table of a new name behind the others
has_first : (b : Bool) (stored : StoredTable) (rest : Option StoredTable) (others : Bool) → is_some rest ≡ others → is_some (cond b (Some stored) rest) ≡ (b || others)
has_first true stored rest others is = refl
has_first false stored rest others is = is

pub has_found : (name : List ℕ) (tables : List StoredTable) → is_some (find_stored name tables) ≡ has_table name (database tables)
has_found name [] = refl
has_found name (stored ∷ tables) = has_first (is_named name stored.table) stored (find_stored name tables) (has_table name (database tables)) (has_found name tables)

pub some_copied : (found : Option (Bor StoredTable)) → is_some found ≡ is_some (option_copied found)
some_copied None = refl
some_copied (Some t) = refl

pub other_way : (a b : List ℕ) (r : Bool) → bytes_eq a b ≡ false → bytes_eq b a ≡ r → r ≡ false
other_way a b true apart is = let same : b ≡ a = (bytes_decides b a).0 is in let one : bytes_eq a b ≡ true = (bytes_decides a b).1 (sym same) in absurd (cc)
other_way a b false apart is = refl

has_after : (name : List ℕ) (tables : List StoredTable) (new : StoredTable) → has_table name (database tables) ≡ false → bytes_eq new.table.schema.name name ≡ false → has_table name (database (tables ++ new ∷ [])) ≡ false
has_after name [] new none apart = rw apart refl
has_after name (stored ∷ tables) new none apart =
    let parts = or_parts (is_named name stored.table) (has_table name (database tables)) none in
    rw parts.0 (has_after name tables new parts.1 apart)

pub added_differ : (tables : List StoredTable) (new : StoredTable) → NamesDiffer (database tables) → has_table new.table.schema.name (database tables) ≡ false → NamesDiffer (database (tables ++ new ∷ []))
added_differ [] new differ none = (refl, tt)
added_differ (stored ∷ tables) new differ none =
    let parts = or_parts (is_named new.table.schema.name stored.table) (has_table new.table.schema.name (database tables)) none in
    (has_after stored.table.schema.name tables new differ.0 (other_way stored.table.schema.name new.table.schema.name _ parts.0 refl), added_differ tables new differ.1 parts.1)

pub stands_is : (name : List ℕ) (found : Option (Bor StoredTable)) (tables now : List StoredTable) → option_copied found ≡ find_stored name tables → tables ≡ now → is_some found ≡ has_table name (database now)
stands_is name found tables now is same = some_copied found ∙ ap (λ (o : Option StoredTable). is_some o) is ∙ has_found name tables ∙ ap (λ (ts : List StoredTable). has_table name (database ts)) same

-- ---- a table that comes after others has none of their names

not_at : (name : List ℕ) (tables : Database) (n : ℕ) (t : TableRows) → has_table name tables ≡ false → slice_get tables n ≡ Some t → is_named name t ≡ false
not_at name [] n t none at = absurd cc
not_at name (x ∷ tables) zero t none at = let same : x ≡ t = cc in subst (λ (y : TableRows). is_named name y ≡ false) same (or_parts (is_named name x) (has_table name tables) none).0
not_at name (x ∷ tables) (suc n) t none at = not_at name tables n t (or_parts (is_named name x) (has_table name tables) none).1 at

pub not_ahead : (tables : Database) (n : ℕ) (t : TableRows) → NamesDiffer tables → slice_get tables n ≡ Some t → has_table t.schema.name (take n tables) ≡ false
not_ahead [] n t differ at = absurd cc
not_ahead (x ∷ tables) zero t differ at = refl
not_ahead (x ∷ tables) (suc n) t differ at =
    let apart : is_named x.schema.name t ≡ false = not_at x.schema.name tables n t differ.0 at in
    let other : is_named t.schema.name x ≡ false = other_way t.schema.name x.schema.name (is_named t.schema.name x) apart refl in
    rw other (not_ahead tables n t differ.1 at)
