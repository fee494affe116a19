-- The tables to which a transaction wrote, with one more of them or with more in one of them.
use Rattle.std.proofs.Common.{◌≡◌, ℕ, ◌<◌, ◌≤◌, Bool, true, false, ◌||◌, List, [], ◌∷◌, ◌++◌, length, map, cond, get_or, Option, Some, None, Result, Ok, Err, OnOk, refl, sym, ap, ◌∙◌, subst}
use Rattle.std.specs.Prelude.{slice_get, is_some, IfSome}
use Rattle.std.specs.Option.{option_or}
use Rattle.std.specs.List.{list_any, position_or_len}
use Rattle.std.specs.Str.{bytes_eq}
use Rattle.std.proofs.Math.ListN.{set}
use Rattle.std.proofs.Math.Seq.{map-set_same}
use Rattle.std.proofs.lemmas.List.{map-append}
use Rattle.std.proofs.lemmas.Option.{slice_get_read, slice_get_past}
use Rattle.std.proofs.lemmas.List.Folds.{find_at, find-set, find_past, find-append}
use Rattle.base_values.specs.declared.gho_schema.schema.Schema.{Schema}
use Rattle.base_values.specs.GhoSchema.Rows.{key_places}
use Rattle.server_model.proofs.LockedRows.Tests.{are_same, same_bytes}
use Rattle.server_seen.specs.Written.{Written}
use Rattle.server_seen.specs.Stored.{StoredWrites, written_in}
use Rattle.server_transaction.specs.declared.ready_changes.ReadyChange.{ReadyChange}
use Rattle.server_transaction.specs.Ready.{wrote_each}
use Rattle.server_transaction.specs.Shown.{find_writes}
use Rattle.server_transaction.specs.Stored.{schemas, schemas_with, PlainWrites, plain, HasFresh, HasRoomFor, IsFresh, IsMore, IsWrittenTo}

-- the table has the name
abbrev pub named : List ℕ → StoredWrites → Bool
named name table = bytes_eq table.schema.name name

-- a table at the place of the name is found by it
pub found_there : (name : List ℕ) (tables : List StoredWrites) (place : ℕ) (table : StoredWrites) → place ≡ position_or_len (named name) tables → place < length tables → table ≡ get_or tables place table → find_writes name tables ≡ Some table
found_there name tables place table is within at = find_at (named name) tables ∙ ap (slice_get tables) (sym is) ∙ slice_get_read tables (length tables) place table refl within at

-- no table is found where the place is behind all
pub none_there : (name : List ℕ) (tables : List StoredWrites) (place : ℕ) → place ≡ position_or_len (named name) tables → length tables ≤ place → find_writes name tables ≡ None
none_there name tables place is following = find_at (named name) tables ∙ ap (slice_get tables) (sym is) ∙ slice_get_past tables place following

-- a table that is found has the name
named_first : (name : List ℕ) (first table : StoredWrites) (tables : List StoredWrites) (b : Bool) → named name first ≡ b → cond b (Some first) (find_writes name tables) ≡ Some table → (find_writes name tables ≡ Some table → named name table ≡ true) → named name table ≡ true
named_first name first table tables true is found rest = let same : first ≡ table = cc in ap (named name) (sym same) ∙ is
named_first name first table tables false is found rest = rest found

pub found_named : (name : List ℕ) (table : StoredWrites) (tables : List StoredWrites) → find_writes name tables ≡ Some table → named name table ≡ true
found_named name table [] found = absurd (cc)
found_named name table (first ∷ tables) found = named_first name first table tables (named name first) refl found (found_named name table tables)

other_named : (own name : List ℕ) (table : StoredWrites) → named own table ≡ true → bytes_eq own name ≡ false → named name table ≡ false
other_named own name table is other = ap (λ (n : List ℕ). bytes_eq n name) (are_same table.schema.name own is) ∙ other

-- more is written in the table of the name
pub written_there : (own : List ℕ) (tables : List StoredWrites) (place : ℕ) (old now : StoredWrites) → place ≡ position_or_len (named own) tables → place < length tables → old ≡ get_or tables place old → now.schema ≡ old.schema → IsMore own tables (set tables place now) now
written_there own tables place old now is within at same =
    let found : find_writes own tables ≡ Some old = found_there own tables place old is within at in
    let was : named own old ≡ true = found_named own old tables found in
    let still : named own now ≡ true = ap (λ (s : Schema). bytes_eq s.name own) same ∙ was in
    record {
      there = find-set (named own) tables place now is within still;
      others = λ name other. find_past (named name) tables place now old (subst (λ (t : StoredWrites). named name t ≡ false) at (other_named own name old was other)) (other_named own name now still other);
      schema = λ table found'. let one : old ≡ table = cc (sym found ∙ found') in ap (λ (t : StoredWrites). t.schema) (sym one) ∙ sym same;
    }

pub schemas_there : (own : List ℕ) (tables : List StoredWrites) (place : ℕ) (old now : StoredWrites) → old ≡ get_or tables place old → now.schema ≡ old.schema → schemas (set tables place now) ≡ schemas tables
schemas_there own tables place old now at same = map-set_same (λ (t : StoredWrites). t.schema) tables place now old (same ∙ ap (λ (t : StoredWrites). t.schema) at)

-- something is written to one table more
some_or : (b : Bool) (found : Option StoredWrites) (now : StoredWrites) → b ≡ false → option_or found (cond b (Some now) None) ≡ found
some_or true found now is = absurd (cc)
some_or false None now is = refl
some_or false (Some table) now is = refl

pub written_after : (own : List ℕ) (tables : List StoredWrites) (now : StoredWrites) → find_writes own tables ≡ None → now.schema.name ≡ own → IsMore own tables (tables ++ now ∷ []) now
written_after own tables now none named_so = record {
  there = find-append (named own) tables (now ∷ []) ∙ rw (none, named_so, same_bytes own) refl;
  others = λ name other. find-append (named name) tables (now ∷ []) ∙ some_or (named name now) (find_writes name tables) now (ap (λ (n : List ℕ). bytes_eq n name) named_so ∙ other);
  schema = λ table found. absurd (cc (sym none ∙ found));
}

-- whether a schema of the name is among those of the tables
has_first : (b : Bool) (first : StoredWrites) (more : Bool) (found : Option StoredWrites) → more ≡ is_some found → (b || more) ≡ is_some (cond b (Some first) found)
has_first true first more found is = refl
has_first false first more found is = is

has_schema : (name : List ℕ) (tables : List StoredWrites) → list_any (λ (s : Schema). bytes_eq s.name name) (schemas tables) ≡ is_some (find_writes name tables)
has_schema name [] = refl
has_schema name (first ∷ tables) = has_first (named name first) first (list_any (λ (s : Schema). bytes_eq s.name name) (schemas tables)) (find_writes name tables) (has_schema name tables)

pub schemas_still : (schema : Schema) (tables : List StoredWrites) (table : StoredWrites) → find_writes schema.name tables ≡ Some table → schemas tables ≡ schemas_with schema (schemas tables)
schemas_still schema tables table found = rw (has_schema schema.name tables, found) refl

pub schemas_after : (schema : Schema) (tables : List StoredWrites) (now : StoredWrites) → find_writes schema.name tables ≡ None → now.schema ≡ schema → schemas (tables ++ now ∷ []) ≡ schemas_with schema (schemas tables)
schemas_after schema tables now none is = map-append (λ (t : StoredWrites). t.schema) tables (now ∷ []) ∙ rw (has_schema schema.name tables, none, is) refl

-- what was written at a place has room
pub record IsRoomy (n : ℕ) (schema : Schema) (old : StoredWrites) : Type 0 where
  pub same : old.schema ≡ schema
  pub room : n ≤ old.spare

pub roomy : (n : ℕ) (schema : Schema) (tables : List StoredWrites) (fresh : Option StoredWrites) (room place : ℕ) (old : StoredWrites) → place ≡ position_or_len (named schema.name) tables → place < length tables → old ≡ get_or tables place old
    → IfSome (find_writes schema.name tables) (λ table. table.schema ≡ schema) → HasRoomFor n schema (find_writes schema.name tables) fresh room → IsRoomy n schema old
roomy n schema tables fresh room place old is within at same rooms =
    let found : find_writes schema.name tables ≡ Some old = found_there schema.name tables place old is within at in
    record { same = subst (λ (o : Option StoredWrites). IfSome o (λ table. table.schema ≡ schema)) found same; room = subst (λ (o : Option StoredWrites). HasRoomFor n schema o fresh room) found rooms }

-- more is written there
pub wrote_there : (schema : Schema) (ready : List ReadyChange) (tables : List StoredWrites) (place : ℕ) (old now : StoredWrites) → place ≡ position_or_len (named schema.name) tables → place < length tables → old ≡ get_or tables place old → old.schema ≡ schema → now.schema ≡ old.schema
    → now.written ≡ wrote_each (key_places old.schema) ready old.written → IsWrittenTo schema ready tables (set tables place now)
wrote_there schema ready tables place old now is within at same still written_is =
    let found : find_writes schema.name tables ≡ Some old = found_there schema.name tables place old is within at in
    record {
      writes = now;
      more = written_there schema.name tables place old now is within at still;
      same = still ∙ same;
      written_is = written_is ∙ ap (λ (s : Schema). wrote_each (key_places s) ready old.written) same ∙ ap (λ (o : Option StoredWrites). wrote_each (key_places schema) ready (written_in o)) (sym found);
      schemas_are = schemas_there schema.name tables place old now at still ∙ schemas_still schema tables old found;
    }

-- where nothing was written to the table, a fresh one is at hand
pub fresh_after : (n : ℕ) (schema : Schema) (tables : List StoredWrites) (fresh : Option StoredWrites) (room place : ℕ) → place ≡ position_or_len (named schema.name) tables → length tables ≤ place → HasRoomFor n schema (find_writes schema.name tables) fresh room → (1 ≤ room) × HasFresh n schema fresh
fresh_after n schema tables fresh room place is following has = subst (λ (o : Option StoredWrites). HasRoomFor n schema o fresh room) (none_there schema.name tables place is following) has

-- ... and is written to
pub wrote_after : (n : ℕ) (schema : Schema) (ready : List ReadyChange) (tables : List StoredWrites) (place : ℕ) (fresh now : StoredWrites) → place ≡ position_or_len (named schema.name) tables → length tables ≤ place → IsFresh n schema fresh → now.schema ≡ fresh.schema
    → now.written ≡ wrote_each (key_places fresh.schema) ready fresh.written → IsWrittenTo schema ready tables (tables ++ now ∷ [])
wrote_after n schema ready tables place fresh now is following is_fresh still written_is =
    let none : find_writes schema.name tables ≡ None = none_there schema.name tables place is following in
    let same : now.schema ≡ schema = still ∙ is_fresh.same in
    record {
      writes = now;
      more = written_after schema.name tables now none (ap (λ (s : Schema). s.name) same);
      same = same;
      written_is =
          written_is ∙ ap (λ (s : Schema). wrote_each (key_places s) ready fresh.written) is_fresh.same ∙ ap (wrote_each (key_places schema) ready) is_fresh.nothing_is
          ∙ ap (λ (o : Option StoredWrites). wrote_each (key_places schema) ready (written_in o)) (sym none);
      schemas_are = schemas_after schema tables now none same;
    }

-- only the room of a table changes
pub plain_there : (tables : List StoredWrites) (place : ℕ) (old now : StoredWrites) → old ≡ get_or tables place old → now.schema ≡ old.schema → now.written ≡ old.written → map plain (set tables place now) ≡ map plain tables
plain_there tables place old now at same written_is =
    let one : plain now ≡ plain old = ap {B = PlainWrites} (λ (s : Schema). record { schema = s; written = now.written }) same ∙ ap {B = PlainWrites} (λ (w : Written). record { schema = old.schema; written = w }) written_is in
    map-set_same plain tables place now old (one ∙ ap plain at)

pub room_there : {E : Type 0} (result : Result (Unit {0}) E) (schema : Schema) (tables : List StoredWrites) (fresh : Option StoredWrites) (n room place : ℕ) (old now : StoredWrites) → place ≡ position_or_len (named schema.name) tables → place < length tables → old ≡ get_or tables place old → now.schema ≡ old.schema
    → OnOk result (n ≤ now.spare) → OnOk result (HasRoomFor n schema (find_writes schema.name (set tables place now)) fresh room)
room_there (Ok done) schema tables fresh n room place old now is within at same has = subst (λ (o : Option StoredWrites). HasRoomFor n schema o fresh room) (sym (written_there schema.name tables place old now is within at same).there) has
room_there (Err fault) schema tables fresh n room place old now is within at same has = tt

pub room_one : {E : Type 0} (result : Result (Unit {0}) E) (schema : Schema) (tables now : List StoredWrites) (fresh : StoredWrites) (n room place : ℕ) → place ≡ position_or_len (named schema.name) tables → length tables ≤ place → now ≡ tables → IsFresh n schema fresh → OnOk result (1 ≤ room)
    → OnOk result (HasRoomFor n schema (find_writes schema.name now) (Some fresh) room)
room_one (Ok done) schema tables now fresh n room place is following same is_fresh has =
    subst (λ (o : Option StoredWrites). HasRoomFor n schema o (Some fresh) room) (sym (ap (find_writes schema.name) same ∙ none_there schema.name tables place is following)) (has, is_fresh)
room_one (Err fault) schema tables now fresh n room place is following same is_fresh has = tt
