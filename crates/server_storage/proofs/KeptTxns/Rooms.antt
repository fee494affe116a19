-- How many rows events put into a table, and the room that the tables have.
use Rattle.std.proofs.Common.{◌≡◌, ℕ, suc, ◌+◌, ◌≤◌, Bool, true, false, not, List, [], ◌∷◌, ◌++◌, length, cond, Option, Some, refl, sym, ap, ◌∙◌, subst, arith}
use Rattle.std.specs.Option.{option_map_or}
use Rattle.std.specs.Str.{bytes_eq}
use Rattle.base_values.specs.declared.event.Change.{Change}
use Rattle.base_values.specs.declared.event.RowEvent.{RowEvent}
use Rattle.table_store.specs.Databases.{StoredTable, find_stored, spare_in, is_named, others}
use Rattle.server_model.specs.Operations.{events_of}
use Rattle.server_model.proofs.LockedRows.Tests.{are_same}
use Rattle.server_transaction.specs.Rooms.{puts_of, puts_in}
use Rattle.server_transaction.specs.Stored.{TableChanges, events_in}
use Rattle.server_storage.proofs.OpenTxns.OpenRows.{puts_at_most}

-- WHAT EVENTS PUT

append_first : (b : Bool) (n both one two : ℕ) → both ≡ one + two → cond b (n + both) both ≡ cond b (n + one) one + two
append_first true n both one two is = omega (arith, is)
append_first false n both one two is = is

pub puts-append : (name : List ℕ) (a b : List RowEvent) → puts_in name (a ++ b) ≡ puts_in name a + puts_in name b
unfolding puts_in
puts-append name [] b = omega arith
puts-append name (event ∷ a) b = append_first (bytes_eq event.table name) (puts_of event.change) (puts_in name (a ++ b)) (puts_in name a) (puts_in name b) (puts-append name a b)

pub puts-nil : (name : List ℕ) (events : List RowEvent) → events ≡ [] → puts_in name events ≡ 0
unfolding puts_in
puts-nil name events is = ap (puts_in name) is

-- changes of one table put nothing into another one
pub puts_elsewhere : (name table : List ℕ) (changes : List Change) → bytes_eq table name ≡ false → puts_in name (events_of table changes) ≡ 0
unfolding puts_in
puts_elsewhere name table [] differ = refl
puts_elsewhere name table (change ∷ changes) differ = rw differ (puts_elsewhere name table changes differ)

length-events : (table : List ℕ) (changes : List Change) → length (events_of table changes) ≡ length changes
length-events table [] = refl
length-events table (change ∷ changes) = ap suc (length-events table changes)

-- ... and no more rows than they are into their own
pub puts_few : (name : List ℕ) (writes : TableChanges) → puts_in name (events_in writes) ≤ length writes.changes
puts_few name writes = let few = puts_at_most name (events_in writes) in let many = length-events writes.schema.name writes.changes in omega (arith, few, many)

-- THE ROOM OF TABLES

-- the room of the table of a name is that of the first, where that has the name
pub spare_first : (name : List ℕ) (first : StoredTable) (tables : List StoredTable) → spare_in name (first ∷ tables) ≡ cond (is_named name first.table) first.spare (spare_in name tables)
spare_first name first tables = at (is_named name first.table) (find_stored name tables) where
  at : (b : Bool) (found : Option StoredTable) → option_map_or (λ (s : StoredTable). s.spare) (cond b (Some first) found) 0 ≡ cond b first.spare (option_map_or (λ (s : StoredTable). s.spare) found 0)
  at true found = refl
  at false found = refl

-- a table has the same room among the others of another name
left_first : (own name : List ℕ) (first : StoredTable) (left : List StoredTable) (room : ℕ) (b : Bool) → is_named own first.table ≡ b → bytes_eq own name ≡ false → spare_in name left ≡ room → spare_in name (cond (not b) (first ∷ left) left) ≡ cond (is_named name first.table) first.spare room
left_first own name first left room true is other same =
    let off : is_named name first.table ≡ false = ap (λ (n : List ℕ). bytes_eq n name) (are_same first.table.schema.name own is) ∙ other in
    same ∙ ap (λ (b : Bool). cond b first.spare room) (sym off)
left_first own name first left room false is other same = spare_first name first left ∙ ap (cond (is_named name first.table) first.spare) same

pub spare_left : (own name : List ℕ) (tables : List StoredTable) → bytes_eq own name ≡ false → spare_in name (others own tables) ≡ spare_in name tables
spare_left own name [] other = refl
spare_left own name (first ∷ tables) other =
    left_first own name first (others own tables) (spare_in name tables) (is_named own first.table) refl other (spare_left own name tables other) ∙ sym (spare_first name first tables)

-- where one table has more room and the others are as they were, each has no less
pub more_room : (own name : List ℕ) (was now : List StoredTable) → others own now ≡ others own was → spare_in own was ≤ spare_in own now → spare_in name was ≤ spare_in name now
more_room own name was now same more = at (bytes_eq own name) refl where
  at : (b : Bool) → bytes_eq own name ≡ b → spare_in name was ≤ spare_in name now
  at true is = subst (λ (n : List ℕ). spare_in n was ≤ spare_in n now) (are_same own name is) more
  at false other =
      let e : spare_in name was ≡ spare_in name now = sym (spare_left own name was other) ∙ ap (spare_in name) (sym same) ∙ spare_left own name now other in
      omega (arith, e)
