-- The room that is left in each table while events are done one by one.
use Rattle.std.proofs.Common.{◌≡◌, ℕ, ◌+◌, ◌≤◌, Bool, true, false, not, List, [], ◌∷◌, cond, Option, Some, None, refl, sym, ap, ◌∙◌, subst, arith, zero-add}
use Rattle.std.specs.List.{AllZip}
use Rattle.std.specs.Str.{bytes_eq}
use Rattle.base_values.specs.declared.event.RowEvent.{RowEvent}
use Rattle.table_store.specs.Databases.{Database, StoredTable, database, find_table, find_stored, others, spare_in, is_named, with_change}
use Rattle.table_store.proofs.Orders.{Row}
use Rattle.server_model.specs.Operations.{change_table, after_events}
use Rattle.server_model.proofs.LockedRows.Tests.{are_same, same_bytes}
use Rattle.server_transaction.specs.FittingEvents.{FitsIn, EventsFit}
use Rattle.server_transaction.specs.Premises.{IsGoneIn}
use Rattle.server_transaction.specs.Rooms.{puts_of, puts_in}
use Rattle.server_transaction.proofs.GoneKeys.{still_gone}

-- a table of another name is found among the others
other_first : (own name : List ℕ) (first : StoredTable) (tables : List StoredTable) (b : Bool) → is_named own first.table ≡ b → bytes_eq own name ≡ false → find_stored name (others own tables) ≡ find_stored name tables
    → find_stored name (cond (not b) (first ∷ others own tables) (others own tables)) ≡ cond (is_named name first.table) (Some first) (find_stored name tables)
other_first own name first tables true is other rest =
    let not_named : is_named name first.table ≡ false = ap (λ (n : List ℕ). bytes_eq n name) (are_same first.table.schema.name own is) ∙ other in
    rest ∙ rw not_named refl
other_first own name first tables false is other rest = ap (cond (is_named name first.table) (Some first)) rest

other_found : (own name : List ℕ) (tables : List StoredTable) → bytes_eq own name ≡ false → find_stored name (others own tables) ≡ find_stored name tables
other_found own name [] other = refl
other_found own name (first ∷ tables) other = other_first own name first tables (is_named own first.table) refl other (other_found own name tables other)

spare_of : Option StoredTable → ℕ
spare_of None = 0
spare_of (Some table) = table.spare

spare_found : (name : List ℕ) (tables : List StoredTable) → spare_in name tables ≡ spare_of (find_stored name tables)
unfolding spare_of
spare_found name tables = at (find_stored name tables) refl where
  at : (found : Option StoredTable) → find_stored name tables ≡ found → spare_in name tables ≡ spare_of found
  at None is = rw is refl
  at (Some table) is = rw is refl

spare_other : (own name : List ℕ) (was now : List StoredTable) → others own now ≡ others own was → bytes_eq own name ≡ false → spare_in name was ≡ spare_in name now
spare_other own name was now same other =
    spare_found name was ∙ ap spare_of (sym (other_found own name was other) ∙ ap (find_stored name) (sym same) ∙ other_found own name now other) ∙ sym (spare_found name now)

-- the room that one event takes
one_taken : (own name : List ℕ) (was now : List StoredTable) (n : ℕ) (b : Bool) → bytes_eq own name ≡ b → others own now ≡ others own was → spare_in own was ≤ spare_in own now + n → spare_in name was ≤ spare_in name now + cond b n 0
one_taken own name was now n true is same less = subst (λ (k : List ℕ). spare_in k was ≤ spare_in k now + n) (are_same own name is) less
one_taken own name was now n false is same less = let e : spare_in name was ≡ spare_in name now = spare_other own name was now same is in omega (arith, e)

puts_first : (name : List ℕ) (event : RowEvent) (events : List RowEvent) → puts_in name (event ∷ events) ≡ cond (bytes_eq event.table name) (puts_of event.change) 0 + puts_in name events
unfolding puts_in
puts_first name event events = at (bytes_eq event.table name) where
  at : (b : Bool) → cond b (puts_of event.change + puts_in name events) (puts_in name events) ≡ cond b (puts_of event.change) 0 + puts_in name events
  at true = refl
  at false = sym (zero-add (puts_in name events))

-- what is left once an event is done: events, and the keys of the rows that they take out
pub record IsDone (was now : List StoredTable) (event : RowEvent) (rest : List RowEvent) (gone : List (Option Row)) : Type 0 where
  pub same : after_events (database now) rest ≡ after_events (database was) (event ∷ rest)
  pub fit : EventsFit (database now) rest
  pub keys : AllZip (IsGoneIn (database now)) rest gone
  pub room : (name : List ℕ) → puts_in name rest ≤ spare_in name now
  pub spare : (name : List ℕ) → spare_in name was + puts_in name rest ≤ spare_in name now + puts_in name (event ∷ rest)

pub one_done : (was now : List StoredTable) (event : RowEvent) (rest : List RowEvent) (key : Option Row) (keys : List (Option Row)) → database now ≡ with_change event.table (change_table event.change) (database was) → spare_in event.table was ≤ spare_in event.table now + puts_of event.change
    → others event.table now ≡ others event.table was → EventsFit (database was) (event ∷ rest) → AllZip (IsGoneIn (database was)) (event ∷ rest) (key ∷ keys) → ((name : List ℕ) → puts_in name (event ∷ rest) ≤ spare_in name was) → IsDone was now event rest keys
unfolding after_events EventsFit
one_done was now event rest key keys is less same fit all room =
    let own : List ℕ = event.table in
    let taken = λ (name : List ℕ). one_taken own name was now (puts_of event.change) (bytes_eq own name) refl same less in
    record {
      same = ap (λ (ts : Database). after_events ts rest) is;
      fit = subst (λ (ts : Database). EventsFit ts rest) (sym is) fit.1;
      keys = subst (λ (ts : Database). AllZip (IsGoneIn ts) rest keys) (sym is) (still_gone own event.change (database was) rest keys all.1);
      room = λ name. let t = taken name in let p = puts_first name event rest in let r = room name in omega (arith, t, p, r);
      spare = λ name. let t = taken name in let p = puts_first name event rest in omega (arith, t, p);
    }

-- the next event fits and finds room
pub record IsNext (tables : List StoredTable) (event : RowEvent) : Type 0 where
  pub fits : FitsIn event.change (find_table event.table (database tables))
  pub room : puts_of event.change ≤ spare_in event.table tables

pub next_one : (tables : List StoredTable) (event : RowEvent) (rest : List RowEvent) → EventsFit (database tables) (event ∷ rest) → ((name : List ℕ) → puts_in name (event ∷ rest) ≤ spare_in name tables) → IsNext tables event
unfolding EventsFit
next_one tables event rest fit room = record {
  fits = fit.0;
  room =
      let own : List ℕ = event.table in
      let all = room own in
      let first = puts_first own event rest in
      let same : cond (bytes_eq own own) (puts_of event.change) 0 ≡ puts_of event.change = rw (same_bytes own) refl in
      omega (arith, all, first, same);
}

pub none_after : (tables : Database) (left : List RowEvent) → left ≡ [] → tables ≡ after_events tables left
unfolding after_events
none_after tables left end = ap (after_events tables) (sym end)

pub none_puts : (name : List ℕ) (left : List RowEvent) → left ≡ [] → puts_in name left ≡ 0
unfolding puts_in
none_puts name left end = ap (puts_in name) end
