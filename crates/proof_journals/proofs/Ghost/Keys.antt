-- Keys that are held, and keys that aren't.
use Rattle.std.proofs.Common.{◌≡◌, ℕ, ◌==◌, ◌<◌, arith, Bool, true, false, ◌&&◌, ◌||◌, List, [], ◌∷◌, length, Option, Some, None, refl, sym, ap, ◌∙◌, subst, inl, inr}
use Rattle.std.proofs.Math.Bool.{or-true}
use Rattle.std.proofs.lemmas.Bool.{false≢true, true≢false, and_parts}
use Rattle.std.specs.List.{list_any, slice_get}
use Rattle.std.specs.Str.{bytes_eq}
use Rattle.base_values.specs.Spans.{has, meets, point}
use Rattle.base_values.proofs.SpanLaws.{point_has_key, common_key}
use Rattle.base_values.specs.declared.gho_schema.schema.Schema.{Schema}
use Rattle.base_values.specs.declared.gho_schema.schema.Index.{Index}
use Rattle.base_values.specs.GhoSchema.ClusteredKey.{clustered_place, unique_at}
use Rattle.base_values.specs.GhoSchema.Rows.{key_of, key_places, places_of}
use Rattle.base_values.specs.GhoSchema.Tables.{IsRow, no_null}
use Rattle.server_locks.specs.declared.row_locks.lock.Lock.{Lock}
use Rattle.server_locks.specs.RowLocks.Grants.{conflict}
use Rattle.table_store.specs.ClusteredKeys.{HasClusteredKey}
use Rattle.table_store.proofs.Orders.{Row}
use Rattle.server_model.specs.declared.work.Reach.{Reach}
use Rattle.table_store.proofs.TableLaws.{key_no_null}
use Rattle.proof_journals.specs.Ghost.HeldKeys.{Clustered, is_locked, is_place, locks_key}
use Rattle.server_model.specs.Needs.{lock_on, points}
use Rattle.server_model.proofs.LockedRows.WellFormed.{nulls}
use Rattle.server_model.proofs.LockedRows.Points.{among-within, point_of}
use Rattle.server_model.proofs.LockedRows.Tests.{are_one, are_same, same_bytes, same_number}
use Rattle.server_model.specs.LockedRows.Agreement.{Among, Within}
use Rattle.server_model.specs.LockedRows.Coverage.{Apart}

-- the clustered key of a row has no null
pub full_key : (schema : Schema) → HasClusteredKey schema → (row : Row) → IsRow schema.columns row → no_null (key_of (key_places schema) row) ≡ true
full_key schema has row fits = key_no_null nulls schema.columns row (key_places schema) fits has.not_null

-- where the clustered key stands
at_found : (schema : Schema) (place : ℕ) (found : Option Index) → clustered_place schema ≡ Some place → slice_get schema.uniques place ≡ found → key_places schema ≡ places_of found → 0 < length (places_of found) → Clustered schema
at_found schema place None at there its some = absurd (omega arith)
at_found schema place (Some index) at there its some = record { place = place; index = index; at = at; there = there; its = its }

at_place : (schema : Schema) (place : Option ℕ) → clustered_place schema ≡ place → key_places schema ≡ places_of (unique_at schema.uniques place) → 0 < length (places_of (unique_at schema.uniques place)) → Clustered schema
at_place schema None at its some = absurd (omega arith)
at_place schema (Some place) at its some = at_found schema place (slice_get schema.uniques place) at refl its some

pub clustered : (schema : Schema) → HasClusteredKey schema → Clustered schema
clustered schema has = at_place schema (clustered_place schema) refl refl has.some

-- a lock among locks
pub among_any : (test : Lock → Bool) (lock : Lock) (locks : List Lock) → Among lock locks → test lock ≡ true → list_any test locks ≡ true
among_any test lock [] among is = absurd among
among_any test lock (first ∷ locks) (inl same) is = let now : test first ≡ true = ap test (sym same) ∙ is in rw now refl
among_any test lock (first ∷ locks) (inr among) is = rw (among_any test lock locks among is) (or-true (test first))

pub record Passing (test : Lock → Bool) (locks : List Lock) : Type 0 where
  pub lock : Lock
  pub among : Among lock locks
  pub passes : test lock ≡ true

some_here : (test : Lock → Bool) (first : Lock) (locks : List Lock) (b : Bool) → test first ≡ b → (list_any test locks ≡ true → Passing test locks) → (b || list_any test locks) ≡ true → Passing test (first ∷ locks)
some_here test first locks true is rest some = record { lock = first; among = inl refl; passes = is }
some_here test first locks false is rest some = let more = rest some in record { lock = more.lock; among = inr more.among; passes = more.passes }

pub some_lock : (test : Lock → Bool) (locks : List Lock) → list_any test locks ≡ true → Passing test locks
some_lock test [] some = absurd (false≢true some)
some_lock test (first ∷ locks) some = some_here test first locks (test first) refl (some_lock test locks) some

-- a lock on a span of the clustered key holds the keys in the span
pub reach_locked : (schema : Schema) (at : Clustered schema) (reach : Reach) (key : Row) (locks : List Lock) → reach.key ≡ at.place → has reach.span key ≡ true → Among (lock_on schema true reach) locks → is_locked schema locks key ≡ true
unfolding is_locked
reach_locked schema at reach key locks its inside among =
    among_any (locks_key schema key) (lock_on schema true reach) locks among
    (let one : is_place (clustered_place schema) reach.key ≡ true = rw (at.at, its) (same_number at.place) in rw (same_bytes schema.name, one, inside) refl)

-- *a row whose points are held is held by its key*
pub row_locked : (schema : Schema) → HasClusteredKey schema → (row : Row) (locks : List Lock) → IsRow schema.columns row → Within (points schema row) locks → is_locked schema locks (key_of (key_places schema) row) ≡ true
row_locked schema has row locks fits within =
    let at : Clustered schema = clustered schema has in
    let full : no_null (key_of at.index.places row) ≡ true = subst (λ (p : List ℕ). no_null (key_of p row) ≡ true) at.its (full_key schema has row fits) in
    let reach : Reach = record { key = at.place; span = point (key_of at.index.places row) } in
    subst (λ (p : List ℕ). is_locked schema locks (key_of p row) ≡ true) (sym at.its)
    (reach_locked schema at reach (key_of at.index.places row) locks refl (point_has_key (key_of at.index.places row))
    (among-within (lock_on schema true reach) (points schema row) locks (point_of schema at.place at.index row at.there full) within))

-- more locks hold more keys
pub locked_more : (schema : Schema) (some all : List Lock) (key : Row) → Within some all → is_locked schema some key ≡ true → is_locked schema all key ≡ true
unfolding is_locked
locked_more schema some all key within is =
    let one = some_lock (locks_key schema key) some is in
    among_any (locks_key schema key) one.lock all (among-within one.lock some all one.among within) one.passes

-- two locks on one key of one table conflict
place_one : (place : Option ℕ) (a b : ℕ) → is_place place a ≡ true → is_place place b ≡ true → a ≡ b
place_one None a b one two = absurd (false≢true one)
place_one (Some place) a b one two = sym (are_one place a one) ∙ are_one place b two

both_conflict : (schema : Schema) (key : Row) (a b : Lock) → locks_key schema key a ≡ true → locks_key schema key b ≡ true → conflict a b ≡ true
unfolding conflict
both_conflict schema key a b one two =
    let place = is_place (clustered_place schema) in
    let a1 = (and_parts (bytes_eq a.table schema.name) (place a.key && (a.exclusive && has a.span key)) one).1 in
    let b1 = (and_parts (bytes_eq b.table schema.name) (place b.key && (b.exclusive && has b.span key)) two).1 in
    let a2 = (and_parts (place a.key) (a.exclusive && has a.span key) a1).1 in
    let b2 = (and_parts (place b.key) (b.exclusive && has b.span key) b1).1 in
    let name : a.table ≡ b.table = are_same a.table schema.name ((and_parts (bytes_eq a.table schema.name) (place a.key && (a.exclusive && has a.span key)) one).0) ∙ sym (are_same b.table schema.name ((and_parts (bytes_eq b.table schema.name) (place b.key && (b.exclusive && has b.span key)) two).0)) in
    let number : a.key ≡ b.key = place_one (clustered_place schema) a.key b.key ((and_parts (place a.key) (a.exclusive && has a.span key) a1).0) ((and_parts (place b.key) (b.exclusive && has b.span key) b1).0) in
    let names : bytes_eq a.table b.table ≡ true = ap (bytes_eq a.table) (sym name) ∙ same_bytes a.table in
    let numbers : (a.key == b.key) ≡ true = ap (λ (n : ℕ). a.key == n) (sym number) ∙ same_number a.key in
    let strong : a.exclusive ≡ true = (and_parts a.exclusive (has a.span key) a2).0 in
    let spans : meets a.span b.span ≡ true = common_key a.span b.span key ((and_parts a.exclusive (has a.span key) a2).1) ((and_parts b.exclusive (has b.span key) b2).1) in
    rw (names, numbers, strong, spans) refl

-- *No key is held by two sessions.*
not_both : (schema : Schema) (own others : List Lock) (key : Row) (b : Bool) → Apart own others → is_locked schema own key ≡ true → is_locked schema others key ≡ b → b ≡ false
unfolding is_locked
not_both schema own others key true apart mine theirs =
    let one = some_lock (locks_key schema key) own mine in
    let two = some_lock (locks_key schema key) others theirs in
    absurd (true≢false (sym (both_conflict schema key one.lock two.lock one.passes two.passes) ∙ apart one.lock two.lock one.among two.among))
not_both schema own others key false apart mine theirs = refl

pub locked_apart : (schema : Schema) (own others : List Lock) (key : Row) → Apart own others → is_locked schema own key ≡ true → is_locked schema others key ≡ false
locked_apart schema own others key apart mine = not_both schema own others key (is_locked schema others key) apart mine refl
