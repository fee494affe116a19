-- Points of rows: what clashes with a row lies under one of its points.
use Rattle.std.proofs.Common.{◌≡◌, ℕ, zero, suc, ◌+◌, Bool, true, false, ◌&&◌, ◌||◌, List, [], ◌∷◌, ◌++◌, Some, refl, sym, ap, ◌∙◌, subst, inl, inr, arith}
use Rattle.std.proofs.Math.Bool.{or-true}
use Rattle.std.proofs.lemmas.Bool.{false≢true}
use Rattle.std.proofs.lemmas.List.Folds.{list_any-append}
use Rattle.std.specs.Ordering.{is_eq}
use Rattle.std.specs.List.{slice_get}
use Rattle.base_values.specs.KeyOrder.{compare_keys}
use Rattle.base_values.specs.Spans.{has, point}
use Rattle.base_values.proofs.Orders.{tied_keys}
use Rattle.base_values.proofs.SpanLaws.{point_has_key}
use Rattle.base_values.specs.declared.gho_schema.schema.Schema.{Schema}
use Rattle.base_values.specs.declared.gho_schema.schema.Index.{Index}
use Rattle.base_values.specs.GhoSchema.Rows.{key_of}
use Rattle.base_values.specs.GhoSchema.Tables.{clash, no_null}
use Rattle.server_locks.specs.declared.row_locks.lock.Lock.{Lock}
use Rattle.table_store.proofs.Orders.{Row, is_Equal}
use Rattle.server_model.specs.Rows.{lies_under}
use Rattle.server_model.specs.Needs.{lock_on, point_lock, points_from, points}
use Rattle.server_model.specs.LockedRows.Agreement.{covers, is_under, Among, Within}
use Rattle.server_model.proofs.LockedRows.Tests.{same_bytes}

pub under-append : (schema : Schema) (a b : List Lock) (row : Row) → is_under schema (a ++ b) row ≡ (is_under schema a row || is_under schema b row)
unfolding is_under
under-append schema a b row = list_any-append (covers schema row) a b

-- the key's places stand at this place among the schema's unique keys
abbrev pub From : Schema → ℕ → List Index → Type 0
From schema place uniques = (n : ℕ) → slice_get schema.uniques (place + n) ≡ slice_get uniques n

pub from_start : (schema : Schema) → From schema 0 schema.uniques
from_start schema n = ap (slice_get schema.uniques) (zero_plus n) where
  zero_plus : (n : ℕ) → 0 + n ≡ n
  zero_plus n = omega arith

from_here : (schema : Schema) (place : ℕ) (index : Index) (uniques : List Index) → From schema place (index ∷ uniques) → slice_get schema.uniques place ≡ Some index
from_here schema place index uniques get = let e : place ≡ place + 0 = omega arith in ap (slice_get schema.uniques) e ∙ get 0

from_next : (schema : Schema) (place : ℕ) (index : Index) (uniques : List Index) → From schema place (index ∷ uniques) → From schema (place + 1) uniques
from_next schema place index uniques get n = let e : (place + 1) + n ≡ place + (suc n) = omega arith in ap (slice_get schema.uniques) e ∙ get (suc n)

-- the row under its own point
at_point : (schema : Schema) (place : ℕ) (index : Index) (row other : Row) → slice_get schema.uniques place ≡ Some index → key_of index.places row ≡ key_of index.places other → no_null (key_of index.places row) ≡ true
    → covers schema other (lock_on schema true (record { key = place; span = point (key_of index.places row) })) ≡ true
unfolding lies_under
at_point schema place index row other get keys full =
    let full' : no_null (key_of index.places other) ≡ true = ap no_null (sym keys) ∙ full in
    let has' : has (point (key_of index.places row)) (key_of index.places other) ≡ true = ap (has (point (key_of index.places row))) (sym keys) ∙ point_has_key (key_of index.places row) in
    rw (same_bytes schema.name, get, full', has') refl

clash_here : (schema : Schema) (place : ℕ) (index : Index) (uniques : List Index) (row other : Row) (b c : Bool) → is_eq (compare_keys (key_of index.places row) (key_of index.places other)) ≡ b → no_null (key_of index.places row) ≡ c
    → slice_get schema.uniques place ≡ Some index → (clash uniques row other ≡ true → is_under schema (points_from schema (place + 1) uniques row) other ≡ true) → ((b && c) || clash uniques row other) ≡ true
    → is_under schema (point_lock schema place (key_of index.places row) ++ points_from schema (place + 1) uniques row) other ≡ true
unfolding is_under
clash_here schema place index uniques row other true true same full get others some =
    let keys : key_of index.places row ≡ key_of index.places other = tied_keys (key_of index.places row) (key_of index.places other) (is_Equal (compare_keys (key_of index.places row) (key_of index.places other)) same) in
    under-append schema (point_lock schema place (key_of index.places row)) (points_from schema (place + 1) uniques row) other ∙ rw full (first (at_point schema place index row other get keys full)) where
      first : covers schema other (lock_on schema true (record { key = place; span = point (key_of index.places row) })) ≡ true
          → (is_under schema (lock_on schema true (record { key = place; span = point (key_of index.places row) }) ∷ []) other || is_under schema (points_from schema (place + 1) uniques row) other) ≡ true
      first under = rw under refl
clash_here schema place index uniques row other true false same full get others some =
    under-append schema (point_lock schema place (key_of index.places row)) (points_from schema (place + 1) uniques row) other ∙ rw (others some) (or-true _)
clash_here schema place index uniques row other false c same full get others some =
    under-append schema (point_lock schema place (key_of index.places row)) (points_from schema (place + 1) uniques row) other ∙ rw (others some) (or-true _)

points_hold : (schema : Schema) (place : ℕ) (uniques : List Index) (row other : Row) → From schema place uniques → clash uniques row other ≡ true → is_under schema (points_from schema place uniques row) other ≡ true
unfolding points_from
points_hold schema place [] row other get some = absurd (false≢true some)
points_hold schema place (index ∷ uniques) row other get some =
    clash_here schema place index uniques row other (is_eq (compare_keys (key_of index.places row) (key_of index.places other))) (no_null (key_of index.places row)) refl refl (from_here schema place index uniques get)
    (points_hold schema (place + 1) uniques row other (from_next schema place index uniques get)) some

-- what clashes with a row lies under one of its points
pub clash_under : (schema : Schema) (row other : Row) → clash schema.uniques row other ≡ true → is_under schema (points schema row) other ≡ true
clash_under schema row other some = points_hold schema 0 schema.uniques row other (from_start schema) some

-- locks among locks
pub among-left : (lock : Lock) (a b : List Lock) → Among lock a → Among lock (a ++ b)
among-left lock [] b one = absurd one
among-left lock (x ∷ a) b (inl same) = inl same
among-left lock (x ∷ a) b (inr one) = inr (among-left lock a b one)

pub among-right : (lock : Lock) (a b : List Lock) → Among lock b → Among lock (a ++ b)
among-right lock [] b one = one
among-right lock (x ∷ a) b one = inr (among-right lock a b one)

pub within-map : (some a b : List Lock) → ((lock : Lock) → Among lock a → Among lock b) → Within some a → Within some b
within-map [] a b f all = tt
within-map (x ∷ some) a b f all = (f x all.0, within-map some a b f all.1)

pub within-left : (some a b : List Lock) → Within some a → Within some (a ++ b)
within-left some a b all = within-map some a (a ++ b) (λ lock one. among-left lock a b one) all

pub within-right : (some a b : List Lock) → Within some b → Within some (a ++ b)
within-right some a b all = within-map some b (a ++ b) (λ lock one. among-right lock a b one) all

pub within-itself : (all : List Lock) → Within all all
within-itself [] = tt
within-itself (x ∷ all) = (inl refl, within-map all all (x ∷ all) (λ lock one. inr one) (within-itself all))

pub within-parts : (a b all : List Lock) → Within (a ++ b) all → Within a all × Within b all
within-parts [] b all both = (tt, both)
within-parts (x ∷ a) b all both = let rest = within-parts a b all both.1 in ((both.0, rest.0), rest.1)

pub among-within : (lock : Lock) (some all : List Lock) → Among lock some → Within some all → Among lock all
among-within lock [] all one within = absurd one
among-within lock (x ∷ some) all (inl same) within = subst (λ (l : Lock). Among l all) (sym same) within.0
among-within lock (x ∷ some) all (inr one) within = among-within lock some all one within.1

pub within-within : (a b c : List Lock) → Within a b → Within b c → Within a c
within-within a b c one two = within-map a b c (λ lock l. among-within lock b c l two) one

under_one : (schema : Schema) (row : Row) (lock : Lock) (all : List Lock) → covers schema row lock ≡ true → Among lock all → is_under schema all row ≡ true
unfolding is_under
under_one schema row lock [] now l = absurd l
under_one schema row lock (x ∷ all) is (inl same) = let now : covers schema row x ≡ true = ap (covers schema row) (sym same) ∙ is in rw now refl
under_one schema row lock (x ∷ all) is (inr l) = rw (under_one schema row lock all is l) (or-true (covers schema row x))

under_first : (schema : Schema) (row : Row) (lock : Lock) (all : List Lock) (b rest : Bool) → covers schema row lock ≡ b → Among lock all → (rest ≡ true → is_under schema all row ≡ true) → (b || rest) ≡ true → is_under schema all row ≡ true
under_first schema row lock all true rest is one more some = under_one schema row lock all is one
under_first schema row lock all false rest is one more some = more some

-- what lies under some locks lies under more
pub under-within : (schema : Schema) (some all : List Lock) (row : Row) → Within some all → is_under schema some row ≡ true → is_under schema all row ≡ true
unfolding is_under
under-within schema [] all row within is = absurd (false≢true is)
under-within schema (lock ∷ some) all row within is = under_first schema row lock all (covers schema row lock) (is_under schema some row) refl within.0 (under-within schema some all row within.1) is

-- the row's point of a key, where no part of it is null
point_at : (schema : Schema) (place n : ℕ) (uniques : List Index) (index : Index) (row : Row) → slice_get uniques n ≡ Some index → no_null (key_of index.places row) ≡ true
    → Among (lock_on schema true (record { key = place + n; span = point (key_of index.places row) })) (points_from schema place uniques row)
unfolding points_from
point_at schema place n [] index row get full = absurd (cc)
point_at schema place zero (first ∷ uniques) index row get full =
    let is : first ≡ index = cc in
    let e : place + 0 ≡ place = omega arith in
    rw (is, full, e) (inl refl)
point_at schema place (suc n) (first ∷ uniques) index row get full =
    let e : place + (suc n) ≡ (place + 1) + n = omega arith in
    subst (λ (k : ℕ). Among (lock_on schema true (record { key = k; span = point (key_of index.places row) })) (points_from schema place (first ∷ uniques) row)) (sym e)
    (among-right (lock_on schema true (record { key = (place + 1) + n; span = point (key_of index.places row) })) (point_lock schema place (key_of first.places row)) (points_from schema (place + 1) uniques row) (point_at schema (place + 1) n uniques index row get full))

pub point_of : (schema : Schema) (n : ℕ) (index : Index) (row : Row) → slice_get schema.uniques n ≡ Some index → no_null (key_of index.places row) ≡ true
    → Among (lock_on schema true (record { key = n; span = point (key_of index.places row) })) (points schema row)
point_of schema n index row get full =
    let e : 0 + n ≡ n = omega arith in
    subst (λ (k : ℕ). Among (lock_on schema true (record { key = k; span = point (key_of index.places row) })) (points schema row)) e (point_at schema 0 n schema.uniques index row get full)
