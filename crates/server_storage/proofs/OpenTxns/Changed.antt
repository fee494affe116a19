-- The open transactions of sessions, where one of them has become another, or one more was opened.
use Rattle.std.proofs.Common.{◌≡◌, ℕ, zero, suc, ◌+◌, ◌<◌, ◌==◌, Bool, true, false, not, List, [], ◌∷◌, ◌++◌, length, cond, get_or, set, Option, Some, None, Result, Ok, Err, OnOk, refl, sym, ap, ◌∙◌, subst, arith}
use Rattle.std.specs.Prelude.{IfSome, IsSome, IsSomeAnd, slice_get}
use Rattle.std.specs.List.{position_or_len}
use Rattle.std.proofs.lemmas.Bool.{false≢true}
use Rattle.std.proofs.lemmas.List.Folds.{find_at}
use Rattle.std.proofs.lemmas.List.Sums.{sum_by-cons, sum_by_push}
use Rattle.std.proofs.lemmas.Option.{slice_get_within}
use Rattle.server_model.proofs.LockedRows.Tests.{same_number, are_one}
use Rattle.server_transaction.specs.Rooms.{puts_in}
use Rattle.server_transaction.specs.Stored.{StoredTxn, TableChanges, HasRoom, events_in, schemas, schemas_with}
use Rattle.server_storage.specs.declared.open_txns.txns.OpenTxn.{OpenTxn}
use Rattle.server_storage.specs.OpenTxns.Open.{txn_of, others, puts_open, with_txn, IsChanged, IsReserved, IsWritten, OneEach, Takes}
use Rattle.server_storage.proofs.OpenTxns.OpenTxns.{found_there, is_of, not_other}

-- this transaction in place of the session's
abbrev pub in_place : OpenTxn → StoredTxn → OpenTxn
in_place one txn = record { session = one.session; txn = txn }

-- A WRITE AT ITS PLACE

set_zero : (number : ℕ) (txn : StoredTxn) (first one : OpenTxn) (txns : List OpenTxn) (n : ℕ) (b : Bool) → 0 ≡ cond (not b) (1 + n) 0 → one ≡ first → in_place one txn ∷ txns ≡ cond b (in_place first txn ∷ txns) (first ∷ with_txn number txn txns)
set_zero number txn first one txns n true is same = ap (λ (o : OpenTxn). in_place o txn ∷ txns) same
set_zero number txn first one txns n false is same = absurd (omega (arith, is))

set_suc : (number : ℕ) (txn : StoredTxn) (first one : OpenTxn) (txns : List OpenTxn) (place n : ℕ) (b : Bool) → suc place ≡ cond (not b) (1 + n) 0 → (place ≡ n → set txns place (in_place one txn) ≡ with_txn number txn txns)
    → first ∷ set txns place (in_place one txn) ≡ cond b (in_place first txn ∷ txns) (first ∷ with_txn number txn txns)
set_suc number txn first one txns place n true is rest = absurd (omega (arith, is))
set_suc number txn first one txns place n false is rest = ap (λ (ts : List OpenTxn). first ∷ ts) (rest (omega (arith, is)))

pub set_with : (number : ℕ) (txn : StoredTxn) (txns : List OpenTxn) (place : ℕ) (one : OpenTxn) → place ≡ position_or_len (is_of number) txns → place < length txns → one ≡ get_or txns place one → set txns place (in_place one txn) ≡ with_txn number txn txns
unfolding with_txn
set_with number txn [] place one is within at = absurd (omega (arith, within))
set_with number txn (first ∷ txns) zero one is within at = set_zero number txn first one txns (position_or_len (is_of number) txns) (is_of number first) is at
set_with number txn (first ∷ txns) (suc place) one is within at =
    set_suc number txn first one txns place (position_or_len (is_of number) txns) (is_of number first) is (λ e. set_with number txn txns place one e (omega (arith, within)) at)

-- WHAT IS FOUND THEN

there_first : (number : ℕ) (txn : StoredTxn) (first one : OpenTxn) (txns : List OpenTxn) (b : Bool) → is_of number first ≡ b → cond b (Some first) (txn_of number txns) ≡ Some one → (txn_of number txns ≡ Some one → txn_of number (with_txn number txn txns) ≡ Some (in_place one txn))
    → txn_of number (cond b (in_place first txn ∷ txns) (first ∷ with_txn number txn txns)) ≡ Some (in_place one txn)
there_first number txn first one txns true is found rest = let same : first ≡ one = cc in rw is (ap (λ (o : OpenTxn). Some (in_place o txn)) same)
there_first number txn first one txns false is found rest = rw is (rest found)

pub changed_there : (number : ℕ) (txn : StoredTxn) (one : OpenTxn) (txns : List OpenTxn) → txn_of number txns ≡ Some one → txn_of number (with_txn number txn txns) ≡ Some (in_place one txn)
unfolding with_txn
changed_there number txn one [] found = absurd (cc)
changed_there number txn one (first ∷ txns) found = there_first number txn first one txns (is_of number first) refl found (changed_there number txn one txns)

other_first : (number other : ℕ) (txn : StoredTxn) (first : OpenTxn) (txns : List OpenTxn) (b : Bool) → is_of number first ≡ b → (other == number) ≡ false → txn_of other (with_txn number txn txns) ≡ txn_of other txns
    → txn_of other (cond b (in_place first txn ∷ txns) (first ∷ with_txn number txn txns)) ≡ cond (is_of other first) (Some first) (txn_of other txns)
other_first number other txn first txns true is differ rest = let no : is_of other first ≡ false = not_other number other first is differ in rw no refl
other_first number other txn first txns false is differ rest = ap (cond (is_of other first) (Some first)) rest

pub changed_other : (number other : ℕ) (txn : StoredTxn) (txns : List OpenTxn) → (other == number) ≡ false → txn_of other (with_txn number txn txns) ≡ txn_of other txns
unfolding with_txn
changed_other number other txn [] differ = refl
changed_other number other txn (first ∷ txns) differ = other_first number other txn first txns (is_of number first) refl differ (changed_other number other txn txns differ)

-- whether a session has an open transaction stays
none_first : (number other : ℕ) (txn : StoredTxn) (first : OpenTxn) (txns : List OpenTxn) (b c : Bool) → cond c (Some first) (txn_of other txns) ≡ None → (txn_of other txns ≡ None → txn_of other (with_txn number txn txns) ≡ None)
    → is_of other first ≡ c → txn_of other (cond b (in_place first txn ∷ txns) (first ∷ with_txn number txn txns)) ≡ None
none_first number other txn first txns b true none rest is = absurd (cc)
none_first number other txn first txns true false none rest is = rw is none
none_first number other txn first txns false false none rest is = rw is (rest none)

none_still : (number other : ℕ) (txn : StoredTxn) (txns : List OpenTxn) → txn_of other txns ≡ None → txn_of other (with_txn number txn txns) ≡ None
unfolding with_txn
none_still number other txn [] none = refl
none_still number other txn (first ∷ txns) none = none_first number other txn first txns (is_of number first) (is_of other first) none (none_still number other txn txns) refl

each_first : (number : ℕ) (txn : StoredTxn) (first : OpenTxn) (txns : List OpenTxn) (b : Bool) → OneEach (first ∷ txns) → OneEach (with_txn number txn txns) → OneEach (cond b (in_place first txn ∷ txns) (first ∷ with_txn number txn txns))
each_first number txn first txns true each rest = (each.0, each.1)
each_first number txn first txns false each rest = (none_still number first.session txn txns each.0, rest)

pub changed_each : (number : ℕ) (txn : StoredTxn) (txns : List OpenTxn) → OneEach txns → OneEach (with_txn number txn txns)
unfolding with_txn
changed_each number txn [] each = tt
changed_each number txn (first ∷ txns) each = each_first number txn first txns (is_of number first) each (changed_each number txn txns each.1)

-- the rows that their commits may put
puts_first : (name : List ℕ) (number : ℕ) (txn : StoredTxn) (first one : OpenTxn) (txns : List OpenTxn) (b : Bool) → cond b (Some first) (txn_of number txns) ≡ Some one
    → (txn_of number txns ≡ Some one → puts_open name (with_txn number txn txns) + puts_in name one.txn.events ≡ puts_open name txns + puts_in name txn.events)
    → puts_open name (cond b (in_place first txn ∷ txns) (first ∷ with_txn number txn txns)) + puts_in name one.txn.events ≡ puts_open name (first ∷ txns) + puts_in name txn.events
puts_first name number txn first one txns true found rest =
    let same : first ≡ one = cc in
    let old = sum_by-cons (λ (o : OpenTxn). puts_in name o.txn.events) first txns in
    let new = sum_by-cons (λ (o : OpenTxn). puts_in name o.txn.events) (in_place first txn) txns in
    let own = ap (λ (o : OpenTxn). puts_in name o.txn.events) same in
    omega (arith, old, new, own)
puts_first name number txn first one txns false found rest =
    let old = sum_by-cons (λ (o : OpenTxn). puts_in name o.txn.events) first txns in
    let new = sum_by-cons (λ (o : OpenTxn). puts_in name o.txn.events) first (with_txn number txn txns) in
    let following = rest found in
    omega (arith, old, new, following)

pub changed_puts : (name : List ℕ) (number : ℕ) (txn : StoredTxn) (one : OpenTxn) (txns : List OpenTxn) → txn_of number txns ≡ Some one → puts_open name (with_txn number txn txns) + puts_in name one.txn.events ≡ puts_open name txns + puts_in name txn.events
unfolding with_txn
changed_puts name number txn one [] found = absurd (cc)
changed_puts name number txn one (first ∷ txns) found = puts_first name number txn first one txns (is_of number first) found (changed_puts name number txn one txns)

-- WHAT CONTRACTS SAY OF IT

some_there : (found : Option OpenTxn) → IsSome found → (one : OpenTxn) × (found ≡ Some one)
some_there None some = absurd (false≢true some)
some_there (Some one) some = (one, refl)

-- the place of one that is there
pub there_within : (number : ℕ) (txns : List OpenTxn) (place : ℕ) → place ≡ position_or_len (is_of number) txns → IsSome (txn_of number txns) → place < length txns
there_within number txns place is some =
    let there = some_there (txn_of number txns) some in
    slice_get_within txns place there.0 (ap (slice_get txns) is ∙ sym (find_at (is_of number) txns) ∙ there.1)

changed_at : (number : ℕ) (txns : List OpenTxn) (place : ℕ) (one : OpenTxn) (now : StoredTxn) → place ≡ position_or_len (is_of number) txns → place < length txns → one ≡ get_or txns place one → IsChanged number one.txn now txns (set txns place (in_place one now))
changed_at number txns place one now is within at = record {
  found = one;
  there = found_there number txns place one is within at;
  was_is = refl;
  after_is = set_with number now txns place one is within at;
}

pub reserved_at : (number : ℕ) (txns : List OpenTxn) (place : ℕ) (one : OpenTxn) (now : StoredTxn) → place ≡ position_or_len (is_of number) txns → place < length txns → one ≡ get_or txns place one → now.events ≡ one.txn.events → schemas now.tables ≡ schemas one.txn.tables
    → IsReserved number txns (set txns place (in_place one now))
reserved_at number txns place one now is within at events_are schemas_are = record {
  was = one.txn;
  now = now;
  changed = changed_at number txns place one now is within at;
  events = events_are;
  schemas_are = schemas_are;
}

pub room_at : {E : Type 0} (result : Result (Unit {0}) E) (number : ℕ) (writes : TableChanges) (txns : List OpenTxn) (place : ℕ) (one : OpenTxn) (now : StoredTxn) → place ≡ position_or_len (is_of number) txns → place < length txns → one ≡ get_or txns place one → OnOk result (HasRoom now writes)
    → OnOk result (IfSome (txn_of number (set txns place (in_place one now))) (λ o. HasRoom o.txn writes))
room_at (Ok done) number writes txns place one now is within at room =
    let found : txn_of number (set txns place (in_place one now)) ≡ Some (in_place one now) = ap (txn_of number) (set_with number now txns place one is within at) ∙ changed_there number now one txns (found_there number txns place one is within at) in
    subst (λ (f : Option OpenTxn). IfSome f (λ o. HasRoom o.txn writes)) (sym found) room
room_at (Err fault) number writes txns place one now is within at room = tt

pub takes_at : (number : ℕ) (writes : TableChanges) (txns : List OpenTxn) (place : ℕ) (one : OpenTxn) → place ≡ position_or_len (is_of number) txns → place < length txns → one ≡ get_or txns place one → IsSomeAnd (txn_of number txns) (λ o. Takes writes o.txn) → Takes writes one.txn
takes_at number writes txns place one is within at takes = subst (λ (f : Option OpenTxn). IsSomeAnd f (λ o. Takes writes o.txn)) (found_there number txns place one is within at) takes

pub takes_some : (number : ℕ) (writes : TableChanges) (txns : List OpenTxn) → IsSomeAnd (txn_of number txns) (λ o. Takes writes o.txn) → IsSome (txn_of number txns)
takes_some number writes txns takes = at (txn_of number txns) takes where
  at : (found : Option OpenTxn) → IsSomeAnd found (λ o. Takes writes o.txn) → IsSome found
  at None takes = absurd takes
  at (Some one) takes = refl

pub written_at : (number : ℕ) (writes : TableChanges) (txns : List OpenTxn) (place : ℕ) (one : OpenTxn) (now : StoredTxn) → place ≡ position_or_len (is_of number) txns → place < length txns → one ≡ get_or txns place one → now.events ≡ one.txn.events ++ events_in writes
    → schemas now.tables ≡ schemas_with writes.schema (schemas one.txn.tables) → IsWritten number writes txns (set txns place (in_place one now))
written_at number writes txns place one now is within at events_are schemas_are = record {
  was = one.txn;
  now = now;
  changed = changed_at number txns place one now is within at;
  events = events_are;
  schemas_are = schemas_are;
}

-- ONE MORE IS OPENED

opened_first : (number : ℕ) (first one : OpenTxn) (txns : List OpenTxn) (b : Bool) → cond b (Some first) (txn_of number txns) ≡ None → (txn_of number txns ≡ None → txn_of number (txns ++ one ∷ []) ≡ Some one) → cond b (Some first) (txn_of number (txns ++ one ∷ [])) ≡ Some one
opened_first number first one txns true none rest = absurd (cc)
opened_first number first one txns false none rest = rest none

pub opened_there : (number : ℕ) (one : OpenTxn) (txns : List OpenTxn) → one.session ≡ number → txn_of number txns ≡ None → txn_of number (txns ++ one ∷ []) ≡ Some one
opened_there number one [] own none = let is : is_of number one ≡ true = ap (λ (n : ℕ). n == number) own ∙ same_number number in rw is refl
opened_there number one (first ∷ txns) own none = opened_first number first one txns (is_of number first) none (opened_there number one txns own)

pub opened_other : (other : ℕ) (one : OpenTxn) (txns : List OpenTxn) → is_of other one ≡ false → txn_of other (txns ++ one ∷ []) ≡ txn_of other txns
opened_other other one [] differ = rw differ refl
opened_other other one (first ∷ txns) differ = ap (cond (is_of other first) (Some first)) (opened_other other one txns differ)

-- none of the first's session stands behind it still
still_none : (number : ℕ) (first one : OpenTxn) (txns : List OpenTxn) → one.session ≡ number → is_of number first ≡ false → txn_of first.session txns ≡ None → txn_of first.session (txns ++ one ∷ []) ≡ None
still_none number first one txns own differ none = opened_other first.session one txns (turned (is_of first.session one) refl) ∙ none where
  turned : (b : Bool) → is_of first.session one ≡ b → b ≡ false
  turned true is = let same : first.session ≡ number = sym (are_one one.session first.session is) ∙ own in let clash : true ≡ false = sym (same_number number) ∙ ap (λ (n : ℕ). n == number) (sym same) ∙ differ in absurd (cc)
  turned false is = refl

first_differs : (number : ℕ) (first : OpenTxn) (txns : List OpenTxn) (b : Bool) → cond b (Some first) (txn_of number txns) ≡ None → (b ≡ false) × (txn_of number txns ≡ None)
first_differs number first txns true none = absurd (cc)
first_differs number first txns false none = (refl, none)

pub opened_each : (number : ℕ) (one : OpenTxn) (txns : List OpenTxn) → one.session ≡ number → txn_of number txns ≡ None → OneEach txns → OneEach (txns ++ one ∷ [])
opened_each number one [] own none each = (refl, tt)
opened_each number one (first ∷ txns) own none each =
    let parts = first_differs number first txns (is_of number first) none in
    (still_none number first one txns own parts.0 each.0, opened_each number one txns own parts.1 each.1)

pub opened_puts : (name : List ℕ) (one : OpenTxn) (txns : List OpenTxn) → puts_open name (txns ++ one ∷ []) ≡ puts_open name txns + puts_in name one.txn.events
opened_puts name one txns = sum_by_push (λ (o : OpenTxn). puts_in name o.txn.events) txns one

-- ONE IS TAKEN OUT

left_none : (number other : ℕ) (first : OpenTxn) (txns : List OpenTxn) (b c : Bool) → cond c (Some first) (txn_of other txns) ≡ None → (txn_of other txns ≡ None → txn_of other (others number txns) ≡ None) → is_of other first ≡ c
    → txn_of other (cond (not b) (first ∷ others number txns) (others number txns)) ≡ None
left_none number other first txns b true none rest is = absurd (cc)
left_none number other first txns true false none rest is = rest none
left_none number other first txns false false none rest is = rw is (rest none)

none_left : (number other : ℕ) (txns : List OpenTxn) → txn_of other txns ≡ None → txn_of other (others number txns) ≡ None
none_left number other [] none = refl
none_left number other (first ∷ txns) none = left_none number other first txns (is_of number first) (is_of other first) none (none_left number other txns) refl

left_each : (number : ℕ) (first : OpenTxn) (txns : List OpenTxn) (b : Bool) → OneEach (first ∷ txns) → OneEach (others number txns) → OneEach (cond (not b) (first ∷ others number txns) (others number txns))
left_each number first txns true each rest = rest
left_each number first txns false each rest = (none_left number first.session txns each.0, rest)

pub others_each : (number : ℕ) (txns : List OpenTxn) → OneEach txns → OneEach (others number txns)
others_each number [] each = tt
others_each number (first ∷ txns) each = left_each number first txns (is_of number first) each (others_each number txns each.1)
