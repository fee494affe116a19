-- The open transactions of sessions, with one taken out, one more, or one that wrote more.
use Rattle.std.proofs.Common.{◌≡◌, ℕ, zero, suc, ◌<◌, ◌≤◌, ◌==◌, Bool, true, false, not, List, [], ◌∷◌, length, filter, cond, get_or, Some, None, refl, sym, ap, ◌∙◌, arith}
use Rattle.std.specs.Prelude.{slice_get}
use Rattle.std.specs.List.{position_or_len, remove}
use Rattle.std.proofs.lemmas.Bool.{false≢true}
use Rattle.std.proofs.lemmas.Option.{slice_get_read, slice_get_past}
use Rattle.std.proofs.lemmas.List.Folds.{find_at}
use Rattle.server_model.proofs.LockedRows.Tests.{same_number, are_one}
use Rattle.server_storage.specs.declared.open_txns.txns.OpenTxn.{OpenTxn}
use Rattle.server_storage.specs.OpenTxns.Open.{txn_of, others}

abbrev pub is_of : ℕ → OpenTxn → Bool
is_of number one = one.session == number

-- one at the place of its number is found by it
pub found_there : (number : ℕ) (txns : List OpenTxn) (place : ℕ) (one : OpenTxn) → place ≡ position_or_len (is_of number) txns → place < length txns → one ≡ get_or txns place one → txn_of number txns ≡ Some one
found_there number txns place one is within at = find_at (is_of number) txns ∙ ap (slice_get txns) (sym is) ∙ slice_get_read txns (length txns) place one refl within at

pub none_there : (number : ℕ) (txns : List OpenTxn) (place : ℕ) → place ≡ position_or_len (is_of number) txns → length txns ≤ place → txn_of number txns ≡ None
none_there number txns place is following = find_at (is_of number) txns ∙ ap (slice_get txns) (sym is) ∙ slice_get_past txns place following

-- one that is found has the number
number_first : (number : ℕ) (first one : OpenTxn) (txns : List OpenTxn) (b : Bool) → is_of number first ≡ b → cond b (Some first) (txn_of number txns) ≡ Some one → (txn_of number txns ≡ Some one → is_of number one ≡ true) → is_of number one ≡ true
number_first number first one txns true is found rest = let same : first ≡ one = cc in ap (is_of number) (sym same) ∙ is
number_first number first one txns false is found rest = rest found

pub found_number : (number : ℕ) (one : OpenTxn) (txns : List OpenTxn) → txn_of number txns ≡ Some one → is_of number one ≡ true
found_number number one [] found = absurd (cc)
found_number number one (first ∷ txns) found = number_first number first one txns (is_of number first) refl found (found_number number one txns)

-- one of a session is none of another's
pub not_other : (number other : ℕ) (one : OpenTxn) → is_of number one ≡ true → (other == number) ≡ false → is_of other one ≡ false
not_other number other one is differ = not_so (is_of other one) refl where
  not_so : (b : Bool) → is_of other one ≡ b → b ≡ false
  not_so true so = let same : other ≡ number = sym (are_one one.session other so) ∙ are_one one.session number is in absurd (false≢true (sym differ ∙ ap (λ (n : ℕ). n == number) same ∙ same_number number))
  not_so false so = refl

-- taken out
none_left : (number : ℕ) (first : OpenTxn) (txns : List OpenTxn) (b : Bool) → is_of number first ≡ b → txn_of number (others number txns) ≡ None → txn_of number (cond (not b) (first ∷ others number txns) (others number txns)) ≡ None
none_left number first txns true is rest = rest
none_left number first txns false is rest = rw is rest

pub own_none : (number : ℕ) (txns : List OpenTxn) → txn_of number (others number txns) ≡ None
own_none number [] = refl
own_none number (first ∷ txns) = none_left number first txns (is_of number first) refl (own_none number txns)

other_first : (number other : ℕ) (first : OpenTxn) (txns : List OpenTxn) (b : Bool) → is_of number first ≡ b → (other == number) ≡ false → txn_of other (others number txns) ≡ txn_of other txns
    → txn_of other (cond (not b) (first ∷ others number txns) (others number txns)) ≡ cond (is_of other first) (Some first) (txn_of other txns)
other_first number other first txns true is differ rest = let no : is_of other first ≡ false = not_other number other first is differ in rest ∙ rw no refl
other_first number other first txns false is differ rest = ap (cond (is_of other first) (Some first)) rest

pub other_same : (number other : ℕ) (txns : List OpenTxn) → (other == number) ≡ false → txn_of other (others number txns) ≡ txn_of other txns
other_same number other [] differ = refl
other_same number other (first ∷ txns) differ = other_first number other first txns (is_of number first) refl differ (other_same number other txns differ)

-- one that fails a test may be taken out of those that pass it
left_out : (test : OpenTxn → Bool) (txns : List OpenTxn) (place : ℕ) (one : OpenTxn) → place < length txns → test (get_or txns place one) ≡ false → filter test (remove txns place) ≡ filter test txns
left_out test [] place one within fails = absurd (omega arith)
left_out test (first ∷ txns) zero one within fails = rw fails refl
left_out test (first ∷ txns) (suc place) one within fails = ap (λ (rest : List OpenTxn). cond (test first) (first ∷ rest) rest) (left_out test txns place one (omega arith) fails)

pub taken_others : (number : ℕ) (txns : List OpenTxn) (place : ℕ) (one : OpenTxn) → place ≡ position_or_len (is_of number) txns → place < length txns → one ≡ get_or txns place one → others number (remove txns place) ≡ others number txns
taken_others number txns place one is within at =
    let own : is_of number one ≡ true = found_number number one txns (found_there number txns place one is within at) in
    left_out (λ o. not (is_of number o)) txns place one within (ap (λ (o : OpenTxn). not (is_of number o)) (sym at) ∙ ap not own)

-- where none is of the session, all are others'
all_first : (number : ℕ) (first : OpenTxn) (txns : List OpenTxn) (b : Bool) → is_of number first ≡ b → cond b (Some first) (txn_of number txns) ≡ None → (txn_of number txns ≡ None → others number txns ≡ txns)
    → cond (not b) (first ∷ others number txns) (others number txns) ≡ first ∷ txns
all_first number first txns true is none rest = absurd (cc)
all_first number first txns false is none rest = ap (λ (ts : List OpenTxn). first ∷ ts) (rest none)

pub all_others : (number : ℕ) (txns : List OpenTxn) → txn_of number txns ≡ None → others number txns ≡ txns
all_others number [] none = refl
all_others number (first ∷ txns) none = all_first number first txns (is_of number first) refl none (all_others number txns)
