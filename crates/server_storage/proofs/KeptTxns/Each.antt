-- What holds of each open transaction, and what each session wrote.
use Rattle.std.proofs.Common.{◌≡◌, ℕ, ◌==◌, Bool, true, false, not, List, [], ◌∷◌, ◌++◌, cond, Option, Some, None, refl, sym, ap, ◌∙◌, subst}
use Rattle.std.specs.Option.{option_map}
use Rattle.std.specs.List.{AllByRecursion}
use Rattle.base_values.specs.declared.event.RowEvent.{RowEvent}
use Rattle.server_model.proofs.LockedRows.Tests.{same_number, are_one}
use Rattle.server_transaction.specs.Stored.{StoredTxn}
use Rattle.server_storage.specs.declared.open_txns.txns.OpenTxn.{OpenTxn}
use Rattle.server_storage.specs.OpenTxns.Open.{txn_of, others, with_txn, written_in, written_of, OneEach, IsChanged}
use Rattle.server_storage.proofs.OpenTxns.Changed.{in_place, changed_there, changed_other, opened_there, opened_other}
use Rattle.server_storage.proofs.OpenTxns.OpenTxns.{is_of, own_none, other_same}

-- WHAT HOLDS OF EACH

-- ... holds of the one that is found
found_first : (P : OpenTxn → Type 0) (number : ℕ) (first one : OpenTxn) (txns : List OpenTxn) (b : Bool) → P first → cond b (Some first) (txn_of number txns) ≡ Some one → (txn_of number txns ≡ Some one → P one) → P one
found_first P number first one txns true is found rest = let same : first ≡ one = cc in subst P same is
found_first P number first one txns false is found rest = rest found

pub each_found : (P : OpenTxn → Type 0) (number : ℕ) (one : OpenTxn) (txns : List OpenTxn) → AllByRecursion P txns → txn_of number txns ≡ Some one → P one
each_found P number one [] all found = absurd (cc)
each_found P number one (first ∷ txns) all found = found_first P number first one txns (is_of number first) all.0 found (each_found P number one txns all.1)

-- ... holds of the others
others_first : (P : OpenTxn → Type 0) (number : ℕ) (first : OpenTxn) (txns : List OpenTxn) (b : Bool) → P first → AllByRecursion P (others number txns) → AllByRecursion P (cond (not b) (first ∷ others number txns) (others number txns))
others_first P number first txns true is rest = rest
others_first P number first txns false is rest = (is, rest)

pub each_other : (P : OpenTxn → Type 0) (number : ℕ) (txns : List OpenTxn) → AllByRecursion P txns → AllByRecursion P (others number txns)
each_other P number [] all = tt
each_other P number (first ∷ txns) all = others_first P number first txns (is_of number first) all.0 (each_other P number txns all.1)

-- ... holds of each, where the session's has become one of which it holds
changed_first : (P : OpenTxn → Type 0) (number : ℕ) (now : StoredTxn) (first : OpenTxn) (txns : List OpenTxn) (b : Bool) → AllByRecursion P (first ∷ txns) → P (in_place first now) → AllByRecursion P (with_txn number now txns)
    → AllByRecursion P (cond b (in_place first now ∷ txns) (first ∷ with_txn number now txns))
changed_first P number now first txns true all is rest = (is, all.1)
changed_first P number now first txns false all is rest = (all.0, rest)

pub each_changed : (P : OpenTxn → Type 0) (number : ℕ) (now : StoredTxn) (txns : List OpenTxn) → AllByRecursion P txns → ((one : OpenTxn) → P (in_place one now)) → AllByRecursion P (with_txn number now txns)
unfolding with_txn
each_changed P number now [] all new = tt
each_changed P number now (first ∷ txns) all new = changed_first P number now first txns (is_of number first) all (new first) (each_changed P number now txns all.1 new)

-- WHAT EACH SESSION WROTE

-- what holds of it, and of nothing, holds of each open transaction
written_after : (P : List RowEvent → Type 0) (first : OpenTxn) (txns : List OpenTxn) (session : ℕ) (b : Bool) → is_of session first ≡ b → P [] → txn_of first.session txns ≡ None → P (written_in (cond b (Some first) (txn_of session txns))) → P (written_of session txns)
written_after P first txns session true is nothing none all = subst (λ (n : ℕ). P (written_of n txns)) (are_one first.session session is) (subst (λ (o : Option OpenTxn). P (written_in o)) (sym none) nothing)
written_after P first txns session false is nothing none all = all

pub each_written : (P : List RowEvent → Type 0) (txns : List OpenTxn) → P [] → OneEach txns → ((session : ℕ) → P (written_of session txns)) → AllByRecursion (λ one. P one.txn.events) txns
each_written P [] nothing one_each all = tt
each_written P (first ∷ txns) nothing one_each all = (
  subst (λ (b : Bool). P (written_in (cond b (Some first) (txn_of first.session txns)))) (same_number first.session) (all first.session),
  each_written P txns nothing one_each.1 (λ session. written_after P first txns session (is_of session first) refl nothing one_each.0 (all session)),
)

-- ... where one is opened
pub opened_written : (number session : ℕ) (one : OpenTxn) (txns : List OpenTxn) → one.session ≡ number → one.txn.events ≡ [] → txn_of number txns ≡ None → written_of session (txns ++ one ∷ []) ≡ written_of session txns
opened_written number session one txns own nothing none = at (is_of session one) refl where
  at : (b : Bool) → is_of session one ≡ b → written_of session (txns ++ one ∷ []) ≡ written_of session txns
  at true is =
      let same : number ≡ session = sym own ∙ are_one one.session session is in
      let none' : txn_of session txns ≡ None = subst (λ (n : ℕ). txn_of n txns ≡ None) same none in
      ap written_in (opened_there session one txns (own ∙ same) none') ∙ nothing ∙ sym (ap written_in none')
  at false differ = ap written_in (opened_other session one txns differ)

-- ... where that of one session has become another
pub own_before : (number : ℕ) (was now : StoredTxn) (before after : List OpenTxn) → IsChanged number was now before after → written_of number before ≡ was.events
own_before number was now before after changed = ap written_in changed.there ∙ ap (λ (t : StoredTxn). t.events) (sym changed.was_is)

pub own_after : (number : ℕ) (was now : StoredTxn) (before after : List OpenTxn) → IsChanged number was now before after → written_of number after ≡ now.events
own_after number was now before after changed = ap (written_of number) changed.after_is ∙ ap written_in (changed_there number now changed.found before changed.there)

pub others_after : (number other : ℕ) (was now : StoredTxn) (before after : List OpenTxn) → IsChanged number was now before after → (other == number) ≡ false → written_of other after ≡ written_of other before
others_after number other was now before after changed differ = ap (written_of other) changed.after_is ∙ ap written_in (changed_other number other now before differ)

-- ... where that of one session is taken out
pub own_taken : (number : ℕ) (txns : List OpenTxn) → written_of number (others number txns) ≡ []
own_taken number txns = ap written_in (own_none number txns)

pub others_left : (number other : ℕ) (txns : List OpenTxn) → (other == number) ≡ false → written_of other (others number txns) ≡ written_of other txns
others_left number other txns differ = ap written_in (other_same number other txns differ)

-- what holds of what each other session wrote, and of nothing, holds of what each wrote then
pub left_written : (P : List RowEvent → Type 0) (number : ℕ) (txns : List OpenTxn) → P [] → ((other : ℕ) → (other == number) ≡ false → P (written_of other txns)) → (session : ℕ) → P (written_of session (others number txns))
left_written P number txns nothing all session = at (session == number) refl where
  at : (b : Bool) → (session == number) ≡ b → P (written_of session (others number txns))
  at true is = subst (λ (n : ℕ). P (written_of n (others number txns))) (sym (are_one session number is)) (subst P (sym (own_taken number txns)) nothing)
  at false differ = subst P (sym (others_left number session txns differ)) (all session differ)

-- THE ONE THAT IS TAKEN OUT

-- ... is there
pub taken_there : (txn : StoredTxn) (found : Option OpenTxn) → Some txn ≡ option_map (λ one. one.txn) found → (one : OpenTxn) × (found ≡ Some one) × (one.txn ≡ txn)
taken_there txn None is = absurd (cc)
taken_there txn (Some one) is = let same : txn ≡ one.txn = cc in (one, refl, sym same)

-- ... and its session wrote what it has
pub taken_written : (number : ℕ) (txn : StoredTxn) (txns : List OpenTxn) → Some txn ≡ option_map (λ one. one.txn) (txn_of number txns) → written_of number txns ≡ txn.events
taken_written number txn txns is = let there = taken_there txn (txn_of number txns) is in ap written_in there.1 ∙ ap (λ (t : StoredTxn). t.events) there.2

-- none was there, and its session wrote nothing
pub none_written : (number : ℕ) (txns : List OpenTxn) → None ≡ option_map (λ (one : OpenTxn). one.txn) (txn_of number txns) → written_of number txns ≡ []
none_written number txns is = at (txn_of number txns) is where
  at : (found : Option OpenTxn) → None ≡ option_map (λ (one : OpenTxn). one.txn) found → written_in found ≡ []
  at None is = refl
  at (Some one) is = absurd (cc)
