-- How many rows the open transactions may put.
use Rattle.std.proofs.Common.{◌≡◌, ℕ, suc, ◌+◌, ◌<◌, ◌≤◌, take, get_or, Bool, true, false, not, List, [], ◌∷◌, length, cond, Some, refl, ap, arith}
use Rattle.std.specs.Str.{bytes_eq}
use Rattle.std.proofs.lemmas.List.Sums.{sum_by-cons, sum_by_more}
use Rattle.base_values.specs.declared.event.Change.{Change}
use Rattle.base_values.specs.declared.event.Change.TheVariants.{Write, Update, Delete}
use Rattle.base_values.specs.declared.event.RowEvent.{RowEvent}
use Rattle.server_transaction.specs.Rooms.{puts_of, puts_in}
use Rattle.server_storage.specs.declared.open_txns.txns.OpenTxn.{OpenTxn}
use Rattle.server_storage.specs.OpenTxns.Open.{txn_of, others, puts_open}
use Rattle.server_storage.proofs.OpenTxns.OpenTxns.{is_of}

-- at most one row an event
one_at_most : (change : Change) → puts_of change ≤ 1
one_at_most (Write row) = omega arith
one_at_most (Update before after) = omega arith
one_at_most (Delete row) = omega arith

put_first : (b : Bool) (n m k : ℕ) → n ≤ 1 → m ≤ k → cond b (n + m) m ≤ suc k
put_first true n m k one rest = omega arith
put_first false n m k one rest = omega arith

pub puts_at_most : (name : List ℕ) (events : List RowEvent) → puts_in name events ≤ length events
unfolding puts_in
puts_at_most name [] = omega arith
puts_at_most name (event ∷ events) = put_first (bytes_eq event.table name) (puts_of event.change) (puts_in name events) (length events) (one_at_most event.change) (puts_at_most name events)

-- without one session's, with what that one may put
taken_first : (name : List ℕ) (number : ℕ) (first one : OpenTxn) (txns : List OpenTxn) (b : Bool) → is_of number first ≡ b → cond b (Some first) (txn_of number txns) ≡ Some one → puts_open name (others number txns) ≤ puts_open name txns
    → (txn_of number txns ≡ Some one → puts_in name one.txn.events + puts_open name (others number txns) ≤ puts_open name txns)
    → puts_in name one.txn.events + puts_open name (cond (not b) (first ∷ others number txns) (others number txns)) ≤ puts_open name (first ∷ txns)
taken_first name number first one txns true is found fewer rest =
    let same : first ≡ one = cc in
    let all = sum_by-cons (λ (o : OpenTxn). puts_in name o.txn.events) first txns in
    let own = ap (λ (o : OpenTxn). puts_in name o.txn.events) same in
    omega (arith, all, own, fewer)
taken_first name number first one txns false is found fewer rest =
    let all = sum_by-cons (λ (o : OpenTxn). puts_in name o.txn.events) first txns in
    let left = sum_by-cons (λ (o : OpenTxn). puts_in name o.txn.events) first (others number txns) in
    let following = rest found in
    omega (arith, all, left, following)

fewer_first : (name : List ℕ) (number : ℕ) (first : OpenTxn) (txns : List OpenTxn) (b : Bool) → puts_open name (others number txns) ≤ puts_open name txns → puts_open name (cond (not b) (first ∷ others number txns) (others number txns)) ≤ puts_open name (first ∷ txns)
fewer_first name number first txns true rest = let all = sum_by-cons (λ (o : OpenTxn). puts_in name o.txn.events) first txns in omega (arith, all, rest)
fewer_first name number first txns false rest =
    let all = sum_by-cons (λ (o : OpenTxn). puts_in name o.txn.events) first txns in
    let left = sum_by-cons (λ (o : OpenTxn). puts_in name o.txn.events) first (others number txns) in
    omega (arith, all, left, rest)

pub fewer_puts : (name : List ℕ) (number : ℕ) (txns : List OpenTxn) → puts_open name (others number txns) ≤ puts_open name txns
fewer_puts name number [] = omega arith
fewer_puts name number (first ∷ txns) = fewer_first name number first txns (is_of number first) (fewer_puts name number txns)

pub taken_puts : (name : List ℕ) (number : ℕ) (one : OpenTxn) (txns : List OpenTxn) → txn_of number txns ≡ Some one → puts_in name one.txn.events + puts_open name (others number txns) ≤ puts_open name txns
taken_puts name number one [] found = absurd (cc)
taken_puts name number one (first ∷ txns) found = taken_first name number first one txns (is_of number first) refl found (fewer_puts name number txns) (taken_puts name number one txns)

-- one more counted
pub counted_more : (name : List ℕ) (txns : List OpenTxn) (place count events : ℕ) (one : OpenTxn) → place < length txns → one ≡ get_or txns place one → events ≡ length one.txn.events → puts_open name (take place txns) ≤ count → puts_open name (take (place + 1) txns) ≤ count + events
counted_more name txns place count events one within at are before =
    let more = sum_by_more (λ (o : OpenTxn). puts_in name o.txn.events) txns place one within in
    let own = ap (λ (o : OpenTxn). puts_in name o.txn.events) at in
    let few = puts_at_most name one.txn.events in
    omega (arith, more, own, few, are, before)
