-- The counts of a log with one event more, and from a place on.
use Rattle.std.proofs.Common.{◌≡◌, ℕ, ◌+◌, ◌-◌, ◌<◌, ◌≤◌, true, false, cond, List, [], ◌∷◌, ◌++◌, length, take, drop, get_or, refl, sym, ap, ◌∙◌, arith, ◌⊎◌, ⊎_elim}
use Rattle.std.specs.List.{count_by}
use Rattle.std.specs.Prelude.{nat_eq}
use Rattle.std.specs.Cmp.Lexicographic.{pointwise}
use Rattle.std.proofs.lemmas.Bool.{cases_lt, and_parts, false≢true}
use Rattle.std.proofs.lemmas.Slice.Eq.{bytes_eq-Decides}
use Rattle.std.proofs.lemmas.List.{length_push, get_or_push, take-append-le, take_all, drop_all}
use Rattle.std.proofs.lemmas.List.Sums.{sum_by_push, sum_by-take-drop}
use Rattle.std.proofs.Math.ListN.{get_or-append}
use Rattle.base_values.specs.declared.event.RowEvent.{RowEvent}
use Rattle.server_model.specs.States.{is_of}
use Rattle.server_log.specs.Logs.{StoredCounts, IsCounted}

-- how many of the events are of these tables
abbrev pub counted : List (List ℕ) → List RowEvent → ℕ
counted watched events = count_by (is_of watched) events

-- what is counted before each event, with one event more
each_more : (watched : List (List ℕ)) (events : List RowEvent) (event : RowEvent) (before : List ℕ) (total : ℕ) → length before ≡ length events → ((place : ℕ) → place < length events → get_or before place 0 ≡ counted watched (take place events)) → total ≡ counted watched events
    → (place : ℕ) → place < length (events ++ event ∷ []) → get_or (before ++ total ∷ []) place 0 ≡ counted watched (take place (events ++ event ∷ []))
each_more watched events event before total many each is place within =
    let split : (place < length events) ⊎ (length events ≤ place) = cases_lt place (length events) in
    let here : place < length events + 1 = rw (length_push events event) at within in
    ⊎_elim
    (λ (below : place < length events).
    let inside : place < length before = omega (arith, below, many) in
    get_or-append before (total ∷ []) 0 place inside ∙ each place below ∙ ap (counted watched) (sym (take-append-le place events (event ∷ []) (omega (arith, below)))))
    (λ (last : length events ≤ place).
    let end : length before ≡ place = omega (arith, last, here, many) in
    get_or_push before total 0 place end ∙ is ∙ ap (counted watched) (sym (take-append-le place events (event ∷ []) (omega (arith, end, many)) ∙ take_all place events last)))
    split

-- *One event more*
pub counted_more : (events : List RowEvent) (event : RowEvent) (was now : StoredCounts) → IsCounted events was → now.watched ≡ was.watched → now.before ≡ was.before ++ was.total ∷ [] → now.total ≡ was.total + cond (is_of was.watched event) 1 0 → IsCounted (events ++ event ∷ []) now
counted_more events event was now counts watched before total = record {
  as_many = ap length before ∙ length_push was.before was.total ∙ omega (arith, counts.as_many) ∙ sym (length_push events event);
  each = λ place within. rw (before, watched) (each_more was.watched events event was.before was.total counts.as_many counts.each counts.total_is place within);
  total_is = rw watched (total ∙ ap (λ n. n + cond (is_of was.watched event) 1 0) counts.total_is ∙ sym (sum_by_push (λ x. cond (is_of was.watched x) 1 0) events event));
}

-- *From a place on*: what stands before it is taken from all
pub counted_after : (events : List RowEvent) (counts : StoredCounts) (place : ℕ) → IsCounted events counts → place < length counts.before → counts.total - get_or counts.before place 0 ≡ counted counts.watched (drop place events)
counted_after events counts place is within =
    let here : get_or counts.before place 0 ≡ counted counts.watched (take place events) = is.each place (omega (arith, within, is.as_many)) in
    let both : counted counts.watched (take place events) + counted counts.watched (drop place events) ≡ counted counts.watched events = sum_by-take-drop (λ x. cond (is_of counts.watched x) 1 0) events place in
    omega (arith, here, both, is.total_is)

-- ... and behind the last event there is none
pub counted_past : (events : List RowEvent) (counts : StoredCounts) (place : ℕ) → IsCounted events counts → length counts.before ≤ place → 0 ≡ counted counts.watched (drop place events)
counted_past events counts place is past = ap (counted counts.watched) (sym (drop_all place events (omega (arith, past, is.as_many))))

-- only the room has changed
pub counted_kept : (events : List RowEvent) (was now : StoredCounts) → IsCounted events was → now.watched ≡ was.watched → now.before ≡ was.before → now.total ≡ was.total → IsCounted events now
counted_kept events was now counts watched before total = record {
  as_many = ap length before ∙ counts.as_many;
  each = λ place within. rw (before, watched) (counts.each place within);
  total_is = rw watched (total ∙ counts.total_is);
}

-- a log without events
pub counted_none : (counts : StoredCounts) → counts.before ≡ [] → counts.total ≡ 0 → IsCounted [] counts
counted_none counts before total = record {
  as_many = ap length before;
  each = λ place within. absurd (omega (arith, within));
  total_is = total;
}

-- names that are equal one by one are the same names
pub same_names : (these those : List (List ℕ)) → pointwise (pointwise nat_eq) these those ≡ true → these ≡ those
same_names [] [] is = refl
same_names [] (other ∷ others) is = absurd (false≢true is)
same_names (name ∷ names) [] is = absurd (false≢true is)
same_names (name ∷ names) (other ∷ others) is =
    let parts = and_parts (pointwise nat_eq name other) (pointwise (pointwise nat_eq) names others) is in
    ap (λ (n : List ℕ). n ∷ names) ((bytes_eq-Decides name other).0 parts.0) ∙ ap (λ (more : List (List ℕ)). other ∷ more) (same_names names others parts.1)

pub ruleset steps = (counted_more, counted_after, counted_past, counted_kept, counted_none, same_names)
