-- What changes of the log's end, of the position and of the keys that are done leave of one view; and its start and end.
use Rattle.std.proofs.Common.{◌≡◌, ℕ, ◌-◌, ◌≤◌, Bool, true, Option, Some, None, refl, sym, ap, ◌∙◌, subst, arith, ◌⊎◌, inl, inr}
use Rattle.std.specs.Option.{option_and_then}
use Rattle.proof_journals.specs.Ghost.Relation.Timelines.{Timeline, RowBefore, IsTimeline, Untouched, ConvertedRowFrom}
use Rattle.proof_journals.specs.Ghost.Relation.Views.{ViewFollows, except}
use Rattle.proof_journals.proofs.Ghost.Relation.Tests.{true_false, none_some, one_holds, none_taken}
use Rattle.proof_journals.proofs.Ghost.Relation.Events.{back}

-- *The start*: the ghost is empty, and outside the range no row stands.
pub starts : {K R M : Type 0} (timeline : Timeline K R M) (done : K → Bool) (position end : ℕ) (ghost_at : K → Option M) → ((key : K) → ghost_at key ≡ None) → ((key : K) → done key ≡ true → timeline.row_at end key ≡ None) → ViewFollows timeline done position end ghost_at
starts timeline done position end ghost_at empty outside =
    record {
      comes = λ key made is. absurd (none_some (ghost_at key) made (empty key) is);
      stands = λ key row done quiet is. absurd (none_some (timeline.row_at end key) row (outside key done) is);
    }

pub converted_row_wider : {K R M : Type 0} (timeline : Timeline K R M) (position end position' end' : ℕ) (key : K) (made : M) → position' ≤ position → end ≤ end' → ConvertedRowFrom timeline position end key made → ConvertedRowFrom timeline position' end' key made
converted_row_wider timeline position end position' end' key made low high comes =
    let from = comes.from in
    let to = comes.to in
    record { moment = comes.moment; row = comes.row; from = omega (arith, from); to = omega (arith, to); stands = comes.stands; imaged = comes.imaged }

-- *A client commits*: the log grows.
pub grows : {K R M : Type 0} (timeline : Timeline K R M) (done : K → Bool) (position end end' : ℕ) (ghost_at : K → Option M) → IsTimeline timeline end' → position ≤ end → end ≤ end' → ViewFollows timeline done position end ghost_at → ViewFollows timeline done position end' ghost_at
grows timeline done position end end' ghost_at is before more ghost =
    record {
      comes = λ key made now. converted_row_wider timeline position end position end' key made (omega arith) more (ghost.comes key made now);
      stands = λ key row done quiet now.
          let was : RowBefore timeline end key row = back timeline end' is key row end (end' - end) (omega arith) (λ i low high. quiet i (omega arith) (omega arith)) (subst (λ i. timeline.row_at i key ≡ Some row) (omega arith) now) in
          ghost.stands key was.before done (λ i low high. quiet i low (omega arith)) was.stands;
    }

-- *Back to an earlier position*: a batch is done again.
pub lowers : {K R M : Type 0} (timeline : Timeline K R M) (done : K → Bool) (position position' end : ℕ) (ghost_at : K → Option M) → position' ≤ position → ViewFollows timeline done position end ghost_at → ViewFollows timeline done position' end ghost_at
lowers timeline done position position' end ghost_at low ghost =
    record {
      comes = λ key made now. converted_row_wider timeline position end position' end key made low (omega arith) (ghost.comes key made now);
      stands = λ key row done quiet now. ghost.stands key row done (λ i from to. quiet i (omega arith) to) now;
    }

-- *Half an event*: a row is taken out.
pub takes_out : {K R M : Type 0} (timeline : Timeline K R M) (done half : K → Bool) (position end : ℕ) (ghost_at after : K → Option M) → ViewFollows timeline done position end ghost_at
    → ((key : K) → (after key ≡ ghost_at key) ⊎ ((half key ≡ true) × (after key ≡ None))) → ViewFollows timeline (except done half) position end after
takes_out {K = K} {R = R} {M = M} timeline done half position end ghost_at after ghost each =
    record {
      comes = λ key made now. out_comes key made now (each key);
      stands = λ key row stays quiet now. out_stands key row stays quiet now (each key);
    }
  where
    out_comes : (key : K) (made : M) → after key ≡ Some made → (after key ≡ ghost_at key) ⊎ ((half key ≡ true) × (after key ≡ None)) → ConvertedRowFrom timeline position end key made
    out_comes key made now (inl same) = ghost.comes key made (sym same ∙ now)
    out_comes key made now (inr gone) = absurd (none_some (after key) made gone.1 now)

    out_stands : (key : K) (row : R) → except done half key ≡ true → Untouched timeline position end key → timeline.row_at end key ≡ Some row → (after key ≡ ghost_at key) ⊎ ((half key ≡ true) × (after key ≡ None)) → (made : M) × (after key ≡ Some made)
    out_stands key row stays quiet now (inl same) = let was = ghost.stands key row (one_holds (done key) (half key) stays) quiet now in (was.0, same ∙ was.1)
    out_stands key row stays quiet now (inr gone) = true_false (half key) gone.0 (none_taken (done key) (half key) stays)

-- the relation of fewer keys that are done
pub of_fewer : {K R M : Type 0} (timeline : Timeline K R M) (done fewer : K → Bool) (position end : ℕ) (ghost_at : K → Option M) → ((key : K) → fewer key ≡ true → done key ≡ true) → ViewFollows timeline done position end ghost_at → ViewFollows timeline fewer position end ghost_at
of_fewer timeline done fewer position end ghost_at only ghost = record { comes = ghost.comes; stands = λ key row is quiet now. ghost.stands key row (only key is) quiet now }

-- *The end*: every event is applied and every key is done, so each row has an image, and the ghost has just these.
pub ends_converted_row : {K R M : Type 0} (timeline : Timeline K R M) (done : K → Bool) (end : ℕ) (ghost_at : K → Option M) → ((key : K) → done key ≡ true) → ViewFollows timeline done end end ghost_at → (key : K) (made : M) → ghost_at key ≡ Some made → option_and_then timeline.converted_row (timeline.row_at end key) ≡ Some made
ends_converted_row timeline done end ghost_at all ghost key made is =
    let comes = ghost.comes key made is in
    let from = comes.from in
    let to = comes.to in
    let here : comes.moment ≡ end = omega (arith, from, to) in
    ap (option_and_then timeline.converted_row) (subst (λ i. timeline.row_at i key ≡ Some comes.row) here comes.stands) ∙ comes.imaged

pub ends_row : {K R M : Type 0} (timeline : Timeline K R M) (done : K → Bool) (end : ℕ) (ghost_at : K → Option M) → ((key : K) → done key ≡ true) → ViewFollows timeline done end end ghost_at → (key : K) (row : R) → timeline.row_at end key ≡ Some row → (made : M) × (timeline.converted_row row ≡ Some made) × (ghost_at key ≡ Some made)
ends_row timeline done end ghost_at all ghost key row stands =
    let was = ghost.stands key row (all key) (λ i from to. absurd (let no : ⊥ = omega (arith, from, to) in no)) stands in
    (was.0, sym (ap (option_and_then timeline.converted_row) stands) ∙ ends_converted_row timeline done end ghost_at all ghost key was.0 was.1, was.1)

ends_by : {K R M : Type 0} (timeline : Timeline K R M) (done : K → Bool) (end : ℕ) (ghost_at : K → Option M) → ((key : K) → done key ≡ true) → ViewFollows timeline done end end ghost_at → (key : K) (made : Option M) (row : Option R) → ghost_at key ≡ made → timeline.row_at end key ≡ row
    → ghost_at key ≡ option_and_then timeline.converted_row (timeline.row_at end key)
ends_by timeline done end ghost_at all ghost key (Some made) row is stands = is ∙ sym (ends_converted_row timeline done end ghost_at all ghost key made is)
ends_by timeline done end ghost_at all ghost key None None is stands = is ∙ rw stands refl
ends_by timeline done end ghost_at all ghost key None (Some row) is stands = let was = ends_row timeline done end ghost_at all ghost key row stands in absurd (none_some (ghost_at key) was.0 is was.2)

pub ends : {K R M : Type 0} (timeline : Timeline K R M) (done : K → Bool) (end : ℕ) (ghost_at : K → Option M) → ((key : K) → done key ≡ true) → ViewFollows timeline done end end ghost_at → (key : K) → ghost_at key ≡ option_and_then timeline.converted_row (timeline.row_at end key)
ends timeline done end ghost_at all ghost key = ends_by timeline done end ghost_at all ghost key (ghost_at key) (timeline.row_at end key) refl refl
