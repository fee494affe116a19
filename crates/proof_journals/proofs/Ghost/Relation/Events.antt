-- What an event of the log leaves of one view.
use Rattle.std.proofs.Common.{◌≡◌, ℕ, zero, suc, ◌+◌, ◌-◌, ◌<◌, ◌≤◌, Bool, true, false, Option, Some, sym, ◌∙◌, subst, arith}
use Rattle.proof_journals.specs.Ghost.Relation.Timelines.{Timeline, RowBefore, IsTimeline, Untouched, ConvertedRowFrom}
use Rattle.proof_journals.specs.Ghost.Relation.Views.{ViewFollows, except}
use Rattle.proof_journals.specs.Ghost.Relation.AppliedEvents.{AppliedAt}
use Rattle.proof_journals.specs.Ghost.Relation.AppliedEvents.AppliedAt.{kept, displaced, written, removed, missed}
use Rattle.proof_journals.proofs.Ghost.Relation.Tests.{none_some, both_hold}

-- the row of a key before many events that don't touch it
pub back : {K R M : Type 0} (timeline : Timeline K R M) (end : ℕ) → IsTimeline timeline end → (key : K) (row : R) (early steps : ℕ) → early + steps ≤ end → Untouched timeline early (early + steps) key → timeline.row_at (early + steps) key ≡ Some row → RowBefore timeline early key row
back timeline end is key row early zero within quiet stands = record { before = row; stands = subst (λ i. timeline.row_at i key ≡ Some row) (omega arith) stands; same = λ other meets. meets }
back timeline end is key row early (suc steps) within quiet stands =
    let last : RowBefore timeline (early + steps) key row = is.still (early + steps) key row (omega arith) (quiet (early + steps) (omega arith) (omega arith)) (subst (λ i. timeline.row_at i key ≡ Some row) (omega arith) stands) in
    let first : RowBefore timeline early key last.before = back timeline end is key last.before early steps (omega arith) (λ i from to. quiet i from (omega arith)) last.stands in
    record { before = first.before; stands = first.stands; same = λ other meets. first.same other (last.same other meets) }

-- *What all rests on*: a row that clashes with one of another key at an earlier moment was touched in between.
pub was_touched : {K R M : Type 0} (timeline : Timeline K R M) (end : ℕ) → IsTimeline timeline end → (key other : K) (row met : R) (early late : ℕ) → early ≤ late → late ≤ end → Untouched timeline early late key → timeline.row_at late key ≡ Some row → timeline.row_at early other ≡ Some met
    → timeline.rows_clash row met ≡ true → key ≡ other
was_touched timeline end is key other row met early late before within quiet stands beside meets =
    let same : early + (late - early) ≡ late = omega arith in
    let was : RowBefore timeline early key row = back timeline end is key row early (late - early) (omega arith) (λ i from to. quiet i from (omega arith)) (subst (λ i. timeline.row_at i key ≡ Some row) (sym same) stands) in
    is.apart early key other was.before met (omega arith) was.stands beside (was.same met meets)

-- a ghost row that comes from a key which the event leaves comes from behind the event too
later_by : {K R M : Type 0} (timeline : Timeline K R M) (position end : ℕ) (key : K) (made : M) (comes : ConvertedRowFrom timeline position end key made) (steps : ℕ) → comes.moment ≡ position + steps → position < end → timeline.row_at (position + 1) key ≡ timeline.row_at position key
    → ConvertedRowFrom timeline (position + 1) end key made
later_by timeline position end key made comes zero is more left =
    let here : comes.moment ≡ position = omega arith in
    record { moment = position + 1; row = comes.row; from = omega arith; to = omega arith; stands = left ∙ subst (λ i. timeline.row_at i key ≡ Some comes.row) here comes.stands; imaged = comes.imaged }
later_by timeline position end key made comes (suc steps) is more left =
    record { moment = comes.moment; row = comes.row; from = omega arith; to = comes.to; stands = comes.stands; imaged = comes.imaged }

pub later : {K R M : Type 0} (timeline : Timeline K R M) (position end : ℕ) (key : K) (made : M) → ConvertedRowFrom timeline position end key made → position < end → timeline.row_at (position + 1) key ≡ timeline.row_at position key → ConvertedRowFrom timeline (position + 1) end key made
later timeline position end key made comes more left = later_by timeline position end key made comes (comes.moment - position) (let from = comes.from in omega (arith, from)) more left

-- A row that is displaced has an event of its own behind.
pub displaced_later : {K R M : Type 0} (timeline : Timeline K R M) (end : ℕ) → IsTimeline timeline end → (position : ℕ) (key other : K) (made new : M) (row : R) → position < end → ConvertedRowFrom timeline position end key made → timeline.row_at (position + 1) key ≡ timeline.row_at position key
    → timeline.row_at (position + 1) other ≡ Some row → timeline.converted_row row ≡ Some new → timeline.converted_rows_clash made new ≡ true → Untouched timeline (position + 1) end key → key ≡ other
displaced_later timeline end is position key other made new row more comes left stands imaged clashes quiet =
    let from : ConvertedRowFrom timeline (position + 1) end key made = later timeline position end key made comes more left in
    was_touched timeline end is key other from.row row (position + 1) from.moment from.from from.to (λ i low high. quiet i low (let to = from.to in omega (arith, to))) from.stands stands
    (is.clashes from.moment (position + 1) key other from.row row made new from.to (omega arith) from.stands stands from.imaged imaged clashes)

-- the event before them doesn't touch the key either
quiet_before : {K R M : Type 0} (timeline : Timeline K R M) (position end : ℕ) (key : K) → timeline.touches position key ≡ false → Untouched timeline (position + 1) end key → (i steps : ℕ) → i ≡ position + steps → i < end → timeline.touches i key ≡ false
quiet_before timeline position end key first others i zero is less = subst (λ j. timeline.touches j key ≡ false) (let here : position ≡ i = omega arith in here) first
quiet_before timeline position end key first others i (suc steps) is less = others i (omega arith) less

pub quiet_more : {K R M : Type 0} (timeline : Timeline K R M) (position end : ℕ) (key : K) → timeline.touches position key ≡ false → Untouched timeline (position + 1) end key → Untouched timeline position end key
quiet_more timeline position end key first others i from to = quiet_before timeline position end key first others i (i - position) (omega arith) to

applied_comes : {K R M : Type 0} (timeline : Timeline K R M) (end position : ℕ) (done half : K → Bool) (ghost_at after : K → Option M) → position < end → ViewFollows timeline (except done half) position end ghost_at
    → (key : K) (made : M) → AppliedAt timeline half position ghost_at after key → after key ≡ Some made → ConvertedRowFrom timeline (position + 1) end key made
applied_comes timeline end position done half ghost_at after more ghost key made (kept whole quiet left same) is = later timeline position end key made (ghost.comes key made (sym same ∙ is)) more left
applied_comes timeline end position done half ghost_at after more ghost key made (displaced was new row other differs left there stands imaged clashes gone) is = absurd (none_some (after key) made gone is)
applied_comes timeline end position done half ghost_at after more ghost key made (written row new stands imaged now) is =
    record { moment = position + 1; row = row; from = omega arith; to = omega arith; stands = stands; imaged = imaged ∙ sym now ∙ is }
applied_comes timeline end position done half ghost_at after more ghost key made (removed none gone) is = absurd (none_some (after key) made gone is)
applied_comes timeline end position done half ghost_at after more ghost key made (missed whole quiet none gone) is = absurd (none_some (after key) made gone is)

applied_stands : {K R M : Type 0} (timeline : Timeline K R M) (end : ℕ) → IsTimeline timeline end → (position : ℕ) (done half : K → Bool) (ghost_at after : K → Option M) → position < end → ViewFollows timeline (except done half) position end ghost_at
    → (key : K) (row : R) → AppliedAt timeline half position ghost_at after key → done key ≡ true → Untouched timeline (position + 1) end key → timeline.row_at end key ≡ Some row → (made : M) × (after key ≡ Some made)
applied_stands timeline end is position done half ghost_at after more ghost key row (kept whole quiet left same) is_done others stands =
    let was = ghost.stands key row (both_hold (done key) (half key) is_done whole) (quiet_more timeline position end key quiet others) stands in
    (was.0, same ∙ was.1)
applied_stands timeline end is position done half ghost_at after more ghost key row (displaced was new beside other differs left there standing imaged clashes gone) is_done others stands =
    absurd (differs (sym (displaced_later timeline end is position key other was new beside more (ghost.comes key was there) left standing imaged clashes others)))
applied_stands timeline end is position done half ghost_at after more ghost key row (written new made standing imaged now) is_done others stands = (made, now)
applied_stands timeline end is position done half ghost_at after more ghost key row (removed none gone) is_done others stands =
    let was : RowBefore timeline (position + 1) key row = back timeline end is key row (position + 1) (end - (position + 1)) (omega arith) (λ i low high. others i low (omega arith)) (subst (λ i. timeline.row_at i key ≡ Some row) (omega arith) stands) in
    absurd (none_some (timeline.row_at (position + 1) key) was.before none was.stands)
applied_stands timeline end is position done half ghost_at after more ghost key row (missed whole quiet none gone) is_done others stands =
    let was = ghost.stands key row (both_hold (done key) (half key) is_done whole) (quiet_more timeline position end key quiet others) stands in
    absurd (none_some (ghost_at key) was.0 none was.1)

-- *An event is applied*: the relation holds behind it.
pub applied : {K R M : Type 0} (timeline : Timeline K R M) (end : ℕ) → IsTimeline timeline end → (position : ℕ) (done half : K → Bool) (ghost_at after : K → Option M) → position < end → ViewFollows timeline (except done half) position end ghost_at
    → ((key : K) → AppliedAt timeline half position ghost_at after key) → ViewFollows timeline done (position + 1) end after
applied timeline end is position done half ghost_at after more ghost each =
    record {
      comes = λ key made now. applied_comes timeline end position done half ghost_at after more ghost key made (each key) now;
      stands = λ key row is_done quiet now. applied_stands timeline end is position done half ghost_at after more ghost key row (each key) is_done quiet now;
    }
