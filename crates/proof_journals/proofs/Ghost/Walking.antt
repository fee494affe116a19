-- The walk over the log: from the place that is reached to the next event of the table, and to a batch's end.
use Rattle.std.proofs.Common.{◌≡◌, ℕ, zero, suc, ◌+◌, ◌<◌, ◌≤◌, Bool, true, false, List, [], ◌∷◌, ◌++◌, length, cond, Option, Some, None, refl, sym, ap, ◌∙◌, subst, arith, ◌⊎◌}
use Rattle.std.specs.List.{slice_get}
use Rattle.std.specs.Str.{bytes_eq}
use Rattle.base_values.specs.declared.event.RowEvent.{RowEvent}
use Rattle.base_values.specs.declared.event.Change.{Change}
use Rattle.proof_journals.proofs.Ghost.Ending.{walk_joins}
use Rattle.proof_journals.proofs.Ghost.Joining.{table_exists}
use Rattle.proof_journals.proofs.Ghost.Saying.{step_keeps}
use Rattle.proof_journals.specs.Ghost.Doings.{changes_in, own_change, NextDue, OthersOnly, planned}
use Rattle.proof_journals.specs.Ghost.Invariant.{GhostInvariant}
use Rattle.proof_journals.specs.Ghost.Relation.Views.{Progress}
use Rattle.proof_journals.proofs.Ghost.Rows.TimelineLaws.{step}
use Rattle.proof_journals.specs.Ghost.Rows.Moments.{Row}
use Rattle.proof_journals.specs.Ghost.Rows.Timelines.{EventAt, IsDue, IsPlanned, Migration, kept}
use Rattle.proof_journals.specs.Ghost.Rows.Views.{GhostRows}
use Rattle.proof_journals.specs.Scenes.{SessionHold, Stored}

-- one place more
only_more : (name : List ℕ) (log : List RowEvent) (from steps : ℕ) → ((event : RowEvent) → slice_get log from ≡ Some event → bytes_eq event.table name ≡ false) → OthersOnly name log (from + 1) steps → OthersOnly name log from (suc steps)
only_more name log from steps here rest i event low high there = two (Rattle.std.proofs.Common.nat_eq i from) refl where
  two : (b : Bool) → Rattle.std.proofs.Common.nat_eq i from ≡ b → bytes_eq event.table name ≡ false
  two true same = let one : i ≡ from = grind (arith, Rattle.std.proofs.lemmas.Bool.Decides.nat_tests) in here event (subst (λ (n : ℕ). slice_get log n ≡ Some event) one there)
  two false apart = let differs : from + 1 ≤ i = grind (arith, Rattle.std.proofs.lemmas.Bool.Decides.nat_tests) in rest i event differs (omega (arith, high)) there

-- no event of the table
none_by : (name : List ℕ) (log : List RowEvent) (from steps : ℕ) (found : Option RowEvent) → slice_get log from ≡ found → own_change name found ++ changes_in name log (from + 1) steps ≡ [] → (changes_in name log (from + 1) steps ≡ [] → OthersOnly name log (from + 1) steps) → OthersOnly name log from (suc steps)
none_by name log from steps None there none rest = only_more name log from steps (λ event is. absurd (let no : None ≡ Some event = sym there ∙ is in cc)) (rest none)
none_by name log from steps (Some event) there none rest = two (bytes_eq event.table name) refl none where
  two : (b : Bool) → bytes_eq event.table name ≡ b → cond b (event.change ∷ []) [] ++ changes_in name log (from + 1) steps ≡ [] → OthersOnly name log from (suc steps)
  two true named some = absurd cc
  two false other none' = only_more name log from steps (λ e is. let one : event ≡ e = (let both : Some event ≡ Some e = sym there ∙ is in cc) in subst (λ (x : RowEvent). bytes_eq x.table name ≡ false) one other) (rest none')

pub none_due : (name : List ℕ) (log : List RowEvent) (from steps : ℕ) → changes_in name log from steps ≡ [] → OthersOnly name log from steps
unfolding changes_in
none_due name log from zero none = λ i event low high there. absurd (omega (arith, low, high))
none_due name log from (suc steps) none = none_by name log from steps (slice_get log from) refl none (none_due name log (from + 1) steps)

-- the next event of the table
due_later : (name : List ℕ) (log : List RowEvent) (from steps : ℕ) (change : Change) (rest : List Change) → ((event : RowEvent) → slice_get log from ≡ Some event → bytes_eq event.table name ≡ false) → NextDue name log (from + 1) steps change rest → NextDue name log from (suc steps) change rest
due_later name log from steps change rest here due =
    let sum : due.others + 1 + due.left ≡ steps = due.sum in
    let place : (from + 1) + due.others ≡ from + (due.others + 1) = omega arith in
    record {
      others = due.others + 1;
      left = due.left;
      sum = omega (arith, sum);
      only = λ i event low high there. only_more name log from due.others here due.only i event low (omega (arith, high)) there;
      event = due.event;
      there = ap (slice_get log) (sym place) ∙ due.there;
      named = due.named;
      is = due.is;
      following = due.following ∙ ap (λ (n : ℕ). changes_in name log (n + 1) due.left) place;
    }

due_now : (name : List ℕ) (log : List RowEvent) (from steps : ℕ) (event : RowEvent) → slice_get log from ≡ Some event → bytes_eq event.table name ≡ true → NextDue name log from (suc steps) event.change (changes_in name log (from + 1) steps)
due_now name log from steps event there named =
    let zero_more : from + 0 ≡ from = omega arith in
    record {
      others = 0;
      left = steps;
      sum = omega arith;
      only = λ i e low high is. absurd (omega (arith, low, high));
      event = event;
      there = ap (slice_get log) zero_more ∙ there;
      named = named;
      is = refl;
      following = ap (λ (n : ℕ). changes_in name log (n + 1) steps) (sym zero_more);
    }

due_by : (name : List ℕ) (log : List RowEvent) (from steps : ℕ) (change : Change) (rest : List Change) (found : Option RowEvent) → slice_get log from ≡ found → own_change name found ++ changes_in name log (from + 1) steps ≡ change ∷ rest
    → (changes_in name log (from + 1) steps ≡ change ∷ rest → NextDue name log (from + 1) steps change rest) → NextDue name log from (suc steps) change rest
due_by name log from steps change rest None there some next = due_later name log from steps change rest (λ event is. absurd (let no : None ≡ Some event = sym there ∙ is in cc)) (next some)
due_by name log from steps change rest (Some event) there some next = two (bytes_eq event.table name) refl some where
  two : (b : Bool) → bytes_eq event.table name ≡ b → cond b (event.change ∷ []) [] ++ changes_in name log (from + 1) steps ≡ change ∷ rest → NextDue name log from (suc steps) change rest
  two true named is =
      let first : event.change ≡ change = cc in
      let others : changes_in name log (from + 1) steps ≡ rest = cc in
      subst (λ (r : List Change). NextDue name log from (suc steps) change r) others (subst (λ (c : Change). NextDue name log from (suc steps) c (changes_in name log (from + 1) steps)) first (due_now name log from steps event there named))
  two false other is = due_later name log from steps change rest (λ e found. let one : event ≡ e = (let both : Some event ≡ Some e = sym there ∙ found in cc) in subst (λ (x : RowEvent). bytes_eq x.table name ≡ false) one other) (next is)

pub next_due : (name : List ℕ) (log : List RowEvent) (from steps : ℕ) (change : Change) (rest : List Change) → changes_in name log from steps ≡ change ∷ rest → NextDue name log from steps change rest
unfolding changes_in
next_due name log from zero change rest is = absurd cc
next_due name log from (suc steps) change rest is = due_by name log from steps change rest (slice_get log from) refl is (next_due name log (from + 1) steps change rest)

-- more that is logged changes nothing there
pub get_front : {X : Type 0} (a b : List X) (i : ℕ) → i < length a → slice_get (a ++ b) i ≡ slice_get a i
get_front [] b i within = absurd (omega (arith, within))
get_front (x ∷ a) b zero within = refl
get_front (x ∷ a) b (suc i) within = get_front a b i (omega (arith, within))

pub changes_front : (name : List ℕ) (log more : List RowEvent) (from steps : ℕ) → from + steps ≤ length log → changes_in name (log ++ more) from steps ≡ changes_in name log from steps
unfolding changes_in
changes_front name log more from zero within = refl
changes_front name log more from (suc steps) within =
    rw (get_front log more from (omega (arith, within)), changes_front name log more (from + 1) steps (omega (arith, within))) refl

-- ---- the event that is due

pub is_due : (m : Migration) (rows : List Row) (done half : Row → Bool) (taken : List Row) (progress : Progress Row) (ghost : GhostRows) (copier applier : ℕ) (now : Stored) (hold : ℕ → SessionHold) (i : ℕ) (event : RowEvent) (change : Change) → IsPlanned m rows → GhostInvariant m rows done half taken progress ghost copier applier now hold
    → i < progress.end → slice_get now.log i ≡ Some event → bytes_eq event.table m.name ≡ true → event.change ≡ change → IsDue m rows now.log i change
is_due m rows done half taken progress ghost copier applier now hold i event change planned kept less there named is =
    let end : progress.end ≡ length now.log = kept.joined.under_way.end in
    let one : EventAt m.name m.schema rows now.log i = step m.name m.schema now.log rows i (omega (arith, less, end)) kept.joined.under_way.log_fits in
    let same : event ≡ one.event = (let both : Some event ≡ Some one.event = sym there ∙ one.there in cc) in
    record {
      step = one;
      named = subst (λ (e : RowEvent). bytes_eq e.table m.name ≡ true) same named;
      is = subst (λ (e : RowEvent). e.change ≡ change) same is;
      table = table_exists m rows now.log done half progress ghost i planned kept.joined.under_way;
    }

-- what the next event of the table gives: the invariant at its place, and that it is due there
pub record Comes (m : Migration) (rows : List Row) (done : Row → Bool) (taken : List Row) (progress : Progress Row) (ghost : GhostRows) (copier applier : ℕ) (now : Stored) (hold : ℕ → SessionHold) (steps : ℕ) (change : Change) (rest : List Change) : Type 0 where
  pub place : ℕ
  pub left : ℕ
  pub kept : GhostInvariant m rows done (λ _. false) taken (record progress { reached = place }) ghost copier applier now hold
  pub less : place < progress.end
  pub sum : place + 1 + left ≡ progress.reached + steps
  pub event : RowEvent
  pub there : slice_get now.log place ≡ Some event
  pub named : bytes_eq event.table m.name ≡ true
  pub is : event.change ≡ change
  pub due : IsDue m rows now.log place change
  pub following : rest ≡ changes_in m.name now.log (place + 1) left
  pub from : progress.reached ≤ place

-- *The walk to the next event of the table*
pub walks : (m : Migration) (rows : List Row) (done : Row → Bool) (taken : List Row) (progress : Progress Row) (ghost : GhostRows) (copier applier : ℕ) (now : Stored) (hold : ℕ → SessionHold) (steps : ℕ) (change : Change) (rest : List Change) → IsPlanned m rows
    → GhostInvariant m rows done (λ _. false) taken progress ghost copier applier now hold → progress.reached + steps ≤ progress.end → changes_in m.name now.log progress.reached steps ≡ change ∷ rest → Comes m rows done taken progress ghost copier applier now hold steps change rest
walks m rows done taken progress ghost copier applier now hold steps change rest planned kept within is =
    let next : NextDue m.name now.log progress.reached steps change rest = next_due m.name now.log progress.reached steps change rest is in
    let sum : next.others + 1 + next.left ≡ steps = next.sum in
    let there : GhostInvariant m rows done (λ _. false) taken (record progress { reached = progress.reached + next.others }) ghost copier applier now hold =
    step_keeps m rows done (λ _. false) done (λ _. false) taken progress (record progress { reached = progress.reached + next.others }) ghost copier applier now hold kept
    (walk_joins m rows now.log done (hold applier).locks (hold copier).locks taken progress ghost next.others planned (omega (arith, within, sum)) next.only kept.joined) in
    record {
      place = progress.reached + next.others;
      left = next.left;
      kept = there;
      less = omega (arith, within, sum);
      sum = omega (arith, sum);
      event = next.event;
      there = next.there;
      named = next.named;
      is = next.is;
      due = is_due m rows done (λ _. false) taken progress ghost copier applier now hold (progress.reached + next.others) next.event change planned kept (omega (arith, within, sum)) next.there next.named next.is;
      following = next.following;
      from = omega arith;
    }

-- *The walk to the batch's end*, where no event of the table is left
pub walks_out : (m : Migration) (rows : List Row) (done : Row → Bool) (taken : List Row) (progress : Progress Row) (ghost : GhostRows) (copier applier : ℕ) (now : Stored) (hold : ℕ → SessionHold) (steps : ℕ) → IsPlanned m rows
    → GhostInvariant m rows done (λ _. false) taken progress ghost copier applier now hold → progress.reached + steps ≤ progress.end → changes_in m.name now.log progress.reached steps ≡ []
    → GhostInvariant m rows done (λ _. false) taken (record progress { reached = progress.reached + steps }) ghost copier applier now hold
walks_out m rows done taken progress ghost copier applier now hold steps planned kept within none =
    step_keeps m rows done (λ _. false) done (λ _. false) taken progress (record progress { reached = progress.reached + steps }) ghost copier applier now hold kept
    (walk_joins m rows now.log done (hold applier).locks (hold copier).locks taken progress ghost steps planned within (none_due m.name now.log progress.reached steps none) kept.joined)
