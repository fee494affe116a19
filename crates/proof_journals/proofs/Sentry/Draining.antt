-- The applier's turns: what it knows of the hint row, and that nothing opens a batch once all is applied.
use Rattle.std.proofs.Common.{◌≡◌, ℕ, ◌-◌, ◌≤◌, Bool, true, false, nat_eq, ◌||◌, cond, List, [], ◌∷◌, ◌++◌, length, take, drop, filter, refl, sym, ap, ◌∙◌, subst, arith, inl, inr}
use Rattle.std.specs.Prelude.{◌⊎◌}
use Rattle.std.proofs.lemmas.List.{take-append-le, drop-drop, length-append}
use Rattle.std.proofs.lemmas.List.Sums.{fold-append}
use Rattle.std.proofs.Math.Nat.{add-sub_of_le}
use Rattle.std.specs.Str.{bytes_eq}
use Rattle.base_values.specs.declared.event.RowEvent.{RowEvent}
use Rattle.server_model.specs.declared.answer.Answer.TheVariants as answers
use Rattle.proof_journals.specs.Sentry.Sentries.{IsDrained, KnowsHint}
use Rattle.proof_journals.proofs.Sentry.Guarding.{none_after}
use Rattle.server_model.specs.declared.answer.Answer.{Answer}
use Rattle.base_values.specs.ToolNames.{log_name}
use Rattle.tool_changelog.specs.Hints.{last_hint, hint_in}
use Rattle.tool_program.specs.declared.chunk_copier.copier.Copier.{Copier}
use Rattle.tool_program.specs.declared.event_applier.applier.Applier.{Applier}
use Rattle.tool_program.specs.declared.event_applier.applier.ApplyStep.{ApplyStep}
use Rattle.tool_program.specs.declared.event_applier.applier.ApplyStep.TheVariants.{Reading, Beginning, Applying, Committing}
use Rattle.tool_program.specs.declared.event_applier.applier.Batch.{Batch}
use Rattle.tool_program.specs.EventApplier.Appliers.{events_of, planned, took, starts, moved, read_batch, batch_of, after_answer}

-- WHAT THE APPLIER READS

-- the events of the table or of the changelog
abbrev pub on_both : List ℕ → RowEvent → Bool
on_both t event = bytes_eq event.table t || bytes_eq event.table (log_name t)

-- the answer to the applier's reading from a position: the events of both tables up to the next position
pub record IsRead (t : List ℕ) (log : List RowEvent) (position : ℕ) (events : List RowEvent) (next : ℕ) : Type 0 where
  pub forward : position ≤ next
  pub within : next ≤ length log
  pub part : List RowEvent
  pub joins : take next log ≡ take position log ++ part
  pub read : events ≡ filter (on_both t) part

-- events of other tables hold no hint
hint_of_both : (t : List ℕ) (last : ℕ) (events : List RowEvent) → last_hint t last (filter (on_both t) events) ≡ last_hint t last events
hint_of_both t last [] = refl
hint_of_both t last (event ∷ events) = by (bytes_eq event.table t) (bytes_eq event.table (log_name t)) refl refl (λ next. hint_of_both t next events)
  where
    by : (a b : Bool) → bytes_eq event.table t ≡ a → bytes_eq event.table (log_name t) ≡ b → ((next : ℕ) → last_hint t next (filter (on_both t) events) ≡ last_hint t next events) → last_hint t last (filter (on_both t) (event ∷ events)) ≡ last_hint t last (event ∷ events)
    by true true e f again = simp (e, f) (again (hint_in last event.change))
    by true false e f again = simp (e, f) (again last)
    by false true e f again = simp (e, f) (again (hint_in last event.change))
    by false false e f again = simp (e, f) (again last)

-- the hint that the batch brings is the last one up to the next position
pub hint_read : (t : List ℕ) (log : List RowEvent) (position next hint : ℕ) (events : List RowEvent) → hint ≡ last_hint t 0 (take position log) → IsRead t log position events next → last_hint t hint events ≡ last_hint t 0 (take next log)
hint_read t log position next hint events known is =
    ap (last_hint t hint) is.read
    ∙ hint_of_both t hint is.part
    ∙ ap (λ start. last_hint t start is.part) known
    ∙ sym (fold-append (λ old event. if_log t event old) 0 (take position log) is.part)
    ∙ ap (last_hint t 0) (sym is.joins)
  where
    if_log : List ℕ → RowEvent → ℕ → ℕ
    if_log t event old = cond (bytes_eq event.table (log_name t)) (hint_in old event.change) old

-- WHAT IT KNOWS

-- of the batch that is open: its hint and its next position
abbrev pub BatchKnows : List ℕ → List RowEvent → Batch → Type 0
BatchKnows t log batch = (batch.next ≤ length log) × (batch.hint ≡ last_hint t 0 (take batch.next log))

abbrev pub StepKnows : List ℕ → List RowEvent → ApplyStep → Type 0
StepKnows t log Reading = Unit {0}
StepKnows t log (Beginning batch) = BatchKnows t log batch
StepKnows t log (Applying batch done part) = BatchKnows t log batch
StepKnows t log (Committing batch) = BatchKnows t log batch

pub record Knows (t : List ℕ) (log : List RowEvent) (applier : Applier) : Type 0 where
  pub within : applier.position ≤ length log
  pub hint : KnowsHint t log applier
  pub step : StepKnows t log applier.step

-- the log grows
batch_later : (t : List ℕ) (log events : List RowEvent) (batch : Batch) → BatchKnows t log batch → BatchKnows t (log ++ events) batch
batch_later t log events batch knows = (omega (arith, knows.0, length-append log events), knows.1 ∙ ap (last_hint t 0) (sym (take-append-le batch.next log events knows.0)))

pub knows_later : (t : List ℕ) (log events : List RowEvent) (applier : Applier) → Knows t log applier → Knows t (log ++ events) applier
knows_later t log events applier knows =
    record {
      within = omega (arith, knows.within, length-append log events);
      hint = knows.hint ∙ ap (last_hint t 0) (sym (take-append-le applier.position log events knows.within));
      step = by applier.step knows.step;
    }
  where
    by : (step : ApplyStep) → StepKnows t log step → StepKnows t (log ++ events) step
    by Reading k = tt
    by (Beginning batch) k = batch_later t log events batch k
    by (Applying batch done part) k = batch_later t log events batch k
    by (Committing batch) k = batch_later t log events batch k

-- ALL IS APPLIED AND STAYS SO

plans_nothing : (applier : Applier) (events : List RowEvent) → events_of applier.table events ≡ [] → length (planned applier events) ≡ 0
unfolding planned
plans_nothing applier events none = rw none refl

-- where nothing of the table is unread, the applier's reading opens no batch
pub reads_nothing : (t : List ℕ) (log : List RowEvent) (copier : Copier) (applier : Applier) (turn next : ℕ) (events : List RowEvent) → applier.table ≡ t → applier.step ≡ Reading → events_of t events ≡ [] → applier.position ≤ next → next ≤ length log
    → IsDrained t log copier applier → IsDrained t log copier (took turn applier (answers.Events events next))
unfolding took
reads_nothing t log copier applier turn next events is_t step none forward within drained =
    let read : Applier = read_batch applier (batch_of turn applier events next) in
    let is : took turn applier (answers.Events events next) ≡ read = ap (λ at. after_answer turn applier at (answers.Events events next)) step in
    let planned_none : length (planned applier events) ≡ 0 = plans_nothing applier events (subst (λ name. events_of name events ≡ []) (sym is_t) none) in
    subst (IsDrained t log copier) (sym is) (rw planned_none (record {
      copied = drained.copied;
      applied = ap (events_of t) (ap (λ count. drop count log) (sym (add-sub_of_le forward)) ∙ sym (drop-drop (next - applier.position) applier.position log)) ∙ none_after t (next - applier.position) (drop applier.position log) drained.applied;
      within = within;
      idle = refl;
    }))

-- the hint changes only where the position moves: then no batch is open
after_hint : (turn : ℕ) (applier : Applier) (step : ApplyStep) (answer : Answer) → ((after_answer turn applier step answer).hint ≡ applier.hint) ⊎ (starts (after_answer turn applier step answer) ≡ true)
after_hint turn applier Reading (answers.Events events next) = read (nat_eq (batch_of turn applier events next).statements 0)
  where
    read : (b : Bool) → ((cond b (moved applier (batch_of turn applier events next)) (record applier { step = Beginning (batch_of turn applier events next) })).hint ≡ applier.hint)
        ⊎ (starts (cond b (moved applier (batch_of turn applier events next)) (record applier { step = Beginning (batch_of turn applier events next) })) ≡ true)
    read true = inr refl
    read false = inl refl
after_hint turn applier Reading answer = inl refl
after_hint turn applier (Beginning batch) (answers.Ok count) = inl refl
after_hint turn applier (Beginning batch) answer = inl refl
after_hint turn applier (Applying batch done part) (answers.Ok count) = inl refl
after_hint turn applier (Applying batch done part) (answers.Refused number column) = inl refl
after_hint turn applier (Applying batch done part) answer = inl refl
after_hint turn applier (Committing batch) (answers.Ok count) = inr refl
after_hint turn applier (Committing batch) answer = inl refl

pub hint_moves : (turn : ℕ) (applier : Applier) (answer : Answer) → ((took turn applier answer).hint ≡ applier.hint) ⊎ (starts (took turn applier answer) ≡ true)
unfolding took
hint_moves turn applier answers.Lost = inl refl
hint_moves turn applier (answers.TimedOut waited) = inl refl
hint_moves turn applier answer = after_hint turn applier applier.step answer
