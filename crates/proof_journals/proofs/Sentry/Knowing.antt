-- What the applier knows of the log, through each of its answers.
use Rattle.std.proofs.Common.{◌≡◌, ◌+◌, ℕ, nat_eq, Bool, true, false, cond, List, take, refl, ap, ◌∙◌}
use Rattle.base_values.specs.declared.event.RowEvent.{RowEvent}
use Rattle.base_values.specs.declared.mysql_errors.TheConstants.{ER_DUP_ENTRY}
use Rattle.server_model.specs.declared.answer.Answer.TheVariants as answers
use Rattle.proof_journals.proofs.Sentry.Draining.{IsRead, hint_read, StepKnows, Knows}
use Rattle.server_model.specs.declared.answer.Answer.{Answer}
use Rattle.tool_changelog.specs.Hints.{last_hint}
use Rattle.tool_program.specs.declared.event_applier.applier.Applier.{Applier}
use Rattle.tool_program.specs.declared.event_applier.applier.ApplyStep.{ApplyStep}
use Rattle.tool_program.specs.declared.event_applier.applier.ApplyStep.TheVariants.{Reading, Beginning, Applying, Committing}
use Rattle.tool_program.specs.declared.event_applier.applier.Part.{Part}
use Rattle.tool_program.specs.declared.event_applier.applier.Part.TheVariants.{Whole, Removal, Return}
use Rattle.tool_program.specs.EventApplier.Appliers.{took, moved, batch_of, after_answer, after_part}

-- the answer to the applier's reading is what the log has
abbrev pub Reads : List ℕ → List RowEvent → Applier → Answer → Type 0
Reads t log applier (answers.Events events next) = IsRead t log applier.position events next
Reads t log applier answer = Unit {0}

after_knows : (t : List ℕ) (log : List RowEvent) (turn : ℕ) (applier : Applier) (step : ApplyStep) (answer : Answer) → applier.table ≡ t → Knows t log applier → StepKnows t log step → applier.step ≡ step → Reads t log applier answer → Knows t log (after_answer turn applier step answer)
after_knows t log turn applier Reading (answers.Events events next) is_t knows at is reads =
    by (nat_eq (batch_of turn applier events next).statements 0)
  where
    hint : last_hint applier.table applier.hint events ≡ last_hint t 0 (take next log)
    hint = ap (λ name. last_hint name applier.hint events) is_t ∙ hint_read t log applier.position next applier.hint events knows.hint reads

    by : (b : Bool) → Knows t log (cond b (moved applier (batch_of turn applier events next)) (record applier { step = Beginning (batch_of turn applier events next) }))
    by true = record { within = reads.within; hint = hint; step = tt }
    by false = record { within = knows.within; hint = knows.hint; step = (reads.within, hint) }
after_knows t log turn applier Reading answer is_t knows at is reads = knows
after_knows t log turn applier (Beginning batch) (answers.Ok count) is_t knows at is reads = record { within = knows.within; hint = knows.hint; step = at }
after_knows t log turn applier (Beginning batch) answer is_t knows at is reads = knows
after_knows t log turn applier (Applying batch done part) (answers.Ok count) is_t knows at is reads = by part
  where
    statements : (n : ℕ) (b : Bool) → Knows t log (record applier { step = cond b (Committing batch) (Applying batch n Whole) })
    statements n true = record { within = knows.within; hint = knows.hint; step = at }
    statements n false = record { within = knows.within; hint = knows.hint; step = at }

    by : (part : Part) → Knows t log (record applier { step = after_part batch done part })
    by Removal = record { within = knows.within; hint = knows.hint; step = at }
    by Whole = statements (done + 1) (nat_eq (done + 1) batch.statements)
    by Return = statements (done + 1) (nat_eq (done + 1) batch.statements)
after_knows t log turn applier (Applying batch done part) (answers.Refused number column) is_t knows at is reads = by (nat_eq number ER_DUP_ENTRY)
  where
    by : (b : Bool) → Knows t log (record applier { step = cond b (Applying batch done Removal) (Applying batch done part) })
    by true = record { within = knows.within; hint = knows.hint; step = at }
    by false = record { within = knows.within; hint = knows.hint; step = at }
after_knows t log turn applier (Applying batch done part) answer is_t knows at is reads = knows
after_knows t log turn applier (Committing batch) (answers.Ok count) is_t knows at is reads = record { within = at.0; hint = at.1; step = tt }
after_knows t log turn applier (Committing batch) answer is_t knows at is reads = knows

-- each answer keeps what the applier knows
pub knows_took : (t : List ℕ) (log : List RowEvent) (turn : ℕ) (applier : Applier) (answer : Answer) → applier.table ≡ t → Knows t log applier → Reads t log applier answer → Knows t log (took turn applier answer)
unfolding took
knows_took t log turn applier answers.Lost is_t knows reads = record { within = knows.within; hint = knows.hint; step = tt }
knows_took t log turn applier (answers.TimedOut waited) is_t knows reads = record { within = knows.within; hint = knows.hint; step = tt }
knows_took t log turn applier answer is_t knows reads = after_knows t log turn applier applier.step answer is_t knows knows.step refl reads
