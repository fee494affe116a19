-- The cause that a run's verdict names can be printed, where the values in it can.
use Rattle.std.proofs.Common.{◌≡◌, ◌≤◌, ◌<◌, ℕ, ◌-◌, ◌^◌, List, [], ◌∷◌, length, sym, subst, arith, refl}
use Rattle.std.specs.List.{AllByRecursion}
use Rattle.std.proofs.lemmas.Option.{slice_get_within}
use Rattle.base_values.specs.declared.unfit.Unfit.{Unfit}
use Rattle.base_values.specs.declared.unfit.Unfit.TheVariants as unfits
use Rattle.base_values.specs.StoredValues.{error_number}
use Rattle.server_model.specs.declared.entry.Entry.{Entry}
use Rattle.server_model.specs.declared.outcome.Cause.{Cause}
use Rattle.server_model.specs.declared.outcome.Cause.TheVariants as causes
use Rattle.server_model.specs.declared.outcome.Task.{Task}
use Rattle.server_model.specs.declared.outcome.Verdict.{Verdict}
use Rattle.server_model.specs.declared.outcome.Verdict.TheVariants.{Done, Reverted, Unfinished}
use Rattle.plan_data.specs.PlanData.{PlanData}
use Rattle.tool_program.specs.Failures.{IsFailedTry, IsTurn, Stands}
use Rattle.tool_program.specs.Tools.{Moment}
use Rattle.law_texts.specs.PrintedTraces.{CanPrintCause, CanPrintVerdict}
use Rattle.law_traces.specs.Printed.{HasPlainCause, HasPlainVerdict}

-- a turn of the journal
turn_fits : (plan : PlanData) (journal : List Entry) (turn : ℕ) (entry : Entry) (before : Moment) → length journal < 2 ^ 64 → IsTurn plan journal turn entry before → turn < 2 ^ 64
turn_fits plan journal turn entry before few is =
    let within : turn - 1 < length journal = slice_get_within journal (turn - 1) entry is.stands in
    let some : 0 < turn = is.from_one in
    omega (arith, few, within, some)

pub number_fits : (unfit : Unfit) → error_number unfit < 2 ^ 16
number_fits unfits.Null = omega arith
number_fits unfits.Range = omega arith
number_fits unfits.Length = omega arith
number_fits unfits.Kind = omega arith

tries_fit : (plan : PlanData) (journal : List Entry) (task : Task) (turns : List ℕ) → length journal < 2 ^ 64 → AllByRecursion (IsFailedTry plan journal task) turns → AllByRecursion (λ turn. turn < 2 ^ 64) turns
tries_fit plan journal task [] few tries = tt
tries_fit plan journal task (turn ∷ turns) few tries = (turn_fits plan journal turn tries.0.entry tries.0.before few tries.0.is, tries_fit plan journal task turns few tries.1)

cause_prints : (plan : PlanData) (journal : List Entry) (cause : Cause) → length journal < 2 ^ 64 → 1 ≤ plan.options.default_retries → HasPlainCause cause → Stands plan journal cause → CanPrintCause cause
unfolding Stands
cause_prints plan journal (causes.Unfit turn key column number) few tries plain stands =
    (turn_fits plan journal turn stands.entry stands.before few stands.is, plain, subst (λ (n : ℕ). n < 2 ^ 16) stands.numbered (number_fits stands.unfit))
cause_prints plan journal (causes.Spent task turns) few tries plain stands =
    (plain, subst (λ (n : ℕ). 0 < n) (sym stands.all) (omega (arith, tries)), tries_fit plan journal task turns few stands.each)
cause_prints plan journal (causes.Panic turn) few tries plain stands = turn_fits plan journal turn stands.entry stands.before few stands.is

pub verdict_prints : (plan : PlanData) (journal : List Entry) (verdict : Verdict) → length journal < 2 ^ 64 → 1 ≤ plan.options.default_retries → HasPlainVerdict verdict → ((cause : Cause) → verdict ≡ Reverted cause → Stands plan journal cause) → CanPrintVerdict verdict
verdict_prints plan journal Done few tries plain stands = tt
verdict_prints plan journal Unfinished few tries plain stands = tt
verdict_prints plan journal (Reverted cause) few tries plain stands = cause_prints plan journal cause few tries plain (stands cause refl)
