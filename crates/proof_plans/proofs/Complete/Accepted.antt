-- Runs of accepted plans that are quiet.
use Rattle.std.proofs.Common.{◌≡◌, Bool, true, false, refl, sym, ◌∙◌}
use Rattle.std.proofs.lemmas.Bool.{true≢false}
use Rattle.tool_program.specs.Verdicts.{has_ended}
use Rattle.proof_migration.specs.Going.{SomeoneGoes}
use Rattle.proof_plans.specs.ReadPlans.Laws.{ReadPlansAreRunnable, ReadPlansAreSerial, ReadScriptsEnd}
use Rattle.proof_plans.specs.Complete.Quiet.{AcceptedQuietRunsAreDone, QuietRunsAreDone}

-- *Accepted quiet runs are done*
pub accepted_are_done : QuietRunsAreDone → ReadPlansAreRunnable → ReadPlansAreSerial → ReadScriptsEnd → SomeoneGoes → AcceptedQuietRunsAreDone
accepted_are_done law runnable serial ends goes plan journal was quiet converted_rows kept within unready =
    law plan journal quiet converted_rows (runnable plan was) (serial was.bytes plan was.is) kept within (ended (has_ended plan journal) refl) where
      ended : (b : Bool) → has_ended plan journal ≡ b → has_ended plan journal ≡ true
      ended true is = is
      ended false unended = absurd (true≢false (sym (goes plan journal (runnable plan was) (serial was.bytes plan was.is) (ends was.bytes plan was.is) kept unended) ∙ unready))
