-- The verdict tells the ALTER.
use Rattle.std.proofs.Common.{◌≡◌, Bool, true, false, cond, ◌&&◌, not, List, Option, Some, None, refl, sym, ap, ◌∙◌}
use Rattle.std.specs.List.{list_any}
use Rattle.std.proofs.lemmas.Bool.{true≢false, false≢true, and_parts}
use Rattle.server_model.specs.declared.entry.Entry.{Entry}
use Rattle.server_model.specs.declared.outcome.Cause.{Cause}
use Rattle.server_model.specs.declared.outcome.Verdict.TheVariants as verdicts
use Rattle.server_model.specs.States.{is_tool_busy}
use Rattle.plan_data.specs.PlanData.{PlanData}
use Rattle.tool_program.specs.JournalWords.Clients.{clients_over}
use Rattle.tool_program.specs.JournalWords.Histories.{history, is_alter}
use Rattle.tool_program.specs.Tools.{Reason, Tool, is_renamed, is_reverting, moment}
use Rattle.tool_program.specs.Verdicts.{is_calm, is_finished, is_over, ended_so, has_ended, reverted_by, verdict_of}
use Rattle.proof_journals.specs.Machine.Laws.{VerdictsTellTheAlter}
use Rattle.proof_journals.proofs.Machine.Marks.{all_marking, done_marked}

-- a tool that is over, and hasn't renamed, reverts
over_reverts : (renamed finished reverting calm busy : Bool) → cond renamed finished (reverting && calm && not busy) ≡ true → renamed ≡ false → reverting ≡ true
over_reverts true finished reverting calm busy is none = absurd (true≢false none)
over_reverts false finished true calm busy is none = refl
over_reverts false finished false calm busy is none = absurd (false≢true is)

reverts_for : (plan : PlanData) (journal : List Entry) (tool : Tool) (reason : Option Reason) → is_reverting reason ≡ true → (cause : Cause) × (reverted_by plan journal tool reason ≡ verdicts.Reverted cause)
reverts_for plan journal tool None is = absurd (false≢true is)
reverts_for plan journal tool (Some reason) is = (_, refl)

-- *The verdict tells the ALTER*
pub verdicts_tell : VerdictsTellTheAlter
unfolding verdict_of has_ended
verdicts_tell plan journal fit stands faithful follows ended = record {
  done = λ marked. ap (λ (b : Bool). cond b (ended_so plan journal (moment plan journal).tool) verdicts.Unfinished) ended ∙ ap (λ (b : Bool). cond b verdicts.Done (reverted_by plan journal (moment plan journal).tool (moment plan journal).tool.reason)) marked;
  reverted = λ unmarked. let found = reverts_for plan journal (moment plan journal).tool (moment plan journal).tool.reason (reverting unmarked) in
      (found.0, ap (λ (b : Bool). cond b (ended_so plan journal (moment plan journal).tool) verdicts.Unfinished) ended ∙ ap (λ (b : Bool). cond b verdicts.Done (reverted_by plan journal (moment plan journal).tool (moment plan journal).tool.reason)) unmarked ∙ found.1);
} where
  is_off : list_any is_alter (history plan journal) ≡ false → (b : Bool) → is_renamed (moment plan journal).tool.tool_phase ≡ b → b ≡ false
  is_off unmarked true renamed = absurd (true≢false (sym (done_marked plan journal (all_marking plan journal fit stands faithful follows) renamed) ∙ unmarked))
  is_off unmarked false renamed = refl

  reverting : list_any is_alter (history plan journal) ≡ false → is_reverting (moment plan journal).tool.reason ≡ true
  reverting unmarked =
      over_reverts (is_renamed (moment plan journal).tool.tool_phase) (is_finished (moment plan journal).tool.tool_phase) (is_reverting (moment plan journal).tool.reason) (is_calm (moment plan journal).tool.tool_phase) (is_tool_busy (moment plan journal).server)
      (and_parts (is_over (moment plan journal)) (clients_over plan journal) ended).0 (is_off unmarked (is_renamed (moment plan journal).tool.tool_phase) refl)
