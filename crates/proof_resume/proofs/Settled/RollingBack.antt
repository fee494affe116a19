-- In a revert the copier and the applier call nothing but Rollback.
use Rattle.std.proofs.Common.{◌≡◌, ◌⊎◌, Bool, true, false, cond, [], ◌∷◌, Some, None, sym, ap, ◌∙◌, inl, inr}
use Rattle.base_script.specs.declared.actor.Actor.{Actor}
use Rattle.base_script.specs.declared.actor.Actor.TheVariants.{Copy, Apply}
use Rattle.server_model.specs.declared.entry.Asked.TheVariants.{Call, Poll}
use Rattle.server_model.specs.declared.request.Request.{Request}
use Rattle.server_model.specs.declared.request.Request.TheVariants as requests
use Rattle.server_model.specs.Entries.{is_cut}
use Rattle.tool_program.specs.JournalWords.Sessions.{live_session}
use Rattle.tool_program.specs.Programs.{apply_call, copy_call, given, in_transaction, rolls_back, tool_call}
use Rattle.tool_program.specs.Tools.{ToolPhase, moment}
use Rattle.proof_journals.specs.Run.Kept.{IsKept}
use Rattle.proof_journals.proofs.Machine.Journals.{Asking, IsRun, IsTogether, asking, calls_so, polls_so}
use Rattle.proof_migration.proofs.ToolPhase.Unaltered.Away.{IsKnownAsked, all_asked}
use Rattle.proof_migration.proofs.Program.Turns.Asked.{gave}
use Rattle.proof_migration.proofs.Program.Turns.Follows.{kept_front, kept_run}
use Rattle.proof_resume.specs.Settled.Laws.{RevertsRollBack}

pub rolled : (b : Bool) (request : Request) → cond b (Some requests.Rollback) None ≡ Some request → request ≡ requests.Rollback
rolled true request is = let both : Some requests.Rollback ≡ Some request = is in let same : requests.Rollback ≡ request = cc in sym same
rolled false request is = absurd (let no : None ≡ Some request = is in cc)

-- *Reverts roll back.*
pub reverts_roll_back : RevertsRollBack
unfolding given
reverts_roll_back plan journal entry work runs serial kept off tool_phase on actor request asks = by_actor actor where
  before : IsKept plan journal
  before = kept_front plan journal (entry ∷ []) kept

  known : IsKnownAsked plan journal
  known = all_asked plan journal runs before.faithful before.follows

  together : IsTogether plan journal
  together = known.marking.tabled.all.tool

  run : IsRun plan journal entry
  run = kept_run plan journal entry kept

  same_call : (other : Request) → entry.asked ≡ Call other → other ≡ request
  same_call other is = let both : Call other ≡ Call request = sym is ∙ asks in cc

  no_poll : entry.asked ≡ Poll → request ≡ requests.Rollback
  no_poll is = absurd (let no : Poll ≡ Call request = sym is ∙ asks in cc)

  back : (one : Actor) (other : Request) → rolls_back (moment plan journal).server (live_session journal one) ≡ Some other → entry.asked ≡ Call other → request ≡ requests.Rollback
  back one other is asked = sym (same_call other asked) ∙ rolled (in_transaction (moment plan journal).server (live_session journal one)) other is

  copied : Asking plan journal Copy entry.asked → request ≡ requests.Rollback
  copied (calls_so other asked idle call) =
      back Copy other
      (ap (λ (b : Bool). cond b (rolls_back (moment plan journal).server (live_session journal Copy)) (copy_call plan (moment plan journal).server journal (moment plan journal).tool work)) (sym on)
      ∙ ap (λ (c : ToolPhase). tool_call plan (moment plan journal).server journal (moment plan journal).tool c Copy) (sym tool_phase) ∙ call) asked
  copied (polls_so other asked some) = no_poll asked

  applied : Asking plan journal Apply entry.asked → request ≡ requests.Rollback
  applied (calls_so other asked idle call) =
      back Apply other
      (ap (λ (b : Bool). cond b (rolls_back (moment plan journal).server (live_session journal Apply)) (apply_call plan (moment plan journal).server journal (moment plan journal).tool work)) (sym on)
      ∙ ap (λ (c : ToolPhase). tool_call plan (moment plan journal).server journal (moment plan journal).tool c Apply) (sym tool_phase) ∙ call) asked
  applied (polls_so other asked some) = no_poll asked

  by_actor : (entry.actor ≡ Copy) ⊎ (entry.actor ≡ Apply) → request ≡ requests.Rollback
  by_actor (inl same) = copied (asking plan journal Copy entry.asked together.server (gave plan serial runs.fitting journal entry known run off Copy same (ap is_cut asks)))
  by_actor (inr same) = applied (asking plan journal Apply entry.asked together.server (gave plan serial runs.fitting journal entry known run off Apply same (ap is_cut asks)))
