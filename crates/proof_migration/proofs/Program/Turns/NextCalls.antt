-- Which call of the copier's, and which of the applier's, a turn is about while nothing is reverted: the next one.
use Rattle.std.proofs.Common.{◌≡◌, ◌<◌, Bool, false, cond, ◌&&◌, List, Some, refl, sym, ap, ◌∙◌, subst}
use Rattle.base_script.specs.declared.actor.Actor.{Actor}
use Rattle.base_script.specs.declared.actor.Actor.TheVariants.{Insp, Copy, Apply}
use Rattle.server_model.specs.declared.entry.Asked.{Asked}
use Rattle.server_model.specs.declared.entry.Asked.TheVariants.{Call, Poll, Cut}
use Rattle.server_model.specs.declared.entry.Entry.{Entry}
use Rattle.server_model.specs.declared.request.Request.{Request}
use Rattle.plan_data.specs.PlanData.{PlanData}
use Rattle.tool_program.specs.JournalWords.Sessions.{live_session}
use Rattle.tool_program.specs.declared.chunk_copier.copier.Copier.{Copier}
use Rattle.tool_program.specs.ChunkCopier.Copiers as copiers
use Rattle.tool_program.specs.declared.event_applier.applier.Applier.{Applier}
use Rattle.tool_program.specs.EventApplier.Appliers as appliers
use Rattle.tool_program.specs.Operators.{is_throttled}
use Rattle.tool_program.specs.Programs.{apply_call, copy_call, given, rolls_back, tool_call}
use Rattle.tool_program.specs.Tools.{Migrating, ToolPhase, Work, is_reverting, moment}
use Rattle.proof_journals.specs.Ghost.HeldKeys.{Clustered}
use Rattle.proof_journals.specs.Ghost.Rows.Moments.{Row}
use Rattle.proof_journals.specs.Ghost.Rows.Timelines.{Migration}
use Rattle.proof_journals.specs.Machine.Standings.{IsAbout, is_called, is_polled, standing_of}
use Rattle.proof_journals.proofs.Machine.Asking.{unless_called}
use Rattle.proof_journals.proofs.Machine.Journals.{Asking, IsRun, IsTogether, apply_called, asking, calls_so, polls_so}
use Rattle.proof_migration.specs.Program.Turns.Goes.{CopyWaits, Goes}
use Rattle.proof_migration.proofs.Program.Turns.ActorStates.{SomeActorStates, some_actor_states}
use Rattle.proof_migration.proofs.ToolPhase.ToolPhaseTurns.{gives_asked}

-- a turn of the copier's is about this request, its next one but that the size of chunks may have been another when it was called
pub record CopyAsks (plan : PlanData) (journal : List Entry) (asked : Asked) (copier : Copier) : Type 0 where
  pub request : Request
  pub is_about : IsAbout request (standing_of plan journal Copy) asked
  pub waits : CopyWaits journal copier request

-- and a turn of the applier's
pub record ApplyAsks (plan : PlanData) (journal : List Entry) (asked : Asked) (applier : Applier) : Type 0 where
  pub request : Request
  pub is_about : IsAbout request (standing_of plan journal Apply) asked
  pub next : appliers.next journal applier ≡ request

-- WHAT THE PROGRAM CALLS

pub called_so : (plan : PlanData) (journal : List Entry) (actor : Actor) (request : Request) → Asking plan journal actor (Call request) → tool_call plan (moment plan journal).server journal (moment plan journal).tool (moment plan journal).tool.tool_phase actor ≡ Some request
called_so plan journal actor request (calls_so other same idle call) = let one : other ≡ request = let both : Call other ≡ Call request = sym same in cc in call ∙ ap Some one
called_so plan journal actor request (polls_so other same some) = absurd (let no : Call request ≡ Poll = same in cc)

-- the inspector's call
pub insp_called : (plan : PlanData) (journal : List Entry) (entry : Entry) → IsTogether plan journal → IsRun plan journal entry → entry.actor ≡ Insp → (request : Request) → entry.asked ≡ Call request
    → tool_call plan (moment plan journal).server journal (moment plan journal).tool (moment plan journal).tool.tool_phase Insp ≡ Some request
unfolding given
insp_called plan journal entry together run same request asks =
    called_so plan journal Insp request
    (asking plan journal Insp (Call request) together.server (subst (λ (a : Actor). given plan journal a ≡ Some (Call request)) same (gives_asked plan journal entry entry.asked run.followed.given refl (λ cut. no (sym asks ∙ cut)) ∙ ap Some asks))) where
      no : Call request ≡ Cut → ⊥
      no both = cc

module _ (plan : PlanData) (journal : List Entry) (work : Work) (tool_phase : (moment plan journal).tool.tool_phase ≡ Migrating work) (going : is_reverting (moment plan journal).tool.reason ≡ false) (request : Request) where
  pub copy_next : tool_call plan (moment plan journal).server journal (moment plan journal).tool (moment plan journal).tool.tool_phase Copy ≡ Some request → copiers.next journal work.copier ≡ Some request
  copy_next call =
      unless_called (copiers.starts work.copier && is_throttled plan (moment plan journal).server (moment plan journal).tool.operator) (copiers.next journal work.copier) request
      (ap (λ (b : Bool). cond b (rolls_back (moment plan journal).server (live_session journal Copy)) (copy_call plan (moment plan journal).server journal (moment plan journal).tool work)) (sym going)
      ∙ ap (λ (c : ToolPhase). tool_call plan (moment plan journal).server journal (moment plan journal).tool c Copy) (sym tool_phase) ∙ call)

  pub apply_calls : tool_call plan (moment plan journal).server journal (moment plan journal).tool (moment plan journal).tool.tool_phase Apply ≡ Some request → apply_call plan (moment plan journal).server journal (moment plan journal).tool work ≡ Some request
  apply_calls call =
      ap (λ (b : Bool). cond b (rolls_back (moment plan journal).server (live_session journal Apply)) (apply_call plan (moment plan journal).server journal (moment plan journal).tool work)) (sym going)
      ∙ ap (λ (c : ToolPhase). tool_call plan (moment plan journal).server journal (moment plan journal).tool c Apply) (sym tool_phase) ∙ call

  pub apply_next : tool_call plan (moment plan journal).server journal (moment plan journal).tool (moment plan journal).tool.tool_phase Apply ≡ Some request → appliers.next journal work.applier ≡ request
  apply_next call = sym (apply_called plan journal work request (apply_calls call))

-- WHAT A TURN IS ABOUT

module _ (plan : PlanData) (m : Migration) (at : Clustered m.schema) (rows : List Row) (journal : List Entry) (asked : Asked) (together : IsTogether plan journal) (work : Work) (tool_phase : (moment plan journal).tool.tool_phase ≡ Migrating work) (going : is_reverting (moment plan journal).tool.reason ≡ false)
    (goes : Goes plan m at rows journal work) where
  pub chunks_sized : 0 < work.copier.size
  chunks_sized = let some : SomeActorStates journal = some_actor_states journal together.known.sessions in (goes.stands some.copier some.applier some.actor_states).copier_knows.sized

  pub copy_asked : given plan journal Copy ≡ Some asked → CopyAsks plan journal asked work.copier
  unfolding given
  copy_asked gave = by (asking plan journal Copy asked together.server gave) where
    by : Asking plan journal Copy asked → CopyAsks plan journal asked work.copier
    by (calls_so request asks idle call) = record { request = request; is_about = is_called asks idle; waits = record { size = work.copier.size; some = chunks_sized; next = copy_next plan journal work tool_phase going request call } }
    by (polls_so request asks some) = record { request = request; is_about = is_polled asks some; waits = goes.copy_waits request some }

  pub apply_asked : given plan journal Apply ≡ Some asked → ApplyAsks plan journal asked work.applier
  unfolding given
  apply_asked gave = by (asking plan journal Apply asked together.server gave) where
    by : Asking plan journal Apply asked → ApplyAsks plan journal asked work.applier
    by (calls_so request asks idle call) = record { request = request; is_about = is_called asks idle; next = apply_next plan journal work tool_phase going request call }
    by (polls_so request asks some) = record { request = request; is_about = is_polled asks some; next = goes.apply_waits request some }
