-- Once all is copied the copier chooses no chunk; and neither it nor the applier asks for a name exclusively.
use Rattle.std.proofs.Common.{◌≡◌, ◌⊎◌, ℕ, ◌+◌, Bool, true, false, ◌&&◌, List, [], ◌∷◌, ◌++◌, Some, refl, sym, ap, ◌∙◌, subst, inl, inr}
use Rattle.std.proofs.lemmas.Bool.{false≢true, true≢false}
use Rattle.base_script.specs.declared.actor.Actor.{Actor}
use Rattle.base_script.specs.declared.actor.Actor.TheVariants.{Op, Insp, Copy, Apply, Lock, Ren, Client}
use Rattle.server_model.specs.Along.{Along-keeps}
use Rattle.server_model.specs.declared.answer.Answer.{Answer}
use Rattle.server_model.specs.declared.answer.Answer.TheVariants as answers
use Rattle.server_model.specs.declared.entry.Asked.TheVariants.{Call, Poll, Cut}
use Rattle.server_model.specs.declared.entry.Entry.{Entry}
use Rattle.server_model.specs.declared.request.Request.{Request}
use Rattle.server_model.specs.declared.request.Request.TheVariants as requests
use Rattle.server_model.specs.States.{State}
use Rattle.plan_data.specs.PlanData.{PlanData}
use Rattle.tool_program.specs.declared.chunk_copier.copier.Copier.{Copier}
use Rattle.tool_program.specs.declared.chunk_copier.copier.CopyStep.{CopyStep}
use Rattle.tool_program.specs.declared.chunk_copier.copier.CopyStep.TheVariants as copying
use Rattle.tool_program.specs.ChunkCopier.Copiers as copiers
use Rattle.tool_program.specs.declared.event_applier.applier.ApplyStep.{ApplyStep}
use Rattle.tool_program.specs.declared.event_applier.applier.ApplyStep.TheVariants as applying
use Rattle.tool_program.specs.EventApplier.Appliers as appliers
use Rattle.tool_program.specs.JournalWords.Journals.{IsFaithful, state_at}
use Rattle.tool_program.specs.JournalWords.Sessions.{live_session}
use Rattle.tool_program.specs.Operators.{is_throttled}
use Rattle.tool_program.specs.Programs.{Follows, apply_call, copy_call, given, in_transaction, rolls_back, tool_call}
use Rattle.tool_program.specs.Setups.{Setup, Listing, Clearing, MakingLog, MakingGhost, Marking, Reaching, Ready, setup_after}
use Rattle.tool_program.specs.Tools.{ToolPhase, Migrating, SettingUp, Tool, Work, tool_phase_of, is_reverting, moment, stopped}
use Rattle.proof_journals.specs.ServerTurns.Others.{takes_names}
use Rattle.proof_journals.specs.Machine.Machines.{ApplierStands, ToolPhaseStands, applier_asks, copier_asks}
use Rattle.proof_journals.specs.Machine.Runnable.{IsRunnable}
use Rattle.proof_journals.specs.Machine.Standings.{standing_of}
use Rattle.proof_journals.specs.Machine.MigrationTables.{ToolPhaseTables, WorkTables}
use Rattle.proof_journals.proofs.Machine.Asking.{applier_next, copier_next, unless_called}
use Rattle.proof_journals.proofs.Machine.Calling.{reverting_or}
use Rattle.proof_journals.proofs.Machine.Journals.{Asking, IsRun, IsTogether, all_runs, apply_called, asking, calls_so, polls_so}
use Rattle.proof_journals.proofs.Machine.Polling.{AllWaits, waits_begin, waits_more}
use Rattle.proof_journals.proofs.Machine.Tabling.{back_quiet, copied_idle}
use Rattle.proof_migration.proofs.ToolPhase.ToolPhaseTurns.{AnswerKeeps, CopyKeeps, DrainKeeps, Kept, ResizeKeeps, SetupKeeps, TurnKeeps, UnfitKeeps, ApplyKeeps, gives_asked, turn_kept}
use Rattle.proof_migration.proofs.ToolPhase.Unaltered.Away.{IsKnownAsked, asked_begins, asked_more}

-- ALL IS COPIED

abbrev pub IsRested : Copier → Type 0
IsRested copier = copier.is_copied ≡ true → copier.step ≡ copying.Choosing

-- the last chunk's commit copies all
after_rests : (turn : ℕ) (copier : Copier) (step : CopyStep) (answer : Answer) → copier.is_copied ≡ false → copier.step ≡ step → IsRested (copiers.after_answer turn copier step answer)
after_rests turn copier copying.Choosing (answers.End end) off same copied = absurd (true≢false (sym copied ∙ off))
after_rests turn copier (copying.Spanning reported size) (answers.Keys keys end) off same copied = absurd (true≢false (sym copied ∙ off))
after_rests turn copier (copying.Copying chunk done) (answers.Ok count) off same copied = absurd (true≢false (sym copied ∙ off))
after_rests turn copier (copying.Committing chunk) (answers.Ok count) off same copied = refl
after_rests turn copier step answer off same copied = absurd (true≢false (sym copied ∙ off))

took_rests : (turn : ℕ) (copier : Copier) (answer : Answer) → copier.is_copied ≡ false → IsRested (copiers.took turn copier answer)
unfolding copiers.took
took_rests turn copier answers.Lost off copied = refl
took_rests turn copier (answers.TimedOut waited) off copied = refl
took_rests turn copier answer off copied = after_rests turn copier copier.step answer off refl copied

lost_rests : (turn : ℕ) (copier : Copier) → IsRested (copiers.took turn copier answers.Lost)
unfolding copiers.took
lost_rests turn copier copied = refl

-- *What was copied stays so*, whatever is answered
choosing_stays : (turn : ℕ) (copier : Copier) (answer : Answer) → copier.is_copied ≡ true → (copiers.after_answer turn copier copying.Choosing answer).is_copied ≡ true
choosing_stays turn copier (answers.End end) copied = copied
choosing_stays turn copier answer copied = copied

pub copied_stays : (turn : ℕ) (copier : Copier) (answer : Answer) → IsRested copier → copier.is_copied ≡ true → (copiers.took turn copier answer).is_copied ≡ true
unfolding copiers.took
copied_stays turn copier answers.Lost rests copied = copied
copied_stays turn copier (answers.TimedOut waited) rests copied = copied
copied_stays turn copier answer rests copied = subst (λ (s : CopyStep). (copiers.after_answer turn copier s answer).is_copied ≡ true) (sym (rests copied)) (choosing_stays turn copier answer copied)

abbrev pub ToolPhaseRests : ToolPhase → Type 0
ToolPhaseRests (SettingUp setup tries) = Unit {0}
ToolPhaseRests (Migrating work) = IsRested work.copier

-- the range of a new copy is copied only where there is none, and then nothing was chosen
begins_rests : (plan : PlanData) (size : ℕ) (setup : Setup) (tries : List ℕ) → ToolPhaseRests (tool_phase_of plan size setup tries)
begins_rests plan size (Ready position range) tries = λ copied. refl
begins_rests plan size Listing tries = tt
begins_rests plan size (Clearing left) tries = tt
begins_rests plan size MakingLog tries = tt
begins_rests plan size MakingGhost tries = tt
begins_rests plan size Marking tries = tt
begins_rests plan size (Reaching position) tries = tt

back_rests : (b : Bool) (tool_phase : ToolPhase) → ToolPhaseRests tool_phase → ToolPhaseRests (stopped tool_phase)
back_rests b (SettingUp setup tries) at = tt
back_rests b (Migrating work) at = at

-- NO NAME IS ASKED FOR EXCLUSIVELY

abbrev pub FreeAt : Actor → Request → Type 0
FreeAt Copy request = takes_names request ≡ false
FreeAt Apply request = takes_names request ≡ false
FreeAt actor request = Unit {0}

copier_free : (step : CopyStep) (request : Request) → copier_asks step request ≡ true → takes_names request ≡ false
copier_free copying.Choosing (requests.ChunkEnd table low top size) kind = refl
copier_free (copying.Spanning reported most) (requests.BeginSpan table span size) kind = refl
copier_free (copying.Copying chunk copied) (requests.CopyRow from into columns key) kind = refl
copier_free (copying.Committing chunk) requests.Commit kind = refl
copier_free step request kind = absurd (false≢true kind)

applier_free : (step : ApplyStep) (request : Request) → applier_asks step request ≡ true → takes_names request ≡ false
applier_free applying.Reading (requests.ReadLog position limit tables) kind = refl
applier_free (applying.Beginning batch) requests.Begin kind = refl
applier_free (applying.Applying batch done part) (requests.Do statement) kind = refl
applier_free (applying.Committing batch) requests.Commit kind = refl
applier_free step request kind = absurd (false≢true kind)

module _ (plan : PlanData) (journal : List Entry) (is : IsTogether plan journal) where
  abbrev then : Tool
  then = (moment plan journal).tool

  abbrev server : State
  server = (moment plan journal).server

  back_free : (actor : Actor) (request : Request) → rolls_back server (live_session journal actor) ≡ Some request → takes_names request ≡ false
  back_free actor request back = ap takes_names (back_quiet (in_transaction server (live_session journal actor)) request back)

  copy_free : (request : Request) (tool_phase : ToolPhase) → tool_call plan server journal then tool_phase Copy ≡ Some request → takes_names request ≡ false
  copy_free request (SettingUp setup tries) call = absurd cc
  copy_free request (Migrating work) call =
      reverting_or (takes_names request ≡ false) (is_reverting then.reason) (rolls_back server (live_session journal Copy)) (copy_call plan server journal then work) request call (λ reverting back. back_free Copy request back)
      (λ going asks. copier_free work.copier.step request (copier_next journal work.copier request (unless_called (copiers.starts work.copier && is_throttled plan server then.operator) (copiers.next journal work.copier) request asks)))

  apply_free : (request : Request) (tool_phase : ToolPhase) → ToolPhaseStands journal (standing_of plan journal) (is_reverting then.reason) tool_phase → tool_call plan server journal then tool_phase Apply ≡ Some request → takes_names request ≡ false
  unfolding appliers.next
  apply_free request (SettingUp setup tries) at call = absurd cc
  apply_free request (Migrating work) at call =
      reverting_or (takes_names request ≡ false) (is_reverting then.reason) (rolls_back server (live_session journal Apply)) (apply_call plan server journal then work) request call (λ reverting back. back_free Apply request back) (λ going asks. by at.applier going asks) where
        by : (is_reverting then.reason ≡ true) ⊎ ApplierStands journal work.applier (standing_of plan journal Apply) → is_reverting then.reason ≡ false → apply_call plan server journal then work ≡ Some request → takes_names request ≡ false
        by (inl reverting) going asks = absurd (true≢false (sym reverting ∙ going))
        by (inr stands) going asks = applier_free work.applier.step request (ap (applier_asks work.applier.step) (apply_called plan journal work request asks) ∙ applier_next journal work.applier work.applier.step stands.known)

  tool_free : (actor : Actor) (request : Request) → Asking plan journal actor (Call request) → (tool_call plan server journal then then.tool_phase actor ≡ Some request → takes_names request ≡ false) → takes_names request ≡ false
  tool_free actor request (calls_so other same idle call) then_free = let one : other ≡ request = cc in then_free (call ∙ ap Some one)
  tool_free actor request (polls_so other same some) then_free = absurd (no same) where
    no : Call request ≡ Poll → ⊥
    no both = cc

  pub given_free : (actor : Actor) (request : Request) → given plan journal actor ≡ Some (Call request) → FreeAt actor request
  unfolding given
  given_free Copy request gives = tool_free Copy request (asking plan journal Copy (Call request) is.server gives) (λ call. copy_free request then.tool_phase call)
  given_free Apply request gives = tool_free Apply request (asking plan journal Apply (Call request) is.server gives) (λ call. apply_free request then.tool_phase is.stands call)
  given_free Op request gives = tt
  given_free Insp request gives = tt
  given_free Lock request gives = tt
  given_free Ren request gives = tt
  given_free (Client c) request gives = tt

-- BEHIND EVERY JOURNAL

pub record IsResting (plan : PlanData) (journal : List Entry) : Type 0 where
  pub known : IsKnownAsked plan journal
  pub rests : ToolPhaseRests (moment plan journal).tool.tool_phase
  pub free : AllWaits FreeAt plan journal

module _ (plan : PlanData) (journal : List Entry) (entry : Entry) (run : IsRun plan journal entry) (is : IsResting plan journal) where
  abbrev tool : Tool
  tool = record (moment plan journal).tool { turns = (moment plan journal).tool.turns + 1 }

  abbrev New : Kept
  New b tool_phase = ToolPhaseRests tool_phase

  rests_at : (tool_phase : ToolPhase) → (moment plan journal).tool.tool_phase ≡ tool_phase → ToolPhaseRests tool_phase
  rests_at tool_phase same = subst ToolPhaseRests same is.rests

  setup_rests : (answer : Answer) (setup : Setup) (tries : List ℕ) → SetupKeeps plan New answer tool setup tries
  setup_rests answer setup tries = record { reverting = λ back. tt; again = λ going bad some. tt; goes = λ going good. begins_rests plan tool.operator.size (setup_after plan.table setup answer) tries }

  unfit_rests : (work : Work) → IsRested work.copier → UnfitKeeps New work
  unfit_rests work at = record { renamed = λ done. at; reverts = at }

  asks_copy : entry.actor ≡ Copy → (entry.asked ≡ Cut → ⊥) → Asking plan journal Copy entry.asked
  unfolding given
  asks_copy same uncut = asking plan journal Copy entry.asked is.known.marking.tabled.all.tool.server (subst (λ (a : Actor). given plan journal a ≡ Some entry.asked) same (gives_asked plan journal entry entry.asked run.followed.given refl uncut))

  copied_idles : (work : Work) → (moment plan journal).tool.tool_phase ≡ Migrating work → entry.actor ≡ Copy → (entry.asked ≡ Cut → ⊥) → is_reverting tool.reason ≡ false → work.copier.is_copied ≡ true → ⊥
  copied_idles work tool_phase same uncut going copied =
      true≢false (sym (copied_idle plan journal entry is.known.marking.tabled.all is.known.marking.tabled.quiet run work tool_phase copied (tables.copied copied) (asks_copy same uncut)).0 ∙ going) where
        tables : WorkTables plan (state_at plan journal).tables (standing_of plan journal) work
        tables = subst (ToolPhaseTables plan (state_at plan journal).tables (standing_of plan journal)) tool_phase is.known.marking.tabled.tables

  copy_rests : (answer : Answer) (work : Work) → (moment plan journal).tool.tool_phase ≡ Migrating work → ((is_reverting tool.reason ≡ false) → work.copier.is_copied ≡ true → answer ≡ answers.Lost) → CopyKeeps New answer tool work
  copy_rests answer work tool_phase lost =
      let at : IsRested work.copier = rests_at (Migrating work) tool_phase in
      record { reverting = λ back. at; unfit = λ going place number unfit. unfit_rests work at; took = λ going fits tries. by going work.copier.is_copied refl } where
        by : is_reverting tool.reason ≡ false → (b : Bool) → work.copier.is_copied ≡ b → IsRested (copiers.took tool.turns work.copier answer)
        by going true copied = subst (λ (a : Answer). IsRested (copiers.took tool.turns work.copier a)) (sym (lost going copied)) (lost_rests tool.turns work.copier)
        by going false off = took_rests tool.turns work.copier answer off

  apply_rests : (answer : Answer) (work : Work) → (moment plan journal).tool.tool_phase ≡ Migrating work → ApplyKeeps New answer tool work
  apply_rests answer work tool_phase = let at : IsRested work.copier = rests_at (Migrating work) tool_phase in record { reverting = λ back. at; unfit = λ going place number unfit. unfit_rests work at; took = λ going fits tries. at }

  answer_rests : (answer : Answer) (actor : Actor) (tool_phase : ToolPhase) → (moment plan journal).tool.tool_phase ≡ tool_phase → (actor ≡ Copy → (work : Work) → tool_phase ≡ Migrating work → (is_reverting tool.reason ≡ false) → work.copier.is_copied ≡ true → answer ≡ answers.Lost) → AnswerKeeps plan New answer tool actor tool_phase
  answer_rests answer Insp (SettingUp setup tries) tool_phase lost = setup_rests answer setup tries
  answer_rests answer Insp (Migrating work) tool_phase lost = λ tries. rests_at (Migrating work) tool_phase
  answer_rests answer Lock (Migrating work) tool_phase lost = λ tries. rests_at (Migrating work) tool_phase
  answer_rests answer Ren (Migrating work) tool_phase lost = λ tries. rests_at (Migrating work) tool_phase
  answer_rests answer Copy (Migrating work) tool_phase lost = copy_rests answer work tool_phase (lost refl work refl)
  answer_rests answer Apply (Migrating work) tool_phase lost = apply_rests answer work tool_phase
  answer_rests answer actor tool_phase same lost = rests_at tool_phase same

  resize_rests : (size : ℕ) (tool_phase : ToolPhase) → ToolPhaseRests tool_phase → ResizeKeeps New tool size tool_phase
  resize_rests size (SettingUp setup tries) at = at
  resize_rests size (Migrating work) at = at

  drain_rests : DrainKeeps New
  drain_rests b work tries at = at

  turn_rests : TurnKeeps plan New (moment plan journal).server entry tool
  turn_rests = record {
    commanded = λ word asks unsized. is.rests;
    resized = λ size asks. resize_rests size (moment plan journal).tool.tool_phase is.rests;
    idle = λ cut idle. is.rests;
    lost = λ cut worked. answer_rests answers.Lost entry.actor (moment plan journal).tool.tool_phase refl (λ same work tool_phase going copied. refl);
    heard = λ uncut uncommanded. answer_rests entry.answer entry.actor (moment plan journal).tool.tool_phase refl (λ same work tool_phase going copied. absurd (copied_idles work tool_phase same uncut going copied));
  }

  rests_more : IsResting plan (journal ++ entry ∷ [])
  rests_more = record {
    known = asked_more plan journal entry run is.known;
    rests = turn_kept plan New back_rests journal entry drain_rests turn_rests;
    free = waits_more FreeAt plan journal entry is.known.marking.tabled.all is.free run (λ request asks gives. given_free plan journal is.known.marking.tabled.all.tool entry.actor request gives);
  }

rests_begin : (plan : PlanData) → IsRunnable plan → IsResting plan []
unfolding moment
rests_begin plan runs = record { known = asked_begins plan runs; rests = tt; free = waits_begin FreeAt plan }

pub all_rest : (plan : PlanData) (journal : List Entry) → IsRunnable plan → IsFaithful plan journal → Follows plan journal → IsResting plan journal
unfolding Follows
all_rest plan journal runs faithful follows = Along-keeps (IsRun plan) (IsResting plan) (rests_more plan) [] journal (all_runs plan [] journal faithful follows) (rests_begin plan runs)
