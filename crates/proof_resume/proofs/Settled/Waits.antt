-- What the copier and the applier wait with stores nothing: a COMMIT is never kept waiting.
use Rattle.std.proofs.Common.{◌≡◌, ◌⊎◌, Bool, true, false, cond, ◌&&◌, List, [], ◌∷◌, ◌++◌, Option, Some, None, refl, sym, ap, ◌∙◌, subst, inl, inr}
use Rattle.std.proofs.lemmas.Bool.{true≢false, false≢true}
use Rattle.std.proofs.lemmas.Option.{none-some}
use Rattle.base_script.specs.declared.actor.Actor.{Actor}
use Rattle.base_script.specs.declared.actor.Actor.TheVariants.{Copy, Apply, Op}
use Rattle.server_model.specs.Along.{Along-keeps}
use Rattle.server_model.specs.declared.answer.Answer.{Answer}
use Rattle.server_model.specs.declared.answer.Answer.TheVariants as answers
use Rattle.server_model.specs.declared.entry.Asked.{Asked}
use Rattle.server_model.specs.declared.entry.Asked.TheVariants.{Call, Poll, Command, Cut}
use Rattle.server_model.specs.declared.entry.Entry.{Entry}
use Rattle.server_model.specs.declared.request.Request.{Request}
use Rattle.server_model.specs.declared.request.Request.TheVariants as requests
use Rattle.server_model.specs.Entries.{same_actor}
use Rattle.plan_data.specs.PlanData.{PlanData}
use Rattle.tool_program.specs.JournalWords.Sessions.{live_session}
use Rattle.tool_program.specs.declared.chunk_copier.copier.CopyStep.{CopyStep}
use Rattle.tool_program.specs.declared.chunk_copier.copier.CopyStep.TheVariants as copying
use Rattle.tool_program.specs.ChunkCopier.Copiers as copiers
use Rattle.tool_program.specs.declared.event_applier.applier.ApplyStep.{ApplyStep}
use Rattle.tool_program.specs.declared.event_applier.applier.ApplyStep.TheVariants as applying
use Rattle.tool_program.specs.EventApplier.Appliers as appliers
use Rattle.tool_program.specs.Operators.{is_throttled}
use Rattle.tool_program.specs.Programs.{Follows, IsGiven, apply_call, copy_call, given, in_transaction, rolls_back, tool_asks, tool_call}
use Rattle.tool_program.specs.Tools.{ToolPhase, SettingUp, Migrating, Moment, is_reverting, moment}
use Rattle.proof_journals.specs.Run.Kept.{IsKept}
use Rattle.proof_journals.specs.Machine.Machines.{ApplierStands, Stands, ToolPhaseStands, applier_asks, applier_busy, copier_asks, copier_busy}
use Rattle.proof_journals.specs.Machine.Standings.{IsAbout, Standing, answered, answers_to, free, is_called, is_polled, needs_names, standing_of}
use Rattle.proof_journals.proofs.Actors.{same_actor_is}
use Rattle.proof_journals.proofs.Machine.Asking.{applier_next, copier_next, unless_called}
use Rattle.proof_journals.proofs.Machine.Journals.{Asking, IsRun, IsTogether, all_runs, apply_called, asking, calls_so, has_now, polls_so, together_begins, together_more}
use Rattle.proof_journals.proofs.Machine.Seated.{IsServed, others_stand, own_fits, own_lost}
use Rattle.proof_migration.proofs.ToolPhase.Owners.{commands_operator}
use Rattle.proof_resume.specs.Settled.QuietRequests.{StoresNothing}
use Rattle.proof_resume.proofs.Settled.RollingBack.{rolled}

-- the request that waits, where one does, stores nothing
abbrev pub WaitsQuietly : Bool → Option Request → Type 0
WaitsQuietly busy None = Unit {0}
WaitsQuietly busy (Some request) = StoresNothing busy request

abbrev pub IsQuietWait : Standing → Type 0
IsQuietWait standing = WaitsQuietly standing.busy standing.waits

-- a request stores nothing, or is never kept waiting
abbrev Passes : Bool → Request → Type 0
Passes busy request = StoresNothing busy request ⊎ (needs_names request ≡ false)

-- what the copier calls, and the applier
pub copy_passes : (step : CopyStep) (request : Request) → copier_asks step request ≡ true → Passes (copier_busy step) request
copy_passes copying.Choosing (requests.ChunkEnd table low top size) asks = inl tt
copy_passes (copying.Spanning reported size) (requests.BeginSpan table span most) asks = inl tt
copy_passes (copying.Copying chunk copied) (requests.CopyRow from into map key) asks = inl refl
copy_passes (copying.Committing chunk) requests.Commit asks = inr refl
copy_passes step request asks = absurd (false≢true asks)

pub apply_passes : (step : ApplyStep) (request : Request) → applier_asks step request ≡ true → Passes (applier_busy step) request
apply_passes applying.Reading (requests.ReadLog position limit tables) asks = inl tt
apply_passes (applying.Beginning batch) requests.Begin asks = inl tt
apply_passes (applying.Applying batch done part) (requests.Do statement) asks = inl refl
apply_passes (applying.Committing batch) requests.Commit asks = inr refl
apply_passes step request asks = absurd (false≢true asks)

after_quiet : (request : Request) (answer : Answer) (old : Standing) → answers_to request answer ≡ true → Passes old.busy request → IsQuietWait (answered request answer old)
after_quiet request (answers.Waits by) old fits (inl quiet) = quiet
after_quiet request (answers.Waits by) old fits (inr none) = absurd (true≢false (sym fits ∙ none))
after_quiet request answers.Lost old fits passes = tt
after_quiet request (answers.TimedOut waited) old fits passes = tt
after_quiet request answer old fits passes = tt

pub waiting_stores : (standing : Standing) (request : Request) → IsQuietWait standing → standing.waits ≡ Some request → StoresNothing standing.busy request
waiting_stores standing request quiet some = subst (WaitsQuietly standing.busy) some quiet

-- ONE TURN MORE

module _ (plan : PlanData) (journal : List Entry) (entry : Entry) (together : IsTogether plan journal) (run : IsRun plan journal entry) (actor : Actor) (uncommanded : actor ≡ Op → ⊥) (tool : (asked : Asked) → given plan journal actor ≡ Some asked → tool_asks plan journal (moment plan journal) actor ≡ Some asked)
    (calls : (request : Request) → tool_call plan (moment plan journal).server journal (moment plan journal).tool (moment plan journal).tool.tool_phase actor ≡ Some request → Passes (standing_of plan journal actor).busy request) (was : IsQuietWait (standing_of plan journal actor)) where
  abbrev has : Actor → Standing
  has = standing_of plan journal

  abbrev then_has : Actor → Standing
  then_has = standing_of plan (journal ++ entry ∷ [])

  served : IsServed plan journal entry
  served = record { answered = run.answered; seated = record { session = run.followed.session } }

  asked_about : (called : Request) → entry.actor ≡ actor → IsAbout called (has actor) entry.asked → Passes (has actor).busy called → IsQuietWait (then_has actor)
  asked_about called who about passes =
      let there : IsAbout called (has entry.actor) entry.asked = subst (λ (a : Actor). IsAbout called (has a) entry.asked) (sym who) about in
      subst IsQuietWait (sym (has_now plan journal entry together run actor called who about)) (after_quiet called entry.answer (has actor) (own_fits plan journal entry together.known served called there) passes)

  asked_so : entry.actor ≡ actor → Asking plan journal actor entry.asked → IsQuietWait (then_has actor)
  asked_so who (calls_so called asks idle call) = asked_about called who (is_called asks idle) (calls called call)
  asked_so who (polls_so called asks some) = asked_about called who (is_polled asks some) (inl (waiting_stores (has actor) called was some))

  own : entry.actor ≡ actor → IsQuietWait (then_has actor)
  own who = by entry.asked refl run.followed.given where
    by : (asked : Asked) → entry.asked ≡ asked → IsGiven plan journal entry asked → IsQuietWait (then_has actor)
    by Cut asks gives = subst IsQuietWait (sym (subst (λ (a : Actor). then_has a ≡ free) who (own_lost plan journal entry together.known served asks))) tt
    by (Call called) asks gives = asked_so who (asking plan journal actor entry.asked together.server (tool entry.asked (ap (given plan journal) (sym who) ∙ gives ∙ ap Some (sym asks))))
    by Poll asks gives = asked_so who (asking plan journal actor entry.asked together.server (tool entry.asked (ap (given plan journal) (sym who) ∙ gives ∙ ap Some (sym asks))))
    by (Command word) asks gives = absurd (uncommanded (sym who ∙ commands_operator plan journal entry.actor word gives))

  quiet_more : IsQuietWait (then_has actor)
  quiet_more = by (same_actor entry.actor actor) refl where
    by : (b : Bool) → same_actor entry.actor actor ≡ b → IsQuietWait (then_has actor)
    by true same = own (same_actor_is entry.actor actor same)
    by false differ = subst IsQuietWait (sym (others_stand plan journal entry together.known served actor differ)) was

-- WHAT THE TWO CALL

back_passes : (busy : Bool) (b : Bool) (request : Request) → cond b (Some requests.Rollback) None ≡ Some request → Passes busy request
back_passes busy b request is = subst (Passes busy) (sym (rolled b request is)) (inl tt)

module _ (plan : PlanData) (journal : List Entry) (together : IsTogether plan journal) where
  abbrev now : Moment
  now = moment plan journal

  copy_so : (request : Request) (tool_phase : ToolPhase) → now.tool.tool_phase ≡ tool_phase → ToolPhaseStands journal (standing_of plan journal) (is_reverting now.tool.reason) tool_phase → tool_call plan now.server journal now.tool tool_phase Copy ≡ Some request → Passes (standing_of plan journal Copy).busy request
  copy_so request (SettingUp setup tries) phase stands call = absurd (none-some request call)
  copy_so request (Migrating work) phase stands call = by (is_reverting now.tool.reason) refl stands.copier call where
    by : (b : Bool) → is_reverting now.tool.reason ≡ b → (is_reverting now.tool.reason ≡ true) ⊎ Stands (copier_asks work.copier.step) (copier_busy work.copier.step) [] (standing_of plan journal Copy)
        → cond b (rolls_back now.server (live_session journal Copy)) (copy_call plan now.server journal now.tool work) ≡ Some request → Passes (standing_of plan journal Copy).busy request
    by true on had called = back_passes (standing_of plan journal Copy).busy (in_transaction now.server (live_session journal Copy)) request called
    by false off (inl on) called = absurd (true≢false (sym on ∙ off))
    by false off (inr had) called =
        subst (λ (b : Bool). Passes b request) (sym had.busy)
        (copy_passes work.copier.step request (copier_next journal work.copier request (unless_called (copiers.starts work.copier && is_throttled plan now.server now.tool.operator) (copiers.next journal work.copier) request called)))

  apply_so : (request : Request) (tool_phase : ToolPhase) → now.tool.tool_phase ≡ tool_phase → ToolPhaseStands journal (standing_of plan journal) (is_reverting now.tool.reason) tool_phase → tool_call plan now.server journal now.tool tool_phase Apply ≡ Some request → Passes (standing_of plan journal Apply).busy request
  unfolding appliers.next
  apply_so request (SettingUp setup tries) phase stands call = absurd (none-some request call)
  apply_so request (Migrating work) phase stands call = by (is_reverting now.tool.reason) refl stands.applier call where
    by : (b : Bool) → is_reverting now.tool.reason ≡ b → (is_reverting now.tool.reason ≡ true) ⊎ ApplierStands journal work.applier (standing_of plan journal Apply)
        → cond b (rolls_back now.server (live_session journal Apply)) (apply_call plan now.server journal now.tool work) ≡ Some request → Passes (standing_of plan journal Apply).busy request
    by true on had called = back_passes (standing_of plan journal Apply).busy (in_transaction now.server (live_session journal Apply)) request called
    by false off (inl on) called = absurd (true≢false (sym on ∙ off))
    by false off (inr had) called =
        subst (λ (b : Bool). Passes b request) (sym (had.stands).busy)
        (apply_passes work.applier.step request (ap (applier_asks work.applier.step) (apply_called plan journal work request called) ∙ applier_next journal work.applier work.applier.step had.known))

-- AFTER EVERY TURN

pub record AreQuiet (plan : PlanData) (journal : List Entry) : Type 0 where
  pub together : IsTogether plan journal
  pub copier : IsQuietWait (standing_of plan journal Copy)
  pub applier : IsQuietWait (standing_of plan journal Apply)

both_more : (plan : PlanData) (journal : List Entry) (entry : Entry) → IsRun plan journal entry → AreQuiet plan journal → AreQuiet plan (journal ++ entry ∷ [])
unfolding given
both_more plan journal entry run was = record {
  together = together_more plan journal entry was.together run;
  copier = quiet_more plan journal entry was.together run Copy (λ same. no_copy same) (λ asked is. is) (λ request call. copy_so plan journal was.together request (moment plan journal).tool.tool_phase refl (was.together).stands call) was.copier;
  applier = quiet_more plan journal entry was.together run Apply (λ same. no_apply same) (λ asked is. is) (λ request call. apply_so plan journal was.together request (moment plan journal).tool.tool_phase refl (was.together).stands call) was.applier;
} where
  no_copy : Copy ≡ Op → ⊥
  no_copy same = cc

  no_apply : Apply ≡ Op → ⊥
  no_apply same = cc

begins : (plan : PlanData) → AreQuiet plan []
unfolding live_session
begins plan = record { together = together_begins plan; copier = tt; applier = tt }

-- *What the two wait with stores nothing*, after every kept turn
pub all_quiet : (plan : PlanData) (journal : List Entry) → IsKept plan journal → AreQuiet plan journal
unfolding Follows
all_quiet plan journal kept = Along-keeps (IsRun plan) (AreQuiet plan) (λ before entry run was. both_more plan before entry run was) [] journal (all_runs plan [] journal kept.faithful kept.follows) (begins plan)
