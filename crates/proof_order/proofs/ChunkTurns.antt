-- Rows are copied under locks, along every journal that follows the program.
use Rattle.std.proofs.Common.{◌≡◌, ◌⊎◌, ℕ, ◌+◌, Bool, true, false, cond, ◌&&◌, List, [], ◌∷◌, ◌++◌, length, Option, Some, None, refl, sym, ap, ◌∙◌, subst, inl, inr}
use Rattle.std.specs.List.{slice_get}
use Rattle.std.proofs.lemmas.Bool.{true≢false, false≢true}
use Rattle.std.proofs.lemmas.List.Sums.{fold-append}
use Rattle.base_values.specs.declared.span.Bound.{Bound}
use Rattle.base_values.specs.declared.value.Value.{Value}
use Rattle.base_script.specs.declared.actor.Actor.{Actor}
use Rattle.base_script.specs.declared.actor.Actor.TheVariants.{Op, Insp, Copy, Apply, Lock, Ren, Client}
use Rattle.base_script.specs.declared.operator.OperatorWord.{OperatorWord}
use Rattle.base_script.specs.declared.operator.OperatorWord.TheVariants.{ChunkSize}
use Rattle.server_model.specs.Along.{Along}
use Rattle.server_model.specs.Entries.{same_actor, request_in, is_cut, answer_at}
use Rattle.server_model.specs.declared.answer.Answer.{Answer}
use Rattle.server_model.specs.declared.answer.Answer.TheVariants as answers
use Rattle.server_model.specs.declared.entry.Asked.{Asked}
use Rattle.server_model.specs.declared.entry.Asked.TheVariants.{Call, Poll, Command, Cut}
use Rattle.server_model.specs.declared.entry.Entry.{Entry}
use Rattle.server_model.specs.declared.request.Request.{Request}
use Rattle.server_model.specs.declared.request.Request.TheVariants as requests
use Rattle.server_model.specs.States.{State, has_work}
use Rattle.plan_data.specs.PlanData.{PlanData}
use Rattle.tool_program.proofs.JournalWords.Answers.{answer_here}
use Rattle.tool_program.specs.JournalWords.Journals.{state_at}
use Rattle.tool_program.specs.JournalWords.KeptPlans.{words_of}
use Rattle.tool_program.specs.JournalWords.Sessions.{live_session}
use Rattle.tool_program.specs.declared.chunk_copier.copier.Copier.{Copier}
use Rattle.tool_program.specs.declared.chunk_copier.copier.CopyStep.{CopyStep}
use Rattle.tool_program.specs.declared.chunk_copier.copier.CopyStep.TheVariants.{Choosing, Spanning, Copying, Committing}
use Rattle.tool_program.specs.ChunkCopier.Copiers as copiers
use Rattle.tool_program.specs.declared.event_applier.applier.ApplyStep.{ApplyStep}
use Rattle.tool_program.specs.declared.event_applier.applier.ApplyStep.TheVariants.{Reading, Beginning, Applying, Committing as ApplyCommitting}
use Rattle.tool_program.specs.declared.cutover_core.cutover.Hold.{Hold}
use Rattle.tool_program.specs.declared.cutover_core.cutover.Hold.TheVariants.{Nothing, WaitsToGuard, WaitsToLock, Locks}
use Rattle.tool_program.specs.declared.cutover_core.cutover.Phase.{Phase}
use Rattle.tool_program.specs.declared.cutover_core.cutover.Phase.TheVariants.{Resting, Attempting, Ending}
use Rattle.tool_program.specs.declared.cutover_core.cutover.Stage.TheVariants.{Locking, Dropping, Unlocking}
use Rattle.proof_journals.proofs.Machine.CuttingOver.{LockerAsks}
use Rattle.tool_program.specs.CutoverCore.CutOvers.{is_wait}
use Rattle.tool_program.specs.Operators.{is_throttled}
use Rattle.tool_program.specs.Programs as programs
use Rattle.tool_program.specs.Programs.{given, IsGiven, Follows, tool_call, copy_call, apply_call, rolls_back, in_transaction}
use Rattle.tool_program.specs.Setups.{Setup, Listing, Clearing, MakingLog, MakingGhost, Marking, Reaching, Ready, setup_after}
use Rattle.tool_program.specs.Tools.{Work, ToolPhase, SettingUp, Migrating, Tool, Moment, stopped, is_reverting, tool_phase_of, moment}
use Rattle.tool_program.proofs.OnlineCalls.Machines.{ToolPhaseIsNamed, named}
use Rattle.proof_journals.specs.Machine.Machines.{ToolPhaseStands, WorkStands, SetupStands, copier_busy, applier_asks, inspector_asks}
use Rattle.proof_journals.specs.Machine.Standings.{Standing, free, standing_in, standing_of, answered, answers_to, IsAbout, is_called, is_polled}
use Rattle.proof_journals.proofs.Actors.{same_actor_is}
use Rattle.proof_journals.proofs.Machine.Asking.{idle_stands, unless_called, setup_next, renamer_next}
use Rattle.proof_journals.proofs.Machine.Inspecting.{inspector_called}
use Rattle.proof_journals.proofs.Machine.Calling.{reverting_or}
use Rattle.proof_journals.proofs.Machine.Journals.{IsRun, IsTogether, Asking, calls_so, polls_so, asking, all_runs, copy_about, copier_had, apply_about, lock_about, together_more, together_begins}
use Rattle.proof_journals.proofs.Machine.Seated.{IsKnown, IsServed, others_stand, own_stands, own_fits, own_given, own_lost, own_missed, own_session}
use Rattle.proof_journals.proofs.Machine.Tabling.{back_quiet}
use Rattle.proof_journals.proofs.Machine.Polling.{answered_idle}
use Rattle.proof_migration.proofs.ToolPhase.Owners.{commands_operator}
use Rattle.proof_migration.proofs.ToolPhase.ToolPhaseTurns.{Kept, UnfitKeeps, CopyKeeps, SetupKeeps, AnswerKeeps, ResizeKeeps, turn_kept, gives_asked}
use Rattle.proof_migration.proofs.Attempt.Standing.{none_some}
use Rattle.proof_order.specs.ChunkLocks.{CopiedChunk, chunk_after, chunk_at, IsLockedCall, IsLockedTurn, CopiesUnderLocks}
use Rattle.proof_order.specs.Laws.{JournalsCopyUnderLocks}
use Rattle.proof_order.proofs.Chunks.{CopierAt, StepAt, low_of, AsksChunk, calls_it, polls_it, copier_more, took_chunk, unfit_chunk, ends_low, copier_locked}

abbrev pub ToolPhaseChunks : List Entry → CopiedChunk → Option Request → Bool → ToolPhase → Type 0
ToolPhaseChunks journal chunk waits b (SettingUp setup tries) = Unit {0}
ToolPhaseChunks journal chunk waits b (Migrating work) = (b ≡ true) ⊎ CopierAt journal chunk waits work.copier

-- what is so behind every journal
pub record ChunksStand (plan : PlanData) (journal : List Entry) : Type 0 where
  pub together : IsTogether plan journal
  pub tool_phase : ToolPhaseChunks journal (chunk_at journal) (standing_of plan journal Copy).waits (is_reverting (moment plan journal).tool.reason) (moment plan journal).tool.tool_phase

chunk_more : (journal : List Entry) (entry : Entry) → chunk_at (journal ++ entry ∷ []) ≡ chunk_after entry.actor entry.asked entry.answer (chunk_at journal)
unfolding chunk_at
chunk_more journal entry = fold-append (λ chunk entry. chunk_after entry.actor entry.asked entry.answer chunk) _ journal (entry ∷ [])

-- ONE TURN

module _ (plan : PlanData) (journal : List Entry) (entry : Entry) (run : IsRun plan journal entry) (is : ChunksStand plan journal) where
  abbrev now : Moment
  now = moment plan journal

  abbrev tool : Tool
  tool = record now.tool { turns = now.tool.turns + 1 }

  abbrev more : List Entry
  more = journal ++ entry ∷ []

  abbrev has : Actor → Standing
  has = standing_of plan journal

  abbrev now_has : Actor → Standing
  now_has = standing_of plan more

  abbrev New : Kept
  New = λ b tool_phase. ToolPhaseChunks more (chunk_at more) (now_has Copy).waits b tool_phase

  known : IsKnown plan journal
  known = is.together.known

  served : IsServed plan journal entry
  served = record { answered = run.answered; seated = record { session = run.followed.session } }

  work_has : (work : Work) → now.tool.tool_phase ≡ Migrating work → WorkStands journal (is_reverting now.tool.reason) has work
  work_has work eq = subst (ToolPhaseStands journal has (is_reverting now.tool.reason)) eq is.together.stands

  setup_has : (setup : Setup) (tries : List ℕ) → now.tool.tool_phase ≡ SettingUp setup tries → SetupStands has
  setup_has setup tries eq = subst (ToolPhaseStands journal has (is_reverting now.tool.reason)) eq is.together.stands

  old_at : (work : Work) → now.tool.tool_phase ≡ Migrating work → (is_reverting now.tool.reason ≡ true) ⊎ CopierAt journal (chunk_at journal) (has Copy).waits work.copier
  old_at work eq = subst (ToolPhaseChunks journal (chunk_at journal) (has Copy).waits (is_reverting now.tool.reason)) eq is.tool_phase

  -- where nothing is reverted
  going_at : (work : Work) → now.tool.tool_phase ≡ Migrating work → is_reverting now.tool.reason ≡ false → CopierAt journal (chunk_at journal) (has Copy).waits work.copier
  going_at work eq going = by (old_at work eq) where
    by : (is_reverting now.tool.reason ≡ true) ⊎ CopierAt journal (chunk_at journal) (has Copy).waits work.copier → CopierAt journal (chunk_at journal) (has Copy).waits work.copier
    by (inl on) = absurd (true≢false (sym on ∙ going))
    by (inr at) = at

  others_same : (actor : Actor) → entry.actor ≡ actor → same_actor actor Copy ≡ false → now_has Copy ≡ has Copy
  others_same actor who differ = others_stand plan journal entry known served Copy (ap (λ (a : Actor). same_actor a Copy) who ∙ differ)

  -- a turn of another's
  chunk_still : (actor : Actor) → entry.actor ≡ actor → same_actor actor Copy ≡ false → chunk_at more ≡ chunk_at journal
  chunk_still actor who differ = chunk_more journal entry ∙ ap (λ (a : Actor). chunk_after a entry.asked entry.answer (chunk_at journal)) who ∙ by actor differ where
    by : (actor : Actor) → same_actor actor Copy ≡ false → chunk_after actor entry.asked entry.answer (chunk_at journal) ≡ chunk_at journal
    by Copy differ = absurd (true≢false differ)
    by Op differ = refl
    by Insp differ = refl
    by Apply differ = refl
    by Lock differ = refl
    by Ren differ = refl
    by (Client c) differ = refl

  copier_still : (actor : Actor) → entry.actor ≡ actor → same_actor actor Copy ≡ false → (copier : Copier) → CopierAt journal (chunk_at journal) (has Copy).waits copier → CopierAt more (chunk_at more) (now_has Copy).waits copier
  copier_still actor who differ copier at =
      subst (λ (c : CopiedChunk). CopierAt more c (now_has Copy).waits copier) (sym (chunk_still actor who differ))
      (copier_more journal (entry ∷ []) (chunk_at journal) (has Copy).waits (now_has Copy).waits copier (λ request some. ap (λ (s : Standing). s.waits) (sym (others_same actor who differ)) ∙ some) at)

  still_at : (actor : Actor) → entry.actor ≡ actor → same_actor actor Copy ≡ false → (work : Work) → (b : Bool) → (b ≡ true) ⊎ CopierAt journal (chunk_at journal) (has Copy).waits work.copier → New b (Migrating work)
  still_at actor who differ work b (inl on) = inl on
  still_at actor who differ work b (inr at) = inr (copier_still actor who differ work.copier at)

  still : (actor : Actor) → entry.actor ≡ actor → same_actor actor Copy ≡ false → (tool_phase : ToolPhase) → now.tool.tool_phase ≡ tool_phase → New (is_reverting now.tool.reason) tool_phase
  still actor who differ (SettingUp setup tries) eq = tt
  still actor who differ (Migrating work) eq = still_at actor who differ work (is_reverting now.tool.reason) (old_at work eq)

  -- WHAT NO ANSWER CHANGES

  back : (b : Bool) (tool_phase : ToolPhase) → New b tool_phase → New true (stopped tool_phase)
  back b (SettingUp setup tries) at = tt
  back b (Migrating work) at = inl refl

  unfit_at : (work : Work) → New false (Migrating work) → UnfitKeeps New work
  unfit_at work at = record { renamed = λ renamed. at; reverts = inl refl }

  off_at : (work : Work) → is_reverting now.tool.reason ≡ false → New (is_reverting now.tool.reason) (Migrating work) → New false (Migrating work)
  off_at work going at = subst (λ (b : Bool). New b (Migrating work)) going at

  -- THE SETUP

  begins : (size : ℕ) (setup : Setup) (tries : List ℕ) → (now_has Copy).waits ≡ None → New false (tool_phase_of plan size setup tries)
  begins size (Ready position range) tries none = inr (record { follows = tt; step = λ request some. none_some request (now_has Copy).waits none some })
  begins size Listing tries none = tt
  begins size (Clearing left) tries none = tt
  begins size MakingLog tries none = tt
  begins size MakingGhost tries none = tt
  begins size Marking tries none = tt
  begins size (Reaching position) tries none = tt

  setup_turn : (answer : Answer) (setup : Setup) (tries : List ℕ) → now.tool.tool_phase ≡ SettingUp setup tries → entry.actor ≡ Insp → SetupKeeps plan New answer tool setup tries
  setup_turn answer setup tries eq who = record {
    reverting = λ reverting. tt;
    again = λ going bad more_tries. tt;
    goes = λ going good. begins tool.operator.size (setup_after plan.table setup answer) tries (ap (λ (s : Standing). s.waits) (others_same Insp who refl ∙ (setup_has setup tries eq).copier));
  }

  -- THE COPIER

  turn_is : tool.turns ≡ length journal + 1
  turn_is = ap (λ (n : ℕ). n + 1) is.together.turns

  here : answer_at more tool.turns ≡ Some entry.answer
  here = ap (answer_at more) turn_is ∙ answer_here journal entry

  about_own : (request : Request) → entry.actor ≡ Copy → IsAbout request (has Copy) entry.asked → IsAbout request (has entry.actor) entry.asked
  about_own request who about = subst (λ (a : Actor). IsAbout request (has a) entry.asked) (sym who) about

  fits : (request : Request) → entry.actor ≡ Copy → IsAbout request (has Copy) entry.asked → answers_to request entry.answer ≡ true
  fits request who about = own_fits plan journal entry known served request (about_own request who about)

  quiet : (request : Request) → entry.actor ≡ Copy → IsAbout request (has Copy) entry.asked → is_wait entry.answer ≡ false → (now_has Copy).waits ≡ None
  quiet request who about off =
      ap (λ (s : Standing). s.waits) (subst (λ (a : Actor). now_has a ≡ answered request entry.answer (has a)) who (own_stands plan journal entry known served request (about_own request who about)))
      ∙ answered_idle request entry.answer (has Copy) off

  next_of : (work : Work) → now.tool.tool_phase ≡ Migrating work → is_reverting now.tool.reason ≡ false → (request : Request) → tool_call plan now.server journal now.tool now.tool.tool_phase Copy ≡ Some request → copiers.next journal work.copier ≡ Some request
  next_of work eq going request call =
      unless_called (copiers.starts work.copier && is_throttled plan now.server now.tool.operator) (copiers.next journal work.copier) request
      (ap (λ (b : Bool). cond b (rolls_back now.server (live_session journal Copy)) (copy_call plan now.server journal now.tool work)) (sym going) ∙ ap (λ (c : ToolPhase). tool_call plan now.server journal now.tool c Copy) (sym eq) ∙ call)

  copier_table : (work : Work) → now.tool.tool_phase ≡ Migrating work → work.copier.table ≡ plan.table
  copier_table work eq = (subst (ToolPhaseIsNamed plan) eq (named plan journal)).copier

  asks_chunk : (work : Work) → now.tool.tool_phase ≡ Migrating work → is_reverting now.tool.reason ≡ false → (request : Request) → Asking plan journal Copy entry.asked → IsAbout request (has Copy) entry.asked → AsksChunk (low_of journal work.copier.range work.copier.following) (has Copy).waits request entry.asked
  asks_chunk work eq going request asks (is_polled polled some) = polls_it polled some
  asks_chunk work eq going request (polls_so other polled some) (is_called called none) = none_some other (has Copy).waits none some
  asks_chunk work eq going request (calls_so other called_other idle call) (is_called called none) = calls_it called (λ table from top size same. low table from top size same) where
    one : Call other ≡ Call request → other ≡ request
    one both = let same : other ≡ request = cc in same

    low : (table : List ℕ) (from : Bound) (top : List Value) (size : ℕ) → request ≡ requests.ChunkEnd table from top size → from ≡ low_of journal work.copier.range work.copier.following
    low table from top size same =
        ends_low plan journal work.copier (copier_table work eq) table from top size (next_of work eq going other call ∙ ap Some (one (sym called_other ∙ called) ∙ same))

  chunk_own : entry.actor ≡ Copy → chunk_at more ≡ chunk_after Copy entry.asked entry.answer (chunk_at journal)
  chunk_own who = chunk_more journal entry ∙ ap (λ (a : Actor). chunk_after a entry.asked entry.answer (chunk_at journal)) who

  copy_takes : (work : Work) → now.tool.tool_phase ≡ Migrating work → entry.actor ≡ Copy → Asking plan journal Copy entry.asked → is_reverting now.tool.reason ≡ false → CopierAt more (chunk_at more) (now_has Copy).waits (copiers.took tool.turns work.copier entry.answer)
  copy_takes work eq who asks going =
      copy_about plan journal entry is.together run work eq (work_has work eq) going asks (CopierAt more (chunk_at more) (now_has Copy).waits (copiers.took tool.turns work.copier entry.answer))
      (λ request about kind. subst (λ (c : CopiedChunk). CopierAt more c (now_has Copy).waits (copiers.took tool.turns work.copier entry.answer)) (sym (chunk_own who))
      (took_chunk journal entry tool.turns work.copier (chunk_at journal) (has Copy).waits (now_has Copy).waits entry.answer here request entry.asked (asks_chunk work eq going request asks about) kind (quiet request who about) (fits request who about) (going_at work eq going)))

  asked_so : (request : Request) → IsAbout request (has Copy) entry.asked → (entry.asked ≡ Call request) ⊎ (entry.asked ≡ Poll)
  asked_so request (is_called called none) = inl called
  asked_so request (is_polled polled some) = inr polled

  -- what waits is what waited, or the call that was made
  copy_unfit : (work : Work) → now.tool.tool_phase ≡ Migrating work → entry.actor ≡ Copy → Asking plan journal Copy entry.asked → is_reverting now.tool.reason ≡ false → (place number : ℕ) → copiers.progress work.copier entry.answer ≡ Rattle.server_model.specs.declared.outcome.Progress.TheVariants.Unfit place number
      → New false (Migrating work)
  unfolding copiers.progress
  copy_unfit work eq who asks going place number unfit =
      copy_about plan journal entry is.together run work eq (work_has work eq) going asks (New false (Migrating work))
      (λ request about kind. inr (subst (λ (c : CopiedChunk). CopierAt more c (now_has Copy).waits work.copier) (sym (chunk_own who ∙ unfit_chunk work.copier entry.asked entry.answer request (chunk_at journal) place number kind (asked_so request about) unfit))
      (copier_more journal (entry ∷ []) (chunk_at journal) (has Copy).waits (now_has Copy).waits work.copier (λ other some. none_some other (now_has Copy).waits (quiet request who about (refused entry.answer unfit)) some) (going_at work eq going)))) where
        refused : (answer : Answer) → copiers.progress work.copier answer ≡ Rattle.server_model.specs.declared.outcome.Progress.TheVariants.Unfit place number → is_wait answer ≡ false
        refused answer unfit = by work.copier.step answer unfit where
          by : (step : CopyStep) (answer : Answer) → copiers.progress_at step answer ≡ Rattle.server_model.specs.declared.outcome.Progress.TheVariants.Unfit place number → is_wait answer ≡ false
          by step (answers.Waits blocker) unfit = absurd cc
          by step answer unfit = refl

  copy_turn : (work : Work) → now.tool.tool_phase ≡ Migrating work → entry.actor ≡ Copy → Asking plan journal Copy entry.asked → CopyKeeps New entry.answer tool work
  copy_turn work eq who asks =
      record { reverting = λ reverting. inl refl; unfit = λ going place number unfit. unfit_at work (copy_unfit work eq who asks going place number unfit); took = λ going one tries. inr (copy_takes work eq who asks going) }

  lost_answer : entry.asked ≡ Cut → entry.answer ≡ answers.Lost
  lost_answer cut = by entry.side refl where
    by : (side : Option Rattle.base_script.specs.declared.actor.Side.Side) → entry.side ≡ side → entry.answer ≡ answers.Lost
    by (Some side) some = own_missed plan journal entry known served side some
    by None none = sym (own_given plan journal entry known served none) ∙ ap (λ (a : Asked). (Rattle.server_model.specs.PlainServer.serves (Rattle.tool_program.specs.JournalWords.Journals.opens entry (state_at plan journal)) entry.session a).answer) cut

  chunk_cut : entry.actor ≡ Copy → entry.asked ≡ Cut → chunk_at more ≡ record (chunk_at journal) { keys = None }
  chunk_cut who cut = chunk_own who ∙ ap (λ (a : Asked). chunk_after Copy a entry.answer (chunk_at journal)) cut ∙ ap (λ (a : Answer). chunk_after Copy Cut a (chunk_at journal)) (lost_answer cut)

  none_waits : entry.actor ≡ Copy → entry.asked ≡ Cut → (now_has Copy).waits ≡ None
  none_waits who cut = ap (λ (s : Standing). s.waits) (subst (λ (a : Actor). now_has a ≡ free) who (own_lost plan journal entry known served cut))

  copy_lost : (work : Work) → now.tool.tool_phase ≡ Migrating work → entry.actor ≡ Copy → entry.asked ≡ Cut → CopyKeeps New answers.Lost tool work
  unfolding copiers.took copiers.progress
  copy_lost work eq who cut = record {
    reverting = λ reverting. inl refl;
    unfit = λ going place number unfit. absurd cc;
    took = λ going one tries. inr (record {
      follows = (copier_more journal (entry ∷ []) (chunk_at journal) (has Copy).waits None work.copier (λ request some. absurd cc) (going_at work eq going)).follows;
      step = λ request some. none_some request (now_has Copy).waits (none_waits who cut) some;
    });
  }

  -- a session that is lost without work had no transaction
  cut_step : (step : CopyStep) (low : Bound) → copier_busy step ≡ false → StepAt more (chunk_at journal) None low step → StepAt more (record (chunk_at journal) { keys = None }) None low step
  cut_step Choosing low free at = λ request some. absurd cc
  cut_step (Spanning reported size) low free at = at
  cut_step (Copying chunk copied) low free at = absurd (true≢false free)
  cut_step (Committing chunk) low free at = absurd (true≢false free)

  idle_had : entry.asked ≡ Cut → has_work now.server entry.session ≡ false → has entry.actor ≡ free
  idle_had cut none =
      ap (standing_in (state_at plan journal)) (own_session plan journal entry known served (ap is_cut cut)) ∙ idle_stands (state_at plan journal) entry.session (ap (λ (s : State). has_work s entry.session) (sym is.together.server) ∙ none)

  idle_copier : (work : Work) → now.tool.tool_phase ≡ Migrating work → entry.actor ≡ Copy → entry.asked ≡ Cut → has_work now.server entry.session ≡ false → New (is_reverting now.tool.reason) (Migrating work)
  idle_copier work eq who cut none = by (is_reverting now.tool.reason) refl where
    by : (b : Bool) → is_reverting now.tool.reason ≡ b → New b (Migrating work)
    by true on = inl refl
    by false going =
        let at : CopierAt more (chunk_at journal) None work.copier = copier_more journal (entry ∷ []) (chunk_at journal) (has Copy).waits None work.copier (λ request some. absurd cc) (going_at work eq going) in
        let rests : copier_busy work.copier.step ≡ false = sym (copier_had plan journal entry is.together run work (work_has work eq) going).busy ∙ ap (λ (s : Standing). s.busy) (ap has (sym who) ∙ idle_had cut none) in
        inr
        (subst (λ (c : CopiedChunk). CopierAt more c (now_has Copy).waits work.copier) (sym (chunk_cut who cut))
        (subst (λ (w : Option Request). CopierAt more (record (chunk_at journal) { keys = None }) w work.copier) (sym (none_waits who cut))
        (record { follows = at.follows; step = cut_step work.copier.step (low_of more work.copier.range work.copier.following) rests at.step })))

  -- EVERY ACTOR

  other_cut : (actor : Actor) → entry.actor ≡ actor → same_actor actor Copy ≡ false → (answer : Answer) (tool_phase : ToolPhase) → now.tool.tool_phase ≡ tool_phase → AnswerKeeps plan New answer tool actor tool_phase
  other_cut Insp who differ answer (SettingUp setup tries) eq = setup_turn answer setup tries eq who
  other_cut Insp who differ answer (Migrating work) eq = λ tries. still Insp who refl (Migrating work) eq
  other_cut Copy who differ answer tool_phase eq = absurd (true≢false differ)
  other_cut Apply who differ answer (SettingUp setup tries) eq = tt
  other_cut Apply who differ answer (Migrating work) eq = record {
    reverting = λ reverting. inl refl;
    unfit = λ going place number unfit. unfit_at work (off_at work going (still Apply who refl (Migrating work) eq));
    took = λ going one tries. off_at work going (still Apply who refl (Migrating work) eq);
  }
  other_cut Lock who differ answer (SettingUp setup tries) eq = tt
  other_cut Lock who differ answer (Migrating work) eq = λ tries. still Lock who refl (Migrating work) eq
  other_cut Ren who differ answer (SettingUp setup tries) eq = tt
  other_cut Ren who differ answer (Migrating work) eq = λ tries. still Ren who refl (Migrating work) eq
  other_cut Op who differ answer (SettingUp setup tries) eq = tt
  other_cut Op who differ answer (Migrating work) eq = still Op who refl (Migrating work) eq
  other_cut (Client c) who differ answer (SettingUp setup tries) eq = tt
  other_cut (Client c) who differ answer (Migrating work) eq = still (Client c) who refl (Migrating work) eq

  heard_at : given plan journal entry.actor ≡ Some entry.asked → AnswerKeeps plan New entry.answer tool entry.actor now.tool.tool_phase
  unfolding given
  heard_at gives = by entry.actor refl gives where
    copier_heard : entry.actor ≡ Copy → Asking plan journal Copy entry.asked → (tool_phase : ToolPhase) → now.tool.tool_phase ≡ tool_phase → AnswerKeeps plan New entry.answer tool Copy tool_phase
    copier_heard who asks (SettingUp setup tries) eq = tt
    copier_heard who asks (Migrating work) eq = copy_turn work eq who asks

    by : (actor : Actor) → entry.actor ≡ actor → given plan journal actor ≡ Some entry.asked → AnswerKeeps plan New entry.answer tool actor now.tool.tool_phase
    by Copy who gives = copier_heard who (asking plan journal Copy entry.asked is.together.server gives) now.tool.tool_phase refl
    by Insp who gives = other_cut Insp who refl entry.answer now.tool.tool_phase refl
    by Apply who gives = other_cut Apply who refl entry.answer now.tool.tool_phase refl
    by Lock who gives = other_cut Lock who refl entry.answer now.tool.tool_phase refl
    by Ren who gives = other_cut Ren who refl entry.answer now.tool.tool_phase refl
    by Op who gives = other_cut Op who refl entry.answer now.tool.tool_phase refl
    by (Client c) who gives = other_cut (Client c) who refl entry.answer now.tool.tool_phase refl

  lost_at : entry.asked ≡ Cut → AnswerKeeps plan New answers.Lost tool entry.actor now.tool.tool_phase
  lost_at cut = by entry.actor refl where
    copier_lost : entry.actor ≡ Copy → (tool_phase : ToolPhase) → now.tool.tool_phase ≡ tool_phase → AnswerKeeps plan New answers.Lost tool Copy tool_phase
    copier_lost who (SettingUp setup tries) eq = tt
    copier_lost who (Migrating work) eq = copy_lost work eq who cut

    by : (actor : Actor) → entry.actor ≡ actor → AnswerKeeps plan New answers.Lost tool actor now.tool.tool_phase
    by Copy who = copier_lost who now.tool.tool_phase refl
    by Insp who = other_cut Insp who refl answers.Lost now.tool.tool_phase refl
    by Apply who = other_cut Apply who refl answers.Lost now.tool.tool_phase refl
    by Lock who = other_cut Lock who refl answers.Lost now.tool.tool_phase refl
    by Ren who = other_cut Ren who refl answers.Lost now.tool.tool_phase refl
    by Op who = other_cut Op who refl answers.Lost now.tool.tool_phase refl
    by (Client c) who = other_cut (Client c) who refl answers.Lost now.tool.tool_phase refl

  idle_at : entry.asked ≡ Cut → has_work now.server entry.session ≡ false → (tool_phase : ToolPhase) → now.tool.tool_phase ≡ tool_phase → New (is_reverting now.tool.reason) tool_phase
  idle_at cut none (SettingUp setup tries) eq = tt
  idle_at cut none (Migrating work) eq = by (same_actor entry.actor Copy) refl where
    by : (b : Bool) → same_actor entry.actor Copy ≡ b → New (is_reverting now.tool.reason) (Migrating work)
    by true same = idle_copier work eq (same_actor_is entry.actor Copy same) cut none
    by false differ = still entry.actor refl differ (Migrating work) eq

  commands : (word : OperatorWord) → entry.asked ≡ Command word → entry.actor ≡ Op
  commands word asks = commands_operator plan journal entry.actor word (subst (IsGiven plan journal entry) asks run.followed.given)

  resize_at : (size : ℕ) → entry.asked ≡ Command (ChunkSize size) → (tool_phase : ToolPhase) → now.tool.tool_phase ≡ tool_phase → ResizeKeeps New tool size tool_phase
  resize_at size asks (SettingUp setup tries) eq = tt
  resize_at size asks (Migrating work) eq = by (still Op (commands (ChunkSize size) asks) refl (Migrating work) eq) where
    by : New (is_reverting now.tool.reason) (Migrating work) → New (is_reverting now.tool.reason) (Migrating (record work { copier = copiers.resized size work.copier }))
    by (inl on) = inl on
    by (inr at) = inr (record { follows = at.follows; step = at.step })

  -- *One turn more*
  pub chunks_more : ChunksStand plan more
  chunks_more = record {
    together = together_more plan journal entry is.together run;
    tool_phase =
        turn_kept plan New back journal entry (λ b work tries at. at)
        (record {
          commanded = λ word asks unsized. still Op (commands word asks) refl now.tool.tool_phase refl;
          resized = λ size asks. resize_at size asks now.tool.tool_phase refl;
          idle = λ asks none. idle_at asks none now.tool.tool_phase refl;
          lost = λ asks worked. lost_at asks;
          heard = λ called commanded. heard_at (gives_asked plan journal entry entry.asked run.followed.given refl called);
        });
  }

  -- WHAT IS CALLED

  abbrev Locked : Actor → Request → Type 0
  Locked actor request = IsLockedCall plan journal actor request

  inspector_kind : (request : Request) → inspector_asks request ≡ true → Locked Insp request
  inspector_kind (requests.Do statement) kind = tt
  inspector_kind (requests.Ends table) kind = tt
  inspector_kind (requests.Create schema) kind = tt
  inspector_kind (requests.Drop name) kind = tt
  inspector_kind requests.LogEnd kind = tt
  inspector_kind requests.ShowTables kind = tt
  inspector_kind requests.ShowWaiting kind = tt
  inspector_kind (requests.ShowCounter table) kind = tt
  inspector_kind (requests.SetCounter table least) kind = tt
  inspector_kind request kind = absurd (false≢true kind)

  applier_kind : (step : ApplyStep) (request : Request) → applier_asks step request ≡ true → Locked Apply request
  applier_kind Reading (requests.ReadLog position limit tables) kind = tt
  applier_kind (Beginning batch) requests.Begin kind = tt
  applier_kind (Applying batch done part) (requests.Do statement) kind = tt
  applier_kind (ApplyCommitting batch) requests.Commit kind = tt
  applier_kind step request kind = absurd (false≢true kind)

  locker_kind : (table : List ℕ) (hold : Hold) (phase : Phase) (request : Request) → LockerAsks table hold phase request → Locked Lock request
  locker_kind table Nothing Resting request kind = subst (Locked Lock) (sym kind) tt
  locker_kind table Nothing (Attempting Locking) request kind = subst (Locked Lock) (sym kind) tt
  locker_kind table Nothing phase request kind = absurd kind
  locker_kind table WaitsToGuard phase request kind = subst (Locked Lock) (sym kind) tt
  locker_kind table WaitsToLock phase request kind = subst (Locked Lock) (sym kind) tt
  locker_kind table Locks (Attempting Dropping) request kind = subst (Locked Lock) (sym kind) tt
  locker_kind table Locks (Attempting Unlocking) request kind = subst (Locked Lock) (sym kind) tt
  locker_kind table Locks (Ending clearing) request kind = subst (Locked Lock) (sym kind) tt
  locker_kind table Locks phase request kind = absurd kind

  called_one : (other request : Request) → Call other ≡ Call request → other ≡ request
  called_one other request both = let one : other ≡ request = cc in one

  -- a call among those that the turn may be about
  about_called : (actor : Actor) (request other : Request) → entry.asked ≡ Call request → IsAbout other (has actor) entry.asked → Locked actor other → Locked actor request
  about_called actor request other asked (is_called called none) locked = subst (Locked actor) (called_one other request (sym called ∙ asked)) locked
  about_called actor request other asked (is_polled polled some) locked = absurd (no (sym polled ∙ asked)) where
    no : Poll ≡ Call request → ⊥
    no both = cc

  inspector_call : (request : Request) (tool_phase : ToolPhase) → tool_call plan now.server journal now.tool tool_phase Insp ≡ Some request → Locked Insp request
  inspector_call request (SettingUp setup tries) call = inspector_kind request (setup_next plan (is_reverting now.tool.reason) setup request call)
  inspector_call request (Migrating work) call = inspector_kind request (inspector_called plan journal now.tool work request call).0

  applier_call : (request : Request) (tool_phase : ToolPhase) → now.tool.tool_phase ≡ tool_phase → entry.asked ≡ Call request → Asking plan journal Apply entry.asked → tool_call plan now.server journal now.tool tool_phase Apply ≡ Some request → Locked Apply request
  applier_call request (SettingUp setup tries) eq asked asks call = absurd cc
  applier_call request (Migrating work) eq asked asks call =
      reverting_or (Locked Apply request) (is_reverting now.tool.reason) (rolls_back now.server (live_session journal Apply)) (apply_call plan now.server journal now.tool work) request call
      (λ reverting back. subst (Locked Apply) (sym (back_quiet (in_transaction now.server (live_session journal Apply)) request back)) tt)
      (λ going calls. apply_about plan journal entry is.together run work eq (work_has work eq) going asks (Locked Apply request) (λ other about kind. about_called Apply request other asked about (applier_kind work.applier.step other kind)))

  copier_call : (request : Request) (tool_phase : ToolPhase) → now.tool.tool_phase ≡ tool_phase → tool_call plan now.server journal now.tool tool_phase Copy ≡ Some request → Locked Copy request
  copier_call request (SettingUp setup tries) eq call = absurd cc
  copier_call request (Migrating work) eq call =
      reverting_or (Locked Copy request) (is_reverting now.tool.reason) (rolls_back now.server (live_session journal Copy)) (copy_call plan now.server journal now.tool work) request call
      (λ reverting back. subst (Locked Copy) (sym (back_quiet (in_transaction now.server (live_session journal Copy)) request back)) tt)
      (λ going calls. copier_locked plan journal work.copier (copier_table work eq) (has Copy).waits request (going_at work eq going)
      (unless_called (copiers.starts work.copier && is_throttled plan now.server now.tool.operator) (copiers.next journal work.copier) request calls))

  locker_call : (request : Request) (tool_phase : ToolPhase) → now.tool.tool_phase ≡ tool_phase → entry.asked ≡ Call request → Asking plan journal Lock entry.asked → tool_call plan now.server journal now.tool tool_phase Lock ≡ Some request → Locked Lock request
  locker_call request (SettingUp setup tries) eq asked asks call = absurd cc
  locker_call request (Migrating work) eq asked asks call =
      lock_about plan journal entry is.together run work eq (work_has work eq) asks (Locked Lock request) (λ other about kind. about_called Lock request other asked about (locker_kind work.cutover.table work.cutover.hold work.cutover.phase other kind))

  renamer_call : (request : Request) (tool_phase : ToolPhase) → tool_call plan now.server journal now.tool tool_phase Ren ≡ Some request → Locked Ren request
  renamer_call request (SettingUp setup tries) call = absurd cc
  renamer_call request (Migrating work) call = subst (Locked Ren) (sym (renamer_next work.cutover request call)) tt

  from_calls : (actor : Actor) → IsLockedTurn plan journal actor None → ((request : Request) → entry.asked ≡ Call request → tool_call plan now.server journal now.tool now.tool.tool_phase actor ≡ Some request → IsLockedTurn plan journal actor (Some request)) → Asking plan journal actor entry.asked → IsLockedTurn plan journal actor (request_in entry.asked)
  from_calls actor none each (calls_so request asks idle call) = subst (λ (a : Asked). IsLockedTurn plan journal actor (request_in a)) (sym asks) (each request asks call)
  from_calls actor none each (polls_so request asks some) = subst (λ (a : Asked). IsLockedTurn plan journal actor (request_in a)) (sym asks) none

  given_turn : (actor : Actor) → given plan journal actor ≡ Some entry.asked → IsLockedTurn plan journal actor (request_in entry.asked)
  unfolding given
  given_turn Insp gives = from_calls Insp tt (λ request asks call. inspector_call request now.tool.tool_phase call) (asking plan journal Insp entry.asked is.together.server gives)
  given_turn Copy gives = from_calls Copy tt (λ request asks call. copier_call request now.tool.tool_phase refl call) (asking plan journal Copy entry.asked is.together.server gives)
  given_turn Apply gives =
      let asks_so : Asking plan journal Apply entry.asked = asking plan journal Apply entry.asked is.together.server gives in from_calls Apply tt (λ request asks call. applier_call request now.tool.tool_phase refl asks asks_so call) asks_so
  given_turn Lock gives =
      let asks_so : Asking plan journal Lock entry.asked = asking plan journal Lock entry.asked is.together.server gives in from_calls Lock tt (λ request asks call. locker_call request now.tool.tool_phase refl asks asks_so call) asks_so
  given_turn Ren gives = from_calls Ren tt (λ request asks call. renamer_call request now.tool.tool_phase call) (asking plan journal Ren entry.asked is.together.server gives)
  given_turn Op gives = by (slice_get (words_of plan) (moment plan journal).tool.operator.taken) entry.asked gives where
    by : (word : Option OperatorWord) (asked : Asked) → programs.commands word ≡ Some asked → IsLockedTurn plan journal Op (request_in asked)
    by None asked gives = absurd cc
    by (Some word) (Command other) gives = tt
    by (Some word) (Call request) gives = absurd cc
    by (Some word) Poll gives = tt
    by (Some word) Cut gives = tt
  given_turn (Client c) gives = tt

  uncalled : (actor : Actor) → IsLockedTurn plan journal actor None
  uncalled Op = tt
  uncalled Insp = tt
  uncalled Copy = tt
  uncalled Apply = tt
  uncalled Lock = tt
  uncalled Ren = tt
  uncalled (Client c) = tt

  pub locked_turn : IsLockedTurn plan journal entry.actor (request_in entry.asked)
  locked_turn = by entry.asked refl run.followed.given where
    by : (asked : Asked) → entry.asked ≡ asked → IsGiven plan journal entry asked → IsLockedTurn plan journal entry.actor (request_in entry.asked)
    by Cut asks gives = subst (λ (a : Asked). IsLockedTurn plan journal entry.actor (request_in a)) (sym asks) (uncalled entry.actor)
    by (Call request) asks gives = given_turn entry.actor (gives ∙ ap Some (sym asks))
    by Poll asks gives = given_turn entry.actor (gives ∙ ap Some (sym asks))
    by (Command word) asks gives = given_turn entry.actor (gives ∙ ap Some (sym asks))

-- WHOLE JOURNALS

chunks_begin : (plan : PlanData) → ChunksStand plan []
unfolding moment
chunks_begin plan = record { together = together_begins plan; tool_phase = tt }

along : (plan : PlanData) (before entries : List Entry) → ChunksStand plan before → Along (IsRun plan) before entries → Along (λ front entry. IsLockedTurn plan front entry.actor (request_in entry.asked)) before entries
along plan before [] is runs = tt
along plan before (first ∷ entries) is runs = (locked_turn plan before first runs.0 is, along plan (before ++ first ∷ []) entries (chunks_more plan before first runs.0 is) runs.1)

-- *Journals copy under locks*
pub copies_locked : JournalsCopyUnderLocks
unfolding CopiesUnderLocks Follows
copies_locked plan journal faithful follows = along plan [] journal (chunks_begin plan) (all_runs plan [] journal faithful follows)
