-- What is logged as inserted is applied as REPLACE, along every journal that follows the program.
use Rattle.std.proofs.Common.{◌≡◌, ◌⊎◌, ℕ, ◌+◌, Bool, true, false, cond, List, [], ◌∷◌, ◌++◌, length, Option, Some, None, refl, sym, ap, ◌∙◌, subst, inl, inr}
use Rattle.std.proofs.lemmas.Bool.{true≢false}
use Rattle.std.proofs.lemmas.List.Sums.{fold-append}
use Rattle.base_script.specs.declared.actor.Actor.{Actor}
use Rattle.base_script.specs.declared.actor.Actor.TheVariants.{Op, Insp, Copy, Apply, Lock, Ren, Client}
use Rattle.base_script.specs.declared.operator.OperatorWord.{OperatorWord}
use Rattle.base_script.specs.declared.operator.OperatorWord.TheVariants.{ChunkSize}
use Rattle.server_model.specs.Along.{Along}
use Rattle.server_model.specs.Entries.{same_actor, request_in, answer_at}
use Rattle.server_model.specs.declared.answer.Answer.{Answer}
use Rattle.server_model.specs.declared.answer.Answer.TheVariants as answers
use Rattle.server_model.specs.declared.entry.Asked.{Asked}
use Rattle.server_model.specs.declared.entry.Asked.TheVariants.{Call, Poll, Command, Cut}
use Rattle.server_model.specs.declared.entry.Entry.{Entry}
use Rattle.server_model.specs.declared.outcome.Progress.TheVariants.{Unfit}
use Rattle.server_model.specs.declared.request.Request.{Request}
use Rattle.plan_data.specs.PlanData.{PlanData}
use Rattle.tool_program.proofs.JournalWords.Answers.{answer_here}
use Rattle.tool_program.specs.JournalWords.Sessions.{live_session}
use Rattle.tool_program.specs.EventApplier.Appliers as appliers
use Rattle.tool_program.specs.CutoverCore.CutOvers.{is_wait}
use Rattle.tool_program.specs.Programs.{given, IsGiven, Follows, tool_call, apply_call, rolls_back, in_transaction}
use Rattle.tool_program.specs.Setups.{Setup, Listing, Clearing, MakingLog, MakingGhost, Marking, Reaching, Ready, setup_after}
use Rattle.tool_program.specs.Tools.{Work, ToolPhase, SettingUp, Migrating, Tool, Moment, stopped, is_reverting, tool_phase_of, moment}
use Rattle.tool_program.proofs.OnlineCalls.Machines.{ToolPhaseIsNamed, named}
use Rattle.proof_journals.specs.Machine.Machines.{ToolPhaseStands, WorkStands, applier_asks}
use Rattle.proof_journals.specs.Machine.Standings.{Standing, free, standing_of, answered, IsAbout, is_called, is_polled}
use Rattle.proof_journals.proofs.Actors.{same_actor_is}
use Rattle.proof_journals.proofs.Machine.Calling.{reverting_or}
use Rattle.proof_journals.proofs.Machine.Journals.{IsRun, IsTogether, Asking, calls_so, polls_so, asking, apply_called, all_runs, apply_about, together_more, together_begins}
use Rattle.proof_journals.proofs.Machine.Seated.{IsKnown, IsServed, others_stand, own_stands, own_lost}
use Rattle.proof_journals.proofs.Machine.Tabling.{back_quiet}
use Rattle.proof_journals.proofs.Machine.Polling.{answered_idle}
use Rattle.proof_migration.proofs.ToolPhase.Owners.{commands_operator}
use Rattle.proof_migration.proofs.ToolPhase.ToolPhaseTurns.{Kept, UnfitKeeps, ApplyKeeps, SetupKeeps, AnswerKeeps, ResizeKeeps, turn_kept, gives_asked}
use Rattle.proof_migration.proofs.Attempt.Standing.{none_some}
use Rattle.proof_order.specs.AppliedRows.{AppliedBatch, batch_after, batch_at, IsAppliedCall, IsAppliedTurn, AppliesInserts}
use Rattle.proof_order.specs.Laws.{JournalsApplyInserts}
use Rattle.proof_order.proofs.Batches.{ApplierAt, AsksNext, calls_it, polls_it, applier_more, took_batch, unfit_batch, applier_applies}
use Rattle.proof_order.proofs.Needs.{NeedsNames, needs_more}

abbrev pub ToolPhaseBatches : PlanData → List Entry → AppliedBatch → Option Request → Bool → ToolPhase → Type 0
ToolPhaseBatches plan journal batch waits b (SettingUp setup tries) = Unit {0}
ToolPhaseBatches plan journal batch waits b (Migrating work) = (b ≡ true) ⊎ ApplierAt plan journal batch waits work.applier

-- what is so behind every journal
pub record BatchesStand (plan : PlanData) (journal : List Entry) : Type 0 where
  pub together : IsTogether plan journal
  pub needs : NeedsNames plan journal
  pub tool_phase : ToolPhaseBatches plan journal (batch_at journal) (standing_of plan journal Apply).waits (is_reverting (moment plan journal).tool.reason) (moment plan journal).tool.tool_phase

batch_more : (journal : List Entry) (entry : Entry) → batch_at (journal ++ entry ∷ []) ≡ batch_after entry.actor entry.asked entry.answer (batch_at journal)
unfolding batch_at
batch_more journal entry = fold-append (λ batch entry. batch_after entry.actor entry.asked entry.answer batch) _ journal (entry ∷ [])

called_one : (other request : Request) → Call other ≡ Call request → other ≡ request
called_one other request both = let one : other ≡ request = cc in one

-- ONE TURN

module _ (plan : PlanData) (journal : List Entry) (entry : Entry) (run : IsRun plan journal entry) (is : BatchesStand plan journal) where
  abbrev now : Moment
  now = moment plan journal

  abbrev tool : Tool
  tool = record now.tool { turns = now.tool.turns + 1 }

  abbrev more : List Entry
  more = journal ++ entry ∷ []

  abbrev has : Actor → Standing
  has = standing_of plan journal

  abbrev now_has : Actor → Standing
  now_has = standing_of plan more

  abbrev New : Kept
  New = λ b tool_phase. ToolPhaseBatches plan more (batch_at more) (now_has Apply).waits b tool_phase

  known : IsKnown plan journal
  known = is.together.known

  served : IsServed plan journal entry
  served = record { answered = run.answered; seated = record { session = run.followed.session } }

  work_has : (work : Work) → now.tool.tool_phase ≡ Migrating work → WorkStands journal (is_reverting now.tool.reason) has work
  work_has work eq = subst (ToolPhaseStands journal has (is_reverting now.tool.reason)) eq is.together.stands

  old_at : (work : Work) → now.tool.tool_phase ≡ Migrating work → (is_reverting now.tool.reason ≡ true) ⊎ ApplierAt plan journal (batch_at journal) (has Apply).waits work.applier
  old_at work eq = subst (ToolPhaseBatches plan journal (batch_at journal) (has Apply).waits (is_reverting now.tool.reason)) eq is.tool_phase

  -- where nothing is reverted
  going_at : (work : Work) → now.tool.tool_phase ≡ Migrating work → is_reverting now.tool.reason ≡ false → ApplierAt plan journal (batch_at journal) (has Apply).waits work.applier
  going_at work eq going = by (old_at work eq) where
    by : (is_reverting now.tool.reason ≡ true) ⊎ ApplierAt plan journal (batch_at journal) (has Apply).waits work.applier → ApplierAt plan journal (batch_at journal) (has Apply).waits work.applier
    by (inl on) = absurd (true≢false (sym on ∙ going))
    by (inr at) = at

  -- a turn of another's
  others_same : (actor : Actor) → entry.actor ≡ actor → same_actor actor Apply ≡ false → now_has Apply ≡ has Apply
  others_same actor who differ = others_stand plan journal entry known served Apply (ap (λ (a : Actor). same_actor a Apply) who ∙ differ)

  batch_still : (actor : Actor) → entry.actor ≡ actor → same_actor actor Apply ≡ false → batch_at more ≡ batch_at journal
  batch_still actor who differ = batch_more journal entry ∙ ap (λ (a : Actor). batch_after a entry.asked entry.answer (batch_at journal)) who ∙ by actor differ where
    by : (actor : Actor) → same_actor actor Apply ≡ false → batch_after actor entry.asked entry.answer (batch_at journal) ≡ batch_at journal
    by Apply differ = absurd (true≢false differ)
    by Op differ = refl
    by Insp differ = refl
    by Copy differ = refl
    by Lock differ = refl
    by Ren differ = refl
    by (Client c) differ = refl

  still_at : (actor : Actor) → entry.actor ≡ actor → same_actor actor Apply ≡ false → (work : Work) → (b : Bool) → (b ≡ true) ⊎ ApplierAt plan journal (batch_at journal) (has Apply).waits work.applier → New b (Migrating work)
  still_at actor who differ work b (inl on) = inl on
  still_at actor who differ work b (inr at) =
      inr (subst (λ (c : AppliedBatch). ApplierAt plan more c (now_has Apply).waits work.applier) (sym (batch_still actor who differ))
      (applier_more plan journal (entry ∷ []) (batch_at journal) (has Apply).waits (now_has Apply).waits work.applier (λ request some. ap (λ (s : Standing). s.waits) (sym (others_same actor who differ)) ∙ some) at))

  still : (actor : Actor) → entry.actor ≡ actor → same_actor actor Apply ≡ false → (tool_phase : ToolPhase) → now.tool.tool_phase ≡ tool_phase → New (is_reverting now.tool.reason) tool_phase
  still actor who differ (SettingUp setup tries) eq = tt
  still actor who differ (Migrating work) eq = still_at actor who differ work (is_reverting now.tool.reason) (old_at work eq)

  -- WHAT NO ANSWER CHANGES

  back : (b : Bool) (tool_phase : ToolPhase) → New b tool_phase → New true (stopped tool_phase)
  back b (SettingUp setup tries) at = tt
  back b (Migrating work) at = inl refl

  unfit_at : (work : Work) → New false (Migrating work) → UnfitKeeps New work
  unfit_at work at = record { renamed = λ renamed. at; reverts = inl refl }

  off_at : (work : Work) → is_reverting now.tool.reason ≡ false → New (is_reverting now.tool.reason) (Migrating work) → New false (Migrating work)
  off_at work going at = subst (λ (b : Bool). New b (Migrating work)) going at

  -- THE SETUP

  begins : (size : ℕ) (setup : Setup) (tries : List ℕ) → New false (tool_phase_of plan size setup tries)
  begins size (Ready position range) tries = inr (record { map = refl; step = tt })
  begins size Listing tries = tt
  begins size (Clearing left) tries = tt
  begins size MakingLog tries = tt
  begins size MakingGhost tries = tt
  begins size Marking tries = tt
  begins size (Reaching position) tries = tt

  setup_turn : (answer : Answer) (setup : Setup) (tries : List ℕ) → SetupKeeps plan New answer tool setup tries
  setup_turn answer setup tries = record { reverting = λ reverting. tt; again = λ going bad more_tries. tt; goes = λ going good. begins tool.operator.size (setup_after plan.table setup answer) tries }

  -- THE APPLIER

  turn_is : tool.turns ≡ length journal + 1
  turn_is = ap (λ (n : ℕ). n + 1) is.together.turns

  here : answer_at more tool.turns ≡ Some entry.answer
  here = ap (answer_at more) turn_is ∙ answer_here journal entry

  about_own : (request : Request) → entry.actor ≡ Apply → IsAbout request (has Apply) entry.asked → IsAbout request (has entry.actor) entry.asked
  about_own request who about = subst (λ (a : Actor). IsAbout request (has a) entry.asked) (sym who) about

  quiet : (request : Request) → entry.actor ≡ Apply → IsAbout request (has Apply) entry.asked → is_wait entry.answer ≡ false → (now_has Apply).waits ≡ None
  quiet request who about off =
      ap (λ (s : Standing). s.waits) (subst (λ (a : Actor). now_has a ≡ answered request entry.answer (has a)) who (own_stands plan journal entry known served request (about_own request who about)))
      ∙ answered_idle request entry.answer (has Apply) off

  next_of : (work : Work) → now.tool.tool_phase ≡ Migrating work → is_reverting now.tool.reason ≡ false → (request : Request) → tool_call plan now.server journal now.tool now.tool.tool_phase Apply ≡ Some request → request ≡ appliers.next journal work.applier
  next_of work eq going request call =
      apply_called plan journal work request
      (ap (λ (b : Bool). cond b (rolls_back now.server (live_session journal Apply)) (apply_call plan now.server journal now.tool work)) (sym going) ∙ ap (λ (c : ToolPhase). tool_call plan now.server journal now.tool c Apply) (sym eq) ∙ call)

  named_so : (work : Work) → now.tool.tool_phase ≡ Migrating work → ToolPhaseIsNamed plan (Migrating work)
  named_so work eq = subst (ToolPhaseIsNamed plan) eq (named plan journal)

  asks_next : (work : Work) → now.tool.tool_phase ≡ Migrating work → is_reverting now.tool.reason ≡ false → (request : Request) → Asking plan journal Apply entry.asked → IsAbout request (has Apply) entry.asked → AsksNext journal work.applier (has Apply).waits request entry.asked
  asks_next work eq going request asks (is_polled polled some) = polls_it polled some (is.needs request some)
  asks_next work eq going request (polls_so other polled some) (is_called called none) = none_some other (has Apply).waits none some
  asks_next work eq going request (calls_so other called_other idle call) (is_called called none) = calls_it called (sym (called_one other request (sym called_other ∙ called)) ∙ next_of work eq going other call)

  batch_own : entry.actor ≡ Apply → batch_at more ≡ batch_after Apply entry.asked entry.answer (batch_at journal)
  batch_own who = batch_more journal entry ∙ ap (λ (a : Actor). batch_after a entry.asked entry.answer (batch_at journal)) who

  apply_takes : (work : Work) → now.tool.tool_phase ≡ Migrating work → entry.actor ≡ Apply → Asking plan journal Apply entry.asked → is_reverting now.tool.reason ≡ false → ApplierAt plan more (batch_at more) (now_has Apply).waits (appliers.took tool.turns work.applier entry.answer)
  apply_takes work eq who asks going =
      apply_about plan journal entry is.together run work eq (work_has work eq) going asks (ApplierAt plan more (batch_at more) (now_has Apply).waits (appliers.took tool.turns work.applier entry.answer))
      (λ request about kind. subst (λ (c : AppliedBatch). ApplierAt plan more c (now_has Apply).waits (appliers.took tool.turns work.applier entry.answer)) (sym (batch_own who))
      (took_batch plan journal entry tool.turns work.applier (named_so work eq).into (batch_at journal) (has Apply).waits (now_has Apply).waits entry.answer here (quiet request who about) request entry.asked (asks_next work eq going request asks about) kind (going_at work eq going)))

  apply_unfit : (work : Work) → now.tool.tool_phase ≡ Migrating work → entry.actor ≡ Apply → Asking plan journal Apply entry.asked → is_reverting now.tool.reason ≡ false → (place number : ℕ) → appliers.progress work.applier entry.answer ≡ Unfit place number → New false (Migrating work)
  apply_unfit work eq who asks going place number unfit =
      apply_about plan journal entry is.together run work eq (work_has work eq) going asks (New false (Migrating work))
      (λ request about kind. inr (subst (λ (c : AppliedBatch). ApplierAt plan more c (now_has Apply).waits work.applier) (sym (batch_own who))
      (unfit_batch plan journal entry tool.turns work.applier (named_so work eq).into (batch_at journal) (has Apply).waits (now_has Apply).waits entry.answer here (quiet request who about) request entry.asked place number (asks_next work eq going request asks about) kind unfit (going_at work eq going))))

  apply_turn : (work : Work) → now.tool.tool_phase ≡ Migrating work → entry.actor ≡ Apply → Asking plan journal Apply entry.asked → ApplyKeeps New entry.answer tool work
  apply_turn work eq who asks =
      record { reverting = λ reverting. inl refl; unfit = λ going place number unfit. unfit_at work (apply_unfit work eq who asks going place number unfit); took = λ going one tries. inr (apply_takes work eq who asks going) }

  -- a loss between calls tells nothing of the batch
  batch_cut : entry.actor ≡ Apply → entry.asked ≡ Cut → batch_at more ≡ batch_at journal
  batch_cut who cut = batch_own who ∙ ap (λ (a : Asked). batch_after Apply a entry.answer (batch_at journal)) cut

  none_waits : entry.actor ≡ Apply → entry.asked ≡ Cut → (now_has Apply).waits ≡ None
  none_waits who cut = ap (λ (s : Standing). s.waits) (subst (λ (a : Actor). now_has a ≡ free) who (own_lost plan journal entry known served cut))

  cut_at : (work : Work) → now.tool.tool_phase ≡ Migrating work → entry.actor ≡ Apply → entry.asked ≡ Cut → is_reverting now.tool.reason ≡ false → ApplierAt plan more (batch_at more) (now_has Apply).waits work.applier
  cut_at work eq who cut going =
      subst (λ (c : AppliedBatch). ApplierAt plan more c (now_has Apply).waits work.applier) (sym (batch_cut who cut))
      (applier_more plan journal (entry ∷ []) (batch_at journal) (has Apply).waits (now_has Apply).waits work.applier (λ request some. none_some request (now_has Apply).waits (none_waits who cut) some) (going_at work eq going))

  apply_lost : (work : Work) → now.tool.tool_phase ≡ Migrating work → entry.actor ≡ Apply → entry.asked ≡ Cut → ApplyKeeps New answers.Lost tool work
  unfolding appliers.took appliers.progress
  apply_lost work eq who cut = record { reverting = λ reverting. inl refl; unfit = λ going place number unfit. absurd cc; took = λ going one tries. inr (record { map = (going_at work eq going).map; step = tt }) }

  idle_applier : (work : Work) → now.tool.tool_phase ≡ Migrating work → entry.actor ≡ Apply → entry.asked ≡ Cut → New (is_reverting now.tool.reason) (Migrating work)
  idle_applier work eq who cut = by (is_reverting now.tool.reason) refl where
    by : (b : Bool) → is_reverting now.tool.reason ≡ b → New b (Migrating work)
    by true on = inl refl
    by false going = inr (cut_at work eq who cut going)

  -- EVERY ACTOR

  other_at : (actor : Actor) → entry.actor ≡ actor → same_actor actor Apply ≡ false → (answer : Answer) (tool_phase : ToolPhase) → now.tool.tool_phase ≡ tool_phase → AnswerKeeps plan New answer tool actor tool_phase
  other_at Insp who differ answer (SettingUp setup tries) eq = setup_turn answer setup tries
  other_at Insp who differ answer (Migrating work) eq = λ tries. still Insp who refl (Migrating work) eq
  other_at Apply who differ answer tool_phase eq = absurd (true≢false differ)
  other_at Copy who differ answer (SettingUp setup tries) eq = tt
  other_at Copy who differ answer (Migrating work) eq = record {
    reverting = λ reverting. inl refl;
    unfit = λ going place number unfit. unfit_at work (off_at work going (still Copy who refl (Migrating work) eq));
    took = λ going one tries. off_at work going (still Copy who refl (Migrating work) eq);
  }
  other_at Lock who differ answer (SettingUp setup tries) eq = tt
  other_at Lock who differ answer (Migrating work) eq = λ tries. still Lock who refl (Migrating work) eq
  other_at Ren who differ answer (SettingUp setup tries) eq = tt
  other_at Ren who differ answer (Migrating work) eq = λ tries. still Ren who refl (Migrating work) eq
  other_at Op who differ answer (SettingUp setup tries) eq = tt
  other_at Op who differ answer (Migrating work) eq = still Op who refl (Migrating work) eq
  other_at (Client c) who differ answer (SettingUp setup tries) eq = tt
  other_at (Client c) who differ answer (Migrating work) eq = still (Client c) who refl (Migrating work) eq

  heard_at : given plan journal entry.actor ≡ Some entry.asked → AnswerKeeps plan New entry.answer tool entry.actor now.tool.tool_phase
  unfolding given
  heard_at gives = by entry.actor refl gives where
    applier_heard : entry.actor ≡ Apply → Asking plan journal Apply entry.asked → (tool_phase : ToolPhase) → now.tool.tool_phase ≡ tool_phase → AnswerKeeps plan New entry.answer tool Apply tool_phase
    applier_heard who asks (SettingUp setup tries) eq = tt
    applier_heard who asks (Migrating work) eq = apply_turn work eq who asks

    by : (actor : Actor) → entry.actor ≡ actor → given plan journal actor ≡ Some entry.asked → AnswerKeeps plan New entry.answer tool actor now.tool.tool_phase
    by Apply who gives = applier_heard who (asking plan journal Apply entry.asked is.together.server gives) now.tool.tool_phase refl
    by Insp who gives = other_at Insp who refl entry.answer now.tool.tool_phase refl
    by Copy who gives = other_at Copy who refl entry.answer now.tool.tool_phase refl
    by Lock who gives = other_at Lock who refl entry.answer now.tool.tool_phase refl
    by Ren who gives = other_at Ren who refl entry.answer now.tool.tool_phase refl
    by Op who gives = other_at Op who refl entry.answer now.tool.tool_phase refl
    by (Client c) who gives = other_at (Client c) who refl entry.answer now.tool.tool_phase refl

  lost_at : entry.asked ≡ Cut → AnswerKeeps plan New answers.Lost tool entry.actor now.tool.tool_phase
  lost_at cut = by entry.actor refl where
    applier_lost : entry.actor ≡ Apply → (tool_phase : ToolPhase) → now.tool.tool_phase ≡ tool_phase → AnswerKeeps plan New answers.Lost tool Apply tool_phase
    applier_lost who (SettingUp setup tries) eq = tt
    applier_lost who (Migrating work) eq = apply_lost work eq who cut

    by : (actor : Actor) → entry.actor ≡ actor → AnswerKeeps plan New answers.Lost tool actor now.tool.tool_phase
    by Apply who = applier_lost who now.tool.tool_phase refl
    by Insp who = other_at Insp who refl answers.Lost now.tool.tool_phase refl
    by Copy who = other_at Copy who refl answers.Lost now.tool.tool_phase refl
    by Lock who = other_at Lock who refl answers.Lost now.tool.tool_phase refl
    by Ren who = other_at Ren who refl answers.Lost now.tool.tool_phase refl
    by Op who = other_at Op who refl answers.Lost now.tool.tool_phase refl
    by (Client c) who = other_at (Client c) who refl answers.Lost now.tool.tool_phase refl

  idle_at : entry.asked ≡ Cut → (tool_phase : ToolPhase) → now.tool.tool_phase ≡ tool_phase → New (is_reverting now.tool.reason) tool_phase
  idle_at cut (SettingUp setup tries) eq = tt
  idle_at cut (Migrating work) eq = by (same_actor entry.actor Apply) refl where
    by : (b : Bool) → same_actor entry.actor Apply ≡ b → New (is_reverting now.tool.reason) (Migrating work)
    by true same = idle_applier work eq (same_actor_is entry.actor Apply same) cut
    by false differ = still entry.actor refl differ (Migrating work) eq

  commands : (word : OperatorWord) → entry.asked ≡ Command word → entry.actor ≡ Op
  commands word asks = commands_operator plan journal entry.actor word (subst (IsGiven plan journal entry) asks run.followed.given)

  resize_at : (size : ℕ) → entry.asked ≡ Command (ChunkSize size) → (tool_phase : ToolPhase) → now.tool.tool_phase ≡ tool_phase → ResizeKeeps New tool size tool_phase
  resize_at size asks (SettingUp setup tries) eq = tt
  resize_at size asks (Migrating work) eq = still Op (commands (ChunkSize size) asks) refl (Migrating work) eq

  -- *One turn more*
  pub batches_more : BatchesStand plan more
  batches_more = record {
    together = together_more plan journal entry is.together run;
    needs = needs_more plan journal entry is.together run is.needs;
    tool_phase =
        turn_kept plan New back journal entry (λ b work tries at. at)
        (record {
          commanded = λ word asks unsized. still Op (commands word asks) refl now.tool.tool_phase refl;
          resized = λ size asks. resize_at size asks now.tool.tool_phase refl;
          idle = λ asks none. idle_at asks now.tool.tool_phase refl;
          lost = λ asks worked. lost_at asks;
          heard = λ called commanded. heard_at (gives_asked plan journal entry entry.asked run.followed.given refl called);
        });
  }

  -- WHAT IS CALLED

  abbrev Applied : Request → Type 0
  Applied request = IsAppliedCall plan journal Apply request

  applier_call : (request : Request) (tool_phase : ToolPhase) → now.tool.tool_phase ≡ tool_phase → entry.asked ≡ Call request → Asking plan journal Apply entry.asked → tool_call plan now.server journal now.tool tool_phase Apply ≡ Some request → Applied request
  applier_call request (SettingUp setup tries) eq asked asks call = absurd cc
  applier_call request (Migrating work) eq asked asks call =
      reverting_or (Applied request) (is_reverting now.tool.reason) (rolls_back now.server (live_session journal Apply)) (apply_call plan now.server journal now.tool work) request call
      (λ reverting back. subst Applied (sym (back_quiet (in_transaction now.server (live_session journal Apply)) request back)) tt)
      (λ going calls. apply_about plan journal entry is.together run work eq (work_has work eq) going asks (Applied request) (λ other about kind. by other about kind (apply_called plan journal work request calls) (going_at work eq going))) where
        by : (other : Request) → IsAbout other (has Apply) entry.asked → applier_asks work.applier.step other ≡ true → request ≡ appliers.next journal work.applier → ApplierAt plan journal (batch_at journal) (has Apply).waits work.applier → Applied request
        by other (is_called called none) kind next at =
            applier_applies plan journal work.applier (named_so work eq).applier (has Apply).waits request at next (subst (λ (r : Request). applier_asks work.applier.step r ≡ true) (called_one other request (sym called ∙ asked)) kind)
        by other (is_polled polled some) kind next at = absurd (no (sym polled ∙ asked)) where
          no : Poll ≡ Call request → ⊥
          no both = cc

  applier_given : Asking plan journal Apply entry.asked → IsAppliedTurn plan journal Apply (request_in entry.asked)
  applier_given asks = by asks where
    by : Asking plan journal Apply entry.asked → IsAppliedTurn plan journal Apply (request_in entry.asked)
    by (calls_so request called idle call) = subst (λ (a : Asked). IsAppliedTurn plan journal Apply (request_in a)) (sym called) (applier_call request now.tool.tool_phase refl called asks call)
    by (polls_so request polled some) = subst (λ (a : Asked). IsAppliedTurn plan journal Apply (request_in a)) (sym polled) tt

  others_free : (actor : Actor) (request : Option Request) → same_actor actor Apply ≡ false → IsAppliedTurn plan journal actor request
  others_free Apply request differ = absurd (true≢false differ)
  others_free Op None differ = tt
  others_free Op (Some request) differ = tt
  others_free Insp None differ = tt
  others_free Insp (Some request) differ = tt
  others_free Copy None differ = tt
  others_free Copy (Some request) differ = tt
  others_free Lock None differ = tt
  others_free Lock (Some request) differ = tt
  others_free Ren None differ = tt
  others_free Ren (Some request) differ = tt
  others_free (Client c) None differ = tt
  others_free (Client c) (Some request) differ = tt

  given_turn : given plan journal entry.actor ≡ Some entry.asked → IsAppliedTurn plan journal entry.actor (request_in entry.asked)
  unfolding given
  given_turn gives = by (same_actor entry.actor Apply) refl where
    by : (b : Bool) → same_actor entry.actor Apply ≡ b → IsAppliedTurn plan journal entry.actor (request_in entry.asked)
    by false differ = others_free entry.actor (request_in entry.asked) differ
    by true same =
        let who : entry.actor ≡ Apply = same_actor_is entry.actor Apply same in
        subst (λ (a : Actor). IsAppliedTurn plan journal a (request_in entry.asked)) (sym who) (applier_given (asking plan journal Apply entry.asked is.together.server (ap (given plan journal) (sym who) ∙ gives)))

  pub applied_turn : IsAppliedTurn plan journal entry.actor (request_in entry.asked)
  applied_turn = by entry.asked refl run.followed.given where
    by : (asked : Asked) → entry.asked ≡ asked → IsGiven plan journal entry asked → IsAppliedTurn plan journal entry.actor (request_in entry.asked)
    by Cut asks gives = subst (λ (a : Asked). IsAppliedTurn plan journal entry.actor (request_in a)) (sym asks) tt
    by (Call request) asks gives = given_turn (gives ∙ ap Some (sym asks))
    by Poll asks gives = given_turn (gives ∙ ap Some (sym asks))
    by (Command word) asks gives = given_turn (gives ∙ ap Some (sym asks))

-- WHOLE JOURNALS

batches_begin : (plan : PlanData) → BatchesStand plan []
unfolding moment live_session
batches_begin plan = record { together = together_begins plan; needs = λ request some. absurd cc; tool_phase = tt }

along : (plan : PlanData) (before entries : List Entry) → BatchesStand plan before → Along (IsRun plan) before entries → Along (λ front entry. IsAppliedTurn plan front entry.actor (request_in entry.asked)) before entries
along plan before [] is runs = tt
along plan before (first ∷ entries) is runs = (applied_turn plan before first runs.0 is, along plan (before ++ first ∷ []) entries (batches_more plan before first runs.0 is) runs.1)

-- *Journals apply inserts as REPLACE*
pub inserts_applied : JournalsApplyInserts
unfolding AppliesInserts Follows
inserts_applied plan journal faithful follows = along plan [] journal (batches_begin plan) (all_runs plan [] journal faithful follows)
