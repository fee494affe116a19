-- A new tool is alone on the server behind the losses of the sessions that it found, so that each of its calls is answered at once.
use Rattle.std.proofs.Common.{◌≡◌, ℕ, ◌+◌, ◌==◌, Bool, true, false, not, ◌&&◌, List, [], ◌∷◌, ◌++◌, length, cond, Option, Some, None, refl, sym, ap, ◌∙◌, subst, append_assoc, append-nil}
use Rattle.std.specs.Prelude.{is_some}
use Rattle.std.specs.List.{AllByRecursion}
use Rattle.std.proofs.lemmas.Bool.{true≢false, false≢true}
use Rattle.std.proofs.lemmas.Option.{same_Some}
use Rattle.std.proofs.Math.Seq.{drop-append_seam}
use Rattle.base_script.specs.declared.actor.Actor.{Actor}
use Rattle.base_script.specs.declared.actor.Actor.TheVariants.{Op, Insp, Copy, Apply, Ren, Client}
use Rattle.base_script.specs.declared.actor.Side.{Side}
use Rattle.base_values.specs.ToolNames.{log_name}
use Rattle.server_model.specs.Along.{Along, Along-append, Along-both, Along-rest}
use Rattle.server_model.specs.declared.answer.Answer.{Answer}
use Rattle.server_model.specs.declared.answer.Answer.TheVariants as answers
use Rattle.server_model.specs.declared.entry.Asked.{Asked}
use Rattle.server_model.specs.declared.entry.Asked.TheVariants.{Call, Poll, Command, Cut}
use Rattle.server_model.specs.declared.entry.Entry.{Entry}
use Rattle.server_model.specs.declared.outcome.Progress.{Progress}
use Rattle.server_model.specs.declared.outcome.Progress.TheVariants.{Going, TaskDone, TaskFailed, Unfit}
use Rattle.server_model.specs.declared.request.Request.{Request}
use Rattle.server_model.specs.declared.request.Request.TheVariants as requests
use Rattle.server_model.specs.Entries.{is_client, is_command, is_cut}
use Rattle.server_model.specs.PlainServer.{Served, calls, counters_left, done, given_at, recounted, serves, state_left}
use Rattle.server_model.specs.States.{State, unread}
use Rattle.plan_data.specs.PlanData.{PlanData}
use Rattle.tool_program.specs.JournalWords.Journals.{heard, inner_answer, opening, opens, state_at, IsAnswered, IsFaithful}
use Rattle.tool_program.specs.JournalWords.Sessions.{live_session, session_left, IsInSession, IsSeated, KeepsSessions}
use Rattle.tool_program.specs.declared.chunk_copier.copier.Chunk.{Chunk}
use Rattle.tool_program.specs.declared.chunk_copier.copier.Copier.{Copier}
use Rattle.tool_program.specs.declared.chunk_copier.copier.CopyRange.{CopyRange}
use Rattle.tool_program.specs.declared.chunk_copier.copier.CopyStep.{CopyStep}
use Rattle.tool_program.specs.declared.chunk_copier.copier.CopyStep.TheVariants as chunks
use Rattle.tool_program.specs.ChunkCopier.Copiers as copiers
use Rattle.tool_program.specs.declared.event_applier.applier.Applier.{Applier}
use Rattle.tool_program.specs.declared.event_applier.applier.ApplyStep.{ApplyStep}
use Rattle.tool_program.specs.declared.event_applier.applier.ApplyStep.TheVariants as batches
use Rattle.tool_program.specs.declared.event_applier.applier.Batch.{Batch}
use Rattle.tool_program.specs.declared.event_applier.applier.Part.{Part}
use Rattle.tool_program.specs.declared.event_applier.applier.Part.TheVariants.{Whole, Removal, Return}
use Rattle.tool_program.specs.EventApplier.Appliers.{Doing, after_part, after_refusal, after_statements}
use Rattle.tool_program.specs.EventApplier.Appliers as appliers
use Rattle.base_values.specs.declared.mysql_errors.TheConstants.{ER_DUP_ENTRY}
use Rattle.tool_finish.specs.declared.stage.Stage.{Stage}
use Rattle.tool_finish.specs.declared.stage.Stage.TheVariants.{Losing, Listing, Reading, Clearing, ReadingCounter, SettingCounter, Ranging, Copying, Applying, Exchanging, DroppingLog, DroppingOld, RollingBack, Done, Reverted}
use Rattle.tool_finish.specs.declared.stage.UnfitRow.{UnfitRow}
use Rattle.tool_finish.specs.declared.stage.UnfitRow.TheVariants.{Copied, Applied}
use Rattle.tool_finish.specs.Finishes.{Asking, applied, applying, copied, copying, first_live, losing, next, rolls_back, stage_behind, took, IsFinish, IsFinishTurn}
use Rattle.tool_finish.specs.Finishes as finishes
use Rattle.proof_journals.specs.Run.Kept.{IsKept}
use Rattle.proof_journals.specs.Run.Laws.{NoneWaits}
use Rattle.proof_journals.specs.Run.Counts.{AreApart}
use Rattle.proof_journals.proofs.Actors.{live_more, placed, same_actor_itself}
use Rattle.proof_journals.proofs.Journals.{state_more}
use Rattle.proof_journals.proofs.Run.Turns.{opened}
use Rattle.proof_journals.proofs.Run.Waits.{all_waits, waits_more}
use Rattle.proof_journals.proofs.Waiting.{IsDone, done_answers}
use Rattle.proof_resume.proofs.Settled.Alone.{calls_are_done_alone}
use Rattle.proof_resume.specs.Finish.Prompt.{came_at_once, AnswersComeAtOnce, FinishesKeepSessions}
use Rattle.proof_resume.proofs.Finish.Holders.{any_own, done_ending, done_plain, done_resting, holds_alone, is_ending, is_plain, is_resting, nothing_held, opened_held, recounted_held, IsHeldBy}
use Rattle.proof_resume.proofs.Finish.Owners.{done_heard, heard_left, nobody_left, owners_more, run_owners, IsOfPlan, Owners}
use Rattle.tool_finish.proofs.Walking.{stage_more}

-- WHO HOLDS WHAT AT EACH STAGE

-- whose locks there may be
abbrev holder : List Entry → Stage → Option ℕ
holder journal (Copying copier applier) = live_session journal Copy
holder journal (Applying applier) = cond (appliers.starts applier) None (live_session journal Apply)
holder journal (RollingBack row) = live_session journal (rolls_back row)
holder journal stage = None

-- as long as sessions are lost there may be others
abbrev pub StandsAlone : List Entry → State → Stage → Type 0
StandsAlone journal state Losing = Unit {0}
StandsAlone journal state stage = IsHeldBy (holder journal stage) state

free_alone : (journal : List Entry) (state : State) (stage : Stage) → IsHeldBy None state → StandsAlone journal state stage
free_alone journal state Losing held = tt
free_alone journal state Listing held = held
free_alone journal state (Reading seen) held = held
free_alone journal state (Clearing found) held = held
free_alone journal state (ReadingCounter found) held = held
free_alone journal state (SettingCounter found number) held = held
free_alone journal state (Ranging found) held = held
free_alone journal state (Copying copier applier) held = any_own (live_session journal Copy) state held
free_alone journal state (Applying applier) held = any_own (cond (appliers.starts applier) None (live_session journal Apply)) state held
free_alone journal state Exchanging held = held
free_alone journal state (DroppingLog old) held = held
free_alone journal state DroppingOld held = held
free_alone journal state (RollingBack row) held = any_own (live_session journal (rolls_back row)) state held
free_alone journal state Done held = held
free_alone journal state (Reverted row) held = held

done_at_once : (answer : Answer) → IsDone answer → came_at_once answer ≡ true
done_at_once (answers.Waits by) is = absurd is
done_at_once (answers.TimedOut waited) is = absurd is
done_at_once answers.Lost is = absurd is
done_at_once other is = refl

-- WHOSE TURN IT IS

module _ (entry : Entry) where
  pub its_actor : (actor : Actor) (request : Request) → finishes.calls actor request ≡ Some (entry.actor, entry.asked) → entry.actor ≡ actor
  its_actor actor request is = sym (ap (λ (p : Asking). p.0) (same_Some (actor, Call request) (entry.actor, entry.asked) is))

  pub its_request : (actor : Actor) (request : Request) → finishes.calls actor request ≡ Some (entry.actor, entry.asked) → entry.asked ≡ Call request
  its_request actor request is = sym (ap (λ (p : Asking). p.1) (same_Some (actor, Call request) (entry.actor, entry.asked) is))

  pub lost_cut : (live : Option Actor) → finishes.cuts live ≡ Some (entry.actor, entry.asked) → is_cut entry.asked ≡ true
  lost_cut None is = absurd (cc)
  lost_cut (Some actor) is = ap (λ (p : Asking). is_cut p.1) (sym (same_Some (actor, Cut) (entry.actor, entry.asked) is))

-- ONE CALL

module _ (plan : PlanData) (journal : List Entry) (entry : Entry) (session : IsInSession journal entry entry.asked (live_session journal entry.actor)) (unlost : entry.side ≡ None) (answered : IsAnswered (state_at plan journal) entry) (owners : Owners plan journal) where
  abbrev now : State
  now = state_at plan journal

  abbrev more : List Entry
  more = journal ++ entry ∷ []

  abbrev n : ℕ
  n = entry.session

  abbrev open_now : State
  open_now = opens entry now

  -- after this turn
  record Comes (stage : Stage) : Type 0 where
    at_once : is_cut entry.asked ≡ false → came_at_once entry.answer ≡ true
    stands : StandsAlone more (state_at plan more) stage

  module _ (request : Request) (called : entry.asked ≡ Call request) where
    open_held : (own : Option ℕ) → IsHeldBy own now → IsHeldBy own open_now
    open_held own held = opened_held own (is_command entry.asked) (not (is_client entry.actor)) n now held

    alone_done : IsHeldBy (Some n) now → calls open_now n request ≡ done open_now n request
    alone_done held = calls_are_done_alone open_now n request (holds_alone open_now n (open_held (Some n) held))

    pub answer_is : IsHeldBy (Some n) now → entry.answer ≡ (done open_now n request).answer
    unfolding inner_answer
    answer_is held =
        answered.answer
        ∙ ap (λ (side : Option Side). heard side (given_at side entry.asked (serves open_now n entry.asked).answer)) unlost
        ∙ ap (λ (asked : Asked). heard None (given_at None asked (serves open_now n asked).answer)) called
        ∙ ap (λ (served : Served). served.answer) (alone_done held)

    is_done : IsHeldBy (Some n) now → IsDone entry.answer
    is_done held = subst IsDone (sym (answer_is held)) (done_answers open_now n request)

    pub after_is : IsHeldBy (Some n) now → state_at plan more ≡ recounted (counters_left None open_now n (Call request)) (done open_now n request).after
    after_is held =
        state_more (opening plan) journal entry
        ∙ ap (λ (side : Option Side). state_left side open_now n entry.asked) unlost
        ∙ ap (λ (asked : Asked). state_left None open_now n asked) called
        ∙ ap (λ (served : Served). recounted (counters_left None open_now n (Call request)) served.after) (alone_done held)

    left_held : (own : Option ℕ) → IsHeldBy (Some n) now → IsHeldBy own (done open_now n request).after → IsHeldBy own (state_at plan more)
    left_held own held after = subst (IsHeldBy own) (sym (after_is held)) (recounted_held own (counters_left None open_now n (Call request)) (done open_now n request).after after)

    open_apart : AreApart open_now.sessions
    open_apart = (opened (is_command entry.asked) (not (is_client entry.actor)) n now).turned.apart owners.both.living.apart

    live_after : IsHeldBy (Some n) now → live_session more entry.actor ≡ Some n
    live_after held =
        live_more journal entry entry.actor
        ∙ ap (λ (b : Bool). cond b (session_left entry.asked entry.answer n) (live_session journal entry.actor)) (same_actor_itself entry.actor)
        ∙ heard_left entry.asked entry.answer n (ap is_command called) (done_heard entry.answer (is_done held))

    -- who holds something has the turn
    pub own_held : (own : Option ℕ) → own ≡ live_session journal entry.actor → IsHeldBy own now → IsHeldBy (Some n) now
    own_held own same held = by (live_session journal entry.actor) refl (subst (λ (asked : Asked). IsInSession journal entry asked (live_session journal entry.actor)) called session) (subst (λ (o : Option ℕ). IsHeldBy o now) same held) where
      by : (live : Option ℕ) → live_session journal entry.actor ≡ live → IsInSession journal entry (Call request) live → IsHeldBy live now → IsHeldBy (Some n) now
      by None lives its held = any_own (Some n) now held
      by (Some number) lives its held = subst (λ (k : ℕ). IsHeldBy (Some k) now) (sym its) held

    -- it rests behind the call
    rests_after : is_resting request ≡ true → IsHeldBy None now → (stage : Stage) → Comes stage
    rests_after resting held stage = record {
      at_once = λ uncut. done_at_once entry.answer (is_done (any_own (Some n) now held));
      stands = free_alone more (state_at plan more) stage (left_held None (any_own (Some n) now held) (done_resting open_now n request resting (open_held None held)));
    }

    -- the call ends the transaction
    ends_after : is_ending request ≡ true → IsHeldBy (Some n) now → (stage : Stage) → Comes stage
    ends_after ending held stage = record {
      at_once = λ uncut. done_at_once entry.answer (is_done held);
      stands = free_alone more (state_at plan more) stage (left_held None held (done_ending open_now n request ending open_apart (open_held (Some n) held)));
    }

    -- the transaction goes on
    goes_after : is_plain request ≡ true → IsHeldBy (Some n) now → IsHeldBy (live_session more entry.actor) (state_at plan more)
    goes_after plain held = subst (λ (o : Option ℕ). IsHeldBy o (state_at plan more)) (sym (live_after held)) (left_held (Some n) held (done_plain open_now n request plain (open_held (Some n) held)))

  -- WHICH CALL

  resting_call : (actor : Actor) (request : Request) → is_resting request ≡ true → finishes.calls actor request ≡ Some (entry.actor, entry.asked) → IsHeldBy None now → (stage : Stage) → Comes stage
  resting_call actor request resting is held stage = rests_after request (its_request entry actor request is) resting held stage

  ending_call : (actor : Actor) (request : Request) → is_ending request ≡ true → finishes.calls actor request ≡ Some (entry.actor, entry.asked) → IsHeldBy (live_session journal actor) now → (stage : Stage) → Comes stage
  ending_call actor request ending is held stage =
      ends_after request (its_request entry actor request is) ending
      (own_held request (its_request entry actor request is) (live_session journal actor) (ap (live_session journal) (sym (its_actor entry actor request is))) held) stage

  -- THE COPIER'S

  -- a chunk that isn't committed leaves a copier that isn't done
  going_on : (turn : ℕ) (copier : Copier) (step : CopyStep) (answer : Answer) → ((chunk : Chunk) → step ≡ chunks.Committing chunk → ⊥) → (copiers.took turn (record copier { step = step }) answer).is_copied ≡ copier.is_copied
  unfolding copiers.took
  going_on turn copier step answers.Lost uncommitted = refl
  going_on turn copier step (answers.TimedOut waited) uncommitted = refl
  going_on turn copier chunks.Choosing (answers.End end) uncommitted = refl
  going_on turn copier chunks.Choosing answer uncommitted = refl
  going_on turn copier (chunks.Spanning reported size) (answers.Keys keys end) uncommitted = refl
  going_on turn copier (chunks.Spanning reported size) answer uncommitted = refl
  going_on turn copier (chunks.Copying chunk copied) (answers.Ok count) uncommitted = refl
  going_on turn copier (chunks.Copying chunk copied) answer uncommitted = refl
  going_on turn copier (chunks.Committing chunk) answer uncommitted = absurd (uncommitted chunk refl)

  copying_held : (state : State) (copier : Copier) (applier : Applier) → copier.is_copied ≡ false → IsHeldBy (live_session more Copy) (state_at plan more) → StandsAlone more (state_at plan more) (copying plan state copier applier)
  copying_held state copier applier going held = by copier.is_copied going where
    by : (b : Bool) → b ≡ false → StandsAlone more (state_at plan more) (cond b (applying plan state applier) (Copying copier applier))
    by true is = absurd (true≢false is)
    by false is = held

  copied_held : (state : State) (turn : ℕ) (applier : Applier) (before after : Copier) (progress : Progress) → after.is_copied ≡ false → IsHeldBy (live_session more Copy) (state_at plan more) → StandsAlone more (state_at plan more) (copied plan state turn applier before after progress)
  copied_held state turn applier before after (Unfit column number) going held = held
  copied_held state turn applier before after Going going held = copying_held state after applier going held
  copied_held state turn applier before after TaskDone going held = copying_held state after applier going held
  copied_held state turn applier before after TaskFailed going held = copying_held state after applier going held

  copier_call : (copier : Copier) (applier : Applier) (request : Request) → copier.is_copied ≡ false → is_plain request ≡ true → ((chunk : Chunk) → copier.step ≡ chunks.Committing chunk → ⊥) → finishes.calls Copy request ≡ Some (entry.actor, entry.asked) → IsHeldBy (live_session journal Copy) now
      → Comes (copied plan (state_at plan more) (length more) applier copier (copiers.took (length more) copier entry.answer) (copiers.progress copier entry.answer))
  copier_call copier applier request going plain uncommitted is held =
      let called : entry.asked ≡ Call request = its_request entry Copy request is in
      let actor : entry.actor ≡ Copy = its_actor entry Copy request is in
      let own : IsHeldBy (Some n) now = own_held request called (live_session journal Copy) (ap (live_session journal) (sym actor)) held in
      record {
        at_once = λ uncut. done_at_once entry.answer (is_done request called own);
        stands = copied_held (state_at plan more) (length more) applier copier (copiers.took (length more) copier entry.answer) (copiers.progress copier entry.answer)
            (going_on (length more) copier copier.step entry.answer uncommitted ∙ going)
            (subst (λ (a : Actor). IsHeldBy (live_session more a) (state_at plan more)) actor (goes_after request called plain own));
      }

  copier_turn : (copier : Copier) (applier : Applier) → finishes.copies (copiers.next journal copier) ≡ Some (entry.actor, entry.asked) → IsHeldBy (live_session journal Copy) now
      → Comes (copied plan (state_at plan more) (length more) applier copier (copiers.took (length more) copier entry.answer) (copiers.progress copier entry.answer))
  unfolding copiers.next
  copier_turn copier applier is held = by copier.is_copied refl is where
    Here : Type 0
    Here = Comes (copied plan (state_at plan more) (length more) applier copier (copiers.took (length more) copier entry.answer) (copiers.progress copier entry.answer))

    row : (going : copier.is_copied ≡ false) → ((chunk : Chunk) → copier.step ≡ chunks.Committing chunk → ⊥) → (key : Option _) → finishes.copies (copiers.copies copier key) ≡ Some (entry.actor, entry.asked) → Here
    row going uncommitted None is = absurd (cc)
    row going uncommitted (Some key) is = copier_call copier applier _ going refl uncommitted is held

    at : copier.is_copied ≡ false → (range : CopyRange) (step : CopyStep) → copier.step ≡ step → finishes.copies (copiers.call_at journal copier range step) ≡ Some (entry.actor, entry.asked) → Here
    at going range chunks.Choosing same is = copier_call copier applier _ going refl (λ chunk other. absurd (cc)) is held
    at going range (chunks.Spanning reported size) same is = copier_call copier applier _ going refl (λ chunk other. absurd (cc)) is held
    at going range (chunks.Copying chunk copied) same is = row going (λ one other. absurd (cc)) (copiers.key_at journal (chunks.Copying chunk copied)) is
    at going range (chunks.Committing chunk) same is = ending_call Copy requests.Commit refl is held _

    in_range : copier.is_copied ≡ false → (range : Option CopyRange) → finishes.copies (copiers.call_in journal copier range) ≡ Some (entry.actor, entry.asked) → Here
    in_range going None is = absurd (cc)
    in_range going (Some range) is = at going range copier.step refl is

    by : (b : Bool) → copier.is_copied ≡ b → finishes.copies (cond b None (copiers.call_in journal copier copier.range)) ≡ Some (entry.actor, entry.asked) → Here
    by true copied is = absurd (cc)
    by false going is = in_range going copier.range is

  -- THE APPLIER'S

  applying_held : (state : State) (applier : Applier) → appliers.starts applier ≡ false → IsHeldBy (live_session more Apply) (state_at plan more) → StandsAlone more (state_at plan more) (applying plan state applier)
  applying_held state applier begun held = by (appliers.starts applier) begun (unread state applier.position (plan.table ∷ log_name plan.table ∷ []) == 0) where
    by : (b : Bool) → appliers.starts applier ≡ false → (c : Bool) → StandsAlone more (state_at plan more) (cond (appliers.starts applier && c) Exchanging (Applying applier))
    by b is c = rw is (subst (λ (s : Bool). IsHeldBy (cond s None (live_session more Apply)) (state_at plan more)) (sym is) held)

  applied_held : (state : State) (turn : ℕ) (before after : Applier) (progress : Progress) → appliers.starts after ≡ false → IsHeldBy (live_session more Apply) (state_at plan more) → StandsAlone more (state_at plan more) (applied plan state turn before after progress)
  applied_held state turn before after (Unfit column number) begun held = held
  applied_held state turn before after Going begun held = applying_held state after begun held
  applied_held state turn before after TaskDone begun held = applying_held state after begun held
  applied_held state turn before after TaskFailed begun held = applying_held state after begun held

  statements_open : (batch : Batch) (done : ℕ) → appliers.is_reading (after_statements batch done) ≡ false
  statements_open batch done = by (done == batch.statements) where
    by : (b : Bool) → appliers.is_reading (cond b (batches.Committing batch) (batches.Applying batch done Whole)) ≡ false
    by true = refl
    by false = refl

  part_open : (batch : Batch) (done : ℕ) (part : Part) → appliers.is_reading (after_part batch done part) ≡ false
  part_open batch done Removal = refl
  part_open batch done Whole = statements_open batch (done + 1)
  part_open batch done Return = statements_open batch (done + 1)

  refusal_open : (batch : Batch) (done : ℕ) (part : Part) (number : ℕ) → appliers.is_reading (after_refusal batch done part number) ≡ false
  refusal_open batch done part number = by (number == ER_DUP_ENTRY) where
    by : (b : Bool) → appliers.is_reading (cond b (batches.Applying batch done Removal) (batches.Applying batch done part)) ≡ false
    by true = refl
    by false = refl

  beginning_open : (turn : ℕ) (applier : Applier) (batch : Batch) (answer : Answer) → IsDone answer → appliers.starts (appliers.took turn (record applier { step = batches.Beginning batch }) answer) ≡ false
  unfolding appliers.took
  beginning_open turn applier batch (answers.Waits by) is = absurd is
  beginning_open turn applier batch (answers.TimedOut waited) is = absurd is
  beginning_open turn applier batch answers.Lost is = absurd is
  beginning_open turn applier batch (answers.Ok count) is = refl
  beginning_open turn applier batch other is = refl

  statement_open : (turn : ℕ) (applier : Applier) (batch : Batch) (done : ℕ) (part : Part) (answer : Answer) → IsDone answer → appliers.starts (appliers.took turn (record applier { step = batches.Applying batch done part }) answer) ≡ false
  unfolding appliers.took
  statement_open turn applier batch done part (answers.Waits by) is = absurd is
  statement_open turn applier batch done part (answers.TimedOut waited) is = absurd is
  statement_open turn applier batch done part answers.Lost is = absurd is
  statement_open turn applier batch done part (answers.Ok count) is = part_open batch done part
  statement_open turn applier batch done part (answers.Refused number column) is = refusal_open batch done part number
  statement_open turn applier batch done part other is = refl

  abbrev Appliers : Applier → Type 0
  Appliers applier = Comes (applied plan (state_at plan more) (length more) applier (appliers.took (length more) applier entry.answer) (appliers.progress applier entry.answer))

  applier_call : (applier : Applier) (request : Request) → is_plain request ≡ true → (IsDone entry.answer → appliers.starts (appliers.took (length more) applier entry.answer) ≡ false) → finishes.calls Apply request ≡ Some (entry.actor, entry.asked) → IsHeldBy (live_session journal Apply) now → Appliers applier
  applier_call applier request plain begun is held =
      let called : entry.asked ≡ Call request = its_request entry Apply request is in
      let actor : entry.actor ≡ Apply = its_actor entry Apply request is in
      let own : IsHeldBy (Some n) now = own_held request called (live_session journal Apply) (ap (live_session journal) (sym actor)) held in
      record {
        at_once = λ uncut. done_at_once entry.answer (is_done request called own);
        stands = applied_held (state_at plan more) (length more) applier (appliers.took (length more) applier entry.answer) (appliers.progress applier entry.answer) (begun (is_done request called own))
            (subst (λ (a : Actor). IsHeldBy (live_session more a) (state_at plan more)) actor (goes_after request called plain own));
      }

  applier_turn : (applier : Applier) → finishes.calls Apply (appliers.next journal applier) ≡ Some (entry.actor, entry.asked) → IsHeldBy (cond (appliers.starts applier) None (live_session journal Apply)) now → Appliers applier
  unfolding appliers.next
  applier_turn applier is held = at applier.step refl is held where
    statement_plain : (doing : Option Doing) → is_plain (appliers.statement_result applier doing) ≡ true
    statement_plain None = refl
    statement_plain (Some doing) = refl

    at : (step : ApplyStep) → applier.step ≡ step → finishes.calls Apply (appliers.call_at journal applier step) ≡ Some (entry.actor, entry.asked) → IsHeldBy (cond (appliers.is_reading step) None (live_session journal Apply)) now → Appliers applier
    at batches.Reading same is held = resting_call Apply _ refl is held _
    at (batches.Beginning batch) same is held =
        applier_call applier requests.Begin refl
        (λ done. ap (λ (step : ApplyStep). appliers.starts (appliers.took (length more) (record applier { step = step }) entry.answer)) same ∙ beginning_open (length more) applier batch entry.answer done) is held
    at (batches.Applying batch done part) same is held =
        applier_call applier (appliers.call_at journal applier (batches.Applying batch done part)) (statement_plain (appliers.doing_at journal applier (batches.Applying batch done part)))
        (λ is_done. ap (λ (step : ApplyStep). appliers.starts (appliers.took (length more) (record applier { step = step }) entry.answer)) same ∙ statement_open (length more) applier batch done part entry.answer is_done) is held
    at (batches.Committing batch) same is held = ending_call Apply requests.Commit refl is held _

  -- A SESSION IS LOST

  losing_alone : Owners plan more → NoneWaits (state_at plan more) → StandsAlone more (state_at plan more) (losing plan more)
  losing_alone owners idle = by (first_live plan more) refl where
    by : (live : Option Actor) → first_live plan more ≡ live → StandsAlone more (state_at plan more) (cond (is_some live) Losing Listing)
    by (Some actor) is = tt
    by None is = let none = nobody_left plan more (state_at plan more) owners.owned idle is in nothing_held None (state_at plan more) none.0 none.1

  -- EACH STAGE

  turn_comes : (stage : Stage) → next plan journal stage ≡ Some (entry.actor, entry.asked) → Owners plan more → NoneWaits (state_at plan more) → StandsAlone journal now stage → Comes (took plan more (state_at plan more) entry.answer stage)
  unfolding next took
  turn_comes Losing is owners idle stands = record { at_once = λ uncut. absurd (true≢false (sym (lost_cut entry (first_live plan journal) is) ∙ uncut)); stands = losing_alone owners idle }
  turn_comes Listing is owners idle held = resting_call Insp _ refl is held _
  turn_comes (Reading seen) is owners idle held = resting_call Insp _ refl is held _
  turn_comes (Clearing found) is owners idle held = resting_call Insp _ refl is held _
  turn_comes (ReadingCounter found) is owners idle held = resting_call Insp _ refl is held _
  turn_comes (SettingCounter found number) is owners idle held = resting_call Insp _ refl is held _
  turn_comes (Ranging found) is owners idle held = resting_call Insp _ refl is held _
  turn_comes (Copying copier applier) is owners idle held = copier_turn copier applier is held
  turn_comes (Applying applier) is owners idle held = applier_turn applier is held
  turn_comes Exchanging is owners idle held = resting_call Ren _ refl is held _
  turn_comes (DroppingLog old) is owners idle held = resting_call Insp _ refl is held _
  turn_comes DroppingOld is owners idle held = resting_call Insp _ refl is held _
  turn_comes (RollingBack row) is owners idle held = ending_call (rolls_back row) requests.Rollback refl is held _
  turn_comes Done is owners idle held = absurd (cc)
  turn_comes (Reverted row) is owners idle held = absurd (cc)

  -- whose a call is
  called_of_plan : (actor : Actor) (request : Request) → (actor ≡ Op → ⊥) → ((c : ℕ) → actor ≡ Client c → ⊥) → finishes.calls actor request ≡ Some (entry.actor, entry.asked) → IsOfPlan plan entry.actor entry.asked
  called_of_plan actor request off none is =
      let same : entry.actor ≡ actor = its_actor entry actor request is in
      let called : entry.asked ≡ Call request = its_request entry actor request is in
      record {
        command = λ commanded. absurd (true≢false (sym commanded ∙ ap is_command called));
        operator = λ op uncut. absurd (off (sym same ∙ op));
        planned = λ c client script. absurd (none c (sym same ∙ client));
      }

  cut_of_plan : (live : Option Actor) → finishes.cuts live ≡ Some (entry.actor, entry.asked) → IsOfPlan plan entry.actor entry.asked
  cut_of_plan live is = record {
    command = λ commanded. absurd (both_ways entry.asked (lost_cut entry live is) commanded);
    operator = λ op uncut. absurd (true≢false (sym (lost_cut entry live is) ∙ uncut));
    planned = λ c client script. lost_cut entry live is;
  } where
    both_ways : (asked : Asked) → is_cut asked ≡ true → is_command asked ≡ true → ⊥
    both_ways Cut cut command = false≢true command
    both_ways (Call request) cut command = false≢true cut
    both_ways Poll cut command = false≢true cut
    both_ways (Command word) cut command = false≢true cut

  copier_of_plan : (request : Option Request) → finishes.copies request ≡ Some (entry.actor, entry.asked) → IsOfPlan plan entry.actor entry.asked
  copier_of_plan None is = absurd (cc)
  copier_of_plan (Some request) is = called_of_plan Copy request (λ same. cc) (λ c same. cc) is

  back_of_plan : (row : UnfitRow) → finishes.calls (rolls_back row) requests.Rollback ≡ Some (entry.actor, entry.asked) → IsOfPlan plan entry.actor entry.asked
  back_of_plan (Copied copier refusal) is = called_of_plan Copy requests.Rollback (λ same. cc) (λ c same. cc) is
  back_of_plan (Applied applier refusal) is = called_of_plan Apply requests.Rollback (λ same. cc) (λ c same. cc) is

  turn_of_plan : (stage : Stage) → next plan journal stage ≡ Some (entry.actor, entry.asked) → IsOfPlan plan entry.actor entry.asked
  unfolding next
  turn_of_plan Losing is = cut_of_plan (first_live plan journal) is
  turn_of_plan Listing is = called_of_plan Insp _ (λ same. cc) (λ c same. cc) is
  turn_of_plan (Reading seen) is = called_of_plan Insp _ (λ same. cc) (λ c same. cc) is
  turn_of_plan (Clearing found) is = called_of_plan Insp _ (λ same. cc) (λ c same. cc) is
  turn_of_plan (ReadingCounter found) is = called_of_plan Insp _ (λ same. cc) (λ c same. cc) is
  turn_of_plan (SettingCounter found number) is = called_of_plan Insp _ (λ same. cc) (λ c same. cc) is
  turn_of_plan (Ranging found) is = called_of_plan Insp _ (λ same. cc) (λ c same. cc) is
  turn_of_plan (Copying copier applier) is = copier_of_plan (copiers.next journal copier) is
  turn_of_plan (Applying applier) is = called_of_plan Apply _ (λ same. cc) (λ c same. cc) is
  turn_of_plan Exchanging is = called_of_plan Ren _ (λ same. cc) (λ c same. cc) is
  turn_of_plan (DroppingLog old) is = called_of_plan Insp _ (λ same. cc) (λ c same. cc) is
  turn_of_plan DroppingOld is = called_of_plan Insp _ (λ same. cc) (λ c same. cc) is
  turn_of_plan (RollingBack row) is = back_of_plan row is
  turn_of_plan Done is = absurd (cc)
  turn_of_plan (Reverted row) is = absurd (cc)

-- ALONG THE TURNS

-- *The new tool is alone* behind these turns of it
pub record GoesAlone (plan : PlanData) (run turns : List Entry) : Type 0 where
  pub owners : Owners plan (run ++ turns)
  pub idle : NoneWaits (state_at plan (run ++ turns))
  pub stands : StandsAlone (run ++ turns) (state_at plan (run ++ turns)) (stage_behind plan run turns)

pub record OneMore (plan : PlanData) (run turns : List Entry) (entry : Entry) : Type 0 where
  pub at_once : is_cut entry.asked ≡ false → came_at_once entry.answer ≡ true
  pub goes : GoesAlone plan run (turns ++ entry ∷ [])

pub alone_more : (plan : PlanData) (run turns : List Entry) (entry : Entry) → IsFinishTurn plan run (run ++ turns) entry → IsAnswered (state_at plan (run ++ turns)) entry → GoesAlone plan run turns → OneMore plan run turns entry
alone_more plan run turns entry turn answered goes =
    let journal : List Entry = run ++ turns in
    let more : List Entry = journal ++ entry ∷ [] in
    let all : run ++ (turns ++ entry ∷ []) ≡ more = sym (append_assoc run turns (entry ∷ [])) in
    let stage : Stage = stage_behind plan run turns in
    let given : next plan journal stage ≡ Some (entry.actor, entry.asked) = ap (λ (some : List Entry). next plan journal (stage_behind plan run some)) (sym (drop-append_seam run turns)) ∙ turn.given in
    let in_own : IsSeated journal entry = record { session = turn.session } in
    let owners : Owners plan more = owners_more plan journal entry (answered, in_own) (turn_of_plan plan journal entry turn.session turn.side answered goes.owners stage given) goes.owners in
    let idle : NoneWaits (state_at plan more) = subst NoneWaits (sym (state_more (opening plan) journal entry)) (waits_more journal (state_at plan journal) entry goes.owners.both.living goes.owners.both.known (placed journal entry in_own) answered goes.idle) in
    let comes = turn_comes plan journal entry turn.session turn.side answered goes.owners stage given owners idle goes.stands in
    record {
      at_once = comes.at_once;
      goes = record {
        owners = subst (Owners plan) (sym all) owners;
        idle = subst (λ (j : List Entry). NoneWaits (state_at plan j)) (sym all) idle;
        stands = subst (λ (j : List Entry). StandsAlone j (state_at plan j) (stage_behind plan run (turns ++ entry ∷ []))) (sym all)
            (subst (StandsAlone more (state_at plan more)) (sym (stage_more plan run turns entry)) comes.stands);
      };
    }

pub alone_begins : (plan : PlanData) (run : List Entry) → IsKept plan run → GoesAlone plan run []
unfolding stage_behind
alone_begins plan run kept = record {
  owners = subst (Owners plan) (sym (append-nil run)) owners;
  idle = subst (λ (j : List Entry). NoneWaits (state_at plan j)) (sym (append-nil run)) idle;
  stands = subst (λ (j : List Entry). StandsAlone j (state_at plan j) (losing plan run)) (sym (append-nil run)) (stands (first_live plan run) refl);
} where
  owners : Owners plan run
  owners = run_owners plan run kept

  idle : NoneWaits (state_at plan run)
  idle = all_waits plan run kept.faithful kept.sessions

  stands : (live : Option Actor) → first_live plan run ≡ live → StandsAlone run (state_at plan run) (cond (is_some live) Losing Listing)
  stands (Some actor) is = tt
  stands None is = let none = nobody_left plan run (state_at plan run) owners.owned idle is in nothing_held None (state_at plan run) none.0 none.1

abbrev Turn : PlanData → List Entry → List Entry → Entry → Type 0
Turn plan run before entry = IsFinishTurn plan run before entry × IsAnswered (state_at plan before) entry

pub finish_turns : (plan : PlanData) (run turns : List Entry) → IsFinish plan run turns → IsFaithful plan (run ++ turns) → Along (Turn plan run) run turns
unfolding IsFinish
finish_turns plan run turns finish faithful =
    Along-both (IsFinishTurn plan run) (λ before entry. IsAnswered (state_at plan before) entry) run turns finish (Along-rest (λ before entry. IsAnswered (state_at plan before) entry) [] run turns faithful)

all_at_once : (plan : PlanData) (run turns rest : List Entry) → Along (Turn plan run) (run ++ turns) rest → GoesAlone plan run turns → AllByRecursion (λ entry. is_cut entry.asked ≡ false → came_at_once entry.answer ≡ true) rest
all_at_once plan run turns [] kept goes = tt
all_at_once plan run turns (entry ∷ rest) kept goes =
    let one = alone_more plan run turns entry kept.0.0 kept.0.1 goes in
    (one.at_once, all_at_once plan run (turns ++ entry ∷ []) rest (subst (λ (all : List Entry). Along (Turn plan run) all rest) (append_assoc run turns (entry ∷ [])) kept.1) one.goes)

-- *Answers come at once*
pub answers_come_at_once : AnswersComeAtOnce
answers_come_at_once plan run turns kept finish faithful =
    all_at_once plan run [] turns (subst (λ (all : List Entry). Along (Turn plan run) all turns) (sym (append-nil run)) (finish_turns plan run turns finish faithful)) (alone_begins plan run kept)

own_sessions : (plan : PlanData) (run before turns : List Entry) → Along (IsFinishTurn plan run) before turns → Along IsSeated before turns
own_sessions plan run before [] finish = tt
own_sessions plan run before (entry ∷ turns) finish = (record { session = finish.0.session }, own_sessions plan run (before ++ entry ∷ []) turns finish.1)

-- *The new tool keeps to sessions*
pub finishes_keep_sessions : FinishesKeepSessions
unfolding KeepsSessions IsFinish
finishes_keep_sessions plan run turns kept finish = Along-append IsSeated [] run turns kept (own_sessions plan run run turns finish)
