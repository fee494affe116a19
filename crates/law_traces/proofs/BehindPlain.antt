-- Behind a run whose values are plain a new tool's are plain too: the server stays plain, and so is each answer.
use Rattle.std.proofs.Common.{◌≡◌, ℕ, ◌+◌, ◌-◌, ◌*◌, ◌^◌, ◌<◌, ◌≤◌, ◌==◌, ◌&&◌, Bool, true, false, not, cond, List, [], ◌∷◌, ◌++◌, length, Option, Some, None, refl, sym, ap, ◌∙◌, subst}
use Rattle.std.specs.Prelude.{is_some}
use Rattle.std.proofs.Math.Seq.{drop-append_seam}
use Rattle.std.proofs.lemmas.Option.{same_Some}
use Rattle.base_values.specs.ToolNames.{log_name}
use Rattle.base_values.proofs.SchemaRules.Lists.{All-append}
use Rattle.base_script.specs.declared.actor.Actor.{Actor}
use Rattle.base_script.specs.declared.actor.Actor.TheVariants.{Apply, Copy, Insp, Ren}
use Rattle.base_script.specs.declared.actor.Side.{Side}
use Rattle.server_model.specs.Entries.{is_client, is_command}
use Rattle.server_model.specs.PlainServer.{given_at, leaves, recounted, serves}
use Rattle.server_model.specs.States.{State, unread}
use Rattle.server_model.specs.declared.answer.Answer.{Answer}
use Rattle.server_model.specs.declared.answer.Answer.TheVariants as answers
use Rattle.server_model.specs.declared.answer.KeyRange.{KeyRange}
use Rattle.server_model.specs.declared.counter.Counter.{Counter}
use Rattle.server_model.specs.declared.entry.Asked.{Asked}
use Rattle.server_model.specs.declared.entry.Asked.TheVariants.{Call, Command, Cut, Poll}
use Rattle.server_model.specs.declared.entry.Entry.{Entry}
use Rattle.server_model.specs.declared.outcome.Progress.{Progress}
use Rattle.server_model.specs.declared.outcome.Progress.TheVariants.{Going, TaskDone, TaskFailed, Unfit}
use Rattle.server_model.specs.declared.request.Request.{Request}
use Rattle.server_model.specs.declared.request.Request.TheVariants as requests
use Rattle.plan_data.specs.PlanData.{PlanData, has_counter, new_map}
use Rattle.tool_changelog.specs.declared.checkpoint.Reach.{Reach}
use Rattle.tool_changelog.specs.declared.checkpoint.Reach.TheVariants as reaches
use Rattle.tool_notes.specs.declared.checkpoint.Checkpoint.{Checkpoint}
use Rattle.tool_program.specs.ChunkCopier.Copiers as copiers
use Rattle.tool_program.specs.EventApplier.Appliers as appliers
use Rattle.tool_program.specs.JournalWords.Journals.{IsAnswered, IsFaithful, heard, inner_answer, opens, state_at}
use Rattle.tool_program.specs.JournalWords.Sessions.{KeepsSessions}
use Rattle.tool_program.specs.declared.chunk_copier.copier.Copier.{Copier}
use Rattle.tool_program.specs.declared.event_applier.applier.Applier.{Applier}
use Rattle.tool_finish.proofs.Walking.{stage_more}
use Rattle.tool_finish.specs.Callable.{IsFinishable}
use Rattle.tool_finish.specs.Finishes.{Asking, IsFinish, IsFinishTurn, applied, applier_from, applying, calls, checkpoint_in, copied, copier_from, copies, copying, counter_read, counting, cuts, dropped_log, first_live, has_read, listed, next, range_from, ranged, rolls_back, stage_behind, took}
use Rattle.tool_finish.specs.declared.stage.Listed.{Listed}
use Rattle.tool_finish.specs.declared.stage.Listed.TheVariants.{NotRenamed, Renamed}
use Rattle.tool_finish.specs.declared.stage.Stage.{Stage}
use Rattle.tool_finish.specs.declared.stage.Stage.TheVariants.{Losing, Listing, Reading, Clearing, ReadingCounter, SettingCounter, Ranging, Copying, Applying, Exchanging, DroppingLog, DroppingOld, RollingBack, Done, Reverted}
use Rattle.tool_finish.specs.declared.stage.UnfitRow.{UnfitRow}
use Rattle.proof_journals.specs.ServerFacts.Invariants.{IsServing}
use Rattle.proof_journals.proofs.Faces.{opened_live}
use Rattle.proof_journals.proofs.Machine.Seated.{state_more}
use Rattle.proof_journals.proofs.ServerFacts.Calls.{calls_serve, losses_serve}
use Rattle.proof_migration.proofs.Program.Turns.Sizes.{Fixed, fixed_took, map_took}
use Rattle.proof_plain.specs.Plain.{BytesAsked, BytesMap, BytesRequest, PlainAnswer, PlainState}
use Rattle.proof_plain.specs.Plans.{BytesCopyRange, PlainPlan}
use Rattle.proof_plain.proofs.Counts.{IsFew}
use Rattle.proof_plain.proofs.Opened.{heard_plain, leaves_few, opens_plain, opens_serving, sees_few}
use Rattle.proof_plain.proofs.Requests.{PlainAnswers, applied_bytes, copied_bytes}
use Rattle.proof_plain.proofs.Serving.{BytesCalled, SeesFew, left_plain, served_plain}
use Rattle.proof_resume.proofs.Reached.Copying.{range_took}
use Rattle.law_traces.proofs.NewTools.{CallsFor, ItsTurn, Loses, of_stage}

-- ---- a stage

-- the copier and the applier convert rows by the plan's map, and the keys and numbers that they keep are plain
abbrev pub PlainStage : PlanData → Stage → Type 0
PlainStage plan (SettingCounter found number) = number < 2 ^ 64
PlainStage plan (Copying copier applier) = (copier.map ≡ new_map plan) × BytesCopyRange copier.range × (applier.map ≡ new_map plan)
PlainStage plan (Applying applier) = applier.map ≡ new_map plan
PlainStage plan stage = Unit {0}

module _ (plan : PlanData) (plain : PlainPlan plan) (journal : List Entry) (all : PlainAnswers journal) (entry : Entry) where
  of_call : (actor : Actor) (request : Request) → BytesRequest request → calls actor request ≡ Some (entry.actor, entry.asked) → BytesCalled entry.asked
  of_call actor request have is = subst (λ (p : Asking). BytesCalled p.1) (same_Some (actor, Call request) (entry.actor, entry.asked) is) have

  of_cut : (live : Option Actor) → cuts live ≡ Some (entry.actor, entry.asked) → BytesCalled entry.asked
  of_cut None is = absurd cc
  of_cut (Some actor) is = subst (λ (p : Asking). BytesCalled p.1) (same_Some (actor, Cut) (entry.actor, entry.asked) is) tt

  of_copy : (request : Option Request) → BytesAsked request → copies request ≡ Some (entry.actor, entry.asked) → BytesCalled entry.asked
  of_copy None have is = absurd cc
  of_copy (Some request) have is = of_call Copy request have is

  -- *What comes next* has bytes
  next_bytes : (stage : Stage) → PlainStage plan stage → next plan journal stage ≡ Some (entry.actor, entry.asked) → BytesCalled entry.asked
  unfolding next
  next_bytes Losing at is = of_cut (first_live plan journal) is
  next_bytes Listing at is = of_call Insp requests.ShowTables tt is
  next_bytes (Reading seen) at is = of_call Insp _ tt is
  next_bytes (Clearing found) at is = of_call Insp _ tt is
  next_bytes (ReadingCounter found) at is = of_call Insp _ tt is
  next_bytes (SettingCounter found number) at is = of_call Insp _ at is
  next_bytes (Ranging found) at is = of_call Insp _ tt is
  next_bytes (Copying copier applier) at is = of_copy (copiers.next journal copier) (copied_bytes journal copier (subst BytesMap (sym at.0) plain.map) at.1 all) is
  next_bytes (Applying applier) at is = of_call Apply (appliers.next journal applier) (applied_bytes journal applier (subst BytesMap (sym at) plain.map) all) is
  next_bytes Exchanging at is = of_call Ren _ tt is
  next_bytes (DroppingLog old) at is = of_call Insp _ tt is
  next_bytes DroppingOld at is = of_call Insp _ tt is
  next_bytes (RollingBack row) at is = back row is where
    back : (row : UnfitRow) → calls (rolls_back row) requests.Rollback ≡ Some (entry.actor, entry.asked) → BytesCalled entry.asked
    back row is = of_call (rolls_back row) requests.Rollback tt is
  next_bytes Done at is = absurd cc
  next_bytes (Reverted row) at is = absurd cc

module _ (plan : PlanData) (journal : List Entry) (state : State) (answer : Answer) (said : PlainAnswer answer) where
  counting_so : (found : Checkpoint) → PlainStage plan (counting plan found)
  counting_so found = by (has_counter plan) where
    by : (b : Bool) → PlainStage plan (cond b (ReadingCounter found) (Ranging found))
    by true = tt
    by false = tt

  read_so : (seen : Listed) (found : Option Checkpoint) → PlainStage plan (has_read plan seen found)
  read_so seen None = tt
  read_so (NotRenamed true) (Some found) = tt
  read_so (NotRenamed false) (Some found) = counting_so found
  read_so (Renamed old) (Some found) = tt

  applying_so : (applier : Applier) → applier.map ≡ new_map plan → PlainStage plan (applying plan state applier)
  applying_so applier is = by (appliers.starts applier && (unread state applier.position (plan.table ∷ log_name plan.table ∷ []) == 0)) where
    by : (b : Bool) → PlainStage plan (cond b Exchanging (Applying applier))
    by true = tt
    by false = is

  copying_so : (copier : Copier) (applier : Applier) → copier.map ≡ new_map plan → BytesCopyRange copier.range → applier.map ≡ new_map plan → PlainStage plan (copying plan state copier applier)
  copying_so copier applier map ranged is = by copier.is_copied where
    by : (b : Bool) → PlainStage plan (cond b (applying plan state applier) (Copying copier applier))
    by true = applying_so applier is
    by false = (map, ranged, is)

  copied_so : (turn : ℕ) (applier : Applier) (before after : Copier) (progress : Progress) → after.map ≡ new_map plan → BytesCopyRange after.range → applier.map ≡ new_map plan → PlainStage plan (copied plan state turn applier before after progress)
  copied_so turn applier before after (Unfit column number) map ranged is = tt
  copied_so turn applier before after Going map ranged is = copying_so after applier map ranged is
  copied_so turn applier before after TaskDone map ranged is = copying_so after applier map ranged is
  copied_so turn applier before after TaskFailed map ranged is = copying_so after applier map ranged is

  applied_so : (turn : ℕ) (before after : Applier) (progress : Progress) → after.map ≡ new_map plan → PlainStage plan (applied plan state turn before after progress)
  applied_so turn before after (Unfit column number) is = tt
  applied_so turn before after Going is = applying_so after is
  applied_so turn before after TaskDone is = applying_so after is
  applied_so turn before after TaskFailed is = applying_so after is

  listed_so : (given : Answer) → PlainStage plan (listed plan given)
  listed_so (answers.Tables tables) = tt
  listed_so given = tt

  counter_so : (found : Checkpoint) (given : Answer) → PlainAnswer given → PlainStage plan (counter_read found given)
  counter_so found (answers.At number) small = small
  counter_so found given small = tt

  range_so : (reach : Reach) (range : Option KeyRange) → PlainAnswer (answers.Ends range) → BytesCopyRange (range_from reach range)
  range_so reach None have = tt
  range_so reaches.Nothing (Some range) have = have
  range_so (reaches.To key) (Some range) have = have
  range_so reaches.All (Some range) have = tt

  ranged_so : (found : Checkpoint) (given : Answer) → PlainAnswer given → PlainStage plan (ranged plan state found given)
  ranged_so found (answers.Ends range) have = copying_so (copier_from plan found.reach range) (applier_from plan found.position) refl (range_so found.reach range have) refl
  ranged_so found given have = tt

  log_so : (old : Bool) → PlainStage plan (dropped_log old)
  log_so true = tt
  log_so false = tt

  losing_so : (live : Bool) → PlainStage plan (cond live Losing Listing)
  losing_so true = tt
  losing_so false = tt

  -- *What an answer makes of it* is plain
  took_so : (stage : Stage) → PlainStage plan stage → PlainStage plan (took plan journal state answer stage)
  unfolding took
  took_so Losing at = losing_so (is_some (first_live plan journal))
  took_so Listing at = listed_so answer
  took_so (Reading seen) at = read_so seen (checkpoint_in answer)
  took_so (Clearing found) at = counting_so found
  took_so (ReadingCounter found) at = counter_so found answer said
  took_so (SettingCounter found number) at = tt
  took_so (Ranging found) at = ranged_so found answer said
  took_so (Copying copier applier) at =
      copied_so (length journal) applier copier (copiers.took (length journal) copier answer) (copiers.progress copier answer) (map_took (length journal) copier answer ∙ at.0) (subst BytesCopyRange (sym (range_took (length journal) copier answer)) at.1) at.2
  took_so (Applying applier) at = applied_so (length journal) applier (appliers.took (length journal) applier answer) (appliers.progress applier answer) (ap (λ (f : Fixed). f.map) (fixed_took (length journal) applier answer) ∙ at)
  took_so Exchanging at = tt
  took_so (DroppingLog old) at = log_so old
  took_so DroppingOld at = tt
  took_so (RollingBack row) at = tt
  took_so Done at = tt
  took_so (Reverted row) at = tt

-- ---- behind a run

-- a new tool's turn is a loss or a call
asks_other : (plan : PlanData) (entry : Entry) → ItsTurn plan entry → (asked : Asked) → entry.asked ≡ asked → ((request : Request) → asked ≡ Call request → ⊥) → (asked ≡ Cut → ⊥) → ⊥
asks_other plan entry (Loses cut) asked is no_call no_cut = no_cut (sym is ∙ cut)
asks_other plan entry (CallsFor request tool called well) asked is no_call no_cut = no_call request (sym is ∙ called)

pub record PlainBehind (plan : PlanData) (journal : List Entry) (stage : Stage) : Type 0 where
  pub state : PlainState (state_at plan journal)
  pub few : IsFew (2 ^ 31 + length journal) (length journal * (2 ^ 31 + length journal)) (state_at plan journal)
  pub answers : PlainAnswers journal
  pub serving : IsServing (state_at plan journal)
  pub stage_is : PlainStage plan stage

module _ (plan : PlanData) (plain : PlainPlan plan) (run turns : List Entry) (entry : Entry) (finishable : IsFinishable plan run) (faithful : IsFaithful plan (run ++ turns)) (sessions : KeepsSessions (run ++ turns)) (finish : IsFinish plan run (turns ++ entry ∷ [])) (turn : IsFinishTurn plan run (run ++ turns) entry)
    (answered : IsAnswered (state_at plan (run ++ turns)) entry) (short : length (run ++ turns) + 1 ≤ 2 ^ 31) (small : entry.session < 2 ^ 64) (now : PlainBehind plan (run ++ turns) (stage_behind plan run turns)) where
  abbrev journal : List Entry
  journal = run ++ turns

  abbrev before : State
  before = state_at plan journal

  abbrev open_now : State
  open_now = opens entry before

  abbrev more : List Entry
  more = journal ++ entry ∷ []

  given : next plan journal (stage_behind plan run turns) ≡ Some (entry.actor, entry.asked)
  given = ap (λ (some : List Entry). next plan journal (stage_behind plan run some)) (sym (drop-append_seam run turns)) ∙ turn.given

  called_bytes : BytesCalled entry.asked
  called_bytes = next_bytes plan plain journal now.answers entry (stage_behind plan run turns) now.stage_is given

  open_plain : PlainState open_now
  open_plain = opens_plain plan journal entry short small now.state now.few now.serving

  sees : SeesFew entry.session open_now
  sees = sees_few plan journal entry short small now.state now.few now.serving

  serving : IsServing open_now
  serving = opens_serving plan journal entry short small now.state now.few now.serving

  -- *Its answer is plain*
  pub said_plain : PlainAnswer entry.answer
  unfolding inner_answer
  said_plain =
      subst PlainAnswer (sym (answered.answer ∙ ap (λ (side : Option Side). heard side (given_at side entry.asked (serves open_now entry.session entry.asked).answer)) turn.side))
      (heard_plain None entry.asked (serves open_now entry.session entry.asked).answer (served_plain entry.session open_now entry.asked small open_plain sees called_bytes).answer)

  its : ItsTurn plan entry
  its = of_stage plan journal entry (stage_behind plan run turns) given

  serving_after : IsServing (state_at plan more)
  serving_after = subst IsServing (sym (state_more plan journal entry)) (recount (subst (λ (side : Option Side). IsServing (leaves side open_now entry.session entry.asked)) (sym turn.side) (by entry.asked refl))) where
    recount : {state : State} {counters : List Counter} → IsServing state → IsServing (recounted counters state)
    recount is = record { well_formed = is.well_formed; own = is.own; apart = is.apart; alone = is.alone; waits = is.waits }

    by : (asked : Asked) → entry.asked ≡ asked → IsServing (leaves None open_now entry.session entry.asked)
    by (Call request) called =
        subst (λ (asked : Asked). IsServing (leaves None open_now entry.session asked)) (sym called) (calls_serve open_now entry.session request serving (finishable turns entry request faithful sessions finish called))
    by Cut cut =
        subst (λ (asked : Asked). IsServing (leaves None open_now entry.session asked)) (sym cut)
        (losses_serve open_now entry.session None Cut serving (record { live = opened_live (is_command entry.asked) (not (is_client entry.actor)) entry.session before (ap is_command cut); well = refl }))
    by Poll polled = absurd (asks_other plan entry its Poll polled (λ request same. absurd cc) (λ same. absurd cc))
    by (Command word) commanded = absurd (asks_other plan entry its (Command word) commanded (λ request same. absurd cc) (λ same. absurd cc))

  -- *So it goes on*
  pub goes_plain : PlainBehind plan more (stage_behind plan run (turns ++ entry ∷ []))
  goes_plain = record {
    state = subst PlainState (sym (state_more plan journal entry)) (left_plain entry.side entry.session open_now entry.asked small open_plain sees called_bytes);
    few = leaves_few plan journal entry short small now.state now.few now.serving;
    answers = All-append (λ (one : Entry). PlainAnswer one.answer) journal (entry ∷ []) now.answers (said_plain, tt);
    serving = serving_after;
    stage_is = subst (PlainStage plan) (sym (stage_more plan run turns entry)) (took_so plan more (state_at plan more) entry.answer said_plain (stage_behind plan run turns) now.stage_is);
  }
