-- Where a new tool did the RENAME behind a run, the migrated table at the mark is the rebuilt one: the new tool writes no row of it, so that
-- the log says no more of it than after the run, and it stays until the RENAME.
use Rattle.std.proofs.Common.{◌≡◌, ℕ, ◌==◌, Bool, true, false, cond, is_some, List, [], ◌∷◌, ◌++◌, Option, Some, None, refl, sym, ap, ◌∙◌, subst, append_assoc, append-nil}
use Rattle.std.specs.List.{AllByRecursion, list_any}
use Rattle.std.proofs.lemmas.Bool.{true≢false}
use Rattle.std.proofs.Math.Seq.{drop-append_seam}
use Rattle.base_script.specs.declared.actor.Actor.{Actor}
use Rattle.base_script.specs.declared.actor.Actor.TheVariants.{Insp, Copy, Apply, Ren}
use Rattle.table_store.specs.Databases.{TableRows, find_table}
use Rattle.server_model.specs.Along.{Along}
use Rattle.server_model.specs.declared.entry.Asked.{Asked}
use Rattle.server_model.specs.declared.entry.Asked.TheVariants.{Call, Cut}
use Rattle.server_model.specs.declared.entry.Entry.{Entry}
use Rattle.server_model.specs.declared.request.Request.{Request}
use Rattle.server_model.specs.declared.request.Request.TheVariants as requests
use Rattle.server_model.specs.declared.session.Session.{Session}
use Rattle.server_model.specs.Entries.{is_client}
use Rattle.server_model.specs.States.{State, session_of}
use Rattle.server_model.proofs.LockedRows.Tests.{nor_right}
use Rattle.plan_data.specs.PlanData.{PlanData, plan_altered}
use Rattle.plan_data.specs.declared.plan.AlteredSchema.{AlteredSchema}
use Rattle.tool_program.specs.CutoverCore.Attempts.{exchange}
use Rattle.tool_program.specs.ChunkCopier.Copiers as copiers
use Rattle.tool_program.specs.EventApplier.Appliers as appliers
use Rattle.tool_program.specs.EventApplier.Appliers.{events_of}
use Rattle.tool_program.specs.JournalWords.Histories.{HistoryItem, alters, answer_in, asked_about, entry_adds, history, is_alter, request_waiting}
use Rattle.tool_program.specs.JournalWords.Journals.{IsAnswered, state_at}
use Rattle.tool_program.specs.JournalWords.KeptPlans.{TakesNext}
use Rattle.tool_program.specs.JournalWords.Sessions.{IsSeated, KeepsSessions}
use Rattle.tool_finish.specs.declared.stage.Stage.{Stage}
use Rattle.tool_finish.specs.declared.stage.Stage.TheVariants.{Losing, Listing, Reading, Clearing, ReadingCounter, SettingCounter, Ranging, Copying, Applying, Exchanging, DroppingLog, DroppingOld, RollingBack, Done, Reverted}
use Rattle.tool_finish.specs.declared.stage.UnfitRow.{UnfitRow}
use Rattle.tool_finish.specs.declared.stage.UnfitRow.TheVariants.{Copied, Applied}
use Rattle.tool_finish.specs.Finishes.{IsFinish, IsFinishTurn, first_live, losing, next, rolls_back, stage_behind, took}
use Rattle.tool_finish.specs.Finishes as finishes
use Rattle.tool_finish.proofs.Walking.{stage_more}
use Rattle.proof_journals.specs.Ghost.Invariant.{NotOf}
use Rattle.proof_journals.specs.Holdings.{face_in, face_of, stored}
use Rattle.proof_journals.specs.Machine.Runnable.{IsRunnable}
use Rattle.proof_journals.specs.Plans.{IsPlanRun, IsSerialPlan, KeepsAway, TakesLines, scene_of}
use Rattle.proof_journals.specs.Run.Kept.{IsKept}
use Rattle.proof_journals.specs.Scenes.{AltersTo, Stored}
use Rattle.proof_journals.proofs.Ghost.Turns.{along_next}
use Rattle.proof_journals.proofs.Machine.Marks.{history_more}
use Rattle.proof_journals.proofs.ServerTurns.Agreements.{along_front}
use Rattle.proof_migration.specs.ToolPhase.Runnable.{IsAlterable}
use Rattle.proof_migration.specs.ToolPhase.Unaltered.{IsUnaltered}
use Rattle.proof_migration.proofs.ToolPhase.Unaltered.Away.{unaltered_front}
use Rattle.proof_resume.proofs.Finish.Holders.{IsFreeBut}
use Rattle.proof_resume.proofs.Finish.Marks.{adds_case}
use Rattle.proof_resume.proofs.Finish.Prompt.{GoesAlone, StandsAlone, alone_begins, alone_more, finish_turns, its_actor, its_request, lost_cut}
use Rattle.proof_resume.proofs.Starts.Losses.{cut_keeps}
use Rattle.proof_resume.proofs.Finish.Asks.{cut_is}
use Rattle.run_replay.specs.WholeReplay.Marks.{turns_to_mark}
use Rattle.law_rebuild.specs.Laws.{IsRebuiltOf}
use Rattle.law_rebuild.specs.Marks.{changes_logged}
use Rattle.law_rebuild.proofs.Exchanged.{exchanged_rebuilt}
use Rattle.law_rebuild.proofs.ToolCalls.{NoneWritten, call_leaves, rename_alters}
use Rattle.proof_plans.specs.ReadPlans.Laws.{WasRead}
use Rattle.top_call.specs.FinishLaws.{ReadPlanLaws}
use Rattle.top_call.specs.Rebuilds.{FinishedMarksAreRebuilt, IsMarkedBehind}
use Rattle.top_call.specs.ResumedRuns.{IsSoundFinish, finish_in, is_resumed, run_in}
use Rattle.top_call.proofs.FinishLaws.Stated.{together}
use Rattle.proof_audit.proofs.Wholes.{run_whole}
use Rattle.top_call.proofs.ResumedRuns.{all_of, alone, sound_behind}
use Rattle.top_call.proofs.Splits.{Splits, mark_is, splits_behind}

-- RUNS OF A PLAN

-- the first turns of a run of the plan are one
run_front : (plan : PlanData) (front rest : List Entry) → IsPlanRun plan (front ++ rest) → IsPlanRun plan front
unfolding TakesLines KeepsSessions
run_front plan front rest is = record {
  serial = is.serial;
  faithful = along_front (λ before one. IsAnswered (state_at plan before) one) [] front rest is.faithful;
  lines = along_front (λ before one. TakesNext plan before one.actor one.asked) [] front rest is.lines;
  seated = along_front IsSeated [] front rest is.seated;
  away = along_front (λ before one. KeepsAway plan before one one.actor) [] front rest is.away;
}

-- WHO HAS WRITTEN

none_held : (name : List ℕ) (n : ℕ) (sessions : List Session) → AllByRecursion (IsFreeBut None) sessions → NotOf name (face_of sessions n).hold.writes
none_held name n [] all = tt
none_held name n (first ∷ sessions) all = by (first.number == n) (none_held name n sessions all.1) where
  by : (b : Bool) → NotOf name (face_of sessions n).hold.writes → NotOf name (face_in (cond b (Some first) (session_of n sessions))).hold.writes
  by true rest = subst (NotOf name) (sym (all.0.free refl).writes) tt
  by false rest = rest

-- as long as sessions are lost, some may have written rows of the migrated table; then none has
abbrev NoneAt : PlanData → State → Stage → Type 0
NoneAt plan state Losing = Unit {0}
NoneAt plan state stage = NoneWritten plan state

none_anywhere : (plan : PlanData) (state : State) (stage : Stage) → NoneWritten plan state → NoneAt plan state stage
none_anywhere plan state Losing none = tt
none_anywhere plan state stage none = none

losing_none : (plan : PlanData) (journal : List Entry) (state : State) (live : Bool) → StandsAlone journal state (cond live Losing Listing) → NoneAt plan state (cond live Losing Listing)
losing_none plan journal state true alone = tt
losing_none plan journal state false alone = λ n. none_held plan.table n state.sessions alone.sessions

-- ONE TURN

-- a loss between calls does no RENAME
cut_adds_none : (plan : PlanData) (journal : List Entry) (entry : Entry) → entry.asked ≡ Cut → list_any is_alter (entry_adds plan journal entry) ≡ false
cut_adds_none plan journal entry cut =
    adds_case plan journal entry (λ (items : List HistoryItem). list_any is_alter items ≡ false) (λ items none. none)
    (ap (λ (asked : Asked). list_any is_alter (alters plan (asked_about asked (request_waiting journal entry.actor)) (answer_in asked entry.side entry.answer entry.missed))) cut) entry.actor

module _ (plan : PlanData) (journal : List Entry) (entry : Entry) (is_run : IsPlanRun plan (journal ++ entry ∷ [])) (unlost : entry.side ≡ None) where
  abbrev more : List Entry
  more = journal ++ entry ∷ []

  abbrev now : State
  now = state_at plan journal

  abbrev after : State
  after = state_at plan more

  -- the log says no more of the migrated table, which stays but for the RENAME; this makes the altered table of it
  record Stays (stage : Stage) : Type 0 where
    log : events_of plan.table after.log ≡ events_of plan.table now.log
    table : list_any is_alter (entry_adds plan journal entry) ≡ false → find_table plan.table after.tables ≡ find_table plan.table now.tables
    exchange : list_any is_alter (entry_adds plan journal entry) ≡ true → AltersTo (scene_of plan []) now.tables after.tables
    none : NoneAt plan after stage

  called : (actor : Actor) (request : Request) → is_client actor ≡ false → finishes.calls actor request ≡ Some (entry.actor, entry.asked) → NoneWritten plan now → (stage : Stage) → Stays stage
  called actor request tool is none stage =
      let of_tool : is_client entry.actor ≡ false = ap is_client (its_actor entry actor request is) ∙ tool in
      let asks : entry.asked ≡ Call request = its_request entry actor request is in
      let left = call_leaves plan journal entry is_run of_tool request asks unlost none in
      record { log = left.log; table = left.table; exchange = rename_alters plan journal entry is_run of_tool request asks unlost; none = none_anywhere plan after stage left.none }

  copied : (request : Option Request) → finishes.copies request ≡ Some (entry.actor, entry.asked) → NoneWritten plan now → (stage : Stage) → Stays stage
  copied None is none stage = absurd (cc)
  copied (Some request) is none stage = called Copy request refl is none stage

  back : (row : UnfitRow) → finishes.calls (rolls_back row) requests.Rollback ≡ Some (entry.actor, entry.asked) → NoneWritten plan now → (stage : Stage) → Stays stage
  back (Copied copier refusal) is none stage = called Copy requests.Rollback refl is none stage
  back (Applied applier refusal) is none stage = called Apply requests.Rollback refl is none stage

  lost : entry.asked ≡ Cut → StandsAlone more after (losing plan more) → Stays (losing plan more)
  lost cut alone =
      let same : stored after ≡ stored now = cut_keeps plan journal entry unlost cut in
      record {
        log = ap (λ (s : Stored). events_of plan.table s.log) same;
        table = λ off. ap (λ (s : Stored). find_table plan.table s.tables) same;
        exchange = λ alters. absurd (true≢false (sym alters ∙ cut_adds_none plan journal entry cut));
        none = losing_none plan more after (is_some (first_live plan more)) alone;
      }

  turn_stays : (stage : Stage) → next plan journal stage ≡ Some (entry.actor, entry.asked) → NoneAt plan now stage → StandsAlone more after (took plan more after entry.answer stage) → Stays (took plan more after entry.answer stage)
  unfolding next took
  turn_stays Losing is none alone = lost (cut_is entry.asked (lost_cut entry (first_live plan journal) is)) alone
  turn_stays Listing is none alone = called Insp _ refl is none _
  turn_stays (Reading seen) is none alone = called Insp _ refl is none _
  turn_stays (Clearing found) is none alone = called Insp _ refl is none _
  turn_stays (ReadingCounter found) is none alone = called Insp _ refl is none _
  turn_stays (SettingCounter found number) is none alone = called Insp _ refl is none _
  turn_stays (Ranging found) is none alone = called Insp _ refl is none _
  turn_stays (Copying copier applier) is none alone = copied (copiers.next journal copier) is none _
  turn_stays (Applying applier) is none alone = called Apply (appliers.next journal applier) refl is none _
  turn_stays Exchanging is none alone = called Ren (exchange plan.table) refl is none _
  turn_stays (DroppingLog old) is none alone = called Insp _ refl is none _
  turn_stays DroppingOld is none alone = called Insp _ refl is none _
  turn_stays (RollingBack row) is none alone = back row is none _
  turn_stays Done is none alone = absurd (cc)
  turn_stays (Reverted row) is none alone = absurd (cc)

-- ALONG THE TURNS

abbrev Turn : PlanData → List Entry → List Entry → Entry → Type 0
Turn plan run before entry = IsFinishTurn plan run before entry × IsAnswered (state_at plan before) entry

-- *Behind these turns* the log says of the migrated table what it said after the run, and it is as it was then, as long as the RENAME isn't
-- done
record Behind (plan : PlanData) (run turns : List Entry) : Type 0 where
  alone : GoesAlone plan run turns
  log : events_of plan.table (state_at plan (run ++ turns)).log ≡ events_of plan.table (state_at plan run).log
  table : IsUnaltered plan (run ++ turns) → find_table plan.table (state_at plan (run ++ turns)).tables ≡ find_table plan.table (state_at plan run).tables
  none : NoneAt plan (state_at plan (run ++ turns)) (stage_behind plan run turns)

module _ (plan : PlanData) (run turns : List Entry) (entry : Entry) (turn : Turn plan run (run ++ turns) entry) (is_run : IsPlanRun plan ((run ++ turns) ++ entry ∷ [])) (was : Behind plan run turns) where
  abbrev front : List Entry
  front = run ++ turns

  abbrev longer : List Entry
  longer = front ++ entry ∷ []

  all : run ++ (turns ++ entry ∷ []) ≡ longer
  all = sym (append_assoc run turns (entry ∷ []))

  alone_then : GoesAlone plan run (turns ++ entry ∷ [])
  alone_then = (alone_more plan run turns entry turn.0 turn.1 was.alone).goes

  this_turn : Stays plan front entry is_run turn.0.side (took plan longer (state_at plan longer) entry.answer (stage_behind plan run turns))
  this_turn =
      turn_stays plan front entry is_run turn.0.side (stage_behind plan run turns) (ap (λ (some : List Entry). next plan front (stage_behind plan run some)) (sym (drop-append_seam run turns)) ∙ turn.0.given) was.none
      (subst (StandsAlone longer (state_at plan longer)) (stage_more plan run turns entry) (subst (λ (j : List Entry). StandsAlone j (state_at plan j) (stage_behind plan run (turns ++ entry ∷ []))) all alone_then.stands))

  table_more : IsUnaltered plan longer → find_table plan.table (state_at plan longer).tables ≡ find_table plan.table (state_at plan run).tables
  table_more off =
      this_turn.table (nor_right (list_any is_alter (history plan front)) (list_any is_alter (entry_adds plan front entry)) (sym (history_more plan front entry) ∙ off)) ∙ was.table (unaltered_front plan front (entry ∷ []) off)

  behind_more : Behind plan run (turns ++ entry ∷ [])
  behind_more = record {
    alone = alone_then;
    log = ap (λ (j : List Entry). events_of plan.table (state_at plan j).log) all ∙ this_turn.log ∙ was.log;
    table = λ off. ap (λ (j : List Entry). find_table plan.table (state_at plan j).tables) all ∙ table_more (subst (IsUnaltered plan) all off);
    none = subst (λ (j : List Entry). NoneAt plan (state_at plan j) (stage_behind plan run (turns ++ entry ∷ []))) (sym all) (subst (NoneAt plan (state_at plan longer)) (sym (stage_more plan run turns entry)) this_turn.none);
  }

behind_all : (plan : PlanData) (run turns rest : List Entry) → Along (Turn plan run) (run ++ turns) rest → IsPlanRun plan ((run ++ turns) ++ rest) → Behind plan run turns → Behind plan run (turns ++ rest)
behind_all plan run turns [] kept is_run was = subst (Behind plan run) (sym (append-nil turns)) was
behind_all plan run turns (entry ∷ rest) kept is_run was =
    let whole : IsPlanRun plan (((run ++ turns) ++ entry ∷ []) ++ rest) = subst (IsPlanRun plan) (sym (append_assoc (run ++ turns) (entry ∷ []) rest)) is_run in
    let next : Behind plan run (turns ++ entry ∷ []) = behind_more plan run turns entry kept.0 (run_front plan ((run ++ turns) ++ entry ∷ []) rest whole) was in
    subst (Behind plan run) (append_assoc turns (entry ∷ []) rest)
    (behind_all plan run (turns ++ entry ∷ []) rest (subst (λ (j : List Entry). Along (Turn plan run) j rest) (append_assoc run turns (entry ∷ [])) kept.1) (subst (λ (j : List Entry). IsPlanRun plan (j ++ rest)) (append_assoc run turns (entry ∷ [])) whole) next)

behind_begins : (plan : PlanData) (run : List Entry) → IsKept plan run → Behind plan run []
unfolding stage_behind
behind_begins plan run kept =
    let alone : GoesAlone plan run [] = alone_begins plan run kept in
    record {
      alone = alone;
      log = ap (λ (j : List Entry). events_of plan.table (state_at plan j).log) (append-nil run);
      table = λ off. ap (λ (j : List Entry). find_table plan.table (state_at plan j).tables) (append-nil run);
      none = losing_none plan (run ++ []) (state_at plan (run ++ [])) (is_some (first_live plan run)) alone.stands;
    }

behind_finish : (plan : PlanData) (run turns : List Entry) → IsKept plan run → IsFinish plan run turns → IsPlanRun plan (run ++ turns) → Behind plan run turns
behind_finish plan run turns kept finish is_run =
    behind_all plan run [] turns (subst (λ (j : List Entry). Along (Turn plan run) j turns) (sym (append-nil run)) (finish_turns plan run turns finish is_run.faithful)) (subst (λ (j : List Entry). IsPlanRun plan (j ++ turns)) (sym (append-nil run)) is_run)
    (behind_begins plan run kept)

-- AT THE MARK

module _ (plan : PlanData) (table : TableRows) (new : AlteredSchema) (runs : IsRunnable plan) (serial : IsSerialPlan plan) (is : IsAlterable plan) (found : find_table plan.table plan.tables ≡ Some table) (alters : plan_altered plan ≡ Some (new.schema, new.map)) (run turns : List Entry) (kept : IsKept plan run) (off : IsUnaltered plan run)
    (finish : IsFinish plan run turns) (is_run : IsPlanRun plan (run ++ turns)) (altered : list_any is_alter (history plan (run ++ turns)) ≡ true) where
  parts : Splits plan run turns
  parts = splits_behind plan run turns off altered

  -- the turns before it, and with it
  abbrev before_mark : List Entry
  before_mark = run ++ parts.front

  abbrev marked : List Entry
  marked = before_mark ++ parts.entry ∷ []

  whole : run ++ turns ≡ before_mark ++ parts.entry ∷ parts.following
  whole = ap (λ (all : List Entry). run ++ all) parts.whole ∙ sym (append_assoc run parts.front (parts.entry ∷ parts.following))

  run_before : IsPlanRun plan before_mark
  run_before = run_front plan before_mark (parts.entry ∷ parts.following) (subst (IsPlanRun plan) whole is_run)

  run_marked : IsPlanRun plan marked
  run_marked = run_front plan marked parts.following (subst (IsPlanRun plan) (whole ∙ sym (append_assoc before_mark (parts.entry ∷ []) parts.following)) is_run)

  finish_before : IsFinish plan run parts.front
  unfolding IsFinish
  finish_before = along_front (IsFinishTurn plan run) run parts.front (parts.entry ∷ parts.following) (subst (Along (IsFinishTurn plan run) run) parts.whole finish)

  mark_turn : Turn plan run before_mark parts.entry
  mark_turn = along_next (Turn plan run) run parts.front parts.entry parts.following (subst (Along (Turn plan run) run) parts.whole (finish_turns plan run turns finish is_run.faithful))

  behind_before : Behind plan run parts.front
  behind_before = behind_finish plan run parts.front kept finish_before run_before

  behind_whole : Behind plan run turns
  behind_whole = behind_finish plan run turns kept finish is_run

  mark_log : events_of plan.table (state_at plan marked).log ≡ events_of plan.table (state_at plan run).log
  mark_log = (this_turn plan run parts.front parts.entry mark_turn run_marked behind_before).log ∙ behind_before.log

  exchanges : AltersTo (scene_of plan []) (state_at plan before_mark).tables (state_at plan marked).tables
  exchanges = (this_turn plan run parts.front parts.entry mark_turn run_marked behind_before).exchange parts.alters

  mark_state : state_at plan (turns_to_mark plan [] (run ++ turns)) ≡ state_at plan marked
  mark_state = ap (state_at plan) (mark_is plan run turns off parts)

  -- *The migrated table is the rebuilt one there*
  pub rebuilt_there : IsRebuiltOf table new (changes_logged plan.table (state_at plan (turns_to_mark plan [] (run ++ turns))).log) (find_table plan.table (state_at plan (turns_to_mark plan [] (run ++ turns))).tables)
  rebuilt_there =
      subst (λ (s : State). IsRebuiltOf table new (changes_logged plan.table s.log) (find_table plan.table s.tables)) (sym mark_state)
      (exchanged_rebuilt plan table new runs serial is found alters run kept off (state_at plan before_mark) (state_at plan marked) (behind_before.table parts.unaltered) mark_log exchanges)

  -- nothing of the table is logged behind it
  pub logged_there : events_of plan.table (state_at plan (run ++ turns)).log ≡ events_of plan.table (state_at plan (turns_to_mark plan [] (run ++ turns))).log
  logged_there = behind_whole.log ∙ sym mark_log ∙ ap (λ (s : State). events_of plan.table s.log) (sym mark_state)

-- OF AN ACCEPTED PLAN

marked_behind : ReadPlanLaws → (plan : PlanData) (table : TableRows) (new : AlteredSchema) (run turns : List Entry) → WasRead plan → find_table plan.table plan.tables ≡ Some table → plan_altered plan ≡ Some (new.schema, new.map) → IsKept plan run → IsUnaltered plan run → IsFinish plan run turns → IsPlanRun plan (run ++ turns)
    → list_any is_alter (history plan (run ++ turns)) ≡ true → IsMarkedBehind plan table new (run ++ turns)
marked_behind laws plan table new run turns was found alters kept off finish is_run altered = record {
  rebuilt = rebuilt_there plan table new (laws.runnable plan was) (laws.serial was.bytes plan was.is) (laws.alterable was.bytes plan was.is) found alters run turns kept off finish is_run altered;
  last = logged_there plan table new (laws.runnable plan was) (laws.serial was.bytes plan was.is) (laws.alterable was.bytes plan was.is) found alters run turns kept off finish is_run altered;
}

-- *Finished marks are rebuilt*
pub finished_marks : ReadPlanLaws → FinishedMarksAreRebuilt
finished_marks laws plan table new journal was found alters sound resumes off altered = by (is_resumed plan (run_in plan journal)) refl where
  by : (b : Bool) → is_resumed plan (run_in plan journal) ≡ b → IsMarkedBehind plan table new journal
  by true comes =
      let finish : IsSoundFinish plan (run_in plan journal) (finish_in plan journal) = sound_behind plan journal resumes comes in
      subst (IsMarkedBehind plan table new) (all_of plan journal)
      (marked_behind laws plan table new (run_in plan journal) (finish_in plan journal) was found alters sound.kept off finish.finish (together laws plan was (run_in plan journal) (finish_in plan journal) sound comes finish.finish finish.faithful off).1
      (ap (λ (all : List Entry). list_any is_alter (history plan all)) (all_of plan journal) ∙ altered))
  by false none =
      absurd (true≢false (sym altered ∙ ap (λ (all : List Entry). list_any is_alter (history plan all)) (sym (run_whole plan journal (alone plan journal resumes none))) ∙ off))
