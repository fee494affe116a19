-- The changelog has the last checkpoint after the RENAME too, as long as it exists.
use Rattle.std.proofs.Common.{◌≡◌, ◌⊎◌, ◌+◌, ℕ, Bool, true, false, cond, not, ◌&&◌, ◌||◌, List, [], ◌∷◌, ◌++◌, Option, Some, None, refl, sym, ap, ◌∙◌, subst, inl, inr}
use Rattle.std.specs.List.{list_any}
use Rattle.std.specs.Str.{bytes_eq}
use Rattle.std.proofs.lemmas.Bool.{true≢false, false≢true}
use Rattle.base_script.specs.declared.actor.Actor.{Actor}
use Rattle.base_script.specs.declared.actor.Actor.TheVariants.{Op, Insp, Copy, Apply, Lock, Ren, Client}
use Rattle.base_values.specs.ToolNames.{log_name}
use Rattle.table_store.specs.Databases.{TableRows, find_table}
use Rattle.table_store.specs.declared.renames.Pair.{Pair}
use Rattle.server_model.specs.declared.answer.Answer.{Answer}
use Rattle.server_model.specs.declared.answer.Answer.TheVariants as answers
use Rattle.server_model.specs.declared.entry.Asked.{Asked}
use Rattle.server_model.specs.declared.entry.Asked.TheVariants.{Call, Poll, Command, Cut}
use Rattle.server_model.specs.declared.entry.Entry.{Entry}
use Rattle.server_model.specs.declared.request.Request.{Request}
use Rattle.server_model.specs.declared.request.Request.TheVariants as requests
use Rattle.server_model.specs.Entries.{is_client, same_actor}
use Rattle.server_model.specs.States.{State}
use Rattle.plan_data.specs.PlanData.{PlanData}
use Rattle.tool_changelog.specs.ToolTables.{sentry_schema}
use Rattle.tool_program.specs.JournalWords.Histories as histories
use Rattle.tool_program.specs.JournalWords.Histories.{alters, answer_in, entry_adds, is_alter}
use Rattle.tool_program.specs.JournalWords.Journals.{opens, state_at}
use Rattle.tool_program.specs.declared.cutover_core.cutover.Clearing.{Clearing as Cleared}
use Rattle.tool_program.specs.declared.cutover_core.cutover.Clearing.TheVariants.{Looking, Drops}
use Rattle.tool_program.specs.declared.cutover_core.cutover.CutOver.{CutOver}
use Rattle.tool_program.specs.declared.cutover_core.cutover.Hold.{Hold}
use Rattle.tool_program.specs.declared.cutover_core.cutover.Hold.TheVariants.{Locks}
use Rattle.tool_program.specs.declared.cutover_core.cutover.Phase.{Phase}
use Rattle.tool_program.specs.declared.cutover_core.cutover.Phase.TheVariants.{Resting, Attempting, Ending, Finishing, Finished}
use Rattle.tool_program.specs.declared.cutover_core.cutover.Role.TheVariants.{Inspector, Locker}
use Rattle.tool_program.specs.declared.cutover_core.cutover.Stage.TheVariants.{Locking, Hinting, ReadingCounter, SettingCounter, Showing, Dropping, Unlocking}
use Rattle.tool_program.specs.CutoverCore.Attempts as attempts
use Rattle.tool_program.specs.CutoverCore.Attempts.{clears, is_free}
use Rattle.tool_program.specs.CutoverCore.CutOvers as cuts
use Rattle.tool_program.specs.CutoverCore.CutOvers.{is_resting}
use Rattle.tool_program.specs.Programs.{given, may_begin, tool_call}
use Rattle.tool_program.specs.Setups.{Setup, Listing, Clearing, MakingLog, MakingGhost, Marking, Reaching, Ready, setup_after}
use Rattle.tool_program.specs.Tools.{ToolPhase, SettingUp, Migrating, Moment, Tool, Work, is_reverting, moment, stopped, tool_phase_of}
use Rattle.tool_program.proofs.OnlineCalls.Machines.{ToolPhaseIsNamed, named}
use Rattle.proof_journals.specs.Ghost.Rows.Moments.{Row}
use Rattle.proof_journals.specs.Plans.{IsPlanRun, IsSerialPlan, limits_of, scene_of}
use Rattle.proof_journals.specs.Turns.{IsSceneRun, about}
use Rattle.proof_journals.specs.Run.Kept.{IsKept}
use Rattle.proof_journals.specs.Machine.Runnable.{IsRunnable}
use Rattle.proof_journals.specs.Machine.Standings.{Standing, standing_of}
use Rattle.proof_journals.proofs.Actors.{same_actor_is}
use Rattle.proof_journals.proofs.PlanJournals.{plan_runs_are_scene_runs}
use Rattle.proof_journals.proofs.Machine.Asking.{renamer_next, some_request, unless_called}
use Rattle.proof_journals.proofs.Machine.Inspecting.{Inspects, inspects, notes_so, cuts_so}
use Rattle.proof_journals.proofs.Machine.Journals.{IsRun, IsTogether, asking}
use Rattle.proof_journals.proofs.Machine.Marks.{history_more, old_not_log}
use Rattle.proof_journals.proofs.Machine.Polling.{AllTogether, AllWaits, waits_begin, waits_more}
use Rattle.proof_journals.proofs.Machine.Schemas.{is_quiet}
use Rattle.proof_journals.proofs.Machine.Tabling.{given_quiet}
use Rattle.proof_migration.specs.Attempt.Renamed.{IsRenamedAt, ToolPhaseRenamed}
use Rattle.proof_migration.specs.ToolPhase.Unaltered.{IsUnaltered}
use Rattle.proof_migration.proofs.Attempt.Renamed.Seen.{all_seen}
use Rattle.proof_migration.proofs.KeptJournals.{each_kept}
use Rattle.proof_migration.proofs.Migration.Leaves.{WritesAway}
use Rattle.proof_migration.proofs.Program.Hints.Known.{hints_go}
use Rattle.proof_migration.proofs.Program.Hints.Logging.{NoneWrote, watched}
use Rattle.proof_migration.proofs.Program.Turns.Asked.{about_from}
use Rattle.proof_migration.proofs.Program.Turns.Follows.{kept_front, kept_run}
use Rattle.proof_migration.proofs.Program.Turns.NextCalls.{called_so, insp_called}
use Rattle.proof_migration.proofs.ToolPhase.ToolPhaseTurns.{AnswerKeeps, DrainKeeps, Kept, ResizeKeeps, turn_kept}
use Rattle.proof_migration.proofs.ToolPhase.Unaltered.Asking.{AskedAs, ToolCall, given_asked}
use Rattle.proof_migration.proofs.ToolPhase.Unaltered.Away.{IsKnownAsked, about_asked, all_asked}
use Rattle.proof_bounds.specs.AttemptTurns.Attempts.{MayTry}
use Rattle.proof_bounds.proofs.Going.{waits_to_set}
use Rattle.proof_bounds.proofs.Inspecting.{setting_is}
use Rattle.proof_resume.specs.Reached.Checkpoints.{checkpoint_among, checkpoint_asked, checkpoint_stored, last_checkpoint, or_earlier}
use Rattle.proof_resume.specs.Reached.Laws.{CheckpointsLast}
use Rattle.proof_bounds.proofs.AttemptTurns.Changelogs.{call_away}
use Rattle.proof_bounds.proofs.AttemptTurns.ChangelogTurns.{LogLeft, log_gone, log_left, log_new, log_stays, none_written, others_away}
use Rattle.proof_resume.proofs.Reached.Existing.{checkpoints_exist, other_unasked}
use Rattle.proof_resume.proofs.Reached.Written.{cutover_unasked, last_more, unasked}

-- WHO MAKES NO CHANGELOG

abbrev NoLog : List ℕ → Request → Type 0
NoLog t (requests.Create schema) = bytes_eq schema.name (log_name t) ≡ false
NoLog t request = Unit {0}

-- nobody but the inspector makes it
abbrev MakesNoLog : List ℕ → Actor → Request → Type 0
MakesNoLog t Insp request = Unit {0}
MakesNoLog t actor request = NoLog t request

quiet_no_log : (t : List ℕ) (request : Request) → is_quiet request ≡ true → NoLog t request
quiet_no_log t (requests.Create schema) quiet = absurd (false≢true quiet)
quiet_no_log t request quiet = tt

locker_no_log : (cutover : CutOver) (request : Request) → attempts.next Locker cutover ≡ Some request → NoLog cutover.table request
unfolding attempts.next sentry_schema
locker_no_log cutover request is = by cutover.phase is where
  frees : (hold : Hold) → attempts.unlocks hold ≡ Some request → NoLog cutover.table request
  frees Locks is = some_request (NoLog cutover.table) requests.Unlock request is tt
  frees hold is = absurd cc

  by : (phase : Phase) → attempts.locker_call cutover phase ≡ Some request → NoLog cutover.table request
  by Resting is = some_request (NoLog cutover.table) _ request (unless_called cutover.is_stopped _ request is) (old_not_log cutover.table)
  by (Attempting Locking) is = some_request (NoLog cutover.table) _ request is tt
  by (Attempting Dropping) is = some_request (NoLog cutover.table) _ request is tt
  by (Attempting Unlocking) is = some_request (NoLog cutover.table) _ request is tt
  by (Attempting stage) is = absurd cc
  by (Ending one) is = frees cutover.hold is
  by (Finishing one) is = absurd cc
  by Finished is = absurd cc

-- the inspector makes no table in an attempt, nor at its end
inspector_no_log : (t : List ℕ) (cutover : CutOver) (request : Request) → attempts.next Inspector cutover ≡ Some request → NoLog t request
unfolding attempts.next
inspector_no_log t cutover request is = by cutover.phase is where
  cleared : (one : Cleared) → clears cutover.table one ≡ Some request → NoLog t request
  cleared Looking is = some_request (NoLog t) _ request is tt
  cleared (Drops left) is = some_request (NoLog t) _ request is tt

  ends : (b : Bool) (one : Cleared) → cond b (clears cutover.table one) None ≡ Some request → NoLog t request
  ends true one is = cleared one is
  ends false one is = absurd cc

  by : (phase : Phase) → attempts.inspector_call cutover phase ≡ Some request → NoLog t request
  by (Attempting Hinting) is = some_request (NoLog t) _ request is tt
  by (Attempting (ReadingCounter drain)) is = some_request (NoLog t) _ request is tt
  by (Attempting (SettingCounter number drain)) is = some_request (NoLog t) _ request is tt
  by (Attempting Showing) is = some_request (NoLog t) _ request is tt
  by (Attempting stage) is = absurd cc
  by (Ending one) is = ends (is_free cutover.hold cutover.renamer_waits) one is
  by (Finishing one) is = cleared one is
  by Resting is = absurd cc
  by Finished is = absurd cc

module _ (plan : PlanData) (journal : List Entry) (all : AllTogether plan journal) (request : Request) where
  abbrev now_so : Moment
  now_so = moment plan journal

  lock_gives : (tool_phase : ToolPhase) → now_so.tool.tool_phase ≡ tool_phase → tool_call plan now_so.server journal now_so.tool tool_phase Lock ≡ Some request → NoLog plan.table request
  lock_gives (SettingUp setup tries) eq call = absurd cc
  lock_gives (Migrating work) eq call =
      subst (λ (t : List ℕ). NoLog t request) (subst (ToolPhaseIsNamed plan) eq (named plan journal)).cutover
      (locker_no_log work.cutover request (unless_called (is_resting work.cutover.phase && not (may_begin plan now_so.server now_so.tool work)) (attempts.next Locker work.cutover) request call))

  ren_gives : (tool_phase : ToolPhase) → tool_call plan now_so.server journal now_so.tool tool_phase Ren ≡ Some request → NoLog plan.table request
  ren_gives (SettingUp setup tries) call = absurd cc
  ren_gives (Migrating work) call = subst (NoLog plan.table) (sym (renamer_next work.cutover request call)) tt

  given_no_log : (actor : Actor) → given plan journal actor ≡ Some (Call request) → MakesNoLog plan.table actor request
  unfolding given
  given_no_log Insp gives = tt
  given_no_log (Client c) gives = quiet_no_log plan.table request (given_quiet plan journal (Client c) request all gives refl)
  given_no_log Op gives = quiet_no_log plan.table request (given_quiet plan journal Op request all gives refl)
  given_no_log Copy gives = quiet_no_log plan.table request (given_quiet plan journal Copy request all gives refl)
  given_no_log Apply gives = quiet_no_log plan.table request (given_quiet plan journal Apply request all gives refl)
  given_no_log Lock gives = lock_gives now_so.tool.tool_phase refl (called_so plan journal Lock request (asking plan journal Lock (Call request) all.tool.server gives))
  given_no_log Ren gives = ren_gives now_so.tool.tool_phase (called_so plan journal Ren request (asking plan journal Ren (Call request) all.tool.server gives))

together_at : (plan : PlanData) → IsRunnable plan → (journal : List Entry) → IsKept plan journal → AllTogether plan journal
together_at plan runs journal kept = (all_asked plan journal runs kept.faithful kept.follows).marking.tabled.all

waits_no_log : (plan : PlanData) → IsRunnable plan → (journal : List Entry) → IsKept plan journal → AllWaits (MakesNoLog plan.table) plan journal
waits_no_log plan runs journal kept =
    each_kept plan (AllWaits (MakesNoLog plan.table) plan)
    (λ before entry one is.
    let front : IsKept plan before = kept_front plan before (entry ∷ []) one in
    let all : AllTogether plan before = together_at plan runs before front in
    waits_more (MakesNoLog plan.table) plan before entry all is (kept_run plan before entry one) (λ request asks gives. given_no_log plan before all request entry.actor gives)) journal kept (waits_begin (MakesNoLog plan.table) plan)

-- NO RENAME OF THE INSPECTOR'S

no_alter : (plan : PlanData) (asks : Option Request) (reported : Option Answer) → ((pairs : List Pair) → asks ≡ Some (requests.Rename pairs) → ⊥) → list_any is_alter (alters plan asks reported) ≡ false
no_alter plan None (Some (answers.Ok count)) never = refl
no_alter plan (Some (requests.Rename pairs)) (Some (answers.Ok count)) never = absurd (never pairs refl)
no_alter plan (Some request) (Some (answers.Ok count)) never = refl
no_alter plan asks reported never = refl

-- ONE TURN

module _ (plan : PlanData) (runs : IsRunnable plan) (serial : IsSerialPlan plan) (tries : MayTry plan) (are_runs : (journal : List Entry) → IsKept plan journal → IsPlanRun plan journal) (journal : List Entry) (entry : Entry) (kept_more : IsKept plan (journal ++ entry ∷ []))
    (Keeps : Option TableRows → Option Row → Type 0) (keeps_first : IsUnaltered plan journal → (work : Work) → (moment plan journal).tool.tool_phase ≡ Migrating work → Keeps (find_table (log_name plan.table) (state_at plan journal).tables) (last_checkpoint journal)) where
  abbrev t : List ℕ
  t = plan.table

  abbrev more : List Entry
  more = journal ++ entry ∷ []

  abbrev now : Moment
  now = moment plan journal

  abbrev tool : Tool
  tool = record now.tool { turns = now.tool.turns + 1 }

  abbrev before : State
  before = state_at plan journal

  abbrev after : State
  after = state_at plan more

  abbrev has : Actor → Standing
  has = standing_of plan journal

  abbrev About : Request → Type 0
  About request = about (opens entry before) entry.session entry.asked ≡ Some request

  kept : IsKept plan journal
  kept = kept_front plan journal (entry ∷ []) kept_more

  known : IsKnownAsked plan journal
  known = all_asked plan journal runs kept.faithful kept.follows

  together : IsTogether plan journal
  together = known.marking.tabled.all.tool

  run : IsRun plan journal entry
  run = kept_run plan journal entry kept_more

  scene_run : IsSceneRun (limits_of plan) (scene_of plan more) more
  scene_run = plan_runs_are_scene_runs plan more (are_runs more kept_more)

  asks_as : (request : Request) → About request → AskedAs plan entry.actor request
  asks_as = about_from plan journal entry together run (AskedAs plan entry.actor) (λ request asks gives. given_asked plan journal entry.actor request gives) (known.asks entry.actor)

  asks_no_log : (request : Request) → About request → MakesNoLog t entry.actor request
  asks_no_log = about_from plan journal entry together run (MakesNoLog t entry.actor) (λ request asks gives. given_no_log plan journal known.marking.tabled.all request entry.actor gives) (waits_no_log plan runs journal kept entry.actor)

  -- WHAT A TURN LEAVES THAT ASKS FOR NO ROW, NOR MAKES THE CHANGELOG

  -- the changelog has the last checkpoint, and both have what they had when the RENAME was done
  abbrev Stored : State → List Entry → Type 0
  Stored state turns = (checkpoint_stored t state.tables ≡ last_checkpoint turns) × Keeps (find_table (log_name t) state.tables) (last_checkpoint turns)

  abbrev Exists : State → List Entry → Type 0
  Exists state turns = NoneWrote t state × ((find_table (log_name t) state.tables ≡ None) ⊎ Stored state turns)

  quiet : Exists before journal → ((request : Request) → About request → WritesAway (watched t) request × NoLog t request) → checkpoint_asked entry.actor entry.asked ≡ None → Exists after more
  quiet was asks unasks = (none_written plan serial journal entry scene_run asks_as run.answered.sides was.0 writes, by (log_left plan serial journal entry scene_run asks_as run.answered.sides was.0 writes) was.1) where
    writes : (request : Request) → About request → WritesAway (watched t) request
    writes request is = (asks request is).0

    same_last : last_checkpoint more ≡ last_checkpoint journal
    same_last = last_more journal entry ∙ ap (or_earlier (last_checkpoint journal)) (unasked entry unasks)

    by : LogLeft t (λ schema. About (requests.Create schema)) before.tables after.tables → (find_table (log_name t) before.tables ≡ None) ⊎ Stored before journal → (find_table (log_name t) after.tables ≡ None) ⊎ Stored after more
    by (log_stays same) (inl none) = inl (same ∙ none)
    by (log_stays same) (inr known_so) = inr (
      ap checkpoint_among same ∙ known_so.0 ∙ sym same_last,
      subst (λ (last : Option Row). Keeps (find_table (log_name t) after.tables) last) (sym same_last) (subst (λ (log : Option TableRows). Keeps log (last_checkpoint journal)) (sym same) known_so.1),
    )
    by (log_gone gone) known_so = inl gone
    by (log_new schema made is_named none empty) known_so = absurd (true≢false (sym is_named ∙ (asks (requests.Create schema) made).1))

  -- ANOTHER ACTOR'S TURN

  no_log_of : (actor : Actor) (request : Request) → same_actor actor Insp ≡ false → MakesNoLog t actor request → NoLog t request
  no_log_of Insp request other makes = absurd (true≢false other)
  no_log_of Op request other makes = makes
  no_log_of Copy request other makes = makes
  no_log_of Apply request other makes = makes
  no_log_of Lock request other makes = makes
  no_log_of Ren request other makes = makes
  no_log_of (Client client) request other makes = makes

  others_quiet : same_actor entry.actor Insp ≡ false → Exists before journal → Exists after more
  others_quiet other was =
      quiet was (λ request is. (others_away plan serial journal entry scene_run asks_as other request is, no_log_of entry.actor request other (asks_no_log request is))) (other_unasked entry.actor entry.asked other)

  -- THE INSPECTOR'S, WHERE THE RENAME IS DONE

  module _ (same : entry.actor ≡ Insp) (work : Work) (eq : now.tool.tool_phase ≡ Migrating work) (renamed : IsRenamedAt plan before.tables work.cutover.phase) where
    abbrev InspAsks : Request → Type 0
    InspAsks request = WritesAway (watched t) request × NoLog t request

    renamed_at : (phase : Phase) → work.cutover.phase ≡ phase → IsRenamedAt plan before.tables phase
    renamed_at phase at = subst (IsRenamedAt plan before.tables) at renamed

    inspected : (request : Request) → Inspects plan journal now.tool work request → InspAsks request × (checkpoint_asked Insp (Call request) ≡ None)
    inspected request (notes_so note resting onward next) = absurd (renamed_at Resting resting)
    inspected request (cuts_so off next) = ((call_away t work.cutover (λ hinting. renamed_at (Attempting Hinting) hinting) request next, inspector_no_log t work.cutover request next), cutover_unasked work.cutover request next)

    called : (request : Request) → entry.asked ≡ Call request → Inspects plan journal now.tool work request
    called request asks = inspects plan journal now.tool work request (ap (λ (c : ToolPhase). tool_call plan now.server journal now.tool c Insp) (sym eq) ∙ insp_called plan journal entry together run same request asks)

    insp_asks : (request : Request) → About request → InspAsks request
    insp_asks =
        about_from plan journal entry together run InspAsks (λ request asks gives. (inspected request (called request asks)).0)
        (λ request waits. setting_is plan InspAsks (λ number. (tt, tt)) now.tool.tool_phase request (waits_to_set plan journal request runs serial kept (ap (λ (a : Actor). (has a).waits) (sym same) ∙ waits)))

    insp_unasked : (asked : Asked) → entry.asked ≡ asked → checkpoint_asked Insp asked ≡ None
    insp_unasked (Call request) asks = (inspected request (called request asks)).1
    insp_unasked Poll asks = refl
    insp_unasked Cut asks = refl
    insp_unasked (Command word) asks = refl

    insp_quiet : Exists before journal → Exists after more
    insp_quiet was = quiet was insp_asks (ap (λ (a : Actor). checkpoint_asked a entry.asked) same ∙ insp_unasked entry.asked refl)

  -- THE TURN THAT DOES THE RENAME ISN'T THE INSPECTOR'S

  insp_alters_none : entry.actor ≡ Insp → list_any is_alter (entry_adds plan journal entry) ≡ false
  insp_alters_none same =
      ap (λ (a : Actor). list_any is_alter (histories.adds plan journal entry a)) same
      ∙ no_alter plan (histories.about journal entry) (answer_in entry.asked entry.side entry.answer entry.missed) (λ pairs is. other (about_asked plan serial journal entry runs.fitting known run (ap is_client same) (requests.Rename pairs) is)) where
        other : {pairs : List Pair} → ToolCall plan (requests.Rename pairs) entry.actor → ⊥
        other asks = let no : Insp ≡ Ren = sym same ∙ asks.0 in cc

  -- NOR IS IT ONE OF THE SETUP

  abbrev New : Kept
  New b (SettingUp setup old) = Unit {0}
  New b (Migrating work) = work.cutover.phase ≡ Resting

  back : (b : Bool) (tool_phase : ToolPhase) → New b tool_phase → New true (stopped tool_phase)
  unfolding cuts.reverted
  back b (SettingUp setup old) is = tt
  back b (Migrating work) is = ap cuts.ended is

  drain : DrainKeeps New
  unfolding cuts.applier_turn
  drain b work old is = ap (cuts.drained work.cutover work.applier.hint) is

  begins : (size : ℕ) (setup : Setup) (old : List ℕ) → New false (tool_phase_of plan size setup old)
  begins size (Ready position range) old = refl
  begins size Listing old = tt
  begins size (Clearing left) old = tt
  begins size MakingLog old = tt
  begins size MakingGhost old = tt
  begins size Marking old = tt
  begins size (Reaching position) old = tt

  setup_answer : (answer : Answer) (setup : Setup) (old : List ℕ) (actor : Actor) → AnswerKeeps plan New answer tool actor (SettingUp setup old)
  setup_answer answer setup old Insp = record { reverting = λ is. tt; again = λ going bad some. tt; goes = λ going good. begins tool.operator.size (setup_after plan.table setup answer) old }
  setup_answer answer setup old Op = tt
  setup_answer answer setup old Copy = tt
  setup_answer answer setup old Apply = tt
  setup_answer answer setup old Lock = tt
  setup_answer answer setup old Ren = tt
  setup_answer answer setup old (Client client) = tt

  rests_then : (setup : Setup) (old : List ℕ) → now.tool.tool_phase ≡ SettingUp setup old → New (is_reverting (moment plan more).tool.reason) (moment plan more).tool.tool_phase
  rests_then setup old eq =
      turn_kept plan New back journal entry drain
      (record {
        commanded = λ word asks unsized. subst (New (is_reverting tool.reason)) (sym eq) tt;
        resized = λ size asks. subst (ResizeKeeps New tool size) (sym eq) tt;
        idle = λ asks rests. subst (New (is_reverting tool.reason)) (sym eq) tt;
        lost = λ asks worked. subst (AnswerKeeps plan New answers.Lost tool entry.actor) (sym eq) (setup_answer answers.Lost setup old entry.actor);
        heard = λ called commanded. subst (AnswerKeeps plan New entry.answer tool entry.actor) (sym eq) (setup_answer entry.answer setup old entry.actor);
      })

  never_set_up : (setup : Setup) (old : List ℕ) → now.tool.tool_phase ≡ SettingUp setup old → ToolPhaseRenamed plan after.tables (moment plan more).tool.tool_phase → ⊥
  never_set_up setup old eq renamed = by (moment plan more).tool.tool_phase (rests_then setup old eq) renamed where
    by : (tool_phase : ToolPhase) → New (is_reverting (moment plan more).tool.reason) tool_phase → ToolPhaseRenamed plan after.tables tool_phase → ⊥
    by (SettingUp next tried) rests renamed = renamed
    by (Migrating work) rests renamed = subst (IsRenamedAt plan after.tables) rests renamed

  -- EVERY TURN

  insp_or : (b : Bool) → same_actor entry.actor Insp ≡ b → (entry.actor ≡ Insp) ⊎ (same_actor entry.actor Insp ≡ false)
  insp_or true is = inl (same_actor_is entry.actor Insp is)
  insp_or false is = inr is

  abbrev pub IsMarkedNow : List Entry → Bool
  IsMarkedNow turns = list_any is_alter (histories.history plan turns)

  -- the turn that does the RENAME
  module _ (off : IsUnaltered plan journal) (marked : IsMarkedNow more ≡ true) where
    adds : list_any is_alter (entry_adds plan journal entry) ≡ true
    adds = sym (ap (λ (b : Bool). b || list_any is_alter (entry_adds plan journal entry)) off) ∙ sym (history_more plan journal entry) ∙ marked

    seen_then : ToolPhaseRenamed plan after.tables (moment plan more).tool.tool_phase
    seen_then = all_seen plan more runs serial kept_more.faithful kept_more.follows marked

    first_marked : Exists after more
    first_marked = by (insp_or (same_actor entry.actor Insp) refl) now.tool.tool_phase refl where
      by : (entry.actor ≡ Insp) ⊎ (same_actor entry.actor Insp ≡ false) → (tool_phase : ToolPhase) → now.tool.tool_phase ≡ tool_phase → Exists after more
      by (inl same) tool_phase eq = absurd (true≢false (sym adds ∙ insp_alters_none same))
      by (inr other) (SettingUp setup old) eq = absurd (never_set_up setup old eq seen_then)
      by (inr other) (Migrating work) eq = others_quiet other ((hints_go plan journal runs serial kept off).none, inr (checkpoints_exist plan journal work runs serial tries kept off eq, keeps_first off work eq))

  -- and those after it
  later_marked : IsMarkedNow journal ≡ true → Exists before journal → Exists after more
  later_marked marked was = by (insp_or (same_actor entry.actor Insp) refl) now.tool.tool_phase refl (all_seen plan journal runs serial kept.faithful kept.follows marked) where
    by : (entry.actor ≡ Insp) ⊎ (same_actor entry.actor Insp ≡ false) → (tool_phase : ToolPhase) → now.tool.tool_phase ≡ tool_phase → ToolPhaseRenamed plan before.tables now.tool.tool_phase → Exists after more
    by (inr other) tool_phase eq renamed = others_quiet other was
    by (inl same) (SettingUp setup old) eq renamed = absurd (subst (ToolPhaseRenamed plan before.tables) eq renamed)
    by (inl same) (Migrating work) eq renamed = insp_quiet same work eq (subst (ToolPhaseRenamed plan before.tables) eq renamed) was

  pub lasts_more : (IsMarkedNow journal ≡ true → Exists before journal) → IsMarkedNow more ≡ true → Exists after more
  lasts_more was marked = by (IsMarkedNow journal) refl where
    by : (b : Bool) → IsMarkedNow journal ≡ b → Exists after more
    by true done = later_marked done (was done)
    by false off = first_marked off marked

-- EVERY JOURNAL

module _ (plan : PlanData) (runs : IsRunnable plan) (serial : IsSerialPlan plan) (tries : MayTry plan) (are_runs : (journal : List Entry) → IsKept plan journal → IsPlanRun plan journal) (Keeps : Option TableRows → Option Row → Type 0) (Short : List Entry → Type 0)
    (shorter : (before : List Entry) (entry : Entry) → Short (before ++ entry ∷ []) → Short before)
    (keeps_first : (journal : List Entry) → IsKept plan journal → Short journal → IsUnaltered plan journal → (work : Work) → (moment plan journal).tool.tool_phase ≡ Migrating work → Keeps (find_table (log_name plan.table) (state_at plan journal).tables) (last_checkpoint journal)) where
  abbrev Left : List Entry → Type 0
  Left journal = (checkpoint_stored plan.table (state_at plan journal).tables ≡ last_checkpoint journal) × Keeps (find_table (log_name plan.table) (state_at plan journal).tables) (last_checkpoint journal)

  abbrev Lasts : List Entry → Type 0
  Lasts journal = list_any is_alter (histories.history plan journal) ≡ true → NoneWrote plan.table (state_at plan journal) × ((find_table (log_name plan.table) (state_at plan journal).tables ≡ None) ⊎ Left journal)

  lasts_begin : Lasts []
  unfolding histories.history
  lasts_begin marked = absurd (false≢true marked)

  all_last : (journal : List Entry) → IsKept plan journal → Short journal → Lasts journal
  all_last journal kept =
      each_kept plan (λ some. Short some → Lasts some)
      (λ before entry one is short.
      let front : Short before = shorter before entry short in
      lasts_more plan runs serial tries are_runs before entry one Keeps (keeps_first before (kept_front plan before (entry ∷ []) one) front) (is front)) journal kept (λ short. lasts_begin)

  -- *The changelog is as it was when the RENAME was done*, as long as it exists
  pub log_lasts : (journal : List Entry) → IsKept plan journal → Short journal → list_any is_alter (histories.history plan journal) ≡ true → (find_table (log_name plan.table) (state_at plan journal).tables ≡ None → ⊥) → Left journal
  log_lasts journal kept short marked exists = either (all_last journal kept short marked).1 where
    either : (find_table (log_name plan.table) (state_at plan journal).tables ≡ None) ⊎ Left journal → Left journal
    either (inl none) = absurd (exists none)
    either (inr left) = left

-- *Checkpoints last.*
pub checkpoints_last : CheckpointsLast
checkpoints_last plan journal work runs serial tries are_runs kept eq exists = by (list_any is_alter (histories.history plan journal)) refl where
  by : (b : Bool) → list_any is_alter (histories.history plan journal) ≡ b → checkpoint_stored plan.table (state_at plan journal).tables ≡ last_checkpoint journal
  by false off = checkpoints_exist plan journal work runs serial tries kept off eq
  by true marked = (log_lasts plan runs serial tries are_runs (λ log last. Unit {0}) (λ some. Unit {0}) (λ before entry short. tt) (λ some all short off one phase. tt) journal kept tt marked exists).0
