-- After every kept turn before the RENAME the new table is settled, whether all is reverted or not.
use Rattle.std.proofs.Common.{◌≡◌, ◌⊎◌, ℕ, ◌+◌, Bool, true, false, cond, not, List, [], ◌∷◌, ◌++◌, length, Option, Some, refl, sym, ap, ◌∙◌, subst, inl, inr, append_assoc, append-nil}
use Rattle.std.specs.Prelude.{◌==◌}
use Rattle.std.proofs.lemmas.Bool.{true≢false, false≢true}
use Rattle.std.proofs.lemmas.Option.{none-some}
use Rattle.base_values.specs.declared.span.Span.{Span}
use Rattle.table_store.specs.Databases.{find_table}
use Rattle.base_script.specs.declared.actor.Actor.{Actor}
use Rattle.base_script.specs.declared.actor.Actor.TheVariants.{Op, Insp, Copy, Apply, Lock, Ren, Client}
use Rattle.base_script.specs.declared.operator.OperatorWord.{OperatorWord}
use Rattle.server_model.specs.declared.answer.Answer.{Answer}
use Rattle.server_model.specs.declared.answer.Answer.TheVariants as answers
use Rattle.server_model.specs.declared.entry.Asked.{Asked}
use Rattle.server_model.specs.declared.entry.Asked.TheVariants.{Call, Poll, Command, Cut}
use Rattle.server_model.specs.declared.entry.Entry.{Entry}
use Rattle.server_model.specs.declared.outcome.Progress.TheVariants.{Going, TaskDone, Unfit}
use Rattle.server_model.specs.declared.request.Request.{Request}
use Rattle.server_model.specs.declared.request.Request.TheVariants as requests
use Rattle.server_model.specs.declared.session.Session.{Session}
use Rattle.server_model.specs.Entries.{is_client, is_command, is_cut, same_actor}
use Rattle.server_model.specs.States.{State}
use Rattle.plan_data.specs.PlanData.{PlanData}
use Rattle.tool_program.specs.JournalWords.Journals.{opens, state_at}
use Rattle.tool_program.specs.declared.chunk_copier.copier.Copier.{Copier}
use Rattle.tool_program.specs.declared.chunk_copier.copier.CopyStep.{CopyStep}
use Rattle.tool_program.specs.declared.chunk_copier.copier.CopyStep.TheVariants as copying
use Rattle.tool_program.specs.ChunkCopier.Copiers as copiers
use Rattle.tool_program.specs.ChunkCopier.Copiers.{resized}
use Rattle.tool_program.specs.declared.event_applier.applier.Applier.{Applier}
use Rattle.tool_program.specs.declared.event_applier.applier.ApplyStep.{ApplyStep}
use Rattle.tool_program.specs.declared.event_applier.applier.ApplyStep.TheVariants as applying
use Rattle.tool_program.specs.EventApplier.Appliers as appliers
use Rattle.tool_program.specs.Programs.{given}
use Rattle.tool_program.specs.Tools.{ToolPhase, SettingUp, Migrating, Tool, Work, is_reverting, moment, stopped}
use Rattle.proof_journals.specs.Holdings.{Face, face_in, face_of, stored}
use Rattle.proof_journals.specs.Scenes.{Stored}
use Rattle.proof_journals.specs.Plans.{limits_of, scene_of}
use Rattle.proof_journals.specs.Turns.{IsSceneRun, about}
use Rattle.proof_journals.specs.Run.Kept.{IsKept}
use Rattle.proof_journals.specs.Ghost.HeldKeys.{Clustered}
use Rattle.proof_journals.specs.Ghost.Rows.Moments.{Row}
use Rattle.proof_journals.specs.Ghost.Rows.Timelines.{Migration}
use Rattle.proof_journals.specs.Machine.Machines.{ToolPhaseStands, WorkStands, applier_asks, applier_busy, copier_asks, copier_busy}
use Rattle.proof_journals.specs.Machine.Standings.{IsAbout, Standing, is_called, is_polled, standing_of}
use Rattle.proof_journals.proofs.Faces.{faces_opened}
use Rattle.proof_journals.proofs.Machine.Journals.{IsRun, IsTogether, apply_about, applier_had, asking, copier_had, copy_about}
use Rattle.proof_journals.proofs.Machine.Seated.{IsServed, is_open}
use Rattle.proof_migration.specs.Migration.Copier.CopierPlace.{AfterReported, copy_state}
use Rattle.proof_migration.specs.Migration.Machines.{Machines, MigrationStands}
use Rattle.proof_migration.specs.Program.Turns.Goes.{Goes, machines_in}
use Rattle.proof_migration.specs.Program.Turns.Laws.{GoesSomehow, IsMigrationOf}
use Rattle.proof_migration.specs.ToolPhase.Unaltered.{IsUnaltered}
use Rattle.proof_migration.proofs.Migration.Copier.Knowing.{after_more}
use Rattle.proof_migration.proofs.Program.Starts.{followers_go}
use Rattle.proof_migration.proofs.Program.Turns.ActorStates.{SomeActorStates, some_actor_states}
use Rattle.proof_migration.proofs.Program.Turns.Asked.{gave, waits_with}
use Rattle.proof_migration.proofs.Program.Turns.Follows.{kept_front, kept_run, kept_scene}
use Rattle.proof_migration.proofs.Program.Turns.Others.{IsThird}
use Rattle.proof_migration.proofs.ToolPhase.ToolPhaseTurns.{AnswerKeeps, DrainKeeps, Kept, ResizeKeeps, TurnKeeps, UnfitKeeps, turn_kept}
use Rattle.proof_migration.proofs.ToolPhase.Unaltered.Away.{IsKnownAsked, all_asked, unaltered_front}
use Rattle.proof_resume.specs.Reached.Coverage.{left_in}
use Rattle.proof_resume.specs.Settled.Laws.{KeptRunsSettle}
use Rattle.proof_resume.specs.Settled.NewTable.{IsSettled}
use Rattle.proof_resume.specs.Settled.QuietRequests.{StoresNothing}
use Rattle.proof_resume.proofs.Settled.Lefts.{left_longer, left_resized}
use Rattle.proof_resume.proofs.Settled.QuietTurns.{quiet_turns}
use Rattle.proof_resume.proofs.Settled.RollingBack.{reverts_roll_back}
use Rattle.proof_resume.proofs.Settled.Running.{stands_settle}
use Rattle.proof_resume.proofs.Settled.Setups.{IsSetup, setup_stays}
use Rattle.proof_migration.proofs.Program.Turns.Takes.{applier_loses, applier_takes, copier_loses, copier_takes}
use Rattle.proof_resume.proofs.Settled.Thirds.{ThirdsAway, third_settles, thirds_more, thirds_start}
use Rattle.proof_resume.proofs.Settled.Waits.{AreQuiet, IsQuietWait, all_quiet, waiting_stores}

-- A ROW THAT DOESN'T FIT

abbrev is_copying : CopyStep → Bool
is_copying (copying.Copying chunk copied) = true
is_copying step = false

abbrev is_applying : ApplyStep → Bool
is_applying (applying.Applying batch done part) = true
is_applying step = false

copying_if : (step : CopyStep) (answer : Answer) (place number : ℕ) → copiers.progress_at step answer ≡ Unfit place number → is_copying step ≡ true
copying_if step answers.Lost place number unfit = absurd cc
copying_if step (answers.TimedOut waited) place number unfit = absurd cc
copying_if (copying.Copying chunk copied) answer place number unfit = refl
copying_if (copying.Committing chunk) (answers.Ok count) place number unfit = absurd cc
copying_if step answer place number unfit = absurd cc

copy_unfit : (copier : Copier) (answer : Answer) (place number : ℕ) → copiers.progress copier answer ≡ Unfit place number → is_copying copier.step ≡ true
unfolding copiers.progress
copy_unfit copier answer place number unfit = copying_if copier.step answer place number unfit

applying_if : (applier : Applier) (step : ApplyStep) (answer : Answer) (place number : ℕ) → appliers.progress_at applier step answer ≡ Unfit place number → is_applying step ≡ true
applying_if applier step answers.Lost place number unfit = absurd cc
applying_if applier step (answers.TimedOut waited) place number unfit = absurd cc
applying_if applier applying.Reading (answers.Events events following) place number unfit = absurd (by (length (appliers.planned applier events) == 0) unfit) where
  by : (b : Bool) → cond b TaskDone Going ≡ Unfit place number → ⊥
  by true same = cc
  by false same = cc
applying_if applier (applying.Applying batch done part) answer place number unfit = refl
applying_if applier (applying.Committing batch) (answers.Ok count) place number unfit = absurd cc
applying_if applier step answer place number unfit = absurd cc

apply_unfit : (applier : Applier) (answer : Answer) (place number : ℕ) → appliers.progress applier answer ≡ Unfit place number → is_applying applier.step ≡ true
unfolding appliers.progress
apply_unfit applier answer place number unfit = applying_if applier applier.step answer place number unfit

copies_quietly : (step : CopyStep) (request : Request) → is_copying step ≡ true → copier_asks step request ≡ true → StoresNothing (copier_busy step) request
copies_quietly (copying.Copying chunk copied) (requests.CopyRow from into map key) is asks = refl
copies_quietly (copying.Copying chunk copied) request is asks = absurd (false≢true asks)
copies_quietly step request is asks = absurd (false≢true is)

applies_quietly : (step : ApplyStep) (request : Request) → is_applying step ≡ true → applier_asks step request ≡ true → StoresNothing (applier_busy step) request
applies_quietly (applying.Applying batch done part) (requests.Do statement) is asks = refl
applies_quietly (applying.Applying batch done part) request is asks = absurd (false≢true asks)
applies_quietly step request is asks = absurd (false≢true is)

uncut_if : (asked : Asked) → (asked ≡ Cut → ⊥) → is_cut asked ≡ false
uncut_if Cut uncut = absurd (uncut refl)
uncut_if (Call request) uncut = refl
uncut_if Poll uncut = refl
uncut_if (Command word) uncut = refl

called_if : (asked : Asked) → ((word : OperatorWord) → asked ≡ Command word → ⊥) → is_command asked ≡ false
called_if Cut uncommanded = refl
called_if (Call request) uncommanded = refl
called_if Poll uncommanded = refl
called_if (Command word) uncommanded = absurd (uncommanded word refl)

-- ONE TURN

-- the new table is settled, the end of the last chunk is known, and others have kept away
record Stays (plan : PlanData) (m : Migration) (rows : List Row) (journal : List Entry) (work : Work) : Type 0 where
  made : List Row
  settled : IsSettled m rows (stored (state_at plan journal)) work.applier.position (left_in (copy_state journal work.copier)) made
  known : AfterReported journal work.copier.following
  away : ThirdsAway plan m journal

module _ (plan : PlanData) (m : Migration) (at : Clustered m.schema) (rows : List Row) (of : IsMigrationOf plan m rows) (journal : List Entry) (entry : Entry) (kept : IsKept plan (journal ++ entry ∷ [])) (off : IsUnaltered plan (journal ++ entry ∷ [])) (work : Work) (tool_phase : (moment plan journal).tool.tool_phase ≡ Migrating work)
    (goes : is_reverting (moment plan journal).tool.reason ≡ false → Goes plan m at rows journal work) (was : Stays plan m rows journal work) where
  abbrev more : List Entry
  more = journal ++ entry ∷ []

  abbrev now : State
  now = state_at plan journal

  abbrev then : State
  then = state_at plan more

  abbrev has : Actor → Standing
  has = standing_of plan journal

  abbrev counted : Tool
  counted = record (moment plan journal).tool { turns = (moment plan journal).tool.turns + 1 }

  before : IsKept plan journal
  before = kept_front plan journal (entry ∷ []) kept

  known : IsKnownAsked plan journal
  known = all_asked plan journal of.runs before.faithful before.follows

  run : IsRun plan journal entry
  run = kept_run plan journal entry kept

  together : IsTogether plan journal
  together = known.marking.tabled.all.tool

  served : IsServed plan journal entry
  served = record { answered = run.answered; seated = record { session = run.followed.session } }

  scene_run : IsSceneRun (limits_of plan) (scene_of plan more) more
  scene_run = kept_scene plan m rows of more kept off

  quiet : AreQuiet plan journal
  quiet = all_quiet plan journal before

  work_stands : WorkStands journal (is_reverting (moment plan journal).tool.reason) has work
  work_stands = subst (ToolPhaseStands journal has (is_reverting (moment plan journal).tool.reason)) tool_phase together.stands

  -- what holds of the records after the turn
  record Still (copier : Copier) (position : ℕ) : Type 0 where
    made : List Row
    settled : IsSettled m rows (stored then) position (left_in (copy_state more copier)) made
    known : AfterReported more copier.following

  abbrev New : Kept
  New b (SettingUp setup tries) = Unit {0}
  New b (Migrating later) = Still later.copier later.applier.position

  abbrev Same : Type 0
  Same = Still work.copier work.applier.position

  same_if : IsSettled m rows (stored then) work.applier.position (left_in (copy_state journal work.copier)) was.made → Same
  same_if settled = record {
    made = was.made;
    settled = subst (λ (l : Option Span). IsSettled m rows (stored then) work.applier.position l was.made) (sym (left_longer journal (entry ∷ []) work.copier was.known)) settled;
    known = after_more journal (entry ∷ []) work.copier.following was.known;
  }

  same_stored : stored then ≡ stored now → Same
  same_stored same = same_if (subst (λ (s : Stored). IsSettled m rows s work.applier.position (left_in (copy_state journal work.copier)) was.made) (sym same) was.settled)

  stands_still : (machines : Machines) → MigrationStands m at rows (limits_of plan) (scene_of plan more) more machines → Still machines.copier machines.applier.position
  stands_still machines stands = stands_settle plan m at rows of.planned more more machines stands (Still machines.copier machines.applier.position) (λ made is. record { made = made; settled = is; known = stands.copier_knows.following })

  -- ANOTHER'S TURN, AND A COMMAND

  third_so : IsThird entry.actor → is_command entry.asked ≡ false → Same
  third_so third called = same_if (third_settles plan m rows of journal entry kept off work tool_phase was.away third called work.applier.position (left_in (copy_state journal work.copier)) was.made was.settled)

  commanded_so : (word : OperatorWord) → entry.asked ≡ Command word → Same
  commanded_so word asks = same_stored (quiet_turns (limits_of plan) (scene_of plan more) journal entry scene_run run.answered.sides (λ request is. absurd (none-some request (sym (ap (about (opens entry now) entry.session) asks) ∙ is))))

  -- A TURN OF THE TWO THAT STORES NOTHING

  busy_is : is_command entry.asked ≡ false → (has entry.actor).busy ≡ (face_of now.sessions entry.session).busy
  busy_is called =
      let opened = is_open plan journal entry together.known served called in
      ap (λ (s : Standing). s.busy) opened.stands ∙ ap (λ (o : Option Session). (face_in o).busy) (sym opened.is) ∙ ap (λ (f : Face). f.busy) (faces_opened (is_command entry.asked) (not (is_client entry.actor)) entry.session entry.session now)

  module _ (actor : Actor) (same : entry.actor ≡ actor) (waits : IsQuietWait (has actor)) where
    in_session : is_command entry.asked ≡ false → (request : Request) → StoresNothing (has actor).busy request → StoresNothing (face_of now.sessions entry.session).busy request
    in_session called request stores = subst (λ (b : Bool). StoresNothing b request) (ap (λ (a : Actor). (has a).busy) (sym same) ∙ busy_is called) stores

    waiting : is_command entry.asked ≡ false → (request : Request) → (has entry.actor).waits ≡ Some request → StoresNothing (face_of now.sessions entry.session).busy request
    waiting called request some = in_session called request (waiting_stores (has actor) request waits (ap (λ (a : Actor). (has a).waits) (sym same) ∙ some))

    about_quiet : ((request : Request) → entry.asked ≡ Call request → StoresNothing (has actor).busy request) → (request : Request) → about (opens entry now) entry.session entry.asked ≡ Some request → StoresNothing (face_of now.sessions entry.session).busy request
    about_quiet calls request is = by entry.asked refl is where
      by : (asked : Asked) → entry.asked ≡ asked → about (opens entry now) entry.session asked ≡ Some request → StoresNothing (face_of now.sessions entry.session).busy request
      by (Call called) asks is = let one : called ≡ request = cc in subst (StoresNothing (face_of now.sessions entry.session).busy) one (in_session (ap is_command asks) called (calls called asks))
      by Poll asks is = waiting (ap is_command asks) request (waits_with plan of.serial of.runs.fitting journal entry known run off (ap is_command asks) request is)
      by Cut asks is = waiting (ap is_command asks) request (waits_with plan of.serial of.runs.fitting journal entry known run off (ap is_command asks) request is)
      by (Command word) asks is = absurd cc

    two_so : ((request : Request) → entry.asked ≡ Call request → StoresNothing (has actor).busy request) → Same
    two_so calls = same_stored (quiet_turns (limits_of plan) (scene_of plan more) journal entry scene_run run.answered.sides (about_quiet calls))

    two_cut : entry.asked ≡ Cut → Same
    two_cut asks = two_so (λ request called. absurd (no request (sym asks ∙ called))) where
      no : (request : Request) → Cut ≡ Call request → ⊥
      no request both = cc

    two_back : is_reverting (moment plan journal).tool.reason ≡ true → (entry.actor ≡ Copy) ⊎ (entry.actor ≡ Apply) → Same
    two_back on who = two_so (λ request called. subst (StoresNothing (has actor).busy) (sym (reverts_roll_back plan journal entry work of.runs of.serial kept off tool_phase on who request called)) tt)

  cut_so : entry.asked ≡ Cut → Same
  cut_so asks = by entry.actor refl where
    third : (actor : Actor) → entry.actor ≡ actor → same_actor actor Copy ≡ false → same_actor actor Apply ≡ false → Same
    third actor same no_copy no_apply = third_so (ap (λ (a : Actor). same_actor a Copy) same ∙ no_copy, ap (λ (a : Actor). same_actor a Apply) same ∙ no_apply) (ap is_command asks)

    by : (actor : Actor) → entry.actor ≡ actor → Same
    by Copy same = two_cut Copy same quiet.copier asks
    by Apply same = two_cut Apply same quiet.applier asks
    by Insp same = third Insp same refl refl
    by Lock same = third Lock same refl refl
    by Ren same = third Ren same refl refl
    by Op same = third Op same refl refl
    by (Client c) same = third (Client c) same refl refl

  -- where its row doesn't fit, the copier called for a copy in its transaction
  copy_called : is_reverting (moment plan journal).tool.reason ≡ false → entry.actor ≡ Copy → is_cut entry.asked ≡ false → is_copying work.copier.step ≡ true → (request : Request) → entry.asked ≡ Call request → StoresNothing (has Copy).busy request
  unfolding given
  copy_called going same uncut step request called =
      copy_about plan journal entry together run work tool_phase work_stands going (asking plan journal Copy entry.asked together.server (gave plan of.serial of.runs.fitting journal entry known run off Copy same uncut)) (StoresNothing (has Copy).busy request)
      (λ other is asks. by other is asks) where
        by : (other : Request) → IsAbout other (has Copy) entry.asked → copier_asks work.copier.step other ≡ true → StoresNothing (has Copy).busy request
        by other (is_called one none) asks =
            let both : Call other ≡ Call request = sym one ∙ called in
            let is : other ≡ request = cc in
            subst (StoresNothing (has Copy).busy) is (subst (λ (b : Bool). StoresNothing b other) (sym (copier_had plan journal entry together run work work_stands going).busy) (copies_quietly work.copier.step other step asks))
        by other (is_polled one some) asks = absurd (no (sym one ∙ called)) where
          no : Poll ≡ Call request → ⊥
          no both = cc

  apply_called_so : is_reverting (moment plan journal).tool.reason ≡ false → entry.actor ≡ Apply → is_cut entry.asked ≡ false → is_applying work.applier.step ≡ true → (request : Request) → entry.asked ≡ Call request → StoresNothing (has Apply).busy request
  unfolding given
  apply_called_so going same uncut step request called =
      apply_about plan journal entry together run work tool_phase work_stands going (asking plan journal Apply entry.asked together.server (gave plan of.serial of.runs.fitting journal entry known run off Apply same uncut)) (StoresNothing (has Apply).busy request)
      (λ other is asks. by other is asks) where
        by : (other : Request) → IsAbout other (has Apply) entry.asked → applier_asks work.applier.step other ≡ true → StoresNothing (has Apply).busy request
        by other (is_called one none) asks =
            let both : Call other ≡ Call request = sym one ∙ called in
            let is : other ≡ request = cc in
            subst (StoresNothing (has Apply).busy) is (subst (λ (b : Bool). StoresNothing b other) (sym ((applier_had plan journal entry together run work work_stands going).stands).busy) (applies_quietly work.applier.step other step asks))
        by other (is_polled one some) asks = absurd (no (sym one ∙ called)) where
          no : Poll ≡ Call request → ⊥
          no both = cc

  -- EACH ANSWER

  -- the sessions in which the two go on
  some : SomeActorStates more
  some = some_actor_states more (all_asked plan more of.runs kept.faithful kept.follows).marking.tabled.all.tool.known.sessions

  here : (b : Bool) → Same → New b (moment plan journal).tool.tool_phase
  here b same = subst (New b) (sym tool_phase) same

  unfit_so : Same → UnfitKeeps New work
  unfit_so same = record { renamed = λ is. same; reverts = same }

  turn_is : counted.turns ≡ length journal + 1
  turn_is = ap (λ (n : ℕ). n + 1) together.turns

  lost_copier : is_reverting (moment plan journal).tool.reason ≡ false → entry.actor ≡ Copy → entry.asked ≡ Cut → (turn : ℕ) → Still (copiers.took turn work.copier answers.Lost) work.applier.position
  unfolding copiers.took
  lost_copier going same asks turn = stands_still _ (copier_loses plan m at rows of journal entry kept off work tool_phase going (goes going) some.copier some.applier some.actor_states same asks)

  lost_applier : is_reverting (moment plan journal).tool.reason ≡ false → entry.actor ≡ Apply → entry.asked ≡ Cut → (turn : ℕ) → Still work.copier (appliers.took turn work.applier answers.Lost).position
  unfolding appliers.took
  lost_applier going same asks turn = stands_still _ (applier_loses plan m at rows of journal entry kept off work tool_phase going (goes going) some.copier some.applier some.actor_states same asks)

  took_copier : is_reverting (moment plan journal).tool.reason ≡ false → entry.actor ≡ Copy → is_cut entry.asked ≡ false → ((place number : ℕ) → copiers.progress work.copier entry.answer ≡ Unfit place number → ⊥) → Still (copiers.took counted.turns work.copier entry.answer) work.applier.position
  took_copier going same uncut fits =
      subst (λ (n : ℕ). Still (copiers.took n work.copier entry.answer) work.applier.position) (sym turn_is)
      (stands_still _ (copier_takes plan m at rows of journal entry kept off work tool_phase going (goes going) some.copier some.applier some.actor_states same uncut fits))

  took_applier : is_reverting (moment plan journal).tool.reason ≡ false → entry.actor ≡ Apply → is_cut entry.asked ≡ false → ((place number : ℕ) → appliers.progress work.applier entry.answer ≡ Unfit place number → ⊥) → Still work.copier (appliers.took counted.turns work.applier entry.answer).position
  took_applier going same uncut fits =
      subst (λ (n : ℕ). Still work.copier (appliers.took n work.applier entry.answer).position) (sym turn_is)
      (stands_still _ (applier_takes plan m at rows of journal entry kept off work tool_phase going (goes going) some.copier some.applier some.actor_states same uncut fits))

  lost_by : entry.asked ≡ Cut → (actor : Actor) → entry.actor ≡ actor → AnswerKeeps plan New answers.Lost counted actor (Migrating work)
  lost_by asks Insp same = λ tries. cut_so asks
  lost_by asks Copy same = record { reverting = λ on. cut_so asks; unfit = λ going place number is. unfit_so (cut_so asks); took = λ going fits tries. lost_copier going same asks counted.turns }
  lost_by asks Apply same = record { reverting = λ on. cut_so asks; unfit = λ going place number is. unfit_so (cut_so asks); took = λ going fits tries. lost_applier going same asks counted.turns }
  lost_by asks Lock same = λ tries. cut_so asks
  lost_by asks Ren same = λ tries. cut_so asks
  lost_by asks Op same = cut_so asks
  lost_by asks (Client c) same = cut_so asks

  heard_by : is_cut entry.asked ≡ false → is_command entry.asked ≡ false → (actor : Actor) → entry.actor ≡ actor → AnswerKeeps plan New entry.answer counted actor (Migrating work)
  heard_by uncut called actor same = by actor same where
    third : (one : Actor) → entry.actor ≡ one → same_actor one Copy ≡ false → same_actor one Apply ≡ false → Same
    third one is no_copy no_apply = third_so (ap (λ (a : Actor). same_actor a Copy) is ∙ no_copy, ap (λ (a : Actor). same_actor a Apply) is ∙ no_apply) called

    by : (one : Actor) → entry.actor ≡ one → AnswerKeeps plan New entry.answer counted one (Migrating work)
    by Insp is = λ tries. third Insp is refl refl
    by Copy is =
        record {
          reverting = λ on. two_back Copy is quiet.copier on (inl is);
          unfit = λ going place number unfit. unfit_so (two_so Copy is quiet.copier (copy_called going is uncut (copy_unfit work.copier entry.answer place number unfit)));
          took = λ going fits tries. took_copier going is uncut fits;
        }
    by Apply is =
        record {
          reverting = λ on. two_back Apply is quiet.applier on (inr is);
          unfit = λ going place number unfit. unfit_so (two_so Apply is quiet.applier (apply_called_so going is uncut (apply_unfit work.applier entry.answer place number unfit)));
          took = λ going fits tries. took_applier going is uncut fits;
        }
    by Lock is = λ tries. third Lock is refl refl
    by Ren is = λ tries. third Ren is refl refl
    by Op is = third Op is refl refl
    by (Client c) is = third (Client c) is refl refl

  resized_so : (size : ℕ) → Same → Still (resized size work.copier) work.applier.position
  resized_so size same = record {
    made = same.made;
    settled = subst (λ (l : Option Span). IsSettled m rows (stored then) work.applier.position l same.made) (sym (left_resized more work.copier size)) same.settled;
    known = same.known;
  }

  turned : TurnKeeps plan New (moment plan journal).server entry counted
  turned =
      record {
        commanded = λ word asks unsized. here (is_reverting (moment plan journal).tool.reason) (commanded_so word asks);
        resized = λ size asks. subst (ResizeKeeps New counted size) (sym tool_phase) (resized_so size (commanded_so _ asks));
        idle = λ asks rests. here (is_reverting (moment plan journal).tool.reason) (cut_so asks);
        lost = λ asks worked. subst (AnswerKeeps plan New answers.Lost counted entry.actor) (sym tool_phase) (lost_by asks entry.actor refl);
        heard = λ uncut uncommanded. subst (AnswerKeeps plan New entry.answer counted entry.actor) (sym tool_phase) (heard_by (uncut_if entry.asked uncut) (called_if entry.asked uncommanded) entry.actor refl);
      }

  new_back : (b : Bool) (phase : ToolPhase) → New b phase → New true (stopped phase)
  new_back b (SettingUp setup tries) is = tt
  new_back b (Migrating later) is = is

  drained : DrainKeeps New
  drained b later tries is = is

  stays_more : (then_work : Work) → (moment plan more).tool.tool_phase ≡ Migrating then_work → Stays plan m rows more then_work
  stays_more then_work then_phase =
      let still : Still then_work.copier then_work.applier.position = subst (New (is_reverting (moment plan more).tool.reason)) then_phase (turn_kept plan New new_back journal entry drained turned) in
      record { made = still.made; settled = still.settled; known = still.known; away = thirds_more plan m rows of journal entry kept off work tool_phase was.away }

-- WHOLE JOURNALS

same_work : (one other : Work) → Migrating one ≡ Migrating other → one ≡ other
same_work one other same = cc

module _ (plan : PlanData) (m : Migration) (at : Clustered m.schema) (rows : List Row) (of : IsMigrationOf plan m rows) (found : find_table m.name plan.tables ≡ Some (record { schema = m.schema; rows = rows })) where
  -- where nothing is reverted, the migration goes
  goes_so : (journal : List Entry) (work : Work) → IsKept plan journal → IsUnaltered plan journal → (moment plan journal).tool.tool_phase ≡ Migrating work → is_reverting (moment plan journal).tool.reason ≡ false → Goes plan m at rows journal work
  goes_so journal work kept off phase going =
      let somehow : GoesSomehow plan m at rows journal = followers_go plan m at rows of found journal work kept off going phase in
      subst (Goes plan m at rows journal) (same_work somehow.work work (sym somehow.tool_phase ∙ phase)) somehow.goes

  stays_start : (journal : List Entry) (work : Work) → IsKept plan journal → Goes plan m at rows journal work → Stays plan m rows journal work
  stays_start journal work kept goes =
      let known : IsKnownAsked plan journal = all_asked plan journal of.runs kept.faithful kept.follows in
      let together : IsTogether plan journal = known.marking.tabled.all.tool in
      let some : SomeActorStates journal = some_actor_states journal together.known.sessions in
      let stands = goes.stands some.copier some.applier some.actor_states in
      stands_settle plan m at rows of.planned [] journal (machines_in work some.copier some.applier) stands (Stays plan m rows journal work)
      (λ made is. record { made = made; settled = is; known = stands.copier_knows.following; away = thirds_start plan m at rows journal work together.known.sessions goes })

  -- so it is where all is reverted
  abbrev Reverted : List Entry → Type 0
  Reverted journal = (work : Work) → (moment plan journal).tool.tool_phase ≡ Migrating work → is_reverting (moment plan journal).tool.reason ≡ true → Stays plan m rows journal work

  one_more : (journal : List Entry) (entry : Entry) → IsKept plan (journal ++ entry ∷ []) → IsUnaltered plan (journal ++ entry ∷ []) → Reverted journal → Reverted (journal ++ entry ∷ [])
  one_more journal entry kept off was then_work then_phase then_on = by (moment plan journal).tool.tool_phase refl where
    before : IsKept plan journal
    before = kept_front plan journal (entry ∷ []) kept

    by_reverting : (work : Work) → (moment plan journal).tool.tool_phase ≡ Migrating work → (b : Bool) → is_reverting (moment plan journal).tool.reason ≡ b → Stays plan m rows (journal ++ entry ∷ []) then_work
    by_reverting work phase true on = stays_more plan m at rows of journal entry kept off work phase (λ going. absurd (true≢false (sym on ∙ going))) (was work phase on) then_work then_phase
    by_reverting work phase false going =
        let goes : Goes plan m at rows journal work = goes_so journal work before (unaltered_front plan journal (entry ∷ []) off) phase going in
        stays_more plan m at rows of journal entry kept off work phase (λ same. goes) (stays_start journal work before goes) then_work then_phase

    by : (phase : ToolPhase) → (moment plan journal).tool.tool_phase ≡ phase → Stays plan m rows (journal ++ entry ∷ []) then_work
    by (SettingUp setup tries) phase = absurd (subst IsSetup then_phase (setup_stays plan journal entry setup tries phase then_on))
    by (Migrating work) phase = by_reverting work phase (is_reverting (moment plan journal).tool.reason) refl

  all_more : (some rest : List Entry) → IsKept plan (some ++ rest) → IsUnaltered plan (some ++ rest) → Reverted some → Reverted (some ++ rest)
  all_more some [] kept off was = subst Reverted (sym (append-nil some)) was
  all_more some (entry ∷ rest) kept off was =
      let same : (some ++ entry ∷ []) ++ rest ≡ some ++ entry ∷ rest = append_assoc some (entry ∷ []) rest in
      let later : IsKept plan ((some ++ entry ∷ []) ++ rest) = subst (IsKept plan) (sym same) kept in
      let later_off : IsUnaltered plan ((some ++ entry ∷ []) ++ rest) = subst (IsUnaltered plan) (sym same) off in
      subst Reverted same (all_more (some ++ entry ∷ []) rest later later_off (one_more some entry (kept_front plan (some ++ entry ∷ []) rest later) (unaltered_front plan (some ++ entry ∷ []) rest later_off) was))

  none_reverted : Reverted []
  unfolding moment
  none_reverted work phase on = absurd (false≢true on)

  all_settle : (journal : List Entry) (work : Work) → IsKept plan journal → IsUnaltered plan journal → (moment plan journal).tool.tool_phase ≡ Migrating work → Stays plan m rows journal work
  all_settle journal work kept off phase = by (is_reverting (moment plan journal).tool.reason) refl where
    by : (b : Bool) → is_reverting (moment plan journal).tool.reason ≡ b → Stays plan m rows journal work
    by true on = all_more [] journal kept off none_reverted work phase on
    by false going = stays_start journal work kept (goes_so journal work kept off phase going)

-- *Kept runs settle.*
pub kept_runs_settle : KeptRunsSettle
kept_runs_settle plan m at rows of found journal work kept off phase =
    let stays : Stays plan m rows journal work = all_settle plan m at rows of found journal work kept off phase in
    record { made = stays.made; is = stays.settled }
