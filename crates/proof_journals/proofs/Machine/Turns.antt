-- A turn of each actor leaves the machines and their sessions together.
use Rattle.std.proofs.Common.{◌≡◌, ◌⊎◌, ℕ, Bool, true, false, cond, List, [], ◌∷◌, ◌++◌, refl, sym, ap, ◌∙◌, subst, inl, inr}
use Rattle.base_script.specs.declared.actor.Actor.{Actor}
use Rattle.base_script.specs.declared.actor.Actor.TheVariants.{Op, Insp, Copy, Apply, Lock, Ren}
use Rattle.base_script.specs.declared.operator.OperatorWord.{OperatorWord}
use Rattle.base_script.specs.declared.operator.OperatorWord.TheVariants.{Throttle, NoThrottle, ChunkSize, Unpostpone, Panic, Wait}
use Rattle.server_model.specs.declared.answer.Answer.{Answer}
use Rattle.server_model.specs.declared.answer.Answer.TheVariants as answers
use Rattle.server_model.specs.declared.entry.Entry.{Entry}
use Rattle.server_model.specs.declared.outcome.Task.TheVariants as tasks
use Rattle.server_model.specs.declared.outcome.Progress.TheVariants.{Unfit}
use Rattle.server_model.specs.declared.request.Request.{Request}
use Rattle.server_model.specs.declared.request.Request.TheVariants as requests
use Rattle.server_model.specs.Entries.{same_actor}
use Rattle.plan_data.specs.PlanData.{PlanData}
use Rattle.tool_program.specs.ChunkCopier.Copiers as copiers
use Rattle.tool_program.specs.EventApplier.Appliers as appliers
use Rattle.tool_program.specs.declared.cutover_core.cutover.Role.TheVariants.{Inspector, Locker, Renamer}
use Rattle.tool_program.specs.CutoverCore.CutOvers as cutovers
use Rattle.tool_program.specs.CutoverCore.CutOvers.{is_bad, is_wait, locker_phase, hold_after, reverted, applier_turn}
use Rattle.tool_program.specs.Setups.{Setup, Listing, Clearing, MakingLog, MakingGhost, Marking, Reaching, Ready, setup_after}
use Rattle.tool_program.specs.Operators.{commanded}
use Rattle.tool_program.specs.Tools.{Work, ToolPhase, SettingUp, Migrating, Panicked, Tool, stopped, spends, is_reverting, is_failure, new_work, tool_phase_of, copy_took, apply_took, cutover_took, actor_took, drains, resizes, command_took}
use Rattle.proof_journals.specs.Machine.Standings.{Standing, free, answered, answers_to}
use Rattle.proof_journals.specs.Machine.Machines.{Stands, inspector_asks, inspector_waits, copier_asks, copier_busy, ApplierStands, held, PhaseHolds, renaming, WorkStands, SetupStands, ToolPhaseStands}
use Rattle.proof_journals.proofs.Machine.Applying.{applier_rests}
use Rattle.proof_journals.proofs.Machine.CuttingOver.{LockerStands, ListsFree, ended_holds, drained_holds, renamer_holds, inspector_holds}
use Rattle.proof_journals.proofs.Machine.Lifting.{reverts_keeps, spends_keeps, attempt_keeps, copy_keeps, apply_keeps, drains_keeps}

-- THE INSPECTOR'S SESSION

-- it is never in a transaction, and locks no table
pub inspector_stands : (request : Request) (answer : Answer) (old : Standing) → inspector_asks request ≡ true → answers_to request answer ≡ true → Stands inspector_waits false [] old → Stands inspector_waits false [] (answered request answer old)
inspector_stands request answers.Lost old asks fits is = record { busy = refl; locked = refl; waits = refl }
inspector_stands request (answers.TimedOut waited) old asks fits is = record { busy = refl; locked = is.locked; waits = refl }
inspector_stands (requests.Do statement) (answers.Waits by) old asks fits is = record { busy = is.busy; locked = is.locked; waits = refl }
inspector_stands (requests.Ends table) (answers.Waits by) old asks fits is = record { busy = is.busy; locked = is.locked; waits = refl }
inspector_stands (requests.Create schema) (answers.Waits by) old asks fits is = record { busy = is.busy; locked = is.locked; waits = refl }
inspector_stands (requests.Drop name) (answers.Waits by) old asks fits is = record { busy = is.busy; locked = is.locked; waits = refl }
inspector_stands (requests.SetCounter table least) (answers.Waits by) old asks fits is = record { busy = is.busy; locked = is.locked; waits = refl }
inspector_stands request (answers.Waits by) old asks fits is = absurd cc
inspector_stands (requests.Do statement) answer old asks fits is = record { busy = is.busy; locked = is.locked; waits = refl }
inspector_stands (requests.Ends table) answer old asks fits is = record { busy = is.busy; locked = is.locked; waits = refl }
inspector_stands (requests.Create schema) answer old asks fits is = record { busy = is.busy; locked = is.locked; waits = refl }
inspector_stands (requests.Drop name) answer old asks fits is = record { busy = is.busy; locked = is.locked; waits = refl }
inspector_stands requests.LogEnd answer old asks fits is = record { busy = is.busy; locked = is.locked; waits = refl }
inspector_stands requests.ShowTables answer old asks fits is = record { busy = is.busy; locked = is.locked; waits = refl }
inspector_stands requests.ShowWaiting answer old asks fits is = record { busy = is.busy; locked = is.locked; waits = refl }
inspector_stands (requests.ShowCounter table) answer old asks fits is = record { busy = is.busy; locked = is.locked; waits = refl }
inspector_stands (requests.SetCounter table least) answer old asks fits is = record { busy = is.busy; locked = is.locked; waits = refl }
inspector_stands request answer old asks fits is = absurd cc

pub free_stands : (asks : Request → Bool) (standing : Standing) → standing ≡ free → Stands asks false [] standing
free_stands asks standing is = subst (Stands asks false []) (sym is) (record { busy = refl; locked = refl; waits = refl })

module _ (plan : PlanData) (journal : List Entry) (entry : Entry) (has now_has : Actor → Standing) where
  abbrev more : List Entry
  more = journal ++ entry ∷ []

  abbrev Now : Bool → ToolPhase → Type 0
  Now b tool_phase = ToolPhaseStands more now_has b tool_phase

  -- all machines and sessions together behind the turn
  abbrev Together : Tool → Type 0
  Together tool = Now (is_reverting tool.reason) tool.tool_phase

  -- A REVERT AND THE DRAIN

  back : (b : Bool) (tool_phase : ToolPhase) → Now b tool_phase → Now true (stopped tool_phase)
  unfolding reverted
  back b (SettingUp setup tries) at = at
  back b (Migrating work) at = record { inspector = at.inspector; copier = inl refl; applier = inl refl; locker = at.locker; phase = ended_holds work.cutover.phase work.cutover.hold at.phase; renamer = at.renamer }

  drain : (b : Bool) (work : Work) (tries : List ℕ) → Now b (Migrating work) → Now b (Migrating (record work { cutover = applier_turn work.applier.hint work.cutover; attempt_tries = tries }))
  unfolding applier_turn
  drain b work tries at = record { inspector = at.inspector; copier = at.copier; applier = at.applier; locker = at.locker; phase = drained_holds work.cutover work.applier.hint work.cutover.phase work.cutover.hold at.phase; renamer = at.renamer }

  pub drained : (tool : Tool) → Together tool → Together (drains plan tool.tool_phase tool)
  drained tool at = drains_keeps Now back plan tool.tool_phase tool refl drain at

  -- WHAT STAYS

  inspector_same : now_has Insp ≡ has Insp → Stands inspector_waits false [] (has Insp) → Stands inspector_waits false [] (now_has Insp)
  inspector_same same is = subst (Stands inspector_waits false []) (sym same) is

  copier_same : (b : Bool) (work : Work) → now_has Copy ≡ has Copy → (b ≡ true) ⊎ Stands (copier_asks work.copier.step) (copier_busy work.copier.step) [] (has Copy) → (b ≡ true) ⊎ Stands (copier_asks work.copier.step) (copier_busy work.copier.step) [] (now_has Copy)
  copier_same b work same (inl is) = inl is
  copier_same b work same (inr is) = inr (subst (Stands (copier_asks work.copier.step) (copier_busy work.copier.step) []) (sym same) is)

  applier_same : (b : Bool) (work : Work) → now_has Apply ≡ has Apply → (b ≡ true) ⊎ ApplierStands journal work.applier (has Apply) → (b ≡ true) ⊎ ApplierStands more work.applier (now_has Apply)
  applier_same b work same (inl is) = inl is
  applier_same b work same (inr is) = inr (subst (ApplierStands more work.applier) (sym same) (applier_rests journal entry work.applier (has Apply) is))

  -- nothing changed of what sessions have, nor of the tool
  pub still : (b : Bool) (tool_phase : ToolPhase) → ((a : Actor) → same_actor a Op ≡ false → Rattle.server_model.specs.Entries.is_client a ≡ false → now_has a ≡ has a) → ToolPhaseStands journal has b tool_phase → Now b tool_phase
  still b (SettingUp setup tries) same at = record {
    inspector = inspector_same (same Insp refl refl) at.inspector;
    copier = same Copy refl refl ∙ at.copier;
    applier = same Apply refl refl ∙ at.applier;
    locker = same Lock refl refl ∙ at.locker;
    renamer = same Ren refl refl ∙ at.renamer;
  }
  still b (Migrating work) same at = record {
    inspector = inspector_same (same Insp refl refl) at.inspector;
    copier = copier_same b work (same Copy refl refl) at.copier;
    applier = applier_same b work (same Apply refl refl) at.applier;
    locker = same Lock refl refl ∙ at.locker;
    phase = at.phase;
    renamer = same Ren refl refl ∙ at.renamer;
  }

  -- the others have what they had
  abbrev OthersSame : Actor → Type 0
  OthersSame actor = (a : Actor) → same_actor actor a ≡ false → now_has a ≡ has a

  -- THE COPIER

  pub copy_turn : (answer : Answer) (work : Work) (tool : Tool) → tool.tool_phase ≡ Migrating work → OthersSame Copy → WorkStands journal (is_reverting tool.reason) has work
      → (is_reverting tool.reason ≡ false → Stands (copier_asks (copiers.took tool.turns work.copier answer).step) (copier_busy (copiers.took tool.turns work.copier answer).step) [] (now_has Copy))
      → (is_reverting tool.reason ≡ false → (place number : ℕ) → copiers.progress work.copier answer ≡ Unfit place number → Stands (copier_asks work.copier.step) (copier_busy work.copier.step) [] (now_has Copy))
      → Together (actor_took plan Copy answer (Migrating work) tool)
  copy_turn answer work tool is others at stands unfit = by (is_reverting tool.reason) refl where
    with_copier : (work : Work) (b : Bool) → WorkStands journal b has work → (after : Work) → after.applier ≡ work.applier → after.cutover ≡ work.cutover → (b ≡ true) ⊎ Stands (copier_asks after.copier.step) (copier_busy after.copier.step) [] (now_has Copy) → WorkStands more b now_has after
    with_copier work b at after applier cutover copier = record {
      inspector = inspector_same (others Insp refl) at.inspector;
      copier = copier;
      applier = subst (λ a. (b ≡ true) ⊎ ApplierStands more a (now_has Apply)) (sym applier) (applier_same b work (others Apply refl) at.applier);
      locker = others Lock refl ∙ at.locker ∙ ap (λ c. held c.table c.hold) (sym cutover);
      phase = subst (λ c. PhaseHolds c.phase c.hold) (sym cutover) at.phase;
      renamer = others Ren refl ∙ at.renamer ∙ ap (λ c. renaming c.table c.renamer_waits) (sym cutover);
    }

    by : (b : Bool) → is_reverting tool.reason ≡ b → Together (cond b tool (copy_took plan answer work tool))
    by true reverting = subst (Now (is_reverting tool.reason)) (sym is) (with_copier work (is_reverting tool.reason) at work refl refl (inl reverting))
    by false going =
        copy_keeps Now back plan work (copiers.progress work.copier answer) (copiers.took tool.turns work.copier answer) tool
        (λ place number same. subst (Now (is_reverting tool.reason)) (sym is) (with_copier work (is_reverting tool.reason) at work refl refl (inr (unfit going place number same))))
        (λ tries. with_copier work (is_reverting tool.reason) at (record work { copier = copiers.took tool.turns work.copier answer; chunk_tries = tries }) refl refl (inr (stands going)))

  -- THE APPLIER

  pub apply_turn : (answer : Answer) (work : Work) (tool : Tool) → tool.tool_phase ≡ Migrating work → OthersSame Apply → WorkStands journal (is_reverting tool.reason) has work
      → (is_reverting tool.reason ≡ false → ApplierStands more (appliers.took tool.turns work.applier answer) (now_has Apply))
      → (is_reverting tool.reason ≡ false → (place number : ℕ) → appliers.progress work.applier answer ≡ Unfit place number → ApplierStands more work.applier (now_has Apply))
      → Together (actor_took plan Apply answer (Migrating work) tool)
  apply_turn answer work tool is others at stands unfit = by (is_reverting tool.reason) refl where
    with_applier : (b : Bool) → WorkStands journal b has work → (after : Work) → after.copier ≡ work.copier → after.cutover ≡ work.cutover → (b ≡ true) ⊎ ApplierStands more after.applier (now_has Apply) → WorkStands more b now_has after
    with_applier b at after copier cutover applier = record {
      inspector = inspector_same (others Insp refl) at.inspector;
      copier = subst (λ c. (b ≡ true) ⊎ Stands (copier_asks c.step) (copier_busy c.step) [] (now_has Copy)) (sym copier) (copier_same b work (others Copy refl) at.copier);
      applier = applier;
      locker = others Lock refl ∙ at.locker ∙ ap (λ c. held c.table c.hold) (sym cutover);
      phase = subst (λ c. PhaseHolds c.phase c.hold) (sym cutover) at.phase;
      renamer = others Ren refl ∙ at.renamer ∙ ap (λ c. renaming c.table c.renamer_waits) (sym cutover);
    }

    by : (b : Bool) → is_reverting tool.reason ≡ b → Together (cond b tool (apply_took plan answer work tool))
    by true reverting = subst (Now (is_reverting tool.reason)) (sym is) (with_applier (is_reverting tool.reason) at work refl refl (inl reverting))
    by false going =
        apply_keeps Now back plan work (appliers.progress work.applier answer) (appliers.took tool.turns work.applier answer) tool
        (λ place number same. subst (Now (is_reverting tool.reason)) (sym is) (with_applier (is_reverting tool.reason) at work refl refl (inr (unfit going place number same))))
        (λ tries. with_applier (is_reverting tool.reason) at (record work { applier = appliers.took tool.turns work.applier answer; batch_tries = tries }) refl refl (inr (stands going)))

  -- THE CUT-OVER'S THREE

  pub lock_turn : (answer : Answer) (work : Work) (tool : Tool) → OthersSame Lock → WorkStands journal (is_reverting tool.reason) has work
      → LockerStands work.cutover.table (locker_phase work.cutover.phase answer) (hold_after work.cutover.hold work.cutover.phase answer) (now_has Lock) → Together (cutover_took plan Locker answer work tool)
  unfolding cutovers.took
  lock_turn answer work tool others at locker =
      attempt_keeps Now back plan (is_failure work.cutover.phase (cutovers.took Locker work.cutover answer).phase) work (cutovers.took Locker work.cutover answer) tool
      (λ tries. record {
        inspector = inspector_same (others Insp refl) at.inspector;
        copier = copier_same (is_reverting tool.reason) work (others Copy refl) at.copier;
        applier = applier_same (is_reverting tool.reason) work (others Apply refl) at.applier;
        locker = locker.stands;
        phase = locker.phase;
        renamer = others Ren refl ∙ at.renamer;
      })

  pub ren_turn : (answer : Answer) (work : Work) (tool : Tool) → OthersSame Ren → WorkStands journal (is_reverting tool.reason) has work → now_has Ren ≡ renaming work.cutover.table (is_wait answer) → Together (cutover_took plan Renamer answer work tool)
  unfolding cutovers.took
  ren_turn answer work tool others at renamer =
      attempt_keeps Now back plan (is_failure work.cutover.phase (cutovers.took Renamer work.cutover answer).phase) work (cutovers.took Renamer work.cutover answer) tool
      (λ tries. record {
        inspector = inspector_same (others Insp refl) at.inspector;
        copier = copier_same (is_reverting tool.reason) work (others Copy refl) at.copier;
        applier = applier_same (is_reverting tool.reason) work (others Apply refl) at.applier;
        locker = others Lock refl ∙ at.locker;
        phase = renamer_holds work.cutover.phase work.cutover.hold answer at.phase;
        renamer = renamer;
      })

  pub insp_turn : (answer : Answer) (work : Work) (tool : Tool) → OthersSame Insp → WorkStands journal (is_reverting tool.reason) has work → Stands inspector_waits false [] (now_has Insp) → ListsFree work.cutover.phase work.cutover.hold answer
      → Together (cutover_took plan Inspector answer work tool)
  unfolding cutovers.took
  insp_turn answer work tool others at stands lists =
      attempt_keeps Now back plan (is_failure work.cutover.phase (cutovers.took Inspector work.cutover answer).phase) work (cutovers.took Inspector work.cutover answer) tool
      (λ tries. record {
        inspector = stands;
        copier = copier_same (is_reverting tool.reason) work (others Copy refl) at.copier;
        applier = applier_same (is_reverting tool.reason) work (others Apply refl) at.applier;
        locker = others Lock refl ∙ at.locker;
        phase = inspector_holds work.cutover work.cutover.phase work.cutover.hold answer at.phase lists;
        renamer = others Ren refl ∙ at.renamer;
      })

  -- THE SETUP

  begins : (b : Bool) (size position : ℕ) (range : _) → SetupStands now_has → Now b (Migrating (new_work plan size position range))
  begins b size position range at = record {
    inspector = at.inspector;
    copier = inr (free_stands _ (now_has Copy) at.copier);
    applier = inr (record { stands = free_stands _ (now_has Apply) at.applier; known = tt });
    locker = at.locker;
    phase = refl;
    renamer = at.renamer;
  }

  courses : (b : Bool) (size : ℕ) (setup : Setup) (tries : List ℕ) → SetupStands now_has → Now b (tool_phase_of plan size setup tries)
  courses b size (Ready position range) tries at = begins b size position range at
  courses b size Listing tries at = at
  courses b size (Clearing left) tries at = at
  courses b size MakingLog tries at = at
  courses b size MakingGhost tries at = at
  courses b size Marking tries at = at
  courses b size (Reaching position) tries at = at

  pub setup_turn : (answer : Answer) (setup : Setup) (tries : List ℕ) (tool : Tool) → tool.tool_phase ≡ SettingUp setup tries → OthersSame Insp → SetupStands has → Stands inspector_waits false [] (now_has Insp) → Together (actor_took plan Insp answer (SettingUp setup tries) tool)
  setup_turn answer setup tries tool is others at stands = by (is_reverting tool.reason) (is_bad answer) where
    now : SetupStands now_has
    now = record { inspector = stands; copier = others Copy refl ∙ at.copier; applier = others Apply refl ∙ at.applier; locker = others Lock refl ∙ at.locker; renamer = others Ren refl ∙ at.renamer }

    by : (a b : Bool)
        → Together (cond a tool (cond b (spends plan tasks.Setup (tries ++ tool.turns ∷ []) (record tool { tool_phase = SettingUp Listing (tries ++ tool.turns ∷ []) })) (record tool { tool_phase = tool_phase_of plan tool.operator.size (setup_after plan.table setup answer) tries })))
    by true b = subst (Now (is_reverting tool.reason)) (sym is) now
    by false true = spends_keeps Now back plan tasks.Setup (tries ++ tool.turns ∷ []) (record tool { tool_phase = SettingUp Listing (tries ++ tool.turns ∷ []) }) now
    by false false = courses (is_reverting tool.reason) tool.operator.size (setup_after plan.table setup answer) tries now

  -- THE OPERATOR

  resized : (b : Bool) (size : ℕ) (tool_phase : ToolPhase) → Now b tool_phase → Now b (resizes (ChunkSize size) tool_phase)
  resized b size (SettingUp setup tries) at = at
  resized b size (Migrating work) at = record { inspector = at.inspector; copier = at.copier; applier = at.applier; locker = at.locker; phase = at.phase; renamer = at.renamer }

  pub command_turn : (word : OperatorWord) (tool : Tool) → Together tool → Together (command_took word tool)
  command_turn Panic tool at = reverts_keeps Now back (Panicked tool.turns) (record tool { operator = commanded Panic tool.operator; tool_phase = tool.tool_phase }) at
  command_turn (ChunkSize size) tool at = resized (is_reverting tool.reason) size tool.tool_phase at
  command_turn Throttle tool at = at
  command_turn NoThrottle tool at = at
  command_turn Unpostpone tool at = at
  command_turn Wait tool at = at
