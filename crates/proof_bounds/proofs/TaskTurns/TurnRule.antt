-- What one turn leaves of the tool, one rule for all that is kept from turn to turn: as for all that is kept of steps alone, but
-- here the failed tries of the chunk and of the batch are known with each step.
use Rattle.std.proofs.Common.{◌≡◌, ℕ, ◌+◌, Bool, true, false, cond, List, [], ◌∷◌, ◌++◌, refl, sym, ap, subst, ◌∙◌}
use Rattle.base_script.specs.declared.actor.Actor.{Actor}
use Rattle.base_script.specs.declared.actor.Actor.TheVariants.{Insp, Copy, Apply, Lock, Ren}
use Rattle.base_script.specs.declared.operator.OperatorWord.{OperatorWord}
use Rattle.base_script.specs.declared.operator.OperatorWord.TheVariants.{Throttle, NoThrottle, ChunkSize, Unpostpone, Panic, Wait}
use Rattle.server_model.specs.declared.answer.Answer.{Answer}
use Rattle.server_model.specs.declared.answer.Answer.TheVariants as answers
use Rattle.server_model.specs.declared.entry.Asked.{Asked}
use Rattle.server_model.specs.declared.entry.Asked.TheVariants.{Call, Poll, Command, Cut}
use Rattle.server_model.specs.declared.entry.Entry.{Entry}
use Rattle.server_model.specs.declared.outcome.Progress.{Progress}
use Rattle.server_model.specs.declared.outcome.Progress.TheVariants.{Going, TaskDone, TaskFailed, Unfit}
use Rattle.server_model.specs.declared.outcome.Task.TheVariants as tasks
use Rattle.server_model.specs.Entries.{is_command, is_cut}
use Rattle.server_model.specs.States.{State, has_work}
use Rattle.plan_data.specs.PlanData.{PlanData}
use Rattle.tool_program.specs.declared.chunk_copier.copier.Copier.{Copier}
use Rattle.tool_program.specs.ChunkCopier.Copiers as copiers
use Rattle.tool_program.specs.declared.event_applier.applier.Applier.{Applier}
use Rattle.tool_program.specs.EventApplier.Appliers as appliers
use Rattle.tool_program.specs.declared.cutover_core.cutover.Role.{Role}
use Rattle.tool_program.specs.declared.cutover_core.cutover.Role.TheVariants.{Inspector, Locker, Renamer}
use Rattle.tool_program.specs.CutoverCore.CutOvers as cutovers
use Rattle.tool_program.specs.CutoverCore.CutOvers.{is_bad}
use Rattle.tool_program.specs.Operators.{commanded}
use Rattle.tool_program.specs.Setups.{Setup, Listing, setup_after}
use Rattle.tool_program.specs.Tools.{Work, ToolPhase, SettingUp, Migrating, Reason, CopyUnfit, ApplyUnfit, Panicked, Tool, Moment, first_reason, stopped, spends, is_renamed, reverts, is_reverting, is_failure, working, copy_after, apply_after, tool_phase_of, copy_took, apply_took, cutover_took, actor_took, turn_counts, resizes, command_took, asked_took, took, moment}
use Rattle.proof_journals.proofs.Machine.Lifting.{first_some, reverts_keeps, spends_keeps, attempt_keeps, drains_keeps}
use Rattle.proof_journals.proofs.Sentry.Inductions.{moment_more}
use Rattle.proof_migration.proofs.ToolPhase.ToolPhaseTurns.{Kept, Holds, CutKeeps, UnfitKeeps, SetupKeeps, DrainKeeps}

-- WHAT IS TO BE SHOWN OF A TURN

-- of the copier after its answer, with the chunk's failed tries
abbrev pub Copied : Kept → Answer → Tool → Work → Progress → Type 0
Copied New answer tool work Going = New false (Migrating (record work { copier = copiers.took tool.turns work.copier answer }))
Copied New answer tool work TaskDone = New false (Migrating (record work { copier = copiers.took tool.turns work.copier answer; chunk_tries = [] }))
Copied New answer tool work TaskFailed = New false (Migrating (record work { copier = copiers.took tool.turns work.copier answer; chunk_tries = work.chunk_tries ++ tool.turns ∷ [] }))
Copied New answer tool work (Unfit place number) = UnfitKeeps New work

pub record CopyLeaves (New : Kept) (answer : Answer) (tool : Tool) (work : Work) : Type 0 where
  pub reverting : is_reverting tool.reason ≡ true → New true (Migrating work)
  pub going : is_reverting tool.reason ≡ false → Copied New answer tool work (copiers.progress work.copier answer)

-- of the applier after its answer, with the batch's failed tries
abbrev pub Applied : Kept → Answer → Tool → Work → Progress → Type 0
Applied New answer tool work Going = New false (Migrating (record work { applier = appliers.took tool.turns work.applier answer }))
Applied New answer tool work TaskDone = New false (Migrating (record work { applier = appliers.took tool.turns work.applier answer; batch_tries = [] }))
Applied New answer tool work TaskFailed = New false (Migrating (record work { applier = appliers.took tool.turns work.applier answer; batch_tries = work.batch_tries ++ tool.turns ∷ [] }))
Applied New answer tool work (Unfit place number) = UnfitKeeps New work

pub record ApplyLeaves (New : Kept) (answer : Answer) (tool : Tool) (work : Work) : Type 0 where
  pub reverting : is_reverting tool.reason ≡ true → New true (Migrating work)
  pub going : is_reverting tool.reason ≡ false → Applied New answer tool work (appliers.progress work.applier answer)

-- of an actor's answer: what its machine makes of it
abbrev pub AnswerLeaves : PlanData → Kept → Answer → Tool → Actor → ToolPhase → Type 0
AnswerLeaves plan New answer tool Insp (SettingUp setup tries) = SetupKeeps plan New answer tool setup tries
AnswerLeaves plan New answer tool Insp (Migrating work) = CutKeeps New answer tool Inspector work
AnswerLeaves plan New answer tool Lock (Migrating work) = CutKeeps New answer tool Locker work
AnswerLeaves plan New answer tool Ren (Migrating work) = CutKeeps New answer tool Renamer work
AnswerLeaves plan New answer tool Copy (Migrating work) = CopyLeaves New answer tool work
AnswerLeaves plan New answer tool Apply (Migrating work) = ApplyLeaves New answer tool work
AnswerLeaves plan New answer tool actor tool_phase = New (is_reverting tool.reason) tool_phase

-- of the chunk size that the operator sets
abbrev pub SizeLeaves : Kept → Type 0
SizeLeaves New = (b : Bool) (work : Work) (size : ℕ) → New b (Migrating work) → New b (Migrating (record work { copier = copiers.resized size work.copier }))

-- of a whole turn
pub record TurnLeaves (plan : PlanData) (New : Kept) (state : State) (entry : Entry) (tool : Tool) : Type 0 where
  pub commanded : is_command entry.asked ≡ true → New (is_reverting tool.reason) tool.tool_phase
  pub idle : entry.asked ≡ Cut → has_work state entry.session ≡ false → New (is_reverting tool.reason) tool.tool_phase
  pub lost : entry.asked ≡ Cut → has_work state entry.session ≡ true → AnswerLeaves plan New answers.Lost tool entry.actor tool.tool_phase
  pub heard : is_command entry.asked ≡ false → is_cut entry.asked ≡ false → AnswerLeaves plan New entry.answer tool entry.actor tool.tool_phase

-- ONE RULE

module _ (plan : PlanData) (New : Kept) (back : (b : Bool) (tool_phase : ToolPhase) → New b tool_phase → New true (stopped tool_phase)) where
  -- the same phase
  rests : (tool : Tool) (tool_phase : ToolPhase) → tool.tool_phase ≡ tool_phase → New (is_reverting tool.reason) tool_phase → Holds New tool
  rests tool tool_phase is now = subst (New (is_reverting tool.reason)) (sym is) now

  at : (tool : Tool) (b : Bool) (tool_phase : ToolPhase) → is_reverting tool.reason ≡ b → New b tool_phase → New (is_reverting tool.reason) tool_phase
  at tool b tool_phase is now = subst (λ (b : Bool). New b tool_phase) (sym is) now

  unfit_left : (reason : Reason) (work : Work) (tool : Tool) → tool.tool_phase ≡ Migrating work → is_reverting tool.reason ≡ false → UnfitKeeps New work → Holds New (reverts reason tool)
  unfit_left reason work tool is off keeps = by (is_renamed tool.tool_phase) refl where
    by : (b : Bool) → is_renamed tool.tool_phase ≡ b → Holds New (cond b tool (record tool { reason = first_reason tool.reason reason; tool_phase = stopped tool.tool_phase }))
    by true renamed = rests tool (Migrating work) is (at tool false (Migrating work) off (keeps.renamed (ap is_renamed (sym is) ∙ renamed)))
    by false renamed = subst (λ (b : Bool). New b (stopped tool.tool_phase)) (sym (first_some tool.reason reason)) (subst (λ (c : ToolPhase). New true (stopped c)) (sym is) keeps.reverts)

  cut_left : (answer : Answer) (role : Role) (work : Work) (tool : Tool) → CutKeeps New answer tool role work → Holds New (cutover_took plan role answer work tool)
  cut_left answer role work tool keeps = attempt_keeps New back plan (is_failure work.cutover.phase (cutovers.took role work.cutover answer).phase) work (cutovers.took role work.cutover answer) tool keeps

  setup_left : (answer : Answer) (setup : Setup) (tries : List ℕ) (tool : Tool) → tool.tool_phase ≡ SettingUp setup tries → SetupKeeps plan New answer tool setup tries → Holds New (actor_took plan Insp answer (SettingUp setup tries) tool)
  setup_left answer setup tries tool is keeps = by (is_reverting tool.reason) refl (is_bad answer) refl where
    by : (a : Bool) → is_reverting tool.reason ≡ a → (b : Bool) → is_bad answer ≡ b
        → Holds New (cond a tool (cond b (spends plan tasks.Setup (tries ++ tool.turns ∷ []) (record tool { tool_phase = SettingUp Listing (tries ++ tool.turns ∷ []) })) (record tool { tool_phase = tool_phase_of plan tool.operator.size (setup_after plan.table setup answer) tries })))
    by true reverting b bad = rests tool (SettingUp setup tries) is (at tool true (SettingUp setup tries) reverting (keeps.reverting reverting))
    by false off true bad =
        spends_keeps New back plan tasks.Setup (tries ++ tool.turns ∷ []) (record tool { tool_phase = SettingUp Listing (tries ++ tool.turns ∷ []) })
        (at tool false (SettingUp Listing (tries ++ tool.turns ∷ [])) off (keeps.again off bad (tries ++ tool.turns ∷ [])))
    by false off false good = at tool false (tool_phase_of plan tool.operator.size (setup_after plan.table setup answer) tries) off (keeps.goes off good)

  copy_left : (answer : Answer) (work : Work) (tool : Tool) → tool.tool_phase ≡ Migrating work → CopyLeaves New answer tool work → Holds New (actor_took plan Copy answer (Migrating work) tool)
  copy_left answer work tool is leaves = by (is_reverting tool.reason) refl where
    copier : Copier
    copier = copiers.took tool.turns work.copier answer

    came : is_reverting tool.reason ≡ false → (progress : Progress) → Copied New answer tool work progress → Holds New (copy_after plan work progress copier tool)
    came off Going now = at tool false (Migrating (record work { copier = copier })) off now
    came off TaskDone now = at tool false (Migrating (record work { copier = copier; chunk_tries = [] })) off now
    came off TaskFailed now =
        spends_keeps New back plan (tasks.Chunk copier.number) (work.chunk_tries ++ tool.turns ∷ []) (working (record work { copier = copier; chunk_tries = work.chunk_tries ++ tool.turns ∷ [] }) tool)
        (at tool false (Migrating (record work { copier = copier; chunk_tries = work.chunk_tries ++ tool.turns ∷ [] })) off now)
    came off (Unfit place number) now = unfit_left (CopyUnfit tool.turns place number) work tool is off now

    by : (a : Bool) → is_reverting tool.reason ≡ a → Holds New (cond a tool (copy_took plan answer work tool))
    by true reverting = rests tool (Migrating work) is (at tool true (Migrating work) reverting (leaves.reverting reverting))
    by false off = came off (copiers.progress work.copier answer) (leaves.going off)

  apply_left : (answer : Answer) (work : Work) (tool : Tool) → tool.tool_phase ≡ Migrating work → ApplyLeaves New answer tool work → Holds New (actor_took plan Apply answer (Migrating work) tool)
  apply_left answer work tool is leaves = by (is_reverting tool.reason) refl where
    applier : Applier
    applier = appliers.took tool.turns work.applier answer

    came : is_reverting tool.reason ≡ false → (progress : Progress) → Applied New answer tool work progress → Holds New (apply_after plan work progress applier tool)
    came off Going now = at tool false (Migrating (record work { applier = applier })) off now
    came off TaskDone now = at tool false (Migrating (record work { applier = applier; batch_tries = [] })) off now
    came off TaskFailed now =
        spends_keeps New back plan (tasks.Batch applier.position) (work.batch_tries ++ tool.turns ∷ []) (working (record work { applier = applier; batch_tries = work.batch_tries ++ tool.turns ∷ [] }) tool)
        (at tool false (Migrating (record work { applier = applier; batch_tries = work.batch_tries ++ tool.turns ∷ [] })) off now)
    came off (Unfit place number) now = unfit_left (ApplyUnfit tool.turns place number) work tool is off now

    by : (a : Bool) → is_reverting tool.reason ≡ a → Holds New (cond a tool (apply_took plan answer work tool))
    by true reverting = rests tool (Migrating work) is (at tool true (Migrating work) reverting (leaves.reverting reverting))
    by false off = came off (appliers.progress work.applier answer) (leaves.going off)

  answer_left : (answer : Answer) (actor : Actor) (tool_phase : ToolPhase) (tool : Tool) → tool.tool_phase ≡ tool_phase → AnswerLeaves plan New answer tool actor tool_phase → Holds New (actor_took plan actor answer tool_phase tool)
  answer_left answer Insp (SettingUp setup tries) tool is leaves = setup_left answer setup tries tool is leaves
  answer_left answer Insp (Migrating work) tool is leaves = cut_left answer Inspector work tool leaves
  answer_left answer Copy (Migrating work) tool is leaves = copy_left answer work tool is leaves
  answer_left answer Apply (Migrating work) tool is leaves = apply_left answer work tool is leaves
  answer_left answer Lock (Migrating work) tool is leaves = cut_left answer Locker work tool leaves
  answer_left answer Ren (Migrating work) tool is leaves = cut_left answer Renamer work tool leaves
  answer_left answer actor (SettingUp setup tries) tool is leaves = rests tool (SettingUp setup tries) is leaves
  answer_left answer actor (Migrating work) tool is leaves = rests tool (Migrating work) is leaves

  counts_left : DrainKeeps New → (actor : Actor) (tool : Tool) → Holds New tool → Holds New (turn_counts plan actor tool)
  counts_left drain Apply tool holds = drains_keeps New back plan tool.tool_phase tool refl drain holds
  counts_left drain actor tool holds = holds

  size_left : SizeLeaves New → (size : ℕ) (b : Bool) (tool_phase : ToolPhase) → New b tool_phase → New b (resizes (ChunkSize size) tool_phase)
  size_left sizes size b (SettingUp setup tries) now = now
  size_left sizes size b (Migrating work) now = sizes b work size now

  command_left : SizeLeaves New → (word : OperatorWord) (tool : Tool) → Holds New tool → Holds New (command_took word tool)
  command_left sizes Panic tool now = reverts_keeps New back (Panicked tool.turns) (record tool { operator = commanded Panic tool.operator; tool_phase = tool.tool_phase }) now
  command_left sizes (ChunkSize size) tool now = size_left sizes size (is_reverting tool.reason) tool.tool_phase now
  command_left sizes Throttle tool now = now
  command_left sizes NoThrottle tool now = now
  command_left sizes Unpostpone tool now = now
  command_left sizes Wait tool now = now

  heard_left : (entry : Entry) (tool : Tool) → DrainKeeps New → AnswerLeaves plan New entry.answer tool entry.actor tool.tool_phase → Holds New (turn_counts plan entry.actor (actor_took plan entry.actor entry.answer tool.tool_phase tool))
  heard_left entry tool drain leaves = counts_left drain entry.actor (actor_took plan entry.actor entry.answer tool.tool_phase tool) (answer_left entry.answer entry.actor tool.tool_phase tool refl leaves)

  asked_left : (state : State) (entry : Entry) (asked : Asked) (tool : Tool) → entry.asked ≡ asked → DrainKeeps New → SizeLeaves New → TurnLeaves plan New state entry tool → Holds New (asked_took plan state entry asked tool)
  asked_left state entry (Command word) tool asks drain sizes leaves = command_left sizes word tool (leaves.commanded (ap is_command asks))
  asked_left state entry Cut tool asks drain sizes leaves = by (has_work state entry.session) refl where
    by : (b : Bool) → has_work state entry.session ≡ b → Holds New (cond b (actor_took plan entry.actor answers.Lost tool.tool_phase tool) tool)
    by true worked = answer_left answers.Lost entry.actor tool.tool_phase tool refl (leaves.lost asks worked)
    by false idle = leaves.idle asks idle
  asked_left state entry (Call request) tool asks drain sizes leaves = heard_left entry tool drain (leaves.heard (ap is_command asks) (ap is_cut asks))
  asked_left state entry Poll tool asks drain sizes leaves = heard_left entry tool drain (leaves.heard (ap is_command asks) (ap is_cut asks))

  -- *One turn more*
  pub turn_left : (journal : List Entry) (entry : Entry) → DrainKeeps New → SizeLeaves New → TurnLeaves plan New (moment plan journal).server entry (record (moment plan journal).tool { turns = (moment plan journal).tool.turns + 1 }) → Holds New (moment plan (journal ++ entry ∷ [])).tool
  unfolding took
  turn_left journal entry drain sizes leaves =
      subst (λ (m : Moment). Holds New m.tool) (sym (moment_more plan journal entry))
      (asked_left (moment plan journal).server entry entry.asked (record (moment plan journal).tool { turns = (moment plan journal).tool.turns + 1 }) refl drain sizes leaves)
