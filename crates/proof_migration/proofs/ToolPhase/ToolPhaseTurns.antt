-- What one turn leaves of the tool's course: one rule for all that is kept from turn to turn. The turn's actor, its answer
-- and what was asked are looked at once, and a law says what each machine's step leaves.
use Rattle.std.proofs.Common.{◌≡◌, ℕ, ◌+◌, Bool, true, false, cond, List, [], ◌∷◌, ◌++◌, Some, refl, sym, ap, subst, ◌∙◌}
use Rattle.base_script.specs.declared.actor.Actor.{Actor}
use Rattle.base_script.specs.declared.actor.Actor.TheVariants.{Insp, Copy, Apply, Lock, Ren}
use Rattle.base_script.specs.declared.operator.OperatorWord.{OperatorWord}
use Rattle.base_script.specs.declared.operator.OperatorWord.TheVariants.{Throttle, NoThrottle, ChunkSize, Unpostpone, Panic, Wait}
use Rattle.server_model.specs.declared.answer.Answer.{Answer}
use Rattle.server_model.specs.declared.answer.Answer.TheVariants as answers
use Rattle.server_model.specs.declared.entry.Asked.{Asked}
use Rattle.server_model.specs.declared.entry.Asked.TheVariants.{Call, Poll, Command, Cut}
use Rattle.server_model.specs.declared.entry.Entry.{Entry}
use Rattle.server_model.specs.declared.outcome.Progress.{Progress}
use Rattle.server_model.specs.declared.outcome.Progress.TheVariants.{Going, TaskDone, TaskFailed, Unfit}
use Rattle.server_model.specs.declared.outcome.Task.TheVariants as tasks
use Rattle.server_model.specs.States.{State, has_work}
use Rattle.plan_data.specs.PlanData.{PlanData}
use Rattle.tool_program.specs.declared.chunk_copier.copier.Copier.{Copier}
use Rattle.tool_program.specs.ChunkCopier.Copiers as copiers
use Rattle.tool_program.specs.declared.event_applier.applier.Applier.{Applier}
use Rattle.tool_program.specs.EventApplier.Appliers as appliers
use Rattle.tool_program.specs.declared.cutover_core.cutover.Role.{Role}
use Rattle.tool_program.specs.declared.cutover_core.cutover.Role.TheVariants.{Inspector, Locker, Renamer}
use Rattle.tool_program.specs.CutoverCore.CutOvers as cutovers
use Rattle.tool_program.specs.CutoverCore.CutOvers.{is_bad}
use Rattle.tool_program.specs.Operators.{commanded}
use Rattle.tool_program.specs.Setups.{Setup, Listing, setup_after}
use Rattle.tool_program.specs.Programs.{given, IsGiven}
use Rattle.tool_program.specs.Tools.{Work, ToolPhase, SettingUp, Migrating, Reason, CopyUnfit, ApplyUnfit, Panicked, Tool, Moment, first_reason, stopped, spends, is_renamed, reverts, is_reverting, is_failure, working, copy_after, apply_after, tool_phase_of, copy_took, apply_took, cutover_took, actor_took, turn_counts, resizes, command_took, asked_took, took, moment}
use Rattle.proof_journals.proofs.Machine.Lifting.{first_some, reverts_keeps, spends_keeps, attempt_keeps, drains_keeps}
use Rattle.proof_journals.proofs.Sentry.Inductions.{moment_more}

-- WHAT IS TO BE SHOWN OF A TURN

-- of reverting and course together
abbrev pub Kept : Type 1
Kept = Bool → ToolPhase → Type 0

-- what holds of a tool
abbrev pub Holds : Kept → Tool → Type 0
Holds New tool = New (is_reverting tool.reason) tool.tool_phase

-- the operator sets no size
abbrev pub IsUnsized : OperatorWord → Type 0
IsUnsized word = (size : ℕ) → word ≡ ChunkSize size → ⊥

-- of the cut-over behind an answer to one of the three
abbrev pub CutKeeps : Kept → Answer → Tool → Role → Work → Type 0
CutKeeps New answer tool role work = (tries : List ℕ) → New (is_reverting tool.reason) (Migrating (record work { cutover = cutovers.took role work.cutover answer; attempt_tries = tries }))

-- of a row that doesn't fit: all is reverted, unless the RENAME was done
pub record UnfitKeeps (New : Kept) (work : Work) : Type 0 where
  pub renamed : is_renamed (Migrating work) ≡ true → New false (Migrating work)
  pub reverts : New true (stopped (Migrating work))

-- of the copier, and of the applier, behind its answer: in a revert they take nothing
pub record CopyKeeps (New : Kept) (answer : Answer) (tool : Tool) (work : Work) : Type 0 where
  pub reverting : is_reverting tool.reason ≡ true → New true (Migrating work)
  pub unfit : is_reverting tool.reason ≡ false → (place number : ℕ) → copiers.progress work.copier answer ≡ Unfit place number → UnfitKeeps New work
  pub took : is_reverting tool.reason ≡ false → ((place number : ℕ) → copiers.progress work.copier answer ≡ Unfit place number → ⊥) → (tries : List ℕ)
      → New false (Migrating (record work { copier = copiers.took tool.turns work.copier answer; chunk_tries = tries }))

pub record ApplyKeeps (New : Kept) (answer : Answer) (tool : Tool) (work : Work) : Type 0 where
  pub reverting : is_reverting tool.reason ≡ true → New true (Migrating work)
  pub unfit : is_reverting tool.reason ≡ false → (place number : ℕ) → appliers.progress work.applier answer ≡ Unfit place number → UnfitKeeps New work
  pub took : is_reverting tool.reason ≡ false → ((place number : ℕ) → appliers.progress work.applier answer ≡ Unfit place number → ⊥) → (tries : List ℕ)
      → New false (Migrating (record work { applier = appliers.took tool.turns work.applier answer; batch_tries = tries }))

-- of the setup
pub record SetupKeeps (plan : PlanData) (New : Kept) (answer : Answer) (tool : Tool) (setup : Setup) (tries : List ℕ) : Type 0 where
  pub reverting : is_reverting tool.reason ≡ true → New true (SettingUp setup tries)
  pub again : is_reverting tool.reason ≡ false → is_bad answer ≡ true → (more : List ℕ) → New false (SettingUp Listing more)
  pub goes : is_reverting tool.reason ≡ false → is_bad answer ≡ false → New false (tool_phase_of plan tool.operator.size (setup_after plan.table setup answer) tries)

-- of an actor's answer: what its machine makes of it
abbrev pub AnswerKeeps : PlanData → Kept → Answer → Tool → Actor → ToolPhase → Type 0
AnswerKeeps plan New answer tool Insp (SettingUp setup tries) = SetupKeeps plan New answer tool setup tries
AnswerKeeps plan New answer tool Insp (Migrating work) = CutKeeps New answer tool Inspector work
AnswerKeeps plan New answer tool Lock (Migrating work) = CutKeeps New answer tool Locker work
AnswerKeeps plan New answer tool Ren (Migrating work) = CutKeeps New answer tool Renamer work
AnswerKeeps plan New answer tool Copy (Migrating work) = CopyKeeps New answer tool work
AnswerKeeps plan New answer tool Apply (Migrating work) = ApplyKeeps New answer tool work
AnswerKeeps plan New answer tool actor tool_phase = New (is_reverting tool.reason) tool_phase

-- of the drain behind the applier's turn
abbrev pub DrainKeeps : Kept → Type 0
DrainKeeps New = (b : Bool) (work : Work) (tries : List ℕ) → New b (Migrating work) → New b (Migrating (record work { cutover = cutovers.applier_turn work.applier.hint work.cutover; attempt_tries = tries }))

-- of the chunk size that the operator sets
abbrev pub ResizeKeeps : Kept → Tool → ℕ → ToolPhase → Type 0
ResizeKeeps New tool size (SettingUp setup tries) = New (is_reverting tool.reason) (SettingUp setup tries)
ResizeKeeps New tool size (Migrating work) = New (is_reverting tool.reason) (Migrating (record work { copier = copiers.resized size work.copier }))

-- of a whole turn
pub record TurnKeeps (plan : PlanData) (New : Kept) (state : State) (entry : Entry) (tool : Tool) : Type 0 where
  pub commanded : (word : OperatorWord) → entry.asked ≡ Command word → IsUnsized word → New (is_reverting tool.reason) tool.tool_phase
  pub resized : (size : ℕ) → entry.asked ≡ Command (ChunkSize size) → ResizeKeeps New tool size tool.tool_phase
  pub idle : entry.asked ≡ Cut → has_work state entry.session ≡ false → New (is_reverting tool.reason) tool.tool_phase
  pub lost : entry.asked ≡ Cut → has_work state entry.session ≡ true → AnswerKeeps plan New answers.Lost tool entry.actor tool.tool_phase
  pub heard : (entry.asked ≡ Cut → ⊥) → ((word : OperatorWord) → entry.asked ≡ Command word → ⊥) → AnswerKeeps plan New entry.answer tool entry.actor tool.tool_phase

-- ONE RULE

module _ (plan : PlanData) (New : Kept) (back : (b : Bool) (tool_phase : ToolPhase) → New b tool_phase → New true (stopped tool_phase)) where
  -- the same course
  rests : (tool : Tool) (tool_phase : ToolPhase) → tool.tool_phase ≡ tool_phase → New (is_reverting tool.reason) tool_phase → Holds New tool
  rests tool tool_phase is now = subst (New (is_reverting tool.reason)) (sym is) now

  -- what holds where all is reverted, and where it isn't
  at : (tool : Tool) (b : Bool) (tool_phase : ToolPhase) → is_reverting tool.reason ≡ b → New b tool_phase → New (is_reverting tool.reason) tool_phase
  at tool b tool_phase is now = subst (λ (b : Bool). New b tool_phase) (sym is) now

  unfit_kept : (reason : Reason) (work : Work) (tool : Tool) → tool.tool_phase ≡ Migrating work → is_reverting tool.reason ≡ false → UnfitKeeps New work → Holds New (reverts reason tool)
  unfit_kept reason work tool is off keeps = by (is_renamed tool.tool_phase) refl where
    by : (b : Bool) → is_renamed tool.tool_phase ≡ b → Holds New (cond b tool (record tool { reason = first_reason tool.reason reason; tool_phase = stopped tool.tool_phase }))
    by true renamed = rests tool (Migrating work) is (at tool false (Migrating work) off (keeps.renamed (ap is_renamed (sym is) ∙ renamed)))
    by false renamed = subst (λ (b : Bool). New b (stopped tool.tool_phase)) (sym (first_some tool.reason reason)) (subst (λ (c : ToolPhase). New true (stopped c)) (sym is) keeps.reverts)

  cut_kept : (answer : Answer) (role : Role) (work : Work) (tool : Tool) → CutKeeps New answer tool role work → Holds New (cutover_took plan role answer work tool)
  cut_kept answer role work tool keeps = attempt_keeps New back plan (is_failure work.cutover.phase (cutovers.took role work.cutover answer).phase) work (cutovers.took role work.cutover answer) tool keeps

  setup_kept : (answer : Answer) (setup : Setup) (tries : List ℕ) (tool : Tool) → tool.tool_phase ≡ SettingUp setup tries → SetupKeeps plan New answer tool setup tries → Holds New (actor_took plan Insp answer (SettingUp setup tries) tool)
  setup_kept answer setup tries tool is keeps = by (is_reverting tool.reason) refl (is_bad answer) refl where
    by : (a : Bool) → is_reverting tool.reason ≡ a → (b : Bool) → is_bad answer ≡ b
        → Holds New (cond a tool (cond b (spends plan tasks.Setup (tries ++ tool.turns ∷ []) (record tool { tool_phase = SettingUp Listing (tries ++ tool.turns ∷ []) })) (record tool { tool_phase = tool_phase_of plan tool.operator.size (setup_after plan.table setup answer) tries })))
    by true reverting b bad = rests tool (SettingUp setup tries) is (at tool true (SettingUp setup tries) reverting (keeps.reverting reverting))
    by false off true bad =
        spends_keeps New back plan tasks.Setup (tries ++ tool.turns ∷ []) (record tool { tool_phase = SettingUp Listing (tries ++ tool.turns ∷ []) })
        (at tool false (SettingUp Listing (tries ++ tool.turns ∷ [])) off (keeps.again off bad (tries ++ tool.turns ∷ [])))
    by false off false good = at tool false (tool_phase_of plan tool.operator.size (setup_after plan.table setup answer) tries) off (keeps.goes off good)

  going_fits : (place number : ℕ) → Going ≡ Unfit place number → ⊥
  going_fits place number same = cc

  done_fits : (place number : ℕ) → TaskDone ≡ Unfit place number → ⊥
  done_fits place number same = cc

  failed_fits : (place number : ℕ) → TaskFailed ≡ Unfit place number → ⊥
  failed_fits place number same = cc

  copy_kept : (answer : Answer) (work : Work) (tool : Tool) → tool.tool_phase ≡ Migrating work → CopyKeeps New answer tool work → Holds New (actor_took plan Copy answer (Migrating work) tool)
  copy_kept answer work tool is keeps = by (is_reverting tool.reason) refl where
    copier : Copier
    copier = copiers.took tool.turns work.copier answer

    reported : is_reverting tool.reason ≡ false → (progress : Progress) → copiers.progress work.copier answer ≡ progress → Holds New (copy_after plan work progress copier tool)
    reported off Going same = at tool false (Migrating (record work { copier = copier })) off (keeps.took off (λ place number unfit. going_fits place number (sym same ∙ unfit)) work.chunk_tries)
    reported off TaskDone same = at tool false (Migrating (record work { copier = copier; chunk_tries = [] })) off (keeps.took off (λ place number unfit. done_fits place number (sym same ∙ unfit)) [])
    reported off TaskFailed same =
        spends_keeps New back plan (tasks.Chunk copier.number) (work.chunk_tries ++ tool.turns ∷ []) (working (record work { copier = copier; chunk_tries = work.chunk_tries ++ tool.turns ∷ [] }) tool)
        (at tool false (Migrating (record work { copier = copier; chunk_tries = work.chunk_tries ++ tool.turns ∷ [] })) off (keeps.took off (λ place number unfit. failed_fits place number (sym same ∙ unfit)) (work.chunk_tries ++ tool.turns ∷ [])))
    reported off (Unfit place number) same = unfit_kept (CopyUnfit tool.turns place number) work tool is off (keeps.unfit off place number same)

    by : (a : Bool) → is_reverting tool.reason ≡ a → Holds New (cond a tool (copy_took plan answer work tool))
    by true reverting = rests tool (Migrating work) is (at tool true (Migrating work) reverting (keeps.reverting reverting))
    by false off = reported off (copiers.progress work.copier answer) refl

  apply_kept : (answer : Answer) (work : Work) (tool : Tool) → tool.tool_phase ≡ Migrating work → ApplyKeeps New answer tool work → Holds New (actor_took plan Apply answer (Migrating work) tool)
  apply_kept answer work tool is keeps = by (is_reverting tool.reason) refl where
    applier : Applier
    applier = appliers.took tool.turns work.applier answer

    reported : is_reverting tool.reason ≡ false → (progress : Progress) → appliers.progress work.applier answer ≡ progress → Holds New (apply_after plan work progress applier tool)
    reported off Going same = at tool false (Migrating (record work { applier = applier })) off (keeps.took off (λ place number unfit. going_fits place number (sym same ∙ unfit)) work.batch_tries)
    reported off TaskDone same = at tool false (Migrating (record work { applier = applier; batch_tries = [] })) off (keeps.took off (λ place number unfit. done_fits place number (sym same ∙ unfit)) [])
    reported off TaskFailed same =
        spends_keeps New back plan (tasks.Batch applier.position) (work.batch_tries ++ tool.turns ∷ []) (working (record work { applier = applier; batch_tries = work.batch_tries ++ tool.turns ∷ [] }) tool)
        (at tool false (Migrating (record work { applier = applier; batch_tries = work.batch_tries ++ tool.turns ∷ [] })) off (keeps.took off (λ place number unfit. failed_fits place number (sym same ∙ unfit)) (work.batch_tries ++ tool.turns ∷ [])))
    reported off (Unfit place number) same = unfit_kept (ApplyUnfit tool.turns place number) work tool is off (keeps.unfit off place number same)

    by : (a : Bool) → is_reverting tool.reason ≡ a → Holds New (cond a tool (apply_took plan answer work tool))
    by true reverting = rests tool (Migrating work) is (at tool true (Migrating work) reverting (keeps.reverting reverting))
    by false off = reported off (appliers.progress work.applier answer) refl

  took_kept : (answer : Answer) (actor : Actor) (tool_phase : ToolPhase) (tool : Tool) → tool.tool_phase ≡ tool_phase → AnswerKeeps plan New answer tool actor tool_phase → Holds New (actor_took plan actor answer tool_phase tool)
  took_kept answer Insp (SettingUp setup tries) tool is keeps = setup_kept answer setup tries tool is keeps
  took_kept answer Insp (Migrating work) tool is keeps = cut_kept answer Inspector work tool keeps
  took_kept answer Copy (Migrating work) tool is keeps = copy_kept answer work tool is keeps
  took_kept answer Apply (Migrating work) tool is keeps = apply_kept answer work tool is keeps
  took_kept answer Lock (Migrating work) tool is keeps = cut_kept answer Locker work tool keeps
  took_kept answer Ren (Migrating work) tool is keeps = cut_kept answer Renamer work tool keeps
  took_kept answer actor (SettingUp setup tries) tool is keeps = rests tool (SettingUp setup tries) is keeps
  took_kept answer actor (Migrating work) tool is keeps = rests tool (Migrating work) is keeps

  counts_kept : DrainKeeps New → (actor : Actor) (tool : Tool) → Holds New tool → Holds New (turn_counts plan actor tool)
  counts_kept drain Apply tool holds = drains_keeps New back plan tool.tool_phase tool refl drain holds
  counts_kept drain actor tool holds = holds

  -- COMMANDS, AND WHOLE TURNS

  resize_kept : (size : ℕ) (tool_phase : ToolPhase) (tool : Tool) → ResizeKeeps New tool size tool_phase → New (is_reverting tool.reason) (resizes (ChunkSize size) tool_phase)
  resize_kept size (SettingUp setup tries) tool keeps = keeps
  resize_kept size (Migrating work) tool keeps = keeps

  command_kept : (word : OperatorWord) (tool : Tool) → (IsUnsized word → New (is_reverting tool.reason) tool.tool_phase) → ((size : ℕ) → word ≡ ChunkSize size → ResizeKeeps New tool size tool.tool_phase) → Holds New (command_took word tool)
  command_kept Panic tool rest keeps = reverts_keeps New back (Panicked tool.turns) (record tool { operator = commanded Panic tool.operator; tool_phase = tool.tool_phase }) (rest (λ size same. cc))
  command_kept (ChunkSize size) tool rest keeps = resize_kept size tool.tool_phase tool (keeps size refl)
  command_kept Throttle tool rest keeps = rest (λ size same. cc)
  command_kept NoThrottle tool rest keeps = rest (λ size same. cc)
  command_kept Unpostpone tool rest keeps = rest (λ size same. cc)
  command_kept Wait tool rest keeps = rest (λ size same. cc)

  -- a call or a poll
  heard_kept : (entry : Entry) (tool : Tool) → DrainKeeps New → AnswerKeeps plan New entry.answer tool entry.actor tool.tool_phase → Holds New (turn_counts plan entry.actor (actor_took plan entry.actor entry.answer tool.tool_phase tool))
  heard_kept entry tool drain keeps = counts_kept drain entry.actor (actor_took plan entry.actor entry.answer tool.tool_phase tool) (took_kept entry.answer entry.actor tool.tool_phase tool refl keeps)

  asked_kept : (state : State) (entry : Entry) (asked : Asked) (tool : Tool) → entry.asked ≡ asked → DrainKeeps New → TurnKeeps plan New state entry tool → Holds New (asked_took plan state entry asked tool)
  asked_kept state entry (Command word) tool asks drain keeps = command_kept word tool (keeps.commanded word asks) (λ size same. keeps.resized size (asks ∙ ap Command same))
  asked_kept state entry Cut tool asks drain keeps = by (has_work state entry.session) refl where
    by : (b : Bool) → has_work state entry.session ≡ b → Holds New (cond b (actor_took plan entry.actor answers.Lost tool.tool_phase tool) tool)
    by true worked = took_kept answers.Lost entry.actor tool.tool_phase tool refl (keeps.lost asks worked)
    by false idle = keeps.idle asks idle
  asked_kept state entry (Call request) tool asks drain keeps = heard_kept entry tool drain (keeps.heard (λ cut. no_cut (sym asks ∙ cut)) (λ word same. no_command word (sym asks ∙ same))) where
    no_cut : Call request ≡ Cut → ⊥
    no_cut same = cc

    no_command : (word : OperatorWord) → Call request ≡ Command word → ⊥
    no_command word same = cc
  asked_kept state entry Poll tool asks drain keeps = heard_kept entry tool drain (keeps.heard (λ cut. no_cut (sym asks ∙ cut)) (λ word same. no_command word (sym asks ∙ same))) where
    no_cut : Poll ≡ Cut → ⊥
    no_cut same = cc

    no_command : (word : OperatorWord) → Poll ≡ Command word → ⊥
    no_command word same = cc

  -- *One turn more*
  pub turn_kept : (journal : List Entry) (entry : Entry) → DrainKeeps New → TurnKeeps plan New (moment plan journal).server entry (record (moment plan journal).tool { turns = (moment plan journal).tool.turns + 1 }) → Holds New (moment plan (journal ++ entry ∷ [])).tool
  unfolding took
  turn_kept journal entry drain keeps =
      subst (λ (m : Moment). Holds New m.tool) (sym (moment_more plan journal entry))
      (asked_kept (moment plan journal).server entry entry.asked (record (moment plan journal).tool { turns = (moment plan journal).tool.turns + 1 }) refl drain keeps)

-- WHAT WAS ASKED, AS IT WAS GIVEN

pub gives_asked : (plan : PlanData) (journal : List Entry) (entry : Entry) (asked : Asked) → IsGiven plan journal entry asked → entry.asked ≡ asked → (entry.asked ≡ Cut → ⊥) → given plan journal entry.actor ≡ Some entry.asked
gives_asked plan journal entry Cut gives asks called = absurd (called asks)
gives_asked plan journal entry (Call request) gives asks called = gives ∙ ap Some (sym asks)
gives_asked plan journal entry Poll gives asks called = gives ∙ ap Some (sym asks)
gives_asked plan journal entry (Command word) gives asks called = gives ∙ ap Some (sym asks)
