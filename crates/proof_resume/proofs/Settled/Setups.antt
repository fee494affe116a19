-- Where all is reverted the setup isn't over.
use Rattle.std.proofs.Common.{◌≡◌, ℕ, ◌+◌, Bool, true, false, cond, List, [], ◌∷◌, ◌++◌, refl, sym, ◌∙◌, subst}
use Rattle.std.proofs.lemmas.Bool.{true≢false}
use Rattle.base_script.specs.declared.actor.Actor.{Actor}
use Rattle.base_script.specs.declared.actor.Actor.TheVariants.{Op, Insp, Copy, Apply, Lock, Ren, Client}
use Rattle.base_script.specs.declared.operator.OperatorWord.{OperatorWord}
use Rattle.base_script.specs.declared.operator.OperatorWord.TheVariants.{Throttle, NoThrottle, ChunkSize, Unpostpone, Panic, Wait}
use Rattle.server_model.specs.declared.answer.Answer.{Answer}
use Rattle.server_model.specs.declared.answer.Answer.TheVariants as answers
use Rattle.server_model.specs.declared.entry.Asked.{Asked}
use Rattle.server_model.specs.declared.entry.Asked.TheVariants.{Call, Poll, Command, Cut}
use Rattle.server_model.specs.declared.entry.Entry.{Entry}
use Rattle.server_model.specs.declared.outcome.Task.TheVariants as tasks
use Rattle.server_model.specs.States.{State, has_work}
use Rattle.plan_data.specs.PlanData.{PlanData}
use Rattle.tool_program.specs.CutoverCore.CutOvers.{is_bad}
use Rattle.tool_program.specs.Operators.{commanded}
use Rattle.tool_program.specs.Setups.{Setup, Listing, setup_after}
use Rattle.tool_program.specs.Tools.{ToolPhase, SettingUp, Migrating, Moment, Panicked, Tool, actor_took, asked_took, command_took, drains, is_reverting, moment, resizes, setup_took, spends, stopped, tool_phase_of, took, turn_counts}
use Rattle.proof_journals.proofs.Sentry.Inductions.{moment_more}
use Rattle.proof_journals.proofs.Machine.Lifting.{reverts_keeps, spends_keeps}

abbrev pub IsSetup : ToolPhase → Type 0
IsSetup (SettingUp setup tries) = Unit {0}
IsSetup (Migrating work) = ⊥

module _ (plan : PlanData) (entry : Entry) (setup : Setup) (tries : List ℕ) (tool : Tool) (tool_phase : tool.tool_phase ≡ SettingUp setup tries) where
  abbrev InSetup : Bool → ToolPhase → Type 0
  InSetup b phase = IsSetup phase

  back : (b : Bool) (phase : ToolPhase) → InSetup b phase → InSetup true (stopped phase)
  back b (SettingUp setup tries) is = tt
  back b (Migrating work) is = is

  -- the setup isn't over, where all is reverted
  abbrev To : Tool → Type 0
  To t = is_reverting t.reason ≡ true → IsSetup t.tool_phase

  here : IsSetup tool.tool_phase
  here = subst IsSetup (sym tool_phase) tt

  still : To tool
  still on = here

  answered : is_reverting tool.reason ≡ false → (answer : Answer) → To (setup_took plan setup tries answer tool)
  answered off answer = by (is_bad answer) where
    by : (b : Bool) → To (cond b (spends plan tasks.Setup (tries ++ tool.turns ∷ []) (record tool { tool_phase = SettingUp Listing (tries ++ tool.turns ∷ []) })) (record tool { tool_phase = tool_phase_of plan tool.operator.size (setup_after plan.table setup answer) tries }))
    by true = λ on. spends_keeps InSetup back plan tasks.Setup (tries ++ tool.turns ∷ []) (record tool { tool_phase = SettingUp Listing (tries ++ tool.turns ∷ []) }) tt
    by false = λ on. absurd (true≢false (sym on ∙ off))

  took_by : (actor : Actor) (answer : Answer) → To (actor_took plan actor answer (SettingUp setup tries) tool)
  took_by Insp answer = by (is_reverting tool.reason) refl where
    by : (b : Bool) → is_reverting tool.reason ≡ b → To (cond b tool (setup_took plan setup tries answer tool))
    by true on = still
    by false off = answered off answer
  took_by Op answer = still
  took_by Copy answer = still
  took_by Apply answer = still
  took_by Lock answer = still
  took_by Ren answer = still
  took_by (Client c) answer = still

  at_phase : (actor : Actor) (answer : Answer) → To (actor_took plan actor answer tool.tool_phase tool)
  at_phase actor answer = subst (λ (c : ToolPhase). To (actor_took plan actor answer c tool)) (sym tool_phase) (took_by actor answer)

  -- the drain counts for nothing yet
  counted : (actor : Actor) (answer : Answer) → To (turn_counts plan actor (actor_took plan actor answer tool.tool_phase tool))
  counted Apply answer = subst (λ (c : ToolPhase). To (turn_counts plan Apply (actor_took plan Apply answer c tool))) (sym tool_phase) (subst (λ (c : ToolPhase). To (drains plan c tool)) (sym tool_phase) still)
  counted Insp answer = at_phase Insp answer
  counted Op answer = at_phase Op answer
  counted Copy answer = at_phase Copy answer
  counted Lock answer = at_phase Lock answer
  counted Ren answer = at_phase Ren answer
  counted (Client c) answer = at_phase (Client c) answer

  commanded_so : (word : OperatorWord) → To (command_took word tool)
  commanded_so Panic = λ on. reverts_keeps InSetup back (Panicked tool.turns) (record tool { operator = commanded Panic tool.operator; tool_phase = tool.tool_phase }) here
  commanded_so (ChunkSize size) = λ on. subst (λ (c : ToolPhase). IsSetup (resizes (ChunkSize size) c)) (sym tool_phase) tt
  commanded_so Throttle = still
  commanded_so NoThrottle = still
  commanded_so Unpostpone = still
  commanded_so Wait = still

  taken_so : (state : State) (asked : Asked) → To (asked_took plan state entry asked tool)
  taken_so state (Command word) = commanded_so word
  taken_so state Cut = by (has_work state entry.session) where
    by : (b : Bool) → To (cond b (actor_took plan entry.actor answers.Lost tool.tool_phase tool) tool)
    by true = at_phase entry.actor answers.Lost
    by false = still
  taken_so state (Call request) = counted entry.actor entry.answer
  taken_so state Poll = counted entry.actor entry.answer

-- *A turn of the setup* after which all is reverted doesn't end it
pub setup_stays : (plan : PlanData) (journal : List Entry) (entry : Entry) (setup : Setup) (tries : List ℕ) → (moment plan journal).tool.tool_phase ≡ SettingUp setup tries → is_reverting (moment plan (journal ++ entry ∷ [])).tool.reason ≡ true → IsSetup (moment plan (journal ++ entry ∷ [])).tool.tool_phase
unfolding took
setup_stays plan journal entry setup tries tool_phase =
    let tool : Tool = record (moment plan journal).tool { turns = (moment plan journal).tool.turns + 1 } in
    subst (λ (m : Moment). is_reverting m.tool.reason ≡ true → IsSetup m.tool.tool_phase) (sym (moment_more plan journal entry)) (taken_so plan entry setup tries tool tool_phase (moment plan journal).server entry.asked)
