-- What a turn makes of the setup, where nothing is reverted behind it.
use Rattle.std.proofs.Common.{◌≡◌, ℕ, ◌+◌, Bool, true, false, cond, List, [], ◌∷◌, ◌++◌, refl, sym, ap, ◌∙◌, subst}
use Rattle.std.proofs.lemmas.Bool.{true≢false}
use Rattle.base_script.specs.declared.actor.Actor.{Actor}
use Rattle.base_script.specs.declared.actor.Actor.TheVariants.{Op, Insp, Copy, Apply, Lock, Ren, Client}
use Rattle.base_script.specs.declared.operator.OperatorWord.{OperatorWord}
use Rattle.base_script.specs.declared.operator.OperatorWord.TheVariants.{Throttle, NoThrottle, ChunkSize, Unpostpone, Panic, Wait}
use Rattle.server_model.specs.declared.answer.Answer.{Answer}
use Rattle.server_model.specs.declared.answer.Answer.TheVariants as answers
use Rattle.server_model.specs.declared.entry.Asked.{Asked}
use Rattle.server_model.specs.declared.entry.Asked.TheVariants.{Call, Poll, Command, Cut}
use Rattle.server_model.specs.declared.entry.Entry.{Entry}
use Rattle.server_model.specs.declared.outcome.Task.TheVariants as tasks
use Rattle.server_model.specs.Entries.{is_cut}
use Rattle.server_model.specs.States.{State, has_work}
use Rattle.plan_data.specs.PlanData.{PlanData}
use Rattle.tool_program.specs.CutoverCore.CutOvers.{is_bad}
use Rattle.tool_program.specs.Operators.{commanded}
use Rattle.tool_program.specs.Setups.{Setup, Listing, setup_step}
use Rattle.tool_program.specs.Tools.{ToolPhase, SettingUp, Panicked, Tool, Moment, stopped, drains, spends, is_reverting, tool_phase_of, setup_took, actor_took, turn_counts, resizes, command_took, asked_took, took, moment}
use Rattle.proof_journals.proofs.Sentry.Inductions.{moment_more}
use Rattle.proof_journals.proofs.Machine.Lifting.{reverts_keeps, spends_keeps}

-- the setup as it was; begun again; or a step on, by the inspector's answer
pub data SetupTo (plan : PlanData) (entry : Entry) (size : ℕ) (setup : Setup) (tool_phase : ToolPhase) : Type 0 where
  rests_so : (tries : List ℕ) → tool_phase ≡ SettingUp setup tries → SetupTo plan entry size setup tool_phase
  begins_again : (tries : List ℕ) → tool_phase ≡ SettingUp Listing tries → SetupTo plan entry size setup tool_phase
  steps_on : (tries : List ℕ) → entry.actor ≡ Insp → is_cut entry.asked ≡ false → is_bad entry.answer ≡ false → tool_phase ≡ tool_phase_of plan size (setup_step plan.table setup entry.answer) tries → SetupTo plan entry size setup tool_phase

module _ (plan : PlanData) (entry : Entry) (setup : Setup) (tries : List ℕ) (tool : Tool) (tool_phase : tool.tool_phase ≡ SettingUp setup tries) where
  abbrev Then : Bool → ToolPhase → Type 0
  Then b c = b ≡ false → SetupTo plan entry tool.operator.size setup c

  back : (b : Bool) (c : ToolPhase) → Then b c → Then true (stopped c)
  back b c at on = absurd (true≢false on)

  abbrev To : Tool → Type 0
  To t = Then (is_reverting t.reason) t.tool_phase

  still : To tool
  still off = rests_so tries tool_phase

  -- an answer of the inspector's, that was lost or not
  answered : (answer : Answer) → (is_bad answer ≡ false → (entry.actor ≡ Insp) × (is_cut entry.asked ≡ false) × (entry.answer ≡ answer)) → To (setup_took plan setup tries answer tool)
  answered answer good = by (is_bad answer) refl where
    by : (b : Bool) → is_bad answer ≡ b
        → To (cond b (spends plan tasks.Setup (tries ++ tool.turns ∷ []) (record tool { tool_phase = SettingUp Listing (tries ++ tool.turns ∷ []) })) (record tool { tool_phase = tool_phase_of plan tool.operator.size (cond b Listing (setup_step plan.table setup answer)) tries }))
    by true bad = spends_keeps Then back plan tasks.Setup (tries ++ tool.turns ∷ []) (record tool { tool_phase = SettingUp Listing (tries ++ tool.turns ∷ []) }) (λ off. begins_again (tries ++ tool.turns ∷ []) refl)
    by false bad = λ off. let all = good bad in steps_on tries all.0 all.1 (ap is_bad all.2 ∙ bad) (ap (λ (a : Answer). tool_phase_of plan tool.operator.size (setup_step plan.table setup a) tries) (sym all.2))

  held : (answer : Answer) → (is_bad answer ≡ false → (entry.actor ≡ Insp) × (is_cut entry.asked ≡ false) × (entry.answer ≡ answer)) → To (cond (is_reverting tool.reason) tool (setup_took plan setup tries answer tool))
  held answer good = by (is_reverting tool.reason) where
    by : (b : Bool) → To (cond b tool (setup_took plan setup tries answer tool))
    by true = still
    by false = answered answer good

  took_by : (actor : Actor) (answer : Answer) → (is_bad answer ≡ false → (actor ≡ Insp) → (entry.actor ≡ Insp) × (is_cut entry.asked ≡ false) × (entry.answer ≡ answer)) → To (actor_took plan actor answer (SettingUp setup tries) tool)
  took_by Insp answer good = held answer (λ bad. good bad refl)
  took_by Op answer good = still
  took_by Copy answer good = still
  took_by Apply answer good = still
  took_by Lock answer good = still
  took_by Ren answer good = still
  took_by (Client c) answer good = still

  at_tool_phase : (actor : Actor) (answer : Answer) → To (actor_took plan actor answer (SettingUp setup tries) tool) → To (actor_took plan actor answer tool.tool_phase tool)
  at_tool_phase actor answer at = subst (λ (c : ToolPhase). To (actor_took plan actor answer c tool)) (sym tool_phase) at

  -- the drain counts for nothing yet
  counted : (actor : Actor) (answer : Answer) → (is_bad answer ≡ false → (actor ≡ Insp) → (entry.actor ≡ Insp) × (is_cut entry.asked ≡ false) × (entry.answer ≡ answer)) → To (turn_counts plan actor (actor_took plan actor answer tool.tool_phase tool))
  counted Apply answer good = subst (λ (c : ToolPhase). To (turn_counts plan Apply (actor_took plan Apply answer c tool))) (sym tool_phase) (subst (λ (c : ToolPhase). To (drains plan c tool)) (sym tool_phase) still)
  counted Insp answer good = at_tool_phase Insp answer (took_by Insp answer good)
  counted Op answer good = at_tool_phase Op answer (took_by Op answer good)
  counted Copy answer good = at_tool_phase Copy answer (took_by Copy answer good)
  counted Lock answer good = at_tool_phase Lock answer (took_by Lock answer good)
  counted Ren answer good = at_tool_phase Ren answer (took_by Ren answer good)
  counted (Client c) answer good = at_tool_phase (Client c) answer (took_by (Client c) answer good)

  commanded_so : (word : OperatorWord) → To (command_took word tool)
  commanded_so Panic = reverts_keeps Then back (Panicked tool.turns) (record tool { operator = commanded Panic tool.operator; tool_phase = tool.tool_phase }) still
  commanded_so (ChunkSize size) = λ off. rests_so tries (ap (resizes (ChunkSize size)) tool_phase)
  commanded_so Throttle = still
  commanded_so NoThrottle = still
  commanded_so Unpostpone = still
  commanded_so Wait = still

  heard_good : (asked : Asked) → entry.asked ≡ asked → is_cut asked ≡ false → is_bad entry.answer ≡ false → entry.actor ≡ Insp → (entry.actor ≡ Insp) × (is_cut entry.asked ≡ false) × (entry.answer ≡ entry.answer)
  heard_good asked asks uncut good insp = (insp, ap is_cut asks ∙ uncut, refl)

  taken_so : (state : State) (asked : Asked) → entry.asked ≡ asked → To (asked_took plan state entry asked tool)
  taken_so state (Command word) asks = commanded_so word
  taken_so state Cut asks = by (has_work state entry.session) where
    by : (b : Bool) → To (cond b (actor_took plan entry.actor answers.Lost tool.tool_phase tool) tool)
    by true = at_tool_phase entry.actor answers.Lost (took_by entry.actor answers.Lost (λ bad insp. absurd (true≢false bad)))
    by false = still
  taken_so state (Call request) asks = counted entry.actor entry.answer (heard_good (Call request) asks refl)
  taken_so state Poll asks = counted entry.actor entry.answer (heard_good Poll asks refl)

-- *What a turn makes of the setup*
pub setup_turn : (plan : PlanData) (journal : List Entry) (entry : Entry) (setup : Setup) (tries : List ℕ) → (moment plan journal).tool.tool_phase ≡ SettingUp setup tries → is_reverting (moment plan (journal ++ entry ∷ [])).tool.reason ≡ false
    → SetupTo plan entry (moment plan journal).tool.operator.size setup (moment plan (journal ++ entry ∷ [])).tool.tool_phase
unfolding took
setup_turn plan journal entry setup tries tool_phase off =
    let tool : Tool = record (moment plan journal).tool { turns = (moment plan journal).tool.turns + 1 } in
    let taken : Tool = asked_took plan (moment plan journal).server entry entry.asked tool in
    let same : (moment plan (journal ++ entry ∷ [])).tool ≡ taken = ap (λ (m : Moment). m.tool) (moment_more plan journal entry) in
    subst (λ (t : Tool). SetupTo plan entry (moment plan journal).tool.operator.size setup t.tool_phase) (sym same) (taken_so plan entry setup tries tool tool_phase (moment plan journal).server entry.asked refl (ap (λ (t : Tool). is_reverting t.reason) (sym same) ∙ off))
