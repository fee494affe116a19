-- What a turn makes of the copier's and of the applier's record, where nothing is reverted behind it.
use Rattle.std.proofs.Common.{◌≡◌, ℕ, ◌+◌, Bool, true, false, cond, List, [], ◌∷◌, ◌++◌, length, Some, refl, sym, ap, ◌∙◌, subst}
use Rattle.std.proofs.lemmas.Bool.{true≢false}
use Rattle.base_script.specs.declared.actor.Actor.{Actor}
use Rattle.base_script.specs.declared.actor.Actor.TheVariants.{Op, Insp, Copy, Apply, Lock, Ren, Client}
use Rattle.base_script.specs.declared.operator.OperatorWord.{OperatorWord}
use Rattle.base_script.specs.declared.operator.OperatorWord.TheVariants.{Throttle, NoThrottle, ChunkSize, Unpostpone, Panic, Wait}
use Rattle.server_model.specs.declared.answer.Answer.{Answer}
use Rattle.server_model.specs.declared.answer.Answer.TheVariants as answers
use Rattle.server_model.specs.declared.entry.Asked.{Asked}
use Rattle.server_model.specs.declared.entry.Asked.TheVariants.{Call, Poll, Command, Cut}
use Rattle.server_model.specs.declared.entry.Entry.{Entry}
use Rattle.server_model.specs.declared.outcome.Progress.{Progress}
use Rattle.server_model.specs.declared.outcome.Progress.TheVariants.{Going, TaskDone, TaskFailed, Unfit}
use Rattle.server_model.specs.declared.outcome.Task.TheVariants as tasks
use Rattle.server_model.specs.Entries.{same_actor, is_cut}
use Rattle.server_model.specs.States.{has_work}
use Rattle.plan_data.specs.PlanData.{PlanData}
use Rattle.tool_program.specs.declared.chunk_copier.copier.Copier.{Copier}
use Rattle.tool_program.specs.declared.chunk_copier.copier.CopyStep.TheVariants.{Choosing}
use Rattle.tool_program.specs.ChunkCopier.Copiers as copiers
use Rattle.tool_program.specs.ChunkCopier.Copiers.{resized}
use Rattle.tool_program.specs.declared.event_applier.applier.Applier.{Applier}
use Rattle.tool_program.specs.declared.event_applier.applier.ApplyStep.TheVariants.{Reading}
use Rattle.tool_program.specs.EventApplier.Appliers as appliers
use Rattle.tool_program.specs.declared.cutover_core.cutover.Role.{Role}
use Rattle.tool_program.specs.declared.cutover_core.cutover.Role.TheVariants.{Inspector, Locker, Renamer}
use Rattle.tool_program.specs.CutoverCore.CutOvers as cutovers
use Rattle.tool_program.specs.CutoverCore.CutOvers.{is_done}
use Rattle.tool_program.specs.Operators.{commanded}
use Rattle.tool_program.specs.Programs.{given, IsGiven}
use Rattle.tool_program.specs.Tools.{Work, ToolPhase, SettingUp, Migrating, Reason, CopyUnfit, ApplyUnfit, Panicked, Tool, Moment, stopped, is_renamed, reverts, is_reverting, working, copy_after, apply_after, copy_took, apply_took, cutover_took, is_failure, actor_took, turn_counts, resizes, command_took, asked_took, took, moment}
use Rattle.proof_journals.proofs.Sentry.Inductions.{moment_more}
use Rattle.proof_journals.proofs.Machine.Journals.{IsRun, never_commands, client_commands}
use Rattle.proof_journals.proofs.Machine.Lifting.{attempt_keeps, drains_keeps, first_some, reverts_keeps, spends_keeps}

-- nothing was reverted before, the setup is over, and these are the two machines
abbrev pub Are : Bool → Copier → Applier → ToolPhase → Type 0
Are reverting copier applier (SettingUp setup tries) = ⊥
Are reverting copier applier (Migrating work) = (reverting ≡ false) × (work.copier ≡ copier) × (work.applier ≡ applier)

-- so it is where nothing is reverted
abbrev pub AreAfter : Bool → Copier → Applier → Bool → ToolPhase → Type 0
AreAfter reverting copier applier reverts tool_phase = reverts ≡ false → Are reverting copier applier tool_phase

back : (reverting : Bool) (copier : Copier) (applier : Applier) (b : Bool) (tool_phase : ToolPhase) → AreAfter reverting copier applier b tool_phase → AreAfter reverting copier applier true (stopped tool_phase)
back reverting copier applier b tool_phase at off = absurd (true≢false off)

-- a row that doesn't fit reverts all
pub reverts_on : (reason : Reason) (tool : Tool) → is_renamed tool.tool_phase ≡ false → is_reverting (reverts reason tool).reason ≡ true
reverts_on reason tool undone = rw undone (first_some tool.reason reason)

-- ONE MACHINE'S ANSWER

module _ (plan : PlanData) (work : Work) (tool : Tool) (tool_phase : tool.tool_phase ≡ Migrating work) where
  abbrev reverting : Bool
  reverting = is_reverting tool.reason

  abbrev Following : Copier → Applier → Tool → Type 0
  Following copier applier after = AreAfter reverting copier applier (is_reverting after.reason) after.tool_phase

  -- the tool as it was
  pub stays : Following work.copier work.applier tool
  stays off = subst (Are reverting work.copier work.applier) (sym tool_phase) (off, refl, refl)

  held : (copier : Copier) (applier : Applier) (answered : Tool) → (reverting ≡ false → Following copier applier answered) → Following copier applier (cond reverting tool answered)
  held copier applier answered then = by reverting refl where
    by : (b : Bool) → reverting ≡ b → Following copier applier (cond b tool answered)
    by true on = λ off. absurd (true≢false (sym on ∙ off))
    by false going = then going

  undone_tool_phase : is_done work.cutover.phase ≡ false → is_renamed tool.tool_phase ≡ false
  undone_tool_phase undone = ap is_renamed tool_phase ∙ undone

  pub copy_takes : (answer : Answer) → is_done work.cutover.phase ≡ false → Following (copiers.took tool.turns work.copier answer) work.applier (actor_took plan Copy answer (Migrating work) tool)
  copy_takes answer undone = held copier work.applier (copy_took plan answer work tool) (λ going. by going (copiers.progress work.copier answer)) where
    copier : Copier
    copier = copiers.took tool.turns work.copier answer

    by : reverting ≡ false → (progress : Progress) → Following copier work.applier (copy_after plan work progress copier tool)
    by going Going = λ off. (going, refl, refl)
    by going TaskDone = λ off. (going, refl, refl)
    by going TaskFailed =
        spends_keeps (AreAfter reverting copier work.applier) (back reverting copier work.applier) plan (tasks.Chunk copier.number) (work.chunk_tries ++ tool.turns ∷ [])
        (working (record work { copier = copier; chunk_tries = work.chunk_tries ++ tool.turns ∷ [] }) tool) (λ off. (going, refl, refl))
    by going (Unfit place number) = λ off. absurd (true≢false (sym (reverts_on (CopyUnfit tool.turns place number) tool (undone_tool_phase undone)) ∙ off))

  pub copy_fits : (answer : Answer) → is_done work.cutover.phase ≡ false → is_reverting (actor_took plan Copy answer (Migrating work) tool).reason ≡ false → (place number : ℕ) → copiers.progress work.copier answer ≡ Unfit place number → ⊥
  copy_fits answer undone off place number unfit = by reverting refl off where
    by : (b : Bool) → reverting ≡ b → is_reverting (cond b tool (copy_took plan answer work tool)).reason ≡ false → ⊥
    by true on off = true≢false (sym on ∙ off)
    by false going off =
        true≢false (sym (reverts_on (CopyUnfit tool.turns place number) tool (undone_tool_phase undone)) ∙ ap (λ (p : Progress). is_reverting (copy_after plan work p (copiers.took tool.turns work.copier answer) tool).reason) (sym unfit) ∙ off)

  pub apply_takes : (answer : Answer) → is_done work.cutover.phase ≡ false → Following work.copier (appliers.took tool.turns work.applier answer) (actor_took plan Apply answer (Migrating work) tool)
  apply_takes answer undone = held work.copier applier (apply_took plan answer work tool) (λ going. by going (appliers.progress work.applier answer)) where
    applier : Applier
    applier = appliers.took tool.turns work.applier answer

    by : reverting ≡ false → (progress : Progress) → Following work.copier applier (apply_after plan work progress applier tool)
    by going Going = λ off. (going, refl, refl)
    by going TaskDone = λ off. (going, refl, refl)
    by going TaskFailed =
        spends_keeps (AreAfter reverting work.copier applier) (back reverting work.copier applier) plan (tasks.Batch applier.position) (work.batch_tries ++ tool.turns ∷ [])
        (working (record work { applier = applier; batch_tries = work.batch_tries ++ tool.turns ∷ [] }) tool) (λ off. (going, refl, refl))
    by going (Unfit place number) = λ off. absurd (true≢false (sym (reverts_on (ApplyUnfit tool.turns place number) tool (undone_tool_phase undone)) ∙ off))

  pub apply_fits : (answer : Answer) → is_done work.cutover.phase ≡ false → is_reverting (actor_took plan Apply answer (Migrating work) tool).reason ≡ false → (place number : ℕ) → appliers.progress work.applier answer ≡ Unfit place number → ⊥
  apply_fits answer undone off place number unfit = by reverting refl off where
    by : (b : Bool) → reverting ≡ b → is_reverting (cond b tool (apply_took plan answer work tool)).reason ≡ false → ⊥
    by true on off = true≢false (sym on ∙ off)
    by false going off =
        true≢false (sym (reverts_on (ApplyUnfit tool.turns place number) tool (undone_tool_phase undone)) ∙ ap (λ (p : Progress). is_reverting (apply_after plan work p (appliers.took tool.turns work.applier answer) tool).reason) (sym unfit) ∙ off)

  -- the drain changes neither
  pub drains_so : (copier : Copier) (applier : Applier) (answered : Tool) → Following copier applier answered → Following copier applier (turn_counts plan Apply answered)
  drains_so copier applier answered at = drains_keeps (AreAfter reverting copier applier) (back reverting copier applier) plan answered.tool_phase answered refl (λ b w tries so. so) at

  -- nothing that is reverted before the drain isn't behind it
  pub drains_off : (answered : Tool) → is_reverting (turn_counts plan Apply answered).reason ≡ false → is_reverting answered.reason ≡ false
  drains_off answered off =
      drains_keeps (λ b c. b ≡ false → is_reverting answered.reason ≡ false) (λ b c at on. absurd (true≢false on)) plan answered.tool_phase answered refl (λ b w tries so. so) (λ same. same) off

  pub role_takes : (role : Role) (answer : Answer) → Following work.copier work.applier (cutover_took plan role answer work tool)
  role_takes role answer =
      attempt_keeps (AreAfter reverting work.copier work.applier) (back reverting work.copier work.applier) plan (is_failure work.cutover.phase (cutovers.took role work.cutover answer).phase) work (cutovers.took role work.cutover answer) tool (λ tries off. (off, refl, refl))

  -- COMMANDS

  pub resizes_work : (size : ℕ) → Following (resized size work.copier) work.applier (command_took (ChunkSize size) tool)
  resizes_work size off = subst (λ (c : ToolPhase). Are reverting (resized size work.copier) work.applier (resizes (ChunkSize size) c)) (sym tool_phase) (off, refl, refl)

  pub panics_so : Following work.copier work.applier (command_took Panic tool)
  panics_so = reverts_keeps (AreAfter reverting work.copier work.applier) (back reverting work.copier work.applier) (Panicked tool.turns) (record tool { operator = commanded Panic tool.operator; tool_phase = tool.tool_phase }) stays

-- THE WHOLE TURN

-- what a turn is to the two machines
pub data Effect (plan : PlanData) (journal : List Entry) (entry : Entry) (before after : Work) : Type 0 where
  copier_took : entry.actor ≡ Copy → is_cut entry.asked ≡ false → ((place number : ℕ) → copiers.progress before.copier entry.answer ≡ Unfit place number → ⊥) → after.copier ≡ copiers.took (length journal + 1) before.copier entry.answer → after.applier ≡ before.applier → Effect plan journal entry before after
  copier_lost : entry.actor ≡ Copy → entry.asked ≡ Cut → after.copier ≡ record (before.copier) { step = Choosing } → after.applier ≡ before.applier → Effect plan journal entry before after
  copier_idle : entry.actor ≡ Copy → entry.asked ≡ Cut → has_work (moment plan journal).server entry.session ≡ false → after.copier ≡ before.copier → after.applier ≡ before.applier → Effect plan journal entry before after
  applier_took : entry.actor ≡ Apply → is_cut entry.asked ≡ false → ((place number : ℕ) → appliers.progress before.applier entry.answer ≡ Unfit place number → ⊥) → after.copier ≡ before.copier → after.applier ≡ appliers.took (length journal + 1) before.applier entry.answer → Effect plan journal entry before after
  applier_lost : entry.actor ≡ Apply → entry.asked ≡ Cut → after.copier ≡ before.copier → after.applier ≡ record (before.applier) { step = Reading } → Effect plan journal entry before after
  applier_idle : entry.actor ≡ Apply → entry.asked ≡ Cut → has_work (moment plan journal).server entry.session ≡ false → after.copier ≡ before.copier → after.applier ≡ before.applier → Effect plan journal entry before after
  neither : same_actor entry.actor Copy ≡ false → same_actor entry.actor Apply ≡ false → after.copier ≡ before.copier → after.applier ≡ before.applier → Effect plan journal entry before after
  resizes_so : (size : ℕ) → entry.asked ≡ Command (ChunkSize size) → entry.actor ≡ Op → after.copier ≡ resized size before.copier → after.applier ≡ before.applier → Effect plan journal entry before after

-- what the tool's work is behind it; nothing was reverted before
pub record TurnIs (plan : PlanData) (journal : List Entry) (entry : Entry) (before : Work) : Type 0 where
  pub after : Work
  pub tool_phase : (moment plan (journal ++ entry ∷ [])).tool.tool_phase ≡ Migrating after
  pub going : is_reverting (moment plan journal).tool.reason ≡ false
  pub effect : Effect plan journal entry before after

module _ (plan : PlanData) (journal : List Entry) (entry : Entry) (run : IsRun plan journal entry) (before : Work) (tool_phase : (moment plan journal).tool.tool_phase ≡ Migrating before) (undone : is_done before.cutover.phase ≡ false) (turns : (moment plan journal).tool.turns ≡ length journal)
    (onward : is_reverting (moment plan (journal ++ entry ∷ [])).tool.reason ≡ false) where
  abbrev now : Moment
  now = moment plan journal

  abbrev tool : Tool
  tool = record now.tool { turns = now.tool.turns + 1 }

  turn_is : tool.turns ≡ length journal + 1
  turn_is = ap (λ (n : ℕ). n + 1) turns

  -- behind the turn
  abbrev taken : Asked → Tool
  taken asked = asked_took plan now.server entry asked tool

  abbrev Goal : Type 0
  Goal = TurnIs plan journal entry before

  same_tool : (asked : Asked) → entry.asked ≡ asked → (moment plan (journal ++ entry ∷ [])).tool ≡ taken asked
  unfolding took
  same_tool asked asks = ap (λ (m : Moment). m.tool) (moment_more plan journal entry) ∙ ap taken asks

  off_now : (asked : Asked) → entry.asked ≡ asked → is_reverting (taken asked).reason ≡ false
  off_now asked asks = ap (λ (t : Tool). is_reverting t.reason) (sym (same_tool asked asks)) ∙ onward

  -- these are the machines behind it
  record Found (copier : Copier) (applier : Applier) : Type 0 where
    after : Work
    then : (moment plan (journal ++ entry ∷ [])).tool.tool_phase ≡ Migrating after
    going : is_reverting now.tool.reason ≡ false
    copies : after.copier ≡ copier
    applies : after.applier ≡ applier

  found : (asked : Asked) → entry.asked ≡ asked → (copier : Copier) (applier : Applier) → AreAfter (is_reverting tool.reason) copier applier (is_reverting (taken asked).reason) (taken asked).tool_phase → Found copier applier
  found asked asks copier applier at = by (taken asked).tool_phase (ap (λ (t : Tool). t.tool_phase) (same_tool asked asks)) (at (off_now asked asks)) where
    by : (tool_phase : ToolPhase) → (moment plan (journal ++ entry ∷ [])).tool.tool_phase ≡ tool_phase → Are (is_reverting tool.reason) copier applier tool_phase → Found copier applier
    by (SettingUp setup tries) is none = absurd none
    by (Migrating after) is all = record { after = after; then = is; going = all.0; copies = all.1; applies = all.2 }

  -- of neither machine
  rested_so : same_actor entry.actor Copy ≡ false → same_actor entry.actor Apply ≡ false → Found before.copier before.applier → Goal
  rested_so no_copy no_apply all = record { after = all.after; tool_phase = all.then; going = all.going; effect = neither no_copy no_apply all.copies all.applies }

  stays_now : AreAfter (is_reverting tool.reason) before.copier before.applier (is_reverting tool.reason) tool.tool_phase
  stays_now = stays plan before tool tool_phase

  -- a call or a poll
  answered : (asked : Asked) → entry.asked ≡ asked → is_cut asked ≡ false → taken asked ≡ turn_counts plan entry.actor (actor_took plan entry.actor entry.answer tool.tool_phase tool) → Goal
  answered asked asks uncut counts = by entry.actor refl where
    took_by : Actor → Tool
    took_by actor = turn_counts plan actor (actor_took plan actor entry.answer tool.tool_phase tool)

    same : (actor : Actor) → entry.actor ≡ actor → taken asked ≡ took_by actor
    same actor is = counts ∙ ap took_by is

    at_tool_phase : (actor : Actor) → took_by actor ≡ turn_counts plan actor (actor_took plan actor entry.answer (Migrating before) tool)
    at_tool_phase actor = ap (λ (c : ToolPhase). turn_counts plan actor (actor_took plan actor entry.answer c tool)) tool_phase

    AfterTool : Copier → Applier → Tool → Type 0
    AfterTool copier applier t = AreAfter (is_reverting tool.reason) copier applier (is_reverting t.reason) t.tool_phase

    here : (actor : Actor) → entry.actor ≡ actor → (copier : Copier) (applier : Applier) → AfterTool copier applier (turn_counts plan actor (actor_took plan actor entry.answer (Migrating before) tool)) → Found copier applier
    here actor is copier applier at = found asked asks copier applier (subst (AfterTool copier applier) (sym (same actor is ∙ at_tool_phase actor)) at)

    off_here : (actor : Actor) → entry.actor ≡ actor → is_reverting (turn_counts plan actor (actor_took plan actor entry.answer (Migrating before) tool)).reason ≡ false
    off_here actor is = subst (λ (t : Tool). is_reverting t.reason ≡ false) (same actor is ∙ at_tool_phase actor) (off_now asked asks)

    rest : (actor : Actor) → entry.actor ≡ actor → same_actor actor Copy ≡ false → same_actor actor Apply ≡ false → AfterTool before.copier before.applier (turn_counts plan actor (actor_took plan actor entry.answer (Migrating before) tool)) → Goal
    rest actor is no_copy no_apply at =
        rested_so (ap (λ (a : Actor). same_actor a Copy) is ∙ no_copy) (ap (λ (a : Actor). same_actor a Apply) is ∙ no_apply) (here actor is before.copier before.applier at)

    by : (actor : Actor) → entry.actor ≡ actor → Goal
    by Copy is =
        let all = here Copy is (copiers.took tool.turns before.copier entry.answer) before.applier (copy_takes plan before tool tool_phase entry.answer undone) in
        record { after = all.after; tool_phase = all.then; going = all.going; effect = copier_took is (ap is_cut asks ∙ uncut) (copy_fits plan before tool tool_phase entry.answer undone (off_here Copy is)) (all.copies ∙ ap (λ (n : ℕ). copiers.took n before.copier entry.answer) turn_is) all.applies }
    by Apply is =
        let all = here Apply is before.copier (appliers.took tool.turns before.applier entry.answer) (drains_so plan before tool tool_phase before.copier (appliers.took tool.turns before.applier entry.answer) (actor_took plan Apply entry.answer (Migrating before) tool) (apply_takes plan before tool tool_phase entry.answer undone)) in
        record {
          after = all.after;
          tool_phase = all.then;
          going = all.going;
          effect = applier_took is (ap is_cut asks ∙ uncut) (apply_fits plan before tool tool_phase entry.answer undone (drains_off plan before tool tool_phase (actor_took plan Apply entry.answer (Migrating before) tool) (off_here Apply is))) all.copies (all.applies ∙ ap (λ (n : ℕ). appliers.took n before.applier entry.answer) turn_is);
        }
    by Insp is = rest Insp is refl refl (role_takes plan before tool tool_phase Inspector entry.answer)
    by Lock is = rest Lock is refl refl (role_takes plan before tool tool_phase Locker entry.answer)
    by Ren is = rest Ren is refl refl (role_takes plan before tool tool_phase Renamer entry.answer)
    by Op is = rest Op is refl refl stays_now
    by (Client c) is = rest (Client c) is refl refl stays_now

  -- a loss between calls
  cut : entry.asked ≡ Cut → Goal
  unfolding copiers.took appliers.took
  cut asks = by (has_work now.server entry.session) refl where
    lost_by : Actor → Tool
    lost_by actor = actor_took plan actor answers.Lost tool.tool_phase tool

    AfterTool : Copier → Applier → Tool → Type 0
    AfterTool copier applier t = AreAfter (is_reverting tool.reason) copier applier (is_reverting t.reason) t.tool_phase

    reported : has_work now.server entry.session ≡ true → (actor : Actor) → entry.actor ≡ actor → taken Cut ≡ actor_took plan actor answers.Lost (Migrating before) tool
    reported works actor is = ap (λ (b : Bool). cond b (lost_by entry.actor) tool) works ∙ ap lost_by is ∙ ap (λ (c : ToolPhase). actor_took plan actor answers.Lost c tool) tool_phase

    here : has_work now.server entry.session ≡ true → (actor : Actor) → entry.actor ≡ actor → (copier : Copier) (applier : Applier) → AfterTool copier applier (actor_took plan actor answers.Lost (Migrating before) tool) → Found copier applier
    here works actor is copier applier at = found Cut asks copier applier (subst (AfterTool copier applier) (sym (reported works actor is)) at)

    idle : has_work now.server entry.session ≡ false → Found before.copier before.applier
    idle rests = found Cut asks before.copier before.applier (subst (AfterTool before.copier before.applier) (sym (ap (λ (b : Bool). cond b (lost_by entry.actor) tool) rests)) stays_now)

    rest : has_work now.server entry.session ≡ true → (actor : Actor) → entry.actor ≡ actor → same_actor actor Copy ≡ false → same_actor actor Apply ≡ false → AfterTool before.copier before.applier (actor_took plan actor answers.Lost (Migrating before) tool) → Goal
    rest works actor is no_copy no_apply at =
        rested_so (ap (λ (a : Actor). same_actor a Copy) is ∙ no_copy) (ap (λ (a : Actor). same_actor a Apply) is ∙ no_apply) (here works actor is before.copier before.applier at)

    rested : has_work now.server entry.session ≡ false → (actor : Actor) → entry.actor ≡ actor → same_actor actor Copy ≡ false → same_actor actor Apply ≡ false → Goal
    rested rests actor is no_copy no_apply =
        rested_so (ap (λ (a : Actor). same_actor a Copy) is ∙ no_copy) (ap (λ (a : Actor). same_actor a Apply) is ∙ no_apply) (idle rests)

    with_work : has_work now.server entry.session ≡ true → (actor : Actor) → entry.actor ≡ actor → Goal
    with_work works Copy is =
        let all = here works Copy is (record (before.copier) { step = Choosing }) before.applier (copy_takes plan before tool tool_phase answers.Lost undone) in
        record { after = all.after; tool_phase = all.then; going = all.going; effect = copier_lost is asks all.copies all.applies }
    with_work works Apply is =
        let all = here works Apply is before.copier (record (before.applier) { step = Reading }) (apply_takes plan before tool tool_phase answers.Lost undone) in
        record { after = all.after; tool_phase = all.then; going = all.going; effect = applier_lost is asks all.copies all.applies }
    with_work works Insp is = rest works Insp is refl refl (role_takes plan before tool tool_phase Inspector answers.Lost)
    with_work works Lock is = rest works Lock is refl refl (role_takes plan before tool tool_phase Locker answers.Lost)
    with_work works Ren is = rest works Ren is refl refl (role_takes plan before tool tool_phase Renamer answers.Lost)
    with_work works Op is = rest works Op is refl refl stays_now
    with_work works (Client c) is = rest works (Client c) is refl refl stays_now

    without : has_work now.server entry.session ≡ false → (actor : Actor) → entry.actor ≡ actor → Goal
    without rests Copy is = let all = idle rests in record { after = all.after; tool_phase = all.then; going = all.going; effect = copier_idle is asks rests all.copies all.applies }
    without rests Apply is = let all = idle rests in record { after = all.after; tool_phase = all.then; going = all.going; effect = applier_idle is asks rests all.copies all.applies }
    without rests Insp is = rested rests Insp is refl refl
    without rests Lock is = rested rests Lock is refl refl
    without rests Ren is = rested rests Ren is refl refl
    without rests Op is = rested rests Op is refl refl
    without rests (Client c) is = rested rests (Client c) is refl refl

    by : (b : Bool) → has_work now.server entry.session ≡ b → Goal
    by true works = with_work works entry.actor refl
    by false rests = without rests entry.actor refl

  -- a command is the operator's
  operators : (word : OperatorWord) → given plan journal entry.actor ≡ Some (Command word) → entry.actor ≡ Op
  unfolding given
  operators word gives = by entry.actor refl gives where
    by : (actor : Actor) → entry.actor ≡ actor → given plan journal actor ≡ Some (Command word) → entry.actor ≡ Op
    by Op is gives = is
    by (Client c) is gives = absurd (client_commands plan journal c word gives)
    by Insp is gives = absurd (never_commands plan journal Insp word gives)
    by Copy is gives = absurd (never_commands plan journal Copy word gives)
    by Apply is gives = absurd (never_commands plan journal Apply word gives)
    by Lock is gives = absurd (never_commands plan journal Lock word gives)
    by Ren is gives = absurd (never_commands plan journal Ren word gives)

  command : (word : OperatorWord) → entry.asked ≡ Command word → entry.actor ≡ Op → Goal
  command word asks op = by word asks where
    other : (word : OperatorWord) → entry.asked ≡ Command word → AreAfter (is_reverting tool.reason) before.copier before.applier (is_reverting (command_took word tool).reason) (command_took word tool).tool_phase → Goal
    other word asks at = rested_so (ap (λ (a : Actor). same_actor a Copy) op) (ap (λ (a : Actor). same_actor a Apply) op) (found (Command word) asks before.copier before.applier at)

    by : (word : OperatorWord) → entry.asked ≡ Command word → Goal
    by (ChunkSize size) asks =
        let all = found (Command (ChunkSize size)) asks (resized size before.copier) before.applier (resizes_work plan before tool tool_phase size) in
        record { after = all.after; tool_phase = all.then; going = all.going; effect = resizes_so size asks op all.copies all.applies }
    by Panic asks = other Panic asks (panics_so plan before tool tool_phase)
    by Throttle asks = other Throttle asks stays_now
    by NoThrottle asks = other NoThrottle asks stays_now
    by Unpostpone asks = other Unpostpone asks stays_now
    by Wait asks = other Wait asks stays_now

  pub turn_effect : Goal
  turn_effect = by entry.asked refl run.followed.given where
    by : (asked : Asked) → entry.asked ≡ asked → IsGiven plan journal entry asked → Goal
    by (Call request) asks gives = answered (Call request) asks refl refl
    by Poll asks gives = answered Poll asks refl refl
    by Cut asks gives = cut asks
    by (Command word) asks gives = command word asks (operators word gives)
