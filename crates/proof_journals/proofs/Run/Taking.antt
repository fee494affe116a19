-- A turn counts one, and a command alone changes the operator.
use Rattle.std.proofs.Common.{◌≡◌, ℕ, ◌+◌, ◌==◌, Bool, true, false, List, [], ◌∷◌, ◌++◌, length, cond, refl, ap, ◌∙◌, arith}
use Rattle.std.specs.Prelude.{if◌then◌else◌, fold}
use Rattle.std.proofs.lemmas.List.Sums.{fold-append}
use Rattle.base_script.specs.declared.actor.Actor.{Actor}
use Rattle.base_script.specs.declared.actor.Actor.TheVariants.{Insp, Copy, Apply, Lock, Ren}
use Rattle.base_script.specs.declared.operator.OperatorWord.{OperatorWord}
use Rattle.base_script.specs.declared.operator.OperatorWord.TheVariants.{Throttle, NoThrottle, ChunkSize, Unpostpone, Panic, Wait}
use Rattle.server_model.specs.declared.answer.Answer.{Answer}
use Rattle.server_model.specs.declared.answer.Answer.TheVariants as answers
use Rattle.server_model.specs.declared.entry.Entry.{Entry}
use Rattle.server_model.specs.declared.entry.Asked.{Asked}
use Rattle.server_model.specs.declared.entry.Asked.TheVariants.{Call, Poll, Command, Cut}
use Rattle.server_model.specs.declared.outcome.Task.{Task}
use Rattle.server_model.specs.declared.outcome.Task.TheVariants as tasks
use Rattle.server_model.specs.declared.outcome.Progress.{Progress}
use Rattle.server_model.specs.declared.outcome.Progress.TheVariants.{Going, TaskDone, TaskFailed, Unfit}
use Rattle.server_model.specs.Entries.{is_command}
use Rattle.server_model.specs.States.{State, has_work}
use Rattle.plan_data.specs.PlanData.{PlanData}
use Rattle.tool_program.specs.JournalWords.Journals.{opening, state_after, state_at}
use Rattle.tool_program.specs.JournalWords.KeptPlans.{commands_taken}
use Rattle.tool_program.specs.declared.chunk_copier.copier.Copier.{Copier}
use Rattle.tool_program.specs.ChunkCopier.Copiers as copiers
use Rattle.tool_program.specs.declared.event_applier.applier.Applier.{Applier}
use Rattle.tool_program.specs.EventApplier.Appliers as appliers
use Rattle.tool_program.specs.declared.cutover_core.cutover.CutOver.{CutOver}
use Rattle.tool_program.specs.declared.cutover_core.cutover.Role.TheVariants.{Inspector, Locker, Renamer}
use Rattle.tool_program.specs.CutoverCore.CutOvers as cutovers
use Rattle.tool_program.specs.Setups.{Setup, Listing, setup_after}
use Rattle.tool_program.specs.Operators.{Operator, commanded}
use Rattle.tool_program.specs.Tools.{Work, ToolPhase, SettingUp, Migrating, Reason, CopyUnfit, ApplyUnfit, Spent, Panicked, Tool, Moment, new_tool, first_reason, stopped, is_renamed, reverts, spends, is_reverting, copy_after, apply_after, attempt_after, is_failure, cutover_after, drains, tool_phase_of, setup_took, actor_took, turn_counts, resizes, panics, asked_took, took, after_turn, moment}

-- as many turns, and the same operator
record Rests (before after : Tool) : Type 0 where
  turns : after.turns ≡ before.turns
  operator : after.operator ≡ before.operator

rests_itself : (tool : Tool) → Rests tool tool
rests_itself tool = record { turns = refl; operator = refl }

rests_then : (one two three : Tool) → Rests one two → Rests two three → Rests one three
rests_then one two three first second = record { turns = second.turns ∙ first.turns; operator = second.operator ∙ first.operator }

-- what a turn makes of the operator
abbrev operator_after : Asked → Operator → Operator
operator_after (Command word) operator = commanded word operator
operator_after asked operator = operator

record Takes (asked : Asked) (before after : Tool) : Type 0 where
  turns : after.turns ≡ before.turns
  operator : after.operator ≡ operator_after asked before.operator

module _ (plan : PlanData) where
  reverts_rests : (reason : Reason) (tool : Tool) → Rests tool (reverts reason tool)
  reverts_rests reason tool = by (is_renamed tool.tool_phase)
    where
      by : (renamed : Bool) → Rests tool (if renamed then tool else record tool { reason = first_reason tool.reason reason; tool_phase = stopped tool.tool_phase })
      by true = record { turns = refl; operator = refl }
      by false = record { turns = refl; operator = refl }

  spends_rests : (task : Task) (tries : List ℕ) (tool : Tool) → Rests tool (spends plan task tries tool)
  spends_rests task tries tool = by (length tries == plan.options.default_retries)
    where
      by : (last : Bool) → Rests tool (if last then reverts (Spent task tries) tool else tool)
      by true = reverts_rests (Spent task tries) tool
      by false = rests_itself tool

  -- a failed try, behind a change of the course
  spent_rests : (task : Task) (tries : List ℕ) (tool_phase : ToolPhase) (tool : Tool) → Rests tool (spends plan task tries (record tool { tool_phase = tool_phase }))
  spent_rests task tries tool_phase tool =
      rests_then tool (record tool { tool_phase = tool_phase }) (spends plan task tries (record tool { tool_phase = tool_phase })) (record { turns = refl; operator = refl }) (spends_rests task tries (record tool { tool_phase = tool_phase }))

  copy_rests : (work : Work) (progress : Progress) (copier : Copier) (tool : Tool) → Rests tool (copy_after plan work progress copier tool)
  copy_rests work Going copier tool = record { turns = refl; operator = refl }
  copy_rests work TaskDone copier tool = record { turns = refl; operator = refl }
  copy_rests work TaskFailed copier tool =
      spent_rests (tasks.Chunk copier.number) (work.chunk_tries ++ tool.turns ∷ []) (Migrating (record work { copier = copier; chunk_tries = work.chunk_tries ++ tool.turns ∷ [] })) tool
  copy_rests work (Unfit place number) copier tool = reverts_rests (CopyUnfit tool.turns place number) tool

  apply_rests : (work : Work) (progress : Progress) (applier : Applier) (tool : Tool) → Rests tool (apply_after plan work progress applier tool)
  apply_rests work Going applier tool = record { turns = refl; operator = refl }
  apply_rests work TaskDone applier tool = record { turns = refl; operator = refl }
  apply_rests work TaskFailed applier tool =
      spent_rests (tasks.Batch applier.position) (work.batch_tries ++ tool.turns ∷ []) (Migrating (record work { applier = applier; batch_tries = work.batch_tries ++ tool.turns ∷ [] })) tool
  apply_rests work (Unfit place number) applier tool = reverts_rests (ApplyUnfit tool.turns place number) tool

  attempt_rests : (fails : Bool) (work : Work) (cutover : CutOver) (tool : Tool) → Rests tool (attempt_after plan fails work cutover tool)
  attempt_rests true work cutover tool =
      spent_rests tasks.CutOver (work.attempt_tries ++ tool.turns ∷ []) (Migrating (record work { cutover = cutover; attempt_tries = work.attempt_tries ++ tool.turns ∷ [] })) tool
  attempt_rests false work cutover tool = record { turns = refl; operator = refl }

  cutover_rests : (cutover : CutOver) (work : Work) (tool : Tool) → Rests tool (cutover_after plan cutover work tool)
  cutover_rests cutover work tool = attempt_rests (is_failure work.cutover.phase cutover.phase) work cutover tool

  drains_rests : (tool_phase : ToolPhase) (tool : Tool) → Rests tool (drains plan tool_phase tool)
  drains_rests (SettingUp setup tries) tool = rests_itself tool
  drains_rests (Migrating work) tool = cutover_rests (cutovers.applier_turn work.applier.hint work.cutover) work tool

  setup_rests : (setup : Setup) (tries : List ℕ) (answer : Answer) (tool : Tool) → Rests tool (setup_took plan setup tries answer tool)
  setup_rests setup tries answer tool = by (cutovers.is_bad answer)
    where
      by : (bad : Bool) →
          Rests tool (if bad then spends plan tasks.Setup (tries ++ tool.turns ∷ []) (record tool { tool_phase = SettingUp Listing (tries ++ tool.turns ∷ []) }) else record tool { tool_phase = tool_phase_of plan tool.operator.size (setup_after plan.table setup answer) tries })
      by true = spent_rests tasks.Setup (tries ++ tool.turns ∷ []) (SettingUp Listing (tries ++ tool.turns ∷ [])) tool
      by false = record { turns = refl; operator = refl }

  -- where all is reverted nothing is taken
  unless : (held : Bool) (tool after : Tool) → Rests tool after → Rests tool (if held then tool else after)
  unless true tool after rests = rests_itself tool
  unless false tool after rests = rests

  actor_rests : (actor : Actor) (answer : Answer) (tool_phase : ToolPhase) (tool : Tool) → Rests tool (actor_took plan actor answer tool_phase tool)
  actor_rests Insp answer (SettingUp setup tries) tool = unless (is_reverting tool.reason) tool (setup_took plan setup tries answer tool) (setup_rests setup tries answer tool)
  actor_rests Insp answer (Migrating work) tool = cutover_rests (cutovers.took Inspector work.cutover answer) work tool
  actor_rests Copy answer (Migrating work) tool =
      unless (is_reverting tool.reason) tool (copy_after plan work (copiers.progress work.copier answer) (copiers.took tool.turns work.copier answer) tool)
      (copy_rests work (copiers.progress work.copier answer) (copiers.took tool.turns work.copier answer) tool)
  actor_rests Apply answer (Migrating work) tool =
      unless (is_reverting tool.reason) tool (apply_after plan work (appliers.progress work.applier answer) (appliers.took tool.turns work.applier answer) tool)
      (apply_rests work (appliers.progress work.applier answer) (appliers.took tool.turns work.applier answer) tool)
  actor_rests Lock answer (Migrating work) tool = cutover_rests (cutovers.took Locker work.cutover answer) work tool
  actor_rests Ren answer (Migrating work) tool = cutover_rests (cutovers.took Renamer work.cutover answer) work tool
  actor_rests actor answer tool_phase tool = rests_itself tool

  counts_rests : (actor : Actor) (tool : Tool) → Rests tool (turn_counts plan actor tool)
  counts_rests Apply tool = drains_rests tool.tool_phase tool
  counts_rests actor tool = rests_itself tool

  panics_rests : (word : OperatorWord) (tool : Tool) → Rests tool (panics word tool)
  panics_rests Panic tool = reverts_rests (Panicked tool.turns) tool
  panics_rests word tool = rests_itself tool

  answered_rests : (entry : Entry) (tool : Tool) → Rests tool (turn_counts plan entry.actor (actor_took plan entry.actor entry.answer tool.tool_phase tool))
  answered_rests entry tool =
      rests_then tool (actor_took plan entry.actor entry.answer tool.tool_phase tool) (turn_counts plan entry.actor (actor_took plan entry.actor entry.answer tool.tool_phase tool)) (actor_rests entry.actor entry.answer tool.tool_phase tool)
      (counts_rests entry.actor (actor_took plan entry.actor entry.answer tool.tool_phase tool))

  asked_takes : (state : State) (entry : Entry) (asked : Asked) (tool : Tool) → Takes asked tool (asked_took plan state entry asked tool)
  asked_takes state entry (Command word) tool =
      let rests : Rests (record tool { operator = commanded word tool.operator; tool_phase = resizes word tool.tool_phase }) (panics word (record tool { operator = commanded word tool.operator; tool_phase = resizes word tool.tool_phase })) =
      panics_rests word (record tool { operator = commanded word tool.operator; tool_phase = resizes word tool.tool_phase }) in
      record { turns = rests.turns; operator = rests.operator }
  asked_takes state entry Cut tool = by (has_work state entry.session)
    where
      by : (worked : Bool) → Takes Cut tool (if worked then actor_took plan entry.actor answers.Lost tool.tool_phase tool else tool)
      by true = let rests : Rests tool (actor_took plan entry.actor answers.Lost tool.tool_phase tool) = actor_rests entry.actor answers.Lost tool.tool_phase tool in record { turns = rests.turns; operator = rests.operator }
      by false = record { turns = refl; operator = refl }
  asked_takes state entry (Call request) tool =
      let rests : Rests tool (turn_counts plan entry.actor (actor_took plan entry.actor entry.answer tool.tool_phase tool)) = answered_rests entry tool in
      record { turns = rests.turns; operator = rests.operator }
  asked_takes state entry Poll tool =
      let rests : Rests tool (turn_counts plan entry.actor (actor_took plan entry.actor entry.answer tool.tool_phase tool)) = answered_rests entry tool in
      record { turns = rests.turns; operator = rests.operator }

  -- a turn counts one
  pub took_turns : (state : State) (tool : Tool) (entry : Entry) → (took plan state tool entry).turns ≡ tool.turns + 1
  unfolding took
  took_turns state tool entry = (asked_takes state entry entry.asked (record tool { turns = tool.turns + 1 })).turns

  took_operator : (state : State) (tool : Tool) (entry : Entry) → (took plan state tool entry).operator ≡ operator_after entry.asked tool.operator
  unfolding took
  took_operator state tool entry = (asked_takes state entry entry.asked (record tool { turns = tool.turns + 1 })).operator

  commanded_one : (word : OperatorWord) (operator : Operator) → (commanded word operator).taken ≡ operator.taken + 1
  commanded_one Throttle operator = refl
  commanded_one NoThrottle operator = refl
  commanded_one (ChunkSize size) operator = refl
  commanded_one Unpostpone operator = refl
  commanded_one Panic operator = refl
  commanded_one Wait operator = refl

  taken_after : (asked : Asked) (operator : Operator) → (operator_after asked operator).taken ≡ operator.taken + cond (is_command asked) 1 0
  taken_after (Command word) operator = commanded_one word operator
  taken_after (Call request) operator = omega arith
  taken_after Poll operator = omega arith
  taken_after Cut operator = omega arith

  took_taken : (state : State) (tool : Tool) (entry : Entry) → (took plan state tool entry).operator.taken ≡ tool.operator.taken + cond (is_command entry.asked) 1 0
  took_taken state tool entry = ap (λ (operator : Operator). operator.taken) (took_operator state tool entry) ∙ taken_after entry.asked tool.operator

  turns_after : (journal : List Entry) (now : Moment) → (fold (after_turn plan) now journal).tool.turns ≡ now.tool.turns + length journal
  turns_after [] now = omega arith
  turns_after (entry ∷ journal) now =
      let one : (after_turn plan now entry).tool.turns ≡ now.tool.turns + 1 = took_turns now.server now.tool entry in
      let rest : (fold (after_turn plan) (after_turn plan now entry) journal).tool.turns ≡ (after_turn plan now entry).tool.turns + length journal = turns_after journal (after_turn plan now entry) in
      omega (arith, one, rest)

  -- so many turns were taken
  pub turns_are : (journal : List Entry) → (moment plan journal).tool.turns ≡ length journal
  unfolding moment
  turns_are journal =
      let following : (fold (after_turn plan) (record { server = opening plan; tool = new_tool plan }) journal).tool.turns ≡ (new_tool plan).turns + length journal = turns_after journal (record { server = opening plan; tool = new_tool plan }) in
      omega (arith, following)

  taken_behind : (journal : List Entry) (now : Moment) (n : ℕ) → now.tool.operator.taken ≡ n → (fold (after_turn plan) now journal).tool.operator.taken ≡ fold (λ (m : ℕ) (e : Entry). m + cond (is_command e.asked) 1 0) n journal
  taken_behind [] now n is = is
  taken_behind (entry ∷ journal) now n is =
      taken_behind journal (after_turn plan now entry) (n + cond (is_command entry.asked) 1 0) (took_taken now.server now.tool entry ∙ ap (λ (m : ℕ). m + cond (is_command entry.asked) 1 0) is)

  -- so many commands were taken
  pub taken_are : (journal : List Entry) → (moment plan journal).tool.operator.taken ≡ commands_taken journal
  unfolding moment
  taken_are journal = taken_behind journal (record { server = opening plan; tool = new_tool plan }) 0 refl

  server_after : (journal : List Entry) (now : Moment) → (fold (after_turn plan) now journal).server ≡ state_after now.server journal
  unfolding state_after
  server_after [] now = refl
  server_after (entry ∷ journal) now = server_after journal (after_turn plan now entry)

  -- the server's part of a moment
  pub server_is : (journal : List Entry) → (moment plan journal).server ≡ state_at plan journal
  unfolding moment
  server_is journal = server_after journal (record { server = opening plan; tool = new_tool plan })

  pub moment_more : (journal : List Entry) (entry : Entry) → moment plan (journal ++ entry ∷ []) ≡ after_turn plan (moment plan journal) entry
  unfolding moment
  moment_more journal entry = fold-append (after_turn plan) (record { server = opening plan; tool = new_tool plan }) journal (entry ∷ [])
