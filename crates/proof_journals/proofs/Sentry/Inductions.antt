-- *The sentry relation stands behind every journal*, and the RENAME that is done finds all of the table in the new one.
use Rattle.std.proofs.Common.{◌≡◌, ℕ, ◌+◌, Bool, true, false, cond, List, [], ◌∷◌, ◌++◌, Option, refl, sym, subst}
use Rattle.std.proofs.lemmas.List.Sums.{fold-append}
use Rattle.base_script.specs.declared.actor.Actor.{Actor}
use Rattle.base_script.specs.declared.actor.Actor.TheVariants.{Op, Insp, Copy, Apply, Lock, Ren, Client}
use Rattle.server_model.specs.declared.answer.KeyRange.{KeyRange}
use Rattle.server_model.specs.Along.{Along, Along-keeps}
use Rattle.server_model.specs.declared.answer.Answer.TheVariants as answers
use Rattle.server_model.specs.declared.outcome.Task.TheVariants as causes
use Rattle.base_script.specs.declared.operator.OperatorWord.{OperatorWord}
use Rattle.base_script.specs.declared.operator.OperatorWord.TheVariants.{ChunkSize, Throttle, NoThrottle, Unpostpone, Panic, Wait}
use Rattle.tool_program.specs.Tools as tools
use Rattle.proof_journals.specs.Sentry.Sentries.{scene, MayExchange}
use Rattle.proof_journals.specs.Sentry.TurnResults.{Holds, ToolPhaseHolds, IsGuarded, WorkTurn, AskedTurn, ToolPhaseTurn, IsTurned, reported_if, reported, session_after, session_next, last_session, WholeIn, MayRename, RenamesAreWhole}
use Rattle.proof_journals.proofs.Sentry.Guarding.{rename_exchanges}
use Rattle.proof_journals.proofs.Sentry.Steps.{stops, counted_holds, actor_holds, idle_holds, command_holds, locker_next, renamer_next}
use Rattle.proof_journals.proofs.Sentry.Lifting.{spends_keeps, reverts_keeps}
use Rattle.server_model.specs.declared.answer.Answer.{Answer}
use Rattle.server_model.specs.declared.entry.Entry.{Entry}
use Rattle.server_model.specs.declared.entry.Asked.{Asked}
use Rattle.server_model.specs.declared.entry.Asked.TheVariants.{Call, Poll, Command, Cut}
use Rattle.server_model.specs.Entries.{same_actor}
use Rattle.server_model.specs.States.{State, has_work}
use Rattle.plan_data.specs.PlanData.{PlanData}
use Rattle.tool_program.specs.JournalWords.Journals.{opening}
use Rattle.tool_program.specs.Setups.{Setup, setup_after}
use Rattle.tool_program.specs.Setups.Setup.{Listing, Clearing, MakingLog, MakingGhost, Marking, Reaching, Ready}
use Rattle.tool_program.specs.CutoverCore.CutOvers.{is_bad}
use Rattle.tool_program.specs.Operators.{commanded}
use Rattle.tool_program.specs.Tools.{Work, ToolPhase, Tool, Moment, new_tool, new_work, moment, after_turn, is_reverting, drains, tool_phase_of, setup_took, spends, actor_took, turn_counts, resizes, command_took, asked_took}
use Rattle.tool_program.specs.Tools.ToolPhase.{SettingUp, Migrating}
use Rattle.tool_program.specs.Tools.Reason.{Panicked}

-- THE SETUP

work_begins : (plan : PlanData) (state : State) (l r size position : ℕ) (range : Option KeyRange) → Holds plan state l r (new_work plan size position range)
work_begins plan state l r size position range = record { fits = (refl, refl); copied = λ is. absurd cc; guards = tt }

setup_begins : (plan : PlanData) (state : State) (l r size : ℕ) (setup : Setup) (tries : List ℕ) → ToolPhaseHolds plan state l r (tool_phase_of plan size setup tries)
setup_begins plan state l r size (Ready position range) tries = work_begins plan state l r size position range
setup_begins plan state l r size Listing tries = tt
setup_begins plan state l r size (Clearing left) tries = tt
setup_begins plan state l r size MakingLog tries = tt
setup_begins plan state l r size MakingGhost tries = tt
setup_begins plan state l r size Marking tries = tt
setup_begins plan state l r size (Reaching position) tries = tt

setup_actor : (plan : PlanData) (state : State) (l r : ℕ) (setup : Setup) (tries : List ℕ) (tool : Tool) (actor : Actor) (answer : Answer) → tool.tool_phase ≡ SettingUp setup tries → ToolPhaseHolds plan state l r (actor_took plan actor answer (SettingUp setup tries) tool).tool_phase
setup_actor plan state l r setup tries tool Insp answer is = by (is_reverting tool.reason) (is_bad answer)
  where
    by : (a b : Bool) → ToolPhaseHolds plan state l r (cond a tool (cond b (spends plan causes.Setup (tries ++ tool.turns ∷ []) (record tool { tool_phase = SettingUp Listing (tries ++ tool.turns ∷ []) })) (record tool { tool_phase = tool_phase_of plan tool.operator.size (setup_after plan.table setup answer) tries }))).tool_phase
    by true b = subst (ToolPhaseHolds plan state l r) (sym is) tt
    by false true = spends_keeps (ToolPhaseHolds plan state l r) (stops plan state l r) plan causes.Setup (tries ++ tool.turns ∷ []) (record tool { tool_phase = SettingUp Listing (tries ++ tool.turns ∷ []) }) tt
    by false false = setup_begins plan state l r tool.operator.size (setup_after plan.table setup answer) tries
setup_actor plan state l r setup tries tool Op answer is = subst (ToolPhaseHolds plan state l r) (sym is) tt
setup_actor plan state l r setup tries tool Copy answer is = subst (ToolPhaseHolds plan state l r) (sym is) tt
setup_actor plan state l r setup tries tool Apply answer is = subst (ToolPhaseHolds plan state l r) (sym is) tt
setup_actor plan state l r setup tries tool Lock answer is = subst (ToolPhaseHolds plan state l r) (sym is) tt
setup_actor plan state l r setup tries tool Ren answer is = subst (ToolPhaseHolds plan state l r) (sym is) tt
setup_actor plan state l r setup tries tool (Client client) answer is = subst (ToolPhaseHolds plan state l r) (sym is) tt

setup_counted : (plan : PlanData) (state : State) (l r : ℕ) (setup : Setup) (tries : List ℕ) (tool : Tool) (actor : Actor) (answer : Answer) → tool.tool_phase ≡ SettingUp setup tries → ToolPhaseHolds plan state l r (turn_counts plan actor (actor_took plan actor answer (SettingUp setup tries) tool)).tool_phase
setup_counted plan state l r setup tries tool Apply answer is = subst (λ tool_phase. ToolPhaseHolds plan state l r (drains plan tool_phase tool).tool_phase) (sym is) (subst (ToolPhaseHolds plan state l r) (sym is) tt)
setup_counted plan state l r setup tries tool Insp answer is = setup_actor plan state l r setup tries tool Insp answer is
setup_counted plan state l r setup tries tool Op answer is = setup_actor plan state l r setup tries tool Op answer is
setup_counted plan state l r setup tries tool Copy answer is = setup_actor plan state l r setup tries tool Copy answer is
setup_counted plan state l r setup tries tool Lock answer is = setup_actor plan state l r setup tries tool Lock answer is
setup_counted plan state l r setup tries tool Ren answer is = setup_actor plan state l r setup tries tool Ren answer is
setup_counted plan state l r setup tries tool (Client client) answer is = setup_actor plan state l r setup tries tool (Client client) answer is

setup_command : (plan : PlanData) (state : State) (l r : ℕ) (setup : Setup) (tries : List ℕ) (tool : Tool) (word : OperatorWord) → tool.tool_phase ≡ SettingUp setup tries → ToolPhaseHolds plan state l r (command_took word tool).tool_phase
setup_command plan state l r setup tries tool word is = by word
  where
    same : ToolPhaseHolds plan state l r tool.tool_phase
    same = subst (ToolPhaseHolds plan state l r) (sym is) tt

    by : (word : OperatorWord) → ToolPhaseHolds plan state l r (command_took word tool).tool_phase
    by Panic = reverts_keeps (ToolPhaseHolds plan state l r) (stops plan state l r) (Panicked tool.turns) (record tool { operator = commanded Panic tool.operator; tool_phase = tool.tool_phase }) same
    by (ChunkSize size) = subst (λ tool_phase. ToolPhaseHolds plan state l r (resizes (ChunkSize size) tool_phase)) (sym is) tt
    by Throttle = same
    by NoThrottle = same
    by Unpostpone = same
    by Wait = same

-- ONE ENTRY

abbrev lock_at : Actor → Asked → ℕ → ℕ → ℕ
lock_at actor asked l s = cond (same_actor actor Lock) (session_after asked l s) l

abbrev ren_at : Actor → Asked → ℕ → ℕ → ℕ
ren_at actor asked r s = cond (same_actor actor Ren) (session_after asked r s) r

one_cond : (b : Bool) (n : ℕ) → cond b n n ≡ n
one_cond true n = refl
one_cond false n = refl

entry_holds : (plan : PlanData) (before after : State) (l r : ℕ) (entry : Entry) (tool : Tool) (tool_phase : ToolPhase) (asked : Asked) → tool.tool_phase ≡ tool_phase → ToolPhaseHolds plan before l r tool_phase
    → ((work : Work) → tool_phase ≡ Migrating work → AskedTurn plan before after l r work tool.turns entry asked) → ToolPhaseHolds plan after (lock_at entry.actor asked l entry.session) (ren_at entry.actor asked r entry.session) (asked_took plan before entry asked tool).tool_phase
entry_holds plan before after l r entry tool (Migrating work) (Command word) is at turn =
    subst (λ k. ToolPhaseHolds plan after k (cond (same_actor entry.actor Ren) r r) (command_took word tool).tool_phase) (sym (one_cond (same_actor entry.actor Lock) l))
    (subst (λ k. ToolPhaseHolds plan after l k (command_took word tool).tool_phase) (sym (one_cond (same_actor entry.actor Ren) r))
    (subst (λ state. ToolPhaseHolds plan state l r (command_took word tool).tool_phase) (sym (turn work refl)) (command_holds plan before l r work word tool is at)))
entry_holds plan before after l r entry tool (Migrating work) (Call request) is at turn =
    subst (λ tool_phase. ToolPhaseHolds plan after (locker_next entry.actor l entry.session) (renamer_next entry.actor r entry.session) (turn_counts plan entry.actor (actor_took plan entry.actor entry.answer tool_phase tool)).tool_phase) (sym is)
    (counted_holds plan before after l r work tool entry entry.actor entry.answer is at (turn work refl))
entry_holds plan before after l r entry tool (Migrating work) Poll is at turn =
    subst (λ tool_phase. ToolPhaseHolds plan after (locker_next entry.actor l entry.session) (renamer_next entry.actor r entry.session) (turn_counts plan entry.actor (actor_took plan entry.actor entry.answer tool_phase tool)).tool_phase) (sym is)
    (counted_holds plan before after l r work tool entry entry.actor entry.answer is at (turn work refl))
entry_holds plan before after l r entry tool (Migrating work) Cut is at turn = by (has_work before entry.session) (turn work refl)
  where
    by : (b : Bool) → WorkTurn plan before after l r work tool.turns entry entry.actor (reported_if b) → ToolPhaseHolds plan after (locker_next entry.actor l entry.session) (renamer_next entry.actor r entry.session) (cond b (actor_took plan entry.actor answers.Lost tool.tool_phase tool) tool).tool_phase
    by true reported = subst (λ tool_phase. ToolPhaseHolds plan after (locker_next entry.actor l entry.session) (renamer_next entry.actor r entry.session) (actor_took plan entry.actor answers.Lost tool_phase tool).tool_phase) (sym is)
        (actor_holds plan before after l r work tool entry entry.actor answers.Lost is at reported)
    by false reported = subst (ToolPhaseHolds plan after (locker_next entry.actor l entry.session) (renamer_next entry.actor r entry.session)) (sym is) (idle_holds plan before after l r work tool.turns entry entry.actor at reported)
entry_holds plan before after l r entry tool (SettingUp setup tries) (Command word) is at turn = setup_command plan after (cond (same_actor entry.actor Lock) l l) (cond (same_actor entry.actor Ren) r r) setup tries tool word is
entry_holds plan before after l r entry tool (SettingUp setup tries) (Call request) is at turn =
    subst (λ tool_phase. ToolPhaseHolds plan after (locker_next entry.actor l entry.session) (renamer_next entry.actor r entry.session) (turn_counts plan entry.actor (actor_took plan entry.actor entry.answer tool_phase tool)).tool_phase) (sym is)
    (setup_counted plan after (locker_next entry.actor l entry.session) (renamer_next entry.actor r entry.session) setup tries tool entry.actor entry.answer is)
entry_holds plan before after l r entry tool (SettingUp setup tries) Poll is at turn =
    subst (λ tool_phase. ToolPhaseHolds plan after (locker_next entry.actor l entry.session) (renamer_next entry.actor r entry.session) (turn_counts plan entry.actor (actor_took plan entry.actor entry.answer tool_phase tool)).tool_phase) (sym is)
    (setup_counted plan after (locker_next entry.actor l entry.session) (renamer_next entry.actor r entry.session) setup tries tool entry.actor entry.answer is)
entry_holds plan before after l r entry tool (SettingUp setup tries) Cut is at turn = by (has_work before entry.session)
  where
    by : (b : Bool) → ToolPhaseHolds plan after (locker_next entry.actor l entry.session) (renamer_next entry.actor r entry.session) (cond b (actor_took plan entry.actor answers.Lost tool.tool_phase tool) tool).tool_phase
    by true = subst (λ tool_phase. ToolPhaseHolds plan after (locker_next entry.actor l entry.session) (renamer_next entry.actor r entry.session) (actor_took plan entry.actor answers.Lost tool_phase tool).tool_phase) (sym is)
        (setup_actor plan after (locker_next entry.actor l entry.session) (renamer_next entry.actor r entry.session) setup tries tool entry.actor answers.Lost is)
    by false = subst (ToolPhaseHolds plan after (locker_next entry.actor l entry.session) (renamer_next entry.actor r entry.session)) (sym is) tt

-- THE INDUCTION

pub moment_more : (plan : PlanData) (journal : List Entry) (entry : Entry) → moment plan (journal ++ entry ∷ []) ≡ after_turn plan (moment plan journal) entry
unfolding moment
moment_more plan journal entry = fold-append (after_turn plan) (record { server = opening plan; tool = new_tool plan }) journal (entry ∷ [])

pub last_more : (journal : List Entry) (entry : Entry) (actor : Actor) → last_session (journal ++ entry ∷ []) actor ≡ session_next actor (last_session journal actor) entry
unfolding last_session
last_more journal entry actor = fold-append (session_next actor) 0 journal (entry ∷ [])

step : (plan : PlanData) (journal : List Entry) (entry : Entry) → IsTurned plan journal entry → IsGuarded plan journal → IsGuarded plan (journal ++ entry ∷ [])
unfolding tools.took
step plan journal entry turned guarded = record { tool_phase = there }
  where
    now : Moment
    now = moment plan journal

    l : ℕ
    l = last_session journal Lock

    r : ℕ
    r = last_session journal Ren

    tool : Tool
    tool = record now.tool { turns = now.tool.turns + 1 }

    after : State
    after = (moment plan (journal ++ entry ∷ [])).server

    taken : (tool_phase : ToolPhase) → ToolPhaseTurn plan now.server after l r tool_phase tool.turns entry → (work : Work) → tool_phase ≡ Migrating work → AskedTurn plan now.server after l r work tool.turns entry entry.asked
    taken (Migrating work) turn other is = subst (λ w. AskedTurn plan now.server after l r w tool.turns entry entry.asked) (same work other is) turn
      where
        same : (a b : Work) → Migrating a ≡ Migrating b → a ≡ b
        same a b e = cc
    taken (SettingUp setup tries) turn other is = absurd cc

    one : ToolPhaseHolds plan after (session_next Lock l entry) (session_next Ren r entry) (after_turn plan now entry).tool.tool_phase
    one = entry_holds plan now.server after l r entry tool now.tool.tool_phase entry.asked refl guarded.tool_phase (taken now.tool.tool_phase turned.turn)

    there : ToolPhaseHolds plan after (last_session (journal ++ entry ∷ []) Lock) (last_session (journal ++ entry ∷ []) Ren) (moment plan (journal ++ entry ∷ [])).tool.tool_phase
    there = subst (λ m. ToolPhaseHolds plan after (last_session (journal ++ entry ∷ []) Lock) (last_session (journal ++ entry ∷ []) Ren) m.tool.tool_phase) (sym (moment_more plan journal entry))
        (subst (λ k. ToolPhaseHolds plan after k (last_session (journal ++ entry ∷ []) Ren) (after_turn plan now entry).tool.tool_phase) (sym (last_more journal entry Lock))
        (subst (λ k. ToolPhaseHolds plan after (session_next Lock l entry) k (after_turn plan now entry).tool.tool_phase) (sym (last_more journal entry Ren)) one))

starts_guarded : (plan : PlanData) → IsGuarded plan []
unfolding moment last_session
starts_guarded plan = record { tool_phase = tt }

pub all_guarded : (plan : PlanData) (journal : List Entry) → Along (IsTurned plan) [] journal → IsGuarded plan journal
all_guarded plan journal turned = Along-keeps (IsTurned plan) (IsGuarded plan) (step plan) [] journal turned (starts_guarded plan)

-- THE MARK

pub renames_are_whole : RenamesAreWhole
renames_are_whole plan journal session turned may renamed = by (moment plan journal).tool.tool_phase may (all_guarded plan journal turned).tool_phase
  where
    by : (tool_phase : ToolPhase) → MayRename tool_phase → ToolPhaseHolds plan (moment plan journal).server (last_session journal Lock) (last_session journal Ren) tool_phase → WholeIn plan (moment plan journal).server session tool_phase
    by (SettingUp setup tries) may at = absurd may
    by (Migrating work) may at =
        let whole : MayExchange plan.table (scene (moment plan journal).server) work.copier work.applier (last_session journal Lock) =
        rename_exchanges plan.table (last_session journal Lock) (last_session journal Ren) (scene (moment plan journal).server) work.copier work.applier work.cutover work.cutover.phase at.guards may renamed.free in
        record { copied = whole.drained.copied; within = whole.drained.within; applied = whole.drained.applied; idle = whole.drained.idle; alone = renamed.alone }
