-- *The tool knows whether the RENAME waits*, and with it the statement over journals that follow the program.
use Rattle.std.proofs.Common.{◌≡◌, ℕ, ◌+◌, Bool, true, false, cond, List, [], ◌∷◌, ◌++◌, Option, Some, None, refl, sym, ap, ◌∙◌, subst}
use Rattle.std.proofs.lemmas.Bool.{both_ways}
use Rattle.base_script.specs.declared.actor.Actor.{Actor}
use Rattle.base_script.specs.declared.actor.Actor.TheVariants.{Op, Insp, Copy, Apply, Lock, Ren, Client}
use Rattle.base_script.specs.declared.operator.OperatorWord.{OperatorWord}
use Rattle.base_script.specs.declared.operator.OperatorWord.TheVariants.{ChunkSize, Throttle, NoThrottle, Unpostpone, Panic, Wait}
use Rattle.server_model.specs.Along.{Along, Along-keeps}
use Rattle.server_model.specs.declared.answer.Answer.TheVariants as answers
use Rattle.server_model.specs.declared.outcome.Task.TheVariants as causes
use Rattle.tool_program.specs.ChunkCopier.Copiers as copiers
use Rattle.tool_program.specs.EventApplier.Appliers as appliers
use Rattle.tool_program.specs.Tools as tools
use Rattle.proof_journals.specs.Sentry.Sentries.{Fits, MayAnswer}
use Rattle.proof_journals.specs.Sentry.TurnResults.{ToolPhaseHolds, IsTurned, WholeIn, MayRename, AgreesIn, Agrees, WaitsSay, renamer_at, last_session, RenamesFollow}
use Rattle.proof_journals.proofs.Sentry.Lifting.{reverts_keeps, spends_keeps, attempt_keeps, copy_keeps, apply_keeps}
use Rattle.proof_journals.proofs.Sentry.Inductions.{moment_more, all_guarded, renames_are_whole}
use Rattle.proof_journals.proofs.Sentry.Calling.{asks_call, asks_poll, renamer_called, renamer_polled}
use Rattle.server_model.specs.declared.answer.Answer.{Answer}
use Rattle.server_model.specs.declared.request.Request.{Request}
use Rattle.server_model.specs.declared.entry.Entry.{Entry}
use Rattle.server_model.specs.declared.entry.Asked.{Asked}
use Rattle.server_model.specs.declared.entry.Asked.TheVariants.{Call, Poll, Command, Cut}
use Rattle.server_model.specs.Entries.{same_actor, is_cut}
use Rattle.server_model.specs.States.{State, has_work}
use Rattle.plan_data.specs.PlanData.{PlanData}
use Rattle.tool_program.specs.Setups.{Setup, setup_after}
use Rattle.tool_program.specs.Setups.Setup.{Listing, Clearing, MakingLog, MakingGhost, Marking, Reaching, Ready}
use Rattle.tool_program.specs.declared.cutover_core.cutover.Role.TheVariants.{Inspector, Locker, Renamer}
use Rattle.tool_program.specs.CutoverCore.CutOvers.{took, reverted, applier_turn, is_bad, is_wait}
use Rattle.tool_program.specs.JournalWords.Sessions.{live_session}
use Rattle.tool_program.specs.Operators.{commanded}
use Rattle.tool_program.specs.Programs.{given, waits, tool_call, IsFollowed, IsGiven}
use Rattle.tool_program.specs.Tools.{Work, ToolPhase, Tool, Moment, moment, after_turn, stopped, is_reverting, is_failure, copy_took, apply_took, drains, tool_phase_of, setup_took, spends, actor_took, turn_counts, resizes, command_took, asked_took}
use Rattle.tool_program.specs.Tools.ToolPhase.{SettingUp, Migrating}
use Rattle.tool_program.specs.Tools.Reason.{Panicked}

stops : (w : Bool) (tool_phase : ToolPhase) → AgreesIn w tool_phase → AgreesIn w (stopped tool_phase)
unfolding reverted
stops w (SettingUp setup tries) at = at
stops w (Migrating work) at = at

setup_tool_phase : (plan : PlanData) (w : Bool) (size : ℕ) (setup : Setup) (tries : List ℕ) → w ≡ false → AgreesIn w (tool_phase_of plan size setup tries)
setup_tool_phase plan w size (Ready position range) tries no_wait = λ is. absurd (both_ways w no_wait is)
setup_tool_phase plan w size Listing tries no_wait = no_wait
setup_tool_phase plan w size (Clearing left) tries no_wait = no_wait
setup_tool_phase plan w size MakingLog tries no_wait = no_wait
setup_tool_phase plan w size MakingGhost tries no_wait = no_wait
setup_tool_phase plan w size Marking tries no_wait = no_wait
setup_tool_phase plan w size (Reaching position) tries no_wait = no_wait

-- an answer to another actor than the renamer
actor_agrees : (plan : PlanData) (w : Bool) (actor : Actor) (answer : Answer) (tool_phase : ToolPhase) (tool : Tool) → tool.tool_phase ≡ tool_phase → same_actor actor Ren ≡ false → AgreesIn w tool_phase → AgreesIn w (actor_took plan actor answer tool_phase tool).tool_phase
unfolding took
actor_agrees plan w Lock answer (Migrating work) tool is other at = attempt_keeps (AgreesIn w) (stops w) plan (is_failure work.cutover.phase (took Locker work.cutover answer).phase) work (took Locker work.cutover answer) tool (λ tries. at)
actor_agrees plan w Insp answer (Migrating work) tool is other at = attempt_keeps (AgreesIn w) (stops w) plan (is_failure work.cutover.phase (took Inspector work.cutover answer).phase) work (took Inspector work.cutover answer) tool (λ tries. at)
actor_agrees plan w Ren answer tool_phase tool is other at = absurd cc
actor_agrees plan w Copy answer (Migrating work) tool is other at = by (is_reverting tool.reason)
  where
    by : (b : Bool) → AgreesIn w (cond b tool (copy_took plan answer work tool)).tool_phase
    by true = subst (AgreesIn w) (sym is) at
    by false = copy_keeps (AgreesIn w) (stops w) plan work (copiers.progress work.copier answer) (copiers.took tool.turns work.copier answer) tool (subst (AgreesIn w) (sym is) at) (λ tries. at)
actor_agrees plan w Apply answer (Migrating work) tool is other at = by (is_reverting tool.reason)
  where
    by : (b : Bool) → AgreesIn w (cond b tool (apply_took plan answer work tool)).tool_phase
    by true = subst (AgreesIn w) (sym is) at
    by false = apply_keeps (AgreesIn w) (stops w) plan work (appliers.progress work.applier answer) (appliers.took tool.turns work.applier answer) tool (subst (AgreesIn w) (sym is) at) (λ tries. at)
actor_agrees plan w Op answer (Migrating work) tool is other at = subst (AgreesIn w) (sym is) at
actor_agrees plan w (Client client) answer (Migrating work) tool is other at = subst (AgreesIn w) (sym is) at
actor_agrees plan w Insp answer (SettingUp setup tries) tool is other at = by (is_reverting tool.reason) (is_bad answer)
  where
    by : (a b : Bool) → AgreesIn w (cond a tool (cond b (spends plan causes.Setup (tries ++ tool.turns ∷ []) (record tool { tool_phase = SettingUp Listing (tries ++ tool.turns ∷ []) })) (record tool { tool_phase = tool_phase_of plan tool.operator.size (setup_after plan.table setup answer) tries }))).tool_phase
    by true b = subst (AgreesIn w) (sym is) at
    by false true = spends_keeps (AgreesIn w) (stops w) plan causes.Setup (tries ++ tool.turns ∷ []) (record tool { tool_phase = SettingUp Listing (tries ++ tool.turns ∷ []) }) at
    by false false = setup_tool_phase plan w tool.operator.size (setup_after plan.table setup answer) tries at
actor_agrees plan w Lock answer (SettingUp setup tries) tool is other at = subst (AgreesIn w) (sym is) at
actor_agrees plan w Copy answer (SettingUp setup tries) tool is other at = subst (AgreesIn w) (sym is) at
actor_agrees plan w Apply answer (SettingUp setup tries) tool is other at = subst (AgreesIn w) (sym is) at
actor_agrees plan w Op answer (SettingUp setup tries) tool is other at = subst (AgreesIn w) (sym is) at
actor_agrees plan w (Client client) answer (SettingUp setup tries) tool is other at = subst (AgreesIn w) (sym is) at

drains_agree : (plan : PlanData) (w : Bool) (tool_phase : ToolPhase) (tool : Tool) → tool.tool_phase ≡ tool_phase → AgreesIn w tool_phase → AgreesIn w (drains plan tool_phase tool).tool_phase
unfolding applier_turn
drains_agree plan w (SettingUp setup tries) tool is at = subst (AgreesIn w) (sym is) at
drains_agree plan w (Migrating work) tool is at =
    attempt_keeps (AgreesIn w) (stops w) plan (is_failure work.cutover.phase (applier_turn work.applier.hint work.cutover).phase) work (applier_turn work.applier.hint work.cutover) tool (λ tries. at)

counts_agree : (plan : PlanData) (w : Bool) (actor : Actor) (tool : Tool) → AgreesIn w tool.tool_phase → AgreesIn w (turn_counts plan actor tool).tool_phase
counts_agree plan w Apply tool at = drains_agree plan w tool.tool_phase tool refl at
counts_agree plan w Op tool at = at
counts_agree plan w Insp tool at = at
counts_agree plan w Copy tool at = at
counts_agree plan w Lock tool at = at
counts_agree plan w Ren tool at = at
counts_agree plan w (Client client) tool at = at

resized : (w : Bool) (size : ℕ) (tool_phase : ToolPhase) → AgreesIn w tool_phase → AgreesIn w (resizes (ChunkSize size) tool_phase)
resized w size (SettingUp setup tries) at = at
resized w size (Migrating work) at = at

command_agrees : (w : Bool) (word : OperatorWord) (tool : Tool) → AgreesIn w tool.tool_phase → AgreesIn w (command_took word tool).tool_phase
command_agrees w Panic tool at = reverts_keeps (AgreesIn w) (stops w) (Panicked tool.turns) (record tool { operator = commanded Panic tool.operator; tool_phase = tool.tool_phase }) at
command_agrees w (ChunkSize size) tool at = resized w size tool.tool_phase at
command_agrees w Throttle tool at = at
command_agrees w NoThrottle tool at = at
command_agrees w Unpostpone tool at = at
command_agrees w Wait tool at = at

-- a turn of another actor
others_agree : (plan : PlanData) (w : Bool) (before : State) (entry : Entry) (asked : Asked) (tool : Tool) → same_actor entry.actor Ren ≡ false → AgreesIn w tool.tool_phase → AgreesIn w (asked_took plan before entry asked tool).tool_phase
others_agree plan w before entry (Command word) tool other at = command_agrees w word tool at
others_agree plan w before entry (Call request) tool other at = counts_agree plan w entry.actor (actor_took plan entry.actor entry.answer tool.tool_phase tool) (actor_agrees plan w entry.actor entry.answer tool.tool_phase tool refl other at)
others_agree plan w before entry Poll tool other at = counts_agree plan w entry.actor (actor_took plan entry.actor entry.answer tool.tool_phase tool) (actor_agrees plan w entry.actor entry.answer tool.tool_phase tool refl other at)
others_agree plan w before entry Cut tool other at = by (has_work before entry.session)
  where
    by : (b : Bool) → AgreesIn w (cond b (actor_took plan entry.actor answers.Lost tool.tool_phase tool) tool).tool_phase
    by true = actor_agrees plan w entry.actor answers.Lost tool.tool_phase tool refl other at
    by false = at

-- the renamer's own
ren_answers : (plan : PlanData) (w : Bool) (answer : Answer) (tool_phase : ToolPhase) (tool : Tool) → tool.tool_phase ≡ tool_phase → ((setup : Setup) (tries : List ℕ) → tool_phase ≡ SettingUp setup tries → ⊥) → (w ≡ true → is_wait answer ≡ true) → AgreesIn w (actor_took plan Ren answer tool_phase tool).tool_phase
unfolding took
ren_answers plan w answer (Migrating work) tool is late statement_result = attempt_keeps (AgreesIn w) (stops w) plan (is_failure work.cutover.phase (took Renamer work.cutover answer).phase) work (took Renamer work.cutover answer) tool (λ tries. statement_result)
ren_answers plan w answer (SettingUp setup tries) tool is late statement_result = absurd (late setup tries refl)

nothing_asks : (w : Bool) (tool_phase : ToolPhase) → w ≡ false → AgreesIn w tool_phase
nothing_asks w (SettingUp setup tries) is = is
nothing_asks w (Migrating work) is = λ so. absurd (both_ways w is so)

is_ren : (actor : Actor) → same_actor actor Ren ≡ true → actor ≡ Ren
is_ren Ren e = refl
is_ren Op e = absurd cc
is_ren Insp e = absurd cc
is_ren Copy e = absurd cc
is_ren Apply e = absurd cc
is_ren Lock e = absurd cc
is_ren (Client client) e = absurd cc

-- while the setup goes on the renamer is asked nothing
late : (plan : PlanData) (journal : List Entry) (setup : Setup) (tries : List ℕ) (asked : Asked) → (moment plan journal).tool.tool_phase ≡ SettingUp setup tries → renamer_at plan journal ≡ false → is_cut asked ≡ false → given plan journal Ren ≡ Some asked → ⊥
unfolding given
late plan journal setup tries (Call request) is quiet cut e =
    none (ap (λ tool_phase. tool_call plan now.server journal now.tool tool_phase Ren) (sym is) ∙ asks_call (waits now.server (live_session journal Ren)) (tool_call plan now.server journal now.tool now.tool.tool_phase Ren) request e)
  where
    now : Moment
    now = moment plan journal

    none : None ≡ Some request → ⊥
    none e = cc
late plan journal setup tries Poll is quiet cut e =
    both_ways (renamer_at plan journal) quiet (asks_poll (waits (moment plan journal).server (live_session journal Ren)) (tool_call plan (moment plan journal).server journal (moment plan journal).tool (moment plan journal).tool.tool_phase Ren) e)
late plan journal setup tries Cut is quiet cut e = absurd cc
late plan journal setup tries (Command word) is quiet cut e = never (waits (moment plan journal).server (live_session journal Ren)) (tool_call plan (moment plan journal).server journal (moment plan journal).tool (moment plan journal).tool.tool_phase Ren) e
  where
    never : (b : Bool) (option : Option Request) → cond b (Some Poll) (Rattle.tool_program.specs.Programs.calls option) ≡ Some (Command word) → ⊥
    never true option e = cc
    never false None e = cc
    never false (Some one) e = cc

never_commands : (b : Bool) (option : Option Request) (word : OperatorWord) → cond b (Some Poll) (Rattle.tool_program.specs.Programs.calls option) ≡ Some (Command word) → ⊥
never_commands true option word e = cc
never_commands false None word e = cc
never_commands false (Some one) word e = cc

ren_commands : (plan : PlanData) (journal : List Entry) (word : OperatorWord) → given plan journal Ren ≡ Some (Command word) → ⊥
unfolding given
ren_commands plan journal word e = never_commands (waits (moment plan journal).server (live_session journal Ren)) (tool_call plan (moment plan journal).server journal (moment plan journal).tool (moment plan journal).tool.tool_phase Ren) word e

-- a turn of the renamer that isn't a loss between calls
ren_turn : (plan : PlanData) (journal : List Entry) (entry : Entry) (asked : Asked) (w : Bool) → Agrees plan journal → is_cut asked ≡ false → given plan journal Ren ≡ Some asked → (w ≡ true → is_wait entry.answer ≡ true)
    → AgreesIn w (actor_took plan Ren entry.answer (moment plan journal).tool.tool_phase (record (moment plan journal).tool { turns = (moment plan journal).tool.turns + 1 })).tool_phase
ren_turn plan journal entry asked w agrees cut is_given statement_result =
    ren_answers plan w entry.answer (moment plan journal).tool.tool_phase (record (moment plan journal).tool { turns = (moment plan journal).tool.turns + 1 }) refl
    (λ setup tries is. late plan journal setup tries asked is (subst (AgreesIn (renamer_at plan journal)) is agrees.tool_phase) cut is_given) statement_result

ren_step : (plan : PlanData) (journal : List Entry) (entry : Entry) (asked : Asked) (w : Bool) → entry.actor ≡ Ren → Agrees plan journal → IsGiven plan journal entry asked → (w ≡ true → (is_wait entry.answer ≡ true) × (is_cut asked ≡ false))
    → AgreesIn w (asked_took plan (moment plan journal).server entry asked (record (moment plan journal).tool { turns = (moment plan journal).tool.turns + 1 })).tool_phase
ren_step plan journal entry (Call request) w is agrees is_given statement_result =
    subst (λ actor. AgreesIn w (turn_counts plan actor (actor_took plan actor entry.answer (moment plan journal).tool.tool_phase (record (moment plan journal).tool { turns = (moment plan journal).tool.turns + 1 }))).tool_phase) (sym is)
    (ren_turn plan journal entry (Call request) w agrees refl (ap (given plan journal) (sym is) ∙ is_given) (λ so. (statement_result so).0))
ren_step plan journal entry Poll w is agrees is_given statement_result =
    subst (λ actor. AgreesIn w (turn_counts plan actor (actor_took plan actor entry.answer (moment plan journal).tool.tool_phase (record (moment plan journal).tool { turns = (moment plan journal).tool.turns + 1 }))).tool_phase) (sym is)
    (ren_turn plan journal entry Poll w agrees refl (ap (given plan journal) (sym is) ∙ is_given) (λ so. (statement_result so).0))
ren_step plan journal entry (Command word) w is agrees is_given statement_result = absurd (ren_commands plan journal word (ap (given plan journal) (sym is) ∙ is_given))
ren_step plan journal entry Cut w is agrees is_given statement_result =
    nothing_asks w (asked_took plan (moment plan journal).server entry Cut (record (moment plan journal).tool { turns = (moment plan journal).tool.turns + 1 })).tool_phase (by w statement_result)
  where
    by : (w : Bool) → (w ≡ true → (is_wait entry.answer ≡ true) × (is_cut Cut ≡ false)) → w ≡ false
    by true statement_result = absurd (never ((statement_result refl).1))
      where
        never : true ≡ false → ⊥
        never e = cc
    by false statement_result = refl

step : (plan : PlanData) (journal : List Entry) (entry : Entry) → IsFollowed plan journal entry → WaitsSay plan journal entry → Agrees plan journal → Agrees plan (journal ++ entry ∷ [])
unfolding tools.took
step plan journal entry follows say agrees = record { tool_phase = subst (λ m. AgreesIn w m.tool.tool_phase) (sym (moment_more plan journal entry)) (by (same_actor entry.actor Ren) refl) }
  where
    w : Bool
    w = renamer_at plan (journal ++ entry ∷ [])

    by : (b : Bool) → same_actor entry.actor Ren ≡ b → AgreesIn w (after_turn plan (moment plan journal) entry).tool.tool_phase
    by true is = ren_step plan journal entry entry.asked w (is_ren entry.actor is) agrees follows.given (say.own is)
    by false is = subst (λ b. AgreesIn b (after_turn plan (moment plan journal) entry).tool.tool_phase) (sym (say.others is))
        (others_agree plan (renamer_at plan journal) (moment plan journal).server entry entry.asked (record (moment plan journal).tool { turns = (moment plan journal).tool.turns + 1 }) is agrees.tool_phase)

starts_agreed : (plan : PlanData) → Agrees plan []
unfolding moment live_session
starts_agreed plan = record { tool_phase = refl }

abbrev pub Both : PlanData → List Entry → Entry → Type 0
Both plan before one = IsTurned plan before one × IsFollowed plan before one × WaitsSay plan before one

turned_only : (plan : PlanData) (before entries : List Entry) → Along (Both plan) before entries → Along (IsTurned plan) before entries
turned_only plan before [] along = tt
turned_only plan before (entry ∷ entries) along = (along.0.0, turned_only plan (before ++ entry ∷ []) entries along.1)

pub all_agree : (plan : PlanData) (journal : List Entry) → Along (Both plan) [] journal → Agrees plan journal
all_agree plan journal along = Along-keeps (Both plan) (Agrees plan) (λ all entry both at. step plan all entry both.1 both.2 at) [] journal along (starts_agreed plan)

-- *The statement*
pub renames_follow : RenamesFollow
renames_follow plan journal entry work along follows ren cut is renamed =
    subst (WholeIn plan (moment plan journal).server entry.session) is
    (renames_are_whole plan journal entry.session (turned_only plan [] journal along) (subst MayRename (sym is) (by entry.asked cut follows.given)) renamed)
  where
    fits : Fits work.cutover.phase work.cutover.hold work.cutover.renamer_waits
    fits = (subst (ToolPhaseHolds plan (moment plan journal).server (last_session journal Lock) (last_session journal Ren)) is (all_guarded plan journal (turned_only plan [] journal along)).tool_phase).fits

    agrees : renamer_at plan journal ≡ true → work.cutover.renamer_waits ≡ true
    agrees = subst (AgreesIn (renamer_at plan journal)) is (all_agree plan journal along).tool_phase

    by : (asked : Asked) → is_cut asked ≡ false → IsGiven plan journal entry asked → MayAnswer work.cutover.phase work.cutover.renamer_waits
    by (Call request) cut is_given = renamer_called plan journal work request is (ap (given plan journal) (sym ren) ∙ is_given)
    by Poll cut is_given = renamer_polled plan journal work (ap (given plan journal) (sym ren) ∙ is_given) fits agrees
    by (Command word) cut is_given = absurd (ren_commands plan journal word (ap (given plan journal) (sym ren) ∙ is_given))
    by Cut cut is_given = absurd cc
