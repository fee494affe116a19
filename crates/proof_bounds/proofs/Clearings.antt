-- Losses and what is cleared up: each loss takes itself, one call more without a session, and three turns after the RENAME at
-- most; besides there are two rollbacks, three turns after the RENAME, and the rows of notes.
use Rattle.std.proofs.Common.{◌≡◌, ◌≤◌, ◌<◌, ℕ, zero, suc, ◌+◌, ◌*◌, Bool, true, false, cond, not, ◌&&◌, ◌||◌, List, [], ◌∷◌, ◌++◌, Option, Some, None, refl, sym, ap, ◌∙◌, subst, arith}
use Rattle.std.specs.Prelude.{is_some, nat_lt}
use Rattle.std.proofs.lemmas.Bool.{true≢false, false≢true, or_parts}
use Rattle.std.proofs.lemmas.Bool.Decides.{nat_tests}
use Rattle.std.proofs.lemmas.List.Sums.{sum_by_push}
use Rattle.base_script.specs.declared.actor.Actor.{Actor}
use Rattle.base_script.specs.declared.actor.Actor.TheVariants.{Op, Insp, Copy, Apply, Lock, Ren, Client}
use Rattle.base_script.specs.declared.actor.Side.{Side}
use Rattle.base_script.specs.declared.operator.OperatorWord.{OperatorWord}
use Rattle.base_script.specs.declared.operator.OperatorWord.TheVariants.{Throttle, NoThrottle, ChunkSize, Unpostpone, Panic, Wait}
use Rattle.server_model.specs.Along.{Along-both, Along-keeps}
use Rattle.server_model.specs.declared.answer.Answer.{Answer}
use Rattle.server_model.specs.declared.answer.Answer.TheVariants as answers
use Rattle.server_model.specs.declared.entry.Asked.{Asked}
use Rattle.server_model.specs.declared.entry.Asked.TheVariants.{Call, Poll, Command, Cut}
use Rattle.server_model.specs.declared.entry.Entry.{Entry}
use Rattle.server_model.specs.declared.request.Request.{Request}
use Rattle.server_model.specs.declared.request.Request.TheVariants as requests
use Rattle.server_model.specs.Entries.{same_actor, is_command, is_cut}
use Rattle.server_model.specs.States.{State, has_work}
use Rattle.plan_data.specs.PlanData.{PlanData}
use Rattle.tool_program.specs.JournalWords.Sessions.{live_session, session_left}
use Rattle.tool_program.specs.declared.cutover_core.cutover.Clearing.{Clearing}
use Rattle.tool_program.specs.declared.cutover_core.cutover.Clearing.TheVariants.{Looking, Drops}
use Rattle.tool_program.specs.declared.cutover_core.cutover.CutOver.{CutOver}
use Rattle.tool_program.specs.declared.cutover_core.cutover.Phase.{Phase}
use Rattle.tool_program.specs.declared.cutover_core.cutover.Phase.TheVariants.{Resting, Attempting, Ending, Finishing, Finished}
use Rattle.tool_program.specs.declared.cutover_core.cutover.Stage.TheVariants.{Guarding, Locking, Hinting, ReadingCounter, SettingCounter, Draining, Drained, Showing, Dropping, Unlocking, Exchanging}
use Rattle.tool_program.specs.declared.cutover_core.cutover.Role.{Role}
use Rattle.tool_program.specs.declared.cutover_core.cutover.Role.TheVariants.{Inspector, Locker, Renamer}
use Rattle.tool_program.specs.ChunkCopier.Copiers as copiers
use Rattle.tool_program.specs.EventApplier.Appliers as appliers
use Rattle.tool_program.specs.CutoverCore.CutOvers as cutovers
use Rattle.tool_program.specs.CutoverCore.CutOvers.{is_done}
use Rattle.tool_program.specs.Operators.{commanded}
use Rattle.tool_program.specs.Programs.{given, IsGiven, Follows}
use Rattle.tool_program.specs.Tools.{ToolPhase, SettingUp, Migrating, Panicked, Tool, Moment, Work, is_reverting, is_failure, stopped, resizes, actor_took, copy_took, apply_took, cutover_took, turn_counts, drains, command_took, asked_took, took, moment}
use Rattle.proof_journals.specs.Machine.Scripts.{ScriptsFit}
use Rattle.proof_journals.specs.Machine.Standings.{gives, serves_to}
use Rattle.proof_journals.proofs.Actors.{same_actor_is, live_more}
use Rattle.proof_journals.proofs.Machine.Journals.{IsRun, never_commands, all_runs}
use Rattle.proof_journals.proofs.Machine.Lifting.{reverts_keeps, attempt_keeps, copy_keeps, apply_keeps, drains_keeps}
use Rattle.proof_journals.proofs.Machine.Seated.{IsServed, own_heard}
use Rattle.proof_journals.proofs.Sentry.Inductions.{moment_more}
use Rattle.proof_bounds.specs.Clearings.{phase_left, finish_left, ClearingGoes, ClearingTurnsAreFew}
use Rattle.proof_bounds.specs.Laws.{MayWait, is_struck, struck_turns, back_turns}
use Rattle.proof_bounds.specs.Notes.{is_note, note_turns}
use Rattle.proof_bounds.specs.Parts.{Part, OfClearing, OfChunks, OfBatches, OfAttempts, rolls_back, work_part, is_again, ending_part, phase_part, inspector_part, part_by, part_of, same_part, turns_of_part}
use Rattle.tool_program.specs.JournalWords.Bounds.{measures}
use Rattle.proof_bounds.specs.Terms.{term_of}
use Rattle.proof_bounds.proofs.Counting.{count_yes, count_no, count_none}
use Rattle.proof_bounds.proofs.Losses.{losses_strike}
use Rattle.proof_bounds.proofs.Notes.{notes_few}
use Rattle.proof_bounds.proofs.Rollbacks.{rollbacks_few}
use Rattle.proof_bounds.proofs.Waits.{IsCounted, counted_more, counted_begins, about}

-- WHAT IS LEFT BEHIND THE RENAME

three_if : (a b c : Bool) → cond a 1 0 + cond b 1 0 + cond c 1 0 ≤ 3
three_if true true true = omega arith
three_if true true false = omega arith
three_if true false true = omega arith
three_if true false false = omega arith
three_if false true true = omega arith
three_if false true false = omega arith
three_if false false true = omega arith
three_if false false false = omega arith

phase_three : (phase : Phase) → phase_left phase ≤ 3
phase_three Resting = omega arith
phase_three (Attempting stage) = omega arith
phase_three (Ending clearing) = omega arith
phase_three (Finishing Looking) = omega arith
phase_three (Finishing (Drops left)) = three_if left.log left.new_table left.old
phase_three Finished = omega arith

tool_phase_three : (tool_phase : ToolPhase) → finish_left tool_phase ≤ 3
tool_phase_three (SettingUp setup tries) = omega arith
tool_phase_three (Migrating work) = phase_three work.cutover.phase

abbrev AtMost : ℕ → Bool → ToolPhase → Type 0
AtMost most reverting tool_phase = finish_left tool_phase ≤ most

abbrev Most : ℕ → Tool → Type 0
Most most tool = finish_left tool.tool_phase ≤ most

ended_same : (phase : Phase) → phase_left (cutovers.ended phase) ≡ phase_left phase
ended_same Resting = refl
ended_same (Attempting Guarding) = refl
ended_same (Attempting Locking) = refl
ended_same (Attempting Hinting) = refl
ended_same (Attempting (ReadingCounter drain)) = refl
ended_same (Attempting (SettingCounter number drain)) = refl
ended_same (Attempting (Draining turns)) = refl
ended_same (Attempting Drained) = refl
ended_same (Attempting Showing) = refl
ended_same (Attempting Dropping) = refl
ended_same (Attempting Unlocking) = refl
ended_same (Attempting Exchanging) = refl
ended_same (Ending clearing) = refl
ended_same (Finishing clearing) = refl
ended_same Finished = refl

stopped_most : (most : ℕ) (b : Bool) (tool_phase : ToolPhase) → AtMost most b tool_phase → AtMost most true (stopped tool_phase)
unfolding cutovers.reverted
stopped_most most b (SettingUp setup tries) is = is
stopped_most most b (Migrating work) is = subst (λ (n : ℕ). n ≤ most) (sym (ended_same work.cutover.phase)) is

unless_most : (most : ℕ) (b : Bool) (tool other : Tool) → Most most tool → Most most other → Most most (cond b tool other)
unless_most most true tool other is more = is
unless_most most false tool other is more = more

-- the cut-over after an answer
cut_most : (plan : PlanData) (most : ℕ) (role : Role) (answer : Answer) (work : Work) (tool : Tool) → phase_left (cutovers.took role work.cutover answer).phase ≤ most → Most most (cutover_took plan role answer work tool)
cut_most plan most role answer work tool is =
    attempt_keeps (AtMost most) (stopped_most most) plan (is_failure work.cutover.phase (cutovers.took role work.cutover answer).phase) work (cutovers.took role work.cutover answer) tool (λ tries. is)

-- the locker's leaves as much
locker_same : (phase : Phase) (answer : Answer) → phase_left (cutovers.locker_phase phase answer) ≤ phase_left phase
locker_same Resting answer = phase_three (cutovers.begun answer)
locker_same (Attempting stage) answer = phase_three (cutovers.locker_phase (Attempting stage) answer)
locker_same (Ending clearing) answer = omega arith
locker_same (Finishing clearing) answer = omega arith
locker_same Finished answer = omega arith

drained_same : (cutover : CutOver) (hint : ℕ) (phase : Phase) → phase_left (cutovers.drained cutover hint phase) ≤ phase_left phase
drained_same cutover hint (Attempting stage) = phase_three (cutovers.drained cutover hint (Attempting stage))
drained_same cutover hint Resting = omega arith
drained_same cutover hint (Ending clearing) = omega arith
drained_same cutover hint (Finishing clearing) = omega arith
drained_same cutover hint Finished = omega arith

not_done_three : (phase : Phase) → is_done phase ≡ false → phase_left phase ≡ 3
not_done_three Resting is = refl
not_done_three (Attempting stage) is = refl
not_done_three (Ending clearing) is = refl
not_done_three (Finishing clearing) is = absurd (true≢false is)
not_done_three Finished is = absurd (true≢false is)

copy_most : (plan : PlanData) (most : ℕ) (answer : Answer) (work : Work) (tool : Tool) → Most most tool → phase_left work.cutover.phase ≤ most → Most most (copy_took plan answer work tool)
copy_most plan most answer work tool is left = copy_keeps (AtMost most) (stopped_most most) plan work (copiers.progress work.copier answer) (copiers.took tool.turns work.copier answer) tool (λ place number same. is) (λ tries. left)

apply_most : (plan : PlanData) (most : ℕ) (answer : Answer) (work : Work) (tool : Tool) → Most most tool → phase_left work.cutover.phase ≤ most → Most most (apply_took plan answer work tool)
apply_most plan most answer work tool is left = apply_keeps (AtMost most) (stopped_most most) plan work (appliers.progress work.applier answer) (appliers.took tool.turns work.applier answer) tool (λ place number same. is) (λ tries. left)

counts_most : (plan : PlanData) (most : ℕ) (actor : Actor) (tool : Tool) → Most most tool → Most most (turn_counts plan actor tool)
unfolding cutovers.applier_turn
counts_most plan most Apply tool is =
    drains_keeps (AtMost most) (stopped_most most) plan tool.tool_phase tool refl (λ b work tries is. let less = drained_same work.cutover work.applier.hint work.cutover.phase in omega (arith, less, is)) is
counts_most plan most Op tool is = is
counts_most plan most Insp tool is = is
counts_most plan most Copy tool is = is
counts_most plan most Lock tool is = is
counts_most plan most Ren tool is = is
counts_most plan most (Client c) tool is = is

command_most : (most : ℕ) (word : OperatorWord) (tool : Tool) → Most most tool → Most most (command_took word tool)
command_most most Panic tool is = reverts_keeps (AtMost most) (stopped_most most) (Panicked tool.turns) (record tool { operator = commanded Panic tool.operator; tool_phase = resizes Panic tool.tool_phase }) is
command_most most Throttle tool is = is
command_most most NoThrottle tool is = is
command_most most Unpostpone tool is = is
command_most most Wait tool is = is
command_most most (ChunkSize size) tool is = by tool.tool_phase is where
  by : (tool_phase : ToolPhase) → finish_left tool_phase ≤ most → finish_left (resizes (ChunkSize size) tool_phase) ≤ most
  by (SettingUp setup tries) is = is
  by (Migrating work) is = is

-- an actor's answer: after the setup the inspector's and the renamer's are looked at apart
actor_most : (plan : PlanData) (most : ℕ) (actor : Actor) (answer : Answer) (tool_phase : ToolPhase) (tool : Tool) → tool.tool_phase ≡ tool_phase → Most most tool → ((work : Work) → actor ≡ Insp → tool_phase ≡ Migrating work → phase_left (cutovers.took Inspector work.cutover answer).phase ≤ most)
    → ((work : Work) → actor ≡ Ren → tool_phase ≡ Migrating work → phase_left (cutovers.took Renamer work.cutover answer).phase ≤ most) → Most most (actor_took plan actor answer tool_phase tool)
unfolding cutovers.took
actor_most plan most Insp answer (SettingUp setup tries) tool at is looks renames =
    let least : finish_left (SettingUp setup tries) ≤ most = subst (λ (c : ToolPhase). finish_left c ≤ most) at is in
    let three = tool_phase_three (actor_took plan Insp answer (SettingUp setup tries) tool).tool_phase in
    omega (arith, least, three)
actor_most plan most Insp answer (Migrating work) tool at is looks renames = cut_most plan most Inspector answer work tool (looks work refl refl)
actor_most plan most Copy answer (SettingUp setup tries) tool at is looks renames = is
actor_most plan most Copy answer (Migrating work) tool at is looks renames = unless_most most (is_reverting tool.reason) tool (copy_took plan answer work tool) is (copy_most plan most answer work tool is (subst (λ (c : ToolPhase). finish_left c ≤ most) at is))
actor_most plan most Apply answer (SettingUp setup tries) tool at is looks renames = is
actor_most plan most Apply answer (Migrating work) tool at is looks renames = unless_most most (is_reverting tool.reason) tool (apply_took plan answer work tool) is (apply_most plan most answer work tool is (subst (λ (c : ToolPhase). finish_left c ≤ most) at is))
actor_most plan most Lock answer (SettingUp setup tries) tool at is looks renames = is
actor_most plan most Lock answer (Migrating work) tool at is looks renames =
    cut_most plan most Locker answer work tool (let less = locker_same work.cutover.phase answer in let here : phase_left work.cutover.phase ≤ most = subst (λ (c : ToolPhase). finish_left c ≤ most) at is in omega (arith, less, here))
actor_most plan most Ren answer (SettingUp setup tries) tool at is looks renames = is
actor_most plan most Ren answer (Migrating work) tool at is looks renames = cut_most plan most Renamer answer work tool (renames work refl refl)
actor_most plan most Op answer tool_phase tool at is looks renames = is
actor_most plan most (Client c) answer tool_phase tool at is looks renames = is

-- THE SETUP IS OVER

abbrev is_migrating : ToolPhase → Bool
is_migrating (SettingUp setup tries) = false
is_migrating (Migrating work) = true

abbrev NotYet : Bool → ToolPhase → Type 0
NotYet reverting tool_phase = is_migrating tool_phase ≡ false

stopped_not : (b : Bool) (tool_phase : ToolPhase) → NotYet b tool_phase → NotYet true (stopped tool_phase)
stopped_not b (SettingUp setup tries) is = refl
stopped_not b (Migrating work) is = absurd (true≢false is)

-- only the inspector's turn ends the setup
actor_not : (plan : PlanData) (actor : Actor) (answer : Answer) (tool_phase : ToolPhase) (tool : Tool) → tool.tool_phase ≡ tool_phase → is_migrating tool_phase ≡ false → (actor ≡ Insp → ⊥) → is_migrating (actor_took plan actor answer tool_phase tool).tool_phase ≡ false
actor_not plan Insp answer tool_phase tool at is other = absurd (other refl)
actor_not plan Op answer tool_phase tool at is other = ap is_migrating at ∙ is
actor_not plan (Client c) answer tool_phase tool at is other = ap is_migrating at ∙ is
actor_not plan Copy answer (SettingUp setup tries) tool at is other = ap is_migrating at
actor_not plan Apply answer (SettingUp setup tries) tool at is other = ap is_migrating at
actor_not plan Lock answer (SettingUp setup tries) tool at is other = ap is_migrating at
actor_not plan Ren answer (SettingUp setup tries) tool at is other = ap is_migrating at
actor_not plan Copy answer (Migrating work) tool at is other = absurd (true≢false is)
actor_not plan Apply answer (Migrating work) tool at is other = absurd (true≢false is)
actor_not plan Lock answer (Migrating work) tool at is other = absurd (true≢false is)
actor_not plan Ren answer (Migrating work) tool at is other = absurd (true≢false is)

drains_not : (plan : PlanData) (tool_phase : ToolPhase) (tool : Tool) → tool.tool_phase ≡ tool_phase → is_migrating tool_phase ≡ false → is_migrating (drains plan tool_phase tool).tool_phase ≡ false
drains_not plan (SettingUp setup tries) tool at is = ap is_migrating at
drains_not plan (Migrating work) tool at is = absurd (true≢false is)

counts_not : (plan : PlanData) (actor : Actor) (tool : Tool) → is_migrating tool.tool_phase ≡ false → is_migrating (turn_counts plan actor tool).tool_phase ≡ false
counts_not plan Apply tool is = drains_not plan tool.tool_phase tool refl is
counts_not plan Op tool is = is
counts_not plan Insp tool is = is
counts_not plan Copy tool is = is
counts_not plan Lock tool is = is
counts_not plan Ren tool is = is
counts_not plan (Client c) tool is = is

command_not : (word : OperatorWord) (tool : Tool) → is_migrating tool.tool_phase ≡ false → is_migrating (command_took word tool).tool_phase ≡ false
command_not Panic tool is = reverts_keeps NotYet stopped_not (Panicked tool.turns) (record tool { operator = commanded Panic tool.operator; tool_phase = resizes Panic tool.tool_phase }) is
command_not Throttle tool is = is
command_not NoThrottle tool is = is
command_not Unpostpone tool is = is
command_not Wait tool is = is
command_not (ChunkSize size) tool is = by tool.tool_phase is where
  by : (tool_phase : ToolPhase) → is_migrating tool_phase ≡ false → is_migrating (resizes (ChunkSize size) tool_phase) ≡ false
  by (SettingUp setup tries) is = refl
  by (Migrating work) is = absurd (true≢false is)

asked_not : (plan : PlanData) (state : State) (entry : Entry) (asked : Asked) (tool : Tool) → is_migrating tool.tool_phase ≡ false → (entry.actor ≡ Insp → ⊥) → is_migrating (asked_took plan state entry asked tool).tool_phase ≡ false
asked_not plan state entry (Command word) tool is other = command_not word tool is
asked_not plan state entry Cut tool is other = by (has_work state entry.session) where
  by : (b : Bool) → is_migrating (cond b (actor_took plan entry.actor answers.Lost tool.tool_phase tool) tool).tool_phase ≡ false
  by true = actor_not plan entry.actor answers.Lost tool.tool_phase tool refl is other
  by false = is
asked_not plan state entry (Call request) tool is other = counts_not plan entry.actor (actor_took plan entry.actor entry.answer tool.tool_phase tool) (actor_not plan entry.actor entry.answer tool.tool_phase tool refl is other)
asked_not plan state entry Poll tool is other = counts_not plan entry.actor (actor_took plan entry.actor entry.answer tool.tool_phase tool) (actor_not plan entry.actor entry.answer tool.tool_phase tool refl is other)

-- AN ANSWER THAT IS HEARD LEAVES THE SESSION

gives_lost : (request : Request) → gives request answers.Lost ≡ false
gives_lost requests.Begin = refl
gives_lost requests.Commit = refl
gives_lost requests.Rollback = refl
gives_lost (requests.Do statement) = refl
gives_lost (requests.Ends table) = refl
gives_lost (requests.ChunkEnd table low top size) = refl
gives_lost (requests.BeginSpan table span size) = refl
gives_lost (requests.CopyRow from into map key) = refl
gives_lost (requests.LockTables names) = refl
gives_lost requests.Unlock = refl
gives_lost (requests.Create schema) = refl
gives_lost (requests.Drop name) = refl
gives_lost (requests.Rename pairs) = refl
gives_lost requests.LogEnd = refl
gives_lost (requests.ReadLog position limit tables) = refl
gives_lost requests.ShowTables = refl
gives_lost requests.ShowWaiting = refl
gives_lost (requests.ShowCounter table) = refl
gives_lost (requests.SetCounter table least) = refl

left_some : (asked : Asked) (answer : Answer) (session : ℕ) → is_command asked ≡ false → (answer ≡ answers.Lost → ⊥) → is_some (session_left asked answer session) ≡ true
left_some (Command word) answer session called heard = absurd (true≢false called)
left_some (Call request) answers.Lost session called heard = absurd (heard refl)
left_some Poll answers.Lost session called heard = absurd (heard refl)
left_some Cut answers.Lost session called heard = absurd (heard refl)
left_some (Call request) answer session called heard = refl
left_some Poll answer session called heard = refl
left_some Cut answer session called heard = refl

-- WHOSE TURN IT IS

-- a turn of this part that isn't a loss between calls
pub data ClearingTurn (tool_phase : ToolPhase) (live : Option ℕ) (side : Option Side) (actor : Actor) (asked : Asked) : Type 0 where
  back_copies : actor ≡ Copy → rolls_back asked ≡ true → ClearingTurn tool_phase live side actor asked
  back_applies : actor ≡ Apply → rolls_back asked ≡ true → ClearingTurn tool_phase live side actor asked
  again : (work : Work) (clearing : Clearing) → tool_phase ≡ Migrating work → work.cutover.phase ≡ Ending clearing → actor ≡ Insp → is_again live side ≡ true → ClearingTurn tool_phase live side actor asked
  finishes : (work : Work) → tool_phase ≡ Migrating work → is_done work.cutover.phase ≡ true → actor ≡ Insp → ClearingTurn tool_phase live side actor asked
  rests_so : (work : Work) → tool_phase ≡ Migrating work → work.cutover.phase ≡ Resting → actor ≡ Insp → ClearingTurn tool_phase live side actor asked

work_backs : (part : Part) → same_part OfClearing part ≡ false → (asked : Asked) → same_part OfClearing (work_part part asked) ≡ true → rolls_back asked ≡ true
work_backs part other asked is = by (rolls_back asked) is where
  by : (b : Bool) → same_part OfClearing (cond b OfClearing part) ≡ true → b ≡ true
  by true is = refl
  by false is = absurd (false≢true (sym other ∙ is))

again_if : (b : Bool) → same_part OfClearing (cond b OfClearing OfAttempts) ≡ true → b ≡ true
again_if true is = refl
again_if false is = absurd (false≢true is)

again_ending : (live : Option ℕ) (side : Option Side) (asked : Asked) → same_part OfClearing (ending_part live side asked) ≡ true → is_again live side ≡ true
again_ending live side Poll is = absurd (false≢true is)
again_ending live side (Call request) is = again_if (is_again live side) is
again_ending live side (Command word) is = again_if (is_again live side) is
again_ending live side Cut is = again_if (is_again live side) is

inspector_clears : (live : Option ℕ) (side : Option Side) (asked : Asked) (tool_phase : ToolPhase) → same_part OfClearing (inspector_part live side asked tool_phase) ≡ true → ClearingTurn tool_phase live side Insp asked
inspector_clears live side asked (SettingUp setup tries) is = absurd (false≢true is)
inspector_clears live side asked (Migrating work) is = by work.cutover.phase refl is where
  by : (phase : Phase) → work.cutover.phase ≡ phase → same_part OfClearing (phase_part live side asked phase) ≡ true → ClearingTurn (Migrating work) live side Insp asked
  by Resting at is = rests_so work refl at refl
  by (Attempting stage) at is = absurd (false≢true is)
  by (Ending clearing) at is = again work clearing refl at refl (again_ending live side asked is)
  by (Finishing clearing) at is = finishes work refl (ap is_done at) refl
  by Finished at is = finishes work refl (ap is_done at) refl

clearing_turn : (tool_phase : ToolPhase) (live : Option ℕ) (side : Option Side) (actor : Actor) (asked : Asked) → is_cut asked ≡ false → same_part OfClearing (part_by tool_phase live side actor asked) ≡ true → ClearingTurn tool_phase live side actor asked
clearing_turn tool_phase live side actor (Command word) uncut is = absurd (false≢true is)
clearing_turn tool_phase live side actor Cut uncut is = absurd (true≢false uncut)
clearing_turn tool_phase live side Insp (Call request) uncut is = inspector_clears live side (Call request) tool_phase is
clearing_turn tool_phase live side Op (Call request) uncut is = absurd (false≢true is)
clearing_turn tool_phase live side Copy (Call request) uncut is = back_copies refl (work_backs OfChunks refl (Call request) is)
clearing_turn tool_phase live side Apply (Call request) uncut is = back_applies refl (work_backs OfBatches refl (Call request) is)
clearing_turn tool_phase live side Lock (Call request) uncut is = absurd (false≢true is)
clearing_turn tool_phase live side Ren (Call request) uncut is = absurd (false≢true is)
clearing_turn tool_phase live side (Client c) (Call request) uncut is = absurd (false≢true is)
clearing_turn tool_phase live side Insp Poll uncut is = inspector_clears live side Poll tool_phase is
clearing_turn tool_phase live side Op Poll uncut is = absurd (false≢true is)
clearing_turn tool_phase live side Copy Poll uncut is = absurd (false≢true is)
clearing_turn tool_phase live side Apply Poll uncut is = absurd (false≢true is)
clearing_turn tool_phase live side Lock Poll uncut is = absurd (false≢true is)
clearing_turn tool_phase live side Ren Poll uncut is = absurd (false≢true is)
clearing_turn tool_phase live side (Client c) Poll uncut is = absurd (false≢true is)

-- THE JOURNAL

-- one call of the inspector's may come without a session, after a loss
abbrev spare_if : Bool → ℕ → ℕ
spare_if true struck = 0
spare_if false struck = cond (nat_lt 0 struck) 1 0

abbrev spare : List Entry → ℕ
spare journal = spare_if (is_some (live_session journal Insp)) (struck_turns journal)

abbrev left_at : PlanData → List Entry → ℕ
left_at plan journal = finish_left (moment plan journal).tool.tool_phase

record IsFew (plan : PlanData) (journal : List Entry) : Type 0 where
  counted : IsCounted plan journal
  seated : struck_turns journal ≡ 0 → is_migrating (moment plan journal).tool.tool_phase ≡ true → is_some (live_session journal Insp) ≡ true
  few : turns_of_part OfClearing plan journal + left_at plan journal + spare journal ≤ 3 + 5 * struck_turns journal + back_turns Copy journal + back_turns Apply journal + note_turns journal

spare_one : (b : Bool) (n : ℕ) → spare_if b n ≤ 1
spare_one true n = omega arith
spare_one false n = by (nat_lt 0 n) where
  by : (b : Bool) → cond b 1 0 ≤ 1
  by true = omega arith
  by false = omega arith

none_side : (side : Option Side) → is_some side ≡ false → side ≡ None
none_side None is = refl
none_side (Some side) is = absurd (true≢false is)

module _ (plan : PlanData) (may : MayWait plan) (before : List Entry) (entry : Entry) (run : IsRun plan before entry) (goes : ClearingGoes plan before entry) (is : IsFew plan before) where
  abbrev more : List Entry
  more = before ++ entry ∷ []

  abbrev tool_phase : ToolPhase
  tool_phase = (moment plan before).tool.tool_phase

  abbrev tool : Tool
  tool = record (moment plan before).tool { turns = (moment plan before).tool.turns + 1 }

  abbrev Small : Type 0
  Small = turns_of_part OfClearing plan more + left_at plan more + spare more ≤ 3 + 5 * struck_turns more + back_turns Copy more + back_turns Apply more + note_turns more

  served : IsServed plan before entry
  served = record { answered = run.answered; seated = record { session = run.followed.session } }

  struck_more : (b : Bool) → is_struck entry ≡ b → struck_turns more ≡ struck_turns before + cond b 1 0
  struck_more b at = sum_by_push (λ (one : Entry). cond (is_struck one) 1 0) before entry ∙ ap (λ (c : Bool). struck_turns before + cond c 1 0) at

  backs_more : (a : Actor) → back_turns a more ≡ back_turns a before + cond (same_actor entry.actor a && rolls_back entry.asked) 1 0
  backs_more a = sum_by_push (λ (one : Entry). cond (same_actor one.actor a && rolls_back one.asked) 1 0) before entry

  notes_more : (b : Bool) → is_note entry ≡ b → note_turns more ≡ note_turns before + cond b 1 0
  notes_more b at = sum_by_push (λ (one : Entry). cond (is_note one) 1 0) before entry ∙ ap (λ (c : Bool). note_turns before + cond c 1 0) at

  -- no row of a note is taken back
  notes_up : note_turns before ≤ note_turns more
  notes_up = by (is_note entry) refl where
    by : (b : Bool) → is_note entry ≡ b → note_turns before ≤ note_turns more
    by b at = let count = notes_more b at in omega (arith, count)

  three_left : left_at plan more ≤ 3
  three_left = tool_phase_three (moment plan more).tool.tool_phase

  clearing_one : turns_of_part OfClearing plan more ≤ turns_of_part OfClearing plan before + 1
  clearing_one = by (same_part OfClearing (part_of plan before entry)) refl where
    by : (b : Bool) → same_part OfClearing (part_of plan before entry) ≡ b → turns_of_part OfClearing plan more ≤ turns_of_part OfClearing plan before + 1
    by true own = let count = count_yes OfClearing plan before entry own in omega (arith, count)
    by false other = let count = count_no OfClearing plan before entry other in omega (arith, count)

  -- A LOSS

  struck_small : is_struck entry ≡ true → Small
  struck_small lost =
      let a = struck_more true lost in
      let b = backs_more Copy in
      let c = backs_more Apply in
      let d = three_left in
      let e = clearing_one in
      let f = spare_one (is_some (live_session more Insp)) (struck_turns more) in
      let g = is.few in
      let n = notes_up in
      omega (arith, a, b, c, d, e, f, g, n)

  -- NO LOSS

  module _ (whole : is_struck entry ≡ false) where
    uncut : is_cut entry.asked ≡ false
    uncut = (or_parts (is_cut entry.asked) (is_some entry.side) whole).0

    no_side : entry.side ≡ None
    no_side = none_side entry.side (or_parts (is_cut entry.asked) (is_some entry.side) whole).1

    same_struck : struck_turns more ≡ struck_turns before
    same_struck = struck_more false whole ∙ none (struck_turns before) where
      none : (n : ℕ) → n + 0 ≡ n
      none n = omega arith

    -- THE INSPECTOR'S TURN

    module _ (who : entry.actor ≡ Insp) where
      called : is_command entry.asked ≡ false
      unfolding given
      called = by entry.asked run.followed.given where
        by : (asked : Asked) → IsGiven plan before entry asked → is_command asked ≡ false
        by (Call request) gives = refl
        by Poll gives = refl
        by Cut gives = refl
        by (Command word) gives = absurd (never_commands plan before Insp word (subst (λ (a : Actor). given plan before a ≡ Some (Command word)) who gives))

      heard : entry.answer ≡ answers.Lost → ⊥
      heard lost =
          let one = about plan may before entry is.counted.together is.counted.clients is.counted.both.living run is.counted.few called uncut in
          true≢false (sym (own_heard plan before entry is.counted.together.known served one.request one.is no_side) ∙ ap (serves_to one.request) lost ∙ gives_lost one.request)

      live_now : is_some (live_session more Insp) ≡ true
      live_now =
          ap is_some (live_more before entry Insp ∙ ap (λ (b : Bool). cond b (session_left entry.asked entry.answer entry.session) (live_session before Insp)) (ap (λ (a : Actor). same_actor a Insp) who))
          ∙ left_some entry.asked entry.answer entry.session called heard

      no_spare : spare more ≡ 0
      no_spare = ap (λ (b : Bool). spare_if b (struck_turns more)) live_now

      -- after the RENAME fewer are left
      fewer : (work : Work) → tool_phase ≡ Migrating work → is_done work.cutover.phase ≡ true → left_at plan more < left_at plan before
      unfolding took
      fewer work at done =
          let less = goes.on work at done who called uncut no_side in
          let most : left_at plan more ≤ phase_left (cutovers.took Inspector work.cutover entry.answer).phase =
          subst (λ (m : Moment). finish_left m.tool.tool_phase ≤ phase_left (cutovers.took Inspector work.cutover entry.answer).phase) (sym (moment_more plan before entry)) (asked_most entry.asked refl) in
          let same : left_at plan before ≡ phase_left work.cutover.phase = ap finish_left at in
          omega (arith, less, most, same) where
            here : Most (phase_left (cutovers.took Inspector work.cutover entry.answer).phase) (actor_took plan entry.actor entry.answer tool.tool_phase tool)
            here =
                subst (λ (a : Actor). Most (phase_left (cutovers.took Inspector work.cutover entry.answer).phase) (actor_took plan a entry.answer tool.tool_phase tool)) (sym who)
                (subst (λ (c : ToolPhase). Most (phase_left (cutovers.took Inspector work.cutover entry.answer).phase) (actor_took plan Insp entry.answer c tool)) (sym at)
                (cut_most plan (phase_left (cutovers.took Inspector work.cutover entry.answer).phase) Inspector entry.answer work tool (omega arith)))

            asked_most : (asked : Asked) → entry.asked ≡ asked → Most (phase_left (cutovers.took Inspector work.cutover entry.answer).phase) (asked_took plan (moment plan before).server entry asked tool)
            asked_most (Command word) asks = absurd (true≢false (sym (ap is_command asks) ∙ called))
            asked_most Cut asks = absurd (true≢false (sym (ap is_cut asks) ∙ uncut))
            asked_most (Call request) asks = counts_most plan (phase_left (cutovers.took Inspector work.cutover entry.answer).phase) entry.actor (actor_took plan entry.actor entry.answer tool.tool_phase tool) here
            asked_most Poll asks = counts_most plan (phase_left (cutovers.took Inspector work.cutover entry.answer).phase) entry.actor (actor_took plan entry.actor entry.answer tool.tool_phase tool) here

      no_more_left : left_at plan more ≤ left_at plan before
      no_more_left = by tool_phase refl where
        three : left_at plan before ≡ 3 → left_at plan more ≤ left_at plan before
        three same = let most = three_left in omega (arith, most, same)

        at_done : (work : Work) → tool_phase ≡ Migrating work → (b : Bool) → is_done work.cutover.phase ≡ b → left_at plan more ≤ left_at plan before
        at_done work at true done = let less = fewer work at done in omega (arith, less)
        at_done work at false not_done = three (ap finish_left at ∙ not_done_three work.cutover.phase not_done)

        by : (one : ToolPhase) → tool_phase ≡ one → left_at plan more ≤ left_at plan before
        by (SettingUp setup tries) at = three (ap finish_left at)
        by (Migrating work) at = at_done work at (is_done work.cutover.phase) refl

      backs : (a : Actor) → back_turns a before ≤ back_turns a more
      backs a = let count = backs_more a in omega (arith, count)

      -- a turn of another part
      insp_other : same_part OfClearing (part_of plan before entry) ≡ false → Small
      insp_other other =
          let a = count_no OfClearing plan before entry other in
          let b = same_struck in
          let c = no_more_left in
          let d = no_spare in
          let e = backs Copy in
          let f = backs Apply in
          let g = is.few in
          let n = notes_up in
          omega (arith, a, b, c, d, e, f, g, n)

      -- a call without a session: a loss took it
      spared : (work : Work) → tool_phase ≡ Migrating work → is_some (live_session before Insp) ≡ false → spare before ≡ 1
      spared work at none = ap (λ (b : Bool). spare_if b (struck_turns before)) none ∙ by (struck_turns before) refl where
        by : (n : ℕ) → struck_turns before ≡ n → cond {A = ℕ} (nat_lt 0 n) 1 0 ≡ 1
        by zero zero_struck = absurd (true≢false (sym (is.seated zero_struck (ap is_migrating at)) ∙ none))
        by (suc n) some = ap (λ (b : Bool). cond {A = ℕ} b 1 0) (more_than n) where
          more_than : (n : ℕ) → nat_lt 0 (suc n) ≡ true
          more_than n = grind (arith, nat_tests)

      not_some : (b : Bool) → (not b || false) ≡ true → b ≡ false
      not_some true is = absurd (false≢true is)
      not_some false is = refl

      insp_own : same_part OfClearing (part_of plan before entry) ≡ true → ClearingTurn tool_phase (live_session before entry.actor) entry.side entry.actor entry.asked → Small
      insp_own own (back_copies copies back) = absurd (no (sym who ∙ copies)) where
        no : Insp ≡ Copy → ⊥
        no same = cc
      insp_own own (back_applies applies back) = absurd (no (sym who ∙ applies)) where
        no : Insp ≡ Apply → ⊥
        no same = cc
      insp_own own (again work clearing at phase insp without) =
          let none : is_some (live_session before Insp) ≡ false =
          not_some (is_some (live_session before Insp)) (ap (λ (s : Option Side). not (is_some (live_session before Insp)) || is_some s) (sym no_side) ∙ ap (λ (a : Actor). is_again (live_session before a) entry.side) (sym who) ∙ without) in
          let a = count_yes OfClearing plan before entry own in
          let b = same_struck in
          let c = no_more_left in
          let d = no_spare in
          let e = backs Copy in
          let f = backs Apply in
          let g = is.few in
          let h = spared work at none in
          let n = notes_up in
          omega (arith, a, b, c, d, e, f, g, h, n)
      insp_own own (finishes work at done insp) =
          let a = count_yes OfClearing plan before entry own in
          let b = same_struck in
          let c = fewer work at done in
          let d = no_spare in
          let e = backs Copy in
          let f = backs Apply in
          let g = is.few in
          let n = notes_up in
          omega (arith, a, b, c, d, e, f, g, n)
      insp_own own (rests_so work at phase insp) =
          let a = count_yes OfClearing plan before entry own in
          let b = same_struck in
          let c = no_more_left in
          let d = no_spare in
          let e = backs Copy in
          let f = backs Apply in
          let g = is.few in
          let n = notes_more true (goes.rests work at phase who called uncut) in
          omega (arith, a, b, c, d, e, f, g, n)

    -- ANOTHER ACTOR'S TURN

    module _ (differs : same_actor entry.actor Insp ≡ false) where
      not_insp : entry.actor ≡ Insp → ⊥
      not_insp who = true≢false (sym (ap (λ (a : Actor). same_actor a Insp) who) ∙ differs)

      same_live : live_session more Insp ≡ live_session before Insp
      same_live = live_more before entry Insp ∙ ap (λ (b : Bool). cond b (session_left entry.asked entry.answer entry.session) (live_session before Insp)) differs

      same_spare : spare more ≡ spare before
      same_spare = ap (λ (l : Option ℕ). spare_if (is_some l) (struck_turns more)) same_live ∙ ap (spare_if (is_some (live_session before Insp))) same_struck

      renames : (work : Work) → entry.actor ≡ Ren → tool.tool_phase ≡ Migrating work → is_command entry.asked ≡ false → phase_left (cutovers.took Renamer work.cutover entry.answer).phase ≤ left_at plan before
      renames work who at called = by (is_done work.cutover.phase) refl where
        by : (b : Bool) → is_done work.cutover.phase ≡ b → phase_left (cutovers.took Renamer work.cutover entry.answer).phase ≤ left_at plan before
        by true done = absurd (goes.renamed work at done who called uncut)
        by false not_done =
            let same : left_at plan before ≡ 3 = ap finish_left at ∙ not_done_three work.cutover.phase not_done in
            let most = phase_three (cutovers.took Renamer work.cutover entry.answer).phase in
            omega (arith, same, most)

      asked_same : (asked : Asked) → entry.asked ≡ asked → Most (left_at plan before) (asked_took plan (moment plan before).server entry asked tool)
      asked_same (Command word) asks = command_most (left_at plan before) word tool (omega arith)
      asked_same Cut asks = absurd (true≢false (sym (ap is_cut asks) ∙ uncut))
      asked_same (Call request) asks =
          counts_most plan (left_at plan before) entry.actor (actor_took plan entry.actor entry.answer tool.tool_phase tool)
          (actor_most plan (left_at plan before) entry.actor entry.answer tool.tool_phase tool refl (omega arith) (λ work who at. absurd (not_insp who)) (λ work who at. renames work who at (ap is_command asks)))
      asked_same Poll asks =
          counts_most plan (left_at plan before) entry.actor (actor_took plan entry.actor entry.answer tool.tool_phase tool)
          (actor_most plan (left_at plan before) entry.actor entry.answer tool.tool_phase tool refl (omega arith) (λ work who at. absurd (not_insp who)) (λ work who at. renames work who at (ap is_command asks)))

      no_more_there : left_at plan more ≤ left_at plan before
      unfolding took
      no_more_there = subst (λ (m : Moment). finish_left m.tool.tool_phase ≤ left_at plan before) (sym (moment_more plan before entry)) (asked_same entry.asked refl)

      there_other : same_part OfClearing (part_of plan before entry) ≡ false → Small
      there_other other =
          let a = count_no OfClearing plan before entry other in
          let b = same_struck in
          let c = no_more_there in
          let d = same_spare in
          let e = backs_more Copy in
          let f = backs_more Apply in
          let g = is.few in
          let n = notes_up in
          omega (arith, a, b, c, d, e, f, g, n)

      back_one : (a : Actor) → entry.actor ≡ a → same_actor a a ≡ true → rolls_back entry.asked ≡ true → back_turns a more ≡ back_turns a before + 1
      back_one a who itself back =
          backs_more a ∙ ap (λ (b : Bool). back_turns a before + cond (b && rolls_back entry.asked) 1 0) (ap (λ (x : Actor). same_actor x a) who ∙ itself) ∙ ap (λ (b : Bool). back_turns a before + cond b 1 0) back

      there_own : same_part OfClearing (part_of plan before entry) ≡ true → ClearingTurn tool_phase (live_session before entry.actor) entry.side entry.actor entry.asked → Small
      there_own own (back_copies who back) =
          let a = count_yes OfClearing plan before entry own in
          let b = same_struck in
          let c = no_more_there in
          let d = same_spare in
          let e = back_one Copy who refl back in
          let f = backs_more Apply in
          let g = is.few in
          let n = notes_up in
          omega (arith, a, b, c, d, e, f, g, n)
      there_own own (back_applies who back) =
          let a = count_yes OfClearing plan before entry own in
          let b = same_struck in
          let c = no_more_there in
          let d = same_spare in
          let e = backs_more Copy in
          let f = back_one Apply who refl back in
          let g = is.few in
          let n = notes_up in
          omega (arith, a, b, c, d, e, f, g, n)
      there_own own (again work clearing at phase who without) = absurd (not_insp who)
      there_own own (finishes work at done who) = absurd (not_insp who)
      there_own own (rests_so work at phase who) = absurd (not_insp who)

    turn_is : same_part OfClearing (part_of plan before entry) ≡ true → ClearingTurn tool_phase (live_session before entry.actor) entry.side entry.actor entry.asked
    unfolding part_of
    turn_is own = clearing_turn tool_phase (live_session before entry.actor) entry.side entry.actor entry.asked uncut own

    whole_small : Small
    whole_small = by (same_actor entry.actor Insp) refl (same_part OfClearing (part_of plan before entry)) refl where
      by : (a : Bool) → same_actor entry.actor Insp ≡ a → (b : Bool) → same_part OfClearing (part_of plan before entry) ≡ b → Small
      by true same true own = insp_own (same_actor_is entry.actor Insp same) own (turn_is own)
      by true same false other = insp_other (same_actor_is entry.actor Insp same) other
      by false differs true own = there_own differs own (turn_is own)
      by false differs false other = there_other differs other

  all_small : Small
  all_small = by (is_struck entry) refl where
    by : (b : Bool) → is_struck entry ≡ b → Small
    by true lost = struck_small lost
    by false whole = whole_small whole

  -- WHO HAS A SESSION

  seated_more : struck_turns more ≡ 0 → is_migrating (moment plan more).tool.tool_phase ≡ true → is_some (live_session more Insp) ≡ true
  unfolding took
  seated_more none migrates = by (is_struck entry) refl (same_actor entry.actor Insp) refl where
    was_none : (b : Bool) → is_struck entry ≡ b → struck_turns before + cond b 1 0 ≡ 0
    was_none b at = sym (struck_more b at) ∙ none

    never : struck_turns before + 1 ≡ 0 → ⊥
    never same = omega (arith, same)

    still_none : struck_turns before + 0 ≡ 0 → struck_turns before ≡ 0
    still_none same = omega (arith, same)

    migrated : same_actor entry.actor Insp ≡ false → is_migrating tool_phase ≡ true
    migrated differs = by (is_migrating tool_phase) refl where
      by : (b : Bool) → is_migrating tool_phase ≡ b → b ≡ true
      by true at = refl
      by false at =
          absurd (true≢false (sym migrates ∙ ap (λ (m : Moment). is_migrating m.tool.tool_phase) (moment_more plan before entry)
          ∙ asked_not plan (moment plan before).server entry entry.asked tool at (λ who. true≢false (sym (ap (λ (a : Actor). same_actor a Insp) who) ∙ differs))))

    by : (a : Bool) → is_struck entry ≡ a → (b : Bool) → same_actor entry.actor Insp ≡ b → is_some (live_session more Insp) ≡ true
    by true lost b same = absurd (never (was_none true lost))
    by false whole true same = live_now whole (same_actor_is entry.actor Insp same)
    by false whole false differs = ap is_some (same_live whole differs) ∙ is.seated (still_none (was_none false whole)) (migrated differs)

  few_more : IsFew plan more
  few_more = record { counted = counted_more plan may before entry run is.counted; seated = seated_more; few = all_small }

few_begins : (plan : PlanData) → ScriptsFit plan → IsFew plan []
unfolding moment live_session
few_begins plan fit = record { counted = counted_begins plan fit; seated = λ none migrates. absurd (false≢true migrates); few = let none = count_none OfClearing plan in omega (arith, none) }

-- *Losses and what is cleared up take few turns*
pub clearing_few : ClearingTurnsAreFew
unfolding term_of measures Follows
clearing_few plan journal may fit faithful planned follows goes notes_go =
    let is =
    Along-keeps (λ before entry. IsRun plan before entry × ClearingGoes plan before entry) (IsFew plan) (λ before entry one is. few_more plan may before entry one.0 one.1 is) [] journal
    (Along-both (IsRun plan) (ClearingGoes plan) [] journal (all_runs plan [] journal faithful follows) goes) (few_begins plan fit) in
    let few = is.few in
    let backs = rollbacks_few plan journal faithful follows in
    let copies = backs.0 in
    let applies = backs.1 in
    let struck = losses_strike plan journal planned in
    let noted = notes_few plan journal planned notes_go in
    omega (arith, few, copies, applies, struck, noted)
