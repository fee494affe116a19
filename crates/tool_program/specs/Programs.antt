-- *The actors' program*: what each actor asks next, as a function of the journal so far. (After gh-ost; the exact steps
-- are this project's rule.)
use Rattle.std.specs.Prelude.{◌≡◌, ℕ, nat_le, nat_lt, Bool, false, ◌&&◌, not, if◌then◌else◌, List, [], ◌∷◌, Option, Some, None}
use Rattle.std.specs.List.{slice_get}
use Rattle.base_script.specs.declared.actor.Actor.{Actor}
use Rattle.base_script.specs.declared.actor.Actor.TheVariants.{Op, Insp, Copy, Apply, Lock, Ren, Client}
use Rattle.base_script.specs.declared.operator.OperatorWord.{OperatorWord}
use Rattle.server_model.specs.Along.{Along}
use Rattle.server_model.specs.declared.request.Request.{Request}
use Rattle.server_model.specs.declared.request.Request.TheVariants as requests
use Rattle.server_model.specs.declared.entry.Entry.{Entry}
use Rattle.server_model.specs.declared.entry.Asked.{Asked}
use Rattle.server_model.specs.declared.entry.Asked.TheVariants.{Call, Poll, Command, Cut}
use Rattle.server_model.specs.States.{State, session_of, is_waiting, is_in_transaction, unread}
use Rattle.plan_data.specs.PlanData.{PlanData}
use Rattle.base_values.specs.declared.value.Value.{Value}
use Rattle.base_values.specs.ToolNames.{log_name}
use Rattle.tool_program.specs.JournalWords.Sessions.{live_session, IsInSession}
use Rattle.tool_program.specs.JournalWords.Clients.{client_asks}
use Rattle.tool_program.specs.JournalWords.KeptPlans.{words_of}
use Rattle.server_model.specs.Entries.{answer_at}
use Rattle.server_model.specs.EarlierAnswers.{end_in}
use Rattle.tool_changelog.specs.Checkpoints.{checkpoint_row}
use Rattle.tool_changelog.specs.declared.checkpoint.Reach.{Reach}
use Rattle.tool_changelog.specs.declared.checkpoint.Reach.TheVariants.{Nothing, To, All}
use Rattle.tool_program.specs.declared.chunk_copier.copier.Copier.{Copier}
use Rattle.tool_program.specs.ChunkCopier.Copiers as copiers
use Rattle.tool_program.specs.NoteWriter.Notes.{notes_of}
use Rattle.tool_program.specs.NoteWriter.Notes as notes
use Rattle.tool_program.specs.EventApplier.Appliers as appliers
use Rattle.tool_program.specs.declared.cutover_core.cutover.Role.TheVariants.{Inspector, Locker, Renamer}
use Rattle.tool_program.specs.CutoverCore.Attempts as cutovers
use Rattle.tool_program.specs.CutoverCore.CutOvers.{stands, is_done, is_resting}
use Rattle.tool_program.specs.Setups.{setup_call}
use Rattle.tool_program.specs.Operators.{is_throttled, is_postponed}
use Rattle.tool_program.specs.Tools.{Work, ToolPhase, SettingUp, Migrating, Tool, Moment, is_reverting, moment}

-- WHO IS ASKED TO DO WHAT

abbrev pub waits : State → Option ℕ → Bool
waits state None = false
waits state (Some session) = is_waiting state session

abbrev pub in_transaction : State → Option ℕ → Bool
in_transaction state None = false
in_transaction state (Some session) = is_in_transaction (session_of session state.sessions)

-- in a revert a transaction that is open is rolled back
abbrev pub rolls_back : State → Option ℕ → Option Request
rolls_back state session = if in_transaction state session then Some requests.Rollback else None

-- the copier: a chunk begins where the tool isn't throttled
abbrev pub copy_call : PlanData → State → List Entry → Tool → Work → Option Request
copy_call plan state journal tool work =
    if copiers.starts work.copier && is_throttled plan state tool.operator then None else copiers.next journal work.copier

abbrev pub unread_in : State → Work → ℕ
unread_in state work = unread state work.applier.position (work.applier.table ∷ log_name work.applier.table ∷ [])

-- A batch begins where something is unread. While no attempt is under way it doesn't where the tool is throttled; while one is
-- under way, it doesn't once the RENAME was asked for.
abbrev pub is_held : PlanData → State → Tool → Work → Bool
is_held plan state tool work = if stands work.cutover.phase then work.cutover.is_asked else is_throttled plan state tool.operator

abbrev pub may_read : PlanData → State → Tool → Work → Bool
may_read plan state tool work = nat_lt 0 (unread_in state work) && not (is_held plan state tool work)

abbrev pub apply_call : PlanData → State → List Entry → Tool → Work → Option Request
apply_call plan state journal tool work =
    if is_done work.cutover.phase then None
    else if appliers.starts work.applier && not (may_read plan state tool work) then None
    else Some (appliers.next journal work.applier)

-- An attempt begins where the range is copied, few events are unread, and the tool is neither throttled nor postponed.
abbrev pub may_begin : PlanData → State → Tool → Work → Bool
may_begin plan state tool work =
    work.copier.is_copied && nat_le (unread_in state work) plan.options.max_backlog && not (is_throttled plan state tool.operator)
    && not (is_postponed plan tool.operator)

abbrev pub lock_call : PlanData → State → Tool → Work → Option Request
lock_call plan state tool work =
    if is_resting work.cutover.phase && not (may_begin plan state tool work) then None else cutovers.next Locker work.cutover

-- how far the rows are copied: to the end of the last chunk that was committed
abbrev pub reach_after : List Entry → Option ℕ → Reach
reach_after journal None = Nothing
reach_after journal (Some reported) = To (end_in (answer_at journal reported))

abbrev pub reach_in : List Entry → Copier → Reach
reach_in journal copier = if copier.is_copied then All else reach_after journal copier.following

-- how far the migration has come, as the row of a checkpoint
abbrev pub checkpoint_in : List Entry → Work → Option (List Value)
checkpoint_in journal work = checkpoint_row work.applier.position (reach_in journal work.copier)

-- the inspector writes notes while no attempt stands, nothing is reverted and no RENAME was done
abbrev pub note_call : PlanData → List Entry → Tool → Work → Option Request
note_call plan journal tool work = if is_reverting tool.reason then None else notes.next plan (checkpoint_in journal work) (notes_of journal)

abbrev pub inspect_call : PlanData → List Entry → Tool → Work → Option Request
inspect_call plan journal tool work = if is_resting work.cutover.phase then note_call plan journal tool work else cutovers.next Inspector work.cutover

-- the tool's call for an actor that doesn't wait
abbrev pub tool_call : PlanData → State → List Entry → Tool → ToolPhase → Actor → Option Request
tool_call plan state journal tool (SettingUp setup tries) Insp = if is_reverting tool.reason then None else setup_call plan setup
tool_call plan state journal tool (Migrating work) Insp = inspect_call plan journal tool work
tool_call plan state journal tool (Migrating work) Copy =
    if is_reverting tool.reason then rolls_back state (live_session journal Copy) else copy_call plan state journal tool work
tool_call plan state journal tool (Migrating work) Apply =
    if is_reverting tool.reason then rolls_back state (live_session journal Apply) else apply_call plan state journal tool work
tool_call plan state journal tool (Migrating work) Lock = lock_call plan state tool work
tool_call plan state journal tool (Migrating work) Ren = cutovers.next Renamer work.cutover
tool_call plan state journal tool tool_phase actor = None

abbrev pub calls : Option Request → Option Asked
calls None = None
calls (Some request) = Some (Call request)

abbrev pub commands : Option OperatorWord → Option Asked
commands None = None
commands (Some word) = Some (Command word)

-- what an actor of the tool asks: an actor that waits polls
abbrev pub tool_asks : PlanData → List Entry → Moment → Actor → Option Asked
tool_asks plan journal now actor =
    if waits now.server (live_session journal actor) then Some Poll else calls (tool_call plan now.server journal now.tool now.tool.tool_phase actor)

-- *Given*: what an actor asks next; none where it isn't ready.
unfoldable pub given : PlanData → List Entry → Actor → Option Asked
given plan journal (Client client) = client_asks plan journal client
given plan journal Op = commands (slice_get (words_of plan) (moment plan journal).tool.operator.taken)
given plan journal actor = tool_asks plan journal (moment plan journal) actor

abbrev pub IsGiven : PlanData → List Entry → Entry → Asked → Type 0
IsGiven plan before entry Cut = Unit {0}
IsGiven plan before entry asked = given plan before entry.actor ≡ Some asked

-- *Follows*: each turn but a loss between calls asks what was given to its actor, and each is in its actor's session.
pub record IsFollowed (plan : PlanData) (before : List Entry) (entry : Entry) : Type 0 where
  pub given : IsGiven plan before entry entry.asked
  pub session : IsInSession before entry entry.asked (live_session before entry.actor)

unfoldable pub Follows : PlanData → List Entry → Type 0
Follows plan journal = Along (IsFollowed plan) [] journal
