-- What the tool and the clients of a plain plan ask is plain, where what the tool was answered is.
use Rattle.std.proofs.Common.{◌≡◌, ℕ, zero, suc, ◌+◌, ◌-◌, ◌/◌, ◌%◌, ◌<◌, ◌==◌, Bool, true, false, not, ◌&&◌, cond, List, [], ◌∷◌, ◌++◌, length, Option, Some, None, Ok, refl, sym, subst, arith, codes}
use Rattle.std.specs.Prelude.{ℤ, nat_le, option_map, pos}
use Rattle.std.specs.Fmt.{digit_glyph, signed_decimal}
use Rattle.std.specs.List.{AllByRecursion, flat_map, slice_get}
use Rattle.std.specs.Str.{bytes_eq}
use Rattle.std.proofs.lemmas.Bool.Decides.{nat_tests}
use Rattle.base_values.specs.declared.event.Change.{Change}
use Rattle.base_values.specs.declared.event.Change.TheVariants as changes
use Rattle.base_values.specs.declared.event.RowEvent.{RowEvent}
use Rattle.base_values.specs.declared.gho_schema.schema.Column.{Column}
use Rattle.base_values.specs.declared.gho_schema.schema.Schema.{Schema}
use Rattle.base_values.specs.declared.kind.Kind.TheVariants.{VarBinary}
use Rattle.base_values.specs.declared.row_conversion.map.MapColumn.{MapColumn}
use Rattle.base_values.specs.declared.value.Value.{Value}
use Rattle.base_values.specs.declared.value.Value.TheVariants.{Null, Num, Text, Blob}
use Rattle.base_values.specs.Literals.{escaped, hexadecimal, listed, printed, printed_row}
use Rattle.base_values.specs.StoredValues.{bytes_within, character_count, stores}
use Rattle.base_values.proofs.SchemaRules.Lists.{All-append}
use Rattle.base_script.specs.declared.actor.Actor.{Actor}
use Rattle.base_script.specs.declared.actor.Actor.TheVariants.{Insp, Copy, Apply, Lock, Ren}
use Rattle.base_script.specs.declared.script.ScriptWord.{ScriptWord}
use Rattle.base_script.specs.declared.script.ScriptWord.TheVariants as words
use Rattle.base_script.specs.declared.statement.Set.{Set}
use Rattle.server_model.specs.declared.answer.Answer.{Answer}
use Rattle.server_model.specs.declared.answer.Answer.TheVariants as answers
use Rattle.server_model.specs.declared.entry.Entry.{Entry}
use Rattle.server_model.specs.declared.request.Request.{Request}
use Rattle.server_model.specs.declared.request.Request.TheVariants as requests
use Rattle.server_model.specs.EarlierAnswers.{end_in, events_in}
use Rattle.server_model.specs.Entries.{answer_at, answer_of}
use Rattle.server_model.specs.States.{State}
use Rattle.plan_data.specs.PlanData.{PlanData}
use Rattle.tool_changelog.specs.Hints.{hint_row}
use Rattle.tool_changelog.specs.ToolTables.{log_schema, sentry_schema}
use Rattle.tool_program.specs.declared.chunk_copier.copier.Copier.{Copier}
use Rattle.tool_program.specs.declared.chunk_copier.copier.CopyRange.{CopyRange}
use Rattle.tool_program.specs.declared.chunk_copier.copier.CopyStep.{CopyStep}
use Rattle.tool_program.specs.declared.chunk_copier.copier.CopyStep.TheVariants as copy_steps
use Rattle.tool_program.specs.declared.cutover_core.cutover.Clearing.{Clearing}
use Rattle.tool_program.specs.declared.cutover_core.cutover.Clearing.TheVariants.{Looking, Drops}
use Rattle.tool_program.specs.declared.cutover_core.cutover.CutOver.{CutOver}
use Rattle.tool_program.specs.declared.cutover_core.cutover.Hold.{Hold}
use Rattle.tool_program.specs.declared.cutover_core.cutover.Hold.TheVariants as holds
use Rattle.tool_program.specs.declared.cutover_core.cutover.Phase.{Phase}
use Rattle.tool_program.specs.declared.cutover_core.cutover.Phase.TheVariants.{Resting, Attempting, Ending, Finishing, Finished}
use Rattle.tool_program.specs.declared.cutover_core.cutover.Role.TheVariants.{Inspector, Locker, Renamer}
use Rattle.tool_program.specs.declared.cutover_core.cutover.Stage.{Stage}
use Rattle.tool_program.specs.declared.cutover_core.cutover.Stage.TheVariants.{Locking, Hinting, ReadingCounter, SettingCounter, Drained, Showing, Dropping, Unlocking}
use Rattle.tool_program.specs.declared.event_applier.applier.Applier.{Applier}
use Rattle.tool_program.specs.declared.event_applier.applier.ApplyStep.{ApplyStep}
use Rattle.tool_program.specs.declared.event_applier.applier.ApplyStep.TheVariants as apply_steps
use Rattle.tool_program.specs.declared.event_applier.applier.Part.{Part}
use Rattle.tool_program.specs.declared.event_applier.applier.Part.TheVariants.{Removal, Return}
use Rattle.tool_program.specs.ChunkCopier.Copiers as copiers
use Rattle.tool_program.specs.CutoverCore.Attempts as attempts
use Rattle.tool_program.specs.CutoverCore.CutOvers.{is_done, is_resting}
use Rattle.tool_program.specs.EventApplier.Appliers as appliers
use Rattle.tool_program.specs.EventApplier.Appliers.{Doing, Putting, Removing, Changing}
use Rattle.tool_program.specs.JournalWords.Clients.{word_asks}
use Rattle.tool_program.specs.JournalWords.Sessions.{live_session}
use Rattle.tool_program.specs.Operators.{is_throttled}
use Rattle.tool_changelog.specs.Checkpoints.{checkpoint_row, checkpoint_text, reach_text}
use Rattle.tool_changelog.specs.Heartbeats.{heartbeat_row}
use Rattle.tool_changelog.specs.declared.checkpoint.Reach.{Reach}
use Rattle.tool_changelog.specs.declared.checkpoint.Reach.TheVariants.{Nothing, To, All}
use Rattle.tool_program.specs.declared.note_writer.notes.NoteStep.{NoteStep}
use Rattle.tool_program.specs.declared.note_writer.notes.NoteStep.TheVariants.{Waiting, Checking, Again}
use Rattle.tool_program.specs.declared.note_writer.notes.Notes.{Notes}
use Rattle.tool_program.specs.NoteWriter.Notes as notes
use Rattle.tool_program.specs.Programs.{apply_call, checkpoint_in, copy_call, in_transaction, lock_call, may_begin, may_read, note_call, reach_after, reach_in, rolls_back, tool_call}
use Rattle.tool_program.specs.Setups.{Setup, Listing, Clearing as ClearingSetup, MakingLog, MakingGhost, Marking, Reaching, Ready, setup_call}
use Rattle.tool_program.specs.Tools.{Tool, ToolPhase, SettingUp, Migrating, Work, is_reverting}
use Rattle.proof_plain.specs.Plain.{AreBytes, BytesAsked, BytesKey, BytesMap, BytesRequest, HasBytes, PlainAnswer, PlainChange, PlainEvents, PlainRow}
use Rattle.proof_plain.specs.Plans.{BytesCopyRange, BytesWord, PlainPhase, PlainPlan, PlainWork, SmallPhase, SmallStage}
use Rattle.proof_plain.proofs.Statements.{source_bytes}
use Rattle.proof_plain.proofs.Values.{stored_plain}

-- ---- texts of the tool

-- a number's digits are bytes, as those that are stored of it
stored_digits : (n : ℤ) → stores (Num n) (VarBinary (length (signed_decimal n))) true ≡ Ok (Blob (signed_decimal n))
unfolding stores bytes_within
stored_digits n = rw (same (length (signed_decimal n))) refl where
  same : (k : ℕ) → nat_le k k ≡ true
  same k = grind (arith, nat_tests)

digits_bytes : (n : ℤ) → AreBytes (signed_decimal n)
digits_bytes n = stored_plain (Num n) (VarBinary (length (signed_decimal n))) true (Blob (signed_decimal n)) tt (stored_digits n)

hint_bytes : (attempt : ℕ) → AllByRecursion HasBytes (hint_row attempt)
unfolding hint_row
hint_bytes attempt = (
  tt,
  (
    (omega arith, (omega arith, (omega arith, (omega arith, (omega arith, (omega arith, (omega arith, (omega arith, tt)))))))),
    (digits_bytes (pos attempt), tt),
  ),
)

beat_bytes : (number : ℕ) → AllByRecursion HasBytes (heartbeat_row number)
unfolding heartbeat_row
beat_bytes number = (
  tt,
  (
    (omega arith, (omega arith, (omega arith, (omega arith, (omega arith, (omega arith, (omega arith, (omega arith, (omega arith, tt))))))))),
    (digits_bytes (pos number), tt),
  ),
)

-- ---- a key as it is printed

if_bytes : (b : Bool) (one two : List ℕ) → AreBytes one → AreBytes two → AreBytes (cond b one two)
if_bytes true one two first second = first
if_bytes false one two first second = second

escaped_bytes : (byte : ℕ) → byte < 256 → AreBytes (escaped byte)
escaped_bytes byte small =
    if_bytes (byte == 39) _ _ (omega arith, (omega arith, tt)) (if_bytes (byte == 92) _ _ (omega arith, (omega arith, tt)) (if_bytes (byte == 10) _ _ (omega arith, (omega arith, tt)) (if_bytes (byte == 13) _ _ (omega arith, (omega arith, tt))
    (if_bytes (byte == 9) _ _ (omega arith, (omega arith, tt)) (if_bytes (byte == 0) (codes "\\0") (byte ∷ []) (omega arith, (omega arith, tt)) (small, tt))))))

each_escaped : (text : List ℕ) → AreBytes text → AreBytes (flat_map escaped text)
each_escaped [] all = tt
each_escaped (byte ∷ text) all = All-append (λ (b : ℕ). b < 256) (escaped byte) (flat_map escaped text) (escaped_bytes byte all.0) (each_escaped text all.1)

glyph_small : (d : ℕ) → d < 16 → digit_glyph false d < 256
glyph_small d small = grind (arith, nat_tests, small)

hex_bytes : (byte : ℕ) → byte < 256 → AreBytes (hexadecimal byte)
hex_bytes byte small = (glyph_small (byte / 16) (omega (arith, small)), (glyph_small (byte % 16) (omega arith), tt))

each_hex : (blob : List ℕ) → AreBytes blob → AreBytes (flat_map hexadecimal blob)
each_hex [] all = tt
each_hex (byte ∷ blob) all = All-append (λ (b : ℕ). b < 256) (hexadecimal byte) (flat_map hexadecimal blob) (hex_bytes byte all.0) (each_hex blob all.1)

joined : (one two : List ℕ) → AreBytes one → AreBytes two → AreBytes (one ++ two)
joined one two first second = All-append (λ (b : ℕ). b < 256) one two first second

value_bytes : (value : Value) → HasBytes value → AreBytes (printed value)
unfolding printed
value_bytes Null have = (omega arith, (omega arith, (omega arith, (omega arith, tt))))
value_bytes (Num number) have = digits_bytes number
value_bytes (Text text) have = joined (codes "'" ++ flat_map escaped text) (codes "'") (joined (codes "'") (flat_map escaped text) (omega arith, tt) (each_escaped text have)) (omega arith, tt)
value_bytes (Blob blob) have = joined (codes "x'" ++ flat_map hexadecimal blob) (codes "'") (joined (codes "x'") (flat_map hexadecimal blob) (omega arith, (omega arith, tt)) (each_hex blob have)) (omega arith, tt)

more_bytes : (values : List Value) → AllByRecursion HasBytes values → AreBytes (flat_map (λ next. codes ", " ++ printed next) values)
more_bytes [] have = tt
more_bytes (value ∷ values) have = joined (codes ", " ++ printed value) _ (joined (codes ", ") (printed value) (omega arith, (omega arith, tt)) (value_bytes value have.0)) (more_bytes values have.1)

listed_bytes : (values : List Value) → AllByRecursion HasBytes values → AreBytes (listed values)
unfolding listed
listed_bytes [] have = tt
listed_bytes (value ∷ values) have = joined (printed value) _ (value_bytes value have.0) (more_bytes values have.1)

row_bytes : (row : List Value) → AllByRecursion HasBytes row → AreBytes (printed_row row)
unfolding printed_row
row_bytes row have = joined (codes "(" ++ listed row) (codes ")") (joined (codes "(") (listed row) (omega arith, tt) (listed_bytes row have)) (omega arith, tt)

-- ---- a checkpoint

abbrev BytesReach : Reach → Type 0
BytesReach (To key) = BytesKey key
BytesReach reach = Unit {0}

reach_bytes : (reach : Reach) → BytesReach reach → AreBytes (reach_text reach)
reach_bytes Nothing have = (omega arith, tt)
reach_bytes (To key) have = row_bytes key have
reach_bytes All have = (omega arith, tt)

abbrev BytesIf : Option (List Value) → Type 0
BytesIf None = Unit {0}
BytesIf (Some row) = AllByRecursion HasBytes row

checkpoint_bytes : (position : ℕ) (reach : Reach) → BytesReach reach → BytesIf (checkpoint_row position reach)
unfolding checkpoint_row
checkpoint_bytes position reach have = by (nat_le (character_count (checkpoint_text position reach)) 255) where
  text : AreBytes (checkpoint_text position reach)
  text = joined (signed_decimal (pos position) ++ codes " ") (reach_text reach) (joined (signed_decimal (pos position)) (codes " ") (digits_bytes (pos position)) (omega arith, tt)) (reach_bytes reach have)

  by : (b : Bool) → BytesIf (option_map (λ value. Num (pos 0) ∷ Text (codes "checkpoint") ∷ value ∷ []) (cond b (Some (Text (checkpoint_text position reach))) None))
  by true = (tt, ((omega arith, (omega arith, (omega arith, (omega arith, (omega arith, (omega arith, (omega arith, (omega arith, (omega arith, (omega arith, tt)))))))))), (text, tt)))
  by false = tt

log_bytes : (table : List ℕ) → BytesRequest (requests.Create (log_schema table))
unfolding log_schema
log_bytes table = ((tt, (tt, (tt, tt))), tt)

sentry_bytes : (table : List ℕ) → BytesRequest (requests.Create (sentry_schema table))
unfolding sentry_schema
sentry_bytes table = ((tt, tt), tt)

-- ---- what was answered

abbrev pub PlainAnswers : List Entry → Type 0
PlainAnswers journal = AllByRecursion (λ entry. PlainAnswer entry.answer) journal

abbrev AnswerIf : Option Answer → Type 0
AnswerIf None = Unit {0}
AnswerIf (Some answer) = PlainAnswer answer

taken_answer : (journal : List Entry) (place : ℕ) → PlainAnswers journal → AnswerIf (answer_of (slice_get journal place))
taken_answer [] place all = tt
taken_answer (entry ∷ journal) zero all = all.0
taken_answer (entry ∷ journal) (suc place) all = taken_answer journal place all.1

plain_answer : (journal : List Entry) (turn : ℕ) → PlainAnswers journal → AnswerIf (answer_at journal turn)
unfolding answer_at
plain_answer journal turn all = taken_answer journal (turn - 1) all

plain_end : (answer : Option Answer) → AnswerIf answer → BytesKey (end_in answer)
plain_end (Some (answers.Keys keys end)) plain = plain
plain_end (Some (answers.End end)) plain = plain
plain_end answer plain = tt

plain_events : (answer : Option Answer) → AnswerIf answer → PlainEvents (events_in answer)
plain_events (Some (answers.Events events following)) plain = plain.0
plain_events answer plain = tt

-- ---- the applier's statements

abbrev pub PlainDoing : Doing → Type 0
PlainDoing (Putting row) = PlainRow row
PlainDoing (Removing row) = PlainRow row
PlainDoing (Changing before after) = PlainRow before × PlainRow after

abbrev pub PlainDoings : List Doing → Type 0
PlainDoings all = AllByRecursion PlainDoing all

change_doings : (schema : Schema) (columns : List MapColumn) (change : Change) → PlainChange change → PlainDoings (appliers.doings schema columns change)
change_doings schema columns (changes.Write row) plain = (plain, tt)
change_doings schema columns (changes.Delete row) plain = (plain, tt)
change_doings schema columns (changes.Update before after) plain = by (appliers.changes_key schema (appliers.given_values columns before) (appliers.given_values columns after)) where
  by : (b : Bool) → PlainDoings (cond b (Removing before ∷ Putting after ∷ []) (Changing before after ∷ []))
  by true = (plain.0, (plain.1, tt))
  by false = (plain, tt)

events_doings : (applier : Applier) (events : List RowEvent) → PlainEvents events → PlainDoings (flat_map (λ event. appliers.doings applier.new_schema applier.map event.change) (appliers.events_of applier.table events))
events_doings applier [] plain = tt
events_doings applier (event ∷ events) plain = by (bytes_eq event.table applier.table) (events_doings applier events plain.1) where
  by : (b : Bool) → PlainDoings (flat_map (λ event. appliers.doings applier.new_schema applier.map event.change) (appliers.events_of applier.table events))
      → PlainDoings (flat_map (λ event. appliers.doings applier.new_schema applier.map event.change) (cond b (event ∷ appliers.events_of applier.table events) (appliers.events_of applier.table events)))
  by true rest = All-append PlainDoing (appliers.doings applier.new_schema applier.map event.change) _ (change_doings applier.new_schema applier.map event.change plain.0) rest
  by false rest = rest

planned_doings : (applier : Applier) (events : List RowEvent) → PlainEvents events → PlainDoings (appliers.planned applier events)
unfolding appliers.planned
planned_doings applier events plain = events_doings applier events plain

abbrev pub DoingIf : Option Doing → Type 0
DoingIf None = Unit {0}
DoingIf (Some doing) = PlainDoing doing

part_plain : (part : Part) (doing : Doing) → PlainDoing doing → PlainDoing (appliers.in_part part doing)
part_plain Removal (Changing before after) plain = plain.0
part_plain Return (Changing before after) plain = plain.1
part_plain part doing plain = plain

taken_doing : (part : Part) (all : List Doing) (place : ℕ) → PlainDoings all → DoingIf (appliers.doing_in part (slice_get all place))
taken_doing part [] place plain = tt
taken_doing part (doing ∷ all) zero plain = part_plain part doing plain.0
taken_doing part (doing ∷ all) (suc place) plain = taken_doing part all place plain.1

-- *What the applier does is plain*
pub doing_plain : (journal : List Entry) (applier : Applier) (step : ApplyStep) → PlainAnswers journal → DoingIf (appliers.doing_at journal applier step)
doing_plain journal applier (apply_steps.Applying batch done part) all =
    taken_doing part (appliers.planned applier (events_in (answer_at journal batch.read))) done (planned_doings applier (events_in (answer_at journal batch.read)) (plain_events (answer_at journal batch.read) (plain_answer journal batch.read all)))
doing_plain journal applier apply_steps.Reading all = tt
doing_plain journal applier (apply_steps.Beginning batch) all = tt
doing_plain journal applier (apply_steps.Committing batch) all = tt

values_bytes : (columns : List MapColumn) (row : List Value) → BytesMap columns → PlainRow row → AllByRecursion HasBytes (appliers.given_values columns row)
values_bytes [] row have plain = tt
values_bytes (column ∷ columns) row have plain = (source_bytes column.origin row have.0 plain, values_bytes columns row have.1 plain)

sets_bytes : (columns : List Column) (values : List Value) → AllByRecursion HasBytes values → AllByRecursion (λ (set : Set). HasBytes set.value) (appliers.sets columns values)
sets_bytes [] values have = tt
sets_bytes (column ∷ columns) [] have = tt
sets_bytes (column ∷ columns) (value ∷ values) have = (have.0, sets_bytes columns values have.1)

said_bytes : (applier : Applier) (doing : Option Doing) → BytesMap applier.map → DoingIf doing → BytesRequest (appliers.statement_result applier doing)
said_bytes applier None have plain = tt
said_bytes applier (Some (Putting row)) have plain = values_bytes applier.map row have plain
said_bytes applier (Some (Removing row)) have plain = tt
said_bytes applier (Some (Changing before after)) have plain = sets_bytes applier.new_schema.columns (appliers.given_values applier.map after) (values_bytes applier.map after have plain.1)

call_bytes : (journal : List Entry) (applier : Applier) (step : ApplyStep) → BytesMap applier.map → PlainAnswers journal → BytesRequest (appliers.call_at journal applier step)
call_bytes journal applier apply_steps.Reading have all = tt
call_bytes journal applier (apply_steps.Beginning batch) have all = tt
call_bytes journal applier (apply_steps.Applying batch done part) have all = said_bytes applier (appliers.doing_at journal applier (apply_steps.Applying batch done part)) have (doing_plain journal applier (apply_steps.Applying batch done part) all)
call_bytes journal applier (apply_steps.Committing batch) have all = tt

pub applied_bytes : (journal : List Entry) (applier : Applier) → BytesMap applier.map → PlainAnswers journal → BytesRequest (appliers.next journal applier)
unfolding appliers.next
applied_bytes journal applier have all = call_bytes journal applier applier.step have all

-- ---- the copier

key_bytes : (copier : Copier) (key : Option (List Value)) → BytesMap copier.map → BytesAsked (copiers.copies copier key)
key_bytes copier None have = tt
key_bytes copier (Some key) have = have

range_bytes : (journal : List Entry) (copier : Copier) (range : CopyRange) (step : CopyStep) → BytesMap copier.map → BytesKey range.top → PlainAnswers journal → BytesAsked (copiers.call_at journal copier range step)
range_bytes journal copier range copy_steps.Choosing have top all = top
range_bytes journal copier range (copy_steps.Spanning reported size) have top all = plain_end (answer_at journal reported) (plain_answer journal reported all)
range_bytes journal copier range (copy_steps.Copying chunk copied) have top all = key_bytes copier (copiers.key_at journal (copy_steps.Copying chunk copied)) have
range_bytes journal copier range (copy_steps.Committing chunk) have top all = tt

unless_bytes : (b : Bool) (one two : Option Request) → BytesAsked one → BytesAsked two → BytesAsked (cond b one two)
unless_bytes true one two first second = first
unless_bytes false one two first second = second

pub copied_bytes : (journal : List Entry) (copier : Copier) → BytesMap copier.map → BytesCopyRange copier.range → PlainAnswers journal → BytesAsked (copiers.next journal copier)
unfolding copiers.next
copied_bytes journal copier have ranged all = unless_bytes copier.is_copied None (copiers.call_in journal copier copier.range) tt (by copier.range ranged) where
  by : (range : Option CopyRange) → BytesCopyRange range → BytesAsked (copiers.call_in journal copier range)
  by None ranged = tt
  by (Some range) ranged = range_bytes journal copier range copier.step have ranged all

-- ---- the cut-over

stage_bytes : (cutover : CutOver) (stage : Stage) → SmallStage stage → BytesAsked (attempts.inspector_at cutover stage)
stage_bytes cutover Hinting small = hint_bytes cutover.attempts
stage_bytes cutover (SettingCounter number drain) small = small
stage_bytes cutover (ReadingCounter drain) small = tt
stage_bytes cutover Showing small = tt
stage_bytes cutover stage small = tt

clears_bytes : (table : List ℕ) (clearing : Clearing) → BytesAsked (attempts.clears table clearing)
clears_bytes table Looking = tt
clears_bytes table (Drops left) = tt

inspector_bytes : (cutover : CutOver) (phase : Phase) → SmallPhase phase → BytesAsked (attempts.inspector_call cutover phase)
inspector_bytes cutover (Attempting stage) small = stage_bytes cutover stage small
inspector_bytes cutover (Ending clearing) small = unless_bytes (attempts.is_free cutover.hold cutover.renamer_waits) (attempts.clears cutover.table clearing) None (clears_bytes cutover.table clearing) tt
inspector_bytes cutover (Finishing clearing) small = clears_bytes cutover.table clearing
inspector_bytes cutover Resting small = tt
inspector_bytes cutover Finished small = tt

lock_bytes : (table : List ℕ) (stage : Stage) → BytesAsked (attempts.locker_at table stage)
lock_bytes table Locking = tt
lock_bytes table Dropping = tt
lock_bytes table Unlocking = tt
lock_bytes table stage = tt

unlock_bytes : (hold : Hold) → BytesAsked (attempts.unlocks hold)
unlock_bytes holds.Locks = tt
unlock_bytes hold = tt

locker_bytes : (cutover : CutOver) (phase : Phase) → BytesAsked (attempts.locker_call cutover phase)
locker_bytes cutover Resting = unless_bytes cutover.is_stopped None (Some (requests.Create (sentry_schema cutover.table))) tt (sentry_bytes cutover.table)
locker_bytes cutover (Attempting stage) = lock_bytes cutover.table stage
locker_bytes cutover (Ending clearing) = unlock_bytes cutover.hold
locker_bytes cutover (Finishing clearing) = tt
locker_bytes cutover Finished = tt

renamer_bytes : (cutover : CutOver) (phase : Phase) → BytesAsked (attempts.renamer_call cutover phase)
renamer_bytes cutover (Attempting Drained) = tt
renamer_bytes cutover phase = tt

next_inspector : (cutover : CutOver) → SmallPhase cutover.phase → BytesAsked (attempts.next Inspector cutover)
unfolding attempts.next
next_inspector cutover small = inspector_bytes cutover cutover.phase small

next_locker : (cutover : CutOver) → BytesAsked (attempts.next Locker cutover)
unfolding attempts.next
next_locker cutover = locker_bytes cutover cutover.phase

next_renamer : (cutover : CutOver) → BytesAsked (attempts.next Renamer cutover)
unfolding attempts.next
next_renamer cutover = renamer_bytes cutover cutover.phase

-- ---- the tool

module _ (plan : PlanData) (plain : PlainPlan plan) where
  setup_bytes : (setup : Setup) → BytesAsked (setup_call plan setup)
  setup_bytes Listing = tt
  setup_bytes (ClearingSetup left) = tt
  setup_bytes MakingLog = log_bytes plan.table
  setup_bytes MakingGhost = (plain.columns, plain.start)
  setup_bytes Marking = tt
  setup_bytes (Reaching position) = tt
  setup_bytes (Ready position range) = tt

  rolls_bytes : (state : State) (session : Option ℕ) → BytesAsked (rolls_back state session)
  rolls_bytes state session = unless_bytes (in_transaction state session) (Some requests.Rollback) None tt tt

  module _ (state : State) (journal : List Entry) (all : PlainAnswers journal) (tool : Tool) where
    copy_asks : (turns : ℕ) (work : Work) → PlainWork plan turns work → BytesAsked (copy_call plan state journal tool work)
    copy_asks turns work is =
        unless_bytes (copiers.starts work.copier && is_throttled plan state tool.operator) None (copiers.next journal work.copier) tt (copied_bytes journal work.copier (subst BytesMap (sym is.map) plain.map) is.range all)

    apply_asks : (turns : ℕ) (work : Work) → PlainWork plan turns work → BytesAsked (apply_call plan state journal tool work)
    apply_asks turns work is =
        unless_bytes (is_done work.cutover.phase) None _ tt
        (unless_bytes (appliers.starts work.applier && not (may_read plan state tool work)) None (Some (appliers.next journal work.applier)) tt (applied_bytes journal work.applier (subst BytesMap (sym is.applier.map) plain.map) all))

    -- the notes
    reach_so : (copier : Copier) → BytesReach (reach_in journal copier)
    reach_so copier = by copier.is_copied where
      after : (following : Option ℕ) → BytesReach (reach_after journal following)
      after None = tt
      after (Some reported) = plain_end (answer_at journal reported) (plain_answer journal reported all)

      by : (b : Bool) → BytesReach (cond b All (reach_after journal copier.following))
      by true = tt
      by false = after copier.following

    next_bytes : (row : Option (List Value)) (so_far : Notes) → BytesIf row → BytesAsked (notes.next plan row so_far)
    unfolding notes.next
    next_bytes row so_far have = by (notes.checkpoint_next so_far.step row) (checked so_far.step row have) where
      checked : (step : NoteStep) (row : Option (List Value)) → BytesIf row → BytesIf (notes.checkpoint_next step row)
      checked Checking row have = have
      checked Waiting row have = tt
      checked Again row have = tt

      by : (row : Option (List Value)) → BytesIf row → BytesAsked (notes.row_or_beat row plan so_far)
      by (Some row) have = have
      by None have = unless_bytes (notes.may_beat plan.options.notes plan.options.note_every so_far) (Some (notes.writes plan.table (heartbeat_row (so_far.begun + 1)))) None (beat_bytes (so_far.begun + 1)) tt

    note_asks : (work : Work) → BytesAsked (note_call plan journal tool work)
    note_asks work =
        unless_bytes (is_reverting tool.reason) None (notes.next plan (checkpoint_in journal work) (notes.notes_of journal)) tt
        (next_bytes (checkpoint_in journal work) (notes.notes_of journal) (checkpoint_bytes work.applier.position (reach_in journal work.copier) (reach_so work.copier)))

    lock_asks : (work : Work) → BytesAsked (lock_call plan state tool work)
    lock_asks work =
        unless_bytes (is_resting work.cutover.phase && not (may_begin plan state tool work)) None (attempts.next Locker work.cutover) tt (next_locker work.cutover)

    -- *What the tool asks is plain*
    pub tool_bytes : (turns : ℕ) (phase : ToolPhase) (actor : Actor) → PlainPhase plan turns phase → BytesAsked (tool_call plan state journal tool phase actor)
    tool_bytes turns (SettingUp setup tries) Insp is = unless_bytes (is_reverting tool.reason) None (setup_call plan setup) tt (setup_bytes setup)
    tool_bytes turns (Migrating work) Insp is = unless_bytes (is_resting work.cutover.phase) (note_call plan journal tool work) (attempts.next Inspector work.cutover) (note_asks work) (next_inspector work.cutover is.phase)
    tool_bytes turns (Migrating work) Copy is = unless_bytes (is_reverting tool.reason) (rolls_back state (live_session journal Copy)) (copy_call plan state journal tool work) (rolls_bytes state (live_session journal Copy)) (copy_asks turns work is)
    tool_bytes turns (Migrating work) Apply is = unless_bytes (is_reverting tool.reason) (rolls_back state (live_session journal Apply)) (apply_call plan state journal tool work) (rolls_bytes state (live_session journal Apply)) (apply_asks turns work is)
    tool_bytes turns (Migrating work) Lock is = lock_asks work
    tool_bytes turns (Migrating work) Ren is = next_renamer work.cutover
    tool_bytes turns phase actor is = tt

-- ---- clients

pub word_bytes : (word : ScriptWord) → BytesWord word → BytesRequest (word_asks word)
word_bytes words.Begin have = tt
word_bytes words.Commit have = tt
word_bytes words.Rollback have = tt
word_bytes (words.Do statement) have = have
