-- Journals: what each entry does to its session's transaction, and what ended.
use Rattle.std.specs.Prelude.{◌≡◌, ◌⊎◌, ℕ, ◌==◌, Bool, true, false, if◌then◌else◌, List, [], ◌∷◌, ◌++◌, Option, Some, None, Ok, option_to_list}
use Rattle.std.specs.List.{AllByRecursion}
use Rattle.base_values.specs.declared.mysql_errors.TheConstants.{ER_LOCK_WAIT_TIMEOUT}
use Rattle.table_store.specs.Databases.{TableRows, Database, find_table, rename_tables, name_table}
use Rattle.table_store.specs.declared.renames.Pair.{Pair}
use Rattle.base_script.specs.declared.actor.Side.{Side}
use Rattle.base_script.specs.declared.actor.Side.TheVariants.{Before, After}
use Rattle.base_script.specs.declared.script.ScriptWord.{ScriptWord}
use Rattle.base_script.specs.declared.script.ScriptWord.TheVariants as words
use Rattle.server_model.specs.declared.answer.Answer.{Answer}
use Rattle.server_model.specs.declared.answer.Answer.TheVariants as answers
use Rattle.server_model.specs.declared.transaction.Mark.{Mark}
use Rattle.server_model.specs.declared.transaction.Mark.TheVariants as marks
use Rattle.server_model.specs.declared.transaction.TxnEnd.{TxnEnd}
use Rattle.server_model.specs.declared.transaction.TxnEnd.TheVariants as ends
use Rattle.server_model.specs.declared.transaction.Reply.{Reply}
use Rattle.server_model.specs.declared.transaction.Reply.TheVariants as replies
use Rattle.server_model.specs.declared.session.Limits.{Limits}
use Rattle.proof_journals.specs.Scenes.{Scene, is_mine, AltersTo, NamesTable, PlainItem, Txn, Alter, Going, not_going}
use Rattle.server_model.specs.Along.{Along, gathered}
use Rattle.server_model.specs.LockedRows.Coverage.{IsWellFormedTable}
use Rattle.server_model.specs.LockedRows.Databases.{IsWellFormedDatabase}
use Rattle.server_model.specs.Operations.{table_of}
use Rattle.server_model.specs.declared.request.Request.TheVariants as requests
use Rattle.server_model.specs.declared.request.Request.TheVariants.{CopyRow, Create, Drop, Rename}
use Rattle.server_model.specs.declared.request.Request.{Request}
use Rattle.base_script.specs.declared.actor.Actor.{Actor}
use Rattle.server_model.specs.declared.entry.Asked.{Asked}
use Rattle.server_model.specs.declared.entry.Asked.TheVariants.{Call, Poll, Command, Cut}
use Rattle.server_model.specs.declared.entry.Entry.{Entry}
use Rattle.server_model.specs.Entries.{is_command}
use Rattle.server_model.specs.PlainServer.{serves, asks_for, request_waiting}
use Rattle.server_model.specs.Drawing.{numbered}
use Rattle.server_model.specs.Counting.{drawn_by}
use Rattle.server_model.specs.Answers.{ok}
use Rattle.server_model.specs.Alone.{reply_of}
use Rattle.server_model.specs.States.{State, is_in_transaction, names_in, opened, session_of, waiting_of}
use Rattle.server_model.specs.declared.session.Waiting.{Waiting}
use Rattle.proof_journals.specs.LineRequests.{word_in}
use Rattle.tool_program.specs.JournalWords.Journals.{opens, after_entry, state_after}
use Rattle.tool_program.specs.JournalWords.Histories.{takes_away, renames_away}

-- *State of a scene*: the server after a journal that begins with the scene's tables
abbrev pub scene_state : Limits → Scene → List Entry → State
scene_state limits scene journal = state_after (opened limits scene.opening) journal

-- what the server answers in this turn, also where the answer is lost
abbrev pub inner : State → Entry → Answer
inner state entry = (serves (opens entry state) entry.session entry.asked).answer

-- what the entry has for an answer, and for one that was missed
abbrev pub answer_at : Option Side → Answer → Answer
answer_at None given = given
answer_at (Some side) given = answers.Lost

abbrev pub missed_at : Option Side → Answer → Option Answer
missed_at None given = None
missed_at (Some Before) given = None
missed_at (Some After) given = Some given

-- the number that was drawn
abbrev pub drawn_side : Option Side → State → ℕ → Asked → Option ℕ
drawn_side (Some Before) state number asked = None
drawn_side side state number asked = drawn_by state number (asks_for state number asked) (serves state number asked).answer

abbrev pub drawn_at : Option Side → State → Entry → Option ℕ
drawn_at side state entry = drawn_side side (opens entry state) entry.session entry.asked

-- the entry's answers are the server's
pub record IsReported (limits : Limits) (scene : Scene) (before : List Entry) (entry : Entry) : Type 0 where
  pub answer : entry.answer ≡ answer_at entry.side (inner (scene_state limits scene before) entry)
  pub missed : entry.missed ≡ missed_at entry.side (inner (scene_state limits scene before) entry)
  pub draw : entry.draw ≡ drawn_at entry.side (scene_state limits scene before) entry

abbrev pub AllReported : Limits → Scene → List Entry → Type 0
AllReported limits scene journal = Along (IsReported limits scene) [] journal

-- a turn; and the journal that the server keeps of turns
pub record Turn : Type 0 where
  pub actor : Actor
  pub session : ℕ
  pub asked : Asked
  pub side : Option Side

abbrev pub unanswered : Turn → Entry
unanswered turn = record { actor = turn.actor; session = turn.session; asked = turn.asked; side = turn.side; answer = ok; missed = None; draw = None }

abbrev pub answered : State → Turn → Entry
answered state turn = record { actor = turn.actor; session = turn.session; asked = turn.asked; side = turn.side; answer = answer_at turn.side (inner state (unanswered turn)); missed = missed_at turn.side (inner state (unanswered turn)); draw = drawn_at turn.side state (unanswered turn) }

unfoldable pub kept_from : State → List Turn → List Entry
kept_from state [] = []
kept_from state (turn ∷ turns) = answered state turn ∷ kept_from (after_entry state (unanswered turn)) turns

abbrev pub journal_of : Limits → Scene → List Turn → List Entry
journal_of limits scene turns = kept_from (opened limits scene.opening) turns

-- WHAT AN ENTRY DOES, BY ITS ANSWERS

-- what a turn does to its session's transaction: nothing; a line more; a last line; an end without a line; or the
-- migrated table is altered
pub data LineOutcome : Type 0 where
  Still : LineOutcome
  Adds : ScriptWord → Mark → List Reply → LineOutcome
  Ends : ScriptWord → Mark → List Reply → TxnEnd → LineOutcome
  Breaks : TxnEnd → LineOutcome
  Alters : LineOutcome

-- a line that was answered
abbrev pub line_outcome_answered : Bool → ScriptWord → Mark → List Reply → LineOutcome
line_outcome_answered busy words.Begin mark got = Adds words.Begin mark got
line_outcome_answered busy words.Commit mark got = Ends words.Commit mark got ends.Committed
line_outcome_answered busy words.Rollback mark got = Ends words.Rollback mark got ends.RolledBack
line_outcome_answered true (words.Do statement) mark got = Adds (words.Do statement) mark got
line_outcome_answered false (words.Do statement) mark got = Ends (words.Do statement) mark got ends.Single

abbrev pub word_given : Bool → ScriptWord → Answer → LineOutcome
word_given busy word (answers.Ok count) = line_outcome_answered busy word marks.Answered (option_to_list (reply_of (answers.Ok count)))
word_given busy word (answers.Rows rows) = line_outcome_answered busy word marks.Answered (option_to_list (reply_of (answers.Rows rows)))
word_given busy word (answers.Refused number column) = line_outcome_answered busy word marks.Answered (option_to_list (reply_of (answers.Refused number column)))
word_given busy word (answers.TimedOut waited) = Ends word marks.TimedOut (replies.Error ER_LOCK_WAIT_TIMEOUT ∷ []) ends.TimedOut
word_given busy word answer = Still

-- the request was done, though its answer was missed
abbrev pub was_given : Option Answer → Bool
was_given None = false
was_given (Some (answers.Waits by)) = false
was_given (Some (answers.TimedOut waited)) = false
was_given (Some answers.Lost) = false
was_given (Some given) = true

abbrev pub mark_lost : Bool → Mark
mark_lost true = marks.Lost After
mark_lost false = marks.Lost Before

-- a session is lost
abbrev pub broken : Bool → LineOutcome
broken true = Breaks ends.Lost
broken false = Still

abbrev pub line_lost : Bool → Option ScriptWord → Option Answer → LineOutcome
line_lost busy (Some word) missed = Ends word (mark_lost (was_given missed)) [] ends.Lost
line_lost busy None missed = broken busy

abbrev pub word_lost : Bool → Option Request → Option Answer → LineOutcome
word_lost busy None missed = broken busy
word_lost busy (Some request) missed = line_lost busy (word_in request) missed

abbrev pub line_asked : Bool → Option ScriptWord → Answer → LineOutcome
line_asked busy (Some word) given = word_given busy word given
line_asked busy None given = Still

abbrev pub word_asked : Bool → Option Request → Answer → LineOutcome
word_asked busy None given = Still
word_asked busy (Some request) given = line_asked busy (word_in request) given

-- what a client's turn does
abbrev pub client_line_outcome : Option Side → Bool → Asked → Option Request → Answer → Option Answer → LineOutcome
client_line_outcome None busy Cut asks given missed = word_lost busy asks None
client_line_outcome None busy (Call request) asks given missed = word_asked busy asks given
client_line_outcome None busy Poll asks given missed = word_asked busy asks given
client_line_outcome None busy (Command word) asks given missed = Still
client_line_outcome (Some side) busy asked asks given missed = word_lost busy asks missed

-- it was done
abbrev pub line_outcome_renamed : Bool → Option Answer → LineOutcome
line_outcome_renamed true (Some ((answers.Ok count))) = Alters
line_outcome_renamed away reported = Still

-- the answer that was got or missed
abbrev pub reported_at : Option Side → Answer → Option Answer → Option Answer
reported_at None given missed = Some given
reported_at (Some side) given missed = missed

abbrev pub request_of : Option Waiting → Option Request
request_of waiting = request_waiting waiting

-- a statement with the number that it drew
abbrev pub request_numbered : ℕ → Request → Request
request_numbered number (requests.Do statement) = requests.Do (numbered (Some number) statement)
request_numbered number request = request

abbrev pub drawn_request : Option ℕ → Option Request → Option Request
drawn_request None asks = asks
drawn_request (Some number) None = None
drawn_request (Some number) (Some request) = Some (request_numbered number request)

-- what the turn is about
abbrev pub about : State → ℕ → Asked → Option Request
about state number (Call request) = Some request
about state number Poll = request_of (waiting_of number state.waiting)
about state number Cut = request_of (waiting_of number state.waiting)
about state number (Command word) = None

abbrev pub is_busy : ℕ → State → Bool
is_busy number state = is_in_transaction (session_of number state.sessions)

abbrev pub line_outcome_if : Bool → Scene → State → ℕ → Asked → Option Side → Answer → Option Answer → Option ℕ → LineOutcome
line_outcome_if true scene state number asked side given missed draw = client_line_outcome side (is_busy number state) asked (drawn_request draw (about state number asked)) given missed
line_outcome_if false scene state number asked side given missed draw = line_outcome_renamed (renames_away scene.migrated (about state number asked)) (reported_at side given missed)

abbrev pub line_outcome : Scene → State → Entry → LineOutcome
line_outcome scene state entry = line_outcome_if (scene.client entry.session) scene (opens entry state) entry.session entry.asked entry.side entry.answer entry.missed entry.draw

-- the open transaction afterwards
abbrev pub going_on : LineOutcome → Going → Going
going_on Still going = going
going_on (Adds word mark got) going = record { lines = going.lines ++ record { word = word; mark = mark } ∷ []; replies = going.replies ++ got }
going_on (Ends word mark got ended) going = not_going
going_on (Breaks ended) going = not_going
going_on Alters going = going

-- what is added to what happened
abbrev pub happens : LineOutcome → Going → List PlainItem
happens Still going = []
happens (Adds word mark got) going = []
happens (Ends word mark got ended) going =
    Txn (record { txn = record { lines = going.lines ++ record { word = word; mark = mark } ∷ []; ended = ended }; replies = going.replies ++ got }) ∷ []
happens (Breaks ended) going = Txn (record { txn = record { lines = going.lines; ended = ended }; replies = going.replies }) ∷ []
happens Alters going = Alter ∷ []

abbrev pub goings_after : ℕ → LineOutcome → (ℕ → Going) → ℕ → Going
goings_after number line_outcome going n = if n == number then going_on line_outcome (going n) else going n

unfoldable pub goings_from : Scene → State → (ℕ → Going) → List Entry → ℕ → Going
goings_from scene state going [] = going
goings_from scene state going (entry ∷ entries) = goings_from scene (after_entry state entry) (goings_after entry.session (line_outcome scene state entry) going) entries

-- the open transactions after a journal
abbrev pub goings_at : Limits → Scene → List Entry → ℕ → Going
goings_at limits scene journal = goings_from scene (opened limits scene.opening) (λ n. not_going) journal

-- what an entry adds to the history
abbrev pub entry_adds : Limits → Scene → List Entry → Entry → List PlainItem
entry_adds limits scene before entry = happens (line_outcome scene (scene_state limits scene before) entry) (goings_at limits scene before entry.session)

-- *History*: what ended, in the order of the turns that ended it
unfoldable pub history : Limits → Scene → List Entry → List PlainItem
history limits scene journal = gathered (entry_adds limits scene) [] journal

-- WHAT A JOURNAL MAY ASK

abbrev pub AllOther : Scene → List (List ℕ) → Type 0
AllOther scene names = AllByRecursion (λ name. is_mine scene name ≡ false) names

-- a client asks lines about client tables
abbrev pub LineOf : Scene → Option ScriptWord → Type 0
LineOf scene None = ⊥
LineOf scene (Some word) = NamesTable scene.mine word

abbrev pub ClientAsks : Scene → Request → Type 0
ClientAsks scene request = LineOf scene (word_in request)

-- the tool writes, makes, drops and renames no client table, but that it may rename the migrated one where that is allowed
abbrev pub ToolAsks : Scene → Request → Type 0
ToolAsks scene (requests.Do statement) = is_mine scene (table_of statement) ≡ false
ToolAsks scene (Create schema) = (is_mine scene schema.name ≡ false) × IsWellFormedTable (record { schema = schema; rows = [] })
ToolAsks scene (Drop name) = is_mine scene name ≡ false
ToolAsks scene (Rename pairs) = AllOther scene (names_in (Rename pairs)) ⊎ ((scene.exchanges ≡ true) × (takes_away scene.migrated pairs ≡ true))
ToolAsks scene (CopyRow from into columns key) = is_mine scene into ≡ false
ToolAsks scene request = Unit {0}

abbrev pub MayAskIf : Bool → Scene → Request → Type 0
MayAskIf true scene request = ClientAsks scene request
MayAskIf false scene request = ToolAsks scene request

abbrev pub MayAsk : Scene → ℕ → Asked → Type 0
MayAsk scene number (Call request) = MayAskIf (scene.client number) scene request
MayAsk scene number Poll = Unit {0}
MayAsk scene number Cut = Unit {0}
MayAsk scene number (Command word) = Unit {0}

-- the exchange of the migrated table with its ghost, where the ghost is the altered table: neither the ghost nor the name
-- that the old table gets is a client table's
pub record IsExchange (scene : Scene) (tables : Database) (pairs : List Pair) : Type 0 where
  pub ghost : List ℕ
  pub kept : List ℕ
  pub pairs_are : pairs ≡ record { old = scene.migrated; new = kept } ∷ record { old = ghost; new = scene.migrated } ∷ []
  pub ghost_other : is_mine scene ghost ≡ false
  pub kept_other : is_mine scene kept ≡ false
  pub old : TableRows
  pub new : TableRows
  pub was : find_table scene.migrated tables ≡ Some old
  pub stands : find_table ghost tables ≡ Some new
  pub made : scene.altered old ≡ Some (name_table scene.migrated new)

-- where the turn is about the RENAME of the migrated table, this one becomes the altered one
abbrev pub RenamesSo : Scene → Database → Option Request → Type 0
RenamesSo scene tables (Some (Rename pairs)) = scene.exchanges ≡ true → takes_away scene.migrated pairs ≡ true → (after : Database) → rename_tables pairs tables ≡ Ok after → AltersTo scene tables after
RenamesSo scene tables asks = Unit {0}

-- CREATE, DROP and RENAME are asked outside a transaction: the server would do them within one too
abbrev pub AtRest : Bool → Option Request → Type 0
AtRest busy (Some (Create schema)) = busy ≡ false
AtRest busy (Some (Drop name)) = busy ≡ false
AtRest busy (Some (Rename pairs)) = busy ≡ false
AtRest busy asks = Unit {0}

-- what is seen of a turn; only where the request was done the RENAME counts
abbrev pub DefinesSo : Scene → Bool → Database → Option Request → Option Answer → Type 0
DefinesSo scene busy tables asks reported = AtRest busy asks × (reported ≡ Some ok → RenamesSo scene tables asks)

-- *Allowed*: what an entry may ask
pub record IsAllowed (limits : Limits) (scene : Scene) (before : List Entry) (entry : Entry) : Type 0 where
  pub may : MayAsk scene entry.session entry.asked
  pub commands : is_command entry.asked ≡ true → entry.side ≡ None
  pub rests : AtRest (is_busy entry.session (opens entry (scene_state limits scene before))) (about (opens entry (scene_state limits scene before)) entry.session entry.asked)
  pub renames : reported_at entry.side entry.answer entry.missed ≡ Some ok → RenamesSo scene (scene_state limits scene before).tables (about (opens entry (scene_state limits scene before)) entry.session entry.asked)

-- *Run of a scene*: its tables are tables, and the migrated one is a client's; each entry has the server's answers and asks
-- what it may
pub record IsSceneRun (limits : Limits) (scene : Scene) (journal : List Entry) : Type 0 where
  pub well_formed : IsWellFormedDatabase scene.opening
  pub migrated : is_mine scene scene.migrated ≡ true
  pub reported : AllReported limits scene journal
  pub allowed : Along (IsAllowed limits scene) [] journal
