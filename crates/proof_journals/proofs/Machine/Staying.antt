-- *Tables stay tables* behind every journal of the program: no definition comes inside a transaction, and what is made is
-- lawful.
use Rattle.std.proofs.Common.{◌≡◌, ℕ, ◌+◌, Bool, true, false, cond, List, [], ◌∷◌, ◌++◌, Option, Some, None, refl, sym, ap, ◌∙◌, subst, inl}
use Rattle.std.specs.Prelude.{unwrap_or}
use Rattle.std.specs.List.{AllByRecursion, list_any, list_all}
use Rattle.std.specs.Str.{bytes_eq}
use Rattle.std.proofs.lemmas.Bool.{true≢false, false≢true}
use Rattle.base_script.specs.declared.actor.Actor.{Actor}
use Rattle.base_script.specs.declared.actor.Actor.TheVariants.{Op, Insp, Copy, Apply, Lock, Ren, Client}
use Rattle.base_script.specs.declared.script.ScriptWord.{ScriptWord}
use Rattle.base_script.specs.declared.script.ScriptWord.TheVariants as words
use Rattle.base_values.specs.declared.gho_schema.schema.Schema.{Schema}
use Rattle.base_values.specs.SchemaRules.Valid.{IsValid}
use Rattle.server_model.specs.LockedRows.Databases.{IsWellFormedDatabase}
use Rattle.server_model.specs.Along.{Along}
use Rattle.server_model.specs.declared.entry.Asked.{Asked}
use Rattle.server_model.specs.declared.entry.Asked.TheVariants.{Call, Poll, Command, Cut}
use Rattle.server_model.specs.declared.entry.Entry.{Entry}
use Rattle.server_model.specs.declared.request.Request.{Request}
use Rattle.server_model.specs.declared.request.Request.TheVariants as requests
use Rattle.server_model.specs.declared.session.Waiting.{Waiting}
use Rattle.server_model.specs.Entries.{is_client, is_command, same_actor}
use Rattle.server_model.specs.States.{State, is_in_transaction, tables_named, waiting_of}
use Rattle.plan_data.specs.PlanData.{PlanData}
use Rattle.tool_program.specs.JournalWords.Clients.{with_draw, Reached, client_asks, client_at, after_turn, client_after, became, new_client, script_of, word_asks}
use Rattle.tool_program.specs.JournalWords.Journals.{state_at, opens, may_lose}
use Rattle.tool_program.specs.Programs.{given, IsGiven, Follows}
use Rattle.tool_program.specs.Tools.{ToolPhase, SettingUp, Migrating, moment, is_reverting}
use Rattle.tool_program.proofs.OnlineCalls.Given as online
use Rattle.proof_journals.specs.Plans.{client_names, limits_of}
use Rattle.proof_journals.specs.Scenes.{NamesTable}
use Rattle.proof_journals.specs.Turns.{IsAllowed, IsReported, MayAsk, ToolAsks, AllOther, AtRest, RenamesSo, about, request_of, is_busy}
use Rattle.proof_journals.proofs.Joined.{reported_answer, reported_missed, reported_draw}
use Rattle.proof_journals.proofs.Journals.{JournalHolds, step, begins, opened_waits}
use Rattle.proof_journals.proofs.Naming.{script_lines}
use Rattle.proof_journals.proofs.Openings.{opening_well_formed}
use Rattle.proof_journals.proofs.Progress.{lines_stay, drawn_named}
use Rattle.proof_journals.proofs.ValidTables.{valid_table}
use Rattle.proof_journals.proofs.Faces.{busy_face}
use Rattle.tool_program.specs.declared.cutover_core.cutover.Hold.{Hold}
use Rattle.tool_program.specs.declared.cutover_core.cutover.Hold.TheVariants.{Nothing, WaitsToGuard, WaitsToLock, Locks}
use Rattle.proof_journals.specs.Machine.Standings.{Standing, standing_of}
use Rattle.proof_journals.specs.Machine.Machines.{ToolPhaseStands, held, renaming}
use Rattle.proof_journals.specs.Machine.FormedPlans.{IsFitting}
use Rattle.proof_journals.specs.Machine.Laws.{TablesStayTables}
use Rattle.proof_journals.proofs.Machine.Clients.{Next, calls_line, polls_line, client_next}
use Rattle.proof_journals.proofs.Machine.Journals.{IsRun, all_runs}
use Rattle.proof_journals.proofs.Machine.Making.{given_formed}
use Rattle.proof_journals.proofs.Machine.Polling.{AllTogether, AllWaits, waits_more, waits_begin, together_more_all, together_begins_all}
use Rattle.proof_journals.proofs.Machine.Schemas.{is_quiet}
use Rattle.proof_journals.proofs.Machine.Seated.{IsServed, IsOpen, is_open}
use Rattle.proof_journals.proofs.Machine.Spare.{scene_for, spare_mine, client_far, far_other, known_others}
use Rattle.proof_journals.proofs.Machine.Tabling.{may_define, QuietAt, given_quiet}

-- A NEW TABLE

-- WHAT IS ASKED

tool_may : (plan : PlanData) (request : Request) → AllOther (scene_for plan) (tables_named request) → ((schema : Schema) → request ≡ requests.Create schema → IsValid schema) → ToolAsks (scene_for plan) request
tool_may plan (requests.Do statement) far made = far.0
tool_may plan (requests.Create schema) far made = (far.0, valid_table schema (made schema refl))
tool_may plan (requests.Drop name) far made = far.0
tool_may plan (requests.Rename pairs) far made = inl far
tool_may plan (requests.CopyRow from into columns key) far made = far.1.0
tool_may plan request far made = tt

word_may : (plan : PlanData) (word : ScriptWord) → NamesTable (client_names plan) word → ToolAsks (scene_for plan) (word_asks word)
word_may plan words.Begin is = tt
word_may plan words.Commit is = tt
word_may plan words.Rollback is = tt
word_may plan (words.Do statement) is = far_other plan _ (client_far plan _ is)

-- each line that a client has left is one of its script
pub lines_named : (plan : PlanData) (journal : List Entry) (c : ℕ) → AllByRecursion (λ line. NamesTable (client_names plan) line.word) (client_at plan journal c).left
unfolding client_at
lines_named plan journal c = along (new_client (unwrap_or (script_of c plan) [])) journal (script_lines plan c) where
  turn : (client : Reached) (entry : Entry) (b : Bool) → AllByRecursion (λ line. NamesTable (client_names plan) line.word) client.left → AllByRecursion (λ line. NamesTable (client_names plan) line.word) (cond b (client_after (became client entry) (with_draw entry.draw client)) client).left
  turn client entry true all = lines_stay (λ line. NamesTable (client_names plan) line.word) (became client entry) (with_draw entry.draw client) (drawn_named (client_names plan) entry.draw client all)
  turn client entry false all = all

  along : (client : Reached) (entries : List Entry) → AllByRecursion (λ line. NamesTable (client_names plan) line.word) client.left → AllByRecursion (λ line. NamesTable (client_names plan) line.word) (Rattle.std.specs.Prelude.fold (after_turn c) client entries).left
  along client [] all = all
  along client (entry ∷ entries) all = along (after_turn c client entry) entries (turn client entry (same_actor entry.actor (Client c)) all)

valid_made : (plan : PlanData) (journal : List Entry) (actor : Actor) (request : Request) → IsFitting plan → given plan journal actor ≡ Some (Call request) → (schema : Schema) → request ≡ requests.Create schema → IsValid schema
valid_made plan journal actor request fit gives schema same =
    (subst (Rattle.server_model.specs.Conditions.IsWellFormed (state_at plan journal).tables) same (given_formed plan journal (state_at plan journal).tables fit actor request (λ one has. absurd (true≢false (sym has ∙ ap Rattle.proof_journals.specs.Machine.Laws.has_keys same))) gives)).valid

tool_given : (plan : PlanData) (journal : List Entry) (actor : Actor) (request : Request) → IsFitting plan → is_client actor ≡ false → given plan journal actor ≡ Some (Call request) → ToolAsks (scene_for plan) request
tool_given plan journal actor request fit tool gives = tool_may plan request (known_others plan (tables_named request) (online.given_calls plan journal actor request tool gives).names) (valid_made plan journal actor request fit gives)

client_given : (plan : PlanData) (journal : List Entry) (c : ℕ) (request : Request) → client_asks plan journal c ≡ Some (Call request) → ToolAsks (scene_for plan) request
client_given plan journal c request gives = by (client_next plan journal c (Call request) gives) where
  by : Next (client_at plan journal c) (Call request) → ToolAsks (scene_for plan) request
  by (calls_line line lines going off left same) =
      let one : word_asks line.word ≡ request = cc in
      subst (ToolAsks (scene_for plan)) one (word_may plan line.word (subst (AllByRecursion (λ line. NamesTable (client_names plan) line.word)) left (lines_named plan journal c)).0)
  by (polls_line going on same) = absurd (no same) where
    no : Call request ≡ Poll → ⊥
    no both = cc

given_may : (plan : PlanData) (journal : List Entry) (actor : Actor) (request : Request) → IsFitting plan → given plan journal actor ≡ Some (Call request) → ToolAsks (scene_for plan) request
unfolding given
given_may plan journal (Client c) request fit gives = client_given plan journal c request gives
given_may plan journal Op request fit gives = tool_given plan journal Op request fit refl gives
given_may plan journal Insp request fit gives = tool_given plan journal Insp request fit refl gives
given_may plan journal Copy request fit gives = tool_given plan journal Copy request fit refl gives
given_may plan journal Apply request fit gives = tool_given plan journal Apply request fit refl gives
given_may plan journal Lock request fit gives = tool_given plan journal Lock request fit refl gives
given_may plan journal Ren request fit gives = tool_given plan journal Ren request fit refl gives

-- WHAT COMES OUTSIDE A TRANSACTION

pub rest_if : (busy : Bool) (request : Request) → (is_quiet request ≡ false → busy ≡ false) → AtRest busy (Some request)
rest_if busy (requests.Create schema) is = is refl
rest_if busy (requests.Drop name) is = is refl
rest_if busy (requests.Rename pairs) is = is refl
rest_if busy request is = tt

held_rests : (table : List ℕ) (hold : Hold) → (held table hold).busy ≡ false
held_rests table Nothing = refl
held_rests table WaitsToGuard = refl
held_rests table WaitsToLock = refl
held_rests table Locks = refl

renaming_rests : (table : List ℕ) (waits : Bool) → (renaming table waits).busy ≡ false
renaming_rests table true = refl
renaming_rests table false = refl

-- an actor that defines tables is in no transaction
pub defines_out : (plan : PlanData) (journal : List Entry) (reverting : Bool) (tool_phase : ToolPhase) (actor : Actor) → ToolPhaseStands journal (standing_of plan journal) reverting tool_phase → may_define actor ≡ true → (standing_of plan journal actor).busy ≡ false
defines_out plan journal reverting (SettingUp setup tries) Insp at may = at.inspector.busy
defines_out plan journal reverting (Migrating work) Insp at may = at.inspector.busy
defines_out plan journal reverting (SettingUp setup tries) Lock at may = ap (λ (s : Standing). s.busy) at.locker
defines_out plan journal reverting (Migrating work) Lock at may = ap (λ (s : Standing). s.busy) at.locker ∙ held_rests work.cutover.table work.cutover.hold
defines_out plan journal reverting (SettingUp setup tries) Ren at may = ap (λ (s : Standing). s.busy) at.renamer
defines_out plan journal reverting (Migrating work) Ren at may = ap (λ (s : Standing). s.busy) at.renamer ∙ renaming_rests work.cutover.table work.cutover.renamer_waits
defines_out plan journal reverting tool_phase Op at may = absurd (false≢true may)
defines_out plan journal reverting tool_phase Copy at may = absurd (false≢true may)
defines_out plan journal reverting tool_phase Apply at may = absurd (false≢true may)
defines_out plan journal reverting tool_phase (Client c) at may = absurd (false≢true may)

record QuietKnown (plan : PlanData) (journal : List Entry) : Type 0 where
  all : AllTogether plan journal
  quiet : AllWaits QuietAt plan journal

-- ONE TURN

module _ (plan : PlanData) (journal : List Entry) (entry : Entry) (fit : IsFitting plan) (is : QuietKnown plan journal) (run : IsRun plan journal entry) where
  abbrev now : State
  now = state_at plan journal

  served : IsServed plan journal entry
  served = record { answered = run.answered; seated = record { session = run.followed.session } }

  -- of a request that its actor may ask, or waits with
  rests_with : is_command entry.asked ≡ false → (request : Request) → QuietAt entry.actor request → AtRest (is_busy entry.session (opens entry now)) (Some request)
  rests_with called request quiet = rest_if (is_busy entry.session (opens entry now)) request (λ loud. busy_is ∙ by loud (may_define entry.actor) refl) where
    open_one : IsOpen plan journal entry is.all.tool.known served
    open_one = is_open plan journal entry is.all.tool.known served called

    busy_is : is_busy entry.session (opens entry now) ≡ (standing_of plan journal entry.actor).busy
    busy_is = ap is_in_transaction open_one.is ∙ busy_face (Some open_one.found) ∙ ap (λ (s : Standing). s.busy) (sym open_one.stands)

    by : is_quiet request ≡ false → (b : Bool) → may_define entry.actor ≡ b → (standing_of plan journal entry.actor).busy ≡ false
    by loud true may = defines_out plan journal (is_reverting (moment plan journal).tool.reason) (moment plan journal).tool.tool_phase entry.actor is.all.tool.stands may
    by loud false may = absurd (true≢false (sym (quiet may) ∙ loud))

  -- of what waits
  rests_waiting : is_command entry.asked ≡ false → (asks : Option Request) → request_of (waiting_of entry.session (opens entry now).waiting) ≡ asks → AtRest (is_busy entry.session (opens entry now)) asks
  rests_waiting called None none = tt
  rests_waiting called (Some request) some =
      rests_with called request
      (is.quiet entry.actor request
      (ap (λ (s : Standing). s.waits) (is_open plan journal entry is.all.tool.known served called).stands ∙ ap (λ (w : List Waiting). request_of (waiting_of entry.session w)) (sym (opened_waits (is_command entry.asked) (Rattle.std.proofs.Common.not (is_client entry.actor)) entry.session now)) ∙ some))

  abbrev Rests : Asked → Type 0
  Rests asked = AtRest (is_busy entry.session (opens entry now)) (about (opens entry now) entry.session asked)

  rests_at : (asked : Asked) → entry.asked ≡ asked → IsGiven plan journal entry asked → Rests asked
  rests_at (Call request) asks gives = rests_with (ap is_command asks) request (given_quiet plan journal entry.actor request is.all gives)
  rests_at Poll asks gives = rests_waiting (ap is_command asks) (request_of (waiting_of entry.session (opens entry now).waiting)) refl
  rests_at Cut asks gives = rests_waiting (ap is_command asks) (request_of (waiting_of entry.session (opens entry now).waiting)) refl
  rests_at (Command word) asks gives = tt

  may_at : (asked : Asked) → IsGiven plan journal entry asked → MayAsk (scene_for plan) entry.session asked
  may_at (Call request) gives = given_may plan journal entry.actor request fit gives
  may_at Poll gives = tt
  may_at Cut gives = tt
  may_at (Command word) gives = tt

  never_renames : (asks : Option Request) → RenamesSo (scene_for plan) now.tables asks
  never_renames None = tt
  never_renames (Some (requests.Rename pairs)) = λ may takes after is. absurd (false≢true may)
  never_renames (Some request) = tt

  command_sides : (asked : Asked) → is_command asked ≡ true → may_lose asked ≡ false
  command_sides (Command word) is = refl
  command_sides (Call request) is = absurd (false≢true is)
  command_sides Poll is = absurd (false≢true is)
  command_sides Cut is = refl

  allowed : IsAllowed (limits_of plan) (scene_for plan) journal entry
  allowed = record {
    may = may_at entry.asked run.followed.given;
    commands = λ command. run.answered.sides (command_sides entry.asked command);
    rests = rests_at entry.asked refl run.followed.given;
    renames = λ reported. never_renames (about (opens entry now) entry.session entry.asked);
  }

  reported : IsReported (limits_of plan) (scene_for plan) journal entry
  reported = record { answer = reported_answer now entry run.answered; missed = reported_missed now entry run.answered; draw = reported_draw now entry run.answered }

  quiet_more : QuietKnown plan (journal ++ entry ∷ [])
  quiet_more = record {
    all = together_more_all plan journal entry is.all run;
    quiet = waits_more QuietAt plan journal entry is.all is.quiet run (λ request asks gives. given_quiet plan journal entry.actor request is.all gives);
  }

-- WHOLE JOURNALS

stays : (plan : PlanData) → IsFitting plan → (before journal : List Entry) → Along (IsRun plan) before journal → QuietKnown plan before → JournalHolds (limits_of plan) (scene_for plan) before → Along (λ some entry. IsWellFormedDatabase (state_at plan some).tables) before journal
stays plan fit before [] runs is holds = tt
stays plan fit before (entry ∷ journal) runs is holds = (
  holds.holds.kept.well_formed,
  stays plan fit (before ++ entry ∷ []) journal runs.1 (quiet_more plan before entry fit is runs.0)
      (step (limits_of plan) (scene_for plan) (spare_mine plan) before entry (reported plan before entry fit is runs.0, allowed plan before entry fit is runs.0) holds),
)

-- *Tables stay tables*
pub tables_stay : TablesStayTables
unfolding Follows
tables_stay plan journal fit tables faithful follows =
    stays plan fit [] journal (all_runs plan [] journal faithful follows) (record { all = together_begins_all plan fit; quiet = waits_begin QuietAt plan }) (begins (limits_of plan) (scene_for plan) (opening_well_formed plan.tables tables))
