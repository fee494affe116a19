-- The deed of an entry's request, by what its session holds; and moments that are the same.
use Rattle.std.proofs.Common.{◌≡◌, ℕ, Bool, true, false, not, List, refl, sym, ap, ◌∙◌, subst}
use Rattle.std.specs.Prelude.{◌==◌}
use Rattle.base_values.specs.declared.event.RowEvent.{RowEvent}
use Rattle.base_values.specs.declared.mysql_errors.TheConstants.{ER_TABLE_NOT_LOCKED}
use Rattle.table_store.specs.Databases.{Database}
use Rattle.server_model.specs.declared.entry.Asked.{Asked}
use Rattle.server_model.specs.declared.entry.Asked.TheVariants.{Call, Poll, Cut, Command}
use Rattle.server_model.specs.declared.entry.Entry.{Entry}
use Rattle.server_model.specs.declared.request.Request.{Request}
use Rattle.server_model.specs.declared.session.Session.{Session}
use Rattle.server_model.specs.Answers.{refuses}
use Rattle.server_model.specs.Effects.{Effect, effect, effect_unless, effect_within, is_outside}
use Rattle.server_model.specs.Effects.Effect.{Rests}
use Rattle.server_model.specs.Entries.{is_client, is_command}
use Rattle.server_model.specs.Operations.{after_events}
use Rattle.server_model.specs.States.{State, is_in_transaction, session_of, view, writes_of}
use Rattle.tool_program.specs.JournalWords.Journals.{opens}
use Rattle.server_model.proofs.LockedRows.Tests.{are_one}
use Rattle.proof_journals.specs.Scenes.{Besides, SessionHold, Stored}
use Rattle.proof_journals.specs.Holdings.{Face, face_of, stored}
use Rattle.proof_journals.proofs.Faces.{faces_opened, writes_face, busy_face}
use Rattle.proof_journals.proofs.Journals.{stored_opened}
use Rattle.proof_journals.specs.Ghost.Rows.Moments.{Row}
use Rattle.proof_journals.specs.Ghost.Rows.Timelines.{Migration}
use Rattle.proof_journals.specs.Ghost.HeldKeys.{Clustered}
use Rattle.proof_journals.specs.Ghost.EffectStates.{where_done}
use Rattle.proof_journals.specs.Ghost.ToolTurns.{ApplyPlan, ToolStands}
use Rattle.proof_journals.specs.Ghost.Tool.{CopyState}
use Rattle.proof_journals.proofs.Ghost.Leaving.{holds_of}
use Rattle.proof_migration.specs.Migration.Copier.CopierPlace.{moment_of}

-- the tables as the session sees them
abbrev pub seen_of : State → ℕ → Database
seen_of state number = after_events state.tables (holds_of state number).writes

tables_done : (asked : Asked) (number : ℕ) (state : State) → (where_done asked number state).tables ≡ state.tables
tables_done (Call request) number state = refl
tables_done Poll number state = refl
tables_done Cut number state = refl
tables_done (Command word) number state = refl

log_done : (asked : Asked) (number : ℕ) (state : State) → (where_done asked number state).log ≡ state.log
log_done (Call request) number state = refl
log_done Poll number state = refl
log_done Cut number state = refl
log_done (Command word) number state = refl

sessions_done : (asked : Asked) (number : ℕ) (state : State) → (where_done asked number state).sessions ≡ state.sessions
sessions_done (Call request) number state = refl
sessions_done Poll number state = refl
sessions_done Cut number state = refl
sessions_done (Command word) number state = refl

-- *The deed of a request*, by what its session holds before the turn: it is refused outside the locked tables, or is this
pub data Deeded (state : State) (number : ℕ) (request : Request) (one : Effect) : Type 0 where
  outside_so : one ≡ Rests (refuses ER_TABLE_NOT_LOCKED) → Deeded state number request one
  within_so : (there : State) → there.tables ≡ state.tables → there.log ≡ state.log → one ≡ effect_within (face_of state.sessions number).busy (seen_of state number) there request → Deeded state number request one

pub deeded : (entry : Entry) (state : State) (request : Request) → Deeded state entry.session request (effect (where_done entry.asked entry.session (opens entry state)) entry.session request)
deeded entry state request = by (is_outside (session_of entry.session there.sessions) request) refl
  where
    now : State
    now = opens entry state

    there : State
    there = where_done entry.asked entry.session now

    faces : face_of there.sessions entry.session ≡ face_of state.sessions entry.session
    faces = ap (λ (sessions : List Session). face_of sessions entry.session) (sessions_done entry.asked entry.session now) ∙ faces_opened (is_command entry.asked) (not (is_client entry.actor)) entry.session entry.session state

    tables : there.tables ≡ state.tables
    tables = tables_done entry.asked entry.session now ∙ ap (λ (s : Stored). s.tables) (stored_opened (is_command entry.asked) (not (is_client entry.actor)) entry.session state)

    log : there.log ≡ state.log
    log = log_done entry.asked entry.session now ∙ ap (λ (s : Stored). s.log) (stored_opened (is_command entry.asked) (not (is_client entry.actor)) entry.session state)

    busy : is_in_transaction (session_of entry.session there.sessions) ≡ (face_of state.sessions entry.session).busy
    busy = busy_face (session_of entry.session there.sessions) ∙ ap (λ (f : Face). f.busy) faces

    writes : writes_of (session_of entry.session there.sessions) ≡ (holds_of state entry.session).writes
    writes = writes_face (session_of entry.session there.sessions) ∙ ap (λ (f : Face). f.hold.writes) faces

    seen : view entry.session there ≡ seen_of state entry.session
    seen = ap (λ (d : Database). after_events d (writes_of (session_of entry.session there.sessions))) tables ∙ ap (λ (w : List RowEvent). after_events state.tables w) writes

    by : (outside : Bool) → is_outside (session_of entry.session there.sessions) request ≡ outside → Deeded state entry.session request (effect there entry.session request)
    by true is = outside_so (ap (λ (b : Bool). effect_unless b (is_in_transaction (session_of entry.session there.sessions)) (view entry.session there) there request) is)
    by false is =
        within_so there tables log
        (ap (λ (b : Bool). effect_unless b (is_in_transaction (session_of entry.session there.sessions)) (view entry.session there) there request) is
        ∙ ap (λ (b : Bool). effect_within b (view entry.session there) there request) busy ∙ ap (λ (d : Database). effect_within (face_of state.sessions entry.session).busy d there request) seen)

-- what a session holds is as before
pub besides_same : (number : ℕ) (old new : ℕ → SessionHold) (own : SessionHold) → Besides number old new own → own ≡ old number → new ≡ old
besides_same number old new own besides same = λ i n. each n (n == number) refl i
  where
    each : (n : ℕ) (b : Bool) → (n == number) ≡ b → new n ≡ old n
    each n true is = let one : n ≡ number = are_one n number is in subst (λ (k : ℕ). new k ≡ old k) (sym one) (besides.here ∙ same)
    each n false is = besides.there n is

-- *The same moment*
pub stands_same : (m : Migration) (at : Clustered m.schema) (rows : List Row) (copier applier : ℕ) (before after : State) (copy copied : CopyState) (plan : ApplyPlan) (position number : ℕ) (own : SessionHold) → stored after ≡ stored before → Besides number (holds_of before) (holds_of after) own → own ≡ holds_of before number
    → copied ≡ copy → ToolStands m at rows copier applier (moment_of before copy plan position) → ToolStands m at rows copier applier (moment_of after copied plan position)
stands_same m at rows copier applier before after copy copied plan position number own same besides is moved stands =
    subst (λ (s : Stored). ToolStands m at rows copier applier (record { stored = s; hold = holds_of after; copy = copied; plan = plan; position = position })) (sym same)
    (subst (λ (h : ℕ → SessionHold). ToolStands m at rows copier applier (record { stored = stored before; hold = h; copy = copied; plan = plan; position = position })) (sym (besides_same number (holds_of before) (holds_of after) own besides is))
    (subst (λ (c : CopyState). ToolStands m at rows copier applier (record { stored = stored before; hold = holds_of before; copy = c; plan = plan; position = position })) (sym moved) stands))
