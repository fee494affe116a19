-- What a turn logs of the changelog: nothing; or the hint row or the row of a note that the inspector writes.
use Rattle.proof_migration.proofs.ToolServes.{filled_so}
use Rattle.std.proofs.Common.{◌≡◌, ◌≤◌, ◌⊎◌, ℕ, Bool, true, false, List, [], ◌∷◌, ◌++◌, Option, Some, None, refl, sym, ap, ◌∙◌, subst, inl, inr, arith}
use Rattle.std.specs.Prelude.{◌==◌}
use Rattle.std.proofs.lemmas.List.{append-nil}
use Rattle.base_values.specs.declared.gho_schema.schema.Schema.{Schema}
use Rattle.base_values.specs.declared.value.Value.{Value}
use Rattle.base_values.specs.declared.event.RowEvent.{RowEvent}
use Rattle.table_store.specs.Databases.{Database}
use Rattle.base_script.specs.declared.statement.Statement.{Statement}
use Rattle.base_script.specs.declared.actor.Side.{Side}
use Rattle.server_model.specs.declared.answer.Answer.{Answer}
use Rattle.server_model.specs.declared.answer.Answer.TheVariants as answers
use Rattle.server_model.specs.declared.entry.Entry.{Entry}
use Rattle.server_model.specs.declared.request.Request.{Request}
use Rattle.server_model.specs.declared.request.Request.TheVariants as requests
use Rattle.server_model.specs.declared.session.Limits.{Limits}
use Rattle.server_model.specs.declared.work.StatementResult.{StatementResult}
use Rattle.server_model.specs.Answers.{refuses}
use Rattle.server_model.specs.Effects.{Effect, effect, result_effect}
use Rattle.server_model.specs.Effects.Effect.{Rests, Writes}
use Rattle.server_model.specs.Entries.{is_cut}
use Rattle.server_model.specs.Operations.{operation_of, operation_result}
use Rattle.server_model.specs.Blockers.{need_within}
use Rattle.server_model.specs.States.{State, is_of_tool, session_of}
use Rattle.base_values.specs.ToolNames.{log_name}
use Rattle.base_values.specs.declared.mysql_errors.TheConstants.{ER_TABLE_NOT_LOCKED}
use Rattle.tool_program.specs.JournalWords.Journals.{may_lose, opens}
use Rattle.proof_journals.specs.Scenes.{Besides, Scene, SessionHold, Stored, no_hold}
use Rattle.proof_journals.specs.Holdings.{face_of, stored}
use Rattle.proof_journals.specs.Turns.{IsSceneRun, IsReported, about, answer_at, inner, scene_state, reported_at}
use Rattle.proof_journals.specs.Ghost.Rows.Timelines.{Migration}
use Rattle.proof_journals.specs.Ghost.Invariant.{NotOf}
use Rattle.proof_journals.specs.Ghost.EffectStates.{EffectLeaves, effect_answer, is_lost, reported_done, undone_hold, unless_lost, was_done, where_done}
use Rattle.proof_journals.specs.Machine.MigrationTables.{schema_of}
use Rattle.proof_journals.proofs.Machine.Inspecting.{IsNoteRow}
use Rattle.proof_journals.proofs.Machine.Schemas.{schema_events}
use Rattle.proof_journals.proofs.Ghost.Leaving.{effects_are_done, holds_of}
use Rattle.proof_journals.proofs.Ghost.Turns.{along_next, run_front}
use Rattle.proof_journals.proofs.Ghost.Undone.{cuts_are_left, effects_answer, undone_is_left}
use Rattle.proof_migration.proofs.Migration.Copier.Served.{Deeded, deeded, seen_of}
use Rattle.proof_migration.proofs.Migration.Copier.Served.Deeded.{outside_so, within_so}
use Rattle.proof_migration.proofs.Migration.Leaves.{Cases, WritesAway, turn_leaves}
use Rattle.server_model.proofs.LockedRows.Tests.{are_one}
use Rattle.proof_journals.proofs.Sentry.Hinting.{HintsBelow}
use Rattle.proof_migration.proofs.Program.Hints.Writes.{Inserts, NoHint, Rises, away_hint, away_none, below_both, hint_insert, hint_inserts, none_below, none_both, none_so, note_none, note_replace, one_so, rises_away, rises_both}

-- no session has written a row of the changelog in its open transaction
abbrev pub NoneWrote : List ℕ → State → Type 0
NoneWrote t state = (n : ℕ) → NotOf (log_name t) (holds_of state n).writes

-- nothing of the changelog is logged
pub record LogsAway (t : List ℕ) (before after : State) : Type 0 where
  pub events : List RowEvent
  pub log : after.log ≡ before.log ++ events
  pub away : NotOf (log_name t) events

-- the hint row of an attempt is logged, and the answer says so or was lost
pub record LogsHint (t : List ℕ) (most : ℕ) (answer : Answer) (before after : State) : Type 0 where
  pub events : List RowEvent
  pub log : after.log ≡ before.log ++ events
  pub below : HintsBelow t most events
  pub rises : (last : ℕ) → last ≤ most → Rises t last events
  pub said : (answer ≡ answers.Ok 1) ⊎ (answer ≡ answers.Lost)

pub record LeavesAway (t : List ℕ) (before after : State) : Type 0 where
  pub logs : LogsAway t before after
  pub none : NoneWrote t after

pub record LeavesHint (t : List ℕ) (most : ℕ) (answer : Answer) (before after : State) : Type 0 where
  pub logs : LogsAway t before after ⊎ LogsHint t most answer before after
  pub none : NoneWrote t after

-- a note's row is put into the changelog, behind what its session had written of other tables
pub record LogsNote (t : List ℕ) (before after : State) : Type 0 where
  pub row : List Value
  pub kind : IsNoteRow row
  pub front : List RowEvent
  pub away : NotOf (log_name t) front
  pub seen : Database
  pub shown : schema_of (log_name t) seen ≡ schema_of (log_name t) before.tables
  pub log : after.log ≡ before.log ++ (front ++ (operation_result seen (operation_of (note_replace t row))).events)

-- no hint row is logged
pub record LogsNoHint (t : List ℕ) (before after : State) : Type 0 where
  pub events : List RowEvent
  pub log : after.log ≡ before.log ++ events
  pub none : NoHint t events

pub away_logs : (t : List ℕ) (before after : State) → LogsAway t before after → LogsNoHint t before after
away_logs t before after logs = record { events = logs.events; log = logs.log; none = away_none t logs.events logs.away }

pub note_logs : (t : List ℕ) (before after : State) → LogsNote t before after → LogsNoHint t before after
note_logs t before after logs =
    let events : List RowEvent = (operation_result logs.seen (operation_of (note_replace t logs.row))).events in
    record { events = logs.front ++ events; log = logs.log; none = none_both t logs.front events (away_none t logs.front logs.away) (note_none t logs.row logs.seen logs.kind) }

pub record LeavesNote (t : List ℕ) (before after : State) : Type 0 where
  pub logs : LogsAway t before after ⊎ LogsNote t before after
  pub none : NoneWrote t after

-- what a statement writes is logged behind what its session had written, and the answer says so or was lost
pub record Commits (t : List ℕ) (writes : List RowEvent) (result : StatementResult) (answer : Answer) (before after : State) : Type 0 where
  pub log : after.log ≡ before.log ++ (writes ++ result.events)
  pub none : NoneWrote t after
  pub said : (answer ≡ result.answer) ⊎ (answer ≡ answers.Lost)

-- the changelog, in the place of a new table
abbrev nothing_of : List ℕ → Schema
nothing_of name = record { name = name; columns = []; uniques = []; indexes = []; comment = []; start = None }

abbrev pub watched : List ℕ → Migration
watched t = record { name = t; schema = nothing_of t; new = nothing_of (log_name t); columns = [] }

module _ (t : List ℕ) (limits : Limits) (scene : Scene) (journal : List Entry) (entry : Entry) (more : IsSceneRun limits scene (journal ++ entry ∷ [])) where
  abbrev before : State
  before = scene_state limits scene journal

  abbrev after : State
  after = scene_state limits scene (journal ++ entry ∷ [])

  abbrev own : SessionHold
  own = holds_of before entry.session

  module _ (sides : may_lose entry.asked ≡ false → entry.side ≡ None) (none_wrote : NoneWrote t before) where
    none_then : (middle : ℕ → SessionHold) (held : SessionHold) → ((n : ℕ) → (n == entry.session) ≡ false → middle n ≡ holds_of before n) → NotOf (log_name t) held.writes → Besides entry.session middle (holds_of after) held → NoneWrote t after
    none_then middle held same none besides n = by (n == entry.session) refl where
      by : (b : Bool) → (n == entry.session) ≡ b → NotOf (log_name t) (holds_of after n).writes
      by true is = subst (λ (h : SessionHold). NotOf (log_name t) h.writes) (sym (ap (holds_of after) (are_one n entry.session is) ∙ besides.here)) none
      by false differ = subst (λ (h : SessionHold). NotOf (log_name t) h.writes) (sym (besides.there n differ ∙ same n differ)) (none_wrote n)

    -- nothing is stored
    nothing_logged : stored after ≡ stored before → LogsAway t before after
    nothing_logged same = record { events = []; log = ap (λ (s : Stored). s.log) same ∙ sym (append-nil before.log); away = tt }

    rests : (held : SessionHold) → NotOf (log_name t) held.writes → stored after ≡ stored before → Besides entry.session (holds_of before) (holds_of after) held → LeavesAway t before after
    rests held none same besides = record { logs = nothing_logged same; none = none_then (holds_of before) held (λ n differ. refl) none besides }

    cases : Cases (watched t) limits scene journal entry more (LeavesAway t before after)
    cases = record {
      holds = rests;
      commits = λ middle held besides served none tables log last. record {
        logs = record { events = (middle entry.session).writes; log = log; away = none };
        none = none_then middle no_hold besides.there tt last;
      };
      moves = λ request tables held asked moved made log none besides. record {
        logs = record { events = []; log = log ∙ sym (append-nil before.log); away = tt };
        none = none_then (holds_of before) held (λ n differ. refl) none besides;
      };
    }

    -- *A turn that asks for no row of the changelog*
    pub away_left : ((request : Request) → about (opens entry before) entry.session entry.asked ≡ Some request → WritesAway (watched t) request) → LeavesAway t before after
    away_left writes = turn_leaves (watched t) limits scene journal entry more sides (none_wrote entry.session) writes (LeavesAway t before after) cases

    -- *A session that is lost between calls*
    pub cut_left : is_cut entry.asked ≡ true → may_lose entry.asked ≡ false → LeavesAway t before after
    cut_left is no_side = let left = cuts_are_left limits scene journal entry is (sides no_side) in rests no_hold tt left.0 left.1

    -- *The turn that asks for a statement*, outside a transaction: nothing of the changelog is logged, or what the statement writes
    module _ (statement : Statement) (uncut : is_cut entry.asked ≡ false) (asked : about (opens entry before) entry.session entry.asked ≡ Some (requests.Do statement)) (idle : (face_of before.sessions entry.session).busy ≡ false) (tool : is_of_tool (session_of entry.session (opens entry before).sessions) ≡ true) where
      abbrev request : Request
      request = requests.Do statement

      abbrev seen : Database
      seen = seen_of before entry.session

      abbrev result : StatementResult
      result = operation_result seen (operation_of statement)

      abbrev Goal : Type 0
      Goal = LeavesAway t before after ⊎ Commits t own.writes result entry.answer before after

      run : IsSceneRun limits scene journal
      run = run_front limits scene journal (entry ∷ []) more

      entry_reported : IsReported limits scene journal entry
      entry_reported = along_next (IsReported limits scene) [] journal entry [] more.reported

      undone : reported_done (reported_at entry.side entry.answer entry.missed) ≡ false → Goal
      undone none =
          let left = undone_is_left limits scene journal entry request run entry_reported uncut asked none in
          inl (rests (undone_hold entry.side entry.answer own) (held entry.side entry.answer) left.0 left.1)
        where
          held : (side : Option Side) (answer : Answer) → NotOf (log_name t) (undone_hold side answer own).writes
          held None (answers.Waits by) = none_wrote entry.session
          held None answer = tt
          held (Some side) answer = tt

      abbrev effect_now : Effect
      effect_now = effect (where_done entry.asked entry.session (opens entry before)) entry.session request

      module _ (given : Answer) (reported : reported_at entry.side entry.answer entry.missed ≡ Some given) (done : was_done given ≡ true) where
        left_as : (one : Effect) → effect_now ≡ one → EffectLeaves one (is_lost entry.side) entry.session (stored before) (stored after) (holds_of before) (holds_of after)
        left_as one is = subst (λ (d : Effect). EffectLeaves d (is_lost entry.side) entry.session (stored before) (stored after) (holds_of before) (holds_of after)) (ap (effect (where_done entry.asked entry.session (opens entry before)) entry.session) (filled_so (opens entry before) entry.session request tool) ∙ is) (effects_are_done limits scene journal entry request given run entry_reported asked reported done)

        says_so : given ≡ effect_answer effect_now
        says_so = effects_answer limits scene journal entry request given run entry_reported asked reported done ∙ ap (λ (r : Request). effect_answer (effect (where_done entry.asked entry.session (opens entry before)) entry.session r)) (filled_so (opens entry before) entry.session request tool)

        lost_away : (b : Bool) → NotOf (log_name t) (unless_lost b own).writes
        lost_away true = tt
        lost_away false = none_wrote entry.session

        refused : (answer : Answer) → effect_now ≡ Rests answer → Goal
        refused answer is = let all = left_as (Rests answer) is in inl (rests (unless_lost (is_lost entry.side) own) (lost_away (is_lost entry.side)) all.0 all.1)

        -- what is heard of its answer
        said : (side : Option Side) → entry.side ≡ side → reported_at side entry.answer entry.missed ≡ Some given → given ≡ result.answer → (entry.answer ≡ result.answer) ⊎ (entry.answer ≡ answers.Lost)
        said None at_side is own_answer = let one : entry.answer ≡ given = cc in inl (one ∙ own_answer)
        said (Some side) at_side is own_answer = inr (entry_reported.answer ∙ ap (λ (s : Option Side). answer_at s (inner before entry)) at_side)

        committed : effect_now ≡ Writes result.answer result.events → Goal
        committed is =
            let all : EffectLeaves (Writes result.answer result.events) (is_lost entry.side) entry.session (stored before) (stored after) (holds_of before) (holds_of after) = left_as (Writes result.answer result.events) is in
            inr (record { log = all.1; none = none_then (holds_of before) no_hold (λ n differ. refl) tt all.2; said = said entry.side refl reported (says_so ∙ ap effect_answer is) })

        done_goal : Goal
        done_goal = by (deeded entry before request) where
          by : Deeded before entry.session request effect_now → Goal
          by (outside_so is) = refused (refuses ER_TABLE_NOT_LOCKED) is
          by (within_so there same log is) = committed (is ∙ ap (λ (b : Bool). result_effect b (need_within seen request) result) idle)

      reported_goal : (given : Option Answer) → reported_at entry.side entry.answer entry.missed ≡ given → (b : Bool) → reported_done given ≡ b → Goal
      reported_goal given reported false none = undone (ap reported_done reported ∙ none)
      reported_goal None reported true done = absurd (let no : false ≡ true = done in cc)
      reported_goal (Some given) reported true done = done_goal given reported done

      pub statement_left : Goal
      statement_left = reported_goal (reported_at entry.side entry.answer entry.missed) refl (reported_done (reported_at entry.side entry.answer entry.missed)) refl

    -- *The turn that asks for an attempt's hint row*
    pub hint_left : (attempt : ℕ) → is_cut entry.asked ≡ false → about (opens entry before) entry.session entry.asked ≡ Some (requests.Do (hint_insert t attempt)) → (face_of before.sessions entry.session).busy ≡ false → is_of_tool (session_of entry.session (opens entry before).sessions) ≡ true → LeavesHint t attempt entry.answer before after
    hint_left attempt uncut asked idle tool = by (statement_left (hint_insert t attempt) uncut asked idle tool) where
      result : StatementResult
      result = operation_result (seen_of before entry.session) (operation_of (hint_insert t attempt))

      heard : (entry.answer ≡ result.answer) ⊎ (entry.answer ≡ answers.Lost) → result.answer ≡ answers.Ok 1 → (entry.answer ≡ answers.Ok 1) ⊎ (entry.answer ≡ answers.Lost)
      heard (inl own_answer) ok = inl (own_answer ∙ ok)
      heard (inr lost) ok = inr lost

      wrote : Commits t own.writes result entry.answer before after → Inserts t attempt attempt result → LeavesHint t attempt entry.answer before after
      wrote left (none_so none) = record {
        logs = inl (record { events = own.writes; log = left.log ∙ ap (λ (e : List RowEvent). before.log ++ (own.writes ++ e)) none ∙ ap (λ (e : List RowEvent). before.log ++ e) (append-nil own.writes); away = none_wrote entry.session });
        none = left.none;
      }
      wrote left (one_so below rises ok) = record {
        logs = inr (record { events = own.writes ++ result.events; log = left.log; below = below_both t attempt own.writes result.events (none_below t attempt own.writes (none_wrote entry.session)) below; rises = λ last less. rises_both t last own.writes result.events (rises_away t last own.writes (none_wrote entry.session)) (subst (λ (n : ℕ). Rises t n result.events) (sym (away_hint t last own.writes (none_wrote entry.session))) (rises last less)); said = heard left.said ok });
        none = left.none;
      }

      by : LeavesAway t before after ⊎ Commits t own.writes result entry.answer before after → LeavesHint t attempt entry.answer before after
      by (inl left) = record { logs = inl left.logs; none = left.none }
      by (inr left) = wrote left (hint_inserts t attempt attempt (seen_of before entry.session) (omega arith))

    -- *The turn that asks for a note's row*
    pub note_left : (row : List Value) → IsNoteRow row → is_cut entry.asked ≡ false → about (opens entry before) entry.session entry.asked ≡ Some (requests.Do (note_replace t row)) → (face_of before.sessions entry.session).busy ≡ false → is_of_tool (session_of entry.session (opens entry before).sessions) ≡ true → LeavesNote t before after
    note_left row kind uncut asked idle tool = by (statement_left (note_replace t row) uncut asked idle tool) where
      result : StatementResult
      result = operation_result (seen_of before entry.session) (operation_of (note_replace t row))

      by : LeavesAway t before after ⊎ Commits t own.writes result entry.answer before after → LeavesNote t before after
      by (inl left) = record { logs = inl left.logs; none = left.none }
      by (inr left) = record {
        logs = inr (record { row = row; kind = kind; front = own.writes; away = none_wrote entry.session; seen = seen_of before entry.session; shown = schema_events (log_name t) before.tables own.writes; log = left.log });
        none = left.none;
      }
