-- No session sees many rows of the migrated table: a client sees the committed ones with what its open transaction wrote, which has no
-- more lines than are left of the scripts; the tool's sessions write none of its rows.
use Rattle.std.proofs.Common.{◌≡◌, ◌≤◌, ℕ, ◌+◌, Bool, true, false, List, [], ◌∷◌, length, Option, Some, None, refl, sym, ap, ◌∙◌, subst, arith}
use Rattle.std.specs.Prelude.{is_some, option_map, unwrap_or}
use Rattle.std.specs.Str.{bytes_eq}
use Rattle.std.proofs.lemmas.Bool.{false≢true}
use Rattle.base_script.specs.declared.actor.Actor.{Actor}
use Rattle.base_script.specs.declared.actor.Actor.TheVariants.{Op, Insp, Copy, Apply, Lock, Ren, Client}
use Rattle.base_values.specs.declared.event.RowEvent.{RowEvent}
use Rattle.table_store.specs.Databases.{TableRows}
use Rattle.server_model.specs.declared.entry.Entry.{Entry}
use Rattle.server_model.specs.declared.session.Session.{Session}
use Rattle.server_model.specs.declared.transaction.TxnLine.{TxnLine}
use Rattle.server_model.specs.Alone.{Ran, lines_run, nothing_ran}
use Rattle.server_model.specs.Entries.{is_client}
use Rattle.server_model.specs.LockedRows.Stability.{RunSo}
use Rattle.server_model.specs.Operations.{after_events}
use Rattle.server_model.specs.States.{State, session_of, view, writes_of}
use Rattle.server_model.proofs.LockedRows.Stables.{stable_end}
use Rattle.server_model.proofs.LockedRows.Tests.{are_same}
use Rattle.plan_data.specs.PlanData.{PlanData}
use Rattle.tool_program.specs.JournalWords.Bounds.{keys, measures}
use Rattle.tool_program.specs.JournalWords.Clients.{client_at}
use Rattle.tool_program.specs.JournalWords.Journals.{state_at}
use Rattle.tool_program.specs.JournalWords.Sessions.{live_session}
use Rattle.proof_journals.specs.Ghost.Invariant.{NotOf}
use Rattle.proof_journals.specs.Holdings.{face_of}
use Rattle.proof_journals.specs.Machine.Runnable.{IsRunnable}
use Rattle.proof_journals.specs.Plans.{IsSerialPlan, limits_of, scene_of}
use Rattle.proof_journals.specs.Run.Kept.{IsKept}
use Rattle.proof_journals.specs.Scenes.{EventsMine, Going, IsFine, Scene, is_mine}
use Rattle.proof_journals.specs.Turns.{goings_at}
use Rattle.proof_journals.proofs.Faces.{writes_face}
use Rattle.proof_journals.proofs.Ghost.Keeping.{found_besides}
use Rattle.proof_journals.proofs.Naming.{migrated_named}
use Rattle.proof_journals.proofs.PlanJournals.{PlanHolds}
use Rattle.proof_migration.specs.ToolPhase.Laws.{IsOwned}
use Rattle.proof_migration.specs.ToolPhase.Unaltered.{IsUnaltered}
use Rattle.proof_migration.proofs.ToolPhase.Owners.{all_owned}
use Rattle.proof_bounds.specs.Volumes.Laws.{ViewsAreFew}
use Rattle.proof_journals.proofs.Ghost.Rows.LineEvents.{row_count}
use Rattle.proof_bounds.proofs.Volumes.Lines.{open_lines}
use Rattle.proof_bounds.proofs.Volumes.Transactions.{RunsFew, fresh_few}
use Rattle.proof_bounds.proofs.Volumes.Volumes.{committed_few, committed_rows, holds}

-- events of no client table are none of the migrated one
none_of : (scene : Scene) (name : List ℕ) (events : List RowEvent) → is_mine scene name ≡ true → EventsMine scene false events → NotOf name events
none_of scene name [] mine away = tt
none_of scene name (event ∷ events) mine away = (by (bytes_eq event.table name) refl, none_of scene name events mine away.1) where
  by : (b : Bool) → bytes_eq event.table name ≡ b → b ≡ false
  by true same = absurd (false≢true (sym away.0 ∙ ap (is_mine scene) (are_same event.table name same) ∙ mine))
  by false other = refl

module _ (plan : PlanData) (journal : List Entry) (runs : IsRunnable plan) (serial : IsSerialPlan plan) (kept : IsKept plan journal) (off : IsUnaltered plan journal) (n : ℕ) where
  abbrev now : State
  now = state_at plan journal

  abbrev scene : Scene
  scene = scene_of plan journal

  abbrev own : List RowEvent
  own = (face_of now.sessions n).hold.writes

  abbrev Goal : Type 0
  Goal = row_count plan.table (after_events now.tables own) ≤ keys (measures plan)

  all : PlanHolds plan journal journal
  all = holds plan journal runs serial kept off

  fine : (kind : Bool) → scene.client n ≡ kind → IsFine scene kind now.tables (face_of now.sessions n).hold (goings_at (limits_of plan) scene journal n)
  fine kind is = subst (λ (b : Bool). IsFine scene b now.tables (face_of now.sessions n).hold (goings_at (limits_of plan) scene journal n)) is (all.holds.holds.kept.fine n)

  -- a session of the tool's
  tool_sees : scene.client n ≡ false → Goal
  tool_sees is =
      let away : NotOf plan.table own = none_of scene plan.table own (migrated_named plan) (fine false is).named in
      let same : row_count plan.table (after_events now.tables own) ≡ row_count plan.table now.tables =
      ap (λ (o : Option TableRows). length (unwrap_or (option_map (λ (table : TableRows). table.rows) o) [])) (found_besides plan.table own now.tables away) in
      let few = committed_few plan journal runs serial kept off in
      omega (arith, same, few)

  -- a client's
  client_sees : (c : ℕ) → live_session journal (Client c) ≡ Some n → scene.client n ≡ true → Goal
  client_sees c live is = subst (λ (w : List RowEvent). row_count plan.table (after_events now.tables w) ≤ keys (measures plan)) (ap (λ (r : Ran). r.writes) run.runs) seen where
    lines : List TxnLine
    lines = (goings_at (limits_of plan) scene journal n).lines

    run : RunSo lines (record { replies = (goings_at (limits_of plan) scene journal n).replies; writes = own }) now.tables
    run = stable_end (face_of now.sessions n).hold.names (face_of now.sessions n).hold.locks lines (record { replies = (goings_at (limits_of plan) scene journal n).replies; writes = own }) now.tables all.holds.holds.kept.well_formed (fine true is).lasting

    long : length lines ≡ length (client_at plan journal c).lines
    long = ap (λ (g : Going). length g.lines) (all.linked.runs c n live)

    short : row_count plan.table now.tables + length lines ≤ keys (measures plan)
    short = let a = committed_rows plan journal runs serial kept off in let b = open_lines plan journal c in let same = long in omega (arith, a, b, same)

    seen : row_count plan.table (after_events now.tables (lines_run now.tables nothing_ran lines).writes) ≤ keys (measures plan)
    seen =
        let few : RunsFew plan.table now.tables (row_count plan.table now.tables + length lines) _ (lines_run now.tables nothing_ran lines).writes = fresh_few plan.table (keys (measures plan)) now.tables lines all.holds.holds.kept.well_formed short in
        let a = few.rows in
        let b = short in
        omega (arith, a, b)

  owned_sees : IsOwned journal n → Goal
  owned_sees owned = by owned.actor owned.lives where
    kind : (actor : Actor) → live_session journal actor ≡ Some n → scene.client n ≡ is_client actor
    kind actor live = all.linked.known_sessions.kinds actor n live

    by : (actor : Actor) → live_session journal actor ≡ Some n → Goal
    by (Client c) live = client_sees c live (kind (Client c) live)
    by Op live = tool_sees (kind Op live)
    by Insp live = tool_sees (kind Insp live)
    by Copy live = tool_sees (kind Copy live)
    by Apply live = tool_sees (kind Apply live)
    by Lock live = tool_sees (kind Lock live)
    by Ren live = tool_sees (kind Ren live)

  sees : row_count plan.table (view n now) ≤ keys (measures plan)
  unfolding after_events
  sees = by (session_of n now.sessions) refl where
    by : (found : Option Session) → session_of n now.sessions ≡ found → row_count plan.table (after_events now.tables (writes_of (session_of n now.sessions))) ≤ keys (measures plan)
    by None none = subst (λ (o : Option Session). row_count plan.table (after_events now.tables (writes_of o)) ≤ keys (measures plan)) (sym none) (committed_few plan journal runs serial kept off)
    by (Some session) some =
        subst (λ (w : List RowEvent). row_count plan.table (after_events now.tables w) ≤ keys (measures plan)) (sym (writes_face (session_of n now.sessions))) (owned_sees (all_owned plan journal n kept.faithful kept.follows (ap (λ (o : Option Session). is_some o) some)))

-- *Views are few*
pub views_few : ViewsAreFew
views_few plan journal runs serial kept off n = sees plan journal runs serial kept off n
