-- What a turn leaves of the migrated table, of the new one and of the log, while neither the copier nor the applier goes.
use Rattle.std.proofs.Common.{◌≡◌, ◌≤◌, ℕ, ◌+◌, Bool, true, false, List, [], ◌∷◌, ◌++◌, length, Option, Some, None, refl, sym, ap, ◌∙◌, subst, arith, length-append}
use Rattle.std.specs.Prelude.{◌==◌}
use Rattle.base_values.specs.declared.event.RowEvent.{RowEvent}
use Rattle.table_store.specs.Databases.{find_table}
use Rattle.server_model.specs.declared.answer.Answer.{Answer}
use Rattle.server_model.specs.declared.entry.Entry.{Entry}
use Rattle.server_model.specs.declared.request.Request.{Request}
use Rattle.server_model.specs.declared.session.Limits.{Limits}
use Rattle.server_model.specs.States.{State}
use Rattle.tool_program.specs.JournalWords.Journals.{may_lose, opens}
use Rattle.proof_journals.specs.Scenes.{Besides, Scene, SessionHold, Stored, no_hold}
use Rattle.proof_journals.specs.Holdings.{stored}
use Rattle.proof_journals.specs.Turns.{IsSceneRun, about, scene_state, reported_at}
use Rattle.proof_journals.specs.Ghost.Rows.Moments.{Row}
use Rattle.proof_journals.specs.Ghost.Rows.Timelines.{Migration}
use Rattle.proof_journals.specs.Ghost.Invariant.{NotOf}
use Rattle.proof_journals.proofs.Ghost.Keeping.{TableExists, found_besides, table_commits, table_moves}
use Rattle.proof_journals.proofs.Ghost.Leaving.{holds_of}
use Rattle.proof_migration.proofs.Migration.Leaves.{Cases, WritesAway, turn_leaves}
use Rattle.proof_migration.proofs.Migration.Others.{LeavesName, moved_stays}
use Rattle.server_model.proofs.LockedRows.Tests.{are_one}

-- no session has written a row of the new table
abbrev pub NoneWrote : Migration → State → Type 0
NoneWrote m state = (n : ℕ) → NotOf m.new.name (holds_of state n).writes

module _ (m : Migration) (rows : List Row) (limits : Limits) (scene : Scene) (journal : List Entry) (entry : Entry) (more : IsSceneRun limits scene (journal ++ entry ∷ [])) where
  abbrev before : State
  before = scene_state limits scene journal

  abbrev after : State
  after = scene_state limits scene (journal ++ entry ∷ [])

  abbrev reported : Option Answer
  reported = reported_at entry.side entry.answer entry.missed

  -- what the turn is about leaves the table of this name
  abbrev pub AboutLeaves : List ℕ → Type 0
  AboutLeaves name = (request : Request) → about (opens entry before) entry.session entry.asked ≡ Some request → LeavesName name reported request

  pub record Left : Type 0 where
    pub table : TableExists m rows (stored after)
    pub away : NoneWrote m after
    pub longer : length before.log ≤ length after.log
    pub ghost : AboutLeaves m.new.name → find_table m.new.name after.tables ≡ find_table m.new.name before.tables

  module _ (sides : may_lose entry.asked ≡ false → entry.side ≡ None) (writes : (request : Request) → about (opens entry before) entry.session entry.asked ≡ Some request → WritesAway m request) (old : AboutLeaves m.name) (stands : TableExists m rows (stored before)) (none_wrote : NoneWrote m before) where
    away_then : (middle : ℕ → SessionHold) (held : SessionHold) → ((n : ℕ) → (n == entry.session) ≡ false → middle n ≡ holds_of before n) → NotOf m.new.name held.writes → Besides entry.session middle (holds_of after) held → NoneWrote m after
    away_then middle held same none besides n = by (n == entry.session) refl where
      by : (b : Bool) → (n == entry.session) ≡ b → NotOf m.new.name (holds_of after n).writes
      by true is = subst (λ (h : SessionHold). NotOf m.new.name h.writes) (sym (ap (holds_of after) (are_one n entry.session is) ∙ besides.here)) none
      by false differ = subst (λ (h : SessionHold). NotOf m.new.name h.writes) (sym (besides.there n differ ∙ same n differ)) (none_wrote n)

    longer_by : (log : List RowEvent) → after.log ≡ before.log ++ log → length before.log ≤ length after.log
    longer_by log is = let size : length after.log ≡ length before.log + length log = ap length is ∙ length-append before.log log in omega (arith, size)

    no_longer : after.log ≡ before.log → length before.log ≤ length after.log
    no_longer is = let size : length after.log ≡ length before.log = ap length is in omega (arith, size)

    cases : Cases m limits scene journal entry more Left
    cases =
        record {
          holds = λ held none same besides. record {
            table = subst (TableExists m rows) (sym same) stands;
            away = away_then (holds_of before) held (λ n differ. refl) none besides;
            longer = no_longer (ap (λ (s : Stored). s.log) same);
            ghost = λ leaves. ap (λ (s : Stored). find_table m.new.name s.tables) same;
          };
          commits = λ middle held besides served none tables log last. record {
            table = table_commits m rows (stored before) (stored after) middle entry.session served stands tables log;
            away = away_then middle no_hold besides.there tt last;
            longer = longer_by (middle entry.session).writes log;
            ghost = λ leaves. ap (find_table m.new.name) tables ∙ found_besides m.new.name (middle entry.session).writes before.tables none;
          };
          moves = λ request tables held asked moved made log none besides. record {
            table = table_moves m rows (stored before) (stored after) stands log (ap (find_table m.name) made ∙ moved_stays m.name reported before.tables request tables (old request asked) moved);
            away = away_then (holds_of before) held (λ n differ. refl) none besides;
            longer = no_longer log;
            ghost = λ leaves. ap (find_table m.new.name) made ∙ moved_stays m.new.name reported before.tables request tables (leaves request asked) moved;
          };
        }

    -- *What the turn leaves*
    pub left : Left
    left = turn_leaves m limits scene journal entry more sides (none_wrote entry.session) writes Left cases
