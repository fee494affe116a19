-- Other sessions' turns keep the tool standing.
use Rattle.std.proofs.Common.{◌≡◌, ℕ, Bool, true, false, List, [], ◌∷◌, ◌++◌, length, Option, Some, Result, Ok, Err, refl, sym, ap, ◌∙◌, subst}
use Rattle.std.specs.Prelude.{◌==◌}
use Rattle.std.specs.List.{AllByRecursion, list_any}
use Rattle.std.specs.Str.{bytes_eq}
use Rattle.std.proofs.Math.Bool.{or-false}
use Rattle.base_values.specs.declared.gho_schema.schema.Schema.{Schema}
use Rattle.base_values.specs.GhoSchema.ClusteredKey.{clustered_place}
use Rattle.table_store.specs.Databases.{Database, find_table, has_table, rename_tables, without_table}
use Rattle.table_store.specs.declared.renames.NotRenamed.{NotRenamed}
use Rattle.table_store.specs.declared.renames.Pair.{Pair}
use Rattle.server_model.specs.declared.answer.Answer.{Answer}
use Rattle.server_model.specs.declared.entry.Entry.{Entry}
use Rattle.server_model.specs.declared.request.Request.{Request}
use Rattle.server_model.specs.declared.request.Request.TheVariants as requests
use Rattle.server_model.specs.declared.session.Limits.{Limits}
use Rattle.server_model.specs.Answers.{ok}
use Rattle.server_model.specs.Effects.{created, dropped, renamed_or}
use Rattle.server_model.specs.States.{State, pair_names}
use Rattle.server_model.proofs.LockedRows.Tests.{are_one, turned_bytes}
use Rattle.proof_journals.specs.Scenes.{Besides, Scene, SessionHold, no_hold}
use Rattle.proof_journals.specs.Holdings.{stored}
use Rattle.proof_journals.specs.Turns.{IsSceneRun, scene_state, reported_at}
use Rattle.proof_journals.proofs.Moves.{after_other, drop_moves, rename_moves}
use Rattle.proof_journals.specs.Ghost.Rows.Moments.{Row}
use Rattle.proof_journals.specs.Ghost.Rows.Timelines.{IsPlanned, Migration}
use Rattle.proof_journals.specs.Ghost.HeldKeys.{Clustered}
use Rattle.proof_journals.specs.Ghost.Invariant.{IsServed, NotOf}
use Rattle.proof_journals.specs.Ghost.ToolTurns.{ApplyPlan, ToolMoment, ToolStands, ToolTurn}
use Rattle.proof_journals.specs.Ghost.ToolTurns.ToolTurn.{other_goes_on}
use Rattle.proof_journals.specs.Ghost.Tool.{CopyState}
use Rattle.proof_journals.proofs.Ghost.Leaving.{holds_of}
use Rattle.proof_journals.proofs.Ghost.Running.{stands_over, turn_keeps}
use Rattle.proof_journals.proofs.Ghost.Tooling.{client_commits, tool_moves, tool_rests}
use Rattle.proof_journals.proofs.Ghost.Turns.{run_front, writes_fit}
use Rattle.proof_migration.specs.Migration.Copier.CopierPlace.{moment_of}
use Rattle.proof_migration.specs.Migration.Away.{IsOther, IsOtherTurn, KeepsAway, OthersAway}
use Rattle.proof_migration.specs.Migration.Laws.{OthersKeep}
use Rattle.proof_migration.specs.Migration.Machines.{StandsAway}
use Rattle.proof_migration.proofs.Migration.Leaves.{Cases, IsMoved, WritesAway, turn_leaves}

-- TABLES THAT MOVE

-- the table of this name stays where none of it is made, dropped or renamed
abbrev pub LeavesName : List ℕ → Option Answer → Request → Type 0
LeavesName name reported (requests.Create schema) = bytes_eq name schema.name ≡ false
LeavesName name reported (requests.Drop dropped) = bytes_eq name dropped ≡ false
LeavesName name reported (requests.Rename pairs) = reported ≡ Some ok → AllByRecursion (λ other. bytes_eq name other ≡ false) (pair_names pairs)
LeavesName name reported request = Unit {0}

created_stays : (name : List ℕ) (schema : Schema) (b : Bool) (tables made : Database) → bytes_eq name schema.name ≡ false → created b schema tables ≡ Ok made → find_table name made ≡ find_table name tables
created_stays name schema true tables made other is = absurd cc
created_stays name schema false tables made other is = let same : tables ++ record { schema = schema; rows = [] } ∷ [] ≡ made = cc in ap (find_table name) (sym same) ∙ after_other name tables _ (turned_bytes name schema.name other)

dropped_stays : (name gone : List ℕ) (b : Bool) (tables made : Database) → bytes_eq name gone ≡ false → dropped b gone tables ≡ Ok made → find_table name made ≡ find_table name tables
dropped_stays name gone true tables made other is = let same : without_table gone tables ≡ made = cc in ap (find_table name) (sym same) ∙ (drop_moves gone tables).others name (or-false (bytes_eq name gone) ∙ other)
dropped_stays name gone false tables made other is = absurd cc

none_named : (P : List ℕ → Bool) (names : List (List ℕ)) → AllByRecursion (λ name. P name ≡ false) names → list_any P names ≡ false
none_named P [] all = refl
none_named P (name ∷ names) all = rw (all.0, none_named P names all.1) refl

renamed_stays : (name : List ℕ) (pairs : List Pair) (result : Result Database NotRenamed) (tables made : Database) → rename_tables pairs tables ≡ result → AllByRecursion (λ other. bytes_eq name other ≡ false) (pair_names pairs) → renamed_or result ≡ Ok made → find_table name made ≡ find_table name tables
renamed_stays name pairs (Ok found) tables made done_so other is = let one : found ≡ made = cc in ap (find_table name) (sym one) ∙ (rename_moves pairs tables found done_so).others name (none_named (bytes_eq name) (pair_names pairs) other)
renamed_stays name pairs (Err reason) tables made done_so other is = absurd cc

pub moved_stays : (name : List ℕ) (reported : Option Answer) (tables : Database) (request : Request) (made : Database) → LeavesName name reported request → IsMoved reported tables request made → find_table name made ≡ find_table name tables
moved_stays name reported tables (requests.Create schema) made leaves moved = created_stays name schema (has_table schema.name tables) tables made leaves moved
moved_stays name reported tables (requests.Drop gone) made leaves moved = dropped_stays name gone (has_table gone tables) tables made leaves moved
moved_stays name reported tables (requests.Rename pairs) made leaves moved = renamed_stays name pairs (rename_tables pairs tables) tables made refl (leaves moved.0) moved.1
moved_stays name reported tables request made leaves moved = absurd moved

others_old : (m : Migration) (names : List (List ℕ)) → AllByRecursion (IsOther m) names → AllByRecursion (λ name. bytes_eq m.name name ≡ false) names
others_old m [] all = tt
others_old m (name ∷ names) all = (all.0.0, others_old m names all.1)

others_new : (m : Migration) (names : List (List ℕ)) → AllByRecursion (IsOther m) names → AllByRecursion (λ name. bytes_eq m.new.name name ≡ false) names
others_new m [] all = tt
others_new m (name ∷ names) all = (all.0.1, others_new m names all.1)

-- who keeps away leaves both
pub leaves_both : (m : Migration) (reported : Option Answer) (request : Request) → KeepsAway m reported request → LeavesName m.name reported request × LeavesName m.new.name reported request
leaves_both m reported (requests.Create schema) away = away
leaves_both m reported (requests.Drop name) away = away
leaves_both m reported (requests.Rename pairs) away = ((λ done. others_old m (pair_names pairs) (away done)), λ done. others_new m (pair_names pairs) (away done))
leaves_both m reported request away = (tt, tt)

pub writes_away : (m : Migration) (reported : Option Answer) (request : Request) → KeepsAway m reported request → WritesAway m request
writes_away m reported (requests.Do statement) away = away
writes_away m reported (requests.CopyRow from into map key) away = away
writes_away m reported request away = tt

-- ANOTHER SESSION'S TURN

module _ (m : Migration) (at : Clustered m.schema) (rows : List Row) (place : ℕ) (planned : IsPlanned m rows) (is_place : clustered_place m.new ≡ Some place) (limits : Limits) (scene : Scene) (journal : List Entry) (entry : Entry) (copy : CopyState) (plan : ApplyPlan) (position copier applier : ℕ)
    (more : IsSceneRun limits scene (journal ++ entry ∷ [])) (turn : IsOtherTurn m limits scene journal entry copier applier) (was : StandsAway m at rows copier applier (moment_of (scene_state limits scene journal) copy plan position)) where
  abbrev before : State
  before = scene_state limits scene journal

  abbrev after : State
  after = scene_state limits scene (journal ++ entry ∷ [])

  abbrev number : ℕ
  number = entry.session

  abbrev own : SessionHold
  own = holds_of before number

  abbrev now : ToolMoment
  now = moment_of before copy plan position

  abbrev then : ToolMoment
  then = moment_of after copy plan position

  abbrev Goal : Type 0
  Goal = StandsAway m at rows copier applier then

  served : IsServed (stored before) (holds_of before)
  served = writes_fit limits scene journal (run_front limits scene journal (entry ∷ []) more)

  own_away : NotOf m.new.name own.writes
  own_away = was.away number turn.no_copier turn.no_applier

  -- the session holds this afterwards
  away_then : (held : SessionHold) → NotOf m.new.name held.writes → Besides number (holds_of before) (holds_of after) held → OthersAway m (holds_of after) copier applier
  away_then held none besides n no_copier no_applier = by (n == number) refl
    where
      by : (b : Bool) → (n == number) ≡ b → NotOf m.new.name (holds_of after n).writes
      by true same = subst (λ (h : SessionHold). NotOf m.new.name h.writes) (sym (ap (holds_of after) (are_one n number same) ∙ besides.here)) none
      by false differ = subst (λ (h : SessionHold). NotOf m.new.name h.writes) (sym (besides.there n differ)) (was.away n no_copier no_applier)

  leads : ToolTurn m at rows place copier applier now then → ToolStands m at rows copier applier then
  leads one = turn_keeps m at rows place copier applier planned is_place now then served was.stands one

  cases : Cases m limits scene journal entry more Goal
  cases =
      record {
        holds = λ held none same besides. record { stands = leads (other_goes_on number held turn.no_copier turn.no_applier besides same refl (refl, refl)); away = away_then held none besides };
        commits = λ middle held besides given none tables log last.
            record {
              stands =
                  stands_over m at rows copier applier now then (refl, refl)
                  (λ apply kept. record {
                    progress = record (kept.progress) { end = length (stored after).log };
                    ghost = kept.ghost;
                    here = kept.here;
                    tool =
                        client_commits m at rows copy apply kept.progress kept.ghost copier applier number (stored before) (stored after) middle (holds_of after) planned given
                        (tool_rests m at rows copy apply kept.progress kept.ghost copier applier number (stored before) (holds_of before) middle held kept.tool turn.no_copier turn.no_applier besides) turn.no_copier turn.no_applier none last tables log;
                  }) was.stands;
              away = away_then no_hold tt (record { there = λ n differ. last.there n differ ∙ besides.there n differ; here = last.here });
            };
        moves = λ request tables held asked moved made log none besides.
            let leaves = leaves_both m (reported_at entry.side entry.answer entry.missed) request (turn.away request asked) in
            record {
              stands =
                  stands_over m at rows copier applier now then (refl, refl)
                  (λ apply kept. record {
                    progress = kept.progress;
                    ghost = kept.ghost;
                    here = kept.here;
                    tool =
                        tool_rests m at rows copy apply kept.progress kept.ghost copier applier number (stored after) (holds_of before) (holds_of after) held
                        (tool_moves m at rows copy apply kept.progress kept.ghost copier applier (stored before) (stored after) (holds_of before) kept.tool log (ap (find_table m.name) made ∙ moved_stays m.name _ before.tables request tables leaves.0 moved) (ap (find_table m.new.name) made ∙ moved_stays m.new.name _ before.tables request tables leaves.1 moved)) turn.no_copier turn.no_applier besides;
                  }) was.stands;
              away = away_then held none besides;
            };
      }

  goal : Goal
  goal = turn_leaves m limits scene journal entry more turn.sides own_away (λ request asked. writes_away m (reported_at entry.side entry.answer entry.missed) request (turn.away request asked)) Goal cases

-- *Others keep the relation*
pub others_keep : OthersKeep
others_keep m at rows place planned is_place limits scene journal entry copy plan position copier applier more turn was = goal m at rows place planned is_place limits scene journal entry copy plan position copier applier more turn was
