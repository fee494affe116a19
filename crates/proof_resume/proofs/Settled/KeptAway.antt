-- A turn of a session that keeps away from the new table leaves it settled.
use Rattle.std.proofs.Common.{[], ◌∷◌, ◌++◌, sym, ap, ◌∙◌, subst}
use Rattle.table_store.specs.Databases.{find_table}
use Rattle.server_model.specs.States.{State}
use Rattle.proof_journals.specs.Holdings.{stored}
use Rattle.proof_journals.specs.Scenes.{Stored}
use Rattle.proof_journals.specs.Turns.{scene_state, reported_at}
use Rattle.proof_migration.proofs.Migration.Leaves.{Cases, turn_leaves}
use Rattle.proof_migration.proofs.Migration.Others.{leaves_both, moved_stays, writes_away}
use Rattle.proof_resume.specs.Settled.Laws.{TurnsSettle}
use Rattle.proof_resume.specs.Settled.NewTable.{IsSettled}
use Rattle.proof_resume.proofs.Settled.NewTable.{moves_settle, others_settle}

-- *Turns settle.*
pub turns_settle : TurnsSettle
turns_settle m rows planned limits scene journal entry more sides own_away away position left made settled = turn_leaves m limits scene journal entry more sides own_away (λ request asked. writes_away m (reported_at entry.side entry.answer entry.missed) request (away request asked)) Goal cases where
  before : State
  before = scene_state limits scene journal

  after : State
  after = scene_state limits scene (journal ++ entry ∷ [])

  Goal : Type 0
  Goal = IsSettled m rows (stored after) position left made

  cases : Cases m limits scene journal entry more Goal
  cases =
      record {
        holds = λ held none same besides. subst (λ (s : Stored). IsSettled m rows s position left made) (sym same) settled;
        commits = λ middle held besides given none tables log last. others_settle m rows (stored before) (stored after) middle entry.session position left made planned given none tables log settled;
        moves = λ request tables held asked moved made_of log none besides.
            let leaves = leaves_both m (reported_at entry.side entry.answer entry.missed) request (away request asked) in
            moves_settle m rows (stored before) (stored after) position left made log (ap (find_table m.name) made_of ∙ moved_stays m.name _ before.tables request tables leaves.0 moved) (ap (find_table m.new.name) made_of ∙ moved_stays m.new.name _ before.tables request tables leaves.1 moved) settled;
      }
