-- What the inspector is told while it sets up, and what the server has then.
use Rattle.server_model.specs.Drawing.{filled}
use Rattle.std.proofs.Common.{◌≡◌, ℕ, Bool, true, false, List, [], ◌∷◌, ◌++◌, length, Option, Some, None, refl, sym, ap, ◌∙◌, subst}
use Rattle.base_values.specs.declared.gho_schema.schema.Schema.{Schema}
use Rattle.base_values.specs.GhoSchema.Rows.{key_places}
use Rattle.base_values.specs.declared.mysql_errors.TheConstants.{ER_TABLE_NOT_LOCKED, ER_TABLE_EXISTS_ERROR}
use Rattle.table_store.specs.Databases.{Database, find_table, has_table}
use Rattle.server_model.specs.declared.answer.Answer.TheVariants as answers
use Rattle.server_model.specs.declared.answer.KeyRange.{KeyRange}
use Rattle.server_model.specs.declared.entry.Entry.{Entry}
use Rattle.server_model.specs.declared.request.Request.{Request}
use Rattle.server_model.specs.declared.request.Request.TheVariants as requests
use Rattle.server_model.specs.declared.session.Limits.{Limits}
use Rattle.server_model.specs.Answers.{refuses}
use Rattle.server_model.specs.Chunks.{ends_of, keys_of}
use Rattle.server_model.specs.Effects.{Effect, created, effect, defined, of_table}
use Rattle.server_model.specs.States.{State}
use Rattle.tool_program.specs.JournalWords.Journals.{opens}
use Rattle.proof_journals.specs.Scenes.{Scene}
use Rattle.proof_journals.specs.Holdings.{stored}
use Rattle.proof_journals.specs.Turns.{IsSceneRun, IsReported, about, scene_state, reported_at}
use Rattle.proof_journals.specs.Ghost.EffectStates.{EffectLeaves, effect_answer, is_lost, was_done, where_done}
use Rattle.proof_journals.proofs.Ghost.Leaving.{effects_are_done, holds_of}
use Rattle.proof_journals.proofs.Ghost.Turns.{along_next, run_front}
use Rattle.proof_journals.proofs.Ghost.Undone.{effects_answer}
use Rattle.proof_migration.proofs.Migration.Copier.Served.{Deeded, deeded}
use Rattle.proof_migration.proofs.Migration.Copier.Served.Deeded.{outside_so, within_so}
use Rattle.proof_journals.proofs.Machine.Schemas.{new_found}
use Rattle.server_model.proofs.LockedRows.Tests.{same_bytes}

module _ (limits : Limits) (scene : Scene) (journal : List Entry) (entry : Entry) (more : IsSceneRun limits scene (journal ++ entry ∷ [])) (heard : entry.side ≡ None) where
  abbrev before : State
  before = scene_state limits scene journal

  abbrev after : State
  after = scene_state limits scene (journal ++ entry ∷ [])

  abbrev About : Request → Type 0
  About request = about (opens entry before) entry.session entry.asked ≡ Some request

  abbrev effect_now : Request → Effect
  effect_now request = effect (where_done entry.asked entry.session (opens entry before)) entry.session (filled (opens entry before) entry.session request)

  run : IsSceneRun limits scene journal
  run = run_front limits scene journal (entry ∷ []) more

  entry_reported : IsReported limits scene journal entry
  entry_reported = along_next (IsReported limits scene) [] journal entry [] more.reported

  reported : reported_at entry.side entry.answer entry.missed ≡ Some entry.answer
  reported = rw heard refl

  left : (request : Request) → About request → was_done entry.answer ≡ true → EffectLeaves (effect_now request) (is_lost entry.side) entry.session (stored before) (stored after) (holds_of before) (holds_of after)
  left request asked done = effects_are_done limits scene journal entry request entry.answer run entry_reported asked reported done

  statement_result : (request : Request) → About request → was_done entry.answer ≡ true → entry.answer ≡ effect_answer (effect_now request)
  statement_result request asked done = effects_answer limits scene journal entry request entry.answer run entry_reported asked reported done

  -- the ends of the range, and nothing is stored
  pub record EndsSaid (table : List ℕ) : Type 0 where
    pub same : stored after ≡ stored before
    pub answer : entry.answer ≡ of_table (find_table table before.tables) (λ t. ends_of (keys_of (key_places t.schema) t.rows))

  pub ends_said : (table : List ℕ) (range : Option KeyRange) → About (requests.Ends table) → entry.answer ≡ answers.Ends range → EndsSaid table
  ends_said table range asked is = by (deeded entry before (requests.Ends table)) where
    done : was_done entry.answer ≡ true
    done = ap was_done is

    by : Deeded before entry.session (requests.Ends table) (effect_now (requests.Ends table)) → EndsSaid table
    by (outside_so out) = absurd (no (sym is ∙ statement_result (requests.Ends table) asked done ∙ ap effect_answer out)) where
      no : answers.Ends range ≡ refuses ER_TABLE_NOT_LOCKED → ⊥
      no same = cc
    by (within_so there same log within) =
        let all = subst (λ (d : Effect). EffectLeaves d (is_lost entry.side) entry.session (stored before) (stored after) (holds_of before) (holds_of after)) within (left (requests.Ends table) asked done) in
        record {
          same = all.0;
          answer = statement_result (requests.Ends table) asked done ∙ ap effect_answer within ∙ ap (λ (d : Database). of_table (find_table table d) (λ t. ends_of (keys_of (key_places t.schema) t.rows))) same;
        }

  -- the log's end
  pub log_said : (position : ℕ) → About requests.LogEnd → entry.answer ≡ answers.At position → position ≡ length before.log
  log_said position asked is = by (deeded entry before requests.LogEnd) where
    done : was_done entry.answer ≡ true
    done = ap was_done is

    by : Deeded before entry.session requests.LogEnd (effect_now requests.LogEnd) → position ≡ length before.log
    by (outside_so out) = absurd (no (sym is ∙ statement_result requests.LogEnd asked done ∙ ap effect_answer out)) where
      no : answers.At position ≡ refuses ER_TABLE_NOT_LOCKED → ⊥
      no same = cc
    by (within_so there same log within) = let both : answers.At position ≡ answers.At (length there.log) = sym is ∙ statement_result requests.LogEnd asked done ∙ ap effect_answer within in let one : position ≡ length there.log = cc in one ∙ ap length log

  -- a table is made, without rows
  pub made_said : (schema : Schema) (count : ℕ) → About (requests.Create schema) → entry.answer ≡ answers.Ok count → find_table schema.name after.tables ≡ Some (record { schema = schema; rows = [] })
  made_said schema count asked is = by (deeded entry before (requests.Create schema)) where
    done : was_done entry.answer ≡ true
    done = ap was_done is

    refused : (number : ℕ) → answers.Ok count ≡ refuses number → ⊥
    refused number same = cc

    by : Deeded before entry.session (requests.Create schema) (effect_now (requests.Create schema)) → find_table schema.name after.tables ≡ Some (record { schema = schema; rows = [] })
    by (outside_so out) = absurd (refused ER_TABLE_NOT_LOCKED (sym is ∙ statement_result (requests.Create schema) asked done ∙ ap effect_answer out))
    by (within_so there same log within) = stands (has_table schema.name there.tables) refl within where
      stands : (b : Bool) → has_table schema.name there.tables ≡ b → effect_now (requests.Create schema) ≡ defined (created b schema there.tables) → find_table schema.name after.tables ≡ Some (record { schema = schema; rows = [] })
      stands true has so = absurd (refused ER_TABLE_EXISTS_ERROR (sym is ∙ statement_result (requests.Create schema) asked done ∙ ap effect_answer so))
      stands false has so =
          let all = subst (λ (d : Effect). EffectLeaves d (is_lost entry.side) entry.session (stored before) (stored after) (holds_of before) (holds_of after)) so (left (requests.Create schema) asked done) in
          ap (find_table schema.name) all.0 ∙ new_found schema.name there.tables (record { schema = schema; rows = [] }) has (same_bytes schema.name)
