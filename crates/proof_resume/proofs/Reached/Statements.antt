-- The inspector's statement on the changelog is done, or leaves all as it is; what its entry says of it tells which.
use Rattle.std.proofs.Common.{◌≡◌, ℕ, List, [], ◌∷◌, ◌++◌, Option, Some, None, refl, sym, ap, ◌∙◌, subst}
use Rattle.base_script.specs.declared.actor.Actor.TheVariants.{Insp}
use Rattle.base_script.specs.declared.actor.Side.{Side}
use Rattle.base_script.specs.declared.actor.Side.TheVariants.{Before, After}
use Rattle.base_script.specs.declared.statement.Statement.{Statement}
use Rattle.table_store.specs.Databases.{Database}
use Rattle.server_model.specs.Blockers.{blocker, need}
use Rattle.server_model.specs.declared.answer.Answer.{Answer}
use Rattle.server_model.specs.declared.answer.Answer.TheVariants as answers
use Rattle.server_model.specs.declared.entry.Asked.{Asked}
use Rattle.server_model.specs.declared.entry.Asked.TheVariants.{Call}
use Rattle.server_model.specs.declared.entry.Entry.{Entry}
use Rattle.server_model.specs.declared.request.Request.{Request}
use Rattle.server_model.specs.declared.request.Request.TheVariants as requests
use Rattle.server_model.specs.declared.work.StatementResult.{StatementResult}
use Rattle.server_model.specs.Operations.{after_events, statement_result}
use Rattle.server_model.specs.PlainServer.{called_unless, calls, done, given_at, leaves, loses, serves}
use Rattle.server_model.specs.States.{State}
use Rattle.plan_data.specs.PlanData.{PlanData}
use Rattle.tool_program.specs.JournalWords.Journals as journals
use Rattle.tool_program.specs.JournalWords.Journals.{heard, inner_answer, opens, state_at}
use Rattle.proof_journals.specs.Plans.{IsSerialPlan}
use Rattle.proof_journals.specs.Scenes.{Stored}
use Rattle.proof_journals.specs.Turns.{reported_at}
use Rattle.proof_journals.specs.Run.Kept.{IsKept}
use Rattle.proof_journals.specs.Machine.Runnable.{IsRunnable}
use Rattle.proof_journals.proofs.Machine.Journals.{IsRun}
use Rattle.proof_journals.proofs.Machine.Seated.{state_more}
use Rattle.proof_migration.proofs.Program.Turns.Follows.{kept_run}
use Rattle.proof_bounds.proofs.AttemptTurns.LogWrites.{IsDoneAs, done_so, stored_now}

-- it says that the statement wasn't done
abbrev pub IsUndone : Option Answer → Type 0
IsUndone (Some (answers.Ok count)) = ⊥
IsUndone reported = Unit {0}

pub data StatementLeaves (result : StatementResult) (reported : Option Answer) (before after : Database) : Type 0 where
  undone : IsUndone reported → after ≡ before → StatementLeaves result reported before after
  is_done : reported ≡ Some result.answer → after ≡ after_events before result.events → StatementLeaves result reported before after

module _ (plan : PlanData) (runs : IsRunnable plan) (serial : IsSerialPlan plan) (journal : List Entry) (entry : Entry) (kept : IsKept plan (journal ++ entry ∷ [])) (same : entry.actor ≡ Insp) (statement : Statement) (asks : entry.asked ≡ Call (requests.Do statement)) (result : StatementResult)
    (gives : statement_result (state_at plan journal).tables statement ≡ result) where
  abbrev before : State
  before = state_at plan journal

  abbrev after : State
  after = state_at plan (journal ++ entry ∷ [])

  abbrev open_now : State
  open_now = opens entry before

  abbrev request : Request
  request = requests.Do statement

  abbrev reported_now : Option Answer
  reported_now = reported_at entry.side entry.answer entry.missed

  run : IsRun plan journal entry
  run = kept_run plan journal entry kept

  abbrev Goal : Option Answer → Database → Type 0
  Goal reported tables = StatementLeaves result reported before.tables tables

  open_tables : open_now.tables ≡ before.tables
  open_tables = ap (λ (s : Stored). s.tables) (stored_now plan runs serial journal entry kept)

  does_so : IsDoneAs open_now (done open_now entry.session request) result
  does_so = done_so plan runs serial journal entry kept same statement asks result gives

  done_tables : (done open_now entry.session request).after.tables ≡ after_events before.tables result.events
  done_tables = does_so.tables ∙ ap (λ (d : Database). after_events d result.events) open_tables

  called_leaves : (blocked : Option ℕ) → Goal (Some (called_unless blocked open_now entry.session request).answer) (called_unless blocked open_now entry.session request).after.tables
  called_leaves (Some other) = undone tt open_tables
  called_leaves None = is_done (ap Some does_so.answer) done_tables

  served_leaves : Goal (Some (serves open_now entry.session entry.asked).answer) (serves open_now entry.session entry.asked).after.tables
  unfolding calls
  served_leaves = subst (λ (a : Asked). Goal (Some (serves open_now entry.session a).answer) (serves open_now entry.session a).after.tables) (sym asks) (called_leaves (blocker open_now entry.session (need open_now entry.session request)))

  -- what the entry says, by where its session was lost
  given_now : (side : Option Side) → given_at side entry.asked (serves open_now entry.session entry.asked).answer ≡ given_at side (Call request) (serves open_now entry.session entry.asked).answer
  given_now side = ap (λ (a : Asked). given_at side a (serves open_now entry.session entry.asked).answer) asks

  left_by : (side : Option Side) → entry.side ≡ side → Goal (reported_at side entry.answer entry.missed) (leaves side open_now entry.session entry.asked).tables
  unfolding inner_answer loses
  left_by None at = subst (λ (r : Option Answer). Goal r (serves open_now entry.session entry.asked).after.tables) (ap Some (sym heard_it)) served_leaves where
    heard_it : entry.answer ≡ (serves open_now entry.session entry.asked).answer
    heard_it = run.answered.answer ∙ ap (λ (s : Option Side). heard s (given_at s entry.asked (serves open_now entry.session entry.asked).answer)) at ∙ ap (heard None) (given_now None)
  left_by (Some Before) at = subst (λ (r : Option Answer). Goal r open_now.tables) (sym missed_none) (undone tt open_tables) where
    missed_none : entry.missed ≡ None
    missed_none = run.answered.missed ∙ ap (λ (s : Option Side). journals.missed s (given_at s entry.asked (serves open_now entry.session entry.asked).answer)) at
  left_by (Some After) at = subst (λ (r : Option Answer). Goal r (serves open_now entry.session entry.asked).after.tables) (sym missed_it) served_leaves where
    missed_it : entry.missed ≡ Some (serves open_now entry.session entry.asked).answer
    missed_it = run.answered.missed ∙ ap (λ (s : Option Side). journals.missed s (given_at s entry.asked (serves open_now entry.session entry.asked).answer)) at ∙ given_now (Some After)

  -- *What the statement leaves*
  pub statement_leaves : StatementLeaves result reported_now before.tables after.tables
  statement_leaves = subst (λ (s : State). Goal reported_now s.tables) (sym (state_more plan journal entry)) (left_by entry.side refl)
