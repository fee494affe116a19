-- One thing more of a history.
use Rattle.std.proofs.Common.{◌≡◌, List, [], ◌∷◌, ◌++◌, Option, Some, None, refl, sym, ap, ◌∙◌, subst, append_assoc, append-nil}
use Rattle.std.specs.List.{AllByRecursion}
use Rattle.std.specs.Option.{option_and_then, option_map}
use Rattle.proof_schemas.specs.Alters.Laws.{AlteredSchemasAreValid, IsClause}
use Rattle.table_store.specs.Databases.{Database}
use Rattle.server_model.specs.Alone.{alone}
use Rattle.server_model.specs.declared.transaction.Reply.{Reply}
use Rattle.server_model.specs.declared.transaction.TxnLine.{TxnLine}
use Rattle.plan_data.specs.PlanData.{PlanData}
use Rattle.tool_program.specs.JournalWords.Serials.{altered_database}
use Rattle.test_histories.specs.Histories.{AreValid, IfValid, serial_run, goes_on, with_replies}
use Rattle.test_histories.specs.declared.histories.HistoryStep.{HistoryStep}
use Rattle.test_histories.specs.declared.histories.HistoryStep.TheVariants.{Txn, Alter}
use Rattle.test_histories.specs.declared.histories.InOrder.{InOrder}
use Rattle.test_histories.proofs.Valid.{altered_valid}

following : (front : List (List Reply)) (one : List Reply) (all : Option InOrder) → with_replies (front ++ one ∷ []) all ≡ with_replies front (with_replies (one ∷ []) all)
following front one None = refl
following front one (Some later) = ap (λ (all : List (List Reply)). Some (record { replies = all; tables = later.tables })) (append_assoc front (one ∷ []) later.replies)

module _ (plan : PlanData) (so_far : InOrder) (rest : List HistoryStep) where
  -- a transaction
  pub txn_goes : (lines : List TxnLine) (next : InOrder) → next.replies ≡ so_far.replies ++ (alone so_far.tables lines).replies ∷ [] → next.tables ≡ (alone so_far.tables lines).tables
      → goes_on plan rest (Some next) ≡ with_replies so_far.replies (serial_run plan so_far.tables (Txn lines ∷ rest))
  unfolding serial_run
  txn_goes lines next replies tables =
      ap (λ (front : List (List Reply)). with_replies front (serial_run plan next.tables rest)) replies
      ∙ ap (λ (left : Database). with_replies (so_far.replies ++ (alone so_far.tables lines).replies ∷ []) (serial_run plan left rest)) tables
      ∙ following so_far.replies (alone so_far.tables lines).replies (serial_run plan (alone so_far.tables lines).tables rest)

  -- the ALTER
  pub alter_goes : goes_on plan rest (option_map (λ after. record so_far { tables = after }) (altered_database plan so_far.tables)) ≡ with_replies so_far.replies (serial_run plan so_far.tables (Alter ∷ rest))
  unfolding serial_run
  alter_goes = by (altered_database plan so_far.tables) where
    by : (found : Option Database) → goes_on plan rest (option_map (λ after. record so_far { tables = after }) found) ≡ with_replies so_far.replies (option_and_then (λ after. serial_run plan after rest) found)
    by None = refl
    by (Some after) = refl

pub alter_valid : AlteredSchemasAreValid → (plan : PlanData) (so_far : InOrder) → AllByRecursion IsClause plan.alter → AreValid so_far.tables → IfValid (option_map (λ after. record so_far { tables = after }) (altered_database plan so_far.tables))
alter_valid valid plan so_far kinds all = by (altered_database plan so_far.tables) refl where
  by : (found : Option Database) → altered_database plan so_far.tables ≡ found → IfValid (option_map (λ after. record so_far { tables = after }) found)
  by None is = tt
  by (Some after) is = altered_valid valid plan so_far.tables after kinds all is

-- nothing is left
pub ended : (plan : PlanData) (so_far : InOrder) → goes_on plan [] (Some so_far) ≡ Some so_far
unfolding serial_run
ended plan so_far = ap (λ (all : List (List Reply)). Some (record { replies = all; tables = so_far.tables })) (append-nil so_far.replies)
