use Rattle.std.proofs.Common.{◌≡◌, List, ◌∷◌, Option, Some, sym, ap, ◌∙◌, subst}
use Rattle.std.proofs.lemmas.Result.{IfOk-weaker}
use Rattle.std.specs.Option.{option_map}
use Rattle.table_store.specs.Databases.{Database}
use Rattle.server_model.specs.Alone.{alone}
use Rattle.tool_program.specs.JournalWords.Serials.{altered_database}
use Rattle.test_histories.specs.Histories.{AreValid, IfValid, serial_run, goes_on, with_replies}
use Rattle.test_histories.specs.declared.histories.HistoryStep.{HistoryStep}
use Rattle.test_histories.specs.declared.histories.HistoryStep.TheVariants.{Alter}
use Rattle.test_histories.specs.declared.histories.InOrder.{InOrder}
use Rattle.test_histories.proofs.HistorySteps.{alter_goes, alter_valid, txn_goes}
use Rattle.test_histories.proofs.Valid.{alone_valid}
use Rattle.proof_schemas.proofs.Stored.{alters_valid}
use Rattle.test_histories.proofs.histories.step.Goals as goal

pub returns-in_ok-with_txn-in-Txn-clause-goes : goal.returns-in_ok-with_txn-in-Txn-clause-goes
returns-in_ok-with_txn-in-Txn-clause-goes c = λ rest. rw c.in-Txn.is (txn_goes c.args.plan.now c.args.so_far rest c.in-Txn.lines c.in_ok-with_txn-in-Txn.field-0 c.in_ok-with_txn-in-Txn.ensures.replies c.in_ok-with_txn-in-Txn.ensures.tables)

pub returns-in_ok-with_txn-in-Txn-clause-valid : goal.returns-in_ok-with_txn-in-Txn-clause-valid
returns-in_ok-with_txn-in-Txn-clause-valid c = subst AreValid (sym c.in_ok-with_txn-in-Txn.ensures.tables) (alone_valid c.args.so_far.tables c.in-Txn.lines c.requires.valid)

pub returns-in-Alter-clause-goes : goal.returns-in-Alter-clause-goes
returns-in-Alter-clause-goes c =
    let plan = c.args.plan.now in
    IfOk-weaker c.with_alter.result (λ (next : Option InOrder). next ≡ option_map (λ (after : Database). record c.args.so_far { tables = after }) (altered_database plan c.args.so_far.tables))
    (λ (next : Option InOrder). (rest : List HistoryStep) → goes_on plan rest next ≡ with_replies c.args.so_far.replies (serial_run plan c.args.so_far.tables (c.args.history_step.now ∷ rest)))
    (λ next is rest. ap (goes_on plan rest) is ∙ (rw c.in-Alter.is (alter_goes plan c.args.so_far rest))) c.with_alter.ensures

pub returns-in-Alter-clause-valid : goal.returns-in-Alter-clause-valid
returns-in-Alter-clause-valid c =
    let plan = c.args.plan.now in
    IfOk-weaker c.with_alter.result (λ (next : Option InOrder). next ≡ option_map (λ (after : Database). record c.args.so_far { tables = after }) (altered_database plan c.args.so_far.tables)) IfValid
    (λ next is. subst IfValid (sym is) (alter_valid alters_valid plan c.args.so_far c.requires.clauses c.requires.valid)) c.with_alter.ensures
