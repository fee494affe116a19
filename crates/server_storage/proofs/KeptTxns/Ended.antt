-- What ends a transaction keeps what is kept: it is committed, or it is rolled back.
use Rattle.std.proofs.Common.{◌≡◌, ℕ, ◌==◌, false, List, [], ◌∷◌, sym, ap, subst, arith}
use Rattle.std.specs.List.{AllByRecursion}
use Rattle.base_values.specs.declared.event.RowEvent.{RowEvent}
use Rattle.table_store.specs.Databases.{StoredTable, Database, database}
use Rattle.server_model.specs.Operations.{after_events}
use Rattle.server_model.specs.LockedRows.Databases.{IsWellFormedDatabase}
use Rattle.server_transaction.specs.FittingEvents.{EventsFit}
use Rattle.server_transaction.specs.Premises.{IsOf}
use Rattle.server_transaction.specs.Rooms.{puts_in}
use Rattle.server_transaction.specs.Stored.{StoredTxn}
use Rattle.server_storage.specs.KeptTxns.Transactions.{HasEvents}
use Rattle.server_storage.proofs.KeptTxns.Transactions.Kept.{outlasts}
use Rattle.server_storage.specs.declared.open_txns.txns.OpenTxn.{OpenTxn}
use Rattle.server_storage.specs.OpenTxns.Open.{txn_of, others, written_of}
use Rattle.server_storage.proofs.OpenTxns.Changed.{others_each}
use Rattle.server_storage.proofs.OpenTxns.OpenRows.{fewer_puts, taken_puts}
use Rattle.server_storage.specs.KeptTxns.Kept.{IsKept, MayBeCommitted}
use Rattle.server_storage.specs.KeptTxns.Laws.{KeptMayBeCommitted, CommittingKeeps, RollingBackKeeps}
use Rattle.server_storage.proofs.KeptTxns.Each.{each_found, each_other, each_written, left_written, own_taken, others_left, taken_there, taken_written}

-- IT MAY BE COMMITTED

pub kept_may_be_committed : KeptMayBeCommitted
kept_may_be_committed tables number txn txns kept is =
    let there = taken_there txn (txn_of number txns) is in
    record {
      of = subst (IsOf (database tables)) there.2 (each_found (λ (o : OpenTxn). IsOf (database tables) o.txn) number there.0 txns kept.of there.1);
      room = λ name.
          let own = ap (λ (t : StoredTxn). puts_in name t.events) there.2 in
          let few = taken_puts name number there.0 txns there.1 in
          let all = kept.room name in
          omega (arith, own, few, all);
    }

-- IT IS COMMITTED

-- each other one outlasts it
each_outlasts : (tables : Database) (events : List RowEvent) (txns : List OpenTxn) → AllByRecursion (λ one. IsOf tables one.txn) txns → AllByRecursion (λ one. EventsFit (after_events tables events) one.txn.events) txns
    → AllByRecursion (λ one. IsWellFormedDatabase (after_events (after_events tables events) one.txn.events)) txns → AllByRecursion (λ one. IsOf (after_events tables events) one.txn) txns
each_outlasts tables events [] of fit well_formed = tt
each_outlasts tables events (one ∷ txns) of fit well_formed = (outlasts tables events one.txn of.0 fit.0 well_formed.0, each_outlasts tables events txns of.1 fit.1 well_formed.1)

-- what is left of the transactions is of the tables as they then are
left_of : (was : List StoredTable) (number : ℕ) (txn : StoredTxn) (txns : List OpenTxn) → IsKept was txns → MayBeCommitted was txn → ((other : ℕ) → (other == number) ≡ false → EventsFit (after_events (database was) txn.events) (written_of other txns))
    → ((other : ℕ) → (other == number) ≡ false → IsWellFormedDatabase (after_events (after_events (database was) txn.events) (written_of other txns))) → AllByRecursion (λ one. IsOf (after_events (database was) txn.events) one.txn) (others number txns)
unfolding EventsFit after_events
left_of was number txn txns kept may fit well_formed =
    let later : Database = after_events (database was) txn.events in
    let each = others_each number txns kept.one_each in
    each_outlasts (database was) txn.events (others number txns) (each_other (λ (o : OpenTxn). IsOf (database was) o.txn) number txns kept.of)
    (each_written (EventsFit later) (others number txns) tt each (left_written (EventsFit later) number txns tt fit))
    (each_written (λ (es : List RowEvent). IsWellFormedDatabase (after_events later es)) (others number txns) may.of.well_formed each (left_written (λ (es : List RowEvent). IsWellFormedDatabase (after_events later es)) number txns may.of.well_formed well_formed))

pub committing_keeps : CommittingKeeps
committing_keeps was now number txn txns kept is tables_are spare fit well_formed =
    let there = taken_there txn (txn_of number txns) is in
    let may : MayBeCommitted was txn = kept_may_be_committed was number txn txns kept is in
    let own : written_of number txns ≡ txn.events = taken_written number txn txns is in
    let of = left_of was number txn txns kept may
    (λ other differ. subst (λ (es : List RowEvent). EventsFit (after_events (database was) es) (written_of other txns)) own (fit other differ))
    (λ other differ. subst (λ (es : List RowEvent). IsWellFormedDatabase (after_events (after_events (database was) es) (written_of other txns))) own (well_formed other differ)) in
    record {
      kept = record {
        well_formed = subst IsWellFormedDatabase (sym tables_are) may.of.well_formed;
        one_each = others_each number txns kept.one_each;
        of = subst (λ (ts : Database). AllByRecursion (λ (o : OpenTxn). IsOf ts o.txn) (others number txns)) (sym tables_are) of;
        events = each_other (λ (o : OpenTxn). HasEvents o.txn) number txns kept.events;
        room = λ name.
            let put = ap (λ (t : StoredTxn). puts_in name t.events) there.2 in
            let few = taken_puts name number there.0 txns there.1 in
            let all = kept.room name in
            let left = spare name in
            omega (arith, put, few, all, left);
      };
      own = own_taken number txns;
      others = λ other differ. others_left number other txns differ;
    }

-- IT IS ROLLED BACK

pub rolling_back_keeps : RollingBackKeeps
rolling_back_keeps tables number txns kept = record {
  kept = record {
    well_formed = kept.well_formed;
    one_each = others_each number txns kept.one_each;
    of = each_other (λ (o : OpenTxn). IsOf (database tables) o.txn) number txns kept.of;
    events = each_other (λ (o : OpenTxn). HasEvents o.txn) number txns kept.events;
    room = λ name. let few = fewer_puts name number txns in let all = kept.room name in omega (arith, few, all);
  };
  own = own_taken number txns;
  others = λ other differ. others_left number other txns differ;
}
