use Rattle.std.proofs.Common.{◌≡◌, ◌∙◌, ap, subst, sym}
use Rattle.std.specs.Prelude.{IfOk}
use Rattle.std.proofs.lemmas.Result.{IfOk-weaker}
use Rattle.table_store.specs.Databases.{Database, database}
use Rattle.server_model.specs.declared.work.StatementResult.{StatementResult}
use Rattle.server_model.specs.Operations.{after_events}
use Rattle.server_transaction.specs.Premises.{events_ready}
use Rattle.server_transaction.proofs.PreparedWork.{gives_missing, gives_there, made_there, met_there, sound_there, writes_stand}
use Rattle.server_transaction.proofs.execution.execute.Goals as goal

pub tell-requires-clause-sound : goal.tell-requires-clause-sound
tell-requires-clause-sound c =
    let tables : Database = after_events (database c.args.tables.now) c.args.txn.now.events in
    sound_there tables c.args.name.now c.in-Some.found c.in-Some-seen_table.seen c.in-Some-seen_table.ensures (rw c.in-Some.is at c.requires.sound)

pub tell-requires-clause-met : goal.tell-requires-clause-met
tell-requires-clause-met c =
    let tables : Database = after_events (database c.args.tables.now) c.args.txn.now.events in
    met_there tables c.args.name.now c.in-Some.found c.in-Some-seen_table.seen c.in-Some-seen_table.ensures (rw c.in-Some.is at c.requires.sound)

pub tell-requires-clause-made : goal.tell-requires-clause-made
tell-requires-clause-made c =
    let tables : Database = after_events (database c.args.tables.now) c.args.txn.now.events in
    made_there tables c.args.name.now c.in-Some.found c.in-Some-seen_table.seen c.in-Some-seen_table.ensures (rw c.in-Some.is at c.requires.sound)

pub returns-in-Some-seen_table-clause-answer : goal.returns-in-Some-seen_table-clause-answer
returns-in-Some-seen_table-clause-answer c =
    let tables : Database = after_events (database c.args.tables.now) c.args.txn.now.events in
    rw c.in-Some.is (subst (λ (s : StatementResult). IfOk c.tell.result (λ executed. executed.answer ≡ s.answer)) (gives_there tables c.args.name.now c.in-Some.found c.in-Some-seen_table.seen c.in-Some-seen_table.ensures) c.tell.ensures.answer)

pub returns-in-Some-seen_table-clause-events : goal.returns-in-Some-seen_table-clause-events
returns-in-Some-seen_table-clause-events c =
    let tables : Database = after_events (database c.args.tables.now) c.args.txn.now.events in
    rw c.in-Some.is (subst (λ (s : StatementResult). IfOk c.tell.result (λ executed. events_ready executed.writes ≡ s.events)) (gives_there tables c.args.name.now c.in-Some.found c.in-Some-seen_table.seen c.in-Some-seen_table.ensures) c.tell.ensures.events)

pub returns-in-Some-seen_table-clause-schema : goal.returns-in-Some-seen_table-clause-schema
returns-in-Some-seen_table-clause-schema c =
    IfOk-weaker c.tell.result _ _ (λ executed same. writes_stand (database c.args.tables.now) c.args.txn.now.events c.args.name.now c.in-Some-seen_table.seen c.in-Some-seen_table.ensures executed.writes same) c.tell.ensures.schema

pub returns-in-None-clause-answer : goal.returns-in-None-clause-answer
returns-in-None-clause-answer c =
    let tables : Database = after_events (database c.args.tables.now) c.args.txn.now.events in
    rw c.in-Some.is (c.missing-in-None.ensures.answer ∙ ap (λ (r : StatementResult). r.answer) (gives_missing tables c.args.name.now c.in-Some.found (sym c.in-None.is ∙ c.seen_table.ensures)))

pub returns-in-None-clause-events : goal.returns-in-None-clause-events
returns-in-None-clause-events c =
    let tables : Database = after_events (database c.args.tables.now) c.args.txn.now.events in
    rw c.in-Some.is (ap events_ready c.missing-in-None.ensures.writes ∙ ap (λ (r : StatementResult). r.events) (gives_missing tables c.args.name.now c.in-Some.found (sym c.in-None.is ∙ c.seen_table.ensures)))
