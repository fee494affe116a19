use Rattle.std.proofs.Common.{◌++◌, ◌∙◌, ap, arith}
use Rattle.std.proofs.lemmas.Bool.Decides.{nat_tests}
use Rattle.table_store.specs.Databases.{Database, database}
use Rattle.table_store.specs.PagedTables.PagedDatabases.{stored_of}
use Rattle.tool_program.specs.JournalWords.Serials.{tables_left}
use Rattle.top_report.specs.Tables.{tables_text}
use Rattle.top_report.proofs.Left.{left_by_one, left_in, prints_all, prints_one}
use Rattle.top_report.proofs.tables.push_tables_left.Goals as goal

pub loop-place-init : goal.loop-place-init
loop-place-init c =
    let plan = c.args.plan.now in
    let tables = database c.args.tables.now in
    ap (λ (left : Database). c.args.into.now ++ tables_text c.args.shown left)
    (ap (λ (opening : Database). left_in plan opening tables) c.tables-opening.ensures ∙ left_by_one plan tables)

pub loop-place-preserved : goal.loop-place-preserved
loop-place-preserved c =
    let plan = c.args.plan.now in
    let tables = database c.args.tables.now in
    prints_one c.args.shown plan c.tables-opening.result.now c.loop-place.place (stored_of c.at.result.now) tables c.push_left.new.into c.loop-place.into
    (c.args.into.now ++ tables_text c.args.shown (tables_left plan tables)) c.at.ensures c.in_ok-push_left.ensures c.loop-place.invariant

pub returns : goal.returns
returns c =
    let plan = c.args.plan.now in
    let tables = database c.args.tables.now in
    prints_all c.args.shown plan c.tables-opening.result.now c.loop-place.place tables c.loop-place.into
    (c.args.into.now ++ tables_text c.args.shown (tables_left plan tables)) (grind (arith, nat_tests, c.loop-place-test.false, c.len-place-end.ensures.length)) c.loop-place.invariant
