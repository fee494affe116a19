use Rattle.std.proofs.Common.{sym, ◌∙◌, subst, arith}
use Rattle.std.proofs.lemmas.Result.{err_from_is_err_and}
use Rattle.table_store.specs.ClusteredKeys.{HasClusteredKey}
use Rattle.plan_reader.proofs.PlanTables.Reading.{row_goes_on, row_fails, rows_ended}
use Rattle.plan_reader.proofs.plan_tables.rows.put_texts.Goals as goal

pub put_numbered-requires-clause-room : goal.put_numbered-requires-clause-room
put_numbered-requires-clause-room c = omega (arith, c.loop-text.invariant.room, c.loop-text-test.true)

pub put_numbered-requires-clause-keyed : goal.put_numbered-requires-clause-keyed
put_numbered-requires-clause-keyed c = subst HasClusteredKey (sym c.loop-text.invariant.schema) c.requires.keyed

pub returns-in_err-put_numbered : goal.returns-in_err-put_numbered
returns-in_err-put_numbered c =
    let p = err_from_is_err_and c.from_residual.result c.from_residual.ensures.1 in
    rw (p.1, p.2) (record {
      table = row_fails c.args.number c.loop-text.row c.loop-text.table.table c.args.texts.now c.loop-text.text-index _ _ c.loop-text-test.true c.in_err-put_numbered.field-0.0 c.in_err-put_numbered.ensures.table c.loop-text.invariant.rows;
      schema = tt;
      is_table = tt;
    })

pub loop-text-preserved : goal.loop-text-preserved
loop-text-preserved c = record {
  rows = rw c.saturating_add-row.ensures (row_goes_on c.args.number c.loop-text.row c.loop-text.table.table c.args.texts.now c.loop-text.text-index _ _ c.loop-text-test.true _ c.in_ok-put_numbered.ensures.table c.loop-text.invariant.rows);
  schema = c.in_ok-put_numbered.ensures.schema ∙ c.loop-text.invariant.schema;
  is_table = c.in_ok-put_numbered.ensures.is_table;
  room = omega (arith, c.in_ok-put_numbered.ensures.spare, c.loop-text.invariant.room, c.loop-text-test.true);
}

pub returns : goal.returns
returns c = record {
  table = rows_ended c.args.number c.loop-text.row c.loop-text.table.table c.args.texts.now c.loop-text.text-index _ c.loop-text-test.false c.loop-text.invariant.rows;
  schema = c.loop-text.invariant.schema;
  is_table = c.loop-text.invariant.is_table;
}
