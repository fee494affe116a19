use Rattle.run_auditor.proofs.AlteredDatabases.{ordered_by}
use Rattle.run_auditor.proofs.altered_tables.altered_table.Goals as goal

pub from_rows-requires : goal.from_rows-requires
from_rows-requires c =
    let made = rw (c.in-Some.is, c.as_slice.ensures, c.rows.ensures) at c.in_ok-converted_rows.ensures in
    ordered_by c.args.plan.now c.args.table.now.table c.altered-altered.result.now.schema c.in_ok-schema-in-Some.schema c.altered-altered.result.now.map c.in-Some.rows c.as_slice-in-Some.result.now c.requires.ordered c.requires.planned c.altered-altered.ensures made
    c.in_ok-schema-in-Some.ensures c.as_slice-in-Some.ensures
