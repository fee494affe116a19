use Rattle.std.proofs.Common.{◌++◌, ◌∷◌, [], List, filter, not, ap, sym, subst, ◌∙◌, arith}
use Rattle.std.proofs.lemmas.Bool.Decides.{nat_tests}
use Rattle.table_store.specs.Databases.{NamesDiffer, StoredTable, TableRows, database}
use Rattle.table_store.specs.PagedTables.PagedDatabases.{stored_of}
use Rattle.run_auditor.proofs.AlteredDatabases.{past_all, stored_here}
use Rattle.run_auditor.proofs.OpeningTables.{is_kept, kept_all, kept_more, left_out, opening_formed, opening_is, opening_planned}
use Rattle.run_auditor.proofs.opening.opening_tables.Goals as goal
use Rattle.run_auditor.proofs.opening.opening_tables.Goals.{then-not-is_tool_name+in_ok-copy_table+in_ok-add_other, else-not-is_tool_name}

pub loop-place-preserved : goal.loop-place-preserved
loop-place-preserved c =
    let named = rw (c.as_str.ensures, c.table.ensures, c.as_str-in-loop-place.ensures, c.schema.ensures.schema) at c.is_tool_name.ensures in
    elim c.if-not-is_tool_name.branch [
      | then-not-is_tool_name+in_ok-copy_table+in_ok-add_other w ↦
          kept_more c.args.plan.now.table (database c.tables-opening.result.now) (database c.loop-place.tables) (database c.if-not-is_tool_name.tables) c.loop-place.place c.at-table.result.now.table
          (stored_here c.tables-opening.result.now c.loop-place.place (stored_of c.at-table.result.now) c.at-table.ensures) (ap not (sym named ∙ w.if-not-is_tool_name.true))
          (ap (λ (all : List StoredTable). database all) w.tables-is ∙ w.in_ok-add_other.ensures ∙ ap (λ (one : TableRows). database c.loop-place.tables ++ one ∷ []) w.in_ok-copy_table.ensures) c.loop-place.invariant
      | else-not-is_tool_name w ↦
          left_out c.args.plan.now.table (database c.tables-opening.result.now) (database c.loop-place.tables) (database c.if-not-is_tool_name.tables) c.loop-place.place c.at-table.result.now.table
          (stored_here c.tables-opening.result.now c.loop-place.place (stored_of c.at-table.result.now) c.at-table.ensures) (ap not (sym named ∙ w.if-not-is_tool_name.false))
          (ap (λ (all : List StoredTable). database all) w.tables-is) c.loop-place.invariant
    ]

pub returns-clause-tables : goal.returns-clause-tables
returns-clause-tables c =
    kept_all c.args.plan.now.table (database c.tables-opening.result.now) (database c.loop-place.tables) c.loop-place.place
    (past_all c.tables-opening.result.now c.loop-place.place c.len-place-end.result c.len-place-end.ensures.length (grind (arith, nat_tests, c.loop-place-test.false))) c.loop-place.invariant
    ∙ ap (filter (is_kept c.args.plan.now.table)) c.tables-opening.ensures ∙ sym (opening_is c.args.plan.now (subst NamesDiffer c.tables-opening.ensures c.len-place-end.ensures.differ))

pub returns-clause-formed : goal.returns-clause-formed
returns-clause-formed c = λ all.
    opening_formed c.args.plan.now (database c.loop-place.tables)
    (kept_all c.args.plan.now.table (database c.tables-opening.result.now) (database c.loop-place.tables) c.loop-place.place
    (past_all c.tables-opening.result.now c.loop-place.place c.len-place-end.result c.len-place-end.ensures.length (grind (arith, nat_tests, c.loop-place-test.false))) c.loop-place.invariant
    ∙ ap (filter (is_kept c.args.plan.now.table)) c.tables-opening.ensures)
    all

pub returns-clause-planned : goal.returns-clause-planned
returns-clause-planned c =
    opening_planned c.args.plan.now (database c.loop-place.tables) (subst NamesDiffer c.tables-opening.ensures c.len-place-end.ensures.differ)
    (kept_all c.args.plan.now.table (database c.tables-opening.result.now) (database c.loop-place.tables) c.loop-place.place
    (past_all c.tables-opening.result.now c.loop-place.place c.len-place-end.result c.len-place-end.ensures.length (grind (arith, nat_tests, c.loop-place-test.false))) c.loop-place.invariant
    ∙ ap (filter (is_kept c.args.plan.now.table)) c.tables-opening.ensures)
