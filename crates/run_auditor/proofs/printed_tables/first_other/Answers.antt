use Rattle.std.proofs.Common.{◌≡◌, ℕ, List, Option, Some, false, true, sym, ap, ◌∙◌, arith}
use Rattle.std.specs.List.{slice_get}
use Rattle.std.proofs.lemmas.Bool.Decides.{nat_tests}
use Rattle.base_values.specs.declared.gho_schema.schema.Schema.{Schema}
use Rattle.table_store.specs.Databases.{database}
use Rattle.table_store.specs.PagedTables.PagedDatabases.{stored_of}
use Rattle.run_auditor.specs.PrintedTables.{is_printed}
use Rattle.run_auditor.proofs.AlteredDatabases.{past_all, stored_here}
use Rattle.run_auditor.proofs.PrintedTexts.{other_end, other_found, other_goes}
use Rattle.run_auditor.proofs.printed_tables.first_other.Goals as goal

pub returns-then-not-branch : goal.returns-then-not-branch
returns-then-not-branch c =
    let apart : is_printed (slice_get c.args.printed.now c.loop-place.place) c.at-table.result.now.table ≡ false =
    sym (c.in_ok-is_printed.ensures ∙ ap (λ (text : Option (List ℕ)). is_printed text c.at-table.result.now.table) c.text_at.ensures) ∙ c.if-not-branch.true in
    ap (λ (name : List ℕ). Some name) (c.in_ok-copy.ensures ∙ ap (λ (schema : Schema). schema.name) c.schema.ensures.schema)
    ∙ other_found c.args.printed.now (database c.args.tables.now) c.loop-place.place c.at-table.result.now.table (stored_here c.args.tables.now c.loop-place.place (stored_of c.at-table.result.now) c.at-table.ensures) apart c.loop-place.invariant

pub loop-place-preserved : goal.loop-place-preserved
loop-place-preserved c =
    let same : is_printed (slice_get c.args.printed.now c.loop-place.place) c.at-table.result.now.table ≡ true =
    sym (c.in_ok-is_printed.ensures ∙ ap (λ (text : Option (List ℕ)). is_printed text c.at-table.result.now.table) c.text_at.ensures) ∙ c.if-not-branch.false in
    other_goes c.args.printed.now (database c.args.tables.now) c.loop-place.place c.at-table.result.now.table (stored_here c.args.tables.now c.loop-place.place (stored_of c.at-table.result.now) c.at-table.ensures) same c.loop-place.invariant

pub returns : goal.returns
returns c =
    sym (other_end c.args.printed.now (database c.args.tables.now) c.loop-place.place (past_all c.args.tables.now c.loop-place.place c.len-place-end.result c.len-place-end.ensures.length (grind (arith, nat_tests, c.loop-place-test.false)))) ∙ c.loop-place.invariant
