use Rattle.std.proofs.Common.{◌≡◌, ℕ, true, List, sym, ap, ◌∙◌, arith}
use Rattle.std.proofs.lemmas.Bool.Decides.{nat_tests}
use Rattle.table_store.specs.Databases.{database, has_table}
use Rattle.table_store.specs.PagedTables.PagedDatabases.{stored_of}
use Rattle.run_auditor.proofs.AlteredDatabases.{altered_all, altered_none, made_all, made_more, made_none, ordered_at, past_all, planned_at, stored_here}
use Rattle.run_auditor.proofs.altered_tables.altered_tables.Goals as goal

pub returns-then-not-stands : goal.returns-then-not-stands
returns-then-not-stands c =
    sym (altered_none c.args.plan.now (database c.args.tables.now) (ap (λ (name : List ℕ). has_table name (database c.args.tables.now)) (sym c.table.ensures) ∙ sym c.stands.ensures ∙ c.if-not-stands.true))

pub table_after-requires-clause-planned : goal.table_after-requires-clause-planned
table_after-requires-clause-planned c = λ named.
    planned_at c.args.plan.now (database c.args.tables.now) c.loop-place.place c.at.result.now.table c.requires.planned c.len-place-end.ensures.differ (stored_here c.args.tables.now c.loop-place.place (stored_of c.at.result.now) c.at.ensures) named

pub table_after-requires-clause-ordered : goal.table_after-requires-clause-ordered
table_after-requires-clause-ordered c = λ after named made.
    ordered_at c.args.plan.now (database c.args.tables.now) c.loop-place.place c.at.result.now.table after c.requires.planned c.requires.formed c.requires.alters c.len-place-end.ensures.differ
    (stored_here c.args.tables.now c.loop-place.place (stored_of c.at.result.now) c.at.ensures) named made

pub returns-in-None : goal.returns-in-None
returns-in-None c =
    let made = rw c.in-None.is at c.in_ok-table.ensures in
    let has : has_table c.args.plan.now.table (database c.args.tables.now) ≡ true = ap (λ (name : List ℕ). has_table name (database c.args.tables.now)) (sym c.table.ensures) ∙ sym c.stands.ensures ∙ c.if-not-stands.false in
    sym (made_none c.args.plan.now (database c.args.tables.now) (database c.loop-place.after) c.loop-place.place c.at.result.now.table (stored_here c.args.tables.now c.loop-place.place (stored_of c.at.result.now) c.at.ensures) (sym made) c.loop-place.invariant)
    ∙ altered_all c.args.plan.now (database c.args.tables.now) c.len-place-end.ensures.differ has

pub loop-place-preserved : goal.loop-place-preserved
loop-place-preserved c =
    let made = rw c.in-Some.is at c.in_ok-table.ensures in
    made_more c.args.plan.now (database c.args.tables.now) (database c.args.tables.now) (database c.loop-place.after) (database c.add_other.new.tables) c.loop-place.place c.at.result.now.table c.in-Some.table.table
    (stored_here c.args.tables.now c.loop-place.place (stored_of c.at.result.now) c.at.ensures) (sym made) c.in_ok-add_other-in-Some.ensures c.loop-place.invariant

pub returns : goal.returns
returns c =
    let has : has_table c.args.plan.now.table (database c.args.tables.now) ≡ true = ap (λ (name : List ℕ). has_table name (database c.args.tables.now)) (sym c.table.ensures) ∙ sym c.stands.ensures ∙ c.if-not-stands.false in
    made_all c.args.plan.now (database c.args.tables.now) (database c.loop-place.after) c.loop-place.place (past_all c.args.tables.now c.loop-place.place c.len-place-end.result c.len-place-end.ensures.length (grind (arith, nat_tests, c.loop-place-test.false))) c.loop-place.invariant
    ∙ altered_all c.args.plan.now (database c.args.tables.now) c.len-place-end.ensures.differ has
