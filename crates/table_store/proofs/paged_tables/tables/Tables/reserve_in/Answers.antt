use Rattle.std.proofs.Common.{◌∙◌, ◌≤◌, ℕ, OnOk, refl, subst, sym}
use Rattle.table_store.specs.Databases.{database}
use Rattle.table_store.proofs.NamedTables.{no_op}
use Rattle.table_store.specs.PagedTables.PagedDatabases.{stored}
use Rattle.table_store.proofs.PagedTables.Paged.{Edited, edited, within_tables}
use Rattle.table_store.proofs.paged_tables.tables.Tables.reserve_in.Goals as goal

pub at_mut-table-requires : goal.at_mut-table-requires
at_mut-table-requires c = within_tables c.args.name.now c.self.inside.tables.values c.place_of-place.result c.place_of-place.ensures (rw (← c.self.view_is) at c.requires)

pub invariant_of-self : goal.invariant_of-self
invariant_of-self c =
    let done : Edited c.args.name.now (λ t. t) c.self.inside.tables c.place_of-place.result c.at_mut-table.result.now c.reserve.new.self = edited c.args.name.now (λ t. t) c.self.inside.tables c.place_of-place.result c.at_mut-table.result.now c.reserve.new.self (λ t. refl) c.self.invariant c.place_of-place.ensures (rw (← c.self.view_is) at c.requires) c.at_mut-table.ensures.value c.reserve.ensures.table in
    done.named

pub returns-clause-tables : goal.returns-clause-tables
returns-clause-tables c =
    let done : Edited c.args.name.now (λ t. t) c.self.inside.tables c.place_of-place.result c.at_mut-table.result.now c.reserve.new.self = edited c.args.name.now (λ t. t) c.self.inside.tables c.place_of-place.result c.at_mut-table.result.now c.reserve.new.self (λ t. refl) c.self.invariant c.place_of-place.ensures (rw (← c.self.view_is) at c.requires) c.at_mut-table.ensures.value c.reserve.ensures.table in
    rw (← c.self.view_is) (done.changed ∙ no_op c.args.name.now (database (stored c.self.inside.tables.values)))

pub returns-clause-ok : goal.returns-clause-ok
returns-clause-ok c =
    let done : Edited c.args.name.now (λ t. t) c.self.inside.tables c.place_of-place.result c.at_mut-table.result.now c.reserve.new.self = edited c.args.name.now (λ t. t) c.self.inside.tables c.place_of-place.result c.at_mut-table.result.now c.reserve.new.self (λ t. refl) c.self.invariant c.place_of-place.ensures (rw (← c.self.view_is) at c.requires) c.at_mut-table.ensures.value c.reserve.ensures.table in
    subst (λ (k : ℕ). OnOk c.reserve.result (c.args.n ≤ k)) (sym done.spare) c.reserve.ensures.ok

pub returns-clause-spare : goal.returns-clause-spare
returns-clause-spare c =
    let done : Edited c.args.name.now (λ t. t) c.self.inside.tables c.place_of-place.result c.at_mut-table.result.now c.reserve.new.self = edited c.args.name.now (λ t. t) c.self.inside.tables c.place_of-place.result c.at_mut-table.result.now c.reserve.new.self (λ t. refl) c.self.invariant c.place_of-place.ensures (rw (← c.self.view_is) at c.requires) c.at_mut-table.ensures.value c.reserve.ensures.table in
    rw (← c.self.view_is, done.was.spare, done.spare) c.reserve.ensures.spare

pub returns-clause-others : goal.returns-clause-others
returns-clause-others c =
    let done : Edited c.args.name.now (λ t. t) c.self.inside.tables c.place_of-place.result c.at_mut-table.result.now c.reserve.new.self = edited c.args.name.now (λ t. t) c.self.inside.tables c.place_of-place.result c.at_mut-table.result.now c.reserve.new.self (λ t. refl) c.self.invariant c.place_of-place.ensures (rw (← c.self.view_is) at c.requires) c.at_mut-table.ensures.value c.reserve.ensures.table in
    rw (← c.self.view_is) done.rest
