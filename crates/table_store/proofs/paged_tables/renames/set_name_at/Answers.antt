use Rattle.std.proofs.Common.{◌<◌, ℕ, subst}
use Rattle.std.specs.String.{string_bytes}
use Rattle.std.proofs.lemmas.List.{length-map}
use Rattle.table_store.specs.NameMap.NameMaps.{with_value}
use Rattle.table_store.specs.PagedTables.PagedDatabases.{stored_of}
use Rattle.table_store.proofs.PagedTables.TableNames.{Renames, renames, is_free}
use Rattle.table_store.proofs.paged_tables.renames.set_name_at.Goals as goal

pub rename-key-requires-clause-within : goal.rename-key-requires-clause-within
rename-key-requires-clause-within c = subst (λ (n : ℕ). c.args.place < n) (length-map c.args.tables.now.values stored_of) c.requires.within

pub rename-key-requires-clause-new : goal.rename-key-requires-clause-new
rename-key-requires-clause-new c = is_free (string_bytes c.args.name.key) c.args.name.name c.args.tables.now c.requires.named c.requires.same c.requires.new

pub returns-clause-name : goal.returns-clause-name
returns-clause-name c =
    let done : Renames c.args.tables.now (with_value c.rename-key.new.self c.args.place c.set_name.new.self) c.args.place c.args.name.name c.set_name.result (string_bytes c.rename-key.result) = renames c.args.tables.now c.rename-key.new.self c.args.place c.at_mut-table.result.now c.set_name.new.self (string_bytes c.args.name.key) c.args.name.name c.set_name.result (string_bytes c.rename-key.result) c.requires.named c.requires.same c.rename-key.ensures.name c.rename-key.ensures.names c.rename-key.ensures.values c.at_mut-table.ensures.value c.set_name.ensures.table c.set_name.ensures.spare c.set_name.ensures.name in
    done.reported

pub returns-clause-same : goal.returns-clause-same
returns-clause-same c =
    let done : Renames c.args.tables.now (with_value c.rename-key.new.self c.args.place c.set_name.new.self) c.args.place c.args.name.name c.set_name.result (string_bytes c.rename-key.result) = renames c.args.tables.now c.rename-key.new.self c.args.place c.at_mut-table.result.now c.set_name.new.self (string_bytes c.args.name.key) c.args.name.name c.set_name.result (string_bytes c.rename-key.result) c.requires.named c.requires.same c.rename-key.ensures.name c.rename-key.ensures.names c.rename-key.ensures.values c.at_mut-table.ensures.value c.set_name.ensures.table c.set_name.ensures.spare c.set_name.ensures.name in
    done.same

pub returns-clause-named : goal.returns-clause-named
returns-clause-named c =
    let done : Renames c.args.tables.now (with_value c.rename-key.new.self c.args.place c.set_name.new.self) c.args.place c.args.name.name c.set_name.result (string_bytes c.rename-key.result) = renames c.args.tables.now c.rename-key.new.self c.args.place c.at_mut-table.result.now c.set_name.new.self (string_bytes c.args.name.key) c.args.name.name c.set_name.result (string_bytes c.rename-key.result) c.requires.named c.requires.same c.rename-key.ensures.name c.rename-key.ensures.names c.rename-key.ensures.values c.at_mut-table.ensures.value c.set_name.ensures.table c.set_name.ensures.spare c.set_name.ensures.name in
    done.named
