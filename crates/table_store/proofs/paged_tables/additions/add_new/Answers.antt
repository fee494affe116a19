use Rattle.std.proofs.Common.{◌≡◌, ◌∙◌, ap}
use Rattle.std.specs.String.{string_bytes}
use Rattle.base_values.specs.declared.gho_schema.schema.Schema.{Schema}
use Rattle.table_store.proofs.PagedTables.Paged.{still_named}
use Rattle.table_store.proofs.PagedTables.TableNames.{is_free}
use Rattle.table_store.proofs.paged_tables.additions.add_new.Goals as goal

pub add-requires : goal.add-requires
add-requires c =
    let same : string_bytes c.in_ok-name.name ≡ c.args.table.table.schema.name = c.in_ok-name.ensures ∙ c.as_str.ensures ∙ ap (λ (s : Schema). s.name) c.schema-schema.ensures.schema in
    record { new = is_free (string_bytes c.in_ok-name.name) c.args.table.table.schema.name c.args.tables.now c.requires.named.0 same c.requires.new }

pub returns-clause-named : goal.returns-clause-named
returns-clause-named c =
    let same : string_bytes c.in_ok-name.name ≡ c.args.table.table.schema.name = c.in_ok-name.ensures ∙ c.as_str.ensures ∙ ap (λ (s : Schema). s.name) c.schema-schema.ensures.schema in
    still_named c.add.result c.args.tables.now c.add.new.self c.args.table (string_bytes c.in_ok-name.name) c.requires.named c.requires.new same c.add.ensures.names c.add.ensures.values c.add.ensures.same_names c.add.ensures.same_values
