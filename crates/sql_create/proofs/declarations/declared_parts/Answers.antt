use Rattle.std.proofs.Common.{◌≡◌, ◌≤◌, length, ap, ◌∙◌, sym, arith}
use Rattle.std.proofs.lemmas.List.{length-map}
use Rattle.sql_create.specs.DeclaredSchema.{column_names}
use Rattle.sql_create.proofs.Reasons.{few_columns}
use Rattle.sql_create.proofs.declarations.declared_parts.Goals as goal

pub built-requires : goal.built-requires
built-requires c =
    let few : length c.args.parts.columns ≤ 64 = few_columns c.args.migrated.now c.as_str.result.now c.args.parts (sym c.in_ok-code.ensures ∙ c.in-None.is) in
    let names : length c.as_slice-names.result.now ≡ length c.args.parts.columns = ap length (c.as_slice-names.ensures ∙ c.in_ok-names-in-None.ensures ∙ ap column_names c.as_slice-columns.ensures) ∙ length-map c.args.parts.columns (λ column. column.name) in
    omega arith
