use Rattle.std.proofs.Common.{ap, ◌∙◌, List}
use Rattle.base_values.specs.declared.value.Value.{Value}
use Rattle.base_values.specs.declared.row_conversion.map.MapColumn.{MapColumn}
use Rattle.tool_program.specs.EventApplier.Appliers.{changes_key, given_values}
use Rattle.tool_program.proofs.event_applier.applier.Applier.changes_key.Goals as goal

pub returns : goal.returns
returns c =
    c.changes_key.ensures
    ∙ ap (λ (map : List MapColumn). changes_key c.args.self.now.new_schema (given_values map c.as_slice-2.result.now) (given_values map c.as_slice-3.result.now)) c.as_slice.ensures
    ∙ ap (λ (row : List Value). changes_key c.args.self.now.new_schema (given_values c.args.self.now.map row) (given_values c.args.self.now.map c.as_slice-3.result.now)) c.as_slice-2.ensures
    ∙ ap (λ (row : List Value). changes_key c.args.self.now.new_schema (given_values c.args.self.now.map c.args.before.now) (given_values c.args.self.now.map row)) c.as_slice-3.ensures
