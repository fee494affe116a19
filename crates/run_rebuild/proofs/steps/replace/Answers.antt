use Rattle.std.proofs.Common.{◌≡◌, ap, ◌∙◌}
use Rattle.base_values.specs.GhoSchema.Rows.{key_of, key_places}
use Rattle.run_rebuild.proofs.Following.{gone_as}
use Rattle.run_rebuild.proofs.steps.replace.Goals as goal

pub put-requires-clause-new_key : goal.put-requires-clause-new_key
put-requires-clause-new_key c =
    let before = c.in_ok-reserve.ensures.table in
    let key : c.in_ok-key.key ≡ key_of (key_places c.args.table.now.table.schema) c.args.row =
    c.in_ok-key.ensures ∙ ap (key_of c.key_places.result.now) c.as_slice.ensures ∙ ap (λ ps. key_of ps c.args.row) (c.key_places.ensures ∙ ap key_places c.schema.ensures.schema) in
    gone_as c.args.table.now.table c.reserve.new.self.table c.remove.new.self.table c.in_ok-key.key c.args.row before c.remove.ensures.schema c.remove.ensures.rows key
