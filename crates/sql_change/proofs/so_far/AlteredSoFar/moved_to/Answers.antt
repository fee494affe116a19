use Rattle.std.proofs.Common.{◌≡◌, ◌+◌, length, ap, ◌∙◌, arith}
use Rattle.std.specs.List.{remove}
use Rattle.std.proofs.lemmas.List.Edits.{length-remove}
use Rattle.sql_change.proofs.so_far.AlteredSoFar.moved_to.Goals as goal

pub inserted-requires-2 : goal.inserted-requires-2
inserted-requires-2 c =
    let origins = c.in_ok-copied.field-0 in
    let same : length origins ≡ length c.args.self.now.schema.columns = ap length (c.in_ok-copied.ensures ∙ c.as_slice-2.ensures) ∙ c.requires.stands.origins in
    let less : length (remove origins c.args.from) + 1 ≡ length origins = length-remove origins c.args.from (omega (arith, c.requires.from)) in
    omega (arith, c.requires.to, ap length c.removed-origins.ensures)
