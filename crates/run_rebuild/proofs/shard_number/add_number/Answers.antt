use Rattle.std.proofs.Common.{◌+◌, ◌%◌, ℕ, List, ap, ◌∙◌}
use Rattle.std.specs.Prelude.{sum}
use Rattle.std.proofs.lemmas.Int.{to_z-of_z}
use Rattle.std.specs.Int.{w128, to_be_bytes, cast_unsigned}
use Rattle.run_rebuild.proofs.Numbers.{added}
use Rattle.run_rebuild.proofs.shard_number.add_number.Goals as goal

pub returns-clause-sum : goal.returns-clause-sum
returns-clause-sum c =
    c.add_bytes.ensures.sum ∙ ap (λ (n : ℕ). (n + sum c.to_be_bytes-bytes.result) % c.args.workers) c.add_bytes-kind.ensures.sum ∙ added c.args.total 1 (sum c.to_be_bytes-bytes.result) c.args.workers
    ∙ ap (λ (bytes : List ℕ). (c.args.total + (1 + sum bytes)) % c.args.workers) (c.to_be_bytes-bytes.ensures ∙ ap (to_be_bytes w128) (c.cast_unsigned.ensures ∙ ap (cast_unsigned w128) (to_z-of_z w128 c.args.number c.ranges.number)))
