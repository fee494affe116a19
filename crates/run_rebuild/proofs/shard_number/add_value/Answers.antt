use Rattle.std.proofs.Common.{◌≡◌, ◌+◌, ◌%◌, ℕ, List, length, sym, ap, ◌∙◌}
use Rattle.std.specs.Prelude.{sum}
use Rattle.std.specs.Int.{w64, to_be_bytes}
use Rattle.base_values.specs.declared.value.Value.{Value}
use Rattle.run_rebuild.specs.ShardNumbers.{value_sum}
use Rattle.run_rebuild.proofs.Numbers.{added}
use Rattle.run_rebuild.proofs.shard_number.add_value.Goals as goal

pub returns-in-Text-clause-sum : goal.returns-in-Text-clause-sum
returns-in-Text-clause-sum c =
    let text = c.as_bytes-text.result.now in
    let size = sum c.to_be_bytes.result in
    let same : c.as_bytes-text.result.now ≡ c.in-Text.text = c.as_bytes-text.ensures.value ∙ c.as_str.ensures in
    c.add_bytes-in-Text.ensures.sum
    ∙ ap (λ (n : ℕ). (n + sum text) % c.args.workers) (c.add_bytes-total-in-Text.ensures.sum ∙ ap (λ (n : ℕ). (n + size) % c.args.workers) c.add_bytes-total.ensures.sum ∙ added c.args.total 2 size c.args.workers)
    ∙ added c.args.total (2 + size) (sum text) c.args.workers
    ∙ ap (λ (bytes : List ℕ). (c.args.total + (2 + sum bytes + sum text)) % c.args.workers) c.to_be_bytes.ensures
    ∙ ap (λ (bytes : List ℕ). (c.args.total + (2 + sum (to_be_bytes w64 (length bytes)) + sum bytes)) % c.args.workers) same
    ∙ ap (λ (value : Value). (c.args.total + value_sum value) % c.args.workers) (sym c.in-Text.is)

pub returns-in-Blob-clause-sum : goal.returns-in-Blob-clause-sum
returns-in-Blob-clause-sum c =
    let size = sum c.to_be_bytes-in-Blob.result in
    c.add_bytes-in-Blob.ensures.sum
    ∙ ap (λ (n : ℕ). (n + sum c.as_slice.result.now) % c.args.workers) (c.add_bytes-total-in-Blob-2.ensures.sum ∙ ap (λ (n : ℕ). (n + size) % c.args.workers) c.add_bytes-total-in-Blob.ensures.sum ∙ added c.args.total 3 size c.args.workers)
    ∙ added c.args.total (3 + size) (sum c.as_slice.result.now) c.args.workers
    ∙ ap (λ (bytes : List ℕ). (c.args.total + (3 + size + sum bytes)) % c.args.workers) c.as_slice.ensures
    ∙ ap (λ (bytes : List ℕ). (c.args.total + (3 + sum bytes + sum c.in-Blob.blob)) % c.args.workers) (c.to_be_bytes-in-Blob.ensures ∙ ap (to_be_bytes w64) c.len.ensures)
    ∙ ap (λ (value : Value). (c.args.total + value_sum value) % c.args.workers) (sym c.in-Blob.is)
