use Rattle.std.proofs.Common.{◌≡◌, arith, ap, sym, length, drop, length-drop, ℕ}
use Rattle.base_edges.proofs.memory.source.BytesSourceSource.take.Goals as goal

-- where it fails, bytes are left
pub returns-then-taken-eq0-clause-ends : goal.returns-then-taken-eq0-clause-ends
returns-then-taken-eq0-clause-ends c = (
  λ e. cc,
  λ e.
      let none : length c.args.self.now.left ≡ 0 = ap length e in
      let left : length c.args.self.now.left ≡ length (drop c.self.inside.place c.self.inside.bytes.items) = ap (λ v. length v.left) (sym c.self.view_is) in
      absurd (omega (arith, none, left, length-drop {A = ℕ})),
)
