use Rattle.std.proofs.Common.{◌≤◌, ℕ, length, sym, ap, subst, ◌∙◌}
use Rattle.std.specs.Ordering.{nat_cmp, is_ne}
use Rattle.std.specs.Cmp.Lexicographic.{slice_cmp}
use Rattle.std.specs.Arc.{arc_value}
use Rattle.base_values.proofs.NameHeads.{heads_decide, lengths_decide}
use Rattle.base_values.proofs.name.Name.compare.Goals as goal

pub returns-then-is_ne : goal.returns-then-is_ne
returns-then-is_ne c =
    c.cmp-heads.ensures
    ∙ heads_decide (arc_value c.self.inside.text) (arc_value c.other.inside.text) c.self.inside.head c.other.inside.head c.self.invariant c.other.invariant (ap is_ne (sym c.cmp-heads.ensures) ∙ sym c.is_ne.ensures ∙ c.if-is_ne.true)
    ∙ (λ i. slice_cmp nat_cmp (c.self.view_is i) (c.other.view_is i))

pub returns-then-other_len-le8 : goal.returns-then-other_len-le8
returns-then-other_len-le8 c =
    let len = c.len-len.ensures ∙ ap length (sym c.self.view_is) in
    let other_len = c.len-other_len.ensures ∙ ap length (sym c.other.view_is) in
    c.cmp.ensures
    ∙ (λ i. nat_cmp (len i) (other_len i))
    ∙ lengths_decide (arc_value c.self.inside.text) (arc_value c.other.inside.text) c.self.inside.head c.other.inside.head c.self.invariant c.other.invariant
    (ap is_ne (sym c.cmp-heads.ensures) ∙ sym c.is_ne.ensures ∙ c.if-is_ne.false)
    (subst (λ (n : ℕ). n ≤ 8) len c.if-len-le8.true)
    (subst (λ (n : ℕ). n ≤ 8) other_len c.if-other_len-le8.true)
    ∙ (λ i. slice_cmp nat_cmp (c.self.view_is i) (c.other.view_is i))
