use Rattle.std.proofs.Common.{◌≡◌, true, List, ℕ, subst}
use Rattle.std.specs.Str.{is_utf8}
use Rattle.top_call.proofs.Comings.{plans_are_utf8}
use Rattle.top_call.proofs.top.accepted_plan.Goals as goal

-- A plan that is read is a text.
pub returns-in-Ok-read_accepted_plan-clause-utf8 : goal.returns-in-Ok-read_accepted_plan-clause-utf8
returns-in-Ok-read_accepted_plan-clause-utf8 g c =
    subst (λ (bytes : List ℕ). is_utf8 bytes ≡ true) c.as_slice.ensures.value
    (plans_are_utf8 c.as_slice.result.now c.in-Ok-read_accepted_plan.plan c.in-Ok-read_accepted_plan.ensures.plan)
