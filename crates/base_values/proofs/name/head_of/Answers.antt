use Rattle.std.proofs.Common.{◌≡◌, ℕ, suc, ◌+◌, ◌*◌, subst, arith}
use Rattle.base_values.specs.NameHeads.{IsHead}
use Rattle.base_values.proofs.NameHeads.{begun, has_room, longer}
use Rattle.base_values.proofs.name.head_of.Goals as goal

pub loop-place-init : goal.loop-place-init
loop-place-init c = begun c.args.text.now

pub overflow_mul-head : goal.overflow_mul-head
overflow_mul-head c = let room = has_room c.loop-place.place c.args.text.now c.loop-place.head c.loop-place.invariant c.loop-place-test.true in omega (arith, room)

pub overflow_add-head : goal.overflow_add-head
overflow_add-head c =
    let room = has_room c.loop-place.place c.args.text.now c.loop-place.head c.loop-place.invariant c.loop-place-test.true in
    let small = c.byte_at.ensures.small in
    omega (arith, room, small)

pub loop-place-preserved : goal.loop-place-preserved
loop-place-preserved c =
    let next : suc c.loop-place.place ≡ c.loop-place.place + 1 = omega arith in
    subst (λ (places : ℕ). IsHead places c.args.text.now (c.loop-place.head * 256 + c.byte_at.result)) next (longer c.loop-place.place c.args.text.now c.loop-place.head c.byte_at.result c.loop-place.invariant c.byte_at.ensures.byte c.byte_at.ensures.small)
