use Rattle.std.proofs.Common.{◌≡◌, ◌+◌, ◌-◌, ◌^◌, min, take, get_or}
use Rattle.std.specs.Str.Parse.{digits_value}
use Rattle.plan_orders.proofs.Numerals.{one_more, next_value}
use Rattle.plan_orders.proofs.numbers.value_of.Goals as goal

pub loop-digit-preserved : goal.loop-digit-preserved
loop-digit-preserved c =
    let more = one_more c.args.digits.now c.loop-digit.digit-index c.requires c.loop-digit-test.true in
    let next = next_value (digits_value 10 (take c.loop-digit.digit-index c.args.digits.now)) (get_or c.args.digits.now c.loop-digit.digit-index 0 - 48) (2 ^ 32 - 1) in
    let before : c.loop-digit.value ≡ min (digits_value 10 (take c.loop-digit.digit-index c.args.digits.now)) (2 ^ 32 - 1) = c.loop-digit.invariant in
    let after : c.saturating_add-value.result ≡ min (digits_value 10 (take (c.loop-digit.digit-index + 1) c.args.digits.now)) (2 ^ 32 - 1) = cc (more, next, before, c.saturating_mul.ensures, c.from.ensures, c.saturating_add-value.ensures) in
    after
