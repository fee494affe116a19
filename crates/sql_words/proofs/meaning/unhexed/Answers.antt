use Rattle.std.proofs.Common.{sym, ◌∙◌}
use Rattle.sql_words.proofs.Values.{unhexed-pair, unhexed-closed, unhexed-unclosed}
use Rattle.sql_words.proofs.meaning.unhexed.Goals as goal

pub loop-value-preserved : goal.loop-value-preserved
loop-value-preserved c =
    let kept = unhexed-pair c.loop-value.at c.args.bytes.now c.loop-value.value.items _ c.loop-value.invariant (sym c.is_pair.ensures ∙ c.loop-value-test.true) in
    let pushed = c.in_ok-push.ensures.items in
    let first = c.hex_digit.ensures.value in
    let second = c.hex_digit-in-loop-value.ensures.value in
    rw (pushed, first, second) kept

pub returns-then-stands_at : goal.returns-then-stands_at
returns-then-stands_at c = unhexed-closed c.loop-value.at c.args.bytes.now c.loop-value.value.items _ c.loop-value.invariant (sym c.is_pair.ensures ∙ c.loop-value-test.false) (sym c.stands_at.ensures ∙ c.if-stands_at.true)

pub returns-else-stands_at : goal.returns-else-stands_at
returns-else-stands_at c = unhexed-unclosed c.loop-value.at c.args.bytes.now c.loop-value.value.items _ c.loop-value.invariant (sym c.is_pair.ensures ∙ c.loop-value-test.false) (sym c.stands_at.ensures ∙ c.if-stands_at.false)
