use Rattle.sql_words.proofs.Inside.{bytes-pair, bytes-closed, bytes-unclosed}
use Rattle.std.proofs.Common.{◌∙◌, sym}
use Rattle.sql_words.proofs.quoted.bytes_length.Goals as goal

pub loop-at-preserved : goal.loop-at-preserved
loop-at-preserved c = bytes-pair c.loop-at.at c.args.bytes.now _ c.loop-at.invariant (sym c.is_pair.ensures ∙ c.loop-at-test.true)

pub returns-then-stands_at-clause-length : goal.returns-then-stands_at-clause-length
returns-then-stands_at-clause-length c = bytes-closed c.loop-at.at c.args.bytes.now _ c.loop-at.invariant (sym c.is_pair.ensures ∙ c.loop-at-test.false) (sym c.stands_at.ensures ∙ c.if-stands_at.true)

pub returns-else-stands_at-clause-length : goal.returns-else-stands_at-clause-length
returns-else-stands_at-clause-length c = bytes-unclosed c.loop-at.at c.args.bytes.now _ c.loop-at.invariant (sym c.is_pair.ensures ∙ c.loop-at-test.false) (sym c.stands_at.ensures ∙ c.if-stands_at.false)
