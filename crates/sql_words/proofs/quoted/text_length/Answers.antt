use Rattle.sql_words.proofs.Inside.{text-doubled, text-closed, text-escape, text-plain, text-unclosed}
use Rattle.std.proofs.Common.{◌∙◌, sym}
use Rattle.sql_words.proofs.quoted.text_length.Goals as goal
use Rattle.sql_words.proofs.quoted.text_length.Goals.{then-bytes-at-eq92, else-bytes-at-eq92}

pub loop-at-preserved-then-bytes-at : goal.loop-at-preserved-then-bytes-at
loop-at-preserved-then-bytes-at c =
    elim c.if-bytes-at-eq92.branch [
      | then-bytes-at-eq92 w ↦ rw w.at-is (text-escape c.args.quote c.loop-at.at c.args.bytes.now _ c.loop-at.invariant c.loop-at-test.true c.if-bytes-at.true w.if-bytes-at-eq92.true)
      | else-bytes-at-eq92 w ↦ rw w.at-is (text-plain c.args.quote c.loop-at.at c.args.bytes.now _ c.loop-at.invariant c.loop-at-test.true c.if-bytes-at.true w.if-bytes-at-eq92.false)
    ]

pub loop-at-preserved : goal.loop-at-preserved
loop-at-preserved c = text-doubled c.args.quote c.loop-at.at c.args.bytes.now _ c.loop-at.invariant c.loop-at-test.true c.if-bytes-at.false (sym c.stands_at.ensures ∙ c.if-stands_at.true)

pub returns-else-stands_at-clause-length : goal.returns-else-stands_at-clause-length
returns-else-stands_at-clause-length c = text-closed c.args.quote c.loop-at.at c.args.bytes.now _ c.loop-at.invariant c.loop-at-test.true c.if-bytes-at.false (sym c.stands_at.ensures ∙ c.if-stands_at.false)

pub returns-clause-length : goal.returns-clause-length
returns-clause-length c = text-unclosed c.args.quote c.loop-at.at c.args.bytes.now _ c.loop-at.invariant c.loop-at-test.false
