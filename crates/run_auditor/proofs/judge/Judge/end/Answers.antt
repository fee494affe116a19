use Rattle.table_store.specs.Databases.{database}
use Rattle.run_auditor.proofs.JudgedItems.{alone_planned, ended_judging, over_judging}
use Rattle.run_auditor.proofs.judge.Judge.end.Goals as goal

pub returns-then-self-clause-judging : goal.returns-then-self-clause-judging
returns-then-self-clause-judging c = λ plan items more is judged. over_judging plan items more c.args.self.now is c.if-self.true

pub returns-clause-judging : goal.returns-clause-judging
returns-clause-judging c = λ plan items more is judged.
    let replies = rw c.as_slice.ensures at c.in_ok-replies.ensures.replies in
    let tables = rw c.as_slice.ensures at c.in_ok-replies.ensures.tables in
    let worst = rw (c.as_slice-2.ensures, c.as_slice-3.ensures) at c.least_mismatch-self.ensures in
    ended_judging plan items more c.args.self.now _ c.args.txn.now c.in_ok-replies.replies is c.if-self.false judged replies tables worst c.if-self.false

pub returns-clause-planned : goal.returns-clause-planned
returns-clause-planned c = λ plan planned.
    let tables = rw c.as_slice.ensures at c.in_ok-replies.ensures.tables in
    alone_planned plan (database c.args.self.now.storage.tables) _ c.args.txn.now.lines tables planned
