use Rattle.std.proofs.Common.{◌≡◌, drop}
use Rattle.tool_program.specs.Orders.{actors, may_go, first_ready}
use Rattle.run_replay.proofs.whole_replay.passes.next_in_pass.Given as goal

-- the actors from here on decide
abbrev pub invariant-loop-place : goal.invariant-loop-place
invariant-loop-place g l = first_ready (may_go l.feed.run.plan l.feed.run.journal) (drop l.place (actors l.feed.run.plan)) ≡ first_ready (may_go l.feed.run.plan l.feed.run.journal) (drop l.from (actors l.feed.run.plan))
