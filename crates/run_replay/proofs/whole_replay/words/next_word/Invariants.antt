use Rattle.std.proofs.Common.{◌≡◌, drop}
use Rattle.tool_program.specs.Orders.{may_go, first_ready}
use Rattle.run_replay.specs.WholeReplay.Places.{words_from}
use Rattle.run_replay.proofs.whole_replay.words.next_word.Given as goal

-- the words from here on decide
abbrev pub invariant-loop-index : goal.invariant-loop-index
invariant-loop-index g l = first_ready (may_go l.feed.run.plan l.feed.run.journal) (words_from l.used (drop l.index l.feed.run.plan.turns)) ≡ first_ready (may_go l.feed.run.plan l.feed.run.journal) (words_from l.place.used (drop l.place.run l.feed.run.plan.turns))
