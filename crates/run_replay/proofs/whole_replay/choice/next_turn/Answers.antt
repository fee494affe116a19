use Rattle.std.proofs.Common.{rules}
use Rattle.run_replay.specs.WholeReplay.Places.{queue_of, choice_of}
use Rattle.run_replay.proofs.WholeReplay.Choices.{by_words, by_round}
use Rattle.run_replay.proofs.whole_replay.choice.next_turn.Goals as goal

pub returns-in-Some : goal.returns-in-Some
returns-in-Some g c = by_words c.args.feed.now.run.plan c.args.feed.now.run.journal (queue_of c.args.feed.now.run.plan c.args.place) (choice_of c.args.feed.now.run.plan c.in-Some.next) c.in-Some.ensures

pub returns-in-Some-next_in_pass : goal.returns-in-Some-next_in_pass
returns-in-Some-next_in_pass g c =
    by_round c.args.feed.now.run.plan c.args.feed.now.run.journal (queue_of c.args.feed.now.run.plan c.args.place) (choice_of c.args.feed.now.run.plan c.in-Some-next_in_pass.next) (search rules) c.in-Some-next_in_pass.ensures
