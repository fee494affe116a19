use Rattle.std.proofs.Common.{List, ap, ◌∙◌}
use Rattle.run_judge.specs.declared.actor_marks.ActorMarks.{ActorMarks}
use Rattle.run_judge.specs.ActorMarks.{marks_after, marks_of}
use Rattle.run_judge.proofs.Marks.{marks_followed}
use Rattle.run_judge.proofs.actor_marks.take_line.Goals as goal

pub returns : goal.returns
returns c = λ actor.
    ap (λ (all : List ActorMarks). marks_of all actor) c.follow_all.ensures
    ∙ marks_followed c.args.line.now c.keep.new.all.items actor c.in_ok-keep.ensures.kept
    ∙ ap (marks_after c.args.line.now) (c.in_ok-keep.ensures.same actor)
