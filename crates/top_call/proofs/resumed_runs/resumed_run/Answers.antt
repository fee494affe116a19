use Rattle.std.proofs.Common.{◌≡◌, true, length, drop, IfSome, sym, ap, subst, ◌∙◌}
use Rattle.tool_finish.specs.Finishes.{finish_verdict, stage_behind}
use Rattle.tool_finish.specs.Finishes as finishes
use Rattle.tool_program.specs.JournalWords.Journals.{state_at}
use Rattle.tool_program.specs.Verdicts.{verdict_of}
use Rattle.run_finish.specs.FinishRuns.{FinishRun}
use Rattle.run_turns.specs.Runs.{RunView}
use Rattle.top_call.specs.ResumedRuns.{FinishesRun, IsEndOf, IsWholeRun, is_resumed}
use Rattle.top_call.proofs.ResumedRuns.{alone_ends, finished_ends, never_resumed, resumed_at, run_finished, run_only, unchecked_alone}
use Rattle.top_call.proofs.resumed_runs.resumed_run.Goals as goal

pub returns-then-not-is_over-clause-whole : goal.returns-then-not-is_over-clause-whole
returns-then-not-is_over-clause-whole g c = run_only c.finishes_are_sound.ensures c.args.run.plan c.args.run.journal c.short_run.result.0 c.requires.read c.requires.sound c.short_run.ensures.journal

pub open-requires : goal.open-requires
open-requires g c = λ checked. c.finishes_may_call.ensures c.args.run.plan c.args.run.journal c.requires.read c.requires.sound checked

-- IT ISN'T RESUMED

pub returns-then-not-may_resume-clause-whole : goal.returns-then-not-may_resume-clause-whole
returns-then-not-may_resume-clause-whole g c = run_only c.finishes_are_sound.ensures c.args.run.plan c.args.run.journal c.run_alone.result.0 c.requires.read c.requires.sound c.run_alone.ensures.journal

pub returns-then-not-may_resume-clause-end : goal.returns-then-not-may_resume-clause-end
returns-then-not-may_resume-clause-end g c =
    alone_ends (λ end. end.verdict) (λ end. g.V.Serve.state end.server) (λ end. end.sessions) c.args.run.plan c.args.run.journal c.run_alone.result.0 c.run_alone.result.1 c.requires.sound.bound c.run_alone.ensures.journal (c.requires.over c.if-not-is_over.false)
    (never_resumed c.args.run.plan c.args.run.journal (sym c.may_resume.ensures ∙ c.if-not-may_resume.true)) c.run_alone.ensures.end

-- IT IS

pub returns-in-Ok-clause-whole : goal.returns-in-Ok-clause-whole
returns-in-Ok-clause-whole g c =
    run_finished c.finishes_are_sound.ensures c.args.run.plan c.args.run.journal c.finished_run.result.0 c.requires.read c.requires.sound
    (resumed_at c.args.run.plan c.args.run.journal (sym c.may_resume.ensures ∙ c.if-not-may_resume.false) (c.requires.over c.if-not-is_over.false) c.in-Ok.ensures.0)
    (subst (λ (finish : FinishRun). FinishesRun finish.plan finish.run c.finished_run.result.0) c.in-Ok.ensures.1 c.finished_run.ensures.finish)

pub returns-in-Ok-clause-end : goal.returns-in-Ok-clause-end
returns-in-Ok-clause-end g c =
    let left = c.finished_run.result in
    let resumed : is_resumed c.args.run.plan c.args.run.journal ≡ true = resumed_at c.args.run.plan c.args.run.journal (sym c.may_resume.ensures ∙ c.if-not-may_resume.false) (c.requires.over c.if-not-is_over.false) c.in-Ok.ensures.0 in
    let whole : IsWholeRun c.args.run.plan c.args.run.journal left.0 = run_finished c.finishes_are_sound.ensures c.args.run.plan c.args.run.journal left.0 c.requires.read c.requires.sound resumed (subst (λ (finish : FinishRun). FinishesRun finish.plan finish.run left.0) c.in-Ok.ensures.1 c.finished_run.ensures.finish) in
    finished_ends (λ end. end.verdict) (λ end. g.V.Serve.state end.server) (λ end. end.sessions) c.args.run.plan c.args.run.journal left.0 left.1 c.requires.sound.bound resumed whole
    (subst (λ (finish : FinishRun). IfSome left.1 (λ end. finishes.is_over (stage_behind finish.plan finish.run (drop (length finish.run) left.0)) ≡ true)) c.in-Ok.ensures.1 c.finished_run.ensures.over)
    (subst (λ (finish : FinishRun). IfSome left.1 (λ end. IsEndOf (finish_verdict finish.plan finish.run (drop (length finish.run) left.0)) (state_at finish.plan left.0) end.verdict (g.V.Serve.state end.server) end.sessions)) c.in-Ok.ensures.1 c.finished_run.ensures.end)

-- IT HAS NO CHECKPOINT

pub returns-in-Err-default-NoCheckpoint-clause-whole : goal.returns-in-Err-default-NoCheckpoint-clause-whole
returns-in-Err-default-NoCheckpoint-clause-whole g c =
    let opens = rw c.in-Err-default-NoCheckpoint.field-0-1-is at c.in-Err-default-NoCheckpoint.ensures in
    run_only c.finishes_are_sound.ensures c.args.run.plan c.args.run.journal c.run_alone-in-Err-default-NoCheckpoint.result.0 c.requires.read c.requires.sound
    (c.run_alone-in-Err-default-NoCheckpoint.ensures.journal ∙ ap (λ (run : RunView). run.journal) opens.1)

pub returns-in-Err-default-NoCheckpoint-clause-end : goal.returns-in-Err-default-NoCheckpoint-clause-end
returns-in-Err-default-NoCheckpoint-clause-end g c =
    let opens = rw c.in-Err-default-NoCheckpoint.field-0-1-is at c.in-Err-default-NoCheckpoint.ensures in
    let left = c.run_alone-in-Err-default-NoCheckpoint.result in
    alone_ends (λ end. end.verdict) (λ end. g.V.Serve.state end.server) (λ end. end.sessions) c.args.run.plan c.args.run.journal left.0 left.1 c.requires.sound.bound (c.run_alone-in-Err-default-NoCheckpoint.ensures.journal ∙ ap (λ (run : RunView). run.journal) opens.1)
    (c.requires.over c.if-not-is_over.false) (unchecked_alone c.args.run.plan c.args.run.journal opens.0)
    (subst (λ (run : RunView). IfSome left.1 (λ end. IsEndOf (verdict_of run.plan run.journal) (state_at run.plan run.journal) end.verdict (g.V.Serve.state end.server) end.sessions)) opens.1 c.run_alone-in-Err-default-NoCheckpoint.ensures.end)

pub returns-in-Err-default-Memory-clause-whole : goal.returns-in-Err-default-Memory-clause-whole
returns-in-Err-default-Memory-clause-whole g c =
    let opens = rw c.in-Err-default-Memory.field-0-1-is at c.in-Err-default-Memory.ensures in
    run_only c.finishes_are_sound.ensures c.args.run.plan c.args.run.journal c.short_run-in-Err-default-Memory.result.0 c.requires.read c.requires.sound
    (c.short_run-in-Err-default-Memory.ensures.journal ∙ ap (λ (run : RunView). run.journal) opens.1)
