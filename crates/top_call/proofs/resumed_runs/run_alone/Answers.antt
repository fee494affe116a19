use Rattle.tool_program.specs.JournalWords.Journals.{state_at}
use Rattle.tool_program.specs.Verdicts.{verdict_of}
use Rattle.top_call.proofs.ResumedRuns.{end_told}
use Rattle.top_call.proofs.resumed_runs.run_alone.Goals as goal

pub returns-clause-end : goal.returns-clause-end
returns-clause-end g c =
    end_told c.end_with.result (λ end. end.verdict) (λ end. g.V.Serve.state end.server) (λ end. end.sessions) c.run_verdict-verdict.result (verdict_of c.args.run.plan c.args.run.journal) (g.V.Serve.state c.stop-server.result.0) c.args.run.server (state_at c.args.run.plan c.args.run.journal) c.sessions-sessions.result
    c.run_verdict-verdict.ensures c.stop-server.ensures.server c.requires.server c.sessions-sessions.ensures c.end_with.ensures.end
