use Rattle.std.proofs.Common.{◌∙◌, ℕ, List, [], ◌++◌, Option, ap, sym}
use Rattle.std.proofs.lemmas.Result.{on_ok_weaker}
use Rattle.top_report.specs.declared.turns.OpenRun.{OpenRun}
use Rattle.top_report.specs.Turns.{order_text}
use Rattle.top_report.specs.Runs.{runs_open}
use Rattle.top_report.proofs.Joining.{last_run}
use Rattle.top_report.proofs.turns.push_last.Goals as goal

pub returns-in-Some : goal.returns-in-Some
returns-in-Some c =
    on_ok_weaker c.push_run.result (λ grown. grown ∙ ap (λ (text : List ℕ). c.args.into.now ++ text)
    (sym (ap (λ (last : Option OpenRun). order_text (runs_open last [])) c.in-Some.is ∙ last_run c.in-Some.run'))) c.push_run.ensures
