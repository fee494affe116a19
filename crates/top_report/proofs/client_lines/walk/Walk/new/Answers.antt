use Rattle.std.proofs.Common.{◌≡◌, ◌<◌, ◌^◌, List, length, ap, arith}
use Rattle.base_script.specs.declared.script.ScriptLine.{ScriptLine}
use Rattle.top_report.proofs.ClientLines.Stepping.{new_kept}
use Rattle.top_report.proofs.client_lines.walk.Walk.new.Goals as goal

pub invariant_of-result : goal.invariant_of-result
invariant_of-result c =
    let same : length c.as_slice-lines.result.now ≡ length c.args.script.now = ap (λ (lines : List ScriptLine). length lines) c.as_slice-lines.ensures in
    let few : length c.as_slice-lines.result.now < 2 ^ 63 = c.line_count-count.ensures in
    new_kept c.args.script.now c.new.result (omega (arith, same, few)) (c.new.ensures c.args.script.now)
