use Rattle.std.proofs.Common.{◌≡◌, ℕ, ◌≤◌, List, ◌++◌, drop, Option}
use Rattle.std.specs.Prelude.{IfSome}
use Rattle.server_model.specs.declared.entry.Entry.{Entry}
use Rattle.top_report.specs.declared.turns.OpenRun.{OpenRun}
use Rattle.top_report.specs.Turns.{order_text, runs_of, turns_taken}
use Rattle.top_report.specs.Runs.{runs_open}
use Rattle.top_report.proofs.turns.push_order.Given as goal

pub record Ordering (last : Option OpenRun) (index : ℕ) (journal : List Entry) (text first : List ℕ) : Type 0 where
  pub text_is : text ++ order_text (runs_open last (turns_taken (drop index journal))) ≡ first ++ order_text (runs_of (turns_taken journal))
  pub few : IfSome last (λ run. run.times ≤ index)

-- what stands with the turns that are left is all
abbrev pub invariant-loop-entry : goal.invariant-loop-entry
invariant-loop-entry l = Ordering l.last l.entry-index l.journal l.into l.fn.into
