use Rattle.std.proofs.Common.{◌≡◌, ◌≤◌, take}
use Rattle.std.specs.List.{count_by}
use Rattle.plan_reader.specs.Clients.{is_statement}
use Rattle.plan_reader.proofs.clients.statements_in.Given as goal

-- the statements so far, of which no line has two
abbrev pub invariant-loop-line : goal.invariant-loop-line
invariant-loop-line l = record {
  counted : l.count ≡ count_by (λ line. is_statement line.word) (take l.line-index l.script);
  within : l.count ≤ l.line-index;
}
