use Rattle.std.proofs.Common.{◌≡◌, ◌≤◌, take}
use Rattle.std.specs.List.{count_by}
use Rattle.plan_reader.specs.Clients.{is_open_select}
use Rattle.plan_reader.proofs.clients.open_selects_in.Given as goal

-- the SELECTs that may show many rows so far, of which no line has two
abbrev pub invariant-loop-line : goal.invariant-loop-line
invariant-loop-line l = record {
  counted : l.count ≡ count_by (λ line. is_open_select line.word) (take l.line-index l.script);
  within : l.count ≤ l.line-index;
}
