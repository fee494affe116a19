use Rattle.std.proofs.Common.{◌≡◌, ◌++◌, drop}
use Rattle.server_model.specs.Needs.{points_from}
use Rattle.server_execute.proofs.statement_work.locks.push_each.Given as goal

-- the locks so far, and those of the keys that are left
abbrev pub invariant-loop-index : goal.invariant-loop-index
invariant-loop-index l = record {
  place : l.place ≡ l.index-index;
  all : l.into ++ points_from l.schema l.place (drop l.index-index l.uniques) l.row ≡ l.fn.into ++ points_from l.schema 0 l.uniques l.row;
}
