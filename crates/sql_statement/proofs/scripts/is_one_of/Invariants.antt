use Rattle.std.proofs.Common.{◌≡◌, drop}
use Rattle.std.specs.List.{list_any}
use Rattle.std.specs.Str.{bytes_eq}
use Rattle.sql_statement.proofs.scripts.is_one_of.Given as goal

-- what stands from here on gives the answer to all
abbrev pub invariant-loop-table : goal.invariant-loop-table
invariant-loop-table l = list_any (λ table. bytes_eq table l.named) (drop l.table-index l.tables) ≡ list_any (λ table. bytes_eq table l.named) l.tables
