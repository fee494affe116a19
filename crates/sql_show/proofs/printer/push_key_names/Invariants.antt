use Rattle.std.proofs.Common.{◌≡◌, ◌++◌, codes, take}
use Rattle.std.specs.List.{flat_map}
use Rattle.sql_show.specs.SchemaText.{quoted, column_name}
use Rattle.sql_show.proofs.printer.push_key_names.Given as goal

-- the first name and those so far are written
abbrev pub invariant-loop-place : goal.invariant-loop-place
invariant-loop-place l = l.into ≡ l.initial.into ++ flat_map (λ next. codes ", " ++ quoted (column_name l.columns next)) (take l.place-index l.others)
