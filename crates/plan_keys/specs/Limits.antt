-- The texts of a plan, and how many of each it has at most. The limits are this project's rule.
use Rattle.std.specs.Prelude.{ℕ, Bool, ◌||◌, nat_lt, List, length}
use Rattle.std.specs.List.{sum_by}
use Rattle.plan_data.specs.declared.plan.TheConstants.{CLIENT_LIMIT}
use Rattle.plan_keys.specs.declared.limits.TheConstants.{TABLE_LIMIT, ROW_LIMIT, FAULT_LIMIT}

-- the texts of a table: how it is created, and its rows
pub record TableData : Type 0 where
  pub create : List ℕ
  pub rows : List (List ℕ)

-- the texts of a plan
pub record TextData : Type 0 where
  -- the name of the table to migrate, and the ALTER
  pub table : List ℕ
  pub alter : List ℕ
  -- the tables, in the plan's order
  pub tables : List TableData
  -- a script a client
  pub clients : List (List ℕ)
  pub operator : List ℕ
  -- a loss of a session a text
  pub faults : List (List ℕ)
  pub turns : List ℕ

-- how many rows the tables have together
abbrev pub row_count : List TableData → ℕ
row_count tables = sum_by (λ table. length table.rows) tables

-- More than 8 tables, 20,000 rows, 64 clients or 64 losses.
abbrev pub has_too_many : TextData → Bool
has_too_many texts =
    nat_lt TABLE_LIMIT (length texts.tables) || nat_lt ROW_LIMIT (row_count texts.tables) || nat_lt CLIENT_LIMIT (length texts.clients)
    || nat_lt FAULT_LIMIT (length texts.faults)
