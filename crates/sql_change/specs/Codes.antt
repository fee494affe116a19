-- The numbers and the names of the refusals of ALTER TABLE (this project's rule).
use Rattle.std.specs.Prelude.{codes, ℕ, List}
use Rattle.sql_change.specs.declared.code.AlterCode.{AlterCode}
use Rattle.sql_change.specs.declared.code.AlterCode.TheVariants.{Syntax, UnknownName, RepeatedName, KeyColumnDropped, KeyColumnConverted, AddUnique, ClusteredKeyChange, Default, RenameNotApproved, RenameTable, AllColumnsDropped, Scope}

-- a refusal's number and its name
abbrev pub alter_code : AlterCode → ℕ × List ℕ
alter_code Syntax = (20, codes "alter_syntax")
alter_code UnknownName = (21, codes "unknown_name")
alter_code RepeatedName = (22, codes "repeated_column")
alter_code KeyColumnDropped = (23, codes "key_column_dropped")
alter_code KeyColumnConverted = (24, codes "key_column_converted")
alter_code AddUnique = (25, codes "add_unique")
alter_code ClusteredKeyChange = (26, codes "clustered_key_change")
alter_code Default = (27, codes "default")
alter_code RenameNotApproved = (28, codes "rename_not_approved")
alter_code RenameTable = (29, codes "rename_table")
alter_code AllColumnsDropped = (30, codes "all_columns_dropped")
alter_code Scope = (31, codes "alter_scope")

abbrev pub alter_number : AlterCode → ℕ
alter_number code = (alter_code code).0

abbrev pub alter_name : AlterCode → List ℕ
alter_name code = (alter_code code).1
