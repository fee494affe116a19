-- The schemas of the sentry and of the changelog. (gh-ost, "Cut-over", for the sentry, and its changelog table; their
-- columns are this project's rule.)
use Rattle.std.specs.Prelude.{codes, ℕ, false, List, [], ◌∷◌, None}
use Rattle.base_values.specs.declared.kind.Kind.{Kind}
use Rattle.base_values.specs.declared.kind.Kind.TheVariants.{Int, VarChar}
use Rattle.base_values.specs.declared.gho_schema.schema.Schema.{Schema}
use Rattle.base_values.specs.declared.gho_schema.schema.Column.{Column}
use Rattle.base_values.specs.declared.gho_schema.schema.Index.{Index}
use Rattle.base_values.specs.ToolNames.{log_name, old_name}

-- the comment that tells the sentry from every other table of its name
unfoldable pub sentry_comment : List ℕ
sentry_comment = codes "ghost-cut-over-sentry"

abbrev pub not_null : List ℕ → Kind → Column
not_null name kind = record { name = name; kind = kind; nullable = false; default = None; auto = false }

abbrev pub first_is_primary : List Index
first_is_primary = record { name = None; places = 0 ∷ [] } ∷ []

-- CREATE TABLE (id INT PRIMARY KEY) with the comment
unfoldable pub sentry_schema : List ℕ → Schema
sentry_schema table = record { name = old_name table; columns = not_null (codes "id") (Int 4 false) ∷ []; uniques = first_is_primary; indexes = []; comment = sentry_comment; start = None }

-- CREATE TABLE (id BIGINT PRIMARY KEY, hint VARCHAR(64) NOT NULL, value VARCHAR(255) NOT NULL)
unfoldable pub log_schema : List ℕ → Schema
log_schema table =
    record {
      name = log_name table;
      columns = not_null (codes "id") (Int 8 false) ∷ not_null (codes "hint") (VarChar 64) ∷ not_null (codes "value") (VarChar 255) ∷ [];
      uniques = first_is_primary;
      indexes = [];
      comment = [];
      start = None;
    }
