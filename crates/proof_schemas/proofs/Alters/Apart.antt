-- Columns of different names, by pairs.
use Rattle.std.proofs.Common.{◌≡◌, ℕ, zero, suc, Bool, true, false, not, ◌||◌, List, [], ◌∷◌, ◌++◌, Option, Some, None, refl, sym, ap, ◌∙◌, map}
use Rattle.std.specs.Prelude.{slice_set, is_some, position}
use Rattle.std.specs.List.{insert, remove, list_any, AllByRecursion}
use Rattle.base_values.specs.declared.gho_schema.schema.Column.{Column}
use Rattle.base_values.specs.GhoSchema.Names.{same_name}
use Rattle.base_values.specs.SchemaRules.Names.{is_among, differ_from, names_differ}
use Rattle.base_values.proofs.SchemaRules.Lists.{position-some}
use Rattle.sql_change.specs.Columns.{column_place, has_column}
use Rattle.std.proofs.lemmas.Bool.{not-true, or_from, or_parts, and_parts}
use Rattle.std.proofs.Math.Bool.{or_assoc, or-false}
use Rattle.base_values.proofs.SchemaRules.SameNames.{other_name-turned}

-- ---- names

-- ---- columns

-- the column has another name than this one
abbrev pub IsNot : List ℕ → Column → Type 0
IsNot name column = same_name column.name name ≡ false

-- each column has another name than those behind it
abbrev pub Apart : List Column → Type 0
Apart [] = Unit {0}
Apart (column ∷ columns) = AllByRecursion (IsNot column.name) columns × Apart columns

module _ (P : Column → Type 0) where
  pub All-insert : (xs : List Column) (i : ℕ) (v : Column) → P v → AllByRecursion P xs → AllByRecursion P (insert xs i v)
  All-insert xs zero v p all = (p, all)
  All-insert [] (suc i) v p all = (p, tt)
  All-insert (x ∷ xs) (suc i) v p all = (all.0, All-insert xs i v p all.1)

  pub All-taken : (xs : List Column) (i : ℕ) → AllByRecursion P xs → AllByRecursion P (remove xs i)
  All-taken [] zero all = tt
  All-taken [] (suc i) all = tt
  All-taken (x ∷ xs) zero all = all.1
  All-taken (x ∷ xs) (suc i) all = (all.0, All-taken xs i all.1)

  pub All-set : (xs : List Column) (i : ℕ) (v : Column) → P v → AllByRecursion P xs → AllByRecursion P (slice_set xs i v)
  All-set [] i v p all = tt
  All-set (x ∷ xs) zero v p all = (p, all.1)
  All-set (x ∷ xs) (suc i) v p all = (all.0, All-set xs i v p all.1)

pub apart-insert : (xs : List Column) (i : ℕ) (v : Column) → AllByRecursion (IsNot v.name) xs → Apart xs → Apart (insert xs i v)
apart-insert xs zero v other apart = (other, apart)
apart-insert [] (suc i) v other apart = (tt, tt)
apart-insert (x ∷ xs) (suc i) v other apart = (All-insert (IsNot x.name) xs i v (other_name-turned x.name v.name other.0) apart.0, apart-insert xs i v other.1 apart.1)

pub apart-remove : (xs : List Column) (i : ℕ) → Apart xs → Apart (remove xs i)
apart-remove [] zero apart = tt
apart-remove [] (suc i) apart = tt
apart-remove (x ∷ xs) zero apart = apart.1
apart-remove (x ∷ xs) (suc i) apart = (All-taken (IsNot x.name) xs i apart.0, apart-remove xs i apart.1)

-- another name for one column, which no other has
pub apart-set : (xs : List Column) (i : ℕ) (v : Column) → AllByRecursion (IsNot v.name) (remove xs i) → Apart xs → Apart (slice_set xs i v)
apart-set [] i v other apart = tt
apart-set (x ∷ xs) zero v other apart = (other, apart.1)
apart-set (x ∷ xs) (suc i) v other apart = (All-set (IsNot x.name) xs i v (other_name-turned x.name v.name other.0) apart.0, apart-set xs i v other.1 apart.1)

-- ---- names that no column has

abbrev is_called : List ℕ → Column → Bool
is_called name column = same_name column.name name

any-none-by : (name : List ℕ) (x : Column) (xs : List Column) (b : Bool) → is_called name x ≡ b → (list_any (is_called name) xs ≡ false → AllByRecursion (IsNot name) xs) → (b || list_any (is_called name) xs) ≡ false → AllByRecursion (IsNot name) (x ∷ xs)
any-none-by name x xs true h rest e = absurd cc
any-none-by name x xs false h rest e = (h, rest e)

any-none : (name : List ℕ) (xs : List Column) → list_any (is_called name) xs ≡ false → AllByRecursion (IsNot name) xs
any-none name [] e = tt
any-none name (x ∷ xs) e = any-none-by name x xs (is_called name x) refl (any-none name xs) e

there_is : (o : Option ℕ) (place : ℕ) → o ≡ Some place → is_some o ≡ false → ⊥
there_is (Some p) place e h = absurd cc
there_is None place e h = absurd cc

no_column-by : (columns : List Column) (name : List ℕ) (b : Bool) → list_any (is_called name) columns ≡ b → is_some (position (is_called name) columns) ≡ false → AllByRecursion (IsNot name) columns
no_column-by columns name true h e = absurd (there_is (position (is_called name) columns) _ (position-some (is_called name) columns h) e)
no_column-by columns name false h e = any-none name columns h

pub no_column : (columns : List Column) (name : List ℕ) → has_column columns name ≡ false → AllByRecursion (IsNot name) columns
unfolding column_place
no_column columns name e = no_column-by columns name (list_any (is_called name) columns) refl e

-- ---- the same by the names before each

-- the column's name is none of these
abbrev IsNoneOf : List (List ℕ) → Column → Type 0
IsNoneOf before column = is_among before column.name ≡ false

among-end : (before : List (List ℕ)) (own name : List ℕ) → is_among (before ++ own ∷ []) name ≡ (is_among before name || same_name own name)
unfolding is_among
among-end [] own name = or-false (same_name own name)
among-end (b ∷ before) own name = ap (λ (t : Bool). same_name b name || t) (among-end before own name) ∙ sym (or_assoc (same_name b name) (list_any (λ known. same_name known name) before) (same_name own name))

none-further : (before : List (List ℕ)) (own : List ℕ) (columns : List Column) → AllByRecursion (IsNoneOf before) columns → AllByRecursion (IsNot own) columns → AllByRecursion (IsNoneOf (before ++ own ∷ [])) columns
none-further before own [] all others = tt
none-further before own (c ∷ columns) all others = (among-end before own c.name ∙ or_from (is_among before c.name) (same_name own c.name) all.0 (other_name-turned c.name own others.0), none-further before own columns all.1 others.1)

none-nearer : (before : List (List ℕ)) (own : List ℕ) (columns : List Column) → AllByRecursion (IsNoneOf (before ++ own ∷ [])) columns → AllByRecursion (IsNoneOf before) columns × AllByRecursion (IsNot own) columns
none-nearer before own [] all = (tt, tt)
none-nearer before own (c ∷ columns) all =
    let n = or_parts (is_among before c.name) (same_name own c.name) (sym (among-end before own c.name) ∙ all.0) in
    let rest = none-nearer before own columns all.1 in
    ((n.0, rest.0), (other_name-turned own c.name n.1, rest.1))

abbrev names_of : List Column → List (List ℕ)
names_of columns = map (λ column. column.name) columns

apart-differ : (before : List (List ℕ)) (columns : List Column) → AllByRecursion (IsNoneOf before) columns → Apart columns → differ_from before (names_of columns) ≡ true
unfolding differ_from
apart-differ before [] all apart = refl
apart-differ before (c ∷ columns) all apart = rw (all.0, apart-differ (before ++ c.name ∷ []) columns (none-further before c.name columns all.1 apart.0) apart.1) refl

differ-apart : (before : List (List ℕ)) (columns : List Column) → differ_from before (names_of columns) ≡ true → AllByRecursion (IsNoneOf before) columns × Apart columns
unfolding differ_from
differ-apart before [] e = (tt, tt)
differ-apart before (c ∷ columns) e =
    let p = and_parts (not (is_among before c.name)) (differ_from (before ++ c.name ∷ []) (names_of columns)) e in
    let rest = differ-apart (before ++ c.name ∷ []) columns p.1 in
    let n = none-nearer before c.name columns rest.0 in
    ((not-true (is_among before c.name) p.0, n.0), (n.1, rest.1))

none_of-nothing : (columns : List Column) → AllByRecursion (IsNoneOf []) columns
unfolding is_among
none_of-nothing [] = tt
none_of-nothing (c ∷ columns) = (refl, none_of-nothing columns)

pub names-apart : (columns : List Column) → names_differ (names_of columns) ≡ true → Apart columns
names-apart columns e = (differ-apart [] columns e).1

pub apart-names : (columns : List Column) → Apart columns → names_differ (names_of columns) ≡ true
apart-names columns apart = apart-differ [] columns (none_of-nothing columns) apart
