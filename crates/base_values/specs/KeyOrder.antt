-- The order of values and of keys. Numbers compare as numbers, texts and bytes by their bytes (MySQL's manual, "The binary Collation Compared to _bin Collations"); the order between kinds of value is this project's rule, and no column mixes them.
use Rattle.std.specs.Prelude.{ℕ, List}
use Rattle.std.specs.declared.cmp.Ordering.{Ordering}
use Rattle.std.specs.Ordering.{nat_cmp, int_cmp}
use Rattle.std.specs.Cmp.Lexicographic.{slice_cmp}
use Rattle.base_values.specs.declared.value.Value.{Value}
use Rattle.base_values.specs.declared.value.Value.TheVariants.{Null, Num, Text, Blob}

-- The place of a value's kind among the kinds: null, numbers, texts, bytes.
abbrev pub rank : Value → ℕ
rank Null = 0
rank (Num n) = 1
rank (Text text) = 2
rank (Blob blob) = 3

-- Which of two values comes first: of one kind by what they hold, else by their kinds.
unfoldable pub compare_values : Value → Value → Ordering
compare_values (Num m) (Num n) = int_cmp m n
compare_values (Text s) (Text t) = slice_cmp nat_cmp s t
compare_values (Blob s) (Blob t) = slice_cmp nat_cmp s t
compare_values a b = nat_cmp (rank a) (rank b)

-- Which of two keys comes first: the first column in which they differ decides.
abbrev pub compare_keys : List Value → List Value → Ordering
compare_keys = slice_cmp compare_values
