-- A hint row is read back.
use Rattle.std.proofs.Common.{◌≡◌, ◌<◌, ℕ, Bool, true, false, ◌&&◌, Some, refl, arith}
use Rattle.std.specs.Prelude.{codes, pos, nat_lt}
use Rattle.std.specs.Fmt.{signed_decimal}
use Rattle.std.specs.Str.{bytes_eq}
use Rattle.std.proofs.lemmas.Bool.{false≢true}
use Rattle.std.proofs.lemmas.Bool.Decides.{nat_tests}
use Rattle.server_model.proofs.LockedRows.Tests.{same_bytes}
use Rattle.tool_changelog.specs.Hints.{hint_if, hint_of, hint_row}
use Rattle.law_journals.specs.HintRows.{HintRowsReadBack}

all_hold : (a b c : Bool) (attempt : ℕ) → a ≡ true → b ≡ true → c ≡ true → hint_if (a && b && c) attempt ≡ Some attempt
all_hold true true true attempt one two three = refl
all_hold false b c attempt one two three = absurd (false≢true one)
all_hold true false c attempt one two three = absurd (false≢true two)
all_hold true true false attempt one two three = absurd (false≢true three)

above_none : (attempt : ℕ) → 0 < attempt → nat_lt 0 attempt ≡ true
above_none attempt some = grind (arith, nat_tests)

-- *Hint rows are read back*
pub hints_read : HintRowsReadBack
unfolding hint_row
hints_read attempt some =
    all_hold (nat_lt 0 attempt) (bytes_eq (codes "cut-over") (codes "cut-over")) (bytes_eq (signed_decimal (pos attempt)) (signed_decimal (pos attempt))) attempt (above_none attempt some) (same_bytes (codes "cut-over")) (same_bytes (signed_decimal (pos attempt)))
