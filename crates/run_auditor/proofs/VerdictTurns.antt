-- The turns of which a verdict speaks.
use Rattle.std.proofs.Common.{◌≡◌, ◌≤◌, ◌<◌, ℕ, zero, suc, ◌+◌, ◌-◌, ◌^◌, ◌==◌, Bool, true, false, List, [], ◌∷◌, ◌++◌, length, take, get_or, cond, Some, None, refl, sym, ap, ◌∙◌, arith}
use Rattle.std.specs.Prelude.{min}
use Rattle.std.specs.List.{slice_get}
use Rattle.std.proofs.lemmas.Bool.Decides.{nat_tests}
use Rattle.run_audit.specs.declared.line.TraceLine.{TraceLine}
use Rattle.std.proofs.lemmas.List.{length-take, take_more}
use Rattle.run_audit.specs.Audits.{line_at}
use Rattle.run_audit.specs.Rules.{commands_in, is_word}
use Rattle.run_judge.specs.TurnsSeen.{commanded}
use Rattle.run_judge.proofs.SeenTurns.{commands_after}

-- ---- a turn's line

pub record IsWithin (turn count : ℕ) : Type 0 where
  pub from_one : 1 ≤ turn
  pub inside : turn - 1 < count

within : (lines : List TraceLine) (i : ℕ) (line : TraceLine) → slice_get lines i ≡ Some line → i < length lines
within [] zero line is = absurd (cc)
within [] (suc i) line is = absurd (cc)
within (first ∷ lines) zero line is = omega arith
within (first ∷ lines) (suc i) line is = let rest : i < length lines = within lines i line is in omega (arith, rest)

within_by : (lines : List TraceLine) (turn : ℕ) (line : TraceLine) (none : Bool) → (turn == 0) ≡ none → cond none None (slice_get lines (turn - 1)) ≡ Some line → IsWithin turn (length lines)
within_by lines turn line true is at = absurd (cc)
within_by lines turn line false is at = record { from_one = grind (arith, nat_tests); inside = within lines (turn - 1) line at }

line_within : (lines : List TraceLine) (turn : ℕ) (line : TraceLine) → line_at lines turn ≡ Some line → IsWithin turn (length lines)
line_within lines turn line at = within_by lines turn line (turn == 0) refl at

pub turn_from_one : (lines : List TraceLine) (turn : ℕ) (line : TraceLine) → line_at lines turn ≡ Some line → 1 ≤ turn
turn_from_one lines turn line at = (line_within lines turn line at).from_one

pub turn_inside : (lines : List TraceLine) (turn : ℕ) (line : TraceLine) → line_at lines turn ≡ Some line → turn - 1 < length lines
turn_inside lines turn line at = (line_within lines turn line at).inside

-- ---- commands

-- one turn more
pub commands_next : (lines : List TraceLine) (i : ℕ) (line : TraceLine) (count : ℕ) → i < length lines → i < 2 ^ 64 - 1 → line ≡ get_or lines i line → count ≡ commands_in (take i lines) → commanded (is_word line.asked) count ≡ commands_in (take (i + 1) lines)
commands_next lines i line count within few is so_far =
    let short : length (take i lines) ≡ min i (length lines) = length-take i lines in
    commands_after (take i lines) line count so_far (omega (arith, short, within, few)) ∙ ap commands_in (sym (take_more lines i line within ∙ ap (λ (one : TraceLine). take i lines ++ one ∷ []) (sym is)))
