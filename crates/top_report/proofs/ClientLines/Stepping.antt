-- What is kept of a client after a turn is how far it is then.
use Rattle.std.proofs.Common.{◌≡◌, ℕ, zero, suc, ◌+◌, ◌<◌, ◌^◌, ◌==◌, Bool, true, false, not, cond, List, [], ◌∷◌, drop, length, None, refl, sym, ap, subst, ◌∙◌, ◌⊎◌, inl, inr, arith}
use Rattle.std.proofs.lemmas.Bool.Decides.{nat_tests}
use Rattle.base_script.specs.declared.script.ScriptLine.{ScriptLine}
use Rattle.base_script.specs.declared.script.ScriptWord.TheVariants.{Begin}
use Rattle.server_model.specs.declared.transaction.Mark.{Mark}
use Rattle.server_model.specs.declared.transaction.Mark.TheVariants.{Answered}
use Rattle.server_model.specs.declared.transaction.TxnLine.{TxnLine}
use Rattle.tool_program.specs.JournalWords.Clients.{Became, Reached, client_after, is_inside, new_client}
use Rattle.run_actors.specs.declared.client_turns.actor_state.ClientState.{ClientState}
use Rattle.run_actors.specs.declared.client_turns.outcome.LineOutcome.{LineOutcome}
use Rattle.run_actors.specs.declared.client_turns.outcome.LineOutcome.TheVariants.{Nothing, Waits, Marked, Broken}
use Rattle.run_actors.specs.ClientTurns.ActorStates.{IsReached, line_outcome_as}
use Rattle.run_actors.proofs.ClientTurns.Heard.{became_with}
use Rattle.top_report.specs.ClientLines.Walks.{IsKept, Walk, ends_now, is_marked, is_open, new_walk, number_in, walk_after, walk_in, walk_marked, walk_of}
use Rattle.top_report.proofs.ClientLines.Walking.{after_is, begun_after, lines_after, open_is}

-- ---- a client that is so far

-- this many lines
lines_of : ℕ → List TxnLine
lines_of zero = []
lines_of (suc count) = record { word = Begin; mark = Answered } ∷ lines_of count

count_of : (count : ℕ) → length (lines_of count) ≡ count
unfolding lines_of
count_of zero = refl
count_of (suc count) = ap suc (count_of count)

abbrev client_in : List ScriptLine → ClientState → ℕ → ℕ → Reached
client_in script state begun lines = record { left = drop state.place script; begun = begun; lines = lines_of lines; replies = []; waits = state.waits; is_lost = state.is_lost }

as_walk : (script : List ScriptLine) (state : ClientState) (begun lines : ℕ) → walk_of (client_in script state begun lines) ≡ walk_in script state begun lines
as_walk script state begun lines = ap (walk_in script state begun) (count_of lines)

open_so : (lines : ℕ) → is_inside (lines_of lines) ≡ not (lines == 0)
open_so lines = sym (open_is (lines_of lines)) ∙ ap (λ (n : ℕ). not (n == 0)) (count_of lines)

as_reached : (script : List ScriptLine) (state : ClientState) (begun lines : ℕ) → state.is_inside ≡ not (lines == 0) → IsReached script state (client_in script state begun lines)
as_reached script state begun lines inside = record { left = refl; inside = open_so lines ∙ sym inside; waits = refl; lost = refl }

as_outcome : (outcome : LineOutcome) → outcome ≡ line_outcome_as (became_with None outcome)
as_outcome Nothing = refl
as_outcome Waits = refl
as_outcome (Marked mark) = refl
as_outcome Broken = refl

-- before the first line
pub new_is : (script : List ScriptLine) (state : ClientState) → IsReached script state (new_client script) → walk_in script state 0 0 ≡ new_walk script
new_is script state reached =
    ap (λ (l : List ScriptLine). record { left = l; begun = 0; lines = 0; waits = state.waits }) (sym reached.left)
    ∙ ap (λ (b : Bool). record { left = script; begun = 0; lines = 0; waits = b }) (sym reached.waits)

pub new_kept : (script : List ScriptLine) (state : ClientState) → length script < 2 ^ 63 → IsReached script state (new_client script) → IsKept state.is_inside (walk_in script state 0 0)
new_kept script state few reached =
    let size : length (drop state.place script) ≡ length script = ap (λ (l : List ScriptLine). length l) (sym reached.left) in
    record { begun = omega (arith, size, few); lines = omega (arith, size, few); inside = sym reached.inside }

-- ---- its numbers

begun_marked : (walk : Walk) (mark : Mark) (left : List ScriptLine) → (walk_marked walk mark left).begun ≡ cond (is_marked (Marked mark) left) (number_in walk) walk.begun
begun_marked walk mark [] = refl
begun_marked walk mark (line ∷ lines) = refl

begun_is : (outcome : LineOutcome) (walk : Walk) → (walk_after outcome walk).begun ≡ cond (is_marked outcome walk.left) (number_in walk) walk.begun
begun_is (Marked mark) walk = begun_marked walk mark walk.left
begun_is outcome walk = refl

none_or : (ended : Bool) (lines : ℕ) → (cond ended 0 (lines + 1) ≡ 0) ⊎ (cond ended 0 (lines + 1) ≡ lines + 1)
none_or true lines = inl refl
none_or false lines = inr refl

lines_marked : (walk : Walk) (mark : Mark) (left : List ScriptLine)
    → ((walk_marked walk mark left).lines ≡ 0) ⊎ ((walk_marked walk mark left).lines ≡ cond (is_marked (Marked mark) left) (walk.lines + 1) walk.lines)
lines_marked walk mark [] = inr refl
lines_marked walk mark (line ∷ lines) = none_or (ends_now (is_open walk) mark (line ∷ lines)) walk.lines

lines_are : (outcome : LineOutcome) (walk : Walk) → ((walk_after outcome walk).lines ≡ 0) ⊎ ((walk_after outcome walk).lines ≡ cond (is_marked outcome walk.left) (walk.lines + 1) walk.lines)
lines_are (Marked mark) walk = lines_marked walk mark walk.left
lines_are Broken walk = inl refl
lines_are outcome walk = inr refl

-- they are kept while the transaction is open
kept_lines : (lines more : ℕ) (inside : Bool) → inside ≡ not (lines == 0) → (lines ≡ 0) ⊎ (lines ≡ more) → cond inside more 0 ≡ lines
kept_lines lines more true is (inl none) = absurd (let shut : not (lines == 0) ≡ false = rw none refl in cc)
kept_lines lines more true is (inr same) = sym same
kept_lines lines more false is same = none_left lines (sym is)
  where
    none_left : (lines : ℕ) → not (lines == 0) ≡ false → 0 ≡ lines
    none_left zero shut = refl
    none_left (suc lines) shut = absurd (let some : (suc lines == 0) ≡ false = grind (arith, nat_tests) in let open_still : not (suc lines == 0) ≡ true = rw some refl in cc)

pub kept_if : (inside : Bool) (line more : ℕ) → inside ≡ true → line ≡ more → line ≡ cond inside more 0
kept_if inside line more is same = rw is same

pub none_if : (inside : Bool) (line more : ℕ) → inside ≡ false → line ≡ 0 → line ≡ cond inside more 0
none_if inside line more is none = rw is none

-- ---- a turn

module _ (script : List ScriptLine) (old new : ClientState) (begun lines : ℕ) (outcome : LineOutcome) (kept : IsKept old.is_inside (walk_in script old begun lines)) (becomes : (client : Reached) (became : Became) → outcome ≡ line_outcome_as became → IsReached script old client → IsReached script new (client_after became client)) where
  abbrev walk : Walk
  walk = walk_in script old begun lines

  abbrev after : Reached
  after = client_after (became_with None outcome) (client_in script old begun lines)

  reached : IsReached script new after
  reached = becomes (client_in script old begun lines) (became_with None outcome) (as_outcome outcome) (as_reached script old begun lines kept.inside)

  there : walk_after outcome walk ≡ walk_of after
  there =
      ap (λ (o : LineOutcome). walk_after o walk) (as_outcome outcome)
      ∙ sym (ap (walk_after (line_outcome_as (became_with None outcome))) (as_walk script old begun lines))
      ∙ after_is (became_with None outcome) (client_in script old begun lines)

  inside : new.is_inside ≡ is_open (walk_after outcome walk)
  inside = sym reached.inside ∙ sym (open_is after.lines) ∙ sym (ap (λ (w : Walk). is_open w) there)

  begun_so : cond (is_marked outcome walk.left) (number_in walk) walk.begun ≡ (walk_after outcome walk).begun
  begun_so = sym (begun_is outcome walk)

  lines_so : cond new.is_inside (cond (is_marked outcome walk.left) (walk.lines + 1) walk.lines) 0 ≡ (walk_after outcome walk).lines
  lines_so = kept_lines (walk_after outcome walk).lines (cond (is_marked outcome walk.left) (walk.lines + 1) walk.lines) new.is_inside inside (lines_are outcome walk)

  -- what is kept with these numbers
  pub is_after : (number line : ℕ) → number ≡ cond (is_marked outcome walk.left) (number_in walk) walk.begun → line ≡ cond new.is_inside (cond (is_marked outcome walk.left) (walk.lines + 1) walk.lines) 0 → walk_in script new number line ≡ walk_after outcome walk
  is_after number line one two =
      ap (λ (n : ℕ). walk_in script new n line) (one ∙ begun_so)
      ∙ ap (λ (n : ℕ). walk_in script new (walk_after outcome walk).begun n) (two ∙ lines_so)
      ∙ ap (λ (l : List ScriptLine). record { left = l; begun = (walk_after outcome walk).begun; lines = (walk_after outcome walk).lines; waits = new.waits }) (sym reached.left ∙ sym (ap (λ (w : Walk). w.left) there))
      ∙ ap (λ (b : Bool). record { left = (walk_after outcome walk).left; begun = (walk_after outcome walk).begun; lines = (walk_after outcome walk).lines; waits = b }) (sym reached.waits ∙ sym (ap (λ (w : Walk). w.waits) there))

  kept_after : IsKept new.is_inside (walk_after outcome walk)
  kept_after = record { begun = begun_after outcome walk kept.begun; lines = lines_after outcome walk kept.lines; inside = inside }

  pub still_kept : (number line : ℕ) → number ≡ cond (is_marked outcome walk.left) (number_in walk) walk.begun → line ≡ cond new.is_inside (cond (is_marked outcome walk.left) (walk.lines + 1) walk.lines) 0 → IsKept new.is_inside (walk_in script new number line)
  still_kept number line one two = subst (IsKept new.is_inside) (sym (is_after number line one two)) kept_after
