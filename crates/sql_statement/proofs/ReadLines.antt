-- Reading lines one after the other, as a loop does.
use Rattle.std.proofs.Common.{◌≡◌, ℕ, ◌+◌, ◌-◌, ◌<◌, ◌≤◌, Bool, List, ◌++◌, length, take, drop, map, get_or, Option, Result, Ok, Err, Bor, refl, sym, ap, ◌∙◌, append_assoc}
use Rattle.std.proofs.lemmas.List.{append-nil, drop_all, drop_more, take_rest}
use Rattle.sql_grammar.specs.Reads.{◌>>=◌}
use Rattle.base_script.specs.declared.script.ScriptLine.{ScriptLine}
use Rattle.base_script.specs.declared.script.ScriptWord.{ScriptWord}
use Rattle.base_values.specs.declared.fault.Fault.{Fault}
use Rattle.base_values.specs.declared.fault.Fault.TheVariants as faults
use Rattle.sql_statement.specs.declared.code.ScriptRefusal.{ScriptRefusal}
use Rattle.base_values.specs.Faults.{Refuses}
use Rattle.sql_statement.specs.Scripts.{fitting_line, at_line, numbered, next_line, lines_from}

-- the lines so far, and those that are still read
abbrev pub with_lines : List ScriptLine → Result (List ScriptLine) ScriptRefusal → Result (List ScriptLine) ScriptRefusal
with_lines front (Ok lines) = Ok (front ++ lines)
with_lines front (Err refusal) = Err refusal

abbrev pub texts : List (Bor (List ℕ)) → List (List ℕ)
texts lines = map (λ (line : Bor (List ℕ)). line.now) lines

regroup : (front line : List ScriptLine) (others : Result (List ScriptLine) ScriptRefusal) → with_lines front (others >>= λ others. Ok (line ++ others)) ≡ with_lines (front ++ line) others
regroup front line (Ok others) = ap (λ (ls : List ScriptLine). Ok ls) (simp append_assoc)
regroup front line (Err refusal) = refl

module _ (tools : List (List ℕ)) (is_open : Bool) (number : ℕ) (front : List ScriptLine) (lines : List (Bor (List ℕ))) (i : ℕ) (default : Bor (List ℕ)) (total : Result (List ScriptLine) ScriptRefusal) (lt : i < length lines) where
  -- the line here, and those behind it
  abbrev Here : Type 0
  Here = with_lines front (lines_from tools is_open number (texts (drop i lines))) ≡ total

  abbrev read : Result (Option ScriptWord × Bool) ScriptRefusal
  read = at_line number (fitting_line tools (texts (take (length lines - (i + 1)) (drop (i + 1) lines))) is_open (get_or lines i default).now)

  pub goes_on : (line : Option ScriptWord × Bool) → read ≡ Ok line → Here → with_lines (front ++ numbered number line.0) (lines_from tools line.1 (next_line number) (texts (drop (i + 1) lines))) ≡ total
  unfolding lines_from
  goes_on line e so_far =
      let here : at_line number (fitting_line tools (texts (drop (i + 1) lines)) is_open (get_or lines i default).now) ≡ Ok line = rw (take_rest lines (i + 1)) at e in
      let one : with_lines front (lines_from tools is_open number (texts (drop i lines))) ≡ with_lines (front ++ numbered number line.0) (lines_from tools line.1 (next_line number) (texts (drop (i + 1) lines))) =
      rw (drop_more lines i default lt, here) (regroup front (numbered number line.0) (lines_from tools line.1 (next_line number) (texts (drop (i + 1) lines)))) in
      sym one ∙ so_far

  refuses : (refusal : ScriptRefusal) → read ≡ Err refusal → Here → total ≡ Err refusal
  unfolding lines_from
  refuses refusal e so_far =
      let here : at_line number (fitting_line tools (texts (drop (i + 1) lines)) is_open (get_or lines i default).now) ≡ Err refusal = rw (take_rest lines (i + 1)) at e in
      let one : with_lines front (lines_from tools is_open number (texts (drop i lines))) ≡ Err refusal = rw (drop_more lines i default lt, here) refl in
      sym so_far ∙ one

  pub fails : (fault : Fault ScriptRefusal) → Refuses fault read → Here → Refuses fault total
  fails faults.Memory e so_far = tt
  fails (faults.Refused refusal) e so_far = refuses refusal e so_far

pub ended : (tools : List (List ℕ)) (is_open : Bool) (number : ℕ) (front : List ScriptLine) (lines : List (Bor (List ℕ))) (i : ℕ) (total : Result (List ScriptLine) ScriptRefusal) → length lines ≤ i → with_lines front (lines_from tools is_open number (texts (drop i lines))) ≡ total → total ≡ Ok front
unfolding lines_from
ended tools is_open number front lines i total le so_far =
    let one : with_lines front (lines_from tools is_open number (texts (drop i lines))) ≡ Ok front = rw (drop_all i lines le) (ap (λ (ls : List ScriptLine). Ok ls) (append-nil front)) in
    sym so_far ∙ one
