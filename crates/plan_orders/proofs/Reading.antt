-- Reading lines one after the other, as a loop does.
use Rattle.std.proofs.Common.{◌≡◌, ℕ, ◌+◌, ◌<◌, ◌≤◌, List, ◌++◌, length, drop, map, get_or, option_to_list, Option, Result, Ok, Err, Bor, refl, sym, ap, ◌∙◌, append_assoc}
use Rattle.std.proofs.lemmas.List.{append-nil, drop_all, drop_more}
use Rattle.base_values.specs.SchemaRules.Results.{◌>>=◌}
use Rattle.base_script.specs.declared.operator.Command.{Command}
use Rattle.base_values.specs.declared.fault.Fault.{Fault}
use Rattle.base_values.specs.declared.fault.Fault.TheVariants as faults
use Rattle.plan_orders.specs.declared.fault.OrderRefusal.{OrderRefusal}
use Rattle.plan_orders.specs.Operators.{line_command, next_line, commands_from}
use Rattle.base_values.specs.Faults.{Refuses}
use Rattle.plan_orders.specs.Words.{spaced_words}

-- the commands so far, and those that are still read
abbrev pub with_front : List Command → Result (List Command) OrderRefusal → Result (List Command) OrderRefusal
with_front front (Ok others) = Ok (front ++ others)
with_front front (Err refusal) = Err refusal

abbrev pub texts : List (Bor (List ℕ)) → List (List ℕ)
texts lines = map (λ (line : Bor (List ℕ)). line.now) lines

regroup : (front new : List Command) (others : Result (List Command) OrderRefusal) → with_front front (others >>= λ others. Ok (new ++ others)) ≡ with_front (front ++ new) others
regroup front new (Ok others) = ap (λ (xs : List Command). Ok xs) (simp append_assoc)
regroup front new (Err refusal) = refl

module _ (line : ℕ) (front : List Command) (lines : List (Bor (List ℕ))) (i : ℕ) (default : Bor (List ℕ)) (total : Result (List Command) OrderRefusal) (lt : i < length lines) where
  abbrev Lines : Type 0
  Lines = with_front front (commands_from line (texts (drop i lines))) ≡ total

  abbrev command_here : Result (Option Command) OrderRefusal
  command_here = line_command line (spaced_words (get_or lines i default).now)

  pub goes_on : (command : Option Command) → command_here ≡ Ok command → Lines → with_front (front ++ option_to_list command) (commands_from (next_line line) (texts (drop (i + 1) lines))) ≡ total
  unfolding commands_from
  goes_on command e so_far =
      let one : with_front front (commands_from line (texts (drop i lines))) ≡ with_front (front ++ option_to_list command) (commands_from (next_line line) (texts (drop (i + 1) lines))) =
      rw (drop_more lines i default lt, e) (regroup front (option_to_list command) (commands_from (next_line line) (texts (drop (i + 1) lines)))) in
      sym one ∙ so_far

  refuses : (refusal : OrderRefusal) → command_here ≡ Err refusal → Lines → total ≡ Err refusal
  unfolding commands_from
  refuses refusal e so_far =
      let one : with_front front (commands_from line (texts (drop i lines))) ≡ Err refusal = rw (drop_more lines i default lt, e) refl in
      sym so_far ∙ one

  pub fails : (fault : Fault OrderRefusal) → Refuses fault command_here → Lines → Refuses fault total
  fails faults.Memory e so_far = tt
  fails (faults.Refused refusal) e so_far = refuses refusal e so_far

pub ended : (line : ℕ) (front : List Command) (lines : List (Bor (List ℕ))) (i : ℕ) (total : Result (List Command) OrderRefusal) → length lines ≤ i → with_front front (commands_from line (texts (drop i lines))) ≡ total → total ≡ Ok front
unfolding commands_from
ended line front lines i total le so_far =
    let one : with_front front (commands_from line (texts (drop i lines))) ≡ Ok front = rw (drop_all i lines le) (ap (λ (xs : List Command). Ok xs) (append-nil front)) in
    sym so_far ∙ one
