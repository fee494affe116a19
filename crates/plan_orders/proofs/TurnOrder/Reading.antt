-- Reading words one after the other, as a loop does.
use Rattle.std.proofs.Common.{◌≡◌, ℕ, ◌+◌, ◌<◌, ◌≤◌, List, [], ◌∷◌, ◌++◌, length, drop, map, get_or, Result, Ok, Err, Bor, refl, sym, ap, ◌∙◌, append_assoc}
use Rattle.std.proofs.lemmas.List.{append-nil, drop_all, drop_more}
use Rattle.base_values.specs.SchemaRules.Results.{◌>>=◌}
use Rattle.plan_data.specs.declared.runs.ActorRun.{ActorRun}
use Rattle.base_values.specs.declared.fault.Fault.{Fault}
use Rattle.base_values.specs.declared.fault.Fault.TheVariants as faults
use Rattle.plan_orders.specs.declared.turn_order.fault.TurnRefusal.{TurnRefusal}
use Rattle.plan_orders.specs.TurnOrder.Refusals.{or_refused}
use Rattle.base_values.specs.Faults.{Refuses}
use Rattle.plan_orders.specs.TurnOrder.Turns.{run_among, next_word, runs_from}

-- the turns so far, and those that are still read
abbrev pub with_front : List ActorRun → Result (List ActorRun) TurnRefusal → Result (List ActorRun) TurnRefusal
with_front front (Ok others) = Ok (front ++ others)
with_front front (Err refusal) = Err refusal

abbrev pub texts : List (Bor (List ℕ)) → List (List ℕ)
texts words = map (λ (word : Bor (List ℕ)). word.now) words

regroup : (front : List ActorRun) (run : ActorRun) (others : Result (List ActorRun) TurnRefusal) → with_front front (others >>= λ others. Ok (run ∷ others)) ≡ with_front (front ++ (run ∷ [])) others
regroup front run (Ok others) = ap (λ (xs : List ActorRun). Ok xs) (simp append_assoc)
regroup front run (Err refusal) = refl

module _ (clients number : ℕ) (front : List ActorRun) (words : List (Bor (List ℕ))) (i : ℕ) (default : Bor (List ℕ)) (total : Result (List ActorRun) TurnRefusal) (lt : i < length words) where
  abbrev Here : Type 0
  Here = with_front front (runs_from clients number (texts (drop i words))) ≡ total

  abbrev read : Result ActorRun TurnRefusal
  read = or_refused number (run_among clients (get_or words i default).now)

  pub goes_on : (run : ActorRun) → read ≡ Ok run → Here → with_front (front ++ (run ∷ [])) (runs_from clients (next_word number) (texts (drop (i + 1) words))) ≡ total
  unfolding runs_from
  goes_on run e so_far =
      let one : with_front front (runs_from clients number (texts (drop i words))) ≡ with_front (front ++ (run ∷ [])) (runs_from clients (next_word number) (texts (drop (i + 1) words))) =
      rw (drop_more words i default lt, e) (regroup front run (runs_from clients (next_word number) (texts (drop (i + 1) words)))) in
      sym one ∙ so_far

  refuses : (refusal : TurnRefusal) → read ≡ Err refusal → Here → total ≡ Err refusal
  unfolding runs_from
  refuses refusal e so_far =
      let one : with_front front (runs_from clients number (texts (drop i words))) ≡ Err refusal = rw (drop_more words i default lt, e) refl in
      sym so_far ∙ one

  pub fails : (fault : Fault TurnRefusal) → Refuses fault read → Here → Refuses fault total
  fails faults.Memory e so_far = tt
  fails (faults.Refused refusal) e so_far = refuses refusal e so_far

pub ended : (clients number : ℕ) (front : List ActorRun) (words : List (Bor (List ℕ))) (i : ℕ) (total : Result (List ActorRun) TurnRefusal) → length words ≤ i → with_front front (runs_from clients number (texts (drop i words))) ≡ total → total ≡ Ok front
unfolding runs_from
ended clients number front words i total le so_far =
    let one : with_front front (runs_from clients number (texts (drop i words))) ≡ Ok front = rw (drop_all i words le) (ap (λ (xs : List ActorRun). Ok xs) (append-nil front)) in
    sym so_far ∙ one
