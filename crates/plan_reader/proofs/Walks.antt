-- Reading texts one after the other, as a loop does.
use Rattle.std.proofs.Common.{◌≡◌, ℕ, ◌+◌, ◌<◌, ◌≤◌, List, [], ◌∷◌, ◌++◌, length, drop, map, get_or, Result, Ok, Err, Bor, refl, sym, ap, ◌∙◌, append_assoc, suc}
use Rattle.std.proofs.lemmas.List.{append-nil, drop_all, drop_more, length-map}
use Rattle.base_values.proofs.SchemaRules.Steps.{bind_ok, ok_is}
use Rattle.base_values.specs.SchemaRules.Results.{◌>>=◌}
use Rattle.plan_reader.specs.PlanTables.Rows.{next_number}
use Rattle.base_values.specs.declared.fault.Fault.{Fault}
use Rattle.base_values.specs.declared.fault.Fault.TheVariants as faults
use Rattle.plan_reader.specs.declared.fault.PlanRefusal.{PlanRefusal}
use Rattle.base_values.specs.Faults.{Refuses}
use Rattle.plan_reader.specs.Walks.{each_from}

-- what was read so far, and what is still read
abbrev pub with_front : {A : Type 0} → List A → Result (List A) PlanRefusal → Result (List A) PlanRefusal
with_front front (Ok others) = Ok (front ++ others)
with_front front (Err refusal) = Err refusal

abbrev pub texts : List (Bor (List ℕ)) → List (List ℕ)
texts all = map (λ (text : Bor (List ℕ)). text.now) all

regroup : {A : Type 0} (front : List A) (one : A) (others : Result (List A) PlanRefusal) → with_front front (others >>= λ others. Ok (one ∷ others)) ≡ with_front (front ++ (one ∷ [])) others
regroup {A} front one (Ok others) = ap (λ (xs : List A). Ok xs) (simp append_assoc)
regroup front one (Err refusal) = refl

module _ {A : Type 0} (read : ℕ → List ℕ → Result A PlanRefusal) (number : ℕ) (front : List A) (all : List (Bor (List ℕ))) (i : ℕ) (default : Bor (List ℕ)) (total : Result (List A) PlanRefusal) (lt : i < length all) where
  abbrev Here : Type 0
  Here = with_front front (each_from read number (texts (drop i all))) ≡ total

  abbrev here : Result A PlanRefusal
  here = read number (get_or all i default).now

  pub goes_on : (one : A) → here ≡ Ok one → Here → with_front (front ++ (one ∷ [])) (each_from read (next_number number) (texts (drop (i + 1) all))) ≡ total
  unfolding each_from
  goes_on one e so_far =
      let same : with_front front (each_from read number (texts (drop i all))) ≡ with_front (front ++ (one ∷ [])) (each_from read (next_number number) (texts (drop (i + 1) all))) =
      rw (drop_more all i default lt, e) (regroup front one (each_from read (next_number number) (texts (drop (i + 1) all)))) in
      sym same ∙ so_far

  refuses : (refusal : PlanRefusal) → here ≡ Err refusal → Here → total ≡ Err refusal
  unfolding each_from
  refuses refusal e so_far =
      let same : with_front front (each_from read number (texts (drop i all))) ≡ Err refusal = rw (drop_more all i default lt, e) refl in
      sym so_far ∙ same

  pub fails : (fault : Fault PlanRefusal) → Refuses fault here → Here → Refuses fault total
  fails faults.Memory e so_far = tt
  fails (faults.Refused refusal) e so_far = refuses refusal e so_far

pub ended : {A : Type 0} (read : ℕ → List ℕ → Result A PlanRefusal) (number : ℕ) (front : List A) (all : List (Bor (List ℕ))) (i : ℕ) (total : Result (List A) PlanRefusal) → length all ≤ i → with_front front (each_from read number (texts (drop i all))) ≡ total → total ≡ Ok front
unfolding each_from
ended {A} read number front all i total le so_far =
    let same : with_front front (each_from read number (texts (drop i all))) ≡ Ok front = rw (drop_all i all le) (ap (λ (xs : List A). Ok xs) (append-nil front)) in
    sym so_far ∙ same

-- one is read of each
pub each_length : {A : Type 0} (read : ℕ → List ℕ → Result A PlanRefusal) (number : ℕ) (all : List (List ℕ)) (made : List A) → each_from read number all ≡ Ok made → length made ≡ length all
unfolding each_from
each_length {A} read number [] made is = sym (ap (λ (xs : List A). length xs) (ok_is [] made is))
each_length {A} read number (text ∷ all) made is =
    let first = bind_ok (read number text) _ made is in
    let others = bind_ok (each_from read (next_number number) all) (λ others. Ok (first.0 ∷ others)) made first.2 in
    sym (ap (λ (xs : List A). length xs) (ok_is (first.0 ∷ others.0) made others.2)) ∙ ap (λ (n : ℕ). suc n) (each_length read (next_number number) all others.0 others.1)

pub each_text : {A : Type 0} (read : ℕ → List ℕ → Result A PlanRefusal) (all : List (Bor (List ℕ))) (made : List A) → each_from read 1 (texts all) ≡ Ok made → length made ≡ length all
each_text read all made is = each_length read 1 (texts all) made is ∙ length-map all (λ (text : Bor (List ℕ)). text.now)
