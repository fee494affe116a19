-- Each turn of a journal is of one part.
use Rattle.std.proofs.Common.{◌≡◌, ℕ, suc, ◌+◌, Bool, true, false, cond, List, [], ◌∷◌, ◌++◌, length, refl, sym, ap, ◌∙◌, arith}
use Rattle.std.specs.Prelude.{count_by}
use Rattle.std.proofs.lemmas.List.Sums.{sum_by-cons, sum_by_push}
use Rattle.server_model.specs.Along.{gathered, gathered-more}
use Rattle.server_model.specs.declared.entry.Entry.{Entry}
use Rattle.plan_data.specs.PlanData.{PlanData}
use Rattle.proof_bounds.specs.Parts.{Part, OfOperator, OfClients, OfSetup, OfChunks, OfBatches, OfAttempts, OfClearing, part_of, one_part, parts, same_part, turns_of_part}
use Rattle.proof_bounds.specs.Laws.{PartsMakeJournals}

-- ONE TURN MORE

pub count_more : (part : Part) (plan : PlanData) (journal : List Entry) (entry : Entry) → turns_of_part part plan (journal ++ entry ∷ []) ≡ turns_of_part part plan journal + cond (same_part part (part_of plan journal entry)) 1 0
unfolding parts
count_more part plan journal entry =
    ap (count_by (same_part part)) (gathered-more (one_part plan) [] journal entry) ∙ sum_by_push (λ (one : Part). cond (same_part part one) 1 0) (gathered (one_part plan) [] journal) (part_of plan journal entry)

pub count_yes : (part : Part) (plan : PlanData) (journal : List Entry) (entry : Entry) → same_part part (part_of plan journal entry) ≡ true → turns_of_part part plan (journal ++ entry ∷ []) ≡ turns_of_part part plan journal + 1
count_yes part plan journal entry is = count_more part plan journal entry ∙ ap (λ (b : Bool). turns_of_part part plan journal + cond b 1 0) is

pub count_no : (part : Part) (plan : PlanData) (journal : List Entry) (entry : Entry) → same_part part (part_of plan journal entry) ≡ false → turns_of_part part plan (journal ++ entry ∷ []) ≡ turns_of_part part plan journal
count_no part plan journal entry is = count_more part plan journal entry ∙ ap (λ (b : Bool). turns_of_part part plan journal + cond b 1 0) is ∙ none (turns_of_part part plan journal) where
  none : (n : ℕ) → n + 0 ≡ n
  none n = omega arith

pub count_none : (part : Part) (plan : PlanData) → turns_of_part part plan [] ≡ 0
unfolding parts
count_none part plan = refl

-- ALL PARTS

parts_length : (plan : PlanData) (before entries : List Entry) → length (gathered (one_part plan) before entries) ≡ length entries
parts_length plan before [] = refl
parts_length plan before (entry ∷ entries) = ap suc (parts_length plan (before ++ entry ∷ []) entries)

abbrev counts : Part → List Part → ℕ
counts part ps = count_by (same_part part) ps

abbrev total : List Part → ℕ
total ps = counts OfOperator ps + counts OfClients ps + counts OfSetup ps + counts OfChunks ps + counts OfBatches ps + counts OfAttempts ps + counts OfClearing ps

yes : (part one : Part) (ps : List Part) → same_part part one ≡ true → counts part (one ∷ ps) ≡ 1 + counts part ps
yes part one ps is = sum_by-cons (λ (p : Part). cond (same_part part p) 1 0) one ps ∙ ap (λ (b : Bool). cond b 1 0 + counts part ps) is

no_more : (part one : Part) (ps : List Part) → same_part part one ≡ false → counts part (one ∷ ps) ≡ counts part ps
no_more part one ps is = sum_by-cons (λ (p : Part). cond (same_part part p) 1 0) one ps ∙ ap (λ (b : Bool). cond b 1 0 + counts part ps) is ∙ zero_more (counts part ps) where
  zero_more : (n : ℕ) → 0 + n ≡ n
  zero_more n = omega arith

module _ (ps : List Part) where
  more : (one : Part) → total (one ∷ ps) ≡ 1 + total ps
  more OfOperator =
      let a = yes OfOperator OfOperator ps refl in let b = no_more OfClients OfOperator ps refl in let c = no_more OfSetup OfOperator ps refl in let d = no_more OfChunks OfOperator ps refl in
      let e = no_more OfBatches OfOperator ps refl in let f = no_more OfAttempts OfOperator ps refl in let g = no_more OfClearing OfOperator ps refl in omega (arith, a, b, c, d, e, f, g)
  more OfClients =
      let a = no_more OfOperator OfClients ps refl in let b = yes OfClients OfClients ps refl in let c = no_more OfSetup OfClients ps refl in let d = no_more OfChunks OfClients ps refl in
      let e = no_more OfBatches OfClients ps refl in let f = no_more OfAttempts OfClients ps refl in let g = no_more OfClearing OfClients ps refl in omega (arith, a, b, c, d, e, f, g)
  more OfSetup =
      let a = no_more OfOperator OfSetup ps refl in let b = no_more OfClients OfSetup ps refl in let c = yes OfSetup OfSetup ps refl in let d = no_more OfChunks OfSetup ps refl in
      let e = no_more OfBatches OfSetup ps refl in let f = no_more OfAttempts OfSetup ps refl in let g = no_more OfClearing OfSetup ps refl in omega (arith, a, b, c, d, e, f, g)
  more OfChunks =
      let a = no_more OfOperator OfChunks ps refl in let b = no_more OfClients OfChunks ps refl in let c = no_more OfSetup OfChunks ps refl in let d = yes OfChunks OfChunks ps refl in
      let e = no_more OfBatches OfChunks ps refl in let f = no_more OfAttempts OfChunks ps refl in let g = no_more OfClearing OfChunks ps refl in omega (arith, a, b, c, d, e, f, g)
  more OfBatches =
      let a = no_more OfOperator OfBatches ps refl in let b = no_more OfClients OfBatches ps refl in let c = no_more OfSetup OfBatches ps refl in let d = no_more OfChunks OfBatches ps refl in
      let e = yes OfBatches OfBatches ps refl in let f = no_more OfAttempts OfBatches ps refl in let g = no_more OfClearing OfBatches ps refl in omega (arith, a, b, c, d, e, f, g)
  more OfAttempts =
      let a = no_more OfOperator OfAttempts ps refl in let b = no_more OfClients OfAttempts ps refl in let c = no_more OfSetup OfAttempts ps refl in let d = no_more OfChunks OfAttempts ps refl in
      let e = no_more OfBatches OfAttempts ps refl in let f = yes OfAttempts OfAttempts ps refl in let g = no_more OfClearing OfAttempts ps refl in omega (arith, a, b, c, d, e, f, g)
  more OfClearing =
      let a = no_more OfOperator OfClearing ps refl in let b = no_more OfClients OfClearing ps refl in let c = no_more OfSetup OfClearing ps refl in let d = no_more OfChunks OfClearing ps refl in
      let e = no_more OfBatches OfClearing ps refl in let f = no_more OfAttempts OfClearing ps refl in let g = yes OfClearing OfClearing ps refl in omega (arith, a, b, c, d, e, f, g)

all_counted : (ps : List Part) → length ps ≡ total ps
all_counted [] = refl
all_counted (one ∷ ps) = let a = all_counted ps in let b = more ps one in omega (arith, a, b)

-- *Parts make a journal*
pub parts_make : PartsMakeJournals
unfolding parts
parts_make plan journal = sym (parts_length plan [] journal) ∙ all_counted (gathered (one_part plan) [] journal)
