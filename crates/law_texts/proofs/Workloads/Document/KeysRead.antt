-- The keys of a workload's document are in range, and say what they say.
use Rattle.std.proofs.Common.{◌≡◌, ◌∙◌, ℕ, ◌+◌, ◌≤◌, Bool, false, cond, ◌||◌, nat_lt, List, [], ◌∷◌, length, Result, Ok, Err, refl, ap, arith}
use Rattle.std.proofs.lemmas.Bool.Decides.{nat_tests}
use Rattle.std.proofs.lemmas.List.FromFn.{length-map-range_with_len}
use Rattle.std.proofs.lemmas.List.Sums.{sum_by-cons}
use Rattle.base_values.specs.SchemaRules.Results.{◌>>=◌}
use Rattle.plan_keys.specs.Documents.{text_in}
use Rattle.plan_keys.specs.Known.{is_plan_key, is_table_key, is_number_key, is_truth_key, is_first_version}
use Rattle.plan_keys.specs.Options.{numbers_in, truths_in, within, options_within, version_two_in, version_two_within}
use Rattle.plan_keys.specs.PlanKeys.{KeyData, table_of, texts_of, typed_of, in_range, few, keys_of}
use Rattle.plan_keys.specs.Limits.{has_too_many, row_count as count}
use Rattle.plan_keys.specs.declared.fault.KeyRefusal.{KeyRefusal}
use Rattle.plan_keys.specs.declared.fault.KeyRefusal.TheVariants.{TooMany}
use Rattle.plan_keys.specs.declared.limits.TheConstants.{ROW_LIMIT}
use Rattle.plan_keys.specs.Walks.{each_item}
use Rattle.top_workload.specs.Workloads.{row_count, client_count}
use Rattle.law_texts.specs.Workloads.Document.Plans.{text_items, document, table_texts, texts, keys}
use Rattle.law_texts.specs.Workloads.Document.Texts.{row_texts, script_texts}

texts_read : (bytes : List (List ℕ)) → each_item text_in (text_items bytes) ≡ Ok bytes
unfolding each_item text_items
texts_read [] = refl
texts_read (text ∷ bytes) = rw (texts_read bytes) refl

pub row_texts_count : (number : ℕ) → length (row_texts number) ≡ row_count number
unfolding row_texts
row_texts_count number = length-map-range_with_len _ 0 (row_count number)

pub script_texts_count : (number : ℕ) → length (script_texts number) ≡ client_count number
unfolding script_texts
script_texts_count number = length-map-range_with_len _ 0 (client_count number)

few_rows : (number : ℕ) → nat_lt ROW_LIMIT (count (table_texts number ∷ [])) ≡ false
few_rows number =
    let total : count (table_texts number ∷ []) ≡ length (row_texts number) + 0 = sum_by-cons (λ table. length table.rows) (table_texts number) [] in
    let few : count (table_texts number ∷ []) ≤ 20000 = omega (arith, total, row_texts_count number) in
    grind (arith, nat_tests)

few_clients : (number : ℕ) → nat_lt 64 (length (script_texts number)) ≡ false
few_clients number = let few : length (script_texts number) ≤ 64 = omega (arith, script_texts_count number) in grind (arith, nat_tests)

none_many : (tables rows clients faults : Bool) → tables ≡ false → rows ≡ false → clients ≡ false → faults ≡ false → (tables || rows || clients || faults) ≡ false
none_many tables rows clients faults a b c d = rw (a, b, c, d) refl

few_enough : (number : ℕ) → has_too_many (texts number) ≡ false
few_enough number = none_many _ _ _ _ refl (few_rows number) (few_clients number) refl

in_its_range : (number : ℕ) → (typed_of (document number) >>= in_range) ≡ Ok (keys number)
unfolding numbers_in truths_in version_two_in version_two_within within options_within each_item table_of texts_of typed_of in_range
in_its_range number = rw (texts_read (row_texts number), texts_read (script_texts number)) refl

pub keys_read : (number : ℕ) → keys_of (document number) ≡ Ok (keys number)
unfolding is_plan_key is_table_key is_number_key is_truth_key is_first_version keys_of
keys_read number = ap (λ (read : Result KeyData KeyRefusal). read >>= few) (in_its_range number) ∙ ap (λ (many : Bool). cond many (Err TooMany) (Ok (keys number))) (few_enough number)
