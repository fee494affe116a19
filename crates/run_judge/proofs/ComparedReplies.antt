-- Replies that are compared one by one.
use Rattle.std.proofs.Common.{◌≡◌, ℕ, zero, suc, ◌+◌, ◌<◌, ◌≤◌, ◌&&◌, Bool, true, false, cond, List, [], ◌∷◌, ◌++◌, length, get_or, drop, Option, Some, None, refl, sym, ap, ◌∙◌, add-one, drop-cons, arith}
use Rattle.std.specs.Prelude.{option_to_list, slice_get}
use Rattle.std.proofs.lemmas.List.{drop_all}
use Rattle.base_values.specs.declared.value.Value.{Value}
use Rattle.server_model.specs.declared.transaction.Reply.{Reply}
use Rattle.server_model.specs.Rows.{same_row}
use Rattle.run_audit.specs.Audits.{least, least_with, mismatches, same_reply, same_rows}
use Rattle.run_judge.specs.declared.replies.TurnReply.{TurnReply}
use Rattle.run_judge.specs.Replies.{is_reply, replies_of, reply_as, turns_of}
use Rattle.run_judge.proofs.LeastTurns.{least-moved}

-- ---- rows

and_false : (b : Bool) → (b && false) ≡ false
and_false true = refl
and_false false = refl

pub rows_apart : (rows others : List (List Value)) → (length rows ≡ length others → ⊥) → same_rows rows others ≡ false
unfolding same_rows
rows_apart [] [] apart = absurd (apart refl)
rows_apart [] (other ∷ others) apart = refl
rows_apart (row ∷ rows) [] apart = refl
rows_apart (row ∷ rows) (other ∷ others) apart = rw (rows_apart rows others (λ same. apart (omega (arith, same)))) (and_false (same_row row other))

-- what is left from a place on
next_left : {A : Type 0} (xs : List A) (i : ℕ) (x : A) → i < length xs → x ≡ get_or xs i x → drop i xs ≡ x ∷ drop (i + 1) xs
next_left xs i x within at = drop-cons xs i x within ∙ ap (λ y. y ∷ drop (suc i) xs) (sym at) ∙ ap (λ (n : ℕ). x ∷ drop n xs) (sym (add-one i))

pub rows_step : (rows others : List (List Value)) (i : ℕ) (row other : List Value) → i < length rows → i < length others → row ≡ get_or rows i row → other ≡ get_or others i other → same_rows (drop i rows) (drop i others) ≡ (same_row row other && same_rows (drop (i + 1) rows) (drop (i + 1) others))
unfolding same_rows
rows_step rows others i row other within inside is too =
    ap (λ (all : List (List Value)). same_rows all (drop i others)) (next_left rows i row within is)
    ∙ ap (λ (all : List (List Value)). same_rows (row ∷ drop (i + 1) rows) all) (next_left others i other inside too)

-- a row that differs decides
pub rows_differ : (rows others : List (List Value)) (i : ℕ) (row other : List Value) → i < length rows → length rows ≡ length others → row ≡ get_or rows i row → other ≡ get_or others i other → same_row row other ≡ false
    → same_rows (drop i rows) (drop i others) ≡ same_rows rows others → false ≡ same_rows rows others
rows_differ rows others i row other within same is too apart all =
    sym (rows_step rows others i row other within (omega (arith, within, same)) is too ∙ ap (λ (b : Bool). b && same_rows (drop (i + 1) rows) (drop (i + 1) others)) apart) ∙ all

-- after one that doesn't the others decide
pub rows_go_on : (rows others : List (List Value)) (i : ℕ) (row other : List Value) → i < length rows → length rows ≡ length others → row ≡ get_or rows i row → other ≡ get_or others i other → same_row row other ≡ true
    → same_rows (drop i rows) (drop i others) ≡ same_rows rows others → same_rows (drop (i + 1) rows) (drop (i + 1) others) ≡ same_rows rows others
rows_go_on rows others i row other within same is too agree all =
    sym (rows_step rows others i row other within (omega (arith, within, same)) is too ∙ ap (λ (b : Bool). b && same_rows (drop (i + 1) rows) (drop (i + 1) others)) agree) ∙ all

none_same : (rows others : List (List Value)) → rows ≡ [] → others ≡ [] → same_rows rows others ≡ true
unfolding same_rows
none_same [] [] none too = refl
none_same [] (other ∷ others) none too = absurd (cc)
none_same (row ∷ rows) others none too = absurd (cc)

pub rows_end : (rows others : List (List Value)) (i : ℕ) → length rows ≡ length others → length rows ≤ i → same_rows (drop i rows) (drop i others) ≡ true
rows_end rows others i same past = none_same (drop i rows) (drop i others) (drop_all i rows past) (drop_all i others (omega (arith, same, past)))

-- ---- replies

-- the turns that don't agree, and the least of these and of one more
abbrev pub worst_of : List TurnReply → List Reply → Option ℕ → Option ℕ
worst_of given alone worst = least (mismatches (turns_of given) (replies_of given) alone ++ option_to_list worst)

all_apart : (given : List TurnReply) → mismatches (turns_of given) (replies_of given) [] ≡ turns_of given
unfolding mismatches
all_apart [] = refl
all_apart (one ∷ given) = refl

drop_one : (alone : List Reply) (i : ℕ) → drop 1 (drop i alone) ≡ drop (suc i) alone
drop_one [] zero = refl
drop_one [] (suc i) = refl
drop_one (reply ∷ alone) zero = refl
drop_one (reply ∷ alone) (suc i) = drop_one alone i

get_zero : (alone : List Reply) (i : ℕ) → slice_get (drop i alone) 0 ≡ slice_get alone i
get_zero [] zero = refl
get_zero [] (suc i) = refl
get_zero (reply ∷ alone) zero = refl
get_zero (reply ∷ alone) (suc i) = get_zero alone i

abbrev step_of : TurnReply → List TurnReply → List Reply → Option ℕ → Bool → Option ℕ
step_of one given alone worst b = cond b (worst_of given alone worst) (worst_of given alone (least_with one.turn worst))

-- a turn that comes first may as well come last
least_front : (turn : ℕ) (turns : List ℕ) (worst : Option ℕ) → least (turn ∷ turns ++ option_to_list worst) ≡ least (turns ++ option_to_list (least_with turn worst))
unfolding least
least_front turn turns worst = least-moved turn turns worst

mismatches_step : (turn : ℕ) (turns : List ℕ) (reply other : Reply) (given alone : List Reply) → mismatches (turn ∷ turns) (reply ∷ given) (other ∷ alone) ≡ cond (same_reply reply other) (mismatches turns given alone) (turn ∷ mismatches turns given alone)
unfolding mismatches
mismatches_step turn turns reply other given alone = refl

front_by : (turn : ℕ) (rest : List ℕ) (worst : Option ℕ) (b : Bool) → least (cond b rest (turn ∷ rest) ++ option_to_list worst) ≡ cond b (least (rest ++ option_to_list worst)) (least (rest ++ option_to_list (least_with turn worst)))
front_by turn rest worst true = refl
front_by turn rest worst false = least_front turn rest worst

front : (one : TurnReply) (given : List TurnReply) (alone : List Reply) (worst : Option ℕ) → worst_of (one ∷ given) alone worst ≡ step_of one given (drop 1 alone) worst (is_reply (slice_get alone 0) one.reply)
front one given [] worst =
    ap (λ (turns : List ℕ). least (turns ++ option_to_list worst)) (all_apart (one ∷ given))
    ∙ least_front one.turn (turns_of given) worst
    ∙ ap (λ (turns : List ℕ). least (turns ++ option_to_list (least_with one.turn worst))) (sym (all_apart given))
front one given (other ∷ alone) worst =
    ap (λ (turns : List ℕ). least (turns ++ option_to_list worst)) (mismatches_step one.turn (turns_of given) (reply_as one.reply) other (replies_of given) alone)
    ∙ front_by one.turn (mismatches (turns_of given) (replies_of given) alone) worst (same_reply (reply_as one.reply) other)

-- one reply more is compared
pub mismatch_step : (given : List TurnReply) (alone : List Reply) (i : ℕ) (one : TurnReply) (worst : Option ℕ) → i < length given → one ≡ get_or given i one
    → worst_of (drop i given) (drop i alone) worst ≡ cond (is_reply (slice_get alone i) one.reply) (worst_of (drop (i + 1) given) (drop (i + 1) alone) worst) (worst_of (drop (i + 1) given) (drop (i + 1) alone) (least_with one.turn worst))
mismatch_step given alone i one worst within is =
    ap (λ (all : List TurnReply). worst_of all (drop i alone) worst) (next_left given i one within is)
    ∙ front one (drop (i + 1) given) (drop i alone) worst
    ∙ ap (λ (rest : List Reply). step_of one (drop (i + 1) given) rest worst (is_reply (slice_get (drop i alone) 0) one.reply)) (drop_one alone i ∙ ap (λ (n : ℕ). drop n alone) (sym (add-one i)))
    ∙ ap (λ (reply : Option Reply). step_of one (drop (i + 1) given) (drop (i + 1) alone) worst (is_reply reply one.reply)) (get_zero alone i)

abbrev after_one : List TurnReply → List Reply → ℕ → TurnReply → Option ℕ → Bool → Option ℕ
after_one given alone i one worst b = cond b (worst_of (drop (i + 1) given) (drop (i + 1) alone) worst) (worst_of (drop (i + 1) given) (drop (i + 1) alone) (least_with one.turn worst))

-- a reply that is another
pub reply_worse : (given : List TurnReply) (alone : List Reply) (i : ℕ) (one : TurnReply) (so_far now worst : Option ℕ) → i < length given → one ≡ get_or given i one → is_reply (slice_get alone i) one.reply ≡ false → now ≡ least_with one.turn so_far
    → worst_of (drop i given) (drop i alone) so_far ≡ worst_of given alone worst → worst_of (drop (i + 1) given) (drop (i + 1) alone) now ≡ worst_of given alone worst
reply_worse given alone i one so_far now worst within is apart now_is all =
    ap (worst_of (drop (i + 1) given) (drop (i + 1) alone)) now_is ∙ sym (mismatch_step given alone i one so_far within is ∙ ap (after_one given alone i one so_far) apart) ∙ all

-- a reply that agrees
pub reply_agrees : (given : List TurnReply) (alone : List Reply) (i : ℕ) (one : TurnReply) (so_far now worst : Option ℕ) → i < length given → one ≡ get_or given i one → is_reply (slice_get alone i) one.reply ≡ true → now ≡ so_far
    → worst_of (drop i given) (drop i alone) so_far ≡ worst_of given alone worst → worst_of (drop (i + 1) given) (drop (i + 1) alone) now ≡ worst_of given alone worst
reply_agrees given alone i one so_far now worst within is agree now_is all =
    ap (worst_of (drop (i + 1) given) (drop (i + 1) alone)) now_is ∙ sym (mismatch_step given alone i one so_far within is ∙ ap (after_one given alone i one so_far) agree) ∙ all

last_one : (worst : Option ℕ) → least (option_to_list worst) ≡ worst
unfolding least
last_one None = refl
last_one (Some turn) = refl

none_given : (alone : List Reply) → mismatches [] [] alone ≡ []
unfolding mismatches
none_given [] = refl
none_given (other ∷ alone) = refl

none_left : (given : List TurnReply) (alone : List Reply) (worst : Option ℕ) → given ≡ [] → worst_of given alone worst ≡ worst
none_left [] alone worst is = ap (λ (turns : List ℕ). least (turns ++ option_to_list worst)) (none_given alone) ∙ last_one worst
none_left (one ∷ given) alone worst is = absurd (cc)

pub mismatch_end : (given : List TurnReply) (alone : List Reply) (i : ℕ) (worst : Option ℕ) → length given ≤ i → worst_of (drop i given) (drop i alone) worst ≡ worst
mismatch_end given alone i worst past = none_left (drop i given) (drop i alone) worst (drop_all i given past)
