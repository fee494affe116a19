-- Lists of turns beside their entries, and what the rule says of a list.
use Rattle.std.proofs.Common.{◌≡◌, ◌<◌, ℕ, true, false, List, [], ◌∷◌, ◌++◌, length, map, refl, sym, ap, ◌∙◌, subst, append_assoc, append-nil}
use Rattle.std.specs.List.{zip, All}
use Rattle.std.proofs.lemmas.Bool.{true≢false}
use Rattle.std.proofs.lemmas.List.{length-map, map-append}
use Rattle.std.proofs.lemmas.List.Elements.{All-head, All-tail}
use Rattle.std.proofs.lemmas.Simd.{map-map}
use Rattle.server_model.specs.Along.{Along}
use Rattle.server_model.specs.declared.entry.Entry.{Entry}
use Rattle.plan_data.specs.PlanData.{PlanData}
use Rattle.tool_program.specs.Orders.{WorkerTurn, Paired, IsWorkersTurn, RunOrder}
use Rattle.run_desk.specs.declared.shared_state.Entry.{Entry as Taken}
use Rattle.run_turns.specs.Runs.{is_over, Stops}
use Rattle.run_workers.specs.WorkerRun.WorkedRuns.{turn_of, turns_of, journal_of, paired_of, taken_of, listed, IsByRule, WasOver}

-- LISTS

zip_maps : {X A B : Type 0} (f : X → A) (g : X → B) (xs : List X) → zip (map f xs) (map g xs) ≡ map (λ x. (f x, g x)) xs
zip_maps f g [] = refl
zip_maps f g (x ∷ xs) = ap (λ rest. (f x, g x) ∷ rest) (zip_maps f g xs)

zip_more : {A B : Type 0} (xs : List A) (ys : List B) (x : A) (y : B) → length xs ≡ length ys → zip (xs ++ x ∷ []) (ys ++ y ∷ []) ≡ zip xs ys ++ (x, y) ∷ []
zip_more [] [] x y same = refl
zip_more [] (first ∷ ys) x y same = absurd (cc)
zip_more (first ∷ xs) [] x y same = absurd (cc)
zip_more (first ∷ xs) (other ∷ ys) x y same = let rest : length xs ≡ length ys = cc in ap (λ more. (first, other) ∷ more) (zip_more xs ys x y rest)

-- one turn more
pub journal_more : (list : List (Taken Entry)) (taken : Taken Entry) → journal_of (list ++ taken ∷ []) ≡ journal_of list ++ taken.event ∷ []
journal_more list taken = map-append (λ (one : Taken Entry). one.event) list (taken ∷ [])

pub turns_more : (list : List (Taken Entry)) (taken : Taken Entry) → turns_of (list ++ taken ∷ []) ≡ turns_of list ++ turn_of taken ∷ []
turns_more list taken = map-append turn_of list (taken ∷ [])

pub paired_more : (list : List (Taken Entry)) (taken : Taken Entry) → paired_of (list ++ taken ∷ []) ≡ paired_of list ++ (turn_of taken, taken.event) ∷ []
paired_more list taken = map-append (λ (one : Taken Entry). (turn_of one, one.event)) list (taken ∷ [])

-- the entries of the pairs are the journal
pub paired_entries : (list : List (Taken Entry)) → map (λ (pair : Paired). pair.1) (paired_of list) ≡ journal_of list
paired_entries list = map-map (λ (pair : Paired). pair.1) (λ (one : Taken Entry). (turn_of one, one.event)) list

-- turns beside a journal are as many as its entries
pub listed_length : (turns : List WorkerTurn) (journal : List Entry) → journal_of (listed turns journal) ≡ journal → turns_of (listed turns journal) ≡ turns → length turns ≡ length journal
listed_length turns journal entries takers =
    sym (ap length takers) ∙ length-map (listed turns journal) turn_of ∙ sym (length-map (listed turns journal) (λ (one : Taken Entry). one.event)) ∙ ap length entries

pub listed_more : (turns : List WorkerTurn) (journal : List Entry) (turn : WorkerTurn) (entry : Entry) → length turns ≡ length journal → listed (turns ++ turn ∷ []) (journal ++ entry ∷ []) ≡ listed turns journal ++ taken_of (turn, entry) ∷ []
listed_more turns journal turn entry same = ap (map taken_of) (zip_more turns journal turn entry same) ∙ map-append taken_of (zip turns journal) ((turn, entry) ∷ [])

-- WHERE THE RUN WAS OVER

-- it wasn't before a turn that stands in the list
not_over : (plan : PlanData) (count : ℕ) (before list : List (Taken Entry)) → Along (IsByRule plan count) before list → (front : List Entry) (entry : Entry) (rest : List Entry) → journal_of list ≡ front ++ entry ∷ rest → is_over plan (journal_of before ++ front) ≡ false
not_over plan count before [] kept [] entry rest is = absurd (cc)
not_over plan count before [] kept (first ∷ front) entry rest is = absurd (cc)
not_over plan count before (taken ∷ list) kept [] entry rest is = subst (λ (journal : List Entry). is_over plan journal ≡ false) (sym (append-nil (journal_of before))) kept.0.going
not_over plan count before (taken ∷ list) kept (first ∷ front) entry rest is =
    let same : taken.event ≡ first = cc in
    let tail : journal_of list ≡ front ++ entry ∷ rest = cc in
    let all : journal_of (before ++ taken ∷ []) ++ front ≡ journal_of before ++ first ∷ front =
    ap (λ (journal : List Entry). journal ++ front) (journal_more before taken) ∙ append_assoc (journal_of before) (taken.event ∷ []) front ∙ ap (λ (one : Entry). journal_of before ++ one ∷ front) same in
    subst (λ (journal : List Entry). is_over plan journal ≡ false) all (not_over plan count (before ++ taken ∷ []) list kept.1 front entry rest tail)

-- no turn was taken where it was
pub stopped : (plan : PlanData) (count : ℕ) (list : List (Taken Entry)) → Along (IsByRule plan count) [] list → Stops plan (journal_of list)
unfolding Stops
stopped plan count list kept = by [] list kept
  where
    by : (before list : List (Taken Entry)) → Along (IsByRule plan count) before list → Along (λ (front : List Entry) (entry : Entry). is_over plan front ≡ false) (journal_of before) (journal_of list)
    by before [] kept = tt
    by before (taken ∷ list) kept = (
      kept.0.going,
      subst (λ (front : List Entry). Along (λ (one : List Entry) (entry : Entry). is_over plan one ≡ false) front (journal_of list)) (journal_more before taken) (by (before ++ taken ∷ []) list kept.1),
    )

-- where it was over it is over
pub was_over : (plan : PlanData) (count : ℕ) (list : List (Taken Entry)) → Along (IsByRule plan count) [] list → WasOver plan (journal_of list) → is_over plan (journal_of list) ≡ true
was_over plan count list kept was = by was.rest refl
  where
    by : (rest : List Entry) → was.rest ≡ rest → is_over plan (journal_of list) ≡ true
    by [] none = subst (λ (journal : List Entry). is_over plan journal ≡ true) (sym (was.is ∙ ap (λ (rest : List Entry). was.front ++ rest) none ∙ append-nil was.front)) was.over
    by (entry ∷ rest) is = absurd (true≢false (sym was.over ∙ not_over plan count [] list kept was.front entry rest (was.is ∙ ap (λ (more : List Entry). was.front ++ more) is)))

pub over_now : (plan : PlanData) (journal : List Entry) → is_over plan journal ≡ true → WasOver plan journal
over_now plan journal over = record { front = journal; rest = []; is = sym (append-nil journal); over = over }

-- RUN ORDER

along_pairs : (plan : PlanData) (count : ℕ) (before list : List (Taken Entry)) → Along (IsByRule plan count) before list → All (λ taken. taken.worker < count) list → Along (IsWorkersTurn plan count) (paired_of before) (paired_of list)
along_pairs plan count before [] kept below = tt
along_pairs plan count before (taken ∷ list) kept below = (
  record { below = All-head (λ (one : Taken Entry). one.worker < count) taken list below; next = kept.0.next },
  subst (λ (pairs : List Paired). Along (IsWorkersTurn plan count) pairs (paired_of list)) (paired_more before taken)
      (along_pairs plan count (before ++ taken ∷ []) list kept.1 (All-tail (λ (one : Taken Entry). one.worker < count) taken list below)),
)

-- a list by the rule, whose workers' numbers are below their count, is in run order
pub run_ordered : (plan : PlanData) (count : ℕ) (list : List (Taken Entry)) → Along (IsByRule plan count) [] list → All (λ taken. taken.worker < count) list → RunOrder plan (journal_of list) (turns_of list) count
run_ordered plan count list kept below = record {
  actors = map-map (λ (turn : WorkerTurn). turn.actor) turn_of list ∙ sym (map-map (λ (entry : Entry). entry.actor) (λ (one : Taken Entry). one.event) list);
  each = subst (Along (IsWorkersTurn plan count) []) (sym (zip_maps turn_of (λ (one : Taken Entry). one.event) list)) (along_pairs plan count [] list kept below);
}
