-- Reading the log event by event, as a loop does.
use Rattle.std.proofs.Common.{◌≡◌, ℕ, zero, suc, ◌+◌, ◌<◌, ◌≤◌, ◌==◌, Bool, true, false, cond, List, [], ◌∷◌, ◌++◌, length, map, take, drop, get_or, refl, sym, ap, ◌∙◌, append_assoc, arith}
use Rattle.std.proofs.Math.Dec.{eqb-suc-suc}
use Rattle.std.proofs.lemmas.Bool.{ne_eqb, cond-false}
use Rattle.std.specs.List.{count_by}
use Rattle.std.proofs.lemmas.List.{append-nil, drop_all, drop_more}
use Rattle.std.proofs.lemmas.List.Sums.{sum_by-drop_more}
use Rattle.base_values.specs.declared.event.RowEvent.{RowEvent}
use Rattle.server_model.specs.declared.answer.Answer.{Answer}
use Rattle.server_model.specs.declared.answer.Answer.TheVariants as answers
use Rattle.server_model.specs.States.{is_of}
use Rattle.server_model.specs.Listings.{ReadEvent, read_from, after_last, events_read}

-- what is read where these events were read, so many more are asked for, and these stand behind
abbrev pub going_on : ℕ → ℕ → List RowEvent → List ReadEvent → Answer
going_on more end events left =
    answers.Events (events ++ map (λ read. read.event) (take more left)) (cond (length (take more left) == more) (after_last 0 (take more left)) end)

-- the same, of the rest of a log from this place on
abbrev pub reads_on : ℕ → List (List ℕ) → List RowEvent → ℕ → List RowEvent → Answer
reads_on more tables log place events = going_on more (length log) events (read_from tables place (drop place log))

events_same : (x y : List RowEvent) (m n : ℕ) → x ≡ y → m ≡ n → answers.Events x m ≡ answers.Events y n
events_same x y m n p q = ap (λ xs. answers.Events xs m) p ∙ ap (λ k. answers.Events y k) q

one_more : (k end : ℕ) (events : List RowEvent) (read : ReadEvent) (others : List ReadEvent) → going_on (suc k) end (events ++ read.event ∷ []) others ≡ going_on (suc (suc k)) end events (read ∷ others)
one_more k end events read [] =
    let one : (0 == suc k) ≡ false = ne_eqb 0 (suc k) (λ e. omega (arith, e)) in
    let two : (1 == suc (suc k)) ≡ false = ne_eqb 1 (suc (suc k)) (λ e. omega (arith, e)) in
    events_same _ _ _ _ (append-nil (events ++ read.event ∷ []))
    (cond-false (0 == suc k) 0 end one ∙ sym (cond-false (1 == suc (suc k)) read.following end two))
one_more k end events read (next ∷ others) =
    events_same _ _ _ _ (append_assoc events (read.event ∷ []) (map (λ read. read.event) (take (suc k) (next ∷ others))))
    (ap (λ t. cond t (after_last 0 (take (suc k) (next ∷ others))) end) (sym (eqb-suc-suc (length (take (suc k) (next ∷ others))) (suc k))))

-- the rest of a log from a place on
rest_at : (log : List RowEvent) (place : ℕ) (event : RowEvent) → place < length log → event ≡ get_or log place event → drop place log ≡ event ∷ drop (place + 1) log
rest_at log place event within is = drop_more log place event within ∙ ap (λ e. e ∷ drop (place + 1) log) (sym is)

-- nothing was read yet
pub starts : (more position limit : ℕ) (tables : List (List ℕ)) (log events : List RowEvent) → events ≡ [] → more ≡ limit → reads_on more tables log position events ≡ events_read position limit tables log
unfolding events_read
starts more position limit tables log events none all = rw (none, all) refl

-- an event of another table
pub skips : (more place : ℕ) (tables : List (List ℕ)) (log events : List RowEvent) (event : RowEvent) → place < length log → event ≡ get_or log place event → is_of tables event ≡ false → reads_on more tables log (place + 1) events ≡ reads_on more tables log place events
unfolding read_from
skips more place tables log events event within is fails = rw (rest_at log place event within is, fails) refl

-- an event of these tables, behind which more are asked for
takes_one : (k place : ℕ) (tables : List (List ℕ)) (log events : List RowEvent) (event : RowEvent) → place < length log → event ≡ get_or log place event → is_of tables event ≡ true
    → reads_on (suc k) tables log (place + 1) (events ++ event ∷ []) ≡ reads_on (suc (suc k)) tables log place events
unfolding read_from
takes_one k place tables log events event within is passes =
    one_more k (length log) events (record { event = event; following = place + 1 }) (read_from tables (place + 1) (drop (place + 1) log)) ∙ rw (rest_at log place event within is, passes) refl

pub takes : (more less place : ℕ) (tables : List (List ℕ)) (log events : List RowEvent) (event : RowEvent) → more ≡ suc less → 1 ≤ less → place < length log → event ≡ get_or log place event → is_of tables event ≡ true
    → reads_on less tables log (place + 1) (events ++ event ∷ []) ≡ reads_on more tables log place events
takes more zero place tables log events event one some within is passes = absurd (omega arith)
takes more (suc k) place tables log events event one some within is passes = rw one (takes_one k place tables log events event within is passes)

-- the last event that is asked for
pub fills : (more place : ℕ) (tables : List (List ℕ)) (log events : List RowEvent) (event : RowEvent) → more ≡ 1 → place < length log → event ≡ get_or log place event → is_of tables event ≡ true
    → answers.Events (events ++ event ∷ []) (place + 1) ≡ reads_on more tables log place events
unfolding read_from
fills more place tables log events event one within is passes = rw (one, rest_at log place event within is, passes) refl

-- no event is left
pub ends : (more place : ℕ) (tables : List (List ℕ)) (log events : List RowEvent) → 1 ≤ more → length log ≤ place → answers.Events events (length log) ≡ reads_on more tables log place events
unfolding read_from
ends zero place tables log events some over = absurd (omega arith)
ends (suc k) place tables log events some over =
    let none : (0 == suc k) ≡ false = ne_eqb 0 (suc k) (λ e. omega (arith, e)) in
    rw (drop_all place log over) (events_same _ _ _ _ (sym (append-nil events)) (sym (cond-false (0 == suc k) 0 (length log) none)))

-- HOW MANY ARE READ

counts_one : (tables : List (List ℕ)) (log : List RowEvent) (place : ℕ) (event : RowEvent) → place < length log → event ≡ get_or log place event → count_by (is_of tables) (drop place log) ≡ cond (is_of tables event) 1 0 + count_by (is_of tables) (drop (place + 1) log)
counts_one tables log place event within is =
    sum_by-drop_more (λ (one : RowEvent). cond (is_of tables one) 1 0) log place event within ∙ ap (λ (one : RowEvent). cond (is_of tables one) 1 0 + count_by (is_of tables) (drop (place + 1) log)) (sym is)

-- an event of another table isn't counted
pub counts_skip : (tables : List (List ℕ)) (log : List RowEvent) (place : ℕ) (event : RowEvent) → place < length log → event ≡ get_or log place event → is_of tables event ≡ false → count_by (is_of tables) (drop place log) ≡ 0 + count_by (is_of tables) (drop (place + 1) log)
counts_skip tables log place event within is fails = counts_one tables log place event within is ∙ ap (λ (b : Bool). cond b 1 0 + count_by (is_of tables) (drop (place + 1) log)) fails

-- an event of these tables is
pub counts_take : (tables : List (List ℕ)) (log : List RowEvent) (place : ℕ) (event : RowEvent) → place < length log → event ≡ get_or log place event → is_of tables event ≡ true → count_by (is_of tables) (drop place log) ≡ 1 + count_by (is_of tables) (drop (place + 1) log)
counts_take tables log place event within is passes = counts_one tables log place event within is ∙ ap (λ (b : Bool). cond b 1 0 + count_by (is_of tables) (drop (place + 1) log)) passes

-- behind the last event none is
pub counts_end : (tables : List (List ℕ)) (log : List RowEvent) (place : ℕ) → length log ≤ place → count_by (is_of tables) (drop place log) ≡ 0
counts_end tables log place past = ap (λ (rest : List RowEvent). count_by (is_of tables) rest) (drop_all place log past)
