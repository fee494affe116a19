-- The transactions that ended have no more lines than all scripts: each line of a client's script is of one of them at most, or of
-- its open one.
use Rattle.proof_bounds.proofs.Drawn.{drawn_length}
use Rattle.std.proofs.Common.{◌≡◌, ◌⊎◌, inl, inr, ◌≤◌, ◌<◌, ℕ, zero, suc, ◌+◌, ◌-◌, ◌==◌, Bool, true, false, cond, List, [], ◌∷◌, ◌++◌, length, Option, Some, None, refl, sym, ap, ◌∙◌, subst, arith}
use Rattle.std.specs.Prelude.{sum, map, unwrap_or}
use Rattle.std.specs.List.{slice_get}
use Rattle.std.proofs.lemmas.Bool.Decides.{nat_tests}
use Rattle.std.proofs.lemmas.List.{length-append}
use Rattle.std.proofs.lemmas.List.Sums.{sum_by-cons}
use Rattle.std.proofs.lemmas.Option.{slice_get_within}
use Rattle.base_script.specs.declared.actor.Actor.{Actor}
use Rattle.base_script.specs.declared.actor.Actor.TheVariants.{Op, Insp, Copy, Apply, Lock, Ren, Client}
use Rattle.base_script.specs.declared.script.ScriptLine.{ScriptLine}
use Rattle.server_model.specs.declared.answer.Answer.{Answer}
use Rattle.server_model.specs.declared.answer.Answer.TheVariants as answers
use Rattle.server_model.specs.declared.entry.Entry.{Entry}
use Rattle.server_model.specs.declared.request.Request.{Request}
use Rattle.server_model.specs.declared.transaction.Mark.{Mark}
use Rattle.server_model.specs.declared.transaction.Mark.TheVariants as marks
use Rattle.server_model.specs.declared.transaction.Reply.{Reply}
use Rattle.server_model.specs.declared.transaction.TxnEnd.{TxnEnd}
use Rattle.server_model.specs.declared.transaction.TxnEnd.TheVariants as ends
use Rattle.server_model.specs.declared.transaction.TxnLine.{TxnLine}
use Rattle.server_model.specs.Along.{gathered-more}
use Rattle.server_model.specs.Entries.{same_actor}
use Rattle.server_model.proofs.LockedRows.Tests.{same_number, are_one}
use Rattle.plan_data.specs.PlanData.{PlanData}
use Rattle.tool_program.specs.JournalWords.Bounds.{measures}
use Rattle.tool_program.specs.JournalWords.Clients.{Reached, Became, Nothing, Waits, Marked, Broken, is_inside, closes, after_transaction, left_after, ends_with, kept_unless, with_line, marked, client_after, became, script_of, client_at, with_draw}
use Rattle.tool_program.specs.JournalWords.Histories.{HistoryItem, Txn, Alter, about, answer_in, alters, adds, breaks, client_ends, ends_so, entry_adds, history, line_ends, renames_away}
use Rattle.proof_journals.proofs.Linking.{client_more}

-- LINES OF ENDED TRANSACTIONS

abbrev pub lines_of : HistoryItem → ℕ
lines_of (Txn past) = length past.txn.lines
lines_of Alter = 0

unfoldable pub all_lines : List HistoryItem → ℕ
all_lines [] = 0
all_lines (item ∷ items) = lines_of item + all_lines items

-- ... of one client
abbrev own_lines : ℕ → HistoryItem → ℕ
own_lines c (Txn past) = cond (past.client == c) (length past.txn.lines) 0
own_lines c Alter = 0

unfoldable pub all_own : ℕ → List HistoryItem → ℕ
all_own c [] = 0
all_own c (item ∷ items) = own_lines c item + all_own c items

own_both : (c : ℕ) (one two : List HistoryItem) → all_own c (one ++ two) ≡ all_own c one + all_own c two
unfolding all_own
own_both c [] two = omega arith
own_both c (item ∷ one) two = let a = own_both c one two in omega (arith, a)

-- ONE CLIENT

-- its lines are those of transactions that ended, of its open one, and those that are left
abbrev pub script_lines : PlanData → ℕ → ℕ
script_lines plan c = length (unwrap_or (script_of c plan) [])

abbrev pub IsListed : PlanData → ℕ → List Entry → Type 0
IsListed plan c journal = all_own c (history plan journal) + length (client_at plan journal c).lines + length (client_at plan journal c).left ≤ script_lines plan c

after_short : (lines : List ScriptLine) → length (after_transaction lines) ≤ length lines
after_short [] = omega arith
after_short (line ∷ lines) = by (closes line.word) (after_short lines) where
  by : (b : Bool) → length (after_transaction lines) ≤ length lines → length (cond b lines (after_transaction lines)) ≤ suc (length lines)
  by true less = omega arith
  by false less = omega (arith, less)

open_short : (line : ScriptLine) (lines : List ScriptLine) → length (after_transaction (line ∷ lines)) ≤ length lines
open_short line lines = by (closes line.word) (after_short lines) where
  by : (b : Bool) → length (after_transaction lines) ≤ length lines → length (cond b lines (after_transaction lines)) ≤ length lines
  by true less = omega arith
  by false less = less

pub left_short : (inside : Bool) (mark : Mark) (line : ScriptLine) (lines : List ScriptLine) → length (left_after inside mark line lines) ≤ length lines
left_short true marks.TimedOut line lines = open_short line lines
left_short true marks.Answered line lines = omega arith
left_short true (marks.Lost side) line lines = omega arith
left_short false mark line lines = omega arith

-- what it had, and what it has with what ended
abbrev Had : Reached → ℕ
Had client = length client.lines + length client.left

drawn_had : (draw : Option ℕ) (client : Reached) → Had (with_draw draw client) ≡ Had client
drawn_had None client = refl
drawn_had (Some number) client = ap (λ (left : ℕ). length client.lines + left) (drawn_length (Some number) client)

one_ended : (c : ℕ) (client : Reached) (line : ScriptLine) (mark : Mark) (reply : Option Reply) (ended : Option TxnEnd) → ends_with (is_inside client.lines) line.word mark ≡ ended → (lines : List ScriptLine)
    → all_own c (ends_so c client line mark reply ended) + Had (marked client mark reply (line ∷ lines)) ≤ length client.lines + suc (length lines)
unfolding all_own
one_ended c client line mark reply None is lines =
    let kept : (marked client mark reply (line ∷ lines)).lines ≡ with_line client line.word mark = ap (λ (e : Option TxnEnd). kept_unless e (with_line client line.word mark)) is in
    let long : length (marked client mark reply (line ∷ lines)).lines ≡ length client.lines + 1 = ap length kept ∙ length-append client.lines (record { word = line.word; mark = mark } ∷ []) in
    let short = left_short (is_inside client.lines) mark line lines in
    omega (arith, long, short)
one_ended c client line mark reply (Some ended) is lines =
    let none : (marked client mark reply (line ∷ lines)).lines ≡ [] = ap (λ (e : Option TxnEnd). kept_unless e (with_line client line.word mark)) is in
    let long : length (with_line client line.word mark) ≡ length client.lines + 1 = length-append client.lines (record { word = line.word; mark = mark } ∷ []) in
    let counted : own_lines c (Txn (record { client = c; number = 0; txn = record { lines = with_line client line.word mark; ended = ended }; replies = [] })) ≡ length (with_line client line.word mark) =
    ap (λ (b : Bool). cond b (length (with_line client line.word mark)) 0) (same_number c) in
    let gone : length (marked client mark reply (line ∷ lines)).lines ≡ 0 = ap length none in
    let short = left_short (is_inside client.lines) mark line lines in
    omega (arith, long, counted, gone, short)

line_ended : (c : ℕ) (client : Reached) (mark : Mark) (reply : Option Reply) (left : List ScriptLine) → client.left ≡ left → all_own c (line_ends c client mark reply left) + Had (marked client mark reply left) ≤ length client.lines + length left
unfolding all_own
line_ended c client mark reply [] is = let none : length client.left ≡ 0 = ap length is in omega (arith, none)
line_ended c client mark reply (line ∷ lines) is = one_ended c client line mark reply (ends_with (is_inside client.lines) line.word mark) refl lines

broken_ended : (c : ℕ) (client : Reached) (lines : List TxnLine) → client.lines ≡ lines → all_own c (breaks c client (is_inside lines)) ≤ length lines
unfolding all_own
broken_ended c client [] is = omega arith
broken_ended c client (line ∷ lines) is =
    let counted : cond (c == c) (length client.lines) 0 ≡ length client.lines = ap (λ (b : Bool). cond b (length client.lines) 0) (same_number c) in
    let long : length client.lines ≡ suc (length lines) = ap length is in
    omega (arith, counted, long)

client_ended : (c : ℕ) (client : Reached) (became : Became) → all_own c (client_ends c client became) + Had (client_after became client) ≤ Had client
unfolding all_own
client_ended c client Nothing = omega arith
client_ended c client Waits = omega arith
client_ended c client (Marked mark reply) = line_ended c client mark reply client.left refl
client_ended c client Broken = let a = broken_ended c client client.lines refl in omega (arith, a)

-- what ends in another's turn
other_line : (c number : ℕ) (client : Reached) (line : ScriptLine) (mark : Mark) (reply : Option Reply) (ended : Option TxnEnd) → (number == c) ≡ false → all_own c (ends_so number client line mark reply ended) ≡ 0
unfolding all_own
other_line c number client line mark reply None other = refl
other_line c number client line mark reply (Some ended) other = ap (λ (b : Bool). cond b (length (with_line client line.word mark)) 0 + 0) other

other_left : (c number : ℕ) (client : Reached) (mark : Mark) (reply : Option Reply) (left : List ScriptLine) → (number == c) ≡ false → all_own c (line_ends number client mark reply left) ≡ 0
unfolding all_own
other_left c number client mark reply [] other = refl
other_left c number client mark reply (line ∷ lines) other = other_line c number client line mark reply (ends_with (is_inside client.lines) line.word mark) other

other_broken : (c number : ℕ) (client : Reached) (inside : Bool) → (number == c) ≡ false → all_own c (breaks number client inside) ≡ 0
unfolding all_own
other_broken c number client false other = refl
other_broken c number client true other = ap (λ (b : Bool). cond b (length client.lines) 0 + 0) other

other_ended : (c number : ℕ) (client : Reached) (became : Became) → (number == c) ≡ false → all_own c (client_ends number client became) ≡ 0
unfolding all_own
other_ended c number client Nothing other = refl
other_ended c number client Waits other = refl
other_ended c number client (Marked mark reply) other = other_left c number client mark reply client.left other
other_ended c number client Broken other = other_broken c number client (is_inside client.lines) other

none_altered : (plan : PlanData) (c : ℕ) (asks : Option Request) (answer : Option Answer) → all_own c (alters plan asks answer) ≡ 0
unfolding all_own
none_altered plan c asks (Some (answers.Ok count)) = by (renames_away plan.table asks) where
  by : (b : Bool) → all_own c (cond b (Alter ∷ []) []) ≡ 0
  by true = refl
  by false = refl
none_altered plan c asks None = refl
none_altered plan c asks (Some other) = refl

module _ (plan : PlanData) (journal : List Entry) (entry : Entry) (c : ℕ) where
  others_add : (actor : Actor) → same_actor actor (Client c) ≡ false → all_own c (adds plan journal entry actor) ≡ 0
  others_add (Client number) other = other_ended c number (with_draw entry.draw (client_at plan journal number)) (became (client_at plan journal number) entry) other
  others_add Op other = none_altered plan c (about journal entry) (answer_in entry.asked entry.side entry.answer entry.missed)
  others_add Insp other = none_altered plan c (about journal entry) (answer_in entry.asked entry.side entry.answer entry.missed)
  others_add Copy other = none_altered plan c (about journal entry) (answer_in entry.asked entry.side entry.answer entry.missed)
  others_add Apply other = none_altered plan c (about journal entry) (answer_in entry.asked entry.side entry.answer entry.missed)
  others_add Lock other = none_altered plan c (about journal entry) (answer_in entry.asked entry.side entry.answer entry.missed)
  others_add Ren other = none_altered plan c (about journal entry) (answer_in entry.asked entry.side entry.answer entry.missed)

  own_adds : (actor : Actor) → same_actor actor (Client c) ≡ true → all_own c (adds plan journal entry actor) + Had (client_after (became (client_at plan journal c) entry) (with_draw entry.draw (client_at plan journal c))) ≤ Had (client_at plan journal c)
  own_adds (Client number) own =
      subst (λ (n : ℕ). all_own c (adds plan journal entry (Client n)) + Had (client_after (became (client_at plan journal c) entry) (with_draw entry.draw (client_at plan journal c))) ≤ Had (client_at plan journal c)) (sym (are_one number c own))
      (subst (λ (had : ℕ). all_own c (adds plan journal entry (Client c)) + Had (client_after (became (client_at plan journal c) entry) (with_draw entry.draw (client_at plan journal c))) ≤ had) (drawn_had entry.draw (client_at plan journal c))
      (client_ended c (with_draw entry.draw (client_at plan journal c)) (became (client_at plan journal c) entry)))
  own_adds Op own = absurd cc
  own_adds Insp own = absurd cc
  own_adds Copy own = absurd cc
  own_adds Apply own = absurd cc
  own_adds Lock own = absurd cc
  own_adds Ren own = absurd cc

  listed_more : IsListed plan c journal → IsListed plan c (journal ++ entry ∷ [])
  unfolding history
  listed_more listed = by (same_actor entry.actor (Client c)) refl where
    more : List Entry
    more = journal ++ entry ∷ []

    client : Reached
    client = client_at plan journal c

    items : all_own c (history plan more) ≡ all_own c (history plan journal) + all_own c (adds plan journal entry entry.actor)
    items = ap (all_own c) (gathered-more (entry_adds plan) [] journal entry) ∙ own_both c (history plan journal) (entry_adds plan journal entry)

    client_is : (b : Bool) → same_actor entry.actor (Client c) ≡ b → Had (client_at plan more c) ≡ Had (cond b (client_after (became client entry) (with_draw entry.draw client)) client)
    client_is b is = ap Had (client_more plan journal entry c) ∙ ap (λ (s : Bool). Had (cond s (client_after (became client entry) (with_draw entry.draw client)) client)) is

    by : (b : Bool) → same_actor entry.actor (Client c) ≡ b → IsListed plan c more
    by true own = let a = items in let b = client_is true own in let d = own_adds entry.actor own in omega (arith, listed, a, b, d)
    by false other = let a = items in let b = client_is false other in let d = others_add entry.actor other in omega (arith, listed, a, b, d)

listed_from : (plan : PlanData) (c : ℕ) (before journal : List Entry) → IsListed plan c before → IsListed plan c (before ++ journal)
listed_from plan c before [] listed = subst (IsListed plan c) (sym (none before)) listed where
  none : (xs : List Entry) → xs ++ [] ≡ xs
  none [] = refl
  none (x ∷ xs) = ap (λ (l : List Entry). x ∷ l) (none xs)
listed_from plan c before (entry ∷ journal) listed = subst (IsListed plan c) (step before) (listed_from plan c (before ++ entry ∷ []) journal (listed_more plan before entry c listed)) where
  step : (xs : List Entry) → (xs ++ entry ∷ []) ++ journal ≡ xs ++ (entry ∷ journal)
  step [] = refl
  step (x ∷ xs) = ap (λ (l : List Entry). x ∷ l) (step xs)

-- *Each line is listed once*
pub all_listed : (plan : PlanData) (c : ℕ) (journal : List Entry) → IsListed plan c journal
unfolding client_at history all_own
all_listed plan c journal = listed_from plan c [] journal (none (script_lines plan c)) where
  none : (n : ℕ) → 0 + 0 + n ≤ n
  none n = omega arith

-- ALL CLIENTS

-- a sum over the clients from this number on
abbrev sum_from : (ℕ → ℕ) → ℕ → List (List ScriptLine) → ℕ
sum_from f n [] = 0
sum_from f n (script ∷ scripts) = f n + sum_from f (n + 1) scripts

one_most : (f : ℕ → ℕ) (n i : ℕ) (scripts : List (List ScriptLine)) → i < length scripts → f (n + i) ≤ sum_from f n scripts
one_most f n i [] within = absurd (never i within) where
  never : (i : ℕ) → i < 0 → ⊥
  never i within = omega (arith, within)
one_most f n zero (script ∷ scripts) within = subst (λ (k : ℕ). f k ≤ f n + sum_from f (n + 1) scripts) (sym (none n)) (omega arith) where
  none : (n : ℕ) → n + 0 ≡ n
  none n = omega arith
one_most f n (suc i) (script ∷ scripts) within =
    let a = subst (λ (k : ℕ). f k ≤ sum_from f (n + 1) scripts) (sym (next n i)) (one_most f (n + 1) i scripts (below i (length scripts) within)) in
    omega (arith, a) where
      next : (n i : ℕ) → n + suc i ≡ n + 1 + i
      next n i = omega arith

      below : (i m : ℕ) → suc i < suc m → i < m
      below i m less = omega (arith, less)

sum_both : (f g h : ℕ → ℕ) → ((c : ℕ) → h c ≡ f c + g c) → (n : ℕ) (scripts : List (List ScriptLine)) → sum_from h n scripts ≡ sum_from f n scripts + sum_from g n scripts
sum_both f g h each n [] = refl
sum_both f g h each n (script ∷ scripts) = let a = sum_both f g h each (n + 1) scripts in let b = each n in omega (arith, a, b)

sum_most : (f : ℕ → ℕ) (n : ℕ) (scripts : List (List ScriptLine)) → ((i : ℕ) (script : List ScriptLine) → slice_get scripts i ≡ Some script → f (n + i) ≤ length script) → sum_from f n scripts ≤ sum (map (λ (script : List ScriptLine). length script) scripts)
sum_most f n [] each = omega arith
sum_most f n (script ∷ scripts) each =
    let a = subst (λ (k : ℕ). f k ≤ length script) (none n) (each 0 script refl) in
    let b = sum_most f (n + 1) scripts (λ i one is. subst (λ (k : ℕ). f k ≤ length one) (next n i) (each (suc i) one is)) in
    let c = sum_by-cons (λ (k : ℕ). k) (length script) (map (λ (script : List ScriptLine). length script) scripts) in
    omega (arith, a, b, c) where
      none : (n : ℕ) → n + 0 ≡ n
      none n = omega arith

      next : (n i : ℕ) → n + suc i ≡ n + 1 + i
      next n i = omega arith

script_at : (plan : PlanData) (i : ℕ) → script_of (suc i) plan ≡ slice_get plan.clients i
script_at plan i = ap (λ (b : Bool). cond {A = Option (List ScriptLine)} b None (slice_get plan.clients (suc i - 1))) (not_zero i) ∙ ap (slice_get plan.clients) (less i) where
  not_zero : (i : ℕ) → (suc i == 0) ≡ false
  not_zero i = grind (arith, nat_tests)

  less : (i : ℕ) → suc i - 1 ≡ i
  less i = omega arith

-- a client is one of the plan's, or has no line
abbrev OneOf : PlanData → ℕ → Type 0
OneOf plan c = ((i : ℕ) × (i < length plan.clients) × (c ≡ 1 + i)) ⊎ (script_lines plan c ≡ 0)

one_of : (plan : PlanData) (c : ℕ) → OneOf plan c
one_of plan zero = inr refl
one_of plan (suc i) = by (slice_get plan.clients i) refl where
  by : (script : Option (List ScriptLine)) → slice_get plan.clients i ≡ script → OneOf plan (suc i)
  by None none = inr (ap (λ (s : Option (List ScriptLine)). length (unwrap_or s [])) (script_at plan i ∙ none))
  by (Some script) some = inl (i, slice_get_within plan.clients i script some, (let same : suc i ≡ 1 + i = omega arith in same))

item_most : (plan : PlanData) (item : HistoryItem) → ((c : ℕ) → own_lines c item ≤ script_lines plan c) → lines_of item ≤ sum_from (λ (c : ℕ). own_lines c item) 1 plan.clients
item_most plan Alter each = omega arith
item_most plan (Txn past) each = by (one_of plan past.client) where
  own : own_lines past.client (Txn past) ≡ length past.txn.lines
  own = ap (λ (b : Bool). cond b (length past.txn.lines) 0) (same_number past.client)

  by : OneOf plan past.client → length past.txn.lines ≤ sum_from (λ (c : ℕ). own_lines c (Txn past)) 1 plan.clients
  by (inl one) =
      let a : own_lines past.client (Txn past) ≤ sum_from (λ (c : ℕ). own_lines c (Txn past)) 1 plan.clients =
      subst (λ (c : ℕ). own_lines c (Txn past) ≤ sum_from (λ (c : ℕ). own_lines c (Txn past)) 1 plan.clients) (sym one.2) (one_most (λ (c : ℕ). own_lines c (Txn past)) 1 one.0 plan.clients one.1) in
      let b = own in
      omega (arith, a, b)
  by (inr none) = let a = each past.client in let b = own in omega (arith, a, b, none)

items_most : (plan : PlanData) (items : List HistoryItem) → ((c : ℕ) → all_own c items ≤ script_lines plan c) → all_lines items ≤ sum_from (λ (c : ℕ). all_own c items) 1 plan.clients
unfolding all_lines all_own
items_most plan [] each = omega arith
items_most plan (item ∷ items) each =
    let a = item_most plan item (λ c. let less = each c in omega (arith, less)) in
    let b = items_most plan items (λ c. let less = each c in omega (arith, less)) in
    let c = sum_both (λ (c : ℕ). own_lines c item) (λ (c : ℕ). all_own c items) (λ (c : ℕ). own_lines c item + all_own c items) (λ c. refl) 1 plan.clients in
    omega (arith, a, b, c)

-- *No more lines than all scripts have*
pub lines_most : (plan : PlanData) (items : List HistoryItem) → ((c : ℕ) → all_own c items ≤ script_lines plan c) → all_lines items ≤ (measures plan).lines
unfolding measures
lines_most plan items each =
    let a = items_most plan items each in
    let b = sum_most (λ (c : ℕ). all_own c items) 1 plan.clients (λ i script is. short i script is (each (suc i))) in
    omega (arith, a, b) where
      short : (i : ℕ) (script : List ScriptLine) → slice_get plan.clients i ≡ Some script → all_own (suc i) items ≤ script_lines plan (suc i) → all_own (1 + i) items ≤ length script
      short i script is less =
          let long : script_lines plan (suc i) ≡ length script = ap (λ (s : Option (List ScriptLine)). length (unwrap_or s [])) (script_at plan i ∙ is) in
          let same : suc i ≡ 1 + i = omega arith in
          subst (λ (c : ℕ). all_own c items ≤ length script) same (omega (arith, less, long))

-- the transactions that ended, and any client's open one
pub open_lines : (plan : PlanData) (journal : List Entry) (c : ℕ) → all_lines (history plan journal) + length (client_at plan journal c).lines ≤ (measures plan).lines
unfolding all_lines all_own
open_lines plan journal c =
    let going : HistoryItem = Txn (record { client = c; number = 0; txn = record { lines = (client_at plan journal c).lines; ended = ends.Committed }; replies = [] }) in
    let all = lines_most plan (going ∷ history plan journal) (λ n. with_open n (c == n) refl) in
    omega (arith, all) where
      with_open : (n : ℕ) (b : Bool) → (c == n) ≡ b → cond (c == n) (length (client_at plan journal c).lines) 0 + all_own n (history plan journal) ≤ script_lines plan n
      with_open n true is =
          let here : cond (c == n) (length (client_at plan journal c).lines) 0 ≡ length (client_at plan journal c).lines = ap (λ (b : Bool). cond b (length (client_at plan journal c).lines) 0) is in
          let listed : IsListed plan n journal = all_listed plan n journal in
          let same : length (client_at plan journal c).lines ≡ length (client_at plan journal n).lines = ap (λ (k : ℕ). length (client_at plan journal k).lines) (are_one c n is) in
          omega (arith, here, listed, same)
      with_open n false is =
          let here : cond (c == n) (length (client_at plan journal c).lines) 0 ≡ 0 = ap (λ (b : Bool). cond b (length (client_at plan journal c).lines) 0) is in
          let listed : IsListed plan n journal = all_listed plan n journal in
          omega (arith, here, listed)
