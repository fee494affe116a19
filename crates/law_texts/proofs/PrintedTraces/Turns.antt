-- A printed turn is read as that turn.
use Rattle.std.proofs.Common.{◌≡◌, ◌∙◌, ℕ, ◌<◌, ◌≤◌, ◌^◌, ◌==◌, Bool, true, false, nat_lt, nat_eq, List, [], ◌∷◌, ◌++◌, length, get_or, Option, Some, None, refl, sym, ap, subst, codes, arith, append-nil, append_assoc}
use Rattle.std.specs.Char.{is_ascii_digit}
use Rattle.std.specs.Fmt.{decimal}
use Rattle.std.specs.List.{list_all}
use Rattle.std.specs.Str.{bytes_eq}
use Rattle.std.specs.Str.Parse.{digits_value}
use Rattle.std.proofs.lemmas.Bool.{and_from, and_parts}
use Rattle.std.proofs.lemmas.Bool.Decides.{nat_tests}
use Rattle.std.proofs.lemmas.Fmt.{decimal_digit, decimal_nonempty, digits_value-decimal, first_decimal}
use Rattle.law_texts.proofs.Numerals.{numerals, are_digits}
use Rattle.base_script.specs.declared.actor.Actor.{Actor}
use Rattle.base_script.specs.declared.actor.Actor.TheVariants as actors
use Rattle.base_script.specs.declared.actor.Side.{Side}
use Rattle.base_script.specs.declared.actor.Side.TheVariants.{Before, After}
use Rattle.plan_orders.specs.Actors.{actor_among}
use Rattle.top_report.specs.Turns.{actor_word}
use Rattle.top_words.specs.Numbers.{below_2_64, is_number, number_of}
use Rattle.top_trace.specs.Texts.{answer_text, asked_text, drawn_text, side_text}
use Rattle.run_audit.specs.declared.line.LineAsked.{LineAsked}
use Rattle.run_audit.specs.declared.line.LineAsked.TheVariants as asks
use Rattle.run_audit.specs.declared.line.LineAnswer.{LineAnswer}
use Rattle.run_audit.specs.declared.line.LineAnswer.TheVariants as answers
use Rattle.run_audit.specs.declared.line.TraceLine.{TraceLine}
use Rattle.top_trace_reader.specs.declared.answers.AnswerRead.{AnswerRead}
use Rattle.top_trace_reader.specs.declared.turns.TurnRead.{TurnRead}
use Rattle.top_trace_reader.specs.Lines.{is_journal}
use Rattle.top_trace_reader.specs.Turns.{answer_in, asked_in, drawn_answer, fits, may_draw, missed_answer, numbered_answer, paired_answer, single_answer, turn_in, turn_of}
use Rattle.law_texts.specs.TurnOrders.{IsOf}
use Rattle.law_texts.specs.PrintedTraces.{CanDraw, CanHaveSide, CanPrintAnswer, CanPrintTurn}
use Rattle.law_texts.proofs.TurnOrders.Words.{actor_read, among}
use Rattle.law_texts.proofs.PrintedTraces.Lines.{Avoids, avoids-append, avoids-decimal, avoids-known, parts, parts-alone, parts-first}

-- ---- numbers

nonzero_is : (digits : List ℕ) → list_all is_ascii_digit digits ≡ true → 0 < length digits → 48 < get_or digits 0 0 → is_number digits ≡ true
nonzero_is [] are some first = absurd (omega arith)
nonzero_is (digit ∷ []) are some first = (and_parts (is_ascii_digit digit) true are).0
nonzero_is (digit ∷ next ∷ digits) are some first = let nonzero : (digit == 48) ≡ false = grind (arith, nat_tests) in rw nonzero are

is_printed : (n : ℕ) (b : Bool) → (n == 0) ≡ b → n < 2 ^ 64 → is_number (decimal n) ≡ true
is_printed n true zero wide = let none : n ≡ 0 = grind (arith, nat_tests) in rw none (ap is_number (decimal_digit 0 (omega arith)))
is_printed n false some wide = let more : 0 < n = grind (arith, nat_tests) in nonzero_is (decimal n) (are_digits n wide) (decimal_nonempty n wide) (first_decimal n more wide)

-- a number that is printed is read
pub number_read : (n : ℕ) → n < 2 ^ 64 → number_of (decimal n) ≡ Some n
number_read n wide =
    let below : nat_lt n (2 ^ 64) ≡ true = grind (arith, nat_tests) in
    let value : below_2_64 (digits_value 10 (decimal n)) ≡ Some n = ap below_2_64 (digits_value-decimal numerals n wide) ∙ rw below refl in
    rw (is_printed n (n == 0) refl wide) value

-- ---- words

abbrev is_dark : ℕ → Bool
is_dark byte = nat_lt 32 byte

-- no byte of the word parts words or lines
abbrev IsWord : List ℕ → Type 0
IsWord word = list_all is_dark word ≡ true

avoids-word : (mark : ℕ) (word : List ℕ) → mark ≤ 32 → IsWord word → Avoids mark word
avoids-word mark [] low is = tt
avoids-word mark (byte ∷ word) low is =
    let both = and_parts (is_dark byte) (list_all is_dark word) is in
    let high : nat_lt 32 byte ≡ true = both.0 in
    let other : (byte == mark) ≡ false = grind (arith, nat_tests) in
    (other, avoids-word mark word low both.1)

word_both : (one other : List ℕ) → IsWord one → IsWord other → IsWord (one ++ other)
word_both [] other first second = second
word_both (byte ∷ one) other first second =
    let both = and_parts (is_dark byte) (list_all is_dark one) first in
    and_from (is_dark byte) (list_all is_dark (one ++ other)) both.0 (word_both one other both.1 second)

dark_digit : (digit : ℕ) → is_ascii_digit digit ≡ true → is_dark digit ≡ true
dark_digit digit is = grind (arith, nat_tests)

word_digits : (digits : List ℕ) → list_all is_ascii_digit digits ≡ true → IsWord digits
word_digits [] are = refl
word_digits (digit ∷ digits) are =
    let both = and_parts (is_ascii_digit digit) (list_all is_ascii_digit digits) are in
    and_from (is_dark digit) (list_all is_dark digits) (dark_digit digit both.0) (word_digits digits both.1)

word_decimal : (n : ℕ) → n < 2 ^ 64 → IsWord (decimal n)
word_decimal n wide = word_digits (decimal n) (are_digits n wide)

-- ---- the actor

word_actor : (clients : ℕ) (actor : Actor) → clients < 2 ^ 32 → IsOf clients actor → IsWord (actor_word actor)
unfolding actor_word
word_actor clients actors.Op few is = refl
word_actor clients actors.Insp few is = refl
word_actor clients actors.Copy few is = refl
word_actor clients actors.Apply few is = refl
word_actor clients actors.Lock few is = refl
word_actor clients actors.Ren few is = refl
word_actor clients (actors.Client number) few is = word_decimal number (let most : number ≤ clients = is.1 in omega (arith, most, few))

among_read : (clients : ℕ) (actor : Actor) → clients < 2 ^ 32 → IsOf clients actor → actor_among clients (actor_word actor) ≡ Some actor
among_read clients actor few is = rw (actor_read clients actor few is, among clients actor is) refl

-- ---- what was asked

asked_read : (asked : LineAsked) (side : Option Side) → CanHaveSide asked side → asked_in (asked_text asked ++ side_text side) ≡ Some (asked, side)
unfolding asked_in asked_text side_text
asked_read asks.Call None can = refl
asked_read asks.Call (Some Before) can = refl
asked_read asks.Call (Some After) can = refl
asked_read asks.Rename None can = refl
asked_read asks.Rename (Some Before) can = refl
asked_read asks.Rename (Some After) can = refl
asked_read asks.Poll None can = refl
asked_read asks.Poll (Some Before) can = refl
asked_read asks.Poll (Some After) can = refl
asked_read asks.Cut None can = refl
asked_read asks.Cut (Some side) can = absurd cc
asked_read asks.Word None can = refl
asked_read asks.Word (Some side) can = absurd cc

word_asked : (asked : LineAsked) → IsWord (asked_text asked)
unfolding asked_text
word_asked asks.Call = refl
word_asked asks.Rename = refl
word_asked asks.Poll = refl
word_asked asks.Cut = refl
word_asked asks.Word = refl

word_side : (side : Option Side) → IsWord (side_text side)
unfolding side_text
word_side None = refl
word_side (Some Before) = refl
word_side (Some After) = refl

-- ---- what was answered

abbrev answer_words : LineAnswer → List (List ℕ)
answer_words (answers.Ok count) = codes "ok" ∷ decimal count ∷ []
answer_words (answers.Error number) = codes "error" ∷ decimal number ∷ []
answer_words (answers.Rows rows) = codes "rows" ∷ decimal (length rows) ∷ []
answer_words (answers.Waits by) = codes "waits" ∷ decimal by ∷ []
answer_words (answers.TimedOut waited) = codes "timeout" ∷ decimal waited ∷ []
answer_words answers.Lost = codes "lost" ∷ []
answer_words answers.LostDone = codes "lost" ∷ codes "done" ∷ []
answer_words answers.LostWaited = codes "lost" ∷ codes "waited" ∷ []
answer_words answers.LostRefused = codes "lost" ∷ codes "refused" ∷ []
answer_words answers.Other = codes "other" ∷ []

abbrev drawn_words : Option ℕ → List (List ℕ)
drawn_words None = []
drawn_words (Some number) = codes "id" ∷ decimal number ∷ []

-- a number that was drawn has 64 bits
abbrev IsDrawn : Option ℕ → Type 0
IsDrawn None = Unit {0}
IsDrawn (Some number) = number < 2 ^ 64

is_drawn : (answer : LineAnswer) (drawn : Option ℕ) → CanDraw answer drawn → IsDrawn drawn
is_drawn answer None can = tt
is_drawn answer (Some number) can = can.1

-- a word and what was drawn
parts_last : (word : List ℕ) (drawn : Option ℕ) → IsWord word → IsDrawn drawn → parts 32 (word ++ drawn_text drawn) ≡ word ∷ drawn_words drawn
unfolding drawn_text
parts_last word None is can = ap (parts 32) (append-nil word) ∙ parts-alone 32 word (avoids-word 32 word (omega arith) is)
parts_last word (Some number) is can =
    parts-first 32 word (codes "id " ++ decimal number) (avoids-word 32 word (omega arith) is)
    ∙ ap (λ (more : List (List ℕ)). word ∷ more) (parts-first 32 (codes "id") (decimal number) (avoids-word 32 (codes "id") (omega arith) refl)
    ∙ ap (λ (more : List (List ℕ)). codes "id" ∷ more) (parts-alone 32 (decimal number) (avoids-word 32 (decimal number) (omega arith) (word_decimal number can))))

parts_two : (first second : List ℕ) (drawn : Option ℕ) → IsWord first → IsWord second → IsDrawn drawn → parts 32 (first ++ 32 ∷ (second ++ drawn_text drawn)) ≡ first ∷ second ∷ drawn_words drawn
parts_two first second drawn is also can =
    parts-first 32 first (second ++ drawn_text drawn) (avoids-word 32 first (omega arith) is) ∙ ap (λ (more : List (List ℕ)). first ∷ more) (parts_last second drawn also can)

parts_answer : (answer : LineAnswer) (drawn : Option ℕ) → CanPrintAnswer answer → IsDrawn drawn → parts 32 (answer_text answer ++ drawn_text drawn) ≡ answer_words answer ++ drawn_words drawn
unfolding answer_text
parts_answer (answers.Ok count) drawn small can = parts_two (codes "ok") (decimal count) drawn refl (word_decimal count small) can
parts_answer (answers.Error number) drawn small can = parts_two (codes "error") (decimal number) drawn refl (word_decimal number small) can
parts_answer (answers.Rows rows) drawn small can = parts_two (codes "rows") (decimal (length rows)) drawn refl (word_decimal (length rows) small.0) can
parts_answer (answers.Waits by) drawn small can = parts_two (codes "waits") (decimal by) drawn refl (word_decimal by small) can
parts_answer (answers.TimedOut waited) drawn small can = parts_two (codes "timeout") (decimal waited) drawn refl (word_decimal waited small) can
parts_answer answers.Lost drawn small can = parts_last (codes "lost") drawn refl can
parts_answer answers.LostDone drawn small can = parts_two (codes "lost") (codes "done") drawn refl refl can
parts_answer answers.LostWaited drawn small can = parts_two (codes "lost") (codes "waited") drawn refl refl can
parts_answer answers.LostRefused drawn small can = parts_two (codes "lost") (codes "refused") drawn refl refl can
parts_answer answers.Other drawn small can = parts_last (codes "other") drawn refl can

-- the answer as the turn's own line has it: its rows come after the line
abbrev pub without_rows : LineAnswer → LineAnswer
without_rows (answers.Rows rows) = answers.Rows []
without_rows answer = answer

abbrev pub row_count : LineAnswer → ℕ
row_count (answers.Rows rows) = length rows
row_count answer = 0

abbrev answer_read : LineAnswer → Option ℕ → AnswerRead
answer_read answer drawn = record { answer = without_rows answer; rows = row_count answer; drawn = drawn }

-- a word and a number are this answer
numbered : (word : List ℕ) (number : ℕ) (answer : LineAnswer) → number < 2 ^ 64 → bytes_eq word (codes "lost") ≡ false → numbered_answer word number ≡ Some (answer_read answer None) → paired_answer word (decimal number) ≡ Some (answer_read answer None)
unfolding paired_answer
numbered word number answer small other is = rw (other, number_read number small) is

drawn_too : (first second : List ℕ) (answer : LineAnswer) (number : ℕ) → number < 2 ^ 64 → may_draw (without_rows answer) ≡ true → paired_answer first second ≡ Some (answer_read answer None)
    → answer_in (first ∷ second ∷ codes "id" ∷ decimal number ∷ []) ≡ Some (answer_read answer (Some number))
unfolding answer_in drawn_answer
drawn_too first second answer number small may is = rw (is, number_read number small) (rw may refl)

two_read : (first second : List ℕ) (answer : LineAnswer) (drawn : Option ℕ) → IsDrawn drawn → CanDraw (without_rows answer) drawn → paired_answer first second ≡ Some (answer_read answer None)
    → answer_in (first ∷ second ∷ drawn_words drawn) ≡ Some (answer_read answer drawn)
unfolding answer_in
two_read first second answer None small can is = is
two_read first second answer (Some number) small can is = drawn_too first second answer number small can.0 is

answer_is : (answer : LineAnswer) (drawn : Option ℕ) → CanPrintAnswer answer → CanDraw answer drawn → answer_in (answer_words answer ++ drawn_words drawn) ≡ Some (answer_read answer drawn)
unfolding answer_in single_answer missed_answer numbered_answer paired_answer
answer_is (answers.Ok count) drawn small can = two_read (codes "ok") (decimal count) (answers.Ok count) drawn (is_drawn (answers.Ok count) drawn can) can (numbered (codes "ok") count (answers.Ok count) small refl refl)
answer_is (answers.Error number) drawn small can = two_read (codes "error") (decimal number) (answers.Error number) drawn (is_drawn (answers.Error number) drawn can) can (numbered (codes "error") number (answers.Error number) small refl refl)
answer_is (answers.Rows rows) None small can = numbered (codes "rows") (length rows) (answers.Rows rows) small.0 refl refl
answer_is (answers.Rows rows) (Some number) small can = absurd (let no : false ≡ true = can.0 in cc)
answer_is (answers.Waits by) None small can = numbered (codes "waits") by (answers.Waits by) small refl refl
answer_is (answers.Waits by) (Some number) small can = absurd (let no : false ≡ true = can.0 in cc)
answer_is (answers.TimedOut waited) None small can = numbered (codes "timeout") waited (answers.TimedOut waited) small refl refl
answer_is (answers.TimedOut waited) (Some number) small can = absurd (let no : false ≡ true = can.0 in cc)
answer_is answers.Lost None small can = refl
answer_is answers.Lost (Some number) small can = absurd (let no : false ≡ true = can.0 in cc)
answer_is answers.LostDone drawn small can = two_read (codes "lost") (codes "done") answers.LostDone drawn (is_drawn answers.LostDone drawn can) can refl
answer_is answers.LostWaited None small can = refl
answer_is answers.LostWaited (Some number) small can = absurd (let no : false ≡ true = can.0 in cc)
answer_is answers.LostRefused None small can = refl
answer_is answers.LostRefused (Some number) small can = absurd (let no : false ≡ true = can.0 in cc)
answer_is answers.Other None small can = refl
answer_is answers.Other (Some number) small can = absurd (let no : false ≡ true = can.0 in cc)

-- ---- the turn's own line

-- the line without its line feed
abbrev pub turn_text : ℕ → TraceLine → List ℕ
turn_text turn line = decimal turn ++ codes " " ++ actor_word line.actor ++ codes " " ++ asked_text line.asked ++ side_text line.side ++ codes " " ++ answer_text line.answer ++ drawn_text line.drawn

turned : (number actor asked side answer drawn : List ℕ)
    → number ++ codes " " ++ actor ++ codes " " ++ asked ++ side ++ codes " " ++ answer ++ drawn ≡ number ++ 32 ∷ (actor ++ 32 ∷ ((asked ++ side) ++ 32 ∷ (answer ++ drawn)))
turned number actor asked side answer drawn = simp append_assoc

abbrev turn_words : ℕ → TraceLine → List (List ℕ)
turn_words turn line = decimal turn ∷ actor_word line.actor ∷ (asked_text line.asked ++ side_text line.side) ∷ (answer_words line.answer ++ drawn_words line.drawn)

turn_parts : (clients turn : ℕ) (line : TraceLine) → clients < 2 ^ 32 → turn < 2 ^ 64 → CanPrintTurn clients line → parts 32 (turn_text turn line) ≡ turn_words turn line
turn_parts clients turn line few wide can =
    let drawn = is_drawn line.answer line.drawn can.draw in
    let asked : List ℕ = asked_text line.asked ++ side_text line.side in
    let answer : List ℕ = answer_text line.answer ++ drawn_text line.drawn in
    ap (parts 32) (turned (decimal turn) (actor_word line.actor) (asked_text line.asked) (side_text line.side) (answer_text line.answer) (drawn_text line.drawn))
    ∙ parts-first 32 (decimal turn) (actor_word line.actor ++ 32 ∷ (asked ++ 32 ∷ answer)) (avoids-word 32 (decimal turn) (omega arith) (word_decimal turn wide))
    ∙ ap (λ (more : List (List ℕ)). decimal turn ∷ more)
    (parts-first 32 (actor_word line.actor) (asked ++ 32 ∷ answer) (avoids-word 32 (actor_word line.actor) (omega arith) (word_actor clients line.actor few can.its))
    ∙ ap (λ (more : List (List ℕ)). actor_word line.actor ∷ more)
    (parts-first 32 asked answer (avoids-word 32 asked (omega arith) (word_both (asked_text line.asked) (side_text line.side) (word_asked line.asked) (word_side line.side)))
    ∙ ap (λ (more : List (List ℕ)). asked ∷ more) (parts_answer line.answer line.drawn can.numbers drawn)))

-- ---- it is read

fits_without : (actor : Actor) (side : Option Side) (answer : LineAnswer) → fits actor side (without_rows answer) ≡ fits actor side answer
fits_without actor None (answers.Ok count) = refl
fits_without actor None (answers.Error number) = refl
fits_without actor None (answers.Rows rows) = refl
fits_without actor None (answers.Waits by) = refl
fits_without actor None (answers.TimedOut waited) = refl
fits_without actor None answers.Lost = refl
fits_without actor None answers.LostDone = refl
fits_without actor None answers.LostWaited = refl
fits_without actor None answers.LostRefused = refl
fits_without actor None answers.Other = refl
fits_without actor (Some Before) (answers.Ok count) = refl
fits_without actor (Some Before) (answers.Error number) = refl
fits_without actor (Some Before) (answers.Rows rows) = refl
fits_without actor (Some Before) (answers.Waits by) = refl
fits_without actor (Some Before) (answers.TimedOut waited) = refl
fits_without actor (Some Before) answers.Lost = refl
fits_without actor (Some Before) answers.LostDone = refl
fits_without actor (Some Before) answers.LostWaited = refl
fits_without actor (Some Before) answers.LostRefused = refl
fits_without actor (Some Before) answers.Other = refl
fits_without actor (Some After) (answers.Ok count) = refl
fits_without actor (Some After) (answers.Error number) = refl
fits_without actor (Some After) (answers.Rows rows) = refl
fits_without actor (Some After) (answers.Waits by) = refl
fits_without actor (Some After) (answers.TimedOut waited) = refl
fits_without actor (Some After) answers.Lost = refl
fits_without actor (Some After) answers.LostDone = refl
fits_without actor (Some After) answers.LostWaited = refl
fits_without actor (Some After) answers.LostRefused = refl
fits_without actor (Some After) answers.Other = refl

-- what is read of the turn's own line
abbrev pub own_line : TraceLine → TurnRead
own_line line = record { line = record { actor = line.actor; asked = line.asked; side = line.side; answer = without_rows line.answer; drawn = line.drawn }; rows = row_count line.answer }

same_number : (n : ℕ) → nat_eq n n ≡ true
same_number n = grind (arith, nat_tests)

own_read : (clients : ℕ) (line : TraceLine) → clients < 2 ^ 32 → CanPrintTurn clients line
    → turn_of clients (actor_word line.actor) (asked_text line.asked ++ side_text line.side) (answer_words line.answer ++ drawn_words line.drawn) ≡ Some (own_line line)
unfolding turn_of
own_read clients line few can =
    rw (among_read clients line.actor few can.its, asked_read line.asked line.side can.beside, answer_is line.answer line.drawn can.numbers can.draw)
    (rw (fits_without line.actor line.side line.answer ∙ can.fitting) refl)

pub turn_is_read : (clients turn : ℕ) (line : TraceLine) → clients < 2 ^ 32 → turn < 2 ^ 64 → CanPrintTurn clients line → turn_in clients turn (parts 32 (turn_text turn line)) ≡ Some (own_line line)
unfolding turn_in
turn_is_read clients turn line few wide can =
    ap (turn_in clients turn) (turn_parts clients turn line few wide can) ∙ rw (number_read turn wide) (rw (same_number turn) (own_read clients line few can))

-- ---- it is one line, and not the line `#journal`

avoids_answer : (answer : LineAnswer) → CanPrintAnswer answer → Avoids 10 (answer_text answer)
unfolding answer_text
avoids_answer (answers.Ok count) small = avoids-append 10 (codes "ok ") _ (avoids-known 10 (codes "ok ") refl) (avoids-decimal 10 count (omega arith) small)
avoids_answer (answers.Error number) small = avoids-append 10 (codes "error ") _ (avoids-known 10 (codes "error ") refl) (avoids-decimal 10 number (omega arith) small)
avoids_answer (answers.Rows rows) small = avoids-append 10 (codes "rows ") _ (avoids-known 10 (codes "rows ") refl) (avoids-decimal 10 (length rows) (omega arith) small.0)
avoids_answer (answers.Waits by) small = avoids-append 10 (codes "waits ") _ (avoids-known 10 (codes "waits ") refl) (avoids-decimal 10 by (omega arith) small)
avoids_answer (answers.TimedOut waited) small = avoids-append 10 (codes "timeout ") _ (avoids-known 10 (codes "timeout ") refl) (avoids-decimal 10 waited (omega arith) small)
avoids_answer answers.Lost small = avoids-known 10 (codes "lost") refl
avoids_answer answers.LostDone small = avoids-known 10 (codes "lost done") refl
avoids_answer answers.LostWaited small = avoids-known 10 (codes "lost waited") refl
avoids_answer answers.LostRefused small = avoids-known 10 (codes "lost refused") refl
avoids_answer answers.Other small = avoids-known 10 (codes "other") refl

avoids_drawn : (drawn : Option ℕ) → IsDrawn drawn → Avoids 10 (drawn_text drawn)
unfolding drawn_text
avoids_drawn None can = tt
avoids_drawn (Some number) can = avoids-append 10 (codes " id ") (decimal number) (avoids-known 10 (codes " id ") refl) (avoids-decimal 10 number (omega arith) can)

blank_then : (text : List ℕ) → Avoids 10 text → Avoids 10 (32 ∷ text)
blank_then text avoids = (refl, avoids)

pub turn_is_line : (clients turn : ℕ) (line : TraceLine) → clients < 2 ^ 32 → turn < 2 ^ 64 → CanPrintTurn clients line → Avoids 10 (turn_text turn line)
turn_is_line clients turn line few wide can =
    let asked : List ℕ = asked_text line.asked ++ side_text line.side in
    let answer : List ℕ = answer_text line.answer ++ drawn_text line.drawn in
    let asked_is : Avoids 10 asked = avoids-word 10 asked (omega arith) (word_both (asked_text line.asked) (side_text line.side) (word_asked line.asked) (word_side line.side)) in
    let answer_is : Avoids 10 answer = avoids-append 10 (answer_text line.answer) (drawn_text line.drawn) (avoids_answer line.answer can.numbers) (avoids_drawn line.drawn (is_drawn line.answer line.drawn can.draw)) in
    subst (Avoids 10) (sym (turned (decimal turn) (actor_word line.actor) (asked_text line.asked) (side_text line.side) (answer_text line.answer) (drawn_text line.drawn)))
    (avoids-append 10 (decimal turn) (32 ∷ (actor_word line.actor ++ 32 ∷ (asked ++ 32 ∷ answer))) (avoids-decimal 10 turn (omega arith) wide) (blank_then (actor_word line.actor ++ 32 ∷ (asked ++ 32 ∷ answer))
    (avoids-append 10 (actor_word line.actor) (32 ∷ (asked ++ 32 ∷ answer)) (avoids-word 10 (actor_word line.actor) (omega arith) (word_actor clients line.actor few can.its)) (blank_then (asked ++ 32 ∷ answer)
    (avoids-append 10 asked (32 ∷ answer) asked_is (blank_then answer answer_is))))))

digit_first : (digits rest : List ℕ) → list_all is_ascii_digit digits ≡ true → 0 < length digits → is_journal (digits ++ rest) ≡ false
digit_first [] rest are some = absurd (omega arith)
digit_first (digit ∷ digits) rest are some =
    let is : is_ascii_digit digit ≡ true = (and_parts (is_ascii_digit digit) (list_all is_ascii_digit digits) are).0 in
    let other : nat_eq digit 35 ≡ false = grind (arith, nat_tests) in
    rw other refl

pub turn_is_no_journal : (turn : ℕ) (line : TraceLine) → turn < 2 ^ 64 → is_journal (turn_text turn line) ≡ false
turn_is_no_journal turn line wide =
    ap is_journal (turned (decimal turn) (actor_word line.actor) (asked_text line.asked) (side_text line.side) (answer_text line.answer) (drawn_text line.drawn))
    ∙ digit_first (decimal turn) (32 ∷ (actor_word line.actor ++ 32 ∷ ((asked_text line.asked ++ side_text line.side) ++ 32 ∷ (answer_text line.answer ++ drawn_text line.drawn)))) (are_digits turn wide) (decimal_nonempty turn wide)
