-- Of each transaction that is judged there are as many turns as replies, and as many replies as it has alone: a line that was
-- answered, or that timed out, has one reply, and a lost one has none.
use Rattle.std.proofs.Common.{◌≡◌, ℕ, ◌+◌, ◌-◌, ◌≤◌, Bool, true, false, not, ◌&&◌, cond, List, [], ◌∷◌, ◌++◌, length, Option, Some, None, refl, sym, ap, ◌∙◌, subst, append_assoc, arith}
use Rattle.std.specs.Prelude.{option_to_list}
use Rattle.std.specs.List.{AllByRecursion}
use Rattle.std.proofs.lemmas.List.{append-nil, length-append, length-drop}
use Rattle.base_values.proofs.SchemaRules.Lists.{All-append}
use Rattle.table_store.specs.Databases.{Database}
use Rattle.base_script.specs.declared.actor.Actor.{Actor}
use Rattle.base_script.specs.declared.actor.Actor.TheVariants.{Op, Insp, Copy, Apply, Lock, Ren, Client}
use Rattle.base_script.specs.declared.script.ScriptLine.{ScriptLine}
use Rattle.base_script.specs.declared.script.ScriptWord.{ScriptWord}
use Rattle.server_model.specs.declared.answer.Answer.{Answer}
use Rattle.server_model.specs.declared.answer.Answer.TheVariants as answers
use Rattle.server_model.specs.declared.transaction.Mark.{Mark}
use Rattle.server_model.specs.declared.transaction.Mark.TheVariants as marks
use Rattle.server_model.specs.declared.transaction.Reply.{Reply}
use Rattle.server_model.specs.declared.transaction.TxnEnd.{TxnEnd}
use Rattle.server_model.specs.declared.transaction.TxnEnd.TheVariants as ends
use Rattle.server_model.specs.declared.transaction.TxnLine.{TxnLine}
use Rattle.server_model.specs.Alone.{Ran, alone, line_events, line_replies, line_says, lines_run, nothing_ran, outcome_if, reply_of, stays}
use Rattle.server_model.specs.Along.{gathered, gathered-more}
use Rattle.server_model.specs.Entries.{same_actor}
use Rattle.server_model.specs.Operations.{after_events}
use Rattle.plan_data.specs.PlanData.{PlanData}
use Rattle.tool_program.specs.JournalWords.Clients.{Became, Nothing, Waits, Marked, Broken, Reached, client_after, cut_off, ends_with, is_inside, kept_unless, marked, number_of, with_draw, with_line, with_reply}
use Rattle.tool_program.specs.JournalWords.Histories.{breaks, client_ends, ends_so, line_ends, past_of}
use Rattle.proof_journals.proofs.Actors.{same_actor_itself}
use Rattle.proof_journals.proofs.Replies.{IsReply, line_replies_so}
use Rattle.run_audit.specs.declared.line.LineAsked.{LineAsked}
use Rattle.run_audit.specs.declared.line.LineAsked.TheVariants as asks
use Rattle.run_audit.specs.declared.line.LineAnswer.{LineAnswer}
use Rattle.run_audit.specs.declared.line.LineAnswer.TheVariants as line_answers
use Rattle.run_audit.specs.declared.line.TraceLine.{TraceLine}
use Rattle.run_audit.specs.Audits.{Judged, Ended, Altered, judged, judged_in, judged_of, last_of, reply_turn, reply_turn_in, reply_turns, straight_lines}
use Rattle.run_audit.specs.Rules.{alters_in, became_by, became_of_line, client_after_line, client_reached, client_step, has_altered, next_turn}
use Rattle.proof_audit.proofs.Clients.{reached_more}
use Rattle.proof_audit.proofs.Judging.{AreTimed}

-- ---- replies of lines

-- how many replies a line of this mark has
abbrev reply_count : Mark → ℕ
reply_count marks.Answered = 1
reply_count marks.TimedOut = 1
reply_count (marks.Lost side) = 0

unfoldable replies_count : List TxnLine → ℕ
replies_count [] = 0
replies_count (line ∷ lines) = reply_count line.mark + replies_count lines

count_more : (lines : List TxnLine) (line : TxnLine) → replies_count (lines ++ line ∷ []) ≡ replies_count lines + reply_count line.mark
unfolding replies_count
count_more [] line = omega arith
count_more (first ∷ lines) line = let rest = count_more lines line in omega (arith, rest)

said_one : (answer : Answer) → IsReply answer → length (option_to_list (reply_of answer)) ≡ 1
said_one (answers.Ok count) is = refl
said_one (answers.Rows rows) is = refl
said_one (answers.Refused number column) is = refl
said_one answer is = absurd is

line_count : (tables : Database) (word : ScriptWord) (mark : Mark) → length (line_replies tables word mark) ≡ reply_count mark
line_count tables word marks.Answered = said_one (line_says tables word).answer (line_replies_so tables word)
line_count tables word marks.TimedOut = refl
line_count tables word (marks.Lost side) = refl

run_count : (tables : Database) (ran : Ran) (lines : List TxnLine) → length (lines_run tables ran lines).replies ≡ length ran.replies + replies_count lines
unfolding lines_run replies_count
run_count tables ran [] = omega arith
run_count tables ran (line ∷ lines) =
    let all : List Reply = line_replies (after_events tables ran.writes) line.word line.mark in
    let next : Ran = record { replies = ran.replies ++ all; writes = ran.writes ++ line_events (after_events tables ran.writes) line.word line.mark } in
    let rest : length (lines_run tables next lines).replies ≡ length (ran.replies ++ all) + replies_count lines = run_count tables next lines in
    let joined : length (ran.replies ++ all) ≡ length ran.replies + length all = length-append ran.replies all in
    let here : length all ≡ reply_count line.mark = line_count (after_events tables ran.writes) line.word line.mark in
    omega (arith, rest, joined, here)

outcome_count : (b : Bool) (tables : Database) (ran : Ran) → length (outcome_if b tables ran).replies ≡ length ran.replies
outcome_count true tables ran = refl
outcome_count false tables ran = refl

-- alone a transaction has as many
alone_count : (tables : Database) (lines : List TxnLine) → length (alone tables lines).replies ≡ replies_count lines
unfolding alone
alone_count tables lines =
    let all : length (lines_run tables nothing_ran lines).replies ≡ 0 + replies_count lines = run_count tables nothing_ran lines in
    let kept : length (outcome_if (stays lines) tables (lines_run tables nothing_ran lines)).replies ≡ length (lines_run tables nothing_ran lines).replies = outcome_count (stays lines) tables (lines_run tables nothing_ran lines) in
    omega (arith, all, kept)

-- ---- what became of a line

abbrev IsCounted : Became → Type 0
IsCounted (Marked mark reply) = length (option_to_list reply) ≡ reply_count mark
IsCounted became = Unit {0}

cut_counted : (waits : Bool) → IsCounted (cut_off waits)
cut_counted true = refl
cut_counted false = tt

line_counted : (waits : Bool) (asked : LineAsked) (answer : LineAnswer) → IsCounted (became_of_line waits asked answer)
line_counted waits asks.Cut answer = cut_counted waits
line_counted waits asks.Call (line_answers.Ok count) = refl
line_counted waits asks.Call (line_answers.Error number) = refl
line_counted waits asks.Call (line_answers.Rows rows) = refl
line_counted waits asks.Call (line_answers.Waits by) = tt
line_counted waits asks.Call (line_answers.TimedOut waited) = refl
line_counted waits asks.Call line_answers.LostDone = refl
line_counted waits asks.Call line_answers.Other = refl
line_counted waits asks.Call answer = refl
line_counted waits asks.Rename (line_answers.Ok count) = refl
line_counted waits asks.Rename (line_answers.Error number) = refl
line_counted waits asks.Rename (line_answers.Rows rows) = refl
line_counted waits asks.Rename (line_answers.Waits by) = tt
line_counted waits asks.Rename (line_answers.TimedOut waited) = refl
line_counted waits asks.Rename line_answers.LostDone = refl
line_counted waits asks.Rename line_answers.Other = refl
line_counted waits asks.Rename answer = refl
line_counted waits asks.Poll (line_answers.Ok count) = refl
line_counted waits asks.Poll (line_answers.Error number) = refl
line_counted waits asks.Poll (line_answers.Rows rows) = refl
line_counted waits asks.Poll (line_answers.Waits by) = tt
line_counted waits asks.Poll (line_answers.TimedOut waited) = refl
line_counted waits asks.Poll line_answers.LostDone = refl
line_counted waits asks.Poll line_answers.Other = refl
line_counted waits asks.Poll answer = refl
line_counted waits asks.Word (line_answers.Ok count) = refl
line_counted waits asks.Word (line_answers.Error number) = refl
line_counted waits asks.Word (line_answers.Rows rows) = refl
line_counted waits asks.Word (line_answers.Waits by) = tt
line_counted waits asks.Word (line_answers.TimedOut waited) = refl
line_counted waits asks.Word line_answers.LostDone = refl
line_counted waits asks.Word line_answers.Other = refl
line_counted waits asks.Word answer = refl

-- ---- how far a client is

-- the open transaction has as many replies as its lines, and each was got in a turn
record IsTimely (client : Reached) (turns : List ℕ) : Type 0 where
  counted : length client.replies ≡ replies_count client.lines
  got : length client.replies ≤ length turns

more_turns : (turns : List ℕ) (turn : ℕ) (mark : Mark) (reply : Option Reply) → length (turns ++ reply_turn turn (Marked mark reply)) ≡ length turns + length (option_to_list reply)
more_turns turns turn mark None = length-append turns [] ∙ omega arith
more_turns turns turn mark (Some reply) = length-append turns (turn ∷ []) ∙ omega arith

kept_timely : (ended : Option TxnEnd) (client next : Reached) (lines : List TxnLine) (replies : List Reply) (turns : List ℕ) → next.lines ≡ kept_unless ended lines → next.replies ≡ kept_unless ended replies → length replies ≡ replies_count lines → length replies ≤ length turns → IsTimely next turns
unfolding replies_count
kept_timely None client next lines replies turns lines_are replies_are same got = record {
  counted = ap (λ (all : List Reply). length all) replies_are ∙ same ∙ sym (ap replies_count lines_are);
  got = subst (λ (all : List Reply). length all ≤ length turns) (sym replies_are) got;
}
kept_timely (Some ended) client next lines replies turns lines_are replies_are same got = record {
  counted = ap (λ (all : List Reply). length all) replies_are ∙ sym (ap replies_count lines_are);
  got = subst (λ (all : List Reply). length all ≤ length turns) (sym replies_are) (omega arith);
}

-- what a line of this mark makes of the transaction
with_same : (client : Reached) (word : ScriptWord) (mark : Mark) (reply : Option Reply) → length client.replies ≡ replies_count client.lines → length (option_to_list reply) ≡ reply_count mark → length (with_reply client reply) ≡ replies_count (with_line client word mark)
with_same client word mark reply same one =
    let replies : length (with_reply client reply) ≡ length client.replies + length (option_to_list reply) = length-append client.replies (option_to_list reply) in
    let lines : replies_count (with_line client word mark) ≡ replies_count client.lines + reply_count mark = count_more client.lines (record { word = word; mark = mark }) in
    omega (arith, replies, lines, same, one)

with_got : (client : Reached) (turns : List ℕ) (turn : ℕ) (mark : Mark) (reply : Option Reply) → length client.replies ≤ length turns → length (with_reply client reply) ≤ length (turns ++ reply_turn turn (Marked mark reply))
with_got client turns turn mark reply got =
    let replies : length (with_reply client reply) ≡ length client.replies + length (option_to_list reply) = length-append client.replies (option_to_list reply) in
    let all : length (turns ++ reply_turn turn (Marked mark reply)) ≡ length turns + length (option_to_list reply) = more_turns turns turn mark reply in
    omega (arith, replies, all, got)

marked_timely : (client : Reached) (turns : List ℕ) (turn : ℕ) (mark : Mark) (reply : Option Reply) (left : List ScriptLine) → IsTimely client turns → length (option_to_list reply) ≡ reply_count mark → IsTimely (marked client mark reply left) (turns ++ reply_turn turn (Marked mark reply))
marked_timely client turns turn mark reply [] is one =
    let all : length (turns ++ reply_turn turn (Marked mark reply)) ≡ length turns + length (option_to_list reply) = more_turns turns turn mark reply in
    let got : length client.replies ≤ length turns = is.got in
    record { counted = is.counted; got = omega (arith, all, got) }
marked_timely client turns turn mark reply (line ∷ lines) is one =
    kept_timely (ends_with (is_inside client.lines) line.word mark) client (marked client mark reply (line ∷ lines)) (with_line client line.word mark) (with_reply client reply) (turns ++ reply_turn turn (Marked mark reply)) refl refl
    (with_same client line.word mark reply is.counted one) (with_got client turns turn mark reply is.got)

no_more : (client : Reached) (turns : List ℕ) → IsTimely client turns → IsTimely client (turns ++ [])
no_more client turns is = subst (IsTimely client) (sym (append-nil turns)) is

after_timely : (client : Reached) (turns : List ℕ) (turn : ℕ) (became : Became) → IsTimely client turns → IsCounted became → IsTimely (client_after became client) (turns ++ reply_turn turn became)
unfolding replies_count
after_timely client turns turn Nothing is counted = no_more client turns is
after_timely client turns turn Waits is counted = no_more (record client { waits = true }) turns (record { counted = is.counted; got = is.got })
after_timely client turns turn (Marked mark reply) is counted = marked_timely client turns turn mark reply client.left is counted
after_timely client turns turn Broken is counted = no_more (record client { lines = []; replies = []; is_lost = true }) turns (record { counted = refl; got = omega arith })

-- what is left of the script decides nothing of that
left_timely : (client : Reached) (turns : List ℕ) (became : Became) → IsTimely (client_after became client) turns → IsTimely (client_after_line became client) turns
left_timely client turns became is = record { counted = is.counted; got = is.got }

-- which number its line drew neither
drawn_timely : (draw : Option ℕ) (client : Reached) (turns : List ℕ) → IsTimely client turns → IsTimely (with_draw draw client) turns
drawn_timely None client turns is = is
drawn_timely (Some number) client turns is = record { counted = is.counted; got = is.got }

turn_timely : (client : Reached) (turns : List ℕ) (turn : ℕ) (line : TraceLine) (own lost : Bool) → IsTimely client turns
    → IsTimely (cond own (cond lost client (client_after_line (became_by client line) (with_draw line.drawn client))) client) (turns ++ cond (own && not lost) (reply_turn turn (became_by client line)) [])
turn_timely client turns turn line false lost is = no_more client turns is
turn_timely client turns turn line true true is = no_more client turns is
turn_timely client turns turn line true false is =
    left_timely (with_draw line.drawn client) (turns ++ reply_turn turn (became_by client line)) (became_by client line) (after_timely (with_draw line.drawn client) turns turn (became_by client line) (drawn_timely line.drawn client turns is) (line_counted client.waits line.asked line.answer))

turns_more : (plan : PlanData) (lines : List TraceLine) (line : TraceLine) (c : ℕ) → reply_turns plan (lines ++ line ∷ []) c ≡ reply_turns plan lines c ++ reply_turn_in plan c lines line
unfolding reply_turns
turns_more plan lines line c = gathered-more (reply_turn_in plan c) [] lines line

timely_more : (plan : PlanData) (lines : List TraceLine) (line : TraceLine) (c : ℕ) → IsTimely (client_reached plan lines c) (reply_turns plan lines c) → IsTimely (client_reached plan (lines ++ line ∷ []) c) (reply_turns plan (lines ++ line ∷ []) c)
timely_more plan lines line c is =
    subst (λ (client : Reached). IsTimely client (reply_turns plan (lines ++ line ∷ []) c)) (sym (reached_more plan lines line c))
    (subst (IsTimely (client_step c (client_reached plan lines c) line)) (sym (turns_more plan lines line c))
    (turn_timely (client_reached plan lines c) (reply_turns plan lines c) (next_turn lines) line (same_actor line.actor (Client c)) (client_reached plan lines c).is_lost is))

timely_begins : (plan : PlanData) (c : ℕ) → IsTimely (client_reached plan [] c) (reply_turns plan [] c)
unfolding client_reached reply_turns replies_count
timely_begins plan c = record { counted = refl; got = omega arith }

timely_from : (plan : PlanData) (c : ℕ) (before lines : List TraceLine) → IsTimely (client_reached plan before c) (reply_turns plan before c) → IsTimely (client_reached plan (before ++ lines) c) (reply_turns plan (before ++ lines) c)
timely_from plan c before [] is = subst (λ (all : List TraceLine). IsTimely (client_reached plan all c) (reply_turns plan all c)) (sym (append-nil before)) is
timely_from plan c before (line ∷ lines) is =
    subst (λ (all : List TraceLine). IsTimely (client_reached plan all c) (reply_turns plan all c)) (append_assoc before (line ∷ []) lines) (timely_from plan c (before ++ line ∷ []) lines (timely_more plan before line c is))

-- ---- what is judged

-- as many turns as replies, and as many as there are alone
abbrev IsTimed : Judged → Type 0
IsTimed (Ended past turns) = (length turns ≡ length past.replies) × ((tables : Database) → length past.replies ≡ length (alone tables past.txn.lines).replies)
IsTimed (Altered turn) = Unit {0}

last_count : (turns : List ℕ) (count : ℕ) → count ≤ length turns → length (last_of count turns) ≡ count
last_count turns count some = let long : length (last_of count turns) ≡ length turns - (length turns - count) = length-drop (length turns - count) turns in omega (arith, long, some)

past_timed : (c number : ℕ) (lines : List TxnLine) (replies : List Reply) (ended : TxnEnd) (turns : List ℕ) → length replies ≡ replies_count lines → length replies ≤ length turns → AllByRecursion IsTimed (judged_of turns (past_of c number lines replies ended ∷ []))
past_timed c number lines replies ended turns same got = ((last_count turns (length replies) got, λ tables. same ∙ sym (alone_count tables lines)), tt)

ends_timed : (c : ℕ) (client : Reached) (turns : List ℕ) (turn : ℕ) (line : ScriptLine) (mark : Mark) (reply : Option Reply) (ended : Option TxnEnd) → IsTimely client turns → length (option_to_list reply) ≡ reply_count mark
    → AllByRecursion IsTimed (judged_of (turns ++ reply_turn turn (Marked mark reply)) (ends_so c client line mark reply ended))
ends_timed c client turns turn line mark reply None is one = tt
ends_timed c client turns turn line mark reply (Some ended) is one =
    past_timed c (number_of client) (with_line client line.word mark) (with_reply client reply) ended (turns ++ reply_turn turn (Marked mark reply)) (with_same client line.word mark reply is.counted one) (with_got client turns turn mark reply is.got)

line_timed : (c : ℕ) (client : Reached) (turns : List ℕ) (turn : ℕ) (mark : Mark) (reply : Option Reply) (left : List ScriptLine) → IsTimely client turns → length (option_to_list reply) ≡ reply_count mark
    → AllByRecursion IsTimed (judged_of (turns ++ reply_turn turn (Marked mark reply)) (line_ends c client mark reply left))
line_timed c client turns turn mark reply [] is one = tt
line_timed c client turns turn mark reply (line ∷ lines) is one = ends_timed c client turns turn line mark reply (ends_with (is_inside client.lines) line.word mark) is one

breaks_timed : (c : ℕ) (client : Reached) (turns : List ℕ) (inside : Bool) → IsTimely client turns → AllByRecursion IsTimed (judged_of turns (breaks c client inside))
breaks_timed c client turns false is = tt
breaks_timed c client turns true is = past_timed c client.begun client.lines client.replies ends.Lost turns is.counted is.got

client_timed : (c : ℕ) (client : Reached) (turns : List ℕ) (turn : ℕ) (became : Became) → IsTimely client turns → IsCounted became → AllByRecursion IsTimed (judged_of (turns ++ reply_turn turn became) (client_ends c client became))
client_timed c client turns turn Nothing is counted = tt
client_timed c client turns turn Waits is counted = tt
client_timed c client turns turn (Marked mark reply) is counted = line_timed c client turns turn mark reply client.left is counted
client_timed c client turns turn Broken is counted = breaks_timed c client (turns ++ []) (is_inside client.lines) (no_more client turns is)

alter_timed : (b : Bool) (turn : ℕ) → AllByRecursion IsTimed (cond b (Altered turn ∷ []) [])
alter_timed true turn = (tt, tt)
alter_timed false turn = tt

in_timed : (plan : PlanData) (before : List TraceLine) (line : TraceLine) (actor : Actor) → line.actor ≡ actor → AllByRecursion IsTimed (judged_in plan before line actor)
in_timed plan before line Op same = alter_timed (alters_in before line && not (has_altered before)) (next_turn before)
in_timed plan before line Insp same = alter_timed (alters_in before line && not (has_altered before)) (next_turn before)
in_timed plan before line Copy same = alter_timed (alters_in before line && not (has_altered before)) (next_turn before)
in_timed plan before line Apply same = alter_timed (alters_in before line && not (has_altered before)) (next_turn before)
in_timed plan before line Lock same = alter_timed (alters_in before line && not (has_altered before)) (next_turn before)
in_timed plan before line Ren same = alter_timed (alters_in before line && not (has_altered before)) (next_turn before)
in_timed plan before line (Client c) same = by (client_reached plan before c).is_lost refl where
  client : Reached
  client = client_reached plan before c

  turns : List ℕ
  turns = reply_turns plan before c

  own : same_actor line.actor (Client c) ≡ true
  own = ap (λ (a : Actor). same_actor a (Client c)) same ∙ same_actor_itself (Client c)

  turns_are : client.is_lost ≡ false → reply_turns plan (before ++ line ∷ []) c ≡ turns ++ reply_turn (next_turn before) (became_by client line)
  turns_are lives = turns_more plan before line c ∙ ap (λ (b : Bool). turns ++ cond (b && not client.is_lost) (reply_turn (next_turn before) (became_by client line)) []) own ∙ ap (λ (b : Bool). turns ++ cond (true && not b) (reply_turn (next_turn before) (became_by client line)) []) lives

  drawn : Reached
  drawn = with_draw line.drawn client

  by : (lost : Bool) → client.is_lost ≡ lost → AllByRecursion IsTimed (cond lost [] (judged_of (reply_turns plan (before ++ line ∷ []) c) (client_ends c drawn (became_by client line))))
  by true lost = tt
  by false lives =
      subst (λ (all : List ℕ). AllByRecursion IsTimed (judged_of all (client_ends c drawn (became_by client line)))) (sym (turns_are lives))
      (client_timed c drawn turns (next_turn before) (became_by client line) (drawn_timely line.drawn client turns (timely_from plan c [] before (timely_begins plan c))) (line_counted client.waits line.asked line.answer))

all_timed : (plan : PlanData) (before lines : List TraceLine) → AllByRecursion IsTimed (gathered (λ some line. judged_in plan some line line.actor) before lines)
all_timed plan before [] = tt
all_timed plan before (line ∷ lines) =
    All-append IsTimed (judged_in plan before line line.actor) (gathered (λ some one. judged_in plan some one one.actor) (before ++ line ∷ []) lines) (in_timed plan before line line.actor refl) (all_timed plan (before ++ line ∷ []) lines)

timed_along : (plan : PlanData) (tables : Database) (items : List Judged) → AllByRecursion IsTimed items → AreTimed plan tables items
timed_along plan tables [] all = tt
timed_along plan tables (Ended past turns ∷ items) all = (all.0.0, all.0.1 tables, timed_along plan (alone tables past.txn.lines).tables items all.1)
timed_along plan tables (Altered turn ∷ items) all = λ after is. timed_along plan after items all.1

-- *What is judged is timed*
pub judged_timed : (plan : PlanData) (tables : Database) (lines : List TraceLine) → AreTimed plan tables (judged plan lines)
unfolding judged
judged_timed plan tables lines = timed_along plan tables (judged plan lines) (all_timed plan [] (straight_lines plan [] lines))
