-- What a client's turn does to its open transaction and adds to the history is the same by how far the client is in its
-- script, and by what the server's state says of its session.
use Rattle.std.proofs.Common.{◌≡◌, ℕ, Bool, true, false, List, [], ◌∷◌, map, Option, Some, None, refl, sym, ap, ◌∙◌, subst}
use Rattle.std.specs.Prelude.{option_to_list}
use Rattle.std.specs.List.{AllByRecursion, list_any}
use Rattle.std.proofs.lemmas.Bool.{true≢false}
use Rattle.base_script.specs.declared.actor.Side.{Side}
use Rattle.base_script.specs.declared.actor.Side.TheVariants.{Before, After}
use Rattle.base_script.specs.declared.script.ScriptLine.{ScriptLine}
use Rattle.base_script.specs.declared.script.ScriptWord.{ScriptWord}
use Rattle.base_script.specs.declared.script.ScriptWord.TheVariants as words
use Rattle.server_model.specs.declared.answer.Answer.{Answer}
use Rattle.server_model.specs.declared.answer.Answer.TheVariants as answers
use Rattle.server_model.specs.declared.entry.Asked.{Asked}
use Rattle.server_model.specs.declared.entry.Asked.TheVariants.{Call, Poll, Command, Cut}
use Rattle.server_model.specs.declared.request.Request.{Request}
use Rattle.server_model.specs.declared.transaction.Mark.{Mark}
use Rattle.server_model.specs.declared.transaction.Mark.TheVariants as marks
use Rattle.server_model.specs.declared.transaction.Reply.{Reply}
use Rattle.server_model.specs.declared.transaction.Reply.TheVariants as replies
use Rattle.server_model.specs.declared.transaction.TxnEnd.{TxnEnd}
use Rattle.server_model.specs.declared.transaction.TxnEnd.TheVariants as ends
use Rattle.server_model.specs.Alone.{reply_of}
use Rattle.tool_program.specs.JournalWords.Clients.{word_numbered, lines_drawn, with_draw, Reached, Became, Nothing, Waits, Marked, Broken, became_of, lost_side, cut_off, became_in, is_inside, answered_ends, ends_with, closes, after_transaction, left_after, kept_unless, with_line, with_reply, marked, client_after, word_asks}
use Rattle.tool_program.specs.JournalWords.Histories as histories
use Rattle.tool_program.specs.JournalWords.Histories.{HistoryItem, waits_after, asked_about, ends_so, line_ends, breaks, client_ends}
use Rattle.server_model.specs.States.{State}
use Rattle.server_model.specs.PlainServer.{serves, asks_for}
use Rattle.server_model.specs.Counting.{drawn_by}
use Rattle.server_model.proofs.Filling.{numbered_table}
use Rattle.std.specs.Str.{bytes_eq}
use Rattle.proof_journals.specs.Scenes.{NamesTable, PlainItem, Txn, Alter, Going, not_going}
use Rattle.proof_journals.specs.Turns as fates
use Rattle.proof_journals.specs.Turns.{answer_at, drawn_side, request_numbered, drawn_request, LineOutcome, line_outcome_answered, word_given, was_given, mark_lost, broken, word_lost, word_asked, client_line_outcome, going_on, happens}
use Rattle.proof_journals.proofs.Journals.{word_back}
use Rattle.tool_program.specs.JournalWords.Sessions.{session_left}
use Rattle.server_model.specs.Entries.{is_command}
use Rattle.std.proofs.Common.{cond}
use Rattle.base_values.specs.declared.mysql_errors.TheConstants.{ER_LOCK_WAIT_TIMEOUT}

-- an item of a history, without whose it is
abbrev pub plain : HistoryItem → PlainItem
plain (histories.Txn past) = Txn (record { txn = past.txn; replies = past.replies })
plain histories.Alter = Alter

-- the client's open transaction
abbrev pub going_of : Reached → Going
going_of client = record { lines = client.lines; replies = client.replies }

-- the answer of a line: done, refused, waiting, or timed out
abbrev pub IsLineAnswer : Answer → Type 0
IsLineAnswer (answers.Ok count) = Unit {0}
IsLineAnswer (answers.Rows rows) = Unit {0}
IsLineAnswer (answers.Refused number column) = Unit {0}
IsLineAnswer (answers.Waits by) = Unit {0}
IsLineAnswer (answers.TimedOut waited) = Unit {0}
IsLineAnswer answer = ⊥

-- the request that the client's session waits with is its next line, where the client waits
pub data LineWaits (client : Reached) (waiting : Option Request) : Type 0 where
  Free : client.waits ≡ false → waiting ≡ None → LineWaits client waiting
  Held : (line : ScriptLine) (lines : List ScriptLine) → client.waits ≡ true → client.left ≡ line ∷ lines → waiting ≡ Some (word_asks line.word) → LineWaits client waiting

-- what became of the client's line, and the fate of its session's transaction
pub record Alike (number : ℕ) (client : Reached) (became : Became) (line_outcome : LineOutcome) (waiting : Option Request) : Type 0 where
  pub going : going_on line_outcome (going_of client) ≡ going_of (client_after became client)
  pub items : happens line_outcome (going_of client) ≡ map plain (client_ends number client became)
  pub waits : LineWaits (client_after became client) waiting

-- a line that gets a mark: its transaction goes on, or ends so
abbrev pub line_outcome_so : Option TxnEnd → ScriptWord → Mark → List Reply → LineOutcome
line_outcome_so None word mark got = fates.Adds word mark got
line_outcome_so (Some ended) word mark got = fates.Ends word mark got ended

marked_going : (client : Reached) (line : ScriptLine) (mark : Mark) (reply : Option Reply) (e : Option TxnEnd)
    → going_on (line_outcome_so e line.word mark (option_to_list reply)) (going_of client) ≡ record { lines = kept_unless e (with_line client line.word mark); replies = kept_unless e (with_reply client reply) }
marked_going client line mark reply None = refl
marked_going client line mark reply (Some ended) = refl

marked_items : (number : ℕ) (client : Reached) (line : ScriptLine) (mark : Mark) (reply : Option Reply) (e : Option TxnEnd)
    → happens (line_outcome_so e line.word mark (option_to_list reply)) (going_of client) ≡ map plain (ends_so number client line mark reply e)
marked_items number client line mark reply None = refl
marked_items number client line mark reply (Some ended) = refl

marked_alike : (number : ℕ) (client : Reached) (line : ScriptLine) (lines : List ScriptLine) → client.left ≡ line ∷ lines → (mark : Mark) (reply : Option Reply)
    → Alike number client (Marked mark reply) (line_outcome_so (ends_with (is_inside client.lines) line.word mark) line.word mark (option_to_list reply)) None
marked_alike number client line lines left mark reply = record {
  going = marked_going client line mark reply (ends_with (is_inside client.lines) line.word mark) ∙ ap (λ (l : List ScriptLine). going_of (marked client mark reply l)) (sym left);
  items = marked_items number client line mark reply (ends_with (is_inside client.lines) line.word mark) ∙ ap (λ (l : List ScriptLine). map plain (line_ends number client mark reply l)) (sym left);
  waits = Free (ap (λ (l : List ScriptLine). (marked client mark reply l).waits) left) refl;
}

answered_so : (busy : Bool) (word : ScriptWord) (got : List Reply) → line_outcome_answered busy word marks.Answered got ≡ line_outcome_so (answered_ends busy word) word marks.Answered got
answered_so busy words.Begin got = refl
answered_so busy words.Commit got = refl
answered_so busy words.Rollback got = refl
answered_so true (words.Do statement) got = refl
answered_so false (words.Do statement) got = refl

-- A LINE'S ANSWER

-- the same where one fate is another, and where what waits is the same
alike_as : (number : ℕ) (client : Reached) (became : Became) (one two : LineOutcome) (a b : Option Request) → two ≡ one → b ≡ a → Alike number client became one a → Alike number client became two b
alike_as number client became one two a b same also is = subst (λ (f : LineOutcome). Alike number client became f b) (sym same) (subst (λ (w : Option Request). Alike number client became one w) (sym also) is)

-- a line that is answered, where this waits behind each answer
given_alike : (number : ℕ) (client : Reached) (line : ScriptLine) (lines : List ScriptLine) → client.left ≡ line ∷ lines → (following : Answer → Option Request)
    → ((answer : Answer) → IsLineAnswer answer → ((by : ℕ) → answer ≡ answers.Waits by → ⊥) → following answer ≡ None) → ((by : ℕ) → following (answers.Waits by) ≡ Some (word_asks line.word)) → (answer : Answer) → IsLineAnswer answer
    → Alike number client (became_of answer) (word_given (is_inside client.lines) line.word answer) (following answer)
given_alike number client line lines left following none some (answers.Ok count) is =
    alike_as number client (became_of (answers.Ok count)) _ _ None _ (answered_so (is_inside client.lines) line.word (option_to_list (reply_of (answers.Ok count)))) (none (answers.Ok count) tt (λ by same. absurd (cc))) (marked_alike number client line lines left marks.Answered (reply_of (answers.Ok count)))
given_alike number client line lines left following none some (answers.Rows rows) is =
    alike_as number client (became_of (answers.Rows rows)) _ _ None _ (answered_so (is_inside client.lines) line.word (option_to_list (reply_of (answers.Rows rows)))) (none (answers.Rows rows) tt (λ by same. absurd (cc))) (marked_alike number client line lines left marks.Answered (reply_of (answers.Rows rows)))
given_alike number client line lines left following none some (answers.Refused refusal column) is =
    alike_as number client (became_of (answers.Refused refusal column)) _ _ None _ (answered_so (is_inside client.lines) line.word (option_to_list (reply_of (answers.Refused refusal column)))) (none (answers.Refused refusal column) tt (λ by same. absurd (cc))) (marked_alike number client line lines left marks.Answered (reply_of (answers.Refused refusal column)))
given_alike number client line lines left following none some (answers.TimedOut waited) is =
    alike_as number client (became_of (answers.TimedOut waited)) _ _ None _ refl (none (answers.TimedOut waited) tt (λ by same. absurd (cc))) (marked_alike number client line lines left marks.TimedOut (Some (replies.Error ER_LOCK_WAIT_TIMEOUT)))
given_alike number client line lines left following none some (answers.Waits by) is = record { going = refl; items = refl; waits = Held line lines refl left (some by) }
given_alike number client line lines left following none some (answers.Keys keys end) is = absurd is
given_alike number client line lines left following none some (answers.Ends range) is = absurd is
given_alike number client line lines left following none some (answers.End end) is = absurd is
given_alike number client line lines left following none some (answers.At position) is = absurd is
given_alike number client line lines left following none some (answers.Events events next) is = absurd is
given_alike number client line lines left following none some (answers.Tables tables) is = absurd is
given_alike number client line lines left following none some (answers.Waiting waits) is = absurd is
given_alike number client line lines left following none some answers.Lost is = absurd is

asked_word : (busy : Bool) (word : ScriptWord) (answer : Answer) → word_asked busy (Some (word_asks word)) answer ≡ word_given busy word answer
asked_word busy word answer = rw (word_back word) refl

none_called : (request : Request) (old : Option Request) (answer : Answer) → IsLineAnswer answer → ((by : ℕ) → answer ≡ answers.Waits by → ⊥) → waits_after (Call request) answer old ≡ None
none_called request old (answers.Waits by) is no_wait = absurd (no_wait by refl)
none_called request old other is no_wait = refl

none_polled : (old : Option Request) (answer : Answer) → IsLineAnswer answer → ((by : ℕ) → answer ≡ answers.Waits by → ⊥) → waits_after Poll answer old ≡ None
none_polled old (answers.Waits by) is no_wait = absurd (no_wait by refl)
none_polled old other is no_wait = refl

-- a call of the next line
call_alike : (number : ℕ) (client : Reached) (line : ScriptLine) (lines : List ScriptLine) → client.left ≡ line ∷ lines → (old : Option Request) (answer : Answer) (missed : Option Answer) → IsLineAnswer answer
    → Alike number client (became_in client.waits (Call (word_asks line.word)) None answer missed) (client_line_outcome None (is_inside client.lines) (Call (word_asks line.word)) (Some (word_asks line.word)) answer missed) (waits_after (Call (word_asks line.word)) answer old)
call_alike number client line lines left old answer missed is =
    alike_as number client (became_of answer) _ _ (waits_after (Call (word_asks line.word)) answer old) _ (asked_word (is_inside client.lines) line.word answer) refl
    (given_alike number client line lines left (λ a. waits_after (Call (word_asks line.word)) a old) (none_called (word_asks line.word) old) (λ by. refl) answer is)

-- a poll of the line that waits
poll_alike : (number : ℕ) (client : Reached) (line : ScriptLine) (lines : List ScriptLine) → client.left ≡ line ∷ lines → (old : Option Request) → old ≡ Some (word_asks line.word) → (answer : Answer) (missed : Option Answer) → IsLineAnswer answer
    → Alike number client (became_in client.waits Poll None answer missed) (client_line_outcome None (is_inside client.lines) Poll old answer missed) (waits_after Poll answer old)
poll_alike number client line lines left old same answer missed is =
    alike_as number client (became_of answer) _ _ (waits_after Poll answer old) _ (ap (λ (o : Option Request). word_asked (is_inside client.lines) o answer) same ∙ asked_word (is_inside client.lines) line.word answer) refl
    (given_alike number client line lines left (λ a. waits_after Poll a old) (none_polled old) (λ by. same) answer is)

-- A LOST SESSION

-- a lost call was done, or wasn't, by what was missed
pub record Missed (side : Side) (missed : Option Answer) : Type 0 where
  pub same : mark_lost (was_given missed) ≡ marks.Lost (lost_side (Some side) missed)

lost_word : (busy : Bool) (word : ScriptWord) (missed : Option Answer) → word_lost busy (Some (word_asks word)) missed ≡ fates.Ends word (mark_lost (was_given missed)) [] ends.Lost
lost_word busy word missed = rw (word_back word) refl

lost_alike : (number : ℕ) (client : Reached) (line : ScriptLine) (lines : List ScriptLine) → client.left ≡ line ∷ lines → (side : Side) (missed : Option Answer) → Missed side missed → (asks waiting : Option Request) → asks ≡ Some (word_asks line.word) → waiting ≡ None
    → Alike number client (Marked (marks.Lost (lost_side (Some side) missed)) None) (word_lost (is_inside client.lines) asks missed) waiting
lost_alike number client line lines left side missed is asks waiting same none =
    alike_as number client (Marked (marks.Lost (lost_side (Some side) missed)) None) (fates.Ends line.word (marks.Lost (lost_side (Some side) missed)) [] ends.Lost) _ None _
    (ap (λ (o : Option Request). word_lost (is_inside client.lines) o missed) same ∙ lost_word (is_inside client.lines) line.word missed ∙ ap (λ (m : Mark). fates.Ends line.word m [] ends.Lost) is.same) none
    (marked_alike number client line lines left (marks.Lost (lost_side (Some side) missed)) None)

-- a client that waits for nothing is lost between lines
broken_alike : (number : ℕ) (client : Reached) (waiting : Option Request) → client.waits ≡ false → waiting ≡ None → (busy : Bool) → is_inside client.lines ≡ busy → (busy ≡ false → going_of client ≡ not_going) → Alike number client Broken (broken busy) waiting
broken_alike number client waiting free none true busy rests =
    record { going = refl; items = ap (λ (b : Bool). map plain (breaks number client b)) (sym busy); waits = Free free none }
broken_alike number client waiting free none false busy rests =
    record { going = rests refl; items = ap (λ (b : Bool). map plain (breaks number client b)) (sym busy); waits = Free free none }

-- ALL TURNS OF A CLIENT

-- what a client asks is its next line, or a poll of the one that waits; its session may be lost between calls
pub data AsksNext (client : Reached) (asked : Asked) : Type 0 where
  Calls : (line : ScriptLine) (lines : List ScriptLine) → client.waits ≡ false → client.left ≡ line ∷ lines → asked ≡ Call (word_asks line.word) → AsksNext client asked
  Polls : client.waits ≡ true → asked ≡ Poll → AsksNext client asked
  IsCut : asked ≡ Cut → AsksNext client asked

-- what an entry has, where the server answered so
pub data HeardSo (side : Option Side) (asked : Asked) (answer : Answer) (missed : Option Answer) : Type 0 where
  Heard : side ≡ None → IsLineAnswer answer → HeardSo side asked answer missed
  CutOff : side ≡ None → asked ≡ Cut → HeardSo side asked answer missed
  LostAt : (lost : Side) → (asked ≡ Cut → ⊥) → side ≡ Some lost → answer ≡ answers.Lost → Missed lost missed → HeardSo side asked answer missed

pub not_waiting : (client : Reached) (old : Option Request) (P : Type 0) → LineWaits client old → client.waits ≡ true → ((line : ScriptLine) (lines : List ScriptLine) → client.left ≡ line ∷ lines → old ≡ Some (word_asks line.word) → P) → P
not_waiting client old P (Free free none) held f = absurd (true≢false (sym held ∙ free))
not_waiting client old P (Held line lines waits left some) held f = f line lines left some

cut_held : (number : ℕ) (client : Reached) (line : ScriptLine) (lines : List ScriptLine) → client.waits ≡ true → client.left ≡ line ∷ lines → (old : Option Request) → old ≡ Some (word_asks line.word) → (answer : Answer) (missed : Option Answer)
    → Alike number client (became_in client.waits Cut None answer missed) (client_line_outcome None (is_inside client.lines) Cut old answer missed) None
cut_held number client line lines held left old some answer missed =
    subst (λ (b : Became). Alike number client b (word_lost (is_inside client.lines) old None) None) (ap cut_off (sym held))
    (lost_alike number client line lines left Before None (record { same = refl }) old None some refl)

cut_free : (number : ℕ) (client : Reached) → client.waits ≡ false → (old : Option Request) → old ≡ None → (answer : Answer) (missed : Option Answer) → (is_inside client.lines ≡ false → going_of client ≡ not_going)
    → Alike number client (became_in client.waits Cut None answer missed) (client_line_outcome None (is_inside client.lines) Cut old answer missed) None
cut_free number client free old none answer missed rests =
    subst (λ (b : Became). Alike number client b (word_lost (is_inside client.lines) old None) None) (ap cut_off (sym free))
    (alike_as number client Broken (broken (is_inside client.lines)) _ None None (ap (λ (o : Option Request). word_lost (is_inside client.lines) o None) none) refl (broken_alike number client None free refl (is_inside client.lines) refl rests))

pub client_alike : (number : ℕ) (client : Reached) (side : Option Side) (asked : Asked) (answer : Answer) (missed : Option Answer) (old : Option Request) → LineWaits client old → AsksNext client asked → HeardSo side asked answer missed → (is_inside client.lines ≡ false → going_of client ≡ not_going)
    → Alike number client (became_in client.waits asked side answer missed) (client_line_outcome side (is_inside client.lines) asked (asked_about asked old) answer missed) (waits_after asked answer old)
client_alike number client side asked answer missed old waits (Calls line lines free left asks) (Heard none is) rests =
    rw (none, asks) (call_alike number client line lines left old answer missed is)
client_alike number client side asked answer missed old waits (Polls held asks) (Heard none is) rests =
    not_waiting client old _ waits held (λ line lines left some. rw (none, asks) (poll_alike number client line lines left old some answer missed is))
client_alike number client side asked answer missed old waits (Calls line lines free left asks) (LostAt lost called at same is) rests =
    rw (at, asks, same) (lost_alike number client line lines left lost missed is (Some (word_asks line.word)) None refl refl)
client_alike number client side asked answer missed old waits (Polls held asks) (LostAt lost called at same is) rests =
    not_waiting client old _ waits held (λ line lines left some. rw (at, asks, same) (lost_alike number client line lines left lost missed is old None some refl))
client_alike number client side asked answer missed old (Held line lines held left some) (IsCut asks) (Heard none is) rests = rw (none, asks) (cut_held number client line lines held left old some answer missed)
client_alike number client side asked answer missed old (Free free none) (IsCut asks) (Heard no_side is) rests = rw (no_side, asks) (cut_free number client free old none answer missed rests)
client_alike number client side asked answer missed old (Held line lines held left some) (IsCut asks) (CutOff none also) rests = rw (none, asks) (cut_held number client line lines held left old some answer missed)
client_alike number client side asked answer missed old (Free free none) (IsCut asks) (CutOff no_side also) rests = rw (no_side, asks) (cut_free number client free old none answer missed rests)
client_alike number client side asked answer missed old waits (Calls line lines free left asks) (CutOff none also) rests = absurd (call_cut (word_asks line.word) (sym asks ∙ also)) where
  call_cut : (request : Request) → Call request ≡ Cut → ⊥
  call_cut request same = cc
client_alike number client side asked answer missed old waits (Polls held asks) (CutOff none also) rests = absurd (poll_cut (sym asks ∙ also)) where
  poll_cut : Poll ≡ Cut → ⊥
  poll_cut same = cc
client_alike number client side asked answer missed old waits (IsCut asks) (LostAt lost called at same is) rests = absurd (called asks)

-- A LINE THAT DREW A NUMBER

abbrev pub asked_numbered : ℕ → Asked → Asked
asked_numbered n (Call request) = Call (request_numbered n request)
asked_numbered n Poll = Poll
asked_numbered n (Command word) = Command word
asked_numbered n Cut = Cut

word_number : (n : ℕ) (word : ScriptWord) → request_numbered n (word_asks word) ≡ word_asks (word_numbered (Some n) word)
word_number n words.Begin = refl
word_number n words.Commit = refl
word_number n words.Rollback = refl
word_number n (words.Do statement) = refl

abbrev pub line_numbered : ℕ → ScriptLine → ScriptLine
line_numbered n line = record line { word = word_numbered (Some n) line.word }

waits_numbered : (n : ℕ) (client : Reached) (old : Option Request) → LineWaits client old → LineWaits (with_draw (Some n) client) (drawn_request (Some n) old)
waits_numbered n client old (Free free none) = Free free (ap (drawn_request (Some n)) none)
waits_numbered n client old (Held line lines held left some) =
    Held (line_numbered n line) lines held (ap (lines_drawn n) left) (ap (drawn_request (Some n)) some ∙ ap (λ (r : Request). let o : Option Request = Some r in o) (word_number n line.word))

asks_so : (n : ℕ) (client : Reached) (asked : Asked) → AsksNext client asked → AsksNext (with_draw (Some n) client) (asked_numbered n asked)
asks_so n client asked (Calls line lines free left asks) = Calls (line_numbered n line) lines free (ap (lines_drawn n) left) (ap (asked_numbered n) asks ∙ ap Call (word_number n line.word))
asks_so n client asked (Polls held asks) = Polls held (ap (asked_numbered n) asks)
asks_so n client asked (IsCut asks) = IsCut (ap (asked_numbered n) asks)

uncut : (n : ℕ) (asked : Asked) → (asked ≡ Cut → ⊥) → asked_numbered n asked ≡ Cut → ⊥
uncut n (Call request) called same = absurd (cc)
uncut n Poll called same = absurd (cc)
uncut n (Command word) called same = absurd (cc)
uncut n Cut called same = called refl

heard_numbered : (n : ℕ) (side : Option Side) (asked : Asked) (answer : Answer) (missed : Option Answer) → HeardSo side asked answer missed → HeardSo side (asked_numbered n asked) answer missed
heard_numbered n side asked answer missed (Heard none is) = Heard none is
heard_numbered n side asked answer missed (CutOff none also) = CutOff none (ap (asked_numbered n) also)
heard_numbered n side asked answer missed (LostAt lost called at same is) = LostAt lost (uncut n asked called) at same is

line_outcome_numbered : (n : ℕ) (side : Option Side) (busy : Bool) (asked : Asked) (old : Option Request) (answer : Answer) (missed : Option Answer)
    → client_line_outcome side busy (asked_numbered n asked) (asked_about (asked_numbered n asked) (drawn_request (Some n) old)) answer missed ≡ client_line_outcome side busy asked (drawn_request (Some n) (asked_about asked old)) answer missed
line_outcome_numbered n None busy (Call request) old answer missed = refl
line_outcome_numbered n None busy Poll old answer missed = refl
line_outcome_numbered n None busy (Command word) old answer missed = refl
line_outcome_numbered n None busy Cut old answer missed = refl
line_outcome_numbered n (Some side) busy (Call request) old answer missed = refl
line_outcome_numbered n (Some side) busy Poll old answer missed = refl
line_outcome_numbered n (Some side) busy (Command word) old answer missed = refl
line_outcome_numbered n (Some side) busy Cut old answer missed = refl

became_numbered : (n : ℕ) (waits : Bool) (asked : Asked) (side : Option Side) (answer : Answer) (missed : Option Answer) → became_in waits (asked_numbered n asked) side answer missed ≡ became_in waits asked side answer missed
became_numbered n waits (Call request) None answer missed = refl
became_numbered n waits (Call request) (Some side) answer missed = refl
became_numbered n waits Poll side answer missed = refl
became_numbered n waits (Command word) side answer missed = refl
became_numbered n waits Cut side answer missed = refl

-- nothing waits after an answer that isn't a wait
after_numbered : (n : ℕ) (asked : Asked) (answer : Answer) (old : Option Request) → ((by : ℕ) → answer ≡ answers.Waits by → ⊥) → waits_after (asked_numbered n asked) answer (drawn_request (Some n) old) ≡ waits_after asked answer old
after_numbered n (Call request) (answers.Waits by) old never = absurd (never by refl)
after_numbered n Poll (answers.Waits by) old never = absurd (never by refl)
after_numbered n (Call request) other old never = refl
after_numbered n Poll other old never = refl
after_numbered n (Command word) answer old never = refl
after_numbered n Cut answer old never = refl

-- *what became of a client's line, with the number that it drew*: a turn that draws waits for nothing
pub drawn_alike : (number : ℕ) (client : Reached) (side : Option Side) (asked : Asked) (answer : Answer) (missed : Option Answer) (draw : Option ℕ) (old : Option Request) → LineWaits client old → AsksNext client asked → HeardSo side asked answer missed → (is_inside client.lines ≡ false → going_of client ≡ not_going)
    → ((n : ℕ) → draw ≡ Some n → (by : ℕ) → answer ≡ answers.Waits by → ⊥)
    → Alike number (with_draw draw client) (became_in client.waits asked side answer missed) (client_line_outcome side (is_inside client.lines) asked (drawn_request draw (asked_about asked old)) answer missed) (waits_after asked answer old)
drawn_alike number client side asked answer missed None old waits next heard rests never = client_alike number client side asked answer missed old waits next heard rests
drawn_alike number client side asked answer missed (Some n) old waits next heard rests never =
    subst (λ (b : Became). Alike number (with_draw (Some n) client) b (client_line_outcome side (is_inside client.lines) asked (drawn_request (Some n) (asked_about asked old)) answer missed) (waits_after asked answer old)) (became_numbered n client.waits asked side answer missed)
    (alike_as number (with_draw (Some n) client) (became_in client.waits (asked_numbered n asked) side answer missed) _ _ _ _ (sym (line_outcome_numbered n side (is_inside client.lines) asked old answer missed)) (sym (after_numbered n asked answer old (never n refl)))
    (client_alike number (with_draw (Some n) client) side (asked_numbered n asked) answer missed (drawn_request (Some n) old) (waits_numbered n client old waits) (asks_so n client asked next) (heard_numbered n side asked answer missed heard) rests))

-- A CLIENT THAT IS LOST HAS NOTHING OPEN

gone_marked : (client : Reached) (line : ScriptLine) (lines : List ScriptLine) → client.left ≡ line ∷ lines → (side : Side) (reply : Option Reply) → going_of (client_after (Marked (marks.Lost side) reply) client) ≡ not_going
gone_marked client line lines left side reply = ap (λ (l : List ScriptLine). going_of (marked client (marks.Lost side) reply l)) left

gone_cut : (client : Reached) (old : Option Request) → LineWaits client old → (answer : Answer) (missed : Option Answer) → going_of (client_after (became_in client.waits Cut None answer missed) client) ≡ not_going
gone_cut client old (Free free none) answer missed = ap (λ (b : Bool). going_of (client_after (cut_off b) client)) free
gone_cut client old (Held line lines held left some) answer missed = ap (λ (b : Bool). going_of (client_after (cut_off b) client)) held ∙ gone_marked client line lines left Before None

left_some : (asked : Asked) (answer : Answer) (session : ℕ) → IsLineAnswer answer → (asked ≡ Cut → ⊥) → is_command asked ≡ false → session_left asked answer session ≡ Some session
left_some (Call request) (answers.Ok count) session is called call = refl
left_some (Call request) (answers.Rows rows) session is called call = refl
left_some (Call request) (answers.Refused refusal column) session is called call = refl
left_some (Call request) (answers.Waits by) session is called call = refl
left_some (Call request) (answers.TimedOut waited) session is called call = refl
left_some (Call request) answers.Lost session is called call = absurd is
left_some (Call request) other session is called call = refl
left_some Poll answers.Lost session is called call = absurd is
left_some Poll other session is called call = refl
left_some (Command word) answer session is called call = absurd (true≢false call)
left_some Cut answer session is called call = absurd (called refl)

pub client_gone : (client : Reached) (side : Option Side) (asked : Asked) (answer : Answer) (missed : Option Answer) (old : Option Request) (session : ℕ) → LineWaits client old → AsksNext client asked → HeardSo side asked answer missed → session_left asked answer session ≡ None
    → going_of (client_after (became_in client.waits asked side answer missed) client) ≡ not_going
client_gone client side asked answer missed old session waits (IsCut asks) (Heard none is) left = rw (none, asks) (gone_cut client old waits answer missed)
client_gone client side asked answer missed old session waits (IsCut asks) (CutOff none also) left = rw (none, asks) (gone_cut client old waits answer missed)
client_gone client side asked answer missed old session waits (IsCut asks) (LostAt lost called at same is) left = absurd (called asks)
client_gone client side asked answer missed old session waits (Calls line lines free more asks) (LostAt lost called at same is) left = rw (at, asks) (gone_marked client line lines more (lost_side (Some lost) missed) None)
client_gone client side asked answer missed old session waits (Polls held asks) (LostAt lost called at same is) left =
    not_waiting client old _ waits held (λ line lines more some. rw (at, asks) (gone_marked client line lines more (lost_side (Some lost) missed) None))
client_gone client side asked answer missed old session waits (Calls line lines free more asks) (CutOff none also) left = absurd (call_cut (word_asks line.word) (sym asks ∙ also)) where
  call_cut : (request : Request) → Call request ≡ Cut → ⊥
  call_cut request same = cc
client_gone client side asked answer missed old session waits (Polls held asks) (CutOff none also) left = absurd (poll_cut (sym asks ∙ also)) where
  poll_cut : Poll ≡ Cut → ⊥
  poll_cut same = cc
client_gone client side asked answer missed old session waits (Calls line lines free more asks) (Heard none is) left = absurd (some_none (sym (left_some (Call (word_asks line.word)) answer session is (λ same. cc) refl) ∙ ap (λ (a : Asked). session_left a answer session) (sym asks) ∙ left)) where
  some_none : Some session ≡ None → ⊥
  some_none same = cc
client_gone client side asked answer missed old session waits (Polls held asks) (Heard none is) left = absurd (some_none (sym (left_some Poll answer session is (λ same. cc) refl) ∙ ap (λ (a : Asked). session_left a answer session) (sym asks) ∙ left)) where
  some_none : Some session ≡ None → ⊥
  some_none same = cc

left_numbered : (n : ℕ) (asked : Asked) (answer : Answer) (session : ℕ) → session_left (asked_numbered n asked) answer session ≡ session_left asked answer session
left_numbered n (Call request) answers.Lost session = refl
left_numbered n (Call request) other session = refl
left_numbered n Poll answer session = refl
left_numbered n (Command word) answer session = refl
left_numbered n Cut answer session = refl

pub drawn_gone : (client : Reached) (side : Option Side) (asked : Asked) (answer : Answer) (missed : Option Answer) (draw : Option ℕ) (old : Option Request) (session : ℕ) → LineWaits client old → AsksNext client asked → HeardSo side asked answer missed → session_left asked answer session ≡ None
    → going_of (client_after (became_in client.waits asked side answer missed) (with_draw draw client)) ≡ not_going
drawn_gone client side asked answer missed None old session waits next heard left = client_gone client side asked answer missed old session waits next heard left
drawn_gone client side asked answer missed (Some n) old session waits next heard left =
    ap (λ (b : Became). going_of (client_after b (with_draw (Some n) client))) (sym (became_numbered n client.waits asked side answer missed))
    ∙ client_gone (with_draw (Some n) client) side (asked_numbered n asked) answer missed (drawn_request (Some n) old) session (waits_numbered n client old waits) (asks_so n client asked next) (heard_numbered n side asked answer missed heard) (left_numbered n asked answer session ∙ left)

-- a number changes nothing of what the client has so far
pub drawn_going : (draw : Option ℕ) (client : Reached) → going_of (with_draw draw client) ≡ going_of client
drawn_going None client = refl
drawn_going (Some n) client = refl

pub drawn_named : (mine : List (List ℕ)) (draw : Option ℕ) (client : Reached) → AllByRecursion (λ line. NamesTable mine line.word) client.left → AllByRecursion (λ line. NamesTable mine line.word) (with_draw draw client).left
drawn_named mine None client all = all
drawn_named mine (Some n) client all = by client.left all where
  one : (word : ScriptWord) → NamesTable mine word → NamesTable mine (word_numbered (Some n) word)
  one words.Begin named = named
  one words.Commit named = named
  one words.Rollback named = named
  one (words.Do statement) named = subst (λ (name : List ℕ). list_any (bytes_eq name) mine ≡ true) (sym (numbered_table (Some n) statement)) named

  by : (lines : List ScriptLine) → AllByRecursion (λ line. NamesTable mine line.word) lines → AllByRecursion (λ line. NamesTable mine line.word) (lines_drawn n lines)
  by [] all = tt
  by (line ∷ lines) all = (one line.word all.0, all.1)

-- a turn that draws waits for nothing
pub drawn_no_wait : (side : Option Side) (state : State) (number : ℕ) (asked : Asked) (n by : ℕ) → drawn_side side state number asked ≡ Some n → answer_at side (serves state number asked).answer ≡ answers.Waits by → ⊥
drawn_no_wait None state number asked n by some waits = none (sym (ap (λ (a : Answer). drawn_by state number (asks_for state number asked) a) waits) ∙ some) where
  none : None ≡ Some n → ⊥
  none same = cc
drawn_no_wait (Some Before) state number asked n by none waits = absurd (cc)
drawn_no_wait (Some After) state number asked n by some waits = absurd (cc)

-- THE SCRIPT THAT IS LEFT

after_all : (P : ScriptLine → Type 0) (lines : List ScriptLine) → AllByRecursion P lines → AllByRecursion P (after_transaction lines)
after_all P [] all = tt
after_all P (line ∷ lines) all = at (closes line.word) (after_all P lines all.1) where
  at : (b : Bool) → AllByRecursion P (after_transaction lines) → AllByRecursion P (cond b lines (after_transaction lines))
  at true rest = all.1
  at false rest = rest

left_all : (P : ScriptLine → Type 0) (inside : Bool) (mark : Mark) (line : ScriptLine) (lines : List ScriptLine) → AllByRecursion P (line ∷ lines) → AllByRecursion P (left_after inside mark line lines)
left_all P true marks.Answered line lines all = all.1
left_all P true marks.TimedOut line lines all = after_all P (line ∷ lines) all
left_all P true (marks.Lost side) line lines all = all.1
left_all P false marks.Answered line lines all = all.1
left_all P false marks.TimedOut line lines all = all.1
left_all P false (marks.Lost side) line lines all = all.1

-- what holds of every line that is left holds of those that a turn leaves
pub lines_stay : (P : ScriptLine → Type 0) (became : Became) (client : Reached) → AllByRecursion P client.left → AllByRecursion P (client_after became client).left
lines_stay P Nothing client all = all
lines_stay P Waits client all = all
lines_stay P Broken client all = all
lines_stay P (Marked mark reply) client all = at client.left refl all where
  at : (left : List ScriptLine) → client.left ≡ left → AllByRecursion P left → AllByRecursion P (marked client mark reply left).left
  at [] is some = all
  at (line ∷ lines) is some = left_all P (is_inside client.lines) mark line lines some
