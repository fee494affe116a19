-- What a turn of its own makes of what is kept of a client.
use Rattle.std.proofs.Common.{◌≡◌, ◌≤◌, ℕ, suc, ◌+◌, ◌-◌, ◌==◌, Bool, true, false, not, ◌&&◌, List, [], ◌∷◌, ◌++◌, length, drop, cond, Option, Some, None, refl, sym, ap, ◌∙◌, subst, append-nil, length-append, arith}
use Rattle.std.specs.Prelude.{option_to_list}
use Rattle.std.specs.Option.{option_or}
use Rattle.std.proofs.lemmas.Bool.{ne_eqb}
use Rattle.std.proofs.lemmas.List.{drop_all, map-append, drop-append-le}
use Rattle.base_script.specs.declared.script.ScriptLine.{ScriptLine}
use Rattle.base_script.specs.declared.script.ScriptWord.{ScriptWord}
use Rattle.base_script.specs.declared.script.ScriptWord.TheVariants as words
use Rattle.server_model.specs.declared.transaction.Mark.{Mark}
use Rattle.server_model.specs.declared.transaction.Mark.TheVariants as marks
use Rattle.server_model.specs.declared.transaction.Reply.{Reply}
use Rattle.server_model.specs.declared.transaction.TxnEnd.{TxnEnd}
use Rattle.server_model.specs.declared.transaction.TxnLine.{TxnLine}
use Rattle.run_actors.specs.declared.client_turns.actor_state.ClientState.{ClientState}
use Rattle.run_actors.specs.declared.client_turns.outcome.LineOutcome.{LineOutcome}
use Rattle.run_actors.specs.ClientTurns.ActorStates.{IsReached, line_outcome_as}
use Rattle.run_actors.specs.ClientTurns.DrawnLines.{left_drawn}
use Rattle.tool_program.specs.JournalWords.Clients.{Became, Nothing, Waits, Marked, Broken, Reached, after_transaction, client_after, ends_with, is_inside, kept_unless, with_draw, with_line, with_reply}
use Rattle.tool_program.specs.JournalWords.Histories.{client_ends, breaks, ends_so}
use Rattle.run_audit.specs.declared.line.LineAnswer.{LineAnswer}
use Rattle.run_audit.specs.declared.line.LineAsked.{LineAsked}
use Rattle.run_audit.specs.declared.line.LineAsked.TheVariants.{Call, Rename, Poll, Cut, Word}
use Rattle.run_audit.specs.Audits.{judged_of, last_of, reply_turn}
use Rattle.run_audit.specs.Rules.{asks_next, became_of_line, client_after_line, left_by, left_outside}
use Rattle.tool_program.proofs.JournalWords.Lines.{inside_more}
use Rattle.run_judge.specs.declared.replies.TurnReply.{TurnReply}
use Rattle.run_judge.specs.declared.trace_client.RepliedTxn.{RepliedTxn}
use Rattle.run_judge.specs.declared.trace_client.TraceClient.{TraceClient}
use Rattle.run_judge.specs.Replies.{replies_of, reply_as, reply_in, turns_of}
use Rattle.run_judge.specs.TraceClients.{AreJudged, IsFollowed, IsReachedWith, drawn_after, ended_txn, has_ended, is_begin, marked_line, no_txn, outcome_line, skips, without_ended}
use Rattle.run_judge.proofs.DrawnClients.{asks_drawn, is_reached, reached_after, reached_drawn, undrawn}
use Rattle.run_judge.proofs.LineOutcomes.{cut_replies}

-- ---- replies that are kept

abbrev turn_of : ℕ → Option Reply → List ℕ
turn_of turn None = []
turn_of turn (Some reply) = turn ∷ []

turn_is : (turn : ℕ) (became : Became) → reply_turn turn became ≡ turn_of turn (reply_in became)
turn_is turn Nothing = refl
turn_is turn Waits = refl
turn_is turn (Marked mark None) = refl
turn_is turn (Marked mark (Some reply)) = refl
turn_is turn Broken = refl

pub replied : (old now : List TurnReply) (one : TurnReply) (reply : Option Reply) → now ≡ old ++ one ∷ [] → Some (reply_as one.reply) ≡ reply → replies_of now ≡ replies_of old ++ option_to_list reply
replied old now one reply is same = ap replies_of is ∙ map-append (λ (r : TurnReply). reply_as r.reply) old (one ∷ []) ∙ ap (λ (r : Option Reply). replies_of old ++ option_to_list r) same

pub replied_turn : (old now : List TurnReply) (one : TurnReply) (became : Became) → now ≡ old ++ one ∷ [] → Some (reply_as one.reply) ≡ reply_in became → turns_of now ≡ turns_of old ++ reply_turn one.turn became
replied_turn old now one became is same = ap turns_of is ∙ map-append (λ (r : TurnReply). r.turn) old (one ∷ []) ∙ ap (λ (r : Option Reply). turns_of old ++ turn_of one.turn r) same ∙ ap (λ (t : List ℕ). turns_of old ++ t) (sym (turn_is one.turn became))

pub unreplied : (old now : List TurnReply) (reply : Option Reply) → now ≡ old → None ≡ reply → replies_of now ≡ replies_of old ++ option_to_list reply
unreplied old now reply is same = ap replies_of is ∙ sym (append-nil (replies_of old)) ∙ ap (λ (r : Option Reply). replies_of old ++ option_to_list r) same

pub unreplied_turn : (old now : List TurnReply) (turn : ℕ) (became : Became) → now ≡ old → None ≡ reply_in became → turns_of now ≡ turns_of old ++ reply_turn turn became
unreplied_turn old now turn became is same =
    ap turns_of is ∙ sym (append-nil (turns_of old)) ∙ ap (λ (r : Option Reply). turns_of old ++ turn_of turn r) same ∙ ap (λ (t : List ℕ). turns_of old ++ t) (sym (turn_is turn became))

-- ---- a BEGIN that timed out

abbrev left_as : Bool → ScriptWord → List ScriptLine → List ScriptLine
left_as skip word lines = cond skip (after_transaction lines) lines

outside_is : (word : ScriptWord) (lines : List ScriptLine) → left_outside word lines ≡ left_as (is_begin word) word lines
outside_is words.Begin lines = refl
outside_is words.Commit lines = refl
outside_is words.Rollback lines = refl
outside_is (words.Do statement) lines = refl

-- what is left after a line, where its transaction is left out or isn't
left_is : (became : Became) (inside : Bool) (left after : List ScriptLine) → ((line : ScriptLine) (lines : List ScriptLine) (reply : Option Reply) → became ≡ Marked marks.TimedOut reply → inside ≡ false → left ≡ line ∷ lines → after ≡ lines)
    → left_by became inside left after ≡ cond (skips (line_outcome_as became) inside left) (after_transaction after) after
left_is Nothing true left after same = refl
left_is Nothing false left after same = refl
left_is Waits true left after same = refl
left_is Waits false left after same = refl
left_is Broken true left after same = refl
left_is Broken false left after same = refl
left_is (Marked marks.Answered reply) true left after same = refl
left_is (Marked marks.Answered reply) false left after same = refl
left_is (Marked (marks.Lost side) reply) true left after same = refl
left_is (Marked (marks.Lost side) reply) false left after same = refl
left_is (Marked marks.TimedOut reply) true left after same = refl
left_is (Marked marks.TimedOut reply) false [] after same = refl
left_is (Marked marks.TimedOut reply) false (line ∷ lines) after same =
    outside_is line.word lines ∙ ap (λ (rest : List ScriptLine). cond (is_begin line.word) (after_transaction rest) rest) (sym (same line lines reply refl refl refl))

after_outside : (client : Reached) (became : Became) (line : ScriptLine) (lines : List ScriptLine) (reply : Option Reply) → became ≡ Marked marks.TimedOut reply → is_inside client.lines ≡ false → client.left ≡ line ∷ lines → (client_after became client).left ≡ lines
after_outside client became line lines reply is outside left = rw (is, left, outside) refl

after_is : (client : Reached) (became : Became) → client_after_line became client ≡ record (client_after became client) { left = cond (skips (line_outcome_as became) (is_inside client.lines) client.left) (after_transaction (client_after became client).left) (client_after became client).left }
after_is client became = ap (λ (left : List ScriptLine). record (client_after became client) { left = left }) (left_is became (is_inside client.lines) client.left (client_after became client).left (after_outside client became))

skip_same : (script : List ScriptLine) (state : ClientState) (client : Reached) (outcome : LineOutcome) (became : Became) (b : Bool) → outcome ≡ line_outcome_as became → IsReached script state client
    → skips outcome state.is_inside (drop state.place script) ≡ b → skips (line_outcome_as became) (is_inside client.lines) client.left ≡ b
skip_same script state client outcome became b is reached same = rw (reached.inside, reached.left, sym is) same

pub skipped : (script : List ScriptLine) (old now : ClientState) (client : Reached) (outcome : LineOutcome) (became : Became) → outcome ≡ line_outcome_as became → IsReached script old client → skips outcome old.is_inside (drop old.place script) ≡ true
    → IsReached script now (record (client_after became client) { left = after_transaction (client_after became client).left }) → IsReached script now (client_after_line became client)
skipped script old now client outcome became is reached skip after =
    subst (IsReached script now) (sym (after_is client became ∙ ap (λ (b : Bool). record (client_after became client) { left = cond b (after_transaction (client_after became client).left) (client_after became client).left }) (skip_same script old client outcome became true is reached skip))) after

pub unskipped : (script : List ScriptLine) (old now : ClientState) (client : Reached) (outcome : LineOutcome) (became : Became) → outcome ≡ line_outcome_as became → IsReached script old client → skips outcome old.is_inside (drop old.place script) ≡ false
    → IsReached script now (client_after became client) → IsReached script now (client_after_line became client)
unskipped script old now client outcome became is reached skip after =
    subst (IsReached script now) (sym (after_is client became ∙ ap (λ (b : Bool). record (client_after became client) { left = cond b (after_transaction (client_after became client).left) (client_after became client).left }) (skip_same script old client outcome became false is reached skip))) after

-- ---- before the first turn

pub begins_followed : (script left : List ScriptLine) (state : ClientState) (client : Reached) → client.lines ≡ [] → client.replies ≡ [] → IsReached script state client → IsFollowed script (record { state = state; drawn = None; txn = no_txn }) client []
begins_followed script left state client no_lines no_replies reached = record {
  reached = record { left = reached.left; inside = reached.inside; waits = reached.waits; lost = reached.lost };
  lines = no_lines;
  replies = no_replies;
  turns_are = sym (ap (λ (all : List Reply). last_of (length all) []) no_replies);
  enough = subst (λ (all : List Reply). length all ≤ 0) (sym no_replies) (omega arith);
  idle = λ none. no_replies;
}

-- ---- the last of some turns

last_more : (count : ℕ) (turns more : List ℕ) → count ≤ length turns → last_of (count + length more) (turns ++ more) ≡ last_of count turns ++ more
last_more count turns more enough =
    let all : length (turns ++ more) ≡ length turns + length more = length-append turns more in
    let same : length (turns ++ more) - (count + length more) ≡ length turns - count = omega (arith, all, enough) in
    let few : length turns - count ≤ length turns = omega arith in
    ap (λ (n : ℕ). drop n (turns ++ more)) same ∙ drop-append-le (length turns - count) turns more few

last_none : (turns : List ℕ) → last_of 0 turns ≡ []
last_none turns = drop_all (length turns - 0) turns (omega arith)

turn_count : (turn : ℕ) (became : Became) → length (reply_turn turn became) ≡ length (option_to_list (reply_in became))
turn_count turn Nothing = refl
turn_count turn Waits = refl
turn_count turn (Marked mark None) = refl
turn_count turn (Marked mark (Some reply)) = refl
turn_count turn Broken = refl

-- the replies with one more, and their turns
last_replied : (turns : List ℕ) (turn : ℕ) (became : Became) (replies : List Reply) → length replies ≤ length turns
    → last_of (length (replies ++ option_to_list (reply_in became))) (turns ++ reply_turn turn became) ≡ last_of (length replies) turns ++ reply_turn turn became
last_replied turns turn became replies enough =
    let all : length (replies ++ option_to_list (reply_in became)) ≡ length replies + length (reply_turn turn became) = length-append replies (option_to_list (reply_in became)) ∙ ap (λ (n : ℕ). length replies + n) (sym (turn_count turn became)) in
    ap (λ (n : ℕ). last_of n (turns ++ reply_turn turn became)) all ∙ last_more (length replies) turns (reply_turn turn became) enough

enough_replied : (turns : List ℕ) (turn : ℕ) (became : Became) (replies : List Reply) → length replies ≤ length turns → length (replies ++ option_to_list (reply_in became)) ≤ length (turns ++ reply_turn turn became)
enough_replied turns turn became replies enough =
    let all : length (replies ++ option_to_list (reply_in became)) ≡ length replies + length (option_to_list (reply_in became)) = length-append replies (option_to_list (reply_in became)) in
    let some : length (turns ++ reply_turn turn became) ≡ length turns + length (reply_turn turn became) = length-append turns (reply_turn turn became) in
    let same : length (reply_turn turn became) ≡ length (option_to_list (reply_in became)) = turn_count turn became in
    omega (arith, all, some, same, enough)

-- ---- the transaction with the line and its reply

-- what was added is what became of the line
pub record IsPushed (client : Reached) (turns : List ℕ) (turn : ℕ) (became : Became) (txn : RepliedTxn) : Type 0 where
  pub lines : txn.lines ≡ client.lines ++ outcome_line (line_outcome_as became) client.left
  pub replies : replies_of txn.replies ≡ client.replies ++ option_to_list (reply_in became)
  pub turns_are : turns_of txn.replies ≡ last_of (length client.replies) turns ++ reply_turn turn became

-- the client after it
pub record Follows (script : List ScriptLine) (kept : TraceClient) (client : Reached) (turns : List ℕ) (turn : ℕ) (became : Became) : Type 0 where
  pub followed : IsFollowed script (without_ended kept) (client_after_line became client) (turns ++ reply_turn turn became)
  pub judged : (number : ℕ) → AreJudged (judged_of (turns ++ reply_turn turn became) (client_ends number client became)) (ended_txn kept)

abbrev kept_as : Bool → TraceClient → TraceClient
kept_as b kept = cond b (record kept { txn = no_txn }) kept

abbrev txn_as : Bool → TraceClient → Option RepliedTxn
txn_as b kept = cond b (Some kept.txn) None

none_inside : (lines : List TxnLine) (inside : Bool) → is_inside lines ≡ inside → (not inside && not (length lines == 0)) ≡ false
none_inside [] true is = absurd (cc)
none_inside [] false is = refl
none_inside (line ∷ lines) true is = refl
none_inside (line ∷ lines) false is = absurd (cc)

some_outside : (lines : List TxnLine) (inside : Bool) → inside ≡ false → is_inside lines ≡ true → (not inside && not (length lines == 0)) ≡ true
some_outside [] inside out is = absurd (cc)
some_outside (line ∷ lines) inside out is = ap (λ (b : Bool). not b && not (suc (length lines) == 0)) out ∙ ap not (ne_eqb (suc (length lines)) 0 (λ e. omega (arith, e)))

outside_none : (lines : List TxnLine) → is_inside lines ≡ false → lines ≡ []
outside_none [] is = refl
outside_none (line ∷ lines) is = absurd (cc)

-- the transaction goes on
goes_on : (script : List ScriptLine) (kept : TraceClient) (client after : Reached) (turns : List ℕ) (turn : ℕ) (became : Became) → length client.replies ≤ length turns → IsPushed client turns turn became kept.txn → IsReachedWith script kept.drawn kept.state after
    → after.lines ≡ kept.txn.lines → after.replies ≡ client.replies ++ option_to_list (reply_in became) → (after.lines ≡ [] → after.replies ≡ []) → IsFollowed script kept after (turns ++ reply_turn turn became)
goes_on script kept client after turns turn became enough pushed reached lines replies idle = record {
  reached = reached;
  lines = lines;
  replies = replies ∙ sym pushed.replies;
  turns_are = pushed.turns_are ∙ sym (last_replied turns turn became client.replies enough) ∙ ap (λ (all : List Reply). last_of (length all) (turns ++ reply_turn turn became)) (sym replies);
  enough = subst (λ (all : List Reply). length all ≤ length (turns ++ reply_turn turn became)) (sym replies) (enough_replied turns turn became client.replies enough);
  idle = idle;
}

-- ... or ended
over_now : (script : List ScriptLine) (state : ClientState) (drawn : Option ℕ) (after : Reached) (turns : List ℕ) → IsReachedWith script drawn state after → after.lines ≡ [] → after.replies ≡ [] → IsFollowed script (record { state = state; drawn = drawn; txn = no_txn }) after turns
over_now script state drawn after turns reached lines replies = record {
  reached = reached;
  lines = lines;
  replies = replies;
  turns_are = sym (last_none turns) ∙ ap (λ (all : List Reply). last_of (length all) turns) (sym replies);
  enough = subst (λ (all : List Reply). length all ≤ length turns) (sym replies) (omega arith);
  idle = λ none. replies;
}

-- both, of a client whose transaction goes on
going : (script : List ScriptLine) (kept : TraceClient) (client : Reached) (turns : List ℕ) (turn : ℕ) (became : Became) → is_inside (client_after_line became client).lines ≡ kept.state.is_inside → (client_after_line became client).lines ≡ kept.txn.lines
    → ((number : ℕ) → client_ends number client became ≡ []) → IsFollowed script kept (client_after_line became client) (turns ++ reply_turn turn became) → Follows script kept client turns turn became
going script kept client turns turn became inside lines none followed =
    let b : has_ended kept ≡ false = none_inside kept.txn.lines kept.state.is_inside (ap is_inside (sym lines) ∙ inside) in
    record {
      followed = subst (λ (all : TraceClient). IsFollowed script all (client_after_line became client) (turns ++ reply_turn turn became)) (sym (ap (λ (c : Bool). kept_as c kept) b)) followed;
      judged = λ number.
          subst (AreJudged (judged_of (turns ++ reply_turn turn became) (client_ends number client became))) (sym (ap (λ (c : Bool). txn_as c kept) b))
          (subst (λ items. AreJudged (judged_of (turns ++ reply_turn turn became) items) None) (sym (none number)) tt);
    }

-- ... and of one whose transaction ended
ended : (script : List ScriptLine) (kept : TraceClient) (client : Reached) (turns : List ℕ) (turn : ℕ) (became : Became) → kept.state.is_inside ≡ false → is_inside kept.txn.lines ≡ true
    → IsFollowed script (record kept { txn = no_txn }) (client_after_line became client) (turns ++ reply_turn turn became) → ((number : ℕ) → AreJudged (judged_of (turns ++ reply_turn turn became) (client_ends number client became)) (Some kept.txn))
    → Follows script kept client turns turn became
ended script kept client turns turn became out inside followed judged =
    let b : has_ended kept ≡ true = some_outside kept.txn.lines kept.state.is_inside out inside in
    record {
      followed = subst (λ (all : TraceClient). IsFollowed script all (client_after_line became client) (turns ++ reply_turn turn became)) (sym (ap (λ (c : Bool). kept_as c kept) b)) followed;
      judged = λ number. subst (AreJudged (judged_of (turns ++ reply_turn turn became) (client_ends number client became))) (sym (ap (λ (c : Bool). txn_as c kept) b)) (judged number);
    }

-- ---- what became of the line

-- nothing was added
still : (script : List ScriptLine) (kept : TraceClient) (client : Reached) (turns : List ℕ) (turn : ℕ) (became : Became) → length client.replies ≤ length turns → (client.lines ≡ [] → client.replies ≡ []) → IsPushed client turns turn became kept.txn
    → IsReachedWith script kept.drawn kept.state (client_after_line became client) → (client_after_line became client).lines ≡ client.lines → (client_after_line became client).replies ≡ client.replies → outcome_line (line_outcome_as became) client.left ≡ [] → reply_in became ≡ None
    → ((number : ℕ) → client_ends number client became ≡ []) → Follows script kept client turns turn became
still script kept client turns turn became enough idle pushed reached lines replies no_line no_reply none =
    let same : (client_after_line became client).lines ≡ kept.txn.lines = lines ∙ sym (append-nil client.lines) ∙ ap (λ more. client.lines ++ more) (sym no_line) ∙ sym pushed.lines in
    going script kept client turns turn became reached.inside same none
    (goes_on script kept client (client_after_line became client) turns turn became enough pushed reached same (replies ∙ sym (append-nil client.replies) ∙ ap (λ (r : Option Reply). client.replies ++ option_to_list r) (sym no_reply))
    (λ nothing. replies ∙ idle (sym lines ∙ nothing)))

broken_by : (script : List ScriptLine) (kept : TraceClient) (client : Reached) (turns : List ℕ) (turn : ℕ) (inside : Bool) → is_inside client.lines ≡ inside → IsFollowed script kept client turns → (state : ClientState) (drawn : Option ℕ) (txn : RepliedTxn)
    → IsPushed client turns turn Broken txn → IsReachedWith script drawn state (client_after_line Broken client) → Follows script (record { state = state; drawn = drawn; txn = txn }) client turns turn Broken
broken_by script kept client turns turn true inside old state drawn txn pushed reached =
    let lines : txn.lines ≡ client.lines = pushed.lines ∙ append-nil client.lines in
    ended script (record { state = state; drawn = drawn; txn = txn }) client turns turn Broken (sym reached.inside) (ap is_inside lines ∙ inside) (over_now script state drawn (client_after_line Broken client) (turns ++ []) reached refl refl)
    (λ number. subst (λ (b : Bool). AreJudged (judged_of (turns ++ []) (breaks number client b)) (Some txn)) (sym inside)
    (sym lines, sym (append-nil client.replies) ∙ sym pushed.replies, ap (last_of (length client.replies)) (append-nil turns) ∙ sym (append-nil (last_of (length client.replies) turns)) ∙ sym pushed.turns_are))
broken_by script kept client turns turn false inside old state drawn txn pushed reached =
    let none : client.lines ≡ [] = outside_none client.lines inside in
    let lines : [] ≡ txn.lines = sym (pushed.lines ∙ append-nil client.lines ∙ none) in
    let replies : client.replies ≡ [] = old.idle none in
    going script (record { state = state; drawn = drawn; txn = txn }) client turns turn Broken reached.inside lines (λ number. ap (breaks number client) inside)
    (goes_on script (record { state = state; drawn = drawn; txn = txn }) client (client_after_line Broken client) turns turn Broken old.enough pushed reached lines (sym replies ∙ sym (append-nil client.replies)) (λ nothing. refl))

abbrev judged_end : ℕ → Reached → ScriptLine → Mark → Option Reply → List ℕ → Option TxnEnd → Option RepliedTxn → Type 0
judged_end number client line mark reply turns end txn = AreJudged (judged_of turns (ends_so number client line mark reply end)) txn

marked_by : (script : List ScriptLine) (client : Reached) (turns : List ℕ) (turn : ℕ) (mark : Mark) (reply : Option Reply) (line : ScriptLine) (lines : List ScriptLine) (end : Option TxnEnd) → ends_with (is_inside client.lines) line.word mark ≡ end
    → client.left ≡ line ∷ lines → length client.replies ≤ length turns → (state : ClientState) (drawn : Option ℕ) (txn : RepliedTxn) → IsPushed client turns turn (Marked mark reply) txn → IsReachedWith script drawn state (client_after_line (Marked mark reply) client)
    → Follows script (record { state = state; drawn = drawn; txn = txn }) client turns turn (Marked mark reply)
marked_by script client turns turn mark reply line lines None is left enough state drawn txn pushed reached =
    let after : Reached = client_after_line (Marked mark reply) client in
    let its_lines : after.lines ≡ with_line client line.word mark = rw left (ap (λ (e : Option TxnEnd). kept_unless e (with_line client line.word mark)) is) in
    let its_replies : after.replies ≡ with_reply client reply = rw left (ap (λ (e : Option TxnEnd). kept_unless e (with_reply client reply)) is) in
    let same : after.lines ≡ txn.lines = its_lines ∙ ap (λ (all : List ScriptLine). client.lines ++ marked_line mark all) (sym left) ∙ sym pushed.lines in
    going script (record { state = state; drawn = drawn; txn = txn }) client turns turn (Marked mark reply) reached.inside same (λ number. rw left (ap (ends_so number client line mark reply) is))
    (goes_on script (record { state = state; drawn = drawn; txn = txn }) client after turns turn (Marked mark reply) enough pushed reached same its_replies
    (λ nothing. absurd (let some : is_inside (with_line client line.word mark) ≡ true = inside_more client.lines (record { word = line.word; mark = mark }) in let empty : is_inside (with_line client line.word mark) ≡ false = ap is_inside (sym its_lines ∙ nothing) in cc (some, empty))))
marked_by script client turns turn mark reply line lines (Some end) is left enough state drawn txn pushed reached =
    let after : Reached = client_after_line (Marked mark reply) client in
    let its_lines : after.lines ≡ [] = rw left (ap (λ (e : Option TxnEnd). kept_unless e (with_line client line.word mark)) is) in
    let its_replies : after.replies ≡ [] = rw left (ap (λ (e : Option TxnEnd). kept_unless e (with_reply client reply)) is) in
    let pushed_lines : txn.lines ≡ with_line client line.word mark = pushed.lines ∙ ap (λ (all : List ScriptLine). client.lines ++ marked_line mark all) left in
    ended script (record { state = state; drawn = drawn; txn = txn }) client turns turn (Marked mark reply) (sym reached.inside ∙ ap is_inside its_lines) (ap is_inside pushed_lines ∙ inside_more client.lines (record { word = line.word; mark = mark }))
    (over_now script state drawn after (turns ++ reply_turn turn (Marked mark reply)) reached its_lines its_replies)
    (λ number. rw left (subst (λ (e : Option TxnEnd). judged_end number client line mark reply (turns ++ reply_turn turn (Marked mark reply)) e (Some txn)) (sym is)
    (sym pushed_lines, sym pushed.replies, last_replied turns turn (Marked mark reply) client.replies enough ∙ sym pushed.turns_are)))

no_line_by : (waits : Bool) (left : List ScriptLine) (asked : LineAsked) (answer : LineAnswer) → left ≡ [] → asks_next waits left asked ≡ true → reply_in (became_of_line waits asked answer) ≡ None
no_line_by waits left Cut answer none asks = cut_replies waits Cut answer refl
no_line_by waits left Call answer none asks = absurd (let no : asks_next waits left Call ≡ false = rw none refl in cc (no, asks))
no_line_by waits left Rename answer none asks = absurd (let no : asks_next waits left Rename ≡ false = rw none refl in cc (no, asks))
no_line_by waits left Poll answer none asks = absurd (let no : asks_next waits left Poll ≡ false = rw none refl in cc (no, asks))
no_line_by waits left Word answer none asks = absurd (let no : asks_next waits left Word ≡ false = rw none refl in cc (no, asks))

-- a client after its turn, and what it ended
follows_by : (script : List ScriptLine) (kept : TraceClient) (client : Reached) (turns : List ℕ) (turn : ℕ) (became : Became) (left : List ScriptLine) → client.left ≡ left → (left ≡ [] → reply_in became ≡ None) → IsFollowed script kept client turns → (state : ClientState) (drawn : Option ℕ) (txn : RepliedTxn)
    → IsPushed client turns turn became txn → IsReachedWith script drawn state (client_after_line became client) → Follows script (record { state = state; drawn = drawn; txn = txn }) client turns turn became
follows_by script kept client turns turn Nothing left is none old state drawn txn pushed reached = still script (record { state = state; drawn = drawn; txn = txn }) client turns turn Nothing old.enough old.idle pushed reached refl refl refl refl (λ number. refl)
follows_by script kept client turns turn Waits left is none old state drawn txn pushed reached = still script (record { state = state; drawn = drawn; txn = txn }) client turns turn Waits old.enough old.idle pushed reached refl refl refl refl (λ number. refl)
follows_by script kept client turns turn Broken left is none old state drawn txn pushed reached = broken_by script kept client turns turn (is_inside client.lines) refl old state drawn txn pushed reached
follows_by script kept client turns turn (Marked mark reply) [] is none old state drawn txn pushed reached =
    still script (record { state = state; drawn = drawn; txn = txn }) client turns turn (Marked mark reply) old.enough old.idle pushed reached (rw is refl) (rw is refl) (rw is refl) (none refl) (λ number. rw is refl)
follows_by script kept client turns turn (Marked mark reply) (line ∷ lines) is none old state drawn txn pushed reached =
    marked_by script client turns turn mark reply line lines (ends_with (is_inside client.lines) line.word mark) refl is old.enough state drawn txn pushed reached

pub follows : (script : List ScriptLine) (kept : TraceClient) (client : Reached) (turns : List ℕ) (turn : ℕ) (asked : LineAsked) (answer : LineAnswer) (state : ClientState) (drawn : Option ℕ) (txn : RepliedTxn) → IsFollowed script kept client turns
    → asks_next client.waits client.left asked ≡ true → IsPushed client turns turn (became_of_line client.waits asked answer) txn → IsReachedWith script drawn state (client_after_line (became_of_line client.waits asked answer) client)
    → Follows script (record { state = state; drawn = drawn; txn = txn }) client turns turn (became_of_line client.waits asked answer)
follows script kept client turns turn asked answer state drawn txn old asks pushed reached =
    follows_by script kept client turns turn (became_of_line client.waits asked answer) client.left refl (λ none. no_line_by client.waits client.left asked answer none asks) old state drawn txn pushed reached

-- what was added, by what was kept
pub pushes : (script : List ScriptLine) (kept : TraceClient) (client : Reached) (turns : List ℕ) (turn : ℕ) (became : Became) (outcome : LineOutcome) (added txn : RepliedTxn) → IsFollowed script kept client turns → outcome ≡ line_outcome_as became
    → added.lines ≡ kept.txn.lines ++ outcome_line outcome (left_drawn kept.drawn (drop kept.state.place script)) → added.replies ≡ kept.txn.replies → txn.lines ≡ added.lines → replies_of txn.replies ≡ replies_of added.replies ++ option_to_list (reply_in became)
    → turns_of txn.replies ≡ turns_of added.replies ++ reply_turn turn became → IsPushed client turns turn became txn
pushes script kept client turns turn became outcome added txn old is lines same_replies same_lines replies turns_are = record {
  lines = same_lines ∙ lines ∙ ap (λ (all : List TxnLine). all ++ outcome_line outcome (left_drawn kept.drawn (drop kept.state.place script))) (sym old.lines) ∙ ap (λ (o : LineOutcome). client.lines ++ outcome_line o (left_drawn kept.drawn (drop kept.state.place script))) is
      ∙ ap (λ (left : List ScriptLine). client.lines ++ outcome_line (line_outcome_as became) left) (sym old.reached.left);
  replies = replies ∙ ap (λ (all : List TurnReply). replies_of all ++ option_to_list (reply_in became)) same_replies ∙ ap (λ (all : List Reply). all ++ option_to_list (reply_in became)) (sym old.replies);
  turns_are = turns_are ∙ ap (λ (all : List TurnReply). turns_of all ++ reply_turn turn became) same_replies ∙ ap (λ (all : List ℕ). all ++ reply_turn turn became) old.turns_are;
}

-- a turn of the client's, whose number is kept
turned_by : (script left : List ScriptLine) (kept : TraceClient) (client : Reached) (turns : List ℕ) (turn : ℕ) (asked : LineAsked) (answer : LineAnswer) (outcome : LineOutcome) (added txn : RepliedTxn) (state : ClientState) → IsFollowed script kept client turns
    → asks_next client.waits client.left asked ≡ true → outcome ≡ line_outcome_as (became_of_line kept.state.waits asked answer) → left ≡ drop kept.state.place script → added.lines ≡ kept.txn.lines ++ outcome_line outcome (left_drawn kept.drawn left) → added.replies ≡ kept.txn.replies
    → txn.lines ≡ added.lines → ((waits : Bool) → replies_of txn.replies ≡ replies_of added.replies ++ option_to_list (reply_in (became_of_line waits asked answer))) → ((waits : Bool) → turns_of txn.replies ≡ turns_of added.replies ++ reply_turn turn (became_of_line waits asked answer))
    → ((some : Reached) (became : Became) → outcome ≡ line_outcome_as became → IsReached script kept.state some → IsReached script state (client_after_line became some))
    → Follows script (record { state = state; drawn = drawn_after outcome kept.drawn; txn = txn }) client turns turn (became_of_line client.waits asked answer)
turned_by script left kept client turns turn asked answer outcome added txn state old asks is rest lines same_replies same_lines replies turns_are steps =
    let became : Became = became_of_line client.waits asked answer in
    let so : outcome ≡ line_outcome_as became = is ∙ ap (λ (w : Bool). line_outcome_as (became_of_line w asked answer)) (sym old.reached.waits) in
    let reached : IsReachedWith script (drawn_after outcome kept.drawn) state (client_after_line became client) =
    subst (λ (o : LineOutcome). IsReachedWith script (drawn_after o kept.drawn) state (client_after_line became client)) (sym so)
    (reached_after script kept.drawn kept.state state client became old.reached (steps (undrawn script kept.state client) became so (is_reached script kept.drawn kept.state client old.reached))) in
    follows script kept client turns turn asked answer state (drawn_after outcome kept.drawn) txn old asks
    (pushes script kept client turns turn became outcome added txn old so (lines ∙ ap (λ (all : List ScriptLine). kept.txn.lines ++ outcome_line outcome (left_drawn kept.drawn all)) rest) same_replies same_lines (replies client.waits) (turns_are client.waits)) reached

-- the number that its line drew is kept
followed_drawn : (script : List ScriptLine) (number : ℕ) (kept : TraceClient) (client : Reached) (turns : List ℕ) → IsFollowed script kept client turns → IsFollowed script (record kept { drawn = Some number }) (with_draw (Some number) client) turns
followed_drawn script number kept client turns old = record {
  reached = reached_drawn script (Some number) kept.drawn kept.state client old.reached;
  lines = old.lines;
  replies = old.replies;
  turns_are = old.turns_are;
  enough = old.enough;
  idle = old.idle;
}

-- ... whether its line drew one or not
turned_at : (script left : List ScriptLine) (kept : TraceClient) (client : Reached) (turns : List ℕ) (turn : ℕ) (draw : Option ℕ) (asked : LineAsked) (answer : LineAnswer) (outcome : LineOutcome) (added txn : RepliedTxn) (state : ClientState) → IsFollowed script kept client turns
    → asks_next client.waits client.left asked ≡ true → outcome ≡ line_outcome_as (became_of_line kept.state.waits asked answer) → left ≡ drop kept.state.place script → added.lines ≡ kept.txn.lines ++ outcome_line outcome (left_drawn (option_or draw kept.drawn) left)
    → added.replies ≡ kept.txn.replies → txn.lines ≡ added.lines → ((waits : Bool) → replies_of txn.replies ≡ replies_of added.replies ++ option_to_list (reply_in (became_of_line waits asked answer)))
    → ((waits : Bool) → turns_of txn.replies ≡ turns_of added.replies ++ reply_turn turn (became_of_line waits asked answer)) → ((some : Reached) (became : Became) → outcome ≡ line_outcome_as became → IsReached script kept.state some → IsReached script state (client_after_line became some))
    → Follows script (record { state = state; drawn = drawn_after outcome (option_or draw kept.drawn); txn = txn }) (with_draw draw client) turns turn (became_of_line client.waits asked answer)
turned_at script left kept client turns turn None asked answer outcome added txn state old asks = turned_by script left kept client turns turn asked answer outcome added txn state old asks
turned_at script left kept client turns turn (Some number) asked answer outcome added txn state old asks =
    turned_by script left (record kept { drawn = Some number }) (with_draw (Some number) client) turns turn asked answer outcome added txn state (followed_drawn script number kept client turns old) (asks_drawn (Some number) client.waits client.left asked ∙ asks)

-- *A turn of the client's*, by what each step made of what was kept
pub turned : (script left : List ScriptLine) (kept : TraceClient) (client : Reached) (turns : List ℕ) (turn : ℕ) (draw drawn now : Option ℕ) (asked : LineAsked) (answer : LineAnswer) (outcome : LineOutcome) (added txn : RepliedTxn) (state : ClientState) → IsFollowed script kept client turns
    → asks_next client.waits client.left asked ≡ true → drawn ≡ option_or draw kept.drawn → outcome ≡ line_outcome_as (became_of_line kept.state.waits asked answer) → left ≡ drop kept.state.place script → added.lines ≡ kept.txn.lines ++ outcome_line outcome (left_drawn drawn left) → added.replies ≡ kept.txn.replies
    → txn.lines ≡ added.lines → ((waits : Bool) → replies_of txn.replies ≡ replies_of added.replies ++ option_to_list (reply_in (became_of_line waits asked answer))) → ((waits : Bool) → turns_of txn.replies ≡ turns_of added.replies ++ reply_turn turn (became_of_line waits asked answer))
    → ((some : Reached) (became : Became) → outcome ≡ line_outcome_as became → IsReached script kept.state some → IsReached script state (client_after_line became some)) → now ≡ drawn_after outcome drawn
    → Follows script (record { state = state; drawn = now; txn = txn }) (with_draw draw client) turns turn (became_of_line client.waits asked answer)
turned script left kept client turns turn draw drawn now asked answer outcome added txn state old asks draws is rest lines same_replies same_lines replies turns_are steps after =
    subst (λ (d : Option ℕ). Follows script (record { state = state; drawn = d; txn = txn }) (with_draw draw client) turns turn (became_of_line client.waits asked answer)) (sym (after ∙ ap (drawn_after outcome) draws))
    (turned_at script left kept client turns turn draw asked answer outcome added txn state old asks is rest (lines ∙ ap (λ (d : Option ℕ). kept.txn.lines ++ outcome_line outcome (left_drawn d left)) draws) same_replies same_lines replies turns_are steps)
