-- How far a client is in its script, and what its session has on the server.
use Rattle.std.proofs.Common.{◌≡◌, ℕ, zero, suc, ◌-◌, Bool, true, false, cond, List, [], ◌∷◌, Option, Some, None, refl, sym, ap, ◌∙◌, subst}
use Rattle.std.specs.Prelude.{◌==◌, unwrap_or}
use Rattle.std.specs.List.{AllByRecursion, slice_get}
use Rattle.std.proofs.lemmas.Bool.{true≢false}
use Rattle.base_script.specs.declared.actor.Side.{Side}
use Rattle.base_script.specs.declared.actor.Side.TheVariants.{Before}
use Rattle.base_script.specs.declared.script.ScriptLine.{ScriptLine}
use Rattle.base_script.specs.declared.script.ScriptWord.{ScriptWord}
use Rattle.base_script.specs.declared.script.ScriptWord.TheVariants as words
use Rattle.server_model.specs.Alone.{reply_of}
use Rattle.server_model.specs.declared.answer.Answer.{Answer}
use Rattle.server_model.specs.declared.answer.Answer.TheVariants as answers
use Rattle.server_model.specs.declared.entry.Asked.{Asked}
use Rattle.server_model.specs.declared.entry.Asked.TheVariants.{Call, Poll, Command, Cut}
use Rattle.server_model.specs.declared.entry.Entry.{Entry}
use Rattle.server_model.specs.declared.request.Request.{Request}
use Rattle.server_model.specs.declared.transaction.Mark.{Mark}
use Rattle.server_model.specs.declared.transaction.Mark.TheVariants as marks
use Rattle.server_model.specs.declared.transaction.Reply.{Reply}
use Rattle.server_model.specs.Conditions.{ComesWell}
use Rattle.plan_data.specs.PlanData.{PlanData}
use Rattle.tool_program.specs.JournalWords.Clients.{Reached, Waits, Marked, became_of, became_in, is_inside, ends_with, closes, after_transaction, left_after, kept_unless, with_line, marked, client_after, script_of, client_at, new_client, client_asks, line_asks, word_asks}
use Rattle.tool_program.proofs.JournalWords.Lines.{inside_more}
use Rattle.proof_journals.specs.Machine.Standings.{Standing, free, answered, serves_to, IsAbout, is_called, is_polled}
use Rattle.proof_journals.specs.Machine.Scripts.{WordFits, inside_after, LinesFit, ScriptsFit}

-- what waits on the server is the client's next line, where the client waits
pub record ClientStands (client : Reached) (standing : Standing) : Type 0 where
  pub busy : standing.busy ≡ is_inside client.lines
  pub locked : standing.locked ≡ []
  pub free : client.waits ≡ false → standing.waits ≡ None
  pub held : client.waits ≡ true → (line : ScriptLine) × (lines : List ScriptLine) × (client.left ≡ line ∷ lines) × (standing.waits ≡ Some (word_asks line.word))
  pub left : client.is_lost ≡ false → LinesFit (is_inside client.lines) client.left

-- A LINE THAT GOT A MARK

-- what is open behind a line that was answered
inside_answered : (client : Reached) (word : ScriptWord) → is_inside (kept_unless (ends_with (is_inside client.lines) word marks.Answered) (with_line client word marks.Answered)) ≡ inside_after (is_inside client.lines) word
inside_answered client words.Begin = inside_more client.lines _
inside_answered client words.Commit = refl
inside_answered client words.Rollback = refl
inside_answered client (words.Do statement) = at (is_inside client.lines) where
  at : (b : Bool) → is_inside (kept_unless (ends_with b (words.Do statement) marks.Answered) (with_line client (words.Do statement) marks.Answered)) ≡ b
  at true = inside_more client.lines _
  at false = refl

-- behind a time-out the script goes on behind the transaction
left_fits : (lines : List ScriptLine) → LinesFit true lines → LinesFit false (after_transaction lines)
left_fits [] fit = tt
left_fits (line ∷ lines) fit = at line.word fit.0 fit.1 (left_fits lines) where
  at : (word : ScriptWord) → WordFits true word → LinesFit (inside_after true word) lines → (LinesFit true lines → LinesFit false (after_transaction lines)) → LinesFit false (cond (closes word) lines (after_transaction lines))
  at words.Begin fits rest more = absurd (true≢false fits)
  at words.Commit fits rest more = rest
  at words.Rollback fits rest more = rest
  at (words.Do statement) fits rest more = more rest

module _ (client : Reached) (line : ScriptLine) (lines : List ScriptLine) (left : client.left ≡ line ∷ lines) where
  -- the client behind the mark
  abbrev after : Mark → Option Reply → Reached
  after mark reply = marked client mark reply (line ∷ lines)

  is_after : (mark : Mark) (reply : Option Reply) → client_after (Marked mark reply) client ≡ after mark reply
  is_after mark reply = ap (marked client mark reply) left

  answered_left : (inside : Bool) → left_after inside marks.Answered line lines ≡ lines
  answered_left true = refl
  answered_left false = refl

  answered_stands : (reply : Option Reply) (standing : Standing) → standing.busy ≡ inside_after (is_inside client.lines) line.word → standing.locked ≡ [] → standing.waits ≡ None → LinesFit (is_inside client.lines) (line ∷ lines) → ClientStands (client_after (Marked marks.Answered reply) client) standing
  answered_stands reply standing busy locked waits fit = subst (λ (c : Reached). ClientStands c standing) (sym (is_after marks.Answered reply)) (record {
    busy = busy ∙ sym (inside_answered client line.word);
    locked = locked;
    free = λ off. waits;
    held = λ waiting. absurd cc;
    left = λ going. subst (LinesFit (is_inside (after marks.Answered reply).lines)) (sym (answered_left (is_inside client.lines))) (subst (λ (b : Bool). LinesFit b lines) (sym (inside_answered client line.word)) fit.1);
  })

  timed_left : (inside : Bool) → WordFits inside line.word → LinesFit (inside_after inside line.word) lines → (inside ≡ false → inside_after inside line.word ≡ false) → LinesFit false (left_after inside marks.TimedOut line lines)
  timed_left true word rest out = left_fits (line ∷ lines) (word, rest)
  timed_left false word rest out = subst (λ (b : Bool). LinesFit b lines) (out refl) rest

  timed_stands : (reply : Option Reply) (standing : Standing) → standing.busy ≡ false → standing.locked ≡ [] → standing.waits ≡ None → LinesFit (is_inside client.lines) (line ∷ lines) → (is_inside client.lines ≡ false → inside_after (is_inside client.lines) line.word ≡ false)
      → ClientStands (client_after (Marked marks.TimedOut reply) client) standing
  timed_stands reply standing busy locked waits fit out = subst (λ (c : Reached). ClientStands c standing) (sym (is_after marks.TimedOut reply))
      (record { busy = busy; locked = locked; free = λ off. waits; held = λ waiting. absurd cc; left = λ going. timed_left (is_inside client.lines) fit.0 fit.1 out })

  lost_stands : (side : Side) (reply : Option Reply) → ClientStands (client_after (Marked (marks.Lost side) reply) client) free
  lost_stands side reply = subst (λ (c : Reached). ClientStands c free) (sym (is_after (marks.Lost side) reply)) (record { busy = refl; locked = refl; free = λ off. refl; held = λ waiting. absurd cc; left = λ going. absurd cc })

  waits_stands : (standing : Standing) → standing.busy ≡ is_inside client.lines → standing.locked ≡ [] → standing.waits ≡ Some (word_asks line.word) → LinesFit (is_inside client.lines) (line ∷ lines) → ClientStands (client_after Waits client) standing
  waits_stands standing busy locked waits fit =
      record { busy = busy; locked = locked; free = λ off. absurd cc; held = λ waiting. (line, lines, left, waits); left = λ going. subst (LinesFit (is_inside client.lines)) (sym left) fit }

  -- the answer of the line, where its session isn't lost
  heard_stands : (word : ScriptWord) → line.word ≡ word → (answer : Answer) (old : Standing) → old.busy ≡ is_inside client.lines → old.locked ≡ [] → LinesFit (is_inside client.lines) (line ∷ lines) → serves_to (word_asks word) answer ≡ true
      → ClientStands (client_after (became_of answer) client) (answered (word_asks word) answer old)
  heard_stands words.Begin same (answers.Ok count) old busy locked fit fits = answered_stands (reply_of (answers.Ok count)) _ (sym (ap (inside_after (is_inside client.lines)) same)) locked refl fit
  heard_stands words.Begin same answer old busy locked fit fits = absurd cc
  heard_stands words.Commit same (answers.Ok count) old busy locked fit fits = answered_stands (reply_of (answers.Ok count)) _ (sym (ap (inside_after (is_inside client.lines)) same)) locked refl fit
  heard_stands words.Commit same answer old busy locked fit fits = absurd cc
  heard_stands words.Rollback same (answers.Ok count) old busy locked fit fits = answered_stands (reply_of (answers.Ok count)) _ (sym (ap (inside_after (is_inside client.lines)) same)) locked refl fit
  heard_stands words.Rollback same answer old busy locked fit fits = absurd cc
  heard_stands (words.Do statement) same (answers.Ok count) old busy locked fit fits = answered_stands (reply_of (answers.Ok count)) _ (busy ∙ sym (ap (inside_after (is_inside client.lines)) same)) locked refl fit
  heard_stands (words.Do statement) same (answers.Rows rows) old busy locked fit fits = answered_stands (reply_of (answers.Rows rows)) _ (busy ∙ sym (ap (inside_after (is_inside client.lines)) same)) locked refl fit
  heard_stands (words.Do statement) same (answers.Refused number column) old busy locked fit fits = answered_stands (reply_of (answers.Refused number column)) _ (busy ∙ sym (ap (inside_after (is_inside client.lines)) same)) locked refl fit
  heard_stands (words.Do statement) same (answers.Waits by) old busy locked fit fits = waits_stands _ busy locked (ap (λ (w : ScriptWord). Some (word_asks w)) (sym same)) fit
  heard_stands (words.Do statement) same (answers.TimedOut waited) old busy locked fit fits = timed_stands (reply_of (answers.TimedOut waited)) _ refl locked refl fit (λ out. ap (inside_after (is_inside client.lines)) same ∙ out)
  heard_stands (words.Do statement) same answer old busy locked fit fits = absurd cc

-- WHAT A CLIENT ASKS

pub data Next (client : Reached) (asked : Asked) : Type 0 where
  calls_line : (line : ScriptLine) (lines : List ScriptLine) → client.is_lost ≡ false → client.waits ≡ false → client.left ≡ line ∷ lines → asked ≡ Call (word_asks line.word) → Next client asked
  polls_line : client.is_lost ≡ false → client.waits ≡ true → asked ≡ Poll → Next client asked

next_line : (client : Reached) (left : List ScriptLine) (asked : Asked) → client.is_lost ≡ false → client.left ≡ left → (waits : Bool) → client.waits ≡ waits → line_asks waits left ≡ Some asked → Next client asked
next_line client [] asked going is waits same none = absurd cc
next_line client (line ∷ lines) asked going is true same some = polls_line going same (let one : asked ≡ Poll = cc in one)
next_line client (line ∷ lines) asked going is false same some = calls_line line lines going same is (let one : asked ≡ Call (word_asks line.word) = cc in one)

next_if : (client : Reached) (lost : Bool) (asked : Asked) → client.is_lost ≡ lost → cond lost None (line_asks client.waits client.left) ≡ Some asked → Next client asked
next_if client true asked is none = absurd cc
next_if client false asked is some = next_line client client.left asked is refl client.waits refl some

pub client_next : (plan : PlanData) (journal : List Entry) (c : ℕ) (asked : Asked) → client_asks plan journal c ≡ Some asked → Next (client_at plan journal c) asked
unfolding client_asks
client_next plan journal c asked is = next_if (client_at plan journal c) (client_at plan journal c).is_lost asked refl is

-- ONE TURN

-- a call or a poll
pub line_stands : (client : Reached) (old now : Standing) (asked : Asked) (side : Option Side) (answer : Answer) (missed : Option Answer) → ClientStands client old → Next client asked
    → ((request : Request) → IsAbout request old asked → now ≡ answered request answer old) → ((request : Request) → IsAbout request old asked → side ≡ None → serves_to request answer ≡ true) → ((at_side : Side) → side ≡ Some at_side → answer ≡ answers.Lost)
    → ClientStands (client_after (became_in client.waits asked side answer missed) client) now
line_stands client old now asked side answer missed is next has fits lost = by next where
  heard : (line : ScriptLine) (lines : List ScriptLine) → client.left ≡ line ∷ lines → client.is_lost ≡ false → IsAbout (word_asks line.word) old asked → (other : Asked) → asked ≡ other → (other ≡ Cut → ⊥) → (s : Option Side) → side ≡ s → ClientStands (client_after (became_in client.waits other s answer missed) client) now
  heard line lines left going about other same called (Some at_side) at =
      subst (ClientStands (client_after (became_in client.waits other (Some at_side) answer missed) client)) (sym (has (word_asks line.word) about ∙ ap (λ (a : Answer). answered (word_asks line.word) a old) (lost at_side at))) (missed_so other called) where
        missed_so : (one : Asked) → (one ≡ Cut → ⊥) → ClientStands (client_after (became_in client.waits one (Some at_side) answer missed) client) free
        missed_so (Call request) called = lost_stands client line lines left _ None
        missed_so Poll called = lost_stands client line lines left _ None
        missed_so (Command word) called = lost_stands client line lines left _ None
        missed_so Cut called = absurd (called refl)
  heard line lines left going about other same called None at =
      subst (ClientStands (client_after (became_in client.waits other None answer missed) client)) (sym (has (word_asks line.word) about)) (reported other called) where
        fit : LinesFit (is_inside client.lines) (line ∷ lines)
        fit = subst (LinesFit (is_inside client.lines)) left (is.left going)

        reported : (one : Asked) → (one ≡ Cut → ⊥) → ClientStands (client_after (became_in client.waits one None answer missed) client) (answered (word_asks line.word) answer old)
        reported (Call request) called = heard_stands client line lines left line.word refl answer old is.busy is.locked fit (fits (word_asks line.word) about at)
        reported Poll called = heard_stands client line lines left line.word refl answer old is.busy is.locked fit (fits (word_asks line.word) about at)
        reported (Command word) called = heard_stands client line lines left line.word refl answer old is.busy is.locked fit (fits (word_asks line.word) about at)
        reported Cut called = absurd (called refl)

  by : Next client asked → ClientStands (client_after (became_in client.waits asked side answer missed) client) now
  by (calls_line line lines going off left same) = heard line lines left going (is_called same (is.free off)) asked refl (λ cut. call_cut (sym same ∙ cut)) side refl where
    call_cut : Call (word_asks line.word) ≡ Cut → ⊥
    call_cut both = cc
  by (polls_line going on same) =
      let held = is.held on in
      heard held.0 held.1 held.2 going (is_polled same held.3) asked refl (λ cut. poll_cut (sym same ∙ cut)) side refl where
        poll_cut : Poll ≡ Cut → ⊥
        poll_cut both = cc

-- a loss between calls
pub cut_stands : (client : Reached) (old : Standing) (answer : Answer) (missed : Option Answer) → ClientStands client old → ClientStands (client_after (became_in client.waits Cut None answer missed) client) free
cut_stands client old answer missed is = by client.waits refl where
  by : (b : Bool) → client.waits ≡ b → ClientStands (client_after (became_in b Cut None answer missed) client) free
  by true on = let held = is.held on in lost_stands client held.0 held.1 held.2 Before None
  by false off = record { busy = refl; locked = refl; free = λ off. refl; held = λ waiting. absurd (true≢false (sym waiting ∙ off)); left = λ going. absurd cc }

-- AT THE START

scripts_fit : (scripts : List (List ScriptLine)) (n : ℕ) → AllByRecursion (LinesFit false) scripts → LinesFit false (unwrap_or (slice_get scripts n) [])
scripts_fit [] n all = tt
scripts_fit (script ∷ scripts) zero all = all.0
scripts_fit (script ∷ scripts) (suc n) all = scripts_fit scripts n all.1

script_fits : (plan : PlanData) (c : ℕ) → ScriptsFit plan → LinesFit false (unwrap_or (script_of c plan) [])
script_fits plan c all = at (c == 0) where
  at : (b : Bool) → LinesFit false (unwrap_or (cond b None (slice_get plan.clients (c - 1))) [])
  at true = tt
  at false = scripts_fit plan.clients (c - 1) all

pub client_begins : (plan : PlanData) (c : ℕ) → ScriptsFit plan → ClientStands (new_client (unwrap_or (script_of c plan) [])) free
client_begins plan c all = record { busy = refl; locked = refl; free = λ off. refl; held = λ waiting. absurd cc; left = λ going. script_fits plan c all }

-- HOW A LINE COMES

pub line_comes : (word : ScriptWord) (busy locked : Bool) → WordFits busy word → locked ≡ false → ComesWell busy locked (word_asks word)
line_comes words.Begin busy locked fits none = (fits, none)
line_comes words.Commit busy locked fits none = fits
line_comes words.Rollback busy locked fits none = fits
line_comes (words.Do statement) busy locked fits none = tt
