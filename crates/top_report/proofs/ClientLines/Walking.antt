-- How far a client is in its script, as the code keeps it.
use Rattle.std.proofs.Common.{◌≡◌, ℕ, suc, ◌+◌, ◌<◌, ◌≤◌, ◌^◌, ◌==◌, Bool, true, false, not, cond, List, [], ◌∷◌, ◌++◌, length, Option, Some, None, is_some, refl, sym, ◌∙◌, ap, arith}
use Rattle.std.proofs.lemmas.Bool.Decides.{nat_tests}
use Rattle.std.proofs.lemmas.List.{length-append}
use Rattle.std.proofs.lemmas.List.Sums.{fold-append}
use Rattle.std.specs.Prelude.{unwrap_or}
use Rattle.base_script.specs.declared.actor.Actor.TheVariants.{Client}
use Rattle.base_script.specs.declared.script.ScriptLine.{ScriptLine}
use Rattle.server_model.specs.declared.transaction.Mark.{Mark}
use Rattle.server_model.specs.declared.transaction.Mark.TheVariants as marks
use Rattle.server_model.specs.declared.transaction.Reply.{Reply}
use Rattle.server_model.specs.declared.transaction.TxnEnd.{TxnEnd}
use Rattle.server_model.specs.declared.transaction.TxnLine.{TxnLine}
use Rattle.server_model.specs.declared.entry.Entry.{Entry}
use Rattle.server_model.specs.Entries.{same_actor}
use Rattle.plan_data.specs.PlanData.{PlanData}
use Rattle.tool_program.specs.JournalWords.Clients as clients
use Rattle.tool_program.specs.JournalWords.Clients.{Became, Reached, after_turn, became, after_transaction, client_after, client_at, closes, ends_with, is_inside, kept_unless, left_after, marked, new_client, number_of, script_of, with_draw, with_line}
use Rattle.run_actors.specs.declared.client_turns.outcome.LineOutcome.{LineOutcome}
use Rattle.run_actors.specs.declared.client_turns.outcome.LineOutcome.TheVariants.{Marked, Broken}
use Rattle.run_actors.specs.ClientTurns.ActorStates.{line_outcome_as}
use Rattle.top_report.specs.ClientLines.Walks.{Walk, ends_now, is_open, new_walk, number_in, walk_after, walk_marked, walk_of}

-- ---- a client's walk is what is kept of how far it is

pub open_is : (lines : List TxnLine) → not (length lines == 0) ≡ is_inside lines
open_is [] = refl
open_is (line ∷ lines) = let some : (length (line ∷ lines) == 0) ≡ false = grind (arith, nat_tests) in rw some refl

pub number_is : (client : Reached) → number_in (walk_of client) ≡ number_of client
number_is client = rw (open_is client.lines) refl

lines_are : (client : Reached) (line : ScriptLine) (mark : Mark) (ended : Option TxnEnd) → cond (is_some ended) 0 (length client.lines + 1) ≡ length (kept_unless ended (with_line client line.word mark))
lines_are client line mark None = sym (length-append client.lines (record { word = line.word; mark = mark } ∷ []))
lines_are client line mark (Some ended) = refl

marked_is : (client : Reached) (mark : Mark) (reply : Option Reply) (left : List ScriptLine) → walk_marked (walk_of client) mark left ≡ walk_of (marked client mark reply left)
marked_is client mark reply [] = refl
marked_is client mark reply (line ∷ lines) = rw (open_is client.lines) (ap (λ (n : ℕ).
    record {
      left = left_after (is_inside client.lines) mark line lines;
      begun = number_of client;
      lines = n;
      waits = false;
    }) (lines_are client line mark (ends_with (is_inside client.lines) line.word mark)))

pub after_is : (what : Became) (client : Reached) → walk_after (line_outcome_as what) (walk_of client) ≡ walk_of (client_after what client)
after_is (clients.Marked mark reply) client = marked_is client mark reply client.left
after_is what client = refl

-- ---- the walk through a journal

pub one_more : (plan : PlanData) (before : List Entry) (entry : Entry) (number : ℕ) → client_at plan (before ++ entry ∷ []) number ≡ after_turn number (client_at plan before number) entry
unfolding client_at
one_more plan before entry number = fold-append (after_turn number) (new_client (unwrap_or (script_of number plan) [])) before (entry ∷ [])

pub own_turn : (plan : PlanData) (before : List Entry) (entry : Entry) (number : ℕ) → same_actor entry.actor (Client number) ≡ true
    → client_at plan (before ++ entry ∷ []) number ≡ client_after (became (client_at plan before number) entry) (with_draw entry.draw (client_at plan before number))
own_turn plan before entry number is = one_more plan before entry number ∙ rw is refl

pub other_turn : (plan : PlanData) (before : List Entry) (entry : Entry) (number : ℕ) → same_actor entry.actor (Client number) ≡ false → client_at plan (before ++ entry ∷ []) number ≡ client_at plan before number
other_turn plan before entry number is = one_more plan before entry number ∙ rw is refl

pub at_begin : (plan : PlanData) (number : ℕ) (script : List ScriptLine) → script_of number plan ≡ Some script → walk_of (client_at plan [] number) ≡ new_walk script
unfolding client_at
at_begin plan number script is = rw is refl

-- ---- its numbers stay small

after_short : (lines : List ScriptLine) → length (after_transaction lines) ≤ length lines
after_short [] = omega arith
after_short (line ∷ lines) = go (closes line.word) refl (after_short lines)
  where
    go : (b : Bool) → closes line.word ≡ b → length (after_transaction lines) ≤ length lines → length (after_transaction (line ∷ lines)) ≤ length (line ∷ lines)
    go true is others = rw is (omega arith)
    go false is others = rw is (omega (arith, others))

after_first : (line : ScriptLine) (lines : List ScriptLine) (b : Bool) → closes line.word ≡ b → length (after_transaction (line ∷ lines)) ≤ length lines
after_first line lines true is = rw is (omega arith)
after_first line lines false is = rw is (after_short lines)

left_short : (inside : Bool) (mark : Mark) (line : ScriptLine) (lines : List ScriptLine) → length (left_after inside mark line lines) ≤ length lines
left_short true marks.TimedOut line lines = after_first line lines (closes line.word) refl
left_short inside mark line lines = omega arith

number_small : (walk : Walk) (b : Bool) → is_open walk ≡ b → number_in walk ≤ walk.begun + 1
number_small walk true is = rw is (omega arith)
number_small walk false is = rw is (omega arith)

lines_small : (lines : ℕ) (b : Bool) → cond b 0 (lines + 1) ≤ lines + 1
lines_small lines true = omega arith
lines_small lines false = omega arith

begun_small : (walk : Walk) (mark : Mark) (left : List ScriptLine) → walk.left ≡ left → walk.begun + length walk.left < 2 ^ 63 → (walk_marked walk mark left).begun + length (walk_marked walk mark left).left < 2 ^ 63
begun_small walk mark [] is small = small
begun_small walk mark (line ∷ lines) is small =
    let size : length walk.left ≡ suc (length lines) = ap (λ (left : List ScriptLine). length left) is in
    let short : length (left_after (is_open walk) mark line lines) ≤ length lines = left_short (is_open walk) mark line lines in
    let number : number_in walk ≤ walk.begun + 1 = number_small walk (is_open walk) refl in
    omega (arith, size, short, number, small)

open_small : (walk : Walk) (mark : Mark) (left : List ScriptLine) → walk.left ≡ left → walk.lines + length walk.left < 2 ^ 63 → (walk_marked walk mark left).lines + length (walk_marked walk mark left).left < 2 ^ 63
open_small walk mark [] is small = small
open_small walk mark (line ∷ lines) is small =
    let size : length walk.left ≡ suc (length lines) = ap (λ (left : List ScriptLine). length left) is in
    let short : length (left_after (is_open walk) mark line lines) ≤ length lines = left_short (is_open walk) mark line lines in
    let few : cond (ends_now (is_open walk) mark (line ∷ lines)) 0 (walk.lines + 1) ≤ walk.lines + 1 = lines_small walk.lines (ends_now (is_open walk) mark (line ∷ lines)) in
    omega (arith, size, short, few, small)

pub begun_after : (outcome : LineOutcome) (walk : Walk) → walk.begun + length walk.left < 2 ^ 63 → (walk_after outcome walk).begun + length (walk_after outcome walk).left < 2 ^ 63
begun_after (Marked mark) walk small = begun_small walk mark walk.left refl small
begun_after outcome walk small = small

pub lines_after : (outcome : LineOutcome) (walk : Walk) → walk.lines + length walk.left < 2 ^ 63 → (walk_after outcome walk).lines + length (walk_after outcome walk).left < 2 ^ 63
lines_after (Marked mark) walk small = open_small walk mark walk.left refl small
lines_after Broken walk small = omega (arith, small)
lines_after outcome walk small = small
