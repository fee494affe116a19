-- A walk goes through a script as it is written; how far a client is has the numbers in it that its lines drew. The numbers
-- change no reply and no transaction's end.
use Rattle.std.proofs.Common.{◌≡◌, ℕ, ◌+◌, Bool, true, false, cond, List, [], ◌∷◌, length, Option, Some, None, is_some, refl, sym, ◌∙◌, ap, subst}
use Rattle.base_script.specs.declared.script.ScriptLine.{ScriptLine}
use Rattle.base_script.specs.declared.script.ScriptWord.{ScriptWord}
use Rattle.server_model.specs.declared.transaction.Mark.{Mark}
use Rattle.server_model.specs.declared.transaction.Mark.TheVariants as marks
use Rattle.server_model.specs.declared.transaction.Reply.{Reply}
use Rattle.server_model.specs.declared.entry.Entry.{Entry}
use Rattle.server_model.specs.declared.transaction.TxnEnd.{TxnEnd}
use Rattle.tool_program.specs.JournalWords.Clients.{Became, Reached, after_transaction, became, became_in, client_after, closes, ends_with, left_after, lines_drawn, with_draw}
use Rattle.tool_program.specs.JournalWords.Histories.{replied}
use Rattle.tool_program.proofs.JournalWords.DrawnLines.{numbered_ends, numbered_closes}
use Rattle.run_actors.specs.declared.client_turns.outcome.LineOutcome.{LineOutcome}
use Rattle.run_actors.specs.declared.client_turns.outcome.LineOutcome.TheVariants.{Nothing, Waits, Marked, Broken}
use Rattle.run_actors.specs.ClientTurns.ActorStates.{heard_reply, line_outcome_as}
use Rattle.run_actors.proofs.ClientTurns.Heard.{became_with, heard_is}
use Rattle.top_report.specs.ClientLines.Pasts.{past_text}
use Rattle.top_report.specs.ClientLines.Walks.{Walk, ended_text, ends_now, is_open, number_in, outcome_now, replied_by, walk_after, walk_marked, walk_of}
use Rattle.top_report.proofs.ClientLines.Walking.{after_is, number_is}

-- ---- lines that end and close their transactions alike

pub record AreSame (a b : ScriptWord) : Type 0 where
  pub ends : (inside : Bool) (mark : Mark) → ends_with inside a mark ≡ ends_with inside b mark
  pub closing : closes a ≡ closes b

unfoldable pub SameLines : List ScriptLine → List ScriptLine → Type 0
SameLines [] [] = Unit {0}
SameLines (a ∷ xs) (b ∷ ys) = AreSame a.word b.word × SameLines xs ys
SameLines xs ys = ⊥

pub same_self : (lines : List ScriptLine) → SameLines lines lines
unfolding SameLines
same_self [] = tt
same_self (line ∷ lines) = (record { ends = λ inside mark. refl; closing = refl }, same_self lines)

same_drawn : (number : ℕ) (xs ys : List ScriptLine) → SameLines xs ys → SameLines xs (lines_drawn number ys)
unfolding SameLines
same_drawn number [] [] same = tt
same_drawn number [] (b ∷ ys) same = absurd same
same_drawn number (a ∷ xs) [] same = absurd same
same_drawn number (a ∷ xs) (b ∷ ys) same =
    (record { ends = λ inside mark. same.0.ends inside mark ∙ sym (numbered_ends inside number b.word mark); closing = same.0.closing ∙ sym (numbered_closes number b.word) }, same.1)

transaction_same : (xs ys : List ScriptLine) → SameLines xs ys → SameLines (after_transaction xs) (after_transaction ys)
unfolding SameLines
transaction_same [] [] same = tt
transaction_same [] (b ∷ ys) same = absurd same
transaction_same (a ∷ xs) [] same = absurd same
transaction_same (a ∷ xs) (b ∷ ys) same = by (closes b.word) same.0.closing (transaction_same xs ys same.1)
  where
    by : (closing : Bool) → closes a.word ≡ closing → SameLines (after_transaction xs) (after_transaction ys) → SameLines (cond (closes a.word) xs (after_transaction xs)) (cond closing ys (after_transaction ys))
    by true is rest = rw is same.1
    by false is rest = rw is rest

left_same : (inside : Bool) (mark : Mark) (a b : ScriptLine) (xs ys : List ScriptLine) → SameLines (a ∷ xs) (b ∷ ys) → SameLines (left_after inside mark a xs) (left_after inside mark b ys)
unfolding SameLines
left_same true marks.TimedOut a b xs ys same = transaction_same (a ∷ xs) (b ∷ ys) same
left_same true marks.Answered a b xs ys same = same.1
left_same true (marks.Lost side) a b xs ys same = same.1
left_same false marks.TimedOut a b xs ys same = same.1
left_same false marks.Answered a b xs ys same = same.1
left_same false (marks.Lost side) a b xs ys same = same.1

ends_same : (inside : Bool) (mark : Mark) (xs ys : List ScriptLine) → SameLines xs ys → ends_now inside mark xs ≡ ends_now inside mark ys
unfolding SameLines
ends_same inside mark [] [] same = refl
ends_same inside mark [] (b ∷ ys) same = absurd same
ends_same inside mark (a ∷ xs) [] same = absurd same
ends_same inside mark (a ∷ xs) (b ∷ ys) same = ap (λ (e : Option TxnEnd). is_some e) (same.0.ends inside mark)

-- ---- a walk over other lines

abbrev over : Walk → List ScriptLine → Walk
over walk left = record walk { left = left }

abbrev Stepped : Walk → Walk → Type 0
Stepped walk there = (left : List ScriptLine) × SameLines walk.left left × (there ≡ over walk left)

marked_over : (walk : Walk) (mark : Mark) (xs ys : List ScriptLine) → walk.left ≡ xs → SameLines xs ys → Stepped (walk_marked walk mark xs) (walk_marked (over walk ys) mark ys)
unfolding SameLines
marked_over walk mark [] [] is same = ([], subst (λ (l : List ScriptLine). SameLines l []) (sym is) tt, refl)
marked_over walk mark [] (b ∷ ys) is same = absurd same
marked_over walk mark (a ∷ xs) [] is same = absurd same
marked_over walk mark (a ∷ xs) (b ∷ ys) is same = (
  left_after (is_open walk) mark b ys,
  left_same (is_open walk) mark a b xs ys same,
  ap (λ (ends : Bool).
      record {
        left = left_after (is_open walk) mark b ys;
        begun = number_in walk;
        lines = cond ends 0 (walk.lines + 1);
        waits = false;
      }) (sym (ends_same (is_open walk) mark (a ∷ xs) (b ∷ ys) same)),
)

after_over : (what : LineOutcome) (walk : Walk) (other : List ScriptLine) → SameLines walk.left other → Stepped (walk_after what walk) (walk_after what (over walk other))
after_over Nothing walk other same = (other, same, refl)
after_over Waits walk other same = (other, same, refl)
after_over (Marked mark) walk other same = marked_over walk mark walk.left other refl same
after_over Broken walk other same = (other, same, refl)

-- ---- a walk of a client

-- *Is walk*: what is kept of how far a client is, but for the numbers in its lines
pub record IsWalk (walk : Walk) (client : Reached) : Type 0 where
  pub left : SameLines walk.left client.left
  pub rest : over walk client.left ≡ walk_of client

pub walk_self : (client : Reached) → IsWalk (walk_of client) client
walk_self client = record { left = same_self client.left; rest = refl }

walk_drawn : (walk : Walk) (client : Reached) (draw : Option ℕ) → IsWalk walk client → IsWalk walk (with_draw draw client)
walk_drawn walk client None is = is
walk_drawn walk client (Some number) is = record { left = same_drawn number walk.left client.left is.left; rest = ap (λ (w : Walk). over w (lines_drawn number client.left)) is.rest }

walk_step : (what : Became) (walk : Walk) (client : Reached) → IsWalk walk client → IsWalk (walk_after (line_outcome_as what) walk) (client_after what client)
walk_step what walk client is =
    let outcome = line_outcome_as what in
    let step = after_over outcome walk client.left is.left in
    let there : over (walk_after outcome walk) step.0 ≡ walk_of (client_after what client) = sym step.2 ∙ ap (walk_after outcome) is.rest ∙ after_is what client in
    let same : step.0 ≡ (client_after what client).left = ap (λ (w : Walk). w.left) there in
    record { left = subst (SameLines (walk_after outcome walk).left) same step.1; rest = subst (λ (l : List ScriptLine). over (walk_after outcome walk) l ≡ walk_of (client_after what client)) same there }

pub outcome_same : (walk : Walk) (client : Reached) (entry : Entry) → IsWalk walk client → outcome_now walk entry ≡ line_outcome_as (became client entry)
outcome_same walk client entry is = ap (λ (w : Walk). line_outcome_as (became_in w.waits entry.asked entry.side entry.answer entry.missed)) is.rest

-- it goes on with each of its turns
pub walk_on : (walk : Walk) (client : Reached) (entry : Entry) → IsWalk walk client → IsWalk (walk_after (outcome_now walk entry) walk) (client_after (became client entry) (with_draw entry.draw client))
walk_on walk client entry is =
    let drawn = with_draw entry.draw client in
    subst (λ (o : LineOutcome). IsWalk (walk_after o walk) (client_after (became client entry) drawn)) (sym (outcome_same walk client entry is)) (walk_step (became client entry) walk drawn (walk_drawn walk client entry.draw is))

replied_with : (outcome : LineOutcome) (walk : Walk) (client : Reached) (draw : Option ℕ) (reply : Option Reply) → IsWalk walk client → replied client draw (became_with reply outcome) ≡ replied_by walk draw reply outcome
replied_with (Marked mark) walk client draw reply is =
    sym (ap (λ (w : Walk). record { transaction = number_in w; line = w.lines + 1; reply = reply; draw = draw } ∷ []) is.rest ∙ ap (λ (n : ℕ). record { transaction = n; line = length client.lines + 1; reply = reply; draw = draw } ∷ []) (number_is client))
replied_with outcome walk client draw reply is = refl

-- what the client gets in its turn
pub replied_same : (walk : Walk) (client : Reached) (entry : Entry) → IsWalk walk client → replied client entry.draw (became client entry) ≡ replied_by walk entry.draw (heard_reply entry.asked entry.side entry.answer) (outcome_now walk entry)
replied_same walk client entry is =
    let reply = heard_reply entry.asked entry.side entry.answer in
    ap (replied client entry.draw) (heard_is client.waits entry.asked entry.side entry.answer entry.missed)
    ∙ replied_with (line_outcome_as (became client entry)) walk client entry.draw reply is
    ∙ ap (replied_by walk entry.draw reply) (sym (outcome_same walk client entry is))

ended_by : (number : ℕ) (outcome : LineOutcome) (walk : Walk) (client : Reached) → IsWalk walk client → ended_text number (walk_of client) outcome ≡ ended_text number walk outcome
ended_by number (Marked mark) walk client own =
    sym (ap (λ (ends : Bool). cond ends (past_text number (number_in walk)) []) (ends_same (is_open walk) mark walk.left client.left own.left)
    ∙ ap (λ (w : Walk). cond (ends_now (is_open w) mark w.left) (past_text number (number_in w)) []) own.rest)
ended_by number Broken walk client own = sym (ap (λ (w : Walk). cond (is_open w) (past_text number w.begun) []) own.rest)
ended_by number outcome walk client own = refl

-- what its turn ends
pub ended_same : (number : ℕ) (walk : Walk) (client : Reached) (entry : Entry) → IsWalk walk client → ended_text number (walk_of (with_draw entry.draw client)) (line_outcome_as (became client entry)) ≡ ended_text number walk (outcome_now walk entry)
ended_same number walk client entry own =
    ended_by number (line_outcome_as (became client entry)) walk (with_draw entry.draw client) (walk_drawn walk client entry.draw own)
    ∙ ap (ended_text number walk) (sym (outcome_same walk client entry own))
