-- A client that is over has no transaction open, where its script leaves none.
use Rattle.std.proofs.Common.{◌≡◌, ℕ, zero, suc, ◌+◌, ◌-◌, ◌==◌, Bool, true, false, cond, ◌||◌, List, [], ◌∷◌, ◌++◌, Option, Some, None, unwrap_or, refl, sym, ap, ◌∙◌, subst, arith}
use Rattle.std.specs.Prelude.{fold}
use Rattle.std.specs.List.{AllByRecursion, slice_get}
use Rattle.std.proofs.Math.Bool.{or-true}
use Rattle.std.proofs.lemmas.Bool.{false≢true}
use Rattle.std.proofs.lemmas.Bool.Decides.{nat_tests}
use Rattle.base_script.specs.declared.actor.Actor.TheVariants.{Client}
use Rattle.base_script.specs.declared.script.ScriptLine.{ScriptLine}
use Rattle.base_script.specs.declared.script.ScriptWord.{ScriptWord}
use Rattle.base_script.specs.declared.script.ScriptWord.TheVariants as words
use Rattle.server_model.specs.declared.entry.Entry.{Entry}
use Rattle.server_model.specs.declared.transaction.Mark.{Mark}
use Rattle.server_model.specs.declared.transaction.Mark.TheVariants as marks
use Rattle.server_model.specs.declared.transaction.Reply.{Reply}
use Rattle.server_model.specs.declared.transaction.TxnLine.{TxnLine}
use Rattle.server_model.specs.Entries.{same_actor}
use Rattle.plan_data.specs.PlanData.{PlanData}
use Rattle.tool_program.specs.JournalWords.Clients.{Became, Nothing, Waits, Marked, Broken, Reached, new_client, is_inside, ends_with, closes, after_transaction, left_after, kept_unless, with_line, marked, client_after, became, after_turn, script_of, client_at, is_empty, client_over, all_over, clients_over, with_draw, lines_drawn, word_numbered}
use Rattle.proof_journals.specs.Machine.Scripts.{inside_after}
use Rattle.proof_migration.specs.ToolPhase.Ready.{LinesEnd, ScriptsEnd}

-- SCRIPTS

-- lines that end inside a transaction end outside one too
ends_outside : (lines : List ScriptLine) → LinesEnd true lines → LinesEnd false lines
ends_outside [] ends = refl
ends_outside (line ∷ lines) ends = by line.word ends (ends_outside lines) where
  by : (word : ScriptWord) → LinesEnd (inside_after true word) lines → (LinesEnd true lines → LinesEnd false lines) → LinesEnd (inside_after false word) lines
  by words.Begin ends rest = ends
  by words.Commit ends rest = ends
  by words.Rollback ends rest = ends
  by (words.Do statement) ends rest = rest ends

-- behind a time-out inside a transaction
ends_after : (lines : List ScriptLine) → LinesEnd true lines → LinesEnd false (after_transaction lines)
ends_after [] ends = refl
ends_after (line ∷ lines) ends = by line.word ends (ends_after lines) where
  by : (word : ScriptWord) → LinesEnd (inside_after true word) lines → (LinesEnd true lines → LinesEnd false (after_transaction lines)) → LinesEnd false (cond (closes word) lines (after_transaction lines))
  by words.Begin ends rest = rest ends
  by words.Commit ends rest = ends
  by words.Rollback ends rest = ends
  by (words.Do statement) ends rest = rest ends

ends_next : (inside : Bool) (word : ScriptWord) (lines : List ScriptLine) → LinesEnd (inside_after inside word) lines → LinesEnd false lines
ends_next inside word lines ends = by (inside_after inside word) ends where
  by : (b : Bool) → LinesEnd b lines → LinesEnd false lines
  by true ends = ends_outside lines ends
  by false ends = ends

-- ONE CLIENT

-- what is left ends outside a transaction, and a lost client has none open
pub record ClientEnds (client : Reached) : Type 0 where
  pub lost : client.is_lost ≡ true → client.lines ≡ []
  pub left : LinesEnd (is_inside client.lines) client.left

-- behind an answered line
answered_ends : (client : Reached) (word : ScriptWord) (lines : List ScriptLine) → LinesEnd (inside_after (is_inside client.lines) word) lines → LinesEnd (is_inside (kept_unless (ends_with (is_inside client.lines) word marks.Answered) (with_line client word marks.Answered))) lines
answered_ends client words.Begin lines ends = inside client.lines where
  inside : (before : List TxnLine) → LinesEnd (is_inside (before ++ record { word = words.Begin; mark = marks.Answered } ∷ [])) lines
  inside [] = ends
  inside (first ∷ before) = ends
answered_ends client words.Commit lines ends = ends
answered_ends client words.Rollback lines ends = ends
answered_ends client (words.Do statement) lines ends = at (is_inside client.lines) ends where
  inside : (before : List TxnLine) → LinesEnd true lines → LinesEnd (is_inside (before ++ record { word = words.Do statement; mark = marks.Answered } ∷ [])) lines
  inside [] ends = ends
  inside (first ∷ before) ends = ends

  at : (b : Bool) → LinesEnd b lines → LinesEnd (is_inside (kept_unless (ends_with b (words.Do statement) marks.Answered) (with_line client (words.Do statement) marks.Answered))) lines
  at true ends = inside client.lines ends
  at false ends = ends

marked_ends : (client : Reached) (reply : Option Reply) → ClientEnds client → (mark : Mark) (left : List ScriptLine) → client.left ≡ left → ClientEnds (marked client mark reply left)
marked_ends client reply is mark [] same = is
marked_ends client reply is marks.Answered (line ∷ lines) same = record {
  lost = λ lost. absurd (false≢true lost);
  left =
      subst (LinesEnd (is_inside (kept_unless (ends_with (is_inside client.lines) line.word marks.Answered) (with_line client line.word marks.Answered)))) (sym (answered_left (is_inside client.lines)))
      (answered_ends client line.word lines (subst (LinesEnd (is_inside client.lines)) same is.left));
} where
  answered_left : (inside : Bool) → left_after inside marks.Answered line lines ≡ lines
  answered_left true = refl
  answered_left false = refl
marked_ends client reply is marks.TimedOut (line ∷ lines) same = record { lost = λ lost. absurd (false≢true lost); left = timed (is_inside client.lines) (subst (LinesEnd (is_inside client.lines)) same is.left) } where
  timed : (inside : Bool) → LinesEnd inside (line ∷ lines) → LinesEnd false (left_after inside marks.TimedOut line lines)
  timed true ends = ends_after (line ∷ lines) ends
  timed false ends = ends_next false line.word lines ends
marked_ends client reply is (marks.Lost side) (line ∷ lines) same = record { lost = λ lost. refl; left = lost_left (is_inside client.lines) (subst (LinesEnd (is_inside client.lines)) same is.left) } where
  lost_left : (inside : Bool) → LinesEnd inside (line ∷ lines) → LinesEnd false (left_after inside (marks.Lost side) line lines)
  lost_left true ends = ends_next true line.word lines ends
  lost_left false ends = ends_next false line.word lines ends

after_ends : (one : Became) (client : Reached) → ClientEnds client → ClientEnds (client_after one client)
after_ends Nothing client is = is
after_ends Waits client is = record { lost = is.lost; left = is.left }
after_ends (Marked mark reply) client is = marked_ends client reply is mark client.left refl
after_ends Broken client is = record { lost = λ lost. refl; left = by (is_inside client.lines) is.left } where
  by : (inside : Bool) → LinesEnd inside client.left → LinesEnd false client.left
  by true ends = ends_outside client.left ends
  by false ends = ends

-- a line that drew ends where it ended
drawn_left : (number : ℕ) (inside : Bool) (lines : List ScriptLine) → LinesEnd inside lines → LinesEnd inside (lines_drawn number lines)
drawn_left number inside [] ends = ends
drawn_left number inside (line ∷ lines) ends = by line.word ends where
  by : (word : ScriptWord) → LinesEnd (inside_after inside word) lines → LinesEnd (inside_after inside (word_numbered (Some number) word)) lines
  by words.Begin ends = ends
  by words.Commit ends = ends
  by words.Rollback ends = ends
  by (words.Do statement) ends = ends

drawn_ends : (draw : Option ℕ) (client : Reached) → ClientEnds client → ClientEnds (with_draw draw client)
drawn_ends None client is = is
drawn_ends (Some number) client is = record { lost = is.lost; left = drawn_left number (is_inside client.lines) client.left is.left }

turn_ends : (c : ℕ) (client : Reached) (entry : Entry) → ClientEnds client → ClientEnds (after_turn c client entry)
turn_ends c client entry is = by (same_actor entry.actor (Client c)) where
  by : (b : Bool) → ClientEnds (cond b (client_after (became client entry) (with_draw entry.draw client)) client)
  by true = after_ends (became client entry) (with_draw entry.draw client) (drawn_ends entry.draw client is)
  by false = is

fold_keeps : {A X : Type 0} (P : A → Type 0) (f : A → X → A) → ((a : A) (x : X) → P a → P (f a x)) → (a : A) (xs : List X) → P a → P (fold f a xs)
fold_keeps P f keeps a [] is = is
fold_keeps P f keeps a (x ∷ xs) is = fold_keeps P f keeps (f a x) xs (keeps a x is)

scripts_end : (scripts : List (List ScriptLine)) (n : ℕ) → AllByRecursion (LinesEnd false) scripts → LinesEnd false (unwrap_or (slice_get scripts n) [])
scripts_end [] n all = refl
scripts_end (script ∷ scripts) zero all = all.0
scripts_end (script ∷ scripts) (suc n) all = scripts_end scripts n all.1

script_ends : (plan : PlanData) (c : ℕ) → ScriptsEnd plan → LinesEnd false (unwrap_or (script_of c plan) [])
script_ends plan c all = at (c == 0) where
  at : (b : Bool) → LinesEnd false (unwrap_or (cond b None (slice_get plan.clients (c - 1))) [])
  at true = refl
  at false = scripts_end plan.clients (c - 1) all

client_ends : (plan : PlanData) (journal : List Entry) (c : ℕ) → ScriptsEnd plan → ClientEnds (client_at plan journal c)
unfolding client_at
client_ends plan journal c all =
    fold_keeps ClientEnds (after_turn c) (turn_ends c) (new_client (unwrap_or (script_of c plan) [])) journal (record { lost = λ lost. absurd (false≢true lost); left = script_ends plan c all })

-- WHO ISN'T OF THE PLAN

-- a client without a script has nothing left
marked_none : (client : Reached) (mark : Mark) (reply : Option Reply) (left : List ScriptLine) → client.left ≡ left → left ≡ [] → (marked client mark reply left).left ≡ []
marked_none client mark reply [] same none = same
marked_none client mark reply (line ∷ lines) same none = absurd cc

after_none : (one : Became) (client : Reached) → client.left ≡ [] → (client_after one client).left ≡ []
after_none Nothing client none = none
after_none Waits client none = none
after_none (Marked mark reply) client none = marked_none client mark reply client.left refl none
after_none Broken client none = none

drawn_none : (draw : Option ℕ) (client : Reached) → client.left ≡ [] → (with_draw draw client).left ≡ []
drawn_none None client none = none
drawn_none (Some number) client none = ap (lines_drawn number) none

turn_none : (c : ℕ) (client : Reached) (entry : Entry) → client.left ≡ [] → (after_turn c client entry).left ≡ []
turn_none c client entry none = by (same_actor entry.actor (Client c)) where
  by : (b : Bool) → (cond b (client_after (became client entry) (with_draw entry.draw client)) client).left ≡ []
  by true = after_none (became client entry) (with_draw entry.draw client) (drawn_none entry.draw client none)
  by false = none

none_left : (plan : PlanData) (journal : List Entry) (c : ℕ) → script_of c plan ≡ None → (client_at plan journal c).left ≡ []
unfolding client_at
none_left plan journal c none =
    fold_keeps (λ (client : Reached). client.left ≡ []) (after_turn c) (turn_none c) (new_client (unwrap_or (script_of c plan) [])) journal (ap (λ (script : Option (List ScriptLine)). unwrap_or script []) none)

-- WHEN ALL CLIENTS ARE OVER

over_at : (plan : PlanData) (journal : List Entry) (number : ℕ) (scripts : List (List ScriptLine)) → all_over plan journal number scripts ≡ true → (k : ℕ) (script : List ScriptLine) → slice_get scripts k ≡ Some script → client_over (client_at plan journal (number + k)) ≡ true
unfolding all_over
over_at plan journal number [] over k script at = absurd cc
over_at plan journal number (first ∷ scripts) over k script at = by (client_over (client_at plan journal number)) refl over k at (over_at plan journal (number + 1) scripts) where
  by : (b : Bool) → client_over (client_at plan journal number) ≡ b → cond b (all_over plan journal (number + 1) scripts) false ≡ true → (k : ℕ) → slice_get (first ∷ scripts) k ≡ Some script
      → (all_over plan journal (number + 1) scripts ≡ true → (k : ℕ) (script : List ScriptLine) → slice_get scripts k ≡ Some script → client_over (client_at plan journal ((number + 1) + k)) ≡ true) → client_over (client_at plan journal (number + k)) ≡ true
  by false is over k at rest = absurd (false≢true over)
  by true is over zero at rest = let same : number + 0 ≡ number = omega arith in ap (λ (n : ℕ). client_over (client_at plan journal n)) same ∙ is
  by true is over (suc k) at rest = let same : number + (suc k) ≡ (number + 1) + k = omega arith in ap (λ (n : ℕ). client_over (client_at plan journal n)) same ∙ rest over k script at

over_closed : (client : Reached) → ClientEnds client → client_over client ≡ true → is_inside client.lines ≡ false
over_closed client is over = by client.is_lost refl client.left refl over where
  by : (lost : Bool) → client.is_lost ≡ lost → (left : List ScriptLine) → client.left ≡ left → (lost || is_empty left) ≡ true → is_inside client.lines ≡ false
  by true lost left at over = ap is_inside (is.lost lost)
  by false going [] at over = subst (LinesEnd (is_inside client.lines)) at is.left
  by false going (line ∷ lines) at over = absurd (false≢true over)

-- *Once all clients are over no transaction of theirs is open*
pub all_closed : (plan : PlanData) (journal : List Entry) → ScriptsEnd plan → clients_over plan journal ≡ true → (c : ℕ) → is_inside (client_at plan journal c).lines ≡ false
all_closed plan journal ends over c = by (c == 0) refl where
  closed : client_over (client_at plan journal c) ≡ true → is_inside (client_at plan journal c).lines ≡ false
  closed over_c = over_closed (client_at plan journal c) (client_ends plan journal c ends) over_c

  nothing_left : script_of c plan ≡ None → client_over (client_at plan journal c) ≡ true
  nothing_left none = ap (λ (left : List ScriptLine). (client_at plan journal c).is_lost || is_empty left) (none_left plan journal c none) ∙ or-true (client_at plan journal c).is_lost

  from_one : (n : ℕ) → (n == 0) ≡ false → 1 + (n - 1) ≡ n
  from_one n off = grind (arith, nat_tests)

  at_script : (script : Option (List ScriptLine)) → (c == 0) ≡ false → slice_get plan.clients (c - 1) ≡ script → client_over (client_at plan journal c) ≡ true
  at_script None off at = nothing_left (ap (λ (b : Bool). cond b None (slice_get plan.clients (c - 1))) off ∙ at)
  at_script (Some script) off at = subst (λ (n : ℕ). client_over (client_at plan journal n) ≡ true) (from_one c off) (over_at plan journal 1 plan.clients over (c - 1) script at)

  by : (b : Bool) → (c == 0) ≡ b → is_inside (client_at plan journal c).lines ≡ false
  by true is = closed (nothing_left (ap (λ (b : Bool). cond b None (slice_get plan.clients (c - 1))) is))
  by false off = closed (at_script (slice_get plan.clients (c - 1)) off refl)
