-- What is asked of other tables than the migrated one and the tool's: nothing makes, drops or renames one, or copies into it.
use Rattle.std.proofs.Common.{◌≡◌, ℕ, Bool, true, false, not, ◌&&◌, ◌||◌, List, [], ◌∷◌, ◌++◌, filter, cond, Option, Some, None, refl, sym, ap, ◌∙◌, subst}
use Rattle.std.specs.Prelude.{find, ◌==◌}
use Rattle.std.specs.List.{AllByRecursion, list_all, list_any}
use Rattle.std.specs.Str.{bytes_eq}
use Rattle.std.proofs.lemmas.Bool.{true≢false, false≢true, and_parts}
use Rattle.base_values.specs.ToolNames.{is_tool_name}
use Rattle.base_script.specs.declared.actor.Actor.{Actor}
use Rattle.base_script.specs.declared.actor.Actor.TheVariants.{Op, Insp, Copy, Apply, Lock, Ren, Client}
use Rattle.base_script.specs.declared.actor.Side.{Side}
use Rattle.base_script.specs.declared.actor.Side.TheVariants.{Before, After}
use Rattle.base_script.specs.declared.script.ScriptWord.{ScriptWord}
use Rattle.base_script.specs.declared.script.ScriptWord.TheVariants as words
use Rattle.server_model.specs.declared.entry.Asked.{Asked}
use Rattle.server_model.specs.declared.entry.Asked.TheVariants.{Call, Poll, Command, Cut}
use Rattle.server_model.specs.declared.entry.Entry.{Entry}
use Rattle.server_model.specs.declared.request.Request.{Request}
use Rattle.server_model.specs.declared.request.Request.TheVariants as requests
use Rattle.server_model.specs.declared.session.Waiting.{Waiting}
use Rattle.server_model.specs.Blockers.{blocker, need}
use Rattle.server_model.specs.Drawing.{filled}
use Rattle.server_model.specs.Effects.{Effect, Rests, Grows, Writes, Forgets, Moves, Locks, Unlocks, effect}
use Rattle.server_model.specs.Entries.{is_client}
use Rattle.server_model.specs.PlainServer.{asks_for, called_unless, calls, did, does, done, is_over, leaves, loses, polled_of, polled_over, polled_unless, polls, request_waiting, serves, without_waiting}
use Rattle.server_model.specs.States.{State, tables_named, waiting_of}
use Rattle.server_model.proofs.LockedRows.Tests.{are_same, turned_bytes}
use Rattle.plan_data.specs.PlanData.{PlanData}
use Rattle.tool_program.specs.JournalWords.Clients.{client_asks, client_at, word_asks}
use Rattle.tool_program.specs.Online.{names_own}
use Rattle.tool_program.specs.Programs.{given}
use Rattle.tool_program.proofs.OnlineCalls.Given.{given_calls}
use Rattle.proof_journals.proofs.Machine.Clients.{Next, calls_line, polls_line, client_next}
use Rattle.law_draws.specs.ColumnValues.{CopiesElsewhere}
use Rattle.law_draws.specs.LockedCounters.{LeavesCounter}
use Rattle.law_draws.specs.OtherTables.{IsOther}

-- what is asked spares the table of a name
pub record Spares (name : List ℕ) (asks : Option Request) : Type 0 where
  pub counter : LeavesCounter name asks
  pub copies : CopiesElsewhere name asks

-- WHAT IS CALLED

abbrev own : PlanData → List ℕ → Bool
own plan name = bytes_eq name plan.table || is_tool_name plan.table name

off_one : (plan : PlanData) (name other : List ℕ) → IsOther plan name → own plan other ≡ true → bytes_eq name other ≡ false
off_one plan name other off is = by (bytes_eq name other) refl where
  by : (b : Bool) → bytes_eq name other ≡ b → b ≡ false
  by false same = refl
  by true same = absurd (true≢false (sym is ∙ ap (own plan) (sym (are_same name other same)) ∙ off))

off_all : (plan : PlanData) (name : List ℕ) (names : List (List ℕ)) → IsOther plan name → list_all (own plan) names ≡ true → list_any (bytes_eq name) names ≡ false
off_all plan name [] off is = refl
off_all plan name (other ∷ names) off is = by (own plan other) refl is (off_all plan name names off) where
  by : (b : Bool) → own plan other ≡ b → (b && list_all (own plan) names) ≡ true → (list_all (own plan) names ≡ true → list_any (bytes_eq name) names ≡ false) → (bytes_eq name other || list_any (bytes_eq name) names) ≡ false
  by true here rest goes = rw (off_one plan name other off here) (goes rest)
  by false here rest goes = absurd (false≢true rest)

tool_spares : (plan : PlanData) (name : List ℕ) (request : Request) → IsOther plan name → names_own plan request ≡ true → Spares name (Some request)
tool_spares plan name (requests.Create schema) off is = record { counter = off_all plan name (schema.name ∷ []) off is; copies = tt }
tool_spares plan name (requests.Drop dropped) off is = record { counter = off_all plan name (dropped ∷ []) off is; copies = tt }
tool_spares plan name (requests.Rename pairs) off is = record { counter = off_all plan name (tables_named (requests.Rename pairs)) off is; copies = tt }
tool_spares plan name (requests.CopyRow from into map key) off is =
    record { counter = tt; copies = turned_bytes name into (off_one plan name into off (and_parts (own plan into) true (and_parts (own plan from) _ is).1).0) }
tool_spares plan name (requests.SetCounter table least) off is = record { counter = off_one plan name table off (and_parts (own plan table) true is).0; copies = tt }
tool_spares plan name request off is = record { counter = tt; copies = tt }

word_spares : (name : List ℕ) (word : ScriptWord) → Spares name (Some (word_asks word))
word_spares name words.Begin = record { counter = tt; copies = tt }
word_spares name words.Commit = record { counter = tt; copies = tt }
word_spares name words.Rollback = record { counter = tt; copies = tt }
word_spares name (words.Do statement) = record { counter = tt; copies = tt }

pub client_spares : (plan : PlanData) (journal : List Entry) (c : ℕ) (name : List ℕ) (request : Request) → client_asks plan journal c ≡ Some (Call request) → Spares name (Some request)
client_spares plan journal c name request gives = by (client_next plan journal c (Call request) gives) where
  by : Next (client_at plan journal c) (Call request) → Spares name (Some request)
  by (calls_line line lines going off left same) = let one : word_asks line.word ≡ request = cc in subst (λ (r : Request). Spares name (Some r)) one (word_spares name line.word)
  by (polls_line going on same) = absurd (differ same) where
    differ : Call request ≡ Poll → ⊥
    differ both = cc

-- each call that is given spares the table
pub given_spares : (plan : PlanData) (journal : List Entry) (name : List ℕ) (actor : Actor) (request : Request) → IsOther plan name → given plan journal actor ≡ Some (Call request) → Spares name (Some request)
unfolding given
given_spares plan journal name actor request off gives = by actor gives where
  tool : (actor : Actor) → is_client actor ≡ false → given plan journal actor ≡ Some (Call request) → Spares name (Some request)
  tool actor is gives = tool_spares plan name request off (given_calls plan journal actor request is gives).names

  by : (actor : Actor) → given plan journal actor ≡ Some (Call request) → Spares name (Some request)
  by (Client c) gives = client_spares plan journal c name request gives
  by Op gives = tool Op refl gives
  by Insp gives = tool Insp refl gives
  by Copy gives = tool Copy refl gives
  by Apply gives = tool Apply refl gives
  by Lock gives = tool Lock refl gives
  by Ren gives = tool Ren refl gives

-- WHAT WAITS

-- what each request that waits is
abbrev pub AllWait : (Option Request → Type 0) → List Waiting → Type 0
AllWait P waiting = AllByRecursion (λ one. P (Some one.request)) waiting

module _ (P : Option Request → Type 0) where
  fewer : (keep : Waiting → Bool) (waiting : List Waiting) → AllWait P waiting → AllWait P (filter keep waiting)
  fewer keep [] all = tt
  fewer keep (one ∷ waiting) all = by (keep one) (fewer keep waiting all.1) where
    by : (b : Bool) → AllWait P (filter keep waiting) → AllWait P (cond b (one ∷ filter keep waiting) (filter keep waiting))
    by true rest = (all.0, rest)
    by false rest = rest

  one_more : (waiting : List Waiting) (one : Waiting) → AllWait P waiting → P (Some one.request) → AllWait P (waiting ++ one ∷ [])
  one_more [] one all is = (is, tt)
  one_more (first ∷ waiting) one all is = (all.0, one_more waiting one all.1 is)

  found_so : (test : Waiting → Bool) (waiting : List Waiting) (one : Waiting) → AllWait P waiting → find test waiting ≡ Some one → P (Some one.request)
  found_so test [] one all is = absurd cc
  found_so test (first ∷ waiting) one all is = by (test first) is (found_so test waiting one all.1) where
    by : (b : Bool) → cond b (Some first) (find test waiting) ≡ Some one → (find test waiting ≡ Some one → P (Some one.request)) → P (Some one.request)
    by true same rest = let it : first ≡ one = cc in subst (λ (w : Waiting). P (Some w.request)) it all.0
    by false same rest = rest same

  does_waiting : (effect : Effect) (state : State) (number : ℕ) → (does effect state number).after.waiting ≡ state.waiting
  does_waiting (Rests answer) state number = refl
  does_waiting (Grows answer need events) state number = refl
  does_waiting (Writes answer events) state number = refl
  does_waiting (Forgets answer) state number = refl
  does_waiting (Moves answer tables) state number = refl
  does_waiting (Locks answer names) state number = refl
  does_waiting (Unlocks answer) state number = refl

  done_waiting : (state : State) (number : ℕ) (request : Request) → (done state number request).after.waiting ≡ state.waiting
  unfolding did
  done_waiting state number request = does_waiting (effect state number (filled state number request)) state number

  called_waits : (state : State) (number : ℕ) (request : Request) → P (Some request) → AllWait P state.waiting → AllWait P (calls state number request).after.waiting
  unfolding calls
  called_waits state number request is all = by (blocker state number (need state number request)) where
    by : (other : Option ℕ) → AllWait P (called_unless other state number request).after.waiting
    by None = subst (AllWait P) (sym (done_waiting state number request)) all
    by (Some other) = one_more state.waiting (record { session = number; request = request }) all is

  polled_waits : (state : State) (number : ℕ) → AllWait P state.waiting → AllWait P (polls state number).after.waiting
  unfolding polls
  polled_waits state number all = by (waiting_of number state.waiting) where
    left : AllWait P (without_waiting number state).waiting
    left = fewer (λ one. not (one.session == number)) state.waiting all

    over : (b : Bool) (other : ℕ) → AllWait P (polled_over b other state number).after.waiting
    over true other = left
    over false other = all

    unless : (waiting : Waiting) (other : Option ℕ) → AllWait P (polled_unless other state number waiting.request).after.waiting
    unless waiting None = subst (AllWait P) (sym (done_waiting (without_waiting number state) number waiting.request)) left
    unless waiting (Some other) = over (is_over state number) other

    by : (waiting : Option Waiting) → AllWait P (polled_of waiting state number).after.waiting
    by None = all
    by (Some waiting) = unless waiting (blocker state number (need state number waiting.request))

  lost_waits : (state : State) (number : ℕ) → AllWait P state.waiting → AllWait P (loses number state).waiting
  unfolding loses
  lost_waits state number all = fewer (λ one. not (one.session == number)) state.waiting all

  served_waits : (state : State) (number : ℕ) (asked : Asked) → ((request : Request) → asked ≡ Call request → P (Some request)) → AllWait P state.waiting → AllWait P (serves state number asked).after.waiting
  served_waits state number (Call request) called all = called_waits state number request (called request refl) all
  served_waits state number Poll called all = polled_waits state number all
  served_waits state number (Command word) called all = all
  served_waits state number Cut called all = lost_waits state number all

  pub left_waits : (side : Option Side) (state : State) (number : ℕ) (asked : Asked) → ((request : Request) → asked ≡ Call request → P (Some request)) → AllWait P state.waiting → AllWait P (leaves side state number asked).waiting
  left_waits None state number asked called all = served_waits state number asked called all
  left_waits (Some Before) state number asked called all = lost_waits state number all
  left_waits (Some After) state number asked called all = lost_waits (serves state number asked).after number (served_waits state number asked called all)

  -- what the turn is about
  pub about_so : (state : State) (number : ℕ) (asked : Asked) → P None → ((request : Request) → asked ≡ Call request → P (Some request)) → AllWait P state.waiting → P (asks_for state number asked)
  about_so state number (Call request) none called all = called request refl
  about_so state number Poll none called all = by (waiting_of number state.waiting) refl where
    by : (waiting : Option Waiting) → waiting_of number state.waiting ≡ waiting → P (request_waiting waiting)
    by None is = none
    by (Some waiting) is = found_so (λ one. one.session == number) state.waiting waiting all is
  about_so state number (Command word) none called all = none
  about_so state number Cut none called all = none
