-- No line of a whole journal breaks a rule of scripts, losses or commands.
use Rattle.std.proofs.Common.{◌≡◌, ◌≢◌, ℕ, ◌<◌, ◌&&◌, ◌||◌, nat_lt, Bool, true, false, not, cond, List, [], ◌∷◌, length, Option, Some, None, refl, sym, ap, ◌∙◌, subst, arith}
use Rattle.std.proofs.lemmas.Bool.Decides.{nat_tests}
use Rattle.std.proofs.lemmas.Option.{slice_get_within}
use Rattle.std.proofs.lemmas.Bool.{and_from}
use Rattle.base_script.specs.declared.actor.Actor.{Actor}
use Rattle.base_script.specs.declared.actor.Actor.TheVariants.{Op, Insp, Copy, Apply, Lock, Ren, Client}
use Rattle.base_script.specs.declared.script.ScriptLine.{ScriptLine}
use Rattle.base_script.specs.declared.script.ScriptWord.{ScriptWord}
use Rattle.base_script.specs.declared.script.ScriptWord.TheVariants as words
use Rattle.server_model.specs.declared.request.Request.TheVariants as requests
use Rattle.server_model.specs.declared.entry.Asked.{Asked}
use Rattle.server_model.specs.declared.entry.Asked.TheVariants.{Call, Poll, Command, Cut}
use Rattle.server_model.specs.declared.entry.Entry.{Entry}
use Rattle.server_model.specs.Entries.{is_command}
use Rattle.plan_data.specs.PlanData.{PlanData}
use Rattle.tool_program.specs.JournalWords.Clients.{Reached, client_asks, client_at, line_asks, word_asks}
use Rattle.tool_program.specs.JournalWords.KeptPlans.{TakesNext, commands_taken, words_of}
use Rattle.run_audit.specs.declared.line.LineAsked.{LineAsked}
use Rattle.run_audit.specs.declared.line.LineAsked.TheVariants as asks
use Rattle.run_audit.specs.declared.line.TraceLine.{TraceLine}
use Rattle.run_audit.specs.Lines.{asked_of, line_of, lines_of}
use Rattle.run_audit.specs.Rules.{asks_next, client_reached, commands_in, is_astray, keeps_commands, keeps_losses, keeps_script, was_lost}
use Rattle.proof_audit.proofs.Sessions.{lines_tell_commands}
use Rattle.proof_audit.proofs.Struck.{losses_are_kept}
use Rattle.proof_audit.specs.Laws.{LinesKeepRules}
use Rattle.proof_audit.proofs.Kept.{client_lives, none_have, tell_clients, whole_lost}
use Rattle.proof_audit.proofs.Wholes.{IsTurn, turn_next, whole_before}
use Rattle.proof_audit.specs.Wholes.{IsWhole}

-- ---- scripts

word_kind : (word : ScriptWord) → asked_of (Call (word_asks word)) ≡ asks.Call
word_kind words.Begin = refl
word_kind words.Commit = refl
word_kind words.Rollback = refl
word_kind (words.Do statement) = refl

next_so : (waits : Bool) (left : List ScriptLine) (asked : Asked) → line_asks waits left ≡ Some asked → asks_next waits left (asked_of asked) ≡ true
next_so waits [] asked is = absurd cc
next_so true (line ∷ lines) asked is = let one : Poll ≡ asked = cc in subst (λ (other : Asked). asks_next true (line ∷ lines) (asked_of other) ≡ true) one refl
next_so false (line ∷ lines) asked is =
    let one : Call (word_asks line.word) ≡ asked = cc in
    subst (λ (other : Asked). asks_next false (line ∷ lines) (asked_of other) ≡ true) one (ap (asks_next false (line ∷ lines)) (word_kind line.word))

pub asks_so : (lost : Bool) (next : Option Asked) (asked : Asked) → cond lost None next ≡ Some asked → next ≡ Some asked
asks_so true next asked is = absurd cc
asks_so false next asked is = is

client_next_so : (plan : PlanData) (before : List Entry) (c : ℕ) (asked : Asked) → TakesNext plan before (Client c) asked → asks_next (client_at plan before c).waits (client_at plan before c).left (asked_of asked) ≡ true
unfolding client_asks
client_next_so plan before c Cut takes = refl
client_next_so plan before c (Call request) takes = next_so (client_at plan before c).waits (client_at plan before c).left (Call request) (asks_so (client_at plan before c).is_lost (line_asks (client_at plan before c).waits (client_at plan before c).left) (Call request) takes)
client_next_so plan before c Poll takes = next_so (client_at plan before c).waits (client_at plan before c).left Poll (asks_so (client_at plan before c).is_lost (line_asks (client_at plan before c).waits (client_at plan before c).left) Poll takes)
client_next_so plan before c (Command word) takes = next_so (client_at plan before c).waits (client_at plan before c).left (Command word) (asks_so (client_at plan before c).is_lost (line_asks (client_at plan before c).waits (client_at plan before c).left) (Command word) takes)

neither : (lost next : Bool) → lost ≡ false → next ≡ true → not (lost || (not lost && not next)) ≡ true
neither lost next lives is = rw (lives, is) refl

script_here : (plan : PlanData) (before : List Entry) (kind : LineAsked) (actor : Actor)
    → ((c : ℕ) → actor ≡ Client c → ((client_reached plan (lines_of before) c).is_lost ≡ false) × (asks_next (client_reached plan (lines_of before) c).waits (client_reached plan (lines_of before) c).left kind ≡ true))
    → not (was_lost plan (lines_of before) actor || is_astray plan (lines_of before) kind actor) ≡ true
script_here plan before kind Op client = refl
script_here plan before kind Insp client = refl
script_here plan before kind Copy client = refl
script_here plan before kind Apply client = refl
script_here plan before kind Lock client = refl
script_here plan before kind Ren client = refl
script_here plan before kind (Client c) client =
    let so = client c refl in
    neither (client_reached plan (lines_of before) c).is_lost (asks_next (client_reached plan (lines_of before) c).waits (client_reached plan (lines_of before) c).left kind) so.0 so.1

-- ---- commands

operator_so : (plan : PlanData) (lines : List TraceLine) (before : List Entry) (asked : Asked) → commands_in lines ≡ commands_taken before → TakesNext plan before Op asked → keeps_commands plan lines Op (asked_of asked) ≡ true
operator_so plan lines before Cut same takes = refl
operator_so plan lines before (Call request) same takes = let other : Call request ≡ Command takes.0 = takes.2 in absurd (cc other)
operator_so plan lines before Poll same takes = let other : Poll ≡ Command takes.0 = takes.2 in absurd (cc other)
operator_so plan lines before (Command word) same takes =
    let within : commands_taken before < length (words_of plan) = slice_get_within (words_of plan) (commands_taken before) takes.0 takes.1 in
    let known : commands_in lines < length (words_of plan) = subst (λ (n : ℕ). n < length (words_of plan)) (sym same) within in
    let less : nat_lt (commands_in lines) (length (words_of plan)) ≡ true = grind (arith, nat_tests) in
    less

client_commands : (plan : PlanData) (lines : List TraceLine) (c : ℕ) (waits : Bool) (left : List ScriptLine) (kind : LineAsked) → asks_next waits left kind ≡ true → keeps_commands plan lines (Client c) kind ≡ true
client_commands plan lines c waits left asks.Cut is = refl
client_commands plan lines c waits left asks.Call is = refl
client_commands plan lines c waits left asks.Rename is = refl
client_commands plan lines c waits left asks.Poll is = refl
client_commands plan lines c waits [] asks.Word is = absurd cc
client_commands plan lines c true (line ∷ left) asks.Word is = absurd cc
client_commands plan lines c false (line ∷ left) asks.Word is = absurd cc

tool_commands : (plan : PlanData) (lines : List TraceLine) (asked : Asked) → is_command asked ≡ false
    → (keeps_commands plan lines Insp (asked_of asked) ≡ true) × (keeps_commands plan lines Copy (asked_of asked) ≡ true) × (keeps_commands plan lines Apply (asked_of asked) ≡ true) × (keeps_commands plan lines Lock (asked_of asked) ≡ true) × (keeps_commands plan lines Ren (asked_of asked) ≡ true)
tool_commands plan lines Cut is = (refl, refl, refl, refl, refl)
tool_commands plan lines Poll is = (refl, refl, refl, refl, refl)
tool_commands plan lines (Command word) is = absurd cc
tool_commands plan lines (Call (requests.Rename pairs)) is = (refl, refl, refl, refl, refl)
tool_commands plan lines (Call request) is = (refl, refl, refl, refl, refl)

-- what the plan has a tool's actor ask is no command
tool_takes : (plan : PlanData) (before : List Entry) (asked : Asked) (actor : Actor) → actor ≢ Op → ((c : ℕ) → actor ≢ Client c) → TakesNext plan before actor asked → is_command asked ≡ false
tool_takes plan before Cut actor not_op not_client takes = refl
tool_takes plan before asked Op not_op not_client takes = absurd (not_op refl)
tool_takes plan before asked (Client c) not_op not_client takes = absurd (not_client c refl)
tool_takes plan before (Call request) actor not_op not_client takes = refl
tool_takes plan before Poll actor not_op not_client takes = refl
tool_takes plan before (Command word) Insp not_op not_client takes = takes
tool_takes plan before (Command word) Copy not_op not_client takes = takes
tool_takes plan before (Command word) Apply not_op not_client takes = takes
tool_takes plan before (Command word) Lock not_op not_client takes = takes
tool_takes plan before (Command word) Ren not_op not_client takes = takes

commands_here : (plan : PlanData) (before : List Entry) (asked : Asked) (actor : Actor) → commands_in (lines_of before) ≡ commands_taken before → TakesNext plan before actor asked → keeps_commands plan (lines_of before) actor (asked_of asked) ≡ true
commands_here plan before asked Op same takes = operator_so plan (lines_of before) before asked same takes
commands_here plan before asked Insp same takes = (tool_commands plan (lines_of before) asked (tool_takes plan before asked Insp (λ is. absurd cc) (λ c is. absurd cc) takes)).0
commands_here plan before asked Copy same takes = (tool_commands plan (lines_of before) asked (tool_takes plan before asked Copy (λ is. absurd cc) (λ c is. absurd cc) takes)).1
commands_here plan before asked Apply same takes = (tool_commands plan (lines_of before) asked (tool_takes plan before asked Apply (λ is. absurd cc) (λ c is. absurd cc) takes)).2
commands_here plan before asked Lock same takes = (tool_commands plan (lines_of before) asked (tool_takes plan before asked Lock (λ is. absurd cc) (λ c is. absurd cc) takes)).3
commands_here plan before asked Ren same takes = (tool_commands plan (lines_of before) asked (tool_takes plan before asked Ren (λ is. absurd cc) (λ c is. absurd cc) takes)).4
commands_here plan before asked (Client c) same takes =
    client_commands plan (lines_of before) c (client_at plan before c).waits (client_at plan before c).left (asked_of asked) (client_next_so plan before c asked takes)

-- *The lines keep the rules*
pub keep_rules : LinesKeepRules
keep_rules plan before entry later fit whole = record { script = script; losses = losses } where
  front : IsWhole plan before
  front = whole_before plan before (entry ∷ later) whole

  turn : IsTurn plan before entry
  turn = turn_next plan before entry later whole

  client : (c : ℕ) → entry.actor ≡ Client c → ((client_reached plan (lines_of before) c).is_lost ≡ false) × (asks_next (client_reached plan (lines_of before) c).waits (client_reached plan (lines_of before) c).left (asked_of entry.asked) ≡ true)
  client c same =
      let known : client_reached plan (lines_of before) c ≡ client_at plan before c = tell_clients plan before c fit front in
      let takes : TakesNext plan before (Client c) entry.asked = subst (λ (a : Actor). TakesNext plan before a entry.asked) same turn.takes in (
        ap (λ (r : Reached). r.is_lost) known ∙ client_lives plan before entry c (none_have plan before (entry ∷ later) whole) turn same,
        ap (λ (r : Reached). asks_next r.waits r.left (asked_of entry.asked)) known ∙ client_next_so plan before c entry.asked takes,
      )

  script : keeps_script plan (lines_of before) (line_of entry) ≡ true
  script = script_here plan before (asked_of entry.asked) entry.actor client

  losses : length before < plan.options.turn_limit → keeps_losses plan (lines_of before) (line_of entry) ≡ true
  losses within = and_from _ _ (losses_are_kept plan before entry (whole_lost plan before front) (turn.struck within)) (commands_here plan before entry.asked entry.actor (lines_tell_commands before) turn.takes)
