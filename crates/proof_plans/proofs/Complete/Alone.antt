-- Of a quiet plan the tool alone takes turns, and no session of it is lost.
use Rattle.std.proofs.Common.{◌≡◌, ◌≢◌, ℕ, zero, suc, ◌+◌, ◌-◌, ◌==◌, Bool, true, false, cond, List, [], ◌∷◌, ◌++◌, Option, Some, None, refl, sym, ap, ◌∙◌, subst}
use Rattle.std.specs.Prelude.{fold, unwrap_or}
use Rattle.std.specs.List.{slice_get, AllByRecursion}
use Rattle.std.proofs.lemmas.Bool.{true≢false, false≢true}
use Rattle.base_script.specs.declared.actor.Actor.{Actor}
use Rattle.base_script.specs.declared.actor.Actor.TheVariants.{Op, Insp, Copy, Apply, Lock, Ren, Client}
use Rattle.base_script.specs.declared.operator.Command.{Command as Commands}
use Rattle.base_script.specs.declared.operator.OperatorWord.{OperatorWord}
use Rattle.base_script.specs.declared.script.ScriptLine.{ScriptLine}
use Rattle.server_model.specs.declared.answer.Answer.{Answer}
use Rattle.server_model.specs.declared.answer.Answer.TheVariants as answers
use Rattle.server_model.specs.declared.entry.Asked.{Asked}
use Rattle.server_model.specs.declared.entry.Asked.TheVariants.{Call, Poll, Command, Cut}
use Rattle.server_model.specs.declared.entry.Entry.{Entry}
use Rattle.server_model.specs.declared.request.Request.{Request}
use Rattle.server_model.specs.declared.request.Request.TheVariants as requests
use Rattle.server_model.specs.Entries.{same_actor, is_client}
use Rattle.plan_data.specs.PlanData.{PlanData}
use Rattle.tool_program.specs.JournalWords.Clients.{Reached, client_after, became, after_turn, client_at, new_client, script_of, client_asks, line_asks, with_draw}
use Rattle.tool_program.specs.JournalWords.Journals.{turns_of}
use Rattle.tool_program.specs.JournalWords.KeptPlans.{IsPlanned, IsStruck, KeepsPlan, TakesNext, commands_taken, cut_among, cut_due, side_due, struck_among, words_of}
use Rattle.tool_program.specs.CutoverCore.CutOvers.{is_bad}
use Rattle.tool_program.specs.Programs.{given}
use Rattle.proof_journals.specs.Run.Kept.{IsKept}
use Rattle.proof_journals.specs.Machine.Standings.{standing_of, serves_to, gives, IsAbout, is_called, is_polled}
use Rattle.proof_journals.proofs.Machine.Journals.{IsRun, IsTogether, Asking, asking, calls_so, polls_so}
use Rattle.proof_journals.proofs.Machine.Seated.{IsServed, own_heard}
use Rattle.proof_migration.proofs.ToolPhase.ToolPhaseTurns.{gives_asked}
use Rattle.proof_journals.proofs.Ghost.Turns.{along_next}
use Rattle.proof_migration.proofs.Program.Turns.Follows.{kept_run}
use Rattle.proof_plans.specs.Complete.Quiet.{IsQuiet, is_timed_out}

-- no turn is a client's
abbrev pub Nobody : List Entry → Type 0
Nobody journal = AllByRecursion (λ (entry : Entry). is_client entry.actor ≡ false) journal

-- the five that are neither clients nor the operator
abbrev pub is_tool : Actor → Bool
is_tool Op = false
is_tool (Client c) = false
is_tool actor = true

pub tool_kind : (actor : Actor) → is_tool actor ≡ true → is_client actor ≡ false
tool_kind Op is = refl
tool_kind Insp is = refl
tool_kind Copy is = refl
tool_kind Apply is = refl
tool_kind Lock is = refl
tool_kind Ren is = refl
tool_kind (Client c) is = absurd (false≢true is)

none_at : {A : Type 0} (place : ℕ) (found : A) → slice_get [] place ≡ Some found → ⊥
none_at zero found is = cc
none_at (suc place) found is = cc

empty_at : {A : Type 0} (place : ℕ) (found : Option A) → slice_get [] place ≡ found → found ≡ None
empty_at place None is = refl
empty_at place (Some found) is = absurd (none_at place found is)

-- CLIENTS

not_own : (c : ℕ) (client : Reached) (entry : Entry) → is_client entry.actor ≡ false → after_turn c client entry ≡ client
not_own c client entry kind = by entry.actor kind where
  by : (actor : Actor) → is_client actor ≡ false → cond (same_actor actor (Client c)) (client_after (became client entry) (with_draw entry.draw client)) client ≡ client
  by Op kind = refl
  by Insp kind = refl
  by Copy kind = refl
  by Apply kind = refl
  by Lock kind = refl
  by Ren kind = refl
  by (Client d) kind = absurd (true≢false kind)

same_client : (c : ℕ) (client : Reached) (journal : List Entry) → Nobody journal → fold (after_turn c) client journal ≡ client
same_client c client [] nobody = refl
same_client c client (entry ∷ journal) nobody = ap (λ (r : Reached). fold (after_turn c) r journal) (not_own c client entry nobody.0) ∙ same_client c client journal nobody.1

module _ (plan : PlanData) (quiet : IsQuiet plan) where
  no_script : (c : ℕ) → unwrap_or (script_of c plan) [] ≡ []
  no_script c = by (c == 0) where
    by : (b : Bool) → unwrap_or (cond b None (slice_get plan.clients (c - 1))) [] ≡ []
    by true = refl
    by false = ap (λ (o : Option (List ScriptLine)). unwrap_or o []) (ap (λ (all : List (List ScriptLine)). slice_get all (c - 1)) quiet.clients ∙ empty_at (c - 1) (slice_get [] (c - 1)) refl)

  none_asks : (journal : List Entry) (c : ℕ) → Nobody journal → client_asks plan journal c ≡ None
  unfolding client_asks client_at
  none_asks journal c nobody =
      ap (λ (r : Reached). cond r.is_lost None (line_asks r.waits r.left)) (same_client c (new_client (unwrap_or (script_of c plan) [])) journal nobody ∙ ap new_client (no_script c))

  no_words : (place : ℕ) (word : OperatorWord) → slice_get (words_of plan) place ≡ Some word → ⊥
  unfolding words_of
  no_words place word some = none_at place word (ap (λ (all : List OperatorWord). slice_get all place) (sym none) ∙ some) where
    none : words_of plan ≡ []
    none = ap (λ (all : List Commands). Rattle.std.specs.List.flat_map (λ (command : Commands). Rattle.std.specs.List.repeat command.units (command.word ∷ [])) all) quiet.operator

  uncut_among : (journal : List Entry) → cut_due plan journal ≡ None
  unfolding cut_among
  uncut_among journal = ap (cut_among journal) quiet.faults

  no_side : (journal : List Entry) (actor : Actor) → side_due plan journal actor ≡ None
  unfolding struck_among
  no_side journal actor = ap (struck_among actor (turns_of actor journal + 1)) quiet.faults

  -- ONE TURN

  module _ (journal : List Entry) (entry : Entry) (nobody : Nobody journal) (kept : IsKept plan (journal ++ entry ∷ [])) (together : IsTogether plan journal) where
    planned : IsPlanned plan journal entry
    unfolding KeepsPlan
    planned = along_next (IsPlanned plan) [] journal entry [] kept.planned

    run : IsRun plan journal entry
    run = kept_run plan journal entry kept

    struck : IsStruck plan journal entry None
    struck = subst (IsStruck plan journal entry) (uncut_among journal) planned.struck

    pub never_cut : entry.asked ≢ Cut
    never_cut = struck.0

    pub unlost : entry.side ≡ None
    unlost = struck.1 ∙ no_side journal entry.actor

    pub is_of_tool : is_tool entry.actor ≡ true
    is_of_tool = by entry.actor entry.asked never_cut planned.next where
      client : (c : ℕ) (asked : Asked) → client_asks plan journal c ≡ Some asked → ⊥
      client c asked asks = no (sym (none_asks journal c nobody) ∙ asks) where
        no : None ≡ Some asked → ⊥
        no same = cc

      by : (actor : Actor) (asked : Asked) → asked ≢ Cut → TakesNext plan journal actor asked → is_tool actor ≡ true
      by actor Cut uncut next = absurd (uncut refl)
      by (Client c) (Call request) uncut next = absurd (client c (Call request) next)
      by (Client c) Poll uncut next = absurd (client c Poll next)
      by (Client c) (Command word) uncut next = absurd (client c (Command word) next)
      by Op (Call request) uncut next = absurd (no_words (commands_taken journal) next.0 next.1)
      by Op Poll uncut next = absurd (no_words (commands_taken journal) next.0 next.1)
      by Op (Command word) uncut next = absurd (no_words (commands_taken journal) next.0 next.1)
      by Insp asked uncut next = refl
      by Copy asked uncut next = refl
      by Apply asked uncut next = refl
      by Lock asked uncut next = refl
      by Ren asked uncut next = refl

    pub asks_so : Asking plan journal entry.actor entry.asked
    unfolding given
    asks_so = by entry.actor refl is_of_tool where
      gives_so : given plan journal entry.actor ≡ Some entry.asked
      gives_so = gives_asked plan journal entry entry.asked run.followed.given refl never_cut

      at : (actor : Actor) → is_tool actor ≡ true → given plan journal actor ≡ Some entry.asked → Asking plan journal actor entry.asked
      at Insp is gives = asking plan journal Insp entry.asked together.server gives
      at Copy is gives = asking plan journal Copy entry.asked together.server gives
      at Apply is gives = asking plan journal Apply entry.asked together.server gives
      at Lock is gives = asking plan journal Lock entry.asked together.server gives
      at Ren is gives = asking plan journal Ren entry.asked together.server gives
      at Op is gives = absurd (false≢true is)
      at (Client c) is gives = absurd (false≢true is)

      by : (actor : Actor) → entry.actor ≡ actor → is_tool actor ≡ true → Asking plan journal entry.actor entry.asked
      by actor who is = subst (λ (a : Actor). Asking plan journal a entry.asked) (sym who) (at actor is (subst (λ (a : Actor). given plan journal a ≡ Some entry.asked) who gives_so))

    -- what the turn is about
    pub record IsOf : Type 0 where
      pub request : Request
      pub is : IsAbout request (standing_of plan journal entry.actor) entry.asked

    pub turn_of : IsOf
    turn_of = by asks_so where
      by : Asking plan journal entry.actor entry.asked → IsOf
      by (calls_so request asks idle call) = record { request = request; is = is_called asks idle }
      by (polls_so request asks some) = record { request = request; is = is_polled asks some }

    pub no_command : (word : OperatorWord) → entry.asked ≢ Command word
    no_command word asks = by asks_so where
      by : Asking plan journal entry.actor entry.asked → ⊥
      by (calls_so request called idle call) = no (sym asks ∙ called) where
        no : Command word ≡ Call request → ⊥
        no same = cc
      by (polls_so request polled some) = no (sym asks ∙ polled) where
        no : Command word ≡ Poll → ⊥
        no same = cc

    served : IsServed plan journal entry
    served = record { answered = run.answered; seated = record { session = run.followed.session } }

    -- no loss is answered, and where no wait is over no time-out is
    good_so : (request : Request) (answer : Answer) → serves_to request answer ≡ true → is_timed_out answer ≡ false → is_bad answer ≡ false
    good_so request answers.Lost fits timed = absurd (never request fits) where
      never : (request : Request) → gives request answers.Lost ≡ true → ⊥
      never requests.Begin is = cc
      never request is = cc
    good_so request (answers.TimedOut waited) fits timed = absurd (true≢false timed)
    good_so request answer fits timed = refl

    pub heard_well : is_timed_out entry.answer ≡ false → is_bad entry.answer ≡ false
    heard_well timed = good_so turn_of.request entry.answer (own_heard plan journal entry together.known served turn_of.request turn_of.is unlost) timed
