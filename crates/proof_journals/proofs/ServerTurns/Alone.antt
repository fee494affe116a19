-- What needs its names exclusively, and is done, is alone.
use Rattle.server_model.specs.Drawing.{filled}
use Rattle.server_model.proofs.Filling.{filled_taking}
use Rattle.server_model.specs.States.{is_of_tool}
use Rattle.std.proofs.Common.{◌≡◌, ℕ, Bool, true, false, not, ◌||◌, List, [], ◌∷◌, ◌++◌, map, cond, Option, Some, None, refl, sym, ap, ◌∙◌, subst, inl, inr}
use Rattle.std.specs.Prelude.{◌==◌}
use Rattle.std.proofs.lemmas.Bool.{false≢true, true≢false}
use Rattle.std.specs.List.{list_any}
use Rattle.std.specs.Str.{bytes_eq}
use Rattle.server_locks.specs.MetadataLocks.Grants as grants
use Rattle.server_locks.specs.MetadataLocks.Grants.{holds}
use Rattle.base_script.specs.declared.actor.Side.{Side}
use Rattle.base_script.specs.declared.actor.Side.TheVariants.{Before, After}
use Rattle.server_model.specs.declared.answer.Answer.TheVariants as answers
use Rattle.server_model.specs.declared.answer.Answer.{Answer}
use Rattle.proof_journals.specs.Turns.{scene_state, inner, answer_at, missed_at, reported_at, request_of, about}
use Rattle.server_model.specs.declared.entry.Asked.{Asked}
use Rattle.server_model.specs.declared.entry.Asked.TheVariants.{Call, Poll, Cut, Command}
use Rattle.server_model.specs.Entries.{is_command, is_client}
use Rattle.proof_journals.specs.Holdings.{IsHeld}
use Rattle.proof_journals.specs.ServerTurns.Others.{asks_names, held_at, TurnOf, ExclusiveIsAlone}
use Rattle.proof_journals.proofs.Names.{Free, OneIn, as_held, as_needed, held_joined, opened_one}
use Rattle.proof_journals.proofs.Serves.{IsFree, granted}
use Rattle.proof_journals.proofs.Journals.{JournalHolds, journal_holds}
use Rattle.proof_journals.proofs.ServerTurns.Others.{Held, held_from, entries_are_turns}
use Rattle.server_model.specs.declared.request.Request.{Request}
use Rattle.std.specs.Prelude.{is_some}
use Rattle.base_values.specs.declared.mysql_errors.TheConstants.{ER_TABLE_NOT_LOCKED}
use Rattle.server_model.specs.States.{connected, State, is_exclusive, is_in_transaction, name_held, names_in, session_of, view, waiting_of}
use Rattle.server_model.specs.Answers.{refuses, ok}
use Rattle.server_model.specs.declared.session.Waiting.{Waiting}
use Rattle.server_model.specs.PlainServer.{called_unless, calls, does, did, exclusive, is_over, polled_of, polled_over, polled_unless, polls, serves, without_waiting}
use Rattle.server_model.specs.Effects.{effect_unless, is_outside}
use Rattle.server_model.specs.Blockers.{need, need_within, blocker}
use Rattle.tool_program.specs.JournalWords.Journals.{opens, opens_if}
use Rattle.server_model.proofs.LockedRows.Tests.{are_one, are_same}

-- names that are free are held by nobody else
one_alone : (held : List grants.HeldName) (number n : ℕ) (first : List ℕ) → Free held number (exclusive first ∷ []) → (n == number) ≡ false → holds held n first false ≡ false
one_alone held number n first free differ = at (holds held n first false) refl where
  at : (b : Bool) → holds held n first false ≡ b → b ≡ false
  at false is = refl
  at true is =
      let has : Held held n first = held_from held n first is in
      let off : bytes_eq has.one.name first ≡ false = free (name_held number (exclusive first)) has.one (inl refl) has.is (ap (λ (m : ℕ). m == number) (are_one has.one.session n has.own) ∙ differ) refl in
      absurd (true≢false (sym has.same ∙ off))

pub free_alone : (held : List grants.HeldName) (number n : ℕ) (names : List (List ℕ)) (name : List ℕ) → Free held number (map exclusive names) → (n == number) ≡ false → list_any (bytes_eq name) names ≡ true → holds held n name false ≡ false
free_alone held number n [] name free differ is = absurd (false≢true is)
free_alone held number n (first ∷ names) name free differ is = at (bytes_eq name first) refl is (free_alone held number n names name (λ new other p q d e. free new other (inr p) q d e) differ) where
  front : (new : grants.HeldName) → IsHeld new (as_held number (exclusive first ∷ [])) → IsHeld new (as_held number (map exclusive (first ∷ names)))
  front new (inl same) = inl same
  front new (inr none) = absurd none

  at : (b : Bool) → bytes_eq name first ≡ b → (b || list_any (bytes_eq name) names) ≡ true → (list_any (bytes_eq name) names ≡ true → holds held n name false ≡ false) → holds held n name false ≡ false
  at true same is rest = subst (λ (m : List ℕ). holds held n m false ≡ false) (sym (are_same name first same)) (one_alone held number n first (λ new other p q d e. free new other (front new p) q d e) differ)
  at false off is rest = rest is

-- a request that is done
abbrev pub AloneAt : State → ℕ → Request → Type 0
AloneAt state number request = (n : ℕ) (name : List ℕ) → (n == number) ≡ false → list_any (bytes_eq name) (names_in request) ≡ true → holds (held_at state) n name false ≡ false

done_alone : (base state : State) (number : ℕ) (request : Request) → is_exclusive request ≡ true → (outside : Bool) → IsFree state number (need_within (view number state) request) → (does (effect_unless outside (is_in_transaction (session_of number base.sessions)) (view number base) base request) base number).answer ≡ ok → AloneAt state number request
done_alone base state number request takes true free is n name differ named = absurd (refusal is) where
  refusal : refuses ER_TABLE_NOT_LOCKED ≡ ok → ⊥
  refusal same = cc
done_alone base state number request takes false free is n name differ named =
    free_alone (held_at state) number n (names_in request) name (subst (λ (b : Bool). Free (held_at state) number (as_needed b (names_in request))) takes free.names) differ named

call_alone : (state : State) (number : ℕ) (request : Request) → OneIn state.sessions → is_exclusive request ≡ true → (by : Option ℕ) → blocker state number (need state number request) ≡ by → (called_unless by state number request).answer ≡ ok → AloneAt state number request
unfolding did
call_alone state number request one takes None is given =
    subst (λ (r : Request). AloneAt state number r) full
    (done_alone state state number (filled state number request) (ap is_exclusive full ∙ takes) (is_outside (session_of number state.sessions) (filled state number request)) (granted state number (need state number request) one is) given) where
      full : filled state number request ≡ request
      full = filled_taking (is_of_tool (session_of number state.sessions)) state.tables state.counters request takes
call_alone state number request one takes (Some by) is given = absurd (waits given) where
  waits : answers.Waits by ≡ ok → ⊥
  waits same = cc

poll_alone : (state : State) (number : ℕ) (request : Request) → OneIn state.sessions → is_exclusive request ≡ true → (by : Option ℕ) → blocker state number (need state number request) ≡ by → (polled_unless by state number request).answer ≡ ok → AloneAt state number request
unfolding did
poll_alone state number request one takes None is given =
    subst (λ (r : Request). AloneAt state number r) full
    (done_alone (without_waiting number state) state number (filled state number request) (ap is_exclusive full ∙ takes) (is_outside (session_of number state.sessions) (filled state number request)) (granted state number (need state number request) one is) given) where
      full : filled state number request ≡ request
      full = filled_taking (is_of_tool (session_of number state.sessions)) state.tables state.counters request takes
poll_alone state number request one takes (Some by) is given = at (is_over state number) given where
  over : {polls : ℕ} → answers.TimedOut polls ≡ ok → ⊥
  over same = cc

  waits : answers.Waits by ≡ ok → ⊥
  waits same = cc

  at : (b : Bool) → (polled_over b by state number).answer ≡ ok → AloneAt state number request
  at true same = absurd (over same)
  at false same = absurd (waits same)

served_alone : (state : State) (number : ℕ) (asked : Asked) (request : Request) → OneIn state.sessions → about state number asked ≡ Some request → is_exclusive request ≡ true → (serves state number asked).answer ≡ ok → AloneAt state number request
unfolding calls polls
served_alone state number (Call asked) request one is takes given = let same : asked ≡ request = cc in subst (λ (r : Request). AloneAt state number r) same (call_alone state number asked one (ap is_exclusive same ∙ takes) (blocker state number (need state number asked)) refl given)
served_alone state number Poll request one is takes given = at (waiting_of number state.waiting) is given where
  at : (waiting : Option Waiting) → request_of waiting ≡ Some request → (polled_of waiting state number).answer ≡ ok → AloneAt state number request
  at None is given = absurd (cc)
  at (Some waiting) is given = let same : waiting.request ≡ request = cc in subst (λ (r : Request). AloneAt state number r) same (poll_alone state number waiting.request one (ap is_exclusive same ∙ takes) (blocker state number (need state number waiting.request)) refl given)
served_alone state number (Command word) request one is takes given = absurd (cc)
served_alone state number Cut request one is takes given = absurd (lost given) where
  lost : answers.Lost ≡ ok → ⊥
  lost same = cc

-- what was told is the server's answer
pub reported_inner : (side : Option Side) (given : Answer) → reported_at side (answer_at side given) (missed_at side given) ≡ Some ok → given ≡ ok
reported_inner None given is = cc
reported_inner (Some Before) given is = absurd (cc)
reported_inner (Some After) given is = cc

pub held_opened : (nothing tool : Bool) (number : ℕ) (state : State) → held_at (opens_if nothing tool number state) ≡ held_at state
unfolding opens_if
held_opened nothing tool number state = at (nothing || is_some (session_of number state.sessions)) where
  at : (b : Bool) → held_at (cond b state (connected number tool state)) ≡ held_at state
  at true = refl
  at false = held_joined state.sessions number tool

-- *What needs its names exclusively, and is done, is alone*
pub exclusive_is_alone : ExclusiveIsAlone
exclusive_is_alone limits scene journal entry request run answered asks takes was =
    let state : State = scene_state limits scene journal in
    let number = entry.session in
    let nothing : Bool = is_command entry.asked in
    let tool : Bool = not (is_client entry.actor) in
    let now : State = opens entry state in
    let held : JournalHolds limits scene journal = journal_holds limits scene journal run in
    let given : inner state entry ≡ ok = reported_inner entry.side (inner state entry) (sym (ap (λ (g : Answer). reported_at entry.side g entry.missed) answered.answer ∙ ap (λ (m : Option Answer). reported_at entry.side (answer_at entry.side (inner state entry)) m) answered.missed) ∙ was) in
    let alone : AloneAt now number request = served_alone now number entry.asked request (opened_one nothing tool number state held.one) asks takes given in
    let before : AloneAt state number request = λ n name differ named. ap (λ (h : List grants.HeldName). holds h n name false) (sym (held_opened nothing tool number state)) ∙ alone n name differ named in
    let turn : TurnOf (asks_names (about now number entry.asked)) number state (scene_state limits scene (journal ++ entry ∷ [])) = entries_are_turns limits scene journal entry run in
    record { alone = before; alone_after = λ n name differ named. turn.others n name false differ ∙ before n name differ named }
