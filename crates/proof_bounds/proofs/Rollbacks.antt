-- In a revert the copier and the applier roll back once at most.
use Rattle.std.proofs.Common.{◌≡◌, ◌⊎◌, ◌≤◌, ℕ, ◌+◌, Bool, true, false, cond, not, ◌&&◌, List, [], ◌∷◌, ◌++◌, Option, Some, None, refl, sym, ap, ◌∙◌, subst, inl, inr, arith}
use Rattle.std.specs.Prelude.{is_some}
use Rattle.std.proofs.lemmas.Bool.{true≢false, false≢true}
use Rattle.std.proofs.lemmas.List.Sums.{sum_by_push}
use Rattle.base_script.specs.declared.actor.Actor.{Actor}
use Rattle.base_script.specs.declared.actor.Actor.TheVariants.{Copy, Apply}
use Rattle.server_model.specs.Along.{Along-keeps}
use Rattle.server_model.specs.declared.answer.Answer.{Answer}
use Rattle.server_model.specs.declared.answer.Answer.TheVariants as answers
use Rattle.server_model.specs.declared.entry.Asked.{Asked}
use Rattle.server_model.specs.declared.entry.Asked.TheVariants.{Call, Poll, Command, Cut}
use Rattle.server_model.specs.declared.entry.Entry.{Entry}
use Rattle.server_model.specs.declared.request.Request.{Request}
use Rattle.server_model.specs.declared.request.Request.TheVariants as requests
use Rattle.server_model.specs.declared.session.Session.{Session}
use Rattle.server_model.specs.Entries.{same_actor}
use Rattle.server_model.specs.States.{State, session_of, is_in_transaction}
use Rattle.plan_data.specs.PlanData.{PlanData}
use Rattle.base_values.specs.declared.value.Value.{Value}
use Rattle.tool_program.specs.declared.chunk_copier.copier.Copier.{Copier}
use Rattle.tool_program.specs.declared.chunk_copier.copier.CopyRange.{CopyRange}
use Rattle.tool_program.specs.declared.chunk_copier.copier.CopyStep.{CopyStep}
use Rattle.tool_program.specs.declared.chunk_copier.copier.CopyStep.TheVariants as copying
use Rattle.tool_program.specs.ChunkCopier.Copiers as copiers
use Rattle.tool_program.specs.declared.event_applier.applier.Applier.{Applier}
use Rattle.tool_program.specs.declared.event_applier.applier.ApplyStep.{ApplyStep}
use Rattle.tool_program.specs.declared.event_applier.applier.ApplyStep.TheVariants as applying
use Rattle.tool_program.specs.EventApplier.Appliers as appliers
use Rattle.tool_program.specs.JournalWords.Journals.{state_at, IsFaithful}
use Rattle.tool_program.specs.JournalWords.Sessions.{live_session}
use Rattle.tool_program.specs.CutoverCore.CutOvers.{is_done}
use Rattle.tool_program.specs.Programs.{in_transaction, rolls_back, copy_call, apply_call, may_read, tool_call, tool_asks, given, IsGiven, Follows}
use Rattle.tool_program.specs.Operators.{is_throttled}
use Rattle.tool_program.specs.Tools.{ToolPhase, SettingUp, Migrating, Tool, is_reverting, moment}
use Rattle.proof_journals.specs.Holdings.{face_in}
use Rattle.proof_journals.specs.Machine.Standings.{Standing, free, standing_in, standing_of, answered, answers_to, IsAbout, is_called}
use Rattle.proof_journals.proofs.Actors.{same_actor_is}
use Rattle.proof_journals.proofs.Machine.Journals.{IsRun, IsTogether, Asking, calls_so, polls_so, asking, never_commands, together_more, together_begins, all_runs}
use Rattle.proof_journals.proofs.Machine.Seated.{IsServed, others_stand, own_stands, own_fits, own_lost}
use Rattle.proof_bounds.specs.Laws.{back_turns, RollbacksAreFew}
use Rattle.proof_bounds.specs.Parts as parts
use Rattle.proof_migration.proofs.Program.Turns.Reverting.{reverting_more}

-- WHAT THEY ASK

busy_is : (state : State) (live : Option ℕ) → in_transaction state live ≡ (standing_in state live).busy
busy_is state None = refl
busy_is state (Some number) = by (session_of number state.sessions) where
  by : (found : Option Session) → is_in_transaction found ≡ (face_in found).busy
  by None = refl
  by (Some session) = refl

back_inside : (b : Bool) → cond b (Some requests.Rollback) None ≡ Some requests.Rollback → b ≡ true
back_inside true is = refl
back_inside false is = absurd cc

back_none : (b : Bool) → b ≡ false → cond b (Some requests.Rollback) None ≡ None
back_none b off = ap (λ (c : Bool). cond c (Some requests.Rollback) None) off

copy_at_not : (journal : List Entry) (copier : Copier) (range : CopyRange) (step : CopyStep) → copiers.call_at journal copier range step ≡ Some requests.Rollback → ⊥
copy_at_not journal copier range copying.Choosing is = cc
copy_at_not journal copier range (copying.Spanning reported size) is = cc
copy_at_not journal copier range (copying.Copying chunk copied) is = by (copiers.key_at journal (copying.Copying chunk copied)) is where
  by : (key : Option (List Value)) → copiers.copies copier key ≡ Some requests.Rollback → ⊥
  by None none = cc
  by (Some key) some = cc
copy_at_not journal copier range (copying.Committing chunk) is = cc

copy_not : (journal : List Entry) (copier : Copier) → copiers.next journal copier ≡ Some requests.Rollback → ⊥
unfolding copiers.next
copy_not journal copier is = by copier.is_copied is where
  ranged : (range : Option CopyRange) → copiers.call_in journal copier range ≡ Some requests.Rollback → ⊥
  ranged None none = cc
  ranged (Some range) some = copy_at_not journal copier range copier.step some

  by : (b : Bool) → cond b None (copiers.call_in journal copier copier.range) ≡ Some requests.Rollback → ⊥
  by true none = cc
  by false some = ranged copier.range some

apply_not : (journal : List Entry) (applier : Applier) → appliers.next journal applier ≡ requests.Rollback → ⊥
unfolding appliers.next
apply_not journal applier is = by applier.step is where
  said : (doing : Option appliers.Doing) → appliers.statement_result applier doing ≡ requests.Rollback → ⊥
  said None none = cc
  said (Some doing) some = cc

  by : (step : ApplyStep) → appliers.call_at journal applier step ≡ requests.Rollback → ⊥
  by applying.Reading same = cc
  by (applying.Beginning batch) same = cc
  by (applying.Applying batch done part) same = said (appliers.doing_at journal applier (applying.Applying batch done part)) same
  by (applying.Committing batch) same = cc

module _ (plan : PlanData) (state : State) (journal : List Entry) (tool : Tool) where
  -- who rolls back: all is reverted, and its transaction is open
  pub record Backs (actor : Actor) : Type 0 where
    pub on : is_reverting tool.reason ≡ true
    pub inside : in_transaction state (live_session journal actor) ≡ true

  copy_backs : (tool_phase : ToolPhase) → tool_call plan state journal tool tool_phase Copy ≡ Some requests.Rollback → Backs Copy
  copy_backs (SettingUp setup tries) none = absurd cc
  copy_backs (Migrating work) is = by (is_reverting tool.reason) refl is where
    never : (b : Bool) → cond b None (copiers.next journal work.copier) ≡ Some requests.Rollback → ⊥
    never true none = cc
    never false some = copy_not journal work.copier some

    by : (b : Bool) → is_reverting tool.reason ≡ b → cond b (rolls_back state (live_session journal Copy)) (copy_call plan state journal tool work) ≡ Some requests.Rollback → Backs Copy
    by true on is = record { on = on; inside = back_inside (in_transaction state (live_session journal Copy)) is }
    by false off is = absurd (never (copiers.starts work.copier && is_throttled plan state tool.operator) is)

  apply_backs : (tool_phase : ToolPhase) → tool_call plan state journal tool tool_phase Apply ≡ Some requests.Rollback → Backs Apply
  apply_backs (SettingUp setup tries) none = absurd cc
  apply_backs (Migrating work) is = by (is_reverting tool.reason) refl is where
    some : Some (appliers.next journal work.applier) ≡ Some requests.Rollback → ⊥
    some same = apply_not journal work.applier (let one : appliers.next journal work.applier ≡ requests.Rollback = cc in one)

    never : (a b : Bool) → cond a None (cond b None (Some (appliers.next journal work.applier))) ≡ Some requests.Rollback → ⊥
    never true b none = cc
    never false true none = cc
    never false false same = some same

    by : (b : Bool) → is_reverting tool.reason ≡ b → cond b (rolls_back state (live_session journal Apply)) (apply_call plan state journal tool work) ≡ Some requests.Rollback → Backs Apply
    by true on is = record { on = on; inside = back_inside (in_transaction state (live_session journal Apply)) is }
    by false off is = absurd (never (is_done work.cutover.phase) (appliers.starts work.applier && not (may_read plan state tool work)) is)

  -- in a revert, outside a transaction, they ask nothing
  copy_rests : (tool_phase : ToolPhase) → is_reverting tool.reason ≡ true → in_transaction state (live_session journal Copy) ≡ false → tool_call plan state journal tool tool_phase Copy ≡ None
  copy_rests (SettingUp setup tries) on outside = refl
  copy_rests (Migrating work) on outside = ap (λ (b : Bool). cond b (rolls_back state (live_session journal Copy)) (copy_call plan state journal tool work)) on ∙ back_none (in_transaction state (live_session journal Copy)) outside

  apply_rests : (tool_phase : ToolPhase) → is_reverting tool.reason ≡ true → in_transaction state (live_session journal Apply) ≡ false → tool_call plan state journal tool tool_phase Apply ≡ None
  apply_rests (SettingUp setup tries) on outside = refl
  apply_rests (Migrating work) on outside = ap (λ (b : Bool). cond b (rolls_back state (live_session journal Apply)) (apply_call plan state journal tool work)) on ∙ back_none (in_transaction state (live_session journal Apply)) outside

-- of both
pub record RollsBack (actor : Actor) : Type 0 where
  pub backs : (plan : PlanData) (state : State) (journal : List Entry) (tool : Tool) (tool_phase : ToolPhase) → tool_call plan state journal tool tool_phase actor ≡ Some requests.Rollback → Backs plan state journal tool actor
  pub rests : (plan : PlanData) (state : State) (journal : List Entry) (tool : Tool) (tool_phase : ToolPhase) → is_reverting tool.reason ≡ true → in_transaction state (live_session journal actor) ≡ false → tool_call plan state journal tool tool_phase actor ≡ None
  pub given_is : (plan : PlanData) (journal : List Entry) → given plan journal actor ≡ tool_asks plan journal (moment plan journal) actor

copy_rolls : RollsBack Copy
unfolding given
copy_rolls = record { backs = copy_backs; rests = copy_rests; given_is = λ plan journal. refl }

apply_rolls : RollsBack Apply
unfolding given
apply_rolls = record { backs = apply_backs; rests = apply_rests; given_is = λ plan journal. refl }

-- WHAT IS LEFT

-- one may come, unless all is reverted and the session is at rest
abbrev left_of : Bool → Standing → ℕ
left_of reverting standing = cond (reverting && not standing.busy && not (is_some standing.waits)) 0 1

at_most : (b : Bool) → cond b 0 1 ≤ 1
at_most true = omega arith
at_most false = omega arith

module _ (actor : Actor) (rolls : RollsBack actor) (plan : PlanData) where
  abbrev left : List Entry → ℕ
  left journal = left_of (is_reverting (moment plan journal).tool.reason) (standing_of plan journal actor)

  record IsLeft (journal : List Entry) : Type 0 where
    together : IsTogether plan journal
    few : back_turns actor journal + left journal ≤ 1

  module _ (journal : List Entry) (entry : Entry) (run : IsRun plan journal entry) (is : IsLeft journal) where
    abbrev more : List Entry
    more = journal ++ entry ∷ []

    abbrev on_now : Bool
    on_now = is_reverting (moment plan journal).tool.reason

    abbrev has : Standing
    has = standing_of plan journal actor

    served : IsServed plan journal entry
    served = record { answered = run.answered; seated = record { session = run.followed.session } }

    backs_more : back_turns actor more ≡ back_turns actor journal + cond (same_actor entry.actor actor && parts.rolls_back entry.asked) 1 0
    backs_more = sum_by_push (λ (one : Entry). cond (same_actor one.actor actor && parts.rolls_back one.asked) 1 0) journal entry

    none_more : (same_actor entry.actor actor && parts.rolls_back entry.asked) ≡ false → left more ≤ left journal → back_turns actor more + left more ≤ 1
    none_more off less = let count = backs_more ∙ ap (λ (b : Bool). back_turns actor journal + cond b 1 0) off in let few = is.few in omega (arith, count, less, few)

    -- where one was left, one is at most
    still_one : left journal ≡ 1 → left more ≤ left journal
    still_one one = let most = at_most (is_reverting (moment plan more).tool.reason && not (standing_of plan more actor).busy && not (is_some (standing_of plan more actor).waits)) in omega (arith, one, most)

    both_rest : (a b c : Bool) → (a && not b && not c) ≡ true → (a ≡ true) × (b ≡ false) × (c ≡ false)
    both_rest true false false is = (refl, refl, refl)
    both_rest true true c is = absurd (false≢true is)
    both_rest true false true is = absurd (false≢true is)
    both_rest false b c is = absurd (false≢true is)

    rest_left : (standing : Standing) → on_now ≡ true → standing.busy ≡ false → standing.waits ≡ None → standing_of plan more actor ≡ standing → left more ≡ 0
    rest_left standing on idle waits same =
        ap (λ (b : Bool). left_of b (standing_of plan more actor)) (reverting_more plan journal entry on) ∙ ap (λ (s : Standing). left_of true s) same
        ∙ ap (λ (b : Bool). cond {A = ℕ} (not b && not (is_some standing.waits)) 0 1) idle ∙ ap (λ (w : Option Request). cond {A = ℕ} (not (is_some w)) 0 1) waits

    none_is : (waits : Option Request) → is_some waits ≡ false → waits ≡ None
    none_is None is = refl
    none_is (Some request) is = absurd (true≢false is)

    -- where none was left, and the standing stays at rest, none is
    still_none : (test : Bool) → (on_now && not has.busy && not (is_some has.waits)) ≡ test → (test ≡ true → standing_of plan more actor ≡ has ⊎ standing_of plan more actor ≡ free) → left more ≤ left journal
    still_none false test rests = still_one (ap (λ (b : Bool). cond {A = ℕ} b 0 1) test)
    still_none true test rests = by (rests refl) where
      at : (on_now ≡ true) × (has.busy ≡ false) × (is_some has.waits ≡ false)
      at = both_rest on_now has.busy (is_some has.waits) test

      zero : left more ≡ 0 → left more ≤ left journal
      zero none = omega (arith, none)

      by : (standing_of plan more actor ≡ has) ⊎ (standing_of plan more actor ≡ free) → left more ≤ left journal
      by (inl same) = zero (rest_left has at.0 at.1 (none_is has.waits at.2) same)
      by (inr same) = zero (rest_left free at.0 refl refl same)

    -- ANOTHER ACTOR'S TURN

    other_left : same_actor entry.actor actor ≡ false → back_turns actor more + left more ≤ 1
    other_left differ =
        none_more (ap (λ (b : Bool). b && parts.rolls_back entry.asked) differ) (still_none (on_now && not has.busy && not (is_some has.waits)) refl (λ test. inl (others_stand plan journal entry is.together.known served actor differ)))

    -- ITS OWN

    module _ (who : entry.actor ≡ actor) (same : same_actor entry.actor actor ≡ true) where
      cut_left : entry.asked ≡ Cut → back_turns actor more + left more ≤ 1
      cut_left cut =
          none_more (ap (λ (b : Bool). b && parts.rolls_back entry.asked) same ∙ ap parts.rolls_back cut)
          (still_none (on_now && not has.busy && not (is_some has.waits)) refl (λ test. inr (subst (λ (a : Actor). standing_of plan more a ≡ free) who (own_lost plan journal entry is.together.known served cut))))

      -- it waited
      poll_left : (request : Request) → entry.asked ≡ Poll → has.waits ≡ Some request → back_turns actor more + left more ≤ 1
      poll_left request asks waits =
          none_more (ap (λ (b : Bool). b && parts.rolls_back entry.asked) same ∙ ap parts.rolls_back asks)
          (still_one (ap (λ (w : Option Request). cond {A = ℕ} (on_now && not has.busy && not (is_some w)) 0 1) waits ∙ off on_now has.busy)) where
            off : (a b : Bool) → cond {A = ℕ} (a && not b && false) 0 1 ≡ 1
            off true true = refl
            off true false = refl
            off false b = refl

      -- it called
      abbrev Calls : Request → Type 0
      Calls request = tool_call plan (moment plan journal).server journal (moment plan journal).tool (moment plan journal).tool.tool_phase actor ≡ Some request

      busy_here : in_transaction (moment plan journal).server (live_session journal actor) ≡ has.busy
      busy_here = ap (λ (s : State). in_transaction s (live_session journal actor)) is.together.server ∙ busy_is (state_at plan journal) (live_session journal actor)

      was_left : (request : Request) → Calls request → left journal ≡ 1
      was_left request call = by (on_now && not has.busy && not (is_some has.waits)) refl where
        by : (b : Bool) → (on_now && not has.busy && not (is_some has.waits)) ≡ b → cond {A = ℕ} b 0 1 ≡ 1
        by false test = refl
        by true test =
            let at = both_rest on_now has.busy (is_some has.waits) test in
            let none : tool_call plan (moment plan journal).server journal (moment plan journal).tool (moment plan journal).tool.tool_phase actor ≡ None = rolls.rests plan (moment plan journal).server journal (moment plan journal).tool (moment plan journal).tool.tool_phase at.0 (busy_here ∙ at.1) in
            absurd (no (sym none ∙ call)) where
              no : None ≡ Some request → ⊥
              no both = cc

      call_left : (request : Request) → entry.asked ≡ Call request → Calls request → (b : Bool) → parts.rolls_back (Call request) ≡ b → has.waits ≡ None → back_turns actor more + left more ≤ 1
      call_left request asks call false other idle = none_more (ap (λ (b : Bool). b && parts.rolls_back entry.asked) same ∙ ap parts.rolls_back asks ∙ other) (still_one (was_left request call))
      call_left request asks call true back idle =
          let none = rest_left (answered requests.Rollback entry.answer has) on (quiet entry.answer fits).0 (quiet entry.answer fits).1 stands in
          let count = backs_more in
          let one = was_left request call in
          let few = is.few in
          let most = at_most_one (same_actor entry.actor actor && parts.rolls_back entry.asked) in
          omega (arith, none, count, one, few, most) where
            at_most_one : (b : Bool) → cond b 1 0 ≤ 1
            at_most_one true = omega arith
            at_most_one false = omega arith

            rollback_is : (request : Request) → parts.rolls_back (Call request) ≡ true → request ≡ requests.Rollback
            rollback_is requests.Rollback is = refl
            rollback_is request is = absurd (false≢true is)

            it : request ≡ requests.Rollback
            it = rollback_is request back

            on : on_now ≡ true
            on = (rolls.backs plan (moment plan journal).server journal (moment plan journal).tool (moment plan journal).tool.tool_phase (call ∙ ap Some it)).on

            about : IsAbout requests.Rollback (standing_of plan journal entry.actor) entry.asked
            about = subst (λ (a : Actor). IsAbout requests.Rollback (standing_of plan journal a) entry.asked) (sym who) (is_called (asks ∙ ap Call it) idle)

            stands : standing_of plan more actor ≡ answered requests.Rollback entry.answer has
            stands = subst (λ (a : Actor). standing_of plan more a ≡ answered requests.Rollback entry.answer (standing_of plan journal a)) who (own_stands plan journal entry is.together.known served requests.Rollback about)

            fits : answers_to requests.Rollback entry.answer ≡ true
            fits = own_fits plan journal entry is.together.known served requests.Rollback about

            quiet : (answer : Answer) → answers_to requests.Rollback answer ≡ true → ((answered requests.Rollback answer has).busy ≡ false) × ((answered requests.Rollback answer has).waits ≡ None)
            quiet (answers.Ok n) fits = (refl, refl)
            quiet answers.Lost fits = (refl, refl)
            quiet answer fits = absurd (false≢true fits)

      asks_left : (asked : Asked) → entry.asked ≡ asked → Asking plan journal actor asked → back_turns actor more + left more ≤ 1
      asks_left asked asks (calls_so request is_call idle call) = call_left request (asks ∙ is_call) call (parts.rolls_back (Call request)) refl idle
      asks_left asked asks (polls_so request is_poll some) = poll_left request (asks ∙ is_poll) some

      own_left : (asked : Asked) → entry.asked ≡ asked → IsGiven plan journal entry asked → back_turns actor more + left more ≤ 1
      own_left Cut asks gives = cut_left asks
      own_left (Command word) asks gives = absurd (never_commands plan journal actor word (sym (rolls.given_is plan journal) ∙ subst (λ (a : Actor). given plan journal a ≡ Some (Command word)) who gives))
      own_left (Call request) asks gives = asks_left (Call request) asks (asking plan journal actor (Call request) is.together.server (sym (rolls.given_is plan journal) ∙ subst (λ (a : Actor). given plan journal a ≡ Some (Call request)) who gives))
      own_left Poll asks gives = asks_left Poll asks (asking plan journal actor Poll is.together.server (sym (rolls.given_is plan journal) ∙ subst (λ (a : Actor). given plan journal a ≡ Some Poll) who gives))

    left_more : IsLeft more
    left_more = record { together = together_more plan journal entry is.together run; few = by (same_actor entry.actor actor) refl } where
      by : (b : Bool) → same_actor entry.actor actor ≡ b → back_turns actor more + left more ≤ 1
      by false differ = other_left differ
      by true same = own_left (same_actor_is entry.actor actor same) same entry.asked refl run.followed.given

  none_left : IsLeft []
  none_left = record { together = together_begins plan; few = let most = at_most (is_reverting (moment plan []).tool.reason && not (standing_of plan [] actor).busy && not (is_some (standing_of plan [] actor).waits)) in omega (arith, most) }

  pub backs_few : (journal : List Entry) → IsFaithful plan journal → Follows plan journal → back_turns actor journal ≤ 1
  unfolding Follows
  backs_few journal faithful follows =
      let all = Along-keeps (IsRun plan) IsLeft (λ before entry run is. left_more before entry run is) [] journal (all_runs plan [] journal faithful follows) none_left in
      let few = all.few in
      omega (arith, few)

-- *Rollbacks are few*
pub rollbacks_few : RollbacksAreFew
rollbacks_few plan journal faithful follows = (backs_few Copy copy_rolls plan journal faithful follows, backs_few Apply apply_rolls plan journal faithful follows)
