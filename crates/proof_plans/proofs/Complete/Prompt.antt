-- Where no other session stands in its way an actor's call isn't made to wait.
use Rattle.server_model.specs.States.{is_of_tool}
use Rattle.server_model.proofs.Filling.{filled_case, numbered_table}
use Rattle.std.proofs.Common.{◌≡◌, ◌⊎◌, ℕ, ◌==◌, Bool, true, false, cond, not, ◌||◌, List, [], ◌∷◌, Option, Some, None, refl, sym, ap, ◌∙◌, subst, inl, inr}
use Rattle.std.specs.Prelude.{is_some}
use Rattle.std.specs.List.{AllByRecursion, list_any}
use Rattle.std.specs.Option.{option_map}
use Rattle.std.specs.Str.{bytes_eq}
use Rattle.std.proofs.lemmas.Bool.{true≢false}
use Rattle.base_values.proofs.SchemaRules.Lists.{All-append, All-weaker}
use Rattle.base_script.specs.declared.actor.Actor.{Actor}
use Rattle.server_model.specs.declared.entry.Asked.{Asked}
use Rattle.server_model.specs.declared.entry.Asked.TheVariants.{Call}
use Rattle.server_model.specs.declared.entry.Entry.{Entry}
use Rattle.server_model.specs.declared.request.Request.{Request}
use Rattle.server_model.specs.declared.session.HeldName.{HeldName}
use Rattle.server_model.specs.declared.session.Session.{Session}
use Rattle.server_model.specs.declared.session.Waiting.{Waiting}
use Rattle.server_model.specs.Entries.{same_actor, is_client, is_command}
use Rattle.server_model.specs.Blockers.{need}
use Rattle.server_model.specs.PlainServer.{calls, called_unless, done, serves}
use Rattle.server_model.specs.States.{State, session_of, new_session, connected, is_live, is_waiting, waiting_of, locked_names, shared_names}
use Rattle.plan_data.specs.PlanData.{PlanData}
use Rattle.tool_program.specs.JournalWords.Journals.{opens, opens_if, state_at}
use Rattle.tool_program.specs.JournalWords.Sessions.{live_session}
use Rattle.tool_program.specs.CutoverCore.CutOvers.{is_wait}
use Rattle.proof_journals.specs.Holdings.{Face, face_in, face_of, names_of}
use Rattle.proof_journals.specs.Plans.{limits_of, scene_of}
use Rattle.proof_journals.specs.Scenes.{SessionHold}
use Rattle.proof_journals.specs.Turns.{request_of}
use Rattle.proof_journals.proofs.Actors.{same_actor_is, Placed, Commands, GoesOn, Begins, placed}
use Rattle.proof_journals.proofs.Journals.{JournalHolds, opened_waits}
use Rattle.proof_journals.proofs.Waiting.{done_answers}
use Rattle.proof_journals.specs.Run.Laws.{Living, NoneWaits}
use Rattle.server_model.proofs.LockedRows.Tests.{same_number}
use Rattle.proof_migration.specs.ToolPhase.Laws.{IsOwned}
use Rattle.proof_migration.proofs.ToolPhase.Owners.{AllOwned}
use Rattle.proof_migration.proofs.ToolPhase.Chunks.Onlines.{done_waits}
use Rattle.proof_journals.specs.Machine.Standings.{Standing, standing_in, standing_of}
use Rattle.proof_journals.proofs.Machine.Journals.{IsRun}
use Rattle.proof_journals.proofs.Machine.Seated.{IsKnown, IsServed, own_given}
use Rattle.proof_plans.proofs.Complete.Unblocked.{Clears, each_session, names_off, unblocked}

-- the actor has no transaction, and locked no table of these names
pub record Harmless (names : List (List ℕ)) (standing : Standing) : Type 0 where
  pub busy : standing.busy ≡ false
  pub off : AllByRecursion (λ (name : List ℕ). AllByRecursion (λ (locked : List ℕ). bytes_eq locked name ≡ false) standing.locked) names

all_each : {X : Type 0} (P : X → Type 0) → ((x : X) → P x) → (xs : List X) → AllByRecursion P xs
all_each P each [] = tt
all_each P each (x ∷ xs) = (each x, all_each P each xs)

-- who locked no table is harmless to every name
pub unlocked_harmless : (names : List (List ℕ)) (standing : Standing) → standing.busy ≡ false → standing.locked ≡ [] → Harmless names standing
unlocked_harmless names standing idle none = record {
  busy = idle;
  off = all_each (λ (name : List ℕ). AllByRecursion (λ (locked : List ℕ). bytes_eq locked name ≡ false) standing.locked) (λ name. subst (AllByRecursion (λ (locked : List ℕ). bytes_eq locked name ≡ false)) (sym none) tt) names;
}

done_unwaits : (state : State) (number : ℕ) (request : Request) → is_wait (done state number request).answer ≡ false
done_unwaits state number request = done_waits (done state number request).answer (done_answers state number request)

module _ (plan : PlanData) (journal : List Entry) (entry : Entry) (known : IsKnown plan journal) (run : IsRun plan journal entry) (living : Living journal (state_at plan journal)) (owned : AllOwned plan journal) (lively : NoneWaits (state_at plan journal)) (holds : JournalHolds (limits_of plan) (scene_of plan journal) journal) (unlost : entry.side ≡ None) where
  abbrev now : State
  now = state_at plan journal

  abbrev has : Actor → Standing
  has = standing_of plan journal

  served : IsServed plan journal entry
  served = record { answered = run.answered; seated = record { session = run.followed.session } }

  -- NOTHING WAITS

  none_waits : ((a : Actor) → (has a).waits ≡ None) → now.waiting ≡ []
  none_waits none = by now.waiting refl where
    by : (waiting : List Waiting) → now.waiting ≡ waiting → waiting ≡ []
    by [] eq = refl
    by (first ∷ waiting) eq = absurd (alive (session_of first.session now.sessions) refl) where
      waits : is_waiting now first.session ≡ true
      waits = ap (λ (w : List Waiting). list_any (λ (one : Waiting). one.session == first.session) w) eq ∙ ap (λ (b : Bool). b || list_any (λ (one : Waiting). one.session == first.session) waiting) (same_number first.session)

      request : request_of (waiting_of first.session now.waiting) ≡ Some first.request
      request = ap (λ (w : List Waiting). request_of (waiting_of first.session w)) eq ∙ ap (λ (b : Bool). request_of (cond b (Some first) (waiting_of first.session waiting))) (same_number first.session)

      no_wait : (one : IsOwned journal first.session) → ⊥
      no_wait one = no (sym (none one.actor) ∙ ap (λ (o : Option ℕ). (standing_in now o).waits) one.lives ∙ request) where
        no : None ≡ Some first.request → ⊥
        no same = cc

      alive : (found : Option Session) → session_of first.session now.sessions ≡ found → ⊥
      alive None gone = true≢false (sym waits ∙ lively first.session (ap (option_map (λ (s : Session). s.is_tool)) gone))
      alive (Some session) there = no_wait (owned.owner first.session (ap is_some there))

  -- WHAT OTHERS HOLD

  module _ (names : List (List ℕ)) (called : is_command entry.asked ≡ false) (harmless : (a : Actor) → same_actor entry.actor a ≡ false → Harmless names (has a)) where
    differs : (m : ℕ) (a : Actor) → live_session journal a ≡ Some m → (m == entry.session) ≡ false → (b : Bool) → same_actor entry.actor a ≡ b → same_actor entry.actor a ≡ false
    differs m a lives other false is = is
    differs m a lives other true is = absurd (by (placed journal entry served.seated)) where
      own : live_session journal entry.actor ≡ Some m
      own = ap (live_session journal) (same_actor_is entry.actor a is) ∙ lives

      by : Placed journal entry → ⊥
      by (Commands command zero) = true≢false (sym command ∙ called)
      by (GoesOn calls live) = true≢false (sym (same_number entry.session) ∙ ap (λ (n : ℕ). n == entry.session) (one (sym live ∙ own)) ∙ other) where
        one : Some entry.session ≡ Some m → entry.session ≡ m
        one both = cc
      by (Begins calls uncut live above) = no (sym live ∙ own) where
        no : None ≡ Some m → ⊥
        no same = cc

    other_clears : (m : ℕ) (s : Session) → session_of m now.sessions ≡ Some s → (m == entry.session) ≡ false → Clears entry.session names s
    other_clears m s found other = record { locks = inr locks; each = All-weaker _ (λ (name : List ℕ). ((s.number == entry.session) ≡ true) ⊎ AllByRecursion (λ (one : HeldName). bytes_eq one.name name ≡ false) s.names) (λ name off. inr (names_off name s.names shared (subst (AllByRecursion (λ (locked : List ℕ). bytes_eq locked name ≡ false)) locked off))) names one.off } where
      owner : IsOwned journal m
      owner = owned.owner m (ap is_some found)

      one : Harmless names (has owner.actor)
      one = harmless owner.actor (differs m owner.actor owner.lives other (same_actor entry.actor owner.actor) refl)

      standing_is : has owner.actor ≡ standing_in now (Some m)
      standing_is = ap (standing_in now) owner.lives

      face : face_of now.sessions m ≡ face_in (Some s)
      face = ap face_in found

      held : (face_of now.sessions m).hold ≡ Rattle.proof_journals.specs.Scenes.no_hold
      held = ((holds.holds.fits m).rests (ap (λ (st : Standing). st.busy) (sym standing_is) ∙ one.busy)).0

      shared : names_of (shared_names s.names) ≡ []
      shared = ap (λ (f : Face). f.hold.names) (sym face) ∙ ap (λ (h : SessionHold). h.names) held

      locks : s.row_locks ≡ []
      locks = ap (λ (f : Face). f.hold.locks) (sym face) ∙ ap (λ (h : SessionHold). h.locks) held

      locked : (has owner.actor).locked ≡ locked_names s.names
      locked = ap (λ (st : Standing). st.locked) standing_is ∙ ap (λ (f : Face). f.locked) face

    own_clears : (s : Session) → (s.number == entry.session) ≡ true → Clears entry.session names s
    own_clears s own = record { locks = inl own; each = all_each (λ (name : List ℕ). ((s.number == entry.session) ≡ true) ⊎ AllByRecursion (λ (one : HeldName). bytes_eq one.name name ≡ false) s.names) (λ name. inl own) names }

    all_clear : AllByRecursion (Clears entry.session names) now.sessions
    all_clear = each_session (Clears entry.session names) now.sessions living.apart (λ m s found number. by m s found number (m == entry.session) refl) where
      by : (m : ℕ) (s : Session) → session_of m now.sessions ≡ Some s → s.number ≡ m → (b : Bool) → (m == entry.session) ≡ b → Clears entry.session names s
      by m s found number true own = own_clears s (ap (λ (n : ℕ). n == entry.session) number ∙ own)
      by m s found number false other = other_clears m s found other

    opened_clear : (nothing tool : Bool) → AllByRecursion (Clears entry.session names) (opens_if nothing tool entry.session now).sessions
    unfolding opens_if
    opened_clear nothing tool = by (nothing || is_live now entry.session) where
      by : (b : Bool) → AllByRecursion (Clears entry.session names) (cond b now (connected entry.session tool now)).sessions
      by true = all_clear
      by false = All-append (Clears entry.session names) now.sessions (new_session entry.session tool ∷ []) all_clear (own_clears (new_session entry.session tool) (same_number entry.session), tt)

  -- *A call isn't made to wait*
  pub call_prompt : (request : Request) → entry.asked ≡ Call request → ((a : Actor) → (has a).waits ≡ None) → ((a : Actor) → same_actor entry.actor a ≡ false → Harmless (Rattle.server_model.specs.States.names_in request) (has a)) → is_wait entry.answer ≡ false
  unfolding calls
  call_prompt request asks none harmless =
      ap is_wait (sym (own_given plan journal entry known served unlost) ∙ ap (λ (a : Asked). (serves (opens entry now) entry.session a).answer) asks)
      ∙ ap (λ (blocked : Option ℕ). is_wait (called_unless blocked (opens entry now) entry.session request).answer)
      (unblocked (opens entry now) entry.session (need (opens entry now) entry.session request) (opened_waits (is_command entry.asked) (not (is_client entry.actor)) entry.session now ∙ none_waits none)
      (filled_case (λ one full. AllByRecursion (Clears entry.session (Rattle.server_model.specs.States.names_in one)) (opens entry now).sessions → AllByRecursion (Clears entry.session (Rattle.server_model.specs.States.names_in full)) (opens entry now).sessions)
      (λ r clear. clear) (λ s n clear. subst (λ (t : List ℕ). AllByRecursion (Clears entry.session (t ∷ [])) (opens entry now).sessions) (sym (numbered_table n s)) clear)
      (is_of_tool (session_of entry.session (opens entry now).sessions)) (opens entry now).tables (opens entry now).counters request
      (opened_clear (Rattle.server_model.specs.States.names_in request) (ap is_command asks) harmless (is_command entry.asked) (not (is_client entry.actor)))))
      ∙ done_unwaits (opens entry now) entry.session request
