-- The sessions that the copier's and the applier's next turns may be in.
use Rattle.std.proofs.Common.{◌≡◌, ◌<◌, ◌≤◌, ℕ, ◌+◌, Bool, true, false, List, [], ◌∷◌, ◌++◌, Option, Some, None, refl, sym, ap, ◌∙◌, subst, arith}
use Rattle.std.specs.Prelude.{◌==◌}
use Rattle.std.proofs.lemmas.Bool.{true≢false}
use Rattle.std.proofs.lemmas.Bool.Decides.{nat_tests}
use Rattle.base_script.specs.declared.actor.Actor.{Actor}
use Rattle.base_script.specs.declared.actor.Actor.TheVariants.{Copy, Apply}
use Rattle.server_model.specs.declared.entry.Entry.{Entry}
use Rattle.server_model.specs.declared.session.Session.{Session}
use Rattle.server_model.specs.Entries.{same_actor, is_command}
use Rattle.plan_data.specs.PlanData.{PlanData}
use Rattle.tool_program.specs.JournalWords.Journals.{state_at}
use Rattle.tool_program.specs.JournalWords.Sessions.{live_session, sessions_named}
use Rattle.proof_journals.specs.Scenes.{no_hold}
use Rattle.proof_journals.specs.Holdings.{face_in}
use Rattle.proof_journals.proofs.Actors.{Placed, Commands, GoesOn, Begins, SessionsKnown, live_more, named_differs, named_less, others_differ}
use Rattle.server_model.proofs.LockedRows.Tests.{are_one, turned}
use Rattle.proof_journals.specs.Machine.Standings.{MayTake}
use Rattle.proof_journals.proofs.Machine.Seated.{IsKnown}
use Rattle.proof_migration.specs.Migration.Machines.{hold_at}
use Rattle.proof_migration.specs.Program.Turns.Goes.{ActorStates}

less_apart : (a b : ℕ) → a < b → (a == b) ≡ false
less_apart a b less = grind (arith, nat_tests)

more_apart : (a b : ℕ) → b < a → (a == b) ≡ false
more_apart a b less = grind (arith, nat_tests)

-- there are such
pub record SomeActorStates (journal : List Entry) : Type 0 where
  pub copier : ℕ
  pub applier : ℕ
  pub actor_states : ActorStates journal copier applier

pub some_actor_states : (journal : List Entry) → SessionsKnown journal → SomeActorStates journal
some_actor_states journal known = by (live_session journal Copy) refl (live_session journal Apply) refl where
  named : ℕ
  named = sessions_named journal

  seated : (copier applier : ℕ) (one other : Option ℕ) → live_session journal Copy ≡ one → live_session journal Apply ≡ other → MayTake journal copier one → MayTake journal applier other → (copier == applier) ≡ false → SomeActorStates journal
  seated copier applier one other copy apply may also two =
      record { copier = copier; applier = applier; actor_states = record { copy = subst (MayTake journal copier) (sym copy) may; apply = subst (MayTake journal applier) (sym apply) also; two = two } }

  apart : (n k : ℕ) → live_session journal Copy ≡ Some n → live_session journal Apply ≡ Some k → (n == k) ≡ false
  apart n k copy apply = differ (n == k) refl where
    no : Copy ≡ Apply → true ≡ false
    no same = ap (same_actor Copy) same

    differ : (b : Bool) → (n == k) ≡ b → (n == k) ≡ false
    differ true same = absurd (true≢false (no (known.apart Copy Apply n copy (apply ∙ ap Some (sym (are_one n k same))))))
    differ false off = off

  by : (one : Option ℕ) → live_session journal Copy ≡ one → (other : Option ℕ) → live_session journal Apply ≡ other → SomeActorStates journal
  by (Some n) copy (Some k) apply = seated n k (Some n) (Some k) copy apply refl refl (apart n k copy apply)
  by (Some n) copy None apply =
      let within : n ≤ named = (known.own Copy n copy).1 in
      seated n (named + 1) (Some n) None copy apply refl (omega arith) (less_apart n (named + 1) (omega (arith, within)))
  by None copy (Some k) apply =
      let within : k ≤ named = (known.own Apply k apply).1 in
      seated (named + 1) k None (Some k) copy apply (omega arith) refl (more_apart (named + 1) k (omega (arith, within)))
  by None copy None apply = seated (named + 1) (named + 2) None None copy apply (omega arith) (omega arith) (less_apart (named + 1) (named + 2) (omega arith))

-- BEHIND A TURN

module _ (plan : PlanData) (journal : List Entry) (entry : Entry) (known : IsKnown plan journal) (placed : Placed journal entry) where
  abbrev more : List Entry
  more = journal ++ entry ∷ []

  -- another actor's seat is a seat before the turn, and not the turn's
  pub actor_state_before : (actor : Actor) (n : ℕ) → same_actor entry.actor actor ≡ false → MayTake more n (live_session more actor) → MayTake journal n (live_session journal actor)
  actor_state_before actor n differ may = by (live_session journal actor) refl may where
    same : live_session more actor ≡ live_session journal actor
    same = live_more journal entry actor ∙ rw differ refl

    by : (live : Option ℕ) → live_session journal actor ≡ live → MayTake more n (live_session more actor) → MayTake journal n live
    by (Some session) lives may = subst (MayTake more n) (same ∙ lives) may
    by None lives may = named_less journal entry known.sessions placed n (subst (MayTake more n) (same ∙ lives) may)

  pub actor_state_apart : (actor : Actor) (n : ℕ) → same_actor entry.actor actor ≡ false → MayTake more n (live_session more actor) → (n == entry.session) ≡ false
  actor_state_apart actor n differ may = by (live_session journal actor) refl where
    same : live_session more actor ≡ live_session journal actor
    same = live_more journal entry actor ∙ rw differ refl

    by : (live : Option ℕ) → live_session journal actor ≡ live → (n == entry.session) ≡ false
    by (Some session) lives =
        let one : n ≡ session = subst (MayTake more n) (same ∙ lives) may in
        ap (λ (k : ℕ). k == entry.session) one ∙ others_differ journal entry known.sessions placed actor session differ lives
    by None lives = turned entry.session n (named_differs journal entry known.sessions placed n (subst (MayTake more n) (same ∙ lives) may))

  -- the turn's own session is a seat of its actor's
  pub actor_state_own : is_command entry.asked ≡ false → MayTake journal entry.session (live_session journal entry.actor)
  actor_state_own called = by placed where
    by : Placed journal entry → MayTake journal entry.session (live_session journal entry.actor)
    by (Commands command zero) = absurd (true≢false (sym command ∙ called))
    by (GoesOn calls live) = rw live refl
    by (Begins calls uncut live above) = rw live above

-- a new session holds nothing
pub new_holds : (plan : PlanData) (journal : List Entry) (n : ℕ) → IsKnown plan journal → sessions_named journal < n → hold_at (state_at plan journal) n ≡ no_hold
new_holds plan journal n known above = ap (λ (found : Option Session). (face_in found).hold) (known.fresh n above)
