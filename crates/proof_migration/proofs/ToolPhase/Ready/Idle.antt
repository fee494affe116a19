-- Who is busy where a session of the tool's is, and that no transaction of clients is open once all clients are over.
use Rattle.std.proofs.Common.{◌≡◌, ◌⊎◌, ℕ, ◌==◌, ◌+◌, Bool, true, false, cond, not, ◌&&◌, ◌||◌, List, [], ◌∷◌, Option, Some, None, refl, sym, ap, ◌∙◌, inl, inr, arith}
use Rattle.std.specs.Prelude.{is_some, count_by}
use Rattle.std.specs.List.{list_any}
use Rattle.std.specs.Option.{option_map}
use Rattle.std.proofs.lemmas.Bool.{true≢false, false≢true, and_parts, not-true, or_cases}
use Rattle.std.proofs.lemmas.List.Sums.{sum_by-cons}
use Rattle.base_script.specs.declared.actor.Actor.{Actor}
use Rattle.base_script.specs.declared.actor.Actor.TheVariants.{Op, Insp, Copy, Apply, Lock, Ren, Client}
use Rattle.server_model.specs.declared.entry.Entry.{Entry}
use Rattle.server_model.specs.declared.session.Session.{Session}
use Rattle.server_model.specs.Entries.{is_client}
use Rattle.server_model.specs.States.{session_of, is_live, is_waiting, is_in_transaction, load, is_tool_busy}
use Rattle.plan_data.specs.PlanData.{PlanData}
use Rattle.tool_program.specs.JournalWords.Clients.{client_at, clients_over}
use Rattle.tool_program.specs.JournalWords.Journals.{state_at}
use Rattle.tool_program.specs.JournalWords.Sessions.{live_session}
use Rattle.tool_program.specs.Programs.{waits}
use Rattle.server_model.proofs.LockedRows.Tests.{same_number, are_one}
use Rattle.proof_journals.specs.Run.Counts.{AreApart}
use Rattle.proof_journals.specs.Run.Laws.{Living}
use Rattle.proof_journals.specs.Machine.Standings.{standing_in, standing_of}
use Rattle.proof_journals.proofs.Machine.Asking.{WaitsWith, busy_waits}
use Rattle.proof_journals.proofs.Machine.Clients.{ClientStands}
use Rattle.proof_migration.specs.ToolPhase.Laws.{IsOwned}
use Rattle.proof_journals.proofs.Faces.{busy_face}
use Rattle.proof_migration.specs.ToolPhase.Ready.{ScriptsEnd}
use Rattle.proof_migration.proofs.ToolPhase.Ready.Ends.{all_closed}

-- a session that passes, with its number
record Passing (test : Session → Bool) (sessions : List Session) : Type 0 where
  session : Session
  there : session_of session.number sessions ≡ Some session
  passes : test session ≡ true

passing : (test : Session → Bool) (sessions : List Session) → AreApart sessions → list_any test sessions ≡ true → Passing test sessions
unfolding AreApart
passing test [] apart some = absurd (false≢true some)
passing test (first ∷ sessions) apart some = by (test first) refl some (passing test sessions apart.1) where
  here : session_of first.number (first ∷ sessions) ≡ Some first
  here = ap (λ (b : Bool). cond b (Some first) (session_of first.number sessions)) (same_number first.number)

  there : (one : Passing test sessions) → session_of one.session.number (first ∷ sessions) ≡ Some one.session
  there one = at (first.number == one.session.number) refl where
    no : None ≡ Some one.session → ⊥
    no same = cc

    at : (b : Bool) → (first.number == one.session.number) ≡ b → cond b (Some first) (session_of one.session.number sessions) ≡ Some one.session
    at false differ = one.there
    at true same = absurd (no (sym apart.0 ∙ ap (λ (n : ℕ). session_of n sessions) (are_one first.number one.session.number same) ∙ one.there))

  by : (b : Bool) → test first ≡ b → (b || list_any test sessions) ≡ true → (list_any test sessions ≡ true → Passing test sessions) → Passing test (first ∷ sessions)
  by true is some rest = record { session = first; there = here; passes = is }
  by false is some rest = let one = rest some in record { session = one.session; there = there one; passes = one.passes }

-- an actor of the tool's whose session is in a transaction, or waits
pub record IsBusy (plan : PlanData) (journal : List Entry) : Type 0 where
  pub actor : Actor
  pub tool : is_client actor ≡ false
  pub busy : ((standing_of plan journal actor).busy ≡ true) ⊎ WaitsWith (standing_of plan journal actor).waits

module _ (plan : PlanData) (journal : List Entry) (living : Living journal (state_at plan journal)) (owner : (session : ℕ) → is_live (state_at plan journal) session ≡ true → IsOwned journal session) where
  -- the owner of a session, as it stands there
  owner_stands : (session : Session) → session_of session.number (state_at plan journal).sessions ≡ Some session → (owned : IsOwned journal session.number) → (standing_of plan journal owned.actor).busy ≡ session.in_transaction
  owner_stands session there owned =
      ap (λ (live : Option ℕ). (standing_in (state_at plan journal) live).busy) owned.lives ∙ sym (busy_face (session_of session.number (state_at plan journal).sessions)) ∙ ap is_in_transaction there

  owner_kind : (session : Session) → session_of session.number (state_at plan journal).sessions ≡ Some session → (owned : IsOwned journal session.number) → session.is_tool ≡ not (is_client owned.actor)
  owner_kind session there owned = some_is (sym (ap (option_map (λ (s : Session). s.is_tool)) there) ∙ living.kinds owned.actor session.number owned.lives) where
    some_is : Some session.is_tool ≡ Some (not (is_client owned.actor)) → session.is_tool ≡ not (is_client owned.actor)
    some_is same = cc

  -- WHO IS BUSY

  pub who_is_busy : is_tool_busy (state_at plan journal) ≡ true → IsBusy plan journal
  who_is_busy busy =
      let one : Passing (λ session. session.is_tool && (session.in_transaction || is_waiting (state_at plan journal) session.number)) (state_at plan journal).sessions =
      passing (λ session. session.is_tool && (session.in_transaction || is_waiting (state_at plan journal) session.number)) (state_at plan journal).sessions living.apart busy in
      let owned : IsOwned journal one.session.number = owner one.session.number (ap is_some one.there) in
      let parts = and_parts one.session.is_tool (one.session.in_transaction || is_waiting (state_at plan journal) one.session.number) one.passes in
      record {
        actor = owned.actor;
        tool = not-true (is_client owned.actor) (sym (owner_kind one.session one.there owned) ∙ parts.0);
        busy = by one.session one.there owned (or_cases one.session.in_transaction (is_waiting (state_at plan journal) one.session.number) parts.1);
      } where
        by : (session : Session) → session_of session.number (state_at plan journal).sessions ≡ Some session → (owned : IsOwned journal session.number) → (session.in_transaction ≡ true) ⊎ (is_waiting (state_at plan journal) session.number ≡ true)
            → ((standing_of plan journal owned.actor).busy ≡ true) ⊎ WaitsWith (standing_of plan journal owned.actor).waits
        by session there owned (inl in_one) = inl (owner_stands session there owned ∙ in_one)
        by session there owned (inr waits_so) = inr (busy_waits (state_at plan journal) (live_session journal owned.actor) (ap (waits (state_at plan journal)) owned.lives ∙ waits_so))

  -- CLIENTS' TRANSACTIONS

  none_counted : (test : Session → Bool) (sessions : List Session) → list_any test sessions ≡ false → count_by test sessions ≡ 0
  none_counted test [] none = refl
  none_counted test (first ∷ sessions) none = sum_by-cons (λ (x : Session). cond (test x) 1 0) first sessions ∙ by (test first) none (none_counted test sessions) where
    by : (b : Bool) → (b || list_any test sessions) ≡ false → (list_any test sessions ≡ false → count_by test sessions ≡ 0) → cond b 1 0 + count_by test sessions ≡ 0
    by true none rest = absurd (true≢false none)
    by false none rest = let same : 0 + count_by test sessions ≡ count_by test sessions = omega arith in same ∙ rest none

  -- *Once all clients are over the load is none*
  pub load_none : ScriptsEnd plan → clients_over plan journal ≡ true → ((c : ℕ) → ClientStands (client_at plan journal c) (standing_of plan journal (Client c))) → load (state_at plan journal) ≡ 0
  load_none ends over clients = none_counted test (state_at plan journal).sessions (by (list_any test (state_at plan journal).sessions) refl) where
    test : Session → Bool
    test session = not session.is_tool && session.in_transaction

    open_client : (actor : Actor) → is_client actor ≡ true → (standing_of plan journal actor).busy ≡ true → ⊥
    open_client (Client c) kind busy = true≢false (sym busy ∙ (clients c).busy ∙ all_closed plan journal ends over c)
    open_client Op kind busy = false≢true kind
    open_client Insp kind busy = false≢true kind
    open_client Copy kind busy = false≢true kind
    open_client Apply kind busy = false≢true kind
    open_client Lock kind busy = false≢true kind
    open_client Ren kind busy = false≢true kind

    client_kind : (b : Bool) (tool : Bool) → tool ≡ not b → not tool ≡ true → b ≡ true
    client_kind true tool same off = refl
    client_kind false true same off = absurd (false≢true off)
    client_kind false false same off = absurd (false≢true same)

    by : (b : Bool) → list_any test (state_at plan journal).sessions ≡ b → b ≡ false
    by false none = refl
    by true some =
        let one : Passing test (state_at plan journal).sessions = passing test (state_at plan journal).sessions living.apart some in
        let owned : IsOwned journal one.session.number = owner one.session.number (ap is_some one.there) in
        let parts = and_parts (not one.session.is_tool) one.session.in_transaction one.passes in
        absurd (open_client owned.actor (client_kind (is_client owned.actor) one.session.is_tool (owner_kind one.session one.there owned) parts.0) (owner_stands one.session one.there owned ∙ parts.1))
