-- The sessions of a kept journal: from 1, each actor's apart from the others', and a live one is its actor's last.
use Rattle.std.proofs.Common.{◌≡◌, ◌≢◌, ◌<◌, ℕ, Bool, true, false, cond, List, [], ◌∷◌, ◌++◌, Option, Some, None, refl, sym, ◌∙◌, subst, arith}
use Rattle.std.proofs.lemmas.Bool.{true≢false}
use Rattle.base_script.specs.declared.actor.Actor.{Actor}
use Rattle.server_model.specs.Along.{Along, Along-both, Along-keeps}
use Rattle.server_model.specs.Entries.{is_command, same_actor}
use Rattle.server_model.specs.declared.answer.Answer.{Answer}
use Rattle.server_model.specs.declared.answer.Answer.TheVariants as answers
use Rattle.server_model.specs.declared.entry.Asked.{Asked}
use Rattle.server_model.specs.declared.entry.Asked.TheVariants.{Call, Poll, Command, Cut}
use Rattle.server_model.specs.declared.entry.Entry.{Entry}
use Rattle.plan_data.specs.PlanData.{PlanData}
use Rattle.tool_program.specs.JournalWords.Sessions.{IsInSession, IsSeated, KeepsSessions, live_session, session_left, sessions_named}
use Rattle.tool_program.specs.Programs.{Follows, IsFollowed}
use Rattle.proof_journals.proofs.Actors.{live_more}
use Rattle.proof_journals.specs.Run.Kept.{IsKept}
use Rattle.proof_journals.specs.Sentry.Laws.{FollowsNumbered}
use Rattle.proof_journals.specs.Sentry.TurnResults.{IsNumbered, last_session}
use Rattle.proof_journals.proofs.Sentry.Sessions.{live_is_last, sessions_differ}
use Rattle.proof_journals.proofs.Machine.Journals.{IsRun}
use Rattle.proof_migration.proofs.Program.Turns.Follows.{kept_front, kept_run}

-- SESSIONS FROM 1

abbrev Counts : List Entry → Type 0
Counts journal = (actor : Actor) (session : ℕ) → live_session journal actor ≡ Some session → 0 < session

counts_one : (journal : List Entry) (entry : Entry) → Counts journal → IsSeated journal entry → is_command entry.asked ≡ false → 0 < entry.session
counts_one journal entry counts seated called = by entry.asked called (live_session journal entry.actor) refl seated.session where
  above : sessions_named journal < entry.session → 0 < entry.session
  above is = omega (arith, is)

  by : (asked : Asked) → is_command asked ≡ false → (live : Option ℕ) → live_session journal entry.actor ≡ live → IsInSession journal entry asked live → 0 < entry.session
  by (Command word) called live lives is = absurd (true≢false called)
  by (Call request) called (Some session) lives is = subst (λ (n : ℕ). 0 < n) (sym is) (counts entry.actor session lives)
  by Poll called (Some session) lives is = subst (λ (n : ℕ). 0 < n) (sym is) (counts entry.actor session lives)
  by Cut called (Some session) lives is = subst (λ (n : ℕ). 0 < n) (sym is) (counts entry.actor session lives)
  by (Call request) called None lives is = above is
  by Poll called None lives is = above is
  by Cut called None lives is = absurd is

left_called : (asked : Asked) (answer : Answer) (session left : ℕ) → session_left asked answer session ≡ Some left → (is_command asked ≡ false) × (left ≡ session)
left_called (Command word) answer session left is = absurd cc
left_called asked answers.Lost session left is = absurd cc
left_called asked answer session left is = let one : session ≡ left = cc in (refl, sym one)

counts_more : (journal : List Entry) (entry : Entry) → Counts journal → IsSeated journal entry → Counts (journal ++ entry ∷ [])
counts_more journal entry counts seated actor session lives = by (same_actor entry.actor actor) (sym (live_more journal entry actor) ∙ lives) where
  by : (b : Bool) → cond b (session_left entry.asked entry.answer entry.session) (live_session journal actor) ≡ Some session → 0 < session
  by true is = let left : (is_command entry.asked ≡ false) × (session ≡ entry.session) = left_called entry.asked entry.answer entry.session session is in subst (λ (n : ℕ). 0 < n) (sym left.1) (counts_one journal entry counts seated left.0)
  by false is = counts actor session is

all_count : (before journal : List Entry) → Counts before → Along IsSeated before journal → Along (λ some one. IsNumbered one) before journal
all_count before [] counts seated = tt
all_count before (entry ∷ journal) counts seated =
    (record { from = λ called zero. let more : 0 < entry.session = counts_one before entry counts seated.0 called in omega (arith, more, zero) }, all_count (before ++ entry ∷ []) journal (counts_more before entry counts seated.0) seated.1)

none_live : Counts []
unfolding live_session
none_live actor session lives = absurd cc

all_counted : (journal : List Entry) → Along IsSeated [] journal → Counts journal
all_counted journal seated = Along-keeps IsSeated Counts (λ all one is counts. counts_more all one counts is) [] journal seated none_live

-- A KEPT JOURNAL

module _ (plan : PlanData) (journal : List Entry) (entry : Entry) (kept : IsKept plan (journal ++ entry ∷ [])) where
  before : IsKept plan journal
  before = kept_front plan journal (entry ∷ []) kept

  run : IsRun plan journal entry
  run = kept_run plan journal entry kept

  numbered : FollowsNumbered plan journal
  unfolding Follows KeepsSessions
  numbered = Along-both (IsFollowed plan) (λ some one. IsNumbered one) [] journal before.follows (all_count [] journal none_live before.sessions)

  counted : IsNumbered entry
  unfolding KeepsSessions
  counted = record { from = λ called zero. let above : 0 < entry.session = counts_one journal entry (all_counted journal before.sessions) (record { session = run.followed.session }) called in omega (arith, above, zero) }

  -- its session is no other actor's last one
  pub kept_differs : is_command entry.asked ≡ false → (actor : Actor) → same_actor entry.actor actor ≡ false → last_session journal actor ≢ entry.session
  kept_differs called actor other = sessions_differ plan journal entry actor numbered run.followed counted called other

  -- where its actor has a live session, it is in that, and that is the last one
  pub kept_last : is_command entry.asked ≡ false → (session : ℕ) → live_session journal entry.actor ≡ Some session → entry.session ≡ last_session journal entry.actor
  kept_last called session lives = by entry.asked called (live_session journal entry.actor) lives run.followed.session where
    last : entry.session ≡ session → entry.session ≡ last_session journal entry.actor
    last same = same ∙ live_is_last plan journal entry.actor session numbered lives

    by : (asked : Asked) → is_command asked ≡ false → (live : Option ℕ) → live ≡ Some session → IsInSession journal entry asked live → entry.session ≡ last_session journal entry.actor
    by (Command word) called live is seated = absurd (true≢false called)
    by (Call request) called (Some n) is seated = let one : n ≡ session = cc in last (seated ∙ one)
    by Poll called (Some n) is seated = let one : n ≡ session = cc in last (seated ∙ one)
    by Cut called (Some n) is seated = let one : n ≡ session = cc in last (seated ∙ one)
    by (Call request) called None is seated = absurd cc
    by Poll called None is seated = absurd cc
    by Cut called None is seated = absurd cc
