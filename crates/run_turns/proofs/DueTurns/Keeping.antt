-- A journal that a run keeps is kept with the turn that is due.
use Rattle.std.proofs.Common.{◌≡◌, ◌≢◌, ℕ, ◌+◌, ◌<◌, false, not, List, [], Option, Some, None, refl, sym, ap, ◌∙◌, subst, arith}
use Rattle.std.proofs.lemmas.Bool.{true≢false, false≢true}
use Rattle.std.proofs.lemmas.Option.{none-some}
use Rattle.base_script.specs.declared.actor.Actor.{Actor}
use Rattle.base_script.specs.declared.actor.Actor.TheVariants.{Op, Insp, Copy, Apply, Lock, Ren, Client}
use Rattle.server_model.specs.Along.{Along-more}
use Rattle.server_model.specs.declared.entry.Asked.{Asked}
use Rattle.server_model.specs.declared.entry.Asked.TheVariants.{Call, Poll, Command, Cut}
use Rattle.server_model.specs.declared.entry.Entry.{Entry}
use Rattle.server_model.specs.Entries.{is_client, is_command, is_cut}
use Rattle.server_model.specs.States.{State}
use Rattle.server_model.specs.PlainServer.{given_at, drawn_in}
use Rattle.plan_data.specs.PlanData.{PlanData}
use Rattle.tool_program.specs.JournalWords.Journals.{opening, state_at, after_entry, inner_answer, drawn_of, heard, missed, may_lose, IsAnswered}
use Rattle.tool_program.specs.JournalWords.KeptPlans.{side_due, TakesNext, IsStruck, IsPlanned}
use Rattle.tool_program.specs.JournalWords.Sessions.{live_session, sessions_named, IsInSession, IsNumbered, NumbersSessions}
use Rattle.tool_program.specs.Programs.{given, IsGiven, IsFollowed}
use Rattle.proof_journals.specs.Run.Counts.{IsAfter}
use Rattle.proof_journals.specs.Run.Kept.{IsKept}
use Rattle.proof_journals.specs.Run.Laws.{Living}
use Rattle.proof_journals.proofs.Run.Keeping.{kept_more, next_of}
use Rattle.proof_journals.proofs.Journals.{state_more}
use Rattle.proof_journals.proofs.Run.Living.{all_living}
use Rattle.run_turns.specs.declared.due_turns.migration_run.turn.Turn.{Turn}
use Rattle.run_turns.specs.DueTurns.MigrationRun.ServerTurns.{opened_on, answer_on, entry_on}
use Rattle.run_turns.specs.DueTurns.Due.{session_at, next_entry}
use Rattle.run_turns.specs.DueTurns.Laws.{IsKeptWith, DueTurnsAreKept, DueTurnsAreNumbered}
use Rattle.run_turns.proofs.DueTurns.Coming.{Comes, Cuts, Gives, comes, Asks, Commands, Called, given_asks, given_uncut, operator_unstruck, Lives, cut_lives}
use Rattle.run_turns.proofs.DueTurns.Turning.{answered as turn_answered, seated as turn_seated, goes_after}

module _ (plan : PlanData) (journal : List Entry) (server : State) (actor : Actor) (turn : Turn) (kept : IsKept plan journal) (following : IsAfter (state_at plan journal) server) (comes_so : Comes plan journal actor turn) where
  abbrev session : ℕ
  session = session_at turn.asked (live_session journal turn.actor) server.made

  abbrev entry : Entry
  entry = entry_on server session turn

  -- THE ANSWER

  unlost : (word : Asked) → turn.asked ≡ word → may_lose word ≡ false → turn.side ≡ None
  unlost word is lost = by comes_so
    where
      by : Comes plan journal actor turn → turn.side ≡ None
      by (Cuts at none cut) = none
      by (Gives none same gives side) = asks (given_asks plan journal turn.actor turn.asked gives)
        where
          asks : Asks turn.actor turn.asked → turn.side ≡ None
          asks (Commands word own same) = side ∙ ap (side_due plan journal) own ∙ operator_unstruck plan journal
          asks (Called called) = absurd (false≢true (sym lost ∙ ap may_lose (sym is) ∙ called))

  answered : IsAnswered (state_at plan journal) entry
  answered = turn_answered plan journal server turn kept.faithful kept.sessions following (λ lost. unlost turn.asked refl lost)

  -- THE PLAN

  cut_next : (one : Actor) → TakesNext plan journal one Cut
  cut_next (Client client) = tt
  cut_next Op = tt
  cut_next Insp = tt
  cut_next Copy = tt
  cut_next Apply = tt
  cut_next Lock = tt
  cut_next Ren = tt

  planned : IsPlanned plan journal entry
  unfolding entry_on
  planned = by comes_so
    where
      cuts_not : (asked : Asked) → is_cut asked ≡ false → asked ≢ Cut
      cuts_not asked uncut same = false≢true (sym uncut ∙ ap is_cut same)

      by : Comes plan journal actor turn → IsPlanned plan journal entry
      by (Cuts at none cut) = record { next = subst (TakesNext plan journal turn.actor) (sym cut) (cut_next turn.actor); struck = subst (IsStruck plan journal entry) (sym at) (refl, cut, none) }
      by (Gives none same gives side) =
          record { next = next_of plan journal turn.actor turn.asked gives; struck = subst (IsStruck plan journal entry) (sym none) (cuts_not turn.asked (given_uncut plan journal turn.actor turn.asked gives), side) }

  -- THE PROGRAM

  given_of : (asked : Asked) → given plan journal turn.actor ≡ Some asked → IsGiven plan journal entry asked
  unfolding entry_on
  given_of (Call request) is = is
  given_of Poll is = is
  given_of (Command word) is = is
  given_of Cut is = tt

  follows_given : IsGiven plan journal entry turn.asked
  follows_given = by comes_so
    where
      by : Comes plan journal actor turn → IsGiven plan journal entry turn.asked
      by (Cuts at none cut) = subst (IsGiven plan journal entry) (sym cut) tt
      by (Gives none same gives side) = given_of turn.asked gives

  cut_session : turn.asked ≡ Cut → Lives journal turn.actor
  cut_session cut = by comes_so
    where
      by : Comes plan journal actor turn → Lives journal turn.actor
      by (Cuts at none same) = cut_lives plan journal turn.actor at
      by (Gives none same gives side) = absurd (true≢false (ap is_cut (sym cut) ∙ given_uncut plan journal turn.actor turn.asked gives))

  followed : IsFollowed plan journal entry
  unfolding entry_on
  followed = record { given = follows_given; session = turn_seated plan journal server turn kept.faithful kept.sessions following (λ cut none. none-some (cut_session cut).number (sym none ∙ (cut_session cut).is)) }

  pub turn_kept : IsKeptWith plan journal server entry
  turn_kept = record {
    kept = kept_more plan journal entry kept answered planned followed;
    following = goes_after plan journal server turn kept.faithful kept.sessions following;
  }

-- *Due turns are kept*
pub turns_kept : DueTurnsAreKept
turns_kept plan journal server actor turn kept following is = turn_kept plan journal server actor turn kept following (comes plan journal actor turn is)

numbered_so : (journal : List Entry) (entry : Entry) (made : ℕ) (asked : Asked) (live : Option ℕ) → made ≡ sessions_named journal → entry.session ≡ session_at asked live made → IsNumbered journal entry asked live
numbered_so journal entry made (Command word) live named is = tt
numbered_so journal entry made Cut live named is = tt
numbered_so journal entry made (Call request) (Some own) named is = tt
numbered_so journal entry made (Call request) None named is = is ∙ ap (λ (n : ℕ). n + 1) named
numbered_so journal entry made Poll (Some own) named is = tt
numbered_so journal entry made Poll None named is = is ∙ ap (λ (n : ℕ). n + 1) named

-- *Sessions are numbered one by one*
pub turns_numbered : DueTurnsAreNumbered
unfolding NumbersSessions entry_on
turns_numbered plan journal turn kept numbers =
    Along-more (λ (before : List Entry) (entry : Entry). IsNumbered before entry entry.asked (live_session before entry.actor)) [] journal (next_entry journal (state_at plan journal) turn) numbers
    (numbered_so journal (next_entry journal (state_at plan journal) turn) (state_at plan journal).made turn.asked (live_session journal turn.actor) (all_living plan journal kept.faithful kept.sessions).named refl)
