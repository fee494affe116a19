-- Nobody waits but live sessions; so a session that connects, and is lost without a call, leaves nothing but its number.
use Rattle.server_model.specs.declared.counter.Counter.{Counter}
use Rattle.server_model.specs.PlainServer.{recounted, counters_left}
use Rattle.server_model.specs.Counting.{counted}
use Rattle.std.proofs.Common.{◌≡◌, ℕ, ◌==◌, Bool, true, false, not, ◌||◌, max, List, [], ◌∷◌, ◌++◌, cond, Option, Some, None, refl, sym, ap, ◌∙◌, subst}
use Rattle.std.specs.List.{list_any}
use Rattle.std.specs.Option.{option_map}
use Rattle.std.proofs.lemmas.Bool.{true≢false, false≢true}
use Rattle.std.proofs.lemmas.Option.{none-some}
use Rattle.base_script.specs.declared.actor.Side.{Side}
use Rattle.base_script.specs.declared.actor.Side.TheVariants.{Before, After}
use Rattle.server_model.specs.declared.entry.Asked.{Asked}
use Rattle.server_model.specs.declared.entry.Asked.TheVariants.{Call, Poll, Command, Cut}
use Rattle.server_model.specs.declared.entry.Entry.{Entry}
use Rattle.server_model.specs.declared.session.Session.{Session}
use Rattle.server_model.specs.declared.session.Waiting.{Waiting}
use Rattle.server_model.specs.Along.{Along-both, Along-keeps}
use Rattle.server_model.specs.Entries.{is_client, is_command}
use Rattle.server_model.specs.States.{State, session_of, is_waiting, new_session, connected}
use Rattle.server_model.specs.PlainServer.{loses, serves, leaves}
use Rattle.plan_data.specs.PlanData.{PlanData}
use Rattle.tool_program.specs.JournalWords.Journals.{opening, opens_if, opens, after_entry, state_after, state_at, IsAnswered}
use Rattle.tool_program.specs.JournalWords.Sessions.{IsSeated, KeepsSessions}
use Rattle.proof_journals.proofs.Actors.{Placed, placed, SessionsKnown, sessions_begin}
use Rattle.proof_journals.proofs.Journals.{state_more}
use Rattle.proof_journals.specs.Run.Counts.{numbered, others, others_waiting, kind_of}
use Rattle.proof_journals.specs.Run.Laws.{Living, NoneWaits, WaitsAreLive}
use Rattle.proof_journals.proofs.Run.Tallies.{waits_same}
use Rattle.proof_journals.proofs.Run.Turns.{leaves_recounted, is_lost, kind_left, Leaves, turn_leaves, entry_turned, others_joined}
use Rattle.proof_journals.proofs.Run.Living.{kinds_there, own_kind, Both, both_more, living_begin}
use Rattle.server_model.proofs.LockedRows.Tests.{same_number, are_one}

-- a session that is lost doesn't wait
gone_waits : (number : ℕ) (waiting : List Waiting) → list_any (λ one. one.session == number) (others_waiting number waiting) ≡ false
gone_waits number [] = refl
gone_waits number (first ∷ waiting) = by (first.session == number) refl (gone_waits number waiting)
  where
    by : (b : Bool) → (first.session == number) ≡ b → list_any (λ one. one.session == number) (others_waiting number waiting) ≡ false
        → list_any (λ one. one.session == number) (cond (not b) (first ∷ others_waiting number waiting) (others_waiting number waiting)) ≡ false
    by true here rest = rest
    by false here rest = rw here rest

loses_waits : (state : State) (number : ℕ) → is_waiting (loses number state) number ≡ false
unfolding loses
loses_waits state number = gone_waits number state.waiting

lost_waits : (side : Option Side) (state : State) (number : ℕ) (asked : Asked) → is_lost side asked ≡ true → is_waiting (leaves side state number asked) number ≡ false
lost_waits None state number (Call request) is = absurd (false≢true is)
lost_waits None state number Poll is = absurd (false≢true is)
lost_waits None state number (Command word) is = absurd (false≢true is)
lost_waits None state number Cut is = loses_waits state number
lost_waits (Some Before) state number asked is = loses_waits state number
lost_waits (Some After) state number asked is = loses_waits (serves state number asked).after number

-- a command changes nothing on the server
after_command : (side : Option Side) (asked : Asked) (state : State) (number : ℕ) → is_command asked ≡ true → is_lost side asked ≡ false → leaves side state number asked ≡ state
after_command None (Command word) state number is unlost = refl
after_command None (Call request) state number is unlost = absurd (false≢true is)
after_command None Poll state number is unlost = absurd (false≢true is)
after_command None Cut state number is unlost = absurd (false≢true is)
after_command (Some side) asked state number is unlost = absurd (true≢false unlost)

opens_command : (state : State) (entry : Entry) → is_command entry.asked ≡ true → opens entry state ≡ state
unfolding opens_if
opens_command state entry is = rw is refl

pub command_counts : (side : Option Side) (asked : Asked) (state : State) (number : ℕ) → is_command asked ≡ true → counters_left side state number asked ≡ state.counters
unfolding counted
command_counts (Some Before) asked state number is = refl
command_counts None (Command word) state number is = refl
command_counts (Some After) (Command word) state number is = refl
command_counts None (Call request) state number is = absurd cc
command_counts None Poll state number is = absurd cc
command_counts None Cut state number is = absurd cc
command_counts (Some After) (Call request) state number is = absurd cc
command_counts (Some After) Poll state number is = absurd cc
command_counts (Some After) Cut state number is = absurd cc

command_still : (state : State) (entry : Entry) → is_command entry.asked ≡ true → is_lost entry.side entry.asked ≡ false → after_entry state entry ≡ state
command_still state entry is unlost =
    ap (recounted (counters_left entry.side (opens entry state) entry.session entry.asked)) (after_command entry.side entry.asked (opens entry state) entry.session is unlost)
    ∙ ap (λ (c : List Counter). recounted c (opens entry state)) (command_counts entry.side entry.asked (opens entry state) entry.session is) ∙ opens_command state entry is

module _ (journal : List Entry) (state : State) (entry : Entry) (living : Living journal state) (known : SessionsKnown journal) (at : Placed journal entry) (answered : IsAnswered state entry) (waits : NoneWaits state) where
  left_rec : Leaves (is_lost entry.side entry.asked) entry.session (opens entry state) (after_entry state entry)
  left_rec = leaves_recounted (is_lost entry.side entry.asked) entry.session (opens entry state) (leaves entry.side (opens entry state) entry.session entry.asked) _ (turn_leaves entry.side (opens entry state) entry.session entry.asked)

  kept_waits : (command : Bool) → is_command entry.asked ≡ command → is_lost entry.side entry.asked ≡ false → kind_of entry.session (after_entry state entry).sessions ≡ None → is_waiting (after_entry state entry) entry.session ≡ false
  kept_waits true is unlost none =
      let still : after_entry state entry ≡ state = command_still state entry is unlost in
      subst (λ (s : State). is_waiting s entry.session ≡ false) (sym still) (waits entry.session (subst (λ (s : State). kind_of entry.session s.sessions ≡ None) still none))
  kept_waits false call unlost none =
      absurd (none-some (not (is_client entry.actor))
      (sym none ∙ left_rec.own ∙ ap (λ (b : Bool). kind_left b (kind_of entry.session (opens entry state).sessions)) unlost ∙ own_kind journal state entry living known at answered call))

  own_by : (b : Bool) → is_lost entry.side entry.asked ≡ b → kind_of entry.session (after_entry state entry).sessions ≡ None → is_waiting (after_entry state entry) entry.session ≡ false
  own_by true is none = lost_waits entry.side (opens entry state) entry.session entry.asked is
  own_by false is none = kept_waits (is_command entry.asked) refl is none

  -- the turn's own session
  own_waits : kind_of entry.session (after_entry state entry).sessions ≡ None → is_waiting (after_entry state entry) entry.session ≡ false
  own_waits none = own_by (is_lost entry.side entry.asked) refl none

  pub waits_more : NoneWaits (after_entry state entry)
  waits_more k none = by (k == entry.session) refl
    where
      by : (b : Bool) → (k == entry.session) ≡ b → is_waiting (after_entry state entry) k ≡ false
      by true is =
          let same : k ≡ entry.session = are_one k entry.session is in
          subst (λ (n : ℕ). is_waiting (after_entry state entry) n ≡ false) (sym same) (own_waits (subst (λ (n : ℕ). kind_of n (after_entry state entry).sessions ≡ None) same none))
      by false is =
          sym (waits_same entry.session k state (after_entry state entry) (entry_turned state entry) is)
          ∙ waits k (sym (kinds_there journal state entry living known at answered k is) ∙ none)

record All (plan : PlanData) (journal : List Entry) : Type 0 where
  both : Both plan journal
  waits : NoneWaits (state_at plan journal)

all_more : (plan : PlanData) (journal : List Entry) (entry : Entry) → IsAnswered (state_at plan journal) entry × IsSeated journal entry → All plan journal → All plan (journal ++ entry ∷ [])
all_more plan journal entry keeps all = record {
  both = both_more plan journal entry keeps all.both;
  waits = subst NoneWaits (sym (state_more (opening plan) journal entry)) (waits_more journal (state_at plan journal) entry all.both.living all.both.known (placed journal entry keeps.1) keeps.0 all.waits);
}

waits_begin : (plan : PlanData) → NoneWaits (state_at plan [])
unfolding state_after
waits_begin plan = λ k none. refl

-- *Nobody waits but live sessions*
pub all_waits : WaitsAreLive
unfolding KeepsSessions
all_waits plan journal faithful keeps =
    (Along-keeps (λ before entry. IsAnswered (state_at plan before) entry × IsSeated before entry) (All plan) (all_more plan) [] journal
    (Along-both (λ before entry. IsAnswered (state_at plan before) entry) IsSeated [] journal faithful keeps)
    (record { both = record { known = sessions_begin; living = living_begin plan }; waits = waits_begin plan })).waits

-- A SESSION THAT CONNECTS AND IS LOST

none_number : (b : Bool) (first : Session) (more : Option Session) → option_map (λ (s : Session). s.is_tool) (cond b (Some first) more) ≡ None → (b ≡ false) × (option_map (λ (s : Session). s.is_tool) more ≡ None)
none_number true first more none = absurd (cc)
none_number false first more none = (refl, none)

others_all : (number : ℕ) (sessions : List Session) → kind_of number sessions ≡ None → others number sessions ≡ sessions
others_all number [] none = refl
others_all number (first ∷ sessions) none =
    let parts = none_number (first.number == number) first (session_of number sessions) none in
    rw parts.0 (ap (λ more. first ∷ more) (others_all number sessions parts.1))

waiting_all : (number : ℕ) (waiting : List Waiting) → list_any (λ one. one.session == number) waiting ≡ false → others_waiting number waiting ≡ waiting
waiting_all number [] none = refl
waiting_all number (first ∷ waiting) none = by (first.session == number) refl none (waiting_all number waiting)
  where
    by : (b : Bool) → (first.session == number) ≡ b → (b || list_any (λ one. one.session == number) waiting) ≡ false → (list_any (λ one. one.session == number) waiting ≡ false → others_waiting number waiting ≡ waiting)
        → cond (not b) (first ∷ others_waiting number waiting) (others_waiting number waiting) ≡ first ∷ waiting
    by true here none rest = absurd (true≢false none)
    by false here none rest = ap (λ more. first ∷ more) (rest none)

-- *It leaves nothing but its number*
pub lost_at_once : (state : State) (number : ℕ) (tool : Bool) → kind_of number state.sessions ≡ None → is_waiting state number ≡ false → loses number (connected number tool state) ≡ numbered (max state.made number) state
unfolding loses
lost_at_once state number tool none idle =
    let sessions : others number (state.sessions ++ new_session number tool ∷ []) ≡ state.sessions = others_joined number (new_session number tool) state.sessions (same_number number) ∙ others_all number state.sessions none in
    let waiting : others_waiting number state.waiting ≡ state.waiting = waiting_all number state.waiting idle in
    ap (λ (all : List Session). record { limits = state.limits; made = max state.made number; tables = state.tables; log = state.log; waiting = others_waiting number state.waiting; sessions = all; counters = state.counters }) sessions
    ∙ ap (λ (left : List Waiting). record { limits = state.limits; made = max state.made number; tables = state.tables; log = state.log; waiting = left; sessions = state.sessions; counters = state.counters }) waiting
