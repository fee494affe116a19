-- What of the sentry relation stays through a turn, while all is reverted.
use Rattle.std.proofs.Common.{◌≡◌, ◌⊎◌, ℕ, Bool, true, false, List, [], ◌∷◌, ◌++◌, Option, Some, None, refl, sym, ap, ◌∙◌, subst, inl, inr}
use Rattle.std.proofs.lemmas.Bool.{true≢false}
use Rattle.table_store.specs.Databases.{has_table}
use Rattle.base_script.specs.declared.actor.Actor.{Actor}
use Rattle.base_script.specs.declared.actor.Actor.TheVariants.{Apply, Client, Copy, Insp, Lock, Op, Ren}
use Rattle.server_model.specs.Entries.{is_cut, same_actor}
use Rattle.server_model.specs.States.{State}
use Rattle.server_model.specs.declared.answer.Answer.{Answer}
use Rattle.server_model.specs.declared.answer.Answer.TheVariants as answers
use Rattle.server_model.specs.declared.entry.Asked.{Asked}
use Rattle.server_model.specs.declared.entry.Asked.TheVariants.{Call, Command, Cut, Poll}
use Rattle.server_model.specs.declared.entry.Entry.{Entry}
use Rattle.server_model.specs.declared.request.Request.{Request}
use Rattle.plan_data.specs.PlanData.{PlanData}
use Rattle.base_values.specs.ToolNames.{old_name}
use Rattle.tool_program.specs.declared.chunk_copier.copier.Copier.{Copier}
use Rattle.tool_program.specs.declared.event_applier.applier.Applier.{Applier}
use Rattle.tool_program.specs.CutoverCore.CutOvers as cutovers
use Rattle.tool_program.specs.declared.cutover_core.cutover.Clearing.TheVariants.{Drops, Looking}
use Rattle.tool_program.specs.declared.cutover_core.cutover.CutOver.{CutOver}
use Rattle.tool_program.specs.declared.cutover_core.cutover.Hold.{Hold}
use Rattle.tool_program.specs.declared.cutover_core.cutover.Hold.TheVariants.{Locks, Nothing, WaitsToGuard, WaitsToLock}
use Rattle.tool_program.specs.declared.cutover_core.cutover.Phase.{Phase}
use Rattle.tool_program.specs.declared.cutover_core.cutover.Phase.TheVariants.{Attempting, Ending, Finished, Finishing, Resting}
use Rattle.tool_program.specs.declared.cutover_core.cutover.Stage.TheVariants.{Drained, ReadingCounter, SettingCounter, Draining, Dropping, Exchanging, Guarding, Hinting, Locking, Showing, Unlocking}
use Rattle.tool_program.specs.Programs.{given, tool_call}
use Rattle.tool_program.specs.Tools.{Work, moment}
use Rattle.proof_journals.proofs.Actors.{same_actor_is}
use Rattle.proof_journals.specs.Machine.Standings.{IsAbout, Standing, free, is_called, is_polled, standing_of}
use Rattle.proof_journals.proofs.Machine.Journals.{Asking, IsRun, IsTogether, asking, calls_so, has_now, never_commands, polls_so}
use Rattle.proof_journals.proofs.Machine.Seated.{IsServed, others_stand, own_lost}
use Rattle.proof_journals.proofs.Machine.Tabling.{Following, following, rests, waits_on}
use Rattle.proof_migration.proofs.ToolPhase.ToolPhaseTurns.{gives_asked}
use Rattle.proof_journals.specs.Sentry.Sentries.{AfterFailure, AfterUnlock, Fits, Guards, HasSentry, InspectorTurns, IsDrained, LockerServes, MayExchange, RenamerServes, WhereItWaits, scene}
use Rattle.proof_journals.specs.Sentry.TurnResults.{AskedTurn, InspectorTurn, LockerTurn, RenamerTurn, WorkTurn, reported}
use Rattle.proof_migration.proofs.Stays.{IsUndrained}

-- WHERE THE RELATION LEAVES THE RENAME

abbrev pub IsAtDrained : Phase → Type 0
IsAtDrained (Attempting Drained) = Unit {0}
IsAtDrained phase = ⊥

-- the RENAME isn't asked for; an attempt has failed, and the sentry stands; or all is drained
pub data Left (table : List ℕ) (state : State) (copier : Copier) (applier : Applier) (phase : Phase) (waits : Bool) : Type 0 where
  left_unasked : waits ≡ false → (IsAtDrained phase → ⊥) → Left table state copier applier phase waits
  left_after : phase ≡ Ending Looking → HasSentry table (scene state) → Left table state copier applier phase waits
  left_drained : IsDrained table state.log copier applier → IsUndrained phase → Left table state copier applier phase waits

pub left_so : (table : List ℕ) (state : State) (copier : Copier) (applier : Applier) (cutover : CutOver) (locker renamer : ℕ) (phase : Phase) (waits : Bool) → cutover.renamer_waits ≡ waits → Fits phase cutover.hold waits → Guards table (scene state) copier applier cutover locker renamer phase → Left table state copier applier phase waits
left_so table state copier applier cutover locker renamer Resting waits same fits guards = left_unasked fits.1 (λ no. no)
left_so table state copier applier cutover locker renamer (Attempting Guarding) waits same fits guards = left_unasked fits.1 (λ no. no)
left_so table state copier applier cutover locker renamer (Attempting Locking) waits same fits guards = left_unasked fits.1 (λ no. no)
left_so table state copier applier cutover locker renamer (Attempting Hinting) waits same fits guards = left_unasked fits.1 (λ no. no)
left_so table state copier applier cutover locker renamer (Attempting (Draining turns)) waits same fits guards = left_unasked fits.1 (λ no. no)
left_so table state copier applier cutover locker renamer (Attempting (ReadingCounter drain)) waits same fits guards = left_unasked fits.1 (λ no. no)
left_so table state copier applier cutover locker renamer (Attempting (SettingCounter number drain)) waits same fits guards = left_unasked fits.1 (λ no. no)
left_so table state copier applier cutover locker renamer (Attempting Drained) waits same fits guards = left_drained guards.drained tt
left_so table state copier applier cutover locker renamer (Attempting Showing) waits same fits guards = left_drained guards.drained tt
left_so table state copier applier cutover locker renamer (Attempting Dropping) waits same fits guards = left_drained guards.drained tt
left_so table state copier applier cutover locker renamer (Attempting Unlocking) waits same fits guards = left_drained guards.drained tt
left_so table state copier applier cutover locker renamer (Attempting Exchanging) true same fits guards = left_drained (by cutover.renamer_waits same guards) tt where
  by : (b : Bool) → b ≡ true → WhereItWaits b (AfterUnlock table (scene state) copier applier locker renamer) → IsDrained table state.log copier applier
  by true is guards = guards.may.drained
  by false is guards = absurd (true≢false (sym is))
left_so table state copier applier cutover locker renamer (Attempting Exchanging) false same fits guards = left_unasked refl (λ no. no)
left_so table state copier applier cutover locker renamer (Ending Looking) true same fits guards = by cutover.renamer_waits same guards.rename where
  by : (b : Bool) → b ≡ true → WhereItWaits b (AfterFailure table (scene state) copier applier locker renamer) → Left table state copier applier (Ending Looking) true
  by false is guards = absurd (true≢false (sym is))
  by true is guards = each guards.guarded where
    each : HasSentry table (scene state) ⊎ MayExchange table (scene state) copier applier locker → Left table state copier applier (Ending Looking) true
    each (inl sentry) = left_after refl sentry
    each (inr may) = left_drained may.drained tt
left_so table state copier applier cutover locker renamer (Ending Looking) false same fits guards = left_unasked refl (λ no. no)
left_so table state copier applier cutover locker renamer (Ending (Drops left)) waits same fits guards = left_unasked fits.1 (λ no. no)
left_so table state copier applier cutover locker renamer (Finishing clearing) waits same fits guards = left_unasked fits (λ no. no)
left_so table state copier applier cutover locker renamer Finished waits same fits guards = left_unasked fits (λ no. no)

-- once the sentry is gone it isn't there
pub gone_so : (table : List ℕ) (state : State) (copier : Copier) (applier : Applier) (cutover : CutOver) (locker renamer : ℕ) (phase : Phase) → cutovers.ended phase ≡ phase → cutover.renamer_waits ≡ true → Fits phase cutover.hold true → Guards table (scene state) copier applier cutover locker renamer phase → HasSentry table (scene state) → phase ≡ Ending Looking
gone_so table state copier applier cutover locker renamer Resting ended waits fits guards sentry = absurd (true≢false fits.1)
gone_so table state copier applier cutover locker renamer (Attempting Guarding) ended waits fits guards sentry = absurd (true≢false fits.1)
gone_so table state copier applier cutover locker renamer (Attempting Locking) ended waits fits guards sentry = absurd (true≢false fits.1)
gone_so table state copier applier cutover locker renamer (Attempting Hinting) ended waits fits guards sentry = absurd (true≢false fits.1)
gone_so table state copier applier cutover locker renamer (Attempting (Draining turns)) ended waits fits guards sentry = absurd (true≢false fits.1)
gone_so table state copier applier cutover locker renamer (Attempting (ReadingCounter drain)) ended waits fits guards sentry = absurd (true≢false fits.1)
gone_so table state copier applier cutover locker renamer (Attempting (SettingCounter number drain)) ended waits fits guards sentry = absurd (true≢false fits.1)
gone_so table state copier applier cutover locker renamer (Attempting Drained) ended waits fits guards sentry = absurd (true≢false fits.1)
gone_so table state copier applier cutover locker renamer (Attempting Showing) ended waits fits guards sentry = absurd (no ended) where
  no : Ending Looking ≡ Attempting Showing → ⊥
  no same = cc
gone_so table state copier applier cutover locker renamer (Attempting Dropping) ended waits fits guards sentry = absurd (no ended) where
  no : Ending Looking ≡ Attempting Dropping → ⊥
  no same = cc
gone_so table state copier applier cutover locker renamer (Attempting Unlocking) ended waits fits guards sentry = absurd (true≢false (sym sentry ∙ guards.gone))
gone_so table state copier applier cutover locker renamer (Attempting Exchanging) ended waits fits guards sentry = by cutover.renamer_waits waits guards where
  by : (b : Bool) → b ≡ true → WhereItWaits b (AfterUnlock table (scene state) copier applier locker renamer) → Attempting Exchanging ≡ Ending Looking
  by true is guards = absurd (true≢false (sym sentry ∙ guards.gone))
  by false is guards = absurd (true≢false (sym is))
gone_so table state copier applier cutover locker renamer (Ending Looking) ended waits fits guards sentry = refl
gone_so table state copier applier cutover locker renamer (Ending (Drops left)) ended waits fits guards sentry = absurd (true≢false fits.1)
gone_so table state copier applier cutover locker renamer (Finishing clearing) ended waits fits guards sentry = absurd (true≢false fits)
gone_so table state copier applier cutover locker renamer Finished ended waits fits guards sentry = absurd (true≢false fits)

-- ONE TURN

module _ (plan : PlanData) (journal : List Entry) (entry : Entry) (together : IsTogether plan journal) (run : IsRun plan journal entry) where
  abbrev more : List Entry
  more = journal ++ entry ∷ []

  abbrev has : Actor → Standing
  has = standing_of plan journal

  abbrev has_after : Actor → Standing
  has_after = standing_of plan more

  served : IsServed plan journal entry
  served = record { answered = run.answered; seated = record { session = run.followed.session } }

  given_here : entry.actor ≡ Ren → (asked : Asked) → entry.asked ≡ asked → (asked ≡ Cut → ⊥) → given plan journal Ren ≡ Some entry.asked
  given_here same asked asks uncut = subst (λ (a : Actor). given plan journal a ≡ Some entry.asked) same (gives_asked plan journal entry entry.asked run.followed.given refl (λ cut. uncut (sym asks ∙ cut)))

  -- where the renamer doesn't wait and isn't asked it doesn't wait behind the turn
  pub rests_on : (has Ren).waits ≡ None → ((request : Request) → tool_call plan (moment plan journal).server journal (moment plan journal).tool (moment plan journal).tool.tool_phase Ren ≡ Some request → ⊥) → (has_after Ren).waits ≡ None
  unfolding given
  rests_on none uncalled = by (same_actor entry.actor Ren) refl where
    own : entry.actor ≡ Ren → (asked : Asked) → entry.asked ≡ asked → (has_after Ren).waits ≡ None
    own same Cut asks = ap (λ (s : Standing). s.waits) (subst (λ (a : Actor). has_after a ≡ free) same (own_lost plan journal entry together.known served asks))
    own same (Call request) asks = by_asking (asking plan journal Ren entry.asked together.server (given_here same (Call request) asks (λ cut. no_cut cut))) where
      no_cut : Call request ≡ Cut → ⊥
      no_cut same = cc

      by_asking : Asking plan journal Ren entry.asked → (has_after Ren).waits ≡ None
      by_asking (calls_so request asks idle call) = absurd (uncalled request call)
      by_asking (polls_so request asks some) = absurd (no (sym none ∙ some)) where
        no : None ≡ Some request → ⊥
        no same = cc
    own same Poll asks = by_asking (asking plan journal Ren entry.asked together.server (given_here same Poll asks (λ cut. no_cut cut))) where
      no_cut : Poll ≡ Cut → ⊥
      no_cut same = cc

      by_asking : Asking plan journal Ren entry.asked → (has_after Ren).waits ≡ None
      by_asking (calls_so request asks idle call) = absurd (uncalled request call)
      by_asking (polls_so request asks some) = absurd (no (sym none ∙ some)) where
        no : None ≡ Some request → ⊥
        no same = cc
    own same (Command word) asks = absurd (never_commands plan journal Ren word (given_here same (Command word) asks (λ cut. no_cut cut) ∙ ap Some asks)) where
      no_cut : Command word ≡ Cut → ⊥
      no_cut same = cc

    by : (b : Bool) → same_actor entry.actor Ren ≡ b → (has_after Ren).waits ≡ None
    by false other = ap (λ (s : Standing). s.waits) (others_stand plan journal entry together.known served Ren other) ∙ none
    by true same = own (same_actor_is entry.actor Ren same) entry.asked refl

  -- where it waits behind its own turn it was told so
  reported_waits : (request : Request) → entry.actor ≡ Ren → (has_after Ren).waits ≡ Some request → (is_cut entry.asked ≡ false) × ((one : ℕ) × (entry.answer ≡ answers.Waits one))
  unfolding given
  reported_waits request same waits = by entry.asked refl where
    no : None ≡ Some request → ⊥
    no same = cc

    uncut : (asked : Asked) → entry.asked ≡ asked → (asked ≡ Cut → ⊥) → ((one : ℕ) × (entry.answer ≡ answers.Waits one))
    uncut asked asks never = by_asking (asking plan journal Ren entry.asked together.server (given_here same asked asks never)) where
      still : (one : Request) → IsAbout one (has Ren) entry.asked → ((one : ℕ) × (entry.answer ≡ answers.Waits one))
      still one is_about = by_after (following one entry.answer (has Ren)) where
        by_after : Following one entry.answer (has Ren) → ((one : ℕ) × (entry.answer ≡ answers.Waits one))
        by_after (rests none) = absurd (no (sym none ∙ sym (ap (λ (s : Standing). s.waits) (has_now plan journal entry together run Ren one same is_about)) ∙ waits))
        by_after (waits_on blocker is) = (blocker, is)

      by_asking : Asking plan journal Ren entry.asked → ((one : ℕ) × (entry.answer ≡ answers.Waits one))
      by_asking (calls_so one asks idle call) = still one (is_called asks idle)
      by_asking (polls_so one asks some) = still one (is_polled asks some)

    by : (asked : Asked) → entry.asked ≡ asked → (is_cut entry.asked ≡ false) × ((one : ℕ) × (entry.answer ≡ answers.Waits one))
    by Cut asks = absurd (no (sym (ap (λ (s : Standing). s.waits) (subst (λ (a : Actor). has_after a ≡ free) same (own_lost plan journal entry together.known served asks))) ∙ waits))
    by (Call one) asks = (ap is_cut asks, uncut (Call one) asks (λ cut. no_cut cut)) where
      no_cut : Call one ≡ Cut → ⊥
      no_cut same = cc
    by Poll asks = (ap is_cut asks, uncut Poll asks (λ cut. no_cut cut)) where
      no_cut : Poll ≡ Cut → ⊥
      no_cut same = cc
    by (Command word) asks = (ap is_cut asks, uncut (Command word) asks (λ cut. no_cut cut)) where
      no_cut : Command word ≡ Cut → ⊥
      no_cut same = cc

  -- THE SENTRY STANDS ON

  module _ (work : Work) (looking : work.cutover.phase ≡ Ending Looking) (fits : Fits (Ending Looking) work.cutover.hold true) (request : Request) (waits : (has_after Ren).waits ≡ Some request) (before after : State) (locker renamer turn : ℕ) (stood : HasSentry plan.table (scene before)) where
    abbrev Stood : Type 0
    Stood = HasSentry plan.table (scene after)

    as_before : has_table (old_name plan.table) after.tables ≡ has_table (old_name plan.table) before.tables → Stood
    as_before same = same ∙ stood

    serves_on : (hold : Hold) (answer : Answer) → Fits (Ending Looking) hold true → LockerServes plan.table entry.session renamer (Ending Looking) hold answer (scene before) (scene after) → Stood
    serves_on Nothing answer fits serves = as_before serves.tables
    serves_on Locks answer fits serves = as_before serves.tables
    serves_on WaitsToGuard answer fits serves = absurd (true≢false fits)
    serves_on WaitsToLock answer fits serves = absurd (true≢false fits)

    lock_on : (answer : Option Answer) → LockerTurn plan before after locker renamer work answer entry.session → Stood
    lock_on None turned = as_before turned.rests.tables
    lock_on (Some answer) turned = serves_on work.cutover.hold answer fits (subst (λ (p : Phase). LockerServes plan.table entry.session renamer p work.cutover.hold answer (scene before) (scene after)) looking turned.serves)

    insp_on : (answer : Option Answer) → InspectorTurn plan before after locker renamer work answer entry.session → Stood
    insp_on None turned = as_before turned.tables
    insp_on (Some answer) turned = as_before (subst (λ (p : Phase). InspectorTurns plan.table renamer entry.session p (scene before) (scene after)) looking turned.turn).old_stays

    ren_on : entry.actor ≡ Ren → RenamerTurn plan before after locker renamer work (Some entry.answer) entry.session → Stood
    ren_on same turned =
        let heard = reported_waits request same waits in
        as_before (subst (λ (a : Answer). RenamerServes plan.table entry.session work.cutover.phase a (scene before) (scene after)) heard.1.1 turned.serves).rests.tables

    work_on : (answer : Option Answer) → (entry.actor ≡ Ren → answer ≡ Some entry.answer) → (actor : Actor) → entry.actor ≡ actor → WorkTurn plan before after locker renamer work turn entry actor answer → Stood
    work_on answer statement_result Lock same turned = lock_on answer turned
    work_on answer statement_result Ren same turned = ren_on same (subst (λ (a : Option Answer). RenamerTurn plan before after locker renamer work a entry.session) (statement_result same) turned)
    work_on answer statement_result Insp same turned = insp_on answer turned
    work_on answer statement_result Copy same turned = as_before turned.0.1.old_stays
    work_on answer statement_result Apply same turned = as_before turned.0.1.old_stays
    work_on answer statement_result (Client c) same turned = as_before turned.1.old_stays
    work_on answer statement_result Op same turned = as_before turned.1.old_stays

    pub sentry_on : (asked : Asked) → entry.asked ≡ asked → AskedTurn plan before after locker renamer work turn entry asked → Stood
    sentry_on (Command word) asks turned = as_before (ap (λ (s : State). has_table (old_name plan.table) s.tables) turned)
    sentry_on Cut asks turned = work_on (reported before entry Cut) (λ same. absurd (true≢false (sym (ap is_cut asks) ∙ (reported_waits request same waits).0))) entry.actor refl turned
    sentry_on (Call one) asks turned = work_on (Some entry.answer) (λ same. refl) entry.actor refl turned
    sentry_on Poll asks turned = work_on (Some entry.answer) (λ same. refl) entry.actor refl turned
