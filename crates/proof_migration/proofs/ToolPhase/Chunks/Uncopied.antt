-- Until all rows are copied nobody asks for the migrated table's name exclusively: so where a chunk ends is answered at
-- once.
use Rattle.std.proofs.Common.{◌≡◌, ◌⊎◌, ℕ, ◌+◌, Bool, true, false, not, List, [], ◌∷◌, ◌++◌, cond, Some, None, refl, sym, ap, ◌∙◌, subst, inl, inr, ◌&&◌}
use Rattle.std.specs.List.{slice_get}
use Rattle.std.proofs.lemmas.Bool.{true≢false, not-true}
use Rattle.std.proofs.lemmas.Option.{none-some}
use Rattle.base_script.specs.declared.actor.Actor.{Actor}
use Rattle.base_script.specs.declared.actor.Actor.TheVariants.{Op, Insp, Copy, Apply, Lock, Ren, Client}
use Rattle.base_script.specs.declared.script.ScriptWord.{ScriptWord}
use Rattle.base_script.specs.declared.script.ScriptWord.TheVariants as words
use Rattle.server_model.specs.declared.answer.Answer.{Answer}
use Rattle.server_model.specs.declared.answer.Answer.TheVariants as answers
use Rattle.server_model.specs.declared.entry.Asked.{Asked}
use Rattle.server_model.specs.declared.entry.Asked.TheVariants.{Call, Poll}
use Rattle.server_model.specs.declared.entry.Entry.{Entry}
use Rattle.server_model.specs.declared.request.Request.{Request}
use Rattle.server_model.specs.declared.request.Request.TheVariants as requests
use Rattle.plan_data.specs.PlanData.{PlanData}
use Rattle.tool_program.specs.JournalWords.Clients.{client_at, word_asks}
use Rattle.tool_program.specs.JournalWords.Journals.{state_after, state_at}
use Rattle.tool_program.specs.JournalWords.KeptPlans.{words_of}
use Rattle.tool_program.specs.JournalWords.Sessions.{live_session}
use Rattle.tool_program.specs.ChunkCopier.Copiers as copiers
use Rattle.tool_program.specs.declared.chunk_copier.copier.CopyStep.{CopyStep}
use Rattle.tool_program.specs.declared.chunk_copier.copier.CopyStep.TheVariants as copying
use Rattle.tool_program.specs.declared.event_applier.applier.ApplyStep.{ApplyStep}
use Rattle.tool_program.specs.declared.event_applier.applier.ApplyStep.TheVariants as applying
use Rattle.tool_program.specs.Operators.{is_throttled}
use Rattle.tool_program.specs.Programs.{in_transaction, rolls_back, copy_call, apply_call, tool_call, given, IsGiven}
use Rattle.tool_program.specs.Setups.{Setup, Listing, Clearing, MakingLog, MakingGhost, Marking, Reaching, Ready, setup_call}
use Rattle.tool_program.specs.Tools.{Work, ToolPhase, SettingUp, Migrating, Tool, Moment, stopped, is_reverting, moment}
use Rattle.proof_journals.specs.Machine.Standings.{Standing, standing_of, IsAbout, is_called, is_polled}
use Rattle.proof_journals.specs.Machine.Machines.{copier_asks, applier_asks, ApplierStands, ToolPhaseStands}
use Rattle.proof_journals.specs.Machine.FormedPlans.{IsFitting}
use Rattle.proof_journals.specs.Machine.MigrationTables.{WritesLog, ToolPhaseTables, WorkTables, TableExists}
use Rattle.proof_journals.proofs.Machine.Asking.{some_request, unless_called, copier_next, applier_next}
use Rattle.proof_journals.proofs.Machine.Calling.{reverting_or}
use Rattle.proof_journals.proofs.Machine.Clients.{Next, calls_line, polls_line, client_next}
use Rattle.proof_journals.proofs.Machine.Forming.{next_call}
use Rattle.proof_journals.proofs.Machine.Journals.{IsRun, Asking, calls_so, polls_so, asking, apply_called}
use Rattle.proof_journals.proofs.Machine.Polling.{no_word}
use Rattle.proof_journals.proofs.Machine.Schemas.{is_quiet, quiet_keeps}
use Rattle.proof_journals.proofs.Machine.Seated.{state_more}
use Rattle.proof_journals.proofs.Machine.Tabling.{IsTabled, tabled_more, tabled_begins, given_quiet, back_quiet, lost_copied, setup_keeps, copied_idle, insp_notes, ren_none, lock_none}
use Rattle.proof_migration.proofs.ToolPhase.ToolPhaseTurns.{Kept, UnfitKeeps, CopyKeeps, ApplyKeeps, SetupKeeps, AnswerKeeps, ResizeKeeps, turn_kept, gives_asked}
use Rattle.proof_migration.proofs.ToolPhase.Chunks.Sparing.{is_lock, Spares, IsSpared, turn_spared}

-- rows are left
abbrev pub is_uncopied : ToolPhase → Bool
is_uncopied (SettingUp setup tries) = true
is_uncopied (Migrating work) = not work.copier.is_copied

-- WHO LOCKS TABLES

copier_unlocks : (step : CopyStep) (request : Request) → copier_asks step request ≡ true → is_lock request ≡ false
copier_unlocks copying.Choosing (requests.ChunkEnd table low top size) kind = refl
copier_unlocks (copying.Spanning reported most) (requests.BeginSpan table span size) kind = refl
copier_unlocks (copying.Copying chunk copied) (requests.CopyRow from into columns key) kind = refl
copier_unlocks (copying.Committing chunk) requests.Commit kind = refl
copier_unlocks step request kind = absurd cc

applier_unlocks : (step : ApplyStep) (request : Request) → applier_asks step request ≡ true → is_lock request ≡ false
applier_unlocks applying.Reading (requests.ReadLog position limit tables) kind = refl
applier_unlocks (applying.Beginning batch) requests.Begin kind = refl
applier_unlocks (applying.Applying batch done part) (requests.Do statement) kind = refl
applier_unlocks (applying.Committing batch) requests.Commit kind = refl
applier_unlocks step request kind = absurd cc

setup_unlocks : (plan : PlanData) (setup : Setup) (request : Request) → setup_call plan setup ≡ Some request → is_lock request ≡ false
setup_unlocks plan Listing request call = some_request (λ r. is_lock r ≡ false) _ request call refl
setup_unlocks plan (Clearing left) request call = some_request (λ r. is_lock r ≡ false) _ request call refl
setup_unlocks plan MakingLog request call = some_request (λ r. is_lock r ≡ false) _ request call refl
setup_unlocks plan MakingGhost request call = some_request (λ r. is_lock r ≡ false) _ request call refl
setup_unlocks plan Marking request call = some_request (λ r. is_lock r ≡ false) _ request call refl
setup_unlocks plan (Reaching position) request call = some_request (λ r. is_lock r ≡ false) _ request call refl
setup_unlocks plan (Ready position range) request call = absurd cc

word_unlocks : (word : ScriptWord) → is_lock (word_asks word) ≡ false
word_unlocks words.Begin = refl
word_unlocks words.Commit = refl
word_unlocks words.Rollback = refl
word_unlocks (words.Do statement) = refl

module _ (plan : PlanData) (journal : List Entry) (is : IsTabled plan journal) where
  abbrev then : Moment
  then = moment plan journal

  abbrev had : Actor → Standing
  had = standing_of plan journal

  quiet_spares : (actor : Actor) (request : Request) → is_quiet request ≡ true → is_lock request ≡ false → Spares plan.table request
  quiet_spares actor request quiet unlocks = record { keeps = quiet_keeps plan.table request quiet; unlocks = unlocks }

  log_spares : (request : Request) → WritesLog plan request → Spares plan.table request
  log_spares (requests.Do statement) kind = record { keeps = refl; unlocks = refl }
  log_spares request kind = absurd kind

  back_unlocks : (actor : Actor) (request : Request) → rolls_back then.server (live_session journal actor) ≡ Some request → is_lock request ≡ false
  back_unlocks actor request back = ap is_lock (back_quiet (in_transaction then.server (live_session journal actor)) request back)

  copy_unlocks : (request : Request) (tool_phase : ToolPhase) → tool_call plan then.server journal then.tool tool_phase Copy ≡ Some request → is_lock request ≡ false
  copy_unlocks request (SettingUp setup tries) call = absurd cc
  copy_unlocks request (Migrating work) call =
      reverting_or (is_lock request ≡ false) (is_reverting then.tool.reason) (rolls_back then.server (live_session journal Copy)) (copy_call plan then.server journal then.tool work) request call (λ reverting back. back_unlocks Copy request back)
      (λ going asks. copier_unlocks work.copier.step request (copier_next journal work.copier request (unless_called (copiers.starts work.copier && is_throttled plan then.server then.tool.operator) (copiers.next journal work.copier) request asks)))

  apply_unlocks : (request : Request) (tool_phase : ToolPhase) → ToolPhaseStands journal had (is_reverting then.tool.reason) tool_phase → tool_call plan then.server journal then.tool tool_phase Apply ≡ Some request → is_lock request ≡ false
  apply_unlocks request (SettingUp setup tries) at call = absurd cc
  apply_unlocks request (Migrating work) at call =
      reverting_or (is_lock request ≡ false) (is_reverting then.tool.reason) (rolls_back then.server (live_session journal Apply)) (apply_call plan then.server journal then.tool work) request call (λ reverting back. back_unlocks Apply request back)
      (λ going asks. by at.applier going asks) where
        by : (is_reverting then.tool.reason ≡ true) ⊎ ApplierStands journal work.applier (had Apply) → is_reverting then.tool.reason ≡ false → apply_call plan then.server journal then.tool work ≡ Some request → is_lock request ≡ false
        by (inl reverting) going asks = absurd (true≢false (sym reverting ∙ going))
        by (inr stands) going asks =
            applier_unlocks work.applier.step request
            (ap (applier_asks work.applier.step) (apply_called plan journal work request asks ∙ next_call journal work.applier) ∙ applier_next journal work.applier work.applier.step stands.known)

  insp_spares : (request : Request) (setup : Setup) → cond (is_reverting then.tool.reason) None (setup_call plan setup) ≡ Some request → Spares plan.table request
  insp_spares request setup call =
      record { keeps = setup_keeps plan setup request (unless_called (is_reverting then.tool.reason) (setup_call plan setup) request call); unlocks = setup_unlocks plan setup request (unless_called (is_reverting then.tool.reason) (setup_call plan setup) request call) }

module _ (plan : PlanData) (journal : List Entry) (entry : Entry) (is : IsTabled plan journal) (run : IsRun plan journal entry) where
  abbrev now : Moment
  now = moment plan journal

  abbrev has : Actor → Standing
  has = standing_of plan journal

  same_call : (a b : Request) → Call a ≡ Call b → a ≡ b
  same_call a b same = cc

  no_poll : (request : Request) → Call request ≡ Poll → ⊥
  no_poll request same = cc

  -- in an uncopied course the locker and the renamer ask nothing, and the inspector its setup and notes
  none_left : (work : Work) → now.tool.tool_phase ≡ Migrating work → is_uncopied (Migrating work) ≡ true → WorkTables plan (state_at plan journal).tables has work
  none_left work tool_phase off = subst (ToolPhaseTables plan (state_at plan journal).tables has) tool_phase is.tables

  insp_called : (request : Request) → entry.asked ≡ Call request → Asking plan journal Insp entry.asked → (tool_phase : ToolPhase) → now.tool.tool_phase ≡ tool_phase → is_uncopied tool_phase ≡ true → Spares plan.table request
  insp_called request asks asking_so (Migrating work) tool_phase off =
      insp_notes plan journal entry is.all is.quiet run work tool_phase ((none_left work tool_phase off).going (not-true work.copier.is_copied off)) asking_so (Spares plan.table request)
      (λ other is_about kind. noted other is_about kind) where
        noted : (other : Request) → IsAbout other (has Insp) entry.asked → WritesLog plan other → Spares plan.table request
        noted other (is_called called none) kind = log_spares plan journal is request (subst (WritesLog plan) (same_call other request (sym called ∙ asks)) kind)
        noted other (is_polled polled some) kind = absurd (no_poll request (sym asks ∙ polled))
  insp_called request asks (polls_so other polled some) (SettingUp setup tries) tool_phase off = absurd (no_poll request (sym asks ∙ polled))
  insp_called request asks (calls_so other called idle call) (SettingUp setup tries) tool_phase off =
      let one : other ≡ request = same_call other request (sym called ∙ asks) in
      insp_spares plan journal is request setup (ap (λ (c : ToolPhase). tool_call plan now.server journal now.tool c Insp) (sym tool_phase) ∙ call ∙ ap Some one)

  lock_called : (request : Request) → entry.asked ≡ Call request → Asking plan journal Lock entry.asked → (tool_phase : ToolPhase) → now.tool.tool_phase ≡ tool_phase → is_uncopied tool_phase ≡ true → Spares plan.table request
  lock_called request asks asking_so (Migrating work) tool_phase off =
      absurd (lock_none plan journal entry is.all is.quiet run work tool_phase (not-true work.copier.is_copied off) ((none_left work tool_phase off).going (not-true work.copier.is_copied off)) asking_so)
  lock_called request asks (polls_so other polled some) (SettingUp setup tries) tool_phase off = absurd (no_poll request (sym asks ∙ polled))
  lock_called request asks (calls_so other called idle call) (SettingUp setup tries) tool_phase off = absurd (none-some other (ap (λ (c : ToolPhase). tool_call plan now.server journal now.tool c Lock) (sym tool_phase) ∙ call))

  ren_called : (request : Request) → entry.asked ≡ Call request → Asking plan journal Ren entry.asked → (tool_phase : ToolPhase) → now.tool.tool_phase ≡ tool_phase → is_uncopied tool_phase ≡ true → Spares plan.table request
  ren_called request asks asking_so (Migrating work) tool_phase off =
      absurd (ren_none plan journal entry is.all is.quiet run work tool_phase ((none_left work tool_phase off).going (not-true work.copier.is_copied off)) asking_so)
  ren_called request asks (polls_so other polled some) (SettingUp setup tries) tool_phase off = absurd (no_poll request (sym asks ∙ polled))
  ren_called request asks (calls_so other called idle call) (SettingUp setup tries) tool_phase off = absurd (none-some other (ap (λ (c : ToolPhase). tool_call plan now.server journal now.tool c Ren) (sym tool_phase) ∙ call))

  tool_unlocks : (actor : Actor) (request : Request) → ((tool_phase : ToolPhase) → now.tool.tool_phase ≡ tool_phase → tool_call plan now.server journal now.tool tool_phase actor ≡ Some request → is_lock request ≡ false) → Asking plan journal actor (Call request) → is_lock request ≡ false
  tool_unlocks actor request each (polls_so other polled some) = absurd (no_poll request polled)
  tool_unlocks actor request each (calls_so other called idle call) = each now.tool.tool_phase refl (call ∙ ap Some (same_call other request (sym called)))

  client_unlocks : (c : ℕ) (request : Request) → Next (client_at plan journal c) (Call request) → is_lock request ≡ false
  client_unlocks c request (calls_line line lines going off left same) = ap is_lock (same_call request (word_asks line.word) same) ∙ word_unlocks line.word
  client_unlocks c request (polls_line going on same) = absurd (no_poll request same)

  spares_given : is_uncopied now.tool.tool_phase ≡ true → (actor : Actor) (request : Request) → entry.asked ≡ Call request → given plan journal actor ≡ Some (Call request) → Spares plan.table request
  unfolding given
  spares_given off (Client c) request asks gives = quiet_spares plan journal is (Client c) request (given_quiet plan journal (Client c) request is.all gives refl) (client_unlocks c request (client_next plan journal c (Call request) gives))
  spares_given off Op request asks gives = absurd (no_word (slice_get (words_of plan) now.tool.operator.taken) (Call request) refl gives)
  spares_given off Copy request asks gives =
      quiet_spares plan journal is Copy request (given_quiet plan journal Copy request is.all gives refl)
      (tool_unlocks Copy request (λ tool_phase same call. copy_unlocks plan journal is request tool_phase call) (asking plan journal Copy (Call request) is.all.tool.server gives))
  spares_given off Apply request asks gives =
      quiet_spares plan journal is Apply request (given_quiet plan journal Apply request is.all gives refl)
      (tool_unlocks Apply request (λ tool_phase same call. apply_unlocks plan journal is request tool_phase (subst (ToolPhaseStands journal has (is_reverting now.tool.reason)) same is.all.tool.stands) call) (asking plan journal Apply (Call request) is.all.tool.server gives))
  spares_given off Insp request asks gives = insp_called request asks (asking plan journal Insp entry.asked is.all.tool.server (gives ∙ ap Some (sym asks))) now.tool.tool_phase refl off
  spares_given off Lock request asks gives = lock_called request asks (asking plan journal Lock entry.asked is.all.tool.server (gives ∙ ap Some (sym asks))) now.tool.tool_phase refl off
  spares_given off Ren request asks gives = ren_called request asks (asking plan journal Ren entry.asked is.all.tool.server (gives ∙ ap Some (sym asks))) now.tool.tool_phase refl off

  spared_now : is_uncopied now.tool.tool_phase ≡ true → IsSpared plan.table (state_at plan journal) → IsSpared plan.table (state_at plan (journal ++ entry ∷ []))
  spared_now off spared =
      subst (IsSpared plan.table) (sym (state_more plan journal entry))
      (turn_spared plan.table (state_at plan journal) entry (λ request asks. spares_given off entry.actor request asks (called request asks run.followed.given)) spared) where
        called : (request : Request) → entry.asked ≡ Call request → IsGiven plan journal entry entry.asked → given plan journal entry.actor ≡ Some (Call request)
        called request asks gives = subst (λ (a : Asked). IsGiven plan journal entry a) asks gives

  -- ROWS THAT ARE LEFT WERE LEFT BEFORE

  abbrev Before : Kept
  Before b tool_phase = is_uncopied tool_phase ≡ true → is_uncopied now.tool.tool_phase ≡ true

  back : (b : Bool) (tool_phase : ToolPhase) → Before b tool_phase → Before true (stopped tool_phase)
  back b (SettingUp setup tries) is_so = is_so
  back b (Migrating work) is_so = is_so

  here : (b : Bool) (tool_phase : ToolPhase) → now.tool.tool_phase ≡ tool_phase → Before b tool_phase
  here b tool_phase same off = ap is_uncopied same ∙ off

  pub copy_before : (work : Work) → now.tool.tool_phase ≡ Migrating work → Asking plan journal Copy entry.asked → is_reverting now.tool.reason ≡ false → is_uncopied now.tool.tool_phase ≡ true
  copy_before work tool_phase asks going = by work.copier.is_copied refl where
    tables : WorkTables plan (state_at plan journal).tables has work
    tables = subst (ToolPhaseTables plan (state_at plan journal).tables has) tool_phase is.tables

    by : (b : Bool) → work.copier.is_copied ≡ b → is_uncopied now.tool.tool_phase ≡ true
    by true on = absurd (true≢false (sym (copied_idle plan journal entry is.all is.quiet run work tool_phase on (tables.copied on) asks).0 ∙ going))
    by false off = here false (Migrating work) tool_phase (ap not off)

  abbrev tool : Tool
  tool = record now.tool { turns = now.tool.turns + 1 }

  work_kept : (work : Work) → now.tool.tool_phase ≡ Migrating work → UnfitKeeps Before work
  work_kept work tool_phase = record { renamed = λ renamed. here false (Migrating work) tool_phase; reverts = here true (Migrating work) tool_phase }

  copy_kept : (answer : Answer) (work : Work) → now.tool.tool_phase ≡ Migrating work → (is_reverting now.tool.reason ≡ false → not (copiers.took tool.turns work.copier answer).is_copied ≡ true → is_uncopied now.tool.tool_phase ≡ true) → CopyKeeps Before answer tool work
  copy_kept answer work tool_phase before = record { reverting = λ reverting. here true (Migrating work) tool_phase; unfit = λ going place number unfit. work_kept work tool_phase; took = λ going fits tries off. before going off }

  apply_kept : (answer : Answer) (work : Work) → now.tool.tool_phase ≡ Migrating work → ApplyKeeps Before answer tool work
  apply_kept answer work tool_phase = record { reverting = λ reverting. here true (Migrating work) tool_phase; unfit = λ going place number unfit. work_kept work tool_phase; took = λ going fits tries off. here false (Migrating work) tool_phase off }

  setup_kept : (answer : Answer) (setup : Setup) (tries : List ℕ) → now.tool.tool_phase ≡ SettingUp setup tries → SetupKeeps plan Before answer tool setup tries
  setup_kept answer setup tries tool_phase = record { reverting = λ reverting. here true (SettingUp setup tries) tool_phase; again = λ going bad more off. here false (SettingUp setup tries) tool_phase refl; goes = λ going good off. here false (SettingUp setup tries) tool_phase refl }

  answer_kept : (answer : Answer) (actor : Actor) (tool_phase : ToolPhase) → now.tool.tool_phase ≡ tool_phase → ((work : Work) → actor ≡ Copy → now.tool.tool_phase ≡ Migrating work → CopyKeeps Before answer tool work) → AnswerKeeps plan Before answer tool actor tool_phase
  answer_kept answer Insp (SettingUp setup tries) tool_phase copy = setup_kept answer setup tries tool_phase
  answer_kept answer Insp (Migrating work) tool_phase copy = λ tries off. here (is_reverting tool.reason) (Migrating work) tool_phase off
  answer_kept answer Lock (Migrating work) tool_phase copy = λ tries off. here (is_reverting tool.reason) (Migrating work) tool_phase off
  answer_kept answer Ren (Migrating work) tool_phase copy = λ tries off. here (is_reverting tool.reason) (Migrating work) tool_phase off
  answer_kept answer Copy (Migrating work) tool_phase copy = copy work refl tool_phase
  answer_kept answer Apply (Migrating work) tool_phase copy = apply_kept answer work tool_phase
  answer_kept answer Op (Migrating work) tool_phase copy = here (is_reverting tool.reason) (Migrating work) tool_phase
  answer_kept answer (Client c) (Migrating work) tool_phase copy = here (is_reverting tool.reason) (Migrating work) tool_phase
  answer_kept answer Op (SettingUp setup tries) tool_phase copy = here (is_reverting tool.reason) (SettingUp setup tries) tool_phase
  answer_kept answer (Client c) (SettingUp setup tries) tool_phase copy = here (is_reverting tool.reason) (SettingUp setup tries) tool_phase
  answer_kept answer Copy (SettingUp setup tries) tool_phase copy = here (is_reverting tool.reason) (SettingUp setup tries) tool_phase
  answer_kept answer Apply (SettingUp setup tries) tool_phase copy = here (is_reverting tool.reason) (SettingUp setup tries) tool_phase
  answer_kept answer Lock (SettingUp setup tries) tool_phase copy = here (is_reverting tool.reason) (SettingUp setup tries) tool_phase
  answer_kept answer Ren (SettingUp setup tries) tool_phase copy = here (is_reverting tool.reason) (SettingUp setup tries) tool_phase

  copy_asking : (actor : Actor) → actor ≡ Copy → given plan journal actor ≡ Some entry.asked → Asking plan journal Copy entry.asked
  unfolding given
  copy_asking actor same gives = asking plan journal Copy entry.asked is.all.tool.server (subst (λ (a : Actor). given plan journal a ≡ Some entry.asked) same gives)

  heard_kept : given plan journal entry.actor ≡ Some entry.asked → AnswerKeeps plan Before entry.answer tool entry.actor tool.tool_phase
  heard_kept gives = answer_kept entry.answer entry.actor now.tool.tool_phase refl (λ work same tool_phase. copy_kept entry.answer work tool_phase (λ going off. copy_before work tool_phase (copy_asking entry.actor same gives) going))

  lost_kept : AnswerKeeps plan Before answers.Lost tool entry.actor tool.tool_phase
  lost_kept = answer_kept answers.Lost entry.actor now.tool.tool_phase refl (λ work same tool_phase. copy_kept answers.Lost work tool_phase (λ going off. here false (Migrating work) tool_phase (ap not (sym (lost_copied tool.turns work.copier)) ∙ off)))

  resize_kept : (size : ℕ) (tool_phase : ToolPhase) → now.tool.tool_phase ≡ tool_phase → ResizeKeeps Before tool size tool_phase
  resize_kept size (SettingUp setup tries) tool_phase = here (is_reverting tool.reason) (SettingUp setup tries) tool_phase
  resize_kept size (Migrating work) tool_phase = λ off. here (is_reverting tool.reason) (Migrating work) tool_phase off

  pub uncopied_before : is_uncopied (moment plan (journal ++ entry ∷ [])).tool.tool_phase ≡ true → is_uncopied now.tool.tool_phase ≡ true
  uncopied_before =
      turn_kept plan Before back journal entry (λ b work tries is_so off. is_so off)
      (record {
        commanded = λ word asks unsized off. off;
        resized = λ size asks. resize_kept size now.tool.tool_phase refl;
        idle = λ asks none off. off;
        lost = λ asks worked. lost_kept;
        heard = λ called commanded. heard_kept (gives_asked plan journal entry entry.asked run.followed.given refl called);
      })

-- WHOLE JOURNALS

pub record IsUntouched (plan : PlanData) (journal : List Entry) : Type 0 where
  pub tabled : IsTabled plan journal
  pub spared : is_uncopied (moment plan journal).tool.tool_phase ≡ true → IsSpared plan.table (state_at plan journal)

pub untouched_more : (plan : PlanData) (journal : List Entry) (entry : Entry) → IsRun plan journal entry → IsUntouched plan journal → IsUntouched plan (journal ++ entry ∷ [])
untouched_more plan journal entry run is = record {
  tabled = tabled_more plan journal entry run is.tabled;
  spared = λ off. let before = uncopied_before plan journal entry is.tabled run off in spared_now plan journal entry is.tabled run before (is.spared before);
}

pub untouched_begins : (plan : PlanData) → IsFitting plan → TableExists plan → IsUntouched plan []
unfolding state_after
untouched_begins plan fit stands = record { tabled = tabled_begins plan fit stands; spared = λ off. record { sessions = tt; waiting = tt } }
