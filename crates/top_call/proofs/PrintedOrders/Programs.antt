-- What a plan gives, and what it allows, is the same whatever order of turns it asks for.
use Rattle.std.proofs.Common.{◌≡◌, ℕ, ◌+◌, Bool, true, false, if◌then◌else◌, List, [], ◌∷◌, ◌++◌, Option, Some, None, refl, ap, ◌∙◌}
use Rattle.std.specs.List.{fold, slice_get}
use Rattle.base_values.specs.declared.value.Value.{Value}
use Rattle.base_script.specs.declared.actor.Actor.{Actor}
use Rattle.base_script.specs.declared.actor.Actor.TheVariants.{Op, Insp, Copy, Apply, Lock, Ren, Client}
use Rattle.server_model.specs.Along.{Along}
use Rattle.server_model.specs.declared.answer.Answer.{Answer}
use Rattle.server_model.specs.declared.answer.Answer.TheVariants as answers
use Rattle.server_model.specs.declared.entry.Asked.{Asked}
use Rattle.server_model.specs.declared.entry.Asked.TheVariants.{Call, Poll, Command, Cut}
use Rattle.server_model.specs.declared.entry.Entry.{Entry}
use Rattle.server_model.specs.declared.outcome.Progress.{Progress}
use Rattle.server_model.specs.declared.outcome.Progress.TheVariants.{Going, TaskDone, TaskFailed, Unfit}
use Rattle.server_model.specs.declared.outcome.Task.TheVariants as tasks
use Rattle.server_model.specs.States.{State, has_work}
use Rattle.plan_data.specs.PlanData.{PlanData, new_schema, new_map}
use Rattle.plan_data.specs.declared.runs.ActorRun.{ActorRun}
use Rattle.tool_program.specs.JournalWords.Clients.{client_asks, client_at}
use Rattle.tool_program.specs.JournalWords.Journals.{after_entry, opening}
use Rattle.tool_program.specs.JournalWords.KeptPlans.{cut_due, IsPlanned, IsStruck, KeepsPlan, TakesNext, words_of}
use Rattle.tool_program.specs.JournalWords.Sessions.{live_session}
use Rattle.tool_program.specs.declared.chunk_copier.copier.Copier.{Copier}
use Rattle.tool_program.specs.ChunkCopier.Copiers as copiers
use Rattle.tool_program.specs.declared.event_applier.applier.Applier.{Applier}
use Rattle.tool_program.specs.EventApplier.Appliers as appliers
use Rattle.tool_program.specs.declared.cutover_core.cutover.CutOver.{CutOver}
use Rattle.tool_program.specs.declared.cutover_core.cutover.Role.{Role}
use Rattle.tool_program.specs.declared.cutover_core.cutover.Role.TheVariants.{Inspector, Locker, Renamer}
use Rattle.tool_program.specs.CutoverCore.CutOvers.{is_bad, is_resting}
use Rattle.tool_program.specs.CutoverCore.Attempts as attempts
use Rattle.tool_program.specs.CutoverCore.CutOvers as cutovers
use Rattle.tool_program.specs.declared.note_writer.notes.Notes.{Notes}
use Rattle.tool_program.specs.NoteWriter.Notes.{checkpoint_next, notes_of, row_or_beat}
use Rattle.tool_program.specs.NoteWriter.Notes as notes
use Rattle.tool_program.specs.Setups.{Setup, Listing, Clearing, MakingLog, MakingGhost, Marking, Reaching, Ready, setup_after, setup_call}
use Rattle.tool_program.specs.Tools.{Work, ToolPhase, SettingUp, Migrating, Tool, Moment, actor_took, after_turn, apply_after, asked_took, attempt_after, copy_after, cutover_after, cutover_took, drains, is_failure, is_reverting, moment, new_tool, setup_took, spends, tool_phase_of, took, turn_counts}
use Rattle.tool_program.specs.Programs.{calls, checkpoint_in, commands, given, Follows, IsFollowed, IsGiven, tool_asks, tool_call, waits}
use Rattle.top_call.specs.PrintedOrders.{ordered}

pub fold_same : {A B : Type 0} (f g : B → A → B) → ((b : B) (a : A) → f b a ≡ g b a) → (init : B) (all : List A) → fold f init all ≡ fold g init all
fold_same f g same init [] = refl
fold_same f g same init (first ∷ all) = ap (λ b. fold f b all) (same init first) ∙ fold_same f g same (g init first) all

pub along_same : {E : Type 0} (keeps holds : List E → E → Type 0) → ((before : List E) (entry : E) → keeps before entry → holds before entry) → (before entries : List E) → Along keeps before entries → Along holds before entries
along_same keeps holds each before [] kept = tt
along_same keeps holds each before (entry ∷ entries) kept = (each before entry kept.0, along_same keeps holds each (before ++ entry ∷ []) entries kept.1)

module _ (plan : PlanData) (runs : List ActorRun) where
  -- HOW FAR THE TOOL IS

  copy_after_same : (work : Work) (progress : Progress) (copier : Copier) (tool : Tool) → copy_after (ordered plan runs) work progress copier tool ≡ copy_after plan work progress copier tool
  copy_after_same work Going copier tool = refl
  copy_after_same work TaskDone copier tool = refl
  copy_after_same work TaskFailed copier tool = refl
  copy_after_same work (Unfit place number) copier tool = refl

  apply_after_same : (work : Work) (progress : Progress) (applier : Applier) (tool : Tool) → apply_after (ordered plan runs) work progress applier tool ≡ apply_after plan work progress applier tool
  apply_after_same work Going applier tool = refl
  apply_after_same work TaskDone applier tool = refl
  apply_after_same work TaskFailed applier tool = refl
  apply_after_same work (Unfit place number) applier tool = refl

  attempt_after_same : (failed : Bool) (work : Work) (cutover : CutOver) (tool : Tool) → attempt_after (ordered plan runs) failed work cutover tool ≡ attempt_after plan failed work cutover tool
  attempt_after_same true work cutover tool = refl
  attempt_after_same false work cutover tool = refl

  cutover_after_same : (cutover : CutOver) (work : Work) (tool : Tool) → cutover_after (ordered plan runs) cutover work tool ≡ cutover_after plan cutover work tool
  cutover_after_same cutover work tool = attempt_after_same (is_failure work.cutover.phase cutover.phase) work cutover tool

  cutover_took_same : (role : Role) (answer : Answer) (work : Work) (tool : Tool) → cutover_took (ordered plan runs) role answer work tool ≡ cutover_took plan role answer work tool
  cutover_took_same role answer work tool = cutover_after_same (cutovers.took role work.cutover answer) work tool

  drains_same : (phase : ToolPhase) (tool : Tool) → drains (ordered plan runs) phase tool ≡ drains plan phase tool
  drains_same (SettingUp setup tries) tool = refl
  drains_same (Migrating work) tool = cutover_after_same (cutovers.applier_turn work.applier.hint work.cutover) work tool

  tool_phase_of_same : (size : ℕ) (setup : Setup) (tries : List ℕ) → tool_phase_of (ordered plan runs) size setup tries ≡ tool_phase_of plan size setup tries
  unfolding new_schema new_map
  tool_phase_of_same size Listing tries = refl
  tool_phase_of_same size (Clearing left) tries = refl
  tool_phase_of_same size MakingLog tries = refl
  tool_phase_of_same size MakingGhost tries = refl
  tool_phase_of_same size Marking tries = refl
  tool_phase_of_same size (Reaching position) tries = refl
  tool_phase_of_same size (Ready position range) tries = refl

  setup_took_same : (setup : Setup) (tries : List ℕ) (answer : Answer) (tool : Tool) → setup_took (ordered plan runs) setup tries answer tool ≡ setup_took plan setup tries answer tool
  setup_took_same setup tries answer tool =
      ap
      (λ (phase : ToolPhase). if is_bad answer then spends plan tasks.Setup (tries ++ tool.turns ∷ []) (record tool { tool_phase = SettingUp Listing (tries ++ tool.turns ∷ []) }) else record tool { tool_phase = phase })
      (tool_phase_of_same tool.operator.size (setup_after plan.table setup answer) tries)

  unless_reverting : (tool : Tool) (one two : Tool) → one ≡ two → (if is_reverting tool.reason then tool else one) ≡ (if is_reverting tool.reason then tool else two)
  unless_reverting tool one two same = ap (λ (t : Tool). if is_reverting tool.reason then tool else t) same

  actor_took_same : (actor : Actor) (answer : Answer) (phase : ToolPhase) (tool : Tool) → actor_took (ordered plan runs) actor answer phase tool ≡ actor_took plan actor answer phase tool
  actor_took_same Op answer (SettingUp setup tries) tool = refl
  actor_took_same Op answer (Migrating work) tool = refl
  actor_took_same Insp answer (SettingUp setup tries) tool = unless_reverting tool _ _ (setup_took_same setup tries answer tool)
  actor_took_same Insp answer (Migrating work) tool = cutover_took_same Inspector answer work tool
  actor_took_same Copy answer (SettingUp setup tries) tool = refl
  actor_took_same Copy answer (Migrating work) tool = unless_reverting tool _ _ (copy_after_same work (copiers.progress work.copier answer) (copiers.took tool.turns work.copier answer) tool)
  actor_took_same Apply answer (SettingUp setup tries) tool = refl
  actor_took_same Apply answer (Migrating work) tool = unless_reverting tool _ _ (apply_after_same work (appliers.progress work.applier answer) (appliers.took tool.turns work.applier answer) tool)
  actor_took_same Lock answer (SettingUp setup tries) tool = refl
  actor_took_same Lock answer (Migrating work) tool = cutover_took_same Locker answer work tool
  actor_took_same Ren answer (SettingUp setup tries) tool = refl
  actor_took_same Ren answer (Migrating work) tool = cutover_took_same Renamer answer work tool
  actor_took_same (Client client) answer (SettingUp setup tries) tool = refl
  actor_took_same (Client client) answer (Migrating work) tool = refl

  turn_counts_same : (actor : Actor) (tool : Tool) → turn_counts (ordered plan runs) actor tool ≡ turn_counts plan actor tool
  turn_counts_same Op tool = refl
  turn_counts_same Insp tool = refl
  turn_counts_same Copy tool = refl
  turn_counts_same Apply tool = drains_same tool.tool_phase tool
  turn_counts_same Lock tool = refl
  turn_counts_same Ren tool = refl
  turn_counts_same (Client client) tool = refl

  counted_same : (entry : Entry) (tool : Tool) → turn_counts (ordered plan runs) entry.actor (actor_took (ordered plan runs) entry.actor entry.answer tool.tool_phase tool) ≡ turn_counts plan entry.actor (actor_took plan entry.actor entry.answer tool.tool_phase tool)
  counted_same entry tool =
      turn_counts_same entry.actor (actor_took (ordered plan runs) entry.actor entry.answer tool.tool_phase tool)
      ∙ ap (turn_counts plan entry.actor) (actor_took_same entry.actor entry.answer tool.tool_phase tool)

  asked_took_same : (state : State) (entry : Entry) (asked : Asked) (tool : Tool) → asked_took (ordered plan runs) state entry asked tool ≡ asked_took plan state entry asked tool
  asked_took_same state entry (Call request) tool = counted_same entry tool
  asked_took_same state entry Poll tool = counted_same entry tool
  asked_took_same state entry (Command word) tool = refl
  asked_took_same state entry Cut tool = ap (λ (t : Tool). if has_work state entry.session then t else tool) (actor_took_same entry.actor answers.Lost tool.tool_phase tool)

  took_same : (state : State) (tool : Tool) (entry : Entry) → took (ordered plan runs) state tool entry ≡ took plan state tool entry
  unfolding took
  took_same state tool entry = asked_took_same state entry entry.asked (record tool { turns = tool.turns + 1 })

  turned_same : (now : Moment) (entry : Entry) → after_turn (ordered plan runs) now entry ≡ after_turn plan now entry
  turned_same now entry = ap (λ (t : Tool). record { server = after_entry now.server entry; tool = t }) (took_same now.server now.tool entry)

  pub moment_same : (journal : List Entry) → moment (ordered plan runs) journal ≡ moment plan journal
  unfolding moment
  moment_same journal = fold_same (after_turn (ordered plan runs)) (after_turn plan) turned_same (record { server = opening plan; tool = new_tool plan }) journal

  -- WHAT IS GIVEN

  client_asks_same : (journal : List Entry) (client : ℕ) → client_asks (ordered plan runs) journal client ≡ client_asks plan journal client
  unfolding client_asks client_at
  client_asks_same journal client = refl

  setup_call_same : (setup : Setup) → setup_call (ordered plan runs) setup ≡ setup_call plan setup
  unfolding new_schema
  setup_call_same Listing = refl
  setup_call_same (Clearing left) = refl
  setup_call_same MakingLog = refl
  setup_call_same MakingGhost = refl
  setup_call_same Marking = refl
  setup_call_same (Reaching position) = refl
  setup_call_same (Ready position range) = refl

  row_or_beat_same : (row : Option (List Value)) (now : Notes) → row_or_beat row (ordered plan runs) now ≡ row_or_beat row plan now
  row_or_beat_same None now = refl
  row_or_beat_same (Some row) now = refl

  note_same : (row : Option (List Value)) (now : Notes) → notes.next (ordered plan runs) row now ≡ notes.next plan row now
  unfolding notes.next
  note_same row now = row_or_beat_same (checkpoint_next now.step row) now

  tool_call_same : (state : State) (journal : List Entry) (tool : Tool) (phase : ToolPhase) (actor : Actor) → tool_call (ordered plan runs) state journal tool phase actor ≡ tool_call plan state journal tool phase actor
  unfolding words_of
  tool_call_same state journal tool (SettingUp setup tries) Op = refl
  tool_call_same state journal tool (SettingUp setup tries) Insp = ap (λ call. if is_reverting tool.reason then None else call) (setup_call_same setup)
  tool_call_same state journal tool (SettingUp setup tries) Copy = refl
  tool_call_same state journal tool (SettingUp setup tries) Apply = refl
  tool_call_same state journal tool (SettingUp setup tries) Lock = refl
  tool_call_same state journal tool (SettingUp setup tries) Ren = refl
  tool_call_same state journal tool (SettingUp setup tries) (Client client) = refl
  tool_call_same state journal tool (Migrating work) Op = refl
  tool_call_same state journal tool (Migrating work) Insp =
      ap (λ call. if is_resting work.cutover.phase then (if is_reverting tool.reason then None else call) else attempts.next Inspector work.cutover)
      (note_same (checkpoint_in journal work) (notes_of journal))
  tool_call_same state journal tool (Migrating work) Copy = refl
  tool_call_same state journal tool (Migrating work) Apply = refl
  tool_call_same state journal tool (Migrating work) Lock = refl
  tool_call_same state journal tool (Migrating work) Ren = refl
  tool_call_same state journal tool (Migrating work) (Client client) = refl

  tool_asks_same : (journal : List Entry) (actor : Actor) → tool_asks (ordered plan runs) journal (moment (ordered plan runs) journal) actor ≡ tool_asks plan journal (moment plan journal) actor
  tool_asks_same journal actor =
      let now = moment plan journal in
      ap (λ (m : Moment). tool_asks (ordered plan runs) journal m actor) (moment_same journal)
      ∙ ap (λ call. if waits now.server (live_session journal actor) then Some Poll else calls call) (tool_call_same now.server journal now.tool now.tool.tool_phase actor)

  pub given_same : (journal : List Entry) (actor : Actor) → given (ordered plan runs) journal actor ≡ given plan journal actor
  unfolding given words_of
  given_same journal Op = ap (λ (m : Moment). commands (slice_get (words_of plan) m.tool.operator.taken)) (moment_same journal)
  given_same journal Insp = tool_asks_same journal Insp
  given_same journal Copy = tool_asks_same journal Copy
  given_same journal Apply = tool_asks_same journal Apply
  given_same journal Lock = tool_asks_same journal Lock
  given_same journal Ren = tool_asks_same journal Ren
  given_same journal (Client client) = client_asks_same journal client

  -- *The program is followed*
  given_so : (before : List Entry) (entry : Entry) (asked : Asked) → IsGiven plan before entry asked → IsGiven (ordered plan runs) before entry asked
  given_so before entry (Call request) is = given_same before entry.actor ∙ is
  given_so before entry Poll is = given_same before entry.actor ∙ is
  given_so before entry (Command word) is = given_same before entry.actor ∙ is
  given_so before entry Cut is = tt

  followed : (before : List Entry) (entry : Entry) → IsFollowed plan before entry → IsFollowed (ordered plan runs) before entry
  followed before entry is = record { given = given_so before entry entry.asked is.given; session = is.session }

  pub follows_so : (journal : List Entry) → Follows plan journal → Follows (ordered plan runs) journal
  unfolding Follows
  follows_so journal is = along_same (IsFollowed plan) (IsFollowed (ordered plan runs)) followed [] journal is

  -- *The plan is kept*
  takes_next : (before : List Entry) (actor : Actor) (asked : Asked) → TakesNext plan before actor asked → TakesNext (ordered plan runs) before actor asked
  unfolding client_asks client_at words_of
  takes_next before actor Cut is = tt
  takes_next before Op (Call request) is = is
  takes_next before Op Poll is = is
  takes_next before Op (Command word) is = is
  takes_next before Insp (Call request) is = is
  takes_next before Insp Poll is = is
  takes_next before Insp (Command word) is = is
  takes_next before Copy (Call request) is = is
  takes_next before Copy Poll is = is
  takes_next before Copy (Command word) is = is
  takes_next before Apply (Call request) is = is
  takes_next before Apply Poll is = is
  takes_next before Apply (Command word) is = is
  takes_next before Lock (Call request) is = is
  takes_next before Lock Poll is = is
  takes_next before Lock (Command word) is = is
  takes_next before Ren (Call request) is = is
  takes_next before Ren Poll is = is
  takes_next before Ren (Command word) is = is
  takes_next before (Client client) (Call request) is = is
  takes_next before (Client client) Poll is = is
  takes_next before (Client client) (Command word) is = is

  struck_so : (before : List Entry) (entry : Entry) (due : Option Actor) → IsStruck plan before entry due → IsStruck (ordered plan runs) before entry due
  struck_so before entry None is = is
  struck_so before entry (Some actor) is = is

  planned : (before : List Entry) (entry : Entry) → IsPlanned plan before entry → IsPlanned (ordered plan runs) before entry
  planned before entry is = record { next = takes_next before entry.actor entry.asked is.next; struck = struck_so before entry (cut_due plan before) is.struck }

  pub keeps_so : (journal : List Entry) → KeepsPlan plan journal → KeepsPlan (ordered plan runs) journal
  unfolding KeepsPlan
  keeps_so journal is = along_same (IsPlanned plan) (IsPlanned (ordered plan runs)) planned [] journal is
