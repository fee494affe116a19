-- What is given to an actor may be called.
use Rattle.std.proofs.Common.{◌≡◌, ℕ, Bool, true, false, cond, not, ◌&&◌, List, Option, Some, None, refl, sym, ap, ◌∙◌, subst}
use Rattle.std.specs.List.{slice_get}
use Rattle.std.proofs.lemmas.Bool.{true≢false}
use Rattle.base_script.specs.declared.actor.Actor.{Actor}
use Rattle.base_script.specs.declared.actor.Actor.TheVariants.{Op, Insp, Copy, Apply, Lock, Ren, Client}
use Rattle.base_script.specs.declared.operator.OperatorWord.{OperatorWord}
use Rattle.table_store.specs.Databases.{Database}
use Rattle.server_model.specs.Conditions.{IsWellFormed}
use Rattle.server_model.specs.declared.entry.Asked.TheVariants.{Call, Poll}
use Rattle.server_model.specs.declared.entry.Entry.{Entry}
use Rattle.server_model.specs.declared.request.Request.{Request}
use Rattle.server_model.specs.declared.request.Request.TheVariants as requests
use Rattle.plan_data.specs.PlanData.{PlanData}
use Rattle.tool_program.specs.JournalWords.Clients.{client_at, client_asks, word_asks}
use Rattle.tool_program.specs.JournalWords.KeptPlans.{words_of}
use Rattle.tool_program.specs.JournalWords.Sessions.{live_session}
use Rattle.tool_program.specs.ChunkCopier.Copiers as copiers
use Rattle.tool_program.specs.EventApplier.Appliers as appliers
use Rattle.tool_program.specs.declared.cutover_core.cutover.Role.TheVariants.{Locker}
use Rattle.tool_program.specs.CutoverCore.Attempts as cutovers
use Rattle.tool_program.specs.CutoverCore.CutOvers.{is_resting}
use Rattle.tool_program.specs.Operators.{is_throttled}
use Rattle.tool_program.specs.Programs.{in_transaction, calls, commands, waits, tool_call, tool_asks, copy_call, apply_call, may_begin, rolls_back, given}
use Rattle.tool_program.specs.Tools.{Work, ToolPhase, SettingUp, Migrating, Moment, is_reverting, moment}
use Rattle.tool_program.proofs.OnlineCalls.Machines.{ToolPhaseIsNamed, named}
use Rattle.proof_journals.specs.Machine.Standings.{opened_for}
use Rattle.proof_journals.specs.Machine.FormedPlans.{IsFitting}
use Rattle.proof_journals.specs.Machine.Laws.{has_keys, IsCalledWell, GivenCallsMayBeMade}
use Rattle.proof_journals.proofs.Machine.Asking.{some_request, unless_called, copier_next, renamer_next}
use Rattle.proof_journals.proofs.Machine.Inspecting.{Inspects, notes_so, cuts_so, inspects}
use Rattle.proof_journals.proofs.Machine.Clients.{Next, calls_line, polls_line, client_next}
use Rattle.proof_journals.proofs.Machine.Journals.{apply_called}
use Rattle.proof_journals.proofs.Machine.Calling.{given_calls, reverting_or}
use Rattle.proof_journals.proofs.Machine.Forming.{setup_formed, inspector_formed, locker_formed, exchange_formed, ToolPhaseBatched, batched, applier_formed, copier_formed, word_formed}

module _ (plan : PlanData) (journal : List Entry) (tables : Database) (fit : IsFitting plan) where
  abbrev now : Moment
  now = moment plan journal

  back_formed : (busy : Bool) (request : Request) → cond busy (Some requests.Rollback) None ≡ Some request → IsWellFormed tables request
  back_formed true request is = some_request (IsWellFormed tables) _ request is tt
  back_formed false request is = absurd cc

  applied : (work : Work) (request : Request) → work.applier.batch ≡ plan.options.dml_batch_size → apply_call plan now.server journal now.tool work ≡ Some request → IsWellFormed tables request
  unfolding appliers.next
  applied work request same asks = subst (IsWellFormed tables) (sym (apply_called plan journal work request asks)) (applier_formed plan tables journal work.applier work.applier.step fit same)

  inspected : (work : Work) (request : Request) → Inspects plan journal now.tool work request → IsWellFormed tables request
  inspected work request (notes_so note resting going next) = subst (IsWellFormed tables) (sym note.is) tt
  inspected work request (cuts_so off next) = inspector_formed tables work.cutover request next

  call_formed : (actor : Actor) (request : Request) (tool_phase : ToolPhase) → ToolPhaseIsNamed plan tool_phase → ToolPhaseBatched plan tool_phase → (actor ≡ Copy → has_keys request ≡ true → IsWellFormed tables request) → tool_call plan now.server journal now.tool tool_phase actor ≡ Some request → IsWellFormed tables request
  call_formed Insp request (SettingUp setup tries) names sized keyed call = setup_formed plan tables (is_reverting now.tool.reason) setup request fit call
  call_formed Insp request (Migrating work) names sized keyed call = inspected work request (inspects plan journal now.tool work request call)
  call_formed Copy request (Migrating work) names sized keyed call =
      reverting_or (IsWellFormed tables request) (is_reverting now.tool.reason) (rolls_back now.server (live_session journal Copy)) (copy_call plan now.server journal now.tool work) request call
      (λ reverting back. back_formed (in_transaction now.server (live_session journal Copy)) request back)
      (λ going asks. copier_formed tables work.copier.step request (copier_next journal work.copier request (unless_called (copiers.starts work.copier && is_throttled plan now.server now.tool.operator) (copiers.next journal work.copier) request asks)) (keyed refl))
  call_formed Apply request (Migrating work) names sized keyed call =
      reverting_or (IsWellFormed tables request) (is_reverting now.tool.reason) (rolls_back now.server (live_session journal Apply)) (apply_call plan now.server journal now.tool work) request call
      (λ reverting back. back_formed (in_transaction now.server (live_session journal Apply)) request back) (λ going asks. applied work request sized asks)
  call_formed Lock request (Migrating work) names sized keyed call =
      locker_formed plan tables work.cutover request fit names.cutover (unless_called (is_resting work.cutover.phase && not (may_begin plan now.server now.tool work)) (cutovers.next Locker work.cutover) request call)
  call_formed Ren request (Migrating work) names sized keyed call = subst (IsWellFormed tables) (sym (renamer_next work.cutover request call)) (exchange_formed plan tables work.cutover.table fit names.cutover)
  call_formed actor request (SettingUp setup tries) names sized keyed call = absurd cc
  call_formed actor request (Migrating work) names sized keyed call = absurd cc

  asked_formed : (actor : Actor) (request : Request) → (actor ≡ Copy → has_keys request ≡ true → IsWellFormed tables request) → tool_asks plan journal now actor ≡ Some (Call request) → IsWellFormed tables request
  asked_formed actor request keyed asks = by (waits now.server (live_session journal actor)) (tool_call plan now.server journal now.tool now.tool.tool_phase actor) refl asks where
    by : (b : Bool) (call : Option Request) → tool_call plan now.server journal now.tool now.tool.tool_phase actor ≡ call → cond b (Some Poll) (calls call) ≡ Some (Call request) → IsWellFormed tables request
    by true call same is = absurd cc
    by false None same is = absurd cc
    by false (Some one) same is = call_formed actor request now.tool.tool_phase (named plan journal) (batched plan journal) keyed (let eq : one ≡ request = cc in same ∙ ap Some eq)

  line_formed : (c : ℕ) (request : Request) → client_asks plan journal c ≡ Some (Call request) → IsWellFormed tables request
  line_formed c request gives = by (client_next plan journal c (Call request) gives) where
    by : Next (client_at plan journal c) (Call request) → IsWellFormed tables request
    by (calls_line line lines going off left same) = let one : word_asks line.word ≡ request = cc in subst (IsWellFormed tables) one (word_formed tables line.word)
    by (polls_line going on same) = absurd (no same) where
      no : Call request ≡ Poll → ⊥
      no both = cc

  pub given_formed : (actor : Actor) (request : Request) → (actor ≡ Copy → has_keys request ≡ true → IsWellFormed tables request) → given plan journal actor ≡ Some (Call request) → IsWellFormed tables request
  unfolding given
  given_formed (Client c) request keyed gives = line_formed c request gives
  given_formed Op request keyed gives = absurd (no (slice_get (words_of plan) now.tool.operator.taken) gives) where
    no : (word : Option OperatorWord) → commands word ≡ Some (Call request) → ⊥
    no None same = cc
    no (Some word) same = cc
  given_formed Insp request keyed gives = asked_formed Insp request keyed gives
  given_formed Copy request keyed gives = asked_formed Copy request keyed gives
  given_formed Apply request keyed gives = asked_formed Apply request keyed gives
  given_formed Lock request keyed gives = asked_formed Lock request keyed gives
  given_formed Ren request keyed gives = asked_formed Ren request keyed gives

-- *Given calls may be made*
pub given_may : GivenCallsMayBeMade
given_may plan journal actor request n fit faithful follows gives may none =
    let well : IsCalledWell (opened_for plan journal actor n) n request = given_calls plan journal actor request n fit.scripts faithful follows gives may in
    record { live = well.live; idle = well.idle; comes = well.comes; formed = given_formed plan journal (opened_for plan journal actor n).tables fit actor request (λ same has. absurd (true≢false (sym has ∙ none))) gives }
