-- What a new tool's turn is: a session is lost, or an actor of the tool's calls; and it gives no table a name but by the exchange.
use Rattle.std.proofs.Common.{◌≡◌, Bool, true, false, cond, List, [], ◌∷◌, ◌++◌, length, drop, Option, Some, None, refl, sym, ap, ◌∙◌, ◌⊎◌, inl, inr}
use Rattle.std.proofs.lemmas.Option.{same_Some}
use Rattle.base_script.specs.declared.actor.Actor.{Actor}
use Rattle.base_script.specs.declared.actor.Actor.TheVariants.{Insp, Copy, Apply, Ren}
use Rattle.server_model.specs.Entries.{is_client}
use Rattle.server_model.specs.declared.entry.Asked.TheVariants.{Call, Cut}
use Rattle.server_model.specs.declared.entry.Entry.{Entry}
use Rattle.server_model.specs.declared.request.Request.{Request}
use Rattle.server_model.specs.declared.request.Request.TheVariants as requests
use Rattle.plan_data.specs.PlanData.{PlanData}
use Rattle.tool_program.specs.ChunkCopier.Copiers as copiers
use Rattle.tool_program.specs.CutoverCore.Attempts.{exchange}
use Rattle.tool_program.specs.EventApplier.Appliers.{Doing}
use Rattle.tool_program.specs.EventApplier.Appliers as appliers
use Rattle.tool_program.specs.declared.chunk_copier.copier.Copier.{Copier}
use Rattle.tool_program.specs.declared.chunk_copier.copier.CopyRange.{CopyRange}
use Rattle.tool_program.specs.declared.chunk_copier.copier.CopyStep.{CopyStep}
use Rattle.tool_program.specs.declared.chunk_copier.copier.CopyStep.TheVariants as chunks
use Rattle.tool_program.specs.declared.event_applier.applier.Applier.{Applier}
use Rattle.tool_program.specs.declared.event_applier.applier.ApplyStep.{ApplyStep}
use Rattle.tool_program.specs.declared.event_applier.applier.ApplyStep.TheVariants as batches
use Rattle.tool_finish.specs.declared.stage.Stage.{Stage}
use Rattle.tool_finish.specs.declared.stage.Stage.TheVariants.{Losing, Listing, Reading, Clearing, ReadingCounter, SettingCounter, Ranging, Copying, Applying, Exchanging, DroppingLog, DroppingOld, RollingBack, Done, Reverted}
use Rattle.tool_finish.specs.declared.stage.UnfitRow.{UnfitRow}
use Rattle.tool_finish.specs.declared.stage.UnfitRow.TheVariants.{Copied, Applied}
use Rattle.tool_finish.specs.Finishes.{Asking, IsFinish, IsFinishTurn, calls, copies, cuts, first_live, next, rolls_back, stage_behind}
use Rattle.proof_journals.proofs.Ghost.Turns.{along_next}
use Rattle.proof_audit.specs.Wholes.{AreNewTools}
use Rattle.proof_audit.proofs.Renaming.{is_rename_request}

-- a request that gives no table a name
abbrev pub names_nothing : Request → Bool
names_nothing (requests.Create schema) = false
names_nothing (requests.Rename pairs) = false
names_nothing request = true

-- what is called gives no table a name, or exchanges the two
abbrev pub RenamesWell : PlanData → Request → Type 0
RenamesWell plan request = (names_nothing request ≡ true) ⊎ (request ≡ exchange plan.table)

pub names_not : (request : Request) → names_nothing request ≡ true → is_rename_request request ≡ false
names_not (requests.Create schema) is = refl
names_not (requests.Rename pairs) is = absurd cc
names_not request is = refl

pub data ItsTurn (plan : PlanData) (entry : Entry) : Type 0 where
  Loses : entry.asked ≡ Cut → ItsTurn plan entry
  CallsFor : (request : Request) → is_client entry.actor ≡ false → entry.asked ≡ Call request → RenamesWell plan request → ItsTurn plan entry

module _ (plan : PlanData) (journal : List Entry) (entry : Entry) where
  abbrev Next : Option Asking → Type 0
  Next asking = asking ≡ Some (entry.actor, entry.asked)

  of_call : (actor : Actor) (request : Request) → is_client actor ≡ false → RenamesWell plan request → Next (calls actor request) → ItsTurn plan entry
  of_call actor request tool well is =
      let one : (actor, Call request) ≡ (entry.actor, entry.asked) = same_Some (actor, Call request) (entry.actor, entry.asked) is in
      CallsFor request (ap (λ (p : Asking). is_client p.0) (sym one) ∙ tool) (ap (λ (p : Asking). p.1) (sym one)) well

  of_cut : (live : Option Actor) → Next (cuts live) → ItsTurn plan entry
  of_cut None is = absurd cc
  of_cut (Some actor) is = Loses (ap (λ (p : Asking). p.1) (sym (same_Some (actor, Cut) (entry.actor, entry.asked) is)))

  of_copy : (copier : Copier) → Next (copies (copiers.next journal copier)) → ItsTurn plan entry
  unfolding copiers.next
  of_copy copier is = by copier.is_copied is where
    row : (key : Option _) → Next (copies (copiers.copies copier key)) → ItsTurn plan entry
    row None is = absurd cc
    row (Some key) is = of_call Copy _ refl (inl refl) is

    at : (range : CopyRange) (step : CopyStep) → Next (copies (copiers.call_at journal copier range step)) → ItsTurn plan entry
    at range chunks.Choosing is = of_call Copy _ refl (inl refl) is
    at range (chunks.Spanning reported size) is = of_call Copy _ refl (inl refl) is
    at range (chunks.Copying chunk copied) is = row (copiers.key_at journal (chunks.Copying chunk copied)) is
    at range (chunks.Committing chunk) is = of_call Copy _ refl (inl refl) is

    in_range : (range : Option CopyRange) → Next (copies (copiers.call_in journal copier range)) → ItsTurn plan entry
    in_range None is = absurd cc
    in_range (Some range) is = at range copier.step is

    by : (b : Bool) → Next (copies (cond b None (copiers.call_in journal copier copier.range))) → ItsTurn plan entry
    by true is = absurd cc
    by false is = in_range copier.range is

  statement_well : (applier : Applier) (doing : Option Doing) → RenamesWell plan (appliers.statement_result applier doing)
  statement_well applier None = inl refl
  statement_well applier (Some doing) = inl refl

  apply_well : (applier : Applier) (step : ApplyStep) → RenamesWell plan (appliers.call_at journal applier step)
  apply_well applier batches.Reading = inl refl
  apply_well applier (batches.Beginning batch) = inl refl
  apply_well applier (batches.Applying batch done part) = statement_well applier (appliers.doing_at journal applier (batches.Applying batch done part))
  apply_well applier (batches.Committing batch) = inl refl

  of_apply : (applier : Applier) → Next (calls Apply (appliers.next journal applier)) → ItsTurn plan entry
  unfolding appliers.next
  of_apply applier is = of_call Apply (appliers.call_at journal applier applier.step) refl (apply_well applier applier.step) is

  of_back : (row : UnfitRow) → Next (calls (rolls_back row) requests.Rollback) → ItsTurn plan entry
  of_back (Copied copier refusal) is = of_call Copy requests.Rollback refl (inl refl) is
  of_back (Applied applier refusal) is = of_call Apply requests.Rollback refl (inl refl) is

  -- by its stage
  pub of_stage : (stage : Stage) → Next (next plan journal stage) → ItsTurn plan entry
  unfolding next
  of_stage Losing is = of_cut (first_live plan journal) is
  of_stage Listing is = of_call Insp _ refl (inl refl) is
  of_stage (Reading listed) is = of_call Insp _ refl (inl refl) is
  of_stage (Clearing found) is = of_call Insp _ refl (inl refl) is
  of_stage (ReadingCounter found) is = of_call Insp _ refl (inl refl) is
  of_stage (SettingCounter found number) is = of_call Insp _ refl (inl refl) is
  of_stage (Ranging found) is = of_call Insp _ refl (inl refl) is
  of_stage (Copying copier applier) is = of_copy copier is
  of_stage (Applying applier) is = of_apply applier is
  of_stage Exchanging is = of_call Ren (exchange plan.table) refl (inr refl) is
  of_stage (DroppingLog old) is = of_call Insp _ refl (inl refl) is
  of_stage DroppingOld is = of_call Insp _ refl (inl refl) is
  of_stage (RollingBack row) is = of_back row is
  of_stage Done is = absurd cc
  of_stage (Reverted row) is = absurd cc

-- *A new tool's turn*: no session is lost at its call
pub record IsBehindTurn (plan : PlanData) (entry : Entry) : Type 0 where
  pub unlost : entry.side ≡ None
  pub its : ItsTurn plan entry

pub last_behind : (plan : PlanData) (run turns : List Entry) (entry : Entry) → AreNewTools plan run (turns ++ entry ∷ []) → IsBehindTurn plan entry
unfolding IsFinish
last_behind plan run turns entry are =
    let taken : IsFinishTurn plan run (run ++ turns) entry = along_next (IsFinishTurn plan run) run turns entry [] are.finish in
    record { unlost = taken.side; its = of_stage plan (run ++ turns) entry (stage_behind plan run (drop (length run) (run ++ turns))) taken.given }
