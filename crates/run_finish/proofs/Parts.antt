-- What the new tool asks, and the parts of a journal.
use Rattle.std.proofs.Common.{◌≡◌, List, [], ◌∷◌, ◌++◌, length, drop, Option, Some, None, refl, sym, ap, ◌∙◌, subst}
use Rattle.std.specs.List.{slice_get}
use Rattle.std.proofs.lemmas.Option.{same_Some}
use Rattle.base_script.specs.declared.actor.Actor.{Actor}
use Rattle.base_script.specs.declared.actor.Actor.TheVariants.{Insp, Copy, Apply, Ren}
use Rattle.server_model.specs.declared.entry.Asked.{Asked}
use Rattle.server_model.specs.declared.entry.Asked.TheVariants.{Call, Cut}
use Rattle.server_model.specs.declared.entry.Entry.{Entry}
use Rattle.server_model.specs.declared.request.Request.{Request}
use Rattle.plan_data.specs.PlanData.{PlanData}
use Rattle.tool_program.specs.Orders.{actors}
use Rattle.tool_program.specs.ChunkCopier.Copiers as copiers
use Rattle.tool_finish.specs.declared.stage.UnfitRow.{UnfitRow}
use Rattle.tool_finish.specs.declared.stage.UnfitRow.TheVariants.{Copied, Applied}
use Rattle.tool_finish.specs.declared.stage.Stage.{Stage}
use Rattle.tool_finish.specs.declared.stage.Stage.TheVariants.{Losing, Listing, Reading, Clearing, ReadingCounter, SettingCounter, Ranging, Copying, Applying, Exchanging, DroppingLog, DroppingOld, RollingBack, Done, Reverted}
use Rattle.tool_finish.specs.Finishes.{Asking, calls, copies, cuts, first_live, rolls_back, next}
use Rattle.run_finish.proofs.LiveOnes.{IsAmong}

-- WHAT IS ASKED

-- a session is lost, or an actor of the tool calls
pub data Asks (plan : PlanData) (journal : List Entry) (actor : Actor) (asked : Asked) : Type 0 where
  Cuts : asked ≡ Cut → first_live plan journal ≡ Some actor → Asks plan journal actor asked
  Calls : (request : Request) → asked ≡ Call request → IsAmong actor (actors plan) → Asks plan journal actor asked

module _ (plan : PlanData) (journal : List Entry) (actor : Actor) (asked : Asked) where
  cut_asks : (live : Option Actor) → first_live plan journal ≡ live → cuts live ≡ Some (actor, asked) → Asks plan journal actor asked
  cut_asks None none is = absurd (cc)
  cut_asks (Some first) some is =
      let same : (first, Cut) ≡ (actor, asked) = same_Some _ _ is in
      Cuts (sym (ap (λ (p : Asking). p.1) same)) (some ∙ ap (λ (p : Asking). Some p.0) same)

  call_asks : (one : Actor) (request : Request) → IsAmong one (actors plan) → calls one request ≡ Some (actor, asked) → Asks plan journal actor asked
  call_asks one request among is =
      let same : (one, Call request) ≡ (actor, asked) = same_Some _ _ is in
      Calls request (sym (ap (λ (p : Asking). p.1) same)) (subst (λ (a : Actor). IsAmong a (actors plan)) (ap (λ (p : Asking). p.0) same) among)

  insp_there : IsAmong Insp (actors plan)
  unfolding actors
  insp_there = refl

  copy_there : IsAmong Copy (actors plan)
  unfolding actors
  copy_there = refl

  apply_there : IsAmong Apply (actors plan)
  unfolding actors
  apply_there = refl

  ren_there : IsAmong Ren (actors plan)
  unfolding actors
  ren_there = refl

  copy_asks : (request : Option Request) → copies request ≡ Some (actor, asked) → Asks plan journal actor asked
  copy_asks None is = absurd (cc)
  copy_asks (Some request) is = call_asks Copy request copy_there is

  row_there : (row : UnfitRow) → IsAmong (rolls_back row) (actors plan)
  row_there (Copied copier refusal) = copy_there
  row_there (Applied applier refusal) = apply_there

  -- *What is asked*
  pub next_asks : (stage : Stage) → next plan journal stage ≡ Some (actor, asked) → Asks plan journal actor asked
  unfolding next
  next_asks Losing is = cut_asks (first_live plan journal) refl is
  next_asks Listing is = call_asks Insp _ insp_there is
  next_asks (Reading seen) is = call_asks Insp _ insp_there is
  next_asks (Clearing found) is = call_asks Insp _ insp_there is
  next_asks (ReadingCounter found) is = call_asks Insp _ insp_there is
  next_asks (SettingCounter found number) is = call_asks Insp _ insp_there is
  next_asks (Ranging found) is = call_asks Insp _ insp_there is
  next_asks (Copying copier applier) is = copy_asks (copiers.next journal copier) is
  next_asks (Applying applier) is = call_asks Apply _ apply_there is
  next_asks Exchanging is = call_asks Ren _ ren_there is
  next_asks (DroppingLog old) is = call_asks Insp _ insp_there is
  next_asks DroppingOld is = call_asks Insp _ insp_there is
  next_asks (RollingBack row) is = call_asks (rolls_back row) _ (row_there row) is
  next_asks Done is = absurd (cc)
  next_asks (Reverted row) is = absurd (cc)

-- THE PARTS

pub drop_run : {E : Type 0} (run turns : List E) → drop (length run) (run ++ turns) ≡ turns
drop_run [] turns = refl
drop_run (first ∷ run) turns = drop_run run turns

pub last_of : {E : Type 0} (before : List E) (last : E) → slice_get (before ++ last ∷ []) (length before) ≡ Some last
last_of [] last = refl
last_of (first ∷ before) last = last_of before last
