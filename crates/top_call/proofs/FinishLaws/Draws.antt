-- A new tool draws no number, so that each number of the whole journal is drawn in the run.
use Rattle.std.proofs.Common.{◌≡◌, ◌⊎◌, ℕ, true, false, List, [], ◌∷◌, ◌++◌, Option, Some, None, sym, ap, ◌∙◌, subst, inl, inr, append_assoc, append-nil}
use Rattle.std.proofs.lemmas.Bool.{true≢false}
use Rattle.std.proofs.Math.Seq.{drop-append_seam}
use Rattle.base_script.specs.declared.actor.Actor.TheVariants.{Insp, Copy, Apply, Ren}
use Rattle.server_model.specs.Along.{Along, Along-append}
use Rattle.server_model.specs.declared.entry.Asked.{Asked}
use Rattle.server_model.specs.declared.entry.Asked.TheVariants.{Call, Poll, Command, Cut}
use Rattle.server_model.specs.declared.entry.Entry.{Entry}
use Rattle.server_model.specs.declared.request.Request.{Request}
use Rattle.server_model.specs.declared.request.Request.TheVariants as requests
use Rattle.server_model.specs.Entries.{is_client, is_cut}
use Rattle.server_model.specs.PlainServer.{asks_for}
use Rattle.plan_data.specs.PlanData.{PlanData}
use Rattle.tool_program.specs.ChunkCopier.Copiers as copiers
use Rattle.tool_program.specs.JournalWords.Draws.{Draws, IsDrawn}
use Rattle.tool_program.specs.JournalWords.Journals.{IsAnswered, IsFaithful, opens, state_at}
use Rattle.tool_finish.specs.declared.stage.Stage.{Stage}
use Rattle.tool_finish.specs.declared.stage.Stage.TheVariants.{Losing, Listing, Reading, Clearing, ReadingCounter, SettingCounter, Ranging, Copying, Applying, Exchanging, DroppingLog, DroppingOld, RollingBack, Done, Reverted}
use Rattle.tool_finish.specs.declared.stage.UnfitRow.{UnfitRow}
use Rattle.tool_finish.specs.declared.stage.UnfitRow.TheVariants.{Copied, Applied}
use Rattle.tool_finish.specs.Finishes.{IsFinish, IsFinishTurn, first_live, next, rolls_back, stage_behind}
use Rattle.tool_finish.specs.Finishes as finishes
use Rattle.proof_journals.specs.Run.Kept.{IsKept}
use Rattle.proof_resume.proofs.Finish.Prompt.{GoesAlone, alone_begins, alone_more, finish_turns, its_actor, lost_cut}
use Rattle.law_draws.proofs.OtherTables.{drawn_asks, drawn_by_client}

-- WHOSE TURN IT IS

-- a client's turn is a loss
module _ (plan : PlanData) (journal : List Entry) (entry : Entry) where
  abbrev IsToolsOrCut : Type 0
  IsToolsOrCut = (is_cut entry.asked ≡ true) ⊎ (is_client entry.actor ≡ false)

  copier_is_tools : (request : Option Request) → finishes.copies request ≡ Some (entry.actor, entry.asked) → IsToolsOrCut
  copier_is_tools None is = absurd (cc)
  copier_is_tools (Some request) is = inr (ap is_client (its_actor entry Copy request is))

  back_is_tools : (row : UnfitRow) → finishes.calls (rolls_back row) requests.Rollback ≡ Some (entry.actor, entry.asked) → IsToolsOrCut
  back_is_tools (Copied copier refusal) is = inr (ap is_client (its_actor entry Copy requests.Rollback is))
  back_is_tools (Applied applier refusal) is = inr (ap is_client (its_actor entry Apply requests.Rollback is))

  is_tools_or_cut : (stage : Stage) → next plan journal stage ≡ Some (entry.actor, entry.asked) → IsToolsOrCut
  unfolding next
  is_tools_or_cut Losing is = inl (lost_cut entry (first_live plan journal) is)
  is_tools_or_cut Listing is = inr (ap is_client (its_actor entry Insp _ is))
  is_tools_or_cut (Reading seen) is = inr (ap is_client (its_actor entry Insp _ is))
  is_tools_or_cut (Clearing found) is = inr (ap is_client (its_actor entry Insp _ is))
  is_tools_or_cut (ReadingCounter found) is = inr (ap is_client (its_actor entry Insp _ is))
  is_tools_or_cut (SettingCounter found number) is = inr (ap is_client (its_actor entry Insp _ is))
  is_tools_or_cut (Ranging found) is = inr (ap is_client (its_actor entry Insp _ is))
  is_tools_or_cut (Copying copier applier) is = copier_is_tools (copiers.next journal copier) is
  is_tools_or_cut (Applying applier) is = inr (ap is_client (its_actor entry Apply _ is))
  is_tools_or_cut Exchanging is = inr (ap is_client (its_actor entry Ren _ is))
  is_tools_or_cut (DroppingLog old) is = inr (ap is_client (its_actor entry Insp _ is))
  is_tools_or_cut DroppingOld is = inr (ap is_client (its_actor entry Insp _ is))
  is_tools_or_cut (RollingBack row) is = back_is_tools row is
  is_tools_or_cut Done is = absurd (cc)
  is_tools_or_cut (Reverted row) is = absurd (cc)

  -- a loss asks nothing
  cut_asks : (asked : Asked) (request : Request) → is_cut asked ≡ true → asks_for (opens entry (state_at plan journal)) entry.session asked ≡ Some request → ⊥
  cut_asks Cut request cut asks = cc
  cut_asks (Call other) request cut asks = true≢false (sym cut)
  cut_asks Poll request cut asks = true≢false (sym cut)
  cut_asks (Command word) request cut asks = true≢false (sym cut)

-- ALONG THE TURNS

abbrev Turn : PlanData → List Entry → List Entry → Entry → Type 0
Turn plan run before entry = IsFinishTurn plan run before entry × IsAnswered (state_at plan before) entry

-- no number is drawn in this turn
none_drawn : (plan : PlanData) (run turns : List Entry) (entry : Entry) → Turn plan run (run ++ turns) entry → GoesAlone plan run turns → (number : ℕ) → entry.draw ≡ Some number → ⊥
none_drawn plan run turns entry turn goes number drew =
    by (is_tools_or_cut plan (run ++ turns) entry (stage_behind plan run turns) (ap (λ (some : List Entry). next plan (run ++ turns) (stage_behind plan run some)) (sym (drop-append_seam run turns)) ∙ turn.0.given)) where
      by : IsToolsOrCut plan (run ++ turns) entry → ⊥
      by (inl cut) = let drawn = drawn_asks (state_at plan (run ++ turns)) entry number turn.1 drew in cut_asks plan (run ++ turns) entry entry.asked (requests.Do drawn.0) cut drawn.1
      by (inr tools) =
          true≢false (sym (drawn_by_client (run ++ turns) (state_at plan (run ++ turns)) entry number goes.owners.both.living goes.owners.both.known (record { session = turn.0.session }) turn.1 drew) ∙ tools)

abbrev DrawsSo : PlanData → List Entry → Entry → Type 0
DrawsSo plan before entry = (number : ℕ) → entry.draw ≡ Some number → IsDrawn plan before entry number

none_along : (plan : PlanData) (run turns rest : List Entry) → Along (Turn plan run) (run ++ turns) rest → GoesAlone plan run turns → Along (DrawsSo plan) (run ++ turns) rest
none_along plan run turns [] kept goes = tt
none_along plan run turns (entry ∷ rest) kept goes = (
  λ number drew. absurd (none_drawn plan run turns entry kept.0 goes number drew),
  subst (λ (all : List Entry). Along (DrawsSo plan) all rest) (sym (append_assoc run turns (entry ∷ [])))
      (none_along plan run (turns ++ entry ∷ []) rest (subst (λ (all : List Entry). Along (Turn plan run) all rest) (append_assoc run turns (entry ∷ [])) kept.1) (alone_more plan run turns entry kept.0.0 kept.0.1 goes).goes),
)

-- *What is drawn behind a run* was drawn in it
pub finish_draws : (plan : PlanData) (run turns : List Entry) → IsKept plan run → IsFinish plan run turns → IsFaithful plan (run ++ turns) → Draws plan run → Draws plan (run ++ turns)
finish_draws plan run turns kept finish faithful draws =
    Along-append (DrawsSo plan) [] run turns draws
    (subst (λ (all : List Entry). Along (DrawsSo plan) all turns) (append-nil run)
    (none_along plan run [] turns (subst (λ (all : List Entry). Along (Turn plan run) all turns) (sym (append-nil run)) (finish_turns plan run turns finish faithful)) (alone_begins plan run kept)))
