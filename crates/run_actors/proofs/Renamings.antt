-- Who waits with the RENAME after one turn more.
use Rattle.std.proofs.Common.{◌≡◌, Bool, true, false, cond, List, [], ◌∷◌, ◌++◌, refl, sym, ◌∙◌, ap, true≢false}
use Rattle.base_script.specs.declared.actor.Actor.{Actor}
use Rattle.base_script.specs.declared.actor.Actor.TheVariants.{Client}
use Rattle.server_model.specs.declared.entry.Entry.{Entry}
use Rattle.server_model.specs.Entries.{is_client, same_actor}
use Rattle.plan_data.specs.PlanData.{PlanData}
use Rattle.tool_program.specs.JournalWords.Histories.{renames_away, request_waiting, waits_after}
use Rattle.run_actors.specs.declared.renaming.Renaming.{Renaming}
use Rattle.run_actors.specs.ActorStates.{renames_after}
use Rattle.run_actors.specs.Renamings.{AreRenaming, nobody_renames, renames_at, renaming_after, with_renaming}
use Rattle.run_actors.proofs.More.{renames_so, waits_more}
use Rattle.run_actors.proofs.SameActors.{same_is}

set_at : (actor other : Actor) (now : Bool) (renaming : Renaming) → is_client other ≡ false → renames_at (with_renaming actor now renaming) other ≡ cond (same_actor actor other) now (renames_at renaming other)
set_at (Client client) (Client number) now renaming tool = absurd (true≢false tool)
set_at (Client client) other now renaming tool = refl
set_at actor (Client number) now renaming tool = absurd (true≢false tool)
set_at actor other now renaming tool = refl

waits_own : (before : List Entry) (entry : Entry) (actor : Actor) → same_actor entry.actor actor ≡ true → request_waiting (before ++ entry ∷ []) actor ≡ waits_after entry.asked entry.answer (request_waiting before actor)
waits_own before entry actor same = waits_more before entry actor ∙ rw same refl

waits_other : (before : List Entry) (entry : Entry) (actor : Actor) → same_actor entry.actor actor ≡ false → request_waiting (before ++ entry ∷ []) actor ≡ request_waiting before actor
waits_other before entry actor same = waits_more before entry actor ∙ rw same refl

-- who waits with it after one turn more
pub renaming_more : (plan : PlanData) (before : List Entry) (entry : Entry) (renaming : Renaming) → AreRenaming plan before renaming → AreRenaming plan (before ++ entry ∷ []) (renaming_after plan.table entry renaming)
renaming_more plan before entry renaming are = λ actor tool. go actor tool (same_actor entry.actor actor) refl
  where
    go : (actor : Actor) → is_client actor ≡ false → (b : Bool) → same_actor entry.actor actor ≡ b → renames_at (renaming_after plan.table entry renaming) actor ≡ renames_away plan.table (request_waiting (before ++ entry ∷ []) actor)
    go actor tool true same =
        let own : entry.actor ≡ actor = same_is entry.actor actor same in
        let old : renames_at renaming entry.actor ≡ renames_away plan.table (request_waiting before actor) = ap (renames_at renaming) own ∙ are actor tool in
        set_at entry.actor actor (renames_after plan.table entry.asked entry.answer (renames_at renaming entry.actor)) renaming tool
        ∙ rw same (ap (renames_after plan.table entry.asked entry.answer) old)
        ∙ renames_so plan.table entry.asked entry.answer (request_waiting before actor)
        ∙ sym (ap (renames_away plan.table) (waits_own before entry actor same))
    go actor tool false same =
        set_at entry.actor actor (renames_after plan.table entry.asked entry.answer (renames_at renaming entry.actor)) renaming tool
        ∙ rw same (are actor tool)
        ∙ sym (ap (renames_away plan.table) (waits_other before entry actor same))

-- before the first turn nobody does
pub renaming_begins : (plan : PlanData) → AreRenaming plan [] nobody_renames
unfolding request_waiting
renaming_begins plan = go
  where
    go : (actor : Actor) → is_client actor ≡ false → renames_at nobody_renames actor ≡ renames_away plan.table (request_waiting [] actor)
    go (Client number) tool = absurd (true≢false tool)
    go actor tool = refl
