-- The history behind one turn more.
use Rattle.std.proofs.Common.{◌≡◌, ℕ, ◌+◌, ◌<◌, List, [], ◌∷◌, ◌++◌, map, length, take, get_or, Option, refl, sym, ap, ap₂, ◌∙◌, subst}
use Rattle.std.proofs.lemmas.List.{map-append}
use Rattle.std.specs.Prelude.{option_to_list}
use Rattle.server_model.specs.declared.entry.Entry.{Entry}
use Rattle.plan_data.specs.PlanData.{PlanData}
use Rattle.tool_program.specs.JournalWords.Clients.{Reached}
use Rattle.tool_program.specs.JournalWords.Histories.{HistoryItem, entry_adds, history}
use Rattle.run_actors.specs.declared.renaming.Renaming.{Renaming}
use Rattle.run_actors.specs.Renamings.{AreRenaming, renaming_after}
use Rattle.run_actors.proofs.Renamings.{renaming_more}
use Rattle.top_report.proofs.ClientLines.Ending.{history_more, turns_more}
use Rattle.test_histories.specs.declared.journal_pasts.pasts.PastItem.{PastItem}
use Rattle.test_histories.specs.JournalPasts.Walks.{AreReached, item_as}

-- the items that were found, with those that the turn adds
pub items_more : (plan : PlanData) (before : List Entry) (entry : Entry) (items added : List PastItem) → map item_as items ≡ history plan before → map item_as added ≡ entry_adds plan before entry → map item_as (items ++ added) ≡ history plan (before ++ entry ∷ [])
items_more plan before entry items added so_far more =
    map-append item_as items added
    ∙ ap₂ (λ (front back : List HistoryItem). front ++ back) so_far more
    ∙ sym (history_more plan before entry)

-- no turn, no history
pub history_begins : (plan : PlanData) → [] ≡ history plan []
unfolding history
history_begins plan = refl

-- what was found of the turns so far is what they say
pub record SoFar (plan : PlanData) (before : List Entry) (items : List PastItem) (clients : List Reached) (renaming : Renaming) : Type 0 where
  pub items_are : map item_as items ≡ history plan before
  pub clients_are : AreReached plan before clients
  pub renaming_are : AreRenaming plan before renaming

more : (plan : PlanData) (before : List Entry) (entry : Entry) (items all : List PastItem) (item : Option PastItem) (old new : List Reached) (renaming after : Renaming)
    → all ≡ items ++ option_to_list item → map item_as (option_to_list item) ≡ entry_adds plan before entry → AreReached plan (before ++ entry ∷ []) new → after ≡ renaming_after plan.table entry renaming
    → SoFar plan before items old renaming → SoFar plan (before ++ entry ∷ []) all new after
more plan before entry items all item old new renaming after written added moved passed is = record {
  items_are = ap (map item_as) written ∙ items_more plan before entry items (option_to_list item) is.items_are added;
  clients_are = moved;
  renaming_are = subst (AreRenaming plan (before ++ entry ∷ [])) (sym passed) (renaming_more plan before entry renaming is.renaming_are);
}

-- the same for the turn at this place
pub next : (plan : PlanData) (journal : List Entry) (place : ℕ) (entry : Entry) (items all : List PastItem) (item : Option PastItem) (old new : List Reached) (renaming after : Renaming)
    → place < length journal → entry ≡ get_or journal place entry → all ≡ items ++ option_to_list item → ((before : List Entry) → AreReached plan before old → AreRenaming plan before renaming → map item_as (option_to_list item) ≡ entry_adds plan before entry)
    → ((before : List Entry) → AreReached plan before old → AreReached plan (before ++ entry ∷ []) new) → after ≡ renaming_after plan.table entry renaming
    → SoFar plan (take place journal) items old renaming → SoFar plan (take (place + 1) journal) all new after
next plan journal place entry items all item old new renaming after within at written added moved passed is =
    let before = take place journal in
    subst (λ (turns : List Entry). SoFar plan turns all new after) (sym (turns_more journal place entry within at))
    (more plan before entry items all item old new renaming after written (added before is.clients_are is.renaming_are) (moved before is.clients_are) passed is)
