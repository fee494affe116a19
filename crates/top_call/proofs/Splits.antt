-- The mark of a journal: the turns up to it, and those after it.
use Rattle.std.proofs.Common.{◌≡◌, Bool, true, false, ◌||◌, cond, List, [], ◌∷◌, ◌++◌, refl, sym, ap, ◌∙◌, append_assoc, append-nil}
use Rattle.std.specs.List.{list_any}
use Rattle.std.proofs.lemmas.List.Folds.{list_any-append}
use Rattle.server_model.specs.Along.{gathered}
use Rattle.server_model.specs.declared.entry.Entry.{Entry}
use Rattle.server_model.proofs.LockedRows.Tests.{nor_left, nor_right}
use Rattle.plan_data.specs.PlanData.{PlanData}
use Rattle.tool_program.specs.JournalWords.Histories.{entry_adds, history, is_alter}
use Rattle.proof_journals.proofs.Machine.Marks.{history_more}
use Rattle.proof_migration.specs.ToolPhase.Unaltered.{IsUnaltered}
use Rattle.run_replay.specs.WholeReplay.Marks.{turns_to_mark}

-- the turns up to the mark, and those after it; whatever turns follow, the mark stays where it is
pub record Splits (plan : PlanData) (before journal : List Entry) : Type 0 where
  pub front : List Entry
  pub entry : Entry
  pub following : List Entry
  pub whole : journal ≡ front ++ entry ∷ following
  pub mark : (more : List Entry) → turns_to_mark plan before (journal ++ more) ≡ (before ++ front) ++ entry ∷ []
  pub unaltered : IsUnaltered plan (before ++ front)
  pub alters : list_any is_alter (entry_adds plan (before ++ front) entry) ≡ true

pub splits : (plan : PlanData) (before journal : List Entry) → IsUnaltered plan before → list_any is_alter (gathered (entry_adds plan) before journal) ≡ true → Splits plan before journal
unfolding turns_to_mark
splits plan before [] none some = absurd cc
splits plan before (entry ∷ journal) none some = by (list_any is_alter (entry_adds plan before entry)) refl (splits plan (before ++ entry ∷ []) journal) where
  either : (list_any is_alter (entry_adds plan before entry) || list_any is_alter (gathered (entry_adds plan) (before ++ entry ∷ []) journal)) ≡ true
  either = sym (list_any-append is_alter (entry_adds plan before entry) (gathered (entry_adds plan) (before ++ entry ∷ []) journal)) ∙ some

  if_later : (b : Bool) → b ≡ false → (b || list_any is_alter (gathered (entry_adds plan) (before ++ entry ∷ []) journal)) ≡ true → list_any is_alter (gathered (entry_adds plan) (before ++ entry ∷ []) journal) ≡ true
  if_later true off is = absurd cc
  if_later false off is = is

  grown : list_any is_alter (entry_adds plan before entry) ≡ false → IsUnaltered plan (before ++ entry ∷ [])
  grown off = history_more plan before entry ∙ ap (λ (b : Bool). b || list_any is_alter (entry_adds plan before entry)) none ∙ off

  same : before ++ [] ≡ before
  same = append-nil before

  by : (b : Bool) → list_any is_alter (entry_adds plan before entry) ≡ b → (IsUnaltered plan (before ++ entry ∷ []) → list_any is_alter (gathered (entry_adds plan) (before ++ entry ∷ []) journal) ≡ true → Splits plan (before ++ entry ∷ []) journal) → Splits plan before (entry ∷ journal)
  by true is after = record {
    front = [];
    entry = entry;
    following = journal;
    whole = refl;
    mark = λ more. ap (λ (b : Bool). cond b (before ++ entry ∷ []) (turns_to_mark plan (before ++ entry ∷ []) (journal ++ more))) is ∙ ap (λ (l : List Entry). l ++ entry ∷ []) (sym same);
    unaltered = ap (λ (l : List Entry). list_any is_alter (history plan l)) same ∙ none;
    alters = ap (λ (l : List Entry). list_any is_alter (entry_adds plan l entry)) same ∙ is;
  }
  by false is after =
      let rest = after (grown is) (if_later (list_any is_alter (entry_adds plan before entry)) is either) in
      let all : (before ++ entry ∷ []) ++ rest.front ≡ before ++ entry ∷ rest.front = append_assoc before (entry ∷ []) rest.front in
      record {
        front = entry ∷ rest.front;
        entry = rest.entry;
        following = rest.following;
        whole = ap (λ (l : List Entry). entry ∷ l) rest.whole;
        mark = λ more. ap (λ (b : Bool). cond b (before ++ entry ∷ []) (turns_to_mark plan (before ++ entry ∷ []) (journal ++ more))) is ∙ rest.mark more ∙ ap (λ (l : List Entry). l ++ rest.entry ∷ []) all;
        unaltered = ap (λ (l : List Entry). list_any is_alter (history plan l)) (sym all) ∙ rest.unaltered;
        alters = ap (λ (l : List Entry). list_any is_alter (entry_adds plan l rest.entry)) (sym all) ∙ rest.alters;
      }

pub splits_at : (plan : PlanData) (journal : List Entry) → list_any is_alter (history plan journal) ≡ true → Splits plan [] journal
unfolding history
splits_at plan journal some = splits plan [] journal refl some

-- BEHIND TURNS WITHOUT IT

gathered_both : (plan : PlanData) (before front back : List Entry) → gathered (entry_adds plan) before (front ++ back) ≡ gathered (entry_adds plan) before front ++ gathered (entry_adds plan) (before ++ front) back
gathered_both plan before [] back = ap (λ (l : List Entry). gathered (entry_adds plan) l back) (sym (append-nil before))
gathered_both plan before (entry ∷ front) back =
    ap (λ all. entry_adds plan before entry ++ all) (gathered_both plan (before ++ entry ∷ []) front back)
    ∙ sym (append_assoc (entry_adds plan before entry) (gathered (entry_adds plan) (before ++ entry ∷ []) front) (gathered (entry_adds plan) ((before ++ entry ∷ []) ++ front) back))
    ∙ ap (λ (l : List Entry). (entry_adds plan before entry ++ gathered (entry_adds plan) (before ++ entry ∷ []) front) ++ gathered (entry_adds plan) l back) (append_assoc before (entry ∷ []) front)

-- the RENAME is done by the turns behind
some_behind : (plan : PlanData) (run turns : List Entry) → IsUnaltered plan run → list_any is_alter (history plan (run ++ turns)) ≡ true → list_any is_alter (gathered (entry_adds plan) run turns) ≡ true
unfolding history
some_behind plan run turns none some =
    ap (λ (b : Bool). b || list_any is_alter (gathered (entry_adds plan) run turns)) (sym none) ∙ sym (list_any-append is_alter (gathered (entry_adds plan) [] run) (gathered (entry_adds plan) run turns))
    ∙ ap (list_any is_alter) (sym (gathered_both plan [] run turns)) ∙ some

-- the mark comes behind them
mark_behind : (plan : PlanData) (before run turns : List Entry) → list_any is_alter (gathered (entry_adds plan) before run) ≡ false → turns_to_mark plan before (run ++ turns) ≡ turns_to_mark plan (before ++ run) turns
unfolding turns_to_mark
mark_behind plan before [] turns none = ap (λ (l : List Entry). turns_to_mark plan l turns) (sym (append-nil before))
mark_behind plan before (entry ∷ run) turns none =
    ap (λ (b : Bool). cond b (before ++ entry ∷ []) (turns_to_mark plan (before ++ entry ∷ []) (run ++ turns))) (nor_left (list_any is_alter (entry_adds plan before entry)) later neither)
    ∙ mark_behind plan (before ++ entry ∷ []) run turns (nor_right (list_any is_alter (entry_adds plan before entry)) later neither) ∙ ap (λ (l : List Entry). turns_to_mark plan l turns) (append_assoc before (entry ∷ []) run) where
      later : Bool
      later = list_any is_alter (gathered (entry_adds plan) (before ++ entry ∷ []) run)

      neither : (list_any is_alter (entry_adds plan before entry) || list_any is_alter (gathered (entry_adds plan) (before ++ entry ∷ []) run)) ≡ false
      neither = sym (list_any-append is_alter (entry_adds plan before entry) (gathered (entry_adds plan) (before ++ entry ∷ []) run)) ∙ none

-- *Behind a run* in which the RENAME isn't done the turns are split at the mark
pub splits_behind : (plan : PlanData) (run turns : List Entry) → IsUnaltered plan run → list_any is_alter (history plan (run ++ turns)) ≡ true → Splits plan run turns
splits_behind plan run turns none some = splits plan run turns none (some_behind plan run turns none some)

pub mark_is : (plan : PlanData) (run turns : List Entry) (none : IsUnaltered plan run) (parts : Splits plan run turns) → turns_to_mark plan [] (run ++ turns) ≡ (run ++ parts.front) ++ parts.entry ∷ []
unfolding history
mark_is plan run turns none parts = mark_behind plan [] run turns none ∙ ap (turns_to_mark plan run) (sym (append-nil turns)) ∙ parts.mark []
