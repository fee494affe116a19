-- The mark of a journal, as its turns are taken.
use Rattle.std.proofs.Common.{◌≡◌, ℕ, Bool, true, false, ◌||◌, cond, List, [], ◌∷◌, ◌++◌, Option, Some, None, refl, sym, ap, ◌∙◌, append_assoc, append-nil}
use Rattle.std.specs.List.{list_any}
use Rattle.std.proofs.lemmas.List.Folds.{list_any-append}
use Rattle.server_model.specs.Along.{gathered}
use Rattle.server_model.specs.declared.entry.Entry.{Entry}
use Rattle.server_model.specs.States.{State, unread}
use Rattle.plan_data.specs.PlanData.{PlanData}
use Rattle.tool_program.specs.JournalWords.Histories.{entry_adds, history, is_alter}
use Rattle.tool_program.specs.JournalWords.Journals.{state_at}
use Rattle.proof_journals.proofs.Machine.Marks.{history_more}
use Rattle.run_turns.specs.Runs.{RunView, IsUnmoved}
use Rattle.run_replay.specs.declared.whole_replay.place.OrderPlace.{OrderPlace}
use Rattle.run_replay.specs.WholeReplay.Marks.{counted, logged_at_mark, turns_to_mark}
use Rattle.run_replay.specs.WholeReplay.Replays.{IsFresh, GoesOn}

module _ (plan : PlanData) where
  abbrev alters : List Entry → Entry → Bool
  alters before entry = list_any is_alter (entry_adds plan before entry)

  -- the RENAME is done in these turns, after those before them
  abbrev altered : List Entry → List Entry → Bool
  altered before journal = list_any is_alter (gathered (entry_adds plan) before journal)

  altered_first : (before : List Entry) (entry : Entry) (journal : List Entry) → altered before (entry ∷ journal) ≡ (alters before entry || altered (before ++ entry ∷ []) journal)
  altered_first before entry journal = list_any-append is_alter (entry_adds plan before entry) (gathered (entry_adds plan) (before ++ entry ∷ []) journal)

  -- where it isn't done, all turns come before the mark
  all_before : (before journal : List Entry) → altered before journal ≡ false → turns_to_mark plan before journal ≡ before ++ journal
  unfolding turns_to_mark
  all_before before [] none = sym (append-nil before)
  all_before before (entry ∷ journal) none = by (alters before entry) (sym (altered_first before entry journal) ∙ none) (all_before (before ++ entry ∷ []) journal) where
    by : (b : Bool) → (b || altered (before ++ entry ∷ []) journal) ≡ false → (altered (before ++ entry ∷ []) journal ≡ false → turns_to_mark plan (before ++ entry ∷ []) journal ≡ (before ++ entry ∷ []) ++ journal)
        → cond b (before ++ entry ∷ []) (turns_to_mark plan (before ++ entry ∷ []) journal) ≡ before ++ entry ∷ journal
    by true off later = absurd cc
    by false off later = later off ∙ append_assoc before (entry ∷ []) journal

  -- where it is done, further turns come after the mark
  mark_stays : (before journal more : List Entry) → altered before journal ≡ true → turns_to_mark plan before (journal ++ more) ≡ turns_to_mark plan before journal
  unfolding turns_to_mark
  mark_stays before [] more some = absurd cc
  mark_stays before (entry ∷ journal) more some = by (alters before entry) (sym (altered_first before entry journal) ∙ some) (mark_stays (before ++ entry ∷ []) journal more) where
    by : (b : Bool) → (b || altered (before ++ entry ∷ []) journal) ≡ true → (altered (before ++ entry ∷ []) journal ≡ true → turns_to_mark plan (before ++ entry ∷ []) (journal ++ more) ≡ turns_to_mark plan (before ++ entry ∷ []) journal)
        → cond b (before ++ entry ∷ []) (turns_to_mark plan (before ++ entry ∷ []) (journal ++ more)) ≡ cond b (before ++ entry ∷ []) (turns_to_mark plan (before ++ entry ∷ []) journal)
    by true on later = refl
    by false on later = later on

  -- the turn that does it is the last before the mark
  mark_comes : (before journal : List Entry) (entry : Entry) → altered before journal ≡ false → alters (before ++ journal) entry ≡ true → turns_to_mark plan before (journal ++ entry ∷ []) ≡ (before ++ journal) ++ entry ∷ []
  unfolding turns_to_mark
  mark_comes before [] entry none does = by (alters before entry) (ap (λ (all : List Entry). alters all entry) (sym (append-nil before)) ∙ does) ∙ ap (λ (all : List Entry). all ++ entry ∷ []) (sym (append-nil before)) where
    by : (b : Bool) → b ≡ true → cond b (before ++ entry ∷ []) (turns_to_mark plan (before ++ entry ∷ []) []) ≡ before ++ entry ∷ []
    by true on = refl
    by false on = absurd cc
  mark_comes before (first ∷ journal) entry none does = by (alters before first) (sym (altered_first before first journal) ∙ none) (mark_comes (before ++ first ∷ []) journal entry) where
    by : (b : Bool) → (b || altered (before ++ first ∷ []) journal) ≡ false
        → (altered (before ++ first ∷ []) journal ≡ false → alters ((before ++ first ∷ []) ++ journal) entry ≡ true → turns_to_mark plan (before ++ first ∷ []) (journal ++ entry ∷ []) ≡ ((before ++ first ∷ []) ++ journal) ++ entry ∷ [])
        → cond b (before ++ first ∷ []) (turns_to_mark plan (before ++ first ∷ []) (journal ++ entry ∷ [])) ≡ (before ++ first ∷ journal) ++ entry ∷ []
    by true off later = absurd cc
    by false off later = later off (ap (λ (all : List Entry). alters all entry) (append_assoc before (first ∷ []) journal) ∙ does) ∙ ap (λ (all : List Entry). all ++ entry ∷ []) (append_assoc before (first ∷ []) journal)

  -- OF A JOURNAL

  abbrev is_altered : List Entry → Bool
  is_altered journal = list_any is_alter (history plan journal)

  kept_mark : (journal : List Entry) (entry : Entry) → is_altered journal ≡ true → turns_to_mark plan [] (journal ++ entry ∷ []) ≡ turns_to_mark plan [] journal
  unfolding history
  kept_mark journal entry is = mark_stays [] journal (entry ∷ []) is

  new_mark : (journal : List Entry) (entry : Entry) → is_altered journal ≡ false → alters journal entry ≡ true → turns_to_mark plan [] (journal ++ entry ∷ []) ≡ journal ++ entry ∷ []
  unfolding history
  new_mark journal entry is does = mark_comes [] journal entry is does

  abbrev logged_in : List (List ℕ) → List Entry → Option ℕ
  logged_in tables turns = Some (unread (state_at plan turns) 0 tables)

  -- one turn more: what was counted stays, or is counted now
  pub counted_more : (tables : List (List ℕ)) (journal : List Entry) (entry : Entry) (server : State) → server ≡ state_at plan (journal ++ entry ∷ [])
      → counted plan (journal ++ entry ∷ []) server tables (logged_at_mark plan tables journal) ≡ logged_at_mark plan tables (journal ++ entry ∷ [])
  unfolding logged_at_mark
  counted_more tables journal entry server is = by (is_altered journal) (alters journal entry) refl refl where
    grown : (a b : Bool) → is_altered journal ≡ a → alters journal entry ≡ b → is_altered (journal ++ entry ∷ []) ≡ (a || b)
    grown a b was does = history_more plan journal entry ∙ ap (λ (one : Bool). one || alters journal entry) was ∙ ap (λ (one : Bool). a || one) does

    by : (a b : Bool) → is_altered journal ≡ a → alters journal entry ≡ b → counted plan (journal ++ entry ∷ []) server tables (cond (is_altered journal) (logged_in tables (turns_to_mark plan [] journal)) None) ≡ cond (is_altered (journal ++ entry ∷ [])) (logged_in tables (turns_to_mark plan [] (journal ++ entry ∷ []))) None
    by true b was does =
        ap (λ (one : Bool). counted plan (journal ++ entry ∷ []) server tables (cond one (logged_in tables (turns_to_mark plan [] journal)) None)) was
        ∙ ap (λ (turns : List Entry). logged_in tables turns) (sym (kept_mark journal entry was))
        ∙ ap (λ (one : Bool). cond one (logged_in tables (turns_to_mark plan [] (journal ++ entry ∷ []))) None) (sym (grown true b was does))
    by false true was does =
        ap (λ (one : Bool). counted plan (journal ++ entry ∷ []) server tables (cond one (logged_in tables (turns_to_mark plan [] journal)) None)) was
        ∙ ap (λ (one : Bool). cond one (Some (unread server 0 tables)) None) (grown false true was does)
        ∙ ap (λ (s : State). Some (unread s 0 tables)) is
        ∙ ap (λ (turns : List Entry). logged_in tables turns) (sym (new_mark journal entry was does))
        ∙ ap (λ (one : Bool). cond one (logged_in tables (turns_to_mark plan [] (journal ++ entry ∷ []))) None) (sym (grown false true was does))
    by false false was does =
        ap (λ (one : Bool). counted plan (journal ++ entry ∷ []) server tables (cond one (logged_in tables (turns_to_mark plan [] journal)) None)) was
        ∙ ap (λ (one : Bool). cond one (Some (unread server 0 tables)) None) (grown false false was does)
        ∙ ap (λ (one : Bool). cond one (logged_in tables (turns_to_mark plan [] (journal ++ entry ∷ []))) None) (sym (grown false false was does))

-- OF A RUN

-- nothing is counted before the first turn
none_counted : (plan : PlanData) (tables : List (List ℕ)) → None ≡ logged_at_mark plan tables []
unfolding logged_at_mark history
none_counted plan tables = refl

pub begins_uncounted : (run : RunView) (tables : List (List ℕ)) → IsFresh run → None ≡ logged_at_mark run.plan tables run.journal
begins_uncounted run tables fresh = none_counted run.plan tables ∙ ap (logged_at_mark run.plan tables) (sym fresh.journal)

-- a turn was taken
pub goes_on_counted : (before after : RunView) (place : OrderPlace) (tables : List (List ℕ)) (logged now : Option ℕ) → GoesOn before after place → logged ≡ logged_at_mark before.plan tables before.journal → now ≡ counted after.plan after.journal after.server tables logged → now ≡ logged_at_mark after.plan tables after.journal
goes_on_counted before after place tables logged now goes was is =
    let journal : after.journal ≡ before.journal ++ goes.entry ∷ [] = goes.journal in
    let server : after.server ≡ state_at before.plan (before.journal ++ goes.entry ∷ []) = goes.replaying.server ∙ ap (λ (p : PlanData). state_at p after.journal) goes.plan ∙ ap (state_at before.plan) journal in
    is ∙ ap (λ (p : PlanData). counted p after.journal after.server tables logged) goes.plan ∙ ap (λ (j : List Entry). counted before.plan j after.server tables logged) journal
    ∙ ap (counted before.plan (before.journal ++ goes.entry ∷ []) after.server tables) was
    ∙ counted_more before.plan tables before.journal goes.entry after.server server
    ∙ ap (logged_at_mark before.plan tables) (sym journal) ∙ ap (λ (p : PlanData). logged_at_mark p tables after.journal) (sym goes.plan)

-- none was
pub still_counted : (before after : RunView) (tables : List (List ℕ)) (logged : Option ℕ) → IsUnmoved before after → logged ≡ logged_at_mark before.plan tables before.journal → logged ≡ logged_at_mark after.plan tables after.journal
still_counted before after tables logged still was = was ∙ ap (λ (p : PlanData). logged_at_mark p tables before.journal) (sym still.plan) ∙ ap (logged_at_mark after.plan tables) (sym still.journal)
