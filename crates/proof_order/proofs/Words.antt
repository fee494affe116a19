-- What the journal tells of the cut-over, and what one turn more changes of it.
use Rattle.std.proofs.Common.{◌≡◌, ℕ, Bool, false, List, [], ◌∷◌, ◌++◌, Option, None, refl}
use Rattle.std.proofs.lemmas.List.Sums.{fold-append}
use Rattle.base_script.specs.declared.actor.Actor.{Actor}
use Rattle.base_script.specs.declared.actor.Actor.TheVariants.{Lock, Ren}
use Rattle.server_model.specs.declared.answer.Answer.{Answer}
use Rattle.server_model.specs.declared.entry.Asked.{Asked}
use Rattle.server_model.specs.declared.entry.Entry.{Entry}
use Rattle.server_model.specs.declared.listing.TableName.{TableName}
use Rattle.server_model.specs.declared.request.Request.{Request}
use Rattle.plan_data.specs.PlanData.{PlanData}
use Rattle.proof_order.specs.CutOverOrder.{call_after, last_call, answer_after, last_answer, begun_after, attempts_begun, Shown, shown_after, rename_shown, renamed_after, is_renamed, listed_after, tables_listed, renaming_after, is_renaming, Hints, hints_after, hints_applied}
use Rattle.proof_order.proofs.Counters.{call_more}

-- all that the journal tells
pub record Words : Type 0 where
  pub call : Option Request
  pub answer : Option Answer
  pub renamer : Option Answer
  pub begun : ℕ
  pub shown : Shown
  pub renamed : Bool
  pub listed : List TableName
  pub renaming : Bool
  pub hints : Hints

abbrev pub words : PlanData → List Entry → Words
words plan journal = record {
  call = last_call Lock journal;
  answer = last_answer Lock journal;
  renamer = last_answer Ren journal;
  begun = attempts_begun journal;
  shown = rename_shown journal;
  renamed = is_renamed journal;
  listed = tables_listed journal;
  renaming = is_renaming plan journal;
  hints = hints_applied plan journal;
}

-- behind a turn of this actor's
abbrev pub words_after : PlanData → Actor → ℕ → Asked → Answer → Words → Words
words_after plan actor session asked answer so_far = record {
  call = call_after Lock actor asked so_far.call;
  answer = answer_after Lock actor answer so_far.answer;
  renamer = answer_after Ren actor answer so_far.renamer;
  begun = begun_after actor asked so_far.begun;
  shown = shown_after actor session asked answer so_far.shown;
  renamed = renamed_after actor answer so_far.renamed;
  listed = listed_after actor answer so_far.listed;
  renaming = renaming_after plan actor asked answer so_far.renaming;
  hints = hints_after plan actor asked answer so_far.hints;
}

answer_more : (actor : Actor) (journal : List Entry) (entry : Entry) → last_answer actor (journal ++ entry ∷ []) ≡ answer_after actor entry.actor entry.answer (last_answer actor journal)
unfolding last_answer
answer_more actor journal entry = fold-append (λ last entry. answer_after actor entry.actor entry.answer last) None journal (entry ∷ [])

begun_more : (journal : List Entry) (entry : Entry) → attempts_begun (journal ++ entry ∷ []) ≡ begun_after entry.actor entry.asked (attempts_begun journal)
unfolding attempts_begun
begun_more journal entry = fold-append (λ count entry. begun_after entry.actor entry.asked count) 0 journal (entry ∷ [])

shown_more : (journal : List Entry) (entry : Entry) → rename_shown (journal ++ entry ∷ []) ≡ shown_after entry.actor entry.session entry.asked entry.answer (rename_shown journal)
unfolding rename_shown
shown_more journal entry = fold-append (λ shown entry. shown_after entry.actor entry.session entry.asked entry.answer shown) _ journal (entry ∷ [])

renamed_more : (journal : List Entry) (entry : Entry) → is_renamed (journal ++ entry ∷ []) ≡ renamed_after entry.actor entry.answer (is_renamed journal)
unfolding is_renamed
renamed_more journal entry = fold-append (λ renamed entry. renamed_after entry.actor entry.answer renamed) _ journal (entry ∷ [])

listed_more : (journal : List Entry) (entry : Entry) → tables_listed (journal ++ entry ∷ []) ≡ listed_after entry.actor entry.answer (tables_listed journal)
unfolding tables_listed
listed_more journal entry = fold-append (λ listed entry. listed_after entry.actor entry.answer listed) _ journal (entry ∷ [])

renaming_more : (plan : PlanData) (journal : List Entry) (entry : Entry) → is_renaming plan (journal ++ entry ∷ []) ≡ renaming_after plan entry.actor entry.asked entry.answer (is_renaming plan journal)
unfolding is_renaming
renaming_more plan journal entry = fold-append (λ renaming entry. renaming_after plan entry.actor entry.asked entry.answer renaming) _ journal (entry ∷ [])

hints_more : (plan : PlanData) (journal : List Entry) (entry : Entry) → hints_applied plan (journal ++ entry ∷ []) ≡ hints_after plan entry.actor entry.asked entry.answer (hints_applied plan journal)
unfolding hints_applied
hints_more plan journal entry = fold-append (λ hints entry. hints_after plan entry.actor entry.asked entry.answer hints) _ journal (entry ∷ [])

-- *One turn more*
pub words_more : (plan : PlanData) (journal : List Entry) (entry : Entry) → words plan (journal ++ entry ∷ []) ≡ words_after plan entry.actor entry.session entry.asked entry.answer (words plan journal)
words_more plan journal entry = λ i. record {
  call = call_more Lock journal entry i;
  answer = answer_more Lock journal entry i;
  renamer = answer_more Ren journal entry i;
  begun = begun_more journal entry i;
  shown = shown_more journal entry i;
  renamed = renamed_more journal entry i;
  listed = listed_more journal entry i;
  renaming = renaming_more plan journal entry i;
  hints = hints_more plan journal entry i;
}

-- *Nothing is reported at the start*
pub words_begin : (plan : PlanData) → words plan [] ≡ record { call = None; answer = None; renamer = None; begun = 0; shown = record { session = 0; shown = false }; renamed = false; listed = []; renaming = false; hints = record { passed = []; last = 0; read = 0 } }
unfolding last_call last_answer attempts_begun rename_shown is_renamed tables_listed is_renaming hints_applied
words_begin plan = refl
