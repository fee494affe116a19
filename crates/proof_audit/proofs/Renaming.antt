-- Where an actor waits, its last call is what it waits with: so the lines tell whether that is a RENAME.
use Rattle.std.proofs.Common.{◌≡◌, Bool, true, false, cond, List, [], ◌∷◌, ◌++◌, Option, Some, refl, sym, ap, ◌∙◌}
use Rattle.std.proofs.lemmas.List.{map-append}
use Rattle.std.proofs.lemmas.List.Sums.{fold-append}
use Rattle.base_values.proofs.SchemaRules.Steps.{some_is}
use Rattle.base_script.specs.declared.actor.Actor.{Actor}
use Rattle.server_model.specs.declared.request.Request.{Request}
use Rattle.server_model.specs.declared.request.Request.TheVariants as requests
use Rattle.server_model.specs.declared.answer.Answer.{Answer}
use Rattle.server_model.specs.declared.answer.Answer.TheVariants as answers
use Rattle.server_model.specs.declared.entry.Asked.{Asked}
use Rattle.server_model.specs.declared.entry.Asked.TheVariants.{Call, Poll, Command, Cut}
use Rattle.server_model.specs.declared.entry.Entry.{Entry}
use Rattle.server_model.specs.Along.{Along, Along-keeps}
use Rattle.server_model.specs.Entries.{same_actor}
use Rattle.tool_program.specs.JournalWords.Histories.{request_waiting, waits_after}
use Rattle.run_actors.proofs.More.{waits_more}
use Rattle.run_audit.specs.declared.line.TraceLine.{TraceLine}
use Rattle.run_audit.specs.Lines.{asked_of, line_of, lines_of}
use Rattle.run_audit.specs.Rules.{has_renamed, renames_by, renames_step}

abbrev pub is_rename_request : Request → Bool
is_rename_request (requests.Rename pairs) = true
is_rename_request request = false

call_renames : (old : Bool) (request : Request) → renames_by old (asked_of (Call request)) ≡ is_rename_request request
call_renames old (requests.Rename pairs) = refl
call_renames old request = refl

after_renames : (old : Option Request) (renamed : Bool) (asked : Asked) (answer : Answer) (request : Request) → ((one : Request) → old ≡ Some one → renamed ≡ is_rename_request one) → waits_after asked answer old ≡ Some request → renames_by renamed (asked_of asked) ≡ is_rename_request request
after_renames old renamed (Call called) (answers.Waits by) request same is = call_renames renamed called ∙ ap is_rename_request (some_is called request is)
after_renames old renamed (Call called) answer request same is = absurd cc
after_renames old renamed Poll (answers.Waits by) request same is = same request is
after_renames old renamed Poll answer request same is = absurd cc
after_renames old renamed (Command word) answer request same is = absurd cc
after_renames old renamed Cut answer request same is = absurd cc

here_renames : (b : Bool) (old : Option Request) (renamed : Bool) (asked : Asked) (answer : Answer) (request : Request) → ((one : Request) → old ≡ Some one → renamed ≡ is_rename_request one) → cond b (waits_after asked answer old) old ≡ Some request
    → cond b (renames_by renamed (asked_of asked)) renamed ≡ is_rename_request request
here_renames true old renamed asked answer request same is = after_renames old renamed asked answer request same is
here_renames false old renamed asked answer request same is = same request is

renamed_more : (lines : List TraceLine) (line : TraceLine) (actor : Actor) → has_renamed (lines ++ line ∷ []) actor ≡ renames_step actor (has_renamed lines actor) line
unfolding has_renamed
renamed_more lines line actor = fold-append (renames_step actor) false lines (line ∷ [])

abbrev pub LinesTellWaiting : List Entry → Type 0
LinesTellWaiting journal = (actor : Actor) (request : Request) → request_waiting journal actor ≡ Some request → has_renamed (lines_of journal) actor ≡ is_rename_request request

waits_step : (journal : List Entry) (entry : Entry) → LinesTellWaiting journal → LinesTellWaiting (journal ++ entry ∷ [])
waits_step journal entry known actor request is =
    ap (λ (lines : List TraceLine). has_renamed lines actor) (map-append line_of journal (entry ∷ []))
    ∙ renamed_more (lines_of journal) (line_of entry) actor
    ∙ here_renames (same_actor entry.actor actor) (request_waiting journal actor) (has_renamed (lines_of journal) actor) entry.asked entry.answer request (known actor) (sym (waits_more journal entry actor) ∙ is)

any_journal : (before journal : List Entry) → Along (λ some entry. Unit {0}) before journal
any_journal before [] = tt
any_journal before (entry ∷ journal) = (tt, any_journal (before ++ entry ∷ []) journal)

-- *The lines tell of a RENAME that waits*
pub lines_tell_waiting : (journal : List Entry) → LinesTellWaiting journal
unfolding request_waiting
lines_tell_waiting journal = Along-keeps (λ some entry. Unit {0}) LinesTellWaiting (λ some entry any known. waits_step some entry known) [] journal (any_journal [] journal) (λ actor request is. absurd cc)
