-- CREATE, DROP and RENAME that are done leave the tables that they make.
use Rattle.server_model.specs.Drawing.{filled}
use Rattle.server_model.proofs.Filling.{filled_case}
use Rattle.server_model.specs.States.{is_of_tool}
use Rattle.std.proofs.Common.{◌≡◌, ℕ, Bool, true, false, not, Option, Some, None, Result, Ok, Err, refl, sym, ap, ◌∙◌}
use Rattle.base_values.specs.declared.mysql_errors.TheConstants.{ER_TABLE_NOT_LOCKED}
use Rattle.table_store.specs.Databases.{Database, has_table, rename_tables}
use Rattle.base_script.specs.declared.actor.Side.{Side}
use Rattle.base_script.specs.declared.actor.Side.TheVariants.{Before, After}
use Rattle.proof_journals.specs.Scenes.{Stored}
use Rattle.server_model.specs.declared.answer.Answer.{Answer}
use Rattle.server_model.specs.declared.answer.Answer.TheVariants as answers
use Rattle.proof_journals.specs.Turns.{scene_state, inner, answer_at, missed_at, reported_at, request_of, about}
use Rattle.server_model.specs.declared.entry.Asked.{Asked}
use Rattle.server_model.specs.declared.entry.Asked.TheVariants.{Call, Poll, Cut, Command}
use Rattle.server_model.specs.Entries.{is_command, is_client}
use Rattle.proof_journals.specs.ServerTurns.Others.{definition, DefinitionsAreDone}
use Rattle.proof_journals.proofs.ServerTurns.Alone.{reported_inner}
use Rattle.proof_journals.proofs.Journals.{state_more, stored_opened}
use Rattle.server_model.specs.declared.request.Request.TheVariants.{BeginSpan, ChunkEnd, CopyRow, Create, Drop, Ends, LockTables, LogEnd, ReadLog, Rename, SetCounter, ShowCounter, ShowTables, ShowWaiting, Unlock}
use Rattle.server_model.specs.declared.request.Request.{Request}
use Rattle.server_model.specs.Answers.{refuses, ok}
use Rattle.server_model.specs.declared.request.Request.TheVariants as requests
use Rattle.server_model.specs.States.{State, is_in_transaction, opened, session_of, view, waiting_of}
use Rattle.server_model.specs.declared.session.Waiting.{Waiting}
use Rattle.server_model.specs.PlainServer.{called_unless, calls, does, did, is_over, leaves, loses, polled_of, polled_over, polled_unless, polls, serves, without_waiting}
use Rattle.server_model.specs.Effects.{created, effect_unless, defined, dropped, is_outside, renamed_or}
use Rattle.server_model.specs.Blockers.{need, blocker}
use Rattle.tool_program.specs.JournalWords.Journals.{opens}

defined_done : (base : State) (number : ℕ) (result : Result Database ℕ) → (does (defined result) base number).answer ≡ ok → result ≡ Ok (does (defined result) base number).after.tables
defined_done base number (Ok tables) given = refl
defined_done base number (Err reason) given = absurd (refusal given) where
  refusal : refuses reason ≡ ok → ⊥
  refusal same = cc

done_defined : (base : State) (number : ℕ) (request : Request) (result : Result Database ℕ) → definition request base.tables ≡ Some result → (outside busy : Bool) → (does (effect_unless outside busy (view number base) base request) base number).answer ≡ ok → result ≡ Ok (does (effect_unless outside busy (view number base) base request) base number).after.tables
done_defined base number (Create schema) result is true busy given = absurd (refusal given) where
  refusal : refuses ER_TABLE_NOT_LOCKED ≡ ok → ⊥
  refusal same = cc
done_defined base number (Drop name) result is true busy given = absurd (refusal given) where
  refusal : refuses ER_TABLE_NOT_LOCKED ≡ ok → ⊥
  refusal same = cc
done_defined base number (Rename pairs) result is true busy given = absurd (refusal given) where
  refusal : refuses ER_TABLE_NOT_LOCKED ≡ ok → ⊥
  refusal same = cc
done_defined base number (Create schema) result is false busy given = let same : created (has_table schema.name base.tables) schema base.tables ≡ result = cc in sym same ∙ defined_done base number (created (has_table schema.name base.tables) schema base.tables) given
done_defined base number (Drop name) result is false busy given = let same : dropped (has_table name base.tables) name base.tables ≡ result = cc in sym same ∙ defined_done base number (dropped (has_table name base.tables) name base.tables) given
done_defined base number (Rename pairs) result is false busy given = let same : renamed_or (rename_tables pairs base.tables) ≡ result = cc in sym same ∙ defined_done base number (renamed_or (rename_tables pairs base.tables)) given
done_defined base number requests.Begin result is outside busy given = absurd (cc)
done_defined base number requests.Commit result is outside busy given = absurd (cc)
done_defined base number requests.Rollback result is outside busy given = absurd (cc)
done_defined base number (requests.Do statement) result is outside busy given = absurd (cc)
done_defined base number (LockTables names) result is outside busy given = absurd (cc)
done_defined base number Unlock result is outside busy given = absurd (cc)
done_defined base number ShowTables result is outside busy given = absurd (cc)
done_defined base number ShowWaiting result is outside busy given = absurd (cc)
done_defined base number (ShowCounter table) result is outside busy given = absurd (cc)
done_defined base number (SetCounter table least) result is outside busy given = absurd (cc)
done_defined base number LogEnd result is outside busy given = absurd (cc)
done_defined base number (ReadLog position limit names) result is outside busy given = absurd (cc)
done_defined base number (Ends table) result is outside busy given = absurd (cc)
done_defined base number (ChunkEnd table low top size) result is outside busy given = absurd (cc)
done_defined base number (BeginSpan table span size) result is outside busy given = absurd (cc)
done_defined base number (CopyRow from into columns key) result is outside busy given = absurd (cc)

call_defined : (state : State) (number : ℕ) (request : Request) (result : Result Database ℕ) → definition request state.tables ≡ Some result → (by : Option ℕ) → (called_unless by state number request).answer ≡ ok → result ≡ Ok (called_unless by state number request).after.tables
unfolding did
call_defined state number request result is None given =
    done_defined state number (filled state number request) result (filled_case (λ asked full. definition asked state.tables ≡ Some result → definition full state.tables ≡ Some result) (λ r same. same) (λ statement n same. absurd cc) (is_of_tool (session_of number state.sessions)) state.tables state.counters request is)
    (is_outside (session_of number state.sessions) (filled state number request)) (is_in_transaction (session_of number state.sessions)) given
call_defined state number request result is (Some by) given = absurd (waits given) where
  waits : answers.Waits by ≡ ok → ⊥
  waits same = cc

poll_defined : (state : State) (number : ℕ) (request : Request) (result : Result Database ℕ) → definition request state.tables ≡ Some result → (by : Option ℕ) → (polled_unless by state number request).answer ≡ ok → result ≡ Ok (polled_unless by state number request).after.tables
unfolding did
poll_defined state number request result is None given =
    done_defined (without_waiting number state) number (filled state number request) result (filled_case (λ asked full. definition asked state.tables ≡ Some result → definition full state.tables ≡ Some result) (λ r same. same) (λ statement n same. absurd cc) (is_of_tool (session_of number state.sessions)) state.tables state.counters request is)
    (is_outside (session_of number state.sessions) (filled state number request)) (is_in_transaction (session_of number state.sessions)) given
poll_defined state number request result is (Some by) given = at (is_over state number) given where
  over : {polls : ℕ} → answers.TimedOut polls ≡ ok → ⊥
  over same = cc

  waits : answers.Waits by ≡ ok → ⊥
  waits same = cc

  at : (b : Bool) → (polled_over b by state number).answer ≡ ok → result ≡ Ok (polled_over b by state number).after.tables
  at true same = absurd (over same)
  at false same = absurd (waits same)

served_defined : (state : State) (number : ℕ) (asked : Asked) (request : Request) (result : Result Database ℕ) → about state number asked ≡ Some request → definition request state.tables ≡ Some result → (serves state number asked).answer ≡ ok → result ≡ Ok (serves state number asked).after.tables
unfolding calls polls
served_defined state number (Call asked) request result asks is given =
    let same : asked ≡ request = cc in call_defined state number asked result (ap (λ (r : Request). definition r state.tables) same ∙ is) (blocker state number (need state number asked)) given
served_defined state number Poll request result asks is given = at (waiting_of number state.waiting) asks given where
  at : (waiting : Option Waiting) → request_of waiting ≡ Some request → (polled_of waiting state number).answer ≡ ok → result ≡ Ok (polled_of waiting state number).after.tables
  at None asks given = absurd (cc)
  at (Some waiting) asks given =
      let same : waiting.request ≡ request = cc in poll_defined state number waiting.request result (ap (λ (r : Request). definition r state.tables) same ∙ is) (blocker state number (need state number waiting.request)) given
served_defined state number (Command word) request result asks is given = absurd (cc)
served_defined state number Cut request result asks is given = absurd (lost given) where
  lost : answers.Lost ≡ ok → ⊥
  lost same = cc

final_tables : (side : Option Side) (state : State) (number : ℕ) (asked : Asked) (given : Answer) → reported_at side (answer_at side given) (missed_at side given) ≡ Some ok → (leaves side state number asked).tables ≡ (serves state number asked).after.tables
unfolding loses
final_tables None state number asked given is = refl
final_tables (Some Before) state number asked given is = absurd (cc)
final_tables (Some After) state number asked given is = refl

-- *CREATE, DROP and RENAME that are done leave the tables that they make*
pub definitions_are_done : DefinitionsAreDone
definitions_are_done limits scene journal entry request result answered asks is was =
    let state : State = scene_state limits scene journal in
    let nothing : Bool = is_command entry.asked in
    let tool : Bool = not (is_client entry.actor) in
    let now : State = opens entry state in
    let reported = sym (ap (λ (g : Answer). reported_at entry.side g entry.missed) answered.answer ∙ ap (λ (m : Option Answer). reported_at entry.side (answer_at entry.side (inner state entry)) m) answered.missed) ∙ was in
    let tables : now.tables ≡ state.tables = ap (λ (s : Stored). s.tables) (stored_opened nothing tool entry.session state) in
    let done_so = served_defined now entry.session entry.asked request result asks (ap (definition request) tables ∙ is) (reported_inner entry.side (inner state entry) reported) in
    rw (state_more (opened limits scene.opening) journal entry) (done_so ∙ ap (λ (d : Database). let r : Result Database ℕ = Ok d in r) (sym (final_tables entry.side now entry.session entry.asked (inner state entry) reported)))
