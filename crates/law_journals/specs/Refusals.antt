-- What a refusal leaves. (MySQL's manual, "Server Error Message Reference": a statement that is refused has no effect.)
use Rattle.std.specs.Prelude.{◌≡◌, ℕ, false, List, [], Option}
use Rattle.server_model.specs.declared.answer.Answer.TheVariants as answers
use Rattle.server_model.specs.declared.entry.Asked.{Asked}
use Rattle.server_model.specs.PlainServer.{serves}
use Rattle.server_model.specs.States.{State, session_of, is_in_transaction, writes_of}

-- the committed tables, the log, and what this session wrote in its transaction are as before
pub record IsUnchanged (number : ℕ) (before after : State) : Type 0 where
  pub tables : after.tables ≡ before.tables
  pub log : after.log ≡ before.log
  pub writes : writes_of (session_of number after.sessions) ≡ writes_of (session_of number before.sessions)

-- *Refusals change nothing*: where a call or a poll is refused, whatever else its session has written. (A session outside a
-- transaction has written nothing.)
abbrev pub RefusalsChangeNothing : Type 0
RefusalsChangeNothing =
    (state : State) (number code : ℕ) (asked : Asked) (column : Option ℕ) → (is_in_transaction (session_of number state.sessions) ≡ false → writes_of (session_of number state.sessions) ≡ []) → (serves state number asked).answer ≡ answers.Refused code column
    → IsUnchanged number state (serves state number asked).after
