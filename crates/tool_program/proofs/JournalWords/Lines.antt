-- The lines of a transaction.
use Rattle.std.proofs.Common.{◌≡◌, true, List, [], ◌∷◌, ◌++◌, refl}
use Rattle.server_model.specs.declared.transaction.TxnLine.{TxnLine}
use Rattle.tool_program.specs.JournalWords.Clients.{is_inside}

-- a transaction with one line more is open
pub inside_more : (lines : List TxnLine) (line : TxnLine) → is_inside (lines ++ line ∷ []) ≡ true
inside_more [] line = refl
inside_more (first ∷ lines) line = refl
