-- *Terms of the bound*: for each part of a journal, the most turns that a run may have of it. The bound is their sum. (This
-- project's rule.)
use Rattle.std.specs.Prelude.{ℕ}
use Rattle.tool_program.specs.JournalWords.Bounds.{Measures, client_turns, setup_turns, chunk_turns, batch_turns, attempt_turns, clearing_turns}
use Rattle.proof_bounds.specs.Parts.{Part, OfOperator, OfClients, OfSetup, OfChunks, OfBatches, OfAttempts, OfClearing}

-- *Term* of a part
unfoldable pub term_of : Part → Measures → ℕ
term_of OfOperator m = m.commands
term_of OfClients m = client_turns m
term_of OfSetup m = setup_turns m
term_of OfChunks m = chunk_turns m
term_of OfBatches m = batch_turns m
term_of OfAttempts m = attempt_turns m
term_of OfClearing m = clearing_turns m
