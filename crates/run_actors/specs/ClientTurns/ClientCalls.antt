-- What a client asks. (This project's rule.)
use Rattle.server_model.specs.declared.entry.Asked.{Asked}
use Rattle.server_model.specs.declared.entry.Asked.TheVariants as asked
use Rattle.tool_program.specs.JournalWords.Clients.{word_asks}
use Rattle.run_actors.specs.declared.client_turns.requests.ClientCall.{ClientCall}
use Rattle.run_actors.specs.declared.client_turns.requests.ClientCall.TheVariants.{Poll, Line}

abbrev pub asked_in : ClientCall → Asked
asked_in Poll = asked.Poll
asked_in (Line word) = asked.Call (word_asks word.now)
