use Rattle.base_values.specs.GhoSchema.Rows.{key_of}
use Rattle.server_api.proofs.PagedAnswers.Cuts.{Walked}
use Rattle.server_api.proofs.paged_answers.chunk.next_keys.Given as goal

abbrev pub invariant-loop : goal.invariant-loop
invariant-loop l = Walked (key_of l.places) l.counter l.keys l.rows l.size l.fn.rows
