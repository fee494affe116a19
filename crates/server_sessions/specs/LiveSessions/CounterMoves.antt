-- How counters move in a turn, by its answer.
use Rattle.std.specs.Prelude.{ℕ, ◌==◌, if◌then◌else◌, List, Option, None}
use Rattle.server_model.specs.declared.answer.Answer.{Answer}
use Rattle.server_model.specs.declared.answer.Answer.TheVariants as answers
use Rattle.server_model.specs.declared.counter.Counter.{Counter}
use Rattle.server_model.specs.Counting.{after_drawn, counts_if, drawn_if, is_answered}
use Rattle.server_model.specs.States.{counters_from}
use Rattle.server_sessions.specs.declared.live_sessions.counter_moves.CounterMove.{CounterMove}
use Rattle.server_sessions.specs.declared.live_sessions.counter_moves.CounterMove.TheVariants.{Stay, Raise, Become, Set}

-- what the counter is at least after the value that was given, where rows were written or changed
abbrev pub after_given : Answer → ℕ → ℕ
after_given (answers.Ok count) given = if count == 0 then 0 else given
after_given answer given = 0

-- the counters afterwards
abbrev pub moved : CounterMove → Answer → List Counter → List Counter
moved Stay answer counters = counters
moved (Raise table drawn given) answer counters = counters_from table.now (after_given answer given) (counters_from table.now (after_drawn (drawn_if (is_answered answer) drawn)) counters)
moved (Become after) answer counters = counts_if answer (λ before. after.items) counters
moved (Set table least) answer counters = counts_if answer (counters_from table.now least) counters

-- the number that was drawn
abbrev pub drawn_in_move : CounterMove → Answer → Option ℕ
drawn_in_move (Raise table drawn given) answer = drawn_if (is_answered answer) drawn
drawn_in_move move answer = None
