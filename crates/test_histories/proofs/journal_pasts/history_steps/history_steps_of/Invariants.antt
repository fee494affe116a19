use Rattle.std.proofs.Common.{◌≡◌, map, take}
use Rattle.test_histories.specs.Histories.{history_step_of}
use Rattle.test_histories.specs.JournalPasts.Walks.{item_as}
use Rattle.test_histories.proofs.journal_pasts.history_steps.history_steps_of.Given as goal

-- what happened so far
abbrev pub invariant-loop-item : goal.invariant-loop-item
invariant-loop-item l = l.all ≡ map history_step_of (map item_as (take l.item-index l.items))
