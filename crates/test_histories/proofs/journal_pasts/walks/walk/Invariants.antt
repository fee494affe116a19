use Rattle.std.proofs.Common.{take}
use Rattle.test_histories.proofs.JournalPasts.Whole.{SoFar}
use Rattle.test_histories.proofs.journal_pasts.walks.walk.Given as goal

-- what was found is what the turns so far say
abbrev pub invariant-loop-entry : goal.invariant-loop-entry
invariant-loop-entry l = SoFar l.plan (take l.entry-index l.journal) l.items l.clients.items l.renaming
