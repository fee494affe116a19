use Rattle.std.proofs.Common.{◌≡◌, ◌++◌, length}
use Rattle.base_page_list.specs.Pages.{flat}
use Rattle.base_page_list.proofs.entries.EntriesIterator.next.Given as goal

-- only empty pages are passed over
abbrev pub invariant-loop-self : goal.invariant-loop-self
invariant-loop-self l = l.self-inside.first.now ++ (flat l.self-inside.pages.now ++ l.self-inside.last.now) ≡ l.fn.self

abbrev pub decreases-loop-self : goal.decreases-loop-self
decreases-loop-self l = length l.self-inside.pages.now
