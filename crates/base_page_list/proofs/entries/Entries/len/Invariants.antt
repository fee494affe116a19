use Rattle.std.proofs.Common.{◌≡◌, ◌≤◌, ◌+◌, ◌*◌, length, drop}
use Rattle.base_page_list.specs.Pages.{flat}
use Rattle.base_page_list.proofs.entries.Entries.len.Given as goal

-- those of the pages that are left are still to be counted, and a page has at most 65
abbrev pub invariant-loop-page : goal.invariant-loop-page
invariant-loop-page l =
    (l.count + length (flat (drop l.page-index l.page-items)) ≡ length l.self) × (l.count ≤ l.initial.count + 65 * l.page-index)
