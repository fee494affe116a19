use Rattle.std.proofs.Common.{◌≡◌, ◌∙◌, ℕ, Option, List, ap}
use Rattle.server_locks.specs.LeastSession.Least.{least}
use Rattle.base_page_list.specs.Pages.{flat, between}
use Rattle.server_locks.specs.RowLocks.Blockers.{least_of, refusal_at}
use Rattle.server_locks.proofs.RowLocks.LockTable.Blockers.{starts_fail, begins_fail, look_tells}
use Rattle.server_locks.proofs.RowLocks.LockTable.KeyRuns.{earlier_keys_fail}
use Rattle.server_locks.proofs.row_locks.lock_table.blockers.blocker_of_lock.Goals as goal

pub place-start-requires : goal.place-start-requires
place-start-requires c = starts_fail c.args.lock.now c.args.lists.now.slab (flat c.args.lists.now.spans.pages) c.requires.1.by_span.ascends

pub place-end-requires : goal.place-end-requires
place-end-requires c = begins_fail c.args.lock.now c.args.lists.now.slab (flat c.args.lists.now.spans.pages) c.requires.1.by_span.ascends

pub place-start-requires-2 : goal.place-start-requires-2
place-start-requires-2 c = earlier_keys_fail c.args.lock.now.table c.args.lock.now.key c.args.lists.now.slab (flat c.args.lists.now.wide.pages) c.requires.1.by_wide.ascends

pub place-end-requires-2 : goal.place-end-requires-2
place-end-requires-2 c = starts_fail c.args.lock.now c.args.lists.now.slab (flat c.args.lists.now.wide.pages) c.requires.1.by_wide.ascends

seen : (f : ℕ → Option ℕ) (by : Option ℕ) (es : List ℕ) (p q p' q' : ℕ) (xs : List ℕ) → by ≡ least_of f es → es ≡ between p q xs → p ≡ p' → q ≡ q' → by ≡ least_of f (between p' q' xs)
seen f by es p q p' q' xs is es_are p_is q_is = is ∙ ap (least_of f) (es_are ∙ ap (λ (n : ℕ). between n q xs) p_is ∙ ap (λ (n : ℕ). between p' n xs) q_is)

both_seen : (result a b a' b' : Option ℕ) → result ≡ least a b → a ≡ a' → b ≡ b' → result ≡ least a' b'
both_seen result a b a' b' is a_is b_is = is ∙ ap (λ (o : Option ℕ). least o b) a_is ∙ ap (least a') b_is

pub returns : goal.returns
returns c =
    let lists = c.args.lists.now in
    let f = refusal_at lists.slab c.args.session c.args.lock.now in
    let here = seen f _ _ _ _ _ _ (flat lists.spans.pages) c.least_refusal-by.ensures c.entries_between-within.ensures c.place-start.ensures.place c.place-end.ensures.place in
    let before = seen f _ _ _ _ _ _ (flat lists.wide.pages) c.least_refusal.ensures c.entries_between-before.ensures c.place-start-2.ensures.place c.place-end-2.ensures.place in
    both_seen c.least.result _ _ _ _ c.least.ensures here before
    ∙ look_tells c.args.session c.args.lock.now lists.slab c.requires.0 (flat lists.granted.pages) (flat lists.owned.pages) (flat lists.spans.pages) (flat lists.wide.pages) c.requires.1
