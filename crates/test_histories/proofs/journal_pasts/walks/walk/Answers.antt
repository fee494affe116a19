use Rattle.std.proofs.Common.{ℕ, List, [], map, sym, ap, ◌∙◌, subst}
use Rattle.run_actors.specs.Renamings.{AreRenaming, renaming_after}
use Rattle.run_actors.proofs.Renamings.{renaming_begins}
use Rattle.test_histories.specs.JournalPasts.Walks.{item_as}
use Rattle.test_histories.proofs.JournalPasts.Clients.{begin_so}
use Rattle.test_histories.proofs.JournalPasts.Whole.{history_begins, next}
use Rattle.test_histories.proofs.journal_pasts.walks.walk.Goals as goal

pub loop-entry-init : goal.loop-entry-init
loop-entry-init c = record {
  items_are = ap (map item_as) c.new-items.ensures ∙ history_begins c.args.plan.now;
  clients_are = begin_so c.args.plan.now c.as_slice.result.now c.in_ok-clients.clients.items c.in_ok-clients.ensures (c.as_slice.ensures ∙ c.clients.ensures.clients);
  renaming_are = subst (AreRenaming c.args.plan.now []) (sym c.nobody-renaming.ensures) (renaming_begins c.args.plan.now);
}

pub loop-entry-preserved : goal.loop-entry-preserved
loop-entry-preserved c =
    next c.args.plan.now c.args.journal.now c.loop-entry.entry-index c.entry-item.result c.loop-entry.items c.push_item.new.items c.in_ok-item.item c.loop-entry.clients.items c.turn.new.clients.items c.loop-entry.renaming c.pass.new.self
    c.loop-entry-test.true c.entry-item.is c.in_ok-push_item.ensures (λ before are renaming. c.in_ok-item.ensures.item before are renaming) c.in_ok-item.ensures.clients
    (c.pass.ensures ∙ ap (λ (table : List ℕ). renaming_after table c.entry-item.result c.loop-entry.renaming) c.table.ensures) c.loop-entry.invariant
