-- What was written represents changes: none at first, and more of them once these are written.
use Rattle.std.proofs.Common.{ℕ, List, [], ◌∷◌, ◌++◌, sym, ◌∙◌}
use Rattle.base_values.specs.declared.event.Change.{Change}
use Rattle.table_store.proofs.Orders.{Row}
use Rattle.server_model.specs.Rows.{change_rows, change_all}
use Rattle.server_seen.specs.Written.{Written, nothing, wrote_all}
use Rattle.server_seen.specs.FittingChanges.{AllFit}
use Rattle.server_seen.proofs.SeenChanges.{AreSeen, is_nothing, is_wrote_all, changes_seen, all_seen}
use Rattle.server_model.proofs.LockedRows.WellFormed.{change_all-append}
use Rattle.server_transaction.specs.Shown.{Represents}

pub represents_all : (places : List ℕ) (changes : List Change) → Represents places changes (wrote_all places changes nothing)
represents_all places changes = record {
  is_written = is_wrote_all places changes nothing (is_nothing places);
  shows = λ rows ascends fit. (changes_seen places changes rows ascends fit).1;
}

-- changes behind others fit
pub fit-parts : (places : List ℕ) (a b : List Change) (rows : List Row) → AllFit places (a ++ b) rows → AllFit places a rows × AllFit places b (change_all places a rows)
unfolding AllFit change_all
fit-parts places [] b rows fit = (tt, fit)
fit-parts places (change ∷ a) b rows fit = let parts = fit-parts places a b (change_rows places change rows) fit.1 in ((fit.0, parts.0), parts.1)

pub represents_more : (places : List ℕ) (a b : List Change) (earlier : Written) → Represents places a earlier → Represents places (a ++ b) (wrote_all places b earlier)
represents_more places a b earlier was = record {
  is_written = is_wrote_all places b earlier was.is_written;
  shows = λ rows ascends fit.
      let parts = fit-parts places a b rows fit in
      let before : AreSeen places earlier rows (change_all places a rows) = record { is_written = was.is_written; seen_is = was.shows rows ascends parts.0; ascends = (changes_seen places a rows ascends parts.0).2 } in
      (all_seen places b earlier rows (change_all places a rows) ascends before parts.1).seen_is ∙ sym (change_all-append places a b rows);
}
