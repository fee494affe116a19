use Rattle.std.proofs.Common.{sym, ◌∙◌, subst}
use Rattle.server_model.specs.LockedRows.Databases.{IsWellFormedDatabase}
use Rattle.server_storage.specs.Storage.{committed, written}
use Rattle.run_auditor.proofs.AloneSessions.{alone_fresh, end_well_formed, outcome_replies, outcome_tables}
use Rattle.run_auditor.proofs.alone.run_alone.Goals as goal

pub run_lines-requires-clause-alone : goal.run_lines-requires-clause-alone
run_lines-requires-clause-alone c = alone_fresh (committed c.args.storage.now) (written c.args.storage.now) c.requires.fresh c.requires.well_formed

pub run_lines-requires-clause-fresh : goal.run_lines-requires-clause-fresh
run_lines-requires-clause-fresh c = c.requires.fresh 1

pub returns-clause-replies : goal.returns-clause-replies
returns-clause-replies c = c.in_ok-replies.ensures.replies ∙ sym (outcome_replies (committed c.args.storage.now) c.args.lines.now)

pub returns-clause-tables : goal.returns-clause-tables
returns-clause-tables c =
    outcome_tables (committed c.args.storage.now) (committed c.run_lines.new.storage) (committed c.end.new.storage) (written c.run_lines.new.storage 1) c.args.lines.now c.stays.result (sym c.stays.ensures)
    c.in_ok-replies.ensures.committed c.in_ok-replies.ensures.written c.end.ensures.stays c.end.ensures.forgets

pub returns-clause-well_formed : goal.returns-clause-well_formed
returns-clause-well_formed c =
    end_well_formed (committed c.run_lines.new.storage) (committed c.end.new.storage) (written c.run_lines.new.storage) c.stays.result c.in_ok-replies.ensures.alone
    (subst IsWellFormedDatabase (sym c.in_ok-replies.ensures.committed) c.requires.well_formed) c.end.ensures.stays c.end.ensures.forgets
