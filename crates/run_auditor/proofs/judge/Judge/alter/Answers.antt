use Rattle.std.proofs.Common.{[], ◌∷◌, refl, sym, subst}
use Rattle.table_store.specs.Databases.{database}
use Rattle.server_model.specs.LockedRows.Databases.{IsWellFormedDatabase}
use Rattle.run_audit.specs.Audits.{Altered}
use Rattle.run_auditor.specs.Judging.{IsPlanned}
use Rattle.run_auditor.proofs.AlteredDatabases.{altered_formed}
use Rattle.run_auditor.proofs.JudgedItems.{altered_judging, over_judging, unaltered_judging}
use Rattle.run_auditor.proofs.judge.Judge.alter.Goals as goal

pub altered_tables-requires-clause-planned : goal.altered_tables-requires-clause-planned
altered_tables-requires-clause-planned c = subst (IsPlanned c.args.plan.now) (sym c.tables.ensures) c.requires.planned

pub altered_tables-requires-clause-formed : goal.altered_tables-requires-clause-formed
altered_tables-requires-clause-formed c = subst IsWellFormedDatabase (sym c.tables.ensures) c.requires.sound.formed

pub new-requires : goal.new-requires
new-requires c =
    let made = rw (c.in-Some.is, c.tables.ensures) at c.in_ok-tables.ensures in
    altered_formed c.args.plan.now (database c.args.self.now.storage.tables) (database c.in-Some.tables) c.requires.alters c.requires.planned c.requires.sound.formed (sym made)

pub returns-then-self-clause-judging : goal.returns-then-self-clause-judging
returns-then-self-clause-judging c = λ items is. over_judging c.args.plan.now items (Altered c.args.turn ∷ []) c.args.self.now is c.if-self.true

pub returns-in-None-clause-judging : goal.returns-in-None-clause-judging
returns-in-None-clause-judging c = λ items is.
    let made = rw (c.in-None.is, c.tables.ensures) at c.in_ok-tables.ensures in
    unaltered_judging c.args.plan.now items c.args.turn c.args.self.now _ is c.if-self.false (sym made) refl c.least_with-self.ensures refl

pub returns-in-Some-clause-judging : goal.returns-in-Some-clause-judging
returns-in-Some-clause-judging c = λ items is.
    let made = rw (c.in-Some.is, c.tables.ensures) at c.in_ok-tables.ensures in
    altered_judging c.args.plan.now items c.args.turn c.args.self.now _ (database c.in-Some.tables) is c.if-self.false (sym made) c.new.ensures.committed refl c.if-self.false
