use Rattle.std.proofs.Common.{Bool, ◌≡◌, ◌↔◌, List, [], refl, sym, subst}
use Rattle.std.specs.Prelude.{IsTrue}
use Rattle.std.proofs.lemmas.Bool.{false≢true}
use Rattle.std.proofs.lemmas.List.{nil_from_length}
use Rattle.base_values.specs.declared.gho_schema.schema.Column.{Column}
use Rattle.proof_journals.specs.Ghost.Statements.{SameColumns}
use Rattle.server_transaction.proofs.CopiedRows.{left_differs, left_next, left_none, left_short}
use Rattle.server_transaction.proofs.row_copies.columns.takes_as_is.Goals as goal

pub loop-new-init : goal.loop-new-init
loop-new-init c = subst (λ (rest : List Column). SameColumns rest c.args.map.now ↔ SameColumns c.args.into.now.columns c.args.map.now) (sym c.as_slice-rest.ensures) (λ same. same, λ same. same)

pub returns-in_default : goal.returns-in_default
returns-in_default c =
    let none : c.loop-new.rest.now ≡ [] = nil_from_length c.loop-new.rest.now c.in_default.ensures.cases in
    (λ no. absurd (false≢true no), λ all. absurd (left_short _ c.loop-new.rest.now c.args.map.now c.loop-new.new-index c.new-item.result c.loop-new-test.true c.new-item.is none c.loop-new.invariant all))

pub returns-then-not-is_same_column : goal.returns-then-not-is_same_column
returns-then-not-is_same_column c =
    (λ no. absurd (false≢true no), λ all. c.if-not-is_same_column.ensures.1 (left_differs _ c.loop-new.rest.now c.in-Some.others.now c.in-Some.column.now c.args.map.now c.loop-new.new-index c.new-item.result c.loop-new-test.true c.new-item.is c.in-Some.ensures.cases.0 c.loop-new.invariant all))

pub loop-new-preserved : goal.loop-new-preserved
loop-new-preserved c = left_next _ c.loop-new.rest.now c.in-Some.others.now c.in-Some.column.now c.args.map.now c.loop-new.new-index c.new-item.result c.loop-new-test.true c.new-item.is c.in-Some.ensures.cases.0 (c.if-not-is_same_column.ensures.0 refl) c.loop-new.invariant

pub returns : goal.returns
returns c = subst (λ (b : Bool). IsTrue b ↔ SameColumns c.args.into.now.columns c.args.map.now) (sym c.is_empty.ensures) (left_none _ c.loop-new.rest.now c.args.map.now c.loop-new.new-index c.loop-new-test.false c.loop-new.invariant)
