use Rattle.std.proofs.Common.{◌≡◌, true, false, length, sym, subst, ◌∙◌, arith, List, ℕ}
use Rattle.std.specs.Prelude.{IfOk}
use Rattle.base_values.specs.SchemaRules.Names.{is_among, numbered, free_name}
use Rattle.base_values.proofs.SchemaRules.FreeNames.{is_free, is_taken, is_last}
use Rattle.base_values.proofs.schema_rules.names.free_name.Goals as goal

pub returns-then-not-is_among : goal.returns-then-not-is_among
returns-then-not-is_among c =
    let free : is_among c.args.taken.now (numbered c.args.base.now c.loop.number) ≡ false = cc c.in_ok-name.ensures in
    c.in_ok-name.ensures ∙ sym (is_free c.args.taken.now c.args.base.now (length c.args.taken.now) c.loop.index c.loop.number c.loop-test.true free) ∙ c.loop.invariant.free

pub loop-preserved : goal.loop-preserved
loop-preserved c =
    let among : is_among c.args.taken.now (numbered c.args.base.now c.loop.number) ≡ true = cc c.in_ok-name.ensures in
    record {
      free = sym (is_taken c.args.taken.now c.args.base.now (length c.args.taken.now) c.loop.index c.loop.number c.loop-test.true among) ∙ c.loop.invariant.free;
      number = omega arith;
    }

pub returns : goal.returns
returns c =
    let last : numbered c.args.base.now c.loop.number ≡ free_name c.args.taken.now c.args.base.now = sym (is_last c.args.taken.now c.args.base.now (length c.args.taken.now) c.loop.index c.loop.number c.loop-test.false) ∙ c.loop.invariant.free in
    subst (λ (name : List ℕ). IfOk c.numbered-2.result (λ made. made ≡ name)) last c.numbered-2.ensures
