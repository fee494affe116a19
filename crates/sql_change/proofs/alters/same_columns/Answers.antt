use Rattle.std.proofs.Common.{ℕ, ◌<◌, ◌≤◌, length, sym, subst, ◌∙◌}
use Rattle.sql_change.proofs.SameColumns.{lengths_differ, goes_on, differs, all_same}
use Rattle.sql_change.proofs.alters.same_columns.Goals as goal

pub returns-then-places-old : goal.returns-then-places-old
returns-then-places-old c = sym (lengths_differ c.args.origins.now c.args.places.now c.args.old.now c.if-places-old.true)

pub returns-then-not-is_origin : goal.returns-then-not-is_origin
returns-then-not-is_origin c =
    let within : c.loop-i.i < length c.args.old.now = subst (λ (n : ℕ). c.loop-i.i < n) c.loop-i.invariant.long c.loop-i-test.true in
    sym (differs c.args.origins.now c.args.places.now c.args.old.now c.loop-i.i _ c.loop-i-test.true within (sym c.is_origin.ensures ∙ c.if-not-is_origin.true) c.loop-i.invariant.same)

pub loop-i-preserved : goal.loop-i-preserved
loop-i-preserved c =
    let within : c.loop-i.i < length c.args.old.now = subst (λ (n : ℕ). c.loop-i.i < n) c.loop-i.invariant.long c.loop-i-test.true in
    record {
      same = goes_on c.args.origins.now c.args.places.now c.args.old.now c.loop-i.i _ c.loop-i-test.true within (sym c.is_origin.ensures ∙ c.if-not-is_origin.false) c.loop-i.invariant.same;
      long = c.loop-i.invariant.long;
    }

pub returns : goal.returns
returns c =
    let past : length c.args.old.now ≤ c.loop-i.i = subst (λ (n : ℕ). n ≤ c.loop-i.i) c.loop-i.invariant.long c.loop-i-test.false in
    sym (all_same c.args.origins.now c.args.places.now c.args.old.now c.loop-i.i _ c.loop-i-test.false past c.loop-i.invariant.same)
