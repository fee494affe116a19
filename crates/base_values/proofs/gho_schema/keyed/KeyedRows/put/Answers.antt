use Rattle.std.proofs.Common.{◌≡◌, true, false, Some, refl, sym, ap}
use Rattle.base_values.specs.GhoSchema.Rows.{has_key, key_of}
use Rattle.base_values.specs.GhoSchema.KeyedRows.{rows_of}
use Rattle.base_values.proofs.GhoSchema.RowMap.{contains, inserted, still_kept, rows_are}
use Rattle.base_values.proofs.gho_schema.keyed.KeyedRows.put.Goals as goal

pub returns-then-contains_key-clause-repeated : goal.returns-then-contains_key-clause-repeated
returns-then-contains_key-clause-repeated c =
    let key : c.in_ok-key.key ≡ key_of c.self.inside.places c.args.row = cc (c.in_ok-key.ensures, c.as_slice.ensures, c.as_slice-2.ensures) in
    let there : has_key c.self.inside.places (rows_of c.self.inside.entries.entries) (key_of c.self.inside.places c.args.row) ≡ true =
    contains c.self.inside.places c.self.inside.entries.entries c.args.row c.in_ok-key.key true c.self.invariant key c.if-contains_key.ensures in
    λ _. rw (← c.self.view_is) (rw there refl)

pub invariant_of-self-2 : goal.invariant_of-self-2
invariant_of-self-2 c =
    let key : c.in_ok-key.key ≡ key_of c.self.inside.places c.args.row = cc (c.in_ok-key.ensures, c.as_slice.ensures, c.as_slice-2.ensures) in
    let absent : has_key c.self.inside.places (rows_of c.self.inside.entries.entries) (key_of c.self.inside.places c.args.row) ≡ false =
    contains c.self.inside.places c.self.inside.entries.entries c.args.row c.in_ok-key.key false c.self.invariant key c.if-contains_key.ensures in
    still_kept c.self.inside.places c.insert.new.self.entries _ (inserted c.self.inside.places c.self.inside.entries.entries c.insert.new.self.entries c.args.row c.in_ok-key.key c.self.invariant key absent c.in_ok-insert.ensures.entries)

pub returns-clause-ok : goal.returns-clause-ok
returns-clause-ok c =
    let key : c.in_ok-key.key ≡ key_of c.self.inside.places c.args.row = cc (c.in_ok-key.ensures, c.as_slice.ensures, c.as_slice-2.ensures) in
    let absent : has_key c.self.inside.places (rows_of c.self.inside.entries.entries) (key_of c.self.inside.places c.args.row) ≡ false =
    contains c.self.inside.places c.self.inside.entries.entries c.args.row c.in_ok-key.key false c.self.invariant key c.if-contains_key.ensures in
    rw (← c.self.view_is) (rw absent (ap Some (sym (rows_are c.self.inside.places c.insert.new.self.entries _ (inserted c.self.inside.places c.self.inside.entries.entries c.insert.new.self.entries c.args.row c.in_ok-key.key c.self.invariant key absent c.in_ok-insert.ensures.entries)))))
