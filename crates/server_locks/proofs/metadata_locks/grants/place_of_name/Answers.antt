use Rattle.std.proofs.Common.{◌≡◌, ◌+◌, true, false, length, ap, sym, ◌∙◌, rules}
use Rattle.std.specs.Prelude.{min}
use Rattle.server_locks.specs.MetadataLocks.LockTable.{own_names, place_among}
use Rattle.server_locks.specs.MetadataLocks.Requests.{all_locks}
use Rattle.server_locks.proofs.MetadataLocks.OwnNames.{counted, found_own, is_so, names_from, not_counted, passed_other, passed_own}
use Rattle.server_locks.proofs.metadata_locks.grants.place_of_name.Goals as goal
use Rattle.server_locks.proofs.metadata_locks.grants.place_of_name.Goals.{then-is_own+in-None, else-is_own}

pub returns-in-Some : goal.returns-in-Some
returns-in-Some c =
    let own : is_so c.args.session c.args.exclusive c.request-item.result ≡ true = search rules in
    c.saturating_add.ensures
    ∙ ap (λ n. min (c.loop-request.passed + n) 18446744073709551615)
    (sym (found_own c.args.granted.now c.loop-request.request-index c.args.session c.args.exclusive c.args.name.now c.request-item.result c.in-Some.place c.loop-request-test.true c.request-item.is own (search rules)))
    ∙ c.loop-request.invariant.1

pub loop-request-preserved : goal.loop-request-preserved
loop-request-preserved c =
    let i = c.loop-request.request-index in
    let name = c.args.name.now in
    let all = min (place_among (own_names c.args.session c.args.exclusive (all_locks c.args.granted.now)) name) 18446744073709551615 in
    let before = place_among (names_from c.args.granted.now i c.args.session c.args.exclusive) name in
    let after = place_among (names_from c.args.granted.now (i + 1) c.args.session c.args.exclusive) name in
    elim c.if-is_own.branch [
      | then-is_own+in-None w ↦
          let own : is_so c.args.session c.args.exclusive c.request-item.result ≡ true = search rules in
          let more : c.if-is_own.passed ≡ min (c.loop-request.passed + length c.request-item.result.names) 18446744073709551615 = w.passed-is ∙ w.saturating_add-passed.ensures ∙ ap (λ n. min (c.loop-request.passed + n) 18446744073709551615) w.len.ensures in
          counted c.loop-request.passed c.if-is_own.passed (length c.request-item.result.names) before after 18446744073709551615 all more
          (passed_own c.args.granted.now i c.args.session c.args.exclusive name c.request-item.result c.loop-request-test.true c.request-item.is own (search rules)) c.loop-request.invariant.1
      | else-is_own w ↦
          let other : is_so c.args.session c.args.exclusive c.request-item.result ≡ false = search rules in
          not_counted c.loop-request.passed c.if-is_own.passed before after 18446744073709551615 all w.passed-is
          (passed_other c.args.granted.now i c.args.session c.args.exclusive name c.request-item.result c.loop-request-test.true c.request-item.is other) c.loop-request.invariant
    ]
