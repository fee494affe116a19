use Rattle.std.proofs.Common.{◌≡◌, ◌+◌, ◌-◌, ◌<◌, ◌≤◌, ◌∷◌, ◌++◌, [], true, false, length, sym, ◌∙◌, ap, arith}
use Rattle.std.proofs.lemmas.List.{length_push}
use Rattle.server_model.specs.declared.answer.Answer.TheVariants as answers
use Rattle.server_model.specs.States.{is_of}
use Rattle.server_log.proofs.KeptEvents.{item_at}
use Rattle.server_log.proofs.ReadEvents.{reads_on, starts, skips, takes, fills, ends}
use Rattle.server_log.proofs.log.reading.read_after.Goals as goal

pub loop-place-init : goal.loop-place-init
loop-place-init c =
    let none : length c.new-events.result ≡ 0 = ap length c.new-events.ensures in
    record {
      asked = omega (arith, none, c.requires);
      read = starts (c.args.limit - length c.new-events.result) c.args.position c.args.limit c.args.tables.now c.args.log.now.events c.new-events.result c.new-events.ensures (omega (arith, none));
    }

pub loop-place-preserved-then-not-is_of : goal.loop-place-preserved-then-not-is_of
loop-place-preserved-then-not-is_of c =
    let within : c.loop-place.place < length c.args.log.now.events = omega (arith, c.loop-place-test.true, c.len-place-end.ensures) in
    let here = item_at c.args.log.now.events c.loop-place.place within in
    let fails : is_of c.args.tables.now here.0 ≡ false = sym (c.is_of.ensures here.0 here.1) ∙ c.if-not-is_of.true in
    record {
      asked = c.loop-place.invariant.asked;
      read =
          skips (c.args.limit - length c.loop-place.events) c.loop-place.place c.args.tables.now c.args.log.now.events c.loop-place.events here.0 within here.1 fails
          ∙ c.loop-place.invariant.read;
    }

pub returns-then-len-limit : goal.returns-then-len-limit
returns-then-len-limit c =
    let within : c.loop-place.place < length c.args.log.now.events = omega (arith, c.loop-place-test.true, c.len-place-end.ensures) in
    let passes : is_of c.args.tables.now c.in_ok-event.field-0 ≡ true = sym (c.is_of.ensures c.in_ok-event.field-0 c.in_ok-event.ensures) ∙ c.if-not-is_of.false in
    let pushed : c.push.new.self ≡ c.loop-place.events ++ c.in_ok-event.field-0 ∷ [] = c.in_ok-push.ensures.ok in
    let many : length c.push.new.self ≡ length c.loop-place.events + 1 = ap length pushed ∙ length_push c.loop-place.events c.in_ok-event.field-0 in
    let asked : length c.loop-place.events < c.args.limit = c.loop-place.invariant.asked in
    let full : c.len.result ≡ length c.push.new.self = c.len.ensures in
    let last : c.args.limit - length c.loop-place.events ≡ 1 = omega (arith, many, full, asked, c.if-len-limit.true) in
    ap (λ events. answers.Events events (c.loop-place.place + 1)) pushed
    ∙ fills (c.args.limit - length c.loop-place.events) c.loop-place.place c.args.tables.now c.args.log.now.events c.loop-place.events c.in_ok-event.field-0 last within c.in_ok-event.ensures passes
    ∙ c.loop-place.invariant.read

pub loop-place-preserved : goal.loop-place-preserved
loop-place-preserved c =
    let within : c.loop-place.place < length c.args.log.now.events = omega (arith, c.loop-place-test.true, c.len-place-end.ensures) in
    let asked : length c.loop-place.events < c.args.limit = c.loop-place.invariant.asked in
    let full : c.len.result ≡ length c.push.new.self = c.len.ensures in
    let passes : is_of c.args.tables.now c.in_ok-event.field-0 ≡ true = sym (c.is_of.ensures c.in_ok-event.field-0 c.in_ok-event.ensures) ∙ c.if-not-is_of.false in
    let pushed : c.push.new.self ≡ c.loop-place.events ++ c.in_ok-event.field-0 ∷ [] = c.in_ok-push.ensures.ok in
    let many : length c.push.new.self ≡ length c.loop-place.events + 1 = ap length pushed ∙ length_push c.loop-place.events c.in_ok-event.field-0 in
    let fewer : length c.push.new.self < c.args.limit = omega (arith, many, full, asked, c.if-len-limit.false) in
    record {
      asked = fewer;
      read =
          ap (λ events. reads_on (c.args.limit - length c.push.new.self) c.args.tables.now c.args.log.now.events (c.loop-place.place + 1) events) pushed
          ∙ takes (c.args.limit - length c.loop-place.events) (c.args.limit - length c.push.new.self) c.loop-place.place c.args.tables.now c.args.log.now.events c.loop-place.events c.in_ok-event.field-0 (omega (arith, many, fewer)) (omega (arith, fewer)) within c.in_ok-event.ensures passes
          ∙ c.loop-place.invariant.read;
    }

pub returns : goal.returns
returns c =
    let over : length c.args.log.now.events ≤ c.loop-place.place = omega (arith, c.loop-place-test.false, c.len-place-end.ensures) in
    ap (λ end. answers.Events c.loop-place.events end) c.len-2.ensures
    ∙ ends (c.args.limit - length c.loop-place.events) c.loop-place.place c.args.tables.now c.args.log.now.events c.loop-place.events (omega (arith, c.loop-place.invariant.asked)) over
    ∙ c.loop-place.invariant.read
