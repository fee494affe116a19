use Rattle.std.proofs.Common.{◌+◌, ◌<◌, ◌++◌, drop, length, ap, ◌∙◌, arith}
use Rattle.server_log.specs.Encodings.{values_bytes}
use Rattle.server_log.specs.Laws.{IsHeld}
use Rattle.server_log.proofs.Encodings.{one_more, shorter}
use Rattle.server_log.proofs.Lists.{all_more, all_whole}
use Rattle.server_log.proofs.encoding.put_values.Goals as goal

pub put_value-requires-clause-short : goal.put_value-requires-clause-short
put_value-requires-clause-short c = omega (arith, shorter c.args.values.now c.loop-value.value-index c.value-item.result (omega arith) c.value-item.is, c.loop-value.invariant.short)

pub put_value-requires-clause-room : goal.put_value-requires-clause-room
put_value-requires-clause-room c = omega (arith, shorter c.args.values.now c.loop-value.value-index c.value-item.result (omega arith) c.value-item.is, c.loop-value.invariant.room)

pub loop-value-preserved : goal.loop-value-preserved
loop-value-preserved c =
    let within : c.loop-value.value-index < length c.args.values.now = omega arith in
    let less = shorter c.args.values.now c.loop-value.value-index c.value-item.result within c.value-item.is in
    record {
      items =
          ap (λ out. out ++ values_bytes (drop (c.loop-value.value-index + 1) c.args.values.now)) c.put_value.ensures.items
          ∙ one_more c.loop-value.into.items c.args.values.now c.loop-value.value-index c.value-item.result within c.value-item.is
          ∙ c.loop-value.invariant.items;
      short = omega (arith, less, c.loop-value.invariant.short);
      len = omega (arith, less, c.put_value.ensures.len, c.loop-value.invariant.len);
      room = omega (arith, less, c.put_value.ensures.len, c.put_value.ensures.capacity, c.loop-value.invariant.room);
      capacity = omega (arith, c.put_value.ensures.capacity, c.loop-value.invariant.capacity);
      held = all_more IsHeld c.args.values.now c.loop-value.value-index c.value-item.result within c.value-item.is c.loop-value.invariant.held c.put_value.ensures.held;
    }

pub returns-clause-held : goal.returns-clause-held
returns-clause-held c = all_whole IsHeld c.args.values.now c.loop-value.value-index (omega arith) c.loop-value.invariant.held
