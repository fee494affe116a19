use Rattle.std.proofs.Common.{rules, ◌≡◌, ◌∷◌, ◌++◌, [], List, Option, length, map, drop, ap, ◌∙◌, sym, subst, arith, append-nil}
use Rattle.std.proofs.lemmas.List.{append_assoc}
use Rattle.std.proofs.lemmas.Iterator.Adapters.{YieldsList-from_vec}
use Rattle.std.proofs.lemmas.Iterator.Consumers.{YieldsList-turn, YieldsList-end}
use Rattle.base_values.specs.GhoSchema.Rows.{key_places}
use Rattle.base_values.specs.declared.gho_schema.schema.Schema.{Schema}
use Rattle.table_store.proofs.Orders.{Row}
use Rattle.server_transaction.specs.declared.ready_changes.ReadyChange.{ReadyChange}
use Rattle.server_transaction.specs.Ready.{wrote_each, wrote_ready, IsReady}
use Rattle.server_transaction.proofs.LeftItems.{next_is, none_left}
use Rattle.server_transaction.proofs.ReadyChanges.{IsNextReady, next_ready, wrote_next, wrote_none}
use Rattle.server_transaction.proofs.ready_changes.write_each.Goals as goal

pub write_one-gone-requires : goal.write_one-gone-requires
write_one-gone-requires c =
    let left = drop (length c.loop-one.yielded) c.args.ready.items in
    let rest = drop (length (c.loop-one.yielded ++ c.in-Some.one ∷ [])) c.args.ready.items in
    let step : drop (length c.loop-one.yielded) c.args.ready.items ≡ c.in-Some.one ∷ drop (length (c.loop-one.yielded ++ c.in-Some.one ∷ [])) c.args.ready.items =
    next_is c.args.ready.items c.loop-one.yielded c.in-Some.one
    (YieldsList-turn (YieldsList-from_vec {s = c.into_iter-one-iterator.result} c.args.ready.items (search rules) (search rules)) c.loop-one.yielded c.loop-one.one-iterator c.loop-one.yielded_by c.next.result c.next.new.self c.in-Some.one c.in-Some.is c.next.ensures.steps)
    in
    let next : IsNextReady (key_places c.args.written.now.schema) c.in-Some.one (drop (length (c.loop-one.yielded ++ c.in-Some.one ∷ [])) c.args.ready.items) =
    next_ready (key_places c.args.written.now.schema) left c.in-Some.one rest step c.loop-one.invariant.ready in
    let many = ap length step in
    let room = c.loop-one.invariant.room in
    record {
      ready = subst (λ (s : Schema). IsReady (key_places s) c.in-Some.one) (sym c.loop-one.invariant.schema) next.first;
      room = omega (arith, room, many);
    }

pub push_reserved-requires : goal.push_reserved-requires
push_reserved-requires c =
    let step : drop (length c.loop-one.yielded) c.args.ready.items ≡ c.in-Some.one ∷ drop (length (c.loop-one.yielded ++ c.in-Some.one ∷ [])) c.args.ready.items =
    next_is c.args.ready.items c.loop-one.yielded c.in-Some.one
    (YieldsList-turn (YieldsList-from_vec {s = c.into_iter-one-iterator.result} c.args.ready.items (search rules) (search rules)) c.loop-one.yielded c.loop-one.one-iterator c.loop-one.yielded_by c.next.result c.next.new.self c.in-Some.one c.in-Some.is c.next.ensures.steps)
    in
    let many = ap length step in
    let room = c.loop-one.invariant.key_room in
    omega (arith, room, many)

pub loop-one-preserved : goal.loop-one-preserved
loop-one-preserved c =
    let places = key_places c.args.written.now.schema in
    let left = drop (length c.loop-one.yielded) c.args.ready.items in
    let rest = drop (length (c.loop-one.yielded ++ c.in-Some.one ∷ [])) c.args.ready.items in
    let step : drop (length c.loop-one.yielded) c.args.ready.items ≡ c.in-Some.one ∷ drop (length (c.loop-one.yielded ++ c.in-Some.one ∷ [])) c.args.ready.items =
    next_is c.args.ready.items c.loop-one.yielded c.in-Some.one
    (YieldsList-turn (YieldsList-from_vec {s = c.into_iter-one-iterator.result} c.args.ready.items (search rules) (search rules)) c.loop-one.yielded c.loop-one.one-iterator c.loop-one.yielded_by c.next.result c.next.new.self c.in-Some.one c.in-Some.is c.next.ensures.steps)
    in
    let next : IsNextReady (key_places c.args.written.now.schema) c.in-Some.one (drop (length (c.loop-one.yielded ++ c.in-Some.one ∷ [])) c.args.ready.items) = next_ready places left c.in-Some.one rest step c.loop-one.invariant.ready in
    let many = ap length step in
    let room = c.loop-one.invariant.room in
    let key_room = c.loop-one.invariant.key_room in
    let gone_of = λ (all : List ReadyChange). map (λ (one : ReadyChange). one.gone) all in
    record {
      schema = c.write_one-gone.ensures.schema ∙ c.loop-one.invariant.schema;
      all =
          ap (wrote_each (key_places c.args.written.now.schema) (drop (length (c.loop-one.yielded ++ c.in-Some.one ∷ [])) c.args.ready.items))
          (c.write_one-gone.ensures.written ∙ ap (λ (s : Schema). wrote_ready (key_places s) c.in-Some.one c.loop-one.written.written) c.loop-one.invariant.schema)
          ∙ wrote_next places left c.in-Some.one rest c.loop-one.written.written step ∙ c.loop-one.invariant.all;
      ready = next.others;
      room = omega (arith, room, many, c.write_one-gone.ensures.spare);
      keys =
          ap (λ (ks : List (Option Row)). ks ++ map (λ (one : ReadyChange). one.gone) (drop (length (c.loop-one.yielded ++ c.in-Some.one ∷ [])) c.args.ready.items)) c.push_reserved.ensures.items
          ∙ append_assoc c.loop-one.keys.items (c.write_one-gone.result ∷ []) (map (λ (one : ReadyChange). one.gone) (drop (length (c.loop-one.yielded ++ c.in-Some.one ∷ [])) c.args.ready.items))
          ∙ ap (λ (k : Option Row). c.loop-one.keys.items ++ k ∷ map (λ (one : ReadyChange). one.gone) (drop (length (c.loop-one.yielded ++ c.in-Some.one ∷ [])) c.args.ready.items)) c.write_one-gone.ensures.gone
          ∙ ap (λ (all : List ReadyChange). c.loop-one.keys.items ++ map (λ (one : ReadyChange). one.gone) all) (sym step) ∙ c.loop-one.invariant.keys;
      key_room = omega (arith, key_room, many, c.push_reserved.ensures.len, c.push_reserved.ensures.capacity);
    }

pub returns : goal.returns
returns c =
    let left = drop (length c.loop-one.yielded) c.args.ready.items in
    let end : drop (length c.loop-one.yielded) c.args.ready.items ≡ [] =
    none_left c.args.ready.items c.loop-one.yielded
    (YieldsList-end (YieldsList-from_vec {s = c.into_iter-one-iterator.result} c.args.ready.items (search rules) (search rules)) c.loop-one.yielded c.loop-one.one-iterator c.loop-one.yielded_by c.next.result c.next.new.self c.in-None.is c.next.ensures.steps).1
    in
    record {
      schema = c.loop-one.invariant.schema;
      written = wrote_none (key_places c.args.written.now.schema) left c.loop-one.written.written end ∙ c.loop-one.invariant.all;
      keys = sym (append-nil c.loop-one.keys.items) ∙ ap (λ (all : List ReadyChange). c.loop-one.keys.items ++ map (λ (one : ReadyChange). one.gone) all) (sym end) ∙ c.loop-one.invariant.keys;
    }
