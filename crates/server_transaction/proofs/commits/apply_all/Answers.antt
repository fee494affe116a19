use Rattle.std.proofs.Common.{rules, ◌≡◌, ◌∷◌, ◌++◌, ◌≤◌, [], List, length, drop, ap, ◌∙◌, sym, subst, arith}
use Rattle.std.proofs.lemmas.Iterator.Adapters.{YieldsList-from_vec}
use Rattle.std.proofs.lemmas.Iterator.Consumers.{YieldsList-turn, YieldsList-end}
use Rattle.std.specs.List.{AllZip}
use Rattle.std.specs.Vec.Iter.{into_iter_items}
use Rattle.base_values.specs.declared.event.RowEvent.{RowEvent}
use Rattle.table_store.specs.Databases.{database, spare_in}
use Rattle.server_model.specs.Operations.{after_events}
use Rattle.server_transaction.specs.FittingEvents.{EventsFit}
use Rattle.server_transaction.specs.Premises.{IsGoneIn}
use Rattle.server_transaction.specs.Rooms.{puts_in}
use Rattle.server_transaction.proofs.Spares.{IsDone, one_done, next_one, none_after, none_puts}
use Rattle.server_transaction.proofs.LeftItems.{next_is, none_left}
use Rattle.server_transaction.proofs.commits.apply_all.Goals as goal

pub apply-requires-clause-fits : goal.apply-requires-clause-fits
apply-requires-clause-fits c =
    let step : drop (length c.loop-event.yielded) c.args.events.items ≡ c.in-Some.event ∷ drop (length (c.loop-event.yielded ++ c.in-Some.event ∷ [])) c.args.events.items =
    next_is c.args.events.items c.loop-event.yielded c.in-Some.event
    (YieldsList-turn (YieldsList-from_vec {s = c.into_iter-event-iterator.result} c.args.events.items (search rules) (search rules)) c.loop-event.yielded c.loop-event.event-iterator c.loop-event.yielded_by c.next.result c.next.new.self c.in-Some.event c.in-Some.is c.next.ensures.steps)
    in
    (next_one c.loop-event.tables c.in-Some.event (drop (length (c.loop-event.yielded ++ c.in-Some.event ∷ [])) c.args.events.items) (subst (EventsFit (database c.loop-event.tables)) step c.loop-event.invariant.fit)
    (λ name. subst (λ (es : List RowEvent). puts_in name es ≤ spare_in name c.loop-event.tables) step (c.loop-event.invariant.room name))).fits

pub apply-requires-clause-room : goal.apply-requires-clause-room
apply-requires-clause-room c =
    let step : drop (length c.loop-event.yielded) c.args.events.items ≡ c.in-Some.event ∷ drop (length (c.loop-event.yielded ++ c.in-Some.event ∷ [])) c.args.events.items =
    next_is c.args.events.items c.loop-event.yielded c.in-Some.event
    (YieldsList-turn (YieldsList-from_vec {s = c.into_iter-event-iterator.result} c.args.events.items (search rules) (search rules)) c.loop-event.yielded c.loop-event.event-iterator c.loop-event.yielded_by c.next.result c.next.new.self c.in-Some.event c.in-Some.is c.next.ensures.steps)
    in
    (next_one c.loop-event.tables c.in-Some.event (drop (length (c.loop-event.yielded ++ c.in-Some.event ∷ [])) c.args.events.items) (subst (EventsFit (database c.loop-event.tables)) step c.loop-event.invariant.fit)
    (λ name. subst (λ (es : List RowEvent). puts_in name es ≤ spare_in name c.loop-event.tables) step (c.loop-event.invariant.room name))).room

pub loop-event-preserved : goal.loop-event-preserved
loop-event-preserved c =
    let rest = drop (length (c.loop-event.yielded ++ c.in-Some.event ∷ [])) c.args.events.items in
    let step : drop (length c.loop-event.yielded) c.args.events.items ≡ c.in-Some.event ∷ drop (length (c.loop-event.yielded ++ c.in-Some.event ∷ [])) c.args.events.items =
    next_is c.args.events.items c.loop-event.yielded c.in-Some.event
    (YieldsList-turn (YieldsList-from_vec {s = c.into_iter-event-iterator.result} c.args.events.items (search rules) (search rules)) c.loop-event.yielded c.loop-event.event-iterator c.loop-event.yielded_by c.next.result c.next.new.self c.in-Some.event c.in-Some.is c.next.ensures.steps)
    in
    let keys : into_iter_items c.loop-event.keys ≡ c.in-Some-next.gone ∷ into_iter_items c.next-in-loop-event.new.self = search rules in
    let done : IsDone c.loop-event.tables c.apply.new.tables c.in-Some.event (drop (length (c.loop-event.yielded ++ c.in-Some.event ∷ [])) c.args.events.items) (into_iter_items c.next-in-loop-event.new.self) =
    one_done c.loop-event.tables c.apply.new.tables c.in-Some.event rest c.in-Some-next.gone (into_iter_items c.next-in-loop-event.new.self) c.apply.ensures.tables c.apply.ensures.spare c.apply.ensures.others (subst (EventsFit (database c.loop-event.tables)) step c.loop-event.invariant.fit)
    (subst (λ (es : List RowEvent). AllZip (IsGoneIn (database c.loop-event.tables)) es (c.in-Some-next.gone ∷ into_iter_items c.next-in-loop-event.new.self)) step
    (subst (AllZip (IsGoneIn (database c.loop-event.tables)) (drop (length c.loop-event.yielded) c.args.events.items)) keys c.loop-event.invariant.keys))
    (λ name. subst (λ (es : List RowEvent). puts_in name es ≤ spare_in name c.loop-event.tables) step (c.loop-event.invariant.room name))
    in
    record {
      same = done.same ∙ ap (after_events (database c.loop-event.tables)) (sym step) ∙ c.loop-event.invariant.same;
      fit = done.fit;
      keys = done.keys;
      many = search rules;
      room = done.room;
      spare = λ name.
          let one = done.spare name in
          let before = c.loop-event.invariant.spare name in
          let here = ap (puts_in name) step in
          omega (arith, one, before, here);
    }

pub returns : goal.returns
returns c =
    let end : drop (length c.loop-event.yielded) c.args.events.items ≡ [] =
    none_left c.args.events.items c.loop-event.yielded
    (YieldsList-end (YieldsList-from_vec {s = c.into_iter-event-iterator.result} c.args.events.items (search rules) (search rules)) c.loop-event.yielded c.loop-event.event-iterator c.loop-event.yielded_by c.next.result c.next.new.self c.in-None.is c.next.ensures.steps).1
    in
    record {
      tables = none_after (database c.loop-event.tables) (drop (length c.loop-event.yielded) c.args.events.items) end ∙ c.loop-event.invariant.same;
      spare = λ name.
          let before = c.loop-event.invariant.spare name in
          let none = none_puts name (drop (length c.loop-event.yielded) c.args.events.items) end in
          omega (arith, before, none);
    }
