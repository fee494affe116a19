use Rattle.std.proofs.Common.{◌≡◌, ◌≤◌, ◌<◌, ◌+◌, length, sym, ap, ◌∙◌, subst, arith}
use Rattle.std.specs.Prelude.{Vec, vec_len, vec_capacity}
use Rattle.std.specs.Global.{Global}
use Rattle.server_model.specs.declared.entry.Entry.{Entry}
use Rattle.run_state.proofs.Keeping.{has_room, room_more}
use Rattle.run_state.proofs.run_state_turns.additions.take.Goals as goal

pub keep-requires-clause-room : goal.keep-requires-clause-room
keep-requires-clause-room c = has_room c.args.run_state.now.plan.now c.args.run_state.now.journal.items c.args.run_state.now c.requires.room c.requires.less

pub push_reserved-requires : goal.push_reserved-requires
push_reserved-requires c =
    let count : vec_len c.args.run_state.now.journal ≡ length c.args.run_state.now.journal.items = c.requires.room.count in
    let turns : c.args.run_state.now.plan.now.options.turn_limit ≤ vec_capacity c.args.run_state.now.journal = c.requires.room.turns in
    let less : length c.args.run_state.now.journal.items < c.args.run_state.now.plan.now.options.turn_limit = c.requires.less in
    subst (λ (turns : Vec Entry Global). vec_len turns < vec_capacity turns) (sym c.keep.ensures.journal) (omega (arith, count, turns, less))

pub returns-clause-room : goal.returns-clause-room
returns-clause-room c =
    room_more c.args.run_state.now.plan.now c.args.run_state.now.journal.items c.args.entry c.args.run_state.now _ c.requires.room c.keep.ensures.tries
    (c.push_reserved.ensures.capacity ∙ ap (λ (turns : Vec Entry Global). vec_capacity turns) c.keep.ensures.journal)
    (c.push_reserved.ensures.len ∙ ap (λ (turns : Vec Entry Global). vec_len turns + 1) c.keep.ensures.journal)
