-- The rule holds of a table with nothing in its words and the book in its slot.
use Rattle.std.proofs.Common.{List, [], ◌∷◌, ◌++◌, Some, sym, ap, ◌∙◌, subst}
use Rattle.std.specs.Prelude.{Option}
use Rattle.atomic_table.specs.Table.{opening}
use Rattle.run_desk.specs.Rule.{AgreesWith, newcomers}
use Rattle.run_desk.proofs.Starts.{starts}
use Rattle.run_desk.proofs.opening.lay.Goals as goal

pub new-requires : goal.new-requires
new-requires g c =
    let o = g.B.SharedState.opening c.args.start.now.shared_state.value in
    let n = c.args.start.now.workers in
    subst (λ (slots : List (Option g.row.B.Denot)). AgreesWith g.B.SharedState.opening g.B.SharedState.entries o n (opening (0 ∷ 0 ∷ 0 ∷ []) slots (newcomers o n)))
    (sym (c.push_reserved.ensures.items ∙ ap (λ (l : List (Option g.row.B.Denot)). l ++ Some c.args.shared_state ∷ []) c.in-Ok.ensures.items))
    (starts g.B.SharedState.opening g.B.SharedState.entries o n c.args.shared_state (ap g.B.SharedState.opening (sym c.requires.start)) c.requires.empty c.requires.few)
