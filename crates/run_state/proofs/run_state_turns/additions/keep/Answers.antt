use Rattle.std.proofs.Common.{rules, ◌≡◌, ◌<◌, ◌≤◌, List, length, sym, ap, ◌∙◌, subst, arith}
use Rattle.std.specs.List.{AllByRecursion}
use Rattle.tool_program.specs.declared.note_writer.notes.Notes.{Notes}
use Rattle.tool_program.proofs.NoteWriter.Counts.{begun_few, behind_few}
use Rattle.tool_program.specs.Tools.{moment}
use Rattle.tool_program.specs.Orders.{actors}
use Rattle.run_actors.specs.declared.actor_state.ActorState.{ActorState}
use Rattle.run_actors.proofs.More.{few_turns}
use Rattle.run_state.proofs.Keeping.{run_state_more, tool_turns}
use Rattle.run_state.proofs.ActorStates.{renames_is}
use Rattle.std.specs.List.{list_any}
use Rattle.tool_program.specs.JournalWords.Histories.{entry_adds, is_alter}
use Rattle.tool_state.specs.ToolState.Meanings.{tool_of}
use Rattle.tool_state.specs.declared.tool_state.tool.Tool.{Tool}
use Rattle.tool_state.specs.ToolState.Sound.{IsSound, TriesGrow}
use Rattle.run_state.specs.declared.run_state.RunState.{RunState}
use Rattle.run_state.proofs.run_state_turns.additions.keep.Goals as goal

pub took-requires-clause-turns : goal.took-requires-clause-turns
took-requires-clause-turns c =
    let turns : c.args.run_state.now.tool.turns ≡ length c.args.run_state.now.journal.items = tool_turns c.args.run_state.now.plan.now c.args.run_state.now.journal.items c.args.run_state.now.tool c.requires.run_state.tool in
    omega (arith, turns, c.requires.few)

pub take-requires-clause-begun : goal.take-requires-clause-begun
take-requires-clause-begun c =
    let begun : c.args.run_state.now.notes.begun ≤ length c.args.run_state.now.journal.items =
    subst (λ (notes : Notes). notes.begun ≤ length c.args.run_state.now.journal.items) (sym c.requires.run_state.notes) (begun_few c.args.run_state.now.journal.items) in
    omega (arith, begun, c.requires.few)

pub take-requires-clause-behind : goal.take-requires-clause-behind
take-requires-clause-behind c =
    let behind : c.args.run_state.now.notes.behind ≤ length c.args.run_state.now.journal.items =
    subst (λ (notes : Notes). notes.behind ≤ length c.args.run_state.now.journal.items) (sym c.requires.run_state.notes) (behind_few c.args.run_state.now.journal.items) in
    omega (arith, behind, c.requires.few)

pub take_turn-requires : goal.take_turn-requires
take_turn-requires c =
    let few : length c.args.run_state.now.journal.items < 4294967296 = c.requires.run_state.few in
    subst (λ (actor_states : List ActorState). AllByRecursion (λ (actor_state : ActorState). actor_state.turns < 4294967296) actor_states) (search rules) (few_turns c.args.run_state.now.plan.now.table c.args.run_state.now.journal.items 4294967296 (actors c.args.run_state.now.plan.now) few)

pub returns-clause-run_state : goal.returns-clause-run_state
returns-clause-run_state c =
    run_state_more c.args.run_state.now.plan.now c.args.run_state.now.journal.items c.args.entry.now c.args.run_state.now _ c.requires.run_state c.requires.planned c.requires.few
    (record {
      tool = ap (λ (run_state : RunState). tool_of run_state.tool) c.clients_took.ensures.rest ∙ c.took.ensures.took (moment c.args.run_state.now.plan.now c.args.run_state.now.journal.items).server c.requires.work;
      sound = subst (IsSound c.args.run_state.now.plan.now) (sym (ap (λ (run_state : RunState). run_state.tool) c.clients_took.ensures.rest)) c.took.ensures.sound;
      notes = search rules;
      names = search rules;
      actor_states = search rules;
      clients = search rules;
      load = search rules;
      busy = search rules;
      altered = let facts : c.is_alter_turn-alters.result ≡ list_any is_alter (entry_adds c.args.run_state.now.plan.now c.args.run_state.now.journal.items c.args.entry.now) = c.is_alter_turn-alters.ensures c.args.run_state.now.plan.now c.args.run_state.now.journal.items (search rules) (search (rules, renames_is)) in search rules;
    })

pub returns-clause-tries : goal.returns-clause-tries
returns-clause-tries c = subst (λ (tool : Tool). TriesGrow c.args.run_state.now.tool tool) (sym (ap (λ (run_state : RunState). run_state.tool) c.clients_took.ensures.rest)) c.took.ensures.tries
