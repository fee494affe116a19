use Rattle.std.proofs.Common.{List, sym, ap, ◌∙◌}
use Rattle.std.specs.Option.{option_map}
use Rattle.server_model.specs.declared.entry.Entry.{Entry}
use Rattle.tool_program.specs.JournalWords.Sessions.{live_session}
use Rattle.tool_program.specs.NoteWriter.Notes.{notes_of}
use Rattle.tool_program.specs.Programs.{tool_asks}
use Rattle.tool_state.specs.NextCalls.{asked_in}
use Rattle.tool_state.specs.ToolState.Meanings.{work_of, tool_of}
use Rattle.run_state.proofs.Givens.{asks_is}
use Rattle.run_state.proofs.Seen.{seen}
use Rattle.run_state.proofs.run_state.RunState.tool_call.Goals as goal

pub next_call-requires-clause-seen : goal.next_call-requires-clause-seen
next_call-requires-clause-seen g c = seen c.args.self.now.plan.now c.args.self.now.journal.items c.args.self.now (g.V.Serve.state c.args.server.now) c.requires.run_state c.requires.state

pub next_call-requires-clause-notes : goal.next_call-requires-clause-notes
next_call-requires-clause-notes g c = c.requires.run_state.notes ∙ ap notes_of (sym c.as_slice.ensures.value)

pub next_call-requires-clause-session : goal.next_call-requires-clause-session
next_call-requires-clause-session g c = c.session.ensures ∙ ap (λ (journal : List Entry). live_session journal c.args.actor) (sym c.as_slice.ensures.value)

pub returns : goal.returns
returns g c =
    let run_state = c.args.self.now in
    let state = g.V.Serve.state c.args.server.now in
    ap (λ (journal : List Entry). option_map (asked_in run_state.plan.now journal (work_of run_state.tool.work)) c.next_call.result) (sym c.as_slice.ensures.value)
    ∙ c.next_call.ensures
    ∙ ap (λ (journal : List Entry). tool_asks run_state.plan.now journal (record { server = state; tool = tool_of run_state.tool }) c.args.actor) c.as_slice.ensures.value
    ∙ asks_is run_state.plan.now run_state.journal.items state (tool_of run_state.tool) c.args.actor c.requires.state c.requires.run_state.tool
