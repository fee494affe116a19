-- What the book has is what the tool looks at.
use Rattle.std.proofs.Common.{◌≡◌, ℕ, List, [], ◌∷◌, Option, Some, None, refl, sym, ap, ◌∙◌, subst}
use Rattle.server_model.specs.declared.entry.Entry.{Entry}
use Rattle.server_model.specs.States.{State, load}
use Rattle.base_values.specs.ToolNames.{log_name}
use Rattle.plan_data.specs.PlanData.{PlanData}
use Rattle.tool_program.specs.Tools as program
use Rattle.tool_program.specs.Tools.{moment}
use Rattle.tool_program.proofs.OnlineCalls.Machines.{ToolPhaseIsNamed, named}
use Rattle.tool_program.specs.declared.tool_setup.setup.Setup.{Setup}
use Rattle.tool_state.specs.declared.tool_state.tool.Work.{Work}
use Rattle.tool_state.specs.declared.tool_state.tool.Tool.{Tool}
use Rattle.tool_state.specs.ToolState.Meanings.{work_of, tool_phase_in, tool_of}
use Rattle.tool_state.specs.ToolState.Sound.{IsSound, IsFresh}
use Rattle.tool_state.specs.Seen.{IsSeen}
use Rattle.proof_journals.specs.Run.Counts.{numbered, IsAfter}
use Rattle.run_state.specs.declared.run_state.RunState.{RunState}
use Rattle.run_state.specs.Books.{IsRunState}

table_in : (plan : PlanData) (setup : Option Setup) (tries : List ℕ) (work : Work) → ToolPhaseIsNamed plan (tool_phase_in setup tries (work_of work)) → IsFresh plan setup work → work.applier.table ≡ plan.table
table_in plan None tries work named fresh = named.applier
table_in plan (Some setup) tries work named fresh = ap (λ (w : program.Work). w.applier.table) fresh

-- the applier's table is the plan's
table_is : (plan : PlanData) (journal : List Entry) (tool : Tool) → tool_of tool ≡ (moment plan journal).tool → IsSound plan tool → tool.work.applier.table ≡ plan.table
table_is plan journal tool is sound =
    table_in plan tool.setup tool.setup_tries.turns tool.work (subst (λ (t : program.Tool). ToolPhaseIsNamed plan t.tool_phase) (sym is) (named plan journal)) sound.fresh

load_same : (made : ℕ) (state : State) → load (numbered made state) ≡ load state
load_same made state = refl

-- *Seen*
pub seen : (plan : PlanData) (journal : List Entry) (run_state : RunState) (state : State) → IsRunState plan journal run_state → IsAfter (moment plan journal).server state → IsSeen state run_state.tool run_state.names run_state.load
seen plan journal run_state state kept following =
    let table : plan.table ≡ run_state.tool.work.applier.table = sym (table_is plan journal run_state.tool kept.tool kept.sound) in
    record {
      names = kept.names ∙ ap (λ (name : List ℕ). name ∷ log_name name ∷ []) table;
      load = kept.load ∙ sym (load_same state.made (moment plan journal).server) ∙ ap load (sym following.same);
    }
