use Rattle.std.proofs.Common.{◌≡◌, false, Option, Some, None, sym, ◌∙◌}
use Rattle.std.specs.Option.{is_some}
use Rattle.plan_data.specs.PlanData.{PlanData}
use Rattle.tool_program.specs.CutoverCore.CutOvers.{applier_turn}
use Rattle.tool_program.specs.declared.tool_setup.setup.Setup.{Setup}
use Rattle.tool_state.specs.declared.tool_state.tool.Work.{Work}
use Rattle.tool_state.specs.ToolState.Sound.{IsFresh}
use Rattle.tool_state.proofs.tool_state.tool.Tool.drain.Goals as goal

no_setup : (plan : PlanData) (setup : Option Setup) (work : Work) → is_some setup ≡ false → IsFresh plan setup work
no_setup plan None work none = tt
no_setup plan (Some setup) work none = absurd (cc)

pub returns-clause-sound : goal.returns-clause-sound
unfolding applier_turn
returns-clause-sound c = λ most sound.
    c.leave.ensures.sound most (record {
      copier = sound.copier;
      applier = sound.applier;
      number = sound.number;
      attempts = rw c.applier_turn.ensures sound.attempts;
      taken = sound.taken;
      fresh = no_setup c.args.plan.now c.args.self.now.setup (record c.args.self.now.work { cutover = c.applier_turn.new.self }) (sym c.is_some.ensures ∙ c.if-is_some.false);
    })
