-- A plan that is read lets a session wait once at least, allows one turn at least, lets a task be tried from once to a thousand
-- times, asks for at most a thousand notes, with 1 to 100,000 turns between two, and lets a replica come on after one turn at least.
use Rattle.std.proofs.Common.{subst}
use Rattle.plan_data.specs.PlanData.{PlanData}
use Rattle.proof_plans.specs.ReadPlans.Options.{IsAllowed, ReadOptionsAllow}
use Rattle.proof_plans.proofs.ReadPlans.Numbers.{options_ranged}
use Rattle.proof_plans.proofs.ReadPlans.Parts.{parts_of}

-- *Read plans allow*
pub allowed : ReadOptionsAllow
allowed bytes plan is =
    let parts = parts_of bytes plan is in
    let ranged = options_ranged parts.members parts.keys parts.said in
    subst (λ (p : PlanData). IsAllowed p.options) parts.same (record {
      client = ranged.client.0;
      tool = ranged.tool.0;
      turns = ranged.turns.0;
      tries = ranged.tries.0;
      few = ranged.tries.1;
      notes = ranged.notes.1;
      between = ranged.note_every.0;
      near = ranged.note_every.1;
      pause = ranged.pause.0;
    })
