use Rattle.law_journals.proofs.causes.accepted_causes_are_least.Goals as goal

pub returns : goal.returns
returns c = λ plan journal cause other was kept stands verdict.
    c.causes_are_least.ensures plan journal cause other (c.read_plans_are_serial.ensures.alterable was.bytes plan was.is) (c.read_plans_are_runnable.ensures plan was) (c.read_plans_are_serial.ensures.serial was.bytes plan was.is)
    (c.read_options_allow.ensures was.bytes plan was.is).tries kept stands verdict
