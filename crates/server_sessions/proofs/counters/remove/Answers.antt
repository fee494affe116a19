use Rattle.std.proofs.Common.{not, rules}
use Rattle.std.proofs.lemmas.Fn.{filter_same}
use Rattle.server_model.specs.declared.counter.Counter.{Counter}
use Rattle.server_model.specs.States.{is_counter_of}
use Rattle.server_sessions.proofs.counters.remove.Goals as goal

pub returns : goal.returns
returns c = filter_same _ (λ (counter : Counter). not (is_counter_of c.args.name.now counter)) _ (λ x b f' r. search rules) c.args.counters.now.items c.retain.new.self.items c.retain.ensures.filtered
