use Rattle.std.proofs.Common.{◌≡◌, map, drop}
use Rattle.plan_reader.specs.Clients.{client_script, scripts_of}
use Rattle.plan_reader.specs.Walks.{each_from}
use Rattle.plan_reader.proofs.Walks.{with_front}
use Rattle.plan_reader.proofs.clients.scripts_of.Given as goal

-- the scripts so far, and those that are still read, are those of all the texts
abbrev pub invariant-loop-text : goal.invariant-loop-text
invariant-loop-text l = with_front l.scripts (each_from (client_script l.tools) l.client (map (λ text. text.now) (drop l.text-index l.texts))) ≡ scripts_of l.tools (map (λ text. text.now) l.texts)
