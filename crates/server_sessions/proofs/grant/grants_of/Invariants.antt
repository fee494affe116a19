use Rattle.std.proofs.Common.{◌≡◌, map, take}
use Rattle.server_sessions.specs.LiveSessions.KeptSessions.{grant_of}
use Rattle.server_sessions.proofs.grant.grants_of.Given as goal

-- the grants of the names so far are there
abbrev pub invariant-loop-name : goal.invariant-loop-name
invariant-loop-name l = l.grants.items ≡ map (grant_of l.table.held l.number l.exclusive) (take l.name-index l.names)
