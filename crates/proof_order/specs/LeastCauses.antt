-- *The verdict is the least cause*: none stands at an earlier turn; and at one turn a row that doesn't fit comes before a task that
-- is spent, and the cut-over comes last of these, as the applier's answer is taken before its turn counts for the drain.
use Rattle.std.specs.Prelude.{◌≡◌, ◌≤◌, ℕ, List, fold}
use Rattle.server_model.specs.declared.outcome.Cause.{Cause}
use Rattle.server_model.specs.declared.outcome.Cause.TheVariants as causes
use Rattle.server_model.specs.declared.outcome.Task.TheVariants as tasks

-- the last of some turns; 0 where there is none
abbrev pub last_of : List ℕ → ℕ
last_of turns = fold (λ last turn. turn) 0 turns

-- *Last turn*: the one by which a cause stands.
abbrev pub last_turn : Cause → ℕ
last_turn (causes.Unfit turn key column number) = turn
last_turn (causes.Spent task turns) = last_of turns
last_turn (causes.Panic turn) = turn

-- *Rank*: the place of a cause among those of one turn
abbrev pub rank : Cause → ℕ
rank (causes.Unfit turn key column number) = 0
rank (causes.Panic turn) = 0
rank (causes.Spent tasks.CutOver turns) = 2
rank (causes.Spent task turns) = 1

-- *No later*: the one cause stands by an earlier turn, or by the same and at no later place
pub record IsNoLater (cause other : Cause) : Type 0 where
  pub turn : last_turn cause ≤ last_turn other
  pub place : last_turn cause ≡ last_turn other → rank cause ≤ rank other
