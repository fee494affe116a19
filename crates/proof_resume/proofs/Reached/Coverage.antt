-- What a reach covers; and a checkpoint stays behind where the tool comes further.
use Rattle.std.proofs.Common.{◌≡◌, Bool, true, false, not, ◌&&◌, Ordering, Less, Equal, Greater, refl, arith}
use Rattle.std.specs.Ordering.{is_lt, is_le, ordering_reverse}
use Rattle.base_values.specs.declared.span.Bound.TheVariants.{Closed}
use Rattle.base_values.specs.KeyOrder.{compare_keys}
use Rattle.base_values.specs.Spans.{below, has}
use Rattle.table_store.proofs.Orders.{turned}
use Rattle.tool_changelog.specs.declared.checkpoint.Reach.{Reach}
use Rattle.tool_changelog.specs.declared.checkpoint.Reach.TheVariants.{Nothing, To, All}
use Rattle.proof_resume.specs.Reached.Coverage.{Covers}
use Rattle.proof_resume.specs.Reached.Laws.{ReachesCover, CheckpointsStayBehind}

not_above : (o back : Ordering) (b : Bool) → back ≡ ordering_reverse o → is_le back ≡ true → not (is_lt o && b) ≡ true
not_above Less Less b turned is = absurd (let no : Less ≡ Greater = turned in cc)
not_above Less Equal b turned is = absurd (let no : Equal ≡ Greater = turned in cc)
not_above Less Greater b turned is = absurd (let no : false ≡ true = is in cc)
not_above Equal back b turned is = refl
not_above Greater back b turned is = refl

-- *Reaches cover their keys.*
pub reaches_cover : ReachesCover
unfolding has
reaches_cover = (λ end top key within. not_above (compare_keys end key) (compare_keys key end) (below (Closed top) key) (turned key end) within, λ key. refl)

-- *Checkpoints stay behind.*
pub stays_behind : CheckpointsStayBehind
stays_behind found position later left less rises shrinks behind = record { behind = let before = behind.behind in omega (arith, before, rises); covered = covers_still found.reach behind.covered } where
  covers_still : (reach : Reach) → Covers reach left → Covers reach less
  covers_still Nothing covers = tt
  covers_still (To reach) covers = λ key within. shrinks key (covers key within)
  covers_still All covers = λ key. shrinks key (covers key)
