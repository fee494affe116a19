-- What a reach means whose key is seen where it lies. (This project's rule.)
use Rattle.tool_changelog.specs.declared.checkpoint.Reach.{Reach}
use Rattle.tool_changelog.specs.declared.checkpoint.Reach.TheVariants as reaches
use Rattle.tool_program.specs.declared.chunk_copier.reach.ReachView.{ReachView}
use Rattle.tool_program.specs.declared.chunk_copier.reach.ReachView.TheVariants.{Nothing, To, All}

abbrev pub reach_meant : ReachView → Reach
reach_meant Nothing = reaches.Nothing
reach_meant (To key) = reaches.To key.now
reach_meant All = reaches.All
