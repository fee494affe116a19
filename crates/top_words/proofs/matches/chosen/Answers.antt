use Rattle.std.proofs.Common.{◌∙◌}
use Rattle.top_words.proofs.MatchFacts.{reported_by}
use Rattle.top_words.proofs.matches.chosen.Goals as goal

pub returns : goal.returns
returns c =
    c.command_chosen.ensures
    ∙ reported_by c.args.matches.now c.in_ok-name.numbers.now c.in_ok-name.name.now _ _ c.in_ok-name.ensures.name c.in_ok-name.ensures.rows c.get_str.ensures c.get_str-2.ensures
