use Rattle.std.proofs.Common.{◌≡◌, ◌∙◌, ap, rules, sym, map, string_bytes}
use Rattle.clap.specs.Words.{App, app_of, is_simple, subcommand_of, takes}
use Rattle.clap.proofs.WalkLemmas.{list_any-map}
use Rattle.top_words.specs.Matches.{is_escape, program}
use Rattle.top_words.proofs.Commands.{escaped, refused, reported_right}
use Rattle.top_words.proofs.line.command_of.Goals as goal

pub returns-then-has_escape : goal.returns-then-has_escape
returns-then-has_escape c = escaped (map string_bytes c.args.words.now) (sym (list_any-map is_escape string_bytes c.args.words.now) ∙ search rules)

pub returns-in-Ok : goal.returns-in-Ok
returns-in-Ok c =
    let words = map string_bytes c.args.words.now in
    let shape : app_of c.in_ok-program.field-0 ≡ program = c.in_ok-program.ensures in
    c.chosen.ensures
    ∙ reported_right words _ ((c.in-Ok.ensures.matches (ap is_simple shape)).1 ∙ ap (λ (app : App). subcommand_of app words) shape) (search rules)

pub returns : goal.returns
returns c =
    let words = map string_bytes c.args.words.now in
    let shape : app_of c.in_ok-program.field-0 ≡ program = c.in_ok-program.ensures in
    refused words (λ taken. c.in_default.not-OutOfMemory (c.kind.ensures ∙ c.in-Err.ensures.passes (ap (λ (app : App). takes app words) shape ∙ taken)))
