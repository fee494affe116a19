use Rattle.std.proofs.Common.{◌∙◌, ap, ap₂}
use Rattle.std.proofs.lemmas.Result.{IfOk-weaker}
use Rattle.clap.specs.Simple.{with_subcommand}
use Rattle.clap.specs.Words.{App, Shape}
use Rattle.top_words.proofs.matches.program.Goals as goal

abbrev top_of : App → Shape
top_of app = app.top

pub returns : goal.returns
returns c =
    let first = c.in_ok-subcommand.ensures.shape c.new.ensures.local ∙ ap₂ with_subcommand c.bare_parser.ensures.app (ap top_of c.new.ensures.app) in
    let second = c.in_ok-subcommand-2.ensures.shape c.new-2.ensures.local ∙ ap₂ with_subcommand first (ap top_of c.new-2.ensures.app) in
    let third = c.in_ok-subcommand-3.ensures.shape c.in_ok-workers_parser.ensures.local ∙ ap₂ with_subcommand second (ap top_of c.in_ok-workers_parser.ensures.app) in
    let fourth = c.in_ok-subcommand-4.ensures.shape c.in_ok-generate_parser.ensures.local ∙ ap₂ with_subcommand third (ap top_of c.in_ok-generate_parser.ensures.app) in
    let fifth = c.in_ok-subcommand-5.ensures.shape c.new-3.ensures.local ∙ ap₂ with_subcommand fourth (ap top_of c.new-3.ensures.app) in
    let sixth = c.in_ok-subcommand-6.ensures.shape c.new-4.ensures.local ∙ ap₂ with_subcommand fifth (ap top_of c.new-4.ensures.app) in
    IfOk-weaker c.subcommand-7.result _ _ (λ parser added. added.shape c.in_ok-workers_parser-2.ensures.local ∙ ap₂ with_subcommand sixth (ap top_of c.in_ok-workers_parser-2.ensures.app)) c.subcommand-7.ensures
