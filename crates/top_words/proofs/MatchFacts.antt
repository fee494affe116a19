-- What the matches of a parse have.
use Rattle.std.proofs.Common.{◌≡◌, ◌∙◌, List, Option, Some, None, option_map, sym, ap, ap₂, codes}
use Rattle.std.specs.Prelude.{Box}
use Rattle.std.specs.Box.{box_value}
use Rattle.std.proofs.lemmas.Option.{same_Some}
use Rattle.clap.specs.Words.{Row, Text, first_value, found_of, rows_of, subcommand_name_of, subcommand_rows, subcommand_rows_of}
use Rattle.clap.specs.declared.parser.matches.ArgMatches.{ArgMatches}
use Rattle.clap.specs.declared.parser.matches.ArgMatches.TheViews.{out-ArgMatches, out-SubCommand}
use Rattle.clap.specs.declared.parser.matches.SubCommand.{SubCommand}
use Rattle.clap.proofs.WalkLemmas.{first_value-rows}
use Rattle.top_words.specs.Matches.{command_chosen, chosen}

answer_in : {Z : Type 0} (sub : Option (Box SubCommand Z)) (name : Text) (rows : List Row) → Some name ≡ option_map (λ b. (out-SubCommand (box_value b)).name.now) sub
    → Some rows ≡ option_map (λ (p : Text × List Row). p.1) (subcommand_rows sub) → subcommand_rows sub ≡ Some (name, rows)
answer_in None name rows named has = absurd (cc)
answer_in (Some b) name rows named has = ap₂ (λ (n : Text) (r : List Row). Some (n, r)) (sym (same_Some _ _ named)) (sym (same_Some _ _ has))

-- a subcommand's name and the numbers in its matches tell the command
pub reported_by : (m inner : ArgMatches) (name : Text) (workers number : Option Text) → Some name ≡ subcommand_name_of m → Some (rows_of (found_of inner)) ≡ option_map (λ (p : Text × List Row). p.1) (subcommand_rows_of m)
    → workers ≡ first_value (found_of inner) (codes "workers") → number ≡ first_value (found_of inner) (codes "number") → command_chosen name workers number ≡ chosen (subcommand_rows_of m)
reported_by m inner name workers number named has workers_is number_is =
    ap₂ (command_chosen name) (workers_is ∙ first_value-rows (found_of inner) (codes "workers")) (number_is ∙ first_value-rows (found_of inner) (codes "number"))
    ∙ sym (ap chosen (answer_in (out-ArgMatches m).subcommand name (rows_of (found_of inner)) named has))
