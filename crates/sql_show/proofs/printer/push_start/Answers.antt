use Rattle.std.proofs.Common.{rules, ◌≡◌, ℕ, List, ◌++◌, Option, Some, append_assoc}
use Rattle.std.specs.Prelude.{codes}
use Rattle.std.specs.Fmt.{decimal}
use Rattle.sql_show.specs.SchemaText.{printed_start}
use Rattle.sql_show.proofs.printer.push_start.Goals as goal

pushed : (into front text : List ℕ) (start : Option ℕ) (number : ℕ) → front ≡ into ++ codes " AUTO_INCREMENT=" → text ≡ front ++ decimal number → start ≡ Some number → text ≡ into ++ printed_start start
pushed into front text start number word digits is = rw (is, digits, word) (append_assoc into (codes " AUTO_INCREMENT=") (decimal number))

pub returns-in_ok-push_number-in-Some : goal.returns-in_ok-push_number-in-Some
returns-in_ok-push_number-in-Some c =
    let digits : c.push_number.new.self ≡ c.push_str.new.self ++ decimal c.in-Some.number = search rules in
    pushed c.args.into.now c.push_str.new.self c.push_number.new.self c.args.start c.in-Some.number c.in_ok-push_str-in-Some.ensures.ok digits c.in-Some.is
