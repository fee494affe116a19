use Rattle.std.proofs.Common.{refl}
use Rattle.sql_words.specs.declared.word.WordFault.TheVariants.{Unclosed, Odd, TooLong}
use Rattle.sql_grammar.proofs.Boundaries.{fault_boundary}
use Rattle.sql_grammar.proofs.tokens.text_words.Goals as goal

pub cut_at-requires : goal.cut_at-requires
cut_at-requires c = fault_boundary c.args.text.now c.in-Err-Unclosed.place (Unclosed c.in-Err-Unclosed.place) c.utf8.text (rw c.in-Err-Unclosed.field-0-is at c.in-Err-Unclosed.ensures.fault) refl

pub cut_at-requires-in-Err-Odd : goal.cut_at-requires-in-Err-Odd
cut_at-requires-in-Err-Odd c = fault_boundary c.args.text.now c.in-Err-Odd.place (Odd c.in-Err-Odd.place) c.utf8.text (rw c.in-Err-Odd.field-0-is at c.in-Err-Odd.ensures.fault) refl

pub cut_at-requires-in-Err-TooLong : goal.cut_at-requires-in-Err-TooLong
cut_at-requires-in-Err-TooLong c = fault_boundary c.args.text.now c.in-Err-TooLong.place (TooLong c.in-Err-TooLong.place) c.utf8.text (rw c.in-Err-TooLong.field-0-is at c.in-Err-TooLong.ensures.fault) refl
