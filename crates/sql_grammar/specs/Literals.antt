-- Which words are literals, and how each is written (MySQL's manual, "Literal Values").
use Rattle.std.specs.Prelude.{codes, ℕ, ℤ, List, Option, Some, None, if◌then◌else◌}
use Rattle.std.specs.Option.{option_map}
use Rattle.sql_words.specs.declared.word.WordClass.{WordClass}
use Rattle.sql_words.specs.declared.word.WordClass.TheVariants as class
use Rattle.sql_words.specs.Meanings.{number_value, written_text, written_bytes}
use Rattle.base_values.specs.GhoSchema.Names.{same_name}
use Rattle.sql_grammar.specs.declared.literals.LiteralRef.{LiteralRef}
use Rattle.sql_grammar.specs.declared.literals.LiteralRef.TheVariants as refs

-- a literal as it is written: NULL, a number, a text or the digits of bytes, both without their quotes
pub data Literal : Type 0 where
  IsNull : Literal
  IsNumber : ℤ → Literal
  IsText : List ℕ → Literal
  IsBytes : List ℕ → Literal

-- NULL in letters of either case, and no other name
abbrev pub null_literal : List ℕ → Option Literal
null_literal text = if same_name text (codes "NULL") then Some IsNull else None

-- *Literal of a word*: NULL, a number of at most 38 digits, a text or bytes; none where it is another word
abbrev pub written_literal : WordClass → List ℕ → Option Literal
written_literal class.Name text = null_literal text
written_literal class.Number text = option_map IsNumber (number_value text)
written_literal class.Text text = option_map IsText (written_text text)
written_literal class.Bytes text = option_map IsBytes (written_bytes text)
written_literal class.Quoted text = None
written_literal class.Sign text = None

-- the literal that borrows its word
abbrev pub literal : LiteralRef → Literal
literal refs.Null = IsNull
literal (refs.Num number) = IsNumber number
literal (refs.Text text) = IsText text.now
literal (refs.Blob digits) = IsBytes digits.now
