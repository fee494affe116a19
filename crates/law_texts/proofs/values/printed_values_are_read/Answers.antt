use Rattle.base_values.specs.declared.value.Value.TheVariants.{Null, Num, Text, Blob}
use Rattle.sql_grammar.proofs.WordValues.ReadBack.{null_is_name, text_reads_back, bytes_read_back, number_reads_back}
use Rattle.sql_grammar.specs.WordValues.ReadBack.{IsLiteral, ReadsBack}
use Rattle.law_texts.proofs.values.printed_values_are_read.Goals as goal

pub returns : goal.returns
returns c = record {
  literals = λ value. elim value as (λ v. IsLiteral v → ReadsBack v) [
    | Null ↦ λ literal. absurd literal
    | Num number ↦ number_reads_back c.numbers_are_read.ensures.word c.numbers_are_read.ensures.unsigned c.numbers_are_read.ensures.after_minus number
    | Text text ↦ λ literal. text_reads_back text (c.printed_texts_are_read.ensures.word text) (c.printed_texts_are_read.ensures.value text)
    | Blob bytes ↦ λ literal. bytes_read_back bytes (c.printed_bytes_are_read.ensures.word bytes literal) (c.printed_bytes_are_read.ensures.value bytes literal)
  ];
  null = null_is_name;
}
