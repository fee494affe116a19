use Rattle.std.proofs.Common.{sym, subst}
use Rattle.std.specs.Str.{IsCharBoundary}
use Rattle.std.proofs.lemmas.Str.{IsCharBoundary-after_ascii}
use Rattle.sql_words.proofs.Ends.{text_begins}
use Rattle.sql_words.proofs.word.Word.text_value.Goals as goal

pub range_from-requires : goal.range_from-requires
range_from-requires c =
    let bytes = c.as_bytes-bytes.result.now in
    let first = text_begins bytes (sym c.if-not-is_text.ensures) in
    λ _. subst (λ t. IsCharBoundary t 1) c.as_bytes-bytes.ensures.value (IsCharBoundary-after_ascii bytes 0 c.as_bytes-bytes.ensures.utf8 first.0 first.1)
