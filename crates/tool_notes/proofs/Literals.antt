-- The literals among words, as the code sees them.
use Rattle.std.proofs.Common.{◌≡◌, ◌∙◌, ℕ, ◌≤◌, List, length, take, sym, ap}
use Rattle.std.specs.List.{flat_map}
use Rattle.std.specs.Option.{option_to_list}
use Rattle.std.proofs.lemmas.List.Folds.{flat_map-map}
use Rattle.std.proofs.lemmas.List.{take_all}
use Rattle.base_values.specs.declared.value.Value.{Value}
use Rattle.sql_words.specs.declared.word.Word.{Word}
use Rattle.sql_words.specs.Readings.{view, views}
use Rattle.sql_grammar.specs.WordValues.ReadBack.{word_value}
use Rattle.tool_notes.specs.Readings.{literals_among}

pub viewed : (words : List Word) → literals_among (views words) ≡ flat_map (λ (word : Word). option_to_list (word_value word.class word.text.now)) words
viewed words = flat_map-map (λ word. option_to_list (word_value word.class word.text)) view words

-- the literals among all words, where no word is left
pub viewed_all : (values : List Value) (words : List Word) (place : ℕ) → length words ≤ place → values ≡ flat_map (λ (word : Word). option_to_list (word_value word.class word.text.now)) (take place words) → values ≡ literals_among (views words)
viewed_all values words place past so_far =
    so_far ∙ ap (flat_map (λ (word : Word). option_to_list (word_value word.class word.text.now))) (take_all place words past) ∙ sym (viewed words)
