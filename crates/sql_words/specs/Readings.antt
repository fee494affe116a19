-- The words of a text, from its front to its end.
use Rattle.std.specs.Prelude.{◌≡◌, ℕ, zero, suc, ◌+◌, ◌-◌, ◌≤◌, List, [], ◌∷◌, length, take, slice_range, map, Result, Ok, Err}
use Rattle.sql_words.specs.declared.word.WordClass.{WordClass}
use Rattle.sql_words.specs.declared.word.WordFault.{WordFault}
use Rattle.sql_words.specs.declared.word.WordFault.TheVariants.{Unclosed, Odd, TooLong, Memory}
use Rattle.sql_words.specs.declared.word.Word.{Word}
use Rattle.sql_words.specs.declared.front.Front.{Front}
use Rattle.sql_words.specs.declared.front.Front.TheVariants.{Gap, Found}
use Rattle.sql_words.specs.Front.{front_at}

-- a word as contracts see it: its class, its bytes, and the place in the text where it begins
pub record Reading : Type 0 where
  pub class : WordClass
  pub text : List ℕ
  pub place : ℕ

-- what contracts see of a word
abbrev pub view : Word → Reading
view w = record { class = w.class; text = w.text.now; place = w.place }

abbrev pub views : List Word → List Reading
views ws = map view ws

-- one word more in front of the others
abbrev pub with_word : Reading → Result (List Reading) WordFault → Result (List Reading) WordFault
with_word w (Ok others) = Ok (w ∷ others)
with_word w (Err fault) = Err fault

-- the words from this place on, given what is at the front and the words that follow this many bytes
abbrev pub read_on : ℕ → List ℕ → Result Front WordFault → (ℕ → Result (List Reading) WordFault) → Result (List Reading) WordFault
read_on place bytes (Err fault) others = Err fault
read_on place bytes (Ok (Gap n)) others = others n
read_on place bytes (Ok (Found class n)) others = with_word (record { class = class; text = take n bytes; place = place }) (others n)

-- The words of a rest of the text that begins at a place, after the bytes of it that are read already
unfoldable pub words_after : (read place : ℕ) → List ℕ → Result (List Reading) WordFault
words_after read place [] = Ok []
words_after (suc read) place (b ∷ rest) = words_after read (suc place) rest
words_after zero place (b ∷ rest) = read_on place (b ∷ rest) (front_at place (b ∷ rest)) (λ n. words_after (n - 1) (suc place) rest)

-- the words of a text, or its first fault
abbrev pub words_of : List ℕ → Result (List Reading) WordFault
words_of bytes = words_after 0 0 bytes

-- the fault is the one that was met in reading, or out of memory
abbrev pub IsFaultOf : Result (List Reading) WordFault → WordFault → Type 0
IsFaultOf read Memory = Unit {0}
IsFaultOf read (Unclosed place) = read ≡ Err (Unclosed place)
IsFaultOf read (Odd place) = read ≡ Err (Odd place)
IsFaultOf read (TooLong place) = read ≡ Err (TooLong place)

-- the words are slices of the text from this place on, each at its place and none before the end of the one before
abbrev pub StandIn : List ℕ → ℕ → List Reading → Type 0
StandIn text from [] = Unit {0}
StandIn text from (w ∷ ws) = (from ≤ w.place) × (w.text ≡ slice_range text w.place (w.place + length w.text)) × StandIn text (w.place + length w.text) ws
