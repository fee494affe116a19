-- The number that a name's first bytes spell.
use Rattle.std.specs.Prelude.{◌≡◌, ℕ, zero, suc, ◌+◌, ◌*◌, ◌<◌, List, get_or}

-- the first bytes of a text as a number, the first of them highest, with zeros after the last where there are fewer
unfoldable pub head_of : ℕ → List ℕ → ℕ
head_of zero text = 0
head_of (suc places) text = head_of places text * 256 + get_or text places 0

-- The number is that of the text's first bytes.
pub record IsHead (places : ℕ) (text : List ℕ) (head : ℕ) : Type 0 where
  pub number : head ≡ head_of places text
  pub bytes : (place : ℕ) → place < places → get_or text place 0 < 256
