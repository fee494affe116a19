-- What a source and a sink over memory are, and what one call makes of them.
use Rattle.std.specs.Prelude.{ℕ, ◌+◌, ◌-◌, ◌^◌, min, List, ◌++◌, take, drop, Option, None, Some}
use Rattle.std.specs.Option.{option_map}

-- A source over memory: the bytes left, how many it gives before its fault where one is ordered, and its count of faults.
pub record BytesLeft : Type 0 where
  pub left : List ℕ
  pub until_fault : Option ℕ
  pub faults : ℕ

-- A sink over memory: the bytes held, how many it takes before its fault where one is ordered, and its count of faults.
pub record BytesHeld : Type 0 where
  pub held : List ℕ
  pub until_fault : Option ℕ
  pub faults : ℕ

-- How many of this many bytes pass before the fault. This project's rule.
abbrev pub before_fault : Option ℕ → ℕ → ℕ
before_fault None len = len
before_fault (Some bytes) len = min bytes len

-- How many bytes still pass before the fault, once this many have passed. This project's rule.
abbrev pub nearer_fault : Option ℕ → ℕ → Option ℕ
nearer_fault until_fault len = option_map (λ bytes. bytes - len) until_fault

-- One more fault, where the count isn't at its last value. This project's rule.
abbrev pub one_more : ℕ → ℕ
one_more faults = min (faults + 1) (2 ^ 64 - 1)

-- The source once it gave its first n bytes. This project's rule.
abbrev pub after_taking : BytesLeft → ℕ → BytesLeft
after_taking s n = record { left = drop n s.left; until_fault = nearer_fault s.until_fault n; faults = s.faults }

-- The source once it failed one time more: nothing else changed. This project's rule.
abbrev pub after_source_fault : BytesLeft → BytesLeft
after_source_fault s = record { left = s.left; until_fault = s.until_fault; faults = one_more s.faults }

-- The sink once it took the first n bytes of the piece. This project's rule.
abbrev pub after_giving : BytesHeld → List ℕ → ℕ → BytesHeld
after_giving s piece n = record { held = s.held ++ take n piece; until_fault = nearer_fault s.until_fault n; faults = s.faults }

-- The sink once it failed one time more: nothing else changed. This project's rule.
abbrev pub after_sink_fault : BytesHeld → BytesHeld
after_sink_fault s = record { held = s.held; until_fault = s.until_fault; faults = one_more s.faults }
