-- Strings of a workload's document.
use Rattle.std.proofs.Common.{◌≡◌, ◌∙◌, ℕ, zero, suc, ◌<◌, ◌==◌, Bool, true, false, List, [], ◌∷◌, ◌++◌, length, Some, refl, sym, ap, arith, append-nil, length-append}
use Rattle.std.proofs.lemmas.Bool.{and_parts}
use Rattle.std.proofs.lemmas.Bool.Decides.{nat_tests}
use Rattle.std.specs.List.{list_all}
use Rattle.toml_parser.specs.Strings.{is_plain, special, prepend, body, one_line, quoted}
use Rattle.toml_parser.proofs.StringsLemmas.{prepend-nil, prepend-prepend, body_plain}
use Rattle.toml.specs.Data.{string}
use Rattle.toml.specs.Parse.{read_map, atom, val}
use Rattle.toml.proofs.Turns.{val_atom}
use Rattle.law_texts.proofs.Workloads.Document.Bytes.{is_inner, inner_pass}

-- plain bytes in front are taken as they are, and something is left to read with
record Took (multi : Bool) (taken rest : List ℕ) (fuel : ℕ) : Type 0 where
  left : ℕ
  took : body 34 multi fuel (taken ++ rest) ≡ prepend taken (body 34 multi (suc left) rest)

takes : (multi : Bool) (taken rest : List ℕ) (fuel : ℕ) → list_all (is_plain 34 multi) taken ≡ true → length taken < fuel → Took multi taken rest fuel
takes multi taken rest zero plain room = absurd (omega arith)
takes multi [] rest (suc fuel) plain room = record { left = fuel; took = sym (prepend-nil _) }
takes multi (byte ∷ taken) rest (suc fuel) plain room =
    let parts = and_parts (is_plain 34 multi byte) (list_all (is_plain 34 multi) taken) plain in
    let more = takes multi taken rest fuel parts.1 (omega arith) in
    record { left = more.left; took = body_plain 34 multi fuel byte (taken ++ rest) parts.0 ∙ ap (prepend (byte ∷ [])) more.took ∙ prepend-prepend (byte ∷ []) taken _ }

-- ---- on one line

one_closed : (left : ℕ) (rest : List ℕ) → body 34 false (suc left) (34 ∷ rest) ≡ Some ([], rest)
unfolding body special
one_closed left rest = refl

-- text in quotes that doesn't begin with a quote
one_read : (byte : ℕ) (text rest : List ℕ) → (byte == 34) ≡ false → list_all (is_plain 34 false) (byte ∷ text) ≡ true → quoted (34 ∷ byte ∷ (text ++ (34 ∷ rest))) ≡ Some (byte ∷ text, rest)
unfolding quoted one_line
one_read byte text rest other plain =
    let whole : List ℕ = 34 ∷ byte ∷ (text ++ (34 ∷ rest)) in
    let read = takes false (byte ∷ text) (34 ∷ rest) (length whole) plain (omega (arith, length-append text (34 ∷ rest))) in
    rw other (read.took ∙ ap (prepend (byte ∷ text)) (one_closed read.left rest) ∙ ap (λ (bytes : List ℕ). Some (bytes, rest)) (append-nil (byte ∷ text)))

-- ---- on several lines, the first of which is empty

many_closed : (left : ℕ) (rest : List ℕ) → body 34 true (suc left) (34 ∷ 34 ∷ 34 ∷ 44 ∷ rest) ≡ Some ([], 44 ∷ rest)
unfolding body special
many_closed left rest = refl

many_read : (text rest : List ℕ) → list_all (is_plain 34 true) text ≡ true → quoted (34 ∷ 34 ∷ 34 ∷ 10 ∷ (text ++ (34 ∷ 34 ∷ 34 ∷ 44 ∷ rest))) ≡ Some (text, 44 ∷ rest)
unfolding quoted
many_read text rest plain =
    let whole : List ℕ = 34 ∷ 34 ∷ 34 ∷ 10 ∷ (text ++ (34 ∷ 34 ∷ 34 ∷ 44 ∷ rest)) in
    let read = takes true text (34 ∷ 34 ∷ 34 ∷ 44 ∷ rest) (length whole) plain (omega (arith, length-append text (34 ∷ 34 ∷ 34 ∷ 44 ∷ rest))) in
    read.took ∙ ap (prepend text) (many_closed read.left rest) ∙ ap (λ (bytes : List ℕ). Some (bytes, 44 ∷ rest)) (append-nil text)

-- ---- as values

string_value : (depth : ℕ) (text said rest : List ℕ) → quoted (34 ∷ text) ≡ Some (said, rest) → val depth (34 ∷ text) ≡ Some (string said, rest)
unfolding atom
string_value depth text said rest read = val_atom depth (34 ∷ text) refl refl ∙ ap (read_map string) read

-- bytes that are plain in strings
plain_one : (byte : ℕ) → is_inner byte ≡ true → is_plain 34 false byte ≡ true
plain_one byte inner = grind (arith, nat_tests)

pub plain_many : (byte : ℕ) → is_inner byte ≡ true → is_plain 34 true byte ≡ true
plain_many byte inner = grind (arith, nat_tests)

pub one_value : (depth byte : ℕ) (text rest : List ℕ) → (byte == 34) ≡ false → list_all is_inner (byte ∷ text) ≡ true → val depth (34 ∷ byte ∷ (text ++ (34 ∷ rest))) ≡ Some (string (byte ∷ text), rest)
one_value depth byte text rest other inner = string_value depth (byte ∷ (text ++ (34 ∷ rest))) (byte ∷ text) rest (one_read byte text rest other (inner_pass (is_plain 34 false) plain_one (byte ∷ text) inner))

pub many_value : (depth : ℕ) (text rest : List ℕ) → list_all (is_plain 34 true) text ≡ true → val depth (34 ∷ 34 ∷ 34 ∷ 10 ∷ (text ++ (34 ∷ 34 ∷ 34 ∷ 44 ∷ rest))) ≡ Some (string text, 44 ∷ rest)
many_value depth text rest plain = string_value depth (34 ∷ 34 ∷ 10 ∷ (text ++ (34 ∷ 34 ∷ 34 ∷ 44 ∷ rest))) text (44 ∷ rest) (many_read text rest plain)
