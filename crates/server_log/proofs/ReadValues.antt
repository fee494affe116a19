-- How values are read one after another.
use Rattle.std.proofs.Common.{◌≡◌, ℕ, zero, suc, ◌-◌, ◌<◌, List, Option, Result, Ok, refl, ap, subst, sym, ◌∙◌, arith}
use Rattle.base_values.specs.declared.value.Value.{Value}
use Rattle.server_log.specs.declared.fault.DecodeFault.{DecodeFault}
use Rattle.server_log.specs.declared.fault.DecodeFault.TheVariants.{Cut, BadTag, BadLength, BadValue, Memory}
use Rattle.server_log.specs.Decodings.{◌>>=◌, Fails, value_at, with_value, values_at}

one_more : (values : Option (List Value)) (n : ℕ) (bytes : List ℕ) → 0 < n → values_at values n bytes ≡ (value_at bytes >>= (λ value. values_at (with_value values value.0) (n - 1) value.1))
unfolding values_at
one_more values zero bytes some = absurd (omega arith)
one_more values (suc n) bytes some = ap (λ m. value_at bytes >>= (λ value. values_at (with_value values value.0) m value.1)) (omega arith)

fails : {A B : Type 0} (fault : DecodeFault) (read : Result A DecodeFault) (next : A → Result B DecodeFault) → Fails fault read → Fails fault (read >>= next)
fails Cut read next e = ap (λ r. r >>= next) e
fails BadTag read next e = ap (λ r. r >>= next) e
fails BadLength read next e = ap (λ r. r >>= next) e
fails BadValue read next e = ap (λ r. r >>= next) e
fails Memory read next e = tt

-- where no value can be read, no values can
pub values_fail : (fault : DecodeFault) (values : Option (List Value)) (n : ℕ) (bytes : List ℕ) → 0 < n → Fails fault (value_at bytes) → Fails fault (values_at values n bytes)
values_fail fault values n bytes some e =
    let failing : Result (Option (List Value) × List ℕ) DecodeFault → Type 0 = λ read. Fails fault read in
    subst failing (sym (one_more values n bytes some)) (fails fault (value_at bytes) (λ value. values_at (with_value values value.0) (n - 1) value.1) e)

pub values_go_on : (values : Option (List Value)) (n : ℕ) (bytes : List ℕ) (value : Option Value) (rest : List ℕ) → 0 < n → value_at bytes ≡ Ok (value, rest) → values_at values n bytes ≡ values_at (with_value values value) (n - 1) rest
values_go_on values n bytes value rest some e = one_more values n bytes some ∙ ap (λ read. read >>= (λ v. values_at (with_value values v.0) (n - 1) v.1)) e

pub values_end : (values : Option (List Value)) (n : ℕ) (bytes : List ℕ) → n ≡ 0 → values_at values n bytes ≡ Ok (values, bytes)
unfolding values_at
values_end values zero bytes none = refl
values_end values (suc n) bytes none = absurd (omega arith)

pub ruleset steps = (values_go_on, values_end)
