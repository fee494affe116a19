use Rattle.std.proofs.Common.{◌≡◌, ◌<◌, ◌++◌, ◌∷◌, [], drop, length, get_or, ap, sym, subst, ◌∙◌, refl, arith, eqb-true, false-eqb}
use Rattle.std.specs.List.{prefix_len}
use Rattle.std.specs.String.{string_bytes}
use Rattle.std.specs.Str.{IsCharBoundary}
use Rattle.std.proofs.lemmas.Str.{IsCharBoundary-after_ascii}
use Rattle.sql_words.specs.Characters.{is_plain}
use Rattle.sql_words.proofs.Ends.{quote_ascii}
use Rattle.sql_words.proofs.Values.{Unquoting-end, AfterRun, AfterRun-of, AfterRun-end, AfterRun-closed, AfterRun-doubled, AfterRun-escaped, AfterRun-bare, run_boundary, special_is, stands-at, ascii_at, wide_at}
use Rattle.sql_words.proofs.meaning.unquoted.Goals as goal
use Rattle.sql_words.proofs.meaning.unquoted.Goals.{After-as_bytes-bytes}

pub split_at-requires : goal.split_at-requires
split_at-requires c =
    let n-is : c.plain_length.result ≡ prefix_len (is_plain c.args.quote) c.loop-rest.rest.now = c.plain_length.ensures ∙ ap (prefix_len (is_plain c.args.quote)) c.as_bytes.ensures.value in
    subst (IsCharBoundary c.loop-rest.rest.now) (sym n-is) (run_boundary c.args.quote c.loop-rest.rest.now (quote_ascii c.args.quote c.requires))

-- what is gathered behind the run of plain bytes, and what follows it
run_at : (c : After-as_bytes-bytes) → AfterRun c.args.quote c.args.text.now (string_bytes c.push_str.new.self) c.as_bytes-bytes.result.now
run_at c =
    let n-is : c.plain_length.result ≡ prefix_len (is_plain c.args.quote) c.loop-rest.rest.now = c.plain_length.ensures ∙ ap (prefix_len (is_plain c.args.quote)) c.as_bytes.ensures.value in
    AfterRun-of c.args.quote c.plain_length.result c.args.text.now (string_bytes c.loop-rest.value) c.loop-rest.rest.now c.split_at.result.0.now c.as_bytes-bytes.result.now (string_bytes c.push_str.new.self) (quote_ascii c.args.quote c.requires) c.loop-rest.invariant n-is c.split_at.ensures.front (c.as_bytes-bytes.ensures.value ∙ c.split_at.ensures.back) c.in_ok-push_str.ensures.bytes

pub returns-then-is_empty : goal.returns-then-is_empty
returns-then-is_empty c =
    let run = run_at (goal.at.returns-then-is_empty c).After-as_bytes-bytes in
    let bytes = c.as_bytes-bytes.result.now in
    AfterRun-end c.args.quote c.args.text.now (string_bytes c.push_str.new.self) bytes run (eqb-true (length bytes) 0 (sym c.if-is_empty.ensures))

pub returns-then-not-stands_at : goal.returns-then-not-stands_at
returns-then-not-stands_at c =
    let run = run_at (goal.at.returns-then-not-stands_at c).After-as_bytes-bytes in
    let ascii = quote_ascii c.args.quote c.requires in
    let bytes = c.as_bytes-bytes.result.now in
    let some : 0 < length bytes = omega (arith, false-eqb (length bytes) 0 c.if-is_empty.ensures) in
    AfterRun-closed c.args.quote c.args.text.now (string_bytes c.push_str.new.self) ascii bytes run some c.if-bytes-quote.true (sym c.if-not-stands_at.ensures)

pub range_from-rest-requires : goal.range_from-rest-requires
range_from-rest-requires c =
    let run = run_at (goal.at.range_from-rest-requires c).After-as_bytes-bytes in
    let ascii = quote_ascii c.args.quote c.requires in
    let bytes = c.as_bytes-bytes.result.now in
    let same : bytes ≡ c.split_at.result.1.now = c.as_bytes-bytes.ensures.value in
    let second = stands-at c.args.quote 1 bytes (sym c.if-not-stands_at.ensures) in
    λ _. subst (λ t. IsCharBoundary t 2) same (IsCharBoundary-after_ascii bytes 1 run.utf8 second.0 (omega (arith, second.1, ascii)))

pub loop-rest-preserved-then-bytes-quote : goal.loop-rest-preserved-then-bytes-quote
loop-rest-preserved-then-bytes-quote c =
    let run = run_at (goal.at.loop-rest-preserved-then-bytes-quote c).After-as_bytes-bytes in
    let ascii = quote_ascii c.args.quote c.requires in
    let bytes = c.as_bytes-bytes.result.now in
    let same : bytes ≡ c.split_at.result.1.now = c.as_bytes-bytes.ensures.value in
    let some : 0 < length bytes = omega (arith, false-eqb (length bytes) 0 c.if-is_empty.ensures) in
    let kept = AfterRun-doubled c.args.quote c.args.text.now (string_bytes c.push_str.new.self) ascii bytes run some c.if-bytes-quote.true (sym c.if-not-stands_at.ensures) in
    let after : c.range_from-rest.result.now ≡ drop 2 bytes = c.range_from-rest.ensures.value ∙ ap (λ t. drop 2 t) (sym same) in
    let pushed : string_bytes c.push.new.self ≡ string_bytes c.push_str.new.self ++ c.args.quote ∷ [] = c.in_ok-push.ensures.bytes ∙ ap (λ t. string_bytes c.push_str.new.self ++ t) (c.in_ok-push.ensures.ascii ascii) in
    rw (after, pushed) kept

pub range_from-rest-requires-then-is_ascii_at : goal.range_from-rest-requires-then-is_ascii_at
range_from-rest-requires-then-is_ascii_at c =
    let run = run_at (goal.at.range_from-rest-requires-then-is_ascii_at c).After-as_bytes-bytes in
    let ascii = quote_ascii c.args.quote c.requires in
    let bytes = c.as_bytes-bytes.result.now in
    let same : bytes ≡ c.split_at.result.1.now = c.as_bytes-bytes.ensures.value in
    let low = ascii_at 1 (length bytes) (get_or bytes 1 0) _ _ refl refl (sym c.if-is_ascii_at.ensures) in
    λ _. subst (λ t. IsCharBoundary t 2) same (IsCharBoundary-after_ascii bytes 1 run.utf8 low.0 low.1)

pub loop-rest-preserved-then-is_ascii_at : goal.loop-rest-preserved-then-is_ascii_at
loop-rest-preserved-then-is_ascii_at c =
    let run = run_at (goal.at.loop-rest-preserved-then-is_ascii_at c).After-as_bytes-bytes in
    let ascii = quote_ascii c.args.quote c.requires in
    let bytes = c.as_bytes-bytes.result.now in
    let same : bytes ≡ c.split_at.result.1.now = c.as_bytes-bytes.ensures.value in
    let low = ascii_at 1 (length bytes) (get_or bytes 1 0) _ _ refl refl (sym c.if-is_ascii_at.ensures) in
    let kept = AfterRun-escaped c.args.quote c.args.text.now (string_bytes c.push_str.new.self) ascii bytes run low.0 c.if-bytes-quote.false low.1 in
    let after : c.range_from-rest-then-is_ascii_at.result.now ≡ drop 2 bytes = c.range_from-rest-then-is_ascii_at.ensures.value ∙ ap (λ t. drop 2 t) (sym same) in
    rw (after, c.in_ok-push_escaped.ensures) kept

pub range_from-rest-requires-else-is_ascii_at : goal.range_from-rest-requires-else-is_ascii_at
range_from-rest-requires-else-is_ascii_at c =
    let run = run_at (goal.at.range_from-rest-requires-else-is_ascii_at c).After-as_bytes-bytes in
    let bytes = c.as_bytes-bytes.result.now in
    let same : bytes ≡ c.split_at.result.1.now = c.as_bytes-bytes.ensures.value in
    let some : 0 < length bytes = omega (arith, false-eqb (length bytes) 0 c.if-is_empty.ensures) in
    let slash = special_is c.args.quote (get_or bytes 0 0) (run.special some) c.if-bytes-quote.false in
    λ _. subst (λ t. IsCharBoundary t 1) same (IsCharBoundary-after_ascii bytes 0 run.utf8 some (omega (arith, slash)))

pub loop-rest-preserved : goal.loop-rest-preserved
loop-rest-preserved c =
    let run = run_at (goal.at.loop-rest-preserved c).After-as_bytes-bytes in
    let ascii = quote_ascii c.args.quote c.requires in
    let bytes = c.as_bytes-bytes.result.now in
    let same : bytes ≡ c.split_at.result.1.now = c.as_bytes-bytes.ensures.value in
    let some : 0 < length bytes = omega (arith, false-eqb (length bytes) 0 c.if-is_empty.ensures) in
    let wide = wide_at 1 (length bytes) (get_or bytes 1 0) _ _ refl refl (sym c.if-is_ascii_at.ensures) in
    let kept = AfterRun-bare c.args.quote c.args.text.now (string_bytes c.push_str.new.self) ascii bytes run some c.if-bytes-quote.false wide in
    let after : c.range_from-rest-else-is_ascii_at.result.now ≡ drop 1 bytes = c.range_from-rest-else-is_ascii_at.ensures.value ∙ ap (λ t. drop 1 t) (sym same) in
    rw after kept

pub returns : goal.returns
returns c = Unquoting-end c.args.quote c.args.text.now (string_bytes c.loop-rest.value) c.loop-rest.rest.now c.loop-rest.invariant (eqb-true (length c.loop-rest.rest.now) 0 (sym c.loop-rest-test.ensures))
