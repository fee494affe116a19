-- Reading line after line, as a loop does.
use Rattle.std.proofs.Common.{◌≡◌, ℕ, ◌+◌, ◌<◌, ◌≤◌, List, length, map, drop, get_or, Result, Ok, Err, Bor, false, refl, sym, ◌∙◌}
use Rattle.std.specs.Str.{IsUtf8, is_utf8}
use Rattle.std.proofs.lemmas.Bool.{false_from_ne_true}
use Rattle.std.proofs.lemmas.List.{drop_all, drop_more}
use Rattle.std.proofs.lemmas.Str.{IsUtf8-from_is_utf8}
use Rattle.base_values.specs.declared.fault.Fault.{Fault}
use Rattle.base_values.specs.declared.fault.Fault.TheVariants as faults
use Rattle.base_values.specs.Faults.{Refuses}
use Rattle.run_audit.specs.declared.trace.Trace.{Trace}
use Rattle.top_trace_reader.specs.declared.reading.Reading.{Reading}
use Rattle.top_trace_reader.specs.Readings.{after_line, or_line, read_on, whole}

abbrev pub texts : List (Bor (List ℕ)) → List (List ℕ)
texts lines = map (λ (line : Bor (List ℕ)). line.now) lines

module _ (clients number : ℕ) (reading : Reading) (lines : List (Bor (List ℕ))) (i : ℕ) (default : Bor (List ℕ)) (total : Result Trace ℕ) (lt : i < length lines) where
  abbrev read : Result Reading ℕ
  read = or_line number (after_line clients reading (get_or lines i default).now)

  abbrev Here : Type 0
  Here = read_on clients number reading (texts (drop i lines)) ≡ total

  pub goes_on : (next : Reading) → read ≡ Ok next → Here → read_on clients (number + 1) next (texts (drop (i + 1) lines)) ≡ total
  unfolding read_on
  goes_on next e so_far =
      let one : read_on clients number reading (texts (drop i lines)) ≡ read_on clients (number + 1) next (texts (drop (i + 1) lines)) = rw (drop_more lines i default lt, e) refl in
      sym one ∙ so_far

  refuses : (refusal : ℕ) → read ≡ Err refusal → Here → total ≡ Err refusal
  unfolding read_on
  refuses refusal e so_far =
      let one : read_on clients number reading (texts (drop i lines)) ≡ Err refusal = rw (drop_more lines i default lt, e) refl in
      sym so_far ∙ one

  pub fails : (fault : Fault ℕ) → Refuses fault read → Here → Refuses fault total
  fails faults.Memory e so_far = tt
  fails (faults.Refused refusal) e so_far = refuses refusal e so_far

pub over : (clients number : ℕ) (reading : Reading) (lines : List (Bor (List ℕ))) (i : ℕ) (total : Result Trace ℕ) → length lines ≤ i → read_on clients number reading (texts (drop i lines)) ≡ total → total ≡ whole number reading
unfolding read_on
over clients number reading lines i total le so_far =
    let one : read_on clients number reading (texts (drop i lines)) ≡ whole number reading = rw (drop_all i lines le) refl in
    sym so_far ∙ one

-- bytes that are not UTF-8 fail the test for it
pub no_text : (bytes : List ℕ) → ¬ (IsUtf8 bytes) → is_utf8 bytes ≡ false
no_text bytes never = false_from_ne_true (is_utf8 bytes) (λ e. never (IsUtf8-from_is_utf8 bytes e))
