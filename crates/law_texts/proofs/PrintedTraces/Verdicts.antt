-- A printed verdict is read as that verdict.
use Rattle.std.proofs.Common.{◌≡◌, ◌∙◌, ℕ, ◌<◌, ◌^◌, ◌==◌, true, false, not, nat_lt, List, [], ◌∷◌, ◌++◌, length, map, Option, Some, None, Ok, refl, sym, ap, subst, codes, arith, append-nil, append_assoc}
use Rattle.std.specs.Prelude.{pos}
use Rattle.std.specs.Fmt.{decimal}
use Rattle.std.specs.List.{AllByRecursion, flat_map, list_all}
use Rattle.std.specs.Option.{option_map}
use Rattle.std.proofs.lemmas.Bool.Decides.{nat_tests}
use Rattle.base_values.specs.declared.value.Value.{Value}
use Rattle.base_values.specs.declared.value.Value.TheVariants.{Num, Text}
use Rattle.base_values.specs.Literals.{escaped, printed, printed_row}
use Rattle.base_values.specs.GhoSchema.Names.{same_name}
use Rattle.base_values.specs.GhoSchema.Options.{◌>>=◌}
use Rattle.sql_words.specs.declared.word.WordClass.TheVariants as class
use Rattle.sql_words.specs.declared.front.Front.TheVariants.{Found}
use Rattle.sql_words.specs.Front.{front_at}
use Rattle.sql_grammar.specs.declared.token.Token.{Token}
use Rattle.sql_grammar.specs.declared.tokens.TextWords.{TextWords}
use Rattle.sql_grammar.specs.Tokens.{is_keyword}
use Rattle.server_model.specs.declared.outcome.Cause.{Cause}
use Rattle.server_model.specs.declared.outcome.Cause.TheVariants.{Unfit, Spent, Panic}
use Rattle.server_model.specs.declared.outcome.Task.{Task}
use Rattle.server_model.specs.declared.outcome.Task.TheVariants.{Setup, Chunk, Batch, CutOver}
use Rattle.server_model.specs.declared.outcome.Verdict.{Verdict}
use Rattle.server_model.specs.declared.outcome.Verdict.TheVariants.{Done, Reverted, Unfinished}
use Rattle.proof_schemas.specs.Printed.Laws.{CanPrintValue}
use Rattle.proof_schemas.specs.Printed.Words.{keyword, number_word}
use Rattle.proof_schemas.proofs.Printed.Lexing.{Lexes, Writes, lex-end, lex-gap, lex-word}
use Rattle.proof_schemas.proofs.Printed.Numbers.{number_value-decimal}
use Rattle.proof_schemas.proofs.Printed.Pieces.{writes-number, writes-text}
use Rattle.proof_schemas.proofs.Printed.Tables.{lexes-words}
use Rattle.top_words.specs.Numbers.{number_of}
use Rattle.top_report.specs.Verdicts.{cause_text, spaced_turns, task_text, verdict_line}
use Rattle.top_trace_reader.specs.Lines.{is_journal}
use Rattle.top_trace_reader.specs.Literals.{has_none, literals_in, number_in, numbers_in}
use Rattle.top_trace_reader.specs.Turns.{turn_in}
use Rattle.top_trace_reader.specs.Verdicts.{cause_in, ended_in, error_in, loose_verdict, panic_in, spent_in, unfit_in, verdict_in, verdict_printed_so}
use Rattle.top_trace_reader.proofs.Endings.{two_taken}
use Rattle.law_texts.specs.PrintedTraces.{CanPrintCause, CanPrintRow, CanPrintTask, CanPrintVerdict}
use Rattle.law_texts.proofs.Workloads.Lexed.{short, text_word, last_number}
use Rattle.law_texts.proofs.Workloads.Literals.{number_literal, text_literal}
use Rattle.law_texts.proofs.PrintedTraces.Lines.{Avoids, avoids-append, avoids-decimal, avoids-known, parts, parts-first}
use Rattle.law_texts.proofs.PrintedTraces.Rows.{closes-row, literal_first, literal_none, literals-append, literals_row, one_line_row, one_line_text, row_words, same_text}

-- ---- pieces of its text

-- a name and the blank after it
name_then : (name rest : List ℕ) (words : List Token) → 0 < length name → ((place : ℕ) → front_at place (name ++ 32 ∷ rest) ≡ Ok (Found class.Name (length name))) → Lexes rest words → Lexes (name ++ 32 ∷ rest) (keyword name ∷ words)
name_then name rest words some front lex = lex-word class.Name name (32 ∷ rest) words some front (lex-gap 32 rest words refl lex)

writes-decimal : (n : ℕ) → n < 2 ^ 64 → Writes (decimal n) (number_word (decimal n) ∷ [])
writes-decimal n wide = writes-number (decimal n) (pos n) (number_value-decimal n (short n wide))

-- a number and the blank after it
number_then : (n : ℕ) (rest : List ℕ) (words : List Token) → n < 2 ^ 64 → Lexes rest words → Lexes (decimal n ++ 32 ∷ rest) (number_word (decimal n) ∷ words)
number_then n rest words wide lex = writes-decimal n wide (32 ∷ rest) words (refl, refl, refl) (lex-gap 32 rest words refl lex)

abbrev number_words : List ℕ → List Token
number_words numbers = map (λ number. number_word (decimal number)) numbers

-- a number, and others that each have a blank before them
lex_numbers : (number : ℕ) (numbers : List ℕ) → AllByRecursion (λ one. one < 2 ^ 64) (number ∷ numbers) → Lexes (decimal number ++ spaced_turns numbers) (number_words (number ∷ numbers))
unfolding spaced_turns
lex_numbers number [] all = writes-decimal number all.0 [] [] tt lex-end
lex_numbers number (next ∷ numbers) all = number_then number (decimal next ++ spaced_turns numbers) (number_words (next ∷ numbers)) all.0 (lex_numbers next numbers all.1)

-- ---- the words of a cause

abbrev unfit_text : ℕ → List Value → List ℕ → ℕ → List ℕ
unfit_text turn key column number = codes "reverted unfit turn " ++ (decimal turn ++ (codes " key " ++ (printed_row key ++ (codes " column " ++ (printed (Text column) ++ (codes " " ++ decimal number))))))

unfit_apart : (turn key column number : List ℕ)
    → codes "reverted " ++ (codes "unfit turn " ++ turn ++ codes " key " ++ key ++ codes " column " ++ column ++ codes " " ++ number)
    ≡ codes "reverted unfit turn " ++ (turn ++ (codes " key " ++ (key ++ (codes " column " ++ (column ++ (codes " " ++ number))))))
unfit_apart turn key column number = simp append_assoc

abbrev ending_words : List ℕ → ℕ → List Token
ending_words column number = keyword (codes "column") ∷ text_word column ∷ number_word (decimal number) ∷ []

abbrev unfit_words : ℕ → List Value → List ℕ → ℕ → List Token
unfit_words turn key column number = number_word (decimal turn) ∷ keyword (codes "key") ∷ (row_words key ++ ending_words column number)

lex_ending : (column : List ℕ) (number : ℕ) → number < 2 ^ 64 → Lexes (codes "column " ++ (printed (Text column) ++ (codes " " ++ decimal number))) (ending_words column number)
unfolding front_at printed
lex_ending column number wide =
    name_then (codes "column") (printed (Text column) ++ (codes " " ++ decimal number)) _ (omega arith) (λ place. refl)
    (writes-text column (codes " " ++ decimal number) _ (refl, refl, refl) (lex-gap 32 (decimal number) _ refl (last_number number wide)))

lex_unfit : (turn : ℕ) (key : List Value) (column : List ℕ) (number : ℕ) → turn < 2 ^ 64 → AllByRecursion CanPrintValue key → number < 2 ^ 64
    → Lexes (unfit_text turn key column number) (keyword (codes "reverted") ∷ keyword (codes "unfit") ∷ keyword (codes "turn") ∷ unfit_words turn key column number)
unfolding front_at
lex_unfit turn key column number wide can also =
    let ending : List ℕ = codes "column " ++ (printed (Text column) ++ (codes " " ++ decimal number)) in
    let row : Lexes (printed_row key ++ 32 ∷ ending) (row_words key ++ ending_words column number) = closes-row key can (32 ∷ ending) (ending_words column number) (lex-gap 32 ending (ending_words column number) refl (lex_ending column number also)) in
    let keyed : Lexes (codes "key" ++ 32 ∷ (printed_row key ++ 32 ∷ ending)) (keyword (codes "key") ∷ (row_words key ++ ending_words column number)) =
    name_then (codes "key") (printed_row key ++ 32 ∷ ending) (row_words key ++ ending_words column number) (omega arith) (λ place. refl) row in
    let numbered = number_then turn (codes "key" ++ 32 ∷ (printed_row key ++ 32 ∷ ending)) _ wide keyed in
    let rest : List ℕ = decimal turn ++ 32 ∷ (codes "key" ++ 32 ∷ (printed_row key ++ 32 ∷ ending)) in
    name_then (codes "reverted") (codes "unfit turn " ++ rest) _ (omega arith) (λ place. refl)
    (name_then (codes "unfit") (codes "turn " ++ rest) _ (omega arith) (λ place. refl) (name_then (codes "turn") rest _ (omega arith) (λ place. refl) numbered))

-- the turns of a task's tries
abbrev tries_words : List ℕ → List Token
tries_words turns = keyword (codes "turns") ∷ number_words turns

lex_tries : (turns : List ℕ) → 0 < length turns → AllByRecursion (λ turn. turn < 2 ^ 64) turns → Lexes (codes "turns" ++ spaced_turns turns) (tries_words turns)
unfolding front_at spaced_turns
lex_tries [] some all = absurd (omega arith)
lex_tries (turn ∷ turns) some all = name_then (codes "turns") (decimal turn ++ spaced_turns turns) (number_words (turn ∷ turns)) (omega arith) (λ place. refl) (lex_numbers turn turns all)

spent_apart : (task turns : List ℕ) → codes "reverted " ++ (codes "spent " ++ task ++ codes " turns" ++ turns) ≡ codes "reverted spent " ++ (task ++ (codes " turns" ++ turns))
spent_apart task turns = simp append_assoc

-- the first word of a task, and its number
abbrev task_name : Task → List ℕ
task_name Setup = codes "setup"
task_name (Chunk number) = codes "chunk"
task_name (Batch position) = codes "batch"
task_name CutOver = codes "cutover"

abbrev task_numbers : Task → List ℕ
task_numbers Setup = []
task_numbers (Chunk number) = number ∷ []
task_numbers (Batch position) = position ∷ []
task_numbers CutOver = []

abbrev spent_words : Task → List ℕ → List Token
spent_words task turns = number_words (task_numbers task) ++ tries_words turns

lex_task : (task : Task) (turns : List ℕ) → CanPrintTask task → Lexes (codes "turns" ++ spaced_turns turns) (tries_words turns)
    → Lexes (task_text task ++ (codes " turns" ++ spaced_turns turns)) (keyword (task_name task) ∷ spent_words task turns)
unfolding front_at task_text
lex_task Setup turns can lex = name_then (codes "setup") (codes "turns" ++ spaced_turns turns) (tries_words turns) (omega arith) (λ place. refl) lex
lex_task (Chunk number) turns can lex =
    name_then (codes "chunk") (decimal number ++ 32 ∷ (codes "turns" ++ spaced_turns turns)) _ (omega arith) (λ place. refl) (number_then number (codes "turns" ++ spaced_turns turns) (tries_words turns) can lex)
lex_task (Batch position) turns can lex =
    name_then (codes "batch") (decimal position ++ 32 ∷ (codes "turns" ++ spaced_turns turns)) _ (omega arith) (λ place. refl) (number_then position (codes "turns" ++ spaced_turns turns) (tries_words turns) can lex)
lex_task CutOver turns can lex = name_then (codes "cutover") (codes "turns" ++ spaced_turns turns) (tries_words turns) (omega arith) (λ place. refl) lex

lex_spent : (task : Task) (turns : List ℕ) → CanPrintTask task → 0 < length turns → AllByRecursion (λ turn. turn < 2 ^ 64) turns
    → Lexes (codes "reverted spent " ++ (task_text task ++ (codes " turns" ++ spaced_turns turns))) (keyword (codes "reverted") ∷ keyword (codes "spent") ∷ keyword (task_name task) ∷ spent_words task turns)
unfolding front_at
lex_spent task turns can some all =
    let rest : List ℕ = task_text task ++ (codes " turns" ++ spaced_turns turns) in
    name_then (codes "reverted") (codes "spent " ++ rest) _ (omega arith) (λ place. refl) (name_then (codes "spent") rest _ (omega arith) (λ place. refl) (lex_task task turns can (lex_tries turns some all)))

lex_panic : (turn : ℕ) → turn < 2 ^ 64 → Lexes (codes "reverted panic turn " ++ decimal turn) (keyword (codes "reverted") ∷ keyword (codes "panic") ∷ keyword (codes "turn") ∷ number_word (decimal turn) ∷ [])
unfolding front_at
lex_panic turn wide =
    name_then (codes "reverted") (codes "panic turn " ++ decimal turn) _ (omega arith) (λ place. refl)
    (name_then (codes "panic") (codes "turn " ++ decimal turn) _ (omega arith) (λ place. refl) (name_then (codes "turn") (decimal turn) _ (omega arith) (λ place. refl) (last_number turn wide)))

-- ---- what they say

abbrev values_of : List ℕ → List Value
values_of numbers = map (λ number. Num (pos number)) numbers

none_in : literals_in [] ≡ []
unfolding literals_in
none_in = refl

literals_numbers : (numbers : List ℕ) → AllByRecursion (λ number. number < 2 ^ 64) numbers → literals_in (number_words numbers) ≡ values_of numbers
literals_numbers [] all = none_in
literals_numbers (number ∷ numbers) all = literal_first (number_word (decimal number)) (Num (pos number)) (number_words numbers) (values_of numbers) (number_literal number all.0) (literals_numbers numbers all.1)

number_is : (number : ℕ) → number < 2 ^ 64 → number_in (Num (pos number)) ≡ Some number
number_is number wide = let is : nat_lt number (2 ^ 64) ≡ true = grind (arith, nat_tests) in rw is refl

numbers_are : (numbers : List ℕ) → AllByRecursion (λ number. number < 2 ^ 64) numbers → numbers_in (values_of numbers) ≡ numbers
unfolding numbers_in
numbers_are [] all = refl
numbers_are (number ∷ numbers) all = rw (number_is number all.0) (ap (λ (more : List ℕ). number ∷ more) (numbers_are numbers all.1))

tries_none : (turns : List ℕ) → literals_in (tries_words turns) ≡ literals_in (number_words turns)
unfolding is_keyword same_name
tries_none turns = literal_none (keyword (codes "turns")) (number_words turns) refl

numbers_both : (own turns : List ℕ) → AllByRecursion (λ number. number < 2 ^ 64) own → AllByRecursion (λ turn. turn < 2 ^ 64) turns → numbers_in (values_of own ++ values_of turns) ≡ own ++ turns
unfolding numbers_in
numbers_both [] turns can all = numbers_are turns all
numbers_both (number ∷ own) turns can all = rw (number_is number can.0) (ap (λ (more : List ℕ). number ∷ more) (numbers_both own turns can.1 all))

-- the numbers of a task's words are its own and its tries'
spent_numbers : (task : Task) (turns : List ℕ) → AllByRecursion (λ number. number < 2 ^ 64) (task_numbers task) → AllByRecursion (λ turn. turn < 2 ^ 64) turns → numbers_in (literals_in (spent_words task turns)) ≡ task_numbers task ++ turns
spent_numbers task turns can all =
    let own = task_numbers task in
    ap numbers_in (literals-append (number_words own) (tries_words turns) ∙ ap (λ (front : List Value). front ++ literals_in (tries_words turns)) (literals_numbers own can)
    ∙ ap (λ (back : List Value). values_of own ++ back) (tries_none turns ∙ literals_numbers turns all))
    ∙ numbers_both own turns can all

task_small : (task : Task) → CanPrintTask task → AllByRecursion (λ number. number < 2 ^ 64) (task_numbers task)
task_small Setup can = tt
task_small (Chunk number) can = (can, tt)
task_small (Batch position) can = (can, tt)
task_small CutOver can = tt

spent_is : (task : Task) (turns : List ℕ) → 0 < length turns → spent_in (keyword (task_name task)) (task_numbers task ++ turns) ≡ Some (Spent task turns)
unfolding spent_in is_keyword same_name
spent_is task [] some = absurd (omega arith)
spent_is Setup (turn ∷ turns) some = refl
spent_is (Chunk number) (turn ∷ turns) some = refl
spent_is (Batch position) (turn ∷ turns) some = refl
spent_is CutOver (turn ∷ turns) some = refl

cause_spent : (task : Task) (turns : List ℕ) → CanPrintTask task → 0 < length turns → AllByRecursion (λ turn. turn < 2 ^ 64) turns → cause_in (keyword (codes "spent") ∷ keyword (task_name task) ∷ spent_words task turns) ≡ Some (Spent task turns)
unfolding cause_in is_keyword same_name
cause_spent task turns can some all = ap (spent_in (keyword (task_name task))) (spent_numbers task turns (task_small task can) all) ∙ spent_is task turns some

literals_one : (turn : ℕ) → turn < 2 ^ 64 → literals_in (number_word (decimal turn) ∷ []) ≡ Num (pos turn) ∷ []
literals_one turn wide = literal_first (number_word (decimal turn)) (Num (pos turn)) [] [] (number_literal turn wide) none_in

cause_panic : (turn : ℕ) → turn < 2 ^ 64 → cause_in (keyword (codes "panic") ∷ keyword (codes "turn") ∷ number_word (decimal turn) ∷ []) ≡ Some (Panic turn)
unfolding cause_in is_keyword same_name
cause_panic turn wide = ap (λ (values : List Value). panic_in (numbers_in values)) (literals_one turn wide) ∙ ap panic_in (numbers_are (turn ∷ []) (wide, tt))

-- the values of the words after `unfit turn`
unfit_values : (turn : ℕ) (key : List Value) (column : List ℕ) (number : ℕ) → turn < 2 ^ 64 → AllByRecursion CanPrintValue key → number < 2 ^ 64
    → literals_in (unfit_words turn key column number) ≡ Num (pos turn) ∷ (key ++ (Text column ∷ Num (pos number) ∷ []))
unfolding is_keyword same_name
unfit_values turn key column number wide can also =
    let ending : literals_in (ending_words column number) ≡ Text column ∷ Num (pos number) ∷ [] =
    literal_none (keyword (codes "column")) (text_word column ∷ number_word (decimal number) ∷ []) refl
    ∙ literal_first (text_word column) (Text column) (number_word (decimal number) ∷ []) (Num (pos number) ∷ []) (text_literal column)
    (literal_first (number_word (decimal number)) (Num (pos number)) [] [] (number_literal number also) none_in) in
    literal_first (number_word (decimal turn)) (Num (pos turn)) (keyword (codes "key") ∷ (row_words key ++ ending_words column number)) (key ++ (Text column ∷ Num (pos number) ∷ [])) (number_literal turn wide)
    (literal_none (keyword (codes "key")) (row_words key ++ ending_words column number) refl ∙ literals-append (row_words key) (ending_words column number)
    ∙ ap (λ (front : List Value). front ++ literals_in (ending_words column number)) (literals_row key can) ∙ ap (λ (back : List Value). key ++ back) ending)

error_is : (number : ℕ) → number < 2 ^ 16 → error_in (Num (pos number)) ≡ Some number
error_is number small =
    let wide : nat_lt number (2 ^ 64) ≡ true = grind (arith, nat_tests) in
    let is : nat_lt number (2 ^ 16) ≡ true = grind (arith, nat_tests) in
    rw wide (rw is refl)

unfit_is : (turn : ℕ) (key : List Value) (column : List ℕ) (number : ℕ) → turn < 2 ^ 64 → 0 < length key → number < 2 ^ 16 → unfit_in (Num (pos turn) ∷ (key ++ (Text column ∷ Num (pos number) ∷ []))) ≡ Some (Unfit turn key column number)
unfolding unfit_in
unfit_is turn key column number wide some small =
    let ended : ended_in (key ++ (Text column ∷ Num (pos number) ∷ [])) ≡ Some (record { front = key; last_but_one = Text column; last = Num (pos number) }) =
    two_taken (key ++ (Text column ∷ Num (pos number) ∷ [])) (key ++ (Text column ∷ [])) key (Text column) (Num (pos number)) (sym (append_assoc key (Text column ∷ []) (Num (pos number) ∷ []))) refl in
    let none : has_none key ≡ false = grind (arith, nat_tests) in
    rw (number_is turn wide, ended) (rw (error_is number small) (rw none refl))

cause_unfit : (turn : ℕ) (key : List Value) (column : List ℕ) (number : ℕ) → turn < 2 ^ 64 → CanPrintRow key → number < 2 ^ 16
    → cause_in (keyword (codes "unfit") ∷ keyword (codes "turn") ∷ unfit_words turn key column number) ≡ Some (Unfit turn key column number)
unfolding cause_in is_keyword same_name
cause_unfit turn key column number wide can small = ap unfit_in (unfit_values turn key column number wide can.1 (omega arith)) ∙ unfit_is turn key column number wide can.0 small

-- ---- the line is read

-- the line without its line feed
abbrev pub verdict_text : Verdict → List ℕ
verdict_text Done = codes "done"
verdict_text (Reverted cause) = codes "reverted " ++ cause_text cause
verdict_text Unfinished = codes "unfinished"

pub verdict_line_is : (verdict : Verdict) → verdict_line verdict ≡ verdict_text verdict ++ codes "\n"
unfolding verdict_line
verdict_line_is Done = refl
verdict_line_is (Reverted cause) = refl
verdict_line_is Unfinished = refl

printed_so : (verdict : Verdict) → verdict_printed_so (verdict_text verdict) verdict ≡ Some verdict
printed_so verdict = rw (verdict_line_is verdict) (rw (same_text (verdict_text verdict ++ codes "\n")) refl)

-- a line with these words, which say the verdict
read_by : (verdict : Verdict) (words : List Token) → Lexes (verdict_text verdict) words → loose_verdict words ≡ Some verdict → verdict_in (verdict_text verdict) ≡ Some verdict
unfolding verdict_in
read_by verdict words lex is =
    ap (λ (read : TextWords). loose_verdict read.words >>= verdict_printed_so (verdict_text verdict)) (lexes-words (verdict_text verdict) words lex)
    ∙ ap (λ (found : Option Verdict). found >>= verdict_printed_so (verdict_text verdict)) is ∙ printed_so verdict

lex_name : (name : List ℕ) → 0 < length name → ((place : ℕ) → front_at place (name ++ []) ≡ Ok (Found class.Name (length name))) → Lexes name (keyword name ∷ [])
lex_name name some front = subst (λ (text : List ℕ). Lexes text (keyword name ∷ [])) (append-nil name) (lex-word class.Name name [] [] some front lex-end)

spent_read : (task : Task) (turns : List ℕ) → CanPrintCause (Spent task turns) → loose_verdict (keyword (codes "reverted") ∷ keyword (codes "spent") ∷ keyword (task_name task) ∷ spent_words task turns) ≡ Some (Reverted (Spent task turns))
unfolding loose_verdict
spent_read task turns can = ap (option_map Reverted) (cause_spent task turns can.0 can.1 can.2)

pub verdict_is_read : (verdict : Verdict) → CanPrintVerdict verdict → verdict_in (verdict_text verdict) ≡ Some verdict
unfolding front_at loose_verdict cause_text is_keyword same_name
verdict_is_read Done can = read_by Done (keyword (codes "done") ∷ []) (lex_name (codes "done") (omega arith) (λ place. refl)) refl
verdict_is_read Unfinished can = read_by Unfinished (keyword (codes "unfinished") ∷ []) (lex_name (codes "unfinished") (omega arith) (λ place. refl)) refl
verdict_is_read (Reverted (Unfit turn key column number)) can =
    read_by (Reverted (Unfit turn key column number)) (keyword (codes "reverted") ∷ keyword (codes "unfit") ∷ keyword (codes "turn") ∷ unfit_words turn key column number)
    (subst (λ (text : List ℕ). Lexes text (keyword (codes "reverted") ∷ keyword (codes "unfit") ∷ keyword (codes "turn") ∷ unfit_words turn key column number)) (sym (unfit_apart (decimal turn) (printed_row key) (printed (Text column)) (decimal number)))
    (lex_unfit turn key column number can.0 can.1.1 (let small : number < 2 ^ 16 = can.2 in omega (arith, small)))) (ap (option_map Reverted) (cause_unfit turn key column number can.0 can.1 can.2))
verdict_is_read (Reverted (Spent task turns)) can =
    read_by (Reverted (Spent task turns)) (keyword (codes "reverted") ∷ keyword (codes "spent") ∷ keyword (task_name task) ∷ spent_words task turns)
    (subst (λ (text : List ℕ). Lexes text (keyword (codes "reverted") ∷ keyword (codes "spent") ∷ keyword (task_name task) ∷ spent_words task turns)) (sym (spent_apart (task_text task) (spaced_turns turns))) (lex_spent task turns can.0 can.1 can.2))
    (spent_read task turns can)
verdict_is_read (Reverted (Panic turn)) can =
    read_by (Reverted (Panic turn)) (keyword (codes "reverted") ∷ keyword (codes "panic") ∷ keyword (codes "turn") ∷ number_word (decimal turn) ∷ []) (lex_panic turn can) (ap (option_map Reverted) (cause_panic turn can))

-- ---- it is no turn

no_turn : (clients turn : ℕ) (first : List ℕ) (more : List (List ℕ)) → number_of first ≡ None → turn_in clients turn (first ∷ more) ≡ None
unfolding turn_in
no_turn clients turn first [] none = refl
no_turn clients turn first (second ∷ []) none = refl
no_turn clients turn first (second ∷ third ∷ more) none = rw none refl

pub verdict_is_no_turn : (clients turn : ℕ) (verdict : Verdict) → turn_in clients turn (parts 32 (verdict_text verdict)) ≡ None
unfolding turn_in
verdict_is_no_turn clients turn Done = refl
verdict_is_no_turn clients turn Unfinished = refl
verdict_is_no_turn clients turn (Reverted cause) =
    ap (turn_in clients turn) (parts-first 32 (codes "reverted") (cause_text cause) (avoids-known 32 (codes "reverted") refl)) ∙ no_turn clients turn (codes "reverted") (parts 32 (cause_text cause)) refl

-- ---- it is one line, and not the line `#journal`

avoids_front : (front text : List ℕ) → list_all (λ byte. not (byte == 10)) front ≡ true → Avoids 10 text → Avoids 10 (front ++ text)
avoids_front front text is avoids = avoids-append 10 front text (avoids-known 10 front is) avoids

one_line_turns : (turns : List ℕ) → AllByRecursion (λ turn. turn < 2 ^ 64) turns → Avoids 10 (spaced_turns turns)
unfolding spaced_turns
one_line_turns [] all = tt
one_line_turns (turn ∷ turns) all = (refl, avoids-append 10 (decimal turn) (spaced_turns turns) (avoids-decimal 10 turn (omega arith) all.0) (one_line_turns turns all.1))

one_line_task : (task : Task) → CanPrintTask task → Avoids 10 (task_text task)
unfolding task_text
one_line_task Setup can = avoids-known 10 (codes "setup") refl
one_line_task (Chunk number) can = avoids_front (codes "chunk ") (decimal number) refl (avoids-decimal 10 number (omega arith) can)
one_line_task (Batch position) can = avoids_front (codes "batch ") (decimal position) refl (avoids-decimal 10 position (omega arith) can)
one_line_task CutOver can = avoids-known 10 (codes "cutover") refl

one_line_cause : (cause : Cause) → CanPrintCause cause → Avoids 10 (codes "reverted " ++ cause_text cause)
unfolding cause_text printed
one_line_cause (Unfit turn key column number) can =
    let small : number < 2 ^ 16 = can.2 in
    let last : Avoids 10 (printed (Text column) ++ (codes " " ++ decimal number)) =
    avoids-append 10 (printed (Text column)) (codes " " ++ decimal number) (refl, avoids-append 10 (flat_map escaped column) (codes "'") (one_line_text column) (refl, tt)) (refl, avoids-decimal 10 number (omega arith) (omega (arith, small))) in
    let middle : Avoids 10 (printed_row key ++ (codes " column " ++ (printed (Text column) ++ (codes " " ++ decimal number)))) =
    avoids-append 10 (printed_row key) (codes " column " ++ (printed (Text column) ++ (codes " " ++ decimal number))) (one_line_row key can.1.1) (avoids_front (codes " column ") (printed (Text column) ++ (codes " " ++ decimal number)) refl last) in
    subst (Avoids 10) (sym (unfit_apart (decimal turn) (printed_row key) (printed (Text column)) (decimal number)))
    (avoids_front (codes "reverted unfit turn ") (decimal turn ++ (codes " key " ++ (printed_row key ++ (codes " column " ++ (printed (Text column) ++ (codes " " ++ decimal number)))))) refl
    (avoids-append 10 (decimal turn) (codes " key " ++ (printed_row key ++ (codes " column " ++ (printed (Text column) ++ (codes " " ++ decimal number))))) (avoids-decimal 10 turn (omega arith) can.0)
    (avoids_front (codes " key ") (printed_row key ++ (codes " column " ++ (printed (Text column) ++ (codes " " ++ decimal number)))) refl middle)))
one_line_cause (Spent task turns) can =
    subst (Avoids 10) (sym (spent_apart (task_text task) (spaced_turns turns)))
    (avoids_front (codes "reverted spent ") (task_text task ++ (codes " turns" ++ spaced_turns turns)) refl
    (avoids-append 10 (task_text task) (codes " turns" ++ spaced_turns turns) (one_line_task task can.0) (avoids_front (codes " turns") (spaced_turns turns) refl (one_line_turns turns can.2))))
one_line_cause (Panic turn) can = avoids_front (codes "reverted panic turn ") (decimal turn) refl (avoids-decimal 10 turn (omega arith) can)

pub verdict_is_line : (verdict : Verdict) → CanPrintVerdict verdict → Avoids 10 (verdict_text verdict)
verdict_is_line Done can = avoids-known 10 (codes "done") refl
verdict_is_line Unfinished can = avoids-known 10 (codes "unfinished") refl
verdict_is_line (Reverted cause) can = one_line_cause cause can

pub verdict_is_no_journal : (verdict : Verdict) → is_journal (verdict_text verdict) ≡ false
verdict_is_no_journal Done = refl
verdict_is_no_journal Unfinished = refl
verdict_is_no_journal (Reverted cause) = refl
