-- Each SELECT of a script that is read shows something: where it lists columns, it names one at least.
use Rattle.std.proofs.Common.{◌≡◌, ◌<◌, ℕ, zero, suc, Bool, true, false, cond, List, [], ◌∷◌, ◌++◌, length, Option, Some, None, Result, Ok, Err, ap, subst, arith, codes}
use Rattle.std.specs.List.{AllByRecursion}
use Rattle.std.specs.Str.Lines.{lines}
use Rattle.base_values.specs.SchemaRules.Results.{◌>>=◌}
use Rattle.base_values.proofs.SchemaRules.Lists.{All-append}
use Rattle.base_values.proofs.SchemaRules.Steps.{bind_ok, ok_is, kept_out}
use Rattle.base_script.specs.declared.script.ScriptLine.{ScriptLine}
use Rattle.base_script.specs.declared.script.ScriptWord.{ScriptWord}
use Rattle.base_script.specs.declared.script.ScriptWord.TheVariants.{Begin, Commit, Rollback, Do}
use Rattle.base_script.specs.declared.statement.Shown.TheVariants as shown
use Rattle.base_script.specs.declared.statement.Statement.TheVariants.{Select}
use Rattle.plan_data.specs.PlanData.{PlanData}
use Rattle.plan_keys.specs.declared.fault.KeyRefusal.TheVariants.{TooMany}
use Rattle.plan_reader.specs.declared.fault.PlanRefusal.{PlanRefusal}
use Rattle.plan_reader.specs.declared.fault.PlanRefusal.TheVariants.{Keys}
use Rattle.plan_reader.specs.Clients.{client_script, clients_of, few_statements, has_many_statements, scripts_of, tool_names}
use Rattle.plan_reader.specs.Plans.{read}
use Rattle.plan_reader.specs.PlanTables.Rows.{next_number}
use Rattle.plan_reader.specs.Walks.{each_from}
use Rattle.sql_grammar.specs.declared.code.SchemaCode.{SchemaCode}
use Rattle.sql_grammar.specs.declared.code.SchemaCode.TheVariants as schemas
use Rattle.sql_grammar.specs.declared.token.Token.{Token}
use Rattle.sql_grammar.specs.Keys as keys
use Rattle.sql_grammar.specs.Listed.{listed, with_others}
use Rattle.sql_grammar.specs.Pieces.{after_sign}
use Rattle.sql_grammar.specs.Pieces as table
use Rattle.sql_grammar.specs.Tokens.{is_keyword, same_sign, text_words}
use Rattle.sql_statement.specs.declared.code.ScriptCode.{ScriptCode}
use Rattle.sql_statement.specs.declared.code.ScriptCode.TheVariants as script_codes
use Rattle.sql_statement.specs.declared.code.ScriptRefusal.{ScriptRefusal}
use Rattle.sql_statement.specs.declared.code.StatementCode.{StatementCode}
use Rattle.sql_statement.specs.declared.code.StatementCode.TheVariants.{Syntax, Scope}
use Rattle.sql_statement.specs.Conditions.{condition_at}
use Rattle.sql_statement.specs.Lines.{asked_of, line_of, of_statement}
use Rattle.sql_statement.specs.Pieces.{fits, keyword_at, name_at, names_at, sign_at}
use Rattle.sql_statement.specs.Rows.{row_at, sets_at}
use Rattle.sql_statement.specs.Scope.{is_out_of_scope}
use Rattle.sql_statement.specs.Scripts.{at_line, fitting, fitting_line, lines_from, next_line, numbered, script_of}
use Rattle.sql_statement.specs.Statements.{after_count, all_or, asked_at, count_at, count_or_columns, delete_at, ended, insert_at, listed_columns_at, replace_at, select_at, shown_at, start_at, statement_of, update_at}
use Rattle.proof_plain.specs.Plain.{ShowsSome}
use Rattle.proof_plans.proofs.ReadPlans.Parts.{parts_of}
use Rattle.proof_plans.proofs.ReadPlans.Scripts.{was_read}
use Rattle.proof_plans.proofs.ReadPlans.Plans.{script_was}

-- what a word shows, where it is a SELECT
abbrev pub ShowsWord : ScriptWord → Type 0
ShowsWord (Do (Select table what condition)) = ShowsSome what
ShowsWord word = Unit {0}

-- what is read has a property
abbrev Gives : {A C : Type 0} → (A → Type 0) → Result (A × List Token) C → Type 0
Gives P (Ok x) = P x.0
Gives P (Err code) = Unit {0}

-- whatever is read first
then_gives : {A B C : Type 0} (P : B → Type 0) (r : Result A C) (f : A → Result (B × List Token) C) → ((x : A) → Gives P (f x)) → Gives P (r >>= f)
then_gives P (Ok x) f each = each x
then_gives P (Err code) f each = tt

gives_then : {A B C : Type 0} (Q : A → Type 0) (P : B → Type 0) (r : Result (A × List Token) C) (f : A × List Token → Result (B × List Token) C) → Gives Q r → ((x : A × List Token) → Q x.0 → Gives P (f x)) → Gives P (r >>= f)
gives_then Q P (Ok x) f gives each = each x gives
gives_then Q P (Err code) f gives each = tt

gives_if : {A C : Type 0} (P : A → Type 0) (b : Bool) (one two : Result (A × List Token) C) → Gives P one → Gives P two → Gives P (cond b one two)
gives_if P true one two first second = first
gives_if P false one two first second = second

-- ---- a list has one item at least

some_listed : {A C : Type 0} (item : List Token → Result (A × List Token) C) (code : C) (most : ℕ) (words : List Token) → Gives (λ (all : List A). 0 < length all) (listed item code most words)
unfolding listed
some_listed item code zero words = tt
some_listed {A} {C} item code (suc most) words = then_gives (λ (all : List A). 0 < length all) (item words) _ (λ first. by first (after_sign (codes ",") first.1)) where
  by : (first : A × List Token) (rest : Option (List Token)) → Gives (λ (all : List A). 0 < length all) (with_others (listed item code most) first rest)
  by first None = omega arith
  by first (Some rest) = then_gives (λ (all : List A). 0 < length all) (listed item code most rest) _ (λ more. omega arith)

fits_gives : {A : Type 0} (P : A → Type 0) (r : Result (A × List Token) SchemaCode) → Gives P r → Gives P (fits r)
fits_gives P (Ok x) gives = gives
fits_gives P (Err code) gives = tt

some_names : (words : List Token) → Gives (λ (names : List (List ℕ)). 0 < length names) (names_at words)
unfolding keys.names_at
some_names words = fits_gives (λ (names : List (List ℕ)). 0 < length names) (keys.names_at words) (some_listed table.name_at schemas.Syntax (length words) words)

-- ---- a SELECT

columns_shown : (words : List Token) → Gives ShowsSome (listed_columns_at words)
columns_shown words = gives_then (λ (names : List (List ℕ)). 0 < length names) ShowsSome (names_at words) (λ names. Ok (shown.Columns names.0, names.1)) (some_names words) (λ names some. some)

count_shown : (words : List Token) → Gives ShowsSome (count_at words)
count_shown words = then_gives ShowsSome (sign_at (codes "*") words) _ (λ rest. then_gives ShowsSome (sign_at (codes ")") rest) _ (λ rest. tt))

what_shown : (words : List Token) → Gives ShowsSome (shown_at words)
unfolding shown_at
what_shown words = by (after_sign (codes "*") words) where
  or : (rest : Option (List Token)) → Gives ShowsSome (count_or_columns words rest)
  or (Some rest) = count_shown rest
  or None = columns_shown words

  by : (rest : Option (List Token)) → Gives ShowsSome (all_or words rest)
  by (Some rest) = tt
  by None = or (after_count words)

select_shown : (words : List Token) → Gives ShowsWord (select_at words)
unfolding select_at
select_shown words =
    gives_then ShowsSome ShowsWord (shown_at words) _ (what_shown words)
    (λ what some. then_gives ShowsWord (keyword_at (codes "FROM") what.1) _ (λ rest. then_gives ShowsWord (name_at rest) _ (λ named. then_gives ShowsWord (condition_at named.1) _ (λ condition. some))))

-- ---- other words

insert_shown : (words : List Token) → Gives ShowsWord (insert_at words)
unfolding insert_at
insert_shown words = then_gives ShowsWord (row_at words) _ (λ row. tt)

replace_shown : (words : List Token) → Gives ShowsWord (replace_at words)
unfolding replace_at
replace_shown words = then_gives ShowsWord (row_at words) _ (λ row. tt)

delete_shown : (words : List Token) → Gives ShowsWord (delete_at words)
unfolding delete_at
delete_shown words = then_gives ShowsWord (keyword_at (codes "FROM") words) _ (λ rest. then_gives ShowsWord (name_at rest) _ (λ named. then_gives ShowsWord (condition_at named.1) _ (λ condition. tt)))

update_shown : (words : List Token) → Gives ShowsWord (update_at words)
unfolding update_at
update_shown words =
    then_gives ShowsWord (name_at words) _ (λ named. then_gives ShowsWord (keyword_at (codes "SET") named.1) _ (λ rest. then_gives ShowsWord (sets_at rest) _ (λ sets. then_gives ShowsWord (condition_at sets.1) _ (λ condition. tt))))

asked_shown : (words : List Token) → Gives ShowsWord (asked_at words)
unfolding asked_at
asked_shown [] = tt
asked_shown (word ∷ rest) =
    gives_if ShowsWord (is_keyword word (codes "INSERT")) _ _ (insert_shown rest)
    (gives_if ShowsWord (is_keyword word (codes "REPLACE")) _ _ (replace_shown rest)
    (gives_if ShowsWord (is_keyword word (codes "DELETE")) _ _ (delete_shown rest)
    (gives_if ShowsWord (is_keyword word (codes "UPDATE")) _ _ (update_shown rest)
    (gives_if ShowsWord (is_keyword word (codes "SELECT")) _ _ (select_shown rest)
    (gives_if ShowsWord (is_keyword word (codes "BEGIN")) (Ok (Begin, rest)) _ tt
    (gives_if ShowsWord (is_keyword word (codes "START")) (start_at rest) _ (then_gives ShowsWord (keyword_at (codes "TRANSACTION") rest) _ (λ rest. tt))
    (gives_if ShowsWord (is_keyword word (codes "COMMIT")) (Ok (Commit, rest)) _ tt (gives_if ShowsWord (is_keyword word (codes "ROLLBACK")) (Ok (Rollback, rest)) (Err Syntax) tt tt))))))))

-- ---- a line

abbrev Shows : Result ScriptWord StatementCode → Type 0
Shows (Ok word) = ShowsWord word
Shows (Err code) = Unit {0}

ended_shown : (word : ScriptWord) (words : List Token) → ShowsWord word → Shows (ended word words)
ended_shown word [] shows = shows
ended_shown word (last ∷ []) shows = by (same_sign last (codes ";")) where
  by : (b : Bool) → Shows (cond b (Ok word) (Err Syntax))
  by true = shows
  by false = tt
ended_shown word (last ∷ (other ∷ rest)) shows = tt

statement_shown : (words : List Token) → Shows (statement_of words)
unfolding statement_of
statement_shown words = by (is_out_of_scope words) where
  all : (r : Result (ScriptWord × List Token) StatementCode) → Gives ShowsWord r → Shows (r >>= (λ asked. ended asked.0 asked.1))
  all (Ok asked) gives = ended_shown asked.0 asked.1 gives
  all (Err code) gives = tt

  by : (b : Bool) → Shows (cond b (Err Scope) (asked_at words >>= (λ asked. ended asked.0 asked.1)))
  by true = tt
  by false = all (asked_at words) (asked_shown words)

abbrev ShowsLine : Option ScriptWord → Type 0
ShowsLine None = Unit {0}
ShowsLine (Some word) = ShowsWord word

of_shown : (read : Result ScriptWord StatementCode) (asked : Option ScriptWord) → Shows read → of_statement read ≡ Ok asked → ShowsLine asked
of_shown (Ok word) asked shows is = let same : Some word ≡ asked = cc in subst ShowsLine same shows
of_shown (Err code) asked shows is = absurd cc

words_shown : (words : List Token) (asked : Option ScriptWord) → asked_of words ≡ Ok asked → ShowsLine asked
words_shown [] asked is = let same : None ≡ asked = cc in subst ShowsLine same tt
words_shown (word ∷ rest) asked is = of_shown (statement_of (word ∷ rest)) asked (statement_shown (word ∷ rest)) is

line_shown : (text : _) (asked : Option ScriptWord) → line_of text ≡ Ok asked → ShowsLine asked
line_shown text asked is = by text.is_faulty is where
  by : (b : Bool) → cond b (Err script_codes.Word) (asked_of text.words) ≡ Ok asked → ShowsLine asked
  by true is = absurd cc
  by false is = words_shown text.words asked is

-- ---- a script

abbrev pub ShowsAll : List ScriptLine → Type 0
ShowsAll script = AllByRecursion (λ line. ShowsWord line.word) script

numbered_shown : (number : ℕ) (asked : Option ScriptWord) → ShowsLine asked → ShowsAll (numbered number asked)
numbered_shown number None shows = tt
numbered_shown number (Some word) shows = (shows, tt)

lines_shown : (tools : List (List ℕ)) (is_open : Bool) (number : ℕ) (texts : List (List ℕ)) (script : List ScriptLine) → lines_from tools is_open number texts ≡ Ok script → ShowsAll script
unfolding lines_from fitting_line
lines_shown tools is_open number [] script is = subst ShowsAll (ok_is {C = ScriptRefusal} [] script is) tt
lines_shown tools is_open number (text ∷ texts) script is =
    let line = bind_ok (at_line number (fitting_line tools texts is_open text)) _ script is in
    let others = bind_ok (lines_from tools line.0.1 (next_line number) texts) (λ others. Ok (numbered number line.0.0 ++ others)) script line.2 in
    let was = was_read number (fitting_line tools texts is_open text) line.0 line.1 in
    let asked = bind_ok (line_of (text_words text)) _ line.0 was in
    let fitted = bind_ok (fitting tools texts is_open asked.0) (λ is_open. Ok (asked.0, is_open)) line.0 asked.2 in
    let both : (asked.0, fitted.0) ≡ line.0 = ok_is {C = ScriptCode} (asked.0, fitted.0) line.0 fitted.2 in
    let shows : ShowsLine line.0.0 = subst ShowsLine (ap (λ (l : Option ScriptWord × Bool). l.0) both) (line_shown (text_words text) asked.0 asked.1) in
    subst ShowsAll (ok_is {C = ScriptRefusal} (numbered number line.0.0 ++ others.0) script others.2)
    (All-append (λ (l : ScriptLine). ShowsWord l.word) (numbered number line.0.0) others.0 (numbered_shown number line.0.0 shows) (lines_shown tools line.0.1 (next_line number) texts others.0 others.1))

each_shown : (tools : List (List ℕ)) (number : ℕ) (texts : List (List ℕ)) (clients : List (List ScriptLine)) → each_from (client_script tools) number texts ≡ Ok clients → AllByRecursion ShowsAll clients
unfolding each_from
each_shown tools number [] clients is = subst (AllByRecursion ShowsAll) (ok_is {C = PlanRefusal} [] clients is) tt
each_shown tools number (text ∷ texts) clients is =
    let first = bind_ok (client_script tools number text) _ clients is in
    let others = bind_ok (each_from (client_script tools) (next_number number) texts) (λ others. Ok (first.0 ∷ others)) clients first.2 in
    subst (AllByRecursion ShowsAll) (ok_is {C = PlanRefusal} (first.0 ∷ others.0) clients others.2)
    (lines_shown tools false 1 (lines text) first.0 (script_was number (script_of tools text) first.0 first.1), each_shown tools (next_number number) texts others.0 others.1)

-- *Read scripts show something*
pub scripts_shown : (bytes : List ℕ) (plan : PlanData) → read bytes ≡ Ok plan → AllByRecursion ShowsAll plan.clients
unfolding clients_of
scripts_shown bytes plan is =
    let parts = parts_of bytes plan is in
    let scripts = bind_ok (scripts_of (tool_names parts.keys.texts.table) parts.keys.texts.clients) few_statements parts.clients parts.scripts in
    let kept = kept_out (has_many_statements scripts.0) scripts.0 parts.clients (Keys TooMany) scripts.2 in
    subst (λ (p : PlanData). AllByRecursion ShowsAll p.clients) parts.same
    (subst (AllByRecursion ShowsAll) kept.1 (each_shown (tool_names parts.keys.texts.table) 1 parts.keys.texts.clients scripts.0 scripts.1))
