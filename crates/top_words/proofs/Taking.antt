-- `clap` takes each form of a command, and its matches tell that command.
use Rattle.std.proofs.Common.{◌≡◌, ◌∙◌, ℕ, Bool, true, false, cond, List, [], ◌∷◌, ◌++◌, take, drop, Option, Some, None, option_and_then, option_map, refl, sym, ap, subst, codes}
use Rattle.std.proofs.lemmas.List.{take-append-drop}
use Rattle.std.proofs.lemmas.Slice.Eq.{bytes_eq-Decides}
use Rattle.std.specs.Char.{is_ascii_digit}
use Rattle.std.specs.List.{list_any}
use Rattle.std.specs.Str.{bytes_eq}
use Rattle.clap.specs.Words.{Text, subcommand_of, takes}
use Rattle.clap.proofs.OnLiterals.{clap_on_literals}
use Rattle.top_words.specs.declared.command.Command.{Command}
use Rattle.top_words.specs.declared.command.Command.TheVariants.{Check, Replay, Run, Generate, Trace, Audit, Rebuild}
use Rattle.top_words.specs.Numbers.{number_of, workers_of, up_to_16}
use Rattle.top_words.specs.Commands.{attached_number, command, generate_of, numbered_command, option_command, plain_command, rebuild_by, run_by}
use Rattle.top_words.specs.Matches.{program, chosen, is_escape}
use Rattle.top_words.proofs.Digits.{number_begins, of_each_digit}

-- clap takes the words, what its matches tell is this, and no word is `--`
pub record IsTaken (words : List Text) (command : Option Command) : Type 0 where
  pub taken : takes program words ≡ true
  pub tells : chosen (subcommand_of program words) ≡ command
  pub plain : list_any is_escape words ≡ false

-- ---- the forms

check_taken : IsTaken (codes "check" ∷ []) (Some Check)
unfolding clap_on_literals
check_taken = record { taken = refl; tells = refl; plain = refl }

replay_taken : IsTaken (codes "replay" ∷ []) (Some Replay)
unfolding clap_on_literals
replay_taken = record { taken = refl; tells = refl; plain = refl }

run_taken : IsTaken (codes "run" ∷ []) (Some (Run 4))
unfolding clap_on_literals
run_taken = record { taken = refl; tells = refl; plain = refl }

trace_taken : IsTaken (codes "trace" ∷ []) (Some Trace)
unfolding clap_on_literals
trace_taken = record { taken = refl; tells = refl; plain = refl }

audit_taken : IsTaken (codes "audit" ∷ []) (Some Audit)
unfolding clap_on_literals
audit_taken = record { taken = refl; tells = refl; plain = refl }

rebuild_taken : IsTaken (codes "rebuild" ∷ []) (Some (Rebuild 4))
unfolding clap_on_literals
rebuild_taken = record { taken = refl; tells = refl; plain = refl }

attached_rebuild_taken : (number : Text) → IsTaken (codes "rebuild" ∷ (codes "--workers=" ++ number) ∷ []) (rebuild_by number)
unfolding clap_on_literals
attached_rebuild_taken number = record { taken = refl; tells = refl; plain = refl }

attached_taken : (number : Text) → IsTaken (codes "run" ∷ (codes "--workers=" ++ number) ∷ []) (run_by number)
unfolding clap_on_literals
attached_taken number = record { taken = refl; tells = refl; plain = refl }

abbrev GeneratesBy : ℕ → Type 0
GeneratesBy digit = (digits : Text) → IsTaken (codes "generate" ∷ (digit ∷ digits) ∷ []) (generate_of (digit ∷ digits))

abbrev RunsBy : ℕ → Type 0
RunsBy digit = (digits : Text) → IsTaken (codes "run" ∷ codes "--workers" ∷ (digit ∷ digits) ∷ []) (run_by (digit ∷ digits))

abbrev RebuildsBy : ℕ → Type 0
RebuildsBy digit = (digits : Text) → IsTaken (codes "rebuild" ∷ codes "--workers" ∷ (digit ∷ digits) ∷ []) (rebuild_by (digit ∷ digits))

generate_taken : (digit : ℕ) → is_ascii_digit digit ≡ true → GeneratesBy digit
unfolding clap_on_literals
generate_taken = of_each_digit GeneratesBy
    (λ digits. record { taken = refl; tells = refl; plain = refl })
    (λ digits. record { taken = refl; tells = refl; plain = refl })
    (λ digits. record { taken = refl; tells = refl; plain = refl })
    (λ digits. record { taken = refl; tells = refl; plain = refl })
    (λ digits. record { taken = refl; tells = refl; plain = refl })
    (λ digits. record { taken = refl; tells = refl; plain = refl })
    (λ digits. record { taken = refl; tells = refl; plain = refl })
    (λ digits. record { taken = refl; tells = refl; plain = refl })
    (λ digits. record { taken = refl; tells = refl; plain = refl })
    (λ digits. record { taken = refl; tells = refl; plain = refl })

run_by_taken : (digit : ℕ) → is_ascii_digit digit ≡ true → RunsBy digit
unfolding clap_on_literals
run_by_taken = of_each_digit RunsBy
    (λ digits. record { taken = refl; tells = refl; plain = refl })
    (λ digits. record { taken = refl; tells = refl; plain = refl })
    (λ digits. record { taken = refl; tells = refl; plain = refl })
    (λ digits. record { taken = refl; tells = refl; plain = refl })
    (λ digits. record { taken = refl; tells = refl; plain = refl })
    (λ digits. record { taken = refl; tells = refl; plain = refl })
    (λ digits. record { taken = refl; tells = refl; plain = refl })
    (λ digits. record { taken = refl; tells = refl; plain = refl })
    (λ digits. record { taken = refl; tells = refl; plain = refl })
    (λ digits. record { taken = refl; tells = refl; plain = refl })

rebuild_by_taken : (digit : ℕ) → is_ascii_digit digit ≡ true → RebuildsBy digit
unfolding clap_on_literals
rebuild_by_taken = of_each_digit RebuildsBy
    (λ digits. record { taken = refl; tells = refl; plain = refl })
    (λ digits. record { taken = refl; tells = refl; plain = refl })
    (λ digits. record { taken = refl; tells = refl; plain = refl })
    (λ digits. record { taken = refl; tells = refl; plain = refl })
    (λ digits. record { taken = refl; tells = refl; plain = refl })
    (λ digits. record { taken = refl; tells = refl; plain = refl })
    (λ digits. record { taken = refl; tells = refl; plain = refl })
    (λ digits. record { taken = refl; tells = refl; plain = refl })
    (λ digits. record { taken = refl; tells = refl; plain = refl })
    (λ digits. record { taken = refl; tells = refl; plain = refl })

-- ---- each command has one of them

-- what holds of a name's text, and of what isn't that name
named : (P : Text → Type 0) (name other : Text) → P other → (bytes_eq name other ≡ false → P name) → P name
named P name other at differs = go (bytes_eq name other) refl
  where
    go : (b : Bool) → bytes_eq name other ≡ b → P name
    go true is = subst P (sym ((bytes_eq-Decides name other).0 is)) at
    go false is = differs is

plain_taken : (name : Text) (c : Command) → plain_command name ≡ Some c → IsTaken (name ∷ []) (Some c)
plain_taken name c = named (λ name. plain_command name ≡ Some c → IsTaken (name ∷ []) (Some c)) name (codes "check")
    (λ is. subst (IsTaken (codes "check" ∷ [])) is check_taken)
    (λ n0. named (λ name. plain_command name ≡ Some c → IsTaken (name ∷ []) (Some c)) name (codes "replay")
    (λ is. subst (IsTaken (codes "replay" ∷ [])) is replay_taken)
    (λ n1. named (λ name. plain_command name ≡ Some c → IsTaken (name ∷ []) (Some c)) name (codes "run")
    (λ is. subst (IsTaken (codes "run" ∷ [])) is run_taken)
    (λ n2. named (λ name. plain_command name ≡ Some c → IsTaken (name ∷ []) (Some c)) name (codes "trace")
    (λ is. subst (IsTaken (codes "trace" ∷ [])) is trace_taken)
    (λ n3. named (λ name. plain_command name ≡ Some c → IsTaken (name ∷ []) (Some c)) name (codes "audit")
    (λ is. subst (IsTaken (codes "audit" ∷ [])) is audit_taken)
    (λ n4. named (λ name. plain_command name ≡ Some c → IsTaken (name ∷ []) (Some c)) name (codes "rebuild")
    (λ is. subst (IsTaken (codes "rebuild" ∷ [])) is rebuild_taken)
    (λ n5 is. let none : plain_command name ≡ None = rw (n0, n1, n2, n3, n4, n5) refl in absurd (cc (sym none ∙ is))))))))

some_mapped : {A B : Type 0} (f : A → B) (o : Option A) (y : B) → option_map f o ≡ Some y → (x : A) × (o ≡ Some x)
some_mapped f None y is = absurd (cc)
some_mapped f (Some x) y is = (x, refl)

some_then : {A B : Type 0} (f : A → Option B) (o : Option A) (y : B) → option_and_then f o ≡ Some y → (x : A) × (o ≡ Some x)
some_then f None y is = absurd (cc)
some_then f (Some x) y is = (x, refl)

generates : (word : Text) (c : Command) → generate_of word ≡ Some c → IsTaken (codes "generate" ∷ word ∷ []) (Some c)
generates word c is =
    let number = some_mapped Generate (number_of word) c is in
    let begins = number_begins word number.0 number.1 in
    subst (λ (o : Option Command). IsTaken (codes "generate" ∷ word ∷ []) o) is
    (subst (λ (text : Text). IsTaken (codes "generate" ∷ text ∷ []) (generate_of text)) (sym begins.is) (generate_taken begins.digit begins.its begins.digits))

runs_by : (word : Text) (c : Command) → run_by word ≡ Some c → IsTaken (codes "run" ∷ codes "--workers" ∷ word ∷ []) (Some c)
runs_by word c is =
    let workers = some_mapped Run (workers_of word) c is in
    let number = some_then up_to_16 (number_of word) workers.0 workers.1 in
    let begins = number_begins word number.0 number.1 in
    subst (λ (o : Option Command). IsTaken (codes "run" ∷ codes "--workers" ∷ word ∷ []) o) is
    (subst (λ (text : Text). IsTaken (codes "run" ∷ codes "--workers" ∷ text ∷ []) (run_by text)) (sym begins.is) (run_by_taken begins.digit begins.its begins.digits))

rebuilds_by : (word : Text) (c : Command) → rebuild_by word ≡ Some c → IsTaken (codes "rebuild" ∷ codes "--workers" ∷ word ∷ []) (Some c)
rebuilds_by word c is =
    let workers = some_mapped Rebuild (workers_of word) c is in
    let number = some_then up_to_16 (number_of word) workers.0 workers.1 in
    let begins = number_begins word number.0 number.1 in
    subst (λ (o : Option Command). IsTaken (codes "rebuild" ∷ codes "--workers" ∷ word ∷ []) o) is
    (subst (λ (text : Text). IsTaken (codes "rebuild" ∷ codes "--workers" ∷ text ∷ []) (rebuild_by text)) (sym begins.is) (rebuild_by_taken begins.digit begins.its begins.digits))

attached_front : (word : Text) (b : Bool) → bytes_eq (take 10 word) (codes "--workers=") ≡ b → (c : Command) → option_and_then run_by (cond b (Some (drop 10 word)) None) ≡ Some c → IsTaken (codes "run" ∷ word ∷ []) (Some c)
attached_front word true at c is =
    let front : word ≡ codes "--workers=" ++ drop 10 word = sym (take-append-drop 10 word) ∙ ap (λ (t : Text). t ++ drop 10 word) ((bytes_eq-Decides (take 10 word) (codes "--workers=")).0 at) in
    subst (λ (t : Text). IsTaken (codes "run" ∷ t ∷ []) (Some c)) (sym front)
    (subst (λ (o : Option Command). IsTaken (codes "run" ∷ (codes "--workers=" ++ drop 10 word) ∷ []) o) is (attached_taken (drop 10 word)))
attached_front word false at c is = absurd (cc)

runs_attached : (word : Text) (c : Command) → option_and_then run_by (attached_number word) ≡ Some c → IsTaken (codes "run" ∷ word ∷ []) (Some c)
runs_attached word c is = attached_front word (bytes_eq (take 10 word) (codes "--workers=")) refl c is

rebuild_front : (word : Text) (b : Bool) → bytes_eq (take 10 word) (codes "--workers=") ≡ b → (c : Command) → option_and_then rebuild_by (cond b (Some (drop 10 word)) None) ≡ Some c → IsTaken (codes "rebuild" ∷ word ∷ []) (Some c)
rebuild_front word true at c is =
    let front : word ≡ codes "--workers=" ++ drop 10 word = sym (take-append-drop 10 word) ∙ ap (λ (t : Text). t ++ drop 10 word) ((bytes_eq-Decides (take 10 word) (codes "--workers=")).0 at) in
    subst (λ (t : Text). IsTaken (codes "rebuild" ∷ t ∷ []) (Some c)) (sym front)
    (subst (λ (o : Option Command). IsTaken (codes "rebuild" ∷ (codes "--workers=" ++ drop 10 word) ∷ []) o) is (attached_rebuild_taken (drop 10 word)))
rebuild_front word false at c is = absurd (cc)

rebuilds_attached : (word : Text) (c : Command) → option_and_then rebuild_by (attached_number word) ≡ Some c → IsTaken (codes "rebuild" ∷ word ∷ []) (Some c)
rebuilds_attached word c is = rebuild_front word (bytes_eq (take 10 word) (codes "--workers=")) refl c is

numbered_taken : (name word : Text) (c : Command) → numbered_command name word ≡ Some c → IsTaken (name ∷ word ∷ []) (Some c)
numbered_taken name word c = named (λ name. numbered_command name word ≡ Some c → IsTaken (name ∷ word ∷ []) (Some c)) name (codes "generate")
    (λ is. generates word c is)
    (λ n0. named (λ name. numbered_command name word ≡ Some c → IsTaken (name ∷ word ∷ []) (Some c)) name (codes "run")
    (λ is. runs_attached word c is)
    (λ n1. named (λ name. numbered_command name word ≡ Some c → IsTaken (name ∷ word ∷ []) (Some c)) name (codes "rebuild")
    (λ is. rebuilds_attached word c is)
    (λ n2 is. let none : numbered_command name word ≡ None = rw (n0, n1, n2) refl in absurd (cc (sym none ∙ is)))))

option_taken : (name option word : Text) (c : Command) → option_command name option word ≡ Some c → IsTaken (name ∷ option ∷ word ∷ []) (Some c)
option_taken name option word c = named (λ name. option_command name option word ≡ Some c → IsTaken (name ∷ option ∷ word ∷ []) (Some c)) name (codes "run")
    (named (λ option. option_command (codes "run") option word ≡ Some c → IsTaken (codes "run" ∷ option ∷ word ∷ []) (Some c)) option (codes "--workers")
    (λ is. runs_by word c is)
    (λ n1 is. let none : option_command (codes "run") option word ≡ None = rw n1 refl in absurd (cc (sym none ∙ is))))
    (λ n0. named (λ name. option_command name option word ≡ Some c → IsTaken (name ∷ option ∷ word ∷ []) (Some c)) name (codes "rebuild")
    (named (λ option. option_command (codes "rebuild") option word ≡ Some c → IsTaken (codes "rebuild" ∷ option ∷ word ∷ []) (Some c)) option (codes "--workers")
    (λ is. rebuilds_by word c is)
    (λ n1 is. let none : option_command (codes "rebuild") option word ≡ None = rw n1 refl in absurd (cc (sym none ∙ is))))
    (λ n1 is. let none : option_command name option word ≡ None = rw (n0, n1) refl in absurd (cc (sym none ∙ is))))

-- clap takes the words of each command, and its matches tell that command
pub form_taken : (words : List Text) (c : Command) → command words ≡ Some c → IsTaken words (Some c)
form_taken [] c is = absurd (cc)
form_taken (name ∷ []) c is = plain_taken name c is
form_taken (name ∷ word ∷ []) c is = numbered_taken name word c is
form_taken (name ∷ option ∷ word ∷ []) c is = option_taken name option word c is
form_taken (name ∷ option ∷ word ∷ other ∷ others) c is = absurd (cc)
