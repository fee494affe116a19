-- A session that is alone stays so.
use Rattle.std.proofs.Common.{◌≡◌, ℕ, Bool, true, false, List, [], ◌++◌, Option, refl, sym, ap, ◌∙◌, subst}
use Rattle.std.specs.Prelude.{◌==◌}
use Rattle.base_values.specs.declared.event.RowEvent.{RowEvent}
use Rattle.base_script.specs.declared.statement.Statement.{Statement}
use Rattle.table_store.specs.Databases.{Database}
use Rattle.server_model.specs.declared.transaction.TxnLine.{TxnLine}
use Rattle.server_model.specs.Alone.{Ran, alone, lines_run, nothing_ran, outcome_if, stays}
use Rattle.server_model.specs.Operations.{after_events, operation_of, statement_result, table_of}
use Rattle.server_model.specs.LockedRows.Databases.{IsWellFormedDatabase}
use Rattle.server_model.proofs.LockedRows.Stables.{after_events-append, statements_keep}
use Rattle.server_model.proofs.LockedRows.Tests.{are_one}
use Rattle.server_execute.specs.declared.found_work.FoundWork.{FoundWork}
use Rattle.server_transaction.specs.FittingEvents.{EventsFit}
use Rattle.server_transaction.specs.Prepared.{IsWorkOf, work_result}
use Rattle.server_transaction.proofs.PreparedWork.{work_gives}
use Rattle.server_transaction.proofs.SaidEvents.{said_fits}
use Rattle.run_auditor.specs.AloneSessions.{IsAlone}

-- a statement's work gives what the statement says
pub said_of : (tables : Database) (statement : Statement) (name : List ℕ) (work : Option FoundWork) → IsWorkOf tables (operation_of statement) work → name ≡ table_of statement → work_result tables name work ≡ statement_result tables statement
said_of tables statement name work is own = ap (λ (n : List ℕ). work_result tables n work) own ∙ work_gives tables (operation_of statement) work is

-- it says the same on the same tables
pub says_still : (was now : Database) (writes more : List RowEvent) (statement : Statement) → now ≡ was → more ≡ writes → statement_result (after_events now more) statement ≡ statement_result (after_events was writes) statement
says_still was now writes more statement same own =
    ap (λ (d : Database). statement_result (after_events d more) statement) same ∙ ap (λ (e : List RowEvent). statement_result (after_events was e) statement) own

-- what a statement says fits the tables on which it is said
pub said_fit : (tables : Database) (statement : Statement) (events : List RowEvent) → events ≡ (statement_result tables statement).events → IsWellFormedDatabase tables → EventsFit tables events
said_fit tables statement events said is = subst (EventsFit tables) (sym said) (said_fits tables statement is)

-- ... and leaves them well formed
pub said_well_formed : (tables : Database) (statement : Statement) (events : List RowEvent) → events ≡ (statement_result tables statement).events → IsWellFormedDatabase tables → IsWellFormedDatabase (after_events tables events)
said_well_formed tables statement events said is = subst (λ (es : List RowEvent). IsWellFormedDatabase (after_events tables es)) (sym said) (statements_keep tables statement is)

-- a session that writes more is alone still
pub alone_more : (was now : Database) (written more : ℕ → List RowEvent) (events : List RowEvent) → IsAlone was written → now ≡ was → more 1 ≡ written 1 ++ events → ((other : ℕ) → (other == 1) ≡ false → more other ≡ written other)
    → IsWellFormedDatabase (after_events (after_events was (written 1)) events) → IsAlone now more
alone_more was now written more events is same own others well_formed = record {
  others = λ other differ. others other differ ∙ is.others other differ;
  well_formed =
      subst (λ (tables : Database). IsWellFormedDatabase (after_events tables (more 1))) (sym same)
      (subst (λ (all : List RowEvent). IsWellFormedDatabase (after_events was all)) (sym own) (subst IsWellFormedDatabase (sym (after_events-append was (written 1) events)) well_formed));
}

fits_none : (tables : Database) → EventsFit tables []
unfolding EventsFit
fits_none tables = tt

-- nothing fits all tables
pub nothing_fits : (tables : Database) (events : List RowEvent) → events ≡ [] → EventsFit tables events
nothing_fits tables events none = subst (EventsFit tables) (sym none) (fits_none tables)

-- ... and leaves them as they are
pub nothing_changes : (tables : Database) (events : List RowEvent) → events ≡ [] → IsWellFormedDatabase tables → IsWellFormedDatabase (after_events tables events)
unfolding after_events
nothing_changes tables events none is = subst (λ (all : List RowEvent). IsWellFormedDatabase (after_events tables all)) (sym none) is

-- nobody wrote anything
pub alone_fresh : (tables : Database) (written : ℕ → List RowEvent) → ((session : ℕ) → written session ≡ []) → IsWellFormedDatabase tables → IsAlone tables written
alone_fresh tables written fresh is = record { others = λ other differ. fresh other; well_formed = nothing_changes tables (written 1) (fresh 1) is }

fresh_by : (written : ℕ → List RowEvent) → written 1 ≡ [] → ((other : ℕ) → (other == 1) ≡ false → written other ≡ []) → (session : ℕ) (b : Bool) → (session == 1) ≡ b → written session ≡ []
fresh_by written own others session true is = subst (λ (s : ℕ). written s ≡ []) (sym (are_one session 1 is)) own
fresh_by written own others session false is = others session is

-- after the end nobody has written anything
pub all_fresh : (written : ℕ → List RowEvent) → written 1 ≡ [] → ((other : ℕ) → (other == 1) ≡ false → written other ≡ []) → (session : ℕ) → written session ≡ []
all_fresh written own others session = fresh_by written own others session (session == 1) refl

-- the outcome of lines that were run
either_replies : (b : Bool) (tables : Database) (ran : Ran) → (outcome_if b tables ran).replies ≡ ran.replies
either_replies true tables ran = refl
either_replies false tables ran = refl

pub outcome_replies : (tables : Database) (lines : List TxnLine) → (alone tables lines).replies ≡ (lines_run tables nothing_ran lines).replies
unfolding alone
outcome_replies tables lines = either_replies (stays lines) tables (lines_run tables nothing_ran lines)

pub outcome_tables : (tables now after : Database) (written : List RowEvent) (lines : List TxnLine) (b : Bool) → stays lines ≡ b → now ≡ tables → written ≡ (lines_run tables nothing_ran lines).writes → (b ≡ true → after ≡ after_events now written) → (b ≡ false → after ≡ now)
    → after ≡ (alone tables lines).tables
unfolding alone
outcome_tables tables now after written lines true is same wrote stay forget =
    stay refl ∙ ap (λ (t : Database). after_events t written) same ∙ ap (after_events tables) wrote ∙ sym (ap (λ (b : Bool). (outcome_if b tables (lines_run tables nothing_ran lines)).tables) is)
outcome_tables tables now after written lines false is same wrote stay forget = forget refl ∙ same ∙ sym (ap (λ (b : Bool). (outcome_if b tables (lines_run tables nothing_ran lines)).tables) is)

pub end_well_formed : (tables after : Database) (written : ℕ → List RowEvent) (b : Bool) → IsAlone tables written → IsWellFormedDatabase tables → (b ≡ true → after ≡ after_events tables (written 1)) → (b ≡ false → after ≡ tables) → IsWellFormedDatabase after
end_well_formed tables after written true is well_formed stay forget = subst IsWellFormedDatabase (sym (stay refl)) is.well_formed
end_well_formed tables after written false is well_formed stay forget = subst IsWellFormedDatabase (sym (forget refl)) well_formed
