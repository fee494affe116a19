-- A session that is granted a job: with what it then holds and wrote, the server keeps what it keeps.
use Rattle.std.proofs.Common.{◌≡◌, ℕ, true, List, sym, subst}
use Rattle.std.specs.List.{list_any}
use Rattle.std.specs.Str.{bytes_eq}
use Rattle.base_values.specs.declared.event.RowEvent.{RowEvent}
use Rattle.table_store.specs.Databases.{Database}
use Rattle.server_model.specs.Operations.{Operation, after_events, operation_result}
use Rattle.server_model.specs.LockedRows.Databases.{EventsCovered, TaskSound}
use Rattle.server_model.proofs.LockedRows.Finding.{says_covered}
use Rattle.server_model.proofs.LockedRows.Stables.{covered_before, covered_both, covered_more}
use Rattle.proof_journals.specs.Scenes.{Besides, SessionHold, Stored}
use Rattle.proof_journals.proofs.Kept.{by_number, two_holds}
use Rattle.proof_journals.specs.Ghost.FittingEvents.{EventsFit}
use Rattle.proof_journals.specs.Ghost.Given.{IsGiven}
use Rattle.proof_journals.specs.Ghost.Invariant.{IsServed}
use Rattle.proof_journals.specs.Ghost.ToolTurns.{KeepsNames}
use Rattle.proof_journals.proofs.Ghost.Fitting.{fit_more, well_formed_events, says_fit}

pub operation_served : (now : Stored) (hold holds : ℕ → SessionHold) (number : ℕ) (operation : Operation) (own : SessionHold) → IsServed now hold → TaskSound operation (after_events now.tables (hold number).writes) → IsGiven now hold number operation own → KeepsNames (hold number) own
    → list_any (bytes_eq operation.table) own.names ≡ true → Besides number hold holds own → IsServed now holds
operation_served now hold holds number operation own served sound given named mine besides =
    let was : SessionHold = hold number in
    let view : Database = after_events now.tables was.writes in
    let events : List RowEvent = (operation_result view operation).events in
    let fits : EventsFit now.tables own.writes =
    subst (EventsFit now.tables) (sym given.wrote) (fit_more now.tables was.writes events (served.fits number) (says_fit view operation sound (well_formed_events now.tables was.writes served.well_formed (served.fits number)))) in
    let covered : EventsCovered own.names own.locks now.tables own.writes =
    subst (EventsCovered own.names own.locks now.tables) (sym given.wrote)
    (covered_both own.names own.locks now.tables was.writes events (covered_more was.names own.names was.locks own.locks now.tables was.writes named given.kept (served.covered number)) (covered_before own.names own.locks now.tables was.writes events (says_covered own.names own.locks view operation mine given.needed))) in
    record {
      well_formed = served.well_formed;
      fits = by_number (λ (n : ℕ) (h : SessionHold). EventsFit now.tables h.writes) number hold holds own besides fits (λ n differ. served.fits n);
      covered = by_number (λ (n : ℕ) (h : SessionHold). EventsCovered h.names h.locks now.tables h.writes) number hold holds own besides covered (λ n differ. served.covered n);
      apart = two_holds number hold holds own besides given.apart served.apart;
    }
