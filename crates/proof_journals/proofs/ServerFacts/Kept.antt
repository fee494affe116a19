-- What a turn of one session leaves of what each session holds and wrote.
use Rattle.std.proofs.Common.{◌≡◌, ℕ, true, false, List, [], ◌∷◌, Option, Some, None, refl, sym, ◌∙◌, subst}
use Rattle.std.specs.Prelude.{◌==◌, is_some}
use Rattle.std.proofs.lemmas.Bool.{false≢true}
use Rattle.std.specs.List.{list_any}
use Rattle.std.specs.Str.{bytes_eq}
use Rattle.base_values.specs.declared.event.RowEvent.{RowEvent}
use Rattle.server_locks.specs.declared.row_locks.lock.Lock.{Lock}
use Rattle.table_store.specs.Databases.{TableRows, Database, find_table}
use Rattle.server_model.specs.Operations.{after_events}
use Rattle.server_model.specs.LockedRows.Agreement.{Agree, TablesAgree}
use Rattle.server_model.specs.LockedRows.Coverage.{Apart}
use Rattle.server_model.specs.LockedRows.Databases.{IsWellFormedDatabase, EventsCovered}
use Rattle.server_model.proofs.LockedRows.Finding.{tables_itself}
use Rattle.server_model.proofs.LockedRows.Stables.{covered_others, others_agree}
use Rattle.server_model.proofs.LockedRows.Tests.{turned}
use Rattle.proof_journals.specs.Scenes.{SessionHold, no_hold, Besides}
use Rattle.proof_journals.specs.Holdings.{Face}
use Rattle.proof_journals.proofs.Kept.{by_number, two_holds, none_apart}
use Rattle.proof_journals.proofs.Turning.{holds_besides}
use Rattle.proof_journals.proofs.Ghost.Fitting.{fitting_begin, fitting_others}
use Rattle.proof_journals.specs.ServerFacts.Invariants.{AllExist, OwnFits}

-- what each session holds goes with the tables, and no two hold what conflicts
pub record Keeps (tables : Database) (faces : ℕ → Face) : Type 0 where
  pub well_formed : IsWellFormedDatabase tables
  pub own : (n : ℕ) → OwnFits tables (faces n)
  pub apart : (m n : ℕ) → (m == n) ≡ false → Apart (faces m).hold.locks (faces n).hold.locks

-- tables that agree stand both
both_stand : (locks : List Lock) (one two : Option TableRows) → TablesAgree locks one two → is_some one ≡ true → is_some two ≡ true
both_stand locks None two agree is = absurd (false≢true is)
both_stand locks (Some x) None agree is = absurd agree
both_stand locks (Some x) (Some y) agree is = refl

stand_others : (names : List (List ℕ)) (locks : List Lock) (before after : Database) (events : List RowEvent) → Agree names locks before after → EventsCovered names locks before events → AllExist before events → AllExist after events
stand_others names locks before after [] agree covered stand = tt
stand_others names locks before after (event ∷ events) agree covered stand = (
  both_stand locks (find_table event.table before) (find_table event.table after) (agree.tables event.table covered.0.named) stand.0,
  stand_others names locks before after events agree covered.1 stand.1,
)

-- the tables agree under what the session holds
pub own_others : (before after : Database) (face : Face) → Agree face.hold.names face.hold.locks before after → OwnFits before face → OwnFits after face
own_others before after face agree own = record {
  rests = own.rests;
  fitting = fitting_others face.hold.names face.hold.locks face.hold.writes before after agree own.fitting;
  covered = covered_others face.hold.names face.hold.locks before after face.hold.writes agree own.covered;
  standing = stand_others face.hold.names face.hold.locks before after face.hold.writes agree own.covered own.standing;
}

-- a session that holds and wrote nothing
pub own_rests : (tables : Database) (face : Face) → face.hold ≡ no_hold → OwnFits tables face
own_rests tables face none = record {
  rests = λ busy. none;
  fitting = rw none (fitting_begin tables);
  covered = rw none tt;
  standing = rw none tt;
}

-- one session's face becomes another
pub keeps_goes : (tables : Database) (faces news : ℕ → Face) (number : ℕ) (own : Face) → Keeps tables faces → OwnFits tables own → ((n : ℕ) → (n == number) ≡ false → Apart own.hold.locks (faces n).hold.locks) → Besides number faces news own → Keeps tables news
keeps_goes tables faces news number own kept fits apart besides = record {
  well_formed = kept.well_formed;
  own = by_number (λ n face. OwnFits tables face) number faces news own besides fits (λ n differ. kept.own n);
  apart = two_holds number (λ n. (faces n).hold) (λ n. (news n).hold) own.hold (holds_besides number faces news own besides) apart kept.apart;
}

-- it holds nothing any more
pub keeps_rests : (tables : Database) (faces news : ℕ → Face) (number : ℕ) (own : Face) → Keeps tables faces → own.hold ≡ no_hold → Besides number faces news own → Keeps tables news
keeps_rests tables faces news number own kept none besides =
    keeps_goes tables faces news number own kept (own_rests tables own none) (λ n differ. subst (λ (h : SessionHold). Apart h.locks (faces n).hold.locks) (sym none) (none_apart (faces n).hold.locks)) besides

-- its hold stays
pub keeps_holds : (tables : Database) (faces news : ℕ → Face) (number : ℕ) (own : Face) → Keeps tables faces → own.hold ≡ (faces number).hold → own.busy ≡ (faces number).busy → Besides number faces news own → Keeps tables news
keeps_holds tables faces news number own kept same busy besides =
    let old : OwnFits tables (faces number) = kept.own number in
    keeps_goes tables faces news number own kept
    (record {
      rests = λ is. same ∙ old.rests (sym busy ∙ is);
      fitting = rw same old.fitting;
      covered = rw same old.covered;
      standing = rw same old.standing;
    }) (λ n differ. subst (λ (h : SessionHold). Apart h.locks (faces n).hold.locks) (sym same) (kept.apart number n (turned n number differ))) besides

-- events that are covered by locks which conflict with no other's are committed, and the session holds nothing any more
pub keeps_commits : (tables : Database) (faces news : ℕ → Face) (number : ℕ) (own : Face) (names : List (List ℕ)) (locks : List Lock) (events : List RowEvent) → Keeps tables faces → EventsCovered names locks tables events
    → ((n : ℕ) → (n == number) ≡ false → Apart locks (faces n).hold.locks) → IsWellFormedDatabase (after_events tables events) → own.hold ≡ no_hold → Besides number faces news own → Keeps (after_events tables events) news
keeps_commits tables faces news number own names locks events kept covered apart well_formed none besides = record {
  well_formed = well_formed;
  own = by_number (λ n face. OwnFits (after_events tables events) face) number faces news own besides (own_rests (after_events tables events) own none)
      (λ n differ. own_others tables (after_events tables events) (faces n) (others_agree (faces n).hold.names names locks (faces n).hold.locks tables events (apart n differ) covered) (kept.own n));
  apart = two_holds number (λ n. (faces n).hold) (λ n. (news n).hold) own.hold (holds_besides number faces news own besides) (λ n differ. subst (λ (h : SessionHold). Apart h.locks (faces n).hold.locks) (sym none) (none_apart (faces n).hold.locks)) kept.apart;
}

-- tables of names change that the session doesn't hold
pub own_moved : (before after : Database) (face : Face) → ((name : List ℕ) → list_any (bytes_eq name) face.hold.names ≡ true → find_table name after ≡ find_table name before) → OwnFits before face → OwnFits after face
own_moved before after face same own = own_others before after face (record { tables = λ name held. rw (same name held) (tables_itself face.hold.locks (find_table name before)) }) own
