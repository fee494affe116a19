-- The sentry relation through the steps of an attempt.
use Rattle.std.proofs.Common.{◌≡◌, ◌≢◌, ℕ, zero, suc, ◌+◌, ◌≤◌, Bool, true, false, cond, List, [], ◌∷◌, ◌++◌, length, take, drop, None, refl, sym, ap, ◌∙◌, subst, arith, inl, inr}
use Rattle.std.specs.Prelude.{◌⊎◌}
use Rattle.std.proofs.lemmas.Bool.{cases_eq, false_from_ne_true, false≢true}
use Rattle.std.proofs.lemmas.List.{append_assoc, drop-append-le, take-append-le, length-append}
use Rattle.std.proofs.lemmas.List.Elements.{filter-append}
use Rattle.std.specs.Str.{bytes_eq}
use Rattle.base_values.specs.declared.event.RowEvent.{RowEvent}
use Rattle.base_values.specs.declared.event.Change.TheVariants.{Write}
use Rattle.std.proofs.Math.Seq.{drop-append-add}
use Rattle.table_store.specs.Databases.{has_table as has_table_name}
use Rattle.server_locks.specs.MetadataLocks.Grants.{HeldName, holds, blocker_of_name}
use Rattle.proof_journals.specs.Sentry.Sentries.{Scene, HasSentry, IsAlone, IsLocked, IsHinted, IsDrained, RenameWaits, MayExchange, AfterLock, AfterHint, AfterDrain, AfterRename, AfterDrop, AfterUnlock, AfterFailure, WhereItWaits, HoldsLock, AtEnd, Guards, OthersHold, OthersTurn, DropsSentry, FreesLock, OnlyFreesLock, KnowsHint, MayAnswer}
use Rattle.proof_journals.proofs.Sentry.Holding.{refused_shared, waits_after}
use Rattle.base_values.specs.ToolNames.{log_name, old_name}
use Rattle.tool_changelog.specs.Hints.{hint_row, last_hint}
use Rattle.tool_program.specs.declared.chunk_copier.copier.Copier.{Copier}
use Rattle.tool_program.specs.declared.event_applier.applier.Applier.{Applier}
use Rattle.tool_program.specs.EventApplier.Appliers.{events_of}
use Rattle.tool_program.specs.declared.cutover_core.cutover.CutOver.{CutOver}
use Rattle.tool_program.specs.declared.cutover_core.cutover.Phase.{Phase}
use Rattle.tool_program.specs.declared.cutover_core.cutover.Phase.TheVariants.{Resting, Attempting, Ending, Finishing, Finished}
use Rattle.tool_program.specs.declared.cutover_core.cutover.Stage.TheVariants.{Guarding, Locking, Hinting, ReadingCounter, SettingCounter, Draining, Drained, Showing, Dropping, Unlocking, Exchanging}
use Rattle.tool_program.specs.declared.cutover_core.cutover.Drain.TheVariants.{Turns, Passed}
use Rattle.tool_program.specs.declared.cutover_core.cutover.Hold.{Hold}
use Rattle.tool_program.specs.declared.cutover_core.cutover.Hold.TheVariants.{Nothing, WaitsToGuard, WaitsToLock, Locks}

-- AFTER ANOTHER SESSION'S TURN

-- a turn in which the session doesn't come to hold the table
pub still_alone : (t : List ℕ) (r s l : ℕ) (before after : Scene) (turn : OthersTurn t r s before after) → l ≢ s → (blocker_of_name before.held before.waiting s t false ≡ None → ⊥) → IsAlone t before.held l → IsAlone t after.held l
still_alone t r s l before after turn apart refused alone other differs = by (cases_eq other s)
  where
    lacked : holds before.held s t false ≡ false
    lacked = alone s (λ same. apart (sym same))

    by : (other ≡ s) ⊎ (other ≢ s) → holds after.held other t false ≡ false
    by (inl is) = ap (λ session. holds after.held session t false) is ∙ false_from_ne_true (holds after.held s t false) (λ has. refused (turn.granted lacked has))
    by (inr is) = turn.others other t false is ∙ alone other differs

pub still_locked : (t : List ℕ) (r s l : ℕ) (before after : Scene) (turn : OthersTurn t r s before after) → l ≢ s → IsLocked t before.held l → IsLocked t after.held l
still_locked t r s l before after turn apart locked =
    record {
      own = turn.others l t true apart ∙ locked.own;
      old = turn.others l (old_name t) true apart ∙ locked.old;
      alone = still_alone t r s l before after turn apart (λ granted. refused_shared before.held before.waiting s l t apart locked.own granted) locked.alone;
    }

-- nothing of the table is committed by a session that holds no lock on it
nothing_written : (t : List ℕ) (r s l : ℕ) (before after : Scene) (turn : OthersTurn t r s before after) → l ≢ s → (blocker_of_name before.held before.waiting s t false ≡ None → ⊥) → IsAlone t before.held l → events_of t turn.events ≡ []
nothing_written t r s l before after turn apart refused alone =
    turn.written (alone s (λ same. apart (sym same))) refused

locked_out : (t : List ℕ) (s l : ℕ) (scene : Scene) → l ≢ s → IsLocked t scene.held l → blocker_of_name scene.held scene.waiting s t false ≡ None → ⊥
locked_out t s l scene apart locked granted = refused_shared scene.held scene.waiting s l t apart locked.own granted

no_more : (t : List ℕ) (one two : List RowEvent) → events_of t one ≡ [] → events_of t two ≡ [] → events_of t (one ++ two) ≡ []
no_more t one two e f = filter-append (λ event. bytes_eq event.table t) one two ∙ (rw (e, f) refl)

pub still_drained : (t : List ℕ) (log events : List RowEvent) (copier : Copier) (applier : Applier) → events_of t events ≡ [] → IsDrained t log copier applier → IsDrained t (log ++ events) copier applier
still_drained t log events copier applier none drained =
    record {
      copied = drained.copied;
      applied = ap (events_of t) (drop-append-le applier.position log events drained.within) ∙ no_more t (drop applier.position log) events drained.applied none;
      within = omega (arith, drained.within, length-append log events);
      idle = drained.idle;
    }

pub still_hinted : (t : List ℕ) (attempt : ℕ) (log events : List RowEvent) → events_of t events ≡ [] → IsHinted t attempt log → IsHinted t attempt (log ++ events)
still_hinted t attempt log events none hinted =
    record {
      front = hinted.front;
      following = hinted.following ++ events;
      logged = ap (λ all. all ++ events) hinted.logged ∙ append_assoc hinted.front (record { table = log_name t; change = Write (hint_row attempt) } ∷ hinted.following) events;
      first = hinted.first;
      last = no_more t hinted.following events hinted.last none;
    }

drained_after : (t : List ℕ) (r s l : ℕ) (before after : Scene) (turn : OthersTurn t r s before after) (copier : Copier) (applier : Applier) → l ≢ s → (blocker_of_name before.held before.waiting s t false ≡ None → ⊥) → IsAlone t before.held l → IsDrained t before.log copier applier → IsDrained t after.log copier applier
drained_after t r s l before after turn copier applier apart refused alone drained =
    subst (λ log. IsDrained t log copier applier) (sym turn.log) (still_drained t before.log turn.events copier applier (nothing_written t r s l before after turn apart refused alone) drained)

hinted_after : (t : List ℕ) (r s l : ℕ) (before after : Scene) (turn : OthersTurn t r s before after) (attempt : ℕ) → l ≢ s → (blocker_of_name before.held before.waiting s t false ≡ None → ⊥) → IsAlone t before.held l → IsHinted t attempt before.log → IsHinted t attempt after.log
hinted_after t r s l before after turn attempt apart refused alone hinted =
    subst (λ log. IsHinted t attempt log) (sym turn.log) (still_hinted t attempt before.log turn.events (nothing_written t r s l before after turn apart refused alone) hinted)

sentry_after : (t : List ℕ) (r s : ℕ) (before after : Scene) → OthersTurn t r s before after → HasSentry t before → HasSentry t after
sentry_after t r s before after turn sentry = turn.old_stays ∙ sentry

-- while the RENAME waits nobody else comes to the table
may_after : (t : List ℕ) (r s l : ℕ) (before after : Scene) (turn : OthersTurn t r s before after) (copier : Copier) (applier : Applier) → l ≢ s → r ≢ s → RenameWaits t before r → MayExchange t before copier applier l → MayExchange t after copier applier l
may_after t r s l before after turn copier applier apart other waits may =
    record {
      alone = still_alone t r s l before after turn apart (λ granted. waits_after before.held before.waiting s r t other (may.alone s (λ same. apart (sym same))) waits granted) may.alone;
      drained = drained_after t r s l before after turn copier applier apart (λ granted. waits_after before.held before.waiting s r t other (may.alone s (λ same. apart (sym same))) waits granted) may.alone may.drained;
    }

guarded_after : (t : List ℕ) (r s l : ℕ) (before after : Scene) (turn : OthersTurn t r s before after) (copier : Copier) (applier : Applier) → l ≢ s → r ≢ s → RenameWaits t before r → HasSentry t before ⊎ MayExchange t before copier applier l
    → HasSentry t after ⊎ MayExchange t after copier applier l
guarded_after t r s l before after turn copier applier apart other waits (inl sentry) = inl (sentry_after t r s before after turn sentry)
guarded_after t r s l before after turn copier applier apart other waits (inr may) = inr (may_after t r s l before after turn copier applier apart other waits may)

at_end_after : (t : List ℕ) (r s l : ℕ) (before after : Scene) (turn : OthersTurn t r s before after) (copier : Copier) (applier : Applier) → l ≢ s → r ≢ s → (hold : Hold) (waits : Bool) → AtEnd t before copier applier l r hold waits → AtEnd t after copier applier l r hold waits
at_end_after t r s l before after turn copier applier apart other hold waits at = record { lock = held hold at.lock; rename = named waits at.rename }
  where
    held : (hold : Hold) → HoldsLock t before l hold → HoldsLock t after l hold
    held Locks locked = still_locked t r s l before after turn apart locked
    held Nothing locked = tt
    held WaitsToGuard locked = tt
    held WaitsToLock locked = tt

    named : (waits : Bool) → WhereItWaits waits (AfterFailure t before copier applier l r) → WhereItWaits waits (AfterFailure t after copier applier l r)
    named false claim = tt
    named true claim = record { waits = turn.waits claim.waits; guarded = guarded_after t r s l before after turn copier applier apart other claim.waits claim.guarded }

rename_after : (t : List ℕ) (r s l : ℕ) (before after : Scene) (turn : OthersTurn t r s before after) (copier : Copier) (applier : Applier) → l ≢ s → AfterRename t before copier applier l r → AfterRename t after copier applier l r
rename_after t r s l before after turn copier applier apart at =
    record { sentry = sentry_after t r s before after turn at.sentry; locked = still_locked t r s l before after turn apart at.locked; drained = drained_after t r s l before after turn copier applier apart (locked_out t s l before apart at.locked) at.locked.alone at.drained; waits = turn.waits at.waits }

-- another session's turn keeps every line of the relation
pub others_keep : (t : List ℕ) (r s l : ℕ) (before after : Scene) (turn : OthersTurn t r s before after) (copier : Copier) (applier : Applier) (cutover : CutOver) → l ≢ s → r ≢ s → (phase : Phase) → Guards t before copier applier cutover l r phase
    → Guards t after copier applier cutover l r phase
others_keep t r s l before after turn copier applier cutover apart other Resting at = tt
others_keep t r s l before after turn copier applier cutover apart other (Attempting Guarding) at = tt
others_keep t r s l before after turn copier applier cutover apart other (Attempting Locking) at = record { sentry = sentry_after t r s before after turn at.sentry }
others_keep t r s l before after turn copier applier cutover apart other (Attempting Hinting) at =
    record { sentry = sentry_after t r s before after turn at.sentry; locked = still_locked t r s l before after turn apart at.locked }
others_keep t r s l before after turn copier applier cutover apart other (Attempting (Draining turns)) at =
    record { sentry = sentry_after t r s before after turn at.sentry; locked = still_locked t r s l before after turn apart at.locked; hinted = hinted_after t r s l before after turn cutover.attempts apart (locked_out t s l before apart at.locked) at.locked.alone at.hinted }
others_keep t r s l before after turn copier applier cutover apart other (Attempting (ReadingCounter (Turns turns))) at =
    record { sentry = sentry_after t r s before after turn at.sentry; locked = still_locked t r s l before after turn apart at.locked; hinted = hinted_after t r s l before after turn cutover.attempts apart (locked_out t s l before apart at.locked) at.locked.alone at.hinted }
others_keep t r s l before after turn copier applier cutover apart other (Attempting (SettingCounter number (Turns turns))) at =
    record { sentry = sentry_after t r s before after turn at.sentry; locked = still_locked t r s l before after turn apart at.locked; hinted = hinted_after t r s l before after turn cutover.attempts apart (locked_out t s l before apart at.locked) at.locked.alone at.hinted }
others_keep t r s l before after turn copier applier cutover apart other (Attempting Drained) at =
    record { sentry = sentry_after t r s before after turn at.sentry; locked = still_locked t r s l before after turn apart at.locked; drained = drained_after t r s l before after turn copier applier apart (locked_out t s l before apart at.locked) at.locked.alone at.drained }
others_keep t r s l before after turn copier applier cutover apart other (Attempting (ReadingCounter Passed)) at =
    record { sentry = sentry_after t r s before after turn at.sentry; locked = still_locked t r s l before after turn apart at.locked; drained = drained_after t r s l before after turn copier applier apart (locked_out t s l before apart at.locked) at.locked.alone at.drained }
others_keep t r s l before after turn copier applier cutover apart other (Attempting (SettingCounter number Passed)) at =
    record { sentry = sentry_after t r s before after turn at.sentry; locked = still_locked t r s l before after turn apart at.locked; drained = drained_after t r s l before after turn copier applier apart (locked_out t s l before apart at.locked) at.locked.alone at.drained }
others_keep t r s l before after turn copier applier cutover apart other (Attempting Showing) at = rename_after t r s l before after turn copier applier apart at
others_keep t r s l before after turn copier applier cutover apart other (Attempting Dropping) at = rename_after t r s l before after turn copier applier apart at
others_keep t r s l before after turn copier applier cutover apart other (Attempting Unlocking) at =
    record { gone = turn.old_stays ∙ at.gone; locked = still_locked t r s l before after turn apart at.locked; drained = drained_after t r s l before after turn copier applier apart (locked_out t s l before apart at.locked) at.locked.alone at.drained; waits = turn.waits at.waits }
others_keep t r s l before after turn copier applier cutover apart other (Attempting Exchanging) at = by cutover.renamer_waits at
  where
    by : (b : Bool) → WhereItWaits b (AfterUnlock t before copier applier l r) → WhereItWaits b (AfterUnlock t after copier applier l r)
    by false at = tt
    by true at = record { gone = turn.old_stays ∙ at.gone; waits = turn.waits at.waits; may = may_after t r s l before after turn copier applier apart other at.waits at.may }
others_keep t r s l before after turn copier applier cutover apart other (Ending clearing) at = at_end_after t r s l before after turn copier applier apart other cutover.hold cutover.renamer_waits at
others_keep t r s l before after turn copier applier cutover apart other (Finishing clearing) at = tt
others_keep t r s l before after turn copier applier cutover apart other Finished at = tt

-- THE ATTEMPT'S OWN STEPS

-- The hint row is written: it stands behind all that is logged of the table
pub writes_hint : (t : List ℕ) (attempt l : ℕ) (before after : Scene) → AfterLock t before l → ((count : ℕ) → last_hint t 0 (take count before.log) ≢ attempt) → has_table_name (old_name t) after.tables ≡ has_table_name (old_name t) before.tables → after.held ≡ before.held
    → after.log ≡ before.log ++ record { table = log_name t; change = Write (hint_row attempt) } ∷ [] → AfterHint t after attempt l
writes_hint t attempt l before after at earlier tables held log =
    record {
      sentry = tables ∙ at.sentry;
      locked = subst (λ locks. IsLocked t locks l) (sym held) at.locked;
      hinted = record { front = before.log; following = []; logged = log; first = earlier; last = refl };
    }

-- an applier that knows of the attempt's hint row is behind it, so that nothing of the table is unread
pub none_after : (t : List ℕ) (count : ℕ) (events : List RowEvent) → events_of t events ≡ [] → events_of t (drop count events) ≡ []
none_after t zero events none = none
none_after t (suc count) [] none = refl
none_after t (suc count) (event ∷ events) none = none_after t count events (tail_none (bytes_eq event.table t) event (events_of t events) none)
  where
    tail_none : (b : Bool) (event : RowEvent) (rest : List RowEvent) → cond b (event ∷ rest) rest ≡ [] → rest ≡ []
    tail_none true event rest e = absurd cc
    tail_none false event rest e = e

split_at : (position front : ℕ) → (position ≤ front) ⊎ ((k : ℕ) × (position ≡ front + suc k))
split_at zero front = inl (omega arith)
split_at (suc position) zero = inr (position, omega arith)
split_at (suc position) (suc front) = further position front (split_at position front)
  where
    further : (position front : ℕ) → (position ≤ front) ⊎ ((k : ℕ) × (position ≡ front + suc k)) → (suc position ≤ suc front) ⊎ ((k : ℕ) × (suc position ≡ suc front + suc k))
    further position front (inl le) = inl (omega arith)
    further position front (inr more) = inr (more.0, omega (arith, more.1))

applied_after : (t : List ℕ) (attempt position : ℕ) (front following : List RowEvent) (event : RowEvent) → events_of t following ≡ [] → ((count : ℕ) → last_hint t 0 (take count front) ≢ attempt) → attempt ≡ last_hint t 0 (take position (front ++ event ∷ following))
    → events_of t (drop position (front ++ event ∷ following)) ≡ []
applied_after t attempt position front following event none earlier known = by (split_at position (length front))
  where
    by : (position ≤ length front) ⊎ ((k : ℕ) × (position ≡ length front + suc k)) → events_of t (drop position (front ++ event ∷ following)) ≡ []
    by (inl le) = absurd (earlier position (sym (known ∙ ap (last_hint t 0) (take-append-le position front (event ∷ following) le))))
    by (inr more) = ap (λ count. events_of t (drop count (front ++ event ∷ following))) more.1 ∙ ap (events_of t) (drop-append-add front (event ∷ following) (suc more.0)) ∙ none_after t more.0 following none

-- the applier's turn in which its position passes the hint row: all is applied
pub drains : (t : List ℕ) (attempt l : ℕ) (scene : Scene) (copier : Copier) (applier : Applier) → AfterHint t scene attempt l → KnowsHint t scene.log applier → applier.hint ≡ attempt → copier.is_copied ≡ true → applier.position ≤ length scene.log
    → Rattle.tool_program.specs.EventApplier.Appliers.starts applier ≡ true → AfterDrain t scene copier applier l
drains t attempt l scene copier applier at knows is copied within idle =
    let hint_event : RowEvent = record { table = log_name t; change = Write (hint_row attempt) } in
    let known : attempt ≡ last_hint t 0 (take applier.position (at.hinted.front ++ hint_event ∷ at.hinted.following)) = sym is ∙ knows ∙ ap (λ log. last_hint t 0 (take applier.position log)) at.hinted.logged in
    record {
      sentry = at.sentry;
      locked = at.locked;
      drained = record {
        copied = copied;
        applied = ap (λ log. events_of t (drop applier.position log)) at.hinted.logged ∙ applied_after t attempt applier.position at.hinted.front at.hinted.following hint_event at.hinted.last at.hinted.first known;
        within = within;
        idle = idle;
      };
    }

-- The sentry is dropped under the lock
pub drops_sentry : (t : List ℕ) (l r : ℕ) (before after : Scene) (copier : Copier) (applier : Applier) → AfterRename t before copier applier l r → DropsSentry t before after → (RenameWaits t before r → RenameWaits t after r) → AfterDrop t after copier applier l r
drops_sentry t l r before after copier applier at drops waits =
    record {
      gone = drops.gone;
      locked = subst (λ held. IsLocked t held l) (sym drops.held) at.locked;
      drained = subst (λ log. IsDrained t log copier applier) (sym drops.log) at.drained;
      waits = waits at.waits;
    }

-- whoever was alone beside the locker's locks is so when they are freed
pub alone_freed : (t : List ℕ) (l : ℕ) (before after : List HeldName) → OthersHold t l before after → IsAlone t before l → IsAlone t after l
alone_freed t l before after others alone other differs = others other t false differs ∙ alone other differs

pub may_freed : (t : List ℕ) (l r : ℕ) (before after : Scene) (copier : Copier) (applier : Applier) → FreesLock t l r before after → MayExchange t before copier applier l → MayExchange t after copier applier l
may_freed t l r before after copier applier frees may =
    record { alone = alone_freed t l before.held after.held frees.others may.alone; drained = subst (λ log. IsDrained t log copier applier) (sym frees.log) may.drained }

-- The lock is given up
pub unlocks : (t : List ℕ) (l r : ℕ) (before after : Scene) (copier : Copier) (applier : Applier) → AfterDrop t before copier applier l r → OnlyFreesLock t l r before after → AfterUnlock t after copier applier l r
unlocks t l r before after copier applier at only =
    record { gone = only.tables ∙ at.gone; waits = only.frees.waits at.waits; may = may_freed t l r before after copier applier only.frees (record { alone = at.locked.alone; drained = at.drained }) }

-- the locker's session is lost, or the attempt's end unlocks: its locks are freed, and its request is gone
pub lock_is_freed : (t : List ℕ) (l r : ℕ) (before after : Scene) (copier : Copier) (applier : Applier) (hold : Hold) (waits : Bool) → AtEnd t before copier applier l r hold waits → OnlyFreesLock t l r before after → AtEnd t after copier applier l r Nothing waits
lock_is_freed t l r before after copier applier hold waits at only = record { lock = tt; rename = named waits at.rename }
  where
    guard : HasSentry t before ⊎ MayExchange t before copier applier l → HasSentry t after ⊎ MayExchange t after copier applier l
    guard (inl sentry) = inl (only.tables ∙ sentry)
    guard (inr may) = inr (may_freed t l r before after copier applier only.frees may)

    named : (waits : Bool) → WhereItWaits waits (AfterFailure t before copier applier l r) → WhereItWaits waits (AfterFailure t after copier applier l r)
    named false claim = tt
    named true claim = record { waits = only.frees.waits claim.waits; guarded = guard claim.guarded }

-- the renamer is answered, or its session is lost: nothing is claimed of a RENAME any more
pub rename_is_gone : (t : List ℕ) (l r : ℕ) (before after : Scene) (copier : Copier) (applier : Applier) (hold : Hold) (waits : Bool) → l ≢ r → AtEnd t before copier applier l r hold waits → OthersHold t r before.held after.held → holds after.held r t false ≡ false
    → AtEnd t after copier applier l r hold false
rename_is_gone t l r before after copier applier hold waits apart at others gone = record { lock = locked hold at.lock; rename = tt }
  where
    alone : IsAlone t before.held l → IsAlone t after.held l
    alone was other differs = by (cases_eq other r)
      where
        by : (other ≡ r) ⊎ (other ≢ r) → holds after.held other t false ≡ false
        by (inl is) = ap (λ session. holds after.held session t false) is ∙ gone
        by (inr is) = others other t false is ∙ was other differs

    locked : (hold : Hold) → HoldsLock t before l hold → HoldsLock t after l hold
    locked Locks lock = record { own = others l t true apart ∙ lock.own; old = others l (old_name t) true apart ∙ lock.old; alone = alone lock.alone }
    locked Nothing lock = tt
    locked WaitsToGuard lock = tt
    locked WaitsToLock lock = tt

-- THE RENAME THAT RUNS

no_sentry : (t : List ℕ) (scene : Scene) (claim : Type 0) → HasSentry t scene → has_table_name (old_name t) scene.tables ≡ false → claim
no_sentry t scene claim sentry gone = absurd (false≢true (sym gone ∙ sentry))

-- A RENAME that isn't refused with ER_TABLE_EXISTS_ERROR runs only where the tables may be exchanged.
pub rename_exchanges : (t : List ℕ) (l r : ℕ) (scene : Scene) (copier : Copier) (applier : Applier) (cutover : CutOver) (phase : Phase) → Guards t scene copier applier cutover l r phase → MayAnswer phase cutover.renamer_waits → has_table_name (old_name t) scene.tables ≡ false
    → MayExchange t scene copier applier l
rename_exchanges t l r scene copier applier cutover (Attempting Drained) at may gone = no_sentry t scene (MayExchange t scene copier applier l) at.sentry gone
rename_exchanges t l r scene copier applier cutover (Attempting Showing) at may gone = no_sentry t scene (MayExchange t scene copier applier l) at.sentry gone
rename_exchanges t l r scene copier applier cutover (Attempting Dropping) at may gone = no_sentry t scene (MayExchange t scene copier applier l) at.sentry gone
rename_exchanges t l r scene copier applier cutover (Attempting Unlocking) at may gone = record { alone = at.locked.alone; drained = at.drained }
rename_exchanges t l r scene copier applier cutover (Attempting Exchanging) at may gone = by cutover.renamer_waits may at
  where
    by : (b : Bool) → b ≡ true → WhereItWaits b (AfterUnlock t scene copier applier l r) → MayExchange t scene copier applier l
    by true is at = at.may
    by false is at = absurd cc
rename_exchanges t l r scene copier applier cutover (Ending clearing) at may gone = by cutover.renamer_waits may at.rename
  where
    from : HasSentry t scene ⊎ MayExchange t scene copier applier l → MayExchange t scene copier applier l
    from (inl sentry) = no_sentry t scene (MayExchange t scene copier applier l) sentry gone
    from (inr may) = may

    by : (waits : Bool) → waits ≡ true → WhereItWaits waits (AfterFailure t scene copier applier l r) → MayExchange t scene copier applier l
    by true is claim = from claim.guarded
    by false is claim = absurd cc
rename_exchanges t l r scene copier applier cutover Resting at may gone = absurd may
rename_exchanges t l r scene copier applier cutover (Attempting Guarding) at may gone = absurd may
rename_exchanges t l r scene copier applier cutover (Attempting Locking) at may gone = absurd may
rename_exchanges t l r scene copier applier cutover (Attempting Hinting) at may gone = absurd may
rename_exchanges t l r scene copier applier cutover (Attempting (Draining turns)) at may gone = absurd may
rename_exchanges t l r scene copier applier cutover (Attempting (ReadingCounter drain)) at may gone = absurd may
rename_exchanges t l r scene copier applier cutover (Attempting (SettingCounter number drain)) at may gone = absurd may
rename_exchanges t l r scene copier applier cutover (Finishing clearing) at may gone = absurd may
rename_exchanges t l r scene copier applier cutover Finished at may gone = absurd may
