-- One law for each thing that the applier does, by what is planned for the log's events.
use Rattle.std.proofs.Common.{◌≡◌, ℕ, ◌+◌, ◌≤◌, Bool, true, false, List, [], ◌∷◌, ◌++◌, length, cond, None, Ok, refl, sym, ap, ◌∙◌, subst, arith, inl}
use Rattle.std.specs.Prelude.{◌==◌}
use Rattle.std.proofs.lemmas.Bool.{false≢true}
use Rattle.base_values.specs.GhoSchema.Rows.{key_of, key_places}
use Rattle.base_values.specs.GhoSchema.Tables.{IsRow, no_null}
use Rattle.base_values.specs.RowConversion.ConvertedRows.{converted_row}
use Rattle.base_values.specs.declared.event.RowEvent.{RowEvent}
use Rattle.base_values.specs.declared.event.Change.{Change}
use Rattle.base_values.specs.declared.event.Change.TheVariants.{Write, Update, Delete}
use Rattle.base_values.specs.declared.mysql_errors.TheConstants.{ER_DUP_ENTRY}
use Rattle.std.proofs.Common.{length-append}
use Rattle.server_locks.specs.declared.row_locks.lock.Lock.{Lock}
use Rattle.server_model.specs.declared.work.Work.TheVariants as works
use Rattle.tool_program.specs.EventApplier.Appliers.{Doing}
use Rattle.tool_program.specs.EventApplier.Appliers.Doing.{Putting, Removing, Changing}
use Rattle.proof_journals.proofs.Ghost.Joining.{delete_work, due_before, half_empty, half_holds, left_fits, unfit_work, update_work}
use Rattle.proof_journals.proofs.Ghost.Keys.{full_key, locked_more, row_locked}
use Rattle.proof_journals.proofs.Ghost.Saying.{applier_says}
use Rattle.proof_journals.proofs.Ghost.Stepping.{delete_keeps, given_grant, half_keeps, replace_keeps, unfit_keeps, update_keeps}
use Rattle.proof_journals.proofs.Ghost.Walking.{Comes, changes_front, get_front, is_due, walks, walks_out}
use Rattle.proof_journals.specs.Ghost.Doings.{changes_in, IsHalf, IsWhole, planned}
use Rattle.proof_journals.specs.Ghost.Given.{IsGiven}
use Rattle.proof_journals.specs.Ghost.HeldKeys.{is_locked}
use Rattle.proof_journals.specs.Ghost.Invariant.{GhostInvariant, IsServed}
use Rattle.proof_journals.specs.Ghost.Statements.{DoesWork}
use Rattle.proof_journals.specs.Ghost.Relation.Views.{Progress}
use Rattle.proof_journals.proofs.Ghost.Rows.Finding.{is_same}
use Rattle.proof_journals.specs.Ghost.Rows.Moments.{Row}
use Rattle.proof_journals.specs.Ghost.Rows.Timelines.{IsDue, IsPlanned, Migration, changes_key, kept}
use Rattle.proof_journals.specs.Ghost.Rows.Views.{is_key, GhostRows, ghost_row, view_of}
use Rattle.proof_journals.specs.Scenes.{Besides, SessionHold, Stored}
use Rattle.server_model.specs.Answers.{refuses}
use Rattle.server_model.specs.Operations.{Operation}
use Rattle.server_model.specs.Needs.{needs, points, points_of}
use Rattle.server_model.specs.StatementResults.{displaced, only, tells}
use Rattle.server_model.proofs.LockedRows.Points.{within-parts}
use Rattle.server_model.specs.LockedRows.Agreement.{Within}

-- ---- what is planned first

pub record PutFirst (m : Migration) (changes : List Change) (row : Row) (rest : List Doing) : Type 0 where
  pub more : List Change
  pub are : changes ≡ Write row ∷ more
  pub others : rest ≡ planned m more

no_put : (m : Migration) (before after row : Row) (more : List Change) (rest : List Doing) (b : Bool) → cond b (Removing before ∷ Putting after ∷ []) (Changing before after ∷ []) ++ planned m more ≡ Putting row ∷ rest → ⊥
no_put m before after row more rest true is = cc
no_put m before after row more rest false is = cc

pub put_first : (m : Migration) (changes : List Change) (row : Row) (rest : List Doing) → planned m changes ≡ Putting row ∷ rest → PutFirst m changes row rest
unfolding planned
put_first m [] row rest is = absurd cc
put_first m (Write new ∷ more) row rest is = let one : new ≡ row = cc in record { more = more; are = ap (λ (r : Row). Write r ∷ more) one; others = let e : planned m more ≡ rest = cc in sym e }
put_first m (Update before after ∷ more) row rest is = absurd (no_put m before after row more rest (changes_key (kept m) before after) is)
put_first m (Delete old ∷ more) row rest is = absurd cc

pub record ChangeFirst (m : Migration) (changes : List Change) (before after : Row) (rest : List Doing) : Type 0 where
  pub more : List Change
  pub are : changes ≡ Update before after ∷ more
  pub stays : changes_key (kept m) before after ≡ false
  pub others : rest ≡ planned m more

change_by : (m : Migration) (b a before after : Row) (more : List Change) (rest : List Doing) (t : Bool) → changes_key (kept m) b a ≡ t → cond t (Removing b ∷ Putting a ∷ []) (Changing b a ∷ []) ++ planned m more ≡ Changing before after ∷ rest → ChangeFirst m (Update b a ∷ more) before after rest
change_by m b a before after more rest true key is = absurd cc
change_by m b a before after more rest false key is =
    let one : b ≡ before = cc in
    let two : a ≡ after = cc in
    let e : planned m more ≡ rest = cc in
    record { more = more; are = rw (one, two) refl; stays = subst (λ (x : Row). changes_key (kept m) x after ≡ false) one (subst (λ (x : Row). changes_key (kept m) b x ≡ false) two key); others = sym e }

pub change_first : (m : Migration) (changes : List Change) (before after : Row) (rest : List Doing) → planned m changes ≡ Changing before after ∷ rest → ChangeFirst m changes before after rest
unfolding planned
change_first m [] before after rest is = absurd cc
change_first m (Write new ∷ more) before after rest is = absurd cc
change_first m (Update b a ∷ more) before after rest is = change_by m b a before after more rest (changes_key (kept m) b a) refl is
change_first m (Delete old ∷ more) before after rest is = absurd cc

pub data RemoveFirst (m : Migration) (changes : List Change) (row : Row) (rest : List Doing) : Type 0 where
  gone : (more : List Change) → changes ≡ Delete row ∷ more → rest ≡ planned m more → RemoveFirst m changes row rest
  moved : (after : Row) (more : List Change) → changes ≡ Update row after ∷ more → rest ≡ Putting after ∷ planned m more → RemoveFirst m changes row rest

remove_by : (m : Migration) (b a row : Row) (more : List Change) (rest : List Doing) (t : Bool) → cond t (Removing b ∷ Putting a ∷ []) (Changing b a ∷ []) ++ planned m more ≡ Removing row ∷ rest → RemoveFirst m (Update b a ∷ more) row rest
remove_by m b a row more rest true is =
    let one : b ≡ row = cc in
    let e : Putting a ∷ planned m more ≡ rest = cc in
    moved a more (ap (λ (r : Row). Update r a ∷ more) one) (sym e)
remove_by m b a row more rest false is = absurd cc

pub remove_first : (m : Migration) (changes : List Change) (row : Row) (rest : List Doing) → planned m changes ≡ Removing row ∷ rest → RemoveFirst m changes row rest
unfolding planned
remove_first m [] row rest is = absurd cc
remove_first m (Write new ∷ more) row rest is = absurd cc
remove_first m (Update b a ∷ more) row rest is = remove_by m b a row more rest (changes_key (kept m) b a) is
remove_first m (Delete old ∷ more) row rest is =
    let one : old ≡ row = cc in
    let e : planned m more ≡ rest = cc in
    gone more (ap (λ (r : Row). Delete r ∷ more) one) (sym e)

none_by : (m : Migration) (change : Change) (more : List Change) → planned m (change ∷ more) ≡ [] → ⊥
unfolding planned
none_by m (Write row) more is = cc
none_by m (Update before after) more is = by (changes_key (kept m) before after) is where
  by : (b : Bool) → cond b (Removing before ∷ Putting after ∷ []) (Changing before after ∷ []) ++ planned m more ≡ [] → ⊥
  by true is = cc
  by false is = cc
none_by m (Delete row) more is = cc

pub none_planned : (m : Migration) (changes : List Change) → planned m changes ≡ [] → changes ≡ []
none_planned m [] is = refl
none_planned m (change ∷ more) is = absurd (none_by m change more is)

-- ---- the applier's statements

-- what a statement leaves: the place that is reached, the invariant there, and what is still to be done
pub record AppliedWhole (m : Migration) (rows : List Row) (done : Row → Bool) (taken : List Row) (progress : Progress Row) (ghost : GhostRows) (changes : List Change) (copier applier : ℕ) (now : Stored) (holds : ℕ → SessionHold) (own : SessionHold) (next : ℕ) (rest : List Doing) : Type 0 where
  pub reached : ℕ
  pub kept : GhostInvariant m rows done (λ _. false) taken (record progress { reached = reached; applier_holds = is_locked m.new own.locks }) (record ghost { batch = ghost.batch ++ changes }) copier applier now holds
  pub whole : IsWhole m now.log reached progress.end next rest

pub record AppliedHalf (m : Migration) (rows : List Row) (done : Row → Bool) (taken : List Row) (progress : Progress Row) (ghost : GhostRows) (changes : List Change) (copier applier : ℕ) (now : Stored) (holds : ℕ → SessionHold) (own : SessionHold) (next : ℕ) (before after : Row) (rest : List Doing) : Type 0 where
  pub reached : ℕ
  pub kept : GhostInvariant m rows done (is_key (key_of (key_places m.schema) before)) taken (record progress { reached = reached; applier_holds = is_locked m.new own.locks }) (record ghost { batch = ghost.batch ++ changes }) copier applier now holds
  pub half : IsHalf m now.log reached progress.end next before after rest
  pub locked : is_locked m.new own.locks (key_of (key_places m.schema) before) ≡ true
  pub empty : ghost_row m (view_of m (record ghost { batch = ghost.batch ++ changes })) (key_of (key_places m.schema) before) ≡ None

-- the events behind a place
whole_after : (m : Migration) (log : List RowEvent) (place end next left whole : ℕ) (more : List Change) (rest : List Doing) → rest ≡ planned m more → more ≡ changes_in m.name log (place + 1) left → place + 1 + left ≡ whole → whole ≡ next → next ≤ end → IsWhole m log (place + 1) end next rest
whole_after m log place end next left whole more rest others following sum same within = record { steps = left; sum = sum ∙ same; within = within; are = others ∙ ap (planned m) following }

points_in : (m : Migration) (view : List Row) (made : Row) (locks : List _) → Within (needs m.new view (works.Replace made)) locks → Within (points m.new made) locks
unfolding needs
points_in m view made locks within = (within-parts (points m.new made) (points_of m.new (displaced m.new made view)) locks within).0

-- the image of a row that an event leaves holds the row's key
left_locked : (m : Migration) (rows : List Row) (half done : Row → Bool) (taken : List Row) (progress : Progress Row) (ghost : GhostRows) (copier applier : ℕ) (now : Stored) (hold : ℕ → SessionHold) (own : SessionHold) (task : Operation) (row made : Row) → IsPlanned m rows → IsServed now hold → GhostInvariant m rows done half taken progress ghost copier applier now hold
    → DoesWork m task (works.Replace made) → IsGiven now hold applier task own → IsRow m.schema.columns row → converted_row m.columns row ≡ Ok made → is_locked m.new own.locks (key_of (key_places m.schema) row) ≡ true
left_locked m rows half done taken progress ghost copier applier now hold own task row made planned served kept is given fits imaged =
    let needed : Within (needs m.new (view_of m ghost) (works.Replace made)) own.locks = subst (λ (l : List Lock). Within l own.locks) (applier_says m rows done half taken progress ghost copier applier now hold task (works.Replace made) served kept is.table is.does).needed given.needed in
    subst (λ (k : Row). is_locked m.new own.locks k ≡ true) (planned.same_key row made fits imaged)
    (row_locked m.new planned.new_key made own.locks (planned.fits row made fits imaged) (points_in m (view_of m ghost) made own.locks needed))

-- *Putting*: REPLACE of the image of a row that was written
pub put_does : (m : Migration) (rows : List Row) (done : Row → Bool) (taken : List Row) (progress : Progress Row) (ghost : GhostRows) (copier applier : ℕ) (now : Stored) (hold holds : ℕ → SessionHold) (own : SessionHold) (task : Operation) (next : ℕ) (row made : Row) (rest : List Doing) → IsPlanned m rows → IsServed now hold
    → GhostInvariant m rows done (λ _. false) taken progress ghost copier applier now hold → (copier == applier) ≡ false → IsWhole m now.log progress.reached progress.end next (Putting row ∷ rest) → converted_row m.columns row ≡ Ok made → DoesWork m task (works.Replace made) → IsGiven now hold applier task own → Besides applier hold holds own
    → AppliedWhole m rows done taken progress ghost (tells m.new (view_of m ghost) (works.Replace made)).changes copier applier now holds own next rest
put_does m rows done taken progress ghost copier applier now hold holds own task next row made rest planned served kept differ whole imaged is given besides =
    let first = put_first m (changes_in m.name now.log progress.reached whole.steps) row rest (sym whole.are) in
    let sum : progress.reached + whole.steps ≡ next = whole.sum in
    let within : next ≤ progress.end = whole.within in
    let comes : Comes m rows done taken progress ghost copier applier now hold whole.steps (Write row) first.more = walks m rows done taken progress ghost copier applier now hold whole.steps (Write row) first.more planned kept (omega (arith, sum, within)) first.are in
    let there : Progress Row = record progress { reached = comes.place } in
    let fits : IsRow m.schema.columns row = left_fits m rows now.log done (λ _. false) there ghost (Write row) row planned comes.kept.joined.under_way comes.due refl in
    record {
      reached = comes.place + 1;
      kept = replace_keeps m rows done (λ _. false) taken there ghost copier applier now hold holds own task (Write row) row made planned served comes.kept differ is given besides comes.less comes.due refl imaged
          (left_locked m rows (λ _. false) done taken there ghost copier applier now hold own task row made planned served comes.kept is given fits imaged) (λ key no. absurd (false≢true no)) (λ differs. absurd (differs refl));
      whole = whole_after m now.log comes.place progress.end next comes.left (progress.reached + whole.steps) first.more rest first.others comes.following comes.sum whole.sum whole.within;
    }

-- *Changing*: UPDATE in place, not refused
pub change_does : (m : Migration) (rows : List Row) (done : Row → Bool) (taken : List Row) (progress : Progress Row) (ghost : GhostRows) (copier applier : ℕ) (now : Stored) (hold holds : ℕ → SessionHold) (own : SessionHold) (task : Operation) (next : ℕ) (before row made : Row) (rest : List Doing) (planned' : IsPlanned m rows) → IsServed now hold
    → GhostInvariant m rows done (λ _. false) taken progress ghost copier applier now hold → (copier == applier) ≡ false → IsWhole m now.log progress.reached progress.end next (Changing before row ∷ rest) → converted_row m.columns row ≡ Ok made
    → DoesWork m task (update_work m rows planned' (key_of (key_places m.schema) before) made) → IsGiven now hold applier task own → Besides applier hold holds own → (tells m.new (view_of m ghost) (update_work m rows planned' (key_of (key_places m.schema) before) made) ≡ only (refuses ER_DUP_ENTRY) → ⊥)
    → AppliedWhole m rows done taken progress ghost (tells m.new (view_of m ghost) (update_work m rows planned' (key_of (key_places m.schema) before) made)).changes copier applier now holds own next rest
change_does m rows done taken progress ghost copier applier now hold holds own task next before row made rest planned' served kept differ whole imaged is given besides not_refused =
    let first = change_first m (changes_in m.name now.log progress.reached whole.steps) before row rest (sym whole.are) in
    let sum : progress.reached + whole.steps ≡ next = whole.sum in
    let within : next ≤ progress.end = whole.within in
    let comes : Comes m rows done taken progress ghost copier applier now hold whole.steps (Update before row) first.more = walks m rows done taken progress ghost copier applier now hold whole.steps (Update before row) first.more planned' kept (omega (arith, sum, within)) first.are in
    let there : Progress Row = record progress { reached = comes.place } in
    record {
      reached = comes.place + 1;
      kept = update_keeps m rows done taken there ghost copier applier now hold holds own task before row made planned' served comes.kept differ is given besides comes.less comes.due first.stays imaged not_refused;
      whole = whole_after m now.log comes.place progress.end next comes.left (progress.reached + whole.steps) first.more rest first.others comes.following comes.sum whole.sum whole.within;
    }

-- *Changing a row that has no image*, where the new table has no row of its key
pub unfit_does : (m : Migration) (rows : List Row) (done : Row → Bool) (taken : List Row) (progress : Progress Row) (ghost : GhostRows) (copier applier : ℕ) (now : Stored) (hold holds : ℕ → SessionHold) (own : SessionHold) (task : Operation) (next : ℕ) (before row : Row) (fault : _) (rest : List Doing) (planned' : IsPlanned m rows) → IsServed now hold
    → GhostInvariant m rows done (λ _. false) taken progress ghost copier applier now hold → (copier == applier) ≡ false → IsWhole m now.log progress.reached progress.end next (Changing before row ∷ rest)
    → DoesWork m task (unfit_work m rows planned' (key_of (key_places m.schema) before) fault) → IsGiven now hold applier task own → Besides applier hold holds own → ghost_row m (view_of m ghost) (key_of (key_places m.schema) before) ≡ None
    → AppliedWhole m rows done taken progress ghost (tells m.new (view_of m ghost) (unfit_work m rows planned' (key_of (key_places m.schema) before) fault)).changes copier applier now holds own next rest
unfit_does m rows done taken progress ghost copier applier now hold holds own task next before row fault rest planned' served kept differ whole is given besides none =
    let first = change_first m (changes_in m.name now.log progress.reached whole.steps) before row rest (sym whole.are) in
    let sum : progress.reached + whole.steps ≡ next = whole.sum in
    let within : next ≤ progress.end = whole.within in
    let comes : Comes m rows done taken progress ghost copier applier now hold whole.steps (Update before row) first.more = walks m rows done taken progress ghost copier applier now hold whole.steps (Update before row) first.more planned' kept (omega (arith, sum, within)) first.are in
    let there : Progress Row = record progress { reached = comes.place } in
    record {
      reached = comes.place + 1;
      kept = unfit_keeps m rows done taken there ghost copier applier now hold holds own task before row fault planned' served comes.kept differ is given besides comes.less comes.due first.stays none;
      whole = whole_after m now.log comes.place progress.end next comes.left (progress.reached + whole.steps) first.more rest first.others comes.following comes.sum whole.sum whole.within;
    }

-- what a DELETE leaves: the event is applied, or half applied
pub data Removed (m : Migration) (rows : List Row) (done : Row → Bool) (taken : List Row) (progress : Progress Row) (ghost : GhostRows) (changes : List Change) (copier applier : ℕ) (now : Stored) (holds : ℕ → SessionHold) (own : SessionHold) (next : ℕ) (row : Row) (todo : List Doing) : Type 0 where
  wholly : AppliedWhole m rows done taken progress ghost changes copier applier now holds own next todo → Removed m rows done taken progress ghost changes copier applier now holds own next row todo
  halfway : (after : Row) (rest : List Doing) → todo ≡ Putting after ∷ rest → AppliedHalf m rows done taken progress ghost changes copier applier now holds own next row after rest → Removed m rows done taken progress ghost changes copier applier now holds own next row todo

-- the first half of an UPDATE, at the place where it comes
half_there : (m : Migration) (rows : List Row) (done : Row → Bool) (taken : List Row) (progress : Progress Row) (ghost : GhostRows) (copier applier : ℕ) (now : Stored) (hold holds : ℕ → SessionHold) (own : SessionHold) (task : Operation) (next steps : ℕ) (before after : Row) (more : List Change) (planned' : IsPlanned m rows) → IsServed now hold
    → (copier == applier) ≡ false → progress.reached + steps ≡ next → next ≤ progress.end → Comes m rows done taken progress ghost copier applier now hold steps (Update before after) more
    → DoesWork m task (delete_work m rows planned' (key_of (key_places m.schema) before)) → IsGiven now hold applier task own → Besides applier hold holds own
    → AppliedHalf m rows done taken progress ghost (tells m.new (view_of m ghost) (delete_work m rows planned' (key_of (key_places m.schema) before))).changes copier applier now holds own next before after (planned m more)
half_there m rows done taken progress ghost copier applier now hold holds own task next steps before after more planned' served differ sum within comes is given besides =
    let there : Progress Row = record progress { reached = comes.place } in
    let key : Row = key_of (key_places m.schema) before in
    let full : no_null key ≡ true = full_key m.schema planned'.old_key before (due_before m rows now.log done (λ _. false) there ghost before after planned' comes.kept.joined.under_way comes.due) in
    let grant = given_grant m rows done (λ _. false) taken there ghost copier applier now hold own task (delete_work m rows planned' key) served comes.kept differ is given tt in
    record {
      reached = comes.place;
      kept = half_keeps m rows done taken there ghost copier applier now hold holds own task key planned' served comes.kept differ is given besides full;
      half = record { steps = comes.left; sum = comes.sum ∙ sum; within = within; event = comes.event; there = comes.there; named = comes.named; is = comes.is; are = ap (planned m) comes.following };
      locked = half_holds m rows (hold applier).locks own.locks (hold copier).locks ghost key planned' grant;
      empty = half_empty m rows now.log done there ghost key planned' comes.kept.joined.under_way full;
    }

remove_by_first : (m : Migration) (rows : List Row) (done : Row → Bool) (taken : List Row) (progress : Progress Row) (ghost : GhostRows) (copier applier : ℕ) (now : Stored) (hold holds : ℕ → SessionHold) (own : SessionHold) (task : Operation) (next : ℕ) (row : Row) (rest : List Doing) (planned' : IsPlanned m rows) → IsServed now hold
    → GhostInvariant m rows done (λ _. false) taken progress ghost copier applier now hold → (copier == applier) ≡ false → (whole : IsWhole m now.log progress.reached progress.end next (Removing row ∷ rest)) → RemoveFirst m (changes_in m.name now.log progress.reached whole.steps) row rest
    → DoesWork m task (delete_work m rows planned' (key_of (key_places m.schema) row)) → IsGiven now hold applier task own → Besides applier hold holds own
    → Removed m rows done taken progress ghost (tells m.new (view_of m ghost) (delete_work m rows planned' (key_of (key_places m.schema) row))).changes copier applier now holds own next row rest
remove_by_first m rows done taken progress ghost copier applier now hold holds own task next row rest planned' served kept differ whole (gone more are others) is given besides =
    let sum : progress.reached + whole.steps ≡ next = whole.sum in
    let within : next ≤ progress.end = whole.within in
    let comes : Comes m rows done taken progress ghost copier applier now hold whole.steps (Delete row) more = walks m rows done taken progress ghost copier applier now hold whole.steps (Delete row) more planned' kept (omega (arith, sum, within)) are in
    let there : Progress Row = record progress { reached = comes.place } in
    wholly (record {
      reached = comes.place + 1;
      kept = delete_keeps m rows done taken there ghost copier applier now hold holds own task row planned' served comes.kept differ is given besides comes.less comes.due;
      whole = whole_after m now.log comes.place progress.end next comes.left (progress.reached + whole.steps) more rest others comes.following comes.sum whole.sum whole.within;
    })
remove_by_first m rows done taken progress ghost copier applier now hold holds own task next row rest planned' served kept differ whole (moved after more are others) is given besides =
    let sum : progress.reached + whole.steps ≡ next = whole.sum in
    let within : next ≤ progress.end = whole.within in
    let comes : Comes m rows done taken progress ghost copier applier now hold whole.steps (Update row after) more = walks m rows done taken progress ghost copier applier now hold whole.steps (Update row after) more planned' kept (omega (arith, sum, within)) are in
    halfway after (planned m more) others (half_there m rows done taken progress ghost copier applier now hold holds own task next whole.steps row after more planned' served differ sum within comes is given besides)

-- *Removing*: DELETE by key, of a row that was deleted, or the first half of an UPDATE that changes a unique key
pub remove_does : (m : Migration) (rows : List Row) (done : Row → Bool) (taken : List Row) (progress : Progress Row) (ghost : GhostRows) (copier applier : ℕ) (now : Stored) (hold holds : ℕ → SessionHold) (own : SessionHold) (task : Operation) (next : ℕ) (row : Row) (rest : List Doing) (planned' : IsPlanned m rows) → IsServed now hold
    → GhostInvariant m rows done (λ _. false) taken progress ghost copier applier now hold → (copier == applier) ≡ false → IsWhole m now.log progress.reached progress.end next (Removing row ∷ rest) → DoesWork m task (delete_work m rows planned' (key_of (key_places m.schema) row)) → IsGiven now hold applier task own → Besides applier hold holds own
    → Removed m rows done taken progress ghost (tells m.new (view_of m ghost) (delete_work m rows planned' (key_of (key_places m.schema) row))).changes copier applier now holds own next row rest
remove_does m rows done taken progress ghost copier applier now hold holds own task next row rest planned' served kept differ whole is given besides =
    remove_by_first m rows done taken progress ghost copier applier now hold holds own task next row rest planned' served kept differ whole (remove_first m (changes_in m.name now.log progress.reached whole.steps) row rest (sym whole.are)) is given besides

-- *The refused UPDATE's DELETE*
pub removal_does : (m : Migration) (rows : List Row) (done : Row → Bool) (taken : List Row) (progress : Progress Row) (ghost : GhostRows) (copier applier : ℕ) (now : Stored) (hold holds : ℕ → SessionHold) (own : SessionHold) (task : Operation) (next : ℕ) (before after : Row) (rest : List Doing) (planned' : IsPlanned m rows) → IsServed now hold
    → GhostInvariant m rows done (λ _. false) taken progress ghost copier applier now hold → (copier == applier) ≡ false → IsWhole m now.log progress.reached progress.end next (Changing before after ∷ rest) → DoesWork m task (delete_work m rows planned' (key_of (key_places m.schema) before)) → IsGiven now hold applier task own → Besides applier hold holds own
    → AppliedHalf m rows done taken progress ghost (tells m.new (view_of m ghost) (delete_work m rows planned' (key_of (key_places m.schema) before))).changes copier applier now holds own next before after rest
removal_does m rows done taken progress ghost copier applier now hold holds own task next before after rest planned' served kept differ whole is given besides =
    let first = change_first m (changes_in m.name now.log progress.reached whole.steps) before after rest (sym whole.are) in
    let sum : progress.reached + whole.steps ≡ next = whole.sum in
    let within : next ≤ progress.end = whole.within in
    let comes : Comes m rows done taken progress ghost copier applier now hold whole.steps (Update before after) first.more = walks m rows done taken progress ghost copier applier now hold whole.steps (Update before after) first.more planned' kept (omega (arith, sum, within)) first.are in
    subst (λ (r : List Doing). AppliedHalf m rows done taken progress ghost (tells m.new (view_of m ghost) (delete_work m rows planned' (key_of (key_places m.schema) before))).changes copier applier now holds own next before after r) (sym first.others)
    (half_there m rows done taken progress ghost copier applier now hold holds own task next whole.steps before after first.more planned' served differ sum within comes is given besides)

-- *The second half*: REPLACE of the image of the row behind the UPDATE
pub second_does : (m : Migration) (rows : List Row) (done : Row → Bool) (taken : List Row) (progress : Progress Row) (ghost : GhostRows) (copier applier : ℕ) (now : Stored) (hold holds : ℕ → SessionHold) (own : SessionHold) (task : Operation) (next : ℕ) (before after made : Row) (rest : List Doing) → IsPlanned m rows → IsServed now hold
    → GhostInvariant m rows done (is_key (key_of (key_places m.schema) before)) taken progress ghost copier applier now hold → (copier == applier) ≡ false → IsHalf m now.log progress.reached progress.end next before after rest
    → is_locked m.new (hold applier).locks (key_of (key_places m.schema) before) ≡ true → ghost_row m (view_of m ghost) (key_of (key_places m.schema) before) ≡ None → converted_row m.columns after ≡ Ok made → DoesWork m task (works.Replace made) → IsGiven now hold applier task own → Besides applier hold holds own
    → AppliedWhole m rows done taken progress ghost (tells m.new (view_of m ghost) (works.Replace made)).changes copier applier now holds own next rest
second_does m rows done taken progress ghost copier applier now hold holds own task next before after made rest planned served kept differ half locked empty imaged is given besides =
    let sum : progress.reached + 1 + half.steps ≡ next = half.sum in
    let within : next ≤ progress.end = half.within in
    let half_out : Row → Bool = is_key (key_of (key_places m.schema) before) in
    let due : IsDue m rows now.log progress.reached (Update before after) = is_due m rows done half_out taken progress ghost copier applier now hold progress.reached half.event (Update before after) planned kept (omega (arith, sum, within)) half.there half.named half.is in
    record {
      reached = progress.reached + 1;
      kept = replace_keeps m rows done half_out taken progress ghost copier applier now hold holds own task (Update before after) after made planned served kept differ is given besides (omega (arith, sum, within)) due refl imaged
          (locked_more m.new (hold applier).locks own.locks (key_of (key_places m.schema) before) given.kept locked) (λ key out. inl (is_same (key_of (key_places m.schema) before) key out)) (λ differs. empty);
      whole = record { steps = half.steps; sum = sum; within = within; are = half.are };
    }

-- *The batch's end*: nothing is left to do, so the walk goes to the batch's last place
pub end_does : (m : Migration) (rows : List Row) (done : Row → Bool) (taken : List Row) (progress : Progress Row) (ghost : GhostRows) (copier applier : ℕ) (now : Stored) (hold : ℕ → SessionHold) (next : ℕ) → IsPlanned m rows → GhostInvariant m rows done (λ _. false) taken progress ghost copier applier now hold
    → IsWhole m now.log progress.reached progress.end next [] → GhostInvariant m rows done (λ _. false) taken (record progress { reached = next }) ghost copier applier now hold
end_does m rows done taken progress ghost copier applier now hold next planned kept whole =
    let sum : progress.reached + whole.steps ≡ next = whole.sum in
    let within : next ≤ progress.end = whole.within in
    subst (λ (n : ℕ). GhostInvariant m rows done (λ _. false) taken (record progress { reached = n }) ghost copier applier now hold) sum
    (walks_out m rows done taken progress ghost copier applier now hold whole.steps planned kept (omega (arith, sum, within)) (none_planned m (changes_in m.name now.log progress.reached whole.steps) (sym whole.are)))

-- ---- what is still to be done stays, when more is logged

pub whole_stays : (m : Migration) (log more : List RowEvent) (reached next : ℕ) (todo : List Doing) → IsWhole m log reached (length log) next todo → IsWhole m (log ++ more) reached (length (log ++ more)) next todo
whole_stays m log more reached next todo whole =
    let sum : reached + whole.steps ≡ next = whole.sum in
    let within : next ≤ length log = whole.within in
    let long = length-append log more in
    record { steps = whole.steps; sum = sum; within = omega (arith, within, long); are = whole.are ∙ ap (planned m) (sym (changes_front m.name log more reached whole.steps (omega (arith, sum, within)))) }

pub half_stays : (m : Migration) (log more : List RowEvent) (reached next : ℕ) (before after : Row) (rest : List Doing) → IsHalf m log reached (length log) next before after rest → IsHalf m (log ++ more) reached (length (log ++ more)) next before after rest
half_stays m log more reached next before after rest half =
    let sum : reached + 1 + half.steps ≡ next = half.sum in
    let within : next ≤ length log = half.within in
    let long = length-append log more in
    record {
      steps = half.steps;
      sum = sum;
      within = omega (arith, within, long);
      event = half.event;
      there = get_front log more reached (omega (arith, sum, within)) ∙ half.there;
      named = half.named;
      is = half.is;
      are = half.are ∙ ap (planned m) (sym (changes_front m.name log more (reached + 1) half.steps (omega (arith, sum, within))));
    }
