-- The steps of all views.
use Rattle.std.proofs.Common.{◌≡◌, ℕ, ◌+◌, ◌-◌, ◌<◌, ◌≤◌, Bool, true, false, Option, Some, None, refl, sym, ap, ◌∙◌, subst, arith, ◌⊎◌, inl, inr}
use Rattle.proof_journals.specs.Ghost.Relation.Timelines.{Timeline, RowBefore, IsTimeline, Untouched, ConvertedRowFrom, AreAlike}
use Rattle.proof_journals.specs.Ghost.Relation.Views.{ViewFollows, except, ChunkFollows, Progress, Views, GhostFollows, HoldsChanged}
use Rattle.proof_journals.specs.Ghost.Relation.AppliedEvents.{AppliedAt}
use Rattle.proof_journals.specs.Ghost.Relation.AppliedEvents.AppliedAt.{kept}
use Rattle.proof_journals.proofs.Ghost.Relation.Tests.{true_false, both_hold, one_holds, none_taken}
use Rattle.proof_journals.proofs.Ghost.Relation.Events.{was_touched, back, later, quiet_more, applied}
use Rattle.proof_journals.proofs.Ghost.Relation.OneView.{converted_row_wider, starts, grows, lowers, of_fewer, takes_out}
use Rattle.proof_journals.proofs.Ghost.Relation.Carrying.{carries_all}

-- nobody holds a key
none_held : {K R M : Type 0} (timeline : Timeline K R M) (held : K → Bool) (reached end : ℕ) (copied : K → Option M) → ((key : K) → held key ≡ false) → ChunkFollows timeline held reached end copied
none_held timeline held reached end copied free = record { comes = λ key made is. true_false (held key) is (free key); stands = λ key row is. true_false (held key) is (free key) }

-- the chunk, where what is seen at the held keys, the place that is reached or the end is another
chunk_moves : {K R M : Type 0} (timeline : Timeline K R M) (held : K → Bool) (reached reached' end end' : ℕ) (copied copied' : K → Option M) → IsTimeline timeline end' → reached ≤ end → reached' ≤ reached → end ≤ end' → ((key : K) → held key ≡ true → copied' key ≡ copied key)
    → ChunkFollows timeline held reached end copied → ChunkFollows timeline held reached' end' copied'
chunk_moves timeline held reached reached' end end' copied copied' is before low more same chunk =
    record {
      comes = λ key made there now. converted_row_wider timeline reached end reached' end' key made low more (chunk.comes key made there (sym (same key there) ∙ now));
      stands = λ key row there quiet now.
          let was : RowBefore timeline end key row = back timeline end' is key row end (end' - end) (omega arith) (λ i from to. quiet i (omega arith) (omega arith)) (subst (λ i. timeline.row_at i key ≡ Some row) (omega arith) now) in
          let seen = chunk.stands key was.before there (λ i from to. quiet i (omega arith) (omega arith)) was.stands in
          (seen.0, same key there ∙ seen.1);
    }

-- *A session commits*: the log grows.
pub log_grows : {K R M : Type 0} (timeline : Timeline K R M) (done half : K → Bool) (progress : Progress K) (views : Views K M) (end : ℕ) → IsTimeline timeline end → progress.end ≤ end → GhostFollows timeline done half progress views → GhostFollows timeline done half (record progress { end = end }) views
log_grows timeline done half progress views end is more are =
    let from = are.from in
    let to = are.to in
    record {
      from = are.from;
      to = omega (arith, from, to);
      committed = grows timeline done progress.position progress.end end views.committed is (omega (arith, from, to)) more are.committed;
      batch = grows timeline (except done half) progress.reached progress.end end views.applied is to more are.batch;
      chunk = chunk_moves timeline progress.copier_holds progress.reached progress.reached progress.end end views.copied views.copied is to (omega arith) more (λ key there. refl) are.chunk;
      batch_alone = are.batch_alone;
      chunk_alone = are.chunk_alone;
      apart = are.apart;
    }

pub logs_grow : {K R M : Type 0} (timeline longer : Timeline K R M) (done half : K → Bool) (progress : Progress K) (views : Views K M) (end : ℕ) → AreAlike timeline longer progress.end → IsTimeline longer end → progress.end ≤ end → GhostFollows timeline done half progress views
    → GhostFollows longer done half (record progress { end = end }) views
logs_grow timeline longer done half progress views end alike is more are = log_grows longer done half progress views end is more (carries_all timeline longer done half progress views alike are)

-- *More keys are done*, at which no row stands: a chunk begins.
of_more : {K R M : Type 0} (timeline : Timeline K R M) (done next half : K → Bool) (position end : ℕ) (ghost_at : K → Option M) → ((key : K) (row : R) → next key ≡ true → timeline.row_at end key ≡ Some row → done key ≡ true) → ViewFollows timeline (except done half) position end ghost_at → ViewFollows timeline (except next half) position end ghost_at
of_more timeline done next half position end ghost_at free ghost = record { comes = ghost.comes; stands = λ key row is quiet now. ghost.stands key row (both_hold (done key) (half key) (free key row (one_holds (next key) (half key) is) now) (none_taken (next key) (half key) is)) quiet now }

pub more_done : {K R M : Type 0} (timeline : Timeline K R M) (done next half : K → Bool) (progress : Progress K) (views : Views K M) → ((key : K) (row : R) → next key ≡ true → timeline.row_at progress.end key ≡ Some row → done key ≡ true) → GhostFollows timeline done half progress views → GhostFollows timeline next half progress views
more_done timeline done next half progress views free are =
    record {
      from = are.from;
      to = are.to;
      committed = record { comes = are.committed.comes; stands = λ key row done quiet now. are.committed.stands key row (free key row done now) quiet now };
      batch = of_more timeline done next half progress.reached progress.end views.applied free are.batch;
      chunk = are.chunk;
      batch_alone = are.batch_alone;
      chunk_alone = are.chunk_alone;
      apart = are.apart;
    }

-- *A row is copied*, Ok(1): its image is written.
pub copies_new : {K R M : Type 0} (timeline : Timeline K R M) (done half : K → Bool) (progress : Progress K) (views : Views K M) (key : K) (row : R) (made : M) (held : K → Bool) (copied : K → Option M) → timeline.row_at progress.end key ≡ Some row → timeline.converted_row row ≡ Some made
    → progress.applier_holds key ≡ false → copied key ≡ Some made → ((other : K) → held other ≡ true → (key ≡ other) ⊎ ((progress.copier_holds other ≡ true) × (copied other ≡ views.copied other)))
    → ((other : K) → held other ≡ false → (progress.copier_holds other ≡ false) × (copied other ≡ views.copied other))
    → GhostFollows timeline done half progress views → GhostFollows timeline done half (record progress { copier_holds = held }) (record views { copied = copied })
copies_new {K = K} {R = R} {M = M} timeline done half progress views key row made held copied stands imaged free new old out are =
    record {
      from = are.from;
      to = are.to;
      committed = are.committed;
      batch = are.batch;
      chunk = record { comes = λ other was is now. comes other was (old other is) now; stands = λ other there is quiet now. taken other there (old other is) quiet now };
      batch_alone = are.batch_alone;
      chunk_alone = λ other is. (out other is).1 ∙ are.chunk_alone other (out other is).0;
      apart = λ other is. apart other (old other is);
    }
  where
    comes : (other : K) (was : M) → (key ≡ other) ⊎ ((progress.copier_holds other ≡ true) × (copied other ≡ views.copied other)) → copied other ≡ Some was → ConvertedRowFrom timeline progress.reached progress.end other was
    comes other was (inl same) now =
        record { moment = progress.end; row = row; from = are.to; to = omega arith; stands = subst (λ k. timeline.row_at progress.end k ≡ Some row) same stands; imaged = imaged ∙ sym new ∙ ap copied same ∙ now }
    comes other was (inr before) now = are.chunk.comes other was before.0 (sym before.1 ∙ now)

    taken : (other : K) (there : R) → (key ≡ other) ⊎ ((progress.copier_holds other ≡ true) × (copied other ≡ views.copied other)) → Untouched timeline progress.reached progress.end other → timeline.row_at progress.end other ≡ Some there → (was : M) × (copied other ≡ Some was)
    taken other there (inl same) quiet now = (made, sym (ap copied same) ∙ new)
    taken other there (inr before) quiet now = let was = are.chunk.stands other there before.0 quiet now in (was.0, before.1 ∙ was.1)

    apart : (other : K) → (key ≡ other) ⊎ ((progress.copier_holds other ≡ true) × (copied other ≡ views.copied other)) → progress.applier_holds other ≡ false
    apart other (inl same) = subst (λ k. progress.applier_holds k ≡ false) same free
    apart other (inr before) = are.apart other before.0

-- *A row is copied*, Ok(0): a row that the copier sees clashes with its image, and the applier sees it as it is committed.
pub copies_none : {K R M : Type 0} (timeline : Timeline K R M) (done half : K → Bool) (progress : Progress K) (views : Views K M) (key beside : K) (row : R) (made was : M) (held : K → Bool) → IsTimeline timeline progress.end → timeline.row_at progress.end key ≡ Some row → timeline.converted_row row ≡ Some made
    → progress.applier_holds key ≡ false → views.copied beside ≡ Some was → timeline.converted_rows_clash was made ≡ true → (progress.copier_holds beside ≡ false → views.applied beside ≡ views.committed beside)
    → ((other : K) → held other ≡ true → (key ≡ other) ⊎ (progress.copier_holds other ≡ true)) → ((other : K) → held other ≡ false → progress.copier_holds other ≡ false)
    → GhostFollows timeline done half progress views → GhostFollows timeline done half (record progress { copier_holds = held }) views
copies_none {K = K} {R = R} {M = M} timeline done half progress views key beside row made was held is stands imaged free there clashes seen old out are =
    record {
      from = are.from;
      to = are.to;
      committed = are.committed;
      batch = are.batch;
      chunk = record { comes = λ other now is at. comes other now (old other is) at (progress.copier_holds other) refl; stands = λ other now is quiet at. taken other now (old other is) quiet at };
      batch_alone = are.batch_alone;
      chunk_alone = λ other is. are.chunk_alone other (out other is);
      apart = λ other is. apart other (old other is);
    }
  where
    apart : (other : K) → (key ≡ other) ⊎ (progress.copier_holds other ≡ true) → progress.applier_holds other ≡ false
    apart other (inl same) = subst (λ k. progress.applier_holds k ≡ false) same free
    apart other (inr before) = are.apart other before

    comes : (other : K) (now : M) → (key ≡ other) ⊎ (progress.copier_holds other ≡ true) → views.copied other ≡ Some now → (b : Bool) → progress.copier_holds other ≡ b → ConvertedRowFrom timeline progress.reached progress.end other now
    comes other now before at true is = are.chunk.comes other now is at
    comes other now (inr before) at false is = are.chunk.comes other now before at
    comes other now (inl same) at false is = are.batch.comes other now (are.batch_alone other (subst (λ k. progress.applier_holds k ≡ false) same free) ∙ sym (are.chunk_alone other is) ∙ at)

    -- the row beside comes from a moment that the applier has not passed
    beside_comes : (b : Bool) → progress.copier_holds beside ≡ b → ConvertedRowFrom timeline progress.reached progress.end beside was
    beside_comes true is = are.chunk.comes beside was is there
    beside_comes false is = are.batch.comes beside was (seen is ∙ sym (are.chunk_alone beside is) ∙ there)

    same_key : ConvertedRowFrom timeline progress.reached progress.end beside was → Untouched timeline progress.reached progress.end key → key ≡ beside
    same_key from quiet =
        let all : progress.end ≤ progress.end = omega arith in
        was_touched timeline progress.end is key beside row from.row from.moment progress.end from.to all (λ i low high. quiet i (let from' = from.from in omega (arith, from')) high) stands from.stands
        (is.turned from.row row
        (is.clashes from.moment progress.end beside key from.row row was made from.to all from.stands stands from.imaged imaged clashes))

    taken : (other : K) (now : R) → (key ≡ other) ⊎ (progress.copier_holds other ≡ true) → Untouched timeline progress.reached progress.end other → timeline.row_at progress.end other ≡ Some now → (new : M) × (views.copied other ≡ Some new)
    taken other now (inr before) quiet at = are.chunk.stands other now before quiet at
    taken other now (inl same) quiet at =
        let one : key ≡ beside = same_key (beside_comes (progress.copier_holds beside) refl) (subst (λ k. Untouched timeline progress.reached progress.end k) (sym same) quiet) in
        (was, ap views.copied (sym same ∙ one) ∙ there)

-- ---- the batch

-- *An event is applied*, or the second half of one. The applier holds the keys that it changes.
pub event_applied : {K R M : Type 0} (timeline : Timeline K R M) (done half : K → Bool) (progress : Progress K) (views : Views K M) (locked : K → Bool) (after : K → Option M) → IsTimeline timeline progress.end → progress.reached < progress.end → HoldsChanged progress views locked after
    → ((key : K) → locked key ≡ false → (timeline.touches progress.reached key ≡ false) × (timeline.row_at (progress.reached + 1) key ≡ timeline.row_at progress.reached key)) → ((key : K) → AppliedAt timeline half progress.reached views.applied after key) → GhostFollows timeline done half progress views
    → GhostFollows timeline done (λ _. false) (record progress { reached = progress.reached + 1; applier_holds = locked }) (record views { applied = after })
event_applied timeline done half progress views locked after is more held spares each are =
    record {
      from = let from = are.from in omega (arith, from);
      to = omega arith;
      committed = are.committed;
      batch = of_fewer timeline done (except done (λ _. false)) (progress.reached + 1) progress.end after (λ key is. one_holds (done key) false is) (applied timeline progress.end is progress.reached done half views.applied after more are.batch each);
      chunk = record {
        comes = λ key made there now. later timeline progress.reached progress.end key made (are.chunk.comes key made there now) more (spares key (held.apart key there)).1;
        stands = λ key row there quiet now. are.chunk.stands key row there (quiet_more timeline progress.reached progress.end key (spares key (held.apart key there)).0 quiet) now;
      };
      batch_alone = held.alone;
      chunk_alone = are.chunk_alone;
      apart = held.apart;
    }

-- *An event that changes no row and no unique key*, as one of another table.
pub event_passes : {K R M : Type 0} (timeline : Timeline K R M) (done : K → Bool) (progress : Progress K) (views : Views K M) → IsTimeline timeline progress.end → progress.reached < progress.end
    → ((key : K) → (timeline.touches progress.reached key ≡ false) × (timeline.row_at (progress.reached + 1) key ≡ timeline.row_at progress.reached key)) → GhostFollows timeline done (λ _. false) progress views
    → GhostFollows timeline done (λ _. false) (record progress { reached = progress.reached + 1 }) views
event_passes timeline done progress views is more spares are =
    event_applied timeline done (λ _. false) progress views progress.applier_holds views.applied is more (record { apart = are.apart; alone = are.batch_alone }) (λ key free. spares key)
    (λ key. kept refl (spares key).0 (spares key).1 refl) are

-- *The first half of an event*: the row of a key is taken out.
pub half_applied : {K R M : Type 0} (timeline : Timeline K R M) (done half : K → Bool) (progress : Progress K) (views : Views K M) (locked : K → Bool) (after : K → Option M) → HoldsChanged progress views locked after
    → ((key : K) → (after key ≡ views.applied key) ⊎ ((half key ≡ true) × (after key ≡ None))) → GhostFollows timeline done (λ _. false) progress views → GhostFollows timeline done half (record progress { applier_holds = locked }) (record views { applied = after })
half_applied timeline done half progress views locked after held each are =
    record {
      from = are.from;
      to = are.to;
      committed = are.committed;
      batch = takes_out timeline done half progress.reached progress.end views.applied after (of_fewer timeline (except done (λ _. false)) done progress.reached progress.end views.applied (λ key is. both_hold (done key) false is refl) are.batch) each;
      chunk = are.chunk;
      batch_alone = held.alone;
      chunk_alone = are.chunk_alone;
      apart = held.apart;
    }

-- *The batch is committed*, at the place that it reached.
pub batch_commits : {K R M : Type 0} (timeline : Timeline K R M) (done : K → Bool) (progress : Progress K) (views : Views K M) (copied : K → Option M) → ((key : K) → progress.copier_holds key ≡ true → copied key ≡ views.copied key) → ((key : K) → progress.copier_holds key ≡ false → copied key ≡ views.applied key)
    → GhostFollows timeline done (λ _. false) progress views → GhostFollows timeline done (λ _. false) (record progress { position = progress.reached; applier_holds = λ _. false }) (record views { committed = views.applied; copied = copied })
batch_commits timeline done progress views copied same else are =
    record {
      from = omega arith;
      to = are.to;
      committed = of_fewer timeline (except done (λ _. false)) done progress.reached progress.end views.applied (λ key is. both_hold (done key) false is refl) are.batch;
      batch = are.batch;
      chunk = record {
        comes = λ key made is now. are.chunk.comes key made is (sym (same key is) ∙ now);
        stands = λ key row is quiet now. let was = are.chunk.stands key row is quiet now in (was.0, same key is ∙ was.1);
      };
      batch_alone = λ key is. refl;
      chunk_alone = else;
      apart = λ key is. refl;
    }

-- *Back to earlier places*: a batch whose COMMIT was done and lost is done again.
pub lowers_all : {K R M : Type 0} (timeline : Timeline K R M) (done half : K → Bool) (progress : Progress K) (views : Views K M) (position reached : ℕ) → IsTimeline timeline progress.end → position ≤ progress.position → reached ≤ progress.reached → position ≤ reached → GhostFollows timeline done half progress views
    → GhostFollows timeline done half (record progress { position = position; reached = reached }) views
lowers_all timeline done half progress views position reached is low lower order are =
    let to = are.to in
    record {
      from = order;
      to = omega (arith, to, lower);
      committed = lowers timeline done progress.position position progress.end views.committed low are.committed;
      batch = lowers timeline (except done half) progress.reached reached progress.end views.applied lower are.batch;
      chunk = chunk_moves timeline progress.copier_holds progress.reached reached progress.end progress.end views.copied views.copied is to lower (omega arith) (λ key there. refl) are.chunk;
      batch_alone = are.batch_alone;
      chunk_alone = are.chunk_alone;
      apart = are.apart;
    }

-- *The batch is rolled back*: the applier is at the position again.
pub batch_rolls_back : {K R M : Type 0} (timeline : Timeline K R M) (done half : K → Bool) (progress : Progress K) (views : Views K M) → IsTimeline timeline progress.end → GhostFollows timeline done half progress views
    → GhostFollows timeline done (λ _. false) (record progress { reached = progress.position; applier_holds = λ _. false }) (record views { applied = views.committed })
batch_rolls_back timeline done half progress views is are =
    let from = are.from in
    let to = are.to in
    record {
      from = omega arith;
      to = omega (arith, from, to);
      committed = are.committed;
      batch = of_fewer timeline done (except done (λ _. false)) progress.position progress.end views.committed (λ key is. one_holds (done key) false is) are.committed;
      chunk = chunk_moves timeline progress.copier_holds progress.reached progress.position progress.end progress.end views.copied views.copied is to from (omega arith) (λ key there. refl) are.chunk;
      batch_alone = λ key is. refl;
      chunk_alone = are.chunk_alone;
      apart = λ key is. refl;
    }

-- ---- the chunk

-- *A chunk is committed*, as any view of the ghost sees it.
pub chunk_commits : {K R M : Type 0} (timeline : Timeline K R M) (done half next : K → Bool) (held : K → Bool) (position reached end : ℕ) (ghost_at copied after : K → Option M) → position ≤ reached → ViewFollows timeline (except done half) position end ghost_at
    → ChunkFollows timeline held reached end copied → ((key : K) → held key ≡ true → after key ≡ copied key) → ((key : K) → held key ≡ false → after key ≡ ghost_at key)
    → ((key : K) → held key ≡ false → next key ≡ true → done key ≡ true) → ViewFollows timeline (except next half) position end after
chunk_commits {K = K} {R = R} {M = M} timeline done half next held position reached end ghost_at copied after before ghost chunk here elsewhere only =
    record { comes = λ key made now. comes key made now (held key) refl; stands = λ key row stays quiet now. stands key row stays quiet now (held key) refl }
  where
    comes : (key : K) (made : M) → after key ≡ Some made → (b : Bool) → held key ≡ b → ConvertedRowFrom timeline position end key made
    comes key made now true is = converted_row_wider timeline reached end position end key made before (omega arith) (chunk.comes key made is (sym (here key is) ∙ now))
    comes key made now false is = ghost.comes key made (sym (elsewhere key is) ∙ now)

    stands : (key : K) (row : R) → except next half key ≡ true → Untouched timeline position end key → timeline.row_at end key ≡ Some row → (b : Bool) → held key ≡ b → (made : M) × (after key ≡ Some made)
    stands key row stays quiet now true is = let was = chunk.stands key row is (λ i from to. quiet i (omega arith) to) now in (was.0, here key is ∙ was.1)
    stands key row stays quiet now false is = let was = ghost.stands key row (both_hold (done key) (half key) (only key is (one_holds (next key) (half key) stays)) (none_taken (next key) (half key) stays)) quiet now in (was.0, elsewhere key is ∙ was.1)

-- *The chunk is committed*: the keys that it took are done.
pub chunk_is_committed : {K R M : Type 0} (timeline : Timeline K R M) (done half next : K → Bool) (progress : Progress K) (views : Views K M) (applied : K → Option M) → ((key : K) → progress.copier_holds key ≡ true → applied key ≡ views.copied key)
    → ((key : K) → progress.copier_holds key ≡ false → applied key ≡ views.applied key) → ((key : K) → progress.copier_holds key ≡ false → next key ≡ true → done key ≡ true)
    → GhostFollows timeline done half progress views → GhostFollows timeline next half (record progress { copier_holds = λ _. false }) (record views { committed = views.copied; applied = applied })
chunk_is_committed {K = K} {M = M} timeline done half next progress views applied here else only are =
    let whole : ViewFollows timeline (except next (λ _. false)) progress.position progress.end views.copied =
    chunk_commits timeline done (λ _. false) next progress.copier_holds progress.position progress.reached progress.end views.committed views.copied views.copied are.from
    (of_fewer timeline done (except done (λ _. false)) progress.position progress.end views.committed (λ key is. one_holds (done key) false is) are.committed) are.chunk (λ key is. refl) are.chunk_alone only in
    record {
      from = are.from;
      to = are.to;
      committed = of_fewer timeline (except next (λ _. false)) next progress.position progress.end views.copied (λ key is. both_hold (next key) false is refl) whole;
      batch = chunk_commits timeline done half next progress.copier_holds progress.reached progress.reached progress.end views.applied views.copied applied (omega arith) are.batch are.chunk here else only;
      chunk = none_held timeline (λ _. false) progress.reached progress.end views.copied (λ key. refl);
      batch_alone = λ key is. alone key is (progress.copier_holds key) refl;
      chunk_alone = λ key is. refl;
      apart = λ key is. true_false false is refl;
    }
  where
    alone : (key : K) → progress.applier_holds key ≡ false → (b : Bool) → progress.copier_holds key ≡ b → applied key ≡ views.copied key
    alone key is true held = here key held
    alone key is false held = else key held ∙ are.batch_alone key is ∙ sym (are.chunk_alone key held)

-- *The chunk is rolled back.*
pub chunk_rolls_back : {K R M : Type 0} (timeline : Timeline K R M) (done half : K → Bool) (progress : Progress K) (views : Views K M) → GhostFollows timeline done half progress views
    → GhostFollows timeline done half (record progress { copier_holds = λ _. false }) (record views { copied = views.committed })
chunk_rolls_back timeline done half progress views are =
    record {
      from = are.from;
      to = are.to;
      committed = are.committed;
      batch = are.batch;
      chunk = none_held timeline (λ _. false) progress.reached progress.end views.committed (λ key. refl);
      batch_alone = are.batch_alone;
      chunk_alone = λ key is. refl;
      apart = λ key is. true_false false is refl;
    }

-- *The start*: nobody holds a key, and all see the empty ghost.
pub starts_all : {K R M : Type 0} (timeline : Timeline K R M) (done : K → Bool) (progress : Progress K) (views : Views K M) → progress.reached ≡ progress.position → progress.position ≤ progress.end → ((key : K) → progress.copier_holds key ≡ false) → ((key : K) → views.committed key ≡ None)
    → ((key : K) → views.applied key ≡ None) → ((key : K) → views.copied key ≡ None) → ((key : K) → done key ≡ true → timeline.row_at progress.end key ≡ None) → GhostFollows timeline done (λ _. false) progress views
starts_all timeline done progress views same before free committed applied copied outside =
    record {
      from = omega (arith, same);
      to = omega (arith, same, before);
      committed = starts timeline done progress.position progress.end views.committed committed outside;
      batch = starts timeline (except done (λ _. false)) progress.reached progress.end views.applied applied (λ key is. outside key (one_holds (done key) false is));
      chunk = none_held timeline progress.copier_holds progress.reached progress.end views.copied free;
      batch_alone = λ key is. applied key ∙ sym (committed key);
      chunk_alone = λ key is. copied key ∙ sym (committed key);
      apart = λ key is. true_false (progress.copier_holds key) is (free key);
    }
