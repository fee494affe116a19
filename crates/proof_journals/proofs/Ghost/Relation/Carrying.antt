-- The relation speaks of the log up to its end alone.
use Rattle.std.proofs.Common.{ℕ, Bool, Option, sym, ◌∙◌, arith}
use Rattle.proof_journals.specs.Ghost.Relation.Timelines.{Timeline, ConvertedRowFrom, AreAlike}
use Rattle.proof_journals.specs.Ghost.Relation.Views.{ViewFollows, except, Progress, Views, GhostFollows}

converted_row_too : {K R M : Type 0} (timeline other : Timeline K R M) (position end : ℕ) (key : K) (made : M) → AreAlike timeline other end → ConvertedRowFrom timeline position end key made → ConvertedRowFrom other position end key made
converted_row_too timeline other position end key made one comes =
    record { moment = comes.moment; row = comes.row; from = comes.from; to = comes.to; stands = sym (one.rows comes.moment key comes.to) ∙ comes.stands; imaged = sym (one.converted_rows comes.row) ∙ comes.imaged }

pub carries : {K R M : Type 0} (timeline other : Timeline K R M) (done : K → Bool) (position end : ℕ) (ghost_at : K → Option M) → AreAlike timeline other end → ViewFollows timeline done position end ghost_at → ViewFollows other done position end ghost_at
carries timeline other done position end ghost_at one ghost =
    record {
      comes = λ key made now. converted_row_too timeline other position end key made one (ghost.comes key made now);
      stands = λ key row done quiet now. ghost.stands key row done (λ i from to. one.touches i key to ∙ quiet i from to) (one.rows end key (omega arith) ∙ now);
    }

-- *The log has grown*: what was said of it holds still, up to the old end.
pub carries_all : {K R M : Type 0} (timeline other : Timeline K R M) (done half : K → Bool) (progress : Progress K) (views : Views K M) → AreAlike timeline other progress.end → GhostFollows timeline done half progress views → GhostFollows other done half progress views
carries_all timeline other done half progress views one are =
    record {
      from = are.from;
      to = are.to;
      committed = carries timeline other done progress.position progress.end views.committed one are.committed;
      batch = carries timeline other (except done half) progress.reached progress.end views.applied one are.batch;
      chunk = record {
        comes = λ key made is now. converted_row_too timeline other progress.reached progress.end key made one (are.chunk.comes key made is now);
        stands = λ key row is quiet now. are.chunk.stands key row is (λ i from to. one.touches i key to ∙ quiet i from to) (one.rows progress.end key (omega arith) ∙ now);
      };
      batch_alone = are.batch_alone;
      chunk_alone = are.chunk_alone;
      apart = are.apart;
    }
