-- The copier and the applier go on in new sessions.
use Rattle.std.proofs.Common.{◌≡◌, sym, ◌∙◌, ap, subst}
use Rattle.proof_journals.specs.Scenes.{SessionHold}
use Rattle.proof_journals.specs.Ghost.Joined.{IsJoined}
use Rattle.proof_journals.specs.Ghost.Laws.{CopierReturns, ApplierReturns}
use Rattle.proof_journals.specs.Ghost.Tool.{half_in, done_in, taken_in}
use Rattle.proof_journals.specs.Ghost.Tool.CopyState.{Waiting}
use Rattle.proof_journals.specs.Ghost.Tool.ApplyState.{Idle}

pub copier_returns : CopierReturns
copier_returns m at rows left apply progress ghost copier next applier now hold tool free two other =
    let same : hold next ≡ hold copier = free ∙ sym tool.copying in
    record {
      kept = record {
        joined = subst (λ (h : SessionHold). IsJoined m rows now.log (done_in (Waiting left)) (half_in m apply) (hold applier).locks h.locks (taken_in (Waiting left)) progress ghost) (sym same) tool.kept.joined;
        old = tool.kept.old;
        new = tool.kept.new;
        batch = tool.kept.batch;
        chunk = ap (λ (h : SessionHold). h.writes) same ∙ tool.kept.chunk;
        differ = tool.kept.differ;
      };
      copying = free;
      applying = tool.applying;
      two = two;
      other = other;
    }

pub applier_returns : ApplierReturns
applier_returns m at rows copy progress ghost copier applier next now hold tool free two other =
    let same : hold next ≡ hold applier = free ∙ sym tool.applying.rests in
    record {
      kept = record {
        joined = subst (λ (h : SessionHold). IsJoined m rows now.log (done_in copy) (half_in m Idle) h.locks (hold copier).locks (taken_in copy) progress ghost) (sym same) tool.kept.joined;
        old = tool.kept.old;
        new = tool.kept.new;
        batch = ap (λ (h : SessionHold). h.writes) same ∙ tool.kept.batch;
        chunk = tool.kept.chunk;
        differ = tool.kept.differ;
      };
      copying = tool.copying;
      applying = record { rests = free; reached = tool.applying.reached; empty = tool.applying.empty };
      two = two;
      other = other;
    }
