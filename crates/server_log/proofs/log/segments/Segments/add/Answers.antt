use Rattle.std.proofs.Common.{◌≡◌, ℕ, ◌-◌, Bool, List, ◌∷◌, ◌++◌, [], true, false, length, slice_get, refl, subst, ap, ◌∙◌}
use Rattle.server_log.specs.Logs.{StoredSegments}
use Rattle.server_log.proofs.Segments.{Taken, cut_more}
use Rattle.server_log.proofs.log.segments.Segments.add.Goals as goal

pub returns-then-takes-clause-cut : goal.returns-then-takes-clause-cut
returns-then-takes-clause-cut c = λ events event cut ends sizes.
    let same : c.as_slice.result.now ≡ c.args.self.now.starts = c.as_slice.ensures.value ∙ ap (λ (s : StoredSegments). s.starts) c.self.view_is in
    let found : Taken c.takes.result (slice_get c.args.self.now.starts (length c.args.self.now.starts - 1)) c.args.end c.args.size = subst (λ (l : List ℕ). Taken c.takes.result (slice_get l (length l - 1)) c.args.end c.args.size) same c.takes.ensures in
    cut_more events event c.args.self.now.starts c.args.self.now.starts c.args.end c.args.size true cut ends sizes (subst (λ (b : Bool). Taken b (slice_get c.args.self.now.starts (length c.args.self.now.starts - 1)) c.args.end c.args.size) c.if-takes.true found) refl

pub returns-clause-cut : goal.returns-clause-cut
returns-clause-cut c = λ events event cut ends sizes.
    let same : c.as_slice.result.now ≡ c.args.self.now.starts = c.as_slice.ensures.value ∙ ap (λ (s : StoredSegments). s.starts) c.self.view_is in
    let found : Taken c.takes.result (slice_get c.args.self.now.starts (length c.args.self.now.starts - 1)) c.args.end c.args.size = subst (λ (l : List ℕ). Taken c.takes.result (slice_get l (length l - 1)) c.args.end c.args.size) same c.takes.ensures in
    cut_more events event c.args.self.now.starts c.push_reserved.new.self.items c.args.end c.args.size false cut ends sizes (subst (λ (b : Bool). Taken b (slice_get c.args.self.now.starts (length c.args.self.now.starts - 1)) c.args.end c.args.size) c.if-takes.false found)
    (c.push_reserved.ensures.items ∙ ap (λ (s : StoredSegments). s.starts ++ c.args.end ∷ []) c.self.view_is)
