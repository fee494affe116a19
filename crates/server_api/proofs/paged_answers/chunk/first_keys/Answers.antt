use Rattle.std.proofs.Common.{◌≡◌, ◌∙◌, [], sym, ap, take, refl}
use Rattle.base_values.specs.GhoSchema.Rows.{key_of}
use Rattle.server_model.specs.Chunks.{keys_of, last_of}
use Rattle.server_api.proofs.PagedAnswers.Cuts.{cut_keys, all_keys}
use Rattle.server_api.proofs.paged_answers.chunk.first_keys.Goals as goal

pub returns-in_ok-end-in-Some : goal.returns-in_ok-end-in-Some
returns-in_ok-end-in-Some c =
    let keys : c.in_ok-keys.keys ≡ keys_of c.args.places.now (take c.args.size c.args.rows) = c.in_ok-keys.ensures.keys in
    let end : c.in_ok-end-in-Some.end ≡ last_of [] c.in_ok-keys.keys = c.in_ok-end-in-Some.ensures ∙ ap (last_of []) c.as_slice.ensures in
    rw (cut_keys (key_of c.args.places.now) c.args.span.now c.args.size c.args.rows _ _ (sym c.in_ok-keys.ensures.left ∙ c.in-Some.ensures.steps), end, keys) refl

pub returns-in_ok-end-in-None : goal.returns-in_ok-end-in-None
returns-in_ok-end-in-None c =
    let keys : c.in_ok-keys.keys ≡ keys_of c.args.places.now (take c.args.size c.args.rows) = c.in_ok-keys.ensures.keys in
    rw (all_keys (key_of c.args.places.now) c.args.span.now c.args.size c.args.rows (sym c.in_ok-keys.ensures.left ∙ c.in-None.ensures.steps.0), c.in_ok-end-in-None.ensures, keys) refl
