use Rattle.std.proofs.Common.{[], refl, ◌∙◌, ap, sym}
use Rattle.std.proofs.lemmas.List.{map-id}
use Rattle.server_model.specs.Chunks.{last_of}
use Rattle.server_api.proofs.PagedAnswers.Lists.{last_found}
use Rattle.server_api.proofs.paged_answers.chunk.last_of.Goals as goal

pub returns-in-Some : goal.returns-in-Some
returns-in-Some c =
    rw (ap (last_of []) (sym (map-id c.args.keys.now)) ∙ last_found last_of (λ y. refl) (λ y next more. refl) (λ key. key) [] c.args.keys.now c.in-Some.key.now c.in-Some.ensures.value) c.copy.ensures
