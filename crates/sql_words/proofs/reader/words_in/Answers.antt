use Rattle.std.proofs.Common.{◌≡◌, ◌-◌, ◌<◌, length, take, drop, Ok, Err, ap, ◌∙◌, sym, subst, arith, false-eqb, eqb-true}
use Rattle.std.specs.Str.{IsCharBoundary}
use Rattle.std.proofs.lemmas.Result.{err_from_is_err_and}
use Rattle.std.proofs.lemmas.List.{map_push}
use Rattle.sql_words.specs.Front.{front_at}
use Rattle.sql_words.specs.Readings.{view, views, words_of}
use Rattle.sql_words.proofs.Ends.{front_cuts}
use Rattle.sql_words.proofs.Following.{Along, Along-past_gap, Along-past_found, Along-fault, Along-end, Stepped, Stepped-smaller, IsFaultOf-met}
use Rattle.sql_words.proofs.reader.words_in.Goals as goal
use Rattle.sql_words.proofs.reader.words_in.Goals.{After-split_at}

pub returns-in_err-front-clause-fault : goal.returns-in_err-front-clause-fault
returns-in_err-front-clause-fault c =
    let rest = c.loop-rest.rest.now in
    let place = length c.args.text.now - length rest in
    let read : front_at place rest ≡ Err c.in_err-front.field-0.0 = ap (front_at place) (sym c.as_bytes.ensures.value) ∙ sym c.front_at.ensures ∙ c.in_err-front.was in
    let any : 0 < length rest = omega (arith, false-eqb _ 0 c.loop-rest-test.ensures) in
    let p = err_from_is_err_and c.from_residual-in_err-front.result c.from_residual-in_err-front.ensures.1 in
    rw (p.1, p.2) (IsFaultOf-met (words_of c.args.text.now) c.in_err-front.field-0.0 (Along-fault c.args.text.now (views c.loop-rest.found.items) rest c.loop-rest.invariant c.in_err-front.field-0.0 any read))

pub split_at-requires : goal.split_at-requires
split_at-requires c =
    let rest = c.loop-rest.rest.now in
    let place = length c.args.text.now - length rest in
    let read : front_at place rest ≡ Ok c.in_ok-front.front = ap (front_at place) (sym c.as_bytes.ensures.value) ∙ sym c.front_at.ensures ∙ c.in_ok-front.was in
    let any : 0 < length rest = omega (arith, false-eqb _ 0 c.loop-rest-test.ensures) in
    subst (IsCharBoundary rest) (sym c.length.ensures) ((front_cuts place rest c.loop-rest.invariant.utf8 any c.in_ok-front.front read).boundary)

stepped : (c : After-split_at) → Stepped (length c.args.text.now) c.loop-rest.rest.now c.in_ok-front.front c.split_at.result.0.now c.split_at.result.1.now
stepped c =
    let rest = c.loop-rest.rest.now in
    let place = length c.args.text.now - length rest in
    let read : front_at place rest ≡ Ok c.in_ok-front.front = ap (front_at place) (sym c.as_bytes.ensures.value) ∙ sym c.front_at.ensures ∙ c.in_ok-front.was in
    let any : 0 < length rest = omega (arith, false-eqb _ 0 c.loop-rest-test.ensures) in
    record {
      read = read;
      cuts = front_cuts place rest c.loop-rest.invariant.utf8 any c.in_ok-front.front read;
      piece_is = c.split_at.ensures.front ∙ ap (λ k. take k rest) c.length.ensures;
      after_is = c.split_at.ensures.back ∙ ap (λ k. drop k rest) c.length.ensures;
    }

pub loop-rest-smaller : goal.loop-rest-smaller
loop-rest-smaller c = Stepped-smaller _ _ _ _ _ (stepped (goal.at.loop-rest-smaller c).After-split_at)

pub loop-rest-smaller-in_ok-push : goal.loop-rest-smaller-in_ok-push
loop-rest-smaller-in_ok-push c = Stepped-smaller _ _ _ _ _ (stepped (goal.at.loop-rest-smaller-in_ok-push c).After-split_at)

pub loop-rest-preserved : goal.loop-rest-preserved
loop-rest-preserved c = Along-past_gap c.args.text.now (views c.loop-rest.found.items) c.loop-rest.rest.now c.in_default.field-0 c.in_ok-front.front c.split_at.result.0.now c.split_at.result.1.now c.loop-rest.invariant (stepped (goal.at.loop-rest-preserved c).After-split_at) c.in_default.is

pub loop-rest-preserved-in_ok-push : goal.loop-rest-preserved-in_ok-push
loop-rest-preserved-in_ok-push c =
    let kept = Along-past_found c.args.text.now (views c.loop-rest.found.items) c.loop-rest.rest.now c.in-Found.field-1 c.in-Found.class c.in_ok-front.front c.split_at.result.0.now c.split_at.result.1.now c.loop-rest.invariant (stepped (goal.at.loop-rest-preserved-in_ok-push c).After-split_at) c.in-Found.is in
    let pushed = ap views c.in_ok-push.ensures.items ∙ map_push view c.loop-rest.found.items _ in
    subst (λ ws. Along c.args.text.now ws c.split_at.result.1.now) (sym pushed) kept

pub returns-clause-read : goal.returns-clause-read
returns-clause-read c = Along-end c.args.text.now (views c.loop-rest.found.items) c.loop-rest.rest.now c.loop-rest.invariant (eqb-true (length c.loop-rest.rest.now) 0 (sym c.loop-rest-test.ensures))
