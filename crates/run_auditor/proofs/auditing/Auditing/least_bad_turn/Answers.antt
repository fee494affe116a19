use Rattle.std.proofs.Common.{◌≡◌, false, take, sym, ◌∙◌, arith}
use Rattle.run_audit.specs.Rules.{is_astray}
use Rattle.run_auditor.specs.Auditing.{IsAuditing}
use Rattle.run_auditor.proofs.AuditedTurns.{after_all, after_one, auditing_count, none_noted, astray_answer, astray_some, noted_all, noted_auditing, noted_one, ready_at, straight_answer}
use Rattle.run_auditor.proofs.auditing.Auditing.least_bad_turn.Goals as goal

pub loop-line-init : goal.loop-line-init
loop-line-init c = record { auditing = c.requires.auditing; noted = c.requires.noted ∙ sym (none_noted c.args.plan.now) }

pub unended-unended-requires : goal.unended-unended-requires
unended-unended-requires c = auditing_count c.args.plan.now (take c.loop-line.line-index c.args.trace.now.lines) c.loop-line.self c.loop-line.invariant.auditing

pub note-requires : goal.note-requires
note-requires c =
    let within = rw c.as_slice-line-items.ensures at c.loop-line-test.true in
    let item = rw c.as_slice-line-items.ensures at c.line-item.is in
    ready_at c.args.plan.now c.args.trace.now.lines c.loop-line.line-index c.line-item.result c.loop-line.self c.requires.known c.requires.alters (omega (arith, within)) (omega arith) item c.loop-line.invariant.auditing

pub is_astray-requires : goal.is_astray-requires
is_astray-requires c =
    let within = rw c.as_slice-line-items.ensures at c.loop-line-test.true in
    let item = rw c.as_slice-line-items.ensures at c.line-item.is in
    ready_at c.args.plan.now c.args.trace.now.lines c.loop-line.line-index c.line-item.result c.note.new.self c.requires.known c.requires.alters (omega (arith, within)) (omega arith) item
    (noted_auditing c.args.plan.now (take c.loop-line.line-index c.args.trace.now.lines) c.loop-line.self c.note.new.self c.note.ensures.rest c.loop-line.invariant.auditing)

pub take-requires : goal.take-requires
take-requires c =
    let within = rw c.as_slice-line-items.ensures at c.loop-line-test.true in
    let item = rw c.as_slice-line-items.ensures at c.line-item.is in
    ready_at c.args.plan.now c.args.trace.now.lines c.loop-line.line-index c.line-item.result c.note.new.self c.requires.known c.requires.alters (omega (arith, within)) (omega arith) item
    (noted_auditing c.args.plan.now (take c.loop-line.line-index c.args.trace.now.lines) c.loop-line.self c.note.new.self c.note.ensures.rest c.loop-line.invariant.auditing)

pub returns-then-is_astray-clause-turn : goal.returns-then-is_astray-clause-turn
returns-then-is_astray-clause-turn c =
    let within = rw c.as_slice-line-items.ensures at c.loop-line-test.true in
    let item = rw c.as_slice-line-items.ensures at c.line-item.is in
    let so : IsAuditing c.args.plan.now (take c.loop-line.line-index c.args.trace.now.lines) c.note.new.self =
    noted_auditing c.args.plan.now (take c.loop-line.line-index c.args.trace.now.lines) c.loop-line.self c.note.new.self c.note.ensures.rest c.loop-line.invariant.auditing in
    astray_answer c.args.plan.now c.args.trace.now c.loop-line.line-index c.line-item.result c.note.new.self c.worst-worst.result (omega (arith, within)) item so (sym (c.is_astray.ensures (take c.loop-line.line-index c.args.trace.now.lines) so) ∙ c.if-is_astray.true)
    (c.in_ok-note.ensures.noted (take c.loop-line.line-index c.args.trace.now.lines) c.loop-line.invariant.auditing c.loop-line.invariant.noted) c.worst-worst.ensures

pub returns-then-is_astray-clause-auditing : goal.returns-then-is_astray-clause-auditing
returns-then-is_astray-clause-auditing c = λ none.
    let so : IsAuditing c.args.plan.now (take c.loop-line.line-index c.args.trace.now.lines) c.note.new.self =
    noted_auditing c.args.plan.now (take c.loop-line.line-index c.args.trace.now.lines) c.loop-line.self c.note.new.self c.note.ensures.rest c.loop-line.invariant.auditing in
    absurd (astray_some c.args.plan.now (take c.loop-line.line-index c.args.trace.now.lines) c.line-item.result c.note.new.self.noted c.note.new.self.judge.worst c.worst-worst.result (sym (c.is_astray.ensures (take c.loop-line.line-index c.args.trace.now.lines) so) ∙ c.if-is_astray.true)
    (c.in_ok-note.ensures.noted (take c.loop-line.line-index c.args.trace.now.lines) c.loop-line.invariant.auditing c.loop-line.invariant.noted) c.worst-worst.ensures none)

pub loop-line-preserved : goal.loop-line-preserved
loop-line-preserved c =
    let within = rw c.as_slice-line-items.ensures at c.loop-line-test.true in
    let item = rw c.as_slice-line-items.ensures at c.line-item.is in
    let so : IsAuditing c.args.plan.now (take c.loop-line.line-index c.args.trace.now.lines) c.note.new.self =
    noted_auditing c.args.plan.now (take c.loop-line.line-index c.args.trace.now.lines) c.loop-line.self c.note.new.self c.note.ensures.rest c.loop-line.invariant.auditing in
    let goes : is_astray c.args.plan.now (take c.loop-line.line-index c.args.trace.now.lines) c.line-item.result.asked c.line-item.result.actor ≡ false =
    sym (c.is_astray.ensures (take c.loop-line.line-index c.args.trace.now.lines) so) ∙ c.if-is_astray.false in
    record {
      auditing = after_one c.args.plan.now c.args.trace.now.lines c.loop-line.line-index c.line-item.result c.take.new.self (omega (arith, within)) item (c.in_ok-take.ensures.auditing (take c.loop-line.line-index c.args.trace.now.lines) so goes);
      noted = noted_one c.args.plan.now c.args.trace.now.lines c.loop-line.line-index c.line-item.result c.note.new.self.noted c.take.new.self.noted (omega (arith, within)) item
          (c.in_ok-note.ensures.noted (take c.loop-line.line-index c.args.trace.now.lines) c.loop-line.invariant.auditing c.loop-line.invariant.noted) c.take.ensures.noted;
    }

pub returns-clause-turn : goal.returns-clause-turn
returns-clause-turn c =
    let past = rw c.as_slice-line-items.ensures at c.loop-line-test.false in
    let so : IsAuditing c.args.plan.now c.args.trace.now.lines c.loop-line.self = after_all c.args.plan.now c.args.trace.now.lines c.loop-line.line-index c.loop-line.self (omega (arith, past)) c.loop-line.invariant.auditing in
    straight_answer c.args.plan.now c.args.trace.now c.loop-line.self c.worst-straight.result c.unended-unended.result c.lesser.result so
    (noted_all c.args.plan.now c.args.trace.now.lines c.loop-line.line-index c.loop-line.self.noted (omega (arith, past)) c.loop-line.invariant.noted) c.worst-straight.ensures (c.unended-unended.ensures so) c.lesser.ensures

pub returns-clause-auditing : goal.returns-clause-auditing
returns-clause-auditing c = λ none.
    let past = rw c.as_slice-line-items.ensures at c.loop-line-test.false in
    after_all c.args.plan.now c.args.trace.now.lines c.loop-line.line-index c.loop-line.self (omega (arith, past)) c.loop-line.invariant.auditing
