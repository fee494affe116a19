-- Whose turn comes next, case by case.
use Rattle.std.proofs.Common.{◌≡◌, Bool, List, Option, Some, None, refl, sym, ◌∙◌}
use Rattle.base_script.specs.declared.actor.Actor.{Actor}
use Rattle.server_model.specs.declared.entry.Entry.{Entry}
use Rattle.plan_data.specs.PlanData.{PlanData}
use Rattle.tool_program.specs.Orders.{actors, may_go, Queue, Choice, Found, first_ready, from_pass, from_round, from_words, chosen}
use Rattle.run_replay.specs.WholeReplay.Places.{by_word}

word_says : (ready : Actor → Bool) (all : List Actor) (queue : Queue) (found : Option Found) (choice : Choice) → by_word queue.round found ≡ Some choice → from_words ready all queue found ≡ Some choice
word_says ready all queue None choice is = absurd (cc)
word_says ready all queue (Some found) choice is = is

no_word : (ready : Actor → Bool) (all : List Actor) (queue : Queue) (found : Option Found) → by_word queue.round found ≡ None → from_words ready all queue found ≡ from_round ready all (first_ready ready queue.round)
no_word ready all queue None is = refl
no_word ready all queue (Some found) is = absurd (cc)

round_says : (ready : Actor → Bool) (all : List Actor) (found : Option Found) (choice : Choice) → from_pass found ≡ Some choice → from_round ready all found ≡ Some choice
round_says ready all None choice is = absurd (cc)
round_says ready all (Some found) choice is = is

no_round : (ready : Actor → Bool) (all : List Actor) (found : Option Found) → from_pass found ≡ None → from_round ready all found ≡ from_pass (first_ready ready all)
no_round ready all None is = refl
no_round ready all (Some found) is = absurd (cc)

-- by a word
pub by_words : (plan : PlanData) (journal : List Entry) (queue : Queue) (choice : Choice) → Some choice ≡ by_word queue.round (first_ready (may_go plan journal) queue.words) → Some choice ≡ chosen plan journal queue
unfolding chosen
by_words plan journal queue choice is = sym (word_says (may_go plan journal) (actors plan) queue (first_ready (may_go plan journal) queue.words) choice (sym is))

-- in the pass
pub by_round : (plan : PlanData) (journal : List Entry) (queue : Queue) (choice : Choice) → by_word queue.round (first_ready (may_go plan journal) queue.words) ≡ None → Some choice ≡ from_pass (first_ready (may_go plan journal) queue.round) → Some choice ≡ chosen plan journal queue
unfolding chosen
by_round plan journal queue choice none is =
    sym
    (no_word (may_go plan journal) (actors plan) queue (first_ready (may_go plan journal) queue.words) none
    ∙ round_says (may_go plan journal) (actors plan) (first_ready (may_go plan journal) queue.round) choice (sym is))

-- in the next one
pub by_pass : (plan : PlanData) (journal : List Entry) (queue : Queue) → by_word queue.round (first_ready (may_go plan journal) queue.words) ≡ None → from_pass (first_ready (may_go plan journal) queue.round) ≡ None
    → from_pass (first_ready (may_go plan journal) (actors plan)) ≡ chosen plan journal queue
unfolding chosen
by_pass plan journal queue none past =
    sym
    (no_word (may_go plan journal) (actors plan) queue (first_ready (may_go plan journal) queue.words) none
    ∙ no_round (may_go plan journal) (actors plan) (first_ready (may_go plan journal) queue.round) past)
