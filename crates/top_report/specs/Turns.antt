-- The turns, as they are printed: how many there are, and whose they are. This project's rule.
use Rattle.std.specs.Prelude.{codes, ℕ, ◌+◌, ◌==◌, not, if◌then◌else◌, List, [], ◌∷◌, ◌++◌, length, filter, map}
use Rattle.std.specs.Fmt.{decimal}
use Rattle.std.specs.List.{flat_map}
use Rattle.base_script.specs.declared.actor.Actor.{Actor}
use Rattle.base_script.specs.declared.actor.Actor.TheVariants.{Op, Insp, Copy, Apply, Lock, Ren, Client}
use Rattle.server_model.specs.declared.entry.Entry.{Entry}
use Rattle.server_model.specs.Entries.{is_cut, same_actor}
use Rattle.plan_data.specs.declared.runs.ActorRun.{ActorRun}

-- the word of an actor, by which a plan names it too
unfoldable pub actor_word : Actor → List ℕ
actor_word Op = codes "op"
actor_word Insp = codes "insp"
actor_word Copy = codes "copy"
actor_word Apply = codes "apply"
actor_word Lock = codes "lock"
actor_word Ren = codes "ren"
actor_word (Client number) = codes "c" ++ decimal number

-- whose turns a journal has, losses between calls aside
unfoldable pub turns_taken : List Entry → List Actor
turns_taken journal = map (λ entry. entry.actor) (filter (λ entry. not (is_cut entry.asked)) journal)

-- this many turns of an actor, and then these
unfoldable pub joined : Actor → ℕ → List ActorRun → List ActorRun
joined actor times [] = record { actor = actor; times = times } ∷ []
joined actor times (run ∷ runs) =
    if same_actor actor run.actor then record { actor = actor; times = times + run.times } ∷ runs else record { actor = actor; times = times } ∷ run ∷ runs

-- *Runs of turns*: neighbours of one actor are joined
unfoldable pub runs_of : List Actor → List ActorRun
runs_of [] = []
runs_of (actor ∷ actors) = joined actor 1 (runs_of actors)

abbrev pub times_text : ℕ → List ℕ
times_text times = if times == 1 then [] else codes "*" ++ decimal times

-- a run: `copy` or `copy*3`
unfoldable pub run_text : ActorRun → List ℕ
run_text run = actor_word run.actor ++ times_text run.times

-- *The printed order*: runs with a blank before each
unfoldable pub order_text : List ActorRun → List ℕ
order_text runs = flat_map (λ run. codes " " ++ run_text run) runs

-- how many turns a journal has, losses between calls among them; and whose they are
unfoldable pub turns_text : List Entry → List ℕ
turns_text journal = codes "turns " ++ decimal (length journal) ++ codes "\norder" ++ order_text (runs_of (turns_taken journal)) ++ codes "\n"
