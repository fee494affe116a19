-- *Sessions of a journal*: each actor's turns are in a session of its own, and after a loss in a new one. (This project's
-- rule.)
use Rattle.std.specs.Prelude.{◌≡◌, ◌<◌, ℕ, ◌+◌, max, if◌then◌else◌, List, [], fold, Option, Some, None}
use Rattle.base_script.specs.declared.actor.Actor.{Actor}
use Rattle.server_model.specs.Along.{Along}
use Rattle.server_model.specs.declared.answer.Answer.{Answer}
use Rattle.server_model.specs.declared.answer.Answer.TheVariants as answers
use Rattle.server_model.specs.declared.entry.Asked.{Asked}
use Rattle.server_model.specs.declared.entry.Asked.TheVariants.{Command, Cut}
use Rattle.server_model.specs.declared.entry.Entry.{Entry}
use Rattle.server_model.specs.Entries.{same_actor, is_command}

-- the actor's live session: that of its last turn, unless it was lost there; a command names none
abbrev pub session_left : Asked → Answer → ℕ → Option ℕ
session_left (Command word) answer session = None
session_left asked answers.Lost session = None
session_left asked answer session = Some session

abbrev pub session_in : Actor → Option ℕ → Entry → Option ℕ
session_in actor old entry = if same_actor entry.actor actor then session_left entry.asked entry.answer entry.session else old

unfoldable pub live_session : List Entry → Actor → Option ℕ
live_session journal actor = fold (session_in actor) None journal

-- *Sessions named*: the greatest number of a session that the turns name; a command names none
unfoldable pub sessions_named : List Entry → ℕ
sessions_named journal = fold (λ most entry. if is_command entry.asked then most else max most entry.session) 0 journal

-- The actor's turns are in its live session; where it has none, in a new one. Sessions are numbered from 1, and each new
-- one has a greater number than those before it. A command names none.
abbrev pub IsInSession : List Entry → Entry → Asked → Option ℕ → Type 0
IsInSession before entry (Command word) live = entry.session ≡ 0
IsInSession before entry asked (Some session) = entry.session ≡ session
IsInSession before entry Cut None = ⊥
IsInSession before entry asked None = sessions_named before < entry.session

-- *Keeping to sessions*: each turn is in its actor's session.
pub record IsSeated (before : List Entry) (entry : Entry) : Type 0 where
  pub session : IsInSession before entry entry.asked (live_session before entry.actor)

unfoldable pub KeepsSessions : List Entry → Type 0
KeepsSessions journal = Along IsSeated [] journal

-- A new session has the number next to the greatest before it.
abbrev pub IsNumbered : List Entry → Entry → Asked → Option ℕ → Type 0
IsNumbered before entry (Command word) live = Unit {0}
IsNumbered before entry Cut live = Unit {0}
IsNumbered before entry asked (Some session) = Unit {0}
IsNumbered before entry asked None = entry.session ≡ sessions_named before + 1

-- *Numbering sessions*: so each new one is, where no step was out of memory after the session that it had opened.
unfoldable pub NumbersSessions : List Entry → Type 0
NumbersSessions journal = Along (λ before entry. IsNumbered before entry entry.asked (live_session before entry.actor)) [] journal
