-- What the steps make of the hands that a seat has.
use Rattle.std.specs.Prelude.{ℕ, List, [], ◌∷◌, ◌++◌, length, take, drop, map, Option, Some, None}
use Rattle.run_desk.specs.declared.shared_state.Entry.{Entry}
use Rattle.run_desk.specs.declared.hand.Stage.{Stage}
use Rattle.run_desk.specs.declared.hand.Stage.TheVariants.{Rests, Waits, Holds}
use Rattle.run_desk.specs.declared.hand.Role.{Role}
use Rattle.run_desk.specs.declared.hand.Role.TheVariants.{Worker, Witness}
use Rattle.run_desk.specs.declared.hand.Hand.{Hand}
use Rattle.run_desk.specs.Turns.{longer, PassView}

-- The ticket of a worker at this stage, else 0.
abbrev pub stage_ticket : Stage → ℕ
stage_ticket Rests = 0
stage_ticket (Waits ticket) = ticket
stage_ticket (Holds ticket) = ticket

module _ {E : Type 0} where
  abbrev pub role_ticket : Role E → ℕ
  role_ticket (Worker number own stage) = stage_ticket stage
  role_ticket Witness = 0

  abbrev pub role_own : Role E → List (Entry E)
  role_own (Worker number own stage) = own
  role_own Witness = []

  abbrev pub restaged : Stage → Role E → Role E
  restaged stage (Worker number own old) = Worker number own stage
  restaged stage Witness = Witness

  abbrev pub with_own : List (Entry E) → Role E → Role E
  with_own new (Worker number own stage) = Worker number (own ++ new) stage
  with_own new Witness = Witness

module _ {O E : Type 0} where
  -- The view of a worker's seat.
  abbrev pub worker_view : O → List (Entry E) → ℕ → List (Entry E) → Stage → List (Hand O E)
  worker_view opening seen number own stage = record { opening = opening; seen = seen; role = Worker number own stage } ∷ []

  -- What the first hand says: the opening, what it has seen, its own turns, and its ticket.
  abbrev pub known_opening : List (Hand O E) → Option O
  known_opening [] = None
  known_opening (hand ∷ hands) = Some hand.opening

  abbrev pub seen_of : List (Hand O E) → List (Entry E)
  seen_of [] = []
  seen_of (hand ∷ hands) = hand.seen

  abbrev pub own_of : List (Hand O E) → List (Entry E)
  own_of [] = []
  own_of (hand ∷ hands) = role_own hand.role

  abbrev pub ticket_of : List (Hand O E) → ℕ
  ticket_of [] = 0
  ticket_of (hand ∷ hands) = role_ticket hand.role

  -- The first hand, and the others.
  abbrev pub next : List (Hand O E) → List (Hand O E)
  next view = take 1 view

  abbrev pub others : List (Hand O E) → List (Hand O E)
  others view = drop 1 view

  -- Witnesses of what the hands have seen.
  abbrev pub witnesses : List (Hand O E) → List (Hand O E)
  witnesses view = map (λ hand. record { opening = hand.opening; seen = hand.seen; role = Witness }) view

  -- The hands, their workers at this stage.
  abbrev pub staged : Stage → List (Hand O E) → List (Hand O E)
  staged stage view = map (λ hand. record { opening = hand.opening; seen = hand.seen; role = restaged stage hand.role }) view

  -- The hands, having seen these entries.
  abbrev pub shown : List (Entry E) → List (Hand O E) → List (Hand O E)
  shown entries view = map (λ hand. record { opening = hand.opening; seen = entries; role = hand.role }) view

  -- The same, those past what they had seen being their own.
  abbrev pub recorded : List (Entry E) → List (Hand O E) → List (Hand O E)
  recorded entries view = map (λ hand. record { opening = hand.opening; seen = entries; role = with_own (drop (length hand.seen) entries) hand.role }) view

  -- A witness and a worker: the worker has seen the longer of what both had seen.
  abbrev pub compared : List (Hand O E) → List (Hand O E)
  compared [] = []
  compared (reported ∷ []) = reported ∷ []
  compared (reported ∷ mine ∷ hands) = record { opening = mine.opening; seen = longer reported.seen mine.seen; role = mine.role } ∷ hands

  -- The hand of a pass, whose shared state began with this opening.
  abbrev pub hand_of : O → PassView O E → Hand O E
  hand_of opening pass = record { opening = opening; seen = pass.seen; role = Worker pass.worker pass.own Rests }
