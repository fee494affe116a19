-- The state behind every run holds together.
use Rattle.proof_journals.proofs.Journals.{journal_holds, JournalHolds}
use Rattle.proof_journals.specs.ServerTurns.Others.{StatesHold}

-- *States hold together*
pub states_hold : StatesHold
states_hold limits scene journal run =
    let held : JournalHolds limits scene journal = journal_holds limits scene journal run in
    record { tables = held.holds.kept.well_formed; covered = λ n. (held.holds.kept.fine n).covered; apart = held.holds.kept.apart; one = held.one }
