use Rattle.top_call.proofs.finishes.runs_stand.Goals as goal

pub returns : goal.returns
returns c = record { marked = c.marked_journals_are_runs.ensures; finds = c.renames_find_the_altered.ensures; once = c.renames_come_once.ensures }
