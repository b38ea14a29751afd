-- Each event makes only marks that are made, and locks and votes on record come from votes.
use Rattle.cs_node_law.proofs.Inputs.{event-level}
use Rattle.cs_node_law.proofs.Locks.{locks-given}
use Rattle.cs_node_law.proofs.Notes.{notes-given}
use Rattle.cs_node_law.proofs.rules.marks_are_made.Goals as goal

pub returns-clause-made : goal.returns-clause-made
returns-clause-made g c site = event-level site

pub returns-clause-locks : goal.returns-clause-locks
returns-clause-locks g c site = locks-given site

pub returns-clause-notes : goal.returns-clause-notes
returns-clause-notes g c site = notes-given site
