use Rattle.std.proofs.Common.{◌≡◌, ◌≤◌, None, Ok, take}
use Rattle.cs_io.specs.Told.{Stays}
use Rattle.cs_approve.specs.Books.{first_refused}
use Rattle.cs_deploy.specs.Taking.{TakesFiles, FilesCome}
use Rattle.cs_deploy.specs.Files.{texts_taken}
use Rattle.cs_deploy.proofs.contracts.take_texts.Given as goal

abbrev pub invariant-loop-name : goal.invariant-loop-name
invariant-loop-name g l = record {
  taken : TakesFiles (FilesCome (texts_taken (take l.name-index l.names))) (g.E.Store.files l.initial.store) (Ok l.texts);
  accepted : first_refused l.texts ≡ None;
  kept : Stays (g.E.Store.files l.initial.store) (g.E.Store.files l.store);
  faults : g.E.Store.faults l.initial.store ≤ g.E.Store.faults l.store;
}
