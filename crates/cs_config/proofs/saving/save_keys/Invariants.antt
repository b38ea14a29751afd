use Rattle.std.proofs.Common.{◌≤◌, take}
use Rattle.cs_io.specs.Told.{Changes}
use Rattle.cs_wire.specs.AllNames.{names_of}
use Rattle.cs_config.specs.Saving.{SavesKeys}
use Rattle.cs_config.proofs.saving.save_keys.Given as goal

abbrev pub invariant-loop-me : goal.invariant-loop-me
invariant-loop-me g l = record {
  saved : Changes (SavesKeys l.site.config l.master (take l.me-index (names_of l.site.config))) (g.E.Store.files l.initial.store) (g.E.Store.files l.store);
  faults : g.E.Store.faults l.initial.store ≤ g.E.Store.faults l.store;
}
