use Rattle.std.proofs.Common.{◌≡◌, drop}
use Rattle.cs_wallet.specs.File.{numbered}
use Rattle.cs_wallet.specs.Fitting.{AllSignedFit}
use Rattle.cs_wallet.proofs.Numbered.{ahead}
use Rattle.cs_wallet.proofs.ranges.numbered.Given as goal

abbrev pub invariant-loop-entry : goal.invariant-loop-entry
invariant-loop-entry l = record {
  read : numbered l.entries ≡ ahead l.used (numbered (drop l.entry-index l.entries));
  fits : AllSignedFit l.used;
}
