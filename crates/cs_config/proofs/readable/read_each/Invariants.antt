use Rattle.std.proofs.Common.{◌≡◌, drop}
use Rattle.std.specs.List.{AllByRecursion}
use Rattle.toml.specs.View.{items_view}
use Rattle.cs_config.specs.Reading.{each_item}
use Rattle.cs_config.proofs.Read.{ahead}
use Rattle.cs_config.proofs.readable.read_each.Given as goal

abbrev pub invariant-loop-item : goal.invariant-loop-item
invariant-loop-item g l = record {
  read : each_item g.T.Readable.meaning (items_view l.items) ≡ ahead l.found (each_item g.T.Readable.meaning (items_view (drop l.item-index l.items)));
  fits : AllByRecursion g.T.Readable.Fits l.found;
}
