use Rattle.std.proofs.Common.{◌≡◌, take}
use Rattle.cs_config.specs.Printed.{list_with, AllListedFit}
use Rattle.cs_config.proofs.listing.list_with.Given as goal

abbrev pub invariant-loop-name : goal.invariant-loop-name
invariant-loop-name l = record {
  is : l.list ≡ list_with l.master l.me (take l.name-index l.names);
  fits : AllListedFit l.list;
}
