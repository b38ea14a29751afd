use Rattle.std.proofs.Common.{◌≡◌, drop, map, length}
use Rattle.toml.specs.View.{view}
use Rattle.cs_transact.specs.Reading.{traces_from}
use Rattle.cs_transact.proofs.TraceLists.{found_ahead}
use Rattle.cs_transact.proofs.traces.read_traces.Given as goal

abbrev pub invariant-loop-number : goal.invariant-loop-number
invariant-loop-number l = record {
  read : traces_from 0 (map view l.items) ≡ found_ahead l.traces (traces_from l.number (map view (drop l.number l.items)));
  count : length l.traces ≡ l.number;
}
