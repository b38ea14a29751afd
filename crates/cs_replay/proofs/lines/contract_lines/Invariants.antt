use Rattle.std.proofs.Common.{◌≡◌, take, string_bytes}
use Rattle.std.specs.List.{flat_map}
use Rattle.cs_replay_rules.specs.Dumps.{dumped_contract}
use Rattle.cs_replay.proofs.lines.contract_lines.Given as goal

abbrev pub invariant-loop-contract : goal.invariant-loop-contract
invariant-loop-contract l = string_bytes l.text ≡ flat_map dumped_contract (take l.contract-index l.contracts)
