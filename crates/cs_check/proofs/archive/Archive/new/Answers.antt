use Rattle.std.proofs.Common.{◌≡◌, Some, None}
use Rattle.cs_base.specs.declared.version.Version.TheVariants.{One}
use Rattle.cs_tx_types.specs.Log.{leaf_encoding}
use Rattle.cs_check_rules.specs.Chain.{empty_log}
use Rattle.cs_check.proofs.archive.Archive.new.Goals as goal

pub invariant_of-result : goal.invariant_of-result
invariant_of-result c = λ whole. record {
  log = empty_log c.args.shard;
  kept_is = c.in_ok-chain.ensures.log;
  in_place = λ slot leaf fits at. let none : None ≡ Some (leaf_encoding One leaf) = at in cc;
}
