use Rattle.std.proofs.Common.{◌++◌, [], ◌∷◌, refl}
use Rattle.std.specs.Int.{w16, w64, to_be_bytes}
use Rattle.cs_base.proofs.Written.{two_parts_if}
use Rattle.cs_tx_value.proofs.key.put_dummy.Goals as goal

pub returns-clause-ok : goal.returns-clause-ok
returns-clause-ok c = two_parts_if c.encode.result c.args.out.now (1 ∷ []) c.u8.new.self (to_be_bytes w16 c.args.shard ++ to_be_bytes w64 c.args.serial) c.encode.new.out (1 ∷ (to_be_bytes w16 c.args.shard ++ to_be_bytes w64 c.args.serial)) c.in_ok-u8.ensures.ok c.encode.ensures.ok refl
