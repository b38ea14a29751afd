use Rattle.std.proofs.Common.{arith}
use Rattle.cs_tx_value.proofs.Whole.{is_found, is_only}
use Rattle.cs_tx_value.proofs.encoded.Encoded.decode.Goals as goal

pub returns-clause-found : goal.returns-clause-found
returns-clause-found g c = is_found g.Self.Encoded.encoding g.Self.Encoded.Fits g.Self.Encoded.found_at g.met.Self.Encoded.form c.args.bytes.now c.whole.result (λ i. omega (arith, c.type_inv.bytes i)) c.whole.ensures

pub returns-clause-only : goal.returns-clause-only
returns-clause-only g c = λ value fits e. is_only g.Self.Encoded.encoding g.Self.Encoded.Fits g.Self.Encoded.found_at g.met.Self.Encoded.form c.args.bytes.now c.whole.result c.whole.ensures value fits e
