use Rattle.std.proofs.Common.{arith}
use Rattle.cs_tx_value.proofs.Whole.{is_there, is_let_through}
use Rattle.cs_tx_value.proofs.encoded.Encoded.check_form.Goals as goal

pub returns-clause-found : goal.returns-clause-found
returns-clause-found g c = is_there g.Self.Encoded.encoding g.Self.Encoded.Fits g.Self.Encoded.found_at g.met.Self.Encoded.form c.args.bytes.now c.passes.result (λ i. omega (arith, c.type_inv.bytes i)) c.passes.ensures

pub returns-clause-only : goal.returns-clause-only
returns-clause-only g c = λ value fits e. is_let_through g.Self.Encoded.encoding g.Self.Encoded.Fits g.Self.Encoded.found_at g.met.Self.Encoded.form c.args.bytes.now c.passes.result c.passes.ensures value fits e
