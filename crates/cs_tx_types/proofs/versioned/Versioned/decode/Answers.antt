use Rattle.std.proofs.Common.{arith, subst}
use Rattle.cs_base.specs.Fields.{whole_at}
use Rattle.cs_base.specs.Version.{version_of}
use Rattle.cs_base.specs.declared.version.Version.{Version}
use Rattle.cs_tx_value.specs.Reading.{GivesAll}
use Rattle.cs_tx_value.proofs.Whole.{is_found, is_only}
use Rattle.cs_tx_types.proofs.versioned.Versioned.decode.Goals as goal

pub returns-clause-found : goal.returns-clause-found
returns-clause-found g c =
    let v = version_of c.args.version in
    let gives = subst (λ (n : Version). GivesAll c.whole.result (whole_at (g.Self.Versioned.found_at n) c.args.bytes.now)) c.of-version.ensures c.whole.ensures in
    is_found (g.Self.Versioned.encoding v) (g.Self.Versioned.Fits v) (g.Self.Versioned.found_at v) (g.met.Self.Versioned.form v) c.args.bytes.now c.whole.result (λ i. omega (arith, c.type_inv.bytes i)) gives

pub returns-clause-only : goal.returns-clause-only
returns-clause-only g c = λ value fits e.
    let v = version_of c.args.version in
    let gives = subst (λ (n : Version). GivesAll c.whole.result (whole_at (g.Self.Versioned.found_at n) c.args.bytes.now)) c.of-version.ensures c.whole.ensures in
    is_only (g.Self.Versioned.encoding v) (g.Self.Versioned.Fits v) (g.Self.Versioned.found_at v) (g.met.Self.Versioned.form v) c.args.bytes.now c.whole.result gives value fits e
