use Rattle.std.proofs.Common.{arith, subst}
use Rattle.cs_base.specs.Fields.{whole_at}
use Rattle.cs_base.specs.Version.{version_of}
use Rattle.cs_base.specs.declared.version.Version.{Version}
use Rattle.cs_tx_value.specs.Reading.{PassesAll}
use Rattle.cs_tx_value.proofs.Whole.{is_there, is_let_through}
use Rattle.cs_tx_types.proofs.versioned.Versioned.check_form.Goals as goal

pub returns-clause-found : goal.returns-clause-found
returns-clause-found g c =
    let v = version_of c.args.version in
    let passes = subst (λ (n : Version). PassesAll c.passes.result (whole_at (g.Self.Versioned.found_at n) c.args.bytes.now)) c.of-version.ensures c.passes.ensures in
    is_there (g.Self.Versioned.encoding v) (g.Self.Versioned.Fits v) (g.Self.Versioned.found_at v) (g.met.Self.Versioned.form v) c.args.bytes.now c.passes.result (λ i. omega (arith, c.type_inv.bytes i)) passes

pub returns-clause-only : goal.returns-clause-only
returns-clause-only g c = λ value fits e.
    let v = version_of c.args.version in
    let passes = subst (λ (n : Version). PassesAll c.passes.result (whole_at (g.Self.Versioned.found_at n) c.args.bytes.now)) c.of-version.ensures c.passes.ensures in
    is_let_through (g.Self.Versioned.encoding v) (g.Self.Versioned.Fits v) (g.Self.Versioned.found_at v) (g.met.Self.Versioned.form v) c.args.bytes.now c.passes.result passes value fits e
