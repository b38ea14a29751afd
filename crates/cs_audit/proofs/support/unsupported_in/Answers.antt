use Rattle.std.proofs.Common.{◌≡◌, ◌∙◌, true, false, Some, ap, sym, rules}
use Rattle.cs_node_state.specs.Setup.{Setup}
use Rattle.cs_node_pool.specs.Deployed.{deployed_setup}
use Rattle.cs_audit_rules.specs.Support.{unsupported}
use Rattle.cs_audit.proofs.Supporting.{supported-here, unsupported-here, none-unsupported}
use Rattle.cs_audit.proofs.support.unsupported_in.Goals as goal

pub loop-slot-preserved : goal.loop-slot-preserved
loop-slot-preserved c logs genesis approves keeps =
    let setup : Setup = deployed_setup c.args.config.now genesis approves in
    let so : c.in_ok-is_supported.field-0 ≡ true = search rules in
    sym (supported-here setup logs c.args.shard c.loop-slot.slot c.as_slice-leaves.result.now c.index-leaves-slot.result c.loop-slot-test.true c.index-leaves-slot.is
    (sym (c.in_ok-is_supported.ensures logs genesis approves keeps) ∙ so)) ∙ c.loop-slot.invariant logs genesis approves keeps

pub returns-then-not-branch : goal.returns-then-not-branch
returns-then-not-branch c logs genesis approves keeps =
    let setup : Setup = deployed_setup c.args.config.now genesis approves in
    let lacks : c.in_ok-is_supported.field-0 ≡ false = search rules in
    ap (λ fault. Some fault) c.unsupported.ensures
    ∙ sym (unsupported-here setup logs c.args.shard c.loop-slot.slot c.as_slice-leaves.result.now c.index-leaves-slot.result c.loop-slot-test.true c.index-leaves-slot.is
    (sym (c.in_ok-is_supported.ensures logs genesis approves keeps) ∙ lacks)) ∙ c.loop-slot.invariant logs genesis approves keeps
    ∙ ap (unsupported setup logs c.args.shard 0) c.as_slice-leaves.ensures

pub returns : goal.returns
returns c logs genesis approves keeps =
    let setup : Setup = deployed_setup c.args.config.now genesis approves in
    none-unsupported setup logs c.args.shard c.loop-slot.slot c.as_slice-leaves.result.now c.loop-slot-test.false ∙ c.loop-slot.invariant logs genesis approves keeps
    ∙ ap (unsupported setup logs c.args.shard 0) c.as_slice-leaves.ensures
