use Rattle.std.proofs.Common.{◌≡◌, ◌∙◌, ◌<◌, List, Option, length, get_or, ap, subst}
use Rattle.cs_tx_types.specs.declared.leaf.Leaf.{Leaf}
use Rattle.cs_tx.specs.Digest.{digest_of_session}
use Rattle.cs_ledger.specs.Ledger.{Bytes}
use Rattle.cs_check_rules.specs.Chain.{empty_log}
use Rattle.cs_node_pool.specs.Deployed.{deployed_setup}
use Rattle.cs_audit_rules.specs.declared.verdict.Rule.{Rule}
use Rattle.cs_audit.specs.Standing.{stand_of, TellsLeaf}
use Rattle.cs_audit.proofs.Going.{goes_on, breaks}
use Rattle.cs_audit.proofs.logs.execute_log.Goals as goal

pub returns-in-Some : goal.returns-in-Some
returns-in-Some g c genesis =
    let approves = g.J.Judge.is_approved c.args.judge.now in
    let on = c.loop-slot.invariant in
    let leaf : Leaf = c.leaf-item.result in
    let leaves : List Leaf = c.args.log.now.leaves in
    let less : c.loop-slot.slot < length leaves = subst (λ (xs : List Leaf). c.loop-slot.slot < length xs) c.as_slice-leaf-items.ensures c.loop-slot-test.true in
    let is : leaf ≡ get_or leaves c.loop-slot.slot leaf = c.leaf-item.is ∙ ap (λ (xs : List Leaf). get_or xs c.loop-slot.slot leaf) c.as_slice-leaf-items.ensures in
    let T : List Bytes × Option Rule → Type 0 = λ x. TellsLeaf (deployed_setup c.loop-slot.stand.config genesis approves) on.executed x.0 leaf c.loop-slot.stand c.take.new.self x.1 in
    let tells = subst T (λ i. (c.as_slice.ensures i, c.in-Some.is i)) (c.in_ok-rule.ensures on.executed on.kept_is genesis) in
    breaks approves c.args.stand.now.config c.args.shard c.args.log.now (stand_of (empty_log c.args.shard) c.args.stand.now) c.args.votes.now genesis c.loop-slot.slot c.loop-slot.stand c.take.new.self c.loop-slot.digests c.loop-slot.votes c.loop-slot.votes leaf c.in-Some.rule c.fault.result
    on less is tells c.fault.ensures

pub loop-slot-preserved : goal.loop-slot-preserved
loop-slot-preserved g c =
    let approves = g.J.Judge.is_approved c.args.judge.now in
    let on = c.loop-slot.invariant in
    let leaf : Leaf = c.leaf-item.result in
    let leaves : List Leaf = c.args.log.now.leaves in
    let less : c.loop-slot.slot < length leaves = subst (λ (xs : List Leaf). c.loop-slot.slot < length xs) c.as_slice-leaf-items.ensures c.loop-slot-test.true in
    let is : leaf ≡ get_or leaves c.loop-slot.slot leaf = c.leaf-item.is ∙ ap (λ (xs : List Leaf). get_or xs c.loop-slot.slot leaf) c.as_slice-leaf-items.ensures in
    goes_on approves c.args.stand.now.config c.args.shard c.args.log.now (stand_of (empty_log c.args.shard) c.args.stand.now) c.args.votes.now c.loop-slot.slot c.loop-slot.stand c.take.new.self c.loop-slot.digests c.loop-slot.votes leaf c.in_ok-digest.digest c.push.new.self c.note.new.self
    on less is
    (λ genesis.
    let T : List Bytes × Option Rule → Type 0 = λ x. TellsLeaf (deployed_setup c.loop-slot.stand.config genesis approves) on.executed x.0 leaf c.loop-slot.stand c.take.new.self x.1 in
    subst T (λ i. (c.as_slice.ensures i, c.in-None.is i)) (c.in_ok-rule.ensures on.executed on.kept_is genesis))
    (c.in_ok-digest.ensures ∙ ap digest_of_session c.session.ensures.is) c.in_ok-push.ensures.ok c.in_ok-note.ensures
