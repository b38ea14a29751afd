use Rattle.std.proofs.Common.{◌≡◌, Bool, Some, refl, ap, sym, subst, ◌∙◌}
use Rattle.cs_tx_types.specs.declared.transaction.Tx.{Tx}
use Rattle.cs_node_pool.specs.Deployed.{deployed_setup}
use Rattle.cs_node.specs.Proposals.{pool_admits}
use Rattle.cs_node.proofs.Candidates.{passed-over, taken-up}
use Rattle.cs_node.proofs.engine.first_admitted.Goals as goal

pub loop-proposed-init : goal.loop-proposed-init
loop-proposed-init g c = record { judge = refl; rest = λ genesis. refl }

pub loop-proposed-preserved : goal.loop-proposed-preserved
loop-proposed-preserved g c =
    let held = c.args.sbac.now in
    record {
      judge = c.in_ok-admits_proposed.ensures.judge ∙ c.loop-proposed.invariant.judge;
      rest = λ genesis.
          let Says : (Tx → Bool) → Type 0 = λ approves. c.in_ok-admits_proposed.field-0 ≡ pool_admits (deployed_setup held.config genesis approves) held.me.shard held.pool c.proposed-item.result in
          c.loop-proposed.invariant.rest genesis
          ∙ passed-over (deployed_setup held.config genesis (g.J.Judge.is_approved c.args.judge.now)) held.me.shard held.pool c.args.candidates.now c.as_slice-proposed-items.result.now c.loop-proposed.proposed-index c.proposed-item.result c.in_ok-admits_proposed.field-0
          c.as_slice-proposed-items.ensures c.loop-proposed-test.true c.proposed-item.is (subst Says (ap g.J.Judge.is_approved c.loop-proposed.invariant.judge) (c.in_ok-admits_proposed.ensures.admits genesis)) c.if-branch.false;
    }

pub returns-then-branch-clause-first : goal.returns-then-branch-clause-first
returns-then-branch-clause-first g c = λ genesis.
    let held = c.args.sbac.now in
    let Says : (Tx → Bool) → Type 0 = λ approves. c.in_ok-admits_proposed.field-0 ≡ pool_admits (deployed_setup held.config genesis approves) held.me.shard held.pool c.proposed-item.result in
    ap (λ p. Some p) c.in_ok-copy.ensures
    ∙ sym (c.loop-proposed.invariant.rest genesis
    ∙ taken-up (deployed_setup held.config genesis (g.J.Judge.is_approved c.args.judge.now)) held.me.shard held.pool c.args.candidates.now c.as_slice-proposed-items.result.now c.loop-proposed.proposed-index c.proposed-item.result c.in_ok-admits_proposed.field-0
    c.as_slice-proposed-items.ensures c.loop-proposed-test.true c.proposed-item.is (subst Says (ap g.J.Judge.is_approved c.loop-proposed.invariant.judge) (c.in_ok-admits_proposed.ensures.admits genesis)) c.if-branch.true)
