use Rattle.std.proofs.Common.{◌≡◌, ◌∙◌, ◌++◌, List, Some, [], length, take, get_or, subst, refl}
use Rattle.std.specs.Prelude.{slice_get}
use Rattle.std.proofs.lemmas.Option.{slice_get_read}
use Rattle.cs_tx_types.specs.declared.leaf.Leaf.{Leaf}
use Rattle.cs_node_state.specs.Setup.{Setup}
use Rattle.cs_node_pool.specs.Deployed.{deployed_setup}
use Rattle.cs_audit.specs.Committed.{FindsTransactions}
use Rattle.cs_audit.proofs.Collecting.{place-of, leaf-more, committed_in, all-leaves, nothing-yet}
use Rattle.cs_audit.proofs.history.add_log.Goals as goal

pub loop-slot-preserved : goal.loop-slot-preserved
loop-slot-preserved c objects approves logs sessions keeps at finds =
    let setup : Setup = deployed_setup c.args.config.now objects approves in
    let slot = c.loop-slot.slot in
    let leaves : List Leaf = c.as_slice-leaves.result.now in
    let leaf : Leaf = c.index-leaves-slot.result in
    let is : leaf ≡ get_or leaves slot leaf = c.index-leaves-slot.is in
    let here : slice_get c.args.log.now.leaves slot ≡ Some leaf =
    subst (λ (xs : List Leaf). slice_get xs slot ≡ Some leaf) c.as_slice-leaves.ensures (slice_get_read leaves (length leaves) slot leaf refl c.loop-slot-test.true is) in
    leaf-more setup logs leaves slot leaf sessions c.add_leaf.new.found.entries c.loop-slot-test.true is
    (c.in_ok-add_leaf.ensures objects approves logs (sessions ++ committed_in setup logs (take slot leaves)) keeps (place-of logs c.args.shard slot c.args.log.now leaf at here) (c.loop-slot.invariant objects approves logs sessions keeps at finds))

pub loop-slot-init : goal.loop-slot-init
loop-slot-init c objects approves logs sessions keeps at finds = nothing-yet logs sessions c.args.found.now.entries finds

pub returns : goal.returns
returns c objects approves logs sessions keeps at finds =
    let setup : Setup = deployed_setup c.args.config.now objects approves in
    let leaves : List Leaf = c.as_slice-leaves.result.now in
    subst (λ (xs : List Leaf). FindsTransactions logs c.loop-slot.found.entries (sessions ++ committed_in setup logs xs) [])
    (all-leaves leaves c.loop-slot.slot c.loop-slot-test.false ∙ c.as_slice-leaves.ensures) (c.loop-slot.invariant objects approves logs sessions keeps at finds)
