use Rattle.std.proofs.Common.{◌≡◌, ◌<◌, List, length, get_or, ap, subst, ◌∙◌, arith}
use Rattle.cs_base.specs.declared.node_id.NodeId.{NodeId}
use Rattle.cs_wire.specs.AllNames.{names_of}
use Rattle.cs_config.proofs.Named.{all_named}
use Rattle.cs_config.proofs.Filed.{nothing, named_at, saved-next, ended-there}
use Rattle.cs_config.proofs.saving.save_keys.Goals as goal

pub returns-in_err-names-clause-saved : goal.returns-in_err-names-clause-saved
returns-in_err-names-clause-saved g c =
    nothing c.args.site.now.config c.args.master.now (names_of c.args.site.now.config) c.from_residual.result (g.E.Store.files c.args.store.now) c.from_residual.ensures.1

pub save_one-requires : goal.save_one-requires
save_one-requires g c =
    let config = c.args.site.now.config in
    let items = c.as_slice-me-items.result.now in
    let i = c.loop-me.me-index in
    let none : NodeId = record { shard = 0; index = 0 } in
    let same : items ≡ names_of config = c.as_slice-me-items.ensures ∙ c.in_ok-names.ensures in
    let within : i < length (names_of config) = subst (λ (l : List NodeId). i < length l) same c.loop-me-test.true in
    named_at config c.args.master.now (names_of config) (all_named config) i (get_or items i none) none within (ap (λ (l : List NodeId). get_or l i none) same)

pub returns-in_err-save_one-clause-saved : goal.returns-in_err-save_one-clause-saved
returns-in_err-save_one-clause-saved g c =
    let config = c.args.site.now.config in
    let items = c.as_slice-me-items.result.now in
    let i = c.loop-me.me-index in
    let none : NodeId = record { shard = 0; index = 0 } in
    let same : items ≡ names_of config = c.as_slice-me-items.ensures ∙ c.in_ok-names.ensures in
    let within : i < length (names_of config) = subst (λ (l : List NodeId). i < length l) same c.loop-me-test.true in
    ended-there config c.args.master.now (names_of config) (all_named config) i (get_or items i none) none within (ap (λ (l : List NodeId). get_or l i none) same)
    c.in_err-save_one.field-0.0 c.from_residual-in_err-save_one.result (g.E.Store.files c.args.store.now) (g.E.Store.files c.loop-me.store) (g.E.Store.files c.save_one.new.store)
    c.from_residual-in_err-save_one.ensures.1 c.loop-me.invariant.saved c.in_err-save_one.ensures.saved

pub loop-me-preserved : goal.loop-me-preserved
loop-me-preserved g c =
    let config = c.args.site.now.config in
    let items = c.as_slice-me-items.result.now in
    let i = c.loop-me.me-index in
    let none : NodeId = record { shard = 0; index = 0 } in
    let same : items ≡ names_of config = c.as_slice-me-items.ensures ∙ c.in_ok-names.ensures in
    let within : i < length (names_of config) = subst (λ (l : List NodeId). i < length l) same c.loop-me-test.true in
    record {
      saved = saved-next config c.args.master.now (names_of config) (all_named config) i (get_or items i none) none within (ap (λ (l : List NodeId). get_or l i none) same)
          (g.E.Store.files c.args.store.now) (g.E.Store.files c.loop-me.store) (g.E.Store.files c.save_one.new.store) c.loop-me.invariant.saved c.in_ok-save_one.ensures.saved;
      faults = (let so_far = c.loop-me.invariant.faults in let later = c.in_ok-save_one.ensures.cause.later in omega arith);
    }
