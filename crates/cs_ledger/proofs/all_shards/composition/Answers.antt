-- The theorem is what the invariants of the world say.
use Rattle.std.proofs.Common.{◌≡◌, refl, subst}
use Rattle.cs_base.specs.Lists.{IsIn}
use Rattle.cs_ledger.specs.Ledger.{genesis_ledger, names}
use Rattle.cs_ledger.specs.Session.{all_items}
use Rattle.cs_ledger.specs.Table.{Commit, Abort, Accepted, Aborted}
use Rattle.cs_ledger.specs.ShardWorld.{sessions}
use Rattle.cs_ledger.proofs.Names.{at_some, item_named}
use Rattle.cs_ledger.proofs.States.{free_readable}
use Rattle.cs_ledger.proofs.Votes.{one_vote, no_both, among_some}
use Rattle.cs_ledger.proofs.Decisions.{decided_behind, votes_concern, all_concerned}
use Rattle.cs_ledger.proofs.Spent.{spent_once}
use Rattle.cs_ledger.proofs.Committed.{world, is_listed, no_abort_vote, no_abort}
use Rattle.cs_ledger.proofs.all_shards.composition.Goals as goal

pub returns-clause-one_vote : goal.returns-clause-one_vote
returns-clause-one_vote c rules past w x k shard v u e f =
    one_vote rules (sessions past) w.1.session past (world rules past w).facts x k shard v u e f

pub returns-clause-one_decision : goal.returns-clause-one_decision
returns-clause-one_decision c rules past w x k here there e f =
    let a = decided_behind rules (sessions past) w.1.session x k here Accepted Commit refl past w.0 (λ z i. i) e in
    let b = decided_behind rules (sessions past) w.1.session x k there Aborted Abort refl past w.0 (λ z i. i) f in
    no_both rules (sessions past) w.1.session past (world rules past w).facts x k a.1 b.1

pub returns-clause-no_late_abort : goal.returns-clause-no_late_abort
returns-clause-no_late_abort c rules past w x k here there e f =
    let a = decided_behind rules (sessions past) w.1.session x k here Accepted Commit refl past w.0 (λ z i. i) e in
    let among = votes_concern rules (sessions past) w.1.session x k there Abort past w.0 (λ z i. i) f in
    let commit = all_concerned rules past x Commit there (all_items x.transaction) a.1 among in
    let same : Commit ≡ Abort = one_vote rules (sessions past) w.1.session past (world rules past w).facts x k there Commit Abort commit f in
    cc

pub returns-clause-serial : goal.returns-clause-serial
returns-clause-serial c rules past w = (world rules past w).story.told.serial

pub returns-clause-spent_once : goal.returns-clause-spent_once
returns-clause-spent_once c rules past w =
    spent_once (genesis_ledger rules.genesis) _
    (λ name object e. let i = at_some rules.genesis name object e in
    subst (λ n. IsIn n (names rules.genesis)) i.2 (item_named i.0 rules.genesis i.1))
    (world rules past w).story.told.serial

pub returns-clause-accepted : goal.returns-clause-accepted
returns-clause-accepted c rules past w x k shard e =
    let a = decided_behind rules (sessions past) w.1.session x k shard Accepted Commit refl past w.0 (λ z i. i) e in
    (world rules past w).story.listed x k (a.1, among_some rules shard (all_items x.transaction) a.0)

pub returns-clause-objects : goal.returns-clause-objects
returns-clause-objects c rules past w shard name object e =
    ((world rules past w).story.covered shard).active_is name object (free_readable _ object e)

pub returns-clause-complete : goal.returns-clause-complete
returns-clause-complete c rules past w x k shard among all = is_listed rules past w x k all shard among

pub returns-clause-no_abort : goal.returns-clause-no_abort
returns-clause-no_abort c rules past w x k all shard =
    (no_abort_vote rules past w x k all shard, no_abort rules past w x k all shard)
