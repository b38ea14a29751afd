-- The log of a node is that of its executions, and so is what its checkpoints cover.
use Rattle.std.proofs.Common.{ℕ, ◌<◌, ◌^◌, List, map, sym, ◌∙◌, subst, arith}
use Rattle.cs_check_rules.specs.Chain.{checkpoint_of}
use Rattle.cs_check_rules.specs.Shown.{Shows, NoProofCollision}
use Rattle.cs_ledger.specs.Ledger.{Bytes}
use Rattle.cs_node_rules.specs.World.{trail_of, view_of, firsts_of}
use Rattle.cs_world_law.specs.Steps.{executions_of}
use Rattle.cs_world_law.proofs.Logged.{entry_at, leaves-kept}
use Rattle.cs_world_law.proofs.Headed.{IsHead, got-in, are-covered}
use Rattle.cs_world_law.proofs.SameHeads.{LogBy, head-by}
use Rattle.cs_world_law.proofs.Whole.{place, At, by-node, sound, alone-in, made, executed, follow, lawful-here}
use Rattle.cs_world_law.proofs.heads.heads_show_executions.Goals as goal

pub returns-clause-kept : goal.returns-clause-kept
returns-clause-kept g c carrier carries config net genesis approves world few small is_net is_world =
    let rules = g.O.Order.rules in
    let p = place rules g.met.O.Order.law g.met.O.Order.holds c.marks_are_made.ensures.made carrier carries config net genesis approves world few small is_net is_world in
    λ first i hi.
    let some = by-node rules p i hi in
    leaves-kept (At rules p) i (alone-in rules p some first) (trail_of i world) (made rules p some i)

pub returns-clause-shown : goal.returns-clause-shown
returns-clause-shown g c carrier carries config net genesis approves world few small is_net is_world =
    let rules = g.O.Order.rules in
    let p = place rules g.met.O.Order.law g.met.O.Order.holds c.marks_are_made.ensures.made carrier carries config net genesis approves world few small is_net is_world in
    let site = At rules p in
    λ first i number head proof hi slots noted fits apart shows.
    let some = by-node rules p i hi in
    let c_of = checkpoint_of (view_of site world i).bench.log number in
    let low : i.shard < 2 ^ 16 = (let shard = (sound rules p some).shard i hi in omega (arith, shard, few)) in
    let v = are-covered site i (alone-in rules p some first) (trail_of i world) (made rules p some i) (λ entry e. (executed rules p some i entry e).fits) slots low number head noted in
    let apart_here = subst (λ (l : List (List ℕ)). NoProofCollision c_of l proof) v.is apart in
    let shows_here = subst (λ (h : Bytes). Shows h proof) (sym v.head_is) shows in
    let there = c.shown_leaf_is_covered.ensures.leaf c_of v.part proof v.fit v.over fits apart_here shows_here in
    v.within proof.leaf (got-in v.part proof.place proof.leaf there)

pub returns-clause-agreed : goal.returns-clause-agreed
returns-clause-agreed g c carrier carries config net genesis approves world few small is_net is_world apart =
    let rules = g.O.Order.rules in
    let p = place rules g.met.O.Order.law g.met.O.Order.holds c.marks_are_made.ensures.made carrier carries config net genesis approves world few small is_net is_world in
    let site = At rules p in
    let Here : ℕ → ℕ → Bytes → Type 0 = λ shard number head. IsHead (LogBy site.setup shard (map entry_at (executions_of shard (firsts_of world)))) number head in
    λ i j number a b hi hj same of_i of_j.
    let some = by-node rules p i hi in
    let logs = follow rules p some (lawful-here rules p some apart) in
    let first : Here i.shard number a = head-by site i (trail_of i world) (executions_of i.shard (firsts_of world)) (made rules p some i) (logs i hi) number a of_i in
    let second : Here j.shard number b = head-by site j (trail_of j world) (executions_of j.shard (firsts_of world)) (made rules p some j) (logs j hj) number b of_j in
    sym first.is ∙ (subst (λ (shard : ℕ). Here shard number b) (sym same) second).is
