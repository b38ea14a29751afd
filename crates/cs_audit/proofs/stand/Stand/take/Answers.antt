use Rattle.std.proofs.lemmas.Bool.{eq-eqb}
use Rattle.std.proofs.Common.{◌≡◌, ◌∙◌, true, false, [], sym, ap, nat_eq, length, arith, rules}
use Rattle.cs_tx_types.specs.declared.effect.Effect.{Effect}
use Rattle.cs_node_state.specs.Setup.{Setup, is_fit}
use Rattle.cs_tx_types.specs.Session.{session_in}
use Rattle.cs_node_pool.specs.Deployed.{deployed_setup}
use Rattle.cs_check_rules.specs.Chain.{KeptLog, kept_of}
use Rattle.cs_check.specs.Leaves.{Chained}
use Rattle.cs_audit_rules.specs.Slots.{is_judged}
use Rattle.cs_audit.specs.declared.stand.Stand.{Stand}
use Rattle.cs_audit.proofs.Leaves.{at_none, result_is, follows, head_is}
use Rattle.cs_audit.proofs.stand.Stand.take.Goals as goal

pub push-requires-clause-leaves : goal.push-requires-clause-leaves
push-requires-clause-leaves g c = (c.in_ok-effect.ensures [] (λ tx. false)).placed.leaves

pub returns : goal.returns
returns g c log kept_is genesis =
    let approves = g.J.Judge.is_approved c.args.judge.now in
    let setup : Setup = deployed_setup c.args.self.now.config genesis approves in
    let s : Stand = c.args.self.now in
    let mid : Stand = c.execute.new.self in
    let new : Stand = c.push.new.self in
    let leaf = c.args.leaf.now in
    let heads = c.args.heads.now in
    let effect : Effect = c.in_ok-effect.effect in
    let ran = c.in_ok-effect.ensures genesis approves in
    let here : mid.chain.kept ≡ kept_of log = ap (λ (x : Chained). x.kept) ran.chain_stays ∙ kept_is in
    let chain = c.in_ok-made.ensures.chain log here in
    let count = ap (λ (k : KeptLog). k.slots) kept_is in
    let slot : nat_eq leaf.slot (length log.leaves) ≡ true = eq-eqb leaf.slot (length log.leaves) (omega (arith, count)) in
    let fits : c.in_ok-is_fit.field-0 ≡ true = search rules in
    let form : is_fit setup s.shard (session_in leaf.action) ≡ true = sym (ap (is_fit setup s.shard) c.session.ensures.is) ∙ sym (c.in_ok-is_fit.ensures.fit genesis approves) ∙ fits in
    let judged : c.in_ok-is_judged.field-0 ≡ true = search rules in
    let judge : is_judged setup leaf.action ≡ true = sym (c.in_ok-is_judged.ensures c.args.self.now.config genesis) ∙ judged in
    let same : leaf.result ≡ effect = search rules in (
      at_none setup log heads leaf s slot form judge (result_is setup log heads leaf s mid effect ran same)
          (head_is setup log heads leaf s mid effect ran new c.in_ok-made.ensures.table c.in_ok-made.ensures.config c.in_ok-made.ensures.shard chain c.in_ok-made.ensures.leaves c.in_ok-made.made
          (c.in_ok-made.ensures.made log here) ∙ sym c.if-not-is_head.ensures),
      follows setup log heads leaf s mid effect ran new c.in_ok-made.ensures.table c.in_ok-made.ensures.config c.in_ok-made.ensures.shard chain c.in_ok-made.ensures.leaves,
    )
