use Rattle.std.proofs.Common.{◌≡◌, ◌∙◌, ◌&&◌, sym, ap, subst, true, false, nat_eq, option_copied, rules}
use Rattle.std.specs.List.{list_any}
use Rattle.cs_node_state.specs.Setup.{Setup, is_concerned_shard, concerned}
use Rattle.cs_node_state.specs.Pool.{found}
use Rattle.cs_node_state.specs.Evidence.{is_decided}
use Rattle.cs_node_state.specs.Admission.{is_decided_in}
use Rattle.cs_tx.specs.Digest.{digest_of_session}
use Rattle.cs_sbac.specs.Held.{Held}
use Rattle.cs_node_pool.specs.Deployed.{deployed_setup}
use Rattle.cs_sbac.proofs.Concerned.{contains-concerned, in_range}
use Rattle.cs_sbac.proofs.Settings.{known-formed, known-named}
use Rattle.cs_sbac.proofs.sbac.Sbac.admits_decide.Goals as goal

pub returns-then-not-contains : goal.returns-then-not-contains
returns-then-not-contains c genesis approves =
    let no : c.contains.result ≡ false = search rules in
    let setup : Setup = deployed_setup c.self.inside.config genesis approves in
    let shard = c.self.inside.me.shard in
    let has : c.contains.result ≡ is_concerned_shard setup c.args.session.now shard =
    c.contains.ensures.value
    ∙ ap (list_any (λ s. nat_eq s shard)) (c.as_slice.ensures.value ∙ c.in_ok-shards.ensures genesis approves)
    ∙ contains-concerned c.self.inside.config genesis approves c.args.session.now shard (in_range c.self.inside.config c.self.inside.me c.self.invariant.node) in
    let Says : Held → Type 0 = λ held. false ≡ (is_concerned_shard (deployed_setup held.config genesis approves) c.args.session.now held.me.shard
    && is_decided_in held.config.f (concerned (deployed_setup held.config genesis approves) c.args.session.now) c.args.vote (found (digest_of_session c.args.session.now) held.pool)) in
    subst Says c.self.view_is
    (ap (λ b. b && is_decided_in c.self.inside.config.f (concerned setup c.args.session.now) c.args.vote (found (digest_of_session c.args.session.now) c.self.inside.pool.sessions)) (sym no ∙ has))

pub returns : goal.returns
returns c genesis approves =
    let yes : c.contains.result ≡ true = search rules in
    let setup : Setup = deployed_setup c.self.inside.config genesis approves in
    let shard = c.self.inside.me.shard in
    let f = c.self.inside.config.f in
    let has : c.contains.result ≡ is_concerned_shard setup c.args.session.now shard =
    c.contains.ensures.value
    ∙ ap (list_any (λ s. nat_eq s shard)) (c.as_slice.ensures.value ∙ c.in_ok-shards.ensures genesis approves)
    ∙ contains-concerned c.self.inside.config genesis approves c.args.session.now shard (in_range c.self.inside.config c.self.inside.me c.self.invariant.node) in
    let carried : c.is_decided.result ≡ is_decided_in f (concerned setup c.args.session.now) c.args.vote (found (digest_of_session c.args.session.now) c.self.inside.pool.sessions) =
    c.is_decided.ensures
    ∙ (λ i. is_decided f ((c.as_slice-in-Some.ensures.value ∙ c.in_ok-shards.ensures genesis approves) i) c.args.vote (c.as_slice-in-Some-2.ensures i))
    ∙ ap (is_decided_in f (concerned setup c.args.session.now) c.args.vote) (sym (ap option_copied c.in-Some.is) ∙ c.in_ok-pooled.ensures ∙ ap (λ d. found d c.self.inside.pool.sessions) c.in_ok-digest.ensures) in
    let Says : Held → Type 0 = λ held. c.is_decided.result ≡ (is_concerned_shard (deployed_setup held.config genesis approves) c.args.session.now held.me.shard
    && is_decided_in held.config.f (concerned (deployed_setup held.config genesis approves) c.args.session.now) c.args.vote (found (digest_of_session c.args.session.now) held.pool)) in
    subst Says c.self.view_is
    (carried ∙ ap (λ b. b && is_decided_in f (concerned setup c.args.session.now) c.args.vote (found (digest_of_session c.args.session.now) c.self.inside.pool.sessions)) (sym yes ∙ has))

pub concerned_shards-requires-clause-known : goal.concerned_shards-requires-clause-known
concerned_shards-requires-clause-known c = λ h.
    known-formed c.self.inside.config c.self.inside.pool.config c.args.session.now c.in_ok-known.known c.self.invariant.same c.in_ok-known.ensures.known (sym c.is_some.ensures ∙ h)

pub digest_of-requires-clause-known : goal.digest_of-requires-clause-known
digest_of-requires-clause-known c =
    known-named c.self.inside.config c.self.inside.pool.config c.args.session.now c.in_ok-known.known c.self.invariant.same c.in_ok-known.ensures.known
