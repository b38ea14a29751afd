-- A decision that is first executed and accepts has all commit votes before it.
use Rattle.std.proofs.Common.{◌≡◌, inl, ℕ, true, List, ◌∷◌, map, sym, ap, ◌∙◌, subst}
use Rattle.cs_base.specs.Lists.{IsIn}
use Rattle.cs_ledger.specs.Session as Seen
use Rattle.cs_ledger.specs.Session.{Rules, all_items}
use Rattle.cs_ledger.specs.Table.{Commit, Abort, Table, Entry, Decide, Voted, Accepted, Aborted, Outcome, exec, table_of, session_of}
use Rattle.cs_ledger.specs.ShardWorld.{log, all_commit, sessions, IsAllowed, AreNamedApart}
use Rattle.cs_ledger.proofs.Changes.{IsIdle, Nothing, Locks, Notes, Accepts, Aborts, change}
use Rattle.cs_ledger.proofs.Decisions.{all_concerned}
use Rattle.cs_node_state.specs.Setup.{entry_of}
use Rattle.cs_tx_types.specs.Session.{session_in}
use Rattle.cs_node_rules.specs.Site.{Site}
use Rattle.cs_node_rules.specs.World.{Execution, steps_of}
use Rattle.cs_world_law.specs.Steps.{IsComputed}
use Rattle.cs_world_law.specs.Chain.{Known}
use Rattle.cs_world_law.proofs.Allowed.{seen-session}
use Rattle.cs_world_law.proofs.Middle.{IsMiddle, voted-session, seen-there}

-- only a Decide commit is accepted
accepts-only : (rules : Rules) (shard : ℕ) (t : Table) (entry : Entry) → (exec rules shard t entry).effect ≡ Accepted → (x : Seen.Session) × (entry ≡ Decide x Commit)
accepts-only rules shard t entry e =
    elim (change rules shard t entry) [
      | Nothing same idle repeats ↦ absurd (subst IsIdle e idle)
      | Locks y key what is free ready to ↦ absurd (let q : Voted Commit ≡ Accepted = ap (λ (o : Outcome). o.effect) (sym to) ∙ e in cc)
      | Notes y key what is free to ↦ absurd (let q : Voted Abort ≡ Accepted = ap (λ (o : Outcome). o.effect) (sym to) ∙ e in cc)
      | Accepts y key what is held to ↦ (y, what)
      | Aborts y key what is held to ↦ absurd (let q : Aborted ≡ Accepted = ap (λ (o : Outcome). o.effect) (sym to) ∙ e in cc)
    ]

module _ {M : Type 0} (site : Site M) (known : Known) (apart : AreNamedApart site.setup.rules.genesis (map site.setup.session_of known.sessions)) (e : Execution) (earlier : List Execution) where
  -- the session that it accepts, of which the theorem on the shards together speaks
  pub record IsSettled : Type 0 where
    pub x : Seen.Session
    pub is : site.setup.session_of (session_in e.entry) ≡ x
    pub there : IsIn x (sessions (steps_of site.setup earlier))
    pub among : Seen.concerns site.setup.rules x e.shard ≡ true
    pub all : all_commit site.setup.rules (steps_of site.setup earlier) x ≡ true

  pub settled-before : IsMiddle site known (e ∷ earlier) → IsMiddle site known earlier → IsComputed site.setup earlier e → e.effect ≡ Accepted → IsSettled
  settled-before now before computed accepted =
      let rules = site.setup.rules in
      let steps = steps_of site.setup earlier in
      let own = accepts-only rules e.shard (table_of rules e.shard (log e.shard steps)) (entry_of site.setup e.entry) (sym computed.effect ∙ accepted) in
      let x = own.0 in
      let fine : IsAllowed rules steps e.shard (Decide x Commit) = subst (λ z. IsAllowed rules steps e.shard z) own.1 now.world_is.0.0 in
      let is : session_of (entry_of site.setup e.entry) ≡ x = ap (λ z. session_of z) own.1 in
      let votes = all_concerned rules steps x Commit e.shard (all_items x.transaction) fine.1 fine.0 in
      record {
        x = x;
        is = sym (seen-session site.setup e.entry) ∙ is;
        there = seen-there rules.genesis (map site.setup.session_of known.sessions) steps apart before.within x (now.within x (inl (sym is))) (voted-session rules e.shard x.digest Commit steps votes);
        among = fine.0;
        all = fine.1;
      }
