-- To whom a node sends: to others of its deployment, and to those who spoke to it.
use Rattle.std.proofs.Common.{◌≡◌, ℕ, zero, suc, ◌+◌, ◌*◌, ◌<◌, ◌≤◌, Bool, true, false, cond, List, [], ◌∷◌, ◌++◌, Option, Some, None, refl, sym, subst, arith}
use Rattle.std.proofs.lemmas.Bool.Decides.{nat_tests}
use Rattle.cs_base.specs.declared.config.Config.{Config}
use Rattle.cs_base.specs.declared.node_id.NodeId.{NodeId}
use Rattle.cs_base.specs.NodeId.{is_node, same_name, members_below}
use Rattle.cs_tx_types.specs.declared.session.Session.{Session}
use Rattle.cs_tx_types.specs.declared.vote.Vote.{Vote}
use Rattle.cs_tx_types.specs.declared.vote.Vote.TheVariants.{Commit}
use Rattle.cs_tx_types.specs.declared.action.Action.{Action}
use Rattle.cs_tx_types.specs.declared.entry.Entry.{Entry}
use Rattle.cs_wire_message.specs.declared.message.Message.{Message}
use Rattle.cs_wire_message.specs.declared.message.Message.TheVariants as message
use Rattle.cs_node_state.specs.Setup.{Setup, digest_of, is_concerned_shard, concerned, concerned_below}
use Rattle.cs_tx_types.specs.Session.{session_in}
use Rattle.cs_node_rules.specs.Members.{members, except, others}
use Rattle.cs_node_state.specs.Pool.{Pool, is_pooled}
use Rattle.cs_node_state.specs.Bench.{Bench, Ran, executed, vote_told}
use Rattle.cs_node_rules.proofs.Heard.{AllHeard}
use Rattle.cs_tx_types.specs.declared.checkpoint.Checkpoint.{Checkpoint}
use Rattle.cs_check_rules.specs.Chain.{head_of, made_last}
use Rattle.cs_node_rules.specs.Signs.{Sign, Dropped, Took, Entered, Viewed, Did, Headed, Kept, Sent, sends, vote_signs, own_signs, entered_signs, ran_signs, headed_signs, actions_signs, execution_signs, bench_after, asked_again}

module _ (Peer : NodeId → Type 0) where
  -- all that is sent goes to a peer
  abbrev pub AllTo : List Sign → Type 0
  AllTo [] = Unit {0}
  AllTo (Dropped cause ∷ past) = AllTo past
  AllTo (Took sender vote x ∷ past) = AllTo past
  AllTo (Entered x ∷ past) = AllTo past
  AllTo (Viewed slot view ∷ past) = AllTo past
  AllTo (Headed number head ∷ past) = AllTo past
  AllTo (Kept index checkpoint ∷ past) = AllTo past
  AllTo (Did slot place entry effect ∷ past) = AllTo past
  AllTo (Sent to message ∷ past) = Peer to × AllTo past

  abbrev pub ArePeers : List NodeId → Type 0
  ArePeers [] = Unit {0}
  ArePeers (name ∷ names) = Peer name × ArePeers names

  pub to-append : (new old : List Sign) → AllTo new → AllTo old → AllTo (new ++ old)
  to-append [] old a b = b
  to-append (Dropped cause ∷ new) old a b = to-append new old a b
  to-append (Took sender vote x ∷ new) old a b = to-append new old a b
  to-append (Entered x ∷ new) old a b = to-append new old a b
  to-append (Viewed slot view ∷ new) old a b = to-append new old a b
  to-append (Headed number head ∷ new) old a b = to-append new old a b
  to-append (Kept index checkpoint ∷ new) old a b = to-append new old a b
  to-append (Did slot place entry effect ∷ new) old a b = to-append new old a b
  to-append (Sent to message ∷ new) old a b = (a.0, to-append new old a.1 b)

  to-sends : (names : List NodeId) (m : Message) → ArePeers names → AllTo (sends names m)
  to-sends [] m peers = tt
  to-sends (to ∷ more) m peers = to-append (sends more m) (Sent to m ∷ []) (to-sends more m peers.1) (peers.0, tt)

  -- what is said to a node, but for its order, is answered to its sender
  pub to-heard : (sender : NodeId) (signs : List Sign) → AllHeard sender signs → Peer sender → AllTo signs
  to-heard sender [] all peer = tt
  to-heard sender (Dropped cause ∷ signs) all peer = to-heard sender signs all peer
  to-heard sender (Took from vote x ∷ signs) all peer = to-heard sender signs all peer
  to-heard sender (Entered x ∷ signs) all peer = to-heard sender signs all peer
  to-heard sender (Viewed slot view ∷ signs) all peer = absurd all
  to-heard sender (Did slot place entry effect ∷ signs) all peer = absurd all
  to-heard sender (Headed number head ∷ signs) all peer = absurd all
  to-heard sender (Kept index checkpoint ∷ signs) all peer = to-heard sender signs all peer
  to-heard sender (Sent to said ∷ signs) all peer = (subst Peer (sym all.0) peer, to-heard sender signs all.1 peer)

  -- ---- the nodes of some shards

  module _ (config : Config) (me : NodeId) (others_too : (to : NodeId) → is_node config to ≡ true → same_name to me ≡ false → Peer to) where
    abbrev AreNodes : List NodeId → Type 0
    AreNodes [] = Unit {0}
    AreNodes (name ∷ names) = (is_node config name ≡ true) × AreNodes names

    nodes-append : (xs ys : List NodeId) → AreNodes xs → AreNodes ys → AreNodes (xs ++ ys)
    nodes-append [] ys a b = b
    nodes-append (x ∷ xs) ys a b = (a.0, nodes-append xs ys a.1 b)

    nodes-below : (shard n : ℕ) → shard < config.shards → n ≤ 3 * config.f + 1 → AreNodes (members_below shard n)
    nodes-below shard zero low few = tt
    nodes-below shard (suc n) low few =
        let is : is_node config (record { shard = shard; index = n }) ≡ true = grind (arith, nat_tests) in
        nodes-append (members_below shard n) (record { shard = shard; index = n } ∷ []) (nodes-below shard n low (omega arith)) (is, tt)

    abbrev pub AreShards : List ℕ → Type 0
    AreShards [] = Unit {0}
    AreShards (shard ∷ shards) = (shard < config.shards) × AreShards shards

    nodes-of : (shards : List ℕ) → AreShards shards → AreNodes (members config.f shards)
    nodes-of [] low = tt
    nodes-of (shard ∷ shards) low =
        nodes-append (members_below shard (3 * config.f + 1)) (members config.f shards) (nodes-below shard (3 * config.f + 1) low.0 (omega arith)) (nodes-of shards low.1)

    all-but : (names : List NodeId) → AreNodes names → ArePeers (except me names)
    all-but [] nodes = tt
    all-but (name ∷ names) nodes = by_same (all-but names nodes.1) (same_name name me) refl
      where
        by_same : ArePeers (except me names) → (same : Bool) → same_name name me ≡ same → ArePeers (cond same (except me names) (name ∷ except me names))
        by_same rest true is = rest
        by_same rest false is = (others_too name nodes.0 is, rest)

    to-others : (shards : List ℕ) (m : Message) → AreShards shards → AllTo (sends (others config.f me shards) m)
    to-others shards m low = to-sends (others config.f me shards) m (all-but (members config.f shards) (nodes-of shards low))

    module _ (setup : Setup) (same_f : setup.f ≡ config.f) (same_shards : setup.shards ≡ config.shards) where
      pub to-all : (shards : List ℕ) (m : Message) → AreShards shards → AllTo (sends (others setup.f me shards) m)
      to-all shards m low = subst (λ n. AllTo (sends (others n me shards) m)) (sym same_f) (to-others shards m low)

      shards-append : (xs ys : List ℕ) → AreShards xs → AreShards ys → AreShards (xs ++ ys)
      shards-append [] ys a b = b
      shards-append (x ∷ xs) ys a b = (a.0, shards-append xs ys a.1 b)

      concerned-are : (x : Session) (n : ℕ) → n ≤ config.shards → AreShards (concerned_below setup x n)
      concerned-are x zero few = tt
      concerned-are x (suc n) few =
          shards-append (concerned_below setup x n) (if_one (is_concerned_shard setup x n)) (concerned-are x n (omega arith)) (by_one (is_concerned_shard setup x n))
        where
          if_one : Bool → List ℕ
          if_one one = cond one (n ∷ []) []

          by_one : (one : Bool) → AreShards (if_one one)
          by_one true = (omega arith, tt)
          by_one false = tt

      to-voters : (x : Session) (told : Option (Vote × Bool)) → AllTo (vote_signs setup me x told)
      to-voters x None = tt
      to-voters x (Some told) = to-all (concerned setup x) (message.Voted told.0 told.1 x) (concerned-are x setup.shards (omega (arith, same_shards)))

      -- ---- executions and ticks

      to-headed : me.shard < config.shards → (made : Option Checkpoint) → AllTo (headed_signs setup me made)
      to-headed low None = tt
      to-headed low (Some c) =
          to-append (sends (others setup.f me (me.shard ∷ [])) (message.Head c)) (Headed c.number (head_of c) ∷ [])
          (to-all (me.shard ∷ []) (message.Head c) (low, tt)) tt

      to-ran : (b : Bench) (slot place : ℕ) (entry : Action) → AllTo (ran_signs setup me b slot place entry (session_in entry) (executed setup me.shard b entry))
      to-ran b slot place entry =
          let x : Session = session_in entry in
          let ran : Ran = executed setup me.shard b entry in
          let told : Option (Vote × Bool) = vote_told setup me.shard x ran in
          let pooled : Bool = is_pooled (digest_of setup x) b.pool in
          to-append (own_signs me x told) _ (by_own x told)
          (to-append (vote_signs setup me x told) _ (to-voters x told) (to-append (entered_signs x pooled told) (Did slot place entry ran.effect ∷ []) (by_entered x pooled told) tt))
        where
          by_own : (x : Session) (told : Option (Vote × Bool)) → AllTo (own_signs me x told)
          by_own x None = tt
          by_own x (Some (vote, true)) = tt
          by_own x (Some (vote, false)) = tt

          by_entered : (x : Session) (pooled : Bool) (told : Option (Vote × Bool)) → AllTo (entered_signs x pooled told)
          by_entered x pooled None = tt
          by_entered x pooled (Some (vote, false)) = tt
          by_entered x true (Some (vote, true)) = tt
          by_entered x false (Some (vote, true)) = tt

      to-actions : (b : Bench) (slot place : ℕ) (actions : List Action) → AllTo (actions_signs setup me b slot place actions)
      to-actions b slot place [] = tt
      to-actions b slot place (action ∷ more) =
          let signs = ran_signs setup me b slot place action (session_in action) (executed setup me.shard b action) in
          let left = bench_after setup me.shard signs b in
          to-append (actions_signs setup me left slot (suc place) more) signs (to-actions left slot (suc place) more) (to-ran b slot place action)

      pub to-execution : me.shard < config.shards → (b : Bench) (slot : ℕ) (entry : Entry) → AllTo (execution_signs setup me b slot entry)
      to-execution low b slot entry =
          let signs = actions_signs setup me b slot 0 entry.actions in
          let made = made_last (bench_after setup me.shard signs b).log in
          to-append (headed_signs setup me made) signs (to-headed low made) (to-actions b slot 0 entry.actions)

      pub to-asked : (pool : Pool) → AllTo (asked_again setup me pool)
      to-asked [] = tt
      to-asked (e ∷ pool) = to-append (asked_again setup me pool) (if_locked e.1.locked) (to-asked pool) (by_locked e.1.locked)
        where
          if_locked : Bool → List Sign
          if_locked locked = cond locked (vote_signs setup me e.1.session (Some (Commit, true))) []

          by_locked : (locked : Bool) → AllTo (if_locked locked)
          by_locked true = to-voters e.1.session (Some (Commit, true))
          by_locked false = tt
