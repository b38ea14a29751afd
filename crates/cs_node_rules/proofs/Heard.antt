-- What is said to a node makes few signs: nothing is executed, and an answer goes to whom it is said by.
use Rattle.std.proofs.Common.{◌≡◌, Bool, true, false, not, ◌==◌, List, [], ◌∷◌, Option, Some, None, refl}
use Rattle.cs_base.specs.Key.{shard_of_key}
use Rattle.cs_base.specs.declared.node_id.NodeId.{NodeId}
use Rattle.cs_base.specs.NodeId.{is_client}
use Rattle.cs_tx_types.specs.declared.session.Session.{Session}
use Rattle.cs_tx_types.specs.declared.vote.Vote.{Vote}
use Rattle.cs_tx_types.specs.declared.proof.Proof.{Proof}
use Rattle.cs_wire_message.specs.declared.message.Message.{Message}
use Rattle.cs_wire_message.specs.declared.message.Message.TheVariants as message
use Rattle.cs_check_rules.specs.Heads.{is_news}
use Rattle.cs_check_rules.specs.Proofs.{proof_of}
use Rattle.cs_node_state.specs.declared.pooled.Pooled.{Pooled}
use Rattle.cs_node_state.specs.Setup.{Setup, digest_of, is_concerned_shard, is_fit, is_session_approved}
use Rattle.cs_node_state.specs.Evidence.{has_voted}
use Rattle.cs_node_state.specs.Pool.{found, is_pooled, pool_has_room}
use Rattle.cs_node_state.specs.Bench.{Bench, decision_on, noted}
use Rattle.cs_node_state.specs.Asked.{key_asked}
use Rattle.cs_node_rules.specs.declared.cause.Cause.{Cause}
use Rattle.cs_node_rules.specs.Members.{is_other_member}
use Rattle.cs_node_rules.specs.Signs.{Sign, Dropped, Took, Entered, Viewed, Did, Headed, Kept, Sent, guarded, submitted_signs, asking_signs, ballot_signs, proof_signs, said_signs}

-- something was dropped, taken, entered or kept, or was sent to this one; and that is all
abbrev pub AllHeard : NodeId → List Sign → Type 0
AllHeard sender [] = Unit {0}
AllHeard sender (Dropped cause ∷ signs) = AllHeard sender signs
AllHeard sender (Took from vote x ∷ signs) = AllHeard sender signs
AllHeard sender (Entered x ∷ signs) = AllHeard sender signs
AllHeard sender (Viewed slot view ∷ signs) = ⊥
AllHeard sender (Did slot place entry effect ∷ signs) = ⊥
AllHeard sender (Headed number head ∷ signs) = ⊥
AllHeard sender (Kept index checkpoint ∷ signs) = AllHeard sender signs
AllHeard sender (Sent to said ∷ signs) = (to ≡ sender) × AllHeard sender signs

module _ (setup : Setup) (me : NodeId) (b : Bench) (sender : NodeId) where
  heard-guarded : (holds : Bool) (cause : Cause) (signs : List Sign) → AllHeard sender signs → AllHeard sender (guarded holds cause signs)
  heard-guarded true cause signs all = all
  heard-guarded false cause signs all = tt

  heard-submitted : (x : Session) (stands : Option Bool) → AllHeard sender (submitted_signs setup b sender x stands)
  heard-submitted x (Some accepted) = (refl, tt)
  heard-submitted x None =
      heard-guarded (not (is_pooled (digest_of setup x) b.pool)) _ _
      (heard-guarded (is_session_approved setup x) _ _ (heard-guarded (pool_has_room b.pool) _ _ tt))

  heard-asking : (vote : Vote) (asks : Bool) (x : Session) (known : Option Vote) → AllHeard sender (asking_signs setup b sender vote asks x known)
  heard-asking vote asks x (Some known) = heard-guarded asks _ _ (refl, tt)
  heard-asking vote asks x None =
      heard-guarded asks _ _ (heard-guarded (is_session_approved setup x) _ _ (heard-guarded (pool_has_room b.pool) _ _ tt))

  heard-ballot : (vote : Vote) (asks : Bool) (x : Session) (pooled : Option Pooled) → AllHeard sender (ballot_signs setup me.shard b sender vote asks x pooled)
  heard-ballot vote asks x (Some p) = heard-guarded (not (has_voted sender p.ballots)) _ _ tt
  heard-ballot vote asks x None = heard-asking vote asks x (noted setup me.shard b.table x)

  heard-proof : (proof : Option Proof) → AllHeard sender (proof_signs sender proof)
  heard-proof None = tt
  heard-proof (Some proof) = (refl, tt)

  pub heard : (said : Message) → AllHeard sender (said_signs setup me b sender said)
  heard (message.Submit x) =
      heard-guarded (is_client sender) _ _
      (heard-guarded (is_fit setup me.shard x) _ _ (heard-submitted x (decision_on setup me.shard b.table x)))
  heard (message.Ask asked) =
      heard-guarded (is_client sender) _ _
      (heard-guarded (shard_of_key setup.shards (key_asked b.table me.shard asked) == me.shard) _ _ (refl, tt))
  heard (message.AskProof slot place) = heard-guarded (is_client sender) _ _ (heard-proof (proof_of b.log slot))
  heard (message.Voted vote asks x) =
      heard-guarded (not (is_client sender)) _ _
      (heard-guarded (is_fit setup me.shard x) _ _
      (heard-guarded (is_concerned_shard setup x sender.shard) _ _ (heard-ballot vote asks x (found (digest_of setup x) b.pool))))
  heard (message.Head checkpoint) =
      heard-guarded (is_other_member setup.f me sender) _ _
      (heard-guarded (is_news sender.index checkpoint b.heads) _ _ tt)
  heard said = tt
