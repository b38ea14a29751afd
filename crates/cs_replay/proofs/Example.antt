-- A shard of four nodes of which one lies: it says a Want, time passes, and what was sent comes. Every promise holds of it.
use Rattle.std.proofs.Common.{◌≡◌, ℕ, zero, suc, ◌+◌, ◌==◌, ◌≤◌, Bool, true, false, cond, List, [], ◌∷◌, refl, arith}
use Rattle.std.specs.List.{All}
use Rattle.cs_base.specs.Fields.{IsBytes}
use Rattle.cs_base.specs.NodeId.{is_node}
use Rattle.cs_base.specs.declared.node_id.NodeId.{NodeId}
use Rattle.cs_tx_types.specs.declared.transaction.Tx.{Tx}
use Rattle.cs_sched.specs.declared.schedule.Schedule.{Schedule}
use Rattle.cs_sched.specs.declared.schedule.Event.{Event}
use Rattle.cs_sched.specs.declared.schedule.Event.TheVariants.{Say, Tick, Drain}
use Rattle.cs_tx_value.specs.Object.{ObjectFits}
use Rattle.cs_tx.specs.Token.{is_token_approved}
use Rattle.cs_sched.specs.Naming.{liars_of}
use Rattle.cs_sched.specs.Playable.{IsHonest, IsPlayableSay, IsPlayableEvent, IsContractText, IsPlayable}
use Rattle.cs_replay.specs.Sound.{IsSound}

abbrev node : ℕ → NodeId
node index = record { shard = 0; index = index }

abbrev zeros : List ℕ
zeros = 0 ∷ 0 ∷ 0 ∷ 0 ∷ 0 ∷ 0 ∷ 0 ∷ 0 ∷ []

-- node 0.3 lies
abbrev lying_member : Schedule
lying_member = record {
  config = record { shards = 1; f = 1; dummies = 4; version = 1; some_shard = omega arith; few_shards = omega arith; few_liars = omega arith; few_dummies = omega arith; some_version = omega arith; few_versions = omega arith };
  master = zeros;
  liars = node 3 ∷ [];
  contracts = [];
  genesis = [];
  events = (1, Say (node 3) (node 0) 8 zeros) ∷ (2, Tick (node 0)) ∷ (3, Drain 12) ∷ [];
}

zero_bytes : IsBytes zeros
zero_bytes zero = omega arith
zero_bytes (suc zero) = omega arith
zero_bytes (suc (suc zero)) = omega arith
zero_bytes (suc (suc (suc zero))) = omega arith
zero_bytes (suc (suc (suc (suc zero)))) = omega arith
zero_bytes (suc (suc (suc (suc (suc zero))))) = omega arith
zero_bytes (suc (suc (suc (suc (suc (suc zero)))))) = omega arith
zero_bytes (suc (suc (suc (suc (suc (suc (suc zero))))))) = omega arith
zero_bytes (suc (suc (suc (suc (suc (suc (suc (suc i)))))))) = omega arith

one : (b : Bool) → 0 + cond b 1 0 ≤ 1
one true = omega arith
one false = omega arith

few : (shard : ℕ) → liars_of (node 3 ∷ []) shard ≤ 1
few shard = one (0 == shard)

none : {A : Type 0} (P : A → Type 0) → All P []
none P k d within = absurd (omega arith)

more : {A : Type 0} (P : A → Type 0) (x : A) (xs : List A) → P x → All P xs → All P (x ∷ xs)
more P x xs first rest zero d within = first
more P x xs first rest (suc k) d within = rest k d (omega arith)

abbrev MayStand : ℕ × Event → Type 0
MayStand numbered = IsPlayableEvent lying_member.config lying_member.liars numbered.1

honest : IsHonest lying_member.config lying_member.liars (node 0)
honest = record { node = refl; honest = refl }

said : IsPlayableSay lying_member.config lying_member.liars (node 3) (node 0) 8 zeros
said = record { speaker = record { named = refl; speaks = refl }; listener = honest; kind = omega arith; short = omega arith; in_bytes = zero_bytes }

-- it can be played
playable : IsPlayable lying_member
playable = record {
  some_shard = omega arith;
  few_shards = omega arith;
  few_faulty = omega arith;
  version = refl;
  liars = more (λ name. is_node lying_member.config name ≡ true) (node 3) [] refl (none (λ name. is_node lying_member.config name ≡ true));
  few_liars = few;
  liars_differ = λ i j d below within. absurd (omega arith);
  contracts = none IsContractText;
  few_contracts = omega arith;
  objects = none ObjectFits;
  few_objects = omega arith;
  keys_differ = λ i j d below within. absurd (omega arith);
  events = more MayStand (1, Say (node 3) (node 0) 8 zeros) ((2, Tick (node 0)) ∷ (3, Drain 12) ∷ []) said (more MayStand (2, Tick (node 0)) ((3, Drain 12) ∷ []) honest (more MayStand (3, Drain 12) [] (omega arith) (none MayStand)));
}

-- so what is true of every schedule is true of it
instance : ((approves : Tx → Bool) (schedule : Schedule) → IsPlayable schedule → IsSound approves schedule) → IsSound is_token_approved lying_member
instance sound = sound is_token_approved lying_member playable
