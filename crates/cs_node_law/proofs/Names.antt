-- Names with the same fields are one.
use Rattle.std.proofs.Common.{◌≡◌, ℕ, true, refl}
use Rattle.std.specs.Prelude.{◌==◌}
use Rattle.std.proofs.lemmas.Bool.{and_parts, eqb-true}
use Rattle.cs_base.specs.declared.node_id.NodeId.{NodeId}
use Rattle.cs_base.specs.NodeId.{same_name}

pub name-same : (a b : NodeId) → same_name a b ≡ true → a ≡ b
name-same a b e =
    let h = and_parts (a.shard == b.shard) (a.index == b.index) e in
    let p : a.shard ≡ b.shard = eqb-true _ _ h.0 in
    let q : a.index ≡ b.index = eqb-true _ _ h.1 in
    fields a.shard a.index b.shard b.index p q
  where
    fields : (s i s2 i2 : ℕ) → s ≡ s2 → i ≡ i2 → ◌≡◌ {A = NodeId} (record { shard = s; index = i }) (record { shard = s2; index = i2 })
    fields s i s2 i2 p q = rw (p, q) refl
