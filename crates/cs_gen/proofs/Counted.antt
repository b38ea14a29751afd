-- The serial numbers of dummies.
use Rattle.std.proofs.Common.{◌≡◌, ℕ, zero, suc, ◌+◌, ◌*◌, ◌<◌, ◌≤◌, ◌^◌, ◌==◌, List, [], ◌∷◌, length, map, refl, ap, ◌∙◌, arith, add-one}
use Rattle.std.specs.Prelude.{count_by}
use Rattle.cs_tx_value.specs.Encoding.{AtMost}
use Rattle.std.specs.List.{AllByRecursion}
use Rattle.cs_tx_types.specs.Session.{DummyFits}
use Rattle.cs_gen.specs.Rounds.{round_tx, wanting_dummies, serial, dummies_of}
use Rattle.cs_gen.proofs.Shards.{AreBelow, wanting-below, wanting-few, wanting-counted}

pub serial-none : (state : ℕ) (worths : List ℕ) (shard : ℕ) → serial state worths shard 0 ≡ 0
unfolding serial
serial-none state worths shard = refl

-- behind one more round
pub serial-more : (state : ℕ) (worths : List ℕ) (shard n m : ℕ) → m ≡ n + 1
    → serial state worths shard m ≡ serial state worths shard n + count_by (λ other. other == shard) (wanting_dummies (round_tx state worths n))
unfolding serial
serial-more state worths shard n m is = ap (serial state worths shard) (is ∙ add-one n)

pub serial-few : (state : ℕ) (worths : List ℕ) (shard n : ℕ) → serial state worths shard n ≤ 3 * n
serial-few state worths shard zero = omega (arith, serial-none state worths shard)
serial-few state worths shard (suc n) =
    omega (arith, serial-more state worths shard n (suc n) (omega arith), serial-few state worths shard n, wanting-counted (λ other. other == shard) (round_tx state worths n))

numbered-fit : (serials : ℕ → ℕ) (shards : List ℕ) → ((shard : ℕ) → serials shard < 2 ^ 64) → AreBelow 3 shards → AllByRecursion DummyFits (map (λ shard. (shard, serials shard)) shards)
numbered-fit serials [] small below = tt
numbered-fit serials (shard ∷ shards) small below = ((omega (arith, below.0), small shard), numbered-fit serials shards small below.1)

abbrev with_serial : (ℕ → ℕ) → ℕ → ℕ × ℕ
with_serial serials shard = (shard, serials shard)

numbered-count : (serials : ℕ → ℕ) (shards : List ℕ) → length (map (with_serial serials) shards) ≡ length shards
numbered-count serials [] = refl
numbered-count serials (shard ∷ shards) = ap suc (numbered-count serials shards)

-- the dummies of one of so few rounds are within the limits
pub dummies_fit : (state : ℕ) (worths : List ℕ) (n : ℕ) → n < 2 ^ 32 → AtMost 15 DummyFits (dummies_of state worths n)
dummies_fit state worths n few =
    let shards = wanting_dummies (round_tx state worths n) in
    let serials : ℕ → ℕ = λ shard. serial state worths shard n in (
      omega (arith, numbered-count serials shards, wanting-few (round_tx state worths n)),
      numbered-fit serials shards (λ shard. omega (arith, few, serial-few state worths shard n)) (wanting-below (round_tx state worths n)),
    )

-- serial numbers that agree give the same dummies
pub same_dummies : (f g : ℕ → ℕ) (shards : List ℕ) → AreBelow 3 shards → ((shard : ℕ) → shard < 3 → f shard ≡ g shard) → map (with_serial f) shards ≡ map (with_serial g) shards
same_dummies f g [] below same = refl
same_dummies f g (shard ∷ shards) below same =
    ap (λ (n : ℕ). (shard, n) ∷ map (with_serial f) shards) (same shard below.0)
    ∙ ap (λ (dummies : List (ℕ × ℕ)). (shard, g shard) ∷ dummies) (same_dummies f g shards below.1 same)
