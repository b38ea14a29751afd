-- The laws of the forms of what is kept and proved of a shard's log.
use Rattle.std.proofs.Common.{◌≡◌, ℕ, zero, suc, ◌^◌, ◌<◌, ◌≤◌, ◌++◌, true, List, [], ◌∷◌, length, Some, refl, sym, ap, subst, arith}
use Rattle.std.specs.Prelude.{nat_le}
use Rattle.std.specs.Int.{w16, w64, to_be_bytes}
use Rattle.std.proofs.lemmas.Bool.{leb-true, le-leb}
use Rattle.std.proofs.lemmas.List.{length-append}
use Rattle.cs_base.specs.declared.limits.TheConstants.{LAST_SLOT}
use Rattle.cs_base.specs.declared.version.Version.{Version}
use Rattle.cs_base.specs.declared.version.Version.TheVariants.{One, Two}
use Rattle.cs_base.specs.Fields.{IsBytes, IsForm, Splits, Found}
use Rattle.cs_base.proofs.Forms.{wide16, wide64, number_form, byte_form, bytes_form, pair_of, counted_of, tested_of, mapped_of, weaker_form, some_is}
use Rattle.cs_tx_value.specs.laws.Kinds.{kinds_form, takes_bare, bare_kinded, Kinded}
use Rattle.cs_tx_types.specs.declared.limits.TheConstants.{COVERED, LAST_PLACE, LAST_BATCH_PLACE}
use Rattle.cs_tx_types.specs.declared.vote.Vote.TheVariants as vote
use Rattle.cs_tx_types.specs.declared.action.Action.{Action}
use Rattle.cs_tx_types.specs.declared.effect.Effect.{Effect}
use Rattle.cs_tx_types.specs.declared.effect.Effect.TheVariants.{Voted, Accepted, Aborted, Skipped, Void}
use Rattle.cs_tx_types.specs.declared.leaf.Leaf.{Leaf}
use Rattle.cs_tx_types.specs.Session.{action_encoding, ActionFits}
use Rattle.cs_tx_types.specs.laws.Session.{action_form, action_short}
use Rattle.cs_tx_types.specs.Sized.{sized}
use Rattle.cs_tx_types.specs.laws.Sized.{sized_of, length_sized}
use Rattle.cs_tx_types.specs.Log.{effect_encoding, effect_kind_at, effect_at, place_encoding, PlaceFits, place_at, leaves_encoding, LeavesFit, leaves_at, leaf_encoding, LeafFits, leaf_of, leaf_at, checkpoint_encoding, CheckpointFits, checkpoint_of_parts, checkpoint_at, slot_at, last_place, most_path, index_encoding, index_at, low_leaf_at, covered_at, proof_encoding, ProofFits, proof_of_parts, proof_at}

-- ---- what an execution came to

abbrev Any : Effect → Type 0
Any effect = Unit {0}

effect_takes : (kind : ℕ) (bytes : List ℕ) (e : Effect) (rest : List ℕ) → IsBytes bytes
    → effect_kind_at kind bytes ≡ Some (e, rest) → Splits (kind ∷ bytes) (effect_encoding e) rest × Any e
effect_takes zero bytes e rest fits is =
    takes_bare effect_encoding Any effect_kind_at (Voted vote.Abort) 0 refl tt bytes e rest fits is
effect_takes (suc zero) bytes e rest fits is =
    takes_bare effect_encoding Any effect_kind_at (Voted vote.Commit) 1 refl tt bytes e rest fits is
effect_takes (suc (suc zero)) bytes e rest fits is =
    takes_bare effect_encoding Any effect_kind_at Accepted 2 refl tt bytes e rest fits is
effect_takes (suc (suc (suc zero))) bytes e rest fits is =
    takes_bare effect_encoding Any effect_kind_at Aborted 3 refl tt bytes e rest fits is
effect_takes (suc (suc (suc (suc zero)))) bytes e rest fits is =
    takes_bare effect_encoding Any effect_kind_at Skipped 4 refl tt bytes e rest fits is
effect_takes (suc (suc (suc (suc (suc zero))))) bytes e rest fits is =
    takes_bare effect_encoding Any effect_kind_at Void 5 refl tt bytes e rest fits is
effect_takes (suc (suc (suc (suc (suc (suc kind)))))) bytes e rest fits is = absurd cc

effect_again : (e : Effect) (rest : List ℕ) → Any e → Kinded effect_encoding effect_kind_at e rest
effect_again (Voted vote.Abort) rest fits =
    bare_kinded effect_encoding Any effect_kind_at (Voted vote.Abort) 0 (omega arith) refl (λ bytes. refl) rest
effect_again (Voted vote.Commit) rest fits =
    bare_kinded effect_encoding Any effect_kind_at (Voted vote.Commit) 1 (omega arith) refl (λ bytes. refl) rest
effect_again Accepted rest fits =
    bare_kinded effect_encoding Any effect_kind_at Accepted 2 (omega arith) refl (λ bytes. refl) rest
effect_again Aborted rest fits =
    bare_kinded effect_encoding Any effect_kind_at Aborted 3 (omega arith) refl (λ bytes. refl) rest
effect_again Skipped rest fits =
    bare_kinded effect_encoding Any effect_kind_at Skipped 4 (omega arith) refl (λ bytes. refl) rest
effect_again Void rest fits =
    bare_kinded effect_encoding Any effect_kind_at Void 5 (omega arith) refl (λ bytes. refl) rest

pub effect_form : IsForm effect_encoding Any effect_at
effect_form = kinds_form effect_encoding Any effect_kind_at effect_takes effect_again

effect_one : (e : Effect) → length (effect_encoding e) ≡ 1
effect_one (Voted vote.Abort) = refl
effect_one (Voted vote.Commit) = refl
effect_one Accepted = refl
effect_one Aborted = refl
effect_one Skipped = refl
effect_one Void = refl

-- ---- what a version leaves out

-- what isn't written has one value
pub given_form : {X : Type 0} (value : X) → IsForm (λ x. []) (λ x. x ≡ value) (λ bytes. Some (value, bytes))
given_form {X} value = record {
  takes = λ bytes x rest fits is.
      let both : ◌≡◌ {A = X × List ℕ} (value, bytes) (x, rest) = some_is (value, bytes) (x, rest) is in
      let same : value ≡ x = ap (λ (p : X × List ℕ). p.0) both in
      let left : bytes ≡ rest = ap (λ (p : X × List ℕ). p.1) both in
      (record { parts = left; rest_fits = subst IsBytes left fits }, sym same);
  again = λ x rest is. ap (λ (y : X). let found : Found X = Some (y, rest) in found) (sym is);
}

place_form : (version : Version) → IsForm (place_encoding version) (PlaceFits version) (place_at version)
place_form One = given_form 0
place_form Two = byte_form

leaves_form : (version : Version) → IsForm (leaves_encoding version) (LeavesFit version) (leaves_at version)
leaves_form One = given_form COVERED
leaves_form Two = number_form w16 (2 ^ 16) wide16

-- ---- leaves

pub action_small : (a : Action) → ActionFits a → length (action_encoding a) < 2 ^ 32
action_small a fits = omega (arith, action_short a fits)

pub leaf_form : (version : Version) → IsForm (leaf_encoding version) (LeafFits version) (leaf_at version)
unfolding leaf_at
leaf_form version =
    mapped_of
    (pair_of (number_form w64 (2 ^ 64) wide64) (pair_of (place_form version) (pair_of (sized_of action_form action_small) effect_form)))
    leaf_of (λ l. (l.slot, (l.place, (l.action, l.result)))) (LeafFits version)
    (λ p h. (refl, record { slot = h.0; place = h.1.0; action = h.1.1.0 })) (λ l h. (refl, (h.slot, (h.place, (h.action, tt)))))

place_small : (version : Version) (place : ℕ) → length (place_encoding version place) ≤ 1
place_small One place = omega arith
place_small Two place = omega arith

pub leaf_small : (version : Version) (l : Leaf) → LeafFits version l → length (leaf_encoding version l) < 2 ^ 32
leaf_small version l fits = omega (
  arith,
  action_short l.action fits.action,
  effect_one l.result,
  place_small version l.place,
  length_sized action_encoding l.action,
  length-append (to_be_bytes w64 l.slot) (place_encoding version l.place ++ (sized action_encoding l.action ++ effect_encoding l.result)),
  length-append (place_encoding version l.place) (sized action_encoding l.action ++ effect_encoding l.result),
  length-append (sized action_encoding l.action) (effect_encoding l.result),
)

-- ---- checkpoints

pub checkpoint_form : (version : Version) → IsForm (checkpoint_encoding version) (CheckpointFits version) (checkpoint_at version)
unfolding checkpoint_at
checkpoint_form version =
    mapped_of
    (pair_of (number_form w16 (2 ^ 16) wide16) (pair_of (number_form w64 (2 ^ 64) wide64)
    (pair_of (bytes_form 32) (pair_of (bytes_form 32) (pair_of (bytes_form 32) (leaves_form version))))))
    checkpoint_of_parts (λ c. (c.shard, (c.number, (c.previous, (c.leaf_root, (c.table_root, c.leaves)))))) (CheckpointFits version)
    (λ p h. (refl, record { shard = h.0; number = h.1.0; previous = h.1.1.0; leaf_root = h.1.1.1.0; table_root = h.1.1.1.1.0; leaves = h.1.1.1.1.1 }))
    (λ c h. (refl, (h.shard, (h.number, (h.previous, (h.leaf_root, (h.table_root, h.leaves)))))))

-- ---- proofs

pub slot_form : IsForm (to_be_bytes w64) (λ n. n < 2 ^ 62) slot_at
slot_form =
    weaker_form (to_be_bytes w64) (λ n. (n < 2 ^ 64) × (nat_le n LAST_SLOT ≡ true)) slot_at
    (tested_of (number_form w64 (2 ^ 64) wide64) (λ n. nat_le n LAST_SLOT)) (λ n. n < 2 ^ 62)
    (λ n h. omega (arith, leb-true n LAST_SLOT h.1)) (λ n h. (omega (arith, h), le-leb n LAST_SLOT (omega (arith, h))))

index_form : (version : Version) → IsForm (index_encoding version) (λ n. n ≤ last_place version) (index_at version)
index_form One =
    weaker_form (λ n. n ∷ []) (λ n. (n < 256) × (nat_le n LAST_PLACE ≡ true)) (index_at One) (tested_of byte_form (λ n. nat_le n LAST_PLACE))
    (λ n. n ≤ LAST_PLACE)
    (λ n h. leb-true n LAST_PLACE h.1) (λ n h. (omega (arith, h), le-leb n LAST_PLACE h))
index_form Two =
    weaker_form (to_be_bytes w16) (λ n. (n < 2 ^ 16) × (nat_le n LAST_BATCH_PLACE ≡ true)) (index_at Two)
    (tested_of (number_form w16 (2 ^ 16) wide16) (λ n. nat_le n LAST_BATCH_PLACE)) (λ n. n ≤ LAST_BATCH_PLACE)
    (λ n h. leb-true n LAST_BATCH_PLACE h.1) (λ n h. (omega (arith, h), le-leb n LAST_BATCH_PLACE h))

abbrev IsCovered : Version → Leaf → Type 0
IsCovered version l = LeafFits version l × (l.slot < 2 ^ 62)

low_leaf_form : (version : Version) → IsForm (leaf_encoding version) (IsCovered version) (low_leaf_at version)
unfolding low_leaf_at
low_leaf_form version =
    mapped_of (pair_of slot_form (pair_of (place_form version) (pair_of (sized_of action_form action_small) effect_form))) leaf_of
    (λ l. (l.slot, (l.place, (l.action, l.result)))) (IsCovered version)
    (λ p h. (refl, (record { slot = omega (arith, h.0); place = h.1.0; action = h.1.1.0 }, h.0)))
    (λ l h. (refl, (h.1, (h.0.place, (h.0.action, tt)))))

covered_form : (version : Version) → IsForm (sized (leaf_encoding version)) (IsCovered version) (covered_at version)
covered_form version = sized_of (low_leaf_form version) (λ l h. leaf_small version l h.0)

path_few : (version : Version) → most_path version < 256
path_few One = omega arith
path_few Two = omega arith

pub proof_form : (version : Version) → IsForm (proof_encoding version) (ProofFits version) (proof_at version)
unfolding proof_at
proof_form version =
    mapped_of
    (pair_of (checkpoint_form version) (pair_of (index_form version) (pair_of (covered_form version) (counted_of (bytes_form 32) (most_path version) (path_few version)))))
    proof_of_parts (λ p. (p.checkpoint, (p.place, (p.leaf, p.path)))) (ProofFits version)
    (λ p h. (refl, record { checkpoint = h.0; place = h.1.0; leaf = h.1.1.0.0; slot = h.1.1.0.1; path = h.1.1.1 }))
    (λ p h. (refl, (h.checkpoint, (h.place, ((h.leaf, h.slot), h.path)))))
