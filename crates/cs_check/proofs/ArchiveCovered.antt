-- What a chain proves is the proof of the definition, and fits: its path has four hashes, and its leaf is of the slot
-- that is asked for.
use Rattle.std.proofs.Common.{◌≡◌, ℕ, ◌+◌, ◌-◌, ◌*◌, ◌/◌, ◌^◌, ◌<◌, ◌≤◌, Bool, true, false, List, [], length, Some, None, inl, inr, refl, sym, ap, ◌∙◌, arith, append-nil}
use Rattle.std.specs.Prelude.{if◌then◌else◌, nat_le, nat_lt}
use Rattle.std.specs.List.{AllByRecursion}
use Rattle.std.proofs.lemmas.Bool.{cases_Bool, lt-ltb, le-ltb, le-leb, lt-leb}
use Rattle.cs_base.specs.Fields.{whole_at}
use Rattle.cs_merkle.specs.Tree.{split}
use Rattle.cs_merkle.specs.Path.{path_length_in, path_length}
use Rattle.cs_tx_value.specs.Object.{DigestFits}
use Rattle.cs_base.specs.declared.version.Version.TheVariants.{One}
use Rattle.cs_tx_types.specs.declared.proof.Proof.{Proof}
use Rattle.cs_tx_types.specs.Log.{leaf_encoding, leaf_at, CheckpointFits, ProofFits}
use Rattle.cs_tx_types.specs.laws.Log.{leaf_form}
use Rattle.cs_check_rules.specs.Chain.{Log, head_of, checkpoint_of, cut_slot, IsProofOf}
use Rattle.cs_check_rules.specs.Shown.{Shows}
use Rattle.cs_check_rules.specs.Proofs.{leaf_in, proof_with, proof_of}
use Rattle.cs_check.specs.Archives.{AreInPlace}

either : (b : Bool) (x y n : ℕ) → x ≡ n → y ≡ n → (if b then x else y) ≡ n
either true x y n first second = first
either false x y n first second = second

-- ---- each path over 2, 4, 8 and 16 leaves

over_2 : (place : ℕ) → path_length_in 13 2 place ≡ 1
unfolding split
over_2 place = either (nat_lt place 1) 1 1 1 refl refl

over_4 : (place : ℕ) → path_length_in 14 4 place ≡ 2
unfolding split
over_4 place =
    either (nat_lt place 2) (path_length_in 13 2 place + 1) (path_length_in 13 2 (place - 2) + 1) 2
    (ap (λ (n : ℕ). n + 1) (over_2 place)) (ap (λ (n : ℕ). n + 1) (over_2 (place - 2)))

over_8 : (place : ℕ) → path_length_in 15 8 place ≡ 3
unfolding split
over_8 place =
    either (nat_lt place 4) (path_length_in 14 4 place + 1) (path_length_in 14 4 (place - 4) + 1) 3
    (ap (λ (n : ℕ). n + 1) (over_4 place)) (ap (λ (n : ℕ). n + 1) (over_4 (place - 4)))

over_16 : (place : ℕ) → path_length 16 place ≡ 4
unfolding path_length split
over_16 place =
    either (nat_lt place 8) (path_length_in 15 8 place + 1) (path_length_in 15 8 (place - 8) + 1) 4
    (ap (λ (n : ℕ). n + 1) (over_8 place)) (ap (λ (n : ℕ). n + 1) (over_8 (place - 8)))

-- ---- a proof of a chain

pub proof_fits : (log : Log) (slot : ℕ) (p : Proof) → AreInPlace log.leaves → slot < 2 ^ 62 → IsProofOf log slot p →
    (p.leaf.slot ≡ slot → Shows (head_of (checkpoint_of log (slot / 16))) p) → CheckpointFits One p.checkpoint →
    AllByRecursion DigestFits p.path → ProofFits One p
proof_fits log slot p in_place small is shown checkpoint digests =
    let of_slot : p.leaf.slot ≡ slot = in_place slot p.leaf is.leaf_fits is.leaf in
    let long : length p.path ≡ 4 = (shown of_slot).leads.long ∙ over_16 p.place in
    record {
      checkpoint = checkpoint;
      place = omega (arith, is.place);
      leaf = is.leaf_fits;
      slot = omega (arith, of_slot, small);
      path = (omega (arith, long), digests);
    }

-- it is the one of the definition
pub proof_is : (log : Log) (slot : ℕ) (p : Proof) → IsProofOf log slot p → slot < 16 * length log.table_roots →
    cut_slot log ≤ slot → Some p ≡ proof_of log slot
proof_is log slot p is covered uncut =
    let whole : whole_at (leaf_at One) (leaf_encoding One p.leaf) ≡ Some p.leaf =
    ap (λ (bytes : List ℕ). whole_at (leaf_at One) bytes) (sym (append-nil (leaf_encoding One p.leaf)))
    ∙ rw ((leaf_form One).again p.leaf [] is.leaf_fits) refl in
    let read : leaf_in log slot ≡ Some p.leaf = rw is.leaf whole in
    let above : nat_le (cut_slot log) slot ≡ true = le-leb _ _ uncut in
    let below : nat_lt slot (16 * length log.table_roots) ≡ true = lt-ltb _ _ covered in
    let same : p ≡ proof_with log slot p.leaf =
    λ i. record { checkpoint = is.checkpoint i; place = is.place i; leaf = p.leaf; path = is.path i } in
    ap Some same ∙ sym (rw (above, below, read) refl)

pub not_yet : (log : Log) (slot : ℕ) → 16 * length log.table_roots ≤ slot → None ≡ proof_of log slot
not_yet log slot past =
    let below : nat_lt slot (16 * length log.table_roots) ≡ false = le-ltb _ _ past in
    elim (cases_Bool (nat_le (cut_slot log) slot)) [
      | inl above ↦ sym (rw (above, below) refl)
      | inr cut ↦ sym (rw cut refl)
    ]

pub cut_off : (log : Log) (slot : ℕ) → slot < cut_slot log → None ≡ proof_of log slot
cut_off log slot before =
    let below : nat_le (cut_slot log) slot ≡ false = lt-leb _ _ before in
    sym (rw below refl)
