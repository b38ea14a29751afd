-- The hashes of a checkpoint that a slot made are digests, and its head is that of the log's last checkpoint.
use Rattle.std.proofs.Common.{◌≡◌, inl, inr, ℕ, zero, suc, ◌+◌, ◌-◌, ◌%◌, ◌==◌, ◌<◌, ◌≤◌, Bool, true, List, [], ◌∷◌, ◌++◌, length, get_or, Some, None, refl, sym, ap, ◌∙◌, subst, arith, length-append}
use Rattle.std.specs.Prelude.{if◌then◌else◌, nat_lt, replicate, slice_index_or}
use Rattle.std.specs.Int.{w16, w64, to_be_bytes}
use Rattle.std.proofs.lemmas.Bool.{cases_Bool, lt-ltb}
use Rattle.std.proofs.lemmas.List.{get_or_push, length_push}
use Rattle.sha2.specs.Sha256.{sha256}
use Rattle.sha2.proofs.Facts256.{length-sha256}
use Rattle.cs_base.specs.Fields.{IsBytes}
use Rattle.cs_merkle.specs.Tree.{Tree, Empty, Leaf, Node, hash, tree_of, merkle_tree_hash}
use Rattle.cs_tx_value.specs.Object.{DigestFits}
use Rattle.cs_tx_types.specs.declared.checkpoint.Checkpoint.{Checkpoint}
use Rattle.cs_wire_message.specs.declared.message.Message.TheVariants as message
use Rattle.cs_base.specs.declared.version.Version.{Version}
use Rattle.cs_base.specs.declared.version.Version.TheVariants.{One, Two}
use Rattle.cs_tx_types.specs.Log.{leaves_encoding}
use Rattle.cs_wire_message.specs.Message.{body_of}
use Rattle.cs_wire_message.proofs.Bytes.{bytes-append, bytes-nil, bytes-16}
use Rattle.cs_wire_message.proofs.Spelled.{bytes-want}
use Rattle.cs_check_rules.specs.Chain.{Log, with_slot, no_head, head_of, head_before, checkpoint_of, chain_head, made_last}
use Rattle.cs_node_law.specs.Made.{HasDigests}
use Rattle.cs_node_law.proofs.Sealing.{bytes-sha256}

hashed : (bytes : List ℕ) → DigestFits (sha256 bytes)
hashed bytes = (length-sha256 bytes, bytes-sha256 bytes)

tree_hashed : (tree : Tree) → DigestFits (hash tree)
tree_hashed Empty = hashed []
tree_hashed (Leaf leaf) = hashed _
tree_hashed (Node left right) = hashed _

pub root_hashed : (leaves : List (List ℕ)) → DigestFits (merkle_tree_hash leaves)
unfolding merkle_tree_hash
root_hashed leaves = tree_hashed (tree_of leaves)

zeros : (n i : ℕ) → get_or {A = ℕ} (replicate n 0) i 0 < 256
zeros zero i = omega arith
zeros (suc n) zero = omega arith
zeros (suc n) (suc i) = zeros n i

zeros_fit : DigestFits no_head
zeros_fit = (refl, zeros 32)

pub before_hashed : (log : Log) (number : ℕ) → DigestFits (head_before log number)
before_hashed log zero = zeros_fit
before_hashed log (suc number) = hashed _

-- the root that a slot adds is that of the checkpoint that it makes
module _ (log : Log) (leaf root : List ℕ) (fits : DigestFits root) where
  abbrev after : Log
  after = with_slot leaf root log

  abbrev last : ℕ
  last = length after.table_roots - 1

  last_root : ((length log.leaves + 1) % 16 == 0) ≡ true → slice_index_or after.table_roots last [] ≡ root
  last_root whole =
      let roots : after.table_roots ≡ log.table_roots ++ root ∷ [] = rw whole refl in
      let at : length (log.table_roots ++ root ∷ []) - 1 ≡ length log.table_roots =
      omega (arith, length_push log.table_roots root) in
      rw (roots, at) (get_or_push log.table_roots root [] (length log.table_roots) refl)

  made_digests : ((length log.leaves + 1) % 16 == 0) ≡ true → HasDigests (checkpoint_of after last)
  made_digests whole = record {
    previous = before_hashed after last;
    leaf_root = root_hashed _;
    table_root = subst DigestFits (sym (last_root whole)) fits;
  }

  in_chain : ((length log.leaves + 1) % 16 == 0) ≡ true → chain_head after last ≡ Some (head_of (checkpoint_of after last))
  in_chain whole =
      let roots : after.table_roots ≡ log.table_roots ++ root ∷ [] = rw whole refl in
      let count : length after.table_roots ≡ length log.table_roots + 1 = ap length roots ∙ length_push log.table_roots root in
      let there : nat_lt last (length after.table_roots) ≡ true = lt-ltb last (length after.table_roots) (omega (arith, count)) in
      ap (λ (b : Bool). if b then Some (head_of (checkpoint_of after last)) else None) there

  -- the checkpoint that a slot made
  pub record IsLast (c : Checkpoint) : Type 0 where
    pub digests : HasDigests c
    pub chained : chain_head after c.number ≡ Some (head_of c)

  pub last_is : (c : Checkpoint) → made_last after ≡ Some c → IsLast c
  last_is c made =
      let count : length after.leaves ≡ length log.leaves + 1 = length_push log.leaves leaf in
      elim (cases_Bool ((length log.leaves + 1) % 16 == 0)) [
        | inl whole ↦
            let is : made_last after ≡ Some (checkpoint_of after last) = rw (count, whole) refl in
            let both : Some (checkpoint_of after last) ≡ Some c = sym is ∙ made in
            let same : checkpoint_of after last ≡ c = cc in
            subst IsLast same (record { digests = made_digests whole; chained = in_chain whole })
        | inr part ↦
            let none : made_last after ≡ None = rw (count, part) refl in
            absurd (let both : None ≡ Some c = sym none ∙ made in cc)
      ]

-- ---- the body that tells it

leaves-bytes : (version : Version) (leaves : ℕ) → IsBytes (leaves_encoding version leaves)
leaves-bytes One leaves = bytes-nil
leaves-bytes Two leaves = bytes-16 leaves

leaves-short : (version : Version) (leaves : ℕ) → length (leaves_encoding version leaves) ≤ 2
leaves-short One leaves = omega arith
leaves-short Two leaves = omega arith

module _ (version : Version) (c : Checkpoint) (digests : HasDigests c) where
  abbrev Counted : List ℕ
  Counted = leaves_encoding version c.leaves

  abbrev Last : List ℕ
  Last = c.table_root ++ Counted

  abbrev Roots : List ℕ
  Roots = c.leaf_root ++ Last

  abbrev Hashes : List ℕ
  Hashes = c.previous ++ Roots

  pub bytes-head : IsBytes (body_of version (message.Head c))
  bytes-head =
      bytes-append (to_be_bytes w16 c.shard) (to_be_bytes w64 c.number ++ Hashes) (bytes-16 c.shard)
      (bytes-append (to_be_bytes w64 c.number) Hashes (bytes-want version c.number)
      (bytes-append c.previous Roots digests.previous.1
      (bytes-append c.leaf_root Last digests.leaf_root.1 (bytes-append c.table_root Counted digests.table_root.1 (leaves-bytes version c.leaves)))))

  pub length-head : length (body_of version (message.Head c)) ≤ 108
  length-head =
      let behind_shard = length-append (to_be_bytes w16 c.shard) (to_be_bytes w64 c.number ++ Hashes) in
      let behind_number = length-append (to_be_bytes w64 c.number) Hashes in
      let behind_previous = length-append c.previous Roots in
      let of_roots = length-append c.leaf_root Last in
      let of_last = length-append c.table_root Counted in
      omega (arith, behind_shard, behind_number, behind_previous, of_roots, of_last, leaves-short version c.leaves, digests.previous.0, digests.leaf_root.0, digests.table_root.0)
