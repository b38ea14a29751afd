-- How the log grows of which a shard's checkpoints are made, and that heads which were made stay.
use Rattle.std.proofs.Common.{◌≡◌, inl, inr, ℕ, zero, suc, ◌+◌, ◌-◌, ◌*◌, ◌/◌, ◌%◌, ◌<◌, ◌≤◌, ◌==◌, Bool, true, false, List, [], ◌∷◌, ◌++◌, length, Some, None, refl, sym, ap, subst, ◌∙◌, arith, length-append, append-nil, append_assoc}
use Rattle.std.specs.Prelude.{if◌then◌else◌, slice_get}
use Rattle.std.proofs.lemmas.Bool.{eqb-true, eqb-false, cases_lt}
use Rattle.cs_ledger.specs.Ledger.{Bytes}
use Rattle.cs_ledger.proofs.Basics.{bytes_from}
use Rattle.cs_check_rules.specs.Chain.{Log, with_slot, head_of, checkpoint_of, made_last}
use Rattle.cs_check.proofs.Chains.{checkpoint_stays}
use Rattle.cs_replay_rules.specs.Dumps.{heads_below}
use Rattle.cs_audit_rules.specs.Slots.{is_just, is_head}
use Rattle.cs_audit_law.specs.Dumped.{all_heads}

-- a log is the older part of another
pub record Grows (log longer : Log) : Type 0 where
  pub leaves : List (List ℕ)
  pub roots : List (List ℕ)
  pub shard_is : longer.shard ≡ log.shard
  pub leaves_are : longer.leaves ≡ log.leaves ++ leaves
  pub roots_are : longer.table_roots ≡ log.table_roots ++ roots

pub grows_same : (log : Log) → Grows log log
grows_same log = record { leaves = []; roots = []; shard_is = refl; leaves_are = sym (append-nil log.leaves); roots_are = sym (append-nil log.table_roots) }

pub grows_slot : (log : Log) (leaf root : List ℕ) → Grows log (with_slot leaf root log)
grows_slot log leaf root = by ((length log.leaves + 1) % 16 == 0)
  where
    by : (b : Bool) → Grows log (record { shard = log.shard; leaves = log.leaves ++ leaf ∷ []; table_roots = if b then log.table_roots ++ root ∷ [] else log.table_roots })
    by true = record { leaves = leaf ∷ []; roots = root ∷ []; shard_is = refl; leaves_are = refl; roots_are = refl }
    by false = record { leaves = leaf ∷ []; roots = []; shard_is = refl; leaves_are = refl; roots_are = sym (append-nil log.table_roots) }

pub grows_on : (a b c : Log) → Grows a b → Grows b c → Grows a c
grows_on a b c first later = record {
  leaves = first.leaves ++ later.leaves;
  roots = first.roots ++ later.roots;
  shard_is = later.shard_is ∙ first.shard_is;
  leaves_are = later.leaves_are ∙ ap (λ l. l ++ later.leaves) first.leaves_are ∙ append_assoc a.leaves first.leaves later.leaves;
  roots_are = later.roots_are ∙ ap (λ l. l ++ later.roots) first.roots_are ∙ append_assoc a.table_roots first.roots later.roots;
}

-- ---- a root for every 16 leaves

abbrev pub HasRoots : Log → Type 0
HasRoots log = length log.table_roots ≡ length log.leaves / 16

pub roots_slot : (log : Log) (leaf root : List ℕ) → HasRoots log → HasRoots (with_slot leaf root log)
roots_slot log leaf root has = by ((length log.leaves + 1) % 16 == 0) refl
  where
    by : (b : Bool) → ((length log.leaves + 1) % 16 == 0) ≡ b → length (if b then log.table_roots ++ root ∷ [] else log.table_roots) ≡ length (log.leaves ++ leaf ∷ []) / 16
    by true whole =
        let more = length-append log.leaves (leaf ∷ []) in
        let one_more = length-append log.table_roots (root ∷ []) in
        let divides : (length log.leaves + 1) % 16 ≡ 0 = eqb-true ((length log.leaves + 1) % 16) 0 whole in
        omega arith
    by false part =
        let more = length-append log.leaves (leaf ∷ []) in
        let other : (length log.leaves + 1) % 16 ≡ 0 → ⊥ = eqb-false ((length log.leaves + 1) % 16) 0 part in
        omega arith

-- ---- heads

at_end : (xs : List Bytes) (x : Bytes) → slice_get (xs ++ x ∷ []) (length xs) ≡ Some x
at_end [] x = refl
at_end (y ∷ xs) x = at_end xs x

before_end : (xs : List Bytes) (x : Bytes) (k : ℕ) → k < length xs → slice_get (xs ++ x ∷ []) k ≡ slice_get xs k
before_end [] x k less = absurd (omega arith)
before_end (y ∷ xs) x zero less = refl
before_end (y ∷ xs) x (suc k) less = before_end xs x k (omega arith)

pub count_heads : (log : Log) (n : ℕ) → length (heads_below log n) ≡ n
count_heads log zero = refl
count_heads log (suc n) =
    let more = length-append (heads_below log n) (head_of (checkpoint_of log n) ∷ []) in
    let before = count_heads log n in
    omega arith

head_below : (log : Log) (n k : ℕ) → k < n → slice_get (heads_below log n) k ≡ Some (head_of (checkpoint_of log k))
head_below log zero k less = absurd (omega arith)
head_below log (suc n) k less =
    let heads = heads_below log n in
    let count = count_heads log n in
    elim (cases_lt k n) [
      | inl below ↦ before_end heads (head_of (checkpoint_of log n)) k (omega arith) ∙ head_below log n k below
      | inr not_below ↦
          let last : length heads ≡ k = omega arith in
          let at : n ≡ k = omega arith in
          subst (λ (i : ℕ). slice_get (heads ++ head_of (checkpoint_of log n) ∷ []) i ≡ Some (head_of (checkpoint_of log n))) last (at_end heads (head_of (checkpoint_of log n)))
          ∙ ap (λ (i : ℕ). Some (head_of (checkpoint_of log i))) at
    ]

-- the head of a checkpoint that a log has made is among those of any log that goes on from it
pub head_told : (log final : Log) → HasRoots log → 0 < length log.leaves → Grows log final → is_head (all_heads final) (made_last log) ≡ true
head_told log final has some grows = by (length log.leaves % 16 == 0) refl
  where
    by : (b : Bool) → (length log.leaves % 16 == 0) ≡ b → is_head (all_heads final) (if b then Some (checkpoint_of log (length log.table_roots - 1)) else None) ≡ true
    by true whole =
        let k = length log.table_roots - 1 in
        let rooted : length log.table_roots ≡ length log.leaves / 16 = has in
        let divides : length log.leaves % 16 ≡ 0 = eqb-true (length log.leaves % 16) 0 whole in
        let longer = length-append log.table_roots grows.roots in
        let count : length final.table_roots ≡ length (log.table_roots ++ grows.roots) = ap length grows.roots_are in
        let less : k < length log.table_roots = omega arith in
        let there : k < length final.table_roots = omega arith in
        let enough : 16 * k + 16 ≤ length log.leaves = omega arith in
        let stays = checkpoint_stays log final grows.leaves grows.roots grows.shard_is grows.leaves_are grows.roots_are k enough less in
        let told : slice_get (all_heads final) k ≡ Some (head_of (checkpoint_of log k)) = head_below final (length final.table_roots) k there ∙ ap (λ c. Some (head_of c)) stays in
        ap (is_just (head_of (checkpoint_of log k))) told ∙ bytes_from (head_of (checkpoint_of log k)) (head_of (checkpoint_of log k)) refl
    by false part = refl
