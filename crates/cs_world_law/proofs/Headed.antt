-- What is shown under a head that a node noted is what it executed.
use Rattle.std.proofs.Common.{◌≡◌, inl, inr, ℕ, zero, suc, ◌+◌, ◌*◌, ◌%◌, ◌==◌, ◌<◌, ◌≤◌, ◌^◌, Bool, true, false, if◌then◌else◌, List, [], ◌∷◌, ◌++◌, length, map, take, drop, Some, None, refl, sym, ap, ◌∙◌, subst, arith, append-nil, length-append, length-take, length-drop}
use Rattle.std.specs.Prelude.{nat_lt, slice_get, All}
use Rattle.std.proofs.lemmas.Bool.{cases_Bool, eqb-true, ltb-true}
use Rattle.std.proofs.lemmas.List.{length_push, length-map, take-map, drop-map}
use Rattle.std.proofs.lemmas.List.Elements.{All-push, All-take, All-drop, All-get_or}
use Rattle.cs_base.specs.Lists.{IsIn}
use Rattle.cs_base.specs.declared.node_id.NodeId.{NodeId}
use Rattle.cs_tx_value.specs.Object.{DigestFits}
use Rattle.cs_tx_types.specs.declared.leaf.Leaf.{Leaf}
use Rattle.cs_base.specs.declared.version.Version.TheVariants.{One}
use Rattle.cs_tx_types.specs.Log.{leaf_encoding, LeafFits, CheckpointFits}
use Rattle.cs_merkle.specs.Tree.{merkle_tree_hash}
use Rattle.cs_check_rules.specs.Chain.{Log, empty_log, with_slot, covered_leaves, head_of, checkpoint_of, chain_head}
use Rattle.cs_check_rules.specs.Shown.{CoversLeaves}
use Rattle.cs_check.proofs.Chains.{checkpoint_stays}
use Rattle.cs_ledger.specs.Ledger.{Bytes}
use Rattle.cs_node_rules.specs.Signs.{Sign, Headed}
use Rattle.cs_node_rules.specs.Site.{Mark, In, Ordered, Plain, Site, signs_of}
use Rattle.cs_node_law.specs.Made.{IsMade, AllMade}
use Rattle.cs_node_law.proofs.Heads.{root_hashed, before_hashed}
use Rattle.cs_world_law.specs.Shown.{leaves_of}
use Rattle.cs_world_law.proofs.Logged.{IsAlone, leaf-count, LogAt, DoneAt, by-sign, by-slots, leaves-kept, AreEntries, leaves-fit}

-- ---- lists

in-take : {A : Type 0} (x : A) (n : ℕ) (xs : List A) → IsIn x (take n xs) → IsIn x xs
in-take {A} x zero xs i = absurd i
in-take {A} x (suc n) [] i = absurd i
in-take {A} x (suc n) (y ∷ ys) (inl is) = inl is
in-take {A} x (suc n) (y ∷ ys) (inr i) = inr (in-take x n ys i)

in-drop : {A : Type 0} (x : A) (n : ℕ) (xs : List A) → IsIn x (drop n xs) → IsIn x xs
in-drop {A} x zero xs i = i
in-drop {A} x (suc n) [] i = absurd i
in-drop {A} x (suc n) (y ∷ ys) i = inr (in-drop x n ys i)

pub got-in : {A : Type 0} (xs : List A) (k : ℕ) (x : A) → slice_get xs k ≡ Some x → IsIn x xs
got-in {A} [] k x e = absurd cc
got-in {A} (y ∷ ys) zero x e = let same : y ≡ x = cc in inl (sym same)
got-in {A} (y ∷ ys) (suc k) x e = inr (got-in ys k x e)

-- ---- what holds of the log of a node

-- It is of one shard; each checkpoint has its 16 leaves, and the roots are digests.
pub record IsOf (shard : ℕ) (log : Log) : Type 0 where
  pub shard_is : log.shard ≡ shard
  pub enough : 16 * length log.table_roots ≤ length log.leaves
  pub roots : All DigestFits log.table_roots

pub of-start : (shard : ℕ) → IsOf shard (empty_log shard)
of-start shard = record { shard_is = refl; enough = omega arith; roots = λ i d below. absurd (omega (arith, below)) }

-- the roots with one slot more
grown : (log : Log) (leaf root : List ℕ) → (roots : List (List ℕ)) × ((with_slot leaf root log).table_roots ≡ log.table_roots ++ roots)
grown log leaf root =
    elim (cases_Bool ((length log.leaves + 1) % 16 == 0)) [
      | inl whole ↦ (root ∷ [], rw whole refl)
      | inr part ↦ ([], rw part (sym (append-nil log.table_roots)))
    ]

pub of-next : (shard : ℕ) (log : Log) (leaf root : List ℕ) → DigestFits root → IsOf shard log → IsOf shard (with_slot leaf root log)
of-next shard log leaf root fits is =
    let more : length (log.leaves ++ leaf ∷ []) ≡ length log.leaves + 1 = length_push log.leaves leaf in
    elim (cases_Bool ((length log.leaves + 1) % 16 == 0)) [
      | inl whole ↦
          let roots : (with_slot leaf root log).table_roots ≡ log.table_roots ++ root ∷ [] = rw whole refl in
          record {
            shard_is = is.shard_is;
            enough = rw roots (next (length log.leaves) (length log.table_roots) _ _ (eqb-true _ _ whole) is.enough more (length_push log.table_roots root));
            roots = subst (λ (l : List (List ℕ)). All DigestFits l) (sym roots) (All-push DigestFits log.table_roots root is.roots fits);
          }
      | inr part ↦
          let roots : (with_slot leaf root log).table_roots ≡ log.table_roots = rw part refl in
          record {
            shard_is = is.shard_is;
            enough = rw roots (omega (arith, is.enough, more));
            roots = subst (λ (l : List (List ℕ)). All DigestFits l) (sym roots) is.roots;
          }
    ]
  where
    next : (leaves roots leaves' roots' : ℕ) → (leaves + 1) % 16 ≡ 0 → 16 * roots ≤ leaves → leaves' ≡ leaves + 1 → roots' ≡ roots + 1 → 16 * roots' ≤ leaves'
    next leaves roots leaves' roots' whole enough a b = omega (arith, whole, enough, a, b)

-- ---- heads stay

-- the checkpoint of that number is made, and has this head
pub record IsHead (log : Log) (number : ℕ) (head : Bytes) : Type 0 where
  pub there : number < length log.table_roots
  pub is : head_of (checkpoint_of log number) ≡ head

head-there : (log : Log) (number : ℕ) (head : Bytes) → chain_head log number ≡ Some head → IsHead log number head
head-there log number head e = by (nat_lt number (length log.table_roots)) refl e
  where
    by : (b : Bool) → nat_lt number (length log.table_roots) ≡ b → (if b then Some (head_of (checkpoint_of log number)) else None) ≡ Some head → IsHead log number head
    by true less e = let is : head_of (checkpoint_of log number) ≡ head = cc in record { there = ltb-true number (length log.table_roots) less; is = is }
    by false less e = cc

pub head-stays : (shard : ℕ) (log : Log) (leaf root : List ℕ) (number : ℕ) (head : Bytes) → IsOf shard log → IsHead log number head → IsHead (with_slot leaf root log) number head
head-stays shard log leaf root number head of h =
    let new = with_slot leaf root log in
    let g = grown log leaf root in
    let count : length new.table_roots ≡ length log.table_roots + length g.0 = ap length g.1 ∙ length-append log.table_roots g.0 in
    let enough : 16 * number + 16 ≤ length log.leaves = omega (arith, of.enough, h.there) in
    let same = checkpoint_stays log new (leaf ∷ []) g.0 refl refl g.1 number enough h.there in
    record { there = omega (arith, h.there, count); is = ap head_of same ∙ h.is }

module _ {M : Type 0} (site : Site M) (me : NodeId) where
  log-of : (t : List (Mark M)) → IsOf me.shard (LogAt site me t)
  log-of t = by-slots site me (IsOf me.shard) (of-start me.shard) (of-next me.shard) t

  stays : (sign : Sign) (t : List (Mark M)) (number : ℕ) (head : Bytes) → IsHead (LogAt site me t) number head → IsHead (LogAt site me (Plain sign ∷ t)) number head
  stays sign t number head h =
      let both = by-sign site me (λ (log : Log). IsOf me.shard log × IsHead log number head)
      (λ log leaf root fits b. (of-next me.shard log leaf root fits b.0, head-stays me.shard log leaf root number head b.0 b.1))
      sign t (log-of t, h) in
      both.1

  -- a head that the node noted is that of its own checkpoint of that number
  pub heads-kept : (t : List (Mark M)) → AllMade site me t → (number : ℕ) (head : Bytes) → IsIn (Headed number head) (signs_of t) → IsHead (LogAt site me t) number head
  heads-kept [] made number head i = absurd i
  heads-kept (In input ∷ t) made number head i = heads-kept t made.1 number head i
  heads-kept (Ordered deed ∷ t) made number head i = heads-kept t made.1 number head i
  heads-kept (Plain sign ∷ t) made number head (inr before) = stays sign t number head (heads-kept t made.1 number head before)
  heads-kept (Plain sign ∷ t) made number head (inl now) =
      let noted = subst (λ (s : Sign). IsMade site me t (Plain s)) (sym now) made.0 in
      stays sign t number head (head-there (LogAt site me t) number head noted)

  -- ---- what its checkpoint covers

  pub record IsCovered (t : List (Mark M)) (number : ℕ) (head : Bytes) : Type 0 where
    pub part : List Leaf
    pub fit : All (LeafFits One) part
    pub within : (leaf : Leaf) → IsIn leaf part → IsIn leaf (leaves_of (DoneAt site me t))
    pub is : covered_leaves (LogAt site me t) number ≡ map (leaf_encoding One) part
    pub over : CoversLeaves (checkpoint_of (LogAt site me t) number) (map (leaf_encoding One) part)
    pub head_is : head_of (checkpoint_of (LogAt site me t) number) ≡ head

  checkpoint-fits : (t : List (Mark M)) (number : ℕ) → me.shard < 2 ^ 16 → number < 2 ^ 64 → number < length (LogAt site me t).table_roots → CheckpointFits One (checkpoint_of (LogAt site me t) number)
  checkpoint-fits t number small narrow there =
      let of = log-of t in
      record {
        shard = rw of.shard_is small;
        number = narrow;
        previous = before_hashed (LogAt site me t) number;
        leaf_root = root_hashed (covered_leaves (LogAt site me t) number);
        table_root = All-get_or DigestFits (LogAt site me t).table_roots number [] there of.roots;
        leaves = refl;
      }

  pub are-covered : IsAlone site me → (t : List (Mark M)) → AllMade site me t → AreEntries site me (signs_of t) → length (DoneAt site me t) ≤ 2 ^ 64 → me.shard < 2 ^ 16
      → (number : ℕ) (head : Bytes) → IsIn (Headed number head) (signs_of t) → IsCovered t number head
  are-covered one t made all few small number head i =
      let log = LogAt site me t in
      let leaves = leaves_of (DoneAt site me t) in
      let of = log-of t in
      let h = heads-kept t made number head i in
      let kept = leaves-kept site me one t made in
      let part = take 16 (drop (16 * number) leaves) in
      let is : covered_leaves log number ≡ map (leaf_encoding One) part =
      ap (λ (l : List (List ℕ)). take 16 (drop (16 * number) l)) kept
      ∙ ap (take 16) (drop-map (leaf_encoding One) (16 * number) leaves)
      ∙ take-map (leaf_encoding One) 16 (drop (16 * number) leaves) in
      let count : length log.leaves ≡ length (DoneAt site me t) = ap length kept ∙ length-map leaves (leaf_encoding One) ∙ leaf-count (DoneAt site me t) in
      let long : length (covered_leaves log number) ≡ 16 =
      omega (arith, of.enough, h.there, length-take 16 (drop (16 * number) log.leaves), length-drop (16 * number) log.leaves) in
      record {
        part = part;
        fit = All-take (LeafFits One) 16 (drop (16 * number) leaves) (All-drop (LeafFits One) (16 * number) leaves (leaves-fit site me one t made all few));
        within = λ leaf j. in-drop leaf (16 * number) leaves (in-take leaf 16 (drop (16 * number) leaves) j);
        is = is;
        over = record {
          fits = checkpoint-fits t number small (omega (arith, of.enough, h.there, count, few)) h.there;
          all = ap length (sym is) ∙ long;
          root = ap merkle_tree_hash is;
        };
        head_is = h.is;
      }
