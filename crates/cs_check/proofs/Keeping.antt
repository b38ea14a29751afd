-- What is kept of a log, where something is known of what is kept, and what is kept of it one slot later.
use Rattle.std.proofs.Common.{◌≡◌, ℕ, zero, suc, ◌+◌, ◌-◌, ◌*◌, ◌/◌, ◌%◌, ◌<◌, ◌≤◌, Bool, true, false, cond, get_or, List, [], ◌∷◌, ◌++◌, length, map, take, drop, Option, Some, None, refl, sym, ap, ◌∙◌, inl, inr, arith, length-take, length-drop, append-nil}
use Rattle.std.specs.Prelude.{◌==◌, slice_get, option_map, IfSome}
use Rattle.std.proofs.lemmas.Bool.{cases_lt, eq-eqb, ne_eqb, lt-ltb, le-ltb}
use Rattle.std.proofs.lemmas.List.{drop-append-le, drop-drop, drop_all, take_all, get_or_append_left, get_or_push, get_or-take, get_or-drop, length_push, map_push, length-map}
use Rattle.std.proofs.lemmas.Option.{slice_get-get_or, slice_get-map, slice_get_past, get_or_from_slice_get, slice_get_within}
use Rattle.cs_base.specs.declared.version.Version.TheVariants.{One}
use Rattle.cs_tx_types.specs.declared.checkpoint.Checkpoint.{Checkpoint}
use Rattle.cs_tx_types.specs.declared.proof.Proof.{Proof}
use Rattle.cs_tx_types.specs.Log.{leaf_encoding}
use Rattle.cs_tx_types.specs.declared.limits.TheConstants.{COVERED}
use Rattle.cs_merkle.specs.Tree.{merkle_tree_hash}
use Rattle.cs_merkle.specs.Path.{audit_path}
use Rattle.cs_check_rules.specs.Chain.{Log, with_slot, head_of, no_head, head_before, checkpoint_of, chain_head, made_last, cut_slot, covered_leaves, IsProofOf, Covered, covered_of, covered_below, all_covered, KeptLog, kept_of}
use Rattle.cs_check.specs.Kept.{IsProofAt, IsKeptChain, chain_with_leaf, last_head, next_behind, cut_first, with_checkpoint}
use Rattle.cs_check.proofs.Chains.{head_stays, below_stays}

-- ---- the checkpoints below a number

module _ (log : Log) where
  pub below_long : (number : ℕ) → length (covered_below log number) ≡ number
  below_long zero = refl
  below_long (suc number) =
      omega (arith, length_push (covered_below log number) (covered_of log number), below_long number)

  pub below_at : (end number : ℕ) → number < end →
      slice_get (covered_below log end) number ≡ Some (covered_of log number)
  below_at zero number less = absurd (omega (arith, less))
  below_at (suc end) number less =
      let xs = covered_below log end in
      let x = covered_of log end in
      let long = below_long end in
      let read = slice_get-get_or (xs ++ x ∷ []) number x (omega (arith, less, long, length_push xs x)) in
      elim (cases_lt number end) [
        | inl before ↦
            read ∙ ap Some (get_or_append_left xs (x ∷ []) x number (omega (arith, before, long))
            ∙ get_or_from_slice_get xs number (covered_of log number) x (below_at end number before))
        | inr last ↦
            let here : end ≡ number = omega (arith, less, last) in
            read ∙ ap Some (get_or_push xs x x number (long ∙ here)) ∙ ap (λ (k : ℕ). Some (covered_of log k)) here
      ]

abbrev head_in : Covered → List ℕ
head_in c = head_of c.checkpoint

abbrev count : Log → ℕ
count log = length log.table_roots

-- ---- what is kept of a log

module _ (log : Log) (kept : KeptLog) (is : kept ≡ kept_of log) where
  heads_are : kept.heads ≡ map head_in (all_covered log)
  heads_are = ap (λ (k : KeptLog). k.heads) is

  covered_is : kept.covered ≡ drop (cut_slot log / 16) (all_covered log)
  covered_is = ap (λ (k : KeptLog). k.covered) is

  pub heads_long : length kept.heads ≡ count log
  heads_long = ap length heads_are ∙ length-map (all_covered log) head_in ∙ below_long log (count log)

  pub covered_long : length kept.covered ≡ count log - cut_slot log / 16
  covered_long =
      ap length covered_is ∙ length-drop (cut_slot log / 16) (all_covered log)
      ∙ ap (λ (n : ℕ). n - cut_slot log / 16) (below_long log (count log))

  -- so many checkpoints are cut
  pub cut_is : length kept.heads - length kept.covered ≡ cut_slot log / 16
  cut_is = omega (arith, heads_long, covered_long)

  pub head_is : (number : ℕ) → slice_get kept.heads number ≡ chain_head log number
  head_is number =
      elim (cases_lt number (count log)) [
        | inl there ↦
            ap (λ (hs : List (List ℕ)). slice_get hs number) heads_are
            ∙ slice_get-map head_in (all_covered log) number
            ∙ (rw (below_at log (count log) number there, lt-ltb number (count log) there) refl)
        | inr past ↦
            slice_get_past kept.heads number (omega (arith, heads_long, past))
            ∙ sym (rw (le-ltb number (count log) past) refl)
      ]

  -- the checkpoint at a place
  pub covered_at : (place : ℕ) (c : Covered) → slice_get kept.covered place ≡ Some c →
      c ≡ covered_of log (cut_slot log / 16 + place)
  covered_at place c there =
      let k = cut_slot log / 16 in
      let all = all_covered log in
      let here : slice_get (drop k all) place ≡ Some c =
      ap (λ (cs : List Covered). slice_get cs place) (sym covered_is) ∙ there in
      let within = slice_get_within (drop k all) place c here in
      let inside : k + place < count log =
      omega (arith, within, length-drop k all, below_long log (count log)) in
      sym (get_or_from_slice_get (drop k all) place c c here) ∙ get_or-drop k all place c
      ∙ get_or_from_slice_get all (k + place) (covered_of log (k + place)) c (below_at log (count log) (k + place) inside)

  module _ (holds : IsKeptChain kept) where
    slots_are : kept.slots ≡ length log.leaves
    slots_are = ap (λ (k : KeptLog). k.slots) is

    uncovered_is : kept.uncovered ≡ drop (16 * count log) log.leaves
    uncovered_is = ap (λ (k : KeptLog). k.uncovered) is

    pub uncovered_long : length kept.uncovered ≡ length log.leaves - 16 * count log
    uncovered_long = ap length uncovered_is ∙ length-drop (16 * count log) log.leaves

    pub enough : 16 * count log ≤ length log.leaves
    enough = omega (arith, holds.enough, slots_are, heads_long)

-- the head of the last checkpoint is the one before the next
last_before : (log : Log) (number : ℕ) → last_head (map head_in (covered_below log number)) ≡ head_before log number
last_before log zero = refl
last_before log (suc number) =
    let heads = map head_in (covered_below log (suc number)) in
    let at : length heads - 1 ≡ number =
    omega (arith, length-map (covered_below log (suc number)) head_in, below_long log (suc number)) in
    let read : slice_get heads number ≡ Some (head_before log (suc number)) =
    slice_get-map head_in (covered_below log (suc number)) number
    ∙ ap (λ (o : Option Covered). option_map head_in o) (below_at log (suc number) number (omega arith)) in
    ap (λ (k : ℕ). get_or heads k no_head) at ∙ get_or_from_slice_get heads number (head_before log (suc number)) no_head read

-- the last 64 of one more
last_ones : (xs : List Covered) (x : Covered) (k k' : ℕ) → k ≡ length xs - 64 → k' ≡ length xs + 1 - 64 →
    cut_first (drop k xs ++ x ∷ []) ≡ drop k' (xs ++ x ∷ [])
last_ones xs x k k' first next =
    let ys = drop k xs ++ x ∷ [] in
    let whole : drop k (xs ++ x ∷ []) ≡ ys = drop-append-le k xs (x ∷ []) (omega (arith, first)) in
    let long : length ys ≡ length xs - k + 1 =
    omega (arith, length_push (drop k xs) x, length-drop k xs) in
    elim (cases_lt 64 (length ys)) [
      | inl more ↦
          let one : k + 1 ≡ k' = omega (arith, more, long, first, next) in
          (rw (lt-ltb 64 (length ys) more) refl) ∙ ap (drop 1) (sym whole) ∙ drop-drop 1 k (xs ++ x ∷ [])
          ∙ ap (λ (n : ℕ). drop n (xs ++ x ∷ [])) one
      | inr few ↦
          let same : k ≡ k' = omega (arith, few, long, first, next) in
          (rw (le-ltb 64 (length ys) few) refl) ∙ sym whole ∙ ap (λ (n : ℕ). drop n (xs ++ x ∷ [])) same
    ]

-- ---- one slot more

module _ (log : Log) (kept : KeptLog) (is : kept ≡ kept_of log) (holds : IsKeptChain kept) (leaf root : List ℕ) where
  abbrev longer : List (List ℕ)
  longer = log.leaves ++ leaf ∷ []

  abbrev more_kept : KeptLog
  more_kept = record (chain_with_leaf leaf kept) { slots = kept.slots + 1 }

  long : length longer ≡ length log.leaves + 1
  long = length_push log.leaves leaf

  from : 16 * count log ≤ length log.leaves
  from = enough log kept is holds

  over : length kept.uncovered ≡ length log.leaves - 16 * count log
  over = uncovered_long log kept is holds

  slots_more : kept.slots + 1 ≡ length longer
  slots_more = omega (arith, slots_are log kept is holds, long)

  shard_is : kept.shard ≡ log.shard
  shard_is = ap (λ (k : KeptLog). k.shard) is

  rest_is : kept.uncovered ++ leaf ∷ [] ≡ drop (16 * count log) longer
  rest_is =
      ap (λ (xs : List (List ℕ)). xs ++ leaf ∷ []) (uncovered_is log kept is holds)
      ∙ sym (drop-append-le (16 * count log) log.leaves (leaf ∷ []) from)

  -- ---- which no checkpoint covers yet

  module _ (few : length kept.uncovered + 1 < 16) where
    abbrev open_log : Log
    open_log = record { shard = log.shard; leaves = longer; table_roots = log.table_roots }

    not_whole : ((length log.leaves + 1) % 16 == 0) ≡ false
    not_whole = ne_eqb ((length log.leaves + 1) % 16) 0 (λ e. omega (arith, e, few, over, from))

    still_covered : covered_below open_log (count log) ≡ covered_below log (count log)
    still_covered =
        below_stays log open_log (leaf ∷ []) [] refl refl (sym (append-nil log.table_roots)) (count log) from (omega arith)

    pub goes_on : more_kept ≡ kept_of (with_slot leaf root log)
    goes_on =
        let same : kept_of open_log ≡ kept_of (with_slot leaf root log) = rw not_whole refl in
        let here : more_kept ≡ kept_of open_log = λ i. record {
          shard = shard_is i;
          slots = slots_more i;
          covered = (covered_is log kept is ∙ ap (λ (cs : List Covered). drop (cut_slot log / 16) cs) (sym still_covered)) i;
          uncovered = rest_is i;
          heads = (heads_are log kept is ∙ ap (λ (cs : List Covered). map head_in cs) (sym still_covered)) i;
        } in
        here ∙ same

    pub none_made : None ≡ made_last (with_slot leaf root log)
    none_made =
        let is_not : (length longer % 16 == 0) ≡ false = ap (λ (n : ℕ). n % 16 == 0) long ∙ not_whole in
        sym (rw is_not refl)

  -- ---- which the next checkpoint covers

  module _ (last : length kept.uncovered + 1 ≡ 16) where
    abbrev next_log : Log
    next_log = record { shard = log.shard; leaves = longer; table_roots = log.table_roots ++ root ∷ [] }

    whole : ((length log.leaves + 1) % 16 == 0) ≡ true
    whole = eq-eqb ((length log.leaves + 1) % 16) 0 (omega (arith, last, over, from))

    one_more : count next_log ≡ suc (count log)
    one_more = omega (arith, length_push log.table_roots root)

    same_log : next_log ≡ with_slot leaf root log
    same_log = sym (rw whole refl)

    all_next : all_covered next_log ≡ all_covered log ++ covered_of next_log (count log) ∷ []
    all_next =
        ap (λ (n : ℕ). covered_below next_log n) one_more
        ∙ ap (λ (cs : List Covered). cs ++ covered_of next_log (count log) ∷ [])
        (below_stays log next_log (leaf ∷ []) (root ∷ []) refl refl refl (count log) from (omega arith))

    part_is : kept.uncovered ++ leaf ∷ [] ≡ take 16 (drop (16 * count log) longer)
    part_is =
        rest_is
        ∙ sym (take_all 16 (drop (16 * count log) longer)
        (omega (arith, length-drop (16 * count log) longer, long, last, over, from)))

    module _ (c : Checkpoint) (c_is : c ≡ next_behind kept.shard kept.heads (kept.uncovered ++ leaf ∷ []) root) where
      previous_is : last_head kept.heads ≡ head_before next_log (count log)
      previous_is =
          ap last_head (heads_are log kept is) ∙ last_before log (count log)
          ∙ sym (head_stays log next_log (leaf ∷ []) (root ∷ []) refl refl refl (count log) from (omega arith))

      root_is : root ≡ get_or next_log.table_roots (count log) []
      root_is = sym (get_or_push log.table_roots root [] (count log) refl)

      pub next_is : c ≡ checkpoint_of next_log (count log)
      next_is =
          let here : next_behind kept.shard kept.heads (kept.uncovered ++ leaf ∷ []) root ≡ checkpoint_of next_log (count log) =
          λ i. record {
            shard = shard_is i;
            number = heads_long log kept is i;
            previous = previous_is i;
            leaf_root = merkle_tree_hash (part_is i);
            table_root = root_is i;
            leaves = 16;
          } in
          c_is ∙ here

      covers_it : Path Covered (record { checkpoint = c; leaves = kept.uncovered ++ leaf ∷ [] }) (covered_of next_log (count log))
      covers_it = λ i. record { checkpoint = next_is i; leaves = part_is i }

      covered_next : cut_first (kept.covered ++ record { checkpoint = c; leaves = kept.uncovered ++ leaf ∷ [] } ∷ [])
          ≡ drop (cut_slot next_log / 16) (all_covered next_log)
      covered_next =
          (λ i. cut_first (covered_is log kept is i ++ covers_it i ∷ []))
          ∙ last_ones (all_covered log) (covered_of next_log (count log)) (cut_slot log / 16) (cut_slot next_log / 16)
          (omega (arith, below_long log (count log))) (omega (arith, below_long log (count log), one_more))
          ∙ ap (λ (cs : List Covered). drop (cut_slot next_log / 16) cs) (sym all_next)

      heads_next : kept.heads ++ head_of c ∷ [] ≡ map head_in (all_covered next_log)
      heads_next =
          (λ i. heads_are log kept is i ++ head_of (next_is i) ∷ [])
          ∙ sym (map_push head_in (all_covered log) (covered_of next_log (count log)))
          ∙ ap (λ (cs : List Covered). map head_in cs) (sym all_next)

      nothing_left : [] ≡ drop (16 * count next_log) longer
      nothing_left =
          sym (drop_all (16 * count next_log) longer (omega (arith, one_more, long, last, over, from)))

      pub covers : with_checkpoint c more_kept ≡ kept_of (with_slot leaf root log)
      covers =
          let here : with_checkpoint c more_kept ≡ kept_of next_log = λ i. record {
            shard = shard_is i;
            slots = slots_more i;
            covered = covered_next i;
            uncovered = nothing_left i;
            heads = heads_next i;
          } in
          here ∙ ap kept_of same_log

      pub last_made : Some c ≡ made_last (with_slot leaf root log)
      last_made =
          let is_whole : (length longer % 16 == 0) ≡ true = ap (λ (n : ℕ). n % 16 == 0) long ∙ whole in
          let number : count next_log - 1 ≡ count log = omega (arith, one_more) in
          let here : made_last next_log ≡ Some c =
          (rw is_whole refl) ∙ ap (λ (k : ℕ). Some (checkpoint_of next_log k)) number ∙ ap Some (sym next_is) in
          sym here ∙ ap made_last same_log

-- a checkpoint that a log made covers 16 leaves
pub last-covers : (log : Log) → IfSome (made_last log) (λ checkpoint. checkpoint.leaves ≡ COVERED)
last-covers log = by (length log.leaves % COVERED == 0)
  where
    by : (b : Bool) → IfSome (cond b (Some (checkpoint_of log (length log.table_roots - 1))) None) (λ checkpoint. checkpoint.leaves ≡ COVERED)
    by true = refl
    by false = tt

-- ---- a slot that is kept

-- the leaf of a slot is the one at its place
at_slot : (log : Log) (slot : ℕ) (leaf : List ℕ) → slice_get (covered_leaves log (slot / 16)) (slot % 16) ≡ Some leaf →
    slice_get log.leaves slot ≡ Some leaf
at_slot log slot leaf there =
    let from = 16 * (slot / 16) in
    let rest = drop from log.leaves in
    let within = slice_get_within (take 16 rest) (slot % 16) leaf there in
    let sum : from + slot % 16 ≡ slot = omega arith in
    let inside : slot < length log.leaves =
    omega (arith, within, sum, length-take 16 rest, length-drop from log.leaves) in
    let low : slot % 16 < 16 = omega arith in
    slice_get-get_or log.leaves slot leaf inside
    ∙ ap Some (ap (λ (i : ℕ). get_or log.leaves i leaf) (sym sum)
    ∙ sym (get_or-drop from log.leaves (slot % 16) leaf) ∙ sym (get_or-take 16 rest (slot % 16) leaf low)
    ∙ get_or_from_slice_get (take 16 rest) (slot % 16) leaf leaf there)

pub proof_is : (log : Log) (slot : ℕ) (c : Covered) (p : Proof) → c ≡ covered_of log (slot / 16) →
    IsProofAt c (slot % 16) p → IsProofOf log slot p
proof_is log slot c p is at =
    let there = ap (λ (d : Covered). slice_get d.leaves (slot % 16)) (sym is) ∙ at.leaf in
    record {
      checkpoint = at.checkpoint ∙ ap (λ (d : Covered). d.checkpoint) is;
      place = at.place;
      leaf = at_slot log slot (leaf_encoding One p.leaf) there;
      leaf_fits = at.leaf_fits;
      path = at.path ∙ ap (λ (d : Covered). audit_path d.leaves (slot % 16)) is;
    }
