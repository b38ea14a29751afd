-- Names and rows that grow by one at their end.
use Rattle.std.proofs.Common.{add-one, length, take, get_or, ◌≡◌, ℕ, ◌+◌, ◌<◌, ◌≤◌, ◌⊎◌, ◌≢◌, inl, inr, Bool, true, false, cond, List, [], ◌∷◌, ◌++◌, Option, Some, None, refl, sym, ap, ◌∙◌, arith}
use Rattle.std.specs.Prelude.{◌&&◌, ◌||◌, not, ◌==◌, nat_lt}
use Rattle.std.proofs.Math.Seq.{take-suc}
use Rattle.std.proofs.lemmas.Bool.{cases_lt, lt-ltb, le-ltb}
use Rattle.std.proofs.lemmas.Bool.Decides.{eqb_tells}
use Rattle.cs_base.specs.Options.{or_else}
use Rattle.cs_base.specs.declared.node_id.NodeId.{NodeId}
use Rattle.cs_wire.specs.declared.keys.Row.{Row}
use Rattle.cs_wire.specs.Keys.{row_of_peer, row_between, row_expected}
use Rattle.cs_wire.specs.AllNames.{has_name}
use Rattle.cs_base.specs.NodeId.{same_name}
use Rattle.cs_wire.proofs.Parts.{are_same}

or_assoc : (a b c : Bool) → (a || (b || c)) ≡ ((a || b) || c)
or_assoc true b c = refl
or_assoc false b c = refl

or_false : (a : Bool) → (a || false) ≡ a
or_false true = refl
or_false false = refl

pub has_more : (name last : NodeId) (names : List NodeId) → has_name name (names ++ last ∷ []) ≡ (has_name name names || same_name last name)
has_more name last [] = or_false (same_name last name)
has_more name last (other ∷ names) = ap (λ b. same_name other name || b) (has_more name last names) ∙ or_assoc (same_name other name) (has_name name names) (same_name last name)

or_else_when : (test : Bool) (row : Row) (rest later : Option Row) → or_else (cond test (Some row) rest) later ≡ cond test (Some row) (or_else rest later)
or_else_when true row rest later = refl
or_else_when false row rest later = refl

pub row_more : (peer : NodeId) (last : Row) (rows : List Row) → row_of_peer peer (rows ++ last ∷ []) ≡ or_else (row_of_peer peer rows) (cond (same_name last.peer peer) (Some last) None)
row_more peer last [] = refl
row_more peer last (row ∷ rows) =
    ap (λ (r : Option Row). cond (same_name row.peer peer) (Some row) r) (row_more peer last rows)
    ∙ sym (or_else_when (same_name row.peer peer) row (row_of_peer peer rows) (cond (same_name last.peer peer) (Some last) None))

-- ---- the names of members, one after the other

next_le : (i k : ℕ) → i ≤ k → i ≢ k → i + 1 ≤ k
next_le i k le other = elim (cases_lt i k) as (λ (s : (i < k) ⊎ (k ≤ i)). i + 1 ≤ k) [
  | inl lt ↦ omega (arith, lt)
  | inr ge ↦ absurd (other (omega (arith, le, ge)))
]

or_self : (m : Bool) → (m || m) ≡ m
or_self true = refl
or_self false = refl

lt_more : (k i : ℕ) → nat_lt k (i + 1) ≡ (nat_lt k i || (i == k))
lt_more k i =
    elim (cases_lt k i) as (λ (s : (k < i) ⊎ (i ≤ k)). nat_lt k (i + 1) ≡ (nat_lt k i || (i == k))) [
      | inl lt ↦ rw (lt-ltb k (i + 1) (omega (arith, lt)), lt-ltb k i lt) refl
      | inr le ↦ elim (eqb_tells i k) as (λ (t : ((i == k ≡ true) × (i ≡ k)) ⊎ ((i == k ≡ false) × (i ≢ k))). nat_lt k (i + 1) ≡ (nat_lt k i || (i == k))) [
        | inl same ↦ rw (lt-ltb k (i + 1) (omega (arith, same.1)), le-ltb k i le, same.0) refl
        | inr other ↦ rw (le-ltb k (i + 1) (next_le i k le other.1), le-ltb k i le, other.0) refl
      ]
    ]

next_or : (a b l e : Bool) → ((a || (b && l)) || (b && e)) ≡ (a || (b && (l || e)))
next_or true b l e = refl
next_or false true l e = refl
next_or false false l e = refl

pub member_more : (name : NodeId) (shard i : ℕ) (names : List NodeId) (before : Bool) → has_name name names ≡ (before || ((shard == name.shard) && nat_lt name.index i))
    → has_name name (names ++ record { shard = shard; index = i } ∷ []) ≡ (before || ((shard == name.shard) && nat_lt name.index (i + 1)))
member_more name shard i names before so_far =
    has_more name (record { shard = shard; index = i }) names
    ∙ ap (λ b. b || ((shard == name.shard) && (i == name.index))) so_far
    ∙ next_or before (shard == name.shard) (nat_lt name.index i) (i == name.index)
    ∙ ap (λ b. before || ((shard == name.shard) && b)) (sym (lt_more name.index i))

next_and : (l e m : Bool) → ((l && m) || (e && m)) ≡ ((l || e) && m)
next_and true true m = or_self m
next_and true false m = or_false m
next_and false e m = refl

pub shard_more : (name : NodeId) (i members : ℕ) (old new : List NodeId) → has_name name old ≡ (nat_lt name.shard i && nat_lt name.index members) → has_name name new ≡ (has_name name old || ((i == name.shard) && nat_lt name.index members))
    → has_name name new ≡ (nat_lt name.shard (i + 1) && nat_lt name.index members)
shard_more name i members old new so_far added =
    added
    ∙ ap (λ b. b || ((i == name.shard) && nat_lt name.index members)) so_far
    ∙ next_and (nat_lt name.shard i) (i == name.shard) (nat_lt name.index members)
    ∙ ap (λ b. b && nat_lt name.index members) (sym (lt_more name.shard i))

-- ---- rows, one after the other

step : (one same mine : Bool) (row last : Row) → (same ≡ true → (last ≡ row) × (mine ≡ false)) → or_else (cond (one && not mine) (Some row) None) (cond same (Some last) None) ≡ cond ((one || same) && not mine) (Some row) None
step true same false row last h = refl
step true true true row last h = let m = (h refl).1 in absurd cc
step true false true row last h = refl
step false false mine row last h = refl
step false true true row last h = let m = (h refl).1 in absurd cc
step false true false row last h = ap (λ (r : Row). Some r) (h refl).0

skip : (one same mine : Bool) (row : Row) → (same ≡ true → mine ≡ true) → cond (one && not mine) (Some row) None ≡ cond ((one || same) && not mine) (Some row) None
skip true same mine row h = refl
skip false false mine row h = refl
skip false true true row h = refl
skip false true false row h = let m = h refl in absurd cc

not_true : (b : Bool) → not b ≡ true → b ≡ false
not_true true e = absurd cc
not_true false e = refl

pub row_added : (master : List ℕ) (me peer name : NodeId) (rows : List Row) (is_one : Bool) → same_name name me ≡ false → row_of_peer peer rows ≡ row_expected master me is_one peer
    → row_of_peer peer (rows ++ row_between master me name ∷ []) ≡ row_expected master me (is_one || same_name name peer) peer
row_added master me peer name rows is_one other so_far =
    row_more peer (row_between master me name) rows
    ∙ ap (λ (r : Option Row). or_else r (cond (same_name name peer) (Some (row_between master me name)) None)) so_far
    ∙ step is_one (same_name name peer) (same_name peer me) (row_between master me peer) (row_between master me name)
    (λ same. let is = are_same name peer same in (ap (row_between master me) is, ap (λ (n : NodeId). same_name n me) (sym is) ∙ other))

pub row_skipped : (master : List ℕ) (me peer name : NodeId) (rows : List Row) (is_one : Bool) → same_name name me ≡ true → row_of_peer peer rows ≡ row_expected master me is_one peer
    → row_of_peer peer rows ≡ row_expected master me (is_one || same_name name peer) peer
row_skipped master me peer name rows is_one mine so_far =
    so_far
    ∙ skip is_one (same_name name peer) (same_name peer me) (row_between master me peer)
    (λ same. let is = are_same name peer same in ap (λ (n : NodeId). same_name n me) (sym is) ∙ mine)

-- one name more was taken from a list
pub taken_more : (peer : NodeId) (names : List NodeId) (i : ℕ) (d : NodeId) → i < length names → has_name peer (take (i + 1) names) ≡ (has_name peer (take i names) || same_name (get_or names i d) peer)
taken_more peer names i d lt = ap (has_name peer) (rw add-one (take-suc names i d lt)) ∙ has_more peer (get_or names i d) (take i names)
