-- What is found by its tail.
use Rattle.std.proofs.Common.{◌≡◌, ℕ, zero, suc, Bool, true, false, ◌&&◌, ◌||◌, cond, List, [], ◌∷◌, ◌++◌, slice_get, slice_set, Some, None, is_some, bytes_eq, refl, ap, sym, subst, ◌∙◌}
use Rattle.std.specs.Map.{lookup}
use Rattle.std.proofs.lemmas.Slice.Eq.{bytes_eq-Decides}
use Rattle.indexmap.specs.IndexMap.{insert_entry}
use Rattle.cs_base.specs.declared.node_id.NodeId.{NodeId}
use Rattle.cs_base.specs.NodeId.{same_name}
use Rattle.cs_node_rules.specs.Lines.{Parcel}
use Rattle.cs_replay_rules.specs.Play.{arrived}
use Rattle.cs_node_rules.specs.World.{was_sent}
use Rattle.cs_replay_play.specs.Post.{is_parcel, tail_of, IsNoted, AllNoted}

-- ---- what is noted

equal : (xs ys : List ℕ) → bytes_eq xs ys ≡ true → xs ≡ ys
equal xs ys is = (bytes_eq-Decides xs ys).0 is

same : (xs : List ℕ) → bytes_eq xs xs ≡ true
same xs = (bytes_eq-Decides xs xs).1 refl

-- what is entered is noted
entered : (numbers : List (List ℕ × ℕ)) (tail : List ℕ) (n : ℕ) → IsNoted (insert_entry bytes_eq numbers tail n) tail
entered [] tail n = ap (λ b. is_some (cond b (Some n) None)) (same tail)
entered (e ∷ numbers) tail n = by (bytes_eq tail e.0) refl (entered numbers tail n)
  where
    by : (b : Bool) → bytes_eq tail e.0 ≡ b → IsNoted (insert_entry bytes_eq numbers tail n) tail → IsNoted (cond b ((e.0, n) ∷ numbers) (e ∷ insert_entry bytes_eq numbers tail n)) tail
    by true is rest = ap (λ b. is_some (cond b (Some n) (lookup (bytes_eq tail) numbers))) is
    by false is rest = ap (λ b. is_some (cond b (Some e.1) (lookup (bytes_eq tail) (insert_entry bytes_eq numbers tail n)))) is ∙ rest

-- and what was noted is
later : (numbers : List (List ℕ × ℕ)) (tail other : List ℕ) (n : ℕ) → IsNoted numbers other → IsNoted (insert_entry bytes_eq numbers tail n) other
later [] tail other n noted = let q : false ≡ true = noted in absurd (cc)
later (e ∷ numbers) tail other n noted = by (bytes_eq tail e.0) (bytes_eq other e.0) refl noted (later numbers tail other n)
  where
    by : (b c : Bool) → bytes_eq other e.0 ≡ c → is_some (cond c (Some e.1) (lookup (bytes_eq other) numbers)) ≡ true → (IsNoted numbers other → IsNoted (insert_entry bytes_eq numbers tail n) other)
        → IsNoted (cond b ((e.0, n) ∷ numbers) (e ∷ insert_entry bytes_eq numbers tail n)) other
    by true true is here rest = ap (λ c. is_some (cond c (Some n) (lookup (bytes_eq other) numbers))) is
    by true false is here rest = ap (λ c. is_some (cond c (Some n) (lookup (bytes_eq other) numbers))) is ∙ here
    by false true is here rest = ap (λ c. is_some (cond c (Some e.1) (lookup (bytes_eq other) (insert_entry bytes_eq numbers tail n)))) is
    by false false is here rest = ap (λ c. is_some (cond c (Some e.1) (lookup (bytes_eq other) (insert_entry bytes_eq numbers tail n)))) is ∙ rest here

pub all-later : (numbers : List (List ℕ × ℕ)) (tail : List ℕ) (n : ℕ) (parcels : List Parcel) → AllNoted numbers parcels → AllNoted (insert_entry bytes_eq numbers tail n) parcels
all-later numbers tail n [] all = tt
all-later numbers tail n (parcel ∷ parcels) all = (later numbers tail (tail_of parcel.bytes) n all.0, all-later numbers tail n parcels all.1)

pub all-push : (numbers : List (List ℕ × ℕ)) (tail : List ℕ) (n : ℕ) (parcels : List Parcel) (parcel : Parcel) → AllNoted numbers parcels → tail ≡ tail_of parcel.bytes
    → AllNoted (insert_entry bytes_eq numbers tail n) (parcels ++ parcel ∷ [])
all-push numbers tail n [] parcel all is = (subst (λ t. IsNoted (insert_entry bytes_eq numbers tail n) t) is (entered numbers tail n), tt)
all-push numbers tail n (first ∷ parcels) parcel all is = (later numbers tail (tail_of first.bytes) n all.0, all-push numbers tail n parcels parcel all.1 is)

pub all-arrived : (numbers : List (List ℕ × ℕ)) (parcels : List Parcel) (k : ℕ) (parcel : Parcel) → AllNoted numbers parcels → slice_get parcels k ≡ Some parcel → AllNoted numbers (slice_set parcels k (arrived parcel))
all-arrived numbers [] k parcel all is = tt
all-arrived numbers (first ∷ parcels) zero parcel all is =
    let here : first ≡ parcel = let q : Some first ≡ Some parcel = is in cc in
    (subst (λ (p : Parcel). IsNoted numbers (tail_of p.bytes)) here all.0, all.1)
all-arrived numbers (first ∷ parcels) (suc k) parcel all is = (all.0, all-arrived numbers parcels k parcel all.1 is)

-- ---- what was sent

both-true : (a b c : Bool) → (a && (b && c)) ≡ true → c ≡ true
both-true true true c is = is
both-true true false c is = absurd (cc)
both-true false b c is = absurd (cc)

or-cases : (a b : Bool) → (a ≡ true → ⊥) → b ≡ false → (a || b) ≡ false
or-cases true b never rest = absurd (never refl)
or-cases false b never rest = rest

-- what ends like none of them is none of them
pub not-sent : (numbers : List (List ℕ × ℕ)) (from to : NodeId) (bytes : List ℕ) (parcels : List Parcel) → AllNoted numbers parcels → None ≡ lookup (bytes_eq (tail_of bytes)) numbers → was_sent from to bytes parcels ≡ false
not-sent numbers from to bytes [] all none = refl
not-sent numbers from to bytes (parcel ∷ parcels) all none =
    or-cases (is_parcel from to bytes parcel) (was_sent from to bytes parcels)
    (λ is.
    let ends : parcel.bytes ≡ bytes = equal parcel.bytes bytes (both-true (same_name parcel.from from) (same_name parcel.to to) (bytes_eq parcel.bytes bytes) is) in
    let noted : IsNoted numbers (tail_of bytes) = subst (λ bs. IsNoted numbers (tail_of bs)) ends all.0 in
    let q : false ≡ true = ap is_some none ∙ noted in
    cc)
    (not-sent numbers from to bytes parcels all.1 none)

pub sent-at : (from to : NodeId) (bytes : List ℕ) (parcels : List Parcel) (k : ℕ) (parcel : Parcel) → Some parcel ≡ slice_get parcels k → is_parcel from to bytes parcel ≡ true → was_sent from to bytes parcels ≡ true
sent-at from to bytes [] k parcel at is = let q : Some parcel ≡ None = at in absurd (cc)
sent-at from to bytes (first ∷ parcels) zero parcel at is =
    let here : parcel ≡ first = let q : Some parcel ≡ Some first = at in cc in
    subst (λ (p : Parcel). (is_parcel from to bytes p || was_sent from to bytes parcels) ≡ true) here (ap (λ b. b || was_sent from to bytes parcels) is)
sent-at from to bytes (first ∷ parcels) (suc k) parcel at is = or-right (is_parcel from to bytes first) (was_sent from to bytes parcels) (sent-at from to bytes parcels k parcel at is)
  where
    or-right : (a b : Bool) → b ≡ true → (a || b) ≡ true
    or-right true b is = refl
    or-right false b is = is

-- either way of looking answers alike
pub either-way : (found all : Bool) → (found ≡ true → all ≡ true) → (found || all) ≡ all
either-way true all is = sym (is refl)
either-way false all is = refl
