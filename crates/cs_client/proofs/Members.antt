-- Lists over the nodes of a shard, and over the shards.
use Rattle.std.proofs.Common.{◌≡◌, ℕ, zero, suc, ◌<◌, List, [], ◌∷◌, ◌++◌, length, map, inl, inr, refl, sym, ap, subst, ◌∙◌, arith, length-append}
use Rattle.std.specs.Prelude.{slice_set, slice_get, Some}
use Rattle.std.proofs.lemmas.List.{map-append, length-map, set_at, set-append_left}
use Rattle.std.proofs.lemmas.Bool.{cases_eq}
use Rattle.cs_base.specs.declared.node_id.NodeId.{NodeId}
use Rattle.cs_base.specs.NodeId.{members_below}
use Rattle.cs_client.specs.Nodes.{numbers_below}

abbrev pub node_at : ℕ → ℕ → NodeId
node_at shard index = record { shard = shard; index = index }

pub length-members : (shard n : ℕ) → length (members_below shard n) ≡ n
length-members shard zero = refl
length-members shard (suc n) =
    let before = length-members shard n in
    length-append (members_below shard n) (node_at shard n ∷ []) ∙ omega arith

pub length-shards : (n : ℕ) → length (numbers_below n) ≡ n
length-shards zero = refl
length-shards (suc n) = let before = length-shards n in length-append (numbers_below n) (n ∷ []) ∙ omega arith

module _ {A : Type 0} where
  -- one more at the end, on both sides
  both-more : {X : Type 0} (F G : X → A) (xs : List X) (x : X) → map F xs ≡ map G xs → F x ≡ G x → map F (xs ++ x ∷ []) ≡ map G (xs ++ x ∷ [])
  both-more F G xs x front last =
      map-append F xs (x ∷ []) ∙ (ap (λ ys. ys ++ F x ∷ []) front ∙ (ap (λ y. map G xs ++ y ∷ []) last ∙ sym (map-append G xs (x ∷ []))))

  -- two functions that agree at all nodes of a shard
  pub same-members : (F G : NodeId → A) (shard n : ℕ) → ((i : ℕ) → i < n → F (node_at shard i) ≡ G (node_at shard i)) → map F (members_below shard n) ≡ map G (members_below shard n)
  same-members F G shard zero same = refl
  same-members F G shard (suc n) same =
      both-more F G (members_below shard n) (node_at shard n) (same-members F G shard n (λ i h. same i (omega arith))) (same n (omega arith))

  pub same-shards : (F G : ℕ → A) (n : ℕ) → ((i : ℕ) → i < n → F i ≡ G i) → map F (numbers_below n) ≡ map G (numbers_below n)
  same-shards F G zero same = refl
  same-shards F G (suc n) same =
      both-more F G (numbers_below n) n (same-shards F G n (λ i h. same i (omega arith))) (same n (omega arith))

  pub same-each : {X : Type 0} (F G : X → A) (xs : List X) → ((x : X) → F x ≡ G x) → map F xs ≡ map G xs
  same-each F G [] same = refl
  same-each F G (x ∷ xs) same = ap (λ y. y ∷ map F xs) (same x) ∙ ap (λ ys. G x ∷ ys) (same-each F G xs same)

  -- the last one is another
  last-set : {X : Type 0} (F G : X → A) (xs : List X) (x : X) (n : ℕ) (word : A) → length xs ≡ n → map G xs ≡ map F xs → G x ≡ word → map G (xs ++ x ∷ []) ≡ slice_set (map F (xs ++ x ∷ [])) n word
  last-set F G xs x n word long front last =
      map-append G xs (x ∷ []) ∙ (ap (λ ys. ys ++ G x ∷ []) front ∙ (ap (λ y. map F xs ++ y ∷ []) last
      ∙ (sym (set_at (map F xs) (F x) [] word n (length-map xs F ∙ long)) ∙ ap (λ ys. slice_set ys n word) (sym (map-append F xs (x ∷ []))))))

  -- one before the last is another
  front-set : {X : Type 0} (F G : X → A) (xs : List X) (x : X) (index : ℕ) (word : A) → index < length xs → map G xs ≡ slice_set (map F xs) index word → G x ≡ F x → map G (xs ++ x ∷ []) ≡ slice_set (map F (xs ++ x ∷ [])) index word
  front-set F G xs x index word less front last =
      let within : index < length (map F xs) = let e = length-map xs F in omega arith in
      map-append G xs (x ∷ []) ∙ (ap (λ ys. ys ++ G x ∷ []) front ∙ (ap (λ y. slice_set (map F xs) index word ++ y ∷ []) last
      ∙ (sym (set-append_left (map F xs) (F x ∷ []) index word within) ∙ ap (λ ys. slice_set ys index word) (sym (map-append F xs (x ∷ []))))))

  -- two functions that agree at all nodes of a shard but one
  pub set-members : (F G : NodeId → A) (shard n index : ℕ) (word : A) → index < n → G (node_at shard index) ≡ word
      → ((i : ℕ) → i < n → (i ≡ index → ⊥) → G (node_at shard i) ≡ F (node_at shard i))
      → map G (members_below shard n) ≡ slice_set (map F (members_below shard n)) index word
  set-members F G shard zero index word less here others = absurd (omega arith)
  set-members F G shard (suc n) index word less here others =
      elim (cases_eq index n) [
        | inl same ↦ rw same (last-set F G (members_below shard n) (node_at shard n) n word (length-members shard n)
            (same-members G F shard n (λ i h. others i (omega arith) (λ e. omega (arith, same, e))))
            (rw (← same) here))
        | inr other ↦
            let long = length-members shard n in
            front-set F G (members_below shard n) (node_at shard n) index word (omega (arith, other))
            (set-members F G shard n index word (omega (arith, other)) here (λ i h. others i (omega arith)))
            (others n (omega arith) (λ e. other (sym e)))
      ]

  pub set-shards : (F G : ℕ → A) (n index : ℕ) (word : A) → index < n → G index ≡ word
      → ((i : ℕ) → i < n → (i ≡ index → ⊥) → G i ≡ F i)
      → map G (numbers_below n) ≡ slice_set (map F (numbers_below n)) index word
  set-shards F G zero index word less here others = absurd (omega arith)
  set-shards F G (suc n) index word less here others =
      elim (cases_eq index n) [
        | inl same ↦ rw same (last-set F G (numbers_below n) n n word (length-shards n)
            (same-shards G F n (λ i h. others i (omega arith) (λ e. omega (arith, same, e))))
            (rw (← same) here))
        | inr other ↦
            let long = length-shards n in
            front-set F G (numbers_below n) n index word (omega (arith, other))
            (set-shards F G n index word (omega (arith, other)) here (λ i h. others i (omega arith)))
            (others n (omega arith) (λ e. other (sym e)))
      ]

  -- each of these is changed alike
  pub each-changed : {X : Type 0} (F G : X → A) (h : A → A) (xs : List X) → ((x : X) → G x ≡ h (F x)) → map G xs ≡ map h (map F xs)
  each-changed F G h [] same = refl
  each-changed F G h (x ∷ xs) same = ap (λ y. y ∷ map G xs) (same x) ∙ ap (λ ys. h (F x) ∷ ys) (each-changed F G h xs same)

  get-left : (xs ys : List A) (k : ℕ) (x : A) → slice_get xs k ≡ Some x → slice_get (xs ++ ys) k ≡ Some x
  get-left [] ys k x is = absurd cc
  get-left (y ∷ xs) ys zero x is = is
  get-left (y ∷ xs) ys (suc k) x is = get-left xs ys k x is

  get-seam : (xs : List A) (y : A) → slice_get (xs ++ y ∷ []) (length xs) ≡ Some y
  get-seam [] y = refl
  get-seam (x ∷ xs) y = get-seam xs y

  pub get-shards : (F : ℕ → A) (n k : ℕ) → k < n → slice_get (map F (numbers_below n)) k ≡ Some (F k)
  get-shards F zero k less = absurd (omega arith)
  get-shards F (suc n) k less =
      let e = map-append F (numbers_below n) (n ∷ []) in
      elim (cases_eq k n) [
        | inl same ↦
            let long : length (map F (numbers_below n)) ≡ n = length-map (numbers_below n) F ∙ length-shards n in
            rw (same, e) (subst (λ j. slice_get (map F (numbers_below n) ++ F n ∷ []) j ≡ Some (F n)) long (get-seam (map F (numbers_below n)) (F n)))
        | inr other ↦ rw e (get-left (map F (numbers_below n)) (F n ∷ []) k (F k) (get-shards F n k (omega (arith, other))))
      ]

  pub get-members : (F : NodeId → A) (shard n k : ℕ) → k < n → slice_get (map F (members_below shard n)) k ≡ Some (F (node_at shard k))
  get-members F shard zero k less = absurd (omega arith)
  get-members F shard (suc n) k less =
      let e = map-append F (members_below shard n) (node_at shard n ∷ []) in
      elim (cases_eq k n) [
        | inl same ↦
            let long : length (map F (members_below shard n)) ≡ n = length-map (members_below shard n) F ∙ length-members shard n in
            rw (same, e) (subst (λ j. slice_get (map F (members_below shard n) ++ F (node_at shard n) ∷ []) j ≡ Some (F (node_at shard n))) long (get-seam (map F (members_below shard n)) (F (node_at shard n))))
        | inr other ↦ rw e (get-left (map F (members_below shard n)) (F (node_at shard n) ∷ []) k (F (node_at shard k)) (get-members F shard n k (omega (arith, other))))
      ]
