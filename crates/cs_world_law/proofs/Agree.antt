-- Of two honest nodes of one shard, where both have executed so many actions they executed the same ones, in the same
-- places; and those that come later by number come later by place.
use Rattle.std.proofs.Common.{◌≡◌, ◌⊎◌, inl, inr, ℕ, zero, suc, ◌+◌, ◌<◌, ◌≤◌, ◌==◌, Bool, true, false, if◌then◌else◌, List, [], ◌∷◌, ◌++◌, length, Some, sym, ◌∙◌, ap, subst, refl, arith}
use Rattle.std.specs.Prelude.{slice_get, take}
use Rattle.std.proofs.lemmas.Bool.{eqb-true}
use Rattle.std.proofs.lemmas.List.{length-append}
use Rattle.cs_base.specs.declared.node_id.NodeId.{NodeId}
use Rattle.cs_order.specs.declared.proposed.Proposed.{Proposed}
use Rattle.cs_order.specs.declared.answers.Step.TheVariants.{Chosen, Moved, Quiet}
use Rattle.cs_order.specs.laws.Lists.{slice_get-left}
use Rattle.cs_order.specs.Deeds.{Deed, Took_in, Advanced, Echoed, Proposing, Ticked, Resent, Replied, Cut, Member, chosen_in}
use Rattle.cs_order.specs.Runs.{deeds_of}
use Rattle.cs_ledger.specs.Table.{Effect}
use Rattle.cs_node_rules.specs.Signs.{Sign, Dropped, Took, Entered, Viewed, Did, Headed, Kept, Sent}
use Rattle.cs_node_rules.specs.Site.{Mark, In, Ordered, Plain, Site, signs_of}
use Rattle.cs_tx_types.specs.declared.action.Action.{Action}
use Rattle.cs_node_law.specs.Made.{view_at, log_in, actions_in, NodeExecutes, AllMade}
use Rattle.cs_world_law.specs.Worlds.{is_honest}
use Rattle.cs_world_law.specs.Steps.{Run}
use Rattle.cs_world_law.specs.Chain.{Moment, trail_at, Known, Story, IsSoundSite, shard_acts, runs_in}
use Rattle.cs_world_law.proofs.Deeds.{deeds_in, member-is}
use Rattle.cs_world_law.proofs.Trails.{made-all, deeds-same}
use Rattle.cs_world_law.proofs.Lawful.{AreLawful}
use Rattle.cs_world_law.proofs.Older.{at_slot}

-- ---- numbers and lists

pub got-below : {A : Type 0} (xs : List A) (n : ℕ) (x : A) → slice_get xs n ≡ Some x → n < length xs
got-below {A} [] n x e = absurd cc
got-below {A} (y ∷ xs) zero x e = omega arith
got-below {A} (y ∷ xs) (suc n) x e = let h = got-below xs n x e in omega (arith, h)

take-left : {A : Type 0} (xs ys : List A) (n : ℕ) (x : A) → slice_get xs n ≡ Some x → take n (xs ++ ys) ≡ take n xs
take-left {A} [] ys n x e = absurd cc
take-left {A} (z ∷ xs) ys zero x e = refl
take-left {A} (z ∷ xs) ys (suc n) x e = ap (λ (l : List A). z ∷ l) (take-left xs ys n x e)

pub order-of : (a b : ℕ) → (a < b) ⊎ ((a ≡ b) ⊎ (b < a))
order-of zero zero = inr (inl refl)
order-of zero (suc b) = inl (omega arith)
order-of (suc a) zero = inr (inr (omega arith))
order-of (suc a) (suc b) = elim (order-of a b) [
  | inl less ↦ inl (omega (arith, less))
  | inr rest ↦ elim rest [ inl same ↦ inr (inl (ap suc same)) | inr more ↦ inr (inr (omega (arith, more))) ]
]

-- the actions that a node executed, and those in their places, are as many
pub runs-count : (signs : List Sign) → length (runs_in signs) ≡ length (log_in signs)
runs-count [] = refl
runs-count (Did slot place action effect ∷ past) = ap suc (runs-count past)
runs-count (Dropped cause ∷ past) = runs-count past
runs-count (Took sender vote x ∷ past) = runs-count past
runs-count (Entered x ∷ past) = runs-count past
runs-count (Viewed slot view ∷ past) = runs-count past
runs-count (Headed number head ∷ past) = runs-count past
runs-count (Kept index checkpoint ∷ past) = runs-count past
runs-count (Sent to said ∷ past) = runs-count past

-- ---- places of what was chosen

abbrev pub run_at : ℕ → ℕ → Action → Run
run_at slot place action = record { slot = slot; place = place; action = action }

-- two lists have the same in each slot that both have
abbrev pub AreAlike : List Proposed → List Proposed → Type 0
AreAlike ps qs = (slot : ℕ) (p q : Proposed) → slice_get ps slot ≡ Some p → slice_get qs slot ≡ Some q → p ≡ q

-- it comes before the other
abbrev pub ComesBefore : Run → Run → Type 0
ComesBefore a b = (a.slot < b.slot) ⊎ ((a.slot ≡ b.slot) × (a.place < b.place))

module _ {M : Type 0} (site : Site M) where
  abbrev pub size : Proposed → ℕ
  size p = length (site.entry_in p).actions

  -- the actions of the slots before this one
  abbrev pub front : List Proposed → ℕ → ℕ
  front chosen slot = length (actions_in site (take slot chosen))

  -- an action of what was chosen has this number among them all, in its place
  pub record IsPlaced (chosen : List Proposed) (number : ℕ) (run : Run) : Type 0 where
    pub proposed : Proposed
    pub there : slice_get chosen run.slot ≡ Some proposed
    pub within : slice_get (site.entry_in proposed).actions run.place ≡ Some run.action
    pub number_is : number ≡ front chosen run.slot + run.place

  front-next : (p : Proposed) (chosen : List Proposed) (slot : ℕ) → front (p ∷ chosen) (suc slot) ≡ size p + front chosen slot
  front-next p chosen slot = length-append (site.entry_in p).actions (actions_in site (take slot chosen))

  -- so many actions stand before a slot that both have
  pub front-alike : (ps qs : List Proposed) → AreAlike ps qs → (slot : ℕ) (p q : Proposed) → slice_get ps slot ≡ Some p → slice_get qs slot ≡ Some q → front ps slot ≡ front qs slot
  front-alike [] qs alike slot p q x y = absurd cc
  front-alike (a ∷ ps) [] alike slot p q x y = absurd cc
  front-alike (a ∷ ps) (b ∷ qs) alike zero p q x y = refl
  front-alike (a ∷ ps) (b ∷ qs) alike (suc slot) p q x y =
      let same : size a ≡ size b = ap (λ (z : Proposed). size z) (alike 0 a b refl refl) in
      let rest : front ps slot ≡ front qs slot = front-alike ps qs (λ n u v. alike (suc n) u v) slot p q x y in
      front-next a ps slot ∙ (λ i. same i + rest i) ∙ sym (front-next b qs slot)

  -- all of a slot stand before a later one
  pub front-later : (ps qs : List Proposed) → AreAlike ps qs → (s t : ℕ) (p q : Proposed) → slice_get ps s ≡ Some p → slice_get qs t ≡ Some q → s < t → front ps s + size p ≤ front qs t
  front-later [] qs alike s t p q x y less = absurd cc
  front-later (a ∷ ps) [] alike s t p q x y less = absurd cc
  front-later (a ∷ ps) (b ∷ qs) alike s zero p q x y less = absurd (omega arith)
  front-later (a ∷ ps) (b ∷ qs) alike zero (suc t) p q x y less =
      let here : a ≡ p = cc in
      let same : size p ≡ size b = ap (λ (z : Proposed). size z) (sym here ∙ alike 0 a b refl refl) in
      let next : front (b ∷ qs) (suc t) ≡ size b + front qs t = front-next b qs t in
      let none : front (a ∷ ps) zero ≡ 0 = refl in
      omega (arith, same, next, none)
  front-later (a ∷ ps) (b ∷ qs) alike (suc s) (suc t) p q x y less =
      let same : size a ≡ size b = ap (λ (z : Proposed). size z) (alike 0 a b refl refl) in
      let rest : front ps s + size p ≤ front qs t = front-later ps qs (λ n u v. alike (suc n) u v) s t p q x y (omega (arith, less)) in
      let one : front (a ∷ ps) (suc s) ≡ size a + front ps s = front-next a ps s in
      let two : front (b ∷ qs) (suc t) ≡ size b + front qs t = front-next b qs t in
      omega (arith, same, rest, one, two)

  -- where each entry has an action, so many stand before a slot at least
  pub front-low : (qs : List Proposed) → ((n : ℕ) (q : Proposed) → slice_get qs n ≡ Some q → 0 < size q) → (t : ℕ) (q : Proposed) → slice_get qs t ≡ Some q → t ≤ front qs t
  front-low [] some t q y = absurd cc
  front-low (b ∷ qs) some zero q y = omega arith
  front-low (b ∷ qs) some (suc t) q y =
      let here : 0 < size b = some 0 b refl in
      let rest : t ≤ front qs t = front-low qs (λ n. some (suc n)) t q y in
      let next : front (b ∷ qs) (suc t) ≡ size b + front qs t = front-next b qs t in
      omega (arith, here, rest, next)

  -- and one more for each slot between
  pub front-apart : (ps qs : List Proposed) → AreAlike ps qs → ((n : ℕ) (q : Proposed) → slice_get qs n ≡ Some q → 0 < size q)
      → (s t : ℕ) (p q : Proposed) → slice_get ps s ≡ Some p → slice_get qs t ≡ Some q → s < t → front ps s + size p + t ≤ front qs t + suc s
  front-apart [] qs alike some s t p q x y less = absurd cc
  front-apart (a ∷ ps) [] alike some s t p q x y less = absurd cc
  front-apart (a ∷ ps) (b ∷ qs) alike some s zero p q x y less = absurd (omega arith)
  front-apart (a ∷ ps) (b ∷ qs) alike some zero (suc t) p q x y less =
      let here : a ≡ p = cc in
      let same : size p ≡ size b = ap (λ (z : Proposed). size z) (sym here ∙ alike 0 a b refl refl) in
      let next : front (b ∷ qs) (suc t) ≡ size b + front qs t = front-next b qs t in
      let none : front (a ∷ ps) zero ≡ 0 = refl in
      let low : t ≤ front qs t = front-low qs (λ n. some (suc n)) t q y in
      omega (arith, same, next, none, low)
  front-apart (a ∷ ps) (b ∷ qs) alike some (suc s) (suc t) p q x y less =
      let same : size a ≡ size b = ap (λ (z : Proposed). size z) (alike 0 a b refl refl) in
      let rest : front ps s + size p + t ≤ front qs t + suc s = front-apart ps qs (λ n u v. alike (suc n) u v) (λ n. some (suc n)) s t p q x y (omega (arith, less)) in
      let one : front (a ∷ ps) (suc s) ≡ size a + front ps s = front-next a ps s in
      let two : front (b ∷ qs) (suc t) ≡ size b + front qs t = front-next b qs t in
      omega (arith, same, rest, one, two)

  -- a place before another has a lower number
  pub placed-lower : (ps qs : List Proposed) → AreAlike ps qs → (k l : ℕ) (a b : Run) → IsPlaced ps k a → IsPlaced qs l b → ComesBefore a b → k < l
  placed-lower ps qs alike k l a b u v (inl less) =
      let most = front-later ps qs alike a.slot b.slot u.proposed v.proposed u.there v.there less in
      let inside = got-below (site.entry_in u.proposed).actions a.place a.action u.within in
      omega (arith, most, inside, u.number_is, v.number_is)
  placed-lower ps qs alike k l a b u v (inr same) =
      let at : slice_get ps b.slot ≡ Some u.proposed = ap (λ (n : ℕ). slice_get ps n) (sym same.0) ∙ u.there in
      let fronts : front ps b.slot ≡ front qs b.slot = front-alike ps qs alike b.slot u.proposed v.proposed at v.there in
      let here : front ps a.slot ≡ front ps b.slot = ap (λ (n : ℕ). front ps n) same.0 in
      omega (arith, same.1, fronts, here, u.number_is, v.number_is)

  run-order : (a b : Run) → ComesBefore a b ⊎ (((a.slot ≡ b.slot) × (a.place ≡ b.place)) ⊎ ComesBefore b a)
  run-order a b = elim (order-of a.slot b.slot) [
    | inl less ↦ inl (inl less)
    | inr rest ↦ elim rest [
      | inl same ↦ elim (order-of a.place b.place) [
        | inl less ↦ inl (inr (same, less))
        | inr places ↦ elim places [ inl both ↦ inr (inl (same, both)) | inr more ↦ inr (inr (inr (sym same, more))) ]
      ]
      | inr more ↦ inr (inr (inl more))
    ]
  ]

  alike-back : (ps qs : List Proposed) → AreAlike ps qs → AreAlike qs ps
  alike-back ps qs alike slot q p y x = sym (alike slot p q x y)

  -- so one with a lower number comes before
  pub placed-before : (ps qs : List Proposed) → AreAlike ps qs → (k l : ℕ) (a b : Run) → IsPlaced ps k a → IsPlaced qs l b → k < l → ComesBefore a b
  placed-before ps qs alike k l a b u v less = elim (run-order a b) [
    | inl before ↦ before
    | inr rest ↦ elim rest [
      | inl same ↦
          let at : slice_get ps b.slot ≡ Some u.proposed = ap (λ (n : ℕ). slice_get ps n) (sym same.0) ∙ u.there in
          let fronts : front ps b.slot ≡ front qs b.slot = front-alike ps qs alike b.slot u.proposed v.proposed at v.there in
          let here : front ps a.slot ≡ front ps b.slot = ap (λ (n : ℕ). front ps n) same.0 in
          absurd (omega (arith, less, same.1, fronts, here, u.number_is, v.number_is))
      | inr after ↦
          let more = placed-lower qs ps (alike-back ps qs alike) l k b a v u after in
          absurd (omega (arith, less, more))
    ]
  ]

  -- and those of one number are the same
  pub placed-same : (ps qs : List Proposed) → AreAlike ps qs → (k : ℕ) (a b : Run) → IsPlaced ps k a → IsPlaced qs k b → a ≡ b
  placed-same ps qs alike k a b u v = elim (run-order a b) [
    | inl before ↦ let less = placed-lower ps qs alike k k a b u v before in absurd (omega (arith, less))
    | inr rest ↦ elim rest [
      | inl same ↦
          let at : slice_get ps b.slot ≡ Some u.proposed = ap (λ (n : ℕ). slice_get ps n) (sym same.0) ∙ u.there in
          let one : u.proposed ≡ v.proposed = alike b.slot u.proposed v.proposed at v.there in
          let mine : slice_get (site.entry_in v.proposed).actions b.place ≡ Some a.action =
          ap (λ (n : ℕ). slice_get (site.entry_in v.proposed).actions n) (sym same.1)
          ∙ ap (λ (p : Proposed). slice_get (site.entry_in p).actions a.place) (sym one)
          ∙ u.within in
          let both : Some a.action ≡ Some b.action = sym mine ∙ v.within in
          let action : a.action ≡ b.action = cc in
          let slots = same.0 in
          let places = same.1 in
          λ i. record { slot = slots i; place = places i; action = action i }
      | inr after ↦ let less = placed-lower qs ps (alike-back ps qs alike) k k b a v u after in absurd (omega (arith, less))
    ]
  ]

  -- ---- what a node executed

  -- what was chosen stays
  placed-more : (deed : Deed M) (deeds : List (Deed M)) (number : ℕ) (run : Run) → IsPlaced (chosen_in deeds) number run → IsPlaced (chosen_in (deed ∷ deeds)) number run
  placed-more (Advanced (Chosen q) sent) deeds number run u = record {
    proposed = u.proposed;
    there = slice_get-left (chosen_in deeds) (q ∷ []) run.slot u.proposed u.there;
    within = u.within;
    number_is = u.number_is ∙ ap (λ (l : List Proposed). length (actions_in site l) + run.place) (sym (take-left (chosen_in deeds) (q ∷ []) run.slot u.proposed u.there));
  }
  placed-more (Advanced Moved sent) deeds number run u = u
  placed-more (Advanced Quiet sent) deeds number run u = u
  placed-more (Took_in from m) deeds number run u = u
  placed-more (Echoed sent) deeds number run u = u
  placed-more (Proposing entry sent) deeds number run u = u
  placed-more (Ticked due sent) deeds number run u = u
  placed-more (Resent sent) deeds number run u = u
  placed-more (Replied n to sent) deeds number run u = u
  placed-more (Cut n) deeds number run u = u

  -- the next execution
  pub placed-now : (i : NodeId) (t : List (Mark M)) (slot place : ℕ) (action : Action) (effect : Effect) → NodeExecutes site (view_at site i t) (signs_of t) slot place action effect
      → IsPlaced (chosen_in (deeds_in t)) (length (log_in (signs_of t))) (record { slot = slot; place = place; action = action })
  placed-now i t slot place action effect e =
      subst (λ (h : Member M). IsPlaced (chosen_in h.deeds) (length (log_in (signs_of t))) (record { slot = slot; place = place; action = action })) (member-is site i t)
      (record { proposed = e.proposed; there = e.chosen; within = e.within; number_is = e.next })

  -- what a node executed is the actions of what its order chose, in this order
  pub placed-all : (i : NodeId) (t : List (Mark M)) (number : ℕ) (run : Run) → AllMade site i t → at_slot (runs_in (signs_of t)) number ≡ Some run → IsPlaced (chosen_in (deeds_in t)) number run
  placed-all i [] number run made e = absurd cc
  placed-all i (In input ∷ t) number run made e = placed-all i t number run made.1 e
  placed-all i (Ordered deed ∷ t) number run made e = placed-more deed (deeds_in t) number run (placed-all i t number run made.1 e)
  placed-all i (Plain (Dropped cause) ∷ t) number run made e = placed-all i t number run made.1 e
  placed-all i (Plain (Took sender vote x) ∷ t) number run made e = placed-all i t number run made.1 e
  placed-all i (Plain (Entered x) ∷ t) number run made e = placed-all i t number run made.1 e
  placed-all i (Plain (Viewed n view) ∷ t) number run made e = placed-all i t number run made.1 e
  placed-all i (Plain (Headed n head) ∷ t) number run made e = placed-all i t number run made.1 e
  placed-all i (Plain (Kept index checkpoint) ∷ t) number run made e = placed-all i t number run made.1 e
  placed-all i (Plain (Sent to said) ∷ t) number run made e = placed-all i t number run made.1 e
  placed-all i (Plain (Did n p action effect) ∷ t) number run made e = go (number == length (runs_in (signs_of t))) refl (placed-all i t number run made.1) e
    where
      go : (b : Bool) → (number == length (runs_in (signs_of t))) ≡ b → (at_slot (runs_in (signs_of t)) number ≡ Some run → IsPlaced (chosen_in (deeds_in t)) number run)
          → (if b then Some (run_at n p action) else at_slot (runs_in (signs_of t)) number) ≡ Some run → IsPlaced (chosen_in (deeds_in t)) number run
      go false other later e = later e
      go true same later e =
          let here : number ≡ length (log_in (signs_of t)) = eqb-true number (length (runs_in (signs_of t))) same ∙ runs-count (signs_of t) in
          let is : run_at n p action ≡ run = cc in
          subst (λ (k : ℕ). IsPlaced (chosen_in (deeds_in t)) k run) (sym here)
          (subst (λ (r : Run). IsPlaced (chosen_in (deeds_in t)) (length (log_in (signs_of t))) r) is (placed-now i t n p action effect made.0))

-- ---- two nodes

module _ {M : Type 0} (site : Site M) (sound : IsSoundSite site) (known : Known) (lawful : AreLawful site known) (story : List (Moment M)) (story_is : Story site known story) where
  -- what the orders of two honest nodes of a shard chose is alike
  pub chosen-alike : (i j : NodeId) → is_honest site i ≡ true → is_honest site j ≡ true → i.shard ≡ j.shard
      → AreAlike (chosen_in (deeds_in (trail_at i story))) (chosen_in (deeds_in (trail_at j story)))
  chosen-alike i j hi hj same slot p q x y =
      let law = lawful story i.shard (sound.shard i hi) story_is in
      let of_j : deeds_of j.index (shard_acts i.shard story) ≡ deeds_in (trail_at j story) = subst (λ s. deeds_of j.index (shard_acts s story) ≡ deeds_in (trail_at j story)) (sym same) (deeds-same j.shard j.index story) in
      law.agree i.index j.index slot p q
      (subst (λ (ds : List (Deed M)). slice_get (chosen_in ds) slot ≡ Some p) (sym (deeds-same i.shard i.index story)) x)
      (subst (λ (ds : List (Deed M)). slice_get (chosen_in ds) slot ≡ Some q) (sym of_j) y)

  pub runs-agree : (i j : NodeId) (number : ℕ) (a b : Run) → is_honest site i ≡ true → is_honest site j ≡ true → i.shard ≡ j.shard
      → at_slot (runs_in (signs_of (trail_at i story))) number ≡ Some a → at_slot (runs_in (signs_of (trail_at j story))) number ≡ Some b → a ≡ b
  runs-agree i j number a b hi hj same x y =
      placed-same site (chosen_in (deeds_in (trail_at i story))) (chosen_in (deeds_in (trail_at j story))) (chosen-alike i j hi hj same) number a b
      (placed-all site i (trail_at i story) number a (made-all site known i story story_is) x)
      (placed-all site j (trail_at j story) number b (made-all site known j story story_is) y)
