-- A core that took an input stands for the next view of its node, and the others stand as they did.
use Rattle.std.specs.List.{insert, remove}
use Rattle.std.proofs.Common.{◌≡◌, ℕ, zero, suc, ◌<◌, ◌==◌, Bool, true, false, ◌&&◌, cond, List, [], ◌∷◌, ◌++◌, length, get_or, slice_get, slice_set, Some, None, ◌⊎◌, inl, inr, refl, ap, sym, subst, ◌∙◌, arith}
use Rattle.cs_base.specs.declared.node_id.NodeId.{NodeId}
use Rattle.cs_tx_types.specs.declared.transaction.Tx.{Tx}
use Rattle.cs_order.specs.Deeds.{Member}
use Rattle.cs_base.specs.NodeId.{same_name}
use Rattle.cs_node_rules.specs.Site.{Input, Mark, In, Ordered, Plain, Site, View, start_view, mark_step, view_after, signs_of}
use Rattle.cs_node_rules.specs.Trail.{event_marks}
use Rattle.cs_node_rules.specs.World.{Happening, trail_of, view_of, happens}
use Rattle.cs_node_rules.specs.Ready.{IsQuiet}
use Rattle.cs_node.specs.declared.node_core.Core.{Core}
use Rattle.cs_node.specs.declared.outs.Made.{Made}
use Rattle.cs_node.specs.Notes.{outs_of}
use Rattle.cs_node.specs.Steps.{Event}
use Rattle.cs_node.specs.Cores.{CoreStandsFor}
use Rattle.cs_replay_play.specs.Standing.{AllStand, HasNode, Delivered}

-- ---- views

step-me : {M : Type 0} (site : Site M) (mark : Mark M) (v : View M) → (mark_step site mark v).me ≡ v.me
step-me site (In input) v = refl
step-me site (Ordered deed) v = refl
step-me site (Plain sign) v = refl

after-me : {M : Type 0} (site : Site M) (marks : List (Mark M)) (v : View M) → (view_after site marks v).me ≡ v.me
after-me site [] v = refl
after-me site (mark ∷ past) v = step-me site mark (view_after site past v) ∙ after-me site past v

-- the view of a node has its name
pub view-me : {M : Type 0} (site : Site M) (world : List (Happening M)) (name : NodeId) → (view_of site world name).me ≡ name
view-me site world name = after-me site (trail_of name world) (start_view site name)

pub after-append : {M : Type 0} (site : Site M) (xs ys : List (Mark M)) (v : View M) → view_after site (xs ++ ys) v ≡ view_after site xs (view_after site ys v)
after-append site [] ys v = refl
after-append site (x ∷ xs) ys v = ap (mark_step site x) (after-append site xs ys v)

eq-refl : (a : ℕ) → (a == a) ≡ true
eq-refl a = grind arith

name-refl : (a : NodeId) → same_name a a ≡ true
name-refl a = ap (λ b. b && (a.index == a.index)) (eq-refl a.shard) ∙ eq-refl a.index

name-other : (a b : NodeId) → (a ≡ b → ⊥) → same_name a b ≡ false
name-other a b other = by (a.shard == b.shard) (a.index == b.index) refl refl
  where
    by : (p q : Bool) → (a.shard == b.shard) ≡ p → (a.index == b.index) ≡ q → same_name a b ≡ false
    by true true x y =
        let shards : a.shard ≡ b.shard = grind arith in
        let indexes : a.index ≡ b.index = grind arith in
        absurd (other (λ i. record { shard = shards i; index = indexes i }))
    by true false x y = ap (λ c. c && (a.index == b.index)) x ∙ y
    by false q x y = ap (λ c. c && (a.index == b.index)) x

-- a name equals itself alone
pub name-same : (a b : NodeId) → (a.shard == b.shard && a.index == b.index) ≡ true → a ≡ b
name-same a b same = by (a.shard == b.shard) (a.index == b.index) refl refl same
  where
    by : (p q : Bool) → (a.shard == b.shard) ≡ p → (a.index == b.index) ≡ q → (p && q) ≡ true → a ≡ b
    by true true x y e =
        let shards : a.shard ≡ b.shard = grind arith in
        let indexes : a.index ≡ b.index = grind arith in
        (λ i. record { shard = shards i; index = indexes i })
    by true false x y e = absurd (cc)
    by false q x y e = absurd (cc)

pub name-equal : (a b : NodeId) → a ≡ b → (a.shard == b.shard && a.index == b.index) ≡ true
name-equal a b e = subst (λ (n : NodeId). same_name a n ≡ true) e (name-refl a)

-- the node at which something happened
pub view-here : {M : Type 0} (site : Site M) (to : NodeId) (input : Input) (past : List (Happening M))
    → view_of site (happens site to input past) to ≡ view_after site (event_marks site (view_of site past to) input) (view_of site past to)
view-here site to input past =
    let marks = event_marks site (view_of site past to) input in
    ap (λ b. view_after site (cond b (marks ++ trail_of to past) (trail_of to past)) (start_view site to)) (name-refl to)
    ∙ after-append site marks (trail_of to past) (start_view site to)

-- any other node
pub view-there : {M : Type 0} (site : Site M) (to i : NodeId) (input : Input) (past : List (Happening M)) → (to ≡ i → ⊥)
    → view_of site (happens site to input past) i ≡ view_of site past i
view-there site to i input past other =
    ap (λ b. view_after site (cond b (event_marks site (view_of site past to) input ++ trail_of i past) (trail_of i past)) (start_view site i)) (name-other to i other)

-- ---- cores

-- what stands in a list after a write
get-set : {A : Type 0} (xs : List A) (k i : ℕ) (y c : A) → slice_get (slice_set xs k y) i ≡ Some c → ((i ≡ k) × (y ≡ c)) ⊎ ((i ≡ k → ⊥) × (slice_get xs i ≡ Some c))
get-set {A} [] k i y c h = let q : None ≡ Some c = h in cc
get-set {A} (x ∷ xs) zero zero y c h = let q : Some y ≡ Some c = h in inl (refl, cc)
get-set {A} (x ∷ xs) zero (suc i) y c h = inr (λ e. omega arith, h)
get-set {A} (x ∷ xs) (suc k) zero y c h = inr (λ e. omega arith, h)
get-set {A} (x ∷ xs) (suc k) (suc i) y c h = up (get-set xs k i y c h)
  where
    up : ((i ≡ k) × (y ≡ c)) ⊎ ((i ≡ k → ⊥) × (slice_get xs i ≡ Some c)) → ((suc i ≡ suc k) × (y ≡ c)) ⊎ ((suc i ≡ suc k → ⊥) × (slice_get xs i ≡ Some c))
    up (inl p) = inl (ap suc p.0, p.1)
    up (inr p) = inr ((λ e. p.0 (omega arith)), p.1)

pub get-read : {A : Type 0} (xs : List A) (k : ℕ) (x : A) → k < length xs → x ≡ get_or xs k x → slice_get xs k ≡ Some x
get-read {A} [] k x h e = absurd (omega arith)
get-read {A} (y ∷ xs) zero x h e = ap Some (sym e)
get-read {A} (y ∷ xs) (suc k) x h e = get-read xs k x (omega arith) e

pub get-within : {A : Type 0} (xs : List A) (k : ℕ) (x : A) → slice_get xs k ≡ Some x → k < length xs
get-within {A} [] k x h = let q : None ≡ Some x = h in cc
get-within {A} (y ∷ xs) zero x h = omega arith
get-within {A} (y ∷ xs) (suc k) x h = omega (arith, get-within xs k x h)

length-set : {A : Type 0} (xs : List A) (k : ℕ) (y : A) → length (slice_set xs k y) ≡ length xs
length-set {A} [] k y = refl
length-set {A} (x ∷ xs) zero y = refl
length-set {A} (x ∷ xs) (suc k) y = ap suc (length-set xs k y)

-- what was removed is put back, and something else in its place
pub put-back : {A : Type 0} (xs : List A) (k : ℕ) (y : A) → k < length xs → insert (remove xs k) k y ≡ slice_set xs k y
put-back {A} [] k y h = absurd (omega arith)
put-back {A} (x ∷ xs) zero y h = refl
put-back {A} (x ∷ xs) (suc k) y h = ap (λ l. x ∷ l) (put-back xs k y (omega arith))

-- an input was taken by the core of its node
pub stepped : {O J M : Type 0} (stands : O → Member M → Type 0) (approves : J → Tx → Bool) (site : Site M) (names : ℕ → NodeId) (world : List (Happening M)) (cores cores' : List (Core O J M)) (place : ℕ) (core core' : Core O J M) (to : NodeId) (input : Input) (made : Made)
    → AllStand stands approves site names cores world → slice_get cores place ≡ Some core → names place ≡ to → cores' ≡ slice_set cores place core'
    → ((v : View M) → CoreStandsFor stands approves site core v → Event site v input made (CoreStandsFor stands approves site core'))
    → Delivered stands approves site names cores' world to input made
stepped {O} {J} {M} stands approves site names world cores cores' place core core' to input made all at name put takes =
    let before : CoreStandsFor stands approves site core (view_of site world to) = subst (λ (n : NodeId). CoreStandsFor stands approves site core (view_of site world n)) name (all.each place core at) in
    let event : Event site (view_of site world to) input made (CoreStandsFor stands approves site core') = takes (view_of site world to) before in
    let here : CoreStandsFor stands approves site core' (view_of site (happens site to input world) (names place)) =
    subst (λ (n : NodeId). CoreStandsFor stands approves site core' (view_of site (happens site to input world) n)) (sym name)
    (subst (λ (v : View M). CoreStandsFor stands approves site core' v) (sym (view-here site to input world)) event.after) in
    record {
      notes = event.notes;
      outs = event.outs ∙ ap (λ me. outs_of site.net me (signs_of (event_marks site (view_of site world to) input))) (view-me site world to);
      all = subst (λ (cs : List (Core O J M)). AllStand stands approves site names cs (happens site to input world)) (sym put) (record {
        each = λ i c h.
            elim (get-set cores place i core' c h) [
              | inl p ↦
                  subst (λ (k : ℕ). CoreStandsFor stands approves site c (view_of site (happens site to input world) (names k))) (sym p.0)
                  (subst (λ (x : Core O J M). CoreStandsFor stands approves site x (view_of site (happens site to input world) (names place))) p.1 here)
              | inr p ↦
                  subst (λ (v : View M). CoreStandsFor stands approves site c v)
                  (sym (view-there site to (names i) input world (λ same. p.0 (sym (all.apart place i (get-within cores place core at) (get-within cores i c p.1) (name ∙ same))))))
                  (all.each i c p.1)
            ];
        apart = λ i j x y. all.apart i j (subst (λ (n : ℕ). i < n) (length-set cores place core') x) (subst (λ (n : ℕ). j < n) (length-set cores place core') y);
      });
    }

pub some-at : {A : Type 0} (xs : List A) (k : ℕ) → k < length xs → (x : A) × (slice_get xs k ≡ Some x)
some-at {A} [] k h = absurd (omega arith)
some-at {A} (x ∷ xs) zero h = (x, refl)
some-at {A} (x ∷ xs) (suc k) h = some-at xs k (omega arith)

-- no rule applies at a node that has a core
pub core-quiet : {O J M : Type 0} (stands : O → Member M → Type 0) (approves : J → Tx → Bool) (site : Site M) (names : ℕ → NodeId) (cores : List (Core O J M)) (world : List (Happening M)) (name : NodeId)
    → AllStand stands approves site names cores world → HasNode names (length cores) name → IsQuiet site (view_of site world name)
core-quiet {O} {J} {M} stands approves site names cores world name all has =
    let core = some-at cores has.0 has.1 in
    subst (λ (n : NodeId). IsQuiet site (view_of site world n)) has.2 (all.each has.0 core.0 core.1).quiet

-- no core has the name, which one has
pub named : {M : Type 0} (site : Site M) (world : List (Happening M)) (names : ℕ → NodeId) (count : ℕ) (name : NodeId) → HasNode names count name
    → ((i : ℕ) → i < count → (view_of site world (names i)).me ≡ name → ⊥) → ⊥
named site world names count name (i, within, is) none = none i within (view-me site world (names i) ∙ is)
