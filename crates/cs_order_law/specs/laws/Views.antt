-- No two quorums of one slot confirm different digests, whatever the views.
use Rattle.std.proofs.Common.{◌≡◌, ℕ, zero, suc, ◌+◌, ◌*◌, ◌≤◌, ◌<◌, Bool, true, not, List, Option, Some, ◌⊎◌, inl, inr, sym, ◌∙◌, arith}
use Rattle.cs_order.specs.Counts.{count_below}
use Rattle.cs_base.specs.Lists.{IsIn}
use Rattle.cs_order_rules.specs.declared.message.Change.{Change}
use Rattle.cs_order_law.specs.laws.Quorum.{two_quorums, one_honest}
use Rattle.cs_order_rules.specs.Safe.{says_none, says_allowed, says_echoed, SafeAt}
use Rattle.cs_order_law.specs.laws.SafeFacts.{says_none_is, says_allowed_is, says_echoed_is}

-- What is known of one slot: each honest member's own echoes, confirms and changes, in the end.
pub record LocalFacts (f : ℕ) (honest : ℕ → Bool) (Echoed Confirmed : ℕ → ℕ → List ℕ → Type 0) (Changed : ℕ → ℕ → Change → Type 0) : Type 0 where
  -- one echo in a view
  pub one_echo : (i w : ℕ) (d e : List ℕ) → honest i ≡ true → Echoed i w d → Echoed i w e → d ≡ e
  -- above view 0 only what is safe by changes of which those of honest members are theirs
  pub echo_safe : (i w : ℕ) (d : List ℕ) → honest i ≡ true → Echoed i w d → 0 < w → (changes : ℕ → Option Change) × SafeAt f changes w d × ((j : ℕ) (c : Change) → j < 3 * f + 1 → honest j ≡ true → changes j ≡ Some c → Changed j w c)
  -- only what a quorum echoed
  pub confirm_echoed : (i v : ℕ) (d : List ℕ) → honest i ≡ true → Confirmed i v d → (echoes : ℕ → Bool) × (2 * f + 1 ≤ count_below (3 * f + 1) echoes) × ((j : ℕ) → j < 3 * f + 1 → honest j ≡ true → echoes j ≡ true → Echoed j v d)
  -- a change tells of the last confirm below its view, and of true ones alone
  pub change_tells : (i w v : ℕ) (c : Change) (d : List ℕ) → honest i ≡ true → Changed i w c → Confirmed i v d → v < w → (pair : ℕ × List ℕ) × (c.prepared ≡ Some pair) × (v ≤ pair.0) × (pair.0 < w) × Confirmed i pair.0 pair.1
  -- what it lists was echoed
  pub change_lists : (i w u : ℕ) (c : Change) (d : List ℕ) → honest i ≡ true → Changed i w c → IsIn (d, u) c.echoed → Echoed i u d

module _ (f : ℕ) (honest : ℕ → Bool) (Echoed Confirmed : ℕ → ℕ → List ℕ → Type 0) (Changed : ℕ → ℕ → Change → Type 0) (few : count_below (3 * f + 1) (λ m. not (honest m)) ≤ f) (facts : LocalFacts f honest Echoed Confirmed Changed) where
  -- a quorum, of which each honest member confirmed the digest in the view
  abbrev pub IsConfirmed : ℕ → List ℕ → Type 0
  IsConfirmed v d = (members : ℕ → Bool) × (2 * f + 1 ≤ count_below (3 * f + 1) members) × ((j : ℕ) → j < 3 * f + 1 → honest j ≡ true → members j ≡ true → Confirmed j v d)

  -- two confirms of honest members in one view are of one digest
  pub one_confirm : (i j v : ℕ) (d e : List ℕ) → honest i ≡ true → honest j ≡ true → Confirmed i v d → Confirmed j v e → d ≡ e
  one_confirm i j v d e hi hj ci cj =
      let p = facts.confirm_echoed i v d hi ci in
      let q = facts.confirm_echoed j v e hj cj in
      let m = two_quorums f p.0 q.0 honest few p.1 q.1 in
      facts.one_echo m.0 v d e m.4 (p.2 m.0 m.1 m.4 m.2) (q.2 m.0 m.1 m.4 m.3)

  -- some honest member echoed what an honest member confirmed
  pub echo_of_confirm : (i v : ℕ) (d : List ℕ) → honest i ≡ true → Confirmed i v d → (m : ℕ) × (honest m ≡ true) × Echoed m v d
  echo_of_confirm i v d hi ci =
      let p = facts.confirm_echoed i v d hi ci in
      let m = one_honest f p.0 honest few (let enough = p.1 in omega arith) in
      (m.0, m.4, p.2 m.0 m.1 m.4 m.2)

  -- after a quorum confirmed d in v, an honest echo in a later view is of d
  abbrev LaterEcho : ℕ → List ℕ → ℕ → Type 0
  LaterEcho v d w = (i : ℕ) (e : List ℕ) → honest i ≡ true → Echoed i w e → v < w → e ≡ d

  -- the pair that an honest member of both quorums tells of
  from_pair : (v : ℕ) (d : List ℕ) (w u : ℕ) (e : List ℕ) (j : ℕ) (pair : ℕ × List ℕ) → ((x : ℕ) → x < w → LaterEcho v d x) → honest j ≡ true → Confirmed j v d → v ≤ pair.0 → pair.0 < w → Confirmed j pair.0 pair.1 → (u < w) → ((m : ℕ) × (x : ℕ) × (honest m ≡ true) × (u ≤ x) × (x < w) × Echoed m x e) → (pair.0 < u) ⊎ ((pair.0 ≡ u) × (pair.1 ≡ e)) → e ≡ d
  from_pair v d w u e j pair below hj cj above under true_pair u_w echoer (inl earlier) =
      below echoer.1 echoer.4 echoer.0 e echoer.2 echoer.5 (let h = echoer.3 in omega arith)
  from_pair v d w u e j pair below hj cj above under true_pair u_w echoer (inr same) =
      sym same.1
      ∙ (let k = echo_of_confirm j pair.0 pair.1 hj true_pair in
      elim (eq_or_above v pair.0 above) [
        | inl at ↦ one_confirm j j pair.0 pair.1 d hj hj true_pair (rw (← at) cj)
        | inr after ↦ below pair.0 under k.0 pair.1 k.1 k.2 after
      ])
    where
      eq_or_above : (a b : ℕ) → a ≤ b → (a ≡ b) ⊎ (a < b)
      eq_or_above a b h = grind arith

  later_step : (v : ℕ) (d : List ℕ) → IsConfirmed v d → (w : ℕ) → ((x : ℕ) → x < w → LaterEcho v d x) → LaterEcho v d w
  later_step v d quorum w below i e hi echoed v_w =
      let safe = facts.echo_safe i w e hi echoed (omega arith) in
      let changes = safe.0 in
      elim safe.1 [
        | inl free ↦
            (let m = two_quorums f quorum.0 (λ k. says_none (changes k)) honest few quorum.1 free in
            let c = says_none_is (changes m.0) m.3 in
            let told = facts.change_tells m.0 w v c.0 d m.4 (safe.2 m.0 c.0 m.1 m.4 c.1) (quorum.2 m.0 m.1 m.4 m.2) v_w in
            absurd (let none = c.2 in let some = told.1 in cc))
        | inr case ↦
            (let m = two_quorums f quorum.0 (λ k. says_allowed case.0 e (changes k)) honest few quorum.1 case.2 in
            let c = says_allowed_is case.0 e (changes m.0) m.3 in
            let confirmed = quorum.2 m.0 m.1 m.4 m.2 in
            let told = facts.change_tells m.0 w v c.0 d m.4 (safe.2 m.0 c.0 m.1 m.4 c.1) confirmed v_w in
            let k = one_honest f (λ n. says_echoed case.0 w e (changes n)) honest few case.3 in
            let l = says_echoed_is case.0 w e (changes k.0) k.2 in
            let own = facts.change_lists k.0 w l.2.0 l.0 e k.4 (safe.2 k.0 l.0 k.1 k.4 l.1) l.2.3 in
            from_pair v d w case.0 e m.0 told.0 below m.4 confirmed told.2 told.3 told.4 case.1 (k.0, l.2.0, k.4, l.2.1, l.2.2, own) (rw told.1 at c.2))
      ]

  later_below : (v : ℕ) (d : List ℕ) → IsConfirmed v d → (k x : ℕ) → x < k → LaterEcho v d x
  later_below v d quorum zero x h = absurd (omega arith)
  later_below v d quorum (suc k) x h = later_step v d quorum x (λ y lt. later_below v d quorum k y (omega arith))

  -- after a quorum confirmed a digest, later honest confirms are of it
  later_confirm : (v w : ℕ) (d e : List ℕ) (i : ℕ) → IsConfirmed v d → honest i ≡ true → Confirmed i w e → v < w → e ≡ d
  later_confirm v w d e i quorum hi confirmed v_w =
      let k = echo_of_confirm i w e hi confirmed in
      later_below v d quorum (suc w) w (omega arith) k.0 e k.1 k.2 v_w

  pub honest_in : (v : ℕ) (d : List ℕ) → IsConfirmed v d → (i : ℕ) × (honest i ≡ true) × Confirmed i v d
  honest_in v d quorum =
      let m = one_honest f quorum.0 honest few (let enough = quorum.1 in omega arith) in
      (m.0, m.4, quorum.2 m.0 m.1 m.4 m.2)

  abbrev Order : ℕ → ℕ → Type 0
  Order v w = (v < w) ⊎ (w < v) ⊎ (v ≡ w)

  order : (v w : ℕ) → Order v w
  order v w = grind arith

  -- two quorums of one slot confirm one digest
  pub agreement : (v w : ℕ) (d e : List ℕ) → IsConfirmed v d → IsConfirmed w e → d ≡ e
  agreement v w d e p q =
      let i = honest_in v d p in
      let j = honest_in w e q in
      elim (order v w) [
        | inl lt ↦ sym (later_confirm v w d e j.0 p j.1 j.2 lt)
        | inr rest ↦ elim rest [
          | inl gt ↦ later_confirm w v e d i.0 q i.1 i.2 gt
          | inr same ↦ one_confirm i.0 j.0 v d e i.1 j.1 i.2 (rw same j.2)
        ]
      ]
