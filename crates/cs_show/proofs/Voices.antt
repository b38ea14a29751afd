-- Of more than f voices of 3f+1 nodes, of which no more than f lie, one is honest.
use Rattle.std.proofs.Common.{◌≡◌, ◌⊎◌, inl, inr, ℕ, zero, suc, ◌+◌, ◌*◌, ◌<◌, ◌≤◌, Bool, true, false, List, [], ◌∷◌, map, Option, Some, None, refl, sym, ap, subst, ◌∙◌, arith, add-zero, if◌then◌else◌, cond}
use Rattle.std.specs.Prelude.{not, nat_lt, sum_by}
use Rattle.std.proofs.lemmas.Bool.Decides.{nat_tests}
use Rattle.std.proofs.lemmas.List.{map-append}
use Rattle.std.proofs.lemmas.List.Sums.{sum_by-append, sum_by-cons}
use Rattle.std.proofs.lemmas.Slice.Eq.{bytes_eq-Decides}
use Rattle.cs_base.specs.declared.node_id.NodeId.{NodeId}
use Rattle.cs_base.specs.NodeId.{members_below}
use Rattle.cs_order.specs.Counts.{count_below}
use Rattle.cs_order.specs.Runs.{FewLiars}
use Rattle.cs_client.specs.Inputs.{ClientInput}
use Rattle.cs_client.proofs.Members.{node_at}
use Rattle.cs_show.specs.declared.lookup.Lookup.{Lookup}
use Rattle.cs_show.specs.Words.{shard_asked, word_of, words_of, is_word, sayers, first_said, seen}
use Rattle.cs_show.specs.Honest.{WasTold}

-- ---- more than f say what is seen

first-enough : (f : ℕ) (line : List ℕ) (all words : List (Option (List ℕ))) → first_said f all words ≡ Some line → f < sayers line all
first-enough f line all [] is = absurd (let q : None ≡ Some line = is in cc)
first-enough f line all (None ∷ words) is = first-enough f line all words is
first-enough f line all (Some w ∷ words) is = by (first-enough f line all words) (nat_lt f (sayers w all)) refl is
  where
    by : (first_said f all words ≡ Some line → f < sayers line all) → (b : Bool) → nat_lt f (sayers w all) ≡ b → (if b then Some w else first_said f all words) ≡ Some line → f < sayers line all
    by later true enough is =
        let same : w ≡ line = (let q : Some w ≡ Some line = is in cc) in
        let more : f < sayers w all = grind (arith, nat_tests) in
        subst (λ (x : List ℕ). f < sayers x all) same more
    by later false less is = later is

-- ---- one of them is honest, or they are no more than the liars

is-line : (line : List ℕ) (word : Option (List ℕ)) → is_word line word ≡ true → word ≡ Some line
is-line line None is = absurd (let q : false ≡ true = is in cc)
is-line line (Some other) is = ap (λ (x : List ℕ). Some x) (sym ((bytes_eq-Decides line other).0 is))

module _ (line : List ℕ) (shard : ℕ) (word : NodeId → Option (List ℕ)) (honest : ℕ → Bool) where
  abbrev words : ℕ → List (Option (List ℕ))
  words n = map word (members_below shard n)

  abbrev Told : ℕ → Type 0
  Told n = (i : ℕ) × (i < n) × (honest i ≡ true) × (word (node_at shard i) ≡ Some line)

  abbrev liars : ℕ → ℕ
  liars n = count_below n (λ i. not (honest i))

  says-more : (n : ℕ) → sayers line (words (suc n)) ≡ sayers line (words n) + cond (is_word line (word (node_at shard n))) 1 0
  says-more n =
      let f : Option (List ℕ) → ℕ = λ x. cond (is_word line x) 1 0 in
      let w : Option (List ℕ) = word (node_at shard n) in
      let last : sum_by f (w ∷ []) ≡ f w = sum_by-cons f w [] ∙ add-zero (f w) in
      ap (sayers line) (map-append word (members_below shard n) (node_at shard n ∷ []))
      ∙ (sum_by-append f (words n) (w ∷ []) ∙ ap (λ k. sum_by f (words n) + k) last)

  lies-more : (n : ℕ) → liars (suc n) ≡ (if not (honest n) then 1 else 0) + liars n
  unfolding count_below
  lies-more n = refl

  one-more : (n said lied : ℕ) (h w : Bool) → honest n ≡ h → is_word line (word (node_at shard n)) ≡ w → said ≤ lied
      → Told (suc n) ⊎ (said + cond w 1 0 ≤ (if not h then 1 else 0) + lied)
  one-more n said lied true true is says few = inl (n, omega arith, is, is-line line (word (node_at shard n)) says)
  one-more n said lied true false is says few = inr (omega arith)
  one-more n said lied false true is says few = inr (omega arith)
  one-more n said lied false false is says few = inr (omega arith)

  none-lies : liars 0 ≡ 0
  unfolding count_below
  none-lies = refl

  pub honest-or-few : (n : ℕ) → Told n ⊎ (sayers line (words n) ≤ liars n)
  honest-or-few zero = inr (let e = none-lies in omega arith)
  honest-or-few (suc n) = elim (honest-or-few n) [
    | inl found ↦ inl (found.0, (let less = found.1 in omega arith), found.2, found.3)
    | inr few ↦ elim (one-more n (sayers line (words n)) (liars n) (honest n) (is_word line (word (node_at shard n))) refl refl few) [
      | inl told ↦ inl told
      | inr still ↦ inr (let a = says-more n in let b = lies-more n in omega arith)
    ]
  ]

pub seen-told : (l : Lookup) (inputs : List ClientInput) (line : List ℕ) (honest : ℕ → Bool) → FewLiars l.config.f honest → seen l inputs ≡ Some line → WasTold honest l inputs line
seen-told l inputs line honest few is =
    let enough = first-enough l.config.f line (words_of l inputs) (words_of l inputs) is in
    elim (honest-or-few line (shard_asked l) (word_of l inputs) honest (3 * l.config.f + 1)) [
      | inl found ↦ record { index = found.0; in_shard = found.1; is_honest = found.2; told = found.3 }
      | inr no_more ↦ absurd (omega (arith, few, enough, no_more))
    ]
