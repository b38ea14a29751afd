-- Two lists that rise and have the same elements are one.
use Rattle.std.proofs.Common.{◌≡◌, Bool, true, Less, Equal, List, [], ◌∷◌, inl, inr, refl, sym, ap, ◌∙◌, subst}
use Rattle.std.specs.List.{filter}
use Rattle.std.specs.List.Sorted.{IsStrictlySortedBy}
use Rattle.std.specs.Cmp.{tied_itself}
use Rattle.std.proofs.lemmas.Bool.{cases_Bool}
use Rattle.std.proofs.lemmas.List.Kept.{IsStrictlySortedBy-filter}
use Rattle.cs_base.specs.Lists.{IsIn}
use Rattle.cs_ledger.specs.Session.{Key}
use Rattle.cs_ledger.specs.Table.{Table}
use Rattle.cs_check_rules.specs.Keys.{key_order, IsRising, is_known_record, AreKnown, known_among}
use Rattle.cs_check_rules.proofs.Ordered.{After, key_order-total}

-- ---- what passes a test

module _ {A : Type 0} (x : A) (p : A → Bool) where
  in_filter : (xs : List A) → IsIn x xs → p x ≡ true → IsIn x (filter p xs)
  in_filter [] among passes = absurd among
  in_filter (y ∷ ys) (inl same) passes = rw (ap p (sym same) ∙ passes) (inl same)
  in_filter (y ∷ ys) (inr later) passes =
      elim (cases_Bool (p y)) [
        | inl pass ↦ rw pass (inr (in_filter ys later passes))
        | inr fail ↦ rw fail (in_filter ys later passes)
      ]

  passed : (xs : List A) → IsIn x (filter p xs) → p x ≡ true
  passed [] among = absurd among
  passed (y ∷ ys) among =
      elim (cases_Bool (p y)) [
        | inl pass ↦ elim (rw pass at among) [ inl same ↦ ap p same ∙ pass | inr later ↦ passed ys later ]
        | inr fail ↦ passed ys (rw fail at among)
      ]

-- ---- keys that rise

module _ (a : Key) where
  -- a key among those that come after another comes after it
  comes_after : (b : Key) (keys : List Key) → After a keys → IsIn b keys → key_order a b ≡ Less
  comes_after b [] after among = absurd among
  comes_after b (c ∷ keys) after (inl same) = ap (key_order a) same ∙ after.0
  comes_after b (c ∷ keys) after (inr later) = comes_after b keys after.1 later

  not_after_itself : (keys : List Key) → After a keys → IsIn a keys → ⊥
  not_after_itself keys after among =
      let q : Less ≡ Equal = sym (comes_after a keys after among) ∙ tied_itself key_order-total a in
      cc

-- neither comes before the other
not_both : (a b : Key) → key_order a b ≡ Less → key_order b a ≡ Less → ⊥
not_both a b less more =
    let q : Less ≡ Equal = sym (key_order-total.trans a b a less more) ∙ tied_itself key_order-total a in
    cc

-- the first of each is the first of the other
same_first : (a b : Key) (xs ys : List Key) → After a xs → After b ys → IsIn a (b ∷ ys) → IsIn b (a ∷ xs) → a ≡ b
same_first a b xs ys after after' (inl same) back = same
same_first a b xs ys after after' (inr there) (inl same) = sym same
same_first a b xs ys after after' (inr there) (inr back) =
    absurd (not_both a b (comes_after a b xs after back) (comes_after b a ys after' there))

-- what is among all, and isn't the first, is among the others
not_first : (a c : Key) (xs ys : List Key) → After a xs → IsIn c xs → IsIn c (a ∷ ys) → IsIn c ys
not_first a c xs ys after among (inl same) =
    absurd (not_after_itself a xs after (subst (λ (d : Key). IsIn d xs) same among))
not_first a c xs ys after among (inr later) = later

same_elements : (xs ys : List Key) → IsRising xs → IsRising ys → ((c : Key) → IsIn c xs → IsIn c ys) →
    ((c : Key) → IsIn c ys → IsIn c xs) → xs ≡ ys
unfolding IsStrictlySortedBy
same_elements [] [] rising rising' there back = refl
same_elements [] (b ∷ ys) rising rising' there back = absurd (back b (inl refl))
same_elements (a ∷ xs) [] rising rising' there back = absurd (there a (inl refl))
same_elements (a ∷ xs) (b ∷ ys) rising rising' there back =
    let one : a ≡ b = same_first a b xs ys rising.0 rising'.0 (there a (inl refl)) (back b (inl refl)) in
    let others : xs ≡ ys =
    same_elements xs ys rising.1 rising'.1
    (λ c among. not_first a c xs ys rising.0 among (subst (λ (d : Key). IsIn c (d ∷ ys)) (sym one) (there c (inr among))))
    (λ c among. not_first b c ys xs rising'.0 among (subst (λ (d : Key). IsIn c (d ∷ xs)) one (back c (inr among)))) in
    λ i. one i ∷ others i

-- ---- the known keys

pub one_list : (t : Table) (keys others : List Key) → AreKnown keys t → AreKnown others t → keys ≡ others
one_list t keys others a b =
    same_elements keys others a.rising b.rising
    (λ key among. b.all key (a.known key among)) (λ key among. a.all key (b.known key among))

-- keys among which each known one is
abbrev pub Covers : List Key → Table → Type 0
Covers keys t = (key : Key) → is_known_record (t.at key) ≡ true → IsIn key keys

pub are_known : (t : Table) (keys : List Key) → IsRising keys → Covers keys t → AreKnown (known_among t keys) t
are_known t keys rising covers = record {
  rising = IsStrictlySortedBy-filter key_order (λ key. is_known_record (t.at key)) keys rising;
  known = λ key among. passed key (λ k. is_known_record (t.at k)) keys among;
  all = λ key known. in_filter key (λ k. is_known_record (t.at k)) keys (covers key known) known;
}
