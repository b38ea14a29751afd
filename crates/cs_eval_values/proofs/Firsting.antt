-- Where names are first, as names come and go.
use Rattle.std.proofs.Common.{◌≡◌, ◌≢◌, ℕ, zero, suc, ◌+◌, ◌-◌, ◌<◌, ◌≤◌, ◌⊎◌, Bool, true, false, cond, eqb, ltb, List, [], ◌∷◌, ◌++◌, map, get_or, length, replicate, set, Option, Some, None, refl, sym, ap, subst, ◌∙◌, arith, inl, inr}
use Rattle.std.specs.Prelude.{slice_get, slice_index, IfSome}
use Rattle.std.specs.Str.{bytes_eq}
use Rattle.std.proofs.lemmas.Bool.{cases_Bool, eqb-true, eqb-false, ltb-true, ltb-false}
use Rattle.std.proofs.lemmas.List.{map-append, length-map}
use Rattle.std.proofs.lemmas.Option.{slice_get_within, get_or_from_slice_get}
use Rattle.cs_lang_names.specs.Numbering.{number_of}
use Rattle.cs_lang_names.proofs.Numbering.{same_bytes, bytes_refl, named_at, one_name}
use Rattle.cs_eval_values.specs.declared.names.Entry.{Entry}
use Rattle.cs_eval_values.specs.Datums.{Datum}
use Rattle.cs_eval_values.specs.Entries.{named_of}
use Rattle.cs_eval_values.specs.Namings.{Named, named, is_of_name, place_named, with_datum}
use Rattle.cs_eval_values.specs.Firsts.{one_later, next_named, AreFirsts, first_place, with_first, without_first}

some_is : {A : Type 0} (x y : A) → Some x ≡ Some y → x ≡ y
some_is x y is = cc

-- ---- the place of a name, from where it is first

later_none : (k : ℕ) → one_later k ≡ 0 → k ≡ 0
later_none zero h = refl
later_none (suc k) h = absurd (omega (arith, h))

later_some : (k p : ℕ) → one_later k ≡ suc p → (q : ℕ) × (k ≡ suc q) × (p ≡ suc q)
later_some zero p h = absurd (omega (arith, h))
later_some (suc q) p h = (q, refl, omega (arith, h))

module _ (name : List ℕ) where
  pub place_none : (ns : List Named) → next_named name ns ≡ 0 → place_named name ns ≡ length ns
  place_none [] h = refl
  place_none (n ∷ ns) h =
      (elim (is_of_name name n) as (λ b. cond b 1 (one_later (next_named name ns)) ≡ 0 → cond b 0 (suc (place_named name ns)) ≡ suc (length ns)) [
        | true ↦ λ first. absurd (omega (arith, first))
        | false ↦ λ later. ap suc (place_none ns (later_none (next_named name ns) later))
      ]) h

  pub place_some : (ns : List Named) (p : ℕ) → next_named name ns ≡ suc p → place_named name ns ≡ p
  place_some [] p h = absurd (omega (arith, h))
  place_some (n ∷ ns) p h =
      (elim (is_of_name name n) as (λ b. cond b 1 (one_later (next_named name ns)) ≡ suc p → cond b 0 (suc (place_named name ns)) ≡ p) [
        | true ↦ λ first. omega (arith, first)
        | false ↦ λ later.
            let at = later_some (next_named name ns) p later in
            ap suc (place_some ns at.0 at.1) ∙ sym at.2
      ]) h

  pub next_within : (ns : List Named) → next_named name ns ≤ length ns
  next_within [] = omega arith
  next_within (n ∷ ns) =
      elim (is_of_name name n) as (λ b. cond b 1 (one_later (next_named name ns)) ≤ suc (length ns)) [
        | true ↦ omega arith
        | false ↦ later_within (next_named name ns) (length ns) (next_within ns)
      ] where
        later_within : (k m : ℕ) → k ≤ m → one_later k ≤ suc m
        later_within zero m le = omega arith
        later_within (suc k) m le = omega (arith, le)

  -- ---- with one more name

  module _ (n : Named) where
    pub other_added : (ns : List Named) → is_of_name name n ≡ false → next_named name (ns ++ n ∷ []) ≡ next_named name ns
    other_added [] other = ap (λ (b : Bool). cond b 1 0) other
    other_added (m ∷ ns) other = ap (λ (k : ℕ). cond (is_of_name name m) 1 (one_later k)) (other_added ns other)

    pub known_added : (ns : List Named) (p : ℕ) → next_named name ns ≡ suc p → next_named name (ns ++ n ∷ []) ≡ suc p
    known_added [] p h = absurd (omega (arith, h))
    known_added (m ∷ ns) p h =
        (elim (is_of_name name m) as (λ b. cond b 1 (one_later (next_named name ns)) ≡ suc p → cond b 1 (one_later (next_named name (ns ++ n ∷ []))) ≡ suc p) [
          | true ↦ λ first. first
          | false ↦ λ later.
              let at = later_some (next_named name ns) p later in
              ap one_later (known_added ns at.0 at.1) ∙ ap suc (sym at.2)
        ]) h

    pub new_added : (ns : List Named) → is_of_name name n ≡ true → next_named name ns ≡ 0 → next_named name (ns ++ n ∷ []) ≡ suc (length ns)
    new_added [] same none = ap (λ (b : Bool). cond b 1 0) same
    new_added (m ∷ ns) same none =
        (elim (is_of_name name m) as (λ b. cond b 1 (one_later (next_named name ns)) ≡ 0 → cond b 1 (one_later (next_named name (ns ++ n ∷ []))) ≡ suc (suc (length ns))) [
          | true ↦ λ first. absurd (omega (arith, first))
          | false ↦ λ later. ap one_later (new_added ns same (later_none (next_named name ns) later))
        ]) none

    -- ---- with the last one gone

    pub last_gone : (ns : List Named) (k : ℕ) → next_named name (ns ++ n ∷ []) ≡ k → length ns < k → next_named name ns ≡ 0
    last_gone ns k is past = elim (zero_or_more (next_named name ns)) [
      | inl none ↦ none
      | inr some ↦
          let same : suc some.0 ≡ k = sym (known_added ns some.0 some.1) ∙ is in
          absurd (omega (arith, same, past, some.1, next_within ns))
    ] where
      zero_or_more : (k : ℕ) → (k ≡ 0) ⊎ ((p : ℕ) × (k ≡ suc p))
      zero_or_more zero = inl refl
      zero_or_more (suc p) = inr (p, refl)

    pub last_other : (ns : List Named) (k : ℕ) → next_named name (ns ++ n ∷ []) ≡ k → k ≤ length ns → next_named name ns ≡ k
    last_other ns k is within = elim (zero_or_more (next_named name ns)) [
      | inl none ↦ elim (cases_Bool (is_of_name name n)) [
        | inl same ↦ absurd (omega (arith, sym is ∙ new_added ns same none, within))
        | inr other ↦ sym (other_added ns other) ∙ is
      ]
      | inr some ↦ some.1 ∙ sym (known_added ns some.0 some.1) ∙ is
    ] where
      zero_or_more : (k : ℕ) → (k ≡ 0) ⊎ ((p : ℕ) × (k ≡ suc p))
      zero_or_more zero = inl refl
      zero_or_more (suc p) = inr (p, refl)

-- ---- what stands in a list where another thing was put

put_here : (xs : List ℕ) (i v x : ℕ) → slice_get xs i ≡ Some x → slice_get (set xs i v) i ≡ Some v
put_here [] i v x h = absurd cc
put_here (y ∷ xs) zero v x h = refl
put_here (y ∷ xs) (suc i) v x h = put_here xs i v x h

put_elsewhere : (xs : List ℕ) (i j v : ℕ) → i ≢ j → slice_get (set xs i v) j ≡ slice_get xs j
put_elsewhere [] i j v ne = refl
put_elsewhere (y ∷ xs) zero zero v ne = absurd (ne refl)
put_elsewhere (y ∷ xs) zero (suc j) v ne = refl
put_elsewhere (y ∷ xs) (suc i) zero v ne = refl
put_elsewhere (y ∷ xs) (suc i) (suc j) v ne = put_elsewhere xs i j v (λ same. ne (ap suc same))

same_or_not : (i j : ℕ) → (i ≡ j) ⊎ (i ≢ j)
same_or_not zero zero = inl refl
same_or_not zero (suc j) = inr (λ same. absurd (omega (arith, same)))
same_or_not (suc i) zero = inr (λ same. absurd (omega (arith, same)))
same_or_not (suc i) (suc j) = elim (same_or_not i j) [ inl same ↦ inl (ap suc same) | inr ne ↦ inr (λ same. ne (omega (arith, same))) ]

-- ---- by numbers

-- another name has another number
other_name : (numbers : List (List ℕ)) (x y : List ℕ) (k t : ℕ) → number_of x numbers ≡ Some k → number_of y numbers ≡ Some t → t ≢ k
    → bytes_eq y x ≡ false
other_name numbers x y k t here there ne = elim (cases_Bool (bytes_eq y x)) [
  | inl same ↦ absurd (ne (some_is t k (sym there ∙ ap (λ (z : List ℕ). number_of z numbers) (same_bytes y x same) ∙ here)))
  | inr other ↦ other
]

-- a name without a number is none that has one
unnumbered : (numbers : List (List ℕ)) (x y : List ℕ) (k : ℕ) → number_of x numbers ≡ Some k → number_of y numbers ≡ None → bytes_eq y x ≡ false
unnumbered numbers x y k here none = elim (cases_Bool (bytes_eq y x)) [
  | inl same ↦
      let clash : None ≡ Some k = sym none ∙ ap (λ (z : List ℕ). number_of z numbers) (same_bytes y x same) ∙ here in
      absurd cc
  | inr other ↦ other
]

module _ (numbers : List (List ℕ)) (firsts : List ℕ) (ns : List Named) (n : Named) where
  pub added_unnumbered : AreFirsts numbers firsts ns → number_of n.name numbers ≡ None → AreFirsts numbers firsts (ns ++ n ∷ [])
  added_unnumbered are none = λ x k is.
      are x k is ∙ ap (λ (m : ℕ). Some m) (sym (other_added x n ns (unnumbered numbers x n.name k is none)))

  pub added_again : (t p : ℕ) → AreFirsts numbers firsts ns → number_of n.name numbers ≡ Some t → slice_get firsts t ≡ Some (suc p)
      → AreFirsts numbers firsts (ns ++ n ∷ [])
  added_again t p are at first = λ x k is. elim (same_or_not t k) [
    | inl same ↦
        let next : next_named x ns ≡ suc p = some_is _ _ (sym (are x k is) ∙ ap (slice_get firsts) (sym same) ∙ first) in
        are x k is ∙ ap (λ (m : ℕ). Some m) (next ∙ sym (known_added x n ns p next))
    | inr ne ↦ are x k is ∙ ap (λ (m : ℕ). Some m) (sym (other_added x n ns (other_name numbers x n.name k t is at ne)))
  ]

  pub added_first : (t : ℕ) → AreFirsts numbers firsts ns → number_of n.name numbers ≡ Some t → slice_get firsts t ≡ Some 0
      → AreFirsts numbers (set firsts t (suc (length ns))) (ns ++ n ∷ [])
  added_first t are at first = λ x k is. elim (same_or_not t k) [
    | inl same ↦
        let one : n.name ≡ x = one_name numbers n.name x t at (is ∙ ap (λ (m : ℕ). Some m) (sym same)) in
        let none : next_named x ns ≡ 0 = some_is _ _ (sym (are x k is) ∙ ap (slice_get firsts) (sym same) ∙ first) in
        let passes : is_of_name x n ≡ true = ap (λ (z : List ℕ). bytes_eq z x) one ∙ bytes_refl x in
        ap (slice_get (set firsts t (suc (length ns)))) (sym same) ∙ put_here firsts t (suc (length ns)) 0 first
        ∙ ap (λ (m : ℕ). Some m) (sym (new_added x n ns passes none))
    | inr ne ↦
        put_elsewhere firsts t k (suc (length ns)) ne ∙ are x k is
        ∙ ap (λ (m : ℕ). Some m) (sym (other_added x n ns (other_name numbers x n.name k t is at ne)))
  ]

  pub gone_unnumbered : AreFirsts numbers firsts (ns ++ n ∷ []) → number_of n.name numbers ≡ None → AreFirsts numbers firsts ns
  gone_unnumbered are none = λ x k is.
      are x k is ∙ ap (λ (m : ℕ). Some m) (other_added x n ns (unnumbered numbers x n.name k is none))

  pub gone_again : (t next : ℕ) → AreFirsts numbers firsts (ns ++ n ∷ []) → number_of n.name numbers ≡ Some t → slice_get firsts t ≡ Some next
      → next ≤ length ns → AreFirsts numbers firsts ns
  gone_again t next are at first within = λ x k is. elim (same_or_not t k) [
    | inl same ↦
        let at_next : next_named x (ns ++ n ∷ []) ≡ next = some_is _ _ (sym (are x k is) ∙ ap (slice_get firsts) (sym same) ∙ first) in
        are x k is ∙ ap (λ (m : ℕ). Some m) (at_next ∙ sym (last_other x n ns next at_next within))
    | inr ne ↦ are x k is ∙ ap (λ (m : ℕ). Some m) (other_added x n ns (other_name numbers x n.name k t is at ne))
  ]

  pub gone_first : (t next : ℕ) → AreFirsts numbers firsts (ns ++ n ∷ []) → number_of n.name numbers ≡ Some t → slice_get firsts t ≡ Some next
      → length ns < next → AreFirsts numbers (set firsts t 0) ns
  gone_first t next are at first past = λ x k is. elim (same_or_not t k) [
    | inl same ↦
        let at_next : next_named x (ns ++ n ∷ []) ≡ next = some_is _ _ (sym (are x k is) ∙ ap (slice_get firsts) (sym same) ∙ first) in
        ap (slice_get (set firsts t 0)) (sym same) ∙ put_here firsts t 0 next first
        ∙ ap (λ (m : ℕ). Some m) (sym (last_gone x n ns next at_next past))
    | inr ne ↦
        put_elsewhere firsts t k 0 ne ∙ are x k is
        ∙ ap (λ (m : ℕ). Some m) (other_added x n ns (other_name numbers x n.name k t is at ne))
  ]

-- the number of a name has something beside it
pub first_there : (numbers : List (List ℕ)) (firsts : List ℕ) (ns : List Named) (name : List ℕ) (number : ℕ)
    → AreFirsts numbers firsts ns → number_of name numbers ≡ Some number → number < length firsts
first_there numbers firsts ns name number are is = slice_get_within firsts number (next_named name ns) (are name number is)

pub number_there : (numbers : List (List ℕ)) (firsts : List ℕ) (ns : List Named) (name : List ℕ) (number : Option ℕ)
    → AreFirsts numbers firsts ns → number ≡ number_of name numbers → IfSome number (λ n. n < length firsts)
number_there numbers firsts ns name None are is = tt
number_there numbers firsts ns name (Some number) are is = first_there numbers firsts ns name number are (sym is)

zeros_at : (count k none : ℕ) → none ≡ 0 → k < count → slice_get {X = ℕ} (replicate count none) k ≡ Some none
zeros_at zero k none is lt = absurd (omega (arith, lt))
zeros_at (suc count) zero none is lt = refl
zeros_at (suc count) (suc k) none is lt = zeros_at count k none is (omega (arith, lt))

-- no name is there yet
pub none_yet : (numbers : List (List ℕ)) (firsts : List ℕ) (ns : List Named) (count : ℕ) → firsts ≡ replicate count 0 → count ≡ length numbers
    → ns ≡ [] → AreFirsts numbers firsts ns
none_yet numbers firsts ns count zeros all none = subst (AreFirsts numbers firsts) (sym none) (λ name k is.
    ap (λ (xs : List ℕ). slice_get xs k) zeros
    ∙ zeros_at count k 0 refl (omega (arith, all, slice_get_within numbers k name (named_at name numbers k is))))

nonzero : (f : ℕ) → (f ≡ 0 → ⊥) → (p : ℕ) × (f ≡ suc p)
nonzero zero ne = absurd (ne refl)
nonzero (suc p) ne = (p, refl)

-- what is read beside the number of a name
read : (numbers : List (List ℕ)) (firsts : List ℕ) (ns : List Named) (name : List ℕ) (t : ℕ) → AreFirsts numbers firsts ns
    → number_of name numbers ≡ Some t → get_or firsts t 0 ≡ next_named name ns
read numbers firsts ns name t are is = get_or_from_slice_get firsts t (next_named name ns) 0 (are name t is)

read_there : (numbers : List (List ℕ)) (firsts : List ℕ) (ns : List Named) (name : List ℕ) (t : ℕ) → AreFirsts numbers firsts ns
    → number_of name numbers ≡ Some t → slice_get firsts t ≡ Some (get_or firsts t 0)
read_there numbers firsts ns name t are is =
    are name t is ∙ ap (λ (m : ℕ). Some m) (sym (read numbers firsts ns name t are is))

place_from : (name : List ℕ) (ns : List Named) (k : ℕ) → next_named name ns ≡ k → first_place k (length ns) ≡ place_named name ns
place_from name ns k is = (elim (eqb k 0) as (λ b. eqb k 0 ≡ b → cond b (length ns) (k - 1) ≡ place_named name ns) [
  | true ↦ λ same. sym (place_none name ns (is ∙ eqb-true k 0 same))
  | false ↦ λ some.
      let p = nonzero k (eqb-false k 0 some) in
      let at : place_named name ns ≡ p.0 = place_some name ns p.0 (is ∙ p.1) in
      let next : k ≡ suc p.0 = p.1 in
      omega (arith, at, next)
]) refl

-- the place of a name, where its number tells it
pub place_by : (numbers : List (List ℕ)) (firsts : List ℕ) (ns : List Named) (name : List ℕ) (number names : ℕ) → AreFirsts numbers firsts ns
    → number_of name numbers ≡ Some number → names ≡ length ns → first_place (slice_index firsts number) names ≡ place_named name ns
place_by numbers firsts ns name number names are is count =
    ap (λ (m : ℕ). first_place (get_or firsts number 0) m) count
    ∙ ap (λ (m : ℕ). first_place m (length ns)) (read numbers firsts ns name number are is)
    ∙ place_from name ns (next_named name ns) refl

-- ---- as names come and go

module _ (numbers : List (List ℕ)) (firsts : List ℕ) (ns : List Named) (n : Named) where
  added : (number : Option ℕ) (next : ℕ) → AreFirsts numbers firsts ns → number ≡ number_of n.name numbers → next ≡ length ns + 1
      → AreFirsts numbers (with_first number next firsts) (ns ++ n ∷ [])
  added None next are is new = added_unnumbered numbers firsts ns n are (sym is)
  added (Some t) next are is new =
      let there = read_there numbers firsts ns n.name t are (sym is) in
      let place : suc (length ns) ≡ next = omega (arith, new) in
      (elim (eqb (get_or firsts t 0) 0) as (λ b. eqb (get_or firsts t 0) 0 ≡ b → AreFirsts numbers (cond b (set firsts t next) firsts) (ns ++ n ∷ [])) [
        | true ↦ λ none.
            subst (λ (m : ℕ). AreFirsts numbers (set firsts t m) (ns ++ n ∷ [])) place
            (added_first numbers firsts ns n t are (sym is) (there ∙ ap (λ (m : ℕ). Some m) (eqb-true (get_or firsts t 0) 0 none)))
        | false ↦ λ some.
            let p = nonzero (get_or firsts t 0) (eqb-false (get_or firsts t 0) 0 some) in
            added_again numbers firsts ns n t p.0 are (sym is) (there ∙ ap (λ (m : ℕ). Some m) p.1)
      ]) refl

  gone : (number : Option ℕ) (left : ℕ) → AreFirsts numbers firsts (ns ++ n ∷ []) → number ≡ number_of n.name numbers → left ≡ length ns
      → AreFirsts numbers (without_first number left firsts) ns
  gone None left are is count = gone_unnumbered numbers firsts ns n are (sym is)
  gone (Some t) left are is count =
      let there = read_there numbers firsts (ns ++ n ∷ []) n.name t are (sym is) in
      (elim (ltb left (get_or firsts t 0)) as (λ b. ltb left (get_or firsts t 0) ≡ b → AreFirsts numbers (cond b (set firsts t 0) firsts) ns) [
        | true ↦ λ past.
            gone_first numbers firsts ns n t (get_or firsts t 0) are (sym is) there
            (omega (arith, count, ltb-true left (get_or firsts t 0) past))
        | false ↦ λ within.
            gone_again numbers firsts ns n t (get_or firsts t 0) are (sym is) there
            (omega (arith, count, ltb-false left (get_or firsts t 0) within))
      ]) refl

-- of names as they are kept
pub pushed : (numbers : List (List ℕ)) (firsts new_firsts : List ℕ) (es new : List Entry) (e : Entry) (number : Option ℕ) (next : ℕ)
    → AreFirsts numbers firsts (map named_of es) → number ≡ number_of e.name.now numbers → new ≡ es ++ e ∷ [] → next ≡ length es + 1
    → new_firsts ≡ with_first number next firsts → AreFirsts numbers new_firsts (map named_of new)
pushed numbers firsts new_firsts es new e number next are is push count kept =
    let more : map named_of new ≡ map named_of es ++ named_of e ∷ [] = ap (map named_of) push ∙ map-append named_of es (e ∷ []) in
    let place : next ≡ length (map named_of es) + 1 = omega (arith, count, length-map es named_of) in
    subst (λ (fs : List ℕ). AreFirsts numbers fs (map named_of new)) (sym kept)
    (subst (AreFirsts numbers (with_first number next firsts)) (sym more)
    (added numbers firsts (map named_of es) (named_of e) number next are is place))

pub popped : (numbers : List (List ℕ)) (firsts new_firsts : List ℕ) (old es : List Entry) (e : Entry) (number : Option ℕ) (left : ℕ)
    → AreFirsts numbers firsts (map named_of old) → old ≡ es ++ e ∷ [] → number ≡ number_of e.name.now numbers → left ≡ length es
    → new_firsts ≡ without_first number left firsts → AreFirsts numbers new_firsts (map named_of es)
popped numbers firsts new_firsts old es e number left are pop is count kept =
    let less : map named_of old ≡ map named_of es ++ named_of e ∷ [] = ap (map named_of) pop ∙ map-append named_of es (e ∷ []) in
    let names : left ≡ length (map named_of es) = omega (arith, count, length-map es named_of) in
    subst (λ (fs : List ℕ). AreFirsts numbers fs (map named_of es)) (sym kept)
    (gone numbers firsts (map named_of es) (named_of e) number left (subst (AreFirsts numbers firsts) less are) is names)

-- ---- with something else under a name

next_kept : (x name : List ℕ) (d : Datum) (ns : List Named) → next_named x (with_datum name d ns) ≡ next_named x ns
next_kept x name d [] = refl
next_kept x name d (n ∷ ns) =
    elim (is_of_name name n) as (λ b. next_named x (cond b (named n.name n.kind d ∷ ns) (n ∷ with_datum name d ns)) ≡ next_named x (n ∷ ns)) [
      | true ↦ refl
      | false ↦ ap (λ (k : ℕ). cond (is_of_name x n) 1 (one_later k)) (next_kept x name d ns)
    ]

pub put_kept : (numbers : List (List ℕ)) (firsts : List ℕ) (ns ms : List Named) (name : List ℕ) (d : Datum) → AreFirsts numbers firsts ns
    → ms ≡ with_datum name d ns → AreFirsts numbers firsts ms
put_kept numbers firsts ns ms name d are is =
    subst (AreFirsts numbers firsts) (sym is) (λ x k at. are x k at ∙ ap (λ (m : ℕ). Some m) (sym (next_kept x name d ns)))
