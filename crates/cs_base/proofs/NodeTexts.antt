-- The text of a name is read as that name.
use Rattle.std.specs.Prelude.{◌≡◌, ◌≢◌, ◌⊎◌, ℕ, zero, suc, ◌+◌, ◌^◌, ◌<◌, ◌==◌, List, [], ◌∷◌, ◌++◌, length, take, drop, false, Option, Some, None, position, codes}
use Rattle.std.specs.List.{before_first, after_first, position_or_len}
use Rattle.std.specs.Str.{bytes_eq}
use Rattle.std.specs.Fmt.{decimal}
use Rattle.std.proofs.Common.{sym, ◌∙◌, ap, refl, arith, inl, inr, get_or, append_assoc}
use Rattle.std.proofs.lemmas.Bool.{cases_Bool, eqb-true}
use Rattle.std.proofs.lemmas.Bool.Decides.{nat_tests}
use Rattle.std.proofs.lemmas.List.{take_at, drop_at, get_or_append_left, length-append}
use Rattle.std.proofs.lemmas.List.Sums.{position_or_len_is}
use Rattle.std.proofs.Math.Seq.{get_or-append_seam}
use Rattle.std.proofs.lemmas.Slice.Eq.{bytes_eq-Decides}
use Rattle.std.proofs.lemmas.Fmt.{decimal_is_IsNumeral, decimal_nonempty}
use Rattle.std.proofs.lemmas.Str.Parse.{not_in_digits}
use Rattle.cs_base.specs.NodeId.{node_text, node_of, node_at, shard_named}
use Rattle.cs_base.specs.Codes.{number_of}
use Rattle.cs_base.specs.declared.node_id.TheConstants.{CLIENT_SHARD}
use Rattle.cs_base.specs.declared.node_id.NodeId.{NodeId}
use Rattle.cs_base.proofs.Lines.{after_first-none}
use Rattle.cs_base.proofs.Numbers.{own, number_none, number_printed}

-- no byte of the decimal text of a number has a code outside those of the digits
digit_at : (n c : ℕ) → n < 2 ^ 64 → (c < 48) ⊎ (57 < c) → (i : ℕ) → i < length (decimal n) → get_or (decimal n) i 0 ≢ c
digit_at n c small out i within = not_in_digits own (decimal n) c (decimal_is_IsNumeral n small).0.1 (λ range. omega arith) i within

dot_first : (front back : List ℕ) → ((i : ℕ) → i < length front → get_or front i 0 ≢ 46) → position_or_len (λ byte. byte == 46) (front ++ 46 ∷ back) ≡ length front
dot_first front back plain =
    position_or_len_is (λ byte. byte == 46) (front ++ 46 ∷ back) (length front) 0 (omega (arith, length-append front (46 ∷ back)))
    (λ i within. let other = plain i within in rw (get_or_append_left front (46 ∷ back) 0 i within) (grind (arith, nat_tests)))
    (λ within. rw (get_or-append_seam front 46 back 0) refl)

front_is : (front back : List ℕ) → ((i : ℕ) → i < length front → get_or front i 0 ≢ 46) → before_first (λ byte. byte == 46) (front ++ 46 ∷ back) ≡ front
front_is front back plain = ap (λ n. take n (front ++ 46 ∷ back)) (dot_first front back plain) ∙ take_at front (46 ∷ back) (length front) refl

back_is : (front back : List ℕ) → ((i : ℕ) → i < length front → get_or front i 0 ≢ 46) → after_first (λ byte. byte == 46) (front ++ 46 ∷ back) ≡ back
back_is front back plain =
    ap (λ n. drop (n + 1) (front ++ 46 ∷ back)) (dot_first front back plain)
    ∙ ap (λ xs. drop (length front + 1) xs) (sym (append_assoc front (46 ∷ []) back))
    ∙ drop_at (front ++ 46 ∷ []) back (length front + 1) (omega (arith, length-append front (46 ∷ [])))

-- the number of a shard isn't `c`
shard_named-decimal : (shard : ℕ) → shard < 2 ^ 16 → (shard == CLIENT_SHARD) ≡ false → shard_named (decimal shard) ≡ Some shard
shard_named-decimal shard small other =
    let wide : shard < 2 ^ 64 = omega arith in
    elim (cases_Bool (bytes_eq (decimal shard) (codes "c"))) [
      | inl same ↦ absurd (
          let is = (bytes_eq-Decides (decimal shard) (codes "c")).0 same in
          digit_at shard 99 wide (inr (omega arith)) 0 ((decimal_is_IsNumeral shard wide).0.0) (ap (λ xs. get_or xs 0 0) is))
      | inr digits ↦ rw (digits, number_printed shard wide, other) refl
    ]

node_at-numbers : (id : NodeId) → id.shard < 2 ^ 16 → id.index < 2 ^ 16 → node_at (Some id.shard) (Some id.index) ≡ Some id
node_at-numbers id shard index = grind (arith, nat_tests)

node_of-parts : (id : NodeId) (front : List ℕ) → ((i : ℕ) → i < length front → get_or front i 0 ≢ 46) → shard_named front ≡ Some id.shard → id.shard < 2 ^ 16 → id.index < 2 ^ 16
    → node_of (front ++ 46 ∷ decimal id.index) ≡ Some id
node_of-parts id front plain named shard index =
    let wide : id.index < 2 ^ 64 = omega arith in
    rw (front_is front (decimal id.index) plain, back_is front (decimal id.index) plain, named, number_printed id.index wide) (node_at-numbers id shard index)

abbrev letter : List ℕ
letter = 99 ∷ []

c_plain : (i : ℕ) → i < 1 → get_or letter i 0 ≡ 46 → ⊥
c_plain zero within dot = absurd (omega (arith, dot))
c_plain (suc i) within dot = absurd (omega arith)

pub node_of-node_text : (id : NodeId) → id.shard < 2 ^ 16 → id.index < 2 ^ 16 → node_of (node_text id) ≡ Some id
node_of-node_text id shard index =
    elim (cases_Bool (id.shard == CLIENT_SHARD)) [
      | inl client ↦ rw client (node_of-parts id letter c_plain (ap Some (sym (eqb-true _ _ client))) shard index)
      | inr member ↦
          let wide : id.shard < 2 ^ 64 = omega arith in
          rw (member, append_assoc (decimal id.shard) (codes ".") (decimal id.index))
          (node_of-parts id (decimal id.shard) (digit_at id.shard 46 wide (inl (omega arith))) (shard_named-decimal id.shard shard member) shard index)
    ]

without_index : (shard : Option ℕ) → node_at shard None ≡ None
without_index None = refl
without_index (Some shard) = refl

no_number : number_of [] ≡ None
no_number = sym (number_none [] (λ is. let none = ap length is.text in omega (arith, decimal_nonempty 0 (omega arith))))

-- a text without a dot is no name
pub node_of-no_dot : (field : List ℕ) → position (λ byte. byte == 46) field ≡ None → node_of field ≡ None
node_of-no_dot field none =
    let front = before_first (λ byte. byte == 46) field in
    ap (λ back. node_at (shard_named front) (number_of back)) (after_first-none (λ byte. byte == 46) field none)
    ∙ ap (λ index. node_at (shard_named front) index) no_number ∙ without_index (shard_named front)
