-- Lists of items and keys.
use Rattle.std.proofs.Common.{◌≡◌, ℕ, List, [], ◌∷◌, ◌++◌, true, false, ◌⊎◌, inl, inr, Some, refl, sym, ap, ◌∙◌}
use Rattle.std.specs.Prelude.{bytes_eq}
use Rattle.std.specs.Cmp.Lexicographic.{bytes_decides}
use Rattle.std.proofs.lemmas.Bool.{cases_Bool, and_parts, and_from, or_cases, or_left, or_right, eqb-true, eq-eqb, both_ways}
use Rattle.cs_base.specs.Lists.{IsIn}
use Rattle.cs_ledger.specs.Ledger.{Bytes}
use Rattle.cs_ledger.specs.Session.{Key, Object, Dummy, Piece, key_eq, has_key, first_key, Rules, Session, used_up, anchor}

pub same_bytes : (a b : Bytes) → bytes_eq a b ≡ true → a ≡ b
same_bytes a b e = (bytes_decides a b).0 e

pub bytes_refl : (a : Bytes) → bytes_eq a a ≡ true
bytes_refl a = (bytes_decides a a).1 refl

pub bytes_from : (a b : Bytes) → a ≡ b → bytes_eq a b ≡ true
bytes_from a b e = (bytes_decides a b).1 e

pub bytes_differ : (a b : Bytes) → (a ≡ b → ⊥) → bytes_eq a b ≡ false
bytes_differ a b h = elim (cases_Bool (bytes_eq a b)) [ inl e ↦ absurd (h (same_bytes a b e)) | inr e ↦ e ]

pub same_key : (a b : Key) → key_eq a b ≡ true → a ≡ b
same_key (Object a) (Object b) e = ap Object (same_bytes a b e)
same_key (Object a) (Dummy t m) e = cc
same_key (Dummy s n) (Object b) e = cc
same_key (Dummy s n) (Dummy t m) e =
    let p = and_parts _ _ e in
    let l : s ≡ t = eqb-true _ _ p.0 in
    let r : n ≡ m = eqb-true _ _ p.1 in cc

pub key_refl : (a : Key) → key_eq a a ≡ true
key_refl (Object a) = bytes_refl a
key_refl (Dummy s n) = and_from _ _ (eq-eqb s s refl) (eq-eqb n n refl)

pub in_left : {A : Type 0} (x : A) (xs ys : List A) → IsIn x xs → IsIn x (xs ++ ys)
in_left x [] ys h = absurd h
in_left x (z ∷ xs) ys (inl e) = inl e
in_left x (z ∷ xs) ys (inr h) = inr (in_left x xs ys h)

pub in_right : {A : Type 0} (x : A) (xs ys : List A) → IsIn x ys → IsIn x (xs ++ ys)
in_right x [] ys h = h
in_right x (z ∷ xs) ys h = inr (in_right x xs ys h)

pub in_either : {A : Type 0} (x : A) (xs ys : List A) → IsIn x (xs ++ ys) → IsIn x xs ⊎ IsIn x ys
in_either x [] ys h = inr h
in_either x (z ∷ xs) ys (inl e) = inl (inl e)
in_either x (z ∷ xs) ys (inr h) = elim (in_either x xs ys h) [ inl a ↦ inl (inr a) | inr b ↦ inr b ]

-- a key of these pieces, and the piece
pub has_piece : (key : Key) (pieces : List Piece) → has_key key pieces ≡ true → (piece : Piece) × (IsIn piece pieces) × (key ≡ piece.key)
has_piece key [] e = absurd (both_ways false refl e)
has_piece key (piece ∷ pieces) e =
    elim (or_cases _ _ e) [
      | inl same ↦ (piece, inl refl, same_key key piece.key same)
      | inr later ↦ let h = has_piece key pieces later in (h.0, inr h.1, h.2)
    ]

pub piece_has : (piece : Piece) (pieces : List Piece) → IsIn piece pieces → has_key piece.key pieces ≡ true
piece_has piece [] h = absurd h
piece_has piece (other ∷ pieces) (inl e) = or_left _ _ (ap (λ (p : Piece). key_eq piece.key p.key) (sym e) ∙ key_refl piece.key)
piece_has piece (other ∷ pieces) (inr h) = or_right _ _ (piece_has piece pieces h)

pub first_is : (pieces : List Piece) (key : Key) → first_key pieces ≡ Some key → (piece : Piece) × (IsIn piece pieces) × (key ≡ piece.key)
first_is [] key e = cc
first_is (piece ∷ pieces) key e = let same : key ≡ piece.key = cc in (piece, inl refl, same)

-- the anchor is one of the keys that are used up
pub anchor_piece : (rules : Rules) (x : Session) (shard : ℕ) (key : Key) → anchor rules x shard ≡ Some key → (piece : Piece) × (IsIn piece (used_up rules x shard)) × (key ≡ piece.key)
anchor_piece rules x shard key e = first_is (used_up rules x shard) key e

pub anchor_used : (rules : Rules) (x : Session) (shard : ℕ) (key : Key) → anchor rules x shard ≡ Some key → has_key key (used_up rules x shard) ≡ true
anchor_used rules x shard key e =
    let p = anchor_piece rules x shard key e in
    rw p.2 (piece_has p.0 _ p.1)
