-- Leaves at their slots, one slot later.
use Rattle.std.proofs.Common.{◌≡◌, ℕ, List, [], ◌∷◌, ◌++◌, length, get_or, Some, sym, ap, ◌∙◌, inl, inr, arith}
use Rattle.std.proofs.lemmas.Bool.{cases_lt}
use Rattle.std.proofs.lemmas.List.{get_or_append_left, get_or_push, length_push}
use Rattle.std.proofs.lemmas.Option.{slice_get-get_or, slice_get_within, get_or_from_slice_get}
use Rattle.cs_base.specs.declared.version.Version.TheVariants.{One}
use Rattle.cs_tx_types.specs.declared.leaf.Leaf.{Leaf}
use Rattle.cs_tx_types.specs.Log.{leaf_encoding, LeafFits, leaf_at}
use Rattle.cs_tx_types.specs.laws.Log.{leaf_form}
use Rattle.cs_check.specs.Archives.{AreInPlace}

-- a leaf is told by its encoding
one_leaf : (a b : Leaf) → LeafFits One a → LeafFits One b → leaf_encoding One a ≡ leaf_encoding One b → a ≡ b
one_leaf a b fits_a fits_b same =
    let both : Some (a, []) ≡ Some (b, []) =
    sym ((leaf_form One).again a [] fits_a) ∙ ap (λ (text : List ℕ). leaf_at One (text ++ [])) same
    ∙ (leaf_form One).again b [] fits_b in
    let pairs : (a, []) ≡ (b, []) = cc in
    ap (λ (p : Leaf × List ℕ). p.0) pairs

pub one_more : (leaves : List (List ℕ)) (leaf : Leaf) → LeafFits One leaf → leaf.slot ≡ length leaves →
    AreInPlace leaves → AreInPlace (leaves ++ leaf_encoding One leaf ∷ [])
one_more leaves leaf fits next in_place = λ slot other other_fits at.
    let bytes = leaf_encoding One leaf in
    let long = leaves ++ bytes ∷ [] in
    let within = slice_get_within long slot (leaf_encoding One other) at in
    let read : get_or long slot bytes ≡ leaf_encoding One other =
    get_or_from_slice_get long slot (leaf_encoding One other) bytes at in
    elim (cases_lt slot (length leaves)) [
      | inl before ↦
          in_place slot other other_fits
          (slice_get-get_or leaves slot bytes before
          ∙ ap Some (sym (get_or_append_left leaves (bytes ∷ []) bytes slot before) ∙ read))
      | inr last ↦
          let here : length leaves ≡ slot = omega (arith, within, last, length_push leaves bytes) in
          let same : leaf_encoding One other ≡ bytes = sym read ∙ get_or_push leaves bytes bytes slot here in
          let one = one_leaf other leaf other_fits fits same in
          ap (λ (l : Leaf). l.slot) one ∙ next ∙ here
    ]
