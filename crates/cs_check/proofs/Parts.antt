-- The leaves of some vectors.
use Rattle.std.proofs.Common.{◌≡◌, ℕ, ◌<◌, get_or, List, [], length, sym, ap, ◌∙◌}
use Rattle.std.specs.Prelude.{Vec}
use Rattle.std.proofs.lemmas.List.{get_or-map}
use Rattle.cs_merkle.specs.Tree.{leaves_of_vectors}

-- the leaf of a vector that was read
pub leaf_is : {Z : Type 0} (vectors : List (Vec ℕ Z)) (place : ℕ) (vector : Vec ℕ Z) →
    place < length vectors → vector ≡ get_or vectors place vector →
    get_or (leaves_of_vectors vectors) place [] ≡ vector.items
leaf_is vectors place vector within read =
    get_or-map (λ (v : Vec ℕ _). v.items) vectors place vector [] within
    ∙ ap (λ (v : Vec ℕ _). v.items) (sym read)
