-- The test of a signature says what `Verifies` says.
use Rattle.std.proofs.Common.{◌≡◌, ℕ, List, [], length, get_or, Decides, refl, arith}
use Rattle.std.specs.Prelude.{Bool, ◌==◌}
use Rattle.std.specs.Str.{bytes_eq}
use Rattle.std.specs.List.{list_all}
use Rattle.std.proofs.lemmas.Bool.{and_parts, and_from}
use Rattle.std.proofs.lemmas.Bool.Decides.{Decides-eqb}
use Rattle.std.proofs.lemmas.List.Recursion.{and_at, and_from_places}
use Rattle.std.proofs.lemmas.Slice.Eq.{bytes_eq-Decides}
use Rattle.sha2.specs.Sha256.{sha256}
use Rattle.cs_onetime.specs.Lists.{joined}
use Rattle.cs_onetime.specs.Signature.{AreSized, Verifies, shown_images}
use Rattle.cs_native.specs.Signed.{are_sized, verifies}

abbrev is_long : List ℕ → Bool
is_long text = length text == 256

sized : (texts : List (List ℕ)) → Decides (are_sized texts) (AreSized texts)
sized texts = (
  λ yes.
      let parts = and_parts (length texts == 16) (list_all is_long texts) yes in
      let count : length texts ≡ 16 = (Decides-eqb (length texts) 16).0 parts.0 in (
        count,
        λ k lt. (Decides-eqb (length (get_or texts k [])) 256).0
            (and_at (list_all is_long) is_long refl (λ _ _. refl) texts k [] (omega (arith, count, lt)) parts.1),
      ),
  λ is.
      let count : length texts ≡ 16 = is.0 in
      and_from (length texts == 16) (list_all is_long texts) ((Decides-eqb (length texts) 16).1 count)
      (and_from_places (list_all is_long) is_long refl (λ _ _. refl) texts []
      (λ k lt. (Decides-eqb (length (get_or texts k [])) 256).1 (is.1 k (omega (arith, count, lt))))),
)

pub verified : (key message : List ℕ) (texts : List (List ℕ))
    → Decides (verifies key message texts) (Verifies key message texts)
verified key message texts =
    let shown : List ℕ = sha256 (joined (shown_images message texts) 128) in (
      λ yes.
          let parts = and_parts (are_sized texts) (bytes_eq shown key) yes in
          record { sized = (sized texts).0 parts.0; shown = (bytes_eq-Decides shown key).0 parts.1 },
      λ is. and_from (are_sized texts) (bytes_eq shown key) ((sized texts).1 is.sized) ((bytes_eq-Decides shown key).1 is.shown),
    )
