-- The last declaration of a name, one token after the other from the back.
use Rattle.std.proofs.Common.{◌≡◌, ℕ, zero, suc, ◌-◌, ◌<◌, List, Some, None, refl, arith}
use Rattle.std.specs.Prelude.{if◌then◌else◌}
use Rattle.cs_lang_token.specs.declared.token.Token.{Token}
use Rattle.cs_explain.specs.NameTokens.{declares_same, begins_others, last_declared}

pub one_less : (tokens : List Token) (index left : ℕ) → 0 < left → last_declared tokens index left ≡ (if declares_same tokens index (left - 1) then Some (left - 1) else if begins_others tokens index (left - 1) then None else last_declared tokens index (left - 1))
one_less tokens index zero some = absurd (omega (arith, some))
one_less tokens index (suc left) some = let less : suc left - 1 ≡ left = omega arith in rw less refl
