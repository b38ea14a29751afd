-- What a link tells, through one call after the other.
use Rattle.std.proofs.Common.{◌≡◌, List, [], ◌∷◌, ◌++◌, Option, Some, None, refl, sym, ap, ◌∙◌, append_assoc}
use Rattle.std.specs.Prelude.{reverse}
use Rattle.std.proofs.lemmas.List.{map-append, reverse-append}
use Rattle.std.proofs.lemmas.List.Concat.{flat_map-append}
use Rattle.cs_io.specs.Told.{Changes, Stays}
use Rattle.cs_io.specs.laws.Told.{changes-before}
use Rattle.cs_wire.specs.declared.input.Out.{Out}
use Rattle.cs_serve.specs.Offering.{offers_in}
use Rattle.cs_client.specs.declared.errand.Errand.{Errand}
use Rattle.cs_client.specs.Inputs.{ClientInput}
use Rattle.cs_client.specs.Sayings.{says_at, says_by, out_of, outs_of_sayings}
use Rattle.cs_io.specs.Outside.{LinkTold}
use Rattle.cs_serve.specs.Attending.{ClientTakes, offers_by, offers_at}

-- ---- offers

-- what is said at an input comes after what was said before
pub offers-more : (e : Errand) (input : ClientInput) (past : List ClientInput) → offers_by e (input ∷ past) ≡ offers_by e past ++ offers_at e input past
offers-more e input past =
    ap offers_in (flat_map-append (out_of e.keys) (says_by e past) (says_at e input past))
    ∙ map-append (λ (out : Out). (out.to, out.bytes)) (outs_of_sayings e.keys (says_by e past)) (outs_of_sayings e.keys (says_at e input past))

-- ---- inputs

abbrev Came : List ClientInput → List ClientInput → List ClientInput → Type 0
Came inputs before now = (taken : List ClientInput) × (before ≡ taken ++ now) × (inputs ≡ reverse taken)

pub takes-none : (a b : LinkTold) → Stays a.left b.left → ClientTakes [] a b
takes-none a b stays = none a.left b.left stays
  where
    none : (a b : Option (List ClientInput)) → Stays a b → Changes (Came []) a b
    none None b stays = tt
    none (Some x) None stays = absurd stays
    none (Some x) (Some y) stays = ([], sym stays, refl)

pub takes-still : (a b c : LinkTold) (inputs : List ClientInput) → ClientTakes inputs a b → Stays b.left c.left → ClientTakes inputs a c
takes-still a b c inputs = changes-before (Came inputs) a.left b.left c.left

pub takes-more : (a b c : LinkTold) (first later : List ClientInput) → ClientTakes first a b → ClientTakes later b c → ClientTakes (later ++ first) a c
takes-more a b c first later p q = more a.left b.left c.left p q
  where
    both : (x y z : List ClientInput) → Came first x y → Came later y z → Came (later ++ first) x z
    both x y z (one, before, is) (two, then, too) = (
      one ++ two,
      before ∙ ap (λ l. one ++ l) then ∙ sym (append_assoc one two z),
      ap (λ l. l ++ first) too ∙ ap (λ l. reverse two ++ l) is ∙ sym (reverse-append one two),
    )

    more : (a b c : Option (List ClientInput)) → Changes (Came first) a b → Changes (Came later) b c → Changes (Came (later ++ first)) a c
    more None b c p q = tt
    more (Some x) None c p q = absurd p
    more (Some x) (Some y) None p q = absurd q
    more (Some x) (Some y) (Some z) p q = both x y z p q

-- the first that was left
pub takes-one : (a b c : LinkTold) (first : ClientInput) → Changes (λ (before now : List ClientInput). before ≡ first ∷ now) a.left b.left → Stays b.left c.left → ClientTakes (first ∷ []) a c
takes-one a b c first gone stays = changes-before (Came (first ∷ [])) a.left b.left c.left (one a.left b.left gone) stays
  where
    one : (a b : Option (List ClientInput)) → Changes (λ (before now : List ClientInput). before ≡ first ∷ now) a b → Changes (Came (first ∷ [])) a b
    one None b gone = tt
    one (Some x) None gone = absurd gone
    one (Some x) (Some y) gone = (first ∷ [], gone, refl)
