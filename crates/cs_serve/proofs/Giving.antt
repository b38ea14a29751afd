-- What link and sink tell, through one call after the other.
use Rattle.std.proofs.Common.{◌≡◌, List, [], ◌∷◌, ◌++◌, map, Option, Some, None, refl, sym, ap, subst, ◌∙◌, append_assoc, append-nil}
use Rattle.std.specs.Prelude.{reverse}
use Rattle.std.specs.Io.KnownBytes.{Appends}
use Rattle.std.proofs.KnownBytes.{Appends-nil, Appends-trans}
use Rattle.std.proofs.lemmas.List.{map-append, reverse-append}
use Rattle.cs_base.specs.Answers.{AppendsFront}
use Rattle.cs_ledger.specs.Ledger.{Bytes}
use Rattle.cs_node_rules.specs.Site.{Input}
use Rattle.cs_io.specs.Told.{Changes, Stays}
use Rattle.cs_io.specs.Link.{Offers}
use Rattle.cs_io.specs.declared.link.MemInput.{MemInput}
use Rattle.cs_io.specs.Outside.{LinkTold, Beside}
use Rattle.cs_serve.specs.Offering.{AddsOffers}
use Rattle.cs_serve.specs.Giving.{given_of, TakesInputs, Gives, GivesFront}
use Rattle.cs_serve.specs.laws.Offering.{adds-none, adds-more, front-all, front-more}

-- ---- lines

pub AppendsFront-all : (a b : Option Bytes) (xs : Bytes) → Appends a b xs → AppendsFront a b xs
AppendsFront-all a b xs p = (xs, [], sym (append-nil xs), p)

pub AppendsFront-none : (a : Option Bytes) (xs : Bytes) → AppendsFront a a xs
AppendsFront-none a xs = ([], xs, refl, Appends-nil a)

AppendsFront-then : (a b c : Option Bytes) (xs ys : Bytes) → Appends a b xs → AppendsFront b c ys → AppendsFront a c (xs ++ ys)
AppendsFront-then a b c xs ys p (front, rest, whole, q) =
    (xs ++ front, rest, ap (λ l. xs ++ l) whole ∙ sym (append_assoc xs front rest), Appends-trans a b c xs front p q)

-- ---- both

pub Gives-nil : (a : Beside LinkTold) → Gives [] [] a a
Gives-nil a = record { offered = adds-none a.told.offered; written = Appends-nil a.written }

-- nothing more was offered or written
pub Gives-kept : (a b : Beside LinkTold) → Stays a.told.offered b.told.offered → b.written ≡ a.written → Gives [] [] a b
Gives-kept a b stays same = record {
  offered = kept a.told.offered b.told.offered stays;
  written = subst (λ (w : Option Bytes). Appends a.written w []) (sym same) (Appends-nil a.written);
}
  where
    kept : (a b : Option Offers) → Stays a b → AddsOffers [] a b
    kept None b stays = tt
    kept (Some x) None stays = absurd stays
    kept (Some x) (Some y) stays = stays ∙ sym (append-nil x)

pub Gives-more : (a b c : Beside LinkTold) (xs ys : Offers) (one two : Bytes) → Gives xs one a b → Gives ys two b c → Gives (xs ++ ys) (one ++ two) a c
Gives-more a b c xs ys one two p q = record {
  offered = adds-more a.told.offered b.told.offered c.told.offered xs ys p.offered q.offered;
  written = Appends-trans a.written b.written c.written one two p.written q.written;
}

pub GivesFront-after : (a b c : Beside LinkTold) (xs ys : Offers) (one two : Bytes) → Gives xs one a b → GivesFront ys two b c → GivesFront (xs ++ ys) (one ++ two) a c
GivesFront-after a b c xs ys one two p q = record {
  offered = front-more a.told.offered b.told.offered c.told.offered xs ys p.offered q.offered;
  written = AppendsFront-then a.written b.written c.written one two p.written q.written;
}

pub GivesFront-all : (a b : Beside LinkTold) (xs : Offers) (one : Bytes) → Gives xs one a b → GivesFront xs one a b
GivesFront-all a b xs one p = record {
  offered = front-all a.told.offered b.told.offered xs p.offered;
  written = AppendsFront-all a.written b.written one p.written;
}

-- ---- inputs

abbrev Came : List Input → List MemInput → List MemInput → Type 0
Came inputs before now = (taken : List MemInput) × (before ≡ taken ++ now) × (inputs ≡ reverse (map given_of taken))

pub Takes-nil : (a b : Beside LinkTold) → Stays a.told.left b.told.left → TakesInputs [] a b
Takes-nil a b stays = nil a.told.left b.told.left stays
  where
    nil : (a b : Option (List MemInput)) → Stays a b → Changes (Came []) a b
    nil None b stays = tt
    nil (Some x) None stays = absurd stays
    nil (Some x) (Some y) stays = ([], sym stays, refl)

pub Takes-more : (a b c : Beside LinkTold) (first later : List Input) → TakesInputs first a b → TakesInputs later b c → TakesInputs (later ++ first) a c
Takes-more a b c first later p q = more a.told.left b.told.left c.told.left p q
  where
    both : (x y z : List MemInput) → Came first x y → Came later y z → Came (later ++ first) x z
    both x y z (one, before, is) (two, then, too) = (
      one ++ two,
      before ∙ ap (λ l. one ++ l) then ∙ sym (append_assoc one two z),
      ap (λ l. l ++ first) too ∙ ap (λ l. reverse (map given_of two) ++ l) is
          ∙ sym (ap reverse (map-append given_of one two) ∙ reverse-append (map given_of one) (map given_of two)),
    )

    more : (a b c : Option (List MemInput)) → Changes (Came first) a b → Changes (Came later) b c → Changes (Came (later ++ first)) a c
    more None b c p q = tt
    more (Some x) None c p q = absurd p
    more (Some x) (Some y) None p q = absurd q
    more (Some x) (Some y) (Some z) p q = both x y z p q

-- the first that was left
pub Takes-one : (a b : Beside LinkTold) (first : MemInput) → Changes (λ (before now : List MemInput). before ≡ first ∷ now) a.told.left b.told.left → TakesInputs (given_of first ∷ []) a b
Takes-one a b first gone = one a.told.left b.told.left gone
  where
    one : (a b : Option (List MemInput)) → Changes (λ (before now : List MemInput). before ≡ first ∷ now) a b → Changes (Came (given_of first ∷ [])) a b
    one None b gone = tt
    one (Some x) None gone = absurd gone
    one (Some x) (Some y) gone = (first ∷ [], gone, refl)
