-- What a link was offered, by one call after the other.
use Rattle.std.proofs.Common.{◌≡◌, [], ◌++◌, Option, Some, None, refl, sym, ap, ◌∙◌, append_assoc, append-nil}
use Rattle.cs_io.specs.Told.{Stays}
use Rattle.cs_io.specs.Link.{Offers}
use Rattle.cs_io.specs.laws.Told.{changes-after, changes-before}
use Rattle.cs_serve.specs.Offering.{AddsOffers, AddsFront}

pub adds-none : (a : Option Offers) → AddsOffers [] a a
adds-none None = tt
adds-none (Some x) = sym (append-nil x)

pub adds-more : (a b c : Option Offers) (xs ys : Offers) → AddsOffers xs a b → AddsOffers ys b c → AddsOffers (xs ++ ys) a c
adds-more None b c xs ys p q = tt
adds-more (Some x) None c xs ys p q = absurd p
adds-more (Some x) (Some y) None xs ys p q = absurd q
adds-more (Some x) (Some y) (Some z) xs ys p q = q ∙ ap (λ l. l ++ ys) p ∙ append_assoc x xs ys

-- nothing more is offered
pub adds-still : (a b c : Option Offers) (xs : Offers) → AddsOffers xs a b → Stays b c → AddsOffers xs a c
adds-still a b c xs = changes-before (λ (before now : Offers). now ≡ before ++ xs) a b c

-- nothing was offered before
pub adds-later : (a b c : Option Offers) (xs : Offers) → Stays a b → AddsOffers xs b c → AddsOffers xs a c
adds-later a b c xs = changes-after (λ (before now : Offers). now ≡ before ++ xs) a b c

pub front-all : (a b : Option Offers) (xs : Offers) → AddsOffers xs a b → AddsFront xs a b
front-all a b xs p = (xs, [], sym (append-nil xs), p)

pub front-none : (a b : Option Offers) (xs : Offers) → AddsOffers [] a b → AddsFront xs a b
front-none a b xs p = ([], xs, refl, p)

pub front-later : (a b c : Option Offers) (xs : Offers) → Stays a b → AddsFront xs b c → AddsFront xs a c
front-later a b c xs stays (front, rest, whole, p) = (front, rest, whole, adds-later a b c front stays p)

pub front-more : (a b c : Option Offers) (xs ys : Offers) → AddsOffers xs a b → AddsFront ys b c → AddsFront (xs ++ ys) a c
front-more a b c xs ys p (front, rest, whole, q) =
    (xs ++ front, rest, ap (λ l. xs ++ l) whole ∙ sym (append_assoc xs front rest), adds-more a b c xs front p q)
