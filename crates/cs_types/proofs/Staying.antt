-- What stays in sight while names are added.
use Rattle.std.proofs.Common.{◌≡◌, ℕ, List, [], ◌∷◌, ◌++◌, length, take, sym, ap, ◌∙◌, append_assoc}
use Rattle.std.proofs.lemmas.List.{append-nil}
use Rattle.std.proofs.Math.Seq.{take-append_seam}
use Rattle.cs_types_kinds.specs.declared.kind.Kind.{Kind}
use Rattle.cs_types_kinds.specs.declared.scope.Use.{Use}
use Rattle.cs_types_kinds.specs.Scopes.{InSight, with_name, sight_with_names}
use Rattle.cs_types.specs.Steps.{SightStays}

pub stays_refl : (s : InSight) → SightStays s s
stays_refl s = record { more = []; is = ap (sight_with_names s) (sym (append-nil s.names)) }

pub stays_same : (a b : InSight) → b ≡ a → SightStays a b
stays_same a b is = record { more = []; is = is ∙ ap (sight_with_names a) (sym (append-nil a.names)) }

pub stays_added : (a b : InSight) (name : List ℕ) (k : Kind) (u : Use) → b ≡ sight_with_names a (with_name a.names name k u) → SightStays a b
stays_added a b name k u is = record { more = record { name = name; seen = record { kind = k; usage = u } } ∷ []; is = is }

pub stays_more : (a b c : InSight) → SightStays a b → SightStays b c → SightStays a c
stays_more a b c p q = record {
  more = p.more ++ q.more;
  is = q.is ∙ ap (λ (z : InSight). sight_with_names z (z.names ++ q.more)) p.is ∙ ap (sight_with_names a) (append_assoc a.names p.more q.more);
}

pub left_is : (a b : InSight) → SightStays a b → sight_with_names b (take (length a.names) b.names) ≡ a
left_is a b p = ap (λ (z : InSight). sight_with_names z (take (length a.names) z.names)) p.is ∙ ap (sight_with_names a) (take-append_seam a.names p.more)

pub names_again : (a b : InSight) → SightStays a b → sight_with_names a b.names ≡ b
names_again a b p = ap (λ (z : InSight). sight_with_names a z.names) p.is ∙ sym p.is

pub ruleset stays = (stays_refl, stays_same, stays_added, stays_more, left_is, names_again)
