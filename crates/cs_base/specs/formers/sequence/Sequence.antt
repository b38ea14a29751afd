-- How a `Sequence` holds its elements, so that a type may hold sequences of itself: it holds those of its vector, in
-- their order.
use mathlib.Core.Path.{◌≡◌, refl, sym}
use mathlib.Core.List.{List, []}
use mathlib.Core.Former.{Former, this, list, via, children}
use base.Stored.{code_map}
use denote.RattleType.{RattleType}
use denote.HoleLaws.{Alike}
use denote.HolePlaces.{Recodes, struct_places, laid}
use denote.Hole.Carrier.{listed, list-listed}
use denote.Hole.Fix.{over}
use denote.Param.Weighed.{Weighed, w_list}
use denote.Model.Placed.{view_places}
use Rattle.std.specs.formers.vec.Vec as vec
use Rattle.std.specs.declared.alloc.Global.{Global}
use Rattle.std.specs.contracts.alloc.Global as global
use Rattle.std.specs.contracts.impls.GlobalAllocator.TheImpl.{ghosts}
use Rattle.cs_base.specs.declared.sequence.Sequence.TheInside.{Inside}
use Rattle.cs_base.specs.declared.sequence.Sequence.TheView.{view, invariant}
use Rattle.cs_base.specs.contracts.sequence.Sequence as seen
use Rattle.cs_base.specs.contracts.sequence.Sequence.TheInside as stored

-- ---- as contracts see it, a sequence is a list

abbrev pub the_former : Former {0} → Former {0}
the_former element = list element

abbrev pub the_weighed : {element : Former {0}} → Weighed element → Weighed (the_former element)
the_weighed weighed = w_list weighed

pub the_empty : List ⊥
the_empty = []

abbrev pub the_items : (X : Type 0) → List X → List X
the_items X elements = elements

pub the_items_listed : (X : Type 0) (elements : List X)
    → listed _ (children (the_former this) X elements) ≡ the_items X elements
the_items_listed X elements = list-listed X elements

-- ---- as it is stored, it is a struct of one vector

abbrev in_vector : Former {0}
in_vector =
    via (vec.the_former this Global) Inside (λ X sequence. sequence.elements) (λ X vector. record { elements = vector })
    (λ X sequence. refl) (λ X vector. refl)

module _ (From To : RattleType) (change : From.Denot → To.Denot) where
  abbrev changed : List From.Denot → List To.Denot
  changed = (the_former this).map From.Denot To.Denot change

  -- two types that are laid out alike give structs that are
  stored_alike : Alike From To change
      → Alike (stored.the_row From) (stored.the_row To) (in_vector.map From.Denot To.Denot change)
  stored_alike alike =
      struct_places (stored.the_type From) (stored.the_type To) (vec.mapped change, tt) _ (λ sequence. refl) refl
      (laid _ _ _ (vec.the_places global.the_row ghosts From To change alike), tt)

  -- and the view keeps that, since it shows each element in its place and has no invariant
  pub the_places : Alike From To change → Alike (seen.the_row From) (seen.the_row To) changed
  the_places alike =
      view_places in_vector (the_former this) view (λ X Y each sequence. refl) (λ X sequence. refl)
      From.Denot To.Denot change (seen.the_row From).coded (seen.the_row To).coded
      (invariant From.Denot) (invariant To.Denot)
      (λ sequence p q. refl) (λ sequence p q. refl) (λ sequence holds. tt) (λ sequence holds. tt)
      (over (stored.the_row From)) (over (stored.the_row To)) (stored_alike alike)

  pub the_codes_placed : Recodes From To change → Recodes (seen.the_row From) (seen.the_row To) changed
  the_codes_placed recodes elements =
      sym (code_map From.coded.code To.coded.code change (λ element. sym (recodes element)) elements)
