-- How a `Boxed` holds its value, so that a type may hold boxes of itself: it holds the one value behind its pointer.
use mathlib.Core.Path.{refl}
use mathlib.Core.Former.{Former, this, const, pair, via}
use base.Stored.{gnil}
use base.Fml.{ftrue}
use denote.RattleType.{RattleType}
use denote.Memory.{part_of}
use denote.RawPtr.{Ptr}
use denote.Sharing.{nothing}
use denote.HoleLaws.{Alike}
use denote.HolePlaces.{Recodes, struct_places, laid, one_value}
use denote.Hole.Fix.{over}
use denote.Param.Weighed.{Weighed}
use denote.Model.Placed.{view_places}
use Rattle.std.specs.declared.boxed.Box.{Box}
use Rattle.std.specs.contracts.boxed.Box as pointer
use Rattle.std.specs.declared.alloc.Global.{Global}
use Rattle.std.specs.contracts.alloc.Global as global
use Rattle.std.specs.contracts.impls.GlobalAllocator.TheImpl.{ghosts}
use Rattle.cs_lang_token.specs.declared.boxed.Boxed.TheInside.{Inside}
use Rattle.cs_lang_token.specs.declared.boxed.Boxed.TheView.{view, invariant}
use Rattle.cs_lang_token.specs.contracts.boxed.Boxed as seen
use Rattle.cs_lang_token.specs.contracts.boxed.Boxed.TheInside as stored

-- ---- as contracts see it, a box is its value

abbrev pub the_former : Former {0} → Former {0}
the_former value = value

abbrev pub the_weighed : {value : Former {0}} → Weighed value → Weighed (the_former value)
the_weighed weighed = weighed

-- ---- as it is stored, it is a struct of one pointer, which owns the value

abbrev behind_pointer : Former {0}
behind_pointer = via (pair (const (Ptr × Global)) this) Inside
    (λ X boxed. ((boxed.inner.ptr, boxed.inner.alloc), boxed.inner.value))
    (λ X parts. record { inner = record { ptr = parts.0.0; alloc = parts.0.1; value = parts.1 } })
    (λ X boxed. refl) (λ X parts. refl)

abbrev refilled : {X Y : Type 0} → Box X Global → Y → Box Y Global
refilled old value = record { ptr = old.ptr; alloc = old.alloc; value = value }

abbrev pointer_row : RattleType → RattleType
pointer_row row = pointer.the_row row global.the_row ghosts

module _ (From To : RattleType) (change : From.Denot → To.Denot) where
  -- two types that are laid out alike give pointers that are
  pointer_alike : Alike From To change
      → Alike (pointer_row From) (pointer_row To) (λ old. refilled old (change old.value))
  unfolding part_of
  pointer_alike alike = record {
    mir_same = λ i. (pointer_row (one_value From (alike.mir_same i) (λ _. ftrue) (λ _ _. nothing) gnil)).mir;
    own_same = λ old i.
        (pointer_row (one_value From (alike.mir_same i)
        (alike.own_same old.value i) (alike.shr_same old.value i) gnil)).own_val
        (refilled old tt);
    shr_same = λ old i.
        (pointer_row (one_value From (alike.mir_same i)
        (alike.own_same old.value i) (alike.shr_same old.value i) gnil)).shr_at
        (refilled old tt);
  }

  -- and so do the structs, and the view keeps that, since it shows the value and has no invariant
  pub the_places : Alike From To change
      → Alike (seen.the_row From) (seen.the_row To) ((the_former this).map From.Denot To.Denot change)
  the_places alike = view_places behind_pointer this view (λ X Y each boxed. refl) (λ X boxed. refl)
      From.Denot To.Denot change (seen.the_row From).coded (seen.the_row To).coded
      (invariant From.Denot) (invariant To.Denot)
      (λ boxed p q. refl) (λ boxed p q. refl) (λ boxed holds. tt) (λ boxed holds. tt)
      (over (stored.the_row From)) (over (stored.the_row To))
      (struct_places (stored.the_type From) (stored.the_type To) ((λ old. refilled old (change old.value)), tt) _
      (λ boxed. refl) refl (laid _ _ _ (pointer_alike alike), tt))

  pub the_codes_placed : Recodes From To change
      → Recodes (seen.the_row From) (seen.the_row To) ((the_former this).map From.Denot To.Denot change)
  the_codes_placed recodes value = recodes value
