-- The slots that a procedure fills.
use Rattle.std.specs.Prelude.{ℕ, suc, Bool, not, ◌||◌, List, [], ◌∷◌, ◌++◌, map, Option, Some, None, if◌then◌else◌}
use Rattle.std.specs.Str.{bytes_eq}
use Rattle.cs_lang.specs.declared.tree.Slot.{Slot}
use Rattle.cs_tx_value.specs.declared.object.Object.{Object}
use Rattle.cs_base.specs.Lists.{is_empty}

-- a slot, whether it is for any number of objects, and those that were made for it
pub record Created : Type 0 where
  pub name : List ℕ
  pub many : Bool
  pub objects : List Object

abbrev pub created : List ℕ → Bool → List Object → Created
created name many objects = record { name = name; many = many; objects = objects }

abbrev pub is_created : List ℕ → Created → Bool
is_created name c = bytes_eq c.name name

-- the place of the first of this name, or the number of slots where there is none
abbrev pub place_created : List ℕ → List Created → ℕ
place_created name [] = 0
place_created name (c ∷ cs) = if is_created name c then 0 else suc (place_created name cs)

-- the first of this name
abbrev pub find_created : List ℕ → List Created → Option Created
find_created name [] = None
find_created name (c ∷ cs) = if is_created name c then Some c else find_created name cs

-- a slot for one object takes one alone
abbrev pub slot_has_room : Created → Bool
slot_has_room c = c.many || is_empty c.objects

abbrev pub room_in : Option Created → Option Bool
room_in None = None
room_in (Some c) = Some (slot_has_room c)

-- whether the slot of this name takes one more
abbrev pub room_for : List ℕ → List Created → Option Bool
room_for name cs = room_in (find_created name cs)

abbrev pub with_object : Object → Created → Created
with_object o c = created c.name c.many (c.objects ++ o ∷ [])

-- with one object more in the first slot of this name
abbrev pub with_made : List ℕ → Object → List Created → List Created
with_made name o [] = []
with_made name o (c ∷ cs) = if is_created name c then with_object o c ∷ cs else c ∷ with_made name o cs

-- a slot for one object has to be filled
abbrev pub is_filled : Created → Bool
is_filled c = c.many || not (is_empty c.objects)

-- all that was made, in the order of the slots
abbrev pub all_made : List Created → List Object
all_made [] = []
all_made (c ∷ cs) = c.objects ++ all_made cs

abbrev pub empty_slot : Slot → Created
empty_slot s = created s.name.bytes s.many []

-- the slots at the beginning
abbrev pub empty_slots : List Slot → List Created
empty_slots slots = map empty_slot slots
