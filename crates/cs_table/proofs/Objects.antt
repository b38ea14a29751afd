-- Objects that fit are equal where their encodings are.
use Rattle.std.proofs.Common.{◌≡◌, ℕ, Bool, true, List, [], ◌++◌, bytes_eq, Some, ◌↔◌, IsTrue, ◌&&◌, sym, ap, ◌∙◌, subst}
use Rattle.cs_tx_value.specs.declared.object.Object.{Object}
use Rattle.cs_tx_value.specs.Object.{object_encoding, ObjectFits, object_at}
use Rattle.cs_tx_value.specs.laws.Object.{object_form}
use Rattle.cs_ledger.proofs.Basics.{same_bytes, bytes_refl}
use Rattle.cs_base.specs.declared.key.Key.{Key}
use Rattle.cs_tx_types.specs.declared.state.State.{State}
use Rattle.cs_tx_types.specs.declared.state.State.TheVariants.{Active, Shared}
use Rattle.cs_ledger.specs.Session.{Key as Name}
use Rattle.cs_ledger.specs.Table.{is_active_with, is_readable_with, has_seat}
use Rattle.cs_tx_types.specs.declared.record.Record.{Record}
use Rattle.cs_table.specs.Seen.{row_in, seen_row, seen_state, HoldsFit}
use Rattle.cs_table.proofs.Rows.{same_tests}

front : (p q : Object × List ℕ) → Some p ≡ Some q → p.0 ≡ q.0
front p q h = let both : p ≡ q = cc in ap (λ (z : Object × List ℕ). z.0) both

same_object : (a b : Object) → ObjectFits a → ObjectFits b → object_encoding a ≡ object_encoding b → a ≡ b
same_object a b fits_a fits_b e =
    front (a, []) (b, []) (sym (object_form.again a [] fits_a) ∙ ap (λ bytes. object_at (bytes ++ [])) e ∙ object_form.again b [] fits_b)

pub same_encoding : (a b : Object) → ObjectFits a → ObjectFits b → (r : Bool) → IsTrue r ↔ (a ≡ b) → r ≡ bytes_eq (object_encoding b) (object_encoding a)
same_encoding a b fits_a fits_b r is =
    same_tests r (bytes_eq (object_encoding b) (object_encoding a))
    (λ h. subst (λ o. bytes_eq (object_encoding o) (object_encoding a) ≡ true) (is.0 h) (bytes_refl (object_encoding a)))
    (λ h. is.1 (same_object a b fits_a fits_b (sym (same_bytes (object_encoding b) (object_encoding a) h))))

-- exactly this object is active, where the record that is stored has it active
pub active_is : (rows : List (Key × Record)) (name : Name) (row : Record) (object carried : Object) (r : Bool) → Some row ≡ row_in rows name → row.state ≡ Active object → ObjectFits carried → HoldsFit row.state → IsTrue r ↔ (object ≡ carried) → r ≡ is_active_with (object_encoding carried) (seen_row (row_in rows name)).state
active_is rows name row object carried r found is fits held same =
    same_encoding object carried (subst HoldsFit is held) fits r same
    ∙ ap (λ state. is_active_with (object_encoding carried) (seen_state state)) (sym is)
    ∙ ap (λ o. is_active_with (object_encoding carried) (seen_row o).state) found

-- whether a state has exactly the carried object, for one more session to read
pub active_held : (state : State) (object carried : Object) (r : Bool) → state ≡ Active object → ObjectFits carried → HoldsFit state → IsTrue r ↔ (object ≡ carried) → r ≡ is_readable_with (object_encoding carried) (seen_state state)
active_held state object carried r is fits held same =
    same_encoding object carried (subst HoldsFit is held) fits r same
    ∙ ap (λ s. is_readable_with (object_encoding carried) (seen_state s)) (sym is)

pub shared_held : (state : State) (object carried : Object) (readers : List (List ℕ)) (r : Bool) → state ≡ Shared object readers → ObjectFits carried → HoldsFit state → IsTrue r ↔ (object ≡ carried) → (r && has_seat readers) ≡ is_readable_with (object_encoding carried) (seen_state state)
shared_held state object carried readers r is fits held same =
    ap (λ (b : Bool). b && has_seat readers) (same_encoding object carried (subst HoldsFit is held).0 fits r same)
    ∙ ap (λ s. is_readable_with (object_encoding carried) (seen_state s)) (sym is)
