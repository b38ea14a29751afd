use Rattle.std.proofs.Common.{List, refl, sym, ap, ◌∙◌}
use Rattle.std.proofs.lemmas.List.{nil_from_length}
use Rattle.cs_lang.specs.declared.tree.Field.{Field}
use Rattle.cs_types_kinds.specs.declared.scope.Use.{Use}
use Rattle.cs_types_kinds.specs.declared.scope.Use.TheVariants as usage
use Rattle.cs_types.specs.Declaring.{slots_told, names_told, use_of_created}
use Rattle.cs_types.proofs.Branches.{binds_after, types_stay, slots_are, names_are}
use Rattle.cs_types.proofs.Staying.{stays_more}
use Rattle.cs_types.proofs.declarations.add_names.Goals as goal

pub returns : goal.returns
returns c =
    let m = c.args.method.now in
    let s = c.args.scope.now in
    let consumed = c.in_ok-add_slots.ensures in
    let read = c.in_ok-add_slots-2.ensures in
    let taken = c.in_ok-add_fields.ensures in
    let created = c.in_ok-add_slots-3.ensures in
    let two = stays_more s c.add_slots.new.scope c.add_slots-2.new.scope consumed.1 read.1 in
    let three = stays_more s c.add_slots-2.new.scope c.add_fields.new.scope two taken.1 in
    let four = stays_more s c.add_fields.new.scope c.add_slots-3.new.scope three created.1 in
    let first = ap (slots_told s.contract.types usage.Read m.consumes) (sym (nil_from_length s.names c.requires))
    ∙ slots_are s.contract.types s.contract.types usage.Read usage.Read m.consumes c.as_slice.result.now s.names c.add_slots.new.scope.names refl refl c.as_slice.ensures consumed.0 in
    let second = slots_are s.contract.types c.add_slots.new.scope.contract.types usage.Read usage.Read m.reads c.as_slice-2.result.now c.add_slots.new.scope.names c.add_slots-2.new.scope.names (types_stay s c.add_slots.new.scope consumed.1) refl c.as_slice-2.ensures read.0 in
    let third = ap (λ (fs : List Field). names_told usage.Read fs c.add_slots-2.new.scope.names) (sym c.as_slice-3.ensures) ∙ taken.0 in
    let fourth = slots_are s.contract.types c.add_fields.new.scope.contract.types (use_of_created c.args.in_check) c.use_of_created-created.result m.creates c.as_slice-4.result.now c.add_fields.new.scope.names c.add_slots-3.new.scope.names (types_stay s c.add_fields.new.scope three) c.use_of_created-created.ensures c.as_slice-4.ensures created.0 in
    binds_after _ s c.add_slots-3.new.scope _ _ _ four
    (names_are s.contract.types c.args.in_check m c.add_slots.new.scope.names c.add_slots-2.new.scope.names c.add_fields.new.scope.names c.add_slots-3.new.scope.names first second third fourth
    ∙ ap (λ (u : Use). names_told u m.returns c.add_slots-3.new.scope.names) (sym c.use_of_returned-returned.ensures)
    ∙ ap (λ (fs : List Field). names_told c.use_of_returned-returned.result fs c.add_slots-3.new.scope.names) (sym c.as_slice-5.ensures))
    c.add_fields-2.ensures
