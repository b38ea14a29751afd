use Rattle.std.proofs.Common.{◌≡◌, arith, sym, subst, ◌∙◌}
use Rattle.cs_tx_value.specs.declared.form.FormError.TheVariants as errors
use Rattle.cs_base.specs.declared.version.Version.{Version}
use Rattle.cs_tx_types.specs.declared.entry.Entry.{Entry}
use Rattle.cs_tx_types.specs.Entry.{entry_encoding, EntryFits, entry_at}
use Rattle.cs_tx_types.specs.laws.Entry.{entry_form}
use Rattle.cs_node_wire.proofs.Whole.{answered, nothing-there, numbered, is_numbered}
use Rattle.cs_node_wire.proofs.proposals.whole.Goals as goal

pub decode-requires : goal.decode-requires
decode-requires c = is_numbered c.args.version c.number.result c.number.ensures

pub returns-in-Ok-clause-found : goal.returns-in-Ok-clause-found
returns-in-Ok-clause-found c =
    let v : Version = c.args.version in
    let bytes = c.args.bytes.now in
    let e : Entry = c.in-Ok.entry in
    answered (entry_encoding v) (EntryFits v) (entry_at v) (entry_form v) bytes e
    (subst (λ (w : Version). EntryFits w e × (bytes ≡ entry_encoding w e)) (numbered v c.number.result c.number.ensures) c.in-Ok.ensures.found)

pub returns-in-Ok-clause-fits : goal.returns-in-Ok-clause-fits
returns-in-Ok-clause-fits c =
    subst (λ (w : Version). EntryFits w c.in-Ok.entry) (numbered c.args.version c.number.result c.number.ensures) c.in-Ok.ensures.found.0

pub returns-in-Ok-clause-bytes : goal.returns-in-Ok-clause-bytes
returns-in-Ok-clause-bytes c = λ i. omega (arith, c.type_inv.bytes i)

pub returns-in-Err-Memory-clause-bytes : goal.returns-in-Err-Memory-clause-bytes
returns-in-Err-Memory-clause-bytes c = λ i. omega (arith, c.type_inv.bytes i)

pub returns-in-Err-TooLong : goal.returns-in-Err-TooLong
returns-in-Err-TooLong c =
    let v : Version = c.args.version in
    let bytes = c.args.bytes.now in
    record {
      found = nothing-there (entry_encoding v) (EntryFits v) (entry_at v) (entry_form v) bytes c.in-Err-TooLong.field-0 (λ i. omega (arith, c.type_inv.bytes i))
          (subst (λ (w : Version). (e : Entry) → EntryFits w e → bytes ≡ entry_encoding w e → c.in-Err-TooLong.field-0 ≡ errors.Memory) (numbered v c.number.result c.number.ensures) c.in-Err-TooLong.ensures.only)
          (λ same. let q : errors.TooLong ≡ errors.Memory = sym c.in-Err-TooLong.field-0-is ∙ same in cc);
      fits = tt;
      bytes = λ i. omega (arith, c.type_inv.bytes i);
    }

pub returns-in-Err-BadForm : goal.returns-in-Err-BadForm
returns-in-Err-BadForm c =
    let v : Version = c.args.version in
    let bytes = c.args.bytes.now in
    record {
      found = nothing-there (entry_encoding v) (EntryFits v) (entry_at v) (entry_form v) bytes c.in-Err-BadForm.field-0 (λ i. omega (arith, c.type_inv.bytes i))
          (subst (λ (w : Version). (e : Entry) → EntryFits w e → bytes ≡ entry_encoding w e → c.in-Err-BadForm.field-0 ≡ errors.Memory) (numbered v c.number.result c.number.ensures) c.in-Err-BadForm.ensures.only)
          (λ same. let q : errors.BadForm ≡ errors.Memory = sym c.in-Err-BadForm.field-0-is ∙ same in cc);
      fits = tt;
      bytes = λ i. omega (arith, c.type_inv.bytes i);
    }
