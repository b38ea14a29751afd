use Rattle.std.proofs.Common.{◌<◌, ◌≤◌, ◌↔◌, length, rules, arith, refl}
use Rattle.std.specs.Int.{w64}
use Rattle.std.specs.Int.RustNames.{FitsSigned}
use Rattle.cs_base.specs.Fields.{IsBytes}
use Rattle.cs_tx_value.specs.laws.Layers.{int_fits, text_fits_iff, list_fits_iff}
use Rattle.cs_tx_value.proofs.fitting.+fits.Goals as goal

pub value_fits-returns-in-Int : goal.value_fits-returns-in-Int
value_fits-returns-in-Int t c =
    let fits : FitsSigned w64 c.in-Int.number = search rules in
    (λ _. int_fits c.args.depth c.args.value.now c.in-Int.number c.in-Int.is fits, λ _. refl)

pub value_fits-returns-in-Bytes : goal.value_fits-returns-in-Bytes
value_fits-returns-in-Bytes t c =
    let iff : ((length c.as_slice.result.now ≤ 256) × IsBytes c.as_slice.result.now) ↔ _ = rw c.as_slice.ensures (text_fits_iff c.args.depth c.args.value.now c.in-Bytes.text c.in-Bytes.is) in
    (λ h. iff.0 (c.text_fits.ensures.0 h), λ h. c.text_fits.ensures.1 (iff.1 h))

pub value_fits-returns-else-len-gt64 : goal.value_fits-returns-else-len-gt64
value_fits-returns-else-len-gt64 t c =
    let some : 0 < c.args.depth = omega (arith, c.if-depth-eq0.false) in
    let few : length c.in-List.items ≤ 64 = omega (arith, c.len.ensures, c.if-len-gt64.false) in
    let iff = list_fits_iff c.args.depth c.args.value.now c.in-List.items c.in-List.is some in
    (λ h. iff.0 (few, rw (← c.as_slice-in-List.ensures) (c.values_fit.ensures.0 h)), λ h. c.values_fit.ensures.1 (rw c.as_slice-in-List.ensures (iff.1 h).1))
