use Rattle.std.proofs.Common.{◌≡◌, ◌<◌, true, Ok, Err, length, sym, ◌∙◌, arith}
use Rattle.std.proofs.lemmas.Bool.Decides.{nat_tests}
use Rattle.std.specs.List.{list_all}
use Rattle.std.specs.Str.Parse.{digits_value}
use Rattle.cs_base.specs.Characters.{is_digit}
use Rattle.cs_io.proofs.Digits.{parsed}
use Rattle.cs_io.proofs.numbers.read_short_number.Goals as goal

pub unreachable-requires : goal.unreachable-requires
unreachable-requires c =
    let all : list_all is_digit c.args.word.now ≡ true = grind (arith, c.as_bytes.ensures.value, c.are_digits.ensures, c.if-not-are_digits.false) in
    let some : 0 < length c.args.word.now = grind (arith, nat_tests) in
    let is = parsed c.args.word.now c.parse.result c.parse.ensures.value.0 all some c.if-word-gt18.false in
    let q : Ok (digits_value 10 c.args.word.now) ≡ Err c.in-Err.field-0 = sym is ∙ c.in-Err.is in cc
