use Rattle.std.specs.Prelude.{◌≡◌, ℕ, ◌==◌, List, [], Option, Some, None, position, length}
use Rattle.std.specs.List.{before_first}
use Rattle.std.proofs.Common.{refl, sym, ap, ◌∙◌, arith}
use Rattle.std.proofs.lemmas.Fmt.{decimal_nonempty}
use Rattle.cs_base.specs.Codes.{number_of}
use Rattle.cs_base.proofs.Lines.{after_first-none}
use Rattle.cs_base.proofs.Numbers.{number_none}
use Rattle.cs_show.specs.Keys.{dummy_of, dummy_in}
use Rattle.cs_show.proofs.keys.read_dummy.Goals as goal

no_serial : (shard : Option ℕ) → dummy_of shard None ≡ None
no_serial None = refl
no_serial (Some shard) = refl

no_number : number_of [] ≡ None
no_number = sym (number_none [] (λ is. let none = ap length is.text in omega (arith, decimal_nonempty 0 (omega arith))))

-- a word without a colon is no dummy
no_colon : (word : List ℕ) → position (λ byte. byte == 58) word ≡ None → dummy_in word ≡ None
no_colon word none =
    let front = number_of (before_first (λ byte. byte == 58) word) in
    ap (λ back. dummy_of front (number_of back)) (after_first-none (λ byte. byte == 58) word none)
    ∙ ap (dummy_of front) no_number ∙ no_serial front

pub returns-in_err-shard : goal.returns-in_err-shard
returns-in_err-shard c = let none = no_colon c.args.word.now c.in_err-shard.ensures.absent in cc
