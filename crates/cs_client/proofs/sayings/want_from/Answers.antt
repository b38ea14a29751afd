use Rattle.std.proofs.Common.{◌≡◌, ℕ, ◌++◌, ap, ◌∙◌, arith}
use Rattle.std.specs.List.{flat_map}
use Rattle.cs_client.specs.Nodes.{numbers_below}
use Rattle.cs_client.specs.Sayings.{outs_of_sayings, wants_one}
use Rattle.cs_client.proofs.sayings.want_from.Goals as goal

pub returns : goal.returns
returns c =
    let all : c.loop-number.number ≡ 64 = omega arith in
    c.loop-number.invariant
    ∙ ap (λ (n : ℕ). c.args.outs.now ++ outs_of_sayings c.args.keys.now (flat_map (wants_one c.args.config.now c.args.first c.args.shard) (numbers_below n))) all
