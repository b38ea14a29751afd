use Rattle.std.proofs.Common.{ℕ, List, [], ◌∷◌, length, ap}
use Rattle.cs_base.specs.Fields.{counted}
use Rattle.cs_native.proofs.Taken.{two_taken, each_byte}
use Rattle.cs_native.proofs.taking.take_deps.Goals as goal

pub returns : goal.returns
returns c =
    let deps : List ℕ = c.args.deps.now in
    two_taken c.args.hasher.now c.update.new.self c.update-2.new.self (length deps ∷ []) deps (counted (λ n. n ∷ []) deps)
    (ap (λ (rest : List ℕ). length deps ∷ rest) (each_byte deps)) c.update.ensures c.update-2.ensures
