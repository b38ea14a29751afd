use Rattle.std.proofs.Common.{◌≡◌, length, subst, arith}
use Rattle.std.proofs.lemmas.List.{length-map}
use Rattle.cs_merkle.specs.Tree.{leaves_of_vectors}
use Rattle.cs_merkle_kept.proofs.Whole.{length_zipped}
use Rattle.cs_merkle_kept.proofs.incremental.Incremental.len.Goals as goal

pub returns : goal.returns
returns c =
    let keys = c.self.inside.keys.items in
    let hashes = c.self.inside.hashes.items in
    let long = c.self.invariant.kept.long in
    subst (λ es. c.len.result ≡ length es) c.self.view_is
    (omega (
      arith,
      c.len.ensures,
      c.self.inside.keys.ok.0,
      length-map keys (λ v. v.items),
      long,
      length_zipped (leaves_of_vectors keys) hashes long,
    ))
