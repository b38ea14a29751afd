use Rattle.std.proofs.Common.{rules}
use Rattle.std.proofs.lemmas.Fn.{always_returns_same}
use Rattle.cs_merkle_kept.specs.Leaves.{byte_order}
use Rattle.cs_merkle_kept.proofs.Found.{found_in}
use Rattle.cs_merkle_kept.proofs.places.search.Goals as goal

pub returns : goal.returns
returns c =
    found_in c.args.keys.now c.args.key.now c.binary_search_by.result c.requires
    c.binary_search_by.ensures.bound
    (c.binary_search_by.ensures.position (λ v. byte_order v.items c.args.key.now)
    (always_returns_same _ _ _ (λ a r q k. search rules)))
