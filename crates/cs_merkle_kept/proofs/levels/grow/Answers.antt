use Rattle.std.proofs.Common.{◌≡◌, ℕ, ◌+◌, ◌-◌, ◌++◌, ◌∷◌, [], List, length, replicate, ap, ◌∙◌, sym, arith}
use Rattle.std.proofs.lemmas.List.{map-append, length_push}
use Rattle.cs_merkle_kept.specs.Levels.{levels_of}
use Rattle.cs_merkle_kept.proofs.Heights.{grown_more}
use Rattle.cs_merkle_kept.proofs.levels.grow.Goals as goal

pub loop-alloc-preserved : goal.loop-alloc-preserved
loop-alloc-preserved c =
    let old = c.args.levels.now.items in
    let now = c.loop-alloc.levels.items in
    let added = c.new.result in
    let empty : added.items ≡ [] = c.new.ensures.items in
    let pushed : c.push.new.self.items ≡ now ++ added ∷ [] = c.in_ok-push.ensures.items in
    let long : length c.push.new.self.items ≡ length now + 1 =
    ap length pushed ∙ length_push now added in
    let invariant = c.loop-alloc.invariant in
    let k = length now - length old in
    let more : length c.push.new.self.items - length old ≡ k + 1 = omega (arith, long, invariant.1) in (
      ap levels_of pushed ∙ map-append (λ v. v.items) now (added ∷ [])
          ∙ ap (λ (xs : List (List ℕ)). levels_of now ++ xs ∷ []) empty
          ∙ grown_more (levels_of old) (levels_of now) k invariant.0
          ∙ ap (λ (m : ℕ). levels_of old ++ replicate m []) (sym more),
      omega (arith, long, invariant.1),
      omega (arith, long, c.len.ensures, c.loop-alloc-test.true, c.loop-alloc.levels.ok.0),
    )
