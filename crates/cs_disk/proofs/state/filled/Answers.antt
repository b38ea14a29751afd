use Rattle.std.proofs.Common.{◌≡◌, ◌+◌, List, ℕ, [], ◌∷◌, ◌++◌, take, get_or, sym, subst}
use Rattle.std.proofs.lemmas.List.{take_more}
use Rattle.cs_disk.specs.Tears.{Tears}
use Rattle.cs_disk.proofs.Tearing.{tears_more}
use Rattle.cs_disk.proofs.state.filled.Goals as goal

pub loop-range-preserved : goal.loop-range-preserved
loop-range-preserved c =
    let ranges = c.args.ranges.now in
    let i = c.loop-range.range-index in
    let range = get_or ranges i (0, 0) in
    let more : take (i + 1) ranges ≡ take i ranges ++ range ∷ [] = take_more ranges i (0, 0) c.loop-range-test.true in
    let torn = c.in_ok-file-2.ensures in
    subst (λ (l : List (ℕ × ℕ)). Tears c.args.synced.now l c.in_ok-file-2.file.items) (sym more)
    (tears_more c.args.synced.now (take i ranges) range c.loop-range.file.items c.in_ok-file-2.file.items c.loop-range.invariant torn)
