use Rattle.std.proofs.Common.{inr, ◌≡◌, List, ℕ, sym, subst, rules}
use Rattle.cs_disk.specs.Tears.{Tears}
use Rattle.cs_disk.proofs.Tearing.{tears_none}
use Rattle.cs_disk.proofs.state.State.left.Goals as goal

pub returns-in_ok-from_slice-in-Unwritten : goal.returns-in_ok-from_slice-in-Unwritten
returns-in_ok-from_slice-in-Unwritten c =
    let state = c.args.self.now in
    let same : c.in_ok-from_slice-in-Unwritten.field-0.items ≡ state.synced = search rules in
    inr (subst (λ (l : List ℕ). Tears state.synced state.unsynced l) (sym same) (tears_none state.synced state.unsynced))
