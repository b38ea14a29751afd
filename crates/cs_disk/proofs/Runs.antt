-- How a run of calls of a disk goes on.
use Rattle.std.proofs.Common.{inl, inr, ⊎_elim, ℕ, List, arith}
use Rattle.cs_disk.specs.Disk.{Elapses}
use Rattle.cs_disk.specs.Moments.{LeavesOnly}

module _ {D : Type 0} (moment : D → ℕ) (left_since : D → ℕ → List ℕ → Type 0) where
  -- one call, by what a crash may leave before it and after it
  pub one_call : (old new : D) (P before after : List ℕ → Type 0) → ((c : List ℕ) → left_since old (moment old) c → before c) → Elapses (moment old) (moment new) (left_since old) (left_since new) after
      → ((c : List ℕ) → before c → P c) → ((c : List ℕ) → after c → P c) → LeavesOnly moment left_since old new P
  one_call old new P before after only time first last = record {
    later = time.later;
    each = λ c left. ⊎_elim (λ was. first c (only c was)) (last c) (time.nothing_else (moment old) c (omega arith) left);
    before = λ t c le left. ⊎_elim (λ was. inl was) (λ now. inr (last c now)) (time.nothing_else t c le left);
  }

  -- no call
  pub no_call : (old : D) (P before : List ℕ → Type 0) → ((c : List ℕ) → left_since old (moment old) c → before c) → ((c : List ℕ) → before c → P c) → LeavesOnly moment left_since old old P
  no_call old P before only first = record { later = omega arith; each = λ c left. first c (only c left); before = λ t c le left. inl left }

  -- some calls, and then some
  pub then_calls : (old mid new : D) (P Q R : List ℕ → Type 0) → LeavesOnly moment left_since old mid P → LeavesOnly moment left_since mid new Q
      → ((c : List ℕ) → P c → R c) → ((c : List ℕ) → Q c → R c) → LeavesOnly moment left_since old new R
  then_calls old mid new P Q R first second from_P from_Q = record {
    later = omega (arith, first.later, second.later);
    each = λ c left. ⊎_elim (λ was. from_P c (first.each c was)) (from_Q c) (second.before (moment old) c first.later left);
    before = λ t c le left. ⊎_elim (λ was. ⊎_elim (λ past. inl past) (λ p. inr (from_P c p)) (first.before t c le was)) (λ q. inr (from_Q c q)) (second.before t c (omega (arith, le, first.later)) left);
  }

  pub widened : (old new : D) (P R : List ℕ → Type 0) → LeavesOnly moment left_since old new P → ((c : List ℕ) → P c → R c) → LeavesOnly moment left_since old new R
  widened old new P R so from_P = record {
    later = so.later;
    each = λ c left. from_P c (so.each c left);
    before = λ t c le left. ⊎_elim (λ was. inl was) (λ p. inr (from_P c p)) (so.before t c le left);
  }
