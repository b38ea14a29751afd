-- Calls of a disk, one after the other.
use Rattle.std.proofs.Common.{◌≡◌, ℕ, ◌+◌, ◌≤◌, List, length, Option, Some, None, option_map, refl, sym, ◌∙◌, subst, arith}
use Rattle.cs_base.specs.Outside.{HasCause}
use Rattle.cs_disk.specs.Disk.{Torn, Follows, Elapses, Holds, over}
use Rattle.cs_disk.specs.Moments.{LeavesOnly}
use Rattle.cs_disk.proofs.Tearing.{torn_same, torn_over, written_length}
use Rattle.cs_disk.proofs.Runs.{one_call, no_call, then_calls}
use Rattle.cs_journal.specs.Moments.{TearsFrom, IsUntouched}

module _ {D : Type 0} (content : D → Option (List ℕ)) (may_leave : D → List ℕ → Type 0) (moment : D → ℕ) (left_since : D → ℕ → List ℕ → Type 0) (only_now : (d : D) (c : List ℕ) → left_since d (moment d) c → may_leave d c) where
  -- a call that writes nothing
  pub untouched_call : (old new : D) → content new ≡ content old → ((c : List ℕ) → may_leave new c → may_leave old c) → Elapses (moment old) (moment new) (left_since old) (left_since new) (may_leave new) → IsUntouched content may_leave moment left_since old new
  untouched_call old new same outcomes time = record {
    same = same;
    outcomes = outcomes;
    since = one_call moment left_since old new (may_leave old) (may_leave old) (may_leave new) (only_now old) time (λ c left. left) outcomes;
  }

  pub untouched_none : (old : D) → IsUntouched content may_leave moment left_since old old
  untouched_none old = record { same = refl; outcomes = λ c left. left; since = no_call moment left_since old (may_leave old) (may_leave old) (only_now old) (λ c left. left) }

  pub untouched_both : (a b c : D) → IsUntouched content may_leave moment left_since a b → IsUntouched content may_leave moment left_since b c → IsUntouched content may_leave moment left_since a c
  untouched_both a b c first second = record {
    same = second.same ∙ first.same;
    outcomes = λ x left. first.outcomes x (second.outcomes x left);
    since = then_calls moment left_since a b c (may_leave a) (may_leave b) (may_leave a) first.since second.since (λ x left. left) first.outcomes;
  }

  -- a write, and then nothing more or a sync
  pub torn_call : (old new : D) (at n : ℕ) → Follows (Torn at n) (may_leave old) (may_leave new) → Elapses (moment old) (moment new) (left_since old) (left_since new) (may_leave new) → LeavesOnly moment left_since old new (TearsFrom at n (may_leave old))
  torn_call old new at n follows time =
      one_call moment left_since old new (TearsFrom at n (may_leave old)) (may_leave old) (may_leave new) (only_now old) time (λ c left. (c, left, torn_same at n c)) follows

  pub torn_then : (old mid new : D) (at n : ℕ) → Follows (Torn at n) (may_leave old) (may_leave mid) → Elapses (moment old) (moment mid) (left_since old) (left_since mid) (may_leave mid) → IsUntouched content may_leave moment left_since mid new → LeavesOnly moment left_since old new (TearsFrom at n (may_leave old))
  torn_then old mid new at n follows time rest =
      then_calls moment left_since old mid new (TearsFrom at n (may_leave old)) (may_leave mid) (TearsFrom at n (may_leave old)) (torn_call old mid at n follows time) rest.since (λ c torn. torn) follows

-- ---- lengths

over_length : (file : List ℕ) (at : ℕ) (bytes : List ℕ) → at ≤ length file → (at + length bytes ≤ length (over file at bytes)) × (length file ≤ length (over file at bytes))
over_length file at bytes within = let torn = torn_over at file bytes within in (reaches, torn.no_shorter)
  where
    reaches : at + length bytes ≤ length (over file at bytes)
    reaches = written_length at file bytes within

pub holds_written : (old new : Option (List ℕ)) (at : ℕ) (bytes : List ℕ) → Holds old at → new ≡ option_map (λ file. over file at bytes) old → Holds new (at + length bytes)
holds_written None new at bytes within is = subst (λ o. Holds o (at + length bytes)) (sym is) tt
holds_written (Some file) new at bytes within is = subst (λ o. Holds o (at + length bytes)) (sym is) (over_length file at bytes within).0

pub holds_still : (old new : Option (List ℕ)) (at : ℕ) (bytes : List ℕ) (n : ℕ) → Holds old at → Holds old n → new ≡ option_map (λ file. over file at bytes) old → Holds new n
holds_still None new at bytes n within holds is = subst (λ o. Holds o n) (sym is) tt
holds_still (Some file) new at bytes n within holds is = let longer = (over_length file at bytes within).1 in subst (λ o. Holds o n) (sym is) (omega (arith, longer, holds))

-- so many bytes, said in another way
pub holds_same : (content : Option (List ℕ)) (m n : ℕ) → m ≡ n → Holds content m → Holds content n
holds_same content m n same holds = subst (λ k. Holds content k) same holds

-- ---- faults

pub cause_later : {P Q : Type 0} (a b c : ℕ) → a ≤ b → HasCause b c P → (Q → P) → HasCause a c Q
cause_later a b c first cause because = record {
  later = (let second = cause.later in omega arith);
  cause = λ failed. let rose = cause.cause (because failed) in omega arith;
}
