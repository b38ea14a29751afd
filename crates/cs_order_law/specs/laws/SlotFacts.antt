-- What the tests on a member's facts say.
use Rattle.std.proofs.Common.{◌≡◌, ℕ, zero, suc, ◌+◌, ◌*◌, ◌<◌, ◌≤◌, ◌==◌, nat_le, bytes_eq, Bool, true, false, not, ◌&&◌, ◌||◌, if◌then◌else◌, List, [], ◌∷◌, Option, Some, None, is_some, ◌⊎◌, inl, inr, refl, sym, ap, ap₂, subst, arith, leb-true, eqb-true}
use Rattle.std.proofs.lemmas.Bool.{or_cases}
use Rattle.std.proofs.lemmas.Bool.Decides.{eqb_tells}
use Rattle.cs_base.specs.Lists.{IsIn}
use Rattle.cs_order.specs.Counts.{count_below, any_below, first_below, last_below, last_found, when}
use Rattle.cs_base.specs.Options.{or_else}
use Rattle.cs_order.specs.declared.proposed.Proposed.{Proposed}
use Rattle.cs_order_rules.specs.declared.message.Change.{Change}
use Rattle.cs_order_rules.specs.declared.message.OrderMessage.{OrderMessage}
use Rattle.cs_order_rules.specs.declared.message.OrderMessage.TheVariants as message
use Rattle.cs_order_rules.specs.Safe.{says_allowed, SafeAt, is_free_view, is_safe, is_safe_from}
use Rattle.cs_order_rules.specs.Slot.{same_entry}
use Rattle.cs_order_law.specs.laws.SafeFacts.{and_left, and_right, same_bytes}
use Rattle.cs_order_rules.specs.Facts.{Facts, Sight, open_slot, leader, at, proposal_said, echo_said, confirm_said, change_said, done_said, took, first_of}
use Rattle.cs_order_rules.specs.Rules.{change_of, own, safe, may_echo, if_may_echo, pending}

pub took_is : (test : OrderMessage → Bool) (facts : Facts) (member : ℕ) → took test facts member ≡ true → (m : OrderMessage) × IsIn (member, m) facts × (test m ≡ true)
took_is test [] member h = cc
took_is test (fact ∷ facts) member h =
    elim (or_cases ((fact.0 == member) && test fact.1) (took test facts member) h) [
      | inl k ↦ (fact.1, inl (ap (λ (x : ℕ). (x, fact.1)) (sym (eqb-true fact.0 member (and_left _ _ k)))), and_right (fact.0 == member) _ k)
      | inr k ↦ let r = took_is test facts member k in (r.0, inr r.1, r.2)
    ]

pub or_left : (a b : Bool) → a ≡ true → (a || b) ≡ true
or_left a b h = rw h refl

pub or_right : (a b : Bool) → b ≡ true → (a || b) ≡ true
or_right true b h = refl
or_right false b h = h

both : (a b : Bool) → a ≡ true → b ≡ true → (a && b) ≡ true
both a b h k = rw h k

pub same_number : (n : ℕ) → (n == n) ≡ true
same_number n = elim (eqb_tells n n) [ inl h ↦ h.0 | inr h ↦ absurd (h.1 refl) ]

pub in_took : (test : OrderMessage → Bool) (facts : Facts) (member : ℕ) (m : OrderMessage) → IsIn (member, m) facts → test m ≡ true → took test facts member ≡ true
in_took test [] member m h k = absurd h
in_took test (fact ∷ facts) member m (inl e) k = or_left _ _ (both (fact.0 == member) (test fact.1) (rw (← e) (same_number member)) (rw (← e) k))
in_took test (fact ∷ facts) member m (inr h) k = or_right ((fact.0 == member) && test fact.1) _ (in_took test facts member m h k)

pub if_some : {A : Type 0} (b : Bool) (o : Option A) (x : A) → (if b then o else None) ≡ Some x → (b ≡ true) × (o ≡ Some x)
if_some true o x h = (refl, h)
if_some false o x h = cc

pub or_else_cases : {A : Type 0} (a b : Option A) (x : A) → or_else a b ≡ Some x → (a ≡ Some x) ⊎ (b ≡ Some x)
or_else_cases None b x h = inr h
or_else_cases (Some y) b x h = inl h

pub first_of_is : {A : Type 0} (said : OrderMessage → Option A) (facts : Facts) (member : ℕ) (x : A) → first_of said facts member ≡ Some x → (m : OrderMessage) × IsIn (member, m) facts × (said m ≡ Some x)
first_of_is said [] member x h = cc
first_of_is said (fact ∷ facts) member x h =
    elim (or_else_cases (if fact.0 == member then said fact.1 else None) (first_of said facts member) x h) [
      | inl k ↦
          let r = if_some (fact.0 == member) (said fact.1) x k in
          (fact.1, inl (ap (λ (y : ℕ). (y, fact.1)) (sym (eqb-true fact.0 member r.0))), r.1)
      | inr k ↦ let r = first_of_is said facts member x k in (r.0, inr r.1, r.2)
    ]

pub same_entry_is : (a b : Proposed) → same_entry a b ≡ true → a ≡ b
same_entry_is a b h =
    let x = same_bytes a.digest b.digest (and_left _ _ h) in
    let y = same_bytes a.bytes b.bytes (and_right (bytes_eq a.digest b.digest) _ h) in
    ap₂ (λ (p : List ℕ) (q : List ℕ). let r : Proposed = record { digest = p; bytes = q } in r) x y

pub change_said_is : (n w : ℕ) (c : Change) (m : OrderMessage) → change_said n w m ≡ Some c → m ≡ message.Change n w c
change_said_is n w c (message.Propose a b x) h = cc
change_said_is n w c (message.Echo a b x) h = cc
change_said_is n w c (message.Confirm a b x) h = cc
change_said_is n w c (message.Change a b x) h = (let r = if_some ((a == n) && (b == w)) (Some x) c h in let p = eqb-true a n (and_left _ _ r.0) in let q = eqb-true b w (and_right (a == n) _ r.0) in let s = r.1 in cc)
change_said_is n w c (message.Done a b) h = cc

pub proposal_said_is : (n w : ℕ) (e : Proposed) (m : OrderMessage) → proposal_said n w m ≡ Some e → m ≡ message.Propose n w e
proposal_said_is n w c (message.Propose a b x) h = (let r = if_some ((a == n) && (b == w)) (Some x) c h in let p = eqb-true a n (and_left _ _ r.0) in let q = eqb-true b w (and_right (a == n) _ r.0) in let s = r.1 in cc)
proposal_said_is n w c (message.Echo a b x) h = cc
proposal_said_is n w c (message.Confirm a b x) h = cc
proposal_said_is n w c (message.Change a b x) h = cc
proposal_said_is n w c (message.Done a b) h = cc

pub said_at : {A : Type 0} (n w : ℕ) (x : A) → when (at n w n w) (Some x) ≡ Some x
said_at n w x = rw (same_number n, same_number w) refl

pub some_left : {A : Type 0} (a b : Option A) (x : A) → a ≡ Some x → is_some (or_else a b) ≡ true
some_left None b x h = cc
some_left (Some y) b x h = refl

pub some_right : {A : Type 0} (a b : Option A) → is_some b ≡ true → is_some (or_else a b) ≡ true
some_right None b h = h
some_right (Some y) b h = refl

-- a message that was taken is found
pub is_found : {A : Type 0} (said : OrderMessage → Option A) (facts : Facts) (member : ℕ) (m : OrderMessage) (x : A) → IsIn (member, m) facts → said m ≡ Some x → is_some (first_of said facts member) ≡ true
is_found said [] member m x h k = absurd h
is_found said (fact ∷ facts) member m x (inl e) k = some_left (when (fact.0 == member) (said fact.1)) (first_of said facts member) x (rw (← e) (rw (same_number member) k))
is_found said (fact ∷ facts) member m x (inr h) k = some_right (when (fact.0 == member) (said fact.1)) (first_of said facts member) (is_found said facts member m x h k)

pub any_below_is : (n : ℕ) (test : ℕ → Bool) → any_below n test ≡ true → (m : ℕ) × (m < n) × (test m ≡ true)
unfolding any_below
any_below_is zero test h = cc
any_below_is (suc n) test h = elim (or_cases (test n) (any_below n test) h) [ inl k ↦ (n, omega arith, k) | inr k ↦ let r = any_below_is n test k in (r.0, omega arith, r.2) ]

pub is_safe_is : (f : ℕ) (changes : ℕ → Option Change) (view : ℕ) (d : List ℕ) → is_safe f changes view d ≡ true → SafeAt f changes view d
is_safe_is f changes view d h =
    elim (or_cases (is_free_view f changes) _ h) [
      | inl k ↦ inl (leb-true (2 * f + 1) _ k)
      | inr k ↦
          let r = any_below_is view (is_safe_from f changes view d) k in
          inr (r.0, r.1, leb-true (2 * f + 1) _ (and_left _ _ r.2), leb-true (f + 1) _ (and_right (nat_le (2 * f + 1) (count_below (3 * f + 1) (λ m. says_allowed r.0 d (changes m)))) _ r.2))
    ]

pub changes_are_taken : (s : Sight) (w j : ℕ) (c : Change) → change_of s w j ≡ Some c → IsIn (j, message.Change (open_slot s) w c) s.taken
changes_are_taken s w j c h =
    let r = first_of_is (change_said (open_slot s) w) s.taken j c h in
    rw (change_said_is (open_slot s) w c r.0 r.2) at r.1

-- What is pending.
pub record IsPending (s : Sight) (e : Proposed) : Type 0 where
  pub proposed : IsIn (leader s s.view, message.Propose (open_slot s) s.view e) s.taken
  pub safe : (s.view ≡ 0) ⊎ SafeAt s.f (change_of s s.view) s.view e.digest
  pub none_yet : is_some (own echo_said s) ≡ false
  pub not_echoed : (d : List ℕ) → IsIn (s.me, message.Echo (open_slot s) s.view d) s.taken → ⊥

pub if_may_echo_is : (s : Sight) (o : Option Proposed) (e : Proposed) → if_may_echo s o ≡ Some e → (o ≡ Some e) × (may_echo s e ≡ true)
if_may_echo_is s None e h = cc
if_may_echo_is s (Some x) e h = (let r = if_some (may_echo s x) (Some x) e h in (r.1, (let same : x ≡ e = cc in subst (λ y. may_echo s y ≡ true) same r.0)))

pub not_true : (b : Bool) → not b ≡ true → b ≡ true → ⊥
not_true true h k = cc
not_true false h k = cc

pub not_is : (b : Bool) → not b ≡ true → b ≡ false
not_is true h = cc
not_is false h = refl

pub pending_is : (s : Sight) (e : Proposed) → pending s ≡ Some e → IsPending s e
pending_is s e h =
    let r = if_may_echo_is s (first_of (proposal_said (open_slot s) s.view) s.taken (leader s s.view)) e h in
    let p = first_of_is (proposal_said (open_slot s) s.view) s.taken (leader s s.view) e r.0 in
    record {
      proposed = rw (proposal_said_is (open_slot s) s.view e p.0 p.2) at p.1;
      safe = elim (or_cases (s.view == 0) (safe s e.digest) (and_left _ _ (and_left _ _ r.1))) [ inl k ↦ inl (eqb-true s.view 0 k) | inr k ↦ inr (is_safe_is s.f (change_of s s.view) s.view e.digest k) ];
      none_yet = not_is (is_some (own echo_said s)) (and_right ((s.view == 0) || safe s e.digest) _ (and_left _ _ r.1));
      not_echoed = λ d k. not_true (is_some (own echo_said s)) (and_right ((s.view == 0) || safe s e.digest) _ (and_left _ _ r.1)) (is_found (echo_said (open_slot s) s.view) s.taken s.me (message.Echo (open_slot s) s.view d) d k (said_at (open_slot s) s.view d));
    }

pub echo_said_is : (n w : ℕ) (e : List ℕ) (m : OrderMessage) → echo_said n w m ≡ Some e → m ≡ message.Echo n w e
echo_said_is n w c (message.Propose a b x) h = cc
echo_said_is n w c (message.Echo a b x) h = (let r = if_some ((a == n) && (b == w)) (Some x) c h in let p = eqb-true a n (and_left _ _ r.0) in let q = eqb-true b w (and_right (a == n) _ r.0) in let s = r.1 in cc)
echo_said_is n w c (message.Confirm a b x) h = cc
echo_said_is n w c (message.Change a b x) h = cc
echo_said_is n w c (message.Done a b) h = cc

pub confirm_said_is : (n w : ℕ) (e : List ℕ) (m : OrderMessage) → confirm_said n w m ≡ Some e → m ≡ message.Confirm n w e
confirm_said_is n w c (message.Propose a b x) h = cc
confirm_said_is n w c (message.Echo a b x) h = cc
confirm_said_is n w c (message.Confirm a b x) h = (let r = if_some ((a == n) && (b == w)) (Some x) c h in let p = eqb-true a n (and_left _ _ r.0) in let q = eqb-true b w (and_right (a == n) _ r.0) in let s = r.1 in cc)
confirm_said_is n w c (message.Change a b x) h = cc
confirm_said_is n w c (message.Done a b) h = cc

pub done_said_is : (n : ℕ) (e : Proposed) (m : OrderMessage) → done_said n m ≡ Some e → m ≡ message.Done n e
done_said_is n c (message.Propose a b x) h = cc
done_said_is n c (message.Echo a b x) h = cc
done_said_is n c (message.Confirm a b x) h = cc
done_said_is n c (message.Change a b x) h = cc
done_said_is n c (message.Done a b) h = (let r = if_some (a == n) (Some b) c h in let p = eqb-true a n r.0 in let s = r.1 in cc)

pub first_below_is : {A : Type 0} (n : ℕ) (found : ℕ → Option A) (x : A) → first_below n found ≡ Some x → (m : ℕ) × (m < n) × (found m ≡ Some x)
unfolding first_below
first_below_is zero found x h = cc
first_below_is (suc n) found x h = elim (or_else_cases (first_below n found) (found n) x h) [ inl k ↦ (let r = first_below_is n found x k in (r.0, omega arith, r.2)) | inr k ↦ (n, omega arith, k) ]

last_step : (n w : ℕ) (test : ℕ → Bool) (b : Bool) → test n ≡ b → ((last_below n test ≡ Some w) → (w < n) × (test w ≡ true)) → (if b then Some n else last_below n test) ≡ Some w → (w < suc n) × (test w ≡ true)
last_step n w test true e below h = let same : n ≡ w = cc in (omega arith, subst (λ k. test k ≡ true) same e)
last_step n w test false e below h = let r = below h in (let lt = r.0 in omega arith, r.1)

pub last_below_is : (n w : ℕ) (test : ℕ → Bool) → last_below n test ≡ Some w → (w < n) × (test w ≡ true)
unfolding last_below
last_below_is zero w test h = cc
last_below_is (suc n) w test h = last_step n w test (test n) refl (last_below_is n w test) h

-- what is found last is there, and nothing is later
pub last_found_is : {A : Type 0} (n : ℕ) (found : ℕ → Option A) (x : A) → last_found n found ≡ Some x → (m : ℕ) × (m < n) × (found m ≡ Some x)
unfolding last_found
last_found_is zero found x h = cc
last_found_is (suc n) found x h = elim (or_else_cases (found n) (last_found n found) x h) [ inl k ↦ (n, omega arith, k) | inr k ↦ (let r = last_found_is n found x k in (r.0, omega arith, r.2)) ]

or_else_first : {A : Type 0} (o later : Option A) (x : A) → o ≡ Some x → or_else o later ≡ Some x
or_else_first None later x h = cc
or_else_first (Some y) later x h = h

or_else_later : {A : Type 0} (P : Option A → Type 0) (o later : Option A) → ((x : A) → o ≡ Some x → P (Some x)) → P later → P (or_else o later)
or_else_later P None later here there = there
or_else_later P (Some x) later here there = here x refl

-- something found at m is no later than what is found last
abbrev pub FoundFrom : {A : Type 0} → (ℕ → Option A) → ℕ → ℕ → Option A → Type 0
FoundFrom found m n None = ⊥
FoundFrom found m n (Some x) = (k : ℕ) × (m ≤ k) × (k < n) × (found k ≡ Some x)

found_more : {A : Type 0} (found : ℕ → Option A) (m n : ℕ) (o : Option A) → FoundFrom found m n o → FoundFrom found m (suc n) o
found_more found m n None h = h
found_more found m n (Some x) h = (h.0, h.1, (let lt = h.2 in omega arith), h.3)

last_place : (m n : ℕ) → m < suc n → (m ≡ n) ⊎ (m < n)
last_place m n h = grind arith

pub found_from : {A : Type 0} (found : ℕ → Option A) (m : ℕ) (x : A) → found m ≡ Some x → (n : ℕ) → m < n → FoundFrom found m n (last_found n found)
unfolding last_found
found_from found m x h zero lt = absurd (omega arith)
found_from found m x h (suc n) lt =
    elim (last_place m n lt) [
      | inl e ↦ subst (λ o. FoundFrom found m (suc n) o) (sym (or_else_first (found n) (last_found n found) x (rw (← e) h))) (n, (let same = e in omega arith), omega arith, rw (← e) h)
      | inr below ↦ or_else_later (λ o. FoundFrom found m (suc n) o) (found n) (last_found n found) (λ y k. (n, (let le = below in omega arith), omega arith, k)) (found_more found m n (last_found n found) (found_from found m x h n below))
    ]
