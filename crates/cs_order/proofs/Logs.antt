-- Logs that agree in each slot are prefixes of one another, logs only grow, and what a member gives stays until it is cut.
use Rattle.std.proofs.Common.{◌≡◌, ℕ, suc, ◌<◌, ◌==◌, max, nat_lt, Bool, true, false, if◌then◌else◌, List, [], ◌∷◌, ◌++◌, append-nil, Some, None, slice_get, ◌⊎◌, inl, inr, refl, sym, arith, ltb-true, lt-ltb, ltb-false, le-ltb, eqb-true}
use Rattle.std.proofs.lemmas.Bool.Decides.{eqb_tells}
use Rattle.cs_order.specs.declared.answers.Outgoing.{Outgoing}
use Rattle.cs_order.specs.declared.answers.Step.{Step}
use Rattle.cs_order.specs.declared.answers.Step.TheVariants as step
use Rattle.cs_order.specs.declared.proposed.Proposed.{Proposed}
use Rattle.cs_order.specs.Deeds.{Deed, Machine, chosen_by, chosen_in, kept_from, entry_from, entry_of_slot}
use Rattle.cs_order.specs.Deeds as deed
use Rattle.cs_order.specs.Runs.{deeds_of, log_of}
use Rattle.cs_order.specs.Law.{Law, IsPrefix, LogsAgree, LogsStay, IsCutAbove, EntriesStay}
use Rattle.cs_order.specs.laws.Lists.{slice_get-left}

-- two lists that agree at each place that both have
prefixes : {A : Type 0} (xs ys : List A) → ((n : ℕ) (a b : A) → slice_get xs n ≡ Some a → slice_get ys n ≡ Some b → a ≡ b) → IsPrefix xs ys ⊎ IsPrefix ys xs
prefixes [] ys agree = inl (ys, refl)
prefixes (x ∷ xs) [] agree = inr (x ∷ xs, refl)
prefixes (x ∷ xs) (y ∷ ys) agree =
    let head : x ≡ y = agree 0 x y refl refl in
    elim (prefixes xs ys (λ n a b h k. agree (suc n) a b h k)) [
      | inl p ↦ inl (p.0, (let e = p.1 in cc))
      | inr p ↦ inr (p.0, (let e = p.1 in cc))
    ]

pub law_agrees : {M : Type 0} (m : Machine M) → Law m → LogsAgree m
law_agrees m law f honest past serves few run none i j =
    prefixes (log_of i past) (log_of j past) (λ n a b h k. (law f honest past serves few run none).agree i j n a b h k)

-- a deed leaves the log, or adds the entry that it chose
same : {A : Type 0} (xs : List A) → IsPrefix xs xs
same xs = ([], sym (append-nil xs))

grown : (x : Step) (log : List Proposed) → IsPrefix log (chosen_by x log)
grown (step.Chosen e) log = (e ∷ [], refl)
grown step.Moved log = same log
grown step.Quiet log = same log

grown_by : {M : Type 0} (act : Deed M) (past : List (Deed M)) → IsPrefix (chosen_in past) (chosen_in (act ∷ past))
grown_by (deed.Took_in from m) past = same (chosen_in past)
grown_by (deed.Advanced x sent) past = grown x (chosen_in past)
grown_by (deed.Echoed sent) past = same (chosen_in past)
grown_by (deed.Proposing e sent) past = same (chosen_in past)
grown_by (deed.Ticked due sent) past = same (chosen_in past)
grown_by (deed.Resent sent) past = same (chosen_in past)
grown_by (deed.Replied slot to sent) past = same (chosen_in past)
grown_by (deed.Cut slot) past = same (chosen_in past)

pub logs_stay : (M : Type 0) → LogsStay M
logs_stay M act past i =
    elim (eqb_tells act.member i) [
      | inl mine ↦ rw mine.0 (grown_by act.deed (deeds_of i past))
      | inr other ↦ rw other.0 (same (log_of i past))
    ]

-- what a member gives after a deed of its own
abbrev Stays : {M : Type 0} → Deed M → List (Deed M) → ℕ → Proposed → Type 0
Stays {M} act past slot e =
    (entry_of_slot (act ∷ past) slot ≡ Some e)
    ⊎ ((entry_of_slot (act ∷ past) slot ≡ None) × (bound : ℕ) × (act ≡ deed.Cut bound) × (slot < bound))

-- a longer log gives what was given
longer : (first : ℕ) (log more : List Proposed) (slot : ℕ) (e : Proposed) → entry_from first log slot ≡ Some e → entry_from first (log ++ more) slot ≡ Some e
longer first log more slot e = by_place (nat_lt slot first)
  where
    by_place : (b : Bool) → (if b then None else slice_get log slot) ≡ Some e → (if b then None else slice_get (log ++ more) slot) ≡ Some e
    by_place true h = cc
    by_place false h = slice_get-left log more slot e h

given_after : {M : Type 0} (x : Step) (sent : List (Outgoing M)) (past : List (Deed M)) (slot : ℕ) (e : Proposed) → entry_of_slot past slot ≡ Some e → entry_of_slot (deed.Advanced x sent ∷ past) slot ≡ Some e
given_after (step.Chosen y) sent past slot e h = longer (kept_from past) (chosen_in past) (y ∷ []) slot e h
given_after step.Moved sent past slot e h = h
given_after step.Quiet sent past slot e h = h

-- a cut takes away what is below it
cut_above : (bound first : ℕ) (log : List Proposed) (slot : ℕ) (e : Proposed) → entry_from first log slot ≡ Some e → (entry_from (max bound first) log slot ≡ Some e) ⊎ ((entry_from (max bound first) log slot ≡ None) × (slot < bound))
cut_above bound first log slot e = by_first (nat_lt slot first) refl
  where
    by_bound : (b : Bool) → nat_lt slot bound ≡ b → nat_lt slot first ≡ false → slice_get log slot ≡ Some e → (entry_from (max bound first) log slot ≡ Some e) ⊎ ((entry_from (max bound first) log slot ≡ None) × (slot < bound))
    by_bound true is not_first h =
        let below = ltb-true slot bound is in
        let gone : nat_lt slot (max bound first) ≡ true = lt-ltb slot (max bound first) (omega arith) in
        inr (rw gone refl, below)
    by_bound false is not_first h =
        let a = ltb-false slot bound is in
        let b = ltb-false slot first not_first in
        let here : nat_lt slot (max bound first) ≡ false = le-ltb slot (max bound first) (omega arith) in
        inl (rw here h)

    by_first : (b : Bool) → nat_lt slot first ≡ b → (if b then None else slice_get log slot) ≡ Some e → (entry_from (max bound first) log slot ≡ Some e) ⊎ ((entry_from (max bound first) log slot ≡ None) × (slot < bound))
    by_first true is h = cc
    by_first false is h = by_bound (nat_lt slot bound) refl is h

stays_by : {M : Type 0} (act : Deed M) (past : List (Deed M)) (slot : ℕ) (e : Proposed) → entry_of_slot past slot ≡ Some e → Stays act past slot e
stays_by (deed.Took_in from m) past slot e h = inl h
stays_by (deed.Advanced x sent) past slot e h = inl (given_after x sent past slot e h)
stays_by (deed.Echoed sent) past slot e h = inl h
stays_by (deed.Proposing p sent) past slot e h = inl h
stays_by (deed.Ticked due sent) past slot e h = inl h
stays_by (deed.Resent sent) past slot e h = inl h
stays_by (deed.Replied place to sent) past slot e h = inl h
stays_by (deed.Cut bound) past slot e h =
    elim (cut_above bound (kept_from past) (chosen_in past) slot e h) [
      | inl still ↦ inl still
      | inr gone ↦ inr (gone.0, bound, refl, gone.1)
    ]

pub entries_stay : (M : Type 0) → EntriesStay M
entries_stay M act past i slot e h = by_member (act.member == i) (λ is. eqb-true act.member i is)
  where
    after : Bool → List (Deed M)
    after mine = if mine then act.deed ∷ deeds_of i past else deeds_of i past

    by_member : (mine : Bool) → (mine ≡ true → act.member ≡ i) → (entry_of_slot (after mine) slot ≡ Some e) ⊎ ((entry_of_slot (after mine) slot ≡ None) × IsCutAbove i slot act)
    by_member true is =
        elim (stays_by act.deed (deeds_of i past) slot e h) [
          | inl still ↦ inl still
          | inr gone ↦ inr (gone.0, (is refl, gone.1, gone.2, gone.3))
        ]
    by_member false is = inl h
