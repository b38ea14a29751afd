-- How each change treats one state.
use Rattle.std.proofs.Common.{◌≡◌, List, [], ◌∷◌, ◌++◌, Bool, true, false, ◌⊎◌, inl, inr, Option, Some, None, refl, sym, ap, ◌∙◌, subst}
use Rattle.std.specs.Prelude.{not, ◌||◌, bytes_eq, if◌then◌else◌}
use Rattle.std.proofs.lemmas.Bool.{cond_both, and_parts, both_ways, or_cases, or_left, or_right}
use Rattle.cs_base.specs.Lists.{IsIn}
use Rattle.cs_ledger.specs.Ledger.{Bytes, has}
use Rattle.cs_ledger.specs.Session.{Piece}
use Rattle.cs_ledger.specs.Table.{State, Unknown, Active, Locked, Inactive, Shared, Table, is_held_by, is_locked_by, is_active_with, free_object, is_readable_with, has_seat, all_ready, all_readable, locked, joined_by, vacated_by, read_by, with_reader, without_reader, made, lock_state, undo_state, accept_state}
use Rattle.cs_ledger.proofs.Basics.{same_bytes, bytes_from, bytes_refl}

active_with : (object : Bytes) (state : State) → is_active_with object state ≡ true → state ≡ Active object
active_with object Unknown e = cc
active_with object (Active held) e = let same = same_bytes object held e in ap Active (sym same)
active_with object (Locked held by) e = cc
active_with object (Inactive by) e = cc
active_with object (Shared held readers) e = cc

-- Active or Shared, with that object
abbrev pub IsReadable : Bytes → State → Type 0
IsReadable object state = (state ≡ Active object) ⊎ ((readers : List Bytes) × (state ≡ Shared object readers))

-- the object is there for one more session to read
abbrev pub IsOpen : Bytes → State → Type 0
IsOpen object state =
    (state ≡ Active object) ⊎ ((readers : List Bytes) × (state ≡ Shared object readers) × (has_seat readers ≡ true))

open_with : (object : Bytes) (state : State) → is_readable_with object state ≡ true → IsOpen object state
open_with object Unknown e = cc
open_with object (Active held) e = let same = same_bytes object held e in inl (ap Active (sym same))
open_with object (Locked held by) e = cc
open_with object (Inactive by) e = cc
open_with object (Shared held readers) e =
    let p = and_parts (bytes_eq object held) (has_seat readers) e in
    let same = same_bytes object held p.0 in inr (readers, ap (λ o. Shared o readers) (sym same), p.1)

pub open_at : (t : Table) (pieces : List Piece) → all_readable t pieces ≡ true → (piece : Piece) → IsIn piece pieces → IsOpen piece.object (t.at piece.key).state
open_at t [] e piece h = absurd h
open_at t (other ∷ pieces) e piece (inl same) =
    subst (λ (p : Piece). IsOpen p.object (t.at p.key).state) (sym same) (open_with other.object _ (and_parts _ _ e).0)
open_at t (other ∷ pieces) e piece (inr h) = open_at t pieces (and_parts _ _ e).1 piece h

pub ready_at : (t : Table) (pieces : List Piece) → all_ready t pieces ≡ true → (piece : Piece) → IsIn piece pieces → (t.at piece.key).state ≡ Active piece.object
ready_at t [] e piece h = absurd h
ready_at t (other ∷ pieces) e piece (inl same) =
    subst (λ (p : Piece). (t.at p.key).state ≡ Active p.object) (sym same) (active_with other.object _ (and_parts _ _ e).0)
ready_at t (other ∷ pieces) e piece (inr h) = ready_at t pieces (and_parts _ _ e).1 piece h

pub locked_by : (d : Bytes) (state : State) → is_locked_by d state ≡ true → (object : Bytes) × (state ≡ Locked object d)
locked_by d Unknown e = cc
locked_by d (Active held) e = cc
locked_by d (Locked held by) e = (held, ap (Locked held) (sym (same_bytes d by e)))
locked_by d (Inactive by) e = cc
locked_by d (Shared held readers) e = cc

pub held_if_locked : (d object by : Bytes) (state : State) → state ≡ Locked object by → d ≡ by → is_held_by d state ≡ true
held_if_locked d object by state e same = ap (is_held_by d) e ∙ bytes_from d by same

pub held_if_inactive : (d by : Bytes) (state : State) → state ≡ Inactive by → d ≡ by → is_held_by d state ≡ true
held_if_inactive d by state e same = ap (is_held_by d) e ∙ bytes_from d by same

-- a session reads the object: it is among the readers, or holds the lock
abbrev pub IsRead : Bytes → Bytes → State → Type 0
IsRead object d state =
    (state ≡ Locked object d) ⊎ ((readers : List Bytes) × (state ≡ Shared object readers) × (has d readers ≡ true))

pub lock_cases : (used read : Bool) (d : Bytes) (state : State) (object by : Bytes) → lock_state used read d state ≡ Locked object by → (state ≡ Locked object by) ⊎ ((used ≡ true) × (state ≡ Active object) × (d ≡ by))
lock_cases true read d Unknown object by e = cc
lock_cases true read d (Active held) object by e =
    let o : held ≡ object = cc in
    let s : d ≡ by = cc in
    inr (refl, ap Active o, s)
lock_cases true read d (Locked held other) object by e = inl e
lock_cases true read d (Inactive other) object by e = cc
lock_cases true read d (Shared held readers) object by e = cc
lock_cases false true d Unknown object by e = cc
lock_cases false true d (Active held) object by e = cc
lock_cases false true d (Locked held other) object by e = inl e
lock_cases false true d (Inactive other) object by e = cc
lock_cases false true d (Shared held readers) object by e = cc
lock_cases false false d state object by e = inl e

pub lock_keeps : (used read : Bool) (d : Bytes) (state : State) (object by : Bytes) → state ≡ Locked object by → lock_state used read d state ≡ Locked object by
lock_keeps true read d state object by e = ap (locked d) e
lock_keeps false true d state object by e = ap (joined_by d) e
lock_keeps false false d state object by e = e

-- who reads goes on reading as another joins
has_more : (b : Bool) (d by : Bytes) (readers : List Bytes) → has by readers ≡ true → has by (if b then readers else readers ++ d ∷ []) ≡ true
has_more true d by readers h = h
has_more false d by readers h = has_left by readers (d ∷ []) h
  where
    has_left : (name : Bytes) (xs ys : List Bytes) → has name xs ≡ true → has name (xs ++ ys) ≡ true
    has_left name [] ys h = absurd (both_ways _ refl h)
    has_left name (x ∷ xs) ys h = elim (or_cases (bytes_eq name x) (has name xs) h) [ inl a ↦ or_left _ _ a | inr b ↦ or_right _ _ (has_left name xs ys b) ]

pub lock_keeps_read : (used read : Bool) (d : Bytes) (state : State) (object by : Bytes) → IsRead object by state → IsRead object by (lock_state used read d state)
lock_keeps_read used read d state object by (inl e) = inl (lock_keeps used read d state object by e)
lock_keeps_read true read d state object by (inr h) = inr (h.0, ap (locked d) h.1, h.2)
lock_keeps_read false true d state object by (inr h) =
    inr (with_reader d h.0, ap (joined_by d) h.1, has_more (has d h.0 || not (has_seat h.0)) d by h.0 h.2)
lock_keeps_read false false d state object by (inr h) = inr h

pub lock_takes : (used read : Bool) (d : Bytes) (state : State) (object : Bytes) → used ≡ true → state ≡ Active object → lock_state used read d state ≡ Locked object d
lock_takes used read d state object e f = (λ i. lock_state (e i) read d (f i))

seat_among : (among seat : Bool) → (among || not seat) ≡ true → seat ≡ true → among ≡ true
seat_among true seat e s = refl
seat_among false true e s = cc
seat_among false false e s = cc

-- where there is a seat, the one that joins is a reader
has_last : (d : Bytes) (readers : List Bytes) → has_seat readers ≡ true → has d (with_reader d readers) ≡ true
has_last d readers seat =
    cond_both (has d readers || not (has_seat readers)) readers (readers ++ d ∷ []) (λ l. has d l ≡ true)
    (λ e. seat_among (has d readers) (has_seat readers) e seat)
    (λ e. has_end readers)
  where
    has_end : (xs : List Bytes) → has d (xs ++ d ∷ []) ≡ true
    has_end [] = or_left _ _ (bytes_refl d)
    has_end (x ∷ xs) = or_right _ _ (has_end xs)

pub lock_reads : (used read : Bool) (d : Bytes) (state : State) (object : Bytes) → (used ≡ true → (held : Bytes) × (state ≡ Active held)) → read ≡ true → IsOpen object state → IsRead object d (lock_state used read d state)
lock_reads used read d state object free e r = go used refl
  where
    go : (b : Bool) → used ≡ b → IsRead object d (lock_state b read d state)
    go true u =
        let a = free u in
        elim r [
          | inl active ↦ inl (ap (locked d) active)
          | inr s ↦ absurd (let q : Active a.0 ≡ Shared object s.0 = sym a.1 ∙ s.1 in cc)
        ]
    go false u =
        elim r [
          | inl active ↦ inr (d ∷ [], (λ i. lock_state false (e i) d (active i)), or_left _ _ (bytes_refl d))
          | inr s ↦ inr (with_reader d s.0, (λ i. lock_state false (e i) d (s.1 i)), has_last d s.0 s.2)
        ]

pub lock_inactive : (used read : Bool) (d : Bytes) (state : State) (by : Bytes) → lock_state used read d state ≡ Inactive by → state ≡ Inactive by
lock_inactive true read d Unknown by e = cc
lock_inactive true read d (Active held) by e = cc
lock_inactive true read d (Locked held other) by e = cc
lock_inactive true read d (Inactive other) by e = e
lock_inactive true read d (Shared held readers) by e = cc
lock_inactive false true d Unknown by e = cc
lock_inactive false true d (Active held) by e = cc
lock_inactive false true d (Locked held other) by e = cc
lock_inactive false true d (Inactive other) by e = e
lock_inactive false true d (Shared held readers) by e = cc
lock_inactive false false d state by e = e

-- what can be read after the locks could be read before
pub lock_readable : (used read : Bool) (d : Bytes) (state : State) (object : Bytes) → IsReadable object (lock_state used read d state) → IsReadable object state
lock_readable true read d Unknown object r = r
lock_readable true read d (Active held) object (inl e) = cc
lock_readable true read d (Active held) object (inr s) = absurd (let q = s.1 in cc)
lock_readable true read d (Locked held other) object r = r
lock_readable true read d (Inactive other) object r = r
lock_readable true read d (Shared held readers) object r = r
lock_readable false true d Unknown object r = r
lock_readable false true d (Active held) object (inl e) = cc
lock_readable false true d (Active held) object (inr s) = let q = s.1 in let o : held ≡ object = cc in inl (ap Active o)
lock_readable false true d (Locked held other) object r = r
lock_readable false true d (Inactive other) object r = r
lock_readable false true d (Shared held readers) object (inl e) = cc
lock_readable false true d (Shared held readers) object (inr s) =
    let q = s.1 in let o : held ≡ object = cc in inr (readers, ap (λ z. Shared z readers) o)
lock_readable false false d state object r = r

pub lock_unknown : (used read : Bool) (d : Bytes) (state : State) → lock_state used read d state ≡ Unknown → state ≡ Unknown
lock_unknown true read d Unknown e = refl
lock_unknown true read d (Active held) e = cc
lock_unknown true read d (Locked held other) e = cc
lock_unknown true read d (Inactive other) e = cc
lock_unknown true read d (Shared held readers) e = cc
lock_unknown false true d Unknown e = refl
lock_unknown false true d (Active held) e = cc
lock_unknown false true d (Locked held other) e = cc
lock_unknown false true d (Inactive other) e = cc
lock_unknown false true d (Shared held readers) e = cc
lock_unknown false false d state e = e

shared_locked : (object : Bytes) (readers : List Bytes) (held by : Bytes) → read_by object readers ≡ Locked held by → ⊥
shared_locked object [] held by e = cc
shared_locked object (r ∷ readers) held by e = cc

shared_inactive : (object : Bytes) (readers : List Bytes) (by : Bytes) → read_by object readers ≡ Inactive by → ⊥
shared_inactive object [] by e = cc
shared_inactive object (r ∷ readers) by e = cc

shared_unknown : (object : Bytes) (readers : List Bytes) → read_by object readers ≡ Unknown → ⊥
shared_unknown object [] e = cc
shared_unknown object (r ∷ readers) e = cc

shared_object : (object held : Bytes) (readers : List Bytes) → IsReadable held (read_by object readers) → object ≡ held
shared_object object held [] (inl e) = cc
shared_object object held [] (inr s) = let q = s.1 in absurd cc
shared_object object held (r ∷ readers) (inl e) = absurd cc
shared_object object held (r ∷ readers) (inr s) = let q = s.1 in cc

left_locked : (d : Bytes) (state : State) (object by : Bytes) → vacated_by d state ≡ Locked object by → state ≡ Locked object by
left_locked d Unknown object by e = e
left_locked d (Active held) object by e = e
left_locked d (Locked held other) object by e = e
left_locked d (Inactive other) object by e = e
left_locked d (Shared held readers) object by e = absurd (shared_locked held (without_reader d readers) object by e)

left_inactive : (d : Bytes) (state : State) (by : Bytes) → vacated_by d state ≡ Inactive by → state ≡ Inactive by
left_inactive d Unknown by e = e
left_inactive d (Active held) by e = e
left_inactive d (Locked held other) by e = e
left_inactive d (Inactive other) by e = e
left_inactive d (Shared held readers) by e = absurd (shared_inactive held (without_reader d readers) by e)

left_unknown : (d : Bytes) (state : State) → vacated_by d state ≡ Unknown → state ≡ Unknown
left_unknown d Unknown e = e
left_unknown d (Active held) e = e
left_unknown d (Locked held other) e = e
left_unknown d (Inactive other) e = e
left_unknown d (Shared held readers) e = absurd (shared_unknown held (without_reader d readers) e)

left_readable : (d : Bytes) (state : State) (object : Bytes) → IsReadable object (vacated_by d state) → IsReadable object state
left_readable d Unknown object r = r
left_readable d (Active held) object r = r
left_readable d (Locked held other) object r = r
left_readable d (Inactive other) object r = r
left_readable d (Shared held readers) object r =
    inr (readers, ap (λ z. Shared z readers) (shared_object held object (without_reader d readers) r))

without_has : (d by : Bytes) (readers : List Bytes) → (d ≡ by → ⊥) → has by readers ≡ true → has by (without_reader d readers) ≡ true
without_has d by [] ne h = h
without_has d by (r ∷ readers) ne h =
    cond_both (bytes_eq d r) (without_reader d readers) (r ∷ without_reader d readers) (λ l. has by l ≡ true)
    (λ e. elim (or_cases (bytes_eq by r) (has by readers) h) [
      | inl a ↦ absurd (ne (same_bytes d r e ∙ sym (same_bytes by r a)))
      | inr b ↦ without_has d by readers ne b
    ])
    (λ e. elim (or_cases (bytes_eq by r) (has by readers) h) [
      | inl a ↦ or_left _ _ a
      | inr b ↦ or_right _ _ (without_has d by readers ne b)
    ])

shared_has : (object by : Bytes) (readers : List Bytes) → has by readers ≡ true → read_by object readers ≡ Shared object readers
shared_has object by [] h = absurd (both_ways false refl h)
shared_has object by (r ∷ readers) h = refl

-- who else reads goes on reading
left_keeps_read : (d : Bytes) (state : State) (object by : Bytes) → (d ≡ by → ⊥) → IsRead object by state → IsRead object by (vacated_by d state)
left_keeps_read d state object by ne (inl e) = inl (ap (vacated_by d) e)
left_keeps_read d state object by ne (inr h) =
    let more = without_has d by h.0 ne h.2 in
    inr (without_reader d h.0, ap (vacated_by d) h.1 ∙ shared_has object by (without_reader d h.0) more, more)

pub accept_locked : (used read : Bool) (d : Bytes) (new : Option Bytes) (state : State) (object by : Bytes) → accept_state used read d new state ≡ Locked object by → (used ≡ false) × (state ≡ Locked object by)
accept_locked true read d new state object by e = cc
accept_locked false true d new state object by e = (refl, left_locked d state object by e)
accept_locked false false d None state object by e = (refl, e)
accept_locked false false d (Some o) Unknown object by e = cc
accept_locked false false d (Some o) (Active held) object by e = cc
accept_locked false false d (Some o) (Locked held other) object by e = (refl, e)
accept_locked false false d (Some o) (Inactive other) object by e = cc
accept_locked false false d (Some o) (Shared held readers) object by e = cc

made_read : (new : Option Bytes) (state : State) (object by : Bytes) → IsRead object by state → IsRead object by (made new state)
made_read None state object by h = h
made_read (Some o) state object by (inl e) = inl (ap (made (Some o)) e)
made_read (Some o) state object by (inr h) = inr (h.0, ap (made (Some o)) h.1, h.2)

pub accept_keeps_read : (used read : Bool) (d : Bytes) (new : Option Bytes) (state : State) (object by : Bytes) → used ≡ false → (d ≡ by → ⊥) → IsRead object by state → IsRead object by (accept_state used read d new state)
accept_keeps_read true read d new state object by u ne h = cc
accept_keeps_read false true d new state object by u ne h = left_keeps_read d state object by ne h
accept_keeps_read false false d new state object by u ne h = made_read new state object by h

made_keeps : (new : Option Bytes) (object by : Bytes) → made new (Locked object by) ≡ Locked object by
made_keeps None object by = refl
made_keeps (Some o) object by = refl

pub accept_keeps : (used read : Bool) (d : Bytes) (new : Option Bytes) (state : State) (object by : Bytes) → used ≡ false → state ≡ Locked object by → accept_state used read d new state ≡ Locked object by
accept_keeps true read d new state object by u e = cc
accept_keeps false true d new state object by u e = ap (vacated_by d) e
accept_keeps false false d new state object by u e = ap (made new) e ∙ made_keeps new object by

pub accept_inactive : (used read : Bool) (d : Bytes) (new : Option Bytes) (state : State) (by : Bytes) → accept_state used read d new state ≡ Inactive by → ((used ≡ true) × (d ≡ by)) ⊎ (state ≡ Inactive by)
accept_inactive true read d new state by e = let s : d ≡ by = cc in inl (refl, s)
accept_inactive false true d new state by e = inr (left_inactive d state by e)
accept_inactive false false d None state by e = inr e
accept_inactive false false d (Some o) Unknown by e = cc
accept_inactive false false d (Some o) (Active held) by e = cc
accept_inactive false false d (Some o) (Locked held other) by e = cc
accept_inactive false false d (Some o) (Inactive other) by e = inr e
accept_inactive false false d (Some o) (Shared held readers) by e = cc

-- where a state that can be read comes from
pub accept_readable : (used read : Bool) (d : Bytes) (new : Option Bytes) (state : State) (object : Bytes) → IsReadable object (accept_state used read d new state) → IsReadable object state ⊎ ((state ≡ Unknown) × (new ≡ Some object))
accept_readable true read d new state object (inl e) = cc
accept_readable true read d new state object (inr s) = absurd (let q = s.1 in cc)
accept_readable false true d new state object r = inl (left_readable d state object r)
accept_readable false false d None state object r = inl r
accept_readable false false d (Some o) Unknown object (inl e) = let s : o ≡ object = cc in inr (refl, ap Some s)
accept_readable false false d (Some o) Unknown object (inr s) = absurd (let q = s.1 in cc)
accept_readable false false d (Some o) (Active held) object r = inl r
accept_readable false false d (Some o) (Locked held other) object r = inl r
accept_readable false false d (Some o) (Inactive other) object r = inl r
accept_readable false false d (Some o) (Shared held readers) object r = inl r

pub accept_unknown : (used read : Bool) (d : Bytes) (new : Option Bytes) (state : State) → accept_state used read d new state ≡ Unknown → state ≡ Unknown
accept_unknown true read d new state e = cc
accept_unknown false true d new state e = left_unknown d state e
accept_unknown false false d None state e = e
accept_unknown false false d (Some o) Unknown e = refl
accept_unknown false false d (Some o) (Active held) e = cc
accept_unknown false false d (Some o) (Locked held other) e = cc
accept_unknown false false d (Some o) (Inactive other) e = cc
accept_unknown false false d (Some o) (Shared held readers) e = cc

pub undo_locked : (used read : Bool) (d : Bytes) (state : State) (object by : Bytes) → undo_state used read d state ≡ Locked object by → (used ≡ false) × (state ≡ Locked object by)
undo_locked true read d Unknown object by e = cc
undo_locked true read d (Active held) object by e = cc
undo_locked true read d (Locked held other) object by e = cc
undo_locked true read d (Inactive other) object by e = cc
undo_locked true read d (Shared held readers) object by e = cc
undo_locked false true d state object by e = (refl, left_locked d state object by e)
undo_locked false false d state object by e = (refl, e)

pub undo_keeps : (used read : Bool) (d : Bytes) (state : State) (object by : Bytes) → used ≡ false → state ≡ Locked object by → undo_state used read d state ≡ Locked object by
undo_keeps true read d state object by u e = cc
undo_keeps false true d state object by u e = ap (vacated_by d) e
undo_keeps false false d state object by u e = e

pub undo_keeps_read : (used read : Bool) (d : Bytes) (state : State) (object by : Bytes) → used ≡ false → (d ≡ by → ⊥) → IsRead object by state → IsRead object by (undo_state used read d state)
undo_keeps_read true read d state object by u ne h = cc
undo_keeps_read false true d state object by u ne h = left_keeps_read d state object by ne h
undo_keeps_read false false d state object by u ne h = h

pub undo_inactive : (used read : Bool) (d : Bytes) (state : State) (by : Bytes) → undo_state used read d state ≡ Inactive by → state ≡ Inactive by
undo_inactive true read d Unknown by e = cc
undo_inactive true read d (Active held) by e = cc
undo_inactive true read d (Locked held other) by e = cc
undo_inactive true read d (Inactive other) by e = e
undo_inactive true read d (Shared held readers) by e = cc
undo_inactive false true d state by e = left_inactive d state by e
undo_inactive false false d state by e = e

pub undo_readable : (used read : Bool) (d : Bytes) (state : State) (object : Bytes) → IsReadable object (undo_state used read d state) → IsReadable object state ⊎ ((used ≡ true) × ((by : Bytes) × (state ≡ Locked object by)))
undo_readable true read d Unknown object r = inl r
undo_readable true read d (Active held) object r = inl r
undo_readable true read d (Locked held other) object (inl e) =
    let o : held ≡ object = cc in inr (refl, (other, ap (λ h. Locked h other) o))
undo_readable true read d (Locked held other) object (inr s) = absurd (let q = s.1 in cc)
undo_readable true read d (Inactive other) object r = inl r
undo_readable true read d (Shared held readers) object r = inl r
undo_readable false true d state object r = inl (left_readable d state object r)
undo_readable false false d state object r = inl r

pub undo_unknown : (used read : Bool) (d : Bytes) (state : State) → undo_state used read d state ≡ Unknown → state ≡ Unknown
undo_unknown true read d Unknown e = refl
undo_unknown true read d (Active held) e = cc
undo_unknown true read d (Locked held other) e = cc
undo_unknown true read d (Inactive other) e = cc
undo_unknown true read d (Shared held readers) e = cc
undo_unknown false true d state e = left_unknown d state e
undo_unknown false false d state e = e

pub free_readable : (state : State) (object : Bytes) → free_object state ≡ Some object → IsReadable object state
free_readable Unknown object e = cc
free_readable (Active held) object e = let o : held ≡ object = cc in inl (ap Active o)
free_readable (Locked held by) object e = cc
free_readable (Inactive by) object e = cc
free_readable (Shared held readers) object e = let o : held ≡ object = cc in inr (readers, ap (λ z. Shared z readers) o)
