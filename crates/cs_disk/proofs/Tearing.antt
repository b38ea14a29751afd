-- What writes and crashes make of a file.
use Rattle.std.proofs.Common.{◌≡◌, inl, inr, ℕ, zero, suc, ◌+◌, ◌-◌, ◌<◌, ◌≤◌, List, [], ◌∷◌, ◌++◌, length, take, drop, get_or, refl, sym, ap, subst, ◌∙◌, arith, length-append, length-drop}
use Rattle.std.proofs.lemmas.List.{take_at, drop_at}
use Rattle.cs_disk.specs.Disk.{Torn, Follows, Only, over}
use Rattle.cs_disk.specs.Tears.{Tears, Leaves, LeftIn}
use Rattle.cs_disk.specs.declared.state.State.{State}

pub torn_same : (at n : ℕ) (c : List ℕ) → Torn at n c c
torn_same at n c = record { before = refl; after = refl; no_shorter = omega arith; no_longer = omega arith }

front_length : (at : ℕ) (file : List ℕ) → at ≤ length file → length (take at file) ≡ at
front_length zero file within = refl
front_length (suc at) [] within = absurd (omega arith)
front_length (suc at) (x ∷ file) within = let more = front_length at file (omega arith) in omega arith

-- what is written is one of the bytes that may stand there
pub torn_over : (at : ℕ) (file bytes : List ℕ) → at ≤ length file → Torn at (length bytes) file (over file at bytes)
torn_over at file bytes within =
    let front = front_length at file within in
    let n = length bytes in
    let both : length (take at file ++ bytes) ≡ at + n = omega (arith, length-append (take at file) bytes, front) in
    let rest = drop (at + n) file in
    let rest_length = length-drop (at + n) file in
    let whole : length (over file at bytes) ≡ at + n + (length file - (at + n)) = omega (arith, length-append (take at file ++ bytes) rest, both, rest_length) in
    record {
      before = ap (take at) (append_assoc' (take at file) bytes rest) ∙ take_at (take at file) (bytes ++ rest) at front;
      after = drop_at (take at file ++ bytes) rest (at + n) both;
      no_shorter = omega (arith, whole);
      no_longer = omega (arith, whole);
    }
  where
    append_assoc' : (a b c : List ℕ) → a ++ b ++ c ≡ a ++ (b ++ c)
    append_assoc' [] b c = refl
    append_assoc' (x ∷ a) b c = ap (λ l. x ∷ l) (append_assoc' a b c)

-- it reaches behind what is written
pub written_length : (at : ℕ) (file bytes : List ℕ) → at ≤ length file → at + length bytes ≤ length (over file at bytes)
written_length at file bytes within =
    omega (arith, length-append (take at file ++ bytes) (drop (at + length bytes) file), length-append (take at file) bytes, front_length at file within)

-- ---- ranges

-- the last range is torn last
pub tears_split : (s : List ℕ) (ranges : List (ℕ × ℕ)) (range : ℕ × ℕ) (c : List ℕ) → Tears s (ranges ++ range ∷ []) c → (d : List ℕ) × Tears s ranges d × Torn range.0 range.1 d c
tears_split s [] range c (d, torn, is) = (s, refl, subst (λ (x : List ℕ). Torn range.0 range.1 s x) (sym is) torn)
tears_split s (first ∷ ranges) range c (d, torn, more) = let (e, tears, last) = tears_split d ranges range c more in (e, (d, torn, tears), last)

pub tears_more : (s : List ℕ) (ranges : List (ℕ × ℕ)) (range : ℕ × ℕ) (d c : List ℕ) → Tears s ranges d → Torn range.0 range.1 d c → Tears s (ranges ++ range ∷ []) c
tears_more s [] range d c is torn = (c, subst (λ (x : List ℕ). Torn range.0 range.1 x c) is torn, refl)
tears_more s (first ∷ ranges) range d c (e, first_torn, more) torn = (e, first_torn, tears_more e ranges range d c more torn)

-- nothing of them was written
pub tears_none : (s : List ℕ) (ranges : List (ℕ × ℕ)) → Tears s ranges s
tears_none s [] = refl
tears_none s (range ∷ ranges) = (s, torn_same range.0 range.1 s, tears_none s ranges)

-- ---- states

pub written_follows : (old new : State) (at : ℕ) (bytes : List ℕ) → at ≤ length old.content → new.content ≡ over old.content at bytes → new.synced ≡ old.synced
    → new.unsynced ≡ old.unsynced ++ (at, length bytes) ∷ [] → Follows (Torn at (length bytes)) (Leaves old) (Leaves new)
written_follows old new at bytes within content synced unsynced = by
  where
    by : (c : List ℕ) → Leaves new c → (d : List ℕ) × Leaves old d × Torn at (length bytes) d c
    by c (inl now) = (old.content, inl refl, subst (λ (x : List ℕ). Torn at (length bytes) old.content x) (sym (now ∙ content)) (torn_over at old.content bytes within))
    by c (inr tears) =
        let from_old = subst (λ (s : List ℕ). Tears s new.unsynced c) synced tears in
        let more = subst (λ (r : List (ℕ × ℕ)). Tears old.synced r c) unsynced from_old in
        let (d, left, torn) = tears_split old.synced old.unsynced (at, length bytes) c more in
        (d, inr left, torn)

pub same_follows : (s : State) (at n : ℕ) → Follows (Torn at n) (Leaves s) (Leaves s)
same_follows s at n = λ c left. (c, left, torn_same at n c)

pub synced_only : (file : List ℕ) (new : State) → new.content ≡ file → new.synced ≡ file → new.unsynced ≡ [] → Only file (Leaves new)
synced_only file new content synced unsynced = by
  where
    by : (c : List ℕ) → Leaves new c → c ≡ file
    by c (inl now) = now ∙ content
    by c (inr tears) =
        let none = subst (λ (r : List (ℕ × ℕ)). Tears new.synced r c) unsynced tears in
        none ∙ synced

-- a state of the past
pub left_at : (past : List State) (t : ℕ) (s d : State) (c : List ℕ) → t < length past → s ≡ get_or past t d → Leaves s c → LeftIn (drop t past) c
left_at [] t s d c within is left = absurd (omega arith)
left_at (x ∷ past) zero s d c within is left = inl (subst (λ (y : State). Leaves y c) is left)
left_at (x ∷ past) (suc t) s d c within is left = left_at past t s d c (omega arith) is left
