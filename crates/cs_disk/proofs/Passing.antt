-- One more state joins those that a file was in.
use Rattle.std.proofs.Common.{◌≡◌, ◌⊎◌, inl, inr, ⊎_elim, ℕ, zero, suc, ◌≤◌, List, [], ◌∷◌, ◌++◌, length, drop, refl, sym, subst, arith, length-append}
use Rattle.cs_disk.specs.declared.state.State.{State}
use Rattle.cs_disk.specs.Disk.{Elapses}
use Rattle.cs_disk.specs.Tears.{Leaves, LeftIn, LeftSince}

keeps : (past : List State) (s : State) (c : List ℕ) → LeftIn past c → LeftIn (past ++ s ∷ []) c
keeps [] s c left = absurd left
keeps (p ∷ past) s c (inl here) = inl here
keeps (p ∷ past) s c (inr there) = inr (keeps past s c there)

adds : (past : List State) (s : State) (c : List ℕ) → LeftIn (past ++ s ∷ []) c → LeftIn past c ⊎ Leaves s c
adds [] s c (inl here) = inr here
adds [] s c (inr none) = absurd none
adds (p ∷ past) s c (inl here) = inl (inl here)
adds (p ∷ past) s c (inr there) = ⊎_elim (λ left. inl (inr left)) (λ new. inr new) (adds past s c there)

newest : (past : List State) (s : State) (c : List ℕ) → Leaves s c → LeftIn (past ++ s ∷ []) c
newest [] s c left = inl left
newest (p ∷ past) s c left = inr (newest past s c left)

drop_push : (t : ℕ) (past : List State) (s : State) → t ≤ length past → drop t (past ++ s ∷ []) ≡ drop t past ++ s ∷ []
drop_push zero past s le = refl
drop_push (suc t) [] s le = absurd (omega arith)
drop_push (suc t) (p ∷ past) s le = drop_push t past s (omega arith)

pub elapses_same : (past : List State) (s : State) → Elapses (length past) (length past) (LeftSince past s) (LeftSince past s) (Leaves s)
elapses_same past s = record { later = omega arith; nothing_else = λ t c le left. inl left; keeps = λ t c le left. left }

elapses_push : (past : List State) (old new : State) → Elapses (length past) (length (past ++ old ∷ [])) (LeftSince past old) (LeftSince (past ++ old ∷ []) new) (Leaves new)
elapses_push past old new = record {
  later = omega (arith, length-append past (old ∷ []));
  nothing_else = λ t c le left. ⊎_elim (λ now. inr now) (λ had. inl (was t c (adds (drop t past) old c (subst (λ (l : List State). LeftIn l c) (drop_push t past old le) had)))) left;
  keeps = λ t c le left. inr (subst (λ (l : List State). LeftIn l c) (sym (drop_push t past old le)) (⊎_elim (λ now. newest (drop t past) old c now) (keeps (drop t past) old c) left));
}
  where
    was : (t : ℕ) (c : List ℕ) → LeftIn (drop t past) c ⊎ Leaves old c → LeftSince past old t c
    was t c (inl had) = inr had
    was t c (inr new) = inl new

pub elapses_to : (past later : List State) (old new : State) → later ≡ past ++ old ∷ [] → Elapses (length past) (length later) (LeftSince past old) (LeftSince later new) (Leaves new)
elapses_to past later old new same =
    subst (λ (l : List State). Elapses (length past) (length l) (LeftSince past old) (LeftSince l new) (Leaves new)) (sym same) (elapses_push past old new)

-- nothing has changed
pub elapses_still : (past later : List State) (old new : State) → later ≡ past → new ≡ old → Elapses (length past) (length later) (LeftSince past old) (LeftSince later new) (Leaves new)
elapses_still past later old new same is =
    subst (λ (l : List State). Elapses (length past) (length l) (LeftSince past old) (LeftSince l new) (Leaves new)) (sym same)
    (subst (λ (s : State). Elapses (length past) (length past) (LeftSince past old) (LeftSince past s) (Leaves s)) (sym is) (elapses_same past old))
