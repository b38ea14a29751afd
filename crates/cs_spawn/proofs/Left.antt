-- The children that are left when a cluster breaks off, and that they are told to end.
use Rattle.std.proofs.Common.{◌≡◌, inl, inr, ℕ, zero, suc, ◌+◌, ◌<◌, ◌≤◌, Bool, true, false, List, [], ◌∷◌, ◌++◌, length, get_or, take, Option, refl, sym, ap, subst, ◌∙◌, arith, append-nil}
use Rattle.std.specs.Prelude.{filter, not, ◌==◌, ◌||◌}
use Rattle.std.specs.List.{AllByRecursion, list_any}
use Rattle.std.proofs.lemmas.Bool.{cases_Bool}
use Rattle.std.proofs.lemmas.Bool.Decides.{nat_tests}
use Rattle.std.proofs.lemmas.List.Folds.{list_any-append}
use Rattle.cs_base.specs.Answers.{AppendsFront}
use Rattle.cs_io.specs.Spawner.{EndsThese}
use Rattle.cs_io.specs.Outside.{SpawnerTold, Beside}
use Rattle.cs_spawn.specs.Words.{child_end_line}
use Rattle.cs_spawn.specs.Deeds.{ClusterDeed, Start, Wait, words_in, left_after}
use Rattle.cs_spawn.specs.Running.{StartsChildren, TriesFirst, DoesDeeds, DoesFront, BreaksOff, ClusterFails, EndsLeft, LeavesChildren, RiseBetween}
use Rattle.cs_spawn.specs.declared.error.ClusterError.{ClusterError}
use Rattle.cs_spawn.specs.declared.error.ClusterError.TheVariants.{SpawnFault, WriteFault, Memory}
use Rattle.cs_spawn.proofs.Plans.{next_taken}
use Rattle.cs_spawn.proofs.Going.{does-none, does-more, starts-more, words_in-append}

-- ---- numbers that rise

pub rise-wider : (low first last later : ℕ) (xs : List ℕ) → low ≤ first → last ≤ later → RiseBetween first last xs → RiseBetween low later xs
rise-wider low first last later [] p q is = tt
rise-wider low first last later (x ∷ xs) p q is = (omega (arith, is.0), omega (arith, is.1), rise-wider (x + 1) (x + 1) last later xs (omega arith) q is.2)

rise-filter : (p : ℕ → Bool) (first last : ℕ) (xs : List ℕ) → RiseBetween first last xs → RiseBetween first last (filter p xs)
rise-filter p first last [] is = tt
rise-filter p first last (x ∷ xs) is = elim (cases_Bool (p x)) [
  | inl stays ↦ rw stays (is.0, is.1, rise-filter p (x + 1) last xs is.2)
  | inr goes ↦ rw goes (rise-wider first (x + 1) last last (filter p xs) (omega (arith, is.0)) (omega arith) (rise-filter p (x + 1) last xs is.2))
]

rise-push : (first last : ℕ) (xs : List ℕ) → first ≤ last → RiseBetween first last xs → RiseBetween first (last + 1) (xs ++ last ∷ [])
rise-push first last [] within is = (within, omega arith, tt)
rise-push first last (x ∷ xs) within is = (is.0, omega (arith, is.1), rise-push (x + 1) last xs (omega (arith, is.1)) is.2)

rise-after : (first next : ℕ) (left : List ℕ) (deeds : List ClusterDeed) → first ≤ next → RiseBetween first next left → RiseBetween first (next + length (words_in deeds)) (left_after left next deeds)
rise-after first next left [] within is = rise-wider first first next (next + 0) left (omega arith) (omega arith) is
rise-after first next left (Start words ∷ deeds) within is =
    let later = rise-after first (next + 1) (left ++ next ∷ []) deeds (omega arith) (rise-push first next left within is) in
    rise-wider first first ((next + 1) + length (words_in deeds)) (next + length (words ∷ words_in deeds)) (left_after (left ++ next ∷ []) (next + 1) deeds) (omega arith) (omega arith) later
rise-after first next left (Wait title number ∷ deeds) within is =
    rise-after first next (filter (λ n. not (n == number)) left) deeds within (rise-filter (λ n. not (n == number)) first next left is)

rise-least : (first last : ℕ) (xs : List ℕ) (i : ℕ) → RiseBetween first last xs → i < length xs → first ≤ get_or xs i 0
rise-least first last [] i is within = absurd (omega arith)
rise-least first last (x ∷ xs) zero is within = is.0
rise-least first last (x ∷ xs) (suc i) is within = let later = rise-least (x + 1) last xs i is.2 (omega arith) in let here = is.0 in omega arith

pub rise-below : (first last : ℕ) (xs : List ℕ) (i : ℕ) → RiseBetween first last xs → i < length xs → get_or xs i 0 < last
rise-below first last [] i is within = absurd (omega arith)
rise-below first last (x ∷ xs) zero is within = is.1
rise-below first last (x ∷ xs) (suc i) is within = rise-below (x + 1) last xs i is.2 (omega arith)

unequal : (m n : ℕ) → m < n → (m == n) ≡ false
unequal m n less = grind (arith, nat_tests)

-- no number stands twice
rise-apart : (first last : ℕ) (xs : List ℕ) (i : ℕ) → RiseBetween first last xs → i < length xs → list_any (λ m. m == get_or xs i 0) (take i xs) ≡ false
rise-apart first last [] i is within = absurd (omega arith)
rise-apart first last (x ∷ xs) zero is within = refl
rise-apart first last (x ∷ xs) (suc i) is within =
    let other : (x == get_or xs i 0) ≡ false = unequal x (get_or xs i 0) (let least = rise-least (x + 1) last xs i is.2 (omega arith) in omega arith) in
    rw other (rise-apart (x + 1) last xs i is.2 (omega arith))

-- ---- children that are told to end

or-false : (b : Bool) → (b || false) ≡ b
or-false true = refl
or-false false = refl

or-assoc : (a b c : Bool) → ((a || b) || c) ≡ (a || (b || c))
or-assoc true b c = refl
or-assoc false b c = refl

pub ends-none : (before : ℕ → Bool) → EndsThese [] before before
ends-none before n = sym (or-false (before n))

ends-more : (a b c : ℕ → Bool) (xs ys : List ℕ) → EndsThese xs a b → EndsThese ys b c → EndsThese (xs ++ ys) a c
ends-more a b c xs ys p q n =
    let test : ℕ → Bool = λ number. number == n in
    q n ∙ ap (λ v. v || list_any test ys) (p n) ∙ or-assoc (a n) (list_any test xs) (list_any test ys)
    ∙ ap (λ v. a n || v) (sym (list_any-append test xs ys))

-- one more of a list
pub ends-next : (a b c : ℕ → Bool) (xs : List ℕ) (i : ℕ) → i < length xs → EndsThese (take i xs) a b → EndsThese (get_or xs i 0 ∷ []) b c → EndsThese (take (i + 1) xs) a c
ends-next a b c xs i within p q =
    subst (λ (l : List ℕ). EndsThese l a c) (sym (next_taken xs i (get_or xs i 0) 0 within refl)) (ends-more a b c (take i xs) (get_or xs i 0 ∷ []) p q)

-- the next of rising numbers isn't told to end before its turn
pub spared-next : (first last : ℕ) (xs : List ℕ) (i : ℕ) (a b : ℕ → Bool) → RiseBetween first last xs → i < length xs → a (get_or xs i 0) ≡ false → EndsThese (take i xs) a b → b (get_or xs i 0) ≡ false
spared-next first last xs i a b rise within spared ends =
    ends (get_or xs i 0) ∙ ap (λ v. v || list_any (λ m. m == get_or xs i 0) (take i xs)) spared ∙ rise-apart first last xs i rise within

-- none of these was told to end
spared-all : (first last : ℕ) (xs : List ℕ) (told : ℕ → Bool) → RiseBetween first last xs → ((n : ℕ) → first ≤ n → told n ≡ false) → AllByRecursion (λ n. told n ≡ false) xs
spared-all first last [] told rise spared = tt
spared-all first last (x ∷ xs) told rise spared =
    (spared x rise.0, spared-all (x + 1) last xs told rise.2 (λ n more. spared n (let here = rise.0 in omega arith)))

-- ---- a cluster that breaks off

module _ (a m : Beside SpawnerTold) (left : List ℕ) where
  front-rises : (deeds : List ClusterDeed) → DoesFront (LeavesChildren [] left a m) deeds a m → RiseBetween a.told.children m.told.children left
  front-rises deeds p =
      subst (λ (n : ℕ). RiseBetween a.told.children n left) (sym p.does.starts.children)
      (subst (λ (l : List ℕ). RiseBetween a.told.children (a.told.children + length (words_in p.done)) l) (sym p.left.left)
      (rise-after a.told.children a.told.children [] p.done (omega arith) tt))

  break-rises : (deeds : List ClusterDeed) → BreaksOff (LeavesChildren [] left a m) deeds a m → RiseBetween a.told.children m.told.children left
  break-rises deeds p =
      let done : List ClusterDeed = p.done ++ Wait p.title p.number ∷ [] in
      let many : words_in done ≡ words_in p.done = words_in-append p.done (Wait p.title p.number ∷ []) ∙ append-nil (words_in p.done) in
      let one = p.does.starts.children in
      let two = p.kept.children in
      let all = ap length many in
      let same : m.told.children ≡ a.told.children + length (words_in done) = omega (arith, one, two, all) in
      subst (λ (n : ℕ). RiseBetween a.told.children n left) (sym same)
      (subst (λ (l : List ℕ). RiseBetween a.told.children (a.told.children + length (words_in done)) l) (sym p.left.left)
      (rise-after a.told.children a.told.children [] done (omega arith) tt))

  -- the numbers of the children that are left rise, from the first on
  pub left-rises : (deeds : List ClusterDeed) (e : ClusterError) → ClusterFails (LeavesChildren [] left a m) deeds a m e → RiseBetween a.told.children m.told.children left
  left-rises deeds SpawnFault p = front-rises deeds p
  left-rises deeds WriteFault p = break-rises deeds p
  left-rises deeds Memory (inl p) = front-rises deeds p
  left-rises deeds Memory (inr p) = break-rises deeds p

  kept-ended : (deeds : List ClusterDeed) (e : ClusterError) → ClusterFails (LeavesChildren [] left a m) deeds a m e → m.told.ended ≡ a.told.ended
  kept-ended deeds SpawnFault p = p.left.ended
  kept-ended deeds WriteFault p = p.left.ended
  kept-ended deeds Memory (inl p) = p.left.ended
  kept-ended deeds Memory (inr p) = p.left.ended

  -- they weren't told to end, since they weren't before they were started
  pub left-spared : (deeds : List ClusterDeed) (e : ClusterError) → ClusterFails (LeavesChildren [] left a m) deeds a m e → ((n : ℕ) → a.told.children ≤ n → a.told.ended n ≡ false) → AllByRecursion (λ n. m.told.ended n ≡ false) left
  left-spared deeds e p spared =
      spared-all a.told.children m.told.children left m.told.ended (left-rises deeds e p)
      (λ n more. ap (λ (f : ℕ → Bool). f n) (kept-ended deeds e p) ∙ spared n more)

  module _ (z : Beside SpawnerTold) (kept : StartsChildren [] m z) (tried : z.told.unstarted ≡ m.told.unstarted) (written : z.written ≡ m.written) (ends : EndsThese left m.told.ended z.told.ended) where
    were_ended : (done : List ClusterDeed) → LeavesChildren [] left a m done → EndsLeft a z done
    were_ended done p =
        subst (λ (l : List ℕ). EndsThese l a.told.ended z.told.ended) p.left
        (subst (λ (f : ℕ → Bool). EndsThese left f z.told.ended) p.ended ends)

    front-ended : (deeds : List ClusterDeed) → DoesFront (LeavesChildren [] left a m) deeds a m → DoesFront (EndsLeft a z) deeds a z
    front-ended deeds p = record {
      done = p.done;
      rest = p.rest;
      front = p.front;
      does = subst (λ (l : List ClusterDeed). DoesDeeds l a z) (append-nil p.done) (does-more a m z p.done [] p.does (does-none m z kept written));
      tried = subst (λ (now : ℕ). TriesFirst p.rest a.told.unstarted now) (sym tried) p.tried;
      left = were_ended p.done p.left;
    }

    break-ended : (deeds : List ClusterDeed) → BreaksOff (LeavesChildren [] left a m) deeds a m → BreaksOff (EndsLeft a z) deeds a z
    break-ended deeds p = record {
      done = p.done;
      title = p.title;
      number = p.number;
      rest = p.rest;
      front = p.front;
      status = p.status;
      ended = p.ended;
      middle = p.middle;
      does = p.does;
      kept = starts-more p.middle m z [] [] p.kept kept;
      tried = tried ∙ p.tried;
      written = subst (λ (w : Option (List ℕ)). AppendsFront p.middle.written w (child_end_line p.title p.status)) (sym written) p.written;
      left = were_ended (p.done ++ Wait p.title p.number ∷ []) p.left;
    }

    -- then they were told to end
    pub fails-ended : (deeds : List ClusterDeed) (e : ClusterError) → ClusterFails (LeavesChildren [] left a m) deeds a m e → ClusterFails (EndsLeft a z) deeds a z e
    fails-ended deeds SpawnFault p = front-ended deeds p
    fails-ended deeds WriteFault p = break-ended deeds p
    fails-ended deeds Memory (inl p) = inl (front-ended deeds p)
    fails-ended deeds Memory (inr p) = inr (break-ended deeds p)
