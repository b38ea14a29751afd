-- One deed after the other.
use Rattle.std.proofs.Common.{◌≡◌, ◌⊎◌, inl, inr, ℕ, ◌+◌, ◌≤◌, List, [], ◌∷◌, ◌++◌, length, Option, Some, None, Result, Ok, Err, refl, sym, ap, subst, ◌∙◌, arith, append_assoc, append-nil, length-append}
use Rattle.std.specs.Prelude.{IsErrAnd, IsErrOf, filter, not, ◌==◌}
use Rattle.std.specs.Io.KnownBytes.{Appends}
use Rattle.std.proofs.KnownBytes.{Appends-nil, Appends-trans}
use Rattle.cs_base.specs.Answers.{AppendsFront}
use Rattle.cs_base.specs.Outside.{HasCause}
use Rattle.cs_io.specs.Told.{Changes, Stays}
use Rattle.cs_io.specs.laws.Told.{stays-same, stays-both}
use Rattle.cs_io.specs.Spawner.{Children}
use Rattle.cs_io.specs.Outside.{SpawnerTold, Beside}
use Rattle.cs_spawn.specs.Words.{child_end_line}
use Rattle.cs_spawn.specs.Deeds.{ClusterDeed, Start, Wait, words_in, left_after}
use Rattle.cs_spawn.specs.Running.{ChildEndsWith, AreLines, StartsChildren, TriesFirst, DoesDeeds, DoesFront, BreaksOff, ClusterFails, LeavesChildren, ClusterGoesOn}
use Rattle.cs_spawn.specs.declared.error.ClusterError.{ClusterError}
use Rattle.cs_spawn.specs.declared.error.ClusterError.TheVariants.{SpawnFault, WriteFault, Memory}

-- ---- children

abbrev Grows : Children → Option Children → Option Children → Type 0
Grows words = Changes (λ before now. now ≡ before ++ words)

grows-kept : (a b : Option Children) → Stays a b → Grows [] a b
grows-kept None b stays = tt
grows-kept (Some x) None stays = absurd stays
grows-kept (Some x) (Some y) stays = stays ∙ sym (append-nil x)

grows-more : (a b c : Option Children) (xs ys : Children) → Grows xs a b → Grows ys b c → Grows (xs ++ ys) a c
grows-more None b c xs ys p q = tt
grows-more (Some x) None c xs ys p q = absurd p
grows-more (Some x) (Some y) None xs ys p q = absurd q
grows-more (Some x) (Some y) (Some z) xs ys p q = q ∙ ap (λ l. l ++ ys) p ∙ append_assoc x xs ys

-- no child was started
pub starts-none : (a b : Beside SpawnerTold) → Stays a.told.started b.told.started → b.told.children ≡ a.told.children → Stays a.told.statuses b.told.statuses → StartsChildren [] a b
starts-none a b started children statuses = record {
  started = grows-kept a.told.started b.told.started started;
  children = omega (arith, children);
  statuses = statuses;
}

pub starts-more : (a b c : Beside SpawnerTold) (xs ys : Children) → StartsChildren xs a b → StartsChildren ys b c → StartsChildren (xs ++ ys) a c
starts-more a b c xs ys p q = record {
  started = grows-more a.told.started b.told.started c.told.started xs ys p.started q.started;
  children = (let one = p.children in let two = q.children in let all = length-append xs ys in omega arith);
  statuses = stays-both a.told.statuses b.told.statuses c.told.statuses p.statuses q.statuses;
}

-- ---- lines

-- what is told later was told before
ends_with-before : (s t : Option (ℕ → ℕ)) → Stays s t → (number status : ℕ) → ChildEndsWith t number status → ChildEndsWith s number status
ends_with-before None t stays number status ends = tt
ends_with-before (Some f) None stays number status ends = absurd stays
ends_with-before (Some f) (Some g) stays number status ends = ends ∙ ap (λ (u : ℕ → ℕ). u number) stays

lines-before : (s t : Option (ℕ → ℕ)) → Stays s t → (deeds : List ClusterDeed) (lines : List ℕ) → AreLines t deeds lines → AreLines s deeds lines
lines-before s t stays [] lines are = are
lines-before s t stays (Start words ∷ deeds) lines are = lines-before s t stays deeds lines are
lines-before s t stays (Wait title number ∷ deeds) lines (status, later, ends, is, are) =
    (status, later, ends_with-before s t stays number status ends, is, lines-before s t stays deeds later are)

lines-more : (s : Option (ℕ → ℕ)) (xs ys : List ClusterDeed) (one two : List ℕ) → AreLines s xs one → AreLines s ys two → AreLines s (xs ++ ys) (one ++ two)
lines-more s [] ys one two p q = subst (λ (l : List ℕ). AreLines s ys (l ++ two)) (sym p) q
lines-more s (Start words ∷ xs) ys one two p q = lines-more s xs ys one two p q
lines-more s (Wait title number ∷ xs) ys one two (status, later, ends, is, are) q = (
  status,
  later ++ two,
  ends,
  ap (λ l. l ++ two) is ∙ append_assoc (child_end_line title status) later two,
  lines-more s xs ys later two are q,
)

-- ---- deeds

pub words_in-append : (xs ys : List ClusterDeed) → words_in (xs ++ ys) ≡ words_in xs ++ words_in ys
words_in-append [] ys = refl
words_in-append (Start words ∷ xs) ys = ap (λ l. words ∷ l) (words_in-append xs ys)
words_in-append (Wait title number ∷ xs) ys = words_in-append xs ys

-- nothing was done
pub does-none : (a b : Beside SpawnerTold) → StartsChildren [] a b → b.written ≡ a.written → DoesDeeds [] a b
does-none a b starts written = record {
  starts = starts;
  lines = [];
  told = refl;
  written = subst (λ (w : Option (List ℕ)). Appends a.written w []) (sym written) (Appends-nil a.written);
}

pub does-nil : (a : Beside SpawnerTold) → DoesDeeds [] a a
does-nil a = does-none a a (starts-none a a (stays-same a.told.started) refl (stays-same a.told.statuses)) refl

pub does-more : (a b c : Beside SpawnerTold) (xs ys : List ClusterDeed) → DoesDeeds xs a b → DoesDeeds ys b c → DoesDeeds (xs ++ ys) a c
does-more a b c xs ys p q = record {
  starts = subst (λ (w : Children). StartsChildren w a c) (sym (words_in-append xs ys)) (starts-more a b c (words_in xs) (words_in ys) p.starts q.starts);
  lines = p.lines ++ q.lines;
  told = lines-more a.told.statuses xs ys p.lines q.lines p.told (lines-before a.told.statuses b.told.statuses p.starts.statuses ys q.lines q.told);
  written = Appends-trans a.written b.written c.written p.lines q.lines p.written q.written;
}

-- ---- the children that are left

left_after-append : (left : List ℕ) (next : ℕ) (xs ys : List ClusterDeed) → left_after left next (xs ++ ys) ≡ left_after (left_after left next xs) (next + length (words_in xs)) ys
left_after-append left next [] ys = let same : next ≡ next + 0 = omega arith in ap (λ n. left_after left n ys) same
left_after-append left next (Start words ∷ xs) ys =
    let later : List ℕ = left_after (left ++ next ∷ []) (next + 1) xs in
    let same : (next + 1) + length (words_in xs) ≡ next + length (words ∷ words_in xs) = omega arith in
    left_after-append (left ++ next ∷ []) (next + 1) xs ys ∙ ap (λ n. left_after later n ys) same
left_after-append left next (Wait title number ∷ xs) ys = left_after-append (filter (λ n. not (n == number)) left) next xs ys

-- all of these deeds were done, each start at the first try, with these children left before and after
abbrev pub Done : List ClusterDeed → List ℕ → List ℕ → Beside SpawnerTold → Beside SpawnerTold → Type 0
Done deeds left left' old new = DoesDeeds deeds old new × LeavesChildren left left' old new deeds × (new.told.unstarted ≡ old.told.unstarted)

leaves-after : (a b c : Beside SpawnerTold) (l m n : List ℕ) (xs ys : List ClusterDeed) → Done xs l m a b → LeavesChildren m n b c ys → LeavesChildren l n a c (xs ++ ys)
leaves-after a b c l m n xs ys p q = record {
  ended = q.ended ∙ p.1.ended;
  left = q.left ∙ ap (λ k. left_after m k ys) p.0.starts.children
      ∙ ap (λ k. left_after k (a.told.children + length (words_in xs)) ys) p.1.left
      ∙ sym (left_after-append l a.told.children xs ys);
}

pub done-nil : (left : List ℕ) (a : Beside SpawnerTold) → Done [] left left a a
done-nil left a = (does-nil a, record { ended = refl; left = refl }, refl)

pub done-more : (a b c : Beside SpawnerTold) (l m n : List ℕ) (xs ys : List ClusterDeed) → Done xs l m a b → Done ys m n b c → Done (xs ++ ys) l n a c
done-more a b c l m n xs ys p q = (does-more a b c xs ys p.0 q.0, leaves-after a b c l m n xs ys p q.1, q.2 ∙ p.2)

-- ---- what was tried of the others

-- none of these
tries-none : (deeds : List ClusterDeed) (before now : ℕ) → now ≡ before → TriesFirst deeds before now
tries-none [] before now is = is
tries-none (Start words ∷ deeds) before now is = omega (arith, is)
tries-none (Wait title number ∷ deeds) before now is = is

tries-more : (deeds more : List ClusterDeed) (before now : ℕ) → TriesFirst deeds before now → TriesFirst (deeds ++ more) before now
tries-more [] more before now is = tries-none more before now is
tries-more (Start words ∷ deeds) more before now is = is
tries-more (Wait title number ∷ deeds) more before now is = is

-- ---- how it ends

module _ (a b c : Beside SpawnerTold) (l m n : List ℕ) (xs ys : List ClusterDeed) (p : Done xs l m a b) where
  front-after : DoesFront (LeavesChildren m n b c) ys b c → DoesFront (LeavesChildren l n a c) (xs ++ ys) a c
  front-after q = record {
    done = xs ++ q.done;
    rest = q.rest;
    front = ap (λ l. xs ++ l) q.front ∙ sym (append_assoc xs q.done q.rest);
    does = does-more a b c xs q.done p.0 q.does;
    tried = subst (λ (before : ℕ). TriesFirst q.rest before c.told.unstarted) p.2 q.tried;
    left = leaves-after a b c l m n xs q.done p q.left;
  }

  breaks-after : BreaksOff (LeavesChildren m n b c) ys b c → BreaksOff (LeavesChildren l n a c) (xs ++ ys) a c
  breaks-after q = record {
    done = xs ++ q.done;
    title = q.title;
    number = q.number;
    rest = q.rest;
    front = ap (λ l. xs ++ l) q.front ∙ sym (append_assoc xs q.done (Wait q.title q.number ∷ q.rest));
    status = q.status;
    ended = ends_with-before a.told.statuses b.told.statuses p.0.starts.statuses q.number q.status q.ended;
    middle = q.middle;
    does = does-more a b q.middle xs q.done p.0 q.does;
    kept = q.kept;
    tried = q.tried ∙ p.2;
    written = q.written;
    left = subst (λ (d : List ClusterDeed). LeavesChildren l n a c d) (sym (append_assoc xs q.done (Wait q.title q.number ∷ [])))
        (leaves-after a b c l m n xs (q.done ++ Wait q.title q.number ∷ []) p q.left);
  }

  -- these deeds were done, and the next failed so
  fails-after : (e : ClusterError) → ClusterFails (LeavesChildren m n b c) ys b c e → ClusterFails (LeavesChildren l n a c) (xs ++ ys) a c e
  fails-after SpawnFault q = front-after q
  fails-after WriteFault q = breaks-after q
  fails-after Memory (inl q) = inl (front-after q)
  fails-after Memory (inr q) = inr (breaks-after q)

  -- these deeds were done, and the next ended so
  pub goes-after : {A : Type 0} (result : Result A ClusterError) → ClusterGoesOn ys m n b c result → ClusterGoesOn (xs ++ ys) l n a c result
  goes-after (Ok x) q = done-more a b c l m n xs ys p q
  goes-after (Err e) q = fails-after e q

module _ (Left : List ClusterDeed → Type 0) (a b : Beside SpawnerTold) (xs ys : List ClusterDeed) where
  front-early : DoesFront Left xs a b → DoesFront Left (xs ++ ys) a b
  front-early p = record {
    done = p.done;
    rest = p.rest ++ ys;
    front = ap (λ l. l ++ ys) p.front ∙ append_assoc p.done p.rest ys;
    does = p.does;
    tried = tries-more p.rest ys a.told.unstarted b.told.unstarted p.tried;
    left = p.left;
  }

  breaks-early : BreaksOff Left xs a b → BreaksOff Left (xs ++ ys) a b
  breaks-early p = record {
    done = p.done;
    title = p.title;
    number = p.number;
    rest = p.rest ++ ys;
    front = ap (λ l. l ++ ys) p.front ∙ append_assoc p.done (Wait p.title p.number ∷ p.rest) ys;
    status = p.status;
    ended = p.ended;
    middle = p.middle;
    does = p.does;
    kept = p.kept;
    tried = p.tried;
    written = p.written;
    left = p.left;
  }

  -- they failed so before the next
  fails-early : (e : ClusterError) → ClusterFails Left xs a b e → ClusterFails Left (xs ++ ys) a b e
  fails-early SpawnFault p = front-early p
  fails-early WriteFault p = breaks-early p
  fails-early Memory (inl p) = inl (front-early p)
  fails-early Memory (inr p) = inr (breaks-early p)

-- the error is handed on
pub goes-so : {A : Type 0} (a b : Beside SpawnerTold) (l m : List ℕ) (deeds : List ClusterDeed) (e : ClusterError) (result : Result A ClusterError) → IsErrAnd result (λ x. x ≡ e) → ClusterFails (LeavesChildren l m a b) deeds a b e → ClusterGoesOn deeds l m a b result
goes-so a b l m deeds e (Ok x) gives p = absurd gives
goes-so a b l m deeds e (Err x) gives p = subst (λ (y : ClusterError). ClusterFails (LeavesChildren l m a b) deeds a b y) (sym gives) p

-- memory ran out after these
pub wants-there : {A : Type 0} (a b : Beside SpawnerTold) (l m : List ℕ) (whole xs ys : List ClusterDeed) (result : Result A ClusterError) → whole ≡ xs ++ ys → Done xs l m a b → IsErrAnd result (λ x. x ≡ Memory) → ClusterGoesOn whole l m a b result
wants-there a b l m whole xs ys result parts p gives =
    goes-so a b l m whole Memory result gives (inl (record { done = xs; rest = ys; front = parts; does = p.0; tried = tries-none ys a.told.unstarted b.told.unstarted p.2; left = p.1 }))

-- before any of these
pub wants-at_once : {A : Type 0} (a : Beside SpawnerTold) (l : List ℕ) (deeds : List ClusterDeed) (result : Result A ClusterError) → IsErrAnd result (λ x. x ≡ Memory) → ClusterGoesOn deeds l l a a result
wants-at_once a l deeds result gives = wants-there a a l l deeds [] deeds result refl (done-nil l a) gives

-- these failed so, before the others
pub stops-early : {A : Type 0} (a b : Beside SpawnerTold) (l m : List ℕ) (xs ys : List ClusterDeed) (e : ClusterError) (result : Result A ClusterError) → ClusterFails (LeavesChildren l m a b) xs a b e → IsErrAnd result (λ x. x ≡ e) → ClusterGoesOn (xs ++ ys) l m a b result
stops-early a b l m xs ys e result p gives = goes-so a b l m (xs ++ ys) e result gives (fails-early (LeavesChildren l m a b) a b xs ys e p)

-- the same, after some were done
pub stops-there : {A : Type 0} (a b c : Beside SpawnerTold) (l m n : List ℕ) (whole xs one ys : List ClusterDeed) (e : ClusterError) (result : Result A ClusterError) → whole ≡ (xs ++ one) ++ ys → Done xs l m a b → ClusterFails (LeavesChildren m n b c) one b c e
    → IsErrAnd result (λ x. x ≡ e) → ClusterGoesOn whole l n a c result
stops-there a b c l m n whole xs one ys e result parts p q gives =
    goes-so a c l n whole e result gives (subst (λ (d : List ClusterDeed). ClusterFails (LeavesChildren l n a c) d a c e) (sym parts)
    (fails-early (LeavesChildren l n a c) a c (xs ++ one) ys e (fails-after a b c l m n xs one p e q)))

-- the sink isn't at fault
pub not-the-sink : {A : Type 0} (e : ClusterError) (result : Result A ClusterError) (before : ℕ) → IsErrAnd result (λ x. x ≡ e) → (e ≡ WriteFault → ⊥) → HasCause before before (IsErrOf result WriteFault)
not-the-sink e (Ok x) before gives other = absurd gives
not-the-sink {A} e (Err x) before gives other = record {
  later = omega arith;
  cause = λ is.
      let path : ◌≡◌ {A = Result A ClusterError} (Err x) (Err WriteFault) = is in
      let same : x ≡ WriteFault = cc in
      absurd (other (sym gives ∙ same));
}

-- ---- one deed

-- none was started, or the spawner failed at a wait
pub front-kept : (a b : Beside SpawnerTold) (l m : List ℕ) (deeds : List ClusterDeed) → StartsChildren [] a b → TriesFirst deeds a.told.unstarted b.told.unstarted → b.told.ended ≡ a.told.ended → b.written ≡ a.written → m ≡ l
    → DoesFront (LeavesChildren l m a b) deeds a b
front-kept a b l m deeds starts tried ended written left =
    record { done = []; rest = deeds; front = refl; does = does-none a b starts written; tried = tried; left = record { ended = ended; left = left } }

-- a child has ended, and isn't left; a front of its line was printed
pub wait-broke : (a b : Beside SpawnerTold) (l m title : List ℕ) (number status : ℕ) → ChildEndsWith a.told.statuses number status → StartsChildren [] a b → b.told.unstarted ≡ a.told.unstarted → b.told.ended ≡ a.told.ended → m ≡ filter (λ n. not (n == number)) l
    → AppendsFront a.written b.written (child_end_line title status) → BreaksOff (LeavesChildren l m a b) (Wait title number ∷ []) a b
wait-broke a b l m title number status ends starts tried ended left written = record {
  done = [];
  title = title;
  number = number;
  rest = [];
  front = refl;
  status = status;
  ended = ends;
  middle = a;
  does = does-nil a;
  kept = starts;
  tried = tried;
  written = written;
  left = record { ended = ended; left = left };
}

-- ---- how many children there are

pub more-children : (a b : Beside SpawnerTold) (deeds : List ClusterDeed) → DoesDeeds deeds a b → b.told.children ≡ a.told.children + length (words_in deeds)
more-children a b deeds p = p.starts.children
