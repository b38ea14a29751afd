-- The deeds of a list, one after the other.
use Rattle.std.proofs.Common.{◌≡◌, ℕ, ◌+◌, ◌<◌, List, [], ◌∷◌, ◌++◌, map, length, get_or, take, drop, Result, sym, ap, subst, ◌∙◌}
use Rattle.std.specs.Prelude.{IsErrAnd}
use Rattle.cs_io.specs.Outside.{SpawnerTold, Beside}
use Rattle.cs_config.specs.declared.plan.Plan.{Plan}
use Rattle.cs_spawn.specs.Words.{client_words, client_title}
use Rattle.cs_spawn.specs.Deeds.{ClusterDeed, Start, Wait, call_deeds}
use Rattle.cs_spawn.specs.Running.{ClusterFails, LeavesChildren, ClusterGoesOn}
use Rattle.cs_spawn.specs.declared.error.ClusterError.{ClusterError}
use Rattle.cs_spawn.specs.declared.error.ClusterError.TheVariants.{Memory}
use Rattle.cs_spawn.proofs.Going.{Done, done-more, wants-there, stops-there}
use Rattle.cs_spawn.proofs.Plans.{map-next, map-split, calls-next, calls-split}

-- ---- a deed for each item

pub each-wants : {X A : Type 0} (f : X → ClusterDeed) (xs : List X) (n : ℕ) (a b : Beside SpawnerTold) (l m : List ℕ) (result : Result A ClusterError) → Done (map f (take n xs)) l m a b → IsErrAnd result (λ x. x ≡ Memory) → ClusterGoesOn (map f xs) l m a b result
each-wants f xs n a b l m result p gives = wants-there a b l m (map f xs) (map f (take n xs)) (map f (drop n xs)) result (map-split f xs n) p gives

module _ {X : Type 0} (f : X → ClusterDeed) (xs : List X) (i : ℕ) (x none : X) (within : i < length xs) (is : x ≡ get_or xs i none) (one : ClusterDeed) (same : one ≡ f x) (a b c : Beside SpawnerTold) (l m n : List ℕ) where
  one_more : map f (take (i + 1) xs) ≡ map f (take i xs) ++ one ∷ []
  one_more = map-next f xs i x none within is ∙ ap (λ (d : ClusterDeed). map f (take i xs) ++ d ∷ []) (sym same)

  pub each-next : Done (map f (take i xs)) l m a b → Done (one ∷ []) m n b c → Done (map f (take (i + 1) xs)) l n a c
  each-next p q = subst (λ (d : List ClusterDeed). Done d l n a c) (sym one_more) (done-more a b c l m n (map f (take i xs)) (one ∷ []) p q)

  pub each-stops : {A : Type 0} (e : ClusterError) (result : Result A ClusterError) → Done (map f (take i xs)) l m a b → ClusterFails (LeavesChildren m n b c) (one ∷ []) b c e → IsErrAnd result (λ y. y ≡ e) → ClusterGoesOn (map f xs) l n a c result
  each-stops e result p q gives =
      stops-there a b c l m n (map f xs) (map f (take i xs)) (one ∷ []) (map f (drop (i + 1) xs)) e result
      (map-split f xs (i + 1) ∙ ap (λ l. l ++ map f (drop (i + 1) xs)) one_more) p q gives

-- ---- calls

module _ (plan : Plan) (first : ℕ) (calls : List (List ℕ)) (i child : ℕ) (call none text : List ℕ) (within : i < length calls) (is : call ≡ get_or calls i none) (same : text ≡ call) (number : child ≡ first + i) (a b c : Beside SpawnerTold) (l m n : List ℕ) where
  abbrev deeds : List ClusterDeed
  deeds = Start (client_words plan text) ∷ Wait (client_title i) child ∷ []

  call_more : call_deeds plan 0 first (take (i + 1) calls) ≡ call_deeds plan 0 first (take i calls) ++ deeds
  call_more =
      calls-next plan first calls i child call none within is number
      ∙ ap (λ (t : List ℕ). call_deeds plan 0 first (take i calls) ++ Start (client_words plan t) ∷ Wait (client_title i) child ∷ []) (sym same)

  pub call-next : Done (call_deeds plan 0 first (take i calls)) l m a b → Done deeds m n b c → Done (call_deeds plan 0 first (take (i + 1) calls)) l n a c
  call-next p q = subst (λ (d : List ClusterDeed). Done d l n a c) (sym call_more) (done-more a b c l m n (call_deeds plan 0 first (take i calls)) deeds p q)

  pub call-stops : {A : Type 0} (e : ClusterError) (result : Result A ClusterError) → Done (call_deeds plan 0 first (take i calls)) l m a b → ClusterFails (LeavesChildren m n b c) deeds b c e → IsErrAnd result (λ y. y ≡ e)
      → ClusterGoesOn (call_deeds plan 0 first calls) l n a c result
  call-stops e result p q gives =
      let later = call_deeds plan (0 + length (take (i + 1) calls)) (first + length (take (i + 1) calls)) (drop (i + 1) calls) in
      stops-there a b c l m n (call_deeds plan 0 first calls) (call_deeds plan 0 first (take i calls)) deeds later e result
      (calls-split plan first calls (i + 1) ∙ ap (λ l. l ++ later) call_more) p q gives
