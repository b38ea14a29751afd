-- Saving one key file after the other.
use Rattle.std.proofs.Common.{◌≡◌, ◌⊎◌, inl, inr, ℕ, ◌+◌, ◌<◌, Bool, true, false, List, [], ◌∷◌, ◌++◌, length, get_or, take, drop, Option, Some, None, Result, Ok, Err, refl, sym, ap, subst, ◌∙◌, append_assoc}
use Rattle.std.specs.Prelude.{IsSomeAnd, IsErrAnd}
use Rattle.std.specs.List.{AllByRecursion}
use Rattle.std.specs.Str.{bytes_eq}
use Rattle.std.proofs.lemmas.Bool.{false≢true}
use Rattle.std.proofs.lemmas.Slice.Eq.{bytes_eq-Decides}
use Rattle.std.proofs.lemmas.List.{take_more, take-append-drop}
use Rattle.cs_base.specs.declared.config.Config.{Config}
use Rattle.cs_base.specs.declared.node_id.NodeId.{NodeId}
use Rattle.cs_io.specs.Told.{Changes}
use Rattle.cs_io.specs.Store.{Files, Replaces, MayReplace}
use Rattle.cs_config.specs.FileNames.{key_file}
use Rattle.cs_config.specs.KeyText.{IsKeyFile}
use Rattle.cs_config.specs.Saving.{HoldsKeys, SavesKeys, SavesFront, SavesBefore, SavesUpTo}
use Rattle.cs_config.specs.declared.saving.SaveError.{SaveError}
use Rattle.cs_config.specs.declared.saving.SaveError.TheVariants.{Fault, Memory}
use Rattle.cs_config.proofs.Named.{all_both, all_parts, IsNamed, same_file}

same_or_other : (xs ys : List ℕ) → (xs ≡ ys) ⊎ (xs ≡ ys → ⊥)
same_or_other xs ys = by (bytes_eq xs ys) refl
  where
    by : (b : Bool) → bytes_eq xs ys ≡ b → (xs ≡ ys) ⊎ (xs ≡ ys → ⊥)
    by true e = inl ((bytes_eq-Decides xs ys).0 e)
    by false e = inr (λ same. false≢true (sym e ∙ (bytes_eq-Decides xs ys).1 same))

module _ (config : Config) (master : List ℕ) where
  -- ---- one file

  pub saves-nil : (files : Files) → SavesKeys config master [] files files
  saves-nil files = record { held = tt; others = λ file none. refl }

  one-saved : (me : NodeId) (text : List ℕ) (before now : Files) → IsKeyFile config master me text → Replaces (key_file me) text before now → SavesKeys config master (me ∷ []) before now
  one-saved me text before now ok is = record {
    held = (subst (λ (o : Option (List ℕ)). IsSomeAnd o (IsKeyFile config master me)) (sym is.0) ok, tt);
    others = λ file none. is.1 file (λ same. none.0 (sym same));
  }

  none-saved : (me : NodeId) (before now : Files) → now (key_file me) ≡ before (key_file me) → ((other : List ℕ) → (other ≡ key_file me → ⊥) → now other ≡ before other) → SavesKeys config master [] before now
  none-saved me before now same others = record {
    held = tt;
    others = λ file none. elim (same_or_other file (key_file me)) [
      | inl is ↦ ap now is ∙ same ∙ ap before (sym is)
      | inr other ↦ others file other
    ];
  }

  may-one : (me : NodeId) (text : List ℕ) (before now : Files) → IsKeyFile config master me text → MayReplace (key_file me) text before now → SavesKeys config master [] before now ⊎ SavesKeys config master (me ∷ []) before now
  may-one me text before now ok is = elim is.0 [
    | inl new ↦ inr (one-saved me text before now ok (new, is.1))
    | inr old ↦ inl (none-saved me before now old is.1)
  ]

  -- the store failed at it
  pub fault-at : (me : NodeId) (name bytes text : List ℕ) (old new : Option Files) → name ≡ key_file me → bytes ≡ text → IsKeyFile config master me text
      → Changes (MayReplace name bytes) old new → Changes (SavesBefore me config master (me ∷ [])) old new
  fault-at me name bytes text None new named same ok is = tt
  fault-at me name bytes text (Some before) None named same ok is = absurd is
  fault-at me name bytes text (Some before) (Some now) named same ok is = record { done = []; rest = []; front = refl; saved = may-one me text before now ok (rw (← named, ← same) is) }

  -- memory ran out at it
  pub want-at : (me : NodeId) (name bytes text : List ℕ) (old new : Option Files) → name ≡ key_file me → bytes ≡ text → IsKeyFile config master me text
      → Changes (MayReplace name bytes) old new → Changes (SavesFront config master (me ∷ [])) old new
  want-at me name bytes text None new named same ok is = tt
  want-at me name bytes text (Some before) None named same ok is = absurd is
  want-at me name bytes text (Some before) (Some now) named same ok is = elim (may-one me text before now ok (rw (← named, ← same) is)) [
    | inl none ↦ record { done = []; rest = me ∷ []; front = refl; saved = none }
    | inr one ↦ record { done = me ∷ []; rest = []; front = refl; saved = one }
  ]

  -- nothing was saved
  pub nothing : (names : List NodeId) (result : Result Unit SaveError) (files : Option Files) → IsErrAnd result (λ e. e ≡ Memory) → Changes (SavesUpTo config master names result) files files
  nothing names (Ok done) files is = absurd is
  nothing names (Err e) files is = subst (λ (x : SaveError). Changes (SavesUpTo config master names (Err x)) files files) (sym is) (by files)
    where
      by : (files : Option Files) → Changes (SavesUpTo config master names (Err Memory)) files files
      by None = tt
      by (Some all) = record { done = []; rest = names; front = refl; saved = saves-nil all }

  -- ---- one after the other

  abbrev AllNamed : List NodeId → Type 0
  AllNamed names = AllByRecursion (IsNamed config) names

  -- a key file is held through other saves
  kept : (x : NodeId) (b c : Files) → IsNamed config x → HoldsKeys config master b x → (ys : List NodeId) → AllNamed ys → AllByRecursion (HoldsKeys config master c) ys
      → (AllByRecursion (λ me. key_file me ≡ key_file x → ⊥) ys → c (key_file x) ≡ b (key_file x)) → HoldsKeys config master c x
  kept x b c named held [] others holds same =
      subst (λ (o : Option (List ℕ)). IsSomeAnd o (IsKeyFile config master x)) (sym (same tt)) held
  kept x b c named held (y ∷ ys) others holds same = elim (same_or_other (key_file y) (key_file x)) [
    | inl is ↦ subst (HoldsKeys config master c) (same_file config y x others.0 named is) holds.0
    | inr other ↦ kept x b c named held ys others.1 holds.1 (λ none. same (other, none))
  ]

  all_kept : (xs ys : List NodeId) (b c : Files) → AllNamed xs → AllNamed ys → AllByRecursion (HoldsKeys config master b) xs → SavesKeys config master ys b c → AllByRecursion (HoldsKeys config master c) xs
  all_kept [] ys b c named others held later = tt
  all_kept (x ∷ xs) ys b c named others held later =
      (kept x b c named.0 held.0 ys others later.held (later.others (key_file x)), all_kept xs ys b c named.1 others held.1 later)

  saves-more : (xs ys : List NodeId) (a b c : Files) → AllNamed xs → AllNamed ys → SavesKeys config master xs a b → SavesKeys config master ys b c → SavesKeys config master (xs ++ ys) a c
  saves-more xs ys a b c named others p q = record {
    held = all_both (HoldsKeys config master c) xs ys (all_kept xs ys b c named others p.held q) q.held;
    others = λ file none.
        let parts = all_parts (λ me. key_file me ≡ file → ⊥) xs ys none in
        q.others file parts.1 ∙ p.others file parts.0;
  }

  -- the first of these were saved, and the next ended so
  before-after : (x : NodeId) (xs ys : List NodeId) (a b c : Files) → AllNamed xs → AllNamed ys → SavesKeys config master xs a b → SavesBefore x config master ys b c → SavesBefore x config master (xs ++ ys) a c
  before-after x xs ys a b c named others p q =
      let parts = all_parts (IsNamed config) q.done (x ∷ q.rest) (subst AllNamed q.front others) in
      record {
        done = xs ++ q.done;
        rest = q.rest;
        front = ap (λ l. xs ++ l) q.front ∙ sym (append_assoc xs q.done (x ∷ q.rest));
        saved = elim q.saved [
          | inl not ↦ inl (saves-more xs q.done a b c named parts.0 p not)
          | inr too ↦ inr (subst (λ (l : List NodeId). SavesKeys config master l a c) (sym (append_assoc xs q.done (x ∷ [])))
              (saves-more xs (q.done ++ x ∷ []) a b c named (all_both (IsNamed config) q.done (x ∷ []) parts.0 (parts.1.0, tt)) p too))
        ];
      }

  front-after : (xs ys : List NodeId) (a b c : Files) → AllNamed xs → AllNamed ys → SavesKeys config master xs a b → SavesFront config master ys b c → SavesFront config master (xs ++ ys) a c
  front-after xs ys a b c named others p q =
      let parts = all_parts (IsNamed config) q.done q.rest (subst AllNamed q.front others) in
      record {
        done = xs ++ q.done;
        rest = q.rest;
        front = ap (λ l. xs ++ l) q.front ∙ sym (append_assoc xs q.done q.rest);
        saved = saves-more xs q.done a b c named parts.0 p q.saved;
      }

  up_to-after : (xs ys : List NodeId) (a b c : Files) (result : Result Unit SaveError) → AllNamed xs → AllNamed ys → SavesKeys config master xs a b → SavesUpTo config master ys result b c → SavesUpTo config master (xs ++ ys) result a c
  up_to-after xs ys a b c (Ok done) named others p q = saves-more xs ys a b c named others p q
  up_to-after xs ys a b c (Err (Fault me)) named others p q = before-after me xs ys a b c named others p q
  up_to-after xs ys a b c (Err Memory) named others p q = front-after xs ys a b c named others p q

  -- it ended before these
  up_to-early : (xs ys : List NodeId) (a b : Files) (e : SaveError) → SavesUpTo config master xs (Err e) a b → SavesUpTo config master (xs ++ ys) (Err e) a b
  up_to-early xs ys a b (Fault me) p = record {
    done = p.done;
    rest = p.rest ++ ys;
    front = ap (λ l. l ++ ys) p.front ∙ append_assoc p.done (me ∷ p.rest) ys;
    saved = p.saved;
  }
  up_to-early xs ys a b Memory p = record {
    done = p.done;
    rest = p.rest ++ ys;
    front = ap (λ l. l ++ ys) p.front ∙ append_assoc p.done p.rest ys;
    saved = p.saved;
  }

  both : {P Q R : Files → Files → Type 0} → ((a b c : Files) → P a b → Q b c → R a c) → (a b c : Option Files) → Changes P a b → Changes Q b c → Changes R a c
  both each None b c p q = tt
  both each (Some x) None c p q = absurd p
  both each (Some x) (Some y) None p q = absurd q
  both each (Some x) (Some y) (Some z) p q = each x y z p q

  -- ---- all names

  module _ (names : List NodeId) (named : AllNamed names) (i : ℕ) (me other : NodeId) (within : i < length names) (is : me ≡ get_or names i other) where
    one_more : take (i + 1) names ≡ take i names ++ me ∷ []
    one_more = take_more names i other within ∙ ap (λ (y : NodeId). take i names ++ y ∷ []) (sym is)

    whole : names ≡ (take i names ++ me ∷ []) ++ drop (i + 1) names
    whole = sym (take-append-drop (i + 1) names) ∙ ap (λ l. l ++ drop (i + 1) names) one_more

    first_named : AllNamed (take i names) × AllNamed (me ∷ [])
    first_named = all_parts (IsNamed config) (take i names) (me ∷ []) (all_parts (IsNamed config) (take i names ++ me ∷ []) (drop (i + 1) names) (subst AllNamed whole named)).0

    pub named_at : IsNamed config me
    named_at = first_named.1.0

    pub saved-next : (a b c : Option Files) → Changes (SavesKeys config master (take i names)) a b → Changes (SavesKeys config master (me ∷ [])) b c → Changes (SavesKeys config master (take (i + 1) names)) a c
    saved-next = both (λ a b c p q. subst (λ (l : List NodeId). SavesKeys config master l a c) (sym one_more) (saves-more (take i names) (me ∷ []) a b c first_named.0 first_named.1 p q))

    saved-until : (e : SaveError) (a b c : Option Files) → Changes (SavesKeys config master (take i names)) a b → Changes (SavesUpTo config master (me ∷ []) (Err e)) b c → Changes (SavesUpTo config master names (Err e)) a c
    saved-until e = both (λ a b c p q. subst (λ (l : List NodeId). SavesUpTo config master l (Err e) a c) (sym whole)
        (up_to-early (take i names ++ me ∷ []) (drop (i + 1) names) a c e (up_to-after (take i names) (me ∷ []) a b c (Err e) first_named.0 first_named.1 p q)))

    pub ended-there : (e : SaveError) (result : Result Unit SaveError) (a b c : Option Files) → IsErrAnd result (λ x. x ≡ e) → Changes (SavesKeys config master (take i names)) a b
        → Changes (SavesUpTo config master (me ∷ []) (Err e)) b c → Changes (SavesUpTo config master names result) a c
    ended-there e (Ok done) a b c gives p q = absurd gives
    ended-there e (Err x) a b c gives p q = subst (λ (y : SaveError). Changes (SavesUpTo config master names (Err y)) a c) (sym gives) (saved-until e a b c p q)
