-- The test of a proof is what it says, and what a proof tells that passes it.
use Rattle.std.proofs.Common.{◌≡◌, ℕ, ◌+◌, ◌*◌, ◌<◌, Bool, true, false, List, length, map, reverse, refl, sym, ap, ◌∙◌, subst, inl, inr}
use Rattle.std.specs.Prelude.{◌↔◌, All, bytes_eq, IfOk, Result, Ok, Err}
use Rattle.std.specs.Cmp.Lexicographic.{bytes_decides}
use Rattle.std.proofs.lemmas.Bool.{cases_Bool, and_parts, and_from, eqb-true, eq-eqb, ltb-true, lt-ltb, cond-false}
use Rattle.cs_tx_types.specs.declared.leaf.Leaf.{Leaf}
use Rattle.cs_tx_types.specs.declared.checkpoint.Checkpoint.{Checkpoint}
use Rattle.cs_tx_types.specs.declared.proof.Proof.{Proof}
use Rattle.cs_base.specs.declared.version.Version.TheVariants.{One}
use Rattle.cs_tx_types.specs.Log.{leaf_encoding, LeafFits, ProofFits}
use Rattle.cs_merkle.specs.Path.{path_length, root_by, ShowsLeaf}
use Rattle.cs_check_rules.specs.Chain.{head_of}
use Rattle.cs_check_rules.specs.Shown.{Shows, CoversLeaves, NoProofCollision}
use Rattle.cs_check_rules.proofs.Covered.{covered, covered_leaf}
use Rattle.cs_verify.specs.declared.claim.Claim.{Claim}
use Rattle.cs_verify.specs.declared.judging.Verdict.{Verdict}
use Rattle.cs_verify.specs.declared.judging.Verdict.TheVariants.{Shown, NotShown}
use Rattle.cs_verify.specs.Verdicts.{leads, is_shown, verdict_on, ShowsExactly, IsCovered, VerdictTells}

test_leads : (p : Proof) → leads p ≡ true →
    ShowsLeaf p.checkpoint.leaf_root 16 p.place (leaf_encoding One p.leaf) p.path
test_leads p is =
    let first = and_parts _ _ is in
    let second = and_parts _ _ first.1 in
    record {
      within = ltb-true p.place 16 first.0;
      long = eqb-true (length p.path) (path_length 16 p.place) second.0;
      leads = (bytes_decides _ _).0 second.1;
    }

leads_test : (p : Proof) →
    ShowsLeaf p.checkpoint.leaf_root 16 p.place (leaf_encoding One p.leaf) p.path → leads p ≡ true
leads_test p shows =
    and_from _ _ (lt-ltb p.place 16 shows.within)
    (and_from _ _ (eq-eqb (length p.path) (path_length 16 p.place) shows.long)
    ((bytes_decides _ _).1 shows.leads))

pub test_shows : (head : List ℕ) (p : Proof) → is_shown head p ≡ true → Shows head p
test_shows head p is =
    let first = and_parts _ _ is in
    let second = and_parts _ _ first.1 in
    record {
      checkpoint = (bytes_decides _ _).0 first.0;
      leads = test_leads p second.1;
      slot = eqb-true p.leaf.slot (16 * p.checkpoint.number + p.place) second.0;
    }

pub shows_test : (head : List ℕ) (p : Proof) → Shows head p → is_shown head p ≡ true
shows_test head p shows =
    and_from _ _ ((bytes_decides _ _).1 shows.checkpoint)
    (and_from _ _ (eq-eqb p.leaf.slot (16 * p.checkpoint.number + p.place) shows.slot)
    (leads_test p shows.leads))

pub verdict_shown : (claim : Claim) → Shows claim.head claim.proof →
    verdict_on claim ≡ Shown claim.proof
verdict_shown claim shows = rw (shows_test claim.head claim.proof shows) refl

pub verdict_not : (claim : Claim) → (Shows claim.head claim.proof → ⊥) →
    verdict_on claim ≡ NotShown
verdict_not claim not_shown =
    elim (cases_Bool (is_shown claim.head claim.proof)) [
      | inl is ↦ absurd (not_shown (test_shows claim.head claim.proof is))
      | inr is ↦ rw is refl
    ]

not_both : (claim : Claim) → is_shown claim.head claim.proof ≡ false →
    verdict_on claim ≡ Shown claim.proof → ⊥
not_both claim failed shown =
    let other : NotShown ≡ Shown claim.proof =
    sym (cond-false (is_shown claim.head claim.proof) (Shown claim.proof) NotShown failed) ∙ shown in
    cc

pub shows_exactly : (claim : Claim) (verdict : Verdict) → verdict ≡ verdict_on claim →
    ShowsExactly claim verdict
shows_exactly claim verdict is = (
  λ shown. elim (cases_Bool (is_shown claim.head claim.proof)) [
    | inl passed ↦ test_shows claim.head claim.proof passed
    | inr failed ↦ absurd (not_both claim failed (sym is ∙ shown))
  ],
  λ shows. is ∙ verdict_shown claim shows,
)

pub each_exactly : {E : Type 0} (r : Result Verdict E) (c d : Claim) → c ≡ d →
    IfOk r (λ verdict. verdict ≡ verdict_on c) → IfOk r (ShowsExactly d)
each_exactly (Ok verdict) c d same is = shows_exactly d verdict (is ∙ ap verdict_on same)
each_exactly (Err e) c d same is = tt

pub shown_tells : (head : List ℕ) (p : Proof) → ProofFits One p → Shows head p → VerdictTells head (Shown p)
shown_tells head p fits shows c leaves same all over apart =
    let here : Shows (head_of c) p = subst (λ (h : List ℕ). Shows h p) (sym same) shows in
    record {
      checkpoint = (covered c (map (leaf_encoding One) leaves) p over fits apart here).checkpoint;
      leaf = covered_leaf c leaves p all over fits apart here;
    }
