-- The order of each shard of a story keeps its law: where no two known entries have one digest, and where no node may lie.
use Rattle.std.proofs.Common.{◌≡◌, inl, inr, ℕ, ◌+◌, ◌*◌, ◌≤◌, ◌<◌, ◌==◌, Bool, List, [], ◌∷◌, Some, refl, sym, ◌∙◌, subst, arith}
use Rattle.std.specs.Prelude.{slice_get}
use Rattle.std.proofs.lemmas.Bool.{cond_both, eqb-true}
use Rattle.cs_order.specs.declared.proposed.Proposed.{Proposed}
use Rattle.cs_base.specs.Lists.{IsIn}
use Rattle.cs_order.specs.Deeds.{Deed, Took_in, Advanced, Echoed, Proposing, Ticked, Resent, Replied, Cut, Member, Machine, chosen_in}
use Rattle.cs_order.specs.Runs.{Act, KeepsRules, AllKeepRules, IsRun, deeds_of, member_of, entries_handed_in, held_in}
use Rattle.cs_order.specs.Law.{Admits, Admitted, HasChosen, IsLawful, Holds}
use Rattle.cs_node_rules.specs.Site.{Site}
use Rattle.cs_world_law.specs.Chain.{Moment, Known, Story, IsSoundSite, IsUnique, shard_acts, is_honest_in}
use Rattle.cs_world_law.proofs.Local.{order-either}
use Rattle.cs_world_law.proofs.Runs.{lawful, story-run}

-- the deeds of each shard are lawful
abbrev pub AreLawful : {M : Type 0} → Site M → Known → Type 0
AreLawful {M} site known =
    (story : List (Moment M)) (shard : ℕ) → shard < site.setup.shards → Story site known story →
    IsLawful site.machine site.setup.f (is_honest_in site shard) (shard_acts shard story)

pub lawful-apart : {M : Type 0} (site : Site M) (sound : IsSoundSite site) (known : Known) → IsUnique site.setup.version known.entries → AreLawful site known
lawful-apart {M} site sound known unique story shard fits story_is = lawful site sound known story shard fits story_is unique

-- ---- a shard of one member

module _ {M : Type 0} (m : Machine M) (holds : Holds m) (f : ℕ) (alone : f ≡ 0) (honest : ℕ → Bool) where
  -- its deeds keep the rules
  deeds-kept : (i : ℕ) (past : List (Act M)) → IsRun m f honest past → AllKeepRules m f i (deeds_of i past)
  deeds-kept i [] run = tt
  deeds-kept i (act ∷ past) run =
      cond_both (act.member == i) (act.deed ∷ deeds_of i past) (deeds_of i past) (λ ds. AllKeepRules m f i ds)
      (λ e. (subst (λ k. KeepsRules m (member_of f k past) act.deed) (eqb-true act.member i e) run.0.keeps, deeds-kept i past run.1))
      (λ e. deeds-kept i past run.1)

  -- who has chosen is a member
  chooser : (i slot : ℕ) (a : Proposed) (past : List (Act M)) → IsRun m f honest past → HasChosen i slot a past → i < 3 * f + 1
  chooser i slot a [] run chosen = cc
  chooser i slot a (act ∷ past) run chosen =
      cond_both (act.member == i) (act.deed ∷ deeds_of i past) (deeds_of i past) (λ ds. slice_get (chosen_in ds) slot ≡ Some a → i < 3 * f + 1)
      (λ e c. subst (λ k. k < 3 * f + 1) (eqb-true act.member i e) run.0.is_member)
      (λ e c. chooser i slot a past run.1 c)
      chosen

  only-one : (i j : ℕ) → i < 3 * f + 1 → j < 3 * f + 1 → i ≡ j
  only-one i j a b = least i j f alone a b
    where
      least : (i j f : ℕ) → f ≡ 0 → i < 3 * f + 1 → j < 3 * f + 1 → i ≡ j
      least i j f none a b = omega arith

  -- what a deed handed in was proposed, since there is no other member to take it from
  own : (h : Member M) (deed : Deed M) (a : Proposed) → h.f ≡ f → h.me < 3 * f + 1 → KeepsRules m h deed → IsIn a (entries_handed_in m deed) → Admits m a h deed
  own h (Took_in from message) a same member keeps i = absurd (keeps.1 (only-one from h.me (least from h.f f same keeps.0) member))
    where
      least : (from g f : ℕ) → g ≡ f → from ≤ 3 * g → from < 3 * f + 1
      least from g f same a = omega arith
  own h (Advanced step sent) a same member keeps i = absurd i
  own h (Echoed sent) a same member keeps i = absurd i
  own h (Ticked due sent) a same member keeps i = absurd i
  own h (Resent sent) a same member keeps i = absurd i
  own h (Replied slot to sent) a same member keeps i = absurd i
  own h (Cut slot) a same member keeps i = absurd i
  own h (Proposing proposed sent) a same member keeps (inl is) = sym is
  own h (Proposing proposed sent) a same member keeps (inr none) = absurd none

  held-admitted : (i : ℕ) (a : Proposed) (past : List (Act M)) → IsRun m f honest past → IsIn a (held_in m (deeds_of i past)) → Admitted m f a past
  held-admitted i a [] run held = absurd held
  held-admitted i a (act ∷ past) run held =
      cond_both (act.member == i) (act.deed ∷ deeds_of i past) (deeds_of i past) (λ ds. IsIn a (held_in m ds) → Admitted m f a (act ∷ past))
      (λ e h. elim (order-either a (entries_handed_in m act.deed) (held_in m (deeds_of i past)) h) [
        | inl now ↦ inl (own (member_of f act.member past) act.deed a refl run.0.is_member run.0.keeps now)
        | inr before ↦ inr (held-admitted i a past run.1 before)
      ])
      (λ e h. inr (held-admitted i a past run.1 h))
      held

  pub alone-lawful : (past : List (Act M)) → IsRun m f honest past → IsLawful m f honest past
  alone-lawful past run = record {
    agree = λ i j slot a b x y.
        let same = only-one i j (chooser i slot a past run x) (chooser j slot b past run y) in
        let there : HasChosen j slot a past = subst (λ k. HasChosen k slot a past) same x in
        let both : Some a ≡ Some b = sym there ∙ y in
        cc;
    admitted = λ i slot a x. held-admitted i a past run (holds.logged f i (deeds_of i past) (deeds-kept i past run) slot a x);
  }

pub lawful-alone : {M : Type 0} (site : Site M) (sound : IsSoundSite site) (known : Known) → site.setup.f ≡ 0 → AreLawful site known
lawful-alone {M} site sound known alone story shard fits story_is =
    alone-lawful site.machine sound.holds site.setup.f alone (is_honest_in site shard) (shard_acts shard story) (story-run site sound known story shard story_is)
