-- Leaves are put one after the other, and none before the first of them.
use Rattle.std.proofs.Common.{◌≡◌, ℕ, ◌+◌, ◌<◌, ◌≤◌, min, get_or, inl, inr, List, [], length, take, refl, sym, ap, ◌∙◌, subst, arith, length-take}
use Rattle.std.specs.Prelude.{zip}
use Rattle.std.specs.declared.cmp.Ordering.TheVariants.{Less}
use Rattle.std.specs.Map.{keys_of}
use Rattle.std.specs.BTreeMap.{insert_entry}
use Rattle.std.proofs.lemmas.Bool.{cases_eq}
use Rattle.std.proofs.lemmas.List.{length-map, take_all}
use Rattle.cs_merkle_kept.specs.Leaves.{KeyedHashes, byte_order, AreRising, IsAt}
use Rattle.cs_merkle_kept.specs.Kept.{AreKept}
use Rattle.cs_merkle_kept.specs.Puts.{IsPutOne, IsPutRest}
use Rattle.cs_merkle_kept.proofs.Hashes.{Hashes}
use Rattle.cs_merkle_kept.proofs.Keys.{same_key, back_greater}
use Rattle.cs_merkle_kept.proofs.Front.{Entry, key_at, all_put_more}

pub record IsPutSoFar (keys hashes : Hashes) (leaves : KeyedHashes) (keys' hashes' : Hashes) (done first : ℕ)
    : Type 0 where
  pub rest : IsPutRest keys hashes (take done leaves) keys' hashes' first
  pub place : AreRising (keys_of leaves) → 0 < done →
      IsAt keys' (get_or (keys_of leaves) 0 []) first

pub so_far_none : (keys hashes : Hashes) (leaves : KeyedHashes) → AreKept keys hashes →
    IsPutSoFar keys hashes leaves keys hashes 0 (length hashes)
so_far_none keys hashes leaves kept = record {
  rest = record {
    kept = kept;
    put = refl;
    more = omega arith;
    reach = omega arith;
    none = λ no. refl;
    same = λ i less. refl;
  };
  place = λ rising some. absurd (omega (arith, some));
}

-- a key stands before the place of a greater one that is put
before_place : (keys hashes keys' hashes' : Hashes) (key : List ℕ) (leaf : Entry) (first place : ℕ) →
    IsPutOne keys hashes leaf keys' hashes' place → IsAt keys key first →
    byte_order key leaf.0 ≡ Less → first < place
before_place keys hashes keys' hashes' key leaf first place one at less =
    one.behind first at.within
    (ap (byte_order leaf.0) (sym (same_key key (get_or keys first []) at.here))
    ∙ back_greater key leaf.0 less)

still_at : (keys hashes keys' hashes' : Hashes) (key : List ℕ) (leaf : Entry) (first place : ℕ) →
    AreKept keys hashes → IsPutOne keys hashes leaf keys' hashes' place → IsAt keys key first →
    first < place → IsAt keys' key first
still_at keys hashes keys' hashes' key leaf first place kept one at before =
    let there = one.here in
    let in_range = there.within in
    record {
      within = omega (arith, before, in_range);
      below = λ i less.
          ap (byte_order key) (one.same_key i (omega (arith, less, before))) ∙ at.below i less;
      here = ap (byte_order key) (one.same_key first before) ∙ at.here;
    }

pub so_far_more : (keys hashes : Hashes) (leaves : KeyedHashes) (keys' hashes' keys'' hashes'' : Hashes)
    (done first place : ℕ) (leaf : Entry) → done < length leaves → leaf ≡ get_or leaves done leaf →
    IsPutSoFar keys hashes leaves keys' hashes' done first →
    IsPutOne keys' hashes' leaf keys'' hashes'' place →
    IsPutSoFar keys hashes leaves keys'' hashes'' (done + 1) (min first place)
so_far_more keys hashes leaves keys' hashes' keys'' hashes'' done first place leaf there is s one =
    let r = s.rest in
    let more = r.more in
    let reach = r.reach in
    let more_one = one.more in
    let reach_one = one.reach in
    record {
      rest = record {
        kept = one.kept;
        put = one.put
            ∙ ap (λ (es : KeyedHashes). insert_entry byte_order es leaf.0 leaf.1) r.put
            ∙ sym (all_put_more (zip keys hashes) leaves done leaf there is);
        more = omega (arith, more, more_one);
        reach = omega (arith, reach);
        none = λ no. absurd (omega (arith, no, there, length-take (done + 1) leaves));
        same = λ i less.
            one.same_hash i (omega (arith, less)) ∙ r.same i (omega (arith, less));
      };
      place = λ rising some. elim (cases_eq done 0) [
        | inl none ↦
            let start = r.none (omega (arith, none, length-take done leaves)) in
            let here : min first place ≡ place = omega (arith, start, reach_one) in
            let key : get_or (keys_of leaves) 0 [] ≡ leaf.0 =
            ap (λ (m : ℕ). get_or (keys_of leaves) m []) (sym none) ∙ key_at leaves done leaf there is in
            subst (λ (p : ℕ). IsAt keys'' (get_or (keys_of leaves) 0 []) p) (sym here)
            (subst (λ (k : List ℕ). IsAt keys'' k place) (sym key) one.here)
        | inr later ↦
            let long = length-map leaves (λ (e : Entry). e.0) in
            let begin = get_or (keys_of leaves) 0 [] in
            let at = s.place rising (omega (arith, later)) in
            let less : byte_order begin leaf.0 ≡ Less =
            subst (λ (k : List ℕ). byte_order begin k ≡ Less) (key_at leaves done leaf there is)
            (rising 0 done (omega (arith, later)) (omega (arith, there, long))) in
            let before = before_place keys' hashes' keys'' hashes'' begin leaf first place one at less in
            let here : min first place ≡ first = omega (arith, before) in
            subst (λ (p : ℕ). IsAt keys'' begin p) (sym here)
            (still_at keys' hashes' keys'' hashes'' begin leaf first place r.kept one at before)
      ];
    }

pub so_far_all : (keys hashes : Hashes) (leaves : KeyedHashes) (keys' hashes' : Hashes) (done first : ℕ) →
    length leaves ≤ done → IsPutSoFar keys hashes leaves keys' hashes' done first →
    IsPutRest keys hashes leaves keys' hashes' first
so_far_all keys hashes leaves keys' hashes' done first all s =
    subst (λ (ls : KeyedHashes). IsPutRest keys hashes ls keys' hashes' first)
    (take_all done leaves all) s.rest
