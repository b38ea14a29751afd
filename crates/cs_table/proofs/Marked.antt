-- Which keys are touched: those whose records changed.
use Rattle.std.proofs.Common.{◌≡◌, Bool, true, false, ◌||◌, ◌&&◌, if◌then◌else◌, ℕ, cond, List, [], ◌∷◌, ◌++◌, length, length-append, arith, inl, inr, refl, sym, ap, ◌∙◌, subst}
use Rattle.std.specs.List.{list_any}
use Rattle.std.specs.BTreeMap.{is_at}
use Rattle.std.proofs.lemmas.Bool.{both_ways, cases_Bool}
use Rattle.cs_base.specs.declared.key.Key.{Key}
use Rattle.cs_base.specs.declared.key.Key.TheVariants as key
use Rattle.cs_ledger.specs.Ledger.{Bytes}
use Rattle.cs_ledger.specs.Session as ledger
use Rattle.cs_ledger.specs.Table as table
use Rattle.cs_ledger.specs.Table.{Record, Table, State, Unknown, Active, Locked, Inactive, Shared, Vote, without_reader}
use Rattle.cs_ledger.proofs.Basics as basics
use Rattle.cs_tx.specs.Sessions.{key_seen}
use Rattle.cs_table.specs.declared.change.Change.{Change}
use Rattle.cs_table.specs.declared.change.Change.TheVariants.{Lock, Release, UseUp, Join, Leave}
use Rattle.cs_table.specs.Seen.{Stored, seen, has_key_named, is_under, unknown_record}
use Rattle.cs_table.specs.Changes.{MarksTouched, changed, changed_record, appeared_record, noted_record}
use Rattle.cs_table.proofs.Rows.{key_cmp, same_key, key_sym}
use Rattle.cs_table.proofs.ReaderLists.{shared_unknown}
use Rattle.cs_table.proofs.Weights.{AllGain, never_back}

-- ---- one step after another

pub marks_self : (a : Stored) → MarksTouched a a
marks_self a = record { untouched = λ name h. (h, refl); touched = λ name late early. absurd (both_ways _ early late); known = λ name h. h }

-- what one step changed, the next doesn't bring back
abbrev NeverBack : Table → Table → Table → Type 0
NeverBack t u v = (name : ledger.Key) → (u.at name ≡ t.at name → ⊥) → v.at name ≡ t.at name → ⊥

marks_chain : (a b c : Stored) → NeverBack (seen a) (seen b) (seen c) → MarksTouched a b → MarksTouched b c → MarksTouched a c
marks_chain a b c never one two = record {
  untouched = λ name h.
      let late = two.untouched name h in
      let early = one.untouched name late.0 in
      (early.0, late.1 ∙ early.1);
  touched = λ name late early back. elim (cases_Bool (has_key_named b.touched name)) [
    | inl mid ↦ never name (one.touched name mid early) back
    | inr mid ↦ two.touched name late mid (back ∙ sym (one.untouched name mid).1)
  ];
  known = λ name h. one.known name (two.known name h);
}

pub marks_after : (weight : Record → ℕ) (a b c : Stored) → AllGain weight (seen a) (seen b) → AllGain weight (seen b) (seen c) → MarksTouched a b → MarksTouched b c → MarksTouched a c
marks_after weight a b c first second =
    marks_chain a b c (λ name. never_back weight ((seen a).at name) ((seen b).at name) ((seen c).at name) (first.each name) (second.each name))

-- after a step that changes no record
pub marks_same : (a b c : Stored) → ((name : ledger.Key) → (seen b).at name ≡ (seen a).at name) → MarksTouched a b → MarksTouched b c → MarksTouched a c
marks_same a b c same = marks_chain a b c (λ name differs back. differs (same name))

-- ---- the record of one key

or_false : (x y : Bool) → (x || y) ≡ false → (x ≡ false) × (y ≡ false)
or_false true y h = absurd (both_ways true h refl)
or_false false y h = (refl, h)

if_kept : (b moved : Bool) (r s : Record) → (moved && b) ≡ false → (b ≡ true → moved ≡ false → r ≡ s) → (if b then r else s) ≡ s
if_kept true true r s h same = absurd (both_ways true h refl)
if_kept true false r s h same = same refl refl
if_kept false moved r s h same = refl

if_first : (b : Bool) (r s : Record) → b ≡ true → (if b then r else s) ≡ r
if_first true r s h = refl
if_first false r s h = absurd (both_ways false refl h)

moved_here : (x moved here : Bool) → (x || (moved && here)) ≡ true → x ≡ false → (moved ≡ true) × (here ≡ true)
moved_here true moved here h unmoved = absurd (both_ways true unmoved refl)
moved_here false true here h unmoved = (refl, h)
moved_here false false here h unmoved = absurd (both_ways false refl h)

if_known : (b : Bool) (r s : Record) → (r ≡ unknown_record → s ≡ unknown_record) → (if b then r else s) ≡ unknown_record → s ≡ unknown_record
if_known true r s known h = known h
if_known false r s known h = h

pub marks_at : (a b c : Stored) (f : Record → Record) (k : ledger.Key) (moved : Bool) → seen c ≡ changed f k (seen a) → b.touched ≡ a.touched
    → ((name : ledger.Key) → has_key_named c.touched name ≡ (has_key_named b.touched name || (moved && ledger.key_eq name k)))
    → (moved ≡ false → f ((seen a).at k) ≡ (seen a).at k)
    → (moved ≡ true → f ((seen a).at k) ≡ (seen a).at k → ⊥)
    → ((r : Record) → f r ≡ unknown_record → r ≡ unknown_record)
    → MarksTouched a c
marks_at a b c f k moved shows same touched stays moves known = record {
  untouched = λ name h.
      let parts = or_false (has_key_named a.touched name) (moved && ledger.key_eq name k)
      (sym (touched name ∙ ap (λ (ts : List Key). has_key_named ts name || (moved && ledger.key_eq name k)) same) ∙ h) in (
        parts.0,
        ap (λ (t : Table). t.at name) shows
            ∙ if_kept (ledger.key_eq name k) moved (f ((seen a).at name)) ((seen a).at name) parts.1
            (λ here unmoved. subst (λ (z : ledger.Key). f ((seen a).at z) ≡ (seen a).at z) (sym (basics.same_key name k here)) (stays unmoved)),
      );
  touched = λ name late early back.
      let parts = moved_here (has_key_named a.touched name) moved (ledger.key_eq name k)
      (sym (touched name ∙ ap (λ (ts : List Key). has_key_named ts name || (moved && ledger.key_eq name k)) same) ∙ late) early in
      let stays_here : f ((seen a).at name) ≡ (seen a).at name =
      sym (if_first (ledger.key_eq name k) (f ((seen a).at name)) ((seen a).at name) parts.1) ∙ sym (ap (λ (t : Table). t.at name) shows) ∙ back in
      moves parts.0 (subst (λ (z : ledger.Key). f ((seen a).at z) ≡ (seen a).at z) (basics.same_key name k parts.1) stays_here);
  known = λ name h.
      if_known (ledger.key_eq name k) (f ((seen a).at name)) ((seen a).at name) (known ((seen a).at name))
      (sym (ap (λ (t : Table). t.at name) shows) ∙ h);
}

-- ---- what is known of a key is not forgotten

record_is : (r : Record) → r.state ≡ Unknown → r.book ≡ [] → r ≡ unknown_record
record_is r s b = λ i. record { state = s i; book = b i }

locked_known : (d : Bytes) (s : State) → table.locked d s ≡ Unknown → s ≡ Unknown
locked_known d Unknown h = refl
locked_known d (Active o) h = absurd (let no_way = h in cc)
locked_known d (Locked o by) h = h
locked_known d (Inactive by) h = h
locked_known d (Shared o readers) h = h

released_known : (s : State) → table.released s ≡ Unknown → s ≡ Unknown
released_known Unknown h = refl
released_known (Active o) h = h
released_known (Locked o by) h = absurd (let no_way = h in cc)
released_known (Inactive by) h = h
released_known (Shared o readers) h = h

joined_known : (d : Bytes) (s : State) → table.joined_by d s ≡ Unknown → s ≡ Unknown
joined_known d Unknown h = refl
joined_known d (Active o) h = absurd (let no_way = h in cc)
joined_known d (Locked o by) h = h
joined_known d (Inactive by) h = h
joined_known d (Shared o readers) h = absurd (let no_way = h in cc)

vacated_known : (d : Bytes) (s : State) → table.vacated_by d s ≡ Unknown → s ≡ Unknown
vacated_known d Unknown h = refl
vacated_known d (Active o) h = h
vacated_known d (Locked o by) h = h
vacated_known d (Inactive by) h = h
vacated_known d (Shared o readers) h = absurd (shared_unknown o (without_reader d readers) h)

in_state : (r : Record) → r ≡ unknown_record → r.state ≡ Unknown
in_state r h = ap (λ (x : Record). x.state) h

in_book : (r : Record) → r ≡ unknown_record → r.book ≡ []
in_book r h = ap (λ (x : Record). x.book) h

pub changed_known : (change : Change) (r : Record) → changed_record change r ≡ unknown_record → r ≡ unknown_record
changed_known (Lock d) r h = record_is r (locked_known d r.state (in_state (changed_record (Lock d) r) h)) (in_book (changed_record (Lock d) r) h)
changed_known Release r h = record_is r (released_known r.state (in_state (changed_record Release r) h)) (in_book (changed_record Release r) h)
changed_known (UseUp d) r h = absurd (let no_way : Inactive d ≡ Unknown = in_state (changed_record (UseUp d) r) h in cc)
changed_known (Join d) r h = record_is r (joined_known d r.state (in_state (changed_record (Join d) r) h)) (in_book (changed_record (Join d) r) h)
changed_known (Leave d) r h = record_is r (vacated_known d r.state (in_state (changed_record (Leave d) r) h)) (in_book (changed_record (Leave d) r) h)

appeared_known : (o : Bytes) (s : State) → table.appeared o s ≡ Unknown → s ≡ Unknown
appeared_known o Unknown h = refl
appeared_known o (Active x) h = h
appeared_known o (Locked x by) h = h
appeared_known o (Inactive by) h = h
appeared_known o (Shared x readers) h = h

pub appears_known : (o : Bytes) (r : Record) → appeared_record o r ≡ unknown_record → r ≡ unknown_record
appears_known o r h = record_is r (appeared_known o r.state (in_state (appeared_record o r) h)) (in_book (appeared_record o r) h)

no_push : {X : Type 0} (xs : List X) (x : X) → xs ++ x ∷ [] ≡ [] → ⊥
no_push [] x h = let no_way = h in cc
no_push (y ∷ xs) x h = let no_way = h in cc

pub noted_known : (d : Bytes) (vote : Vote) (r : Record) → noted_record d vote r ≡ unknown_record → r ≡ unknown_record
noted_known d vote r h = absurd (no_push r.book (d, vote) (in_book (noted_record d vote r) h))

-- a vote more is another record
pub noted_other : (d : Bytes) (vote : Vote) (r : Record) → noted_record d vote r ≡ r → ⊥
noted_other d vote r h = longer r.book (d, vote) (ap (λ (x : Record). x.book) h)
  where
    longer : {X : Type 0} (xs : List X) (x : X) → xs ++ x ∷ [] ≡ xs → ⊥
    longer xs x e = let more = length-append xs (x ∷ []) in let even : length (xs ++ x ∷ []) ≡ length xs = ap length e in omega (arith, more, even)

-- ---- a key that is touched

has_is : (keys : List Key) (q : Key) → list_any (is_at (key_cmp q)) keys ≡ has_key_named keys (key_seen q)
has_is [] q = refl
has_is (k ∷ keys) q = rw (same_key q k) (ap (λ (b : Bool). is_under (key_seen q) k || b) (has_is keys q))

or_cond : (b x : Bool) → cond b true x ≡ (x || (true && b))
or_cond true true = refl
or_cond true false = refl
or_cond false true = refl
or_cond false false = refl

module _ (k : Key) (old new : List Key) (updates : (q : Key) → list_any (is_at (key_cmp q)) new ≡ cond (is_at (key_cmp k) q) true (list_any (is_at (key_cmp q)) old)) where
  touched_at : (q : Key) → has_key_named new (key_seen q) ≡ (has_key_named old (key_seen q) || (true && ledger.key_eq (key_seen q) (key_seen k)))
  touched_at q =
      sym (has_is new q) ∙ updates q
      ∙ ap (λ (test : Bool). cond test true (list_any (is_at (key_cmp q)) old)) (same_key k q ∙ key_sym (key_seen k) (key_seen q))
      ∙ ap (λ (b : Bool). cond (ledger.key_eq (key_seen q) (key_seen k)) true b) (has_is old q)
      ∙ or_cond (ledger.key_eq (key_seen q) (key_seen k)) (has_key_named old (key_seen q))

  pub touched_more : (name : ledger.Key) → has_key_named new name ≡ (has_key_named old name || (true && ledger.key_eq name (key_seen k)))
  touched_more (ledger.Object d) = touched_at (key.Object d)
  touched_more (ledger.Dummy s n) = touched_at (key.Dummy s n)

pub touched_none : (b c : Bool) → b ≡ (b || (false && c))
touched_none true c = refl
touched_none false c = refl
