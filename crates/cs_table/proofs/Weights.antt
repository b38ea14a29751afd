-- With each step of one call a record stays, or weighs more: so none comes back to what it was before the call.
use Rattle.std.proofs.Common.{◌≡◌, ℕ, ◌+◌, ◌≤◌, ◌<◌, Bool, true, false, not, ◌||◌, if◌then◌else◌, List, [], ◌∷◌, ◌++◌, length, length-append, ◌⊎◌, inl, inr, bytes_eq, refl, sym, ap, ◌∙◌, subst, arith}
use Rattle.std.proofs.lemmas.Bool.{cases_Bool}
use Rattle.cs_base.specs.Lists.{is_empty}
use Rattle.cs_ledger.specs.Ledger.{Bytes, has}
use Rattle.cs_ledger.specs.Session.{Key, Piece, key_eq, has_key}
use Rattle.cs_ledger.specs.Table.{Record, Table, State, Unknown, Active, Locked, Inactive, Shared, Vote, has_seat, locked, released, joined_by, vacated_by, read_by, with_reader, without_reader, appeared}
use Rattle.cs_ledger.proofs.Basics.{same_bytes, bytes_refl}
use Rattle.cs_table.specs.declared.change.Change.{Change}
use Rattle.cs_table.specs.declared.change.Change.TheVariants.{Lock, Release, UseUp, Join, Leave}
use Rattle.cs_table.specs.Changes.{with_state, changed, changed_record, appeared_record, noted_record, changed_each, changed_but, appeared_each}
use Rattle.cs_table.proofs.ReaderLists.{with_same, with_more, without_none, without_has}

abbrev pub Gains : (Record → ℕ) → Record → Record → Type 0
Gains weight r s = (s ≡ r) ⊎ (weight r < weight s)

pub record AllGain (weight : Record → ℕ) (t u : Table) : Type 0 where
  pub each : (name : Key) → Gains weight (t.at name) (u.at name)

module _ (weight : Record → ℕ) where
  gains_after : (r s u : Record) → Gains weight r s → Gains weight s u → Gains weight r u
  gains_after r s u (inl same) second = subst (λ z. Gains weight z u) same second
  gains_after r s u (inr more) (inl same) = inr (subst (λ z. weight r < weight z) (sym same) more)
  gains_after r s u (inr more) (inr further) = inr (omega (arith, more, further))

  pub never_back : (r s u : Record) → Gains weight r s → Gains weight s u → (s ≡ r → ⊥) → u ≡ r → ⊥
  never_back r s u (inl same) second differs back = differs same
  never_back r s u (inr more) (inl same) differs back = differs (sym same ∙ back)
  never_back r s u (inr more) (inr further) differs back =
      let even : weight u ≡ weight r = ap weight back in
      omega (arith, more, further, even)

  pub all_stay : (t : Table) → AllGain weight t t
  all_stay t = record { each = λ name. inl refl }

  pub all_after : (t u v : Table) → AllGain weight t u → AllGain weight u v → AllGain weight t v
  all_after t u v one two = record { each = λ name. gains_after (t.at name) (u.at name) (v.at name) (one.each name) (two.each name) }

  pub if_gains : (b : Bool) (r s : Record) → Gains weight r s → Gains weight r (if b then s else r)
  if_gains true r s gains = gains
  if_gains false r s gains = inl refl

  module _ (step : Record → Record) (gains : (r : Record) → Gains weight r (step r)) where
    pub one_gains : (key : Key) (t : Table) → AllGain weight t (changed step key t)
    one_gains key t = record { each = λ name. if_gains (key_eq name key) (t.at name) (step (t.at name)) (gains (t.at name)) }

    pub each_gains : (ps : List Piece) (t : Table) → AllGain weight t (changed_each step ps t)
    each_gains [] t = all_stay t
    each_gains (p ∷ ps) t =
        all_after t (changed step p.key t) (changed_each step ps (changed step p.key t)) (one_gains p.key t) (each_gains ps (changed step p.key t))

    module _ (used : List Piece) where
      by_used : (b : Bool) (t u v : Table) → AllGain weight t u → AllGain weight t v → AllGain weight t (if b then u else v)
      by_used true t u v passed changes = passed
      by_used false t u v passed changes = changes

      pub but_gains : (ps : List Piece) (t : Table) → AllGain weight t (changed_but used step ps t)
      but_gains [] t = all_stay t
      but_gains (p ∷ ps) t =
          let more : Table = changed step p.key t in
          by_used (has_key p.key used) t (changed_but used step ps t) (changed_but used step ps more)
          (but_gains ps t)
          (all_after t more (changed_but used step ps more) (one_gains p.key t) (but_gains ps more))

  module _ (gains : (object : Bytes) (r : Record) → Gains weight r (appeared_record object r)) (read : List Piece) where
    by_hidden : (b : Bool) (t u v : Table) → AllGain weight t u → AllGain weight t v → AllGain weight t (if b then u else v)
    by_hidden true t u v hidden shown = hidden
    by_hidden false t u v hidden shown = shown

    pub made_gain : (ps : List Piece) (t : Table) → AllGain weight t (appeared_each read ps t)
    made_gain [] t = all_stay t
    made_gain (p ∷ ps) t =
        let more : Table = changed (appeared_record p.object) p.key t in
        by_hidden (has_key p.key read) t (appeared_each read ps t) (appeared_each read ps more)
        (made_gain ps t)
        (all_after t more (appeared_each read ps more) (one_gains (appeared_record p.object) (gains p.object) p.key t) (made_gain ps more))

-- ---- weights

-- while a session is voted on, keys are locked, it joins readers, and a vote is noted
abbrev voting_stage : State → ℕ
voting_stage (Locked object by) = 1
voting_stage (Shared object readers) = 1 + length readers
voting_stage state = 0

-- while it is carried out, what is locked is free again, it leaves the readers, what is free is used up, and what nothing
-- is known of comes into being
abbrev deciding_stage : Bytes → State → ℕ
deciding_stage d Unknown = 0
deciding_stage d (Locked object by) = 0
deciding_stage d (Active object) = 1
deciding_stage d (Shared object readers) = if is_empty readers || has d readers then 0 else 1
deciding_stage d (Inactive by) = if bytes_eq d by then 2 else 1

abbrev staged : (State → ℕ) → Record → ℕ
staged stage r = length r.book + stage r.state

abbrev pub voting : Record → ℕ
voting = staged voting_stage

abbrev pub deciding : Bytes → Record → ℕ
deciding d = staged (deciding_stage d)

-- that of a loop that makes one change
abbrev pub weight_of : Change → Record → ℕ
weight_of (Lock d) = voting
weight_of Release = deciding []
weight_of (UseUp d) = deciding d
weight_of (Join d) = voting
weight_of (Leave d) = deciding d

abbrev Climbs : (State → ℕ) → State → State → Type 0
Climbs stage s t = (t ≡ s) ⊎ (stage s < stage t)

state_gains : (stage : State → ℕ) (r : Record) (s : State) → Climbs stage r.state s → Gains (staged stage) r (with_state s r)
state_gains stage r s (inl same) = inl (λ i. record { state = same i; book = r.book })
state_gains stage r s (inr more) = inr (omega (arith, more))

locks_climb : (d : Bytes) (s : State) → Climbs voting_stage s (locked d s)
locks_climb d Unknown = inl refl
locks_climb d (Active object) = inr (omega arith)
locks_climb d (Locked object by) = inl refl
locks_climb d (Inactive by) = inl refl
locks_climb d (Shared object readers) = inl refl

joins_climb : (d : Bytes) (s : State) → Climbs voting_stage s (joined_by d s)
joins_climb d Unknown = inl refl
joins_climb d (Active object) = inr (omega arith)
joins_climb d (Locked object by) = inl refl
joins_climb d (Inactive by) = inl refl
joins_climb d (Shared object readers) = elim (cases_Bool (has d readers || not (has_seat readers))) [
  | inl same ↦ inl (ap (λ (rs : List Bytes). Shared object rs) (with_same d readers same))
  | inr more ↦
      let longer : length (with_reader d readers) ≡ length (readers ++ d ∷ []) = ap (λ (rs : List Bytes). length rs) (with_more d readers more) in
      inr (omega (arith, longer, length-append readers (d ∷ [])))
]

releases_climb : (d : Bytes) (s : State) → Climbs (deciding_stage d) s (released s)
releases_climb d Unknown = inl refl
releases_climb d (Active object) = inl refl
releases_climb d (Locked object by) = inr (omega arith)
releases_climb d (Inactive by) = inl refl
releases_climb d (Shared object readers) = inl refl

abbrev unless_read : Bool → ℕ
unless_read reads = if reads then 0 else 1

if_zero : (b : Bool) → b ≡ true → unless_read b ≡ 0
if_zero b h = ap unless_read h

if_one : (b : Bool) → b ≡ false → unless_read b ≡ 1
if_one b h = ap unless_read h

if_low : (b : Bool) → unless_read b ≤ 1
if_low true = omega arith
if_low false = omega arith

-- who doesn't read it any more
left_stage : (d object : Bytes) (readers : List Bytes) → has d readers ≡ false → deciding_stage d (read_by object readers) ≡ 1
left_stage d object [] none = refl
left_stage d object (reader ∷ readers) none = if_one (has d (reader ∷ readers)) none

leaves_climb : (d : Bytes) (s : State) → Climbs (deciding_stage d) s (vacated_by d s)
leaves_climb d Unknown = inl refl
leaves_climb d (Active object) = inl refl
leaves_climb d (Locked object by) = inl refl
leaves_climb d (Inactive by) = inl refl
leaves_climb d (Shared object readers) = elim (cases_Bool (is_empty readers || has d readers)) [
  | inl reads ↦
      inr (omega (arith, if_zero (is_empty readers || has d readers) reads, left_stage d object (without_reader d readers) (without_has d readers)))
  | inr other ↦ inl (others readers other)
]
  where
    others : (rs : List Bytes) → (is_empty rs || has d rs) ≡ false → read_by object (without_reader d rs) ≡ Shared object rs
    others [] h = cc
    others (reader ∷ rs) h = ap (read_by object) (without_none d (reader ∷ rs) h)

appears_climb : (d object : Bytes) (s : State) → Climbs (deciding_stage d) s (appeared object s)
appears_climb d object Unknown = inr (omega arith)
appears_climb d object (Active held) = inl refl
appears_climb d object (Locked held by) = inl refl
appears_climb d object (Inactive by) = inl refl
appears_climb d object (Shared held readers) = inl refl

used_stage : (d : Bytes) → deciding_stage d (Inactive d) ≡ 2
used_stage d = ap (λ (b : Bool). if b then 2 else 1) (bytes_refl d)

other_stage : (d by : Bytes) → bytes_eq d by ≡ false → deciding_stage d (Inactive by) ≡ 1
other_stage d by e = ap (λ (b : Bool). if b then 2 else 1) e

uses_climb : (d : Bytes) (s : State) → Climbs (deciding_stage d) s (Inactive d)
uses_climb d Unknown = inr (omega (arith, used_stage d))
uses_climb d (Active object) = inr (omega (arith, used_stage d))
uses_climb d (Locked object by) = inr (omega (arith, used_stage d))
uses_climb d (Shared object readers) = inr (omega (arith, used_stage d, if_low (is_empty readers || has d readers)))
uses_climb d (Inactive by) = elim (cases_Bool (bytes_eq d by)) [
  | inl same ↦ inl (ap (λ (x : Bytes). Inactive x) (same_bytes d by same))
  | inr other ↦ inr (omega (arith, used_stage d, other_stage d by other))
]

-- ---- the steps of a call

pub locks_gain : (d : Bytes) (r : Record) → Gains voting r (changed_record (Lock d) r)
locks_gain d r = state_gains voting_stage r (locked d r.state) (locks_climb d r.state)

pub joins_gain : (d : Bytes) (r : Record) → Gains voting r (changed_record (Join d) r)
joins_gain d r = state_gains voting_stage r (joined_by d r.state) (joins_climb d r.state)

pub leaves_gain : (d : Bytes) (r : Record) → Gains (deciding d) r (changed_record (Leave d) r)
leaves_gain d r = state_gains (deciding_stage d) r (vacated_by d r.state) (leaves_climb d r.state)

pub releases_gain : (d : Bytes) (r : Record) → Gains (deciding d) r (changed_record Release r)
releases_gain d r = state_gains (deciding_stage d) r (released r.state) (releases_climb d r.state)

pub uses_gain : (d : Bytes) (r : Record) → Gains (deciding d) r (changed_record (UseUp d) r)
uses_gain d r = state_gains (deciding_stage d) r (Inactive d) (uses_climb d r.state)

pub appears_gain : (d object : Bytes) (r : Record) → Gains (deciding d) r (appeared_record object r)
appears_gain d object r = state_gains (deciding_stage d) r (appeared object r.state) (appears_climb d object r.state)

pub notes_gain : (d session : Bytes) (vote : Vote) (r : Record) → Gains (deciding d) r (noted_record session vote r)
notes_gain d session vote r = inr (omega (arith, length-append r.book ((session, vote) ∷ [])))

pub change_gains : (change : Change) (r : Record) → Gains (weight_of change) r (changed_record change r)
change_gains (Lock d) r = locks_gain d r
change_gains Release r = releases_gain [] r
change_gains (UseUp d) r = uses_gain d r
change_gains (Join d) r = joins_gain d r
change_gains (Leave d) r = leaves_gain d r
