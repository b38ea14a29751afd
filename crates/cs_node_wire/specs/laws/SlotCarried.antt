-- The carrier of an order among 3f+1 members does what an order may ask of it.
use Rattle.std.proofs.Common.{◌≡◌, ℕ, nat_le, nat_lt, Bool, true, false, ◌&&◌, if◌then◌else◌, List, [], ◌∷◌, length, map, Option, Some, None, ◌⊎◌, inl, inr, refl, sym, ap, ◌∙◌, subst, arith, le-leb, leb-true, lt-ltb, ltb-true}
use Rattle.std.specs.List.{list_all}
use Rattle.std.proofs.lemmas.Bool.{and_parts, and_from}
use Rattle.cs_base.specs.declared.limits.TheConstants.{MOST_ECHOED}
use Rattle.cs_base.proofs.Forms.{some_is}
use Rattle.cs_tx_types.specs.declared.entry.Entry.{Entry}
use Rattle.cs_wire_message.specs.declared.change.Change.{Change}
use Rattle.cs_wire_message.specs.declared.message.Message.{Message}
use Rattle.cs_wire_message.specs.declared.message.Message.TheVariants as message
use Rattle.cs_base.specs.declared.version.Version.{Version}
use Rattle.cs_wire_message.specs.Message.{PreparedFits, is_after_last, Rise, IsSlot, IsView, MessageFits}
use Rattle.cs_base.specs.Lists.{IsIn}
use Rattle.cs_order.specs.Limits.{last_slot, view_bound}
use Rattle.cs_order.specs.declared.proposed.Proposed.{Proposed}
use Rattle.cs_order.specs.Digests.{digest_fits}
use Rattle.cs_order.specs.laws.Digests.{digest-passes, digest-is}
use Rattle.cs_order_rules.specs.declared.message.Change.{Change as OrderChange}
use Rattle.cs_order_rules.specs.declared.message.OrderMessage.{OrderMessage}
use Rattle.cs_order_rules.specs.declared.message.OrderMessage.TheVariants as order
use Rattle.cs_order_rules.specs.Facts.{rises, is_below, pair_below, is_place, proper, carried}
use Rattle.cs_order_rules.specs.SlotMachine.{slot_machine}
use Rattle.cs_order_law.specs.laws.Lines.{is_before, before_trans}
use Rattle.cs_node_rules.specs.Collisions.{entries_in}
use Rattle.cs_node_rules.specs.Deployment.{proposed_of, entry_read}
use Rattle.cs_node_rules.specs.Carrying.{is_ordering, IsEntry, AllCarry}
use Rattle.cs_node_rules.proofs.Entries.{read-fits, read-again}
use Rattle.cs_node_wire.specs.SlotCarried.{blank, proposal_written, done_written, change_written, kind_written, slot_written, slot_read, slot_carrier}

-- ---- the limits of an order's messages are those of the messages of nodes

abbrev Line : Type 0
Line = List ℕ × ℕ

place-fits : (slot view : ℕ) → is_place slot view ≡ true → IsSlot slot × IsView view
place-fits slot view h =
    let p = and_parts (nat_le slot last_slot) (nat_lt view view_bound) h in
    (omega (arith, leb-true slot last_slot p.0), omega (arith, ltb-true view view_bound p.1))

fits-place : (slot view : ℕ) → IsSlot slot → IsView view → is_place slot view ≡ true
fits-place slot view low small =
    and_from (nat_le slot last_slot) (nat_lt view view_bound)
    (le-leb slot last_slot (omega (arith, low))) (lt-ltb view view_bound (omega (arith, small)))

pair-fits : (view : ℕ) (o : Option (ℕ × List ℕ)) → pair_below view o ≡ true → PreparedFits view o
pair-fits view None h = tt
pair-fits view (Some pair) h =
    let p = and_parts (nat_lt pair.0 view) (digest_fits pair.1) h in
    (ltb-true pair.0 view p.0, digest-is pair.1 p.1)

fits-pair : (view : ℕ) (o : Option (ℕ × List ℕ)) → PreparedFits view o → pair_below view o ≡ true
fits-pair view None h = refl
fits-pair view (Some pair) h =
    and_from (nat_lt pair.0 view) (digest_fits pair.1) (lt-ltb pair.0 view h.0) (digest-passes pair.1 h.1)

-- lines that rise

abbrev all_above : Option (List ℕ) → List Line → Bool
all_above last lines = list_all (λ (line : Line). is_after_last last line.0) lines

abbrev all_later : List ℕ → List Line → Bool
all_later digest lines = list_all (λ (line : Line). is_before digest line.0) lines

abbrev all_below : ℕ → List Line → Bool
all_below view lines = list_all (λ (line : Line). is_below view line.1 line.0) lines

above-none : (lines : List Line) → all_above None lines ≡ true
above-none [] = refl
above-none (line ∷ lines) = above-none lines

rise-from : (view : ℕ) (last : Option (List ℕ)) (lines : List Line) → all_above last lines ≡ true → rises lines ≡ true → all_below view lines ≡ true → Rise view last lines
rise-from view last [] above rising below = tt
rise-from view last (line ∷ lines) above rising below =
    let a = and_parts (is_after_last last line.0) (all_above last lines) above in
    let r = and_parts (all_later line.0 lines) (rises lines) rising in
    let b = and_parts (is_below view line.1 line.0) (all_below view lines) below in
    let here = and_parts (nat_lt line.1 view) (digest_fits line.0) b.0 in
    (((digest-is line.0 here.1, a.0), ltb-true line.1 view here.0), rise-from view (Some line.0) lines r.0 r.1 b.1)

later-by : (view : ℕ) (digest last : List ℕ) (lines : List Line) → is_before digest last ≡ true → Rise view (Some last) lines → all_later digest lines ≡ true
later-by view digest last [] before rise = refl
later-by view digest last (line ∷ lines) before rise =
    let now : is_before digest line.0 ≡ true = before_trans digest last line.0 before rise.0.0.1 in
    and_from (is_before digest line.0) (all_later digest lines) now (later-by view digest line.0 lines now rise.1)

later-from : (view : ℕ) (digest : List ℕ) (lines : List Line) → Rise view (Some digest) lines → all_later digest lines ≡ true
later-from view digest [] rise = refl
later-from view digest (line ∷ lines) rise =
    let now : is_before digest line.0 ≡ true = rise.0.0.1 in
    and_from (is_before digest line.0) (all_later digest lines) now (later-by view digest line.0 lines now rise.1)

rises-from : (view : ℕ) (last : Option (List ℕ)) (lines : List Line) → Rise view last lines → rises lines ≡ true
rises-from view last [] rise = refl
rises-from view last (line ∷ lines) rise =
    and_from (all_later line.0 lines) (rises lines) (later-from view line.0 lines rise.1)
    (rises-from view (Some line.0) lines rise.1)

below-from : (view : ℕ) (last : Option (List ℕ)) (lines : List Line) → Rise view last lines → all_below view lines ≡ true
below-from view last [] rise = refl
below-from view last (line ∷ lines) rise =
    and_from (is_below view line.1 line.0) (all_below view lines)
    (and_from (nat_lt line.1 view) (digest_fits line.0) (lt-ltb line.1 view rise.0.1) (digest-passes line.0 rise.0.0.0))
    (below-from view (Some line.0) lines rise.1)

-- a proper message is within the limits, where its entry is

step-fits : (version : Version) (slot view : ℕ) (digest : List ℕ) → (is_place slot view && digest_fits digest) ≡ true → MessageFits version (message.Echo slot view digest)
step-fits version slot view digest h =
    let p = and_parts (is_place slot view) (digest_fits digest) h in
    let place = place-fits slot view p.0 in
    (place.0, (place.1, digest-is digest p.1))

fits-step : (version : Version) (slot view : ℕ) (digest : List ℕ) → MessageFits version (message.Echo slot view digest) → (is_place slot view && digest_fits digest) ≡ true
fits-step version slot view digest h =
    and_from (is_place slot view) (digest_fits digest) (fits-place slot view h.0 h.1.0) (digest-passes digest h.1.1)

change-fits : (version : Version) (slot view : ℕ) (c : OrderChange) → proper (order.Change slot view c) ≡ true → MessageFits version (message.Change slot view (change_written c))
change-fits version slot view c h =
    let few = nat_le (length c.echoed) MOST_ECHOED in
    let p = and_parts (is_place slot view && (nat_lt 0 view && pair_below view c.prepared)) ((rises c.echoed && few) && all_below view c.echoed) h in
    let q = and_parts (is_place slot view) (nat_lt 0 view && pair_below view c.prepared) p.0 in
    let r = and_parts (nat_lt 0 view) (pair_below view c.prepared) q.1 in
    let s = and_parts (rises c.echoed && few) (all_below view c.echoed) p.1 in
    let t = and_parts (rises c.echoed) few s.0 in
    let place = place-fits slot view q.0 in (
      place.0,
      (
        place.1,
        (
          ltb-true 0 view r.0,
          record {
            prepared = pair-fits view c.prepared r.1;
            few = leb-true (length c.echoed) MOST_ECHOED t.1;
            rise = rise-from view None c.echoed (above-none c.echoed) t.0 s.1;
          },
        ),
      ),
    )

fits-change : (version : Version) (slot view : ℕ) (c : OrderChange) → MessageFits version (message.Change slot view (change_written c)) → proper (order.Change slot view c) ≡ true
fits-change version slot view c h =
    let fits = h.1.1.1 in
    and_from _ _
    (and_from _ _ (fits-place slot view h.0 h.1.0) (and_from _ _ (lt-ltb 0 view h.1.1.0) (fits-pair view c.prepared fits.prepared)))
    (and_from _ _ (and_from _ _ (rises-from view None c.echoed fits.rise) (le-leb (length c.echoed) MOST_ECHOED fits.few)) (below-from view None c.echoed fits.rise))

-- ---- entries

module _ (version : Version) where
  spelled : (p : Proposed) (is : IsEntry version p) → entry_read version p ≡ Some is.entry
  spelled p is = ap (entry_read version) is.is ∙ read-again version is.entry is.fits

  -- ---- what is written fits

  blank-fits : MessageFits version blank
  blank-fits = omega arith

  proposal-fits : (slot view : ℕ) (p : Proposed) (o : Option Entry) → is_place slot view ≡ true → entry_read version p ≡ o → MessageFits version (proposal_written slot view o)
  proposal-fits slot view p None place is = blank-fits
  proposal-fits slot view p (Some entry) place is =
      let fits = place-fits slot view place in
      (fits.0, (fits.1, read-fits version p entry is))

  done-fits : (slot : ℕ) (p : Proposed) (o : Option Entry) → is_place slot 0 ≡ true → entry_read version p ≡ o → MessageFits version (done_written slot o)
  done-fits slot p None place is = blank-fits
  done-fits slot p (Some entry) place is = ((place-fits slot 0 place).0, read-fits version p entry is)

  kind-fits : (m : OrderMessage) → proper m ≡ true → MessageFits version (kind_written version m)
  kind-fits (order.Propose slot view p) h = proposal-fits slot view p (entry_read version p) h refl
  kind-fits (order.Echo slot view digest) h = step-fits version slot view digest h
  kind-fits (order.Confirm slot view digest) h = step-fits version slot view digest h
  kind-fits (order.Change slot view c) h = change-fits version slot view c h
  kind-fits (order.Done slot p) h = done-fits slot p (entry_read version p) h refl

  fits-by : (m : OrderMessage) (b : Bool) → proper m ≡ b → MessageFits version (if b then kind_written version m else blank)
  fits-by m true h = kind-fits m h
  fits-by m false h = blank-fits

  -- ---- what is written was tested by the limits of messages

  fits-proposal : (slot view : ℕ) (o : Option Entry) → MessageFits version (proposal_written slot view o) → (is_place slot view ≡ true) ⊎ (proposal_written slot view o ≡ blank)
  fits-proposal slot view None fits = inr refl
  fits-proposal slot view (Some entry) fits = inl (fits-place slot view fits.0 fits.1.0)

  fits-done : (slot : ℕ) (o : Option Entry) → MessageFits version (done_written slot o) → (is_place slot 0 ≡ true) ⊎ (done_written slot o ≡ blank)
  fits-done slot None fits = inr refl
  fits-done slot (Some entry) fits = inl (fits-place slot 0 fits.0 (omega arith))

  fits-kind : (m : OrderMessage) → MessageFits version (kind_written version m) → (proper m ≡ true) ⊎ (kind_written version m ≡ blank)
  fits-kind (order.Propose slot view p) fits = fits-proposal slot view (entry_read version p) fits
  fits-kind (order.Echo slot view digest) fits = inl (fits-step version slot view digest fits)
  fits-kind (order.Confirm slot view digest) fits = inl (fits-step version slot view digest fits)
  fits-kind (order.Change slot view c) fits = inl (fits-change version slot view c fits)
  fits-kind (order.Done slot p) fits = fits-done slot (entry_read version p) fits

  -- what fits is written as it is
  pub fitting-is : (m : OrderMessage) → MessageFits version (kind_written version m) → kind_written version m ≡ slot_written version m
  fitting-is m fits = by_test (proper m) refl
    where
      by_test : (b : Bool) → proper m ≡ b → kind_written version m ≡ (if b then kind_written version m else blank)
      by_test true h = refl
      by_test false h = elim (fits-kind m fits) [ inl is ↦ absurd (let q : true ≡ false = sym is ∙ h in cc) | inr is ↦ is ]

  -- what doesn't is not written
  pub unfitting-is : (m : OrderMessage) → (MessageFits version (kind_written version m) → ⊥) → blank ≡ slot_written version m
  unfitting-is m fails = by_test (proper m) refl
    where
      by_test : (b : Bool) → proper m ≡ b → blank ≡ (if b then kind_written version m else blank)
      by_test true h = absurd (fails (kind-fits m h))
      by_test false h = refl

  -- ---- a proper message of entries is carried, and read as it was

  abbrev AreEntries : OrderMessage → Type 0
  AreEntries m = (p : Proposed) → IsIn p (carried m) → IsEntry version p

  written-is : (m : OrderMessage) → proper m ≡ true → slot_written version m ≡ kind_written version m
  written-is m h = ap (λ b. if b then kind_written version m else blank) h

  kind-ours : (m : OrderMessage) → AreEntries m → is_ordering (kind_written version m) ≡ true
  kind-ours (order.Propose slot view p) entries = ap (λ o. is_ordering (proposal_written slot view o)) (spelled p (entries p (inl refl)))
  kind-ours (order.Echo slot view digest) entries = refl
  kind-ours (order.Confirm slot view digest) entries = refl
  kind-ours (order.Change slot view c) entries = refl
  kind-ours (order.Done slot p) entries = ap (λ o. is_ordering (done_written slot o)) (spelled p (entries p (inl refl)))

  kind-back : (m : OrderMessage) → AreEntries m → slot_read version (kind_written version m) ≡ Some m
  kind-back (order.Propose slot view p) entries =
      let is = entries p (inl refl) in
      ap (λ o. slot_read version (proposal_written slot view o)) (spelled p is)
      ∙ ap (λ (q : Proposed). Some (order.Propose slot view q)) (sym is.is)
  kind-back (order.Echo slot view digest) entries = refl
  kind-back (order.Confirm slot view digest) entries = refl
  kind-back (order.Change slot view c) entries = refl
  kind-back (order.Done slot p) entries =
      let is = entries p (inl refl) in
      ap (λ o. slot_read version (done_written slot o)) (spelled p is)
      ∙ ap (λ (q : Proposed). Some (order.Done slot q)) (sym is.is)

  -- ---- what is read

  theirs : (said : Message) (m : OrderMessage) → slot_read version said ≡ Some m → is_ordering said ≡ true
  theirs (message.Propose slot view entry) m is = refl
  theirs (message.Echo slot view digest) m is = refl
  theirs (message.Confirm slot view digest) m is = refl
  theirs (message.Change slot view change) m is = refl
  theirs (message.Done slot entry) m is = refl
  theirs said m is = (let q : None ≡ Some m = is in cc)

  module _ (m : OrderMessage) where
    abbrev IsProper : OrderMessage → Type 0
    IsProper k = proper k ≡ true

    read-proper : (said : Message) → MessageFits version said → slot_read version said ≡ Some m → proper m ≡ true
    read-proper (message.Propose slot view entry) fits is = subst IsProper (some_is _ m is) (fits-place slot view fits.0 fits.1.0)
    read-proper (message.Echo slot view digest) fits is = subst IsProper (some_is _ m is) (fits-step version slot view digest fits)
    read-proper (message.Confirm slot view digest) fits is = subst IsProper (some_is _ m is) (fits-step version slot view digest fits)
    read-proper (message.Change slot view change) fits is = subst IsProper (some_is _ m is) (fits-change version slot view (record { prepared = change.prepared; echoed = change.echoed }) fits)
    read-proper (message.Done slot entry) fits is = subst IsProper (some_is _ m is) (fits-place slot 0 fits.0 (omega arith))
    read-proper said fits is = (let q : None ≡ Some m = is in cc)

    abbrev Holds : Message → OrderMessage → Type 0
    Holds said k = carried k ≡ map (proposed_of version) (entries_in said)

    read-entries : (said : Message) → slot_read version said ≡ Some m → carried m ≡ map (proposed_of version) (entries_in said)
    read-entries (message.Propose slot view entry) is = subst (Holds (message.Propose slot view entry)) (some_is _ m is) refl
    read-entries (message.Echo slot view digest) is = subst (Holds (message.Echo slot view digest)) (some_is _ m is) refl
    read-entries (message.Confirm slot view digest) is = subst (Holds (message.Confirm slot view digest)) (some_is _ m is) refl
    read-entries (message.Change slot view change) is = subst (Holds (message.Change slot view change)) (some_is _ m is) refl
    read-entries (message.Done slot entry) is = subst (Holds (message.Done slot entry)) (some_is _ m is) refl
    read-entries said is = (let q : None ≡ Some m = is in cc)

pub slot_carries : AllCarry slot_machine slot_carrier
slot_carries version = record {
  fits = λ m. fits-by version m (proper m) refl;
  ours = λ m is entries. ap is_ordering (written-is version m is) ∙ kind-ours version m entries;
  back = λ m is entries. ap (slot_read version) (written-is version m is) ∙ kind-back version m entries;
  theirs = theirs version;
  proper = λ said m fits is. read-proper version m said fits is;
  entries = λ said m is. read-entries version m said is;
}

-- what is of none of these kinds isn't read
pub other-read : (version : Version) (said : Message) → ((slot view : ℕ) (entry : Entry) → said ≡ message.Propose slot view entry → ⊥)
    → ((slot view : ℕ) (digest : List ℕ) → said ≡ message.Echo slot view digest → ⊥)
    → ((slot view : ℕ) (digest : List ℕ) → said ≡ message.Confirm slot view digest → ⊥)
    → ((slot view : ℕ) (change : Change) → said ≡ message.Change slot view change → ⊥)
    → ((slot : ℕ) (entry : Entry) → said ≡ message.Done slot entry → ⊥) → None ≡ slot_read version said
other-read version (message.Propose slot view entry) propose echo confirm change done = absurd (propose slot view entry refl)
other-read version (message.Echo slot view digest) propose echo confirm change done = absurd (echo slot view digest refl)
other-read version (message.Confirm slot view digest) propose echo confirm change done = absurd (confirm slot view digest refl)
other-read version (message.Change slot view claim) propose echo confirm change done = absurd (change slot view claim refl)
other-read version (message.Done slot entry) propose echo confirm change done = absurd (done slot entry refl)
other-read version said propose echo confirm change done = refl
