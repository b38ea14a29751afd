-- What a reading finds, by what its parts answer.
use Rattle.std.proofs.Common.{◌≡◌, ◌≢◌, inl, inr, ℕ, ◌+◌, List, [], ◌∷◌, ◌++◌, length, drop, get_or, Option, Some, option_map, Err, sym, ◌∙◌, ap, subst, arith}
use Rattle.cs_io.specs.declared.link.MemInput.{MemInput}
use Rattle.cs_disk.specs.Disk.{Torn, Only, over}
use Rattle.cs_disk.specs.Moments.{LeavesOnly}
use Rattle.std.proofs.lemmas.Bool.{cases_eq}
use Rattle.cs_disk.proofs.Runs.{widened, no_call}
use Rattle.cs_journal.specs.Records.{record_bytes}
use Rattle.cs_journal.specs.Journal.{head, kept_bytes, Keeps, IsJournal, Survives}
use Rattle.cs_journal.specs.Moments.{TearsFrom}
use Rattle.cs_journal.specs.Keeping.{EndsAt, IsKept, IsRead, ShowsGate, Finds, GateAt, HeaderAt}
use Rattle.cs_journal.specs.declared.recovery.Recovery.{Recovery}
use Rattle.cs_journal.specs.declared.error.JournalError.{JournalError}
use Rattle.cs_journal.specs.declared.error.JournalError.TheVariants.{BadJournal, DiskFault, Full, Memory}
use Rattle.cs_journal.proofs.Places.{torn_gate, written_gate}
use Rattle.cs_journal.proofs.Readings.{keeps_more, one_end}
use Rattle.cs_journal.proofs.Gates.{nothing_left, too_little}

module _ (id : List ℕ) (inputs : List MemInput) (recovery : Recovery) (file buf : List ℕ) (read : IsRead id inputs recovery file) where
  -- there is no gate, or it couldn't be read
  pub gate_fails : (after : Recovery) (e : JournalError) → GateAt recovery.at file (Err e) → Finds id inputs after file buf (Err e)
  gate_fails after BadJournal short = nothing_left id inputs recovery file read short
  gate_fails after DiskFault failed = tt
  gate_fails after Full none = absurd none
  gate_fails after Memory none = absurd none

  -- behind the open gate there is too little, or it couldn't be read
  pub header_fails : (after : Recovery) (e : JournalError) → drop recovery.at file ≡ 1 ∷ drop (recovery.at + 1) file → HeaderAt recovery.at file (Err e) → Finds id inputs after file buf (Err e)
  header_fails after BadJournal opened short = too_little id inputs recovery file read opened short
  header_fails after DiskFault opened failed = tt
  header_fails after Full opened none = absurd none
  header_fails after Memory opened none = absurd none

  -- the gate isn't open
  pub gate_shows : (after : Recovery) (gate : ℕ) → after ≡ recovery → gate ≢ 1 → drop recovery.at file ≡ gate ∷ drop (recovery.at + 1) file → ShowsGate id inputs after gate file
  gate_shows after gate same closed here = subst (λ r. ShowsGate id inputs r gate file) (sym same) (record { read = read; rest = drop (recovery.at + 1) file; here = here; closed = closed })

-- ---- the end of a reading

module _ (id : List ℕ) (inputs : List MemInput) (recovery : Recovery) (gate : ℕ) (file : List ℕ) (shows : ShowsGate id inputs recovery gate file) where
  abbrev front : List ℕ
  front = head id ++ kept_bytes inputs

  -- the gate stands behind the inputs
  pub gated : Keeps id inputs (gate ∷ shows.rest) file
  gated = subst (λ l. Keeps id inputs l file) shows.here shows.read.keeps

  pub ends_closed : gate ≡ 0 → EndsAt id inputs recovery.at file
  ends_closed is = record { rest = shows.rest; keeps = subst (λ g. Keeps id inputs (g ∷ shows.rest) file) is gated; place = shows.read.place }

  -- once it is closed for good
  pub ends_written : EndsAt id inputs recovery.at (over file recovery.at (0 ∷ []))
  ends_written = record {
    rest = shows.rest;
    keeps = record {
      parts = ap (λ f. over f recovery.at (0 ∷ [])) gated.parts ∙ written_gate front recovery.at (sym shows.read.place) gate 0 shows.rest;
      fit = gated.fit;
    };
    place = shows.read.place;
  }

  pub as_journal : IsJournal id inputs file
  as_journal = record { gate = gate; rest = shows.rest; keeps = gated; closed = shows.closed }

-- A file that survives a crash is read up to a gate that is 0, or is in doubt there.
pub mended : (id : List ℕ) (inputs read : List MemInput) (next : MemInput) (recovery : Recovery) (gate : ℕ) (file : List ℕ) → ShowsGate id read recovery gate file → Survives id inputs next file → gate ≢ 0
    → (c : List ℕ) → Torn recovery.at 1 file c → Survives id inputs next c
mended id inputs read next recovery gate file shows (inl rest) marked c torn =
    let j : IsJournal id inputs file = record { gate = 0; rest = rest.rest; keeps = rest.keeps; closed = omega arith } in
    let one = one_end id read inputs gate shows.rest file shows.closed (gated id read recovery gate file shows) j in
    absurd (marked one.1)
mended id inputs read next recovery gate file shows (inr doubt) marked c torn = elim (cases_eq doubt.gate 1) [
  | inl opened ↦
      let keeps = subst (λ (g : ℕ). Keeps id inputs (g ∷ record_bytes next ++ 0 ∷ doubt.rest) file) opened doubt.keeps in
      let more = keeps_more id inputs next (0 ∷ doubt.rest) file doubt.fits keeps in
      let j : IsJournal id (inputs ++ next ∷ []) file = record { gate = 0; rest = doubt.rest; keeps = more; closed = omega arith } in
      let one = one_end id read (inputs ++ next ∷ []) gate shows.rest file shows.closed (gated id read recovery gate file shows) j in
      absurd (marked one.1)
  | inr closed ↦
      let j : IsJournal id inputs file = record { gate = doubt.gate; rest = record_bytes next ++ 0 ∷ doubt.rest; keeps = doubt.keeps; closed = closed } in
      let one = one_end id read inputs gate shows.rest file shows.closed (gated id read recovery gate file shows) j in
      let place : recovery.at ≡ length (head id ++ kept_bytes inputs) = shows.read.place ∙ ap (λ l. length (head id ++ kept_bytes l)) (sym one.0) in
      inr (record {
        gate = get_or c recovery.at 0;
        rest = doubt.rest;
        keeps = record {
          parts = torn_gate (head id ++ kept_bytes inputs) recovery.at (sym place) doubt.gate (record_bytes next ++ 0 ∷ doubt.rest) c (subst (λ f. Torn recovery.at 1 f c) doubt.keeps.parts torn);
          fit = doubt.keeps.fit;
        };
        fits = doubt.fits;
      })
]

-- ---- finishing, on a disk

module _ {D : Type 0} (content : D → Option (List ℕ)) (may_leave : D → List ℕ → Type 0) (moment : D → ℕ) (left_since : D → ℕ → List ℕ → Type 0)
    (id : List ℕ) (inputs : List MemInput) (recovery : Recovery) (gate : ℕ) (file : List ℕ) (old : D) (told : content old ≡ Some file) (only : Only file (may_leave old)) (shows : ShowsGate id inputs recovery gate file) where
  pub finished_closed : gate ≡ 0 → IsKept content may_leave id inputs (record { end = recovery.at }) old
  finished_closed is = record { file = file; told = told; ends = ends_closed id inputs recovery gate file shows is; durable = only }

  pub finished_written : (new : D) → content new ≡ option_map (λ f. over f recovery.at (0 ∷ [])) (content old) → ((f : List ℕ) → content new ≡ Some f → Only f (may_leave new)) → IsKept content may_leave id inputs (record { end = recovery.at }) new
  finished_written new written durable =
      let now : content new ≡ Some (over file recovery.at (0 ∷ [])) = written ∙ ap (option_map (λ f. over f recovery.at (0 ∷ []))) told in
      record { file = over file recovery.at (0 ∷ []); told = now; ends = ends_written id inputs recovery gate file shows; durable = durable (over file recovery.at (0 ∷ [])) now }

  pub crash_closed : (kept : List MemInput) (next : MemInput) → Survives id kept next file → ((c : List ℕ) → left_since old (moment old) c → may_leave old c) → LeavesOnly moment left_since old old (Survives id kept next)
  crash_closed kept next survives only_now = no_call moment left_since old (Survives id kept next) (may_leave old) only_now (λ c left. subst (Survives id kept next) (sym (only c left)) survives)

  pub crash_written : (kept : List MemInput) (next : MemInput) (new : D) → Survives id kept next file → gate ≢ 0 → LeavesOnly moment left_since old new (TearsFrom recovery.at 1 (may_leave old)) → LeavesOnly moment left_since old new (Survives id kept next)
  crash_written kept next new survives marked so = widened moment left_since old new (TearsFrom recovery.at 1 (may_leave old)) (Survives id kept next) so
      (λ c torn. mended id kept inputs next recovery gate file shows survives marked c (subst (λ f. Torn recovery.at 1 f c) (only torn.0 torn.1) torn.2))
