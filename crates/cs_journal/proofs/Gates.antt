-- What is found at a gate.
use Rattle.std.proofs.Common.{◌≡◌, ◌≢◌, ⊎_elim, ℕ, ◌+◌, ◌<◌, ◌≤◌, ◌^◌, List, [], ◌∷◌, ◌++◌, length, take, drop, Result, Ok, Err, refl, sym, ◌∙◌, ap, subst, arith, append_assoc, length-append, length-drop, take-append-drop}
use Rattle.std.specs.Int.{w32, to_be_bytes}
use Rattle.std.specs.List.{AllByRecursion}
use Rattle.std.proofs.lemmas.List.{append-nil, take_at, length-take-le}
use Rattle.cs_base.specs.declared.limits.TheConstants.{MOST_DATAGRAM}
use Rattle.cs_io.specs.declared.link.MemInput.{MemInput}
use Rattle.cs_io.specs.declared.link.MemInput.TheVariants.{Datagram, Tick}
use Rattle.cs_journal.specs.Records.{record_bytes, InputFits}
use Rattle.cs_journal.specs.Journal.{head, kept_bytes, Keeps, IsJournal}
use Rattle.cs_journal.specs.Keeping.{IsRead, IsNone, Finds, TickAt, DatagramAt}
use Rattle.cs_journal.specs.declared.recovery.Recovery.{Recovery}
use Rattle.cs_journal.specs.declared.found.Found.{Found}
use Rattle.cs_journal.specs.declared.found.Found.TheVariants as found
use Rattle.cs_journal.specs.declared.error.JournalError.{JournalError}
use Rattle.cs_journal.specs.declared.error.JournalError.TheVariants.{BadJournal, DiskFault, Full, Memory}
use Rattle.cs_journal.proofs.Readings.{fronts_same, keeps_more, place_more, journal_goes_on, one_length}

-- ---- the head

head_length : (id : List ℕ) → length id ≡ 32 → length (head id) ≡ 36
head_length id size = omega (arith, size)

-- a file of fewer bytes is no journal
pub too_short : (id file : List ℕ) → length id ≡ 32 → length file < 37 → IsNone id file
too_short id file size short = λ inputs j.
    omega (arith, short, size, ap length j.keeps.parts, length-append (head id ++ kept_bytes inputs) (j.gate ∷ j.rest), length-append (head id) (kept_bytes inputs), head_length id size)

-- nor is one with another head
pub other_head : (id file front : List ℕ) → length id ≡ 32 → front ≡ take 36 (drop 0 file) → front ≢ head id → IsNone id file
other_head id file front size read differs = λ inputs j.
    differs (read ∙ ap (take 36) (j.keeps.parts ∙ append_assoc (head id) (kept_bytes inputs) (j.gate ∷ j.rest))
    ∙ take_at (head id) (kept_bytes inputs ++ j.gate ∷ j.rest) 36 (head_length id size))

-- this head was read
pub head_read : (id file front : List ℕ) (recovery : Recovery) → length id ≡ 32 → front ≡ take 36 (drop 0 file) → front ≡ head id → recovery.at ≡ 36 → recovery.length ≡ length file → IsRead id [] recovery file
head_read id file front recovery size read is at whole = record {
  keeps = record {
    parts =
        sym (take-append-drop 36 file)
        ∙ ap (λ l. l ++ drop 36 file) (sym read ∙ is ∙ sym (append-nil (head id)))
        ∙ ap (λ n. head id ++ [] ++ drop n file) (sym at);
    fit = tt;
  };
  place = at ∙ sym (ap length (append-nil (head id)) ∙ head_length id size);
  whole = whole;
}

-- ---- one record

module _ (id : List ℕ) (inputs : List MemInput) (recovery : Recovery) (file : List ℕ) (read : IsRead id inputs recovery file) where
  abbrev at : ℕ
  at = recovery.at

  -- behind the gate there is one input more
  one_more : (next : MemInput) (after : Recovery) → InputFits next → drop at file ≡ 1 ∷ record_bytes next ++ drop after.at file → after.at ≡ at + 1 + length (record_bytes next) → after.length ≡ recovery.length → IsRead id (inputs ++ next ∷ []) after file
  one_more next after fits here place same = record {
    keeps = keeps_more id inputs next (drop after.at file) file fits (subst (λ l. Keeps id inputs l file) here read.keeps);
    place = place ∙ place_more id inputs next at read.place;
    whole = same ∙ read.whole;
  }

  -- no inputs make a journal of a file that ends here
  pub nothing_left : length file ≤ at → IsNone id file
  nothing_left short = λ all j.
      let on = journal_goes_on id inputs all (drop at file) file read.keeps j in
      omega (arith, short, length-drop at file, ap length on.2, length-append (kept_bytes on.0) (j.gate ∷ j.rest))

  module _ (opened : drop at file ≡ 1 ∷ drop (at + 1) file) where
    -- nor of one whose open gate has too little behind it
    pub too_little : length file < at + 6 → IsNone id file
    too_little short = λ all j.
        let on = journal_goes_on id inputs all (drop at file) file read.keeps j in
        short_of on.0 j (sym opened ∙ on.2)
      where
        short_of : (others : List MemInput) → {all : List MemInput} (j : IsJournal id all file) → 1 ∷ drop (at + 1) file ≡ kept_bytes others ++ j.gate ∷ j.rest → ⊥
        short_of [] j is = j.closed (let first : 1 ≡ j.gate = cc in sym first)
        short_of (Tick ∷ others) j is = omega (arith, short, length-drop (at + 1) file, ap length is, length-append (kept_bytes (Tick ∷ others)) (j.gate ∷ j.rest), length-append (record_bytes Tick) (kept_bytes others))
        short_of (Datagram bytes ∷ others) j is =
            omega (arith, short, length-drop (at + 1) file, ap length is, length-append (kept_bytes (Datagram bytes ∷ others)) (j.gate ∷ j.rest), length-append (record_bytes (Datagram bytes)) (kept_bytes others), length-append (to_be_bytes w32 (length bytes)) bytes)

    -- or kind and length that no input has
    module _ (kind count : ℕ) (few : count < 2 ^ 32) (header : drop (at + 1) file ≡ kind ∷ to_be_bytes w32 count ++ drop (at + 6) file) where
      whole_header : drop at file ≡ 1 ∷ (kind ∷ to_be_bytes w32 count ++ drop (at + 6) file)
      whole_header = opened ∙ ap (λ l. 1 ∷ l) header

      none_by : (Tick-not : kind ≡ 0 → count ≡ 0 → ⊥) → (Datagram-not : kind ≡ 1 → count ≤ MOST_DATAGRAM + 1 → at + 6 + count ≤ length file → ⊥) → IsNone id file
      none_by tick_not datagram_not = λ all j.
          let on = journal_goes_on id inputs all (drop at file) file read.keeps j in
          by on.0 j on.3 (sym whole_header ∙ on.2)
        where
          by : (others : List MemInput) → {all : List MemInput} (j : IsJournal id all file) → AllByRecursion InputFits others → 1 ∷ (kind ∷ to_be_bytes w32 count ++ drop (at + 6) file) ≡ kept_bytes others ++ j.gate ∷ j.rest → ⊥
          by [] j fits is = j.closed (let first : 1 ≡ j.gate = cc in sym first)
          by (Tick ∷ others) j fits is =
              let is_kind : kind ≡ 0 = cc in
              let tails : to_be_bytes w32 count ++ drop (at + 6) file ≡ to_be_bytes w32 0 ++ kept_bytes others ++ j.gate ∷ j.rest = cc in
              let same = (fronts_same (to_be_bytes w32 count) (to_be_bytes w32 0) (drop (at + 6) file) (kept_bytes others ++ j.gate ∷ j.rest) refl (tails ∙ append_assoc (to_be_bytes w32 0) (kept_bytes others) (j.gate ∷ j.rest))).0 in
              tick_not is_kind (one_length count 0 few (omega arith) same)
          by (Datagram bytes ∷ others) j fits is =
              let is_kind : kind ≡ 1 = cc in
              let tails : to_be_bytes w32 count ++ drop (at + 6) file ≡ to_be_bytes w32 (length bytes) ++ bytes ++ kept_bytes others ++ j.gate ∷ j.rest = cc in
              let regrouped = tails ∙ append_assoc (to_be_bytes w32 (length bytes) ++ bytes) (kept_bytes others) (j.gate ∷ j.rest) ∙ append_assoc (to_be_bytes w32 (length bytes)) bytes (kept_bytes others ++ j.gate ∷ j.rest) in
              let both = fronts_same (to_be_bytes w32 count) (to_be_bytes w32 (length bytes)) (drop (at + 6) file) (bytes ++ (kept_bytes others ++ j.gate ∷ j.rest)) refl regrouped in
              let small : length bytes < 2 ^ 32 = omega (arith, fits.0) in
              let counted = one_length count (length bytes) few small both.0 in
              datagram_not is_kind (omega (arith, counted, fits.0))
              (omega (arith, counted, length-drop (at + 6) file, ap length both.1, length-append bytes (kept_bytes others ++ j.gate ∷ j.rest), length-append (kept_bytes others) (j.gate ∷ j.rest)))

      pub another_kind : kind ≢ 0 → kind ≢ 1 → IsNone id file
      another_kind not_tick not_datagram = none_by (λ is count_is. not_tick is) (λ is fits within. not_datagram is)

      pub tick_finds : (after : Recovery) (buf : List ℕ) (r : Result Found JournalError) → kind ≡ 0 → after.length ≡ recovery.length → TickAt at count after r → Finds id inputs after file buf r
      tick_finds after buf (Ok found.Tick) is same shown =
          one_more Tick after tt (tick_here shown.0 shown.1) (omega (arith, shown.1)) same
        where
          tick_here : count ≡ 0 → after.at ≡ at + 6 → drop at file ≡ 1 ∷ record_bytes Tick ++ drop after.at file
          tick_here none place =
              whole_header
              ∙ ap (λ k. 1 ∷ (k ∷ to_be_bytes w32 count ++ drop (at + 6) file)) is
              ∙ ap (λ n. 1 ∷ (0 ∷ to_be_bytes w32 n ++ drop (at + 6) file)) none
              ∙ ap (λ n. 1 ∷ (0 ∷ to_be_bytes w32 0 ++ drop n file)) (sym place)
      tick_finds after buf (Ok (found.Datagram n)) is same shown = absurd shown
      tick_finds after buf (Ok (found.Gate gate)) is same shown = absurd shown
      tick_finds after buf (Err BadJournal) is same some = none_by (λ kind_is none. some none) (λ datagram fits within. omega (arith, is, datagram))
      tick_finds after buf (Err DiskFault) is same shown = absurd shown
      tick_finds after buf (Err Full) is same shown = absurd shown
      tick_finds after buf (Err Memory) is same shown = absurd shown

      pub datagram_finds : (after : Recovery) (buf : List ℕ) (r : Result Found JournalError) → kind ≡ 1 → after.length ≡ recovery.length → DatagramAt at count file after buf r → Finds id inputs after file buf r
      datagram_finds after buf (Ok found.Tick) is same shown = absurd shown
      datagram_finds after buf (Ok (found.Datagram n)) is same shown = (
        shown.2,
        one_more (Datagram (take n buf)) after (omega (arith, shown.1, count_taken)) here (omega (arith, shown.3, count_taken)) same,
      )
        where
          count_taken : length (take n buf) ≡ n
          count_taken = length-take-le n buf shown.2

          here : drop at file ≡ 1 ∷ record_bytes (Datagram (take n buf)) ++ drop after.at file
          here =
              whole_header
              ∙ ap (λ k. 1 ∷ (k ∷ to_be_bytes w32 count ++ drop (at + 6) file)) is
              ∙ ap (λ m. 1 ∷ (1 ∷ to_be_bytes w32 m ++ drop (at + 6) file)) (sym shown.0 ∙ sym count_taken)
              ∙ ap (λ l. 1 ∷ (1 ∷ to_be_bytes w32 (length (take n buf)) ++ l)) shown.4
              ∙ ap (λ l. 1 ∷ (1 ∷ l)) (sym (append_assoc (to_be_bytes w32 (length (take n buf))) (take n buf) (drop (at + 6 + n) file)))
              ∙ ap (λ m. 1 ∷ (1 ∷ to_be_bytes w32 (length (take n buf)) ++ take n buf ++ drop m file)) (sym shown.3)
      datagram_finds after buf (Ok (found.Gate gate)) is same shown = absurd shown
      datagram_finds after buf (Err BadJournal) is same too = none_by
          (λ tick none. omega (arith, is, tick))
          (λ datagram fits within. ⊎_elim (λ many. let no : ⊥ = omega (arith, many, fits) in no) (λ long. let no : ⊥ = omega (arith, long, within) in no) too)
      datagram_finds after buf (Err DiskFault) is same shown = tt
      datagram_finds after buf (Err Full) is same shown = absurd shown
      datagram_finds after buf (Err Memory) is same shown = absurd shown
