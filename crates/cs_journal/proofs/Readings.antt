-- A file keeps one list of inputs.
use Rattle.std.proofs.Common.{◌≡◌, ◌≢◌, ◌⊎◌, inl, inr, ℕ, ◌+◌, ◌<◌, ◌≤◌, ◌^◌, List, [], ◌∷◌, ◌++◌, length, get_or, refl, sym, ◌∙◌, ap, subst, arith, append_assoc, length-append}
use Rattle.std.specs.List.{AllByRecursion}
use Rattle.std.specs.Int.{w32, to_be_bytes, from_be_bytes}
use Rattle.std.proofs.lemmas.List.{append-nil}
use Rattle.std.proofs.lemmas.Bool.{cases_eq}
use Rattle.std.proofs.lemmas.Nat.{from_be_bytes-to_be_bytes_4}
use Rattle.cs_base.specs.declared.limits.TheConstants.{MOST_DATAGRAM}
use Rattle.cs_io.specs.declared.link.MemInput.{MemInput}
use Rattle.cs_io.specs.declared.link.MemInput.TheVariants.{Datagram, Tick}
use Rattle.cs_journal.specs.Records.{record_bytes, InputFits}
use Rattle.cs_journal.specs.Journal.{head, kept_bytes, Keeps, IsJournal, IsAtRest, Survives}

-- ---- one record

-- equal lists with fronts of one length
pub fronts_same : (a b x y : List ℕ) → length a ≡ length b → a ++ x ≡ b ++ y → (a ≡ b) × (x ≡ y)
fronts_same [] [] x y same is = (refl, is)
fronts_same [] (c ∷ b) x y same is = absurd (omega arith)
fronts_same (c ∷ a) [] x y same is = absurd (omega arith)
fronts_same (c ∷ a) (d ∷ b) x y same is =
    let heads : c ≡ d = cc in
    let tails : a ++ x ≡ b ++ y = cc in
    let rest = fronts_same a b x y (omega arith) tails in
    (cc (heads, rest.0), rest.1)

small : (n : ℕ) → n ≤ MOST_DATAGRAM + 1 → n < 2 ^ 32
small n fits = omega arith

pub one_length : (m n : ℕ) → m < 2 ^ 32 → n < 2 ^ 32 → to_be_bytes w32 m ≡ to_be_bytes w32 n → m ≡ n
one_length m n fits fits' is = sym (from_be_bytes-to_be_bytes_4 m fits) ∙ ap (from_be_bytes w32) is ∙ from_be_bytes-to_be_bytes_4 n fits'

two_kinds : (m n : ℕ) → m ≡ 0 → n ≡ 1 → m ≡ n → ⊥
two_kinds m n first second is = omega arith

kinds_differ : (x y : List ℕ) → 0 ∷ x ≡ 1 ∷ y → ⊥
kinds_differ x y is = two_kinds 0 1 refl refl (ap (λ (l : List ℕ). get_or l 0 0) is)

one_record : (a b : MemInput) (x y : List ℕ) → InputFits a → InputFits b → record_bytes a ++ x ≡ record_bytes b ++ y → (a ≡ b) × (x ≡ y)
one_record Tick Tick x y fits fits' is = (refl, (fronts_same (record_bytes Tick) (record_bytes Tick) x y refl is).1)
one_record Tick (Datagram b) x y fits fits' is = absurd (kinds_differ (to_be_bytes w32 0 ++ x) (to_be_bytes w32 (length b) ++ b ++ y) is)
one_record (Datagram a) Tick x y fits fits' is = absurd (kinds_differ (to_be_bytes w32 0 ++ y) (to_be_bytes w32 (length a) ++ a ++ x) (sym is))
one_record (Datagram a) (Datagram b) x y fits fits' is =
    let tails : to_be_bytes w32 (length a) ++ a ++ x ≡ to_be_bytes w32 (length b) ++ b ++ y = cc in
    let regrouped : to_be_bytes w32 (length a) ++ (a ++ x) ≡ to_be_bytes w32 (length b) ++ (b ++ y) = sym (append_assoc (to_be_bytes w32 (length a)) a x) ∙ tails ∙ append_assoc (to_be_bytes w32 (length b)) b y in
    let front = fronts_same (to_be_bytes w32 (length a)) (to_be_bytes w32 (length b)) (a ++ x) (b ++ y) refl regrouped in
    let lengths = one_length (length a) (length b) (small (length a) fits) (small (length b) fits') front.0 in
    let back = fronts_same a b x y lengths front.1 in
    (ap Datagram back.0, back.1)

-- ---- some inputs

fits_more : (inputs : List MemInput) (next : MemInput) → AllByRecursion InputFits inputs → InputFits next → AllByRecursion InputFits (inputs ++ next ∷ [])
fits_more [] next all fits = (fits, tt)
fits_more (i ∷ inputs) next all fits = (all.0, fits_more inputs next all.1 fits)

kept_more : (inputs : List MemInput) (next : MemInput) (rest : List ℕ) → kept_bytes inputs ++ (1 ∷ record_bytes next ++ rest) ≡ kept_bytes (inputs ++ next ∷ []) ++ rest
kept_more [] next rest = ap (λ l. 1 ∷ l ++ rest) (sym (append-nil (record_bytes next)))
kept_more (i ∷ inputs) next rest =
    append_assoc (1 ∷ record_bytes i) (kept_bytes inputs) (1 ∷ record_bytes next ++ rest)
    ∙ ap (λ l. 1 ∷ record_bytes i ++ l) (kept_more inputs next rest)
    ∙ sym (append_assoc (1 ∷ record_bytes i) (kept_bytes (inputs ++ next ∷ [])) rest)

-- behind an open gate one more is kept
pub keeps_more : (id : List ℕ) (inputs : List MemInput) (next : MemInput) (rest file : List ℕ) → InputFits next → Keeps id inputs (1 ∷ record_bytes next ++ rest) file → Keeps id (inputs ++ next ∷ []) rest file
keeps_more id inputs next rest file fits keeps = record {
  parts =
      keeps.parts ∙ append_assoc (head id) (kept_bytes inputs) (1 ∷ record_bytes next ++ rest)
      ∙ ap (λ l. head id ++ l) (kept_more inputs next rest)
      ∙ sym (append_assoc (head id) (kept_bytes (inputs ++ next ∷ [])) rest);
  fit = fits_more inputs next keeps.fit fits;
}

kept_length : (inputs : List MemInput) (next : MemInput) → length (kept_bytes (inputs ++ next ∷ [])) ≡ length (kept_bytes inputs) + 1 + length (record_bytes next)
kept_length inputs next =
    let more = kept_more inputs next [] in
    let whole = append-nil (kept_bytes (inputs ++ next ∷ [])) in
    let same : length (kept_bytes inputs ++ (1 ∷ record_bytes next ++ [])) ≡ length (kept_bytes (inputs ++ next ∷ [])) = ap length more ∙ ap length whole in
    omega (arith, same, length-append (kept_bytes inputs) (1 ∷ record_bytes next ++ []), length-append (record_bytes next) [])

-- and the place behind it is so much further
pub place_more : (id : List ℕ) (inputs : List MemInput) (next : MemInput) (end : ℕ) → end ≡ length (head id ++ kept_bytes inputs) → end + 1 + length (record_bytes next) ≡ length (head id ++ kept_bytes (inputs ++ next ∷ []))
place_more id inputs next end place =
    omega (arith, place, kept_length inputs next, length-append (head id) (kept_bytes inputs), length-append (head id) (kept_bytes (inputs ++ next ∷ [])))

-- ---- one list

-- what was read of the inputs is their beginning
pub reads_on : (inputs all : List MemInput) (rest : List ℕ) (gate : ℕ) (behind : List ℕ) → AllByRecursion InputFits inputs → AllByRecursion InputFits all → gate ≢ 1
    → kept_bytes inputs ++ rest ≡ kept_bytes all ++ gate ∷ behind → (others : List MemInput) × (all ≡ inputs ++ others) × (rest ≡ kept_bytes others ++ gate ∷ behind) × AllByRecursion InputFits others
reads_on [] all rest gate behind fit fit' closed is = (all, refl, is, fit')
reads_on (i ∷ inputs) [] rest gate behind fit fit' closed is = absurd (closed (let first : 1 ≡ gate = cc in sym first))
reads_on (i ∷ inputs) (j ∷ all) rest gate behind fit fit' closed is =
    let tails : record_bytes i ++ kept_bytes inputs ++ rest ≡ record_bytes j ++ kept_bytes all ++ gate ∷ behind = cc in
    let regrouped : record_bytes i ++ (kept_bytes inputs ++ rest) ≡ record_bytes j ++ (kept_bytes all ++ gate ∷ behind) =
    sym (append_assoc (record_bytes i) (kept_bytes inputs) rest) ∙ tails ∙ append_assoc (record_bytes j) (kept_bytes all) (gate ∷ behind) in
    let one = one_record i j (kept_bytes inputs ++ rest) (kept_bytes all ++ gate ∷ behind) fit.0 fit'.0 regrouped in
    let more = reads_on inputs all rest gate behind fit.1 fit'.1 closed one.1 in
    (more.0, cc (one.0, more.1), more.2, more.3)

-- behind the head
behind_head : (id : List ℕ) (inputs all : List MemInput) (rest rest' file : List ℕ) → Keeps id inputs rest file → Keeps id all rest' file → kept_bytes inputs ++ rest ≡ kept_bytes all ++ rest'
behind_head id inputs all rest rest' file keeps keeps' =
    (fronts_same (head id) (head id) (kept_bytes inputs ++ rest) (kept_bytes all ++ rest') refl
    (sym (append_assoc (head id) (kept_bytes inputs) rest) ∙ sym keeps.parts ∙ keeps'.parts ∙ append_assoc (head id) (kept_bytes all) rest')).1

-- a journal whose beginning was read
pub journal_goes_on : (id : List ℕ) (inputs all : List MemInput) (rest file : List ℕ) → Keeps id inputs rest file → (j : IsJournal id all file)
    → (others : List MemInput) × (all ≡ inputs ++ others) × (rest ≡ kept_bytes others ++ j.gate ∷ j.rest) × AllByRecursion InputFits others
journal_goes_on id inputs all rest file keeps j =
    reads_on inputs all rest j.gate j.rest keeps.fit j.keeps.fit j.closed (behind_head id inputs all rest (j.gate ∷ j.rest) file keeps j.keeps)

none_open : (others : List MemInput) (gate gate' : ℕ) (rest rest' : List ℕ) → gate ≢ 1 → gate ∷ rest ≡ kept_bytes others ++ gate' ∷ rest' → (others ≡ []) × (gate ≡ gate') × (rest ≡ rest')
none_open [] gate gate' rest rest' closed is = (refl, cc, cc)
none_open (i ∷ others) gate gate' rest rest' closed is = absurd (closed (let first : gate ≡ 1 = cc in first))

-- at a gate that isn't open the reading ends
pub one_end : (id : List ℕ) (inputs all : List MemInput) (gate : ℕ) (rest file : List ℕ) → gate ≢ 1 → Keeps id inputs (gate ∷ rest) file → (j : IsJournal id all file)
    → (all ≡ inputs) × (gate ≡ j.gate) × (rest ≡ j.rest)
one_end id inputs all gate rest file closed keeps j =
    let more = journal_goes_on id inputs all (gate ∷ rest) file keeps j in
    let last = none_open more.0 gate j.gate rest j.rest closed more.2 in
    (more.1 ∙ ap (λ (l : List MemInput). inputs ++ l) last.0 ∙ append-nil inputs, last.1, last.2)

pub one_journal : (id : List ℕ) (inputs others : List MemInput) (file : List ℕ) → IsJournal id inputs file → IsJournal id others file → inputs ≡ others
one_journal id inputs others file j k = sym (one_end id inputs others j.gate j.rest file j.closed j.keeps k).0

-- ---- what a crash leaves

pub rest_is_journal : (id : List ℕ) (inputs : List MemInput) (file : List ℕ) → IsAtRest id inputs file → IsJournal id inputs file
rest_is_journal id inputs file r = record { gate = 0; rest = r.rest; keeps = r.keeps; closed = omega arith }

pub survivor : (id : List ℕ) (inputs : List MemInput) (next : MemInput) (file : List ℕ) → Survives id inputs next file → IsJournal id inputs file ⊎ IsJournal id (inputs ++ next ∷ []) file
survivor id inputs next file (inl r) = inl (rest_is_journal id inputs file r)
survivor id inputs next file (inr d) = elim (cases_eq d.gate 1) [
  | inl opened ↦
      let keeps = subst (λ (g : ℕ). Keeps id inputs (g ∷ record_bytes next ++ 0 ∷ d.rest) file) opened d.keeps in
      inr (rest_is_journal id (inputs ++ next ∷ []) file (record { rest = d.rest; keeps = keeps_more id inputs next (0 ∷ d.rest) file d.fits keeps }))
  | inr closed ↦ inl (record { gate = d.gate; rest = record_bytes next ++ 0 ∷ d.rest; keeps = d.keeps; closed = closed })
]
