-- What the steps of an append make of the file, and what a crash leaves of each.
use Rattle.std.proofs.Common.{◌≡◌, inl, inr, ℕ, ◌+◌, ◌≤◌, List, [], ◌∷◌, ◌++◌, length, get_or, drop, Option, Some, None, IsSome, option_map, refl, sym, ◌∙◌, ap, subst, arith, append_assoc, length-append}
use Rattle.std.proofs.lemmas.List.{append-nil}
use Rattle.cs_io.specs.declared.link.MemInput.{MemInput}
use Rattle.cs_disk.specs.Disk.{Torn, Only, over}
use Rattle.cs_disk.specs.Moments.{LeavesOnly}
use Rattle.cs_disk.proofs.Runs.{no_call, widened, then_calls}
use Rattle.cs_journal.specs.Records.{record_bytes, InputFits}
use Rattle.cs_journal.specs.Journal.{head, kept_bytes, Keeps, Survives}
use Rattle.cs_journal.specs.Moments.{TearsFrom}
use Rattle.cs_journal.specs.Keeping.{EndsAt, IsKept}
use Rattle.cs_journal.specs.declared.journal.Journal.{Journal}
use Rattle.cs_journal.proofs.Places.{long, torn_behind, written_behind, torn_gate, written_gate}
use Rattle.cs_journal.proofs.Readings.{keeps_more, place_more}

module _ (id : List ℕ) (inputs : List MemInput) (next : MemInput) (end : ℕ) (file : List ℕ) (ends : EndsAt id inputs end file) where
  abbrev front : List ℕ
  front = head id ++ kept_bytes inputs

  abbrev record_and_gate : List ℕ
  record_and_gate = record_bytes next ++ 0 ∷ []

  abbrev later : List ℕ
  later = drop (end + 1 + length record_and_gate) (front ++ 0 ∷ ends.rest)

  -- the file with the record behind the closed gate
  abbrev pub staged : List ℕ
  staged = front ++ 0 ∷ (record_bytes next ++ 0 ∷ later)

  size : length front ≡ end
  size = sym ends.place

  pub is_staged : over file (end + 1) record_and_gate ≡ staged
  is_staged =
      ap (λ f. over f (end + 1) record_and_gate) ends.keeps.parts
      ∙ written_behind front end size 0 ends.rest record_and_gate
      ∙ ap (λ l. front ++ 0 ∷ l) (append_assoc (record_bytes next) (0 ∷ []) later)

  -- the closed gate stands in each outcome of the first write
  pub first_crash : (n : ℕ) (c : List ℕ) → Torn (end + 1) n file c → Survives id inputs next c
  first_crash n c torn = inl (record {
    rest = drop (end + 1) c;
    keeps = record {
      parts = torn_behind front end size n 0 ends.rest c (subst (λ f. Torn (end + 1) n f c) ends.keeps.parts torn);
      fit = ends.keeps.fit;
    };
  })

  -- the record stands whole in each outcome of the second
  pub second_crash : (c : List ℕ) → InputFits next → Torn end 1 staged c → Survives id inputs next c
  second_crash c fits torn = inr (record {
    gate = get_or c end 0;
    rest = later;
    keeps = record { parts = torn_gate front end size 0 (record_bytes next ++ 0 ∷ later) c torn; fit = ends.keeps.fit };
    fits = fits;
  })

  -- and then it is kept
  pub ends_more : (c : List ℕ) → InputFits next → c ≡ over staged end (1 ∷ []) → EndsAt id (inputs ++ next ∷ []) (end + length record_and_gate) c
  ends_more c fits is = record {
    rest = later;
    keeps = keeps_more id inputs next (0 ∷ later) c fits (record { parts = is ∙ written_gate front end size 0 1 (record_bytes next ++ 0 ∷ later); fit = ends.keeps.fit });
    place = omega (arith, place_more id inputs next end ends.place, length-append (record_bytes next) (0 ∷ []));
  }

-- there is a gate where the journal ends
pub has_gate : (id : List ℕ) (inputs : List MemInput) (end : ℕ) (file : List ℕ) → EndsAt id inputs end file → end + 1 ≤ length file
has_gate id inputs end file ends = let l = long (head id ++ kept_bytes inputs) end (sym ends.place) 0 ends.rest in omega (arith, l, ap length ends.keeps.parts)

-- ---- the two writes of an append

module _ {D : Type 0} (content : D → Option (List ℕ)) (may_leave : D → List ℕ → Type 0) (moment : D → ℕ) (left_since : D → ℕ → List ℕ → Type 0)
    (id : List ℕ) (inputs : List MemInput) (next : MemInput) (fits : InputFits next) (journal : Journal) (bytes : List ℕ) (is_record : bytes ≡ record_bytes next ++ 0 ∷ [])
    (old : D) (kept : IsKept content may_leave id inputs journal old) where
  abbrev P : List ℕ → Type 0
  P = Survives id inputs next

  nothing_torn : (c : List ℕ) → may_leave old c → P c
  nothing_torn c left = inl (record { rest = kept.ends.rest; keeps = subst (λ f. Keeps id inputs (0 ∷ kept.ends.rest) f) (sym (kept.durable c left)) kept.ends.keeps })

  -- nothing was written yet
  pub before_first : ((c : List ℕ) → left_since old (moment old) c → may_leave old c) → LeavesOnly moment left_since old old P
  before_first only_now = no_call moment left_since old P (may_leave old) only_now nothing_torn

  pub after_first : (mid : D) → LeavesOnly moment left_since old mid (TearsFrom (journal.end + 1) (length bytes) (may_leave old)) → LeavesOnly moment left_since old mid P
  after_first mid so = widened moment left_since old mid (TearsFrom (journal.end + 1) (length bytes) (may_leave old)) P so
      (λ c torn. first_crash id inputs next journal.end kept.file kept.ends (length bytes) c (subst (λ f. Torn (journal.end + 1) (length bytes) f c) (kept.durable torn.0 torn.1) torn.2))

  -- the file between the two
  between : (mid : D) → content mid ≡ option_map (λ file. over file (journal.end + 1) bytes) (content old) → content mid ≡ Some (staged id inputs next journal.end kept.file kept.ends)
  between mid written =
      written ∙ ap (option_map (λ file. over file (journal.end + 1) bytes)) kept.told ∙ ap (λ b. Some (over kept.file (journal.end + 1) b)) is_record ∙ ap Some (is_staged id inputs next journal.end kept.file kept.ends)

  pub after_second : (mid new : D) → LeavesOnly moment left_since old mid (TearsFrom (journal.end + 1) (length bytes) (may_leave old)) → content mid ≡ option_map (λ file. over file (journal.end + 1) bytes) (content old)
      → ((file : List ℕ) → content mid ≡ Some file → Only file (may_leave mid)) → LeavesOnly moment left_since mid new (TearsFrom journal.end 1 (may_leave mid)) → LeavesOnly moment left_since old new P
  after_second mid new first written durable second =
      let only = durable (staged id inputs next journal.end kept.file kept.ends) (between mid written) in
      then_calls moment left_since old mid new P (TearsFrom journal.end 1 (may_leave mid)) P (after_first mid first) second (λ c p. p)
      (λ c torn. second_crash id inputs next journal.end kept.file kept.ends c fits (subst (λ f. Torn journal.end 1 f c) (only torn.0 torn.1) torn.2))

  pub kept_more : (mid new : D) (end : ℕ) → content mid ≡ option_map (λ file. over file (journal.end + 1) bytes) (content old) → content new ≡ option_map (λ file. over file journal.end (1 ∷ [])) (content mid)
      → ((file : List ℕ) → content new ≡ Some file → Only file (may_leave new)) → end ≡ journal.end + length bytes → IsKept content may_leave id (inputs ++ next ∷ []) (record { end = end }) new
  kept_more mid new end written opened durable is_end =
      let s = staged id inputs next journal.end kept.file kept.ends in
      let told : content new ≡ Some (over s journal.end (1 ∷ [])) = opened ∙ ap (option_map (λ file. over file journal.end (1 ∷ []))) (between mid written) in
      record {
        file = over s journal.end (1 ∷ []);
        told = told;
        ends = subst (λ e. EndsAt id (inputs ++ next ∷ []) e (over s journal.end (1 ∷ []))) (sym (is_end ∙ ap (λ b. journal.end + length b) is_record))
            (ends_more id inputs next journal.end kept.file kept.ends (over s journal.end (1 ∷ [])) fits refl);
        durable = durable (over s journal.end (1 ∷ [])) told;
      }

-- ---- a journal that is made

made : (id file : List ℕ) → length id ≡ 32 → EndsAt id [] 36 (over file 0 (head id ++ 0 ∷ []))
made id file size = record {
  rest = drop (0 + length (head id ++ 0 ∷ [])) file;
  keeps = record {
    parts = append_assoc (head id) (0 ∷ []) (drop (0 + length (head id ++ 0 ∷ [])) file) ∙ ap (λ l. l ++ 0 ∷ drop (0 + length (head id ++ 0 ∷ [])) file) (sym (append-nil (head id)));
    fit = tt;
  };
  place = omega (arith, length-append (head id) [], size);
}

pub made_kept : {D : Type 0} (content : D → Option (List ℕ)) (may_leave : D → List ℕ → Type 0) (id bytes : List ℕ) (old new : D) → length id ≡ 32 → bytes ≡ head id ++ 0 ∷ [] → IsSome (content old)
    → content new ≡ option_map (λ file. over file 0 bytes) (content old) → ((file : List ℕ) → content new ≡ Some file → Only file (may_leave new)) → IsKept content may_leave id [] (record { end = 36 }) new
made_kept {D} content may_leave id bytes old new size is some written durable = by (content old) refl some
  where
    by : (o : Option (List ℕ)) → content old ≡ o → IsSome o → IsKept content may_leave id [] (record { end = 36 }) new
    by None same none = absurd (cc none)
    by (Some file) same some =
        let told : content new ≡ Some (over file 0 (head id ++ 0 ∷ [])) = written ∙ ap (option_map (λ file. over file 0 bytes)) same ∙ ap (λ b. Some (over file 0 b)) is in
        record {
          file = over file 0 (head id ++ 0 ∷ []);
          told = told;
          ends = made id file size;
          durable = durable (over file 0 (head id ++ 0 ∷ [])) told;
        }
