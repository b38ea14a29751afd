-- What writes and crashes make of a file around a gate.
use Rattle.std.proofs.Common.{◌≡◌, ℕ, ◌+◌, ◌≤◌, ◌<◌, List, [], ◌∷◌, ◌++◌, length, get_or, take, drop, sym, ◌∙◌, ap, arith, append_assoc, length-append, take-append-drop}
use Rattle.std.proofs.lemmas.List.{take_at, drop_at, drop_more}
use Rattle.cs_disk.specs.Disk.{Torn, over}

-- the gate stands behind so many bytes
module _ (front : List ℕ) (end : ℕ) (size : length front ≡ end) where
  gated : (gate : ℕ) → length (front ++ gate ∷ []) ≡ end + 1
  gated gate = omega (arith, length-append front (gate ∷ []))

  split_gate : (gate : ℕ) (rest : List ℕ) → front ++ gate ∷ rest ≡ front ++ gate ∷ [] ++ rest
  split_gate gate rest = sym (append_assoc front (gate ∷ []) rest)

  to_gate : (gate : ℕ) (rest : List ℕ) → take (end + 1) (front ++ gate ∷ rest) ≡ front ++ gate ∷ []
  to_gate gate rest = ap (take (end + 1)) (split_gate gate rest) ∙ take_at (front ++ gate ∷ []) rest (end + 1) (gated gate)

  behind_gate : (gate : ℕ) (rest : List ℕ) → drop (end + 1) (front ++ gate ∷ rest) ≡ rest
  behind_gate gate rest = ap (drop (end + 1)) (split_gate gate rest) ∙ drop_at (front ++ gate ∷ []) rest (end + 1) (gated gate)

  before_gate : (gate : ℕ) (rest : List ℕ) → take end (front ++ gate ∷ rest) ≡ front
  before_gate gate rest = take_at front (gate ∷ rest) end size

  pub long : (gate : ℕ) (rest : List ℕ) → end + 1 ≤ length (front ++ gate ∷ rest)
  long gate rest = omega (arith, length-append front (gate ∷ rest), size)

  -- whatever is torn behind it, the gate stands
  pub torn_behind : (n gate : ℕ) (rest c : List ℕ) → Torn (end + 1) n (front ++ gate ∷ rest) c → c ≡ front ++ gate ∷ drop (end + 1) c
  torn_behind n gate rest c torn =
      sym (take-append-drop (end + 1) c) ∙ ap (λ l. l ++ drop (end + 1) c) (torn.before ∙ to_gate gate rest) ∙ sym (split_gate gate (drop (end + 1) c))

  -- the record is written behind it
  pub written_behind : (gate : ℕ) (rest bytes : List ℕ) → over (front ++ gate ∷ rest) (end + 1) bytes ≡ front ++ gate ∷ (bytes ++ drop (end + 1 + length bytes) (front ++ gate ∷ rest))
  written_behind gate rest bytes =
      let later = drop (end + 1 + length bytes) (front ++ gate ∷ rest) in
      ap (λ l. l ++ bytes ++ later) (to_gate gate rest) ∙ append_assoc (front ++ gate ∷ []) bytes later ∙ sym (split_gate gate (bytes ++ later))

  -- the gate is torn alone
  pub torn_gate : (gate : ℕ) (rest c : List ℕ) → Torn end 1 (front ++ gate ∷ rest) c → c ≡ front ++ get_or c end 0 ∷ rest
  torn_gate gate rest c torn =
      let old_long = long gate rest in
      let within : end < length c = omega (arith, torn.no_shorter, old_long) in
      let behind : drop end c ≡ get_or c end 0 ∷ rest = drop_more c end 0 within ∙ ap (λ l. get_or c end 0 ∷ l) (torn.after ∙ behind_gate gate rest) in
      sym (take-append-drop end c) ∙ ap (λ l. l ++ drop end c) (torn.before ∙ before_gate gate rest) ∙ ap (λ l. front ++ l) behind

  -- the gate is written
  pub written_gate : (gate byte : ℕ) (rest : List ℕ) → over (front ++ gate ∷ rest) end (byte ∷ []) ≡ front ++ byte ∷ rest
  written_gate gate byte rest =
      ap (λ l. l ++ byte ∷ [] ++ drop (end + 1) (front ++ gate ∷ rest)) (before_gate gate rest)
      ∙ ap (λ l. front ++ byte ∷ [] ++ l) (behind_gate gate rest)
      ∙ sym (split_gate byte rest)
