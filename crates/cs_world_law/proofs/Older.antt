-- Logs are lists, the newest first; of two logs of one shard one is the older part of the other.
use Rattle.std.proofs.Common.{◌≡◌, ℕ, suc, ◌<◌, ◌≤◌, ◌==◌, nat_lt, nat_le, Bool, true, false, if◌then◌else◌, List, [], ◌∷◌, ◌++◌, length, map, Option, Some, None, arith, sym, ◌∙◌, ap, subst, refl}
use Rattle.std.proofs.lemmas.Bool.{eqb-true, or_right}
use Rattle.std.proofs.lemmas.List.{length-map}
use Rattle.cs_tx_types.specs.declared.action.Action.{Action}
use Rattle.cs_ledger.specs.Ledger.{Bytes}
use Rattle.cs_ledger.specs.Session.{Rules}
use Rattle.cs_ledger.specs.Table.{Vote, Effect}
use Rattle.cs_ledger.specs.ShardWorld.{votes_in, decided_in}
use Rattle.cs_node_state.specs.Setup.{Setup}
use Rattle.cs_node_law.proofs.Logs.{seen}

-- ---- numbers

le-is : (a b : ℕ) → a ≤ b → nat_le a b ≡ true
le-is a b h = grind arith

le-not : (a b : ℕ) → b < a → nat_le a b ≡ false
le-not a b h = grind arith

pub lt-not : (a b : ℕ) → nat_lt a b ≡ false → b ≤ a
lt-not a b h = grind arith

pub eq-is : (a b : ℕ) → a ≡ b → (a == b) ≡ true
eq-is a b h = grind arith

eq-not : (a b : ℕ) → a < b → (a == b) ≡ false
eq-not a b h = grind arith

-- ---- lists

module _ {A : Type 0} where
  -- so many of the oldest entries
  abbrev pub older : ℕ → List A → List A
  older n [] = []
  older n (e ∷ log) = if nat_le n (length log) then older n log else e ∷ log

  abbrev pub at_slot : List A → ℕ → Option A
  at_slot [] slot = None
  at_slot (e ∷ log) slot = if slot == length log then Some e else at_slot log slot

  pub older-drop : (n : ℕ) (e : A) (log : List A) → n ≤ length log → older n (e ∷ log) ≡ older n log
  older-drop n e log h = ap (λ b. if b then older n log else e ∷ log) (le-is n (length log) h)

  pub older-all : (n : ℕ) (log : List A) → length log ≤ n → older n log ≡ log
  older-all n [] h = refl
  older-all n (e ∷ log) h = ap (λ b. if b then older n log else e ∷ log) (le-not n (length log) (omega arith))

  pub at-below : (log : List A) (n : ℕ) (e : A) → at_slot log n ≡ Some e → n < length log
  at-below [] n e h = cc
  at-below (d ∷ log) n e h = below (n == length log) refl (at-below log n e) h
    where
      below : (b : Bool) → (n == length log) ≡ b → (at_slot log n ≡ Some e → n < length log) → (if b then Some d else at_slot log n) ≡ Some e → n < suc (length log)
      below true s later h = let q = eqb-true n (length log) s in omega arith
      below false s later h = let q = later h in omega arith

  pub at-some : (log : List A) (n : ℕ) → n < length log → (e : A) × (at_slot log n ≡ Some e)
  at-some [] n h = absurd (omega arith)
  at-some (d ∷ log) n h = some (n == length log) refl (at-some log n)
    where
      some : (b : Bool) → (n == length log) ≡ b → (n < length log → (e : A) × (at_slot log n ≡ Some e)) → (e : A) × ((if b then Some d else at_slot log n) ≡ Some e)
      some true s later = (d, refl)
      some false s later = later (grind arith)

  -- what stands in a slot stays there
  pub at-more : (d : A) (log : List A) (n : ℕ) (e : A) → at_slot log n ≡ Some e → at_slot (d ∷ log) n ≡ Some e
  at-more d log n e h = ap (λ b. if b then Some d else at_slot log n) (eq-not n (length log) (at-below log n e h)) ∙ h

  -- the newest entry stands in the last slot
  pub at-last : (d : A) (log : List A) (n : ℕ) → n ≡ length log → at_slot (d ∷ log) n ≡ Some d
  at-last d log n e = ap (λ b. if b then Some d else at_slot log n) (eq-is n (length log) e)

  older-next : (log : List A) (n : ℕ) (entry : A) → at_slot log n ≡ Some entry → older (suc n) log ≡ entry ∷ older n log
  older-next [] n entry h = cc
  older-next (d ∷ log) n entry h = next (n == length log) refl (older-next log n entry) h
    where
      next : (b : Bool) → (n == length log) ≡ b → (at_slot log n ≡ Some entry → older (suc n) log ≡ entry ∷ older n log) → (if b then Some d else at_slot log n) ≡ Some entry → older (suc n) (d ∷ log) ≡ entry ∷ older n (d ∷ log)
      next true s later h =
          let q = eqb-true n (length log) s in
          let same : d ≡ entry = cc in
          older-all (suc n) (d ∷ log) (omega arith)
          ∙ ap (λ x. x ∷ log) same
          ∙ ap (λ x. entry ∷ x) (sym (older-drop n d log (omega arith) ∙ older-all n log (omega arith)))
      next false s later h =
          let q = at-below log n entry h in
          older-drop (suc n) d log (omega arith) ∙ later h ∙ ap (λ x. entry ∷ x) (sym (older-drop n d log (omega arith)))

  -- a log is the older part of another
  pub record IsOlder (own log : List A) : Type 0 where
    pub shorter : length own ≤ length log
    pub is : own ≡ older (length own) log

  pub older-grow : (own log : List A) (e : A) → IsOlder own log → IsOlder own (e ∷ log)
  older-grow own log e f = record { shorter = (let q = f.shorter in omega arith); is = f.is ∙ sym (older-drop (length own) e log f.shorter) }

  pub older-old : (own log : List A) (slot : ℕ) (entry : A) → IsOlder own log → slot ≡ length own → slot < length log → at_slot log slot ≡ Some entry → IsOlder (entry ∷ own) log
  older-old own log slot entry f n less e =
      record {
        shorter = omega arith;
        is = ap (λ x. entry ∷ x) f.is ∙ sym (older-next log (length own) entry (subst (λ k. at_slot log k ≡ Some entry) n e));
      }

  pub older-new : (own log : List A) (slot : ℕ) (entry : A) → IsOlder own log → slot ≡ length own → length log ≤ slot → IsOlder (entry ∷ own) (entry ∷ log)
  older-new own log slot entry f n more =
      let q = f.shorter in
      record {
        shorter = omega arith;
        is = ap (λ x. entry ∷ x) (f.is ∙ older-all (length own) log (omega arith)) ∙ sym (older-all (suc (length own)) (entry ∷ log) (omega arith));
      }

  -- the older part of an older part, and the entry that follows it
  pub record IsNext (own log : List A) (e : A) : Type 0 where
    pub is : own ≡ older (length own) log
    pub there : at_slot log (length own) ≡ Some e
    pub below : length own < length log

  next-of : (log : List A) (n : ℕ) (e : A) (own : List A) → older n log ≡ e ∷ own → IsNext own log e
  next-of [] n e own h = absurd cc
  next-of (d ∷ log) n e own h = go (nat_le n (length log)) (next-of log n e own) h
    where
      go : (b : Bool) → (older n log ≡ e ∷ own → IsNext own log e) → (if b then older n log else d ∷ log) ≡ e ∷ own → IsNext own (d ∷ log) e
      go true later h =
          let r = later h in
          let q = r.below in
          record {
            is = r.is ∙ sym (older-drop (length own) d log (omega arith));
            there = at-more d log (length own) e r.there;
            below = omega arith;
          }
      go false later h =
          let same : d ≡ e = cc in
          let rest : log ≡ own = cc in
          let size : length log ≡ length own = ap (λ (l : List A). length l) rest in
          record {
            is = sym rest ∙ sym (older-drop (length own) d log (omega arith) ∙ older-all (length own) log (omega arith));
            there = at-last d log (length own) (sym size) ∙ ap (λ x. Some x) same;
            below = omega arith;
          }

  -- of an older part each beginning is one, and what follows it is known
  pub older-part : (a : List A) (e : A) (own log : List A) → IsOlder (a ++ e ∷ own) log → IsNext own log e
  older-part [] e own log f = next-of log (suc (length own)) e own (sym f.is)
  older-part (d ∷ a) e own log f =
      let r = next-of log (suc (length (a ++ e ∷ own))) d (a ++ e ∷ own) (sym f.is) in
      let q = r.below in
      older-part a e own log (record { shorter = omega arith; is = r.is })

-- what is read off each entry is read off the older part
pub older-map : {A B : Type 0} (f : A → B) (n : ℕ) (log : List A) → older n (map f log) ≡ map f (older n log)
older-map {A} {B} f n [] = refl
older-map {A} {B} f n (e ∷ log) =
    ap (λ (k : ℕ). if nat_le n k then older n (map f log) else f e ∷ map f log) (length-map log f)
    ∙ by (nat_le n (length log)) (older-map f n log)
  where
    by : (b : Bool) → older n (map f log) ≡ map f (older n log) → (if b then older n (map f log) else f e ∷ map f log) ≡ map f (if b then older n log else e ∷ log)
    by true later = later
    by false later = refl

pub map-older : {A B : Type 0} (f : A → B) (own log : List A) → IsOlder own log → IsOlder (map f own) (map f log)
map-older {A} {B} f own log o =
    let own_size = length-map own f in
    let size = length-map log f in
    record {
      shorter = (let h = o.shorter in omega (arith, h, own_size, size));
      is = ap (map f) o.is ∙ sym (older-map f (length own) log) ∙ ap (λ (n : ℕ). older n (map f log)) (sym own_size);
    }

pub at-map : {A B : Type 0} (f : A → B) (log : List A) (n : ℕ) (b : B) → at_slot (map f log) n ≡ Some b → (a : A) × (at_slot log n ≡ Some a) × (f a ≡ b)
at-map {A} {B} f [] n b e = absurd cc
at-map {A} {B} f (a ∷ log) n b e =
    by (n == length log) refl (at-map f log n b)
    (ap (λ (k : ℕ). if n == k then Some (f a) else at_slot (map f log) n) (sym (length-map log f)) ∙ e)
  where
    by : (t : Bool) → (n == length log) ≡ t → (at_slot (map f log) n ≡ Some b → (x : A) × (at_slot log n ≡ Some x) × (f x ≡ b)) → (if t then Some (f a) else at_slot (map f log) n) ≡ Some b
        → (x : A) × ((if t then Some a else at_slot log n) ≡ Some x) × (f x ≡ b)
    by true here later e = (a, refl, (let same : f a ≡ b = cc in same))
    by false other later e = later e

pub map-at : {A B : Type 0} (f : A → B) (log : List A) (n : ℕ) (a : A) → at_slot log n ≡ Some a → at_slot (map f log) n ≡ Some (f a)
map-at {A} {B} f [] n a e = absurd cc
map-at {A} {B} f (d ∷ log) n a e =
    ap (λ (k : ℕ). if n == k then Some (f d) else at_slot (map f log) n) (length-map log f)
    ∙ by (n == length log) (map-at f log n a) e
  where
    by : (t : Bool) → (at_slot log n ≡ Some a → at_slot (map f log) n ≡ Some (f a)) → (if t then Some d else at_slot log n) ≡ Some a → (if t then Some (f d) else at_slot (map f log) n) ≡ Some (f a)
    by true later e = (let same : d ≡ a = cc in ap (λ (x : A). Some (f x)) same)
    by false later e = later e

-- ---- what holds of an older part

pub older-votes : (setup : Setup) (rules : Rules) (shard : ℕ) (d : Bytes) (vote : Vote) (n : ℕ) (log : List Action) → votes_in rules shard d vote (seen setup (older n log)) ≡ true → votes_in rules shard d vote (seen setup log) ≡ true
older-votes setup rules shard d vote n [] h = h
older-votes setup rules shard d vote n (e ∷ log) h = found (nat_le n (length log)) (older-votes setup rules shard d vote n log) h
  where
    found : (b : Bool) → (votes_in rules shard d vote (seen setup (older n log)) ≡ true → votes_in rules shard d vote (seen setup log) ≡ true) → votes_in rules shard d vote (seen setup (if b then older n log else e ∷ log)) ≡ true → votes_in rules shard d vote (seen setup (e ∷ log)) ≡ true
    found true later h = or_right _ _ (later h)
    found false later h = h

pub older-decided : (setup : Setup) (rules : Rules) (shard : ℕ) (d : Bytes) (effect : Effect) (n : ℕ) (log : List Action) → decided_in rules shard d effect (seen setup (older n log)) ≡ true → decided_in rules shard d effect (seen setup log) ≡ true
older-decided setup rules shard d effect n [] h = h
older-decided setup rules shard d effect n (e ∷ log) h = found (nat_le n (length log)) (older-decided setup rules shard d effect n log) h
  where
    found : (b : Bool) → (decided_in rules shard d effect (seen setup (older n log)) ≡ true → decided_in rules shard d effect (seen setup log) ≡ true) → decided_in rules shard d effect (seen setup (if b then older n log else e ∷ log)) ≡ true → decided_in rules shard d effect (seen setup (e ∷ log)) ≡ true
    found true later h = or_right _ _ (later h)
    found false later h = h
