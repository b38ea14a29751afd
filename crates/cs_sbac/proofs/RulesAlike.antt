-- What is executed looks at neither the genesis nor the first dummies: rules that place names alike execute alike.
use Rattle.std.proofs.Common.{◌≡◌, ℕ, ◌+◌, ◌==◌, List, [], ◌∷◌, ◌++◌, length, Option, Some, None, refl, ap, ◌∙◌}
use Rattle.std.specs.Prelude.{if◌then◌else◌}
use Rattle.cs_ledger.specs.Ledger.{Item}
use Rattle.cs_ledger.specs.Session.{Session, DummyName, Rules, Key, Object, Dummy, objects_in, dummies_in, used_up, read_only, first_key, anchor, has_key, object_under}
use Rattle.cs_ledger.specs.Table.{Table, Entry, Prepare, Decide, Commit, Abort, Accepted, Aborted, Skipped, act, prepare, accept_state, is_locked_by, with_accepted, with_aborted, new_dummy, session_of}

-- the same but for the genesis and the number of the first dummies
abbrev pub like : Rules → List Item → ℕ → Rules
like rules genesis dummies = record { shard_of = rules.shard_of; genesis = genesis; dummies = dummies; dummy_object = rules.dummy_object }

module _ (rules : Rules) (genesis : List Item) (dummies : ℕ) (shard : ℕ) where
  abbrev other : Rules
  other = like rules genesis dummies

  objects : (items : List Item) → objects_in rules shard items ≡ objects_in other shard items
  objects [] = refl
  objects (item ∷ items) =
      ap (λ pieces. if rules.shard_of item.name == shard then record { key = Object item.name; object = item.object } ∷ pieces else pieces) (objects items)

  named : (names : List DummyName) → dummies_in rules shard names ≡ dummies_in other shard names
  named [] = refl
  named (name ∷ names) =
      ap (λ pieces. if name.shard == shard then record { key = Dummy name.shard name.serial; object = rules.dummy_object } ∷ pieces else pieces) (named names)

  used : (x : Session) → used_up rules x shard ≡ used_up other x shard
  used x = λ i. objects x.transaction.inputs i ++ named x.dummies i

  read : (x : Session) → read_only rules x shard ≡ read_only other x shard
  read x = objects x.transaction.references

  pub anchors : (x : Session) → anchor rules x shard ≡ anchor other x shard
  anchors x = ap first_key (used x)

  accepted : (t : Table) (x : Session) → with_accepted rules shard t x ≡ with_accepted other shard t x
  accepted t x = λ i. record {
    at = λ key. record {
      state = accept_state (has_key key (used x i)) (has_key key (read x i)) x.digest (object_under (objects x.transaction.outputs i ++ new_dummy rules shard t (named x.dummies i)) key) (t.at key).state;
      book = (t.at key).book;
    };
    next = t.next + length (new_dummy rules shard t (named x.dummies i));
  }

  acts-at : (t : Table) (entry : Entry) (key : Option Key) → act rules shard t entry key ≡ act other shard t entry key
  acts-at t (Prepare x) None = refl
  acts-at t (Decide x vote) None = refl
  acts-at t (Prepare x) (Some key) = λ i. prepare t x.digest key (used x i) (read x i)
  acts-at t (Decide x Commit) (Some key) = λ i.
      if is_locked_by x.digest (t.at key).state
      then record { table = accepted t x i; effect = Accepted }
      else record { table = t; effect = Skipped }
  acts-at t (Decide x Abort) (Some key) = λ i.
      if is_locked_by x.digest (t.at key).state
      then record { table = with_aborted t x.digest key (used x i) (read x i); effect = Aborted }
      else record { table = t; effect = Skipped }

  pub acts : (t : Table) (entry : Entry) → act rules shard t entry (anchor rules (session_of entry) shard) ≡ act other shard t entry (anchor other (session_of entry) shard)
  acts t entry = acts-at t entry (anchor rules (session_of entry) shard) ∙ ap (act other shard t entry) (anchors (session_of entry))
