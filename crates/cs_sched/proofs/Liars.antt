-- Liars: names told apart, how many a shard has, and what is known of one whose line is taken.
use Rattle.std.specs.Prelude.{◌≡◌, ◌≢◌, ℕ, ◌+◌, ◌<◌, ◌≤◌, ◌==◌, nat_lt, Bool, true, false, ◌&&◌, ◌||◌, List, [], ◌∷◌, ◌++◌, length, Ok, Err, if◌then◌else◌}
use Rattle.std.specs.List.{All, AllPairs, sum_by}
use Rattle.std.proofs.Common.{◌∙◌, sym, ap, refl, subst, arith, get_or, zero, suc, cond}
use Rattle.std.proofs.lemmas.Bool.{true≢false, and_parts, eqb-true, ltb-true}
use Rattle.std.proofs.lemmas.Bool.Decides.{nat_tests}
use Rattle.std.proofs.lemmas.List.{get_or_append_left, length-append}
use Rattle.std.proofs.lemmas.List.Elements.{All-push}
use Rattle.std.proofs.lemmas.List.Quantifiers.{all_pairs_push}
use Rattle.std.proofs.lemmas.List.Sums.{sum_by-append}
use Rattle.std.proofs.Math.Seq.{get_or-append_seam}
use Rattle.cs_base.specs.NodeId.{is_node, is_client}
use Rattle.cs_base.specs.declared.config.Config.{Config}
use Rattle.cs_base.specs.declared.node_id.NodeId.{NodeId}
use Rattle.cs_sched.specs.declared.schedule.Schedule.{Schedule}
use Rattle.cs_text.specs.declared.cause.Cause.TheVariants as cause
use Rattle.cs_sched.specs.Naming.{name_of_field, is_name, is_liar, liars_of, one_more_liar, liar_in}
use Rattle.cs_sched.specs.Said.{liar_said}
use Rattle.cs_text.proofs.Steps.{step_ok, ok_same, when_ok, unless_ok}
use Rattle.cs_sched.proofs.Told.{named_ok, left_of}

-- names told apart

name_same : (a b : NodeId) → is_name a b ≡ true → a ≡ b
name_same a b is =
    let (shard, index) = and_parts (a.shard == b.shard) (a.index == b.index) is in
    let shards = eqb-true a.shard b.shard shard in
    let indexes = eqb-true a.index b.index index in
    λ i. record { shard = shards i; index = indexes i }

number_self : (n : ℕ) → (n == n) ≡ true
number_self n = grind (arith, nat_tests)

name_self : (a : NodeId) → is_name a a ≡ true
name_self a = rw (number_self a.shard, number_self a.index) refl

none_of : (test others : Bool) → (test || others) ≡ false → (test ≡ false) × (others ≡ false)
none_of true others none = absurd (true≢false none)
none_of false others none = (refl, none)

-- a name that is none of these differs from each
not_listed : (names : List NodeId) (name : NodeId) → is_liar names name ≡ false → (k : ℕ) (d : NodeId) → k < length names → get_or names k d ≢ name
not_listed [] name new k d within same = omega arith
not_listed (first ∷ names) name new zero d within same =
    true≢false (sym (name_self name) ∙ ap (is_name name) (sym same) ∙ (none_of (is_name name first) (is_liar names name) new).0)
not_listed (first ∷ names) name new (suc k) d within same =
    not_listed names name (none_of (is_name name first) (is_liar names name) new).1 k d (omega arith) same

-- and one that differs from each is none of them
unlisted : (names : List NodeId) (name : NodeId) → ((k : ℕ) → k < length names → get_or names k name ≢ name) → is_liar names name ≡ false
unlisted [] name differ = refl
unlisted (first ∷ names) name differ = by (is_name name first) refl (unlisted names name (λ k within. differ (suc k) (omega arith)))
  where
    by : (test : Bool) → is_name name first ≡ test → is_liar names name ≡ false → (is_name name first || is_liar names name) ≡ false
    by true is others = absurd (differ 0 (omega arith) (sym (name_same name first is)))
    by false is others = rw is others

pub liars_differ : (liars : List NodeId) (name : NodeId) → AllPairs (λ a b. a ≢ b) liars → is_liar liars name ≡ false → AllPairs (λ a b. a ≢ b) (liars ++ name ∷ [])
liars_differ liars name differ new = all_pairs_push (λ a b. a ≢ b) liars name differ (not_listed liars name new)

-- of names that differ, none is one of those before it
pub new_liar : (before after : List NodeId) (name : NodeId) → AllPairs (λ a b. a ≢ b) (before ++ name ∷ after) → is_liar before name ≡ false
new_liar before after name differ =
    unlisted before name (λ k within same. differ k (length before) name within (omega (arith, length-append before (name ∷ after)))
    (get_or_append_left before (name ∷ after) name k within ∙ same ∙ sym (get_or-append_seam before name after name)))

-- how many a shard has

abbrev of_shard : ℕ → NodeId → ℕ
of_shard shard liar = cond (liar.shard == shard) 1 0

liars_of-append : (before after : List NodeId) (shard : ℕ) → liars_of (before ++ after) shard ≡ liars_of before shard + liars_of after shard
liars_of-append before after shard = sum_by-append (of_shard shard) before after

pub one_more : (liars : List NodeId) (name : NodeId) (most : ℕ) → ((shard : ℕ) → liars_of liars shard ≤ most) → liars_of liars name.shard < most
    → (shard : ℕ) → liars_of (liars ++ name ∷ []) shard ≤ most
one_more liars name most few room shard = subst (λ n. n ≤ most) (sym (liars_of-append liars (name ∷ []) shard)) (by (name.shard == shard) refl)
  where
    by : (test : Bool) → (name.shard == shard) ≡ test → liars_of liars shard + liars_of (name ∷ []) shard ≤ most
    by true is =
        let same : name.shard ≡ shard = eqb-true name.shard shard is in
        let here : liars_of liars shard < most = subst (λ s. liars_of liars s < most) same room in
        let one : liars_of (name ∷ []) shard ≡ 1 = rw is refl in
        omega arith
    by false is =
        let here : liars_of liars shard ≤ most = few shard in
        let none : liars_of (name ∷ []) shard ≡ 0 = rw is refl in
        omega arith

-- before one that is listed there is room
pub room_before : (before after : List NodeId) (name : NodeId) (most : ℕ) → liars_of (before ++ name ∷ after) name.shard ≤ most → liars_of before name.shard < most
room_before before after name most few =
    let split : liars_of (before ++ name ∷ after) name.shard ≡ liars_of before name.shard + liars_of (name ∷ after) name.shard = liars_of-append before (name ∷ after) name.shard in
    let more : liars_of (name ∷ after) name.shard ≡ liars_of (name ∷ []) name.shard + liars_of after name.shard = liars_of-append (name ∷ []) after name.shard in
    let one : liars_of (name ∷ []) name.shard ≡ 1 = rw (number_self name.shard) refl in
    omega arith

-- one whose line is taken

pub record IsNewLiar (config : Config) (liars : List NodeId) (name : NodeId) : Type 0 where
  pub node : is_node config name ≡ true
  pub new : is_liar liars name ≡ false
  pub room : liars_of liars name.shard < config.f

liar_in-ok : (config : Config) (liars : List NodeId) (field : List ℕ) (liar : NodeId) → liar_in config liars field ≡ Ok liar → IsNewLiar config liars liar
liar_in-ok config liars field liar is =
    let (name, found, after) = step_ok (name_of_field config field) (λ name. if is_client name then Err cause.Role else one_more_liar config liars name) liar is in
    let (node, more) = unless_ok (is_client name) (one_more_liar config liars name) cause.Role liar after in
    let (new, room) = unless_ok (is_liar liars name) (if nat_lt (liars_of liars name.shard) config.f then Ok name else Err cause.Liars) cause.Liars liar more in
    let (fewer, same) = when_ok (nat_lt (liars_of liars name.shard) config.f) (Ok name) cause.Liars liar room in
    subst (IsNewLiar config liars) (ok_same name liar same) (record {
      node = left_of (is_node config name) (is_client name) (named_ok config field name found) node;
      new = new;
      room = ltb-true (liars_of liars name.shard) config.f fewer;
    })

pub liar_said-ok : (schedule : Schedule) (fields : List (List ℕ)) (liar : NodeId) → liar_said schedule fields ≡ Ok liar → IsNewLiar schedule.config schedule.liars liar
liar_said-ok schedule [] liar is = absurd cc
liar_said-ok schedule (field ∷ []) liar is = liar_in-ok schedule.config schedule.liars field liar is
liar_said-ok schedule (field ∷ another ∷ more) liar is = absurd cc
