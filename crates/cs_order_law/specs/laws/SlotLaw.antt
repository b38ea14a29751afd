-- The law holds of the order among 3f+1 members.
use Rattle.std.proofs.Common.{◌≡◌, ◌≢◌, ℕ, ◌+◌, ◌*◌, ◌≤◌, ◌<◌, Bool, true, not, List, [], ◌∷◌, ◌++◌, Some, slice_get, ◌⊎◌, inl, inr, refl, sym, ap, ap₂, subst, arith}
use Rattle.std.proofs.lemmas.Bool.Decides.{eqb_tells}
use Rattle.cs_base.specs.Lists.{IsIn}
use Rattle.cs_order.specs.laws.Lists.{IsIn-left, IsIn-right, slice_get-left, slice_get-push}
use Rattle.cs_order.specs.Counts.{count_below}
use Rattle.cs_order.specs.Deeds.{Deed, Member, did, chosen_in, sent_by}
use Rattle.cs_order.specs.Runs.{Act, deeds_of, member_of, HandedOut, Follows, IsRun, entries_handed_in, handed_in}
use Rattle.cs_order.specs.Law.{Admitted, HasChosen, Law, Undisturbed}
use Rattle.cs_order.specs.Deeds as deed
use Rattle.cs_order.specs.declared.proposed.Proposed.{Proposed}
use Rattle.cs_order_rules.specs.declared.message.Change.{Change}
use Rattle.cs_order_rules.specs.declared.message.OrderMessage.{OrderMessage}
use Rattle.cs_order_rules.specs.declared.message.OrderMessage.TheVariants as message
use Rattle.cs_order_law.specs.laws.Quorum.{one_honest}
use Rattle.cs_order_law.specs.laws.Views.{LocalFacts, IsConfirmed, agreement, honest_in, echo_of_confirm}
use Rattle.cs_order_rules.specs.Slot.{is_digest, is_entry}
use Rattle.cs_order_rules.specs.Facts.{Sight, open_slot, carried}
use Rattle.cs_order_rules.specs.Rules.{seen_now}
use Rattle.cs_order_rules.specs.SlotMachine.{slot_machine, sight}
use Rattle.cs_order_law.specs.laws.SlotFacts.{pending_is}
use Rattle.cs_order_law.specs.laws.RuleFacts.{Chooses, IsKnown, said_confirm, said_done}
use Rattle.cs_order_law.specs.laws.Sound.{SlotAct, MayNew, Source, StepOf, Sound, sound_step}
use Rattle.cs_order_law.specs.laws.Steps.{Vouches, IsStep, step_of, vouch_new}

abbrev SlotRun : Type 0
SlotRun = List (Act OrderMessage)

abbrev LogStep : Sight → Sight → Type 0
LogStep s t = (t.log ≡ s.log) ⊎ ((e : Proposed) × Chooses s e × (t.log ≡ s.log ++ e ∷ []))

pub log_kept : (s t : Sight) → LogStep s t → (n : ℕ) (e : Proposed) → slice_get s.log n ≡ Some e → slice_get t.log n ≡ Some e
log_kept s t (inl same) n e h = rw same h
log_kept s t (inr more) n e h = rw more.2 (slice_get-left s.log (more.0 ∷ []) n e h)

-- from one state to a later one
pub record Later (s t : Sight) : Type 0 where
  pub same_f : t.f ≡ s.f
  pub same_me : t.me ≡ s.me
  pub kept : (x : ℕ × OrderMessage) → IsIn x s.taken → IsIn x t.taken
  pub log : (n : ℕ) (e : Proposed) → slice_get s.log n ≡ Some e → slice_get t.log n ≡ Some e

later_same : (s : Sight) → Later s s
later_same s = record { same_f = refl; same_me = refl; kept = λ x h. h; log = λ n e h. h }

later_step : (act : SlotAct) (s t : Sight) → StepOf act s t → Later s t
later_step act s t one = record { same_f = one.same_f; same_me = one.same_me; kept = one.kept; log = log_kept s t one.log }

own_later : (s t : Sight) → Later s t → (m : OrderMessage) → IsIn (s.me, m) s.taken → IsIn (t.me, m) t.taken
own_later s t later m h = rw later.same_me (later.kept (s.me, m) h)

vouch_later : (s t : Sight) → Later s t → (m : OrderMessage) → Vouches s m → Vouches t m
vouch_later s t later (message.Propose n w e) h = own_later s t later (message.Propose n w e) h
vouch_later s t later (message.Echo n w e) h = own_later s t later (message.Echo n w e) h
vouch_later s t later (message.Confirm n w e) h = own_later s t later (message.Confirm n w e) h
vouch_later s t later (message.Change n w e) h = own_later s t later (message.Change n w e) h
vouch_later s t later (message.Done n e) h = later.log n e h

-- what a new own message carries was handed in by its call
pub new_carried : (act : SlotAct) (s t : Sight) (m : OrderMessage) (e : Proposed) → MayNew act s t m → IsIn e (carried m) → IsIn e (entries_handed_in slot_machine act)
new_carried act s t (message.Propose n w p) e h k = rw h.3.1 k
new_carried act s t (message.Echo n w d) e h k = absurd k
new_carried act s t (message.Confirm n w d) e h k = absurd k
new_carried act s t (message.Change n w c) e h k = absurd k
new_carried act s t (message.Done n p) e h k = absurd h

module _ (f : ℕ) (honest : ℕ → Bool) (few : count_below (3 * f + 1) (λ i. not (honest i)) ≤ f) where
  -- an honest member of the shard
  abbrev pub IsMember : ℕ → Type 0
  IsMember i = (i < 3 * f + 1) × (honest i ≡ true)

  abbrev at : SlotRun → ℕ → Sight
  at past i = sight (member_of f i past)

  -- a quorum whose honest members have confirmed the digest
  abbrev pub HasQuorum : SlotRun → ℕ → ℕ → List ℕ → Type 0
  HasQuorum past n v d = (set : ℕ → Bool) × (2 * f + 1 ≤ count_below (3 * f + 1) set) × ((j : ℕ) → IsMember j → set j ≡ true → IsIn (j, message.Confirm n v d) (at past j).taken)

  pub record Inv (past : SlotRun) : Type 0 where
    pub sound : (i : ℕ) → IsMember i → Sound (at past i)
    -- what was taken as from an honest member, it has said
    pub cross : (i j : ℕ) (m : OrderMessage) → IsMember i → IsMember j → IsIn (j, m) (at past i).taken → Vouches (at past j) m
    pub sent : (j to : ℕ) (m : OrderMessage) → IsMember j → HandedOut j m to past → Vouches (at past j) m
    pub entries : (i k : ℕ) (m : OrderMessage) (e : Proposed) → IsMember i → IsIn (k, m) (at past i).taken → IsIn e (carried m) → IsIn e (handed_in slot_machine past)
    pub echoes : (i n w : ℕ) (d : List ℕ) → IsMember i → IsIn (i, message.Echo n w d) (at past i).taken → (e : Proposed) × (d ≡ e.digest) × Admitted slot_machine f e past × IsIn e (handed_in slot_machine past)
    pub chosen : (i n : ℕ) (e : Proposed) → IsMember i → slice_get (at past i).log n ≡ Some e → IsIn e (handed_in slot_machine past) × ((v : ℕ) × HasQuorum past n v e.digest)

  begin : Inv []
  begin =
      record {
        sound = λ i h.
            record {
              small = omega arith;
              within = λ m k. absurd k;
              no_own_done = λ n e k. k;
              one_echo = λ n w d e k l. absurd k;
              echo_safe = λ n w d k l. absurd k;
              confirm_echoed = λ n v d k. absurd k;
              change_tells = λ n w v c d k l b. absurd k;
              change_lists = λ n w u c d k l. absurd k;
            };
        cross = λ i j m h k l. absurd l;
        sent = λ j to m h k. absurd k;
        entries = λ i k m e h l c. absurd l;
        echoes = λ i n w d h l. absurd l;
        chosen = λ i n e h l. absurd (let none = l in cc);
      }

  module _ (act : Act OrderMessage) (past : SlotRun) (follows : Follows slot_machine f honest past act) (inv : Inv past) where
    -- the member whose deed it is
    caller : IsMember act.member
    caller = (follows.is_member, follows.is_honest)

    abbrev before : Sight
    before = at past act.member

    abbrev after : Sight
    after = sight (did act.deed (member_of f act.member past))

    both_ways : IsStep act.deed before after (sent_by act.deed)
    both_ways = step_of (member_of f act.member past) act.deed follows.keeps

    one : StepOf act.deed before after
    one = both_ways.0

    now_at : (j : ℕ) → act.member ≡ j → at (act ∷ past) j ≡ after
    now_at j e =
        elim (eqb_tells act.member j) [
          | inl h ↦ rw h.0 (ap (λ k. sight (record { f = f; me = k; deeds = act.deed ∷ deeds_of k past })) (sym e))
          | inr h ↦ absurd (h.1 e)
        ]

    elsewhere : (j : ℕ) → act.member ≢ j → at (act ∷ past) j ≡ at past j
    elsewhere j n = elim (eqb_tells act.member j) [ inl h ↦ absurd (n h.1) | inr h ↦ rw h.0 refl ]

    by_state : (P : Sight → Type 0) (i : ℕ) → (act.member ≡ i → P after) → (act.member ≢ i → P (at past i)) → P (at (act ∷ past) i)
    by_state P i here there =
        elim (eqb_tells act.member i) [
          | inl h ↦ subst P (sym (now_at i h.1)) (here h.1)
          | inr h ↦ subst P (sym (elsewhere i h.1)) (there h.1)
        ]

    later : (i : ℕ) → Later (at past i) (at (act ∷ past) i)
    later i =
        by_state (λ t. Later (at past i) t) i
        (λ e. subst (λ k. Later (at past k) after) e (later_step act.deed before after one))
        (λ n. later_same (at past i))

    quorum_later : (n v : ℕ) (d : List ℕ) → HasQuorum past n v d → HasQuorum (act ∷ past) n v d
    quorum_later n v d q = (q.0, q.1, λ j h k. (later j).kept (j, message.Confirm n v d) (q.2 j h k))

    handed_later : (e : Proposed) → IsIn e (handed_in slot_machine past) → IsIn e (handed_in slot_machine (act ∷ past))
    handed_later e h = IsIn-right e (entries_handed_in slot_machine act.deed) (handed_in slot_machine past) h

    -- a fact that the caller has now: an old one, a message taken, or one of its own
    abbrev NewFact : ℕ → OrderMessage → Type 0
    NewFact j m = IsIn (j, m) (at past act.member).taken ⊎ Source act.deed before after (j, m)

    fact : (j : ℕ) (m : OrderMessage) → IsIn (j, m) after.taken → NewFact j m
    fact j m h = one.adds (j, m) h

    taken_from : (j : ℕ) (m : OrderMessage) → IsMember j → act.deed ≡ deed.Took_in j m → HandedOut j m act.member past
    taken_from j m h e = (let g = follows.genuine in (rw e at g) h.1)

    next_cross : (i j : ℕ) (m : OrderMessage) → IsMember i → IsMember j → IsIn (j, m) (at (act ∷ past) i).taken → Vouches (at (act ∷ past) j) m
    next_cross i j m hi hj =
        by_state (λ t. IsIn (j, m) t.taken → Vouches (at (act ∷ past) j) m) i
        (λ e h. elim (fact j m h) [
          | inl old ↦ vouch_later (at past j) (at (act ∷ past) j) (later j) m (inv.cross act.member j m caller hj old)
          | inr source ↦ elim source [
            | inl foreign ↦ vouch_later (at past j) (at (act ∷ past) j) (later j) m (inv.sent j act.member m hj (taken_from j m hj foreign.0))
            | inr own ↦
                (let mine : act.member ≡ j = sym own.0 in
                rw (now_at j mine) (vouch_new act.deed before after m own.1 (subst (λ k. IsIn (k, m) after.taken) (sym mine) h)))
          ]
        ])
        (λ n h. vouch_later (at past j) (at (act ∷ past) j) (later j) m (inv.cross i j m hi hj h))

    next_sent : (j to : ℕ) (m : OrderMessage) → IsMember j → HandedOut j m to (act ∷ past) → Vouches (at (act ∷ past) j) m
    next_sent j to m hj (inl now) = rw (now_at j now.0) (both_ways.1 (inv.sound act.member caller) m to now.1)
    next_sent j to m hj (inr old) = vouch_later (at past j) (at (act ∷ past) j) (later j) m (inv.sent j to m hj old)

    next_entries : (i k : ℕ) (m : OrderMessage) (e : Proposed) → IsMember i → IsIn (k, m) (at (act ∷ past) i).taken → IsIn e (carried m) → IsIn e (handed_in slot_machine (act ∷ past))
    next_entries i k m e hi h c =
        by_state (λ t. IsIn (k, m) t.taken → IsIn e (handed_in slot_machine (act ∷ past))) i
        (λ same h'. elim (fact k m h') [
          | inl old ↦ handed_later e (inv.entries act.member k m e caller old c)
          | inr source ↦ IsIn-left e (entries_handed_in slot_machine act.deed) (handed_in slot_machine past)
              (elim source [
                | inl foreign ↦ rw foreign.0 c
                | inr own ↦ new_carried act.deed before after m e own.1 c
              ])
        ])
        (λ n h'. handed_later e (inv.entries i k m e hi h' c))
        h

    abbrev EchoOf : SlotRun → List ℕ → Type 0
    EchoOf calls d = (e : Proposed) × (d ≡ e.digest) × Admitted slot_machine f e calls × IsIn e (handed_in slot_machine calls)

    echo_later : (d : List ℕ) → EchoOf past d → EchoOf (act ∷ past) d
    echo_later d h = (h.0, h.1, inr h.2, handed_later h.0 h.3)

    next_echoes : (i n w : ℕ) (d : List ℕ) → IsMember i → IsIn (i, message.Echo n w d) (at (act ∷ past) i).taken → EchoOf (act ∷ past) d
    next_echoes i n w d hi h =
        by_state (λ t. IsIn (i, message.Echo n w d) t.taken → EchoOf (act ∷ past) d) i
        (λ same h'. elim (fact i (message.Echo n w d) h') [
          | inl old ↦ echo_later d (inv.echoes act.member n w d caller (rw (← same) at old))
          | inr source ↦ elim source [
            | inl foreign ↦ absurd (foreign.1 (sym same))
            | inr own ↦
                (let new = own.1 in
                let e = new.5.0 in
                let p = pending_is before e new.5.1 in
                let known = p.proposed in
                (e, new.5.2, inl (rw new.4.1 new.5.1), handed_later e (inv.entries act.member _ _ e caller known (inl refl))))
          ]
        ])
        (λ n' h'. echo_later d (inv.echoes i n w d hi h'))
        h

    abbrev ChosenOf : SlotRun → ℕ → Proposed → Type 0
    ChosenOf calls n e = IsIn e (handed_in slot_machine calls) × ((v : ℕ) × HasQuorum calls n v e.digest)

    chosen_later : (n : ℕ) (e : Proposed) → ChosenOf past n e → ChosenOf (act ∷ past) n e
    chosen_later n e h = (handed_later e h.0, (h.1.0, quorum_later n h.1.0 e.digest h.1.1))

    known_handed : (n : ℕ) (e : Proposed) → IsKnown before n e → IsIn e (handed_in slot_machine past)
    known_handed n e (inl p) = inv.entries act.member p.0 (message.Propose n p.1 e) e caller p.2 (inl refl)
    known_handed n e (inr p) = inv.entries act.member p.0 (message.Done n e) e caller p.1 (inl refl)

    -- what the caller chooses now has a quorum
    chooses_now : (e : Proposed) → Chooses before e → ChosenOf past (open_slot before) e
    chooses_now e (inl confirmed) =
        let n = open_slot before in
        let v = confirmed.0 in (
          known_handed n e confirmed.2,
          (
            v,
            (
              (λ j. is_digest e.digest ((seen_now before).confirm v j)),
              confirmed.1,
              λ j hj k. inv.cross act.member j (message.Confirm n v e.digest) caller hj (said_confirm before v j e.digest k),
            ),
          ),
        )
    chooses_now e (inr done) =
        let n = open_slot before in
        let k = one_honest f (λ j. is_entry e ((seen_now before).done j)) honest few done in
        let hk : IsMember k.0 = (k.1, k.4) in
        inv.chosen k.0 n e hk (inv.cross act.member k.0 (message.Done n e) caller hk (said_done before k.0 e k.2))

    next_chosen : (i n : ℕ) (e : Proposed) → IsMember i → slice_get (at (act ∷ past) i).log n ≡ Some e → ChosenOf (act ∷ past) n e
    next_chosen i n e hi h =
        by_state (λ t. slice_get t.log n ≡ Some e → ChosenOf (act ∷ past) n e) i
        (λ same h'. elim one.log [
          | inl still ↦ chosen_later n e (inv.chosen act.member n e caller (rw still at h'))
          | inr more ↦ elim (slice_get-push before.log more.0 e n (rw more.2 at h')) [
            | inl old ↦ chosen_later n e (inv.chosen act.member n e caller old)
            | inr new ↦ chosen_later n e (rw (new.0, ← new.1) (chooses_now more.0 more.1))
          ]
        ])
        (λ n' h'. chosen_later n e (inv.chosen i n e hi h'))
        h

    pub next : Inv (act ∷ past)
    next =
        record {
          sound = λ i h. by_state Sound i (λ e. sound_step act.deed before after one (inv.sound act.member caller)) (λ n. inv.sound i h);
          cross = next_cross;
          sent = next_sent;
          entries = next_entries;
          echoes = next_echoes;
          chosen = next_chosen;
        }

  pub always : (past : SlotRun) → IsRun slot_machine f honest past → Inv past
  always [] run = begin
  always (act ∷ past) run = next act past run.0 (always past run.1)

  module _ (past : SlotRun) (run : IsRun slot_machine f honest past) (slot : ℕ) where
    inv : Inv past
    inv = always past run

    -- in the end, the honest member has said this in the slot
    abbrev Echoed : ℕ → ℕ → List ℕ → Type 0
    Echoed i w d = (i < 3 * f + 1) × IsIn (i, message.Echo slot w d) (at past i).taken

    abbrev Confirmed : ℕ → ℕ → List ℕ → Type 0
    Confirmed i v d = (i < 3 * f + 1) × IsIn (i, message.Confirm slot v d) (at past i).taken

    abbrev Changed : ℕ → ℕ → Change → Type 0
    Changed i w c = (i < 3 * f + 1) × IsIn (i, message.Change slot w c) (at past i).taken

    local_facts : LocalFacts f honest Echoed Confirmed Changed
    local_facts =
        record {
          one_echo = λ i w d e h a b. (inv.sound i (a.0, h)).one_echo slot w d e a.1 b.1;
          echo_safe = λ i w d h a above. (let m : IsMember i = (a.0, h) in
              let r = (inv.sound i m).echo_safe slot w d a.1 above in
              (r.0, r.1, λ j c lt hj e. (lt, (inv.cross i j (message.Change slot w c) m (lt, hj) (r.2 j c e)))));
          confirm_echoed = λ i v d h a. (let m : IsMember i = (a.0, h) in
              let r = (inv.sound i m).confirm_echoed slot v d a.1 in
              (r.0, r.1, λ j lt hj e. (lt, (inv.cross i j (message.Echo slot v d) m (lt, hj) (r.2 j e)))));
          change_tells = λ i w v c d h a b below. (let m : IsMember i = (a.0, h) in
              let r = (inv.sound i m).change_tells slot w v c d a.1 b.1 below in
              (r.0, r.1, r.2, r.3, (a.0, r.4)));
          change_lists = λ i w u c d h a k. (let m : IsMember i = (a.0, h) in (a.0, ((inv.sound i m).change_lists slot w u c d a.1 k)));
        }

    confirmed_by : (v : ℕ) (d : List ℕ) → HasQuorum past slot v d → IsConfirmed f honest Echoed Confirmed Changed few local_facts v d
    confirmed_by v d q = (q.0, q.1, λ j lt h k. (lt, q.2 j (lt, h) k))

    pub one_digest : (v w : ℕ) (d e : List ℕ) → HasQuorum past slot v d → HasQuorum past slot w e → d ≡ e
    one_digest v w d e p q = agreement f honest Echoed Confirmed Changed few local_facts v w d e (confirmed_by v d p) (confirmed_by w e q)

    -- some honest member echoed what has a quorum
    pub quorum_echoed : (v : ℕ) (d : List ℕ) → HasQuorum past slot v d → (e : Proposed) × (d ≡ e.digest) × Admitted slot_machine f e past × IsIn e (handed_in slot_machine past)
    quorum_echoed v d q =
        let i = honest_in f honest Echoed Confirmed Changed few local_facts v d (confirmed_by v d q) in
        let j = echo_of_confirm f honest Echoed Confirmed Changed few local_facts i.0 v d i.1 i.2 in
        inv.echoes j.0 slot v d (j.2.0, j.1) j.2.1

same_proposed : (a b : Proposed) → a.digest ≡ b.digest → a.bytes ≡ b.bytes → a ≡ b
same_proposed a b x y = ap₂ (λ (p : List ℕ) (q : List ℕ). let r : Proposed = record { digest = p; bytes = q } in r) x y

-- whoever has chosen is an honest member
is_member : (f : ℕ) (honest : ℕ → Bool) (past : SlotRun) → IsRun slot_machine f honest past → (i slot : ℕ) (a : Proposed) → HasChosen i slot a past → (i < 3 * f + 1) × (honest i ≡ true)
is_member f honest [] run i slot a h = absurd (let none = h in cc)
is_member f honest (act ∷ past) run i slot a h =
    elim (eqb_tells act.member i) [
      | inl e ↦ (rw (← e.1) run.0.is_member, rw (← e.1) run.0.is_honest)
      | inr e ↦ is_member f honest past run.1 i slot a (rw e.0 at h)
    ]

-- the law
pub slot_law : Law slot_machine
slot_law f honest past serves few run none =
    let inv = always f honest few past run in
    let member = is_member f honest past run in
    record {
      agree = λ i j slot a b h k. (
          let p = inv.chosen i slot a (member i slot a h) h in
          let q = inv.chosen j slot b (member j slot b k) k in
          let same = one_digest f honest few past run slot p.1.0 q.1.0 a.digest b.digest p.1.1 q.1.1 in
          same_proposed a b same (none a b p.0 q.0 same));
      admitted = λ i slot a h. (
          let p = inv.chosen i slot a (member i slot a h) h in
          let r = quorum_echoed f honest few past run slot p.1.0 a.digest p.1.1 in
          let same = same_proposed r.0 a (sym r.1) (none r.0 a r.3 p.0 (sym r.1)) in
          subst (λ x. Admitted slot_machine f x past) same r.2);
    }

-- what is sent again changes nothing of what the rules do
pub slot_undisturbed : Undisturbed slot_machine
slot_undisturbed = record { by_resend = λ h sent. refl; by_reply = λ h slot to sent. refl; by_cut = λ h slot. refl }
