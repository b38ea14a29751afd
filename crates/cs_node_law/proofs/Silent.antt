-- What a node sends, and the views of which it tells, leave it as it is.
use Rattle.std.proofs.Common.{◌≡◌, ◌⊎◌, inl, inr, ℕ, zero, suc, ◌+◌, ◌*◌, Bool, true, false, if◌then◌else◌, List, [], ◌∷◌, ◌++◌, length, Option, Some, None, sym, ◌∙◌, ap, subst, refl, append_assoc}
use Rattle.std.specs.Prelude.{nat_lt}
use Rattle.std.proofs.lemmas.Bool.{cond_both, or_right}
use Rattle.cs_tx.specs.Votes.{vote_of}
use Rattle.cs_base.specs.Lists.{IsIn}
use Rattle.cs_base.specs.declared.node_id.NodeId.{NodeId}
use Rattle.cs_tx_types.specs.declared.session.Session.{Session}
use Rattle.cs_wire_message.specs.declared.message.Message.{Message}
use Rattle.cs_wire_message.specs.declared.message.Message.TheVariants as message
use Rattle.cs_order.specs.declared.proposed.Proposed.{Proposed}
use Rattle.cs_order.specs.declared.answers.Outgoing.{Outgoing}
use Rattle.cs_order.specs.Deeds.{Deed, sent_by, chosen_in}
use Rattle.cs_order.specs.Runs.{IsFor}
use Rattle.cs_check_rules.specs.Chain.{chain_head}
use Rattle.cs_ledger.specs.Ledger.{Bytes}
use Rattle.cs_ledger.specs.Table.{Vote}
use Rattle.cs_ledger.proofs.Basics.{in_right, in_either}
use Rattle.cs_node_state.specs.Setup.{Setup, digest_of}
use Rattle.cs_base.specs.NodeId.{same_name, members_below}
use Rattle.cs_node_rules.specs.Members.{is_other_member, members, except, others}
use Rattle.cs_node_rules.specs.Signs.{Sign, Dropped, Took, Entered, Viewed, Did, Headed, Kept, Sent, sends}
use Rattle.cs_node_rules.specs.Site.{Datagram, Tick, Mark, In, Ordered, Plain, Site, View, plain, signs_of}
use Rattle.cs_node_rules.specs.Trail.{out_signs, handed, with_deed, entered_view, moving}
use Rattle.cs_node_rules.specs.Collisions.{sessions_in, in_opened, given}
use Rattle.cs_node_law.specs.Made.{view_at, log_in, actions_in, HasVotedOn, has_given, IsKnown, StoodDecided, SaidMade, SignMade, IsMade, AllMade, IsLevel}

-- ---- what was done, given and voted stays so

pub given-more : {M : Type 0} (setup : Setup) (d : Bytes) (vote : Vote) (mark : Mark M) (t : List (Mark M)) → has_given setup d vote (signs_of t) ≡ true → has_given setup d vote (signs_of (mark ∷ t)) ≡ true
given-more {M} setup d vote (In input) t h = h
given-more {M} setup d vote (Ordered deed) t h = h
given-more {M} setup d vote (Plain (Dropped cause)) t h = h
given-more {M} setup d vote (Plain (Took sender other x)) t h = h
given-more {M} setup d vote (Plain (Entered x)) t h = h
given-more {M} setup d vote (Plain (Viewed slot view)) t h = h
given-more {M} setup d vote (Plain (Headed number head)) t h = h
given-more {M} setup d vote (Plain (Kept index checkpoint)) t h = h
given-more {M} setup d vote (Plain (Sent to said)) t h = h
given-more {M} setup d vote (Plain (Did slot place entry effect)) t h = or_right _ _ h

pub voted-more : {M : Type 0} (x : Session) (mark : Mark M) (t : List (Mark M)) → HasVotedOn x (signs_of t) → HasVotedOn x (signs_of (mark ∷ t))
voted-more {M} x (In input) t h = h
voted-more {M} x (Ordered deed) t h = h
voted-more {M} x (Plain (Dropped cause)) t h = h
voted-more {M} x (Plain (Took sender other y)) t h = h
voted-more {M} x (Plain (Entered y)) t h = h
voted-more {M} x (Plain (Viewed slot view)) t h = h
voted-more {M} x (Plain (Headed number head)) t h = h
voted-more {M} x (Plain (Kept index checkpoint)) t h = h
voted-more {M} x (Plain (Sent to said)) t h = h
voted-more {M} x (Plain (Did slot place entry effect)) t h = inr h

pub session-more : {M : Type 0} (site : Site M) (me : NodeId) (x : Session) (mark : Mark M) (t : List (Mark M)) → IsIn x (given site sessions_in me t) → IsIn x (given site sessions_in me (mark ∷ t))
session-more {M} site me x (In (Datagram bytes)) t i = in_right x (in_opened sessions_in (site.net.opened me bytes)) (given site sessions_in me t) i
session-more {M} site me x (In Tick) t i = i
session-more {M} site me x (Ordered deed) t i = i
session-more {M} site me x (Plain sign) t i = i

-- how a session stood is so for good
pub stood-by : {M : Type 0} (site : Site M) (me : NodeId) (digest : Bytes) (accepted : Bool) (mark : Mark M) (t : List (Mark M)) → StoodDecided site me t digest accepted → StoodDecided site me (mark ∷ t) digest accepted
stood-by {M} site me digest accepted mark t h = record {
  session = h.session;
  digest_is = h.digest_is;
  known = session-more site me h.session mark t h.known;
  fit = h.fit;
  later = mark ∷ h.later;
  earlier = h.earlier;
  split = ap (λ l. mark ∷ l) h.split;
  stood = h.stood;
}

stood-more : {M : Type 0} (site : Site M) (me : NodeId) (digest : Bytes) (accepted : Bool) (mark : Mark M) (t : List (Mark M)) → StoodDecided site (view_at site me t).me t digest accepted → StoodDecided site (view_at site me (mark ∷ t)).me (mark ∷ t) digest accepted
stood-more {M} site me digest accepted (In input) t h = stood-by site (view_at site me t).me digest accepted (In input) t h
stood-more {M} site me digest accepted (Ordered deed) t h = stood-by site (view_at site me t).me digest accepted (Ordered deed) t h
stood-more {M} site me digest accepted (Plain sign) t h = stood-by site (view_at site me t).me digest accepted (Plain sign) t h

module _ {M : Type 0} (site : Site M) (me : NodeId) where
  abbrev At : List (Mark M) → View M
  At t = view_at site me t

  pub known-more : (x : Session) (mark : Mark M) (t : List (Mark M)) → IsKnown site (At t) t x → IsKnown site (At (mark ∷ t)) (mark ∷ t) x
  known-more x (In input) t (inl i) = inl (session-more site (At t).me x (In input) t i)
  known-more x (Ordered deed) t (inl i) = inl (session-more site (At t).me x (Ordered deed) t i)
  known-more x (Plain sign) t (inl i) = inl (session-more site (At t).me x (Plain sign) t i)
  known-more x mark t (inr h) = inr (voted-more x mark t h)

  pub said-more : (mark : Mark M) (t : List (Mark M)) (to : NodeId) (said : Message) → SaidMade site (At t) t to said → SaidMade site (At (mark ∷ t)) (mark ∷ t) to said
  said-more mark t to (message.Voted vote asks x) h = (given-more site.setup (digest_of site.setup x) (vote_of vote) mark t h.0, known-more x mark t h.1)
  said-more mark t to (message.Decided digest accepted) h = (h.0, stood-more site me digest accepted mark t h.1)
  said-more mark t to said h = h

  -- what may be sent may be sent later
  pub sent-more : (mark : Mark M) (t : List (Mark M)) (to : NodeId) (said : Message) → SignMade site (At t) t (Sent to said) → SignMade site (At (mark ∷ t)) (mark ∷ t) (Sent to said)
  sent-more (In input) t to said (inl h) = inl h
  sent-more (Ordered deed) t to said (inl h) = inl (h.0, inr h.1)
  sent-more (Plain sign) t to said (inl h) = inl h
  sent-more mark t to said (inr h) = inr (said-more mark t to said h)

  pub sent-over : (signs : List Sign) (t : List (Mark M)) (to : NodeId) (said : Message) → SignMade site (At t) t (Sent to said) → SignMade site (At (plain signs ++ t)) (plain signs ++ t) (Sent to said)
  sent-over [] t to said h = h
  sent-over (sign ∷ signs) t to said h = sent-more (Plain sign) (plain signs ++ t) to said (sent-over signs t to said h)

  pub given-over : (d : Bytes) (vote : Vote) (signs : List Sign) (t : List (Mark M)) → has_given site.setup d vote (signs_of t) ≡ true → has_given site.setup d vote (signs_of (plain signs ++ t)) ≡ true
  given-over d vote [] t h = h
  given-over d vote (sign ∷ signs) t h = given-more site.setup d vote (Plain sign) (plain signs ++ t) (given-over d vote signs t h)

  pub voted-over : (x : Session) (signs : List Sign) (t : List (Mark M)) → HasVotedOn x (signs_of t) → HasVotedOn x (signs_of (plain signs ++ t))
  voted-over x [] t h = h
  voted-over x (sign ∷ signs) t h = voted-more x (Plain sign) (plain signs ++ t) (voted-over x signs t h)

  -- ---- signs that only tell

  -- what was sent, each message made after t, and the views and the heads of which it is told
  abbrev pub AreSaid : List (Mark M) → List Sign → Type 0
  AreSaid t [] = Unit {0}
  AreSaid t (Sent to said ∷ signs) = SignMade site (At t) t (Sent to said) × AreSaid t signs
  AreSaid t (Viewed slot view ∷ signs) = AreSaid t signs
  AreSaid t (Headed number head ∷ signs) = (chain_head (At t).bench.log number ≡ Some head) × AreSaid t signs
  AreSaid t (Dropped cause ∷ signs) = AreSaid t signs
  AreSaid t (Took sender vote x ∷ signs) = ⊥
  AreSaid t (Entered x ∷ signs) = ⊥
  AreSaid t (Kept index checkpoint ∷ signs) = ⊥
  AreSaid t (Did slot place entry effect ∷ signs) = ⊥

  pub said-append : (t : List (Mark M)) (a b : List Sign) → AreSaid t a → AreSaid t b → AreSaid t (a ++ b)
  said-append t [] b of_a of_b = of_b
  said-append t (Sent to said ∷ a) b of_a of_b = (of_a.0, said-append t a b of_a.1 of_b)
  said-append t (Viewed slot view ∷ a) b of_a of_b = said-append t a b of_a of_b
  said-append t (Headed number head ∷ a) b of_a of_b = (of_a.0, said-append t a b of_a.1 of_b)
  said-append t (Dropped cause ∷ a) b of_a of_b = said-append t a b of_a of_b
  said-append t (Took sender vote x ∷ a) b of_a of_b = absurd of_a
  said-append t (Entered x ∷ a) b of_a of_b = absurd of_a
  said-append t (Kept index checkpoint ∷ a) b of_a of_b = absurd of_a
  said-append t (Did slot place entry effect ∷ a) b of_a of_b = absurd of_a

  pub said-sends : (t : List (Mark M)) (names : List NodeId) (said : Message) → ((to : NodeId) → IsIn to names → SignMade site (At t) t (Sent to said)) → AreSaid t (sends names said)
  said-sends t [] said f = tt
  said-sends t (to ∷ names) said f = said-append t (sends names said) (Sent to said ∷ []) (said-sends t names said (λ other i. f other (inr i))) (f to (inl refl), tt)

  -- u is t with marks that are made and leave the node as it is
  pub record Adds (t u : List (Mark M)) : Type 0 where
    pub made : AllMade site me u
    pub view : At u ≡ At t
    pub log : log_in (signs_of u) ≡ log_in (signs_of t)

  pub said-adds : (signs : List Sign) (t : List (Mark M)) → AllMade site me t → AreSaid t signs → Adds t (plain signs ++ t)
  said-adds [] t made h = record { made = made; view = refl; log = refl }
  said-adds (Sent to said ∷ signs) t made h =
      let r = said-adds signs t made h.1 in
      record { made = (sent-over signs t to said h.0, r.made); view = r.view; log = r.log }
  said-adds (Viewed slot view ∷ signs) t made h = let r = said-adds signs t made h in record { made = (tt, r.made); view = r.view; log = r.log }
  said-adds (Headed number head ∷ signs) t made h =
      let r = said-adds signs t made h.1 in
      let noted = subst (λ (v : View M). chain_head v.bench.log number ≡ Some head) (sym r.view) h.0 in
      record { made = (noted, r.made); view = r.view; log = r.log }
  said-adds (Dropped cause ∷ signs) t made h = let r = said-adds signs t made h in record { made = (tt, r.made); view = r.view; log = r.log }
  said-adds (Took sender vote x ∷ signs) t made h = absurd h
  said-adds (Entered x ∷ signs) t made h = absurd h
  said-adds (Kept index checkpoint ∷ signs) t made h = absurd h
  said-adds (Did slot place entry effect ∷ signs) t made h = absurd h

  pub adds-level : (t u : List (Mark M)) → IsLevel site me t → Adds t u → IsLevel site me u
  adds-level t u l a = record { made = a.made; executed = ap (λ (v : View M). length (actions_in site (chosen_in v.member.deeds))) a.view ∙ l.executed ∙ sym (ap length a.log) }

  pub said-level : (signs : List Sign) (t : List (Mark M)) → IsLevel site me t → AreSaid t signs → IsLevel site me (plain signs ++ t)
  said-level signs t l h = adds-level t (plain signs ++ t) l (said-adds signs t l.made h)

  -- marks that are made, by which so many actions were executed
  pub record IsAfter (n : ℕ) (t : List (Mark M)) : Type 0 where
    pub made : AllMade site me t
    pub count : length (log_in (signs_of t)) ≡ n

  pub said-after : (n : ℕ) (signs : List Sign) (t : List (Mark M)) → IsAfter n t → AreSaid t signs → IsAfter n (plain signs ++ t)
  said-after n signs t l h = let a = said-adds signs t l.made h in record { made = a.made; count = ap length a.log ∙ l.count }

-- ---- the members of a shard

except-in : (me x : NodeId) (names : List NodeId) → IsIn x (except me names) → IsIn x names
except-in me x [] i = absurd i
except-in me x (name ∷ names) i = go (same_name name me) (except-in me x names) i
  where
    go : (b : Bool) → (IsIn x (except me names) → IsIn x names) → IsIn x (if b then except me names else name ∷ except me names) → IsIn x (name ∷ names)
    go true again i = inr (again i)
    go false again (inl is) = inl is
    go false again (inr i) = inr (again i)

below-shard : (shard : ℕ) (x : NodeId) (n : ℕ) → IsIn x (members_below shard n) → x.shard ≡ shard
below-shard shard x zero i = absurd i
below-shard shard x (suc n) i =
    elim (in_either x (members_below shard n) (record { shard = shard; index = n } ∷ []) i) [
      | inl before ↦ below-shard shard x n before
      | inr last ↦ elim last [ inl is ↦ ap (λ (z : NodeId). z.shard) is | inr none ↦ absurd none ]
    ]

pub others-shard : (f : ℕ) (me x : NodeId) (shard : ℕ) → IsIn x (others f me (shard ∷ [])) → x.shard ≡ shard
others-shard f me x shard i =
    elim (in_either x (members_below shard (3 * f + 1)) [] (except-in me x (members f (shard ∷ [])) i)) [
      | inl here ↦ below-shard shard x (3 * f + 1) here
      | inr none ↦ absurd none
    ]

-- ---- deeds, with what they hand out

pub plain-onto : {M : Type 0} (a b : List Sign) (t : List (Mark M)) → plain (a ++ b) ++ t ≡ plain a ++ (plain b ++ t)
plain-onto {M} [] b t = refl
plain-onto {M} (sign ∷ a) b t = ap (λ (l : List (Mark M)). Plain sign ∷ l) (plain-onto a b t)

module _ {M : Type 0} (site : Site M) (me : NodeId) (t : List (Mark M)) (deed : Deed M) where
  abbrev pub Done : List (Mark M)
  Done = Ordered deed ∷ t

  out-said : (o : Option ℕ) (m : M) → ((member : ℕ) → (o ≡ None) ⊎ (o ≡ Some member) → IsFor m member (sent_by deed)) → AreSaid site me Done (out_signs site (view_at site me t).me o m)
  out-said None m f =
      let v = view_at site me t in
      said-sends site me Done (others site.setup.f v.me (v.me.shard ∷ [])) (site.carrier.written m)
      (λ to i. inl (others-shard site.setup.f v.me to v.me.shard i, inl (m, (f to.index (inl refl), refl))))
  out-said (Some to) m f =
      let v = view_at site me t in
      let name : NodeId = record { shard = v.me.shard; index = to } in
      cond_both (is_other_member site.setup.f v.me name) (Sent name (site.carrier.written m) ∷ []) [] (λ signs. AreSaid site me Done signs)
      (λ other. (inl (refl, inl (m, (f to (inr refl), refl))), tt))
      (λ not. tt)

  handed-said : (outs : List (Outgoing M)) → ((m : M) (member : ℕ) → IsFor m member outs → IsFor m member (sent_by deed)) → AreSaid site me Done (handed site (view_at site me t).me outs)
  handed-said [] f = tt
  handed-said (out ∷ outs) f =
      said-append site me Done (handed site (view_at site me t).me outs) (out_signs site (view_at site me t).me out.to out.message)
      (handed-said outs (λ m member h. f m member (inr h)))
      (out-said out.to out.message (λ member to. f out.message member (inl (refl, to))))

  abbrev pub Handed : List Sign
  Handed = handed site (view_at site me t).me (sent_by deed)

  abbrev Views : List Sign
  Views = entered_view (length (chosen_in (view_at site me t).member.deeds)) (site.machine.view (view_at site me t).member) (site.machine.view (view_at site me Done).member)

  pub all-handed : AreSaid site me Done Handed
  all-handed = handed-said (sent_by deed) (λ m member h. h)

  moved-said : AreSaid site me Done (Handed ++ Views)
  moved-said = said-append site me Done Handed Views all-handed (cond_both (nat_lt (site.machine.view (view_at site me t).member) (site.machine.view (view_at site me Done).member)) _ _ (λ s. AreSaid site me Done s) (λ e. tt) (λ e. tt))

  module _ (l : IsLevel site me t) (made : IsMade site me t (Ordered deed)) (e : chosen_in (deed ∷ (view_at site me t).member.deeds) ≡ chosen_in (view_at site me t).member.deeds) where
    -- a deed that chooses nothing
    pub done-level : IsLevel site me Done
    done-level = record { made = (made, l.made); executed = ap (λ (c : List Proposed). length (actions_in site c)) e ∙ l.executed }

    pub deed-level : IsLevel site me (with_deed site (view_at site me t) deed ++ t)
    deed-level = subst (λ z. IsLevel site me z) (sym (append_assoc (plain Handed) (Ordered deed ∷ []) t)) (said-level site me Handed Done done-level all-handed)

    pub moving-level : IsLevel site me (moving site (view_at site me t) deed ++ t)
    moving-level = subst (λ z. IsLevel site me z) (sym (append_assoc (plain (Handed ++ Views)) (Ordered deed ∷ []) t)) (said-level site me (Handed ++ Views) Done done-level moved-said)
