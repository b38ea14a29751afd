-- The trail of a node that is given first some inputs, then others.
use Rattle.std.proofs.Common.{◌≡◌, ℕ, List, [], ◌∷◌, ◌++◌, map, false, refl, sym, ap, ◌∙◌, append_assoc, append-nil}
use Rattle.std.proofs.lemmas.List.{map-append}
use Rattle.cs_base.specs.declared.node_id.NodeId.{NodeId}
use Rattle.cs_node_state.specs.Setup.{Setup}
use Rattle.cs_node_rules.specs.Net.{Net, sealed_by_net}
use Rattle.cs_node_rules.specs.Signs.{Sign, Dropped, Took, Entered, Viewed, Did, Headed, Kept, Sent}
use Rattle.cs_node_rules.specs.Lines.{Parcel, parcels_of, sign_line, sign_lines}
use Rattle.cs_node_rules.specs.Site.{Input, Mark, In, Ordered, Plain, Site, View, mark_step, view_after, signs_of}
use Rattle.cs_node_rules.specs.Trail.{event_marks}
use Rattle.cs_node.proofs.Sums.{signs-append, view-append}
use Rattle.cs_serve.specs.Serving.{trail, offers_of, lines_of}

abbrev seen : Parcel → NodeId × List ℕ
seen parcel = (parcel.to, parcel.bytes)

parcels-append : (net : Net) (me : NodeId) (new old : List Sign) → parcels_of net me (new ++ old) ≡ parcels_of net me old ++ parcels_of net me new
parcels-append net me [] old = sym (append-nil (parcels_of net me old))
parcels-append net me (Dropped cause ∷ new) old = parcels-append net me new old
parcels-append net me (Took sender vote x ∷ new) old = parcels-append net me new old
parcels-append net me (Entered x ∷ new) old = parcels-append net me new old
parcels-append net me (Viewed slot view ∷ new) old = parcels-append net me new old
parcels-append net me (Headed number head ∷ new) old = parcels-append net me new old
parcels-append net me (Kept index checkpoint ∷ new) old = parcels-append net me new old
parcels-append net me (Did slot place entry effect ∷ new) old = parcels-append net me new old
parcels-append net me (Sent to message ∷ new) old =
    let last : Parcel = record { from = me; to = to; bytes = sealed_by_net net me to message; arrived = false } in
    ap (λ (ps : List Parcel). ps ++ last ∷ []) (parcels-append net me new old) ∙ append_assoc (parcels_of net me old) (parcels_of net me new) (last ∷ [])

lines-append : (setup : Setup) (me : NodeId) (new old : List Sign) → sign_lines setup false me (new ++ old) ≡ sign_lines setup false me old ++ sign_lines setup false me new
lines-append setup me [] old = sym (append-nil (sign_lines setup false me old))
lines-append setup me (sign ∷ new) old =
    ap (λ bytes. bytes ++ sign_line setup false me sign) (lines-append setup me new old)
    ∙ append_assoc (sign_lines setup false me old) (sign_lines setup false me new) (sign_line setup false me sign)

module _ {M : Type 0} (site : Site M) where
  -- a node keeps its name
  step-me : (mark : Mark M) (v : View M) → (mark_step site mark v).me ≡ v.me
  step-me (In input) v = refl
  step-me (Ordered deed) v = refl
  step-me (Plain sign) v = refl

  pub me-same : (marks : List (Mark M)) (v : View M) → (view_after site marks v).me ≡ v.me
  me-same [] v = refl
  me-same (mark ∷ past) v = step-me mark (view_after site past v) ∙ me-same past v

  pub offers-append : (v w : View M) (new old : List (Mark M)) → w.me ≡ v.me → offers_of site v (new ++ old) ≡ offers_of site v old ++ offers_of site w new
  offers-append v w new old same =
      ap (λ signs. map seen (parcels_of site.net v.me signs)) (signs-append new old)
      ∙ ap (map seen) (parcels-append site.net v.me (signs_of new) (signs_of old))
      ∙ map-append (seen) (parcels_of site.net v.me (signs_of old)) (parcels_of site.net v.me (signs_of new))
      ∙ ap (λ (me : NodeId). offers_of site v old ++ map seen (parcels_of site.net me (signs_of new))) (sym same)

  pub bytes-append : (v w : View M) (new old : List (Mark M)) → w.me ≡ v.me → lines_of site v (new ++ old) ≡ lines_of site v old ++ lines_of site w new
  bytes-append v w new old same =
      ap (λ signs. sign_lines site.setup false v.me signs) (signs-append new old)
      ∙ lines-append site.setup v.me (signs_of new) (signs_of old)
      ∙ ap (λ (me : NodeId). lines_of site v old ++ sign_lines site.setup false me (signs_of new)) (sym same)

  -- the view after some inputs
  abbrev pub after : View M → List Input → View M
  after v inputs = view_after site (trail site v inputs) v

  pub trail-append : (v : View M) (later first : List Input) → trail site v (later ++ first) ≡ trail site (after v first) later ++ trail site v first
  trail-append v [] first = refl
  trail-append v (input ∷ later) first =
      let whole = trail-append v later first in
      let seen : after v (later ++ first) ≡ after (after v first) later =
      ap (λ (marks : List (Mark M)). view_after site marks v) whole ∙ view-append site (trail site (after v first) later) (trail site v first) v in
      ap (λ (marks : List (Mark M)). event_marks site (after v (later ++ first)) input ++ marks) whole
      ∙ ap (λ (w : View M). event_marks site w input ++ (trail site (after v first) later ++ trail site v first)) seen
      ∙ sym (append_assoc (event_marks site (after (after v first) later) input) (trail site (after v first) later) (trail site v first))

  pub after-append : (v : View M) (later first : List Input) → after v (later ++ first) ≡ after (after v first) later
  after-append v later first =
      ap (λ (marks : List (Mark M)). view_after site marks v) (trail-append v later first)
      ∙ view-append site (trail site (after v first) later) (trail site v first) v

  pub trail-one : (v : View M) (input : Input) → trail site v (input ∷ []) ≡ event_marks site v input
  trail-one v input = append-nil (event_marks site v input)
