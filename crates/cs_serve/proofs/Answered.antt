-- What a node makes of an input is given where its datagrams are offered and its lines are printed.
use Rattle.std.proofs.Common.{◌≡◌, Bool, refl, ap, subst, ◌∙◌}
use Rattle.cs_base.specs.declared.node_id.NodeId.{NodeId}
use Rattle.cs_ledger.specs.Ledger.{Bytes}
use Rattle.cs_order.specs.Deeds.{Member}
use Rattle.cs_tx.specs.Digest.{digest_of_session}
use Rattle.cs_tx_types.specs.declared.session.Session.{Session}
use Rattle.cs_tx_types.specs.declared.transaction.Tx.{Tx}
use Rattle.cs_node_state.specs.Setup.{Setup, digest_of}
use Rattle.cs_node_rules.specs.Site.{Input, Site, View, signs_of}
use Rattle.cs_node_rules.specs.Trail.{event_marks}
use Rattle.cs_io.specs.Link.{Offers}
use Rattle.cs_io.specs.Outside.{LinkTold, Beside}
use Rattle.cs_node.specs.declared.node_core.Core.{Core}
use Rattle.cs_node.specs.declared.outs.Made.{Made}
use Rattle.cs_node.specs.Cores.{CoreStandsFor}
use Rattle.cs_node.specs.Steps.{Event}
use Rattle.cs_serve.specs.Offering.{offers_in}
use Rattle.cs_serve.specs.Telling.{served_notes_text}
use Rattle.cs_serve.specs.Giving.{Gives, GivesFront}
use Rattle.cs_serve.specs.Serving.{offers_of, lines_of, NodeGivesAll, GivesPart}
use Rattle.cs_serve.specs.laws.Offering.{adds-none, front-none}
use Rattle.cs_serve.proofs.Noted.{outs-noted, lines-noted}
use Rattle.cs_serve.proofs.Giving.{AppendsFront-none}

-- sessions are named by their digests
pub named-by-digest : {O J M : Type 0} (stands : O → Member M → Type 0) (approves : J → Tx → Bool) (site : Site M) (core : Core O J M) (v : View M) → CoreStandsFor stands approves site core v → (x : Session) → digest_of site.setup x ≡ digest_of_session x
named-by-digest stands approves site core v is x = let P : Setup → Type 0 = λ setup. digest_of setup x ≡ digest_of_session x in subst P is.keeps.setup_is refl

module _ {M : Type 0} (site : Site M) (v : View M) (input : Input) (made : Made) (me : NodeId) (After : View M → Type 0)
    (digests : (x : Session) → digest_of site.setup x ≡ digest_of_session x) (named : me ≡ v.me) (event : Event site v input made After) where
  offers-are : offers_in made.outs ≡ offers_of site v (event_marks site v input)
  offers-are = ap offers_in event.outs ∙ outs-noted site.net v.me (signs_of (event_marks site v input))

  lines-are : served_notes_text me made.notes ≡ lines_of site v (event_marks site v input)
  lines-are =
      ap (λ (n : NodeId). served_notes_text n made.notes) named ∙ ap (served_notes_text v.me) event.notes
      ∙ lines-noted site.setup digests v.me (signs_of (event_marks site v input))

  pub all-given : (a b : Beside LinkTold) → Gives (offers_in made.outs) (served_notes_text me made.notes) a b → NodeGivesAll site v (event_marks site v input) a b
  all-given a b gives =
      let O : Offers → Type 0 = λ offers. Gives offers (served_notes_text me made.notes) a b in
      let L : Bytes → Type 0 = λ lines. Gives (offers_of site v (event_marks site v input)) lines a b in
      subst L lines-are (subst O offers-are gives)

  pub part-given : (a b : Beside LinkTold) → GivesFront (offers_in made.outs) (served_notes_text me made.notes) a b → GivesPart site v (event_marks site v input) a b
  part-given a b gives =
      let O : Offers → Type 0 = λ offers. GivesFront offers (served_notes_text me made.notes) a b in
      let L : Bytes → Type 0 = λ lines. GivesFront (offers_of site v (event_marks site v input)) lines a b in
      subst L lines-are (subst O offers-are gives)

-- nothing was given
pub none-given : (a : Beside LinkTold) (offers : Offers) (lines : Bytes) → GivesFront offers lines a a
none-given a offers lines = record { offered = front-none a.told.offered a.told.offered offers (adds-none a.told.offered); written = AppendsFront-none a.written lines }
