-- What a link tells from before it is bound, by what it tells from then on.
use Rattle.std.specs.Prelude.{reverse, min}
use Rattle.std.specs.Io.KnownBytes.{Appends}
use Rattle.std.proofs.Common.{◌≡◌, ◌+◌, ◌-◌, ◌^◌, ◌++◌, List, [], ◌∷◌, map, Option, ap, subst, ◌∙◌}
use Rattle.cs_base.specs.Answers.{AppendsFront}
use Rattle.cs_ledger.specs.Ledger.{Bytes}
use Rattle.cs_node_rules.specs.Site.{Input, Site, View}
use Rattle.cs_io.specs.Told.{Stays}
use Rattle.cs_io.specs.Link.{Offers}
use Rattle.cs_io.specs.Outside.{LinkTold, Beside, beside}
use Rattle.cs_io.specs.declared.link.MemInput.{MemInput}
use Rattle.cs_io.specs.declared.until.Until.{Until}
use Rattle.cs_serve.specs.declared.ending.End.{End}
use Rattle.cs_serve.specs.declared.ending.End.TheVariants as end
use Rattle.cs_serve.specs.declared.receiving.TheConstants.{MOST_MISSED}
use Rattle.cs_serve.specs.Giving.{given_of, Gives, GivesFront}
use Rattle.cs_serve.specs.Serving.{missed_past, NodeEnds, Serves}
use Rattle.cs_client.specs.declared.errand.Errand.{Errand}
use Rattle.cs_client.specs.Inputs.{ClientInput}
use Rattle.cs_proc.specs.declared.error.ProcError.{ProcError}
use Rattle.cs_serve.specs.declared.client_ending.Ending.{Ending}
use Rattle.cs_serve.specs.declared.client_ending.Ending.TheVariants.{Knows, Refused, LinkFault, Memory}
use Rattle.cs_serve.specs.Attending as attend
use Rattle.cs_serve.specs.laws.Offering.{adds-later, front-later}
use Rattle.cs_io.specs.laws.Told.{changes-after}
use Rattle.cs_deploy.specs.Node.{ServesFrom}

-- ---- a node

abbrev Came : List Input → List MemInput → List MemInput → Type 0
Came inputs before now = (taken : List MemInput) × (before ≡ taken ++ now) × (inputs ≡ reverse (map given_of taken))

-- what was given from the bind on was given from before it on
module _ (a a' : LinkTold) (w w' : Option Bytes) (b : Beside LinkTold) (kept : Stays a.offered a'.offered) (unwritten : w' ≡ w) where
  pub gives-later : (offers : Offers) (lines : Bytes) → Gives offers lines (beside a' w') b → Gives offers lines (beside a w) b
  gives-later offers lines gives = record {
    offered = adds-later a.offered a'.offered b.told.offered offers kept gives.offered;
    written = subst (λ (x : Option Bytes). Appends x b.written lines) unwritten gives.written;
  }

  pub part-later : (offers : Offers) (lines : Bytes) → GivesFront offers lines (beside a' w') b → GivesFront offers lines (beside a w) b
  part-later offers lines gives = record {
    offered = front-later a.offered a'.offered b.told.offered offers kept gives.offered;
    written = subst (λ (x : Option Bytes). AppendsFront x b.written lines) unwritten gives.written;
  }

-- a bind changed nothing of this
pub serves-later : {M : Type 0} (site : Site M) (v : View M) (until : Until) (b : Beside LinkTold) (a a' : LinkTold) (w w' : Option Bytes) (ending : End) → Stays a.left a'.left → Stays a.offered a'.offered → a'.missed ≡ a.missed → w' ≡ w
    → ServesFrom site v until (beside a' w') b ending → ServesFrom site v until (beside a w) b ending
serves-later site v until b a a' w w' ending stays kept same unwritten serves = record {
  inputs = serves.inputs;
  needed = serves.needed;
  enough = serves.enough;
  passes = record {
    takes = changes-after (Came serves.inputs) a.left a'.left b.told.left stays serves.passes.takes;
    ends = by ending serves.inputs serves.passes.ends;
    after = tt;
  };
}
  where
    by : (ending : End) (inputs : List Input) → NodeEnds site v inputs (beside a' w') b ending → NodeEnds site v inputs (beside a w) b ending
    by end.Done inputs (missed, gives) = (missed ∙ ap (λ n. missed_past n inputs) same, gives-later a a' w w' b kept unwritten _ _ gives)
    by end.Ended inputs (left, gives) = (left, gives-later a a' w w' b kept unwritten _ _ gives)
    by end.LinkFault inputs (missed, gives) = (missed ∙ ap (λ n. min (missed_past n inputs + MOST_MISSED) (2 ^ 64 - 1)) same, gives-later a a' w w' b kept unwritten _ _ gives)
    by end.WriteFault inputs gives = part-later a a' w w' b kept unwritten _ _ gives
    by end.Memory inputs gives = part-later a a' w w' b kept unwritten _ _ gives

-- the node that is left isn't spoken of
pub serves-alone : {C M : Type 0} (stands : C → View M → Type 0) (site : Site M) (v : View M) (until : Until) (a b : Beside LinkTold) (result : End × Option C) → Serves stands site v until a b result → ServesFrom site v until a b result.0
serves-alone {C} {M} stands site v until a b result serves = record {
  inputs = serves.inputs;
  needed = serves.needed;
  enough = serves.enough;
  passes = record { takes = serves.passes.takes; ends = serves.passes.ends; after = tt };
}

-- ---- a client

abbrev Taken : List ClientInput → List ClientInput → List ClientInput → Type 0
Taken inputs before now = (taken : List ClientInput) × (before ≡ taken ++ now) × (inputs ≡ reverse taken)

pub attends-later : (e : Errand) (until : Until) (a b c : LinkTold) (ending : Ending) → Stays a.left b.left → Stays a.offered b.offered → b.missed ≡ a.missed → attend.Attends e until b c ending → attend.Attends e until a c ending
attends-later e until a b c ending stays kept same attends = record {
  inputs = attends.inputs;
  needed = attends.needed;
  takes = changes-after (Taken attends.inputs) a.left b.left c.left stays attends.takes;
  unknown = attends.unknown;
  ends = by ending attends.inputs attends.ends;
}
  where
    refused : (inputs : List ClientInput) (cause : ProcError) → attend.EndsRefused e inputs b c cause → attend.EndsRefused e inputs a c cause
    refused [] cause ends = ends
    refused (input ∷ past) cause (is, adds) = (is, adds-later a.offered b.offered c.offered _ kept adds)

    by : (ending : Ending) (inputs : List ClientInput) → attend.ClientEnds e until inputs b c ending → attend.ClientEnds e until inputs a c ending
    by (Knows so) inputs (is, over, adds) = (is, over, adds-later a.offered b.offered c.offered _ kept adds)
    by (Refused cause) inputs ends = refused inputs cause ends
    by LinkFault inputs (missing, is, adds) =
        (missing ∙ ap (λ n. min (attend.missed_past n inputs + MOST_MISSED) (2 ^ 64 - 1)) same, is, adds-later a.offered b.offered c.offered _ kept adds)
    by Memory inputs front = front-later a.offered b.offered c.offered _ kept front
