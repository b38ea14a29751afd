-- One turn after the other.
use Rattle.std.proofs.Common.{◌≡◌, ℕ, Bool, length, Result, Ok, Err, ◌+◌, ◌-◌, ◌^◌, ◌<◌, ◌≤◌, List, [], ◌∷◌, ◌++◌, Option, Some, None, IfSome, refl, sym, ap, subst, ◌∙◌, arith}
use Rattle.std.specs.Prelude.{min, count_by}
use Rattle.std.specs.Int.{from_bool}
use Rattle.std.specs.Io.KnownBytes.{Appends}
use Rattle.cs_base.specs.Answers.{AppendsFront}
use Rattle.cs_base.specs.Outside.{HasCause}
use Rattle.cs_ledger.specs.Ledger.{Bytes}
use Rattle.cs_node_rules.specs.Site.{Input, Mark, Site, View, view_after}
use Rattle.cs_node_rules.specs.Trail.{event_marks}
use Rattle.cs_io.specs.Told.{Changes, Stays}
use Rattle.cs_io.specs.Link.{Offers}
use Rattle.cs_io.specs.declared.link.MemInput.{MemInput}
use Rattle.cs_serve.specs.declared.ending.End.{End}
use Rattle.cs_serve.specs.declared.ending.End.TheVariants.{Done, Ended, LinkFault, WriteFault, Memory}
use Rattle.cs_serve.specs.declared.receiving.TheConstants.{MOST_MISSED}
use Rattle.cs_serve.specs.Giving.{given_of, is_tick, TakesInputs, Gives, GivesFront}
use Rattle.cs_serve.specs.Serving.{trail, offers_of, lines_of, NodeGivesAll, GivesPart, missed_past, NodeEnds, ServesInputs, Serves, TakesTurn, GivesBy, NodeAnswers}
use Rattle.cs_io.specs.Until.{IsOver, AreEnough, AreNeeded}
use Rattle.cs_io.specs.declared.until.Until.{Until}
use Rattle.cs_io.specs.laws.Told.{stays-same, changes-after, changes-before}
use Rattle.cs_io.specs.Outside.{LinkTold, Beside}
use Rattle.cs_serve.specs.laws.Taken.{ticks-more, over-by, still-by, needed-more}
use Rattle.cs_serve.proofs.Giving.{Gives-nil, Gives-more, GivesFront-all, GivesFront-after, Takes-nil, Takes-more, Takes-one}
use Rattle.cs_serve.proofs.Trails.{me-same, offers-append, bytes-append, after, trail-append, after-append, trail-one}

-- a fact of the node that is left
pub left-is : {C : Type 0} (P Q : C → Type 0) → ((core : C) → P core → Q core) → (left : Option C) → IfSome left P → IfSome left Q
left-is P Q each None is = tt
left-is P Q each (Some core) is = each core is

missed-more : (a b : ℕ) (first later : List Input) → b ≡ missed_past a first → missed_past b later ≡ missed_past a (later ++ first)
missed-more a b first [] is = is
missed-more a b first (input ∷ later) is = refl

module _ {C M : Type 0} (stands : C → View M → Type 0) (site : Site M) where
  -- ---- what is given

  pub all-more : (v : View M) (first later : List Input) (a b c : Beside LinkTold) → NodeGivesAll site v (trail site v first) a b → NodeGivesAll site (after site v first) (trail site (after site v first) later) b c → NodeGivesAll site v (trail site v (later ++ first)) a c
  all-more v first later a b c p q =
      let w = after site v first in
      let P : List (Mark M) → Type 0 = λ marks. NodeGivesAll site v marks a c in
      let O : Offers → Type 0 = λ offers. Gives offers (lines_of site v (trail site w later ++ trail site v first)) a c in
      let L : Bytes → Type 0 = λ lines. Gives (offers_of site v (trail site v first) ++ offers_of site w (trail site w later)) lines a c in
      let me = me-same site (trail site v first) v in
      subst P (sym (trail-append site v later first))
      (subst O (sym (offers-append site v w (trail site w later) (trail site v first) me))
      (subst L (sym (bytes-append site v w (trail site w later) (trail site v first) me))
      (Gives-more a b c (offers_of site v (trail site v first)) (offers_of site w (trail site w later)) (lines_of site v (trail site v first)) (lines_of site w (trail site w later)) p q)))

  part-more : (v : View M) (first later : List Input) (a b c : Beside LinkTold) → NodeGivesAll site v (trail site v first) a b → GivesPart site (after site v first) (trail site (after site v first) later) b c → GivesPart site v (trail site v (later ++ first)) a c
  part-more v first later a b c p q =
      let w = after site v first in
      let P : List (Mark M) → Type 0 = λ marks. GivesPart site v marks a c in
      let O : Offers → Type 0 = λ offers. GivesFront offers (lines_of site v (trail site w later ++ trail site v first)) a c in
      let L : Bytes → Type 0 = λ lines. GivesFront (offers_of site v (trail site v first) ++ offers_of site w (trail site w later)) lines a c in
      let me = me-same site (trail site v first) v in
      subst P (sym (trail-append site v later first))
      (subst O (sym (offers-append site v w (trail site w later) (trail site v first) me))
      (subst L (sym (bytes-append site v w (trail site w later) (trail site v first) me))
      (GivesFront-after a b c (offers_of site v (trail site v first)) (offers_of site w (trail site w later)) (lines_of site v (trail site v first)) (lines_of site w (trail site w later)) p q)))

  -- ---- turns

  -- none was taken yet
  pub passes-none : (v : View M) (a b : Beside LinkTold) (core : C) → stands core v → Stays a.told.left b.told.left → b.told.missed ≡ a.told.missed → Gives [] [] a b → ServesInputs stands site v [] a b (Done, Some core)
  passes-none v a b core is left missed gives = record {
    takes = Takes-nil a b left;
    ends = (missed, gives);
    after = is;
  }

  ends-more : (v : View M) (first later : List Input) (a b c : Beside LinkTold) → NodeEnds site v first a b Done → (end : End) → NodeEnds site (after site v first) later b c end → NodeEnds site v (later ++ first) a c end
  ends-more v first later a b c p Done q = (q.0 ∙ missed-more a.told.missed b.told.missed first later p.0, all-more v first later a b c p.1 q.1)
  ends-more v first later a b c p Ended q = (q.0, all-more v first later a b c p.1 q.1)
  ends-more v first later a b c p LinkFault q =
      (q.0 ∙ ap (λ k. min (k + MOST_MISSED) (2 ^ 64 - 1)) (missed-more a.told.missed b.told.missed first later p.0), all-more v first later a b c p.1 q.1)
  ends-more v first later a b c p WriteFault q = part-more v first later a b c p.1 q
  ends-more v first later a b c p Memory q = part-more v first later a b c p.1 q

  -- then some more
  pub passes-more : (v : View M) (first later : List Input) (a b c : Beside LinkTold) (core : C) (result : End × Option C) → ServesInputs stands site v first a b (Done, Some core) → ServesInputs stands site (after site v first) later b c result → ServesInputs stands site v (later ++ first) a c result
  passes-more v first later a b c core result p q = record {
    takes = Takes-more a b c first later p.takes q.takes;
    ends = ends-more v first later a b c p.ends result.0 q.ends;
    after = left-is (λ core. stands core (after site (after site v first) later)) (λ core. stands core (after site v (later ++ first)))
        (λ core is. subst (stands core) (sym (after-append site v later first)) is) result.1 q.after;
  }

  -- nothing was taken, for want of memory
  pub serves-nothing : (v : View M) (until : Until) (a : Beside LinkTold) (core : C) → stands core v → Serves stands site v until a a (Memory, Some core)
  serves-nothing v until a core is = record {
    inputs = [];
    needed = tt;
    enough = λ done. absurd (let q : Memory ≡ Done = done in cc);
    passes = record {
      takes = Takes-nil a a (stays-same a.told.left);
      ends = GivesFront-all a a [] [] (Gives-nil a);
      after = is;
    };
  }

  -- ---- one turn

  -- nothing was left
  pub turn-ended : (v : View M) (a b : Beside LinkTold) (core : C) → stands core v → Stays a.told.left b.told.left → IfSome b.told.left (λ left. left ≡ []) → Gives [] [] a b → TakesTurn stands site v a b (Err (Ended, Some core))
  turn-ended v a b core is left none gives = record {
    inputs = [];
    one = omega arith;
    passes = record { takes = Takes-nil a b left; ends = (none, gives); after = is };
  }

  -- too many receives failed
  pub turn-failed : (v : View M) (a b : Beside LinkTold) (core : C) → stands core v → Stays a.told.left b.told.left → b.told.missed ≡ min (a.told.missed + MOST_MISSED) (2 ^ 64 - 1) → Gives [] [] a b → TakesTurn stands site v a b (Err (LinkFault, Some core))
  turn-failed v a b core is left missed gives = record {
    inputs = [];
    one = omega arith;
    passes = record { takes = Takes-nil a b left; ends = (missed, gives); after = is };
  }

  ends-one : (v : View M) (input : Input) (a b : Beside LinkTold) → b.told.missed ≡ 0 → (end : End) → GivesBy site v (event_marks site v input) a b end → NodeEnds site v (input ∷ []) a b end
  ends-one v input a b missed Done gives = (missed, subst (λ (marks : List (Mark M)). NodeGivesAll site v marks a b) (sym (trail-one site v input)) gives)
  ends-one v input a b missed Ended gives = absurd gives
  ends-one v input a b missed LinkFault gives = absurd gives
  ends-one v input a b missed WriteFault gives = subst (λ (marks : List (Mark M)). GivesPart site v marks a b) (sym (trail-one site v input)) gives
  ends-one v input a b missed Memory gives = subst (λ (marks : List (Mark M)). GivesPart site v marks a b) (sym (trail-one site v input)) gives

  -- an input was taken and answered
  passes-one : (v : View M) (input : Input) (a b : Beside LinkTold) (result : End × Option C) → b.told.missed ≡ 0 → TakesInputs (input ∷ []) a b → NodeAnswers stands site v input a b result → ServesInputs stands site v (input ∷ []) a b result
  passes-one v input a b result missed takes answers = record {
    takes = takes;
    ends = ends-one v input a b missed result.0 answers.gives;
    after = left-is (λ core. stands core (view_after site (event_marks site v input) v)) (λ core. stands core (after site v (input ∷ [])))
        (λ core is. subst (λ (marks : List (Mark M)). stands core (view_after site marks v)) (sym (trail-one site v input)) is) result.1 answers.after;
  }

  -- a link that takes an input was offered nothing
  part-later : (v : View M) (marks : List (Mark M)) (a b c : Beside LinkTold) → Stays a.told.offered b.told.offered → b.written ≡ a.written → GivesPart site v marks b c → GivesPart site v marks a c
  part-later v marks a b c stays same gives =
      let (front, rest, whole, adds) = gives.offered in
      record {
        offered = (front, rest, whole, changes-after (λ (before now : Offers). now ≡ before ++ front) a.told.offered b.told.offered c.told.offered stays adds);
        written = subst (λ (w : Option Bytes). AppendsFront w c.written (lines_of site v marks)) same gives.written;
      }

  gives-later : (v : View M) (marks : List (Mark M)) (a b c : Beside LinkTold) → Stays a.told.offered b.told.offered → b.written ≡ a.written → (end : End) → GivesBy site v marks b c end → GivesBy site v marks a c end
  gives-later v marks a b c stays same Done gives = record {
    offered = changes-after (λ (before now : Offers). now ≡ before ++ offers_of site v marks) a.told.offered b.told.offered c.told.offered stays gives.offered;
    written = subst (λ (w : Option Bytes). Appends w c.written (lines_of site v marks)) same gives.written;
  }
  gives-later v marks a b c stays same Ended gives = gives
  gives-later v marks a b c stays same LinkFault gives = gives
  gives-later v marks a b c stays same WriteFault gives = part-later v marks a b c stays same gives
  gives-later v marks a b c stays same Memory gives = part-later v marks a b c stays same gives

  answers-later : (v : View M) (input : Input) (a b c : Beside LinkTold) (result : End × Option C) → Stays a.told.offered b.told.offered → b.written ≡ a.written → NodeAnswers stands site v input b c result → NodeAnswers stands site v input a c result
  answers-later v input a b c result stays same answers = record {
    gives = gives-later v (event_marks site v input) a b c stays same result.0 answers.gives;
    after = answers.after;
  }

  -- the first that was left is gone
  takes-later : (a b c : Beside LinkTold) (first : MemInput) → Changes (λ (before now : List MemInput). before ≡ first ∷ now) a.told.left b.told.left → Stays b.told.left c.told.left → TakesInputs (given_of first ∷ []) a c
  takes-later a b c first gone stays = Takes-one a c first (changes-before (λ (before now : List MemInput). before ≡ first ∷ now) a.told.left b.told.left c.told.left gone stays)

  -- the first input that was left was taken and answered
  pub passes-answer : (v : View M) (first : MemInput) (a b c : Beside LinkTold) (result : End × Option C) → Changes (λ (before now : List MemInput). before ≡ first ∷ now) a.told.left b.told.left → b.told.missed ≡ 0 → Stays a.told.offered b.told.offered → b.written ≡ a.written
      → Stays b.told.left c.told.left → c.told.missed ≡ b.told.missed → NodeAnswers stands site v (given_of first) b c result → ServesInputs stands site v (given_of first ∷ []) a c result
  passes-answer v first a b c result gone missed offered written left same answers =
      passes-one v (given_of first) a c result (same ∙ missed) (takes-later a b c first gone left) (answers-later v (given_of first) a b c result offered written answers)

-- ---- so many turns

-- so many inputs were taken, so many of them ticks, none of them too many
pub record SoFar {C M : Type 0} (stands : C → View M → Type 0) (site : Site M) (v : View M) (until : Until) (turns ticks : ℕ) (old new : Beside LinkTold) (core : C) : Type 0 where
  pub inputs : List Input
  pub all : length inputs ≡ turns
  pub ticked : count_by is_tick inputs ≡ ticks
  pub needed : AreNeeded is_tick until inputs
  pub passes : ServesInputs stands site v inputs old new (Done, Some core)

module _ {C M : Type 0} (stands : C → View M → Type 0) (site : Site M) (v : View M) (until : Until) where
  pub begins : (a : Beside LinkTold) (core : C) → stands core v → SoFar stands site v until 0 0 a a core
  begins a core is = record {
    inputs = [];
    all = refl;
    ticked = refl;
    needed = tt;
    passes = passes-none stands site v a a core is (stays-same a.told.left) refl (Gives-nil a);
  }

  -- they were enough
  pub done : (turns ticks : ℕ) (a b : Beside LinkTold) (core : C) → IsOver until turns ticks → SoFar stands site v until turns ticks a b core → Serves stands site v until a b (Done, Some core)
  done turns ticks a b core over so = record {
    inputs = so.inputs;
    needed = so.needed;
    enough = λ is. over-by is_tick until so.inputs turns ticks so.all so.ticked over;
    passes = so.passes;
  }

  module _ (turns ticks : ℕ) (a b c : Beside LinkTold) (core : C) (still : IsOver until turns ticks → ⊥) (so : SoFar stands site v until turns ticks a b core) where
    more-needed : (later : List Input) → length later ≤ 1 → AreNeeded is_tick until (later ++ so.inputs)
    more-needed later few = needed-more is_tick until later so.inputs few so.needed (still-by is_tick until so.inputs turns ticks so.all so.ticked still)

    -- one turn more
    pub goes-on : (next : C) (ticked : Bool) (more : ℕ) → more ≡ from_bool ticked → ((w : View M) → stands core w → TakesTurn stands site w b c (Ok (next, ticked))) → SoFar stands site v until (turns + 1) (ticks + more) a c next
    goes-on next ticked more counted turn =
        let p = turn (after site v so.inputs) so.passes.after in
        let input = p.one.0 in
        let one : p.inputs ≡ input ∷ [] = p.one.1 in
        let q = subst (λ (later : List Input). ServesInputs stands site (after site v so.inputs) later b c (Done, Some next)) one p.passes in
        record {
          inputs = input ∷ so.inputs;
          all = (let all = so.all in omega arith);
          ticked = ticks-more is_tick input so.inputs ticks more ticked so.ticked p.one.2 counted;
          needed = more-needed (input ∷ []) (omega arith);
          passes = passes-more stands site v so.inputs (input ∷ []) a b c core (Done, Some next) so.passes q;
        }

    -- it ended
    pub ends : (ended : End × Option C) → (ended.0 ≡ Done → ⊥) → ((w : View M) → stands core w → TakesTurn stands site w b c (Err ended)) → Serves stands site v until a c ended
    ends ended other turn =
        let p = turn (after site v so.inputs) so.passes.after in
        record {
          inputs = p.inputs ++ so.inputs;
          needed = more-needed p.inputs p.one;
          enough = λ is. absurd (other is);
          passes = passes-more stands site v so.inputs p.inputs a b c core ended so.passes p.passes;
        }

-- ---- counts

pub le_same : (n : ℕ) → n ≤ n
le_same n = omega arith

pub le_more : (a b c : ℕ) → a ≤ b → b ≤ c → a ≤ c
le_more a b c first second = omega arith

-- faults that came later than some
pub cause_later : {P Q : Type 0} (a b c : ℕ) → a ≤ b → HasCause b c P → (Q → P) → HasCause a c Q
cause_later a b c first cause because = record {
  later = (let second = cause.later in omega arith);
  cause = λ failed. let rose = cause.cause (because failed) in omega arith;
}
