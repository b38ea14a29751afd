use Rattle.std.proofs.Common.{◌≡◌, ◌∙◌, ◌<◌, ◌==◌, ◌||◌, ap, sym, subst, arith}
use Rattle.cs_quorum.specs.Marks.{Marks, members_of, is_marked}
use Rattle.cs_quorum.proofs.Masks.{mark_marks, marked_below}
use Rattle.cs_quorum.proofs.tally.Tally.mark.Goals as goal

pub invariant_of-self : goal.invariant_of-self
invariant_of-self c =
    let members : c.self.inside.members ≡ members_of c.args.self.now = ap members_of c.self.view_is in
    let less : c.args.member < c.self.inside.members = omega (arith, members, c.requires) in
    record {
      few = c.self.invariant.few;
      below = marked_below c.self.inside.mask c.args.member c.self.inside.members less c.self.invariant.below;
    }

pub returns-clause-marked : goal.returns-clause-marked
returns-clause-marked c other =
    let members : c.self.inside.members ≡ members_of c.args.self.now = ap members_of c.self.view_is in
    let few : c.args.member < 16 = omega (arith, members, c.requires, c.self.invariant.few) in
    mark_marks c.self.inside.mask c.args.member other few
    ∙ ap (λ (marks : Marks). (other == c.args.member) || is_marked marks other) c.self.view_is
