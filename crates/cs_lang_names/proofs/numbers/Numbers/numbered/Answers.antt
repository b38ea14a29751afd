use Rattle.std.proofs.Common.{◌≡◌, ◌∷◌, [], ◌++◌, None, sym, subst}
use Rattle.cs_lang_names.specs.Numbering.{number_of, AreDistinct}
use Rattle.cs_lang_names.proofs.Numbering.{one_more_distinct}
use Rattle.cs_lang_names.proofs.numbers.Numbers.numbered.Goals as goal

pub invariant_of-self-in-None : goal.invariant_of-self-in-None
invariant_of-self-in-None c =
    let none : number_of c.args.name.now c.self.inside.names ≡ None = cc in
    let name : c.from_vec.result ≡ c.args.name.now = cc (c.in_ok-copied-in-None.ensures.items) in
    let more : c.push.new.self ≡ c.self.inside.names ++ c.args.name.now ∷ [] = cc (c.in_ok-push-in-None.ensures.ok) in
    subst AreDistinct (sym more) (one_more_distinct c.self.inside.names c.args.name.now c.self.invariant none)
