use Rattle.std.proofs.Common.{◌≡◌, length, sym, ◌∙◌, eqb-true, arith}
use Rattle.std.proofs.lemmas.Result.{IfOk-weaker}
use Rattle.cs_log.proofs.LaterSlots.{new_shows, none_yet}
use Rattle.cs_log.proofs.later.open_first.Goals as goal

pub returns-then-is_empty : goal.returns-then-is_empty
returns-then-is_empty c = λ s f me views show.
    let items = c.args.later.now.items in
    let empty : length items ≡ 0 = (let kept = c.args.later.now.ok in let zero = eqb-true _ 0 (sym c.if-is_empty.ensures) in omega arith) in
    let none = none_yet items s c.args.n empty show in
    IfOk-weaker c.new.result _ _ (λ slot shows. (new_shows slot s c.args.n (λ t a b v e. shows t (a ∙ f) (b ∙ me) v e) views none.0, none.1)) c.new.ensures.shows
