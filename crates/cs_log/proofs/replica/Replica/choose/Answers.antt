use Rattle.std.proofs.Common.{◌≡◌, ◌+◌, sym, subst, arith}
use Rattle.cs_order_rules.specs.Facts.{open_slot}
use Rattle.cs_order_open.specs.Shows.{ShowsSlot}
use Rattle.cs_log.specs.Later.{ShowLater}
use Rattle.cs_log.specs.Replicas.{KeptEntries, kept}
use Rattle.cs_log.proofs.Mirroring.{next_is, chooses}
use Rattle.cs_log.proofs.replica.Replica.choose.Goals as goal

pub returns-clause-call : goal.returns-clause-call
returns-clause-call c = λ s p.
    let k = kept c.args.self.now in
    let log : KeptEntries = record { first = c.push.new.self.first; entries = c.push.new.self.entries.items } in
    let current = c.in_ok-current.current in
    let rest = c.open_first.new.later.items in
    let is : c.open_slot-open.result ≡ open_slot s + 1 = (let a = next_is k s p in let b = c.in_ok-push.ensures.next in let opened = c.open_slot-open.ensures.slot in omega arith) in
    let shown = c.in_ok-current.ensures s (sym p.f) (sym p.me) p.views (subst (λ j. ShowLater k.later s j) (sym is) p.later) in
    chooses k s c.args.entry log current rest p (c.in_ok-push.ensures.keeps s.log p.log) c.requires.room (subst (λ j. ShowsSlot current s j 0) is shown.0) (subst (λ j. ShowLater rest s (j + 1)) is shown.1)
