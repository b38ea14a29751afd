use Rattle.std.proofs.Common.{◌≡◌, ◌++◌, [], ◌∷◌, length, rules, arith}
use Rattle.cs_journal.specs.Journal.{head}
use Rattle.cs_journal.proofs.Crashes.{made_kept}
use Rattle.cs_journal.proofs.journal.Journal.make.Goals as goal

pub returns-clause-kept : goal.returns-clause-kept
returns-clause-kept g c = λ some.
    let bytes = c.deref.result.now in
    let size : length c.args.id.now ≡ 32 = omega arith in
    let is : bytes ≡ head c.args.id.now ++ 0 ∷ [] = search rules in
    made_kept g.D.Disk.content g.D.Disk.may_leave c.args.id.now bytes c.args.disk.now c.write_through.new.disk size is some c.in_ok-write_through.ensures.written c.in_ok-write_through.ensures.durable
